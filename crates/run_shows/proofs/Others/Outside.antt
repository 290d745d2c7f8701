-- What happens to pairs outside of a map, and to tables that its root has passed, is nothing to the map.
use Rattle.std.specs.Prelude.{◌≡◌, ℕ, zero, suc, ◌<◌, ◌≤◌, ◌==◌, Bool, true, false, List, [], ◌∷◌, ◌++◌, length, filter, find, map, if◌then◌else◌, ◌⊎◌}
use Rattle.std.proofs.Common.{refl, ap, sym, ◌∙◌, arith, inl, inr}
use Rattle.std.proofs.lemmas.Bool.{eq-eqb, cases_eq}
use Rattle.run_effects.specs.Given.RunsDeclared.effect.TableId.{TableId}
use Rattle.run_effects.specs.Given.SchedulesEffects.{all_at, at_stage}
use Rattle.run_effects.specs.Given.SchedulesLists.{put, is_among}
use Rattle.run_effects.specs.Given.SchedulesMoment.{Place, InMap, Stage, TableThere, Moment}
use Rattle.run_effects.specs.Given.SchedulesThings.{same_table}
use Rattle.run_effects.specs.Given.SchedulesViews.{is_in_map, is_in_a_map, behind}
use Rattle.run_effects.specs.Given.RuleChart.{Chart}
use Rattle.many_maps.specs.Maps.{Standing}
use Rattle.run_effects.specs.Effects.Known.{Known}
use Rattle.run_shows.specs.Follows.Maps.{table_of, shape_at, tables_to, RefinesMap}
use Rattle.run_shows.proofs.Follows.Alike.{AlikePairs, put_here, put_elsewhere}
use Rattle.run_shows.proofs.Follows.Onward.{blocks_same, pairs_same, pairs_on}
use Rattle.run_shows.specs.Others.Gone.{WaitOutside}

-- what is in no map is not in this one
pub not_in : (n : ℕ) (p : Place) → is_in_a_map p ≡ false → is_in_map n p ≡ false
not_in n (InMap k) e = absurd (cc e)
not_in n _ e = refl

module _ {K V : Type 0} (n : ℕ) (m v : Moment K V) where
  -- a pair is where it was, or in this map neither before nor after
  abbrev pub StaysOut : ℕ → Type 0
  StaysOut k = (v.place k ≡ m.place k) ⊎ ((is_in_map n (m.place k) ≡ false) × (is_in_map n (v.place k) ≡ false))

  pub pairs_outside : ((k : ℕ) → StaysOut k) → v.born ≡ m.born → v.stored ≡ m.stored → AlikePairs n m v
  pairs_outside out born stored = record {
    place = λ k l. elim (out k) as (λ _. is_in_map n (v.place k) ≡ is_in_map n (m.place k)) [
      | inl e ↦ ap (is_in_map n) e
      | inr e ↦ e.1 ∙ sym e.0
    ];
    all = λ k at. elim (out k) as (λ _. m.place k ≡ InMap n) [
      | inl e ↦ sym e ∙ at
      | inr e ↦ absurd (let here : true ≡ false = sym (eq-eqb n n refl) ∙ sym (ap (is_in_map n) at) ∙ e.1 in cc here)
    ];
    born = λ k l. ap (λ (f : ℕ → TableId). (f k).map) born;
    stored = let e = ap length stored in omega (arith, e);
  }

  -- one pair has gone from one place outside to another one
  pub put_outside : (x : ℕ) (p : Place) → is_in_map n (m.place x) ≡ false → is_in_map n p ≡ false → v.place ≡ put x p m.place → (k : ℕ) → StaysOut k
  put_outside x p was is place k = elim (cases_eq k x) as (λ _. StaysOut k) [
    | inl e ↦ inr (ap (λ (y : ℕ). is_in_map n (m.place y)) e ∙ was, ap (λ (f : ℕ → Place). is_in_map n (f k)) place ∙ ap (is_in_map n) (put_here x p m.place k e) ∙ is)
    | inr ne ↦ inl (ap (λ (f : ℕ → Place). f k) place ∙ put_elsewhere x p m.place k ne)
  ]

  -- all that waited behind a table has
  pub all_outside : (t : TableId) (p : Place) → WaitOutside m t → is_in_map n p ≡ false → v.place ≡ all_at p (behind t m.deferred) m.place → (k : ℕ) → StaysOut k
  all_outside t p out is place k = by (is_among k (behind t m.deferred)) refl
    where
      now : v.place k ≡ all_at p (behind t m.deferred) m.place k
      now = ap (λ (f : ℕ → Place). f k) place

      by : (q : Bool) → is_among k (behind t m.deferred) ≡ q → StaysOut k
      by true e = inr (not_in n (m.place k) (out k e), ap (is_in_map n) (now ∙ ap (λ q. if q then p else m.place k) e) ∙ is)
      by false e = inl (now ∙ ap (λ q. if q then p else m.place k) e)

-- a table comes to another stage
module _ (to : Stage) (t : TableId) where
  abbrev staged : TableThere → TableThere
  staged = at_stage t to

  same_one : (u : TableThere) → (staged u).table ≡ u.table
  same_one u = by (same_table u.table t)
    where
      by : (q : Bool) → (if q then record u { stage = to } else u).table ≡ u.table
      by true = refl
      by false = refl

  filter_staged : (n : ℕ) (us : List TableThere) → filter (λ u. u.table.map == n) (map staged us) ≡ map staged (filter (λ u. u.table.map == n) us)
  filter_staged n [] = refl
  filter_staged n (u ∷ us) = by (u.table.map == n) refl (filter_staged n us)
    where
      by : (q : Bool) → (u.table.map == n) ≡ q → filter (λ x. x.table.map == n) (map staged us) ≡ map staged (filter (λ x. x.table.map == n) us)
          → filter (λ x. x.table.map == n) (map staged (u ∷ us)) ≡ map staged (filter (λ x. x.table.map == n) (u ∷ us))
      by true e rest =
          ap (λ z. if z then staged u ∷ filter (λ x. x.table.map == n) (map staged us) else filter (λ x. x.table.map == n) (map staged us)) (ap (λ (x : TableId). x.map == n) (same_one u) ∙ e)
          ∙ ap (λ xs. staged u ∷ xs) rest ∙ ap (λ z. map staged (if z then u ∷ filter (λ x. x.table.map == n) us else filter (λ x. x.table.map == n) us)) (sym e)
      by false e rest =
          ap (λ z. if z then staged u ∷ filter (λ x. x.table.map == n) (map staged us) else filter (λ x. x.table.map == n) (map staged us)) (ap (λ (x : TableId). x.map == n) (same_one u) ∙ e)
          ∙ rest ∙ ap (λ z. map staged (if z then u ∷ filter (λ x. x.table.map == n) us else filter (λ x. x.table.map == n) us)) (sym e)

  module _ {K : Type 0} (n : ℕ) (c : Chart K) (stage : ℕ → Stage) where
    abbrev pub stage_then : ℕ → Stage
    stage_then u = if same_table (table_of n u) t then to else stage u

    map_append : (xs ys : List TableThere) → map staged (xs ++ ys) ≡ map staged xs ++ map staged ys
    map_append [] ys = refl
    map_append (x ∷ xs) ys = ap (λ zs. staged x ∷ zs) (map_append xs ys)

    abbrev there_at : ℕ → Stage → TableThere
    there_at u it = record { table = table_of n u; shape = shape_at n c u; stage = it }

    one_staged : (u : ℕ) → ◌≡◌ {A = TableThere} (staged (there_at u (stage u))) (there_at u (stage_then u))
    one_staged u = by (same_table (table_of n u) t)
      where
        by : (q : Bool) → ◌≡◌ {A = TableThere} (if q then there_at u to else there_at u (stage u)) (there_at u (if q then to else stage u))
        by true = refl
        by false = refl

    tables_staged : (many : ℕ) → map staged (tables_to n c stage many) ≡ tables_to n c stage_then many
    tables_staged zero = refl
    tables_staged (suc u) =
        map_append (tables_to n c stage u) (there_at u (stage u) ∷ [])
        ∙ ap (λ xs. xs ++ staged (there_at u (stage u)) ∷ []) (tables_staged u)
        ∙ ap (λ x. tables_to n c stage_then u ++ x ∷ []) (one_staged u)

-- the map is shown where a table comes to another stage that is none of those from its root on
module _ {K V : Type 0} (n : ℕ) (number : ℕ → ℕ) (s : Standing K) (m v : Moment K V) (known : Known) (to : Stage) (t : TableId)
    (pairs : AlikePairs n m v) (maps : v.maps ≡ m.maps) (tables : v.tables ≡ map (at_stage t to) m.tables)
    (passed : (u : ℕ) → s.chart.first ≤ u → u < s.chart.past → same_table (table_of n u) t ≡ false) where
  pub table_staged : RefinesMap n number s m known → RefinesMap n number s v known
  table_staged h = record {
    there = record { there = h.there.there; is = ap (λ fs. find (λ f. f.number == n) fs) maps ∙ h.there.is; root = h.there.root; mode = h.there.mode; first = h.there.first };
    pairs = pairs_on n number s s m v known known (blocks_same s.chart s.blocks) (λ b lasting. refl) (pairs_same s.chart) pairs h.pairs;
    tables = record {
      roles = h.tables.roles;
      stage = stage_then to t n s.chart h.tables.stage;
      listed = ap (λ ts. filter (λ x. x.table.map == n) ts) tables ∙ filter_staged to t n m.tables ∙ ap (map (at_stage t to)) h.tables.listed ∙ tables_staged to t n s.chart h.tables.stage s.chart.past;
      linked = λ u l made. ap (λ q. if q then to else h.tables.stage u) (passed u l made) ∙ h.tables.linked u l made;
    };
    counter = h.counter;
  }
