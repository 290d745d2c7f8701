-- What is handed over has left its map: each map is shown as before.
use Rattle.std.specs.Prelude.{◌≡◌, ℕ, zero, suc, ◌<◌, ◌≤◌, ◌==◌, Bool, true, false, List, [], ◌∷◌, ◌++◌, length, filter, find, map, Option, Some, None, if◌then◌else◌}
use Rattle.std.proofs.Common.{refl, ap, sym, subst, ◌∙◌, arith, inl, inr}
use Rattle.std.proofs.lemmas.Bool.{cases_eq}
use Rattle.run_effects.specs.Given.RunsDeclared.effect.Effect.{Effect}
use Rattle.run_effects.specs.Given.RunsDeclared.effect.Effect.TheVariants.{Deferred, Retired}
use Rattle.run_effects.specs.Given.RunsDeclared.effect.TableId.{TableId}
use Rattle.run_effects.specs.Given.RunsDeclared.effect.Thing.{Thing}
use Rattle.run_effects.specs.Given.RunsDeclared.effect.Thing.TheVariants.{APair, ATable}
use Rattle.run_effects.specs.Given.SchedulesEntry.{acting}
use Rattle.run_effects.specs.Given.SchedulesEffects.{at_stage, stored_by, with_effect, with_effects}
use Rattle.run_effects.specs.Given.SchedulesLists.{put}
use Rattle.run_effects.specs.Given.SchedulesMoment.{Place, InMap, Handed, Behind, IsLinked, IsRetired, Stage, MapThere, TableThere, UnderWay, Moment}
use Rattle.run_effects.specs.Given.SchedulesThings.{same_table}
use Rattle.run_effects.specs.Given.SchedulesViews.{is_in_map, is_in_a_map, map_at}
use Rattle.run_effects.specs.Given.RuleChart.{Chart}
use Rattle.run_effects.specs.Given.RuleWords.{Blocks}
use Rattle.many_maps.specs.Given.CallersSights.{Visible}
use Rattle.many_maps.specs.Maps.{Standing}
use Rattle.run_effects.specs.Effects.Known.{Known}
use Rattle.run_shows.specs.Follows.Maps.{table_of, shape_at, tables_to, RefinesMap}
use Rattle.run_shows.specs.Follows.Steps.{HandTheirs}
use Rattle.run_shows.proofs.Follows.Alike.{AlikePairs, IsAlike, alike_same, calm_still, still_all, put_here, put_elsewhere}
use Rattle.run_shows.proofs.Follows.Onward.{StaysBlocks, tables_same, pairs_same, pairs_on, map_on}
use Rattle.run_shows.proofs.Follows.Rows.{HandsOn, IsStill, Puts, Retires}
use Rattle.run_shows.proofs.Others.Outside.{not_in}

-- what is handed over stores no pair
hands_stored : {K V : Type 0} (o : Option (UnderWay K V)) (n : ℕ) (t : TableId) (x : Thing) (stored : List (K × V)) → (stored_by o (Deferred n t) stored ≡ stored) × (stored_by o (Retired x) stored ≡ stored)
hands_stored None n t x stored = (refl, refl)
hands_stored (Some c) n t x stored = (refl, refl)

module _ {K V : Type 0} (caller : Option (List ℕ)) (acted : ℕ) (m : Moment K V) where
  -- a pair goes from one place outside its map to another
  goes_on : (of n : ℕ) (p : Place) → is_in_a_map (m.place n) ≡ false → is_in_map of p ≡ false → (p ≡ InMap of → ⊥) → (v : Moment K V) → v.place ≡ put n p m.place → v.born ≡ m.born → v.maps ≡ m.maps
      → v.tables ≡ m.tables → v.stored ≡ m.stored → IsAlike of m v
  goes_on of n p out none not_here v place born maps tables stored = record {
    pairs = record {
      place = λ k l. ap (λ (f : ℕ → Place). is_in_map of (f k)) place ∙ (elim (cases_eq k n) as (λ _. is_in_map of (put n p m.place k) ≡ is_in_map of (m.place k)) [
        | inl e ↦ ap (is_in_map of) (put_here n p m.place k e) ∙ none ∙ sym (ap (λ (x : ℕ). is_in_map of (m.place x)) e ∙ not_in of (m.place n) out)
        | inr ne ↦ ap (is_in_map of) (put_elsewhere n p m.place k ne)
      ]);
      all = λ k at. elim (cases_eq k n) as (λ _. m.place k ≡ InMap of) [
        | inl e ↦ absurd (not_here (sym (put_here n p m.place k e) ∙ ap (λ (f : ℕ → Place). f k) (sym place) ∙ at))
        | inr ne ↦ sym (put_elsewhere n p m.place k ne) ∙ ap (λ (f : ℕ → Place). f k) (sym place) ∙ at
      ];
      born = λ k l. ap (λ (f : ℕ → TableId). (f k).map) born;
      stored = let e = ap length stored in omega (arith, e);
    };
    tables = record {
      there = ap (find (λ f. f.number == of)) maps;
      tables = ap (filter (λ t. t.table.map == of)) tables;
    };
  }

  pub deferred_alike : (of n : ℕ) (t : TableId) → is_in_a_map (m.place n) ≡ false → IsAlike of m (with_effect caller (Some acted) (Deferred n t) m)
  deferred_alike of n t out = goes_on of n Behind out refl (λ e. cc e) (with_effect caller (Some acted) (Deferred n t) m) refl refl refl refl (hands_stored (acting caller m) n t (ATable t) m.stored).0

  pub retired_alike : (of n : ℕ) → is_in_a_map (m.place n) ≡ false → IsAlike of m (with_effect caller (Some acted) (Retired (APair n)) m)
  retired_alike of n out =
      goes_on of n Handed out refl (λ e. cc e) (with_effect caller (Some acted) (Retired (APair n)) m) refl refl refl refl (hands_stored (acting caller m) n (record { map = 0; turn = 0 }) (APair n) m.stored).1

-- a table is retired
module _ (t : TableId) where
  abbrev retires : TableThere → TableThere
  retires = at_stage t IsRetired

  same_place : (u : TableThere) → (retires u).table ≡ u.table
  same_place u = by (same_table u.table t)
    where
      by : (q : Bool) → (if q then record u { stage = IsRetired } else u).table ≡ u.table
      by true = refl
      by false = refl

  -- the tables of a map stay those
  filter_retires : (of : ℕ) (us : List TableThere) → filter (λ u. u.table.map == of) (map retires us) ≡ map retires (filter (λ u. u.table.map == of) us)
  filter_retires of [] = refl
  filter_retires of (u ∷ us) = by (u.table.map == of) refl (filter_retires of us)
    where
      by : (q : Bool) → (u.table.map == of) ≡ q → filter (λ x. x.table.map == of) (map retires us) ≡ map retires (filter (λ x. x.table.map == of) us)
          → filter (λ x. x.table.map == of) (map retires (u ∷ us)) ≡ map retires (filter (λ x. x.table.map == of) (u ∷ us))
      by true e rest =
          ap (λ z. if z then retires u ∷ filter (λ x. x.table.map == of) (map retires us) else filter (λ x. x.table.map == of) (map retires us)) (ap (λ (x : TableId). x.map == of) (same_place u) ∙ e)
          ∙ ap (λ xs. retires u ∷ xs) rest ∙ ap (λ z. map retires (if z then u ∷ filter (λ x. x.table.map == of) us else filter (λ x. x.table.map == of) us)) (sym e)
      by false e rest =
          ap (λ z. if z then retires u ∷ filter (λ x. x.table.map == of) (map retires us) else filter (λ x. x.table.map == of) (map retires us)) (ap (λ (x : TableId). x.map == of) (same_place u) ∙ e)
          ∙ rest ∙ ap (λ z. map retires (if z then u ∷ filter (λ x. x.table.map == of) us else filter (λ x. x.table.map == of) us)) (sym e)

  module _ {K : Type 0} (of : ℕ) (c : Chart K) (stage : ℕ → Stage) where
    abbrev pub stage_then : ℕ → Stage
    stage_then u = if same_table (table_of of u) t then IsRetired else stage u

    map_append : (xs ys : List TableThere) → map retires (xs ++ ys) ≡ map retires xs ++ map retires ys
    map_append [] ys = refl
    map_append (x ∷ xs) ys = ap (λ zs. retires x ∷ zs) (map_append xs ys)

    one_retired : (u : ℕ) → ◌≡◌ {A = TableThere} (retires (record { table = table_of of u; shape = shape_at of c u; stage = stage u })) (record { table = table_of of u; shape = shape_at of c u; stage = stage_then u })
    one_retired u = by (same_table (table_of of u) t)
      where
        by : (q : Bool)
            → ◌≡◌ {A = TableThere} (if q then record { table = table_of of u; shape = shape_at of c u; stage = IsRetired } else record { table = table_of of u; shape = shape_at of c u; stage = stage u })
            (record { table = table_of of u; shape = shape_at of c u; stage = if q then IsRetired else stage u })
        by true = refl
        by false = refl

    tables_retired : (n : ℕ) → map retires (tables_to of c stage n) ≡ tables_to of c stage_then n
    tables_retired zero = refl
    tables_retired (suc u) =
        map_append (tables_to of c stage u) (record { table = table_of of u; shape = shape_at of c u; stage = stage u } ∷ [])
        ∙ ap (λ xs. xs ++ retires (record { table = table_of of u; shape = shape_at of c u; stage = stage u }) ∷ []) (tables_retired u)
        ∙ ap (λ x. tables_to of c stage_then u ++ x ∷ []) (one_retired u)

-- a table of a map that is this one
same_is : (of u : ℕ) (t : TableId) → same_table (table_of of u) t ≡ true → (of ≡ t.map) × (u ≡ t.turn)
same_is of u t e = (grind (arith, e), grind (arith, e))

module _ {K V : Type 0} (caller : List ℕ) (acted of : ℕ) (number : ℕ → ℕ) (s : Standing K) (blocks2 : Blocks) (sights2 : ℕ → Visible) (m : Moment K V) (known : Known)
    (blocks : StaysBlocks s.chart s.blocks blocks2) (shown : RefinesMap of number s m known) where
  abbrev s2 : Standing K
  s2 = record s { blocks = blocks2; sights = sights2 }

  abbrev led : List Effect → Moment K V
  led effects = with_effects (Some caller) (Some acted) effects m

  alike_shown : (v : Moment K V) → IsAlike of m v → RefinesMap of number s2 v known
  alike_shown v alike = map_on of number s s2 m v known known blocks (λ b lasting. refl) refl (tables_same s.chart) (pairs_same s.chart) alike shown

  -- a table that the root has passed
  module _ (t : TableId) (passed : (there : MapThere) → map_at t.map m ≡ Some there → t.turn < there.first) where
    abbrev v : Moment K V
    v = with_effect (Some caller) (Some acted) (Retired (ATable t)) m

    many : length v.stored ≡ length m.stored
    many = ap length (hands_stored (acting (Some caller) m) 0 t (ATable t) m.stored).1

    still_linked : (u : ℕ) → s.chart.first ≤ u → u < s.chart.past → stage_then t of s.chart shown.tables.stage u ≡ IsLinked
    still_linked u l made = by (same_table (table_of of u) t) refl
      where
        by : (q : Bool) → same_table (table_of of u) t ≡ q → (if q then IsRetired else shown.tables.stage u) ≡ IsLinked
        by true e = absurd (let k = same_is of u t e in let here = passed shown.there.there (subst (λ (x : ℕ). map_at x m ≡ Some shown.there.there) k.0 shown.there.is) in
            let first = shown.there.first in let turn = k.1 in omega (arith, here, first, l, turn))
        by false e = shown.tables.linked u l made

    table_retired : RefinesMap of number s2 v known
    table_retired = record {
      there = record { there = shown.there.there; is = shown.there.is; root = shown.there.root; mode = shown.there.mode; first = shown.there.first };
      pairs = pairs_on of number s s2 m v known known blocks (λ b lasting. refl) (pairs_same s.chart)
          (record { place = λ k l. refl; all = λ k at. at; born = λ k l. refl; stored = omega (arith, many) }) shown.pairs;
      tables = record {
        roles = λ u l seen. let k = blocks.tables u l seen in ap known.roles k.0 ∙ shown.tables.roles u l k.1;
        stage = stage_then t of s.chart shown.tables.stage;
        listed = filter_retires t of m.tables ∙ ap (map (at_stage t IsRetired)) shown.tables.listed ∙ tables_retired t of s.chart shown.tables.stage s.chart.past;
        linked = still_linked;
      };
      counter = shown.counter;
    }

  thing_retired : (x : Thing) → HandTheirs caller acted (Retired x ∷ []) m → RefinesMap of number s2 (led (Retired x ∷ [])) known
  thing_retired (APair n) hands = alike_shown (led (Retired (APair n) ∷ [])) (retired_alike (Some caller) acted m of n hands.0)
  thing_retired (ATable t) hands = table_retired t hands.0

  -- each map is shown
  pub hands_shown : (effects : List Effect) → HandsOn effects → HandTheirs caller acted effects m → RefinesMap of number s2 (led effects) known
  hands_shown effects (IsStill still all) hands = alike_shown (led still) (alike_same of m (led still) (still_all (Some caller) acted still m (calm_still still all)))
  hands_shown effects (Puts n t) hands = alike_shown (led (Deferred n t ∷ [])) (deferred_alike (Some caller) acted m of n t hands.0)
  hands_shown effects (Retires x) hands = thing_retired x hands

-- and the same pairs were stored
module _ {K V : Type 0} (caller : List ℕ) (acted : ℕ) (m : Moment K V) where
  pub hands_same : (effects : List Effect) → HandsOn effects → (with_effects (Some caller) (Some acted) effects m).stored ≡ m.stored
  hands_same effects (IsStill still all) = (still_all (Some caller) acted still m (calm_still still all)).stored
  hands_same effects (Puts n t) = (hands_stored (acting (Some caller) m) n t (ATable t) m.stored).0
  hands_same effects (Retires x) = (hands_stored (acting (Some caller) m) 0 (record { map = 0; turn = 0 }) x m.stored).1

  thing_alike : (of : ℕ) (x : Thing) → HandTheirs caller acted (Retired x ∷ []) m
      → AlikePairs of m (with_effects (Some caller) (Some acted) (Retired x ∷ []) m) × (map_at of (with_effects (Some caller) (Some acted) (Retired x ∷ []) m) ≡ map_at of m)
  thing_alike of (APair n) hands = let a = retired_alike (Some caller) acted m of n hands.0 in (a.pairs, a.tables.there)
  thing_alike of (ATable t) hands = (
    record { place = λ k l. refl; all = λ k at. at; born = λ k l. refl; stored = (let many = ap length (hands_stored (acting (Some caller) m) 0 t (ATable t) m.stored).1 in omega (arith, many)) },
    refl,
  )

  -- the pairs of a map are those that they were, and so is its root
  pub hands_alike : (of : ℕ) (effects : List Effect) → HandsOn effects → HandTheirs caller acted effects m
      → AlikePairs of m (with_effects (Some caller) (Some acted) effects m) × (map_at of (with_effects (Some caller) (Some acted) effects m) ≡ map_at of m)
  hands_alike of effects (IsStill still all) hands =
      let a = alike_same of m (with_effects (Some caller) (Some acted) still m) (still_all (Some caller) acted still m (calm_still still all)) in (a.pairs, a.tables.there)
  hands_alike of effects (Puts n t) hands = let a = deferred_alike (Some caller) acted m of n t hands.0 in (a.pairs, a.tables.there)
  hands_alike of effects (Retires x) hands = thing_alike of x hands
