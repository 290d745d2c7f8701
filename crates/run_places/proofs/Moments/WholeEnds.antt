-- Where all of a map ends, it has no pair then, and its tables end from the root's on.
use Rattle.std.specs.Prelude.{◌≡◌, ◌<◌, ◌≤◌, ◌+◌, ◌-◌, ℕ, zero, suc, nat_le, Bool, true, false, cond, List, [], ◌∷◌, ◌++◌, length, map, filter, flat_map, Option, Some, None, if◌then◌else◌}
use Rattle.std.proofs.Common.{refl, sym, ap, ◌∙◌, arith, inl, inr}
use Rattle.std.proofs.lemmas.Bool.{eq-eqb, ne_eqb}
use Rattle.std.proofs.lemmas.Grind.{flat_map-append}
use Rattle.std.proofs.lemmas.List.{append-nil, map-append}
use Rattle.std.proofs.lemmas.List.Elements.{filter-append}
use Rattle.run_shows.specs.Given.SeizeWorld.{times}
use Rattle.run_shows.specs.Given.TablesChunks.{is_incremental}
use Rattle.run_shows.specs.Given.RuleChart.{Chart}
use Rattle.run_shows.specs.Given.RunsDeclared.effect.Effect.{Effect}
use Rattle.run_shows.specs.Given.RunsDeclared.effect.Effect.TheVariants.{Ended, Taken}
use Rattle.run_shows.specs.Given.RunsDeclared.effect.TableId.{TableId}
use Rattle.run_shows.specs.Given.SchedulesAfter.{tables_taken}
use Rattle.run_shows.specs.Given.SchedulesEffects.{with_effect, with_effects}
use Rattle.run_shows.specs.Given.SchedulesLists.{put}
use Rattle.run_shows.specs.Given.SchedulesMoment.{Place, InMap, Left, GivenBack, Stage, MapThere, TableThere, Moment}
use Rattle.run_shows.specs.Given.SchedulesViews.{is_in_map, places_below, first_or, map_at, tables_of, behind}
use Rattle.run_shows.specs.Given.FinishesEndings.{AllPairsOnce}
use Rattle.run_shows.specs.Given.FinishesMaps.{Standing}
use Rattle.run_shows.specs.Given.FinishesOrders.{pairs_of}
use Rattle.run_shows.proofs.Given.FinishesEnds.CountedBlocks.{some_of_first}
use Rattle.run_shows.specs.Given.EffectsKnown.{Known}
use Rattle.run_shows.specs.Follows.Maps.{RefinesMap, shape_at, table_of, tables_to}
use Rattle.run_shows.proofs.Follows.Alike.{put_here}
use Rattle.run_places.specs.Moments.WholeEnds.{all_ended, tables_ended, WholeEndsTakeAll}
use Rattle.run_places.proofs.Moments.After.{effects_after}
use Rattle.run_places.proofs.Moments.OnSlots.{put_out, all_out}

-- the tables of a map, so many, from this one on
abbrev turns_from : ℕ → ℕ → ℕ → List TableId
turns_from of t zero = []
turns_from of t (suc more) = table_of of t ∷ turns_from of (suc t) more

turns_more : (of t more : ℕ) → turns_from of t (suc more) ≡ turns_from of t more ++ table_of of (t + more) ∷ []
turns_more of t zero = (let e : t ≡ t + 0 = omega arith in ap (λ (x : ℕ). table_of of x ∷ []) e)
turns_more of t (suc more) =
    (let e : suc t + more ≡ t + suc more = omega arith in
    ap (λ (l : List TableId). table_of of t ∷ l) (turns_more of (suc t) more) ∙ ap (λ (x : ℕ). table_of of t ∷ (turns_from of (suc t) more ++ table_of of x ∷ [])) e)

module _ {K : Type 0} (of : ℕ) (c : Chart K) (stage : ℕ → Stage) (first : ℕ) where
  abbrev kept : List TableThere → List TableId
  kept tables = map (λ t. t.table) (filter (λ t. nat_le first t.table.turn) tables)

  abbrev one : ℕ → TableThere
  one n = record { table = table_of of n; shape = shape_at of c n; stage = stage n }

  kept_so : (n : ℕ) → kept (tables_to of c stage n) ≡ turns_from of first (n - first)
  kept_so zero = (let e : 0 ≡ 0 - first = omega arith in ap (turns_from of first) e)
  kept_so (suc n) = parts ∙ by (kept_so n) (nat_le first n) refl
    where
      parts : kept (tables_to of c stage (suc n)) ≡ kept (tables_to of c stage n) ++ kept (one n ∷ [])
      parts =
          ap (map (λ t. t.table)) (filter-append (λ t. nat_le first t.table.turn) (tables_to of c stage n) (one n ∷ []))
          ∙ map-append (λ t. t.table) (filter (λ t. nat_le first t.table.turn) (tables_to of c stage n)) (filter (λ t. nat_le first t.table.turn) (one n ∷ []))

      by : kept (tables_to of c stage n) ≡ turns_from of first (n - first) → (q : Bool) → nat_le first n ≡ q
          → kept (tables_to of c stage n) ++ map (λ (t : TableThere). t.table) (if q then one n ∷ [] else []) ≡ turns_from of first (suc n - first)
      by before true e =
          (let le : first ≤ n = grind (arith, e) in
          let here : first + (n - first) ≡ n = omega (arith, le) in
          let long : suc (n - first) ≡ suc n - first = omega (arith, le) in
          ap (λ (l : List TableId). l ++ table_of of n ∷ []) before ∙ ap (λ (x : ℕ). turns_from of first (n - first) ++ table_of of x ∷ []) (sym here)
          ∙ sym (turns_more of first (n - first)) ∙ ap (turns_from of first) long)
      by before false e =
          (let more : n < first = grind (arith, e) in
          let same : n - first ≡ suc n - first = omega (arith, more) in
          append-nil (kept (tables_to of c stage n)) ∙ before ∙ ap (turns_from of first) same)

-- the tables that end
ended_tables : (of t more : ℕ) → flat_map tables_taken (tables_ended of t more) ≡ turns_from of t more
ended_tables of t zero = refl
ended_tables of t (suc more) = ap (λ (l : List TableId). table_of of t ∷ l) (ended_tables of (suc t) more)

-- the pairs that end
abbrev pairs_ended : (ℕ → ℕ) → List ℕ → List Effect
pairs_ended number ps = map (λ n. Ended (number n)) ps

no_tables : (number : ℕ → ℕ) (ps : List ℕ) → flat_map tables_taken (pairs_ended number ps) ≡ []
no_tables number [] = refl
no_tables number (n ∷ ps) = no_tables number ps

module _ {K V : Type 0} (of : ℕ) (number : ℕ → ℕ) where
  -- a pair that is in a map then was there, and is none of those that have ended
  pairs_out : (ps : List ℕ) (m : Moment K V) (k x : ℕ) → (with_effects None (Some of) (pairs_ended number ps) m).place k ≡ InMap x → (m.place k ≡ InMap x) × ((n : ℕ) → 0 < times n ps → k ≡ number n → ⊥)
  pairs_out [] m k x is = (is, λ n some e. omega (arith, some))
  pairs_out (n ∷ ps) m k x is = by (pairs_out ps (with_effect None (Some of) (Ended (number n)) m) k x is)
    where
      none : (put (number n) GivenBack m.place k ≡ InMap x) × ((o : ℕ) → 0 < times o ps → k ≡ number o → ⊥) → (o : ℕ) → 0 < times o (n ∷ ps) → k ≡ number o → ⊥
      none later o some e = elim (some_of_first o n ps some) as (λ _. ⊥) [
        | inl here ↦ (let gone = put_here (number n) GivenBack m.place k (e ∙ ap number here) in let there = later.0 in cc (gone, there))
        | inr behind ↦ later.1 o behind e
      ]

      by : (put (number n) GivenBack m.place k ≡ InMap x) × ((o : ℕ) → 0 < times o ps → k ≡ number o → ⊥) → (m.place k ≡ InMap x) × ((o : ℕ) → 0 < times o (n ∷ ps) → k ≡ number o → ⊥)
      by later = (put_out m.place (number n) GivenBack (λ y e. cc e) k x later.0, none later)

  tables_out : (t more : ℕ) (m : Moment K V) (k x : ℕ) → (with_effects None (Some of) (tables_ended of t more) m).place k ≡ InMap x → m.place k ≡ InMap x
  tables_out t zero m k x is = is
  tables_out t (suc more) m k x is =
      all_out m.place Left (behind (table_of of t) m.deferred) (λ y e. cc e) k x (tables_out (suc t) more (with_effect None (Some of) (Taken (table_of of t)) m) k x is)

abbrev pub one_if : Bool → ℕ
one_if q = if q then 1 else 0

-- where no place passes there is none
places_none : (test : Place → Bool) (place : ℕ → Place) (n : ℕ) → ((k : ℕ) → test (place k) ≡ false) → places_below test place n ≡ 0
places_none test place zero none = refl
places_none test place (suc n) none =
    (let here = ap (λ (q : Bool). one_if q) (none (suc n)) in let before = places_none test place n none in omega (arith, here, before))

pub out_of : (of : ℕ) (p : Place) → (p ≡ InMap of → ⊥) → is_in_map of p ≡ false
out_of of (InMap x) none = ne_eqb of x (λ e. none (ap InMap (sym e)))
out_of of _ none = refl

in_it : (q : Bool) (n : ℕ) → q ≡ true → n ≡ cond q 1 0 → 0 < n
in_it true n e is = omega (arith, is)
in_it false n e is = absurd (cc e)

module _ {K V : Type 0} (m : Moment K V) (known : Known) (of : ℕ) (number : ℕ → ℕ) (st : Standing K) (shows : RefinesMap of number st m known) (once : AllPairsOnce (is_incremental st.setting.mode) st.chart) where
  abbrev pairs : List ℕ
  pairs = pairs_of (is_incremental st.setting.mode) st.chart

  abbrev tables : List Effect
  tables = tables_ended of st.chart.first (st.chart.past - st.chart.first)

  abbrev w : Moment K V
  w = with_effects None (Some of) (all_ended (is_incremental st.setting.mode) of number st.chart) m

  abbrev mid : Moment K V
  mid = with_effects None (Some of) (pairs_ended number pairs) m

  not_there : (k : ℕ) → w.place k ≡ InMap of → ⊥
  not_there k is =
      let split = ap (λ (v : Moment K V). v.place k) (effects_after None (Some of) (pairs_ended number pairs) tables m) in
      let was = pairs_out of number pairs m k of (tables_out of number st.chart.first (st.chart.past - st.chart.first) mid k of (sym split ∙ is)) in
      let it = shows.pairs.all k was.0 in
      let here = sym (shows.pairs.here it.0 it.1) ∙ ap (λ (x : ℕ). is_in_map of (m.place x)) (sym it.2) ∙ ap (is_in_map of) was.0 ∙ eq-eqb of of refl in
      was.1 it.0 (in_it (st.chart.current it.0) (times it.0 pairs) here (once it.0)) it.2

  chain : kept of st.chart shows.tables.stage (first_or (map_at of m)) (tables_of of m) ≡ turns_from of st.chart.first (st.chart.past - st.chart.first)
  chain =
      ap (λ (o : Option MapThere). kept of st.chart shows.tables.stage (first_or o) (tables_of of m)) shows.there.is
      ∙ ap (λ (f : ℕ). kept of st.chart shows.tables.stage f (tables_of of m)) shows.there.first
      ∙ ap (kept of st.chart shows.tables.stage st.chart.first) shows.tables.listed ∙ kept_so of st.chart shows.tables.stage st.chart.first st.chart.past

pub whole_ends_take_all : (K V : Type 0) → WholeEndsTakeAll K V
whole_ends_take_all K V m known of number st shows once = (
  places_none (is_in_map of) (w m known of number st shows once).place (length (w m known of number st shows once).stored)
      (λ k. out_of of ((w m known of number st shows once).place k) (not_there m known of number st shows once k)),
  flat_map-append tables_taken (pairs_ended number (pairs m known of number st shows once)) (tables m known of number st shows once)
      ∙ ap (λ (l : List TableId). l ++ flat_map tables_taken (tables m known of number st shows once)) (no_tables number (pairs m known of number st shows once))
      ∙ ended_tables of st.chart.first (st.chart.past - st.chart.first) ∙ sym (chain m known of number st shows once),
)
