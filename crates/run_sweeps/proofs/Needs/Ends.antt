-- Where all of a map ends, each pair is in the map as it ends, and each table is linked.
use Rattle.std.specs.Prelude.{◌≡◌, ◌<◌, ◌≤◌, ◌+◌, ◌-◌, ◌==◌, ◌&&◌, ◌||◌, ℕ, zero, suc, Bool, true, false, cond, List, [], ◌∷◌, ◌++◌, map, Some, None, if◌then◌else◌}
use Rattle.std.specs.List.{list_any}
use Rattle.std.proofs.Common.{refl, sym, ap, subst, ◌∙◌, arith, inl, inr}
use Rattle.std.proofs.lemmas.Bool.{cases_order, eq-eqb}
use Rattle.papaya_raw.specs.Given.SeizeWorld.{times}
use Rattle.papaya_raw.specs.Given.TablesChunks.{is_incremental}
use Rattle.run_schedules.specs.declared.effect.Effect.{Effect}
use Rattle.run_schedules.specs.declared.effect.Effect.TheVariants.{Ended, Taken}
use Rattle.run_schedules.specs.declared.effect.TableId.{TableId}
use Rattle.run_schedules.specs.Schedules.Effects.{AtEachEffect, at_stage, with_effect}
use Rattle.run_schedules.specs.Schedules.Lives.{EventFinds}
use Rattle.run_schedules.specs.Schedules.Moment.{InMap, GivenBack, IsTaken, TableThere, Moment}
use Rattle.run_schedules.specs.Schedules.Things.{same_table}
use Rattle.run_schedules.specs.Schedules.Views.{is_in_map, is_linked, is_stage}
use Rattle.run_kept.specs.Given.FinishesOrders.{pairs_of}
use Rattle.run_finds.specs.Given.FollowsMaps.{table_of}
use Rattle.run_finds.proofs.Given.FollowsAlike.{put_elsewhere}
use Rattle.run_finds.proofs.Given.FollowsFinds.{among, same_one}
use Rattle.run_finds.proofs.Given.SpotsUnreclaimed.{table_is}
use Rattle.run_finds.specs.Given.MomentsWholeEnds.{tables_ended}
use Rattle.run_sweeps.specs.Needs.Ends.{EndsFindAll}
use Rattle.run_finds.proofs.Given.FollowsStored.{in_map_true as in_map_is}

-- of a list with something before the rest
more_times : (n o : ℕ) (ps : List ℕ) → 0 < times o ps → 0 < times o (n ∷ ps)
more_times n o ps some = by (o == n)
  where
    by : (q : Bool) → 0 < (if q then 1 else 0) + times o ps
    by true = omega (arith, some)
    by false = omega (arith, some)

times_first : (n : ℕ) (ps : List ℕ) → times n (n ∷ ps) ≡ 1 + times n ps
times_first n ps = ap (λ (q : Bool). (if q then 1 else 0) + times n ps) (eq-eqb n n refl)

-- a table of which another one is not taken is linked still
module _ (t u : TableId) (apart : t ≡ u → ⊥) where
  still_linked : (xs : List TableThere) → list_any (λ x. same_table x.table u && is_linked x.stage) xs ≡ true → list_any (λ x. same_table x.table u && is_linked x.stage) (map (at_stage t IsTaken) xs) ≡ true
  still_linked [] is = is
  still_linked (x ∷ xs) is = by (same_table x.table t) (same_table x.table u) refl refl is (still_linked xs)
    where
      by : (q r : Bool) → same_table x.table t ≡ q → same_table x.table u ≡ r → ((r && is_linked x.stage) || list_any (λ y. same_table y.table u && is_linked y.stage) xs) ≡ true
          → (list_any (λ y. same_table y.table u && is_linked y.stage) xs ≡ true → list_any (λ y. same_table y.table u && is_linked y.stage) (map (at_stage t IsTaken) xs) ≡ true)
          → ((same_table (if q then record x { stage = IsTaken } else x).table u && is_linked (if q then record x { stage = IsTaken } else x).stage)
          || list_any (λ y. same_table y.table u && is_linked y.stage) (map (at_stage t IsTaken) xs)) ≡ true
      by true true its other some rest = absurd (apart (sym (table_is x.table t its) ∙ table_is x.table u other))
      by true false its other some rest =
          ap (λ (q : Bool). (q && false) || list_any (λ y. same_table y.table u && is_linked y.stage) (map (at_stage t IsTaken) xs)) other ∙ rest some
      by false r its other some rest = one (is_linked x.stage) r other some
        where
          one : (l r : Bool) → same_table x.table u ≡ r → ((r && l) || list_any (λ y. same_table y.table u && is_linked y.stage) xs) ≡ true
              → ((same_table x.table u && l) || list_any (λ y. same_table y.table u && is_linked y.stage) (map (at_stage t IsTaken) xs)) ≡ true
          one true true is_u found = ap (λ (q : Bool). (q && true) || list_any (λ y. same_table y.table u && is_linked y.stage) (map (at_stage t IsTaken) xs)) is_u
          one true false is_u found = ap (λ (q : Bool). (q && true) || list_any (λ y. same_table y.table u && is_linked y.stage) (map (at_stage t IsTaken) xs)) is_u ∙ rest found
          one false true is_u found = ap (λ (q : Bool). (q && false) || list_any (λ y. same_table y.table u && is_linked y.stage) (map (at_stage t IsTaken) xs)) is_u ∙ rest found
          one false false is_u found = ap (λ (q : Bool). (q && false) || list_any (λ y. same_table y.table u && is_linked y.stage) (map (at_stage t IsTaken) xs)) is_u ∙ rest found

module _ {K V : Type 0} (of : ℕ) (number : ℕ → ℕ) where
  -- tables end that are linked
  tables_find : (t more : ℕ) (v : Moment K V) → ((u : ℕ) → t ≤ u → u < t + more → is_stage is_linked (table_of of u) v ≡ true) → AtEachEffect (EventFinds (Some of) false) None (Some of) (tables_ended of t more) v
  tables_find t zero v linked = tt
  tables_find t (suc more) v linked = (
    (refl, linked t (omega arith) (omega arith)),
    tables_find (suc t) more (with_effect None (Some of) (Taken (table_of of t)) v)
        (λ u l r. still_linked (table_of of t) (table_of of u) (λ e. (let one = ap (λ (x : TableId). x.turn) e in omega (arith, one, l))) v.tables (linked u (omega (arith, l)) (omega (arith, r)))),
  )

  -- pairs end that are in the map, each once, and then the rest finds what it must
  pairs_find : (ps : List ℕ) (m : Moment K V) (rest : List Effect) → ((n : ℕ) → 0 < times n ps → m.place (number n) ≡ InMap of) → ((n : ℕ) → times n ps ≤ 1)
      → ((n o : ℕ) → 0 < times n ps → 0 < times o ps → number n ≡ number o → n ≡ o)
      → ((v : Moment K V) → v.tables ≡ m.tables → AtEachEffect (EventFinds (Some of) false) None (Some of) rest v)
      → AtEachEffect (EventFinds (Some of) false) None (Some of) (map (λ n. Ended (number n)) ps ++ rest) m
  pairs_find [] m rest here once apart behind = behind m refl
  pairs_find (n ∷ ps) m rest here once apart behind = (
    here n (let first = times_first n ps in omega (arith, first)),
    pairs_find ps (with_effect None (Some of) (Ended (number n)) m) rest
        (λ o some. put_elsewhere (number n) GivenBack m.place (number o)
        (λ e. other o some (apart o n (more_times n o ps some) (let first = times_first n ps in omega (arith, first)) e)) ∙ here o (more_times n o ps some))
        (λ o. fewer o (once o)) (λ o p some more e. apart o p (more_times n o ps some) (more_times n p ps more) e) behind,
  )
    where
      fewer : (o : ℕ) → times o (n ∷ ps) ≤ 1 → times o ps ≤ 1
      fewer o = by (o == n)
        where
          by : (q : Bool) → (if q then 1 else 0) + times o ps ≤ 1 → times o ps ≤ 1
          by true l = omega (arith, l)
          by false l = omega (arith, l)

      other : (o : ℕ) → 0 < times o ps → o ≡ n → ⊥
      other o some e =
          let there : 0 < times n ps = subst (λ (x : ℕ). 0 < times x ps) e some in
          let first = times_first n ps in
          let most = once n in
          omega (arith, there, first, most)

in_it : (q : Bool) (n : ℕ) → n ≡ cond q 1 0 → 0 < n → q ≡ true
in_it true n e some = refl
in_it false n e some = absurd (omega (arith, e, some))

most_one : (q : Bool) (n : ℕ) → n ≡ cond q 1 0 → n ≤ 1
most_one true n e = omega (arith, e)
most_one false n e = omega (arith, e)

pub ends_find_all : (K V : Type 0) → EndsFindAll K V
ends_find_all K V m known of shown number st shows once stored numbers =
    pairs_find of number (pairs_of (is_incremental st.setting.mode) st.chart) m (tables_ended of st.chart.first (st.chart.past - st.chart.first))
    (λ n some. (let c = current n some in in_map_is of (m.place (number n)) (ap (λ (x : ℕ). is_in_map of (m.place x)) (numbers n c) ∙ shows.pairs.here n (stored n c) ∙ c)))
    (λ n. most_one (st.chart.current n) (times n (pairs_of (is_incremental st.setting.mode) st.chart)) (once n))
    (λ n o some more e. (let c = current n some in let d = current o more in one n o (stored n c) (stored o d) (sym (numbers n c) ∙ e ∙ numbers o d)))
    (λ v same. tables_find of number st.chart.first (st.chart.past - st.chart.first) v (λ u l r.
    ap (λ (ts : List TableThere). list_any (λ x. same_table x.table (table_of of u) && is_linked x.stage) ts) same ∙ linked u l (omega (arith, l, r))))
  where
    current : (n : ℕ) → 0 < times n (pairs_of (is_incremental st.setting.mode) st.chart) → st.chart.current n ≡ true
    current n some = in_it (st.chart.current n) (times n (pairs_of (is_incremental st.setting.mode) st.chart)) (once n) some

    one : (n o : ℕ) → n < st.chart.stored → o < st.chart.stored → shown n ≡ shown o → n ≡ o
    one n o l r e = elim (cases_order n o) as (λ _. n ≡ o) [
      | inl equal ↦ equal
      | inr apart ↦ elim apart as (λ _. n ≡ o) [
        | inl less ↦ absurd (let rising = shows.pairs.rising n o less r in omega (arith, rising, e))
        | inr more ↦ absurd (let rising = shows.pairs.rising o n more l in omega (arith, rising, e))
      ]
    ]

    linked : (u : ℕ) → st.chart.first ≤ u → u < st.chart.past → is_stage is_linked (table_of of u) m ≡ true
    linked u l made =
        among of shown st m known shows (λ x. same_table x.table (table_of of u) && is_linked x.stage) u made
        (ap (λ (q : Bool). q && is_linked (shows.tables.stage u)) (same_one of shown st m known shows u) ∙ ap is_linked (shows.tables.linked u l made))
