-- A map that stands would end well: its pairs, in the order in which they lie, and then its tables, from the root's on.
use Rattle.std.specs.Prelude.{◌≡◌, ◌<◌, ◌≤◌, ◌-◌, ◌==◌, ◌&&◌, ◌⊎◌, nat_le, ℕ, zero, suc, Bool, true, false, not, cond, List, [], ◌∷◌, ◌++◌, filter, find, flat_map, map, length, Option, if◌then◌else◌}
use Rattle.std.proofs.Common.{refl, ap, sym, subst, ◌∙◌, arith, inl, inr}
use Rattle.std.proofs.lemmas.Bool.{and_parts, cases_order, eq-eqb, leb-true}
use Rattle.std.proofs.lemmas.List.Elements.{filter-append}
use Rattle.seize.specs.World.{times}
use Rattle.map_tables.specs.Chunks.{is_incremental}
use Rattle.run_finds.specs.Given.RuleChart.{Chart}
use Rattle.many_acts.specs.Given.FinishesEndings.{AllPairsOnce}
use Rattle.many_acts.specs.Given.FinishesMaps.{Standing}
use Rattle.many_acts.specs.Given.FinishesOrders.{pairs_of}
use Rattle.many_acts.proofs.Given.FinishesEnds.CountedBlocks.{some_here, some_last, some_of_first, times-append}
use Rattle.run_schedules.specs.declared.effect.Effect.{Effect}
use Rattle.run_schedules.specs.declared.effect.Effect.TheVariants.{Ended, Taken}
use Rattle.run_schedules.specs.declared.effect.TableId.{TableId}
use Rattle.run_schedules.specs.Schedules.After.{tables_taken}
use Rattle.run_schedules.specs.Schedules.Handing.{in_order}
use Rattle.run_schedules.specs.Schedules.Moment.{GivenBack, InMap, IsLinked, IsTaken, Left, MapThere, Moment, Stage, TableThere}
use Rattle.run_schedules.specs.Schedules.Lists.{is_among}
use Rattle.run_schedules.specs.Schedules.Things.{is_before, same_table}
use Rattle.run_schedules.specs.Schedules.Views.{behind, chain_of, first_of, first_or, is_in_map, is_linked, tables_of}
use Rattle.run_kept.specs.Given.EffectsKnown.{Known}
use Rattle.run_finds.specs.Given.FollowsMaps.{RefinesMap, shape_at, table_of, tables_to}
use Rattle.run_finds.proofs.Given.FollowsAlike.{put_elsewhere}
use Rattle.run_finds.proofs.Given.OthersLeads.{same_parts}
use Rattle.run_finds.proofs.Given.SpotsUnreclaimed.{same_itself}
use Rattle.run_finds.specs.Given.MomentsWholeEnds.{all_ended, tables_ended}
use Rattle.run_finds.proofs.Given.MomentsWholeEnds.{whole_ends_take_all}
use Rattle.run_finds.proofs.Lists.{numbers_pass}
use Rattle.run_schedules.specs.Deeds.History.{EndFinds, is_first_of, is_next_pair, left_tables}
use Rattle.play_lists.specs.MapsEnd.Ends.{AreStored, EndsWell}
use Rattle.play_lists.proofs.MapsEnd.Alike.{ended}
use Rattle.play_lists.proofs.MapsEnd.Left.{left_by}
use Rattle.play_lists.proofs.MapsEnd.Places.{none_then}
use Rattle.run_finds.proofs.Given.FollowsStored.{in_map_true as in_map_of}
use Rattle.run_kept.proofs.Sheds.EndOrder.{goes_before}

before_then : (a b c d e f : ℕ) → goes_before a b c d ≡ true → goes_before c d e f ≡ true → goes_before a b e f ≡ true
before_then a b c d e f one two = grind (arith, one, two)

not_before : (a b c d : ℕ) → goes_before a b c d ≡ true → goes_before c d a b ≡ false
not_before a b c d one = grind (arith, one)

not_itself : (a b : ℕ) → goes_before a b a b ≡ false
not_itself a b = grind arith

more_times : (n p : ℕ) (ps : List ℕ) → 0 < times n ps → 0 < times n (p ∷ ps)
more_times n p ps some = some_last n (p ∷ []) ps some

not_again : (p : ℕ) (ps : List ℕ) → times p (p ∷ ps) ≤ 1 → 0 < times p ps → ⊥
not_again p ps most some = let both = times-append p (p ∷ []) ps in let one = some_here p [] in omega (arith, both, one, most, some)

module _ {K V : Type 0} (of : ℕ) (number : ℕ → ℕ) where
  -- These pairs are in the map, each once and in order, and no others are.
  pub record Lie (ps : List ℕ) (m : Moment K V) : Type 0 where
    pub here : (n : ℕ) → 0 < times n ps → m.place (number n) ≡ InMap of
    pub all : (k : ℕ) → is_in_map of (m.place k) ≡ true → (n : ℕ) × (0 < times n ps) × (k ≡ number n)
    pub once : (n : ℕ) → times n ps ≤ 1
    pub apart : (n o : ℕ) → 0 < times n ps → 0 < times o ps → number n ≡ number o → n ≡ o
    pub order : in_order m (map number ps) ≡ true

  -- where they are in order, each is before all later ones
  all_later : (m : Moment K V) (a : ℕ) (ps : List ℕ) → in_order m (a ∷ map number ps) ≡ true → (n : ℕ) → 0 < times n ps → is_before (m.spot a) (m.spot (number n)) ≡ true
  all_later m a [] e n some = absurd (omega (arith, some))
  all_later m a (p ∷ ps) e n some = by (some_of_first n p ps some) (all_later m (number p) ps two.1 n)
    where
      two : (is_before (m.spot a) (m.spot (number p)) ≡ true) × (in_order m (number p ∷ map number ps) ≡ true)
      two = and_parts (is_before (m.spot a) (m.spot (number p))) (in_order m (number p ∷ map number ps)) e

      by : (n ≡ p) ⊎ (0 < times n ps) → (0 < times n ps → is_before (m.spot (number p)) (m.spot (number n)) ≡ true) → is_before (m.spot a) (m.spot (number n)) ≡ true
      by (inl is) rest = ap (λ (x : ℕ). is_before (m.spot a) (m.spot (number x))) is ∙ two.0
      by (inr more) rest =
          before_then (m.spot a).turn (m.spot a).place (m.spot (number p)).turn (m.spot (number p)).place (m.spot (number n)).turn (m.spot (number n)).place two.0 (rest more)

  in_order_then : (m : Moment K V) (a : ℕ) (ps : List ℕ) → in_order m (a ∷ map number ps) ≡ true → in_order m (map number ps) ≡ true
  in_order_then m a [] e = refl
  in_order_then m a (p ∷ ps) e = (and_parts (is_before (m.spot a) (m.spot (number p))) (in_order m (number p ∷ map number ps)) e).1

  -- the first of them is next
  module _ (p : ℕ) (ps : List ℕ) (m : Moment K V) (lie : Lie (p ∷ ps) m) where
    not_first : (k : ℕ) → is_in_map of (m.place k) ≡ true → is_before (m.spot k) (m.spot (number p)) ≡ false
    not_first k is = let it = lie.all k is in by it.0 it.2 (some_of_first it.0 p ps it.1)
      where
        by : (n : ℕ) → k ≡ number n → (n ≡ p) ⊎ (0 < times n ps) → is_before (m.spot k) (m.spot (number p)) ≡ false
        by n e (inl same) = ap (λ (x : ℕ). is_before (m.spot x) (m.spot (number p))) (e ∙ ap number same) ∙ not_itself (m.spot (number p)).turn (m.spot (number p)).place
        by n e (inr more) =
            ap (λ (x : ℕ). is_before (m.spot x) (m.spot (number p))) e
            ∙ not_before (m.spot (number p)).turn (m.spot (number p)).place (m.spot (number n)).turn (m.spot (number n)).place (all_later m (number p) ps lie.order n more)

    next : is_next_pair of (number p) m ≡ true
    next = numbers_pass (λ k. not (is_in_map of (m.place k) && is_before (m.spot k) (m.spot (number p)))) 1 (length m.stored) (λ k l u. by k (is_in_map of (m.place k)) refl)
      where
        by : (k : ℕ) (q : Bool) → is_in_map of (m.place k) ≡ q → not (is_in_map of (m.place k) && is_before (m.spot k) (m.spot (number p))) ≡ true
        by k false e = ap (λ (q : Bool). not (q && is_before (m.spot k) (m.spot (number p)))) e
        by k true e =
            ap (λ (q : Bool). not (q && is_before (m.spot k) (m.spot (number p)))) e ∙ ap not (not_first k e)

    -- and the others lie so when it has ended
    lie_then : Lie ps (ended of (Ended (number p)) m)
    lie_then = record {
      here = λ n some.
          put_elsewhere (number p) GivenBack m.place (number n)
          (λ e. not_again p ps (lie.once p) (subst (λ (x : ℕ). 0 < times x ps) (lie.apart n p (more_times n p ps some) (some_here p ps) e) some)) ∙ lie.here n (more_times n p ps some);
      all = λ k. all_by k (k == number p) refl;
      once = λ n. (let most = lie.once n in let both = times-append n (p ∷ []) ps in omega (arith, most, both));
      apart = λ n o some more. lie.apart n o (more_times n p ps some) (more_times o p ps more);
      order = in_order_then m (number p) ps lie.order;
    }
      where
        all_by : (k : ℕ) (q : Bool) → (k == number p) ≡ q → is_in_map of (if q then GivenBack else m.place k) ≡ true → (n : ℕ) × (0 < times n ps) × (k ≡ number n)
        all_by k true e is = absurd (cc is)
        all_by k false e is = let it = lie.all k is in by it.0 it.2 (some_of_first it.0 p ps it.1)
          where
            by : (n : ℕ) → k ≡ number n → (n ≡ p) ⊎ (0 < times n ps) → (n : ℕ) × (0 < times n ps) × (k ≡ number n)
            by n k_is (inl same) = absurd (let here = eq-eqb k (number p) (k_is ∙ ap number same) in cc (here, e))
            by n k_is (inr more) = (n, more, k_is)

  first_then : (f : Effect) (effects : List Effect) (m : Moment K V) → EndFinds of m f → EndsWell of effects (ended of f m) → EndsWell of (f ∷ effects) m
  first_then f effects m finds rest = record { finds = (finds, rest.finds); no_pair = rest.no_pair; no_table = rest.no_table }

  -- So they end, and what comes then finds the tables that were there, and no pair.
  pairs_end : (ps : List ℕ) (rest : List Effect) (m : Moment K V) → Lie ps m
      → ((v : Moment K V) → v.tables ≡ m.tables → v.maps ≡ m.maps → ((k : ℕ) → is_in_map of (v.place k) ≡ false) → EndsWell of rest v) → EndsWell of (map (λ n. Ended (number n)) ps ++ rest) m
  pairs_end [] rest m lie later = later m refl refl (λ k. by k (is_in_map of (m.place k)) refl)
    where
      by : (k : ℕ) (q : Bool) → is_in_map of (m.place k) ≡ q → is_in_map of (m.place k) ≡ false
      by k false e = e
      by k true e = absurd (let it = (lie.all k e).1 in omega (arith, it))
  pairs_end (p ∷ ps) rest m lie later =
      first_then (Ended (number p)) (map (λ n. Ended (number n)) ps ++ rest) m (lie.here p (some_here p ps), next p ps m lie)
      (pairs_end ps rest (ended of (Ended (number p)) m) (lie_then p ps m lie) later)

-- tables, from this one on
module _ (of : ℕ) where
  abbrev turns : ℕ → ℕ → List TableId
  turns t more = flat_map tables_taken (tables_ended of t more)

  abbrev tables : List TableThere → List TableId
  tables us = map (λ (u : TableThere). u.table) us

  none_of : (us : List TableThere) → tables us ≡ [] → us ≡ []
  none_of [] e = refl
  none_of (u ∷ us) e = absurd (cc e)

  first_is : (us : List TableThere) (t : TableId) (rest : List TableId) → tables us ≡ t ∷ rest → is_first_of t us ≡ true
  first_is [] t rest e = absurd (cc e)
  first_is (u ∷ us) t rest e = let its : u.table ≡ t = (cc e) in ap (λ (x : TableId). same_table x t) its ∙ same_itself t

  kept_tables : (t : TableId) (us : List TableThere) → tables (filter (λ u. not (same_table u.table t)) us) ≡ filter (λ x. not (same_table x t)) (tables us)
  kept_tables t [] = refl
  kept_tables t (u ∷ us) = by (same_table u.table t) (kept_tables t us)
    where
      by : (q : Bool) → tables (filter (λ v. not (same_table v.table t)) us) ≡ filter (λ x. not (same_table x t)) (tables us)
          → tables (cond (not q) (u ∷ filter (λ v. not (same_table v.table t)) us) (filter (λ v. not (same_table v.table t)) us))
          ≡ cond (not q) (u.table ∷ filter (λ x. not (same_table x t)) (tables us)) (filter (λ x. not (same_table x t)) (tables us))
      by true rest = rest
      by false rest = ap (λ (l : List TableId). u.table ∷ l) rest

  not_same : (t u : ℕ) → t < u → same_table (table_of of u) (table_of of t) ≡ false
  not_same t u less = by (same_table (table_of of u) (table_of of t)) refl
    where
      by : (q : Bool) → same_table (table_of of u) (table_of of t) ≡ q → same_table (table_of of u) (table_of of t) ≡ false
      by false e = e
      by true e = absurd (let turn = (same_parts (table_of of u) (table_of of t) e).1 in omega (arith, turn, less))

  later_kept : (t u more : ℕ) → t < u → filter (λ x. not (same_table x (table_of of t))) (turns u more) ≡ turns u more
  later_kept t u zero less = refl
  later_kept t u (suc more) less =
      ap (λ (q : Bool). cond (not q) (table_of of u ∷ filter (λ x. not (same_table x (table_of of t))) (turns (suc u) more)) (filter (λ x. not (same_table x (table_of of t))) (turns (suc u) more))) (not_same t u less)
      ∙ ap (λ (l : List TableId). table_of of u ∷ l) (later_kept t (suc u) more (omega (arith, less)))

  without_first : (t more : ℕ) → filter (λ x. not (same_table x (table_of of t))) (turns t (suc more)) ≡ turns (suc t) more
  without_first t more =
      ap (λ (q : Bool). cond (not q) (table_of of t ∷ filter (λ x. not (same_table x (table_of of t))) (turns (suc t) more)) (filter (λ x. not (same_table x (table_of of t))) (turns (suc t) more))) (same_itself (table_of of t))
      ∙ later_kept t (suc t) more (omega arith)

  -- Once no pair is there, they end, one after another.
  module _ {K V : Type 0} where
    tables_end : (t more : ℕ) (v : Moment K V) → ((k : ℕ) → is_in_map of (v.place k) ≡ false) → tables (left_tables of v) ≡ turns t more → EndsWell of (tables_ended of t more) v
    tables_end t zero v none left = record { finds = tt; no_pair = none_then of v none; no_table = none_of (left_tables of v) left }
    tables_end t (suc more) v none left =
        first_then of (λ n. n) (Taken (table_of of t)) (tables_ended of (suc t) more) v (none_then of v none, first_is (left_tables of v) (table_of of t) (turns (suc t) more) left)
        (tables_end (suc t) more (ended of (Taken (table_of of t)) v) (λ k. out k (is_among k (behind (table_of of t) v.deferred)))
        (ap tables (left_by of (first_of of v) (table_of of t) IsTaken refl v.tables) ∙ kept_tables (table_of of t) (left_tables of v)
        ∙ ap (filter (λ x. not (same_table x (table_of of t)))) left ∙ without_first t more))
      where
        out : (k : ℕ) (q : Bool) → is_in_map of (if q then Left else v.place k) ≡ false
        out k true = refl
        out k false = none k

-- the tables of a map from its root on are linked
module _ {K : Type 0} (of : ℕ) (c : Chart K) (stage : ℕ → Stage) (first : ℕ) where
  abbrev from_root : TableThere → Bool
  from_root u = nat_le first u.table.turn

  abbrev linked : TableThere → Bool
  linked u = is_linked u.stage

  abbrev one : ℕ → TableThere
  one n = record { table = table_of of n; shape = shape_at of c n; stage = stage n }

  all_linked : (n : ℕ) → ((t : ℕ) → first ≤ t → t < n → stage t ≡ IsLinked) → filter linked (filter from_root (tables_to of c stage n)) ≡ filter from_root (tables_to of c stage n)
  all_linked zero each = refl
  all_linked (suc n) each =
      ap (filter linked) parts ∙ filter-append linked before now ∙ ap (λ (l : List TableThere). l ++ filter linked now) (all_linked n (λ t l u. each t l (omega (arith, u))))
      ∙ ap (λ (l : List TableThere). before ++ l) (by (nat_le first n) refl) ∙ sym parts
    where
      before : List TableThere
      before = filter from_root (tables_to of c stage n)

      now : List TableThere
      now = filter from_root (one n ∷ [])

      parts : filter from_root (tables_to of c stage (suc n)) ≡ before ++ now
      parts = filter-append from_root (tables_to of c stage n) (one n ∷ [])

      by : (q : Bool) → nat_le first n ≡ q → filter linked (cond q (one n ∷ []) []) ≡ cond q (one n ∷ []) []
      by false e = refl
      by true e = ap (λ (q : Bool). cond q (one n ∷ []) []) (ap is_linked (each n (leb-true first n e) (omega arith)))

module _ {K V : Type 0} (m : Moment K V) (known : Known) (of : ℕ) (number : ℕ → ℕ) (st : Standing K) (shows : RefinesMap of number st m known) (once : AllPairsOnce (is_incremental st.setting.mode) st.chart)
    (stored : (n : ℕ) → st.chart.current n ≡ true → n < st.chart.stored) (order : in_order m (map number (pairs_of (is_incremental st.setting.mode) st.chart)) ≡ true) where
  abbrev pairs : List ℕ
  pairs = pairs_of (is_incremental st.setting.mode) st.chart

  pub are_stored : AreStored of m
  are_stored k is =
      let it = shows.pairs.all k (in_map_of of (m.place k) is) in let bounds = shows.pairs.numbered it.0 it.1 in let low = bounds.0 in let high = bounds.1 in let e = it.2 in (omega (arith, low, e), omega (arith, high, e))

  current : (n : ℕ) → 0 < times n pairs → st.chart.current n ≡ true
  current n some = by (st.chart.current n) (once n)
    where
      by : (q : Bool) → times n pairs ≡ cond q 1 0 → q ≡ true
      by true e = refl
      by false e = absurd (omega (arith, e, some))

  counted : (n : ℕ) → st.chart.current n ≡ true → 0 < times n pairs
  counted n is = let e = once n ∙ ap (λ (q : Bool). cond q 1 0) is in omega (arith, e)

  lie : Lie of number pairs m
  lie = record {
    here = λ n some. (let c = current n some in in_map_of of (m.place (number n)) (shows.pairs.here n (stored n c) ∙ c));
    all = λ k is. (let it = shows.pairs.all k (in_map_of of (m.place k) is) in
        (it.0, counted it.0 (sym (shows.pairs.here it.0 it.1) ∙ ap (λ (x : ℕ). is_in_map of (m.place x)) (sym it.2) ∙ is), it.2));
    once = λ n. most (st.chart.current n) (times n pairs) (once n);
    apart = λ n o some more e. one_number n o (stored n (current n some)) (stored o (current o more)) e;
    order = order;
  }
    where
      most : (q : Bool) (n : ℕ) → n ≡ cond q 1 0 → n ≤ 1
      most true n e = omega (arith, e)
      most false n e = omega (arith, e)

      one_number : (n o : ℕ) → n < st.chart.stored → o < st.chart.stored → number n ≡ number o → n ≡ o
      one_number n o l r e = elim (cases_order n o) as (λ _. n ≡ o) [
        | inl equal ↦ equal
        | inr apart ↦ elim apart as (λ _. n ≡ o) [
          | inl less ↦ absurd (let rising = shows.pairs.rising n o less r in omega (arith, rising, e))
          | inr more ↦ absurd (let rising = shows.pairs.rising o n more l in omega (arith, rising, e))
        ]
      ]

  left_now : tables of (left_tables of m) ≡ turns of st.chart.first (st.chart.past - st.chart.first)
  left_now =
      ap (λ (l : List TableThere). tables of (filter (λ u. is_linked u.stage) l)) chain ∙ ap (tables of) (all_linked of st.chart shows.tables.stage st.chart.first st.chart.past shows.tables.linked)
      ∙ ap (tables of) (sym chain) ∙ sym (whole_ends_take_all K V m known of number st shows once).1 ∙ told
    where
      chain : chain_of of m ≡ filter (λ u. nat_le st.chart.first u.table.turn) (tables_to of st.chart shows.tables.stage st.chart.past)
      chain =
          ap (λ (o : Option MapThere). filter (λ u. nat_le (first_or o) u.table.turn) (tables_of of m)) shows.there.is
          ∙ ap (λ (f : ℕ). filter (λ u. nat_le f u.table.turn) (tables_of of m)) shows.there.first ∙ ap (filter (λ u. nat_le st.chart.first u.table.turn)) shows.tables.listed

      pairs_tell : (ps : List ℕ) (rest : List Effect) → flat_map tables_taken (map (λ n. Ended (number n)) ps ++ rest) ≡ flat_map tables_taken rest
      pairs_tell [] rest = refl
      pairs_tell (p ∷ ps) rest = pairs_tell ps rest

      told : flat_map tables_taken (all_ended (is_incremental st.setting.mode) of number st.chart) ≡ turns of st.chart.first (st.chart.past - st.chart.first)
      told = pairs_tell pairs (tables_ended of st.chart.first (st.chart.past - st.chart.first))

  pub would_end : EndsWell of (all_ended (is_incremental st.setting.mode) of number st.chart) m
  would_end =
      pairs_end of number pairs (tables_ended of st.chart.first (st.chart.past - st.chart.first)) m lie
      (λ v same_tables same_maps none. tables_end of st.chart.first (st.chart.past - st.chart.first) v none (ap (tables of) (left_same v same_tables same_maps) ∙ left_now))
    where
      left_same : (v : Moment K V) → v.tables ≡ m.tables → v.maps ≡ m.maps → left_tables of v ≡ left_tables of m
      left_same v same_tables same_maps =
          ap (λ (fs : List MapThere). filter (λ u. is_linked u.stage) (filter (λ u. nat_le (first_or (find (λ f. f.number == of) fs)) u.table.turn) (filter (λ u. u.table.map == of) v.tables))) same_maps
          ∙ ap (λ (us : List TableThere). filter (λ u. is_linked u.stage) (filter (λ u. nat_le (first_of of m) u.table.turn) (filter (λ u. u.table.map == of) us))) same_tables
