-- The pairs of a map that ends, in the order in which they end: table by table, and in each table place by place.
use Rattle.std.specs.Prelude.{◌≡◌, ◌≢◌, ◌<◌, ◌≤◌, ◌+◌, ◌-◌, ◌==◌, ◌&&◌, ◌||◌, nat_lt, ℕ, zero, suc, Bool, true, false, List, [], ◌∷◌, ◌++◌, map, flat_map, ◌⊎◌, if◌then◌else◌}
use Rattle.std.proofs.Common.{refl, ap, subst, sym, ◌∙◌, arith, inl, inr}
use Rattle.std.proofs.lemmas.Bool.{cases_lt}
use Rattle.std.proofs.lemmas.Grind.{flat_map-append}
use Rattle.std.proofs.lemmas.List.{append-nil}
use Rattle.seize.specs.World.{times}
use Rattle.papaya_raw.specs.Given.TablesDeclared.status.TheConstants.Status.{ABORTED}
use Rattle.run_schedules.specs.declared.effect.Effect.TheVariants.{Ended}
use Rattle.run_schedules.specs.declared.effect.Spot.{Spot}
use Rattle.run_schedules.specs.Schedules.Handing.{pairs_ended, in_order}
use Rattle.run_schedules.specs.Schedules.Moment.{Moment}
use Rattle.run_schedules.specs.Schedules.Things.{is_before}
use Rattle.run_executor.specs.Given.RuleChart.{Phase, Still, Copying, Copied, Place, Empty, Tombstone, Holds, Chart, is_marked}
use Rattle.run_executor.specs.Given.RuleMaps.{spot_of}
use Rattle.run_executor.specs.Given.RuleRule.{Rule, Incremental, is_of}
use Rattle.run_executor.specs.Given.PointsSteps.{AreLawful}
use Rattle.run_executor.specs.Given.FinishesOrders.{pair_at, with_pairs, pairs_from, pairs_in, pairs_of}
use Rattle.run_executor.proofs.Given.FinishesEnds.CountedBlocks.{some_here}
use Rattle.run_executor.proofs.Given.FinishesEnds.OrdersPairs.{GivesAt, Stands, stands_at, stands_current, all_home, phases_apart as not_both}
use Rattle.run_executor.specs.Given.MomentsWholeEnds.{all_ended, tables_ended}
use Rattle.run_executor.specs.Given.SpotsSpots.{named_by, spot_in, LiesAt}
use Rattle.run_executor.proofs.Given.SpotsNames.{holds_is}

-- whether a spot is before another, by their tables and places
abbrev pub goes_before : ℕ → ℕ → ℕ → ℕ → Bool
goes_before a b t i = nat_lt a t || ((a == t) && nat_lt b i)

next_place : (t i : ℕ) → goes_before t i t (suc i) ≡ true
next_place t i = grind arith

before_next : (a b t i : ℕ) → goes_before a b t i ≡ true → goes_before a b t (suc i) ≡ true
before_next a b t i e = grind (arith, e)

before_table : (a b t i : ℕ) → goes_before a b t i ≡ true → goes_before a b (suc t) 0 ≡ true
before_table a b t i e = grind (arith, e)

-- a place gives one pair, or none
gives_one : (incremental : Bool) (p : Place) → (pair_at incremental p ≡ []) ⊎ ((n : ℕ) × (pair_at incremental p ≡ n ∷ []))
gives_one incremental (Empty marked) = inl refl
gives_one incremental (Tombstone marked) = inl refl
gives_one incremental (Holds n phase borrowed) = by (incremental && is_marked (Holds n phase borrowed))
  where
    by : (q : Bool) → ((if q then [] else n ∷ []) ≡ []) ⊎ ((o : ℕ) × ((if q then [] else n ∷ []) ≡ o ∷ []))
    by true = inl refl
    by false = inr (n, refl)

module _ {K V : Type 0} (m : Moment K V) (number : ℕ → ℕ) where
  -- they are in order, also behind each pair that lies before this place
  abbrev InOrder : List ℕ → ℕ → ℕ → Type 0
  InOrder l t i = (in_order m l ≡ true) × ((k : ℕ) → is_before (m.spot k) (spot_in t i) ≡ true → in_order m (k ∷ l) ≡ true)

  one_more : (k t i : ℕ) (l : List ℕ) → m.spot k ≡ spot_in t i → InOrder l t (suc i) → InOrder (k ∷ l) t i
  one_more k t i l is later =
      let rest = later.1 k (ap (λ (s : Spot). is_before s (spot_in t (suc i))) is ∙ next_place t i) in
      (rest, λ o first. ap (λ (s : Spot). is_before (m.spot o) s && in_order m (k ∷ l)) is ∙ ap (λ (q : Bool). q && in_order m (k ∷ l)) first ∙ rest)

  from_next : (t i : ℕ) (l : List ℕ) → InOrder l t (suc i) → InOrder l t i
  from_next t i l later = (later.0, λ k first. later.1 k (before_next (m.spot k).turn (m.spot k).place t i first))

  from_table : (t i : ℕ) (l : List ℕ) → InOrder l (suc t) 0 → InOrder l t i
  from_table t i l later = (later.0, λ k first. later.1 k (before_table (m.spot k).turn (m.spot k).place t i first))

  module _ {K2 : Type 0} (incremental : Bool) (c : Chart K2) where
    places_ordered : (t i places : ℕ) (rest : List ℕ) → ((j n : ℕ) → i ≤ j → j < i + places → GivesAt incremental c t j n → m.spot (number n) ≡ spot_in t j)
        → InOrder (map number rest) (suc t) 0 → InOrder (map number (pairs_from incremental c t i places ++ rest)) t i
    places_ordered t i zero rest are later = from_table t i (map number rest) later
    places_ordered t i (suc places) rest are later =
        by (gives_one incremental (c.place t i)) (λ n some. are i n (omega arith) (omega arith) some)
        (places_ordered t (suc i) places rest (λ j n from below. are j n (omega (arith, from)) (omega (arith, below))) later)
      where
        by : (pair_at incremental (c.place t i) ≡ []) ⊎ ((n : ℕ) × (pair_at incremental (c.place t i) ≡ n ∷ []))
            → ((n : ℕ) → GivesAt incremental c t i n → m.spot (number n) ≡ spot_in t i)
            → InOrder (map number (pairs_from incremental c t (suc i) places ++ rest)) t (suc i)
            → InOrder (map number ((pair_at incremental (c.place t i) ++ pairs_from incremental c t (suc i) places) ++ rest)) t i
        by (inl none) at k =
            subst (λ (l : List ℕ). InOrder (map number ((l ++ pairs_from incremental c t (suc i) places) ++ rest)) t i) (sym none)
            (from_next t i (map number (pairs_from incremental c t (suc i) places ++ rest)) k)
        by (inr it) at k =
            subst (λ (l : List ℕ). InOrder (map number ((l ++ pairs_from incremental c t (suc i) places) ++ rest)) t i) (sym it.1)
            (one_more (number it.0) t i (map number (pairs_from incremental c t (suc i) places ++ rest))
            (at it.0 (subst (λ (l : List ℕ). 0 < times it.0 l) (sym it.1) (some_here it.0 []))) k)

    tables_ordered : (t tables : ℕ) → ((u j n : ℕ) → t ≤ u → u < t + tables → GivesAt incremental c u j n → m.spot (number n) ≡ spot_in u j)
        → InOrder (map number (pairs_in incremental c t tables)) t 0
    tables_ordered t zero are = (refl, λ k first. refl)
    tables_ordered t (suc tables) are =
        places_ordered t 0 (c.len t) (pairs_in incremental c (suc t) tables) (λ j n from below. are t j n (omega arith) (omega arith))
        (tables_ordered (suc t) tables (λ u j n from below. are u j n (omega (arith, from)) (omega (arith, below))))

-- A pair that a place of its map gives lies there.
module _ {K : Type 0} (same : K → K → Bool) (hash : K → ℕ) (are : AreLawful same hash) (c : Chart K) where
  module _ (incremental : Bool) (rule : Rule same (spot_of hash) incremental c) where
    same_place : (t i j n : ℕ) (p q : Phase) (x y : Bool) → c.status t ≢ ABORTED → c.place t i ≡ Holds n p x → c.place t j ≡ Holds n q y → i ≡ j
    same_place t i j n p q x y live here there =
        let k = (rule.common.keyed t i n p x here).1 in
        let key = (rule.common.keyed t i n p x here).2 in
        let of : is_of same (spot_of hash) incremental k (c.key n) ≡ true = ap (is_of same (spot_of hash) incremental k) key ∙ are.lawful.classes.refl k in
        rule.common.once t i j n n p q x y k live here there of of

  not_copied : Still ≡ Copied → ⊥
  not_copied e = cc e

  spot_is : (sp : Spot) (t i : ℕ) → sp.turn ≡ t → i ≡ sp.place → sp ≡ spot_in t i
  spot_is sp t i turn place = ap (λ (x : ℕ). spot_in x sp.place) turn ∙ ap (spot_in t) (sym place)

  lies_there : (b : Bool) → Rule same (spot_of hash) b c → (t i n born : ℕ) (sp : Spot) → Stands b c t i n → LiesAt c b n sp born → sp ≡ spot_in t i
  lies_there false rule t i n born sp s lies =
      let turn = lies.0 ∙ sym s.home in
      let held = holds_is (c.place sp.turn sp.place) n false lies.1 in
      let there = ap (λ (u : ℕ). c.place u sp.place) (sym turn) ∙ held.1 in
      spot_is sp t i turn (same_place false rule t i sp.place n s.phase held.0 s.borrowed false (subst (λ (u : ℕ). c.status u ≢ ABORTED) (sym s.home) rule.common.live) s.there there)
  lies_there true rule t i n born sp s lies = by (cases_lt t sp.turn) (lies.2 t i s.borrowed (ap named_by s.there))
    where
      bits : Incremental same (spot_of hash) true c
      bits = rule.in_mode

      held : (phase : Phase) × (c.place sp.turn sp.place ≡ Holds n phase (nat_lt born sp.turn))
      held = holds_is (c.place sp.turn sp.place) n (nat_lt born sp.turn) lies.1

      still : c.place t i ≡ Holds n Still s.borrowed
      still = s.there ∙ ap (λ (p : Phase). Holds n p s.borrowed) (s.still refl)

      -- a later table has it only where its place is marked
      no_later : t < sp.turn → ⊥
      no_later l =
          let key = rule.common.keyed t i n s.phase s.borrowed s.there in
          elim (bits.chain t sp.turn sp.place n held.0 (nat_lt born sp.turn) key.1 held.1 key.2 l s.home) as (λ _. ⊥) [
            | inl shut ↦ not_copied (shut.0 i n Still s.borrowed still (ap (is_of same (spot_of hash) true key.1) key.2 ∙ are.lawful.classes.refl key.1))
            | inr moving ↦ (let root : c.place t moving.2.0 ≡ Holds n Copying moving.2.1 = ap (λ (x : ℕ). c.place x moving.2.0) moving.0 ∙ moving.2.2 in
                let same_one = same_place true rule t i moving.2.0 n Still Copying s.borrowed moving.2.1 (bits.never_aborted t) still root in
                not_both n n s.borrowed moving.2.1 (sym still ∙ ap (c.place t) same_one ∙ root))
          ]

      by : (t < sp.turn) ⊎ (sp.turn ≤ t) → t ≤ sp.turn → sp ≡ spot_in t i
      by (inl l) from = absurd (no_later l)
      by (inr l) from =
          let turn : sp.turn ≡ t = omega (arith, l, from) in
          let there = ap (λ (u : ℕ). c.place u sp.place) (sym turn) ∙ held.1 in
          spot_is sp t i turn (same_place true rule t i sp.place n s.phase held.0 s.borrowed (nat_lt born sp.turn) (bits.never_aborted t) s.there there)

  -- So all pairs that such a map gives are in order.
  pub pairs_ordered : {K2 V : Type 0} (m : Moment K2 V) (number : ℕ → ℕ) (b : Bool) → Rule same (spot_of hash) b c
      → ((n : ℕ) → c.current n ≡ true → LiesAt c b n (m.spot (number n)) (m.born (number n)).turn) → in_order m (map number (pairs_of b c)) ≡ true
  pairs_ordered m number b rule lies =
      (tables_ordered m number b c c.first (with_pairs b (c.past - c.first))
      (λ u j n from below some. let s = stands_at same hash are b c rule u j n (all_home same hash are b c rule u from below) some in
      lies_there b rule u j n (m.born (number n)).turn (m.spot (number n)) s (lies n (stands_current same hash are b c rule u j n s)))).0

-- which pairs are told to end
pairs_told : (number : ℕ → ℕ) (l : List ℕ) → flat_map pairs_ended (map (λ (n : ℕ). Ended (number n)) l) ≡ map number l
pairs_told number [] = refl
pairs_told number (n ∷ l) = ap (λ (x : List ℕ). number n ∷ x) (pairs_told number l)

none_told : (of t more : ℕ) → flat_map pairs_ended (tables_ended of t more) ≡ []
none_told of t zero = refl
none_told of t (suc more) = none_told of (suc t) more

pub all_told : {K : Type 0} (b : Bool) (of : ℕ) (number : ℕ → ℕ) (c : Chart K) → flat_map pairs_ended (all_ended b of number c) ≡ map number (pairs_of b c)
all_told b of number c =
    flat_map-append pairs_ended (map (λ (n : ℕ). Ended (number n)) (pairs_of b c)) (tables_ended of c.first (c.past - c.first))
    ∙ ap (λ (l : List ℕ). flat_map pairs_ended (map (λ (n : ℕ). Ended (number n)) (pairs_of b c)) ++ l) (none_told of c.first (c.past - c.first))
    ∙ append-nil (flat_map pairs_ended (map (λ (n : ℕ). Ended (number n)) (pairs_of b c))) ∙ pairs_told number (pairs_of b c)
