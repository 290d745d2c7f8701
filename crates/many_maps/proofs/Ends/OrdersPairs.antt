-- Which pairs a map that ends reclaims: each one of its own once, and no other.
use Rattle.std.specs.Prelude.{◌≢◌, ◌-◌, ◌==◌, if◌then◌else◌, ◌&&◌, Some}
use Rattle.std.proofs.Common.{◌≡◌, ℕ, zero, suc, ◌+◌, ◌<◌, ◌≤◌, Bool, true, false, cond, List, [], ◌∷◌, ◌++◌, ◌⊎◌, inl, inr, refl, arith, ap, sym, subst, ◌∙◌}
use Rattle.many_calls.specs.Given.SeizeWorld.{times}
use Rattle.many_calls.specs.Given.TablesDeclared.status.TheConstants.Status.{ABORTED}
use Rattle.many_calls.specs.Given.RuleChart.{Phase, Still, Copying, Copied, Place, Empty, Tombstone, Holds, Share, Free, Claimed, Done, Counted, Lost, Chart, is_marked}
use Rattle.many_calls.specs.Given.RuleRule.{IsHome, Incremental, Blocking, Rule, Agrees, is_of}
use Rattle.many_calls.specs.Given.RuleMaps.{spot_of}
use Rattle.many_calls.specs.Given.PointsSteps.{AreLawful}
use Rattle.many_maps.specs.Orders.{pair_at, with_pairs, pairs_from, pairs_in, pairs_of}
use Rattle.many_maps.proofs.Ends.CountedBlocks.{times-append, some_of_two, some_of_first, some_here, some_first, some_last}
use Rattle.std.proofs.lemmas.Bool.{cases_lt, cases_eq}

-- where the numbers of lists are
module _ {K : Type 0} (incremental : Bool) (c : Chart K) where
  -- the place reclaims the pair
  abbrev pub GivesAt : ℕ → ℕ → ℕ → Type 0
  GivesAt t i n = 0 < times n (pair_at incremental (c.place t i))

  pub in_places : (t i places n : ℕ) → 0 < times n (pairs_from incremental c t i places) → (j : ℕ) × (i ≤ j) × (j < i + places) × GivesAt t j n
  in_places t i zero n some = absurd (omega (arith, some))
  in_places t i (suc places) n some = by (some_of_two n (pair_at incremental (c.place t i)) (pairs_from incremental c t (suc i) places) some) (in_places t (suc i) places n)
    where
      by : GivesAt t i n ⊎ (0 < times n (pairs_from incremental c t (suc i) places))
          → (0 < times n (pairs_from incremental c t (suc i) places) → (j : ℕ) × (suc i ≤ j) × (j < suc i + places) × GivesAt t j n)
          → (j : ℕ) × (i ≤ j) × (j < i + suc places) × GivesAt t j n
      by (inl here) k = (i, omega arith, omega arith, here)
      by (inr later) k = let a = k later in let b = a.1 in let d = a.2 in (a.0, omega (arith, b), omega (arith, d), a.3)

  pub in_tables : (t tables n : ℕ) → 0 < times n (pairs_in incremental c t tables) → (u : ℕ) × (j : ℕ) × (t ≤ u) × (u < t + tables) × (j < c.len u) × GivesAt u j n
  in_tables t zero n some = absurd (omega (arith, some))
  in_tables t (suc tables) n some = by (some_of_two n (pairs_from incremental c t 0 (c.len t)) (pairs_in incremental c (suc t) tables) some) (in_tables (suc t) tables n)
    where
      by : (0 < times n (pairs_from incremental c t 0 (c.len t))) ⊎ (0 < times n (pairs_in incremental c (suc t) tables))
          → (0 < times n (pairs_in incremental c (suc t) tables) → (u : ℕ) × (j : ℕ) × (suc t ≤ u) × (u < suc t + tables) × (j < c.len u) × GivesAt u j n)
          → (u : ℕ) × (j : ℕ) × (t ≤ u) × (u < t + suc tables) × (j < c.len u) × GivesAt u j n
      by (inl here) k = let a = in_places t 0 (c.len t) n here in let b = a.2 in (t, a.0, omega arith, omega arith, omega (arith, b), a.3)
      by (inr later) k = let a = k later in let b = a.2 in let d = a.3 in (a.0, a.1, omega (arith, b), omega (arith, d), a.4, a.5)

  -- a table that reclaims pairs is one of them
  home_of : (tables u : ℕ) → c.first ≤ u → u < c.first + with_pairs incremental tables → cond incremental (c.first ≤ u) (u ≡ c.first)
  home_of tables u from below = by incremental tables below
    where
      by : (b : Bool) (k : ℕ) → u < c.first + with_pairs b k → cond b (c.first ≤ u) (u ≡ c.first)
      by true k l = from
      by false zero l = absurd (omega (arith, from, l))
      by false (suc k) l = omega (arith, from, l)

-- an uncopied pair of the map, at its home
pub record Stands {K : Type 0} (incremental : Bool) (c : Chart K) (t i n : ℕ) : Type 0 where
  pub phase : Phase
  pub borrowed : Bool
  pub there : c.place t i ≡ Holds n phase borrowed
  pub uncopied : phase ≢ Copied
  pub home : cond incremental (c.first ≤ t) (t ≡ c.first)
  pub still : incremental ≡ true → phase ≡ Still

still_of : (n : ℕ) (phase : Phase) (borrowed : Bool) → is_marked (Holds n phase borrowed) ≡ false → phase ≡ Still
still_of n Still borrowed e = refl
still_of n Copying borrowed e = absurd (cc e)
still_of n Copied borrowed e = absurd (cc e)

-- what reclaims a pair holds it
pub gives_pair : (incremental : Bool) (place : Place) (n : ℕ) → 0 < times n (pair_at incremental place)
    → (phase : Phase) × (borrowed : Bool) × (place ≡ Holds n phase borrowed) × (incremental ≡ true → phase ≡ Still)
gives_pair incremental (Empty marked) n some = absurd (omega (arith, some))
gives_pair incremental (Tombstone marked) n some = absurd (omega (arith, some))
gives_pair incremental (Holds o phase borrowed) n some = by incremental (is_marked (Holds o phase borrowed)) refl some
  where
    one : 0 < times n (o ∷ []) → o ≡ n
    one some = elim (some_of_first n o [] some) as (λ _. o ≡ n) [
      | inl e ↦ sym e
      | inr none ↦ absurd (omega (arith, none))
    ]

    by : (b m : Bool) → is_marked (Holds o phase borrowed) ≡ m → 0 < times n (if b && m then [] else o ∷ [])
        → (phase2 : Phase) × (borrowed2 : Bool) × (Holds o phase borrowed ≡ Holds n phase2 borrowed2) × (b ≡ true → phase2 ≡ Still)
    by true true e s = absurd (omega (arith, s))
    by true false e s = (phase, borrowed, ap (λ (x : ℕ). Holds x phase borrowed) (one s), λ _. still_of o phase borrowed e)
    by false m e s = (phase, borrowed, ap (λ (x : ℕ). Holds x phase borrowed) (one s), λ z. absurd (cc z))

pub phases_apart : (n o : ℕ) (b d : Bool) → Holds n Still b ≡ Holds o Copying d → ⊥
phases_apart n o b d e = cc e

module _ {K : Type 0} (same : K → K → Bool) (hash : K → ℕ) (are : AreLawful same hash) (incremental : Bool) (c : Chart K) (rule : Rule same (spot_of hash) incremental c) where
  pub stands_at : (t i n : ℕ) → cond incremental (c.first ≤ t) (t ≡ c.first) → GivesAt incremental c t i n → Stands incremental c t i n
  stands_at t i n home some =
      let g = gives_pair incremental (c.place t i) n some in
      record { phase = g.0; borrowed = g.1; there = g.2; uncopied = uncopied_of incremental refl g.0 g.1 g.2 g.3; home = home; still = g.3 }
    where
      uncopied_of : (b : Bool) → incremental ≡ b → (phase : Phase) (borrowed : Bool) → c.place t i ≡ Holds n phase borrowed → (incremental ≡ true → phase ≡ Still) → phase ≢ Copied
      uncopied_of true e phase borrowed there still copied = let s = still e in cc (s, copied)
      uncopied_of false e phase borrowed there still copied =
          (((subst (λ (b : Bool). cond b (Incremental same (spot_of hash) b c) (Blocking same (spot_of hash) b c)) e rule.in_mode)).plain t i n phase borrowed there).0 copied

  pub stands_current : (t i n : ℕ) → Stands incremental c t i n → c.current n ≡ true
  stands_current t i n s = rule.common.is_current t i n s.phase s.borrowed s.there s.uncopied s.home

  not_aborted : (t : ℕ) → cond incremental (c.first ≤ t) (t ≡ c.first) → c.status t ≢ ABORTED
  not_aborted t home = by incremental refl home
    where
      by : (b : Bool) → incremental ≡ b → cond b (c.first ≤ t) (t ≡ c.first) → c.status t ≢ ABORTED
      by true e h = (subst (λ (b : Bool). cond b (Incremental same (spot_of hash) b c) (Blocking same (spot_of hash) b c)) e rule.in_mode).never_aborted t
      by false e h = subst (λ (u : ℕ). c.status u ≢ ABORTED) (sym h) rule.common.live

  its_key : (t i n : ℕ) → Stands incremental c t i n → (k : K) × (c.key n ≡ Some k) × (is_of same (spot_of hash) incremental k (c.key n) ≡ true)
  its_key t i n s =
      let k = rule.common.keyed t i n s.phase s.borrowed s.there in
      (k.1, k.2, ap (is_of same (spot_of hash) incremental k.1) k.2 ∙ are.lawful.classes.refl k.1)

  pub one_place : (t i j n : ℕ) → Stands incremental c t i n → Stands incremental c t j n → i ≡ j
  one_place t i j n s u = let k = its_key t i n s in rule.common.once t i j n n s.phase u.phase s.borrowed u.borrowed k.0 (not_aborted t s.home) s.there u.there k.2 k.2

  pub one_table : (t u i j n : ℕ) → t < u → Stands incremental c t i n → Stands incremental c u j n → ⊥
  one_table t u i j n l s v = by incremental refl s.home v.home
    where
      by : (b : Bool) → incremental ≡ b → cond b (c.first ≤ t) (t ≡ c.first) → cond b (c.first ≤ u) (u ≡ c.first) → ⊥
      by false e h k = omega (arith, h, k, l)
      by true e h k =
          let bits = subst (λ (b : Bool). cond b (Incremental same (spot_of hash) b c) (Blocking same (spot_of hash) b c)) e rule.in_mode in
          let key = its_key t i n s in
          let here : c.place t i ≡ Holds n Still s.borrowed = s.there ∙ ap (λ (p : Phase). Holds n p s.borrowed) (s.still e) in
          elim (bits.chain t u j n v.phase v.borrowed key.0 v.there key.1 l h) as (λ _. ⊥) [
            | inl shut ↦ (let a = shut.0 i n Still s.borrowed here (ap (is_of same (spot_of hash) true key.0) key.1 ∙ are.lawful.classes.refl key.0) in cc a)
            | inr moving ↦ (let root : c.place t moving.2.0 ≡ Holds n Copying moving.2.1 = ap (λ (x : ℕ). c.place x moving.2.0) moving.0 ∙ moving.2.2 in
                let same_one = rule.common.once t i moving.2.0 n n Still Copying s.borrowed moving.2.1 key.0 (not_aborted t s.home) here root key.2 key.2 in
                phases_apart n n s.borrowed moving.2.1 (sym here ∙ ap (c.place t) same_one ∙ root))
          ]

  -- a pair stands in the list once

  pair_once : (b : Bool) (place : Place) (n : ℕ) → times n (pair_at b place) ≤ 1
  pair_once b (Empty marked) n = omega arith
  pair_once b (Tombstone marked) n = omega arith
  pair_once b (Holds o phase borrowed) n = by (b && is_marked (Holds o phase borrowed))
    where
      by : (t : Bool) → times n (if t then [] else o ∷ []) ≤ 1
      by true = omega arith
      by false = at (n == o)
        where
          at : (t : Bool) → (if t then 1 else 0) + 0 ≤ 1
          at true = omega arith
          at false = omega arith

  places_once : (t i places n : ℕ) → cond incremental (c.first ≤ t) (t ≡ c.first) → times n (pairs_from incremental c t i places) ≤ 1
  places_once t i zero n home = omega arith
  places_once t i (suc places) n home =
      at_most (times n (pair_at incremental (c.place t i))) (times n (pairs_from incremental c t (suc i) places)) (times-append n (pair_at incremental (c.place t i)) (pairs_from incremental c t (suc i) places))
      (pair_once incremental (c.place t i) n) (places_once t (suc i) places n home)
      (λ a b. let k = in_places incremental c t (suc i) places n b in
      let e = one_place t i k.0 n (stands_at t i n home a) (stands_at t k.0 n home k.3) in let l = k.1 in omega (arith, e, l))
    where
      at_most : (a b : ℕ) → times n (pairs_from incremental c t i (suc places)) ≡ a + b → a ≤ 1 → b ≤ 1 → (0 < a → 0 < b → ⊥) → times n (pairs_from incremental c t i (suc places)) ≤ 1
      at_most zero b e p q none = omega (arith, e, q)
      at_most (suc a) zero e p q none = omega (arith, e, p)
      at_most (suc a) (suc b) e p q none = absurd (none (omega arith) (omega arith))

  -- of tables that are homes
  abbrev pub AllHome : ℕ → ℕ → Type 0
  AllHome t tables = (u : ℕ) → t ≤ u → u < t + tables → cond incremental (c.first ≤ u) (u ≡ c.first)

  pub tables_once : (t tables n : ℕ) → AllHome t tables → times n (pairs_in incremental c t tables) ≤ 1
  tables_once t zero n home = omega arith
  tables_once t (suc tables) n home =
      at_most (times n (pairs_from incremental c t 0 (c.len t))) (times n (pairs_in incremental c (suc t) tables))
      (times-append n (pairs_from incremental c t 0 (c.len t)) (pairs_in incremental c (suc t) tables))
      (places_once t 0 (c.len t) n (home t (omega arith) (omega arith)))
      (tables_once (suc t) tables n (λ u l k. home u (omega (arith, l)) (omega (arith, k))))
      (λ a b. let j = in_places incremental c t 0 (c.len t) n a in let k = in_tables incremental c (suc t) tables n b in
      let l = k.2 in let q = k.3 in
      one_table t k.0 j.0 k.1 n (omega (arith, l)) (stands_at t j.0 n (home t (omega arith) (omega arith)) j.3)
      (stands_at k.0 k.1 n (home k.0 (omega (arith, l)) (omega (arith, q))) k.5))
    where
      at_most : (a b : ℕ) → times n (pairs_in incremental c t (suc tables)) ≡ a + b → a ≤ 1 → b ≤ 1 → (0 < a → 0 < b → ⊥) → times n (pairs_in incremental c t (suc tables)) ≤ 1
      at_most zero b e p q none = omega (arith, e, q)
      at_most (suc a) zero e p q none = omega (arith, e, p)
      at_most (suc a) (suc b) e p q none = absurd (none (omega arith) (omega arith))

  pub all_home : AllHome c.first (with_pairs incremental (c.past - c.first))
  all_home u from below = home_of incremental c (c.past - c.first) u from below

  pub pairs_once : (n : ℕ) → times n (pairs_of incremental c) ≤ 1
  pairs_once n = tables_once c.first (with_pairs incremental (c.past - c.first)) n all_home

  pub pairs_current : (n : ℕ) → 0 < times n (pairs_of incremental c) → (c.current n ≡ true) × (n < c.stored)
  pairs_current n some =
      let k = in_tables incremental c c.first (with_pairs incremental (c.past - c.first)) n some in
      let s = stands_at k.0 k.1 n (all_home k.0 k.2 k.3) k.5 in
      (stands_current k.0 k.1 n s, (rule.common.keyed k.0 k.1 n s.phase s.borrowed s.there).0)

-- Each pair of the map is reclaimed, where none is being copied.
module _ {K : Type 0} (incremental : Bool) (c : Chart K) where
  places_in : (t i places j n : ℕ) → i ≤ j → j < i + places → GivesAt incremental c t j n → 0 < times n (pairs_from incremental c t i places)
  places_in t i zero j n from below some = absurd (omega (arith, from, below))
  places_in t i (suc places) j n from below some = by (cases_eq j i) (λ l. places_in t (suc i) places j n l (omega (arith, below)) some)
    where
      by : (j ≡ i) ⊎ (j ≢ i) → (suc i ≤ j → 0 < times n (pairs_from incremental c t (suc i) places)) → 0 < times n (pair_at incremental (c.place t i) ++ pairs_from incremental c t (suc i) places)
      by (inl is) k = some_first n (pair_at incremental (c.place t i)) (pairs_from incremental c t (suc i) places) (subst (λ (x : ℕ). GivesAt incremental c t x n) is some)
      by (inr ne) k = some_last n (pair_at incremental (c.place t i)) (pairs_from incremental c t (suc i) places) (k (omega (arith, from, ne)))

  tables_in_order : (t tables u j n : ℕ) → t ≤ u → u < t + tables → j < c.len u → GivesAt incremental c u j n → 0 < times n (pairs_in incremental c t tables)
  tables_in_order t zero u j n from below inside some = absurd (omega (arith, from, below))
  tables_in_order t (suc tables) u j n from below inside some = by (cases_eq u t) (λ l. tables_in_order (suc t) tables u j n l (omega (arith, below)) inside some)
    where
      by : (u ≡ t) ⊎ (u ≢ t) → (suc t ≤ u → 0 < times n (pairs_in incremental c (suc t) tables)) → 0 < times n (pairs_from incremental c t 0 (c.len t) ++ pairs_in incremental c (suc t) tables)
      by (inl is) k = some_first n (pairs_from incremental c t 0 (c.len t)) (pairs_in incremental c (suc t) tables)
          (places_in t 0 (c.len t) j n (omega arith) (let l = subst (λ (x : ℕ). j < c.len x) is inside in omega (arith, l)) (subst (λ (x : ℕ). GivesAt incremental c x j n) is some))
      by (inr ne) k = some_last n (pairs_from incremental c t 0 (c.len t)) (pairs_in incremental c (suc t) tables) (k (omega (arith, from, ne)))

  -- a home is one of the tables that reclaim pairs
  home_in : (u : ℕ) → cond incremental (c.first ≤ u) (u ≡ c.first) → u < c.past → (c.first ≤ u) × (u < c.first + with_pairs incremental (c.past - c.first))
  home_in u home made = by incremental home (c.past - c.first) refl
    where
      by : (b : Bool) → cond b (c.first ≤ u) (u ≡ c.first) → (k : ℕ) → c.past - c.first ≡ k → (c.first ≤ u) × (u < c.first + with_pairs b k)
      by true h k e = (h, omega (arith, h, made, e))
      by false h zero e = absurd (omega (arith, h, made, e))
      by false h (suc k) e = (omega (arith, h), omega (arith, h))

  marked_none : (n : ℕ) (phase : Phase) (borrowed : Bool) (b : Bool) → (b ≡ true → phase ≡ Still) → pair_at b (Holds n phase borrowed) ≡ n ∷ []
  marked_none n phase borrowed false still = refl
  marked_none n Still borrowed true still = refl
  marked_none n Copying borrowed true still = absurd (let e = still refl in cc e)
  marked_none n Copied borrowed true still = absurd (let e = still refl in cc e)

-- Where no caller is to copy a place of the root, no pair of it is being copied.
module _ {K : Type 0} (same : K → K → Bool) (hash : K → ℕ) (incremental : Bool) (c : Chart K) (rule : Rule same (spot_of hash) incremental c)
    (none : incremental ≡ true → (i j : ℕ) → c.share (suc c.first) i ≢ Claimed j) where
  pub none_copying : incremental ≡ true → (i n : ℕ) (borrowed : Bool) → c.place c.first i ≡ Holds n Copying borrowed → ⊥
  none_copying bit i n borrowed there = by (c.share (suc c.first) i) refl (subst (λ (p : Place). Agrees (c.share (suc c.first) i) p) there (bits.shares i (inside (cases_lt i (c.len c.first)))))
    where
      bits : Incremental same (spot_of hash) true c
      bits = subst (λ (b : Bool). cond b (Incremental same (spot_of hash) b c) (Blocking same (spot_of hash) b c)) bit rule.in_mode

      linked : (c.first < c.past) ⊎ (c.past ≤ c.first) → c.first < c.past
      linked (inl l) = l
      linked (inr l) = absurd (let e = rule.common.unmade c.first i l in cc (e, there))

      inside : (i < c.len c.first) ⊎ (c.len c.first ≤ i) → i < c.len c.first
      inside (inl l) = l
      inside (inr l) = absurd (let e = rule.common.outside c.first i (linked (cases_lt c.first c.past)) l in cc (e, there))

      by : (s : Share) → c.share (suc c.first) i ≡ s → Agrees (c.share (suc c.first) i) (Holds n Copying borrowed) → ⊥
      by s e a = at s e (subst (λ (x : Share). Agrees x (Holds n Copying borrowed)) e a)
        where
          at : (s : Share) → c.share (suc c.first) i ≡ s → Agrees s (Holds n Copying borrowed) → ⊥
          at Free e a = cc a
          at (Done j) e a = cc a
          at Counted e a = cc a
          at Lost e a = a
          at (Claimed j) e a = none bit i j e

module _ {K : Type 0} (same : K → K → Bool) (hash : K → ℕ) (are : AreLawful same hash) (incremental : Bool) (c : Chart K) (rule : Rule same (spot_of hash) incremental c)
    (none_copying : incremental ≡ true → (i n : ℕ) (borrowed : Bool) → c.place c.first i ≡ Holds n Copying borrowed → ⊥) where
  pub current_given : (n : ℕ) → c.current n ≡ true → 0 < times n (pairs_of incremental c)
  current_given n current =
      let s = rule.common.stands n current in
      let made = linked s.0 s.1 s.2 s.3 s.4 (cases_lt s.0 c.past) in
      let h = home_in incremental c s.0 s.6 made in
      tables_in_order incremental c c.first (with_pairs incremental (c.past - c.first)) s.0 s.1 n h.0 h.1 (inside s.0 s.1 s.2 s.3 s.4 made (cases_lt s.1 (c.len s.0)))
      (subst (λ (p : Place). 0 < times n (pair_at incremental p)) (sym s.4)
      (subst (λ (l : List ℕ). 0 < times n l) (sym (marked_none incremental c n s.2 s.3 incremental (λ b. still b s.0 s.1 s.2 s.3 s.4 s.5 s.6))) (some_here n [])))
    where
      linked : (t i : ℕ) (phase : Phase) (borrowed : Bool) → c.place t i ≡ Holds n phase borrowed → (t < c.past) ⊎ (c.past ≤ t) → t < c.past
      linked t i phase borrowed there (inl l) = l
      linked t i phase borrowed there (inr l) = absurd (let e = rule.common.unmade t i l in cc (e, there))

      inside : (t i : ℕ) (phase : Phase) (borrowed : Bool) → c.place t i ≡ Holds n phase borrowed → t < c.past → (i < c.len t) ⊎ (c.len t ≤ i) → i < c.len t
      inside t i phase borrowed there made (inl l) = l
      inside t i phase borrowed there made (inr l) = absurd (let e = rule.common.outside t i made l in cc (e, there))

      still : incremental ≡ true → (t i : ℕ) (phase : Phase) (borrowed : Bool) → c.place t i ≡ Holds n phase borrowed → phase ≢ Copied → IsHome same (spot_of hash) incremental c t → phase ≡ Still
      still b t i Still borrowed there uncopied home = refl
      still b t i Copied borrowed there uncopied home = absurd (uncopied refl)
      still b t i Copying borrowed there uncopied home = absurd (by (cases_eq t c.first))
        where
          by : (t ≡ c.first) ⊎ (t ≢ c.first) → ⊥
          by (inl is) = none_copying b i n borrowed (ap (λ (u : ℕ). c.place u i) (sym is) ∙ there)
          by (inr ne) =
              let from = subst (λ (q : Bool). cond q (c.first ≤ t) (t ≡ c.first)) b home in
              let plain = rule.common.unmarked t i (omega (arith, from, ne)) in
              cc (plain, ap is_marked there)

  -- once
  pub each_once : (n : ℕ) → times n (pairs_of incremental c) ≡ cond (c.current n) 1 0
  each_once n = by (c.current n) refl (times n (pairs_of incremental c)) refl
    where
      by : (b : Bool) → c.current n ≡ b → (k : ℕ) → times n (pairs_of incremental c) ≡ k → times n (pairs_of incremental c) ≡ cond b 1 0
      by true e k is = let a = current_given n e in let o = pairs_once same hash are incremental c rule n in omega (arith, a, o)
      by false e zero is = is
      by false e (suc k) is = absurd (let a = (pairs_current same hash are incremental c rule n (omega (arith, is))).0 in cc (a, e))
