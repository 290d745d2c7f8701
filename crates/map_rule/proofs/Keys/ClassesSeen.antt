-- What is found at the place of a try says of the keys that are looked for: whether the map has a pair of them, or where it is to be
-- looked for further.
use Rattle.std.proofs.Common.{◌≡◌, ℕ, zero, suc, ◌≤◌, Bool, true, false, Option, Some, inl, inr, refl, ap, sym, subst, ◌∙◌, arith}
use Rattle.map_rule.specs.Chart.{Copied, Place, Empty, Tombstone, Holds, Chart, is_taken}
use Rattle.map_rule.specs.Rule.{IsLawful, is_of, names, tried, Passed, Shut, ShutBefore, Rule}
use Rattle.map_rule.specs.Maps.{spot_at, spot_of, IsClass, NoneBefore, IsAbsent}
use Rattle.map_rule.proofs.Keys.AllBelow.{all_below}
use Rattle.map_rule.proofs.Moves.Shuts.{none_at_end, one_in_table}
use Rattle.map_rule.proofs.Keys.Absent.{NoCurrent, no_current_blocking_past}
use Rattle.map_rule.proofs.Words.WordsSeen.{HasKey, Tells, SaysPassed}

module _ {K : Type 0} (same : K → K → Bool) (hash : K → ℕ) (lawful : IsLawful same (spot_of hash)) (keys : K → Bool) (code : ℕ) (class : IsClass same hash keys code) where
  -- a pair of the keys is one of the class of each of them
  pub is_of_keys : (incremental : Bool) (k other : K) (key : Option K) → key ≡ Some other → keys k ≡ true → is_of same (spot_of hash) incremental k key ≡ keys other
  is_of_keys incremental k other key has asked = ap (is_of same (spot_of hash) incremental k) has ∙ sym (class.one k other asked)

  -- the place of a try of the keys
  pub tried_is : (incremental : Bool) (c : Chart K) (t j : ℕ) (k : K) → keys k ≡ true → tried same (spot_of hash) incremental c t k j ≡ c.place t (spot_at (c.len t) code j)
  tried_is incremental c t j k asked = ap (λ h. c.place t (spot_at (c.len t) h j)) (class.hashes k asked)

  -- where each of them has no pair in the map, they have none
  pub absent_of : (incremental : Bool) (c : Chart K) → ((k : K) → keys k ≡ true → NoCurrent same (spot_of hash) c k) → IsAbsent same hash incremental c keys
  absent_of incremental c none n k current has = by_key (keys k) refl
    where
      by_key : (b : Bool) → keys k ≡ b → keys k ≡ false
      by_key false e = e
      by_key true e = absurd (none k e n current (is_of_keys true k k (c.key n) has e ∙ e))

  -- a place that tells of none of them names none of their class
  pub names_none : (incremental : Bool) (key : ℕ → Option K) (place : Place) (k : K) → keys k ≡ true → HasKey keys key place → Tells keys key place false
      → names same (spot_of hash) incremental key k place ≡ false
  names_none incremental key (Empty mark) k asked has tells = refl
  names_none incremental key (Tombstone mark) k asked has tells = refl
  names_none incremental key (Holds n phase borrowed) k asked has tells =
      let kept = has n phase borrowed refl in is_of_keys incremental k kept.0 (key n) kept.1 asked ∙ sym (tells n phase borrowed kept.0 refl kept.1)

  module _ (c : Chart K) (t j : ℕ) where
    -- the place of the try
    abbrev here : Place
    here = c.place t (spot_at (c.len t) code j)

    -- a try is passed
    pub passed_further : (incremental : Bool) → ((k : K) → keys k ≡ true → Passed same (spot_of hash) incremental c t k j) → HasKey keys c.key (c.place t (spot_at (c.len t) code j))
        → SaysPassed keys c.key (c.place t (spot_at (c.len t) code j)) incremental → (k : K) → keys k ≡ true → Passed same (spot_of hash) incremental c t k (suc j)
    passed_further incremental before has passed k asked =
        let at : tried same (spot_of hash) incremental c t k j ≡ here = tried_is incremental c t j k asked in
        all_below
        (λ g. (is_taken incremental (tried same (spot_of hash) incremental c t k g) ≡ true) × (names same (spot_of hash) incremental c.key k (tried same (spot_of hash) incremental c t k g) ≡ false))
        j (before k asked)
        (ap (is_taken incremental) at ∙ passed.0, ap (names same (spot_of hash) incremental c.key k) at ∙ names_none incremental c.key here k asked has passed.1)

    pub none_further : (incremental : Bool) → NoneBefore same hash incremental c keys t j → HasKey keys c.key (c.place t (spot_at (c.len t) code j))
        → SaysPassed keys c.key (c.place t (spot_at (c.len t) code j)) incremental → NoneBefore same hash incremental c keys t (suc j)
    none_further incremental none has passed k asked = (passed_further incremental (λ other is. (none other is).0) has passed k asked, (none k asked).1)

  -- in incremental mode, one more table is shut for a key
  pub shut_next : (c : Chart K) (t : ℕ) (k : K) → ShutBefore same (spot_of hash) true c t k → Shut same (spot_of hash) true c t k → ShutBefore same (spot_of hash) true c (suc t) k
  shut_next c t k = all_below (λ x. Shut same (spot_of hash) true c x k) t

  -- in incremental mode, all tries at a table are passed
  pub shut_past : (c : Chart K) → Rule same (spot_of hash) true c → (t : ℕ) → NoneBefore same hash true c keys t (suc (c.limit t))
      → (k : K) → keys k ≡ true → ShutBefore same (spot_of hash) true c (suc t) k
  shut_past c rule t none k asked =
      shut_next c t k (none k asked).1 (
        (λ i n phase borrowed at is. absurd (none_at_end same (spot_of hash) true lawful c rule.common t k (rule.in_mode.never_aborted t) (none k asked).0 i n phase borrowed at is)),
        inr (λ g l. ((none k asked).0 g (omega arith)).0),
      )

  -- in blocking mode
  pub absent_past : (c : Chart K) → Rule same (spot_of hash) false c → (t : ℕ) → NoneBefore same hash false c keys t (suc (c.limit t)) → IsAbsent same hash false c keys
  absent_past c rule t none = absent_of false c (λ k asked. no_current_blocking_past same (spot_of hash) lawful c rule k (at_root k asked))
    where
      at_root : (k : K) → keys k ≡ true → Passed same (spot_of hash) false c c.first k (suc (c.limit c.first))
      at_root k asked = let n = none k asked in subst (λ x. Passed same (spot_of hash) false c x k (suc (c.limit x))) n.1 n.0

  -- in incremental mode, their pair was copied from the table
  pub shut_moved : (c : Chart K) → Rule same (spot_of hash) true c → (t j i n : ℕ) (borrowed : Bool) (other : K) → NoneBefore same hash true c keys t j
      → c.place t i ≡ Holds n Copied borrowed → c.key n ≡ Some other → keys other ≡ true → (k : K) → keys k ≡ true → ShutBefore same (spot_of hash) true c (suc t) k
  shut_moved c rule t j i n borrowed other none holds has found k asked =
      shut_next c t k (none k asked).1 (
        (λ i2 o phase borrowed2 at is2.
            (one_in_table same (spot_of hash) true c rule.common k t i i2 n o Copied phase borrowed borrowed2 (rule.in_mode.never_aborted t) holds is at is2).1),
        inl (i, n, borrowed, holds, is),
      )
    where
      is : is_of same (spot_of hash) true k (c.key n) ≡ true
      is = is_of_keys true k other (c.key n) has asked ∙ found

  -- there is no table
  pub absent_rootless : (incremental : Bool) (c : Chart K) → Rule same (spot_of hash) incremental c → c.past ≤ c.first → IsAbsent same hash incremental c keys
  absent_rootless incremental c rule none = absent_of incremental c (λ k asked n current is. nowhere n current)
    where
      no_table : (p : ℕ) → c.past ≡ p → c.past ≡ 0
      no_table zero e = e
      no_table (suc p) e = let l = rule.common.rooted (omega arith) in absurd (omega arith)

      nowhere : (n : ℕ) → c.current n ≡ true → ⊥
      nowhere n current =
          let s = rule.common.stands n current in
          let e = no_table c.past refl in
          cc (s.4, rule.common.unmade s.0 s.1 (omega arith))
