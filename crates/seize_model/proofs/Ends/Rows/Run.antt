-- A machine that runs alone on a memory: how many steps it still goes on, as a number of the memory and the machine.
use Rattle.std.specs.Prelude.{if◌then◌else◌, ◌==◌, Option, Some, None, Ok, Err}
use Rattle.std.proofs.Common.{◌≡◌, ℕ, zero, suc, ◌<◌, ◌≤◌, Bool, true, false, refl, arith, ap, sym, subst, eqb-true, ltb, ltb-true, ltb-false, ◌∙◌}
use Rattle.std.proofs.lemmas.Bool.{eqb-false, eq-eqb}
use Rattle.seize.specs.Given.SeizeWordsMem.{Mem, Took, Gives, after, value_at, word_at}
use Rattle.seize.specs.Given.SeizeWordsOp.{Op, Out, Load, Store, Swap, Add, Or, Exchange, Make, Take, Rewrite, Room, Found, Stored, Exchanged, Made, Taken, Roomed}
use Rattle.seize.specs.Given.SeizeWordsPlan.{Plan, Then, Turn, Do, Now, Seeing, Sure, Steps, Ends}
use Rattle.seize_rule.proofs.Words.Kept.{IsQuiet, IsQuietPlan}

abbrev pub bound_to : {A B : Type 0} → Option A → (A → Option B) → Option B
bound_to None f = None
bound_to (Some a) f = f a

module _ {T : Type 0} where
  -- the answer of an operation that has one alone
  abbrev pub exchange_of : ℕ → ℕ → Out T
  exchange_of old w = if w == old then Exchanged (Ok w) else Exchanged (Err w)

  abbrev pub answer : Mem T → Op T → Option (Out T)
  answer m (Load name) = bound_to (word_at m name) (λ w. Some (Found w))
  answer m (Store name new) = Some Stored
  answer m (Swap name new) = bound_to (word_at m name) (λ w. Some (Found w))
  answer m (Add name by) = bound_to (word_at m name) (λ w. Some (Found w))
  answer m (Or name bits) = bound_to (word_at m name) (λ w. Some (Found w))
  answer m (Exchange name old new) = bound_to (word_at m name) (λ w. Some (exchange_of old w))
  answer m (Take b) = bound_to (value_at m b) (λ value. Some (Taken value))
  answer m (Rewrite b new) = bound_to (value_at m b) (λ value. Some (Taken value))
  answer m (Make value words) = None
  answer m (Room bucket) = None

  module _ {R : Type 0} where
    abbrev pub outcome_of : (ℕ → Option T) → Then T R → Option R
    outcome_of shown (Now r) = Some r
    outcome_of shown (Seeing block rest) = bound_to (shown block) (λ value. outcome_of shown (rest value))
    outcome_of shown (Sure fact rest) = outcome_of shown rest

    abbrev pub with_mem : Mem T → Option R → Option (Mem T × R)
    with_mem m o = bound_to o (λ r. Some (m, r))

    -- the memory and the outcome after the step
    abbrev pub next_of : Mem T → Plan T R → Option (Mem T × R)
    next_of m (Turn rest) = with_mem m (outcome_of (value_at m) rest)
    next_of m (Do op rest) = bound_to (answer m op) (λ out. with_mem (after m op out) (outcome_of (value_at (after m op out)) (rest out)))

    -- it is the one that the step comes to

    outcome_is : (shown : ℕ → Option T) (rest : Then T R) (end : R) → Ends shown rest end → outcome_of shown rest ≡ Some end
    outcome_is shown (Now r) end h = ap Some (sym h)
    outcome_is shown (Seeing block rest) end h = ap (λ o. bound_to o (λ value. outcome_of shown (rest value))) h.1 ∙ outcome_is shown (rest h.0) end h.2
    outcome_is shown (Sure fact rest) end h = outcome_is shown rest end h

    is_outcome : (shown : ℕ → Option T) (rest : Then T R) (end : R) → outcome_of shown rest ≡ Some end → Ends shown rest end
    is_outcome shown (Now r) end h = some_one h
      where
        some_one : Some r ≡ Some end → end ≡ r
        some_one e = cc e
    is_outcome shown (Seeing block rest) end h = one (shown block) refl h (λ value k. is_outcome shown (rest value) end k)
      where
        one : (o : Option T) → shown block ≡ o → bound_to o (λ value. outcome_of shown (rest value)) ≡ Some end → ((value : T) → outcome_of shown (rest value) ≡ Some end → Ends shown (rest value) end)
            → (value : T) × (shown block ≡ Some value) × Ends shown (rest value) end
        one None e k back = absurd (cc k)
        one (Some value) e k back = (value, e, back value k)
    is_outcome shown (Sure fact rest) end h = is_outcome shown rest end h

  answer_is : (m : Mem T) (op : Op T) (out : Out T) → IsQuiet op → Gives m op out → answer m op ≡ Some out
  answer_is m (Load name) (Found w) q g = ap (λ o. bound_to o (λ w. Some (Found w))) g
  answer_is m (Store name new) Stored q g = refl
  answer_is m (Swap name new) (Found w) q g = ap (λ o. bound_to o (λ w. Some (Found w))) g
  answer_is m (Add name by) (Found w) q g = ap (λ o. bound_to o (λ w. Some (Found w))) g
  answer_is m (Or name bits) (Found w) q g = ap (λ o. bound_to o (λ w. Some (Found w))) g
  answer_is m (Exchange name old new) (Exchanged (Ok w)) q g = ap (λ o. bound_to o (λ w. Some (exchange_of old w))) g.0 ∙ ap (λ t. Some (if t then Exchanged (Ok w) else Exchanged (Err w))) (eq-eqb w old g.1)
  answer_is m (Exchange name old new) (Exchanged (Err w)) q g = ap (λ o. bound_to o (λ w. Some (exchange_of old w))) g.0 ∙ ap (λ t. Some (if t then Exchanged (Ok w) else Exchanged (Err w))) (apart (w == old) (λ e. g.1 (eqb-true w old e)))
    where
      apart : (t : Bool) → (t ≡ true → ⊥) → t ≡ false
      apart true h = absurd (h refl)
      apart false h = refl
  answer_is m (Take b) (Taken value) q g = ap (λ o. bound_to o (λ value. Some (Taken value))) g
  answer_is m (Make value words) out q g = absurd q
  answer_is m (Rewrite b new) out q g = absurd q
  answer_is m (Room bucket) out q g = absurd q
  answer_is m op (Found a) q g = absurd g
  answer_is m op Stored q g = absurd g
  answer_is m op (Exchanged (Ok a)) q g = absurd g
  answer_is m op (Exchanged (Err a)) q g = absurd g
  answer_is m op (Made (Ok a)) q g = absurd g
  answer_is m op (Made (Err a)) q g = absurd g
  answer_is m op (Taken a) q g = absurd g
  answer_is m op (Roomed (Ok a)) q g = absurd g
  answer_is m op (Roomed (Err a)) q g = absurd g

  found_gives : (o : Option ℕ) (out : Out T) → bound_to o (λ w. Some (Found w)) ≡ Some out → (w : ℕ) × (o ≡ Some w) × (out ≡ Found w)
  found_gives None out h = absurd (cc h)
  found_gives (Some w) out h = (w, refl, cc h)

  taken_gives : (o : Option T) (out : Out T) → bound_to o (λ w. Some (Taken w)) ≡ Some out → (w : T) × (o ≡ Some w) × (out ≡ Taken w)
  taken_gives None out h = absurd (cc h)
  taken_gives (Some w) out h = (w, refl, cc h)

  exchanged_gives : (old : ℕ) (o : Option ℕ) (out : Out T) → bound_to o (λ w. Some (exchange_of old w)) ≡ Some out → (w : ℕ) × (o ≡ Some w) × (out ≡ exchange_of old w)
  exchanged_gives old None out h = absurd (cc h)
  exchanged_gives old (Some w) out h = (w, refl, cc h)

  is_answer : (m : Mem T) (op : Op T) (out : Out T) → answer m op ≡ Some out → Gives m op out
  is_answer m (Load name) out h = let k = found_gives (word_at m name) out h in subst (λ (o : Out T). Gives m (Load name) o) (sym k.2) k.1
  is_answer m (Store name new) out h = subst (λ (o : Out T). Gives m (Store name new) o) (one h) tt
    where
      one : Some Stored ≡ Some out → Stored ≡ out
      one e = cc e
  is_answer m (Swap name new) out h = let k = found_gives (word_at m name) out h in subst (λ (o : Out T). Gives m (Swap name new) o) (sym k.2) k.1
  is_answer m (Add name by) out h = let k = found_gives (word_at m name) out h in subst (λ (o : Out T). Gives m (Add name by) o) (sym k.2) k.1
  is_answer m (Or name bits) out h = let k = found_gives (word_at m name) out h in subst (λ (o : Out T). Gives m (Or name bits) o) (sym k.2) k.1
  is_answer m (Exchange name old new) out h =
      let k = exchanged_gives old (word_at m name) out h in
      subst (λ (o : Out T). Gives m (Exchange name old new) o) (sym k.2) (one k.0 k.1 (k.0 == old) (eqb-true k.0 old) (eqb-false k.0 old))
    where
      one : (w : ℕ) → word_at m name ≡ Some w → (t : Bool) → (t ≡ true → w ≡ old) → (t ≡ false → w ≡ old → ⊥) → Gives m (Exchange name old new) (if t then Exchanged (Ok w) else Exchanged (Err w))
      one w is true e f = (is, e refl)
      one w is false e f = (is, f refl)
  is_answer m (Take b) out h = let k = taken_gives (value_at m b) out h in subst (λ (o : Out T). Gives m (Take b) o) (sym k.2) k.1
  is_answer m (Rewrite b new) out h = let k = taken_gives (value_at m b) out h in subst (λ (o : Out T). Gives m (Rewrite b new) o) (sym k.2) k.1
  is_answer m (Make value words) out h = absurd (cc h)
  is_answer m (Room bucket) out h = absurd (cc h)

  module _ {R : Type 0} where
    with_mem_is : (m : Mem T) (o : Option R) (q : Mem T × R) → with_mem m o ≡ Some q → (o ≡ Some q.1) × (q.0 ≡ m)
    with_mem_is m None q h = absurd (cc h)
    with_mem_is m (Some r) q h = let e : q ≡ (m, r) = one h in (ap (λ (k : Mem T × R). Some k.1) (sym e), ap (λ (k : Mem T × R). k.0) e)
      where
        one : Some (m, r) ≡ Some q → q ≡ (m, r)
        one e = cc e

    next_is : (mem mem2 : Mem T) (plan : Plan T R) (end : R) → IsQuietPlan plan → Steps Took value_at mem plan mem2 end → next_of mem plan ≡ Some (mem2, end)
    next_is mem mem2 (Turn rest) end q st =
        subst (λ (k : Mem T). with_mem mem (outcome_of (value_at mem) rest) ≡ Some (k, end)) (sym st.0)
        (ap (with_mem mem) (outcome_is (value_at mem) rest end (subst (λ (k : Mem T). Ends (value_at k) rest end) st.0 st.1)))
    next_is mem mem2 (Do op rest) end q st =
        let n = after mem op st.0 in
        ap (λ o. bound_to o (λ out. with_mem (after mem op out) (outcome_of (value_at (after mem op out)) (rest out)))) (answer_is mem op st.0 q st.1.0)
        ∙ subst (λ (k : Mem T). with_mem n (outcome_of (value_at n) (rest st.0)) ≡ Some (k, end)) (sym st.1.1)
        (ap (with_mem n) (outcome_is (value_at n) (rest st.0) end (subst (λ (k : Mem T). Ends (value_at k) (rest st.0) end) st.1.1 st.2)))

    is_next : (mem mem2 : Mem T) (plan : Plan T R) (end : R) → next_of mem plan ≡ Some (mem2, end) → Steps Took value_at mem plan mem2 end
    is_next mem mem2 (Turn rest) end h =
        let k = with_mem_is mem (outcome_of (value_at mem) rest) (mem2, end) h in
        (k.1, subst (λ (q : Mem T). Ends (value_at q) rest end) (sym k.1) (is_outcome (value_at mem) rest end k.0))
    is_next mem mem2 (Do op rest) end h = one (answer mem op) refl h
      where
        one : (o : Option (Out T)) → answer mem op ≡ o → bound_to o (λ out. with_mem (after mem op out) (outcome_of (value_at (after mem op out)) (rest out))) ≡ Some (mem2, end)
            → (out : Out T) × Took mem op out mem2 × Ends (value_at mem2) (rest out) end
        one None e k = absurd (cc k)
        one (Some out) e k =
            let n = after mem op out in
            let a = with_mem_is n (outcome_of (value_at n) (rest out)) (mem2, end) k in
            (out, (is_answer mem op out e, a.1), subst (λ (q : Mem T). Ends (value_at q) (rest out) end) (sym a.1) (is_outcome (value_at n) (rest out) end a.0))

-- a machine of state S, whose steps have the outcomes O; some say that it goes on
module _ {T S O : Type 0} (plan : S → Plan T (S × O)) (goes : O → Bool) where
  -- it goes on for fewer than so many steps
  abbrev pub EndsWithin : ℕ → Mem T → S → Type 0
  EndsWithin zero mem s = ⊥
  EndsWithin (suc k) mem s = (mem2 : Mem T) (end : S × O) → Steps Took value_at mem (plan s) mem2 end → goes end.1 ≡ true → EndsWithin k mem2 end.0

  -- how many steps it goes on, counted up to a number
  abbrev pub went_on : (Mem T → S → ℕ) → Option (Mem T × (S × O)) → ℕ
  went_on rest None = 0
  went_on rest (Some r) = if goes r.1.1 then suc (rest r.0 r.1.0) else 0

  abbrev pub to_go : ℕ → Mem T → S → ℕ
  to_go zero mem s = 0
  to_go (suc k) mem s = went_on (λ mem2 s2. to_go k mem2 s2) (next_of mem (plan s))

  -- the number that it is counted up to doesn't matter, if it is enough
  stable : (j k k2 : ℕ) (mem : Mem T) (s : S) → EndsWithin j mem s → j ≤ k → j ≤ k2 → to_go k mem s ≡ to_go k2 mem s
  stable zero k k2 mem s h a b = absurd h
  stable (suc j) zero k2 mem s h a b = absurd (omega (arith, a))
  stable (suc j) (suc k) zero mem s h a b = absurd (omega (arith, b))
  stable (suc j) (suc k) (suc k2) mem s h a b =
      one (next_of mem (plan s)) (λ mem2 end e g. stable j k k2 mem2 end.0 (h mem2 end (is_next mem mem2 (plan s) end e) g) (omega (arith, a)) (omega (arith, b)))
    where
      one : (o : Option (Mem T × (S × O))) → ((mem2 : Mem T) (end : S × O) → o ≡ Some (mem2, end) → goes end.1 ≡ true → to_go k mem2 end.0 ≡ to_go k2 mem2 end.0)
          → went_on (λ mem2 s2. to_go k mem2 s2) o ≡ went_on (λ mem2 s2. to_go k2 mem2 s2) o
      one None f = refl
      one (Some (mem2, end)) f = two (goes end.1) (f mem2 end refl)
        where
          two : (t : Bool) → (t ≡ true → to_go k mem2 end.0 ≡ to_go k2 mem2 end.0) → (if t then suc (to_go k mem2 end.0) else 0) ≡ (if t then suc (to_go k2 mem2 end.0) else 0)
          two true g = ap (λ n. suc n) (g refl)
          two false g = refl

  -- with each step there is one less
  pub to_go_falls : (j k j2 k2 : ℕ) (mem mem2 : Mem T) (s : S) (end : S × O) → IsQuietPlan (plan s) → EndsWithin j mem s → j ≤ k → EndsWithin j2 mem2 end.0 → j2 ≤ k2
      → Steps Took value_at mem (plan s) mem2 end → goes end.1 ≡ true → to_go k2 mem2 end.0 < to_go k mem s
  to_go_falls zero k j2 k2 mem mem2 s end q h a h2 b st g = absurd h
  to_go_falls (suc j) zero j2 k2 mem mem2 s end q h a h2 b st g = absurd (omega (arith, a))
  to_go_falls (suc j) (suc k) j2 k2 mem mem2 s end q h a h2 b st g =
      let e : to_go (suc k) mem s ≡ suc (to_go k mem2 end.0) =
      ap (went_on (λ m p. to_go k m p)) (next_is mem mem2 (plan s) end q st) ∙ ap (λ t. if t then suc (to_go k mem2 end.0) else 0) g in
      let same : to_go k2 mem2 end.0 ≡ to_go k mem2 end.0 = one (ltb j j2) refl (h mem2 end st g) in
      omega (arith, e, same)
    where
      one : (t : Bool) → ltb j j2 ≡ t → EndsWithin j mem2 end.0 → to_go k2 mem2 end.0 ≡ to_go k mem2 end.0
      one true l h1 = let c = ltb-true j j2 l in stable j k2 k mem2 end.0 h1 (omega (arith, c, b)) (omega (arith, a))
      one false l h1 = let c = ltb-false j j2 l in stable j2 k2 k mem2 end.0 h2 b (omega (arith, c, a))
