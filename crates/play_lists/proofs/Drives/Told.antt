-- A step of which is told what it has changed is computed, from what the memory was seen to choose: and so is what it has changed. What an operation has
-- answered is told by the memory before it and after it.
use Rattle.std.specs.Prelude.{◌≢◌, ◌⊎◌, ◌+◌, ◌==◌, ◌++◌, Option, Some, None, Result, Ok, Err, length, replicate, if◌then◌else◌}
use Rattle.std.proofs.Common.{◌≡◌, ℕ, Bool, List, inl, inr, refl, sym, ap, subst, arith, ◌∙◌}
use Rattle.std.proofs.lemmas.Bool.{cases_eq, eq-eqb, ne_eqb}
use Rattle.std.proofs.lemmas.List.{length-append, length-replicate}
use Rattle.run_schedules.specs.Given.SeizeWordsMem.{Mem, Can, Gives, Took, after, block_of, fresh, value_at}
use Rattle.run_schedules.specs.Given.SeizeWordsOp.{Op, Out, Load, Store, Swap, Add, Or, Exchange, Make, Take, Rewrite, Room, Found, Stored, Exchanged, Made, Taken, Roomed}
use Rattle.run_schedules.specs.Given.SeizeWordsPlace.{capacity}
use Rattle.run_schedules.specs.Given.SeizeWordsPlan.{Plan, Then, Turn, Do, Now, Seeing, Sure, Ends, May, Steps}
use Rattle.run_schedules.specs.Given.SeizeWordsSlotWords.{with_bucket}
use Rattle.run_schedules.specs.Given.SeizeWordsDeclared.fault.Fault.{Fault}
use Rattle.run_schedules.specs.Given.SeizeWordsDeclared.slots.TheConstants.{SLOT_WORDS}
use Rattle.run_schedules.proofs.Given.SeizeWordsOneOwner.AfterWrites.{block_of-made}
use Rattle.seize_acts.specs.Acts.Answers.{Grant, answer, ends, stepped, then_on}
use Rattle.seize_acts.proofs.Acts.Answers.{some}
use Rattle.seize_acts.proofs.Acts.Steps.{steps_so}
use Rattle.map_tables.specs.declared.node.Node.{Node}
use Rattle.run_finds.specs.Given.TellerTells.{StepsObserved}
use Rattle.run_kept.specs.Given.EffectsDeclared.changed.Changed.{Changed}
use Rattle.run_kept.specs.Given.EffectsDeclared.changed.Changed.TheVariants.{Nothing as NoChange}
use Rattle.many_acts.specs.Acts.AsSteps.{changed_as, changed_of}
use Rattle.run_finds.proofs.Given.General.{same_some}

-- a bucket that was made is there
abbrev empty_slot : List ℕ
empty_slot = replicate SLOT_WORDS 0

no_longer : (slots more : List (List ℕ)) (bucket : ℕ) → length more ≡ capacity bucket → length slots + 32 ≡ capacity bucket → slots ++ more ≡ slots → ⊥
no_longer slots more bucket count next same =
    let long : length (slots ++ more) ≡ length slots + length more = length-append slots more in
    let is : length (slots ++ more) ≡ length slots = ap length same in
    omega (arith, is, long, count, next)

is_longer : (slots : List (List ℕ)) (bucket : ℕ) → length slots + 32 ≡ capacity bucket → with_bucket slots bucket ≡ slots → ⊥
is_longer slots bucket next same =
    let more : with_bucket slots bucket ≡ slots ++ replicate (capacity bucket) empty_slot =
    ap (λ (b : Bool). if b then slots ++ replicate (capacity bucket) empty_slot else slots) (eq-eqb (length slots + 32) (capacity bucket) next) in
    no_longer slots (replicate (capacity bucket) empty_slot) bucket (length-replicate (capacity bucket) empty_slot) next (sym more ∙ same)

module _ {T : Type 0} where
  -- what was seen to be answered is computed so, with some choice
  pub answered_so : (m : Mem T) (op : Op T) (out : Out T) → Can m op → Gives m op out → (g : Grant) × (answer m g op ≡ Some out)
  answered_so m op out can gives =
      let one = steps_so m (Do op (λ o. Now o)) (after m op out) out (can, λ o v took. tt) (out, (gives, refl), refl) in
      let a = some (answer m one.0 op) (λ o. then_on (ends (value_at (after m op o)) (Now o)) (λ x. Some (after m op o, x))) (after m op out, out) one.1 in
      (one.0, a.1 ∙ ap Some (ap (λ (p : Mem T × Out T). p.1) (same_some (after m op a.0, a.0) (after m op out, out) a.2)))

  -- a word or a value that is read, and what a test came to, is that of the memory
  same_by : (o : Option (Out T)) (out other : Out T) → o ≡ Some out → o ≡ Some other → out ≡ other
  same_by o out other is also = same_some out other (sym is ∙ also)

  -- a block has the number under which it is found
  one_number : (m : Mem T) (value : T) (words b c : ℕ) → Gives m (Make value words) (Made (Ok b)) → Gives m (Make value words) (Made (Ok c))
      → after m (Make value words) (Made (Ok b)) ≡ after m (Make value words) (Made (Ok c)) → b ≡ c
  one_number m value words b c is also same = by (cases_eq b c)
    where
      by : (b ≡ c) ⊎ (b ≢ c) → b ≡ c
      by (inl e) = e
      by (inr ne) =
          let here : block_of (after m (Make value words) (Made (Ok b))) b ≡ (if b == b then Some (fresh value words) else block_of m b) = block_of-made m value words b b is.0 in
          let there : block_of (after m (Make value words) (Made (Ok c))) b ≡ (if b == c then Some (fresh value words) else block_of m b) = block_of-made m value words c b also.0 in
          absurd (one_none (sym (found b) ∙ sym here ∙ ap (λ (x : Mem T). block_of x b) same ∙ there ∙ ap (λ (t : Bool). if t then Some (fresh value words) else block_of m b) (ne_eqb b c ne) ∙ is.0.0))
        where
          one_none : Some (fresh value words) ≡ None → ⊥
          one_none h = cc h

          found : (k : ℕ) → (if k == k then Some (fresh value words) else block_of m k) ≡ Some (fresh value words)
          found k = ap (λ (t : Bool). if t then Some (fresh value words) else block_of m k) (eq-eqb k k refl)

  is_there : (m : Mem T) (value : T) (words b : ℕ) → Gives m (Make value words) (Made (Ok b)) → after m (Make value words) (Made (Ok b)) ≡ m → ⊥
  is_there m value words b is same = one_none (sym found ∙ sym (block_of-made m value words b b is.0) ∙ ap (λ (x : Mem T). block_of x b) same ∙ is.0.0)
    where
      one_none : Some (fresh value words) ≡ None → ⊥
      one_none h = cc h

      found : (if b == b then Some (fresh value words) else block_of m b) ≡ Some (fresh value words)
      found = ap (λ (t : Bool). if t then Some (fresh value words) else block_of m b) (eq-eqb b b refl)

  -- what a make answers, and what one answers that asks for room
  made_is : (m : Mem T) (value : T) (words : ℕ) (out : Out T) → Gives m (Make value words) out → (r : Result ℕ T) × (out ≡ Made r)
  made_is m value words (Made r) gives = (r, refl)
  made_is m value words (Found w) gives = absurd gives
  made_is m value words Stored gives = absurd gives
  made_is m value words (Exchanged w) gives = absurd gives
  made_is m value words (Taken v) gives = absurd gives
  made_is m value words (Roomed r) gives = absurd gives

  roomed_is : (m : Mem T) (bucket : ℕ) (out : Out T) → Gives m (Room bucket) out → (r : Result Unit Fault) × (out ≡ Roomed r)
  roomed_is m bucket (Roomed r) gives = (r, refl)
  roomed_is m bucket (Found w) gives = absurd gives
  roomed_is m bucket Stored gives = absurd gives
  roomed_is m bucket (Exchanged w) gives = absurd gives
  roomed_is m bucket (Taken v) gives = absurd gives
  roomed_is m bucket (Made r) gives = absurd gives

  one_made : (m n : Mem T) (value : T) (words : ℕ) (r q : Result ℕ T) → Took m (Make value words) (Made r) n → Took m (Make value words) (Made q) n → r ≡ q
  one_made m n value words (Ok b) (Ok c) h k = ap (λ (x : ℕ). Ok x) (one_number m value words b c h.0 k.0 (sym h.1 ∙ k.1))
  one_made m n value words (Ok b) (Err back) h k = absurd (is_there m value words b h.0 (sym h.1 ∙ k.1))
  one_made m n value words (Err back) (Ok c) h k = absurd (is_there m value words c k.0 (sym k.1 ∙ h.1))
  one_made m n value words (Err back) (Err again) h k = ap (λ (x : T). Err x) (h.0 ∙ sym k.0)

  one_roomed : (m n : Mem T) (bucket : ℕ) (r q : Result Unit Fault) → Took m (Room bucket) (Roomed r) n → Took m (Room bucket) (Roomed q) n → r ≡ q
  one_roomed m n bucket (Ok made) (Ok again) h k = refl
  one_roomed m n bucket (Ok made) (Err fault) h k = absurd (is_longer m.slots bucket k.0.1 (ap (λ (x : Mem T). x.slots) (sym h.1 ∙ k.1)))
  one_roomed m n bucket (Err fault) (Ok made) h k = absurd (is_longer m.slots bucket h.0.1 (ap (λ (x : Mem T). x.slots) (sym k.1 ∙ h.1)))
  one_roomed m n bucket (Err fault) (Err again) h k = ap (λ (x : Fault). Err x) (h.0.0 ∙ sym k.0.0)

  -- So an operation that leads from one memory to another one has answered one thing.
  pub took_once : (m n : Mem T) (op : Op T) (out other : Out T) → Can m op → Took m op out n → Took m op other n → out ≡ other
  took_once m n (Load at) out other can h k = same_by (answer m None (Load at)) out other (answered_so m (Load at) out can h.0).1 (answered_so m (Load at) other can k.0).1
  took_once m n (Store at w) out other can h k = same_by (answer m None (Store at w)) out other (answered_so m (Store at w) out can h.0).1 (answered_so m (Store at w) other can k.0).1
  took_once m n (Swap at w) out other can h k = same_by (answer m None (Swap at w)) out other (answered_so m (Swap at w) out can h.0).1 (answered_so m (Swap at w) other can k.0).1
  took_once m n (Add at by) out other can h k = same_by (answer m None (Add at by)) out other (answered_so m (Add at by) out can h.0).1 (answered_so m (Add at by) other can k.0).1
  took_once m n (Or at bits) out other can h k = same_by (answer m None (Or at bits)) out other (answered_so m (Or at bits) out can h.0).1 (answered_so m (Or at bits) other can k.0).1
  took_once m n (Exchange at old new) out other can h k =
      same_by (answer m None (Exchange at old new)) out other (answered_so m (Exchange at old new) out can h.0).1 (answered_so m (Exchange at old new) other can k.0).1
  took_once m n (Take b) out other can h k = same_by (answer m None (Take b)) out other (answered_so m (Take b) out can h.0).1 (answered_so m (Take b) other can k.0).1
  took_once m n (Rewrite b value) out other can h k = same_by (answer m None (Rewrite b value)) out other (answered_so m (Rewrite b value) out can h.0).1 (answered_so m (Rewrite b value) other can k.0).1
  took_once m n (Make value words) out other can h k =
      let r = made_is m value words out h.0 in
      let q = made_is m value words other k.0 in
      r.1 ∙ ap Made (one_made m n value words r.0 q.0 (subst (λ (o : Out T). Took m (Make value words) o n) r.1 h) (subst (λ (o : Out T). Took m (Make value words) o n) q.1 k)) ∙ sym q.1
  took_once m n (Room bucket) out other can h k =
      let r = roomed_is m bucket out h.0 in
      let q = roomed_is m bucket other k.0 in
      r.1 ∙ ap Roomed (one_roomed m n bucket r.0 q.0 (subst (λ (o : Out T). Took m (Room bucket) o n) r.1 h) (subst (λ (o : Out T). Took m (Room bucket) o n) q.1 k)) ∙ sym q.1

  -- and has come to one outcome
  pub ends_once : {R : Type 0} (shown : ℕ → Option T) (rest : Then T R) (end other : R) → Ends shown rest end → Ends shown rest other → end ≡ other
  ends_once shown (Now r) end other h k = h ∙ sym k
  ends_once shown (Seeing block rest) end other (value, is, h) (again, also, k) =
      ends_once shown (rest value) end other h (subst (λ (x : T). Ends shown (rest x) other) (same_some again value (sym also ∙ is)) k)
  ends_once shown (Sure fact rest) end other h k = ends_once shown rest end other h k

  pub steps_once : {R : Type 0} (m n : Mem T) (plan : Plan T R) (end other : R) → May Can Took value_at m plan → Steps Took value_at m plan n end → Steps Took value_at m plan n other → end ≡ other
  steps_once m n (Turn rest) end other may h k = ends_once (value_at n) rest end other h.1 k.1
  steps_once m n (Do op rest) end other may (out, took, h) (out2, took2, k) =
      ends_once (value_at n) (rest out) end other h (subst (λ (x : Out T). Ends (value_at n) (rest x) other) (sym (took_once m n op out out2 may.0 took took2)) k)

module _ {K V R : Type 0} where
  -- a step is computed with a choice by which it has changed what is told
  pub told_so : (m : Mem (Node K V)) (plan : Plan (Node K V) R) (n : Mem (Node K V)) (told : Changed) (end : R) → May Can Took value_at m plan → StepsObserved K V R m NoChange plan n told end
      → (g : Grant) × (stepped m g plan ≡ Some (n, end)) × (changed_of m g plan ≡ told)
  told_so m (Turn rest) n told end may st = let s = steps_so m (Turn rest) n end may (st.0, st.1) in (s.0, s.1, sym st.2)
  told_so m (Do op rest) n told end may (out, (took, tells), is) =
      let a = answered_so m op out may.0 took.0 in
      let sees = steps_so (after m op out) (Turn (rest out)) (after m op out) end (may.1 out (after m op out) (took.0, refl)) (refl, subst (λ (v : Mem (Node K V)). Ends (value_at v) (rest out) end) took.1 is) in
      let b = some (ends (value_at (after m op out)) (rest out)) (λ x. Some (after m op out, x)) (after m op out, end) sees.1 in (
        a.0,
        ap (λ (o : Option (Out (Node K V))). then_on o (λ x. then_on (ends (value_at (after m op x)) (rest x)) (λ y. Some (after m op x, y)))) a.1
            ∙ ap (λ (o : Option R). then_on o (λ y. Some (after m op out, y))) b.1 ∙ b.2 ∙ ap (λ (v : Mem (Node K V)). Some (v, end)) (sym took.1),
        ap (changed_as m op) a.1 ∙ sym tells,
      )
