-- Registering goes on in a memory whose slots have words, from its second step on.
use Rattle.std.specs.Prelude.{Some, Ok, Err, [], length, slice_set, slice_index_or, if◌then◌else◌}
use Rattle.std.proofs.lemmas.List.{length-set}
use Rattle.std.proofs.Common.{◌≡◌, ℕ, ◌<◌, ◌+◌, ◌*◌, ◌^◌, Bool, inl, inr, refl, sym, subst, ap, ◌∙◌, arith}
use Rattle.seize_words.specs.OneMemory.Mem.{Mem, Took}
use Rattle.seize_words.specs.OneMemory.Op.{Op, Out, Load, Exchange, Room, Found, Stored, Exchanged, Made, Taken, Roomed}
use Rattle.seize_words.specs.declared.at.At.TheVariants.{Slot}
use Rattle.seize.specs.declared.states.TheConstants.{HEAD, IDLE}
use Rattle.seize.specs.declared.advance.Advance.{Advance}
use Rattle.seize.specs.declared.advance.Advance.TheVariants as progress
use Rattle.seize.specs.declared.rows.register.Register.{Register}
use Rattle.seize.specs.declared.rows.register.Registering.{Registering}
use Rattle.seize.specs.declared.rows.register.Registering.TheVariants as at
use Rattle.seize.specs.Register.{plan_at, taking, further, going, refused, registered, can_be_taken, bucket_needed}
use Rattle.seize_model.proofs.Given.SeizeMemoryWords.Room.{first_there, slots_grow}
use Rattle.seize_views.specs.Views.Promises.{op_in}
use Rattle.seize_views.specs.Views.Rows.{IsSeeking}
use Rattle.seize_views.specs.Views.Told.{HasOutcome}
use Rattle.seize_reclaims.specs.Renews.Rule.{SeeksAt}
use Rattle.seize_reclaims.proofs.Renews.Registering.{IsWell, well_either, well_further, well_taking}
use Rattle.seize_words.proofs.General.{same_some}

module _ {T : Type 0} (m m2 : Mem T) (c : Register) (short : c.enters ≡ Bool.false) (end : Register × Advance ℕ) where
  so : (x : Register × Advance ℕ) → end ≡ x → IsWell m2 x → IsWell m2 end
  so x e well = subst (λ (y : Register × Advance ℕ). IsWell m2 y) (sym e) well

  same_there : m2 ≡ m → 0 < length m.slots → 0 < length m2.slots
  same_there e lt = subst (λ (x : Mem T). 0 < length x.slots) (sym e) lt

  no_slots : (k : ℕ) → k + 32 ≡ 32 * 2 ^ 0 → k ≡ 0
  no_slots k e = omega (arith, e)

  begins : c.slot ≡ 0 → (out : Out T) → Took m (Room 0) out m2 → HasOutcome (plan_at {T = T} c at.Begin) out end → IsWell m2 end
  begins first (Roomed (Ok done)) took o = so (going c at.Look) o.3 (short, tt, subst (λ (x : Mem T). 0 < length x.slots) (sym took.1) (first_there m))
  begins first (Roomed (Err fault)) took o = so (refused c fault) o.3 (inl (first, ap (λ (x : Mem T). length x.slots) took.1 ∙ no_slots (length m.slots) took.0.1))
  begins first (Found x) took o = absurd took.0
  begins first Stored took o = absurd took.0
  begins first (Exchanged x) took o = absurd took.0
  begins first (Made x) took o = absurd took.0
  begins first (Taken x) took o = absurd took.0

  looks : 0 < length m.slots → (out : Out T) → Took m (Load (Slot c.slot HEAD)) out m2 → HasOutcome (plan_at {T = T} c at.Look) out end → IsWell m2 end
  looks some (Found head) took o =
      let there = same_there took.1 some in
      so (if can_be_taken head then taking c head (bucket_needed c.slot) else further c) o.3
      (well_either m2 (can_be_taken head) (taking c head (bucket_needed c.slot)) (further c) (well_taking m2 c head (bucket_needed c.slot) refl short there) (well_further m2 c short there))
  looks some Stored took o = absurd took.0
  looks some (Exchanged x) took o = absurd took.0
  looks some (Made x) took o = absurd took.0
  looks some (Taken x) took o = absurd took.0
  looks some (Roomed x) took o = absurd took.0

  widens : (bucket seen : ℕ) → (c.slot ≡ 0 → ⊥) × (0 < length m.slots) → (out : Out T) → Took m (Room bucket) out m2 → HasOutcome (plan_at {T = T} c (at.Widen bucket seen)) out end → IsWell m2 end
  widens bucket seen some (Roomed (Ok done)) took o =
      so (going c (at.Take seen)) o.3 (short, tt, subst (λ (x : Mem T). 0 < length x.slots) (sym took.1) (slots_grow m bucket 0 some.1))
  widens bucket seen some (Roomed (Err fault)) took o = so (refused c fault) o.3 (inr (some.0, same_there took.1 some.1))
  widens bucket seen some (Found x) took o = absurd took.0
  widens bucket seen some Stored took o = absurd took.0
  widens bucket seen some (Exchanged x) took o = absurd took.0
  widens bucket seen some (Made x) took o = absurd took.0
  widens bucket seen some (Taken x) took o = absurd took.0

  takes : (seen : ℕ) → 0 < length m.slots → (out : Out T) → Took m (Exchange (Slot c.slot HEAD) seen IDLE) out m2 → HasOutcome (plan_at {T = T} c (at.Take seen)) out end → IsWell m2 end
  takes seen some (Exchanged (Ok found)) took o =
      let e : end ≡ (if c.enters then going c at.Enter else registered c) = o.3 in
      so (registered c) (e ∙ ap (λ (b : Bool). if b then going c at.Enter else registered c) short) tt
  takes seen some (Exchanged (Err found)) took o = so (further c) o.3 (well_further m2 c short (same_there took.1 some))
  takes seen some (Found x) took o = absurd took.0
  takes seen some Stored took o = absurd took.0
  takes seen some (Made x) took o = absurd took.0
  takes seen some (Taken x) took o = absurd took.0
  takes seen some (Roomed x) took o = absurd took.0

  pub well_after : (p : Registering) → IsSeeking p → SeeksAt m c p → (op : Op T) (out : Out T) → op_in (plan_at {T = T} c p) ≡ Some op → Took m op out m2
      → HasOutcome (plan_at {T = T} c p) out end → IsWell m2 end
  well_after at.Begin is seeks op out makes took o = begins seeks out (subst (λ (x : Op T). Took m x out m2) (sym (same_some (Room 0) op makes)) took) o
  well_after at.Look is seeks op out makes took o = looks seeks out (subst (λ (x : Op T). Took m x out m2) (sym (same_some (Load (Slot c.slot HEAD)) op makes)) took) o
  well_after (at.Widen bucket seen) is seeks op out makes took o =
      widens bucket seen seeks out (subst (λ (x : Op T). Took m x out m2) (sym (same_some (Room bucket) op makes)) took) o
  well_after (at.Take seen) is seeks op out makes took o =
      takes seen seeks out (subst (λ (x : Op T). Took m x out m2) (sym (same_some (Exchange (Slot c.slot HEAD) seen IDLE) op makes)) took) o
  well_after at.Enter is seeks op out makes took o = absurd is
  well_after at.Registered is seeks op out makes took o = absurd is
  well_after (at.Refused fault) is seeks op out makes took o = absurd is

  -- where it has taken a slot there are slots
  module _ (t : ℕ) (done : end.1 ≡ progress.Done t) where
    begins_not : (out : Out T) → Took m (Room 0) out m2 → HasOutcome (plan_at {T = T} c at.Begin) out end → ⊥
    begins_not (Roomed (Ok u)) took o = let e : end ≡ going c at.Look = o.3 in let f = ap (λ (x : Register × Advance ℕ). x.1) e in cc (f, done)
    begins_not (Roomed (Err fault)) took o = let e : end ≡ refused c fault = o.3 in let f = ap (λ (x : Register × Advance ℕ). x.1) e in cc (f, done)
    begins_not (Found x) took o = absurd took.0
    begins_not Stored took o = absurd took.0
    begins_not (Exchanged x) took o = absurd took.0
    begins_not (Made x) took o = absurd took.0
    begins_not (Taken x) took o = absurd took.0

    room_there : (bucket : ℕ) → 0 < length m.slots → (out : Out T) → Took m (Room bucket) out m2 → 0 < length m2.slots
    room_there bucket some (Roomed (Ok u)) took = subst (λ (x : Mem T). 0 < length x.slots) (sym took.1) (slots_grow m bucket 0 some)
    room_there bucket some (Roomed (Err fault)) took = same_there took.1 some
    room_there bucket some (Found x) took = absurd took.0
    room_there bucket some Stored took = absurd took.0
    room_there bucket some (Exchanged x) took = absurd took.0
    room_there bucket some (Made x) took = absurd took.0
    room_there bucket some (Taken x) took = absurd took.0

    taken_there : (seen : ℕ) → 0 < length m.slots → (out : Out T) → Took m (Exchange (Slot c.slot HEAD) seen IDLE) out m2 → 0 < length m2.slots
    taken_there seen some (Exchanged (Ok found)) took =
        let long = ap (λ (x : Mem T). length x.slots) took.1 ∙ length-set m.slots c.slot (slice_set (slice_index_or m.slots c.slot []) HEAD IDLE) in omega (arith, long, some)
    taken_there seen some (Exchanged (Err found)) took = same_there took.1 some
    taken_there seen some (Found x) took = absurd took.0
    taken_there seen some Stored took = absurd took.0
    taken_there seen some (Made x) took = absurd took.0
    taken_there seen some (Taken x) took = absurd took.0
    taken_there seen some (Roomed x) took = absurd took.0

    loaded_there : 0 < length m.slots → (out : Out T) → Took m (Load (Slot c.slot HEAD)) out m2 → 0 < length m2.slots
    loaded_there some (Found head) took = same_there took.1 some
    loaded_there some Stored took = absurd took.0
    loaded_there some (Exchanged x) took = absurd took.0
    loaded_there some (Made x) took = absurd took.0
    loaded_there some (Taken x) took = absurd took.0
    loaded_there some (Roomed x) took = absurd took.0

    pub done_there : (p : Registering) → IsSeeking p → SeeksAt m c p → (op : Op T) (out : Out T) → op_in (plan_at {T = T} c p) ≡ Some op → Took m op out m2
        → HasOutcome (plan_at {T = T} c p) out end → 0 < length m2.slots
    done_there at.Begin is seeks op out makes took o = absurd (begins_not out (subst (λ (x : Op T). Took m x out m2) (sym (same_some (Room 0) op makes)) took) o)
    done_there at.Look is seeks op out makes took o = loaded_there seeks out (subst (λ (x : Op T). Took m x out m2) (sym (same_some (Load (Slot c.slot HEAD)) op makes)) took)
    done_there (at.Widen bucket seen) is seeks op out makes took o =
        room_there bucket seeks.1 out (subst (λ (x : Op T). Took m x out m2) (sym (same_some (Room bucket) op makes)) took)
    done_there (at.Take seen) is seeks op out makes took o =
        taken_there seen seeks out (subst (λ (x : Op T). Took m x out m2) (sym (same_some (Exchange (Slot c.slot HEAD) seen IDLE) op makes)) took)
    done_there at.Enter is seeks op out makes took o = absurd is
    done_there at.Registered is seeks op out makes took o = absurd is
    done_there (at.Refused fault) is seeks op out makes took o = absurd is
