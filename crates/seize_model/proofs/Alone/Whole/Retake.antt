-- Taking a slot again that was given up, alone: one store.
use Rattle.std.specs.Prelude.{Option, Some, IsSome, if◌then◌else◌}
use Rattle.std.proofs.Common.{◌≡◌, ℕ, ◌+◌, ◌<◌, Bool, false, List, ◌++◌, inl, inr, refl, sym, ap, subst, ◌∙◌, arith}
use Rattle.std.proofs.Math.Path.{fun_ext}
use Rattle.seize.specs.Given.SeizeWordsDeclared.at.At.TheVariants as name
use Rattle.seize.specs.Given.SeizeWordsMem.{Mem, word_at, with_word}
use Rattle.seize.proofs.Given.SeizeWordsOneOwner.AfterWrites.{word_at-with_word}
use Rattle.seize.specs.declared.states.TheConstants.{HEAD, FREE, IDLE, LAST_SLOT}
use Rattle.seize.specs.WaitingSets.{Change}
use Rattle.seize.specs.World.{World, Use, Vacant, Outside, Register', with_at}
use Rattle.seize.specs.Sequence.{Calls, new_slot}
use Rattle.seize_model.specs.Alone.Alone.{History, IsHistory, at_rest, registered}
use Rattle.seize_rule.proofs.Given.SeizeMemoryWords.Named.{same_at-refl}
use Rattle.seize_rule.proofs.World.Rested.{Rested, calls_rested}
use Rattle.seize_model.proofs.Sets.Turns.Heads.{WordOf, word_says, vacant_by}
use Rattle.seize_model.proofs.Sets.Slots.Retaken.{retaken}
use Rattle.seize_model.proofs.Sets.Slots.Vacant.{new_slot_is}
use Rattle.seize_model.proofs.Sets.Slots.Least.{calls_registered, taken_changes}
use Rattle.seize_model.proofs.Alone.Histories.Calls.{called_history, history_rested}

module _ {T : Type 0} (defers : T → Option ℕ) (batch_size roots : ℕ) (m : Mem T) (h : History) (had : IsHistory defers batch_size roots m h)
    (s : ℕ) (lt : s < LAST_SLOT + 1) (free : word_at m (name.Slot s HEAD) ≡ Some FREE) (idle : (t : ℕ) → t < s → h.uses t ≡ Outside 0) where
  rested : Rested defers (LAST_SLOT + 1) batch_size (at_rest defers m h)
  rested = history_rested defers batch_size roots m h had

  abbrev mem_after : Mem T
  mem_after = with_word m (name.Slot s HEAD) IDLE

  call : (u : World T) × Calls defers batch_size 0 (Register' false) (at_rest defers m h) u × (u.memory ≡ mem_after) × (u.hand ≡ h.hand) × (u.log ≡ h.log)
  call = retaken defers (LAST_SLOT + 1) batch_size refl 0 (at_rest defers m h) rested s lt free idle

  vacant : h.uses s ≡ Vacant
  vacant = vacant_by (h.uses s) FREE (word_says defers (LAST_SLOT + 1) batch_size refl (at_rest defers m h) rested s FREE free) (omega arith)

  new : new_slot h.uses ≡ Some s
  new = new_slot_is (LAST_SLOT + 1) s h.uses refl lt (λ t a b e. let k : Outside 0 ≡ Vacant = sym (idle t b) ∙ e in absurd (cc k)) vacant

  rests_after : Rested defers (LAST_SLOT + 1) batch_size call.0
  rests_after = calls_rested defers (LAST_SLOT + 1) batch_size refl 0 (Register' false) (at_rest defers m h) call.0 rested call.1

  is_idle : word_at call.0.memory (name.Slot s HEAD) ≡ Some IDLE
  is_idle = subst (λ (k : Mem T). word_at k (name.Slot s HEAD) ≡ Some IDLE) (sym call.2)
      (word_at-with_word m (name.Slot s HEAD) IDLE (name.Slot s HEAD) (subst (λ (o : Option ℕ). IsSome o) (sym free) refl)
      ∙ ap (λ (b : Bool). if b then Some IDLE else word_at m (name.Slot s HEAD)) (same_at-refl (name.Slot s HEAD)))

  used : call.0.uses ≡ with_at h.uses s (Outside 0)
  used = elim (calls_registered defers (LAST_SLOT + 1) batch_size refl 0 false (at_rest defers m h) call.0 rested call.1) as (λ _. call.0.uses ≡ with_at h.uses s (Outside 0)) [
    | inl same ↦ absurd (by (call.0.uses s) (ap (λ (f : ℕ → Use). f s) same ∙ vacant) (word_says defers (LAST_SLOT + 1) batch_size refl call.0 rests_after s IDLE is_idle))
    | inr k ↦ let e : k.0 ≡ s = one k.0 (k.1) in subst (λ (t : ℕ). call.0.uses ≡ with_at h.uses t (Outside 0)) e k.2
  ]
    where
      by : (u : Use) → u ≡ Vacant → WordOf u IDLE → ⊥
      by u e w = let v : WordOf Vacant IDLE = subst (λ (x : Use). WordOf x IDLE) e w in omega (arith, v)

      one : (t : ℕ) → new_slot h.uses ≡ Some t → t ≡ s
      one t e = let k : Some t ≡ Some s = sym e ∙ new in cc k

  pub retake_calls : Calls defers batch_size 0 (Register' false) (at_rest defers m h) (at_rest defers mem_after (registered false s h))
  retake_calls =
      let e : call.0 ≡ at_rest defers mem_after (registered false s h) =
      λ i. record { memory = call.2 i; row = fun_ext rests_after.rests i; uses = used i; hand = call.3 i; log = call.4 i } in
      subst (λ (v : World T). Calls defers batch_size 0 (Register' false) (at_rest defers m h) v) e call.1

  pub retake_history : IsHistory defers batch_size roots mem_after (registered false s h)
  retake_history =
      called_history defers batch_size roots m mem_after h (registered false s h) had (Register' false) retake_calls (ap (λ (l : List Change). h.before ++ l) (sym (taken_changes false h.uses s new)))
