-- What a seat knows of its registering once it has seen a head.
use Rattle.std.specs.Prelude.{◌<◌, Option, nat_lt, if◌then◌else◌}
use Rattle.std.proofs.Common.{◌≡◌, ℕ, ◌+◌, Bool, true, ◌⊎◌, inl, inr, refl, sym, subst, ap, ◌∙◌, arith}
use Rattle.seize_words.specs.OneMemory.Op.{Op, Out, Load, Found}
use Rattle.seize_words.specs.declared.at.At.TheVariants.{Slot}
use Rattle.seize.specs.declared.states.TheConstants.{HEAD, NEVER, FREE, LAST_SLOT}
use Rattle.seize.specs.declared.rows.register.Register.{Register}
use Rattle.seize.specs.declared.rows.register.Registering.TheVariants as at
use Rattle.seize.specs.Register.{further, taking, can_be_taken, bucket_needed}
use Rattle.seize_views.specs.Views.Told.{left_by, told}
use Rattle.seize_views.specs.Views.Begun.{seeker_at}
use Rattle.seize_callers.specs.Seeking.{seeks}
use Rattle.seize_views.specs.declared.view.SlotView.{SlotView}
use Rattle.seize_views.specs.declared.view.SlotView.TheVariants.{Registers}

-- a head that says that its slot can be taken
pub free_head : (seen : ℕ) → ((seen ≡ NEVER → ⊥) × (seen ≡ FREE)) ⊎ (seen ≡ NEVER) → can_be_taken seen ≡ true
free_head seen (inl e) = subst (λ (k : ℕ). can_be_taken k ≡ true) (sym e.1) refl
free_head seen (inr e) = subst (λ (k : ℕ). can_be_taken k ≡ true) (sym e) refl

-- a slot that is looked at is one
pub seeks_here : {T : Type 0} (slot : ℕ) → slot < LAST_SLOT + 1 → seeks {T = T} slot ≡ Registers (seeker_at slot at.Look)
seeks_here slot lt = rw (let k : nat_lt slot (LAST_SLOT + 1) ≡ true = grind (arith, lt) in k) refl

module _ (T : Type 0) (defers : T → Option ℕ) (v w : SlotView T) where
  known : (c : Register) (op : Op T) (out : Out T) → v ≡ Registers c → told defers v op out w → told defers (Registers c) op out w
  known c op out is told_so = subst (λ (x : SlotView T). told defers x op out w) is told_so

  module _ (slot seen : ℕ) where
    after_look : (b : Bool) → can_be_taken seen ≡ b → v ≡ Registers (seeker_at slot at.Look) → told defers v (Load (Slot slot HEAD)) (Found seen) w
        → w ≡ left_by (if b then taking (seeker_at slot at.Look) seen (bucket_needed slot) else further (seeker_at slot at.Look))
    after_look b free is so =
        let c : Register = seeker_at slot at.Look in let k = known c (Load (Slot slot HEAD)) (Found seen) is so in
        k.2 ∙ ap left_by k.1.3 ∙ ap (λ (t : Bool). left_by (if t then taking c seen (bucket_needed slot) else further c)) free

    pub seen_free : (bucket : Option ℕ) → bucket ≡ bucket_needed slot → can_be_taken seen ≡ true → v ≡ Registers (seeker_at slot at.Look)
        → told defers v (Load (Slot slot HEAD)) (Found seen) w → w ≡ left_by (taking (seeker_at slot at.Look) seen bucket)
    seen_free bucket needs free is so = after_look true free is so ∙ ap (λ (o : Option ℕ). left_by (taking (seeker_at slot at.Look) seen o)) (sym needs)
