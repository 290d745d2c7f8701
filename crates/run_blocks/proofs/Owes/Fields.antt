-- What effects leave of one field of a call: each of its own changes it, one after another, and those of others leave it.
use Rattle.std.specs.Prelude.{◌≡◌, ℕ, Bool, true, false, List, [], ◌∷◌, Some, if◌then◌else◌}
use Rattle.std.proofs.Common.{refl, ap, sym, ◌∙◌}
use Rattle.run_debts.specs.Given.RunsSame.{is_same}
use Rattle.run_debts.specs.Given.RunsDeclared.effect.Effect.{Effect}
use Rattle.run_debts.specs.Given.SchedulesEffects.{call_by, with_effect, with_effects}
use Rattle.run_debts.specs.Given.SchedulesMoment.{UnderWay as CallThere, Moment}
use Rattle.run_debts.specs.Given.SchedulesViews.{call_of}
use Rattle.run_debts.proofs.Given.FollowsCalling.{found_passes, is_same_refl}
use Rattle.run_debts.proofs.Given.FollowsCalls.{changed_same, changed, of_same, found}
use Rattle.run_debts.proofs.Given.HandsCalling.{caller_is}
use Rattle.run_debts.proofs.Given.General.{same_some as one_of}

-- one effect after another
abbrev pub all_by : {X : Type 0} → (Effect → X → X) → List Effect → X → X
all_by by [] x = x
all_by by (f ∷ fs) x = all_by by fs (by f x)

module _ {K V X : Type 0} (get : CallThere K V → X) (by : Effect → X → X) (one : (m : Moment K V) (f : Effect) (c : CallThere K V) → get (call_by m f c) ≡ by f (get c)) where
  module _ (own : List ℕ) (acted : ℕ) (name : List ℕ) where
    abbrev pub FieldAfter : List Effect → CallThere K V → CallThere K V → Type 0
    FieldAfter effects c d = (d.caller ≡ c.caller) × (get d ≡ (if is_same c.caller own then all_by by effects (get c) else get c))

    pub field_after : (effects : List Effect) (m : Moment K V) (c : CallThere K V) → call_of name m ≡ Some c
        → (d : CallThere K V) × (call_of name (with_effects (Some own) (Some acted) effects m) ≡ Some d) × FieldAfter effects c d
    field_after [] m c is = (c, is, (refl, by_nothing (is_same c.caller own)))
      where
        by_nothing : (q : Bool) → get c ≡ (if q then get c else get c)
        by_nothing true = refl
        by_nothing false = refl
    field_after (f ∷ effects) m c is =
        let d = changed (call_by m f) (changed_same m f) own c in
        let caller = (of_same (call_by m f) (changed_same m f) own c).0 in
        let rest = field_after effects (with_effect (Some own) (Some acted) f m) d (found (call_by m f) (changed_same m f) own name m.calls c is) in
        (rest.0, rest.1, (rest.2.0 ∙ caller, rest.2.1 ∙ both d caller refl (is_same c.caller own) refl))
      where
        both : (d : CallThere K V) → d.caller ≡ c.caller → d ≡ (if is_same c.caller own then call_by m f c else c) → (q : Bool) → is_same c.caller own ≡ q
            → (if is_same d.caller own then all_by by effects (get d) else get d) ≡ (if is_same c.caller own then all_by by (f ∷ effects) (get c) else get c)
        both d caller d_is true e =
            ap (λ (z : Bool). if z then all_by by effects (get d) else get d) (ap (λ (l : List ℕ). is_same l own) caller ∙ e)
            ∙ ap (all_by by effects) (ap get (d_is ∙ ap (λ (z : Bool). if z then call_by m f c else c) e) ∙ one m f c)
            ∙ sym (ap (λ (z : Bool). if z then all_by by (f ∷ effects) (get c) else get c) e)
        both d caller d_is false e =
            ap (λ (z : Bool). if z then all_by by effects (get d) else get d) (ap (λ (l : List ℕ). is_same l own) caller ∙ e)
            ∙ ap get (d_is ∙ ap (λ (z : Bool). if z then call_by m f c else c) e)
            ∙ sym (ap (λ (z : Bool). if z then all_by by (f ∷ effects) (get c) else get c) e)

  -- so each of its own changes the field of a call, one after another, and those of others leave it
  module _ (own : List ℕ) (acted : ℕ) (effects : List Effect) (m : Moment K V) where
    pub field_own : (c : CallThere K V) → call_of own m ≡ Some c → (d : CallThere K V) → call_of own (with_effects (Some own) (Some acted) effects m) ≡ Some d → get d ≡ all_by by effects (get c)
    field_own c c_is d d_is =
        let after = field_after own acted own effects m c c_is in
        let its : is_same c.caller own ≡ true = ap (λ (l : List ℕ). is_same l own) (caller_is own m c c_is) ∙ is_same_refl own in
        ap get (one_of d after.0 (sym d_is ∙ after.1)) ∙ after.2.1 ∙ ap (λ (q : Bool). if q then all_by by effects (get c) else get c) its

    pub field_other : (name : List ℕ) → (is_same name own ≡ true → ⊥) → (c : CallThere K V) → call_of name m ≡ Some c → (d : CallThere K V)
        → call_of name (with_effects (Some own) (Some acted) effects m) ≡ Some d → get d ≡ get c
    field_other name apart c c_is d d_is =
        let after = field_after own acted name effects m c c_is in
        ap get (one_of d after.0 (sym d_is ∙ after.1)) ∙ after.2.1 ∙ unless (is_same c.caller own) (λ e. apart (ap (λ (l : List ℕ). is_same l own) (sym (caller_is name m c c_is)) ∙ e))
      where
        unless : (q : Bool) → (q ≡ true → ⊥) → (if q then all_by by effects (get c) else get c) ≡ get c
        unless true other = absurd (other refl)
        unless false other = refl

-- the call of a name after an effect of its own
module _ {K V : Type 0} (own : List ℕ) (acted : ℕ) where
  pub its_effect : (f : Effect) (m : Moment K V) (c : CallThere K V) → call_of own m ≡ Some c → call_of own (with_effect (Some own) (Some acted) f m) ≡ Some (call_by m f c)
  its_effect f m c is =
      found (call_by m f) (changed_same m f) own own m.calls c is
      ∙ ap (λ (q : Bool). Some (if q then call_by m f c else c)) (found_passes (λ x. is_same x.caller own) (λ x. true) m.calls c is)
