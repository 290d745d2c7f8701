-- A step of a call, of whichever kind: it has effects only if the call does more than look, and calls that only look are as they must be after it.
use Rattle.std.specs.Prelude.{◌≡◌, ℕ, Bool, true, false, List, [], ◌∷◌, Some}
use Rattle.std.proofs.Common.{refl, ap, sym, subst, ◌∙◌, inl, inr}
use Rattle.run_debts.specs.Given.TablesDeclared.node.Node.{Node}
use Rattle.run_debts.specs.Given.RawDeclared.machines.progress.Progress.{Progress}
use Rattle.run_debts.specs.Given.RunsSame.{is_same}
use Rattle.run_debts.specs.Given.RunsDeclared.call.Call.{Call}
use Rattle.run_debts.specs.Given.RunsDeclared.effect.Effect.{Effect}
use Rattle.run_debts.specs.Given.SchedulesEffects.{call_by, with_effect, with_effects}
use Rattle.run_debts.specs.Given.SchedulesEntry.{ByCall}
use Rattle.run_debts.specs.Given.SchedulesGrowing.{only_looks}
use Rattle.run_debts.specs.Given.SchedulesMoment.{UnderWay as CallThere, Moment}
use Rattle.run_debts.specs.Given.SchedulesViews.{call_of}
use Rattle.run_debts.specs.Given.EffectsDeclared.changed.Changed.{Changed}
use Rattle.run_debts.specs.Given.EffectsDeclared.changed.Changed.TheVariants as changed
use Rattle.owner_calls.specs.Given.CallersTogether.{UnderWay}
use Rattle.run_debts.specs.Given.EffectsEffects.{effects_of}
use Rattle.run_debts.specs.Given.EffectsKnown.{Known}
use Rattle.run_debts.specs.Given.EffectsDeclared.acting.Acting.TheVariants as acts
use Rattle.run_debts.specs.Given.FinishesMachines.{machine_of}
use Rattle.run_debts.proofs.Given.FollowsCalls.{changed_same}
use Rattle.run_debts.proofs.Given.FollowsSteps.{WentTo, went_to}
use Rattle.run_debts.proofs.Given.HandsAsking.{which}
use Rattle.run_debts.specs.Given.MomentsWhole.{RefinesWhole}
use Rattle.run_blocks.specs.Owes.Looking.{IsLooking, RefinesLooking, FindAtWork, CallsPreserveLooking}
use Rattle.run_blocks.proofs.Owes.Fields.{all_by, field_own, field_other, its_effect}
use Rattle.run_blocks.proofs.Owes.Looking.Leaves.{looking_stays}
use Rattle.run_debts.specs.Given.ScenesHeld.{Held, IsAt}
use Rattle.run_debts.specs.Given.ScenesScene.{Scene}
use Rattle.run_debts.specs.Given.ScenesStepping.{StepLeads, scene_after}
use Rattle.run_debts.proofs.Calls.{goes_as_one}

module _ {K V : Type 0} where
  -- an effect leaves what was called
  abbrev same_call : Effect → Call K V → Call K V
  same_call f its = its

  all_same : (effects : List Effect) (its : Call K V) → all_by same_call effects its ≡ its
  all_same [] its = refl
  all_same (f ∷ effects) its = all_same effects its

  effect_same : (m : Moment K V) (f : Effect) (c : CallThere K V) → (call_by m f c).call ≡ same_call f c.call
  effect_same m f c = (changed_same m f c).2

  at_work : (own : List ℕ) (map : ℕ) (effects : List Effect) (m : Moment K V) (c : CallThere K V) → call_of own m ≡ Some c → only_looks c.call ≡ false → FindAtWork own map effects m
  at_work own map [] m c is works = tt
  at_work own map (f ∷ effects) m c is works = (
    subst (ByCall (λ (d : CallThere K V). only_looks d.call ≡ false)) (sym is) works,
    at_work own map effects (with_effect (Some own) (Some map) f m) (call_by m f c) (its_effect own map f m c is) (ap only_looks (effect_same m f c) ∙ works),
  )

module _ {K V : Type 0} (same : K → K → Bool) (hash : ℕ → K → ℕ) (name : ℕ → List ℕ) (m : Moment K V) (known : Known) (s : Scene K V) (old new : Held K V) (at : IsAt same hash old s)
    (whole : RefinesWhole same name m known s) (looking : RefinesLooking name m s) (map i : ℕ) (u : UnderWay K V K) (here : s.calls map i ≡ Some u) (said : Progress (Node K V))
    (leads : StepLeads same hash i said s old new) where
  abbrev to : WentTo same hash name m known s old new at whole.all.shown map i u here said leads
  to = went_to same hash name m known s old new at whole.all.shown map i u here said leads

  abbrev told : Changed
  told = new.changed

  abbrev effects : List Effect
  effects = effects_of (acts.Call i map) known told

  abbrev v : Moment K V
  v = with_effects (Some (name i)) (Some map) effects m

  abbrev led : Scene K V
  led = scene_after same s old new map i to.0 u to.1 said to.4

  its_there : (c : CallThere K V) × (call_of (name i) m ≡ Some c)
  its_there = let c = whole.all.shown.calls map i u here in (c.0, c.1)

  stays : only_looks its_there.0.call ≡ true → (told ≡ changed.Nothing) × IsLooking to.1
  stays e = looking_stays old.memory new.memory told same same to.0.hash to.1 said (machine_of u) (looking map i u here its_there.0 its_there.1 e) to.3

  find_by : (q : Bool) → only_looks its_there.0.call ≡ q → FindAtWork (name i) map effects m
  find_by true e = subst (λ (x : Changed). FindAtWork (name i) map (effects_of (acts.Call i map) known x) m) (sym (stays e).0) tt
  find_by false e = at_work (name i) map effects m its_there.0 its_there.1 e

  its_looking : (d : CallThere K V) → call_of (name i) v ≡ Some d → only_looks d.call ≡ true → IsLooking to.1
  its_looking d d_is e =
      let field = field_own (λ (x : CallThere K V). x.call) same_call effect_same (name i) map effects m its_there.0 its_there.1 d d_is ∙ all_same effects its_there.0.call in
      (stays (sym (ap only_looks field) ∙ e)).1

  looking_then : RefinesLooking name v led
  looking_then n j x is d d_is e = elim (which s.calls map i to.4.next n j x is) as (λ _. IsLooking (machine_of x)) [
    | inl it ↦ subst IsLooking (sym (goes_as_one to.1 said to.4.next to.4.goes_on x it.2)) (its_looking d (ap (λ (k : ℕ). call_of (name k) v) (sym it.1) ∙ d_is) e)
    | inr was ↦
        let c = whole.all.shown.calls n j x was.1 in
        let field = field_other (λ (y : CallThere K V). y.call) same_call effect_same (name i) map effects m (name j) (apart was.0 was.1) c.0 c.1 d d_is in
        looking n j x was.1 c.0 c.1 (sym (ap only_looks field) ∙ e)
  ]
    where
      apart : (n ≡ map → j ≡ i → ⊥) → s.calls n j ≡ Some x → is_same (name j) (name i) ≡ true → ⊥
      apart other was names = (let both = whole.all.asked.apart n j map i x u was here names in other both.0 both.1)

  pub step_keeps_looking : FindAtWork (name i) map effects m × RefinesLooking name v led
  step_keeps_looking = (find_by (only_looks its_there.0.call) refl, looking_then)

pub calls_keep_looking : (K V : Type 0) (same : K → K → Bool) (hash : ℕ → K → ℕ) → CallsPreserveLooking K V same hash
calls_keep_looking K V same hash name m known s old new at whole looking map i u here said leads =
    step_keeps_looking same hash name m known s old new at whole looking map i u here said leads
