-- A step of a call, of whichever kind: who is short of no growth has nothing to tell of memory after it, and who is refused for want of memory is short of one.
use Rattle.std.specs.Prelude.{◌≡◌, ℕ, Bool, true, false, not, List, Some}
use Rattle.std.proofs.Common.{refl, ap, sym, subst, ◌∙◌, inl, inr}
use Rattle.run_debts.specs.Given.SeizeWordsDeclared.fault.Fault.TheVariants.{Memory}
use Rattle.run_debts.specs.Given.TablesDeclared.node.Node.{Node}
use Rattle.run_debts.specs.Given.RawDeclared.machines.machine.Machine.{Machine}
use Rattle.run_debts.specs.Given.RawDeclared.machines.progress.Progress.{Progress}
use Rattle.run_debts.specs.Given.RawDeclared.machines.progress.Progress.TheVariants as progress
use Rattle.run_debts.specs.Given.RunsSame.{is_same}
use Rattle.run_debts.specs.Given.RunsDeclared.effect.Effect.{Effect}
use Rattle.run_debts.specs.Given.SchedulesEffects.{with_effects}
use Rattle.run_debts.specs.Given.SchedulesMoment.{UnderWay as CallThere, Moment}
use Rattle.run_debts.specs.Given.SchedulesViews.{call_of}
use Rattle.owner_calls.specs.Given.CallersTogether.{UnderWay}
use Rattle.run_debts.specs.Given.EffectsEffects.{effects_of}
use Rattle.run_debts.specs.Given.EffectsKnown.{Known}
use Rattle.run_debts.specs.Given.EffectsDeclared.acting.Acting.{Acting}
use Rattle.run_debts.specs.Given.EffectsDeclared.acting.Acting.TheVariants as acts
use Rattle.run_debts.specs.Given.EffectsDeclared.changed.Changed.{Changed}
use Rattle.run_debts.specs.Given.EffectsDeclared.changed.Changed.TheVariants as changed
use Rattle.run_debts.specs.Given.EffectsDeclared.changed.Kind.{Kind}
use Rattle.run_debts.specs.Given.FinishesMachines.{machine_of}
use Rattle.run_debts.proofs.Given.FollowsSteps.{WentTo, went_to}
use Rattle.run_debts.proofs.Given.HandsAsking.{which}
use Rattle.run_debts.specs.Given.MomentsWhole.{RefinesWhole}
use Rattle.run_blocks.specs.Owes.Grown.{SoInMachine, IsOther, RefinesGrown, CallsPreserveGrown}
use Rattle.run_blocks.specs.Owes.Short.{RefinesShort}
use Rattle.run_blocks.proofs.Owes.Fields.{all_by, field_own, field_other}
use Rattle.run_blocks.proofs.Owes.Grown.Between.{long_other}
use Rattle.run_blocks.proofs.Owes.Grown.Machines.{SaysSo, machine_so}
use Rattle.run_blocks.proofs.Owes.Short.Calls.{no_bucket, grown as has_grown, its_there}
use Rattle.run_blocks.proofs.Owes.Short.Effects.{short_by, short_kept, effect_short, NoneAsked, none_asked}
use Rattle.run_debts.specs.Given.ScenesHeld.{Held, IsAt}
use Rattle.run_debts.specs.Given.ScenesScene.{Scene}
use Rattle.run_debts.specs.Given.ScenesStepping.{StepLeads, scene_after}
use Rattle.run_debts.proofs.Calls.{goes_as_one}

-- of what is told of a step
was_false : (b : Bool) → not b ≡ true → b ≡ false
was_false true e = absurd (cc e)
was_false false e = refl

module _ {K V : Type 0} (same : K → K → Bool) (hash : ℕ → K → ℕ) (name : ℕ → List ℕ) (m : Moment K V) (known : Known) (s : Scene K V) (old new : Held K V) (at : IsAt same hash old s)
    (whole : RefinesWhole same name m known s) (short : RefinesShort name m s) (grown : RefinesGrown name m s) (map i : ℕ) (u : UnderWay K V K) (here : s.calls map i ≡ Some u) (said : Progress (Node K V))
    (leads : StepLeads same hash i said s old new) where
  abbrev to : WentTo same hash name m known s old new at whole.all.shown map i u here said leads
  to = went_to same hash name m known s old new at whole.all.shown map i u here said leads

  abbrev told : Changed
  told = new.changed

  abbrev its : Acting
  its = acts.Call i map

  abbrev effects : List Effect
  effects = effects_of its known told

  abbrev v : Moment K V
  v = with_effects (Some (name i)) (Some map) effects m

  abbrev led : Scene K V
  led = scene_after same s old new map i to.0 u to.1 said to.4

  -- its machine has nothing to tell of memory, and tells nothing of it
  abbrev Clear : Type 0
  Clear = SoInMachine IsOther to.1 × SaysSo IsOther said

  -- the call as it was
  abbrev c : CallThere K V
  c = (its_there same hash name m known s old new at whole short map i u here said leads).0

  c_is : call_of (name i) m ≡ Some c
  c_is = (its_there same hash name m known s old new at whole short map i u here said leads).1

  -- where it was short of none, and no block was refused to it
  went_clear : c.is_short ≡ false → ((k : Kind) → told ≡ changed.Unmade k → ⊥) → Clear
  went_clear e unrefused =
      machine_so IsOther long_other old.memory new.memory told unrefused same same to.0.hash to.1 said (machine_of u) (grown map i u here c c_is (ap not e)) to.3

  -- who makes a block was short of none
  not_short : (NoneAsked told → ⊥) → c.is_short ≡ false
  not_short asked = has_grown same hash name m known s old new at whole short map i u here said leads c.is_short (short map i u here c c_is) asked

  none_clear : (x : Changed) → told ≡ x → NoneAsked x → ((k : Kind) → x ≡ changed.Unmade k → ⊥) → all_by short_by (effects_of its known x) c.is_short ≡ false → Clear
  none_clear x is none apart e = went_clear (sym (short_kept (effects_of its known x) (none_asked its known x none) c.is_short) ∙ e) (λ k unmade. apart k (sym is ∙ unmade))

  clear_by : (x : Changed) → told ≡ x → all_by short_by (effects_of its known x) c.is_short ≡ false → Clear
  clear_by changed.Nothing is e = none_clear changed.Nothing is tt (λ k no. cc no) e
  clear_by (changed.Wrote place before after) is e = none_clear (changed.Wrote place before after) is tt (λ k no. cc no) e
  clear_by (changed.Took b) is e = none_clear (changed.Took b) is tt (λ k no. cc no) e
  clear_by (changed.Made k b) is e = went_clear (not_short (λ none. subst NoneAsked is none)) (λ j unmade. (let no : changed.Made k b ≡ changed.Unmade j = sym is ∙ unmade in cc no))
  clear_by (changed.Unmade k) is e = absurd (cc e)
  clear_by (changed.Roomed bucket had) is e = absurd (no_bucket same hash name m known s old new at whole short map i u here said leads bucket had is)

  its_clear : (d : CallThere K V) → call_of (name i) v ≡ Some d → d.is_short ≡ false → Clear
  its_clear d d_is e =
      let field = field_own (λ (x : CallThere K V). x.is_short) short_by effect_short (name i) map effects m c c_is d d_is in clear_by told refl (sym field ∙ e)

  -- each call after it
  grown_then : RefinesGrown name v led
  grown_then n j x is d d_is e = elim (which s.calls map i to.4.next n j x is) as (λ _. SoInMachine IsOther (machine_of x)) [
    | inl it ↦
        subst (λ (y : Machine K V K). SoInMachine IsOther y) (sym (goes_as_one to.1 said to.4.next to.4.goes_on x it.2))
        (its_clear d (ap (λ (k : ℕ). call_of (name k) v) (sym it.1) ∙ d_is) (was_false d.is_short e)).0
    | inr was ↦
        let there = whole.all.shown.calls n j x was.1 in
        let field = field_other (λ (y : CallThere K V). y.is_short) short_by effect_short (name i) map effects m (name j) (apart was.0 was.1) there.0 there.1 d d_is in
        grown n j x was.1 there.0 there.1 (ap not (sym field) ∙ e)
  ]
    where
      apart : (n ≡ map → j ≡ i → ⊥) → s.calls n j ≡ Some x → is_same (name j) (name i) ≡ true → ⊥
      apart other was names = (let both = whole.all.asked.apart n j map i x u was here names in other both.0 both.1)

  refused_short : said ≡ progress.Refused Memory → (d : CallThere K V) → call_of (name i) v ≡ Some d → d.is_short ≡ true
  refused_short refused d d_is = by d.is_short refl
    where
      by : (q : Bool) → d.is_short ≡ q → d.is_short ≡ true
      by true e = e
      by false e = absurd (subst (λ (x : Progress (Node K V)). SaysSo IsOther x) refused (its_clear d d_is e).1 refl)

  pub step_keeps_grown : RefinesGrown name v led × (said ≡ progress.Refused Memory → (d : CallThere K V) → call_of (name i) v ≡ Some d → d.is_short ≡ true)
  step_keeps_grown = (grown_then, refused_short)

pub calls_keep_grown : (K V : Type 0) (same : K → K → Bool) (hash : ℕ → K → ℕ) → CallsPreserveGrown K V same hash
calls_keep_grown K V same hash name m known s old new at whole short grown map i u here said leads = step_keeps_grown same hash name m known s old new at whole short grown map i u here said leads
