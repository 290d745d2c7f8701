-- A step of a call that is none of a row, which takes no pair out of its map and makes no table the root: its effects leave what the call owes; and a call that does not go on
-- has ended.
use Rattle.std.specs.Prelude.{◌≡◌, ℕ, ◌||◌, Bool, true, false, List, [], ◌∷◌, ◌++◌, flat_map, Option, Some, None, option_map, if◌then◌else◌}
use Rattle.std.specs.List.{list_any}
use Rattle.std.proofs.Common.{refl, ap, sym, subst, ◌∙◌, inl, inr}
use Rattle.run_places.specs.Given.SeizeWordsPlan.{Plan}
use Rattle.run_places.specs.Given.TablesDeclared.node.Node.{Node}
use Rattle.run_places.specs.Given.RawDeclared.machines.machine.Machine.{Machine}
use Rattle.run_places.specs.Given.RawDeclared.machines.progress.Progress.{Progress}
use Rattle.run_places.specs.Given.RunsDeclared.effect.Effect.{Effect}
use Rattle.run_places.specs.Given.RunsDeclared.effect.Effect.TheVariants as effect
use Rattle.run_places.specs.Given.RunsDeclared.effect.TableId.{TableId}
use Rattle.run_places.specs.Given.RunsDeclared.effect.Thing.{Thing}
use Rattle.run_places.specs.Given.SchedulesLinearizable.{shift_of}
use Rattle.run_places.specs.Given.SchedulesMoment.{Moment}
use Rattle.run_places.specs.Given.TellerTells.{StepsObserved}
use Rattle.run_places.specs.Given.EffectsDeclared.changed.Changed.TheVariants as changed
use Rattle.run_places.proofs.Given.RuleWorld.RootSpared.{PlanSparesRoot}
use Rattle.owner_facts.specs.Given.CallersTogether.{UnderWay}
use Rattle.run_places.specs.Given.EffectsEffects.{effects_of}
use Rattle.run_places.specs.Given.EffectsKnown.{Known}
use Rattle.run_places.specs.Given.EffectsDeclared.acting.Acting.TheVariants as acts
use Rattle.owner_facts.specs.Given.FinishesMachines.{machine_of}
use Rattle.run_places.specs.Given.FollowsShows.{Refines}
use Rattle.run_places.proofs.Given.FollowsSteps.{WentTo, went_to, OfNoRow}
use Rattle.run_places.proofs.Given.FollowsWrites.{nothing_free}
use Rattle.run_debts.specs.InHand.{TakesPair}
use Rattle.run_debts.specs.Owing.{hands_over, HandsOver, AllLeave, ObligationsGo, KeepsOwed, TakesOut, PutsOver, Passes, HandsFirst}
use Rattle.run_debts.proofs.Takings.{steps_take_out}
use Rattle.run_debts.proofs.Unpromoted.{NonePromotes, none_promotes, spared_tells}
use Rattle.run_places.proofs.Given.ScenesGoes.{goes_as}
use Rattle.run_places.specs.Given.ScenesHeld.{Held, IsAt}
use Rattle.run_places.specs.Given.ScenesScene.{Scene}
use Rattle.run_places.specs.Given.ScenesStepping.{StepLeads, going_on, has_ended}

-- what hands something over does so
pub hands_it : (f : Effect) (x : Thing) → HandsOver f x → hands_over f ≡ true
hands_it (effect.Deferred n t) x hands = refl
hands_it (effect.Retired y) x hands = refl
hands_it _ x hands = absurd hands

pub no_handing : (effects : List Effect) → list_any hands_over effects ≡ false → (f : Effect) (y : Thing) → effects ≡ f ∷ [] → HandsOver f y → ⊥
no_handing effects none f y are hands =
    (let still : list_any hands_over (f ∷ []) ≡ false = ap (list_any hands_over) (sym are) ∙ none in
    let some : list_any hands_over (f ∷ []) ≡ true = ap (λ (q : Bool). q || false) (hands_it f y hands) in cc (still, some))

-- where no pair comes or goes, none is taken out
pub shifts_take : (effects : List Effect) → flat_map shift_of effects ≡ [] → (p : ℕ) → TakesPair effects p → ⊥
shifts_take effects none p (inl are) = (let gone = ap (λ (l : List Effect). flat_map shift_of l) are in cc (gone, none))
shifts_take effects none p (inr (n, s, are)) = (let gone = ap (λ (l : List Effect). flat_map shift_of l) are in cc (gone, none))

module _ {K V : Type 0} (same : K → K → Bool) (hash : ℕ → K → ℕ) (name : ℕ → List ℕ) (m : Moment K V) (known : Known) (s : Scene K V) (old new : Held K V) (at_old : IsAt same hash old s)
    (shown : Refines same name m known s) (map i : ℕ) (u : UnderWay K V K) (under_way : s.calls map i ≡ Some u) (said : Progress (Node K V)) (leads : StepLeads same hash i said s old new) where
  abbrev to : WentTo same hash name m known s old new at_old shown map i u under_way said leads
  to = went_to same hash name m known s old new at_old shown map i u under_way said leads

  abbrev effects : List Effect
  effects = effects_of (acts.Call i map) known new.changed

  -- a call that does not go on has ended
  pub has_gone : to.4.next ≡ None → has_ended said ≡ true
  has_gone none = by (has_ended said) refl
    where
      whole : ◌≡◌ {A = Option (Machine K V K)} None (going_on to.1 said)
      whole = ap (option_map machine_of) (sym none) ∙ goes_as to.1 said to.4.next to.4.goes_on

      by : (q : Bool) → has_ended said ≡ q → has_ended said ≡ true
      by true e = e
      by false e = absurd (let some : ◌≡◌ {A = Option (Machine K V K)} None (Some to.1) = whole ∙ ap (λ (q : Bool). if q then None else Some to.1) e in cc some)

  -- a step that spares the roots makes no table the root
  pub no_promotion : {R : Type 0} (plan : Plan (Node K V) R) (end : R) → PlanSparesRoot plan → StepsObserved K V R old.memory changed.Nothing plan new.memory new.changed end
      → (t : TableId) → effects ≡ effect.Promoted t ∷ [] → ⊥
  no_promotion plan end spares steps t are =
      (let none = none_promotes i map known (nothing_free s.world m.stored known shown.blocks.roles) new.changed
      (spared_tells old.memory new.memory new.changed plan end spares steps) in
      let no = (subst NonePromotes are none).0 in cc no)

  -- so its effects leave what is owed
  pub leaves : OfNoRow same hash name m known s old new at_old shown map i u under_way said leads u to.4.did → ((p : ℕ) → TakesPair effects p → ⊥) → ((t : TableId) → effects ≡ effect.Promoted t ∷ [] → ⊥)
      → AllLeave effects
  leaves own no_pair no_table = by taking.0 taking.1
    where
      taking : (taken : List Thing) × ObligationsGo m effects [] ([] ++ taken) × (list_any hands_over effects ≡ false)
      taking = steps_take_out K V same hash name m known s old new at_old shown map i u under_way said leads own []

      by : (taken : List Thing) → ObligationsGo m effects [] ([] ++ taken) → AllLeave effects
      by taken (KeepsOwed all same_owed) = all
      by taken (TakesOut p are more) = absurd (no_pair p (inl are))
      by taken (PutsOver p n sp are more) = absurd (no_pair p (inr (n, sp, are)))
      by taken (Passes t are more) = absurd (no_table t are)
      by taken (HandsFirst f y are hands less) = absurd (no_handing effects taking.2 f y are hands)
