-- The machine says what a call asks, where it stands to ask that, and as long as it does.
use Rattle.std.specs.Prelude.{◌≡◌, ℕ, Bool, Option, Some, None}
use Rattle.std.proofs.Common.{refl, ap, sym, subst, ◌∙◌}
use Rattle.run_places.specs.Given.SeizeWordsMem.{Mem, value_at}
use Rattle.run_places.specs.Given.SeizeWordsPlan.{Plan, Then, Turn, Do, Now, Seeing, Sure, then_as, plan_as}
use Rattle.run_places.specs.Given.TablesDeclared.node.Node.{Node}
use Rattle.run_places.specs.Given.RawCall.{plan_at}
use Rattle.run_places.specs.Given.RawMachine.{called}
use Rattle.run_places.specs.Given.RawDeclared.machines.answer.Called.{Called}
use Rattle.run_places.specs.Given.RawDeclared.machines.answer.Called.TheVariants as answer
use Rattle.run_places.specs.Given.RawDeclared.machines.asking.Asking.{Asking as AskingAt}
use Rattle.run_places.specs.Given.RawDeclared.machines.asking.Asking.TheVariants as asking
use Rattle.run_places.specs.Given.RawDeclared.machines.call.Calling.{Calling}
use Rattle.run_places.specs.Given.RawDeclared.machines.call.Calling.TheVariants as at
use Rattle.run_places.specs.Given.RawDeclared.machines.call.KeyCall.{KeyCall}
use Rattle.run_places.specs.Given.RawDeclared.machines.machine.Machine.{Machine}
use Rattle.run_places.specs.Given.RawDeclared.machines.machine.Machine.TheVariants as kinds
use Rattle.run_places.specs.Given.RawDeclared.machines.progress.Progress.{Progress}
use Rattle.run_places.specs.Given.RawDeclared.machines.progress.Progress.TheVariants as progress
use Rattle.run_places.specs.Given.RunsDeclared.call.Call.{Call}
use Rattle.run_places.proofs.Given.RuleKeys.Always.{Always, AlwaysOf, always_ends}
use Rattle.run_places.specs.Given.TellerTells.{StepsObserved}
use Rattle.run_places.specs.Given.EffectsDeclared.changed.Changed.{Changed}
use Rattle.run_places.specs.Given.EffectsDeclared.changed.Changed.TheVariants.{Nothing}
use Rattle.run_places.specs.Given.CallersTogether.{CallOnKey, UnderWay, OnKey, ForRoom, Counting, OverAll}
use Rattle.run_places.specs.Given.EffectsKnown.{Known}
use Rattle.run_places.specs.Given.FinishesMachines.{machine_of}
use Rattle.run_places.specs.Hands.Asked.{IsQuestion, IsAskedAs, AsksThere}
use Rattle.run_histories.specs.Histories.Asking.{IsQuestionAsked, AskingStepsStandThere, AskingCallsAskStill}
use Rattle.run_histories.proofs.Histories.Says.{AsksAt, SaysSo, says_so}
use Rattle.run_places.specs.Given.ScenesHeld.{Held}
use Rattle.run_places.specs.Given.ScenesStepping.{StepsFrom}

-- what is so of each outcome of a plan, turned into another
module _ {T A B : Type 0} (P : A → Type 0) (Q : B → Type 0) (f : A → B) (turn : (a : A) → P a → Q (f a)) where
  always_then : (rest : Then T A) → Always P rest → Always Q (then_as f rest)
  always_then (Now end) so = turn end so
  always_then (Seeing block rest) so = λ value. always_then (rest value) (so value)
  always_then (Sure fact rest) so = always_then rest so

  pub always_turned : (plan : Plan T A) → AlwaysOf P plan → AlwaysOf Q (plan_as f plan)
  always_turned (Turn rest) so = always_then rest so
  always_turned (Do op rest) so = λ out. always_then (rest out) (so out)

-- is so of the one to which a step has come, whose operation is told
pub always_told : {K V R : Type 0} (P : R → Type 0) (m n : Mem (Node K V)) (before told : Changed) (plan : Plan (Node K V) R) (end : R) → AlwaysOf P plan → StepsObserved K V R m before plan n told end → P end
always_told P m n before told (Turn rest) end always s = always_ends P (value_at n) rest end always s.1
always_told P m n before told (Do op rest) end always s = always_ends P (value_at n) (rest s.0) end (always s.0) s.2

-- in the words of a run
asks_there : (known : Known) (stands : Calling) (about question : Option ℕ) → AsksAt about stands → IsQuestionAsked known about question → AsksThere known stands question
asks_there known stands None None at_gap told = (asking.Absent at_gap.0, at_gap.1, tt)
asks_there known stands None (Some n) at_gap told = absurd told
asks_there known stands (Some word) None at_word told = absurd told
asks_there known stands (Some word) (Some n) at_word told = (asking.Present word, at_word, told)

module _ {K V : Type 0} where
  -- a machine for a call on one key asks there what it says
  abbrev MachineSaysSo : Machine K V K × Progress (Node K V) → Type 0
  MachineSaysSo (kinds.Key p, progress.Asks about) = AsksAt about p.stands
  MachineSaysSo (kinds.Key p, _) = Unit {0}
  MachineSaysSo (_, _) = ⊥

  as_said : (end : KeyCall K V K × Called (Node K V)) → SaysSo end → MachineSaysSo (called end)
  as_said (p, answer.Goes) so = tt
  as_said (p, answer.Waits) so = tt
  as_said (p, answer.Gave value) so = tt
  as_said (p, answer.Unstored value) so = tt
  as_said (p, answer.Asks about) so = so
  as_said (p, answer.Done told) so = tt
  as_said (p, answer.Refused fault) so = tt

module _ {K V : Type 0} (same : K → K → Bool) (hash : K → ℕ) (old new : Held K V) (u : CallOnKey K V K) (machine : Machine K V K) (said : Progress (Node K V))
    (steps : StepsFrom same hash (kinds.Key u.call) old new machine said) where
  said_so : MachineSaysSo (machine, said)
  said_so =
      always_told MachineSaysSo old.memory new.memory Nothing new.changed (plan_as called (plan_at same same hash u.call u.call.stands)) (machine, said)
      (always_turned SaysSo MachineSaysSo called as_said (plan_at same same hash u.call u.call.stands) (says_so u.call same same hash)) steps

  -- where it goes on as a call that is under way
  pub goes_there : (about : Option ℕ) → said ≡ progress.Asks about → (x : UnderWay K V K) → machine_of x ≡ machine → (next : CallOnKey K V K) × (x ≡ OnKey next) × AsksAt about next.call.stands
  goes_there about is x machine_is = by x (subst (λ (z : Progress (Node K V)). MachineSaysSo (machine_of x, z)) is (subst (λ (z : Machine K V K). MachineSaysSo (z, said)) (sym machine_is) said_so))
    where
      by : (y : UnderWay K V K) → MachineSaysSo (machine_of y, progress.Asks about) → (next : CallOnKey K V K) × (y ≡ OnKey next) × AsksAt about next.call.stands
      by (OnKey v) so = (v, refl, so)
      by (ForRoom r) so = absurd so
      by (Counting sum) so = absurd so
      by (OverAll o) so = absurd so

  abbrev StepsAt : Calling → Type 0
  StepsAt stands =
      StepsObserved K V (Machine K V K × Progress (Node K V)) old.memory Nothing (plan_as called (plan_at same same hash u.call stands)) new.memory new.changed (machine, said)

  -- where it asks, it says so
  says_still : (known : Known) (it : AskingAt) (question : Option ℕ) → IsQuestion known it question → StepsAt (at.Asks it) → (about : Option ℕ) × (said ≡ progress.Asks about) × IsQuestionAsked known about question
  says_still known (asking.Absent gap) None is steps = (None, ap (λ (x : Machine K V K × Progress (Node K V)). x.1) steps.1, tt)
  says_still known (asking.Absent gap) (Some n) is steps = absurd is
  says_still known (asking.Present word) None is steps = absurd is
  says_still known (asking.Present word) (Some n) is steps = (Some word, ap (λ (x : Machine K V K × Progress (Node K V)). x.1) steps.1, is)
  says_still known (asking.Fills word) None is steps = absurd is
  says_still known (asking.Fills word) (Some n) is steps = absurd is
  says_still known (asking.GivesUp word) None is steps = absurd is
  says_still known (asking.GivesUp word) (Some n) is steps = absurd is

  asks_again_there : (known : Known) (question : Option ℕ) → AsksThere known u.call.stands question → (about : Option ℕ) × (said ≡ progress.Asks about) × IsQuestionAsked known about question
  asks_again_there known question (it, stands, is) = says_still known it question is (subst StepsAt stands steps)

module _ (K V : Type 0) (same : K → K → Bool) (hash : ℕ → K → ℕ) where
  pub asking_steps_stand_there : AskingStepsStandThere K V same hash
  asking_steps_stand_there s old new map i u here about leads =
      let to = leads map (OnKey u) here in
      let on = to.4.goes_on in
      let it = goes_there same to.0.hash old new u to.1 (progress.Asks about) to.3 about refl on.0 on.2 in
      (it.0, on.1 ∙ ap Some it.1, λ known question told. asks_there known it.0.call.stands about question it.2 told)

  pub asking_calls_ask_still : AskingCallsAskStill K V same hash
  asking_calls_ask_still name number m known s old new asked map i u here said leads c c_is one one_is question asks =
      let to = leads map (OnKey u) here in
      let h = subst (λ (z : Call K V). IsAskedAs (number map) to.0.chart.stored known u z c) one_is (asked.each map i (OnKey u) here to.0 to.2 c c_is) in
      asks_again_there same to.0.hash old new u to.1 said to.3 known question (h.asks question asks)
