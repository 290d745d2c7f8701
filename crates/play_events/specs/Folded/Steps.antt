-- What is promised of each step of a call, and of each event by which one goes on: it hands over in order.
use Rattle.std.specs.Prelude.{◌≡◌, ℕ, Bool, List, [], ◌++◌, Some}
use Rattle.play_lists.specs.Given.TablesDeclared.node.Node.{Node}
use Rattle.play_stepping.specs.Given.RawDeclared.machines.progress.Progress.{Progress}
use Rattle.run_schedules.specs.Schedules.After.{moment}
use Rattle.run_schedules.specs.Schedules.Beginning.{at_work}
use Rattle.run_schedules.specs.Schedules.Entry.{Entry, acted_on}
use Rattle.run_schedules.specs.Schedules.Moment.{UnderWay as CallThere, Moment}
use Rattle.run_schedules.specs.Schedules.Terms.{Terms}
use Rattle.play_stepping.specs.Given.CallersTogether.{UnderWay}
use Rattle.play_lists.specs.Given.EffectsEffects.{effects_of}
use Rattle.play_lists.specs.Given.EffectsKnown.{Known}
use Rattle.play_lists.specs.Given.EffectsDeclared.acting.Acting.TheVariants as acts
use Rattle.play_stepping.specs.Given.MomentsWhole.{RefinesWhole}
use Rattle.play_lists.specs.Given.KeptKept.{RefinesKept}
use Rattle.run_legal.specs.CallEvents.{InCallEvent}
use Rattle.run_legal.specs.Chains.{CallCome, CallSteps, Chain}
use Rattle.play_events.specs.Folded.Folded.{HandInOrder, HandsInOrder}
use Rattle.play_lists.specs.Given.ScenesHeld.{Held, IsAt}
use Rattle.play_lists.specs.Given.ScenesScene.{Scene}
use Rattle.play_lists.specs.Given.ScenesStepping.{StepLeads}

module _ (K V : Type 0) (same : K → K → Bool) (hash : ℕ → K → ℕ) where
  -- The promises: the effects of a step of a call, of whatever kind, hand over in order;
  abbrev pub StepsHandInOrder : Type 0
  StepsHandInOrder =
      (name : ℕ → List ℕ) (m : Moment K V) (known : Known) (s : Scene K V) (old new : Held K V) → IsAt same hash old s → RefinesWhole same name m known s → RefinesKept name m known s
      → (map i : ℕ) (u : UnderWay K V K) → s.calls map i ≡ Some u → (said : Progress (Node K V)) → StepLeads same hash i said s old new
      → HandInOrder (Some (name i)) (Some map) (effects_of (acts.Call i map) known new.changed) m

  -- and so do those of an event by which a call goes on: by a chain of steps, and by a last one.
  abbrev pub CallEventsHandInOrder : Type 0
  CallEventsHandInOrder =
      (name : ℕ → List ℕ) (terms : Terms) (log : List (Entry K V)) (beginning : Moment K V) (map i : ℕ) (c : CallThere K V) (e : Entry K V) (n : ℕ) (first last : CallCome K V)
      → InCallEvent same name terms log e.event beginning map i c first.steps first.come.did first.come.now first.come.notes first.come.scene first.under → first.come.did ≡ []
      → Chain (CallSteps same hash name terms log map i) n first last
      → (new : Held K V) → IsAt same hash last.come.held last.come.scene → (said : Progress (Node K V)) → StepLeads same hash i said last.come.scene last.come.held new
      → at_work e (moment log) ≡ beginning → acted_on e.event beginning ≡ Some map → e.effects ≡ last.come.did ++ effects_of (acts.Call i map) last.come.notes new.changed
      → HandsInOrder log e
