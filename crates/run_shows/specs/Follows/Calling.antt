-- Calls between their steps: where one begins, is told a reply, or has come to an outcome, the scene refines the moment then.
use Rattle.std.specs.Prelude.{◌≡◌, ℕ, Bool, true, false, List, Some}
use Rattle.run_effects.specs.Given.RunsSame.{is_same}
use Rattle.run_effects.specs.Given.RunsDeclared.call.Reply.{Reply}
use Rattle.run_effects.specs.Given.RunsDeclared.event.Event.TheVariants.{Replied}
use Rattle.run_effects.specs.Given.RunsDeclared.outcome.Outcome.{Outcome}
use Rattle.run_effects.specs.Given.RunsDeclared.outcome.Outcome.TheVariants.{Goes}
use Rattle.run_effects.specs.Given.SchedulesAfter.{stepped, calls_on}
use Rattle.run_effects.specs.Given.SchedulesEntry.{ends_call}
use Rattle.run_effects.specs.Given.SchedulesMoment.{Moment}
use Rattle.many_maps.specs.Given.CallersTogether.{UnderWay}
use Rattle.run_effects.specs.Effects.Known.{Known}
use Rattle.run_shows.specs.Follows.Shows.{Refines}
use Rattle.run_shows.specs.Scenes.Scene.{Scene}

module _ {K V : Type 0} where
  -- no call that is under way has this name
  abbrev pub NoneNamed : (ℕ → List ℕ) → List ℕ → Scene K V → Type 0
  NoneNamed name own s = (map i : ℕ) (u : UnderWay K V K) → s.calls map i ≡ Some u → is_same own (name i) ≡ false

  -- the call of this name is told a reply
  abbrev pub told : List ℕ → Reply V → Moment K V → Moment K V
  told own reply m = record m { calls = calls_on (Replied own reply) Goes 0 m.calls }

  -- the call of this name has come to an outcome by so many steps
  abbrev pub come_to : List ℕ → Outcome V → ℕ → Moment K V → Moment K V
  come_to own outcome steps m = record m { calls = stepped (Some own) outcome steps m.calls }

module _ (K V : Type 0) (same : K → K → Bool) where
  -- The promise, where a call has come to an outcome: where that is its end, no call under way has its name any more.
  abbrev pub CallsComeTo : Type 0
  CallsComeTo =
      (name : ℕ → List ℕ) (m : Moment K V) (known : Known) (s : Scene K V) → Refines same name m known s
      → (own : List ℕ) (outcome : Outcome V) (steps : ℕ) → (ends_call outcome ≡ true → NoneNamed name own s)
      → Refines same name (come_to own outcome steps m) known s
