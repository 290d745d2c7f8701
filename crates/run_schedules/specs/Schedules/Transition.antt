-- What an entry of a history does, whoever tells of it: whose call takes steps, what that comes to, which effects it has, and from which moment to which. Whether it is
-- linearizable, does what a sweep is for, and protects what sections hold is a matter of this and of what has been before it.
use Rattle.std.specs.Prelude.{ℕ, nat_lt, suc, List, [], ◌∷◌, length, Option, if◌then◌else◌}
use Rattle.run_schedules.specs.declared.effect.Effect.{Effect}
use Rattle.run_schedules.specs.declared.outcome.Outcome.{Outcome}
use Rattle.run_schedules.specs.Schedules.Moment.{Moment, UnderWay}
use Rattle.run_schedules.specs.Schedules.Entry.{Entry, acted_on, acting, caller_of}
use Rattle.run_schedules.specs.Schedules.Beginning.{at_work}
use Rattle.run_schedules.specs.Schedules.Effects.{with_effects}
use Rattle.run_schedules.specs.Schedules.After.{after, moment, moments_from}

-- what has been so far
pub record Past (K V : Type 0) : Type 0 where
  pub entries : ℕ  -- how many entries have come
  pub now : Moment K V  -- the moment after them
  pub since : ℕ → List (Moment K V)  -- the moments since so many had come, the newest first

pub record Transition (K V : Type 0) : Type 0 where
  pub caller : Option (List ℕ)  -- whose call takes steps
  pub map : Option ℕ  -- the map on which it acts
  pub outcome : Outcome V
  pub effects : List Effect
  pub found : Moment K V  -- the moment that its effects find
  pub left : Moment K V  -- the moment after it

module _ {K V : Type 0} where
  -- one entry more, with the moment after it
  abbrev pub further : Moment K V → Past K V → Past K V
  further m log =
      record { entries = suc log.entries; now = m; since = λ begun. if nat_lt (suc log.entries) begun then [] else m ∷ log.since begun }

  -- the moment at which its effects are there
  abbrev pub worked_by : Transition K V → Moment K V
  worked_by t = with_effects t.caller t.map t.effects t.found

  -- the call that takes its steps, before its effects and after them
  abbrev pub call_found : Transition K V → Option (UnderWay K V)
  call_found t = acting t.caller t.found

  abbrev pub call_left : Transition K V → Option (UnderWay K V)
  call_left t = acting t.caller (worked_by t)

  -- what a log has been
  abbrev pub past : List (Entry K V) → Past K V
  past log = record { entries = length log; now = moment log; since = λ begun. moments_from begun log }

  -- what an event does
  abbrev pub transition : List (Entry K V) → Entry K V → Transition K V
  transition log e =
      record {
        caller = caller_of e.event;
        map = acted_on e.event (at_work e (moment log));
        outcome = e.outcome;
        effects = e.effects;
        found = at_work e (moment log);
        left = after e (moment log);
      }
