-- What is promised of an entry of a history beside what its effects find: it does what is its own, and all of that.
use Rattle.std.specs.Prelude.{◌≡◌, true, false, List}
use Rattle.std.specs.List.{list_all}
use Rattle.run_schedules.specs.Schedules.Entry.{IfCall}
use Rattle.run_schedules.specs.Schedules.Handing.{LeavesOf, is_clear_outcome, is_granted}
use Rattle.run_schedules.specs.Schedules.Transition.{call_left, worked_by}
use Rattle.run_schedules.specs.Deeds.Deeds.{Entry}
use Rattle.run_schedules.specs.Deeds.History.{IsWhole, Refuses, may_do, transition}

-- The deed may have each effect, what is made was asked for, a refusal makes nothing, what must come of the deed does, and a call that is over leaves nothing behind.
pub record DoesIts {K V : Type 0} (log : List (Entry K V)) (e : Entry K V) : Type 0 where
  pub may : list_all (may_do e.deed) e.effects ≡ true
  pub granted : is_granted false e.effects ≡ true
  pub refuses : Refuses e.refused e.effects
  pub whole : IsWhole log e.deed e.outcome e.effects (worked_by (transition log e))
  pub leaves : IfCall (LeavesOf (is_clear_outcome e.outcome) e.outcome) (call_left (transition log e))
