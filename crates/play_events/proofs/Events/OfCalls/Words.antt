-- What a step of a call says, in the words of an outcome: where it ends the call, is ready, asks, or shows nothing; and what it tells of a call on a whole map.
use Rattle.std.specs.Prelude.{◌≡◌, ℕ, Bool, true, false, List, Option}
use Rattle.std.proofs.Common.{refl, ap, inl, inr}
use Rattle.run_schedules.specs.Given.SeizeWordsDeclared.fault.Fault.TheVariants.{Busy}
use Rattle.play_lists.specs.Given.TablesDeclared.node.Node.{Node}
use Rattle.play_stepping.specs.Given.RawDeclared.machines.progress.Answer.TheVariants as answers
use Rattle.play_stepping.specs.Given.RawDeclared.machines.answer.KeyAnswer.TheVariants as says
use Rattle.play_stepping.specs.Given.RawDeclared.machines.progress.Progress.{Progress}
use Rattle.play_stepping.specs.Given.RawDeclared.machines.progress.Progress.TheVariants as progress
use Rattle.run_schedules.specs.declared.call.Call.{Call}
use Rattle.run_schedules.specs.declared.call.Call.TheVariants.{Clear, Len, On, Reserve, Retain, Walk}
use Rattle.run_schedules.specs.declared.outcome.Outcome.{Outcome}
use Rattle.run_schedules.specs.declared.outcome.Outcome.TheVariants as outcome
use Rattle.run_schedules.specs.Schedules.Entry.{Entry, is_busy}
use Rattle.run_schedules.specs.Schedules.Moment.{Moment}
use Rattle.play_lists.specs.Given.EffectsKnown.{Known}
use Rattle.play_stepping.specs.Given.PurposesKept.{ShowsNone}
use Rattle.run_legal.specs.CallRuns.{OutcomeNamesShown, OutcomeEndsAsStep}
use Rattle.run_legal.specs.CallSwept.{OutcomeOf}
use Rattle.play_stepping.specs.Given.NamedSeen.{kind_of}
use Rattle.play_stepping.specs.Given.NamedTelling.{continues}
use Rattle.play_stepping.specs.Given.ExecutorDeclared.kind.CallKind.{CallKind}
use Rattle.play_stepping.specs.EventSteps.Stepping.{HasOutcomeOfKind}
use Rattle.play_stepping.specs.Given.Says.{outcome_of}
use Rattle.play_stepping.proofs.EventSteps.OneStep.{ends_as}

-- what is no refusal as out of turn is none
pub not_busy : {V : Type 0} (o : Outcome V) → (o ≡ outcome.Refused Busy → ⊥) → is_busy o ≡ false
not_busy (outcome.Refused Busy) never = absurd (never refl)
not_busy (outcome.Refused fault) never = refl
not_busy _ never = refl

module _ {K V : Type 0} (by : Known) (its : CallKind) (value : Option V) where
  -- one that goes on by itself shows no pair
  pub shows_none : (said : Progress (Node K V)) → continues (outcome_of by its value said) ≡ true → ShowsNone said
  shows_none (progress.Pair word) on = absurd (cc on)
  shows_none _ on = tt

  ready_as : (said : Progress (Node K V)) → outcome_of by its value said ≡ outcome.Ready → said ≡ progress.Ready
  ready_as progress.Ready is = refl
  ready_as progress.Goes is = absurd (cc is)
  ready_as (progress.Gave node) is = absurd (cc is)
  ready_as (progress.Unstored node) is = absurd (cc is)
  ready_as progress.Waits is = absurd (cc is)
  ready_as (progress.Asks word) is = absurd (cc is)
  ready_as (progress.Pair word) is = absurd (cc is)
  ready_as (progress.Done said) is = absurd (cc is)
  ready_as (progress.Refused fault) is = absurd (cc is)

  -- the outcome ends the call, is ready, and is short of memory just where the step is
  pub tells_end : (said : Progress (Node K V)) → (outcome_of by its value said ≡ outcome.Refused Busy → ⊥) → OutcomeEndsAsStep said (outcome_of by its value said)
  tells_end said never = record {
    ends = ends_as by its value said never;
    ready = ready_as said;
    memory = λ e. ap (λ (x : Progress (Node K V)). outcome_of by its value x) e;
  }

  -- one that is no walk asked for its next pair shows no pair
  pub shows_as_told : (call : Call K V) (said : Progress (Node K V)) → HasOutcomeOfKind call (outcome_of by its value said) → OutcomeNamesShown {K = K} by said (outcome_of by its value said)
  shows_as_told (On one) (progress.Pair word) comes = absurd comes
  shows_as_told (Reserve more) (progress.Pair word) comes = absurd comes
  shows_as_told Clear (progress.Pair word) comes = absurd comes
  shows_as_told Retain (progress.Pair word) comes = absurd comes
  shows_as_told Len (progress.Pair word) comes = absurd comes
  shows_as_told Walk (progress.Pair word) comes = absurd comes
  shows_as_told call progress.Goes comes = inl (tt, tt)
  shows_as_told call (progress.Gave node) comes = inl (tt, tt)
  shows_as_told call (progress.Unstored node) comes = inl (tt, tt)
  shows_as_told call progress.Waits comes = inl (tt, tt)
  shows_as_told call (progress.Asks word) comes = inl (tt, tt)
  shows_as_told call progress.Ready comes = inl (tt, tt)
  shows_as_told call (progress.Done said) comes = inl (tt, tt)
  shows_as_told call (progress.Refused fault) comes = inl (tt, tt)

-- what is told of one on a whole map
module _ {K V : Type 0} (same : K → K → Bool) (log : List (Entry K V)) (m : Moment K V) (map : ℕ) (by : Known) (value : Option V) where
  abbrev Told : Call K V → Progress (Node K V) → Type 0
  Told call said = OutcomeOf same log m map by said (outcome_of by (kind_of call) value said) call

  abbrev Comes : Call K V → Progress (Node K V) → Type 0
  Comes call said = HasOutcomeOfKind call (outcome_of by (kind_of call) value said)

  len_tells : (said : Progress (Node K V)) → Comes Len said → Told Len said
  len_tells (progress.Done (answers.Count n)) comes = inr (n, refl, refl)
  len_tells (progress.Done answers.Reserved) comes = absurd (cc comes)
  len_tells (progress.Done answers.Swept) comes = absurd (cc comes)
  len_tells (progress.Done (answers.Key says.Absent)) comes = absurd (cc comes)
  len_tells (progress.Done (answers.Key (says.Found word))) comes = absurd (cc comes)
  len_tells (progress.Done (answers.Key (says.Stored word))) comes = absurd (cc comes)
  len_tells (progress.Done (answers.Key (says.Replaced old new))) comes = absurd (cc comes)
  len_tells (progress.Done (answers.Key (says.Removed word))) comes = absurd (cc comes)
  len_tells (progress.Pair word) comes = absurd comes
  len_tells _ comes = inl tt

  room_tells : (more : ℕ) (said : Progress (Node K V)) → Comes (Reserve more) said → Told (Reserve more) said
  room_tells more (progress.Done (answers.Count n)) comes = absurd (cc comes)
  room_tells more (progress.Done answers.Reserved) comes = inr (refl, tt)
  room_tells more (progress.Done answers.Swept) comes = inr (refl, tt)
  room_tells more (progress.Done (answers.Key says.Absent)) comes = absurd (cc comes)
  room_tells more (progress.Done (answers.Key (says.Found word))) comes = absurd (cc comes)
  room_tells more (progress.Done (answers.Key (says.Stored word))) comes = absurd (cc comes)
  room_tells more (progress.Done (answers.Key (says.Replaced old new))) comes = absurd (cc comes)
  room_tells more (progress.Done (answers.Key (says.Removed word))) comes = absurd (cc comes)
  room_tells more (progress.Pair word) comes = absurd comes
  room_tells more _ comes = inl tt

  clear_tells : (said : Progress (Node K V)) → Comes Clear said → Told Clear said
  clear_tells (progress.Done (answers.Count n)) comes = absurd (cc comes)
  clear_tells (progress.Done answers.Reserved) comes = inr (refl, tt)
  clear_tells (progress.Done answers.Swept) comes = inr (refl, tt)
  clear_tells (progress.Done (answers.Key says.Absent)) comes = absurd (cc comes)
  clear_tells (progress.Done (answers.Key (says.Found word))) comes = absurd (cc comes)
  clear_tells (progress.Done (answers.Key (says.Stored word))) comes = absurd (cc comes)
  clear_tells (progress.Done (answers.Key (says.Replaced old new))) comes = absurd (cc comes)
  clear_tells (progress.Done (answers.Key (says.Removed word))) comes = absurd (cc comes)
  clear_tells (progress.Pair word) comes = absurd comes
  clear_tells _ comes = inl tt

  retain_tells : (said : Progress (Node K V)) → Comes Retain said → Told Retain said
  retain_tells (progress.Done (answers.Count n)) comes = absurd (cc comes)
  retain_tells (progress.Done answers.Reserved) comes = inr (refl, tt)
  retain_tells (progress.Done answers.Swept) comes = inr (refl, tt)
  retain_tells (progress.Done (answers.Key says.Absent)) comes = absurd (cc comes)
  retain_tells (progress.Done (answers.Key (says.Found word))) comes = absurd (cc comes)
  retain_tells (progress.Done (answers.Key (says.Stored word))) comes = absurd (cc comes)
  retain_tells (progress.Done (answers.Key (says.Replaced old new))) comes = absurd (cc comes)
  retain_tells (progress.Done (answers.Key (says.Removed word))) comes = absurd (cc comes)
  retain_tells (progress.Pair word) comes = absurd comes
  retain_tells _ comes = inl tt

  walk_tells : (said : Progress (Node K V)) → Comes Walk said → Told Walk said
  walk_tells (progress.Done said) comes = absurd (cc comes)
  walk_tells (progress.Pair word) comes = absurd comes
  walk_tells _ comes = inl tt

  pub tells_of : (call : Call K V) (said : Progress (Node K V)) → Comes call said → Told call said
  tells_of (On one) said comes = tt
  tells_of (Reserve more) said comes = room_tells more said comes
  tells_of Clear said comes = clear_tells said comes
  tells_of Retain said comes = retain_tells said comes
  tells_of Len said comes = len_tells said comes
  tells_of Walk said comes = walk_tells said comes
