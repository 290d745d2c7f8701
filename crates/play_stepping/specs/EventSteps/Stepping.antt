-- What a call comes to by its steps, how far it is then, and what is promised of that.
use Rattle.std.specs.Prelude.{◌≡◌, ◌≤◌, ◌+◌, ◌⊎◌, ◌&&◌, ℕ, zero, suc, Bool, true, false, is_none, is_some, List, [], ◌∷◌, ◌++◌, position, slice_get, sum_by, Some, None}
use Rattle.std.specs.List.{list_any}
use Rattle.seize_words.specs.declared.fault.Fault.{Fault}
use Rattle.seize_words.specs.declared.fault.Fault.TheVariants.{Busy, Capacity, Memory, RemoveNothing}
use Rattle.papaya_raw.specs.Given.TablesDeclared.node.Node.{Node}
use Rattle.papaya_raw.specs.Given.ReservesDeclared.sweep.Purpose.TheVariants.{Walks}
use Rattle.papaya_raw.specs.Given.ReservesDeclared.sweep.Sweeping.TheVariants as at
use Rattle.papaya_raw.specs.declared.machines.machine.Machine.{Machine}
use Rattle.papaya_raw.specs.declared.machines.machine.Machine.TheVariants as kinds
use Rattle.papaya_raw.specs.declared.machines.progress.Progress.{Progress}
use Rattle.papaya_raw.specs.declared.machines.progress.Progress.TheVariants as progress
use Rattle.run_schedules.specs.Runs.Stopped.{most_steps}
use Rattle.run_schedules.specs.declared.call.Call.{Call}
use Rattle.run_schedules.specs.declared.call.Call.TheVariants.{Len, On}
use Rattle.run_schedules.specs.declared.call.OneKey.{OneKey}
use Rattle.run_schedules.specs.declared.effect.Effect.{Effect}
use Rattle.run_schedules.specs.declared.event.Event.{Event}
use Rattle.run_schedules.specs.declared.event.Event.TheVariants.{Next}
use Rattle.run_schedules.specs.declared.outcome.Outcome.{Outcome}
use Rattle.run_schedules.specs.declared.outcome.Outcome.TheVariants.{Goes, Asks, Waits, Ready, Answered, Refused}
use Rattle.run_schedules.specs.Schedules.After.{moment, moments_from}
use Rattle.run_schedules.specs.Schedules.Beginning.{at_work}
use Rattle.run_schedules.specs.Schedules.Coming.{CountsTooMany, is_answer, is_at_limit, is_compute, is_walk, may_ask}
use Rattle.run_schedules.specs.Schedules.Effects.{with_effects, worked}
use Rattle.run_schedules.specs.Schedules.Entry.{Entry, IfCall, acting, caller_of, nameless}
use Rattle.run_schedules.specs.Schedules.InUse.{is_living}
use Rattle.run_schedules.specs.Schedules.Growing.{only_looks}
use Rattle.run_schedules.specs.Schedules.Lists.{OneOf}
use Rattle.run_schedules.specs.Schedules.Moment.{UnderWay as CallThere, Moment}
use Rattle.run_schedules.specs.Schedules.Sequential.{is_lookup}
use Rattle.run_schedules.specs.Schedules.Steps.{DoesFew, MakesSteps, state_or, weight}
use Rattle.run_schedules.specs.Schedules.Terms.{Terms}
use Rattle.run_schedules.specs.Schedules.Views.{call_of, map_of}
use Rattle.run_schedules.specs.Schedules.Waiting.{WaitsLawfully, may_wait_for}
use Rattle.owner_whole.specs.Given.LateFaults.{IsRoom}
use Rattle.run_executor.specs.Given.EffectsKnown.{known}
use Rattle.play_scheduler.specs.Given.FollowsCalling.{come_to}
use Rattle.play_scheduler.specs.Given.LoggedCalling.{CallContinues, CallSteps, WalkContinues}
use Rattle.play_scheduler.specs.Given.LoggedShown.{IsShown}
use Rattle.play_scheduler.specs.Given.LoggedDeclared.logged.Logged.{Logged}
use Rattle.play_scheduler.specs.Played.{AsFar, BeginsSo, IsInTurn, IsPlayed, Plays, RefinesAs, RefinesFor, entry_of}
use Rattle.play_scheduler.specs.Quiet.{BusyIsSilent}
use Rattle.run_executor.specs.Named.Seen.{is_named, ready_place}
use Rattle.run_executor.specs.Named.Telling.{continues}
use Rattle.run_executor.specs.declared.caller.NamedCaller.{NamedCaller}
use Rattle.run_executor.specs.declared.caller.Stands.{Stands as HowFar}
use Rattle.run_executor.specs.declared.caller.Stands.TheVariants as far
use Rattle.run_executor.specs.declared.kind.CallKind.TheVariants as kind
use Rattle.play_scheduler.specs.declared.played.Played.{Played}
use Rattle.play_scheduler.specs.declared.scheduler.Scheduler.{Scheduler}
use Rattle.run_executor.specs.Executing.IsThere.{IsThere, PreservesSettings}
use Rattle.run_executor.specs.Executing.Replying.{AsksThere}
use Rattle.play_scheduler.specs.Given.ScenesScene.{HasCall, Scene}
use Rattle.run_sweeps.specs.Says.{callers_then, outcome_of}

-- for what a call on one key is refused, which is no lookup: for room, or, of `compute`, for removing what is not there
abbrev pub IsFaultOn : {K V : Type 0} → OneKey K V → Fault → Type 0
IsFaultOn {K} {V} one fault =
    (is_lookup one ≡ false) × ((fault ≡ Memory) ⊎ (fault ≡ Capacity) ⊎ ((fault ≡ RemoveNothing) × (is_compute {K = K} {V = V} (On one) ≡ true)))

module _ {K V : Type 0} where
  -- What a call that goes on comes to, by its kind. In which case it waits, or is refused for room, this does not say.
  abbrev pub HasOutcomeOfKind : Call K V → Outcome V → Type 0
  HasOutcomeOfKind call Goes = Unit {0}
  HasOutcomeOfKind call Waits = Unit {0}
  HasOutcomeOfKind call (Asks question) = may_ask call ≡ true
  HasOutcomeOfKind call Ready = is_walk call ≡ true
  HasOutcomeOfKind call (Answered a) = is_answer call a ≡ true
  HasOutcomeOfKind (On one) (Refused fault) = IsFaultOn one fault
  HasOutcomeOfKind Len (Refused fault) = ⊥
  HasOutcomeOfKind call (Refused fault) = IsRoom fault
  HasOutcomeOfKind call _ = ⊥

  -- That says: a call is refused for the length of a table only where it finds none: it needs more places than a table can have, or a table after the longest or the last one.
  abbrev pub IsInCase : Terms → CallThere K V → List (Moment K V) → Moment K V → Outcome V → Type 0
  IsInCase terms c moments now (Refused Capacity) = CountsTooMany terms c.call c (now ∷ moments) ⊎ OneOf (λ m. is_at_limit c.map m ≡ true) (now ∷ moments)
  IsInCase terms c moments now _ = Unit {0}

  -- so it is of the call of an event
  abbrev pub OutcomeIsInCase : Terms → List (Entry K V) → Entry K V → Type 0
  OutcomeIsInCase terms log e =
      let w = worked e (moment log) in IfCall (λ c. IsInCase terms c (moments_from c.begun log) w e.outcome) (acting (caller_of e.event) w)

-- a call without a name may begin
abbrev pub may_begin : {K V : Type 0} → (guard map : List ℕ) → Moment K V → Bool
may_begin guard map m = is_none (call_of nameless m) && is_living guard m.there && is_some (map_of map m)

module _ {V : Type 0} where
  -- the call of this name is that of the caller at this place,
  abbrev pub IsPlaced : List ℕ → ℕ → List (NamedCaller V) → Type 0
  IsPlaced own place calls = Some place ≡ position (is_named own) calls

  -- who is this one
  abbrev pub IsCaller : List ℕ → ℕ → NamedCaller V → List (NamedCaller V) → Type 0
  IsCaller own place d calls = IsPlaced own place calls × (slice_get calls place ≡ Some d)

  -- somebody has this name
  abbrev pub HasCaller : List ℕ → List (NamedCaller V) → Type 0
  HasCaller own calls = (place : ℕ) × (d : NamedCaller V) × IsCaller own place d calls

-- the call of this name is that of the caller at this place, and goes on
abbrev pub GoesAt : {K V S : Type 0} → List ℕ → ℕ → Scheduler K V S → Type 0
GoesAt {K} {V} own place p =
    (Some place ≡ position (is_named own) p.calls) × (d : NamedCaller V) × (slice_get p.calls place ≡ Some d) × (d.stands ≡ far.Goes)

-- the call of this name is the walk at this place, and is ready to show pairs
abbrev pub ReadyAt : {K V S : Type 0} → List ℕ → ℕ → Scheduler K V S → Type 0
ReadyAt {K} {V} own place p =
    (Some place ≡ position (is_named own) p.calls) × (d : NamedCaller V) × (slice_get p.calls place ≡ Some d) × (d.stands ≡ far.Ready)

module _ {K V : Type 0} where
  -- A walk that was asked for its next pair goes over the places of its table, so many of which at least are behind it; or there are none.
  abbrev pub IsWalking : ℕ → Machine K V K → Type 0
  IsWalking n (kinds.Sweep sweep) = (sweep.purpose ≡ Walks) × (((sweep.stands ≡ at.Words) × (n ≤ sweep.place)) ⊎ ((sweep.stands ≡ at.Over) × (n ≡ 0)))
  IsWalking n _ = ⊥

  -- so it is of the caller of this name, and each other one's machine is as far as it says
  abbrev pub WalksFar : List ℕ → ℕ → NamedCaller V → Machine K V K → Type 0
  WalksFar own n d machine = (is_named own d ≡ true → (d.kind ≡ kind.Walks) × IsWalking n machine) × (is_named own d ≡ false → AsFar d machine)

module _ {K V S : Type 0} (same : K → K → Bool) (hash : K → ℕ) (terms : Terms) (own : List ℕ) (place : ℕ) (m : Moment K V) where
  -- So many steps of a call, of which each was taken while it went on: what they did follows in the list; and the scheduler stands for the moment at which the call has
  -- come to this, however many steps are counted, if that is no refusal as out of turn, which would end no call.
  pub record StepsHaveOutcome (steps : ℕ) (outcome : Outcome V) (before after : List Effect) (new : Scheduler K V S) : Type 0 where
    pub call : CallThere K V
    pub call_is : call_of own m ≡ Some call
    pub did : List Effect
    pub follows : after ≡ before ++ did
    pub few : sum_by weight did ≤ steps
    pub comes : HasOutcomeOfKind call.call outcome
    -- one that waits does more than look, and waits for one that it may wait for; one that is refused for want of memory has asked for a growth, and nothing was made since
    pub works : outcome ≡ Waits → only_looks call.call ≡ false
    pub waits : outcome ≡ Waits → (let w = with_effects (Some own) (Some call.map) did m in
        (d : CallThere K V) → call_of own w ≡ Some d → list_any (may_wait_for same d w) w.calls ≡ true)
    pub memory : outcome ≡ Refused Memory → (d : CallThere K V) → call_of own (with_effects (Some own) (Some call.map) did m) ≡ Some d → d.is_short ≡ true
    pub goes : continues outcome ≡ true → RefinesFor same hash terms (with_effects (Some own) (Some call.map) did m) new × GoesAt own place new
    pub stands : (outcome ≡ Refused Busy → ⊥) → (counted : ℕ) → RefinesFor same hash terms (come_to own outcome counted (with_effects (Some own) (Some call.map) did m)) new

  -- In the midst of these the call goes on, after what they did.
  pub record IsMidst (steps : ℕ) (before after : List Effect) (p : Scheduler K V S) : Type 0 where
    pub call : CallThere K V
    pub call_is : call_of own m ≡ Some call
    pub did : List Effect
    pub follows : after ≡ before ++ did
    pub few : sum_by weight did ≤ steps
    pub stands : RefinesFor same hash terms (with_effects (Some own) (Some call.map) did m) p
    pub going : GoesAt own place p

  -- In the midst of the steps to its next pair a walk goes over places, as many at least as it has taken steps, and has done nothing.
  pub record IsMidWalk (steps : ℕ) (before after : List Effect) (p : Scheduler K V S) : Type 0 where
    pub call : CallThere K V
    pub call_is : call_of own m ≡ Some call
    pub did : List Effect
    pub follows : after ≡ before ++ did
    pub idle : did ≡ []
    pub stands : RefinesAs (WalksFar own steps) same hash terms (with_effects (Some own) (Some call.map) did m) p
    pub ready : ReadyAt own place p

-- at least one, and at most so many; a call that goes on has taken all of them
abbrev pub TakesUpTo : {V : Type 0} → ℕ → ℕ → Outcome V → Type 0
TakesUpTo most steps outcome = (1 ≤ steps) × (steps ≤ most) × (continues outcome ≡ true → steps ≡ most)

module _ {K V S : Type 0} (same : K → K → Bool) (hash : K → ℕ) where
  -- A call of this name is under way.
  abbrev pub MayStep : List ℕ → Scheduler K V S → Type 0
  MayStep own p = (place : ℕ) × (d : NamedCaller V) × IsCaller own place d p.calls × (s : Scene K V) × IsThere same hash p.logged.executor s × HasCall s d.number

  -- It has taken a step: what that said, and did, where it has led, and how far the call is then.
  pub record IsStepped (place : ℕ) (outcome : Outcome V) (before after : List Effect) (old new : Scheduler K V S) : Type 0 where
    pub caller : NamedCaller V
    pub at : slice_get old.calls place ≡ Some caller
    pub said : Progress (Node K V)
    pub leads : (name : ℕ → List ℕ) (m : Moment K V) (s : Scene K V) → IsShown same hash name m old.logged s
        → CallContinues same hash name m s caller.number caller.map said before after old.logged new.logged
    pub steps : CallSteps same hash caller.number caller.map said before after old.logged new.logged
    pub outcome_is : outcome ≡ outcome_of (known new.logged.notes) caller.kind caller.value said
    pub calls : new.calls ≡ callers_then (known new.logged.notes) place caller said old.calls
    pub rest : new ≡ record old { logged = new.logged; calls = new.calls }
    pub given : PreservesSettings old.logged.executor new.logged.executor

  -- So many steps were taken at this place, each of which let the call go on,
  abbrev pub GoneFor : (place steps : ℕ) → (before after : List Effect) → (old new : Scheduler K V S) → Type 0
  GoneFor place zero before after old new = (before ≡ after) × (old ≡ new)
  GoneFor place (suc n) before after old new =
      (mid : List Effect) × (p : Scheduler K V S) × (outcome : Outcome V) × GoneFor place n before mid old p × (continues outcome ≡ true) × IsStepped place outcome mid after p new

  -- and then one that came to this.
  abbrev pub GoneBy : (place steps : ℕ) → Outcome V → (before after : List Effect) → (old new : Scheduler K V S) → Type 0
  GoneBy place steps outcome before after old new =
      (n : ℕ) × (steps ≡ n + 1) × (mid : List Effect) × (p : Scheduler K V S) × GoneFor place n before mid old p × IsStepped place outcome mid after p new

  -- What a scheduler is asked for the steps of a call of this name that goes on,
  abbrev pub MayGo : List ℕ → Scheduler K V S → Type 0
  MayGo own p = (terms : Terms) × (m : Moment K V) × (place : ℕ) × RefinesFor same hash terms m p × GoesAt own place p

  -- and what so many of them come to.
  abbrev pub StepsCome : (place most steps : ℕ) → Outcome V → (before after : List Effect) → (old new : Scheduler K V S) → Type 0
  StepsCome place most steps outcome before after old new =
      TakesUpTo most steps outcome
      × ((terms : Terms) (m : Moment K V) (own : List ℕ) → RefinesFor same hash terms m old → GoesAt own place old → StepsHaveOutcome same hash terms own place m steps outcome before after new)
      × GoneBy place steps outcome before after old new

  -- The machine of the call at this place takes a step, and no caller is told of it.
  pub record IsStepOf (place : ℕ) (said : Progress (Node K V)) (before after : List Effect) (old new : Scheduler K V S) : Type 0 where
    pub caller : NamedCaller V
    pub at : slice_get old.calls place ≡ Some caller
    pub leads : (name : ℕ → List ℕ) (m : Moment K V) (s : Scene K V) → IsShown same hash name m old.logged s
        → CallContinues same hash name m s caller.number caller.map said before after old.logged new.logged
    pub steps : CallSteps same hash caller.number caller.map said before after old.logged new.logged
    pub rest : new ≡ record old { logged = new.logged }
    pub given : PreservesSettings old.logged.executor new.logged.executor

  -- So many steps of the walk at this place were taken, each of which just went on.
  abbrev pub WalkedFor : (place steps : ℕ) → (before after : List Effect) → (old new : Scheduler K V S) → Type 0
  WalkedFor place zero before after old new = (before ≡ after) × (old ≡ new)
  WalkedFor place (suc n) before after old new = (mid : List Effect) × (p : Scheduler K V S) × WalkedFor place n before mid old p × IsStepOf place progress.Goes mid after p new

  -- What a scheduler is asked for the steps of a walk of this name that was asked for its next pair,
  abbrev pub MayWalk : List ℕ → Scheduler K V S → Type 0
  MayWalk own p = (terms : Terms) × (m : Moment K V) × (place : ℕ) × RefinesAs (WalksFar own 0) same hash terms m p × ReadyAt own place p

  -- and where so many steps have led, of which the last one alone did not just go on.
  abbrev pub WalkComes : (place steps : ℕ) → Progress (Node K V) → (before after : List Effect) → (old new : Scheduler K V S) → Type 0
  WalkComes place steps said before after old new =
      (said ≡ progress.Goes → ⊥)
      × (n : ℕ) × (steps ≡ n + 1) × (mid : List Effect) × (p : Scheduler K V S) × IsStepOf place said mid after p new
      × ((terms : Terms) (m : Moment K V) (own : List ℕ) → RefinesAs (WalksFar own 0) same hash terms m old → ReadyAt own place old → IsMidWalk same hash terms own place m n before mid p)
      × (k : ℕ) × (steps ≡ k + 1) × WalkedFor place k before mid old p

  -- What a scheduler is asked for the steps of a call of this name, however far it is: one that asks, or is ready, says so again, and one that goes on takes steps.
  abbrev pub MayTake : List ℕ → Scheduler K V S → Type 0
  MayTake own p = (terms : Terms) × (m : Moment K V) × (place : ℕ) × RefinesFor same hash terms m p × IsPlaced own place p.calls

  abbrev pub SaysAgain : Outcome V → Played V → (old new : Scheduler K V S) → Type 0
  SaysAgain outcome played old new = (played.outcome ≡ outcome) × (played.steps ≡ 0) × (played.effects.items ≡ []) × (new ≡ old)

  abbrev pub TakenBy : (place most : ℕ) → HowFar → Played V → (old new : Scheduler K V S) → Type 0
  TakenBy place most (far.Asks question) played old new = SaysAgain (Asks question) played old new
  TakenBy place most far.Ready played old new = SaysAgain Ready played old new
  TakenBy place most far.Goes played old new = StepsCome place most played.steps played.outcome [] played.effects.items old new

  abbrev pub TakenAs : (place most : ℕ) → Played V → (old new : Scheduler K V S) → Type 0
  TakenAs place most played old new = (d : NamedCaller V) → slice_get old.calls place ≡ Some d → TakenBy place most d.stands played old new

  -- The call of this name, if it is there, has taken steps so; and so has one without a name that has begun. Else nothing has happened.
  abbrev pub TookSteps : (most : ℕ) → List ℕ → Played V → (old new : Scheduler K V S) → Type 0
  TookSteps most own played old new =
      ((place : ℕ) → Some place ≡ position (is_named own) old.calls → TakenAs place most played old new)
      × (position (is_named own) old.calls ≡ None → SaysAgain (Refused Busy) played old new)

  abbrev pub TookWhole : (guard name : List ℕ) → Call K V → Played V → (old new : Scheduler K V S) → Type 0
  TookWhole guard name call played old new =
      (terms : Terms) (m : Moment K V) → RefinesFor same hash terms m old
      → (begun : Bool) × (mid : Scheduler K V S) × BeginsSo same hash terms m nameless guard name call begun old mid
      × (mid.logged.executor.batch_size ≡ old.logged.executor.batch_size) × (begun ≡ true → TakenAs 0 most_steps played mid new) × (begun ≡ false → SaysAgain (Refused Busy) played mid new)

  -- A walk that is ready was asked for its next pair, and has taken steps since, each of which but the last just went on; by the last one it has come to what it told.
  pub record HasWalked (place : ℕ) (played : Played V) (old new : Scheduler K V S) : Type 0 where
    pub caller : NamedCaller V
    pub at : slice_get old.calls place ≡ Some caller
    pub ready : Bool
    pub asked : Logged K V S
    pub leads : (s : Scene K V) → IsThere same hash old.logged.executor s → AsksThere same hash caller.number ready s old.logged.executor asked.executor
    pub goes : (name : ℕ → List ℕ) (m : Moment K V) (s : Scene K V) → IsShown same hash name m old.logged s → WalkContinues same hash name m s caller.number ready old.logged asked
    pub notes : asked.notes ≡ old.logged.notes
    pub given : PreservesSettings old.logged.executor asked.executor
    pub steps : ℕ
    pub steps_are : played.steps ≡ steps + 1
    pub mid : List Effect
    pub led : Scheduler K V S
    pub walked : WalkedFor place steps [] mid (record old { logged = asked }) led
    pub last : IsStepped place played.outcome mid played.effects.items led new

  -- So it is of an event that asks the walk of this name for its next pair. If none is ready, nothing has happened.
  abbrev pub TookNext : List ℕ → Played V → (old new : Scheduler K V S) → Type 0
  TookNext own played old new =
      ((place : ℕ) → Some place ≡ ready_place own old.calls → HasWalked place played old new)
      × (ready_place own old.calls ≡ None → SaysAgain (Refused Busy) played old new)

  -- What is promised of an event by which a call goes on: the scheduler has played the log with it; it comes to what is right, where it does so in its case; it makes as many steps as it may, and
  -- does not more; it waits only where it may; and what is refused as busy did nothing.
  pub record PlaysOn (terms : Terms) (log : List (Entry K V)) (e : Entry K V) (p : Scheduler K V S) : Type 0 where
    pub played : IsPlayed same hash terms (e ∷ log) p
    pub plays : OutcomeIsInCase terms log e → Plays same hash terms log e p
    pub makes : MakesSteps e.event (state_or (acting (caller_of e.event) (at_work e (moment log)))) e.steps e.outcome
    pub does : DoesFew (caller_of e.event) e.steps e.effects
    pub waits : WaitsLawfully same log e
    pub is_quiet : BusyIsSilent e.outcome e.effects

  abbrev pub PlaysOnAt : Event K V → Played V → (old new : Scheduler K V S) → Type 0
  PlaysOnAt event played old new = (terms : Terms) (log : List (Entry K V)) → IsInTurn same hash terms log event old → PlaysOn terms log (entry_of event played) new

  -- What is promised of the event by which a walk shows its next pair: it does nothing to pairs or tables.
  pub record PlaysNext (terms : Terms) (log : List (Entry K V)) (e : Entry K V) (p : Scheduler K V S) : Type 0 where
    pub plays : Plays same hash terms log e p
    pub idle : e.effects ≡ []
    pub makes : MakesSteps e.event (state_or (acting (caller_of e.event) (at_work e (moment log)))) e.steps e.outcome
    pub does : DoesFew (caller_of e.event) e.steps e.effects
    pub waits : WaitsLawfully same log e
    pub is_quiet : BusyIsSilent e.outcome e.effects

  abbrev pub PlaysNextAt : List ℕ → Played V → (old new : Scheduler K V S) → Type 0
  PlaysNextAt own played old new =
      (terms : Terms) (log : List (Entry K V)) → IsInTurn same hash terms log (Next own) old → PlaysNext terms log (entry_of (Next own) played) new
