-- Events of calls on whole maps do what these are for.
use Rattle.std.specs.Prelude.{◌≡◌, ℕ, suc, Bool, true, List, Some, None, is_some}
use Rattle.run_finds.specs.Given.TablesDeclared.node.Node.{Node}
use Rattle.run_finds.specs.Given.RawDeclared.machines.progress.Answer.{Answer}
use Rattle.run_finds.specs.Given.RawDeclared.machines.progress.Answer.TheVariants as answers
use Rattle.run_finds.specs.Given.RawDeclared.machines.progress.Progress.{Progress}
use Rattle.run_finds.specs.Given.RawDeclared.machines.progress.Progress.TheVariants as progress
use Rattle.run_finds.specs.Given.RunsDeclared.call.Response.TheVariants.{Absent, Completed, Counted}
use Rattle.run_finds.specs.Given.RunsDeclared.call.Call.TheVariants.{On, Reserve, Clear, Retain, Len, Walk}
use Rattle.run_finds.specs.Given.RunsDeclared.call.OneKey.{OneKey}
use Rattle.run_finds.specs.Given.RunsDeclared.outcome.Outcome.{Outcome}
use Rattle.run_finds.specs.Given.RunsDeclared.outcome.Outcome.TheVariants.{Shows, Answered}
use Rattle.run_finds.specs.Given.SchedulesEffects.{with_effects}
use Rattle.run_finds.specs.Given.SchedulesMoment.{UnderWay as CallThere, Moment}
use Rattle.run_finds.specs.Given.SchedulesTerms.{Terms, shards_of}
use Rattle.run_finds.specs.Given.SchedulesViews.{call_of, finite_map}
use Rattle.run_finds.specs.Given.CallersTogether.{UnderWay}
use Rattle.run_finds.specs.Given.EffectsEffects.{effects_of, known_after}
use Rattle.run_finds.specs.Given.EffectsKnown.{Known}
use Rattle.run_finds.specs.Given.EffectsDeclared.acting.Acting.TheVariants as acts
use Rattle.run_finds.specs.Given.FinishesMaps.{Standing}
use Rattle.run_finds.specs.Given.HistoriesAnswers.{NamesPair}
use Rattle.run_finds.specs.Given.MomentsWhole.{RefinesWhole}
use Rattle.run_sweeps.specs.Purposes.Kept.{NoneCame, PairsChangeFirst}
use Rattle.run_finds.specs.Purposes.Purposes.{RefinesPurposes}
use Rattle.run_finds.specs.Purposes.Shards.{ReadsShards}
use Rattle.run_finds.specs.Given.ScenesHeld.{Held, IsAt}
use Rattle.run_finds.specs.Given.ScenesScene.{Scene}
use Rattle.run_finds.specs.Given.ScenesStepping.{StepLeads}
use Rattle.run_finds.specs.Given.SchedulesTransition.{Past, Transition, call_left, worked_by}
use Rattle.run_finds.specs.Given.SchedulesSweeps.{SweepsRight}

-- what a call has ended with is told as this
abbrev pub EndsWithOutcome : {K V : Type 0} → Known → Progress (Node K V) → Outcome V → Type 0
EndsWithOutcome known (progress.Pair word) (Shows n) = NamesPair known word n
EndsWithOutcome known (progress.Done (answers.Count count)) (Answered (Counted n)) = n ≡ count
EndsWithOutcome known (progress.Done answers.Reserved) (Answered Completed) = Unit {0}
EndsWithOutcome known (progress.Done answers.Swept) (Answered Completed) = Unit {0}
EndsWithOutcome known _ _ = ⊥

-- the outcome is none of which something is promised: neither an answer nor a pair that is shown
abbrev pub SaysNothing : {V : Type 0} → Outcome V → Type 0
SaysNothing (Answered a) = ⊥
SaysNothing (Shows n) = ⊥
SaysNothing _ = Unit {0}

module _ {K V : Type 0} where
  -- which of the calls on whole maps an event is of
  abbrev pub IsLen : CallThere K V → Type 0
  IsLen c = c.call ≡ Len

  abbrev pub Reserves : ℕ → CallThere K V → Type 0
  Reserves more c = c.call ≡ Reserve more

  abbrev pub IsWalk : CallThere K V → Type 0
  IsWalk c = c.call ≡ Walk

  abbrev pub Removes : CallThere K V → Type 0
  Removes c = c.call ≡ Clear

  abbrev pub Keeps : CallThere K V → Type 0
  Keeps c = c.call ≡ Retain

-- each key that had a pair in this map as the last event of the log ended has one still
abbrev pub LosesNone : {K V : Type 0} → (K → K → Bool) → Past K V → Moment K V → ℕ → Type 0
LosesNone {K} same log m of = (k : K) → is_some (finite_map same of log.now k) ≡ true → is_some (finite_map same of m k) ≡ true

-- What a step of a walk says: a pair that it shows is one of the run, by its number; and where it answers, its sweep is over.
pub record SaysAsWalk {K V : Type 0} (known : Known) (said : Progress (Node K V)) : Type 0 where
  pub pairs : (word : ℕ) → said ≡ progress.Pair word → (n : ℕ) × NamesPair known word n
  pub over : (answer : Answer) → said ≡ progress.Done answer → answer ≡ answers.Swept

-- The promises, of an event whose effects before a last step have led to this moment, and which comes to what that step comes to.
module _ (K V : Type 0) (same : K → K → Bool) (hash : ℕ → K → ℕ) where
  abbrev pub Ends : (CallThere K V → Type 0) → (Past K V → Moment K V → Moment K V → Scene K V → ℕ → UnderWay K V K → Type 0) → Outcome V → Type 0
  Ends OfKind Asks outcome =
      (name : ℕ → List ℕ) (log : Past K V) (m : Moment K V) (known : Known) (s : Scene K V) (old new : Held K V) → IsAt same hash old s
      → RefinesWhole same name m known s → RefinesPurposes same name log m known s
      → (of i : ℕ) (u : UnderWay K V K) (here : s.calls of i ≡ Some u) (said : Progress (Node K V)) (leads : StepLeads same hash i said s old new)
      → (c : CallThere K V) → call_of (name i) m ≡ Some c → OfKind c
      → (let v = with_effects (Some (name i)) (Some of) (effects_of (acts.Call i of) known new.changed) m in
      Asks log m v s of u → EndsWithOutcome (known_after (acts.Call i of) new.changed known) said outcome
      → (terms : Terms) → ((standing : Standing K) → s.maps of ≡ Some standing → suc standing.setting.mask ≡ shards_of terms)
      → (t : Transition K V) → t.caller ≡ Some (name i) → worked_by t ≡ v → t.outcome ≡ outcome → SweepsRight same terms log t)

  -- `len` answers a count of shards, each as it was at a moment of the call, if it reads them as they are;
  abbrev pub CountingsAreSwept : Type 0
  CountingsAreSwept = (n : ℕ) → Ends IsLen (λ log m v s of u. ReadsShards log m s of u) (Answered (Counted n))

  -- a reservation that is answered has counted so, and has met a root with room for so many more;
  abbrev pub ReservationsAreSwept : Type 0
  ReservationsAreSwept = (more : ℕ) → Ends (Reserves more) (λ log m v s of u. ReadsShards log m s of u) (Answered Completed)

  -- a walk shows a pair that was in the map at a moment of it, and was not shown before, if none has come within the event;
  abbrev pub WalksShow : Type 0
  WalksShow = (n : ℕ) → Ends IsWalk (λ log m v s of u. PairsChangeFirst log m of v × NoneCame log v of) (Shows n)

  -- of the pairs that were in the map all the time `clear` leaves none, if no pair comes and goes within the event;
  abbrev pub ClearingsAreSwept : Type 0
  ClearingsAreSwept = Ends Removes (λ log m v s of u. PairsChangeFirst log m of v) (Answered Completed)

  -- and `retain` leaves those about which the last reply was yes.
  abbrev pub RetainingsAreSwept : Type 0
  RetainingsAreSwept = Ends Keeps (λ log m v s of u. PairsChangeFirst log m of v) (Answered Completed)

  -- A walk that answers that there is no pair has shown one pair of each key that had one at each moment of it, if no key has lost its pair within the event.
  abbrev pub WalksShowAll : Type 0
  WalksShowAll =
      (name : ℕ → List ℕ) (log : Past K V) (m : Moment K V) (known : Known) (s : Scene K V) (old new : Held K V) → IsAt same hash old s
      → RefinesWhole same name m known s → RefinesPurposes same name log m known s
      → (of i : ℕ) (u : UnderWay K V K) (here : s.calls of i ≡ Some u) (leads : StepLeads same hash i (progress.Done answers.Swept) s old new)
      → (c : CallThere K V) → call_of (name i) m ≡ Some c → IsWalk c
      → LosesNone same log m of
      → (terms : Terms) (t : Transition K V) → t.caller ≡ Some (name i)
      → worked_by t ≡ with_effects (Some (name i)) (Some of) (effects_of (acts.Call i of) known new.changed) m → t.outcome ≡ Answered Absent → SweepsRight same terms log t

  -- So each step of a walk says.
  abbrev pub WalksHaveWords : Type 0
  WalksHaveWords =
      (name : ℕ → List ℕ) (log : Past K V) (m : Moment K V) (known : Known) (s : Scene K V) (old new : Held K V) → IsAt same hash old s
      → RefinesWhole same name m known s → RefinesPurposes same name log m known s
      → (of i : ℕ) (u : UnderWay K V K) → s.calls of i ≡ Some u → (said : Progress (Node K V)) → StepLeads same hash i said s old new
      → (c : CallThere K V) → call_of (name i) m ≡ Some c → IsWalk c → SaysAsWalk (known_after (acts.Call i of) new.changed known) said

module _ (K V : Type 0) (same : K → K → Bool) where
  -- Nothing is promised of an event that comes to neither an answer nor a pair that is shown, of one of a call on one key, and of one that is of no call.
  abbrev pub OtherOutcomesAreSwept : Type 0
  OtherOutcomesAreSwept = (terms : Terms) (log : Past K V) (t : Transition K V) → SaysNothing t.outcome → SweepsRight same terms log t

  abbrev pub CallsOnKeysAreSwept : Type 0
  CallsOnKeysAreSwept =
      (terms : Terms) (log : Past K V) (t : Transition K V) (c : CallThere K V) (one : OneKey K V) → call_left t ≡ Some c → c.call ≡ On one
      → SweepsRight same terms log t

  abbrev pub NoCallsAreSwept : Type 0
  NoCallsAreSwept = (terms : Terms) (log : Past K V) (t : Transition K V) → t.caller ≡ None → SweepsRight same terms log t
