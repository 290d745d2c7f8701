-- What is promised of an event of a call: what its effects find of what the call has made, and that the call leaves nothing made at its end.
use Rattle.std.specs.Prelude.{◌≡◌, ℕ, Bool, true, false, List, Some, None, ◌⊎◌}
use Rattle.run_debts.specs.Given.SeizeWordsDeclared.fault.Fault.TheVariants.{Memory}
use Rattle.run_debts.specs.Given.TablesDeclared.node.Node.{Node}
use Rattle.run_debts.specs.Given.RawDeclared.machines.progress.Progress.{Progress}
use Rattle.run_debts.specs.Given.RawDeclared.machines.progress.Progress.TheVariants as progress
use Rattle.run_debts.specs.Given.RunsDeclared.outcome.Outcome.{Outcome}
use Rattle.run_debts.specs.Given.RunsDeclared.outcome.Outcome.TheVariants as outcome
use Rattle.run_debts.specs.Given.SchedulesAfter.{moment}
use Rattle.run_debts.specs.Given.SchedulesEffects.{with_effects, worked, AtEachEffect}
use Rattle.run_debts.specs.Given.SchedulesEntry.{Entry, IfCall, acting, caller_of, ByCall}
use Rattle.run_debts.specs.Given.SchedulesHanding.{HasGrown}
use Rattle.run_debts.specs.Given.SchedulesMoment.{UnderWay as CallThere, Moment}
use Rattle.run_debts.specs.Given.RunsDeclared.effect.Effect.{Effect}
use Rattle.run_debts.specs.Given.RunsDeclared.effect.Effect.TheVariants.{Asked, PairMade, PairGivenUp, TableMade, TableGivenUp, Linked, Stored}
use Rattle.run_debts.specs.Given.SchedulesLives.{CallFinds}
use Rattle.run_debts.specs.Given.SchedulesTerms.{Terms}
use Rattle.owner_calls.specs.Given.CallersTogether.{UnderWay}
use Rattle.run_debts.specs.Given.EffectsEffects.{effects_of}
use Rattle.run_debts.specs.Given.EffectsKnown.{Known}
use Rattle.run_debts.specs.Given.EffectsDeclared.acting.Acting.TheVariants as acts
use Rattle.run_debts.specs.Given.MomentsWhole.{RefinesWhole}
use Rattle.run_blocks.specs.Owes.Made.{RefinesMade}
use Rattle.run_blocks.specs.Owes.Short.{RefinesShort}
use Rattle.run_blocks.specs.Owes.Tables.{RefinesOwnTables}
use Rattle.run_debts.specs.Given.ScenesHeld.{Held, IsAt}
use Rattle.run_debts.specs.Given.ScenesScene.{Scene}
use Rattle.run_debts.specs.Given.ScenesStepping.{StepLeads}

module _ {K V : Type 0} (terms : Terms) where
  -- What an effect finds of what the call has made: who makes, or gives up, a block for a pair or a table finds all that it must; a pair is stored by one that has a
  -- block for it, and the table that a call has made is linked; and who asks for a growth is not short of one.
  abbrev pub FindsMade : List (Moment K V) → Moment K V → Effect → CallThere K V → Type 0
  FindsMade moments m PairMade c = CallFinds terms moments m PairMade c
  FindsMade moments m PairGivenUp c = CallFinds terms moments m PairGivenUp c
  FindsMade moments m (TableMade t) c = CallFinds terms moments m (TableMade t) c
  FindsMade moments m (TableGivenUp t) c = CallFinds terms moments m (TableGivenUp t) c
  FindsMade moments m (Stored n s) c = c.has_block ≡ true
  FindsMade moments m (Linked t shape) c = c.table ≡ Some t
  FindsMade moments m (Asked growth) c = c.is_short ≡ false
  FindsMade moments m _ c = Unit {0}

  abbrev pub FindMade : List (Moment K V) → List ℕ → ℕ → List Effect → Moment K V → Type 0
  FindMade moments own map effects m = AtEachEffect (λ v f. ByCall (FindsMade moments v f) (acting (Some own) v)) (Some own) (Some map) effects m

-- It has neither a block for a pair nor a table that it has made, and had each growth that it asked for, unless this is a refusal for want of memory.
abbrev pub LeavesNothingMade : {K V : Type 0} → Outcome V → CallThere K V → Type 0
LeavesNothingMade o c = (c.has_block ≡ false) × (c.table ≡ None) × HasGrown o c

module _ (K V : Type 0) (same : K → K → Bool) (hash : ℕ → K → ℕ) where
  -- The promises: so the effects of a step of a call find what it has made.
  abbrev pub StepsFindMade : Type 0
  StepsFindMade =
      (name : ℕ → List ℕ) (m : Moment K V) (known : Known) (s : Scene K V) (old new : Held K V) → IsAt same hash old s
      → RefinesWhole same name m known s → RefinesMade name m known s → RefinesOwnTables name m known s → RefinesShort name m s
      → (map i : ℕ) (u : UnderWay K V K) (here : s.calls map i ≡ Some u) (said : Progress (Node K V)) (leads : StepLeads same hash i said s old new)
      → (terms : Terms) (moments : List (Moment K V)) → FindMade terms moments (name i) map (effects_of (acts.Call i map) known new.changed) m

  -- The promise, of an event whose last effects are those of a step of a call, with which the call has ended, or says that it is ready; and which is refused for want of memory if that step was.
  abbrev pub EventsLeaveNothingMade : Type 0
  EventsLeaveNothingMade =
      (name : ℕ → List ℕ) (m : Moment K V) (known : Known) (s : Scene K V) (old new : Held K V) → IsAt same hash old s
      → RefinesWhole same name m known s → RefinesMade name m known s → RefinesOwnTables name m known s → RefinesShort name m s
      → (map i : ℕ) (u : UnderWay K V K) (here : s.calls map i ≡ Some u) (said : Progress (Node K V)) (leads : StepLeads same hash i said s old new)
      → (let to = leads map u here in
      (to.4.next ≡ None) ⊎ (said ≡ progress.Ready)
      → (log : List (Entry K V)) (e : Entry K V) → caller_of e.event ≡ Some (name i) → (said ≡ progress.Refused Memory → e.outcome ≡ outcome.Refused Memory)
      → worked e (moment log) ≡ with_effects (Some (name i)) (Some map) (effects_of (acts.Call i map) known new.changed) m
      → IfCall (LeavesNothingMade e.outcome) (acting (caller_of e.event) (worked e (moment log))))
