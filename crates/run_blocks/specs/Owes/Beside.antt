-- What is promised of the blocks that calls have made for pairs where another one than a call takes a step, and where walks go on or are given up: they are as they were.
use Rattle.std.specs.Prelude.{◌≡◌, ℕ, Bool, true, false, List, [], ◌∷◌, Option, Some, None}
use Rattle.run_debts.specs.Given.SeizeWorld.{Step}
use Rattle.run_debts.specs.Given.SeizeDeclared.advance.Advance.{Advance}
use Rattle.run_debts.specs.Given.SeizeDeclared.rows.settle.Settled.{Settled}
use Rattle.run_debts.specs.Given.TablesDeclared.node.Node.{Node}
use Rattle.run_debts.specs.Given.TablesDeclared.setting.Setting.{Setting}
use Rattle.run_debts.specs.Given.RunsDeclared.effect.Effect.{Effect}
use Rattle.run_debts.specs.Given.RunsDeclared.effect.Effect.TheVariants.{PairMade, PairGivenUp, Stored}
use Rattle.run_debts.specs.Given.SchedulesEffects.{with_effects}
use Rattle.run_debts.specs.Given.SchedulesMoment.{Moment}
use Rattle.owner_calls.specs.Given.CallersTogether.{UnderWay}
use Rattle.run_debts.specs.Given.EffectsEffects.{effects_of, known_after}
use Rattle.run_debts.specs.Given.EffectsKnown.{Known}
use Rattle.run_debts.specs.Given.EffectsDeclared.acting.Acting.TheVariants as acts
use Rattle.run_debts.specs.Given.ScenesDeclared.row.RowTold.{RowTold}
use Rattle.run_debts.specs.Given.ScenesDeclared.row.SlotRow.{SlotRow}
use Rattle.run_debts.specs.Given.FinishesEndings.{Finishing}
use Rattle.run_debts.specs.Given.FinishesMakings.{Beginning}
use Rattle.run_debts.specs.Given.FinishesMaps.{with_call}
use Rattle.run_debts.specs.Given.FollowsCalling.{NoneNamed}
use Rattle.run_debts.specs.Given.FollowsShows.{Refines}
use Rattle.run_debts.specs.Given.OthersEndings.{ending_after}
use Rattle.run_debts.specs.Given.OthersMakings.{making_after}
use Rattle.run_debts.specs.Given.OthersRows.{scene_then}
use Rattle.run_debts.specs.Given.OthersWalks.{given_up}
use Rattle.run_blocks.specs.Owes.Made.{RefinesMade}
use Rattle.run_debts.specs.Given.ScenesEnding.{EndingLeads}
use Rattle.run_debts.specs.Given.ScenesHeld.{Held, IsAt}
use Rattle.run_debts.specs.Given.ScenesMaking.{MakingLeads}
use Rattle.run_debts.specs.Given.ScenesOnSlots.{RowLeads}
use Rattle.run_debts.specs.Given.ScenesReplying.{AskLeads, StopLeads, scene_with, unless_stopped}
use Rattle.run_debts.specs.Given.ScenesScene.{IsOnSlot, Scene}

-- the effect says something of a block for a pair that is not stored
abbrev pub of_block : Effect → Bool
of_block PairMade = true
of_block PairGivenUp = true
of_block (Stored n s) = true
of_block _ = false

-- none of the effects is of the kind
abbrev pub NoneOf : (Effect → Bool) → List Effect → Type 0
NoneOf of [] = Unit {0}
NoneOf of (f ∷ fs) = (of f ≡ false) × NoneOf of fs

abbrev pub NoneOfBlock : List Effect → Type 0
NoneOfBlock effects = NoneOf of_block effects

module _ (K V : Type 0) where
  -- So it is as long as calls are as they were, of the moment and under way: where a row begins on a slot, where the making or the end of a map begins, and
  -- where a map is there by its number, or not any more.
  abbrev pub StaysMade : Type 0
  StaysMade =
      (name : ℕ → List ℕ) (m v : Moment K V) (known : Known) (s t : Scene K V) → RefinesMade name m known s → v.calls ≡ m.calls → t.calls ≡ s.calls → RefinesMade name v known t

module _ (K V : Type 0) (same : K → K → Bool) (hash : ℕ → K → ℕ) where
  -- A walk goes on to its next pair,
  abbrev pub WalksPreserveMade : Type 0
  WalksPreserveMade =
      (name : ℕ → List ℕ) (m : Moment K V) (known : Known) (s : Scene K V) (old new : Held K V) → RefinesMade name m known s
      → (i : ℕ) (leads : AskLeads same hash i true s old new) (map : ℕ) (u : UnderWay K V K) (here : s.calls map i ≡ Some u) → RefinesMade name m known (scene_with map i (leads map u here).0 s)

  -- or is given up: no call that is under way then has its name.
  abbrev pub WalksStopMade : Type 0
  WalksStopMade =
      (name : ℕ → List ℕ) (m : Moment K V) (known : Known) (s : Scene K V) (old new : Held K V) → Refines same name m known s → RefinesMade name m known s
      → (i : ℕ) (stopped : Bool) → StopLeads same hash i stopped s old new → (map : ℕ) (u : UnderWay K V K) → s.calls map i ≡ Some u
      → (let after = record s { calls = with_call s.calls map i (unless_stopped stopped u) } in
      (stopped ≡ true → NoneNamed name (name i) after) → RefinesMade name (given_up (name i) stopped m) known after)

  -- A step of a row on a slot says nothing of such a block, and so it is after it,
  abbrev pub RowsPreserveMade : Type 0
  RowsPreserveMade =
      (name : ℕ → List ℕ) (m : Moment K V) (known : Known) (s : Scene K V) (old new : Held K V) → IsAt same hash old s → Refines same name m known s → RefinesMade name m known s
      → (i : ℕ) (told : RowTold (Node K V)) (leads : RowLeads same hash i told s old new) (row : SlotRow) (here : IsOnSlot s i row)
      → (let effects = effects_of acts.Row known new.changed in
      NoneOfBlock effects × RefinesMade name (with_effects None None effects m) (known_after acts.Row new.changed known) (scene_then same hash (Step i) s old new (leads row here).2))

  -- and so does a step of a making, on whichever map its effects are told, if on any,
  abbrev pub MakingsPreserveMade : Type 0
  MakingsPreserveMade =
      (name : ℕ → List ℕ) (m : Moment K V) (known : Known) (s : Scene K V) (old new : Held K V) → IsAt same hash old s → Refines same name m known s → RefinesMade name m known s
      → (i : ℕ) (told : Advance Setting) (leads : MakingLeads same hash i told s old new) (b : Beginning K) (here : s.makers i ≡ Some b) (of : Option ℕ)
      → (let to = leads b here in
      let effects = effects_of (acts.Making b.map) known new.changed in
      NoneOfBlock effects
      × RefinesMade name (with_effects None of effects m) (known_after (acts.Making b.map) new.changed known) (making_after same hash s old new i b to.0 to.2.step.w2 told to.3))

  -- and a step of the end of a map, by whose number none stands.
  abbrev pub EndingsPreserveMade : Type 0
  EndingsPreserveMade =
      (name : ℕ → List ℕ) (m : Moment K V) (known : Known) (s : Scene K V) (old new : Held K V) → IsAt same hash old s → Refines same name m known s → RefinesMade name m known s
      → (i : ℕ) (told : Settled (Node K V)) (leads : EndingLeads same hash i told s old new) (f : Finishing K V) (here : s.enders i ≡ Some f) (map : ℕ) → s.maps map ≡ None
      → (let to = leads f here in
      let effects = effects_of (acts.Ending map) known new.changed in
      NoneOfBlock effects
      × RefinesMade name (with_effects None (Some map) effects m) (known_after (acts.Ending map) new.changed known) (ending_after same hash s new i f to.0 to.2.w2 to.2.deed told to.3))
