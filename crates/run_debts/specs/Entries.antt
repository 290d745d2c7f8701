-- The entries of blocks that somebody has: no list leads on from them, and no batch is told of; so a row within a call retires one block.
use Rattle.std.specs.Prelude.{◌≡◌, ◌≢◌, ℕ, Bool, List, Option, Some, ◌⊎◌}
use Rattle.run_places.specs.Given.SeizeWordsMem.{Mem, word_at}
use Rattle.run_places.specs.Given.SeizeWordsWord.{block_in}
use Rattle.run_places.specs.Given.SeizeWordsDeclared.at.At.TheVariants.{Entry}
use Rattle.run_places.specs.Given.SeizeDeclared.advance.Advance.{Advance as Making}
use Rattle.run_places.specs.Given.SeizeDeclared.rows.settle.Settle.{Settle}
use Rattle.run_places.specs.Given.SeizeDeclared.rows.settle.Settled.{Settled}
use Rattle.run_places.specs.Given.SeizeDeclared.rows.settle.Settling.{Settling}
use Rattle.run_places.specs.Given.SeizeDeclared.rows.settle.Settling.TheVariants as settling
use Rattle.run_places.specs.Given.SeizeDeclared.states.TheConstants.{NEXT, FIRST}
use Rattle.run_places.specs.Given.SeizeWorld.{Hand, Making as IsMade, InUse, Parting, Cutting, Row, Rests, Settles}
use Rattle.run_places.specs.Given.TablesDeclared.node.Node.{Node}
use Rattle.run_places.specs.Given.TablesDeclared.setting.Setting.{Setting}
use Rattle.run_places.specs.Given.RawDeclared.machines.progress.Progress.{Progress}
use Rattle.run_places.specs.Given.SchedulesMoment.{Moment}
use Rattle.owner_facts.specs.Given.CallersTogether.{UnderWay}
use Rattle.run_places.specs.Given.EffectsKnown.{Known}
use Rattle.run_places.specs.Given.ScenesDeclared.row.RowTold.{RowTold}
use Rattle.run_places.specs.Given.ScenesDeclared.row.SlotCall.{SlotCall}
use Rattle.run_places.specs.Given.ScenesDeclared.row.SlotRow.{SlotRow}
use Rattle.owner_facts.specs.Given.FinishesEndings.{Finishing}
use Rattle.owner_facts.specs.Given.FinishesMakings.{Beginning}
use Rattle.owner_facts.specs.Given.FinishesMaps.{Standing, with_call}
use Rattle.run_places.specs.Given.FollowsShows.{Refines}
use Rattle.run_places.specs.Hands.Rows.{RowsReclaimNone}
use Rattle.run_places.specs.Given.ScenesEnding.{EndingLeads, ending_begun}
use Rattle.run_places.specs.Given.ScenesHeld.{Held, IsAt}
use Rattle.run_places.specs.Given.ScenesMaking.{MakingLeads}
use Rattle.run_places.specs.Given.ScenesOnSlots.{RowBegins, RowLeads}
use Rattle.run_places.specs.Given.ScenesScene.{IsOnSlot, Scene, at_first}
use Rattle.run_places.specs.Given.ScenesStepping.{StepLeads, scene_after}

-- somebody has it: it was made, or is linked, or was taken out of what it was in
abbrev pub IsSomebodys : Hand → Type 0
IsSomebodys (IsMade h) = Unit {0}
IsSomebodys (InUse o) = Unit {0}
IsSomebodys (Parting h) = Unit {0}
IsSomebodys (Cutting h) = Unit {0}
IsSomebodys _ = ⊥

-- a block's entry leads on to no other one, and says of no batch that the block is in it
pub record IsBlank {T : Type 0} (m : Mem T) (b : ℕ) : Type 0 where
  pub next : (word : ℕ) → word_at m (Entry b NEXT) ≡ Some word → word ≡ 0
  pub first : (word : ℕ) → word_at m (Entry b FIRST) ≡ Some word → word ≡ 0

-- a row has one block to retire, of which this is so, or none any more
abbrev pub OneAt : (ℕ → Type 0) → Settle → Settling → Type 0
OneAt Blank c settling.Sees = (c.pending ≢ 0) × Blank (block_in c.pending)
OneAt Blank c settling.Holds = (c.pending ≢ 0) × Blank (block_in c.pending)
OneAt Blank c settling.Pops = (c.pending ≢ 0) × Blank (block_in c.pending)
OneAt Blank c (settling.Firsts block) = (c.pending ≡ 0) × (block ≢ 0) × Blank (block_in block)
OneAt Blank c (settling.Batches block) = (c.pending ≡ 0) × Blank (block_in block)
OneAt Blank c _ = c.pending ≡ 0

abbrev pub RetiresOne : (ℕ → Type 0) → Row → Type 0
RetiresOne Blank (Settles c) = OneAt Blank c c.stands
RetiresOne Blank _ = Unit {0}

-- what somebody has is blank, and the row within a call retires one block, which is blank until its batch is told of
pub record EntriesAreBlank {K V : Type 0} (s : Scene K V) : Type 0 where
  pub blank : (b : ℕ) → IsSomebodys (s.world.hand b) → IsBlank s.world.memory b
  pub one : (map i : ℕ) (u : UnderWay K V K) → s.calls map i ≡ Some u → RetiresOne (IsBlank s.world.memory) (s.world.row i)

-- The promises: so it is before all events,
abbrev pub EntriesBegin : Type 0 → Type 0 → Type 0
EntriesBegin K V = (roots : ℕ) → EntriesAreBlank {K = K} {V = V} (at_first roots)

-- where a call begins, whose row rests, or goes on otherwise, or is given up,
abbrev pub CallsContinueEntries : Type 0 → Type 0 → Type 0
CallsContinueEntries K V =
    (s : Scene K V) → EntriesAreBlank s → (map i : ℕ) (next : Option (UnderWay K V K)) → ((u : UnderWay K V K) × (s.calls map i ≡ Some u)) ⊎ (s.world.row i ≡ Rests)
    → EntriesAreBlank (record s { calls = with_call s.calls map i next })

-- where the end of a map begins,
abbrev pub EndingsBeginEntries : Type 0 → Type 0 → Type 0
EndingsBeginEntries K V = (s : Scene K V) → EntriesAreBlank s → (map i : ℕ) (standing : Standing K) → EntriesAreBlank (ending_begun map i standing s)

module _ (K V : Type 0) (same : K → K → Bool) (hash : ℕ → K → ℕ) where
  -- after each step of a call,
  abbrev pub CallsPreserveEntries : Type 0
  CallsPreserveEntries =
      (name : ℕ → List ℕ) (m : Moment K V) (known : Known) (s : Scene K V) (old new : Held K V) → IsAt same hash old s → Refines same name m known s → RowsReclaimNone s → EntriesAreBlank s
      → (map i : ℕ) (u : UnderWay K V K) (here : s.calls map i ≡ Some u) (said : Progress (Node K V)) (leads : StepLeads same hash i said s old new)
      → (let to = leads map u here in EntriesAreBlank (scene_after same s old new map i to.0 u to.1 said to.4))

  -- where a row begins on a slot, and after a step of it,
  abbrev pub RowsBeginEntries : Type 0
  RowsBeginEntries =
      (s : Scene K V) (old new : Held K V) → IsAt same hash old s → EntriesAreBlank s
      → (called : SlotCall) (i : ℕ) (leads : RowBegins same hash called i s old new)
      → (let to = leads.2 in EntriesAreBlank (record s { world = to.0; maps = to.2 }))

  abbrev pub RowsPreserveEntries : Type 0
  RowsPreserveEntries =
      (s : Scene K V) (old new : Held K V) → IsAt same hash old s → EntriesAreBlank s
      → (i : ℕ) (told : RowTold (Node K V)) (leads : RowLeads same hash i told s old new) (row : SlotRow) (here : IsOnSlot s i row)
      → (let to = (leads row here).2 in EntriesAreBlank (record s { world = to.0; maps = to.2 }))

  -- after a step of the making of a map, and of the end of one.
  abbrev pub MakingsPreserveEntries : Type 0
  MakingsPreserveEntries =
      (s : Scene K V) (old new : Held K V) → IsAt same hash old s → EntriesAreBlank s
      → (i : ℕ) (told : Making Setting) (leads : MakingLeads same hash i told s old new) (b : Beginning K) (here : s.makers i ≡ Some b)
      → (let to = leads b here in EntriesAreBlank (record s { world = to.2.step.w2 }))

  abbrev pub EndingsPreserveEntries : Type 0
  EndingsPreserveEntries =
      (s : Scene K V) (old new : Held K V) → IsAt same hash old s → EntriesAreBlank s
      → (i : ℕ) (told : Settled (Node K V)) (leads : EndingLeads same hash i told s old new) (f : Finishing K V) (here : s.enders i ≡ Some f)
      → (let to = leads f here in EntriesAreBlank (record s { world = to.2.w2 }))
