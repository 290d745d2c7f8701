-- The counter of a map that is being made is noted as that of its map, whoever takes a step.
use Rattle.std.specs.Prelude.{◌≡◌, ℕ, Bool, List, Some}
use Rattle.seize.specs.World.{with_at}
use Rattle.seize.specs.declared.advance.Advance.{Advance as Making}
use Rattle.seize.specs.declared.rows.settle.Settled.{Settled}
use Rattle.run_effects.specs.Given.TablesDeclared.node.Node.{Node}
use Rattle.run_effects.specs.Given.TablesDeclared.setting.Setting.{Setting}
use Rattle.run_effects.specs.Given.RawDeclared.machines.progress.Progress.{Progress}
use Rattle.run_effects.specs.Given.SchedulesMoment.{Moment}
use Rattle.many_maps.specs.Given.CallersTogether.{UnderWay}
use Rattle.many_maps.specs.Endings.{Finishing}
use Rattle.many_maps.specs.Makings.{Beginning, HasMade}
use Rattle.run_effects.specs.Effects.Effects.{known_after}
use Rattle.run_effects.specs.Effects.Known.{Known}
use Rattle.run_effects.specs.declared.acting.Acting.TheVariants as acts
use Rattle.run_shows.specs.declared.row.RowTold.{RowTold}
use Rattle.run_shows.specs.declared.row.SlotRow.{SlotRow}
use Rattle.run_shows.specs.Follows.Shows.{Refines}
use Rattle.run_shows.specs.Others.Endings.{ending_after}
use Rattle.run_shows.specs.Others.Makings.{NotesCounter, making_after}
use Rattle.run_shows.specs.Scenes.Ending.{EndingLeads}
use Rattle.run_shows.specs.Scenes.Held.{Held, IsAt}
use Rattle.run_shows.specs.Scenes.Making.{MakingLeads}
use Rattle.run_shows.specs.Scenes.OnSlots.{RowLeads}
use Rattle.run_shows.specs.Scenes.Scene.{IsOnSlot, Scene}
use Rattle.run_shows.specs.Scenes.Stepping.{StepLeads, scene_after}

-- the counter of each making, if it has made one, is noted
abbrev pub NotesCounters : {K V : Type 0} → Known → Scene K V → Type 0
NotesCounters {K} known s = (i : ℕ) (b : Beginning K) → s.makers i ≡ Some b → NotesCounter known b

-- The promises: they are noted where a making begins, which has made none yet,
abbrev pub BeginningsNoteCounters : Type 0 → Type 0 → Type 0
BeginningsNoteCounters K V =
    (known : Known) (s : Scene K V) → NotesCounters known s
    → (i : ℕ) (b : Beginning K) → (HasMade b.machine.stands → ⊥) → NotesCounters known (record s { makers = with_at s.makers i (Some b) })

module _ (K V : Type 0) (same : K → K → Bool) (hash : ℕ → K → ℕ) where
  -- after a step of a call,
  abbrev pub CallsNoteCounters : Type 0
  CallsNoteCounters =
      (name : ℕ → List ℕ) (m : Moment K V) (known : Known) (s : Scene K V) (old new : Held K V) → IsAt same hash old s → Refines same name m known s → NotesCounters known s
      → (map i : ℕ) (u : UnderWay K V K) (here : s.calls map i ≡ Some u) (told : Progress (Node K V)) (leads : StepLeads same hash i told s old new)
      → (let to = leads map u here in
      NotesCounters (known_after (acts.Call i map) new.changed known) (scene_after same s old new map i to.0 u to.1 told to.4))

  -- of a row on a slot,
  abbrev pub RowsNoteCounters : Type 0
  RowsNoteCounters =
      (name : ℕ → List ℕ) (m : Moment K V) (known : Known) (s : Scene K V) (old new : Held K V) → IsAt same hash old s → Refines same name m known s → NotesCounters known s
      → (i : ℕ) (told : RowTold (Node K V)) → RowLeads same hash i told s old new → (row : SlotRow) → IsOnSlot s i row → NotesCounters (known_after acts.Row new.changed known) s

  -- of an end,
  abbrev pub EndingsNoteCounters : Type 0
  EndingsNoteCounters =
      (name : ℕ → List ℕ) (m : Moment K V) (known : Known) (s : Scene K V) (old new : Held K V) → IsAt same hash old s → Refines same name m known s → NotesCounters known s
      → (i : ℕ) (told : Settled (Node K V)) (leads : EndingLeads same hash i told s old new) (f : Finishing K V) (here : s.enders i ≡ Some f) (map : ℕ)
      → (let to = leads f here in
      NotesCounters (known_after (acts.Ending map) new.changed known) (ending_after same hash s new i f to.0 to.2.w2 to.2.deed told to.3))

  -- and of a making.
  abbrev pub MakingsNoteCounters : Type 0
  MakingsNoteCounters =
      (name : ℕ → List ℕ) (m : Moment K V) (known : Known) (s : Scene K V) (old new : Held K V) → IsAt same hash old s → Refines same name m known s → NotesCounters known s
      → (i : ℕ) (told : Making Setting) (leads : MakingLeads same hash i told s old new) (b : Beginning K) (here : s.makers i ≡ Some b)
      → (let to = leads b here in
      NotesCounters (known_after (acts.Making b.map) new.changed known) (making_after same hash s old new i b to.0 to.2.step.w2 told to.3))
