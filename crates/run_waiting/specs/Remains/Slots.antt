-- That words of slots are noted just where there are some, and what is promised of each kind of step.
use Rattle.std.specs.Prelude.{◌≡◌, ◌<◌, ◌+◌, ℕ, Bool, [], length, Some, IsSome}
use Rattle.run_debts.specs.Given.SeizeWordsDeclared.at.At.TheVariants.{Slot}
use Rattle.run_debts.specs.Given.SeizeWordsMem.{Mem, word_at}
use Rattle.run_debts.specs.Given.SeizeWordsPlace.{capacity}
use Rattle.run_debts.specs.Given.SeizeDeclared.advance.Advance.{Advance}
use Rattle.run_debts.specs.Given.SeizeDeclared.rows.settle.Settled.{Settled}
use Rattle.run_debts.specs.Given.SeizeDeclared.states.TheConstants.{HEAD}
use Rattle.run_debts.specs.Given.TablesDeclared.node.Node.{Node}
use Rattle.run_debts.specs.Given.TablesDeclared.setting.Setting.{Setting}
use Rattle.run_debts.specs.Given.RawDeclared.machines.progress.Progress.{Progress as CallTold}
use Rattle.run_debts.specs.Given.CallersTogether.{UnderWay}
use Rattle.run_debts.specs.Given.EffectsEffects.{known_after}
use Rattle.run_debts.specs.Given.EffectsKnown.{Known, nothing_known}
use Rattle.run_debts.specs.Given.EffectsDeclared.acting.Acting.TheVariants as acts
use Rattle.run_debts.specs.Given.ScenesDeclared.row.RowTold.{RowTold}
use Rattle.run_debts.specs.Given.ScenesDeclared.row.SlotRow.{SlotRow}
use Rattle.run_debts.specs.Given.FinishesEndings.{Finishing}
use Rattle.run_debts.specs.Given.FinishesMakings.{Beginning}
use Rattle.run_debts.specs.Given.ScenesEnding.{EndingLeads}
use Rattle.run_debts.specs.Given.ScenesHeld.{Held, IsAt}
use Rattle.run_debts.specs.Given.ScenesMaking.{MakingLeads}
use Rattle.run_debts.specs.Given.ScenesOnSlots.{RowLeads}
use Rattle.run_debts.specs.Given.ScenesScene.{IsOnSlot, Scene, at_first}
use Rattle.run_debts.specs.Given.ScenesStepping.{StepLeads}

-- where a bucket is noted the first slot has a word, and where none is there is no slot; slots are as many as the buckets that are noted have
pub record SlotsNoted {T : Type 0} (noted : Known) (m : Mem T) : Type 0 where
  pub some : 0 < noted.buckets → IsSome (word_at m (Slot 0 HEAD))
  pub none : noted.buckets ≡ 0 → m.slots ≡ []
  pub whole : length m.slots + 32 ≡ capacity noted.buckets

-- The promises: so it is before all events,
abbrev pub SlotsBegin : Type 0 → Type 0 → Type 0
SlotsBegin K V = (roots : ℕ) → SlotsNoted nothing_known (at_first {K = K} {V = V} roots).world.memory

module _ (K V : Type 0) (same : K → K → Bool) (hash : ℕ → K → ℕ) where
  -- after each step of a call,
  abbrev pub CallsNoteSlots : Type 0
  CallsNoteSlots =
      (known : Known) (s : Scene K V) (old new : Held K V) → IsAt same hash old s → SlotsNoted known old.memory
      → (map i : ℕ) (u : UnderWay K V K) → s.calls map i ≡ Some u → (said : CallTold (Node K V)) → StepLeads same hash i said s old new
      → SlotsNoted (known_after (acts.Call i map) new.changed known) new.memory

  -- of a row on a slot,
  abbrev pub RowsNoteSlots : Type 0
  RowsNoteSlots =
      (known : Known) (s : Scene K V) (old new : Held K V) → IsAt same hash old s → SlotsNoted known old.memory
      → (i : ℕ) (said : RowTold (Node K V)) → RowLeads same hash i said s old new → (row : SlotRow) → IsOnSlot s i row
      → SlotsNoted (known_after acts.Row new.changed known) new.memory

  -- of the making of a map, and of the end of one.
  abbrev pub MakingsNoteSlots : Type 0
  MakingsNoteSlots =
      (known : Known) (s : Scene K V) (old new : Held K V) → IsAt same hash old s → SlotsNoted known old.memory
      → (i : ℕ) (said : Advance Setting) → MakingLeads same hash i said s old new → (b : Beginning K) → s.makers i ≡ Some b → (map : ℕ)
      → SlotsNoted (known_after (acts.Making map) new.changed known) new.memory

  abbrev pub EndingsNoteSlots : Type 0
  EndingsNoteSlots =
      (known : Known) (s : Scene K V) (old new : Held K V) → IsAt same hash old s → SlotsNoted known old.memory
      → (i : ℕ) (said : Settled (Node K V)) → EndingLeads same hash i said s old new → (f : Finishing K V) → s.enders i ≡ Some f → (map : ℕ)
      → SlotsNoted (known_after (acts.Ending map) new.changed known) new.memory
