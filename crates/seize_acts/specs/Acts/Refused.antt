-- When a registration is refused.
use Rattle.std.specs.Prelude.{◌≡◌, ℕ, ◌+◌, ◌≤◌, false, List, [], ◌∷◌, Option, Some, Err, ◌⊎◌, length}
use Rattle.seize_words.specs.declared.at.At.TheVariants.{Slot}
use Rattle.seize_words.specs.declared.fault.Fault.{Fault}
use Rattle.seize_words.specs.declared.fault.Fault.TheVariants.{SlotsUsedUp, Memory}
use Rattle.seize_words.specs.OneMemory.Op.{Roomed}
use Rattle.seize_words.specs.OneMemory.Mem.{Mem, word_at}
use Rattle.seize_words.specs.OneMemory.Place.{capacity}
use Rattle.seize.specs.declared.states.TheConstants.{HEAD, LAST_SLOT}
use Rattle.seize.specs.declared.advance.Advance.TheVariants as progress
use Rattle.seize.specs.declared.rows.defer.Defer.{Defer}
use Rattle.seize.specs.declared.rows.register.Register.{Register}
use Rattle.seize.specs.declared.rows.enter.Enter.{Enter}
use Rattle.seize.specs.declared.rows.enter.Unregister.{Unregister}
use Rattle.seize.specs.Defer.{defer_plan}
use Rattle.seize.specs.Register.{can_be_taken, register_plan}
use Rattle.seize.specs.Enter.{enter_plan, unregister_plan}
use Rattle.seize.specs.World.{World, Row, Rests, Registers, Enters, Settles, Leaves, Defers, Frees, Register', at_start}
use Rattle.seize_acts.specs.Acts.Answers.{Grant, stepped}
use Rattle.seize_acts.specs.Acts.Acts.{Act, Begin, Step, Operate, Choose, Did, AllDid, begun, told}

-- the row registers
abbrev pub IsRegistering : Row → Type 0
IsRegistering (Registers c) = Unit {0}
IsRegistering _ = ⊥

module _ {T : Type 0} where
  -- somebody has the slot: its head says that it can't be taken
  abbrev pub IsHad : ℕ → Mem T → Type 0
  IsHad s m = (head : ℕ) × (word_at m (Slot s HEAD) ≡ Some head) × (can_be_taken head ≡ false)

  -- and this caller registers meanwhile
  abbrev pub IsHadMeanwhile : ℕ → ℕ → World T → Type 0
  IsHadMeanwhile i s w = IsRegistering (w.row i) × IsHad s w.memory

  -- The next step of this row answers that it is refused, as this fault. A row that settles or leaves has no such answer.
  abbrev pub Refuses : Row → Grant → Mem T → Fault → Type 0
  Refuses Rests g m fault = ⊥
  Refuses (Registers c) g m fault = (m2 : Mem T) × (end : Register) × (stepped m g (register_plan c) ≡ Some (m2, (end, progress.Refused fault)))
  Refuses (Enters c) g m fault = (m2 : Mem T) × (end : Enter) × (stepped m g (enter_plan c) ≡ Some (m2, (end, progress.Refused fault)))
  Refuses (Settles c) g m fault = ⊥
  Refuses (Leaves c) g m fault = ⊥
  Refuses (Defers s c) g m fault = (m2 : Mem T) × (end : Defer) × (stepped m g (defer_plan c) ≡ Some (m2, (end, progress.Refused fault)))
  Refuses (Frees c) g m fault = (m2 : Mem T) × (end : Unregister) × (stepped m g (unregister_plan c) ≡ Some (m2, (end, progress.Refused fault)))

module _ {T : Type 0} (defers : T → Option ℕ) (batch_size : ℕ) where
  -- the act makes a step of a row that registers
  abbrev pub IsRegistration : Act T → World T → Type 0
  IsRegistration (Begin j (Register' enters) g) w = Unit {0}
  IsRegistration (Step j g) w = IsRegistering (w.row j)
  IsRegistration _ w = ⊥

  -- the step of this caller that the act makes is refused as this fault
  abbrev pub IsRefused : ℕ → Act T → World T → Fault → Type 0
  IsRefused i (Begin j request g) w fault =
      (j ≡ i) × (w.row j ≡ Rests) × (v : World T) × (begun defers batch_size j request w ≡ Some v) × Refuses (v.row j) g v.memory fault
  IsRefused i (Step j g) w fault = (j ≡ i) × Refuses (w.row j) g w.memory fault
  IsRefused i (Operate j op g changes) w fault = ⊥
  IsRefused i (Choose choice) w fault = ⊥

  -- this was so before these acts, or after one of them
  abbrev pub Sometime : (World T → Type 0) → List (Act T) → World T → Type 0
  Sometime P [] w = P w
  Sometime P (act ∷ acts) w = P w ⊎ ((n : World T) × Did defers batch_size act w n × Sometime P acts n)

  -- Each of the 65,536 slots was had by somebody at some time through these acts, while the caller registered.
  abbrev pub EachWasHad : ℕ → List (Act T) → World T → Type 0
  EachWasHad i acts w = (s : ℕ) → s ≤ LAST_SLOT → Sometime (IsHadMeanwhile i s) acts w

  -- The act found no room for the words of a bucket that was not there.
  abbrev pub FoundNoRoom : Act T → World T → Type 0
  FoundNoRoom act w = (told defers batch_size act w ≡ Some (Roomed (Err Memory))) × (bucket : ℕ) × (length w.memory.slots + 32 ≡ capacity bucket)

module _ {T : Type 0} (defers : T → Option ℕ) where
  -- A caller whose row rested is refused later on as having no slot left only where each of them was had since, while it registered.
  abbrev pub UsedUpIfAllAreHad : Type 0
  UsedUpIfAllAreHad =
      (batch_size roots i : ℕ) (before since : List (Act T)) (v w : World T) (act : Act T)
      → AllDid defers batch_size before (at_start defers roots) v → v.row i ≡ Rests → AllDid defers batch_size since v w
      → IsRefused defers batch_size i act w SlotsUsedUp → EachWasHad defers batch_size i since v

  -- and as having no memory only where the memory says so
  abbrev pub NoMemoryIfNoRoom : Type 0
  NoMemoryIfNoRoom =
      (batch_size roots i : ℕ) (acts : List (Act T)) (w : World T) (act : Act T) → AllDid defers batch_size acts (at_start defers roots) w
      → IsRefused defers batch_size i act w Memory → FoundNoRoom defers batch_size act w

  -- No other row is refused, and there is no other fault.
  abbrev pub OnlyTwoFaults : Type 0
  OnlyTwoFaults =
      (batch_size roots i : ℕ) (acts : List (Act T)) (w : World T) (act : Act T) (fault : Fault) → AllDid defers batch_size acts (at_start defers roots) w
      → IsRefused defers batch_size i act w fault → IsRegistration defers batch_size act w × ((fault ≡ SlotsUsedUp) ⊎ (fault ≡ Memory))
