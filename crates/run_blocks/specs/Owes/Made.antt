-- The block that a call has made for a pair and has not stored: whose it is, and what a moment of a run says of it.
use Rattle.std.specs.Prelude.{◌≡◌, ◌≢◌, ℕ, Bool, true, false, List, Some}
use Rattle.run_debts.specs.Given.SeizeWordsWord.{block_in}
use Rattle.run_debts.specs.Given.RawDeclared.machines.machine.Machine.{Machine}
use Rattle.run_debts.specs.Given.RawDeclared.machines.machine.Machine.TheVariants as kinds
use Rattle.run_debts.specs.Given.SchedulesMoment.{UnderWay as CallThere, Moment}
use Rattle.run_debts.specs.Given.SchedulesViews.{call_of}
use Rattle.owner_calls.specs.Given.CallersTogether.{UnderWay}
use Rattle.run_debts.specs.Given.EffectsKnown.{Known}
use Rattle.run_debts.specs.Given.EffectsDeclared.role.Role.TheVariants as role
use Rattle.run_debts.specs.Given.FinishesMachines.{machine_of}
use Rattle.owner_calls.specs.Holds.Came.{Owns}
use Rattle.run_debts.specs.Given.ScenesScene.{Scene}

-- the word of the block that a machine has made for a pair: only a call on one key has one, and 0 is none
abbrev pub own_word : {K V : Type 0} → Machine K V K → ℕ
own_word (kinds.Key p) = p.own
own_word _ = 0

-- by where it stands, it has one, or has put it into the map, or is to give it up
abbrev pub OwnsSo : {K V : Type 0} → Machine K V K → Type 0
OwnsSo (kinds.Key p) = Owns p
OwnsSo _ = Unit {0}

module _ (known : Known) (i : ℕ) where
  -- the block is this caller's, for a pair that it has not stored
  abbrev pub IsItsBlock : ℕ → Type 0
  IsItsBlock b = known.roles b ≡ role.OwnPair i

  -- it has such a block, or none, as this says
  abbrev pub HasBlock : Bool → Type 0
  HasBlock true = (b : ℕ) × IsItsBlock b
  HasBlock false = (b : ℕ) → IsItsBlock b → ⊥

  -- and none but that which this word names
  abbrev pub NamesBlock : ℕ → Type 0
  NamesBlock word = (b : ℕ) → IsItsBlock b → (word ≢ 0) × (b ≡ block_in word)

-- Each call under way has a block for a pair just if the moment says so, and none but that which its machine names; and nobody else has any.
pub record RefinesMade {K V : Type 0} (name : ℕ → List ℕ) (m : Moment K V) (known : Known) (s : Scene K V) : Type 0 where
  pub has : (map i : ℕ) (u : UnderWay K V K) → s.calls map i ≡ Some u → (c : CallThere K V) → call_of (name i) m ≡ Some c → HasBlock known i c.has_block
  pub named : (map i : ℕ) (u : UnderWay K V K) → s.calls map i ≡ Some u → OwnsSo (machine_of u) × NamesBlock known i (own_word (machine_of u))
  pub whose : (i b : ℕ) → IsItsBlock known i b → (map : ℕ) × (u : UnderWay K V K) × (s.calls map i ≡ Some u)
