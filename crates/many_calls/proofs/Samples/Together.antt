-- What is refused among many callers.
mod Sweeps
use Rattle.std.specs.Prelude.{◌≡◌, ◌≢◌, ◌<◌, ◌≤◌, ℕ, suc, Bool, true, false, Option, Some, None}
use Rattle.std.proofs.Common.{subst, arith}
use Rattle.seize_model.specs.Given.SeizeLaw.{With, where_is, holds, owner_of}
use Rattle.seize_model.specs.Given.SeizeWorld.{World, Changing, IsInside, IsOnto}
use Rattle.map_facts_late.specs.Given.TablesDeclared.node.Node.{Node}
use Rattle.map_facts_late.specs.Given.TablesDeclared.setting.Setting.{Setting}
use Rattle.map_facts_late.specs.Given.RuleChart.{Chart}
use Rattle.map_facts_late.specs.Given.RuleWords.{Blocks}
use Rattle.many_calls.specs.Sights.{Visible}
use Rattle.many_calls.specs.Together.{CallOnKey, UnderWay, OnKey, IsReclaimed, Together}

-- a value is given back from a block that an open section holds, whichever it is
gives_what_is_held : {T : Type 0} (w w2 : World T) (value : T) (s : ℕ) → ((b : ℕ) → holds s b w.log ≡ true) → IsReclaimed w w2 value → ⊥
gives_what_is_held w w2 value s held (b, is, none, hand, gone) = let is_held = held b in let shut = none s in cc (is_held, shut)

module _ {K V Q : Type 0} (same : K → K → Bool) (hash : K → ℕ) (asks : Q → K → Bool) (setting : Setting) (slot : ℕ → ℕ)
    (w : World (Node K V)) (c : Chart K) (blocks : Blocks) (sights : ℕ → Visible) (calls : ℕ → Option (UnderWay K V Q)) where
  -- a section is being ended while a call is under way in it
  ends_under_a_call : (i : ℕ) (u : CallOnKey K V Q) → calls i ≡ Some (OnKey u) → w.uses (slot i) ≡ Changing → Together V same hash asks setting slot w c blocks sights calls → ⊥
  ends_under_a_call i u has changing s = subst IsInside changing (s.inside i (OnKey u) has)

  -- a caller looks at a table that its section does not hold
  looks_past_its_section : (s t : ℕ) → IsInside (w.uses s) → t < c.past → (sights s).tables t ≡ true → holds s (blocks.table t) w.log ≡ false → Together V same hash asks setting slot w c blocks sights calls → ⊥
  looks_past_its_section s t inside made seen none all = let held = (all.ground.sight s inside).1.tables t made seen in cc (held, none)

  -- a caller that has no call puts a block behind a linked table
  puts_without_a_call : (t j : ℕ) → c.first ≤ t → t < c.past → IsOnto (blocks.table t) (w.row j) → calls j ≡ None → Together V same hash asks setting slot w c blocks sights calls → ⊥
  puts_without_a_call t j l made on none all = all.onto t j l made on none

  -- what lies behind a linked table is another map's
  lies_behind_anothers : (t x : ℕ) → c.first ≤ t → t < c.past → where_is x w.log ≡ With (blocks.table t) → owner_of x w.log ≢ setting.counter
      → Together V same hash asks setting slot w c blocks sights calls → ⊥
  lies_behind_anothers t x l made at other all = other (all.ground.behind t x l made at).0.owner_is

  -- a pair lies behind the last table, from which nothing is to be copied
  lies_behind_the_last : (t x : ℕ) → c.first ≤ t → suc t ≡ c.past → where_is x w.log ≡ With (blocks.table t) → Together V same hash asks setting slot w c blocks sights calls → ⊥
  lies_behind_the_last t x l last at all = let next = (all.ground.behind t x l (omega (arith, last)) at).1 in omega (arith, next, last)
