-- What a step of a making leaves as it is: all blocks, roots and words but those that the making has.
use Rattle.std.specs.Prelude.{◌≡◌, ◌≢◌, ℕ, true, List, Some, ◌⊎◌}
use Rattle.std.proofs.Common.{ap, sym, subst, ◌∙◌, inl, inr}
use Rattle.many_calls.specs.Given.SeizeWordsDeclared.at.At.TheVariants.{Root, Used, Entry, Word}
use Rattle.many_calls.specs.Given.SeizeWordsMem.{value_at, word_at}
use Rattle.many_calls.specs.Given.SeizeDeclared.states.TheConstants.{NEXT}
use Rattle.many_calls.specs.Given.SeizeLaw.{where_is, is_somewhere, holds, owner_of, is_orphan, is_over}
use Rattle.many_calls.specs.Given.SeizeWorld.{World, Row, Use, Making, Event, Runs, IsInside}
use Rattle.many_calls.proofs.Given.SeizeAloneHistories.Reached.{Reached}
use Rattle.many_calls.specs.Given.TablesNodes.{deferred_word}
use Rattle.many_calls.specs.Given.TablesDeclared.node.Node.{Node}
use Rattle.many_calls.specs.Given.TablesDeclared.node.Node.TheVariants as node
use Rattle.many_calls.specs.Given.ResizeDeclared.new_map.NewMap.{NewMap}
use Rattle.many_calls.specs.Given.RuleInWorld.{AllUsers, PreservesBlocks}
use Rattle.many_calls.specs.Kept.{IsUsersOwn, IsKeptBy}
use Rattle.many_maps.specs.Makings.{HasTaken, HasMade, HasRoots}
use Rattle.many_calls.specs.Together.{CameAbout}
use Rattle.many_calls.proofs.Rows.Users.{events_hold}
use Rattle.many_calls.proofs.Together.Came.{came_reached, came_on}
use Rattle.many_calls.proofs.Together.Users.{events_uses, events_rows}

module _ {K V : Type 0} (i : ℕ) (n : NewMap) (w : World (Node K V)) where
  -- a block that the making has: its table, or its counter
  abbrev pub IsItsBlock : ℕ → Type 0
  IsItsBlock b = (w.hand b ≡ Making i) × ((value_at w.memory b ≢ Some node.Shards) ⊎ (HasMade n.stands × (b ≡ n.setting.counter)))

  -- the root that it has
  abbrev pub IsItsRoot : ℕ → Type 0
  IsItsRoot r = HasTaken n.stands × (r ≡ n.setting.root)

  module _ (w2 : World (Node K V)) where
    -- a block is as it was, and so is its link, if this caller didn't make it
    pub record IsAsItWas (b : ℕ) : Type 0 where
      pub value : value_at w2.memory b ≡ value_at w.memory b
      pub words : (field word : ℕ) → word_at w.memory (Word b field) ≡ Some word → word_at w2.memory (Word b field) ≡ Some word
      pub hand : w2.hand b ≡ w.hand b
      pub owner : owner_of b w2.log ≡ owner_of b w.log
      pub orphan : is_orphan b w2.log ≡ is_orphan b w.log
      pub over : is_over b w2.log ≡ is_over b w.log
      pub place : where_is b w2.log ≡ where_is b w.log
      pub link : (word : ℕ) → (w.hand b ≡ Making i → ⊥) → word_at w.memory (Entry b NEXT) ≡ Some word → word_at w2.memory (Entry b NEXT) ≡ Some word

    -- So are all but its own, those that others have, and their roots. A root that becomes free leads nowhere.
    pub record LeavesOthers (size roots : ℕ) : Type 0 where
      pub events : List (Event (Node K V))
      pub users : AllUsers events
      pub runs : Runs deferred_word size events w w2
      pub blocks : (b : ℕ) (value : Node K V) → value_at w.memory b ≡ Some value → (IsItsBlock b → ⊥) → IsAsItWas b
      pub root : (r word : ℕ) → word_at w.memory (Root r) ≡ Some word → (IsItsRoot r → ⊥) → word_at w2.memory (Root r) ≡ Some word
      pub used : (r : ℕ) → word_at w.memory (Used r) ≡ Some 1 → (IsItsRoot r → ⊥) → word_at w2.memory (Used r) ≡ Some 1
      pub free : HasRoots w2 roots
      pub own : (j : ℕ) → j ≢ i → PreservesBlocks j w.memory w.hand w2.memory w2.hand

-- what follows of sections, of rows, and of what is kept
module _ {K V : Type 0} (size roots i : ℕ) (n : NewMap) (w w2 : World (Node K V)) (came : CameAbout size w) (left : LeavesOthers i n w w2 size roots) where
  reached : Reached deferred_word size w
  reached = came_reached size w came

  pub came_then : CameAbout size w2
  came_then = came_on size w w2 left.events came left.runs

  pub rows_same : (j : ℕ) → w2.row j ≡ w.row j
  rows_same j = ap (λ (f : ℕ → Row). f j) (events_rows size left.events w w2 left.users left.runs)

  uses : (r : ℕ) → w2.uses r ≡ w.uses r
  uses r = ap (λ (f : ℕ → Use). f r) (events_uses size left.events w w2 left.users left.runs)

  pub still_inside : (r : ℕ) → IsInside (w.uses r) → IsInside (w2.uses r)
  still_inside r h = subst IsInside (sym (uses r)) h

  pub was_inside : (r : ℕ) → IsInside (w2.uses r) → IsInside (w.uses r)
  was_inside r h = subst IsInside (uses r) h

  pub goes_on_holding : (b r : ℕ) → IsInside (w.uses r) → holds r b w.log ≡ true → holds r b w2.log ≡ true
  goes_on_holding b r in_it h = events_hold size b r left.events w w2 reached in_it left.users left.runs h

  pub kept_then : (b : ℕ) → IsAsItWas i n w w2 b → IsKeptBy w b → IsKeptBy w2 b
  kept_then b it (inl (inl own)) = inl (inl (subst IsUsersOwn (sym it.hand) own))
  kept_then b it (inl (inr there)) = inl (inr (ap is_somewhere it.place ∙ there))
  kept_then b it (inr (r, in_it, h)) = inr (r, still_inside r in_it, goes_on_holding b r in_it h)
