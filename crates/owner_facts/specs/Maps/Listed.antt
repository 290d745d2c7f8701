-- What is promised of lists of blocks: how often a block stands in them, and what a map that ends leaves waiting.
use Rattle.std.specs.Prelude.{◌≡◌, ◌≤◌, ◌<◌, ℕ, ◌+◌, Bool, true, false, List, ◌∷◌, ◌++◌, ◌⊎◌}
use Rattle.many_maps.specs.Given.SeizeWorld.{times}
use Rattle.many_maps.specs.Given.TablesDeclared.setting.Setting.{Setting}
use Rattle.many_maps.specs.Given.RuleChart.{Chart, Place, Share, Claimed, is_marked, is_settled}
use Rattle.many_maps.specs.Given.RuleMoves.{is_of_caller}
use Rattle.many_maps.specs.Given.RuleRule.{Agrees}
use Rattle.many_maps.specs.Given.RuleWords.{Blocks}
use Rattle.many_maps.specs.Orders.{waits_in}

-- in two lists, one behind the other, a block stands as often as in both
abbrev pub ListsAddUp : Type 0
ListsAddUp = (x : ℕ) (a b : List ℕ) → times x (a ++ b) ≡ times x a + times x b

-- it stands there if it stands in one of them, and only then
abbrev pub InOneOfTwo : Type 0
InOneOfTwo =
    (x : ℕ) (a b : List ℕ)
    → (0 < times x a → 0 < times x (a ++ b)) × (0 < times x b → 0 < times x (a ++ b)) × (0 < times x (a ++ b) → (0 < times x a) ⊎ (0 < times x b))

-- it stands first in a list, or behind that
abbrev pub FirstOrBehind : Type 0
FirstOrBehind = (x y : ℕ) (l : List ℕ) → (0 < times x (x ∷ l)) × (0 < times x (y ∷ l) → (x ≡ y) ⊎ (0 < times x l))

-- what waits where a map ends waits behind one of its tables
abbrev pub DeferredOnTables : Type 0 → Type 0
DeferredOnTables K =
    (setting : Setting) (c : Chart K) (blocks : Blocks) (lists : ℕ → List ℕ) (owns : Bool) (x t tables : ℕ)
    → 0 < times x (waits_in blocks.table lists owns t tables) → (u : ℕ) × (t ≤ u) × (u < t + tables) × (0 < times x (lists u))

-- where no other caller has it, a place that is marked is settled, or it is claimed by this one
abbrev pub MarkedIsSettledOrOwn : Type 0
MarkedIsSettledOrOwn =
    (caller : ℕ) (share : Share) (place : Place) → ((j : ℕ) → (j ≡ caller → ⊥) → is_of_caller j share ≡ false) → Agrees share place → is_marked place ≡ true
    → (is_settled place ≡ true) ⊎ (share ≡ Claimed caller)
