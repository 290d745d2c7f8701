-- The pairs that are left in a memory, by what is noted of its blocks.
use Rattle.std.specs.Prelude.{◌≡◌, ℕ, zero, suc, List, [], ◌∷◌, ◌++◌, Option, Some}
use Rattle.run_schedules.specs.Given.TablesDeclared.node.Node.{Node}
use Rattle.run_schedules.specs.Given.TablesDeclared.node.Node.TheVariants as node
use Rattle.run_schedules.specs.declared.ended.Pair.{Pair}
use Rattle.run_effects.specs.declared.role.Role.{Role}
use Rattle.run_effects.specs.declared.role.Role.TheVariants as role

module _ {K V : Type 0} where
  -- a block that is noted as a pair holds one
  abbrev pub HoldPairs : (ℕ → Role) → (ℕ → Option (Node K V)) → Type 0
  HoldPairs roles value = (b n : ℕ) → roles b ≡ role.Pair n → (k : K) × (v : V) × (value b ≡ Some (node.Pair k v))

  -- the pair in a block that is noted so
  abbrev pub noted : Role → Option (Node K V) → List (Pair K V)
  noted (role.Pair n) (Some (node.Pair k v)) = record { number = n; key = k; value = v } ∷ []
  noted _ _ = []

  -- and those in all blocks of so many numbers
  abbrev pub noted_below : (ℕ → Role) → (ℕ → Option (Node K V)) → ℕ → List (Pair K V)
  noted_below roles value zero = []
  noted_below roles value (suc b) = noted_below roles value b ++ noted (roles b) (value b)
