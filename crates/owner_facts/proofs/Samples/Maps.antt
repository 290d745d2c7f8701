-- What the end of a map reclaims, and how it leaves the root, on cases worked by hand.
use Rattle.std.specs.Prelude.{Some}
use Rattle.std.proofs.Common.{◌≡◌, ℕ, true, false, [], ◌∷◌, refl}
use Rattle.many_maps.specs.Given.SeizeWordsDeclared.at.At.TheVariants.{Root, Used}
use Rattle.many_maps.specs.Given.SeizeWordsMem.{Mem, word_at}
use Rattle.many_maps.specs.Given.TablesDeclared.setting.Setting.{Setting}
use Rattle.many_maps.specs.Given.TablesDeclared.node.Node.{Node}
use Rattle.many_maps.specs.Given.RuleChart.{Still, Copied, Holds}
use Rattle.many_maps.specs.FactsEnds.{RootIs}
use Rattle.many_maps.specs.Orders.{pair_at, tables_in}

-- a pair that a later table has is reclaimed there alone, bit by bit
copied_elsewhere : pair_at true (Holds 7 Copied false) ≡ []
copied_elsewhere = refl

copied_still_here : pair_at false (Holds 7 Copied false) ≡ 7 ∷ []
copied_still_here = refl

still_here : pair_at true (Holds 7 Still false) ≡ 7 ∷ []
still_here = refl

-- what a table carries is reclaimed before it, where the map owns its collector, and else not at all
deferred_first : (table : ℕ → ℕ) → tables_in table (λ t. 9 ∷ 8 ∷ []) true 0 2 ≡ 9 ∷ 8 ∷ table 0 ∷ 9 ∷ 8 ∷ table 1 ∷ []
deferred_first table = refl

deferred_waits : (table : ℕ → ℕ) → tables_in table (λ t. 9 ∷ 8 ∷ []) false 0 2 ≡ table 0 ∷ table 1 ∷ []
deferred_waits table = refl

module _ {K V : Type 0} where
  -- wrong: a root stays in use behind which nothing waits
  used_for_nothing : (setting : Setting) (m : Mem (Node K V)) → word_at m (Used setting.root) ≡ Some 1 → RootIs setting m [] → ⊥
  used_for_nothing setting m used h = let a = h.1 in cc

  -- wrong: a root is free behind which a block waits
  free_with_block : (setting : Setting) (m : Mem (Node K V)) → word_at m (Root setting.root) ≡ Some 0 → RootIs setting m (4 ∷ []) → ⊥
  free_with_block setting m free (word, is, from, used) = let a = from.2 in cc
