-- A block that is taken away leaves the others.
use Rattle.std.specs.Prelude.{◌≡◌, ◌≢◌, ◌+◌, ℕ, suc, Bool, List, [], ◌∷◌, ◌++◌, Option, Some, None, IsSome, if◌then◌else◌}
use Rattle.std.proofs.Common.{refl, sym, ap, ◌∙◌, arith}
use Rattle.std.proofs.lemmas.Bool.{ne_eqb}
use Rattle.std.proofs.lemmas.List.{append-nil}
use Rattle.run_schedules.specs.Given.SeizeWordsDeclared.block.Block.{Block}
use Rattle.run_schedules.specs.Given.SeizeWordsMem.{Mem, Took, block_of, value_at, value_in, with_block}
use Rattle.run_schedules.specs.Given.SeizeWordsOp.{Take, Taken}
use Rattle.run_schedules.proofs.Given.SeizeWordsOneOwner.AfterWrites.{block_of-with_block}
use Rattle.run_schedules.specs.Given.TablesDeclared.node.Node.{Node}
use Rattle.run_schedules.specs.Given.TablesDeclared.node.Node.TheVariants as node
use Rattle.run_schedules.specs.declared.ended.Pair.{Pair}
use Rattle.run_effects.specs.declared.role.Role.{Role}
use Rattle.run_effects.specs.declared.role.Role.TheVariants as role
use Rattle.run_effects.specs.Tallies.Left.{noted, noted_below}
use Rattle.run_schedules.proofs.Given.General.{some_is}

module _ {T : Type 0} (m : Mem T) (b : ℕ) where
  there : (o : Option (Block T)) → block_of m b ≡ o → IsSome (value_in o) → (x : Block T) × (block_of m b ≡ Some x)
  there None is some = absurd (cc some)
  there (Some x) is some = (x, is)

  pub others_stay : IsSome (value_at m b) → (d : ℕ) → d ≢ b → value_at (with_block m b None) d ≡ value_at m d
  others_stay some d other =
      let x = there (block_of m b) refl some in
      ap value_in (block_of-with_block m b d x.0 None x.1 ∙ ap (λ (q : Bool). if q then None else block_of m d) (ne_eqb d b other))

-- what is taken out of a block that holds a pair is that
pub pair_taken : {K V : Type 0} (m m2 : Mem (Node K V)) (b : ℕ) (k : K) (v : V) → value_at m b ≡ Some (node.Pair k v) → (value : Node K V) → Took m (Take b) (Taken value) m2 → value ≡ node.Pair k v
pair_taken {K} {V} m m2 b k v is value took = the value (node.Pair k v) (sym took.0 ∙ is)
  where
    the : (a c : Node K V) → ◌≡◌ {A = Option (Node K V)} (Some a) (Some c) → a ≡ c
    the a c e = cc e

pub may_take : {K V : Type 0} (m : Mem (Node K V)) (b : ℕ) (k : K) (v : V) → value_at m b ≡ Some (node.Pair k v) → IsSome (value_at m b)
may_take m b k v is = some_is (value_at m b) (node.Pair k v) is

module _ {K V : Type 0} (roles : ℕ → Role) (value : ℕ → Option (Node K V)) (block : ℕ) (pairs : List (Pair K V)) (so_far : pairs ≡ noted_below roles value block) where
  on : block + 1 ≡ suc block
  on = omega arith

  -- it is listed, or none is
  pub one_listed : (n : ℕ) → roles block ≡ role.Pair n → (k : K) (v : V) → value block ≡ Some (node.Pair k v) → (new : List (Pair K V))
      → new ≡ pairs ++ record { number = n; key = k; value = v } ∷ [] → new ≡ noted_below roles value (block + 1)
  one_listed n is k v held new more =
      more ∙ ap (λ (l : List (Pair K V)). l ++ record { number = n; key = k; value = v } ∷ []) so_far
      ∙ ap (λ (l : List (Pair K V)). noted_below roles value block ++ l)
      (sym (ap (λ (r : Role). noted r (value block)) is ∙ ap (λ (o : Option (Node K V)). noted (role.Pair n) o) held)) ∙ ap (noted_below roles value) (sym on)

  pub none_listed : ((n : ℕ) → roles block ≡ role.Pair n → ⊥) → pairs ≡ noted_below roles value (block + 1)
  none_listed none =
      so_far ∙ sym (append-nil (noted_below roles value block)) ∙ ap (λ (l : List (Pair K V)). noted_below roles value block ++ l) (sym (by (roles block) refl)) ∙ ap (noted_below roles value) (sym on)
    where
      by : (r : Role) → roles block ≡ r → noted r (value block) ≡ []
      by (role.Pair n) is = absurd (none n is)
      by role.Free is = refl
      by (role.OwnPair caller) is = refl
      by (role.OwnTable turn shape) is = refl
      by (role.Table t len) is = refl
      by (role.Counter map) is = refl
