-- A step that puts no pair into a block: each pair that is there after it stood in the same block before.
use Rattle.std.specs.Prelude.{◌≡◌, ◌≢◌, ℕ, ◌==◌, ◌⊎◌, Bool, Some, None, Ok, if◌then◌else◌}
use Rattle.std.proofs.Common.{refl, sym, ◌∙◌, ap, subst, inl, inr}
use Rattle.std.proofs.lemmas.Bool.{cases_eq, eq-eqb, ne_eqb}
use Rattle.seize_words.specs.OneMemory.Mem.{Mem, Can, Took, IsFreeNumber, value_at, with_block, with_value, after as mem_after}
use Rattle.seize_words.specs.OneMemory.Op.{Op, Load, Store, Swap, Add, Or, Exchange, Make, Take, Rewrite, Room, Made}
use Rattle.seize_words.specs.OneMemory.Plan.{Plan, Turn, Do, May, Steps, plan_as}
use Rattle.seize_words.proofs.OneMemory.OneOwner.AfterWrites.{value_at-with_value}
use Rattle.seize_words.proofs.OneMemory.OneOwner.Operations.{made, taken, rewritten, roomed}
use Rattle.map_tables.specs.declared.node.Node.{Node}
use Rattle.map_tables.specs.declared.node.Node.TheVariants as node
use Rattle.owner_whole.proofs.Given.PointsValues.Kept.{SameValues, plain_keeps}
use Rattle.owner_whole.proofs.Given.PointsValues.Left.{leaves_made, made_here, leaves_taken}
use Rattle.owner_calls.specs.Holds.Came.{StandsAt, NoneCame, NoneCameBut}
use Rattle.seize_words.proofs.General.{some_is as is_some_of}

module _ {K V : Type 0} where
  -- a value that is no pair
  abbrev pub IsNoPair : Node K V → Type 0
  IsNoPair (node.Pair key value) = ⊥
  IsNoPair _ = Unit {0}

  -- the operation puts no pair into a block
  abbrev pub PutsNone : Op (Node K V) → Type 0
  PutsNone (Make value words) = IsNoPair value
  PutsNone (Rewrite b new) = IsNoPair new
  PutsNone _ = Unit {0}

  no_pair : (value : Node K V) (x : K × V) → IsNoPair value → Some value ≡ Some (node.Pair x.0 x.1) → ⊥
  no_pair (node.Pair key value) x none e = none
  no_pair (node.Table len limit turn) x none e = cc e
  no_pair node.Shards x none e = cc e

  module _ {R : Type 0} where
    -- nor does a step with such an operation, or with none
    abbrev pub PutsNoneBy : Plan (Node K V) R → Type 0
    PutsNoneBy (Turn rest) = Unit {0}
    PutsNoneBy (Do op rest) = PutsNone op

  pub puts_as : {A B : Type 0} (f : A → B) (plan : Plan (Node K V) A) → PutsNoneBy plan → PutsNoneBy (plan_as f plan)
  puts_as f (Turn rest) none = tt
  puts_as f (Do op rest) none = none

  module _ (m m2 : Mem (Node K V)) where
    pub same_none : SameValues m m2 → NoneCame m m2
    same_none same b x there = sym (same b) ∙ there

    pub as_it_was : m2 ≡ m → NoneCame m m2
    as_it_was is b x there = subst (λ (y : Mem (Node K V)). StandsAt y b x) is there

    -- a block is made: what stands there has come
    module _ (value : Node K V) (words b : ℕ) (free : IsFreeNumber m b) (is : m2 ≡ mem_after m (Make value words) (Made (Ok b))) where
      abbrev Nobodys : ℕ → Type 0
      Nobodys k = ⊥

      abbrev This : ℕ → Type 0
      This k = k ≡ b

      pub made_but : NoneCameBut m m2 b
      made_but k x there = (leaves_made m m2 Nobodys This Nobodys value words b free is refl (λ k void. void) (λ k its. its)).came k (node.Pair x.0 x.1) there

      made_none : IsNoPair value → NoneCame m m2
      made_none none k x there = elim (made_but k x there) as (λ _. StandsAt m k x) [
        | inl before ↦ before
        | inr its ↦ absurd (no_pair value x none (sym (made_here m m2 Nobodys This Nobodys value words b free is) ∙ ap (value_at m2) (sym its) ∙ there))
      ]

    -- a block is taken away
    module _ (b : ℕ) (value : Node K V) (there : value_at m b ≡ Some value) (is : m2 ≡ with_block m b None) where
      abbrev Its : ℕ → Type 0
      Its k = k ≡ b

      abbrev Nobody : ℕ → Type 0
      Nobody k = ⊥

      pub taken_gone : (x : K × V) → StandsAt m2 b x → ⊥
      taken_gone x here = elim ((leaves_taken m m2 Its Nobody Nobody b value there is refl (λ k its. its) (λ k void. void)).kept b (node.Pair x.0 x.1) here refl) as (λ _. ⊥) [
        | inl void ↦ void
        | inr void ↦ void
      ]

      pub taken_none : NoneCame m m2
      taken_none k x here = elim ((leaves_taken m m2 Its Nobody Nobody b value there is refl (λ k its. its) (λ k void. void)).came k (node.Pair x.0 x.1) here) as (λ _. StandsAt m k x) [
        | inl before ↦ before
        | inr void ↦ absurd void
      ]

    -- a value is replaced: what stands there has come
    module _ (b : ℕ) (value new : Node K V) (there : value_at m b ≡ Some value) (is : m2 ≡ with_value m b new) where
      new_value : (k : ℕ) → value_at m2 k ≡ (if k == b then Some new else value_at m k)
      new_value k = ap (λ (y : Mem (Node K V)). value_at y k) is ∙ value_at-with_value m b new k (is_some_of _ _ there)

      elsewhere : (k : ℕ) → k ≢ b → value_at m2 k ≡ value_at m k
      elsewhere k ne = new_value k ∙ ap (λ (q : Bool). if q then Some new else value_at m k) (ne_eqb k b ne)

      here_now : value_at m2 b ≡ Some new
      here_now = new_value b ∙ ap (λ (q : Bool). if q then Some new else value_at m b) (eq-eqb b b refl)

      pub rewritten_but : NoneCameBut m m2 b
      rewritten_but k x stands = elim (cases_eq k b) as (λ _. StandsAt m k x ⊎ (k ≡ b)) [
        | inl its ↦ inr its
        | inr ne ↦ inl (sym (elsewhere k ne) ∙ stands)
      ]

      rewrites_none : IsNoPair new → NoneCame m m2
      rewrites_none none k x stands = elim (rewritten_but k x stands) as (λ _. StandsAt m k x) [
        | inl before ↦ before
        | inr its ↦ absurd (no_pair new x none (sym here_now ∙ ap (value_at m2) (sym its) ∙ stands))
      ]

    module _ {R : Type 0} where
      pub puts_none : (plan : Plan (Node K V) R) (end : R) → PutsNoneBy plan → May Can Took value_at m plan → Steps Took value_at m plan m2 end → NoneCame m m2
      puts_none (Turn rest) end none may s = as_it_was s.0
      puts_none (Do (Load at) rest) end none may s = same_none (plain_keeps m m2 (Do (Load at) rest) end tt may s)
      puts_none (Do (Store at word) rest) end none may s = same_none (plain_keeps m m2 (Do (Store at word) rest) end tt may s)
      puts_none (Do (Swap at word) rest) end none may s = same_none (plain_keeps m m2 (Do (Swap at word) rest) end tt may s)
      puts_none (Do (Add at by) rest) end none may s = same_none (plain_keeps m m2 (Do (Add at by) rest) end tt may s)
      puts_none (Do (Or at bits) rest) end none may s = same_none (plain_keeps m m2 (Do (Or at bits) rest) end tt may s)
      puts_none (Do (Exchange at old word) rest) end none may s = same_none (plain_keeps m m2 (Do (Exchange at old word) rest) end tt may s)
      puts_none (Do (Make value words) rest) end none may s = elim (made m rest value words m2 end s) as (λ _. NoneCame m m2) [
        | inl d ↦ made_none value words d.0 d.1.0 d.2 none
        | inr d ↦ as_it_was d.2
      ]
      puts_none (Do (Take b) rest) end none may s = let d = taken m rest b m2 end s in taken_none b d.0 d.1 d.2
      puts_none (Do (Rewrite b new) rest) end none may s = let d = rewritten m rest b new m2 end s in rewrites_none b d.0 new d.1 d.2 none
      puts_none (Do (Room bucket) rest) end none may s = elim (roomed m rest bucket m2 end s) as (λ _. NoneCame m m2) [
        | inl d ↦ same_none (λ b. ap (λ (y : Mem (Node K V)). value_at y b) d.0)
        | inr d ↦ as_it_was d.0
      ]
