-- A step whose operation writes no root leaves the roots as they are.
use Rattle.std.specs.Prelude.{◌+◌, ◌%◌, ◌^◌, bit_or}
use Rattle.std.proofs.Common.{◌≡◌, ℕ, ap, inl, inr, refl, ◌∙◌}
use Rattle.many_maps.specs.Given.SeizeWordsDeclared.at.At.{At}
use Rattle.many_maps.specs.Given.SeizeWordsDeclared.at.At.TheVariants.{Root, Used, Slot, Entry, Word}
use Rattle.many_maps.specs.Given.SeizeWordsMem.{Mem, value_at, with_word, Took}
use Rattle.many_maps.specs.Given.SeizeWordsOp.{Load, Store, Swap, Add, Or, Exchange, Make, Take, Rewrite, Room}
use Rattle.many_maps.specs.Given.SeizeWordsPlan.{Plan, Turn, Do, Steps, plan_as}
use Rattle.many_maps.proofs.Given.SeizeWordsOneOwner.Operations.{loaded, stored, swapped, added, ored, exchanged, made, taken, rewritten, roomed}
use Rattle.many_maps.proofs.Given.RuleWorld.RootSpared.{IsNoRoot}

module _ {T : Type 0} where
  abbrev pub WritesNoRoot : {R : Type 0} → Plan T R → Type 0
  WritesNoRoot (Do (Store at w) rest) = IsNoRoot at
  WritesNoRoot (Do (Swap at w) rest) = IsNoRoot at
  WritesNoRoot (Do (Add at by) rest) = IsNoRoot at
  WritesNoRoot (Do (Or at bits) rest) = IsNoRoot at
  WritesNoRoot (Do (Exchange at old new) rest) = IsNoRoot at
  WritesNoRoot _ = Unit {0}

  written : (m : Mem T) (at : At) (w : ℕ) → IsNoRoot at → (with_word m at w).roots ≡ m.roots
  written m (Root r) w none = absurd none
  written m (Used r) w none = refl
  written m (Slot s i) w none = refl
  written m (Entry b i) w none = refl
  written m (Word b i) w none = refl

  module _ {R : Type 0} (m m2 : Mem T) (end : R) where
    roots_of : (m3 : Mem T) → m2 ≡ m3 → m3.roots ≡ m.roots → m2.roots ≡ m.roots
    roots_of m3 is h = ap (λ (x : Mem T). x.roots) is ∙ h

    pub plan_roots : (plan : Plan T R) → WritesNoRoot plan → Steps Took value_at m plan m2 end → m2.roots ≡ m.roots
    plan_roots (Turn rest) none s = roots_of m s.0 refl
    plan_roots (Do (Load at) rest) none s = let d = loaded m rest at m2 end s in roots_of m d.2 refl
    plan_roots (Do (Store at w) rest) none s = let d = stored m rest at w m2 end s in roots_of (with_word m at w) d.0 (written m at w none)
    plan_roots (Do (Swap at w) rest) none s = let d = swapped m rest at w m2 end s in roots_of (with_word m at w) d.2 (written m at w none)
    plan_roots (Do (Add at by) rest) none s = let d = added m rest at by m2 end s in roots_of (with_word m at ((d.0 + by) % 2 ^ 64)) d.2 (written m at ((d.0 + by) % 2 ^ 64) none)
    plan_roots (Do (Or at bits) rest) none s = let d = ored m rest at bits m2 end s in roots_of (with_word m at (bit_or d.0 bits)) d.2 (written m at (bit_or d.0 bits) none)
    plan_roots (Do (Exchange at old new) rest) none s =
        elim (exchanged m rest at old new m2 end s) as (λ _. m2.roots ≡ m.roots) [
          | inl d ↦ roots_of (with_word m at new) d.2 (written m at new none)
          | inr d ↦ roots_of m d.2 refl
        ]
    plan_roots (Do (Make value words) rest) none s =
        elim (made m rest value words m2 end s) as (λ _. m2.roots ≡ m.roots) [
          | inl d ↦ roots_of _ d.2 refl
          | inr d ↦ roots_of m d.2 refl
        ]
    plan_roots (Do (Take b) rest) none s = let d = taken m rest b m2 end s in roots_of _ d.2 refl
    plan_roots (Do (Rewrite b new) rest) none s = let d = rewritten m rest b new m2 end s in roots_of _ d.2 refl
    plan_roots (Do (Room bucket) rest) none s =
        elim (roomed m rest bucket m2 end s) as (λ _. m2.roots ≡ m.roots) [
          | inl d ↦ roots_of _ d.0 refl
          | inr d ↦ roots_of m d.0 refl
        ]

  module _ {A B : Type 0} (f : A → B) where
    -- the same step, with its outcome turned into another
    pub no_root_as : (plan : Plan T A) → WritesNoRoot plan → WritesNoRoot (plan_as f plan)
    no_root_as (Turn rest) h = h
    no_root_as (Do (Load at) rest) h = h
    no_root_as (Do (Store at w) rest) h = h
    no_root_as (Do (Swap at w) rest) h = h
    no_root_as (Do (Add at by) rest) h = h
    no_root_as (Do (Or at bits) rest) h = h
    no_root_as (Do (Exchange at old new) rest) h = h
    no_root_as (Do (Make value words) rest) h = h
    no_root_as (Do (Take b) rest) h = h
    no_root_as (Do (Rewrite b new) rest) h = h
    no_root_as (Do (Room bucket) rest) h = h
