-- A step of a lookup leaves the memory as it is.
use Rattle.std.specs.Prelude.{Option, Some, None}
use Rattle.std.proofs.Common.{◌≡◌, ℕ, Bool, refl, sym, subst}
use Rattle.map_facts.specs.Given.SeizeWordsMem.{Mem, value_at, Took}
use Rattle.map_facts.specs.Given.SeizeWordsPlan.{Steps}
use Rattle.map_facts.specs.Given.SeizeDeclared.advance.Advance.{Advance}
use Rattle.map_facts.specs.Given.SeizeDeclared.advance.Advance.TheVariants as progress
use Rattle.map_facts.proofs.Given.SeizeRuleRows.Leaving.{steps_back}
use Rattle.map_facts.specs.Given.RawCall.{looked, looks_for, plan_at}
use Rattle.map_facts.specs.Given.ResizeLookup.{lookup_plan}
use Rattle.map_facts.specs.Given.ResizeLookup as lookups
use Rattle.map_facts.specs.Given.TablesDeclared.node.Node.{Node}
use Rattle.map_facts.specs.Given.RawDeclared.machines.answer.Called.{Called}
use Rattle.map_facts.specs.Given.RawDeclared.machines.call.KeyCall.{KeyCall}
use Rattle.map_facts.specs.Given.RawDeclared.machines.call.Calling.{Calling}
use Rattle.map_facts.specs.Given.RawDeclared.machines.call.Calling.TheVariants as at
use Rattle.map_facts.specs.Given.ResizeDeclared.lookup.Lookup.{Lookup}
use Rattle.map_facts.specs.Given.ResizeDeclared.lookup.Looking.{Looking}
use Rattle.map_facts.specs.Given.ResizeDeclared.lookup.Looking.TheVariants as looks
use Rattle.map_facts_late.specs.Kinds.{IsLookup, LooksAt}

module _ {K V Q : Type 0} (asks : Q → K → Bool) (same : K → K → Bool) (hash : K → ℕ) (m m2 : Mem (Node K V)) where
  looking_leaves : (keys : K → Bool) (l : Lookup) (end : Lookup × Advance (Option ℕ)) → Steps Took value_at m (lookup_plan keys l) m2 end → m2 ≡ m
  looking_leaves keys l end s = by l.stands s
    where
      by : (stands : Looking) → Steps Took value_at m (lookups.plan_at keys l stands) m2 end → m2 ≡ m
      by looks.Roots s = s.1.1
      by (looks.Probes trial) s = s.1.1
      by (looks.Nexts table) s = s.1.1
      by (looks.Over found) s = s.0

  module _ (p : KeyCall K V Q) (own : p.own ≡ 0) where
    looks_on : (x : Lookup × Advance (Option ℕ)) → IsLookup (looked {K = K} {V = V} p x).0
    looks_on (l, progress.Goes) = (own, tt)
    looks_on (l, progress.Waits) = (own, tt)
    looks_on (l, progress.Done (Some found)) = (own, tt)
    looks_on (l, progress.Done None) = (own, tt)
    looks_on (l, progress.Refused fault) = (own, tt)

    asked_leaves : (l : Lookup) (asked : Option Q) (end : KeyCall K V Q × Called (Node K V)) → Steps Took value_at m (looks_for asks p l asked) m2 end → (m2 ≡ m) × IsLookup end.0
    asked_leaves l (Some q) end s =
        let d = steps_back (looked p) m m2 (lookup_plan (asks q) l) end s in
        (looking_leaves (asks q) l d.0 d.1, subst (λ (x : KeyCall K V Q × Called (Node K V)). IsLookup x.0) (sym d.2) (looks_on d.0))
    asked_leaves l None end s = (s.0, subst (λ (x : KeyCall K V Q × Called (Node K V)). IsLookup x.0) (sym s.1) (own, tt))

    leaves_at : (stands : Calling) → LooksAt stands → p.stands ≡ stands → (end : KeyCall K V Q × Called (Node K V)) → Steps Took value_at m (plan_at asks same hash p stands) m2 end → (m2 ≡ m) × IsLookup end.0
    leaves_at (at.Looks l) is e end s = asked_leaves l p.asked end s
    leaves_at (at.Over last) is e end s = (s.0, subst (λ (x : KeyCall K V Q × Called (Node K V)). IsLookup x.0) (sym s.1) (own, subst LooksAt (sym e) is))
    leaves_at at.Makes is e end s = absurd is
    leaves_at at.Roots is e end s = absurd is
    leaves_at at.Probes is e end s = absurd is
    leaves_at (at.Tries word new) is e end s = absurd is
    leaves_at (at.Counts removed) is e end s = absurd is
    leaves_at at.Nexts is e end s = absurd is
    leaves_at (at.Firsts making) is e end s = absurd is
    leaves_at (at.Allocs making) is e end s = absurd is
    leaves_at (at.Helps copier goal) is e end s = absurd is
    leaves_at (at.Copies copier) is e end s = absurd is
    leaves_at (at.Disposes dispose answer) is e end s = absurd is
    leaves_at (at.Asks asking) is e end s = absurd is
    leaves_at (at.Drops last) is e end s = absurd is

  pub lookup_leaves : (p : KeyCall K V Q) → IsLookup p → (end : KeyCall K V Q × Called (Node K V)) → Steps Took value_at m (plan_at asks same hash p p.stands) m2 end → (m2 ≡ m) × IsLookup end.0
  lookup_leaves p is end s = leaves_at p is.0 p.stands is.1 refl end s
