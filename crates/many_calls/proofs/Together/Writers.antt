-- A lookup goes on looking, or has ended: a call that may write after a step could do so before it.
use Rattle.std.specs.Prelude.{◌≡◌, ◌⊎◌, ℕ, Bool, Option, Some, None}
use Rattle.std.proofs.Common.{inl, inr, subst}
use Rattle.seize_model.specs.Given.SeizeWordsMem.{Mem, Took, value_at}
use Rattle.seize_model.specs.Given.SeizeWordsPlan.{Steps}
use Rattle.seize_model.specs.Given.SeizeDeclared.advance.Advance.{Advance}
use Rattle.seize_model.specs.Given.SeizeDeclared.advance.Advance.TheVariants as progress
use Rattle.map_facts_late.specs.Given.TablesDeclared.node.Node.{Node}
use Rattle.map_facts_late.specs.Given.ResizeLookup.{lookup_plan}
use Rattle.map_facts_late.specs.Given.ResizeDeclared.lookup.Lookup.{Lookup}
use Rattle.map_facts_late.specs.Given.RawCall.{looked, looks_for, plan_at, call_plan}
use Rattle.map_facts_late.specs.Given.RawDeclared.machines.answer.Called.{Called}
use Rattle.map_facts_late.specs.Given.RawDeclared.machines.answer.Called.TheVariants as called
use Rattle.map_facts_late.specs.Given.RawDeclared.machines.call.KeyCall.{KeyCall}
use Rattle.map_facts_late.specs.Given.RawDeclared.machines.call.Calling.{Calling}
use Rattle.map_facts_late.specs.Given.RawDeclared.machines.call.Calling.TheVariants as at
use Rattle.map_facts_late.proofs.Given.RuleKeys.Always.{AlwaysOf, always_plan_as, always_steps}
use Rattle.many_calls.specs.Claims.{IsNoLookup}
use Rattle.many_calls.specs.Together.{UnderWay, CallOnKey, OnKey, MayWrite, next_of}
use Rattle.many_calls.proofs.Together.Few.{next_is}

module _ {K V Q : Type 0} where
  -- it looks on, or has ended
  abbrev pub LooksOn : KeyCall K V Q × Called (Node K V) → Type 0
  LooksOn (p, called.Done answer) = Unit {0}
  LooksOn (p, called.Refused fault) = Unit {0}
  LooksOn (p, told) = IsNoLookup p.stands → ⊥

  module _ (p : KeyCall K V Q) where
    looks_on : (end : Lookup × Advance (Option ℕ)) → LooksOn (looked p end)
    looks_on (l, progress.Goes) = λ other. other
    looks_on (l, progress.Waits) = λ other. other
    looks_on (l, progress.Done (Some found)) = tt
    looks_on (l, progress.Done None) = tt
    looks_on (l, progress.Refused fault) = tt

    by_asked : (asks : Q → K → Bool) (l : Lookup) (asked : Option Q) → AlwaysOf LooksOn (looks_for asks p l asked)
    by_asked asks l (Some q) = always_plan_as LooksOn (looked p) looks_on (lookup_plan (asks q) l)
    by_asked asks l None = tt

  -- where it goes on it is no other call
  on_looking : (end : KeyCall K V Q × Called (Node K V)) → LooksOn end → (after : CallOnKey K V Q) → after.call ≡ end.0 → (v : UnderWay K V Q) → next_of after end.1 ≡ Some v → MayWrite v → ⊥
  on_looking (p, told) looks after same v is writes = by told looks is (next_is after told v is)
    where
      goes : (IsNoLookup p.stands → ⊥) → v ≡ OnKey after → ⊥
      goes none e = none (subst (λ (q : KeyCall K V Q). IsNoLookup q.stands) same (subst (λ (x : UnderWay K V Q). MayWrite x) e writes))

      by : (it : Called (Node K V)) → LooksOn (p, it) → next_of after it ≡ Some v → v ≡ OnKey after → ⊥
      by (called.Done answer) looks is e = cc is
      by (called.Refused fault) looks is e = cc is
      by called.Goes looks is e = goes looks e
      by called.Waits looks is e = goes looks e
      by (called.Gave value) looks is e = goes looks e
      by (called.Unstored value) looks is e = goes looks e
      by (called.Asks asked) looks is e = goes looks e

  module _ (asks : Q → K → Bool) (same : K → K → Bool) (hash : K → ℕ) (p : KeyCall K V Q) (m m2 : Mem (Node K V)) (end : KeyCall K V Q × Called (Node K V))
      (steps : Steps Took value_at m (call_plan asks same hash p) m2 end) where
    pub no_lookup_or_on : IsNoLookup p.stands ⊎ LooksOn end
    no_lookup_or_on = by p.stands steps
      where
        by : (stands : Calling) → Steps Took value_at m (plan_at asks same hash p stands) m2 end → IsNoLookup stands ⊎ LooksOn end
        by (at.Looks l) steps = inr (always_steps LooksOn m m2 (plan_at asks same hash p (at.Looks l)) end (by_asked p asks l p.asked) steps)
        by _ steps = inl tt

    -- who may write after a step was no lookup before it
    pub wrote_before : (after : CallOnKey K V Q) → after.call ≡ end.0 → (v : UnderWay K V Q) → next_of after end.1 ≡ Some v → MayWrite v → IsNoLookup p.stands
    wrote_before after same_call v is writes = elim no_lookup_or_on as (λ _. IsNoLookup p.stands) [
      | inl other ↦ other
      | inr looks ↦ absurd (on_looking end looks after same_call v is writes)
    ]
