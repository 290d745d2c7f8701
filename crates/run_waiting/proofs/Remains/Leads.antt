-- Behind a root of a memory is one list.
use Rattle.std.specs.Prelude.{◌≡◌, ℕ, List, [], ◌∷◌, Some}
use Rattle.std.proofs.Common.{refl, sym, subst, ◌∙◌}
use Rattle.run_debts.specs.Given.SeizeWordsDeclared.at.At.TheVariants.{Root, Used}
use Rattle.run_debts.specs.Given.SeizeWordsMem.{Mem, word_at}
use Rattle.run_debts.specs.Given.SeizeFurther.{ListFrom}
use Rattle.run_debts.specs.Given.SeizeWorld.{World}
use Rattle.run_debts.specs.Given.TablesDeclared.node.Node.{Node}
use Rattle.run_debts.specs.Given.TablesDeclared.setting.Setting.{Setting}
use Rattle.run_debts.specs.Given.FinishesFactsEnds.{RootIs}
use Rattle.run_debts.specs.Given.ReclaimsReclaims.{RootLeads}
use Rattle.run_debts.proofs.Given.SeizeReclaimsRoots.Once.{list_once}

module _ {K V : Type 0} (m : Mem (Node K V)) (r : ℕ) where
  abbrev Leads : List ℕ → Type 0
  Leads [] = word_at m (Used r) ≡ Some 0
  Leads (x ∷ xs) = ((word : ℕ) × (word_at m (Root r) ≡ Some word) × ListFrom m word (x ∷ xs)) × (word_at m (Used r) ≡ Some 1)

  one : (xs ys : List ℕ) → Leads xs → Leads ys → xs ≡ ys
  one [] [] a b = refl
  one [] (y ∷ ys) a b = absurd (let used = b.1 in cc (a, used))
  one (x ∷ xs) [] a b = absurd (let used = a.1 in cc (b, used))
  one (x ∷ xs) (y ∷ ys) a b =
      let both : Some a.0.0 ≡ Some b.0.0 = sym a.0.1 ∙ b.0.1 in
      let word : a.0.0 ≡ b.0.0 = cc both in
      list_once m a.0.0 (x ∷ xs) (y ∷ ys) a.0.2 (subst (λ (z : ℕ). ListFrom m z (y ∷ ys)) (sym word) b.0.2)

of_root : {K V : Type 0} (w : World (Node K V)) (r : ℕ) (xs : List ℕ) → RootLeads w r xs → Leads w.memory r xs
of_root w r [] leads = leads.0
of_root w r (x ∷ xs) leads = (leads.1, leads.2)

of_setting : {K V : Type 0} (setting : Setting) (m : Mem (Node K V)) (xs : List ℕ) → RootIs {K = K} setting m xs → Leads m setting.root xs
of_setting setting m [] is = is.1
of_setting setting m (x ∷ xs) is = ((is.0, is.1, is.2), is.3)

-- in worlds of one memory
pub both_lead : {K V : Type 0} (w w2 : World (Node K V)) → w2.memory ≡ w.memory → (r : ℕ) (xs ys : List ℕ) → RootLeads w r xs → RootLeads w2 r ys → xs ≡ ys
both_lead {K} {V} w w2 same r xs ys a b = one w.memory r xs ys (of_root w r xs a) (subst (λ (m : Mem (Node K V)). Leads m r ys) same (of_root w2 r ys b))

-- and what an end has left over there
pub waits_lead : {K V : Type 0} (setting : Setting) (w : World (Node K V)) (waits list : List ℕ) → RootIs {K = K} setting w.memory waits → RootLeads w setting.root list → list ≡ waits
waits_lead setting w waits list is leads = one w.memory setting.root list waits (of_root w setting.root list leads) (of_setting setting w.memory waits is)
