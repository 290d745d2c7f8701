-- What the root of a map that ends names once it was written: a pair that waits, or nothing.
use Rattle.std.specs.Prelude.{◌≡◌, ℕ, ◌<◌, ◌==◌, Bool, List, [], ◌∷◌, Some, if◌then◌else◌, ◌⊎◌}
use Rattle.std.proofs.Common.{refl, ap, sym, subst, ◌∙◌, arith, inl, inr}
use Rattle.std.proofs.lemmas.Bool.{eq-eqb}
use Rattle.seize_words.specs.declared.at.At.TheVariants.{Root}
use Rattle.seize_words.specs.OneMemory.Mem.{Mem, word_at}
use Rattle.seize_words.specs.OneMemory.Word.{block_in}
use Rattle.seize.specs.World.{World, times}
use Rattle.seize.specs.declared.rows.settle.Settled.{Settled}
use Rattle.run_effects.specs.Given.TablesDeclared.node.Node.{Node}
use Rattle.run_effects.specs.Given.TablesDeclared.setting.Setting.{Setting}
use Rattle.run_effects.specs.Given.RawEndMap as end_map
use Rattle.run_effects.specs.Given.RawDeclared.machines.end_map.EndMap.{EndMap}
use Rattle.run_effects.specs.Given.RawDeclared.machines.end_map.Ending.{Ending}
use Rattle.run_effects.specs.Given.RawDeclared.machines.end_map.Ending.TheVariants as at
use Rattle.run_effects.specs.ReportingMemory.Tells.{StepsObserved}
use Rattle.run_effects.specs.declared.changed.Changed.{Changed}
use Rattle.run_effects.specs.declared.changed.Changed.TheVariants as changed
use Rattle.run_effects.specs.Given.RuleChart.{Chart}
use Rattle.run_effects.specs.Given.RuleWords.{Blocks, root_word}
use Rattle.run_effects.proofs.Given.RuleWords.TablesSeen.{block_of_link}
use Rattle.many_maps.specs.Given.CallersKept.{IsPair}
use Rattle.many_maps.specs.FactsEnds.{RootIs, RootAt}

-- the word names nothing, or a pair
abbrev pub NamesPair : {K V : Type 0} → World (Node K V) → ℕ → Type 0
NamesPair w word = (block_in word ≡ 0) ⊎ IsPair w (block_in word)

module _ {K V : Type 0} (hash : K → ℕ) (setting : Setting) (c : Chart K) (blocks : Blocks) (m : Mem (Node K V)) where
  -- before its root is written it leads to the map
  pub root_leads : (stands : Ending) → RootAt hash setting c blocks m stands → (stands ≡ at.Frees → ⊥) → (stands ≡ at.Over → ⊥) → word_at m (Root setting.root) ≡ Some (root_word hash c blocks)
  root_leads at.Frees root frees over = absurd (frees refl)
  root_leads at.Over root frees over = absurd (over refl)
  root_leads _ root frees over = root.0

  pub root_or_none : (stands : Ending) → RootAt hash setting c blocks m stands → (stands ≡ at.Over → ⊥)
      → (word_at m (Root setting.root) ≡ Some (root_word hash c blocks)) ⊎ (word_at m (Root setting.root) ≡ Some 0)
  root_or_none at.Frees root over = inr root.0
  root_or_none at.Over root over = absurd (over refl)
  root_or_none _ root over = inl root.0

module _ {K V : Type 0} (setting : Setting) (w : World (Node K V)) (m2 : Mem (Node K V)) (new : ℕ) (is : word_at m2 (Root setting.root) ≡ Some new) where
  -- nothing waits, or pairs do
  pub root_waits : (waits : List ℕ) → ((x : ℕ) → 0 < times x waits → IsPair w x) → RootIs {K = K} setting m2 waits → NamesPair w new
  root_waits [] pairs root = inl (let none = root.0 in let zero_is : new ≡ 0 = cc (is, none) in ap block_in zero_is)
  root_waits (x ∷ list) pairs root =
      let word_is : new ≡ root.0 = (let there = root.1 in cc (is, there)) in
      let block_is : block_in new ≡ x = ap block_in (word_is ∙ root.2.2) ∙ block_of_link x in
      inr (subst (λ (b : ℕ). IsPair w b) (sym block_is) (pairs x (ap_one x list)))
    where
      ap_one : (y : ℕ) (l : List ℕ) → 0 < times y (y ∷ l)
      ap_one y l = let one : ◌≡◌ {A = ℕ} (if y == y then 1 else 0) 1 = ap (λ (q : Bool). if q then 1 else 0) (eq-eqb y y refl) in omega (arith, one)

-- as it gives its root up it writes no root
module _ {K V : Type 0} (e : EndMap) (m m2 : Mem (Node K V)) (told : Changed) (end : EndMap × Settled (Node K V)) (steps : StepsObserved K V (EndMap × Settled (Node K V)) m changed.Nothing (end_map.end_map_plan e) m2 told end) where
  pub frees_no_root : e.stands ≡ at.Frees → (r old new : ℕ) → told ≡ changed.Wrote (Root r) old new → ⊥
  frees_no_root stands r old new is =
      let there : StepsObserved K V (EndMap × Settled (Node K V)) m changed.Nothing (end_map.plan_at e at.Frees) m2 told end =
      subst (λ (p : Ending). StepsObserved K V (EndMap × Settled (Node K V)) m changed.Nothing (end_map.plan_at e p) m2 told end) stands steps in
      let wrote = there.1.1 in (cc (is, wrote))
