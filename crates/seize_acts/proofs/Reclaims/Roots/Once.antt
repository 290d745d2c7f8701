-- What is behind the roots of a memory is one list a root.
use Rattle.std.specs.Prelude.{Option, Some, ◌/◌}
use Rattle.std.proofs.Common.{◌≡◌, ℕ, ◌<◌, Bool, false, List, [], ◌∷◌, refl, arith, ap, sym, subst, ◌∙◌}
use Rattle.seize_words.specs.declared.at.At.TheVariants.{Entry}
use Rattle.seize_words.specs.OneMemory.Mem.{Mem, value_at, word_at}
use Rattle.seize.specs.declared.states.TheConstants.{NEXT}
use Rattle.seize.specs.Further.{ListFrom}
use Rattle.seize_model.specs.Alone.Alone.{History}
use Rattle.seize_acts.specs.Reclaims.Roots.{LeadsTo, LeftAt}
use Rattle.seize_model.proofs.Given.SeizeMemoryWords.Named.{link-block}

module _ {T : Type 0} (m : Mem T) where
  same_next : (a b : Option ℕ) (v w : ℕ) → a ≡ b → a ≡ Some v → b ≡ Some w → v ≡ w
  same_next a b v w e f g = cc (e, f, g)

  -- a word begins one list
  pub list_once : (word : ℕ) (l k : List ℕ) → ListFrom m word l → ListFrom m word k → l ≡ k
  list_once word [] [] f g = refl
  list_once word [] (c ∷ k) f g = absurd (let p = g.1 in let q = g.2 in omega (arith, f, p, q))
  list_once word (b ∷ l) [] f g = absurd (let p = f.1 in let q = f.2 in omega (arith, g, p, q))
  list_once word (b ∷ l) (c ∷ k) f g =
      let same : b ≡ c = (let p = f.2 in let q = g.2 in omega (arith, p, q)) in
      let next : f.0 ≡ g.0 = same_next (word_at m (Entry b NEXT)) (word_at m (Entry c NEXT)) f.0 g.0 (ap (λ (x : ℕ). word_at m (Entry x NEXT)) same) f.3 g.3 in
      let rest : l ≡ k = list_once f.0 l k f.4 (subst (λ (x : ℕ). ListFrom m x k) (sym next) g.4) in
      ap (λ (x : ℕ). x ∷ l) same ∙ ap (λ (x : List ℕ). c ∷ x) rest

module _ {T : Type 0} (left_over : T → Bool) (m : Mem T) (h : History) where
  not_both : (word b : ℕ) (l : List ℕ) → LeadsTo left_over m h word [] → LeadsTo left_over m h word (b ∷ l) → ⊥
  not_both word b l f g =
      let from = g.1 in
      let named : word / 2048 ≡ b = ap (λ u. u / 2048) from.2 ∙ link-block b in
      let k = f (λ e. let p = from.1 in let q = from.2 in omega (arith, e, p, q)) in
      let here : value_at m b ≡ Some k.0 = subst (λ (x : ℕ). value_at m x ≡ Some k.0) named k.1 in
      let same : k.0 ≡ g.0.0 = cc (here, g.0.1) in
      let is : left_over g.0.0 ≡ false = subst (λ (x : T). left_over x ≡ false) same k.2 in
      let other = g.0.2 in
      cc (is, other)

  leads_once : (word : ℕ) (l k : List ℕ) → LeadsTo left_over m h word l → LeadsTo left_over m h word k → l ≡ k
  leads_once word [] [] f g = refl
  leads_once word [] (c ∷ k) f g = absurd (not_both word c k f g)
  leads_once word (b ∷ l) [] f g = absurd (not_both word b l g f)
  leads_once word (b ∷ l) (c ∷ k) f g = list_once m word (b ∷ l) (c ∷ k) f.1 g.1

  pub lists_once : (roots : ℕ) (lists lists2 : ℕ → List ℕ) → LeftAt left_over m h roots lists → LeftAt left_over m h roots lists2 → (r : ℕ) → r < roots → lists r ≡ lists2 r
  lists_once roots lists lists2 one two r lt =
      let a = one.root r lt in
      let b = two.root r lt in
      let same : b.0 ≡ a.0 = cc (a.1, b.1) in
      leads_once a.0 (lists r) (lists2 r) a.2 (subst (λ (w : ℕ). LeadsTo left_over m h w (lists2 r)) same b.2)
