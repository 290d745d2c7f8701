-- What a step leaves of the blocks in a memory, where some are a caller's own: it makes one, takes one away, or neither.
use Rattle.std.specs.Prelude.{◌≡◌, ◌≢◌, ℕ, Bool, true, false, Option, Some, None, Ok, ◌⊎◌, cond, eqb}
use Rattle.std.proofs.Common.{refl, ap, sym, subst, ◌∙◌, inl, inr}
use Rattle.std.proofs.lemmas.Bool.{cases_eq, eq-eqb, ne_eqb}
use Rattle.map_rule.specs.Given.SeizeWordsOp.{Make, Made}
use Rattle.map_rule.specs.Given.SeizeWordsMem.{Mem, block_of, value_in, value_at, with_block, IsFreeNumber, fresh, after as mem_after}
use Rattle.map_rule.proofs.Given.SeizeWordsOneOwner.AfterWrites.{block_of-made, block_of-with_block}
use Rattle.map_rule.proofs.Given.SeizeMemoryWords.Named.{block_there}
use Rattle.map_facts.proofs.Values.Kept.{SameValues}
use Rattle.map_rule.proofs.Given.General.{some_is as is_some_of}

module _ {T : Type 0} (m m2 : Mem T) (Mine Mine2 Now : ℕ → Type 0) where
  -- The blocks of one caller were these and are those, and the ones between were given to all.
  pub record Leaves : Type 0 where
    pub stay : (b : ℕ) (x : T) → value_at m b ≡ Some x → (value_at m2 b ≡ Some x) ⊎ Mine b
    pub came : (b : ℕ) (x : T) → value_at m2 b ≡ Some x → (value_at m b ≡ Some x) ⊎ Mine2 b
    pub kept : (b : ℕ) (x : T) → value_at m2 b ≡ Some x → Mine b → Mine2 b ⊎ Now b
    pub fresh : (b : ℕ) → Mine2 b → Mine b ⊎ (value_at m b ≡ None)
    -- no value becomes another one
    pub unmoved : (b : ℕ) (x y : T) → value_at m b ≡ Some x → value_at m2 b ≡ Some y → x ≡ y

  one_value : (o : Option T) (x y : T) → o ≡ Some x → o ≡ Some y → x ≡ y
  one_value o x y e f = cc (e, f)

  -- it makes none and takes none
  pub leaves_same : SameValues m m2 → ((b : ℕ) → Mine b → Mine2 b ⊎ Now b) → ((b : ℕ) → Mine2 b → Mine b) → Leaves
  leaves_same same kept mine = record {
    stay = λ b x e. inl (same b ∙ e);
    came = λ b x e. inl (sym (same b) ∙ e);
    kept = λ b x e k. kept b k;
    fresh = λ b k. inl (mine b k);
    unmoved = λ b x y e f. one_value (value_at m b) x y e (sym (same b) ∙ f);
  }

  -- it makes one
  module _ (value : T) (words b : ℕ) (free : IsFreeNumber m b) (is : m2 ≡ mem_after m (Make value words) (Made (Ok b))) where
    made_value : (k : ℕ) → value_at m2 k ≡ cond (eqb k b) (Some value) (value_at m k)
    made_value k = ap (λ (x : Mem T). value_at x k) is ∙ ap value_in (block_of-made m value words b k free) ∙ by (eqb k b)
      where
        by : (q : Bool) → value_in (cond q (Some (fresh value words)) (block_of m k)) ≡ cond q (Some value) (value_at m k)
        by true = refl
        by false = refl

    pub made_here : value_at m2 b ≡ Some value
    made_here = made_value b ∙ ap (λ (q : Bool). cond q (Some value) (value_at m b)) (eq-eqb b b refl)

    none_before : value_at m b ≡ None
    none_before = ap value_in free.0

    others : (k : ℕ) → k ≢ b → value_at m2 k ≡ value_at m k
    others k ne = made_value k ∙ ap (λ (q : Bool). cond q (Some value) (value_at m k)) (ne_eqb k b ne)

    pub leaves_made : Mine2 b → ((k : ℕ) → Mine k → ⊥) → ((k : ℕ) → Mine2 k → k ≡ b) → Leaves
    leaves_made mine none only = record {
      stay = λ k x e. inl (others k (λ same. (let f = sym (ap (value_at m) same ∙ none_before) ∙ e in absurd (cc f))) ∙ e);
      came = λ k x e. elim (cases_eq k b) as (λ _. (value_at m k ≡ Some x) ⊎ Mine2 k) [
        | inl same ↦ inr (subst Mine2 (sym same) mine)
        | inr ne ↦ inl (sym (others k ne) ∙ e)
      ];
      kept = λ k x e mine. absurd (none k mine);
      fresh = λ k mine2. inr (ap (value_at m) (only k mine2) ∙ none_before);
      unmoved = λ k x y e f. one_value (value_at m k) x y e (sym (others k (λ same. (let g = sym (ap (value_at m) same ∙ none_before) ∙ e in absurd (cc g)))) ∙ f);
    }

  -- it takes one away
  module _ (b : ℕ) (value : T) (there : value_at m b ≡ Some value) (is : m2 ≡ with_block m b None) where
    taken_value : (k : ℕ) → value_at m2 k ≡ cond (eqb k b) None (value_at m k)
    taken_value k =
        let y = block_there m b (is_some_of _ _ there) in
        ap (λ (x : Mem T). value_at x k) is ∙ ap value_in (block_of-with_block m b k y.0 None y.1) ∙ by (eqb k b)
      where
        by : (q : Bool) → value_in (cond q None (block_of m k)) ≡ cond q None (value_at m k)
        by true = refl
        by false = refl

    gone : value_at m2 b ≡ None
    gone = taken_value b ∙ ap (λ (q : Bool). cond q None (value_at m b)) (eq-eqb b b refl)

    left : (k : ℕ) → k ≢ b → value_at m2 k ≡ value_at m k
    left k ne = taken_value k ∙ ap (λ (q : Bool). cond q None (value_at m k)) (ne_eqb k b ne)

    pub leaves_taken : Mine b → ((k : ℕ) → Mine k → k ≡ b) → ((k : ℕ) → Mine2 k → ⊥) → Leaves
    leaves_taken mine only none = record {
      stay = λ k x e. elim (cases_eq k b) as (λ _. (value_at m2 k ≡ Some x) ⊎ Mine k) [
        | inl same ↦ inr (subst Mine (sym same) mine)
        | inr ne ↦ inl (left k ne ∙ e)
      ];
      came = λ k x e. inl (sym (left k (λ same. (let f = sym (ap (value_at m2) same ∙ gone) ∙ e in absurd (cc f)))) ∙ e);
      kept = λ k x e mine. (let f = sym (ap (value_at m2) (only k mine) ∙ gone) ∙ e in absurd (cc f));
      fresh = λ k mine2. absurd (none k mine2);
      unmoved = λ k x y e f. one_value (value_at m k) x y e (sym (left k (λ same. (let g = sym (ap (value_at m2) same ∙ gone) ∙ f in absurd (cc g)))) ∙ f);
    }

-- the blocks of a caller, told in other words
pub leaves_as : {T : Type 0} (m m2 : Mem T) (Mine Mine2 Now Mine' Mine2' : ℕ → Type 0) → ((b : ℕ) → Mine b → Mine' b) → ((b : ℕ) → Mine' b → Mine b)
    → ((b : ℕ) → Mine2 b → Mine2' b) → ((b : ℕ) → Mine2' b → Mine2 b) → Leaves m m2 Mine Mine2 Now → Leaves m m2 Mine' Mine2' Now
leaves_as m m2 Mine Mine2 Now Mine' Mine2' to back to2 back2 l = record {
  stay = λ b x e. elim (l.stay b x e) as (λ _. (value_at m2 b ≡ Some x) ⊎ Mine' b) [
    | inl h ↦ inl h
    | inr h ↦ inr (to b h)
  ];
  came = λ b x e. elim (l.came b x e) as (λ _. (value_at m b ≡ Some x) ⊎ Mine2' b) [
    | inl h ↦ inl h
    | inr h ↦ inr (to2 b h)
  ];
  kept = λ b x e mine. elim (l.kept b x e (back b mine)) as (λ _. Mine2' b ⊎ Now b) [
    | inl h ↦ inl (to2 b h)
    | inr h ↦ inr h
  ];
  fresh = λ b mine. elim (l.fresh b (back2 b mine)) as (λ _. Mine' b ⊎ (value_at m b ≡ None)) [
    | inl h ↦ inl (to b h)
    | inr h ↦ inr h
  ];
  unmoved = l.unmoved;
}

-- beside others of its own, which are left alone
pub leaves_beside : {T : Type 0} (m m2 : Mem T) (Mine Mine2 Now : ℕ → Type 0) (Other : ℕ → Type 0) → Leaves m m2 Mine Mine2 Now → Leaves m m2 (λ b. Other b ⊎ Mine b) (λ b. Other b ⊎ Mine2 b) Now
leaves_beside m m2 Mine Mine2 Now Other l = record {
  stay = λ b x e. elim (l.stay b x e) as (λ _. (value_at m2 b ≡ Some x) ⊎ (Other b ⊎ Mine b)) [
    | inl h ↦ inl h
    | inr h ↦ inr (inr h)
  ];
  came = λ b x e. elim (l.came b x e) as (λ _. (value_at m b ≡ Some x) ⊎ (Other b ⊎ Mine2 b)) [
    | inl h ↦ inl h
    | inr h ↦ inr (inr h)
  ];
  kept = λ b x e mine. elim mine as (λ _. (Other b ⊎ Mine2 b) ⊎ Now b) [
    | inl h ↦ inl (inl h)
    | inr h ↦ elim (l.kept b x e h) as (λ _. (Other b ⊎ Mine2 b) ⊎ Now b) [
      | inl k ↦ inl (inr k)
      | inr k ↦ inr k
    ]
  ];
  fresh = λ b mine. elim mine as (λ _. (Other b ⊎ Mine b) ⊎ (value_at m b ≡ None)) [
    | inl h ↦ inl (inl h)
    | inr h ↦ elim (l.fresh b h) as (λ _. (Other b ⊎ Mine b) ⊎ (value_at m b ≡ None)) [
      | inl k ↦ inl (inr k)
      | inr k ↦ inr k
    ]
  ];
  unmoved = l.unmoved;
}
