-- What has come to the memory, from one step to the next.
use Rattle.std.specs.Prelude.{◌≡◌, ℕ, Option, Some, None, ◌⊎◌}
use Rattle.std.proofs.Common.{refl, sym, ◌∙◌, inl, inr}
use Rattle.many_maps.specs.Given.SeizeWordsMem.{Mem, value_at}
use Rattle.owner_facts.specs.Alone.Values.{HasCome, IsComing}
use Rattle.many_maps.proofs.Given.PointsValues.Kept.{SameValues}
use Rattle.many_maps.proofs.Given.PointsValues.Left.{Leaves}

module _ {T : Type 0} (m0 m : Mem T) (Came Mine : ℕ → Type 0) (old : IsComing m0 m Came Mine) where
  -- nobody has a block of his own
  pub has_come : ((b : ℕ) → Mine b → ⊥) → HasCome m0 m Came
  has_come none = record {
    stay = old.stay;
    came = λ b x e. elim (old.came b x e) as (λ _. (value_at m0 b ≡ Some x) ⊎ Came b) [
      | inl h ↦ h
      | inr h ↦ absurd (none b h)
    ];
  }

  module _ (m2 : Mem T) where
    -- what was given to all has come
    pub comes_on : (Came2 Mine2 Now : ℕ → Type 0) → ((b : ℕ) → Came b → Came2 b) → ((b : ℕ) → Now b → Came2 b) → Leaves m m2 Mine Mine2 Now → IsComing m0 m2 Came2 Mine2
    comes_on Came2 Mine2 Now on now l = record {
      stay = λ b x was. elim (l.stay b x (old.stay b x was)) as (λ _. value_at m2 b ≡ Some x) [
        | inl h ↦ h
        | inr mine ↦ (let none = sym (old.fresh b mine) ∙ was in absurd (cc none))
      ];
      came = λ b x there. elim (l.came b x there) as (λ _. ((value_at m0 b ≡ Some x) ⊎ Came2 b) ⊎ Mine2 b) [
        | inl before ↦ elim (old.came b x before) as (λ _. ((value_at m0 b ≡ Some x) ⊎ Came2 b) ⊎ Mine2 b) [
          | inl h ↦ inl (elim h as (λ _. (value_at m0 b ≡ Some x) ⊎ Came2 b) [
            | inl was ↦ inl was
            | inr k ↦ inr (on b k)
          ])
          | inr mine ↦ elim (l.kept b x there mine) as (λ _. ((value_at m0 b ≡ Some x) ⊎ Came2 b) ⊎ Mine2 b) [
            | inl h ↦ inr h
            | inr h ↦ inl (inr (now b h))
          ]
        ]
        | inr h ↦ inr h
      ];
      fresh = λ b mine. elim (l.fresh b mine) as (λ _. value_at m0 b ≡ None) [
        | inl h ↦ old.fresh b h
        | inr none ↦ no_value b (value_at m0 b) refl none
      ];
    }
      where
        no_value : (b : ℕ) (o : Option T) → value_at m0 b ≡ o → value_at m b ≡ None → value_at m0 b ≡ None
        no_value b None e none = e
        no_value b (Some x) e none = let f = sym none ∙ old.stay b x e in absurd (cc f)

    -- no block was made or taken away
    pub comes_same : SameValues m m2 → (Came2 Mine2 : ℕ → Type 0) → ((b : ℕ) → Came b → Came2 b) → ((b : ℕ) → Mine b → Mine2 b) → ((b : ℕ) → Mine2 b → Mine b) → IsComing m0 m2 Came2 Mine2
    comes_same same Came2 Mine2 on to of = record {
      stay = λ b x was. same b ∙ old.stay b x was;
      came = λ b x there. elim (old.came b x (sym (same b) ∙ there)) as (λ _. ((value_at m0 b ≡ Some x) ⊎ Came2 b) ⊎ Mine2 b) [
        | inl h ↦ inl (elim h as (λ _. (value_at m0 b ≡ Some x) ⊎ Came2 b) [
          | inl was ↦ inl was
          | inr k ↦ inr (on b k)
        ])
        | inr h ↦ inr (to b h)
      ];
      fresh = λ b mine. old.fresh b (of b mine);
    }

-- where nothing has come
pub none_coming : {T : Type 0} (m : Mem T) (Came Mine : ℕ → Type 0) → ((b : ℕ) → Mine b → ⊥) → IsComing m m Came Mine
none_coming m Came Mine none = record { stay = λ b x e. e; came = λ b x e. inl (inl e); fresh = λ b mine. absurd (none b mine) }

module _ {T : Type 0} (m0 m : Mem T) (h : HasCome m0 m (λ b. ⊥)) where
  -- where nothing has come, all is as it was
  pub values_same : SameValues m0 m
  values_same b = by (value_at m0 b) (value_at m b) refl refl
    where
      by : (old new : Option T) → value_at m0 b ≡ old → value_at m b ≡ new → new ≡ old
      by None None e f = refl
      by (Some x) new e f = sym f ∙ h.stay b x e
      by None (Some x) e f = elim (h.came b x f) as (λ _. Some x ≡ None) [
        | inl was ↦ sym was ∙ e
        | inr k ↦ absurd k
      ]
