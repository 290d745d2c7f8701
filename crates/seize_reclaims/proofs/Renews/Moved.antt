-- What the seat that acts has done makes the rule hold again.
use Rattle.std.specs.Prelude.{◌≢◌, Option, Some, length, slice_get, slice_set}
use Rattle.std.proofs.Common.{◌≡◌, ℕ, Bool, List, ◌⊎◌, inl, inr, sym, subst, ap, ◌∙◌}
use Rattle.std.proofs.lemmas.Bool.{cases_eq}
use Rattle.seize_words.specs.OneMemory.Mem.{Mem}
use Rattle.seize.specs.World.{World}
use Rattle.seize_seats.specs.Seats.State.{State, view_of, Goes}
use Rattle.seize_views.specs.Views.Chains.{Chain}
use Rattle.seize_views.specs.Views.Rows.{IsFound, RootsNameLinked, Came}
use Rattle.seize_views.specs.declared.view.Fixed.{Fixed}
use Rattle.seize_views.proofs.Views.Lists.{there, elsewhere}
use Rattle.seize_reclaims.specs.Renews.Rule.{IsAtPoint, HoldsAlone, KeepsNone}
use Rattle.seize_reclaims.specs.declared.alone.Alone.{Alone}
use Rattle.seize_reclaims.proofs.Renews.Roots.{RootsStay, roots_still, found_still, chains_still}
use Rattle.seize_words.proofs.General.{same_some}

module _ {T : Type 0} (defers : T → Option ℕ) (left_over : T → Bool) (fixed : Fixed) (s : State T (Alone T) (World T)) (id : ℕ) (v u : Alone T)
    (h : HoldsAlone defers left_over fixed s) (at_id : view_of s id ≡ Some v) (m2 : Mem T) (n : World T) (came : Came defers fixed n) (memory : n.memory ≡ m2)
    (stay : RootsStay defers fixed s.world n) (own : IsAtPoint defers left_over fixed n id u) where
  abbrev views2 : List (Alone T)
  views2 = slice_set s.views id u

  abbrev Who : ℕ → Alone T → Type 0
  Who j x = ((j ≡ id) × (x ≡ u)) ⊎ ((j ≢ id) × (view_of s j ≡ Some x))

  who : (j : ℕ) (x : Alone T) → slice_get views2 j ≡ Some x → Who j x
  who j x e = elim (cases_eq j id) as (λ _. Who j x) [
    | inl same ↦ inl (same, same_some x u (sym e ∙ ap (slice_get views2) same ∙ there s.views id u v at_id))
    | inr ne ↦ inr (ne, sym (elsewhere s.views id j u ne) ∙ e)
  ]

  stands_there : (j : ℕ) (x : Alone T) → slice_get views2 j ≡ Some x → IsAtPoint defers left_over fixed n j x
  stands_there j x e = elim (who j x e) as (λ _. IsAtPoint defers left_over fixed n j x) [
    | inl (same, is) ↦ subst (λ (a : Alone T). IsAtPoint defers left_over fixed n j a) (sym is) (subst (λ (k : ℕ). IsAtPoint defers left_over fixed n k u) (sym same) own)
    | inr (ne, was) ↦ absurd (ne (h.one j id x v was at_id))
  ]

  both_mine : (j k : ℕ) (a b : Alone T) → Who j a → Who k b → j ≡ k
  both_mine j k a b (inl x) (inl y) = x.0 ∙ sym y.0
  both_mine j k a b (inl x) (inr y) = absurd (y.0 (h.one k id b v y.1 at_id))
  both_mine j k a b (inr x) y = absurd (x.0 (h.one j id a v x.1 at_id))

  named : RootsNameLinked m2 n.hand
  named =
      subst (λ (m : Mem T). RootsNameLinked m n.hand) memory
      (roots_still defers fixed s.world n stay (subst (λ (m : Mem T). RootsNameLinked m s.world.hand) h.memory h.roots))

  pub moved : (so : Alone T → Type 0) → so u → Goes (HoldsAlone defers left_over fixed) KeepsNone s m2 id so
  moved so is = (
    u,
    n,
    record {
      came = came;
      memory = sym memory;
      seats = stands_there;
      one = λ j k a b e f. both_mine j k a b (who j a e) (who k b f);
      roots = named;
      chains = λ r is. subst (λ (m : Mem T). Chain defers m n.hand r) memory
          (chains_still defers fixed s.world n stay (λ c its. subst (λ (m : Mem T). Chain defers m s.world.hand c) h.memory (h.chains c its)) r is);
      found = λ b. subst (λ (m : Mem T). IsFound fixed m b (λ k. Unit {0}) (n.hand b)) memory
          (found_still defers fixed s.world n stay (λ c. subst (λ (m : Mem T). IsFound fixed m c (λ k. Unit {0}) (s.world.hand c)) h.memory (h.found c)) b);
      rooted = ap (λ (m : Mem T). length m.roots) (sym memory) ∙ ap length stay.0 ∙ ap (λ (m : Mem T). length m.roots) (sym h.memory) ∙ h.rooted;
    },
    (λ j k b x y p q e f keeps. keeps),
    is,
  )
