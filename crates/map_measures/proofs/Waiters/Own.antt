-- In blocking mode: that each copying that is not over has who ends it, as one caller sees it, by its own call and by those of others; and back, with what its call has become.
use Rattle.std.specs.Prelude.{Option, Some, None}
use Rattle.std.proofs.Common.{◌≡◌, ◌≢◌, ℕ, ◌<◌, ◌⊎◌, inl, inr, refl, ap, sym, subst, ◌∙◌}
use Rattle.std.proofs.lemmas.Bool.{cases_eq}
use Rattle.seize.specs.World.{with_at}
use Rattle.map_machines.specs.declared.copier.Copier.{Copier}
use Rattle.map_machines.specs.declared.copier.Copying.TheVariants as at
use Rattle.many_calls.specs.Given.RuleChart.{Chart}
use Rattle.map_machines.specs.declared.copier.Copying.{Copying as Point}
use Rattle.map_machines.specs.CopierStates.{behind}
use Rattle.many_calls.specs.Together.{UnderWay}
use Rattle.many_calls.proofs.Together.At.{at_other, at_same}
use Rattle.map_measures.proofs.Waits.Endings.{OthersEnd}
use Rattle.map_measures.proofs.Waits.EndingCalls.{AnotherAt, OwnEnds, copier_then}
use Rattle.map_measures.specs.Waits.Others.{copier_of, EndsAt}
use Rattle.map_measures.specs.Waiters.Blocking.{AbortsAt, HaveEndsBlocking, IsUncounted, SomeCopier, SpentAt}
use Rattle.map_measures.proofs.Waiters.Moves.{AllKept}

-- of a copier, if there is one
abbrev pub OfOne : (Copier → Type 0) → Option Copier → Type 0
OfOne Is None = ⊥
OfOne Is (Some p) = Is p

-- the copier, if there is one, is to say that a copying was given up; and it has found each place claimed only where that is so
abbrev pub OwnLoses : {K : Type 0} → Chart K → Option Copier → ℕ → Type 0
OwnLoses c o t = OfOne (λ p. AbortsAt c p p.stands t) o

abbrev pub OwnSpent : {K : Type 0} → Chart K → Option Copier → Type 0
OwnSpent c None = Unit {0}
OwnSpent c (Some p) = SpentAt c p p.stands

as_ends : {K : Type 0} (c : Chart K) (t : ℕ) (o : Option Copier) → OfOne (λ p. EndsAt c p p.stands t) o → OwnEnds c o t
as_ends c t None own = own
as_ends c t (Some p) own = own

as_one : {K : Type 0} (c : Chart K) (t : ℕ) (o : Option Copier) → OwnEnds c o t → OfOne (λ p. EndsAt c p p.stands t) o
as_one c t None own = own
as_one c t (Some p) own = own

module _ {K V Q : Type 0} (calls : ℕ → Option (UnderWay K V Q)) (i : ℕ) where
  -- another caller's copier is so
  abbrev pub AnotherIs : (Copier → Type 0) → Type 0
  AnotherIs Is = (k : ℕ) × (u : UnderWay K V Q) × (p : Copier) × (calls k ≡ Some u) × (k ≢ i) × (copier_of u ≡ Some p) × Is p

  -- some copier is so: another caller's, or its own
  apart : (c : Chart K) (Is : Copier → Type 0) → SomeCopier c calls Is → AnotherIs Is ⊎ OfOne Is (copier_then (calls i))
  apart c Is (k, u, p, is, of, it) = elim (cases_eq k i) as (λ _. AnotherIs Is ⊎ OfOne Is (copier_then (calls i))) [
    | inl e ↦ inr (subst (λ (o : Option (UnderWay K V Q)). OfOne Is (copier_then o)) (sym (subst (λ (n : ℕ). calls n ≡ Some u) e is)) (subst (λ (o : Option Copier). OfOne Is o) (sym of) it))
    | inr other ↦ inl (k, u, p, is, other, of, it)
  ]

  -- as its call has become another, or has ended
  module _ (next : Option (UnderWay K V Q)) where
    abbrev calls2 : ℕ → Option (UnderWay K V Q)
    calls2 = with_at calls i next

    others_on : (c : Chart K) (Is : Copier → Type 0) → AnotherIs Is → SomeCopier c calls2 Is
    others_on c Is (k, u, p, is, other, of, it) = (k, u, p, at_other calls i next k other ∙ is, of, it)

    own_on : (c : Chart K) (Is : Copier → Type 0) → OfOne Is (copier_then next) → SomeCopier c calls2 Is
    own_on c Is own = of_call next refl own
      where
        of_copier : (u : UnderWay K V Q) → next ≡ Some u → (o : Option Copier) → copier_of u ≡ o → OfOne Is o → SomeCopier c calls2 Is
        of_copier u is (Some p) of it = (i, u, p, at_same calls i next i refl ∙ is, of, it)
        of_copier u is None of none = absurd none

        of_call : (o : Option (UnderWay K V Q)) → next ≡ o → OfOne Is (copier_then o) → SomeCopier c calls2 Is
        of_call (Some u) is it = of_copier u is (copier_of u) refl it
        of_call None is none = absurd none

  module _ (c : Chart K) where
    abbrev pub Ending : Type 0
    Ending = AllKept (AnotherAt calls i at.Promotes) (AnotherAt calls i at.Announces) (AnotherAt calls i at.Aborts) c (OwnEnds c (copier_then (calls i))) (OwnLoses c (copier_then (calls i)))

    abbrev pub EndingThen : Option Copier → Type 0
    EndingThen o = AllKept (AnotherAt calls i at.Promotes) (AnotherAt calls i at.Announces) (AnotherAt calls i at.Aborts) c (OwnEnds c o) (OwnLoses c o)

    -- another's is about to end a copying, or has yet to say so
    others_end : (t : ℕ) → AnotherIs (λ p. EndsAt c p p.stands t) → OthersEnd (AnotherAt calls i at.Promotes) (AnotherAt calls i at.Announces) c t
    others_end t (k, u, p, is, other, of, ends) = by p.stands refl ends
      where
        by : (stands : Point) → p.stands ≡ stands → EndsAt c p stands t → OthersEnd (AnotherAt calls i at.Promotes) (AnotherAt calls i at.Announces) c t
        by at.Promotes here (turn, ahead) = inl (ahead, (k, u, p, is, other, of, here, turn))
        by at.Announces here (turn, upto) = inr (upto, (k, u, p, is, other, of, here, turn))
        by _ here none = absurd none

    end_others : (t : ℕ) → OthersEnd (AnotherAt calls i at.Promotes) (AnotherAt calls i at.Announces) c t → AnotherIs (λ p. EndsAt c p p.stands t)
    end_others t (inl (ahead, (k, u, p, is, other, of, here, turn))) = (k, u, p, is, other, of, subst (λ (stands : Point). EndsAt c p stands t) (sym here) (turn, ahead))
    end_others t (inr (upto, (k, u, p, is, other, of, here, turn))) = (k, u, p, is, other, of, subst (λ (stands : Point). EndsAt c p stands t) (sym here) (turn, upto))

    others_lose : (t : ℕ) → AnotherIs (λ p. AbortsAt c p p.stands t) → AnotherAt calls i at.Aborts t
    others_lose t (k, u, p, is, other, of, loses) = by p.stands refl loses
      where
        by : (stands : Point) → p.stands ≡ stands → AbortsAt c p stands t → AnotherAt calls i at.Aborts t
        by at.Aborts here (turn, ahead) = (k, u, p, is, other, of, here, turn)
        by _ here none = absurd none

    lose_others : (t : ℕ) → c.first < t → AnotherAt calls i at.Aborts t → AnotherIs (λ p. AbortsAt c p p.stands t)
    lose_others t ahead (k, u, p, is, other, of, here, turn) = (k, u, p, is, other, of, subst (λ (stands : Point). AbortsAt c p stands t) (sym here) (turn, ahead))

  module _ (c : Chart K) where
    -- as this caller sees it
    pub as_own : HaveEndsBlocking c calls → Ending c
    as_own all = (λ t some made unfinished. of_end t (all.ends t some made unfinished), λ t j behind made unfinished l lost. of_lost t (all.lost t j behind made unfinished l lost))
      where
        Ended : ℕ → Type 0
        Ended t = IsUncounted c t ⊎ (OthersEnd (AnotherAt calls i at.Promotes) (AnotherAt calls i at.Announces) c t ⊎ OwnEnds c (copier_then (calls i)) t)

        whose : (t : ℕ) → AnotherIs (λ p. EndsAt c p p.stands t) ⊎ OfOne (λ p. EndsAt c p p.stands t) (copier_then (calls i)) → Ended t
        whose t (inl others) = inr (inl (others_end c t others))
        whose t (inr own) = inr (inr (as_ends c t (copier_then (calls i)) own))

        of_end : (t : ℕ) → IsUncounted c t ⊎ SomeCopier c calls (λ p. EndsAt c p p.stands t) → Ended t
        of_end t (inl uncounted) = inl uncounted
        of_end t (inr some) = whose t (apart c (λ p. EndsAt c p p.stands t) some)

        whose_lost : (t : ℕ) → AnotherIs (λ p. AbortsAt c p p.stands t) ⊎ OfOne (λ p. AbortsAt c p p.stands t) (copier_then (calls i)) → AnotherAt calls i at.Aborts t ⊎ OwnLoses c (copier_then (calls i)) t
        whose_lost t (inl others) = inl (others_lose c t others)
        whose_lost t (inr own) = inr own

        of_lost : (t : ℕ) → SomeCopier c calls (λ p. AbortsAt c p p.stands t) → AnotherAt calls i at.Aborts t ⊎ OwnLoses c (copier_then (calls i)) t
        of_lost t some = whose_lost t (apart c (λ p. AbortsAt c p p.stands t) some)

    -- and back, with what its call has become
    pub with_own : (next : Option (UnderWay K V Q)) → EndingThen c (copier_then next) → OwnSpent c (copier_then next)
        → ((k : ℕ) (u : UnderWay K V Q) (p : Copier) → calls k ≡ Some u → k ≢ i → copier_of u ≡ Some p → SpentAt c p p.stands) → HaveEndsBlocking c (with_at calls i next)
    with_own next (ends, given) own_spent others_spent = record {
      ends = λ t some made unfinished. of_end t (ends t some made unfinished);
      lost = λ t j behind made unfinished l lost. of_lost t behind (given t j behind made unfinished l lost);
      spent = λ k u is p of. elim (cases_eq k i) as (λ _. SpentAt c p p.stands) [
        | inl e ↦ mine u p (sym (at_same calls i next k e) ∙ is) of
        | inr other ↦ others_spent k u p (sym (at_other calls i next k other) ∙ is) other of
      ];
    }
      where
        of_end : (t : ℕ) → IsUncounted c t ⊎ (OthersEnd (AnotherAt calls i at.Promotes) (AnotherAt calls i at.Announces) c t ⊎ OwnEnds c (copier_then next) t)
            → IsUncounted c t ⊎ SomeCopier c (with_at calls i next) (λ p. EndsAt c p p.stands t)
        of_end t (inl uncounted) = inl uncounted
        of_end t (inr (inl others)) = inr (others_on next c (λ p. EndsAt c p p.stands t) (end_others c t others))
        of_end t (inr (inr own)) = inr (own_on next c (λ p. EndsAt c p p.stands t) (as_one c t (copier_then next) own))

        of_lost : (t : ℕ) → c.first < t → AnotherAt calls i at.Aborts t ⊎ OwnLoses c (copier_then next) t → SomeCopier c (with_at calls i next) (λ p. AbortsAt c p p.stands t)
        of_lost t ahead (inl others) = others_on next c (λ p. AbortsAt c p p.stands t) (lose_others c t ahead others)
        of_lost t ahead (inr own) = own_on next c (λ p. AbortsAt c p p.stands t) own

        mine : (u : UnderWay K V Q) (p : Copier) → next ≡ Some u → copier_of u ≡ Some p → SpentAt c p p.stands
        mine u p is of = subst (λ (o : Option Copier). OwnSpent c o) (ap copier_then is ∙ of) own_spent
