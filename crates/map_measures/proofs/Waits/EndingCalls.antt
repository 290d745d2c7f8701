-- That each copying that is not over has who ends it, as one caller sees it: by its own call, and by those of others; and back, with what its call has become.
use Rattle.std.specs.Prelude.{Option, Some, None}
use Rattle.std.proofs.Common.{◌≡◌, ◌≢◌, ℕ, ◌⊎◌, inl, inr, Bool, true, false, refl, sym, subst, ◌∙◌, eqb-true, eqb}
use Rattle.std.proofs.lemmas.Bool.{eq-eqb}
use Rattle.seize.specs.World.{with_at}
use Rattle.map_machines.specs.declared.copier.Copier.{Copier}
use Rattle.map_machines.specs.declared.copier.Copying.{Copying as Point}
use Rattle.map_machines.specs.declared.copier.Copying.TheVariants as at
use Rattle.many_calls.specs.Given.RuleChart.{Chart}
use Rattle.many_calls.specs.Together.{UnderWay}
use Rattle.many_calls.proofs.Together.At.{at_other, at_same}
use Rattle.map_measures.specs.Waits.Others.{IsOpen, EndsAt, HaveEnds, copier_of}
use Rattle.map_measures.proofs.Waits.Endings.{OthersEnd, AllOr, AllEnd, weaker}

-- the copier, if there is one, is to end the copying
abbrev pub OwnEnds : {K : Type 0} → Chart K → Option Copier → ℕ → Type 0
OwnEnds c None t = ⊥
OwnEnds c (Some p) t = EndsAt c p p.stands t

-- of the call, if there is one
abbrev pub copier_then : {K V Q : Type 0} → Option (UnderWay K V Q) → Option Copier
copier_then None = None
copier_then (Some u) = copier_of u

own_within : {K V Q : Type 0} (c : Chart K) (t : ℕ) (u : UnderWay K V Q) (p : Copier) → copier_of u ≡ Some p → EndsAt c p p.stands t → OwnEnds c (copier_of u) t
own_within c t u p of ends = subst (λ (o : Option Copier). OwnEnds c o t) (sym of) ends

module _ {K V Q : Type 0} (calls : ℕ → Option (UnderWay K V Q)) (i : ℕ) where
  -- another caller's copier stands at this point, for the table with this turn
  abbrev pub AnotherAt : Point → ℕ → Type 0
  AnotherAt stands t =
      (k : ℕ) × (u : UnderWay K V Q) × (p : Copier) × (calls k ≡ Some u) × (k ≢ i) × (copier_of u ≡ Some p) × (p.stands ≡ stands) × (p.target.turn ≡ t)

  abbrev pub AllOrOwn : Chart K → Option Copier → Type 0
  AllOrOwn c own = AllOr (AnotherAt at.Promotes) (AnotherAt at.Announces) c (OwnEnds c own)

  module _ (c : Chart K) where
    abbrev AnyEnds : ℕ → Type 0
    AnyEnds t = (k : ℕ) × (u : UnderWay K V Q) × (p : Copier) × (calls k ≡ Some u) × (copier_of u ≡ Some p) × EndsAt c p p.stands t

    -- another's is about to, or has
    others : (t k : ℕ) (u : UnderWay K V Q) (p : Copier) → calls k ≡ Some u → k ≢ i → copier_of u ≡ Some p → EndsAt c p p.stands t
        → OthersEnd (AnotherAt at.Promotes) (AnotherAt at.Announces) c t
    others t k u p is other of ends = by p.stands refl ends
      where
        by : (stands : Point) → p.stands ≡ stands → EndsAt c p stands t → OthersEnd (AnotherAt at.Promotes) (AnotherAt at.Announces) c t
        by at.Promotes here (turn, ahead) = inl (ahead, (k, u, p, is, other, of, here, turn))
        by at.Announces here (turn, upto) = inr (upto, (k, u, p, is, other, of, here, turn))
        by _ here none = absurd none

    pub as_own : HaveEnds c calls → AllOrOwn c (copier_then (calls i))
    as_own ends t some made unfinished = by (ends t some made unfinished)
      where
        Found : Type 0
        Found = IsOpen c t ⊎ (OthersEnd (AnotherAt at.Promotes) (AnotherAt at.Announces) c t ⊎ OwnEnds c (copier_then (calls i)) t)

        own : (u : UnderWay K V Q) (p : Copier) → calls i ≡ Some u → copier_of u ≡ Some p → EndsAt c p p.stands t → OwnEnds c (copier_then (calls i)) t
        own u p is of ends = subst (λ (o : Option (UnderWay K V Q)). OwnEnds c (copier_then o) t) (sym is) (own_within c t u p of ends)

        whose : (k : ℕ) (u : UnderWay K V Q) (p : Copier) → calls k ≡ Some u → copier_of u ≡ Some p → EndsAt c p p.stands t → (b : Bool) → eqb k i ≡ b → Found
        whose k u p is of ends true e = inr (inr (own u p (subst (λ (n : ℕ). calls n ≡ Some u) (eqb-true k i e) is) of ends))
        whose k u p is of ends false e = inr (inl (others t k u p is (λ same. (let yes = eq-eqb k i same in cc (yes, e))) of ends))

        by : IsOpen c t ⊎ AnyEnds t → Found
        by (inl uncounted) = inl uncounted
        by (inr (k, u, p, is, of, ends)) = whose k u p is of ends (eqb k i) refl

  -- as its call has become another, or has ended
  module _ (c : Chart K) (next : Option (UnderWay K V Q)) where
    abbrev calls2 : ℕ → Option (UnderWay K V Q)
    calls2 = with_at calls i next

    abbrev Ending : ℕ → Type 0
    Ending t = (k : ℕ) × (u : UnderWay K V Q) × (p : Copier) × (calls2 k ≡ Some u) × (copier_of u ≡ Some p) × EndsAt c p p.stands t

    by_own : (t : ℕ) → OwnEnds c (copier_then next) t → Ending t
    by_own t own = of_call next refl own
      where
        of_copier : (u : UnderWay K V Q) → next ≡ Some u → (o : Option Copier) → copier_of u ≡ o → OwnEnds c o t → Ending t
        of_copier u is (Some p) of ends = (i, u, p, at_same calls i next i refl ∙ is, of, ends)
        of_copier u is None of none = absurd none

        of_call : (o : Option (UnderWay K V Q)) → next ≡ o → OwnEnds c (copier_then o) t → Ending t
        of_call (Some u) is ends = of_copier u is (copier_of u) refl ends
        of_call None is none = absurd none

    by_others : (t : ℕ) → OthersEnd (AnotherAt at.Promotes) (AnotherAt at.Announces) c t → Ending t
    by_others t (inl (ahead, (k, u, p, is, other, of, here, turn))) =
        (k, u, p, at_other calls i next k other ∙ is, of, subst (λ (stands : Point). EndsAt c p stands t) (sym here) (turn, ahead))
    by_others t (inr (upto, (k, u, p, is, other, of, here, turn))) =
        (k, u, p, at_other calls i next k other ∙ is, of, subst (λ (stands : Point). EndsAt c p stands t) (sym here) (turn, upto))

    pub with_own : AllOrOwn c (copier_then next) → HaveEnds c calls2
    with_own all t some made unfinished = by (all t some made unfinished)
      where
        by : IsOpen c t ⊎ (OthersEnd (AnotherAt at.Promotes) (AnotherAt at.Announces) c t ⊎ OwnEnds c (copier_then next) t) → IsOpen c t ⊎ Ending t
        by (inl uncounted) = inl uncounted
        by (inr (inl others)) = inr (by_others t others)
        by (inr (inr own)) = inr (by_own t own)

  module _ (c d : Chart K) (next : Option (UnderWay K V Q)) (ends : HaveEnds c calls) where
    -- the tables stay as they are, and the caller's call was not to end a copying: it begins, asks or is told, takes a step of a row, or has ended
    pub keeps_still : ((t : ℕ) → OwnEnds c (copier_then (calls i)) t → ⊥) → HaveEnds c (with_at calls i next)
    keeps_still none =
        with_own c next (weaker (AnotherAt at.Promotes) (AnotherAt at.Announces) c (OwnEnds c (copier_then next)) (λ t some made unfinished. by t (as_own c ends t some made unfinished)))
      where
        by : (t : ℕ) → IsOpen c t ⊎ (OthersEnd (AnotherAt at.Promotes) (AnotherAt at.Announces) c t ⊎ OwnEnds c (copier_then (calls i)) t)
            → IsOpen c t ⊎ (OthersEnd (AnotherAt at.Promotes) (AnotherAt at.Announces) c t ⊎ ⊥)
        by t (inl uncounted) = inl uncounted
        by t (inr (inl others)) = inr (inl others)
        by t (inr (inr own)) = absurd (none t own)

    -- a step of a call that stands within no copier, or of none: after it none is to end a copying that was not
    pub keeps_beside : copier_then (calls i) ≡ None
        → (AllOr (AnotherAt at.Promotes) (AnotherAt at.Announces) c (λ t. ⊥) → AllOr (AnotherAt at.Promotes) (AnotherAt at.Announces) d (λ t. ⊥))
        → HaveEnds d (with_at calls i next)
    keeps_beside none on =
        with_own d next
        (weaker (AnotherAt at.Promotes) (AnotherAt at.Announces) d (OwnEnds d (copier_then next))
        (on (subst (λ (o : Option Copier). AllOrOwn c o) none (as_own c ends))))

    -- a step of the copier within which a call stands
    pub keeps_copying : (p q : Copier) → copier_then (calls i) ≡ Some p → (GoesOn : Type 0) → (GoesOn → copier_then next ≡ Some q)
        → (AllEnd (AnotherAt at.Promotes) (AnotherAt at.Announces) c p p.stands
        → AllOr (AnotherAt at.Promotes) (AnotherAt at.Announces) d (λ t. ⊥) ⊎ (GoesOn × AllEnd (AnotherAt at.Promotes) (AnotherAt at.Announces) d q q.stands))
        → HaveEnds d (with_at calls i next)
    keeps_copying p q within GoesOn goes on = by (on (subst (λ (o : Option Copier). AllOrOwn c o) within (as_own c ends)))
      where
        by : AllOr (AnotherAt at.Promotes) (AnotherAt at.Announces) d (λ t. ⊥) ⊎ (GoesOn × AllEnd (AnotherAt at.Promotes) (AnotherAt at.Announces) d q q.stands)
            → HaveEnds d (with_at calls i next)
        by (inl all) = with_own d next (weaker (AnotherAt at.Promotes) (AnotherAt at.Announces) d (OwnEnds d (copier_then next)) all)
        by (inr (on, all)) = with_own d next (subst (λ (o : Option Copier). AllOrOwn d o) (sym (goes on)) all)
