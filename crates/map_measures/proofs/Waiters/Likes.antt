-- In blocking mode, a call that begins, is told, goes on in the same tables, or has ended, leaves each copying that is not over with who ends it.
use Rattle.std.specs.Prelude.{Option, Some, None}
use Rattle.std.proofs.Common.{◌≡◌, ◌≢◌, ℕ, ◌⊎◌, inl, inr, refl, sym, subst}
use Rattle.seize.specs.World.{with_at}
use Rattle.map_machines.specs.declared.copier.Copier.{Copier}
use Rattle.map_machines.specs.declared.copier.Copying.TheVariants as at
use Rattle.many_calls.specs.Given.RuleChart.{Chart}
use Rattle.map_machines.specs.declared.copier.Copying.{Copying as Point}
use Rattle.many_calls.specs.Together.{UnderWay}
use Rattle.map_measures.proofs.Waits.EndingCalls.{AnotherAt, OwnEnds, copier_then}
use Rattle.map_measures.specs.Waits.Others.{copier_of, EndsAt}
use Rattle.map_measures.specs.Waiters.Blocking.{AbortsAt, HaveEndsBlocking, SpentAt}
use Rattle.map_measures.proofs.Waiters.Spent.{IsUnspent, unspent_at}
use Rattle.map_measures.proofs.Waiters.Own.{EndingThen, OwnLoses, OwnSpent, as_own, with_own}
use Rattle.map_measures.proofs.Waiters.Moves.{none_either, or_own}

-- the copier, if there is one, is neither to end a copying nor to give one up
abbrev pub IsIdleAt : Point → Type 0
IsIdleAt at.Promotes = ⊥
IsIdleAt at.Announces = ⊥
IsIdleAt at.Aborts = ⊥
IsIdleAt _ = Unit {0}

abbrev pub IsIdleCopier : Option Copier → Type 0
IsIdleCopier None = Unit {0}
IsIdleCopier (Some p) = IsIdleAt p.stands

-- and has not found each place claimed, or is over
abbrev pub IsFreshCopier : Option Copier → Type 0
IsFreshCopier None = Unit {0}
IsFreshCopier (Some p) = IsUnspent p

pub idle_ends : {K : Type 0} (c : Chart K) (t : ℕ) (o : Option Copier) → IsIdleCopier o → OwnEnds c o t → ⊥
idle_ends c t None idle own = own
idle_ends c t (Some p) idle own = by p.stands idle own
  where
    by : (stands : Point) → IsIdleAt stands → EndsAt c p stands t → ⊥
    by at.Promotes idle own = idle
    by at.Announces idle own = idle
    by _ idle own = own

idle_loses : {K : Type 0} (c : Chart K) (t : ℕ) (o : Option Copier) → IsIdleCopier o → OwnLoses c o t → ⊥
idle_loses c t None idle own = own
idle_loses c t (Some p) idle own = by p.stands idle own
  where
    by : (stands : Point) → IsIdleAt stands → AbortsAt c p stands t → ⊥
    by at.Aborts idle own = idle
    by _ idle own = own

fresh_spent : {K : Type 0} (c : Chart K) (o : Option Copier) → IsFreshCopier o → OwnSpent c o
fresh_spent c None fresh = tt
fresh_spent c (Some p) fresh = unspent_at c p p.stands fresh

-- In the same tables: a call goes on within the copier within which it stood; or it was to do nothing for a copying, and begins so.
module _ {K V Q : Type 0} (c : Chart K) (calls : ℕ → Option (UnderWay K V Q)) (i : ℕ) (next : Option (UnderWay K V Q)) (all : HaveEndsBlocking c calls) where
  spent_before : OwnSpent c (copier_then (calls i))
  spent_before = of_call (calls i) refl
    where
      of_copier : (u : UnderWay K V Q) → calls i ≡ Some u → (o : Option Copier) → copier_of u ≡ o → OwnSpent c o
      of_copier u is None of = tt
      of_copier u is (Some p) of = all.spent i u is p of

      of_call : (o : Option (UnderWay K V Q)) → calls i ≡ o → OwnSpent c (copier_then o)
      of_call None is = tt
      of_call (Some u) is = of_copier u is (copier_of u) refl

  others_as_before : (k : ℕ) (u : UnderWay K V Q) (p : Copier) → calls k ≡ Some u → k ≢ i → copier_of u ≡ Some p → SpentAt c p p.stands
  others_as_before k u p is other of = all.spent k u is p of

  pub like_keeps_blocking : (copier_then next ≡ copier_then (calls i)) ⊎ (IsIdleCopier (copier_then (calls i)) × IsFreshCopier (copier_then next)) → HaveEndsBlocking c (with_at calls i next)
  like_keeps_blocking (inl e) =
      with_own calls i c next (subst (λ (o : Option Copier). EndingThen calls i c o) (sym e) (as_own calls i c all)) (subst (λ (o : Option Copier). OwnSpent c o) (sym e) spent_before) others_as_before
  like_keeps_blocking (inr (idle, fresh)) =
      with_own calls i c next
      (or_own P A G c (OwnEnds c (copier_then next)) (OwnLoses c (copier_then next))
      (none_either P A G c (OwnEnds c (copier_then (calls i))) (OwnLoses c (copier_then (calls i))) (λ t own. idle_ends c t (copier_then (calls i)) idle own)
      (λ t own. idle_loses c t (copier_then (calls i)) idle own) (as_own calls i c all)))
      (fresh_spent c (copier_then next) fresh) others_as_before
    where
      P : ℕ → Type 0
      P = AnotherAt calls i at.Promotes

      A : ℕ → Type 0
      A = AnotherAt calls i at.Announces

      G : ℕ → Type 0
      G = AnotherAt calls i at.Aborts
