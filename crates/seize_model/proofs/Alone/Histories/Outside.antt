-- A slot that somebody is inside is an active one, and one that is outside is none of them.
use Rattle.std.specs.Prelude.{Option}
use Rattle.std.proofs.Common.{◌≡◌, ℕ, zero, suc, ◌+◌, ◌<◌, ◌≤◌, ◌^◌, Bool, true, false, cond, eqb, List, [], ◌∷◌, ◌++◌, inl, inr, refl, sym, ap, subst, arith, eqb-true, ◌∙◌}
use Rattle.std.proofs.lemmas.Bool.{cases_lt, eq-eqb}
use Rattle.seize.specs.Given.SeizeWordsMem.{Mem}
use Rattle.seize.specs.declared.states.TheConstants.{LAST_SLOT}
use Rattle.seize.specs.WaitingSets.{all_changed, at_start as sets_at_start}
use Rattle.seize.specs.World.{Use, Vacant, Outside, Inside, Changing, IsInside, at_start}
use Rattle.seize_rule.specs.Given.SeizeWaitingHeld.{count}
use Rattle.seize_rule.proofs.Given.SeizeWaitingCounts.{count-append}
use Rattle.seize_model.specs.Alone.Alone.{History, IsHistory, at_rest}
use Rattle.seize_rule.proofs.Given.SeizeMovesState.Ghost.{is_active}
use Rattle.seize_rule.proofs.Given.SeizeMovesSets.Shown.{ascending}
use Rattle.seize_model.proofs.Sets.Turns.Heads.{no_team}
use Rattle.seize_model.proofs.Sets.Turns.All.{turns_shown, start_shown}
use Rattle.seize_model.proofs.Sets.Turns.Begins.{Shown}
use Rattle.seize_model.proofs.Sets.Reclaims.Sets.{is_inside, active_inside}

-- a number that does not pass the test is not among those that do
pub not_ascending : (p : ℕ → Bool) (n s : ℕ) → p s ≡ false → count s (ascending p n) ≡ 0
not_ascending p zero s e = refl
not_ascending p (suc n) s e = at (p n) refl (not_ascending p n s e)
  where
    other : p n ≡ true → (b : Bool) → (b ≡ true → s ≡ n) → cond b 1 0 + 0 ≡ 0
    other k true h = absurd (let c : true ≡ false = sym k ∙ ap p (sym (h refl)) ∙ e in cc c)
    other k false h = refl

    at : (b : Bool) → p n ≡ b → count s (ascending p n) ≡ 0 → count s (ascending p n ++ cond b (n ∷ []) []) ≡ 0
    at true k ih = let a = count-append s (ascending p n) (n ∷ []) in let b = other k (eqb s n) (eqb-true s n) in omega (arith, a, b, ih)
    at false k ih = let a = count-append s (ascending p n) [] in omega (arith, a, ih)

-- a number that passes the test is among those that do
in_ascending : (p : ℕ → Bool) (n s : ℕ) → s < n → p s ≡ true → 1 ≤ count s (ascending p n)
in_ascending p zero s l e = absurd (omega (arith, l))
in_ascending p (suc n) s l e = elim (cases_lt s n) as (λ _. 1 ≤ count s (ascending p n ++ cond (p n) (n ∷ []) [])) [
  | inl less ↦ (let a = count-append s (ascending p n) (cond (p n) (n ∷ []) []) in let ih = in_ascending p n s less e in omega (arith, a, ih))
  | inr more ↦ (let is : s ≡ n = omega (arith, l, more) in
      let last : 1 ≤ count s (cond (p n) (n ∷ []) []) =
      subst (λ (b : Bool). 1 ≤ count s (cond b (n ∷ []) [])) (sym e ∙ ap p is) (let k = eq-eqb s n is in subst (λ (b : Bool). 1 ≤ cond b 1 0 + 0) (sym k) (omega arith)) in
      let a = count-append s (ascending p n) (cond (p n) (n ∷ []) []) in omega (arith, a, last))
]

module _ {T : Type 0} (defers : T → Option ℕ) (batch_size roots : ℕ) (m : Mem T) (h : History) (had : IsHistory defers batch_size roots m h) (word : batch_size < 2 ^ 64) where
  shown : Shown defers (LAST_SLOT + 1) batch_size (at_rest defers m h) (all_changed batch_size h.before sets_at_start).sets
  shown =
      turns_shown defers (LAST_SLOT + 1) batch_size refl word had.0 (at_start defers roots) (at_rest defers m h) h.before sets_at_start
      (start_shown defers (LAST_SLOT + 1) batch_size refl word roots) had.1

  pub outside_inactive : (s : ℕ) → h.uses s ≡ Outside 0 → count s (all_changed batch_size h.before sets_at_start).sets.active ≡ 0
  outside_inactive s e =
      sym (ap (count s) shown.models.active)
      ∙ not_ascending (λ t. is_active (shown.rested.good.state.head t)) (LAST_SLOT + 1) s
      (active_inside (h.uses s) (shown.rested.good.state.head s) _ _ (no_team defers (LAST_SLOT + 1) batch_size refl (at_rest defers m h) shown.rested s) (shown.rested.good.used.fits s)
      ∙ ap is_inside e)

  -- a slot that somebody is inside is an active one
  pub inside_active : (s : ℕ) → IsInside (h.uses s) → 1 ≤ count s (all_changed batch_size h.before sets_at_start).sets.active
  inside_active s inside =
      subst (λ (l : List ℕ). 1 ≤ count s l) shown.models.active (in_ascending (λ t. is_active (shown.rested.good.state.head t)) (LAST_SLOT + 1) s low active)
    where
      is_in : (u : Use) → IsInside u → is_inside u ≡ true
      is_in Vacant k = absurd k
      is_in (Outside j) k = absurd k
      is_in (Inside j) k = refl
      is_in Changing k = absurd k

      active : is_active (shown.rested.good.state.head s) ≡ true
      active =
          active_inside (h.uses s) (shown.rested.good.state.head s) _ _ (no_team defers (LAST_SLOT + 1) batch_size refl (at_rest defers m h) shown.rested s) (shown.rested.good.used.fits s)
          ∙ is_in (h.uses s) inside

      low : s < LAST_SLOT + 1
      low = elim (cases_lt s (LAST_SLOT + 1)) as (λ _. s < LAST_SLOT + 1) [
        | inl l ↦ l
        | inr l ↦ (let q = shown.rested.good.inv.slots.outside s l in let z : true ≡ false = sym active ∙ ap is_active q in absurd (cc z))
      ]
