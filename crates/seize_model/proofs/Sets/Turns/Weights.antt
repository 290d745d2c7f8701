-- What a block puts weighs less than it: what is behind another has nothing behind itself.
use Rattle.std.specs.Prelude.{Option}
use Rattle.std.proofs.Common.{◌≡◌, ℕ, suc, ◌+◌, Bool, true, false, cond, eqb, List, [], ◌∷◌, length, refl, sym, ap, arith, ◌∙◌}
use Rattle.seize.specs.declared.states.TheConstants.{LAST_SLOT}
use Rattle.seize.specs.WaitingSets.{Sets, further_of, all_changed, at_start as sets_at_start}
use Rattle.seize.specs.World.{at_start}
use Rattle.seize.specs.Sequence.{weight_of_all, FurtherWeighLess}
use Rattle.seize_rule.specs.Given.SeizeWaitingHeld.{same, count}
use Rattle.seize_rule.proofs.Given.SeizeMovesState.Ghost.{Life, IsFree, IsOwned, IsLinked, IsUnlinked, IsDeferring, IsDeferred, IsPending, IsIn, IsDoomed, IsLeft, is_deferred, lies_with}
use Rattle.seize_rule.proofs.Given.SeizeMovesState.Rule.{AllDeferred, Carries}
use Rattle.seize_model.proofs.Sets.Turns.All.{turns_shown, start_shown}

-- a block on the list of another lies with it
lies : (t : ℕ) (l : Life) → (is_deferred t l ≡ 0 → ⊥) → lies_with t l ≡ true
lies t IsFree ne = absurd (ne refl)
lies t (IsOwned i) ne = absurd (ne refl)
lies t IsLinked ne = absurd (ne refl)
lies t (IsUnlinked i) ne = absurd (ne refl)
lies t (IsDeferring i s u) ne = absurd (ne refl)
lies t (IsDeferred u) ne = by (eqb t u) ne
  where
    by : (y : Bool) → (◌≡◌ {A = ℕ} (cond y 1 0) 0 → ⊥) → y ≡ true
    by true ne = refl
    by false ne = absurd (ne refl)
lies t (IsPending i) ne = absurd (ne refl)
lies t (IsIn x) ne = absurd (ne refl)
lies t (IsDoomed i) ne = absurd (ne refl)
lies t (IsLeft i) ne = absurd (ne refl)

module _ (deferred : ℕ → List ℕ) (life : ℕ → Life) (carrier : ℕ → Bool) (all : AllDeferred deferred life) (carries : Carries carrier life) where
  on_list : (t c : ℕ) → (count c (deferred t) ≡ 0 → ⊥) → (carrier c ≡ false) × (carrier t ≡ true)
  on_list t c ne =
      let k = carries c t (lies t (life c) (λ z. ne (all t c ∙ z))) in
      (k.0, k.1)

  -- what is on a list has none
  bare : (t c : ℕ) → (count c (deferred t) ≡ 0 → ⊥) → deferred c ≡ []
  bare t c ne = by (deferred c) refl
    where
      by : (l : List ℕ) → deferred c ≡ l → l ≡ []
      by [] e = refl
      by (d ∷ l) e = absurd (
          let some : count d (deferred c) ≡ suc (count d l) = ap (λ (k : List ℕ). count d k) e ∙ (let z : same d d ≡ 1 = grind arith in omega (arith, z)) in
          let up = on_list c d (λ z. absurd (omega (arith, some, z))) in
          let down = on_list t c ne in
          let no : false ≡ true = sym down.0 ∙ up.1 in
          cc no)

-- of numbers that have nothing behind them, each weighs one
ones : (w : Sets) (numbers : List ℕ) → ((c : ℕ) → (count c numbers ≡ 0 → ⊥) → further_of c w.further ≡ []) → weight_of_all numbers w ≡ length numbers
ones w [] h = refl
ones w (n ∷ numbers) h =
    let first : length (further_of n w.further) ≡ 0 = ap (λ (l : List ℕ). length l) (h n (λ z. absurd (let one : same n n ≡ 1 = grind arith in omega (arith, z, one)))) in
    let ih = ones w numbers (λ c ne. h c (λ z. ne (omega (arith, z)))) in
    omega (arith, first, ih)

pub further_weigh_less : {T : Type 0} (defers : T → Option ℕ) → FurtherWeighLess defers
further_weigh_less defers size roots turns w before b word turned =
    let n = LAST_SLOT + 1 in
    let shown = turns_shown defers n size refl word turns (at_start defers roots) w before sets_at_start (start_shown defers n size refl word roots) turned in
    let sets = (all_changed size before sets_at_start).sets in
    let m = shown.rested.good.state in
    let places = shown.rested.good.inv.places in
    let put = shown.models.put in
    let all = ones sets (further_of b sets.further)
    (λ c ne. put c ∙ bare m.deferred m.life m.carrier places.all_deferred places.carries b c (λ z. ne (ap (λ (l : List ℕ). count c l) (put b) ∙ z))) in
    omega (arith, all)
