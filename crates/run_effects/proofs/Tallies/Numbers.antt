-- Numbers of pairs, ascending, each once.
use Rattle.std.specs.Prelude.{◌≡◌, ◌<◌, ◌≤◌, ◌+◌, ℕ, zero, suc, Bool, true, false, List, [], ◌∷◌, ◌++◌, length, drop, Some, None, IsSorted, slice_index_or, if◌then◌else◌}
use Rattle.std.specs.Ordering.{nat_cmp}
use Rattle.std.proofs.Common.{refl, sym, ap, subst, ◌∙◌, arith, append_assoc}
use Rattle.std.proofs.lemmas.Bool.{eq-eqb, ne_eqb}
use Rattle.std.proofs.lemmas.List.{append-nil, at_drop_all, at_drop_more}
use Rattle.run_schedules.specs.Runs.LifeCycle.{times}
use Rattle.run_schedules.specs.Schedules.Moment.{Place, Moment}
use Rattle.run_schedules.specs.Schedules.Moment as at
use Rattle.run_schedules.specs.Schedules.Runs.{Lists}
use Rattle.run_schedules.specs.Schedules.Views.{is_in_map, is_waiting}
use Rattle.run_effects.specs.Tallies.Tally.{RecordsMoment, numbers_at, passes, whereabouts_of}
use Rattle.run_effects.specs.declared.tally.Tally.{Tally}
use Rattle.run_effects.specs.declared.tally.Whereabouts.{Whereabouts}
use Rattle.run_effects.specs.declared.tally.Whereabouts.TheVariants.{Unborn}

abbrev pub once : Bool → ℕ
once true = 1
once false = 0

once_is : (b : Bool) → once b ≡ (if b then 1 else 0)
once_is true = refl
once_is false = refl

module _ (test : Whereabouts → Bool) (no : test Unborn ≡ false) where
  below : (ws : List Whereabouts) (i n : ℕ) → n < i → times n (numbers_at test i ws) ≡ 0
  below [] i n less = refl
  below (w ∷ ws) i n less = by (test w) (below ws (suc i) n (omega (arith, less)))
    where
      by : (b : Bool) → times n (numbers_at test (suc i) ws) ≡ 0 → times n (if b then i ∷ numbers_at test (suc i) ws else numbers_at test (suc i) ws) ≡ 0
      by true ih = ap (λ (q : Bool). (if q then 1 else 0) + times n (numbers_at test (suc i) ws)) (ne_eqb n i (λ e. omega (arith, less, e))) ∙ (let z = ih in omega (arith, z))
      by false ih = ih

  just_at : (ws : List Whereabouts) (i k n : ℕ) → n ≡ i + k → times n (numbers_at test i ws) ≡ once (test (slice_index_or ws k Unborn))
  just_at [] i k n is = sym (ap once no)
  just_at (w ∷ ws) i zero n is = by (test w) (below ws (suc i) n (omega (arith, is)))
    where
      by : (b : Bool) → times n (numbers_at test (suc i) ws) ≡ 0 → times n (if b then i ∷ numbers_at test (suc i) ws else numbers_at test (suc i) ws) ≡ once b
      by true none = ap (λ (q : Bool). (if q then 1 else 0) + times n (numbers_at test (suc i) ws)) (eq-eqb n i (omega (arith, is))) ∙ (let z = none in omega (arith, z))
      by false none = none
  just_at (w ∷ ws) i (suc k) n is = by (test w) (just_at ws (suc i) k n (omega (arith, is)))
    where
      by : (b : Bool) → times n (numbers_at test (suc i) ws) ≡ once (test (slice_index_or ws k Unborn))
          → times n (if b then i ∷ numbers_at test (suc i) ws else numbers_at test (suc i) ws) ≡ once (test (slice_index_or ws k Unborn))
      by true ih = ap (λ (q : Bool). (if q then 1 else 0) + times n (numbers_at test (suc i) ws)) (ne_eqb n i (λ e. omega (arith, is, e))) ∙ (let z = ih in omega (arith, z))
      by false ih = ih

  pub listed : (ws : List Whereabouts) (n : ℕ) → times n (numbers_at test 0 ws) ≡ (if test (slice_index_or ws n Unborn) then 1 else 0)
  listed ws n = just_at ws 0 n n (omega arith) ∙ once_is (test (slice_index_or ws n Unborn))

  -- they ascend
  abbrev Rises : ℕ → List ℕ → Type 0
  Rises low [] = Unit {0}
  Rises low (x ∷ xs) = (low ≤ x) × Rises (suc x) xs

  lower : (low high : ℕ) (xs : List ℕ) → low ≤ high → Rises high xs → Rises low xs
  lower low high [] less rises = tt
  lower low high (x ∷ xs) less rises = (let r = rises.0 in omega (arith, less, r), rises.1)

  rises : (ws : List Whereabouts) (i : ℕ) → Rises i (numbers_at test i ws)
  rises [] i = tt
  rises (w ∷ ws) i = by (test w) (rises ws (suc i))
    where
      by : (b : Bool) → Rises (suc i) (numbers_at test (suc i) ws) → Rises i (if b then i ∷ numbers_at test (suc i) ws else numbers_at test (suc i) ws)
      by true ih = (omega arith, ih)
      by false ih = lower i (suc i) (numbers_at test (suc i) ws) (omega arith) ih

  next_greater : (low : ℕ) (xs : List ℕ) → Rises low xs → (k d : ℕ) → k + 1 < length xs → slice_index_or xs k d < slice_index_or xs (k + 1) d
  next_greater low [] rises k d inside = absurd (omega (arith, inside))
  next_greater low (x ∷ []) rises k d inside = absurd (omega (arith, inside))
  next_greater low (x ∷ y ∷ xs) rises zero d inside = let r = rises.1.0 in omega (arith, r)
  next_greater low (x ∷ y ∷ xs) rises (suc k) d inside =
      let on : suc k + 1 ≡ suc (k + 1) = omega arith in
      subst (λ (j : ℕ). slice_index_or (x ∷ y ∷ xs) (suc k) d < slice_index_or (x ∷ y ∷ xs) j d) (sym on) (next_greater (suc x) (y ∷ xs) rises.1 k d (omega (arith, inside)))

  pub ascending : (ws : List Whereabouts) → IsSorted nat_cmp (numbers_at test 0 ws)
  ascending ws = λ k d from inside. let less = next_greater 0 (numbers_at test 0 ws) (rises ws 0) k d inside in grind (arith, less)

-- What is told of places is what they are.
in_map_told : (number : ℕ) (place : Place) → passes (Some number) (whereabouts_of place) ≡ is_in_map number place
in_map_told number at.Unborn = refl
in_map_told number (at.InMap map) = refl
in_map_told number at.Out = refl
in_map_told number at.Handed = refl
in_map_told number at.Behind = refl
in_map_told number at.Left = refl
in_map_told number at.GivenBack = refl

waiting_told : (place : Place) → passes None (whereabouts_of place) ≡ is_waiting place
waiting_told at.Unborn = refl
waiting_told (at.InMap map) = refl
waiting_told at.Out = refl
waiting_told at.Handed = refl
waiting_told at.Behind = refl
waiting_told at.Left = refl
waiting_told at.GivenBack = refl

module _ {K V : Type 0} (tally : Tally) (m : Moment K V) (tells : RecordsMoment tally m) where
  pub lists_map : (number : ℕ) → Lists (numbers_at (passes (Some number)) 0 tally.pairs.items) (is_in_map number) m
  lists_map number n =
      listed (passes (Some number)) refl tally.pairs.items n
      ∙ ap (λ (q : Bool). if q then 1 else 0) (ap (passes (Some number)) (tells.pairs n) ∙ in_map_told number (m.place n))

  pub lists_waiting : Lists (numbers_at (passes None) 0 tally.pairs.items) is_waiting m
  lists_waiting n = listed (passes None) refl tally.pairs.items n ∙ ap (λ (q : Bool). if q then 1 else 0) (ap (passes None) (tells.pairs n) ∙ waiting_told (m.place n))

-- One number after another.
module _ (test : Whereabouts → Bool) (all : List ℕ) (numbers : List ℕ) (ws : List Whereabouts) (i : ℕ) (x : Whereabouts) (inside : i < length ws) (is : x ≡ slice_index_or ws i x)
    (so_far : numbers ++ numbers_at test i (drop i ws) ≡ all) where
  left : numbers_at test i (drop i ws) ≡ numbers_at test i (x ∷ drop (i + 1) ws)
  left = at_drop_more (λ l. numbers_at test i l) ws i x inside ∙ ap (λ y. numbers_at test i (y ∷ drop (i + 1) ws)) (sym is)

  head : (b : Bool) → test x ≡ b → numbers_at test i (x ∷ drop (i + 1) ws) ≡ (if b then i ∷ numbers_at test (i + 1) (drop (i + 1) ws) else numbers_at test (i + 1) (drop (i + 1) ws))
  head b e =
      let on : suc i ≡ i + 1 = omega arith in
      ap (λ (c : Bool). if c then i ∷ numbers_at test (suc i) (drop (i + 1) ws) else numbers_at test (suc i) (drop (i + 1) ws)) e
      ∙ ap (λ (j : ℕ). if b then i ∷ numbers_at test j (drop (i + 1) ws) else numbers_at test j (drop (i + 1) ws)) on

  pub number_added : test x ≡ true → (new : List ℕ) → new ≡ numbers ++ i ∷ [] → new ++ numbers_at test (i + 1) (drop (i + 1) ws) ≡ all
  number_added so new more =
      ap (λ l. l ++ numbers_at test (i + 1) (drop (i + 1) ws)) more ∙ append_assoc numbers (i ∷ []) (numbers_at test (i + 1) (drop (i + 1) ws))
      ∙ ap (λ l. numbers ++ l) (sym (left ∙ head true so)) ∙ so_far

  pub number_passed : test x ≡ false → numbers ++ numbers_at test (i + 1) (drop (i + 1) ws) ≡ all
  number_passed so = ap (λ l. numbers ++ l) (sym (left ∙ head false so)) ∙ so_far

  pub number_noted : (new : List ℕ) → new ≡ (if test x then numbers ++ i ∷ [] else numbers) → new ++ numbers_at test (i + 1) (drop (i + 1) ws) ≡ all
  number_noted new is_new = by (test x) refl is_new
    where
      by : (b : Bool) → test x ≡ b → new ≡ (if b then numbers ++ i ∷ [] else numbers) → new ++ numbers_at test (i + 1) (drop (i + 1) ws) ≡ all
      by true so e = number_added so new e
      by false so e = ap (λ l. l ++ numbers_at test (i + 1) (drop (i + 1) ws)) e ∙ number_passed so

pub numbers_end : (test : Whereabouts → Bool) (all numbers : List ℕ) (ws : List Whereabouts) (i : ℕ) → length ws ≤ i → numbers ++ numbers_at test i (drop i ws) ≡ all → numbers ≡ all
numbers_end test all numbers ws i past so_far = sym (append-nil numbers) ∙ ap (λ l. numbers ++ l) (sym (at_drop_all (λ l. numbers_at test i l) ws i past)) ∙ so_far
