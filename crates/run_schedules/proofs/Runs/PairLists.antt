-- Lists of pairs with the places of their numbers.
use Rattle.std.proofs.Common.{◌≡◌, ℕ, zero, suc, ◌<◌, ◌≤◌, List, [], ◌∷◌, ◌++◌, length, Option, Some, None, refl, sym, ap, ◌∙◌, arith, inl, inr, eq-eqb, true, false}
use Rattle.std.specs.Prelude.{◌==◌, ◌≢◌, ◌⊎◌, find, slice_get, slice_index_or, slice_set}
use Rattle.std.specs.Option.{is_none, option_or}
use Rattle.std.proofs.lemmas.Bool.{cases_eq, ne_eqb}
use Rattle.std.proofs.lemmas.Grind.{get_or-set_at}
use Rattle.std.proofs.lemmas.List.{get_or-set_other, get_or_default}
use Rattle.std.proofs.lemmas.List.Folds.{find-append}
use Rattle.run_schedules.specs.declared.ended.Pair.{Pair}
use Rattle.run_schedules.specs.Runs.PairPlaces.{ArePlaces}

at_append : {X : Type 0} → (xs ys : List X) (i : ℕ) (x : X) → slice_get xs i ≡ Some x → slice_get (xs ++ ys) i ≡ Some x
at_append [] ys i x at = absurd (cc)
at_append (y ∷ xs) ys zero x at = at
at_append (y ∷ xs) ys (suc i) x at = at_append xs ys i x at

at_end : {X : Type 0} → (xs : List X) (x : X) → slice_get (xs ++ x ∷ []) (length xs) ≡ Some x
at_end [] x = refl
at_end (y ∷ xs) x = at_end xs x

-- what was read at a place
pub none_there : (places : List (Option ℕ)) (n : ℕ) (o : Option ℕ) → o ≡ slice_index_or places n o → is_none o ≡ true → slice_index_or places n None ≡ None
none_there places n None at is = sym at
none_there places n (Some x) at is = absurd (cc)

pub some_there : (places : List (Option ℕ)) (n : ℕ) (o : Option ℕ) → o ≡ slice_index_or places n o → is_none o ≡ false → n < length places
    → (place : ℕ) × (slice_index_or places n None ≡ Some place)
some_there places n None at is within = absurd (cc)
some_there places n (Some x) at is within = (x, get_or_default places n None (Some x) within ∙ sym at)

pub none_left : {X : Type 0} → (xs : List X) → length xs ≤ 0 → xs ≡ []
none_left [] none = refl
none_left (x ∷ xs) none = absurd (omega (arith, none))

module _ {K V : Type 0} where
  -- more room for places
  pub places_same : (pairs : List (Pair K V)) (places more : List (Option ℕ)) → ArePlaces pairs places
      → ((n : ℕ) → slice_index_or more n None ≡ slice_index_or places n None) → ArePlaces pairs more
  places_same pairs places more are same = record {
    found = λ n place at. are.found n place (sym (same n) ∙ at);
    missed = λ n at. are.missed n (sym (same n) ∙ at);
  }

  module _ (pairs : List (Pair K V)) (places : List (Option ℕ)) (are : ArePlaces pairs places) (pair : Pair K V) where
    found_still : (n place : ℕ) → slice_index_or places n None ≡ Some place
        → (q : Pair K V) × (slice_get (pairs ++ pair ∷ []) place ≡ Some q) × (find (λ p. p.number == n) (pairs ++ pair ∷ []) ≡ Some q)
    found_still n place at =
        let f = are.found n place at in
        (f.0, at_append pairs (pair ∷ []) place f.0 f.1, find-append (λ p. p.number == n) pairs (pair ∷ []) ∙ ap (λ o. option_or o (find (λ p. p.number == n) (pair ∷ []))) f.2)

    missed_still : (n : ℕ) → slice_index_or places n None ≡ None → pair.number ≢ n → find (λ p. p.number == n) (pairs ++ pair ∷ []) ≡ None
    missed_still n at other =
        let none : find (λ p. p.number == n) (pair ∷ []) ≡ None = rw (ne_eqb pair.number n other) refl in
        find-append (λ p. p.number == n) pairs (pair ∷ []) ∙ ap (λ o. option_or o (find (λ p. p.number == n) (pair ∷ []))) (are.missed n at) ∙ none

    -- a pair of a number that has one already
    pub places_kept : (place : ℕ) → slice_index_or places pair.number None ≡ Some place → ArePlaces (pairs ++ pair ∷ []) places
    places_kept place there = record {
      found = found_still;
      missed = λ n at. missed_still n at (λ e. absurd (let s : slice_index_or places n None ≡ Some place = rw e at there in cc (s, at)));
    }

    -- the first pair of its number
    pub places_pushed : slice_index_or places pair.number None ≡ None → pair.number < length places
        → ArePlaces (pairs ++ pair ∷ []) (slice_set places pair.number (Some (length pairs)))
    places_pushed none within = record {
      found = λ n place at. found_at n place at (cases_eq n pair.number);
      missed = λ n at. missed_at n at (cases_eq n pair.number);
    }
      where
        first : find (λ p. p.number == pair.number) (pairs ++ pair ∷ []) ≡ Some pair
        first =
            let one : find (λ p. p.number == pair.number) (pair ∷ []) ≡ Some pair = rw (eq-eqb pair.number pair.number refl) refl in
            find-append (λ p. p.number == pair.number) pairs (pair ∷ []) ∙ ap (λ o. option_or o (find (λ p. p.number == pair.number) (pair ∷ []))) (are.missed pair.number none) ∙ one

        here : slice_index_or (slice_set places pair.number (Some (length pairs))) pair.number None ≡ Some (length pairs)
        here = get_or-set_at places pair.number pair.number (Some (length pairs)) None refl within

        found_at : (n place : ℕ) → slice_index_or (slice_set places pair.number (Some (length pairs))) n None ≡ Some place → (n ≡ pair.number) ⊎ (n ≢ pair.number)
            → (q : Pair K V) × (slice_get (pairs ++ pair ∷ []) place ≡ Some q) × (find (λ p. p.number == n) (pairs ++ pair ∷ []) ≡ Some q)
        found_at n place at (inl e) =
            let s : Some (length pairs) ≡ Some place = sym here ∙ rw e at at in
            let p : length pairs ≡ place = cc s in
            (pair, rw (← p) (at_end pairs pair), rw e first)
        found_at n place at (inr other) =
            found_still n place (sym (get_or-set_other places pair.number n (Some (length pairs)) None other) ∙ at)

        missed_at : (n : ℕ) → slice_index_or (slice_set places pair.number (Some (length pairs))) n None ≡ None → (n ≡ pair.number) ⊎ (n ≢ pair.number)
            → find (λ p. p.number == n) (pairs ++ pair ∷ []) ≡ None
        missed_at n at (inl e) = absurd (let s : slice_index_or (slice_set places pair.number (Some (length pairs))) pair.number None ≡ None = rw e at at in cc (s, here))
        missed_at n at (inr other) =
            missed_still n (sym (get_or-set_other places pair.number n (Some (length pairs)) None other) ∙ at) (λ e. other (sym e))
