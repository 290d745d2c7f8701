-- Callers, the newest first: where one comes, is found, changes or leaves.
use Rattle.std.specs.Prelude.{◌<◌, ◌+◌, nat_lt, not, position, slice_get, slice_set, cond, ◌||◌, Option, Some, None}
use Rattle.std.specs.List.{list_any, position_or_len, remove}
use Rattle.std.proofs.lemmas.Bool.{lt-ltb, le-ltb}
use Rattle.std.proofs.Common.{◌≡◌, ℕ, zero, suc, Bool, true, false, List, [], ◌∷◌, ◌++◌, length, refl, sym, ap, arith, ◌∙◌}
use Rattle.run_names.specs.Presence.Crowd.{StandsAt}
use Rattle.run_executor.specs.Named.Roll.{newest}

module _ {T : Type 0} where
  pub newest_more : (comers : List (Option T)) (t : T) → newest (comers ++ (Some t ∷ [])) ≡ t ∷ newest comers
  newest_more [] t = refl
  newest_more (None ∷ comers) t = newest_more comers t
  newest_more (Some u ∷ comers) t = ap (λ (l : List T). l ++ u ∷ []) (newest_more comers t)

  -- so many are newer than the one at a place
  abbrev pub seat : List (Option T) → ℕ → ℕ
  seat [] place = 0
  seat (x ∷ comers) zero = length (newest comers)
  seat (x ∷ comers) (suc place) = seat comers place

  -- lists of which one is the last
  past_get : (xs : List T) (t : T) → slice_get (xs ++ t ∷ []) (length xs) ≡ Some t
  past_get [] t = refl
  past_get (x ∷ xs) t = past_get xs t

  past_set : (xs : List T) (t n : T) → slice_set (xs ++ t ∷ []) (length xs) n ≡ xs ++ n ∷ []
  past_set [] t n = refl
  past_set (x ∷ xs) t n = ap (λ (l : List T). x ∷ l) (past_set xs t n)

  past_gone : (xs : List T) (t : T) → remove (xs ++ t ∷ []) (length xs) ≡ xs
  past_gone [] t = refl
  past_gone (x ∷ xs) t = ap (λ (l : List T). x ∷ l) (past_gone xs t)

  -- and of which one stands before the last
  front_get : (xs : List T) (k : ℕ) (t u : T) → slice_get xs k ≡ Some t → slice_get (xs ++ u ∷ []) k ≡ Some t
  front_get [] k t u e = absurd (cc e)
  front_get (x ∷ xs) zero t u e = e
  front_get (x ∷ xs) (suc k) t u e = front_get xs k t u e

  front_set : (xs : List T) (k : ℕ) (t u n : T) → slice_get xs k ≡ Some t → slice_set (xs ++ u ∷ []) k n ≡ slice_set xs k n ++ u ∷ []
  front_set [] k t u n e = absurd (cc e)
  front_set (x ∷ xs) zero t u n e = refl
  front_set (x ∷ xs) (suc k) t u n e = ap (λ (l : List T). x ∷ l) (front_set xs k t u n e)

  front_gone : (xs : List T) (k : ℕ) (t u : T) → slice_get xs k ≡ Some t → remove (xs ++ u ∷ []) k ≡ remove xs k ++ u ∷ []
  front_gone [] k t u e = absurd (cc e)
  front_gone (x ∷ xs) zero t u e = refl
  front_gone (x ∷ xs) (suc k) t u e = ap (λ (l : List T). x ∷ l) (front_gone xs k t u e)

  the_one : (u t : T) → Some (Some u) ≡ Some (Some t) → u ≡ t
  the_one u t e = cc e

  pub seat_get : (comers : List (Option T)) (place : ℕ) (t : T) → StandsAt comers place t → slice_get (newest comers) (seat comers place) ≡ Some t
  seat_get [] place t s = absurd (cc s)
  seat_get (None ∷ comers) zero t s = absurd (cc s)
  seat_get (Some u ∷ comers) zero t s = past_get (newest comers) u ∙ ap (λ (x : T). Some x) (the_one u t s)
  seat_get (None ∷ comers) (suc place) t s = seat_get comers place t s
  seat_get (Some u ∷ comers) (suc place) t s = front_get (newest comers) (seat comers place) t u (seat_get comers place t s)

  pub seat_set : (comers : List (Option T)) (place : ℕ) (t n : T) → StandsAt comers place t
      → newest (slice_set comers place (Some n)) ≡ slice_set (newest comers) (seat comers place) n
  seat_set [] place t n s = absurd (cc s)
  seat_set (None ∷ comers) zero t n s = absurd (cc s)
  seat_set (Some u ∷ comers) zero t n s = sym (past_set (newest comers) u n)
  seat_set (None ∷ comers) (suc place) t n s = seat_set comers place t n s
  seat_set (Some u ∷ comers) (suc place) t n s =
      ap (λ (l : List T). l ++ u ∷ []) (seat_set comers place t n s) ∙ sym (front_set (newest comers) (seat comers place) t u n (seat_get comers place t s))

  pub seat_gone : (comers : List (Option T)) (place : ℕ) (t : T) → StandsAt comers place t
      → newest (slice_set comers place None) ≡ remove (newest comers) (seat comers place)
  seat_gone [] place t s = absurd (cc s)
  seat_gone (None ∷ comers) zero t s = absurd (cc s)
  seat_gone (Some u ∷ comers) zero t s = sym (past_gone (newest comers) u)
  seat_gone (None ∷ comers) (suc place) t s = seat_gone comers place t s
  seat_gone (Some u ∷ comers) (suc place) t s =
      ap (λ (l : List T). l ++ u ∷ []) (seat_gone comers place t s) ∙ sym (front_gone (newest comers) (seat comers place) t u (seat_get comers place t s))

  pub longer : (xs : List T) (t : T) → length (xs ++ t ∷ []) ≡ length xs + 1
  longer [] t = refl
  longer (x ∷ xs) t = omega (arith, longer xs t)

  -- where a test is passed, and where it is not
  module _ (p : T → Bool) where
    abbrev pub Fails : List (Option T) → Type 0
    Fails comers = (place : ℕ) (t : T) → StandsAt comers place t → p t ≡ false

    none_more : (xs : List T) (t : T) → list_any p xs ≡ false → p t ≡ false → list_any p (xs ++ t ∷ []) ≡ false
    none_more [] t none fails = ap (λ (b : Bool). b || false) fails
    none_more (x ∷ xs) t none fails = by (p x) none (λ h. none_more xs t h fails)
      where
        by : (b : Bool) → (b || list_any p xs) ≡ false → (list_any p xs ≡ false → list_any p (xs ++ t ∷ []) ≡ false) → (b || list_any p (xs ++ t ∷ [])) ≡ false
        by true h ih = absurd (cc h)
        by false h ih = ih h

    pub none_newest : (comers : List (Option T)) → Fails comers → list_any p (newest comers) ≡ false
    none_newest [] fails = refl
    none_newest (None ∷ comers) fails = none_newest comers (λ q. fails (suc q))
    none_newest (Some t ∷ comers) fails = none_more (newest comers) t (none_newest comers (λ q. fails (suc q))) (fails zero t refl)

    first_past : (xs : List T) (t : T) → list_any p xs ≡ false → p t ≡ true → position_or_len p (xs ++ t ∷ []) ≡ length xs
    first_past [] t none passes = ap (λ (b : Bool). cond (not b) 1 0) passes
    first_past (x ∷ xs) t none passes = by (p x) none (λ h. first_past xs t h passes)
      where
        by : (b : Bool) → (b || list_any p xs) ≡ false → (list_any p xs ≡ false → position_or_len p (xs ++ t ∷ []) ≡ length xs)
            → cond (not b) (1 + position_or_len p (xs ++ t ∷ [])) 0 ≡ length (x ∷ xs)
        by true h ih = absurd (cc h)
        by false h ih = omega (arith, ih h)

    first_front : (xs : List T) (t : T) → position_or_len p xs < length xs → position_or_len p (xs ++ t ∷ []) ≡ position_or_len p xs
    first_front [] t within = absurd (omega (arith, within))
    first_front (x ∷ xs) t within = by (p x) within (first_front xs t)
      where
        by : (b : Bool) → cond (not b) (1 + position_or_len p xs) 0 < length (x ∷ xs) → (position_or_len p xs < length xs → position_or_len p (xs ++ t ∷ []) ≡ position_or_len p xs)
            → cond (not b) (1 + position_or_len p (xs ++ t ∷ [])) 0 ≡ cond (not b) (1 + position_or_len p xs) 0
        by true w ih = refl
        by false w ih = ap (λ (n : ℕ). 1 + n) (ih (omega (arith, w)))

    first_none : (xs : List T) → list_any p xs ≡ false → position_or_len p xs ≡ length xs
    first_none [] none = refl
    first_none (x ∷ xs) none = by (p x) none (first_none xs)
      where
        by : (b : Bool) → (b || list_any p xs) ≡ false → (list_any p xs ≡ false → position_or_len p xs ≡ length xs) → cond (not b) (1 + position_or_len p xs) 0 ≡ length (x ∷ xs)
        by true h ih = absurd (cc h)
        by false h ih = omega (arith, ih h)

    -- none but the one at this place passes
    abbrev pub PassesAlone : List (Option T) → ℕ → Type 0
    PassesAlone comers place = (q : ℕ) (u : T) → StandsAt comers q u → p u ≡ true → q ≡ place

    fails_but : (x : Option T) (comers : List (Option T)) → PassesAlone (x ∷ comers) zero → Fails comers
    fails_but x comers alone q u s = by (p u) refl
      where
        by : (b : Bool) → p u ≡ b → b ≡ false
        by true e = absurd (let h : suc q ≡ zero = alone (suc q) u s e in omega (arith, h))
        by false e = refl

    seat_first : (comers : List (Option T)) (place : ℕ) (t : T) → StandsAt comers place t → p t ≡ true → PassesAlone comers place
        → (position_or_len p (newest comers) ≡ seat comers place) × (seat comers place < length (newest comers))
    seat_first [] place t s passes alone = absurd (cc s)
    seat_first (None ∷ comers) zero t s passes alone = absurd (cc s)
    seat_first (Some u ∷ comers) zero t s passes alone =
        let more = longer (newest comers) u in
        (first_past (newest comers) u (none_newest comers (fails_but (Some u) comers alone)) (ap p (the_one u t s) ∙ passes), omega (arith, more))
    seat_first (None ∷ comers) (suc place) t s passes alone =
        seat_first comers place t s passes (λ q u s2 e. let h : suc q ≡ suc place = alone (suc q) u s2 e in omega (arith, h))
    seat_first (Some u ∷ comers) (suc place) t s passes alone =
        let r = seat_first comers place t s passes (λ q v s2 e. let h : suc q ≡ suc place = alone (suc q) v s2 e in omega (arith, h)) in
        let more = longer (newest comers) u in
        (first_front (newest comers) u (omega (arith, r.0, r.1)) ∙ r.0, omega (arith, r.1, more))

    placed_at : (n l : ℕ) → n < l → cond (nat_lt n l) (Some n) None ≡ Some n
    placed_at n l less = ap (λ (b : Bool). cond b (Some n) None) (lt-ltb n l less)

    placed_out : (n l : ℕ) → n ≡ l → cond (nat_lt n l) (Some n) None ≡ None
    placed_out n l is = ap (λ (b : Bool). cond b (Some n) None) (le-ltb n l (omega (arith, is)))

    pub seat_position : (comers : List (Option T)) (place : ℕ) (t : T) → StandsAt comers place t → p t ≡ true → PassesAlone comers place
        → position p (newest comers) ≡ Some (seat comers place)
    seat_position comers place t s passes alone =
        let r = seat_first comers place t s passes alone in
        placed_at (position_or_len p (newest comers)) (length (newest comers)) (omega (arith, r.0, r.1)) ∙ ap (λ (n : ℕ). Some n) r.0

    pub no_position : (comers : List (Option T)) → Fails comers → position p (newest comers) ≡ None
    no_position comers fails =
        placed_out (position_or_len p (newest comers)) (length (newest comers)) (first_none (newest comers) (none_newest comers fails))
