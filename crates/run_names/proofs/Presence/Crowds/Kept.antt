-- The items that are there, where one of a name comes, is found, changes or leaves.
use Rattle.std.specs.Prelude.{find, filter, map, not, cond, slice_set, Option, Some, None}
use Rattle.std.proofs.Common.{◌≡◌, ℕ, zero, suc, ◌≤◌, Bool, true, false, List, [], ◌∷◌, ◌++◌, length, refl, sym, ap, arith, ◌∙◌}
use Rattle.run_schedules.specs.Runs.Same.{is_same}
use Rattle.run_schedules.proofs.Runs.Laws.{same_tells}
use Rattle.run_names.specs.Presence.Crowd.{IsAbsent, StandsAt, is_named, kept}

pub kept_more : {T : Type 0} (comers : List (Option T)) (t : T) → kept (comers ++ (Some t ∷ [])) ≡ kept comers ++ t ∷ []
kept_more [] t = refl
kept_more (None ∷ comers) t = kept_more comers t
kept_more (Some u ∷ comers) t = ap (λ l. u ∷ l) (kept_more comers t)

pub kept_few : {T : Type 0} (comers : List (Option T)) → length (kept comers) ≤ length comers
kept_few [] = omega arith
kept_few (None ∷ comers) = omega (arith, kept_few comers)
kept_few (Some u ∷ comers) = omega (arith, kept_few comers)

module _ {T : Type 0} (name_of : T → List ℕ) (name : List ℕ) where
  -- the item at this place alone may have the name
  abbrev pub IsAlone : List (Option T) → ℕ → Type 0
  IsAlone comers place = (p : ℕ) (t : T) → StandsAt comers p t → name_of t ≡ name → p ≡ place

  named : (t : T) → name_of t ≡ name → is_named name_of name t ≡ true
  named t e = ap (λ (l : List ℕ). is_same l name) e ∙ (same_tells name name).1 refl

  pub unnamed : (t : T) → (name_of t ≡ name → ⊥) → is_named name_of name t ≡ false
  unnamed t n = elim (is_named name_of name t) as (λ (b : Bool). is_named name_of name t ≡ b → b ≡ false) [
    | true ↦ λ h. absurd (n ((same_tells (name_of t) name).0 h))
    | false ↦ λ h. refl
  ] refl

  module _ (f : T → T) where
    abbrev pub changed : T → T
    changed t = cond (is_named name_of name t) (f t) t

    pub absent_changed : (comers : List (Option T)) → IsAbsent name_of name comers → map changed (kept comers) ≡ kept comers
    absent_changed [] absent = refl
    absent_changed (None ∷ comers) absent = absent_changed comers (λ p. absent (suc p))
    absent_changed (Some t ∷ comers) absent =
        ap (λ (b : Bool). cond b (f t) t ∷ map changed (kept comers)) (unnamed t (absent zero t refl))
        ∙ ap (λ (l : List T). t ∷ l) (absent_changed comers (λ p. absent (suc p)))

  pub absent_found : (comers : List (Option T)) → IsAbsent name_of name comers → find (is_named name_of name) (kept comers) ≡ None
  absent_found [] absent = refl
  absent_found (None ∷ comers) absent = absent_found comers (λ p. absent (suc p))
  absent_found (Some t ∷ comers) absent =
      ap (λ (b : Bool). cond b (Some t) (find (is_named name_of name) (kept comers))) (unnamed t (absent zero t refl))
      ∙ absent_found comers (λ p. absent (suc p))

  abbrev pub others : List T → List T
  others items = filter (λ t. not (is_named name_of name t)) items

  pub absent_left : (comers : List (Option T)) → IsAbsent name_of name comers → others (kept comers) ≡ kept comers
  absent_left [] absent = refl
  absent_left (None ∷ comers) absent = absent_left comers (λ p. absent (suc p))
  absent_left (Some t ∷ comers) absent =
      ap (λ (b : Bool). cond (not b) (t ∷ others (kept comers)) (others (kept comers))) (unnamed t (absent zero t refl))
      ∙ ap (λ (l : List T). t ∷ l) (absent_left comers (λ p. absent (suc p)))

  -- past the one of this name nobody has it
  past : (x : Option T) (comers : List (Option T)) → IsAlone (x ∷ comers) zero → IsAbsent name_of name comers
  past x comers alone p t s e = let h : suc p ≡ zero = alone (suc p) t s e in absurd (omega (arith, h))

  later : (x : Option T) (comers : List (Option T)) (place : ℕ) → IsAlone (x ∷ comers) (suc place) → IsAlone comers place
  later x comers place alone p t s e = let h : suc p ≡ suc place = alone (suc p) t s e in omega (arith, h)

  earlier : (t : T) (comers : List (Option T)) (place : ℕ) → IsAlone (Some t ∷ comers) (suc place) → name_of t ≡ name → ⊥
  earlier t comers place alone e = let h : zero ≡ suc place = alone zero t refl e in absurd (omega (arith, h))

  pub home_found : (comers : List (Option T)) (place : ℕ) (t : T) → StandsAt comers place t → name_of t ≡ name → IsAlone comers place
      → find (is_named name_of name) (kept comers) ≡ Some t
  home_found [] place t s e alone = absurd (cc s)
  home_found (None ∷ comers) zero t s e alone = absurd (cc s)
  home_found (Some u ∷ comers) zero t s e alone =
      let same : u ≡ t = cc s in
      ap (λ (b : Bool). cond b (Some u) (find (is_named name_of name) (kept comers))) (named u (ap name_of same ∙ e)) ∙ ap (λ (x : T). Some x) same
  home_found (None ∷ comers) (suc place) t s e alone = home_found comers place t s e (later None comers place alone)
  home_found (Some u ∷ comers) (suc place) t s e alone =
      ap (λ (b : Bool). cond b (Some u) (find (is_named name_of name) (kept comers))) (unnamed u (earlier u comers place alone))
      ∙ home_found comers place t s e (later (Some u) comers place alone)

  pub home_left : (comers : List (Option T)) (place : ℕ) (t : T) → StandsAt comers place t → name_of t ≡ name → IsAlone comers place
      → kept (slice_set comers place None) ≡ others (kept comers)
  home_left [] place t s e alone = absurd (cc s)
  home_left (None ∷ comers) zero t s e alone = absurd (cc s)
  home_left (Some u ∷ comers) zero t s e alone =
      let same : u ≡ t = cc s in
      sym (ap (λ (b : Bool). cond (not b) (u ∷ others (kept comers)) (others (kept comers))) (named u (ap name_of same ∙ e))
      ∙ absent_left comers (past (Some u) comers alone))
  home_left (None ∷ comers) (suc place) t s e alone = home_left comers place t s e (later None comers place alone)
  home_left (Some u ∷ comers) (suc place) t s e alone =
      ap (λ (l : List T). u ∷ l) (home_left comers place t s e (later (Some u) comers place alone))
      ∙ ap (λ (b : Bool). cond (not b) (u ∷ others (kept comers)) (others (kept comers))) (sym (unnamed u (earlier u comers place alone)))

  module _ (f : T → T) where
    pub home_changed : (comers : List (Option T)) (place : ℕ) (t : T) → StandsAt comers place t → name_of t ≡ name → IsAlone comers place
        → kept (slice_set comers place (Some (f t))) ≡ map (changed f) (kept comers)
    home_changed [] place t s e alone = absurd (cc s)
    home_changed (None ∷ comers) zero t s e alone = absurd (cc s)
    home_changed (Some u ∷ comers) zero t s e alone =
        let same : u ≡ t = cc s in
        ap (λ (x : T). f x ∷ kept comers) (sym same) ∙ ap (λ (l : List T). f u ∷ l) (sym (absent_changed f comers (past (Some u) comers alone)))
        ∙ ap (λ (b : Bool). cond b (f u) u ∷ map (changed f) (kept comers)) (sym (named u (ap name_of same ∙ e)))
    home_changed (None ∷ comers) (suc place) t s e alone = home_changed comers place t s e (later None comers place alone)
    home_changed (Some u ∷ comers) (suc place) t s e alone =
        ap (λ (l : List T). u ∷ l) (home_changed comers place t s e (later (Some u) comers place alone))
        ∙ ap (λ (b : Bool). cond b (f u) u ∷ map (changed f) (kept comers)) (sym (unnamed u (earlier u comers place alone)))
