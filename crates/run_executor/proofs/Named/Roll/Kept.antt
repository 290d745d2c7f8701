-- What is counted of callers that are kept.
use Rattle.std.specs.Prelude.{◌+◌, nat_lt, ◌||◌, Option, Some, None, if◌then◌else◌}
use Rattle.std.specs.List.{list_any}
use Rattle.std.proofs.lemmas.Bool.{lt-ltb}
use Rattle.std.proofs.Common.{◌≡◌, ℕ, Bool, true, false, List, [], ◌∷◌, ◌++◌, length, refl, sym, ap, arith, ◌∙◌}
use Rattle.run_names.specs.Presence.Crowd.{kept, weigh}
use Rattle.run_executor.specs.Named.Roll.{newest}
use Rattle.run_executor.proofs.Named.Roll.Newest.{longer}
use Rattle.seize_words.proofs.General.{nothing_and as nothing_more}

module _ {T : Type 0} (p : T → Bool) where
  -- 1 for each that passes
  abbrev pub passing : T → ℕ
  passing t = if p t then 1 else 0

  any_more : (xs : List T) (t : T) → list_any p (xs ++ t ∷ []) ≡ (list_any p xs || p t)
  any_more [] t = by (p t)
    where
      by : (b : Bool) → (b || false) ≡ b
      by true = refl
      by false = refl
  any_more (x ∷ xs) t = ap (λ (b : Bool). p x || b) (any_more xs t) ∙ by (p x) (list_any p xs) (p t)
    where
      by : (a b c : Bool) → (a || (b || c)) ≡ ((a || b) || c)
      by true b c = refl
      by false b c = refl

  counted : (b : Bool) (n : ℕ) → nat_lt 0 ((if b then 1 else 0) + n) ≡ (nat_lt 0 n || b)
  counted true n = lt-ltb 0 (1 + n) (omega arith) ∙ by (nat_lt 0 n)
    where
      by : (c : Bool) → true ≡ (c || true)
      by true = refl
      by false = refl
  counted false n = ap (λ (k : ℕ). nat_lt 0 k) (nothing_more n) ∙ by (nat_lt 0 n)
    where
      by : (c : Bool) → c ≡ (c || false)
      by true = refl
      by false = refl

  -- some passes just where more than none are counted
  pub any_counted : (comers : List (Option T)) → nat_lt 0 (weigh passing (kept comers)) ≡ list_any p (newest comers)
  any_counted [] = refl
  any_counted (None ∷ comers) = any_counted comers
  any_counted (Some t ∷ comers) =
      counted (p t) (weigh passing (kept comers)) ∙ ap (λ (b : Bool). b || p t) (any_counted comers) ∙ sym (any_more (newest comers) t)

pub newest_length : {T : Type 0} (comers : List (Option T)) → length (newest comers) ≡ length (kept comers)
newest_length [] = refl
newest_length (None ∷ comers) = newest_length comers
newest_length (Some t ∷ comers) = let one = longer (newest comers) t in let rest = newest_length comers in omega (arith, one, rest)

-- where nobody is counted, nobody is there
pub nobody_there : {T : Type 0} (comers : List (Option T)) (l : List T) → newest comers ≡ l → length (kept comers) ≡ 0 → l ≡ []
nobody_there comers [] is none = refl
nobody_there comers (t ∷ l) is none = let two = newest_length comers ∙ none in let many = ap length is in absurd (omega (arith, two, many))
