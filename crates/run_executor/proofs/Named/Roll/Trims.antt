-- A list whose last places go, where nobody stands.
use Rattle.std.specs.Prelude.{take, Option, Some, None}
use Rattle.std.proofs.Common.{◌≡◌, ◌<◌, ℕ, zero, suc, List, [], ◌∷◌, ◌++◌, refl, sym, ap, arith}
use Rattle.run_names.specs.Presence.Crowd.{StandsAt, kept}
use Rattle.run_executor.specs.Named.Roll.{IsTrimmedAt, newest}

module _ {T : Type 0} where
  later : (x : Option T) (comers : List (Option T)) (length : ℕ) → IsTrimmedAt (suc length) (x ∷ comers) → IsTrimmedAt length comers
  later x comers length trimmed p t s = let h : suc p < suc length = trimmed (suc p) t s in omega (arith, h)

  none_behind : (x : Option T) (comers : List (Option T)) → IsTrimmedAt zero (x ∷ comers) → IsTrimmedAt zero comers
  none_behind x comers trimmed p t s = let h : suc p < zero = trimmed (suc p) t s in absurd (omega (arith, h))

  none_kept : (comers : List (Option T)) → IsTrimmedAt zero comers → kept comers ≡ []
  none_kept [] trimmed = refl
  none_kept (None ∷ comers) trimmed = none_kept comers (none_behind None comers trimmed)
  none_kept (Some t ∷ comers) trimmed = absurd (let h : zero < zero = trimmed zero t refl in omega (arith, h))

  none_newest : (comers : List (Option T)) → IsTrimmedAt zero comers → newest comers ≡ []
  none_newest [] trimmed = refl
  none_newest (None ∷ comers) trimmed = none_newest comers (none_behind None comers trimmed)
  none_newest (Some t ∷ comers) trimmed = absurd (let h : zero < zero = trimmed zero t refl in omega (arith, h))

  pub take_kept : (comers : List (Option T)) (length : ℕ) → IsTrimmedAt length comers → kept (take length comers) ≡ kept comers
  take_kept comers zero trimmed = sym (none_kept comers trimmed)
  take_kept [] (suc length) trimmed = refl
  take_kept (None ∷ comers) (suc length) trimmed = take_kept comers length (later None comers length trimmed)
  take_kept (Some t ∷ comers) (suc length) trimmed = ap (λ (l : List T). t ∷ l) (take_kept comers length (later (Some t) comers length trimmed))

  pub take_newest : (comers : List (Option T)) (length : ℕ) → IsTrimmedAt length comers → newest (take length comers) ≡ newest comers
  take_newest comers zero trimmed = sym (none_newest comers trimmed)
  take_newest [] (suc length) trimmed = refl
  take_newest (None ∷ comers) (suc length) trimmed = take_newest comers length (later None comers length trimmed)
  take_newest (Some t ∷ comers) (suc length) trimmed = ap (λ (l : List T). l ++ t ∷ []) (take_newest comers length (later (Some t) comers length trimmed))

  pub take_stands : (comers : List (Option T)) (length p : ℕ) (t : T) → StandsAt (take length comers) p t → StandsAt comers p t
  take_stands comers zero p t s = absurd (cc s)
  take_stands [] (suc length) p t s = s
  take_stands (x ∷ comers) (suc length) zero t s = s
  take_stands (x ∷ comers) (suc length) (suc p) t s = take_stands comers length p t s
