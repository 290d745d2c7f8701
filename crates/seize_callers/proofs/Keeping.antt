-- What stays of a seat on an errand.
use Rattle.std.specs.Prelude.{ℕ, Some, None, true}
use Rattle.std.proofs.Common.{◌≡◌, ap, refl, ◌∙◌}
use Rattle.seize_seats.specs.Seats.Errands.{Away}
use Rattle.seize_callers.specs.Kept.{kept, is_home}

pub still_kept : {B N A : Type 0} {i j : ℕ} {a d : A} (b : B) (n : N) → i ≡ j → a ≡ d → kept b n i a ≡ kept b n j d
still_kept {j = j} {a = a} b n e f = ap (λ k. kept b n k a) e ∙ ap (kept b n j) f

pub kept_same : {B N A : Type 0} (b c : B) (n m : N) (i j : ℕ) (a d : A) → kept b n i a ≡ kept c m j d → (b ≡ c) × (n ≡ m) × (i ≡ j) × (a ≡ d)
unfolding kept
kept_same b c n m i j a d e = (ap (λ k. k.blocks) e, ap (λ k. k.name) e, ap (λ k. k.id) e, ap (λ k. k.away) e)

-- who is at home is on no errand
pub none_away : (a : Away) → is_home a ≡ true → a ≡ None
none_away None home = refl
none_away (Some q) home = absurd (cc home)
