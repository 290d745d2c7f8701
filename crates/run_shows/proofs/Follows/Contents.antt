-- Which pair has a number, of those that were stored.
use Rattle.std.specs.Prelude.{◌≡◌, ℕ, zero, suc, ◌+◌, ◌≤◌, List, [], ◌∷◌, ◌++◌, length, get_or, Some}
use Rattle.std.proofs.Common.{ap, ◌∙◌, arith}
use Rattle.std.proofs.lemmas.List.{length-append, get_or_append_left}
use Rattle.std.proofs.lemmas.Option.{slice_get_within, slice_get-get_or, get_or_from_slice_get}
use Rattle.std.proofs.Math.Seq.{get_or-append_seam}
use Rattle.run_effects.specs.Given.RunsLog.{pair_at}

module _ {K V : Type 0} where
  -- what was stored has its number still
  abbrev pub Lasts : List (K × V) → List (K × V) → Type 0
  Lasts before after = (n : ℕ) (p : K × V) → pair_at before n ≡ Some p → pair_at after n ≡ Some p

  pub lasts_same : (before after : List (K × V)) → after ≡ before → Lasts before after
  lasts_same before after same n p is = ap (λ (xs : List (K × V)). pair_at xs n) same ∙ is

  -- it is one of so many
  pub pair_within : (xs : List (K × V)) (n : ℕ) (p : K × V) → pair_at xs n ≡ Some p → n ≤ length xs
  pair_within xs zero p e = absurd (cc e)
  pair_within xs (suc i) p e = let l = slice_get_within xs i p e in omega (arith, l)

  -- more may follow
  pub lasts_more : (xs ys : List (K × V)) → Lasts xs (xs ++ ys)
  lasts_more xs ys zero p e = absurd (cc e)
  lasts_more xs ys (suc i) p e =
      let l = slice_get_within xs i p e in let many = length-append xs ys in
      slice_get-get_or (xs ++ ys) i p (omega (arith, l, many)) ∙ ap Some (get_or_append_left xs ys p i l ∙ get_or_from_slice_get xs i p p e)

  -- the one that follows has the next number
  pub pair_next : (xs : List (K × V)) (p : K × V) (n : ℕ) → n ≡ length xs + 1 → pair_at (xs ++ p ∷ []) n ≡ Some p
  pair_next xs p zero e = absurd (omega (arith, e))
  pair_next xs p (suc i) e =
      let many = length-append xs (p ∷ []) in let last : i ≡ length xs = omega (arith, e) in
      slice_get-get_or (xs ++ p ∷ []) i p (omega (arith, last, many)) ∙ ap Some (ap (λ (x : ℕ). get_or (xs ++ p ∷ []) x p) last ∙ get_or-append_seam xs p [] p)
