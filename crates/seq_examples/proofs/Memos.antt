-- What the laws of the map's pairs say of a memo whose pairs are right.
use Rattle.std.specs.Prelude.{◌≡◌, ◌∷◌, ◌++◌, ◌%◌, ◌^◌, ℕ, List, [], IfSome, IfErr, OnErr, Result, Err, nat_eq, option_map}
use Rattle.std.specs.List.Sorted.{IsPermutation}
use Rattle.std.proofs.Common.{ap, subst, sym, ◌∙◌}
use Rattle.std.proofs.lemmas.Bool.{eqb-true}
use Rattle.papaya_seq.specs.Pairs.{found_by, left_by}
use Rattle.papaya_seq.specs.Each.{put_are_so, value_is_so}
use Rattle.seq_examples.specs.Fibonacci.{fibonacci, IsRight, AreRight}

-- the number that is found at a place, if one is, is the one at this place
pub found_right : (n : ℕ) (xs : List (ℕ × ℕ)) → AreRight xs → IfSome (option_map (λ x. x.1) (found_by (nat_eq n) xs)) (λ number. number ≡ fibonacci n % 2 ^ 64)
found_right n xs = value_is_so IsRight (λ number. number ≡ fibonacci n % 2 ^ 64) (nat_eq n) xs (λ x same its. its ∙ ap (λ place. fibonacci place % 2 ^ 64) (sym (eqb-true n x.0 same)))

-- one more that is right is put in the place of that of its key
pub put_right : (x : ℕ × ℕ) (xs ys : List (ℕ × ℕ)) → IsRight x → AreRight xs → IsPermutation ys (left_by (nat_eq x.0) xs ++ (x ∷ [])) → AreRight ys
put_right x = put_are_so IsRight (nat_eq x.0) x

-- what is so where a call was refused
pub err_of : {T E : Type 0} (Q : E → Type 0) (r : Result T E) (e : E) → r ≡ Err e → OnErr r (IfErr r Q) → Q e
err_of {T} {E} Q r e is so = subst (λ (q : Result T E). OnErr q (IfErr q Q)) is so
