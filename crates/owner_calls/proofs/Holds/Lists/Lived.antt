-- What was stored over the life of a map is held, or was given back.
use Rattle.std.specs.Prelude.{◌≡◌, List, [], ◌∷◌, ◌++◌, IsPermutation}
use Rattle.std.proofs.Common.{sym, ◌∙◌, ap, subst}
use Rattle.std.proofs.lemmas.List.{append-nil, append_assoc}
use Rattle.std.proofs.lemmas.List.Sorted.{IsPermutation-refl, IsPermutation-sym, IsPermutation-trans, IsPermutation-append_left, IsPermutation-append_right, IsPermutation-to_front}
use Rattle.owner_calls.specs.Holds.Held.{Balanced, begun, changed, KeptBalances, LivesHold}

pub kept_balances : (X : Type 0) → KeptBalances X
kept_balances X stored had before after (waiting, given, was, is) = (
  given,
  IsPermutation-trans (stored ++ before) (stored ++ (had ++ (waiting ++ given))) (after ++ given) (IsPermutation-append_right stored before (had ++ (waiting ++ given)) was)
      (subst (λ (l : List X). IsPermutation l (after ++ given)) grouped
      (IsPermutation-sym (after ++ given) ((stored ++ (had ++ waiting)) ++ given) (IsPermutation-append_left given after (stored ++ (had ++ waiting)) is))),
)
  where
    grouped : (stored ++ (had ++ waiting)) ++ given ≡ stored ++ (had ++ (waiting ++ given))
    grouped = append_assoc stored (had ++ waiting) given ∙ ap (λ (l : List X). stored ++ l) (append_assoc had waiting given)

module _ {X : Type 0} where
  -- one change after another
  one_more : (all held given stored after back : List X) → IsPermutation all (held ++ given) → IsPermutation (stored ++ held) (after ++ back) → IsPermutation (stored ++ all) (after ++ (back ++ given))
  one_more all held given stored after back before is =
      IsPermutation-trans (stored ++ all) (stored ++ (held ++ given)) (after ++ (back ++ given)) (IsPermutation-append_right stored all (held ++ given) before)
      (subst (λ (l : List X). IsPermutation l (after ++ (back ++ given))) (append_assoc stored held given)
      (subst (IsPermutation ((stored ++ held) ++ given)) (append_assoc after back given) (IsPermutation-append_left given (stored ++ held) (after ++ back) is)))

  -- what was stored before, and then one thing more
  pub balanced_more : (stored before now : List X) (x : X) (after : List X) → Balanced stored before now → Balanced (x ∷ []) now after → Balanced (stored ++ (x ∷ [])) before after
  balanced_more stored before now x after first later = (
    later.0 ++ first.0,
    IsPermutation-trans ((stored ++ (x ∷ [])) ++ before) ((x ∷ stored) ++ before) (after ++ (later.0 ++ first.0)) (IsPermutation-append_left before (stored ++ (x ∷ [])) (x ∷ stored) (IsPermutation-to_front stored x))
        (one_more (stored ++ before) now first.0 (x ∷ []) after later.0 first.1 later.1),
  )

  -- or nothing
  pub balanced_still : (stored before now after : List X) → Balanced stored before now → Balanced [] now after → Balanced stored before after
  balanced_still stored before now after first later = (later.0 ++ first.0, one_more (stored ++ before) now first.0 [] after later.0 first.1 later.1)

  pub balanced_first : (held : List X) → Balanced [] held held
  balanced_first held = ([], subst (IsPermutation held) (sym (append-nil held)) (IsPermutation-refl held))

pub lives_hold : (X : Type 0) → LivesHold X
lives_hold X _ _ (begun held) = balanced_first held
lives_hold X _ _ (changed all held life stored after later) =
    let first = lives_hold X all held life in (later.0 ++ first.0, one_more all held first.0 stored after later.0 first.1 later.1)
