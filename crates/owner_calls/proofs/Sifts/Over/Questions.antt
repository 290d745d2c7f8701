-- What was answered about pairs with numbers, where the answer about a pair is whether its number is kept; and a closure that answers by a test.
use Rattle.std.specs.Prelude.{◌≡◌, ℕ, Bool, true, false, cond, List, [], ◌∷◌, map, filter, All}
use Rattle.std.proofs.Common.{refl, ◌∙◌, ap}
use Rattle.std.proofs.lemmas.List.Elements.{All-nil, All-cons, All-head, All-tail}
use Rattle.std.proofs.lemmas.List.Sorted.{All-permutation}
use denote.Ref.{Bor}
use Rattle.std.specs.Fn.{Mut}
use Rattle.owner_whole.specs.Whole.SweptPairs.{those, is_done}
use Rattle.owner_calls.specs.Sifts.Retaining.{AskedAbout, AskedAlong, KeepsOf, AnswersByTest}

module _ {X : Type 0} where
  -- a pair, with the answer about it
  abbrev pub answered_by : List ℕ → ℕ × X → X × Bool
  answered_by done y = (y.1, is_done done y.0)

  -- where just the numbers of others are kept besides, the answers are the same
  pub same_answers : (done done2 : List ℕ) (ys : List (ℕ × X)) → All (λ (y : ℕ × X). is_done done2 y.0 ≡ is_done done y.0) ys → map (answered_by done2) ys ≡ map (answered_by done) ys
  same_answers done done2 [] all = refl
  same_answers done done2 (y ∷ ys) all =
      ap {B = List (X × Bool)} (λ (b : Bool). (y.1, b) ∷ map (answered_by done2) ys) (All-head (λ (z : ℕ × X). is_done done2 z.0 ≡ is_done done z.0) y ys all)
      ∙ ap (λ (l : List (X × Bool)). answered_by done y ∷ l) (same_answers done done2 ys (All-tail (λ (z : ℕ × X). is_done done2 z.0 ≡ is_done done z.0) y ys all))

  -- without the answers
  pub pairs_answered : (done : List ℕ) (ys : List (ℕ × X)) → map (λ (z : X × Bool). z.0) (map (answered_by done) ys) ≡ map (λ (y : ℕ × X). y.1) ys
  pairs_answered done [] = refl
  pairs_answered done (y ∷ ys) = ap (λ (l : List X). y.1 ∷ l) (pairs_answered done ys)

  -- those whose numbers are kept are those about which the answer is `true`
  pub pairs_kept : (done : List ℕ) (ys : List (ℕ × X)) → map (λ (y : ℕ × X). y.1) (those (is_done done) ys) ≡ map (λ (z : X × Bool). z.0) (filter (λ (z : X × Bool). z.1) (map (answered_by done) ys))
  pairs_kept done [] = refl
  pairs_kept done (y ∷ ys) = by (is_done done y.0) (those (is_done done) ys) (filter (λ (z : X × Bool). z.1) (map (answered_by done) ys)) (pairs_kept done ys)
    where
      by : (b : Bool) (rest : List (ℕ × X)) (told : List (X × Bool)) → map (λ (x : ℕ × X). x.1) rest ≡ map (λ (z : X × Bool). z.0) told
          → map (λ (x : ℕ × X). x.1) (cond b (y ∷ rest) rest) ≡ map (λ (z : X × Bool). z.0) (cond b (answered_by done y ∷ told) told)
      by true rest told e = ap (λ (l : List X). y.1 ∷ l) e
      by false rest told e = e

-- A closure that answers by a test keeps the pairs that pass it.
module _ {F K V : Type 0} (g : Mut F (Bor K × (Bor V × Unit {0})) Bool) (test : K → V → Bool) where
  abbrev ByTest : (K × V) × Bool → Type 0
  ByTest y = y.1 ≡ test y.0.0 y.0.1

  asked_by_test : (f : F) → AnswersByTest g test f → (asked : List ((K × V) × Bool)) (last : F) → AskedAlong g f asked last → All ByTest asked
  asked_by_test f by_test [] last along = All-nil ByTest
  asked_by_test f by_test (y ∷ asked) last along =
      All-cons ByTest y asked (one along.1) (asked_by_test along.0 (record { at = λ others. (by_test.at (about along.1 ∷ others) y.1 along.0 along.1.called).1 }) asked last along.2)
    where
      about : AskedAbout g f y.0 y.1 along.0 → Bor K × (Bor V × Unit {0})
      about a = (a.key, (a.value, tt))

      one : AskedAbout g f y.0 y.1 along.0 → ByTest y
      one a = (by_test.at (about a ∷ []) y.1 along.0 a.called).0 ∙ ap (λ (k : K). test k a.value.now) a.shows.0 ∙ ap (test y.0.0) a.shows.1

  kept_by_test : (answered : List ((K × V) × Bool)) → All ByTest answered
      → map (λ (y : (K × V) × Bool). y.0) (filter (λ (y : (K × V) × Bool). y.1) answered) ≡ filter (λ (x : K × V). test x.0 x.1) (map (λ (y : (K × V) × Bool). y.0) answered)
  kept_by_test [] all = refl
  kept_by_test (y ∷ answered) all = first y.1 (All-head ByTest y answered all) (kept_by_test answered (All-tail ByTest y answered all))
    where
      first : (b : Bool) → b ≡ test y.0.0 y.0.1
          → map (λ (z : (K × V) × Bool). z.0) (filter (λ (z : (K × V) × Bool). z.1) answered) ≡ filter (λ (x : K × V). test x.0 x.1) (map (λ (z : (K × V) × Bool). z.0) answered)
          → map (λ (z : (K × V) × Bool). z.0) (cond b (y ∷ filter (λ (z : (K × V) × Bool). z.1) answered) (filter (λ (z : (K × V) × Bool). z.1) answered))
          ≡ cond (test y.0.0 y.0.1) (y.0 ∷ filter (λ (x : K × V). test x.0 x.1) (map (λ (z : (K × V) × Bool). z.0) answered)) (filter (λ (x : K × V). test x.0 x.1) (map (λ (z : (K × V) × Bool). z.0) answered))
      first true e rest =
          ap (λ (l : List (K × V)). y.0 ∷ l) rest
          ∙ ap (λ (t : Bool). cond t (y.0 ∷ filter (λ (x : K × V). test x.0 x.1) (map (λ (z : (K × V) × Bool). z.0) answered)) (filter (λ (x : K × V). test x.0 x.1) (map (λ (z : (K × V) × Bool). z.0) answered))) e
      first false e rest =
          rest
          ∙ ap (λ (t : Bool). cond t (y.0 ∷ filter (λ (x : K × V). test x.0 x.1) (map (λ (z : (K × V) × Bool). z.0) answered)) (filter (λ (x : K × V). test x.0 x.1) (map (λ (z : (K × V) × Bool). z.0) answered))) e

  pub keeps_by_test : (f : F) → AnswersByTest g test f → (xs kept : List (K × V)) → KeepsOf g f xs kept → kept ≡ filter (λ (x : K × V). test x.0 x.1) xs
  keeps_by_test f by_test xs kept k =
      k.kept_are ∙ kept_by_test k.answered (All-permutation ByTest k.asked k.answered k.each_once (asked_by_test f by_test k.asked k.last k.along))
      ∙ ap (filter (λ (x : K × V). test x.0 x.1)) k.all
