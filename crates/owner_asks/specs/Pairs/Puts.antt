-- Pairs that are put into a map one after another, what an iterator gives so, and clones of others.
use Rattle.std.specs.Prelude.{◌≡◌, Bool, true, false, Some, List, [], ◌∷◌, ◌++◌, Option, Result, MatchResult}
use Rattle.std.specs.Cmp.{IsEquivalence}
use Rattle.std.specs.Iterator.{Drains, Yields}
use Rattle.owner_calls.specs.Owned.Owned.{found_by, left_by}

-- An iterator gave these: all that it gives; or what it gave before the one that was refused, which is handed back, and no further one was asked for.
abbrev pub Gave : {I T X E : Type 0} → (I → T → Type 0) → (T → Option X → T → Type 0) → (E → X) → I → List X → Result (Unit {0}) E → Type 0
Gave {I} {T} becomes steps back items given result =
    (it : T) × becomes items it × MatchResult result (λ _. Drains steps it given) (λ e. (rest : T) × Yields steps it (given ++ (back e ∷ [])) rest)

-- the last one that was put, or else the one from before
abbrev pub last_put : {X : Type 0} → Option X → List X → Option X
last_put before [] = before
last_put before (x ∷ xs) = last_put (Some x) xs

module _ {K V : Type 0} (same : K → K → Bool) where
  -- the pairs, once this one was put in the place of that of its key
  abbrev pub put : List (K × V) → K × V → List (K × V)
  put xs x = left_by (same x.0) xs ++ (x ∷ [])

  -- the pairs, once these were put one after another
  abbrev pub put_all : List (K × V) → List (K × V) → List (K × V)
  put_all xs [] = xs
  put_all xs (y ∷ ys) = put_all (put xs y) ys

  -- the pair whose place the last of these took as they were put one after another, if it took one's, or else, where none was put, what was taken out before
  abbrev pub last_taken : Option (K × V) → List (K × V) → List (K × V) → Option (K × V)
  last_taken before xs [] = before
  last_taken before xs (y ∷ ys) = last_taken (found_by (same y.0) xs) (put xs y) ys

-- Of pairs that were put one after another, the last one is found by the keys that equal its own, and by others what was found without it.
abbrev pub LastIsFound : Type 0 → Type 0 → Type 0
LastIsFound K V =
    (same : K → K → Bool) → IsEquivalence same → (old given : List (K × V)) (x : K × V) (q : K)
    → (same x.0 q ≡ true → found_by (same q) (put_all same old (given ++ (x ∷ []))) ≡ Some x)
    × (same x.0 q ≡ false → found_by (same q) (put_all same old (given ++ (x ∷ []))) ≡ found_by (same q) (put_all same old given))

-- a clone is its original
abbrev pub ClonesAreSame : {T : Type 0} → (T → T → Type 0) → Type 0
ClonesAreSame {T} is_clone = (x y : T) → is_clone x y → y ≡ x

-- a pair of clones
abbrev pub IsCloneOf : {K V : Type 0} → (K → K → Type 0) → (V → V → Type 0) → K × V → K × V → Type 0
IsCloneOf key_clone value_clone x y = key_clone x.0 y.0 × value_clone x.1 y.1
