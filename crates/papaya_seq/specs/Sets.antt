-- A set for one owner, as its callers see it, and its elements, once some were put into it.
use denote.Ref.{Bor}
use Rattle.std.specs.Prelude.{◌≡◌, ℕ, Bool, List, [], ◌∷◌, ◌++◌, Option, filter, find, map, option_map}
use Rattle.std.specs.Fn.{CalledAt, Mut}
use Rattle.std.specs.List.{FoldsTo}
use Rattle.std.specs.List.Sorted.{IsPermutation}
use Rattle.std.specs.Map.{keys_of}
use Rattle.owner_map.specs.Given.{HoldsOn}
use Rattle.owner_map.specs.Given.SeqShowsMaps.{Map}
pub use Rattle.owner_map.specs.Given.{left_in}

-- The value of a set: its elements, its hasher, and two elements that can be looked at until the next change. Which order the elements are in, a walk tells alone.
pub record Set (K S : Type 0) : Type 0 where
  pub elements : List K
  pub hasher : S
  -- the element that the last change took out, where it removed or replaced one
  pub taken : Option K
  -- the element that the last change put in
  pub met : Option K
  -- all elements that its memory has: those of the set, and those that left it and were not given back
  pub held : List K
  -- how many places its tables have, from the first one on, each with its turn
  pub tables : List (ℕ × ℕ)

-- the set of a map's keys
abbrev pub set_of : {K V S : Type 0} → Map K V S → Set K S
set_of m = record { elements = keys_of m.pairs; hasher = m.hasher; taken = option_map (λ x. x.0) m.taken; met = option_map (λ x. x.0) m.met; held = keys_of m.held; tables = m.tables }

-- the last change took this element out of the set, or none, and put this one in, or none
abbrev pub LastTookOut : {K S : Type 0} → Set K S → Option K → Option K → Type 0
LastTookOut set taken met = (set.taken ≡ taken) × (set.met ≡ met)

-- A change has stored these elements. What the set had before it is held still, also what left the set by it; of what was held beside that some waits still, and
-- the rest was given back. Nothing else is held but what was stored.
abbrev pub KeepsIn : {K S : Type 0} → List K → Set K S → Set K S → Type 0
KeepsIn stored before after = HoldsOn stored before.elements before.held after.held

module _ {K : Type 0} (same : K → K → Bool) where
  -- the elements, once this one was put in the place of the one that equals it
  abbrev pub put_in : List K → K → List K
  put_in xs x = left_in (same x) xs ++ (x ∷ [])

  -- the elements, once these were put one after another
  abbrev pub put_all_in : List K → List K → List K
  put_all_in xs [] = xs
  put_all_in xs (y ∷ ys) = put_all_in (put_in xs y) ys

  -- the element whose place the last of these took as they were put one after another, if it took one's, or else, where none was put, what was taken out before
  abbrev pub last_taken_in : Option K → List K → List K → Option K
  last_taken_in before xs [] = before
  last_taken_in before xs (y ∷ ys) = last_taken_in (find (same y) xs) (put_in xs y) ys

module _ {F K : Type 0} (g : Mut F (Bor K × Unit {0}) Bool) where
  -- Asked about each of these elements once, in some order, a closure keeps those about which it has answered `true`, in the order in which they were.
  pub record KeepsElements (f : F) (xs kept : List K) : Type 0 where
    -- each element, with the answer about it
    pub answered : List (K × Bool)
    pub all : map (λ y. y.0) answered ≡ xs
    -- the same, in the order in which it was asked
    pub asked : List (K × Bool)
    pub each_once : IsPermutation asked answered
    pub last : F
    pub along : FoldsTo (λ (p : F) (y : K × Bool) (q : F). CalledAt g p y.0 y.1 q) f asked last
    pub kept_are : kept ≡ map (λ y. y.0) (filter (λ y. y.1) answered)
