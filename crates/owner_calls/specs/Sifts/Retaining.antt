-- A closure that is asked which pairs to keep: what it has answered, and which pairs it keeps by that.
use Rattle.std.specs.Prelude.{◌≡◌, Bool, List, map, filter, IsPermutation}
use Rattle.std.specs.List.{FoldsTo}
use denote.Ref.{Bor}
use Rattle.std.specs.Fn.{AlwaysReturns, Called, Mut}

module _ {F K V : Type 0} (g : Mut F (Bor K × (Bor V × Unit {0})) Bool) where
  -- It was asked about this pair, has answered so, and is so then.
  pub record AskedAbout (f : F) (x : K × V) (answer : Bool) (next : F) : Type 0 where
    pub key : Bor K
    pub value : Bor V
    pub shows : (key.now ≡ x.0) × (value.now ≡ x.1)
    pub called : Called g f (key, (value, tt)) answer next

  -- It was asked about these pairs, one after the other, and has given these answers.
  abbrev pub AskedAlong : F → List ((K × V) × Bool) → F → Type 0
  AskedAlong f asked next = FoldsTo (λ (p : F) (y : (K × V) × Bool) (q : F). AskedAbout p y.0 y.1 q) f asked next

  -- Asked about each of these pairs once, in some order, it keeps those about which it has answered `true`, in the order in which they were.
  pub record KeepsOf (f : F) (xs kept : List (K × V)) : Type 0 where
    -- each pair, with the answer about it
    pub answered : List ((K × V) × Bool)
    pub all : map (λ y. y.0) answered ≡ xs
    -- the same, in the order in which it was asked
    pub asked : List ((K × V) × Bool)
    pub each_once : IsPermutation asked answered
    pub last : F
    pub along : AskedAlong f asked last
    pub kept_are : kept ≡ map (λ y. y.0) (filter (λ y. y.1) answered)

-- each time that it is asked from here on, it answers by this test
abbrev pub AnswersByTest : {F K V : Type 0} → Mut F (Bor K × (Bor V × Unit {0})) Bool → (K → V → Bool) → F → Type 0
AnswersByTest g test = AlwaysReturns g (λ about answer. answer ≡ test about.0.now about.1.0.now)
