-- What the closure of a call over all elements was called with: it is one over the pairs of a map whose values are units, and is called with their keys alone.
use Rattle.std.specs.Prelude.{ℕ, Bool}
use Rattle.std.specs.Fn.{Mut}
use denote.Ref.{Bor}
use Rattle.papaya_map.specs.Given.CallersDeclared.caller.MapCaller.{MapCaller}
use Rattle.papaya_map.specs.Given.Closures.{HasHeeded, HasShownEach}

-- a closure of elements, as one of pairs: it is called with the key of each
abbrev pub of_keys : {F K V A : Type 0} → Mut F (Bor K × Unit {0}) A → Mut F (Bor K × (Bor V × Unit {0})) A
of_keys g = record { pre = λ f pair. g.pre f (pair.0, tt); post = λ f pair answer. g.post f (pair.0, tt) answer; steps = λ f pair answer next. g.steps f (pair.0, tt) answer next }

module _ {K S : Type 0} (same : K → K → Bool) (hash : S → K → ℕ) {F : Type 0} where
  -- The session has begun a walk, and the closure was called with each element that this has told, in order, and with no other.
  abbrev pub HasShownElements : Mut F (Bor K × Unit {0}) (Unit {0}) → F → MapCaller K (Unit {0}) S → MapCaller K (Unit {0}) S → Type 0
  HasShownElements g f c n = HasShownEach same hash (of_keys g) f c.seat.view n.seat.view

  -- It has begun a retaining, the closure was called with each element about which this has asked, in order, and with no other, and it was told what the closure has answered.
  abbrev pub HasHeededElements : Mut F (Bor K × Unit {0}) Bool → F → MapCaller K (Unit {0}) S → MapCaller K (Unit {0}) S → Type 0
  HasHeededElements g f c n = HasHeeded same hash (of_keys g) f c.seat.view n.seat.view
