-- What the tests say under which an act may be made.
use Rattle.std.specs.Prelude.{Option, Some, None}
use Rattle.std.specs.Option.{is_none}
use Rattle.std.proofs.Common.{◌≡◌, ℕ, ◌^◌, Bool, true, false, refl, sym, arith}
use Rattle.run_shows.specs.Given.SeizeWorld.{Use, Vacant, Outside, Inside, Changing, IsInside}
use Rattle.seize_acts.specs.Acts.Acts.{is_within}
use Rattle.run_shows.specs.Given.RuleMaps.{IsClass}
use Rattle.owner_facts.specs.Given.PointsSteps.{AreLawful}

pub some_is : {X : Type 0} (o : Option X) → is_none o ≡ false → (x : X) × (o ≡ Some x)
some_is None e = absurd (cc e)
some_is (Some x) e = (x, refl)

pub inside_is : (u : Use) → is_within u ≡ true → IsInside u
inside_is Vacant e = absurd (cc e)
inside_is (Outside n) e = absurd (cc e)
inside_is (Inside n) e = tt
inside_is Changing e = absurd (cc e)

module _ {K : Type 0} (same : K → K → Bool) (hash : K → ℕ) (are : AreLawful same hash) where
  -- keys that are equal have one hash, which fits a word
  equal_hashes : (k other : K) → same k other ≡ true → hash k ≡ hash other
  equal_hashes k other e =
      let spots = are.lawful.respects (2 ^ 64) 0 k other e in
      let one = are.fits k in
      let two = are.fits other in
      omega (arith, spots, one, two)

  -- so a key stands for its class
  pub its_class : (key : K) → IsClass same hash (same key) (hash key)
  its_class key = record { hashes = λ k e. sym (equal_hashes key k e); one = λ k other e. are.lawful.classes.congr key k other e }
