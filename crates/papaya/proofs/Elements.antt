-- The element of a pair that a map's lookup has lent.
use Rattle.std.specs.Prelude.{Option, Some, None, Result, Ok, IfOk, IfSome, not, option_map}
use Rattle.std.proofs.Common.{◌≡◌, ◌∙◌, ℕ, Bool, true, false, ap, refl, subst, sym}
use Rattle.papaya.specs.OneSet.{SetLentUnder}
use Rattle.papaya_map.specs.Given.SessionsUnder.{HasGotPairUnder}
use Rattle.papaya_map.specs.Given.ViewsDeclared.view.View.{View}
use Rattle.seize_words.specs.declared.fault.Fault.{Fault}
use Rattle.papaya_map.specs.Given.CallersDeclared.caller.MapCaller.{MapCaller}

-- what is looked at through a look is the key of that, if there is one
keys : {A K V : Type 0} (now : A → K × V) (answer : Option A) → option_map (λ a. (now a).0) answer ≡ option_map (λ p. p.0) (option_map now answer)
keys now None = refl
keys now (Some a) = refl

-- an element is new where it has replaced none
pub new_where_none : (new replaced : Bool) → replaced ≡ not new → new ≡ not replaced
new_where_none true replaced is = ap not (sym is)
new_where_none false replaced is = ap not (sym is)

-- there is one just where there is the other
pub where_one : {A B K : Type 0} (P : Type 0) (f : A → K) (g : B → K) (some : Option A) (other : Option B) → option_map f some ≡ option_map g other → IfSome other (λ _. P) → IfSome some (λ _. P)
where_one P f g None other is p = tt
where_one P f g (Some x) None is p = absurd (cc is)
where_one P f g (Some x) (Some y) is p = p

-- the element of what was got
pub of_pair : {A K : Type 0} (Got : Option (K × Unit {0}) → Type 0) (now : A → K × Unit {0}) (answer : Option A) (element : Option K) → element ≡ option_map (λ a. (now a).0) answer → Got (option_map now answer)
    → (pair : Option (K × Unit {0})) × (element ≡ option_map (λ p. p.0) pair) × Got pair
of_pair Got now answer element so got = (option_map now answer, so ∙ keys now answer, got)

module _ {K S : Type 0} (same : K → K → Bool) (hash : S → K → ℕ) (key : K) (c : MapCaller K (Unit {0}) S) (v w : View K (Unit {0}) S) where
  -- the element of what was found,
  pub lent : {A : Type 0} (now : A → K × Unit {0}) (answer : Option A) (element : Option K) → element ≡ option_map (λ a. (now a).0) answer
      → HasGotPairUnder same hash key c (option_map now answer) v w → SetLentUnder same hash key element c v w
  lent now answer element so got = of_pair (λ pair. HasGotPairUnder same hash key c pair v w) now answer element so got

  -- where the pass is one of this set
  pub lent_then : {A : Type 0} (now : A → K × Unit {0}) (told : Result (Option A) Fault) (answer : Option A) (element : Option K) → told ≡ Ok answer
      → element ≡ option_map (λ a. (now a).0) answer → IfOk told (λ a. HasGotPairUnder same hash key c (option_map now a) v w) → SetLentUnder same hash key element c v w
  lent_then {A} now told answer element was so got =
      lent now answer element so (subst (λ (t : Result (Option A) Fault). IfOk t (λ a. HasGotPairUnder same hash key c (option_map now a) v w)) was got)
