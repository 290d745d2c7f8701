-- Of a set that is shown as a map: what is lent of it, and whether there was an element.
use Rattle.std.specs.Prelude.{Option, Some, None, is_some, not, option_map}
use Rattle.std.proofs.Common.{◌≡◌, Bool, true, false, ap, refl, sym}

-- what is looked at through a look is the key of that, if there is one
pub keys : {A K V : Type 0} (now : A → K × V) (answer : Option A) → option_map (λ a. (now a).0) answer ≡ option_map (λ p. p.0) (option_map now answer)
keys now None = refl
keys now (Some a) = refl

-- there is one just where there is what it is looked at as
pub still_some : {A B : Type 0} (now : A → B) (answer : Option A) → is_some answer ≡ is_some (option_map now answer)
still_some now None = refl
still_some now (Some a) = refl

-- or where there is another one of which the same is told
pub as_other : {A B V : Type 0} (f : A → V) (g : B → V) (one : Option A) (other : Option B) → option_map f one ≡ option_map g other → is_some one ≡ is_some other
as_other f g None None is = refl
as_other f g None (Some y) is = absurd (cc is)
as_other f g (Some x) None is = absurd (cc is)
as_other f g (Some x) (Some y) is = refl

-- an element is new where it has replaced none
pub new_where_none : (new replaced : Bool) → replaced ≡ not new → new ≡ not replaced
new_where_none true replaced is = ap not (sym is)
new_where_none false replaced is = ap not (sym is)
