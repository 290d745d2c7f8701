-- What closures have made of a value that is there is said of its pair.
use Rattle.std.specs.Prelude.{Option, Some, option_map}
use Rattle.std.specs.Fn.{Shared, FnReturnsAt}
use denote.Ref.{Bor}
use Rattle.std.proofs.Common.{◌≡◌, refl, sym, subst}
use Rattle.seize_words.specs.declared.operation.Operation.TheVariants as operation
use Rattle.threads_updates.specs.Deciding.{NewOld, NewOldOr}

module _ {F K V : Type 0} (g : Shared F (Bor V × Unit {0}) V) (f : F) (shown : Option (Bor K × Bor V)) (x : Bor K × Bor V) (is : shown ≡ Some x) (value : V) (made : g.post f (x.1, tt) value) where
  made_of : FnReturnsAt g f x.1.now value
  made_of = record { shown = x.1; shows = refl; says = record { met = made } }

  pub new_old : NewOld {K = K} {V = V} {T = Unit} (FnReturnsAt g f) (option_map (λ y. (y.0.now, y.1.now)) shown) (operation.Insert value)
  new_old = subst (λ (o : Option (Bor K × Bor V)). NewOld {K = K} {V = V} {T = Unit} (FnReturnsAt g f) (option_map (λ y. (y.0.now, y.1.now)) o) (operation.Insert value)) (sym is) made_of

  pub new_old_or : (IsSo : V → Type 0) → NewOldOr {K = K} {V = V} {T = Unit} (FnReturnsAt g f) IsSo (option_map (λ y. (y.0.now, y.1.now)) shown) (operation.Insert value)
  new_old_or IsSo =
      subst (λ (o : Option (Bor K × Bor V)). NewOldOr {K = K} {V = V} {T = Unit} (FnReturnsAt g f) IsSo (option_map (λ y. (y.0.now, y.1.now)) o) (operation.Insert value)) (sym is) made_of
