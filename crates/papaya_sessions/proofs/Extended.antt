-- One more was put into a map after those of a list.
use Rattle.std.specs.Prelude.{List, [], ◌∷◌, ◌++◌}
use Rattle.std.proofs.Common.{refl, subst}
use Rattle.papaya_sessions.specs.Extended.{PutsAll}
use Rattle.threads_updates.specs.Given.CallersDeclared.caller.MapCaller.{MapCaller}

module _ {K V S X : Type 0} (Puts : X → MapCaller K V S → MapCaller K V S → Type 0) where
  pub put_more : (xs : List X) (x : X) (c n m : MapCaller K V S) → PutsAll Puts xs c n → Puts x n m → PutsAll Puts (xs ++ (x ∷ [])) c m
  put_more [] x c n m all one = (m, subst (λ (u : MapCaller K V S). Puts x u m) all one, refl)
  put_more (first ∷ rest) x c n m (u, begun, all) one = (u, begun, put_more rest x u n m all one)
