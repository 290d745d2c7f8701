-- Who has no call has none under way on any map.
use Rattle.std.specs.Prelude.{◌≡◌, ℕ, true, Option, Some, None}
use Rattle.std.specs.Option.{is_none}
use Rattle.std.proofs.Common.{refl}
use Rattle.run_shows.specs.Scenes.Scene.{Scene, HasCall, HasNoCall}

pub none_is : {X : Type 0} (o : Option X) → is_none o ≡ true → o ≡ None
none_is None e = refl
none_is (Some x) e = absurd (cc e)

pub no_call : {K V : Type 0} (s : Scene K V) (i : ℕ) → HasNoCall s i → HasCall s i → ⊥
no_call s i none (m, u, is) = (let was = none m in cc (was, is))
