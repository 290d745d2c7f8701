-- A call on one key, as the moment has it: on its map, and of its key's class.
use Rattle.std.specs.Prelude.{◌≡◌, ℕ, Bool, List, Some}
use Rattle.std.proofs.Common.{ap, sym, subst, ◌∙◌}
use Rattle.run_shows.specs.Given.RunsDeclared.call.Call.{Call}
use Rattle.run_shows.specs.Given.RunsDeclared.call.Call.TheVariants.{On}
use Rattle.run_shows.specs.Given.RunsDeclared.call.OneKey.{OneKey}
use Rattle.run_shows.specs.Given.SchedulesMoment.{UnderWay as CallThere, Moment}
use Rattle.run_shows.specs.Given.SchedulesSequential.{key_of}
use Rattle.run_shows.specs.Given.SchedulesViews.{call_of}
use Rattle.run_shows.specs.Given.CallersTogether.{CallOnKey, OnKey}
use Rattle.run_shows.specs.Given.EffectsKnown.{Known}
use Rattle.run_shows.specs.Follows.Calls.{IsCalled}
use Rattle.run_shows.specs.Follows.Shows.{Refines}
use Rattle.run_shows.specs.Scenes.Scene.{Scene}
use Rattle.run_shows.proofs.Given.General.{same_some as one_of}

pub its_call : {K V : Type 0} (same : K → K → Bool) (name : ℕ → List ℕ) (m : Moment K V) (known : Known) (s : Scene K V) → Refines same name m known s
    → (map i : ℕ) (x : CallOnKey K V K) → s.calls map i ≡ Some (OnKey x) → (c : CallThere K V) → call_of (name i) m ≡ Some c → (one : OneKey K V) → c.call ≡ On one
    → (c.map ≡ map) × (x.keys ≡ same (key_of one))
its_call same name m known s shown map i x here c c_is one one_is =
    let it = shown.calls map i (OnKey x) here in
    let is_c : it.0 ≡ c = one_of it.0 c (sym it.1 ∙ c_is) in (
      ap (λ (z : CallThere _ _). z.map) (sym is_c) ∙ it.2,
      subst (λ (z : Call _ _). IsCalled same (OnKey x) z) one_is (subst (λ (z : CallThere _ _). IsCalled same (OnKey x) z.call) is_c it.3),
    )
