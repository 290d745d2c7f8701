-- An event in which a call makes steps may have the effects of calls.
use Rattle.std.specs.Prelude.{◌≡◌, Bool, true, ◌&&◌, List, [], ◌∷◌}
use Rattle.std.specs.List.{list_all}
use Rattle.std.proofs.Common.{refl, ap, ◌∙◌}
use Rattle.std.proofs.lemmas.List.Folds.{list_all-append}
use Rattle.run_executor.specs.Given.RunsDeclared.effect.Effect.{Effect}
use Rattle.run_executor.specs.Given.RunsDeclared.event.Event.TheVariants.{Step, Go, OneCall}
use Rattle.run_executor.specs.Given.SchedulesHanding.{is_call_effect, may_do}
use Rattle.run_finds.specs.Doing.{SeveralDoTheirs, EventsMayDo}
use Rattle.run_executor.proofs.Given.General.{both_true as and_both}

pub several_do_theirs : SeveralDoTheirs
several_do_theirs done effects before after = list_all-append is_call_effect done effects ∙ ap (λ (q : Bool). q && list_all is_call_effect effects) before ∙ after

-- what effects of calls pass, all of them pass
all_pass : (test : Effect → Bool) → ((f : Effect) → is_call_effect f ≡ true → test f ≡ true) → (effects : List Effect) → list_all is_call_effect effects ≡ true → list_all test effects ≡ true
all_pass test passes [] all = refl
all_pass test passes (f ∷ fs) all =
    let both = and_both (is_call_effect f) (list_all is_call_effect fs) all in
    ap (λ (q : Bool). q && list_all test fs) (passes f both.0) ∙ all_pass test passes fs both.1

pub events_may_do : (K V : Type 0) → EventsMayDo K V
events_may_do K V (Step caller refuse) m effects steps all = all_pass (may_do (Step caller refuse) m) (λ f e. e) effects all
events_may_do K V (Go caller refuse) m effects steps all = all_pass (may_do (Go caller refuse) m) (λ f e. e) effects all
events_may_do K V (OneCall guard map call) m effects steps all = all_pass (may_do (OneCall guard map call) m) (λ f e. e) effects all
events_may_do K V _ m effects steps all = absurd (cc steps)
