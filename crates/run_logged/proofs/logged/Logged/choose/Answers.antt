-- A choice of a block number.
use Rattle.std.proofs.Common.{◌≡◌, refl, sym, subst}
use Rattle.run_logged.specs.Log.Choosing.{ChoiceIsShown, logged_chosen}
use Rattle.run_logged.proofs.Log.Choosing.{choice_shown, chosen_is, with_memory}
use Rattle.run_logged.proofs.logged.Logged.choose.Goals as goal

pub returns : goal.returns
returns g c =
    let old = c.args.self.now in
    let is : with_memory c.args.choice old c.choose.new.self ≡ logged_chosen c.args.choice old = chosen_is c.args.choice old c.choose.new.self c.in_ok-choose.ensures.ok in
    record { chosen = is; shown = subst (λ n. ChoiceIsShown c.args.choice old n) (sym is) (choice_shown c.args.choice old); given = (refl, refl, refl, refl) }

pub returns-in_err-choose-clause-given : goal.returns-in_err-choose-clause-given
returns-in_err-choose-clause-given g c = (refl, refl, refl, refl)
