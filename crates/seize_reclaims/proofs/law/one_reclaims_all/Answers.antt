use Rattle.seize_reclaims.proofs.Renews.Ends.{idle_renew, looked_is_shown, over_is_quiet, over_renews}
use Rattle.seize_reclaims.proofs.Renews.Registering.{registering_goes_on}
use Rattle.seize_reclaims.proofs.Renews.Steps.{reclaiming_goes_on, reclaiming_turns}
use Rattle.seize_reclaims.proofs.law.one_reclaims_all.Goals as goal

pub returns-clause-on : goal.returns-clause-on
returns-clause-on g c defers left_over = reclaiming_goes_on defers left_over

pub returns-clause-turn : goal.returns-clause-turn
returns-clause-turn g c defers left_over = reclaiming_turns defers left_over

pub returns-clause-looked : goal.returns-clause-looked
returns-clause-looked g c defers left_over = looked_is_shown defers left_over

pub returns-clause-over : goal.returns-clause-over
returns-clause-over g c defers left_over = over_is_quiet defers left_over

pub returns-clause-renews : goal.returns-clause-renews
returns-clause-renews g c defers left_over = over_renews defers left_over

pub returns-clause-idle : goal.returns-clause-idle
returns-clause-idle g c defers left_over = idle_renew defers left_over

pub returns-clause-seeks : goal.returns-clause-seeks
returns-clause-seeks g c defers left_over = registering_goes_on defers left_over
