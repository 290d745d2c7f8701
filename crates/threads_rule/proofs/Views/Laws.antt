-- What is promised of the rule of maps, as lemmas.
use Rattle.std.specs.Prelude.{ℕ, Bool}
use Rattle.threads_rule.specs.Views.Promises.{RulesStart, SeatsCome, CallsContinue, CallsTurn, HeldAreShown, CallsBegin, CallsAreAsked, CallsAreReplied, MapsAreHandedOn, MakingsBegin, MakingsContinue, EndingsBegin, EndingsContinue, EndingsAreShown}
use Rattle.threads_rule.proofs.Views.Starts as starts
use Rattle.threads_rule.proofs.Views.Calls as calls
use Rattle.threads_rule.proofs.Views.Held as held
use Rattle.threads_rule.proofs.Views.Begins as begins
use Rattle.threads_rule.proofs.Views.Handing as handing
use Rattle.threads_rule.proofs.Views.Makings as makings
use Rattle.threads_rule.proofs.Views.EndBegins as end_begins
use Rattle.threads_rule.proofs.Views.Endings as endings

module _ {K S : Type 0} (V : Type 0) (same : K → K → Bool) (hash : S → K → ℕ) where
  pub rules_start : RulesStart V same hash
  rules_start = starts.rules_start V same hash

  pub seats_come : SeatsCome V same hash
  seats_come = starts.seats_come V same hash

  pub calls_go_on : CallsContinue V same hash
  calls_go_on = calls.calls_go_on V same hash

  pub calls_turn : CallsTurn V same hash
  calls_turn = calls.calls_turn V same hash

  pub held_are_shown : HeldAreShown V same hash
  held_are_shown = held.held_are_shown V same hash

  pub calls_begin : CallsBegin V same hash
  calls_begin = begins.calls_begin V same hash

  pub calls_are_told : CallsAreReplied V same hash
  calls_are_told = begins.calls_are_told V same hash

  pub calls_are_asked : CallsAreAsked V same hash
  calls_are_asked = begins.calls_are_asked V same hash

  pub maps_are_handed_on : MapsAreHandedOn V same hash
  maps_are_handed_on = handing.maps_are_handed_on V same hash

  pub makings_begin : MakingsBegin V same hash
  makings_begin = makings.makings_begin V same hash

  pub makings_go_on : MakingsContinue V same hash
  makings_go_on = makings.makings_go_on V same hash

  pub endings_begin : EndingsBegin V same hash
  endings_begin = end_begins.endings_begin V same hash

  pub endings_go_on : EndingsContinue V same hash
  endings_go_on = endings.endings_go_on V same hash

  pub endings_are_shown : EndingsAreShown V same hash
  endings_are_shown = endings.endings_are_shown V same hash
