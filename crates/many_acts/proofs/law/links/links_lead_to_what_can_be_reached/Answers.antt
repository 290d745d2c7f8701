-- What links lead to where all stand together, over each act, and wherever a list of acts has led.
use Rattle.many_acts.proofs.Links.Closed.{scenes_are_closed}
use Rattle.many_acts.proofs.Links.Lists.{acts_unlink, lists_are_tied, lists_hold, lists_unlink, lists_are_closed}
use Rattle.many_acts.proofs.Links.Tied.{scenes_are_tied}
use Rattle.many_acts.proofs.law.links.links_lead_to_what_can_be_reached.Goals as goal

pub returns : goal.returns
returns c d = record {
  scenes = scenes_are_tied _;
  acts = acts_unlink _;
  sights = scenes_are_closed _;
  tied = lists_are_tied _;
  held = lists_hold _;
  unlinking = lists_unlink _;
  closed = lists_are_closed _;
}
