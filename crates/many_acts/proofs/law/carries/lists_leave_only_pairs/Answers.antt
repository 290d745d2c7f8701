-- Lists of acts, and a caller that reclaims all after one.
use Rattle.many_acts.proofs.Acts.Left.{acts_leave_it}
use Rattle.many_acts.proofs.Carries.Acts.{acts_keep_theirs}
use Rattle.many_acts.proofs.Carries.Lists.{lists_keep_theirs, reclaiming_begins_there, only_pairs_wait_there, all_can_be_reclaimed_there}
use Rattle.many_acts.proofs.Carries.Onward.{lists_reclaim_all, only_pairs_wait_behind}
use Rattle.many_acts.proofs.Carries.Reclaimed.{reclaiming_comes_to_end}
use Rattle.many_acts.proofs.law.carries.lists_leave_only_pairs.Goals as goal

pub returns : goal.returns
returns c d = record {
  acts = acts_keep_theirs _;
  left = acts_leave_it _;
  lists = lists_keep_theirs _;
  begins = reclaiming_begins_there _;
  ends = reclaiming_comes_to_end _;
  waits = only_pairs_wait_there _;
  all = all_can_be_reclaimed_there _;
  by_lists = lists_reclaim_all _;
  after = only_pairs_wait_behind _;
}
