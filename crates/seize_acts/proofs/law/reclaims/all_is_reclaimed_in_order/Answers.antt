use Rattle.seize_acts.proofs.Reclaims.Laws.{reclaiming_ends, reclaimed_in_order, lists_stay, one_list_a_root, clearing_is_quiet}
use Rattle.seize_acts.proofs.law.reclaims.all_is_reclaimed_in_order.Goals as goal

pub returns : goal.returns
returns g c = record {
  ends = reclaiming_ends;
  order = reclaimed_in_order;
  lists = lists_stay;
  one = one_list_a_root;
  cleared = clearing_is_quiet;
}
