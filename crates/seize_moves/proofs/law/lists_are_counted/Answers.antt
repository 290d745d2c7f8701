use Rattle.seize_moves.proofs.Waiting.Laws.{lists_add_up, uncounted_is_not_there, agree_on_lists, slots_come, slots_go, kept_are_behind_others, each_is_listed}
use Rattle.seize_moves.proofs.law.lists_are_counted.Goals as goal

pub returns : goal.returns
returns c = record {
  adds_up = lists_add_up;
  not_there = uncounted_is_not_there;
  agree = agree_on_lists;
  comes = slots_come;
  goes = slots_go;
  kept = kept_are_behind_others;
  listed = each_is_listed;
}
