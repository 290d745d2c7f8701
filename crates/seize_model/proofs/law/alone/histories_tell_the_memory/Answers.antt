use Rattle.seize_model.proofs.Alone.Laws.{insides_are_active, outsides_are_not, waiting_was_handed, carriers_are_there, carriers_have_lists, no_list_no_waiting, nobodys_is_none, registered_slots_say}
use Rattle.seize_model.proofs.law.alone.histories_tell_the_memory.Goals as goal

pub returns : goal.returns
returns g c = record {
  inside = insides_are_active;
  outside = outsides_are_not;
  waiting = waiting_was_handed;
  carriers = carriers_are_there;
  lists = carriers_have_lists;
  none = no_list_no_waiting;
  nobodys = nobodys_is_none;
  registered = registered_slots_say;
}
