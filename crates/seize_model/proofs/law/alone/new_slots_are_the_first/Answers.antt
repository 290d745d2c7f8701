use Rattle.seize_model.proofs.Alone.Laws.{new_slot_is_first, no_new_slot_none_vacant}
use Rattle.seize_model.proofs.law.alone.new_slots_are_the_first.Goals as goal

pub returns : goal.returns
returns c = record {
  first = new_slot_is_first;
  none = no_new_slot_none_vacant;
}
