-- Lists of blocks.
use Rattle.owner_facts.proofs.Maps.Laws.{lists_add_up, in_one_of_two, first_or_behind, waits_behind_tables, marked_is_settled_or_own}
use Rattle.owner_facts.proofs.law.maps.blocks_are_listed.Goals as goal

pub returns : goal.returns
returns c d = record { adds_up = lists_add_up; in_two = in_one_of_two; first = first_or_behind; waits = waits_behind_tables; marked = marked_is_settled_or_own }
