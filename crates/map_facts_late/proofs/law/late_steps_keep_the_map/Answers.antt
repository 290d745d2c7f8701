-- Each step of a lookup, of a copier and of a call in a table that the root has left.
use Rattle.map_facts_late.proofs.Calls.Points.{late_calls_keep_the_map}
use Rattle.map_facts_late.proofs.Calls.Replies.{late_replies_are_taken}
use Rattle.map_facts_late.proofs.Copiers.Points.{late_copiers_keep_the_map}
use Rattle.map_facts_late.proofs.Looks.Points.{late_lookups_tell}
use Rattle.map_facts_late.proofs.law.late_steps_keep_the_map.Goals as goal

pub returns : goal.returns
returns c d = record {
  lookups = late_lookups_tell _;
  copiers = late_copiers_keep_the_map;
  calls = λ same hash asks. late_calls_keep_the_map _ same hash asks (late_copiers_keep_the_map same hash);
  replies = late_replies_are_taken _;
}
