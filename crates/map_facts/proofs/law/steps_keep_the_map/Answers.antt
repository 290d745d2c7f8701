-- Each step of a call and of a lookup.
use Rattle.map_facts.proofs.Calls.StepsTold.{lookups_begin, lookups_tell, calls_begin, asking_calls_begin, calls_keep_the_map}
use Rattle.map_facts.proofs.Calls.RepliesKnow.{replies_are_taken}
use Rattle.map_facts.proofs.law.steps_keep_the_map.Goals as goal

pub returns : goal.returns
returns c d = record { lookups_begin = lookups_begin; lookups = lookups_tell _; calls_begin = calls_begin _; asking_calls_begin = asking_calls_begin _; replies = replies_are_taken _; calls = calls_keep_the_map _ }
