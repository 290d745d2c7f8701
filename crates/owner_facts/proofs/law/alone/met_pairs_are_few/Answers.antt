-- The pairs that the tries of a hash meet.
use Rattle.owner_facts.proofs.Alone.Shards.Met.{met_pairs_are_few, tries_meet_pairs, words_say, meets_no_more, goes_by_the_counter}
use Rattle.owner_facts.proofs.Alone.Shards.MetOn.{calls_meet_pairs}
use Rattle.owner_facts.proofs.Alone.Shards.MostMet.{calls_keep_most}
use Rattle.owner_facts.proofs.law.alone.met_pairs_are_few.Goals as goal

pub returns : goal.returns
returns c d = record { few = met_pairs_are_few; tries = tries_meet_pairs; steps = calls_meet_pairs _; words = words_say _; full = meets_no_more _ _; most = calls_keep_most _; lengths = goes_by_the_counter _ }
