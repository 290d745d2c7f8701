-- Pairs of the map, and the words that name them.
use Rattle.map_rule.proofs.Laws.{current_is_known, words_name_pairs, bytes_are_few, words_with_blocks, words_tell_marks, places_have_pairs}
use Rattle.map_rule.proofs.law.pairs_are_known.Goals as goal

pub returns : goal.returns
returns c d = record { current = current_is_known; words = words_name_pairs; bytes = bytes_are_few; named = words_with_blocks; marks = words_tell_marks; places = places_have_pairs }
