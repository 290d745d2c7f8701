-- The pairs of a map as a list.
use Rattle.owner_whole.proofs.Whole.Contents.Answers as told
use Rattle.owner_whole.proofs.Whole.Contents.AtEnd as at_end
use Rattle.owner_whole.proofs.Whole.Contents.Below as below
use Rattle.owner_whole.proofs.Whole.Contents.Follow as follow
use Rattle.owner_whole.proofs.Whole.Contents.Runs as runs
use Rattle.owner_whole.proofs.law.whole.contents_follow_the_pairs.Goals as goal

pub returns : goal.returns
returns c d = record { contents = below.contents_are _; begins = runs.runs_begin _; follow = follow.contents_follow _; answers = told.answers_of_pairs _; ends = at_end.answers_tell_the_pairs }
