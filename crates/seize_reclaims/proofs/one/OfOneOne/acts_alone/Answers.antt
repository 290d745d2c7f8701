use Rattle.std.proofs.Common.{ap, ◌∙◌}
use Rattle.seize.specs.ReclaimAll.{none_left}
use Rattle.seize_reclaims.specs.Renews.One.{op_of_one, shown_to_one}
use Rattle.seize_reclaims.proofs.Empties.Alone.{tells_so, turns_so}
use Rattle.seize_reclaims.proofs.Renews.One.{one_goes_on, one_is_shown}
use Rattle.seize_reclaims.proofs.one.OfOneOne.acts_alone.Goals as goal
use Rattle.seize_words.proofs.General.{same_some}

pub returns-clause-tells : goal.returns-clause-tells
returns-clause-tells g c = tells_so g.T.Defers.defers none_left

pub returns-clause-goes : goal.returns-clause-goes
returns-clause-goes g c = let defers = g.T.Defers.defers in
    λ fixed id v a op word is makes. one_goes_on defers none_left fixed id v op word (ap (op_of_one defers none_left) (same_some v a is) ∙ makes)

pub returns-clause-turns : goal.returns-clause-turns
returns-clause-turns g c = turns_so g.T.Defers.defers none_left

pub returns-clause-shown : goal.returns-clause-shown
returns-clause-shown g c = let defers = g.T.Defers.defers in
    λ fixed id v a b x is shows. one_is_shown defers none_left fixed id v b x (ap (λ y. shown_to_one defers none_left y b) (same_some v a is) ∙ shows)
