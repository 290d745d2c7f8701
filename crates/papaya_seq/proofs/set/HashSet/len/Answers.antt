-- By the map's keys.
use Rattle.std.specs.Prelude.{List, ◌++◌}
use Rattle.std.specs.List.Sorted.{IsPermutation}
use Rattle.std.proofs.Common.{subst}
use Rattle.papaya_seq.specs.Sets.{Set}
use Rattle.papaya_seq.proofs.Sets.{keys_among}
use Rattle.papaya_seq.proofs.set.HashSet.len.Goals as goal

pub returns-clause-held : goal.returns-clause-held
returns-clause-held g c =
    subst (λ (x : Set g.row.K.Denot g.row.S.Denot). (waiting : List g.row.K.Denot) × IsPermutation x.held (x.elements ++ waiting)) c.self.view_is (keys_among c.self.inside.map c.len.ensures.held)
