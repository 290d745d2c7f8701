use Rattle.seize_views.specs.contracts.law.views.blocks_have_seats.{T-type}
use Rattle.seize_views.proofs.Views.Blocks.{own_are_made, own_are_taken, own_are_rewritten, own_are_shown, borne_are_shown}
use Rattle.seize_views.proofs.Views.Roots.{own_are_linked, own_are_exchanged}
use Rattle.seize_views.proofs.Views.Handing.{borne_are_handed_on}
use Rattle.seize_views.proofs.law.views.blocks_have_seats.Goals as goal

pub returns-clause-made : goal.returns-clause-made
returns-clause-made g c = own_are_made (T-type g.row.T) g.T.Defers.defers

pub returns-clause-taken : goal.returns-clause-taken
returns-clause-taken g c = own_are_taken (T-type g.row.T) g.T.Defers.defers

pub returns-clause-rewritten : goal.returns-clause-rewritten
returns-clause-rewritten g c = own_are_rewritten (T-type g.row.T) g.T.Defers.defers

pub returns-clause-linked : goal.returns-clause-linked
returns-clause-linked g c = own_are_linked (T-type g.row.T) g.T.Defers.defers

pub returns-clause-exchanged : goal.returns-clause-exchanged
returns-clause-exchanged g c = own_are_exchanged (T-type g.row.T) g.T.Defers.defers

pub returns-clause-shown : goal.returns-clause-shown
returns-clause-shown g c = own_are_shown (T-type g.row.T) g.T.Defers.defers

pub returns-clause-borne : goal.returns-clause-borne
returns-clause-borne g c = borne_are_shown (T-type g.row.T) g.T.Defers.defers

pub returns-clause-handed : goal.returns-clause-handed
returns-clause-handed g c = borne_are_handed_on (T-type g.row.T) g.T.Defers.defers
