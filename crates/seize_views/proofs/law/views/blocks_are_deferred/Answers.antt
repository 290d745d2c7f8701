use Rattle.seize_views.specs.contracts.law.views.blocks_are_deferred.{T-type}
use Rattle.seize_views.proofs.Views.Deferring.{takings_begin, blocks_are_taken_out, parted_are_shown, parted_are_cut, parted_are_deferred, deferrals_go_on, deferrals_end}
use Rattle.seize_views.proofs.law.views.blocks_are_deferred.Goals as goal

pub returns-clause-begin : goal.returns-clause-begin
returns-clause-begin g c = takings_begin (T-type g.row.T) g.T.Defers.defers

pub returns-clause-taken : goal.returns-clause-taken
returns-clause-taken g c = blocks_are_taken_out (T-type g.row.T) g.T.Defers.defers

pub returns-clause-shown : goal.returns-clause-shown
returns-clause-shown g c = parted_are_shown (T-type g.row.T) g.T.Defers.defers

pub returns-clause-cut : goal.returns-clause-cut
returns-clause-cut g c = parted_are_cut (T-type g.row.T) g.T.Defers.defers

pub returns-clause-put : goal.returns-clause-put
returns-clause-put g c = parted_are_deferred (T-type g.row.T) g.T.Defers.defers

pub returns-clause-on : goal.returns-clause-on
returns-clause-on g c = deferrals_go_on (T-type g.row.T) g.T.Defers.defers

pub returns-clause-end : goal.returns-clause-end
returns-clause-end g c = deferrals_end (T-type g.row.T) g.T.Defers.defers
