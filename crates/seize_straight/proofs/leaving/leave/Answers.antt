-- The list is taken, and the section has ended where there is none.
use Rattle.seize_straight.proofs.Leavings as by
use Rattle.seize_straight.proofs.Running.{begins, next}
use Rattle.seize_straight.proofs.leaving.leave.Goals as goal

pub swap-head-requires : goal.swap-head-requires
swap-head-requires g c =
    (next (begins c.requires)).0

pub returns-then-head-gt-ACTIVE : goal.returns-then-head-gt-ACTIVE
returns-then-head-gt-ACTIVE g c =
    by.has_list g.T.Defers.defers (begins c.requires) c.swap-head.ensures c.if-head-gt-ACTIVE.true

pub returns-then-not-frees : goal.returns-then-not-frees
returns-then-not-frees g c =
    by.has_left g.T.Defers.defers (begins c.requires) c.swap-head.ensures c.if-head-gt-ACTIVE.false c.if-not-frees.true

pub store-requires : goal.store-requires
store-requires g c =
    (next (by.to_free g.T.Defers.defers (begins c.requires) c.swap-head.ensures c.if-head-gt-ACTIVE.false c.if-not-frees.false)).0

pub returns : goal.returns
returns g c =
    by.has_freed g.T.Defers.defers (by.to_free g.T.Defers.defers (begins c.requires) c.swap-head.ensures c.if-head-gt-ACTIVE.false c.if-not-frees.false) c.store.ensures
