-- It may be called again, and whatever the pairs were at the beginning, the retaining is under way since.
use Rattle.std.proofs.Common.{◌≡◌, List, length}
use denote.Param.Always.{always_mut}
use Rattle.owner_calls.specs.Owned.Owned.{Holds}
use Rattle.owner_calls.proofs.Sifts.Over.Siftings.{Sifting}
use Rattle.owner_calls.proofs.sweeps.sift.Given as goal

abbrev pub invariant-loop-word : goal.invariant-loop-word
invariant-loop-word g l = record {
  callable : always_mut g.F.FnMut l.initial.keep → always_mut g.F.FnMut l.keep;
  sifting : (xs : List (g.row.K.Denot × g.row.V.Denot)) (has : Holds g.K.PartialEq.eq (g.S.Hashes.hash l.initial.machine.hasher.now) l.fn.setting l.initial.memory xs)
      → l.initial.left ≡ length xs
      → Sifting {S = g.row.S.Denot} g.F.FnMut l.fn.keep g.K.PartialEq.eq g.S.Hashes.hash l.initial.machine.hasher l.fn.setting l.initial.memory xs has l.machine l.memory l.left l.keep;
}

abbrev pub decreases-loop-word : goal.decreases-loop-word
decreases-loop-word g l = l.left
