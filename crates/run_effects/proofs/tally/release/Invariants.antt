-- With what is left it comes to all.
use Rattle.std.specs.Prelude.{drop, slice_index_or}
use Rattle.run_effects.specs.declared.tally.Whereabouts.TheVariants.{Unborn}
use Rattle.run_effects.proofs.Tallies.Tallies.{Releases}
use Rattle.run_effects.proofs.tally.release.Given as goal

abbrev pub invariant-loop-waiting : goal.invariant-loop-waiting
invariant-loop-waiting l =
    Releases l.table (λ n. slice_index_or l.initial.pairs.items n Unborn) l.behind (drop l.waiting-index l.behind) (λ n. slice_index_or l.pairs.items n Unborn)
