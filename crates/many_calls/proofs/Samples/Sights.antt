-- What is refused as a sight: in a map of one table with one place, then of the one pair in it, and then behind a table that was aborted.
use Rattle.std.specs.Prelude.{ℕ, leb}
use Rattle.std.proofs.Common.{true, false, refl, arith}
use Rattle.map_facts_late.specs.Given.RuleChart.{Still, Chart}
use Rattle.map_facts_late.specs.Given.RuleMoves.{Links, Skips, Claims, Counts, GivesUp, Aborts, Promotes, after}
use Rattle.map_facts_late.specs.Given.RuleWords.{Blocks}
use Rattle.map_facts_late.proofs.Given.RuleSamples.SampleResizes.{spot, rooted, stored}
use Rattle.many_calls.specs.Sights.{IsVisibility}
use Rattle.many_calls.specs.Together.{no_sight}

-- caller 5 has given up a table behind the root, which was aborted then
abbrev given_up : Chart ℕ
given_up = after spot false (Aborts 1) (after spot false (GivesUp 5 1) (after spot false (Claims 5 1 1) (after spot false (Links 1 0) rooted)))

-- and has gone on to the next one, which is the root now
abbrev gone_on : Chart ℕ
gone_on =
    after spot false (Promotes 2)
    (after spot false (Counts 5 2 1) (after spot false (Skips 5 2 0) (after spot false (Claims 5 2 1) (after spot false (Links 1 0) given_up))))

module _ (blocks : Blocks) where
  -- a caller does not see the table that the root leads to
  sees_no_root : IsVisibility rooted blocks no_sight → ⊥
  sees_no_root s = let seen = s.linked 0 (omega arith) (omega arith) in cc seen

  -- it sees the table, and not the pair that stands in it
  sees_no_pair : IsVisibility stored blocks (record { tables = λ t. true; pairs = λ n. false }) → ⊥
  sees_no_pair s = let seen = s.named 0 0 0 Still false (omega arith) refl refl in cc seen

  -- it sees the table that was aborted, and not the one that was the root as it was linked
  sees_no_source : IsVisibility gone_on blocks (record { tables = λ t. leb 1 t; pairs = λ n. true }) → ⊥
  sees_no_source s = let seen = s.sources 1 (omega arith) refl refl in cc seen
