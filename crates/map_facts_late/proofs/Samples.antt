-- What may be answered from a table that the root has left, in tables of one place and one pair: it was removed since.
pub mod Plans
pub mod Rooms
mod KindsKept
use Rattle.std.proofs.Common.{◌≡◌, ℕ, suc, true, false, refl, eqb, arith, subst}
use Rattle.map_facts.specs.Given.RawDeclared.machines.answer.KeyAnswer.TheVariants as answers
use Rattle.map_facts.specs.Given.RuleChart.{Chart, Still, Holds}
use Rattle.map_facts.specs.Given.RuleMoves.{Removes, Promotes, after}
use Rattle.map_facts.specs.Given.RuleWords.{Blocks, place_word}
use Rattle.map_facts.proofs.Given.RuleSamples.SampleResizes.{spot, counted_blocking}
use Rattle.map_facts_late.specs.Left.{Left}
use Rattle.map_facts_late.specs.Was.{HadNone, SoSince}

abbrev hash : ℕ → ℕ
hash k = k

-- the root has left table 0 at moment 1, and the pair was removed at moment 2
abbrev removed : Chart ℕ
removed = after spot false (Removes 1 0) (after spot false (Promotes 1) counted_blocking)

abbrev shown : Blocks
shown = record { table = λ t. suc t; pair = λ n. 9; table_known = λ t. true; pair_known = λ n. true }

abbrev its_word : ℕ
its_word = place_word hash removed shown (Holds 0 Still false)

is_left : Left removed 1 0
is_left = record { behind = omega arith; was_root = λ e. cc e; since = omega arith }

-- a call that began before finds the pair
was_found : SoSince hash removed shown (eqb 7) 1 (answers.Found its_word)
was_found = (1, omega arith, omega arith, (0, (omega arith, refl, 7, refl, refl), refl, Still, false, refl))

-- One that begins now may not, and that table is none that the root has left since.
found_too_late : SoSince hash removed shown (eqb 7) 2 (answers.Found its_word) → ⊥
found_too_late (m, since, before, (n, had, known, phase, borrowed, word_is)) =
    let was : removed.was m n ≡ true = had.1 in
    let now : m ≡ 2 = omega (arith, since, before) in
    none n (subst (λ (x : ℕ). removed.was x n ≡ true) now was)
  where
    none : (n : ℕ) → removed.was 2 n ≡ true → ⊥
    none n e = grind (arith, e)

left_too_late : Left removed 2 0 → ⊥
left_too_late left = absurd (let since = left.since in omega (arith, since))

-- the map had the pair at moment 1, and none at moment 2
none_too_early : HadNone hash removed shown (eqb 7) 1 → ⊥
none_too_early none = let e : true ≡ false = none.1 0 7 (omega arith) refl refl in absurd (cc e)

none_now : SoSince hash removed shown (eqb 7) 1 answers.Absent
none_now = (2, omega arith, omega arith, ((λ n was. absurd (grind (arith, was))), λ n k stored was key. absurd (grind (arith, was))))
