-- The pair of a number among those that were reclaimed, and then among the others.
use Rattle.std.proofs.Common.{◌≡◌, ℕ, Some, None, ap, ◌∙◌}
use Rattle.std.specs.Prelude.{◌==◌, find}
use Rattle.std.specs.Option.{option_or}
use Rattle.std.proofs.lemmas.List.Folds.{find-append}
use Rattle.run_schedules.specs.Schedules.Runs.{pair_of}
use Rattle.reclaimed_engine.specs.PrintedText.Text.{WordPair, WordRun}

pub pair_of-first : (run : WordRun) (n : ℕ) (pair : WordPair) → find (λ p. p.number == n) run.given_back ≡ Some pair → pair_of run n ≡ Some pair
pair_of-first run n pair is = find-append (λ p. p.number == n) run.given_back run.kept ∙ ap (λ o. option_or o (find (λ p. p.number == n) run.kept)) is

pub pair_of-second : (run : WordRun) (n : ℕ) → find (λ p. p.number == n) run.given_back ≡ None → pair_of run n ≡ find (λ p. p.number == n) run.kept
pair_of-second run n is = find-append (λ p. p.number == n) run.given_back run.kept ∙ ap (λ o. option_or o (find (λ p. p.number == n) run.kept)) is
