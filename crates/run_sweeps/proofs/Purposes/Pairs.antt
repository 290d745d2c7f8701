-- A sweep that shows a pair says so.
use Rattle.std.specs.Prelude.{◌≡◌, ℕ}
use Rattle.std.proofs.Common.{ap}
use Rattle.run_finds.specs.Given.ReservesDeclared.sweep.Swept.{Swept}
use Rattle.run_finds.specs.Given.ReservesDeclared.sweep.Swept.TheVariants as swept
use Rattle.run_finds.specs.Given.RawProgress.{of_swept}
use Rattle.run_finds.specs.Given.RawDeclared.machines.progress.Progress.TheVariants as progress

pub pair_swept : {T : Type 0} (word : ℕ) (end : Swept T) → of_swept end ≡ progress.Pair word → end ≡ swept.Pair word
pair_swept word swept.Goes e = absurd (cc e)
pair_swept word swept.Waits e = absurd (cc e)
pair_swept word (swept.Gave value) e = absurd (cc e)
pair_swept word swept.Ready e = absurd (cc e)
pair_swept word (swept.Pair there) e = (let same_word : there ≡ word = cc e in ap (λ (x : ℕ). swept.Pair x) same_word)
pair_swept word (swept.Asks there) e = absurd (cc e)
pair_swept word swept.Done e = absurd (cc e)
pair_swept word (swept.Refused fault) e = absurd (cc e)
