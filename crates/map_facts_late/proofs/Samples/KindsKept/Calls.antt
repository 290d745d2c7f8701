-- What the kind of a call refuses: answers, and steps that lead to them.
use Rattle.std.specs.Prelude.{ℕ, Some}
use Rattle.std.proofs.Common.{refl}
use Rattle.std.proofs.Math.Logic.{⊎_elim}
use Rattle.map_facts.specs.Given.TablesDeclared.marks.TheConstants.{TOMBSTONE}
use Rattle.map_facts.specs.Given.TablesDeclared.setting.Setting.{Setting}
use Rattle.map_facts.specs.Given.SeizeWordsDeclared.fault.Fault.TheVariants.{RemoveNothing}
use Rattle.map_facts.specs.Given.RawCallAsks.{updating, updating_or_inserting, trying_to_insert_with, removing_if}
use Rattle.map_facts.specs.Given.RawCallPoints.{standing, going, over, answered_with, inserting, trying_to_insert, removing, getting}
use Rattle.map_facts.specs.Given.RawDeclared.machines.answer.Called.TheVariants as called
use Rattle.map_facts.specs.Given.RawDeclared.machines.answer.End.TheVariants as ends
use Rattle.map_facts.specs.Given.RawDeclared.machines.answer.KeyAnswer.TheVariants as answers
use Rattle.map_facts.specs.Given.RawDeclared.machines.answer.Missing.TheVariants as missing
use Rattle.map_facts.specs.Given.RawDeclared.machines.answer.There.TheVariants as there
use Rattle.map_facts.specs.Given.RawDeclared.machines.asking.Asking.TheVariants as asking
use Rattle.map_facts.specs.Given.RawDeclared.machines.asking.Takes.TheVariants as told
use Rattle.map_facts.specs.Given.RawDeclared.machines.asking.Told.TheVariants as tells
use Rattle.map_facts.specs.Given.RawDeclared.machines.call.Calling.TheVariants as at
use Rattle.map_facts_late.specs.Kinds.{StepFits}

module _ (setting : Setting) where
  -- an insertion answers that the key is missing, and stores nothing
  inserts_nothing : StepFits there.Puts missing.Puts told.Nothing (answered_with (inserting {K = ℕ} {V = ℕ} {Q = ℕ} setting 7 7 3) answers.Absent) → ⊥
  inserts_nothing fits = ⊎_elim (λ e. cc e) (λ asks. cc asks.0) fits.1

  -- an insertion that is not to replace comes to put its pair where one is
  puts_over : StepFits there.Answers missing.Puts told.Nothing (going (trying_to_insert {K = ℕ} {V = ℕ} {Q = ℕ} setting 7 7 3) (at.Tries 4096 6144)) → ⊥
  puts_over fits = ⊎_elim (λ e. cc e) (λ asks. cc asks.0) ((fits.0.4.1.1 (λ e. cc e)).1 (λ e. cc e))

  -- a removal answers what it has found, and removes nothing
  removes_nothing : StepFits there.Removes missing.Answers told.Nothing (answered_with (removing {K = ℕ} {V = ℕ} {Q = ℕ} setting 7 7) (answers.Found 4096)) → ⊥
  removes_nothing fits = ⊎_elim (λ e. cc e) (λ asks. cc asks.0) fits.1

  -- a lookup comes to put a tombstone
  lookup_removes : StepFits there.Answers missing.Answers told.Nothing (going (getting {K = ℕ} {V = ℕ} {Q = ℕ} setting 7 7) (at.Tries 4096 TOMBSTONE)) → ⊥
  lookup_removes fits = fits.0.4.0 refl refl

  -- an update comes to put a tombstone
  update_removes : StepFits there.Asks missing.Answers told.Values (going (updating {K = ℕ} {V = ℕ} {Q = ℕ} setting 7 7) (at.Tries 4096 TOMBSTONE)) → ⊥
  update_removes fits = ⊎_elim (λ e. cc e) (λ asks. asks.1 refl) (fits.0.4.1.0 refl).1

  -- and one that is to insert where the key is missing answers that it is
  update_misses : StepFits there.Asks missing.Asks told.Values (answered_with (updating_or_inserting {K = ℕ} {V = ℕ} {Q = ℕ} setting 7 7 (tells.Value 3)) answers.Absent) → ⊥
  update_misses fits = ⊎_elim (λ e. cc e) (λ asks. cc asks.1) fits.1

  -- it is refused as one that is to remove nothing
  update_refused : StepFits there.Asks missing.Asks told.Values (over (updating_or_inserting {K = ℕ} {V = ℕ} {Q = ℕ} setting 7 7 tells.Nothing) (ends.Refused RemoveNothing)) → ⊥
  update_refused fits = ⊎_elim (λ room. ⊎_elim (λ e. cc e) (λ e. cc e) room.1) (λ changes. cc changes.0) fits.1

  -- a removal that chooses replaces a pair
  removal_replaces : StepFits there.Asks missing.Answers told.Choices (answered_with (removing_if {K = ℕ} {V = ℕ} {Q = ℕ} setting 7 7) (answers.Replaced 4096 6144)) → ⊥
  removal_replaces fits = ⊎_elim (λ e. cc e) (λ asks. asks.1 refl) fits.1

  -- and stores one where the key is missing
  removal_stores : StepFits there.Asks missing.Answers told.Choices (answered_with (removing_if {K = ℕ} {V = ℕ} {Q = ℕ} setting 7 7) (answers.Stored 4096)) → ⊥
  removal_stores fits = ⊎_elim (λ e. cc e) (λ e. cc e) fits.1

  -- an insertion that asks only where the key is missing asks for a pair
  insertion_asks : StepFits there.Answers missing.Asks told.Values (standing (trying_to_insert_with {K = ℕ} {V = ℕ} {Q = ℕ} setting 7 7) (at.Asks (asking.Present 4096)), called.Asks (Some 4096)) → ⊥
  insertion_asks fits = let asks = fits.1 in cc asks
