-- What a call keeps once its pair was not stored.
use Rattle.std.specs.Prelude.{Option}
use Rattle.std.proofs.Common.{◌≡◌, refl}
use Rattle.papaya_raw.specs.Given.TablesDeclared.node.Node.{Node}
use Rattle.run_executor.specs.Named.Telling.{kept, kept_by, value_of}
use Rattle.run_executor.specs.declared.callers.Keeps.TheVariants.{Unstored}
use Rattle.run_executor.specs.declared.kind.CallKind.{CallKind}
use Rattle.run_executor.specs.declared.kind.CallKind.TheVariants as kind

pub unstored_kept : {K V : Type 0} (k : CallKind) (node : Node K V) (value : Option V) → kept_by (Unstored (value_of node)) k value ≡ kept k node value
unstored_kept kind.Finds node value = refl
unstored_kept kind.Inserts node value = refl
unstored_kept kind.TriesToInsert node value = refl
unstored_kept kind.TriesToInsertWith node value = refl
unstored_kept kind.Updates node value = refl
unstored_kept kind.Computes node value = refl
unstored_kept kind.RemovesIf node value = refl
unstored_kept kind.Reserves node value = refl
unstored_kept kind.Clears node value = refl
unstored_kept kind.Retains node value = refl
unstored_kept kind.Counts node value = refl
unstored_kept kind.Walks node value = refl
