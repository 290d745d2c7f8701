use Rattle.std.specs.Prelude.{Some, None}
use Rattle.papaya_raw.specs.declared.machines.answer.Missing.TheVariants.{Puts}
use Rattle.papaya_raw.specs.declared.machines.asking.Takes.TheVariants.{Nothing}
use Rattle.threads_rule.specs.Errands.Calling.{wanted_by}
use Rattle.threads_steps.proofs.within.Within.begins_to_store.Given as goal

-- that pair is to be stored
abbrev pub ghosts-begins_with_as : goal.ghosts-begins_with_as
ghosts-begins_with_as g a = record { wanted = wanted_by a._there Puts Nothing (Some a._pair.now) None None }
