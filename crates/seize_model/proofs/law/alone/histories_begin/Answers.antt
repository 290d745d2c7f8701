use Rattle.seize_model.proofs.Alone.Laws.{histories_begin, choices_are_quiet}
use Rattle.seize_model.proofs.law.alone.histories_begin.Goals as goal

pub returns : goal.returns
returns g c = record {
  begins = histories_begin;
  choices = choices_are_quiet;
}
