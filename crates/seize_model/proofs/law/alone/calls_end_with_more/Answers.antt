-- How a call midway ends.
use Rattle.seize_model.proofs.Alone.Laws.{calls_end_with_more}
use Rattle.seize_model.proofs.law.alone.calls_end_with_more.Goals as goal

pub returns : goal.returns
returns g c = record {
  more = calls_end_with_more;
}
