-- The beginning of it that all is reclaimed.
use Rattle.run_logged.proofs.Log.ReclaimsOn.{reclaiming_begins}
use Rattle.run_logged.proofs.logged.Logged.begin_reclaiming.Goals as goal

pub returns : goal.returns
returns g c = record {
  shown = λ same hash name m s i lists shown nobody may.
      reclaiming_begins same hash c.args.self.now name m s i lists _ shown (c.new.ensures.begins same hash s i lists shown.is_at nobody may);
  is = c.new.ensures.is;
}
