-- It comes to its end, and the map has no pair then, or the same pairs.
use Rattle.owner_calls.proofs.Sifts.Over.Clears.{clearing_ends, clearing_done, clearing_ran, clearing_refused, clearing_faults, clearing_ends_at}
use Rattle.owner_calls.proofs.sweeps.empty.Goals as goal

pub run-requires : goal.run-requires
run-requires g c = let r = c.requires in clearing_ends {S = g.row.S.Denot} _ _ c.args.hasher c.args.setting _ r.0 r.1 _ c.clear-sweep.ensures

pub returns-in-Ok : goal.returns-in-Ok
returns-in-Ok g c = record {
  done = λ xs has. clearing_done {S = g.row.S.Denot} _ _ c.args.hasher c.args.setting _ xs has _ c.clear-sweep.ensures _ _ _ c.in-Ok.ensures;
  refused = λ xs has. tt;
  fault = tt;
  capacity = λ xs has. tt;
  ran = (let r = c.requires in clearing_ran {S = g.row.S.Denot} _ _ c.args.hasher c.args.setting _ r.0 r.1 _ c.clear-sweep.ensures _ _ _ c.in-Ok.ensures);
}

pub returns-in-Err : goal.returns-in-Err
returns-in-Err g c = record {
  done = λ xs has. tt;
  refused = λ xs has. clearing_refused {S = g.row.S.Denot} _ _ c.args.hasher c.args.setting _ xs has _ c.clear-sweep.ensures _ _ _ c.in-Err.ensures;
  fault = (let r = c.requires in clearing_faults {S = g.row.S.Denot} _ _ c.args.hasher c.args.setting _ r.0 r.1 _ c.clear-sweep.ensures _ _ _ c.in-Err.ensures);
  capacity = λ xs has. clearing_ends_at {S = g.row.S.Denot} _ _ c.args.hasher c.args.setting _ xs has _ c.clear-sweep.ensures _ _ _ c.in-Err.ensures;
  ran = (let r = c.requires in clearing_ran {S = g.row.S.Denot} _ _ c.args.hasher c.args.setting _ r.0 r.1 _ c.clear-sweep.ensures _ _ _ c.in-Err.ensures);
}
