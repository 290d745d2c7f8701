use Rattle.std.specs.Prelude.{None}
use Rattle.threads_rule.specs.Errands.Calling.{outcome_of, wanted_of}
use Rattle.threads_steps.specs.Storing.{first}
use Rattle.threads_rule.proofs.Errands.Beginnings.{is_begun, stays_begun, stays_on}
use Rattle.threads_rule.proofs.Errands.Runs.{comes_back, has_run}
use Rattle.threads_steps.proofs.within.Within.does.Goals as goal

pub begins-requires : goal.begins-requires
begins-requires g c = let m = c.requires.may.may in record { inside = (m.slot, m.inside); knows = (m.map, m.knows, m.only); free = m.free }

pub runs-requires : goal.runs-requires
runs-requires g c =
    let m = c.requires.may in record {
      calls =
          record {
            at = is_begun g.K.PartialEq.eq g.S.Hashes.hash c.args.hasher.now c.args.machine.now c.args.self.now.seat.now.view c.begins.new.self.seat.now.view m.may c.begins.ensures.begins;
            none = m.none;
          };
    }

pub returns-clause-called : goal.returns-clause-called
returns-clause-called g c =
    let u = c.args.self.now.seat.now.view in let v = c.begins.new.self.seat.now.view in let w = c.runs.new.self.seat.now.view in
    let wanted = wanted_of c.args.machine.now in record {
      free = c.runs.ensures.ended.free;
      stays = stays_on u v w (stays_begun g.K.PartialEq.eq g.S.Hashes.hash wanted u v c.begins.ensures.begins) c.runs.ensures.stays;
      ran = has_run g.K.PartialEq.eq g.S.Hashes.hash wanted (outcome_of c.runs.result.told) u v w c.begins.ensures.begins c.runs.ensures.ended.told;
      back =
          comes_back g.K.PartialEq.eq g.S.Hashes.hash wanted c.runs.result.told c.runs.result.unstored u v c.begins.ensures.begins
          (λ pair its began. c.runs.ensures.back pair (first c.args.machine.now None (c.requires.may.stores pair its)) began);
      shows = c.runs.ensures.ended.shows;
    }
