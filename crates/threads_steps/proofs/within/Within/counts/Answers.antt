use Rattle.std.specs.Prelude.{Ok}
use Rattle.std.proofs.Common.{ap, subst}
use Rattle.papaya_raw.specs.declared.machines.progress.Answer.TheVariants as said
use Rattle.threads_rule.specs.Given.ActsActs.{Count, Wanted}
use Rattle.threads_rule.specs.Errands.Calling.{outcome_of, wanted_of}
use Rattle.threads_rule.specs.Errands.Looking.{Begins}
use Rattle.threads_rule.proofs.Errands.Beginnings.{is_begun, stays_begun, stays_on}
use Rattle.threads_rule.proofs.Errands.Counting.{is_counting}
use Rattle.threads_rule.proofs.Errands.Runs.{has_run}
use Rattle.threads_steps.proofs.within.Within.counts.Goals as goal

pub begins-requires : goal.begins-requires
begins-requires g c = let m = c.requires.may.may in record { inside = (m.slot, m.inside); knows = (m.map, m.knows, m.only); free = m.free }

pub adds_all-requires : goal.adds_all-requires
adds_all-requires g c =
    let m = c.requires.may in record {
      counts =
          is_counting c.args.hasher.now g.K.PartialEq.eq g.S.Hashes.hash c.args.machine.now c.args.self.now.seat.now.view c.begins.new.self.seat.now.view m
          (is_begun g.K.PartialEq.eq g.S.Hashes.hash c.args.hasher.now c.args.machine.now c.args.self.now.seat.now.view c.begins.new.self.seat.now.view m.may c.begins.ensures.begins);
    }

pub returns-clause-counted : goal.returns-clause-counted
returns-clause-counted g c =
    let u = c.args.self.now.seat.now.view in let v = c.begins.new.self.seat.now.view in let w = c.adds_all.new.self.seat.now.view in
    let begins = subst (λ (wanted : Wanted g.row.K.Denot g.row.V.Denot). Begins g.K.PartialEq.eq g.S.Hashes.hash wanted u v) (ap wanted_of c.requires.may.counts) c.begins.ensures.begins in record {
      free = c.adds_all.ensures.ended.free;
      stays = stays_on u v w (stays_begun g.K.PartialEq.eq g.S.Hashes.hash Count u v begins) c.adds_all.ensures.stays;
      ran = has_run g.K.PartialEq.eq g.S.Hashes.hash Count (outcome_of (Ok (said.Count c.adds_all.result))) u v w begins c.adds_all.ensures.ended.told;
    }
