use Rattle.threads_calls.proofs.Whole.{may_count}
use Rattle.threads_calls.proofs.session.SessionBase.len.Goals as goal

pub counts-requires : goal.counts-requires
counts-requires g c =
    let x = c.args.self.now in record {
      may =
          may_count g.K.PartialEq.eq g.S.Hashes.hash x.caller.seat.view x.setting c.setting_in-setting.result x.hasher.now x.slot x.caller.lone c.requires.inside x.free x.knows
          c.setting_in-setting.ensures c.new-sum.result c.new-sum.ensures;
    }

pub returns-clause-counted : goal.returns-clause-counted
returns-clause-counted g c = c.counts.ensures.counted.ran
