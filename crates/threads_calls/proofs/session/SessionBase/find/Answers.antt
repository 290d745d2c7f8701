use Rattle.std.proofs.Common.{ap, ◌∙◌}
use Rattle.map_machines.specs.Lookup.{looking}
use Rattle.threads_calls.proofs.Sessions.{may_look}
use Rattle.threads_calls.proofs.session.SessionBase.find.Goals as goal

pub finds-requires : goal.finds-requires
finds-requires g c =
    let x = c.args.self.now in record {
      may =
          may_look g.S.Hashes.hash x.caller.seat.view x.setting x.hasher.now (g.Q.Equivalent.stands_for c.args.key.now) c.new-lookup.result x.slot x.caller.lone c.requires.inside x.free x.knows
          (c.new-lookup.ensures ∙ ap (looking x.setting.root x.setting.mode) c.hash_by-hash.ensures);
    }
