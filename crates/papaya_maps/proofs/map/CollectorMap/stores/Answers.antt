use Rattle.std.specs.Prelude.{Some}
use Rattle.std.proofs.Common.{ap, refl, sym, ◌∙◌}
use Rattle.papaya_maps.proofs.Ends.{call_ends}
use Rattle.papaya_maps.proofs.May.{alone_in, call_too, its_bits, its_known, may_on, on_both}
use Rattle.papaya_maps.proofs.Storing.{may_store}
use Rattle.papaya_maps.proofs.map.CollectorMap.stores.Goals as goal

pub lends-done-requires : goal.lends-done-requires
lends-done-requires g c =
    let m = c.args.self.now in let k = c.args.guard.now in let v = c.args.pass.now.seat.seat.view in
    let x = on_both k.caller m.owner m.setting m.hasher k.slot m.owns k.inside v in record {
      own = c.requires.pass ∙ sym c.requires.guard ∙ k.caller.own;
      one = sym c.requires.guard ∙ k.caller.own;
      may =
          may_on k.caller m.owner m.setting m.hasher k.slot m.owns k.inside v _
          (call_too g.K.PartialEq.eq g.S.Hashes.hash x k.slot refl (its_bits k.caller m.owner m.setting m.hasher k.slot m.owns k.inside v m.bits) m.hasher _
          (may_store g.K.PartialEq.eq g.S.Hashes.hash (alone_in x k.slot) m.setting c.setting_under-setting.result m.hasher c.args.key c.hash_of-hash.result k.slot refl refl c.args.pass.now.seat.back.free
          (ap Some (its_known k.caller m.owner m.setting m.hasher k.slot m.owns k.inside v)) c.setting_under-setting.ensures c.hash_of-hash.ensures c.hash_of-hash.type_inv c.args.value c.args.there c.requires.puts));
      ends = λ ran v w has. call_ends g.K.PartialEq.eq g.S.Hashes.hash _ ran.told ran.unstored v w has;
    }
