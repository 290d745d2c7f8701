use Rattle.std.specs.Prelude.{Some, option_map}
use Rattle.std.proofs.Common.{ap, refl, subst, sym, ◌∙◌}
use Rattle.map_machines.specs.Lookup.{looking}
use Rattle.threads_calls.proofs.Sessions.{may_look}
use Rattle.papaya_maps.proofs.Calls.{had_on}
use Rattle.papaya_maps.specs.Calls.{MapHadOn}
use Rattle.papaya_maps.proofs.Ends.{finds_end}
use Rattle.papaya_maps.proofs.May.{alone_in, its_known, look_too, may_on, on_both}
use Rattle.papaya_maps.proofs.Small.{small}
use Rattle.papaya_maps.proofs.map.CollectorMap.finds.Goals as goal

pub lends-done-requires : goal.lends-done-requires
lends-done-requires g c =
    let m = c.args.self.now in let k = c.args.guard.now in let v = c.args.pass.now.seat.seat.view in let key = g.Q.Equivalent.stands_for c.args.key.now in
    let x = on_both k.caller m.owner m.setting m.hasher k.slot m.owns k.inside v in record {
      own = c.requires.pass ∙ sym c.requires.guard ∙ k.caller.own;
      one = sym c.requires.guard ∙ k.caller.own;
      may =
          may_on k.caller m.owner m.setting m.hasher k.slot m.owns k.inside v _
          (look_too g.K.PartialEq.eq g.S.Hashes.hash x k.slot refl key c.new-lookup.result
          (may_look g.S.Hashes.hash (alone_in x k.slot) m.setting m.hasher key c.new-lookup.result k.slot refl refl c.args.pass.now.seat.back.free
          (ap Some (its_known k.caller m.owner m.setting m.hasher k.slot m.owns k.inside v))
          (c.new-lookup.ensures ∙ ap (looking m.setting.root m.setting.mode) c.hash_by-hash.ensures)));
      ends = finds_end g.K.PartialEq.eq g.S.Hashes.hash key;
    }

pub returns-clause-had : goal.returns-clause-had
returns-clause-had g c =
    let m = c.args.self.now in let k = c.args.guard.now in let lent = c.lends-done.ensures.lent in let d = c.lends-done.result in let v = c.args.pass.now.seat.seat.view in let w = c.lends-done.new.pass.seat.view in
    let key = g.Q.Equivalent.stands_for c.args.key.now in
    subst (λ o. MapHadOn g.K.PartialEq.eq g.S.Hashes.hash k.caller m.owner key (option_map (λ pair. (pair.0.now, pair.1.now)) o) v w) (ap (λ p. p.2) (sym c.parts.ensures))
    (had_on g.K.PartialEq.eq g.S.Hashes.hash k.caller m.owner (small k.caller.blocks.now.words.fixed.batch_size k.small) v w key d.answer (option_map (λ pair. (pair.0.now, pair.1.now)) d.there) lent.on lent.there)
