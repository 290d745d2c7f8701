use Rattle.std.specs.Prelude.{Some}
use Rattle.std.proofs.Common.{ℕ, ap, refl, subst, sym, ◌∙◌}
use Rattle.papaya_maps.proofs.Calls.{counted_on}
use Rattle.papaya_maps.specs.Calls.{MapCountedOn}
use Rattle.papaya_maps.proofs.Ends.{counts_end}
use Rattle.papaya_maps.proofs.May.{alone_in, count_too, its_bits, its_known, may_on, on_both}
use Rattle.papaya_maps.proofs.Small.{small}
use Rattle.threads_calls.proofs.Whole.{may_count}
use Rattle.papaya_maps.proofs.map.CollectorMap.counts.Goals as goal

pub lends-done-requires : goal.lends-done-requires
lends-done-requires g c =
    let m = c.args.self.now in let k = c.args.guard.now in let v = c.args.pass.now.seat.seat.view in
    let x = on_both k.caller m.owner m.setting m.hasher k.slot m.owns k.inside v in record {
      own = c.requires.pass ∙ sym c.requires.guard ∙ k.caller.own;
      one = sym c.requires.guard ∙ k.caller.own;
      may =
          may_on k.caller m.owner m.setting m.hasher k.slot m.owns k.inside v _
          (count_too g.K.PartialEq.eq g.S.Hashes.hash x k.slot refl (its_bits k.caller m.owner m.setting m.hasher k.slot m.owns k.inside v m.bits) m.hasher _
          (may_count g.K.PartialEq.eq g.S.Hashes.hash (alone_in x k.slot) m.setting c.setting_under-setting.result m.hasher k.slot refl refl c.args.pass.now.seat.back.free
          (ap Some (its_known k.caller m.owner m.setting m.hasher k.slot m.owns k.inside v)) c.setting_under-setting.ensures c.new-sum.result c.new-sum.ensures));
      ends = counts_end g.K.PartialEq.eq g.S.Hashes.hash;
    }

pub returns-clause-counted : goal.returns-clause-counted
returns-clause-counted g c =
    let m = c.args.self.now in let k = c.args.guard.now in let d = c.lends-done.result in let v = c.args.pass.now.seat.seat.view in let w = c.lends-done.new.pass.seat.view in
    subst (λ (n : ℕ). MapCountedOn g.K.PartialEq.eq g.S.Hashes.hash k.caller m.owner n v w) (ap (λ p. p.0) (sym c.parts.ensures))
    (counted_on g.K.PartialEq.eq g.S.Hashes.hash k.caller m.owner (small k.caller.blocks.now.words.fixed.batch_size k.small) v w d.answer c.lends-done.ensures.lent.on)
