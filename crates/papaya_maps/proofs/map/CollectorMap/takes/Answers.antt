use Rattle.std.specs.Prelude.{Result, Some, None, option_map}
use Rattle.std.proofs.Common.{ap, refl, sym, subst, ◌∙◌}
use Rattle.papaya_raw.specs.declared.machines.progress.Answer.{Answer}
use Rattle.seize_words.specs.declared.fault.Fault.{Fault}
use Rattle.threads_callers.specs.Given.ActsActs.{Remove}
use Rattle.threads_owners.specs.Loans.{IsLentIf, names_of}
use Rattle.papaya_maps.proofs.Calls.{gave_up_on, if_mapped, refused_on, removed_gone, told_on}
use Rattle.papaya_maps.proofs.Small.{small}
use Rattle.papaya_raw.specs.CallPoints.{removing}
use Rattle.papaya_maps.proofs.Ends.{call_ends}
use Rattle.papaya_maps.proofs.May.{alone_in, call_too, its_bits, its_known, may_on, on_both}
use Rattle.papaya_maps.specs.Calls.{IsIf}
use Rattle.threads_calls.proofs.Keys.{may_remove}
use Rattle.threads_callers.specs.Answers.{removed_by}
use Rattle.papaya_maps.proofs.map.CollectorMap.takes.Goals as goal

pub lends-done-requires : goal.lends-done-requires
lends-done-requires g c =
    let m = c.args.self.now in let k = c.args.guard.now in let v = c.args.pass.now.seat.seat.view in let key = g.Q.Equivalent.stands_for c.args.key.now in
    let x = on_both k.caller m.owner m.setting m.hasher k.slot m.owns k.inside v in let its = c.setting_under-setting.result in let hashed = c.hash_by-hash.result in record {
      own = c.requires.pass ∙ sym c.requires.guard ∙ k.caller.own;
      one = sym c.requires.guard ∙ k.caller.own;
      may =
          may_on k.caller m.owner m.setting m.hasher k.slot m.owns k.inside v _
          (call_too g.K.PartialEq.eq g.S.Hashes.hash x k.slot refl (its_bits k.caller m.owner m.setting m.hasher k.slot m.owns k.inside v m.bits) m.hasher _
          (may_remove g.K.PartialEq.eq g.S.Hashes.hash (alone_in x k.slot) m.setting its m.hasher key hashed k.slot (removing its hashed key) refl refl c.args.pass.now.seat.back.free
          (ap Some (its_known k.caller m.owner m.setting m.hasher k.slot m.owns k.inside v)) c.setting_under-setting.ensures c.hash_by-hash.ensures c.hash_by-hash.type_inv refl));
      ends = λ answer v w has. call_ends g.K.PartialEq.eq g.S.Hashes.hash _ answer None v w has;
    }

pub returns-in-Ok-clause-removed : goal.returns-in-Ok-clause-removed
returns-in-Ok-clause-removed g c =
    let m = c.args.self.now in let k = c.args.guard.now in let d = c.lends-done.result in let lent = c.lends-done.ensures.lent in let v = c.args.pass.now.seat.seat.view in let w = c.lends-done.new.pass.seat.view in
    let short = small k.caller.blocks.now.words.fixed.batch_size k.small in
    let told = ap (λ p. p.0) (sym c.parts-told.ensures) ∙ c.in-Ok.is in let on = told_on g.K.PartialEq.eq g.S.Hashes.hash k.caller m.owner short v w told lent.on in
    gave_up_on g.K.PartialEq.eq g.S.Hashes.hash k.caller m.owner short v w (g.Q.Equivalent.stands_for c.args.key.now) c.in-Ok.answer (option_map (λ pair. (pair.0.now, pair.1.now)) c.if_removed.result) on
    (removed_gone g.K.PartialEq.eq g.S.Hashes.hash k.caller m.owner short v w on.knew c.in-Ok.answer (option_map (λ pair. (pair.0.now, pair.1.now)) d.gone) (option_map (λ pair. (pair.0.now, pair.1.now)) c.if_removed.result)
    (subst (λ (r : Result Answer Fault). IsLentIf g.K.PartialEq.eq g.S.Hashes.hash k.caller m.owner on.knew (names_of r).0 (option_map (λ pair. (pair.0.now, pair.1.now)) d.gone)) told lent.gone)
    (if_mapped (λ pair. (pair.0.now, pair.1.now)) _ d.gone c.if_removed.result (subst (λ o. IsIf (removed_by c.in-Ok.answer) o c.if_removed.result) (ap (λ p. p.1) c.parts-told.ensures) c.if_removed.ensures)))

pub returns-in-Err-clause-refused : goal.returns-in-Err-clause-refused
returns-in-Err-clause-refused g c =
    let m = c.args.self.now in let k = c.args.guard.now in let d = c.lends-done.result in let lent = c.lends-done.ensures.lent in let v = c.args.pass.now.seat.seat.view in let w = c.lends-done.new.pass.seat.view in
    let short = small k.caller.blocks.now.words.fixed.batch_size k.small in
    refused_on g.K.PartialEq.eq g.S.Hashes.hash k.caller m.owner short v w (Remove (g.Q.Equivalent.stands_for c.args.key.now)) c.in-Err.fault refl (told_on g.K.PartialEq.eq g.S.Hashes.hash k.caller m.owner short v w (ap (λ p. p.0) (sym c.parts-told.ensures) ∙ c.in-Err.is) lent.on)
