use Rattle.std.specs.Prelude.{Result, Err, option_map}
use Rattle.std.proofs.Common.{ap, refl, sym, subst, ◌∙◌}
use Rattle.map_tables.specs.declared.node.Node.TheVariants.{Pair}
use Rattle.papaya_raw.specs.declared.machines.progress.Answer.{Answer}
use Rattle.seize_words.specs.declared.fault.Fault.{Fault}
use Rattle.threads_callers.specs.Given.ActsActs.{Insert}
use Rattle.threads_owners.specs.Loans.{IsLentIf, names_of}
use Rattle.threads_callers.specs.Answers.{replaced_by}
use Rattle.papaya_maps.specs.Calls.{IsIf}
use Rattle.papaya_maps.proofs.Calls.{came_to_have_on, if_mapped, refused_on, replaced_gone, told_on, values}
use Rattle.papaya_maps.proofs.Small.{small}
use Rattle.threads_callers.proofs.Answered.{one_back}
use Rattle.papaya_maps.proofs.map.CollectorMap.puts.Goals as goal

pub stores-done-requires : goal.stores-done-requires
stores-done-requires g c = record { pass = c.requires.pass; guard = c.requires.guard; puts = tt }

pub returns-in-Ok-clause-stored : goal.returns-in-Ok-clause-stored
returns-in-Ok-clause-stored g c =
    let m = c.args.self.now in let k = c.args.guard.now in let d = c.stores-done.result in let lent = c.stores-done.ensures.stored in let v = c.args.pass.now.seat.seat.view in let w = c.stores-done.new.pass.seat.seat.view in
    let short = small k.caller.blocks.now.words.fixed.batch_size k.small in
    let told = (ap (λ p. p.0.told) (sym c.parts-ran.ensures) ∙ c.in-Ok.is) in let on = told_on g.K.PartialEq.eq g.S.Hashes.hash k.caller m.owner short v w told lent.on in (
      option_map (λ pair. (pair.0.now, pair.1.now)) c.if_replaced.result,
      c.value_of.ensures ∙ values (λ pair. (pair.0.now, pair.1.now)) c.if_replaced.result,
      came_to_have_on g.K.PartialEq.eq g.S.Hashes.hash k.caller m.owner short v w c.args.key c.args.value c.in-Ok.answer (option_map (λ pair. (pair.0.now, pair.1.now)) c.if_replaced.result) on
          (replaced_gone g.K.PartialEq.eq g.S.Hashes.hash k.caller m.owner short v w on.knew c.in-Ok.answer (option_map (λ pair. (pair.0.now, pair.1.now)) d.gone) (option_map (λ pair. (pair.0.now, pair.1.now)) c.if_replaced.result)
          (subst (λ (r : Result Answer Fault). IsLentIf g.K.PartialEq.eq g.S.Hashes.hash k.caller m.owner on.knew (names_of r).0 (option_map (λ pair. (pair.0.now, pair.1.now)) d.gone)) told lent.gone)
          (if_mapped (λ pair. (pair.0.now, pair.1.now)) _ d.gone c.if_replaced.result (subst (λ o. IsIf (replaced_by c.in-Ok.answer) o c.if_replaced.result) (ap (λ p. p.1) c.parts-ran.ensures) c.if_replaced.ensures))),
    )

pub refused-requires : goal.refused-requires
refused-requires g c =
    let m = c.args.self.now in let k = c.args.guard.now in let d = c.stores-done.result in let lent = c.stores-done.ensures.stored in let v = c.args.pass.now.seat.seat.view in let w = c.stores-done.new.pass.seat.seat.view in
    let short = small k.caller.blocks.now.words.fixed.batch_size k.small in
    let on = told_on g.K.PartialEq.eq g.S.Hashes.hash k.caller m.owner short v w (ap (λ p. p.0.told) (sym c.parts-ran.ensures) ∙ c.in-Err.is) lent.on in
    record { back = (c.args.key, c.args.value, ap (λ p. p.0.unstored) c.parts-ran.ensures ∙ on.done.back (Pair c.args.key c.args.value) refl) }

pub returns-in-Err-clause-refused : goal.returns-in-Err-clause-refused
returns-in-Err-clause-refused g c =
    let m = c.args.self.now in let k = c.args.guard.now in let d = c.stores-done.result in let lent = c.stores-done.ensures.stored in let v = c.args.pass.now.seat.seat.view in let w = c.stores-done.new.pass.seat.seat.view in
    let short = small k.caller.blocks.now.words.fixed.batch_size k.small in
    refused_on g.K.PartialEq.eq g.S.Hashes.hash k.caller m.owner short v w (Insert c.args.key c.args.value) c.refused.result.fault refl
    (told_on g.K.PartialEq.eq g.S.Hashes.hash k.caller m.owner short v w ((ap (λ p. p.0.told) (sym c.parts-ran.ensures) ∙ c.in-Err.is) ∙ ap Err (sym c.refused.ensures.fault)) lent.on)

pub returns-in-Err-clause-back : goal.returns-in-Err-clause-back
returns-in-Err-clause-back g c =
    let m = c.args.self.now in let k = c.args.guard.now in let d = c.stores-done.result in let lent = c.stores-done.ensures.stored in let v = c.args.pass.now.seat.seat.view in let w = c.stores-done.new.pass.seat.seat.view in
    let short = small k.caller.blocks.now.words.fixed.batch_size k.small in
    let on = told_on g.K.PartialEq.eq g.S.Hashes.hash k.caller m.owner short v w (ap (λ p. p.0.told) (sym c.parts-ran.ensures) ∙ c.in-Err.is) lent.on in
    one_back d.answer.unstored c.refused.result.key c.args.key c.refused.result.value c.args.value (sym (ap (λ p. p.0.unstored) c.parts-ran.ensures) ∙ c.refused.ensures.back)
    (on.done.back (Pair c.args.key c.args.value) refl)
