use Rattle.std.specs.Prelude.{Result, Ok, Err, option_map}
use Rattle.std.proofs.Common.{ap, refl, sym, subst, ◌∙◌}
use Rattle.map_tables.specs.declared.node.Node.TheVariants.{Pair}
use Rattle.papaya_raw.specs.declared.machines.progress.Answer.{Answer}
use Rattle.seize_words.specs.declared.fault.Fault.{Fault}
use Rattle.threads_callers.specs.Answers.{IsOutOf, has_stored}
use Rattle.threads_callers.specs.Given.ActsActs.{TryToInsert}
use Rattle.threads_callers.specs.Given.ErrandsCalling.{IsBack, pair_there}
use Rattle.threads_owners.specs.Loans.{IsLentIf, names_of}
use Rattle.papaya_maps.proofs.Calls.{lacked_on, none_lent, refused_on, told_on}
use Rattle.papaya_maps.proofs.Small.{small}
use Rattle.threads_callers.proofs.Answered.{came_back, one_back}
use Rattle.papaya_maps.proofs.map.CollectorMap.tries.Goals as goal

pub stores-done-requires : goal.stores-done-requires
stores-done-requires g c = record { pass = c.requires.pass; guard = c.requires.guard; puts = tt }

pub unreachable-requires : goal.unreachable-requires
unreachable-requires g c =
    let m = c.args.self.now in let k = c.args.guard.now in let d = c.stores-done.result in let lent = c.stores-done.ensures.stored in let v = c.args.pass.now.seat.seat.view in let w = c.stores-done.new.pass.seat.seat.view in
    let short = small k.caller.blocks.now.words.fixed.batch_size k.small in
    let told = ap (λ p. p.0.told) (sym c.parts-ran.ensures) ∙ c.in-Ok.is in let on = told_on g.K.PartialEq.eq g.S.Hashes.hash k.caller m.owner short v w told lent.on in
    none_lent g.K.PartialEq.eq g.S.Hashes.hash k.caller m.owner short v w on.knew (pair_there c.in-Ok.answer) (on.done.back (Pair c.args.key c.args.value) refl).1
    (subst (λ o. IsLentIf g.K.PartialEq.eq g.S.Hashes.hash k.caller m.owner on.knew (pair_there c.in-Ok.answer) (option_map (λ pair. (pair.0.now, pair.1.now)) o)) (ap (λ p. p.2) (sym c.parts-ran.ensures) ∙ c.in-None.is)
    (subst (λ (r : Result Answer Fault). IsLentIf g.K.PartialEq.eq g.S.Hashes.hash k.caller m.owner on.knew (names_of r).1 (option_map (λ pair. (pair.0.now, pair.1.now)) d.there)) told lent.there))

pub came_of-requires : goal.came_of-requires
came_of-requires g c =
    let m = c.args.self.now in let k = c.args.guard.now in let d = c.stores-done.result in let lent = c.stores-done.ensures.stored in let v = c.args.pass.now.seat.seat.view in let w = c.stores-done.new.pass.seat.seat.view in
    let short = small k.caller.blocks.now.words.fixed.batch_size k.small in
    let on = told_on g.K.PartialEq.eq g.S.Hashes.hash k.caller m.owner short v w (ap (λ p. p.0.told) (sym c.parts-ran.ensures) ∙ c.in-Ok.is) lent.on in record {
      back = (
        c.args.key,
        c.args.value,
        subst (λ o. IsBack (Pair c.args.key c.args.value) (Ok c.in-Ok.answer) o) (ap (λ p. p.0.unstored) (sym c.parts-ran.ensures)) (on.done.back (Pair c.args.key c.args.value) refl),
      );
    }

pub returns-in-Some-clause-tried : goal.returns-in-Some-clause-tried
returns-in-Some-clause-tried g c =
    let m = c.args.self.now in let k = c.args.guard.now in let d = c.stores-done.result in let lent = c.stores-done.ensures.stored in let v = c.args.pass.now.seat.seat.view in let w = c.stores-done.new.pass.seat.seat.view in
    let short = small k.caller.blocks.now.words.fixed.batch_size k.small in
    let told = ap (λ p. p.0.told) (sym c.parts-ran.ensures) ∙ c.in-Ok.is in let on = told_on g.K.PartialEq.eq g.S.Hashes.hash k.caller m.owner short v w told lent.on in
    let found = c.in-Some.field-0-0.now in (
      found,
      lacked_on g.K.PartialEq.eq g.S.Hashes.hash k.caller m.owner short v w c.args.key c.args.value (has_stored c.came_of.result) c.in-Ok.answer (found, c.in-Some.lent.now) on c.came_of.ensures.stored
          (subst (λ o. IsLentIf g.K.PartialEq.eq g.S.Hashes.hash k.caller m.owner on.knew (pair_there c.in-Ok.answer) (option_map (λ pair. (pair.0.now, pair.1.now)) o)) (ap (λ p. p.2) (sym c.parts-ran.ensures) ∙ c.in-Some.is)
          (subst (λ (r : Result Answer Fault). IsLentIf g.K.PartialEq.eq g.S.Hashes.hash k.caller m.owner on.knew (names_of r).1 (option_map (λ pair. (pair.0.now, pair.1.now)) d.there)) told lent.there)),
    )

pub returns-in-Some-clause-present : goal.returns-in-Some-clause-present
returns-in-Some-clause-present g c =
    let m = c.args.self.now in let k = c.args.guard.now in let d = c.stores-done.result in let lent = c.stores-done.ensures.stored in let v = c.args.pass.now.seat.seat.view in let w = c.stores-done.new.pass.seat.seat.view in
    let short = small k.caller.blocks.now.words.fixed.batch_size k.small in
    let on = told_on g.K.PartialEq.eq g.S.Hashes.hash k.caller m.owner short v w (ap (λ p. p.0.told) (sym c.parts-ran.ensures) ∙ c.in-Ok.is) lent.on in
    came_back c.args.key c.args.value c.came_of.result c.in-Ok.answer d.answer.unstored c.came_of.ensures.stored
    (subst (λ o. IsOutOf o c.came_of.result) (ap (λ p. p.0.unstored) c.parts-ran.ensures) c.came_of.ensures.back) (on.done.back (Pair c.args.key c.args.value) refl)

pub refused-requires : goal.refused-requires
refused-requires g c =
    let m = c.args.self.now in let k = c.args.guard.now in let d = c.stores-done.result in let lent = c.stores-done.ensures.stored in let v = c.args.pass.now.seat.seat.view in let w = c.stores-done.new.pass.seat.seat.view in
    let short = small k.caller.blocks.now.words.fixed.batch_size k.small in
    let on = told_on g.K.PartialEq.eq g.S.Hashes.hash k.caller m.owner short v w (ap (λ p. p.0.told) (sym c.parts-ran.ensures) ∙ c.in-Err.is) lent.on in
    record { back = (c.args.key, c.args.value, ap (λ p. p.0.unstored) c.parts-ran.ensures ∙ on.done.back (Pair c.args.key c.args.value) refl) }

pub returns-in-Err-clause-refused : goal.returns-in-Err-clause-refused
returns-in-Err-clause-refused g c =
    let m = c.args.self.now in let k = c.args.guard.now in let d = c.stores-done.result in let lent = c.stores-done.ensures.stored in let v = c.args.pass.now.seat.seat.view in let w = c.stores-done.new.pass.seat.seat.view in
    let short = small k.caller.blocks.now.words.fixed.batch_size k.small in
    refused_on g.K.PartialEq.eq g.S.Hashes.hash k.caller m.owner short v w (TryToInsert c.args.key c.args.value) c.refused.result.fault refl
    (told_on g.K.PartialEq.eq g.S.Hashes.hash k.caller m.owner short v w ((ap (λ p. p.0.told) (sym c.parts-ran.ensures) ∙ c.in-Err.is) ∙ ap Err (sym c.refused.ensures.fault)) lent.on)

pub returns-in-Err-clause-back : goal.returns-in-Err-clause-back
returns-in-Err-clause-back g c =
    let m = c.args.self.now in let k = c.args.guard.now in let d = c.stores-done.result in let lent = c.stores-done.ensures.stored in let v = c.args.pass.now.seat.seat.view in let w = c.stores-done.new.pass.seat.seat.view in
    let short = small k.caller.blocks.now.words.fixed.batch_size k.small in
    let on = told_on g.K.PartialEq.eq g.S.Hashes.hash k.caller m.owner short v w (ap (λ p. p.0.told) (sym c.parts-ran.ensures) ∙ c.in-Err.is) lent.on in
    one_back d.answer.unstored c.refused.result.key c.args.key c.refused.result.value c.args.value (sym (ap (λ p. p.0.unstored) c.parts-ran.ensures) ∙ c.refused.ensures.back)
    (on.done.back (Pair c.args.key c.args.value) refl)
