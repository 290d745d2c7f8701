use Rattle.std.proofs.Common.{sym, ◌∙◌}
use Rattle.std.proofs.lemmas.Result.{IfErr-weaker, IfOk-weaker, err_from_is_err_and}
use Rattle.papaya_map.proofs.Builders.{asked_none, asked_then, many_first, none_first, told_first, told_memory, told_source, zero_first}
use Rattle.papaya_map.specs.Builders.{first_fault}
use Rattle.seize_words.specs.declared.fault.Fault.TheVariants.{ZeroChunk}
use Rattle.papaya_map.proofs.builder.HashMapBuilder.build.Goals as goal

pub returns-then-copies_none-clause-fault : goal.returns-then-copies_none-clause-fault
returns-then-copies_none-clause-fault g c =
    let x = c.args.self in told_first (first_fault x.mode x.capacity) x.collector c.args.ids.now ZeroChunk (zero_first x.mode x.capacity (sym c.copies_none.ensures ∙ c.if-copies_none.true))

pub returns-then-copies_none-clause-ids : goal.returns-then-copies_none-clause-ids
returns-then-copies_none-clause-ids g c =
    let x = c.args.self in asked_none (first_fault x.mode x.capacity) x.collector c.args.ids.now ZeroChunk (zero_first x.mode x.capacity (sym c.copies_none.ensures ∙ c.if-copies_none.true))

pub returns-in_err-entries_for-clause-fault : goal.returns-in_err-entries_for-clause-fault
returns-in_err-entries_for-clause-fault g c =
    let x = c.args.self in let e = c.in_err-entries_for in
    let p = err_from_is_err_and c.from_residual.result c.from_residual.ensures.1 in
    rw (p.1, p.2)
    (told_first (first_fault x.mode x.capacity) x.collector c.args.ids.now e.field-0.0
    (many_first x.mode x.capacity e.field-0.0 (sym c.copies_none.ensures ∙ c.if-copies_none.false) (sym c.entries_for.ensures.formula ∙ e.was)))

pub returns-in_err-entries_for-clause-ids : goal.returns-in_err-entries_for-clause-ids
returns-in_err-entries_for-clause-ids g c =
    let x = c.args.self in let e = c.in_err-entries_for in
    asked_none (first_fault x.mode x.capacity) x.collector c.args.ids.now e.field-0.0
    (many_first x.mode x.capacity e.field-0.0 (sym c.copies_none.ensures ∙ c.if-copies_none.false) (sym c.entries_for.ensures.formula ∙ e.was))

pub returns-in_err-collector-clause-fault : goal.returns-in_err-collector-clause-fault
returns-in_err-collector-clause-fault g c =
    let x = c.args.self in let e = c.in_ok-entries_for in
    let p = err_from_is_err_and c.from_residual-in_err-collector.result c.from_residual-in_err-collector.ensures.1 in
    rw (p.1, p.2)
    (told_source (first_fault x.mode x.capacity) x.collector c.args.ids.now c.in_err-collector.field-0.0
    (none_first x.mode x.capacity e.field-0 (sym c.copies_none.ensures ∙ c.if-copies_none.false) (sym c.entries_for.ensures.formula ∙ e.was)) (sym c.made.ensures.made ∙ c.in_err-collector.was))

pub returns-in_err-collector-clause-ids : goal.returns-in_err-collector-clause-ids
returns-in_err-collector-clause-ids g c =
    let x = c.args.self in let e = c.in_ok-entries_for in
    asked_then (first_fault x.mode x.capacity) x.collector c.args.ids.now c.made.new.ids (none_first x.mode x.capacity e.field-0 (sym c.copies_none.ensures ∙ c.if-copies_none.false) (sym c.entries_for.ensures.formula ∙ e.was)) c.made.ensures.ids

pub returns-clause-few : goal.returns-clause-few
returns-clause-few g c =
    let x = c.args.self in let e = c.in_ok-entries_for in
    IfOk-weaker c.opened.result _ _ (λ _ _. none_first x.mode x.capacity e.field-0 (sym c.copies_none.ensures ∙ c.if-copies_none.false) (sym c.entries_for.ensures.formula ∙ e.was)) c.opened.ensures.mode

pub returns-clause-fault : goal.returns-clause-fault
returns-clause-fault g c =
    let x = c.args.self in let e = c.in_ok-entries_for in
    IfErr-weaker c.opened.result _ _
    (λ fault so.
    told_memory (first_fault x.mode x.capacity) x.collector c.args.ids.now c.in_ok-collector.collector fault (none_first x.mode x.capacity e.field-0 (sym c.copies_none.ensures ∙ c.if-copies_none.false) (sym c.entries_for.ensures.formula ∙ e.was))
    (sym c.made.ensures.made ∙ c.in_ok-collector.was) so)
    c.opened.ensures.fault

pub returns-clause-ids : goal.returns-clause-ids
returns-clause-ids g c =
    let x = c.args.self in let e = c.in_ok-entries_for in
    asked_then (first_fault x.mode x.capacity) x.collector c.args.ids.now c.made.new.ids (none_first x.mode x.capacity e.field-0 (sym c.copies_none.ensures ∙ c.if-copies_none.false) (sym c.entries_for.ensures.formula ∙ e.was)) c.made.ensures.ids
