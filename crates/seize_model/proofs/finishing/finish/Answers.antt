use Rattle.std.proofs.Common.{[], ◌∷◌, ◌++◌, List, sym, subst, append_assoc}
use Rattle.std.proofs.lemmas.List.{append-nil}
use Rattle.seize_model.specs.Alone.Alone.{IsMidway, row_of}
use Rattle.seize_model.proofs.finishing.finish.Goals as goal

pub loop-value-init : goal.loop-value-init
loop-value-init g c = λ batch_size roots m h request given mid.
    ([], subst (λ (l : List g.row.T.Denot). IsMidway g.T.Defers.defers batch_size roots m h request (row_of c.args.call) c.args.memory.now l) (sym (append-nil given)) mid)

pub next-requires : goal.next-requires
next-requires g c =
    let r = c.requires in
    let i = c.loop-value.invariant r.0 r.1 r.2 r.3 r.4 r.5 r.6 in
    (r.0, r.1, r.2, r.3, r.4, r.5 ++ i.0, i.1)

pub loop-value-preserved : goal.loop-value-preserved
loop-value-preserved g c = λ batch_size roots m h request given mid.
    let i = c.loop-value.invariant batch_size roots m h request given mid in
    let goes = c.in-Some.ensures.goes batch_size roots m h request (given ++ i.0) i.1 in
    (i.0 ++ c.in-Some.value ∷ [], subst (λ (l : List g.row.T.Denot). IsMidway g.T.Defers.defers batch_size roots m h request (row_of c.next.new.self) c.next.new.memory l) (append_assoc given i.0 (c.in-Some.value ∷ [])) goes)

pub returns : goal.returns
returns g c = λ batch_size roots m h request given mid.
    let i = c.loop-value.invariant batch_size roots m h request given mid in
    (i.0, c.in_default.ensures.goes batch_size roots m h request (given ++ i.0) i.1)
