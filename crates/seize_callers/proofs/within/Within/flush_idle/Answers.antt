use Rattle.seize_views.specs.declared.view.Began.TheVariants.{Trial}
use Rattle.std.proofs.Common.{◌≡◌, ap, sym, ◌∙◌}
use Rattle.seize.specs.declared.rows.settle.Settle.{Settle}
use Rattle.seize.specs.Settle.{flushing}
use Rattle.seize_views.specs.Views.Begun.{left_with}
use Rattle.seize_views.specs.declared.view.Becomes.TheVariants.{Idle}
use Rattle.seize_callers.proofs.Turns.{may_flush_idle, leans_flush_idle, flushes_idle_told, settling_row}
use Rattle.seize_callers.proofs.within.Within.flush_idle.Goals as goal

pub part-requires-clause-may : goal.part-requires-clause-may
part-requires-clause-may g c =
    let x = c.args.self.now in let i = c.requires.outside in
    may_flush_idle g.C.Rule.holds g.C.Rule.keeps g.C.Content.notes g.C.Content.beside g.C.Rule.leans c.goes_on.ensures.settle x.blocks.now.words.fixed x.seat.now.id x.seat.now.view Trial c.args.slot i

pub part-requires-clause-errand : goal.part-requires-clause-errand
part-requires-clause-errand g c = λ home rests w so. absurd (c.args.self.now.away home)

pub part-requires-clause-leans : goal.part-requires-clause-leans
part-requires-clause-leans g c =
    let x = c.args.self.now in let i = c.requires.outside in
    leans_flush_idle g.C.Rule.holds g.C.Rule.keeps g.C.Content.notes g.C.Content.beside g.C.Rule.leans c.goes_on.ensures.leans x.blocks.now.words.fixed x.seat.now.away x.seat.now.view Trial c.args.slot i

pub ends-requires : goal.ends-requires
ends-requires g c =
    let x = c.args.self.now in let fixed = x.blocks.now.words.fixed in let i = c.requires.outside in
    let row : c.flush.result ≡ flushing c.args.slot fixed.batch_size = c.flush.ensures ∙ ap (flushing c.args.slot) (sym x.sized) in
    record { settling = (Idle, settling_row Idle c.flush.result (g.C.Content.notes c.part.new.seat.view) (flushes_idle_told fixed (g.C.Content.notes x.seat.now.view).knows (g.C.Content.notes c.part.new.seat.view).knows c.args.slot c.flush.result i c.part.ensures.goes.0 row)) }

pub returns-clause-outside : goal.returns-clause-outside
returns-clause-outside g c =
    let x = c.args.self.now in let fixed = x.blocks.now.words.fixed in let i = c.requires.outside in
    let row : c.flush.result ≡ flushing c.args.slot fixed.batch_size = c.flush.ensures ∙ ap (flushing c.args.slot) (sym x.sized) in
    c.ends.ensures.rests Idle
    (settling_row Idle c.flush.result (g.C.Content.notes c.part.new.seat.view) (flushes_idle_told fixed (g.C.Content.notes x.seat.now.view).knows (g.C.Content.notes c.part.new.seat.view).knows c.args.slot c.flush.result i c.part.ensures.goes.0 row))
    ∙ ap (λ (r : Settle). left_with Idle r.slot) row

pub returns-clause-began : goal.returns-clause-began
returns-clause-began g c = c.ends.ensures.notes.1 ∙ c.part.ensures.goes.2
