use Rattle.seize_callers.proofs.Keeping.{kept_same}
use Rattle.std.specs.Prelude.{ℕ}
use Rattle.std.proofs.Common.{◌≡◌, inl, refl, sym, subst, ap, ◌∙◌}
use Rattle.seize.specs.declared.states.TheConstants.{IDLE}
use Rattle.seize_views.specs.Views.Begun.{leaving, ended}
use Rattle.seize_views.specs.Views.Notes.{still}
use Rattle.seize_views.specs.Views.Promises.{op_of}
use Rattle.seize_views.specs.Views.Told.{list_taken}
use Rattle.seize_views.specs.declared.view.Becomes.TheVariants.{Idle}
use Rattle.seize_views.specs.declared.view.SlotView.TheVariants.{Inside, Left}
use Rattle.seize_callers.proofs.Turns.{may_turn, leans_turn, leaves_next, leaves_so, list_told}
use Rattle.seize_callers.proofs.within.Within.leave.Given as given
use Rattle.seize_callers.proofs.within.Within.leave.Goals as goal
use Rattle.seize_callers.proofs.within.Within.leave.Goals.{After-swap-head}

pub part-requires-clause-may : goal.part-requires-clause-may
part-requires-clause-may g c =
    let x = c.args.self.now in let i = c.requires.inside in
    may_turn g.C.Rule.holds g.C.Rule.keeps g.C.Content.notes g.C.Content.beside g.C.Rule.leans c.goes_on.ensures.turn x.blocks.now.words.fixed x.seat.now.id x.seat.now.view
    (Inside c.args.slot i.0) i.2 leaving still (leaves_next g.row.T.Denot x.blocks.now.words.fixed c.args.slot i.0 i.1) (inl c.requires.none)

pub part-requires-clause-errand : goal.part-requires-clause-errand
part-requires-clause-errand g c = λ home rests w so. absurd (c.args.self.now.away home)

pub part-requires-clause-leans : goal.part-requires-clause-leans
part-requires-clause-leans g c =
    let x = c.args.self.now in let i = c.requires.inside in
    leans_turn g.C.Rule.holds g.C.Rule.keeps g.C.Content.notes g.C.Content.beside g.C.Rule.leans c.goes_on.ensures.leans x.blocks.now.words.fixed x.seat.now.away x.seat.now.view
    (Inside c.args.slot i.0) i.2 leaving still (leaves_next g.row.T.Denot x.blocks.now.words.fixed c.args.slot i.0 i.1) (inl c.requires.none)

pub swap-head-requires : goal.swap-head-requires
swap-head-requires g c =
    let fixed = c.args.self.now.blocks.now.words.fixed in let i = c.requires.inside in
    inl (ap (op_of g.T.Defers.defers) (c.part.ensures.goes.0 ∙ ap (leaving fixed) i.2 ∙ leaves_so g.row.T.Denot fixed c.args.slot i.0 i.1))

taken : (g : given.Over) (c : After-swap-head g) → (left : ℕ)
    × ((g.C.Content.notes c.swap-head.new.self.seat.now.view).knows
    ≡ list_taken c.args.slot c.swap-head.new.self.blocks.now.words.fixed.batch_size Idle c.swap-head.result left)
taken g c =
    let fixed = c.args.self.now.blocks.now.words.fixed in let i = c.requires.inside in let told =
    list_told g.T.Defers.defers (g.C.Content.notes c.part.new.seat.view).knows (g.C.Content.notes c.swap-head.new.self.seat.now.view).knows c.args.slot
    fixed.batch_size Idle IDLE c.swap-head.result (c.part.ensures.goes.0 ∙ ap (leaving fixed) i.2 ∙ leaves_so g.row.T.Denot fixed c.args.slot i.0 i.1) c.swap-head.ensures.2.0
    in (
      told.0,
      subst (λ b. (g.C.Content.notes c.swap-head.new.self.seat.now.view).knows
          ≡ list_taken c.args.slot b.now.words.fixed.batch_size Idle c.swap-head.result told.0) (sym (kept_same _ _ _ _ _ _ _ _ c.swap-head.ensures.0).0) told.1,
    )

pub counts_down-requires : goal.counts_down-requires
counts_down-requires g c = let t = taken g (goal.at.counts_down-requires g c).After-swap-head in record { taken = (Idle, t.0, t.1) }

pub part-requires-2-clause-may : goal.part-requires-2-clause-may
part-requires-2-clause-may g c =
    let x = c.counts_down.new.self in let t = taken g (goal.at.part-requires-2-clause-may g c).After-swap-head in
    may_turn g.C.Rule.holds g.C.Rule.keeps g.C.Content.notes g.C.Content.beside g.C.Rule.leans c.goes_on.ensures.turn x.blocks.now.words.fixed x.seat.now.id x.seat.now.view
    (Left c.args.slot c.swap-head.new.self.blocks.now.words.fixed.batch_size Idle) (c.counts_down.ensures.left Idle t.0 t.1) ended still refl tt

pub part-requires-2-clause-errand : goal.part-requires-2-clause-errand
part-requires-2-clause-errand g c = λ home rests w so. absurd (c.counts_down.new.self.away home)

pub part-requires-2-clause-leans : goal.part-requires-2-clause-leans
part-requires-2-clause-leans g c =
    let x = c.counts_down.new.self in let t = taken g (goal.at.part-requires-2-clause-leans g c).After-swap-head in
    leans_turn g.C.Rule.holds g.C.Rule.keeps g.C.Content.notes g.C.Content.beside g.C.Rule.leans c.goes_on.ensures.leans x.blocks.now.words.fixed x.seat.now.away x.seat.now.view
    (Left c.args.slot c.swap-head.new.self.blocks.now.words.fixed.batch_size Idle) (c.counts_down.ensures.left Idle t.0 t.1) ended still refl tt

pub returns-clause-outside : goal.returns-clause-outside
returns-clause-outside g c =
    let t = taken g (goal.at.returns-clause-outside g c).After-swap-head in
    c.part-2.ensures.goes.0 ∙ ap (ended c.counts_down.new.self.blocks.now.words.fixed) (c.counts_down.ensures.left Idle t.0 t.1)

pub returns-clause-guards : goal.returns-clause-guards
returns-clause-guards g c = c.part-2.ensures.goes.3 ∙ c.counts_down.ensures.notes.2 ∙ c.swap-head.ensures.2.3 ∙ c.part.ensures.goes.3

pub returns-clause-beside : goal.returns-clause-beside
returns-clause-beside g c = c.part-2.ensures.goes.4 ∙ c.counts_down.ensures.beside ∙ c.swap-head.ensures.1 ∙ c.part.ensures.goes.4
