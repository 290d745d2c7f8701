use Rattle.std.specs.Prelude.{suc}
use Rattle.std.proofs.Common.{refl, sym, subst, ap, ◌∙◌}
use Rattle.map_tables.specs.declared.node.Node.{Node}
use Rattle.papaya_raw.specs.Given.ReservesDeclared.sweep.Purpose.TheVariants.{Walks}
use Rattle.papaya_raw.specs.declared.machines.progress.Progress.{Progress}
use Rattle.threads_calls.specs.Given.ActsActs.{Wanted}
use Rattle.threads_calls.specs.Given.ViewsDeclared.view.View.{View}
use Rattle.threads_calls.specs.Given.ErrandsCalling.{wanted_of}
use Rattle.threads_calls.specs.Given.ErrandsLooking.{Begins, HasProgressed}
use Rattle.threads_calls.specs.Given.ErrandsSweeping.{HasGoneOver}
use Rattle.threads_calls.proofs.Given.ErrandsBeginnings.{is_begun, stays_on}
use Rattle.threads_calls.proofs.Given.ErrandsRuns.{of_them}
use Rattle.threads_calls.proofs.Given.ErrandsSweeping.{is_sweeping}
use Rattle.threads_calls.proofs.Given.Pausing.{them_on}
use Rattle.threads_sweeps.specs.Heard.{IsHeard}
use Rattle.threads_sweeps.specs.declared.hearing.Heard.{Heard}
use Rattle.threads_sweeps.proofs.Closures.{walk_free, walk_tells}
use Rattle.threads_sweeps.proofs.Gone.{gone_over}
use Rattle.threads_sweeps.proofs.walking.goes_over.Goals as goal

pub begins-requires : goal.begins-requires
begins-requires g c = let m = c.requires.over.may in record { inside = (m.slot, m.inside); knows = (m.map, m.knows, m.only); free = m.free }

pub loop-init : goal.loop-init
loop-init g c = (
  is_sweeping c.args.hasher.now g.K.PartialEq.eq g.S.Hashes.hash Walks c.args.machine.now c.args.within.now.seat.now.view c.begins.new.self.seat.now.view c.requires.over
      (is_begun g.K.PartialEq.eq g.S.Hashes.hash c.args.hasher.now c.args.machine.now c.args.within.now.seat.now.view c.begins.new.self.seat.now.view c.requires.over.may c.begins.ensures.begins),
  record { slot = refl; map = refl },
  refl,
  λ told. refl,
  c.requires.may,
  (0, (refl, refl)),
)

pub hears-heard-requires : goal.hears-heard-requires
hears-heard-requires g c = record { sweep = walk_tells c.args.hasher.now c.walks-told.new.machine c.walks-told.new.self.seat.now.view c.walks-told.result c.walks-told.ensures.told }

pub shows_told-requires : goal.shows_told-requires
shows_told-requires g c = record { walked = (c.walks-told.result, c.hears-heard.ensures, c.walks-told.ensures.told); may = c.loop.invariant.4 }

pub returns-in-Some-shows_told-clause-gone : goal.returns-in-Some-shows_told-clause-gone
returns-in-Some-shows_told-clause-gone g c =
    let u = c.args.within.now.seat.now.view in let b = c.begins.new.self.seat.now.view in let v = c.loop.within.seat.now.view in let w = c.walks-told.new.self.seat.now.view in
    let end = c.in-Some-shows_told.end in let ended = c.in-Some-shows_told.ensures.ended in
    let told = subst (λ (h : Heard). IsHeard c.walks-told.result h) ended.0 c.hears-heard.ensures in
    subst (λ (x : View g.row.K.Denot g.row.V.Denot g.row.S.Denot). HasGoneOver g.K.PartialEq.eq g.S.Hashes.hash Walks end u x) (sym {A = View g.row.K.Denot g.row.V.Denot g.row.S.Denot} ended.1)
    (gone_over g.K.PartialEq.eq g.S.Hashes.hash Walks c.args.machine.now c.requires.over.setting u b v w end c.requires.over.is c.begins.ensures.begins
    (stays_on b v w c.loop.invariant.1 c.walks-told.ensures.stepped.stays) c.loop.invariant.3
    (subst (λ (t : Progress (Node g.row.K.Denot g.row.V.Denot)). HasProgressed t v w) told c.walks-told.ensures.stepped.calls)
    (walk_free c.args.hasher.now c.walks-told.new.machine w c.walks-told.result end told c.walks-told.ensures.told))

pub returns-in-Some-shows_told-clause-shown : goal.returns-in-Some-shows_told-clause-shown
returns-in-Some-shows_told-clause-shown g c =
    let u = c.args.within.now.seat.now.view in let b = c.begins.new.self.seat.now.view in let n = c.loop.invariant.5 in (
      b,
      suc n.0,
      subst (λ (wanted : Wanted g.row.K.Denot g.row.V.Denot). Begins g.K.PartialEq.eq g.S.Hashes.hash wanted u b) (ap wanted_of c.requires.over.is) c.begins.ensures.begins,
      (
        c.loop.onlooker,
        c.loop.within.seat.now.view,
        n.1,
        (c.walks-told.new.self.seat.now.view, c.walks-told.result, c.walks-told.ensures.by, c.walks-told.ensures.stepped.calls, c.shows_told.ensures.seen c.walks-told.result c.hears-heard.ensures),
      ),
    )

pub returns-in-Some-shows_told-clause-same : goal.returns-in-Some-shows_told-clause-same
returns-in-Some-shows_told-clause-same g c = c.shows_told.ensures.same ∙ c.walks-told.ensures.same ∙ c.loop.invariant.2 ∙ c.begins.ensures.same

pub loop-preserved : goal.loop-preserved
loop-preserved g c =
    let b = c.begins.new.self.seat.now.view in let v = c.loop.within.seat.now.view in let w = c.walks-told.new.self.seat.now.view in let x = c.shows_told.new.within.seat.now.view in
    let n = c.loop.invariant.5 in let shows = c.shows_told.ensures in (
      c.in_default.ensures.goes,
      stays_on b w x (stays_on b v w c.loop.invariant.1 c.walks-told.ensures.stepped.stays) shows.stays,
      shows.same ∙ c.walks-told.ensures.same ∙ c.loop.invariant.2,
      them_on b w x (of_them b v w c.walks-told.result c.loop.invariant.3 c.walks-told.ensures.stepped.calls) shows.them,
      shows.may,
      (suc n.0, (c.loop.onlooker, v, n.1, (w, c.walks-told.result, c.walks-told.ensures.by, c.walks-told.ensures.stepped.calls, shows.seen c.walks-told.result c.hears-heard.ensures))),
    )
