use Rattle.std.specs.Prelude.{suc}
use Rattle.std.proofs.Common.{refl, sym, subst, ap, ◌∙◌}
use Rattle.map_tables.specs.declared.node.Node.{Node}
use Rattle.papaya_raw.specs.Given.ReservesDeclared.sweep.Purpose.TheVariants.{Retains}
use Rattle.papaya_raw.specs.declared.machines.progress.Progress.{Progress}
use Rattle.threads_calls.specs.Given.ActsActs.{Wanted}
use Rattle.threads_calls.specs.Given.ViewsDeclared.view.View.{View}
use Rattle.threads_calls.specs.Given.ErrandsCalling.{wanted_of}
use Rattle.threads_calls.specs.Given.ErrandsLooking.{Begins, HasProgressed}
use Rattle.threads_calls.specs.Given.ErrandsSweeping.{HasGoneOver}
use Rattle.threads_calls.proofs.Given.ErrandsBeginnings.{is_begun, stays_on}
use Rattle.threads_calls.proofs.Given.ErrandsRuns.{of_them}
use Rattle.threads_calls.proofs.Given.ErrandsSweeping.{is_sweeping}
use Rattle.threads_calls.proofs.Given.Pausing.{them_on}
use Rattle.threads_sweeps.specs.Heard.{IsHeard}
use Rattle.threads_sweeps.specs.declared.hearing.Heard.{Heard}
use Rattle.threads_sweeps.proofs.Closures.{retaining_free, retaining_tells}
use Rattle.threads_sweeps.proofs.Gone.{gone_over}
use Rattle.threads_sweeps.proofs.retaining.sifts.Goals as goal

pub begins-requires : goal.begins-requires
begins-requires g c = let m = c.requires.may.may in record { inside = (m.slot, m.inside); knows = (m.map, m.knows, m.only); free = m.free }

pub loop-init : goal.loop-init
loop-init g c = (
  is_sweeping c.args.hasher.now g.K.PartialEq.eq g.S.Hashes.hash Retains c.args.machine.now c.args.within.now.seat.now.view c.begins.new.self.seat.now.view c.requires.may
      (is_begun g.K.PartialEq.eq g.S.Hashes.hash c.args.hasher.now c.args.machine.now c.args.within.now.seat.now.view c.begins.new.self.seat.now.view c.requires.may.may c.begins.ensures.begins),
  record { slot = refl; map = refl },
  refl,
  λ told. refl,
  c.requires.callable,
  (0, (refl, refl)),
)

pub hears-heard-requires : goal.hears-heard-requires
hears-heard-requires g c = record { sweep = retaining_tells c.args.hasher.now c.retains-told.new.machine c.retains-told.new.self.seat.now.view c.retains-told.result c.retains-told.ensures.told }

pub tells_asked-requires : goal.tells_asked-requires
tells_asked-requires g c = record { retained = (c.retains-told.result, c.hears-heard.ensures, c.retains-told.ensures.told); callable = c.loop.invariant.4 }

pub returns-in-Some-tells_asked-clause-gone : goal.returns-in-Some-tells_asked-clause-gone
returns-in-Some-tells_asked-clause-gone g c =
    let u = c.args.within.now.seat.now.view in let b = c.begins.new.self.seat.now.view in let v = c.loop.within.seat.now.view in let w = c.retains-told.new.self.seat.now.view in
    let end = c.in-Some-tells_asked.end in let ended = c.in-Some-tells_asked.ensures.ended in
    let told = subst (λ (h : Heard). IsHeard c.retains-told.result h) ended.0 c.hears-heard.ensures in
    subst (λ (x : View g.row.K.Denot g.row.V.Denot g.row.S.Denot). HasGoneOver g.K.PartialEq.eq g.S.Hashes.hash Retains end u x) (sym {A = View g.row.K.Denot g.row.V.Denot g.row.S.Denot} ended.1)
    (gone_over g.K.PartialEq.eq g.S.Hashes.hash Retains c.args.machine.now c.requires.may.setting u b v w end c.requires.may.is c.begins.ensures.begins
    (stays_on b v w c.loop.invariant.1 c.retains-told.ensures.stepped.stays) c.loop.invariant.3
    (subst (λ (t : Progress (Node g.row.K.Denot g.row.V.Denot)). HasProgressed t v w) told c.retains-told.ensures.stepped.calls)
    (retaining_free c.args.hasher.now c.retains-told.new.machine w c.retains-told.result end told c.retains-told.ensures.told))

pub returns-in-Some-tells_asked-clause-heeded : goal.returns-in-Some-tells_asked-clause-heeded
returns-in-Some-tells_asked-clause-heeded g c =
    let u = c.args.within.now.seat.now.view in let b = c.begins.new.self.seat.now.view in let n = c.loop.invariant.5 in (
      b,
      suc n.0,
      c.tells_asked.new.keep,
      subst (λ (wanted : Wanted g.row.K.Denot g.row.V.Denot). Begins g.K.PartialEq.eq g.S.Hashes.hash wanted u b) (ap wanted_of c.requires.may.is) c.begins.ensures.begins,
      (
        c.loop.keep,
        c.loop.within.seat.now.view,
        n.1,
        (c.retains-told.new.self.seat.now.view, c.retains-told.result, c.retains-told.ensures.by, c.retains-told.ensures.stepped.calls, c.tells_asked.ensures.heeded c.retains-told.result c.hears-heard.ensures),
      ),
    )

pub returns-in-Some-tells_asked-clause-same : goal.returns-in-Some-tells_asked-clause-same
returns-in-Some-tells_asked-clause-same g c = c.tells_asked.ensures.same ∙ c.retains-told.ensures.same ∙ c.loop.invariant.2 ∙ c.begins.ensures.same

pub loop-preserved : goal.loop-preserved
loop-preserved g c =
    let b = c.begins.new.self.seat.now.view in let v = c.loop.within.seat.now.view in let w = c.retains-told.new.self.seat.now.view in let x = c.tells_asked.new.within.seat.now.view in
    let n = c.loop.invariant.5 in let tells = c.tells_asked.ensures in (
      c.in_default.ensures.goes,
      stays_on b w x (stays_on b v w c.loop.invariant.1 c.retains-told.ensures.stepped.stays) tells.stays,
      tells.same ∙ c.retains-told.ensures.same ∙ c.loop.invariant.2,
      them_on b w x (of_them b v w c.retains-told.result c.loop.invariant.3 c.retains-told.ensures.stepped.calls) tells.them,
      tells.callable,
      (suc n.0, (c.loop.keep, v, n.1, (w, c.retains-told.result, c.retains-told.ensures.by, c.retains-told.ensures.stepped.calls, tells.heeded c.retains-told.result c.hears-heard.ensures))),
    )
