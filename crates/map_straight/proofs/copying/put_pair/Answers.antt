-- Each try leads on.
use Rattle.std.proofs.Common.{ap, sym, subst, ◌∙◌}
use Rattle.map_tables.specs.Probes.{probe_from}
use Rattle.map_tables.specs.declared.probe.Probe.{Probe}
use Rattle.map_machines.specs.CopierMarks.{probing}
use Rattle.map_machines.specs.CopierStates.{standing}
use Rattle.map_machines.specs.declared.copier.Copying.TheVariants as at
use Rattle.map_straight.specs.Straight.Going.{CopyLeads}
use Rattle.seize_straight.specs.Runs.{none_taken}
use Rattle.seize_straight.proofs.Running.{leads_on, runs_along}
use Rattle.map_straight.proofs.copying.put_pair.Goals as goal

pub loop-init : goal.loop-init
loop-init g c =
    record {
      led = subst (λ (p : Probe). CopyLeads (g.S.Hashes.hash c.args.hasher.now) g.M.Look.took g.M.Look.shown (probing c.args.copier.now c.args.word c.args.hash c.args.table) c.args.memory.now
          (standing c.args.copier.now (at.Probes c.args.word c.args.hash c.args.table p)) c.args.memory.now) (sym (c.start-probe.ensures.begins ∙ ap (λ k. probe_from c.args.hash k) c.mask.ensures)) (none_taken _ _);
    }

pub try_put-requires-clause-may : goal.try_put-requires-clause-may
try_put-requires-clause-may g c =
    runs_along _ _ _ _ _ _ _ _ _ c.loop.invariant.led c.requires.may

pub loop-preserved : goal.loop-preserved
loop-preserved g c =
    record { led = leads_on _ _ _ _ _ _ _ _ _ _ c.loop.invariant.led c.in-Next.ensures }

pub returns-in_default : goal.returns-in_default
returns-in_default g c =
    leads_on _ _ _ _ _ _ _ _ _ _ c.loop.invariant.led c.try_put.ensures

pub returns : goal.returns
returns g c =
    c.loop.invariant.led
