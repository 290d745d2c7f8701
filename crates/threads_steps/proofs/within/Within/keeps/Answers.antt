use Rattle.std.specs.Prelude.{if◌then◌else◌, Bool, true, false, Result}
use Rattle.std.proofs.Common.{◌≡◌, refl, sym, subst, ap, ◌∙◌}
use Rattle.papaya_raw.specs.Given.ReservesDeclared.sweep.Purpose.TheVariants.{Retains}
use Rattle.papaya_raw.specs.declared.machines.asking.MachineReply.{MachineReply}
use Rattle.papaya_raw.specs.declared.machines.asking.MachineReply.TheVariants as reply
use Rattle.papaya_raw.specs.declared.machines.machine.Machine.{Machine}
use Rattle.threads_rule.specs.Errands.Sweeping.{IsSweeping}
use Rattle.threads_rule.specs.Views.Begun.{replied}
use Rattle.threads_rule.proofs.Errands.Sweeping.{replied_so}
use Rattle.threads_steps.specs.Asking.{reply_of}
use Rattle.threads_steps.proofs.within.Within.keeps.Goals as goal

as_either : {V : Type 0} (keeps : Bool) → reply_of {V = V} keeps ≡ (if keeps then reply.Yes else reply.No)
as_either true = refl
as_either false = refl

pub tells_as-requires-clause-knows : goal.tells_as-requires-clause-knows
tells_as-requires-clause-knows g c = let at = c.requires.asks.1.at in (at.map, at.knows)

pub tells_as-requires-clause-works : goal.tells_as-requires-clause-works
tells_as-requires-clause-works g c = c.requires.asks.1.at.works

pub taken-requires : goal.taken-requires
taken-requires g c = record {
  taken =
      ap (λ (x : Machine g.row.K.Denot g.row.V.Denot g.row.K.Denot × Result Unit (MachineReply g.row.V.Denot)). x.1) c.reply-back.ensures
      ∙ (replied_so c.args._hasher.now c.requires.asks.0 c.args.self.now.seat.now.view c.tells_as.new.self.seat.now.view c.args.machine.now c.said-reply.result c.requires.asks.1 c.tells_as.ensures.told
      c.args.keeps (c.said-reply.ensures ∙ as_either c.args.keeps)).1;
}

pub returns-clause-retains : goal.returns-clause-retains
returns-clause-retains g c =
    subst (λ (m : Machine g.row.K.Denot g.row.V.Denot g.row.K.Denot). IsSweeping Retains c.args._hasher.now m c.tells_as.new.self.seat.now.view)
    (sym (ap (λ (x : Machine g.row.K.Denot g.row.V.Denot g.row.K.Denot × Result Unit (MachineReply g.row.V.Denot)). x.0) c.reply-back.ensures))
    (replied_so c.args._hasher.now c.requires.asks.0 c.args.self.now.seat.now.view c.tells_as.new.self.seat.now.view c.args.machine.now c.said-reply.result c.requires.asks.1 c.tells_as.ensures.told
    c.args.keeps (c.said-reply.ensures ∙ as_either c.args.keeps)).0

pub returns-clause-told : goal.returns-clause-told
returns-clause-told g c = c.tells_as.ensures.told ∙ ap (replied c.args.self.now.seat.now.view c.args.machine.now) c.said-reply.ensures
