-- The word of the try is read, and judged.
use Rattle.std.proofs.Common.{sym, subst}
use Rattle.seize_words.specs.OneMemory.Op.{Load, Found}
use Rattle.seize_words.specs.declared.at.At.{At}
use Rattle.map_tables.specs.declared.finding.Finding.{Finding}
use Rattle.map_machines.specs.Lookup.{lookup_plan, told, after_finding, word_read}
use Rattle.map_machines.specs.declared.lookup.Looking.TheVariants as at
use Rattle.map_straight.specs.Straight.Going.{LookGoes}
use Rattle.map_straight.specs.Straight.Looking.{glance_at, looks}
use Rattle.seize_straight.specs.Reaches.{HasOutcome}
use Rattle.seize_straight.proofs.Running.{begins, comes_to, next}
use Rattle.map_straight.proofs.looking.look_at.Goals as goal

pub load-word-requires : goal.load-word-requires
load-word-requires g c =
    subst (λ (a : At). g.M.Look.can c.args.memory.now (Load a)) (sym c.at.ensures) (next (begins c.requires)).0

pub names-same-requires : goal.names-same-requires
names-same-requires g c =
    (next (begins c.requires)).1 (Found c.load-word.result) c.load-word.new.self (subst (λ (a : At). g.M.Look.took c.args.memory.now (Load a) (Found c.load-word.result) c.load-word.new.self) c.at.ensures c.load-word.ensures)

pub returns : goal.returns
returns g c =
    let here = looks c.args.root c.args.mode c.args.hash (at.Probes c.args.trial) in
    comes_to LookGoes g.M.Look.took g.M.Look.shown (lookup_plan (g.Q.Equivalent.equivalent c.args.asked.now)) here c.args.memory.now c.load-word.new.self
    (word_read (g.Q.Equivalent.equivalent c.args.asked.now) here c.args.trial c.load-word.result) (glance_at c.args.root c.args.mode c.args.hash c.tell.result) (told here c.args.trial c.load-word.result c.names-same.result) c.names-same.ensures
    (subst (λ (f : Finding). HasOutcome LookGoes (after_finding here c.args.trial c.load-word.result f) (glance_at c.args.root c.args.mode c.args.hash c.tell.result)) c.seen-finding.ensures c.tell.ensures)
    (λ end e. (Found c.load-word.result, subst (λ (a : At). g.M.Look.took c.args.memory.now (Load a) (Found c.load-word.result) c.load-word.new.self) c.at.ensures c.load-word.ensures, e))
