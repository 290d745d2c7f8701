-- The word of the try is read, and judged.
use Rattle.std.proofs.Common.{sym, subst}
use Rattle.std.specs.Prelude.{true}
use Rattle.seize_words.specs.OneMemory.Op.{Load, Found}
use Rattle.seize_words.specs.declared.at.At.{At}
use Rattle.papaya_raw.specs.declared.machines.call.Calling.TheVariants as at
use Rattle.seize_straight.proofs.Running.{begins, next}
use Rattle.map_straight.proofs.Straight.Stores as by
use Rattle.map_straight.proofs.storing.try_place.Goals as goal

pub load-word-requires : goal.load-word-requires
load-word-requires g c =
    subst (λ (a : At). g.M.Look.can c.args.memory.now (Load a)) (sym c.at.ensures) (next (begins c.requires.may)).0

pub read-requires-clause-see : goal.read-requires-clause-see
read-requires-clause-see g c =
    (at.Probes, true, (next (begins c.requires.may)).1 (Found c.load-word.result) c.load-word.new.self (subst (λ (a : At). g.M.Look.took c.args.memory.now (Load a) (Found c.load-word.result) c.load-word.new.self) c.at.ensures c.load-word.ensures))

pub returns : goal.returns
returns g c =
    by.goes_by g.Q.Equivalent.equivalent g.K.PartialEq.eq (g.S.Hashes.hash c.args.hasher.now) c.requires.may true c.load-word.result c.read.result (c.read.ensures at.Probes true)
    (λ end e. (Found c.load-word.result, subst (λ (a : At). g.M.Look.took c.args.memory.now (Load a) (Found c.load-word.result) c.load-word.new.self) c.at.ensures c.load-word.ensures, e))
