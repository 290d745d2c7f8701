-- The word of a slot's batch is read.
use Rattle.std.proofs.Common.{◌≡◌, ℕ, refl, sym, ap, ◌∙◌}
use Rattle.std.specs.Prelude.{◌==◌}
use Rattle.seize.specs.declared.states.TheConstants.{BATCH, HELD}
use Rattle.seize_words.specs.declared.at.At.TheVariants.{Slot}
use Rattle.map_straight.proofs.Shown.Links.{read_as, seen_as}
use Rattle.play_scheduler.proofs.scheduler.Scheduler.is_held.Goals as goal

pub load-requires : goal.load-requires
load-requires g c = seen_as c.args.self.now.logged.executor.memory.memory c.look.result.memory.now (Slot c.args.slot BATCH) (Slot c.args.slot BATCH) c.look.ensures refl c.requires

pub returns : goal.returns
returns g c = λ word is.
    let read = read_as c.args.self.now.logged.executor.memory.memory c.look.result.memory.now (Slot c.args.slot BATCH) (Slot c.args.slot BATCH) c.look.ensures refl c.load.result c.load.ensures.0 in
    let loaded : c.load.result ≡ word = (let both = sym read ∙ is in cc both) in
    ap (λ (x : ℕ). x == HELD) loaded
