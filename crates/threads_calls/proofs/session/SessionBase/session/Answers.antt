use Rattle.std.specs.Prelude.{IsSome}
use Rattle.std.proofs.Common.{refl, subst, sym}
use Rattle.threads_calls.proofs.session.SessionBase.session.Goals as goal

pub shows-caller-requires : goal.shows-caller-requires
shows-caller-requires g c = record { knows = subst IsSome (sym c.args.self.now.knows) refl }
