-- An event happens: it came to something.
use Rattle.std.specs.Prelude.{[], ◌∷◌, ◌++◌}
use Rattle.std.specs.Option.{option_copied}
use Rattle.std.proofs.Common.{◌∙◌, sym, ap, length}
use Rattle.std.proofs.lemmas.List.{length-append}
use Rattle.run_names.proofs.Crews.Lists.{has_last}
use Rattle.run_names.proofs.locked.happens.Goals as goal

pub unreachable-requires : goal.unreachable-requires
unreachable-requires g c =
    let come = c.requires.come in
    let runner = c.take_turn.new.self in
    let so_many = g.met.R.Runner.counts come.0 (come.1 ++ c.args.event ∷ []) runner (c.in_ok-take_turn.ensures come.0 come.1 come.2) in
    has_last (g.R.Runner.outcomes runner) (length come.1) (so_many ∙ length-append come.1 (c.args.event ∷ [])) (sym c.last_outcome.ensures ∙ ap option_copied c.in_default.is)
