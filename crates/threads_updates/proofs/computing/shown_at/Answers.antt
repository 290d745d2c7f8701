use Rattle.std.specs.Prelude.{ℕ, Option, Some}
use Rattle.std.proofs.Common.{sym, subst}
use Rattle.threads_calls.specs.Given.ViewsLooks.{shown_in}
use Rattle.threads_updates.specs.Computing.{IsAbout}
use Rattle.threads_updates.proofs.Asked.{pair_is, shown_word}
use Rattle.threads_updates.proofs.computing.shown_at.Goals as goal

pub pair_at-requires : goal.pair_at-requires
pair_at-requires g c = record { shown = shown_word (shown_in c.args.within.now.seat.now.view.held) c.in-Some.word c.args.pair c.in-Some.is c.requires.shown }

pub returns-in-Some : goal.returns-in-Some
returns-in-Some g c =
    let shows = shown_word (shown_in c.args.within.now.seat.now.view.held) c.in-Some.word c.args.pair c.in-Some.is c.requires.shown in let is = c.pair_at.ensures.is shows.0 shows.1 shows.2 in
    let shown : g.row.K.Denot × g.row.V.Denot = (c.pair_at.result.0.now, c.pair_at.result.1.now) in record {
      about =
          subst (λ (o : Option ℕ). IsAbout (shown_in c.args.within.now.seat.now.view.held) o (Some shown)) (sym c.in-Some.is)
          (pair_is (shown_in c.args.within.now.seat.now.view.held) _ shows.0 c.pair_at.result.0.now shows.1 c.pair_at.result.1.now is.0 is.1 shows.2);
    }
