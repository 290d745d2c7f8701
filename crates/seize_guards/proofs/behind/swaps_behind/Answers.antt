use Rattle.std.specs.Prelude.{ℕ, Bool, Some}
use Rattle.std.proofs.Common.{refl, ap, ◌∙◌}
use Rattle.seize_views.specs.declared.view.Has.{Has}
use Rattle.seize_views.specs.declared.view.SlotView.TheVariants.{Inside}
use Rattle.seize_words.specs.OneMemory.Word.{block_in}
use Rattle.seize_shared.specs.Guards.Deeds.{has_put}
use Rattle.seize_views.proofs.Views.Written.{block_of_link}
use Rattle.seize_callers.proofs.Calls.{whole_link}
use Rattle.seize_guards.proofs.Deferrals.{stands_seen, made_seen, seen_some}
use Rattle.seize_guards.proofs.behind.swaps_behind.Goals as goal

pub make_beside-requires : goal.make_beside-requires
make_beside-requires g c =
    let s = c.args.stay.now in
    record {
      inside = stands_seen s.slot s.seen s.caller.seat.view.knows (s.stands ∙ ap (λ (y : Bool). Some (s.slot, y, s.seen)) c.requires.may.0) c.requires.may.1
          ∙ ap (λ (h : Has g.row.T.Denot). Inside s.slot h) (seen_some g.row.T.Denot s.seen c.requires.may.1);
    }

pub takes-taken-requires-clause-seen : goal.takes-taken-requires-clause-seen
takes-taken-requires-clause-seen g c =
    let s = c.args.stay.now in let made = c.in-Ok.ensures.made in (
      Some (c.in-Ok.block, c.args.value),
      made.0 ∙ ap (λ (h : Has g.row.T.Denot). Inside s.slot h) (made_seen c.in-Ok.block c.args.value s.seen c.requires.may.1),
      ap block_in (c.to-word.ensures ∙ whole_link c.in-Ok.block made.1) ∙ block_of_link c.in-Ok.block,
    )

pub returns-clause-put : goal.returns-clause-put
returns-clause-put g c =
    let s = c.args.stay.now in let made = c.in-Ok.ensures.made in
    ap has_put (c.takes-taken.ensures.did (Some (c.in-Ok.block, c.args.value))
    (made.0 ∙ ap (λ (h : Has g.row.T.Denot). Inside s.slot h) (made_seen c.in-Ok.block c.args.value s.seen c.requires.may.1)))
