use Rattle.std.proofs.Common.{◌≡◌, subst, sym, ◌∙◌}
use Rattle.seize_words.specs.declared.at.At.{At}
use Rattle.seize_seats.specs.Seats.State.{Allows}
use Rattle.seize_blocks.proofs.blocks.Blocks.access.Goals as goal
use Rattle.seize_blocks.proofs.blocks.Blocks.access.Goals.{in_default-via-in-Slot+else-slot-ge32, in_default-via-in_default}

pub access_far-requires-clause-may : goal.access_far-requires-clause-may
access_far-requires-clause-may g c = let s = c.args.seat.now in let op = g.A.Access.op c.args.access in
    subst (λ (at : At). Allows (g.R.Rule.holds c.args.self.now.words.fixed) g.R.Rule.keeps s.id s.view (op at) (g.R.Rule.then s.view (op at))) c.in-Slot.is c.requires.may

pub access_there-requires-clause-may : goal.access_there-requires-clause-may
access_there-requires-clause-may g c = let s = c.args.seat.now in let op = g.A.Access.op c.args.access in
    let same : c.in_default.at ≡ c.args.at = elim c.in_default.branch [
      | in_default-via-in-Slot+else-slot-ge32 w ↦ w.at-is ∙ sym w.in-Slot.is
      | in_default-via-in_default w ↦ w.at-is
    ] in
    subst (λ (at : At). Allows (g.R.Rule.holds c.args.self.now.words.fixed) g.R.Rule.keeps s.id s.view (op at) (g.R.Rule.then s.view (op at))) (sym same) c.requires.may
