use Rattle.std.proofs.Common.{ℕ, refl, subst, lit<}
use denote.RawPtr.{null_ptr}
use Rattle.seize_words.specs.OneMemory.Op.{Make}
use Rattle.seize_seats.specs.Seats.State.{Allows}
use Rattle.seize_blocks.proofs.By.{on_put}
use Rattle.seize_blocks.proofs.blocks.Blocks.make.Goals as goal

pub put-requires : goal.put-requires
put-requires g c = let s = c.in-Some in let k = s.ensures in let v = c.args.seat.now in
    on_put g.R.Rule.rests g.R.Rule.leans g.R.Rule.upright g.R.Rule.holds g.R.Rule.keeps v.base v.id s.index s.part.first s.part.count v.view
    record { value = c.args.value; at = null_ptr; count = 0; beside = (refl, lit< tt) } c.none.result
    s.part.values _ _ _ _ c.args.self.now.words.id _ _ s.claim (g.R.Rule.then v.view (Make c.args.value 0)) c.by.ensures c.requires.own
    (k.2, k.3, k.4) s.part.is.0 s.part.is.1 s.part.is.2 k.1 s.part.fits.1 c.none.ensures
    (subst (λ (n : ℕ). Allows (g.R.Rule.holds c.args.self.now.words.fixed) g.R.Rule.keeps v.id v.view (Make c.args.value n) (g.R.Rule.then v.view (Make c.args.value n)))
    c.if-words-ne0.false c.requires.may)
