use Rattle.std.proofs.Common.{◌≡◌, ℕ, ◌+◌, ◌-◌, refl, sym, subst, arith}
use Rattle.seize_words.specs.OneMemory.Op.{Room}
use Rattle.seize_seats.specs.Seats.State.{Allows}
use Rattle.seize_blocks.proofs.blocks.Blocks.room.Goals as goal

pub ask_room-found-requires : goal.ask_room-found-requires
ask_room-found-requires g c = let r = c.requires in let some = c.if-bucket-eq0.false in let few = c.if-bucket-gt32.false in let s = c.args.seat.now in
    let same : c.args.bucket ≡ c.args.bucket + 31 - 31 = omega arith in (
      r.own,
      sym c.args.self.now.lies.1,
      omega (arith, some),
      omega (arith, few),
      subst (λ (m : ℕ). Allows (g.R.Rule.holds c.args.self.now.words.fixed) g.R.Rule.keeps s.id s.view (Room m) (g.R.Rule.then s.view (Room m))) same r.may,
    )

pub lay_room-requires-clause-may : goal.lay_room-requires-clause-may
lay_room-requires-clause-may g c = let e = c.ask_room-found.ensures in
    subst (λ (u : ℕ × g.row.R-View.Denot). Allows (g.R.Rule.holds c.args.self.now.words.fixed) g.R.Rule.keeps u.0 u.1 (Room c.args.bucket) (g.R.Rule.then u.1 (Room c.args.bucket)))
    (λ i. (sym e.1 i, sym (e.6 c.in-None.ensures.null refl) i)) c.requires.may
