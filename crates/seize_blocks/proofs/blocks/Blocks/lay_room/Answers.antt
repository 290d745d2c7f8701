use Rattle.std.proofs.Common.{◌≡◌, ℕ, ◌+◌, ◌-◌, ◌*◌, ◌<◌, replicate, sym, ap, ◌∙◌, subst, arith}
use Rattle.seize_words.specs.OneMemory.Op.{Room}
use Rattle.seize_words.specs.OneMemory.Place.{capacity}
use Rattle.seize_seats.specs.Seats.State.{Allows}
use Rattle.seize_seats.proofs.Seats.Places.Grounds.{capacity_least}
use Rattle.seize_seats.proofs.Plots.Somewhere.{beside_some}
use Rattle.seize_blocks.proofs.blocks.Blocks.lay_room.Goals as goal

pub offer_room-found-requires : goal.offer_room-found-requires
offer_room-found-requires g c = let r = c.requires in let low = r.behind.0 in let few = r.behind.1 in let s = c.args.seat.now in let l = c.in-Some in
    let same : c.args.bucket ≡ c.args.bucket + 31 - 31 = omega arith in let least = capacity_least c.args.bucket in let e = c.bucket_capacity-count.ensures in
    let some : 0 < c.bucket_capacity-count.result * 16 = omega (arith, e, least) in (
      r.own,
      sym c.args.self.now.lies.1,
      omega (arith, low),
      omega (arith, few),
      beside_some l.laid.at (c.bucket_capacity-count.result * 16) l.ensures.beside some,
      l.ensures.lies.0,
      l.ensures.lies.1 ∙ ap (λ (n : ℕ). n * 16) (e ∙ ap capacity same),
      l.ensures.zeros ∙ ap (λ (n : ℕ). replicate n 0) (sym l.ensures.lies.1),
      subst (λ (m : ℕ). Allows (g.R.Rule.holds c.args.self.now.words.fixed) g.R.Rule.keeps s.id s.view (Room m) (g.R.Rule.then s.view (Room m))) same r.may,
    )

pub ask_room-found-requires : goal.ask_room-found-requires
ask_room-found-requires g c = let r = c.requires in let low = r.behind.0 in let few = r.behind.1 in let s = c.args.seat.now in
    let same : c.args.bucket ≡ c.args.bucket + 31 - 31 = omega arith in (
      r.own,
      sym c.args.self.now.lies.1,
      omega (arith, low),
      omega (arith, few),
      subst (λ (m : ℕ). Allows (g.R.Rule.holds c.args.self.now.words.fixed) g.R.Rule.keeps s.id s.view (Room m) (g.R.Rule.then s.view (Room m))) same r.may,
    )
