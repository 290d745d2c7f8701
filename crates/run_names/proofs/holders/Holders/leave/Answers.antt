use Rattle.std.specs.Prelude.{◌==◌, if◌then◌else◌}
use Rattle.std.proofs.Common.{ℕ, ap, arith}
use Rattle.run_names.proofs.Presence.Crowds.Counts.{all_less, held_less, held_one, living_less, living_one}
use Rattle.run_names.proofs.holders.Holders.leave.Goals as goal

pub lessen-requires : goal.lessen-requires
lessen-requires c =
    let g = c.in-Some.guard in
    let one = held_one g c.self.inside.guards c.remove.new.self c.in-Some.ensures.weights in
    omega (arith, one, c.self.invariant.held_so g.slot)

pub lessen-requires-in-Some : goal.lessen-requires-in-Some
lessen-requires-in-Some c =
    let g = c.in-Some.guard in
    let one = living_one g c.self.inside.guards c.remove.new.self c.in-Some.ensures.weights in
    omega (arith, one, c.self.invariant.living_so g.slot, c.one_if-living.ensures)

pub invariant_of-self : goal.invariant_of-self
invariant_of-self c =
    let g = c.in-Some.guard in
    let old = c.self.inside.guards in
    let new = c.remove.new.self in
    let weights = c.in-Some.ensures.weights in record {
      registered_so = c.self.invariant.registered_so;
      held_so = λ slot.
          let less = held_less g old new weights slot in
          let now = c.lessen.ensures slot in
          let was = c.self.invariant.held_so slot in
          omega (arith, less, now, was);
      living_so = λ slot.
          let less = living_less g old new weights slot in
          let now = c.lessen-in-Some.ensures slot in
          let same = ap (λ (n : ℕ). if g.slot == slot then n else 0) c.one_if-living.ensures in
          let was = c.self.invariant.living_so slot in
          omega (arith, less, now, same, was);
      all_so =
          let less = all_less g old new weights in
          let was = c.self.invariant.all_so in
          omega (arith, less, c.one_if-living.ensures, was);
    }

pub invariant_of-self-in-None : goal.invariant_of-self-in-None
invariant_of-self-in-None c = rw c.in-None.ensures.weights c.self.invariant
