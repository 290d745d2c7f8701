use Rattle.std.proofs.Common.{arith}
use Rattle.run_names.proofs.Presence.Crowds.Counts.{registered_less, registered_one}
use Rattle.run_names.proofs.holders.Holders.unregister.Goals as goal

pub lessen-requires : goal.lessen-requires
lessen-requires c =
    let r = c.in-Some.registration in
    let one = registered_one r c.self.inside.registrations c.remove.new.self c.in-Some.ensures.weights in
    omega (arith, one, c.self.invariant.registered_so r.slot)

pub invariant_of-self : goal.invariant_of-self
invariant_of-self c = record {
  registered_so = λ slot.
      let less = registered_less c.in-Some.registration c.self.inside.registrations c.remove.new.self c.in-Some.ensures.weights slot in
      let now = c.lessen.ensures slot in
      let was = c.self.invariant.registered_so slot in
      omega (arith, less, now, was);
  held_so = c.self.invariant.held_so;
  living_so = c.self.invariant.living_so;
  all_so = c.self.invariant.all_so;
}

pub invariant_of-self-in-None : goal.invariant_of-self-in-None
invariant_of-self-in-None c = rw c.in-None.ensures.weights c.self.invariant
