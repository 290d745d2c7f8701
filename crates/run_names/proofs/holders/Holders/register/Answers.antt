use Rattle.std.proofs.Common.{length, length-append, ap, arith, ◌∙◌}
use Rattle.run_schedules.specs.Runs.Present.{registrations_on}
use Rattle.run_names.proofs.Presence.Crowds.Counts.{few_registered, registered_more}
use Rattle.run_names.proofs.holders.Holders.register.Goals as goal

pub add-requires-clause-few : goal.add-requires-clause-few
add-requires-clause-few c =
    let more = ap length c.in_ok-push.ensures.came ∙ length-append c.self.inside.registrations _ in
    omega (
      arith,
      c.in_ok-reach.ensures.same c.args.slot,
      c.self.invariant.registered_so c.args.slot,
      few_registered c.args.slot c.self.inside.registrations,
      c.in_ok-push.ensures.few,
      more,
    )

pub invariant_of-self-2 : goal.invariant_of-self-2
invariant_of-self-2 c = record {
  registered_so = λ slot.
      let more = c.add.ensures.more slot in
      let same = c.in_ok-reach.ensures.same slot in
      let was = c.self.invariant.registered_so slot in
      let is = registered_more slot c.self.inside.registrations (record { name = c.args.name; slot = c.args.slot }) in
      let came = ap (λ l. registrations_on slot l) c.in_ok-push.ensures.came in
      omega (arith, more, same, was, is, came);
  held_so = c.self.invariant.held_so;
  living_so = c.self.invariant.living_so;
  all_so = c.self.invariant.all_so;
}
