use Rattle.std.proofs.Common.{false, length, length-append, refl, ap, arith, ◌∙◌}
use Rattle.run_schedules.specs.declared.holders.NamedGuard.{NamedGuard}
use Rattle.run_schedules.specs.Runs.Present.{guards_on, living_on}
use Rattle.run_names.specs.Presence.Crowd.{is_living, weigh}
use Rattle.run_names.proofs.Presence.Crowds.Counts.{all_more, few_all, few_held, few_living, held_more, living_more}
use Rattle.run_names.proofs.holders.Holders.enter.Goals as goal

pub add-requires-clause-few : goal.add-requires-clause-few
add-requires-clause-few c =
    let more = ap length c.in_ok-push.ensures.came ∙ length-append c.self.inside.guards _ in
    omega (
      arith,
      c.in_ok-reach.ensures.same c.args.slot,
      c.self.invariant.held_so c.args.slot,
      few_held c.args.slot c.self.inside.guards,
      c.in_ok-push.ensures.few,
      more,
    )

pub add-requires-2-clause-few : goal.add-requires-2-clause-few
add-requires-2-clause-few c =
    let more = ap length c.in_ok-push.ensures.came ∙ length-append c.self.inside.guards _ in
    omega (
      arith,
      c.in_ok-reach-2.ensures.same c.args.slot,
      c.self.invariant.living_so c.args.slot,
      few_living c.args.slot c.self.inside.guards,
      c.in_ok-push.ensures.few,
      more,
    )

pub overflow_add-self : goal.overflow_add-self
overflow_add-self c =
    let more = ap length c.in_ok-push.ensures.came ∙ length-append c.self.inside.guards _ in
    omega (arith, c.self.invariant.all_so, few_all c.self.inside.guards, c.in_ok-push.ensures.few, more)

pub invariant_of-self-2 : goal.invariant_of-self-2
invariant_of-self-2 c =
    let guard : NamedGuard = record { name = c.args.name; slot = c.args.slot; forgotten = false } in record {
      registered_so = c.self.invariant.registered_so;
      held_so = λ slot.
          let more = c.add.ensures.more slot in
          let same = c.in_ok-reach.ensures.same slot in
          let was = c.self.invariant.held_so slot in
          let is = held_more slot c.self.inside.guards guard in
          let came = ap (λ l. guards_on slot l) c.in_ok-push.ensures.came in
          omega (arith, more, same, was, is, came);
      living_so = λ slot.
          let more = c.add-2.ensures.more slot in
          let same = c.in_ok-reach-2.ensures.same slot in
          let was = c.self.invariant.living_so slot in
          let is = living_more slot c.self.inside.guards guard refl in
          let came = ap (λ l. living_on slot l) c.in_ok-push.ensures.came in
          omega (arith, more, same, was, is, came);
      all_so =
          let was = c.self.invariant.all_so in
          let is = all_more c.self.inside.guards guard refl in
          let came = ap (λ l. weigh is_living l) c.in_ok-push.ensures.came in
          omega (arith, was, is, came);
    }
