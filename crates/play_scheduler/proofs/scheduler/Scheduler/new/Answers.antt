-- A schedule begins.
use Rattle.std.specs.Prelude.{false, []}
use Rattle.std.proofs.Common.{refl, sym, ap}
use Rattle.play_scheduler.proofs.First.{stands_first}
use Rattle.play_scheduler.proofs.scheduler.Scheduler.new.Goals as goal

pub returns-clause-played : goal.returns-clause-played
returns-clause-played g c = λ same hash.
    stands_first same hash _ c.args.setup.roots (λ name. c.in_ok-new.ensures.shown same hash name) c.nobody.ensures c.new-2.ensures c.nobody-2.ensures refl refl

pub returns-clause-begun : goal.returns-clause-begun
returns-clause-begun g c =
    let logged = c.in_ok-new.ensures in
    let first = sym (logged.shown (λ k d. false) (λ k. 0) (λ i. [])).is_at.held.memory in record {
      maps = logged.maps;
      known_is = logged.notes;
      many = logged.given.2;
      batches = logged.given.1;
      free = ap (λ m. m.used) first;
      nowhere = ap (λ m. m.roots) first;
      slots = ap (λ m. m.slots) first;
    }

pub returns-clause-shown : goal.returns-clause-shown
returns-clause-shown g c = λ same hash name. c.in_ok-new.ensures.shown same hash name
