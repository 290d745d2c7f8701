-- The next step of a call that is under way may be taken at any moment.
use Rattle.std.specs.Prelude.{Option}
use Rattle.std.proofs.Common.{ℕ, Bool, sym, subst, refl}
use Rattle.seize_words.specs.OneMemory.Mem.{Mem, Can, Took}
use Rattle.map_tables.specs.declared.node.Node.{Node}
use Rattle.seize_seats.specs.Seats.State.{Goes}
use Rattle.threads_rule.specs.Views.Promises.{CallsContinue, CallsTurn}
use Rattle.threads_rule.specs.Views.Rule.{Holds, KeepsFor}
use Rattle.threads_rule.specs.Views.Told.{told, observed_by, turned, turned_by, called}
use Rattle.threads_rule.specs.declared.view.Map.{Map}
use Rattle.threads_rule.specs.declared.view.SeatWork.{SeatWork}
use Rattle.threads_rule.specs.declared.view.SeatWork.TheVariants.{Calls}
use Rattle.threads_rule.proofs.Views.Looked.{may_op, may_turn}
use Rattle.threads_rule.proofs.Views.UnderWay.{scene, so, step_plan, may, goes, hands, known, shows_told}

module _ {K S : Type 0} (V : Type 0) (same : K → K → Bool) (hash : S → K → ℕ) where
  pub calls_go_on : CallsContinue V same hash
  calls_go_on fixed id v map machine op knows works makes s h at_id =
      let step = may_op (scene same hash fixed s h id v at_id map machine knows works).world.memory (step_plan same hash fixed s h id v at_id map machine knows works) op makes
      (may same hash fixed s h id v at_id map machine knows works) in
      let is = (so same hash fixed s h id v at_id map machine knows works).memory in (
        subst (λ (m : Mem (Node K V)). Can m op) (sym is) step.0,
        λ out m2 took.
            let made = step.1 out m2 (subst (λ (m : Mem (Node K V)). Took m op out m2) is took) in
            let all = known same hash fixed s h id v at_id map machine knows works m2 made.end made.steps made.looks made.so made.seen in
            goes same hash fixed s h id v at_id map machine knows works m2 made.end made.steps all.more all.seen (told same hash v op out)
            (subst (λ (k : SeatWork K V S). observed_by same hash v v.map k op out (called v map machine made.end all.more)) (sym works)
            (subst (λ (o : Option (Map S)). observed_by same hash v o (Calls machine) op out (called v map machine made.end all.more)) (sym knows) (
              made.end,
              all.follows out made.follows,
              refl,
              all.may_follow out made.may,
              ((scene same hash fixed s h id v at_id map machine knows works).world.memory, m2, made.steps),
              hands same hash fixed s h id v at_id map machine knows works m2 made.end made.steps,
              shows_told same hash fixed s h id v at_id map machine knows works m2 made.end made.steps made.looks all,
            ))),
      )

  pub calls_turn : CallsTurn V same hash
  calls_turn fixed id v map machine rest knows works turns s h at_id =
      let plan = step_plan same hash fixed s h id v at_id map machine knows works in
      let step = may_turn (scene same hash fixed s h id v at_id map machine knows works).world.memory plan rest turns (may same hash fixed s h id v at_id map machine knows works) in
      let m = (scene same hash fixed s h id v at_id map machine knows works).world.memory in
      let is = (so same hash fixed s h id v at_id map machine knows works).memory in
      subst (λ (x : Mem (Node K V)). Goes (Holds same hash fixed) KeepsFor s x id (turned same hash v)) (sym is)
      (let all = known same hash fixed s h id v at_id map machine knows works m step.0 step.1 step.2 step.5 step.3 in
      goes same hash fixed s h id v at_id map machine knows works m step.0 step.1 all.more all.seen (turned same hash v)
      (subst (λ (k : SeatWork K V S). turned_by same hash v v.map k (called v map machine step.0 all.more)) (sym works)
      (subst (λ (o : Option (Map S)). turned_by same hash v o (Calls machine) (called v map machine step.0 all.more)) (sym knows) (
        step.0,
        all.turns step.4,
        refl,
        (m, m, step.1),
        hands same hash fixed s h id v at_id map machine knows works m step.0 step.1,
        shows_told same hash fixed s h id v at_id map machine knows works m step.0 step.1 step.2 all,
      ))))
