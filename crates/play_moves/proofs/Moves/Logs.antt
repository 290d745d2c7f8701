-- A log that is by acts is the grouping of a history that keeps all that is promised of histories.
use Rattle.std.specs.Prelude.{Bool}
use Rattle.std.proofs.Common.{ℕ, sym, subst, ◌∙◌}
use Rattle.run_schedules.specs.Schedules.After.{AtEachEvent}
use Rattle.run_legal.specs.Given.ScenesScene.{slot_of}
use Rattle.play_linear.proofs.Given.ActsLists.{lists_determine}
use Rattle.play_linear.specs.Given.PlayedPlay.{State}
use Rattle.play_moves.specs.Moves.Legal.{KeepsAll}
use Rattle.play_moves.specs.Moves.Logs.{LogsKeepAll}
use Rattle.play_moves.proofs.Moves.Legal.{lists_keep_all}
use Rattle.run_schedules.proofs.Given.General.{same_some}

module _ {K S : Type 0} (V : Type 0) (same : K → K → Bool) (by_hasher : S → K → ℕ) where
  pub logs_keep_all : LogsKeepAll {K = K} {S = S} V same by_hasher
  logs_keep_all lawful hasher terms log by value =
      let course = (lists_determine {K = K} {V = V} {S = S} same by_hasher terms.batch_size terms.roots slot_of lawful).0 in
      let led = by.leads course in
      let played = by.played value in
      let all = lists_keep_all V same by_hasher (λ map. by_hasher hasher) terms.batch_size terms.roots terms by.small played.0 course by.doings led.0 led.1 by.asks played.1.new in
      subst (λ (x : State K V S). AtEachEvent (KeepsAll same terms) x.history) (same_some all.0 played.1.after (sym all.1 ∙ played.1.plays)) all.2
