-- What is so of a state that is played stays so where a row begins on a slot, takes its step, and where a caller that reclaims all takes one: each entry so far is linearizable.
use Rattle.std.specs.Prelude.{◌≡◌, ℕ, Bool, List}
use Rattle.std.proofs.Common.{ap, sym, subst, ◌∙◌}
use Rattle.seize_acts.specs.Acts.Answers.{Grant}
use Rattle.run_schedules.specs.Given.SeizeWordsMem.{Mem}
use Rattle.seize_acts.specs.Given.SeizeWorld.{Request, Row}
use Rattle.seize_acts.specs.Given.SeizeDeclared.rows.reclaim_all.ReclaimAll.{ReclaimAll}
use Rattle.seize_acts.specs.Given.SeizeDeclared.rows.settle.Settled.{Settled}
use Rattle.play_lists.specs.Given.TablesDeclared.node.Node.{Node}
use Rattle.play_lists.specs.Given.EffectsDeclared.changed.Changed.{Changed}
use Rattle.play_lists.specs.Given.ScenesHeld.{Held, IsAt}
use Rattle.play_lists.specs.Given.ScenesReclaiming.{IsReclaiming, ReclaimingLeads}
use Rattle.play_lists.specs.Given.ScenesScene.{HasNoCall, IsOnSlot, Scene, row_of}
use Rattle.play_lists.specs.Given.ActsActs.{Act, Answer, BeginsRow, StepsRow}
use Rattle.play_lists.specs.Given.ActsAsSteps.{LeadsAs, changed_by, held_in, row_changed, outcome_of_row_step}
use Rattle.run_schedules.specs.Deeds.Deeds.{moment}
use Rattle.run_schedules.specs.Deeds.History.{past}
use Rattle.play_lists.specs.Played.Play.{State, all_stepped, row_begun, row_outcome, row_stepped}
use Rattle.play_lists.specs.Played.Reached.{IsOf, row_or_rests}
use Rattle.play_lists.proofs.Played.Noted.{CallsAreNoted}
use Rattle.play_lists.proofs.Played.PlayedAs.{PlayedAs}
use Rattle.play_linear.proofs.Linear.Holds.{Holds, onto}
use Rattle.play_linear.proofs.Linear.OthersGo.{rows_begin}
use Rattle.play_linear.proofs.Linear.RowsPlayed.{played_rows_answer, played_rows_are_heard, played_rows_are_linearizable, reclaiming_answers, reclaiming_is_heard, reclaiming_is_linearizable}

module _ {K V S : Type 0} (same : K → K → Bool) (by_hasher : S → K → ℕ) (hash : ℕ → K → ℕ) (batch_size roots : ℕ) (aborts : ℕ → V) (x y : State K V S) (s n : Scene K V)
    (is : IsOf by_hasher s s.world.row x.now) (before : Changed) (at : IsAt same hash (held_in batch_size roots before s) s) (holds : Holds same x s) (noted_then : CallsAreNoted y) (told : Answer K V) where
  abbrev old : Held K V
  old = held_in batch_size roots before s

  abbrev then_held : Act K V S → Held K V
  then_held act = held_in batch_size roots (changed_by same act s) n

  pub row_begins_hold : (i : ℕ) (request : Request) → PlayedAs same by_hasher batch_size roots aborts x y (BeginsRow i request)
      → LeadsAs same by_hasher hash (BeginsRow i request) s told n old (then_held (BeginsRow i request)) → Holds same y n
  row_begins_hold i request (its, there, y_is) (called, request_is, leads, n_is) =
      onto same (row_begun batch_size i x its) (record s { world = leads.2.0; maps = leads.2.2 }) y n y_is n_is
      (record {
        shows = rows_begin K V same hash (past x.history) (moment x.history) x.known s holds.shows old (then_held (BeginsRow i request)) at called i leads;
        noted = holds.noted;
        heard = holds.heard;
        each = holds.each;
      })

  pub row_steps_hold : (i : ℕ) (g : Grant) → HasNoCall s i → PlayedAs same by_hasher batch_size roots aborts x y (StepsRow i g)
      → LeadsAs same by_hasher hash (StepsRow i g) s told n old (then_held (StepsRow i g)) → Holds same y n
  row_steps_hold i g no_call (row, row_is, end, came, y_is) (leads, goes) =
      let new = then_held (StepsRow i g) in
      let there : s.world.row i ≡ row_of row = sym (is.between i no_call) ∙ ap row_or_rests row_is in
      let here : IsOnSlot s i row = (no_call, there) in
      let said = outcome_of_row_step (s.world.row i) g s.world.memory in
      let change : row_changed (row_of row) g x.now.memory ≡ new.changed = ap (row_changed (row_of row) g) is.memory ∙ ap (λ (r : Row). row_changed r g s.world.memory) (sym there) in
      let z_is : y ≡ row_stepped i row new.changed x end = y_is ∙ ap (λ (c : Changed). row_stepped i row c x end) change in
      onto same (row_stepped i row new.changed x end) (record s { world = (leads row here).2.0; maps = (leads row here).2.2 }) y n z_is (goes row here)
      (record {
        shows = played_rows_answer same hash x s old new holds.shows holds.heard at i row here said leads (row_outcome end.1.1);
        noted = subst CallsAreNoted z_is noted_then;
        heard = played_rows_are_heard same hash x s old new holds.shows holds.heard at i row here said leads (row_outcome end.1.1);
        each = (played_rows_are_linearizable same hash x s old new holds.shows holds.heard at i row here said leads (row_outcome end.1.1), holds.each);
      })

-- and who reclaims all takes a step
pub all_steps_hold : {K V S : Type 0} (same : K → K → Bool) (hash : ℕ → K → ℕ) (x y : State K V S) (s n : Scene K V) (old new : Held K V) (holds : Holds same x s) (noted_then : CallsAreNoted y) (i : ℕ)
    (lists : ℕ → List ℕ) (all next : ReclaimAll) (told : Settled (Node K V)) (at : IsReclaiming same hash old s i lists all) (leads : ReclaimingLeads same hash s i lists old new all next told) (memory : Mem (Node K V))
    → y ≡ all_stepped new.changed x (memory, (next, told)) → n ≡ record s { world = leads.1.w2; maps = leads.1.maps2 } → Holds same y n
all_steps_hold same hash x y s n old new holds noted_then i lists all next told at leads memory y_is n_is =
    onto same (all_stepped new.changed x (memory, (next, told))) (record s { world = leads.1.w2; maps = leads.1.maps2 }) y n y_is n_is
    (record {
      shows = reclaiming_answers same hash x s old new holds.shows holds.heard i lists all next told at leads;
      noted = subst CallsAreNoted y_is noted_then;
      heard = reclaiming_is_heard same hash x s old new holds.shows holds.heard i lists all next told at leads;
      each = (reclaiming_is_linearizable same hash x s old new holds.shows holds.heard i lists all next told at leads, holds.each);
    })
