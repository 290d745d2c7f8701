-- A run that stands where a list of acts has led is by acts; and there is a course, where each hasher gives keys lawful hashes.
use Rattle.std.specs.Prelude.{◌<◌, ◌^◌}
use Rattle.std.proofs.Common.{ℕ, Bool, List, subst}
use Rattle.play_events.specs.Given.PointsSteps.{AreLawful}
use Rattle.play_events.specs.Given.ScenesScene.{slot_of}
use Rattle.run_schedules.specs.Schedules.Entry.{Entry}
use Rattle.run_schedules.specs.Schedules.Terms.{Terms}
use Rattle.play_events.specs.Given.LoggedDeclared.logged.Logged.{Logged}
use Rattle.play_events.specs.Given.ExecutorDeclared.caller.NamedCaller.{NamedCaller}
use Rattle.play_events.specs.Given.ActsLists.{Course}
use Rattle.play_events.proofs.Given.ActsLists.{lists_determine}
use Rattle.play_events.specs.Given.GroupedByActs.{IsByActs}
use Rattle.papaya_steps.specs.Pieced.SoFar.{ActsSoFar}

module _ {K S : Type 0} (V : Type 0) (same : K → K → Bool) (by_hasher : S → K → ℕ) where
  pub any_course : ((hasher : S) → AreLawful same (by_hasher hasher)) → (batch_size roots : ℕ) → Course V same by_hasher batch_size roots slot_of
  any_course lawful batch_size roots = (lists_determine {V = V} same by_hasher batch_size roots slot_of lawful).0

module _ {K V S : Type 0} (same : K → K → Bool) (by_hasher : S → K → ℕ) (any : (batch_size roots : ℕ) → Course V same by_hasher batch_size roots slot_of) (terms : Terms) (log : List (Entry K V)) (l : Logged K V S)
    (calls : List (NamedCaller V)) where
  pub by_acts : ActsSoFar same by_hasher terms log l calls → IsByActs same by_hasher l.executor.hasher terms log
  by_acts at = record {
    small = subst (λ (n : ℕ). n < 2 ^ 64) at.size ((at.leads (any terms.batch_size terms.roots)).3.held.small);
    doings = at.doings;
    asks = at.asks;
    leads = λ course. (let to = at.leads course in (to.0, to.1));
    played = λ value. (let p = at.played value in (p.aborts, record { after = p.after; plays = p.plays; new = p.new; names = p.so.names; grouping = p.so.grouping }));
  }
