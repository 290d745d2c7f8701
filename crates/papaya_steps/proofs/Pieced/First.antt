-- Before all events no act was done: the list of none leads to where the executor is, and a choice of a number that comes then is an act of the list.
use Rattle.std.proofs.Common.{◌≡◌, ℕ, Bool, List, [], refl, sym, subst, arith}
use Rattle.play_events.specs.Given.ScenesScene.{at_first, slot_of}
use Rattle.run_schedules.specs.Schedules.Terms.{Terms, shards_of}
use Rattle.run_effects.specs.Effects.Known.{known, nothing_known}
use Rattle.play_events.specs.Given.ExecutorIsThere.{IsThere}
use Rattle.play_events.specs.Given.LoggedChoosing.{logged_chosen}
use Rattle.play_events.specs.Given.LoggedDeclared.logged.Logged.{Logged}
use Rattle.play_events.specs.Given.ExecutorDeclared.caller.NamedCaller.{NamedCaller}
use Rattle.play_events.specs.Given.ActsLists.{Course, nothing_done}
use Rattle.play_events.specs.Given.PlayedPlay.{State, first_state}
use Rattle.play_events.specs.Given.GroupedCalled.{PlaysSo}
use Rattle.play_events.proofs.Given.GroupedChosen.{choice_goes}
use Rattle.papaya_steps.specs.Pieced.SoFar.{ActsSoFar}
use Rattle.papaya_steps.proofs.Pieced.Chosen.{quiet_choice}

-- nothing was played
plays_none : {K V S : Type 0} (roots : ℕ) → PlaysSo {K = K} {V = V} {S = S} [] [] (first_state roots)
plays_none roots = record { names = []; grouping = (refl, refl); callers = record { each = tt; once = λ i. omega arith }; fresh = λ n few. refl }

module _ {K V S : Type 0} (same : K → K → Bool) (by_hasher : S → K → ℕ) (terms : Terms) (l : Logged K V S) where
  pub none_yet : IsThere same (by_hasher l.executor.hasher) l.executor (at_first terms.roots) → l.executor.batch_size ≡ terms.batch_size → l.executor.roots ≡ terms.roots → known l.notes ≡ nothing_known
      → (calls : List (NamedCaller V)) → calls ≡ [] → ActsSoFar same by_hasher terms [] l calls
  none_yet there size roots nothing calls none = record {
    hasher_is = refl;
    size = size;
    roots_are = roots;
    doings = [];
    asks = tt;
    leads = λ course. (nothing_done V same by_hasher terms.batch_size terms.roots slot_of course, refl, refl, there);
    played = λ value. record {
      aborts = λ n. value;
      after = first_state terms.roots;
      plays = refl;
      new = tt;
      knows = sym nothing;
      so = subst (λ (c : List (NamedCaller V)). PlaysSo [] c (first_state {K = K} {V = V} {S = S} terms.roots)) (sym none) (plays_none terms.roots);
    };
  }

  pub one_choice_yet : (any : (batch_size roots : ℕ) → Course V same by_hasher batch_size roots slot_of) (choice : ℕ) (calls : List (NamedCaller V)) → ActsSoFar same by_hasher terms [] l calls
      → ActsSoFar same by_hasher terms [] (logged_chosen choice l) calls
  one_choice_yet any choice calls at =
      choice_goes same by_hasher (shards_of terms) choice l.executor (PlaysSo [] calls) (PlaysSo [] calls) (λ (x : State K V S) so. quiet_choice [] calls choice x so) (known l.notes) terms.batch_size terms.roots
      (any terms.batch_size terms.roots) at
