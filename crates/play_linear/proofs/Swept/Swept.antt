-- By the history of each list of acts calls on whole maps do what they are for.
use Rattle.std.specs.Prelude.{ℕ, Bool, List, [], ◌∷◌}
use Rattle.std.specs.List.{AllByRecursion}
use Rattle.std.proofs.Common.{refl}
use Rattle.run_schedules.specs.Schedules.Terms.{Terms, shards_of}
use Rattle.play_lists.specs.Given.EffectsKnown.{nothing_known}
use Rattle.play_lists.specs.Given.ScenesScene.{at_first, slot_of}
use Rattle.run_logged.proofs.Given.MomentsCalls.{whole_begins}
use Rattle.play_lists.proofs.Given.HistoriesDueOn.{dues_begin}
use Rattle.run_sweeps.proofs.Purposes.Stored.{first_lasts}
use Rattle.play_lists.specs.Given.ActsActs.{Act}
use Rattle.play_lists.specs.Given.ActsDoings.{Doing, Does, BeginsReclaiming, BeginsClearing, StepsReclaiming, Chooses}
use Rattle.play_lists.specs.Given.ActsLists.{nothing_done}
use Rattle.play_lists.specs.Agrees.Agree.{Asks}
use Rattle.play_lists.specs.Agrees.Shards.{AsksShards, ShardsAre}
use Rattle.play_lists.proofs.Agrees.Agree.{own_so}
use Rattle.play_lists.proofs.Agrees.Coming.{new_fits}
use Rattle.play_lists.specs.Agrees.Fresh.{HasNewNumber}
use Rattle.play_lists.proofs.Agrees.GivenBack.{again_first}
use Rattle.play_lists.proofs.Agrees.Shards.{shards_stay}
use Rattle.run_schedules.specs.Deeds.Deeds.{moment, named}
use Rattle.run_schedules.specs.Deeds.History.{past}
use Rattle.play_lists.specs.Played.Play.{State, first_state}
use Rattle.play_lists.proofs.Played.Along.{AllFit, At, wherever}
use Rattle.play_linear.proofs.Linear.Stays.{first_holds}
use Rattle.play_linear.specs.Swept.Shown.{HasSwept, RefinesSweeps}
use Rattle.play_linear.specs.Swept.Swept.{ListsAreSwept}
use Rattle.play_linear.proofs.Swept.Instance.{P, Shards, sweeps_are_kept}
use Rattle.play_linear.proofs.Swept.KeptByAll.{Fit, With, all_kept}

-- at first
pub first_swept : {K V : Type 0} (same : K → K → Bool) (terms : Terms) (roots : ℕ) → HasSwept {K = K} {V = V} same terms [] nothing_known (at_first roots)
first_swept {K} {V} same terms roots = record { shows = first_shows; each = tt }
  where
    first_shows : RefinesSweeps {K = K} {V = V} same (past []) (moment []) nothing_known (at_first roots)
    first_shows = record {
      purposes = record {
        past = (dues_begin K V same roots named).history.past;
        lasts = first_lasts K V;
        shown = (whole_begins K V same roots named).all.shown;
        begun = λ of i u is c found. absurd (cc is);
        is_for = λ of i u is c found. absurd (cc is);
        come = λ of i u is st there c found. absurd (cc is);
      };
      counters = record { shards = λ of st is shard few. absurd (cc is); makes = λ i b is. absurd (cc is); adds = λ of i u is removed adds c found. absurd (cc is) };
      tabled = record { maps = λ of none shard. refl; counts = λ of i u is counts. absurd (cc is) };
    }

module _ {K S : Type 0} (V : Type 0) (same : K → K → Bool) (by_hasher : S → K → ℕ) (hash : ℕ → K → ℕ) (batch_size roots : ℕ) (terms : Terms) where
  abbrev More : State K V S → Act K V S → Type 0
  More x act = AsksShards (shards_of terms) act

  abbrev So : At V same by_hasher hash batch_size roots → State K V S → Type 0
  So p x = ShardsAre (shards_of terms) p.0

  -- each act makes its map with a new number, and with so many shards
  both_fit : (aborts : ℕ → V) (doings : List (Doing K V S)) → AllByRecursion (Asks V same by_hasher hash batch_size roots (shards_of terms)) doings → (x : State K V S)
      → AllFit V same by_hasher hash batch_size roots aborts HasNewNumber doings x
      → AllFit V same by_hasher hash batch_size roots aborts (Fit V same by_hasher hash batch_size roots aborts (Shards same hash terms) (P same hash terms) (sweeps_are_kept same hash terms) More So) doings x
  both_fit aborts [] asks x new = tt
  both_fit aborts (Does act ∷ doings) asks x new = ((new.0, asks.0.1), λ y e. both_fit aborts doings asks.1 y (new.1 y e))
  both_fit aborts (BeginsReclaiming i ∷ doings) asks x new = (tt, λ y e. both_fit aborts doings asks.1 y (new.1 y e))
  both_fit aborts (BeginsClearing i ∷ doings) asks x new = (tt, λ y e. both_fit aborts doings asks.1 y (new.1 y e))
  both_fit aborts (StepsReclaiming g ∷ doings) asks x new = (tt, λ y e. both_fit aborts doings asks.1 y (new.1 y e))
  both_fit aborts (Chooses choice ∷ doings) asks x new = (tt, λ y e. both_fit aborts doings asks.1 y (new.1 y e))

  pub lists_are_swept : ListsAreSwept V same by_hasher hash batch_size roots terms
  lists_are_swept small aborts course doings y led asks makes_new =
      let first = nothing_done V same by_hasher batch_size roots slot_of course in
      let new = new_fits V same by_hasher hash batch_size roots aborts doings (first_state roots) makes_new in
      let R = Shards same hash terms in
      let kept = sweeps_are_kept same hash terms in
      let to = wherever V same by_hasher hash batch_size roots small aborts (Fit V same by_hasher hash batch_size roots aborts R (P same hash terms) kept More So)
      (With V same by_hasher hash batch_size roots aborts R (P same hash terms) kept More So)
      (all_kept V same by_hasher hash batch_size roots aborts R (P same hash terms) kept More So (shards_stay V same by_hasher hash batch_size roots (shards_of terms) aborts) (λ p x none is at all so. so)) course doings y
      led (own_so V same by_hasher hash batch_size roots aborts (shards_of terms) doings asks) (
        first_holds V same by_hasher hash batch_size roots aborts first.0 refl (again_first roots),
        (record { standing = λ m st has. absurd (cc has); made = λ i b makes. absurd (cc makes) }, first_swept same terms roots),
      ) (both_fit aborts doings asks (first_state roots) new) in
      (to.0, to.1, to.2.1.1.each)
