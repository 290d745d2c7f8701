-- Each entry of the history of each list of acts moves on, and is of its call.
use Rattle.std.specs.Prelude.{◌≡◌, ◌<◌, ◌^◌, Bool, List, [], ◌∷◌, Some}
use Rattle.std.specs.List.{AllByRecursion}
use Rattle.std.proofs.Common.{ℕ, refl, sym, subst, ◌∙◌}
use Rattle.run_schedules.specs.Schedules.After.{AtEachEvent}
use Rattle.run_schedules.specs.Schedules.Terms.{Terms, shards_of}
use Rattle.run_legal.specs.Given.EffectsKnown.{nothing_known}
use Rattle.run_legal.specs.Given.FollowsShows.{Refines}
use Rattle.run_legal.specs.Given.ScenesScene.{at_first, slot_of}
use Rattle.threads_rule.specs.Given.ActsActs.{Act, BeginsMaking}
use Rattle.play_linear.specs.Given.ActsDoings.{Doing, Does, BeginsReclaiming, BeginsClearing, StepsReclaiming, Chooses}
use Rattle.play_linear.specs.Given.ActsLists.{Course, LedTo, Reached, nothing_done}
use Rattle.play_linear.specs.Given.AgreesFresh.{HasNewNumber, MakesNew}
use Rattle.play_linear.specs.Given.AgreesPlaces.{AsksMap, AsksMaps, AsksPlaces}
use Rattle.play_linear.specs.Given.AgreesShards.{AsksShards}
use Rattle.play_linear.proofs.Given.AgreesComing.{new_fits}
use Rattle.play_linear.proofs.Given.AgreesGivenBack.{again_first}
use Rattle.play_linear.proofs.Given.AgreesGuards.{guards_at_first}
use Rattle.run_schedules.specs.Deeds.Deeds.{Entry, moment, named}
use Rattle.run_schedules.specs.Deeds.History.{MovesOn, past}
use Rattle.play_linear.specs.Given.PlayedPlay.{State, first_state, play_all}
use Rattle.play_linear.proofs.Given.PlayedAlong.{AllFit, AreOfTheirOwn, At, wherever}
use Rattle.play_linear.specs.Linear.Linear.{IsOfOwn}
use Rattle.play_linear.proofs.Linear.Holding.{AllHolds}
use Rattle.play_linear.proofs.Linear.Stays.{first_holds}
use Rattle.play_linear.specs.Endings.InOrder.{EndsInOrder}
use Rattle.play_linear.proofs.Endings.InOrder.{maps_end_in_order}
use Rattle.play_linear.proofs.Endings.Stays.{first_go}
use Rattle.play_linear.proofs.Swept.Swept.{first_swept}
use Rattle.play_moves.specs.EachMoves.Finds.{OthersFind}
use Rattle.play_moves.specs.EachMoves.Moves.{ListsMoveOn}
use Rattle.play_moves.specs.Moves.Order.{KeepsOrder}
use Rattle.play_moves.specs.EachMoves.Own.{IsOfItsCall}
use Rattle.play_moves.specs.EachMoves.Parts.{DoesIts}
use Rattle.play_moves.specs.Moves.Steps.{HasFound, RefinesSteps, StepFinds}
use Rattle.play_moves.proofs.Moves.BucketsStay.{first_buckets}
use Rattle.play_moves.proofs.Moves.MoveOn.{OtherFinds, all_move_on}
use Rattle.play_moves.proofs.Moves.OtherStays.{OthersStand, others_stay}
use Rattle.play_moves.proofs.Moves.OthersFound.{others_found}
use Rattle.play_moves.proofs.Moves.StepsStay.{Asks, Beside, WithOrder, WithSteps, steps_stay}
use Rattle.run_schedules.proofs.Given.General.{same_some}

-- who asks for a map asks for its shards, and for its places
pub both_asked : {K V S : Type 0} (shards : ℕ) (act : Act K V S) → AsksMap shards act → AsksShards shards act × AsksPlaces act
both_asked shards (BeginsMaking i map hasher given places) asks = asks
both_asked shards act asks = (tt, tt)

-- By what each entry does, how maps end, and what who acts on slots, makes maps or reclaims all finds, each that is no step of a call finds what it must.
each_other : {K V : Type 0} (terms : Terms) (history : List (Entry K V)) → AtEachEvent DoesIts history → AtEachEvent EndsInOrder history → AtEachEvent (OthersFind terms) history → AtEachEvent (OtherFinds terms) history
each_other terms [] does ends others = tt
each_other terms (e ∷ log) does ends others = (others_found terms log e does.0 ends.0 others.0, each_other terms log does.1 ends.1 others.1)

-- at first
first_order : (K V : Type 0) (terms : Terms) (roots : ℕ) → KeepsOrder {K = K} {V = V} terms [] (at_first roots)
first_order K V terms roots = record { under_way = tt; room = λ map i u is. absurd (cc is); each = tt; own = tt }

module _ (K V : Type 0) (same : K → K → Bool) (terms : Terms) (roots : ℕ) (shown : Refines {K = K} {V = V} same named (moment []) nothing_known (at_first roots)) where
  first_steps : RefinesSteps {K = K} {V = V} same (past []) (moment []) nothing_known (at_first roots)
  first_steps = record {
    finding = record {
      growing = λ map i u is. absurd (cc is);
      further = λ map i u is. absurd (cc is);
      capacities = λ map standing is. absurd (cc is);
      waits = λ map i u is. absurd (cc is);
      puts = λ map i u is. absurd (cc is);
    };
    nexts = λ map i u is. absurd (cc is);
    tries = λ map i u is. absurd (cc is);
    sources = record {
      shown = shown;
      numbered = λ map st is. absurd (cc is);
      came = λ map st is. absurd (cc is);
      left = λ map st is. absurd (cc is);
    };
  }

  first_found : HasFound {K = K} {V = V} same terms [] nothing_known (at_first roots)
  first_found = record { swept = first_swept same terms roots; shows = λ order. first_steps; each = tt }

module _ {K S : Type 0} (V : Type 0) (same : K → K → Bool) (by_hasher : S → K → ℕ) (hash : ℕ → K → ℕ) (batch_size roots : ℕ) (terms : Terms) where
  own_so : (doings : List (Doing K V S)) → AllByRecursion (AsksMaps V by_hasher hash (shards_of terms)) doings
      → AreOfTheirOwn V same by_hasher hash batch_size roots doings × AllByRecursion (IsOfOwn V same by_hasher hash batch_size roots) doings
  own_so [] asks = (tt, tt)
  own_so (Does act ∷ doings) asks = (let rest = own_so doings asks.1 in ((asks.0.0, rest.0), (asks.0.0, rest.1)))
  own_so (BeginsReclaiming i ∷ doings) asks = (let rest = own_so doings asks.1 in ((tt, rest.0), (tt, rest.1)))
  own_so (BeginsClearing i ∷ doings) asks = (let rest = own_so doings asks.1 in ((tt, rest.0), (tt, rest.1)))
  own_so (StepsReclaiming g ∷ doings) asks = (let rest = own_so doings asks.1 in ((tt, rest.0), (tt, rest.1)))
  own_so (Chooses choice ∷ doings) asks = (let rest = own_so doings asks.1 in ((tt, rest.0), (tt, rest.1)))

  module _ (aborts : ℕ → V) where
    abbrev Fits : State K V S → Act K V S → Type 0
    Fits x act = HasNewNumber x act × Asks V same by_hasher hash batch_size roots aborts terms x act

    -- each act makes its map with a new number, and as the terms and a capacity ask
    fit_so : (doings : List (Doing K V S)) → AllByRecursion (AsksMaps V by_hasher hash (shards_of terms)) doings → (x : State K V S)
        → AllFit V same by_hasher hash batch_size roots aborts HasNewNumber doings x → AllFit V same by_hasher hash batch_size roots aborts Fits doings x
    fit_so [] asks x new = tt
    fit_so (Does act ∷ doings) asks x new = ((new.0, (new.0, both_asked (shards_of terms) act asks.0.1)), λ y e. fit_so doings asks.1 y (new.1 y e))
    fit_so (BeginsReclaiming i ∷ doings) asks x new = (tt, λ y e. fit_so doings asks.1 y (new.1 y e))
    fit_so (BeginsClearing i ∷ doings) asks x new = (tt, λ y e. fit_so doings asks.1 y (new.1 y e))
    fit_so (StepsReclaiming g ∷ doings) asks x new = (tt, λ y e. fit_so doings asks.1 y (new.1 y e))
    fit_so (Chooses choice ∷ doings) asks x new = (tt, λ y e. fit_so doings asks.1 y (new.1 y e))

    module _ (course : Course V same by_hasher batch_size roots slot_of) where
      abbrev first : At V same by_hasher hash batch_size roots
      first = (nothing_done V same by_hasher batch_size roots slot_of course).0

      first_all : AllHolds same (first_state {K = K} {V = V} {S = S} roots) first.0
      first_all = first_holds V same by_hasher hash batch_size roots aborts first refl (again_first roots)

      abbrev first_shown : Refines {K = K} {V = V} same named (moment []) nothing_known (at_first roots)
      first_shown = first_all.holds.shows.whole.all.shown

      first_beside : Beside V same by_hasher hash batch_size roots aborts terms first (first_state roots)
      first_beside = (
        (
          (first_all, first_go V same by_hasher hash batch_size roots aborts),
          (record { fresh = λ n not. refl; coming = λ i b it. absurd (cc it) }, tt),
        ),
        (
          (record { standing = λ m st has. absurd (cc has); made = λ i b makes. absurd (cc makes) }, record { opens = λ i b makes. absurd (cc makes); places = λ i b makes. absurd (cc makes) }),
          (guards_at_first V same by_hasher hash batch_size roots aborts, tt),
        ),
      )

      first_with_steps : WithSteps V same by_hasher hash batch_size roots aborts terms first (first_state roots)
      first_with_steps = (first_all, (first_beside, first_found K V same terms roots first_shown))

      first_with_order : WithOrder V same by_hasher hash batch_size roots aborts terms first (first_state roots)
      first_with_order = (first_all, (first_beside, first_order K V terms roots))

  module _ (small : batch_size < 2 ^ 64) (aborts : ℕ → V) (course : Course V same by_hasher batch_size roots slot_of) (doings : List (Doing K V S)) (y : Reached V same by_hasher batch_size roots slot_of)
      (led : LedTo V same by_hasher batch_size roots slot_of course doings y) (asks : AllByRecursion (AsksMaps V by_hasher hash (shards_of terms)) doings)
      (makes_new : MakesNew same by_hasher batch_size roots aborts doings (first_state roots)) where
    pub move_as_their_calls : (after : State K V S) × (play_all same by_hasher batch_size roots aborts doings (first_state roots) ≡ Some after)
        × AtEachEvent (MovesOn terms) after.history × AtEachEvent IsOfItsCall after.history
    move_as_their_calls =
        let own = own_so doings asks in
        let fit = fit_so aborts doings asks (first_state roots) (new_fits V same by_hasher hash batch_size roots aborts doings (first_state roots) makes_new) in
        let steps = wherever V same by_hasher hash batch_size roots small aborts (Fits aborts) (WithSteps V same by_hasher hash batch_size roots aborts terms) (steps_stay V same by_hasher hash batch_size roots aborts terms)
        course doings y led own.0 (first_with_steps aborts course) fit in
        let others = wherever V same by_hasher hash batch_size roots small aborts (Fits aborts) (OthersStand V same by_hasher hash batch_size roots aborts terms) (others_stay V same by_hasher hash batch_size roots aborts terms)
        course doings y led own.0 (first_with_order aborts course, (first_buckets roots, tt, tt)) fit in
        let ends = maps_end_in_order V same by_hasher hash batch_size roots small aborts course doings y led own.1 makes_new in
        let same_steps = same_some steps.0 others.0 (sym steps.1 ∙ others.1) in
        let same_ends = same_some ends.0 others.0 (sym ends.1 ∙ others.1) in
        let does : AtEachEvent DoesIts others.0.history = others.2.0.1.0.0.1.1 in
        let found : AtEachEvent (StepFinds terms) others.0.history = subst (λ (x : State K V S). AtEachEvent (StepFinds terms) x.history) same_steps steps.2.1.1.each in
        let ended : AtEachEvent EndsInOrder others.0.history = subst (λ (x : State K V S). AtEachEvent EndsInOrder x.history) same_ends ends.2 in (
          others.0,
          others.1,
          (all_move_on terms others.0.history found (each_other terms others.0.history does ended others.2.1.2) others.2.0.1.1.each does).0,
          others.2.0.1.1.own,
        )

  pub lists_move_on : ListsMoveOn V same by_hasher hash batch_size roots terms
  lists_move_on small aborts course doings y led asks makes_new = (let they = move_as_their_calls small aborts course doings y led asks makes_new in (they.0, they.1, they.2))
