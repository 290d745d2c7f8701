-- Wherever a list has led, its history agrees with what is so there.
use Rattle.std.specs.Prelude.{Bool, false}
use Rattle.std.specs.List.{AllByRecursion}
use Rattle.std.proofs.Common.{ℕ, List, [], ◌∷◌, subst, sym, ◌∙◌}
use Rattle.many_acts.specs.Acts.Acts.{Act}
use Rattle.many_acts.specs.Acts.Doings.{Doing, Does, BeginsReclaiming, BeginsClearing, StepsReclaiming, Chooses}
use Rattle.run_schedules.specs.Deeds.Deeds.{moment}
use Rattle.play_lists.specs.Played.Play.{State, first_state}
use Rattle.play_lists.proofs.Played.Along.{AllFit, AreOfTheirOwn, At, StaysSo, wherever}
use Rattle.play_lists.proofs.Played.Noted.{Anything}
use Rattle.play_lists.specs.Agrees.Agree.{Asks, ListsAgree}
use Rattle.play_lists.specs.Agrees.Fresh.{HasNewNumber}
use Rattle.play_lists.specs.Agrees.Grants.{EachRefuses}
use Rattle.play_lists.specs.Agrees.Guards.{CallsHaveGuards}
use Rattle.play_lists.specs.Agrees.Shards.{AsksShards, ShardsAre}
use Rattle.play_lists.proofs.Agrees.Calls.{calls_have_guards}
use Rattle.play_lists.proofs.Agrees.Coming.{new_fits}
use Rattle.play_lists.proofs.Agrees.Entries.{histories_grow}
use Rattle.play_lists.proofs.Agrees.GivenBack.{NumbersComeAgain, again_first, numbers_come_again}
use Rattle.play_lists.proofs.Agrees.Grants.{each_refuses}
use Rattle.play_lists.proofs.Agrees.Guards.{GuardsHold, guards_at_first, guards_stay}
use Rattle.play_lists.proofs.Agrees.Numbers.{NumbersStay, numbers_first, numbers_stay}
use Rattle.play_lists.proofs.Agrees.Shards.{shards_stay}
use Rattle.run_finds.proofs.Given.General.{same_some}

module _ {K S : Type 0} (V : Type 0) (same : K → K → Bool) (by_hasher : S → K → ℕ) (hash : ℕ → K → ℕ) (batch_size roots : ℕ) (aborts : ℕ → V) where
  abbrev Stays : (State K V S → Act K V S → Type 0) → (At V same by_hasher hash batch_size roots → State K V S → Type 0) → Type 0
  Stays Fits P = StaysSo V same by_hasher hash batch_size roots aborts Fits P

  -- where more is asked of acts
  pub asks_more : (Fits More : State K V S → Act K V S → Type 0) (P : At V same by_hasher hash batch_size roots → State K V S → Type 0)
      → ((x : State K V S) (act : Act K V S) → More x act → Fits x act) → Stays Fits P → Stays More P
  asks_more Fits More P less so = record {
    acts = λ p n x y act told own fits none none_then is is_then at may led leads at_then played here. so.acts p n x y act told own (less x act fits) none none_then is is_then at may led leads at_then played here;
    begins = so.begins;
    steps = so.steps;
    chooses = so.chooses;
  }

  -- of two things at once
  pub both_stay : (Fits : State K V S → Act K V S → Type 0) (P Q : At V same by_hasher hash batch_size roots → State K V S → Type 0) → Stays Fits P → Stays Fits Q → Stays Fits (λ p x. P p x × Q p x)
  both_stay Fits P Q one two = record {
    acts = λ p n x y act told own fits none none_then is is_then at may led leads at_then played here. (
      one.acts p n x y act told own fits none none_then is is_then at may led leads at_then played here.0,
      two.acts p n x y act told own fits none none_then is is_then at may led leads at_then played here.1,
    );
    begins = λ p n x i c none begun same_scene all_free is is_then at here. (
      one.begins p n x i c none begun same_scene all_free is is_then at here.0,
      two.begins p n x i c none begun same_scene all_free is is_then at here.1,
    );
    steps = λ p n x y told g st is is_then at leads scene played here. (
      one.steps p n x y told g st is is_then at leads scene played here.0,
      two.steps p n x y told g st is is_then at leads scene played here.1,
    );
    chooses = λ p n x choice none none_then scene is is_then at here. (
      one.chooses p n x choice none none_then scene is is_then at here.0,
      two.chooses p n x choice none none_then scene is is_then at here.1,
    );
  }

  module _ (shards : ℕ) where
    abbrev Fits : State K V S → Act K V S → Type 0
    Fits x act = AsksShards shards act

    abbrev All : At V same by_hasher hash batch_size roots → State K V S → Type 0
    All p x = ShardsAre shards p.0 × (GuardsHold V same by_hasher hash batch_size roots aborts p x × (CallsHaveGuards (moment x.history) × (EachRefuses x.history × NumbersStay false x)))

    of_any : (P : At V same by_hasher hash batch_size roots → State K V S → Type 0) → Stays (Anything V same by_hasher hash batch_size roots aborts) P → Stays Fits P
    of_any P so = asks_more (Anything V same by_hasher hash batch_size roots aborts) Fits P (λ x act fits. tt) so

    all_stay : Stays Fits All
    all_stay =
        both_stay Fits (λ p x. ShardsAre shards p.0) (λ p x. GuardsHold V same by_hasher hash batch_size roots aborts p x × (CallsHaveGuards (moment x.history) × (EachRefuses x.history × NumbersStay false x)))
        (shards_stay V same by_hasher hash batch_size roots shards aborts)
        (both_stay Fits (GuardsHold V same by_hasher hash batch_size roots aborts) (λ p x. CallsHaveGuards (moment x.history) × (EachRefuses x.history × NumbersStay false x))
        (of_any (GuardsHold V same by_hasher hash batch_size roots aborts) (guards_stay V same by_hasher hash batch_size roots aborts))
        (both_stay Fits (λ p x. CallsHaveGuards (moment x.history)) (λ p x. EachRefuses x.history × NumbersStay false x)
        (of_any (λ p x. CallsHaveGuards (moment x.history)) (histories_grow V same by_hasher hash batch_size roots aborts (λ log. CallsHaveGuards (moment log)) (calls_have_guards K V)))
        (both_stay Fits (λ p x. EachRefuses x.history) (λ p x. NumbersStay false x)
        (of_any (λ p x. EachRefuses x.history) (histories_grow V same by_hasher hash batch_size roots aborts EachRefuses (each_refuses K V)))
        (of_any (λ p x. NumbersStay false x) (numbers_stay V same by_hasher hash batch_size roots aborts)))))

    -- of acts of which more is asked each is of its own
    pub own_so : (doings : List (Doing K V S)) → AllByRecursion (Asks V same by_hasher hash batch_size roots shards) doings → AreOfTheirOwn V same by_hasher hash batch_size roots doings
    own_so [] asks = tt
    own_so (Does act ∷ doings) asks = (asks.0.0, own_so doings asks.1)
    own_so (BeginsReclaiming i ∷ doings) asks = (tt, own_so doings asks.1)
    own_so (BeginsClearing i ∷ doings) asks = (tt, own_so doings asks.1)
    own_so (StepsReclaiming g ∷ doings) asks = (tt, own_so doings asks.1)
    own_so (Chooses choice ∷ doings) asks = (tt, own_so doings asks.1)

    fit_so : (doings : List (Doing K V S)) → AllByRecursion (Asks V same by_hasher hash batch_size roots shards) doings → (x : State K V S) → AllFit V same by_hasher hash batch_size roots aborts Fits doings x
    fit_so [] asks x = tt
    fit_so (Does act ∷ doings) asks x = (asks.0.1, λ y e. fit_so doings asks.1 y)
    fit_so (BeginsReclaiming i ∷ doings) asks x = (tt, λ y e. fit_so doings asks.1 y)
    fit_so (BeginsClearing i ∷ doings) asks x = (tt, λ y e. fit_so doings asks.1 y)
    fit_so (StepsReclaiming g ∷ doings) asks x = (tt, λ y e. fit_so doings asks.1 y)
    fit_so (Chooses choice ∷ doings) asks x = (tt, λ y e. fit_so doings asks.1 y)

module _ {K S : Type 0} (V : Type 0) (same : K → K → Bool) (by_hasher : S → K → ℕ) (hash : ℕ → K → ℕ) (batch_size roots shards : ℕ) where
  pub lists_agree : ListsAgree V same by_hasher hash batch_size roots shards
  lists_agree small aborts course doings y led asks =
      let to = wherever V same by_hasher hash batch_size roots small aborts (Fits V same by_hasher hash batch_size roots aborts shards) (All V same by_hasher hash batch_size roots aborts shards)
      (all_stay V same by_hasher hash batch_size roots aborts shards) course doings y led (own_so V same by_hasher hash batch_size roots aborts shards doings asks)
      (record { standing = λ m st has. absurd (cc has); made = λ i b makes. absurd (cc makes) }, (guards_at_first V same by_hasher hash batch_size roots aborts, (tt, (tt, (λ on i c has. absurd (cc has), numbers_first false roots)))))
      (fit_so V same by_hasher hash batch_size roots aborts shards doings asks (first_state roots)) in (
        to.0,
        to.1,
        record { shards_are = to.2.0; guards = to.2.1.0; calls = to.2.1.1.0; refuses = to.2.1.1.1.0; fresh = to.2.1.1.1.1.1.fresh },
        λ new n not.
            (let two = wherever V same by_hasher hash batch_size roots small aborts HasNewNumber (λ p x. NumbersComeAgain x) (numbers_come_again V same by_hasher hash batch_size roots aborts) course doings y led
            (own_so V same by_hasher hash batch_size roots aborts shards doings asks) (again_first roots) (new_fits V same by_hasher hash batch_size roots aborts doings (first_state roots) new) in
            (subst NumbersComeAgain (same_some two.0 to.0 (sym two.1 ∙ to.1)) two.2).numbers.fresh n not),
      )
