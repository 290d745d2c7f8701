-- Wherever a list of acts has led each entry that is a step of a call finds what it must, and all stays in order by each entry, if maps are made with so many shards as the terms say, and with such
-- places as capacities ask for.
use Rattle.std.specs.Prelude.{◌≡◌, ℕ, max, Bool, true, false, Option, Some, None}
use Rattle.std.proofs.Common.{refl, ap, sym, subst, ◌∙◌}
use Rattle.seize_acts.specs.Given.SeizeWorld.{IsInside}
use Rattle.seize_acts.specs.Given.SeizeDeclared.rows.reclaim_all.ReclaimAll.{ReclaimAll}
use Rattle.play_linear.specs.Given.TablesLengths.{entries_of}
use Rattle.threads_rule.specs.Given.ResizeDeclared.new_map.NewMap.{NewMap}
use Rattle.run_schedules.specs.Runs.Runs.{map_fault}
use Rattle.run_schedules.specs.Schedules.Growing.{Has}
use Rattle.run_schedules.specs.Schedules.Moment.{MapThere}
use Rattle.run_schedules.specs.Schedules.Terms.{Terms, shards_of}
use Rattle.run_schedules.specs.Schedules.Views.{capacity_or, map_at}
use Rattle.run_legal.specs.Given.EffectsDeclared.changed.Changed.TheVariants.{Nothing as NoChange}
use Rattle.run_legal.specs.Given.CallersTogether.{Counting, ForRoom, OnKey, OverAll, UnderWay, UnlessCounts}
use Rattle.run_legal.specs.Given.FinishesMakings.{Beginning}
use Rattle.run_legal.specs.Given.NamedPlaces.{first_places}
use Rattle.run_legal.specs.Given.ScenesHeld.{IsAt}
use Rattle.run_legal.specs.Given.ScenesScene.{Scene, slot_of}
use Rattle.run_legal.proofs.Given.FindsCapacities.{given_are_for}
use Rattle.run_legal.proofs.Given.ScenesMay.{standing_is}
use Rattle.threads_rule.specs.Given.ActsActs.{Act}
use Rattle.play_linear.specs.Given.ActsAsSteps.{held_in}
use Rattle.play_linear.specs.Given.AgreesFresh.{HasNewNumber}
use Rattle.play_linear.specs.Given.AgreesGuards.{CallsHaveGuards, GuardsAgree, UnlessReclaimed}
use Rattle.play_linear.specs.Given.AgreesShards.{AsksShards, ShardsAre}
use Rattle.play_linear.proofs.Given.AgreesAgree.{asks_more, both_stay}
use Rattle.play_linear.proofs.Given.AgreesCalls.{calls_have_guards}
use Rattle.play_linear.proofs.Given.AgreesEntries.{histories_grow}
use Rattle.play_linear.proofs.Given.AgreesGuards.{GuardsHold, guards_stay}
use Rattle.play_linear.proofs.Given.AgreesShards.{shards_stay}
use Rattle.run_schedules.specs.Deeds.Deeds.{moment}
use Rattle.play_linear.specs.Given.PlayedPlay.{Making, State, has_root, pairs_for}
use Rattle.play_linear.specs.Given.PlayedReached.{IsOf, made_so, makes_so, rows_beside}
use Rattle.play_linear.proofs.Given.PlayedAlong.{At, StaysSo}
use Rattle.play_linear.proofs.Given.PlayedNoted.{Anything}
use Rattle.play_linear.specs.Linear.Coming.{ComesBy}
use Rattle.play_linear.proofs.Linear.Holding.{AllHolds}
use Rattle.play_linear.proofs.Linear.StepsPlayed.{there_alike}
use Rattle.play_linear.proofs.Swept.KeptByAll.{Gives, With, all_kept}
use Rattle.play_linear.specs.Given.AgreesPlaces.{ArePlaces, AsksPlaces}
use Rattle.play_moves.specs.EachMoves.Places.{OpensFor}
use Rattle.play_moves.specs.Moves.Steps.{StepsMay}
use Rattle.play_moves.proofs.Moves.MadeHolds.{MadeHolds}
use Rattle.play_moves.proofs.EachMoves.Opens.{acts_open, still_open}
use Rattle.play_moves.proofs.Moves.Order.Kept.{New, Orderly, order_is_kept}
use Rattle.play_moves.proofs.Moves.Stays.{Moves, moves_stay}
use Rattle.play_moves.proofs.Moves.Steps.Kept.{Found, May, steps_are_kept}
use Rattle.run_schedules.proofs.Given.General.{same_some}

-- what is so unless it counts
unless_so : {K V : Type 0} (u : UnderWay K V K) (P Q : Type 0) → (P → Q) → UnlessCounts u P → UnlessCounts u Q
unless_so (OnKey x) P Q so its = so its
unless_so (ForRoom r) P Q so its = so its
unless_so (Counting sum) P Q so its = tt
unless_so (OverAll o) P Q so its = so its

module _ {K V S : Type 0} (same : K → K → Bool) (by_hasher : S → K → ℕ) (hash : ℕ → K → ℕ) (batch_size roots : ℕ) (x : State K V S) (s : Scene K V) (is : IsOf by_hasher s s.world.row x.now)
    (at : IsAt same hash (held_in batch_size roots NoChange s) s) (all : AllHolds same x s) where
  -- a map that is made, once it is there, has the capacity for which its making was asked
  capacities_so : MadeHolds x → OpensFor s → (i : ℕ) (b : Beginning K) → s.makers i ≡ Some b → (f : MapThere) → map_at b.map (moment x.history) ≡ Some f → Has (entries_of f.capacity) b.given.initial
  capacities_so made opens i b makes f there = by (has_root b.machine.stands) refl (all.maps.coming i b makes)
    where
      it : (d : Making S) × (x.now.makers i ≡ Some d) × (made_so b ≡ makes_so by_hasher d)
      it = there_alike made_so (makes_so by_hasher) (s.makers i) (x.now.makers i) (sym (is.makers i)) b makes

      map_is : it.0.map ≡ b.map
      map_is = sym (ap (λ (p : ℕ × ((K → ℕ) × NewMap)). p.0) it.2)

      machine_is : it.0.machine ≡ b.machine
      machine_is = sym (ap (λ (p : ℕ × ((K → ℕ) × NewMap)). p.1.1) it.2)

      by : (q : Bool) → has_root b.machine.stands ≡ q → ComesBy (has_root b.machine.stands) b (moment x.history) → Has (entries_of f.capacity) b.given.initial
      by false none comes =
          let unknown = subst (λ (q : Bool). ComesBy q b (moment x.history)) none comes in absurd (let not_there = unknown.none in cc (there, not_there))
      by true has comes =
          subst (λ (o : Option MapThere). Has (entries_of (capacity_or o)) b.given.initial) there
          (given_are_for K V (moment x.history) b.map f there (subst (λ (n : ℕ). map_fault f.mode n ≡ None) (sym capacity_is) (ap (λ mode. map_fault mode (pairs_for b.places)) mode_is ∙ asks.0)) b.given
          (asks.2 ∙ ap (λ (n : ℕ). max n 1) (asks.1 ∙ ap first_places (sym capacity_is))))
        where
          asks : ArePlaces b.given b.places
          asks = opens.places i b makes

          mode_is : f.mode ≡ b.given.mode
          mode_is =
              let new = subst (λ (q : Bool). ComesBy q b (moment x.history)) has comes in
              ap (λ (g : MapThere). g.mode) (same_some f new.there (sym there ∙ new.is)) ∙ new.mode

          capacity_is : f.capacity ≡ pairs_for b.places
          capacity_is =
              ap capacity_or (sym there ∙ ap (λ (map : ℕ). map_at map (moment x.history)) (sym map_is))
              ∙ ((made.coming i it.0 it.1).1 (ap (λ (c : NewMap). has_root c.stands) machine_is ∙ has)
              ∙ ap pairs_for (ap (λ (c : NewMap). c.len) machine_is ∙ (at.together.makings.facts i b makes).len_is))

  -- each call but a counting has the guard of its caller's slot
  pub may_so : (terms : Terms) → MadeHolds x → OpensFor s → ShardsAre (shards_of terms) s → GuardsAgree x s.world.uses → CallsHaveGuards (moment x.history) → StepsMay terms x.history s
  may_so terms made opens shards guards names = record {
    shards = shards;
    capacities = capacities_so made opens;
    names = names;
    guards = λ map i u here.
        (let st = standing_is same hash (held_in batch_size roots NoChange s) s at map i u here in
        unless_so u (IsInside (s.world.uses (slot_of i))) _ (guards.inside (slot_of i)) ((at.together.makings.standing.each map st.0 st.1).inside i u here));
  }

module _ {K S : Type 0} (V : Type 0) (same : K → K → Bool) (by_hasher : S → K → ℕ) (hash : ℕ → K → ℕ) (batch_size roots : ℕ) (aborts : ℕ → V) where
  abbrev Stays : (State K V S → Act K V S → Type 0) → (At V same by_hasher hash batch_size roots → State K V S → Type 0) → Type 0
  Stays Fits So = StaysSo V same by_hasher hash batch_size roots aborts Fits So

  opens_stay : Stays (λ x act. AsksPlaces act) (λ p x. OpensFor p.0)
  opens_stay = record {
    acts = λ p n x y act told own fits none none_then is is_then at may led leads at_then played here. acts_open same by_hasher hash batch_size roots p.0 n.0 here told act fits led leads;
    begins = λ p n x i c none begun same_scene all_free is is_then at here. subst OpensFor (sym same_scene) here;
    steps = λ p n x y told g st is is_then at leads scene played here. still_open p.0 n.0 here (ap (λ (z : Scene K V). z.makers) scene);
    chooses = λ p n x choice none none_then scene is is_then at here. still_open p.0 n.0 here (ap (λ (z : Scene K V). z.makers) scene);
  }

  module _ (terms : Terms) where
    -- a map is made with a new number, with so many shards, and with such places
    abbrev pub Asks : State K V S → Act K V S → Type 0
    Asks x act = HasNewNumber x act × (AsksShards (shards_of terms) act × AsksPlaces act)

    abbrev GuardsAre : At V same by_hasher hash batch_size roots → State K V S → Type 0
    GuardsAre p x = GuardsHold V same by_hasher hash batch_size roots aborts p x × CallsHaveGuards (moment x.history)

    abbrev MapsAre : At V same by_hasher hash batch_size roots → State K V S → Type 0
    MapsAre p x = ShardsAre (shards_of terms) p.0 × OpensFor p.0

    -- what is so beside
    abbrev pub Beside : At V same by_hasher hash batch_size roots → State K V S → Type 0
    Beside p x = Moves V same by_hasher hash batch_size roots aborts p x × (MapsAre p x × GuardsAre p x)

    beside_stays : Stays Asks Beside
    beside_stays =
        both Moving (λ p x. MapsAre p x × GuardsAre p x)
        (asks_more V same by_hasher hash batch_size roots aborts HasNewNumber Asks Moving (λ x act asks. asks.0) (moves_stay V same by_hasher hash batch_size roots aborts))
        (both MapsAre GuardsAre
        (both (λ p x. ShardsAre (shards_of terms) p.0) (λ p x. OpensFor p.0)
        (asks_more V same by_hasher hash batch_size roots aborts (λ x act. AsksShards (shards_of terms) act) Asks (λ p x. ShardsAre (shards_of terms) p.0) (λ x act asks. asks.1.0)
        (shards_stay V same by_hasher hash batch_size roots (shards_of terms) aborts))
        (asks_more V same by_hasher hash batch_size roots aborts (λ x act. AsksPlaces act) Asks (λ p x. OpensFor p.0) (λ x act asks. asks.1.1) opens_stay))
        (both (GuardsHold V same by_hasher hash batch_size roots aborts) (λ p x. CallsHaveGuards (moment x.history))
        (of_any (GuardsHold V same by_hasher hash batch_size roots aborts) (guards_stay V same by_hasher hash batch_size roots aborts))
        (of_any (λ p x. CallsHaveGuards (moment x.history)) (histories_grow V same by_hasher hash batch_size roots aborts (λ log. CallsHaveGuards (moment log)) (calls_have_guards K V)))))
      where
        Moving : At V same by_hasher hash batch_size roots → State K V S → Type 0
        Moving = Moves V same by_hasher hash batch_size roots aborts

        both : (P Q : At V same by_hasher hash batch_size roots → State K V S → Type 0) → Stays Asks P → Stays Asks Q → Stays Asks (λ p x. P p x × Q p x)
        both P Q = both_stay V same by_hasher hash batch_size roots aborts Asks P Q

        of_any : (P : At V same by_hasher hash batch_size roots → State K V S → Type 0) → Stays (Anything V same by_hasher hash batch_size roots aborts) P → Stays Asks P
        of_any P = asks_more V same by_hasher hash batch_size roots aborts (Anything V same by_hasher hash batch_size roots aborts) Asks P (λ x act asks. tt)

    -- so steps may find what they must, and maps come as new ones
    gives_may : Gives V same by_hasher hash batch_size roots aborts (May same hash terms) (Found same hash terms) (steps_are_kept same hash terms) Asks Beside
    gives_may p x none is at all beside =
        may_so same by_hasher hash batch_size roots x p.0 (subst (λ (o : Option (ℕ × ReclaimAll)). IsOf by_hasher p.0 (rows_beside o p.0.world.row) x.now) none is.scene) at all terms beside.0.1.0 beside.1.0.1 beside.1.0.0
        (subst (λ (o : Option (ℕ × ReclaimAll)). UnlessReclaimed o (GuardsAgree x p.0.world.uses)) none beside.1.1.0) beside.1.1.1

    gives_new : Gives V same by_hasher hash batch_size roots aborts (New same hash terms) (Orderly same hash terms) (order_is_kept same hash terms) Asks Beside
    gives_new p x none is at all beside = record { names = all.maps.names; coming = all.maps.coming }

    abbrev pub WithSteps : At V same by_hasher hash batch_size roots → State K V S → Type 0
    WithSteps = With V same by_hasher hash batch_size roots aborts (May same hash terms) (Found same hash terms) (steps_are_kept same hash terms) Asks Beside

    abbrev pub WithOrder : At V same by_hasher hash batch_size roots → State K V S → Type 0
    WithOrder = With V same by_hasher hash batch_size roots aborts (New same hash terms) (Orderly same hash terms) (order_is_kept same hash terms) Asks Beside

    pub steps_stay : Stays (λ x act. HasNewNumber x act × Asks x act) WithSteps
    steps_stay = all_kept V same by_hasher hash batch_size roots aborts (May same hash terms) (Found same hash terms) (steps_are_kept same hash terms) Asks Beside beside_stays gives_may

    pub order_stays : Stays (λ x act. HasNewNumber x act × Asks x act) WithOrder
    order_stays = all_kept V same by_hasher hash batch_size roots aborts (New same hash terms) (Orderly same hash terms) (order_is_kept same hash terms) Asks Beside beside_stays gives_new
