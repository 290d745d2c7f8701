-- Of each map whose making is under way so many tables were made as it has in hand, and it has the capacity for its places; for a number that is not taken none was made.
use Rattle.std.specs.Prelude.{◌≡◌, ◌≢◌, ℕ, Bool, true, false, List, [], ◌∷◌, ◌++◌, Option, Some, None, length, if◌then◌else◌, is_ok}
use Rattle.std.proofs.Common.{refl, ap, sym, subst, ◌∙◌, arith}
use Rattle.seize_acts.specs.Acts.Answers.{Grant}
use Rattle.seize_acts.specs.Given.SeizeDeclared.advance.Advance.TheVariants as progress
use Rattle.seize_acts.specs.Given.SeizeDeclared.rows.settle.Settled.{Settled}
use Rattle.run_schedules.specs.Given.RawEndMap.{end_map_plan}
use Rattle.run_schedules.specs.Given.RawMachine.{machine_asked, machine_replied}
use Rattle.threads_rule.specs.Given.ResizeNewMap.{opening}
use Rattle.run_schedules.specs.declared.outcome.Outcome.{Outcome}
use Rattle.run_schedules.specs.declared.outcome.Outcome.TheVariants as outcome
use Rattle.run_schedules.specs.Schedules.Effects.{with_effects}
use Rattle.run_schedules.specs.Schedules.Moment.{Moment}
use Rattle.run_schedules.specs.Schedules.Views.{capacity_or, map_at}
use Rattle.run_legal.specs.Given.EffectsEffects.{effects_of}
use Rattle.run_legal.specs.Given.EffectsKnown.{Known}
use Rattle.run_legal.specs.Given.EffectsDeclared.acting.Acting.TheVariants as acts
use Rattle.run_legal.proofs.Given.FindsCapacities.{effects_keep_capacities}
use Rattle.threads_rule.specs.Given.ActsActs.{Act, Answer, BeginsCall, StepsCall, TellsCall, AsksCall, StopsCall, BeginsMaking, StepsMaking, BeginsEnding, StepsEnding, BeginsRow, StepsRow}
use Rattle.play_linear.specs.Given.ActsAsSteps.{changed_of}
use Rattle.play_linear.specs.Given.AgreesFresh.{AreNamed, HasNewNumber, gives_back, is_taken}
use Rattle.play_linear.proofs.Given.AgreesFresh.{was_not}
use Rattle.play_linear.proofs.Given.AgreesNumbers.{with_so}
use Rattle.play_linear.proofs.Given.AgreesOpenings.{ending_keeps_numbers}
use Rattle.run_schedules.specs.Deeds.Deeds.{Deed, Ends, Entry, Leaves, MapFails, MapGoes, Opens, ReclaimsAll, Registers, Replies, Shuts, Steps, Stops, Tends, after, moment}
use Rattle.run_schedules.specs.Deeds.History.{made_for}
use Rattle.play_linear.specs.Given.PlayedPlay.{Ending, Making, Now, State, did, ending_deed, has_root, is_over, is_refusal, pairs_for, reply_for, row_deed, settled_outcome}
use Rattle.play_linear.proofs.Given.PlayedPlayedAs.{PlayedAs, ReclaimedAs}
use Rattle.run_legal.specs.Given.NeedsMakings.{in_hand, table_left}
use Rattle.play_linear.proofs.Linear.Coming.{gone_leaves}
use Rattle.play_linear.proofs.Linear.RowsPlayed.{IsOfRow, is_of_row}
use Rattle.play_moves.proofs.EachMoves.Counted.{IsStill, MakesNone, capacity_still, none_made}
use Rattle.play_linear.proofs.Given.AgreesNames.{effects_named}
use Rattle.run_schedules.proofs.Given.General.{same_some}

module _ {K V S : Type 0} where
  abbrev pub IsComing : List (Entry K V) → Making S → Type 0
  IsComing log b =
      (made_for b.map log ≡ in_hand (table_left b.machine progress.Goes)) × (has_root b.machine.stands ≡ true → capacity_or (map_at b.map (moment log)) ≡ pairs_for b.machine.len)

  pub record MadeHolds (x : State K V S) : Type 0 where
    pub fresh : (n : ℕ) → is_taken n x.history ≡ false → made_for n x.history ≡ 0
    pub coming : (i : ℕ) (b : Making S) → x.now.makers i ≡ Some b → IsComing x.history b

-- an end, or who acts on a slot, makes no map
module _ {K V : Type 0} where
  rows_make_none : (d : Deed K V) → IsOfRow d → MakesNone d
  rows_make_none (Registers s) is = tt
  rows_make_none (Opens s) is = tt
  rows_make_none (Shuts s) is = tt
  rows_make_none (Leaves s) is = tt
  rows_make_none (Tends s) is = tt
  rows_make_none (ReclaimsAll last) is = tt
  rows_make_none _ is = absurd is

  rows_still : (d : Deed K V) → IsOfRow d → IsStill d
  rows_still (Registers s) is = tt
  rows_still (Opens s) is = tt
  rows_still (Shuts s) is = tt
  rows_still (Leaves s) is = tt
  rows_still (Tends s) is = tt
  rows_still (ReclaimsAll last) is = tt
  rows_still _ is = absurd is

-- no number is given back by what neither brings a map nor takes one
still_keeps : {K V : Type 0} (d : Deed K V) → IsStill d → (n : ℕ) → gives_back true n d ≡ false
still_keeps (MapFails map) is n = absurd is
still_keeps _ is n = refl

-- where another map goes one has the capacity that it had
pub gone_capacity : {K V : Type 0} (n own : ℕ) → own ≢ n → (e : Entry K V) (m : Moment K V) → e.deed ≡ MapGoes own → AreNamed m → capacity_or (map_at n (after e m)) ≡ capacity_or (map_at n m)
gone_capacity {K} {V} n own ne e m is names =
    subst (λ (d : Deed K V). capacity_or (map_at n (after (record e { deed = d }) m)) ≡ capacity_or (map_at n m)) (sym is)
    (let w = with_effects None (Some own) e.effects m in
    ap capacity_or (gone_leaves n own ne w (after (record e { deed = MapGoes own }) m) (effects_named None (Some own) e.effects m names) refl refl refl).there
    ∙ effects_keep_capacities K V None (Some own) e.effects m n)

module _ {K V S : Type 0} (x : State K V S) (here : MadeHolds x) where
  abbrev KeepsCapacity : Entry K V → Type 0
  KeepsCapacity e = (i : ℕ) (b : Making S) → x.now.makers i ≡ Some b → capacity_or (map_at b.map (after e (moment x.history))) ≡ capacity_or (map_at b.map (moment x.history))

  -- no number is given back
  abbrev KeepsNumbers : Entry K V → Type 0
  KeepsNumbers e = (n : ℕ) → gives_back true n e.deed ≡ false

  -- after one more entry, of no making
  pub grown : (e : Entry K V) → MakesNone e.deed → KeepsNumbers e → KeepsCapacity e → (now : Now K V S) (known : Known) (told : List (Answer K V)) → now.makers ≡ x.now.makers
      → MadeHolds (record { now = now; known = known; history = e ∷ x.history; told = told })
  grown e none numbers keeps now known told makers = record {
    fresh = λ n not. (let zero_now = none_made n e.deed none e.effects in let before = here.fresh n (was_not true n e x.history (numbers n) not).1 in omega (arith, zero_now, before));
    coming = λ i b it.
        (let was : x.now.makers i ≡ Some b = sym (ap (λ (f : ℕ → Option (Making S)). f i) makers) ∙ it in
        let so = here.coming i b was in (
          (let zero_now = none_made b.map e.deed none e.effects in let before = so.0 in omega (arith, zero_now, before)),
          λ rooted. keeps i b was ∙ so.1 rooted,
        ));
  }

  pub still_grown : (e : Entry K V) → MakesNone e.deed → IsStill e.deed → (now : Now K V S) (known : Known) (told : List (Answer K V)) → now.makers ≡ x.now.makers
      → MadeHolds (record { now = now; known = known; history = e ∷ x.history; told = told })
  still_grown e none still = grown e none (still_keeps e.deed still) (λ i b it. capacity_still b.map e (moment x.history) still)

  -- or none
  pub as_it_was : (now : Now K V S) (told : List (Answer K V)) → now.makers ≡ x.now.makers → MadeHolds (record x { now = now; told = told })
  as_it_was now told makers = record { fresh = here.fresh; coming = λ i b it. here.coming i b (sym (ap (λ (f : ℕ → Option (Making S)). f i) makers) ∙ it) }

  did_made : (taken : Bool) (d : Deed K V) → MakesNone d → IsStill d → (o : Outcome V) (a : Answer K V) (now : Now K V S) → now.makers ≡ x.now.makers → MadeHolds (did taken d o a now x)
  did_made true d none still o a now makers = still_grown (record { deed = d; outcome = o; effects = []; refused = false }) none still now x.known (x.told ++ a ∷ []) makers
  did_made false d none still o a now makers = as_it_was now (x.told ++ a ∷ []) makers

  -- a step of the end of a map, whose map is none that is made
  ends_make_none : {T : Type 0} (f : Ending) (told : Settled T) → MakesNone {K = K} {V = V} (ending_deed f told)
  ends_make_none f told = by (is_over told)
    where
      by : (q : Bool) → MakesNone {K = K} {V = V} (if q then MapGoes f.map else Ends f.map)
      by true = tt
      by false = tt

  end_keeps : {T : Type 0} (f : Ending) (told : Settled T) → AreNamed (moment x.history) → ((j : ℕ) (b : Making S) → x.now.makers j ≡ Some b → f.map ≢ b.map) → (e : Entry K V) → e.deed ≡ ending_deed f told
      → KeepsCapacity e
  end_keeps f told names apart e is i b it = by (is_over told) is
    where
      by : (q : Bool) → e.deed ≡ (if q then MapGoes f.map else Ends f.map) → capacity_or (map_at b.map (after e (moment x.history))) ≡ capacity_or (map_at b.map (moment x.history))
      by true goes = gone_capacity b.map f.map (apart i b it) e (moment x.history) goes names
      by false ends = capacity_still b.map e (moment x.history) (subst IsStill (sym ends) tt)

module _ {K V S : Type 0} (same : K → K → Bool) (hash : S → K → ℕ) (batch_size roots : ℕ) (aborts : ℕ → V) (x y : State K V S) (here : MadeHolds x) where
  -- it is no step of a making, and a map that ends is none that is made
  abbrev pub LeavesMaking : Act K V S → Type 0
  LeavesMaking (StepsMaking i g) = ⊥
  LeavesMaking (StepsEnding i g) = AreNamed (moment x.history) × ((f : Ending) → x.now.enders i ≡ Some f → (j : ℕ) (b : Making S) → x.now.makers j ≡ Some b → f.map ≢ b.map)
  LeavesMaking act = Unit {0}

  -- So it is after each act but the step of a making.
  pub acts_keep_made : (act : Act K V S) → LeavesMaking act → HasNewNumber x act → PlayedAs same hash batch_size roots aborts x y act → MadeHolds y
  acts_keep_made (BeginsCall i m wanted) leaves new (at, there, is) = subst MadeHolds (sym is) (did_made x here true _ tt tt outcome.Goes _ _ refl)
  acts_keep_made (StepsCall i m g) leaves new (at, stands, (c, has, end, came, is)) = subst MadeHolds (sym is) (still_grown x here _ tt tt _ _ _ refl)
  acts_keep_made (TellsCall i m reply) leaves new (c, has, is) =
      subst MadeHolds (sym is) (did_made x here (is_ok (machine_replied c.machine reply).1) (Replies i (reply_for (aborts (length x.told)) reply)) tt tt outcome.Goes _ _ refl)
  acts_keep_made (AsksCall i m) leaves new (c, has, is) = subst MadeHolds (sym is) (did_made x here false (Steps i) tt tt outcome.Goes _ _ refl)
  acts_keep_made (StopsCall i m) leaves new (c, has, is) = subst MadeHolds (sym is) (did_made x here (machine_asked c.machine).1 (Stops i) tt tt outcome.Done _ _ refl)
  acts_keep_made (BeginsMaking i map hasher given places) leaves new is =
      subst MadeHolds (sym is)
      (record {
        fresh = here.fresh;
        coming = with_so x.now.makers i (Some (record { map = map; hasher = hasher; machine = opening given roots places })) (λ j b. IsComing x.history b)
            (λ b it.
            subst (IsComing x.history) (same_some (record { map = map; hasher = hasher; machine = opening given roots places }) b it) (here.fresh map new, λ rooted. absurd (cc rooted))) here.coming;
      })
  acts_keep_made (StepsMaking i g) leaves new played = absurd leaves
  acts_keep_made (BeginsEnding i m) leaves new (at, there, is) = subst MadeHolds (sym is) (as_it_was x here _ _ refl)
  acts_keep_made (StepsEnding i g) (names, apart) new (f, has, end, came, is) =
      let change = changed_of x.now.memory g (end_map_plan {K = K} {V = V} f.machine) in
      let e : Entry K V =
      record { deed = ending_deed f end.1.1; outcome = settled_outcome end.1.1; effects = effects_of (acts.Ending f.map) x.known change; refused = is_refusal change } in
      subst MadeHolds (sym is) (grown x here e (ends_make_none x here f end.1.1) (ending_keeps_numbers K V f end.1.1 true) (end_keeps x here f end.1.1 names (apart f has) e refl) _ _ _ refl)
  acts_keep_made (BeginsRow i request) leaves new (called, there, is) = subst MadeHolds (sym is) (as_it_was x here _ _ refl)
  acts_keep_made (StepsRow i g) leaves new (row, has, end, came, is) =
      subst MadeHolds (sym is) (still_grown x here _ (rows_make_none (row_deed row) (is_of_row K V row)) (rows_still (row_deed row) (is_of_row K V row)) _ _ _ refl)

  -- And so where all is reclaimed.
  pub reclaiming_keeps_made : (g : Grant) → ReclaimedAs same hash batch_size roots aborts x y g → MadeHolds y
  reclaiming_keeps_made g (c, has, end, came, is) = subst MadeHolds (sym is) (still_grown x here _ tt tt _ _ _ refl)
