-- A row on a slot finds what it must: what it reclaims was handed over. And while no row is under way what is told to be handed over was retired.
use Rattle.std.specs.Prelude.{◌≡◌, ℕ, Bool, true, false, not, ◌&&◌, ◌||◌, List, [], ◌∷◌, ◌++◌, None}
use Rattle.std.specs.List.{AllByRecursion, list_all, list_any}
use Rattle.std.proofs.Common.{refl, ap, sym, subst, ◌∙◌}
use Rattle.std.proofs.lemmas.List.Folds.{list_all-append}
use Rattle.run_grows.specs.Given.SeizeLaw.{is_retired as was_retired}
use Rattle.run_grows.specs.Given.SeizeWorld.{Rests}
use Rattle.run_grows.specs.Given.RunsDeclared.effect.Effect.{Effect}
use Rattle.run_grows.specs.Given.RunsDeclared.effect.Effect.TheVariants.{Asked, Reclaimed}
use Rattle.run_grows.specs.Given.RunsDeclared.effect.Growth.TheVariants.{ABlock, ABucket}
use Rattle.run_grows.specs.Given.RunsDeclared.effect.TableId.{TableId}
use Rattle.run_grows.specs.Given.RunsDeclared.effect.Thing.TheVariants.{APair, ATable}
use Rattle.run_grows.specs.Given.SchedulesAfter.{moment}
use Rattle.run_grows.specs.Given.SchedulesEffects.{with_effect, AtEachEffect}
use Rattle.run_grows.specs.Given.SchedulesHanding.{asks_for_bucket, is_reclaiming}
use Rattle.run_grows.specs.Given.SchedulesLives.{Finds, MayReclaim}
use Rattle.run_grows.specs.Given.SchedulesMoment.{Place, Handed, TableThere, Moment}
use Rattle.run_grows.specs.Given.SchedulesReclaims.{is_handed}
use Rattle.run_grows.specs.Given.SchedulesTerms.{Terms}
use Rattle.run_grows.specs.Given.SchedulesThings.{same_table}
use Rattle.run_grows.specs.Given.SchedulesViews.{is_stage, is_retired}
use Rattle.run_grows.specs.Given.EffectsEffects.{effects_of}
use Rattle.run_grows.specs.Given.EffectsKnown.{Known}
use Rattle.run_grows.specs.Given.EffectsDeclared.acting.Acting.TheVariants as acts
use Rattle.run_grows.specs.Given.MomentsOnSlots.{HadRetired}
use Rattle.run_grows.proofs.Given.MomentsAfter.{each_parts}
use Rattle.run_grows.proofs.Given.SpotsUnreclaimed.{same_itself}
use Rattle.run_grows.specs.Given.FindsBounded.{HasRetiredTable}
use Rattle.run_grows.specs.Given.FindsOrderly.{NothingIsRetired, is_left_over}
use Rattle.run_grows.specs.Given.KeptKept.{RefinesKept}
use Rattle.run_grows.specs.Given.LivesHanded.{HadHanded}
use Rattle.run_grows.proofs.Given.LivesHandedRows.{handed_at_rest, rows_find_handed}
use Rattle.run_grows.proofs.Given.LivesReclaimed.{rows_find_retired}
use Rattle.run_legal.specs.Chains.{Come, RowSteps}
use Rattle.run_legal.specs.Found.{AsksInNeed, RestShowsRetired, RowChainsFind, RowsFindTheirs}
use Rattle.run_legal.specs.SlotEvents.{InSlotEvent}
use Rattle.run_legal.proofs.Chains.{chains_keep}
use Rattle.run_legal.proofs.Slots.{each_join, slot_events_go_on_so}
use Rattle.run_grows.specs.Given.ScenesHeld.{Held, IsAt}
use Rattle.run_grows.specs.Given.ScenesScene.{Scene}
use Rattle.run_grows.proofs.Given.General.{both_true as and_both, or_second as or_right}

-- what was handed over may be reclaimed
may_reclaim : (everything : Bool) (p : Place) → is_handed p ≡ true → MayReclaim everything p
may_reclaim everything Handed e = tt
may_reclaim everything _ e = absurd (cc e)

module _ {K V : Type 0} (terms : Terms) where
  found_one : (f : Effect) (m : Moment K V) → (is_reclaiming f || asks_for_bucket f) ≡ true → AsksInNeed m f → HadRetired m f → HadHanded m f → Finds terms None None false [] m f
  found_one (Asked ABucket) m of_row needs retired handed = needs
  found_one (Asked ABlock) m of_row needs retired handed = tt
  found_one (Reclaimed (APair n)) m of_row needs retired handed = may_reclaim false (m.place n) handed
  found_one (Reclaimed (ATable t)) m of_row needs retired handed = retired
  found_one _ m of_row needs retired handed = absurd (cc of_row)

  found : (effects : List Effect) (m : Moment K V) → list_all (λ f. is_reclaiming f || asks_for_bucket f) effects ≡ true → AtEachEffect AsksInNeed None None effects m → AtEachEffect HadRetired None None effects m
      → AtEachEffect HadHanded None None effects m → AtEachEffect (Finds terms None None false []) None None effects m
  found [] m of_row needs retired handed = tt
  found (f ∷ effects) m of_row needs retired handed =
      let both = and_both (is_reclaiming f || asks_for_bucket f) (list_all (λ g. is_reclaiming g || asks_for_bucket g) effects) of_row in
      (found_one f m both.0 needs.0 retired.0 handed.0, found effects (with_effect None None f m) both.1 needs.1 retired.1 handed.1)

-- of each table of a list this is so, if it is of each that is retired among all
module _ {K V : Type 0} (m : Moment K V) (Q : TableThere → Type 0) (has : (u : TableThere) → is_stage is_retired u.table m ≡ true → Q u) where
  abbrev Test : TableId → TableThere → Bool
  Test t y = same_table y.table t && is_retired y.stage

  each_table : (xs : List TableThere) → ((t : TableId) → list_any (Test t) xs ≡ true → is_stage is_retired t m ≡ true) → AllByRecursion (λ u. is_retired u.stage ≡ true → Q u) xs
  each_table [] among = tt
  each_table (u ∷ xs) among = (
    λ is. has u (among u.table (ap (λ (z : Bool). z || list_any (Test u.table) xs) (its (same_table u.table u.table) (is_retired u.stage) (same_itself u.table) is))),
    each_table xs (λ t e. among t (or_right (Test t u) (list_any (Test t) xs) e)),
  )
    where
      its : (a b : Bool) → a ≡ true → b ≡ true → (a && b) ≡ true
      its true true x y = refl
      its true false x y = absurd (cc y)
      its false b x y = absurd (cc x)

-- tables of which none is retired
none_among : (xs : List TableThere) → AllByRecursion (λ u. is_retired u.stage ≡ true → ⊥) xs → list_all (λ u. not (is_retired u.stage)) xs ≡ true
none_among [] all = refl
none_among (u ∷ xs) all = by (is_retired u.stage) refl (none_among xs all.1)
  where
    by : (q : Bool) → is_retired u.stage ≡ q → list_all (λ v. not (is_retired v.stage)) xs ≡ true → (not (is_retired u.stage) && list_all (λ v. not (is_retired v.stage)) xs) ≡ true
    by true is rest = absurd (all.0 is)
    by false is rest = ap (λ (q : Bool). not q && list_all (λ v. not (is_retired v.stage)) xs) is ∙ rest

-- what a step did that led from one place to another
abbrev did_by : {K V : Type 0} → (x y : Come K V) → List Effect
did_by x y = effects_of acts.Row x.notes y.held.changed

module _ (K V : Type 0) (same : K → K → Bool) (hash : ℕ → K → ℕ) where
  pub rows_find_theirs : RowsFindTheirs K V same hash
  rows_find_theirs name m known s old new at whole kept i told leads row here terms of_row needs =
      found terms (effects_of acts.Row known new.changed) m of_row needs (rows_find_retired K V same hash name m known s old new at whole kept.retired i told leads row here)
      (rows_find_handed K V same hash name m known s old new at whole kept.waiting kept.handed i told leads row here)

  pub row_chains_find : RowChainsFind K V same hash
  row_chains_find name terms log event i called first began n from to chain midst none of_row needs =
      (chains_keep Both (RowSteps same hash terms i) keeps n from to chain (midst, λ of all. subst (λ (fs : List Effect). AtEachEffect (Finds terms None None false []) None None fs (moment log)) (sym none) tt)).1
      of_row needs
    where
      Both : Come K V → Type 0
      Both x = InSlotEvent same name terms log event i called first began x.did x.now x.notes x.scene
          × (list_all (λ f. is_reclaiming f || asks_for_bucket f) x.did ≡ true → AtEachEffect AsksInNeed None None x.did (moment log)
          → AtEachEffect (Finds terms None None false []) None None x.did (moment log))

      then_find : (x y : Come K V) → RowSteps same hash terms i x y → Both x → list_all (λ f. is_reclaiming f || asks_for_bucket f) (x.did ++ did_by x y) ≡ true
          → AtEachEffect AsksInNeed None None (x.did ++ did_by x y) (moment log) → AtEachEffect (Finds terms None None false []) None None (x.did ++ did_by x y) (moment log)
      then_find x y step both of all =
          let each = and_both (list_all (λ f. is_reclaiming f || asks_for_bucket f) x.did) (list_all (λ f. is_reclaiming f || asks_for_bucket f) (did_by x y))
          (sym (list_all-append (λ f. is_reclaiming f || asks_for_bucket f) x.did (did_by x y)) ∙ of) in
          let parts = each_parts None None AsksInNeed x.did (did_by x y) (moment log) all in
          let here : AtEachEffect (Finds terms None None false []) None None (did_by x y) x.now =
          rows_find_theirs name x.now x.notes x.scene x.held y.held step.is_at both.0.calls.whole both.0.calls.kept i step.said step.leads step.row step.here terms each.1
          (subst (λ (z : Moment K V). AtEachEffect AsksInNeed None None (did_by x y) z) (sym both.0.worked) parts.1) in
          each_join (Finds terms None None false []) None None x.did (did_by x y) (moment log) (both.1 each.0 parts.0)
          (subst (λ (z : Moment K V). AtEachEffect (Finds terms None None false []) None None (did_by x y) z) both.0.worked here)

      keeps : (x y : Come K V) → RowSteps same hash terms i x y → Both x → Both y
      keeps x y step both = subst Both (sym step.comes) (
        slot_events_go_on_so K V same hash name terms log event i called first began x.did x.now x.notes x.scene both.0 x.held y.held step.is_at step.size step.said step.leads step.row step.here,
        then_find x y step both,
      )

  pub rest_shows_retired : RestShowsRetired K V same hash
  rest_shows_retired name m known s e at kept rests apart slots =
      let all = handed_at_rest K V e.batch_size m known s at.together.makings.standing.came kept.handed rests in
      record {
        pairs = λ n is. all.0 n is;
        tables = each_table m (HasRetiredTable m known s.world) (λ u is. all.1 u.table is) m.tables (λ t is. is);
        apart = apart;
        slots = slots;
      }

  -- So where nothing is retired in the memory, and nothing is left over, nothing is so at the moment.
  pub none_at_rest : (name : ℕ → List ℕ) (m : Moment K V) (known : Known) (s : Scene K V) (e : Held K V) → IsAt same hash e s → RefinesKept name m known s → ((i : ℕ) → s.world.row i ≡ Rests)
      → ((b : ℕ) → was_retired b s.world.log ≡ false) → ((n : ℕ) → is_left_over (m.place n) ≡ false) → NothingIsRetired m
  none_at_rest name m known s e at kept rests none left =
      let all = handed_at_rest K V e.batch_size m known s at.together.makings.standing.came kept.handed rests in
      record {
        pairs = λ n. neither (is_handed (m.place n)) (λ is. (let it = all.0 n is in let was = it.2 in let no = none it.0 in cc (was, no)));
        tables = none_among m.tables
            (each_table m (λ u. ⊥) (λ u is. (let it = all.1 u.table is in let was = it.3 in let no = none it.0 in cc (was, no))) m.tables (λ t is. is));
        left = left;
      }
    where
      neither : (q : Bool) → (q ≡ true → ⊥) → q ≡ false
      neither true never = absurd (never refl)
      neither false never = refl
