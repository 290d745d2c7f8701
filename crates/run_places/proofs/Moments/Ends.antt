-- Ends of maps keep all that a moment shows.
use Rattle.std.specs.Prelude.{◌≡◌, ℕ, zero, suc, Bool, true, ◌&&◌, List, [], ◌∷◌, Option, Some, None, IsSome, ◌⊎◌}
use Rattle.std.specs.List.{list_any}
use Rattle.std.proofs.Common.{refl, ap, sym, subst, ◌∙◌, arith, inl, inr}
use Rattle.std.proofs.lemmas.Bool.{cases_eq}
use Rattle.run_shows.specs.Given.SeizeWordsMem.{value_at}
use Rattle.run_shows.specs.Given.SeizeWorld.{World, with_at, times}
use Rattle.run_shows.specs.Given.SeizeDeclared.rows.settle.Settled.{Settled}
use Rattle.run_shows.specs.Given.SeizeDeclared.rows.settle.Settled.TheVariants as settled
use Rattle.run_shows.specs.Given.TablesDeclared.node.Node.{Node}
use Rattle.run_shows.specs.Given.RawDeclared.machines.end_map.EndMap.{EndMap}
use Rattle.run_shows.specs.Given.RunsDeclared.effect.Effect.{Effect}
use Rattle.run_shows.specs.Given.RunsDeclared.effect.Effect.TheVariants.{Stored, Deferred, Taken}
use Rattle.run_shows.specs.Given.SchedulesEffects.{with_effect, with_effects, AtEachEffect}
use Rattle.run_shows.specs.Given.SchedulesMoment.{Place, Left, GivenBack, IsTaken, Moment}
use Rattle.run_shows.specs.Given.SchedulesThings.{same_table}
use Rattle.run_shows.specs.Given.SchedulesViews.{behind, is_there}
use Rattle.run_shows.specs.Given.EffectsDeclared.changed.Changed.{Changed}
use Rattle.run_shows.specs.Given.EffectsDeclared.changed.Changed.TheVariants as changed
use Rattle.run_shows.proofs.Given.CallersTogether.At.{at_other, at_same}
use Rattle.run_shows.specs.Given.EffectsEffects.{taken_by, effects_of, known_after}
use Rattle.run_shows.specs.Given.EffectsKnown.{Known, with_role}
use Rattle.run_shows.specs.Given.EffectsDeclared.acting.Acting.{Acting}
use Rattle.run_shows.specs.Given.EffectsDeclared.acting.Acting.TheVariants.{Ending}
use Rattle.run_shows.specs.Given.EffectsDeclared.role.Role.{Role}
use Rattle.run_shows.specs.Given.EffectsDeclared.role.Role.TheVariants as role
use Rattle.run_shows.specs.Given.FinishesEndings.{Finishing, StepsOfEnding}
use Rattle.run_shows.specs.Given.FinishesFactsEnds.{taken_by as taken_of, left_by}
use Rattle.run_shows.specs.Given.FinishesMaps.{Standing}
use Rattle.run_shows.proofs.Follows.Alike.{is_calm, AllCalm, AreSame, calm_still, put_elsewhere}
use Rattle.run_shows.proofs.Follows.Onward.{IsOfMap}
use Rattle.run_shows.proofs.Follows.Operations.{LeavesBy}
use Rattle.run_places.specs.Hands.Hands.{IsInUse}
use Rattle.run_places.specs.Hands.Rows.{RowsReclaimNone}
use Rattle.run_places.proofs.Hands.Others.{endings_begin_aside, endings_go_aside}
use Rattle.run_shows.specs.Others.After.{RefinesAfter}
use Rattle.run_shows.specs.Others.Counters.{NotesCounters}
use Rattle.run_shows.specs.Others.Endings.{ending_after}
use Rattle.run_shows.specs.Others.Gone.{EndsWith}
use Rattle.run_shows.proofs.Others.Counters.{endings_note_counters}
use Rattle.run_shows.proofs.Others.EndBegins.{endings_begin_shown}
use Rattle.run_shows.proofs.Others.Ends.{left, says_or_takes, endings_are_shown}
use Rattle.run_shows.proofs.Others.Quiet.{all_quiet}
use Rattle.run_shows.proofs.Others.Stays.{same_maps}
use Rattle.run_places.specs.Spots.Deferred.{WaitOutside, FindsNumbers}
use Rattle.run_places.specs.Spots.Spots.{RefinesPlaces}
use Rattle.run_places.specs.Spots.Unreclaimed.{is_unreclaimed, RefinesUnreclaimed}
use Rattle.run_places.proofs.Spots.Begins.{fewer_maps_stand}
use Rattle.run_places.proofs.Spots.Calm.{put_back}
use Rattle.run_places.proofs.Spots.Deferred.{effects_leave_outside, each_waits_outside}
use Rattle.run_places.proofs.Spots.Effects.{AllAside, calm_aside}
use Rattle.run_places.proofs.Spots.Gone.{other_gone, pair_gone, table_gone}
use Rattle.run_places.proofs.Spots.Stays.{WerePairs, places_stay}
use Rattle.run_places.proofs.Spots.Unreclaimed.{unreclaimed_same}
use Rattle.run_places.specs.Moments.Endings.{IsOfIts, WaitsOn, EndingsBeginWhole, EndingsPreserveWhole}
use Rattle.run_places.specs.Moments.Whole.{RefinesWhole}
use Rattle.run_places.proofs.Moments.Beside.{IsBeside, hands_beside, asked_beside}
use Rattle.run_places.proofs.Moments.OnSlots.{put_out, all_out, with_outside, IsAlone, alone, still_alone, none_some, Keeps, same_roles}
use Rattle.run_shows.specs.Scenes.Ending.{EndingHasOutcome, EndingStepsFrom, ending_begun}
use Rattle.run_shows.specs.Scenes.Held.{Held, IsAt}
use Rattle.run_shows.specs.Scenes.Scene.{Scene, slot_of}

-- effects that move no pair and no table find numbers as they must
module _ {K V : Type 0} (acted : Option ℕ) where
  calm_one : (f : Effect) (v : Moment K V) → is_calm f ≡ true → FindsNumbers v f
  calm_one (Stored n s) v e = absurd (cc e)
  calm_one (Deferred n t) v e = absurd (cc e)
  calm_one _ v e = tt

  calm_numbers : (effects : List Effect) (v : Moment K V) → AllCalm effects → AtEachEffect FindsNumbers None acted effects v
  calm_numbers [] v all = tt
  calm_numbers (f ∷ effects) v all = (calm_one f v all.0, calm_numbers effects (with_effect None acted f v) all.1)

module _ {K V : Type 0} (map : ℕ) (m : Moment K V) where
  abbrev its : Acting
  its = Ending map

  taken_alone : (r : Role) → IsAlone m (with_effects None (Some map) (taken_by its r) m)
  taken_alone role.Free = alone m
  taken_alone (role.OwnPair i) = record { stored = refl; born = refl; calls = refl; maps = refl; place = λ n x e. e }
  taken_alone (role.OwnTable turn shape) = record { stored = refl; born = refl; calls = refl; maps = refl; place = λ n x e. e }
  taken_alone (role.Pair k) = record { stored = refl; born = refl; calls = refl; maps = refl; place = put_out m.place k GivenBack (λ x e. cc e) }
  taken_alone (role.Table t len) = record { stored = refl; born = refl; calls = refl; maps = refl; place = all_out m.place Left (behind t m.deferred) (λ x e. cc e) }
  taken_alone (role.Counter of) = alone m

  taken_numbers : (r : Role) → AtEachEffect FindsNumbers None (Some map) (taken_by its r) m
  taken_numbers role.Free = tt
  taken_numbers (role.OwnPair i) = (tt, tt)
  taken_numbers (role.OwnTable turn shape) = (tt, tt)
  taken_numbers (role.Pair k) = (tt, tt)
  taken_numbers (role.Table t len) = (tt, tt)
  taken_numbers (role.Counter of) = tt

  taken_aside : (r : Role) → AllAside (taken_by its r)
  taken_aside role.Free = tt
  taken_aside (role.OwnPair i) = (refl, tt)
  taken_aside (role.OwnTable turn shape) = (refl, tt)
  taken_aside (role.Pair k) = (refl, tt)
  taken_aside (role.Table t len) = (refl, tt)
  taken_aside (role.Counter of) = tt

  same_calm : (effects : List Effect) → AllCalm effects → AreSame m (with_effects None (Some map) effects m)
  same_calm effects calm = all_quiet (Some map) effects m (calm_still effects calm)

  calm_alone : (effects : List Effect) → AllCalm effects → IsAlone m (with_effects None (Some map) effects m)
  calm_alone effects calm = still_alone m (Some map) effects (calm_still effects calm)

module _ {K V : Type 0} (same : K → K → Bool) (hash : ℕ → K → ℕ) (name : ℕ → List ℕ) (m : Moment K V) (known : Known) (s : Scene K V) (old new : Held K V) (at : IsAt same hash old s)
    (whole : RefinesWhole same name m known s) (i : ℕ) (f : Finishing K V) (here : s.enders i ≡ Some f) (end : EndMap) (said : Settled (Node K V)) (steps : EndingStepsFrom f.machine old new end said)
    (did : StepsOfEnding V same same old.batch_size old.roots slot_of s.world s.maps s.calls s.makers s.enders i f new.memory (end, said))
    (map : ℕ) (not_there : s.maps map ≡ None) (comes : EndingHasOutcome same hash s new i f end did.w2 did.deed said) where
  abbrev w : World (Node K V)
  w = s.world

  abbrev w2 : World (Node K V)
  w2 = did.w2

  abbrev told : Changed
  told = new.changed

  abbrev does : Changed → List Effect
  does x = effects_of (Ending map) known x

  abbrev then_known : Changed → Known
  then_known x = known_after (Ending map) x known

  abbrev then_at : Changed → Moment K V
  then_at x = with_effects None (Some map) (does x) m

  leaves : LeavesBy w.memory w2.memory told
  leaves = left same hash name m known s old new at whole.all.shown i f here end said steps did map not_there

  pub says : (AllCalm (does told) × ((then_known told).roles ≡ known.roles)) ⊎ ((b : ℕ) × (told ≡ changed.Took b))
  says = says_or_takes same hash name m known s old new at whole.all.shown i f here end said steps did map not_there comes told refl leaves

  end_alone : IsAlone m (then_at told)
  end_alone = elim says as (λ _. IsAlone m (then_at told)) [
    | inl it ↦ calm_alone map m (does told) it.0
    | inr it ↦ subst (λ (x : Changed). IsAlone m (then_at x)) (sym it.1) (taken_alone map m (known.roles it.0))
  ]

  took : (b : ℕ) → told ≡ changed.Took b → value_at w2.memory b ≡ None
  took b is = (subst (LeavesBy w.memory w2.memory) is leaves).1

  pub end_keeps : Keeps known w2 (then_known told)
  end_keeps = elim says as (λ _. Keeps known w2 (then_known told)) [
    | inl it ↦ same_roles known w2 (then_known told) it.1
    | inr it ↦ subst (λ (x : Changed). Keeps known w2 (then_known x)) (sym it.1) (
      λ x of. put_back known.roles it.0 role.Free (λ z. z) x of,
      λ x some of. put_elsewhere it.0 role.Free known.roles x (λ e. none_some (value_at w2.memory x) some (ap (value_at w2.memory) e ∙ took it.0 it.1)),
    )
  ]

  -- what is there is in use still, or left over
  hand_there : (b : ℕ) → IsSome (value_at w2.memory b) → IsInUse (w.hand b) → IsInUse (w2.hand b)
  hand_there b some used = by (times b (taken_of did.deed)) refl
    where
      kept : times b (taken_of did.deed) ≡ 0 → (n : ℕ) → times b (left_by did.deed) ≡ n → IsInUse (w2.hand b)
      kept none zero e = subst IsInUse (sym (did.spares.hands b none e)) used
      kept none (suc n) e = subst IsInUse (sym (did.spares.left b (omega (arith, e)))) tt

      by : (n : ℕ) → times b (taken_of did.deed) ≡ n → IsInUse (w2.hand b)
      by zero e = kept e (times b (left_by did.deed)) refl
      by (suc n) e = absurd (none_some (value_at w2.memory b) some (did.spares.gone b (omega (arith, e))))

  pub end_beside : (s2 : Scene K V) → s2.world ≡ w2 → s2.calls ≡ s.calls → s2.maps ≡ s.maps → IsBeside m (then_at told) known (then_known told) s s2
  end_beside s2 world calls maps = record {
    stored = end_alone.stored;
    born = end_alone.born;
    calls = end_alone.calls;
    maps = end_alone.maps;
    place = end_alone.place;
    back = λ b of. inl (end_keeps.0 b of);
    roles = λ b some of. end_keeps.1 b (subst (λ (x : World (Node K V)). IsSome (value_at x.memory b)) world some) of;
    hands = λ b some used. subst (λ (x : World (Node K V)). IsInUse (x.hand b)) (sym world) (hand_there b (subst (λ (x : World (Node K V)). IsSome (value_at x.memory b)) world some) used);
    same_calls = calls;
    stood = λ n st is. inl (st, subst (λ (g : ℕ → Option (Standing K)). g n ≡ Some st) maps is, refl, λ t. refl);
  }

  -- which blocks are unreclaimed
  taken_blocks : (b : ℕ) (r : Role) → known.roles b ≡ r → AtEachEffect WaitsOn None (Some map) (taken_by (Ending map) r) m
      → RefinesUnreclaimed (with_effects None (Some map) (taken_by (Ending map) r) m) (with_role b role.Free known)
  taken_blocks b role.Free e may = other_gone m m known b whole.blocks (λ of. subst IsOfMap e of) (record { place = λ k. refl; tables = λ t. refl })
  taken_blocks b (role.OwnPair j) e may =
      other_gone m (with_effects None (Some map) (taken_by (Ending map) (role.OwnPair j)) m) known b whole.blocks (λ of. subst IsOfMap e of) (record { place = λ k. refl; tables = λ t. refl })
  taken_blocks b (role.OwnTable turn shape) e may =
      other_gone m (with_effects None (Some map) (taken_by (Ending map) (role.OwnTable turn shape)) m) known b whole.blocks (λ of. subst IsOfMap e of) (record { place = λ k. refl; tables = λ t. refl })
  taken_blocks b (role.Pair k) e may =
      pair_gone m (with_effects None (Some map) (taken_by (Ending map) (role.Pair k)) m) known b whole.blocks k e (λ d is. whole.all.shown.blocks.once d b k is e) refl refl
  taken_blocks b (role.Table t len) e may =
      table_gone m (with_effects None (Some map) (taken_by (Ending map) (role.Table t len)) m) known b len t e whole.blocks Left refl IsTaken refl refl refl may.0
  taken_blocks b (role.Counter of) e may = other_gone m m known b whole.blocks (λ z. subst IsOfMap e z) (record { place = λ k. refl; tables = λ t. refl })

  end_aside : AllAside (does told)
  end_aside = elim says as (λ _. AllAside (does told)) [
    | inl it ↦ calm_aside (does told) it.0
    | inr it ↦ subst (λ (x : Changed). AllAside (does x)) (sym it.1) (taken_aside map m (known.roles it.0))
  ]

  pub end_numbers : AtEachEffect FindsNumbers None (Some map) (does told) m
  end_numbers = elim says as (λ _. AtEachEffect FindsNumbers None (Some map) (does told) m) [
    | inl it ↦ calm_numbers (Some map) (does told) m it.0
    | inr it ↦ subst (λ (x : Changed). AtEachEffect FindsNumbers None (Some map) (does x) m) (sym it.1) (taken_numbers map m (known.roles it.0))
  ]

  end_pairs : WerePairs known (then_known told)
  end_pairs b k is = sym (end_keeps.0 b (subst IsOfMap (sym is) tt)) ∙ is

  end_places : RefinesPlaces (then_at told) (then_known told) s.maps
  end_places = places_stay None (Some map) (does told) m known (then_known told) s.maps s.maps end_aside end_pairs (λ n. same_maps (s.maps n)) whole.places

  -- what waits behind a table that ends with its map is not reclaimed
  module _ (waits : AtEachEffect WaitsOn None (Some map) (does told) m) where
    end_blocks : RefinesUnreclaimed (then_at told) (then_known told)
    end_blocks = elim says as (λ _. RefinesUnreclaimed (then_at told) (then_known told)) [
      | inl it ↦
          let a = same_calm map m (does told) it.0 in
          unreclaimed_same m (then_at told) known (then_known told)
          (record { place = λ k. ap (λ (g : ℕ → Place). is_unreclaimed (g k)) a.place; tables = λ t. ap (list_any (λ u. same_table u.table t && is_there u.stage)) a.tables })
          (λ b of. ap (λ (g : ℕ → Role). g b) it.1) (λ b of. ap (λ (g : ℕ → Role). g b) it.1) whole.blocks
      | inr it ↦
          subst (λ (x : Changed). AtEachEffect WaitsOn None (Some map) (does x) m → RefinesUnreclaimed (then_at x) (then_known x)) (sym it.1) (taken_blocks it.0 (known.roles it.0) refl) waits
    ]

    -- so all is shown of a scene that has come so far
    whole_at : (s2 : Scene K V) → s2.world ≡ w2 → s2.calls ≡ s.calls → s2.maps ≡ s.maps → IsAt same hash new s2 → RowsReclaimNone s2
        → RefinesAfter same name m known s whole.all.shown (then_at told) (then_known told) s2 → NotesCounters (then_known told) s2 → RefinesWhole same name (then_at told) (then_known told) s2
    whole_at s2 world calls maps at_new rows after counters = record {
      all = record {
        shown = after.shows;
        asked = asked_beside same name m (then_at told) known (then_known told) s s2 whole.all.shown after (end_beside s2 world calls maps) hash new at_new whole.all.asked;
        hands = hands_beside same name m (then_at told) known (then_known told) s s2 whole.all.shown after (end_beside s2 world calls maps) whole.all.hands;
        rows = rows;
      };
      places = subst (λ (g : ℕ → Option (Standing K)). RefinesPlaces (then_at told) (then_known told) g) (sym maps) end_places;
      blocks = end_blocks;
      outside = effects_leave_outside K V None (Some map) (does told) m end_numbers whole.outside;
      counters = counters;
    }

    pub end_keeps_whole : (t : Settled (Node K V)) (it : EndingHasOutcome same hash s new i f end w2 did.deed t) → RowsReclaimNone (record s { world = w2 })
        → RefinesAfter same name m known s whole.all.shown (then_at told) (then_known told) (ending_after same hash s new i f end w2 did.deed t it)
        → NotesCounters (then_known told) (ending_after same hash s new i f end w2 did.deed t it) → RefinesWhole same name (then_at told) (then_known told) (ending_after same hash s new i f end w2 did.deed t it)
    end_keeps_whole settled.Goes it rows after counters = whole_at _ refl refl refl it.1 (record { none = rows.none; one = rows.one }) after counters
    end_keeps_whole settled.Waits it rows after counters = absurd it
    end_keeps_whole (settled.Gave value) it rows after counters = whole_at _ refl refl refl it.3 (record { none = rows.none; one = rows.one }) after counters
    end_keeps_whole settled.Done it rows after counters = whole_at _ refl refl refl it.2 (record { none = rows.none; one = rows.one }) after counters

pub ends_with : {K V : Type 0} (map : ℕ) (f : Effect) (v : Moment K V) → IsOfIts map v f → WaitOutside v → EndsWith v map f
ends_with map (Taken t) v of_map outside = (of_map, each_waits_outside _ _ v outside t)
ends_with map _ v of_map outside = tt

module _ (K V : Type 0) (same : K → K → Bool) (hash : ℕ → K → ℕ) where
  pub endings_keep_whole : EndingsPreserveWhole K V same hash
  endings_keep_whole name m known s old new at whole i told leads f here map not_there of_map waits =
      let to = leads f here in
      let finds = end_numbers same hash name m known s old new at whole i f here to.0 told to.1 to.2 map not_there to.3 in
      let ends = with_outside None (Some map) (IsOfIts map) (λ v effect. EndsWith v map effect) (ends_with map) (effects_of (Ending map) known new.changed) m finds whole.outside of_map in
      end_keeps_whole same hash name m known s old new at whole i f here to.0 told to.1 to.2 map not_there to.3 waits told to.3
      (endings_go_aside K V same hash s old new at whole.all.rows i told leads f here)
      (endings_are_shown K V same hash name m known s old new at whole.all.shown i told leads f here map not_there ends).1
      (endings_note_counters K V same hash name m known s old new at whole.all.shown whole.counters i told leads f here map)

  pub endings_begin_whole : EndingsBeginWhole K V same hash
  endings_begin_whole name m known s new whole map i standing there at_new =
      let after = endings_begin_shown K V same name m known s whole.all.shown map i standing in
      record {
        all = record {
          shown = after.shows;
          asked = asked_beside same name m m known known s (ending_begun map i standing s) whole.all.shown after beside hash new at_new whole.all.asked;
          hands = hands_beside same name m m known known s (ending_begun map i standing s) whole.all.shown after beside whole.all.hands;
          rows = endings_begin_aside K V s whole.all.rows map i standing;
        };
        places = fewer_maps_stand K V m known s.maps (with_at s.maps map None) fewer whole.places;
        blocks = whole.blocks;
        outside = whole.outside;
        counters = whole.counters;
      }
    where
      fewer : (n : ℕ) (st : Standing K) → with_at s.maps map None n ≡ Some st → s.maps n ≡ Some st
      fewer n st is = elim (cases_eq n map) as (λ _. s.maps n ≡ Some st) [
        | inl e ↦ absurd (let none = at_same s.maps map None n e in cc (none, is))
        | inr ne ↦ sym (at_other s.maps map None n ne) ∙ is
      ]

      beside : IsBeside m m known known s (ending_begun map i standing s)
      beside = record {
        stored = refl;
        born = refl;
        calls = refl;
        maps = refl;
        place = λ n x e. e;
        back = λ b of. inl refl;
        roles = λ b some of. refl;
        hands = λ b some used. used;
        same_calls = refl;
        stood = λ n st is. inl (st, fewer n st is, refl, λ t. refl);
      }
