-- Rows on slots keep all that a moment shows.
use Rattle.std.specs.Prelude.{◌&&◌, ◌≡◌, ℕ, zero, suc, nat_lt, Bool, true, false, List, [], ◌∷◌, Option, Some, None, IsSome, if◌then◌else◌}
use Rattle.std.proofs.Common.{refl, ap, sym, subst, ◌∙◌, arith, inl, inr}
use Rattle.std.proofs.lemmas.Bool.{cases_eq}
use Rattle.run_shows.specs.Given.SeizeWordsDeclared.at.At.TheVariants.{Root, Used, Slot, Entry, Word}
use Rattle.run_shows.specs.Given.SeizeWordsMem.{Mem, value_at}
use Rattle.run_shows.specs.Given.SeizeSequence.{taken_in}
use Rattle.run_shows.specs.Given.SeizeWorld.{World, Hand, Begin, Step, Begins, times}
use Rattle.run_shows.proofs.Given.SeizeRuleRows.Effects.{hand_kept}
use Rattle.run_shows.proofs.Given.SeizeAloneSpared.Rows.{RowStepped}
use Rattle.run_shows.proofs.Given.SeizeAloneHistories.NotTaken.{did, taken_gone}
use Rattle.run_shows.proofs.Given.SeizeAloneHistories.Reached.{Reached}
use Rattle.run_shows.specs.Given.TablesNodes.{deferred_word}
use Rattle.run_shows.specs.Given.TablesDeclared.node.Node.{Node}
use Rattle.run_shows.specs.Given.RunsDeclared.effect.Effect.{Effect}
use Rattle.run_shows.specs.Given.RunsDeclared.effect.Effect.TheVariants.{Asked, Reclaimed}
use Rattle.run_shows.specs.Given.RunsDeclared.effect.Growth.TheVariants.{ABucket}
use Rattle.run_shows.specs.Given.RunsDeclared.effect.Thing.TheVariants.{APair, ATable}
use Rattle.run_shows.specs.Given.SchedulesEffects.{with_effect, with_effects, all_at, AtEachEffect}
use Rattle.run_shows.specs.Given.SchedulesLists.{put, is_among}
use Rattle.run_shows.specs.Given.SchedulesMoment.{Place, InMap, Handed, GivenBack, Moment}
use Rattle.run_shows.specs.Given.SchedulesViews.{behind}
use Rattle.run_shows.specs.Given.EffectsDeclared.changed.Changed.{Changed}
use Rattle.run_shows.specs.Given.EffectsDeclared.changed.Changed.TheVariants as changed
use Rattle.run_shows.proofs.Given.CallersTogether.Came.{came_reached}
use Rattle.run_shows.specs.Given.FinishesMaps.{Standing, IsSameMap}
use Rattle.run_shows.specs.Given.EffectsEffects.{names_same, taken_by, effects_of, known_after}
use Rattle.run_shows.specs.Given.EffectsKnown.{Known}
use Rattle.run_shows.specs.Given.EffectsDeclared.acting.Acting.TheVariants.{Row}
use Rattle.run_shows.specs.Given.EffectsDeclared.role.Role.{Role}
use Rattle.run_shows.specs.Given.EffectsDeclared.role.Role.TheVariants as role
use Rattle.run_shows.specs.declared.row.RowTold.{RowTold}
use Rattle.run_shows.specs.declared.row.SlotCall.{SlotCall}
use Rattle.run_shows.specs.declared.row.SlotCall.TheVariants as call
use Rattle.run_shows.specs.declared.row.SlotRow.{SlotRow}
use Rattle.run_shows.proofs.Follows.Alike.{AllStill, put_here, put_elsewhere}
use Rattle.run_shows.proofs.Follows.Onward.{IsOfMap}
use Rattle.run_shows.proofs.Follows.Operations.{LeavesBy, operated_leaves}
use Rattle.run_shows.proofs.Follows.Told.{roomed_as_many}
use Rattle.run_places.specs.Hands.Hands.{IsInUse}
use Rattle.run_places.proofs.Hands.Others.{rows_begin_aside, rows_go_aside}
use Rattle.run_shows.specs.Others.Gone.{WasRetired}
use Rattle.run_shows.specs.Others.Rows.{scene_then}
use Rattle.run_shows.proofs.Others.Counters.{rows_note_counters}
use Rattle.run_shows.proofs.Others.Quiet.{calls_none, all_quiet}
use Rattle.run_shows.proofs.Others.RowBegins.{rows_begin_shown}
use Rattle.run_shows.proofs.Others.RowPlans.{TellsRow, row_tells, row_operated}
use Rattle.run_shows.proofs.Others.Rows.{rows_on_slots_are_shown}
use Rattle.run_places.specs.Spots.Deferred.{WaitOutside, FindsNumbers}
use Rattle.run_places.proofs.Spots.Calm.{put_back}
use Rattle.run_places.proofs.Spots.Deferred.{effects_leave_outside, each_waits_outside}
use Rattle.run_places.proofs.Spots.OnSlots.{row_beside as finds_numbers, rows_leave_places, rows_keep_blocks}
use Rattle.run_places.proofs.Spots.Stays.{places_stay}
use Rattle.run_places.specs.Moments.OnSlots.{HadRetired, RowsBeginWhole, RowsPreserveWhole}
use Rattle.run_places.proofs.Moments.Beside.{IsBeside, hands_beside, asked_beside}
use Rattle.run_shows.proofs.Scenes.May.{may_row}
use Rattle.run_shows.specs.Scenes.Held.{Held, IsAt}
use Rattle.run_shows.specs.Scenes.OnSlots.{HappensAt, RowBegins, RowSteps}
use Rattle.run_shows.specs.Scenes.Rows.{request_of}
use Rattle.run_shows.specs.Scenes.Scene.{IsOnSlot, Scene, slot_of}
use Rattle.run_shows.proofs.Given.General.{same_some as one_of}

-- a map that stands then stood so, with its tables in the same blocks
pub stood_same : {K : Type 0} (o o2 : Option (Standing K)) → IsSameMap o o2 → (st : Standing K) → o2 ≡ Some st
    → (before : Standing K) × (o ≡ Some before) × (st.chart ≡ before.chart) × ((t : ℕ) → st.blocks.table t ≡ before.blocks.table t)
stood_same None o2 none st is = absurd (cc (none, is))
stood_same (Some before) o2 (blocks, sights, here, part) st is =
    let one = one_of st (record before { blocks = blocks; sights = sights }) (sym is ∙ here) in
    (before, refl, ap (λ (x : Standing _). x.chart) one, λ t. ap (λ (x : Standing _). x.blocks.table t) one ∙ part.tables t)

-- a pair that is in a map then was where it is
module _ (place : ℕ → Place) where
  pub put_out : (k : ℕ) (p : Place) → ((map : ℕ) → p ≡ InMap map → ⊥) → (n map : ℕ) → put k p place n ≡ InMap map → place n ≡ InMap map
  put_out k p none n map at_map = elim (cases_eq n k) as (λ _. place n ≡ InMap map) [
    | inl e ↦ absurd (none map (sym (put_here k p place n e) ∙ at_map))
    | inr ne ↦ sym (put_elsewhere k p place n ne) ∙ at_map
  ]

  pub all_out : (p : Place) (numbers : List ℕ) → ((map : ℕ) → p ≡ InMap map → ⊥) → (n map : ℕ) → all_at p numbers place n ≡ InMap map → place n ≡ InMap map
  all_out p numbers none n map at_map = by (is_among n numbers) at_map
    where
      by : (q : Bool) → (if q then p else place n) ≡ InMap map → place n ≡ InMap map
      by true e = absurd (none map e)
      by false e = e

-- what is so of effects, since what waits behind tables is in no map
module _ {K V : Type 0} (caller : Option (List ℕ)) (acted : Option ℕ) (Had Has : Moment K V → Effect → Type 0) (both : (f : Effect) (v : Moment K V) → Had v f → WaitOutside v → Has v f) where
  pub with_outside : (effects : List Effect) (v : Moment K V) → AtEachEffect FindsNumbers caller acted effects v → WaitOutside v → AtEachEffect Had caller acted effects v
      → AtEachEffect Has caller acted effects v
  with_outside [] v finds outside had = tt
  with_outside (f ∷ effects) v finds outside had = (
    both f v had.0 outside,
    with_outside effects (with_effect caller acted f v) finds.1 (effects_leave_outside K V caller acted (f ∷ []) v (finds.0, tt) outside) had.1,
  )

pub was_retired : {K V : Type 0} (f : Effect) (v : Moment K V) → HadRetired v f → WaitOutside v → WasRetired v f
was_retired (Reclaimed (ATable t)) v had outside = (had, each_waits_outside _ _ v outside t)
was_retired (Reclaimed (APair n)) v had outside = tt
was_retired _ v had outside = tt

module _ {K V : Type 0} (m v : Moment K V) where
  -- of the moment: calls and maps are as they were, and pairs are in the map in which they were, or in none
  pub record IsAlone : Type 0 where
    pub stored : v.stored ≡ m.stored
    pub born : v.born ≡ m.born
    pub calls : v.calls ≡ m.calls
    pub maps : v.maps ≡ m.maps
    pub place : (n map : ℕ) → v.place n ≡ InMap map → m.place n ≡ InMap map

module _ {K V : Type 0} (m : Moment K V) where
  pub alone : IsAlone m m
  alone = record { stored = refl; born = refl; calls = refl; maps = refl; place = λ n map e. e }

  -- so it is of effects that move nothing
  pub still_alone : (of : Option ℕ) (effects : List Effect) → AllStill effects → IsAlone m (with_effects None of effects m)
  still_alone of effects still =
      let a = all_quiet of effects m still in
      record { stored = a.stored; born = a.born; calls = calls_none of effects m; maps = a.maps; place = λ n map e. sym (ap (λ (f : ℕ → Place). f n) a.place) ∙ e }

  taken_alone : (r : Role) → IsAlone m (with_effects None None (taken_by Row r) m)
  taken_alone role.Free = alone
  taken_alone (role.OwnPair i) = record { stored = refl; born = refl; calls = refl; maps = refl; place = λ n map e. e }
  taken_alone (role.OwnTable turn shape) = record { stored = refl; born = refl; calls = refl; maps = refl; place = λ n map e. e }
  taken_alone (role.Pair k) = record { stored = refl; born = refl; calls = refl; maps = refl; place = put_out m.place k GivenBack (λ map e. cc e) }
  taken_alone (role.Table t len) = record { stored = refl; born = refl; calls = refl; maps = refl; place = all_out m.place Handed (behind t m.deferred) (λ map e. cc e) }
  taken_alone (role.Counter of) = alone

  nothing_alone : (q : Bool) → IsAlone m (with_effects None None (if q then [] else []) m)
  nothing_alone true = alone
  nothing_alone false = alone

  roomed_alone : (q : Bool) → IsAlone m (with_effects None None (if q then [] else Asked ABucket ∷ []) m)
  roomed_alone true = alone
  roomed_alone false = record { stored = refl; born = refl; calls = refl; maps = refl; place = λ n map e. e }

  pub row_alone : (known : Known) (told : Changed) → TellsRow told → IsAlone m (with_effects None None (effects_of Row known told) m)
  row_alone known changed.Nothing is = alone
  row_alone known (changed.Wrote (Slot t field) old new) is = alone
  row_alone known (changed.Wrote (Entry b field) old new) is = nothing_alone (names_same old new)
  row_alone known (changed.Wrote (Root r) old new) is = absurd is
  row_alone known (changed.Wrote (Used r) old new) is = absurd is
  row_alone known (changed.Wrote (Word b field) old new) is = absurd is
  row_alone known (changed.Made kind b) is = absurd is
  row_alone known (changed.Unmade kind) is = absurd is
  row_alone known (changed.Took b) is = taken_alone (known.roles b)
  row_alone known (changed.Roomed bucket had) is = roomed_alone (had && nat_lt bucket known.buckets)

pub none_some : {T : Type 0} (o : Option T) → IsSome o → o ≡ None → ⊥
none_some {T} o some none = (let it : IsSome {T = T} None = subst (λ (x : Option T). IsSome x) none some in cc it)

-- what is noted of blocks: those of maps were so, and what is there is what it was
module _ {K V : Type 0} (known : Known) (w2 : World (Node K V)) where
  abbrev pub Keeps : Known → Type 0
  Keeps known2 = ((b : ℕ) → IsOfMap (known2.roles b) → known2.roles b ≡ known.roles b) × ((b : ℕ) → IsSome (value_at w2.memory b) → IsOfMap (known.roles b) → known2.roles b ≡ known.roles b)

  pub same_roles : (known2 : Known) → known2.roles ≡ known.roles → Keeps known2
  same_roles known2 e = (λ b of. ap (λ (f : ℕ → Role). f b) e, λ b some of. ap (λ (f : ℕ → Role). f b) e)

  pub row_keeps : (w : World (Node K V)) (told : Changed) → TellsRow told → LeavesBy w.memory w2.memory told → Keeps (known_after Row told known)
  row_keeps w changed.Nothing is l = same_roles known refl
  row_keeps w (changed.Wrote (Slot t field) old new) is l = same_roles known refl
  row_keeps w (changed.Wrote (Entry b field) old new) is l = same_roles known refl
  row_keeps w (changed.Wrote (Root r) old new) is l = absurd is
  row_keeps w (changed.Wrote (Used r) old new) is l = absurd is
  row_keeps w (changed.Wrote (Word b field) old new) is l = absurd is
  row_keeps w (changed.Made kind b) is l = absurd is
  row_keeps w (changed.Unmade kind) is l = absurd is
  row_keeps w (changed.Took b) is l = (
    λ x of. put_back known.roles b role.Free (λ it. it) x of,
    λ x some of. put_elsewhere b role.Free known.roles x (λ e. none_some (value_at w2.memory x) some (ap (value_at w2.memory) e ∙ l.1)),
  )
  row_keeps w (changed.Roomed bucket had) is l = same_roles (known_after Row (changed.Roomed bucket had) known) (roomed_as_many Row known bucket had).0

module _ {K V : Type 0} (same : K → K → Bool) (hash : ℕ → K → ℕ) (m : Moment K V) (known : Known) (s : Scene K V) (old new : Held K V) (at : IsAt same hash old s)
    (i : ℕ) (row : SlotRow) (here : IsOnSlot s i row) (end : SlotRow × RowTold (Node K V))
    (steps : RowSteps K V row old.memory new.memory new.changed end) (happened : HappensAt same hash (Step i) s old new) where
  abbrev w : World (Node K V)
  w = s.world

  abbrev w2 : World (Node K V)
  w2 = happened.0

  left : LeavesBy w.memory w2.memory new.changed
  left =
      subst (λ (n : Mem (Node K V)). LeavesBy w.memory n new.changed) (sym happened.4.memory)
      (subst (λ (n : Mem (Node K V)). LeavesBy n new.memory new.changed) (sym at.memory)
      (operated_leaves old.memory new.memory new.changed
      (row_operated old.memory new.memory new.changed end row (may_row same hash old s at i row here) steps)))

  reached : Reached deferred_word old.batch_size w
  reached = came_reached old.batch_size w at.together.makings.standing.came

  abbrev it : RowStepped deferred_word i w w2
  it = did deferred_word old.batch_size w reached i w2 happened.1

  -- a block that is there is in the hands that had it
  hand_same : (b : ℕ) → IsSome (value_at w2.memory b) → w2.hand b ≡ w.hand b
  hand_same b some = by (times b (taken_in it.effects)) refl
    where
      by : (n : ℕ) → times b (taken_in it.effects) ≡ n → w2.hand b ≡ w.hand b
      by zero e = ap (λ (h : ℕ → Hand). h b) it.hands ∙ hand_kept b it.effects w.hand e it.one
      by (suc n) e = absurd (none_some (value_at w2.memory b) some (taken_gone deferred_word old.batch_size w reached i w2 happened.1 b (λ z. omega (arith, e, z))))

  tells : TellsRow new.changed
  tells = row_tells old.memory new.memory new.changed end row steps

  pub row_beside : IsBeside m (with_effects None None (effects_of Row known new.changed) m) known (known_after Row new.changed known) s (scene_then same hash (Step i) s old new happened)
  row_beside =
      let a = row_alone m known new.changed tells in
      let k = row_keeps known w2 w new.changed tells left in
      record {
        stored = a.stored;
        born = a.born;
        calls = a.calls;
        maps = a.maps;
        place = a.place;
        back = λ b of. inl (k.0 b of);
        roles = k.1;
        hands = λ b some used. subst IsInUse (sym (hand_same b some)) used;
        same_calls = refl;
        stood = λ map st is. inl (stood_same (s.maps map) (happened.2 map) (happened.3 map) st is);
      }

-- a row that begins leaves hands as they are
pub begun_hands : {K V : Type 0} (size slot i : ℕ) (w v : World (Node K V)) (called : SlotCall) → Begins deferred_word size i (request_of slot called) w v → v.hand ≡ w.hand
begun_hands size slot i w v (call.Register enters) h = ap (λ (x : World (Node _ _)). x.hand) h
begun_hands size slot i w v call.Enter h = ap (λ (x : World (Node _ _)). x.hand) h.1
begun_hands size slot i w v call.Leave h = ap (λ (x : World (Node _ _)). x.hand) h.1
begun_hands size slot i w v call.LeaveOwned h = ap (λ (x : World (Node _ _)). x.hand) h.1
begun_hands size slot i w v call.Refresh h = ap (λ (x : World (Node _ _)). x.hand) h.1
begun_hands size slot i w v call.Flush h = ap (λ (x : World (Node _ _)). x.hand) h.1
begun_hands size slot i w v call.Unregister h = ap (λ (x : World (Node _ _)). x.hand) h.1

module _ (K V : Type 0) (same : K → K → Bool) (hash : ℕ → K → ℕ) where
  pub rows_keep_whole : RowsPreserveWhole K V same hash
  rows_keep_whole name m known s old new at whole i told leads row here retired unreclaimed =
      let to = leads row here in
      let tells = row_tells old.memory new.memory new.changed (to.0, told) row to.1 in
      let after = rows_on_slots_are_shown K V same hash name m known s old new at whole.all.shown i told leads row here
      (with_outside None None HadRetired WasRetired was_retired (effects_of Row known new.changed) m (finds_numbers m known new.changed tells).0.1 whole.outside retired) in
      let beside = row_beside same hash m known s old new at i row here (to.0, told) to.1 to.2 in
      let lie = rows_leave_places K V same hash m known s old new i told leads row here whole.places whole.outside in
      record {
        all = record {
          shown = after.shows;
          asked = asked_beside same name m _ known _ s _ whole.all.shown after beside hash new to.2.4 whole.all.asked;
          hands = hands_beside same name m _ known _ s _ whole.all.shown after beside whole.all.hands;
          rows = rows_go_aside K V same hash s old new at whole.all.rows i told leads row here;
        };
        places = lie.0;
        blocks = rows_keep_blocks K V same hash name m known s old new whole.all.shown i told leads row here unreclaimed whole.blocks;
        outside = lie.1;
        counters = rows_note_counters K V same hash name m known s old new at whole.all.shown whole.counters i told leads row here;
      }

  -- all is as it was where a row begins
  pub rows_begin_beside : (m : Moment K V) (known : Known) (s : Scene K V) (old new : Held K V) (called : SlotCall) (i : ℕ) (leads : RowBegins same hash called i s old new)
      → IsBeside m m known known s (scene_then same hash (Begin i (request_of (slot_of i) called)) s old new leads.2)
  rows_begin_beside m known s old new called i leads =
      let to = leads.2 in
      let hands = begun_hands old.batch_size (slot_of i) i s.world to.0 called to.1.1 in
      record {
        stored = refl;
        born = refl;
        calls = refl;
        maps = refl;
        place = λ n map e. e;
        back = λ b of. inl refl;
        roles = λ b some of. refl;
        hands = λ b some used. subst (λ (h : ℕ → Hand). IsInUse (h b)) (sym hands) used;
        same_calls = refl;
        stood = λ map st is. inl (stood_same (s.maps map) (to.2 map) (to.3 map) st is);
      }

  pub rows_begin_whole : RowsBeginWhole K V same hash
  rows_begin_whole name m known s old new at whole called i leads =
      let to = leads.2 in
      let after = rows_begin_shown K V same hash name m known s old new at whole.all.shown called i leads in
      let beside = rows_begin_beside m known s old new called i leads in
      record {
        all = record {
          shown = after.shows;
          asked = asked_beside same name m m known known s _ whole.all.shown after beside hash new to.4 whole.all.asked;
          hands = hands_beside same name m m known known s _ whole.all.shown after beside whole.all.hands;
          rows = rows_begin_aside K V same hash s old new at whole.all.rows called i leads;
        };
        places = places_stay None None [] m known known s.maps to.2 tt (λ b k e. e) to.3 whole.places;
        blocks = whole.blocks;
        outside = whole.outside;
        counters = whole.counters;
      }
