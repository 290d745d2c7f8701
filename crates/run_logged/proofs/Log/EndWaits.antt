-- What an end of a map leaves over is noted as the pairs that waited behind the map's tables: so it is as the end begins, and after each step of it.
use Rattle.std.specs.Prelude.{◌≡◌, ◌≢◌, ◌⊎◌, ◌<◌, ◌≤◌, ◌+◌, ◌-◌, ℕ, zero, suc, Bool, false, List, [], ◌∷◌, ◌++◌, map as each_of, Option, Some, None, IsSome}
use Rattle.std.proofs.Common.{refl, ap, sym, subst, ◌∙◌, inl, inr, arith}
use Rattle.std.proofs.lemmas.Bool.{cases_eq, cases_lt}
use Rattle.std.proofs.lemmas.List.{append-nil, append_assoc}
use Rattle.run_schedules.specs.Given.SeizeWordsMem.{Mem, value_at}
use Rattle.seize.specs.Further.{FurtherFrom, FurtherAre}
use Rattle.seize.specs.declared.rows.settle.Settled.{Settled}
use Rattle.seize.specs.declared.rows.settle.Settled.TheVariants as settled
use Rattle.seize.specs.World.{World, InUse, MayCut, Runs, times}
use Rattle.run_shows.proofs.Given.SeizeAloneHistories.Reached.{Reached, runs_reached}
use Rattle.papaya_raw.specs.Given.TablesChunks.{is_incremental}
use Rattle.papaya_raw.specs.Given.TablesNodes.{deferred_word}
use Rattle.papaya_raw.specs.Given.TablesDeclared.node.Node.{Node}
use Rattle.papaya_raw.specs.Given.TablesDeclared.node.Node.TheVariants as node
use Rattle.papaya_raw.specs.declared.machines.end_map.EndMap.{EndMap}
use Rattle.run_schedules.specs.declared.effect.Effect.{Effect}
use Rattle.run_schedules.specs.declared.effect.TableId.{TableId}
use Rattle.run_schedules.specs.Schedules.Effects.{with_effects}
use Rattle.run_schedules.specs.Schedules.Moment.{Deferral, Moment}
use Rattle.run_schedules.specs.Schedules.Views.{behind}
use Rattle.run_shows.specs.Given.CallersKept.{IsPair}
use Rattle.run_shows.proofs.Given.CallersTogether.Came.{came_reached}
use Rattle.run_effects.specs.Effects.Effects.{effects_of, known_after}
use Rattle.run_effects.specs.Effects.Known.{Known}
use Rattle.run_effects.specs.declared.acting.Acting.TheVariants.{Ending}
use Rattle.run_effects.specs.declared.role.Role.{Role}
use Rattle.run_effects.specs.declared.role.Role.TheVariants as role
use Rattle.run_shows.specs.Given.FinishesEndings.{Finishing, FinishingFacts, HasFinished, StepsOfEnding, finishing_of, waiting_by}
use Rattle.run_shows.specs.Given.FinishesFactsEnds.{Deed, Looks, TakesPair, LeavesTable, JoinsPair, TakesLeft, TakesCounter, WritesRoot, HasDeferred, events_of, from_table, left_by, taken_by as taken_of}
use Rattle.run_shows.specs.Given.FinishesMaps.{Standing}
use Rattle.run_shows.specs.Given.FinishesOrders.{pairs_of}
use Rattle.run_shows.proofs.Given.FinishesEnds.CountedBlocks.{some_first, some_here, some_last, times-append, times_other}
use Rattle.run_shows.proofs.Given.FinishesEnds.OrdersOn.{table_later}
use Rattle.run_shows.specs.Follows.Maps.{table_of}
use Rattle.run_shows.proofs.Follows.Onward.{IsOfMap}
use Rattle.run_executor.specs.Given.MomentsWhole.{RefinesWhole}
use Rattle.run_executor.proofs.Given.MomentsEnds.{end_keeps}
use Rattle.run_kept.proofs.Given.LivesInUse.{list_is}
use Rattle.run_kept.proofs.Given.LivesOrder.{noted_still}
use Rattle.run_kept.proofs.Given.LivesOrderEnds.{same_behind, used_before}
use Rattle.run_kept.specs.Kept.Kept.{RefinesKept}
use Rattle.run_logged.specs.Log.Ends.{is_done, NotesMap, NotedStill}
use Rattle.run_kept.specs.Sheds.Waits.{ReportsLeft, ReportsThen, ReportsWaiting, WaitsSo, waited_behind}
use Rattle.run_kept.proofs.Sheds.LeftNoted.{left_there}
use Rattle.run_kept.proofs.Sheds.EndPast.{left_before, past_within, yet_carries, yet_fresh, yet_used}
use Rattle.run_shows.specs.Scenes.Ending.{EndingHasOutcome, EndingStepsFrom}
use Rattle.run_shows.specs.Scenes.Held.{Held, IsAt}
use Rattle.run_shows.specs.Scenes.Scene.{Scene, slot_of}
use Rattle.run_shows.proofs.Given.General.{map_append as each_two}

-- and of one table more
one_waited : (map : ℕ) (ds : List Deferral) (t tables : ℕ) → waited_behind map ds t (suc tables) ≡ waited_behind map ds t tables ++ behind (table_of map (t + tables)) ds
one_waited map ds t zero = append-nil (behind (table_of map t) ds) ∙ ap (λ (u : ℕ). behind (table_of map u) ds) (let it : t ≡ t + 0 = omega arith in it)
one_waited map ds t (suc tables) =
    let u : suc t + tables ≡ t + suc tables = omega arith in
    ap (λ (l : List ℕ). behind (table_of map t) ds ++ l) (one_waited map ds (suc t) tables ∙ ap (λ (n : ℕ). waited_behind map ds (suc t) tables ++ behind (table_of map n) ds) u)
    ∙ sym (append_assoc (behind (table_of map t) ds) (waited_behind map ds (suc t) tables) (behind (table_of map (t + suc tables)) ds))

module _ {K V : Type 0} (same : K → K → Bool) (hash : ℕ → K → ℕ) (name : ℕ → List ℕ) (m : Moment K V) (known : Known) (s : Scene K V) (old new : Held K V) (at : IsAt same hash old s)
    (whole : RefinesWhole same name m known s) (kept : RefinesKept name m known s) (i : ℕ) (f : Finishing K V) (here : s.enders i ≡ Some f) (end : EndMap)
    (said : Settled (Node K V)) (steps : EndingStepsFrom f.machine old new end said)
    (did : StepsOfEnding V same same old.batch_size old.roots slot_of s.world s.maps s.calls s.makers s.enders i f new.memory (end, said))
    (of : ℕ) (not_there : s.maps of ≡ None) (comes : EndingHasOutcome same hash s new i f end did.w2 did.deed said)
    (number : ℕ → ℕ) (first_known : Known) (notes : NotesMap of number first_known f.setting f.chart f.blocks) (noted : NotedStill first_known known f.back)
    (noted_then : NotedStill first_known (known_after (Ending of) new.changed known) (f.back ++ taken_of did.deed))
    (first : Moment K V) (before : ReportsWaiting same of i f first m known s.world) where
  abbrev w : World (Node K V)
  w = s.world

  abbrev effects : List Effect
  effects = effects_of (Ending of) known new.changed

  abbrev known2 : Known
  known2 = known_after (Ending of) new.changed known

  abbrev v : Moment K V
  v = with_effects None (Some of) effects m

  abbrev its_first : Reached deferred_word old.batch_size w
  its_first = came_reached old.batch_size w at.together.makings.standing.came

  after : Reached deferred_word old.batch_size did.w2
  after = runs_reached deferred_word old.batch_size (events_of i did.deed) w did.w2 its_first did.runs

  k : FinishingFacts same old.batch_size w i f
  k = at.together.facts i f here

  abbrev table : ℕ → ℕ
  table t = f.blocks.table t

  so : WaitsSo of f.chart first m known k.past f.waits
  so = before old.batch_size k

  -- what is there then is noted as it was
  still_pair : (b n : ℕ) → IsSome (value_at did.w2.memory b) → known.roles b ≡ role.Pair n → known2.roles b ≡ role.Pair n
  still_pair b n there is = (end_keeps same hash name m known s old new at whole i f here end said steps did of not_there comes).1 b there (subst IsOfMap (sym is) tt) ∙ is

  module _ (t : ℕ) (yet : k.past ≤ t) (made : t < f.chart.past) where
    from : f.chart.first ≤ t
    from = (let within = (past_within same old.batch_size w i f k).0 in omega (arith, within, yet))

    fresh : times (table t) f.back ≡ 0
    fresh = yet_fresh same old.batch_size w i f k t yet made

    used : w.hand (table t) ≡ InUse f.setting.counter
    used = yet_used same old.batch_size w i f k t yet made

    is_table : known.roles (table t) ≡ role.Table (table_of of t) (f.chart.len t)
    is_table = noted (table t) fresh ∙ notes.tables t from made

    -- the same pairs wait behind it
    waits_still : behind (table_of of t) m.deferred ≡ behind (table_of of t) first.deferred
    waits_still = so.still t yet made

  -- later tables are other blocks
  tables_apart : (t : ℕ) → k.past ≤ t → suc t < f.chart.past → table (suc t) ≢ table t
  tables_apart t yet made e =
      let both : role.Table (table_of of (suc t)) (f.chart.len (suc t)) ≡ role.Table (table_of of t) (f.chart.len t) =
      sym (is_table (suc t) (omega (arith, yet)) made) ∙ ap known.roles e ∙ is_table t yet (omega (arith, made)) in
      let tables : table_of of (suc t) ≡ table_of of t = cc both in
      let turns : suc t ≡ t = ap (λ (x : TableId). x.turn) tables in omega (arith, turns)

  -- what a table may leave over is what it carries
  module _ (u : ℕ) (yet : k.past ≤ u) (made : u < f.chart.past) (further : List ℕ) (are : FurtherAre deferred_word w.memory (table u) further) where
    carried : HasDeferred w (table u) (k.lists u)
    carried = yet_carries same old.batch_size w i f k u yet made

    one_list : further ≡ k.lists u
    one_list =
        list_is deferred_word w its_first.good (table u) f.setting.counter (used u yet made) further are
        ∙ sym (list_is deferred_word w its_first.good (table u) f.setting.counter (used u yet made) (k.lists u) carried.are)

    -- so it is no table that is in use
    none_carried : (t : ℕ) → k.past ≤ t → t < f.chart.past → times (table t) further ≡ 0
    none_carried t yet_t made_t = by (times (table t) further) refl
      where
        by : (n : ℕ) → times (table t) further ≡ n → times (table t) further ≡ 0
        by zero e = e
        by (suc n) e =
            let some : 0 < times (table t) further = omega (arith, e) in
            let handed = (carried.theirs (table t) (subst (λ (l : List ℕ). 0 < times (table t) l) one_list some)).0 in
            let in_use = used t yet_t made_t in absurd (cc (handed, in_use))

  -- It stays at its table, and nothing more waits; or it has left over the next one, with what that carries.
  abbrev Moves : Deed → ℕ → Type 0
  Moves deed past2 =
      ((past2 ≡ k.past) × (waiting_by deed ≡ [])) ⊎ ((past2 ≡ suc k.past) × (k.past < f.chart.past) × FurtherAre deferred_word w.memory (table k.past) (waiting_by deed))

  module _ (past2 : ℕ) (not_less : k.past ≤ past2) (within : past2 ≤ f.chart.past) where
    abbrev Spared : Deed → Type 0
    Spared deed = (t : ℕ) → k.past ≤ t → t < f.chart.past → times (table t) (taken_of deed) ≡ 0 → times (table t) (left_by deed) ≡ 0 → past2 ≤ t

    abbrev Touched : Deed → Type 0
    Touched deed = (t : ℕ) → k.past ≤ t → t < f.chart.past → 0 < times (table t) (taken_of deed ++ left_by deed) → t < past2

    abbrev Over : Deed → Type 0
    Over deed = (x : ℕ) → 0 < times x (left_by deed) → IsPair w x ⊎ ((times x f.back ≡ 0) × ((t : ℕ) × (f.chart.first ≤ t) × (t < f.chart.past) × (x ≡ table t)))

    -- it takes or leaves over no table that is in use
    stays : (deed : Deed) → waiting_by deed ≡ [] → Spared deed → ((t : ℕ) → k.past ≤ t → t < f.chart.past → (times (table t) (taken_of deed) ≡ 0) × (times (table t) (left_by deed) ≡ 0)) → Moves deed past2
    stays deed none spared apart = inl (by (cases_lt k.past f.chart.past), none)
      where
        by : (k.past < f.chart.past) ⊎ (f.chart.past ≤ k.past) → past2 ≡ k.past
        by (inl lt) = (let a = apart k.past (omega arith) lt in let le = spared k.past (omega arith) lt a.0 a.1 in omega (arith, le, not_less))
        by (inr le) = omega (arith, le, not_less, within)

    -- it cuts a block
    module _ (deed : Deed) (c : ℕ) (may : MayCut i (w.hand c)) (are : FurtherAre deferred_word w.memory c (waiting_by deed)) (spared : Spared deed) (touched : Touched deed)
        (gone : (x : ℕ) → x ≡ c → 0 < times x (taken_of deed ++ left_by deed))
        (others : (x : ℕ) → x ≢ c → times x (waiting_by deed) ≡ 0 → (times x (taken_of deed) ≡ 0) × (times x (left_by deed) ≡ 0))
        (its : (waiting_by deed ≡ []) ⊎ ((times c f.back ≡ 0) × ((u : ℕ) × (f.chart.first ≤ u) × (u < f.chart.past) × (c ≡ table u)))) where
      -- a table that it cuts was in use
      in_use : (u : ℕ) → f.chart.first ≤ u → times c f.back ≡ 0 → c ≡ table u → k.past ≤ u
      in_use u from_u none is = by (cases_lt u k.past)
        where
          by : (u < k.past) ⊎ (k.past ≤ u) → k.past ≤ u
          by (inl lt) =
              let left = left_before same old.batch_size w i f k u from_u lt (ap (λ (x : ℕ). times x f.back) (sym is) ∙ none) in
              absurd (subst (MayCut i) (ap w.hand is ∙ left) may)
          by (inr le) = le

      no_table : (t : ℕ) → k.past ≤ t → t < f.chart.past → times (table t) (waiting_by deed) ≡ 0
      no_table t yet made = by its
        where
          by : (waiting_by deed ≡ []) ⊎ ((times c f.back ≡ 0) × ((u : ℕ) × (f.chart.first ≤ u) × (u < f.chart.past) × (c ≡ table u))) → times (table t) (waiting_by deed) ≡ 0
          by (inl none) = ap (times (table t)) none
          by (inr (none, (u, from_u, made_u, is))) =
              none_carried u (in_use u from_u none is) made_u (waiting_by deed) (subst (λ (x : ℕ). FurtherAre deferred_word w.memory x (waiting_by deed)) is are) t yet made

      advances : k.past < f.chart.past → c ≡ table k.past → Moves deed past2
      advances lt is = inr (by (cases_lt (suc k.past) past2), lt, subst (λ (x : ℕ). FurtherAre deferred_word w.memory x (waiting_by deed)) is are)
        where
          more : k.past < past2
          more = touched k.past (omega arith) lt (gone (table k.past) (sym is))

          by : (suc k.past < past2) ⊎ (past2 ≤ suc k.past) → past2 ≡ suc k.past
          by (inl far) =
              let made : suc k.past < f.chart.past = omega (arith, far, within) in
              let a = others (table (suc k.past)) (λ e. tables_apart k.past (omega arith) made (e ∙ is)) (no_table (suc k.past) (omega arith) made) in
              let le = spared (suc k.past) (omega arith) made a.0 a.1 in absurd (omega (arith, le, far))
          by (inr le) = omega (arith, le, more)

      rests : ((k.past < f.chart.past) → c ≢ table k.past) → Moves deed past2
      rests ne = inl (past_is, none its)
        where
          by : (k.past < f.chart.past) ⊎ (f.chart.past ≤ k.past) → past2 ≡ k.past
          by (inl lt) =
              let a = others (table k.past) (λ e. ne lt (sym e)) (no_table k.past (omega arith) lt) in
              let le = spared k.past (omega arith) lt a.0 a.1 in omega (arith, le, not_less)
          by (inr le) = omega (arith, le, not_less, within)

          past_is : past2 ≡ k.past
          past_is = by (cases_lt k.past f.chart.past)

          none : (waiting_by deed ≡ []) ⊎ ((times c f.back ≡ 0) × ((u : ℕ) × (f.chart.first ≤ u) × (u < f.chart.past) × (c ≡ table u))) → waiting_by deed ≡ []
          none (inl it) = it
          none (inr (zero_times, (u, from_u, made_u, is))) =
              let yet = in_use u from_u zero_times is in
              let lt = touched u yet made_u (gone (table u) (sym is)) in absurd (omega (arith, lt, yet, past_is))

      cuts : Moves deed past2
      cuts = by (cases_lt k.past f.chart.past) (cases_eq c (table k.past))
        where
          by : (k.past < f.chart.past) ⊎ (f.chart.past ≤ k.past) → (c ≡ table k.past) ⊎ (c ≢ table k.past) → Moves deed past2
          by (inl lt) (inl is) = advances lt is
          by (inl lt) (inr ne) = rests (λ l. ne)
          by (inr le) q = rests (λ l. absurd (omega (arith, l, le)))

    unlinked : (c : ℕ) (z : World (Node K V)) (further : List ℕ) → z.memory ≡ w.memory → FurtherAre deferred_word z.memory c further → FurtherAre deferred_word w.memory c further
    unlinked c z further is are = subst (λ (x : Mem (Node K V)). FurtherAre deferred_word x c further) is are

    -- what is left over with a pair
    pair_alone : (c : ℕ) (further : List ℕ) → FurtherAre deferred_word w.memory c further → IsPair w c → further ≡ []
    pair_alone c further are (key, value, is) =
        let one : Some are.0 ≡ Some (node.Pair key value) = sym are.1 ∙ is in
        let alike : are.0 ≡ node.Pair key value = cc one in
        let none : FurtherFrom w.memory c None further = subst (λ (z : Node K V). FurtherFrom w.memory c (deferred_word z) further) alike are.2 in none

    none_else : (x c : ℕ) → x ≢ c → times x (c ∷ []) ≡ 0
    none_else x c ne = times_other x c [] ne

    moves_by : (deed : Deed) → Runs deferred_word old.batch_size (events_of i deed) w did.w2 → Spared deed → Touched deed → Over deed → Moves deed past2
    moves_by Looks runs spared touched over = stays Looks refl spared (λ t yet made. (refl, refl))
    moves_by (TakesPair b) runs spared touched over =
        cuts (TakesPair b) b runs.1.0 (unlinked b runs.0 [] (ap (λ (z : World (Node K V)). z.memory) runs.1.1) runs.2.1.3) spared touched
        (λ x e. subst (λ (y : ℕ). 0 < times x (y ∷ [])) e (some_here x [])) (λ x ne none. (none_else x b ne, refl)) (inl refl)
    moves_by (LeavesTable b further) runs spared touched over =
        let are = unlinked b runs.0 further (ap (λ (z : World (Node K V)). z.memory) runs.1.1) runs.2.1.3 in
        cuts (LeavesTable b further) b runs.1.0 are spared touched
        (λ x e. subst (λ (y : ℕ). 0 < times x (y ∷ further)) e (some_here x further)) (λ x ne none. (refl, times_other x b further ne ∙ none))
        (elim (over b (some_here b further)) as (λ _. (further ≡ []) ⊎ ((times b f.back ≡ 0) × ((u : ℕ) × (f.chart.first ≤ u) × (u < f.chart.past) × (b ≡ table u)))) [
          | inl pair ↦ inl (pair_alone b further are pair)
          | inr it ↦ inr it
        ])
    moves_by (JoinsPair b word) runs spared touched over = stays (JoinsPair b word) refl spared (λ t yet made. (refl, refl))
    moves_by (TakesLeft b) runs spared touched over =
        stays (TakesLeft b) refl spared
        (λ t yet made. (none_else (table t) b (λ e. let left = runs.1.2 in let in_use = used t yet made in let same_hand = ap w.hand e in cc (left.1, in_use, same_hand)), refl))
    moves_by (TakesCounter b) runs spared touched over =
        stays (TakesCounter b) refl spared
        (λ t yet made. (none_else (table t) b (λ e. let making = runs.1.2 in let in_use = used t yet made in let same_hand = ap w.hand e in cc (making.1, in_use, same_hand)), refl))
    moves_by (WritesRoot place word) runs spared touched over = stays (WritesRoot place word) refl spared (λ t yet made. (refl, refl))

  -- where it goes on
  module _ (waits2 : List ℕ) (is_waits : waits2 ≡ f.waits ++ waiting_by did.deed) (size2 : ℕ)
      (k2 : FinishingFacts same size2 did.w2 i (record f { machine = end; back = f.back ++ taken_of did.deed; waits = waits2 })) where
    abbrev f2 : Finishing K V
    f2 = record f { machine = end; back = f.back ++ taken_of did.deed; waits = waits2 }

    within2 : (f.chart.first ≤ k2.past) × (k2.past ≤ f.chart.past)
    within2 = past_within same size2 did.w2 i f2 k2

    none_taken : (t : ℕ) → times (table t) (f.back ++ taken_of did.deed) ≡ 0 → times (table t) f.back ≡ 0
    none_taken t none = (let both = times-append (table t) f.back (taken_of did.deed) in omega (arith, both, none))

    -- no table is in use again
    not_less : k.past ≤ k2.past
    not_less = by (cases_lt k2.past k.past)
      where
        by : (k2.past < k.past) ⊎ (k.past ≤ k2.past) → k.past ≤ k2.past
        by (inl lt) =
            let made : k2.past < f.chart.past = (let bound = (past_within same old.batch_size w i f k).1 in omega (arith, bound, lt)) in
            let none = none_taken k2.past (yet_fresh same size2 did.w2 i f2 k2 k2.past (omega arith) made) in
            let then_used = yet_used same size2 did.w2 i f2 k2 k2.past (omega arith) made in
            let was = used_before same hash name m known s old new at whole kept.order i f here end said steps did of not_there comes (table k2.past) f.setting.counter then_used in
            let left = left_before same old.batch_size w i f k k2.past within2.0 lt none in
            absurd (cc (was, left))
        by (inr le) = le

    spared : (t : ℕ) → k.past ≤ t → t < f.chart.past → times (table t) (taken_of did.deed) ≡ 0 → times (table t) (left_by did.deed) ≡ 0 → k2.past ≤ t
    spared t yet made not_taken not_left = by (cases_lt t k2.past)
      where
        by : (t < k2.past) ⊎ (k2.past ≤ t) → k2.past ≤ t
        by (inl lt) =
            let both = times-append (table t) f.back (taken_of did.deed) in
            let none = fresh t yet made in
            let left = left_before same size2 did.w2 i f2 k2 t (from t yet made) lt (omega (arith, both, none, not_taken)) in
            let then_used = did.spares.hands (table t) not_taken not_left ∙ used t yet made in
            absurd (cc (left, then_used))
        by (inr le) = le

    touched : (t : ℕ) → k.past ≤ t → t < f.chart.past → 0 < times (table t) (taken_of did.deed ++ left_by did.deed) → t < k2.past
    touched t yet made some = by (cases_lt t k2.past)
      where
        by : (t < k2.past) ⊎ (k2.past ≤ t) → t < k2.past
        by (inl lt) = lt
        by (inr le) =
            let none = yet_fresh same size2 did.w2 i f2 k2 t le made in
            let both = times-append (table t) f.back (taken_of did.deed) in
            let parts = times-append (table t) (taken_of did.deed) (left_by did.deed) in
            let left = did.spares.left (table t) (omega (arith, none, both, parts, some)) in
            let then_used = yet_used same size2 did.w2 i f2 k2 t le made in
            absurd (cc (left, then_used))

    moves : Moves did.deed k2.past
    moves = moves_by k2.past not_less within2.1 did.deed did.runs spared touched did.done_to.over

    -- what waits is there
    there : (b : ℕ) → 0 < times b (f.waits ++ waiting_by did.deed) → IsSome (value_at did.w2.memory b)
    there b some =
        left_there old.batch_size did.w2 after b i
        (k2.facts.since.waits b (subst (λ (l : List ℕ). 0 < times b l) (sym is_waits ∙ k2.waits_are) some))

    old_noted : each_of known2.roles f.waits ≡ each_of role.Pair (waited_behind of first.deferred f.chart.first (k.past - f.chart.first))
    old_noted =
        noted_still known known2 f.waits (waited_behind of first.deferred f.chart.first (k.past - f.chart.first)) so.noted
        (λ b n some is. still_pair b n (there b (some_first b f.waits (waiting_by did.deed) some)) is)

    abbrev Noted : ℕ → List ℕ → Type 0
    Noted past2 waits = each_of known2.roles waits ≡ each_of role.Pair (waited_behind of first.deferred f.chart.first (past2 - f.chart.first))

    noted_by : Moves did.deed k2.past → Noted k2.past (f.waits ++ waiting_by did.deed)
    noted_by (inl (past_is, none)) =
        subst (λ (n : ℕ). Noted n (f.waits ++ waiting_by did.deed)) (sym past_is) (subst (λ (l : List ℕ). Noted k.past (f.waits ++ l)) (sym none) (subst (Noted k.past) (sym (append-nil f.waits)) old_noted))
    noted_by (inr (past_is, made, are)) =
        let further = waiting_by did.deed in
        let waited = waited_behind of first.deferred f.chart.first (k.past - f.chart.first) in
        let here_behind = behind (table_of of k.past) first.deferred in
        let yet : k.past ≤ k.past = omega arith in
        let theirs =
        noted_still known known2 further here_behind
        (kept.order (table k.past) (f.chart.len k.past) f.setting.counter (table_of of k.past) further (is_table k.past yet made) (used k.past yet made) are
        ∙ ap (λ (ns : List ℕ). each_of role.Pair ns) (waits_still k.past yet made))
        (λ b n some is. still_pair b n (there b (some_last b f.waits further some)) is) in
        let lower = (past_within same old.batch_size w i f k).0 in
        let sum : f.chart.first + (k.past - f.chart.first) ≡ k.past = omega (arith, lower) in
        let one_more : suc k.past - f.chart.first ≡ suc (k.past - f.chart.first) = omega (arith, lower) in
        let all_waited = one_waited of first.deferred f.chart.first (k.past - f.chart.first) ∙ ap (λ (u : ℕ). waited ++ behind (table_of of u) first.deferred) sum in
        subst (λ (n : ℕ). Noted n (f.waits ++ further)) (sym past_is)
        (each_two known2.roles f.waits further
        ∙ ap (λ (rs : List Role). rs ++ each_of known2.roles further) old_noted
        ∙ ap (λ (rs : List Role). each_of role.Pair waited ++ rs) theirs
        ∙ sym (each_two role.Pair waited here_behind)
        ∙ sym (ap (λ (ns : List ℕ). each_of role.Pair ns) all_waited)
        ∙ sym (ap (λ (tables : ℕ). each_of role.Pair (waited_behind of first.deferred f.chart.first tables)) one_more))

    still_then : (t : ℕ) → k2.past ≤ t → t < f.chart.past → behind (table_of of t) v.deferred ≡ behind (table_of of t) first.deferred
    still_then t le made =
        let yet : k.past ≤ t = (let more = not_less in omega (arith, more, le)) in
        let is2 = noted_then (table t) (yet_fresh same size2 did.w2 i f2 k2 t le made) ∙ notes.tables t (from t yet made) made in
        same_behind same hash name m known s old new at whole kept.order i f here end said steps did of not_there comes (table t) (f.chart.len t) (table_of of t) is2
        ∙ waits_still t yet made

    goes_so : WaitsSo of f.chart first v known2 k2.past waits2
    goes_so = record { noted = subst (Noted k2.past) (sym is_waits) (noted_by moves); still = still_then }

  pub waits_go : ReportsWaiting same of i (record f { machine = end; back = f.back ++ taken_of did.deed; waits = f.waits ++ waiting_by did.deed }) first v known2 did.w2
  waits_go size2 k2 = goes_so (f.waits ++ waiting_by did.deed) refl size2 k2

  -- where it is over all tables were left over
  module _ (none : taken_of did.deed ≡ []) (finished : HasFinished did.w2.memory f) where
    all_back : (u : ℕ) → f.chart.first ≤ u → u < f.chart.past → 0 < times (table u) f.back
    all_back u from_u made =
        subst (λ (l : List ℕ). 0 < times (table u) l) (sym finished.back_is)
        (some_last (table u) (each_of f.blocks.pair (pairs_of (is_incremental f.setting.mode) f.chart)) (from_table f.setting f.chart f.blocks (λ t. []) false f.chart.first)
        (table_later f.setting f.chart f.blocks (λ t. []) false u f.chart.first from_u made))

    past_all : k.past ≡ f.chart.past
    past_all = by (cases_lt k.past f.chart.past)
      where
        by : (k.past < f.chart.past) ⊎ (f.chart.past ≤ k.past) → k.past ≡ f.chart.past
        by (inl lt) =
            let yet : k.past ≤ k.past = omega arith in
            let some = all_back k.past (from k.past yet lt) lt in
            let zero_times = fresh k.past yet lt in absurd (omega (arith, some, zero_times))
        by (inr le) = (let bound = (past_within same old.batch_size w i f k).1 in omega (arith, le, bound))

    pub waits_over : ReportsLeft of f.chart first known2 f.waits
    waits_over =
        subst (λ (p : ℕ). each_of known2.roles f.waits ≡ each_of role.Pair (waited_behind of first.deferred f.chart.first (p - f.chart.first))) past_all
        (noted_still known known2 f.waits (waited_behind of first.deferred f.chart.first (k.past - f.chart.first)) so.noted
        (λ b n some is. still_pair b n
        (subst (λ (p : Option (Node K V)). IsSome p) (sym (did.spares.values b (ap (times b) none)))
        (left_there old.batch_size w its_first b i (k.facts.since.waits b (subst (λ (l : List ℕ). 0 < times b l) k.waits_are some)))) is))

  -- by what it says
  pub waits_said : ReportsThen same of i f (is_done said) end did.deed first v known2 did.w2
  waits_said = by said comes
    where
      by : (t : Settled (Node K V)) → EndingHasOutcome same hash s new i f end did.w2 did.deed t → ReportsThen same of i f (is_done t) end did.deed first v known2 did.w2
      by settled.Goes c = waits_go
      by settled.Waits c = absurd c
      by (settled.Gave value) c = waits_go
      by settled.Done c = waits_over c.0 c.1

-- As the end begins nothing is left over.
pub waits_begin : {K V : Type 0} (same : K → K → Bool) (map i : ℕ) (standing : Standing K) (m : Moment K V) (known : Known) (w0 w : World (Node K V))
    → ReportsWaiting same map i (finishing_of standing w0) m m known w
waits_begin same map i standing m known w0 w size k =
    let is = k.facts.point.0 in
    let none : k.past - standing.chart.first ≡ 0 = omega (arith, is) in
    record { noted = sym (ap (λ (tables : ℕ). each_of role.Pair (waited_behind map m.deferred standing.chart.first tables)) none); still = λ t yet made. refl }
