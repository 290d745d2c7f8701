-- A step of a call, whoever's: what calls on whole maps have come to then.
use Rattle.std.specs.Prelude.{◌≡◌, ◌≢◌, ℕ, ◌<◌, ◌≤◌, Bool, List, [], ◌∷◌, Option, Some, ◌⊎◌}
use Rattle.std.specs.List.{AllByRecursion}
use Rattle.std.proofs.Common.{refl, ap, sym, subst, ◌∙◌, arith, inl, inr}
use Rattle.std.proofs.lemmas.Bool.{cases_eq}
use Rattle.run_finds.specs.Given.SeizeWorld.{with_at}
use Rattle.run_finds.specs.Given.TablesChunks.{is_incremental}
use Rattle.run_finds.specs.Given.TablesDeclared.node.Node.{Node}
use Rattle.run_finds.specs.Given.ReservesDeclared.reserve.Reserve.{Reserve}
use Rattle.run_finds.specs.Given.ReservesDeclared.reserve.Reserving.{Reserving}
use Rattle.run_finds.specs.Given.ReservesDeclared.reserve.Reserving.TheVariants as reserving
use Rattle.run_finds.specs.Given.ReservesDeclared.sweep.Purpose.TheVariants.{Walks}
use Rattle.run_finds.specs.Given.RawDeclared.machines.machine.Machine.{Machine}
use Rattle.run_finds.specs.Given.RawDeclared.machines.machine.Machine.TheVariants as kinds
use Rattle.run_finds.specs.Given.RawDeclared.machines.progress.Progress.{Progress}
use Rattle.run_finds.specs.Given.RunsDeclared.call.Call.{Call}
use Rattle.run_finds.specs.Given.SchedulesMoment.{UnderWay as CallThere, Moment}
use Rattle.run_finds.specs.Given.SchedulesViews.{call_of, is_in_map, finite_map}
use Rattle.run_finds.specs.Given.RuleChart.{Chart}
use Rattle.run_finds.specs.Given.RuleMaps.{spot_of}
use Rattle.run_finds.specs.Given.CallersOverAll.{CallOverAll, come_to, gone_on}
use Rattle.run_finds.specs.Given.CallersRooms.{CallForRoom}
use Rattle.run_finds.specs.Given.CallersSights.{seen_by}
use Rattle.run_finds.specs.Given.CallersTogether.{UnderWay, OnKey, ForRoom, Counting, OverAll}
use Rattle.run_finds.proofs.Given.CallersTogether.At.{at_same}
use Rattle.run_finds.specs.Given.FinishesMachines.{machine_of}
use Rattle.run_finds.specs.Given.FinishesMaps.{Standing}
use Rattle.run_finds.specs.Given.EffectsEffects.{effects_of}
use Rattle.run_finds.specs.Given.EffectsKnown.{Known}
use Rattle.run_finds.specs.Given.EffectsDeclared.acting.Acting.TheVariants as acts
use Rattle.run_finds.specs.Given.FollowsShows.{Refines}
use Rattle.run_finds.proofs.Given.FollowsCalled.{key_goes_on, room_goes_on, sweep_goes_on, counting_goes_on}
use Rattle.run_finds.proofs.Given.FollowsSteps.{WentTo, DidSo, LeadsThere}
use Rattle.run_finds.specs.Given.MomentsWhole.{RefinesWhole}
use Rattle.run_finds.proofs.Given.MomentsOnSlots.{stood_same}
use Rattle.run_finds.specs.Given.ChangesHistories.{since, IsWithin}
use Rattle.run_finds.specs.Given.ChangesKept.{ChangesFirst}
use Rattle.run_finds.proofs.Given.ChangesLater.{IsLater}
use Rattle.run_finds.proofs.Given.ChangesSteps.{to, led_on, v, after, s2, maps_later, now_then, same_elsewhere}
use Rattle.run_finds.proofs.Given.ChangesWithin.{within_on}
use Rattle.run_finds.proofs.Given.HistoriesNoKey.Sweeps.{SweepsOn, sweeps_on}
use Rattle.run_finds.specs.Purposes.Keys.{KeysAt, AreKeyed}
use Rattle.run_sweeps.specs.Purposes.Kept.{ShowsNone, PairsChangeFirst}
use Rattle.run_finds.specs.Reserving.{ReservesAt}
use Rattle.run_finds.specs.Purposes.Needs.{NeedsAt}
use Rattle.run_finds.specs.Purposes.Purposes.{IsFor, PairsWithin, HasAdded, RoomAt, HasMet, KeysOf, HasSwept, HasCome, RefinesPurposes}
use Rattle.run_finds.specs.Given.NamedMachines.{IsBefore}
use Rattle.run_finds.specs.Purposes.Shards.{ReadsShards}
use Rattle.run_sweeps.proofs.Purposes.Alike.{alike}
use Rattle.run_sweeps.proofs.Purposes.Counts.{counts_on}
use Rattle.run_sweeps.proofs.Purposes.Done.{done_is, Comes, next_tells, next_below, tells_kept}
use Rattle.run_sweeps.proofs.Purposes.For.{key_is_for, room_for, counting_for, sweep_for}
use Rattle.run_sweeps.proofs.Purposes.KeysCarried.{keys_kept}
use Rattle.run_sweeps.proofs.Purposes.KeysMoved.{stands_moved, none_shown, carried, keyed_then}
use Rattle.run_sweeps.proofs.Purposes.Lists.{all_on}
use Rattle.run_sweeps.proofs.Purposes.Onward.{before_or, walk_stands, GoesOver, walk_onward}
use Rattle.run_sweeps.proofs.Purposes.Over.{within_over, come_over}
use Rattle.run_sweeps.proofs.Purposes.Present.{now_stored, now_there, absent}
use Rattle.run_finds.proofs.Purposes.RoomFacts.{room_later}
use Rattle.run_finds.proofs.Purposes.RoomPoints.{LedAt}
use Rattle.run_finds.proofs.Purposes.RoomSteps.{EndsSo, room_goes, room_keeps}
use Rattle.run_sweeps.proofs.Purposes.Rooms.{IsForRoom, room_kept}
use Rattle.run_sweeps.proofs.Purposes.Shown.{IsStill, effects_still}
use Rattle.run_finds.specs.Given.ScenesHeld.{Held, IsAt}
use Rattle.run_finds.specs.Given.ScenesScene.{Scene, slot_of}
use Rattle.run_finds.specs.Given.ScenesStepping.{StepLeads, StepsFrom}
use Rattle.run_finds.specs.Given.SchedulesTransition.{Past}
use Rattle.run_finds.proofs.Given.General.{same_some as one_of}

module _ {K V : Type 0} (same : K → K → Bool) (hash : ℕ → K → ℕ) (name : ℕ → List ℕ) (log : Past K V) (m : Moment K V) (known : Known) (s : Scene K V) (old new : Held K V)
    (at : IsAt same hash old s) (whole : RefinesWhole same name m known s) (purposes : RefinesPurposes same name log m known s) (of i : ℕ) (u : UnderWay K V K) (here : s.calls of i ≡ Some u)
    (said : Progress (Node K V)) (leads : StepLeads same hash i said s old new) where
  abbrev shown : Refines same name m known s
  shown = purposes.shown

  abbrev pub went : WentTo same hash name m known s old new at shown of i u here said leads
  went = to same hash name m known s old new at whole shown of i u here said leads

  abbrev pub on : LeadsThere same hash name m known s old new at shown of i u here said leads
  on = led_on same hash name m known s old new at whole shown of i u here said leads

  abbrev pub v2 : Moment K V
  v2 = v same hash name m known s old new at whole shown of i u here said leads

  abbrev pub known2 : Known
  known2 = after same hash name m known s old new at whole shown of i u here said leads

  abbrev pub scene2 : Scene K V
  scene2 = s2 same hash name m known s old new at whole shown of i u here said leads

  abbrev pub Did : UnderWay K V K → Type 0
  Did x = DidSo same hash name m known s old new at shown of i u here said leads x

  -- a call that is there then is the one that was there
  pub same_call : (j : ℕ) (c d : CallThere K V) → call_of (name j) m ≡ Some c → call_of (name j) v2 ≡ Some d → IsStill c d
  same_call j c d c_is d_is = effects_still (name i) of (name j) (effects_of (acts.Call i of) known new.changed) m c d c_is d_is

  pub before_then : (n : ℕ) (st : Standing K) → scene2.maps n ≡ Some st → (before : Standing K) × (s.maps n ≡ Some before) × IsLater before.chart st.chart
  before_then n st there = maps_later same hash name m known s old new at whole shown of i u here said leads n st there

  -- the root has not gone back
  pub first_then : (n : ℕ) (st : Standing K) (there : scene2.maps n ≡ Some st) → (before_then n st there).0.chart.first ≤ st.chart.first
  first_then n st there =
      let before = before_then n st there in
      let stood = on.stood n before.0 before.1 in
      subst (λ (x : Standing K). before.0.chart.first ≤ x.chart.first) (one_of stood.0 st (sym stood.1 ∙ there)) stood.2.first

  -- the call of this caller on this map is what goes on
  pub its_next : scene2.calls of i ≡ went.4.next
  its_next = ap (λ (f : ℕ → Option (UnderWay K V K)). f i) (at_same s.calls of (with_at (s.calls of) i went.4.next) of refl) ∙ at_same (s.calls of) i went.4.next i refl

  module _ (changes : PairsChangeFirst log m of v2) where
    elsewhere : (n : ℕ) → n ≢ of → (st : Standing K) → scene2.maps n ≡ Some st → (q : ℕ) → is_in_map n (v2.place q) ≡ is_in_map n (m.place q)
    elsewhere n ne st there q =
        let it = stood_same (s.maps n) (went.4.maps2 n) (went.4.others n ne) st there in
        alike n m v2 known known2 it.0 st (shown.number n) (on.shows.number n) (shown.maps n it.0 it.1).pairs (on.shows.maps n st there).pairs
        (ap (λ (c : Chart K). c.stored) it.2) (ap (λ (c : Chart K). c.current) it.2) (on.numbers n it.0 it.1) q

    changes_then : (n : ℕ) (st : Standing K) → scene2.maps n ≡ Some st → PairsChangeFirst log m n v2
    changes_then n st there q = elim (cases_eq n of) as (λ _. (is_in_map n (v2.place q) ≡ is_in_map n (m.place q)) ⊎ (is_in_map n (m.place q) ≡ is_in_map n (log.now.place q))) [
      | inl e ↦ subst (λ (z : ℕ). (is_in_map z (v2.place q) ≡ is_in_map z (m.place q)) ⊎ (is_in_map z (m.place q) ≡ is_in_map z (log.now.place q))) (sym e) (changes q)
      | inr ne ↦ inl (elsewhere n ne st there q)
    ]

    class_changes : ChangesFirst log m same of v2 → (n : ℕ) (st : Standing K) → scene2.maps n ≡ Some st → ChangesFirst log m same n v2
    class_changes first n st there k =
        elim (cases_eq n of) as (λ _. (finite_map same n v2 k ≡ finite_map same n m k) ⊎ (finite_map same n m k ≡ finite_map same n log.now k)) [
          | inl e ↦ subst (λ (z : ℕ). (finite_map same z v2 k ≡ finite_map same z m k) ⊎ (finite_map same z m k ≡ finite_map same z log.now k)) (sym e) (first k)
          | inr ne ↦ inl (same_elsewhere same hash name m known s old new at whole shown of i u here said leads n ne st there k)
        ]

    -- what lasts of a call lasts so
    module _ (n j : ℕ) (y : UnderWay K V K) (y_is : s.calls n j ≡ Some y) (st : Standing K) (there : scene2.maps n ≡ Some st) (c d : CallThere K V) (c_is : call_of (name j) m ≡ Some c)
        (d_is : call_of (name j) v2 ≡ Some d) where
      abbrev pub before_st : Standing K
      before_st = (before_then n st there).0

      pub had_come : HasCome same n before_st (shown.number n) log m y c
      had_come = purposes.come n j y y_is before_st (before_then n st there).1 c c_is

      pub within_then : (began : ℕ) → PairsWithin n before_st (shown.number n) (since log m c) began → PairsWithin n st (on.shows.number n) (since log v2 d) began
      within_then =
          within_over same n before_st st (shown.number n) (on.shows.number n) (before_then n st there).2 (first_then n st there) (on.numbers n before_st (before_then n st there).1) log purposes.past m v2 c d
          (same_call j c d c_is d_is) (purposes.begun n j y y_is c c_is) (changes_then n st there) (now_stored same hash name v2 known2 scene2 new went.5 on.shows n st there)
          (now_there same hash name v2 known2 scene2 new went.5 on.shows n st there)
          (absent same hash name m known s old at shown n before_st (before_then n st there).1 (on.shows.number n) st.chart.stored (on.shows.maps n st there).pairs.rising
          (on.numbers n before_st (before_then n st there).1))

      -- class by class, too
      pub classes_then : ChangesFirst log m same of v2 → (began : ℕ) → IsWithin same n before_st (shown.number n) (since log m c) began → IsWithin same n st (on.shows.number n) (since log v2 d) began
      classes_then changes began within =
          subst (λ (b : ℕ). IsWithin same n st (on.shows.number n) (v2 ∷ log.since b) began) (sym (same_call j c d c_is d_is).begun)
          (within_on same n before_st st (shown.number n) (on.shows.number n) (before_then n st there).2 (on.numbers n before_st (before_then n st there).1) log purposes.past m v2 c.begun
          (purposes.begun n j y y_is c c_is) (class_changes changes n st there) (now_then same hash name m known s old new at whole shown of i u here said leads n st there) began within)

      -- of a call that is another one's
      pub kept_come : ChangesFirst log m same of v2 → HasCome same n st (on.shows.number n) log v2 y d
      kept_come class_first =
          come_over same n before_st st (shown.number n) (on.shows.number n) (before_then n st there).2 (first_then n st there) (on.numbers n before_st (before_then n st there).1) log purposes.past m v2 c d
          (same_call j c d c_is d_is) (purposes.begun n j y y_is c c_is) (changes_then n st there) (now_stored same hash name v2 known2 scene2 new went.5 on.shows n st there)
          (now_there same hash name v2 known2 scene2 new went.5 on.shows n st there)
          (absent same hash name m known s old at shown n before_st (before_then n st there).1 (on.shows.number n) st.chart.stored (on.shows.maps n st there).pairs.rising
          (on.numbers n before_st (before_then n st there).1)) y keys_other (classes_then class_first) had_come
        where
          keys_other : (o : CallOverAll) → y ≡ OverAll o → HasSwept same n before_st (shown.number n) (since log m c) o c → o.sweep.purpose ≡ Walks → KeysOf same st o
          keys_other o is h walks =
              keys_kept same i before_st st (stands_moved same hash name m known s old new at whole shown of i u here said leads n st before_st there (before_then n st there).1)
              (at.together.makings.standing.fit n before_st (before_then n st there).1).0 (at.together.makings.standing.fit n before_st (before_then n st there).1).1 slot_of s.world (s.calls n)
              (at.together.makings.standing.each n before_st (before_then n st there).1) j o (y_is ∙ ap Some is) h.within.stored h.stored (h.keys walks)

    -- a sweep, the caller's own
    module _ (o : CallOverAll) (o_is : s.calls of i ≡ Some (OverAll o)) (st : Standing K) (there : scene2.maps of ≡ Some st) (c d : CallThere K V) (c_is : call_of (name i) m ≡ Some c)
        (d_is : call_of (name i) v2 ≡ Some d) where
      abbrev pub its_before : Standing K
      its_before = before_st of i (OverAll o) o_is st there c d c_is d_is

      pub had : HasSwept same of its_before (shown.number of) (since log m c) o c
      had = had_come of i (OverAll o) o_is st there c d c_is d_is

      pub own_within : PairsWithin of st (on.shows.number of) (since log v2 d) o.began
      own_within = within_then of i (OverAll o) o_is st there c d c_is d_is o.began had.within

      pub below_then : (done : List ℕ) → AllByRecursion (λ k. k < its_before.chart.stored) done → AllByRecursion (λ k. k < st.chart.stored) done
      below_then done below =
          all_on (λ k. k < its_before.chart.stored) (λ k. k < st.chart.stored) (λ k l. (let g = (before_then of st there).2.stored in omega (arith, l, g))) done below

      -- that has done what it had done, or nothing, where it does not go over a table yet
      sweep_come : ChangesFirst log m same of v2 → (x : CallOverAll) → x.began ≡ o.began → Comes o x.done (shown.number of) c → (x.sweep.purpose ≡ Walks → IsBefore x.sweep.stands → x.done ≡ [])
          → (x.sweep.purpose ≡ Walks → KeysOf same st x) → HasSwept same of st (on.shows.number of) (since log v2 d) x d
      sweep_come class_first x began comes none keys =
          let below = next_below o x.done (shown.number of) c its_before.chart.stored comes had.stored in
          record {
            within = subst (PairsWithin of st (on.shows.number of) (since log v2 d)) (sym began) own_within;
            stored = below_then x.done below;
            tells = tells_kept (shown.number of) (on.shows.number of) its_before.chart.stored (on.numbers of its_before (before_then of st there).1) c d (same_call i c d c_is d_is) x.done below
                (next_tells o x.done (shown.number of) c c.call (purposes.is_for of i (OverAll o) o_is c c_is) had.none comes had.tells);
            none = none;
            keys = keys;
            classes = subst (IsWithin same of st (on.shows.number of) (since log v2 d)) (sym began)
                (classes_then of i (OverAll o) o_is st there c d c_is d_is class_first o.began had.classes);
          }

      same_purpose : StepsFrom same went.0.hash (machine_of (OverAll o)) old new went.1 said → (x : CallOverAll) → went.1 ≡ machine_of (OverAll x) → x.sweep.purpose ≡ o.sweep.purpose
      same_purpose steps x is = (subst (λ (z : Machine K V K). SweepsOn o.sweep.purpose (z, said)) is (sweeps_on same went.0.hash old new o.sweep went.1 said steps)).0

      -- it has come to more by key
      keys_on : ShowsNone said → StepsFrom same went.0.hash (machine_of (OverAll o)) old new went.1 said → (x : CallOverAll) → went.1 ≡ machine_of (OverAll x) → x.began ≡ o.began
          → Comes o x.done (shown.number of) c → x.sweep.purpose ≡ Walks → KeysOf same st x
      keys_on none steps x is began comes walks =
          subst (λ (b : ℕ). KeysAt same (spot_of st.hash) (is_incremental st.setting.mode) st.chart b x.sweep x.done x.sweep.stands × AreKeyed st.chart x.done) (sym began)
          (subst (λ (done : List ℕ). KeysAt same (spot_of st.hash) (is_incremental st.setting.mode) st.chart o.began x.sweep done x.sweep.stands × AreKeyed st.chart done) (sym same_done) (
            carried same hash name m known s old new at whole shown of i u here said leads o o_is walked steps (its.keys walked) (its.none walked) its.within.stored st there x.sweep o.done its.stored
                (none_shown same hash name m known s old new at whole shown of i u here said leads o o_is walked steps (its.keys walked) (its.none walked) none x.sweep is),
            keyed_then same hash name m known s old new at whole shown of i u here said leads o o_is walked steps (its.keys walked) (its.none walked) st there o.done its.stored (its.keys walked).1,
          ))
        where
          its : HasSwept same of went.0 (shown.number of) (since log m c) o c
          its = purposes.come of i (OverAll o) o_is went.0 went.2 c c_is

          walked : o.sweep.purpose ≡ Walks
          walked = sym (same_purpose steps x is) ∙ walks

          same_done : x.done ≡ o.done
          same_done = elim comes as (λ _. x.done ≡ o.done) [
            | inl at_first ↦ at_first.1 ∙ sym (its.none walked at_first.0)
            | inr kept ↦ kept
          ]

      -- a walk that goes over its table does so on
      none_on : StepsFrom same went.0.hash (machine_of (OverAll o)) old new went.1 said → (x : CallOverAll) → went.1 ≡ machine_of (OverAll x) → Comes o x.done (shown.number of) c
          → x.sweep.purpose ≡ Walks → IsBefore x.sweep.stands → x.done ≡ []
      none_on steps x is comes walks before = by (before_or o.sweep.stands) comes
        where
          purpose : x.sweep.purpose ≡ o.sweep.purpose
          purpose = same_purpose steps x is

          goes_over : (IsBefore o.sweep.stands → ⊥) → IsBefore x.sweep.stands → ⊥
          goes_over over =
              subst (λ (z : Machine K V K). GoesOver (z, said)) is
              (walk_onward same went.0.hash old new o.sweep went.1 said steps (sym purpose ∙ walks)
              (walk_stands V same went.0.hash went.0.setting slot_of s.world went.0.chart _ i o ((at.together.makings.standing.each of went.0 went.2).stand i (OverAll o) o_is) (sym purpose ∙ walks) over) over)

          by : IsBefore o.sweep.stands ⊎ (IsBefore o.sweep.stands → ⊥) → Comes o x.done (shown.number of) c → x.done ≡ []
          by (inl b) (inl at_first) = at_first.1
          by (inl b) (inr kept) = kept ∙ had.none (sym purpose ∙ walks) b
          by (inr over) so = absurd (goes_over over before)

      pub own_sweep : ChangesFirst log m same of v2 → ShowsNone said → StepsFrom same went.0.hash (machine_of (OverAll o)) old new went.1 said → (x : CallOverAll) → went.1 ≡ machine_of (OverAll x) → x.began ≡ o.began
          → Comes o x.done (shown.number of) c → HasSwept same of st (on.shows.number of) (since log v2 d) x d
      own_sweep class_first none steps x is began comes = sweep_come class_first x began comes (none_on steps x is comes) (keys_on none steps x is began comes)

    -- a reservation, the caller's own
    module _ (r : CallForRoom) (r_is : s.calls of i ≡ Some (ForRoom r)) (reads : ReadsShards log m s of (ForRoom r)) (steps : StepsFrom same went.0.hash (machine_of (ForRoom r)) old new went.1 said)
        (p2 : Reserve) (machine_is : went.1 ≡ kinds.Reserve p2) (goes : went.4.next ≡ Some (ForRoom (record { began = r.began; reserve = p2 }))) (st : Standing K) (there : scene2.maps of ≡ Some st)
        (c d : CallThere K V) (c_is : call_of (name i) m ≡ Some c) (d_is : call_of (name i) v2 ≡ Some d) where
      abbrev r2 : CallForRoom
      r2 = record { began = r.began; reserve = p2 }

      begun : c.begun ≤ log.entries
      begun = purposes.begun of i (ForRoom r) r_is c c_is

      met : HasMet of went.0 (log.since c.begun) r
      met = purposes.come of i (ForRoom r) r_is went.0 went.2 c c_is

      root : met.low ≤ st.chart.first
      root =
          let before = before_then of st there in
          let l = met.root in
          let same_before : went.0.chart.first ≡ before.0.chart.first = ap (λ (x : Standing K). x.chart.first) (one_of went.0 before.0 (sym went.2 ∙ before.1)) in
          let on_it = first_then of st there in omega (arith, l, same_before, on_it)

      abbrev ItsEnds : Type 0
      ItsEnds = EndsSo same hash log purposes.past m s old new at of i r r_is went.0 went.2 c begun reads met went.1 said steps

      led : LedAt of (log.since c.begun) met.low ItsEnds p2.stands
      led = room_goes same hash log purposes.past m s old new at of i r r_is went.0 went.2 c begun reads met went.1 said steps went.4.next went.4.goes_on (ForRoom r2) goes p2 machine_is

      point : (stands : Reserving) → p2.stands ≡ stands → LedAt of (log.since c.begun) met.low ItsEnds stands → RoomAt of (log.since c.begun) met.low stands
      point reserving.Reads is h = h
      point (reserving.Makes making) is h = h
      point (reserving.Sums table sum) is h = h
      point (reserving.Follows table need) is h = h
      point (reserving.Grows table making) is h = h
      point (reserving.Copies copier) is (source, inl target) = (source, target)
      point (reserving.Copies copier) is (source, inr told) = (
        source,
        (let later = room_later V same st.hash st.setting slot_of scene2.world st.chart (seen_by st.blocks (st.sights (slot_of i))) i r2
            ((went.5.together.makings.standing.each of st there).stand i (ForRoom r2) (its_next ∙ goes)) copier is told in omega (arith, source, later)),
      )
      point reserving.Over is h = h
      point (reserving.Refused fault) is h = h

      keeps : ReservesAt of (log.since c.begun) p2 p2.stands × NeedsAt of (log.since c.begun) p2 p2.stands
      keeps = room_keeps same hash log purposes.past m s old new at of i r r_is went.0 went.2 c begun reads met went.1 said steps p2 machine_is

      own_room : HasMet of st (log.since d.begun) r2
      own_room =
          subst (λ (b : ℕ). HasMet of st (log.since b) r2) (sym (same_call i c d c_is d_is).begun) (record {
            low = met.low;
            was = met.was;
            root = root;
            point = point p2.stands refl led;
            reserves = keeps.0;
            needs = keeps.1;
          })

    -- the caller's own
    pub own_come : ChangesFirst log m same of v2 → ShowsNone said → (y : UnderWay K V K) → s.calls of i ≡ Some y → ReadsShards log m s of y → StepsFrom same went.0.hash (machine_of y) old new went.1 said → Did y
        → (x : UnderWay K V K) → went.4.next ≡ Some x → (st : Standing K) → scene2.maps of ≡ Some st → (c d : CallThere K V) → call_of (name i) m ≡ Some c → call_of (name i) v2 ≡ Some d
        → HasCome same of st (on.shows.number of) log v2 x d
    own_come class_first none (OnKey z) y_is its steps (p2, end, machine_is, told_is, inl (step, moved)) x e st there c d c_is d_is =
        subst (λ (y : UnderWay K V K). HasCome same of st (on.shows.number of) log v2 y d) (sym (key_goes_on _ end x (sym moved.2 ∙ e))) tt
    own_come class_first none (OnKey z) y_is its steps (p2, end, machine_is, told_is, inr (row, stayed)) x e st there c d c_is d_is =
        subst (λ (y : UnderWay K V K). HasCome same of st (on.shows.number of) log v2 y d) (sym (key_goes_on _ end x (sym stayed.2 ∙ e))) tt
    own_come class_first none (ForRoom r) y_is its steps (p2, end, machine_is, told_is, inl (step, moved)) x e st there c d c_is d_is =
        subst (λ (y : UnderWay K V K). HasCome same of st (on.shows.number of) log v2 y d) (sym (room_goes_on _ end x (sym moved.2 ∙ e)))
        (own_room r y_is its steps p2 machine_is (e ∙ ap Some (room_goes_on _ end x (sym moved.2 ∙ e))) st there c d c_is d_is)
    own_come class_first none (ForRoom r) y_is its steps (p2, end, machine_is, told_is, inr (row, stayed)) x e st there c d c_is d_is =
        subst (λ (y : UnderWay K V K). HasCome same of st (on.shows.number of) log v2 y d) (sym (room_goes_on _ end x (sym stayed.2 ∙ e)))
        (own_room r y_is its steps p2 machine_is (e ∙ ap Some (room_goes_on _ end x (sym stayed.2 ∙ e))) st there c d c_is d_is)
    own_come class_first none (Counting sum) y_is its steps (sum2, end, machine_is, told_is, still, stayed) x e st there c d c_is d_is =
        let before = before_then of st there in
        subst (λ (y : UnderWay K V K). HasCome same of st (on.shows.number of) log v2 y d) (sym (counting_goes_on sum2 end x (sym stayed.2 ∙ e)))
        (subst (λ (b : ℕ). HasAdded of (log.since b) sum2.setting.mask sum2.stands) (sym (same_call i c d c_is d_is).begun)
        (counts_on same hash log purposes.past m s old new at of i sum y_is went.0 went.2 c (purposes.begun of i (Counting sum) y_is c c_is) (its tt).0 (its tt).1
        (purposes.come of i (Counting sum) y_is before.0 before.1 c c_is) went.1 said steps went.4.next went.4.goes_on x e sum2 machine_is))
    own_come class_first none (OverAll o) y_is its steps (p2, end, machine_is, told_is, inl (step, moved)) x e st there c d c_is d_is =
        subst (λ (y : UnderWay K V K). HasCome same of st (on.shows.number of) log v2 y d) (sym (sweep_goes_on _ end x (sym moved.2 ∙ e)))
        (own_sweep o y_is st there c d c_is d_is class_first none steps (come_to o step.step.entered2 step.step.done2 p2) machine_is refl
        (by (done_is went.0.hash step.step.went.c2 step.step.went.blocks2 o.done step.step.done2 o.entered step.step.entered2 end (subst ShowsNone told_is none) o.sweep.stands step.step.done)))
      where
        by : (IsBefore o.sweep.stands × (step.step.done2 ≡ [])) ⊎ ((step.step.entered2 ≡ o.entered) × (step.step.done2 ≡ o.done)) → Comes o step.step.done2 (shown.number of) c
        by (inl at_first) = inl at_first
        by (inr kept) = inr kept.1
    own_come class_first none (OverAll o) y_is its steps (p2, end, machine_is, told_is, inr (row, stayed)) x e st there c d c_is d_is =
        subst (λ (y : UnderWay K V K). HasCome same of st (on.shows.number of) log v2 y d) (sym (sweep_goes_on _ end x (sym stayed.2 ∙ e)))
        (own_sweep o y_is st there c d c_is d_is class_first none steps (gone_on o p2) machine_is refl (inr refl))

  -- and it is for what it was for
  pub own_for : (its : Call K V) (y : UnderWay K V K) → IsFor y its → StepsFrom same went.0.hash (machine_of y) old new went.1 said → Did y → (x : UnderWay K V K) → went.4.next ≡ Some x → IsFor x its
  own_for its (OnKey z) is steps (p2, end, machine_is, told_is, inl (step, moved)) x e = key_is_for its z _ x (key_goes_on _ end x (sym moved.2 ∙ e)) is
  own_for its (OnKey z) is steps (p2, end, machine_is, told_is, inr (row, stayed)) x e = key_is_for its z _ x (key_goes_on _ end x (sym stayed.2 ∙ e)) is
  own_for its (ForRoom r) is steps (p2, end, machine_is, told_is, inl (step, moved)) x e =
      subst (λ (y : UnderWay K V K). IsFor y its) (sym (room_goes_on _ end x (sym moved.2 ∙ e)))
      (room_for its r (record { began = r.began; reserve = p2 }) (subst (λ (z : Machine K V K). IsForRoom r.reserve.additional (z, said)) machine_is (room_kept same went.0.hash old new r.reserve went.1 said steps)) is)
  own_for its (ForRoom r) is steps (p2, end, machine_is, told_is, inr (row, stayed)) x e =
      subst (λ (y : UnderWay K V K). IsFor y its) (sym (room_goes_on _ end x (sym stayed.2 ∙ e)))
      (room_for its r (record { began = r.began; reserve = p2 }) (subst (λ (z : Machine K V K). IsForRoom r.reserve.additional (z, said)) machine_is (room_kept same went.0.hash old new r.reserve went.1 said steps)) is)
  own_for its (Counting sum) is steps (sum2, end, machine_is, told_is, still, stayed) x e =
      subst (λ (y : UnderWay K V K). IsFor y its) (sym (counting_goes_on sum2 end x (sym stayed.2 ∙ e))) (counting_for its sum sum2 is)
  own_for its (OverAll o) is steps (p2, end, machine_is, told_is, inl (step, moved)) x e =
      subst (λ (y : UnderWay K V K). IsFor y its) (sym (sweep_goes_on _ end x (sym moved.2 ∙ e)))
      (sweep_for its o (come_to o step.step.entered2 step.step.done2 p2)
      (subst (λ (z : Machine K V K). SweepsOn o.sweep.purpose (z, said)) machine_is (sweeps_on same went.0.hash old new o.sweep went.1 said steps)).0 is)
  own_for its (OverAll o) is steps (p2, end, machine_is, told_is, inr (row, stayed)) x e =
      subst (λ (y : UnderWay K V K). IsFor y its) (sym (sweep_goes_on _ end x (sym stayed.2 ∙ e)))
      (sweep_for its o (gone_on o p2) (subst (λ (z : Machine K V K). SweepsOn o.sweep.purpose (z, said)) machine_is (sweeps_on same went.0.hash old new o.sweep went.1 said steps)).0 is)
