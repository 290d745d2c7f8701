-- An event that makes a map keeps its promises, and a run goes on with it, whether the map was made or its making was refused.
use Rattle.std.specs.Prelude.{◌≡◌, ◌≤◌, ◌⊎◌, ◌==◌, ◌<◌, ◌+◌, ◌-◌, ◌^◌, ◌++◌, if◌then◌else◌, nat_le, ℕ, suc, Bool, true, false, List, [], ◌∷◌, filter, find, is_none, length, max, cond, Option, Some, None, option_map, slice_index_or, Result, Ok, Err, IfOk}
use Rattle.std.specs.List.{AllByRecursion}
use Rattle.std.proofs.Common.{refl, sym, ap, subst, inl, inr, ◌∙◌, arith}
use Rattle.std.proofs.lemmas.Bool.{eq-eqb, ne_eqb}
use Rattle.std.proofs.lemmas.Nat.{pow_pos}
use Rattle.play_stepping.specs.Given.SeizeDeclared.advance.Advance.{Advance}
use Rattle.play_stepping.specs.Given.SeizeDeclared.advance.Advance.TheVariants as progress
use Rattle.run_schedules.specs.Runs.Same.{is_same}
use Rattle.play_lists.specs.Given.TablesDeclared.resize_mode.ResizeMode.{ResizeMode}
use Rattle.play_lists.specs.Given.TablesLengths.{places_for}
use Rattle.play_lists.specs.Given.TablesPowers.{floor_log2, next_power}
use Rattle.play_lists.specs.Given.TablesDeclared.setting.Setting.{Setting}
use Rattle.play_stepping.proofs.Given.CallersTogether.At.{at_same}
use Rattle.play_stepping.specs.Given.ExecutorDeclared.executor.Executor.{Executor}
use Rattle.play_lists.specs.Given.FinishesMakings.{Beginning}
use Rattle.play_lists.specs.Given.FinishesMaps.{Standing}
use Rattle.play_lists.specs.Given.OthersMakings.{IsNew, WasNew}
use Rattle.run_schedules.specs.Given.SeizeWordsDeclared.fault.Fault.{Fault}
use Rattle.run_schedules.proofs.Runs.Sames.{same_refl}
use Rattle.run_schedules.specs.declared.effect.Effect.{Effect}
use Rattle.run_schedules.specs.declared.event.Event.{Event}
use Rattle.run_schedules.specs.declared.event.Event.TheVariants.{MakeMap}
use Rattle.run_schedules.specs.declared.outcome.Outcome.TheVariants.{Done, Refused}
use Rattle.run_schedules.specs.Schedules.After.{moment}
use Rattle.run_schedules.specs.Schedules.Beginning.{used_roots, with_map}
use Rattle.run_schedules.specs.Schedules.Effects.{with_effects, worked}
use Rattle.run_schedules.specs.Schedules.Entry.{Entry}
use Rattle.run_schedules.specs.Schedules.Handing.{IsWhole, is_first_making, is_table_made, may_do, tables_named}
use Rattle.run_schedules.specs.Schedules.InTurn.{HasRightOutcome}
use Rattle.run_schedules.specs.Schedules.Lists.{least_free}
use Rattle.run_schedules.specs.Schedules.Moment.{MapThere, Moment}
use Rattle.run_schedules.specs.Schedules.Terms.{Terms, shards_of}
use Rattle.run_schedules.specs.Schedules.Views.{map_at, map_of, number_of, tables_of}
use Rattle.play_lists.specs.Given.EffectsKnown.{Known, known}
use Rattle.play_lists.specs.Given.EffectsDeclared.notes.Notes.{Notes}
use Rattle.run_legal.proofs.Heads.Chains.{makings_taken}
use Rattle.run_legal.proofs.Heads.Rows.{slots_stay}
use Rattle.play_lists.proofs.Given.FindsCapacities.{given_are_for}
use Rattle.run_legal.specs.CallEvents.{IsLegalBut}
use Rattle.run_legal.specs.Given.ModelsFollows.{FollowsModel}
use Rattle.run_legal.specs.Carried.{IsSequential, RefinesRun}
use Rattle.run_legal.specs.Chains.{Chain as StepChain, Come, MakingSteps}
use Rattle.run_legal.specs.MapEvents.{InMakingEvent}
use Rattle.run_legal.proofs.Chains.{makings_run_to_their_ends}
use Rattle.run_legal.proofs.MapsOver.{making_events_begin_so}
use Rattle.play_stepping.specs.Given.NeedsMakings.{CountsTables, table_left}
use Rattle.play_stepping.proofs.Given.NeedsFirsts.{makings_open}
use Rattle.play_stepping.specs.Given.ReclaimsLeft.{LeftWithEndings}
use Rattle.play_stepping.specs.Given.LoggedGoes.{far}
use Rattle.play_stepping.specs.Given.LoggedMakings.{MakingIsBegun}
use Rattle.play_stepping.specs.Given.LoggedShown.{IsShown}
use Rattle.play_stepping.specs.Given.LoggedDeclared.logged.Logged.{Logged}
use Rattle.run_legal.proofs.Given.LoggedGivenBack.{with_maps}
use Rattle.play_stepping.proofs.Given.RowsLists.{found_alike}
use Rattle.play_lists.proofs.Given.TablesLogarithms.{next-power-unique}
use Rattle.play_stepping.specs.Given.NamedPlaces.{first_places}
use Rattle.play_stepping.specs.Given.SchedulerMapping.{MayMap}
use Rattle.play_stepping.specs.Given.SchedulerPlayed.{IsPlayed, entry_of}
use Rattle.play_stepping.specs.Given.NamedSeen.{named as named_of_map, number_named}
use Rattle.play_stepping.specs.Given.SchedulerWorks.{MakingHasRun, WorksOnMap}
use Rattle.play_stepping.specs.Given.SchedulerDeclared.played.Played.{Played}
use Rattle.play_stepping.specs.Given.SchedulerDeclared.scheduler.Scheduler.{Scheduler}
use Rattle.play_stepping.proofs.Mapping.MapLists.{by_recursion}
use Rattle.play_stepping.proofs.Mapping.MapsMade.{new_one, shown_there as shown_by}
use Rattle.play_stepping.proofs.Given.SchedulerMaps.{number_is}
use Rattle.play_stepping.proofs.Given.SchedulerRanOn.{maps_named}
use Rattle.play_stepping.proofs.Given.SchedulerRights.{entry, entry_is}
use Rattle.play_events.specs.Events.Asked.{Holds}
use Rattle.play_events.specs.Events.OfCalls.{HaveShards, Runs, RunsOn}
use Rattle.play_events.specs.Events.OfRows.{PreservesRun}
use Rattle.run_legal.proofs.Works.Reached.{makings_note_more}
use Rattle.play_events.proofs.Events.OfMakings.Begun.{begun_as, begun_in, begun_shown, none_begun}
use Rattle.play_events.proofs.Events.OfMakings.Chain.{HasFound, MakingComes, Midway, comes_on, counts_on, found_on, makings_come, masks}
use Rattle.play_events.proofs.Events.OfMakings.Unmade.{refused_runs}
use Rattle.play_events.proofs.Events.OfRows.Chain.{come_by}
use Rattle.play_events.proofs.Events.OfRows.Lone.{alone_follows}
use Rattle.play_events.proofs.Events.OfRows.Over.{over_runs}
use Rattle.play_events.proofs.Events.OfRows.May.{all_by}
use Rattle.play_events.proofs.Events.OfRows.Quiet.{refused_still, still_keeps}
use Rattle.play_events.proofs.Events.Remaining.{nobody_makes}
use Rattle.play_stepping.specs.Given.ExecutorIsThere.{IsThere, held_by}
use Rattle.play_lists.specs.Given.ScenesScene.{Scene}
pub mod Chain
pub mod Begun
pub mod Unmade

-- one that is put behind those of which none is it is the one that is found
found_last : {X : Type 0} (p : X → Bool) (xs : List X) (x : X) → find p xs ≡ None → p x ≡ true → find p (xs ++ x ∷ []) ≡ Some x
found_last p [] x none so = ap (λ (b : Bool). cond b (Some x) None) so
found_last p (z ∷ xs) x none so = by (p z) none (λ rest. found_last p xs x rest so)
  where
    by : (b : Bool) → cond b (Some z) (find p xs) ≡ None → (find p xs ≡ None → find p (xs ++ x ∷ []) ≡ Some x) → cond b (Some z) (find p (xs ++ x ∷ [])) ≡ Some x
    by true none rest = absurd (cc none)
    by false none rest = rest none

-- a map that is to have places has some, and else none
some_places : (capacity : ℕ) → ◌≡◌ {A = ℕ} (if first_places capacity == 0 then 0 else 1) (if capacity == 0 then 0 else 1)
some_places capacity = by (capacity == 0)
  where
    by : (q : Bool) → ◌≡◌ {A = ℕ} (if (if q then 0 else next_power (places_for capacity)) == 0 then 0 else 1) (if q then 0 else 1)
    by true = refl
    by false = ap (λ (b : Bool). if b then 0 else 1) (ne_eqb (next_power (places_for capacity)) 0 (λ none. (let some = power_some (nat_le (places_for capacity) 1) in absurd (omega (arith, some, none)))))
      where
        power_some : (b : Bool) → 0 < (if b then 1 else 2 ^ (floor_log2 (places_for capacity - 1) + 1))
        power_some true = omega arith
        power_some false = pow_pos (floor_log2 (places_for capacity - 1) + 1)

-- none of those before it has its number
none_numbered : (n : ℕ) (fs : List MapThere) → AllByRecursion (λ (f : MapThere). f.number < n) fs → find (λ (f : MapThere). f.number == n) fs ≡ None
none_numbered n [] all = refl
none_numbered n (f ∷ fs) all =
    ap (λ (q : Bool). cond q (Some f) (find (λ (g : MapThere). g.number == n) fs)) (ne_eqb f.number n (λ e. (let l = all.0 in omega (arith, l, e)))) ∙ none_numbered n fs all.1

module _ {K V S : Type 0} (same : K → K → Bool) (hash : K → ℕ) (terms : Terms) (log : List (Entry K V)) (own : List ℕ) (mode : ResizeMode) (capacity : ℕ) (played : Played V) (old new : Scheduler K V S)
    (holds : Holds same hash terms (moment log) old) (run : Runs same hash terms log old) (turn : (moment log).is_closed ≡ false) where
  abbrev event : Event K V
  event = MakeMap own mode capacity

  abbrev m : Moment K V
  m = moment log

  abbrev name : ℕ → List ℕ
  name = run.stands.name

  abbrev s : Scene K V
  s = run.stands.scene

  -- it may happen
  abbrev may : MayMap same hash terms log event old
  may = record { due = record { played = run.stands; in_turn = turn }; lawful = holds.lawful; counts = holds.counts }

  abbrev KeepsAs : Entry K V → Type 0
  KeepsAs x = IsPlayed same hash terms (x ∷ log) new → HasRightOutcome terms log x → RunsOn same hash terms log x new

  -- the map was made
  module _ (calls : new.calls ≡ old.calls) (setting : Setting) (d : MakingHasRun played old new own mode capacity (progress.Done setting)) where
    abbrev i : ℕ
    i = d.caller

    abbrev effects : List Effect
    effects = played.effects.items

    abbrev e : Entry K V
    e = entry event Done played.steps effects

    abbrev b : Beginning K
    b = begun_as run holds d

    abbrev there : MapThere
    there = record { name = own; number = m.made; root = least_free (used_roots m); mode = mode; capacity = capacity; first = 0 }

    abbrev bm : Moment K V
    bm = with_map there m

    abbrev s1 : Scene K V
    s1 = begun_in run holds d

    begins : MakingIsBegun same hash name m s d.given d.places i old.logged d.began
    begins = d.begins same hash name m s run.stands.shown

    at1 : IsThere same hash d.began.executor s1
    at1 = (begun_shown run holds d).is_at

    map_is : b.map ≡ m.made
    map_is = holds.counts.next

    begins_so : known d.began.notes ≡ known old.logged.notes
    begins_so = ap known d.noted

    lone : IsSequential event log → FollowsModel terms.batch_size terms.roots log (known old.logged.notes) s.world
    lone = alone_follows same hash terms log old run event refl

    midst : InMakingEvent same name terms log event b.map bm [] bm (known d.began.notes) s1
    midst =
        subst (λ (k : Known). InMakingEvent same name terms log event b.map bm [] bm k s1) (sym begins_so)
        (making_events_begin_so K V same (λ map. hash) name terms log (known old.logged.notes) s (held_by old.logged.executor) (held_by d.began.executor) run.stands.shown.is_at.held run.shows own mode capacity there refl i b (none_begun run holds d) map_is
        (λ made. absurd made) lone at1.held)

    below : b.map < bm.made
    below = let is = map_is in omega (arith, is)

    -- it is there as a new one
    is_new : IsNew b.map setting bm
    is_new =
        new_one same hash terms log old own mode capacity may d.faultless d.free d.some d.places d.first d.given d.is_given i d.began begins (length old.logged.executor.maps.items) refl setting new.logged []
        effects refl d.there d.ran d.finds

    shown_there : IsShown same hash name bm d.began s1
    shown_there =
        shown_by same hash terms log old own mode capacity may d.faultless d.free d.some d.places d.first d.given d.is_given i d.began begins (length old.logged.executor.maps.items) refl setting new.logged []
        effects refl d.there d.ran d.finds

    abbrev x : Come K V
    x = come_by (far [] d.began) bm s1

    -- it is found by its number
    there_so : map_at b.map bm ≡ Some there
    there_so =
        subst (λ (n : ℕ). map_at n bm ≡ Some there) (sym map_is)
        (found_last (λ (f : MapThere). f.number == m.made) m.maps there (none_numbered m.made m.maps (by_recursion _ m.maps holds.counts.apart.numbers.below)) (eq-eqb m.made m.made refl))

    first : Midway same hash terms name log own mode capacity i b bm there d.faultless d.places_are below setting s.maps 0 x (far [] d.began)
    first = (
      record {
        now = bm;
        scene = s1;
        chain = refl;
        is_at = at1;
        size = d.stays.1 ∙ run.size;
        midst = midst;
        calls = refl;
        counted = shown_there.counted;
        firsts = refl;
      },
      (b.machine, at_same s.makers i (Some b) i refl, refl),
      is_new,
      record {
        made = refl;
        made_for = given_are_for K V bm b.map there there_so d.faultless b.given (d.is_given.initial ∙ ap (λ (n : ℕ). max n 1) d.places_are);
        found = tt;
        openings = makings_open K V s (λ j c makes. absurd (let none = nobody_makes same hash terms m old run.stands j in cc (none, makes))) i b d.given old.logged.executor.roots d.places refl;
        there_is = there_so;
      },
      (let none = ap length is_new.no_tables in omega (arith, none)),
    )

    prev : Midway same hash terms name log own mode capacity i b bm there d.faultless d.places_are below setting s.maps d.gone.1.0 x d.gone.0
    prev = makings_come same hash terms name log own mode capacity i b bm there d.faultless d.places_are below setting s.maps d.gone.1.0 x (far [] d.began) d.gone.0 d.gone.1.1 first

    abbrev mid : Logged K V S
    mid = d.gone.2

    was : WasNew b.map d.gone.3.said prev.0.now
    was = subst (λ (t : Advance Setting). WasNew b.map t prev.0.now) (sym d.gone.4) prev.2

    abbrev y : MakingComes same hash terms name log own mode capacity i b bm (suc d.gone.1.0) x (far effects mid)
    y = comes_on same hash terms name log own mode capacity i b bm there d.faultless d.places_are below d.gone.1.0 x d.gone.0 (far effects mid) prev.0 s.maps prev.1 d.gone.3 was setting prev.2 prev.3

    found : HasFound b bm there effects y.now y.scene
    found = found_on same hash terms name log own mode capacity i b bm there d.faultless d.places_are below d.gone.1.0 x d.gone.0 (far effects mid) prev.0 s.maps prev.1 d.gone.3 was setting prev.2 prev.3

    chain : StepChain (MakingSteps same (λ map. hash) terms i b.map) (suc d.gone.1.0) (record { held = held_by d.began.executor; did = []; now = bm; notes = known old.logged.notes; scene = s1 })
        (come_by (far effects mid) y.now y.scene)
    chain =
        subst (λ (k : Known). StepChain (MakingSteps same (λ map. hash) terms i b.map) (suc d.gone.1.0) (record { held = held_by d.began.executor; did = []; now = bm; notes = k; scene = s1 })
        (come_by (far effects mid) y.now y.scene)) begins_so y.chain

    -- the executor has the settings that it had then
    at_end : IsThere same hash new.logged.executor y.scene
    at_end =
        with_maps same hash mid.executor new.logged.executor y.scene y.is_at d.gone.6 (λ n. ap (λ (xs : List (Option Setting)). slice_index_or xs n None) d.gone.7)
        (λ j c makes. subst (λ (n : ℕ). c.map < n) (sym (ap length d.gone.7)) (y.is_at.numbers j c makes))

    -- it is found by its name
    named_so : number_of own bm ≡ Some b.map
    named_so =
        ap (option_map (λ (f : MapThere). f.number)) (found_last (λ (f : MapThere). is_same f.name own) m.maps there (none_named (map_of own m) refl) (same_refl own)) ∙ ap Some (sym map_is)
      where
        none_by : (o : Option ℕ) → number_named own old.maps ≡ o → o ≡ None
        none_by None is = refl
        none_by (Some n) is = absurd (let had = sym (ap is_none is) ∙ d.free in cc had)

        none_named : (o : Option MapThere) → map_of own m ≡ o → map_of own m ≡ None
        none_named None is = is
        none_named (Some f) is = absurd (
            let some = sym (number_is same hash terms m old run.stands own) ∙ ap (option_map (λ (g : MapThere). g.number)) is in
            let none = none_by (number_named own old.maps) refl in
            cc (some, none))

    -- it has its table
    abbrev bw : Moment K V
    bw = with_effects None (Some b.map) effects bm

    has_table : length (tables_of b.map bw) ≡ (if d.places == 0 then 0 else 1)
    has_table =
        subst (λ (fs : List Effect). length (tables_of b.map (with_effects None (Some b.map) fs bm)) ≡ (if d.places == 0 then 0 else 1)) (sym d.ran.1)
        ((d.ran.3 same hash name bm s1 shown_there b (at_same s.makers i (Some b) i refl) refl (Some b.map)).1 is_new tt).4

    named_number : (o : Option MapThere) → option_map (λ (z : List ℕ × ℕ). z.1) (option_map named_of_map o) ≡ option_map (λ (f : MapThere). f.number) o
    named_number None = refl
    named_number (Some f) = refl

    number_still : number_of own bw ≡ Some b.map
    number_still =
        sym (named_number (map_of own bw)) ∙ ap (option_map (λ (z : List ℕ × ℕ). z.1))
        (found_alike named_of_map named_of_map bw.maps bm.maps (maps_named None (Some b.map) effects bm) (λ (z : List ℕ × ℕ). is_same z.0 own))
        ∙ named_number (map_of own bm) ∙ named_so

    -- and has made no other
    told_all : CountsTables b.map effects y.now None
    told_all =
        subst (λ (t : Advance Setting). CountsTables b.map effects y.now (table_left (d.gone.3.leads same hash prev.0.scene prev.0.is_at (record b { machine = prev.1.0 }) prev.1.1).0 t)) d.gone.4
        (counts_on same hash terms name log own mode capacity i b bm there d.faultless d.places_are below d.gone.1.0 x d.gone.0 (far effects mid) prev.0 s.maps prev.1 d.gone.3 was setting prev.2 prev.3 prev.4)

    made_tables : length (tables_of b.map bw) ≡ length (filter is_table_made effects)
    made_tables =
        let all : length (filter is_table_made effects) ≡ length (tables_of b.map y.now) + 0 = told_all in
        let same_now = ap (λ (v : Moment K V). length (tables_of b.map v)) y.midst.0.worked in
        omega (arith, all, same_now)

    abbrev HasTables : Option ℕ → Moment K V → Type 0
    HasTables o v = (tables_named o v ≡ length (filter is_table_made effects)) × (tables_named o v ≡ (if capacity == 0 then 0 else 1))

    whole : IsWhole event Done effects m (worked e m)
    whole =
        subst (λ (o : Option ℕ). HasTables (number_of own (with_effects None o effects bm)) (with_effects None o effects bm)) (sym named_so)
        (subst (λ (o : Option ℕ). HasTables o bw) (sym number_still)
        (made_tables, has_table ∙ ap (λ (n : ℕ). if n == 0 then 0 else 1) d.places_are ∙ some_places capacity))

    it : HasRightOutcome terms log e → IsLegalBut same terms log e × RefinesRun same name terms (e ∷ log) (known mid.notes) y.scene
    it right =
        makings_run_to_their_ends K V same (λ map. hash) name terms log (known old.logged.notes) s (held_by old.logged.executor) (held_by d.began.executor) run.stands.shown.is_at.held run.shows own mode capacity there refl i b (none_begun run holds d) map_is
        (λ made. absurd made) lone at1.held (suc d.gone.1.0) (come_by (far effects mid) y.now y.scene) chain played.steps effects refl refl named_so
        (all_by is_first_making (may_do event m) (λ f is. is) effects y.firsts) found.found whole right

    shows : HasRightOutcome terms log e → RefinesRun same name terms (e ∷ log) (known new.logged.notes) y.scene
    shows right = subst (λ (n : Notes). RefinesRun same name terms (e ∷ log) (known n) y.scene) (sym d.gone.5) (it right).1

    mask_is : d.given.mask + 1 ≡ shards_of terms
    mask_is =
        next-power-unique old.setup.processors (d.given.mask + 1) d.is_given.mask.0.0 holds.counts.processors d.is_given.mask.0.1 d.is_given.mask.1 d.is_given.mask.2
        ∙ ap (λ (t : Terms). shards_of t) run.stands.given

    shards : HaveShards terms new.logged.executor
    shards n its is = by (masks same hash terms name log own mode capacity i b bm d.gone.1.0 x d.gone.0 (far effects mid) prev.0 s.maps prev.1 d.gone.3 setting d.gone.4 n)
      where
        now_is : option_map (λ (st : Standing K). st.setting) (y.scene.maps n) ≡ Some its
        now_is = at_end.maps n ∙ is

        by : (y.scene.maps n ≡ s.maps n) ⊎ ((standing : Standing K) × (y.scene.maps n ≡ Some standing) × (standing.setting.mask ≡ d.given.mask)) → its.mask + 1 ≡ shards_of terms
        by (inl as_before) = run.shards n its (sym (run.stands.shown.is_at.maps n) ∙ sym (ap (option_map (λ (st : Standing K). st.setting)) as_before) ∙ now_is)
        by (inr (st, stands, mask)) =
            let one : Some st.setting ≡ Some its = sym (ap (option_map (λ (x : Standing K). x.setting)) stands) ∙ now_is in
            let same_one : st.setting ≡ its = cc one in
            ap (λ (x : Setting). x.mask + 1) (sym same_one) ∙ ap (λ (q : ℕ). q + 1) mask ∙ mask_is

    -- what ended maps left over is where it was
    left_behind : LeftWithEndings new.logged.executor.roots y.scene.world y.scene.maps y.scene.makers y.scene.enders y.counted.remains.lists
    left_behind =
        subst (λ (r : ℕ). LeftWithEndings r y.scene.world y.scene.maps y.scene.makers y.scene.enders y.counted.remains.lists) (sym (ap (λ (x : Executor K V S). x.roots) d.gone.6)) y.counted.remains.left

    -- no bucket of slots is forgotten
    grows : (known old.logged.notes).buckets ≤ (known new.logged.notes).buckets
    grows =
        subst (λ (n : Notes). (known old.logged.notes).buckets ≤ (known n).buckets) (sym d.gone.5)
        (makings_note_more same (λ map. hash) terms (known old.logged.notes) i b.map (suc d.gone.1.0) (record { held = held_by d.began.executor; did = []; now = bm; notes = known old.logged.notes; scene = s1 })
        (come_by (far effects mid) y.now y.scene) chain (omega arith))

    keeps_made : KeepsAs e
    keeps_made so right =
        over_runs same hash terms log e old new run refl y.scene at_end y.counted.remains.lists left_behind calls y.calls so right (it right).0 (shows right)
        (slots_stay s1.world.memory y.scene.world.memory m.slots
        (makings_taken same (λ map. hash) terms i b.map (suc d.gone.1.0) (record { held = held_by d.began.executor; did = []; now = bm; notes = known old.logged.notes; scene = s1 }) (come_by (far effects mid) y.now y.scene) chain)
        run.taken)
        (ap (λ (x : Executor K V S). x.batch_size) d.gone.6 ∙ y.size) shards grows

  refused_keeps : (fault : Fault) → played.outcome ≡ Refused fault → played.effects.items ≡ [] → new.logged ≡ old.logged → new.calls ≡ old.calls → KeepsAs (entry_of event played)
  refused_keeps fault is none still calls =
      subst KeepsAs (sym (entry_is event played (Refused fault) played.steps [] is refl none))
      (λ so rest. still_keeps same hash terms log old run (entry event (Refused fault) played.steps []) new refl (refused_still log s.world event refl fault played.steps) still calls so rest refl)

  -- it was refused, and nothing was done; or its making was refused; or it was made
  map_made_keeps : WorksOnMap played old new own mode capacity → IsPlayed same hash terms (entry_of event played ∷ log) new → HasRightOutcome terms log (entry_of event played)
      → RunsOn same hash terms log (entry_of event played) new
  map_made_keeps (calls, inl (fault, is, (none, still))) = refused_keeps fault is none still calls
  map_made_keeps (calls, inr (inl (fault, is, d))) =
      subst KeepsAs (sym (entry_is event played (Refused fault) played.steps played.effects.items is refl refl)) (refused_runs same hash terms log own mode capacity played old new holds run turn calls fault d)
  map_made_keeps (calls, inr (inr (done, setting, d))) = subst KeepsAs (sym (entry_is event played Done played.steps played.effects.items done refl refl)) (keeps_made calls setting d)

-- So it is by what its function says.
module _ {K V S : Type 0} (same : K → K → Bool) (hash : K → ℕ) (event : Event K V) (own : List ℕ) (mode : ResizeMode) (capacity : ℕ) (is : event ≡ MakeMap own mode capacity) (old new : Scheduler K V S) where
  pub makings_keep : {X : Type 0} → (result : Result (Played V) X) → IfOk result (λ played. WorksOnMap played old new own mode capacity) → IfOk result (λ played. PreservesRun same hash event played old new)
  makings_keep (Ok played) works =
      subst (λ (x : Event K V). PreservesRun same hash x played old new) (sym is)
      (λ of terms log holds run turn after right. map_made_keeps same hash terms log own mode capacity played old new holds run turn works after right)
  makings_keep (Err x) works = tt
