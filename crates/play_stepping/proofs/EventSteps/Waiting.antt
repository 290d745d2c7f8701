-- Which call another one may wait for, by the moment that shows them: one that works on its map while that is as it waits for, or that has the batch of its slot in hand.
use Rattle.std.specs.Prelude.{◌∷◌, ◌-◌, ◌==◌, ◌&&◌, ◌||◌, nat_le, nat_lt, not, length, filter, map, Some, if◌then◌else◌}
use Rattle.std.specs.List.{list_any}
use Rattle.std.proofs.Common.{◌≡◌, ℕ, zero, suc, ◌≤◌, ◌<◌, Bool, true, false, List, refl, sym, ap, ◌∙◌, inl, inr, arith}
use Rattle.std.proofs.lemmas.Bool.{eq-eqb}
use Rattle.std.proofs.lemmas.List.{length-map}
use Rattle.seize.specs.World.{Rests}
use Rattle.owner_whole.specs.Given.SeizeEndsHolders.{has_batch}
use Rattle.papaya_raw.specs.Given.TablesChunks.{is_incremental}
use Rattle.play_scheduler.specs.Given.RuleChart.{Chart}
use Rattle.play_scheduler.specs.Given.RuleWords.{Blocks}
use Rattle.play_scheduler.specs.Given.ShownShown.{tables_on}
use Rattle.run_schedules.specs.Runs.Present.{slot_of_guard}
use Rattle.run_schedules.specs.Runs.Same.{is_same}
use Rattle.run_schedules.specs.declared.call.Call.{Call}
use Rattle.run_schedules.specs.declared.call.Call.TheVariants.{Clear, On, Reserve, Retain, Walk}
use Rattle.run_schedules.specs.declared.call.OneKey.{OneKey}
use Rattle.run_schedules.specs.declared.effect.Thing.{Thing}
use Rattle.run_schedules.specs.Schedules.Growing.{only_looks}
use Rattle.run_schedules.specs.Schedules.InUse.{is_handing}
use Rattle.run_schedules.specs.Schedules.Lists.{is_empty}
use Rattle.run_schedules.specs.Schedules.Moment.{TableThere, UnderWay as CallThere, Moment}
use Rattle.run_schedules.specs.Schedules.Terms.{Terms}
use Rattle.run_schedules.specs.Schedules.Sequential.{key_of}
use Rattle.run_schedules.specs.Schedules.Views.{call_of, chain_of, finite_map, first_of, first_or, grows_in_chunks, map_at, tables_of}
use Rattle.run_schedules.specs.Schedules.Waiting.{is_resizing, is_to_be_copied, may_wait_for, waits_on_map}
use Rattle.owner_whole.specs.Given.CallersOverAll.{CallOverAll}
use Rattle.owner_whole.specs.Given.CallersRooms.{CallForRoom}
use Rattle.owner_whole.specs.Given.CallersTogether.{CallOnKey, UnderWay, OnKey, ForRoom, Counting, OverAll}
use Rattle.owner_whole.specs.Given.FinishesMachines.{machine_of}
use Rattle.owner_whole.specs.Given.FinishesMaps.{Standing}
use Rattle.play_scheduler.specs.Given.FollowsCalls.{IsCalled}
use Rattle.run_executor.proofs.Given.HandsCalling.{caller_is}
use Rattle.play_scheduler.specs.Given.OwesLooking.{IsLooking}
use Rattle.play_scheduler.proofs.Given.RowsHolders.{works_there}
use Rattle.play_scheduler.specs.Played.{RefinesFor}
use Rattle.play_scheduler.specs.Shapes.{shape_of}
use Rattle.play_scheduler.specs.declared.scheduler.Scheduler.{Scheduler}
use Rattle.play_scheduler.proofs.HeldTold.{has_call, its_guard, one_passes}
use Rattle.play_scheduler.proofs.ShapesHere.{shapes_from}
use Rattle.play_scheduler.proofs.Given.ScenesMay.{standing_is}
use Rattle.play_scheduler.specs.Given.ScenesScene.{slot_of}
use Rattle.run_executor.specs.Executing.IsThere.{held_by}
use Rattle.owner_whole.proofs.Given.WaitsWorks.{no_row}
use Rattle.seize_words.proofs.General.{or_second as or_right, and_true as both_true, or_first as or_left}

-- as many tables as are counted
tables_count : {K : Type 0} (c : Chart K) (blocks : Blocks) (t k : ℕ) → length (tables_on c blocks t k) ≡ k
tables_count c blocks t zero = refl
tables_count c blocks t (suc k) = ap (λ (n : ℕ). suc n) (tables_count c blocks (suc t) k)

all_true : (a b c : Bool) → a ≡ true → b ≡ true → c ≡ true → (a && b && c) ≡ true
all_true true true true x y z = refl
all_true false b c x y z = absurd (cc x)
all_true true false c x y z = absurd (cc y)
all_true true true false x y z = absurd (cc z)

-- For what a call waits on its map, by what was called.
module _ {K V : Type 0} (same : K → K → Bool) (m : Moment K V) where
  -- it waits for whichever copying of a table,
  abbrev pub IsForResizes : CallThere K V → Type 0
  IsForResizes c = (d : CallThere K V) → waits_on_map same c.call c m d ≡ is_resizing c.map m d

  -- as one does that is not on one key,
  module _ (c d : CallThere K V) where
    room_so : (r : CallForRoom) (call : Call K V) → IsCalled same (ForRoom r) call → waits_on_map same call c m d ≡ is_resizing c.map m d
    room_so r (Reserve more) called = refl
    room_so r _ called = absurd called

    sweep_so : (o : CallOverAll) (call : Call K V) → IsCalled same (OverAll o) call → waits_on_map same call c m d ≡ is_resizing c.map m d
    sweep_so o Clear called = refl
    sweep_so o Retain called = refl
    sweep_so o Walk called = refl
    sweep_so o _ called = absurd called

    at_once_so : grows_in_chunks (map_at c.map m) ≡ false → (call : Call K V) → waits_on_map same call c m d ≡ is_resizing c.map m d
    at_once_so blocking (On one) = ap (λ (b : Bool). if b then is_to_be_copied c.map m (finite_map same c.map m (key_of one)) else is_resizing c.map m d) blocking
    at_once_so blocking _ = refl

    -- or, on one key, for the copying of its pair alone
    pub for_pair : grows_in_chunks (map_at c.map m) ≡ true → (u : CallOnKey K V K) (call : Call K V) → IsCalled same (OnKey u) call
        → ((one : OneKey K V) → u.keys ≡ same (key_of one) → is_to_be_copied c.map m (finite_map same c.map m (key_of one)) ≡ true) → waits_on_map same call c m d ≡ true
    for_pair chunks u (On one) called copied = ap (λ (b : Bool). if b then is_to_be_copied c.map m (finite_map same c.map m (key_of one)) else is_resizing c.map m d) chunks ∙ copied one called
    for_pair chunks u _ called copied = absurd called

  pub room_for_resizes : (r : CallForRoom) (c : CallThere K V) → IsCalled same (ForRoom r) c.call → IsForResizes c
  room_for_resizes r c called d = room_so c d r c.call called

  pub sweep_for_resizes : (o : CallOverAll) (c : CallThere K V) → IsCalled same (OverAll o) c.call → IsForResizes c
  sweep_for_resizes o c called d = sweep_so c d o c.call called

  pub at_once_for_resizes : (c : CallThere K V) → grows_in_chunks (map_at c.map m) ≡ false → IsForResizes c
  at_once_for_resizes c blocking d = at_once_so c d blocking c.call

module _ {K V S : Type 0} (same : K → K → Bool) (hash : K → ℕ) (terms : Terms) (m : Moment K V) (p : Scheduler K V S) (stands : RefinesFor same hash terms m p) where
  module _ (number : ℕ) (st : Standing K) (is : stands.scene.maps number ≡ Some st) where
    -- the moment says how a map grows, and which table is its root's
    pub grows_as : grows_in_chunks (map_at number m) ≡ is_incremental st.setting.mode
    grows_as = let shows = stands.shown.shows.all.shown.maps number st is in ap grows_in_chunks shows.there.is ∙ ap is_incremental shows.there.mode

    pub first_as : first_of number m ≡ st.chart.first
    first_as = let shows = stands.shown.shows.all.shown.maps number st is in ap first_or shows.there.is ∙ shows.there.first

    -- and its tables from the root on are counted by its chart
    chain_length : st.chart.first ≤ st.chart.past → length (chain_of number m) ≡ st.chart.past - st.chart.first
    chain_length upto =
        let shows = stands.shown.shows.all.shown.maps number st is in
        sym (length-map (chain_of number m) (λ t. t.shape))
        ∙ ap length (ap (λ (f : ℕ). map (λ t. t.shape) (filter (λ t. nat_le f t.table.turn) (tables_of number m))) first_as
        ∙ ap (λ (xs : List TableThere). map (λ t. t.shape) (filter (λ t. nat_le st.chart.first t.table.turn) xs)) shows.tables.listed
        ∙ shapes_from st.chart st.blocks number shows.tables.stage st.chart.first st.chart.past upto)
        ∙ length-map (tables_on st.chart st.blocks st.chart.first (st.chart.past - st.chart.first)) shape_of
        ∙ tables_count st.chart st.blocks st.chart.first (st.chart.past - st.chart.first)

    pub chain_longer : suc st.chart.first < st.chart.past → nat_lt 1 (length (chain_of number m)) ≡ true
    chain_longer more =
        ap (λ (n : ℕ). nat_lt 1 n) (chain_length (omega (arith, more))) ∙ less (st.chart.past - st.chart.first) (omega (arith, more))
      where
        less : (n : ℕ) → 1 < n → nat_lt 1 n ≡ true
        less n l = grind (arith, l)

  -- of two callers' calls, this one and another
  module _ (of n i j : ℕ) (u x : UnderWay K V K) (under : stands.scene.calls of i ≡ Some u) (there : stands.scene.calls n j ≡ Some x) (other : j ≡ i → ⊥) where
    abbrev its : (c : CallThere K V) × (call_of (stands.name i) m ≡ Some c) × (c.map ≡ of) × IsCalled same u c.call
    its = stands.shown.shows.all.shown.calls of i u under

    abbrev one : (d : CallThere K V) × (call_of (stands.name j) m ≡ Some d) × (d.map ≡ n) × IsCalled same x d.call
    one = stands.shown.shows.all.shown.calls n j x there

    apart : is_same one.0.caller its.0.caller ≡ false
    apart =
        ap (λ (l : List ℕ). is_same l its.0.caller) (caller_is (stands.name j) m one.0 one.1) ∙ ap (λ (l : List ℕ). is_same (stands.name j) l) (caller_is (stands.name i) m its.0 its.1)
        ∙ by (is_same (stands.name j) (stands.name i)) refl
      where
        by : (b : Bool) → is_same (stands.name j) (stands.name i) ≡ b → is_same (stands.name j) (stands.name i) ≡ false
        by false e = e
        by true e = absurd (other (stands.shown.shows.all.asked.apart n j of i x u there under e).1)

    works : (IsLooking (machine_of x) → ⊥) → only_looks one.0.call ≡ false
    works never = by (only_looks one.0.call) refl
      where
        by : (b : Bool) → only_looks one.0.call ≡ b → only_looks one.0.call ≡ false
        by false e = e
        by true e = absurd (never (stands.shown.kept.looking n j x there one.0 one.1 e))

    -- it passes as one to wait for
    passes : only_looks one.0.call ≡ false
        → ((((one.0.map == its.0.map) && waits_on_map same its.0.call its.0 m one.0)
        || (is_handing one.0 && (slot_of_guard one.0.guard m.there == slot_of_guard its.0.guard m.there))) ≡ true)
        → list_any (may_wait_for same its.0 m) m.calls ≡ true
    passes looks so =
        one_passes (λ c. is_same c.caller (stands.name j)) (may_wait_for same its.0 m) m.calls one.0 one.1
        (all_true (not (is_same one.0.caller its.0.caller)) (not (only_looks one.0.call)) _ (ap not apart) (ap not looks) so)

    -- one that works on its map, while that is as it waits for
    pub waits_for_worker : waits_on_map same its.0.call its.0 m one.0 ≡ true → n ≡ of → (IsLooking (machine_of x) → ⊥) → list_any (may_wait_for same its.0 m) m.calls ≡ true
    waits_for_worker so on never = passes (works never) (or_left _ _ (both_true _ _ (eq-eqb one.0.map its.0.map (one.2 ∙ on ∙ sym its.2)) so))

    module _ (resizes : IsForResizes same m its.0) where
      -- one that copies on its map, which has a second table
      pub waits_for_copier : n ≡ of → (IsLooking (machine_of x) → ⊥) → (st : Standing K) → stands.scene.maps of ≡ Some st → suc st.chart.first < st.chart.past
          → list_any (may_wait_for same its.0 m) m.calls ≡ true
      waits_for_copier on never st is more =
          waits_for_worker (resizes one.0 ∙ or_left _ _ (ap (λ (k : ℕ). nat_lt 1 (length (chain_of k m))) its.2 ∙ chain_longer of st is more)) on never

      -- one on its map that hands something over
      pub waits_for_handing : n ≡ of → (IsLooking (machine_of x) → ⊥) → is_handing one.0 ≡ true → list_any (may_wait_for same its.0 m) m.calls ≡ true
      waits_for_handing on never handing = waits_for_worker (resizes one.0 ∙ or_right _ _ handing) on never

    -- as one does that owes something
    pub owing_hands : (thing : Thing) (rest : List Thing) → one.0.owes ≡ thing ∷ rest → is_handing one.0 ≡ true
    owing_hands thing rest owes = or_left _ _ (ap (λ (l : List Thing). not (is_empty l)) owes)

  -- one that only looks has no row under way
  looks_rest : (n j : ℕ) (x : UnderWay K V K) → stands.scene.calls n j ≡ Some x → IsLooking (machine_of x) → stands.scene.world.row j ≡ Rests
  looks_rest n j (OnKey u) there looks =
      let its_map = standing_is same (λ map. hash) (held_by p.logged.executor) stands.scene stands.shown.is_at.held n j (OnKey u) there in
      elim ((stands.shown.is_at.held.together.makings.standing.each n its_map.0 its_map.1).stand j (OnKey u) there) as (λ _. stands.scene.world.row j ≡ Rests) [
        | inl rests ↦ rests.0
        | inr row ↦ absurd (no_row u.call.stands looks.1 row.1)
      ]
  looks_rest n j (Counting sum) there looks =
      let its_map = standing_is same (λ map. hash) (held_by p.logged.executor) stands.scene stands.shown.is_at.held n j (Counting sum) there in
      ((stands.shown.is_at.held.together.makings.standing.each n its_map.0 its_map.1).stand j (Counting sum) there).0
  looks_rest n j (ForRoom r) there looks = absurd looks
  looks_rest n j (OverAll o) there looks = absurd looks

  -- one that has the batch of its slot in hand
  pub waits_for_holder : (of i j : ℕ) (u : UnderWay K V K) (under : stands.scene.calls of i ≡ Some u) → has_batch (slot_of i) (stands.scene.world.row j) ≡ true → (j ≡ i → ⊥)
      → list_any (may_wait_for same (stands.shown.shows.all.shown.calls of i u under).0 m) m.calls ≡ true
  waits_for_holder of i j u under has other =
      let call = has_call same hash terms m p stands j (slot_of i) has in
      let busy : stands.scene.world.row j ≡ Rests → ⊥ = λ rests. (let none = ap (has_batch (slot_of i)) rests in cc (none, has)) in
      let mine = its_guard same hash terms m p stands of i u under in
      let theirs = its_guard same hash terms m p stands call.0 j call.1 call.2 ∙ works_there same hash p.logged.executor stands.scene stands.shown.is_at j (slot_of i) has in
      let handing = stands.shown.kept.handing call.0 j call.1 call.2 busy (stands.shown.shows.all.shown.calls call.0 j call.1 call.2).0 (stands.shown.shows.all.shown.calls call.0 j call.1 call.2).1 in
      passes of call.0 i j u call.1 under call.2 other (works of call.0 i j u call.1 under call.2 other (λ looks. busy (looks_rest call.0 j call.1 call.2 looks)))
      (or_right _ _
      (both_true _ _ handing (eq-eqb _ _ (theirs ∙ sym mine))))
