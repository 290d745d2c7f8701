-- A reservation that is answered has counted shards as they were, and has met a root with room for so many more.
use Rattle.std.specs.Prelude.{◌≡◌, ℕ, zero, suc, ◌+◌, ◌<◌, ◌≤◌, nat_le, Bool, true, false, cond, List, [], ◌∷◌, ◌++◌, filter, Option, Some, ◌⊎◌}
use Rattle.std.proofs.Common.{refl, ap, sym, subst, ◌∙◌, arith, inl, inr}
use Rattle.std.proofs.lemmas.Bool.{cases_eq}
use Rattle.run_finds.specs.Given.SeizeWorld.{IsInside}
use Rattle.run_finds.specs.Given.TablesLengths.{len_of}
use Rattle.run_finds.specs.Given.TablesDeclared.node.Node.{Node}
use Rattle.run_finds.specs.Given.ResizeDeclared.yielding.Yielding.{Yielding}
use Rattle.run_finds.specs.Given.ResizeDeclared.yielding.Yielding.TheVariants as outcome
use Rattle.run_finds.specs.Given.RawProgress.{of_outcome}
use Rattle.run_finds.specs.Given.RawDeclared.machines.progress.Answer.TheVariants as answers
use Rattle.run_finds.specs.Given.RawDeclared.machines.progress.Progress.{Progress}
use Rattle.run_finds.specs.Given.RawDeclared.machines.progress.Progress.TheVariants as progress
use Rattle.run_finds.specs.Given.RunsDeclared.call.Response.TheVariants.{Completed}
use Rattle.run_finds.specs.Given.RunsDeclared.call.Call.{Call}
use Rattle.run_finds.specs.Given.RunsDeclared.call.Call.TheVariants as call
use Rattle.run_finds.specs.Given.RunsDeclared.outcome.Outcome.TheVariants.{Answered}
use Rattle.run_finds.specs.Given.SchedulesCounts.{Counts}
use Rattle.run_finds.specs.Given.SchedulesLists.{OneOf}
use Rattle.run_finds.specs.Given.SchedulesMoment.{UnderWay as CallThere, Stage, TableThere, Moment}
use Rattle.run_finds.specs.Given.SchedulesSteps.{met_from}
use Rattle.run_finds.specs.Given.SchedulesSweeps.{Fits, roots_since, FindsRoom}
use Rattle.run_finds.specs.Given.SchedulesTerms.{Terms, shards_of}
use Rattle.run_finds.specs.Given.SchedulesViews.{call_of, first_or, first_of, tables_of}
use Rattle.run_finds.specs.Given.RuleChart.{Chart}
use Rattle.run_finds.specs.Given.RuleInWorld.{IsMapIn}
use Rattle.run_finds.proofs.Given.PointsMovedLasts.{moved_lasts}
use Rattle.run_finds.specs.Given.CallersRooms.{CallForRoom}
use Rattle.run_finds.specs.Given.CallersSights.{seen_by}
use Rattle.run_finds.specs.Given.CallersTogether.{UnderWay, OnKey, ForRoom, Counting, OverAll, in_slot}
use Rattle.run_finds.proofs.Given.CallersSights.Seen.{map_seen}
use Rattle.run_finds.proofs.Given.CallersTogether.At.{at_same}
use Rattle.run_finds.proofs.Given.CallersTogether.Fits.{map_in_slot}
use Rattle.run_finds.specs.Given.EffectsKnown.{Known}
use Rattle.run_finds.specs.Given.FinishesMachines.{machine_of}
use Rattle.run_finds.specs.Given.FinishesMaps.{Standing}
use Rattle.run_finds.specs.Given.FollowsMaps.{tables_to, RefinesTables}
use Rattle.run_finds.proofs.Given.FollowsSteps.{WentTo, made_so, is_sight}
use Rattle.run_finds.proofs.Given.ChangesLogs.{each_of}
use Rattle.run_finds.specs.Given.MomentsWhole.{RefinesWhole}
use Rattle.run_finds.specs.Purposes.Purposes.{IsFor, HasMet, RefinesPurposes}
use Rattle.run_finds.specs.Purposes.Shards.{ReadsShards}
use Rattle.run_sweeps.specs.Purposes.Swept.{ReservationsAreSwept}
use Rattle.run_finds.proofs.Purposes.RoomSteps.{EndsSo, room_ends}
use Rattle.run_sweeps.proofs.Purposes.Steps.{went, on, known2, Did}
use Rattle.run_finds.proofs.Purposes.Sums.{counts_wider}
use Rattle.run_sweeps.proofs.Purposes.Swept.{v, then_call, then_is, still, on_map, swept_by, same_map, completed_said}
use Rattle.run_finds.specs.Given.ScenesHeld.{Held, IsAt}
use Rattle.run_finds.specs.Given.ScenesScene.{Scene, slot_of}
use Rattle.run_finds.specs.Given.ScenesStepping.{StepLeads, StepsFrom}
use Rattle.run_finds.specs.Given.SchedulesTransition.{Past}
use Rattle.run_finds.proofs.Given.General.{at_most_true as passes}

module _ {X : Type 0} where
  one_left : (P : X → Type 0) (xs ys : List X) → OneOf P xs → OneOf P (xs ++ ys)
  one_left P [] ys one = absurd one
  one_left P (x ∷ xs) ys (inl here) = inl here
  one_left P (x ∷ xs) ys (inr there) = inr (one_left P xs ys there)

  one_right : (P : X → Type 0) (xs : List X) (y : X) → P y → OneOf P (xs ++ y ∷ [])
  one_right P [] y here = inl here
  one_right P (x ∷ xs) y here = inr (one_right P xs y here)

  -- what passes is among those that pass
  one_filtered : (test : X → Bool) (P : X → Type 0) (xs : List X) → OneOf (λ x. (test x ≡ true) × P x) xs → OneOf P (filter test xs)
  one_filtered test P [] one = absurd one
  one_filtered test P (x ∷ xs) (inl here) = subst (λ z. OneOf P (cond z (x ∷ filter test xs) (filter test xs))) (sym here.0) (inl here.1)
  one_filtered test P (x ∷ xs) (inr there) = by (test x) (one_filtered test P xs there)
    where
      by : (z : Bool) → OneOf P (filter test xs) → OneOf P (cond z (x ∷ filter test xs) (filter test xs))
      by true one = inr one
      by false one = one

-- a table with this turn is among those of its map
one_table : {K : Type 0} (of : ℕ) (c : Chart K) (stage : ℕ → Stage) (P : TableThere → Type 0) (past t : ℕ) → t < past
    → P (record { table = record { map = of; turn = t }; shape = record { len = c.len t; limit = c.limit t }; stage = stage t }) → OneOf P (tables_to of c stage past)
one_table of c stage P zero t l here = absurd (omega (arith, l))
one_table of c stage P (suc p) t l here = step (λ k. one_table of c stage P p t k here)
  where
    step : (t < p → OneOf P (tables_to of c stage p)) → OneOf P (tables_to of c stage (suc p))
    step rest = elim (cases_eq t p) as (λ _. OneOf P (tables_to of c stage (suc p))) [
      | inl e ↦ one_right P (tables_to of c stage p) _ (subst (λ (x : ℕ). P (record { table = record { map = of; turn = x }; shape = record { len = c.len x; limit = c.limit x }; stage = stage x })) e here)
      | inr ne ↦ one_left P (tables_to of c stage p) _ (rest (omega (arith, l, ne)))
    ]

module _ {K V : Type 0} (same : K → K → Bool) (hash : ℕ → K → ℕ) (name : ℕ → List ℕ) (log : Past K V) (m : Moment K V) (known : Known) (s : Scene K V) (old new : Held K V)
    (at : IsAt same hash old s) (whole : RefinesWhole same name m known s) (purposes : RefinesPurposes same name log m known s) (of i : ℕ) (u : UnderWay K V K) (here : s.calls of i ≡ Some u)
    (said : Progress (Node K V)) (leads : StepLeads same hash i said s old new) (c : CallThere K V) (c_is : call_of (name i) m ≡ Some c) where
  abbrev to : WentTo same hash name m known s old new at purposes.shown of i u here said leads
  to = went same hash name log m known s old new at whole purposes of i u here said leads

  abbrev now : Moment K V
  now = v same hash name log m known s old new at whole purposes of i u here said leads c c_is

  abbrev d : CallThere K V
  d = then_call same hash name log m known s old new at whole purposes of i u here said leads c c_is

  its_map : IsInside (s.world.uses (slot_of i)) → IsMapIn same to.0.hash (in_slot to.0.setting (slot_of i)) s.world to.0.chart (seen_by to.0.blocks (to.0.sights (slot_of i)))
  its_map inside =
      map_seen same to.0.hash (in_slot to.0.setting (slot_of i)) s.world to.0.chart to.0.blocks (to.0.sights (slot_of i))
      (map_in_slot same to.0.hash to.0.setting s.world to.0.chart to.0.blocks (slot_of i) (at.together.makings.standing.each of to.0 to.2).ground.map)
      (is_sight same hash m known s old new at name purposes.shown of i to.0 to.2 (name i) (made_so same hash name m known s old new at purposes.shown of i u here said leads) inside)

  -- the map as it is then has its tables, as long as they were
  pub record StandsOn : Type 0 where
    pub st : Standing K
    pub there : to.4.maps2 of ≡ Some st
    pub past : to.0.chart.past ≤ st.chart.past
    pub first : to.0.chart.first ≤ st.chart.first
    pub lens : (t : ℕ) → t < to.0.chart.past → st.chart.len t ≡ to.0.chart.len t

  stands_on : (r : CallForRoom) → Did same hash name log m known s old new at whole purposes of i u here said leads (ForRoom r) → StandsOn
  stands_on r (p2, end, machine_is, told_is, inl (step, moved)) =
      let lasts = moved_lasts same to.0.hash (in_slot to.0.setting (slot_of i)) (at.together.makings.standing.fit of to.0 to.2).0.lawful s.world to.0.chart step.step.went.c2
      (seen_by to.0.blocks (to.0.sights (slot_of i))) (its_map step.step.inside) step.step.went.moved in
      record {
        st = record to.0 { chart = step.step.went.c2; blocks = step.step.blocks2; sights = step.step.sights2 };
        there = ap (λ (f : ℕ → Option (Standing K)). f of) moved.1
            ∙ at_same s.maps of (Some (record to.0 { chart = step.step.went.c2; blocks = step.step.blocks2; sights = step.step.sights2 })) of refl;
        past = lasts.past;
        first = lasts.first;
        lens = λ t l. (lasts.lens t l).0;
      }
  stands_on r (p2, end, machine_is, told_is, inr (row, stayed)) =
      let after = same_map (s.maps of) (to.4.maps2 of) to.0 to.2 (stayed.1 of) in
      record {
        st = after.0;
        there = after.1;
        past = (let e = ap (λ (x : Chart K). x.past) after.2 in omega (arith, e));
        first = (let e = ap (λ (x : Chart K). x.first) after.2 in omega (arith, e));
        lens = λ t l. ap (λ (x : Chart K). x.len t) after.2;
      }

  module _ (terms : Terms) (mask : (standing : Standing K) → s.maps of ≡ Some standing → suc standing.setting.mask ≡ shards_of terms) (more : ℕ) (r : CallForRoom)
      (r_is : s.calls of i ≡ Some (ForRoom r)) (additional : r.reserve.additional ≡ more) (reads : ReadsShards log m s of (ForRoom r))
      (steps : StepsFrom same to.0.hash (machine_of (ForRoom r)) old new to.1 said) (done : said ≡ progress.Done answers.Reserved) (on_it : StandsOn) where
    met : HasMet of to.0 (log.since c.begun) r
    met = purposes.come of i (ForRoom r) r_is to.0 to.2 c c_is

    abbrev Ended : Type 0
    Ended = EndsSo same hash log purposes.past m s old new at of i r r_is to.0 to.2 c (purposes.begun of i (ForRoom r) r_is c c_is) reads met to.1 said steps

    ended : Ended
    ended = room_ends same hash log purposes.past m s old new at of i r r_is to.0 to.2 c (purposes.begun of i (ForRoom r) r_is c c_is) reads met to.1 said steps done

    -- the root is where the map has it
    first_now : first_of of now ≡ on_it.st.chart.first
    first_now =
        let shows = ((on same hash name log m known s old new at whole purposes of i u here said leads).shows.maps of on_it.st on_it.there).there in
        ap first_or shows.is ∙ shows.first

    abbrev Long : TableThere → Type 0
    Long t = Fits (len_of (ended.0 + more)) t.shape.len

    finds : (x : Moment K V) → first_of of x ≤ met.low → OneOf Long (roots_since (first_of of x) of now)
    finds x l =
        one_filtered (λ t. nat_le t.table.turn (first_of of now)) Long (met_from of (first_of of x) now)
        (one_filtered (λ t. nat_le (first_of of x) t.table.turn) (λ t. (nat_le t.table.turn (first_of of now) ≡ true) × Long t) (tables_of of now)
        (subst (OneOf (λ t. (nat_le (first_of of x) t.table.turn ≡ true) × ((nat_le t.table.turn (first_of of now) ≡ true) × Long t))) (sym tables.listed)
        (one_table of on_it.st.chart tables.stage (λ t. (nat_le (first_of of x) t.table.turn ≡ true) × ((nat_le t.table.turn (first_of of now) ≡ true) × Long t)) on_it.st.chart.past ended.2
        (let a = ended.5 in let b = on_it.past in omega (arith, a, b)) (
          passes (first_of of x) ended.2 (let a = ended.3 in omega (arith, l, a)),
          (
            passes ended.2 (first_of of now) (let a = ended.4 in let b = on_it.first in let e = first_now in omega (arith, a, b, e)),
            subst (λ (z : ℕ). Fits (len_of (ended.0 + z)) (on_it.st.chart.len ended.2)) additional
                (subst (Fits (len_of (ended.0 + r.reserve.additional))) (sym (on_it.lens ended.2 ended.5)) ended.6),
          ),
        ))))
      where
        tables : RefinesTables of on_it.st now (known2 same hash name log m known s old new at whole purposes of i u here said leads)
        tables = ((on same hash name log m known s old new at whole purposes of i u here said leads).shows.maps of on_it.st on_it.there).tables

    abbrev Room : List (Moment K V) → ℕ → Type 0
    Room moments on_map =
        (n : ℕ) × Counts (shards_of terms) on_map moments n × OneOf (λ x. OneOf (λ t. Fits (len_of (n + more)) t.shape.len) (roots_since (first_of on_map x) on_map now)) moments

    found : Room (now ∷ log.since c.begun) of
    found = (
      ended.0,
      subst (λ (x : ℕ). Counts x of (now ∷ log.since c.begun) ended.0) (mask to.0 to.2)
          (counts_wider of (log.since c.begun) (now ∷ log.since c.begun) (λ P one. inr one) (suc to.0.setting.mask) ended.0 ended.1),
      inr (each_of (λ x. first_of of x ≤ met.low) (λ x. OneOf Long (roots_since (first_of of x) of now)) (log.since c.begun) finds met.was),
    )

    pub finds_room : FindsRoom terms more d (now ∷ log.since d.begun) now
    finds_room =
        let is = still same hash name log m known s old new at whole purposes of i u here said leads c c_is in
        subst (λ (b : ℕ). Room (now ∷ log.since b) d.map) (sym is.begun)
        (subst (Room (now ∷ log.since c.begun)) (sym (on_map same hash name log m known s old new at whole purposes of i u here said leads c c_is)) found)

  -- of a reservation
  pub room_found : (terms : Terms) → ((standing : Standing K) → s.maps of ≡ Some standing → suc standing.setting.mask ≡ shards_of terms) → (more : ℕ) → (y : UnderWay K V K) → s.calls of i ≡ Some y
      → IsFor y (call.Reserve more) → ReadsShards log m s of y → StepsFrom same to.0.hash (machine_of y) old new to.1 said → said ≡ progress.Done answers.Reserved
      → Did same hash name log m known s old new at whole purposes of i u here said leads y → FindsRoom terms more d (now ∷ log.since d.begun) now
  room_found terms mask more (OnKey z) y_is is reads steps done did = absurd is
  room_found terms mask more (ForRoom r) y_is is reads steps done did = finds_room terms mask more r y_is is reads steps done (stands_on r did)
  room_found terms mask more (Counting sum) y_is is reads steps done did = absurd is
  room_found terms mask more (OverAll o) y_is is reads steps done did = absurd is

-- no reservation ends as a sweep
none_swept : {T : Type 0} (end : Yielding T Unit) → of_outcome end ≡ progress.Done answers.Swept → ⊥
none_swept outcome.Goes e = cc e
none_swept outcome.Waits e = cc e
none_swept (outcome.Gave value) e = cc e
none_swept (outcome.Done end) e = cc e
none_swept (outcome.Refused fault) e = cc e

module _ (K V : Type 0) (same : K → K → Bool) (hash : ℕ → K → ℕ) where
  pub reservations_are_swept : ReservationsAreSwept K V same hash
  reservations_are_swept more name log m known s old new at whole purposes of i u here said leads c c_is is_reserve reads comes terms mask t caller worked_is outcome =
      let to = went same hash name log m known s old new at whole purposes of i u here said leads in
      let is = still same hash name log m known s old new at whole purposes of i u here said leads c c_is in
      let is_for = subst (λ (x : Call K V). IsFor u x) is_reserve (purposes.is_for of i u here c c_is) in
      swept_by same terms log t (name i) (v same hash name log m known s old new at whole purposes of i u here said leads c c_is)
      (then_call same hash name log m known s old new at whole purposes of i u here said leads c c_is) caller worked_is
      (then_is same hash name log m known s old new at whole purposes of i u here said leads c c_is) (call.Reserve more) (is.call ∙ is_reserve) (Answered Completed) outcome
      (room_found same hash name log m known s old new at whole purposes of i u here said leads c c_is terms mask more u here is_for reads to.3
      (reserved u is_for to.4.did (completed_said (known2 same hash name log m known s old new at whole purposes of i u here said leads) said comes)) to.4.did)
    where
      reserved : (y : UnderWay K V K) → IsFor y (call.Reserve more) → Did same hash name log m known s old new at whole purposes of i u here said leads y
          → (said ≡ progress.Done answers.Reserved) ⊎ (said ≡ progress.Done answers.Swept) → said ≡ progress.Done answers.Reserved
      reserved (ForRoom r) is (p2, end, machine_is, told_is, did) done = elim done as (λ _. said ≡ progress.Done answers.Reserved) [
        | inl so ↦ so
        | inr other ↦ absurd (none_swept end (sym told_is ∙ other))
      ]
      reserved (OnKey z) is did done = absurd is
      reserved (Counting sum) is did done = absurd is
      reserved (OverAll o) is did done = absurd is
