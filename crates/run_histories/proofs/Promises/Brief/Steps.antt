-- Where a lookup has taken a step, all lookups have read what they may.
use Rattle.std.specs.Prelude.{◌≡◌, ℕ, suc, ◌+◌, ◌<◌, ◌≤◌, Bool, true, List, Option, Some, None, if◌then◌else◌}
use Rattle.std.proofs.Common.{refl, ap, sym, subst, ◌∙◌, arith, inl, inr}
use Rattle.std.proofs.lemmas.Bool.{eq-eqb, ne_eqb}
use Rattle.run_places.specs.Given.SeizeDeclared.advance.Advance.{Advance as Stepped}
use Rattle.run_places.specs.Given.SeizeDeclared.advance.Advance.TheVariants as stepped
use Rattle.run_places.specs.Given.TablesChunks.{is_incremental}
use Rattle.run_places.specs.Given.TablesDeclared.node.Node.{Node}
use Rattle.run_places.specs.Given.TablesDeclared.setting.Setting.{Setting}
use Rattle.run_places.specs.Given.ResizeDeclared.lookup.Lookup.{Lookup}
use Rattle.run_places.specs.Given.ResizeDeclared.lookup.Looking.{Looking}
use Rattle.run_places.specs.Given.ResizeDeclared.lookup.Looking.TheVariants as looking
use Rattle.run_places.specs.Given.RawCall.{looked}
use Rattle.run_places.specs.Given.RawProgress.{of_called}
use Rattle.run_places.specs.Given.RawDeclared.machines.call.Calling.TheVariants as at
use Rattle.run_places.specs.Given.RawDeclared.machines.call.KeyCall.{KeyCall}
use Rattle.run_places.specs.Given.RawDeclared.machines.machine.Machine.{Machine}
use Rattle.run_places.specs.Given.RawDeclared.machines.machine.Machine.TheVariants as kinds
use Rattle.run_places.specs.Given.RawDeclared.machines.progress.Progress.{Progress}
use Rattle.run_places.specs.Given.RuleChart.{Chart}
use Rattle.run_places.specs.Given.SchedulesLists.{OneOf}
use Rattle.run_places.specs.Given.SchedulesMoment.{UnderWay as CallThere, MapThere, TableThere, Moment}
use Rattle.run_places.specs.Given.SchedulesViews.{call_of}
use Rattle.run_places.specs.Given.CallersTogether.{CallOnKey, UnderWay, OnKey, ForRoom, Counting, OverAll}
use Rattle.run_places.specs.Given.FinishesMachines.{ContinuesAs, machine_of}
use Rattle.run_places.specs.Given.FinishesMaps.{Standing}
use Rattle.run_places.proofs.Hands.Asking.{which}
use Rattle.run_places.proofs.Changes.Logs.{now_there}
use Rattle.run_histories.specs.Promises.Brief.{ReadsAt, ReadsOn, IsRootOf, TablesLast, WasRoot, ReadsSince}
use Rattle.run_histories.specs.Promises.Reading.{looks, HasLooked, one_more_of, LookupsPreserveReadings}
use Rattle.run_histories.proofs.Promises.Brief.Maps.{maps_stood}
use Rattle.run_histories.proofs.Promises.Brief.Own.{HasReadOn, has_read_on}
use Rattle.run_histories.proofs.Promises.Brief.Shown.{roots_are_shown}
use Rattle.run_histories.proofs.Promises.Brief.Stays.{first_made, looked_on, looked_as}
use Rattle.run_places.specs.Given.ScenesHeld.{Held, IsAt}
use Rattle.run_places.specs.Given.ScenesScene.{Scene}
use Rattle.run_places.specs.Given.ScenesStepping.{StepLeads, scene_after}

module _ {K V : Type 0} (incremental : Bool) (map : ℕ) (c : Chart K) (moments : List (Moment K V)) where
  -- the turn from which it reads on, and a moment at which that was the root's
  record IsFrom (steps : ℕ) (stands : Looking) : Type 0 where
    first : ℕ
    rooted : IsRootOf c first stands
    reads : ReadsAt incremental c first steps stands
    was : first < c.past → OneOf (WasRoot incremental map c first) moments

  is_from : (c.first < c.past → OneOf (WasRoot incremental map c c.first) moments) → (steps : ℕ) (stands : Looking) → ReadsSince incremental map c moments steps stands → IsFrom steps stands
  is_from root steps looking.Roots h = record { first = c.first; rooted = refl; reads = h; was = root }
  is_from root steps (looking.Probes trial) h = record { first = h.0; rooted = tt; reads = h.1; was = λ made. h.2 }
  is_from root steps (looking.Nexts table) h = record { first = h.0; rooted = tt; reads = h.1; was = λ made. h.2 }
  is_from root steps (looking.Over found) h = absurd h.1

  -- and so it has read since then
  since_then : (first : ℕ) → (first < c.past → OneOf (WasRoot incremental map c first) moments) → (steps : ℕ) (stands : Looking) → ReadsAt incremental c first steps stands
      → ReadsSince incremental map c moments steps stands
  since_then first was steps looking.Roots h = h
  since_then first was steps (looking.Probes trial) h = (first, h, was (first_made incremental c first trial.table.turn steps trial.probe.len h.0))
  since_then first was steps (looking.Nexts table) h = (first, h, was (first_made incremental c first table.turn steps _ h))
  since_then first was steps (looking.Over found) h = absurd h

-- a moment with the same maps and tables
was_alike : {K V : Type 0} (incremental : Bool) (map : ℕ) (c : Chart K) (first : ℕ) (m v : Moment K V) → m.maps ≡ v.maps → m.tables ≡ v.tables → WasRoot incremental map c first m
    → WasRoot incremental map c first v
was_alike incremental map c first m v maps tables was =
    subst (λ (x : List TableThere). WasRoot incremental map c first (record v { tables = x })) tables
    (subst (λ (x : List MapThere). WasRoot incremental map c first (record v { maps = x; tables = m.tables })) maps was)

machine_is : {K V : Type 0} (p q : KeyCall K V K) → ◌≡◌ {A = Machine K V K} (kinds.Key p) (kinds.Key q) → p ≡ q
machine_is p q e = cc e

module _ {K V : Type 0} (same : K → K → Bool) (hash : ℕ → K → ℕ) (s : Scene K V) (old new : Held K V) (at_old : IsAt same hash old s) (map i : ℕ)
    (said : Progress (Node K V)) (leads : StepLeads same hash i said s old new) (moments : List (Moment K V)) (steps : ℕ) where
  module _ (k : CallOnKey K V K) (here : s.calls map i ≡ Some (OnKey k)) (l : Lookup) (is : k.call.stands ≡ at.Looks l)
      (from : IsFrom (is_incremental (leads map (OnKey k) here).0.setting.mode) map (leads map (OnKey k) here).0.chart moments steps l.stands) where
    abbrev c : Chart K
    c = (leads map (OnKey k) here).0.chart

    abbrev inc : Bool
    inc = is_incremental (leads map (OnKey k) here).0.setting.mode

    read : HasReadOn same hash s old new at_old map i k here said leads l is from.first steps
    read = has_read_on same hash s old new at_old map i k here said leads l is from.first steps from.rooted from.reads

    -- what is under way then is the machine that it has led to
    then_at : (x : UnderWay K V K) → (end : Lookup × Stepped (Option ℕ)) → ReadsOn inc c from.first (suc steps) end
        → kinds.Key (looked k.call end).0 ≡ (leads map (OnKey k) here).1 → of_called (looked k.call end).1 ≡ said
        → ContinuesAs (leads map (OnKey k) here).1 said (Some x) → HasLooked inc map c moments (suc steps) x
    then_at x (l2, stepped.Goes) reads machine told goes = by x (subst (λ (p : Progress (Node K V)). ContinuesAs (leads map (OnKey k) here).1 p (Some x)) (sym told) goes)
      where
        is_next : (y : UnderWay K V K) → machine_of y ≡ (leads map (OnKey k) here).1 → HasLooked inc map c moments (suc steps) y
        is_next (OnKey k2) e = (
          l2,
          ap (λ (p : KeyCall K V K). p.stands) (sym (machine_is (looked k.call (l2, stepped.Goes)).0 k2.call (machine ∙ sym e))),
          since_then inc map c moments from.first from.was (suc steps) l2.stands reads,
        )
        is_next (ForRoom r) e = absurd (cc (e, machine))
        is_next (Counting sum) e = absurd (cc (e, machine))
        is_next (OverAll o) e = absurd (cc (e, machine))

        by : (y : UnderWay K V K) → ContinuesAs (leads map (OnKey k) here).1 (of_called (looked k.call (l2, stepped.Goes)).1) (Some y) → HasLooked inc map c moments (suc steps) y
        by y (z, some, e) = is_next y (ap (λ (w : UnderWay K V K). machine_of w) (cc some) ∙ e)
    then_at x (l2, stepped.Waits) reads machine told goes = absurd reads
    then_at x (l2, stepped.Refused fault) reads machine told goes = absurd reads
    then_at x (l2, stepped.Done (Some found)) reads machine told goes =
        absurd (cc (subst (λ (p : Progress (Node K V)). ContinuesAs (leads map (OnKey k) here).1 p (Some x)) (sym told) goes))
    then_at x (l2, stepped.Done None) reads machine told goes =
        absurd (cc (subst (λ (p : Progress (Node K V)). ContinuesAs (leads map (OnKey k) here).1 p (Some x)) (sym told) goes))

    key_then : (x : UnderWay K V K) → (leads map (OnKey k) here).4.next ≡ Some x → HasLooked inc map c moments (suc steps) x
    key_then x next =
        then_at x read.on.end read.reads read.on.leads_to.0 read.on.leads_to.1
        (subst (λ (o : Option (UnderWay K V K)). ContinuesAs (leads map (OnKey k) here).1 said o) next (leads map (OnKey k) here).4.goes_on)

  -- the lookup that has taken the step, by the tables that there were
  looked_then : (u : UnderWay K V K) (here : s.calls map i ≡ Some u)
      → ((leads map u here).0.chart.first < (leads map u here).0.chart.past
      → OneOf (WasRoot (is_incremental (leads map u here).0.setting.mode) map (leads map u here).0.chart (leads map u here).0.chart.first) moments)
      → HasLooked (is_incremental (leads map u here).0.setting.mode) map (leads map u here).0.chart moments steps u
      → (x : UnderWay K V K) → (leads map u here).4.next ≡ Some x → HasLooked (is_incremental (leads map u here).0.setting.mode) map (leads map u here).0.chart moments (suc steps) x
  looked_then (OnKey k) here root h x next =
      key_then k here h.0 h.1 (is_from (is_incremental (leads map (OnKey k) here).0.setting.mode) map (leads map (OnKey k) here).0.chart moments root steps h.0.stands h.2) x next
  looked_then (ForRoom r) here root h x next = absurd h
  looked_then (Counting sum) here root h x next = absurd h
  looked_then (OverAll o) here root h x next = absurd h

module _ (K V : Type 0) (same : K → K → Bool) (hash : ℕ → K → ℕ) where
  pub lookups_keep_readings : LookupsPreserveReadings K V same hash
  lookups_keep_readings name log made m known s old new at_old whole reading maps tables map i u here said leads c c_is looks_for =
      record { past = reading.past; begun = begun_then; reads = reads_then }
    where
      same_call : (d : CallThere K V) → call_of (name i) m ≡ Some d → d ≡ c
      same_call d is = cc (is, c_is)

      begun_then : (n j : ℕ) (x : UnderWay K V K) → (scene_after same s old new map i (leads map u here).0 u (leads map u here).1 said (leads map u here).4).calls n j ≡ Some x
          → (d : CallThere K V) → call_of (name j) m ≡ Some d → looks d.call ≡ true → d.begun ≤ log.entries
      begun_then n j x is d d_is d_looks = elim (which s.calls map i (leads map u here).4.next n j x is) as (λ _. d.begun ≤ log.entries) [
        | inl its ↦
            subst (λ (v : CallThere K V). v.begun ≤ log.entries) (sym (same_call d (ap (λ (k : ℕ). call_of (name k) m) (sym its.1) ∙ d_is))) (reading.begun map i u here c c_is looks_for)
        | inr other ↦ reading.begun n j x other.1 d d_is d_looks
      ]

      -- the root, as the last event left it
      root : (leads map u here).0.chart.first < (leads map u here).0.chart.past
          → OneOf (WasRoot (is_incremental (leads map u here).0.setting.mode) map (leads map u here).0.chart (leads map u here).0.chart.first) (log.since c.begun)
      root made_one =
          let shows = whole.all.shown.maps map (leads map u here).0 (leads map u here).2 in
          now_there log reading.past (WasRoot (is_incremental (leads map u here).0.setting.mode) map (leads map u here).0.chart (leads map u here).0.chart.first) c.begun
          (reading.begun map i u here c c_is looks_for)
          (was_alike (is_incremental (leads map u here).0.setting.mode) map (leads map u here).0.chart (leads map u here).0.chart.first m log.now maps tables
          (roots_are_shown K V map (leads map u here).0 m known shows.there shows.tables made_one))

      own : (x : UnderWay K V K) → (leads map u here).4.next ≡ Some x
          → HasLooked (is_incremental (leads map u here).0.setting.mode) map (leads map u here).0.chart (log.since c.begun) (suc (c.steps + made i)) x
      own x next =
          looked_then same hash s old new at_old map i said leads (log.since c.begun) (c.steps + made i) u here root
          (reading.reads map i u here c c_is looks_for (leads map u here).0 (leads map u here).2) x next

      -- with the tables that there are then
      moved : (n : ℕ) (before : Standing K) (after : Standing K) → after.setting ≡ before.setting → TablesLast before.chart after.chart → (d : CallThere K V) (steps steps2 : ℕ) → steps2 ≡ steps
          → (x : UnderWay K V K) → HasLooked (is_incremental before.setting.mode) n before.chart (log.since d.begun) steps x
          → HasLooked (is_incremental after.setting.mode) n after.chart (log.since d.begun) steps2 x
      moved n before after setting last d steps steps2 count x h =
          looked_as (is_incremental before.setting.mode) (is_incremental after.setting.mode) n after.chart log d.begun d.begun steps steps2 x
          (ap (λ (y : Setting). is_incremental y.mode) setting) refl count
          (looked_on (is_incremental before.setting.mode) n before.chart after.chart last (log.since d.begun) (log.since d.begun) (λ P one. one) steps x h)

      own_count : c.steps + one_more_of i made i ≡ suc (c.steps + made i)
      own_count = let more = ap (λ (b : Bool). if b then suc (made i) else made i) (eq-eqb i i refl) in omega (arith, more)

      its_own : (x : UnderWay K V K) → (leads map u here).4.next ≡ Some x → (after : Standing K) → (leads map u here).4.maps2 map ≡ Some after
          → HasLooked (is_incremental after.setting.mode) map after.chart (log.since c.begun) (c.steps + one_more_of i made i) x
      its_own x next after is =
          let stood = maps_stood same hash s old new at_old map i u here said leads map after is in
          let one : stood.0 ≡ (leads map u here).0 = (let there = stood.1 in let st = (leads map u here).2 in cc (there, st)) in
          moved map (leads map u here).0 after (stood.2 ∙ ap (λ (y : Standing K). y.setting) one) (subst (λ (y : Standing K). TablesLast y.chart after.chart) one stood.3) c
          (suc (c.steps + made i)) (c.steps + one_more_of i made i) own_count x (own x next)

      other_count : (n j : ℕ) (x : UnderWay K V K) → (n ≡ map → j ≡ i → ⊥) → s.calls n j ≡ Some x → one_more_of i made j ≡ made j
      other_count n j x apart was = ap (λ (b : Bool). if b then suc (made j) else made j) (ne_eqb j i (λ e. apart (sym (on_map e)) e))
        where
          on_map : j ≡ i → map ≡ n
          on_map e = at_old.together.makings.standing.once map n i (λ none. absurd (cc (none, here))) (λ none. absurd (let it = ap (s.calls n) e in cc (none, was, it)))

      others : (n j : ℕ) (x : UnderWay K V K) → (n ≡ map → j ≡ i → ⊥) → s.calls n j ≡ Some x → (d : CallThere K V) → call_of (name j) m ≡ Some d → looks d.call ≡ true
          → (after : Standing K) → (leads map u here).4.maps2 n ≡ Some after
          → HasLooked (is_incremental after.setting.mode) n after.chart (log.since d.begun) (d.steps + one_more_of i made j) x
      others n j x apart was d d_is d_looks after is =
          let stood = maps_stood same hash s old new at_old map i u here said leads n after is in
          moved n stood.0 after stood.2 stood.3 d (d.steps + made j) (d.steps + one_more_of i made j) (ap (λ (z : ℕ). d.steps + z) (other_count n j x apart was)) x
          (reading.reads n j x was d d_is d_looks stood.0 stood.1)

      reads_then : (n j : ℕ) (x : UnderWay K V K) → (scene_after same s old new map i (leads map u here).0 u (leads map u here).1 said (leads map u here).4).calls n j ≡ Some x
          → (d : CallThere K V) → call_of (name j) m ≡ Some d → looks d.call ≡ true → (after : Standing K)
          → (scene_after same s old new map i (leads map u here).0 u (leads map u here).1 said (leads map u here).4).maps n ≡ Some after
          → HasLooked (is_incremental after.setting.mode) n after.chart (log.since d.begun) (d.steps + one_more_of i made j) x
      reads_then n j x is d d_is d_looks after there = elim (which s.calls map i (leads map u here).4.next n j x is) as (λ _. HasLooked (is_incremental after.setting.mode) n after.chart (log.since d.begun) (d.steps + one_more_of i made j) x) [
        | inl its ↦
            subst (λ (k : ℕ). HasLooked (is_incremental after.setting.mode) k after.chart (log.since d.begun) (d.steps + one_more_of i made j) x) (sym its.0)
            (subst (λ (k : ℕ). HasLooked (is_incremental after.setting.mode) map after.chart (log.since d.begun) (d.steps + one_more_of i made k) x) (sym its.1)
            (subst (λ (v : CallThere K V). HasLooked (is_incremental after.setting.mode) map after.chart (log.since v.begun) (v.steps + one_more_of i made i) x)
            (sym (same_call d (ap (λ (k : ℕ). call_of (name k) m) (sym its.1) ∙ d_is)))
            (its_own x its.2 after (ap (leads map u here).4.maps2 (sym its.0) ∙ there))))
        | inr other ↦ others n j x other.0 other.1 d d_is d_looks after there
      ]
