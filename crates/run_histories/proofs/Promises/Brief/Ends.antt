-- An event of a lookup reads briefly.
use Rattle.std.specs.Prelude.{◌≡◌, ℕ, suc, ◌+◌, ◌≤◌, Bool, true, false, List, ◌∷◌, Option, Some, None, MatchBool}
use Rattle.std.proofs.Common.{refl, ap, sym, subst, ◌∙◌, arith}
use Rattle.run_places.specs.Given.TablesChunks.{is_incremental}
use Rattle.run_places.specs.Given.RunsDeclared.call.Call.{Call}
use Rattle.run_places.specs.Given.RunsDeclared.call.Call.TheVariants as call
use Rattle.run_places.specs.Given.SchedulesEntry.{IfCall, acting}
use Rattle.run_places.specs.Given.SchedulesLists.{OneOf}
use Rattle.run_places.specs.Given.SchedulesMoment.{UnderWay as CallThere, Moment}
use Rattle.run_places.specs.Given.SchedulesSequential.{is_lookup}
use Rattle.run_places.specs.Given.SchedulesSteps.{ReadsFew, IsBrief}
use Rattle.run_places.specs.Given.SchedulesViews.{map_at, grows_in_chunks}
use Rattle.run_places.specs.Given.CallersTogether.{UnderWay, OnKey, ForRoom, Counting, OverAll}
use Rattle.run_places.specs.Given.FinishesMaps.{Standing}
use Rattle.run_places.specs.Given.EffectsKnown.{Known}
use Rattle.run_places.specs.Given.FollowsMaps.{RefinesPresence, RefinesTables}
use Rattle.run_histories.specs.Promises.Brief.{ReadsSince}
use Rattle.run_histories.specs.Promises.Reading.{looks, HasLooked, EventsReadBriefly, HasReadFew}
use Rattle.run_histories.proofs.Promises.Brief.Shown.{one_as, readings_are_few}
use Rattle.run_places.specs.Given.SchedulesTransition.{Past}
use Rattle.run_places.specs.Changes.Histories.{IsPast}

module _ {K V : Type 0} (map : ℕ) (s : Standing K) (m : Moment K V) (known : Known) (there : RefinesPresence map s m known) (tables : RefinesTables map s m known) (c : CallThere K V) (c_map : c.map ≡ map)
    (log : Past K V) (is_past : IsPast log) (begun : c.begun ≤ log.entries) (steps : ℕ) where
  -- its map is in the mode of the moment
  mode_is : grows_in_chunks (map_at c.map m) ≡ is_incremental s.setting.mode
  mode_is = ap (λ (n : ℕ). grows_in_chunks (map_at n m)) c_map ∙ ap grows_in_chunks there.is ∙ ap is_incremental there.mode

  fewer : (b : Bool) (more : ℕ) → more ≤ suc steps → (v : Moment K V) → ReadsFew b c m (suc steps) v → ReadsFew b c m more v
  fewer true more l v few = omega (arith, l, few)
  fewer false more l v few = omega (arith, l, few)

  -- with its next step
  next_few : (more : ℕ) → more ≤ suc steps → (u : UnderWay K V K) → HasLooked (is_incremental s.setting.mode) map s.chart (log.since c.begun) steps u
      → OneOf (ReadsFew (grows_in_chunks (map_at c.map m)) c m more) (log.since c.begun)
  next_few more l (ForRoom r) h = absurd h
  next_few more l (Counting sum) h = absurd h
  next_few more l (OverAll o) h = absurd h
  next_few more l (OnKey k) h =
      subst (λ (b : Bool). OneOf (ReadsFew b c m more) (log.since c.begun)) (sym mode_is)
      (one_as (ReadsFew (is_incremental s.setting.mode) c m (suc steps)) (ReadsFew (is_incremental s.setting.mode) c m more) (fewer (is_incremental s.setting.mode) more l) (log.since c.begun)
      (subst (OneOf (ReadsFew (is_incremental s.setting.mode) c m (suc steps))) (sym moments.1)
      (readings_are_few K V s m log.now known c moments.0 steps h.0.stands (subst (λ (n : ℕ). RefinesTables n s m known) (sym c_map) tables)
      (subst (λ (n : ℕ). ReadsSince (is_incremental s.setting.mode) n s.chart (log.now ∷ moments.0) steps h.0.stands) (sym c_map)
      (subst (λ (vs : List (Moment K V)). ReadsSince (is_incremental s.setting.mode) map s.chart vs steps h.0.stands) moments.1 h.2)))))
    where
      moments : (rest : List (Moment K V)) × (log.since c.begun ≡ log.now ∷ rest)
      moments = is_past.last c.begun begun

-- what is brief, by what was called
brief_as : {K V : Type 0} (c : CallThere K V) (moments : List (Moment K V)) (m : Moment K V) (steps : ℕ)
    → (looks c.call ≡ true → OneOf (ReadsFew (grows_in_chunks (map_at c.map m)) c m steps) moments) → IsBrief c.call c moments m steps
brief_as {K} {V} c moments m steps few = by c.call few
  where
    Few : Type 0
    Few = OneOf (ReadsFew (grows_in_chunks (map_at c.map m)) c m steps) moments

    if_looks : (b : Bool) → (b ≡ true → Few) → MatchBool b Few (Unit {0})
    if_looks true few = few refl
    if_looks false few = tt

    by : (x : Call K V) → (looks x ≡ true → Few) → IsBrief x c moments m steps
    by (call.On one) few = if_looks (is_lookup one) few
    by (call.Reserve n) few = tt
    by call.Clear few = tt
    by call.Retain few = tt
    by call.Len few = tt
    by call.Walk few = tt

module _ (K V : Type 0) (same : K → K → Bool) (hash : ℕ → K → ℕ) where
  pub events_read_briefly : EventsReadBriefly K V same hash
  events_read_briefly name log made m known s e at whole reading map i u here caller its steps l = by (s.maps map) refl
    where
      stands : (standing : Standing K) → s.maps map ≡ Some standing → HasReadFew log caller steps m
      stands standing there =
          let c = whole.all.shown.calls map i u here in
          let shows = whole.all.shown.maps map standing there in
          subst (λ (o : Option (CallThere K V)). IfCall (λ x. IsBrief x.call x (log.since x.begun) m (x.steps + steps)) o)
          (sym (ap (λ (x : Option (List ℕ)). acting x m) its ∙ c.1))
          (brief_as c.0 (log.since c.0.begun) m (c.0.steps + steps) (λ looks_for.
          next_few map standing m known shows.there shows.tables c.0 c.2 log reading.past (reading.begun map i u here c.0 c.1 looks_for) (c.0.steps + made i)
          (c.0.steps + steps) (omega (arith, l)) u (reading.reads map i u here c.0 c.1 looks_for standing there)))

      by : (o : Option (Standing K)) → s.maps map ≡ o → HasReadFew log caller steps m
      by (Some standing) is = stands standing is
      by None is = absurd (let none = at.together.makings.standing.only map i is in cc (none, here))
