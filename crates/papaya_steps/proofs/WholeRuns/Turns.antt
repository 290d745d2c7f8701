-- One event more, and the end of a schedule.
use Rattle.std.specs.Prelude.{◌≡◌, ℕ, suc, Bool, true, false, List, [], ◌∷◌, ◌++◌, length, filter, map, Option, slice_index_or, if◌then◌else◌}
use Rattle.std.specs.Global.{Vec}
use Rattle.std.proofs.Common.{refl, sym, ap, subst, ◌∙◌, arith}
use Rattle.std.proofs.lemmas.List.{length-append, map-append}
use Rattle.run_schedules.specs.declared.shapes.Single.{Single}
use Rattle.run_schedules.specs.declared.shapes.Single.TheVariants as single
use Rattle.run_schedules.specs.declared.ended.Living.{Living}
use Rattle.run_schedules.specs.declared.ended.Pair.{Pair}
use Rattle.run_schedules.specs.declared.effect.Effect.{Effect}
use Rattle.run_schedules.specs.declared.event.Event.{Event}
use Rattle.run_schedules.specs.declared.record.Run.{Run}
use Rattle.run_schedules.specs.Schedules.After.{AtEachEvent, moment}
use Rattle.run_schedules.specs.Schedules.Beginning.{at_work}
use Rattle.run_schedules.specs.Schedules.Entry.{Entry, acted_on, caller_of, is_busy}
use Rattle.run_schedules.specs.Schedules.Moment.{Place, Deferral, MapThere, TableThere, Moment, start}
use Rattle.run_schedules.specs.Schedules.Runs.{IsLegal, IsLegalLog, IsRunOf, Lists, ListsMaps, log_of, log_on, trace_of}
use Rattle.run_schedules.specs.Schedules.Terms.{Terms}
use Rattle.run_schedules.specs.Schedules.Views.{is_in_map, is_retired}
use Rattle.play_events.specs.Given.SchedulerPlayed.{entry_of}
use Rattle.play_events.specs.Given.NamedSeen.{named, named_of}
use Rattle.play_events.specs.Given.SchedulerDeclared.played.Played.{Played}
use Rattle.play_events.specs.Given.ExecutorDeclared.named_map.NamedMap.{NamedMap}
use Rattle.play_events.specs.Given.SchedulerDeclared.scheduler.Scheduler.{Scheduler}
use Rattle.papaya_steps.specs.WholeRuns.Acting.{acting_of, map_acted, singles_as, traced}
use Rattle.play_events.specs.Events.Asked.{Happens, Holds}
use Rattle.papaya_steps.specs.WholeRuns.Back.{BackSoFar, ReclaimsBy, ReclaimsRight, ReportsBack}
use Rattle.papaya_steps.specs.WholeRuns.Ending.{shown_of, map_reported}
use Rattle.play_events.specs.Events.OfCalls.{Runs}
use Rattle.play_events.specs.Folded.Folded.{HandsInOrder}
use Rattle.play_events.proofs.Folded.Logs.{ended_calls_fold}
use Rattle.papaya_steps.specs.WholeRuns.Run.{GoesRight, HandsOn, IsRightRun, SoFar, ReportsMost, log_so}
use Rattle.run_effects.specs.Tallies.Places.{Leads}
use Rattle.run_effects.specs.Tallies.Tally.{Records, RecordsAll, RecordsMoment, counted, deferral, flag_of}
use Rattle.papaya_steps.specs.declared.record.Record.{Record}
use Rattle.play_events.specs.Given.LoggedBack.{ComesBack}
use Rattle.run_effects.specs.Tallies.Told.{AreBack}
use Rattle.run_effects.proofs.Tallies.Back.{back_then}
use Rattle.run_effects.specs.declared.tally.Tally.{Tally}
use Rattle.run_effects.specs.declared.tally.Whereabouts.{Whereabouts}
use Rattle.run_effects.specs.declared.tally.Whereabouts.TheVariants.{Unborn}
use Rattle.play_events.specs.Given.FindsTornDown.{StoredAreSomewhere}
use Rattle.papaya_steps.proofs.WholeRuns.AsRun.{all_reclaim_right, as_run}
use Rattle.papaya_steps.proofs.WholeRuns.Logs.{acted_so, begun_same, log_long, log_more, singles_are}
use Rattle.run_effects.proofs.Tallies.Numbers.{lists_map}
use Rattle.run_effects.proofs.Tallies.Tallies.{told_moment}

lists_same : (xs : List (Vec Effect)) → length (map (λ v. v.items) xs) ≡ length xs
lists_same [] = refl
lists_same (x ∷ xs) = ap suc (lists_same xs)

module _ {K V S : Type 0} (same : K → K → Bool) (hash : K → ℕ) (terms : Terms) (events : List (Event K V)) (rec : Record V) (tally : Tally) (p : Scheduler K V S) (so : SoFar same hash terms events rec tally p) where
  abbrev log : List (Entry K V)
  log = log_so events rec

  pub long : length log ≡ length events
  long =
      log_long [] events rec.outcomes.items rec.steps.items (map (λ v. v.items) rec.effects.items) so.outcomes so.steps (lists_same rec.effects.items ∙ so.effects) ∙ omega arith

  -- the tally of the moment after an event
  module _ (event : Event K V) (played : Played V) (tally2 : Tally) (tells : RecordsAll (map_acted (acting_of event p) played.outcome) played.effects.items tally tally2) where
    abbrev e : Entry K V
    e = entry_of event played

    abbrev b : Moment K V
    b = at_work e (moment log)

    begun_tells : RecordsMoment tally b
    begun_tells =
        let s = begun_same event played.outcome (moment log) in
        subst (λ (x : (ℕ → Place) × List Deferral × List TableThere). Records tally x.0 x.1 x.2) (sym (λ i. (s.0 i, s.1 i, s.2 i))) so.told

    pub tells_then : RecordsMoment tally2 (moment (e ∷ log))
    tells_then =
        let acted : acted_on event b ≡ map_acted (acting_of event p) played.outcome = acted_so same hash terms (moment log) p so.holds.stands so.holds.counts.next e in
        let noted = subst (λ (x : Option ℕ). RecordsAll x played.effects.items tally tally2) (sym acted) tells in
        let told = told_moment (caller_of event) (acted_on event b) played.effects.items b tally2 (noted b.place b.deferred b.tables begun_tells) in
        record { pairs = told.pairs; behind = told.behind; flags = told.flags; places = told.places }

    module _ (rec2 : Record V) (outcomes : rec2.outcomes.items ≡ rec.outcomes.items ++ played.outcome ∷ []) (steps : rec2.steps.items ≡ rec.steps.items ++ played.steps ∷ [])
        (effects : rec2.effects.items ≡ rec.effects.items ++ played.effects ∷ [])
        (trace : rec2.trace.items ≡ rec.trace.items ++ (if is_busy played.outcome then single.Whole (length rec.outcomes.items) ∷ [] else singles_as (length rec.outcomes.items) (traced event) played.steps)) where
      pub more : log_so (events ++ event ∷ []) rec2 ≡ e ∷ log
      more =
          (λ i. log_on [] (events ++ event ∷ []) (outcomes i) (steps i) (map (λ v. v.items) (effects i)))
          ∙ ap (λ (l : List (List Effect)). log_on [] (events ++ event ∷ []) (rec.outcomes.items ++ played.outcome ∷ []) (rec.steps.items ++ played.steps ∷ []) l) (map-append (λ v. v.items) rec.effects.items (played.effects ∷ []))
          ∙ log_more [] events rec.outcomes.items rec.steps.items (map (λ v. v.items) rec.effects.items) event played.outcome played.steps played.effects.items so.outcomes so.steps
          (lists_same rec.effects.items ∙ so.effects)

      one_more : {X : Type 0} (xs ys : List X) (x : X) → ys ≡ xs ++ x ∷ [] → length xs ≡ length events → length ys ≡ length (events ++ event ∷ [])
      one_more xs ys x is same_long =
          let a = ap length is ∙ length-append xs (x ∷ []) in let c = length-append events (event ∷ []) in omega (arith, a, c, same_long)

      traced_then : rec2.trace.items ≡ trace_of (e ∷ log)
      traced_then =
          trace ∙ ap (λ (l : List Single). l ++ (if is_busy played.outcome then single.Whole (length rec.outcomes.items) ∷ [] else singles_as (length rec.outcomes.items) (traced event) played.steps)) so.trace
          ∙ ap (λ (n : ℕ). trace_of log ++ (if is_busy played.outcome then single.Whole n ∷ [] else singles_as n (traced event) played.steps)) (so.outcomes ∙ sym long)
          ∙ ap (λ (l : List Single). trace_of log ++ l) (singles_are (length log) e)

      -- the event has happened, too
      pub next_so : {p2 : Scheduler K V S} → Happens same hash terms log e p2 → Holds same hash terms (moment (e ∷ log)) p2
          → (Runs same hash terms log p → IsLegal same terms log e × Runs same hash terms (e ∷ log) p2 × HandsInOrder log e) → SoFar same hash terms (events ++ event ∷ []) rec2 tally2 p2
      next_so {p2} happens holds on = record {
        outcomes = one_more rec.outcomes.items rec2.outcomes.items played.outcome outcomes so.outcomes;
        steps = one_more rec.steps.items rec2.steps.items played.steps steps so.steps;
        effects = one_more rec.effects.items rec2.effects.items played.effects effects so.effects;
        trace = traced_then ∙ ap trace_of (sym more);
        goes = subst (AtEachEvent (GoesRight terms)) (sym more)
            (record { right = (on so.runs).0.right; makes = happens.makes; does = happens.does; is_quiet = happens.is_quiet }, so.goes);
        holds = subst (λ (l : List (Entry K V)). Holds same hash terms (moment l) p2) (sym more) holds;
        told = subst (λ (l : List (Entry K V)). RecordsMoment tally2 (moment l)) (sym more) tells_then;
        legal = subst (IsLegalLog same terms) (sym more) ((on so.runs).0, so.legal);
        hands = subst (AtEachEvent HandsInOrder) (sym more) ((on so.runs).2, so.hands);
        runs = subst (λ (l : List (Entry K V)). Runs same hash terms l p2) (sym more) (on so.runs).1;
      }

      -- and what it reclaims has come back
      pub back_so : {b0 b1 : List (Pair K V)} → BackSoFar log b0 → (ReclaimsBy event played.effects.items → ComesBack (moment log).stored played.effects.items b0 b1)
          → BackSoFar (log_so (events ++ event ∷ []) rec2) b1
      back_so {b0} {b1} before comes = subst (λ (l : List (Entry K V)). BackSoFar l b1) (sym more) (λ right.
          (let c = comes right.0 in
          subst (AreBack (moment (e ∷ log))) (sym c.follow) (back_then e (moment log) b0 c.more (before right.1) c.reclaimed c.contents)))

-- before all events
pub none_so : {K V : Type 0} (rec : Record V) → rec.outcomes.items ≡ [] → rec.steps.items ≡ [] → rec.effects.items ≡ [] → log_so {K = K} {V = V} [] rec ≡ []
none_so rec outcomes steps effects = λ i. log_on [] [] (outcomes i) (steps i) (map (λ v. v.items) (effects i))

pub start_so : {K V S : Type 0} (same : K → K → Bool) (hash : K → ℕ) (terms : Terms) (rec : Record V) (tally : Tally) (p : Scheduler K V S) → rec.outcomes.items ≡ [] → rec.steps.items ≡ [] → rec.effects.items ≡ []
    → rec.trace.items ≡ [] → tally.pairs.items ≡ [] → tally.behind.items ≡ [] → tally.tables.items ≡ []
    → Holds same hash terms (start {K = K} {V = V}) p → Runs same hash terms [] p → SoFar same hash terms [] rec tally p
start_so {K} {V} same hash terms rec tally p outcomes steps effects trace pairs behind flags holds runs = record {
  outcomes = ap length outcomes;
  steps = ap length steps;
  effects = ap length effects;
  trace = trace ∙ ap trace_of (sym none);
  goes = subst (AtEachEvent (GoesRight terms)) (sym none) tt;
  holds = subst (λ (l : List (Entry K V)). Holds same hash terms (moment l) p) (sym none) holds;
  told = subst (λ (l : List (Entry K V)). RecordsMoment tally (moment l)) (sym none) (record {
    pairs = λ n. ap (λ (l : List Whereabouts). slice_index_or l n Unborn) pairs;
    behind = ap (map deferral) behind;
    flags = flags;
    places = subst (Leads tally.places) (sym flags) (λ whole. tt);
  });
  legal = subst (IsLegalLog same terms) (sym none) tt;
  hands = subst (AtEachEvent HandsInOrder) (sym none) tt;
  runs = subst (λ (l : List (Entry K V)). Runs same hash terms l p) (sym none) runs;
}
  where
    none : log_so {K = K} {V = V} [] rec ≡ []
    none = none_so rec outcomes steps effects

pub back_first : {K V : Type 0} (rec : Record V) (b : List (Pair K V)) → rec.outcomes.items ≡ [] → rec.steps.items ≡ [] → rec.effects.items ≡ [] → b ≡ [] → BackSoFar (log_so [] rec) b
back_first {K} {V} rec b outcomes steps effects none =
    subst (λ (l : List (Entry K V)). BackSoFar l b) (sym (none_so rec outcomes steps effects))
    (λ right. subst (AreBack (start {K = K} {V = V})) (sym none) (record { told = refl; contents = tt }))

-- What is told of maps.
module _ {K V : Type 0} (m : Moment K V) (tally : Tally) (tells : RecordsMoment tally m) where
  pub maps_shown : (living : List Living) (maps : List NamedMap) (there : List MapThere) → map shown_of living ≡ map (map_reported tally) maps → map named there ≡ map named_of maps → ListsMaps living there m
  maps_shown [] [] [] a c = tt
  maps_shown [] [] (f ∷ there) a c = absurd (cc c)
  maps_shown [] (t ∷ maps) there a c = absurd (cc a)
  maps_shown (l ∷ living) [] there a c = absurd (cc a)
  maps_shown (l ∷ living) (t ∷ maps) [] a c = absurd (cc c)
  maps_shown (l ∷ living) (t ∷ maps) (f ∷ there) a c =
      let first : shown_of l ≡ map_reported tally t = head_is (shown_of l) (map_reported tally t) _ _ a in
      let named_so : named f ≡ named_of t = head_is (named f) (named_of t) _ _ c in (
        ap (λ x. x.0) first ∙ sym (ap (λ x. x.0) named_so),
        subst (λ (n : ℕ). Lists l.pairs.items (is_in_map n) m) (sym (ap (λ x. x.1) named_so))
            (subst (λ (l2 : List ℕ). Lists l2 (is_in_map t.number) m) (sym (ap (λ x. x.1) first)) (lists_map tally m tells t.number)),
        maps_shown living maps there (tail_is _ _ _ _ a) (tail_is _ _ _ _ c),
      )
    where
      head_is : {X : Type 0} (x y : X) (xs ys : List X) → ◌≡◌ {A = List X} (x ∷ xs) (y ∷ ys) → x ≡ y
      head_is x y xs ys e = cc e

      tail_is : {X : Type 0} (x y : X) (xs ys : List X) → ◌≡◌ {A = List X} (x ∷ xs) (y ∷ ys) → xs ≡ ys
      tail_is x y xs ys e = cc e

  -- how many tables wait
  counted_so : (tables : List TableThere) → counted (map flag_of tables) ≡ length (filter (λ u. is_retired u.stage) tables)
  counted_so [] = refl
  counted_so (u ∷ tables) = by (is_retired u.stage) (counted_so tables)
    where
      by : (q : Bool) → counted (map flag_of tables) ≡ length (filter (λ v. is_retired v.stage) tables)
          → length (if q then flag_of u ∷ filter (λ v. v.is_retired) (map flag_of tables) else filter (λ v. v.is_retired) (map flag_of tables))
          ≡ length (if q then u ∷ filter (λ v. is_retired v.stage) tables else filter (λ v. is_retired v.stage) tables)
      by true ih = ap suc ih
      by false ih = ih

  pub tables_told : counted tally.tables.items ≡ length (filter (λ u. is_retired u.stage) m.tables)
  tables_told = ap counted tells.flags ∙ counted_so m.tables

-- The run of a schedule whose events have all happened.
module _ {K V S : Type 0} (same : K → K → Bool) (hash : K → ℕ) (terms : Terms) (events : List (Event K V)) (rec : Record V) (tally : Tally) (p : Scheduler K V S) (so : SoFar same hash terms events rec tally p) where
  pub run_so : (run : Run K V) → run.outcomes ≡ rec.outcomes → run.steps ≡ rec.steps → run.effects ≡ rec.effects → run.trace ≡ rec.trace → ReportsMost (moment (log_so events rec)) run
      → (AtEachEvent ReclaimsRight (log_so events rec) → ReportsBack (moment (log_so events rec)) run) → IsRightRun terms events run
  run_so run outcomes steps effects trace tells back =
      let same_log : log_of events run ≡ log_so events rec = λ i. log_on [] events (outcomes i).items (steps i).items (map (λ v. v.items) (effects i).items) in
      record {
        outcomes = ap (λ v. length v.items) outcomes ∙ so.outcomes;
        steps = ap (λ v. length v.items) steps ∙ so.steps;
        effects = ap (λ v. length v.items) effects ∙ so.effects;
        trace = ap (λ v. v.items) trace ∙ so.trace ∙ ap trace_of (sym same_log);
        goes = subst (AtEachEvent (GoesRight terms)) (sym same_log) so.goes;
        tells = subst (λ (l : List (Entry K V)). ReportsMost (moment l) run) (sym same_log) tells;
        back = subst (λ (l : List (Entry K V)). ReportsBack (moment l) run) (sym same_log) (back (all_reclaim_right same terms (log_so events rec) so.legal));
      }

  -- and it has all that is promised of one
  pub whole_so : (run : Run K V) → run.outcomes ≡ rec.outcomes → run.steps ≡ rec.steps → run.effects ≡ rec.effects → run.trace ≡ rec.trace → ReportsMost (moment (log_so events rec)) run
      → (AtEachEvent ReclaimsRight (log_so events rec) → ReportsBack (moment (log_so events rec)) run) → IsRunOf same terms events run
  whole_so run outcomes steps effects trace tells back =
      let same_log : log_of events run ≡ log_so events rec = λ i. log_on [] events (outcomes i).items (steps i).items (map (λ v. v.items) (effects i).items) in
      as_run same terms events run (run_so run outcomes steps effects trace tells back) (subst (IsLegalLog same terms) (sym same_log) so.legal)
      (subst (λ (l : List (Entry K V)). StoredAreSomewhere (moment l)) (sym same_log) so.runs.shows.order.0.somewhere)

  -- each of its events hands over in order, and so each call what it took out
  pub hands_so : AtEachEvent HandsOn (log_so events rec)
  hands_so = all_hand (log_so events rec) so.hands so.legal
    where
      all_hand : (log : List (Entry K V)) → AtEachEvent HandsInOrder log → IsLegalLog same terms log → AtEachEvent HandsOn log
      all_hand [] hands legal = tt
      all_hand (e ∷ log) hands legal = (record { order = hands.0; whole = ended_calls_fold K V terms log e hands legal.0.life }, all_hand log hands.1 legal.1)
