-- Before all events, between the steps of calls, and where an event is over, the moment says what calls on whole maps have come to, and what they are for.
use Rattle.std.specs.Prelude.{◌≡◌, ℕ, ◌+◌, ◌≤◌, ◌==◌, nat_lt, Bool, true, false, cond, List, [], ◌∷◌, find, Option, Some, if◌then◌else◌, ◌⊎◌, suc}
use Rattle.std.proofs.Common.{refl, ap, sym, subst, ◌∙◌, arith, inl, inr}
use Rattle.run_finds.specs.Given.TablesChunks.{is_incremental}
use Rattle.run_finds.specs.Given.TablesDeclared.setting.Setting.{Setting}
use Rattle.run_finds.specs.Given.ResizeSum.{summing}
use Rattle.run_finds.specs.Given.ResizeDeclared.sum.Sum.{Sum}
use Rattle.run_finds.specs.Given.ReservesDeclared.reserve.Reserving.{Reserving}
use Rattle.run_finds.specs.Given.ReservesDeclared.reserve.Reserving.TheVariants as reserving
use Rattle.run_finds.specs.Given.SweepsSweepPoints.{next_at, after_next}
use Rattle.run_finds.specs.Given.ReservesDeclared.sweep.Purpose.{Purpose}
use Rattle.run_finds.specs.Given.ReservesDeclared.sweep.Purpose.TheVariants.{Walks}
use Rattle.run_finds.specs.Given.ReservesDeclared.sweep.Sweep.{Sweep}
use Rattle.run_finds.specs.Given.ReservesDeclared.sweep.Sweeping.{Sweeping}
use Rattle.run_finds.specs.Given.ReservesDeclared.sweep.Sweeping.TheVariants as sweeping
use Rattle.run_finds.specs.Given.RunsSame.{is_same}
use Rattle.run_finds.specs.Given.RunsDeclared.call.Call.{Call}
use Rattle.run_finds.specs.Given.RunsDeclared.call.Call.TheVariants as call
use Rattle.run_finds.specs.Given.RunsDeclared.outcome.Outcome.{Outcome}
use Rattle.run_finds.specs.Given.SchedulesAfter.{with_outcome}
use Rattle.run_finds.specs.Given.SchedulesBeginning.{fresh_call, with_call}
use Rattle.run_finds.specs.Given.SchedulesLists.{OneOf}
use Rattle.run_finds.specs.Given.SchedulesMoment.{Place, MapThere, UnderWay as CallThere, Moment}
use Rattle.run_finds.specs.Given.SchedulesViews.{call_of, is_in_map, finite_map, first_or, first_of}
use Rattle.run_finds.specs.Given.RuleMaps.{spot_of}
use Rattle.run_finds.specs.Given.CallersOverAll.{CallOverAll, begun_over_all, gone_on}
use Rattle.run_finds.specs.Given.CallersRooms.{CallForRoom}
use Rattle.run_finds.specs.Given.CallersTogether.{UnderWay, OnKey, ForRoom, Counting, OverAll, in_slot}
use Rattle.run_finds.specs.Given.EffectsKnown.{Known}
use Rattle.run_finds.specs.Given.FinishesMaps.{Standing, with_call as with_in}
use Rattle.run_finds.specs.Given.FollowsCalling.{come_to}
use Rattle.run_finds.specs.Given.FollowsShows.{Refines}
use Rattle.run_finds.proofs.Given.FollowsCalled.{called_as, some_is, sweep_called}
use Rattle.run_finds.proofs.Given.FollowsCalling.{is_same_refl, come, begins_with, come_with}
use Rattle.run_finds.proofs.Given.HandsAsking.{which}
use Rattle.run_finds.specs.Given.ChangesHad.{HadThen}
use Rattle.run_finds.specs.Given.ChangesHistories.{IsWithin}
use Rattle.run_finds.proofs.Given.HistoriesCalling.{came_so}
use Rattle.run_finds.proofs.Given.ChangesFound.{map_alike}
use Rattle.run_finds.proofs.Given.ChangesLogs.{now_there, grows, further_is_past}
use Rattle.run_finds.proofs.Given.ChangesNow.{now_had}
use Rattle.run_finds.specs.Given.OthersAfter.{RefinesAfter}
use Rattle.run_finds.proofs.Given.OthersWalks.{fewer_calls, with_calls}
use Rattle.run_sweeps.specs.Purposes.Kept.{OutcomeShowsNone, CallsBeginPurposes, WalksPreservePurposes, CallsComeToPurposes, EventsPreservePurposes, FirstStepsChangePairsFirst}
use Rattle.run_finds.specs.Purposes.Purposes.{IsFor, HasAdded, RoomAt, HasMet, ShowsDone, KeysOf, HasSwept, HasCome}
use Rattle.run_finds.specs.Given.NamedMachines.{IsBefore}
use Rattle.run_sweeps.proofs.Purposes.For.{sweep_for}
use Rattle.run_sweeps.proofs.Purposes.KeysOn.{keys_next}
use Rattle.run_finds.proofs.Purposes.Needs.{needs_wider, reserves_wider}
use Rattle.run_sweeps.proofs.Purposes.Present.{begins_within}
use Rattle.run_sweeps.proofs.Purposes.Shown.{IsStill, same_still, comes_still}
use Rattle.run_sweeps.proofs.Purposes.Still.{come_still, for_still}
use Rattle.run_finds.proofs.Purposes.Sums.{added_wider, counts_wider}
use Rattle.run_sweeps.proofs.Purposes.Within.{pairs_within_moments}
use Rattle.run_finds.specs.Given.ScenesBeginning.{Begins}
use Rattle.run_finds.specs.Given.ScenesHeld.{Held, IsAt}
use Rattle.run_finds.specs.Given.ScenesReplying.{scene_with}
use Rattle.run_finds.specs.Given.ScenesScene.{Scene, slot_of}
use Rattle.run_finds.specs.Given.SchedulesTransition.{Past, further}
use Rattle.std.specs.List.{AllByRecursion}
use Rattle.run_finds.proofs.Given.FollowsContents.{Lasts}
use Rattle.run_finds.proofs.Given.General.{same_some as one_of}

-- an event that is over adds its moment
module _ {K V : Type 0} (same : K → K → Bool) (log : Past K V) (next : Moment K V) (c : CallThere K V) (before : c.begun ≤ log.entries) where
  wider : (P : Moment K V → Type 0) → OneOf P (log.since c.begun) → OneOf P ((further next log).since c.begun)
  wider P there = subst (OneOf P) (sym (grows next log c.begun (omega (arith, before)))) (inr there)

  pub event_come : (of : ℕ) (st : Standing K) (number : ℕ → ℕ) (m : Moment K V) (u : UnderWay K V K) → HasCome same of st number log m u c → HasCome same of st number (further next log) m u c
  event_come of st number m (OnKey u) h = tt
  event_come of st number m (ForRoom r) h = record {
    low = h.low;
    was = wider (λ x. first_of of x ≤ h.low) h.was;
    root = h.root;
    point = point r.reserve.stands h.point;
    reserves = reserves_wider of (log.since c.begun) ((further next log).since c.begun) wider r.reserve r.reserve.stands h.reserves;
    needs = needs_wider of (log.since c.begun) ((further next log).since c.begun) wider r.reserve r.reserve.stands h.needs;
  }
    where
      point : (stands : Reserving) → RoomAt of (log.since c.begun) h.low stands → RoomAt of ((further next log).since c.begun) h.low stands
      point reserving.Reads is = is
      point (reserving.Makes making) is = (is.0, λ n. counts_wider of (log.since c.begun) ((further next log).since c.begun) wider n 0 (is.1 n))
      point (reserving.Sums table sum) is = (is.0, added_wider of (log.since c.begun) ((further next log).since c.begun) wider sum.setting.mask sum.stands is.1)
      point (reserving.Follows table need) is = is
      point (reserving.Grows table making) is = is
      point (reserving.Copies copier) is = is
      point reserving.Over is = is
      point (reserving.Refused fault) is = is
  event_come of st number m (Counting sum) h = added_wider of (log.since c.begun) ((further next log).since c.begun) wider sum.setting.mask sum.stands h
  event_come of st number m (OverAll o) h = record {
    within = pairs_within_moments of st number (m ∷ log.since c.begun) (m ∷ (further next log).since c.begun) o.began (λ n q one. more n q one) h.within;
    stored = h.stored;
    tells = h.tells;
    none = h.none;
    keys = h.keys;
    classes = classes;
  }
    where
      more : (n : ℕ) (q : Bool) → OneOf (λ (x : Moment K V). is_in_map of (x.place n) ≡ q) (m ∷ log.since c.begun) → OneOf (λ (x : Moment K V). is_in_map of (x.place n) ≡ q) (m ∷ (further next log).since c.begun)
      more n q (inl is) = inl is
      more n q (inr there) = inr (wider (λ x. is_in_map of (x.place n) ≡ q) there)

      classes : IsWithin same of st number (m ∷ (further next log).since c.begun) o.began
      classes time from to k = by (h.classes time from to k)
        where
          by : OneOf (λ (x : Moment K V). HadThen same st number time k (finite_map same of x k)) (m ∷ log.since c.begun)
              → OneOf (λ (x : Moment K V). HadThen same st number time k (finite_map same of x k)) (m ∷ (further next log).since c.begun)
          by (inl is) = inl is
          by (inr there) = inr (wider (λ x. HadThen same st number time k (finite_map same of x k)) there)

pub events_keep_purposes : (K V : Type 0) (same : K → K → Bool) → EventsPreservePurposes K V same
events_keep_purposes K V same name log m known s purposes counted = record {
  past = further_is_past m log counted;
  lasts = λ begun. further_lasts (nat_lt (suc log.entries) begun) (log.since begun) (purposes.lasts begun);
  shown = purposes.shown;
  begun = λ n i u is c found. (let b = purposes.begun n i u is c found in omega (arith, b));
  is_for = purposes.is_for;
  come = λ n i u is st there c found. event_come same log m c (purposes.begun n i u is c found) n st (purposes.shown.number n) m u (purposes.come n i u is st there c found);
}
  where
    further_lasts : (b : Bool) (moments : List (Moment K V)) → AllByRecursion (λ (x : Moment K V). Lasts x.stored m.stored) moments
        → AllByRecursion (λ (x : Moment K V). Lasts x.stored m.stored) (if b then [] else m ∷ moments)
    further_lasts true moments all = tt
    further_lasts false moments all = (λ n pair is. is, all)

-- a call that comes to an outcome that tells of no pair
come_so : {K V : Type 0} (named : Type 0) (o : Outcome V) → OutcomeShowsNone o → (steps : ℕ) (c d : CallThere K V) → (d ≡ c) ⊎ ((d ≡ come o steps c) × named) → IsStill c d
come_so {K} {V} named o none steps c d (inl e) = subst (IsStill c) (sym e) (same_still c)
come_so {K} {V} named o none steps c d (inr e) = subst (IsStill c) (sym e.0) so
  where
    its : CallThere K V
    its = record c { steps = c.steps + steps }

    so : IsStill c (with_outcome o its)
    so = let h = comes_still o none its in record { call = h.call; begun = h.begun; replies = h.replies; shown = h.shown; map = h.map }

pub calls_come_to_purposes : (K V : Type 0) (same : K → K → Bool) → CallsComeToPurposes K V same
calls_come_to_purposes K V same name log m known s purposes own o steps none ended = record {
  past = purposes.past;
  lasts = purposes.lasts;
  shown = b.0;
  begun = λ n j x is d d_is. (let c = purposes.shown.calls n j x is in subst (λ (z : ℕ). z ≤ log.entries) (sym (still n j x is c.0 c.1 d d_is).begun) (purposes.begun n j x is c.0 c.1));
  is_for = λ n j x is d d_is. (let c = purposes.shown.calls n j x is in for_still c.0 d (still n j x is c.0 c.1 d d_is) x (purposes.is_for n j x is c.0 c.1));
  come = λ n j x is st there d d_is.
      let c = purposes.shown.calls n j x is in
      subst (λ (f : ℕ → ℕ → ℕ). HasCome same n st (f n) log (come_to own o steps m) x d) (sym b.1)
      (come_still same n st (purposes.shown.number n) log m (come_to own o steps m) refl refl c.0 d (still n j x is c.0 c.1 d d_is) x (purposes.come n j x is st there c.0 c.1));
}
  where
    b : (after : Refines same name (come_to own o steps m) known s) × (after.number ≡ purposes.shown.number)
    b = come_with same name m known s purposes.shown own o steps ended

    still : (n j : ℕ) (x : UnderWay K V K) → s.calls n j ≡ Some x → (c : CallThere K V) → call_of (name j) m ≡ Some c → (d : CallThere K V) → call_of (name j) (come_to own o steps m) ≡ Some d → IsStill c d
    still n j x is c c_is d d_is = come_so (is_same (name j) own ≡ true) o none steps c d (came_so same name m s own o steps ended n j x is c c_is d d_is)

-- a call that begins
module _ {K V : Type 0} (same : K → K → Bool) (hash : ℕ → K → ℕ) (name : ℕ → List ℕ) (log : Past K V) (m : Moment K V) (known : Known) (s : Scene K V) (e : Held K V)
    (at : IsAt same hash e s) (shown : Refines same name m known s) (of i : ℕ) (st : Standing K) (there : s.maps of ≡ Some st) (m2 : Moment K V) (place : m2.place ≡ m.place) (stored : m2.stored ≡ m.stored)
    (c : CallThere K V) (shows : c.shown ≡ []) (was : OneOf (λ x. first_of of x ≤ st.chart.first) (log.since c.begun)) where
  none_told : (its : Call K V) (number : ℕ → ℕ) → ShowsDone its number [] c
  none_told (call.On one) number = tt
  none_told (call.Reserve n) number = tt
  none_told call.Clear number = tt
  none_told call.Retain number = tt
  none_told call.Len number = tt
  none_told call.Walk number = shows

  sum_begins : (setting : Setting) → HasAdded of (log.since c.begun) (summing setting).setting.mask (summing setting).stands
  sum_begins setting = (0, refl, omega arith)

  now_then : (k : K) → HadThen same st (shown.number of) st.chart.now k (finite_map same of m2 k)
  now_then k =
      subst (HadThen same st (shown.number of) st.chart.now k) (sym (map_alike same of k m m2 place stored))
      (now_had same of (shown.number of) st m known s.world (s.calls of) (at.together.makings.standing.fit of st there).0 (at.together.makings.standing.each of st there) (shown.maps of st there).pairs shown.blocks k)

  sweep_begins : (setting : Setting) (purpose : Purpose) → HasSwept same of st (shown.number of) (m2 ∷ log.since c.begun) (begun_over_all st.chart.now setting purpose) c
  sweep_begins setting purpose = record {
    within = begins_within same hash name m known s e at shown of st there m2 (log.since c.begun) place;
    stored = tt;
    tells = none_told c.call (shown.number of);
    none = λ walks first. refl;
    keys = λ walks. (tt, tt);
    classes = λ time from to k. inl (subst (λ (t : ℕ). HadThen same st (shown.number of) t k (finite_map same of m2 k)) (omega (arith, from, to)) (now_then k));
  }

  pub begins_come : (u : UnderWay K V K) → Begins same st i u → HasCome same of st (shown.number of) log m2 u c
  begins_come (OnKey u) begins = tt
  begins_come (ForRoom r) (additional, is) =
      subst (λ (x : CallForRoom). HasMet of st (log.since c.begun) x) (sym is) (record { low = st.chart.first; was = was; root = omega arith; point = tt; reserves = tt; needs = tt })
  begins_come (Counting sum) begins = subst (λ (x : Sum). HasAdded of (log.since c.begun) x.setting.mask x.stands) (sym begins) (sum_begins (in_slot st.setting (slot_of i)))
  begins_come (OverAll o) (purpose, is) =
      subst (λ (x : CallOverAll). HasSwept same of st (shown.number of) (m2 ∷ log.since c.begun) x c) (sym is) (sweep_begins (in_slot st.setting (slot_of i)) purpose)

pub calls_begin_purposes : (K V : Type 0) (same : K → K → Bool) (hash : ℕ → K → ℕ) → CallsBeginPurposes K V same hash
calls_begin_purposes K V same hash name log m known s e at purposes of i u its guard standing there begins apart called is_for events same_maps = record {
  past = purposes.past;
  lasts = purposes.lasts;
  shown = b.0;
  begun = λ n j x is d d_is. begun_one n j x d (which_call n j x d d_is (which s.calls of i (Some u) n j x is));
  is_for = λ n j x is d d_is. for_one n j x d (which_call n j x d d_is (which s.calls of i (Some u) n j x is));
  come = λ n j x is st st_is d d_is.
      subst (λ (f : ℕ → ℕ → ℕ). HasCome same n st (f n) log m2 x d) (sym b.1) (come_one n j x d st st_is (which_call n j x d d_is (which s.calls of i (Some u) n j x is)));
}
  where
    m2 : Moment K V
    m2 = with_call (name i) guard its (Some of) m

    fresh : CallThere K V
    fresh = fresh_call (name i) guard its of m.events

    b : (after : Refines same name m2 known (scene_with of i u s)) × (after.number ≡ purposes.shown.number)
    b = begins_with same name m known s purposes.shown of i u its guard apart called

    -- the root is where it was as the last event ended
    first_was : OneOf (λ x. first_of of x ≤ standing.chart.first) (log.since m.events)
    first_was =
        let shows = (purposes.shown.maps of standing there).there in
        let is : first_of of log.now ≡ standing.chart.first =
        ap (λ (fs : List MapThere). first_or (find (λ f. f.number == of) fs)) (sym same_maps) ∙ ap first_or shows.is ∙ shows.first in
        now_there log purposes.past (λ x. first_of of x ≤ standing.chart.first) m.events (omega (arith, events)) (omega (arith, is))

    -- it is this one, or was there
    One : ℕ → ℕ → UnderWay K V K → CallThere K V → Type 0
    One n j x d = ((n ≡ of) × (x ≡ u) × (d ≡ fresh)) ⊎ ((s.calls n j ≡ Some x) × (call_of (name j) m ≡ Some d))

    found_now : (j : ℕ) (q : Bool) → is_same (name i) (name j) ≡ q → (d : CallThere K V) → call_of (name j) m2 ≡ Some d → cond q (Some fresh) (call_of (name j) m) ≡ Some d
    found_now j q e d d_is = sym (ap (λ z. cond z (Some fresh) (find (λ c. is_same c.caller (name j)) m.calls)) e) ∙ d_is

    which_call : (n j : ℕ) (x : UnderWay K V K) (d : CallThere K V) → call_of (name j) m2 ≡ Some d
        → ((n ≡ of) × (j ≡ i) × (◌≡◌ {A = Option (UnderWay K V K)} (Some u) (Some x))) ⊎ ((n ≡ of → j ≡ i → ⊥) × (s.calls n j ≡ Some x)) → One n j x d
    which_call n j x d d_is (inl a) =
        inl (a.0, one_of x u (sym a.2), one_of d fresh (sym (found_now j true (ap (λ (k : ℕ). is_same (name i) (name k)) a.1 ∙ is_same_refl (name i)) d d_is)))
    which_call n j x d d_is (inr was) = inr (was.1, found_now j false (apart n j x was.1) d d_is)

    begun_one : (n j : ℕ) (x : UnderWay K V K) (d : CallThere K V) → One n j x d → d.begun ≤ log.entries
    begun_one n j x d (inl a) = (let one = ap (λ (z : CallThere K V). z.begun) a.2 in omega (arith, one, events))
    begun_one n j x d (inr was) = purposes.begun n j x was.0 d was.1

    for_one : (n j : ℕ) (x : UnderWay K V K) (d : CallThere K V) → One n j x d → IsFor x d.call
    for_one n j x d (inl a) = subst (λ (y : UnderWay K V K). IsFor y d.call) (sym a.1) (subst (λ (f : CallThere K V). IsFor u f.call) (sym a.2) is_for)
    for_one n j x d (inr was) = purposes.is_for n j x was.0 d was.1

    come_one : (n j : ℕ) (x : UnderWay K V K) (d : CallThere K V) (st : Standing K) → s.maps n ≡ Some st → One n j x d → HasCome same n st (purposes.shown.number n) log m2 x d
    come_one n j x d st st_is (inl a) =
        subst (λ (k : ℕ). HasCome same k st (purposes.shown.number k) log m2 x d) (sym a.0)
        (subst (λ (y : UnderWay K V K). HasCome same of st (purposes.shown.number of) log m2 y d) (sym a.1)
        (subst (λ (f : CallThere K V). HasCome same of st (purposes.shown.number of) log m2 u f) (sym a.2)
        (subst (λ (z : Standing K). HasCome same of z (purposes.shown.number of) log m2 u fresh) (one_of standing st (sym there ∙ ap s.maps (sym a.0) ∙ st_is))
        (begins_come same hash name log m known s e at purposes.shown of i standing there m2 refl refl fresh refl first_was u begins))))
    come_one n j x d st st_is (inr was) =
        come_still same n st (purposes.shown.number n) log m m2 refl refl d d (same_still d) x (purposes.come n j x was.0 st st_is d was.1)

-- a walk that is asked for its next pair goes over its table, or is over
next_over : (p : Sweep) → p.stands ≡ sweeping.Ready → IsBefore (after_next p).stands → ⊥
next_over p ready before = at_ready p.stands ready before
  where
    by : (q : Bool) → IsBefore (if q then sweeping.Words else sweeping.Over) → ⊥
    by true never = never
    by false never = never

    at_ready : (stands : Sweeping) → stands ≡ sweeping.Ready → IsBefore (next_at stands p).stands → ⊥
    at_ready sweeping.Ready e first = by (nat_lt p.place p.table.len) first
    at_ready _ e first = absurd (cc e)

next_purpose : (p : Sweep) → (after_next p).purpose ≡ p.purpose
next_purpose p = by p.stands
  where
    by : (stands : Sweeping) → (next_at stands p).purpose ≡ p.purpose
    by sweeping.Ready = refl
    by _ = refl

pub walks_go_on_purposes : (K V : Type 0) (same : K → K → Bool) → WalksPreservePurposes K V same
walks_go_on_purposes K V same name log m known s purposes of i o here ready = record {
  past = purposes.past;
  lasts = purposes.lasts;
  shown = b.shows;
  begun = λ n j x is d d_is. (let was = which_call n j x (which s.calls of i (Some next) n j x is) in purposes.begun n j was.0 was.1 d d_is);
  is_for = λ n j x is d d_is. for_one n j x d d_is (which s.calls of i (Some next) n j x is);
  come = λ n j x is st st_is d d_is.
      subst (λ (f : ℕ → ℕ). HasCome same n st f log m x d) (sym (b.numbers n st st_is)) (come_one n j x st st_is d d_is (which s.calls of i (Some next) n j x is));
}
  where
    o2 : CallOverAll
    o2 = gone_on o (after_next o.sweep)

    next : UnderWay K V K
    next = OverAll o2

    b : RefinesAfter same name m known s purposes.shown m known (scene_with of i next s)
    b = with_calls same name m known s (with_in s.calls of i (Some next))
        (fewer_calls same name m s.calls of i (OverAll o) here (Some next) (λ x e its called. called_as same x next its (some_is next x e) (sweep_called same o o2 its called)) purposes.shown.calls)
        purposes.shown

    Which : ℕ → ℕ → UnderWay K V K → Type 0
    Which n j x = ((n ≡ of) × (j ≡ i) × (◌≡◌ {A = Option (UnderWay K V K)} (Some next) (Some x))) ⊎ ((n ≡ of → j ≡ i → ⊥) × (s.calls n j ≡ Some x))

    which_call : (n j : ℕ) (x : UnderWay K V K) → Which n j x → (y : UnderWay K V K) × (s.calls n j ≡ Some y)
    which_call n j x (inl a) = (OverAll o, ap (λ (k : ℕ). s.calls k j) a.0 ∙ ap (s.calls of) a.1 ∙ here)
    which_call n j x (inr was) = (x, was.1)

    for_one : (n j : ℕ) (x : UnderWay K V K) (d : CallThere K V) → call_of (name j) m ≡ Some d → Which n j x → IsFor x d.call
    for_one n j x d d_is (inl a) =
        subst (λ (y : UnderWay K V K). IsFor y d.call) (one_of next x a.2)
        (sweep_for d.call o o2 (next_purpose o.sweep) (purposes.is_for n j (OverAll o) (ap (λ (k : ℕ). s.calls k j) a.0 ∙ ap (s.calls of) a.1 ∙ here) d d_is))
    for_one n j x d d_is (inr was) = purposes.is_for n j x was.1 d d_is

    own : (n : ℕ) (st : Standing K) (d : CallThere K V) → HasSwept same n st (purposes.shown.number n) (m ∷ log.since d.begun) o d → HasSwept same n st (purposes.shown.number n) (m ∷ log.since d.begun) o2 d
    own n st d h = record { within = h.within; stored = h.stored; tells = h.tells; none = λ walks first. absurd (next_over o.sweep ready first); keys = keys st h; classes = h.classes }
      where
        keys : (st : Standing K) → HasSwept same n st (purposes.shown.number n) (m ∷ log.since d.begun) o d → o2.sweep.purpose ≡ Walks → KeysOf same st o2
        keys st h walks =
            let it = h.keys (sym (next_purpose o.sweep) ∙ walks) in (keys_next same (spot_of st.hash) (is_incremental st.setting.mode) st.chart o.began o.done o.sweep ready it.0, it.1)

    come_one : (n j : ℕ) (x : UnderWay K V K) (st : Standing K) → s.maps n ≡ Some st → (d : CallThere K V) → call_of (name j) m ≡ Some d → Which n j x → HasCome same n st (purposes.shown.number n) log m x d
    come_one n j x st st_is d d_is (inl a) =
        subst (λ (y : UnderWay K V K). HasCome same n st (purposes.shown.number n) log m y d) (one_of next x a.2)
        (own n st d (purposes.come n j (OverAll o) (ap (λ (k : ℕ). s.calls k j) a.0 ∙ ap (s.calls of) a.1 ∙ here) st st_is d d_is))
    come_one n j x st st_is d d_is (inr was) = purposes.come n j x was.1 st st_is d d_is

pub first_steps_change_pairs_first : (K V : Type 0) → FirstStepsChangePairsFirst K V
first_steps_change_pairs_first K V log m v of begun n = inr (ap (λ (f : ℕ → Place). is_in_map of (f n)) begun.0)
