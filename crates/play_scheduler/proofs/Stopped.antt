-- A walk that shows pairs is given up.
use Rattle.std.specs.Prelude.{◌≡◌, ◌≢◌, ◌⊎◌, ◌+◌, ◌==◌, ◌&&◌, cond, ℕ, Bool, true, false, List, map, position, slice_get, is_some, Option, Some, None}
use Rattle.std.specs.List.{AllByRecursion, list_any, remove}
use Rattle.std.proofs.Common.{refl, sym, ap, subst, ◌∙◌, inl, inr, arith, eqb-true}
use Rattle.std.proofs.lemmas.Bool.{cases_eq, ne_eqb}
use Rattle.seize_words.specs.declared.fault.Fault.TheVariants.{Busy}
use Rattle.seize.specs.World.{Rests}
use Rattle.papaya_raw.specs.Machine.{is_ready as sweep_is_ready, machine_asked}
use Rattle.papaya_raw.specs.declared.machines.machine.Machine.{Machine}
use Rattle.papaya_raw.specs.declared.machines.machine.Machine.TheVariants as kinds
use Rattle.papaya_raw.specs.Given.ReservesDeclared.sweep.Sweeping.{Sweeping}
use Rattle.run_schedules.specs.Runs.Same.{is_same}
use Rattle.run_schedules.specs.declared.event.Event.TheVariants.{Stop}
use Rattle.run_schedules.specs.declared.outcome.Outcome.TheVariants.{Done, Refused}
use Rattle.run_schedules.specs.Schedules.After.{is_alone_on, moment}
use Rattle.run_schedules.specs.Schedules.Coming.{is_ready, shows_now}
use Rattle.run_schedules.specs.Schedules.Entry.{Entry}
use Rattle.run_schedules.specs.Schedules.InTurn.{IsDone}
use Rattle.run_schedules.specs.Schedules.Moment.{CallState, Going, Asking, Told, IsReady, UnderWay as CallThere, Moment}
use Rattle.run_schedules.specs.Schedules.Terms.{Terms}
use Rattle.run_schedules.specs.Schedules.Views.{call_of}
use Rattle.run_shows.specs.Given.CallersSights.{seen_by}
use Rattle.run_shows.specs.Given.CallersTogether.{UnderWay, OnKey, ForRoom, Counting, OverAll, Together, IsAtPoint as TogetherStands}
use Rattle.run_shows.specs.Given.LateToldSweeps.{IsRowOfSweep}
use Rattle.papaya_raw.specs.Given.ReservesDeclared.sweep.Sweeping.TheVariants as sweeping
use Rattle.run_shows.proofs.Given.CallersTogether.At.{at_other, at_same}
use Rattle.run_shows.specs.Given.FinishesMachines.{machine_of}
use Rattle.run_shows.specs.Given.FinishesMaps.{Standing, with_call as with_call_of}
use Rattle.run_shows.specs.Follows.Calling.{NoneNamed}
use Rattle.run_shows.proofs.Follows.Calling.{apart_back, is_same_refl}
use Rattle.run_logged.specs.Log.Calling.{WalkStops}
use Rattle.run_logged.specs.Log.Shown.{IsShown}
use Rattle.run_logged.specs.declared.logged.Logged.{Logged}
use Rattle.run_shows.specs.Others.Walks.{given_up}
use Rattle.run_executor.specs.Named.Machines.{IsAsFar}
use Rattle.play_scheduler.specs.Played.{CallsAre, IsInTurn, IsUnderWay, Plays, RefinesFor}
use Rattle.run_executor.specs.Named.Seen.{Seen, far_of, if_ready, is_named, is_ready as is_ready_there, ready_place, seen, seen_of, shows}
use Rattle.run_executor.specs.declared.caller.NamedCaller.{NamedCaller}
use Rattle.run_executor.specs.declared.caller.Stands.{Stands as HowFar}
use Rattle.run_executor.specs.declared.caller.Stands.TheVariants as far
use Rattle.run_executor.specs.declared.kind.CallKind.{CallKind}
use Rattle.play_scheduler.specs.declared.scheduler.Scheduler.{Scheduler}
use Rattle.run_logged.proofs.Rows.Facts.{no_ending_of, no_making_of, no_work_at, row_rests, used_still}
use Rattle.play_scheduler.proofs.Here.{Here, here_at, there_is}
use Rattle.run_logged.proofs.Rows.Lists.{one_of, removed_all, removed_any, removed_at, removed_count}
use Rattle.play_scheduler.proofs.Quiet.{stands_on}
use Rattle.play_scheduler.proofs.Rights.{in_turn, out_of_turn, plays, quiet}
use Rattle.run_executor.specs.Executing.IsThere.{held_by, work_of}
use Rattle.run_shows.proofs.Scenes.May.{standing_is}
use Rattle.run_shows.specs.Scenes.Replying.{unless_stopped}
use Rattle.run_shows.specs.Scenes.Scene.{HasCall, Scene, slot_of}
use Rattle.seize_words.proofs.General.{none_is as nothing}

shows_seen : (stands : CallState) → is_ready stands ≡ shows (far_of stands)
shows_seen Going = refl
shows_seen (Asking question) = refl
shows_seen Told = refl
shows_seen IsReady = refl

pub shows_is : (how : HowFar) → shows how ≡ true → how ≡ far.Ready
shows_is far.Ready e = refl
shows_is far.Goes e = absurd (cc e)
shows_is (far.Asks question) e = absurd (cc e)

-- a machine that shows pairs may be given up
pub asked_ready : {K V : Type 0} (kind : CallKind) (machine : Machine K V K) → IsAsFar kind far.Ready machine → (machine_asked machine).1 ≡ true
asked_ready kind (kinds.Sweep c) is = ap (λ (x : Sweeping). sweep_is_ready x) is.1
asked_ready kind (kinds.Key call) is = absurd is
asked_ready kind (kinds.Reserve c) is = absurd is
asked_ready kind (kinds.Count c) is = absurd is

module _ {K V S : Type 0} (same : K → K → Bool) (hash : K → ℕ) (terms : Terms) (log : List (Entry K V)) (p : Scheduler K V S) (own : List ℕ) where
  abbrev m : Moment K V
  m = moment log

  abbrev calls : List (NamedCaller V)
  calls = p.calls

  module _ (stands : RefinesFor same hash terms m p) where
    -- a walk of this name shows pairs just where it has a place
    module _ (place : ℕ) (placed : Some place ≡ position (is_named own) calls) where
      abbrev here : Here same hash terms m p stands own place
      here = here_at same hash terms m p stands own place placed

      shows_here : shows_now (call_of own m) ≡ shows here.caller.stands
      shows_here = ap (λ (o : Option (CallThere K V)). shows_now o) here.call_is ∙ shows_seen here.call.stands ∙ ap (λ (z : Seen). shows z.far) here.as_seen

    pub shows_by : (found : Option ℕ) → found ≡ ready_place own calls → shows_now (call_of own m) ≡ is_some found
    shows_by found is = by (position (is_named own) calls) refl ∙ sym (ap is_some is)
      where
        none_shows : (o : Option (CallThere K V)) → is_some o ≡ false → shows_now o ≡ false
        none_shows None e = refl
        none_shows (Some c) e = absurd (cc e)

        one : (place : ℕ) (d : NamedCaller V) (o : Option (NamedCaller V)) → o ≡ Some d → shows d.stands ≡ is_some (cond (is_ready_there o) (Some place) None)
        one place d o e = two (shows d.stands) (is_ready_there o) (sym (ap is_ready_there e))
          where
            two : (a b : Bool) → a ≡ b → a ≡ is_some (cond b (Some place) None)
            two true b e2 = sym (ap (λ (q : Bool). is_some (cond q (Some place) None)) (sym e2))
            two false b e2 = sym (ap (λ (q : Bool). is_some (cond q (Some place) None)) (sym e2))

        by : (o : Option ℕ) → position (is_named own) calls ≡ o → shows_now (call_of own m) ≡ is_some (ready_place own calls)
        by None e = none_shows (call_of own m) (there_is same hash terms m p stands own None (sym e)) ∙ sym (ap (λ (o : Option ℕ). is_some (if_ready calls o)) e)
        by (Some place) e =
            shows_here place (sym e) ∙ one place (here place (sym e)).caller (slice_get calls place) (here place (sym e)).at
            ∙ sym (ap (λ (o : Option ℕ). is_some (if_ready calls o)) e)

    pub ready_parts : (place : ℕ) → Some place ≡ ready_place own calls → (Some place ≡ position (is_named own) calls) × (is_ready_there (slice_get calls place) ≡ true)
    ready_parts place is = by (position (is_named own) calls) refl is
      where
        by : (o : Option ℕ) → position (is_named own) calls ≡ o → Some place ≡ if_ready calls o → (Some place ≡ position (is_named own) calls) × (is_ready_there (slice_get calls place) ≡ true)
        by None e f = absurd (cc f)
        by (Some q) e f = one (is_ready_there (slice_get calls q)) refl f
          where
            one : (b : Bool) → is_ready_there (slice_get calls q) ≡ b → Some place ≡ cond b (Some q) None → (Some place ≡ position (is_named own) calls) × (is_ready_there (slice_get calls place) ≡ true)
            one true h g = let n : place ≡ q = cc g in (g ∙ sym e, ap (λ (k : ℕ). is_ready_there (slice_get calls k)) n ∙ h)
            one false h g = absurd (cc g)

  module _ (due : IsInTurn same hash terms log (Stop own) p) where
    abbrev stands : RefinesFor same hash terms m p
    stands = due.played

    abbrev s : Scene K V
    s = stands.scene

    pub not_ready : None ≡ ready_place own calls → Plays same hash terms log (quiet (Stop own) (Refused Busy)) p
    not_ready none =
        let e = quiet (Stop own) (Refused Busy) in
        plays same hash terms log (Stop own) p due e refl (out_of_turn IsDone (shows_now (call_of own m)) (Refused Busy) (shows_by stands None none) refl)
        (stands_on same hash terms m p stands (m.events + 1) (m.is_alone && is_alone_on e m) m.slots m.sheltered)

    module _ (place : ℕ) (ready : Some place ≡ ready_place own calls) where
      abbrev at_place : Here same hash terms m p stands own place
      at_place = here_at same hash terms m p stands own place (ready_parts stands place ready).0

      abbrev d : NamedCaller V
      d = at_place.caller

      abbrev i : ℕ
      i = d.number

      abbrev u : UnderWay K V K
      u = at_place.way.0

      under : s.calls d.map i ≡ Some u
      under = at_place.way.1

      name_is : stands.name i ≡ own
      name_is = at_place.way.2 ∙ at_place.named

      far_is : d.stands ≡ far.Ready
      far_is = shows_is d.stands (sym (ap is_ready_there at_place.at) ∙ (ready_parts stands place ready).1)

      pub has_call : HasCall s i
      has_call = (d.map, u, under)

      module _ (stopped : Bool) (new : Logged K V S) (stops : WalkStops same hash stands.name m s i stopped p.logged new) where
        is_stopped : stopped ≡ true
        is_stopped = (stops d.map u under).0 ∙ asked_ready d.kind (machine_of u) (subst (λ (x : HowFar). IsAsFar d.kind x (machine_of u)) far_is at_place.way.4.0)

        abbrev then_at : Scene K V
        then_at = record s { calls = with_call_of s.calls d.map i None }

        abbrev then_m : Moment K V
        then_m = given_up own true m

        abbrev calls2 : List (NamedCaller V)
        calls2 = remove calls place

        gone_then : then_at.calls d.map i ≡ None
        gone_then = ap (λ (f : ℕ → Option (UnderWay K V K)). f i) (at_same s.calls d.map _ d.map refl) ∙ at_same (s.calls d.map) i None i refl

        there_then : (n j : ℕ) → j ≢ i → then_at.calls n j ≡ s.calls n j
        there_then n j ne = by (cases_eq n d.map)
          where
            by : (n ≡ d.map) ⊎ (n ≢ d.map) → then_at.calls n j ≡ s.calls n j
            by (inl e) = ap (λ (f : ℕ → Option (UnderWay K V K)). f j) (at_same s.calls d.map _ n e) ∙ at_other (s.calls d.map) i None j ne ∙ ap (λ (x : ℕ). s.calls x j) (sym e)
            by (inr other) = ap (λ (f : ℕ → Option (UnderWay K V K)). f j) (at_other s.calls d.map _ n other)

        -- it has no other call
        none_other : (n : ℕ) → s.calls n i ≡ None → then_at.calls n i ≡ None
        none_other n none = by (cases_eq n d.map)
          where
            by : (n ≡ d.map) ⊎ (n ≢ d.map) → then_at.calls n i ≡ None
            by (inl e) = ap (λ (k : ℕ). then_at.calls k i) e ∙ gone_then
            by (inr other) = ap (λ (f : ℕ → Option (UnderWay K V K)). f i) (at_other s.calls d.map _ n other) ∙ none

        one_map : (n : ℕ) → n ≢ d.map → s.calls n i ≡ None
        one_map n ne = by (s.calls n i) refl
          where
            by : (o : Option (UnderWay K V K)) → s.calls n i ≡ o → s.calls n i ≡ None
            by None e = e
            by (Some x) e = absurd (ne (stands.shown.is_at.held.together.makings.standing.once n d.map i (λ z. cc (e, z)) (λ z. let a = under in cc (a, z))))

        none_then : (n : ℕ) → then_at.calls n i ≡ None
        none_then n = by (cases_eq n d.map)
          where
            by : (n ≡ d.map) ⊎ (n ≢ d.map) → then_at.calls n i ≡ None
            by (inl e) = ap (λ (k : ℕ). then_at.calls k i) e ∙ gone_then
            by (inr other) = none_other n (one_map n other)

        not_its : (n j : ℕ) (x : UnderWay K V K) → then_at.calls n j ≡ Some x → j ≢ i
        not_its n j x is e = let a = ap (then_at.calls n) e ∙ none_then n in cc (is, a)

        only_then : (n j : ℕ) (x : UnderWay K V K) → then_at.calls n j ≡ Some x → list_any (λ y. (y.map == n) && (y.number == j)) calls2 ≡ true
        only_then n j x is =
            let ne = not_its n j x is in
            let no : ((d.map == n) && (i == j)) ≡ false = other (d.map == n) (i == j) (ne_eqb i j (λ e. ne (sym e))) in
            removed_any (λ y. (y.map == n) && (y.number == j)) calls place d at_place.at no ∙ stands.calls.only n j x (sym (there_then n j ne) ∙ is)
          where
            other : (a b : Bool) → b ≡ false → (a && b) ≡ false
            other true b e = e
            other false b e = refl

        still : (x : NamedCaller V) → is_named own x ≡ false → IsUnderWay stands.name s p.there x → IsUnderWay stands.name then_at p.there x
        still x apart way = (way.0, there_then x.map x.number ne ∙ way.1, way.2, way.3, way.4)
          where
            ne : x.number ≢ i
            ne e = let a = subst (λ (y : List ℕ). is_same y own ≡ false) (sym way.2 ∙ ap stands.name e ∙ name_is) apart in let b = is_same_refl own in cc (a, b)

        abbrev Named : NamedCaller V → Type 0
        Named x = (is_same x.name own ≡ false) × IsUnderWay stands.name then_at p.there x

        named_then : AllByRecursion Named calls2
        named_then =
            subst (λ (k : ℕ). AllByRecursion Named (remove calls k)) (sym at_place.first)
            (removed_all (IsUnderWay stands.name s p.there) Named (is_named own) (λ x apart way. (apart, still x apart way)) calls stands.calls.each (stands.calls.once own))

        each_then : AllByRecursion (IsUnderWay stands.name then_at p.there) calls2
        each_then =
            subst (λ (k : ℕ). AllByRecursion (IsUnderWay stands.name then_at p.there) (remove calls k)) (sym at_place.first)
            (removed_all (IsUnderWay stands.name s p.there) (IsUnderWay stands.name then_at p.there) (is_named own) still calls stands.calls.each (stands.calls.once own))

        none_named : NoneNamed stands.name (stands.name i) then_at
        none_named n j x is =
            let y = one_of Named (λ y. (y.map == n) && (y.number == j)) calls2 (only_then n j x is) named_then in
            let number = eqb-true y.0.number j (second (y.0.map == n) (y.0.number == j) y.2) in
            subst (λ (a : List ℕ). is_same a (stands.name j) ≡ false) (sym name_is)
            (apart_back (stands.name j) own (subst (λ (a : List ℕ). is_same a own ≡ false) (sym y.1.1.2 ∙ ap stands.name number) y.1.0))
          where
            second : (a b : Bool) → (a && b) ≡ true → b ≡ true
            second true b e = e
            second false b e = absurd (cc e)

        -- no row is under way where a walk shows pairs
        row_of_it : (v : UnderWay K V K) → u ≡ v → s.world.row i ≡ Rests
        row_of_it (OverAll o) is = of (together.stand i (OverAll o) (under ∙ ap Some is))
          where
            st : (standing : Standing K) × (s.maps d.map ≡ Some standing)
            st = standing_is same (λ map. hash) (held_by p.logged.executor) s stands.shown.is_at.held d.map i u under

            together : Together V same st.0.hash same st.0.setting slot_of s.world st.0.chart st.0.blocks st.0.sights (s.calls d.map)
            together = stands.shown.is_at.held.together.makings.standing.each d.map st.0 st.1

            at_ready : o.sweep.stands ≡ sweeping.Ready
            at_ready = (subst (λ (x : UnderWay K V K). IsAsFar d.kind far.Ready (machine_of x)) is (subst (λ (x : HowFar). IsAsFar d.kind x (machine_of u)) far_is at_place.way.4.0)).1

            of : TogetherStands V same st.0.hash same st.0.setting slot_of s.world st.0.chart (seen_by st.0.blocks (st.0.sights (slot_of i))) i (OverAll o) → s.world.row i ≡ Rests
            of (inl (rests, knows)) = rests
            of (inr (row, is_row, knows)) = absurd (subst IsRowOfSweep at_ready is_row)
        row_of_it (OnKey x) is = absurd (subst (λ (y : UnderWay K V K). IsAsFar d.kind far.Ready (machine_of y)) is (subst (λ (y : HowFar). IsAsFar d.kind y (machine_of u)) far_is at_place.way.4.0))
        row_of_it (ForRoom r) is = absurd (subst (λ (y : UnderWay K V K). IsAsFar d.kind far.Ready (machine_of y)) is (subst (λ (y : HowFar). IsAsFar d.kind y (machine_of u)) far_is at_place.way.4.0))
        row_of_it (Counting sum) is = absurd (subst (λ (y : UnderWay K V K). IsAsFar d.kind far.Ready (machine_of y)) is (subst (λ (y : HowFar). IsAsFar d.kind y (machine_of u)) far_is at_place.way.4.0))

        shown : IsShown same hash stands.name then_m new then_at
        shown =
            subst (λ (x : List ℕ). IsShown same hash stands.name (given_up x true m) new then_at) name_is
            (subst (λ (b : Bool). IsShown same hash stands.name (given_up (stands.name i) b m) new (record s { calls = with_call_of s.calls d.map i (unless_stopped b u) })) is_stopped
            ((stops d.map u under).1 (λ e. subst (λ (b : Bool). NoneNamed stands.name (stands.name i) (record s { calls = with_call_of s.calls d.map i (unless_stopped b u) })) (sym is_stopped) none_named)))

        rests_then : (j : ℕ) → ((n : ℕ) → then_at.calls n j ≡ None) → work_of new.executor j ≡ None
        rests_then j none = by (cases_eq j i)
          where
            by : (j ≡ i) ⊎ (j ≢ i) → work_of new.executor j ≡ None
            by (inl e) = ap (work_of new.executor) e ∙ its_work
              where
                its_work : work_of new.executor i ≡ None
                its_work =
                    no_work_at same hash new.executor then_at shown.is_at i none_then
                    (nothing (s.makers i) (λ b is. let a = stands.shown.is_at.held.together.makings.alone i b is d.map in let h = under in cc (a, h)))
                    (nothing (s.enders i) (λ f is. let a = (stands.shown.is_at.held.together.alone i f is).0 d.map in let h = under in cc (a, h))) (row_of_it u refl)
            by (inr ne) =
                let before = stands.rests j (λ n. sym (there_then n j ne) ∙ none n) in
                let at_s = stands.shown.is_at in
                no_work_at same hash new.executor then_at shown.is_at j none (no_making_of same hash p.logged.executor s at_s j before) (no_ending_of same hash p.logged.executor s at_s j before)
                (row_rests same hash p.logged.executor s at_s j before)

        stands_then : (callers : List (NamedCaller V)) → callers ≡ calls2 → RefinesFor same hash terms then_m (record p { logged = new; calls = callers })
        stands_then callers items = record {
          name = stands.name;
          scene = then_at;
          shown = shown;
          given = stands.given;
          there = stands.there;
          mapped = stands.mapped;
          closed = stands.closed;
          calls = subst (λ (xs : List (NamedCaller V)). CallsAre stands.name then_at p.there then_m xs) (sym items) (record {
            listed = removed_at seen seen_of (λ (z : Seen). is_same z.name own) m.calls calls stands.calls.listed (stands.calls.once own) at_place.any
                ∙ ap (λ (k : ℕ). map seen_of (remove calls k)) (sym at_place.first);
            once = λ other. (let a = removed_count (is_named other) calls place in let b = stands.calls.once other in omega (arith, a, b));
            each = each_then;
            only = only_then;
          });
          maps = record { listed = stands.maps.listed; stand = stands.maps.stand };
          slots = λ t. used_still same hash p.logged.executor s stands.shown.is_at new.executor then_at shown.is_at t refl ∙ stands.slots t;
          rests = rests_then;
          names = stands.names;
        }

        pub done : (callers : List (NamedCaller V)) → callers ≡ calls2 → Plays same hash terms log (quiet (Stop own) Done) (record p { logged = new; calls = callers })
        done callers items =
            let e = quiet (Stop own) Done in
            let p2 = record p { logged = new; calls = callers } in
            plays same hash terms log (Stop own) p2 due e refl (in_turn IsDone (shows_now (call_of own m)) Done (shows_by stands (Some place) ready) refl)
            (stands_on same hash terms then_m p2 (stands_then callers items) (m.events + 1) (m.is_alone && is_alone_on e m) m.slots m.sheltered)
