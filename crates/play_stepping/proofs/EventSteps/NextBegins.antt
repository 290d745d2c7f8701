-- A walk that is ready is asked for its next pair: the scheduler stands on, while that walk goes over the places of its table.
use Rattle.std.specs.Prelude.{◌≡◌, ◌≢◌, ◌⊎◌, ◌==◌, ◌&&◌, ℕ, nat_lt, Bool, true, false, List, slice_set, Option, Some, None, if◌then◌else◌}
use Rattle.std.specs.List.{AllByRecursion, list_any}
use Rattle.std.proofs.Common.{refl, sym, ap, subst, ◌∙◌, inl, inr, arith}
use Rattle.std.proofs.lemmas.Bool.{cases_eq}
use Rattle.papaya_raw.specs.Given.SweepsSweepPoints.{next_at}
use Rattle.papaya_raw.specs.Given.ReservesDeclared.sweep.Purpose.{Purpose}
use Rattle.papaya_raw.specs.Given.ReservesDeclared.sweep.Purpose.TheVariants.{Walks}
use Rattle.papaya_raw.specs.Given.ReservesDeclared.sweep.Sweep.{Sweep}
use Rattle.papaya_raw.specs.Given.ReservesDeclared.sweep.Sweeping.{Sweeping}
use Rattle.papaya_raw.specs.Given.ReservesDeclared.sweep.Sweeping.TheVariants as at
use Rattle.papaya_raw.specs.Machine.{is_ready as sweep_is_ready, machine_asked}
use Rattle.papaya_raw.specs.declared.machines.machine.Machine.TheVariants as kinds
use Rattle.run_schedules.specs.Runs.Same.{is_same}
use Rattle.run_schedules.specs.Schedules.Moment.{Moment}
use Rattle.run_schedules.specs.Schedules.Terms.{Terms}
use Rattle.owner_whole.specs.Given.CallersTogether.{UnderWay, OnKey, ForRoom, Counting, OverAll}
use Rattle.owner_whole.proofs.Given.CallersTogether.At.{at_other, at_same}
use Rattle.owner_whole.specs.Given.FinishesMachines.{machine_of}
use Rattle.owner_whole.specs.Given.FinishesMaps.{Standing}
use Rattle.play_scheduler.proofs.Given.FollowsCalling.{is_same_refl}
use Rattle.play_scheduler.specs.Given.LoggedCalling.{WalkContinues}
use Rattle.play_scheduler.specs.Given.LoggedShown.{IsShown}
use Rattle.play_scheduler.specs.Given.LoggedDeclared.logged.Logged.{Logged}
use Rattle.run_executor.specs.Named.Machines.{IsAsFar, IsFor}
use Rattle.play_scheduler.specs.Played.{IsUnderWay, IsUnderWayAs, RefinesAs, RefinesFor}
use Rattle.run_executor.specs.Named.Seen.{is_named}
use Rattle.play_stepping.specs.EventSteps.Stepping.{IsWalking, WalksFar}
use Rattle.run_executor.specs.declared.caller.NamedCaller.{NamedCaller}
use Rattle.run_executor.specs.declared.caller.Stands.{Stands as HowFar}
use Rattle.run_executor.specs.declared.caller.Stands.TheVariants as far
use Rattle.run_executor.specs.declared.kind.CallKind.{CallKind}
use Rattle.run_executor.specs.declared.kind.CallKind.TheVariants as kind
use Rattle.play_scheduler.specs.declared.scheduler.Scheduler.{Scheduler}
use Rattle.play_scheduler.proofs.Given.RowsFacts.{no_ending_of, no_making_of, no_work_at, row_rests, used_still}
use Rattle.play_scheduler.proofs.Here.{Here}
use Rattle.play_scheduler.proofs.Given.RowsLists.{set_all, set_itself}
use Rattle.run_sweeps.proofs.Quiet.Sweeps.{walks_at}
use Rattle.play_scheduler.proofs.Given.ScenesMay.{standing_is}
use Rattle.run_executor.specs.Executing.IsThere.{held_by, work_of}
use Rattle.play_scheduler.specs.Given.ScenesReplying.{scene_with}
use Rattle.play_scheduler.specs.Given.ScenesScene.{HasCall, Scene}

-- a call that walks is of the kind of walks
pub kind_walks : (its : CallKind) (purpose : Purpose) → IsFor its purpose → purpose ≡ Walks → its ≡ kind.Walks
kind_walks kind.Walks purpose for is = refl
kind_walks kind.Clears purpose for is = absurd (cc (for, is))
kind_walks kind.Retains purpose for is = absurd (cc (for, is))
kind_walks _ purpose for is = absurd for

-- it has no place behind it, or none at all
asked_walks : (K V : Type 0) (sweep : Sweep) → sweep.purpose ≡ Walks → sweep.stands ≡ at.Ready → IsWalking {K = K} {V = V} 0 (kinds.Sweep (next_at sweep.stands sweep))
asked_walks K V sweep walks ready = subst (λ (x : Sweeping). IsWalking {K = K} {V = V} 0 (kinds.Sweep (next_at x sweep))) (sym ready) (by (nat_lt sweep.place sweep.table.len))
  where
    by : (b : Bool) → IsWalking {K = K} {V = V} 0 (kinds.Sweep (record sweep { stands = if b then at.Words else at.Over }))
    by true = (walks, inl (refl, omega arith))
    by false = (walks, inr (refl, refl))

module _ {K V S : Type 0} (same : K → K → Bool) (hash : K → ℕ) (terms : Terms) (m : Moment K V) (p : Scheduler K V S) (stands : RefinesFor same hash terms m p) (own : List ℕ) (place : ℕ)
    (here : Here same hash terms m p stands own place) (ready : here.caller.stands ≡ far.Ready) where
  abbrev s : Scene K V
  s = stands.scene

  abbrev d : NamedCaller V
  d = here.caller

  abbrev i : ℕ
  i = d.number

  abbrev calls : List (NamedCaller V)
  calls = p.calls

  abbrev u : UnderWay K V K
  u = here.way.0

  under : s.calls d.map i ≡ Some u
  under = here.way.1

  name_is : stands.name i ≡ own
  name_is = here.way.2 ∙ here.named

  as_ready : IsAsFar d.kind far.Ready (machine_of u)
  as_ready = subst (λ (x : HowFar). IsAsFar d.kind x (machine_of u)) ready here.way.4.0

  abbrev st : (standing : Standing K) × (s.maps d.map ≡ Some standing)
  st = standing_is same (λ map. hash) (held_by p.logged.executor) s stands.shown.is_at.held d.map i u under

  -- what it is asked, it takes, and goes on by
  its_walk : (v : UnderWay K V K) → u ≡ v → ((machine_asked (machine_of v)).1 ≡ true) × (d.kind ≡ kind.Walks) × IsWalking 0 (machine_asked (machine_of v)).0
  its_walk (OverAll o) is =
      let far_is = subst (λ (v : UnderWay K V K). IsAsFar d.kind far.Ready (machine_of v)) is as_ready in
      let walks = walks_at same s d.map i st.0 (stands.shown.is_at.held.together.makings.standing.each d.map st.0 st.1) o (under ∙ ap Some is) far_is.1 in
      (ap (λ (x : Sweeping). sweep_is_ready x) far_is.1, kind_walks d.kind o.sweep.purpose far_is.0 walks, asked_walks K V o.sweep walks far_is.1)
  its_walk (OnKey x) is = absurd (subst (λ (v : UnderWay K V K). IsAsFar d.kind far.Ready (machine_of v)) is as_ready)
  its_walk (ForRoom r) is = absurd (subst (λ (v : UnderWay K V K). IsAsFar d.kind far.Ready (machine_of v)) is as_ready)
  its_walk (Counting sum) is = absurd (subst (λ (v : UnderWay K V K). IsAsFar d.kind far.Ready (machine_of v)) is as_ready)

  pub has_walk : HasCall s i
  has_walk = (d.map, u, under)

  module _ (was_ready : Bool) (new : Logged K V S) (leads : WalkContinues same hash stands.name m s i was_ready p.logged new) where
    ready_is : was_ready ≡ true
    ready_is = (leads d.map u under).0 ∙ (its_walk u refl).0

    to : (next : UnderWay K V K) × (machine_of next ≡ (machine_asked (machine_of u)).0) × IsShown same hash stands.name m new (scene_with d.map i next s)
    to = (leads d.map u under).1 ready_is

    abbrev then_at : Scene K V
    then_at = scene_with d.map i to.0 s

    here_then : then_at.calls d.map i ≡ Some to.0
    here_then = ap (λ (f : ℕ → Option (UnderWay K V K)). f i) (at_same s.calls d.map _ d.map refl) ∙ at_same (s.calls d.map) i (Some to.0) i refl

    there_then : (n j : ℕ) → j ≢ i → then_at.calls n j ≡ s.calls n j
    there_then n j ne = by (cases_eq n d.map)
      where
        by : (n ≡ d.map) ⊎ (n ≢ d.map) → then_at.calls n j ≡ s.calls n j
        by (inl e) = ap (λ (f : ℕ → Option (UnderWay K V K)). f j) (at_same s.calls d.map _ n e) ∙ at_other (s.calls d.map) i (Some to.0) j ne ∙ ap (λ (x : ℕ). s.calls x j) (sym e)
        by (inr other) = ap (λ (f : ℕ → Option (UnderWay K V K)). f j) (at_other s.calls d.map _ n other)

    maps_then : (n j : ℕ) → n ≢ d.map → then_at.calls n j ≡ s.calls n j
    maps_then n j other = ap (λ (f : ℕ → Option (UnderWay K V K)). f j) (at_other s.calls d.map _ n other)

    way_then : IsUnderWayAs (WalksFar own 0) stands.name then_at p.there d
    way_then = (
      to.0,
      here_then,
      here.way.2,
      here.way.3,
      (
        λ holds. ((its_walk u refl).1, subst (IsWalking 0) (sym to.1) (its_walk u refl).2),
        λ fails. absurd (let a = ap (λ (l : List ℕ). is_same l own) here.named ∙ is_same_refl own in cc (a, fails)),
      ),
    )

    -- others have other numbers
    still : (x : NamedCaller V) → is_named own x ≡ false → IsUnderWay stands.name s p.there x → IsUnderWayAs (WalksFar own 0) stands.name then_at p.there x
    still x other way = (way.0, there_then x.map x.number ne ∙ way.1, way.2, way.3, (λ holds. absurd (cc (other, holds)), λ fails. way.4))
      where
        ne : x.number ≢ i
        ne e = let a = subst (λ (y : List ℕ). is_same y own ≡ false) (sym way.2 ∙ ap stands.name e ∙ name_is) other in let b = is_same_refl own in cc (a, b)

    each_then : AllByRecursion (IsUnderWayAs (WalksFar own 0) stands.name then_at p.there) calls
    each_then =
        subst (λ (xs : List (NamedCaller V)). AllByRecursion (IsUnderWayAs (WalksFar own 0) stands.name then_at p.there) xs) (set_itself calls place d here.at)
        (subst (λ (k : ℕ). AllByRecursion (IsUnderWayAs (WalksFar own 0) stands.name then_at p.there) (slice_set calls k d)) (sym here.first)
        (set_all (IsUnderWay stands.name s p.there) (IsUnderWayAs (WalksFar own 0) stands.name then_at p.there) (is_named own) d way_then still calls stands.calls.each (stands.calls.once own)))

    only_then : (n j : ℕ) (x : UnderWay K V K) → then_at.calls n j ≡ Some x → list_any (λ y. (y.map == n) && (y.number == j)) calls ≡ true
    only_then n j x is = by (cases_eq j i)
      where
        its : j ≡ i → (n ≡ d.map) ⊎ (n ≢ d.map) → list_any (λ y. (y.map == n) && (y.number == j)) calls ≡ true
        its e (inl f) = stands.calls.only n j u (ap (λ (k : ℕ). s.calls k j) f ∙ ap (s.calls d.map) e ∙ under)
        its e (inr other) = stands.calls.only n j x (sym (maps_then n j other) ∙ is)

        by : (j ≡ i) ⊎ (j ≢ i) → list_any (λ y. (y.map == n) && (y.number == j)) calls ≡ true
        by (inl e) = its e (cases_eq n d.map)
        by (inr ne) = stands.calls.only n j x (sym (there_then n j ne) ∙ is)

    rests_then : (j : ℕ) → ((n : ℕ) → then_at.calls n j ≡ None) → work_of new.executor j ≡ None
    rests_then j none = by (cases_eq j i)
      where
        by : (j ≡ i) ⊎ (j ≢ i) → work_of new.executor j ≡ None
        by (inl e) = absurd (let a = ap (then_at.calls d.map) e ∙ here_then in let b = none d.map in cc (a, b))
        by (inr ne) =
            let before = stands.rests j (λ n. sym (there_then n j ne) ∙ none n) in
            let at_s = stands.shown.is_at in
            no_work_at same hash new.executor then_at to.2.is_at j none (no_making_of same hash p.logged.executor s at_s j before) (no_ending_of same hash p.logged.executor s at_s j before)
            (row_rests same hash p.logged.executor s at_s j before)

    pub walk_begins : RefinesAs (WalksFar own 0) same hash terms m (record p { logged = new })
    walk_begins = record {
      name = stands.name;
      scene = then_at;
      shown = to.2;
      given = stands.given;
      there = stands.there;
      mapped = stands.mapped;
      closed = stands.closed;
      calls = record { listed = stands.calls.listed; once = stands.calls.once; each = each_then; only = only_then };
      maps = record { listed = stands.maps.listed; stand = stands.maps.stand };
      slots = λ t. used_still same hash p.logged.executor s stands.shown.is_at new.executor then_at to.2.is_at t refl ∙ stands.slots t;
      rests = rests_then;
      names = stands.names;
    }
