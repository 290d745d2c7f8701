-- A scheduler stands where a step of a call has led: the call goes on, or has ended.
use Rattle.std.specs.Prelude.{◌≡◌, ◌≢◌, ◌⊎◌, ◌≤◌, ◌==◌, ◌&&◌, ℕ, Bool, true, false, List, length, filter, map, slice_set, Option, Some, None}
use Rattle.std.specs.List.{AllByRecursion, list_any, remove}
use Rattle.std.proofs.Common.{refl, sym, ap, subst, ◌∙◌, inl, inr, arith, eqb-true}
use Rattle.std.proofs.lemmas.Bool.{cases_eq, ne_eqb}
use Rattle.seize.specs.World.{Use}
use Rattle.papaya_raw.specs.Given.TablesDeclared.node.Node.{Node}
use Rattle.papaya_raw.specs.declared.machines.machine.Machine.{Machine}
use Rattle.papaya_raw.specs.declared.machines.progress.Progress.{Progress}
use Rattle.run_schedules.specs.Runs.Same.{is_same}
use Rattle.run_schedules.specs.Schedules.Moment.{Moment}
use Rattle.run_schedules.specs.Schedules.Terms.{Terms}
use Rattle.owner_whole.specs.Given.CallersRows.{IsUsedAlike}
use Rattle.owner_whole.specs.Given.CallersTogether.{UnderWay}
use Rattle.owner_whole.proofs.Given.CallersTogether.At.{at_other, at_same}
use Rattle.owner_whole.specs.Given.FinishesMachines.{MachineStepsWithEndings, machine_of}
use Rattle.owner_whole.specs.Given.FinishesMaps.{IsSameMap, Standing}
use Rattle.play_scheduler.specs.Given.ScenesDeclared.row.SlotUse.{SlotUse}
use Rattle.play_scheduler.specs.Given.ScenesDeclared.row.SlotUse.TheVariants as used
use Rattle.play_scheduler.specs.Given.FollowsCalling.{NoneNamed}
use Rattle.play_scheduler.proofs.Given.FollowsCalling.{apart_back, is_same_refl}
use Rattle.play_scheduler.specs.Given.LoggedShown.{IsShown}
use Rattle.play_scheduler.specs.Given.LoggedDeclared.logged.Logged.{Logged}
use Rattle.play_scheduler.specs.Played.{CallsAs, IsUnderWayAs, RefinesAs}
use Rattle.run_executor.specs.Named.Seen.{is_named, named, seen, seen_of}
use Rattle.run_executor.specs.declared.caller.NamedCaller.{NamedCaller}
use Rattle.run_executor.specs.declared.caller.Stands.{Stands as HowFar}
use Rattle.run_executor.specs.declared.named_map.NamedMap.{NamedMap}
use Rattle.play_scheduler.specs.declared.scheduler.Scheduler.{Scheduler}
use Rattle.play_scheduler.proofs.Given.RowsFacts.{no_ending_of, no_making_of, no_work_at, row_rests, used_once}
use Rattle.play_scheduler.proofs.Here.{HereAs}
use Rattle.play_scheduler.proofs.Given.RowsLists.{all_so, one_of, removed_all, removed_any, removed_count, set_all, set_any, set_count}
use Rattle.run_executor.specs.Executing.IsThere.{IsUsedAs, held_by, use_at, work_of}
use Rattle.play_scheduler.specs.Given.ScenesScene.{Scene, slot_of}
use Rattle.run_executor.specs.Given.ScenesStepping.{StepLeads, scene_after}

-- a slot that is used alike is used in that way
used_alike : (v : SlotUse) (u u2 : Use) → IsUsedAs v u → IsUsedAlike u u2 → IsUsedAs v u2
used_alike used.Vacant u u2 is alike = subst (λ (x : Use). IsUsedAlike x u2) is alike
used_alike used.Outside u u2 is alike = subst (λ (x : Use). IsUsedAlike x u2) is.1 alike
used_alike used.Inside u u2 is alike = subst (λ (x : Use). IsUsedAlike x u2) is.1 alike
used_alike used.Changing u u2 is alike = subst (λ (x : Use). IsUsedAlike x u2) is alike

same_stands : {K : Type 0} (before after : Option (Standing K)) → IsSameMap before after → (st : Standing K) → before ≡ Some st → (st2 : Standing K) × (after ≡ Some st2)
same_stands None after same st e = absurd (cc e)
same_stands (Some x) after same st e = (record x { blocks = same.0; sights = same.1 }, same.2)

-- The machine of its caller is as far as is said of it then; those of others are as far as before.
module _ {K V S : Type 0} (Far Then : NamedCaller V → Machine K V K → Type 0) (own : List ℕ) (stays : (x : NamedCaller V) → is_named own x ≡ false → (machine : Machine K V K) → Far x machine → Then x machine)
    (same : K → K → Bool) (hash : K → ℕ) (terms : Terms) (m : Moment K V) (p : Scheduler K V S) (stands : RefinesAs Far same hash terms m p) (place : ℕ)
    (here : HereAs Far same hash terms m p stands own place) (said : Progress (Node K V)) (new : Logged K V S)
    (leads : StepLeads same (λ map. hash) here.caller.number said stands.scene (held_by p.logged.executor) (held_by new.executor)) where
  abbrev s : Scene K V
  s = stands.scene

  abbrev d : NamedCaller V
  d = here.caller

  abbrev i : ℕ
  i = d.number

  abbrev calls : List (NamedCaller V)
  calls = p.calls

  abbrev u : UnderWay K V K
  u = here.way.0

  abbrev under : s.calls d.map i ≡ Some u
  under = here.way.1

  pub name_is : stands.name i ≡ own
  name_is = here.way.2 ∙ here.named

  abbrev pub next : Option (UnderWay K V K)
  next = (leads d.map u under).4.next

  abbrev pub s2 : Scene K V
  s2 = let it = leads d.map u under in scene_after same s (held_by p.logged.executor) (held_by new.executor) d.map i it.0 u it.1 said it.4

  pub here_then : s2.calls d.map i ≡ next
  here_then = ap (λ (f : ℕ → Option (UnderWay K V K)). f i) (at_same s.calls d.map _ d.map refl) ∙ at_same (s.calls d.map) i next i refl

  there_then : (n j : ℕ) → j ≢ i → s2.calls n j ≡ s.calls n j
  there_then n j ne = by (cases_eq n d.map)
    where
      by : (n ≡ d.map) ⊎ (n ≢ d.map) → s2.calls n j ≡ s.calls n j
      by (inl e) = ap (λ (f : ℕ → Option (UnderWay K V K)). f j) (at_same s.calls d.map _ n e) ∙ at_other (s.calls d.map) i next j ne ∙ ap (λ (x : ℕ). s.calls x j) (sym e)
      by (inr other) = ap (λ (f : ℕ → Option (UnderWay K V K)). f j) (at_other s.calls d.map _ n other)

  maps_then : (n j : ℕ) → n ≢ d.map → s2.calls n j ≡ s.calls n j
  maps_then n j other = ap (λ (f : ℕ → Option (UnderWay K V K)). f j) (at_other s.calls d.map _ n other)

  -- its caller has no other call
  one_map : (n : ℕ) → n ≢ d.map → s.calls n i ≡ None
  one_map n ne = by (s.calls n i) refl
    where
      by : (o : Option (UnderWay K V K)) → s.calls n i ≡ o → s.calls n i ≡ None
      by None e = e
      by (Some x) e = absurd (ne (stands.shown.is_at.held.together.makings.standing.once n d.map i (λ z. cc (e, z)) (λ z. let a = under in cc (a, z))))

  -- other callers are as they were
  pub still : (x : NamedCaller V) → is_named own x ≡ false → IsUnderWayAs Far stands.name s p.there x → IsUnderWayAs Then stands.name s2 p.there x
  still x apart way = (way.0, there_then x.map x.number ne ∙ way.1, way.2, way.3, stays x apart (machine_of way.0) way.4)
    where
      ne : x.number ≢ i
      ne e = let a = subst (λ (y : List ℕ). is_same y own ≡ false) (sym way.2 ∙ ap stands.name e ∙ name_is) apart in let b = is_same_refl own in cc (a, b)

  -- each map stands on
  stand_then : (t : NamedMap) → ((standing : Standing K) × (s.maps t.number ≡ Some standing)) → (standing : Standing K) × (s2.maps t.number ≡ Some standing)
  stand_then t st = by (cases_eq t.number d.map)
    where
      moved : MachineStepsWithEndings V same same p.logged.executor.batch_size p.logged.executor.roots slot_of s.world s.maps s.calls s.makers s.enders d.map (leads d.map u under).0 i new.executor.memory.memory u
          (leads d.map u under).1 said
      moved = (leads d.map u under).4

      by : (t.number ≡ d.map) ⊎ (t.number ≢ d.map) → (standing : Standing K) × (s2.maps t.number ≡ Some standing)
      by (inl e) =
          (record (leads d.map u under).0 { chart = moved.its_map.0; blocks = moved.its_map.1; sights = moved.its_map.2 }, ap s2.maps e ∙ moved.its_map.4)
      by (inr ne) = same_stands (s.maps t.number) (s2.maps t.number) (moved.others t.number ne) st.0 st.1

  -- where it has ended, nothing is left of it
  module _ (over : next ≡ None) where
    none_gone : (n : ℕ) → s2.calls n i ≡ None
    none_gone n = by (cases_eq n d.map)
      where
        by : (n ≡ d.map) ⊎ (n ≢ d.map) → s2.calls n i ≡ None
        by (inl e) = ap (λ (k : ℕ). s2.calls k i) e ∙ here_then ∙ over
        by (inr other) = maps_then n i other ∙ one_map n other

    only_gone : (n j : ℕ) (x : UnderWay K V K) → s2.calls n j ≡ Some x → list_any (λ z. (z.map == n) && (z.number == j)) (remove calls place) ≡ true
    only_gone n j x is =
        let no : ((d.map == n) && (i == j)) ≡ false = other (d.map == n) (i == j) (ne_eqb i j (λ e. ne (sym e))) in
        removed_any (λ z. (z.map == n) && (z.number == j)) calls place d here.at no ∙ stands.calls.only n j x (sym (there_then n j ne) ∙ is)
      where
        ne : j ≢ i
        ne e = let a = ap (s2.calls n) e ∙ none_gone n in cc (is, a)

        other : (a b : Bool) → b ≡ false → (a && b) ≡ false
        other true b e = e
        other false b e = refl

    abbrev Apart : NamedCaller V → Type 0
    Apart x = (is_same x.name own ≡ false) × IsUnderWayAs Then stands.name s2 p.there x

    apart_gone : AllByRecursion Apart (remove calls place)
    apart_gone =
        subst (λ (k : ℕ). AllByRecursion Apart (remove calls k)) (sym here.first)
        (removed_all (IsUnderWayAs Far stands.name s p.there) Apart (is_named own) (λ x apart way. (apart, still x apart way)) calls stands.calls.each (stands.calls.once own))

    each_gone : AllByRecursion (IsUnderWayAs Then stands.name s2 p.there) (remove calls place)
    each_gone = all_so Apart (IsUnderWayAs Then stands.name s2 p.there) (λ x both. both.1) (remove calls place) apart_gone

    pub none_named : NoneNamed stands.name own s2
    none_named n j x is =
        let y = one_of Apart (λ z. (z.map == n) && (z.number == j)) (remove calls place) (only_gone n j x is) apart_gone in
        let number = eqb-true y.0.number j (second (y.0.map == n) (y.0.number == j) y.2) in
        apart_back (stands.name j) own (subst (λ (a : List ℕ). is_same a own ≡ false) (sym y.1.1.2 ∙ ap stands.name number) y.1.0)
      where
        second : (a b : Bool) → (a && b) ≡ true → b ≡ true
        second true b e = e
        second false b e = absurd (cc e)

  module _ (m2 : Moment K V) (shown : IsShown same hash stands.name m2 new s2) where
    slots_then : (t : ℕ) → use_at new.executor t ≡ use_at p.logged.executor t
    slots_then t =
        used_once (use_at new.executor t) (use_at p.logged.executor t) (s2.world.uses t) (shown.is_at.uses t)
        (used_alike (use_at p.logged.executor t) (s.world.uses t) (s2.world.uses t) (stands.shown.is_at.uses t) ((leads d.map u under).4.slots.uses t))

    -- who has nothing under way has nothing then
    rests_other : (j : ℕ) → j ≢ i → ((n : ℕ) → s2.calls n j ≡ None) → work_of new.executor j ≡ None
    rests_other j ne none =
        let before = stands.rests j (λ n. sym (there_then n j ne) ∙ none n) in
        let at_s = stands.shown.is_at in
        no_work_at same hash new.executor s2 shown.is_at j none (no_making_of same hash p.logged.executor s at_s j before) (no_ending_of same hash p.logged.executor s at_s j before)
        ((leads d.map u under).4.rows j ne ∙ row_rests same hash p.logged.executor s at_s j before)

    module _ (there : m2.there ≡ m.there) (mapped : m2.is_mapped ≡ m.is_mapped) (closed : m2.is_closed ≡ m.is_closed) (maps : map named m2.maps ≡ map named m.maps) where
      with_calls : (callers : List (NamedCaller V)) → CallsAs Then stands.name s2 p.there m2 callers → ((j : ℕ) → ((n : ℕ) → s2.calls n j ≡ None) → work_of new.executor j ≡ None)
          → RefinesAs Then same hash terms m2 (record p { logged = new; calls = callers })
      with_calls callers are rests = record {
        name = stands.name;
        scene = s2;
        shown = shown;
        given = stands.given;
        there = there ∙ stands.there;
        mapped = mapped ∙ stands.mapped;
        closed = closed ∙ stands.closed;
        calls = are;
        maps = record {
          listed = maps ∙ stands.maps.listed;
          stand = all_so (λ t. (standing : Standing K) × (s.maps t.number ≡ Some standing)) (λ t. (standing : Standing K) × (s2.maps t.number ≡ Some standing)) stand_then p.maps stands.maps.stand;
        };
        slots = λ t. slots_then t ∙ stands.slots t;
        rests = rests;
        names = stands.names;
      }

      -- it goes on, this far
      pub going_on : (x : UnderWay K V K) → next ≡ Some x → (h : HowFar) (value : Option V) → Then (record d { stands = h; value = value }) (machine_of x)
          → map seen m2.calls ≡ map seen_of (slice_set calls place (record d { stands = h; value = value }))
          → (callers : List (NamedCaller V)) → callers ≡ slice_set calls place (record d { stands = h; value = value })
          → RefinesAs Then same hash terms m2 (record p { logged = new; calls = callers })
      going_on x goes h value as_far listed callers items =
          with_calls callers (subst (λ (xs : List (NamedCaller V)). CallsAs Then stands.name s2 p.there m2 xs) (sym items) (record { listed = listed; once = once_then; each = each_then; only = only_then })) rests_then
        where
          way_then : IsUnderWayAs Then stands.name s2 p.there (record d { stands = h; value = value })
          way_then = (x, here_then ∙ goes, here.way.2, here.way.3, as_far)

          once_then : (other : List ℕ) → length (filter (is_named other) (slice_set calls place (record d { stands = h; value = value }))) ≤ 1
          once_then other = subst (λ (n : ℕ). n ≤ 1) (sym (set_count (is_named other) calls place d (record d { stands = h; value = value }) here.at refl)) (stands.calls.once other)

          each_then : AllByRecursion (IsUnderWayAs Then stands.name s2 p.there) (slice_set calls place (record d { stands = h; value = value }))
          each_then =
              subst (λ (k : ℕ). AllByRecursion (IsUnderWayAs Then stands.name s2 p.there) (slice_set calls k (record d { stands = h; value = value }))) (sym here.first)
              (set_all (IsUnderWayAs Far stands.name s p.there) (IsUnderWayAs Then stands.name s2 p.there) (is_named own) (record d { stands = h; value = value }) way_then still calls stands.calls.each (stands.calls.once own))

          only_then : (n j : ℕ) (y : UnderWay K V K) → s2.calls n j ≡ Some y → list_any (λ z. (z.map == n) && (z.number == j)) (slice_set calls place (record d { stands = h; value = value })) ≡ true
          only_then n j y is = set_any (λ z. (z.map == n) && (z.number == j)) calls place d (record d { stands = h; value = value }) here.at refl ∙ by (cases_eq j i)
            where
              was : (z : UnderWay K V K) → s.calls n j ≡ Some z → list_any (λ z. (z.map == n) && (z.number == j)) calls ≡ true
              was z e = stands.calls.only n j z e

              its : j ≡ i → (n ≡ d.map) ⊎ (n ≢ d.map) → list_any (λ z. (z.map == n) && (z.number == j)) calls ≡ true
              its e (inl f) = was u (ap (λ (k : ℕ). s.calls k j) f ∙ ap (s.calls d.map) e ∙ under)
              its e (inr other) = was y (sym (maps_then n j other) ∙ is)

              by : (j ≡ i) ⊎ (j ≢ i) → list_any (λ z. (z.map == n) && (z.number == j)) calls ≡ true
              by (inl e) = its e (cases_eq n d.map)
              by (inr ne) = was y (sym (there_then n j ne) ∙ is)

          rests_then : (j : ℕ) → ((n : ℕ) → s2.calls n j ≡ None) → work_of new.executor j ≡ None
          rests_then j none = by (cases_eq j i)
            where
              by : (j ≡ i) ⊎ (j ≢ i) → work_of new.executor j ≡ None
              by (inl e) = absurd (let a = ap (s2.calls d.map) e ∙ here_then ∙ goes in let b = none d.map in cc (a, b))
              by (inr ne) = rests_other j ne none

      -- it has ended
      pub has_gone : next ≡ None → map seen m2.calls ≡ map seen_of (remove calls place) → (callers : List (NamedCaller V)) → callers ≡ remove calls place
          → RefinesAs Then same hash terms m2 (record p { logged = new; calls = callers })
      has_gone over listed callers items =
          with_calls callers (subst (λ (xs : List (NamedCaller V)). CallsAs Then stands.name s2 p.there m2 xs) (sym items) (record {
            listed = listed;
            once = λ other. (let a = removed_count (is_named other) calls place in let b = stands.calls.once other in omega (arith, a, b));
            each = each_gone over;
            only = only_gone over;
          })) rests_then
        where
          nothing : {X : Type 0} (o : Option X) → ((x : X) → o ≡ Some x → ⊥) → o ≡ None
          nothing None never = refl
          nothing (Some x) never = absurd (never x refl)

          rests_then : (j : ℕ) → ((n : ℕ) → s2.calls n j ≡ None) → work_of new.executor j ≡ None
          rests_then j none = by (cases_eq j i)
            where
              its_work : work_of new.executor i ≡ None
              its_work =
                  no_work_at same hash new.executor s2 shown.is_at i (none_gone over)
                  (nothing (s.makers i) (λ b is. let a = stands.shown.is_at.held.together.makings.alone i b is d.map in let h = under in cc (a, h)))
                  (nothing (s.enders i) (λ f is. let a = (stands.shown.is_at.held.together.alone i f is).0 d.map in let h = under in cc (a, h))) ((leads d.map u under).4.rests over)

              by : (j ≡ i) ⊎ (j ≢ i) → work_of new.executor j ≡ None
              by (inl e) = ap (work_of new.executor) e ∙ its_work
              by (inr ne) = rests_other j ne none
