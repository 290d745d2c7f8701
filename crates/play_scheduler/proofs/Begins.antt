-- A call begins: the scheduler stands for the moment at which it is under way.
use Rattle.std.specs.Prelude.{◌≡◌, ◌≢◌, ◌<◌, ◌≤◌, ◌==◌, ◌⊎◌, ◌&&◌, ◌||◌, ℕ, Bool, true, false, not, cond, List, [], ◌∷◌, length, filter, find, map, is_some, is_none, Option, Some, None, if◌then◌else◌}
use Rattle.std.specs.List.{list_any}
use Rattle.std.proofs.Common.{refl, sym, ap, subst, ◌∙◌, inl, inr, arith, eqb-true}
use Rattle.std.proofs.lemmas.Bool.{cases_eq, eq-eqb, ne_eqb}
use Rattle.papaya_raw.specs.Given.TablesDeclared.setting.Setting.{Setting}
use Rattle.run_schedules.specs.Runs.Present.{guard_of, living_slot}
use Rattle.run_schedules.specs.Runs.Same.{is_same}
use Rattle.run_schedules.specs.declared.call.Call.{Call}
use Rattle.run_schedules.specs.Schedules.Beginning.{with_call}
use Rattle.run_schedules.specs.Schedules.InUse.{is_living}
use Rattle.run_schedules.specs.Schedules.Lists.{put}
use Rattle.run_schedules.specs.Schedules.Moment.{Moment}
use Rattle.run_schedules.specs.Schedules.Terms.{Terms}
use Rattle.run_schedules.specs.Schedules.Views.{call_of, map_of, number_of}
use Rattle.run_shows.specs.Given.CallersTogether.{UnderWay, in_slot}
use Rattle.run_shows.proofs.Given.CallersTogether.At.{at_other, at_same}
use Rattle.run_shows.specs.declared.row.SlotUse.TheVariants as used
use Rattle.run_shows.specs.declared.callers.TheConstants.{SLOTS}
use Rattle.run_shows.specs.Given.FinishesMachines.{machine_of}
use Rattle.run_shows.specs.Given.FinishesMaps.{Standing}
use Rattle.run_shows.specs.Follows.Calling.{NoneNamed}
use Rattle.run_shows.proofs.Follows.Calling.{apart_back, is_same_is}
use Rattle.run_logged.specs.Log.Calling.{CallBegins}
use Rattle.run_logged.specs.Log.Shown.{IsShown}
use Rattle.run_logged.specs.declared.logged.Logged.{Logged}
use Rattle.run_executor.specs.Named.Machines.{IsAsFar, machine_for}
use Rattle.play_scheduler.specs.Played.{BeginsSo, CallsAre, IsUnderWay, RefinesFor}
use Rattle.run_executor.specs.Named.Seen.{Seen, is_named, kind_of, seen, seen_of, setting_named}
use Rattle.run_executor.specs.declared.caller.NamedCaller.{NamedCaller}
use Rattle.run_executor.specs.declared.caller.Stands.TheVariants as far
use Rattle.play_scheduler.specs.declared.scheduler.Scheduler.{Scheduler}
use Rattle.run_executor.proofs.Named.Called.{begins_for_room, begun_call, begins_so, is_as_far, is_begun_for, is_called, its_machine}
use Rattle.run_logged.proofs.Rows.Facts.{no_ending_of, no_making_of, no_work_at, row_rests, slot_fits, used_still}
use Rattle.run_logged.proofs.Given.Lists.{all_but}
use Rattle.run_logged.proofs.Rows.Lists.{all_so, as_some, found_alike, is_found, none_kept, one_of}
use Rattle.play_scheduler.proofs.Maps.{setting_of_it, setting_some}
use Rattle.run_logged.proofs.Rows.There.{is_inside, living_is, on_its_slot}
use Rattle.run_executor.proofs.Executing.Fresh.{caller_in, no_calls_yet, slot_is}
use Rattle.run_executor.specs.Executing.Beginning.{BeginsThere}
use Rattle.run_executor.specs.Executing.IsThere.{IsThere, use_at, work_of}
use Rattle.run_shows.specs.Scenes.Replying.{scene_with}
use Rattle.run_shows.specs.Scenes.Scene.{Scene, slot_of}
use Rattle.seize_words.proofs.General.{both_true as and_parts}

module _ {K V S : Type 0} (same : K → K → Bool) (hash : K → ℕ) (terms : Terms) (m : Moment K V) (p : Scheduler K V S) (stands : RefinesFor same hash terms m p) where
  abbrev calls : List (NamedCaller V)
  calls = p.calls

  abbrev s : Scene K V
  s = stands.scene

  -- a call of a name is under way just where the scheduler has one
  pub called_is : (own : List ℕ) → is_some (call_of own m) ≡ list_any (is_named own) calls
  called_is own =
      as_some seen seen_of (call_of own m) (find (is_named own) calls) (found_alike seen seen_of m.calls calls stands.calls.listed (λ (z : Seen). is_same z.name own)) ∙ is_found (is_named own) calls

  pub lives_is : (guard : List ℕ) → is_living guard m.there ≡ is_some (living_slot (guard_of guard p.there.guards))
  lives_is guard = ap (is_living guard) stands.there ∙ living_is guard p.there (stands.names.guards guard)

  -- a name that no caller has no call under way has
  pub none_named : (own : List ℕ) → list_any (is_named own) calls ≡ false → NoneNamed stands.name own s
  none_named own none n i u is =
      let Way : NamedCaller V → Type 0 = λ d. (is_same d.name own ≡ false) × IsUnderWay stands.name s p.there d in
      let all = all_but (IsUnderWay stands.name s p.there) Way (is_named own) (λ d other way. (other, way)) calls none stands.calls.each in
      let d = one_of Way (λ d. (d.map == n) && (d.number == i)) calls (stands.calls.only n i u is) all in
      let number = eqb-true d.0.number i (and_parts (d.0.map == n) (d.0.number == i) d.2).1 in
      apart_back (stands.name i) own (subst (λ (x : List ℕ). is_same x own ≡ false) (sym d.1.1.2 ∙ ap stands.name number) d.1.0)

  module _ (own guard name : List ℕ) (call : Call K V) where
    -- it does not begin
    pub not_begun : (is_none (call_of own m) && is_living guard m.there && is_some (map_of name m)) ≡ false → BeginsSo same hash terms m own guard name call false p p
    not_begun fails = record { so = sym fails; none = λ e. refl; stands = λ e. absurd (cc e); led = λ e. absurd (cc e) }

    module _ (free : list_any (is_named own) calls ≡ false) (slot : ℕ) (lives : living_slot (guard_of guard p.there.guards) ≡ Some slot) (number : ℕ) (setting : Setting)
        (found : setting_named name p.maps p.logged.executor.maps.items ≡ Some (number, setting)) where
      pub may_begin : (is_none (call_of own m) && is_living guard m.there && is_some (map_of name m)) ≡ true
      may_begin =
          let a = ap not (called_is own ∙ free) in
          let b = lives_is guard ∙ ap is_some lives in
          let c = sym (setting_some same hash terms m p stands name) ∙ ap is_some found in
          all_three (is_none (call_of own m)) (is_living guard m.there) (is_some (map_of name m)) a b c
        where
          all_three : (x y z : Bool) → x ≡ true → y ≡ true → z ≡ true → (x && y && z) ≡ true
          all_three true true true a b c = refl
          all_three false y z a b c = absurd (cc a)
          all_three true false z a b c = absurd (cc b)
          all_three true true false a b c = absurd (cc c)

      pub entered : use_at p.logged.executor slot ≡ used.Inside
      entered = stands.slots slot ∙ is_inside slot p.there (on_its_slot guard p.there.guards slot lives)

      pub fits : slot < SLOTS
      fits = slot_fits same hash p.logged.executor s stands.shown.is_at slot (λ e. let h = sym entered ∙ e in absurd (cc h))

      abbrev pub i : ℕ
      i = caller_in p.logged.executor slot

      pub at_slot : slot_of i ≡ slot
      at_slot = slot_is p.logged.executor slot fits

      abbrev pub its : (number_of name m ≡ Some number) × (standing : Standing K) × (s.maps number ≡ Some standing) × (standing.setting ≡ setting)
      its = setting_of_it same hash terms m p stands name number setting found

      abbrev pub st : Standing K
      st = its.1

      abbrev pub u : UnderWay K V K
      u = begun_call same st i call

      module _ (new : Logged K V S) (leads : (names : ℕ → List ℕ) (v : Moment K V) (t : Scene K V) → IsShown same hash names v p.logged t
          → CallBegins same hash names v t i number (machine_for (record setting { slot = slot }) hash call) p.logged new) (caller : NamedCaller V)
          (is : seen_of caller ≡ record { name = own; guard = guard; map = number; kind = kind_of call; far = far.Goes }) (numbered : caller.number ≡ i) where
        abbrev pub names : ℕ → List ℕ
        names = put i own stands.name

        abbrev pub then_at : Scene K V
        then_at = scene_with number i u s

        machine_is : machine_of u ≡ machine_for (record setting { slot = slot }) hash call
        machine_is =
            its_machine same st i call ∙ ap (λ (x : Setting). machine_for (in_slot x (slot_of i)) st.hash call) its.3
            ∙ ap (λ (x : ℕ). machine_for (in_slot setting x) st.hash call) at_slot ∙ ap (λ (h : K → ℕ). machine_for (in_slot setting slot) h call) (stands.shown.is_at.held.hashes number st its.2)

        pub shown : IsShown same hash names (with_call own guard call (Some number) m) new then_at
        shown =
            leads stands.name m s stands.shown st its.2 (ap (use_at p.logged.executor) at_slot ∙ entered) u machine_is
            (begins_so same st i (stands.shown.is_at.held.together.makings.standing.fit number st its.2).0 call) own guard call (is_called same st i call) (is_begun_for same st i call) (none_named own free)

        pub none_yet : (n : ℕ) → s.calls n i ≡ None
        none_yet = no_calls_yet same hash p.logged.executor s stands.shown.is_at slot fits

        -- its own call is there then, and so are those that were
        pub here_then : then_at.calls number i ≡ Some u
        here_then = ap (λ (f : ℕ → Option (UnderWay K V K)). f i) (at_same s.calls number _ number refl) ∙ at_same (s.calls number) i (Some u) i refl

        there_then : (n j : ℕ) → j ≢ i → then_at.calls n j ≡ s.calls n j
        there_then n j ne = by (cases_eq n number)
          where
            by : (n ≡ number) ⊎ (n ≢ number) → then_at.calls n j ≡ s.calls n j
            by (inl e) = ap (λ (f : ℕ → Option (UnderWay K V K)). f j) (at_same s.calls number _ n e) ∙ at_other (s.calls number) i (Some u) j ne ∙ ap (λ (x : ℕ). s.calls x j) (sym e)
            by (inr other) = ap (λ (f : ℕ → Option (UnderWay K V K)). f j) (at_other s.calls number _ n other)

        pub not_it : (n j : ℕ) (x : UnderWay K V K) → s.calls n j ≡ Some x → j ≢ i
        not_it n j x here e = let a = subst (λ (y : ℕ). s.calls n y ≡ Some x) e here in let b = none_yet n in cc (a, b)

        pub name_then : (j : ℕ) → j ≢ i → names j ≡ stands.name j
        name_then j ne = ap (λ (b : Bool). if b then own else stands.name j) (ne_eqb j i ne)

        pub name_here : names i ≡ own
        name_here = ap (λ (b : Bool). if b then own else stands.name i) (eq-eqb i i refl)

        still : (d : NamedCaller V) → IsUnderWay stands.name s p.there d → IsUnderWay names then_at p.there d
        still d way =
            let ne = not_it d.map d.number way.0 way.1 in
            (way.0, there_then d.map d.number ne ∙ way.1, name_then d.number ne ∙ way.2, way.3, way.4)

        way_then : IsUnderWay names then_at p.there caller
        way_then = (
          u,
          ap (λ (x : Seen). then_at.calls x.map caller.number) is ∙ ap (λ (j : ℕ). then_at.calls number j) numbered ∙ here_then,
          ap names numbered ∙ name_here ∙ sym (ap (λ (x : Seen). x.name) is),
          ap (λ (x : Seen). living_slot (guard_of x.guard p.there.guards)) is ∙ lives ∙ ap Some (sym at_slot ∙ ap slot_of (sym numbered)),
          (subst (λ (x : Seen). IsAsFarOf x) (sym is) (is_as_far same st i call), begins_for_room same st i call),
        )
          where
            IsAsFarOf : Seen → Type 0
            IsAsFarOf x = IsAsFar x.kind x.far (machine_of u)

        once_then : (other : List ℕ) → length (filter (is_named other) (caller ∷ calls)) ≤ 1
        once_then other = by (is_same caller.name other) refl
          where
            own_is : caller.name ≡ own
            own_is = ap (λ (x : Seen). x.name) is

            by : (b : Bool) → is_same caller.name other ≡ b → length (cond b (caller ∷ filter (is_named other) calls) (filter (is_named other) calls)) ≤ 1
            by true e =
                let o : own ≡ other = is_same_is own other (subst (λ (x : List ℕ). is_same x other ≡ true) own_is e) in
                let none : filter (is_named other) calls ≡ [] = none_kept (is_named other) calls (subst (λ (x : List ℕ). list_any (is_named x) calls ≡ false) o free) in
                let l = ap length none in
                omega (arith, l)
            by false e = stands.calls.once other

        only_then : (n j : ℕ) (x : UnderWay K V K) → then_at.calls n j ≡ Some x → list_any (λ d. (d.map == n) && (d.number == j)) (caller ∷ calls) ≡ true
        only_then n j x here = by (cases_eq j i)
          where
            later : list_any (λ d. (d.map == n) && (d.number == j)) calls ≡ true → list_any (λ d. (d.map == n) && (d.number == j)) (caller ∷ calls) ≡ true
            later e = any_later ((caller.map == n) && (caller.number == j)) (list_any (λ d. (d.map == n) && (d.number == j)) calls) e
              where
                any_later : (a b : Bool) → b ≡ true → (a || b) ≡ true
                any_later true b f = refl
                any_later false b f = f

            first : n ≡ number → j ≡ i → list_any (λ d. (d.map == n) && (d.number == j)) (caller ∷ calls) ≡ true
            first e f =
                let a = eq-eqb caller.map n (ap (λ (x : Seen). x.map) is ∙ sym e) in
                let b = eq-eqb caller.number j (numbered ∙ sym f) in
                ap (λ (q : Bool). (q && (caller.number == j)) || list_any (λ d. (d.map == n) && (d.number == j)) calls) a
                ∙ ap (λ (q : Bool). q || list_any (λ d. (d.map == n) && (d.number == j)) calls) b

            own_map : n ≢ number → j ≡ i → ⊥
            own_map other f =
                let a = ap (λ (g : ℕ → Option (UnderWay K V K)). g j) (at_other s.calls number _ n other) in
                let b = sym a ∙ here in
                let c = ap (s.calls n) f ∙ none_yet n in
                cc (b, c)

            by : (j ≡ i) ⊎ (j ≢ i) → list_any (λ d. (d.map == n) && (d.number == j)) (caller ∷ calls) ≡ true
            by (inr ne) = later (stands.calls.only n j x (sym (there_then n j ne) ∙ here))
            by (inl f) = which (cases_eq n number)
              where
                which : (n ≡ number) ⊎ (n ≢ number) → list_any (λ d. (d.map == n) && (d.number == j)) (caller ∷ calls) ≡ true
                which (inl e) = first e f
                which (inr other) = absurd (own_map other f)

        rests_then : (j : ℕ) → ((n : ℕ) → then_at.calls n j ≡ None) → work_of new.executor j ≡ None
        rests_then j none = by (cases_eq j i)
          where
            by : (j ≡ i) ⊎ (j ≢ i) → work_of new.executor j ≡ None
            by (inl e) = absurd (let a = ap (then_at.calls number) e ∙ here_then in let b = none number in cc (a, b))
            by (inr ne) =
                let before = stands.rests j (λ n. sym (there_then n j ne) ∙ none n) in
                let at = stands.shown.is_at in
                no_work_at same hash new.executor then_at shown.is_at j none (no_making_of same hash p.logged.executor s at j before) (no_ending_of same hash p.logged.executor s at j before)
                (row_rests same hash p.logged.executor s at j before)

        stands_then : (calls2 : List (NamedCaller V)) → calls2 ≡ caller ∷ calls → RefinesFor same hash terms (with_call own guard call (Some number) m) (record p { logged = new; calls = calls2 })
        stands_then calls2 items = record {
          name = names;
          scene = then_at;
          shown = shown;
          given = stands.given;
          there = stands.there;
          mapped = stands.mapped;
          closed = stands.closed;
          calls = subst (λ (xs : List (NamedCaller V)). CallsAre names then_at p.there (with_call own guard call (Some number) m) xs) (sym items) (record {
            listed = ap (λ (z : Seen). z ∷ map seen m.calls) (sym is) ∙ ap (λ (l : List Seen). seen_of caller ∷ l) stands.calls.listed;
            once = once_then;
            each = (way_then, all_so (IsUnderWay stands.name s p.there) (IsUnderWay names then_at p.there) still calls stands.calls.each);
            only = only_then;
          });
          maps = record { listed = stands.maps.listed; stand = stands.maps.stand };
          slots = λ t. used_still same hash p.logged.executor s stands.shown.is_at new.executor then_at shown.is_at t refl ∙ stands.slots t;
          rests = rests_then;
          names = stands.names;
        }

        pub begun : (calls2 : List (NamedCaller V)) → calls2 ≡ caller ∷ calls → caller.value ≡ None → new.notes ≡ p.logged.notes
            → ((t : Scene K V) → IsThere same hash p.logged.executor t → BeginsThere same hash number (machine_for (record setting { slot = slot }) hash call) i t p.logged.executor new.executor)
            → BeginsSo same hash terms m own guard name call true p (record p { logged = new; calls = calls2 })
        begun calls2 items keeps_none kept begins = record {
          so = sym may_begin;
          none = λ e. absurd (cc e);
          stands = λ e. subst (λ (o : Option ℕ). RefinesFor same hash terms (with_call own guard call o m) (record p { logged = new; calls = calls2 })) (sym its.0) (stands_then calls2 items);
          led = λ e. record {
            free = free;
            slot = slot;
            lives = lives;
            number = number;
            setting = setting;
            found = found;
            leads = leads;
            begins = begins;
            caller = caller;
            is = is;
            numbered = numbered;
            keeps_none = keeps_none;
            items = items;
            rest = refl;
            notes = kept;
          };
        }
