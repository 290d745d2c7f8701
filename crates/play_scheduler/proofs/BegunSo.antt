-- A call begins, or does not: what is promised of that, by what is found.
use Rattle.std.specs.Prelude.{◌≡◌, ◌+◌, ◌*◌, ◌&&◌, ℕ, Bool, true, false, List, ◌∷◌, length, not, position, is_some, Option, Some, None}
use Rattle.std.specs.List.{list_any}
use Rattle.std.proofs.Common.{refl, sym, ap, subst, ◌∙◌}
use Rattle.papaya_raw.specs.Given.TablesDeclared.setting.Setting.{Setting}
use Rattle.run_schedules.specs.Runs.Present.{guard_of, living_slot}
use Rattle.run_schedules.specs.Schedules.Moment.{Moment}
use Rattle.run_schedules.specs.Schedules.Terms.{Terms}
use Rattle.run_schedules.specs.Schedules.InUse.{is_living}
use Rattle.run_schedules.specs.Schedules.Views.{call_of, map_of}
use Rattle.run_schedules.specs.declared.call.Call.{Call}
use Rattle.papaya_raw.specs.declared.machines.machine.Machine.{Machine}
use Rattle.run_shows.specs.declared.callers.TheConstants.{SLOTS}
use Rattle.run_logged.specs.Log.Calling.{CallBegins}
use Rattle.run_logged.specs.Log.Shown.{IsShown}
use Rattle.run_logged.specs.declared.logged.Logged.{Logged}
use Rattle.run_executor.specs.Named.Machines.{machine_for}
use Rattle.play_scheduler.specs.Played.{BeginsSo, RefinesFor}
use Rattle.run_executor.specs.Named.Seen.{Seen, is_named, kind_of, setting_named}
use Rattle.run_executor.specs.declared.caller.NamedCaller.{NamedCaller}
use Rattle.run_executor.specs.declared.caller.Stands.TheVariants as far
use Rattle.run_executor.specs.declared.kind.CallKind.{CallKind}
use Rattle.play_scheduler.specs.declared.scheduler.Scheduler.{Scheduler}
use Rattle.run_executor.specs.Executing.Beginning.{BeginsThere}
use Rattle.run_executor.specs.Executing.IsThere.{IsThere}
use Rattle.play_scheduler.proofs.Begins.{begun, called_is, lives_is, not_begun}
use Rattle.run_logged.proofs.Rows.Lists.{place_some}
use Rattle.play_scheduler.proofs.Maps.{setting_some}
use Rattle.run_shows.specs.Scenes.Scene.{Scene}

module _ {K V S : Type 0} (same : K → K → Bool) (hash : K → ℕ) (terms : Terms) (m : Moment K V) (p : Scheduler K V S) (stands : RefinesFor same hash terms m p) (own guard name : List ℕ)
    (call : Call K V) where
  abbrev calls : List (NamedCaller V)
  calls = p.calls

  -- another call has the name
  pub is_named_so : (place : Option ℕ) → place ≡ position (is_named own) calls → is_some place ≡ true → BeginsSo same hash terms m own guard name call false p p
  is_named_so place is some =
      not_begun same hash terms m p stands own guard name call
      (no_first (is_some (call_of own m)) _ _ (called_is same hash terms m p stands own ∙ sym (place_some (is_named own) calls place is) ∙ some))
    where
      no_first : (a b c : Bool) → a ≡ true → (not a && b && c) ≡ false
      no_first true b c e = refl
      no_first false b c e = absurd (cc e)

  -- and none has, where there is no place
  pub is_free : (place : Option ℕ) → place ≡ position (is_named own) calls → is_some place ≡ false → list_any (is_named own) calls ≡ false
  is_free place is none = sym (place_some (is_named own) calls place is) ∙ none

  -- the guard does not live
  pub no_guard : living_slot (guard_of guard p.there.guards) ≡ None → BeginsSo same hash terms m own guard name call false p p
  no_guard none =
      not_begun same hash terms m p stands own guard name call (no_second (not (is_some (call_of own m))) (is_living guard m.there) _ (lives_is same hash terms m p stands guard ∙ ap is_some none))
    where
      no_second : (a b c : Bool) → b ≡ false → (a && b && c) ≡ false
      no_second true true c e = absurd (cc e)
      no_second true false c e = refl
      no_second false b c e = refl

  -- the map is not there
  pub no_map : setting_named name p.maps p.logged.executor.maps.items ≡ None → BeginsSo same hash terms m own guard name call false p p
  no_map none =
      not_begun same hash terms m p stands own guard name call
      (no_third (not (is_some (call_of own m))) (is_living guard m.there) (is_some (map_of name m)) (sym (setting_some same hash terms m p stands name) ∙ ap is_some none))
    where
      no_third : (a b c : Bool) → c ≡ false → (a && b && c) ≡ false
      no_third true true c e = e
      no_third true false c e = refl
      no_third false b c e = refl

  -- it begins
  pub has_begun : list_any (is_named own) calls ≡ false → (slot : ℕ) → living_slot (guard_of guard p.there.guards) ≡ Some slot → (number : ℕ) (setting : Setting)
      → setting_named name p.maps p.logged.executor.maps.items ≡ Some (number, setting) → (i : ℕ) → i ≡ length p.logged.executor.workers.items * SLOTS + slot
      → (machine : Machine K V K) → machine ≡ machine_for (record setting { slot = slot }) hash call → (kind : CallKind) → kind ≡ kind_of call → (new : Logged K V S)
      → ((names : ℕ → List ℕ) (v : Moment K V) (t : Scene K V) → IsShown same hash names v p.logged t → CallBegins same hash names v t i number machine p.logged new)
      → ((t : Scene K V) → IsThere same hash p.logged.executor t → BeginsThere same hash number machine i t p.logged.executor new.executor)
      → (calls2 : List (NamedCaller V)) → calls2 ≡ record { name = own; guard = guard; map = number; number = i; kind = kind; stands = far.Goes; value = None } ∷ calls
      → new.notes ≡ p.logged.notes → BeginsSo same hash terms m own guard name call true p (record p { logged = new; calls = calls2 })
  has_begun free slot lives number setting found i is_i machine is_machine kind is_kind new leads begins calls2 items kept =
      begun same hash terms m p stands own guard name call free slot lives number setting found new
      (λ names v t shown.
      (subst (λ (n : ℕ). CallBegins same hash names v t n number (machine_for (record setting { slot = slot }) hash call) p.logged new) is_i
      (subst (λ (x : Machine K V K). CallBegins same hash names v t i number x p.logged new) is_machine (leads names v t shown))))
      (record { name = own; guard = guard; map = number; number = i; kind = kind; stands = far.Goes; value = None })
      (ap {B = Seen} (λ (k : CallKind). record { name = own; guard = guard; map = number; kind = k; far = far.Goes }) is_kind) is_i calls2 items refl kept
      (λ t at. subst (λ (n : ℕ). BeginsThere same hash number (machine_for (record setting { slot = slot }) hash call) n t p.logged.executor new.executor) is_i
      (subst (λ (x : Machine K V K). BeginsThere same hash number x i t p.logged.executor new.executor) is_machine (begins t at)))
