-- A scheduler that stands for a moment stands for it in any scene in which the moment shows its executor: who has a call under way the executor says.
use Rattle.std.specs.Prelude.{◌≡◌, ℕ, Bool, List, [], ◌∷◌, slice_set, Some, option_map}
use Rattle.std.specs.List.{AllByRecursion, remove}
use Rattle.std.proofs.Common.{sym, subst, ◌∙◌}
use Rattle.play_lists.specs.Given.TablesDeclared.setting.Setting.{Setting}
use Rattle.play_stepping.specs.Given.RawDeclared.machines.machine.Machine.{Machine}
use Rattle.run_schedules.specs.Schedules.Moment.{Moment}
use Rattle.run_schedules.specs.Schedules.Terms.{Terms}
use Rattle.play_lists.specs.Given.FinishesMachines.{machine_of}
use Rattle.play_lists.specs.Given.FinishesMaps.{Standing}
use Rattle.play_stepping.specs.Given.LoggedShown.{IsShown}
use Rattle.play_stepping.proofs.Given.RowsLists.{all_so, both_none, both_some}
use Rattle.play_stepping.specs.Given.SchedulerPlayed.{AsFar, IsUnderWay, RefinesFor}
use Rattle.play_stepping.specs.Given.ExecutorDeclared.caller.NamedCaller.{NamedCaller}
use Rattle.play_stepping.specs.Given.ExecutorDeclared.named_map.NamedMap.{NamedMap}
use Rattle.play_events.proofs.Events.OfCalls.Worth.{all_left, all_set}
use Rattle.play_stepping.specs.Given.SchedulerDeclared.scheduler.Scheduler.{Scheduler}
use Rattle.play_lists.specs.Given.ScenesScene.{Scene}

-- callers have these names
abbrev pub AreNamed : {V : Type 0} → (ℕ → List ℕ) → List (NamedCaller V) → Type 0
AreNamed {V} name calls = AllByRecursion (λ (d : NamedCaller V). name d.number ≡ d.name) calls

-- those that are left have them,
pub named_left : {V : Type 0} (name : ℕ → List ℕ) (calls : List (NamedCaller V)) (place : ℕ) → AreNamed name calls → AreNamed name (remove calls place)
named_left name calls place named = all_left (λ d. name d.number ≡ d.name) calls place named

-- and so do all where one is put in the place of another
pub named_set : {V : Type 0} (name : ℕ → List ℕ) (calls : List (NamedCaller V)) (place : ℕ) (x : NamedCaller V) → name x.number ≡ x.name → AreNamed name calls → AreNamed name (slice_set calls place x)
named_set name calls place x its named = all_set (λ d. name d.number ≡ d.name) calls place x its named

module _ {K V S : Type 0} (same : K → K → Bool) (hash : K → ℕ) (terms : Terms) (m : Moment K V) (p : Scheduler K V S) (stands : RefinesFor same hash terms m p) where
  -- in its own scene callers have the names of the scene
  pub its_named : AreNamed stands.name p.calls
  its_named = all_so (IsUnderWay stands.name stands.scene p.there) (λ (d : NamedCaller V). stands.name d.number ≡ d.name) (λ d way. way.2) p.calls stands.calls.each

  module _ (name : ℕ → List ℕ) (s : Scene K V) (shown : IsShown same hash name m p.logged s) (named : AreNamed name p.calls) where
    -- a call is under way in one scene just where it is in the other, with the same machine
    pub alike : (n j : ℕ) → option_map machine_of (s.calls n j) ≡ option_map machine_of (stands.scene.calls n j)
    alike n j = shown.is_at.calls n j ∙ sym (stands.shown.is_at.calls n j)

    way_here : (d : NamedCaller V) → name d.number ≡ d.name → IsUnderWay stands.name stands.scene p.there d → IsUnderWay name s p.there d
    way_here d its way =
        let x = both_some machine_of machine_of (s.calls d.map d.number) (stands.scene.calls d.map d.number) (alike d.map d.number) way.0 way.1 in
        (x.0, x.1, its, way.3, subst (λ (machine : Machine K V K). AsFar d machine) (sym x.2) way.4)

    pub ways : (calls : List (NamedCaller V)) → AreNamed name calls → AllByRecursion (IsUnderWay stands.name stands.scene p.there) calls → AllByRecursion (IsUnderWay name s p.there) calls
    ways [] its all = tt
    ways (d ∷ calls) its all = (way_here d its.0 all.0, ways calls its.1 all.1)

    -- and so does a map stand
    pub stands_here : (t : NamedMap) → ((standing : Standing K) × (stands.scene.maps t.number ≡ Some standing)) → (standing : Standing K) × (s.maps t.number ≡ Some standing)
    stands_here t st =
        let setting : Standing K → Setting = λ x. x.setting in
        let x = both_some setting setting (s.maps t.number) (stands.scene.maps t.number) (shown.is_at.maps t.number ∙ sym (stands.shown.is_at.maps t.number)) st.0 st.1 in
        (x.0, x.1)

    abbrev pub stands_in : RefinesFor same hash terms m p
    stands_in = record {
      name = name;
      scene = s;
      shown = shown;
      given = stands.given;
      there = stands.there;
      mapped = stands.mapped;
      closed = stands.closed;
      calls = record {
        listed = stands.calls.listed;
        once = stands.calls.once;
        each = ways p.calls named stands.calls.each;
        only = λ n j u is.
            let x = both_some machine_of machine_of (stands.scene.calls n j) (s.calls n j) (sym (alike n j)) u is in
            stands.calls.only n j x.0 x.1;
      };
      maps = record {
        listed = stands.maps.listed;
        stand = all_so (λ (t : NamedMap). (standing : Standing K) × (stands.scene.maps t.number ≡ Some standing)) (λ (t : NamedMap). (standing : Standing K) × (s.maps t.number ≡ Some standing)) stands_here
            p.maps stands.maps.stand;
      };
      slots = stands.slots;
      rests = λ j none. stands.rests j (λ n. both_none machine_of machine_of (stands.scene.calls n j) (s.calls n j) (sym (alike n j)) (none n));
      names = stands.names;
    }
