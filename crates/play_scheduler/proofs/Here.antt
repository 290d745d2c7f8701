-- A caller that has a call under way: what stands at its place, in the moment and in the scene.
use Rattle.std.specs.Prelude.{◌≡◌, ℕ, Bool, true, List, find, position, slice_get, slice_index_or, is_some, Option, Some, None, option_map}
use Rattle.std.specs.List.{list_any, position_or_len}
use Rattle.std.proofs.Common.{refl, sym, ap, ◌∙◌}
use Rattle.papaya_raw.specs.declared.machines.machine.Machine.{Machine}
use Rattle.run_schedules.specs.Runs.Same.{is_same}
use Rattle.run_schedules.specs.Schedules.Moment.{UnderWay as CallThere, Moment}
use Rattle.run_schedules.specs.Schedules.Terms.{Terms}
use Rattle.run_schedules.specs.Schedules.Views.{call_of}
use Rattle.run_shows.proofs.Follows.Calling.{is_same_is}
use Rattle.play_scheduler.specs.Played.{AsFar, IsUnderWayAs, RefinesAs, RefinesFor}
use Rattle.run_executor.specs.Named.Seen.{Seen, is_named, seen, seen_of}
use Rattle.run_executor.specs.declared.caller.NamedCaller.{NamedCaller}
use Rattle.play_scheduler.specs.declared.scheduler.Scheduler.{Scheduler}
use Rattle.run_logged.proofs.Rows.Lists.{got, as_some, both_some, found_alike, found_has, found_passes, is_found, place_found, place_is, place_some}

module _ {K V S : Type 0} (Far : NamedCaller V → Machine K V K → Type 0) (same : K → K → Bool) (hash : K → ℕ) (terms : Terms) (m : Moment K V) (p : Scheduler K V S)
    (stands : RefinesAs Far same hash terms m p) (own : List ℕ) where
  abbrev calls : List (NamedCaller V)
  calls = p.calls

  abbrev place_there : Option ℕ
  place_there = position (is_named own) calls

  alike : option_map seen (call_of own m) ≡ option_map seen_of (find (is_named own) calls)
  alike = found_alike seen seen_of m.calls calls stands.calls.listed (λ (z : Seen). is_same z.name own)

  -- it is found in the moment just where it has a place
  pub there_is_as : (place : Option ℕ) → place ≡ place_there → is_some (call_of own m) ≡ is_some place
  there_is_as place is = as_some seen seen_of (call_of own m) (find (is_named own) calls) alike ∙ is_found (is_named own) calls ∙ sym (place_some (is_named own) calls place is)

  -- who stands at its place: it has that name, and the moment has its call
  pub record HereAs (place : ℕ) : Type 0 where
    pub caller : NamedCaller V
    pub at : slice_get calls place ≡ Some caller
    pub first : place ≡ position_or_len (is_named own) calls
    pub any : list_any (is_named own) calls ≡ true
    pub found : find (is_named own) calls ≡ Some caller
    pub named : caller.name ≡ own
    pub call : CallThere K V
    pub call_is : call_of own m ≡ Some call
    pub as_seen : seen call ≡ seen_of caller
    pub way : IsUnderWayAs Far stands.name stands.scene p.there caller

  pub here_as_at : (place : ℕ) → Some place ≡ place_there → HereAs place
  here_as_at place is = by (find (is_named own) calls) refl
    where
      any : list_any (is_named own) calls ≡ true
      any = sym (place_some (is_named own) calls (Some place) is)

      by : (o : Option (NamedCaller V)) → find (is_named own) calls ≡ o → HereAs place
      by None f = absurd (let a = is_found (is_named own) calls ∙ any in let b = ap is_some f in cc (a, b))
      by (Some d) f =
          let there = both_some seen seen_of (call_of own m) (find (is_named own) calls) alike d f in
          record {
            caller = d;
            at = place_found (is_named own) calls place is ∙ f;
            first = place_is (is_named own) calls place is;
            any = any;
            found = f;
            named = is_same_is d.name own (found_passes (is_named own) calls d f);
            call = there.0;
            call_is = there.1;
            as_seen = there.2;
            way = found_has (IsUnderWayAs Far stands.name stands.scene p.there) (is_named own) calls d f stands.calls.each;
          }

  -- who is read there
  pub read_as : (place : ℕ) (here : HereAs place) (x : NamedCaller V) → x ≡ slice_index_or calls place x → x ≡ here.caller
  read_as place here x e = e ∙ got calls place here.caller x here.at

-- where each machine is as far as its caller says
module _ {K V S : Type 0} (same : K → K → Bool) (hash : K → ℕ) (terms : Terms) (m : Moment K V) (p : Scheduler K V S) (stands : RefinesFor same hash terms m p) (own : List ℕ) where
  abbrev pub Here : ℕ → Type 0
  Here = HereAs AsFar same hash terms m p stands own

  pub there_is : (place : Option ℕ) → place ≡ position (is_named own) p.calls → is_some (call_of own m) ≡ is_some place
  there_is = there_is_as AsFar same hash terms m p stands own

  abbrev pub here_at : (place : ℕ) → Some place ≡ position (is_named own) p.calls → Here place
  here_at = here_as_at AsFar same hash terms m p stands own

  pub read_here : (place : ℕ) (here : Here place) (x : NamedCaller V) → x ≡ slice_index_or p.calls place x → x ≡ here.caller
  read_here = read_as AsFar same hash terms m p stands own
