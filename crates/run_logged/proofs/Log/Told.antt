-- Calls go on by what they are told, or asked, and the moment shows that.
use Rattle.std.specs.Prelude.{◌≡◌, ℕ, Bool, true, false, List, Result, Ok}
use Rattle.std.proofs.Common.{refl, sym, subst}
use Rattle.papaya_raw.specs.Machine.{machine_replied}
use Rattle.papaya_raw.specs.declared.machines.asking.MachineReply.{MachineReply}
use Rattle.run_schedules.specs.Schedules.Moment.{Moment}
use Rattle.run_effects.specs.Effects.Known.{known}
use Rattle.run_effects.specs.declared.notes.Notes.{Notes}
use Rattle.run_shows.specs.Given.FinishesMachines.{machine_of, RepliedOfKind}
use Rattle.run_shows.specs.Given.FinishesMaps.{with_call}
use Rattle.run_shows.specs.Follows.Calling.{told as told_so}
use Rattle.run_executor.specs.Given.HandsAsked.{reply_to_machine}
use Rattle.run_executor.proofs.Given.MomentsCalls.{calls_take_whole}
use Rattle.run_executor.proofs.Given.MomentsWalks.{walks_go_on_whole, walks_stop_whole}
use Rattle.run_executor.specs.Given.MomentsWhole.{RefinesWhole}
use Rattle.run_kept.specs.Kept.Kept.{RefinesKept}
use Rattle.run_kept.proofs.Kept.Between.{calls_take_kept, walks_go_on_kept, walks_stop_kept}
use Rattle.run_shows.specs.Others.Walks.{given_up}
use Rattle.run_logged.specs.Log.Calling.{CallTakes, WalkContinues, WalkStops}
use Rattle.run_logged.specs.Log.Shown.{IsShown}
use Rattle.run_logged.specs.declared.logged.Logged.{Logged}
use Rattle.run_logged.proofs.Log.Counted.{counted_stays, same_memory}
use Rattle.run_executor.specs.Executing.IsThere.{IsThere, PreservesSettings, held_by}
use Rattle.run_executor.specs.Executing.Replying.{AsksThere, RepliesThere, StopsThere}
use Rattle.run_shows.specs.Scenes.Replying.{scene_with, unless_stopped}
use Rattle.run_shows.specs.Scenes.Scene.{Scene, slot_of}
use Rattle.run_kept.proofs.Sheds.Held.{ask_held, stop_held}

-- where a walk is given up, maps and what they have left over are as they were
module _ {K V : Type 0} (own : List ℕ) (m : Moment K V) where
  given_maps : (stopped : Bool) → (given_up own stopped m).maps ≡ m.maps
  given_maps true = refl
  given_maps false = refl

  given_tables : (stopped : Bool) → (given_up own stopped m).tables ≡ m.tables
  given_tables true = refl
  given_tables false = refl

  given_remains : (stopped : Bool) → (given_up own stopped m).remains ≡ m.remains
  given_remains true = refl
  given_remains false = refl

module _ {K V S : Type 0} (same : K → K → Bool) (hash : K → ℕ) (old new : Logged K V S) (noted : new.notes ≡ old.notes) (given : PreservesSettings old.executor new.executor) (i : ℕ) where
  -- with the same notes
  noted_so : (name : ℕ → List ℕ) (m : Moment K V) (s : Scene K V) → RefinesWhole same name m (known old.notes) s → RefinesWhole same name m (known new.notes) s
  noted_so name m s shows = subst (λ (n : Notes). RefinesWhole {K = K} {V = V} same name m (known n) s) (sym noted) shows

  kept_so : (name : ℕ → List ℕ) (m : Moment K V) (s : Scene K V) → RefinesKept name m (known old.notes) s → RefinesKept name m (known new.notes) s
  kept_so name m s kept = subst (λ (n : Notes). RefinesKept {K = K} {V = V} name m (known n) s) (sym noted) kept

  pub call_takes : (reply : MachineReply V) (result : Result Unit (MachineReply V)) → ((s : Scene K V) → IsThere same hash old.executor s → RepliesThere same hash i reply result s old.executor new.executor)
      → (name : ℕ → List ℕ) (m : Moment K V) (s : Scene K V) → IsShown same hash name m old s → CallTakes same hash name m s i reply result old new
  call_takes reply result leads name m s shown map u here c there question asks is_told told_as ok =
      let to = (leads s shown.is_at).1 map u here in
      let taken : (machine_replied (machine_of u) (reply_to_machine is_told)).1 ≡ Ok tt = subst (λ (r : MachineReply V). (machine_replied (machine_of u) r).1 ≡ Ok tt) told_as (subst (λ (r : Result Unit (MachineReply V)). r ≡ Ok tt) to.4 ok) in
      let next_is : machine_of to.1 ≡ (machine_replied (machine_of u) (reply_to_machine is_told)).0 = subst (λ (r : MachineReply V). machine_of to.1 ≡ (machine_replied (machine_of u) r).0) told_as to.3 in
      let whole = calls_take_whole K V same (λ map. hash) name m (known old.notes) s (held_by old.executor) shown.is_at.held shown.shows map i u here c there question asks to.0 to.2 is_told to.1 next_is taken
      (subst (λ (r : MachineReply V). RepliedOfKind V same same old.executor.batch_size old.executor.roots slot_of to.0 i u r to.1) told_as to.5) in (
        to.1,
        to.3,
        record {
          is_at = to.7;
          shows = noted_so name (told_so (name i) is_told m) (scene_with map i to.1 s) whole;
          kept = kept_so name (told_so (name i) is_told m) (scene_with map i to.1 s)
              (calls_take_kept K V same (λ map. hash) name m (known old.notes) s (held_by old.executor) (held_by new.executor) shown.is_at.held shown.shows shown.kept map i u here (reply_to_machine is_told) to.1 next_is is_told to.7.held whole.all.shown);
          counted = counted_stays old new given noted m (told_so (name i) is_told m) s (scene_with map i to.1 s) shown.counted (same_memory same (λ map. hash) old.executor new.executor s (scene_with map i to.1 s) shown.is_at.held to.7.held refl)
              refl refl refl refl refl refl refl;
        },
      )

  pub walk_goes_on : (ready : Bool) → ((s : Scene K V) → IsThere same hash old.executor s → AsksThere same hash i ready s old.executor new.executor)
      → (name : ℕ → List ℕ) (m : Moment K V) (s : Scene K V) → IsShown same hash name m old s → WalkContinues same hash name m s i ready old new
  walk_goes_on ready leads name m s shown map u here = (
    ((leads s shown.is_at).1 map u here).2,
    λ is_ready.
        let asked = subst (λ (q : Bool). AsksThere same hash i q s old.executor new.executor) is_ready (leads s shown.is_at) in
        let to = asked.1 map u here in (
          to.0,
          to.1,
          record {
            is_at = to.4;
            shows = noted_so name m (scene_with map i to.0 s) (walks_go_on_whole K V same (λ map. hash) name m (known old.notes) s (held_by old.executor) (held_by new.executor) shown.shows i (ask_held same hash s old.executor new.executor i true asked) map u here);
            kept = kept_so name m (scene_with map i to.0 s) (walks_go_on_kept K V same (λ map. hash) name m (known old.notes) s (held_by old.executor) (held_by new.executor) shown.shows shown.kept i (ask_held same hash s old.executor new.executor i true asked) map u here);
            counted = counted_stays old new given noted m m s (scene_with map i to.0 s) shown.counted (same_memory same (λ map. hash) old.executor new.executor s (scene_with map i to.0 s) shown.is_at.held to.4.held refl)
                refl refl refl refl refl refl refl;
          },
        ),
  )

  pub walk_stops : (stopped : Bool) → ((s : Scene K V) → IsThere same hash old.executor s → StopsThere same hash i stopped s old.executor new.executor)
      → (name : ℕ → List ℕ) (m : Moment K V) (s : Scene K V) → IsShown same hash name m old s → WalkStops same hash name m s i stopped old new
  walk_stops stopped leads name m s shown map u here =
      let went = leads s shown.is_at in
      let asked = stop_held same hash s old.executor new.executor i stopped went in
      let to = went.1 map u here in
      let after = record s { calls = with_call s.calls map i (unless_stopped stopped u) } in (
        to.0,
        λ none. record {
          is_at = to.2;
          shows = noted_so name (given_up (name i) stopped m) after (walks_stop_whole K V same (λ map. hash) name m (known old.notes) s (held_by old.executor) (held_by new.executor) shown.shows i stopped asked map u here none);
          kept = kept_so name (given_up (name i) stopped m) after
              (walks_stop_kept K V same (λ map. hash) name m (known old.notes) s (held_by old.executor) (held_by new.executor) shown.is_at.held shown.shows shown.kept i stopped asked map u here none);
          counted = counted_stays old new given noted m (given_up (name i) stopped m) s after shown.counted (same_memory same (λ map. hash) old.executor new.executor s after shown.is_at.held to.2.held refl)
              (given_maps (name i) m stopped) (given_tables (name i) m stopped) (given_remains (name i) m stopped) refl refl refl refl;
        },
      )
