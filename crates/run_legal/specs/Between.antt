-- Between the steps of events what a moment shows of calls is so on: where a call begins, takes a reply, goes on as a walk, or is given up; where a map comes, or goes; by other names of callers that
-- have no call; at a moment that is like it; and where an event is over.
use Rattle.std.specs.Prelude.{◌≡◌, ℕ, Bool, true, false, List, Option, Some, None, Ok, suc}
use Rattle.run_grows.specs.Given.SeizeWorld.{Rests, with_at}
use Rattle.run_grows.specs.Given.RunsSame.{is_same}
use Rattle.run_grows.specs.Given.RunsDeclared.call.Call.{Call}
use Rattle.run_grows.specs.Given.RunsDeclared.call.Call.TheVariants.{On}
use Rattle.run_grows.specs.Given.RunsDeclared.call.OneKey.{OneKey}
use Rattle.run_grows.specs.Given.RunsDeclared.call.Reply.{Reply}
use Rattle.run_grows.specs.Given.SchedulesBeginning.{with_call, with_map}
use Rattle.run_grows.specs.Given.SchedulesMoment.{UnderWay as CallThere, Asking, MapThere, Remains, Moment}
use Rattle.run_grows.specs.Given.SchedulesViews.{call_of, map_at}
use Rattle.run_grows.specs.Given.SweepsSweepPoints.{after_next}
use Rattle.run_grows.specs.Given.RawMachine.{machine_replied}
use Rattle.run_grows.specs.Given.CallersOverAll.{CallOverAll, gone_on}
use Rattle.run_grows.specs.Given.CallersTogether.{UnderWay, OverAll}
use Rattle.run_grows.specs.Given.EffectsKnown.{Known}
use Rattle.run_grows.specs.Given.FinishesMachines.{machine_of, RepliedOfKind}
use Rattle.run_grows.specs.Given.FinishesMakings.{Beginning, HasMade}
use Rattle.run_grows.specs.Given.FinishesMaps.{Standing, with_call as with_call_of}
use Rattle.run_grows.specs.Given.FollowsCalling.{NoneNamed, told}
use Rattle.run_grows.specs.Given.FollowsCalls.{IsCalled}
use Rattle.run_grows.specs.Given.HandsAsked.{reply_to_machine}
use Rattle.run_grows.specs.Given.HandsCalling.{IsBegunFor}
use Rattle.run_grows.specs.Given.OthersEndings.{without_map}
use Rattle.run_grows.specs.Given.OthersWalks.{given_up}
use Rattle.run_grows.specs.Given.HistoriesAsCalled.{IsBegunAs}
use Rattle.run_grows.specs.Given.ChangesChanges.{IsTaken}
use Rattle.run_grows.specs.Given.PromisesMeanwhile.{BeginsToLook}
use Rattle.run_grows.specs.Given.PurposesPurposes.{IsFor}
use Rattle.run_grows.specs.Given.ShardsShardWords.{IsUncounted}
use Rattle.run_legal.specs.Carried.{RefinesAllCalls}
use Rattle.run_grows.specs.Given.ScenesBeginning.{Begins}
use Rattle.run_grows.specs.Given.ScenesEnding.{ending_begun}
use Rattle.run_grows.specs.Given.ScenesHeld.{Held, IsAt}
use Rattle.run_grows.specs.Given.ScenesReplying.{AskLeads, StopLeads, scene_with, unless_stopped}
use Rattle.run_grows.specs.Given.ScenesScene.{HasCall, Scene, slot_of}
use Rattle.run_grows.specs.Given.SchedulesTransition.{Past, further}

-- the moment is like another one, of which it has the calls, the pairs, the maps and the tables
abbrev pub IsLike : {K V : Type 0} → Moment K V → Moment K V → Type 0
IsLike m v = v ≡ record m {
  events = v.events;
  is_mapped = v.is_mapped;
  is_closed = v.is_closed;
  is_alone = v.is_alone;
  there = v.there;
  slots = v.slots;
  sheltered = v.sheltered;
  remains = v.remains;
}

-- A call that begins is what was called, with what was given; a sweep and a reservation are for that, and a lookup begins at the root.
pub record IsBegunRight {K V : Type 0} (same : K → K → Bool) (u : UnderWay K V K) (call : Call K V) : Type 0 where
  pub called : IsCalled same u call
  pub given : IsBegunFor u call
  pub swept : IsBegunAs u call
  pub aim : IsFor u call
  pub looks : BeginsToLook K V same u call

module _ (K V : Type 0) (same : K → K → Bool) where
  -- The promises: so it is at another moment that is like this one,
  abbrev pub LikesShow : Type 0
  LikesShow =
      (name : ℕ → List ℕ) (log : Past K V) (m v : Moment K V) (known : Known) (s : Scene K V) → RefinesAllCalls same name log m known s → IsLike m v → RefinesAllCalls same name log v known s

  -- where the moment is one of the log,
  abbrev pub LogsGrow : Type 0
  LogsGrow =
      (name : ℕ → List ℕ) (log : Past K V) (m : Moment K V) (known : Known) (s : Scene K V) → RefinesAllCalls same name log m known s → m.events ≡ suc log.entries
      → RefinesAllCalls same name (further m log) m known s

  -- and by other names of callers that have no call.
  abbrev pub NamesChange : Type 0
  NamesChange =
      (name name2 : ℕ → List ℕ) (log : Past K V) (m : Moment K V) (known : Known) (s : Scene K V) → ((i : ℕ) → HasCall s i → name2 i ≡ name i) → RefinesAllCalls same name log m known s
      → RefinesAllCalls same name2 log m known s

module _ (K V : Type 0) (same : K → K → Bool) (hash : ℕ → K → ℕ) where
  -- So it is where a call begins as the next event begins, on a map that stands, by a name that no call under way has, and whose caller has no row under way;
  abbrev pub CallsBegin : Type 0
  CallsBegin =
      (name : ℕ → List ℕ) (log : Past K V) (known : Known) (s : Scene K V) (old new : Held K V) → IsAt same hash old s → RefinesAllCalls same name log log.now known s
      → (map i : ℕ) (standing : Standing K) → s.maps map ≡ Some standing → (u : UnderWay K V K) (call : Call K V) (guard : List ℕ) → Begins same standing i u → IsBegunRight same u call
      → NoneNamed name (name i) s → s.world.row i ≡ Rests → IsAt same hash new (scene_with map i u s)
      → RefinesAllCalls same name log (with_call (name i) guard call (Some map) log.now) known (scene_with map i u s)

  -- where one that asks takes a reply that such a call takes;
  abbrev pub CallsTake : Type 0
  CallsTake =
      (name : ℕ → List ℕ) (log : Past K V) (m : Moment K V) (known : Known) (s : Scene K V) (old new : Held K V) → IsAt same hash old s → RefinesAllCalls same name log m known s
      → (map i : ℕ) (u : UnderWay K V K) → s.calls map i ≡ Some u → (c : CallThere K V) → call_of (name i) m ≡ Some c → (question : Option ℕ) → c.stands ≡ Asking question
      → (standing : Standing K) → s.maps map ≡ Some standing → (is_told : Reply V) (next : UnderWay K V K)
      → machine_of next ≡ (machine_replied (machine_of u) (reply_to_machine is_told)).0 → (machine_replied (machine_of u) (reply_to_machine is_told)).1 ≡ Ok tt
      → RepliedOfKind V same same old.batch_size old.roots slot_of standing i u (reply_to_machine is_told) next → ((one : OneKey K V) → c.call ≡ On one → IsTaken one is_told)
      → IsAt same hash new (scene_with map i next s) → RefinesAllCalls same name log (told (name i) is_told m) known (scene_with map i next s)

  -- where a walk that is ready is asked for its next pair,
  abbrev pub WalksContinue : Type 0
  WalksContinue =
      (name : ℕ → List ℕ) (log : Past K V) (m : Moment K V) (known : Known) (s : Scene K V) (old new : Held K V) → IsAt same hash old s → RefinesAllCalls same name log m known s
      → (i : ℕ) (leads : AskLeads same hash i true s old new) (map : ℕ) (o : CallOverAll) (here : s.calls map i ≡ Some (OverAll o))
      → (leads map (OverAll o) here).0 ≡ OverAll (gone_on o (after_next o.sweep)) → RefinesAllCalls same name log m known (scene_with map i (leads map (OverAll o) here).0 s)

  -- or is given up, and no call that is under way then has its name;
  abbrev pub WalksStop : Type 0
  WalksStop =
      (name : ℕ → List ℕ) (log : Past K V) (m : Moment K V) (known : Known) (s : Scene K V) (old new : Held K V) → IsAt same hash old s → RefinesAllCalls same name log m known s
      → (i : ℕ) (stopped : Bool) → StopLeads same hash i stopped s old new → (map : ℕ) (u : UnderWay K V K) → s.calls map i ≡ Some u
      → (let after = record s { calls = with_call_of s.calls map i (unless_stopped stopped u) } in
      (stopped ≡ true → NoneNamed name (name i) after) → RefinesAllCalls same name log (given_up (name i) stopped m) known after)

  -- where a map comes by the next number, on which nothing was counted,
  abbrev pub MapsCome : Type 0
  MapsCome =
      (name : ℕ → List ℕ) (log : Past K V) (m : Moment K V) (known : Known) (s : Scene K V) (e : Held K V) → IsAt same hash e s → RefinesAllCalls same name log m known s
      → (there : MapThere) → there.number ≡ m.made → RefinesAllCalls same name log (with_map there m) known s × IsUncounted there.number (with_map there m)

  -- and its making begins, by one that makes none;
  abbrev pub MakingsBegin : Type 0
  MakingsBegin =
      (name : ℕ → List ℕ) (log : Past K V) (m : Moment K V) (known : Known) (s : Scene K V) (old new : Held K V) → IsAt same hash old s → RefinesAllCalls same name log m known s
      → (i : ℕ) (b : Beginning K) → s.makers i ≡ None → (HasMade b.machine.stands → ⊥) → IsUncounted b.map m
      → (let led = record s { makers = with_at s.makers i (Some b) } in IsAt same hash new led → RefinesAllCalls same name log m known led)

  -- where the end of one begins, by one that ends none,
  abbrev pub EndsBegin : Type 0
  EndsBegin =
      (name : ℕ → List ℕ) (log : Past K V) (m : Moment K V) (known : Known) (s : Scene K V) (old new : Held K V) → IsAt same hash old s → RefinesAllCalls same name log m known s
      → (map i : ℕ) (standing : Standing K) → s.maps map ≡ Some standing → s.enders i ≡ None → IsAt same hash new (ending_begun map i standing s) → RefinesAllCalls same name log m known (ending_begun map i standing s)

  -- and where it is there no more: no map that stands has its name.
  abbrev pub MapsGo : Type 0
  MapsGo =
      (name : ℕ → List ℕ) (log : Past K V) (m : Moment K V) (known : Known) (s : Scene K V) (e : Held K V) → IsAt same hash e s → RefinesAllCalls same name log m known s
      → (own : List ℕ) (remains : List Remains)
      → ((map : ℕ) (standing : Standing K) (there : MapThere) → s.maps map ≡ Some standing → map_at map m ≡ Some there → is_same there.name own ≡ false)
      → RefinesAllCalls same name log (without_map own remains m) known s
