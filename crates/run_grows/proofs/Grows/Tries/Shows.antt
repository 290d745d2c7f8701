-- Whatever happens between the steps of calls, a call has met what its tries meet, at moments since it began.
use Rattle.std.specs.Prelude.{◌≡◌, ◌≤◌, ◌==◌, ℕ, Bool, true, List, find, Option, Some}
use Rattle.std.proofs.Common.{ap, sym, ◌∙◌, inl, inr}
use Rattle.papaya_raw.specs.Machine.{machine_asked, machine_replied}
use Rattle.papaya_raw.specs.declared.machines.asking.MachineReply.{MachineReply}
use Rattle.papaya_raw.specs.declared.machines.call.KeyCall.{KeyCall}
use Rattle.papaya_raw.specs.declared.machines.machine.Machine.{Machine}
use Rattle.run_schedules.specs.declared.call.Call.{Call}
use Rattle.run_schedules.specs.declared.call.Reply.{Reply}
use Rattle.run_schedules.specs.declared.effect.Spot.{Spot}
use Rattle.run_schedules.specs.declared.outcome.Outcome.{Outcome}
use Rattle.run_schedules.specs.Schedules.Beginning.{with_call}
use Rattle.run_schedules.specs.Schedules.Entry.{ends_call}
use Rattle.run_schedules.specs.Schedules.Moment.{MapThere, Moment, UnderWay as CallThere}
use Rattle.run_schedules.specs.Schedules.Views.{call_of, map_at}
use Rattle.run_finds.specs.Given.CallersPairs.{Given}
use Rattle.run_finds.specs.Given.CallersTogether.{Computes, Counting, ForRoom, Gets, Inserts, IsBegun, OnKey, OverAll, Removes, RemovesIf, TriesToInsert, TriesToInsertWith, UnderWay, Updates, UpdatesOrInserts}
use Rattle.run_finds.specs.Given.EffectsKnown.{Known}
use Rattle.run_finds.specs.Given.FinishesMachines.{machine_of}
use Rattle.run_finds.specs.Given.FinishesMaps.{Standing, with_call as with_in}
use Rattle.run_finds.specs.Given.FollowsCalling.{NoneNamed, come_to, told}
use Rattle.run_finds.specs.Given.FollowsCalls.{RefinesCalls as IsThere}
use Rattle.run_finds.specs.Given.FollowsShows.{Refines}
use Rattle.run_finds.specs.Given.OthersWalks.{given_up}
use Rattle.run_finds.proofs.Given.MomentsBeside.{IsBeside}
use Rattle.run_finds.specs.Within.{many_of}
use Rattle.run_grows.specs.Sources.Sources.{RefinesSources}
use Rattle.run_grows.specs.Grows.Tries.{MachineTried, OthersHadTried, RefinesTries, TakenOrPassed, TriedAt}
use Rattle.run_grows.proofs.Grows.Since as since
use Rattle.run_grows.proofs.Grows.Since.{HasSamePairs}
use Rattle.run_grows.proofs.Grows.Tries.More.{asked_tried, machine_more, reply_tried}
use Rattle.run_grows.proofs.Grows.Tries.Stays.{chart_taken, taken_where}
use Rattle.run_kept.proofs.Given.ScenesMay.{standing_is}
use Rattle.run_finds.specs.Given.ScenesBeginning.{Begins}
use Rattle.run_finds.specs.Given.ScenesHeld.{Held, IsAt}
use Rattle.run_finds.specs.Given.ScenesReplying.{scene_with, unless_stopped}
use Rattle.run_finds.specs.Given.ScenesScene.{Scene, slot_of}
use Rattle.run_schedules.specs.Schedules.Transition.{Past, further}
use Rattle.run_finds.specs.Given.ChangesHistories.{IsPast}

-- A call that begins has made no try.
module _ {K V : Type 0} (same : K → K → Bool) (Why : Spot × ℕ → Type 0) where
  key_begins : (hash : K → ℕ) (i : ℕ) (standing : Standing K) (keys : K → Bool) (given : Given K V) (call : KeyCall K V K) → IsBegun V same hash same standing.setting slot_of i keys given call → TriedAt Why call call.stands
  key_begins hash i standing keys given call (Gets q code few class) = tt
  key_begins hash i standing keys given call (Removes q code few class) = tt
  key_begins hash i standing keys given call (Inserts key value) = tt
  key_begins hash i standing keys given call (TriesToInsert key value) = tt
  key_begins hash i standing keys given call (Computes key) = tt
  key_begins hash i standing keys given call (Updates key) = tt
  key_begins hash i standing keys given call (UpdatesOrInserts key absent) = tt
  key_begins hash i standing keys given call (TriesToInsertWith key) = tt
  key_begins hash i standing keys given call (RemovesIf q code few class) = tt

  begun_tried : (standing : Standing K) (i : ℕ) (u : UnderWay K V K) → Begins same standing i u → MachineTried Why (machine_of u)
  begun_tried standing i (OnKey u) begins = key_begins standing.hash i standing u.keys u.pair u.call begins.0
  begun_tried standing i (ForRoom r) begins = tt
  begun_tried standing i (Counting sum) begins = tt
  begun_tried standing i (OverAll o) begins = tt

-- what is so of each machine
module _ (K V : Type 0) where
  abbrev pub Of : (Spot × ℕ → Type 0) → Machine K V K → Type 0
  Of Why machine = MachineTried Why machine

  pub more : (A B : Spot × ℕ → Type 0) → ((x : Spot × ℕ) → A x → B x) → (machine : Machine K V K) → Of A machine → Of B machine
  more A B leads machine so = machine_more A B leads machine so

  pub replies : (A : Spot × ℕ → Type 0) (machine : Machine K V K) (reply : MachineReply V) → Of A machine → Of A (machine_replied machine reply).0
  replies A machine reply so = reply_tried A machine reply so

  pub asked : (A : Spot × ℕ → Type 0) (machine : Machine K V K) → Of A machine → Of A (machine_asked machine).0
  asked A machine so = asked_tried A machine so

  abbrev pub So : ℕ → Spot × ℕ → Moment K V → Type 0
  So map x m = TakenOrPassed map x m

  abbrev pub Alike : Moment K V → Moment K V → Type 0
  Alike m v = HasSamePairs m v

  pub so_where : (m v : Moment K V) → Alike m v → v.tables ≡ m.tables → (n : ℕ) → map_at n v ≡ map_at n m → (x : Spot × ℕ) → So n x m → So n x v
  so_where m v pairs tables n there x so = taken_where m v pairs tables n there x so

module _ {K V : Type 0} (name : ℕ → List ℕ) (log : Past K V) (m v : Moment K V) (s t : Scene K V) (tries : RefinesTries name log m s) where
  -- where calls are as they were, or are under way no more
  pub tries_alike : v.calls ≡ m.calls → HasSamePairs m v → v.maps ≡ m.maps → v.tables ≡ m.tables → ((n j : ℕ) (x : UnderWay K V K) → t.calls n j ≡ Some x → s.calls n j ≡ Some x) → RefinesTries name log v t
  tries_alike calls pairs maps tables was =
      since.so_alike (Of K V) (more K V) (replies K V) (asked K V) (So K V) (Alike K V) (λ m v pairs. pairs) (so_where K V) name log m v s t tries calls
      (λ n j x is y so. taken_where m v pairs tables n (ap (λ (fs : List MapThere). find (λ f. f.number == n) fs) maps) y so) was

-- at a moment with other maps, where those that stand are found as they were
pub tries_where : {K V : Type 0} (same : K → K → Bool) (hash : ℕ → K → ℕ) (name : ℕ → List ℕ) (log : Past K V) (m v : Moment K V) (s : Scene K V) (e : Held K V) → IsAt same hash e s → RefinesTries name log m s
    → ((n : ℕ) (st : Standing K) → s.maps n ≡ Some st → map_at n v ≡ map_at n m) → HasSamePairs m v → v.tables ≡ m.tables → v.calls ≡ m.calls → RefinesTries name log v s
tries_where {K} {V} same hash name log m v s e at tries still pairs tables calls =
    since.so_where_found (Of K V) (more K V) (replies K V) (asked K V) (So K V) (Alike K V) (λ m v pairs. pairs) (so_where K V) same hash name log m v s e at tries still pairs tables calls

-- with a further event of the log
pub tries_grow : {K V : Type 0} (name : ℕ → List ℕ) (log : Past K V) (next : Moment K V) (m : Moment K V) (s : Scene K V)
    → ((map i : ℕ) (u : UnderWay K V K) → s.calls map i ≡ Some u → (c : CallThere K V) → call_of (name i) m ≡ Some c → c.begun ≤ log.entries) → RefinesTries name log m s → RefinesTries name (further next log) m s
tries_grow {K} {V} name log next m s begun tries = since.so_grow (Of K V) (more K V) (replies K V) (asked K V) (So K V) (Alike K V) (λ m v pairs. pairs) (so_where K V) name log next m s begun tries

-- Where a call begins, is told, is asked for its next pair, or is given up.

module _ {K V : Type 0} (same : K → K → Bool) (name : ℕ → List ℕ) (log : Past K V) (m : Moment K V) (s : Scene K V) (tries : RefinesTries name log m s) (map i : ℕ) (u : UnderWay K V K) where
  pub calls_begin_tries : (guard : List ℕ) (its : Call K V) (standing : Standing K) → Begins same standing i u → NoneNamed name (name i) s
      → RefinesTries name log (with_call (name i) guard its (Some map) m) (scene_with map i u s)
  calls_begin_tries guard its standing begins apart =
      since.calls_begin_so (Of K V) (more K V) (replies K V) (asked K V) (So K V) (Alike K V) (λ m v pairs. pairs) (so_where K V) same name log m s tries map i u guard its (λ Why. begun_tried same Why standing i u begins) apart

  module _ (here : s.calls map i ≡ Some u) (shown : IsThere same name m s.calls) (next : UnderWay K V K) where
    pub calls_take_tries : (reply : Reply V) (machine_reply : MachineReply V) → machine_of next ≡ (machine_replied (machine_of u) machine_reply).0 → RefinesTries name log (told (name i) reply m) (scene_with map i next s)
    calls_take_tries reply machine_reply next_is =
        since.calls_take_so (Of K V) (more K V) (replies K V) (asked K V) (So K V) (Alike K V) (λ m v pairs. pairs) (so_where K V) same name log m s tries map i u here shown next reply machine_reply next_is

    pub walks_go_on_tries : machine_of next ≡ (machine_asked (machine_of u)).0 → RefinesTries name log m (scene_with map i next s)
    walks_go_on_tries next_is = since.walks_go_on_so (Of K V) (more K V) (replies K V) (asked K V) (So K V) (Alike K V) (λ m v pairs. pairs) (so_where K V) same name log m s tries map i u here shown next next_is

    abbrev at_end : Bool → Scene K V
    at_end q = record s { calls = with_in s.calls map i (unless_stopped q u) }

    pub walks_stop_tries : (q : Bool) → (q ≡ true → NoneNamed name (name i) (at_end q)) → RefinesTries name log (given_up (name i) q m) (at_end q)
    walks_stop_tries q none = since.walks_stop_so (Of K V) (more K V) (replies K V) (asked K V) (So K V) (Alike K V) (λ m v pairs. pairs) (so_where K V) same name log m s tries map i u here shown next q none

-- Where a call comes to an outcome.
pub calls_come_to_tries : {K V : Type 0} (same : K → K → Bool) (name : ℕ → List ℕ) (log : Past K V) (m : Moment K V) (s : Scene K V) → RefinesTries name log m s → IsThere same name m s.calls → (own : List ℕ) (o : Outcome V) (steps : ℕ)
    → (ends_call o ≡ true → NoneNamed name own s) → RefinesTries name log (come_to own o steps m) s
calls_come_to_tries {K} {V} same name log m s tries shown own o steps ended =
    since.calls_come_to_so (Of K V) (more K V) (replies K V) (asked K V) (So K V) (Alike K V) (λ m v pairs. pairs) (so_where K V) same name log m s tries shown own o steps ended

-- Where an event of a call begins, others are as the log says.
pub tries_at_first : {K V : Type 0} (name : ℕ → List ℕ) (log : Past K V) (is_past : IsPast log) (i : ℕ) (m : Moment K V) (s : Scene K V) → HasSamePairs m log.now → m.maps ≡ log.now.maps → m.tables ≡ log.now.tables
    → ((map j : ℕ) (u : UnderWay K V K) → s.calls map j ≡ Some u → (c : CallThere K V) → call_of (name j) m ≡ Some c → c.begun ≤ log.entries) → RefinesTries name log m s → OthersHadTried name log i m s
tries_at_first {K} {V} name log is_past i m s pairs maps tables begun tries =
    since.others_at_first (Of K V) (more K V) (replies K V) (asked K V) (So K V) (Alike K V) (λ m v pairs. pairs) (so_where K V) name log is_past i m s pairs maps tables begun tries

-- After each step of what is no call: where calls and maps are as they were, and each map of a call has the tables that it had.
module _ {K V : Type 0} (same : K → K → Bool) (hash : ℕ → K → ℕ) (name : ℕ → List ℕ) (log : Past K V) (m v : Moment K V) (known known2 : Known) (s t : Scene K V) (new : Held K V) (at2 : IsAt same hash new t)
    (beside : IsBeside m v known known2 s t) (spot : v.spot ≡ m.spot) (more_tables : (map : ℕ) → many_of map m ≤ many_of map v) (sources : RefinesSources same name m known s) (shown2 : Refines same name v known2 t)
    (tries : RefinesTries name log m s) where
  pub tries_beside : RefinesTries name log v t
  tries_beside =
      since.so_alike (Of K V) (more K V) (replies K V) (asked K V) (So K V) (Alike K V) (λ m v pairs. pairs) (so_where K V) name log m v s t tries beside.calls keeps
      (λ n j x is. ap (λ (f : ℕ → ℕ → Option (UnderWay K V K)). f n j) (sym beside.same_calls) ∙ is)
    where
      keeps : (n j : ℕ) (x : UnderWay K V K) → t.calls n j ≡ Some x → (y : Spot × ℕ) → TakenOrPassed n y m → TakenOrPassed n y v
      keeps n j x is y so =
          let st2 = standing_is same hash new t at2 n j x is in
          elim (beside.stood n st2.0 st2.1) as (λ _. TakenOrPassed n y v) [
            | inl stood ↦
                chart_taken n (sources.shown.number n) (shown2.number n) stood.0 st2.0 m v known known2 beside.stored beside.born spot stood.2 (sources.shown.maps n stood.0 stood.1) (shown2.maps n st2.0 st2.1)
                (sources.numbered n stood.0 stood.1) (more_tables n) y so
            | inr newly ↦ absurd (let none = newly.0 j in cc (none, is))
          ]
