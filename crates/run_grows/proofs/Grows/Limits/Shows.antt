-- Whatever happens between the steps of calls, where a call can have no further table, one of its map's is at the limit, or was at a moment since it began.
use Rattle.std.specs.Prelude.{◌≡◌, ◌⊎◌, ◌≤◌, ℕ, Bool, true, List, Option, Some, None}
use Rattle.std.proofs.Common.{ap, sym, subst, ◌∙◌}
use Rattle.papaya_raw.specs.Given.SeizeWorld.{Begin, Step}
use Rattle.papaya_raw.specs.Given.SeizeDeclared.advance.Advance.{Advance as Making}
use Rattle.papaya_raw.specs.Given.SeizeDeclared.rows.settle.Settled.{Settled}
use Rattle.papaya_raw.specs.Given.TablesDeclared.node.Node.{Node}
use Rattle.papaya_raw.specs.Given.TablesDeclared.setting.Setting.{Setting}
use Rattle.papaya_raw.specs.Machine.{machine_asked, machine_replied}
use Rattle.papaya_raw.specs.declared.machines.asking.MachineReply.{MachineReply}
use Rattle.papaya_raw.specs.declared.machines.machine.Machine.{Machine}
use Rattle.run_schedules.specs.declared.call.Call.{Call}
use Rattle.run_schedules.specs.declared.call.Reply.{Reply}
use Rattle.run_schedules.specs.declared.outcome.Outcome.{Outcome}
use Rattle.run_schedules.specs.Schedules.Beginning.{with_call}
use Rattle.run_schedules.specs.Schedules.Effects.{with_effects}
use Rattle.run_schedules.specs.Schedules.Entry.{ends_call}
use Rattle.run_schedules.specs.Schedules.Moment.{Moment, UnderWay as CallThere}
use Rattle.run_schedules.specs.Schedules.Views.{call_of, map_at}
use Rattle.run_finds.specs.Given.CallersOverAll.{CallOverAll}
use Rattle.run_finds.specs.Given.CallersPairs.{Given}
use Rattle.run_finds.specs.Given.CallersRooms.{CallForRoom}
use Rattle.run_finds.specs.Given.CallersTogether.{Computes, Counting, ForRoom, Gets, Inserts, IsBegun, OnKey, OverAll, Removes, RemovesIf, TriesToInsert, TriesToInsertWith, UnderWay, Updates, UpdatesOrInserts}
use Rattle.run_finds.specs.Given.EffectsEffects.{effects_of, known_after}
use Rattle.run_finds.specs.Given.EffectsKnown.{Known}
use Rattle.run_finds.specs.Given.EffectsDeclared.acting.Acting.TheVariants as acts
use Rattle.run_kept.specs.Given.ScenesDeclared.row.RowTold.{RowTold}
use Rattle.run_kept.specs.Given.ScenesDeclared.row.SlotCall.{SlotCall}
use Rattle.run_kept.specs.Given.ScenesDeclared.row.SlotRow.{SlotRow}
use Rattle.papaya_raw.specs.declared.machines.call.KeyCall.{KeyCall}
use Rattle.run_kept.specs.Given.FinishesEndings.{Finishing}
use Rattle.run_finds.specs.Given.FinishesMachines.{machine_of}
use Rattle.run_kept.specs.Given.FinishesMakings.{Beginning}
use Rattle.run_finds.specs.Given.FinishesMaps.{Standing, with_call as with_in}
use Rattle.run_finds.specs.Given.FollowsCalling.{NoneNamed, come_to, told}
use Rattle.run_finds.specs.Given.FollowsCalls.{RefinesCalls as IsThere}
use Rattle.run_kept.specs.Given.OthersEndings.{ending_after}
use Rattle.run_kept.specs.Given.OthersMakings.{WasNew, making_after}
use Rattle.run_kept.specs.Given.OthersRows.{scene_then}
use Rattle.run_finds.specs.Given.OthersWalks.{given_up}
use Rattle.run_finds.specs.Given.MomentsWhole.{RefinesWhole}
use Rattle.run_finds.proofs.Given.MomentsBeside.{IsBeside}
use Rattle.run_finds.proofs.Given.MomentsEnds.{end_beside}
use Rattle.run_finds.proofs.Given.MomentsMakingSteps.{makings_go_beside}
use Rattle.run_finds.proofs.Given.MomentsOnSlots.{row_beside, rows_begin_beside}
use Rattle.run_finds.specs.Given.LateFaults.{HoldsInCalling, HoldsInSweeping}
use Rattle.run_grows.specs.Grows.Limits.{IsAtLimit, IsFor, IsForDeferral, MachineEnds, NeedsMore, OthersHadLimit, RoomEnds, RefinesLimits}
use Rattle.run_grows.proofs.Grows.Finding.Others.{ended, ended_calls, ended_maps, ended_world}
use Rattle.run_grows.proofs.Grows.Limits.Chain.{limit_where, same_maps_keep_limit}
use Rattle.run_grows.proofs.Grows.Limits.Walk.{asked_ends, machine_for, reply_ends}
use Rattle.run_grows.proofs.Grows.Since as since
use Rattle.run_finds.specs.Given.ScenesBeginning.{Begins}
use Rattle.run_kept.specs.Given.ScenesEnding.{EndingLeads}
use Rattle.run_finds.specs.Given.ScenesHeld.{Held, IsAt}
use Rattle.run_kept.specs.Given.ScenesMaking.{MakingLeads}
use Rattle.run_kept.specs.Given.ScenesOnSlots.{RowBegins, RowLeads}
use Rattle.run_finds.specs.Given.ScenesReplying.{scene_with, unless_stopped}
use Rattle.run_kept.specs.Given.ScenesRows.{request_of}
use Rattle.run_finds.specs.Given.ScenesScene.{IsOnSlot, Scene, slot_of}
use Rattle.run_schedules.specs.Schedules.Transition.{Past, further}
use Rattle.run_finds.specs.Given.ChangesHistories.{IsPast}

-- A call that begins has not come so far.
module _ {K V : Type 0} (same : K → K → Bool) (Why : Type 0) where
  key_begins : (hash : K → ℕ) (i : ℕ) (standing : Standing K) (keys : K → Bool) (given : Given K V) (call : KeyCall K V K) → IsBegun V same hash same standing.setting slot_of i keys given call
      → HoldsInCalling (IsFor Why) (IsForDeferral Why) call.trial.table call.stands
  key_begins hash i standing keys given call (Gets q code few class) = tt
  key_begins hash i standing keys given call (Removes q code few class) = tt
  key_begins hash i standing keys given call (Inserts key value) = tt
  key_begins hash i standing keys given call (TriesToInsert key value) = tt
  key_begins hash i standing keys given call (Computes key) = tt
  key_begins hash i standing keys given call (Updates key) = tt
  key_begins hash i standing keys given call (UpdatesOrInserts key absent) = tt
  key_begins hash i standing keys given call (TriesToInsertWith key) = tt
  key_begins hash i standing keys given call (RemovesIf q code few class) = tt

  begun_ends : (standing : Standing K) (i : ℕ) (u : UnderWay K V K) → Begins same standing i u → MachineEnds Why (machine_of u)
  begun_ends standing i (OnKey u) begins = key_begins standing.hash i standing u.keys u.pair u.call begins.0
  begun_ends standing i (ForRoom r) begins = subst (λ (x : CallForRoom). RoomEnds (Why ⊎ NeedsMore x.reserve.additional) x.reserve.stands) (sym begins.1) tt
  begun_ends standing i (Counting sum) begins = tt
  begun_ends standing i (OverAll o) begins = subst (λ (x : CallOverAll). HoldsInSweeping (IsFor Why) (IsForDeferral Why) x.sweep.stands) (sym begins.1) tt

-- what is so of each machine
module _ (K V : Type 0) where
  abbrev pub Of : (Unit {0} → Type 0) → Machine K V K → Type 0
  Of Why machine = MachineEnds (Why tt) machine

  pub more : (A B : Unit {0} → Type 0) → ((x : Unit {0}) → A x → B x) → (machine : Machine K V K) → Of A machine → Of B machine
  more A B leads machine so = machine_for (A tt) (B tt) (leads tt) machine so

  pub replies : (A : Unit {0} → Type 0) (machine : Machine K V K) (reply : MachineReply V) → Of A machine → Of A (machine_replied machine reply).0
  replies A machine reply so = reply_ends (A tt) K V K machine reply so

  pub asked : (A : Unit {0} → Type 0) (machine : Machine K V K) → Of A machine → Of A (machine_asked machine).0
  asked A machine so = asked_ends (A tt) K V K machine so

  abbrev pub So : ℕ → Unit {0} → Moment K V → Type 0
  So map x m = IsAtLimit map m

  pub so_where : (m v : Moment K V) → Unit {0} → v.tables ≡ m.tables → (n : ℕ) → map_at n v ≡ map_at n m → (x : Unit {0}) → So n x m → So n x v
  so_where m v pairs tables n there x at_limit = limit_where m v tables n there at_limit

  abbrev pub AnyPairs : Moment K V → Moment K V → Type 0
  AnyPairs m v = Unit {0}

module _ {K V : Type 0} (name : ℕ → List ℕ) (log : Past K V) (m v : Moment K V) (s t : Scene K V) (limits : RefinesLimits name log m s) where
  -- where calls are as they were, or are under way no more
  pub limits_alike : v.calls ≡ m.calls → ((n : ℕ) → IsAtLimit n m → IsAtLimit n v) → ((n j : ℕ) (x : UnderWay K V K) → t.calls n j ≡ Some x → s.calls n j ≡ Some x) → RefinesLimits name log v t
  limits_alike calls keeps was = since.so_alike (Of K V) (more K V) (replies K V) (asked K V) (So K V) (AnyPairs K V) (λ m v pairs. tt) (so_where K V) name log m v s t limits calls (λ n j x is y has. keeps n has) was

-- at a moment with other maps, where those that stand are found as they were
pub limits_where : {K V : Type 0} (same : K → K → Bool) (hash : ℕ → K → ℕ) (name : ℕ → List ℕ) (log : Past K V) (m v : Moment K V) (s : Scene K V) (e : Held K V) → IsAt same hash e s → RefinesLimits name log m s
    → ((n : ℕ) (st : Standing K) → s.maps n ≡ Some st → map_at n v ≡ map_at n m) → v.tables ≡ m.tables → v.calls ≡ m.calls → RefinesLimits name log v s
limits_where {K} {V} same hash name log m v s e at limits still tables calls =
    since.so_where_found (Of K V) (more K V) (replies K V) (asked K V) (So K V) (AnyPairs K V) (λ m v pairs. tt) (so_where K V) same hash name log m v s e at limits still tt tables calls

-- with a further event of the log
pub limits_grow : {K V : Type 0} (name : ℕ → List ℕ) (log : Past K V) (next : Moment K V) (m : Moment K V) (s : Scene K V)
    → ((map i : ℕ) (u : UnderWay K V K) → s.calls map i ≡ Some u → (c : CallThere K V) → call_of (name i) m ≡ Some c → c.begun ≤ log.entries) → RefinesLimits name log m s → RefinesLimits name (further next log) m s
limits_grow {K} {V} name log next m s begun limits = since.so_grow (Of K V) (more K V) (replies K V) (asked K V) (So K V) (AnyPairs K V) (λ m v pairs. tt) (so_where K V) name log next m s begun limits

-- Where a call begins, is told, is asked for its next pair, or is given up.

module _ {K V : Type 0} (same : K → K → Bool) (name : ℕ → List ℕ) (log : Past K V) (m : Moment K V) (s : Scene K V) (limits : RefinesLimits name log m s) (map i : ℕ) (u : UnderWay K V K) where
  pub calls_begin_limits : (guard : List ℕ) (its : Call K V) (standing : Standing K) → Begins same standing i u → NoneNamed name (name i) s
      → RefinesLimits name log (with_call (name i) guard its (Some map) m) (scene_with map i u s)
  calls_begin_limits guard its standing begins apart =
      since.calls_begin_so (Of K V) (more K V) (replies K V) (asked K V) (So K V) (AnyPairs K V) (λ m v pairs. tt) (so_where K V) same name log m s limits map i u guard its (λ Why. begun_ends same (Why tt) standing i u begins) apart

  module _ (here : s.calls map i ≡ Some u) (shown : IsThere same name m s.calls) (next : UnderWay K V K) where
    pub calls_take_limits : (reply : Reply V) (machine_reply : MachineReply V) → machine_of next ≡ (machine_replied (machine_of u) machine_reply).0 → RefinesLimits name log (told (name i) reply m) (scene_with map i next s)
    calls_take_limits reply machine_reply next_is =
        since.calls_take_so (Of K V) (more K V) (replies K V) (asked K V) (So K V) (AnyPairs K V) (λ m v pairs. tt) (so_where K V) same name log m s limits map i u here shown next reply machine_reply next_is

    pub walks_go_on_limits : machine_of next ≡ (machine_asked (machine_of u)).0 → RefinesLimits name log m (scene_with map i next s)
    walks_go_on_limits next_is = since.walks_go_on_so (Of K V) (more K V) (replies K V) (asked K V) (So K V) (AnyPairs K V) (λ m v pairs. tt) (so_where K V) same name log m s limits map i u here shown next next_is

    abbrev at_end : Bool → Scene K V
    at_end q = record s { calls = with_in s.calls map i (unless_stopped q u) }

    pub walks_stop_limits : (q : Bool) → (q ≡ true → NoneNamed name (name i) (at_end q)) → RefinesLimits name log (given_up (name i) q m) (at_end q)
    walks_stop_limits q none = since.walks_stop_so (Of K V) (more K V) (replies K V) (asked K V) (So K V) (AnyPairs K V) (λ m v pairs. tt) (so_where K V) same name log m s limits map i u here shown next q none

-- Where a call comes to an outcome.
pub calls_come_to_limits : {K V : Type 0} (same : K → K → Bool) (name : ℕ → List ℕ) (log : Past K V) (m : Moment K V) (s : Scene K V) → RefinesLimits name log m s → IsThere same name m s.calls → (own : List ℕ) (o : Outcome V) (steps : ℕ)
    → (ends_call o ≡ true → NoneNamed name own s) → RefinesLimits name log (come_to own o steps m) s
calls_come_to_limits {K} {V} same name log m s limits shown own o steps ended =
    since.calls_come_to_so (Of K V) (more K V) (replies K V) (asked K V) (So K V) (AnyPairs K V) (λ m v pairs. tt) (so_where K V) same name log m s limits shown own o steps ended

-- Where an event of a call begins, others are as the log says.
pub limits_at_first : {K V : Type 0} (name : ℕ → List ℕ) (log : Past K V) (is_past : IsPast log) (i : ℕ) (m : Moment K V) (s : Scene K V) → m.maps ≡ log.now.maps → m.tables ≡ log.now.tables
    → ((map j : ℕ) (u : UnderWay K V K) → s.calls map j ≡ Some u → (c : CallThere K V) → call_of (name j) m ≡ Some c → c.begun ≤ log.entries) → RefinesLimits name log m s → OthersHadLimit name log i m s
limits_at_first {K} {V} name log is_past i m s maps tables begun limits =
    since.others_at_first (Of K V) (more K V) (replies K V) (asked K V) (So K V) (AnyPairs K V) (λ m v pairs. tt) (so_where K V) name log is_past i m s tt maps tables begun limits

-- After each step of what is no call.

-- where calls and maps are as they were
limits_beside : {K V : Type 0} (name : ℕ → List ℕ) (log : Past K V) (m v : Moment K V) (known known2 : Known) (s t : Scene K V) → IsBeside m v known known2 s t → ((n : ℕ) → IsAtLimit n m → IsAtLimit n v) → RefinesLimits name log m s
    → RefinesLimits name log v t
limits_beside {K} {V} name log m v known known2 s t beside keeps limits = limits_alike name log m v s t limits beside.calls keeps (λ n j x is. ap (λ (f : ℕ → ℕ → Option (UnderWay K V K)). f n j) (sym beside.same_calls) ∙ is)

module _ (K V : Type 0) (same : K → K → Bool) (hash : ℕ → K → ℕ) (name : ℕ → List ℕ) (log : Past K V) (m : Moment K V) (known : Known) (s : Scene K V) (old new : Held K V) (limits : RefinesLimits name log m s) where
  -- a row begins on a slot
  pub rows_begin_limits : (called : SlotCall) (i : ℕ) (leads : RowBegins same hash called i s old new)
      → RefinesLimits name log m (scene_then same hash (Begin i (request_of (slot_of i) called)) s old new leads.2)
  rows_begin_limits called i leads =
      let t = scene_then same hash (Begin i (request_of (slot_of i) called)) s old new leads.2 in
      limits_beside name log m m known known s t (rows_begin_beside K V same hash m known s old new called i leads) (λ n has. has) limits

  module _ (at : IsAt same hash old s) (whole : RefinesWhole same name m known s) where
    -- a step of one
    pub rows_keep_limits : (i : ℕ) (said : RowTold (Node K V)) (leads : RowLeads same hash i said s old new) (row : SlotRow) (here : IsOnSlot s i row)
        → RefinesLimits name log (with_effects None None (effects_of acts.Row known new.changed) m) (scene_then same hash (Step i) s old new (leads row here).2)
    rows_keep_limits i said leads row here =
        let to = leads row here in
        let effects = effects_of acts.Row known new.changed in
        let v = with_effects None None effects m in
        let t = scene_then same hash (Step i) s old new to.2 in
        let beside = row_beside same hash m known s old new at i row here (to.0, said) to.1 to.2 in
        limits_beside name log m v known (known_after acts.Row new.changed known) s t beside (same_maps_keep_limit None None effects m beside.maps) limits

    -- of the making of a map
    pub makings_keep_limits : (i : ℕ) (said : Making Setting) (leads : MakingLeads same hash i said s old new) (b : Beginning K) (here : s.makers i ≡ Some b) → WasNew b.map said m
        → RefinesLimits name log (with_effects None (Some b.map) (effects_of (acts.Making b.map) known new.changed) m) (making_after same hash s old new i b (leads b here).0 (leads b here).2.step.w2 said (leads b here).3)
    makings_keep_limits i said leads b here was_new =
        let effects = effects_of (acts.Making b.map) known new.changed in
        let v = with_effects None (Some b.map) effects m in
        let t = making_after same hash s old new i b (leads b here).0 (leads b here).2.step.w2 said (leads b here).3 in
        let beside = makings_go_beside K V same hash name m known s old new at whole i said leads b here (Some b.map) was_new in
        limits_beside name log m v known (known_after (acts.Making b.map) new.changed known) s t beside (same_maps_keep_limit None (Some b.map) effects m beside.maps) limits

    -- and of the end of one
    module _ (i : ℕ) (f : Finishing K V) (here : s.enders i ≡ Some f) where
      pub endings_keep_limits : (said : Settled (Node K V)) (leads : EndingLeads same hash i said s old new) (map : ℕ) → s.maps map ≡ None
          → RefinesLimits name log (with_effects None (Some map) (effects_of (acts.Ending map) known new.changed) m) (ending_after same hash s new i f (leads f here).0 (leads f here).2.w2 (leads f here).2.deed said (leads f here).3)
      endings_keep_limits said leads map not_there =
          let to = leads f here in
          let effects = effects_of (acts.Ending map) known new.changed in
          let v = with_effects None (Some map) effects m in
          let t = ended same hash s old new i f here said leads in
          let beside = end_beside same hash name m known s old new at whole i f here to.0 said to.1 to.2 map not_there to.3 t (ended_world same hash s old new i f here said leads)
          (ended_calls same hash s old new i f here said leads) (ended_maps same hash s old new i f here said leads) in
          limits_beside name log m v known (known_after (acts.Ending map) new.changed known) s t beside (same_maps_keep_limit None (Some map) effects m beside.maps) limits
