-- A call that asks is told a reply.
use Rattle.std.specs.Prelude.{◌≡◌, ◌≢◌, ◌⊎◌, ◌+◌, ◌≤◌, ◌==◌, ◌&&◌, ℕ, Bool, true, false, List, find, map, position, slice_get, slice_set, is_some, Option, Some, None, Result, Ok}
use Rattle.std.specs.List.{AllByRecursion, list_any}
use Rattle.std.proofs.Common.{refl, sym, ap, subst, ◌∙◌, inl, inr}
use Rattle.std.proofs.lemmas.Bool.{cases_eq}
use Rattle.seize_words.specs.declared.fault.Fault.TheVariants.{Busy}
use Rattle.papaya_raw.specs.Given.SweepsSweepPoints.{reply_at}
use Rattle.papaya_raw.specs.Given.ReservesDeclared.sweep.Sweep.{Sweep}
use Rattle.papaya_raw.specs.Given.ReservesDeclared.sweep.Sweeping.{Sweeping}
use Rattle.papaya_raw.specs.Given.ReservesDeclared.sweep.Sweeping.TheVariants as sweeping
use Rattle.papaya_raw.specs.declared.machines.machine.Machine.TheVariants as kinds
use Rattle.papaya_raw.specs.declared.machines.asking.MachineReply.TheVariants as machine_reply
use Rattle.papaya_raw.specs.Machine.{machine_replied, sweep_with_reply}
use Rattle.papaya_raw.specs.CallAsks.{replied_at}
use Rattle.papaya_raw.specs.declared.machines.asking.Asking.{Asking}
use Rattle.papaya_raw.specs.declared.machines.asking.MachineReply.{MachineReply}
use Rattle.papaya_raw.specs.declared.machines.call.Calling.{Calling}
use Rattle.papaya_raw.specs.declared.machines.call.Calling.TheVariants as at
use Rattle.papaya_raw.specs.declared.machines.machine.Machine.{Machine}
use Rattle.run_schedules.specs.Runs.Same.{is_same}
use Rattle.run_schedules.specs.declared.call.Call.{Call}
use Rattle.run_schedules.specs.declared.call.Call.TheVariants.{On, Reserve, Clear, Retain, Len, Walk}
use Rattle.run_schedules.specs.declared.call.OneKey.{OneKey}
use Rattle.run_schedules.specs.declared.call.OneKey.TheVariants.{Compute, RemoveIf}
use Rattle.run_schedules.specs.declared.call.Reply.{Reply}
use Rattle.run_schedules.specs.declared.call.Reply.TheVariants.{Gives, Removes, Aborts, Decides}
use Rattle.run_schedules.specs.declared.event.Event.TheVariants.{Replied}
use Rattle.run_schedules.specs.declared.outcome.Outcome.{Outcome}
use Rattle.run_schedules.specs.declared.outcome.Outcome.TheVariants.{Goes, Refused}
use Rattle.run_schedules.specs.Schedules.After.{is_alone_on, moment, replied}
use Rattle.run_schedules.specs.Schedules.Coming.{fits_key, fits_reply, is_asking, is_fit}
use Rattle.run_schedules.specs.Schedules.Entry.{Entry}
use Rattle.run_schedules.specs.Schedules.Moment.{CallState, Going, Asking as Asks, Told, IsReady, UnderWay as CallThere, Moment}
use Rattle.run_schedules.specs.Schedules.Terms.{Terms}
use Rattle.run_schedules.specs.Schedules.Views.{call_of}
use Rattle.run_shows.specs.Given.CallersPairs.{Given, kind_of as kind_given}
use Rattle.run_shows.specs.Given.CallersSights.{seen_by}
use Rattle.run_shows.specs.Given.CallersTogether.{CallOnKey, UnderWay, OnKey, ForRoom, Counting, OverAll, Together, IsAtPoint as TogetherStands}
use Rattle.run_shows.proofs.Given.CallersTogether.At.{at_other, at_same}
use Rattle.run_shows.specs.Given.FinishesMachines.{machine_of}
use Rattle.run_shows.specs.Given.FinishesMaps.{Standing}
use Rattle.run_shows.specs.Follows.Calling.{told as told_so}
use Rattle.run_shows.specs.Follows.Calls.{IsCalled}
use Rattle.run_executor.specs.Given.HandsAsked.{IsAskedAs, reply_to_machine}
use Rattle.run_logged.specs.Given.EffectsKnown.{known}
use Rattle.run_shows.proofs.Follows.Calling.{is_same_refl}
use Rattle.run_shows.specs.Given.LateFaults.{RoomInSweeping}
use Rattle.run_shows.proofs.Given.LateKindsKept.Laws.{told_sweeps_refuse_room}
use Rattle.run_shows.specs.Given.LateKinds.{FitsAsking, FitsAt}
use Rattle.run_shows.specs.Given.PointsTold.{IsRowOfCall}
use Rattle.run_logged.specs.Log.Calling.{CallTakes}
use Rattle.run_logged.specs.Log.Shown.{IsShown}
use Rattle.run_logged.specs.declared.logged.Logged.{Logged}
use Rattle.run_executor.specs.Named.Machines.{IsAsFar, IsFor, RefusedForRoom}
use Rattle.play_scheduler.specs.Played.{CallsAre, IsInTurn, IsUnderWay, Plays, RefinesFor}
use Rattle.run_executor.specs.Named.Seen.{Seen, asks, far_of, fits, is_named, kind_of, kind_on, seen, seen_of, takes}
use Rattle.run_executor.specs.declared.caller.NamedCaller.{NamedCaller}
use Rattle.run_executor.specs.declared.caller.Stands.{Stands as HowFar}
use Rattle.run_executor.specs.declared.caller.Stands.TheVariants as far
use Rattle.run_executor.specs.declared.kind.CallKind.{CallKind}
use Rattle.play_scheduler.specs.declared.scheduler.Scheduler.{Scheduler}
use Rattle.run_logged.proofs.Rows.Facts.{no_ending_of, no_making_of, no_work_at, row_rests, used_still}
use Rattle.play_scheduler.proofs.Here.{Here, here_at, there_is}
use Rattle.run_logged.proofs.Rows.Lists.{changed_at, set_all, set_any, set_count}
use Rattle.play_scheduler.proofs.Quiet.{stands_on}
use Rattle.run_executor.proofs.Named.Takes.{key_takes, sweep_takes}
use Rattle.play_scheduler.proofs.Rights.{in_turn, out_of_turn, plays, quiet}
use Rattle.run_executor.specs.Executing.IsThere.{held_by, work_of}
use Rattle.run_executor.specs.Executing.Replying.{RepliesThere}
use Rattle.run_shows.proofs.Scenes.May.{standing_is}
use Rattle.run_shows.specs.Scenes.Replying.{scene_with}
use Rattle.run_shows.specs.Scenes.Scene.{HasCall, Scene, slot_of}
use Rattle.run_logged.proofs.Log.Kinds.{of_kind}

module _ {K V : Type 0} where
  -- a reply fits a call just where it fits what is seen of it
  key_fits : (one : OneKey K V) (reply : Reply V) → fits_key one reply ≡ fits (kind_on one) reply
  key_fits (Compute k) (Gives v) = refl
  key_fits (Compute k) Removes = refl
  key_fits (Compute k) (Aborts w) = refl
  key_fits (Compute k) (Decides b) = refl
  key_fits (RemoveIf k) (Gives v) = refl
  key_fits (RemoveIf k) Removes = refl
  key_fits (RemoveIf k) (Aborts w) = refl
  key_fits (RemoveIf k) (Decides b) = refl
  key_fits _ (Gives v) = refl
  key_fits _ Removes = refl
  key_fits _ (Aborts w) = refl
  key_fits _ (Decides b) = refl

  fits_seen : (call : Call K V) (reply : Reply V) → is_fit call reply ≡ fits (kind_of call) reply
  fits_seen (On one) reply = key_fits one reply
  fits_seen Retain (Gives v) = refl
  fits_seen Retain Removes = refl
  fits_seen Retain (Aborts w) = refl
  fits_seen Retain (Decides b) = refl
  fits_seen (Reserve more) reply = refl
  fits_seen Clear reply = refl
  fits_seen Len reply = refl
  fits_seen Walk reply = refl

asks_seen : (stands : CallState) → is_asking stands ≡ asks (far_of stands)
asks_seen Going = refl
asks_seen (Asks question) = refl
asks_seen Told = refl
asks_seen IsReady = refl

-- one that asks, asks something
pub asks_what : (how : HowFar) → asks how ≡ true → (question : Option ℕ) × (how ≡ far.Asks question)
asks_what (far.Asks question) e = (question, refl)
asks_what far.Goes e = absurd (cc e)
asks_what far.Ready e = absurd (cc e)

pub far_asks : (stands : CallState) (question : Option ℕ) → far_of stands ≡ far.Asks question → stands ≡ Asks question
far_asks Going question e = absurd (cc e)
far_asks (Asks q) question e = ap Asks (the q question e)
  where
    the : (a b : Option ℕ) → far.Asks a ≡ far.Asks b → a ≡ b
    the a b s = cc s
far_asks Told question e = absurd (cc e)
far_asks IsReady question e = absurd (cc e)

-- what a sweep is for stays so
reply_purpose : (stage : Sweeping) (c : Sweep) (keeps : Bool) → (reply_at stage c keeps).purpose ≡ c.purpose
reply_purpose (sweeping.Asks word) c true = refl
reply_purpose (sweeping.Asks word) c false = refl
reply_purpose _ c keeps = refl

module _ {V : Type 0} where
  told_purpose : (stage : Sweeping) (c : Sweep) (told : MachineReply V) → (sweep_with_reply stage c told).0.purpose ≡ c.purpose
  told_purpose (sweeping.Asks word) c machine_reply.Yes = reply_purpose c.stands c true
  told_purpose (sweeping.Asks word) c machine_reply.No = reply_purpose c.stands c false
  told_purpose (sweeping.Asks word) c (machine_reply.Insert v) = refl
  told_purpose (sweeping.Asks word) c machine_reply.Remove = refl
  told_purpose (sweeping.Asks word) c machine_reply.Abort = refl
  told_purpose _ c told = refl

-- and it is refused for nothing else
told_for_room : {K V : Type 0} (machine : Machine K V K) (told : MachineReply V) → RefusedForRoom machine → RefusedForRoom (machine_replied machine told).0
told_for_room (kinds.Key call) told room = tt
told_for_room (kinds.Reserve c) told room = room
told_for_room (kinds.Count c) told room = tt
told_for_room {K} {V} (kinds.Sweep c) told room = by c.stands told
  where
    by : (stage : Sweeping) (reply : MachineReply V) → RoomInSweeping (sweep_with_reply stage c reply).0.stands
    by (sweeping.Asks word) machine_reply.Yes = (told_sweeps_refuse_room c room).1 true
    by (sweeping.Asks word) machine_reply.No = (told_sweeps_refuse_room c room).1 false
    by (sweeping.Asks word) (machine_reply.Insert v) = room
    by (sweeping.Asks word) machine_reply.Remove = room
    by (sweeping.Asks word) machine_reply.Abort = room
    by _ reply = room

goes_far : {K V : Type 0} (kind : CallKind) (question : Option ℕ) (machine : Machine K V K) (told : MachineReply V) → IsAsFar kind (far.Asks question) machine → IsAsFar kind far.Goes (machine_replied machine told).0
goes_far kind question (kinds.Key call) told is = tt
goes_far kind question (kinds.Reserve c) told is = tt
goes_far kind question (kinds.Count c) told is = tt
goes_far kind question (kinds.Sweep c) told is =
    (subst (IsFor kind) (sym (told_purpose c.stands c told)) is.0, λ walks. absurd (let a = is.1.2 in let b = sym (told_purpose c.stands c told) ∙ walks in cc (a, b)))

module _ {K V S : Type 0} (same : K → K → Bool) (hash : K → ℕ) (terms : Terms) (log : List (Entry K V)) (p : Scheduler K V S) (own : List ℕ) (reply : Reply V)
    (due : IsInTurn same hash terms log (Replied own reply) p) where
  abbrev m : Moment K V
  m = moment log

  abbrev stands : RefinesFor same hash terms m p
  stands = due.played

  abbrev s : Scene K V
  s = stands.scene

  abbrev calls : List (NamedCaller V)
  calls = p.calls

  abbrev wanted : Outcome V → Type 0
  wanted o = o ≡ Goes

  busy : fits_reply (call_of own m) reply ≡ false → Plays same hash terms log (quiet (Replied own reply) (Refused Busy)) p
  busy fails =
      let e = quiet (Replied own reply) (Refused Busy) in
      plays same hash terms log (Replied own reply) p due e refl (out_of_turn wanted (fits_reply (call_of own m) reply) (Refused Busy) fails refl)
      (stands_on same hash terms m p stands (m.events + 1) (m.is_alone && is_alone_on e m) m.slots m.sheltered)

  pub nobody : position (is_named own) calls ≡ None → Plays same hash terms log (quiet (Replied own reply) (Refused Busy)) p
  nobody none = busy (by (call_of own m) (there_is same hash terms m p stands own None (sym none)))
    where
      by : (o : Option (CallThere K V)) → is_some o ≡ false → fits_reply o reply ≡ false
      by None e = refl
      by (Some c) e = absurd (cc e)

  module _ (place : ℕ) (placed : Some place ≡ position (is_named own) calls) where
    abbrev here : Here same hash terms m p stands own place
    here = here_at same hash terms m p stands own place placed

    abbrev d : NamedCaller V
    d = here.caller

    abbrev c : CallThere K V
    c = here.call

    fits_here : fits_reply (call_of own m) reply ≡ takes d reply
    fits_here =
        ap (λ (o : Option (CallThere K V)). fits_reply o reply) here.call_is ∙ ap (λ (b : Bool). b && is_fit c.call reply) (asks_seen c.stands)
        ∙ ap (λ (b : Bool). asks (far_of c.stands) && b) (fits_seen c.call reply) ∙ ap (λ (z : Seen). asks z.far && fits z.kind reply) here.as_seen

    -- one that does not take it
    pub takes_none : (x : NamedCaller V) → slice_get calls place ≡ Some x → takes x reply ≡ false → Plays same hash terms log (quiet (Replied own reply) (Refused Busy)) p
    takes_none x at fails = busy (fits_here ∙ ap (λ (y : NamedCaller V). takes y reply) (the d x (sym here.at ∙ at)) ∙ fails)
      where
        the : (a b : NamedCaller V) → Some a ≡ Some b → a ≡ b
        the a b e = cc e

    module _ (takes_it : takes d reply ≡ true) where
      parts : (asks d.stands ≡ true) × (fits d.kind reply ≡ true)
      parts = both (asks d.stands) (fits d.kind reply) takes_it
        where
          both : (a b : Bool) → (a && b) ≡ true → (a ≡ true) × (b ≡ true)
          both true b e = (refl, e)
          both false b e = absurd (cc e)

      abbrev question : Option ℕ
      question = (asks_what d.stands parts.0).0

      asks_it : d.stands ≡ far.Asks question
      asks_it = (asks_what d.stands parts.0).1

      stands_asking : c.stands ≡ Asks question
      stands_asking = far_asks c.stands question (ap (λ (z : Seen). z.far) here.as_seen ∙ asks_it)

      abbrev i : ℕ
      i = d.number

      abbrev u : UnderWay K V K
      u = here.way.0

      under : s.calls d.map i ≡ Some u
      under = here.way.1

      name_is : stands.name i ≡ own
      name_is = here.way.2 ∙ here.named

      call_named : call_of (stands.name i) m ≡ Some c
      call_named = ap (λ (x : List ℕ). call_of x m) name_is ∙ here.call_is

      as_far : IsAsFar d.kind (far.Asks question) (machine_of u)
      as_far = subst (λ (x : HowFar). IsAsFar d.kind x (machine_of u)) asks_it here.way.4.0

      abbrev st : (standing : Standing K) × (s.maps d.map ≡ Some standing)
      st = standing_is same (λ map. hash) (held_by p.logged.executor) s stands.shown.is_at.held d.map i u under

      -- its machine takes it
      key_taken : (x : CallOnKey K V K) → u ≡ OnKey x → (replied_at x.call.stands x.call (reply_to_machine reply)).1 ≡ Ok tt
      key_taken x is = of_call c.call refl
        where
          here_x : s.calls d.map i ≡ Some (OnKey x)
          here_x = under ∙ ap Some is

          called : (there : CallThere K V) × (call_of (stands.name i) m ≡ Some there) × (there.map ≡ d.map) × IsCalled same (OnKey x) there.call
          called = stands.shown.shows.all.shown.calls d.map i (OnKey x) here_x

          its_call : called.0 ≡ c
          its_call = the called.0 c (sym called.1 ∙ call_named)
            where
              the : (a b : CallThere K V) → Some a ≡ Some b → a ≡ b
              the a b e = cc e

          together : Together V same st.0.hash same st.0.setting slot_of s.world st.0.chart st.0.blocks st.0.sights (s.calls d.map)
          together = stands.shown.is_at.held.together.makings.standing.each d.map st.0 st.1

          asked_as : IsAskedAs (stands.shown.shows.all.shown.number d.map) st.0.chart.stored (known p.logged.notes) x c.call c
          asked_as = stands.shown.shows.all.asked.each d.map i (OnKey x) here_x st.0 st.1 c call_named

          of_one : (one : OneKey K V) → c.call ≡ On one → (replied_at x.call.stands x.call (reply_to_machine reply)).1 ≡ Ok tt
          of_one one it =
              let on = subst (λ (y : Call K V). IsAskedAs (stands.shown.shows.all.shown.number d.map) st.0.chart.stored (known p.logged.notes) x y c) it asked_as in
              let there = on.asks question stands_asking in
              let fitted = fit_of (together.stand i (OnKey x) here_x) there.0 there.1 in
              subst (λ (y : Calling). (replied_at y x.call (reply_to_machine reply)).1 ≡ Ok tt) (sym there.1)
              (key_takes (known p.logged.notes) x.call one on.asked there.0 question there.2 (fitted.0 ∙ ap (λ (g : Given K V). (kind_given g).takes) on.given)
              (subst (λ (g : Given K V). FitsAsking (kind_given g).present (kind_given g).absent (kind_given g).takes there.0) on.given fitted.1) reply
              (sym (ap (λ (y : Call K V). fits (kind_of y) reply) it) ∙ ap (λ (z : Seen). fits z.kind reply) here.as_seen ∙ parts.1))
            where
              Fitted : Asking → Type 0
              Fitted it2 = (x.call.replies.takes ≡ (kind_given x.pair).takes) × FitsAsking (kind_given x.pair).present (kind_given x.pair).absent (kind_given x.pair).takes it2

              fit_of : TogetherStands V same st.0.hash same st.0.setting slot_of s.world st.0.chart (seen_by st.0.blocks (st.0.sights (slot_of i))) i (OnKey x) → (it2 : Asking) → x.call.stands ≡ at.Asks it2 → Fitted it2
              fit_of (inl (rests, knows)) it2 at_it =
                  let fit = of_kind st.0.hash s.world.memory st.0.chart (seen_by st.0.blocks (st.0.sights (slot_of i))) x.keys x.pair x.change x.call x.call.stands knows.pair in
                  (fit.2.takes_is, subst (FitsAt (kind_given x.pair).present (kind_given x.pair).absent (kind_given x.pair).takes) at_it fit.4)
              fit_of (inr (row, is_row, knows)) it2 at_it = absurd (subst IsRowOfCall at_it is_row)

          of_call : (y : Call K V) → c.call ≡ y → (replied_at x.call.stands x.call (reply_to_machine reply)).1 ≡ Ok tt
          of_call (On one) it = of_one one it
          of_call y it = absurd (let h = subst (IsCalled same (OnKey x)) (ap (λ (z : CallThere K V). z.call) its_call ∙ it) called.3 in h)

      taken : (v : UnderWay K V K) → u ≡ v → (machine_replied (machine_of v) (reply_to_machine reply)).1 ≡ Ok tt
      taken (OnKey x) is = key_taken x is
      taken (OverAll o) is =
          let far_is = subst (λ (v : UnderWay K V K). IsAsFar d.kind (far.Asks question) (machine_of v)) is as_far in
          sweep_takes o.sweep d.kind question far_is.0 far_is.1 reply parts.1
      taken (ForRoom r) is = absurd (subst (λ (v : UnderWay K V K). IsAsFar d.kind (far.Asks question) (machine_of v)) is as_far)
      taken (Counting sum) is = absurd (subst (λ (v : UnderWay K V K). IsAsFar d.kind (far.Asks question) (machine_of v)) is as_far)

      -- it has a call
      pub has_call : HasCall s i
      has_call = (d.map, u, under)

      module _ (result : Result Unit (MachineReply V)) (new : Logged K V S) (leads : RepliesThere same hash i (reply_to_machine reply) result s p.logged.executor new.executor)
          (takes_so : CallTakes same hash stands.name m s i (reply_to_machine reply) result p.logged new) where
        pub result_is : result ≡ Ok tt
        result_is = (leads.1 d.map u under).4 ∙ taken u refl

        to : (next : UnderWay K V K) × (machine_of next ≡ (machine_replied (machine_of u) (reply_to_machine reply)).0) × IsShown same hash stands.name (told_so (stands.name i) reply m) new (scene_with d.map i next s)
        to = takes_so d.map u under c call_named question stands_asking reply refl result_is

        abbrev then_at : Scene K V
        then_at = scene_with d.map i to.0 s

        abbrev then_m : Moment K V
        then_m = told_so own reply m

        shown : IsShown same hash stands.name then_m new then_at
        shown = subst (λ (x : List ℕ). IsShown same hash stands.name (told_so x reply m) new then_at) name_is to.2

        here_then : then_at.calls d.map i ≡ Some to.0
        here_then = ap (λ (f : ℕ → Option (UnderWay K V K)). f i) (at_same s.calls d.map _ d.map refl) ∙ at_same (s.calls d.map) i (Some to.0) i refl

        there_then : (n j : ℕ) → j ≢ i → then_at.calls n j ≡ s.calls n j
        there_then n j ne = by (cases_eq n d.map)
          where
            by : (n ≡ d.map) ⊎ (n ≢ d.map) → then_at.calls n j ≡ s.calls n j
            by (inl e) = ap (λ (f : ℕ → Option (UnderWay K V K)). f j) (at_same s.calls d.map _ n e) ∙ at_other (s.calls d.map) i (Some to.0) j ne ∙ ap (λ (x : ℕ). s.calls x j) (sym e)
            by (inr other) = ap (λ (f : ℕ → Option (UnderWay K V K)). f j) (at_other s.calls d.map _ n other)

        maps_then : (n j : ℕ) → n ≢ d.map → then_at.calls n j ≡ s.calls n j
        maps_then n j other = ap (λ (f : ℕ → Option (UnderWay K V K)). f j) (at_other s.calls d.map _ n other)

        module _ (value : Option V) where
          abbrev resumed : NamedCaller V
          resumed = record d { stands = far.Goes; value = value }

          abbrev calls2 : List (NamedCaller V)
          calls2 = slice_set calls place resumed

          way_then : IsUnderWay stands.name then_at p.there resumed
          way_then = (to.0, here_then, here.way.2, here.way.3, (subst (IsAsFar d.kind far.Goes) (sym to.1) (goes_far d.kind question (machine_of u) (reply_to_machine reply) as_far), subst RefusedForRoom (sym to.1) (told_for_room (machine_of u) (reply_to_machine reply) here.way.4.1)))

          -- others have other numbers
          still : (x : NamedCaller V) → is_named own x ≡ false → IsUnderWay stands.name s p.there x → IsUnderWay stands.name then_at p.there x
          still x other way = (way.0, there_then x.map x.number ne ∙ way.1, way.2, way.3, way.4)
            where
              ne : x.number ≢ i
              ne e = let a = subst (λ (y : List ℕ). is_same y own ≡ false) (sym way.2 ∙ ap stands.name e ∙ name_is) other in let b = is_same_refl own in cc (a, b)

          each_then : AllByRecursion (IsUnderWay stands.name then_at p.there) calls2
          each_then =
              subst (λ (k : ℕ). AllByRecursion (IsUnderWay stands.name then_at p.there) (slice_set calls k resumed)) (sym here.first)
              (set_all (IsUnderWay stands.name s p.there) (IsUnderWay stands.name then_at p.there) (is_named own) resumed way_then still calls stands.calls.each (stands.calls.once own))

          listed_then : map seen then_m.calls ≡ map seen_of calls2
          listed_then =
              changed_at seen seen_of (λ (z : Seen). is_same z.name own) (λ x. replied reply x x.stands) resumed m.calls calls stands.calls.listed (stands.calls.once own) here.any so
              ∙ ap (λ (k : ℕ). map seen_of (slice_set calls k resumed)) (sym here.first)
            where
              so : (x : CallThere K V) (y : NamedCaller V) → find (is_named own) calls ≡ Some y → seen x ≡ seen_of y → seen (replied reply x x.stands) ≡ seen_of resumed
              so x y found alike =
                  let same_one : y ≡ d = (let h = sym found ∙ here.found in the y d h) in
                  let seen_x : seen x ≡ seen_of d = alike ∙ ap seen_of same_one in
                  let at_x : x.stands ≡ Asks question = far_asks x.stands question (ap (λ (z : Seen). z.far) seen_x ∙ asks_it) in
                  ap (λ (stand : CallState). seen (replied reply x stand)) at_x ∙ ap (λ (z : Seen). record z { far = far.Goes }) seen_x
                where
                  the : (a b : NamedCaller V) → Some a ≡ Some b → a ≡ b
                  the a b e = cc e

          only_then : (n j : ℕ) (x : UnderWay K V K) → then_at.calls n j ≡ Some x → list_any (λ y. (y.map == n) && (y.number == j)) calls2 ≡ true
          only_then n j x is = set_any (λ y. (y.map == n) && (y.number == j)) calls place d resumed here.at refl ∙ by (cases_eq j i)
            where
              was : (y : UnderWay K V K) → s.calls n j ≡ Some y → list_any (λ y. (y.map == n) && (y.number == j)) calls ≡ true
              was y h = stands.calls.only n j y h

              its : j ≡ i → (n ≡ d.map) ⊎ (n ≢ d.map) → list_any (λ y. (y.map == n) && (y.number == j)) calls ≡ true
              its e (inl f) = was u (ap (λ (k : ℕ). s.calls k j) f ∙ ap (s.calls d.map) e ∙ under)
              its e (inr other) = was x (sym (maps_then n j other) ∙ is)

              by : (j ≡ i) ⊎ (j ≢ i) → list_any (λ y. (y.map == n) && (y.number == j)) calls ≡ true
              by (inl e) = its e (cases_eq n d.map)
              by (inr ne) = was x (sym (there_then n j ne) ∙ is)

          rests_then : (j : ℕ) → ((n : ℕ) → then_at.calls n j ≡ None) → work_of new.executor j ≡ None
          rests_then j none = by (cases_eq j i)
            where
              by : (j ≡ i) ⊎ (j ≢ i) → work_of new.executor j ≡ None
              by (inl e) = absurd (let a = ap (then_at.calls d.map) e ∙ here_then in let b = none d.map in cc (a, b))
              by (inr ne) =
                  let before = stands.rests j (λ n. sym (there_then n j ne) ∙ none n) in
                  let at_s = stands.shown.is_at in
                  no_work_at same hash new.executor then_at shown.is_at j none (no_making_of same hash p.logged.executor s at_s j before) (no_ending_of same hash p.logged.executor s at_s j before)
                  (row_rests same hash p.logged.executor s at_s j before)

          stands_then : (callers : List (NamedCaller V)) → callers ≡ calls2 → RefinesFor same hash terms then_m (record p { logged = new; calls = callers })
          stands_then callers items = record {
            name = stands.name;
            scene = then_at;
            shown = shown;
            given = stands.given;
            there = stands.there;
            mapped = stands.mapped;
            closed = stands.closed;
            calls = subst (λ (xs : List (NamedCaller V)). CallsAre stands.name then_at p.there then_m xs) (sym items) (record {
              listed = listed_then;
              once = λ other. subst (λ (n : ℕ). n ≤ 1) (sym (set_count (is_named other) calls place d resumed here.at refl)) (stands.calls.once other);
              each = each_then;
              only = only_then;
            });
            maps = record { listed = stands.maps.listed; stand = stands.maps.stand };
            slots = λ t. used_still same hash p.logged.executor s stands.shown.is_at new.executor then_at shown.is_at t refl ∙ stands.slots t;
            rests = rests_then;
            names = stands.names;
          }

          pub told : (callers : List (NamedCaller V)) → callers ≡ calls2 → Plays same hash terms log (quiet (Replied own reply) Goes) (record p { logged = new; calls = callers })
          told callers items =
              let e = quiet (Replied own reply) Goes in
              let p2 = record p { logged = new; calls = callers } in
              plays same hash terms log (Replied own reply) p2 due e refl (in_turn wanted (fits_reply (call_of own m) reply) Goes (fits_here ∙ takes_it) refl)
              (stands_on same hash terms then_m p2 (stands_then callers items) (m.events + 1) (m.is_alone && is_alone_on e m) m.slots m.sheltered)
