-- What a step of a walk, a clearing or a retaining says, by what was called.
use Rattle.std.specs.Prelude.{◌≡◌, ℕ, Bool, true, List, Option, Some}
use Rattle.std.proofs.Common.{refl, sym, ap, subst, ◌∙◌}
use Rattle.papaya_raw.specs.Given.TablesDeclared.node.Node.{Node}
use Rattle.papaya_raw.specs.Given.SweepsSweepPoints.{removes}
use Rattle.papaya_raw.specs.Given.ReservesDeclared.sweep.Purpose.TheVariants.{Walks, Clears, Retains}
use Rattle.papaya_raw.specs.Given.ReservesDeclared.sweep.Sweep.{Sweep}
use Rattle.papaya_raw.specs.Given.ReservesDeclared.sweep.Sweeping.TheVariants as at
use Rattle.papaya_raw.specs.Given.ReservesDeclared.sweep.Swept.{Swept}
use Rattle.papaya_raw.specs.Given.ReservesDeclared.sweep.Swept.TheVariants as ends
use Rattle.papaya_raw.specs.Progress.{of_swept}
use Rattle.papaya_raw.specs.declared.machines.machine.Machine.{Machine}
use Rattle.papaya_raw.specs.declared.machines.machine.Machine.TheVariants as kinds
use Rattle.papaya_raw.specs.declared.machines.progress.Progress.{Progress}
use Rattle.papaya_raw.specs.declared.machines.progress.Progress.TheVariants as progress
use Rattle.run_schedules.specs.declared.call.Call.{Call}
use Rattle.run_schedules.specs.declared.call.Call.TheVariants.{Clear, Retain, Walk}
use Rattle.run_schedules.specs.Schedules.Moment.{UnderWay as CallThere, Moment}
use Rattle.run_schedules.specs.Schedules.Views.{call_of}
use Rattle.owner_whole.specs.Given.LateFaults.{RoomInSweeping}
use Rattle.owner_whole.specs.Given.CallersOverAll.{CallOverAll}
use Rattle.owner_whole.specs.Given.CallersTogether.{UnderWay, OverAll}
use Rattle.owner_whole.specs.Given.FinishesMachines.{ContinuesAs, machine_of}
use Rattle.owner_whole.specs.Given.FinishesMaps.{Standing}
use Rattle.run_executor.specs.Given.EffectsKnown.{Known}
use Rattle.run_executor.specs.Given.HandsCalling.{AsksJust}
use Rattle.run_executor.specs.Given.MomentsWhole.{RefinesWhole}
use Rattle.play_scheduler.proofs.Given.HistoriesNoKey.Sweeps.{SweepsOn, sweeps_on}
use Rattle.run_executor.specs.Named.Machines.{IsAsFar, IsFor, RefusedForRoom}
use Rattle.run_executor.specs.Named.Seen.{kind_of}
use Rattle.play_stepping.specs.EventSteps.Stepping.{HasOutcomeOfKind}
use Rattle.run_sweeps.specs.Says.{far_then, outcome_of}
use Rattle.run_executor.specs.declared.caller.Stands.TheVariants as far
use Rattle.run_executor.specs.declared.kind.CallKind.{CallKind}
use Rattle.run_executor.specs.declared.kind.CallKind.TheVariants as kind
use Rattle.run_sweeps.proofs.Quiet.RoomSays.{SaysRoom, sweep_room}
use Rattle.play_stepping.proofs.EventSteps.StepSays.{Says, ended_not, goes_as, here_then, known2, no_key, s2, then_there, together2, walk_comes, walk_far}
use Rattle.run_sweeps.proofs.Quiet.SweepSays.{IsWalkSaying, ShowsNone, WalkSays, shows_none, walk_says}
use Rattle.play_scheduler.proofs.Given.ScenesMay.{standing_is}
use Rattle.run_executor.specs.Given.ScenesHeld.{Held, IsAt}
use Rattle.play_scheduler.specs.Given.ScenesScene.{Scene}
use Rattle.run_executor.specs.Given.ScenesStepping.{StepLeads}
use Rattle.run_sweeps.proofs.Quiet.Sweeps.{retains_at, walks_at}

module _ {K V : Type 0} where
  -- a clearing or a retaining, by what it says
  clear_comes : (by : Known) (value : Option V) (end : Swept (Node K V)) → ShowsNone {K = K} {V = V} (of_swept end) → SaysRoom {K = K} {V = V} (of_swept end) → ((word : ℕ) → end ≡ ends.Asks word → ⊥) → HasOutcomeOfKind {K = K} Clear (outcome_of by kind.Clears value (of_swept end))
  clear_comes by value ends.Goes shows for asks = tt
  clear_comes by value ends.Waits shows for asks = tt
  clear_comes by value (ends.Gave node) shows for asks = tt
  clear_comes by value ends.Ready shows for asks = absurd shows
  clear_comes by value (ends.Pair word) shows for asks = absurd shows
  clear_comes by value (ends.Asks word) shows for asks = absurd (asks word refl)
  clear_comes by value ends.Done shows for asks = refl
  clear_comes by value (ends.Refused fault) shows for asks = for

  retain_comes : (by : Known) (value : Option V) (end : Swept (Node K V)) → ShowsNone {K = K} {V = V} (of_swept end) → SaysRoom {K = K} {V = V} (of_swept end) → HasOutcomeOfKind {K = K} Retain (outcome_of by kind.Retains value (of_swept end))
  retain_comes by value ends.Goes shows for = tt
  retain_comes by value ends.Waits shows for = tt
  retain_comes by value (ends.Gave node) shows for = tt
  retain_comes by value ends.Ready shows for = absurd shows
  retain_comes by value (ends.Pair word) shows for = absurd shows
  retain_comes by value (ends.Asks word) shows for = refl
  retain_comes by value ends.Done shows for = refl
  retain_comes by value (ends.Refused fault) shows for = for

  -- how far it is then
  removing_far : (its : CallKind) (by : Known) (said : Progress (Node K V)) (q : Sweep) → IsFor its q.purpose → removes q.purpose ≡ true → ShowsNone said
      → ((about : Option ℕ) → said ≡ progress.Asks about → (word : ℕ) × (q.stands ≡ at.Asks word) × (q.purpose ≡ Retains)) → IsAsFar {K = K} {V = V} its (far_then by said) (kinds.Sweep q)
  removing_far its by said q for takes shows asks = of said shows asks
    where
      on : q.purpose ≡ Walks → ⊥
      on walks = let a = ap removes (sym walks) ∙ takes in cc a

      of : (x : Progress (Node K V)) → ShowsNone x → ((about : Option ℕ) → x ≡ progress.Asks about → (word : ℕ) × (q.stands ≡ at.Asks word) × (q.purpose ≡ Retains))
          → IsAsFar {K = K} {V = V} its (far_then by x) (kinds.Sweep q)
      of progress.Goes sh told = (for, λ walks. absurd (on walks))
      of progress.Waits sh told = (for, λ walks. absurd (on walks))
      of (progress.Gave node) sh told = (for, λ walks. absurd (on walks))
      of (progress.Unstored node) sh told = (for, λ walks. absurd (on walks))
      of (progress.Asks about) sh told = (for, told about refl)
      of progress.Ready sh told = absurd sh
      of (progress.Pair word) sh told = absurd sh
      of (progress.Done answer) sh told = (for, λ walks. absurd (on walks))
      of (progress.Refused fault) sh told = (for, λ walks. absurd (on walks))

module _ {K V : Type 0} (same : K → K → Bool) (hash : ℕ → K → ℕ) (name : ℕ → List ℕ) (m : Moment K V) (known : Known) (s : Scene K V) (old new : Held K V) (at_old : IsAt same hash old s)
    (whole : RefinesWhole same name m known s) (map i : ℕ) (c : CallThere K V) (c_is : call_of (name i) m ≡ Some c) (its : CallKind) (its_is : kind_of c.call ≡ its) (value : Option V)
    (o : CallOverAll) (under : s.calls map i ≡ Some (OverAll o)) (said : Progress (Node K V)) (leads : StepLeads same hash i said s old new) (now : IsAsFar {K = K} {V = V} its far.Goes (machine_of (OverAll o)))
    (room : RoomInSweeping o.sweep.stands) where
  abbrev by : Known
  by = known2 same hash name m known s old new at_old whole map i c c_is its its_is value

  abbrev Its : Type 0
  Its = Says same hash name m known s old new at_old whole map i c c_is its its_is value (OverAll o) under said leads

  abbrev p2 : Sweep
  p2 = (leads map (OverAll o) under).4.did.0

  abbrev end : Swept (Node K V)
  end = (leads map (OverAll o) under).4.did.1

  machine_is : (leads map (OverAll o) under).1 ≡ kinds.Sweep p2
  machine_is = (leads map (OverAll o) under).4.did.2

  for_room : RefusedForRoom (leads map (OverAll o) under).1 × SaysRoom said
  for_room = sweep_room same (leads map (OverAll o) under).0.hash old new (leads map (OverAll o) under).1 said o.sweep room (leads map (OverAll o) under).3

  room_then : (y : UnderWay K V K) → (leads map (OverAll o) under).4.next ≡ Some y → RefusedForRoom (machine_of y)
  room_then y goes = subst RefusedForRoom (sym (goes_as (leads map (OverAll o) under).1 said (leads map (OverAll o) under).4.next (leads map (OverAll o) under).4.goes_on y goes)) for_room.0

  said_is : said ≡ of_swept end
  said_is = (leads map (OverAll o) under).4.did.3

  goes_on : SweepsOn o.sweep.purpose (kinds.Sweep p2, said)
  goes_on = subst (λ (z : Machine K V K). SweepsOn o.sweep.purpose (z, said)) machine_is (sweeps_on same (leads map (OverAll o) under).0.hash old new o.sweep (leads map (OverAll o) under).1 said (leads map (OverAll o) under).3)

  -- it is this sweep that goes on
  next_is : (y : UnderWay K V K) → (leads map (OverAll o) under).4.next ≡ Some y → machine_of y ≡ kinds.Sweep p2
  next_is y goes = goes_as (leads map (OverAll o) under).1 said (leads map (OverAll o) under).4.next (leads map (OverAll o) under).4.goes_on y goes ∙ machine_is

  asks_none : (y : UnderWay K V K) → (leads map (OverAll o) under).4.next ≡ Some y → AsksJust by y (outcome_of by its value said)
  asks_none y goes =
      no_key same hash name m known s old new at_old whole map i c c_is its its_is value (OverAll o) under said leads (λ p e. let a = machine_is in cc (a, e)) y goes

  abbrev st : (standing : Standing K) × (s.maps map ≡ Some standing)
  st = standing_is same hash old s at_old map i (OverAll o) under

  -- one that removes is not ready to show
  not_ready : removes o.sweep.purpose ≡ true → o.sweep.stands ≡ at.Ready → ⊥
  not_ready takes ready =
      let walks = walks_at same s map i st.0 (at_old.together.makings.standing.each map st.0 st.1) o under ready in
      let a = ap removes (sym walks) ∙ takes in cc a

  shows : removes o.sweep.purpose ≡ true → ShowsNone said
  shows takes = shows_none same (leads map (OverAll o) under).0.hash old new o.sweep (leads map (OverAll o) under).1 said (leads map (OverAll o) under).3 takes (not_ready takes)

  -- and where it asks, it is a retaining, and stands there
  sweep_of : (y : UnderWay K V K) → machine_of y ≡ kinds.Sweep p2 → (x : CallOverAll) × (y ≡ OverAll x) × (x.sweep ≡ p2)
  sweep_of (OverAll x) e = (x, refl, (let f : x.sweep ≡ p2 = cc e in f))
  sweep_of _ e = absurd (cc e)

  asks_at : (y : UnderWay K V K) → (leads map (OverAll o) under).4.next ≡ Some y → (about : Option ℕ) → said ≡ progress.Asks about → (word : ℕ) × (p2.stands ≡ at.Asks word) × (p2.purpose ≡ Retains)
  asks_at y goes about is =
      let says = subst (λ (z : Progress (Node K V)). SweepsOn o.sweep.purpose (kinds.Sweep p2, z)) is goes_on in
      let x = sweep_of y (next_is y goes) in
      let here = here_then same hash name m known s old new at_old whole map i c c_is its its_is value (OverAll o) under said leads y goes ∙ ap Some x.1 in
      let there = then_there same hash name m known s old new at_old whole map i c c_is its its_is value (OverAll o) under said leads y goes in
      let retains = retains_at same (s2 same hash name m known s old new at_old whole map i c c_is its its_is value (OverAll o) under said leads) map i there.0
      (together2 same hash name m known s old new at_old whole map i c c_is its its_is value (OverAll o) under said leads y goes) x.0 here says.1.0
      (ap (λ (q : Sweep). q.stands) x.2 ∙ says.1.2) in
      (says.1.0, says.1.2, ap (λ (q : Sweep). q.purpose) (sym x.2) ∙ retains)

  -- a clearing never asks: it would be under way on, and for a retaining
  asks_next : (word : ℕ) → end ≡ ends.Asks word → (y : UnderWay K V K) × ((leads map (OverAll o) under).4.next ≡ Some y)
  asks_next word is = on (said_is ∙ ap of_swept is) (leads map (OverAll o) under).4.goes_on
    where
      on : said ≡ progress.Asks (Some word) → ContinuesAs (leads map (OverAll o) under).1 said (leads map (OverAll o) under).4.next → (y : UnderWay K V K) × ((leads map (OverAll o) under).4.next ≡ Some y)
      on e goes = let g = subst (λ (z : Progress (Node K V)). ContinuesAs (leads map (OverAll o) under).1 z (leads map (OverAll o) under).4.next) e goes in (g.0, g.1)

  removing : removes o.sweep.purpose ≡ true → IsFor its o.sweep.purpose → (y : UnderWay K V K) → (leads map (OverAll o) under).4.next ≡ Some y → IsAsFar its (far_then by said) (machine_of y)
  removing takes for y goes = subst (λ (z : Machine K V K). IsAsFar its (far_then by said) z) (sym (next_is y goes))
      (removing_far its by said p2 (subst (IsFor its) (sym goes_on.0) for) (ap removes goes_on.0 ∙ takes) (shows takes) (asks_at y goes))

  pub clear_says : c.call ≡ Clear → Its
  clear_says call_is = record {
    comes = subst (λ (z : Call K V). HasOutcomeOfKind z (outcome_of by its value said)) (sym call_is)
        (subst (λ (k : CallKind). HasOutcomeOfKind {K = K} Clear (outcome_of by k value said)) its_clears
        (subst (λ (z : Progress (Node K V)). HasOutcomeOfKind {K = K} Clear (outcome_of by kind.Clears value z)) (sym said_is)
        (clear_comes by value end (subst ShowsNone said_is (shows takes)) (subst SaysRoom said_is for_room.1) never)));
    far = removing takes now.0;
    asks = asks_none;
    room = room_then;
  }
    where
      its_clears : kind.Clears ≡ its
      its_clears = ap kind_of (sym call_is) ∙ its_is

      clears : o.sweep.purpose ≡ Clears
      clears = subst (λ (k : CallKind). IsFor k o.sweep.purpose) (sym its_clears) now.0

      takes : removes o.sweep.purpose ≡ true
      takes = ap removes clears

      never : (word : ℕ) → end ≡ ends.Asks word → ⊥
      never word is =
          let next = asks_next word is in
          let retains = (asks_at next.0 next.1 (Some word) (said_is ∙ ap of_swept is)).2 in
          let a = sym retains ∙ goes_on.0 ∙ clears in cc a

  pub retain_says : c.call ≡ Retain → Its
  retain_says call_is = record {
    comes = subst (λ (z : Call K V). HasOutcomeOfKind z (outcome_of by its value said)) (sym call_is)
        (subst (λ (k : CallKind). HasOutcomeOfKind {K = K} Retain (outcome_of by k value said)) its_retains
        (subst (λ (z : Progress (Node K V)). HasOutcomeOfKind {K = K} Retain (outcome_of by kind.Retains value z)) (sym said_is)
        (retain_comes by value end (subst ShowsNone said_is (shows takes)) (subst SaysRoom said_is for_room.1))));
    far = removing takes now.0;
    asks = asks_none;
    room = room_then;
  }
    where
      its_retains : kind.Retains ≡ its
      its_retains = ap kind_of (sym call_is) ∙ its_is

      takes : removes o.sweep.purpose ≡ true
      takes = ap removes (subst (λ (k : CallKind). IsFor k o.sweep.purpose) (sym its_retains) now.0)

  pub walk_step_says : c.call ≡ Walk → Its
  walk_step_says call_is = record {
    comes = subst (λ (z : Call K V). HasOutcomeOfKind z (outcome_of by its value said)) (sym call_is)
        (subst (λ (k : CallKind). HasOutcomeOfKind {K = K} Walk (outcome_of by k value said)) its_walks (walk_comes by value said p2.stands says for_room.1));
    far = λ y goes. subst (λ (z : Machine K V K). IsAsFar its (far_then by said) z) (sym (next_is y goes))
        (subst (λ (k : CallKind). IsAsFar {K = K} {V = V} k (far_then by said) (kinds.Sweep p2)) its_walks
        (walk_far by said p2 (goes_on.0 ∙ walks) says (ended_not (leads map (OverAll o) under).1 said (leads map (OverAll o) under).4.next (leads map (OverAll o) under).4.goes_on y goes)));
    asks = asks_none;
    room = room_then;
  }
    where
      its_walks : kind.Walks ≡ its
      its_walks = ap kind_of (sym call_is) ∙ its_is

      walks : o.sweep.purpose ≡ Walks
      walks = subst (λ (k : CallKind). IsFor k o.sweep.purpose) (sym its_walks) now.0

      says : WalkSays said p2.stands
      says = subst (λ (z : Machine K V K). IsWalkSaying (z, said)) machine_is
          (walk_says same (leads map (OverAll o) under).0.hash old new o.sweep (leads map (OverAll o) under).1 said (leads map (OverAll o) under).3 walks (now.1 walks))
