-- Where a pair lies that a call has taken out of its map and has in hand, by where its machine stands: no further on than the root; or in the table by which its disposal goes, copied
-- past an older one. So it is as it is retired, or put behind a table.
use Rattle.std.specs.Prelude.{◌≡◌, ℕ, ◌+◌, ◌<◌, Bool, true, List, [], ◌∷◌, length, filter, sum_by, nat_le, Option, Some, None}
use Rattle.run_blocks.specs.Given.TablesDeclared.node.Node.{Node}
use Rattle.run_blocks.specs.Given.ResizeDispose.{disposing}
use Rattle.run_blocks.specs.Given.ResizeDeclared.dispose.Dispose.{Dispose}
use Rattle.run_blocks.specs.Given.ResizeDeclared.dispose.Disposing.{Disposing}
use Rattle.run_blocks.specs.Given.ResizeDeclared.dispose.Disposing.TheVariants as disposal
use Rattle.run_executor.specs.Given.ReservesDeclared.sweep.Sweep.{Sweep}
use Rattle.run_executor.specs.Given.ReservesDeclared.sweep.Sweeping.{Sweeping}
use Rattle.run_executor.specs.Given.ReservesDeclared.sweep.Sweeping.TheVariants as sweeping
use Rattle.run_executor.specs.Given.RawDeclared.machines.call.Calling.{Calling}
use Rattle.run_executor.specs.Given.RawDeclared.machines.call.Calling.TheVariants as calling
use Rattle.run_executor.specs.Given.RawDeclared.machines.call.KeyCall.{KeyCall}
use Rattle.run_executor.specs.Given.RawDeclared.machines.machine.Machine.{Machine}
use Rattle.run_executor.specs.Given.RawDeclared.machines.machine.Machine.TheVariants as kinds
use Rattle.run_executor.specs.Given.RawDeclared.machines.progress.Progress.{Progress}
use Rattle.run_executor.specs.Given.RunsDeclared.call.Call.{Call}
use Rattle.run_executor.specs.Given.RunsDeclared.effect.Effect.{Effect}
use Rattle.run_executor.specs.Given.RunsDeclared.effect.Effect.TheVariants.{Deferred, Retired}
use Rattle.run_executor.specs.Given.RunsDeclared.effect.Thing.TheVariants.{APair}
use Rattle.run_executor.specs.Given.SchedulesBeginning.{with_call}
use Rattle.run_executor.specs.Given.SchedulesEffects.{with_effects, AtEachEffect}
use Rattle.run_executor.specs.Given.SchedulesEntry.{ByCall, acting}
use Rattle.run_executor.specs.Given.SchedulesLives.{IsPast}
use Rattle.run_executor.specs.Given.SchedulesMoment.{UnderWay as CallThere, Moment}
use Rattle.run_executor.specs.Given.SchedulesViews.{call_of, first_of, is_stage, is_there, map_at, grows_in_chunks, behind, tables_of}
use Rattle.run_executor.specs.Given.CallersTogether.{UnderWay}
use Rattle.run_executor.specs.Given.EffectsEffects.{effects_of}
use Rattle.run_executor.specs.Given.EffectsKnown.{Known}
use Rattle.run_executor.specs.Given.EffectsDeclared.acting.Acting.TheVariants as acts
use Rattle.run_executor.specs.Given.FinishesMachines.{machine_of}
use Rattle.run_executor.specs.Given.FollowsCalling.{NoneNamed}
use Rattle.run_executor.specs.Given.FollowsCalls.{RefinesCalls}
use Rattle.run_executor.specs.Given.MomentsWhole.{RefinesWhole}
use Rattle.run_blocks.specs.Given.SettlesDue.{OwnAreMade}
use Rattle.run_blocks.specs.Given.SettlesEntries.{EntriesAreBlank}
use Rattle.run_blocks.specs.Given.SettlesHand.{SamePending, RefinesObligations}
use Rattle.run_blocks.specs.Given.SettlesInHand.{pair_in_calling, pair_in_sweeping}
use Rattle.run_finds.specs.Past.{HasLeftMaps, IsPastRoot}
use Rattle.run_finds.specs.Rest.{FindHanded}
use Rattle.run_executor.specs.Given.ScenesHeld.{Held, IsAt}
use Rattle.run_executor.specs.Given.ScenesReplying.{scene_with}
use Rattle.run_executor.specs.Given.ScenesScene.{Scene}
use Rattle.run_executor.specs.Given.ScenesStepping.{StepLeads, scene_after}

-- the turn of the table in which the pair of a disposal lies that may have to wait, as an older one may be the root still
abbrev pub waits_in_disposing : Dispose → Disposing → Option ℕ
waits_in_disposing d disposal.Reads = Some d.table.turn
waits_in_disposing d (disposal.Walks table) = Some d.table.turn
waits_in_disposing d (disposal.Defers defer) = Some d.table.turn
waits_in_disposing d _ = None

abbrev pub waits_of : Dispose → Option ℕ
waits_of d = waits_in_disposing d d.stands

-- and of a pair that a call counts first: by the disposal that begins then
abbrev pub waits_in_calling : {K V Q : Type 0} → KeyCall K V Q → Calling → Option ℕ
waits_in_calling p (calling.Counts removed) = waits_of (disposing p.setting removed p.trial.table)
waits_in_calling p (calling.Disposes dispose answer) = waits_of dispose
waits_in_calling p _ = None

abbrev pub waits_in_sweeping : Sweep → Sweeping → Option ℕ
waits_in_sweeping c (sweeping.Counts removed) = waits_of (disposing c.setting removed c.table)
waits_in_sweeping c (sweeping.Disposes dispose) = waits_of dispose
waits_in_sweeping c _ = None

abbrev pub waits_in : {K V Q : Type 0} → Machine K V Q → Option ℕ
waits_in (kinds.Key p) = waits_in_calling p p.stands
waits_in (kinds.Sweep c) = waits_in_sweeping c c.stands
waits_in _ = None

-- the word of the pair that a call has in hand
abbrev pub pair_in : {K V Q : Type 0} → Machine K V Q → Option ℕ
pair_in (kinds.Key p) = pair_in_calling p.stands
pair_in (kinds.Sweep c) = pair_in_sweeping c.stands
pair_in _ = None

module _ {K V : Type 0} where
  -- it lies in the table with this turn, and was stored in an earlier one, in a map that grows in chunks; or it is past the root
  abbrev pub LiesFor : ℕ → Moment K V → ℕ → Option ℕ → Type 0
  LiesFor map m k (Some turn) = ((m.spot k).turn ≡ turn) × ((m.born k).turn < turn) × (grows_in_chunks (map_at map m) ≡ true)
  LiesFor map m k None = IsPastRoot map m k

  abbrev pub IsHeldPast : ℕ → Moment K V → ℕ → Option ℕ → Type 0
  IsHeldPast map m k waits = HasLeftMaps m k × LiesFor map m k waits

  -- so it is of each pair that a call has in hand, and owes
  abbrev pub RefinesWaits : (ℕ → List ℕ) → Moment K V → Scene K V → Type 0
  RefinesWaits name m s =
      (map i : ℕ) (u : UnderWay K V K) → s.calls map i ≡ Some u → (word : ℕ) → pair_in (machine_of u) ≡ Some word
      → (c : CallThere K V) → call_of (name i) m ≡ Some c → (k : ℕ) → c.owes ≡ APair k ∷ [] → IsHeldPast map m k (waits_in (machine_of u))

  -- pairs that have left their maps lie at the other moment where they lay, and this map's root has not gone back
  abbrev pub LeavesHeldOf : ℕ → Moment K V → Moment K V → Type 0
  LeavesHeldOf map m v = (k : ℕ) (waits : Option ℕ) → IsHeldPast map m k waits → IsHeldPast map v k waits

  abbrev pub LeavesHeld : Moment K V → Moment K V → Type 0
  LeavesHeld m v = (map : ℕ) → LeavesHeldOf map m v

  -- so it is of each map on which a call is under way
  abbrev pub LeavesPending : Scene K V → Moment K V → Moment K V → Type 0
  LeavesPending t m v = (map i : ℕ) (u : UnderWay K V K) → t.calls map i ≡ Some u → LeavesHeldOf map m v

  -- each call that has a pair in hand then had it before, as the same machine
  abbrev pub PreservesPending : (ℕ → List ℕ) → Moment K V → Scene K V → Moment K V → Scene K V → Type 0
  PreservesPending name m s v t =
      (map i : ℕ) (u : UnderWay K V K) → t.calls map i ≡ Some u → (word : ℕ) → pair_in (machine_of u) ≡ Some word → (d : CallThere K V) → call_of (name i) v ≡ Some d
      → (x : UnderWay K V K) × (s.calls map i ≡ Some x) × (machine_of x ≡ machine_of u) × (c : CallThere K V) × (call_of (name i) m ≡ Some c) × (c.owes ≡ d.owes)

  -- a pair that is retired is past the root; and one that is put behind a table, which is there, was copied past an older one, in a map that grows in chunks
  abbrev pub FindsPast : Moment K V → Effect → CallThere K V → Type 0
  FindsPast m (Deferred n t) c = ((m.born n).turn < (m.spot n).turn) × (is_stage is_there t m ≡ true) × (grows_in_chunks (map_at c.map m) ≡ true)
  FindsPast m (Retired (APair n)) c = IsPast (m.born n).turn (m.spot n).turn (first_of c.map m)
  FindsPast m _ c = Unit {0}

  abbrev pub FindPast : List ℕ → ℕ → List Effect → Moment K V → Type 0
  FindPast own map effects m = AtEachEffect (λ v f. ByCall (FindsPast v f) (acting (Some own) v)) (Some own) (Some map) effects m

  -- The table behind which a pair is put is that of the map just before the one in which the pair lies.
  abbrev pub FindsDeferral : Moment K V → Effect → CallThere K V → Type 0
  FindsDeferral m (Deferred n t) c =
      (t.map ≡ c.map) × ((m.spot n).turn ≡ t.turn + 1)
  FindsDeferral m _ c = Unit {0}

  abbrev pub FindDeferrals : List ℕ → ℕ → List Effect → Moment K V → Type 0
  FindDeferrals own map effects m = AtEachEffect (λ v f. ByCall (FindsDeferral v f) (acting (Some own) v)) (Some own) (Some map) effects m

  -- What is left of it: it has room.
  abbrev pub FindsSpace : Moment K V → Effect → CallThere K V → Type 0
  FindsSpace m (Deferred n t) c = length (behind t m.deferred) < sum_by (λ u. u.shape.len) (filter (λ u. nat_le u.table.turn t.turn) (tables_of c.map m))
  FindsSpace m _ c = Unit {0}

  abbrev pub FindSpace : List ℕ → ℕ → List Effect → Moment K V → Type 0
  FindSpace own map effects m = AtEachEffect (λ v f. ByCall (FindsSpace v f) (acting (Some own) v)) (Some own) (Some map) effects m

module _ (K V : Type 0) where
  -- The promises: where calls have in hand what they had, and such pairs lie where they lay, it is so still, as where others take steps, or an event is over;
  abbrev pub WaitsStay : Type 0
  WaitsStay =
      (name : ℕ → List ℕ) (m v : Moment K V) (s t : Scene K V) → RefinesWaits name m s → LeavesPending t m v → PreservesPending name m s v t → RefinesWaits name v t

  -- so where each call owes what it has in hand, before and after, which is noted as it was, each that has a pair in hand then was there before, as the same machine:
  -- where one is told a reply, comes to an outcome, or is given up, and where others than calls take steps;
  abbrev pub WaitsFollowObligations : Type 0
  WaitsFollowObligations =
      (same : K → K → Bool) (name : ℕ → List ℕ) (m v : Moment K V) (known known2 : Known) (s t : Scene K V) → RefinesCalls same name m s.calls → RefinesObligations name m known s → RefinesObligations name v known2 t
      → RefinesWaits name m s → LeavesPending t m v
      → ((map i : ℕ) (u : UnderWay K V K) → t.calls map i ≡ Some u → (word : ℕ) → pair_in (machine_of u) ≡ Some word
      → (x : UnderWay K V K) × (s.calls map i ≡ Some x) × (machine_of x ≡ machine_of u) × SamePending known known2 (machine_of x))
      → RefinesWaits name v t

  -- So it is where a call begins that has no pair in hand, by a name that no call under way has,
  abbrev pub CallsBeginWaits : Type 0
  CallsBeginWaits =
      (name : ℕ → List ℕ) (m : Moment K V) (s : Scene K V) → RefinesWaits name m s
      → (map i : ℕ) (u : UnderWay K V K) (call : Call K V) (guard : List ℕ) → NoneNamed name (name i) s → pair_in (machine_of u) ≡ None
      → RefinesWaits name (with_call (name i) guard call (Some map) m) (scene_with map i u s)

  -- These parts make up all that effects must find that hand a pair over.
  abbrev pub PastIsHanded : Type 0
  PastIsHanded =
      (own : List ℕ) (map : ℕ) (effects : List Effect) (m : Moment K V) → FindPast own map effects m → FindDeferrals own map effects m → FindSpace own map effects m
      → FindHanded own map effects m

module _ (K V : Type 0) (same : K → K → Bool) (hash : ℕ → K → ℕ) where
  -- The promises, of a step of a call, whichever it is, and whether of a row or none: it is so after it,
  abbrev pub CallsPreserveWaits : Type 0
  CallsPreserveWaits =
      (name : ℕ → List ℕ) (m : Moment K V) (known : Known) (s : Scene K V) (old new : Held K V)
      → IsAt same hash old s → RefinesWhole same name m known s → EntriesAreBlank s → OwnAreMade known s.world → RefinesObligations name m known s → RefinesWaits name m s
      → (map i : ℕ) (u : UnderWay K V K) (here : s.calls map i ≡ Some u) (said : Progress (Node K V)) (leads : StepLeads same hash i said s old new)
      → (let to = leads map u here in
      RefinesWaits name (with_effects (Some (name i)) (Some map) (effects_of (acts.Call i map) known new.changed) m) (scene_after same s old new map i to.0 u to.1 said to.4))

  -- and what it hands over is past the root, or was copied past an older table.
  abbrev pub CallsHandPast : Type 0
  CallsHandPast =
      (name : ℕ → List ℕ) (m : Moment K V) (known : Known) (s : Scene K V) (old new : Held K V)
      → IsAt same hash old s → RefinesWhole same name m known s → EntriesAreBlank s → OwnAreMade known s.world → RefinesObligations name m known s → RefinesWaits name m s
      → (map i : ℕ) (u : UnderWay K V K) (here : s.calls map i ≡ Some u) (said : Progress (Node K V)) (leads : StepLeads same hash i said s old new)
      → FindPast (name i) map (effects_of (acts.Call i map) known new.changed) m
