-- When an act may be made, and from which scene to which one it leads, with what it tells.
use Rattle.std.specs.Prelude.{◌≡◌, ◌≢◌, ℕ, ◌+◌, ◌<◌, ◌≤◌, ◌^◌, max, Bool, true, false, [], ◌∷◌, ◌++◌, Option, Some, None}
use Rattle.std.specs.Int.{IsPowerOfTwo}
use Rattle.std.specs.Option.{is_none}
use Rattle.std.specs.Result.{is_err}
use Rattle.run_shows.specs.Given.SeizeWordsMem.{Mem, value_at}
use Rattle.run_shows.specs.Given.SeizeWorld.{World, Begin, Step, Happens, with_at}
use Rattle.run_shows.specs.Given.SeizeDeclared.advance.Advance.{Advance}
use Rattle.run_shows.specs.Given.SeizeDeclared.advance.Advance.TheVariants as progress
use Rattle.run_shows.specs.Given.SeizeDeclared.rows.settle.Settled.{Settled}
use Rattle.run_shows.specs.Given.SeizeDeclared.rows.settle.Settled.TheVariants as settled
use Rattle.seize_acts.specs.Acts.Acts.{rests, is_within, begun as row_begun, row_steps}
use Rattle.seize_acts.specs.Acts.Answers.{Grant, then_on, stepped}
use Rattle.run_shows.specs.Given.TablesChunks.{is_incremental}
use Rattle.run_shows.specs.Given.TablesLengths.{IsTableLen}
use Rattle.run_shows.specs.Given.TablesNodes.{deferred_word}
use Rattle.run_shows.specs.Given.TablesDeclared.node.Node.{Node}
use Rattle.run_shows.specs.Given.TablesDeclared.setting.Setting.{Setting}
use Rattle.run_shows.specs.Given.ResizeNewMap.{new_map_plan}
use Rattle.run_shows.specs.Given.ResizeDeclared.new_map.NewMap.{NewMap}
use Rattle.run_shows.specs.Given.RawEndMap.{end_map_plan}
use Rattle.run_shows.specs.Given.RawMachine.{machine_plan, machine_replied, machine_asked}
use Rattle.run_shows.specs.Given.RawDeclared.machines.end_map.EndMap.{EndMap}
use Rattle.run_shows.specs.Given.RawDeclared.machines.machine.Machine.{Machine}
use Rattle.run_shows.specs.Given.RawDeclared.machines.progress.Progress.{Progress as CallProgress}
use Rattle.run_shows.specs.Given.SweepsSweepPoints.{after_next}
use Rattle.owner_facts.specs.Given.CallersOverAll.{gone_on}
use Rattle.owner_facts.specs.Given.CallersTogether.{UnderWay, OverAll, UnlessCounts, FewWith, IsOfSlots, Closes}
use Rattle.owner_facts.specs.Given.FinishesEndings.{Finishing, EndingsTogether, StepsOfEnding, MakingStepsWithEndings, HasFinished, waiting_by}
use Rattle.owner_facts.specs.Given.FinishesFactsEnds.{Deed, taken_by}
use Rattle.owner_facts.specs.Given.FinishesMachines.{machine_of, RepliedOfKind, MachineStepsWithEndings}
use Rattle.owner_facts.specs.Given.FinishesMakings.{Beginning, IsMade}
use Rattle.owner_facts.specs.Given.FinishesMaps.{Standing, IsSameMap, with_call}
use Rattle.many_acts.specs.Acts.Acts.{Act, Answer, Wanted, Nothing, OfCall, OfReply, OfAsking, OfMaking, OfEnding, UnlessToCount, begun, BeginsCall, StepsCall, TellsCall, AsksCall, StopsCall, BeginsMaking, StepsMaking, BeginsEnding, StepsEnding, BeginsRow, StepsRow}
use Rattle.run_shows.specs.Scenes.Ending.{ending_begun}
use Rattle.run_shows.specs.Scenes.Replying.{scene_with, unless_stopped}
use Rattle.run_shows.specs.Scenes.Making.{making_begun}
use Rattle.run_shows.specs.Scenes.Scene.{Scene, HasNoCall}

module _ {K V : Type 0} where
  -- a caller has no call, and neither makes a map nor ends one
  pub record IsFree (s : Scene K V) (i : ℕ) : Type 0 where
    pub no_call : HasNoCall s i
    pub no_making : is_none (s.makers i) ≡ true
    pub no_ending : is_none (s.enders i) ≡ true

  -- Once it was asked for its next pair a walk that is ready goes on to that, and any other call is as it was.
  abbrev pub asked_on : UnderWay K V K → UnderWay K V K
  asked_on (OverAll o) = OverAll (gone_on o (after_next o.sweep))
  asked_on u = u

  -- a call and its map, if the call is there
  abbrev pub call_at : Scene K V → ℕ → ℕ → Option (Standing K × UnderWay K V K)
  call_at s i m = then_on (s.maps m) (λ standing. then_on (s.calls m i) (λ u. Some (standing, u)))

-- Keys have a hash by each hasher; a batch has such a size, there are so many roots, and each caller has a slot.
module _ {K V S : Type 0} (same : K → K → Bool) (hash : S → K → ℕ) (batch_size roots : ℕ) (slot : ℕ → ℕ) where
  -- what the next step of a call, of a making, and of an end comes to, if they are there and the memory may choose so
  abbrev pub call_steps : Scene K V → Grant → Standing K × UnderWay K V K → Option (Mem (Node K V) × (Machine K V K × CallProgress (Node K V)))
  call_steps s g it = stepped s.world.memory g (machine_plan same same it.0.hash (machine_of it.1))

  abbrev pub making_steps : Scene K V → Grant → Beginning K → Option (Mem (Node K V) × (NewMap × Advance Setting))
  making_steps s g b = stepped s.world.memory g (new_map_plan b.machine)

  abbrev pub ending_steps : Scene K V → Grant → Finishing K V → Option (Mem (Node K V) × (EndMap × Settled (Node K V)))
  ending_steps s g f = stepped s.world.memory g (end_map_plan f.machine)

  -- with what a caller begins to do, few calls on the map may write, if it is one in blocking mode
  abbrev pub AreFewWith : Scene K V → ℕ → ℕ → Wanted K V → Type 0
  AreFewWith s i m wanted =
      (standing : Standing K) → s.maps m ≡ Some standing → is_incremental standing.setting.mode ≡ false → FewWith (s.calls m) i (begun same slot standing i wanted)

  -- When an act may be made. A call begins within a section, or outside of any to count, on a map that stands; a step is taken where the memory may choose so; a
  -- map that has no number yet is made, with lengths that tables may have; one ends on which nobody has a call; a row begins on a slot between calls, as that is
  -- used, and ends no section in which a call is under way that needs it.
  abbrev pub MayBe : Act K V S → Scene K V → Type 0
  MayBe (BeginsCall i m wanted) s =
      IsFree s i × (rests (s.world.row i) ≡ true) × UnlessToCount wanted (is_within (s.world.uses (slot i)) ≡ true) × (is_none (s.maps m) ≡ false) × AreFewWith s i m wanted
  MayBe (StepsCall i m g) s = is_none (then_on (call_at s i m) (call_steps s g)) ≡ false
  MayBe (TellsCall i m reply) s = is_none (call_at s i m) ≡ false
  MayBe (AsksCall i m) s = is_none (call_at s i m) ≡ false
  MayBe (StopsCall i m) s = is_none (call_at s i m) ≡ false
  MayBe (BeginsMaking i map hasher given places) s =
      IsFree s i × (is_none (s.maps map) ≡ true) × ((j : ℕ) (d : Beginning K) → s.makers j ≡ Some d → map ≢ d.map)
      × (given.batch_size ≡ batch_size) × (given.mask + 1 < 2 ^ 64) × (0 < roots) × IsPowerOfTwo given.initial × (max places 8 ≤ 2 ^ 48 → IsTableLen (max places 8))
  MayBe (StepsMaking i g) s = is_none (then_on (s.makers i) (making_steps s g)) ≡ false
  MayBe (BeginsEnding i m) s = IsFree s i × (is_none (s.maps m) ≡ false) × ((j : ℕ) → is_none (s.calls m j) ≡ true)
  MayBe (StepsEnding i g) s = is_none (then_on (s.enders i) (ending_steps s g)) ≡ false
  MayBe (BeginsRow i request) s =
      HasNoCall s i × (rests (s.world.row i) ≡ true) × IsOfSlots request × ((m j : ℕ) (u : UnderWay K V K) → s.calls m j ≡ Some u → UnlessCounts u (Closes request (slot j) → ⊥))
      × (is_none (row_begun deferred_word batch_size i request s.world) ≡ false)
  MayBe (StepsRow i g) s = HasNoCall s i × (is_none (row_steps deferred_word i (s.world.row i) g s.world) ≡ false)

  -- the invariant of all holds there: maps, calls, makings and ends
  abbrev pub AllStand : Scene K V → Type 0
  AllStand s = EndingsTogether V same same batch_size roots slot s.world s.maps s.calls s.makers s.enders

  -- By what it tells, a making goes on; or its map stands; or there is none.
  abbrev pub MakingCame : Scene K V → ℕ → Beginning K → World (Node K V) → NewMap → Scene K V → Advance Setting → Type 0
  MakingCame s i b w2 machine n progress.Goes = n ≡ record s { world = w2; makers = with_at s.makers i (Some (record b { machine = machine })) }
  MakingCame s i b w2 machine n progress.Waits = ⊥
  MakingCame s i b w2 machine n (progress.Done setting) =
      (standing : Standing K) × IsMade V same same batch_size roots slot b setting standing
      × (n ≡ record s { world = w2; maps = with_at s.maps b.map (Some standing); makers = with_at s.makers i None })
  MakingCame s i b w2 machine n (progress.Refused fault) = n ≡ record s { world = w2; makers = with_at s.makers i None }

  -- An end goes on, and has taken no block away, or one whose value it hands out; or it is over. It never waits.
  abbrev pub EndingCame : Scene K V → ℕ → Finishing K V → World (Node K V) → Deed → EndMap → Scene K V → Settled (Node K V) → Type 0
  EndingCame s i f w2 deed machine n settled.Goes =
      (taken_by deed ≡ []) × (n ≡ record s { world = w2; enders = with_at s.enders i (Some (record f { machine = machine; waits = f.waits ++ waiting_by deed })) })
  EndingCame s i f w2 deed machine n settled.Waits = ⊥
  EndingCame s i f w2 deed machine n (settled.Gave value) =
      (b : ℕ) × (value_at s.world.memory b ≡ Some value) × (taken_by deed ≡ b ∷ [])
      × (n ≡ record s { world = w2; enders = with_at s.enders i (Some (record f { machine = machine; back = f.back ++ b ∷ []; waits = f.waits ++ waiting_by deed })) })
  EndingCame s i f w2 deed machine n settled.Done = (taken_by deed ≡ []) × HasFinished w2.memory f × (n ≡ record s { world = w2; enders = with_at s.enders i None })

  -- Where a call was stepped, all is as the law of machines among others says.
  pub record CallCame (s : Scene K V) (i m : ℕ) (g : Grant) (told : Answer K V) (n : Scene K V) : Type 0 where
    pub standing : Standing K
    pub stands : s.maps m ≡ Some standing
    pub call : UnderWay K V K
    pub here : s.calls m i ≡ Some call
    pub memory : Mem (Node K V)
    pub machine : Machine K V K
    pub progress : CallProgress (Node K V)
    pub computed : call_steps s g (standing, call) ≡ Some (memory, (machine, progress))
    pub tells : told ≡ OfCall progress
    pub did : MachineStepsWithEndings V same same batch_size roots slot s.world s.maps s.calls s.makers s.enders m standing i memory call machine progress
    pub comes : n ≡ record { world = did.w2; maps = did.maps2; calls = with_call s.calls m i did.next; makers = s.makers; enders = s.enders }

  -- From this scene the act has led to that one, and has told this. A step is computed from the memory and from what that was free to choose.
  abbrev pub Led : Act K V S → Scene K V → Answer K V → Scene K V → Type 0
  Led (BeginsCall i m wanted) s told n =
      (standing : Standing K) × (s.maps m ≡ Some standing) × (told ≡ Nothing) × (n ≡ scene_with m i (begun same slot standing i wanted) s)
  Led (StepsCall i m g) s told n = CallCame s i m g told n
  Led (TellsCall i m reply) s told n =
      (standing : Standing K) × (s.maps m ≡ Some standing) × (u next : UnderWay K V K) × (s.calls m i ≡ Some u)
      × (machine_of next ≡ (machine_replied (machine_of u) reply).0) × (told ≡ OfReply (machine_replied (machine_of u) reply).1)
      × (RepliedOfKind V same same batch_size roots slot standing i u reply next × (is_err (machine_replied (machine_of u) reply).1 ≡ true → next ≡ u)) × (n ≡ scene_with m i next s)
  Led (AsksCall i m) s told n =
      (u : UnderWay K V K) × (s.calls m i ≡ Some u) × (told ≡ OfAsking (machine_asked (machine_of u)).1) × (n ≡ scene_with m i (asked_on u) s)
  Led (StopsCall i m) s told n =
      (u : UnderWay K V K) × (s.calls m i ≡ Some u) × (told ≡ OfAsking (machine_asked (machine_of u)).1)
      × (n ≡ record s { calls = with_call s.calls m i (unless_stopped (machine_asked (machine_of u)).1 u) })
  Led (BeginsMaking i map hasher given places) s told n = (told ≡ Nothing) × (n ≡ record s { makers = with_at s.makers i (Some (making_begun (hash hasher) roots map given places)) })
  Led (StepsMaking i g) s told n =
      (b : Beginning K) × (s.makers i ≡ Some b) × (m2 : Mem (Node K V)) × (machine : NewMap) × (progress : Advance Setting)
      × (making_steps s g b ≡ Some (m2, (machine, progress))) × (told ≡ OfMaking progress)
      × (did : MakingStepsWithEndings V same same batch_size roots slot s.world s.maps s.calls s.makers s.enders i b m2 (machine, progress))
      × MakingCame s i b did.step.w2 machine n progress
  Led (BeginsEnding i m) s told n = (standing : Standing K) × (s.maps m ≡ Some standing) × (told ≡ Nothing) × (n ≡ ending_begun m i standing s)
  Led (StepsEnding i g) s told n =
      (f : Finishing K V) × (s.enders i ≡ Some f) × (m2 : Mem (Node K V)) × (machine : EndMap) × (progress : Settled (Node K V))
      × (ending_steps s g f ≡ Some (m2, (machine, progress))) × (told ≡ OfEnding progress)
      × (did : StepsOfEnding V same same batch_size roots slot s.world s.maps s.calls s.makers s.enders i f m2 (machine, progress))
      × EndingCame s i f did.w2 did.deed machine n progress
  Led (BeginsRow i request) s told n =
      (w2 : World (Node K V)) × Happens deferred_word batch_size (Begin i request) s.world w2 × (maps2 : ℕ → Option (Standing K)) × ((m : ℕ) → IsSameMap (s.maps m) (maps2 m))
      × (told ≡ Nothing) × (n ≡ record s { world = w2; maps = maps2 })
  Led (StepsRow i g) s told n =
      (w2 : World (Node K V)) × (row_steps deferred_word i (s.world.row i) g s.world ≡ Some w2) × Happens deferred_word batch_size (Step i) s.world w2
      × (maps2 : ℕ → Option (Standing K)) × ((m : ℕ) → IsSameMap (s.maps m) (maps2 m)) × (told ≡ Nothing) × (n ≡ record s { world = w2; maps = maps2 })
