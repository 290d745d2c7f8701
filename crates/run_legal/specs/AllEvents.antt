-- Events that reclaim all: in the midst of one, wherever a chain of its steps has led, and at its end.
use Rattle.std.specs.Prelude.{◌≡◌, ◌⊎◌, ◌<◌, ◌^◌, ℕ, Bool, true, false, List, [], ◌∷◌, ◌++◌, Option, None, flat_map, map, if◌then◌else◌}
use Rattle.std.specs.List.{list_all}
use Rattle.run_grows.specs.Given.SeizeReclaimAll.{clearing, reclaiming_all}
use Rattle.run_grows.specs.Given.SeizeSequence.{taken_in}
use Rattle.run_grows.specs.Given.SeizeWaitingSets.{Change}
use Rattle.run_grows.specs.Given.SeizeWorld.{World, times}
use Rattle.run_grows.specs.Given.SeizeDeclared.rows.reclaim_all.ReclaimAll.{ReclaimAll}
use Rattle.run_grows.specs.Given.SeizeDeclared.rows.settle.Settled.{Settled}
use Rattle.run_grows.specs.Given.SeizeDeclared.rows.settle.Settled.TheVariants as settled
use Rattle.run_grows.specs.Given.SeizeSetsReclaims.{is_on_slots}
use Rattle.run_grows.specs.Given.TablesNodes.{deferred_word}
use Rattle.run_grows.specs.Given.TablesDeclared.node.Node.{Node}
use Rattle.run_grows.specs.Given.RunsDeclared.effect.Effect.{Effect}
use Rattle.run_grows.specs.Given.RunsDeclared.effect.Effect.TheVariants.{Reclaimed}
use Rattle.run_grows.specs.Given.RunsDeclared.effect.Thing.TheVariants.{APair}
use Rattle.run_grows.specs.Given.RunsDeclared.event.Event.{Event}
use Rattle.run_grows.specs.Given.RunsDeclared.outcome.Outcome.TheVariants.{Done}
use Rattle.run_grows.specs.Given.SchedulesAfter.{moment}
use Rattle.run_grows.specs.Given.SchedulesEffects.{with_effects, AtEachEffect}
use Rattle.run_grows.specs.Given.SchedulesEntry.{Entry}
use Rattle.run_grows.specs.Given.SchedulesHanding.{gives_all, is_granted, is_reclaiming}
use Rattle.run_grows.specs.Given.SchedulesInTurn.{HasRightOutcome}
use Rattle.run_grows.specs.Given.SchedulesLives.{MayReclaim}
use Rattle.run_grows.specs.Given.SchedulesModel.{all_left, thing_back}
use Rattle.run_grows.specs.Given.SchedulesMoment.{Left, Moment}
use Rattle.run_grows.specs.Given.SchedulesTerms.{Terms}
use Rattle.run_grows.specs.Given.EffectsEffects.{effects_of, known_after}
use Rattle.run_grows.specs.Given.EffectsKnown.{Known}
use Rattle.run_grows.specs.Given.EffectsDeclared.acting.Acting.TheVariants as acts
use Rattle.run_grows.specs.Given.EffectsDeclared.role.Role.TheVariants as role
use Rattle.run_grows.specs.Given.FinishesMaps.{Standing}
use Rattle.run_grows.specs.Given.MomentsOnSlots.{HadRetired}
use Rattle.run_grows.specs.Given.SeizeReclaimsRoots.{all_lists}
use Rattle.run_grows.specs.Given.ScenesReclaiming.{IsReclaiming, ReclaimingLeads}
use Rattle.run_grows.specs.Given.PromisesReading.{RefinesReadings}
use Rattle.run_grows.specs.Given.ModelsFollows.{FollowsModel}
use Rattle.run_grows.specs.Given.ModelsNumbers.{EachIsOnce, things_of}
use Rattle.run_grows.specs.Given.ModelsReclaims.{HasReclaimed}
use Rattle.run_grows.specs.Given.ModelsTurns.{CameByTurns}
use Rattle.run_grows.specs.Given.FindsLittle.{ReclaimsAll}
use Rattle.run_grows.specs.Given.FindsOrderly.{is_left_over}
use Rattle.run_legal.specs.CallEvents.{IsLegalBut}
use Rattle.run_legal.specs.Carried.{IsSequential, LeftIsNoted, RefinesAllCalls, RefinesRun}
use Rattle.run_legal.specs.Chains.{Chain, Come}
use Rattle.run_grows.specs.Given.ScenesHeld.{Held}
use Rattle.run_grows.specs.Given.ScenesScene.{Scene}
use Rattle.run_grows.specs.Given.SchedulesTransition.{past}

-- How far an event has come that reclaims all: as events do, with its machine, and with these lists behind the roots still.
pub record AllCome (K V : Type 0) : Type 0 where
  pub come : Come K V
  pub all : ReclaimAll
  pub lists : ℕ → List ℕ

-- the scene with this world, and with maps that stand so
abbrev pub scene_in : {K V : Type 0} → Scene K V → World (Node K V) → (ℕ → Option (Standing K)) → Scene K V
scene_in s w maps = record s { world = w; maps = maps }

-- a pair that is reclaimed was handed over, or left over
abbrev pub FindsPair : {K V : Type 0} → Moment K V → Effect → Type 0
FindsPair m (Reclaimed (APair n)) = MayReclaim true (m.place n)
FindsPair m _ = Unit {0}

-- each pair that is left over is in a block behind a root
abbrev pub LeftIsBehindRoots : {K V : Type 0} → ℕ → Moment K V → Known → (ℕ → List ℕ) → Type 0
LeftIsBehindRoots roots m known lists = (n : ℕ) → is_left_over (m.place n) ≡ true → (b : ℕ) × (known.roles b ≡ role.Pair n) × (0 < times b (all_lists lists roots))

-- what is behind the roots is what the moment says that ended maps have left over, in that order
abbrev pub BehindRootsIsLeft : {K V : Type 0} → ℕ → Moment K V → Known → (ℕ → List ℕ) → Type 0
BehindRootsIsLeft roots m known lists = flat_map (λ (b : ℕ). things_of (known.roles b)) (all_lists lists roots) ≡ all_left m

-- each pair in a block behind a root is left over
abbrev pub BehindRootsAreLeft : {K V : Type 0} → ℕ → Moment K V → Known → (ℕ → List ℕ) → Type 0
BehindRootsAreLeft roots m known lists = (b n : ℕ) → 0 < times b (all_lists lists roots) → known.roles b ≡ role.Pair n → m.place n ≡ Left

-- The promise: so it is where what is behind the roots is noted as the pairs that the moment tells, and those are the ones that are left over.
abbrev pub BehindRootsIsNoted : Type 0 → Type 0 → Type 0
BehindRootsIsNoted K V =
    (roots : ℕ) (m : Moment K V) (known : Known) (lists : ℕ → List ℕ) → map known.roles (all_lists lists roots) ≡ map role.Pair (flat_map (λ r. r.pairs) m.remains) → LeftIsNoted m
    → LeftIsBehindRoots roots m known lists × BehindRootsIsLeft roots m known lists × BehindRootsAreLeft roots m known lists

module _ {K V : Type 0} (roots : ℕ) (first : Known) (began : World (Node K V)) (behind : ℕ → List ℕ) where
  -- What it has reclaimed so far, as it was noted at first, since it began in that world with these lists behind the roots: blocks that were retired, and after all of these those that are behind
  -- no root any more, in the order of the roots. Nothing else is noted otherwise.
  pub record TakesInTurn (done : List Effect) (known : Known) (w : World (Node K V)) (all : ReclaimAll) (lists : ℕ → List ℕ) : Type 0 where
    pub back : List ℕ
    pub gone : List ℕ
    pub taken : taken_in w.log ≡ taken_in began.log ++ back
    pub order : all_lists behind roots ≡ gone ++ all_lists lists roots
    pub reclaimed : flat_map thing_back done ≡ flat_map (λ (b : ℕ). things_of (first.roles b)) (back ++ gone)
    pub slots_first : is_on_slots all.stands ≡ true → gone ≡ []
    pub noted : (b : ℕ) → (known.roles b ≡ first.roles b) ⊎ (known.roles b ≡ role.Free)

module _ {K V : Type 0} (same : K → K → Bool) (name : ℕ → List ℕ) (terms : Terms) (log : List (Entry K V)) (first : Known) (began : World (Node K V)) (behind : ℕ → List ℕ) where
  -- In the midst of an event that reclaims all, which began so, and has done this: it reclaims alone, each table as one that was retired; and each pair that is left over is behind a root still.
  pub record InAllEvent (done : List Effect) (m : Moment K V) (known : Known) (s : Scene K V) (all : ReclaimAll) (lists : ℕ → List ℕ) : Type 0 where
    pub once : EachIsOnce first
    pub calls : RefinesAllCalls same name (past log) m known s
    pub reading : RefinesReadings name (past log) (λ j. 0) m s
    pub worked : m ≡ with_effects None None done (moment log)
    pub granted : is_granted false done ≡ true
    pub may : list_all is_reclaiming done ≡ true
    pub had : AtEachEffect HadRetired None None done (moment log)
    pub turn : TakesInTurn terms.roots first began behind done known s.world all lists
    pub left : LeftIsBehindRoots terms.roots m known lists

module _ {K V : Type 0} (same : K → K → Bool) (hash : ℕ → K → ℕ) (terms : Terms) (i : ℕ) where
  -- It begins, as if by caller i: with the slots, if one was taken, else with the roots.
  pub record BeginsAll (from : AllCome K V) : Type 0 where
    pub under_way : IsReclaiming same hash from.come.held from.come.scene i from.lists from.all
    pub size : from.come.held.batch_size ≡ terms.batch_size
    pub taken : Bool
    pub first : from.all ≡ (if taken then reclaiming_all terms.batch_size terms.roots else clearing terms.roots)

  -- A step by which all is reclaimed, as if by caller i.
  pub record AllSteps (from to : AllCome K V) : Type 0 where
    pub under_way : IsReclaiming same hash from.come.held from.come.scene i from.lists from.all
    pub roots_are : from.come.held.roots ≡ terms.roots
    pub size : from.come.held.batch_size ≡ terms.batch_size
    pub said : Settled (Node K V)
    pub leads : ReclaimingLeads same hash from.come.scene i from.lists from.come.held to.come.held from.all to.all said
    pub comes : to ≡ record {
      come = record {
        held = to.come.held;
        did = from.come.did ++ effects_of acts.Row from.come.notes to.come.held.changed;
        now = with_effects None None (effects_of acts.Row from.come.notes to.come.held.changed) from.come.now;
        notes = known_after acts.Row to.come.held.changed from.come.notes;
        scene = scene_in from.come.scene leads.1.w2 leads.1.maps2;
      };
      all = to.all;
      lists = leads.1.lists2;
    }

-- where it begins, with this machine, and these lists behind the roots
abbrev pub all_begun : {K V : Type 0} → List (Entry K V) → Known → Scene K V → Held K V → ReclaimAll → (ℕ → List ℕ) → AllCome K V
all_begun log known s e all lists = record { come = record { held = e; did = []; now = moment log; notes = known; scene = s }; all = all; lists = lists }

module _ (K V : Type 0) (same : K → K → Bool) (hash : ℕ → K → ℕ) where
  -- The promises: as long as reclaiming all is on slots, what is behind the roots stays there.
  abbrev pub SlotsLeaveRoots : Type 0
  SlotsLeaveRoots =
      (s : Scene K V) (i : ℕ) (lists : ℕ → List ℕ) (old new : Held K V) (before after : ReclaimAll) (said : Settled (Node K V)) → IsReclaiming same hash old s i lists before
      → (leads : ReclaimingLeads same hash s i lists old new before after said) → is_on_slots before.stands ≡ true → leads.1.lists2 ≡ lists

  -- An event is in its midst where all begins to be reclaimed, if what is left over is behind the roots;
  abbrev pub AllEventsBegin : Type 0
  AllEventsBegin =
      (name : ℕ → List ℕ) (terms : Terms) (log : List (Entry K V)) (known : Known) (s : Scene K V) → RefinesRun same name terms log known s
      → (all : ReclaimAll) (lists : ℕ → List ℕ) → LeftIsBehindRoots terms.roots (moment log) known lists
      → InAllEvent same name terms log known s.world lists [] (moment log) known s all lists

  -- wherever a chain of its steps has led;
  abbrev pub AllChain : Type 0
  AllChain =
      (name : ℕ → List ℕ) (terms : Terms) (log : List (Entry K V)) (first : Known) (began : World (Node K V)) (behind : ℕ → List ℕ) (i n : ℕ) (from to : AllCome K V)
      → Chain (AllSteps same hash terms i) n from to → InAllEvent same name terms log first began behind from.come.did from.come.now from.come.notes from.come.scene from.all from.lists
      → InAllEvent same name terms log first began behind to.come.did to.come.now to.come.notes to.come.scene to.all to.lists

  -- there each pair that it has reclaimed was handed over, or left over, if no call was under way as it began, and what was behind the roots was left over;
  abbrev pub AllFindPairs : Type 0
  AllFindPairs =
      (name : ℕ → List ℕ) (terms : Terms) (log : List (Entry K V)) (known : Known) (s : Scene K V) (old : Held K V) → RefinesRun same name terms log known s → (moment log).calls ≡ []
      → (i : ℕ) (all : ReclaimAll) (lists : ℕ → List ℕ) → LeftIsBehindRoots terms.roots (moment log) known lists → BehindRootsAreLeft terms.roots (moment log) known lists
      → (n : ℕ) (to : AllCome K V) → Chain (AllSteps same hash terms i) n (all_begun log known s old all lists) to → AtEachEffect FindsPair None None to.come.did (moment log)

  -- and where its last step has said that all is reclaimed, its work on slots has reclaimed what the waiting sets of blocks say, in the world of the scene, and left the sets so,
  -- by whatever changes of them that world came in which it began.
  abbrev pub AllReclaimBySets : Type 0
  AllReclaimBySets =
      (terms : Terms) → terms.batch_size < 2 ^ 64 → (i n : ℕ) (from to over : AllCome K V) → BeginsAll same hash terms i from → Chain (AllSteps same hash terms i) n from to
      → (last : AllSteps same hash terms i to over) → last.said ≡ settled.Done
      → (before : List Change) → CameByTurns deferred_word terms.batch_size terms.roots from.come.scene.world before
      → HasReclaimed deferred_word terms.batch_size terms.roots from.come.scene.world before over.come.scene.world

  -- So all is back then, and what ended maps had left over came last; the event is legal but for what it comes to, and a run goes on with it: if what was behind the roots is what the moment said, and
  -- each pair that is reclaimed was handed over or left over.
  abbrev pub AllRunsToItsEnd : Type 0
  AllRunsToItsEnd =
      (name : ℕ → List ℕ) (terms : Terms) (log : List (Entry K V)) (known : Known) (s : Scene K V) (old : Held K V) → terms.batch_size < 2 ^ 64 → RefinesRun same name terms log known s
      → (event : Event K V) → gives_all event ≡ true → (IsSequential event log → FollowsModel terms.batch_size terms.roots log known s.world)
      → (i : ℕ) (all : ReclaimAll) (lists : ℕ → List ℕ) → LeftIsBehindRoots terms.roots (moment log) known lists → BehindRootsIsLeft terms.roots (moment log) known lists
      → BeginsAll same hash terms i (all_begun log known s old all lists)
      → (n : ℕ) (to over : AllCome K V) → Chain (AllSteps same hash terms i) n (all_begun log known s old all lists) to
      → (last : AllSteps same hash terms i to over) → last.said ≡ settled.Done
      → (steps : ℕ) (effects : List Effect) → over.come.did ≡ effects → AtEachEffect FindsPair None None effects (moment log)
      → (let e : Entry K V = record { event = event; outcome = Done; steps = steps; effects = effects } in
      HasRightOutcome terms log e → IsLegalBut same terms log e × ReclaimsAll log e × RefinesRun same name terms (e ∷ log) over.come.notes over.come.scene)
