-- Where it leads that all is reclaimed while nobody has anything under way: its beginning, and each step of it, and what that does.
use Rattle.std.specs.Prelude.{◌≡◌, ℕ, Bool, List, ◌++◌, None, option_map}
use Rattle.seize.specs.declared.rows.reclaim_all.ReclaimAll.{ReclaimAll}
use Rattle.seize.specs.declared.rows.settle.Settled.{Settled}
use Rattle.seize.specs.declared.rows.settle.Settled.TheVariants as settled
use Rattle.papaya_raw.specs.Given.TablesDeclared.node.Node.{Node}
use Rattle.run_schedules.specs.declared.effect.Effect.{Effect}
use Rattle.run_schedules.specs.Schedules.Effects.{with_effects, AtEachEffect}
use Rattle.run_schedules.specs.Schedules.Moment.{Moment}
use Rattle.run_effects.specs.Effects.Known.{known}
use Rattle.run_shows.specs.Reclaims.Reclaims.{AllIsReclaimed}
use Rattle.run_executor.specs.ReclaimsAll.Reclaiming.{IsReclaimingThere, MayReclaim, NobodyHas}
use Rattle.run_executor.specs.Given.SpotsOnSlots.{WaitUnreclaimed}
use Rattle.run_executor.specs.Given.MomentsOnSlots.{HadRetired}
use Rattle.run_executor.specs.Given.MomentsWhole.{RefinesWhole}
use Rattle.run_kept.specs.Kept.Kept.{RefinesKept}
use Rattle.run_logged.specs.Log.Shown.{AreNumbered, IsShown}
use Rattle.run_logged.specs.declared.logged.Logged.{Logged}
use Rattle.run_executor.specs.Executing.IsThere.{IsThere, held_by}
use Rattle.run_shows.specs.Scenes.Scene.{Scene}
use Rattle.run_shows.specs.Scenes.Reclaiming.{ReclaimingLeads}

module _ {K V S : Type 0} (same : K → K → Bool) (hash : K → ℕ) (name : ℕ → List ℕ) where
  -- All is being reclaimed, it is so far, and these lists are behind the roots still; and the scene refines a moment with the notes, of which all is so that
  -- every step keeps.
  pub record ReclaimingIsShown (m : Moment K V) (l : Logged K V S) (s : Scene K V) (i : ℕ) (lists : ℕ → List ℕ) (all : ReclaimAll) : Type 0 where
    pub under_way : IsReclaimingThere same hash l.executor s i lists all
    pub shows : RefinesWhole same name m (known l.notes) s
    pub kept : RefinesKept name m (known l.notes) s
    pub numbered : AreNumbered m l

  -- So it is once all is reclaimed, when nothing is left over, whatever the moment tells of that.
  pub record AllIsShown (m : Moment K V) (l : Logged K V S) (s : Scene K V) : Type 0 where
    pub is_at : IsThere same hash l.executor s
    pub shows : RefinesWhole same name m (known l.notes) s
    pub kept : RefinesKept name m (known l.notes) s
    pub numbered : AreNumbered m l

  module _ (m : Moment K V) (s : Scene K V) (i : ℕ) (lists : ℕ → List ℕ) where
    -- what is shown after a step: it goes on; or it is over, all is reclaimed, and the moment shows the executor
    abbrev pub ReclaimingThen : Scene K V → (ℕ → List ℕ) → ReclaimAll → (old new : Logged K V S) → Settled (Node K V) → Type 0
    ReclaimingThen s2 lists2 after old new settled.Done = AllIsReclaimed old.executor.roots s2.world s2.maps × AllIsShown m new s2
    ReclaimingThen s2 lists2 after old new _ = ReclaimingIsShown m new s2 i lists2 after

-- each table that is reclaimed was retired, and what waits behind that is not reclaimed
abbrev pub ReclaimRetired : {K V : Type 0} → List Effect → Moment K V → Type 0
ReclaimRetired did m = AtEachEffect HadRetired None None did m × AtEachEffect WaitUnreclaimed None None did m

-- A step of it, which did this: what it reclaims was retired so, and the moment after it shows where it has led.
module _ {K V S : Type 0} where
  abbrev pub ReclaimingContinues : (same : K → K → Bool) (hash : K → ℕ) → (ℕ → List ℕ) → Moment K V → Scene K V → ℕ → (ℕ → List ℕ) → (before after : ReclaimAll) → Settled (Node K V) → List Effect
      → (old new : Logged K V S) → Type 0
  ReclaimingContinues same hash name m s i lists before after told did old new =
      (leads : ReclaimingLeads same (λ map. hash) s i lists (held_by old.executor) (held_by new.executor) before after told)
      × ReclaimRetired did m
      × ReclaimingThen same hash name (with_effects None None did m) s i lists (record s { world = leads.1.w2; maps = leads.1.maps2 }) leads.1.lists2 after old new told

  -- What it does follows in the list, whatever shows the scene.
  abbrev pub ReclaimingSteps : (before after : ReclaimAll) → Settled (Node K V) → (had has : List Effect) → (old new : Logged K V S) → Type 0
  ReclaimingSteps before after told had has old new =
      (did : List Effect) × (has ≡ had ++ did)
      × ((same : K → K → Bool) (hash : K → ℕ) (name : ℕ → List ℕ) (m : Moment K V) (s : Scene K V) (i : ℕ) (lists : ℕ → List ℕ) → ReclaimingIsShown same hash name m old s i lists before
      → ReclaimingContinues same hash name m s i lists before after told did old new)

-- Where reclaiming has come to: each map stands as it stood, and nothing else is under way than before.
pub record ReclaimingCame {K V : Type 0} (s s2 : Scene K V) : Type 0 where
  pub maps : (n : ℕ) → option_map (λ standing. standing.setting) (s2.maps n) ≡ option_map (λ standing. standing.setting) (s.maps n)
  pub calls : s2.calls ≡ s.calls
  pub makers : s2.makers ≡ s.makers
  pub enders : s2.enders ≡ s.enders

module _ {K V S : Type 0} where
  -- It has run so far, and what it did follows in the list: where it has come it goes on, and a moment shows that; each table that was reclaimed was retired, and what waited
  -- behind that was not reclaimed.
  abbrev pub ReclaimingSoFar : (first now : ReclaimAll) → (before after : List Effect) → (old mid : Logged K V S) → Type 0
  ReclaimingSoFar first now before after old mid =
      (did : List Effect) × (after ≡ before ++ did)
      × ((same : K → K → Bool) (hash : K → ℕ) (s : Scene K V) (i : ℕ) (lists : ℕ → List ℕ) → IsReclaimingThere same hash old.executor s i lists first
      → (s2 : Scene K V) × (lists2 : ℕ → List ℕ) × IsReclaimingThere same hash mid.executor s2 i lists2 now)
      × ((same : K → K → Bool) (hash : K → ℕ) (name : ℕ → List ℕ) (m : Moment K V) (s : Scene K V) (i : ℕ) (lists : ℕ → List ℕ) → ReclaimingIsShown same hash name m old s i lists first
      → (s2 : Scene K V) × (lists2 : ℕ → List ℕ) × ReclaimingCame s s2 × ReclaimingIsShown same hash name (with_effects None None did m) mid s2 i lists2 now × ReclaimRetired did m)

  -- It has run to its end: all is reclaimed, and a moment shows the executor so; each table that was reclaimed was retired, and what waited
  -- behind that was not reclaimed.
  abbrev pub ReclaimingRan : Bool → (before after : List Effect) → (old new : Logged K V S) → Type 0
  ReclaimingRan taken before after old new =
      (did : List Effect) × (after ≡ before ++ did)
      × ((same : K → K → Bool) (hash : K → ℕ) (name : ℕ → List ℕ) (m : Moment K V) (s : Scene K V) (lists : ℕ → List ℕ) → IsShown same hash name m old s
      → NobodyHas old.executor → MayReclaim old.executor s lists taken
      → (s2 : Scene K V) × ReclaimingCame s s2 × AllIsReclaimed old.executor.roots s2.world s2.maps × AllIsShown same hash name (with_effects None None did m) new s2 × ReclaimRetired did m)
