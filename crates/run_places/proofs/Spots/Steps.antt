-- A step of a call, of a row or not: pairs lie then where the tables have them.
use Rattle.std.specs.Prelude.{◌≡◌, ◌≢◌, ℕ, ◌<◌, Bool, true, false, List, Option, Some, length}
use Rattle.std.proofs.Common.{refl, ap, sym, subst, ◌∙◌, arith, inl, inr}
use Rattle.std.proofs.lemmas.Bool.{ne_eqb, cases_eq}
use Rattle.run_shows.specs.Given.SeizeWordsDeclared.at.At.{At}
use Rattle.run_shows.specs.Given.SeizeWordsMem.{Mem}
use Rattle.run_shows.specs.Given.SeizeWorld.{World, IsInside, with_at}
use Rattle.run_shows.specs.Given.TablesDeclared.node.Node.{Node}
use Rattle.run_shows.specs.Given.TablesDeclared.setting.Setting.{Setting}
use Rattle.run_shows.specs.Given.RawMachine.{machine_plan}
use Rattle.run_shows.specs.Given.RawDeclared.machines.machine.Machine.{Machine}
use Rattle.run_shows.specs.Given.RawDeclared.machines.progress.Progress.{Progress}
use Rattle.run_shows.specs.Given.RunsDeclared.effect.Effect.{Effect}
use Rattle.run_shows.specs.Given.SchedulesEffects.{with_effects, AtEachEffect}
use Rattle.run_shows.specs.Given.SchedulesMoment.{Place, Unborn, InMap, Out, Handed, Behind, Left, GivenBack, Moment}
use Rattle.run_shows.specs.Given.SchedulesViews.{is_in_map}
use Rattle.run_shows.specs.Given.EffectsDeclared.changed.Changed.{Changed}
use Rattle.run_shows.specs.Given.EffectsDeclared.changed.Changed.TheVariants as changed
use Rattle.run_shows.specs.Given.TellsSeen.{Seen, Unseen, Wrote, seen_of}
use Rattle.run_shows.specs.Given.TellsTells.{IsObserved}
use Rattle.run_shows.proofs.Given.TellsPromised.{operations_tell, still_steps_tell}
use Rattle.run_shows.specs.Given.RuleChart.{Chart}
use Rattle.run_shows.specs.Given.RuleWords.{Blocks}
use Rattle.run_shows.specs.Given.RuleInWorld.{IsMapIn, StepSpec}
use Rattle.run_shows.proofs.Given.RuleLaws.{current_is_known}
use Rattle.run_shows.proofs.Given.RuleWorld.WentTold.{went_as}
use Rattle.run_shows.specs.Given.PointsSteps.{AreLawful}
use Rattle.run_shows.specs.Given.CallersSights.{Visible, seen_by, IsGrown, IsVisibility}
use Rattle.run_shows.specs.Given.CallersTogether.{UnderWay, OnKey, ForRoom, Counting, OverAll, in_slot, IsOneStep, Together}
use Rattle.run_shows.proofs.Given.CallersSights.Seen.{map_seen}
use Rattle.run_shows.proofs.Given.CallersTogether.At.{at_other, at_same}
use Rattle.run_shows.proofs.Given.CallersTogether.Fits.{map_in_slot}
use Rattle.run_shows.specs.Given.FinishesMachines.{machine_of, MachineStepsWithEndings}
use Rattle.run_shows.specs.Given.FinishesMaps.{Standing, IsSameMap}
use Rattle.run_shows.specs.Given.EffectsEffects.{effects_of, known_after}
use Rattle.run_shows.specs.Given.EffectsKnown.{Known}
use Rattle.run_shows.specs.Given.EffectsDeclared.acting.Acting.{Acting}
use Rattle.run_shows.specs.Given.EffectsDeclared.acting.Acting.TheVariants.{Call}
use Rattle.run_shows.specs.Follows.Maps.{RefinesMap}
use Rattle.run_shows.specs.Follows.Shows.{Refines}
use Rattle.run_shows.specs.Follows.Steps.{TakesNone, Did, IsOfNoRow}
use Rattle.run_shows.proofs.Follows.Nowhere.{names_stay, went_nowhere}
use Rattle.run_shows.proofs.Follows.Onward.{IsOfMap}
use Rattle.run_shows.proofs.Follows.Operations.{LeavesBy, Operated, operated, operated_leaves, seen_write, told_write}
use Rattle.run_shows.proofs.Follows.Rows.{one_step_leaves}
use Rattle.run_places.specs.Spots.Deferred.{FindsNumbers, CallsLeaveOutside}
use Rattle.run_places.specs.Spots.Placed.{FindPlaces, CallsFindPlaces}
use Rattle.run_places.specs.Spots.Spots.{RefinesSpots, RefinesPlaces}
use Rattle.run_places.specs.Spots.Steps.{CallsPreservePlaces, CallsPreserveBlocks}
use Rattle.run_places.specs.Spots.Unreclaimed.{RefinesUnreclaimed}
use Rattle.run_places.proofs.Spots.Calm.{IsCalm, calm_done}
use Rattle.run_places.proofs.Spots.Deferred.{effects_leave_outside}
use Rattle.run_places.proofs.Spots.Done.{DidMoved, did_moved}
use Rattle.run_places.proofs.Spots.Effects.{calm_aside}
use Rattle.run_places.proofs.Spots.Elsewhere.{Leaves, moved_leaves, other_lies, stored_grows}
use Rattle.run_places.proofs.Spots.Finding.{calm_finds, moved_finds, row_finds}
use Rattle.run_places.proofs.Spots.Handing.{AllHandNothing, calm_hand, moved_hand}
use Rattle.run_places.proofs.Spots.Holding.{moved_holds, calm_holds, row_holds}
use Rattle.run_places.proofs.Spots.Numbers.{calm_numbers, moved_numbers, row_numbers}
use Rattle.run_places.proofs.Spots.Own.{own_lies}
use Rattle.run_places.proofs.Spots.Rows.{row_aside}
use Rattle.run_places.proofs.Spots.Shifts.{Shifts, shifted}
use Rattle.run_places.proofs.Spots.Stays.{places_stay}
use Rattle.run_shows.proofs.Scenes.May.{may_step}
use Rattle.run_shows.specs.Scenes.Held.{Held, IsAt}
use Rattle.run_shows.specs.Scenes.Scene.{Scene, slot_of}
use Rattle.run_shows.specs.Scenes.Stepping.{StepLeads, StepsFrom, scene_after}
use Rattle.run_shows.proofs.Given.General.{same_some as one_of}

-- a pair that is in one map is in no other
in_one_map : (a b : ℕ) (p : Place) → a ≢ b → is_in_map a p ≡ true → is_in_map b p ≡ false
in_one_map a b (InMap x) ne e = ne_eqb b x (λ f. ne (let it : a ≡ x = grind (arith, e) in it ∙ sym f))
in_one_map a b Unborn ne e = refl
in_one_map a b Out ne e = refl
in_one_map a b Handed ne e = refl
in_one_map a b Behind ne e = refl
in_one_map a b Left ne e = refl
in_one_map a b GivenBack ne e = refl

module _ {K V : Type 0} (same : K → K → Bool) (hash : ℕ → K → ℕ) (m : Moment K V) (known : Known) (s : Scene K V) (old new : Held K V) (at : IsAt same hash old s)
    (name : ℕ → List ℕ) (shown : Refines same name m known s)
    (map i : ℕ) (standing : Standing K) (there : s.maps map ≡ Some standing) (caller : List ℕ)
    (made : Operated s.world.memory new.memory new.changed) where
  abbrev m2 : Mem (Node K V)
  m2 = new.memory

  abbrev told : Changed
  told = new.changed

  abbrev w : World (Node K V)
  w = s.world

  abbrev its : Acting
  its = Call i map

  abbrev effects : List Effect
  effects = effects_of its known told

  abbrev known2 : Known
  known2 = known_after its told known

  abbrev v : Moment K V
  v = with_effects (Some caller) (Some map) effects m

  abbrev setting : Setting
  setting = in_slot standing.setting (slot_of i)

  abbrev sight : Visible
  sight = standing.sights (slot_of i)

  together : (n : ℕ) (st : Standing K) → s.maps n ≡ Some st → Together V same st.hash same st.setting slot_of w st.chart st.blocks st.sights (s.calls n)
  together n st is = at.together.makings.standing.each n st is

  lawful : AreLawful same standing.hash
  lawful = (at.together.makings.standing.fit map standing there).0

  left : LeavesBy w.memory m2 told
  left = operated_leaves w.memory m2 told made

  abbrev is_shown : RefinesMap map (shown.number map) standing m known
  is_shown = shown.maps map standing there

  -- a pair of a map can be looked at
  current_there : (n : ℕ) (st : Standing K) → s.maps n ≡ Some st → (k : ℕ) → st.chart.current k ≡ true → (k < st.chart.stored) × (st.blocks.pair_known k ≡ true)
  current_there n st is k current =
      let map_in = (together n st is).ground.map in current_is_known same st.hash st.setting w.memory st.chart st.blocks map_in.map.rule map_in.map.shows k current

  -- within its section
  module _ (inside : IsInside (w.uses (slot_of i))) where
    is_sight : IsVisibility standing.chart standing.blocks sight
    is_sight = ((together map standing there).ground.sight (slot_of i) inside).0

    is_map : IsMapIn same standing.hash setting w standing.chart (seen_by standing.blocks sight)
    is_map = map_seen same standing.hash setting w standing.chart standing.blocks sight
        (map_in_slot same standing.hash standing.setting w standing.chart standing.blocks (slot_of i) (together map standing there).ground.map) is_sight

    module _ (Told : World (Node K V) → Chart K → Blocks → Type 0) (had : StepSpec same standing.hash setting i w standing.chart (seen_by standing.blocks sight) m2 Told)
        (blocks2 : Blocks) (grown : IsGrown standing.chart standing.blocks had.blocks2 blocks2) (sights2 : ℕ → Visible) where
      abbrev went : StepSpec same standing.hash setting i w standing.chart (seen_by standing.blocks sight) m2 (λ w2 c2 blocks2. Unit {0})
      went = went_as same standing.hash setting i w standing.chart (seen_by standing.blocks sight) m2 Told (λ w2 c2 blocks2. Unit {0}) (λ w2 c2 blocks2 map moved alike told. tt) had

      abbrev DidIt : Type 0
      DidIt = DidMoved same (slot_of i) i map (Some caller) (shown.number map) standing lawful w sight is_sight is_map m2 (λ w2 c2 blocks2. Unit {0}) went blocks2 grown sights2 m known is_shown shown.blocks told left went.moved

      did : DidIt
      did = by made
        where
          did_by : (seen : Seen (Node K V)) → ((at : At) (x y : ℕ) → seen ≡ Wrote at x y → told ≡ changed.Wrote at x y) → ((at : At) (x y : ℕ) → told ≡ changed.Wrote at x y → seen ≡ Wrote at x y)
              → IsObserved standing.hash setting standing.chart (seen_by standing.blocks sight) went.c2 went.blocks2 same i went.moved seen → DidIt
          did_by = did_moved same (slot_of i) i map (Some caller) (shown.number map) standing lawful w sight is_sight is_map m2 (λ w2 c2 blocks2. Unit {0}) went blocks2 grown sights2 m known is_shown shown.blocks told left

          by : Operated w.memory m2 told → DidIt
          by (inl (still, nothing)) =
              did_by Unseen (λ at x y e. absurd (cc e)) (λ at x y e. absurd (cc (nothing, e)))
              (still_steps_tell V same standing.hash lawful.lawful lawful.fits setting i w standing.chart (seen_by standing.blocks sight) m2 is_map went still)
          by (inr op) =
              did_by (seen_of w.memory op.op op.out) (λ at x y e. op.is ∙ told_write at x y op.op op.out (seen_of w.memory op.op op.out) e)
              (λ at x y e. seen_write at x y op.op op.out (seen_of w.memory op.op op.out) (sym op.is ∙ e))
              (operations_tell V same standing.hash lawful.lawful lawful.fits setting i w standing.chart (seen_by standing.blocks sight) m2 is_map went op.op op.out op.can op.took)

      abbrev moved_on : Standing K
      moved_on = record standing { chart = had.c2; blocks = blocks2; sights = sights2 }

      leaves : Leaves same (slot_of i) i map (Some caller) (shown.number map) standing lawful w sight is_sight is_map m2 (λ w2 c2 blocks2. Unit {0}) went blocks2 grown sights2 m known is_shown shown.blocks told left effects known2
      leaves = moved_leaves same (slot_of i) i map (Some caller) (shown.number map) standing lawful w sight is_sight is_map m2 (λ w2 c2 blocks2. Unit {0}) went blocks2 grown sights2 m known is_shown shown.blocks told left did

      pub moved_blocks : RefinesUnreclaimed m known → RefinesUnreclaimed v known2
      moved_blocks h = moved_holds same (slot_of i) i map (Some caller) (shown.number map) standing lawful w sight is_sight is_map m2 (λ w2 c2 blocks2. Unit {0}) went blocks2 grown sights2 m known is_shown shown.blocks told left h did

      pub moved_finds_places : RefinesPlaces m known s.maps → RefinesUnreclaimed m known → FindPlaces map m effects
      moved_finds_places lying held = moved_finds same (slot_of i) i map (Some caller) (shown.number map) standing lawful w sight is_sight is_map m2 (λ w2 c2 blocks2. Unit {0}) went blocks2 grown sights2 m known is_shown shown.blocks
          (together map standing there).ground.moments (lying.each map standing there) held (current_there map standing there) told left did

      pub moved_outside : AtEachEffect FindsNumbers (Some caller) (Some map) effects m
      moved_outside = moved_numbers same (slot_of i) i map (Some caller) (shown.number map) standing lawful w sight is_sight is_map m2 (λ w2 c2 blocks2. Unit {0}) went blocks2 grown sights2 m known is_shown shown.blocks told left did

      -- which pairs come to the map, or leave it
      pub moved_shifts : Shifts standing.chart had.c2 (shown.number map) known.stored effects
      moved_shifts = shifted same (slot_of i) i map (Some caller) (shown.number map) standing lawful w sight is_sight is_map m2 (λ w2 c2 blocks2. Unit {0}) went blocks2 grown sights2 m known is_shown shown.blocks told left did

      -- it hands nothing over
      moved_hands : AllHandNothing effects
      moved_hands = moved_hand same (slot_of i) i map (Some caller) (shown.number map) standing lawful w sight is_sight is_map m2 (λ w2 c2 blocks2. Unit {0}) went blocks2 grown sights2 m known is_shown shown.blocks told left did

      -- where pairs lie
      module _ (lying : RefinesPlaces m known s.maps) where
        own : RefinesSpots moved_on v known2
        own = own_lies same (slot_of i) i map (Some caller) (shown.number map) standing lawful w sight is_sight is_map m2 (λ w2 c2 blocks2. Unit {0}) went blocks2 grown sights2 m known is_shown shown.blocks
            (together map standing there).ground.moments (lying.each map standing there) lying.fresh (current_there map standing there) told left did

        other : (n : ℕ) (st : Standing K) → s.maps n ≡ Some st → n ≢ map → RefinesSpots st v known2
        other n st is ne =
            other_lies map n (shown.number n) st m v known known2 ne (shown.maps n st is) leaves.keeps leaves.elsewhere
            (λ k current. in_one_map n map (m.place (shown.number n k)) ne ((shown.maps n st is).pairs.here k (current_there n st is k current).0 ∙ current)) (lying.each n st is)

        pub moved_places : (maps2 : ℕ → Option (Standing K)) → maps2 ≡ with_at s.maps map (Some moved_on) → RefinesPlaces v known2 maps2
        moved_places maps2 maps_are = record {
          each = λ n st is. elim (cases_eq n map) as (λ _. RefinesSpots st v known2) [
            | inl e ↦
                subst (λ (x : Standing K). RefinesSpots x v known2) (one_of moved_on st (sym (at_same s.maps map (Some moved_on) n e) ∙ ap (λ (f : ℕ → Option (Standing K)). f n) (sym maps_are) ∙ is)) own
            | inr ne ↦ other n st (sym (at_other s.maps map (Some moved_on) n ne) ∙ ap (λ (f : ℕ → Option (Standing K)). f n) (sym maps_are) ∙ is) ne
          ];
          fresh = λ k l. (let more = stored_grows (Some caller) (Some map) effects m in let before : length m.stored < k = omega (arith, more, l) in leaves.elsewhere.beyond k before ∙ lying.fresh k before);
        }

  -- A step of a row has moved none.
  pub row_places : (lying : RefinesPlaces m known s.maps) (w2 : World (Node K V)) → w2.memory ≡ m2 → IsOneStep standing.setting i w w2 → (maps2 : ℕ → Option (Standing K)) → ((n : ℕ) → IsSameMap (s.maps n) (maps2 n)) → RefinesPlaces v known2 maps2
  row_places lying w2 memory happened maps2 maps_same =
      let aside = row_aside i map m known w w2 shown.blocks (one_step_leaves standing.setting i w w2 (together map standing there).ground.came happened) told
      (subst (λ (n : Mem (Node K V)). LeavesBy w.memory n told) (sym memory) left) in
      places_stay (Some caller) (Some map) effects m known known2 s.maps maps2 aside.0 aside.1 maps_same lying

  pub row_finds_places : (w2 : World (Node K V)) → w2.memory ≡ m2 → IsOneStep standing.setting i w w2 → FindPlaces map m effects
  row_finds_places w2 memory happened =
      row_finds i map m known w w2 shown.blocks (one_step_leaves standing.setting i w w2 (together map standing there).ground.came happened) told
      (subst (λ (n : Mem (Node K V)). LeavesBy w.memory n told) (sym memory) left)

  pub row_outside : (w2 : World (Node K V)) → w2.memory ≡ m2 → IsOneStep standing.setting i w w2 → AtEachEffect FindsNumbers (Some caller) (Some map) effects m
  row_outside w2 memory happened =
      row_numbers i map (Some caller) m known w w2 shown.blocks (one_step_leaves standing.setting i w w2 (together map standing there).ground.came happened) told
      (subst (λ (n : Mem (Node K V)). LeavesBy w.memory n told) (sym memory) left)

  pub row_blocks : (w2 : World (Node K V)) → w2.memory ≡ m2 → IsOneStep standing.setting i w w2 → TakesNone told → RefinesUnreclaimed m known → RefinesUnreclaimed v known2
  row_blocks w2 memory happened none h =
      row_holds i map (Some caller) m known h w w2 shown.blocks (one_step_leaves standing.setting i w w2 (together map standing there).ground.came happened) told
      (subst (λ (n : Mem (Node K V)). LeavesBy w.memory n told) (sym memory) left) none

  -- A step that has left the memory as it was has moved nothing, within a section or outside of any.
  whole : IsMapIn same standing.hash setting w standing.chart standing.blocks
  whole = map_in_slot same standing.hash standing.setting w standing.chart standing.blocks (slot_of i) (together map standing there).ground.map

  module _ (still : m2 ≡ w.memory) where
    abbrev stayed : StepSpec same standing.hash setting i w standing.chart standing.blocks m2 (λ w2 c2 blocks2. Unit {0})
    stayed = went_nowhere same standing.hash setting i w standing.chart standing.blocks whole m2 still

    pub stayed_calm : IsCalm known effects known2
    stayed_calm = calm_done same standing.hash setting i w standing.chart standing.blocks m2 (λ w2 c2 blocks2. Unit {0}) stayed whole map m.stored known
        shown.blocks.roles shown.blocks.once is_shown.tables.roles told left (names_stay setting standing.chart standing.blocks w.memory m2 still told left)

    pub stayed_places : (lying : RefinesPlaces m known s.maps) (maps2 : ℕ → Option (Standing K)) → ((n : ℕ) → IsSameMap (s.maps n) (maps2 n)) → RefinesPlaces v known2 maps2
    stayed_places lying maps2 maps_same =
        places_stay (Some caller) (Some map) effects m known known2 s.maps maps2 (calm_aside effects stayed_calm.calm)
        (λ b k is. sym (stayed_calm.back b (subst IsOfMap (sym is) tt)) ∙ is) maps_same lying

    pub stayed_blocks : RefinesUnreclaimed m known → RefinesUnreclaimed v known2
    stayed_blocks h = calm_holds i map (Some caller) m known h effects known2 stayed_calm

-- A step of a call, whichever kind that is of: it has moved its map's tables, or was one of a row, or has left the memory as it was.
module _ {K V : Type 0} (same : K → K → Bool) (hash : ℕ → K → ℕ) (name : ℕ → List ℕ) (m : Moment K V) (known : Known) (s : Scene K V) (old new : Held K V) (at : IsAt same hash old s)
    (shown : Refines same name m known s) (map i : ℕ) (u : UnderWay K V K) (here : s.calls map i ≡ Some u) (told : Progress (Node K V)) (leads : StepLeads same hash i told s old new) where
  abbrev To : Type 0
  To =
      (standing : Standing K) × (machine : Machine K V K) × (s.maps map ≡ Some standing) × StepsFrom same standing.hash (machine_of u) old new machine told
      × (did : MachineStepsWithEndings V same same old.batch_size old.roots slot_of s.world s.maps s.calls s.makers s.enders map standing i new.memory u machine told)
      × IsAt same hash new (scene_after same s old new map i standing u machine told did)

  abbrev to : To
  to = leads map u here

  made : Operated s.world.memory new.memory new.changed
  made = subst (λ (x : Mem (Node K V)). Operated x new.memory new.changed) (sym at.memory)
      (operated old.memory new.memory new.changed (machine_plan same same to.0.hash (machine_of u)) (to.1, told) (may_step same hash old s at map to.0 to.2 i u here) to.3)

  abbrev DidSo : UnderWay K V K → Type 0
  DidSo x = Did same old.batch_size old.roots s.world s.maps s.calls s.makers s.enders map to.0 i new.memory to.4.w2 to.4.maps2 to.4.next x to.1 told

  abbrev NoRow : (x : UnderWay K V K) → DidSo x → Type 0
  NoRow x did = IsOfNoRow same old.batch_size old.roots s.world s.maps s.calls s.makers s.enders map to.0 i new.memory to.4.w2 to.4.maps2 to.4.next x to.1 told did

  -- the maps are those that they were, but for what may be looked at
  abbrev Stayed : Type 0
  Stayed = (n : ℕ) → IsSameMap (s.maps n) (to.4.maps2 n)

  module _ (Goal : Type 0)
      (moved : IsInside (s.world.uses (slot_of i)) → (Told : World (Node K V) → Chart K → Blocks → Type 0) (had : StepSpec same to.0.hash (in_slot to.0.setting (slot_of i)) i s.world to.0.chart (seen_by to.0.blocks (to.0.sights (slot_of i))) new.memory Told)
      (blocks2 : Blocks) (grown : IsGrown to.0.chart to.0.blocks had.blocks2 blocks2) (sights2 : ℕ → Visible)
      → to.4.maps2 ≡ with_at s.maps map (Some (record to.0 { chart = had.c2; blocks = blocks2; sights = sights2 })) → Goal)
      (row : (w2 : World (Node K V)) → w2.memory ≡ new.memory → IsOneStep to.0.setting i s.world w2 → Stayed → (NoRow u to.4.did → ⊥) → Goal)
      (still : new.memory ≡ s.world.memory → Stayed → Goal) where
    by_kind : Goal
    by_kind = by u to.4.did row
      where
        by : (x : UnderWay K V K) (did : DidSo x) → ((w2 : World (Node K V)) → w2.memory ≡ new.memory → IsOneStep to.0.setting i s.world w2 → Stayed → (NoRow x did → ⊥) → Goal) → Goal
        by (OnKey x) (p2, end, machine_is, told_is, inl (step, has)) row = moved step.step.inside _ step.step.went step.step.blocks2 step.step.grown step.step.sights2 has.1
        by (OnKey x) (p2, end, machine_is, told_is, inr (step, has)) row = row step.step.w2 step.step.memory step.step.happened has.1 (λ no. no)
        by (ForRoom x) (p2, end, machine_is, told_is, inl (step, has)) row = moved step.step.inside _ step.step.went step.step.blocks2 step.step.grown step.step.sights2 has.1
        by (ForRoom x) (p2, end, machine_is, told_is, inr (step, has)) row = row step.step.w2 step.step.memory step.step.happened has.1 (λ no. no)
        by (Counting x) (p2, end, machine_is, told_is, same_memory, has) row = still same_memory has.1
        by (OverAll x) (p2, end, machine_is, told_is, inl (step, has)) row = moved step.step.inside _ step.step.went step.step.blocks2 step.step.grown step.step.sights2 has.1
        by (OverAll x) (p2, end, machine_is, told_is, inr (step, has)) row = row step.step.w2 step.step.memory step.step.happened has.1 (λ no. no)

  -- what is none of a row hands nothing over
  pub hands_nothing : NoRow u to.4.did → AllHandNothing (effects_of (Call i map) known new.changed)
  hands_nothing own = by_kind _
      (λ inside Told had blocks2 grown sights2 are. moved_hands same hash m known s old new at name shown map i to.0 to.2 (name i) made inside Told had blocks2 grown sights2)
      (λ w2 memory happened stayed no. absurd (no own))
      (λ same_memory stayed. calm_hand (effects_of (Call i map) known new.changed) (stayed_calm same hash m known s old new at name shown map i to.0 to.2 (name i) made same_memory).calm)

  -- where pairs lie then
  keeps_places : RefinesPlaces m known s.maps → RefinesPlaces (with_effects (Some (name i)) (Some map) (effects_of (Call i map) known new.changed) m) (known_after (Call i map) new.changed known) to.4.maps2
  keeps_places lying = by_kind _
      (λ inside Told had blocks2 grown sights2 are. moved_places same hash m known s old new at name shown map i to.0 to.2 (name i) made inside Told had blocks2 grown sights2 lying to.4.maps2 are)
      (λ w2 memory happened stayed no. row_places same hash m known s old new at name shown map i to.0 to.2 (name i) made lying w2 memory happened to.4.maps2 stayed)
      (λ same_memory stayed. stayed_places same hash m known s old new at name shown map i to.0 to.2 (name i) made same_memory lying to.4.maps2 stayed)

  -- which blocks are unreclaimed
  keeps_blocks : ((NoRow u to.4.did → ⊥) → TakesNone new.changed) → RefinesUnreclaimed m known
      → RefinesUnreclaimed (with_effects (Some (name i)) (Some map) (effects_of (Call i map) known new.changed) m) (known_after (Call i map) new.changed known)
  keeps_blocks none held = by_kind _
      (λ inside Told had blocks2 grown sights2 are. moved_blocks same hash m known s old new at name shown map i to.0 to.2 (name i) made inside Told had blocks2 grown sights2 held)
      (λ w2 memory happened stayed no. row_blocks same hash m known s old new at name shown map i to.0 to.2 (name i) made w2 memory happened (none no) held)
      (λ same_memory stayed. stayed_blocks same hash m known s old new at name shown map i to.0 to.2 (name i) made same_memory held)

  -- what it finds of places
  finds_places : RefinesPlaces m known s.maps → RefinesUnreclaimed m known → FindPlaces map m (effects_of (Call i map) known new.changed)
  finds_places lying held = by_kind _
      (λ inside Told had blocks2 grown sights2 are. moved_finds_places same hash m known s old new at name shown map i to.0 to.2 (name i) made inside Told had blocks2 grown sights2 lying held)
      (λ w2 memory happened stayed no. row_finds_places same hash m known s old new at name shown map i to.0 to.2 (name i) made w2 memory happened)
      (λ same_memory stayed. calm_finds map m (effects_of (Call i map) known new.changed) (stayed_calm same hash m known s old new at name shown map i to.0 to.2 (name i) made same_memory).calm)

  -- and of numbers
  finds_numbers : AtEachEffect FindsNumbers (Some (name i)) (Some map) (effects_of (Call i map) known new.changed) m
  finds_numbers = by_kind _
      (λ inside Told had blocks2 grown sights2 are. moved_outside same hash m known s old new at name shown map i to.0 to.2 (name i) made inside Told had blocks2 grown sights2)
      (λ w2 memory happened stayed no. row_outside same hash m known s old new at name shown map i to.0 to.2 (name i) made w2 memory happened)
      (λ same_memory stayed. calm_numbers (Some (name i)) (Some map) (effects_of (Call i map) known new.changed) m (stayed_calm same hash m known s old new at name shown map i to.0 to.2 (name i) made same_memory).calm)

module _ (K V : Type 0) (same : K → K → Bool) (hash : ℕ → K → ℕ) where
  pub calls_keep_places : CallsPreservePlaces K V same hash
  calls_keep_places name m known s old new at shown lying map i u here told leads = keeps_places same hash name m known s old new at shown map i u here told leads lying

  pub calls_keep_blocks : CallsPreserveBlocks K V same hash
  calls_keep_blocks name m known s old new at shown held map i u here told leads none = keeps_blocks same hash name m known s old new at shown map i u here told leads none held

  pub calls_find_places : CallsFindPlaces K V same hash
  calls_find_places name m known s old new at shown lying held map i u here told leads = finds_places same hash name m known s old new at shown map i u here told leads lying held

  pub calls_leave_outside : CallsLeaveOutside K V same hash
  calls_leave_outside name m known s old new at shown outside map i u here told leads =
      effects_leave_outside K V (Some (name i)) (Some map) (effects_of (Call i map) known new.changed) m (finds_numbers same hash name m known s old new at shown map i u here told leads) outside
