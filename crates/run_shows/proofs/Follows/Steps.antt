-- A step of a call that is none of a row, of whichever kind the call is: the moment after its effects shows the scene after it.
use Rattle.std.specs.Prelude.{◌≡◌, ◌≢◌, ℕ, ◌<◌, Bool, List, Option, Some, None, length, ◌⊎◌}
use Rattle.std.proofs.Common.{refl, ap, sym, subst, ◌∙◌, arith, inl, inr}
use Rattle.std.proofs.lemmas.Bool.{cases_eq}
use Rattle.seize_words.specs.declared.at.At.{At}
use Rattle.seize_words.specs.OneMemory.Mem.{Mem, value_at}
use Rattle.seize.specs.World.{World, IsInside, with_at}
use Rattle.run_effects.specs.Given.TablesChunks.{is_incremental}
use Rattle.run_effects.specs.Given.TablesDeclared.node.Node.{Node}
use Rattle.run_effects.specs.Given.TablesDeclared.setting.Setting.{Setting}
use Rattle.run_effects.specs.Given.RawMachine.{machine_plan}
use Rattle.run_effects.specs.Given.RawDeclared.machines.machine.Machine.{Machine}
use Rattle.run_effects.specs.Given.RawDeclared.machines.progress.Progress.{Progress}
use Rattle.run_effects.specs.Given.RunsDeclared.effect.Effect.{Effect}
use Rattle.run_effects.specs.Given.RunsDeclared.effect.TableId.{TableId}
use Rattle.run_effects.specs.Given.SchedulesEffects.{AtEachEffect, with_effects}
use Rattle.run_effects.specs.Given.SchedulesMoment.{Moment}
use Rattle.run_effects.specs.Given.SchedulesViews.{map_at}
use Rattle.run_effects.specs.declared.changed.Changed.{Changed}
use Rattle.run_effects.specs.declared.changed.Changed.TheVariants as changed
use Rattle.run_effects.specs.Tells.Seen.{Seen, Unseen, Wrote, seen_of}
use Rattle.run_effects.specs.Tells.Tells.{IsObserved}
use Rattle.run_effects.proofs.Tells.Promised.{operations_tell, still_steps_tell}
use Rattle.run_effects.specs.Given.RuleChart.{Chart}
use Rattle.many_maps.specs.Given.RuleLasts.{Lasts}
use Rattle.run_effects.specs.Given.RuleMaps.{spot_of}
use Rattle.run_effects.specs.Given.RuleWords.{Blocks}
use Rattle.run_effects.specs.Given.RuleInWorld.{IsIts, IsMapIn, StepSpec}
use Rattle.run_effects.proofs.Given.RuleWorld.BesideKept.{steps_spare_others}
use Rattle.run_effects.proofs.Given.RuleWorld.WentTold.{went_as}
use Rattle.many_maps.specs.Given.PointsSteps.{AreLawful}
use Rattle.many_maps.proofs.Given.PointsMovedLasts.{moved_lasts}
use Rattle.many_maps.specs.Given.CallersSights.{Visible, seen_by, IsGrown, IsVisibility}
use Rattle.many_maps.specs.Given.CallersTogether.{UnderWay, UnlessCounts, OnKey, ForRoom, Counting, OverAll, in_slot, Together}
use Rattle.many_maps.proofs.Given.CallersSights.Seen.{map_seen}
use Rattle.many_maps.proofs.Given.CallersTogether.At.{at_other, at_same}
use Rattle.many_maps.proofs.Given.CallersTogether.Fits.{map_in_slot}
use Rattle.many_maps.specs.Machines.{machine_of, MachineStepsWithEndings}
use Rattle.many_maps.specs.Maps.{Standing, IsSameMap, with_call}
use Rattle.run_effects.specs.Effects.Effects.{effects_of, known_after}
use Rattle.run_effects.specs.Effects.Known.{Known}
use Rattle.run_effects.specs.declared.acting.Acting.{Acting}
use Rattle.run_effects.specs.declared.acting.Acting.TheVariants.{Call}
use Rattle.run_effects.specs.declared.role.Role.{Role}
use Rattle.run_effects.specs.declared.role.Role.TheVariants as role
use Rattle.run_shows.specs.Follows.Blocks.{HasRole, RefinesBlocks}
use Rattle.run_shows.specs.Follows.Calls.{RefinesCalls}
use Rattle.run_shows.specs.Follows.Finds.{FindsMap}
use Rattle.run_shows.specs.Follows.Maps.{RefinesMap}
use Rattle.run_shows.specs.Follows.Shows.{Refines}
use Rattle.run_shows.specs.Follows.Steps.{named_now, StoreTheirs, Did, IsOfNoRow}
use Rattle.run_shows.proofs.Follows.Alike.{AreSame, AlikePairs, alike_same, still_all}
use Rattle.run_shows.proofs.Follows.Called.{called_on}
use Rattle.run_shows.proofs.Follows.Calls.{calls_on}
use Rattle.run_shows.proofs.Follows.Finds.{still_find}
use Rattle.run_shows.proofs.Follows.Gives.{Gives, stores_none}
use Rattle.run_shows.proofs.Follows.Going.{StoodOn, ComesToBe, ShowsOn}
use Rattle.run_shows.proofs.Follows.Leads.{IsNew, LeadsOn}
use Rattle.run_shows.proofs.Follows.Moved.{by_moved}
use Rattle.run_shows.proofs.Follows.Nowhere.{names_stay, went_nowhere}
use Rattle.run_shows.proofs.Follows.Onward.{IsOfMap, tables_same, pairs_same, blocks_same, blocks_part, map_on}
use Rattle.run_shows.proofs.Follows.Operations.{LeavesBy, Operated, operated, operated_leaves, seen_write, told_write}
use Rattle.run_shows.proofs.Follows.Told.{IsQuiet, quiet_told}
use Rattle.run_shows.proofs.Scenes.May.{may_step}
use Rattle.run_shows.specs.Scenes.Held.{Held, IsAt}
use Rattle.run_shows.specs.Scenes.Scene.{Scene, slot_of}
use Rattle.run_shows.specs.Scenes.Stepping.{StepLeads, StepsFrom, scene_after}
use Rattle.seize_words.proofs.General.{same_some as one_of}

-- a map of which fewer blocks may be looked at stands on as it was
pub same_stood : {K : Type 0} (o o2 : Option (Standing K)) (st : Standing K) → o ≡ Some st → IsSameMap o o2 → (after : Standing K) × (o2 ≡ Some after) × StoodOn st after
same_stood None o2 st is same = absurd (cc is)
same_stood (Some before) o2 st is (blocks, sights, here, part) = (
  record before { blocks = blocks; sights = sights },
  here,
  subst (λ (x : Standing _). StoodOn x (record before { blocks = blocks; sights = sights })) (one_of before st is)
      (record { setting = refl; stored = omega arith; past = omega arith; first = omega arith; tables = λ t l. part.tables t }),
)

pub same_gone : {K : Type 0} (o o2 : Option (Standing K)) → o ≡ None → IsSameMap o o2 → o2 ≡ None
same_gone None o2 is same = same
same_gone (Some before) o2 is same = absurd (cc is)

module _ {K V : Type 0} (same : K → K → Bool) (hash : ℕ → K → ℕ) (m : Moment K V) (known : Known) (s : Scene K V) (old new : Held K V) (at : IsAt same hash old s)
    (name : ℕ → List ℕ) (shown : Refines same name m known s)
    (map i : ℕ) (standing : Standing K) (there : s.maps map ≡ Some standing) (caller : List ℕ)
    (made : Operated s.world.memory new.memory new.changed) where
  abbrev m2 : Mem (Node K V)
  m2 = new.memory

  abbrev told : Changed
  told = new.changed

  abbrev w : World (Node K V)
  w = s.world

  abbrev its : Acting
  its = Call i map

  abbrev effects : List Effect
  effects = effects_of its known told

  abbrev after : Known
  after = known_after its told known

  abbrev v : Moment K V
  v = with_effects (Some caller) (Some map) effects m

  abbrev setting : Setting
  setting = in_slot standing.setting (slot_of i)

  abbrev sight : Visible
  sight = standing.sights (slot_of i)

  each : Together V same standing.hash same standing.setting slot_of w standing.chart standing.blocks standing.sights (s.calls map)
  each = at.together.makings.standing.each map standing there

  lawful : AreLawful same standing.hash
  lawful = (at.together.makings.standing.fit map standing there).0

  left : LeavesBy w.memory m2 told
  left = operated_leaves w.memory m2 told made

  abbrev is_shown : RefinesMap map (shown.number map) standing m known
  is_shown = shown.maps map standing there

  -- within its section
  module _ (inside : IsInside (w.uses (slot_of i))) where
    pub is_sight : IsVisibility standing.chart standing.blocks sight
    is_sight = (each.ground.sight (slot_of i) inside).0

    is_map : IsMapIn same standing.hash setting w standing.chart (seen_by standing.blocks sight)
    is_map = map_seen same standing.hash setting w standing.chart standing.blocks sight (map_in_slot same standing.hash standing.setting w standing.chart standing.blocks (slot_of i) each.ground.map) is_sight

    module _ (Told : World (Node K V) → Chart K → Blocks → Type 0) (had : StepSpec same standing.hash setting i w standing.chart (seen_by standing.blocks sight) m2 Told)
        (blocks2 : Blocks) (grown : IsGrown standing.chart standing.blocks had.blocks2 blocks2) (sights2 : ℕ → Visible) where
      abbrev went : StepSpec same standing.hash setting i w standing.chart (seen_by standing.blocks sight) m2 (λ w2 c2 blocks2. Unit {0})
      went = went_as same standing.hash setting i w standing.chart (seen_by standing.blocks sight) m2 Told (λ w2 c2 blocks2. Unit {0}) (λ w2 c2 blocks2 map moved alike told. tt) had

      abbrev LeadThere : Type 0
      LeadThere = LeadsOn same (slot_of i) i map (Some caller) (shown.number map) standing lawful w sight is_sight is_map m2 (λ w2 c2 blocks2. Unit {0}) went blocks2 grown sights2 m known is_shown shown.blocks effects after

      -- what it has to store, by what it has changed
      abbrev pub GivesIts : Type 0
      GivesIts = Gives map (Some caller) (shown.number map) standing.chart had.c2 (had.blocks2.pair standing.chart.stored) m w.memory m2

      abbrev Lead : Type 0
      Lead = (GivesIts → StoreTheirs w.memory told caller map effects m) × (StoreTheirs w.memory told caller map effects m → LeadThere)

      leads : Lead
      leads = by made
        where
          leads_by : (seen : Seen (Node K V)) → ((at : At) (x y : ℕ) → seen ≡ Wrote at x y → told ≡ changed.Wrote at x y) → ((at : At) (x y : ℕ) → told ≡ changed.Wrote at x y → seen ≡ Wrote at x y)
              → IsObserved standing.hash setting standing.chart (seen_by standing.blocks sight) went.c2 went.blocks2 same i went.moved seen → Lead
          leads_by = by_moved same (slot_of i) i map (Some caller) (shown.number map) standing lawful w sight is_sight is_map m2 (λ w2 c2 blocks2. Unit {0}) went blocks2 grown sights2 m known is_shown shown.blocks told left

          by : Operated w.memory m2 told → Lead
          by (inl (still, nothing)) =
              leads_by Unseen (λ at x y e. absurd (cc e)) (λ at x y e. absurd (cc (nothing, e)))
              (still_steps_tell V same standing.hash lawful.lawful lawful.fits setting i w standing.chart (seen_by standing.blocks sight) m2 is_map went still)
          by (inr op) =
              leads_by (seen_of w.memory op.op op.out) (λ at x y e. op.is ∙ told_write at x y op.op op.out (seen_of w.memory op.op op.out) e)
              (λ at x y e. seen_write at x y op.op op.out (seen_of w.memory op.op op.out) (sym op.is ∙ e))
              (operations_tell V same standing.hash lawful.lawful lawful.fits setting i w standing.chart (seen_by standing.blocks sight) m2 is_map went op.op op.out op.can op.took)

      -- so it stores what it has to
      pub stores_its : GivesIts → StoreTheirs w.memory told caller map effects m
      stores_its = leads.0

      -- what is neither the caller's own nor of its map is in the hands that had it
      pub spares_beside : (b : ℕ) (value : Node K V) → value_at w.memory b ≡ Some value → (IsIts i w standing.chart (seen_by standing.blocks sight) b → ⊥) → had.w2.hand b ≡ w.hand b
      spares_beside b value is other = (steps_spare_others V same standing.hash setting i w standing.chart (seen_by standing.blocks sight) m2 went b value is other).hand

      lasts : Lasts same (spot_of standing.hash) (is_incremental setting.mode) standing.chart had.c2
      lasts = moved_lasts same standing.hash setting lawful.lawful w standing.chart had.c2 (seen_by standing.blocks sight) is_map had.moved

      -- the tables of its map have moved on
      module _ (stores : StoreTheirs w.memory told caller map effects m) (w2 : World (Node K V)) (maps2 : ℕ → Option (Standing K)) (w_is : w2 ≡ had.w2)
          (maps_are : maps2 ≡ with_at s.maps map (Some (record standing { chart = had.c2; blocks = blocks2; sights = sights2 }))) where
        lead : LeadThere
        lead = leads.1 stores

        abbrev moved_on : Standing K
        moved_on = record standing { chart = had.c2; blocks = blocks2; sights = sights2 }

        map_is : maps2 map ≡ Some moved_on
        map_is = ap (λ (f : ℕ → Option (Standing K)). f map) maps_are ∙ at_same s.maps map (Some moved_on) map refl

        other_is : (n : ℕ) → n ≢ map → maps2 n ≡ s.maps n
        other_is n ne = ap (λ (f : ℕ → Option (Standing K)). f n) maps_are ∙ at_other s.maps map (Some moved_on) n ne

        map_then : (n : ℕ) (st : Standing K) → maps2 n ≡ Some st → RefinesMap n (with_at shown.number map lead.number_then n) st v after
        map_then n st is = elim (cases_eq n map) as (λ _. RefinesMap n (with_at shown.number map lead.number_then n) st v after) [
          | inl e ↦
              let its_standing : moved_on ≡ st = one_of moved_on st (sym (at_same s.maps map (Some moved_on) n e) ∙ ap (λ (f : ℕ → Option (Standing K)). f n) (sym maps_are) ∙ is) in
              subst (λ (f : ℕ → ℕ). RefinesMap n f st v after) (sym (at_same shown.number map lead.number_then n e))
              (subst (λ (x : ℕ). RefinesMap x lead.number_then st v after) (sym e) (subst (λ (x : Standing K). RefinesMap map lead.number_then x v after) its_standing lead.own))
          | inr ne ↦
              let was : s.maps n ≡ Some st = sym (at_other s.maps map (Some moved_on) n ne) ∙ ap (λ (f : ℕ → Option (Standing K)). f n) (sym maps_are) ∙ is in
              subst (λ (f : ℕ → ℕ). RefinesMap n f st v after) (sym (at_other shown.number map lead.number_then n ne))
              (map_on n (shown.number n) st st m v known after (blocks_same st.chart st.blocks) lead.keeps refl (tables_same st.chart) (pairs_same st.chart) (lead.others n ne) (shown.maps n st was))
        ]

        module _ (rest : Scene K V) (calls : RefinesCalls same name v rest.calls) where
          abbrev led : Scene K V
          led = record rest { world = w2; maps = maps2 }

          numbers_then : (n : ℕ) (st : Standing K) → s.maps n ≡ Some st → (o : ℕ) → o < st.chart.stored → with_at shown.number map lead.number_then n o ≡ shown.number n o
          numbers_then n st is o l = elim (cases_eq n map) as (λ _. with_at shown.number map lead.number_then n o ≡ shown.number n o) [
            | inl e ↦
                let its_standing : standing ≡ st = one_of standing st (sym there ∙ ap s.maps (sym e) ∙ is) in
                ap (λ (f : ℕ → ℕ). f o) (at_same shown.number map lead.number_then n e)
                ∙ lead.numbers o (subst (λ (x : Standing K). o < x.chart.stored) (sym its_standing) l) ∙ ap (λ (x : ℕ). shown.number x o) (sym e)
            | inr ne ↦ ap (λ (f : ℕ → ℕ). f o) (at_other shown.number map lead.number_then n ne)
          ]

          stood_then : (n : ℕ) (st : Standing K) → s.maps n ≡ Some st → (after : Standing K) × (maps2 n ≡ Some after) × StoodOn st after
          stood_then n st is = elim (cases_eq n map) as (λ _. (after : Standing K) × (maps2 n ≡ Some after) × StoodOn st after) [
            | inl e ↦
                let its_standing : standing ≡ st = one_of standing st (sym there ∙ ap s.maps (sym e) ∙ is) in (
                  moved_on,
                  ap maps2 e ∙ map_is,
                  subst (λ (x : Standing K). StoodOn x moved_on) its_standing
                      (record { setting = refl; stored = lasts.stored; past = lasts.past; first = lasts.first; tables = λ t l. (grown.tables t l).0 }),
                )
            | inr ne ↦ (st, other_is n ne ∙ is, record { setting = refl; stored = omega arith; past = omega arith; first = omega arith; tables = λ t l. refl })
          ]

          becomes : (b : ℕ) (r : Role) → IsNew map standing.chart had.c2 had.blocks2 known b r → ComesToBe known s led b r
          becomes b role.Free new = absurd new
          becomes b (role.OwnPair j) new = absurd new
          becomes b (role.OwnTable turn shape) new = absurd new
          becomes b (role.Pair n) new = new
          becomes b (role.Table t len) new = (
            standing,
            moved_on,
            ap (λ (x : TableId). s.maps x.map) new.0 ∙ there,
            ap (λ (x : TableId). maps2 x.map) new.0 ∙ map_is,
            ap (λ (x : TableId). x.turn) new.0,
            new.2,
            new.1 ∙ sym (grown.new_tables standing.chart.past (omega arith)).0,
          )
          becomes b (role.Counter of) new = absurd new

          back_then : (b : ℕ) → IsOfMap (after.roles b) → (known.roles b ≡ after.roles b) ⊎ ComesToBe known s led b (after.roles b)
          back_then b of = by (lead.back b of)
            where
              by : (known.roles b ≡ after.roles b) ⊎ IsNew map standing.chart had.c2 had.blocks2 known b (after.roles b) → (known.roles b ≡ after.roles b) ⊎ ComesToBe known s led b (after.roles b)
              by (inl was) = inl was
              by (inr new) = inr (becomes b (after.roles b) new)

          none_then : (n : ℕ) → s.maps n ≡ None → (maps2 n ≡ None) × AlikePairs n m v × (map_at n v ≡ map_at n m)
          none_then n gone = elim (cases_eq n map) as (λ _. (maps2 n ≡ None) × AlikePairs n m v × (map_at n v ≡ map_at n m)) [
            | inl e ↦ absurd (let is = ap s.maps (sym e) ∙ gone in cc (is, there))
            | inr ne ↦ (other_is n ne ∙ gone, (lead.others n ne).pairs, (lead.others n ne).tables.there)
          ]

          pub moved_shown : AtEachEffect (FindsMap map) (Some caller) (Some map) effects m × ShowsOn same name m known s shown v after led
          moved_shown = (
            lead.finds,
            record {
              shows = record {
                blocks = subst (λ (x : World (Node K V)). RefinesBlocks v after x) (sym w_is) lead.blocks;
                number = with_at shown.number map lead.number_then;
                maps = map_then;
                calls = calls;
              };
              numbers = numbers_then;
              keeps = lead.keeps;
              back = back_then;
              stood = stood_then;
              none = none_then;
            },
          )

  -- A step that has left the memory as it was has moved nothing, within a section or outside of any.
  whole : IsMapIn same standing.hash setting w standing.chart standing.blocks
  whole = map_in_slot same standing.hash standing.setting w standing.chart standing.blocks (slot_of i) each.ground.map

  module _ (still : m2 ≡ w.memory) where
    abbrev stayed : StepSpec same standing.hash setting i w standing.chart standing.blocks m2 (λ w2 c2 blocks2. Unit {0})
    stayed = went_nowhere same standing.hash setting i w standing.chart standing.blocks whole m2 still

    quiet : IsQuiet same standing.hash setting i w standing.chart standing.blocks m2 (λ w2 c2 blocks2. Unit {0}) stayed whole map m.stored known
        shown.blocks.roles shown.blocks.once is_shown.tables.roles effects after
    quiet = quiet_told same standing.hash setting i w standing.chart standing.blocks m2 (λ w2 c2 blocks2. Unit {0}) stayed whole map m.stored known
        shown.blocks.roles shown.blocks.once is_shown.tables.roles told left (names_stay setting standing.chart standing.blocks w.memory m2 still told left)

    -- it stores no pair
    pub stayed_stores : StoreTheirs w.memory told caller map effects m
    stayed_stores = stores_none w.memory (named_now told) (Some caller) (Some map) effects m quiet.still

    module _ (w2 : World (Node K V)) (maps2 : ℕ → Option (Standing K)) (w_is : w2 ≡ w) (maps_same : (n : ℕ) → IsSameMap (s.maps n) (maps2 n)) where
      same_map : (n : ℕ) (o : Option (Standing K)) → s.maps n ≡ o → IsSameMap o (maps2 n) → (st : Standing K) → maps2 n ≡ Some st → RefinesMap n (shown.number n) st v after
      same_map n None e none st is = absurd (cc (none, is))
      same_map n (Some before) e (blocks, sights, here, part) st is =
          let alike = alike_same n m v (still_all (Some caller) map effects m quiet.still) in
          let now = record before { blocks = blocks; sights = sights } in
          subst (λ (x : Standing K). RefinesMap n (shown.number n) x v after) (one_of now st (sym here ∙ is))
          (map_on n (shown.number n) before now m v known after (blocks_part before.chart before.blocks blocks part) quiet.keeps refl (tables_same before.chart) (pairs_same before.chart) alike (shown.maps n before e))

      module _ (rest : Scene K V) (calls : RefinesCalls same name v rest.calls) where
        same_so : AreSame m v
        same_so = still_all (Some caller) map effects m quiet.still

        as_many : length v.stored ≡ length m.stored
        as_many = ap length same_so.stored

        pub stayed_shown : AtEachEffect (FindsMap map) (Some caller) (Some map) effects m × ShowsOn same name m known s shown v after (record rest { world = w2; maps = maps2 })
        stayed_shown = (
          still_find map (Some caller) effects m quiet.still,
          record {
            shows = record {
              blocks = subst (λ (x : World (Node K V)). RefinesBlocks v after x) (sym w_is) (record {
                roles = λ b. subst (λ (xs : List (K × V)). HasRole w xs b (after.roles b)) (sym same_so.stored) (quiet.roles b);
                once = quiet.once;
                stored = quiet.stored ∙ shown.blocks.stored ∙ sym as_many;
              });
              number = shown.number;
              maps = λ n st is. same_map n (s.maps n) refl (maps_same n) st is;
              calls = calls;
            };
            numbers = λ n st is o l. refl;
            keeps = quiet.keeps;
            back = λ b of. inl (quiet.back b of);
            stood = λ n st is. same_stood (s.maps n) (maps2 n) st is (maps_same n);
            none = λ n gone. (same_gone (s.maps n) (maps2 n) gone (maps_same n), (alike_same n m v same_so).pairs, (alike_same n m v same_so).tables.there);
          },
        )

-- The step of a call that has led somewhere: it may be taken, and was one of its machine.
module _ {K V : Type 0} (same : K → K → Bool) (hash : ℕ → K → ℕ) (name : ℕ → List ℕ) (m : Moment K V) (known : Known) (s : Scene K V) (old new : Held K V) (at : IsAt same hash old s)
    (shown : Refines same name m known s) (map i : ℕ) (u : UnderWay K V K) (here : s.calls map i ≡ Some u) (told : Progress (Node K V)) (leads : StepLeads same hash i told s old new) where
  abbrev pub WentTo : Type 0
  WentTo =
      (standing : Standing K) × (machine : Machine K V K) × (s.maps map ≡ Some standing) × StepsFrom same standing.hash (machine_of u) old new machine told
      × (did : MachineStepsWithEndings V same same old.batch_size old.roots slot_of s.world s.maps s.calls s.makers s.enders map standing i new.memory u machine told)
      × IsAt same hash new (scene_after same s old new map i standing u machine told did)

  abbrev pub went_to : WentTo
  went_to = leads map u here

  pub made_so : Operated s.world.memory new.memory new.changed
  made_so = subst (λ (x : Mem (Node K V)). Operated x new.memory new.changed) (sym at.memory)
      (operated old.memory new.memory new.changed (machine_plan same same went_to.0.hash (machine_of u)) (went_to.1, told) (may_step same hash old s at map went_to.0 went_to.2 i u here) went_to.3)

  -- the calls that are under way are there then
  pub calls_then : RefinesCalls same name (with_effects (Some (name i)) (Some map) (effects_of (Call i map) known new.changed) m) (with_call s.calls map i went_to.4.next)
  calls_then = calls_on same name (name i) map (effects_of (Call i map) known new.changed) m s.calls map i u here went_to.4.next
      (called_on same old.batch_size old.roots s.world s.maps s.calls s.makers s.enders map went_to.0 i new.memory went_to.4.w2 went_to.4.maps2 went_to.4.next u went_to.1 told went_to.4.did) shown.calls

  pub is_inside : UnlessCounts u (IsInside (s.world.uses (slot_of i)))
  is_inside = (at.together.makings.standing.each map went_to.0 went_to.2).inside i u here

  -- what such a step has led to
  abbrev pub LeadsThere : Type 0
  LeadsThere =
      ShowsOn same name m known s shown (with_effects (Some (name i)) (Some map) (effects_of (Call i map) known new.changed) m) (known_after (Call i map) new.changed known)
      (scene_after same s old new map i went_to.0 u went_to.1 told went_to.4)

  abbrev pub DidSo : UnderWay K V K → Type 0
  DidSo x = Did same old.batch_size old.roots s.world s.maps s.calls s.makers s.enders map went_to.0 i new.memory went_to.4.w2 went_to.4.maps2 went_to.4.next x went_to.1 told

  abbrev pub OfNoRow : (x : UnderWay K V K) → DidSo x → Type 0
  OfNoRow x did = IsOfNoRow same old.batch_size old.roots s.world s.maps s.calls s.makers s.enders map went_to.0 i new.memory went_to.4.w2 went_to.4.maps2 went_to.4.next x went_to.1 told did

  -- The moment after its effects shows the scene after it, where it stores what it has to.
  pub step_shown : OfNoRow u went_to.4.did → StoreTheirs s.world.memory new.changed (name i) map (effects_of (Call i map) known new.changed) m
      → AtEachEffect (FindsMap map) (Some (name i)) (Some map) (effects_of (Call i map) known new.changed) m × LeadsThere
  step_shown own stores = by u went_to.4.did own
    where
      by : (x : UnderWay K V K) → (did : DidSo x) → OfNoRow x did → AtEachEffect (FindsMap map) (Some (name i)) (Some map) (effects_of (Call i map) known new.changed) m × LeadsThere
      by (OnKey x) (p2, end, machine_is, told_is, inl (step, moved)) own =
          moved_shown same hash m known s old new at name shown map i went_to.0 went_to.2 (name i) made_so step.step.inside _ step.step.went step.step.blocks2 step.step.grown step.step.sights2 stores went_to.4.w2 went_to.4.maps2 moved.0 moved.1
          (scene_after same s old new map i went_to.0 u went_to.1 told went_to.4) calls_then
      by (OnKey x) (p2, end, machine_is, told_is, inr row) own = absurd own
      by (ForRoom x) (p2, end, machine_is, told_is, inl (step, moved)) own =
          moved_shown same hash m known s old new at name shown map i went_to.0 went_to.2 (name i) made_so step.step.inside _ step.step.went step.step.blocks2 step.step.grown step.step.sights2 stores went_to.4.w2 went_to.4.maps2 moved.0 moved.1
          (scene_after same s old new map i went_to.0 u went_to.1 told went_to.4) calls_then
      by (ForRoom x) (p2, end, machine_is, told_is, inr row) own = absurd own
      by (Counting x) (p2, end, machine_is, told_is, still, stayed) own =
          stayed_shown same hash m known s old new at name shown map i went_to.0 went_to.2 (name i) made_so still went_to.4.w2 went_to.4.maps2 stayed.0 stayed.1
          (scene_after same s old new map i went_to.0 u went_to.1 told went_to.4) calls_then
      by (OverAll x) (p2, end, machine_is, told_is, inl (step, moved)) own =
          moved_shown same hash m known s old new at name shown map i went_to.0 went_to.2 (name i) made_so step.step.inside _ step.step.went step.step.blocks2 step.step.grown step.step.sights2 stores went_to.4.w2 went_to.4.maps2 moved.0 moved.1
          (scene_after same s old new map i went_to.0 u went_to.1 told went_to.4) calls_then
      by (OverAll x) (p2, end, machine_is, told_is, inr row) own = absurd own
