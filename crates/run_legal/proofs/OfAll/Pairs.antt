-- Each pair that reclaiming all reclaims was handed over, or left over: nothing else is in a block that was retired, or that is behind a root.
use Rattle.std.specs.Prelude.{◌≡◌, ◌⊎◌, ◌<◌, ◌+◌, ◌==◌, ℕ, Bool, true, false, List, [], ◌∷◌, map, Some, None, if◌then◌else◌}
use Rattle.std.proofs.Common.{refl, ap, sym, subst, ◌∙◌, arith, inl, inr, eqb-true}
use Rattle.run_grows.specs.Given.SeizeLaw.{is_retired}
use Rattle.run_grows.specs.Given.SeizeWorld.{World, Handed as WithCollector, times}
use Rattle.run_grows.specs.Given.SeizeDeclared.rows.reclaim_all.ReclaimAll.{ReclaimAll}
use Rattle.run_grows.specs.Given.SeizeDeclared.rows.settle.Settled.{Settled}
use Rattle.run_grows.specs.Given.SeizeSetsReclaims.{is_on_slots}
use Rattle.run_grows.specs.Given.TablesNodes.{deferred_word}
use Rattle.run_grows.specs.Given.TablesDeclared.node.Node.{Node}
use Rattle.run_grows.specs.Given.RunsDeclared.effect.Effect.{Effect}
use Rattle.run_grows.specs.Given.RunsDeclared.effect.Effect.TheVariants.{Reclaimed}
use Rattle.run_grows.specs.Given.RunsDeclared.effect.TableId.{TableId}
use Rattle.run_grows.specs.Given.RunsDeclared.effect.Thing.{Thing}
use Rattle.run_grows.specs.Given.SchedulesAfter.{moment}
use Rattle.run_grows.specs.Given.SchedulesEffects.{with_effects, AtEachEffect}
use Rattle.run_grows.specs.Given.SchedulesEntry.{Entry}
use Rattle.run_grows.specs.Given.SchedulesLists.{is_among}
use Rattle.run_grows.specs.Given.SchedulesLives.{MayReclaim}
use Rattle.run_grows.specs.Given.SchedulesMoment.{Behind, Deferral, GivenBack, Handed, InMap, Left, Moment, Out, Place, Unborn}
use Rattle.run_grows.specs.Given.SchedulesViews.{behind as behind_table, is_in_a_map}
use Rattle.run_grows.specs.Given.EffectsDeclared.changed.Changed.{Changed}
use Rattle.run_grows.specs.Given.EffectsDeclared.changed.Changed.TheVariants as changed
use Rattle.run_grows.specs.Given.EffectsEffects.{effects_of, known_after}
use Rattle.run_grows.specs.Given.EffectsKnown.{Known}
use Rattle.run_grows.specs.Given.EffectsDeclared.acting.Acting.TheVariants.{Row}
use Rattle.run_grows.specs.Given.EffectsDeclared.role.Role.{Role}
use Rattle.run_grows.specs.Given.EffectsDeclared.role.Role.TheVariants as role
use Rattle.run_grows.specs.Given.FollowsBlocks.{HasRole}
use Rattle.run_grows.specs.Given.HandsHands.{IsInUse}
use Rattle.run_grows.proofs.Given.FinishesEnds.CountedBlocks.{times_here}
use Rattle.run_grows.proofs.Given.FollowsAlike.{put_here}
use Rattle.run_grows.proofs.Given.FollowsOperations.{LeavesBy}
use Rattle.run_grows.specs.Given.MomentsWhole.{RefinesWhole}
use Rattle.run_grows.specs.Given.SpotsUnreclaimed.{is_unreclaimed}
use Rattle.run_grows.specs.Given.SeizeReclaimsRoots.{all_lists}
use Rattle.run_grows.specs.Given.ScenesReclaiming.{IsReclaiming, ReclaimingLeads}
use Rattle.run_grows.specs.Given.LivesBehind.{EachWaits, IsLeft, IsDeferredTo}
use Rattle.run_grows.specs.Given.LivesWaiting.{waits_behind}
use Rattle.run_grows.proofs.Given.LivesEach.{found}
use Rattle.run_grows.proofs.Given.LivesWorlds.{Kept, runs_kept, start_kept, unretired}
use Rattle.run_grows.proofs.Given.ShedsReclaiming.Steps.{left as leaves_there}
use Rattle.run_grows.specs.Given.KeptKept.{RefinesKept}
use Rattle.run_grows.specs.Given.ModelsNumbers.{things_of}
use Rattle.run_grows.specs.Given.FindsWaiting.{FindsPlaced, PairsArePlaced, is_behind_one, is_let_go, is_out, once_if, owed_by, put_in}
use Rattle.run_grows.proofs.Given.FindsPlaced.{effects_keep_placed}
use Rattle.run_legal.specs.AllEvents.{AllCome, AllFindPairs, AllSteps, BehindRootsAreLeft, FindsPair, InAllEvent, all_begun}
use Rattle.run_legal.proofs.Chains.{chains_keep}
use Rattle.run_legal.proofs.OfAll.Roots.{handed, slots_leave_roots}
use Rattle.run_legal.proofs.OfAll.Steps.{all_events_begin, all_goes_on}
use Rattle.run_legal.proofs.OfAll.Tells.{gone_by, it_reclaims, none_gone, noted_or_free}
use Rattle.run_legal.proofs.OfAll.Turns.{HasTurned, TakesFromRoots, TakesFromSlots, has_turned}
use Rattle.run_legal.proofs.Slots.{each_join}
use Rattle.run_grows.specs.Given.ScenesHeld.{Held}
use Rattle.run_grows.specs.Given.ScenesScene.{Scene}

-- a pair that is put behind tables waits behind one of them
waits_of : (P : ℕ → TableId → Type 0) (k : ℕ) (deferred : List Deferral) → 0 < put_in k deferred → EachWaits P deferred → (t : TableId) × P k t
waits_of P k [] l each = absurd (let none : 0 < 0 = l in omega (arith, none))
waits_of P k (d ∷ ds) l each = by (k == d.pair) refl (λ less. waits_of P k ds less each.1)
  where
    by : (q : Bool) → (k == d.pair) ≡ q → (0 < put_in k ds → (t : TableId) × P k t) → (t : TableId) × P k t
    by true e later = (d.behind, subst (λ (x : ℕ). P x d.behind) (sym (eqb-true k d.pair e)) each.0)
    by false e later = later (let more : 0 < 0 + put_in k ds = subst (λ (q : Bool). 0 < once_if q + put_in k ds) e l in omega (arith, more))

-- what may be reclaimed was let go
let_go : (p : Place) → MayReclaim true p → is_let_go p ≡ true
let_go Handed may = refl
let_go Left may = refl
let_go _ may = absurd may

module _ {K V : Type 0} (v : Moment K V) where
  -- So it is of the one effect by which what was in a block is reclaimed.
  abbrev EachFinds : Role → Type 0
  EachFinds r = AtEachEffect FindsPair None None (map Reclaimed (things_of r)) v

  each_placed : (r : Role) → EachFinds r → AtEachEffect (FindsPlaced None) None None (map Reclaimed (things_of r)) v
  each_placed role.Free finds = tt
  each_placed (role.OwnPair j) finds = tt
  each_placed (role.OwnTable turn shape) finds = tt
  each_placed (role.Pair k) finds = (let_go (v.place k) finds.0, tt)
  each_placed (role.Table t len) finds = (tt, tt)
  each_placed (role.Counter of) finds = tt

  calls_still : (things : List Thing) (m : Moment K V) → (with_effects None None (map Reclaimed things) m).calls ≡ m.calls
  calls_still [] m = refl
  calls_still (y ∷ ys) m = calls_still ys (with_effects None None (Reclaimed y ∷ []) m)

  -- a pair that is left over is so still, if it was not in that block, and is behind no table
  left_on : (n : ℕ) (r : Role) → v.place n ≡ Left → (r ≡ role.Pair n → ⊥) → ((t : TableId) → is_among n (behind_table t v.deferred) ≡ true → ⊥)
      → (with_effects None None (map Reclaimed (things_of r)) v).place n ≡ Left
  left_on n role.Free is other none = is
  left_on n (role.OwnPair j) is other none = is
  left_on n (role.OwnTable turn shape) is other none = is
  left_on n (role.Counter of) is other none = is
  left_on n (role.Pair k) is other none = by (n == k) refl
    where
      by : (q : Bool) → (n == k) ≡ q → (if q then GivenBack else v.place n) ≡ Left
      by true e = absurd (other (ap role.Pair (sym (eqb-true n k e))))
      by false e = is
  left_on n (role.Table t len) is other none = by (is_among n (behind_table t v.deferred)) refl
    where
      by : (q : Bool) → is_among n (behind_table t v.deferred) ≡ q → (if q then Handed else v.place n) ≡ Left
      by true e = absurd (none t e)
      by false e = is

module _ {K V : Type 0} (same : K → K → Bool) (hash : ℕ → K → ℕ) (name : ℕ → List ℕ) (m : Moment K V) (known : Known) (s : Scene K V) (whole : RefinesWhole same name m known s)
    (kept : RefinesKept name m known s) (old new : Held K V) (i : ℕ) (lists : ℕ → List ℕ) (before after : ReclaimAll) (told : Settled (Node K V)) (under_way : IsReclaiming same hash old s i lists before)
    (leads : ReclaimingLeads same hash s i lists old new before after told) (roots : ℕ) (roots_are : old.roots ≡ roots) (placed : PairsArePlaced m) (none : m.calls ≡ [])
    (behind : BehindRootsAreLeft roots m known lists) where
  abbrev x : Changed
  x = new.changed

  abbrev w : World (Node K V)
  w = s.world

  abbrev effects : List Effect
  effects = effects_of Row known x

  on_slots : is_on_slots before.stands ≡ true → leads.1.lists2 ≡ lists
  on_slots = slots_leave_roots K V same hash s i lists old new before after told under_way leads

  turned : HasTurned same hash name m known s whole kept old new i lists before after told under_way leads roots roots_are on_slots
  turned = has_turned same hash name m known s whole kept old new i lists before after told under_way leads roots roots_are on_slots

  collected : Kept deferred_word old.batch_size w
  collected =
      let came = under_way.under_way.stand.together.makings.standing.came in
      runs_kept deferred_word old.batch_size came.1 _ w (start_kept deferred_word old.batch_size came.0) came.2

  -- a pair behind a table is told to be behind one
  is_behind : (n : ℕ) (t : TableId) → is_among n (behind_table t m.deferred) ≡ true → m.place n ≡ Behind
  is_behind n t among =
      let a = found (λ (k : ℕ) (u : TableId). (m.place k ≡ Behind) × IsDeferredTo known w k u) n t m.deferred kept.waiting among in
      ap m.place (sym a.number) ∙ a.so.0

  -- The pair in a block that was retired, and is taken away.
  module _ (b k : ℕ) (took : x ≡ changed.Took b) (noted : known.roles b ≡ role.Pair k) (on : is_on_slots before.stands ≡ true) (retired : is_retired b w.log ≡ true) where
    abbrev its_role : HasRole w m.stored b (role.Pair k)
    its_role = subst (λ (r : Role). HasRole w m.stored b r) noted (whole.all.shown.blocks.roles b)

    its_hand : w.hand b ≡ WithCollector
    its_hand =
        let gone = subst (LeavesBy w.memory leads.1.w2.memory) took (leaves_there same hash name m known s whole old new i lists before after told under_way leads) in
        handed same hash s i lists old new before after told under_way leads on b _ its_role.3 gone.1 before.stands on leads.0 under_way.under_way.point

    not_behind : m.place k ≡ Behind → ⊥
    not_behind is =
        (let one : 1 ≡ once_if (is_behind_one (m.place k)) = sym (ap (λ (p : Place). once_if (is_behind_one p)) is) in
        let put : 0 < put_in k m.deferred = (let e = placed.put k in omega (arith, one, e)) in
        let waits = waits_of (λ (n : ℕ) (t : TableId). (m.place n ≡ Behind) × IsDeferredTo known w n t) k m.deferred put kept.waiting in
        lies waits.1.1)
      where
        lies : {t : TableId} → IsDeferredTo known w k t → ⊥
        lies l = by l.waits
          where
            same_block : l.pair ≡ b
            same_block = whole.all.shown.blocks.once l.pair b k l.is_pair noted

            by : (waits_behind l.pair w.log ≡ Some l.table) ⊎ (IsLeft (w.hand l.pair) × IsLeft (w.hand l.table)) → ⊥
            by (inl waits) = (let no = unretired deferred_word old.batch_size w collected l.pair l.table waits in let yes = ap (λ (c : ℕ). is_retired c w.log) same_block ∙ retired in cc (no, yes))
            by (inr both) = subst IsLeft (ap w.hand same_block ∙ its_hand) both.0

    may_go : (p : Place) → m.place k ≡ p → MayReclaim true p
    may_go Unborn is = absurd (let there = subst (λ (p : Place). is_unreclaimed p ≡ true) is (whole.blocks.pairs b k noted) in cc there)
    may_go (InMap of) is = absurd (subst IsInUse its_hand (whole.all.hands.pairs b k noted (ap is_in_a_map is)))
    may_go Out is = absurd (let one : 0 ≡ 1 = sym (ap (owed_by k) none) ∙ placed.owed k ∙ ap (λ (p : Place). once_if (is_out p)) is in cc one)
    may_go Handed is = tt
    may_go Behind is = absurd (not_behind is)
    may_go Left is = refl
    may_go GivenBack is = absurd (let there = subst (λ (p : Place). is_unreclaimed p ≡ true) is (whole.blocks.pairs b k noted) in cc there)

  -- So each pair that the step reclaims may go.
  role_finds : (b : ℕ) → x ≡ changed.Took b → TakesFromSlots same hash name m known s whole kept old new i lists before after told under_way leads roots roots_are on_slots b
      ⊎ TakesFromRoots same hash name m known s whole kept old new i lists before after told under_way leads roots roots_are on_slots b → (r : Role) → known.roles b ≡ r → EachFinds m r
  role_finds b took takes role.Free noted = tt
  role_finds b took takes (role.OwnPair j) noted = tt
  role_finds b took takes (role.OwnTable turn shape) noted = tt
  role_finds b took (inl (on, taken, same_lists, retired)) (role.Pair k) noted = (may_go b k took noted on retired (m.place k) refl, tt)
  role_finds b took (inr (off, taken, listed)) (role.Pair k) noted =
      let first : 0 < times b (all_lists lists roots) =
      subst (λ (xs : List ℕ). 0 < times b xs) (sym listed) (let one = times_here b (all_lists leads.1.lists2 roots) in omega (arith, one)) in
      (subst (λ (p : Place). MayReclaim true p) (sym (behind b k first noted)) refl, tt)
  role_finds b took takes (role.Table t len) noted = (tt, tt)
  role_finds b took takes (role.Counter of) noted = tt

  -- what was in the block that was taken away, if one was
  pub record Goes : Type 0 where
    pub gone : Role
    pub are : gone_by known x ≡ things_of gone
    pub finds : EachFinds m gone
    pub apart : (b n : ℕ) → (known_after Row x known).roles b ≡ role.Pair n → gone ≡ role.Pair n → ⊥
    pub fewer : (b : ℕ) → 0 < times b (all_lists leads.1.lists2 roots) → 0 < times b (all_lists lists roots)

  goes : Goes
  goes = by turned
    where
      was_noted : (b n : ℕ) → (known_after Row x known).roles b ≡ role.Pair n → known.roles b ≡ role.Pair n
      was_noted b n is = elim (noted_or_free same hash name m known s whole kept old new i lists before after told under_way leads b) as (λ _. known.roles b ≡ role.Pair n) [
        | inl e ↦ sym e ∙ is
        | inr free ↦ absurd (cc (free, is))
      ]

      taken_apart : (d : ℕ) → x ≡ changed.Took d → (b n : ℕ) → (known_after Row x known).roles b ≡ role.Pair n → known.roles d ≡ role.Pair n → ⊥
      taken_apart d took b n is noted =
          (let one : b ≡ d = whole.all.shown.blocks.once b d n (was_noted b n is) noted in
          let free : (known_after Row x known).roles b ≡ role.Free = ap (λ (y : Changed). (known_after Row y known).roles b) took ∙ put_here d role.Free known.roles b one in
          cc (free, is))

      by : HasTurned same hash name m known s whole kept old new i lists before after told under_way leads roots roots_are on_slots → Goes
      by (inl (quiet, same_lists, taken)) = record {
        gone = role.Free;
        are = none_gone known x quiet;
        finds = tt;
        apart = λ b n is e. cc e;
        fewer = λ b l. subst (λ (ls : ℕ → List ℕ). 0 < times b (all_lists ls roots)) same_lists l;
      }
      by (inr (d, took, inl it)) = record {
        gone = known.roles d;
        are = ap (gone_by known) took;
        finds = role_finds d took (inl it) (known.roles d) refl;
        apart = λ b n is e. taken_apart d took b n is e;
        fewer = λ b l. subst (λ (ls : ℕ → List ℕ). 0 < times b (all_lists ls roots)) it.2 l;
      }
      by (inr (d, took, inr it)) = record {
        gone = known.roles d;
        are = ap (gone_by known) took;
        finds = role_finds d took (inr it) (known.roles d) refl;
        apart = λ b n is e. taken_apart d took b n is e;
        fewer = λ b l. subst (λ (xs : List ℕ). 0 < times b xs) (sym it.2) (let k : 0 < times b (all_lists leads.1.lists2 roots) = l in omega (arith, k));
      }

  -- what it does, by that role
  does : effects ≡ map Reclaimed (things_of goes.gone)
  does = it_reclaims same hash name m known s whole kept old new i lists before after told under_way leads ∙ ap (map Reclaimed) goes.are

  pub step_finds : AtEachEffect FindsPair None None effects m
  step_finds = subst (λ (fs : List Effect). AtEachEffect FindsPair None None fs m) (sym does) goes.finds

  pub step_placed : PairsArePlaced (with_effects None None effects m)
  step_placed = effects_keep_placed K V None None effects m (subst (λ (fs : List Effect). AtEachEffect (FindsPlaced None) None None fs m) (sym does) (each_placed m goes.gone goes.finds)) placed

  pub step_calls : (with_effects None None effects m).calls ≡ []
  step_calls = subst (λ (fs : List Effect). (with_effects None None fs m).calls ≡ []) (sym does) (calls_still m (things_of goes.gone) m ∙ none)

  pub step_behind : BehindRootsAreLeft roots (with_effects None None effects m) (known_after Row x known) leads.1.lists2
  step_behind b n among noted =
      subst (λ (fs : List Effect). (with_effects None None fs m).place n ≡ Left) (sym does) (left_on m n goes.gone was (goes.apart b n noted) apart)
    where
      was : m.place n ≡ Left
      was = elim (noted_or_free same hash name m known s whole kept old new i lists before after told under_way leads b) as (λ _. m.place n ≡ Left) [
        | inl e ↦ behind b n (goes.fewer b among) (sym e ∙ noted)
        | inr free ↦ absurd (cc (free, noted))
      ]

      apart : (t : TableId) → is_among n (behind_table t m.deferred) ≡ true → ⊥
      apart t there = (let is = is_behind n t there in cc (is, was))

-- Wherever a chain of steps has led.

module _ (K V : Type 0) (same : K → K → Bool) (hash : ℕ → K → ℕ) where
  record PairsGo (roots : ℕ) (log : List (Entry K V)) (x : AllCome K V) : Type 0 where
    pub finds : AtEachEffect FindsPair None None x.come.did (moment log)
    pub placed : PairsArePlaced x.come.now
    pub none : x.come.now.calls ≡ []
    pub behind : BehindRootsAreLeft roots x.come.now x.come.notes x.lists

  pub all_find_pairs : AllFindPairs K V same hash
  all_find_pairs name terms log known s old run none i all lists left behind n to chain =
      (chains_keep Both (AllSteps same hash terms i) keeps n (all_begun log known s old all lists) to chain
      (all_events_begin K V same hash name terms log known s run all lists left, record { finds = tt; placed = run.order.0.waits.placed; none = none; behind = behind })).1.finds
    where
      Both : AllCome K V → Type 0
      Both x = InAllEvent same name terms log known s.world lists x.come.did x.come.now x.come.notes x.come.scene x.all x.lists × PairsGo terms.roots log x

      keeps : (x y : AllCome K V) → AllSteps same hash terms i x y → Both x → Both y
      keeps x y step (midst, go) = (
        all_goes_on K V same hash name terms log known s.world lists i x y step midst,
        subst (PairsGo terms.roots log) (sym step.comes) (record {
          finds = each_join FindsPair None None x.come.did _ (moment log) go.finds
              (subst (λ (z : Moment K V). AtEachEffect FindsPair None None (effects_of Row x.come.notes y.come.held.changed) z) midst.worked
              (step_finds same hash name x.come.now x.come.notes x.come.scene midst.calls.whole midst.calls.kept x.come.held y.come.held i x.lists x.all y.all step.said step.under_way step.leads
              terms.roots step.roots_are go.placed go.none go.behind));
          placed = step_placed same hash name x.come.now x.come.notes x.come.scene midst.calls.whole midst.calls.kept x.come.held y.come.held i x.lists x.all y.all step.said step.under_way step.leads
              terms.roots step.roots_are go.placed go.none go.behind;
          none = step_calls same hash name x.come.now x.come.notes x.come.scene midst.calls.whole midst.calls.kept x.come.held y.come.held i x.lists x.all y.all step.said step.under_way step.leads
              terms.roots step.roots_are go.placed go.none go.behind;
          behind = step_behind same hash name x.come.now x.come.notes x.come.scene midst.calls.whole midst.calls.kept x.come.held y.come.held i x.lists x.all y.all step.said step.under_way step.leads
              terms.roots step.roots_are go.placed go.none go.behind;
        }),
      )
