-- While all is reclaimed each pair in a block behind a root is one that an ended map has left over, where all is in order, no call is under way, and each map that is there stands.
use Rattle.std.specs.Prelude.{◌≡◌, ◌⊎◌, ◌<◌, ◌+◌, ◌==◌, ℕ, Bool, true, false, List, [], ◌∷◌, Some}
use Rattle.std.specs.List.{list_any}
use Rattle.std.proofs.Common.{refl, ap, sym, subst, ◌∙◌, arith, inl, inr, eqb-true}
use Rattle.run_legal.specs.AllEvents.{BehindRootsAreLeft}
use Rattle.seize_acts.specs.Given.SeizeWorld.{LeftTo, World, times}
use Rattle.seize_acts.specs.Given.SeizeDeclared.rows.reclaim_all.ReclaimAll.{ReclaimAll}
use Rattle.seize_acts.specs.Given.SeizeDeclared.rows.reclaim_all.Reclaiming.{Reclaiming}
use Rattle.seize_acts.specs.Given.SeizeDeclared.rows.reclaim_all.Reclaiming.TheVariants as reclaiming
use Rattle.run_legal.specs.Given.TablesNodes.{deferred_word}
use Rattle.run_legal.specs.Given.TablesDeclared.node.Node.{Node}
use Rattle.run_schedules.specs.declared.effect.TableId.{TableId}
use Rattle.run_schedules.specs.Schedules.Moment.{Behind, Deferral, GivenBack, Handed as IsHanded, InMap, Left, MapThere, Moment, Out, Place, Unborn}
use Rattle.run_schedules.specs.Schedules.Reclaims.{is_handed}
use Rattle.run_schedules.specs.Schedules.Views.{is_in_map}
use Rattle.run_legal.specs.Given.EffectsKnown.{Known}
use Rattle.run_legal.specs.Given.EffectsDeclared.role.Role.TheVariants as role
use Rattle.run_legal.specs.Given.FindsWaiting.{is_behind_one, is_out, once_if, owed_by, put_in}
use Rattle.run_legal.specs.Given.FindsWithin.{AllIsInOrder}
use Rattle.run_legal.specs.Given.FinishesMaps.{Standing}
use Rattle.play_linear.specs.Given.FollowsMaps.{RefinesMap}
use Rattle.run_legal.specs.Given.KeptKept.{RefinesKept}
use Rattle.run_legal.specs.Given.LivesBehind.{EachWaits, IsLeft, IsDeferredTo, NoTableLeft}
use Rattle.run_legal.specs.Given.LivesWaiting.{waits_behind}
use Rattle.seize_acts.specs.Reclaims.Roots.{all_lists}
use Rattle.run_legal.specs.Given.MomentsWhole.{RefinesWhole}
use Rattle.run_legal.specs.Given.ReclaimsReclaims.{ReclaimingAt}
use Rattle.run_legal.specs.Given.ScenesHeld.{Held}
use Rattle.run_legal.specs.Given.ScenesReclaiming.{IsReclaiming}
use Rattle.run_legal.specs.Given.ScenesScene.{Scene}
use Rattle.run_legal.specs.Given.SpotsUnreclaimed.{is_unreclaimed}
use Rattle.run_legal.proofs.Given.LivesLeftTables.{none_is_left}
use Rattle.run_legal.proofs.Given.LivesWorlds.{Kept, has_it, runs_kept, start_kept}
use Rattle.play_linear.proofs.Given.RuleLaws.{current_is_known}

-- where no table has such a pair behind it, it is behind none
none_put : (P : ℕ → TableId → Type 0) (n : ℕ) → ((t : TableId) → P n t → ⊥) → (ds : List Deferral) → EachWaits P ds → put_in n ds ≡ 0
none_put P n never [] each = refl
none_put P n never (d ∷ ds) each = by (n == d.pair) refl (none_put P n never ds each.1)
  where
    by : (q : Bool) → (n == d.pair) ≡ q → put_in n ds ≡ 0 → once_if (n == d.pair) + put_in n ds ≡ 0
    by true e rest = absurd (never d.behind (subst (λ (k : ℕ). P k d.behind) (sym (eqb-true n d.pair e)) each.0))
    by false e rest = ap (λ (q : Bool). once_if q + put_in n ds) e ∙ (let none : put_in n ds ≡ 0 = rest in omega (arith, none))

-- at each point of who reclaims all, what is behind the roots is left over
left_at : {K V : Type 0} (batch_size roots i : ℕ) (c : ReclaimAll) (w : World (Node K V)) (maps : ℕ → _) (lists : ℕ → List ℕ) (p : Reclaiming) → ReclaimingAt {K = K} {V = V} batch_size roots i c w maps lists p
    → (b : ℕ) → 0 < times b (all_lists lists roots) → (j : ℕ) × (w.hand b ≡ LeftTo j)
left_at batch_size roots i c w maps lists (reclaiming.Roots root) is = is.1.left
left_at batch_size roots i c w maps lists (reclaiming.Nexts root block) is = is.1.but.left
left_at batch_size roots i c w maps lists (reclaiming.Takes root block next) is = is.1.but.left
left_at batch_size roots i c w maps lists (reclaiming.Empties root) is = is.1.but.left
left_at batch_size roots i c w maps lists (reclaiming.Unuses root) is = is.1.but.left
left_at batch_size roots i c w maps lists reclaiming.Over is = is.1.left
left_at batch_size roots i c w maps lists _ is = is.1.left

module _ {K V : Type 0} (same : K → K → Bool) (hash : ℕ → K → ℕ) (name : ℕ → List ℕ) (m : Moment K V) (known : Known) (s : Scene K V) (whole : RefinesWhole same name m known s) (kept : RefinesKept name m known s) (old : Held K V)
    (i : ℕ) (lists : ℕ → List ℕ) (all : ReclaimAll) (at : IsReclaiming same hash old s i lists all) (order : AllIsInOrder m) (none : m.calls ≡ [])
    (stand : (n : ℕ) → list_any (λ (f : MapThere). f.number == n) m.maps ≡ true → (standing : Standing K) × (s.maps n ≡ Some standing)) where
  abbrev w : World (Node K V)
  w = s.world

  collected : Kept deferred_word old.batch_size w
  collected =
      let came = at.under_way.stand.together.makings.standing.came in
      runs_kept deferred_word old.batch_size came.1 _ w (start_kept deferred_word old.batch_size came.0) came.2

  no_table : NoTableLeft known w
  no_table = none_is_left K V known s kept.left at.under_way.stand.no_enders

  -- a pair in a block that is left over
  module _ (b n j : ℕ) (hand : w.hand b ≡ LeftTo j) (noted : known.roles b ≡ role.Pair n) where
    never_behind : (t : TableId) → (m.place n ≡ Behind) × IsDeferredTo known w n t → ⊥
    never_behind t (told, lies) = by lies.waits
      where
        same_block : lies.pair ≡ b
        same_block = whole.all.shown.blocks.once lies.pair b n lies.is_pair noted

        by : (waits_behind lies.pair w.log ≡ Some lies.table) ⊎ (IsLeft (w.hand lies.pair) × IsLeft (w.hand lies.table)) → ⊥
        by (inl waits) = (let has = has_it deferred_word old.batch_size w collected lies.pair lies.table waits in let its = ap w.hand same_block ∙ hand in cc (has, its))
        by (inr both) = no_table lies.table lies.len t lies.is_table both.1

    in_use : (of : ℕ) → m.place n ≡ InMap of → (standing : Standing K) → s.maps of ≡ Some standing → ⊥
    in_use of is standing stands =
        (let shows : RefinesMap of (whole.all.shown.number of) standing m known = whole.all.shown.maps of standing stands in
        let its = shows.pairs.all n is in
        let current : standing.chart.current its.0 ≡ true =
        sym (shows.pairs.here its.0 its.1) ∙ ap (λ (k : ℕ). is_in_map of (m.place k)) (sym its.2) ∙ (let here : is_in_map of (m.place n) ≡ true = ap (is_in_map of) is ∙ itself of in here) in
        let ground = (at.under_way.stand.together.makings.standing.each of standing stands).ground in
        let one : standing.blocks.pair its.0 ≡ b =
        whole.all.shown.blocks.once (standing.blocks.pair its.0) b n (shows.pairs.roles its.0 its.1 (current_is_known same standing.hash standing.setting w.memory standing.chart standing.blocks ground.map.map.rule ground.map.map.shows its.0 current).1 ∙ ap role.Pair (sym its.2)) noted in
        let used = ground.map.pairs its.0 current in
        let its_hand = ap w.hand one ∙ hand in cc (used, its_hand))
      where
        itself : (k : ℕ) → is_in_map k (InMap k) ≡ true
        itself k = grind arith

    its_place : (p : Place) → m.place n ≡ p → m.place n ≡ Left
    its_place Unborn is = absurd (let there = subst (λ (p : Place). is_unreclaimed p ≡ true) is (whole.blocks.pairs b n noted) in cc there)
    its_place (InMap of) is =
        absurd (let bounds = order.within.maps n of is in let standing = stand of (order.somewhere.there n of bounds.0 is) in in_use of is standing.0 standing.1)
    its_place Out is =
        absurd (let one : 0 ≡ 1 = sym (ap (owed_by n) none) ∙ order.waits.placed.owed n ∙ ap (λ (p : Place). once_if (is_out p)) is in cc one)
    its_place IsHanded is =
        absurd (let its = kept.handed.handed n (ap is_handed is) in
        let one = whole.all.shown.blocks.once its.0 b n its.1 noted in let has = sym (ap w.hand one) ∙ its.2.0 in cc (has, hand))
    its_place Behind is =
        absurd (let zero = none_put (λ (k : ℕ) (t : TableId). (m.place k ≡ Behind) × IsDeferredTo known w k t) n never_behind m.deferred kept.waiting in
        let one : 0 ≡ 1 = sym zero ∙ order.waits.placed.put n ∙ ap (λ (p : Place). once_if (is_behind_one p)) is in cc one)
    its_place Left is = is
    its_place GivenBack is = absurd (let there = subst (λ (p : Place). is_unreclaimed p ≡ true) is (whole.blocks.pairs b n noted) in cc there)

  pub behind_found : BehindRootsAreLeft old.roots m known lists
  behind_found b n among noted =
      let its = left_at old.batch_size old.roots i all w s.maps lists all.stands at.under_way.point b among in its_place b n its.0 its.1 noted (m.place n) refl
