-- As long as reclaiming all is on slots, what is behind the roots stays there: what a row on a slot takes away was retired.
use Rattle.std.specs.Prelude.{◌≡◌, ◌⊎◌, ◌<◌, ℕ, zero, suc, Bool, true, List, [], ◌∷◌, ◌++◌, Option, Some, None, IsSome}
use Rattle.std.proofs.Common.{refl, ap, sym, subst, append_assoc, ◌∙◌, arith, inl, inr}
use Rattle.std.proofs.lemmas.List.{append-nil, append_cancel_left}
use Rattle.run_grows.specs.Given.SeizeWordsMem.{Mem, Took, value_at}
use Rattle.run_grows.specs.Given.SeizeWordsPlan.{Steps}
use Rattle.run_grows.specs.Given.SeizeWordsDeclared.at.At.TheVariants.{Root, Used}
use Rattle.run_grows.specs.Given.SeizeLeave as leave
use Rattle.run_grows.specs.Given.SeizeReclaimAll as all
use Rattle.run_grows.specs.Given.SeizeSettle as settle
use Rattle.run_grows.specs.Given.SeizeSequence.{taken_in}
use Rattle.run_grows.specs.Given.SeizeWorld.{World, Handed, Row, Leaves, Settles, Request, Register', Leave', Flush, Unregister', Event, Begin, Step, Begins, Steps', Runs, leaves_on, settles_on, times}
use Rattle.run_grows.specs.Given.SeizeDeclared.rows.leave.Leave.{Leave}
use Rattle.run_grows.specs.Given.SeizeDeclared.rows.reclaim_all.ReclaimAll.{ReclaimAll}
use Rattle.run_grows.specs.Given.SeizeDeclared.rows.reclaim_all.Reclaiming.{Reclaiming}
use Rattle.run_grows.specs.Given.SeizeDeclared.rows.reclaim_all.Reclaiming.TheVariants as at
use Rattle.run_grows.specs.Given.SeizeDeclared.rows.settle.Settle.{Settle}
use Rattle.run_grows.specs.Given.SeizeDeclared.rows.settle.Settled.{Settled}
use Rattle.run_grows.specs.Given.SeizeDeclared.rows.settle.Settled.TheVariants as settled
use Rattle.run_grows.proofs.Given.SeizeAloneHistories.NotTaken.{did}
use Rattle.run_grows.proofs.Given.SeizeAloneHistories.Reached.{Reached, happens_reached}
use Rattle.run_grows.proofs.Given.SeizeAloneSpared.Rows.{RowStepped}
use Rattle.run_grows.proofs.Given.SeizeAloneWhole.Midway.{taken_append}
use Rattle.run_grows.specs.Given.SeizeSetsReclaims.{is_on_slots}
use Rattle.run_grows.specs.Given.TablesNodes.{deferred_word, was_left}
use Rattle.run_grows.specs.Given.TablesDeclared.node.Node.{Node}
use Rattle.run_grows.specs.Given.TellerTells.{StepsObserved}
use Rattle.run_grows.specs.Given.EffectsDeclared.changed.Changed.{Changed}
use Rattle.run_grows.specs.Given.EffectsDeclared.changed.Changed.TheVariants as changed
use Rattle.run_grows.proofs.Given.CallersTogether.Came.{came_reached}
use Rattle.run_grows.proofs.Given.FinishesEnds.CountedBlocks.{times-append}
use Rattle.run_grows.specs.Given.FinishesFactsEnds.{TakesLeft, WritesRoot, events_of}
use Rattle.run_grows.specs.Given.FollowsSteps.{TakesNone}
use Rattle.run_grows.proofs.Given.FollowsOperations.{LeavesBy, operated, operated_leaves}
use Rattle.run_grows.proofs.Given.MomentsOnSlots.{none_some}
use Rattle.run_grows.proofs.Given.OthersOutcomes.{told_in}
use Rattle.run_grows.specs.Given.ReclaimsReclaims.{HasTaken, ReclaimingAt, ReclaimingOutcome}
use Rattle.run_grows.specs.Given.ReclaimsSlots.{AreItsRows, IsForSlots}
use Rattle.run_grows.specs.Given.ScenesReclaiming.{IsReclaiming, ReclaimingLeads}
use Rattle.run_grows.proofs.Given.ScenesMay.{may_reclaim}
use Rattle.run_grows.specs.Given.LivesBehind.{IsLeft}
use Rattle.run_grows.proofs.Given.ShedsReclaiming.Finds.{left_before, root_value, step_handed}
use Rattle.run_grows.proofs.Given.ShedsReclaimGives.{taken_gone}
use Rattle.run_grows.proofs.Given.ShedsReclaiming.Rows.{begun_kept}
use Rattle.run_legal.specs.AllEvents.{SlotsLeaveRoots}
use Rattle.run_grows.proofs.Given.ScenesTold.{as_step}
use Rattle.run_grows.specs.Given.ScenesHeld.{Held}
use Rattle.run_grows.specs.Given.ScenesScene.{Scene}

-- What rows take away is written down.

module _ {K V : Type 0} (size : ℕ) where
  begun_logged : (i : ℕ) (request : Request) (w v : World (Node K V)) → IsForSlots request → Begins deferred_word size i request w v → v.log ≡ w.log
  begun_logged i (Register' enters) w v its is = ap (λ (x : World (Node K V)). x.log) is
  begun_logged i (Leave' s) w v its is = ap (λ (x : World (Node K V)). x.log) is.1
  begun_logged i (Flush s) w v its is = ap (λ (x : World (Node K V)). x.log) is.1
  begun_logged i (Unregister' s) w v its is = ap (λ (x : World (Node K V)). x.log) is.1
  begun_logged i _ w v its is = absurd its

  pub record TakesMore (w w2 : World (Node K V)) : Type 0 where
    pub more : List ℕ
    pub taken : taken_in w2.log ≡ taken_in w.log ++ more
    pub gone : (x : ℕ) → IsSome (value_at w.memory x) → value_at w2.memory x ≡ None → 0 < times x more

  -- with a step of the row before
  step_takes : (j : ℕ) (w v w2 : World (Node K V)) (r : Reached deferred_word size w) → Steps' deferred_word j (w.row j) w v → TakesMore v w2 → TakesMore w w2
  step_takes j w v w2 r step later = record {
    more = taken_in it.effects ++ later.more;
    taken =
        later.taken ∙ ap (λ (l : List ℕ). l ++ later.more) (ap taken_in it.logged ∙ taken_append it.effects w.log)
        ∙ append_assoc (taken_in w.log) (taken_in it.effects) later.more;
    gone = λ x some none. by x some none (value_at v.memory x) refl;
  }
    where
      it : RowStepped deferred_word j w v
      it = did deferred_word size w r j v step

      counted : (x : ℕ) → IsSome (value_at w.memory x) → value_at v.memory x ≡ None → (n : ℕ) → times x (taken_in it.effects) ≡ n → 0 < times x (taken_in it.effects ++ later.more)
      counted x some is zero e = absurd (none_some (value_at w.memory x) some (sym (it.frames.values x e) ∙ is))
      counted x some is (suc n) e = (let both = times-append x (taken_in it.effects) later.more in omega (arith, e, both))

      by : (x : ℕ) → IsSome (value_at w.memory x) → value_at w2.memory x ≡ None → (o : Option (Node K V)) → value_at v.memory x ≡ o → 0 < times x (taken_in it.effects ++ later.more)
      by x some none (Some value) is =
          let there : IsSome (value_at v.memory x) = subst (λ (q : Option (Node K V)). IsSome q) (sym is) refl in
          let among = later.gone x there none in
          let both = times-append x (taken_in it.effects) later.more in
          omega (arith, among, both)
      by x some none None is = counted x some is (times x (taken_in it.effects)) refl

  rows_take : (i : ℕ) (events : List (Event (Node K V))) → AreItsRows i events → (w w2 : World (Node K V)) → Reached deferred_word size w → Runs deferred_word size events w w2 → TakesMore w w2
  rows_take i [] its w w2 r runs = record {
    more = [];
    taken = ap (λ (z : World (Node K V)). taken_in z.log) runs ∙ sym (append-nil (taken_in w.log));
    gone = λ x some none. absurd (none_some (value_at w.memory x) some (ap (λ (z : World (Node K V)). value_at z.memory x) (sym runs) ∙ none));
  }
  rows_take i (Begin j request ∷ events) its w w2 r (v, happens, runs) =
      let later = rows_take i events its.2 v w2 (happens_reached deferred_word size (Begin j request) w v r happens) runs in
      let first = begun_kept size j request w v its.1 happens.1 in
      record {
        more = later.more;
        taken = later.taken ∙ ap (λ l. taken_in l ++ later.more) (begun_logged j request w v its.1 happens.1);
        gone = λ x some none. later.gone x (subst (λ (z : Mem (Node K V)). IsSome (value_at z x)) (sym first.0) some) none;
      }
  rows_take i (Step j ∷ events) its w w2 r (v, happens, runs) =
      step_takes j w v w2 r happens (rows_take i events its.1 v w2 (happens_reached deferred_word size (Step j) w v r happens) runs)
  rows_take i (_ ∷ events) its w w2 r runs = absurd its

-- What the row of a caller takes away by its next step the collector had.

module _ {K V : Type 0} (size : ℕ) (w : World (Node K V)) (r : Reached deferred_word size w) (i : ℕ) (m2 : Mem (Node K V)) (b : ℕ) (some : IsSome (value_at w.memory b)) (none : value_at m2 b ≡ None) where
  by_row : (row : Row) → w.row i ≡ row → (v : World (Node K V)) → Steps' deferred_word i row w v → value_at v.memory b ≡ None → w.hand b ≡ Handed
  by_row row is v step gone = step_handed size i w v r (subst (λ (x : Row). Steps' deferred_word i x w v) (sym is) step) b some gone

  by_leave : (l : Leave) → w.row i ≡ Leaves l → (e : Leave × Settled (Node K V)) → Steps Took value_at w.memory (leave.leave_plan deferred_word l) m2 e → w.hand b ≡ Handed
  by_leave l is (l2, told) st = by_row (Leaves l) is (leaves_on w i l m2 (l2, told)) (m2, (l2, told), st, refl) none

  by_settle : (d : Settle) → w.row i ≡ Settles d → (e : Settle × Settled (Node K V)) → Steps Took value_at w.memory (settle.settle_plan deferred_word d) m2 e → w.hand b ≡ Handed
  by_settle d is (d2, settled.Goes) st = by_row (Settles d) is (settles_on w i d m2 (d2, settled.Goes)) (m2, (d2, settled.Goes), st, refl) none
  by_settle d is (d2, settled.Waits) st = by_row (Settles d) is (settles_on w i d m2 (d2, settled.Waits)) (m2, (d2, settled.Waits), st, refl) none
  by_settle d is (d2, settled.Gave value) st = by_row (Settles d) is (settles_on w i d m2 (d2, settled.Gave value)) (m2, (d2, settled.Gave value), st, refl) none
  by_settle d is (d2, settled.Done) st = by_row (Settles d) is (settles_on w i d m2 (d2, settled.Done)) (m2, (d2, settled.Done), st, refl) none

module _ {K V : Type 0} (same : K → K → Bool) (hash : ℕ → K → ℕ) (s : Scene K V) (i : ℕ) (lists : ℕ → List ℕ) (old new : Held K V) (before after : ReclaimAll) (told : Settled (Node K V))
    (under_way : IsReclaiming same hash old s i lists before) (leads : ReclaimingLeads same hash s i lists old new before after told) (on : is_on_slots before.stands ≡ true) where
  abbrev w : World (Node K V)
  w = s.world

  abbrev w2 : World (Node K V)
  w2 = leads.1.w2

  abbrev x : Changed
  x = new.changed

  here : Reached deferred_word old.batch_size w
  here = came_reached old.batch_size w under_way.under_way.stand.together.makings.standing.came

  leaves : LeavesBy w.memory w2.memory x
  leaves =
      subst (λ (n : Mem (Node K V)). LeavesBy w.memory n x) (sym leads.1.memory)
      (subst (λ (n : Mem (Node K V)). LeavesBy n new.memory x) (sym under_way.memory)
      (operated_leaves old.memory new.memory x
      (operated old.memory new.memory x (all.reclaim_all_plan deferred_word was_left before) (after, told) (may_reclaim same hash old s i lists before under_way) leads.0)))

  -- a block that is taken away
  module _ (b : ℕ) (value : Node K V) (held : value_at w.memory b ≡ Some value) (gone : value_at w2.memory b ≡ None) where
    took : x ≡ changed.Took b
    took = taken_gone w.memory w2.memory x leaves b value held gone

    some : IsSome (value_at w.memory b)
    some = subst (λ (o : Option (Node K V)). IsSome o) (sym held) refl

    gone_new : value_at new.memory b ≡ None
    gone_new = ap (λ (n : Mem (Node K V)). value_at n b) (sym leads.1.memory) ∙ gone

    quiet : TakesNone x → ⊥
    quiet none = subst TakesNone took none

    -- the collector had it
    pub handed : (p : Reclaiming) → is_on_slots p ≡ true → StepsObserved K V (ReclaimAll × Settled (Node K V)) old.memory changed.Nothing (all.plan_at deferred_word was_left before p) new.memory x (after, told)
        → ReclaimingAt old.batch_size old.roots i before w s.maps lists p → w.hand b ≡ Handed
    handed (at.Leaves slot it) on_it st point =
        let inner = told_in old.memory new.memory x (all.within (λ (l : Leave). all.standing before (at.Leaves slot l)) (all.next_head before slot)) (leave.leave_plan deferred_word it) (after, told) st in
        by_leave old.batch_size w here i new.memory b some gone_new it point.2.2.row_is inner.0
        (subst (λ (n : Mem (Node K V)). Steps Took value_at n (leave.leave_plan deferred_word it) new.memory inner.0) (sym under_way.memory)
        (as_step old.memory changed.Nothing (leave.leave_plan deferred_word it) new.memory x inner.0 inner.2))
    handed (at.Flushes slot it) on_it st point =
        let inner = told_in old.memory new.memory x (all.within (λ (l : Settle). all.standing before (at.Flushes slot l)) (all.next_batch (record before { again = true }) slot))
        (settle.settle_plan deferred_word it) (after, told) st in
        by_settle old.batch_size w here i new.memory b some gone_new it point.2.1.row_is inner.0
        (subst (λ (n : Mem (Node K V)). Steps Took value_at n (settle.settle_plan deferred_word it) new.memory inner.0) (sym under_way.memory)
        (as_step old.memory changed.Nothing (settle.settle_plan deferred_word it) new.memory x inner.0 inner.2))
    handed (at.Heads slot) on_it st point = absurd (quiet (subst TakesNone (sym st.1.1) tt))
    handed (at.Retakes slot) on_it st point = absurd (quiet (subst TakesNone (sym st.1.1) tt))
    handed (at.Batches slot) on_it st point = absurd (quiet (subst TakesNone (sym st.1.1) tt))
    handed (at.Frees slot) on_it st point = absurd (quiet (subst TakesNone (sym st.1.1) tt))
    handed (at.Roots root) on_it st point = absurd (cc on_it)
    handed (at.Nexts root block) on_it st point = absurd (cc on_it)
    handed (at.Takes root block next) on_it st point = absurd (cc on_it)
    handed (at.Empties root) on_it st point = absurd (cc on_it)
    handed (at.Unuses root) on_it st point = absurd (cc on_it)
    handed at.Over on_it st point = absurd (cc on_it)

    abbrev RunsBy : List (Event (Node K V)) → Type 0
    RunsBy events = Runs deferred_word old.batch_size events w w2

    -- so it is written down that it was taken
    is_taken : taken_in w2.log ≡ taken_in w.log → ⊥
    is_taken none_taken = by leads.1.its
      where
        by : AreItsRows i leads.1.events ⊎ (((c : ℕ) × (leads.1.events ≡ events_of i (TakesLeft c)))
            ⊎ ((root : ℕ) × ((leads.1.events ≡ events_of i (WritesRoot (Root root) 0)) ⊎ (leads.1.events ≡ events_of i (WritesRoot (Used root) 0))))) → ⊥
        by (inl rows) =
            (let takes = rows_take old.batch_size i leads.1.events rows w w2 here leads.1.runs in
            let none : takes.more ≡ [] = append_cancel_left (taken_in w.log) takes.more [] (sym takes.taken ∙ none_taken ∙ sym (append-nil (taken_in w.log))) in
            let among : 0 < times b [] = subst (λ (l : List ℕ). 0 < times b l) none (takes.gone b some gone) in
            let zero_then : 0 < 0 = among in absurd (omega (arith, zero_then)))
        by (inr (inl (c, is))) =
            subst IsLeft (handed before.stands on leads.0 under_way.under_way.point) (left_before old.batch_size i c w w2 (subst RunsBy is leads.1.runs) b some gone)
        by (inr (inr (root, inl is))) = none_some (value_at w.memory b) some (sym (root_value old.batch_size i (Root root) 0 w w2 (subst RunsBy is leads.1.runs) b) ∙ gone)
        by (inr (inr (root, inr is))) = none_some (value_at w.memory b) some (sym (root_value old.batch_size i (Used root) 0 w w2 (subst RunsBy is leads.1.runs) b) ∙ gone)

    by_taken : HasTaken w w2 lists leads.1.lists2 b → leads.1.lists2 ≡ lists
    by_taken (inl (is, taken, same_lists)) = same_lists
    by_taken (inr (root, rest, first, behind, then_lists, taken)) = absurd (is_taken taken)

  stays : leads.1.lists2 ≡ lists
  stays = by told leads.1.told
    where
      by : (t : Settled (Node K V)) → ReclaimingOutcome w w2 lists leads.1.lists2 t → leads.1.lists2 ≡ lists
      by settled.Goes say = say.0
      by settled.Waits say = absurd say
      by (settled.Gave value) say = by_taken say.0 value say.1 say.2 say.3
      by settled.Done say = say.0

pub slots_leave_roots : (K V : Type 0) (same : K → K → Bool) (hash : ℕ → K → ℕ) → SlotsLeaveRoots K V same hash
slots_leave_roots K V same hash s i lists old new before after said under_way leads on = stays same hash s i lists old new before after said under_way leads on
