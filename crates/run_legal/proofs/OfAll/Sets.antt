-- What the work on slots has done, as whole rows one after another, wherever reclaiming all has come; and so, once it has done with slots, it has reclaimed what the waiting sets of blocks say.
use Rattle.std.specs.Prelude.{◌≡◌, ◌⊎◌, ◌<◌, ◌^◌, ◌+◌, ℕ, suc, Bool, true, false, List, [], ◌∷◌, ◌++◌, Option}
use Rattle.std.specs.List.{AllByRecursion}
use Rattle.std.proofs.Common.{refl, ap, sym, subst, ◌∙◌, arith, inl, inr}
use Rattle.std.proofs.lemmas.List.{append-nil}
use Rattle.run_grows.specs.Given.SeizeWordsMem.{Mem, Took, value_at}
use Rattle.run_grows.specs.Given.SeizeWordsPlan.{Steps}
use Rattle.run_grows.specs.Given.SeizeWordsOp.{Store}
use Rattle.run_grows.specs.Given.SeizeWordsDeclared.at.At.{At}
use Rattle.run_grows.specs.Given.SeizeWordsDeclared.at.At.TheVariants as name
use Rattle.run_grows.proofs.Given.SeizeWordsOneOwner.Operations.{stored}
use Rattle.run_grows.specs.Given.SeizeEnter.{unregister_plan}
use Rattle.run_grows.specs.Given.SeizeLeave.{leave_plan, leaving}
use Rattle.run_grows.specs.Given.SeizeReclaimAll.{next_batch, next_free, next_head, plan_at, reclaiming_all, standing, to, within}
use Rattle.run_grows.specs.Given.SeizeSequence.{Calls, IsBetween, ended_by, taken_in}
use Rattle.run_grows.specs.Given.SeizeSettle.{flushing, settle_plan}
use Rattle.run_grows.specs.Given.SeizeWaitingSets.{Change}
use Rattle.run_grows.specs.Given.SeizeWorld.{World, Rests, Request, Register', Leave', Flush, Unregister', Event, Begin, Step, Clears, Operates, Begins, Steps', Happens, Runs}
use Rattle.run_grows.specs.Given.SeizeDeclared.advance.Advance.{Advance}
use Rattle.run_grows.specs.Given.SeizeDeclared.rows.enter.Unregister.{Unregister}
use Rattle.run_grows.specs.Given.SeizeDeclared.rows.leave.Leave.{Leave}
use Rattle.run_grows.specs.Given.SeizeDeclared.rows.reclaim_all.ReclaimAll.{ReclaimAll}
use Rattle.run_grows.specs.Given.SeizeDeclared.rows.reclaim_all.Reclaiming.{Reclaiming}
use Rattle.run_grows.specs.Given.SeizeDeclared.rows.reclaim_all.Reclaiming.TheVariants as at
use Rattle.run_grows.specs.Given.SeizeDeclared.rows.settle.Settle.{Settle}
use Rattle.run_grows.specs.Given.SeizeDeclared.rows.settle.Settled.{Settled}
use Rattle.run_grows.specs.Given.SeizeDeclared.rows.settle.Settled.TheVariants as settled
use Rattle.run_grows.specs.Given.SeizeDeclared.states.TheConstants.{HEAD, IDLE}
use Rattle.run_grows.proofs.Given.SeizeRuleRows.Leaving.{steps_back}
use Rattle.run_grows.proofs.Given.SeizeRuleWorld.Rested.{Rested, calls_rested}
use Rattle.run_grows.specs.Given.SeizeSetsReclaims.{is_on_slots}
use Rattle.run_grows.proofs.Given.SeizeSetsReclaims.Stages.{Stage, first_stage, head_on, retake_on, leave_on, batch_on, flush_on, give_up_on}
use Rattle.run_grows.specs.Given.SeizeAloneAlone.{TakesSteps}
use Rattle.run_grows.proofs.Given.SeizeAloneWhole.Register.{steps_more, steps_end}
use Rattle.run_grows.specs.Given.TablesNodes.{deferred_word, was_left}
use Rattle.run_grows.specs.Given.TablesDeclared.node.Node.{Node}
use Rattle.run_grows.specs.Given.CallersTogether.{CameAbout, UnderWay}
use Rattle.run_grows.specs.Given.FinishesEndings.{Finishing}
use Rattle.run_grows.specs.Given.FinishesFactsEnds.{TakesLeft, WritesRoot, events_of}
use Rattle.run_grows.specs.Given.FinishesMakings.{Beginning}
use Rattle.run_grows.specs.Given.FinishesMaps.{Standing}
use Rattle.run_grows.specs.Given.SeizeReclaimsAllReclaimed.{is_within}
use Rattle.run_grows.proofs.Given.SeizeReclaimsAllReclaimed.Weights.{at_next_batch, at_next_head}
use Rattle.run_grows.specs.Given.ReclaimsReclaims.{ReclaimingAt, StepsOfReclaiming}
use Rattle.run_grows.specs.Given.ReclaimsSlots.{AllRest, AreItsRows, DoesAt, IsQuiescent}
use Rattle.run_grows.specs.Given.SeizeQuietSlots.{BeginsAt}
use Rattle.run_grows.proofs.Given.SeizeQuietSlots.Facts.{no_word, outside_at, rested_by}
use Rattle.run_grows.specs.Given.ModelsReclaims.{HasReclaimed}
use Rattle.run_grows.specs.Given.ModelsTurns.{CameByTurns}
use Rattle.run_grows.proofs.Given.ModelsReclaims.{has_reclaimed, quiet_reclaimed}
use Rattle.run_grows.proofs.Given.ModelsTurns.{events_follow}
use Rattle.run_sweeps.proofs.Needs.Flushes.Worlds.{slots as n}

-- where nothing but what lies between rows happened, and rows alone, nothing happened
pub none_of_rows : {T : Type 0} (i : ℕ) (events : List (Event T)) → AreItsRows i events → AllByRecursion IsBetween events → events ≡ []
none_of_rows i [] own between = refl
none_of_rows i (Begin j request ∷ events) own between = absurd between.0
none_of_rows i (Step j ∷ events) own between = absurd between.0
none_of_rows i (_ ∷ events) own between = absurd own

module _ {K V : Type 0} (size roots i : ℕ) (small : size < 2 ^ 64) (began : World (Node K V)) (before : List Change) (came_first : CameByTurns deferred_word size roots began before) where
  -- it has done with slots
  abbrev pub Has : World (Node K V) → Type 0
  Has w = HasReclaimed deferred_word size roots began before w

  -- it has come to this stage of its work on slots, by whole rows
  abbrev Staged : ReclaimAll → World (Node K V) → Type 0
  Staged c w = Stage deferred_word n size roots refl i began c w

  -- it is within a row that has begun at this stage
  pub record InRow (request : Request) (c : ReclaimAll) (w : World (Node K V)) : Type 0 where
    pub at_first : World (Node K V)
    pub stage : Staged c at_first
    pub rested : Rested deferred_word n size at_first
    pub begun : World (Node K V)
    pub begins : Begins deferred_word size i request at_first begun
    pub steps : ℕ
    pub takes : TakesSteps deferred_word steps i begun w

  -- how far it has come at a point
  abbrev pub SoFarAt : ReclaimAll → World (Node K V) → Reclaiming → Type 0
  SoFarAt c w (at.Heads s) = Staged c w
  SoFarAt c w (at.Retakes s) = Staged c w
  SoFarAt c w (at.Leaves s l) = InRow (Leave' s) (standing c (at.Leaves s (leaving s size IDLE false))) w
  SoFarAt c w (at.Batches s) = Staged c w
  SoFarAt c w (at.Flushes s d) = InRow (Flush s) (standing c (at.Flushes s (flushing s size))) w
  SoFarAt c w (at.Frees s) = Staged c w
  SoFarAt c w _ = Has w

  -- so it is where it has done with slots
  pub off_so : (c : ReclaimAll) (w : World (Node K V)) (p : Reclaiming) → is_on_slots p ≡ false → Has w → SoFarAt c w p
  off_so c w (at.Heads s) off has = absurd (cc off)
  off_so c w (at.Retakes s) off has = absurd (cc off)
  off_so c w (at.Leaves s l) off has = absurd (cc off)
  off_so c w (at.Batches s) off has = absurd (cc off)
  off_so c w (at.Flushes s d) off has = absurd (cc off)
  off_so c w (at.Frees s) off has = absurd (cc off)
  off_so c w _ off has = has

  -- At a stage in one world it looks, and a row may begin.
  module _ (batch slots all : ℕ) (again : Bool) where
    abbrev machine : Reclaiming → ReclaimAll
    machine p = record { batch_size = batch; roots = all; slots = slots; again = again; stands = p }

    seen_at : (u w : World (Node K V)) → Rested deferred_word n size u → (p : Reclaiming) → Staged (machine p) u → BeginsAt deferred_word size i u w p → SoFarAt (machine p) w p
    seen_at u w rested (at.Heads s) stage same = subst (λ (x : World (Node K V)). Staged (machine (at.Heads s)) x) (sym same) stage
    seen_at u w rested (at.Retakes s) stage same = subst (λ (x : World (Node K V)). Staged (machine (at.Retakes s)) x) (sym same) stage
    seen_at u w rested (at.Leaves s l) stage begins = record {
      at_first = u;
      stage = subst (λ (k : Leave). Staged (machine (at.Leaves s k)) u) stage.fresh stage;
      rested = rested;
      begun = w;
      begins = begins;
      steps = 0;
      takes = refl;
    }
    seen_at u w rested (at.Batches s) stage same = subst (λ (x : World (Node K V)). Staged (machine (at.Batches s)) x) (sym same) stage
    seen_at u w rested (at.Flushes s d) stage begins = record {
      at_first = u;
      stage = subst (λ (k : Settle). Staged (machine (at.Flushes s k)) u) stage.fresh stage;
      rested = rested;
      begun = w;
      begins = begins;
      steps = 0;
      takes = refl;
    }
    seen_at u w rested (at.Frees s) stage same = subst (λ (x : World (Node K V)). Staged (machine (at.Frees s)) x) (sym same) stage
    seen_at u w rested (at.Roots root) stage same = subst Has (sym same) (has_reclaimed deferred_word was_left size roots small began before came_first i u stage.here)
    seen_at u w rested (at.Nexts root block) stage same = absurd stage.here
    seen_at u w rested (at.Takes root block next) stage same = absurd stage.here
    seen_at u w rested (at.Empties root) stage same = absurd stage.here
    seen_at u w rested (at.Unuses root) stage same = absurd stage.here
    seen_at u w rested at.Over stage same = subst Has (sym same) (has_reclaimed deferred_word was_left size roots small began before came_first i u stage.here)

  seen : (u w : World (Node K V)) → Rested deferred_word n size u → (c : ReclaimAll) → Staged c u → BeginsAt deferred_word size i u w c.stands → SoFarAt c w c.stands
  seen u w rested c stage begins = seen_at c.batch_size c.slots c.roots c.again u w rested c.stands stage begins

  -- it begins with the slots, or with the roots, where nothing is left of what slots had
  pub starts_so : (w : World (Node K V)) → w ≡ began → SoFarAt (reclaiming_all size roots) w (reclaiming_all size roots).stands
  starts_so w same = subst (λ (x : World (Node K V)). Staged (reclaiming_all size roots) x) (sym same) (first_stage deferred_word n size roots refl i began)

  pub quiet_so : CameAbout size began → IsQuiescent began → Has began
  quiet_so came quiet =
      quiet_reclaimed deferred_word was_left size roots small began before came_first i quiet.vacant
      (λ s l. no_word deferred_word size began came quiet.rests (outside_at 0 began.uses (λ t k. absurd (omega (arith, k))) (λ t k. quiet.vacant t)) s (quiet.none s (omega (arith, l))))

  -- What lies between rows leaves it so, if it takes none that waited.
  has_on : (e : Event (Node K V)) → IsBetween e → ended_by e ≡ [] → (w v : World (Node K V)) → Happens deferred_word size e w v → taken_in v.log ≡ taken_in w.log → Has w → Has v
  has_on e between none w v happens same has = record {
    after = has.after;
    came =
        subst (λ (cs : List Change). CameByTurns deferred_word size roots v cs) (append-nil has.after)
        (subst (λ (cs : List Change). CameByTurns deferred_word size roots v (has.after ++ cs)) none (events_follow deferred_word size roots w v has.after has.came e between happens));
    taken = same ∙ has.taken;
    sets = has.sets;
    waits = has.waits;
  }

  clears_on : (b : ℕ) (w w2 : World (Node K V)) → Runs deferred_word size (events_of i (TakesLeft b)) w w2 → Has w → Has w2
  clears_on b w w2 (v, happens, is) has =
      subst Has (sym is) (has_on (Clears i b) tt refl w v happens (ap (λ (x : World (Node K V)). taken_in x.log) happens.5) has)

  writes_on : (at : At) (w w2 : World (Node K V)) → Runs deferred_word size (events_of i (WritesRoot at 0)) w w2 → Has w → Has w2
  writes_on at w w2 (v, happens, is) has =
      subst Has (sym is) (has_on (Operates (Store at 0)) tt refl w v happens (ap (λ (x : World (Node K V)). taken_in x.log) happens.4) has)

  -- Where its row rests, none begins at a point; and it rests at each that is within none.
  module _ (c : ReclaimAll) (w : World (Node K V)) (maps : ℕ → Option (Standing K)) (lists : ℕ → List ℕ) where
    none_begins : (p : Reclaiming) → ReclaimingAt size roots i c w maps lists p → w.row i ≡ Rests → BeginsAt deferred_word size i w w p
    none_begins (at.Leaves s l) (ss, left, (none, lt, h)) rests = absurd (let row = h.row_is in cc (rests, row))
    none_begins (at.Flushes s d) (ss, left, (lt, h)) rests = absurd (let row = h.row_is in cc (rests, row))
    none_begins _ point rests = refl

    rests_at : (p : Reclaiming) → is_within p ≡ false → ReclaimingAt size roots i c w maps lists p → AllRest w
    rests_at (at.Heads s) off (ss, left, (none, lt, st, there)) = st.rests
    rests_at (at.Retakes s) off (ss, left, (none, lt, st, free)) = st.rests
    rests_at (at.Leaves s l) off point = absurd (cc off)
    rests_at (at.Batches s) off (ss, left, (lt, f)) = f.rests
    rests_at (at.Flushes s d) off point = absurd (cc off)
    rests_at (at.Frees s) off (ss, left, (lt, f)) = f.rests
    rests_at (at.Roots root) off point = point.0.rests
    rests_at (at.Nexts root block) off point = point.0.rests
    rests_at (at.Takes root block next) off point = point.0.rests
    rests_at (at.Empties root) off point = point.0.rests
    rests_at (at.Unuses root) off point = point.0.rests
    rests_at at.Over off point = point.0.rests

  -- By a step.
  module _ {Q : Type 0} (same : K → K → Bool) (asks : Q → K → Bool) (slot : ℕ → ℕ) (maps : ℕ → Option (Standing K)) (calls : ℕ → ℕ → Option (UnderWay K V Q)) (makers : ℕ → Option (Beginning K))
      (enders : ℕ → Option (Finishing K V)) (w : World (Node K V)) (lists : ℕ → List ℕ) (came : CameAbout size w) (m2 : Mem (Node K V)) (c2 : ReclaimAll) (told : Settled (Node K V)) where
    abbrev pub Led : Reclaiming → Type 0
    Led p = StepsOfReclaiming V same asks size roots slot maps calls makers enders w i lists p m2 c2 told

    -- it has come so far then, and once it is over it has done with slots
    abbrev pub Then : World (Node K V) → Type 0
    Then v = SoFarAt c2 v c2.stands × (told ≡ settled.Done → Has v)

    abbrev pub End : Type 0
    End = ReclaimAll × Settled (Node K V)

    abbrev pub end : End
    end = (c2, told)

    not_over : (d : ReclaimAll) (t : Settled (Node K V)) → (t ≡ settled.Done → ⊥) → end ≡ (d, t) → (v : World (Node K V)) → told ≡ settled.Done → Has v
    not_over d t going e v done = absurd (going (sym (ap (λ (q : End). q.1) e) ∙ done))

    goes_still : (d : ReclaimAll) → end ≡ (d, settled.Goes) → (v : World (Node K V)) → told ≡ settled.Done → Has v
    goes_still d e v done = not_over d settled.Goes (λ over. cc over) e v done

    staged_on : (p : Reclaiming) (led : Led p) (d : ReclaimAll) → end ≡ (d, settled.Goes) → Staged d led.w2 → Rested deferred_word n size led.w2 → Then led.w2
    staged_on p led d e stage rested = (
      seen led.w2 led.w2 rested c2 (subst (λ (q : End). Staged q.0 led.w2) (sym e) stage) (none_begins c2 led.w2 led.maps2 led.lists2 c2.stands led.next.point (rested.rests i)),
      goes_still d e led.w2,
    )

    looked_on : (p : Reclaiming) (led : Led p) → Rested deferred_word n size w → told ≡ settled.Goes → Staged c2 w → BeginsAt deferred_word size i w led.w2 c2.stands → Then led.w2
    looked_on p led rested goes stage begins = (seen w led.w2 rested c2 stage begins, λ done. absurd (cc (goes, done)))

    module _ (batch slots all : ℕ) (again : Bool) where
      abbrev pub c : Reclaiming → ReclaimAll
      c p = record { batch_size = batch; roots = all; slots = slots; again = again; stands = p }

      abbrev pub Takes : Reclaiming → Type 0
      Takes p = Steps Took value_at w.memory (plan_at deferred_word was_left (c p) p) m2 end

      abbrev pub Here : Reclaiming → Type 0
      Here p = ReclaimingAt size roots i (c p) w maps lists p

      heads_on : (s : ℕ) → Here (at.Heads s) → (led : Led (at.Heads s)) → Takes (at.Heads s) → Staged (c (at.Heads s)) w → Then led.w2
      heads_on s (ss, left, (none, lt, st, there)) led steps so =
          let rested = rested_by deferred_word size w came st.rests in
          let k = head_on deferred_word n size roots refl i began (c (at.Heads s)) so.size_is so.roots_are s w rested so.here.0 so.here.1 so.here.2 m2 end steps in
          looked_on (at.Heads s) led rested k.1 k.2 led.does

      retakes_on : (s : ℕ) → Here (at.Retakes s) → (led : Led (at.Retakes s)) → Takes (at.Retakes s) → Staged (c (at.Retakes s)) w → Then led.w2
      retakes_on s (ss, left, (none, lt, st, free)) led steps so =
          let rested = rested_by deferred_word size w came st.rests in
          let d = stored w.memory (λ out. to (next_head (c (at.Retakes s)) s)) (name.Slot s HEAD) IDLE m2 end steps in
          staged_on (at.Retakes s) led (next_head (c (at.Retakes s)) s) d.1
          (retake_on deferred_word n size roots refl i began (c (at.Retakes s)) so.size_is so.roots_are s w rested so.here.0 so.here.1 so.here.2 so.here.3 led.w2 led.does (led.memory ∙ d.0))
          (calls_rested deferred_word n size refl i (Register' false) w led.w2 rested led.does)

      batches_on : (s : ℕ) → Here (at.Batches s) → (led : Led (at.Batches s)) → Takes (at.Batches s) → Staged (c (at.Batches s)) w → Then led.w2
      batches_on s (ss, left, (lt, f)) led steps so =
          let rested = rested_by deferred_word size w came f.rests in
          let k = batch_on deferred_word n size roots refl i began (c (at.Batches s)) so.size_is so.roots_are s w rested so.here.0 so.here.1 m2 end steps in
          looked_on (at.Batches s) led rested k.1 k.2 led.does

      frees_on : (s : ℕ) → Here (at.Frees s) → (led : Led (at.Frees s)) → Takes (at.Frees s) → Staged (c (at.Frees s)) w → Then led.w2
      frees_on s (ss, left, (lt, f)) led steps so =
          let rested = rested_by deferred_word size w came f.rests in
          let goes : Unregister × Advance Unit → End = λ ends. (next_free (c (at.Frees s)) s, settled.Goes) in
          let back = steps_back goes w.memory m2 (unregister_plan (record { slot = s })) end steps in
          staged_on (at.Frees s) led (next_free (c (at.Frees s)) s) back.2
          (give_up_on deferred_word n size roots refl i began (c (at.Frees s)) so.size_is so.roots_are s w rested so.here.0 so.here.1 led.w2 led.does)
          (calls_rested deferred_word n size refl i (Unregister' s) w led.w2 rested led.does)

      -- within a row it takes one step more, or its last one
      module _ (request : Request) (p first : Reclaiming) (led : Led p) (step : Steps' deferred_word i (w.row i) w led.w2) (so : InRow request (c first) w) where
        abbrev takes : TakesSteps deferred_word (suc so.steps) i so.begun led.w2
        takes = steps_more deferred_word i so.steps so.begun w led.w2 so.takes step

        row_more : InRow request (c first) led.w2
        row_more = record { at_first = so.at_first; stage = so.stage; rested = so.rested; begun = so.begun; begins = so.begins; steps = suc so.steps; takes = takes }

        row_called : is_within c2.stands ≡ false → Calls deferred_word size i request so.at_first led.w2
        row_called off = (
          so.begun,
          suc so.steps,
          so.rested.rests i,
          so.begins,
          steps_end deferred_word i (suc so.steps) so.begun led.w2 takes (rests_at c2 led.w2 led.maps2 led.lists2 c2.stands off led.next.point i),
        )

      module _ (s : ℕ) (l : Leave) (led : Led (at.Leaves s l)) (so : InRow (Leave' s) (c (at.Leaves s (leaving s size IDLE false))) w) where
        abbrev leaving_first : Reclaiming
        leaving_first = at.Leaves s (leaving s size IDLE false)

        abbrev left_behind : ReclaimAll
        left_behind = next_head (c (at.Leaves s l)) s

        leaves_still : (d : Leave) (t : Settled (Node K V)) → (t ≡ settled.Done → ⊥) → end ≡ (c (at.Leaves s d), t) → Then led.w2
        leaves_still d t going e = (
          subst (λ (q : End). SoFarAt q.0 led.w2 q.0.stands) (sym e) (row_more (Leave' s) (at.Leaves s l) leaving_first led led.does so),
          not_over (c (at.Leaves s d)) t going e led.w2,
        )

        leaves_over : end ≡ (left_behind, settled.Goes) → Then led.w2
        leaves_over e =
            let here = so.stage.here in
            let off : is_within c2.stands ≡ false = subst (λ (q : End). is_within q.0.stands ≡ false) (sym e) (at_next_head (c (at.Leaves s l)) s here.1).1 in
            let call = row_called (Leave' s) (at.Leaves s l) leaving_first led led.does so off in
            staged_on (at.Leaves s l) led left_behind e
            (leave_on deferred_word n size roots refl i began (c leaving_first) so.stage.size_is so.stage.roots_are s so.at_first so.rested here.0 here.1 here.2 here.3 led.w2 call)
            (calls_rested deferred_word n size refl i (Leave' s) so.at_first led.w2 so.rested call)

        leaves_by : (d : Leave) (t : Settled (Node K V)) → end ≡ within (λ (k : Leave). c (at.Leaves s k)) left_behind (d, t) → Then led.w2
        leaves_by d settled.Goes e = leaves_still d settled.Goes (λ over. cc over) e
        leaves_by d settled.Waits e = leaves_still d settled.Waits (λ over. cc over) e
        leaves_by d (settled.Gave value) e = leaves_still d (settled.Gave value) (λ over. cc over) e
        leaves_by d settled.Done e = leaves_over e

        leaves_on : Takes (at.Leaves s l) → Then led.w2
        leaves_on steps =
            let back = steps_back (within (λ (k : Leave). c (at.Leaves s k)) left_behind) w.memory m2 (leave_plan deferred_word l) end steps in
            leaves_by back.0.0 back.0.1 back.2

      module _ (s : ℕ) (l : Settle) (led : Led (at.Flushes s l)) (so : InRow (Flush s) (c (at.Flushes s (flushing s size))) w) where
        abbrev flushing_first : Reclaiming
        flushing_first = at.Flushes s (flushing s size)

        abbrev flushed_behind : ReclaimAll
        flushed_behind = next_batch (record (c (at.Flushes s l)) { again = true }) s

        flushes_still : (d : Settle) (t : Settled (Node K V)) → (t ≡ settled.Done → ⊥) → end ≡ (c (at.Flushes s d), t) → Then led.w2
        flushes_still d t going e = (
          subst (λ (q : End). SoFarAt q.0 led.w2 q.0.stands) (sym e) (row_more (Flush s) (at.Flushes s l) flushing_first led led.does so),
          not_over (c (at.Flushes s d)) t going e led.w2,
        )

        flushes_over : end ≡ (flushed_behind, settled.Goes) → Then led.w2
        flushes_over e =
            let here = so.stage.here in
            let off : is_within c2.stands ≡ false = subst (λ (q : End). is_within q.0.stands ≡ false) (sym e) (at_next_batch (record (c (at.Flushes s l)) { again = true }) s here.0).1 in
            let call = row_called (Flush s) (at.Flushes s l) flushing_first led led.does so off in
            staged_on (at.Flushes s l) led flushed_behind e
            (flush_on deferred_word n size roots refl i began (c flushing_first) so.stage.size_is so.stage.roots_are s so.at_first so.rested here.0 here.1 here.2 here.3 led.w2 call)
            (calls_rested deferred_word n size refl i (Flush s) so.at_first led.w2 so.rested call)

        flushes_by : (d : Settle) (t : Settled (Node K V)) → end ≡ within (λ (k : Settle). c (at.Flushes s k)) flushed_behind (d, t) → Then led.w2
        flushes_by d settled.Goes e = flushes_still d settled.Goes (λ over. cc over) e
        flushes_by d settled.Waits e = flushes_still d settled.Waits (λ over. cc over) e
        flushes_by d (settled.Gave value) e = flushes_still d (settled.Gave value) (λ over. cc over) e
        flushes_by d settled.Done e = flushes_over e

        flushes_on : Takes (at.Flushes s l) → Then led.w2
        flushes_on steps =
            let back = steps_back (within (λ (k : Settle). c (at.Flushes s k)) flushed_behind) w.memory m2 (settle_plan deferred_word l) end steps in
            flushes_by back.0.0 back.0.1 back.2

      -- once it has done with slots it has done so still
      off_does : (events : List (Event (Node K V))) (v : World (Node K V)) (p q : Reclaiming) → is_on_slots p ≡ false → DoesAt size i events w v p q → AllByRecursion IsBetween events
      off_does events v (at.Heads s) q off does = absurd (cc off)
      off_does events v (at.Retakes s) q off does = absurd (cc off)
      off_does events v (at.Leaves s l) q off does = absurd (cc off)
      off_does events v (at.Batches s) q off does = absurd (cc off)
      off_does events v (at.Flushes s d) q off does = absurd (cc off)
      off_does events v (at.Frees s) q off does = absurd (cc off)
      off_does events v _ q off does = does

      abbrev Ran : World (Node K V) → List (Event (Node K V)) → Type 0
      Ran v events = Runs deferred_word size events w v

      off_on : (p : Reclaiming) → is_on_slots p ≡ false → (led : Led p) → is_on_slots c2.stands ≡ false → Has w → Then led.w2
      off_on p off led then_off has = (let v = by led.its in (off_so c2 led.w2 c2.stands then_off v, λ done. v))
        where
          by : AreItsRows i led.events ⊎ (((b : ℕ) × (led.events ≡ events_of i (TakesLeft b)))
              ⊎ ((root : ℕ) × ((led.events ≡ events_of i (WritesRoot (name.Root root) 0)) ⊎ (led.events ≡ events_of i (WritesRoot (name.Used root) 0))))) → Has led.w2
          by (inl own) =
              let none = none_of_rows i led.events own (off_does led.events led.w2 p c2.stands off led.does) in
              let same_world : led.w2 ≡ w = subst (Ran led.w2) none led.runs in
              subst Has (sym same_world) has
          by (inr (inl (b, is))) = clears_on b w led.w2 (subst (Ran led.w2) is led.runs) has
          by (inr (inr (root, inl is))) = writes_on (name.Root root) w led.w2 (subst (Ran led.w2) is led.runs) has
          by (inr (inr (root, inr is))) = writes_on (name.Used root) w led.w2 (subst (Ran led.w2) is led.runs) has

      pub step_at : (p : Reclaiming) → Here p → (led : Led p) → Takes p → (is_on_slots p ≡ false → is_on_slots c2.stands ≡ false) → SoFarAt (c p) w p → Then led.w2
      step_at (at.Heads s) point led steps off so = heads_on s point led steps so
      step_at (at.Retakes s) point led steps off so = retakes_on s point led steps so
      step_at (at.Leaves s l) point led steps off so = leaves_on s l led so steps
      step_at (at.Batches s) point led steps off so = batches_on s point led steps so
      step_at (at.Flushes s l) point led steps off so = flushes_on s l led so steps
      step_at (at.Frees s) point led steps off so = frees_on s point led steps so
      step_at (at.Roots root) point led steps off so = off_on (at.Roots root) refl led (off refl) so
      step_at (at.Nexts root block) point led steps off so = off_on (at.Nexts root block) refl led (off refl) so
      step_at (at.Takes root block next) point led steps off so = off_on (at.Takes root block next) refl led (off refl) so
      step_at (at.Empties root) point led steps off so = off_on (at.Empties root) refl led (off refl) so
      step_at (at.Unuses root) point led steps off so = off_on (at.Unuses root) refl led (off refl) so
      step_at at.Over point led steps off so = off_on at.Over refl led (off refl) so
