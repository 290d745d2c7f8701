-- Reclaiming everything, alone: what is so after all steps since its beginning.
use Rattle.std.specs.Prelude.{Option, Some, map}
use Rattle.std.proofs.Common.{◌≡◌, ℕ, zero, suc, ◌+◌, ◌<◌, ◌≤◌, Bool, true, false, List, [], ◌∷◌, ◌++◌, ◌⊎◌, inl, inr, refl, arith, ap, sym, subst}
use Rattle.std.proofs.lemmas.List.{append-nil}
use Rattle.seize_words.specs.OneMemory.Mem.{Mem, Can, Took, value_at}
use Rattle.seize_words.specs.OneMemory.Plan.{May, Steps}
use Rattle.seize.specs.declared.states.TheConstants.{LAST_SLOT}
use Rattle.seize.specs.declared.rows.settle.Settle.{Settle}
use Rattle.seize.specs.declared.rows.settle.Settled.{Settled}
use Rattle.seize.specs.declared.rows.settle.Settled.TheVariants.{Goes, Waits, Gave, Done}
use Rattle.seize.specs.declared.rows.reclaim_all.ReclaimAll.{ReclaimAll}
use Rattle.seize.specs.declared.rows.reclaim_all.Reclaiming.{Reclaiming}
use Rattle.seize.specs.declared.rows.reclaim_all.Reclaiming.TheVariants as at
use Rattle.seize.specs.ReclaimAll.{reclaiming_all, standing, next_batch, within, plan_at, reclaim_all_plan}
use Rattle.seize.specs.Settle.{settle_plan}
use Rattle.seize.specs.WaitingSets.{After, quietly}
use Rattle.seize.specs.World.{Vacant, Flush, Settles}
use Rattle.seize.specs.Sequence.{taken_in}
use Rattle.seize_model.specs.Sets.Reclaims.{NothingWaits}
use Rattle.seize_model.specs.declared.calls.WholeCall.TheVariants as call
use Rattle.seize_model.specs.Alone.Alone.{History, IsMidway, IsEnded, at_rest, blocks_in, given_back}
use Rattle.seize_acts.specs.Reclaims.AllReclaimed.{MayReclaimAll, Starts, HasCome, GivesBack, IsReclaiming, IsAllReclaimed, SlotsReclaimed, OnlyReclaims, all, sets_in, is_within, is_flushing}
use Rattle.seize_acts.specs.Reclaims.Roots.{IsClearing, ReclaimedAtPoint}
use Rattle.seize_model.proofs.Given.SeizeRuleRows.Leaving.{steps_back}
use Rattle.seize_model.proofs.Sets.Reclaims.Ends.{none_closed, none_retired}
use Rattle.seize_model.proofs.Sets.Reclaims.Rounds.{reclaimed_quiet}
use Rattle.seize_model.proofs.Sets.Reclaims.Stages.{first_stage}
use Rattle.seize_acts.proofs.Reclaims.AllReclaimed.Ends.{shown}
use Rattle.seize_acts.proofs.Reclaims.AllReclaimed.Gives.{begins_flush}
use Rattle.seize_acts.proofs.Reclaims.AllReclaimed.Only.{only_same}
use Rattle.seize_acts.proofs.Reclaims.AllReclaimed.Points.{Point, AtSlots, AtRoots, arrives, point_may}
use Rattle.seize_acts.proofs.Reclaims.AllReclaimed.Steps.{After as Comes, point_on, walks_on}
use Rattle.seize_model.proofs.Alone.Histories.Sets.{active_now}
use Rattle.seize_acts.proofs.Reclaims.Roots.Cleared.{clear_still}
use Rattle.seize_acts.proofs.Reclaims.Roots.First.{clear_first}
use Rattle.seize_model.proofs.Alone.Whole.Steps.{call_told}

no_values : {T : Type 0} (m : Mem T) (blocks : List ℕ) → map (value_at m) blocks ≡ map Some [] → blocks ≡ []
no_values m [] e = refl
no_values m (b ∷ blocks) e = absurd (cc e)

module _ {T : Type 0} (defers : T → Option ℕ) (left_over : T → Bool) (batch_size roots : ℕ) (m : Mem T) (h : History) (lists : ℕ → List ℕ) where
  abbrev Here : ReclaimAll → Mem T → List T → Type 0
  Here c m2 given = Point defers left_over batch_size roots m h lists c m2 given

  module _ (may : MayReclaimAll defers left_over batch_size roots m h lists) where
    -- where no slot is in use, and none has a batch, nothing waits
    quiet_slots : ((s : ℕ) → h.uses s ≡ Vacant) → ((s : ℕ) → (sets_in batch_size h).open_batch s ≡ []) → SlotsReclaimed defers left_over batch_size roots m h m h
    quiet_slots vacant none =
        let e : all defers left_over batch_size roots m h ≡ quietly (sets_in batch_size h) =
        reclaimed_quiet batch_size (sets_in batch_size h) (sym (active_now defers batch_size roots m h may.happened may.size 0 (omega arith) (λ t le. vacant t))) none in
        let s = shown defers left_over batch_size roots m h lists may in
        record {
          happened = may.happened;
          sets = sym (ap (λ (a : After). a.sets) e);
          only = subst (λ (a : After). OnlyReclaims m h m h a.reclaimed) (sym e) (only_same m h);
          vacant = vacant;
          waits = subst (λ (a : After). NothingWaits a.sets) (sym e)
              (none, none_closed defers (LAST_SLOT + 1) batch_size refl (at_rest defers m h) (sets_in batch_size h) s vacant);
          retired = none_retired defers (LAST_SLOT + 1) batch_size refl (at_rest defers m h) (sets_in batch_size h) s vacant none;
        }

    begins : (c : ReclaimAll) → Starts defers left_over batch_size roots m h lists c → Here c m []
    begins c (inl k) =
        subst (λ (d : ReclaimAll). Here d m []) (sym k.0)
        (arrives defers left_over batch_size roots m h lists may k.1 (reclaiming_all batch_size roots) m h []
        (record { back = []; now = may.happened; taken = sym (append-nil (taken_in h.log)); values = refl; only = only_same m h })
        (first_stage defers (LAST_SLOT + 1) batch_size roots refl 0 (at_rest defers m h)))
    begins c (inr k) =
        let done = quiet_slots k.1 k.2 in
        let e : all defers left_over batch_size roots m h ≡ quietly (sets_in batch_size h) =
        reclaimed_quiet batch_size (sets_in batch_size h) (sym (active_now defers batch_size roots m h may.happened may.size 0 (omega arith) (λ t le. k.1 t))) k.2 in
        AtRoots (record {
          middle = m;
          between = h;
          slots = done;
          waited = [];
          behind = [];
          order = refl;
          values = ap (λ (a : After). map (value_at m) a.reclaimed) e;
          clearing = subst (λ (d : ReclaimAll). IsClearing defers left_over batch_size roots m h lists d m []) (sym k.0)
              (clear_first defers left_over batch_size roots m h lists may.happened may.left k.1);
        })

    told : (m2 : Mem T) (given : List T) (c : ReclaimAll) (m3 : Mem T) (p : Settled T) (given2 : List T) → GivesBack defers left_over batch_size roots m h lists given p given2
        → Comes defers left_over batch_size roots m h lists may m2 given c m3 p → Here c m3 given2
    told m2 given c m3 Goes given2 e k = subst (λ (l : List T). Here c m3 l) (sym e) k.0
    told m2 given c m3 Waits given2 e k = subst (λ (l : List T). Here c m3 l) (sym e) k.0
    told m2 given c m3 (Gave value) given2 e k = subst (λ (l : List T). Here c m3 l) (sym e) k.0
    told m2 given c m3 Done given2 e k = absurd e

    comes_there : (steps : ℕ) (c : ReclaimAll) (m2 : Mem T) (given : List T) → HasCome defers left_over batch_size roots m h lists steps c m2 given → Here c m2 given
    comes_there zero c m2 given k = subst (λ (l : List T). Here c m2 l) (sym k.2) (subst (λ (n : Mem T). Here c n []) (sym k.1) (begins c k.0))
    comes_there (suc steps) c m2 given k =
        told k.1 k.2 c m2 k.3 given k.6 (point_on defers left_over batch_size roots m h lists may k.0 k.1 k.2 m2 (c, k.3) (comes_there steps k.0 k.1 k.2 k.4) k.5)

  module _ (c : ReclaimAll) (m2 : Mem T) (given : List T) (mid : IsReclaiming defers left_over batch_size roots m h lists c m2 given) where
    pub is_point : Here c m2 given
    is_point = comes_there mid.may mid.steps c m2 given mid.come

    pub reclaim_may : May Can Took value_at m2 (reclaim_all_plan defers left_over c)
    reclaim_may = point_may defers left_over batch_size roots m h lists mid.may c m2 given is_point

    module _ (m3 : Mem T) (c3 : ReclaimAll) (result : Settled T) (st : Steps Took value_at m2 (reclaim_all_plan defers left_over c) m3 (c3, result)) where
      comes_as : (p : Settled T) → result ≡ p → Comes defers left_over batch_size roots m h lists mid.may m2 given c3 m3 p
      comes_as p e =
          subst (λ (q : Settled T). Comes defers left_over batch_size roots m h lists mid.may m2 given c3 m3 q) e
          (point_on defers left_over batch_size roots m h lists mid.may c m2 given m3 (c3, result) is_point st)

      one_step : (p : Settled T) → result ≡ p → (given2 : List T) → GivesBack defers left_over batch_size roots m h lists given p given2 → IsReclaiming defers left_over batch_size roots m h lists c3 m3 given2
      one_step p e given2 t = record {
        may = mid.may;
        steps = suc mid.steps;
        come = (
          c,
          m2,
          given,
          p,
          mid.come,
          subst (λ (q : Settled T). Steps Took value_at m2 (reclaim_all_plan defers left_over c) m3 (c3, q)) e st,
          t,
        );
      }

      pub reclaim_still : (result ≡ Goes) ⊎ (result ≡ Waits) → IsReclaiming defers left_over batch_size roots m h lists c3 m3 given × (blocks_in m3 ≤ blocks_in m2)
      reclaim_still (inl e) = (one_step Goes e given refl, (comes_as Goes e).1)
      reclaim_still (inr e) = (one_step Waits e given refl, (comes_as Waits e).1)

      pub reclaim_gave : (value : T) → result ≡ Gave value → IsReclaiming defers left_over batch_size roots m h lists c3 m3 (given ++ value ∷ []) × (blocks_in m3 < blocks_in m2)
      reclaim_gave value e = (one_step (Gave value) e (given ++ value ∷ []) refl, (comes_as (Gave value) e).1)

      pub reclaim_done : result ≡ Done → IsAllReclaimed defers left_over batch_size roots m h lists m3 given
      reclaim_done e = comes_as Done e

      -- a flush has just begun
      pub record Begins : Type 0 where
        pub ended : History
        pub slot : ℕ
        pub settle : Settle
        pub stands : c3.stands ≡ at.Flushes slot settle
        pub midway : IsMidway defers batch_size roots m3 ended (Flush slot) (Settles settle) m3 []
        pub some : given_back batch_size (Flush slot) ended ≡ [] → ⊥

      is_flush : (p : Reclaiming) → is_flushing p ≡ true → (s : ℕ) × (d : Settle) × (p ≡ at.Flushes s d)
      is_flush (at.Flushes s d) e = (s, d, refl)
      is_flush (at.Leaves s l) e = absurd (cc e)
      is_flush (at.Heads s) e = absurd (cc e)
      is_flush (at.Retakes s) e = absurd (cc e)
      is_flush (at.Batches s) e = absurd (cc e)
      is_flush (at.Frees s) e = absurd (cc e)
      is_flush (at.Roots root) e = absurd (cc e)
      is_flush (at.Nexts root block) e = absurd (cc e)
      is_flush (at.Takes root block next) e = absurd (cc e)
      is_flush (at.Empties root) e = absurd (cc e)
      is_flush (at.Unuses root) e = absurd (cc e)
      is_flush at.Over e = absurd (cc e)

      pub flush_begun : is_within c.stands ≡ false → (result ≡ Goes) ⊎ (result ≡ Waits) → is_flushing c3.stands ≡ true → Begins
      flush_begun o going f = by is_point
        where
          k : (s : ℕ) × (d : Settle) × (c3.stands ≡ at.Flushes s d)
          k = is_flush c3.stands f

          by : Here c m2 given → Begins
          by (AtSlots x) =
              let a = (walks_on defers left_over batch_size roots m h lists mid.may c m2 given m3 (c3, result) c.stands o x st).there in
              let b = begins_flush defers left_over batch_size roots m h lists mid.may c3 m3 given a k.0 k.1 k.2 in
              record { ended = a.h4; slot = k.0; settle = k.1; stands = k.2; midway = b.0; some = b.1 }
          by (AtRoots x) =
              let z = (clear_still defers left_over batch_size roots x.middle x.between lists c m2 x.behind x.clearing m3 c3 result st going).0 in
              absurd (subst (λ (p : Reclaiming). ReclaimedAtPoint x.middle lists roots p z.back) k.2 z.stands)

-- a flush that has reclaimed nothing, and will reclaim something, goes on
module _ {T : Type 0} (defers : T → Option ℕ) (left_over : T → Bool) (batch_size roots : ℕ) (m1 : Mem T) (h1 : History) (c : ReclaimAll) (s : ℕ) (d : Settle) (is : c.stands ≡ at.Flushes s d)
    (m2 : Mem T) (mid : IsMidway defers batch_size roots m1 h1 (Flush s) (Settles d) m2 []) (some : given_back batch_size (Flush s) h1 ≡ [] → ⊥)
    (m3 : Mem T) (c3 : ReclaimAll) (result : Settled T) (st : Steps Took value_at m2 (reclaim_all_plan defers left_over c) m3 (c3, result)) where
  abbrev Still : ReclaimAll → Type 0
  Still c4 = (d2 : Settle) × (c4.stands ≡ at.Flushes s d2) × IsMidway defers batch_size roots m1 h1 (Flush s) (Settles d2) m3 []

  by_progress : (d2 : Settle) (p : Settled T) → Steps Took value_at m2 (settle_plan defers d) m3 (d2, p)
      → (c3, result) ≡ within (λ (k : Settle). standing c (at.Flushes s k)) (next_batch (record c { again = true }) s) (d2, p) → (result ≡ Goes) ⊎ (result ≡ Waits) → Still c3
  by_progress d2 Goes row e going =
      let k = call_told defers batch_size roots m1 h1 (Flush s) m2 [] m3 (call.Settles d) (call.Settles d2) Goes mid row in
      (d2, ap (λ (q : ReclaimAll × Settled T). q.0.stands) e, k)
  by_progress d2 Waits row e going =
      let k = call_told defers batch_size roots m1 h1 (Flush s) m2 [] m3 (call.Settles d) (call.Settles d2) Waits mid row in
      (d2, ap (λ (q : ReclaimAll × Settled T). q.0.stands) e, k)
  by_progress d2 (Gave value) row e (inl g) = absurd (let k : result ≡ Gave value = ap (λ (q : ReclaimAll × Settled T). q.1) e in cc (k, g))
  by_progress d2 (Gave value) row e (inr g) = absurd (let k : result ≡ Gave value = ap (λ (q : ReclaimAll × Settled T). q.1) e in cc (k, g))
  by_progress d2 Done row e going =
      let k : IsEnded defers batch_size roots m1 h1 (Flush s) [] m3 = call_told defers batch_size roots m1 h1 (Flush s) m2 [] m3 (call.Settles d) (call.Settles d2) Done mid row in
      absurd (some (no_values m1 (given_back batch_size (Flush s) h1) k.3))

  pub flush_still : (result ≡ Goes) ⊎ (result ≡ Waits) → Still c3
  flush_still going =
      let st2 : Steps Took value_at m2 (plan_at defers left_over c (at.Flushes s d)) m3 (c3, result) =
      subst (λ (p : Reclaiming). Steps Took value_at m2 (plan_at defers left_over c p) m3 (c3, result)) is st in
      let back = steps_back (within (λ (k : Settle). standing c (at.Flushes s k)) (next_batch (record c { again = true }) s)) m2 m3 (settle_plan defers d) (c3, result) st2 in
      by_progress back.0.0 back.0.1 back.1 back.2 going
