-- Each step of the rounds over batches, and of giving up slots: it may be taken, and leads on by beginnings and steps of rows.
use Rattle.std.specs.Prelude.{Option, Some, ◌==◌, if◌then◌else◌}
use Rattle.std.proofs.Common.{◌≡◌, ℕ, suc, ◌+◌, ◌<◌, ◌≤◌, ◌^◌, Bool, true, false, [], ◌∷◌, inl, inr, refl, arith, subst, sym, ap, ◌∙◌, eqb-true}
use Rattle.std.proofs.lemmas.Bool.{cases_eq, cases_lt}
use Rattle.seize_words.specs.declared.at.At.TheVariants as name
use Rattle.seize_words.specs.OneMemory.Mem.{Mem, Can, Took, value_at, word_at}
use Rattle.seize_words.specs.OneMemory.Plan.{Ends, May, Steps}
use Rattle.seize_words.proofs.OneMemory.OneOwner.Operations.{may_load, loaded}
use Rattle.seize_words.proofs.OneMemory.Plans.{see_if, as_may}
use Rattle.seize.specs.declared.states.TheConstants.{BATCH, LAST_SLOT}
use Rattle.seize.specs.declared.advance.Advance.{Advance}
use Rattle.seize.specs.declared.rows.enter.Unregister.{Unregister}
use Rattle.seize.specs.declared.rows.settle.Settle.{Settle}
use Rattle.seize.specs.declared.rows.settle.Settled.{Settled}
use Rattle.seize.specs.declared.rows.settle.Settled.TheVariants as settled
use Rattle.seize.specs.declared.rows.reclaim_all.ReclaimAll.{ReclaimAll}
use Rattle.seize.specs.declared.rows.reclaim_all.Reclaiming.{Reclaiming}
use Rattle.seize.specs.declared.rows.reclaim_all.Reclaiming.TheVariants as at
use Rattle.seize.specs.Enter.{unregister_plan}
use Rattle.seize.specs.Settle.{settle_plan, flushing}
use Rattle.seize.specs.ReclaimAll.{standing, next_batch, next_free, to, within, batch_read, batches, plan_at}
use Rattle.seize.specs.Sequence.{Calls}
use Rattle.seize.specs.WaitingSets.{Sets, flushed}
use Rattle.seize.specs.World.{World, Row, Rests, Settles, Frees, Use, Vacant, Outside, Changing, IsTaken, Flush, Unregister', Step, Steps', IsOutside, one_more, settle_effects, settles_on, with_row, with_use, after_step}
use Rattle.seize_model.proofs.Given.SeizeRuleRows.Effects.{settle_one}
use Rattle.seize_model.proofs.Given.SeizeRuleRows.Leaving.{steps_back}
use Rattle.seize_model.proofs.Given.SeizeRuleRows.Others.{with_here}
use Rattle.seize_model.proofs.Given.SeizeRuleRows.Taken.{settle_tells}
use Rattle.seize_model.proofs.Given.SeizeRuleWorld.Kept.{row_may}
use Rattle.seize_model.proofs.Given.SeizeRuleWorld.Rested.{calls_rested, begins_lone}
use Rattle.seize_model.proofs.Sets.Slots.Kept.{flush_outside, flush_vacant, given_up_vacant}
use Rattle.seize_model.proofs.Sets.Turns.All.{calls_come}
use Rattle.seize_model.proofs.Sets.Turns.Begins.{Shown}
use Rattle.seize_model.proofs.Given.SeizeWaitingFlushes.{flushed_frame}
use Rattle.seize_acts.proofs.Acts.Reclaimed.Flushed.{batch_zero}
use Rattle.seize_acts.proofs.Quiet.Slots.Came.{came_reached, came_on, came_next}
use Rattle.seize_acts.specs.Quiet.Slots.{AllRest, HasNoBatch, Came, Flushing, Freeing, Within, Stage}
use Rattle.seize_acts.proofs.Quiet.Slots.Facts.{outside_at, rested_by, held_by, calls_run, word_here, sets_now, shown_now, open_none_now}
use Rattle.seize_acts.proofs.Quiet.Slots.Rows.{goes_told, gave_told, lone_in, more_in, ends_in, settle_waits_not}
use Rattle.seize_acts.proofs.Quiet.Slots.Stages.{round_on, free_on}
use Rattle.seize_acts.proofs.Quiet.Slots.Steps.{LedTo, looked, began, machine}

module _ {T : Type 0} (defers : T → Option ℕ) (left_over : T → Bool) (size roots i : ℕ) (word : size < 2 ^ 64) where
  -- a slot that has no batch has none after a row on another slot, or one that gives it up
  module _ (slots : ℕ) (v u : World T) (came : Came defers size v) (rests : AllRest v) (idle : (t : ℕ) → t < slots → v.uses t ≡ Outside 0) (vacant : (t : ℕ) → slots ≤ t → v.uses t ≡ Vacant)
      (came2 : Came defers size u) where
    outside : (t : ℕ) → IsOutside (v.uses t)
    outside = outside_at slots v.uses idle vacant

    none_then : (sets2 : Sets) → Shown defers (LAST_SLOT + 1) size u sets2 → (t : ℕ) → t ≤ LAST_SLOT → sets2.open_batch t ≡ [] → HasNoBatch u t
    none_then sets2 shown t le none x is = batch_zero defers size u sets2 shown (held_by defers size u came2) t (omega (arith, le)) none x is

    pub none_by_flush : (s : ℕ) → Calls defers size i (Flush s) v u → (t : ℕ) → t ≤ LAST_SLOT → (t ≡ s → ⊥) → HasNoBatch v t → HasNoBatch u t
    none_by_flush s call t le ne none =
        let sets = sets_now defers size v came rests outside in
        let came_there = calls_come defers (LAST_SLOT + 1) size refl word i (Flush s) v u sets (shown_now defers size v came rests outside) call in
        none_then (flushed size s sets).sets came_there.shown t le ((flushed_frame size s sets).others t ne ∙ open_none_now defers size v came rests outside word t le none)

  pub none_by_giving : (s : ℕ) (v u : World T) (came : Came defers size v) (rests : AllRest v) → ((t : ℕ) → IsOutside (v.uses t)) → Came defers size u
      → Calls defers size i (Unregister' s) v u → (t : ℕ) → t ≤ LAST_SLOT → HasNoBatch v t → HasNoBatch u t
  none_by_giving s v u came rests outside came2 call t le none x is =
      let sets = sets_now defers size v came rests outside in
      let came_there = calls_come defers (LAST_SLOT + 1) size refl word i (Unregister' s) v u sets (shown_now defers size v came rests outside) call in
      let after : Shown defers (LAST_SLOT + 1) size u sets = came_there.shown in
      batch_zero defers size u sets after (held_by defers size u came2) t (omega (arith, le)) (open_none_now defers size v came rests outside word t le none) x is

  module _ (w : World T) (came : Came defers size w) (batch slots all : ℕ) (again : Bool) (ss : batch ≡ size) (rs : all ≡ roots) where
    abbrev here : Reclaiming → ReclaimAll
    here p = machine defers left_over size roots i word w came batch slots all again ss rs p

    abbrev Leads : Reclaiming → Mem T → ReclaimAll × Settled T → Type 0
    Leads point m2 end = LedTo defers left_over size roots i word w came point m2 end

    -- batches

    module _ (s : ℕ) (lt : s < slots) (f : Flushing slots s again w) where
      abbrev batch_c : ReclaimAll
      batch_c = here (at.Batches s)

      pub passed : word_at w.memory (name.Slot s BATCH) ≡ Some 0 → Flushing slots (suc s) again w
      passed zero_word = record {
        rests = f.rests;
        few = f.few;
        idle = f.idle;
        vacant = f.vacant;
        others = f.others;
        none = λ e t l. (elim (cases_eq t s) as (λ _. HasNoBatch w t) [
          | inl same ↦ λ x is. same_word x (sym (subst (λ (y : ℕ). word_at w.memory (name.Slot y BATCH) ≡ Some x) same is) ∙ zero_word)
          | inr ne ↦ f.none e t (omega (arith, l, ne))
        ]);
      }
        where
          same_word : (x : ℕ) → Some x ≡ Some 0 → x ≡ 0
          same_word x e = cc e

      by_batch : (a : ℕ) (m2 : Mem T) (end : ReclaimAll × Settled T) → word_at w.memory (name.Slot s BATCH) ≡ Some a → m2 ≡ w.memory
          → (x : Bool) → (x ≡ true → a ≡ 0)
          → Ends (value_at w.memory) (if x then to (next_batch batch_c s) else to (standing batch_c (at.Flushes s (flushing s batch)))) end
          → Leads (at.Batches s) m2 end
      by_batch a m2 end is same true zero_word e =
          looked defers left_over size roots i word w came (at.Batches s) m2 end (next_batch batch_c s) (λ to begins. begins) (f.rests i) same e (round_on defers size roots i batch_c ss rs w s lt (passed (is ∙ ap Some (zero_word refl))))
      by_batch a m2 end is same false zero_word e =
          let row = Settles (flushing s size) in
          let u = with_use (with_row w i row) s (one_more (w.uses s)) in
          let taken : IsTaken (w.uses s) = subst (λ (x : Use). IsTaken x) (sym (f.idle s lt)) tt in
          began defers left_over size roots i word w came (at.Batches s) m2 end (standing batch_c (at.Flushes s (flushing s batch))) (Flush s) u (f.rests i) (refl, tt, tt) (taken, refl) (taken, refl) refl refl same e
          (record {
            size_is = ss;
            roots_are = rs;
            here = (
              lt,
              subst (λ (k : ℕ). Within defers size i (Flush s) (Flushing slots s again) (Settles (flushing s k)) u) (sym ss)
                  (record { before = w; so = f; came = came; begun = u; begins = (taken, refl); steps = 0; takes = refl; row_is = with_here w.row i row }),
            );
          })

      pub batch_led : (m2 : Mem T) (end : ReclaimAll × Settled T) → Steps Took value_at w.memory (batches batch_c s) m2 end → Leads (at.Batches s) m2 end
      batch_led m2 end steps =
          let d = loaded w.memory (batch_read batch_c s) (name.Slot s BATCH) m2 end steps in
          by_batch d.0 m2 end d.1 d.2 (d.0 == 0) (eqb-true d.0 0) d.3

      pub batch_may : May Can Took value_at w.memory (batches {T = T} batch_c s)
      batch_may =
          may_load w.memory (batch_read batch_c s) (name.Slot s BATCH) (word_here defers size w came f.rests s BATCH (f.idle s lt) (let q = f.few in omega (arith, lt, q)) (omega arith))
          (λ a e. see_if (value_at w.memory) (a == 0) _ _ (λ q. tt) (λ q. tt))

    -- flushing

    module _ (s : ℕ) (l : Settle) (lt : s < slots) (h : Within defers size i (Flush s) (Flushing slots s again) (Settles l) w) where
      abbrev flush_c : ReclaimAll
      flush_c = here (at.Flushes s l)

      abbrev flushing_at : Settle → ReclaimAll
      flushing_at d = standing flush_c (at.Flushes s d)

      abbrev behind : ReclaimAll
      behind = next_batch (record flush_c { again = true }) s

      module _ (m2 : Mem T) where
        pub flush_step : (e : Settle × Settled T) → Steps Took value_at w.memory (settle_plan defers l) m2 e → Steps' defers i (w.row i) w (settles_on w i l m2 e)
        flush_step e st = subst (λ (row : Row). Steps' defers i row w (settles_on w i l m2 e)) (sym h.row_is) (m2, e, st, refl)

        pub flush_came : (e : Settle × Settled T) → Steps Took value_at w.memory (settle_plan defers l) m2 e → Came defers size (settles_on w i l m2 e)
        flush_came e st = came_next defers size w (settles_on w i l m2 e) (Step i) came (flush_step e st)

        pub flush_on : (d : Settle) (p : Settled T) (st : Steps Took value_at w.memory (settle_plan defers l) m2 (d, p)) → (settles_on w i l m2 (d, p)).row i ≡ Settles d
            → Stage defers size i roots (flushing_at d) (settles_on w i l m2 (d, p))
        flush_on d p st is = record {
          size_is = ss;
          roots_are = rs;
          here = (lt, more_in defers size i (Flush s) (Flushing slots s again) (λ v so. so.rests) (Settles l) (Settles d) w (settles_on w i l m2 (d, p)) h (flush_step (d, p) st) is);
        }

        pub flush_over : (d : Settle) (st : Steps Took value_at w.memory (settle_plan defers l) m2 (d, settled.Done)) → Stage defers size i roots behind (settles_on w i l m2 (d, settled.Done))
        flush_over d st =
            let u = settles_on w i l m2 (d, settled.Done) in
            let v = h.before in
            let f = h.so in
            let call = ends_in defers size i (Flush s) (Flushing slots s again) (λ x so. so.rests) (Settles l) w u h (flush_step (d, settled.Done) st) (with_here w.row i Rests) in
            let rested = calls_rested defers (LAST_SLOT + 1) size refl i (Flush s) v u (rested_by defers size v h.came f.rests) call in
            round_on defers size roots i (record flush_c { again = true }) ss rs u s lt
            (record {
              rests = rested.rests;
              few = f.few;
              idle = λ t b. flush_outside defers i (LAST_SLOT + 1) size s t refl v u rested call (f.idle t b);
              vacant = λ t b. flush_vacant defers i size s t v u call (f.vacant t b);
              others = λ t b le. none_by_flush slots v u h.came f.rests f.idle f.vacant (flush_came (d, settled.Done) st) s call t le (λ e. omega (arith, e, b, lt)) (f.others t b le);
              none = λ e t b. absurd (cc e);
            })

        abbrev pub flush_by : (e : Settle × Settled T) → Steps Took value_at w.memory (settle_plan defers l) m2 e → Leads (at.Flushes s l) m2 (within flushing_at behind e)
        flush_by (d, settled.Goes) st = record {
          w2 = settles_on w i l m2 (d, settled.Goes);
          events = Step i ∷ [];
          own = (refl, tt);
          runs = (settles_on w i l m2 (d, settled.Goes), flush_step (d, settled.Goes) st, refl);
          does = flush_step (d, settled.Goes) st;
          memory = refl;
          told = goes_told defers size w m2 (settle_effects l l.stands) (settles_on w i l m2 (d, settled.Goes)) refl (settle_tells defers w.memory m2 l (d, settled.Goes) st);
          stage = flush_on d settled.Goes st (with_here w.row i (Settles d));
        }
        flush_by (d, settled.Waits) st =
            absurd (settle_waits_not defers size i w came (lone_in defers size i (Flush s) (Flushing slots s again) (λ v so. so.rests) (Settles l) w h) l d m2 h.row_is st)
        flush_by (d, settled.Gave value) st = record {
          w2 = settles_on w i l m2 (d, settled.Gave value);
          events = Step i ∷ [];
          own = (refl, tt);
          runs = (settles_on w i l m2 (d, settled.Gave value), flush_step (d, settled.Gave value) st, refl);
          does = flush_step (d, settled.Gave value) st;
          memory = refl;
          told = gave_told defers size w m2 (settle_effects l l.stands) (settles_on w i l m2 (d, settled.Gave value)) refl (flush_came (d, settled.Gave value) st) (settle_one l l.stands) refl value
              (settle_tells defers w.memory m2 l (d, settled.Gave value) st);
          stage = flush_on d (settled.Gave value) st (with_here w.row i (Settles d));
        }
        flush_by (d, settled.Done) st = record {
          w2 = settles_on w i l m2 (d, settled.Done);
          events = Step i ∷ [];
          own = (refl, tt);
          runs = (settles_on w i l m2 (d, settled.Done), flush_step (d, settled.Done) st, refl);
          does = flush_step (d, settled.Done) st;
          memory = refl;
          told = refl;
          stage = flush_over d st;
        }

        pub flush_led : (end : ReclaimAll × Settled T) → Steps Took value_at w.memory (plan_at defers left_over flush_c (at.Flushes s l)) m2 end → Leads (at.Flushes s l) m2 end
        flush_led end steps =
            let back = steps_back (within flushing_at behind) w.memory m2 (settle_plan defers l) end steps in
            subst (λ (p : ReclaimAll × Settled T). Leads (at.Flushes s l) m2 p) (sym back.2) (flush_by back.0 back.1)

      pub flush_may : May Can Took value_at w.memory (plan_at defers left_over flush_c (at.Flushes s l))
      flush_may =
          as_may (within flushing_at behind) Can Took value_at w.memory (settle_plan defers l)
          (row_may defers (LAST_SLOT + 1) size refl w (came_reached defers size w came).good i (Settles l) h.row_is)

    -- giving up

    module _ (s : ℕ) (lt : s < slots) (f : Freeing slots s w) where
      abbrev free_c : ReclaimAll
      free_c = here (at.Frees s)

      abbrev gives : Unregister
      gives = record { slot = s }

      abbrev goes : Unregister × Advance Unit → ReclaimAll × Settled T
      goes end = (next_free free_c s, settled.Goes)

      abbrev freeing : World T
      freeing = with_use (with_row w i (Frees gives)) s Changing

      idle_now : w.uses s ≡ Outside 0
      idle_now = f.idle s (omega arith) lt

      outside_now : (t : ℕ) → IsOutside (w.uses t)
      outside_now t = elim (cases_lt t s) as (λ _. IsOutside (w.uses t)) [
        | inl l ↦ subst (λ (x : Use). IsOutside x) (sym (f.freed t l)) tt
        | inr l ↦ (elim (cases_lt t slots) as (λ _. IsOutside (w.uses t)) [
          | inl below ↦ subst (λ (x : Use). IsOutside x) (sym (f.idle t l below)) tt
          | inr past ↦ subst (λ (x : Use). IsOutside x) (sym (f.vacant t past)) tt
        ])
      ]

      module _ (m2 : Mem T) where
        abbrev freed_world : World T
        freed_world = with_use (after_step freeing i m2 Rests []) s Vacant

        free_call : (e : Unregister × Advance Unit) → Steps Took value_at w.memory (unregister_plan gives) m2 e → Calls defers size i (Unregister' s) w freed_world
        free_call e st =
            let step : Steps' defers i (freeing.row i) freeing freed_world =
            subst (λ (row : Row). Steps' defers i row freeing freed_world) (sym (with_here w.row i (Frees gives))) (m2, e, st, refl) in
            (freeing, 1, f.rests i, (idle_now, refl), (freed_world, step, (with_here freeing.row i Rests, refl)))

        free_by : (e : Unregister × Advance Unit) → Steps Took value_at w.memory (unregister_plan gives) m2 e → Leads (at.Frees s) m2 (next_free free_c s, settled.Goes)
        free_by e st =
            let call = free_call e st in
            let run = calls_run defers size i (Unregister' s) tt w freed_world call in
            let came2 = came_on defers size w freed_world run.0 came run.2 in
            let rested = calls_rested defers (LAST_SLOT + 1) size refl i (Unregister' s) w freed_world (rested_by defers size w came f.rests) call in
            let k = given_up_vacant defers i size s w freed_world call in
            record {
              w2 = freed_world;
              events = run.0;
              own = run.1;
              runs = run.2;
              does = call;
              memory = refl;
              told = refl;
              stage = free_on defers size roots i free_c ss rs freed_world s lt
                  (record {
                    rests = rested.rests;
                    few = f.few;
                    idle = λ t a b. k.1 t (λ e. omega (arith, a, e)) ∙ f.idle t (omega (arith, a)) b;
                    freed = λ t a. (elim (cases_eq t s) as (λ _. freed_world.uses t ≡ Vacant) [
                      | inl same ↦ ap freed_world.uses same ∙ k.0
                      | inr ne ↦ k.1 t ne ∙ f.freed t (omega (arith, a, ne))
                    ]);
                    vacant = λ t a. k.1 t (λ e. omega (arith, a, e, lt)) ∙ f.vacant t a;
                    none = λ t a. none_by_giving s w freed_world came f.rests outside_now came2 call t a (f.none t a);
                  });
            }

        pub free_led : (end : ReclaimAll × Settled T) → Steps Took value_at w.memory (plan_at defers left_over free_c (at.Frees s)) m2 end → Leads (at.Frees s) m2 end
        free_led end steps =
            let back = steps_back goes w.memory m2 (unregister_plan gives) end steps in
            subst (λ (p : ReclaimAll × Settled T). Leads (at.Frees s) m2 p) (sym back.2) (free_by back.0 back.1)

      pub free_may : May Can Took value_at w.memory (plan_at defers left_over free_c (at.Frees s))
      free_may =
          as_may goes Can Took value_at w.memory (unregister_plan gives)
          (row_may defers (LAST_SLOT + 1) size refl freeing
          (begins_lone defers (LAST_SLOT + 1) size refl i (Unregister' s) w freeing (rested_by defers size w came f.rests) (idle_now, refl)).good i (Frees gives) (with_here w.row i (Frees gives)))
