-- Each step of the work on slots: it may be taken, and leads on by beginnings and steps of rows.
use Rattle.std.specs.Prelude.{Option, Some, IsSome, nat_lt, ◌==◌, if◌then◌else◌}
use Rattle.std.proofs.Common.{◌≡◌, ℕ, suc, ◌+◌, ◌<◌, ◌≤◌, ◌^◌, Bool, true, false, [], ◌∷◌, inl, inr, refl, arith, subst, sym, ap, ◌∙◌, eqb-true}
use Rattle.std.proofs.lemmas.Bool.{cases_eq}
use Rattle.seize_words.specs.declared.at.At.TheVariants as name
use Rattle.seize_words.specs.OneMemory.Mem.{Mem, Can, Took, value_at, word_at}
use Rattle.seize_words.specs.OneMemory.Plan.{Ends, May, Steps}
use Rattle.seize_words.proofs.OneMemory.OneOwner.AfterWrites.{word_at-with_word}
use Rattle.seize_words.proofs.OneMemory.OneOwner.Operations.{may_load, may_store, loaded, stored}
use Rattle.seize_words.proofs.OneMemory.Plans.{see_if, as_may}
use Rattle.seize.specs.declared.states.TheConstants.{HEAD, NEVER, FREE, IDLE, ACTIVE, LAST_SLOT}
use Rattle.seize.specs.declared.rows.leave.Leave.{Leave}
use Rattle.seize.specs.declared.rows.settle.Settled.{Settled}
use Rattle.seize.specs.declared.rows.settle.Settled.TheVariants as settled
use Rattle.seize.specs.declared.rows.reclaim_all.ReclaimAll.{ReclaimAll}
use Rattle.seize.specs.declared.rows.reclaim_all.Reclaiming.{Reclaiming}
use Rattle.seize.specs.declared.rows.reclaim_all.Reclaiming.TheVariants as at
use Rattle.seize.specs.Leave.{leave_plan, leaving}
use Rattle.seize.specs.ReclaimAll.{standing, first_batch, next_head, to, within, head_read, heads, plan_at}
use Rattle.seize.specs.Sequence.{taken_in}
use Rattle.seize.specs.World.{World, Row, Rests, Leaves, Outside, Changing, Request, Register', Leave', Begin, Step, Steps', Begins, leave_effects, leaves_on, with_row, with_use}
use Rattle.seize_model.proofs.Given.SeizeRuleRows.Effects.{leave_one}
use Rattle.seize_model.proofs.Given.SeizeRuleRows.Leaving.{steps_back}
use Rattle.seize_model.proofs.Given.SeizeRuleRows.LeavesTold.{leave_tells}
use Rattle.seize_model.proofs.Given.SeizeRuleRows.Others.{with_here}
use Rattle.seize_model.proofs.Given.SeizeMemoryWords.Named.{same_at-refl}
use Rattle.seize_model.proofs.Given.SeizeRuleWorld.Kept.{row_may}
use Rattle.seize_model.proofs.Given.SeizeRuleWorld.Rested.{calls_rested}
use Rattle.seize_model.proofs.Sets.Slots.Kept.{leave_idles}
use Rattle.seize_model.proofs.Sets.Slots.Retaken.{retaken, retaken_idle}
use Rattle.seize_model.proofs.Sets.Turns.Heads.{word_says, outside_by, inside_by}
use Rattle.seize_acts.proofs.Quiet.Slots.Came.{came_reached, came_on, came_next}
use Rattle.seize_acts.specs.Quiet.Slots.{AreItsRows, Came, Settling, Within, StageAt, Stage, BeginsAt, DoesAt, Led}
use Rattle.seize_acts.proofs.Quiet.Slots.Facts.{rested_by, calls_run}
use Rattle.seize_acts.proofs.Quiet.Slots.Rows.{goes_told, gave_told, lone_in, more_in, ends_in, leave_waits_not}
use Rattle.seize_acts.proofs.Quiet.Slots.Stages.{next_slot, stops_here}
use Rattle.seize_model.proofs.Sets.Reclaims.Stages.{is_two, above_two}

module _ {T : Type 0} (defers : T → Option ℕ) (left_over : T → Bool) (size roots i : ℕ) (word : size < 2 ^ 64) where
  module _ (w : World T) (came : Came defers size w) where
    abbrev pub LedTo : Reclaiming → Mem T → ReclaimAll × Settled T → Type 0
    LedTo point m2 end = Led defers size i roots w point m2 end.0 end.1

    -- where no row is under way, none is within any point
    pub no_row : (c : ReclaimAll) → w.row i ≡ Rests → (p : Reclaiming) → StageAt defers size i c w p → BeginsAt defers size i w w p
    no_row c rests (at.Leaves s l) (none, lt, h) = absurd (let row = h.row_is in cc (rests, row))
    no_row c rests (at.Flushes s l) (lt, h) = absurd (let row = h.row_is in cc (rests, row))
    no_row c rests _ h = refl

    module _ (point : Reclaiming) (m2 : Mem T) (end : ReclaimAll × Settled T) (c2 : ReclaimAll) where
      -- in the same memory, with no row, or a row that begins
      pub looked : ((to : Reclaiming) → BeginsAt defers size i w w to → DoesAt defers size i [] w w point to) → w.row i ≡ Rests → m2 ≡ w.memory → end ≡ (c2, settled.Goes) → Stage defers size i roots c2 w → LedTo point m2 end
      looked looks rests same e st =
          subst (λ (p : ReclaimAll × Settled T). LedTo point m2 p) (sym e)
          (record { w2 = w; events = []; own = tt; runs = refl; does = looks c2.stands (no_row c2 rests c2.stands st.here); memory = sym same; told = refl; stage = st })

      pub began : (request : Request) (u : World T) → w.row i ≡ Rests → AreItsRows {T = T} i (Begin i request ∷ [])
          → Begins defers size i request w u → DoesAt defers size i (Begin i request ∷ []) w u point c2.stands → u.memory ≡ w.memory → u.log ≡ w.log → m2 ≡ w.memory → end ≡ (c2, settled.Goes)
          → Stage defers size i roots c2 u → LedTo point m2 end
      began request u rests own b does memory log same e st =
          subst (λ (p : ReclaimAll × Settled T). LedTo point m2 p) (sym e)
          (record { w2 = u; events = Begin i request ∷ []; own = own; runs = (u, (rests, b), refl); does = does; memory = memory ∙ sym same; told = ap taken_in log; stage = st })

    module _ (batch slots all : ℕ) (again : Bool) (ss : batch ≡ size) (rs : all ≡ roots) where
      abbrev pub machine : Reclaiming → ReclaimAll
      machine p = record { batch_size = batch; roots = all; slots = slots; again = again; stands = p }

      -- heads

      module _ (s : ℕ) (none : again ≡ false) (lt : s ≤ LAST_SLOT) (st : Settling s w) where
        idle_more : (u : World T) → ((t : ℕ) → t < s → u.uses t ≡ Outside 0) → u.uses s ≡ Outside 0 → (t : ℕ) → t < suc s → u.uses t ≡ Outside 0
        idle_more u idle here t l = elim (cases_eq t s) as (λ _. u.uses t ≡ Outside 0) [
          | inl same ↦ ap u.uses same ∙ here
          | inr ne ↦ idle t (omega (arith, l, ne))
        ]

        abbrev head_c : ReclaimAll
        head_c = machine (at.Heads s)

        abbrev HeadLed : Mem T → ReclaimAll × Settled T → Type 0
        HeadLed m2 end = LedTo (at.Heads s) m2 end

        seen : (m2 : Mem T) (end : ReclaimAll × Settled T) (c2 : ReclaimAll) → m2 ≡ w.memory → end ≡ (c2, settled.Goes) → Stage defers size i roots c2 w → HeadLed m2 end
        seen m2 end c2 same e stage = looked (at.Heads s) m2 end c2 (λ to begins. begins) (st.rests i) same e stage

        by_head : (a : ℕ) (m2 : Mem T) (end : ReclaimAll × Settled T) → word_at w.memory (name.Slot s HEAD) ≡ Some a → m2 ≡ w.memory
            → (x y z : Bool) → (a == NEVER) ≡ x → (a == FREE) ≡ y → nat_lt a ACTIVE ≡ z
            → Ends (value_at w.memory) (if x then to (first_batch (record head_c { slots = s })) else
            (if y then to (standing head_c (at.Retakes s)) else
            (if z then to (next_head head_c s) else to (standing head_c (at.Leaves s (leaving s batch IDLE false)))))) end
            → HeadLed m2 end
        by_head a m2 end is same true y z p q l e =
            seen m2 end (first_batch (record head_c { slots = s })) same e
            (stops_here defers size roots i head_c ss rs w came s lt none st (is ∙ ap Some (eqb-true a 0 p)))
        by_head a m2 end is same false true z p q l e =
            seen m2 end (standing head_c (at.Retakes s)) same e
            (record { size_is = ss; roots_are = rs; here = (none, lt, st, is ∙ ap Some (eqb-true a FREE q)) })
        by_head a m2 end is same false false true p q l e =
            let here = outside_by (w.uses s) a (word_says defers (LAST_SLOT + 1) size refl w (rested_by defers size w came st.rests) s a is) (is_two a p q l) in
            seen m2 end (next_head head_c s) same e
            (next_slot defers size roots i head_c ss rs w came s lt none (record { rests = st.rests; idle = idle_more w st.idle here }))
        by_head a m2 end is same false false false p q l e =
            let inside = inside_by (w.uses s) a (word_says defers (LAST_SLOT + 1) size refl w (rested_by defers size w came st.rests) s a is) (above_two a l) in
            let row = Leaves (leaving s size IDLE false) in
            let u = with_use (with_row w i row) s Changing in
            began (at.Heads s) m2 end (standing head_c (at.Leaves s (leaving s batch IDLE false))) (Leave' s) u (st.rests i) (refl, tt, tt) (inside, refl) (inside, refl) refl refl same e
            (record {
              size_is = ss;
              roots_are = rs;
              here = (
                none,
                lt,
                subst (λ (k : ℕ). Within defers size i (Leave' s) (Settling s) (Leaves (leaving s k IDLE false)) u) (sym ss)
                    (record { before = w; so = st; came = came; begun = u; begins = (inside, refl); steps = 0; takes = refl; row_is = with_here w.row i row }),
              );
            })

        pub head_led : (m2 : Mem T) (end : ReclaimAll × Settled T) → Steps Took value_at w.memory (heads head_c s) m2 end → HeadLed m2 end
        head_led m2 end steps =
            let d = loaded w.memory (head_read head_c s) (name.Slot s HEAD) m2 end steps in
            by_head d.0 m2 end d.1 d.2 (d.0 == NEVER) (d.0 == FREE) (nat_lt d.0 ACTIVE) refl refl refl d.3

        pub head_may : IsSome (word_at w.memory (name.Slot s HEAD)) → May Can Took value_at w.memory (heads {T = T} head_c s)
        head_may there =
            may_load w.memory (head_read head_c s) (name.Slot s HEAD) there
            (λ a e. see_if (value_at w.memory) (a == NEVER) _ _ (λ q. tt) (λ q. see_if (value_at w.memory) (a == FREE) _ _ (λ r. tt) (λ r. see_if (value_at w.memory) (nat_lt a ACTIVE) _ _ (λ t. tt) (λ t. tt))))

        -- a slot that was given up is taken again
        pub retake_led : word_at w.memory (name.Slot s HEAD) ≡ Some FREE → (m2 : Mem T) (end : ReclaimAll × Settled T)
            → Steps Took value_at w.memory (plan_at defers left_over (machine (at.Retakes s)) (at.Retakes s)) m2 end → LedTo (at.Retakes s) m2 end
        retake_led free m2 end steps =
            let n = LAST_SLOT + 1 in
            let rested = rested_by defers size w came st.rests in
            let d = stored w.memory (λ out. to (next_head (machine (at.Retakes s)) s)) (name.Slot s HEAD) IDLE m2 end steps in
            let call = retaken defers n size refl i w rested s (omega (arith, lt)) free st.idle in
            let u = call.0 in
            let run = calls_run defers size i (Register' false) refl w u call.1 in
            let after = calls_rested defers n size refl i (Register' false) w u rested call.1 in
            let two : word_at u.memory (name.Slot s HEAD) ≡ Some 2 =
            ap (λ (m : Mem T). word_at m (name.Slot s HEAD)) call.2
            ∙ word_at-with_word w.memory (name.Slot s HEAD) IDLE (name.Slot s HEAD) (subst (λ (o : Option ℕ). IsSome o) (sym free) refl)
            ∙ ap (λ (b : Bool). if b then Some IDLE else word_at w.memory (name.Slot s HEAD)) (same_at-refl (name.Slot s HEAD)) in
            subst (λ (p : ReclaimAll × Settled T). LedTo (at.Retakes s) m2 p) (sym d.1)
            (record {
              w2 = u;
              events = run.0;
              own = run.1;
              runs = run.2;
              does = call.1;
              memory = call.2 ∙ sym d.0;
              told = ap taken_in call.4;
              stage = next_slot defers size roots i (machine (at.Retakes s)) ss rs u (came_on defers size w u run.0 came run.2) s lt none
                  (record {
                    rests = after.rests;
                    idle = idle_more u (retaken_idle defers n size refl i w rested s (omega (arith, lt)) free st.idle u call.1)
                        (outside_by (u.uses s) 2 (word_says defers n size refl u after s 2 two) refl);
                  });
            })

        pub retake_may : word_at w.memory (name.Slot s HEAD) ≡ Some FREE → May Can Took value_at w.memory (plan_at defers left_over (machine (at.Retakes s)) (at.Retakes s))
        retake_may free = may_store w.memory (λ out. to (next_head (machine (at.Retakes s)) s)) (name.Slot s HEAD) IDLE (subst (λ (o : Option ℕ). IsSome o) (sym free) refl) tt

      -- leaving

      module _ (s : ℕ) (l : Leave) (none : again ≡ false) (lt : s ≤ LAST_SLOT) (h : Within defers size i (Leave' s) (Settling s) (Leaves l) w) where
        abbrev leave_c : ReclaimAll
        leave_c = machine (at.Leaves s l)

        abbrev leaving_at : Leave → ReclaimAll
        leaving_at d = standing leave_c (at.Leaves s d)

        module _ (m2 : Mem T) where
          leave_step : (e : Leave × Settled T) → Steps Took value_at w.memory (leave_plan defers l) m2 e → Steps' defers i (w.row i) w (leaves_on w i l m2 e)
          leave_step e st = subst (λ (row : Row). Steps' defers i row w (leaves_on w i l m2 e)) (sym h.row_is) (m2, e, st, refl)

          leave_came : (e : Leave × Settled T) → Steps Took value_at w.memory (leave_plan defers l) m2 e → Came defers size (leaves_on w i l m2 e)
          leave_came e st = came_next defers size w (leaves_on w i l m2 e) (Step i) came (leave_step e st)

          leave_on : (d : Leave) (p : Settled T) (st : Steps Took value_at w.memory (leave_plan defers l) m2 (d, p)) → (leaves_on w i l m2 (d, p)).row i ≡ Leaves d
              → Stage defers size i roots (leaving_at d) (leaves_on w i l m2 (d, p))
          leave_on d p st is = record {
            size_is = ss;
            roots_are = rs;
            here = (none, lt, more_in defers size i (Leave' s) (Settling s) (λ v so. so.rests) (Leaves l) (Leaves d) w (leaves_on w i l m2 (d, p)) h (leave_step (d, p) st) is);
          }

          leave_over : (d : Leave) (st : Steps Took value_at w.memory (leave_plan defers l) m2 (d, settled.Done)) → Stage defers size i roots (next_head leave_c s) (leaves_on w i l m2 (d, settled.Done))
          leave_over d st =
              let u = leaves_on w i l m2 (d, settled.Done) in
              let call = ends_in defers size i (Leave' s) (Settling s) (λ v so. so.rests) (Leaves l) w u h (leave_step (d, settled.Done) st) (with_here w.row i Rests) in
              let rested = calls_rested defers (LAST_SLOT + 1) size refl i (Leave' s) h.before u (rested_by defers size h.before h.came h.so.rests) call in
              let k = leave_idles defers i size s h.before u call in
              next_slot defers size roots i leave_c ss rs u (leave_came (d, settled.Done) st) s lt none
              (record {
                rests = rested.rests;
                idle = λ t b. (elim (cases_eq t s) as (λ _. u.uses t ≡ Outside 0) [
                  | inl same ↦ ap u.uses same ∙ k.0
                  | inr ne ↦ k.1 t ne ∙ h.so.idle t (omega (arith, b, ne))
                ]);
              })

          leave_by : (e : Leave × Settled T) → Steps Took value_at w.memory (leave_plan defers l) m2 e → LedTo (at.Leaves s l) m2 (within leaving_at (next_head leave_c s) e)
          leave_by (d, settled.Goes) st = record {
            w2 = leaves_on w i l m2 (d, settled.Goes);
            events = Step i ∷ [];
            own = (refl, tt);
            runs = (leaves_on w i l m2 (d, settled.Goes), leave_step (d, settled.Goes) st, refl);
            does = leave_step (d, settled.Goes) st;
            memory = refl;
            told = goes_told defers size w m2 (leave_effects l l.stands) (leaves_on w i l m2 (d, settled.Goes)) refl (leave_tells defers w.memory m2 l (d, settled.Goes) st);
            stage = leave_on d settled.Goes st (with_here w.row i (Leaves d));
          }
          leave_by (d, settled.Waits) st =
              absurd (leave_waits_not defers size i w came (lone_in defers size i (Leave' s) (Settling s) (λ v so. so.rests) (Leaves l) w h) l d m2 h.row_is st)
          leave_by (d, settled.Gave value) st = record {
            w2 = leaves_on w i l m2 (d, settled.Gave value);
            events = Step i ∷ [];
            own = (refl, tt);
            runs = (leaves_on w i l m2 (d, settled.Gave value), leave_step (d, settled.Gave value) st, refl);
            does = leave_step (d, settled.Gave value) st;
            memory = refl;
            told = gave_told defers size w m2 (leave_effects l l.stands) (leaves_on w i l m2 (d, settled.Gave value)) refl (leave_came (d, settled.Gave value) st) (leave_one l l.stands) refl value
                (leave_tells defers w.memory m2 l (d, settled.Gave value) st);
            stage = leave_on d (settled.Gave value) st (with_here w.row i (Leaves d));
          }
          leave_by (d, settled.Done) st = record {
            w2 = leaves_on w i l m2 (d, settled.Done);
            events = Step i ∷ [];
            own = (refl, tt);
            runs = (leaves_on w i l m2 (d, settled.Done), leave_step (d, settled.Done) st, refl);
            does = leave_step (d, settled.Done) st;
            memory = refl;
            told = goes_told defers size w m2 (leave_effects l l.stands) (leaves_on w i l m2 (d, settled.Done)) refl (leave_tells defers w.memory m2 l (d, settled.Done) st);
            stage = leave_over d st;
          }

          pub leave_led : (end : ReclaimAll × Settled T) → Steps Took value_at w.memory (plan_at defers left_over leave_c (at.Leaves s l)) m2 end → LedTo (at.Leaves s l) m2 end
          leave_led end steps =
              let back = steps_back (within leaving_at (next_head leave_c s)) w.memory m2 (leave_plan defers l) end steps in
              subst (λ (p : ReclaimAll × Settled T). LedTo (at.Leaves s l) m2 p) (sym back.2) (leave_by back.0 back.1)

        pub leave_may : May Can Took value_at w.memory (plan_at defers left_over leave_c (at.Leaves s l))
        leave_may =
            as_may (within leaving_at (next_head leave_c s)) Can Took value_at w.memory (leave_plan defers l)
            (row_may defers (LAST_SLOT + 1) size refl w (came_reached defers size w came).good i (Leaves l) h.row_is)
