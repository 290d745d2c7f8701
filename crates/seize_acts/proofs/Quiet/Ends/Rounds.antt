-- From within the rounds over batches: what is so of whatever comes behind them is so there. A flush leaves less in the waiting sets.
use Rattle.std.specs.Prelude.{Option, Some, ◌==◌, if◌then◌else◌}
use Rattle.std.proofs.Common.{◌≡◌, ℕ, ◌+◌, ◌<◌, ◌≤◌, ◌^◌, Bool, true, false, List, [], ◌∷◌, length, ◌⊎◌, inl, inr, refl, arith, ap, sym, subst, ◌∙◌, eqb-true}
use Rattle.std.proofs.lemmas.Bool.{eqb-false}
use Rattle.seize_words.specs.declared.at.At.TheVariants as name
use Rattle.seize_words.specs.OneMemory.Mem.{Mem, Took, value_at, word_at}
use Rattle.seize_words.specs.OneMemory.Plan.{Ends, Steps}
use Rattle.seize_words.proofs.OneMemory.OneOwner.Operations.{loaded}
use Rattle.seize.specs.declared.states.TheConstants.{BATCH, LAST_SLOT}
use Rattle.seize.specs.declared.rows.settle.Settled.{Settled}
use Rattle.seize.specs.declared.rows.settle.Settled.TheVariants as settled
use Rattle.seize.specs.declared.rows.reclaim_all.ReclaimAll.{ReclaimAll}
use Rattle.seize.specs.declared.rows.reclaim_all.Reclaiming.{Reclaiming}
use Rattle.seize.specs.declared.rows.reclaim_all.Reclaiming.TheVariants as at
use Rattle.seize.specs.Settle.{flushing}
use Rattle.seize.specs.ReclaimAll.{standing, next_batch, to, batch_read, plan_at}
use Rattle.seize.specs.WaitingSets.{Sets, flushed}
use Rattle.seize.specs.World.{World, Settles, Use, IsTaken, Flush, Begin, one_more, with_row, with_use}
use Rattle.seize_model.proofs.Given.SeizeRuleRows.Others.{with_here}
use Rattle.seize_model.proofs.Sets.Turns.Begins.{Shown}
use Rattle.seize_model.proofs.Given.SeizeWaitingFlushes.{much, flushed_frame}
use Rattle.seize_acts.proofs.Acts.Reclaimed.Flushed.{batch_zero, flush_lower}
use Rattle.seize_acts.specs.Reclaims.AllReclaimed.{weight_at}
use Rattle.seize_acts.proofs.Reclaims.AllReclaimed.Weights.{weight, at_next_batch}
use Rattle.seize_acts.specs.Quiet.Slots.{Flushing, Within, StageAt, Stage, Led}
use Rattle.seize_acts.specs.Quiet.Promises.{IsOnSlots}
use Rattle.seize_acts.proofs.Quiet.Slots.Came.{came_on}
use Rattle.seize_acts.proofs.Quiet.Slots.Facts.{held_by}
use Rattle.seize_acts.proofs.Quiet.Slots.Flushes.{passed}
use Rattle.seize_acts.proofs.Quiet.Slots.Stages.{round_on}
use Rattle.seize_acts.proofs.Quiet.Slots.Steps.{no_row}
use Rattle.seize_acts.proofs.Quiet.Ends.Measures.{by_two}
use Rattle.seize_acts.proofs.Quiet.Ends.Flushes.{IsBatch, rounds_on, flush_ends}
use Rattle.seize_acts.proofs.Quiet.Ends.Frees.{IsFreeing, Point, Backward, frees_end}
use Rattle.seize_words.proofs.General.{at_most_itself as no_more}

module _ {T : Type 0} (defers : T → Option ℕ) (left_over : T → Bool) (size roots i : ℕ) (word : size < 2 ^ 64) (Q : World T → ReclaimAll → Type 0) (back : Backward defers left_over size roots i word Q) where
  abbrev At : Type 0
  At = Point defers left_over size roots i word

  abbrev Sure : At → Type 0
  Sure x = Q x.w x.c

  abbrev ShownIn : World T → Sets → Type 0
  ShownIn v sets = Shown defers (LAST_SLOT + 1) size v sets

  -- It looks at a batch, while the waiting sets are these.
  pub record Round : Type 0 where
    pub x : At
    pub s : ℕ
    pub is : x.c.stands ≡ at.Batches s
    pub sets : Sets
    pub shown : ShownIn x.w sets
    pub quiet : sets.active ≡ []

  abbrev much_in : Round → ℕ
  much_in r = much (LAST_SLOT + 1) r.sets

  abbrev left_in : Round → ℕ
  left_in r = weight r.x.c

  module _ (r : Round) (below : (q : Round) → (much_in q < much_in r) ⊎ ((much_in q ≤ much_in r) × (left_in q < left_in r)) → Sure q.x) where
    abbrev c : ReclaimAll
    c = r.x.c

    abbrev w : World T
    w = r.x.w

    abbrev s : ℕ
    s = r.s

    point : (s < c.slots) × Flushing c.slots s c.again w
    point = subst (λ (p : Reclaiming). StageAt defers size i c w p) r.is r.x.stage.here

    few : s < LAST_SLOT + 1
    few = let a = point.0 in let b = point.1.few in omega (arith, a, b)

    -- the slot has none
    without : word_at w.memory (name.Slot s BATCH) ≡ Some 0 → Q w (next_batch c s)
    without zero_word = elim (rounds_on c s point.0) as (λ _. Q w (next_batch c s)) [
      | inl (t, is) ↦ below (record { x = y; s = t; is = is; sets = r.sets; shown = r.shown; quiet = r.quiet })
          (inr (no_more (much_in r), subst (λ (p : Reclaiming). weight (next_batch c s) < weight_at c p) (sym r.is) (at_next_batch c s point.0).0))
      | inr (t, is, lt) ↦ frees_end defers left_over size roots i word Q back y (subst (λ (p : Reclaiming). IsFreeing (next_batch c s) p) (sym is) lt)
    ]
      where
        y : At
        y = record {
          w = w;
          c = next_batch c s;
          came = r.x.came;
          stage = round_on defers size roots i c r.x.stage.size_is r.x.stage.roots_are w s point.0
              (passed defers left_over size roots i word w r.x.came c.batch_size c.slots c.roots c.again r.x.stage.size_is r.x.stage.roots_are s point.0 point.1 zero_word);
        }

    abbrev begun : World T
    begun = with_use (with_row w i (Settles (flushing s size))) s (one_more (w.uses s))

    taken : IsTaken (w.uses s)
    taken = subst (λ (u : Use). IsTaken u) (sym (point.1.idle s point.0)) tt

    abbrev within_flush : Within defers size i (Flush s) (Flushing c.slots s c.again) (Settles (flushing s size)) begun
    within_flush =
        record { before = w; so = point.1; came = r.x.came; begun = begun; begins = (taken, refl); steps = 0; takes = refl; row_is = with_here w.row i (Settles (flushing s size)) }

    -- or it has one, which is flushed
    module _ (a : ℕ) (there : word_at w.memory (name.Slot s BATCH) ≡ Some a) (ne : a ≡ 0 → ⊥) where
      some_open : (l : List ℕ) → r.sets.open_batch s ≡ l → 0 < length (r.sets.open_batch s)
      some_open [] e = absurd (ne (batch_zero defers size w r.sets r.shown (held_by defers size w r.x.came) s few e a there))
      some_open (b ∷ l) e = let k = ap length e in omega (arith, k)

      past : (y : At) → IsBatch y.c.stands ⊎ IsFreeing y.c y.c.stands → ShownIn y.w (flushed size s r.sets).sets → Sure y
      past y (inl (t, is)) shown =
          below (record { x = y; s = t; is = is; sets = (flushed size s r.sets).sets; shown = shown; quiet = (flushed_frame size s r.sets).active ∙ r.quiet })
          (inl (flush_lower defers size i w r.sets r.shown r.quiet s few (some_open (r.sets.open_batch s) refl)))
      past y (inr on) shown = frees_end defers left_over size roots i word Q back y on

      with_one : Q begun (standing c (at.Flushes s (flushing s size)))
      with_one = flush_ends defers left_over size roots i word Q back w s r.sets r.shown past (record {
        x = record {
          w = begun;
          c = standing c (at.Flushes s (flushing s size));
          came = came_on defers size w begun (Begin i (Flush s) ∷ []) r.x.came (begun, (point.1.rests i, (taken, refl)), refl);
          stage = record { size_is = r.x.stage.size_is; roots_are = r.x.stage.roots_are; here = (point.0, within_flush) };
        };
        l = flushing s size;
        is = refl;
        lt = point.0;
        h = within_flush;
        before = refl;
      })

    abbrev LedBy : Mem T → ReclaimAll × Settled T → Type 0
    LedBy m2 end = (led : Led defers size i roots w (at.Batches s) m2 end.0 end.1) × Q led.w2 end.0

    module _ (a : ℕ) (m2 : Mem T) (there : word_at w.memory (name.Slot s BATCH) ≡ Some a) (same : m2 ≡ w.memory) where
      looks_on : word_at w.memory (name.Slot s BATCH) ≡ Some 0 → LedBy m2 (next_batch c s, settled.Goes)
      looks_on zero_word = (
        record { w2 = w; events = []; own = tt; runs = refl; does = no_row defers left_over size roots i word w r.x.came (next_batch c s) (point.1.rests i) (next_batch c s).stands stage.here; memory = sym same; told = refl; stage = stage },
        without zero_word,
      )
        where
          stage : Stage defers size i roots (next_batch c s) w
          stage = round_on defers size roots i c r.x.stage.size_is r.x.stage.roots_are w s point.0
              (passed defers left_over size roots i word w r.x.came c.batch_size c.slots c.roots c.again r.x.stage.size_is r.x.stage.roots_are s point.0 point.1 zero_word)

      begins_to : (a ≡ 0 → ⊥) → LedBy m2 (standing c (at.Flushes s (flushing s c.batch_size)), settled.Goes)
      begins_to ne = (
        record {
          w2 = begun;
          events = Begin i (Flush s) ∷ [];
          own = (refl, tt, tt);
          runs = (begun, (point.1.rests i, (taken, refl)), refl);
          does = (taken, refl);
          memory = sym same;
          told = refl;
          stage = record {
            size_is = r.x.stage.size_is;
            roots_are = r.x.stage.roots_are;
            here = (
              point.0,
              subst (λ (k : ℕ). Within defers size i (Flush s) (Flushing c.slots s c.again) (Settles (flushing s k)) begun) (sym r.x.stage.size_is) within_flush,
            );
          };
        },
        subst (λ (k : ℕ). Q begun (standing c (at.Flushes s (flushing s k)))) (sym r.x.stage.size_is) (with_one a there ne),
      )

      read_so : (end : ReclaimAll × Settled T) (b : Bool) → (b ≡ true → a ≡ 0) → (b ≡ false → a ≡ 0 → ⊥)
          → Ends (value_at w.memory) (if b then to (next_batch c s) else to (standing c (at.Flushes s (flushing s c.batch_size)))) end → LedBy m2 end
      read_so end true z ne e = subst (λ (p : ReclaimAll × Settled T). LedBy m2 p) (sym e) (looks_on (there ∙ ap Some (z refl)))
      read_so end false z ne e = subst (λ (p : ReclaimAll × Settled T). LedBy m2 p) (sym e) (begins_to (ne refl))

    round_step : Sure r.x
    round_step = back.step r.x (subst IsOnSlots (sym r.is) tt)
        (subst (λ (p : Reclaiming). (m2 : Mem T) (c2 : ReclaimAll) (told : Settled T) → Steps Took value_at w.memory (plan_at defers left_over c p) m2 (c2, told)
        → (led : Led defers size i roots w p m2 c2 told) × Q led.w2 c2) (sym r.is)
        (λ m2 c2 told st.
        let d = loaded w.memory (batch_read c s) (name.Slot s BATCH) m2 (c2, told) st in
        read_so d.0 m2 d.1 d.2 (c2, told) (d.0 == 0) (eqb-true d.0 0) (eqb-false d.0 0) d.3))

  pub rounds_end : (r : Round) → Sure r.x
  rounds_end r = by_two much_in left_in (λ (q : Round). Sure q.x) round_step r
