-- From slot to slot, from round to round, and on to the roots: what is so at each point between two rows.
use Rattle.std.specs.Prelude.{Option, Some, None, nat_lt, ◌==◌, if◌then◌else◌}
use Rattle.std.proofs.Common.{◌≡◌, ℕ, suc, ◌+◌, ◌-◌, ◌<◌, ◌≤◌, Bool, true, false, inl, inr, refl, arith, subst, sym, ◌∙◌, eqb-true}
use Rattle.std.proofs.lemmas.Bool.{cases_lt, eqb-false}
use Rattle.seize_words.specs.declared.at.At.TheVariants as name
use Rattle.seize_words.specs.OneMemory.Mem.{word_at}
use Rattle.seize.specs.declared.states.TheConstants.{HEAD, LAST_SLOT}
use Rattle.seize.specs.declared.rows.reclaim_all.ReclaimAll.{ReclaimAll}
use Rattle.seize.specs.declared.rows.reclaim_all.Reclaiming.TheVariants as at
use Rattle.seize.specs.ReclaimAll.{standing, first_root, first_batch, next_head, next_batch, next_free}
use Rattle.seize.specs.World.{World, Vacant, SlotsTaken}
use Rattle.seize_model.proofs.Given.SeizeMovesState.Ghost.{is_never}
use Rattle.seize_model.proofs.Given.SeizeMemoryWords.Named.{words_of, word_found}
use Rattle.seize_model.proofs.Given.SeizeRuleWorld.Good.{Good}
use Rattle.seize_model.proofs.Given.SeizeMemoryWords.View.{view}
use Rattle.seize_model.proofs.Sets.Reclaims.Ends.{untaken_vacant}
use Rattle.seize_model.proofs.Sets.Turns.Heads.{head_word, vacant_by, none_past, never_behind, taken_so, never_zero as head_none}
use Rattle.seize_acts.specs.Quiet.Slots.{AllRest, HasNoBatch, IsQuiescent, Settling, Flushing, Freeing, Came, Stage as StageOf}
use Rattle.seize_acts.proofs.Quiet.Slots.Facts.{outside_at, rested_by, word_behind, never_none}
use Rattle.seize_model.proofs.Given.SeizeRulePoints.Try.{never_word as zero_never}
use Rattle.seize_words.proofs.General.{less_not as le_of, less_so as lt_of}

module _ {T : Type 0} (defers : T → Option ℕ) (size roots i : ℕ) where
  abbrev Stage : ReclaimAll → World T → Type 0
  Stage c w = StageOf defers size i roots c w

  module _ (c : ReclaimAll) (ss : c.batch_size ≡ size) (rs : c.roots ≡ roots) (w : World T) where
    past : (c2 : ReclaimAll) → c2.batch_size ≡ size → c2.roots ≡ roots → IsQuiescent w → Stage (first_root c2) w
    past c2 ss2 rs2 quiet = by (c2.roots == 0) (eqb-true c2.roots 0) (eqb-false c2.roots 0)
      where
        by : (b : Bool) → (b ≡ true → c2.roots ≡ 0) → (b ≡ false → c2.roots ≡ 0 → ⊥) → Stage (if b then standing c2 at.Over else standing c2 (at.Roots 0)) w
        by true e f = record { size_is = ss2; roots_are = rs2; here = (e refl, quiet) }
        by false e f = let ne = f refl in record { size_is = ss2; roots_are = rs2; here = (refl, omega (arith, ne), quiet) }

    -- all slots have settled
    module _ (came : Came defers size w) where
      pub first_flush : (slots : ℕ) → slots ≤ LAST_SLOT + 1 → c.again ≡ false → Settling slots w → ((t v : ℕ) → slots ≤ t → word_at w.memory (name.Slot t HEAD) ≡ Some v → v ≡ 0)
          → Stage (first_batch (record c { slots = slots })) w
      first_flush slots few not_again st none_taken = by (slots == 0) (eqb-true slots 0) (eqb-false slots 0)
        where
          taken : SlotsTaken w.memory slots
          taken = taken_so defers (LAST_SLOT + 1) size refl w (rested_by defers size w came st.rests) slots few st.idle none_taken

          vacant : (t : ℕ) → slots ≤ t → w.uses t ≡ Vacant
          vacant t le = untaken_vacant defers (LAST_SLOT + 1) size refl w (rested_by defers size w came st.rests) slots taken t le

          zero_word : (t : ℕ) → slots ≤ t → (o : Option ℕ) → word_at w.memory (name.Slot t HEAD) ≡ o → words_of w.memory (name.Slot t HEAD) ≡ 0
          zero_word t le None e = grind (arith, e)
          zero_word t le (Some a) e = word_found w.memory (name.Slot t HEAD) a e ∙ none_taken t a le e

          none : (t : ℕ) → slots ≤ t → t ≤ LAST_SLOT → HasNoBatch w t
          none t le l =
              let g = (rested_by defers size w came st.rests).good in
              never_none defers size w came st.rests (outside_at slots w.uses st.idle vacant) t l
              (zero_never (view defers w.memory).links (words_of w.memory (name.Slot t HEAD)) (g.state.head t) (g.shows.entries.headed t) (zero_word t le (word_at w.memory (name.Slot t HEAD)) refl))

          by : (b : Bool) → (b ≡ true → slots ≡ 0) → (b ≡ false → slots ≡ 0 → ⊥)
              → Stage (if b then first_root (record c { slots = slots }) else standing (record c { slots = slots }) (at.Batches 0)) w
          by true e f = let z = e refl in past (record c { slots = slots }) ss rs
              (record { rests = st.rests; vacant = λ t. vacant t (omega (arith, z)); none = λ t l. none t (omega (arith, z)) l })
          by false e f = let ne = f refl in record {
            size_is = ss;
            roots_are = rs;
            here = (omega (arith, ne), record { rests = st.rests; few = few; idle = st.idle; vacant = vacant; others = none; none = λ e t l. absurd (omega (arith, l)) });
          }

      pub next_slot : (s : ℕ) → s ≤ LAST_SLOT → c.again ≡ false → Settling (suc s) w → Stage (next_head c s) w
      next_slot s lt not_again st = by (nat_lt s LAST_SLOT) refl
        where
          st1 : (k : ℕ) → k ≡ suc s → Settling k w
          st1 k e = subst (λ (x : ℕ). Settling x w) (sym e) st

          by : (b : Bool) → nat_lt s LAST_SLOT ≡ b → Stage (if b then standing c (at.Heads (s + 1)) else first_batch (record c { slots = LAST_SLOT + 1 })) w
          by true e =
              let l = lt_of s LAST_SLOT e in
              record {
                size_is = ss;
                roots_are = rs;
                here = (not_again, omega (arith, l), st1 (s + 1) (omega arith), word_behind defers size w came st.rests s HEAD (st.idle s (omega arith)) (omega (arith, l)) (omega arith));
              }
          by false e =
              let l = le_of s LAST_SLOT e in
              let st2 = st1 (LAST_SLOT + 1) (omega (arith, l, lt)) in
              first_flush (LAST_SLOT + 1) (omega arith) not_again st2
              (λ t v q z. none_past defers (LAST_SLOT + 1) size refl w (rested_by defers size w came st.rests) t v q z)

      -- a slot that was never taken has none behind it that was
      pub stops_here : (s : ℕ) → s ≤ LAST_SLOT → c.again ≡ false → Settling s w → word_at w.memory (name.Slot s HEAD) ≡ Some 0 → Stage (first_batch (record c { slots = s })) w
      stops_here s lt not_again st word =
          first_flush s (omega (arith, lt)) not_again st (λ t v le f. never_behind defers (LAST_SLOT + 1) size refl w (rested_by defers size w came st.rests) s t v word le f)

    -- the next slot, or the next round, or all are given up
    pub round_on : (s : ℕ) → s < c.slots → Flushing c.slots (suc s) c.again w → Stage (next_batch c s) w
    round_on s lt f = by (nat_lt s (c.slots - 1)) refl c.again refl
      where
        f1 : (k : ℕ) → k ≡ suc s → Flushing c.slots k c.again w
        f1 k e = subst (λ (x : ℕ). Flushing c.slots x c.again w) (sym e) f

        by : (b : Bool) → nat_lt s (c.slots - 1) ≡ b → (a : Bool) → c.again ≡ a
            → Stage (if b then standing c (at.Batches (s + 1)) else (if a then record c { again = false; stands = at.Batches 0 } else standing c (at.Frees 0))) w
        by true e a is = let l = lt_of s (c.slots - 1) e in record { size_is = ss; roots_are = rs; here = (omega (arith, l), f1 (s + 1) (omega arith)) }
        by false e true is = record {
          size_is = ss;
          roots_are = rs;
          here = (omega (arith, lt), record { rests = f.rests; few = f.few; idle = f.idle; vacant = f.vacant; others = f.others; none = λ q t l. absurd (omega (arith, l)) });
        }
        by false e false is =
            let l = le_of s (c.slots - 1) e in
            record {
              size_is = ss;
              roots_are = rs;
              here = (
                omega (arith, lt),
                record {
                  rests = f.rests;
                  few = f.few;
                  idle = λ t q z. f.idle t z;
                  freed = λ t z. absurd (omega (arith, z));
                  vacant = f.vacant;
                  none = λ t z. (elim (cases_lt t c.slots) as (λ _. HasNoBatch w t) [
                    | inl below ↦ f.none is t (omega (arith, below, l, lt))
                    | inr behind ↦ f.others t behind z
                  ]);
                },
              );
            }

    -- the next slot, or the first root
    pub free_on : (s : ℕ) → s < c.slots → Freeing c.slots (suc s) w → Stage (next_free c s) w
    free_on s lt k = by (nat_lt s (c.slots - 1)) refl
      where
        by : (b : Bool) → nat_lt s (c.slots - 1) ≡ b → Stage (if b then standing c (at.Frees (s + 1)) else first_root c) w
        by true e =
            let l = lt_of s (c.slots - 1) e in
            record { size_is = ss; roots_are = rs; here = (omega (arith, l), subst (λ (x : ℕ). Freeing c.slots x w) (let q : suc s ≡ s + 1 = omega arith in q) k) }
        by false e =
            let l = le_of s (c.slots - 1) e in
            past c ss rs
            (record {
              rests = k.rests;
              vacant = λ t. (elim (cases_lt t c.slots) as (λ _. w.uses t ≡ Vacant) [
                | inl below ↦ k.freed t (omega (arith, below, l, lt))
                | inr behind ↦ k.vacant t behind
              ]);
              none = k.none;
            })

  -- where none was ever taken, nothing is left of what slots had
  pub never_taken : (w : World T) → Came defers size w → AllRest w → word_at w.memory (name.Slot 0 HEAD) ≡ None → IsQuiescent w
  never_taken w came rests none = record {
    rests = rests;
    vacant = vacant;
    none = λ t le. never_none defers size w came rests (outside_at 0 w.uses (λ t l. absurd (omega (arith, l))) (λ t l. vacant t)) t le (never t);
  }
    where
      g : Good defers (LAST_SLOT + 1) size w
      g = (rested_by defers size w came rests).good

      zero_word : words_of w.memory (name.Slot 0 HEAD) ≡ 0
      zero_word = grind (arith, none)

      never : (t : ℕ) → is_never (g.state.head t) ≡ true
      never t =
          g.inv.slots.prefix 0 t (omega arith)
          (zero_never (view defers w.memory).links (words_of w.memory (name.Slot 0 HEAD)) (g.state.head 0) (g.shows.entries.headed 0) zero_word)

      vacant : (t : ℕ) → w.uses t ≡ Vacant
      vacant t =
          let z = head_none (view defers w.memory).links (words_of w.memory (name.Slot t HEAD)) (g.state.head t) (g.shows.entries.headed t) (never t) in
          vacant_by (w.uses t) (words_of w.memory (name.Slot t HEAD)) (head_word defers (LAST_SLOT + 1) size refl w (rested_by defers size w came rests) t) (omega (arith, z))
