-- How far reclaiming all has come between two of its rows: its work on slots so far, as whole calls, and what each step and each row adds to it.
use Rattle.std.specs.Prelude.{Option, Some, IsSome, nat_lt, ◌==◌, if◌then◌else◌}
use Rattle.std.proofs.Common.{◌≡◌, ℕ, zero, suc, ◌+◌, ◌-◌, ◌<◌, ◌≤◌, Bool, true, false, inl, inr, refl, arith, subst, sym, ap, ◌∙◌, eqb-true}
use Rattle.std.proofs.lemmas.Bool.{cases_eq, eqb-false}
use Rattle.seize.specs.Given.SeizeWordsDeclared.at.At.TheVariants as name
use Rattle.seize.specs.Given.SeizeWordsMem.{Mem, Took, value_at, word_at, with_word}
use Rattle.seize.specs.Given.SeizeWordsPlan.{Ends, Steps}
use Rattle.seize.proofs.Given.SeizeWordsOneOwner.Operations.{loaded}
use Rattle.seize.proofs.Given.SeizeWordsOneOwner.AfterWrites.{word_at-with_word}
use Rattle.seize.specs.declared.states.TheConstants.{HEAD, BATCH, NEVER, FREE, IDLE, ACTIVE, LAST_SLOT}
use Rattle.seize.specs.declared.rows.settle.Settled.{Settled}
use Rattle.seize.specs.declared.rows.settle.Settled.TheVariants.{Goes}
use Rattle.seize.specs.declared.rows.reclaim_all.ReclaimAll.{ReclaimAll}
use Rattle.seize.specs.declared.rows.reclaim_all.Reclaiming.{Reclaiming}
use Rattle.seize.specs.declared.rows.reclaim_all.Reclaiming.TheVariants as at
use Rattle.seize.specs.Settle.{flushing}
use Rattle.seize.specs.Leave.{leaving}
use Rattle.seize.specs.ReclaimAll.{reclaiming_all, standing, first_root, first_batch, next_head, next_batch, next_free, to, head_read, batch_read, heads, batches}
use Rattle.seize.specs.World.{World, Use, Vacant, Outside, Inside, Changing, Register', Leave', Flush, Unregister', SlotsTaken}
use Rattle.seize.specs.Sequence.{Calls}
use Rattle.seize_model.specs.Sets.Reclaims.{Settles, AllSettle, FlushesAny, AllFlush, Rounds, AllGiveUp, Reclaims}
use Rattle.seize_rule.proofs.Given.SeizeMemoryWords.Named.{same_at-refl}
use Rattle.seize_rule.proofs.World.Rested.{Rested, calls_rested}
use Rattle.seize_model.proofs.Sets.Turns.Heads.{word_says, vacant_by, outside_by, inside_by, never_behind, none_past, taken_so}
use Rattle.seize_model.proofs.Sets.Slots.Retaken.{retaken_idle}
use Rattle.seize_model.proofs.Sets.Reclaims.Ends.{flush_all_vacant, rounds_vacant, untaken_vacant}
use Rattle.seize_model.proofs.Sets.Slots.Kept.{leave_idles, flush_outside, given_up_vacant}
use Rattle.seize.proofs.Given.General.{less_not as le_of, less_so as lt_of}

pub is_two : (a : ℕ) → (a == NEVER) ≡ false → (a == FREE) ≡ false → nat_lt a ACTIVE ≡ true → a ≡ 2
is_two a p q l = grind (arith, p, q, l)

pub above_two : (a : ℕ) → nat_lt a ACTIVE ≡ false → 2 < a
above_two a l = grind (arith, l)

module _ {T : Type 0} (defers : T → Option ℕ) (n size roots : ℕ) (last : n ≡ LAST_SLOT + 1) (i : ℕ) (w : World T) where
  abbrev pub Idle : ℕ → World T → Type 0
  Idle k v = (t : ℕ) → t < k → v.uses t ≡ Outside 0

  -- the slots below s have settled
  pub record Settling (s : ℕ) (v : World T) : Type 0 where
    pub all : AllSettle defers size i s w v
    pub idle : Idle s v

  -- no slot below s had a batch in this round, or one had
  abbrev pub NoneSo : Bool → ℕ → World T → World T → Type 0
  NoneSo true s begun v = Unit {0}
  NoneSo false s begun v = (v ≡ begun) × ((t : ℕ) → t < s → word_at v.memory (name.Slot t BATCH) ≡ Some 0)

  -- the slots below s have flushed in this round
  pub record Flushing (slots s : ℕ) (again : Bool) (v : World T) : Type 0 where
    pub le : slots ≤ n
    pub settled : World T
    pub all_settle : AllSettle defers size i slots w settled
    pub taken : SlotsTaken settled.memory slots
    pub rounds : ℕ
    pub begun : World T
    pub all_rounds : Rounds defers size i slots rounds settled begun
    pub so_far : AllFlush defers size i s begun v
    pub idle : Idle slots v
    pub none : NoneSo again s begun v

  -- the slots below s were given up
  pub record Freeing (slots s : ℕ) (v : World T) : Type 0 where
    pub le : slots ≤ n
    pub settled : World T
    pub all_settle : AllSettle defers size i slots w settled
    pub taken : SlotsTaken settled.memory slots
    pub rounds : ℕ
    pub flushed : World T
    pub all_flush : Rounds defers size i slots rounds settled flushed
    pub none_open : (t : ℕ) → t < slots → word_at flushed.memory (name.Slot t BATCH) ≡ Some 0
    pub so_far : AllGiveUp defers size i s flushed v
    pub idle : (t : ℕ) → s ≤ t → t < slots → v.uses t ≡ Outside 0

  -- What the work on slots has come through at each point. Within a row this is the world that the row was begun in.
  abbrev pub StageAt : Reclaiming → ReclaimAll → World T → Type 0
  StageAt (at.Heads s) c v = (c.again ≡ false) × (s < n) × Settling s v
  StageAt (at.Retakes s) c v = (c.again ≡ false) × (s < n) × Settling s v × (word_at v.memory (name.Slot s HEAD) ≡ Some FREE)
  StageAt (at.Leaves s leave) c v = (c.again ≡ false) × (s < n) × Settling s v × (v.uses s ≡ Inside 0)
  StageAt (at.Batches s) c v = (s < c.slots) × Flushing c.slots s c.again v
  StageAt (at.Flushes s settle) c v = (s < c.slots) × Flushing c.slots s c.again v × (block : ℕ) × (word_at v.memory (name.Slot s BATCH) ≡ Some (suc block))
  StageAt (at.Frees s) c v = (s < c.slots) × Freeing c.slots s v
  StageAt (at.Roots root) c v = Reclaims defers size i w v
  StageAt (at.Nexts root block) c v = ⊥
  StageAt (at.Takes root block next) c v = ⊥
  StageAt (at.Empties root) c v = ⊥
  StageAt (at.Unuses root) c v = ⊥
  StageAt at.Over c v = Reclaims defers size i w v

  -- a row within has just begun, and roots begin with the first one
  abbrev pub IsFresh : Reclaiming → Type 0
  IsFresh (at.Leaves s leave) = leave ≡ leaving s size IDLE false
  IsFresh (at.Flushes s settle) = settle ≡ flushing s size
  IsFresh (at.Roots root) = (root ≡ 0) × (0 < roots)
  IsFresh at.Over = roots ≡ 0
  IsFresh _ = Unit {0}

  -- where the machine comes to between two rows
  pub record Stage (c : ReclaimAll) (v : World T) : Type 0 where
    pub size_is : c.batch_size ≡ size
    pub roots_are : c.roots ≡ roots
    pub here : StageAt c.stands c v
    pub fresh : IsFresh c.stands

  -- from stage to stage

  past : (c : ReclaimAll) → c.batch_size ≡ size → c.roots ≡ roots → (v : World T) → Reclaims defers size i w v → Stage (first_root c) v
  past c ss rs v r = by (c.roots == 0) (eqb-true c.roots 0) (eqb-false c.roots 0)
    where
      by : (b : Bool) → (b ≡ true → c.roots ≡ 0) → (b ≡ false → c.roots ≡ 0 → ⊥) → Stage (if b then standing c at.Over else standing c (at.Roots 0)) v
      by true e f = record { size_is = ss; roots_are = rs; here = r; fresh = sym rs ∙ e refl }
      by false e f = let ne = f refl in record { size_is = ss; roots_are = rs; here = r; fresh = (refl, omega (arith, ne, rs)) }

  -- all slots have settled
  first_flush : (c : ReclaimAll) → c.batch_size ≡ size → c.roots ≡ roots → (v : World T) → c.slots ≤ n → c.again ≡ false → Settling c.slots v → SlotsTaken v.memory c.slots → Stage (first_batch c) v
  first_flush c ss rs v le none st taken = by (c.slots == 0) (eqb-true c.slots 0) (eqb-false c.slots 0)
    where
      by : (b : Bool) → (b ≡ true → c.slots ≡ 0) → (b ≡ false → c.slots ≡ 0 → ⊥) → Stage (if b then first_root c else standing c (at.Batches 0)) v
      by true e f =
          let z = e refl in
          past c ss rs v (record {
            slots = 0;
            rounds = 0;
            settled = v;
            flushed = v;
            all_settle = subst (λ (x : ℕ). AllSettle defers size i x w v) z st.all;
            taken = subst (λ (x : ℕ). SlotsTaken v.memory x) z taken;
            all_flush = refl;
            none_open = λ t l. absurd (omega (arith, l));
            all_give_up = refl;
          })
      by false e f =
          let ne = f refl in
          record {
            size_is = ss;
            roots_are = rs;
            here = (
              omega (arith, ne),
              record {
                le = le;
                settled = v;
                all_settle = st.all;
                taken = taken;
                rounds = 0;
                begun = v;
                all_rounds = refl;
                so_far = refl;
                idle = st.idle;
                none = subst (λ (x : Bool). NoneSo x 0 v v) (sym none) (refl, λ t l. absurd (omega (arith, l)));
              },
            );
            fresh = tt;
          }

  next_slot : (c : ReclaimAll) → c.batch_size ≡ size → c.roots ≡ roots → (s : ℕ) (u : World T) → s < n → c.again ≡ false → Rested defers n size u → Settling (suc s) u → Stage (next_head c s) u
  next_slot c ss rs s u lt none rested st = by (nat_lt s LAST_SLOT) refl
    where
      st1 : (k : ℕ) → k ≡ suc s → Settling k u
      st1 k e = subst (λ (x : ℕ). Settling x u) (sym e) st

      by : (b : Bool) → nat_lt s LAST_SLOT ≡ b → Stage (if b then standing c (at.Heads (s + 1)) else first_batch (record c { slots = LAST_SLOT + 1 })) u
      by true e = let l = lt_of s LAST_SLOT e in record { size_is = ss; roots_are = rs; here = (none, omega (arith, l, last), st1 (s + 1) (omega arith)); fresh = tt }
      by false e =
          let l = le_of s LAST_SLOT e in
          let st2 = st1 (LAST_SLOT + 1) (omega (arith, l, lt, last)) in
          first_flush (record c { slots = LAST_SLOT + 1 }) ss rs u (omega (arith, last)) none st2
          (taken_so defers n size last u rested (LAST_SLOT + 1) (omega (arith, last)) st2.idle (λ t v q z. none_past defers n size last u rested t v (omega (arith, q, last)) z))

  -- the next slot, or the next round, or all are given up
  round_on : (c : ReclaimAll) → c.batch_size ≡ size → c.roots ≡ roots → (s : ℕ) (u : World T) → s < c.slots → Flushing c.slots (suc s) c.again u → Stage (next_batch c s) u
  round_on c ss rs s u lt f = by (nat_lt s (c.slots - 1)) refl c.again refl
    where
      f1 : (k : ℕ) → k ≡ suc s → Flushing c.slots k c.again u
      f1 k e = subst (λ (x : ℕ). Flushing c.slots x c.again u) (sym e) f

      by : (b : Bool) → nat_lt s (c.slots - 1) ≡ b → (a : Bool) → c.again ≡ a
          → Stage (if b then standing c (at.Batches (s + 1)) else (if a then record c { again = false; stands = at.Batches 0 } else standing c (at.Frees 0))) u
      by true e a is = let l = lt_of s (c.slots - 1) e in record { size_is = ss; roots_are = rs; here = (omega (arith, l), f1 (s + 1) (omega arith)); fresh = tt }
      by false e true is =
          let l = le_of s (c.slots - 1) e in
          let g = f1 c.slots (omega (arith, l, lt)) in
          record {
            size_is = ss;
            roots_are = rs;
            here = (
              omega (arith, lt),
              record {
                le = g.le;
                settled = g.settled;
                all_settle = g.all_settle;
                taken = g.taken;
                rounds = suc g.rounds;
                begun = u;
                all_rounds = (g.begun, g.all_rounds, g.so_far);
                so_far = refl;
                idle = g.idle;
                none = (refl, λ t q. absurd (omega (arith, q)));
              },
            );
            fresh = tt;
          }
      by false e false is =
          let l = le_of s (c.slots - 1) e in
          let g = f1 c.slots (omega (arith, l, lt)) in
          let none : NoneSo false c.slots g.begun u = subst (λ (x : Bool). NoneSo x c.slots g.begun u) is g.none in
          record {
            size_is = ss;
            roots_are = rs;
            here = (
              omega (arith, lt),
              record {
                le = g.le;
                settled = g.settled;
                all_settle = g.all_settle;
                taken = g.taken;
                rounds = g.rounds;
                flushed = u;
                all_flush = subst (λ (x : World T). Rounds defers size i c.slots g.rounds g.settled x) (sym none.0) g.all_rounds;
                none_open = none.1;
                so_far = refl;
                idle = λ t q z. g.idle t z;
              },
            );
            fresh = tt;
          }

  free_on : (c : ReclaimAll) → c.batch_size ≡ size → c.roots ≡ roots → (s : ℕ) (u : World T) → s < c.slots → Freeing c.slots (suc s) u → Stage (next_free c s) u
  free_on c ss rs s u lt k = by (nat_lt s (c.slots - 1)) refl
    where
      k1 : (t : ℕ) → t ≡ suc s → Freeing c.slots t u
      k1 t e = subst (λ (x : ℕ). Freeing c.slots x u) (sym e) k

      by : (b : Bool) → nat_lt s (c.slots - 1) ≡ b → Stage (if b then standing c (at.Frees (s + 1)) else first_root c) u
      by true e = let l = lt_of s (c.slots - 1) e in record { size_is = ss; roots_are = rs; here = (omega (arith, l), k1 (s + 1) (omega arith)); fresh = tt }
      by false e =
          let l = le_of s (c.slots - 1) e in
          let z = k1 c.slots (omega (arith, l, lt)) in
          past c ss rs u (record {
            slots = c.slots;
            rounds = z.rounds;
            settled = z.settled;
            flushed = z.flushed;
            all_settle = z.all_settle;
            taken = z.taken;
            all_flush = z.all_flush;
            none_open = z.none_open;
            all_give_up = z.so_far;
          })

  -- it begins with the first slot
  pub first_stage : Stage (reclaiming_all size roots) w
  first_stage = record { size_is = refl; roots_are = refl; here = (refl, omega (arith, last), record { all = refl; idle = λ t l. absurd (omega (arith, l)) }); fresh = tt }

  -- a slot settles

  all_more : (s : ℕ) (v u : World T) (used : Use) → AllSettle defers size i s w v → v.uses s ≡ used → Settles defers size i s used v u → AllSettle defers size i (suc s) w u
  all_more s v u used all e h = (v, all, subst (λ (x : Use). Settles defers size i s x v u) (sym e) h)

  idle_more : (s : ℕ) (u : World T) → Idle s u → u.uses s ≡ Outside 0 → Idle (suc s) u
  idle_more s u idle here t l = elim (cases_eq t s) as (λ _. u.uses t ≡ Outside 0) [
    | inl same ↦ ap u.uses same ∙ here
    | inr ne ↦ idle t (omega (arith, l, ne))
  ]

  module _ (c : ReclaimAll) (ss : c.batch_size ≡ size) (rs : c.roots ≡ roots) (s : ℕ) (v : World T) (rested : Rested defers n size v) where
    -- it comes to another stage, in the same memory
    abbrev pub Looked : Mem T → ReclaimAll × Settled T → Type 0
    Looked m2 end = (m2 ≡ v.memory) × (end.1 ≡ Goes) × Stage end.0 v

    looked : (m2 : Mem T) (end : ReclaimAll × Settled T) (c2 : ReclaimAll) → m2 ≡ v.memory → end ≡ (c2, Goes) → Stage c2 v → Looked m2 end
    looked m2 end c2 same e st = (same, ap (λ (p : ReclaimAll × Settled T). p.1) e, subst (λ (p : ReclaimAll × Settled T). Stage p.0 v) (sym e) st)

    module _ (none : c.again ≡ false) (lt : s < n) (st : Settling s v) where
      -- it was given up, and is taken again
      pub retake_on : word_at v.memory (name.Slot s HEAD) ≡ Some FREE → (u : World T) → Calls defers size i (Register' false) v u → u.memory ≡ with_word v.memory (name.Slot s HEAD) IDLE
          → Stage (next_head c s) u
      retake_on free u call same =
          let vacant = vacant_by (v.uses s) 1 (word_says defers n size last v rested s 1 free) (omega arith) in
          let after = calls_rested defers n size last i (Register' false) v u rested call in
          let word : word_at u.memory (name.Slot s HEAD) ≡ Some 2 =
          ap (λ (m : Mem T). word_at m (name.Slot s HEAD)) same
          ∙ word_at-with_word v.memory (name.Slot s HEAD) IDLE (name.Slot s HEAD) (subst (λ (o : Option ℕ). IsSome o) (sym free) refl)
          ∙ ap (λ (b : Bool). if b then Some IDLE else word_at v.memory (name.Slot s HEAD)) (same_at-refl (name.Slot s HEAD)) in
          next_slot c ss rs s u lt none after
          (record {
            all = all_more s v u Vacant st.all vacant call;
            idle = idle_more s u (retaken_idle defers n size last i v rested s lt free st.idle u call) (outside_by (u.uses s) 2 (word_says defers n size last u after s 2 word) refl);
          })

      -- it leaves
      pub leave_on : v.uses s ≡ Inside 0 → (u : World T) → Calls defers size i (Leave' s) v u → Stage (next_head c s) u
      leave_on e u call =
          let k = leave_idles defers i size s v u call in
          next_slot c ss rs s u lt none (calls_rested defers n size last i (Leave' s) v u rested call)
          (record { all = all_more s v u (Inside 0) st.all e call; idle = idle_more s u (λ t l. k.1 t (λ q. absurd (omega (arith, l, q))) ∙ st.idle t l) k.0 })

      by_head : (a : ℕ) (m2 : Mem T) (end : ReclaimAll × Settled T) → word_at v.memory (name.Slot s HEAD) ≡ Some a → m2 ≡ v.memory
          → (x y z : Bool) → (a == NEVER) ≡ x → (a == FREE) ≡ y → nat_lt a ACTIVE ≡ z
          → Ends (value_at v.memory) (if x then to (first_batch (record c { slots = s })) else
          (if y then to (standing c (at.Retakes s)) else
          (if z then to (next_head c s) else to (standing c (at.Leaves s (leaving s c.batch_size IDLE false)))))) end
          → Looked m2 end
      by_head a m2 end word same true y z p q l e =
          let zero_word : word_at v.memory (name.Slot s HEAD) ≡ Some 0 = word ∙ ap Some (eqb-true a 0 p) in
          looked m2 end (first_batch (record c { slots = s })) same e
          (first_flush (record c { slots = s }) ss rs v (omega (arith, lt)) none st
          (taken_so defers n size last v rested s (omega (arith, lt)) st.idle (λ t k le f. never_behind defers n size last v rested s t k zero_word le f)))
      by_head a m2 end word same false true z p q l e =
          looked m2 end (standing c (at.Retakes s)) same e (record { size_is = ss; roots_are = rs; here = (none, lt, st, word ∙ ap Some (eqb-true a FREE q)); fresh = tt })
      by_head a m2 end word same false false true p q l e =
          let here = outside_by (v.uses s) a (word_says defers n size last v rested s a word) (is_two a p q l) in
          looked m2 end (next_head c s) same e
          (next_slot c ss rs s v lt none rested (record { all = all_more s v v (Outside 0) st.all here refl; idle = idle_more s v st.idle here }))
      by_head a m2 end word same false false false p q l e =
          looked m2 end (standing c (at.Leaves s (leaving s c.batch_size IDLE false))) same e
          (record {
            size_is = ss;
            roots_are = rs;
            here = (none, lt, st, inside_by (v.uses s) a (word_says defers n size last v rested s a word) (above_two a l));
            fresh = ap (λ (k : ℕ). leaving s k IDLE false) ss;
          })

      -- its head is read
      pub head_on : (m2 : Mem T) (end : ReclaimAll × Settled T) → Steps Took value_at v.memory (heads c s) m2 end → Looked m2 end
      head_on m2 end steps =
          let d = loaded v.memory (head_read c s) (name.Slot s HEAD) m2 end steps in
          by_head d.0 m2 end d.1 d.2 (d.0 == NEVER) (d.0 == FREE) (nat_lt d.0 ACTIVE) refl refl refl d.3

    module _ (lt : s < c.slots) where
      none_more : (again : Bool) (begun : World T) → NoneSo again s begun v → word_at v.memory (name.Slot s BATCH) ≡ Some 0 → NoneSo again (suc s) begun v
      none_more true begun h e = tt
      none_more false begun h e = (
        h.0,
        λ t l. (elim (cases_eq t s) as (λ _. word_at v.memory (name.Slot t BATCH) ≡ Some 0) [
          | inl here ↦ ap (λ (x : ℕ). word_at v.memory (name.Slot x BATCH)) here ∙ e
          | inr ne ↦ h.1 t (omega (arith, l, ne))
        ]),
      )

      module _ (f : Flushing c.slots s c.again v) where
        -- it has flushed its batch
        pub flush_on : (a : ℕ) → word_at v.memory (name.Slot s BATCH) ≡ Some (suc a) → (u : World T) → Calls defers size i (Flush s) v u → Stage (next_batch (record c { again = true }) s) u
        flush_on a e u call =
            let after = calls_rested defers n size last i (Flush s) v u rested call in
            round_on (record c { again = true }) ss rs s u lt
            (record {
              le = f.le;
              settled = f.settled;
              all_settle = f.all_settle;
              taken = f.taken;
              rounds = f.rounds;
              begun = f.begun;
              all_rounds = f.all_rounds;
              so_far = (v, f.so_far, subst (λ (o : Option ℕ). FlushesAny defers size i s o v u) (sym e) call);
              idle = λ t l. flush_outside defers i n size s t last v u after call (f.idle t l);
              none = tt;
            })

        passed : word_at v.memory (name.Slot s BATCH) ≡ Some 0 → Flushing c.slots (suc s) c.again v
        passed e = record {
          le = f.le;
          settled = f.settled;
          all_settle = f.all_settle;
          taken = f.taken;
          rounds = f.rounds;
          begun = f.begun;
          all_rounds = f.all_rounds;
          so_far = (v, f.so_far, subst (λ (o : Option ℕ). FlushesAny defers size i s o v v) (sym e) refl);
          idle = f.idle;
          none = none_more c.again f.begun f.none e;
        }

        some_batch : (a : ℕ) → (a ≡ 0 → ⊥) → (b : ℕ) × (a ≡ suc b)
        some_batch zero ne = absurd (ne refl)
        some_batch (suc b) ne = (b, refl)

        by_batch : (a : ℕ) (m2 : Mem T) (end : ReclaimAll × Settled T) → word_at v.memory (name.Slot s BATCH) ≡ Some a → m2 ≡ v.memory
            → (x : Bool) → (x ≡ true → a ≡ 0) → (x ≡ false → a ≡ 0 → ⊥)
            → Ends (value_at v.memory) (if x then to (next_batch c s) else to (standing c (at.Flushes s (flushing s c.batch_size)))) end
            → Looked m2 end
        by_batch a m2 end word same true is not e = looked m2 end (next_batch c s) same e (round_on c ss rs s v lt (passed (word ∙ ap Some (is refl))))
        by_batch a m2 end word same false is not e =
            let b = some_batch a (not refl) in
            looked m2 end (standing c (at.Flushes s (flushing s c.batch_size))) same e (record { size_is = ss; roots_are = rs; here = (lt, f, b.0, word ∙ ap Some b.1); fresh = ap (λ (k : ℕ). flushing s k) ss })

        -- its batch is looked at
        pub batch_on : (m2 : Mem T) (end : ReclaimAll × Settled T) → Steps Took value_at v.memory (batches c s) m2 end → Looked m2 end
        batch_on m2 end steps =
            let d = loaded v.memory (batch_read c s) (name.Slot s BATCH) m2 end steps in
            by_batch d.0 m2 end d.1 d.2 (d.0 == 0) (eqb-true d.0 0) (eqb-false d.0 0) d.3

      -- it is given up
      pub give_up_on : Freeing c.slots s v → (u : World T) → Calls defers size i (Unregister' s) v u → Stage (next_free c s) u
      give_up_on g u call =
          let same = (given_up_vacant defers i size s v u call).1 in
          free_on c ss rs s u lt
          (record {
            le = g.le;
            settled = g.settled;
            all_settle = g.all_settle;
            taken = g.taken;
            rounds = g.rounds;
            flushed = g.flushed;
            all_flush = g.all_flush;
            none_open = g.none_open;
            so_far = (v, g.so_far, call);
            idle = λ t a b. same t (λ e. absurd (omega (arith, a, e))) ∙ g.idle t (omega (arith, a)) b;
          })

  -- no slot is active while slots flush

  settle_rested : (s : ℕ) (v : World T) → Rested defers n size w → AllSettle defers size i s w v → Rested defers n size v
  settle_rested zero v r h = subst (λ (x : World T). Rested defers n size x) (sym h) r
  settle_rested (suc s) v r h = by (h.0.uses s) (settle_rested s h.0 r h.1) h.2
    where
      by : (u : Use) → Rested defers n size h.0 → Settles defers size i s u h.0 v → Rested defers n size v
      by Vacant k st = calls_rested defers n size last i (Register' false) h.0 v k st
      by (Outside rows) k st = subst (λ (x : World T). Rested defers n size x) (sym st) k
      by (Inside rows) k st = calls_rested defers n size last i (Leave' s) h.0 v k st
      by Changing k st = subst (λ (x : World T). Rested defers n size x) (sym st) k

  pub others_vacant : (slots s : ℕ) (again : Bool) (v : World T) → Rested defers n size w → Flushing slots s again v → (t : ℕ) → slots ≤ t → v.uses t ≡ Vacant
  others_vacant slots s again v r f t le =
      flush_all_vacant defers size i s t f.begun v f.so_far
      (rounds_vacant defers size i slots f.rounds t f.settled f.begun f.all_rounds (untaken_vacant defers n size last f.settled (settle_rested slots f.settled r f.all_settle) slots f.taken t le))
