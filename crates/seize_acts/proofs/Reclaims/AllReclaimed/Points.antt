-- Reclaiming everything, alone: what is so at each point, and that each step may be taken.
use Rattle.std.specs.Prelude.{Option, Some, None, IsSome, nat_lt, ◌==◌, if◌then◌else◌, map}
use Rattle.std.proofs.Common.{◌≡◌, ℕ, zero, suc, ◌+◌, ◌<◌, Bool, true, false, List, [], ◌∷◌, ◌++◌, refl, arith, ap, sym, subst, ◌∙◌}
use Rattle.std.proofs.lemmas.List.{append-nil, append_assoc, map-append}
use Rattle.seize_words.specs.declared.at.At.TheVariants as name
use Rattle.seize_words.specs.OneMemory.Mem.{Mem, Can, Took, value_at, word_at}
use Rattle.seize_words.specs.OneMemory.Plan.{May, MaySee}
use Rattle.seize_words.proofs.OneMemory.OneOwner.Operations.{may_load, may_store}
use Rattle.seize_words.proofs.OneMemory.Plans.{as_may}
use Rattle.seize.specs.declared.states.TheConstants.{HEAD, BATCH, NEVER, FREE, IDLE, ACTIVE, LAST_SLOT}
use Rattle.seize.specs.declared.advance.Advance.{Advance}
use Rattle.seize.specs.declared.rows.enter.Unregister.{Unregister}
use Rattle.seize.specs.declared.rows.settle.Settle.{Settle}
use Rattle.seize.specs.declared.rows.settle.Settled.{Settled}
use Rattle.seize.specs.declared.rows.settle.Settled.TheVariants.{Goes}
use Rattle.seize.specs.declared.rows.leave.Leave.{Leave}
use Rattle.seize.specs.declared.rows.reclaim_all.ReclaimAll.{ReclaimAll}
use Rattle.seize.specs.declared.rows.reclaim_all.Reclaiming.{Reclaiming}
use Rattle.seize.specs.declared.rows.reclaim_all.Reclaiming.TheVariants as at
use Rattle.seize.specs.Enter.{unregister_plan}
use Rattle.seize.specs.Leave.{leave_plan, leaving}
use Rattle.seize.specs.Settle.{settle_plan, flushing}
use Rattle.seize.specs.ReclaimAll.{standing, first_batch, next_head, next_batch, next_free, to, within, head_read, batch_read, plan_at, reclaim_all_plan}
use Rattle.seize.specs.World.{World, Leaves, Settles, Use, Outside, Flush, Leave', IsTaken, times}
use Rattle.seize.specs.Sequence.{taken_in}
use Rattle.seize_model.specs.Sets.Reclaims.{AllSettle, Reclaims}
use Rattle.seize_model.specs.Alone.Alone.{History, IsHistory, IsMidway, AreValues, at_rest}
use Rattle.seize_acts.specs.Reclaims.Roots.{IsClearing}
use Rattle.seize_acts.specs.Reclaims.AllReclaimed.{OnlyReclaims, MayReclaimAll, SlotsReclaimed, all}
use Rattle.seize_model.proofs.Given.SeizeRuleWorld.Rested.{Rested}
use Rattle.seize_model.proofs.Given.SeizeMemoryWords.Named.{words_of, word_found}
use Rattle.seize_model.proofs.Given.SeizeMemoryWords.Room.{slot_there}
use Rattle.seize_model.proofs.Sets.Reclaims.Stages.{StageAt, IsFresh, Stage}
use Rattle.seize_model.proofs.Sets.Turns.Heads.{has_words, has_word, idle_word}
use Rattle.seize_acts.proofs.Reclaims.AllReclaimed.Ends.{left_now, slots, between, back_is}
use Rattle.seize_acts.proofs.Reclaims.AllReclaimed.Only.{only_twice}
use Rattle.seize_model.proofs.Alone.Histories.Calls.{history_rested}
use Rattle.seize_acts.proofs.Reclaims.Roots.Cleared.{clear_may}
use Rattle.seize_acts.proofs.Reclaims.Roots.First.{clear_begins, IsFirst}
use Rattle.seize_model.proofs.Alone.Whole.Begins.{leave_begins, flush_begins}
use Rattle.seize_model.proofs.Alone.Whole.Enter.{unregister_may}
use Rattle.seize_model.proofs.Alone.Whole.Steps.{call_may}

-- the values of blocks, as they were before some others were reclaimed
module _ {T : Type 0} (m m1 : Mem T) (h h1 : History) (back : List ℕ) (only : OnlyReclaims m h m1 h1 back) where
  value_then : (b : ℕ) (x : T) → value_at m1 b ≡ Some x → value_at m b ≡ Some x
  value_then b x e = by (times b back) refl
    where
      by : (k : ℕ) → times b back ≡ k → value_at m b ≡ Some x
      by zero none = sym (only.spares.values b none) ∙ e
      by (suc k) some = absurd (let gone = only.gone b (omega (arith, some)) in let c : Some x ≡ None = sym e ∙ gone in cc c)

  pub values_then : (blocks : List ℕ) (given : List T) → map (value_at m1) blocks ≡ map Some given → map (value_at m) blocks ≡ map Some given
  values_then [] given e = e
  values_then (b ∷ blocks) [] e = absurd (cc e)
  values_then (b ∷ blocks) (x ∷ given) e =
      let first : value_at m1 b ≡ Some x = cc e in
      let rest : map (value_at m1) blocks ≡ map Some given = cc e in
      ap (λ (o : Option T). o ∷ map (value_at m) blocks) (value_then b x first) ∙ ap (λ (l : List (Option T)). Some x ∷ l) (values_then blocks given rest)

module _ {T : Type 0} (defers : T → Option ℕ) (left_over : T → Bool) (batch_size roots : ℕ) (m : Mem T) (h : History) (lists : ℕ → List ℕ) where
  -- What whole calls have come to.
  pub record SoFar (m1 : Mem T) (h1 : History) (given : List T) : Type 0 where
    pub back : List ℕ
    pub now : IsHistory defers batch_size roots m1 h1
    pub taken : taken_in h1.log ≡ taken_in h.log ++ back
    pub values : AreValues defers batch_size roots m back given
    pub only : OnlyReclaims m h m1 h1 back

  -- and one more
  pub so_far_more : (m1 m2 : Mem T) (h1 h2 : History) (given more : List T) (c : List ℕ) → SoFar m1 h1 given → IsHistory defers batch_size roots m2 h2 → taken_in h2.log ≡ taken_in h1.log ++ c
      → AreValues defers batch_size roots m1 c more → OnlyReclaims m1 h1 m2 h2 c → SoFar m2 h2 (given ++ more)
  so_far_more m1 m2 h1 h2 given more c s now taken values only = record {
    back = s.back ++ c;
    now = now;
    taken = taken ∙ ap (λ (l : List ℕ). l ++ c) s.taken ∙ append_assoc (taken_in h.log) s.back c;
    values =
        map-append (value_at m) s.back c ∙ ap (λ (l : List (Option T)). l ++ map (value_at m) c) s.values
        ∙ ap (λ (l : List (Option T)). map Some given ++ l) (values_then m m1 h h1 s.back s.only c more values) ∙ sym (map-append Some given more);
    only = only_twice m m1 h h1 s.back s.only m2 h2 c only;
  }

  -- one that reclaims nothing
  pub so_far_quiet : (m1 m2 : Mem T) (h1 h2 : History) (given : List T) → SoFar m1 h1 given → IsHistory defers batch_size roots m2 h2 → taken_in h2.log ≡ taken_in h1.log → OnlyReclaims m1 h1 m2 h2 []
      → SoFar m2 h2 given
  so_far_quiet m1 m2 h1 h2 given s now taken only =
      subst (λ (l : List T). SoFar m2 h2 l) (append-nil given) (so_far_more m1 m2 h1 h2 given [] [] s now (taken ∙ sym (append-nil (taken_in h1.log))) refl only)

  -- Between two rows the memory is that which whole calls have come to; within one, that row is midway.
  abbrev pub Within : Reclaiming → Mem T → History → Mem T → List T → Type 0
  Within (at.Heads s) m1 h1 m2 more = (m2 ≡ m1) × (more ≡ [])
  Within (at.Retakes s) m1 h1 m2 more = (m2 ≡ m1) × (more ≡ [])
  Within (at.Leaves s leave) m1 h1 m2 more = IsMidway defers batch_size roots m1 h1 (Leave' s) (Leaves leave) m2 more
  Within (at.Batches s) m1 h1 m2 more = (m2 ≡ m1) × (more ≡ [])
  Within (at.Flushes s settle) m1 h1 m2 more = IsMidway defers batch_size roots m1 h1 (Flush s) (Settles settle) m2 more
  Within (at.Frees s) m1 h1 m2 more = (m2 ≡ m1) × (more ≡ [])
  Within _ m1 h1 m2 more = ⊥

  -- It works on slots.
  pub record OnSlots (p : Reclaiming) (c : ReclaimAll) (m2 : Mem T) (given : List T) : Type 0 where
    pub first : IsSome (word_at m (name.Slot 0 HEAD))
    pub m1 : Mem T
    pub h1 : History
    pub before : List T
    pub more : List T
    pub so_far : SoFar m1 h1 before
    pub size_is : c.batch_size ≡ batch_size
    pub roots_are : c.roots ≡ roots
    pub here : StageAt defers (LAST_SLOT + 1) batch_size roots refl 0 (at_rest defers m h) p c (at_rest defers m1 h1)
    pub row : Within p m1 h1 m2 more
    pub order : given ≡ before ++ more

  -- It works on roots.
  pub record OnRoots (c : ReclaimAll) (m2 : Mem T) (given : List T) : Type 0 where
    pub middle : Mem T
    pub between : History
    pub slots : SlotsReclaimed defers left_over batch_size roots m h middle between
    pub waited : List T
    pub behind : List T
    pub order : given ≡ waited ++ behind
    pub values : AreValues defers batch_size roots m (all defers left_over batch_size roots m h).reclaimed waited
    pub clearing : IsClearing defers left_over batch_size roots middle between lists c m2 behind

  pub data PointAt (p : Reclaiming) (c : ReclaimAll) (m2 : Mem T) (given : List T) : Type 0 where
    AtSlots : OnSlots p c m2 given → PointAt p c m2 given
    AtRoots : OnRoots c m2 given → PointAt p c m2 given

  -- what is so wherever the machine stands
  abbrev pub Point : ReclaimAll → Mem T → List T → Type 0
  Point c m2 given = PointAt c.stands c m2 given

  module _ (may : MayReclaimAll defers left_over batch_size roots m h lists) where
    abbrev pub OneStage : ReclaimAll → World T → Type 0
    OneStage c v = Stage defers (LAST_SLOT + 1) batch_size roots refl 0 (at_rest defers m h) c v

    -- where whole calls have come to
    pub arrives : (first : IsSome (word_at m (name.Slot 0 HEAD))) (c : ReclaimAll) (m1 : Mem T) (h1 : History) (given : List T) → SoFar m1 h1 given → OneStage c (at_rest defers m1 h1) → Point c m1 given
    arrives first c m1 h1 given s st = by c.stands refl st.here st.fresh
      where
        on_slots : (p : Reclaiming) → StageAt defers (LAST_SLOT + 1) batch_size roots refl 0 (at_rest defers m h) p c (at_rest defers m1 h1) → Within p m1 h1 m1 [] → PointAt p c m1 given
        on_slots p here row = AtSlots (record {
          first = first;
          m1 = m1;
          h1 = h1;
          before = given;
          more = [];
          so_far = s;
          size_is = st.size_is;
          roots_are = st.roots_are;
          here = here;
          row = row;
          order = sym (append-nil given);
        })

        on_roots : (p : Reclaiming) → Reclaims defers batch_size 0 (at_rest defers m h) (at_rest defers m1 h1) → IsFirst defers left_over batch_size roots m h lists c.stands → PointAt p c m1 given
        on_roots p r begins =
            let done = slots defers left_over batch_size roots m h lists may m1 h1 s.back s.only s.taken r in
            let last = between defers left_over batch_size roots m h lists may m1 h1 s.back s.only s.taken r in
            let same = back_is defers left_over batch_size roots m h lists may m1 h1 s.back s.only s.taken r in
            AtRoots (record {
              middle = m1;
              between = last;
              slots = done;
              waited = given;
              behind = [];
              order = sym (append-nil given);
              values = subst (λ (l : List ℕ). AreValues defers batch_size roots m l given) same s.values;
              clearing = clear_begins defers left_over batch_size roots m1 last lists done.happened
                  (let l = left_now defers left_over batch_size roots m h lists may m1 h1 s.back s.only in record { root = l.root; used = l.used; left = l.left; once = l.once })
                  done.vacant c st.roots_are begins;
            })

        by : (p : Reclaiming) → c.stands ≡ p → StageAt defers (LAST_SLOT + 1) batch_size roots refl 0 (at_rest defers m h) p c (at_rest defers m1 h1)
            → IsFresh defers (LAST_SLOT + 1) batch_size roots refl 0 (at_rest defers m h) p → PointAt p c m1 given
        by (at.Heads slot) e here fresh = on_slots (at.Heads slot) here (refl, refl)
        by (at.Retakes slot) e here fresh = on_slots (at.Retakes slot) here (refl, refl)
        by (at.Leaves slot leave) e here fresh =
            on_slots (at.Leaves slot leave) here
            (subst (λ (l : Leave). IsMidway defers batch_size roots m1 h1 (Leave' slot) (Leaves l) m1 []) (sym fresh) (leave_begins defers batch_size roots may.size m1 h1 s.now slot here.3))
        by (at.Batches slot) e here fresh = on_slots (at.Batches slot) here (refl, refl)
        by (at.Flushes slot settle) e here fresh =
            on_slots (at.Flushes slot settle) here
            (subst (λ (d : Settle). IsMidway defers batch_size roots m1 h1 (Flush slot) (Settles d) m1 []) (sym fresh)
            (flush_begins defers batch_size roots may.size m1 h1 s.now slot (subst (λ (u : Use). IsTaken u) (sym (here.1.idle slot here.0)) tt)))
        by (at.Frees slot) e here fresh = on_slots (at.Frees slot) here (refl, refl)
        by (at.Roots root) e here fresh = on_roots (at.Roots root) here (subst (λ (p : Reclaiming). IsFirst defers left_over batch_size roots m h lists p) (sym e) fresh)
        by (at.Nexts root block) e here fresh = absurd here
        by (at.Takes root block next) e here fresh = absurd here
        by (at.Empties root) e here fresh = absurd here
        by (at.Unuses root) e here fresh = absurd here
        by at.Over e here fresh = on_roots at.Over here (subst (λ (p : Reclaiming). IsFirst defers left_over batch_size roots m h lists p) (sym e) fresh)

    -- a slot that is registered has its words, and so has the one behind it
    module _ (m1 : Mem T) (h1 : History) (had : IsHistory defers batch_size roots m1 h1) where
      rested : Rested defers (LAST_SLOT + 1) batch_size (at_rest defers m1 h1)
      rested = history_rested defers batch_size roots m1 h1 had

      taken_once : (t : ℕ) → h1.uses t ≡ Outside 0 → t < LAST_SLOT + 1 → words_of m1 (name.Slot t HEAD) ≡ 0 → ⊥
      taken_once t out lt none =
          let k = word_found m1 (name.Slot t HEAD) 2 (idle_word defers (LAST_SLOT + 1) batch_size refl (at_rest defers m1 h1) rested t out lt) in
          absurd (cc (k, none))

      word_here : (t field : ℕ) → h1.uses t ≡ Outside 0 → t < LAST_SLOT + 1 → field < 2 → IsSome (word_at m1 (name.Slot t field))
      word_here t field out lt f =
          slot_there m1 t field rested.good.room.bucketed (has_word defers (LAST_SLOT + 1) batch_size refl (at_rest defers m1 h1) rested t (taken_once t out lt) lt) f

      word_behind : (t field : ℕ) → h1.uses t ≡ Outside 0 → t + 1 < LAST_SLOT + 1 → field < 2 → IsSome (word_at m1 (name.Slot (t + 1) field))
      word_behind t field out lt f =
          slot_there m1 (t + 1) field rested.good.room.bucketed
          (has_words defers (LAST_SLOT + 1) batch_size refl (at_rest defers m1 h1) rested t (taken_once t out (omega (arith, lt))) lt) f

    see_head : (shown : ℕ → Option T) (c : ReclaimAll) (s : ℕ) (x y z : Bool)
        → MaySee {R = ReclaimAll × Settled T} shown (if x then to (first_batch (record c { slots = s })) else
        (if y then to (standing c (at.Retakes s)) else
        (if z then to (next_head c s) else to (standing c (at.Leaves s (leaving s c.batch_size IDLE false))))))
    see_head shown c s true y z = tt
    see_head shown c s false true z = tt
    see_head shown c s false false true = tt
    see_head shown c s false false false = tt

    see_batch : (shown : ℕ → Option T) (c : ReclaimAll) (s : ℕ) (x : Bool)
        → MaySee {R = ReclaimAll × Settled T} shown (if x then to (next_batch c s) else to (standing c (at.Flushes s (flushing s c.batch_size))))
    see_batch shown c s true = tt
    see_batch shown c s false = tt

    -- each step may be taken
    module _ (c : ReclaimAll) (m2 : Mem T) (given : List T) where
      may_slots : (p : Reclaiming) → OnSlots p c m2 given → May Can Took value_at m2 (plan_at defers left_over c p)
      may_slots (at.Heads s) x =
          may_load m2 (head_read c s) (name.Slot s HEAD) (subst (λ (k : Mem T). IsSome (word_at k (name.Slot s HEAD))) (sym x.row.0) (by s refl))
          (λ w e. see_head (value_at m2) c s (w == NEVER) (w == FREE) (nat_lt w ACTIVE))
        where
          by : (k : ℕ) → s ≡ k → IsSome (word_at x.m1 (name.Slot s HEAD))
          by zero e =
              let st = x.here.2 in
              let same : x.m1 ≡ m = ap (λ (v : World T). v.memory) (subst (λ (t : ℕ). AllSettle defers batch_size 0 t (at_rest defers m h) (at_rest defers x.m1 x.h1)) e st.all) in
              subst (λ (t : ℕ). IsSome (word_at x.m1 (name.Slot t HEAD))) (sym e) (subst (λ (k : Mem T). IsSome (word_at k (name.Slot 0 HEAD))) (sym same) x.first)
          by (suc t) e =
              let st = x.here.2 in
              let lt = x.here.1 in
              let one : t + 1 ≡ s = omega (arith, e) in
              subst (λ (k : ℕ). IsSome (word_at x.m1 (name.Slot k HEAD))) one
              (word_behind x.m1 x.h1 x.so_far.now t HEAD (st.idle t (omega (arith, e))) (omega (arith, lt, e)) (omega arith))
      may_slots (at.Retakes s) x =
          may_store m2 (λ out. to (next_head c s)) (name.Slot s HEAD) IDLE
          (subst (λ (k : Mem T). IsSome (word_at k (name.Slot s HEAD))) (sym x.row.0) (subst (λ (o : Option ℕ). IsSome o) (sym x.here.3) refl)) tt
      may_slots (at.Leaves s leave) x =
          as_may (within (λ l. standing c (at.Leaves s l)) (next_head c s)) Can Took value_at m2 (leave_plan defers leave)
          (call_may defers batch_size roots x.m1 x.h1 (Leave' s) (Leaves leave) m2 x.more x.row)
      may_slots (at.Batches s) x =
          let f = x.here.1 in
          let le = f.le in
          let lt = x.here.0 in
          may_load m2 (batch_read c s) (name.Slot s BATCH)
          (subst (λ (k : Mem T). IsSome (word_at k (name.Slot s BATCH))) (sym x.row.0)
          (word_here x.m1 x.h1 x.so_far.now s BATCH (f.idle s lt) (omega (arith, lt, le)) (omega arith)))
          (λ w e. see_batch (value_at m2) c s (w == 0))
      may_slots (at.Flushes s settle) x =
          as_may (within (λ d. standing c (at.Flushes s d)) (next_batch (record c { again = true }) s)) Can Took value_at m2 (settle_plan defers settle)
          (call_may defers batch_size roots x.m1 x.h1 (Flush s) (Settles settle) m2 x.more x.row)
      may_slots (at.Frees s) x =
          as_may {B = ReclaimAll × Settled T} (λ (end : Unregister × Advance Unit). (next_free c s, Goes)) Can Took value_at m2 (unregister_plan (record { slot = s }))
          (subst (λ (k : Mem T). May Can Took value_at k (unregister_plan {T = T} (record { slot = s }))) (sym x.row.0)
          (unregister_may defers batch_size roots x.m1 x.h1 x.so_far.now s (x.here.1.idle s (omega arith) x.here.0)))
      may_slots (at.Roots root) x = absurd x.row
      may_slots (at.Nexts root block) x = absurd x.row
      may_slots (at.Takes root block next) x = absurd x.row
      may_slots (at.Empties root) x = absurd x.row
      may_slots (at.Unuses root) x = absurd x.row
      may_slots at.Over x = absurd x.row

      pub point_may : Point c m2 given → May Can Took value_at m2 (reclaim_all_plan defers left_over c)
      point_may (AtSlots x) = may_slots c.stands x
      point_may (AtRoots x) = clear_may defers left_over batch_size roots x.middle x.between lists c m2 x.behind x.clearing
