-- A batch that is held is in the hands of one row, which says so, whoever steps when.
use Rattle.std.specs.Prelude.{not, Option, Ok, Err, ◌==◌, ◌&&◌, ◌%◌, ◌^◌, bit_or}
use Rattle.std.proofs.Common.{◌≡◌, ℕ, zero, suc, ◌+◌, Bool, true, false, List, [], ◌∷◌, length, ◌⊎◌, inl, inr, refl, arith, ap, sym, subst, ◌∙◌}
use Rattle.seize.specs.Given.SeizeWordsDeclared.at.At.{At}
use Rattle.seize.specs.Given.SeizeWordsDeclared.at.At.TheVariants.{Root, Used, Slot, Entry, Word}
use Rattle.seize.specs.Given.SeizeWordsMem.{Mem, Can, Took, Gives, after, value_at, with_word}
use Rattle.seize.specs.Given.SeizeWordsOp.{Op, Out, Load, Store, Swap, Add, Or, Exchange, Make, Take, Rewrite, Room, Found, Stored, Exchanged, Made, Taken, Roomed}
use Rattle.seize.specs.Given.SeizeWordsPlan.{Plan, Steps, May}
use Rattle.seize.specs.declared.states.TheConstants.{BATCH, HELD, NEXT, LAST_SLOT}
use Rattle.seize.specs.declared.advance.Advance.{Advance}
use Rattle.seize.specs.declared.advance.Advance.TheVariants as progress
use Rattle.seize.specs.declared.rows.settle.Settle.{Settle}
use Rattle.seize.specs.declared.rows.settle.Settling.{Settling}
use Rattle.seize.specs.declared.rows.settle.Settling.TheVariants as settling
use Rattle.seize.specs.declared.rows.settle.Settled.{Settled}
use Rattle.seize.specs.declared.rows.settle.Settled.TheVariants.{Goes, Waits, Gave, Done}
use Rattle.seize.specs.declared.rows.leave.Leave.{Leave}
use Rattle.seize.specs.declared.rows.leave.Leaving.{Leaving}
use Rattle.seize.specs.declared.rows.leave.Leaving.TheVariants as leaving
use Rattle.seize.specs.declared.rows.register.Register.{Register}
use Rattle.seize.specs.declared.rows.register.Registering.{Registering}
use Rattle.seize.specs.declared.rows.register.Registering.TheVariants as registering
use Rattle.seize.specs.declared.rows.defer.Defer.{Defer}
use Rattle.seize.specs.declared.rows.defer.Deferring.{Deferring}
use Rattle.seize.specs.declared.rows.defer.Deferring.TheVariants as deferring
use Rattle.seize.specs.Settle as plans
use Rattle.seize.specs.Settle.{settle_plan}
use Rattle.seize.specs.Leave.{settled, standing, plan_at}
use Rattle.seize.specs.Register as registers
use Rattle.seize.specs.Defer as defer
use Rattle.seize.specs.Enter.{enter_plan, unregister_plan}
use Rattle.seize.specs.WaitingSets.{Change}
use Rattle.seize.specs.World.{World, Row, Rests, Registers, Enters, Settles, Leaves, Defers, Frees, Event, Begin, Step, Makes, Drops, Links, Parts, Unlinks, Rewrites, Operates, Chooses, Request, Register', Enter', Leave', LeaveOwned, Refresh, Unregister', Retire, Flush, Defer', Happens, Runs, Steps', Begins, IsOwn, IsOwnOp, settles_on, leaves_on, registers_on, defers_on, left_row, made_by, at_start, LeavesOver, Relinks, Clears, Ends}
use Rattle.seize.specs.Sequence.{Turn as Turns, Whole, Between, RunsOn, TakesTurns}
use Rattle.seize_rule.proofs.Given.SeizeMemoryWords.Named.{words_of, made_one}
use Rattle.seize_rule.proofs.Given.SeizeMemoryWords.View.{View, view}
use Rattle.seize_rule.proofs.Words.Kept.{IsQuietPlan, settle_quiet, quiet_as}
use Rattle.seize_rule.proofs.Points.Known.{FitsAt, Fits, bare}
use Rattle.seize_rule.proofs.Points.May.{may_at}
use Rattle.seize_rule.proofs.Points.Stepped.{IsGoing}
use Rattle.seize_rule.proofs.Points.Settle.{is_over, settle_steps}
use Rattle.seize_rule.proofs.Rows.Known.{FitsRow, FitsDefer, FitsLeave}
use Rattle.seize_rule.proofs.Rows.Leave.{leaves_may}
use Rattle.seize_rule.proofs.Rows.Leaving.{steps_back}
use Rattle.seize_rule.proofs.Rows.Others.{OthersRest, with_here, begins_others, steps_others}
use Rattle.seize_rule.proofs.Rows.Register.{room_view, registers_may}
use Rattle.seize_rule.proofs.Rows.Slots.{enters_may, frees_may}
use Rattle.seize_rule.proofs.Rows.Deferring.{defers_may}
use Rattle.seize_rule.proofs.Rows.Sizes.{AllSized}
use Rattle.seize_rule.proofs.Rows.SizesKept.{happens_sized}
use Rattle.seize_rule.proofs.World.Good.{Good}
use Rattle.seize_rule.proofs.World.Kept.{happens_good}
use Rattle.seize_rule.proofs.World.Rested.{Lone, Rested, begins_lone, steps_lone, calls_rested, users_rested}
use Rattle.seize_rule.proofs.World.Start.{words_good}
use Rattle.seize_model.specs.Ends.Holders.{settle_has, leaving_has, has_batch}
use Rattle.seize_model.proofs.Ends.Batches.Free.{spares_plan, plan_same, is_field}
use Rattle.seize_model.proofs.Ends.Batches.Held.{HoldsAlone, settle_by}

-- each batch that is held is in the hands of a row
abbrev pub HeldByRows : {T : Type 0} → World T → Type 0
HeldByRows w = (s : ℕ) → words_of w.memory (Slot s BATCH) ≡ HELD → (j : ℕ) × (has_batch s (w.row j) ≡ true)

abbrev pub SameBatches : {T : Type 0} → Mem T → Mem T → Type 0
SameBatches m m2 = (s : ℕ) → words_of m2 (Slot s BATCH) ≡ words_of m (Slot s BATCH)

has_at : (s : ℕ) (c : Settle) → s ≡ c.slot → c.held ≡ true → settle_has s c ≡ true
has_at s c on held = by c.held held
  where
    by : (h : Bool) → h ≡ true → (h && (c.slot == s)) ≡ true
    by true e = grind (arith, on)
    by false e = absurd (cc e)

pub has_on : (s : ℕ) (c : Settle) → settle_has s c ≡ true → (s ≡ c.slot) × (c.held ≡ true)
has_on s c has = by c.held refl has
  where
    by : (h : Bool) → c.held ≡ h → (h && (c.slot == s)) ≡ true → (s ≡ c.slot) × (c.held ≡ true)
    by true e k = (grind (arith, k), e)
    by false e k = absurd (cc k)

module _ {T : Type 0} where
  -- where one row goes on
  rows_on : (w v : World T) (i : ℕ) → ((j : ℕ) → (j ≡ i → ⊥) → v.row j ≡ w.row j)
      → ((s : ℕ) → words_of v.memory (Slot s BATCH) ≡ HELD → ((words_of w.memory (Slot s BATCH) ≡ HELD) × (has_batch s (w.row i) ≡ true → has_batch s (v.row i) ≡ true)) ⊎ (has_batch s (v.row i) ≡ true))
      → HeldByRows w → HeldByRows v
  rows_on w v i others on held s h = elim (on s h) as (λ _. (j : ℕ) × (has_batch s (v.row j) ≡ true)) [
    | inl was ↦ by was.1 (held s was.0).0 (held s was.0).1 ((held s was.0).0 == i) refl
    | inr now ↦ (i, now)
  ]
    where
      by : (has_batch s (w.row i) ≡ true → has_batch s (v.row i) ≡ true) → (j : ℕ) → has_batch s (w.row j) ≡ true → (t : Bool) → (j == i) ≡ t → (j : ℕ) × (has_batch s (v.row j) ≡ true)
      by keeps j has true e = (i, keeps (subst (λ (k : ℕ). has_batch s (w.row k) ≡ true) (grind (arith, e)) has))
      by keeps j has false e = (j, subst (λ (r : Row). has_batch s r ≡ true) (sym (others j (λ q. grind (arith, e, q)))) has)

  -- where no row does
  rows_same : (w v : World T) → v.row ≡ w.row → SameBatches w.memory v.memory → HeldByRows w → HeldByRows v
  rows_same w v rows same held s h =
      let k = held s (sym (same s) ∙ h) in (k.0, subst (λ (f : ℕ → Row). has_batch s (f k.0) ≡ true) (sym rows) k.1)

  -- what users do

  own_same : (defers : T → Option ℕ) (mem : Mem T) (name : At) (v : ℕ) → IsOwn defers mem name → SameBatches mem (with_word mem name v)
  own_same defers mem (Root r) v own s = refl
  own_same defers mem (Used r) v own s = refl
  own_same defers mem (Slot t field) v own s = absurd own
  own_same defers mem (Entry b field) v own s = absurd own
  own_same defers mem (Word b field) v own s = refl

  own_op_same : (defers : T → Option ℕ) (mem : Mem T) (op : Op T) (out : Out T) → IsOwnOp defers mem op → SameBatches mem (after mem op out)
  own_op_same defers mem (Load name) out own s = refl
  own_op_same defers mem (Store name v) out own s = own_same defers mem name v own s
  own_op_same defers mem (Swap name v) out own s = own_same defers mem name v own s
  own_op_same defers mem (Add name v) (Found a) own s = own_same defers mem name ((a + v) % 2 ^ 64) own s
  own_op_same defers mem (Add name v) _ own s = refl
  own_op_same defers mem (Or name v) (Found a) own s = own_same defers mem name (bit_or a v) own s
  own_op_same defers mem (Or name v) _ own s = refl
  own_op_same defers mem (Exchange name old new) (Exchanged (Ok a)) own s = own_same defers mem name new own s
  own_op_same defers mem (Exchange name old new) _ own s = refl
  own_op_same defers mem (Make value words) out own s = absurd own
  own_op_same defers mem (Take b) out own s = absurd own
  own_op_same defers mem (Rewrite b new) out own s = absurd own
  own_op_same defers mem (Room bucket) out own s = absurd own

  made_same : (mem : Mem T) (value : T) (words : ℕ) (out : Out T) → Gives mem (Make value words) out → SameBatches mem (after mem (Make value words) out)
  made_same mem value words (Made (Ok b)) g s = ap (λ w. w (Slot s BATCH)) (made_one mem value words b g.0).words
  made_same mem value words (Made (Err back)) g s = refl
  made_same mem value words (Found a) g s = absurd g
  made_same mem value words Stored g s = absurd g
  made_same mem value words (Exchanged (Ok a)) g s = absurd g
  made_same mem value words (Exchanged (Err a)) g s = absurd g
  made_same mem value words (Taken a) g s = absurd g
  made_same mem value words (Roomed (Ok a)) g s = absurd g
  made_same mem value words (Roomed (Err a)) g s = absurd g

  pub made_memory : (defers : T → Option ℕ) (w : World T) (i : ℕ) (m : Mem T) (out : Out T) → (made_by defers w i m out).memory ≡ m
  made_memory defers w i m (Made (Ok b)) = refl
  made_memory defers w i m (Made (Err back)) = refl
  made_memory defers w i m (Found a) = refl
  made_memory defers w i m Stored = refl
  made_memory defers w i m (Exchanged r) = refl
  made_memory defers w i m (Taken a) = refl
  made_memory defers w i m (Roomed r) = refl

  made_row : (defers : T → Option ℕ) (w : World T) (i : ℕ) (m : Mem T) (out : Out T) → (made_by defers w i m out).row ≡ w.row
  made_row defers w i m (Made (Ok b)) = refl
  made_row defers w i m (Made (Err back)) = refl
  made_row defers w i m (Found a) = refl
  made_row defers w i m Stored = refl
  made_row defers w i m (Exchanged r) = refl
  made_row defers w i m (Taken a) = refl
  made_row defers w i m (Roomed r) = refl

  -- a row begins
  pub begins_memory : (defers : T → Option ℕ) (size i : ℕ) (request : Request) (w v : World T) → Begins defers size i request w v → v.memory ≡ w.memory
  begins_memory defers size i (Register' enters) w v b = ap (λ (x : World T). x.memory) b
  begins_memory defers size i (Enter' s) w v b = ap (λ (x : World T). x.memory) b.1
  begins_memory defers size i (Leave' s) w v b = ap (λ (x : World T). x.memory) b.1
  begins_memory defers size i (LeaveOwned s) w v b = ap (λ (x : World T). x.memory) b.1
  begins_memory defers size i (Refresh s) w v b = ap (λ (x : World T). x.memory) b.1
  begins_memory defers size i (Unregister' s) w v b = ap (λ (x : World T). x.memory) b.1
  begins_memory defers size i (Retire s c) w v b = ap (λ (x : World T). x.memory) b.2
  begins_memory defers size i (Flush s) w v b = ap (λ (x : World T). x.memory) b.1
  begins_memory defers size i (Defer' s c t) w v b = ap (λ (x : World T). x.memory) b.7

  -- a step leaves this memory
  module _ (w : World T) (i : ℕ) (m : Mem T) where
    pub registers_memory : (c d : Register) (o : Advance ℕ) → (registers_on w i c m (d, o)).memory ≡ m
    registers_memory c d progress.Goes = refl
    registers_memory c d progress.Waits = refl
    registers_memory c d (progress.Done s) = refl
    registers_memory c d (progress.Refused fault) = refl

    pub settles_memory : (c d : Settle) (o : Settled T) → (settles_on w i c m (d, o)).memory ≡ m
    settles_memory c d Goes = refl
    settles_memory c d Waits = refl
    settles_memory c d (Gave value) = refl
    settles_memory c d Done = refl

    pub defers_memory : (s : ℕ) (d : Defer) (o : Advance Unit) → (defers_on w i s m (d, o)).memory ≡ m
    defers_memory s d progress.Goes = refl
    defers_memory s d progress.Waits = refl
    defers_memory s d (progress.Done u) = refl
    defers_memory s d (progress.Refused fault) = refl

pub leave_quiet : {T : Type 0} (defers : T → Option ℕ) (c : Leave) (p : Leaving) → IsQuietPlan (plan_at defers c p)
leave_quiet defers c leaving.Swaps = tt
leave_quiet defers c (leaving.Settles settle) = quiet_as (settled c) (settle_plan defers settle) (settle_quiet defers settle settle.stands)
leave_quiet defers c leaving.Frees = tt
leave_quiet defers c leaving.Over = tt

-- a step of row i
module _ {T : Type 0} {size : ℕ} (defers : T → Option ℕ) (w : World T) (good : Good defers (LAST_SLOT + 1) size w) (i : ℕ) where
  -- what the step of a row that settles comes to: it has ended and had no batch, or it goes on
  abbrev SettledTo : Settle → Mem T → Settle → Settled T → Type 0
  SettledTo c m d o =
      ((m ≡ w.memory) × (c.held ≡ false) × (o ≡ Done))
      ⊎ (IsGoing o × ((s : ℕ) → words_of m (Slot s BATCH) ≡ HELD → ((words_of w.memory (Slot s BATCH) ≡ HELD) × (settle_has s c ≡ true → settle_has s d ≡ true)) ⊎ (settle_has s d ≡ true)))

  settled_to : (c : Settle) → Fits (LAST_SLOT + 1) i (view defers w.memory) good.state good.extra c → (m : Mem T) (d : Settle) (o : Settled T) → Steps Took value_at w.memory (settle_plan defers c) m (d, o) → SettledTo c m d o
  settled_to c r m d o st = by (is_over c.stands) refl
    where
      may : May Can Took value_at w.memory (settle_plan defers c)
      may = may_at defers (LAST_SLOT + 1) i w.memory good.state good.extra c good.inv good.shows (words_good defers (LAST_SLOT + 1) w good) c.stands r

      over_is : (p : Settling) → is_over p ≡ true → p ≡ settling.Over
      over_is p e = grind arith

      ended : FitsAt (LAST_SLOT + 1) i (view defers w.memory) good.state good.extra (bare c) settling.Over → Steps Took value_at w.memory (plans.plan_at defers c settling.Over) m (d, o) → SettledTo c m d o
      ended over st = inl (st.0, over.holds, ap (λ (q : Settle × Settled T). q.1) st.1)

      on : d.slot ≡ c.slot → (s : ℕ) → words_of m (Slot s BATCH) ≡ HELD → ((words_of w.memory (Slot s BATCH) ≡ HELD) × (settle_has s c ≡ true → settle_has s d ≡ true)) ⊎ (settle_has s d ≡ true)
      on slot_is s h =
          let at = (λ (p : Settling) (e : c.stands ≡ p). subst (λ (q : Settling). May Can Took value_at w.memory (plans.plan_at defers c q)) e may) in
          elim (settle_by defers (LAST_SLOT + 1) i w.memory m good.state good.extra c (d, o) at c.stands refl r st s h)
          as (λ _. ((words_of w.memory (Slot s BATCH) ≡ HELD) × (settle_has s c ≡ true → settle_has s d ≡ true)) ⊎ (settle_has s d ≡ true)) [
            | inl was ↦ inl (was.0, (λ has. let k = has_on s c has in has_at s d (k.0 ∙ sym slot_is) (was.1 k.0 k.1)))
            | inr now ↦ inr (has_at s d (now.0 ∙ sym slot_is) now.1)
          ]

      by : (t : Bool) → is_over c.stands ≡ t → SettledTo c m d o
      by true e =
          let z = over_is c.stands e in
          ended (subst (λ (p : Settling). FitsAt (LAST_SLOT + 1) i (view defers w.memory) good.state good.extra (bare c) p) z r)
          (subst (λ (p : Settling). Steps Took value_at w.memory (plans.plan_at defers c p) m (d, o)) z st)
      by false e =
          let k = settle_steps defers (LAST_SLOT + 1) i w.memory m good.state good.extra c (d, o) refl (words_good defers (LAST_SLOT + 1) w good) good.inv good.shows c.stands refl e r st in
          inr (k.1, on k.0.slot_is)

  fits_at : (row : Row) → w.row i ≡ row → FitsRow (LAST_SLOT + 1) i (view defers w.memory) good.state good.extra (length w.memory.slots) row
  fits_at row is = subst (λ (r : Row). FitsRow (LAST_SLOT + 1) i (view defers w.memory) good.state good.extra (length w.memory.slots) r) is (good.rows i)

  -- the rows that never have a batch in hand
  module _ (v : World T) (others : (j : ℕ) → (j ≡ i → ⊥) → v.row j ≡ w.row j) where
    none_had : (row : Row) → w.row i ≡ row → ((s : ℕ) → has_batch s row ≡ false) → SameBatches w.memory v.memory → HeldByRows w → HeldByRows v
    none_had row is none same held = rows_on w v i others (λ s h. inl (sym (same s) ∙ h, (λ has. absurd (let n = none s in cc (ap (has_batch s) is, has, n))))) held

    -- it goes on as another row
    abbrev Onto : ℕ → Row → Row → Type 0
    Onto s row row2 = ((words_of w.memory (Slot s BATCH) ≡ HELD) × (has_batch s row ≡ true → has_batch s row2 ≡ true)) ⊎ (has_batch s row2 ≡ true)

    went : (row row2 : Row) (m : Mem T) → w.row i ≡ row → v.row i ≡ row2 → v.memory ≡ m → ((s : ℕ) → words_of m (Slot s BATCH) ≡ HELD → Onto s row row2) → HeldByRows w → HeldByRows v
    went row row2 m is now mem on held =
        rows_on w v i others
        (λ s h. subst (λ (r : Row). Onto s (w.row i) r) (sym now) (subst (λ (r : Row). Onto s r row2) (sym is) (on s (sym (ap (λ (k : Mem T). words_of k (Slot s BATCH)) mem) ∙ h)))) held

    spared : {R : Type 0} (plan : Plan T R) (m : Mem T) (end : R) → IsQuietPlan plan → spares_plan BATCH plan ≡ true → May Can Took value_at w.memory plan → Steps Took value_at w.memory plan m end → SameBatches w.memory m
    spared plan m end q s may st t = plan_same w.memory t BATCH plan m end q s may st

    by_memory : (m : Mem T) → v.memory ≡ m → SameBatches w.memory m → SameBatches w.memory v.memory
    by_memory m is same s = ap (λ (k : Mem T). words_of k (Slot s BATCH)) is ∙ same s

    -- registering

    room_same : (bucket : ℕ) (out : Out T) → SameBatches w.memory (after w.memory (Room bucket) out)
    room_same bucket (Roomed (Ok made)) s = ap (λ (g : View). g.batches s) (room_view defers w.memory bucket)
    room_same bucket _ s = refl

    by_room : (bucket : ℕ) (out : Out T) (m : Mem T) → m ≡ after w.memory (Room bucket) out → SameBatches w.memory m
    by_room bucket out m is s = ap (λ (k : Mem T). words_of k (Slot s BATCH)) is ∙ room_same bucket out s

    register_same : (c : Register) (p : Registering) → May Can Took value_at w.memory (registers.plan_at c p) → (m : Mem T) (end : Register × Advance ℕ)
        → Steps Took value_at w.memory (registers.plan_at c p) m end → SameBatches w.memory m
    register_same c registering.Begin may m end st = by_room 0 st.0 m st.1.1
    register_same c registering.Look may m end st = spared (registers.plan_at c registering.Look) m end tt refl may st
    register_same c (registering.Widen bucket seen) may m end st = by_room bucket st.0 m st.1.1
    register_same c (registering.Take seen) may m end st = spared (registers.plan_at c (registering.Take seen)) m end tt refl may st
    register_same c registering.Enter may m end st = spared (registers.plan_at c registering.Enter) m end tt refl may st
    register_same c registering.Registered may m end st = λ s. ap (λ (k : Mem T). words_of k (Slot s BATCH)) st.0
    register_same c (registering.Refused fault) may m end st = λ s. ap (λ (k : Mem T). words_of k (Slot s BATCH)) st.0

    -- deferring

    defer_same : (s : ℕ) (c : Defer) (p : Deferring) → FitsDefer (LAST_SLOT + 1) i (view defers w.memory) good.state good.extra s c.block c.table_word p
        → May Can Took value_at w.memory (defer.plan_at c p) → (m : Mem T) (end : Defer × Advance Unit) → Steps Took value_at w.memory (defer.plan_at c p) m end → SameBatches w.memory m
    defer_same s c deferring.Reads r may m end st = spared (defer.plan_at c deferring.Reads) m end tt refl may st
    defer_same s c (deferring.Links head) r may m end st = spared (defer.plan_at c (deferring.Links head)) m end tt refl may st
    defer_same s c (deferring.Pushes head) r may m end st = spared (defer.plan_at c (deferring.Pushes head)) m end tt (ap (λ at. not (is_field BATCH at)) r.on.at_is) may st
    defer_same s c deferring.Over r may m end st = λ t. ap (λ (k : Mem T). words_of k (Slot t BATCH)) st.0

    -- settling

    settles_went : (c : Settle) → w.row i ≡ Settles c → (m : Mem T) (d : Settle) (o : Settled T) → Steps Took value_at w.memory (settle_plan defers c) m (d, o) → v ≡ settles_on w i c m (d, o) → HeldByRows w → HeldByRows v
    settles_went c is m d o st e held = by o (settled_to c (fits_at (Settles c) is) m d o st) e
      where
        goes : (o : Settled T) → v.row i ≡ Settles d → v.memory ≡ m → (o ≡ Done → ⊥) → SettledTo c m d o → HeldByRows v
        goes o now mem on to = elim to as (λ _. HeldByRows v) [
          | inl k ↦ absurd (on k.2)
          | inr k ↦ went (Settles c) (Settles d) m is now mem k.1 held
        ]

        by : (o : Settled T) → SettledTo c m d o → v ≡ settles_on w i c m (d, o) → HeldByRows v
        by Goes to e = goes Goes (ap (λ (x : World T). x.row i) e ∙ with_here w.row i (Settles d)) (ap (λ (x : World T). x.memory) e) (λ q. cc q) to
        by Waits to e = goes Waits (ap (λ (x : World T). x.row i) e ∙ with_here w.row i (Settles d)) (ap (λ (x : World T). x.memory) e) (λ q. cc q) to
        by (Gave value) to e = goes (Gave value) (ap (λ (x : World T). x.row i) e ∙ with_here w.row i (Settles d)) (ap (λ (x : World T). x.memory) e) (λ q. cc q) to
        by Done to e = elim to as (λ _. HeldByRows v) [
          | inl k ↦ went (Settles c) Rests m is (ap (λ (x : World T). x.row i) e ∙ with_here w.row i Rests) (ap (λ (x : World T). x.memory) e)
              (λ s h. inl (sym (ap (λ (q : Mem T). words_of q (Slot s BATCH)) k.0) ∙ h, (λ has. absurd (let q = (has_on s c has).1 in let f = k.1 in cc (q, f))))) held
          | inr k ↦ absurd k.0
        ]

    -- leaving

    -- outside of its settling
    leaves_same : (c : Leave) → w.row i ≡ Leaves c → (m : Mem T) (end : Leave × Settled T) → v ≡ leaves_on w i c m end → (p : Leaving) → c.stands ≡ p → ((s : ℕ) → leaving_has s p ≡ false)
        → spares_plan BATCH (plan_at defers c p) ≡ true → Steps Took value_at w.memory (plan_at defers c p) m end → HeldByRows w → HeldByRows v
    leaves_same c is m end e p stands none spares st held =
        none_had (Leaves c) is (λ s. ap (leaving_has s) stands ∙ none s)
        (by_memory m (ap (λ (x : World T). x.memory) e)
        (spared (plan_at defers c p) m end (leave_quiet defers c p) spares (subst (λ (q : Leaving). May Can Took value_at w.memory (plan_at defers c q)) stands (leaves_may defers (LAST_SLOT + 1) refl w good i c is)) st)) held

    leaves_went : (c : Leave) → w.row i ≡ Leaves c → (m : Mem T) (end : Leave × Settled T) → v ≡ leaves_on w i c m end → (p : Leaving) → c.stands ≡ p → Steps Took value_at w.memory (plan_at defers c p) m end
        → HeldByRows w → HeldByRows v
    leaves_went c is m end e (leaving.Settles settle) stands st held =
        let b = steps_back (settled c) w.memory m (settle_plan defers settle) end st in
        by b.0.0 b.0.1 b.2 (settled_to settle fits m b.0.0 b.0.1 b.1)
      where
        fits : Fits (LAST_SLOT + 1) i (view defers w.memory) good.state good.extra settle
        fits = (subst (λ (q : Leaving). FitsLeave (LAST_SLOT + 1) i (view defers w.memory) good.state good.extra c.slot c.becomes c.frees q) stands (fits_at (Leaves c) is)).settles

        mem : v.memory ≡ m
        mem = ap (λ (x : World T). x.memory) e

        goes : (d : Settle) (o : Settled T) → end ≡ settled c (d, o) → settled c (d, o) ≡ (standing c (leaving.Settles d), o) → (o ≡ Done → ⊥) → SettledTo settle m d o → HeldByRows v
        goes d o is_end same on to = elim to as (λ _. HeldByRows v) [
          | inl k ↦ absurd (on k.2)
          | inr k ↦ went (Leaves c) (Leaves (standing c (leaving.Settles d))) m is (ap (λ (x : World T). x.row i) e ∙ with_here w.row i (left_row end.0 end.1) ∙ left end (is_end ∙ same) on) mem
              (λ s h. subst (λ (q : Leaving). ((words_of w.memory (Slot s BATCH) ≡ HELD) × (leaving_has s q ≡ true → settle_has s d ≡ true)) ⊎ (settle_has s d ≡ true)) (sym stands) (k.1 s h)) held
        ]
          where
            left : (end : Leave × Settled T) → end ≡ (standing c (leaving.Settles d), o) → (o ≡ Done → ⊥) → left_row end.0 end.1 ≡ Leaves (standing c (leaving.Settles d))
            left (f, Goes) q on = ap (λ (z : Leave × Settled T). Leaves z.0) q
            left (f, Waits) q on = ap (λ (z : Leave × Settled T). Leaves z.0) q
            left (f, Gave value) q on = ap (λ (z : Leave × Settled T). Leaves z.0) q
            left (f, Done) q on = absurd (on (sym (ap (λ (z : Leave × Settled T). z.1) q)))

        by : (d : Settle) (o : Settled T) → end ≡ settled c (d, o) → SettledTo settle m d o → HeldByRows v
        by d Goes q to = goes d Goes q refl (λ z. cc z) to
        by d Waits q to = goes d Waits q refl (λ z. cc z) to
        by d (Gave value) q to = goes d (Gave value) q refl (λ z. cc z) to
        by d Done q to = elim to as (λ _. HeldByRows v) [
          | inl k ↦ went (Leaves c) (v.row i) m is refl mem
              (λ s h. inl (
                sym (ap (λ (z : Mem T). words_of z (Slot s BATCH)) k.0) ∙ h,
                (λ has. absurd (let z = (has_on s settle (subst (λ (l : Leaving). leaving_has s l ≡ true) stands has)).1 in let f = k.1 in cc (z, f))),
              )) held
          | inr k ↦ absurd k.0
        ]
    leaves_went c is m end e leaving.Swaps stands st held = leaves_same c is m end e leaving.Swaps stands (λ s. refl) refl st held
    leaves_went c is m end e leaving.Frees stands st held = leaves_same c is m end e leaving.Frees stands (λ s. refl) refl st held
    leaves_went c is m end e leaving.Over stands st held = leaves_same c is m end e leaving.Over stands (λ s. refl) refl st held

    step_held : (row : Row) → w.row i ≡ row → Steps' defers i row w v → HeldByRows w → HeldByRows v
    step_held Rests is st held = absurd st
    step_held (Registers c) is st held =
        none_had (Registers c) is (λ s. refl)
        (by_memory st.0 (ap (λ (x : World T). x.memory) st.3 ∙ registers_memory w i st.0 c st.1.0 st.1.1) (register_same c c.stands (registers_may defers (LAST_SLOT + 1) refl w good i c is) st.0 st.1 st.2)) held
    step_held (Enters c) is st held =
        none_had (Enters c) is (λ s. refl)
        (by_memory st.0 (ap (λ (x : World T). x.memory) st.3) (spared (enter_plan c) st.0 st.1 tt refl (enters_may defers (LAST_SLOT + 1) w good i c is) st.2)) held
    step_held (Settles c) is st held = settles_went c is st.0 st.1.0 st.1.1 st.2 st.3 held
    step_held (Leaves c) is st held = leaves_went c is st.0 st.1 st.3 c.stands refl st.2 held
    step_held (Defers s c) is st held =
        none_had (Defers s c) is (λ t. refl)
        (by_memory st.0 (ap (λ (x : World T). x.memory) st.3 ∙ defers_memory w i st.0 s st.1.0 st.1.1)
        (defer_same s c c.stands (fits_at (Defers s c) is) (defers_may defers (LAST_SLOT + 1) w good i s c is) st.0 st.1 st.2)) held
    step_held (Frees c) is st held =
        none_had (Frees c) is (λ s. refl)
        (by_memory st.0 (ap (λ (x : World T). x.memory) st.3) (spared (unregister_plan c) st.0 st.1 tt refl (frees_may defers (LAST_SLOT + 1) w good i c is) st.2)) held

-- whatever happens
module _ {T : Type 0} (defers : T → Option ℕ) (size : ℕ) where
  -- where rows and batches are as they were
  still : (w v u : World T) → v ≡ u → u.row ≡ w.row → SameBatches w.memory u.memory → HeldByRows w → HeldByRows v
  still w v u is rows same held = subst (λ (x : World T). HeldByRows x) (sym is) (rows_same w u rows same held)

  by_after : (mem mem2 mem3 : Mem T) → mem3 ≡ mem2 → SameBatches mem mem2 → SameBatches mem mem3
  by_after mem mem2 mem3 is same s = ap (λ (k : Mem T). words_of k (Slot s BATCH)) is ∙ same s

  pub happens_held : (e : Event T) (w v : World T) → Good defers (LAST_SLOT + 1) size w → Happens defers size e w v → HeldByRows w → HeldByRows v
  happens_held (Begin i request) w v good h held =
      rows_on w v i (λ j ne. begins_others defers size w v i j ne request h.1)
      (λ s was. inl (sym (ap (λ (k : Mem T). words_of k (Slot s BATCH)) (begins_memory defers size i request w v h.1)) ∙ was, (λ has. absurd (let r = ap (has_batch s) h.0 in cc (r, has))))) held
  happens_held (Step i) w v good h held = step_held defers w good i v (λ j ne. steps_others defers size w v i j ne (w.row i) h) (w.row i) refl h held
  happens_held (Makes i value words) w v good h held =
      still w v (made_by defers w i h.1 h.0) h.4 (made_row defers w i h.1 h.0)
      (by_after w.memory h.1 (made_by defers w i h.1 h.0).memory (made_memory defers w i h.1 h.0) (by_after w.memory (after w.memory (Make value words) h.0) h.1 h.3.1 (made_same w.memory value words h.0 h.3.0))) held
  happens_held (Drops i b) w v good h held = still w v _ h.4 refl (by_after w.memory (after w.memory (Take b) h.0) h.1 h.3.1 (λ s. refl)) held
  happens_held (Links i b o) w v good h held = still w v _ h.1 refl (λ s. refl) held
  happens_held (Parts i b) w v good h held = still w v _ h.1 refl (λ s. refl) held
  happens_held (Unlinks i b) w v good h held = still w v _ h.1 refl (λ s. refl) held
  happens_held (Rewrites i b value) w v good h held = still w v _ h.5 refl (by_after w.memory (after w.memory (Rewrite b value) (Taken h.0)) h.1 h.3.1 (λ s. refl)) held
  happens_held (Operates op) w v good h held = still w v _ h.4 refl (by_after w.memory (after w.memory op h.0) h.1 h.3.1 (own_op_same defers w.memory op h.0 h.2)) held
  happens_held (Ends i o) w v good h held = still w v _ h refl (λ s. refl) held
  happens_held (LeavesOver i b further) w v good h held = still w v _ h.4 refl (λ s. refl) held
  happens_held (Relinks i b word) w v good h held = still w v _ h.4 refl (by_after w.memory (after w.memory (Store (Entry b NEXT) word) h.0) h.1 h.3.1 (λ s. refl)) held
  happens_held (Clears i b) w v good h held = still w v _ h.5 refl (by_after w.memory (after w.memory (Take b) h.0) h.1 h.4.1 (λ s. refl)) held
  happens_held (Chooses choice) w v good h held = still w v _ h refl (λ s. refl) held

  pub start_held : (roots : ℕ) → HeldByRows (at_start defers roots)
  start_held roots s held = absurd (cc held)

  pub runs_held : (events : List (Event T)) (w v : World T) → Good defers (LAST_SLOT + 1) size w → AllSized size w.row → Runs defers size events w v → HeldByRows w → HeldByRows v
  runs_held [] w v good sized h held = subst (λ (x : World T). HeldByRows x) (sym h) held
  runs_held (e ∷ events) w v good sized h held =
      runs_held events h.0 v (happens_good defers (LAST_SLOT + 1) size refl w h.0 good sized e h.1) (happens_sized defers size w h.0 sized e h.1) h.2 (happens_held e w h.0 good h.1 held)

  -- one turn after another
  steps_held : (steps i : ℕ) (w v : World T) → Lone defers (LAST_SLOT + 1) size i w → RunsOn defers steps i w v → HeldByRows w → HeldByRows v
  steps_held zero i w v lone r held = subst (λ (x : World T). HeldByRows x) (sym r.1) held
  steps_held (suc steps) i w v lone r held =
      steps_held steps i r.0 v (steps_lone defers (LAST_SLOT + 1) size refl i w r.0 lone r.1) r.2 (happens_held (Step i) w r.0 lone.good r.1 held)

  pub turns_held : (turns : List (Turns T)) (w v : World T) (all : List Change) → Rested defers (LAST_SLOT + 1) size w → TakesTurns defers size turns w v all → HeldByRows w → HeldByRows v
  turns_held [] w v all r t held = subst (λ (x : World T). HeldByRows x) (sym t.0) held
  turns_held (Whole i request ∷ turns) w v all r t held =
      let c = t.2 in
      turns_held turns t.0 v t.1 (calls_rested defers (LAST_SLOT + 1) size refl i request w t.0 r c) t.3
      (steps_held c.1 i c.0 t.0 (begins_lone defers (LAST_SLOT + 1) size refl i request w c.0 r c.3) c.4 (happens_held (Begin i request) w c.0 r.good (c.2, c.3) held))
  turns_held (Between e ∷ turns) w v all r t held =
      turns_held turns t.0 v t.1 (users_rested defers (LAST_SLOT + 1) size refl e w t.0 t.2 r t.3) t.4 (happens_held e w t.0 r.good t.3 held)

-- Where no row is under way but one, no batch is held but its own.

-- no slot's batch is held
abbrev pub NoneHeld : {T : Type 0} → Mem T → Type 0
NoneHeld mem = (s : ℕ) → words_of mem (Slot s BATCH) ≡ HELD → ⊥

module _ {T : Type 0} (w : World T) (i : ℕ) (others : OthersRest i w) (held : HeldByRows w) where
  own : (s : ℕ) → words_of w.memory (Slot s BATCH) ≡ HELD → has_batch s (w.row i) ≡ true
  own s h = by (held s h).0 (held s h).1 ((held s h).0 == i) refl
    where
      by : (j : ℕ) → has_batch s (w.row j) ≡ true → (t : Bool) → (j == i) ≡ t → has_batch s (w.row i) ≡ true
      by j has true e = subst (λ (k : ℕ). has_batch s (w.row k) ≡ true) (grind (arith, e)) has
      by j has false e = absurd (let r = ap (has_batch s) (others j (λ q. grind (arith, e, q))) in cc (r, has))

  pub settles_alone : (defers : T → Option ℕ) (c : Settle) → w.row i ≡ Settles c → HoldsAlone (view defers w.memory) c
  settles_alone defers c is s h = has_on s c (sym (ap (has_batch s) is) ∙ own s h)

  pub leaves_alone : (defers : T → Option ℕ) (c : Leave) (settle : Settle) → w.row i ≡ Leaves c → c.stands ≡ leaving.Settles settle → HoldsAlone (view defers w.memory) settle
  leaves_alone defers c settle is stands s h = has_on s settle (sym (ap (leaving_has s) stands) ∙ sym (ap (has_batch s) is) ∙ own s h)

  pub none_held : w.row i ≡ Rests → NoneHeld w.memory
  none_held is s h = let r = ap (has_batch s) is in let k = own s h in cc (r, k)
