-- In each world that came about from the start, what waits behind a block by the log does so in the state of the collector: so it is retired by no row.
use Rattle.std.specs.Prelude.{Option, Some, Ok, Err, ◌==◌, ◌⊎◌, ◌++◌, zero, suc, if◌then◌else◌}
use Rattle.std.proofs.Common.{◌≡◌, ℕ, ◌+◌, Bool, true, false, List, [], ◌∷◌, length, refl, arith, ap, sym, subst, ◌∙◌, inl, inr}
use Rattle.std.proofs.lemmas.Bool.{cases_eq, eq-eqb, ne_eqb}
use Rattle.run_debts.specs.Given.SeizeWordsMem.{Mem}
use Rattle.run_debts.specs.Given.SeizeWordsOp.{Out, Found, Stored, Exchanged, Made, Taken, Roomed}
use Rattle.run_debts.specs.Given.SeizeWordsWord.{link_to}
use Rattle.run_debts.specs.Given.SeizeWordsDeclared.at.At.TheVariants.{Word}
use Rattle.run_debts.specs.Given.SeizeDefer.{deferring}
use Rattle.run_debts.specs.Given.SeizeLaw.{Effect, Deferred, is_retired, holds, IsSound}
use Rattle.run_debts.specs.Given.SeizeSequence.{IsBetween, taken_in}
use Rattle.run_debts.specs.Given.SeizeDeclared.states.TheConstants.{LAST_SLOT}
use Rattle.run_debts.specs.Given.SeizeWorld.{World, Row, Hand, NoBlock, Making, InUse, Parting, Cutting, Handed, LeftTo, Defers, Request, Register', Enter', Leave', LeaveOwned, Refresh, Unregister', Retire, Flush, Defer', Begins, Event, Begin, Step, Makes, Drops, Links, Parts, Unlinks, Rewrites, Operates, Ends, LeavesOver, Relinks, Clears, Chooses, Happens, Runs, Steps', made_by, at_start, with_at, times, IsOnto, MayCut}
use Rattle.run_debts.proofs.Given.SeizeMovesSets.Unmoved.{is_in_wait, Unmoved}
use Rattle.run_debts.proofs.Given.SeizeMovesState.Ghost.{Life, IsDeferring, IsPending, State}
use Rattle.run_debts.proofs.Given.SeizeMovesState.Moves
use Rattle.run_debts.proofs.Given.SeizeRulePoints.Aside.{HandFits}
use Rattle.run_debts.proofs.Given.SeizeRuleRows.Known.{FitsRow}
use Rattle.run_debts.proofs.Given.SeizeRuleRows.Others.{users_rows}
use Rattle.run_debts.proofs.Given.SeizeRuleRows.Sizes.{AllSized}
use Rattle.run_debts.proofs.Given.SeizeRuleRows.SizesKept.{happens_sized}
use Rattle.run_debts.proofs.Given.SeizeRuleRows.Told.{BeginTold}
use Rattle.run_debts.proofs.Given.SeizeMemoryWords.View.{view}
use Rattle.run_debts.proofs.Given.SeizeRuleWorld.Begins.{begins_next}
use Rattle.run_debts.proofs.Given.SeizeRuleWorld.Events.{leaves_over_good}
use Rattle.run_debts.proofs.Given.SeizeRuleWorld.Good.{Good, Next}
use Rattle.run_debts.proofs.Given.SeizeRuleWorld.Kept.{IsStill, steps_next, users_good}
use Rattle.run_debts.proofs.Given.SeizeRuleWorld.Start.{start_good}
use Rattle.run_debts.proofs.Given.SeizeAloneSpared.Rows.{RowStepped, row_stepped}
use Rattle.run_waiting.specs.Lives.Waiting.{IsPutting, waits_behind}
use Rattle.run_waiting.proofs.Lives.Lives.{WaitsIn, OnWay, elsewhere, other_block, in_wait, not_given, as_before, by_unmoved, leaves}
use Rattle.run_waiting.proofs.Lives.Logs.{unless_is, unless_other, waited, waits_on}
use Rattle.run_waiting.proofs.Lives.Putting.{puts_onto, putting_life, taken_free, put_before}
use Rattle.run_waiting.proofs.Lives.Rows.{same_link, new_way, row_waits}

-- the world is good, and in a state of it all waits that waits by the log
pub record Kept {T : Type 0} (defers : T → Option ℕ) (size : ℕ) (w : World T) : Type 0 where
  pub good : Good defers (LAST_SLOT + 1) size w
  pub sized : AllSized size w.row
  pub waits : (b t : ℕ) → waits_behind b w.log ≡ Some t → WaitsIn good.state b t
  pub putting : (i b t : ℕ) → IsPutting b t (w.row i) → waits_behind b w.log ≡ Some t

-- what is unlinked waits nowhere
cut_waits : (h : Hand) (i : ℕ) (l : Life) → h ≡ Cutting i → HandFits h l → is_in_wait l ≡ false
cut_waits h i l is fits = ap is_in_wait (subst (λ (k : Hand). HandFits k l) is fits)

-- what waits the collector has
pub waiting_hand : (h : Hand) (l : Life) → is_in_wait l ≡ true → HandFits h l → h ≡ Handed
waiting_hand NoBlock l some fits = absurd (let none = ap is_in_wait fits in cc (some, none))
waiting_hand (Making i) l some fits = absurd (let none = ap is_in_wait fits in cc (some, none))
waiting_hand (InUse o) l some fits = absurd (let none = ap is_in_wait fits in cc (some, none))
waiting_hand (Parting i) l some fits = absurd (let none = ap is_in_wait fits in cc (some, none))
waiting_hand (Cutting i) l some fits = absurd (let none = ap is_in_wait fits in cc (some, none))
waiting_hand Handed l some fits = refl
waiting_hand (LeftTo i) l some fits = absurd (let none = ap is_in_wait fits in cc (some, none))

-- an event that is neither a row's, nor one that leaves a block over
abbrev pub IsAside : {T : Type 0} → Event T → Type 0
IsAside (Begin i request) = ⊥
IsAside (Step i) = ⊥
IsAside (LeavesOver i c further) = ⊥
IsAside _ = Unit {0}

module _ {T : Type 0} (defers : T → Option ℕ) (size : ℕ) (w w2 : World T) where
  -- it tells of nothing more that waits
  makes_back : (i : ℕ) (made : Mem T) (out : Out T) (b : ℕ) → waits_behind b (made_by defers w i made out).log ≡ waits_behind b w.log
  makes_back i made (Made (Ok c)) b = refl
  makes_back i made (Made (Err back)) b = refl
  makes_back i made (Found x) b = refl
  makes_back i made Stored b = refl
  makes_back i made (Exchanged r) b = refl
  makes_back i made (Taken x) b = refl
  makes_back i made (Roomed r) b = refl

  told_by : (v : World T) → w2 ≡ v → (b : ℕ) → waits_behind b v.log ≡ waits_behind b w.log → waits_behind b w.log ≡ waits_behind b w2.log
  told_by v is b same = sym (ap (λ (z : World T). waits_behind b z.log) is ∙ same)

  pub log_back : (e : Event T) → IsAside e → Happens defers size e w w2 → (b : ℕ) → waits_behind b w.log ≡ waits_behind b w2.log
  log_back (Begin i request) still h b = absurd still
  log_back (Step i) still h b = absurd still
  log_back (Makes i value words) still h b = told_by (made_by defers w i h.1 h.0) h.4 b (makes_back i h.1 h.0 b)
  log_back (Drops i c) still h b = told_by _ h.4 b refl
  log_back (Links i c o) still h b = told_by _ h.1 b refl
  log_back (Parts i c) still h b = told_by _ h.1 b refl
  log_back (Unlinks i c) still h b = told_by _ h.1 b refl
  log_back (Rewrites i c value) still h b = told_by _ h.5 b refl
  log_back (Operates op) still h b = told_by _ h.4 b refl
  log_back (Ends i o) still h b = told_by _ h b refl
  log_back (LeavesOver i c further) still h b = absurd still
  log_back (Relinks i c word) still h b = told_by _ h.4 b refl
  log_back (Clears i c) still h b = told_by _ h.5 b refl
  log_back (Chooses choice) still h b = told_by _ h b refl

module _ {T : Type 0} (defers : T → Option ℕ) (size : ℕ) (w w2 : World T) (k : Kept defers size w) where
  abbrev n : ℕ
  n = LAST_SLOT + 1

  abbrev m : State
  m = k.good.state

  -- a step of a row
  module _ (i : ℕ) (step : Steps' defers i (w.row i) w w2) where
    abbrev next : Next defers n size w m i w2
    next = steps_next defers n size refl w w2 k.good k.sized i (w.row i) refl step

    abbrev did : RowStepped defers i w w2
    did = row_stepped defers w k.good i w2 step

    step_waits : (b t : ℕ) → waits_behind b w2.log ≡ Some t → WaitsIn next.good.state b t
    step_waits b t e =
        row_waits n i (view defers w.memory) m k.good.extra k.good.inv b t (k.waits b t (waited b t did.effects w.log did.one (sym (ap (waits_behind b) did.logged) ∙ e)).0)
        (length w.memory.slots) (w.row i) (w2.row i) w.uses w2.uses next.good.state (k.good.rows i) next.told (ap (waits_behind b) next.good.logged ∙ e)

    -- what a row is putting behind a block waits behind that still
    step_puts : (j b t : ℕ) → IsPutting b t (w2.row j) → waits_behind b w2.log ≡ Some t
    step_puts j b t puts = elim (cases_eq j i) as (λ _. waits_behind b w2.log ≡ Some t) [
      | inl e ↦ on i (put_before n i b t (w.row i) (w2.row i) w.uses w2.uses m next.good.state (subst (λ (x : ℕ). IsPutting b t (w2.row x)) e puts) next.told)
      | inr ne ↦ on j (subst (IsPutting b t) (did.rows j ne) puts)
    ]
      where
        sound : IsSound (did.effects ++ w.log)
        sound = subst IsSound (next.good.logged ∙ did.logged) next.good.inv.logged.sound

        on : (x : ℕ) → IsPutting b t (w.row x) → waits_behind b w2.log ≡ Some t
        on x was = ap (waits_behind b) did.logged ∙ waits_on b t did.effects w.log did.one (k.putting x b t was) (by (times t (taken_in did.effects)) refl)
          where
            by : (many : ℕ) → times t (taken_in did.effects) ≡ many → times t (taken_in did.effects) ≡ 0
            by zero e = e
            by (suc many) e =
                let its = putting_life n x (view defers w.memory) m k.good.extra (length w.memory.slots) b t (w.row x) (k.good.rows x) was in
                let held = (k.good.inv.logged.on_way b x its.0 t its.1).2 in
                let free : holds its.0 t w.log ≡ false = ap (holds its.0 t) (sym k.good.logged) ∙ taken_free t did.effects k.good.state.log did.one (subst (λ (l : List Effect). IsSound (did.effects ++ l)) (sym k.good.logged) sound) (λ none. cc (none, e)) its.0 in
                let held2 : holds its.0 t w.log ≡ true = ap (holds its.0 t) (sym k.good.logged) ∙ held in
                absurd (cc (free, held2))

  -- what leaves all that waits, and tells of no more that does
  quiet : (g : Good defers n size w2) → ((b t : ℕ) → waits_behind b w2.log ≡ Some t → waits_behind b w.log ≡ Some t) → Unmoved n m g.state
      → (b t : ℕ) → waits_behind b w2.log ≡ Some t → WaitsIn g.state b t
  quiet g back u b t e = by_unmoved m b t g.state n u (k.waits b t (back b t e))

  same_log : w2.log ≡ w.log → (b t : ℕ) → waits_behind b w2.log ≡ Some t → waits_behind b w.log ≡ Some t
  same_log same b t e = sym (ap (waits_behind b) same) ∙ e

  -- a row begins
  module _ (i : ℕ) (g : Good defers n size w2) where
    abbrev AllWait : Type 0
    AllWait = (b t : ℕ) → waits_behind b w2.log ≡ Some t → WaitsIn g.state b t

    begin_retire : (c h : ℕ) → w.hand c ≡ Cutting h → w2.log ≡ w.log → g.state ≡ Moves.begins_retire m i c → AllWait
    begin_retire c h cut same told b t e =
        let was = k.waits b t (same_log same b t e) in
        subst (λ (z : State). WaitsIn z b t) (sym told)
        (as_before m b t (Moves.begins_retire m i c) (elsewhere m.life c (IsPending i) b (other_block m b t was c (cut_waits (w.hand c) h (m.life c) cut (k.good.hands c)))) (λ j bs first. refl) was)

    begin_defer : (s c u field : ℕ) → w2.log ≡ Deferred c u ∷ w.log → w2.row i ≡ Defers s (deferring (link_to c) (Word u field)) → Unmoved n m g.state → AllWait
    begin_defer s c u field logged row unmoved b t e = by (b == c) refl (sym (ap (waits_behind b) logged) ∙ e)
      where
        way : g.state.life c ≡ IsDeferring i s u
        way = new_way n i (view defers w2.memory) g.state g.extra (length w2.memory.slots) s c u field
            (subst (λ (q : Row). FitsRow n i (view defers w2.memory) g.state g.extra (length w2.memory.slots) q) row (g.rows i))

        by : (q : Bool) → (b == c) ≡ q → (if q then Some u else waits_behind b w.log) ≡ Some t → WaitsIn g.state b t
        by false is before = by_unmoved m b t g.state n unmoved (k.waits b t before)
        by true is new =
            let target : u ≡ t = cc new in
            let same : b ≡ c = grind (arith, is) in
            subst (λ (z : ℕ). WaitsIn g.state b z) target (OnWay i s (ap g.state.life same ∙ way))

    row_put : (s c u field : ℕ) (v : World T) → w2 ≡ v → v.row i ≡ (if i == i then Defers s (deferring (link_to c) (Word u field)) else w.row i) → w2.row i ≡ Defers s (deferring (link_to c) (Word u field))
    row_put s c u field v is row =
        ap (λ (z : World T). z.row i) is ∙ row ∙ ap (λ (q : Bool). if q then Defers s (deferring (link_to c) (Word u field)) else w.row i) (eq-eqb i i refl)

    begin_waits : (request : Request) → Begins defers size i request w w2 → BeginTold n i request m g.state → AllWait
    begin_waits (Register' enters) h told = quiet g (same_log (ap (λ (z : World T). z.log) h)) told
    begin_waits (Enter' s) h told = quiet g (same_log (ap (λ (z : World T). z.log) h.1)) told
    begin_waits (Leave' s) h told = quiet g (same_log (ap (λ (z : World T). z.log) h.1)) told
    begin_waits (LeaveOwned s) h told = quiet g (same_log (ap (λ (z : World T). z.log) h.1)) told
    begin_waits (Refresh s) h told = quiet g (same_log (ap (λ (z : World T). z.log) h.1)) told
    begin_waits (Unregister' s) h told = quiet g (same_log (ap (λ (z : World T). z.log) h.1)) told
    begin_waits (Retire s c) h told = begin_retire c h.1.0 h.1.1 (ap (λ (z : World T). z.log) h.2) told
    begin_waits (Flush s) h told = λ b t e. subst (λ (z : State). WaitsIn z b t) (sym told) (k.waits b t (same_log (ap (λ (z : World T). z.log) h.1) b t e))
    begin_waits (Defer' s c u) h told = begin_defer s c u h.0 (ap (λ (z : World T). z.log) h.7) (row_put s c u h.0 _ h.7 refl) told

    -- what a row is putting behind another block waits behind that
    abbrev AllPut : Type 0
    AllPut = (j b t : ℕ) → IsPutting b t (w2.row j) → waits_behind b w2.log ≡ Some t

    either_row : (row : Row) (j b t : ℕ) → w2.row j ≡ with_at w.row i row j → IsPutting b t (w2.row j) → IsPutting b t row ⊎ IsPutting b t (w.row j)
    either_row row j b t is puts = by (j == i) (subst (IsPutting b t) is puts)
      where
        by : (q : Bool) → IsPutting b t (if q then row else w.row j) → IsPutting b t row ⊎ IsPutting b t (w.row j)
        by true its = inl its
        by false its = inr its

    plain_puts : (row : Row) → ((b t : ℕ) → IsPutting b t row → ⊥) → ((j : ℕ) → w2.row j ≡ with_at w.row i row j) → w2.log ≡ w.log → AllPut
    plain_puts row none rows same j b t puts = elim (either_row row j b t (rows j) puts) as (λ _. waits_behind b w2.log ≡ Some t) [
      | inl its ↦ absurd (none b t its)
      | inr was ↦ ap (waits_behind b) same ∙ k.putting j b t was
    ]

    defer_puts : (s c u field : ℕ) → MayCut i (w.hand c) → w2.log ≡ Deferred c u ∷ w.log → ((j : ℕ) → w2.row j ≡ with_at w.row i (Defers s (deferring (link_to c) (Word u field))) j) → AllPut
    defer_puts s c u field may logged rows j b t puts = elim (either_row (Defers s (deferring (link_to c) (Word u field))) j b t (rows j) puts) as (λ _. waits_behind b w2.log ≡ Some t) [
      | inl its ↦
          let one : b ≡ c = sym (same_link c b its.1) in
          ap (waits_behind b) logged ∙ ap (λ (q : Bool). if q then Some u else waits_behind b w.log) (eq-eqb b c one) ∙ ap (λ (x : ℕ). Some x) (sym its.2)
      | inr was ↦
          let old = k.putting j b t was in
          let handed = waiting_hand (w.hand b) (m.life b) (in_wait m b t (k.waits b t old)) (k.good.hands b) in
          ap (waits_behind b) logged ∙ ap (λ (q : Bool). if q then Some u else waits_behind b w.log) (ne_eqb b c (λ e. subst (MayCut i) (ap w.hand (sym e) ∙ handed) may)) ∙ old
    ]

    begin_puts : (request : Request) → Begins defers size i request w w2 → AllPut
    begin_puts (Register' enters) h = plain_puts _ (λ b t z. z) (λ j. ap (λ (z : World T). z.row j) h) (ap (λ (z : World T). z.log) h)
    begin_puts (Enter' s) h = plain_puts _ (λ b t z. z) (λ j. ap (λ (z : World T). z.row j) h.1) (ap (λ (z : World T). z.log) h.1)
    begin_puts (Leave' s) h = plain_puts _ (λ b t z. z) (λ j. ap (λ (z : World T). z.row j) h.1) (ap (λ (z : World T). z.log) h.1)
    begin_puts (LeaveOwned s) h = plain_puts _ (λ b t z. z) (λ j. ap (λ (z : World T). z.row j) h.1) (ap (λ (z : World T). z.log) h.1)
    begin_puts (Refresh s) h = plain_puts _ (λ b t z. z) (λ j. ap (λ (z : World T). z.row j) h.1) (ap (λ (z : World T). z.log) h.1)
    begin_puts (Unregister' s) h = plain_puts _ (λ b t z. z) (λ j. ap (λ (z : World T). z.row j) h.1) (ap (λ (z : World T). z.log) h.1)
    begin_puts (Retire s c) h = plain_puts _ (λ b t z. z) (λ j. ap (λ (z : World T). z.row j) h.2) (ap (λ (z : World T). z.log) h.2)
    begin_puts (Flush s) h = plain_puts _ (λ b t z. z) (λ j. ap (λ (z : World T). z.row j) h.1) (ap (λ (z : World T). z.log) h.1)
    begin_puts (Defer' s c u) h = defer_puts s c u h.0 h.2 (ap (λ (z : World T). z.log) h.7) (λ j. ap (λ (z : World T). z.row j) h.7)

  aside_between : (e : Event T) → IsAside e → IsBetween e
  aside_between (Begin i request) aside = aside
  aside_between (Step i) aside = aside
  aside_between _ aside = tt

  -- where rows are as they were
  puts_on : w2.row ≡ w.row → ((b t : ℕ) → waits_behind b w.log ≡ Some t → ((j : ℕ) → IsPutting b t (w.row j) → waits_behind b w2.log ≡ Some t)) → (j b t : ℕ) → IsPutting b t (w2.row j) → waits_behind b w2.log ≡ Some t
  puts_on rows on j b t puts = (let was = subst (λ (g : ℕ → Row). IsPutting b t (g j)) rows puts in on b t (k.putting j b t was) j was)

  by_users : (e : Event T) → IsStill e → IsAside e → Happens defers size e w w2 → Kept defers size w2
  by_users e still aside h =
      let g = users_good defers n size refl w w2 k.good k.sized e still h in
      record { good = g.0; sized = happens_sized defers size w w2 k.sized e h; waits = quiet g.0 (λ b t is. log_back defers size w w2 e aside h b ∙ is) g.1; putting = puts_on (users_rows defers size w w2 e (aside_between e aside) h) (λ b t old j was. sym (log_back defers size w w2 e aside h b) ∙ old) }

  leaves_kept : (i c : ℕ) (further : List ℕ) → Happens defers size (LeavesOver i c further) w w2 → Kept defers size w2
  leaves_kept i c further h =
      let g = leaves_over_good defers n size w w2 k.good i c further h in
      record {
        good = g.0;
        sized = happens_sized defers size w w2 k.sized (LeavesOver i c further) h;
        waits = λ b t e.
            let was = unless_is c (waits_behind b w.log) t (sym (ap (λ (z : World T). waits_behind b z.log) h.4) ∙ e) in
            subst (λ (z : State). WaitsIn z b t) (sym g.1)
            (leaves n i m k.good.inv b t (k.waits b t was.0) c (cut_waits (w.hand c) h.0.0 (m.life c) h.0.1 (k.good.hands c)) was.1);
        putting = puts_on (users_rows defers size w w2 (LeavesOver i c further) tt h) (λ b t old j was.
            ap (λ (z : World T). waits_behind b z.log) h.4 ∙ unless_other c (waits_behind b w.log) t old (λ e. h.2 j (subst (λ (x : ℕ). IsOnto x (w.row j)) e (puts_onto b t (w.row j) was))));
      }

  pub happens_kept : (e : Event T) → Happens defers size e w w2 → Kept defers size w2
  happens_kept (Begin i request) h =
      let g = begins_next defers n size refl w w2 k.good i h.0 request h.1 in
      record { good = g.0; sized = happens_sized defers size w w2 k.sized (Begin i request) h; waits = begin_waits i g.0 request h.1 g.1; putting = begin_puts i g.0 request h.1 }
  happens_kept (Step i) h = record { good = (next i h).good; sized = happens_sized defers size w w2 k.sized (Step i) h; waits = step_waits i h; putting = step_puts i h }
  happens_kept (LeavesOver i c further) h = leaves_kept i c further h
  happens_kept (Makes i value words) h = by_users (Makes i value words) tt tt h
  happens_kept (Drops i c) h = by_users (Drops i c) tt tt h
  happens_kept (Links i c o) h = by_users (Links i c o) tt tt h
  happens_kept (Parts i c) h = by_users (Parts i c) tt tt h
  happens_kept (Unlinks i c) h = by_users (Unlinks i c) tt tt h
  happens_kept (Rewrites i c value) h = by_users (Rewrites i c value) tt tt h
  happens_kept (Operates op) h = by_users (Operates op) tt tt h
  happens_kept (Ends i o) h = by_users (Ends i o) tt tt h
  happens_kept (Relinks i c word) h = by_users (Relinks i c word) tt tt h
  happens_kept (Clears i c) h = by_users (Clears i c) tt tt h
  happens_kept (Chooses choice) h = by_users (Chooses choice) tt tt h

module _ {T : Type 0} (defers : T → Option ℕ) (size : ℕ) where
  pub runs_kept : (events : List (Event T)) (w w2 : World T) → Kept defers size w → Runs defers size events w w2 → Kept defers size w2
  runs_kept [] w w2 k h = subst (Kept defers size) (sym h) k
  runs_kept (e ∷ events) w w2 k h = runs_kept events h.0 w2 (happens_kept defers size w h.0 k e h.1) h.2

  pub start_kept : (roots : ℕ) → Kept defers size (at_start defers roots)
  start_kept roots = record { good = start_good defers (LAST_SLOT + 1) size roots; sized = λ i. tt; waits = λ b t e. absurd (cc e); putting = λ i b t puts. absurd puts }

  module _ (w : World T) (k : Kept defers size w) (b t : ℕ) (waits : waits_behind b w.log ≡ Some t) where
    pub unretired : is_retired b w.log ≡ false
    unretired = ap (is_retired b) (sym k.good.logged) ∙ k.good.inv.logged.given b ∙ not_given k.good.state b t (k.waits b t waits)

    pub has_it : w.hand b ≡ Handed
    has_it = waiting_hand (w.hand b) (k.good.state.life b) (in_wait k.good.state b t (k.waits b t waits)) (k.good.hands b)
