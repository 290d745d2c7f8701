-- A step of a row changes just how the slot is used that it works on, or that it takes, and leaves nobody outside who is inside.
use Rattle.std.specs.Prelude.{Option, if◌then◌else◌, ◌==◌}
use Rattle.std.proofs.Common.{◌≡◌, ℕ, ◌+◌, Bool, true, false, cond, inl, inr, length, refl, arith, ap, sym, subst, ◌∙◌}
use Rattle.std.proofs.lemmas.Bool.{cases_eq}
use Rattle.seize.specs.Given.SeizeWordsMem.{Mem}
use Rattle.seize.specs.declared.states.TheConstants.{LAST_SLOT, ACTIVE}
use Rattle.seize.specs.declared.advance.Advance.{Advance}
use Rattle.seize.specs.declared.advance.Advance.TheVariants as progress
use Rattle.seize.specs.declared.rows.settle.Settle.{Settle}
use Rattle.seize.specs.declared.rows.settle.Settled.{Settled}
use Rattle.seize.specs.declared.rows.settle.Settled.TheVariants.{Goes, Waits, Gave, Done}
use Rattle.seize.specs.declared.rows.leave.Leave.{Leave}
use Rattle.seize.specs.declared.rows.leave.Leaving.{Leaving}
use Rattle.seize.specs.declared.rows.leave.Leaving.TheVariants as leaving
use Rattle.seize.specs.declared.rows.register.Register.{Register}
use Rattle.seize.specs.declared.rows.defer.Defer.{Defer}
use Rattle.seize.specs.Law.{holds, is_open}
use Rattle.seize.specs.World.{World, Row, Rests, Registers, Enters, Settles, Leaves, Defers, Frees, Use, Vacant, Outside, Inside, Changing, IsInside, IsOutside, Steps', with_at, one_less, left_as, settles_on, defers_on}
use Rattle.seize_rule.proofs.Given.SeizeMovesState.Ghost.{State, emptied}
use Rattle.seize_rule.proofs.Given.SeizeMovesState.Logs.{held_open}
use Rattle.seize_rule.proofs.Given.SeizeMemoryWords.View.{view}
use Rattle.seize_rule.proofs.Rows.Known.{works_on, registering_on, leaving_on, FitsLeave, FitsRow}
use Rattle.seize_rule.proofs.Rows.Teams.{UseFits, shares, is_shared}
use Rattle.seize_rule.proofs.Rows.Others.{with_here, with_other}
use Rattle.seize_rule.proofs.Rows.Told.{RowTold, SettleGoes, SettleEnds, LeaveSwaps, LeaveGoes, LeaveSettled, LeaveEnds, RegisterLooks, RegisterRefused, RegisterTakes, RegisterEnters, EntersSlot, FreesSlot, DeferGoes, DeferPushes, DeferEnds, TakesFor}
use Rattle.seize_rule.proofs.World.Bounded.{outside_head}
use Rattle.seize_rule.proofs.World.Kept.{steps_next}
use Rattle.seize_model.proofs.Alone.Histories.Reached.{Reached}

-- a slot that is used is not taken by a row that registers, and one that it has taken it works on
register_uses : (n i t : ℕ) (row row2 : Row) (m m2 : State) (uses uses2 : ℕ → Use) (c : Register) → row ≡ Registers c → (uses t ≡ Vacant → ⊥) → (works_on row ≡ t + 1 → ⊥)
    → RowTold n i row m uses row2 m2 uses2 → uses2 t ≡ uses t
register_uses n i t row row2 m m2 uses uses2 c is used apart (SettleGoes d d2 e e2 same told) = absurd (cc (is, e))
register_uses n i t row row2 m m2 uses uses2 c is used apart (SettleEnds d e e2 over same) = absurd (cc (is, e))
register_uses n i t row row2 m m2 uses uses2 c is used apart (LeaveSwaps d again es p e e2 at lt word head same behind) = absurd (cc (is, e))
register_uses n i t row row2 m m2 uses uses2 c is used apart (LeaveGoes d settle settle2 e e2 at same told) = absurd (cc (is, e))
register_uses n i t row row2 m m2 uses uses2 c is used apart (LeaveSettled d settle e at over settled same) = absurd (cc (is, e))
register_uses n i t row row2 m m2 uses uses2 c is used apart (LeaveEnds d e at settled same) = absurd (cc (is, e))
register_uses n i t row row2 m m2 uses uses2 c is used apart (RegisterLooks d d2 e e2 at at2 enters same still) = ap (λ (f : ℕ → Use). f t) same
register_uses n i t row row2 m m2 uses uses2 c is used apart (RegisterRefused d e e2 at same still) = ap (λ (f : ℕ → Use). f t) same
register_uses n i t row row2 m m2 uses uses2 c is used apart (RegisterTakes d e at vacant takes still) = by d.enters takes
  where
    by : (enters : Bool) → TakesFor enters d uses row2 uses2 → uses2 t ≡ uses t
    by true k = ap (λ (f : ℕ → Use). f t) k.1
    by false k = ap (λ (f : ℕ → Use). f t) k.1 ∙ with_other uses d.slot t (Outside 0) (λ q. used (ap uses q ∙ vacant))
register_uses n i t row row2 m m2 uses uses2 c is used apart (RegisterEnters d e e2 at lt head same entered) =
    ap (λ (f : ℕ → Use). f t) entered
    ∙ with_other uses d.slot t (Inside 0) (λ q. apart (ap works_on e ∙ ap (registering_on d.slot) at ∙ ap (λ (k : ℕ). k + 1) (sym q)))
register_uses n i t row row2 m m2 uses uses2 c is used apart (EntersSlot d e e2 lt head same) = absurd (cc (is, e))
register_uses n i t row row2 m m2 uses uses2 c is used apart (FreesSlot d e e2 same) = absurd (cc (is, e))
register_uses n i t row row2 m m2 uses uses2 c is used apart (DeferGoes s d p e e2 at at2 same) = absurd (cc (is, e))
register_uses n i t row row2 m m2 uses uses2 c is used apart (DeferPushes s b u k d e e2 at block word same) = absurd (cc (is, e))
register_uses n i t row row2 m m2 uses uses2 c is used apart (DeferEnds s d e e2 over same) = absurd (cc (is, e))

inside_used : (u : Use) → IsInside u → u ≡ Vacant → ⊥
inside_used u h e = subst (λ (v : Use). IsInside v) e h

pub inside_shared : (u : Use) → IsInside u → is_shared u ≡ true
inside_shared Vacant h = absurd h
inside_shared (Outside k) h = absurd h
inside_shared (Inside k) h = refl
inside_shared Changing h = absurd h

inside_less : (u : Use) → IsInside u → IsInside (one_less u)
inside_less Vacant h = h
inside_less (Outside k) h = h
inside_less (Inside k) h = tt
inside_less Changing h = h

module _ {T : Type 0} (defers : T → Option ℕ) (size : ℕ) (w : World T) (r : Reached defers size w) where
  -- a section is open just where somebody is inside

  pub inside_open : (s : ℕ) → IsInside (w.uses s) → is_open s w.log ≡ true
  inside_open s h = ap (is_open s) (sym r.good.logged) ∙ by (w.uses s) h (r.good.used.fits s)
    where
      by : (u : Use) → IsInside u → UseFits u (emptied (r.good.state.head s)) (length (r.good.used.team s)) (is_open s r.good.state.log) → is_open s r.good.state.log ≡ true
      by Vacant k f = absurd k
      by (Outside j) k f = absurd k
      by (Inside j) k f = f.2
      by Changing k f = absurd k

  -- and where nobody is, no section holds anything
  pub none_held : ((s : ℕ) → IsOutside (w.uses s)) → (b s : ℕ) → holds s b w.log ≡ false
  none_held outside b s = by (holds s b w.log) refl
    where
      by : (q : Bool) → holds s b w.log ≡ q → q ≡ false
      by true e =
          let active = r.good.inv.logged.opens s (ap (is_open s) r.good.logged ∙ held_open s b w.log e) in
          let none = outside_head (w.uses s) (r.good.state.head s) (length (r.good.used.team s)) (is_open s r.good.state.log) (outside s) (r.good.used.fits s) in
          absurd (cc (active, none))
      by false e = refl

module _ {T : Type 0} (defers : T → Option ℕ) (size : ℕ) (w : World T) (r : Reached defers size w) (i : ℕ) (w2 : World T) (step : Steps' defers i (w.row i) w w2) where
  settles_uses : (t : ℕ) (c d : Settle) (m : Mem T) (p : Settled T) → (c.slot + 1 ≡ t + 1 → ⊥) → (settles_on w i c m (d, p)).uses t ≡ w.uses t
  settles_uses t c d m Goes apart = refl
  settles_uses t c d m Waits apart = refl
  settles_uses t c d m (Gave value) apart = refl
  settles_uses t c d m Done apart = with_other w.uses c.slot t (one_less (w.uses c.slot)) (λ q. apart (ap (λ (k : ℕ). k + 1) (sym q)))

  defers_uses : (t s : ℕ) (d : Defer) (m : Mem T) (p : Advance Unit) → (s + 1 ≡ t + 1 → ⊥) → (defers_on w i s m (d, p)).uses t ≡ w.uses t
  defers_uses t s d m progress.Goes apart = refl
  defers_uses t s d m progress.Waits apart = refl
  defers_uses t s d m (progress.Done u) apart = with_other w.uses s t (one_less (w.uses s)) (λ q. apart (ap (λ (k : ℕ). k + 1) (sym q)))
  defers_uses t s d m (progress.Refused fault) apart = refl

  -- a row that has freed its slot changes nothing any more
  leaves_uses : (t : ℕ) (c : Leave) → w.row i ≡ Leaves c → (leaving_on c.slot c.frees c.stands ≡ t + 1 → ⊥) → with_at w.uses c.slot (left_as c c.stands (w.uses c.slot)) t ≡ w.uses t
  leaves_uses t c is apart = elim (cases_eq t c.slot) as (λ _. with_at w.uses c.slot (left_as c c.stands (w.uses c.slot)) t ≡ w.uses t) [
    | inl same ↦
        subst (λ (k : ℕ). with_at w.uses c.slot (left_as c c.stands (w.uses c.slot)) k ≡ w.uses k) (sym same)
        (with_here w.uses c.slot (left_as c c.stands (w.uses c.slot)) ∙ at_point c.stands (λ e. apart (e ∙ ap (λ (k : ℕ). k + 1) (sym same))) fits)
    | inr other ↦ with_other w.uses c.slot t (left_as c c.stands (w.uses c.slot)) other
  ]
    where
      fits : FitsLeave (LAST_SLOT + 1) i (view defers w.memory) r.good.state r.good.extra c.slot c.becomes c.frees c.stands
      fits = subst (λ (row : Row). FitsRow (LAST_SLOT + 1) i (view defers w.memory) r.good.state r.good.extra (length w.memory.slots) row) is (r.good.rows i)

      over : (frees : Bool) → (cond frees 0 (c.slot + 1) ≡ c.slot + 1 → ⊥) → FitsLeave (LAST_SLOT + 1) i (view defers w.memory) r.good.state r.good.extra c.slot c.becomes frees leaving.Over
          → (if c.becomes == ACTIVE then Inside 0 else (if frees then w.uses c.slot else Outside 0)) ≡ w.uses c.slot
      over true k f = ap (λ (b : ℕ). if b == ACTIVE then Inside 0 else w.uses c.slot) f.1
      over false k f = absurd (k refl)

      at_point : (p : Leaving) → (leaving_on c.slot c.frees p ≡ c.slot + 1 → ⊥) → FitsLeave (LAST_SLOT + 1) i (view defers w.memory) r.good.state r.good.extra c.slot c.becomes c.frees p
          → left_as c p (w.uses c.slot) ≡ w.uses c.slot
      at_point leaving.Swaps k f = refl
      at_point (leaving.Settles settle) k f = refl
      at_point leaving.Frees k f = absurd (k refl)
      at_point leaving.Over k f = over c.frees k f

  -- a slot that is used, and that the row doesn't work on, is used as before
  pub uses_kept : (t : ℕ) → (w.uses t ≡ Vacant → ⊥) → (works_on (w.row i) ≡ t + 1 → ⊥) → w2.uses t ≡ w.uses t
  uses_kept t used apart = by (w.row i) refl apart step
    where
      other : (s : ℕ) (u : Use) → (s + 1 ≡ t + 1 → ⊥) → with_at w.uses s u t ≡ w.uses t
      other s u k = with_other w.uses s t u (λ q. k (ap (λ (a : ℕ). a + 1) (sym q)))

      by : (row : Row) → w.row i ≡ row → (works_on row ≡ t + 1 → ⊥) → Steps' defers i row w w2 → w2.uses t ≡ w.uses t
      by Rests is k h = absurd h
      by (Registers c) is k h =
          register_uses (LAST_SLOT + 1) i t (w.row i) (w2.row i) r.good.state _ w.uses w2.uses c is used apart
          (steps_next defers (LAST_SLOT + 1) size refl w w2 r.good r.sized i (w.row i) refl step).told
      by (Enters c) is k h = ap (λ (v : World T). v.uses t) h.3 ∙ other c.slot (Inside 0) k
      by (Settles c) is k h = ap (λ (v : World T). v.uses t) h.3 ∙ settles_uses t c h.1.0 h.0 h.1.1 k
      by (Leaves c) is k h = ap (λ (v : World T). v.uses t) h.3 ∙ leaves_uses t c is k
      by (Defers s c) is k h = ap (λ (v : World T). v.uses t) h.3 ∙ defers_uses t s h.1.0 h.0 h.1.1 k
      by (Frees c) is k h = ap (λ (v : World T). v.uses t) h.3 ∙ other c.slot Vacant k

  settles_inside : (c d : Settle) (m : Mem T) (p : Settled T) → IsInside (w.uses c.slot) → IsInside ((settles_on w i c m (d, p)).uses c.slot)
  settles_inside c d m Goes h = h
  settles_inside c d m Waits h = h
  settles_inside c d m (Gave value) h = h
  settles_inside c d m Done h = subst (λ (u : Use). IsInside u) (sym (with_here w.uses c.slot (one_less (w.uses c.slot)))) (inside_less (w.uses c.slot) h)

  defers_inside : (s : ℕ) (d : Defer) (m : Mem T) (p : Advance Unit) → IsInside (w.uses s) → IsInside ((defers_on w i s m (d, p)).uses s)
  defers_inside s d m progress.Goes h = h
  defers_inside s d m progress.Waits h = h
  defers_inside s d m (progress.Done u) h = subst (λ (u : Use). IsInside u) (sym (with_here w.uses s (one_less (w.uses s)))) (inside_less (w.uses s) h)
  defers_inside s d m (progress.Refused fault) h = h

  -- who is inside stays inside
  pub inside_kept : (t : ℕ) → IsInside (w.uses t) → IsInside (w2.uses t)
  inside_kept t h = elim (cases_eq (works_on (w.row i)) (t + 1)) as (λ _. IsInside (w2.uses t)) [
    | inl on ↦ by (w.row i) on (r.good.used.kinds i t on ∙ inside_shared (w.uses t) h) step
    | inr apart ↦ subst (λ (u : Use). IsInside u) (sym (uses_kept t (inside_used (w.uses t) h) apart)) h
  ]
    where
      from : (s : ℕ) → s + 1 ≡ t + 1 → s ≡ t
      from s e = omega (arith, e)

      by : (row : Row) → works_on row ≡ t + 1 → shares row ≡ true → Steps' defers i row w w2 → IsInside (w2.uses t)
      by Rests on shared k = absurd k
      by (Registers c) on shared k = absurd (cc shared)
      by (Enters c) on shared k = absurd (cc shared)
      by (Settles c) on shared k =
          let e = from c.slot on in
          subst (λ (v : World T). IsInside (v.uses t)) (sym k.3)
          (subst (λ (a : ℕ). IsInside ((settles_on w i c k.0 k.1).uses a)) e (settles_inside c k.1.0 k.0 k.1.1 (subst (λ (a : ℕ). IsInside (w.uses a)) (sym e) h)))
      by (Leaves c) on shared k = absurd (cc shared)
      by (Defers s c) on shared k =
          let e = from s on in
          subst (λ (v : World T). IsInside (v.uses t)) (sym k.3)
          (subst (λ (a : ℕ). IsInside ((defers_on w i s k.0 k.1).uses a)) e (defers_inside s k.1.0 k.0 k.1.1 (subst (λ (a : ℕ). IsInside (w.uses a)) (sym e) h)))
      by (Frees c) on shared k = absurd (cc shared)
