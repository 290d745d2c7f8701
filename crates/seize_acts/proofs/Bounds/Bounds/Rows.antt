-- A row that settles, as it leaves a slot or only settles, and what a step of it tells.
use Rattle.std.specs.Prelude.{Option}
use Rattle.std.proofs.Common.{◌≡◌, ℕ, ◌+◌, Bool, true, false, refl, ap, sym, subst, ◌∙◌}
use Rattle.seize_words.specs.OneMemory.Mem.{Mem, Took, value_at}
use Rattle.seize_words.specs.OneMemory.Plan.{Steps}
use Rattle.seize.specs.declared.states.TheConstants.{LAST_SLOT}
use Rattle.seize.specs.declared.rows.settle.Settle.{Settle}
use Rattle.seize.specs.declared.rows.settle.Settling.{Settling}
use Rattle.seize.specs.declared.rows.settle.Settling.TheVariants as at
use Rattle.seize.specs.declared.rows.settle.Settled.{Settled}
use Rattle.seize.specs.declared.rows.settle.Settled.TheVariants.{Goes, Waits, Gave, Done}
use Rattle.seize.specs.declared.rows.leave.Leave.{Leave}
use Rattle.seize.specs.declared.rows.leave.Leaving.TheVariants as leaving
use Rattle.seize.specs.Settle.{settle_plan}
use Rattle.seize.specs.Leave.{standing, settled}
use Rattle.seize.specs.World.{World, Row, Settles, Leaves, Use, Step, Steps', leaves_on, settles_on}
use Rattle.seize_model.proofs.Given.SeizeMovesState.Ghost.{State}
use Rattle.seize_model.proofs.Given.SeizeRulePoints.Told.{part, Told}
use Rattle.seize_model.proofs.Given.SeizeRulePoints.Stepped.{IsGoing}
use Rattle.seize_model.proofs.Given.SeizeRulePoints.Settle.{is_over, settle_steps}
use Rattle.seize_model.proofs.Given.SeizeRuleRows.Leaving.{steps_back}
use Rattle.seize_model.proofs.Given.SeizeRuleRows.Others.{with_here}
use Rattle.seize_model.proofs.Given.SeizeRuleRows.SizesKept.{happens_sized}
use Rattle.seize_model.proofs.Given.SeizeRuleRows.Told.{RowTold, SettleGoes, SettleEnds, LeaveSwaps, LeaveGoes, LeaveSettled, LeaveEnds, RegisterLooks, RegisterRefused, RegisterTakes, RegisterEnters, EntersSlot, FreesSlot, DeferGoes, DeferPushes, DeferEnds, IsSettled}
use Rattle.seize_model.proofs.Given.SeizeRuleWorld.Kept.{steps_next}
use Rattle.seize_model.proofs.Given.SeizeRuleWorld.Start.{words_good}
use Rattle.seize_model.proofs.Alone.Histories.Reached.{Reached}
use Rattle.seize_model.proofs.Ends.Batches.Rows.{settles_memory}
use Rattle.seize_acts.proofs.Bounds.Bounds.Hands.{FitsIn, leaving_fits, settling_fits}
use Rattle.seize_model.proofs.Given.SeizeRuleRows.Leave.{over_is}

-- how a row settles
pub data Form : Type 0 where
  Only : Form
  AsItLeaves : Leave → Form

abbrev pub as_row : Form → Settle → Row
as_row Only d = Settles d
as_row (AsItLeaves c) d = Leaves (standing c (leaving.Settles d))

pub not_over : (p : Settling) → (p ≡ at.Over → ⊥) → is_over p ≡ false
not_over p ne = by (is_over p) refl
  where
    by : (t : Bool) → is_over p ≡ t → is_over p ≡ false
    by true e = absurd (ne (over_is p e))
    by false e = e

-- what the step of a row that settles tells
module _ (n j : ℕ) (d d2 : Settle) (ne : d.stands ≡ at.Over → ⊥) (m m2 : State) where
  same_row : (a b : Settle) → Settles a ≡ Settles b → a ≡ b
  same_row a b e = cc e

  settles_told : (row row2 : Row) (uses uses2 : ℕ → Use) → row ≡ Settles d → row2 ≡ Settles d2 → RowTold n j row m uses row2 m2 uses2 → Told n j d (part d) m d2 m2
  settles_told row row2 uses uses2 is is2 (SettleGoes a b e f slot told) =
      let q : a ≡ d = same_row a d (sym e ∙ is) in
      let z : b ≡ d2 = same_row b d2 (sym f ∙ is2) in
      subst (λ (k : Settle). Told n j d (part d) m k m2) z (subst (λ (k : Settle). Told n j k (part k) m b m2) q told)
  settles_told row row2 uses uses2 is is2 (SettleEnds a e f over h) = absurd (ne (ap (λ (k : Settle). k.stands) (sym (same_row a d (sym e ∙ is))) ∙ over))
  settles_told row row2 uses uses2 is is2 (LeaveSwaps a again es p e f g l b h k z) = absurd (cc (e, is))
  settles_told row row2 uses uses2 is is2 (LeaveGoes a s s2 e f g slot told) = absurd (cc (e, is))
  settles_told row row2 uses uses2 is is2 (LeaveSettled a s e g over f h) = absurd (cc (e, is))
  settles_told row row2 uses uses2 is is2 (LeaveEnds a e settled f u) = absurd (cc (e, is))
  settles_told row row2 uses uses2 is is2 (RegisterLooks a b e f g h k l o) = absurd (cc (e, is))
  settles_told row row2 uses uses2 is is2 (RegisterRefused a e f g h k) = absurd (cc (e, is))
  settles_told row row2 uses uses2 is is2 (RegisterTakes a e f g h u) = absurd (cc (e, is))
  settles_told row row2 uses uses2 is is2 (RegisterEnters a e f g h k l o) = absurd (cc (e, is))
  settles_told row row2 uses uses2 is is2 (EntersSlot a e f g h k) = absurd (cc (e, is))
  settles_told row row2 uses uses2 is is2 (FreesSlot a e f u) = absurd (cc (e, is))
  settles_told row row2 uses uses2 is is2 (DeferGoes s a p e f g h k) = absurd (cc (e, is))
  settles_told row row2 uses uses2 is is2 (DeferPushes s b t k a e f g h l o) = absurd (cc (e, is))
  settles_told row row2 uses uses2 is is2 (DeferEnds s a e f g u) = absurd (cc (e, is))

-- or as it leaves
module _ (n j : ℕ) (c : Leave) (d d2 : Settle) (stands_at : c.stands ≡ leaving.Settles d) (ne : d.stands ≡ at.Over → ⊥) (m m2 : State) where
  same_leave : (a b : Leave) → Leaves a ≡ Leaves b → a ≡ b
  same_leave a b e = cc e

  same_settling : (a b : Settle) → leaving.Settles a ≡ leaving.Settles b → a ≡ b
  same_settling a b e = cc e

  leaves_told : (row row2 : Row) (uses uses2 : ℕ → Use) → row ≡ Leaves c → row2 ≡ Leaves (standing c (leaving.Settles d2)) → RowTold n j row m uses row2 m2 uses2
      → Told n j d (part d) m d2 m2
  leaves_told row row2 uses uses2 is is2 (LeaveGoes a s s2 e f g slot told) =
      let q : a ≡ c = same_leave a c (sym e ∙ is) in
      let p : s ≡ d = same_settling s d (sym g ∙ ap (λ (l : Leave). l.stands) q ∙ stands_at) in
      let z : s2 ≡ d2 = same_settling s2 d2
      (ap (λ (l : Leave). l.stands) (same_leave (standing a (leaving.Settles s2)) (standing c (leaving.Settles d2)) (sym f ∙ is2))) in
      subst (λ (k : Settle). Told n j d (part d) m k m2) z (subst (λ (k : Settle). Told n j k (part k) m s2 m2) p told)
  leaves_told row row2 uses uses2 is is2 (LeaveSettled a s e g over f h) =
      let q : a ≡ c = same_leave a c (sym e ∙ is) in
      let p : s ≡ d = same_settling s d (sym g ∙ ap (λ (l : Leave). l.stands) q ∙ stands_at) in
      absurd (ne (ap (λ (k : Settle). k.stands) (sym p) ∙ over))
  leaves_told row row2 uses uses2 is is2 (LeaveSwaps a again es p e f g l b h k z) =
      let q : a ≡ c = same_leave a c (sym e ∙ is) in absurd (cc (g, ap (λ (l : Leave). l.stands) q, stands_at))
  leaves_told row row2 uses uses2 is is2 (LeaveEnds a e settled f u) =
      let q : a ≡ c = same_leave a c (sym e ∙ is) in absurd (subst IsSettled (ap (λ (l : Leave). l.stands) q ∙ stands_at) settled)
  leaves_told row row2 uses uses2 is is2 (SettleGoes a b e f g t) = absurd (cc (e, is))
  leaves_told row row2 uses uses2 is is2 (SettleEnds a e f g h) = absurd (cc (e, is))
  leaves_told row row2 uses uses2 is is2 (RegisterLooks a b e f g h k l o) = absurd (cc (e, is))
  leaves_told row row2 uses uses2 is is2 (RegisterRefused a e f g h k) = absurd (cc (e, is))
  leaves_told row row2 uses uses2 is is2 (RegisterTakes a e f g h u) = absurd (cc (e, is))
  leaves_told row row2 uses uses2 is is2 (RegisterEnters a e f g h k l o) = absurd (cc (e, is))
  leaves_told row row2 uses uses2 is is2 (EntersSlot a e f g h k) = absurd (cc (e, is))
  leaves_told row row2 uses uses2 is is2 (FreesSlot a e f u) = absurd (cc (e, is))
  leaves_told row row2 uses uses2 is is2 (DeferGoes s a p e f g h k) = absurd (cc (e, is))
  leaves_told row row2 uses uses2 is is2 (DeferPushes s b t k a e f g h l o) = absurd (cc (e, is))
  leaves_told row row2 uses uses2 is is2 (DeferEnds s a e f g u) = absurd (cc (e, is))

module _ {T : Type 0} (defers : T → Option ℕ) (size j : ℕ) where
  -- what it relies on
  pub form_fits : (g : Form) (d : Settle) → FitsIn defers size j (as_row g d) d
  form_fits Only d = settling_fits defers size j d
  form_fits (AsItLeaves c) d = leaving_fits defers size j (standing c (leaving.Settles d)) d refl

  -- its step: that of its settling, after which it goes on so
  pub record Stepped (g : Form) (w v : World T) (r : Reached defers size w) (d : Settle) : Type 0 where
    pub end : Settle × Settled T
    pub steps : Steps Took value_at w.memory (settle_plan defers d) v.memory end
    pub reached : Reached defers size v
    pub row : v.row j ≡ as_row g end.0
    pub slot : end.0.slot ≡ d.slot
    pub told : Told (LAST_SLOT + 1) j d (part d) r.good.state end.0 reached.good.state

  -- what the row is then
  settles_went : (w : World T) (d : Settle) (m : Mem T) (e : Settle) (o : Settled T) → IsGoing o → (settles_on w j d m (e, o)).row j ≡ Settles e
  settles_went w d m e Goes going = with_here w.row j (Settles e)
  settles_went w d m e Waits going = with_here w.row j (Settles e)
  settles_went w d m e (Gave value) going = with_here w.row j (Settles e)
  settles_went w d m e Done going = absurd going

  leaves_went : (w : World T) (c : Leave) (m : Mem T) (d : Settle) (o : Settled T) → IsGoing o
      → (leaves_on w j c m (settled c (d, o))).row j ≡ Leaves (standing c (leaving.Settles d))
  leaves_went w c m d Goes going = with_here w.row j _
  leaves_went w c m d Waits going = with_here w.row j _
  leaves_went w c m d (Gave value) going = with_here w.row j _
  leaves_went w c m d Done going = absurd going

  module _ (w v : World T) (r : Reached defers size w) (d : Settle) (ne : d.stands ≡ at.Over → ⊥) (step : Steps' defers j (w.row j) w v) where
    pub own_step : (g : Form) → w.row j ≡ as_row g d → Stepped g w v r d
    own_step Only is =
        let h = subst (λ (row : Row). Steps' defers j row w v) is step in
        let t = settle_steps defers (LAST_SLOT + 1) j w.memory h.0 r.good.state r.good.extra d h.1 refl (words_good defers (LAST_SLOT + 1) w r.good)
        r.good.inv r.good.shows d.stands refl (not_over d.stands ne) (settling_fits defers size j d w r.good is) h.2 in
        let now : v.row j ≡ Settles h.1.0 = ap (λ (x : World T). x.row j) h.3 ∙ settles_went w d h.0 h.1.0 h.1.1 t.1 in
        let memory : v.memory ≡ h.0 = ap (λ (x : World T). x.memory) h.3 ∙ settles_memory w j h.0 d h.1.0 h.1.1 in
        let next = steps_next defers (LAST_SLOT + 1) size refl w v r.good r.sized j (w.row j) refl step in
        record {
          end = h.1;
          steps = subst (λ (x : Mem T). Steps Took value_at w.memory (settle_plan defers d) x h.1) (sym memory) h.2;
          reached = record { good = next.good; sized = happens_sized defers size w v r.sized (Step j) step };
          row = now;
          slot = t.0.slot_is;
          told = settles_told (LAST_SLOT + 1) j d h.1.0 ne r.good.state next.good.state (w.row j) (v.row j) w.uses v.uses is now next.told;
        }
    own_step (AsItLeaves c) is =
        let l = standing c (leaving.Settles d) in
        let h = subst (λ (row : Row). Steps' defers j row w v) is step in
        let b = steps_back (settled l) w.memory h.0 (settle_plan defers d) h.1 h.2 in
        let t = settle_steps defers (LAST_SLOT + 1) j w.memory h.0 r.good.state r.good.extra d b.0 refl (words_good defers (LAST_SLOT + 1) w r.good)
        r.good.inv r.good.shows d.stands refl (not_over d.stands ne) (leaving_fits defers size j l d refl w r.good is) b.1 in
        let now : v.row j ≡ Leaves (standing c (leaving.Settles b.0.0)) =
        ap (λ (x : World T). x.row j) h.3 ∙ ap (λ (q : Leave × Settled T). (leaves_on w j l h.0 q).row j) b.2 ∙ leaves_went w l h.0 b.0.0 b.0.1 t.1 in
        let memory : v.memory ≡ h.0 = ap (λ (x : World T). x.memory) h.3 in
        let next = steps_next defers (LAST_SLOT + 1) size refl w v r.good r.sized j (w.row j) refl step in
        record {
          end = b.0;
          steps = subst (λ (x : Mem T). Steps Took value_at w.memory (settle_plan defers d) x b.0) (sym memory) b.1;
          reached = record { good = next.good; sized = happens_sized defers size w v r.sized (Step j) step };
          row = now;
          slot = t.0.slot_is;
          told = leaves_told (LAST_SLOT + 1) j l d b.0.0 refl ne r.good.state next.good.state (w.row j) (v.row j) w.uses v.uses is now next.told;
        }
