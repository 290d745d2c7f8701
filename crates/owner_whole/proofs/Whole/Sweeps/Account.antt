-- What a step of a row is to the sweep that it is within: it disposes of the pair that the sweep has removed, or retires a table that it has copied.
use Rattle.std.specs.Prelude.{◌==◌, if◌then◌else◌}
use Rattle.std.proofs.Common.{◌≡◌, ◌≢◌, ℕ, Bool, true, false, refl, ap, sym, subst, ◌∙◌}
use Rattle.seize_words.specs.OneMemory.Mem.{Mem, Took, value_at}
use Rattle.seize_words.specs.OneMemory.Plan.{Steps, plan_as}
use Rattle.seize.specs.declared.advance.Advance.{Advance}
use Rattle.seize.specs.declared.advance.Advance.TheVariants as progress
use Rattle.seize.specs.declared.rows.defer.Defer.{Defer}
use Rattle.seize.specs.declared.rows.settle.Settle.{Settle}
use Rattle.seize.specs.declared.rows.settle.Settled.{Settled}
use Rattle.seize.specs.declared.rows.settle.Settled.TheVariants as settled
use Rattle.seize.specs.Defer.{defer_plan}
use Rattle.seize.specs.Settle.{settle_plan}
use Rattle.seize.specs.World.{Rests, Settles, Defers}
use Rattle.map_measures.proofs.Given.SeizeEndsSettling.Most.{is_going}
use Rattle.map_measures.proofs.Given.SeizeRuleRows.Leaving.{steps_back}
use Rattle.map_tables.specs.Nodes.{deferred_word}
use Rattle.map_tables.specs.declared.node.Node.{Node}
use Rattle.map_measures.specs.Given.ResizeDispose as dispose
use Rattle.map_measures.specs.Given.ResizeCopierPromotes as retiring
use Rattle.map_measures.specs.Given.ResizeCopier as copier
use Rattle.map_measures.specs.Given.ResizeCopierStates as copiers
use Rattle.map_measures.specs.Given.ResizeDeclared.copier.Copier.{Copier}
use Rattle.map_measures.specs.Given.ResizeDeclared.copier.Copying.{Copying}
use Rattle.map_measures.specs.Given.ResizeDeclared.copier.Copying.TheVariants as copies
use Rattle.map_measures.specs.Given.ResizeDeclared.dispose.Dispose.{Dispose}
use Rattle.map_measures.specs.Given.ResizeDeclared.dispose.Disposing.{Disposing}
use Rattle.map_measures.specs.Given.ResizeDeclared.dispose.Disposing.TheVariants as disposes
use Rattle.papaya_raw.specs.Given.SweepsSweep.{disposed, copied, plan_at, sweep_plan}
use Rattle.papaya_raw.specs.Given.SweepsSweepPoints.{standing, further, telling}
use Rattle.papaya_raw.specs.Given.ReservesDeclared.sweep.Sweep.{Sweep}
use Rattle.papaya_raw.specs.Given.ReservesDeclared.sweep.Sweeping.{Sweeping}
use Rattle.papaya_raw.specs.Given.ReservesDeclared.sweep.Sweeping.TheVariants as at
use Rattle.papaya_raw.specs.Given.ReservesDeclared.sweep.Swept.{Swept}
use Rattle.papaya_raw.specs.Given.ReservesDeclared.sweep.Swept.TheVariants as swept
use Rattle.map_measures.specs.Given.RuleChart.{Chart}
use Rattle.map_measures.specs.Given.RuleWords.{Blocks}
use Rattle.owner_facts.specs.Given.PointsTold.{IsRowOf, IsRowOfCopier}
use Rattle.owner_facts.specs.Given.LateToldSweeps.{IsRowOfSweep}
use Rattle.owner_facts.specs.Maps.FactsAloneReserves.{CopierAlone}
use Rattle.map_measures.specs.Passes.Sweeps.{number_of_sweep}
use Rattle.owner_facts.specs.Given.CallersOverAll.{row_of_sweep, past_sweeping, sweep_once_over}
use Rattle.map_measures.specs.Given.CallersRows.{row_of_disposal, row_of_copier, past_copying}
use Rattle.owner_facts.proofs.Given.CallersTogether.RowSteps.{never_refused}
use Rattle.owner_facts.proofs.Given.CallersTogether.RowsOfCopiers.{at_retirement}
use Rattle.owner_facts.proofs.Given.CallersTogether.SweepRows.{at_row}
use Rattle.owner_whole.specs.Whole.LoneSweeps.{IsBefore, SweepsAlone, OverRoot}
use Rattle.owner_whole.specs.Whole.WholeSweeps.{uncounted}
use Rattle.owner_whole.proofs.Whole.Rows.Standing.{disposal_row, copier_row}

-- what a sweep tells by a step of a row within it that goes on
abbrev pub sweep_told_by : {T : Type 0} → Settled T → Swept T
sweep_told_by settled.Goes = swept.Goes
sweep_told_by settled.Waits = swept.Waits
sweep_told_by (settled.Gave value) = swept.Gave value
sweep_told_by settled.Done = swept.Goes

-- a copier of it that retires a table has the table with this turn as its target
abbrev pub SweepTargetIs : ℕ → Sweeping → Type 0
SweepTargetIs first (at.Copies copier) = copier.target.turn ≡ first
SweepTargetIs first _ = Unit {0}

pub no_sweep_row_rests : (slot : ℕ) (x : Sweeping) → IsRowOfSweep x → Rests ≡ row_of_sweep slot x → ⊥
no_sweep_row_rests slot = at_row (λ x. Rests ≡ row_of_sweep slot x → ⊥) (λ p row. copier_row p.stands row) (λ d row. disposal_row slot d.stands row)

module _ {K V : Type 0} (hash : K → ℕ) (slot : ℕ) (p : Sweep) (m m2 : Mem (Node K V)) where
  -- it is within the row still
  pub record StillSweep (q : Sweep) : Type 0 where
    pub is_row : IsRowOfSweep q.stands
    pub purpose : q.purpose ≡ p.purpose
    pub number : (c : Chart K) (blocks : Blocks) → number_of_sweep hash c blocks q ≡ number_of_sweep hash c blocks p
    pub alone : (incremental : Bool) (c : Chart K) → SweepsAlone incremental c p.stands → SweepsAlone incremental c q.stands
    pub target : (first : ℕ) → SweepTargetIs first p.stands → SweepTargetIs first q.stands
    pub over : (incremental : Bool) (c : Chart K) (blocks : Blocks) → OverRoot hash incremental c blocks p p.stands → OverRoot hash incremental c blocks q q.stands
    pub before : IsBefore q.stands → IsBefore p.stands
    pub counted : uncounted q.stands ≡ uncounted p.stands

  -- a table was retired: it goes on with the next one, if there is one
  pub record TableRetired (q : Sweep) : Type 0 where
    pub copier : Copier
    pub was : p.stands ≡ at.Copies copier
    pub next : Copier
    pub is : q ≡ standing p (at.Copies next)
    pub none : IsRowOfSweep q.stands → ⊥
    pub past : q ≡ sweep_once_over p
    pub alone : (incremental : Bool) (c : Chart K) → SweepsAlone incremental c p.stands → SweepsAlone incremental c q.stands

  pub data SweepAccount : Sweep × Swept (Node K V) → Type 0 where
    SweepSettling : (x y : Settle) (o : Settled (Node K V)) (end : Sweep × Swept (Node K V)) → row_of_sweep slot p.stands ≡ Settles x → Steps Took value_at m (settle_plan deferred_word x) m2 (y, o)
        → is_going o ≡ true → end.1 ≡ sweep_told_by o → row_of_sweep slot end.0.stands ≡ Settles y → StillSweep end.0 → SweepAccount end
    SweepDeferring : (x y : Defer) (o : Advance Unit) (end : Sweep × Swept (Node K V)) → row_of_sweep slot p.stands ≡ Defers slot x → Steps Took value_at m (defer_plan x) m2 (y, o)
        → o ≢ progress.Done tt → (o ≡ progress.Goes → end.1 ≡ swept.Goes) → row_of_sweep slot end.0.stands ≡ Defers slot y → StillSweep end.0 → SweepAccount end
    TableOver : (end : Sweep × Swept (Node K V)) → end.1 ≡ swept.Goes → TableRetired end.0 → SweepAccount end
    PairOver : (end : Sweep × Swept (Node K V)) → (d : Dispose) → p.stands ≡ at.Disposes d → end ≡ telling (further p) → SweepAccount end

  account_of : (q end : Sweep × Swept (Node K V)) → end ≡ q → SweepAccount q → SweepAccount end
  account_of q end is a = subst SweepAccount (sym is) a

  -- a disposal
  module _ (d : Dispose) (is : p.stands ≡ at.Disposes d) where
    abbrev disposing : Disposing → Sweep
    disposing x = standing p (at.Disposes (dispose.standing d x))

    still_disposes : (x y : Disposing) → d.stands ≡ x → IsRowOf y
        → ((c : Chart K) (blocks : Blocks) → number_of_sweep hash c blocks (disposing y) ≡ number_of_sweep hash c blocks (disposing x)) → StillSweep (disposing y)
    still_disposes x y e row number = record {
      is_row = row;
      purpose = refl;
      number = λ c blocks. number c blocks ∙ ap (λ (z : Disposing). number_of_sweep hash c blocks (disposing z)) (sym e) ∙ ap (λ (z : Sweeping). number_of_sweep hash c blocks (standing p z)) (sym is);
      alone = λ incremental c h. subst (SweepsAlone incremental c) is h;
      target = λ first h. tt;
      over = λ incremental c blocks h. (let o = subst (OverRoot hash incremental c blocks p) is h in record { root = o.root; last = o.last });
      before = λ h. absurd h;
      counted = sym (ap uncounted is);
    }

    disposing_row : (x : Disposing) → d.stands ≡ x → row_of_sweep slot p.stands ≡ row_of_disposal slot x
    disposing_row x e = ap (row_of_sweep slot) is ∙ ap (row_of_disposal slot) e

    settles : (x : Settle) → d.stands ≡ disposes.Settles x → (y : Settle) (o : Settled (Node K V)) → Steps Took value_at m (settle_plan deferred_word x) m2 (y, o)
        → SweepAccount (disposed p (dispose.settled d (y, o)))
    settles x e y settled.Goes st =
        SweepSettling x y settled.Goes (disposing (disposes.Settles y), swept.Goes) (disposing_row (disposes.Settles x) e) st refl refl refl
        (still_disposes (disposes.Settles x) (disposes.Settles y) e tt (λ c blocks. refl))
    settles x e y settled.Waits st =
        SweepSettling x y settled.Waits (disposing (disposes.Settles y), swept.Waits) (disposing_row (disposes.Settles x) e) st refl refl refl
        (still_disposes (disposes.Settles x) (disposes.Settles y) e tt (λ c blocks. refl))
    settles x e y (settled.Gave value) st =
        SweepSettling x y (settled.Gave value) (disposing (disposes.Settles y), swept.Gave value) (disposing_row (disposes.Settles x) e) st refl refl refl
        (still_disposes (disposes.Settles x) (disposes.Settles y) e tt (λ c blocks. refl))
    settles x e y settled.Done st = PairOver (telling (further p)) d is refl

    defers : (x : Defer) → d.stands ≡ disposes.Defers x → (y : Defer) (o : Advance Unit) → Steps Took value_at m (defer_plan x) m2 (y, o) → SweepAccount (disposed p (dispose.deferred d (y, o)))
    defers x e y progress.Goes st =
        SweepDeferring x y progress.Goes (disposing (disposes.Defers y), swept.Goes) (disposing_row (disposes.Defers x) e) st (λ z. cc z) (λ z. refl) refl
        (still_disposes (disposes.Defers x) (disposes.Defers y) e tt (λ c blocks. refl))
    defers x e y progress.Waits st =
        SweepDeferring x y progress.Waits (disposing (disposes.Defers y), swept.Waits) (disposing_row (disposes.Defers x) e) st (λ z. cc z) (λ z. absurd (cc z)) refl
        (still_disposes (disposes.Defers x) (disposes.Defers y) e tt (λ c blocks. refl))
    defers x e y (progress.Done end) st = PairOver (telling (further p)) d is refl
    defers x e y (progress.Refused fault) st = absurd (never_refused m m2 x y fault st)

    by_disposal : (x : Disposing) → d.stands ≡ x → IsRowOf x → (end : Sweep × Swept (Node K V)) → Steps Took value_at m (plan_as (disposed p) (dispose.plan_at d x)) m2 end → SweepAccount end
    by_disposal (disposes.Settles x) e row end st =
        let one = steps_back (disposed p) m m2 (plan_as (dispose.settled d) (settle_plan deferred_word x)) end st in
        let two = steps_back (dispose.settled d) m m2 (settle_plan deferred_word x) one.0 one.1 in
        account_of (disposed p (dispose.settled d two.0)) end (one.2 ∙ ap (disposed p) two.2) (settles x e two.0.0 two.0.1 two.1)
    by_disposal (disposes.Defers x) e row end st =
        let one = steps_back (disposed p) m m2 (plan_as (dispose.deferred d) (defer_plan x)) end st in
        let two = steps_back (dispose.deferred d) m m2 (defer_plan x) one.0 one.1 in
        account_of (disposed p (dispose.deferred d two.0)) end (one.2 ∙ ap (disposed p) two.2) (defers x e two.0.0 two.0.1 two.1)
    by_disposal disposes.Reads e row end st = absurd row
    by_disposal (disposes.Walks table) e row end st = absurd row
    by_disposal disposes.Over e row end st = absurd row

  retired_no_row : (c : Copier) (rest : ℕ) → IsRowOfCopier (retiring.table_retired c rest).stands → ⊥
  retired_no_row c rest = by (rest == 0)
    where
      by : (b : Bool) → IsRowOfCopier (if b then copiers.standing c copies.Over else copiers.standing c (copies.Succeeds rest)).stands → ⊥
      by true h = h
      by false h = h

  -- the copying of a table
  module _ (copy : Copier) (is : p.stands ≡ at.Copies copy) where
    abbrev copying : Copier → Sweep
    copying q = standing p (at.Copies q)

    copying_past : (x : Settle) (rest : ℕ) → copy.stands ≡ copies.Retires x rest → copying (retiring.table_retired copy rest) ≡ sweep_once_over p
    copying_past x rest e = sym (ap (λ (z : Sweeping). standing p (past_sweeping z)) is ∙ ap (λ (v : Copying). copying (past_copying copy v)) e)

    retiring_alone : (x y : Settle) (rest : ℕ) → (incremental : Bool) (c : Chart K) → CopierAlone incremental c (copiers.standing copy (copies.Retires x rest))
        → CopierAlone incremental c (copiers.standing copy (copies.Retires y rest))
    retiring_alone x y rest true c h = h
    retiring_alone x y rest false c h = h

    copying_alone : (x : Settle) (rest : ℕ) → copy.stands ≡ copies.Retires x rest → (incremental : Bool) (c : Chart K) → SweepsAlone incremental c p.stands
        → CopierAlone incremental c (copiers.standing copy (copies.Retires x rest))
    copying_alone x rest e incremental c h = subst (λ (z : Copying). CopierAlone incremental c (copiers.standing copy z)) e (subst (SweepsAlone incremental c) is h)

    copying_still : (x y : Settle) (rest : ℕ) → copy.stands ≡ copies.Retires x rest → StillSweep (copying (copiers.standing copy (copies.Retires y rest)))
    copying_still x y rest e = record {
      is_row = tt;
      purpose = refl;
      number = λ c blocks. retiring_number c blocks ∙ ap (λ (z : Copying). number_of_sweep hash c blocks (copying (copiers.standing copy z))) (sym e)
          ∙ ap (λ (z : Sweeping). number_of_sweep hash c blocks (standing p z)) (sym is);
      alone = λ incremental c h. retiring_alone x y rest incremental c (copying_alone x rest e incremental c h);
      target = λ first h. subst (SweepTargetIs first) is h;
      over = λ incremental c blocks h. tt;
      before = λ h. subst IsBefore (sym is) tt;
      counted = sym (ap uncounted is);
    }
      where
        retiring_number : (c : Chart K) (blocks : Blocks) → number_of_sweep hash c blocks (copying (copiers.standing copy (copies.Retires y rest))) ≡ number_of_sweep hash c blocks (copying (copiers.standing copy (copies.Retires x rest)))
        retiring_number c blocks = refl

    copying_over : (x : Settle) (rest : ℕ) → copy.stands ≡ copies.Retires x rest → (incremental : Bool) (c : Chart K) → SweepsAlone incremental c p.stands
        → SweepsAlone incremental c (at.Copies (retiring.table_retired copy rest))
    copying_over x rest e incremental c h = by incremental (rest == 0) (copying_alone x rest e incremental c h)
      where
        by : (i b : Bool) → CopierAlone i c (copiers.standing copy (copies.Retires x rest))
            → CopierAlone i c (if b then copiers.standing copy copies.Over else copiers.standing copy (copies.Succeeds rest))
        by true true f = f
        by true false f = f
        by false true f = f
        by false false f = f

    retired : (x : Settle) (rest : ℕ) → copy.stands ≡ copies.Retires x rest → TableRetired (copying (retiring.table_retired copy rest))
    retired x rest e = record { copier = copy; was = is; next = retiring.table_retired copy rest; is = refl; none = retired_no_row copy rest; past = copying_past x rest e; alone = copying_over x rest e }

    copying_row : (x : Settle) (rest : ℕ) → copy.stands ≡ copies.Retires x rest → row_of_sweep slot p.stands ≡ Settles x
    copying_row x rest e = ap (row_of_sweep slot) is ∙ ap row_of_copier e

    copying_told : (x : Settle) (rest : ℕ) → copy.stands ≡ copies.Retires x rest → (y : Settle) (o : Settled (Node K V)) → Steps Took value_at m (settle_plan deferred_word x) m2 (y, o)
        → SweepAccount (copied p (retiring.retired copy rest (y, o)))
    copying_told x rest e y settled.Goes st =
        SweepSettling x y settled.Goes (copying (copiers.standing copy (copies.Retires y rest)), swept.Goes) (copying_row x rest e) st refl refl refl (copying_still x y rest e)
    copying_told x rest e y settled.Waits st =
        SweepSettling x y settled.Waits (copying (copiers.standing copy (copies.Retires y rest)), swept.Waits) (copying_row x rest e) st refl refl refl (copying_still x y rest e)
    copying_told x rest e y (settled.Gave value) st =
        SweepSettling x y (settled.Gave value) (copying (copiers.standing copy (copies.Retires y rest)), swept.Gave value) (copying_row x rest e) st refl refl refl (copying_still x y rest e)
    copying_told x rest e y settled.Done st = TableOver (copying (retiring.table_retired copy rest), swept.Goes) refl (retired x rest e)

    copying_at : (x : Copying) → copy.stands ≡ x → IsRowOfCopier x → (end : Sweep × Swept (Node K V)) → Steps Took value_at m (plan_as (copied p) (copier.plan_at hash copy x)) m2 end → SweepAccount end
    copying_at x e row = at_retirement (λ z. copy.stands ≡ z → (end : Sweep × Swept (Node K V)) → Steps Took value_at m (plan_as (copied p) (copier.plan_at hash copy z)) m2 end → SweepAccount end)
        (λ settle rest is_it end st.
        let one = steps_back (copied p) m m2 (plan_as (retiring.retired copy rest) (settle_plan deferred_word settle)) end st in
        let two = steps_back (retiring.retired copy rest) m m2 (settle_plan deferred_word settle) one.0 one.1 in
        account_of (copied p (retiring.retired copy rest two.0)) end (one.2 ∙ ap (copied p) two.2) (copying_told settle rest is_it two.0.0 two.0.1 two.1)) x row e

  -- what a step of a row is that a sweep stands at
  pub sweep_account : IsRowOfSweep p.stands → (end : Sweep × Swept (Node K V)) → Steps Took value_at m (sweep_plan hash p) m2 end → SweepAccount end
  sweep_account row = at_row (λ x. p.stands ≡ x → (end : Sweep × Swept (Node K V)) → Steps Took value_at m (plan_at hash p x) m2 end → SweepAccount end)
      (λ copy at_row is end st. copying_at copy is copy.stands refl at_row end st) (λ d at_row is end st. by_disposal d is d.stands refl at_row end st) p.stands row refl
