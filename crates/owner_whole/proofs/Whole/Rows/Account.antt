-- What a step of a row is to the call that it is within: the call stays where it was but for the row, or the row is over.
use Rattle.std.specs.Prelude.{◌==◌, if◌then◌else◌}
use Rattle.std.proofs.Common.{◌≡◌, ◌≢◌, ℕ, Bool, true, false, refl, ap, sym, subst, ◌∙◌}
use Rattle.seize_words.specs.OneMemory.Mem.{Mem, Took, value_at}
use Rattle.seize_words.specs.OneMemory.Plan.{Steps, plan_as}
use Rattle.seize.specs.declared.advance.Advance.{Advance}
use Rattle.seize.specs.declared.advance.Advance.TheVariants as progress
use Rattle.seize.specs.declared.rows.defer.Defer.{Defer}
use Rattle.seize.specs.declared.rows.settle.Settle.{Settle}
use Rattle.seize.specs.declared.rows.settle.Settled.{Settled}
use Rattle.seize.specs.declared.rows.settle.Settled.TheVariants as settled
use Rattle.seize.specs.Defer.{defer_plan}
use Rattle.seize.specs.Settle.{settle_plan}
use Rattle.seize.specs.World.{Settles, Defers}
use Rattle.map_measures.proofs.Given.SeizeRuleRows.Leaving.{steps_back}
use Rattle.map_tables.specs.Nodes.{deferred_word}
use Rattle.map_tables.specs.declared.node.Node.{Node}
use Rattle.map_tables.specs.declared.table.Table.{Table}
use Rattle.map_measures.specs.Given.ResizeDispose as dispose
use Rattle.map_measures.specs.Given.ResizeCopierPromotes as retiring
use Rattle.map_measures.specs.Given.ResizeCopier as copier
use Rattle.map_measures.specs.Given.ResizeCopierStates as copiers
use Rattle.map_measures.specs.Given.ResizeDeclared.copier.Copier.{Copier}
use Rattle.map_measures.specs.Given.ResizeDeclared.copier.Copying.{Copying}
use Rattle.map_measures.specs.Given.ResizeDeclared.copier.Copying.TheVariants as copies
use Rattle.map_measures.specs.Given.ResizeDeclared.dispose.Dispose.{Dispose}
use Rattle.map_measures.specs.Given.ResizeDeclared.dispose.Disposing.{Disposing}
use Rattle.map_measures.specs.Given.ResizeDeclared.dispose.Disposing.TheVariants as disposes
use Rattle.papaya_raw.specs.Call.{call_plan, plan_at, disposed, helped, copied}
use Rattle.papaya_raw.specs.CallPoints as points
use Rattle.papaya_raw.specs.declared.machines.answer.KeyAnswer.{KeyAnswer}
use Rattle.papaya_raw.specs.declared.machines.answer.Called.{Called}
use Rattle.papaya_raw.specs.declared.machines.answer.Called.TheVariants as called
use Rattle.papaya_raw.specs.declared.machines.call.KeyCall.{KeyCall}
use Rattle.papaya_raw.specs.declared.machines.call.Calling.{Calling}
use Rattle.papaya_raw.specs.declared.machines.call.Calling.TheVariants as at
use Rattle.map_measures.specs.Given.RuleChart.{Chart}
use Rattle.map_measures.specs.Given.RuleWords.{Blocks}
use Rattle.owner_facts.specs.Given.PointsTold.{IsRowOf, IsRowOfCopier, IsRowOfCall}
use Rattle.owner_facts.specs.Alone.Counted.{counted_for, counted_at}
use Rattle.owner_facts.specs.Alone.FactsAloneCalls.{TablesAlone, AloneAtPoint}
use Rattle.map_measures.specs.Given.CallersRows.{row_of_disposal, row_of_copier, row_of, past_copying, past_row, once_over}
use Rattle.owner_facts.proofs.Given.CallersTogether.RowSteps.{never_refused}
use Rattle.owner_facts.proofs.Given.CallersTogether.RowsOfCopiers.{at_retirement}
use Rattle.map_measures.specs.Falls.Calls.{number_of_call}
use Rattle.map_measures.proofs.Given.SeizeEndsSettling.Most.{is_going}

-- what a call tells by a step of a retirement within it
abbrev pub told_by : {T : Type 0} → Settled T → Called T
told_by settled.Goes = called.Goes
told_by settled.Waits = called.Waits
told_by (settled.Gave value) = called.Gave value
told_by settled.Done = called.Goes

-- a copier that retires a table in blocking mode has the table with this turn as its target
abbrev pub TargetIs : ℕ → Calling → Type 0
TargetIs first (at.Copies copier) = copier.target.turn ≡ first
TargetIs first _ = Unit {0}

module _ {K V Q : Type 0} (same : K → K → Bool) (hash : K → ℕ) (asks : Q → K → Bool) (slot : ℕ) (p : KeyCall K V Q) (m m2 : Mem (Node K V)) where
  -- the call is within the row still
  pub record Still (q : KeyCall K V Q) : Type 0 where
    pub is_row : IsRowOfCall q.stands
    pub past : once_over q ≡ once_over p
    pub number : (c : Chart K) (blocks : Blocks) → number_of_call hash c blocks q ≡ number_of_call hash c blocks p
    pub alone : (incremental : Bool) (c : Chart K) → AloneAtPoint incremental c p.stands → AloneAtPoint incremental c q.stands
    pub target : (first : ℕ) → TargetIs first p.stands → TargetIs first q.stands

  -- what the step is
  pub data Account : KeyCall K V Q × Called (Node K V) → Type 0 where
    Settling : (x y : Settle) (o : Settled (Node K V)) (end : KeyCall K V Q × Called (Node K V)) → row_of slot p.stands ≡ Settles x → Steps Took value_at m (settle_plan deferred_word x) m2 (y, o)
        → is_going o ≡ true → end.1 ≡ told_by o → row_of slot end.0.stands ≡ Settles y → Still end.0 → Account end
    Deferring : (x y : Defer) (o : Advance Unit) (end : KeyCall K V Q × Called (Node K V)) → row_of slot p.stands ≡ Defers slot x → Steps Took value_at m (defer_plan x) m2 (y, o)
        → o ≢ progress.Done tt → (o ≡ progress.Goes → end.1 ≡ called.Goes) → row_of slot end.0.stands ≡ Defers slot y → Still end.0 → Account end
    Over : (end : KeyCall K V Q × Called (Node K V)) → end.1 ≡ called.Goes → (IsRowOfCall end.0.stands → ⊥) → end.0 ≡ once_over p
        → ((incremental : Bool) (c : Chart K) → AloneAtPoint incremental c p.stands → AloneAtPoint incremental c end.0.stands) → Account end
    Ends : (answer : KeyAnswer) (end : KeyCall K V Q × Called (Node K V)) → end.1 ≡ called.Done answer → (IsRowOfCall end.0.stands → ⊥) → (counted_at end.0.stands ≡ counted_at p.stands) × (counted_at end.0.stands ≡ counted_for answer)
        → ((incremental : Bool) (c : Chart K) → AloneAtPoint incremental c p.stands → TablesAlone incremental c) → Account end

  account_of : (q end : KeyCall K V Q × Called (Node K V)) → end ≡ q → Account q → Account end
  account_of q end is a = subst Account (sym is) a

  -- a disposal
  module _ (d : Dispose) (answer : KeyAnswer) (is : p.stands ≡ at.Disposes d answer) where
    abbrev disposing : Disposing → KeyCall K V Q
    disposing x = points.standing p (at.Disposes (dispose.standing d x) answer)

    still_disposes : (x y : Disposing) → d.stands ≡ x → IsRowOf y
        → ((c : Chart K) (blocks : Blocks) → number_of_call hash c blocks (disposing y) ≡ number_of_call hash c blocks (disposing x)) → Still (disposing y)
    still_disposes x y e row number = record {
      is_row = row;
      past = ap (λ (z : Calling). points.standing p (past_row z)) (sym is);
      number = λ c blocks. number c blocks ∙ ap (λ (z : Disposing). number_of_call hash c blocks (disposing z)) (sym e) ∙ ap (λ (z : Calling). number_of_call hash c blocks (points.standing p z)) (sym is);
      alone = λ incremental c h. subst (AloneAtPoint incremental c) is h;
      target = λ first h. tt;
    }

    disposing_row : (x : Disposing) → d.stands ≡ x → row_of slot p.stands ≡ row_of_disposal slot x
    disposing_row x e = ap (row_of slot) is ∙ ap (row_of_disposal slot) e

    settles : (x : Settle) → d.stands ≡ disposes.Settles x → (y : Settle) (o : Settled (Node K V)) → Steps Took value_at m (settle_plan deferred_word x) m2 (y, o)
        → Account (disposed p answer (dispose.settled d (y, o)))
    settles x e y settled.Goes st =
        Settling x y settled.Goes (disposing (disposes.Settles y), called.Goes) (disposing_row (disposes.Settles x) e) st refl refl refl
        (still_disposes (disposes.Settles x) (disposes.Settles y) e tt (λ c blocks. refl))
    settles x e y settled.Waits st =
        Settling x y settled.Waits (disposing (disposes.Settles y), called.Waits) (disposing_row (disposes.Settles x) e) st refl refl refl
        (still_disposes (disposes.Settles x) (disposes.Settles y) e tt (λ c blocks. refl))
    settles x e y (settled.Gave value) st =
        Settling x y (settled.Gave value) (disposing (disposes.Settles y), called.Gave value) (disposing_row (disposes.Settles x) e) st refl refl refl
        (still_disposes (disposes.Settles x) (disposes.Settles y) e tt (λ c blocks. refl))
    settles x e y settled.Done st = Ends answer (points.answered_with p answer) refl (λ h. h) (ap counted_at (sym is), refl) (λ incremental c h. subst (AloneAtPoint incremental c) is h)

    defers : (x : Defer) → d.stands ≡ disposes.Defers x → (y : Defer) (o : Advance Unit) → Steps Took value_at m (defer_plan x) m2 (y, o)
        → Account (disposed p answer (dispose.deferred d (y, o)))
    defers x e y progress.Goes st =
        Deferring x y progress.Goes (disposing (disposes.Defers y), called.Goes) (disposing_row (disposes.Defers x) e) st (λ z. cc z) (λ z. refl) refl
        (still_disposes (disposes.Defers x) (disposes.Defers y) e tt (λ c blocks. refl))
    defers x e y progress.Waits st =
        Deferring x y progress.Waits (disposing (disposes.Defers y), called.Waits) (disposing_row (disposes.Defers x) e) st (λ z. cc z) (λ z. absurd (cc z)) refl
        (still_disposes (disposes.Defers x) (disposes.Defers y) e tt (λ c blocks. refl))
    defers x e y (progress.Done end) st = Ends answer (points.answered_with p answer) refl (λ h. h) (ap counted_at (sym is), refl) (λ incremental c h. subst (AloneAtPoint incremental c) is h)
    defers x e y (progress.Refused fault) st = absurd (never_refused m m2 x y fault st)

    by_disposal : (x : Disposing) → d.stands ≡ x → IsRowOf x → (end : KeyCall K V Q × Called (Node K V)) → Steps Took value_at m (plan_as (disposed p answer) (dispose.plan_at d x)) m2 end → Account end
    by_disposal (disposes.Settles x) e row end st =
        let one = steps_back (disposed p answer) m m2 (plan_as (dispose.settled d) (settle_plan deferred_word x)) end st in
        let two = steps_back (dispose.settled d) m m2 (settle_plan deferred_word x) one.0 one.1 in
        account_of (disposed p answer (dispose.settled d two.0)) end (one.2 ∙ ap (disposed p answer) two.2) (settles x e two.0.0 two.0.1 two.1)
    by_disposal (disposes.Defers x) e row end st =
        let one = steps_back (disposed p answer) m m2 (plan_as (dispose.deferred d) (defer_plan x)) end st in
        let two = steps_back (dispose.deferred d) m m2 (defer_plan x) one.0 one.1 in
        account_of (disposed p answer (dispose.deferred d two.0)) end (one.2 ∙ ap (disposed p answer) two.2) (defers x e two.0.0 two.0.1 two.1)
    by_disposal disposes.Reads e row end st = absurd row
    by_disposal (disposes.Walks table) e row end st = absurd row
    by_disposal disposes.Over e row end st = absurd row

  retired_no_row : (c : Copier) (rest : ℕ) → IsRowOfCopier (retiring.table_retired c rest).stands → ⊥
  retired_no_row c rest = by (rest == 0)
    where
      by : (b : Bool) → IsRowOfCopier (if b then copiers.standing c copies.Over else copiers.standing c (copies.Succeeds rest)).stands → ⊥
      by true h = h
      by false h = h

  -- a copier that helps, and retires the table that it copied
  module _ (copy : Copier) (goal : Table) (is : p.stands ≡ at.Helps copy goal) where
    abbrev helping : Copier → KeyCall K V Q
    helping q = points.standing p (at.Helps q goal)

    helping_past : (x : Settle) (rest : ℕ) → copy.stands ≡ copies.Retires x rest → helping (retiring.table_retired copy rest) ≡ once_over p
    helping_past x rest e =
        sym (ap (λ (z : Calling). points.standing p (past_row z)) is ∙ ap (λ (v : Copying). helping (past_copying copy v)) e)

    helping_still : (x y : Settle) (rest : ℕ) → copy.stands ≡ copies.Retires x rest → Still (helping (copiers.standing copy (copies.Retires y rest)))
    helping_still x y rest e = record {
      is_row = tt;
      past = helping_past x rest e;
      number = λ c blocks. ap (λ (z : Copying). number_of_call hash c blocks (helping (copiers.standing copy z))) (sym e) ∙ ap (λ (z : Calling). number_of_call hash c blocks (points.standing p z)) (sym is);
      alone = λ incremental c h. subst (λ (z : Copying). AloneAtPoint incremental c (at.Helps (copiers.standing copy z) goal)) e (subst (AloneAtPoint incremental c) is h);
      target = λ first h. tt;
    }

    helping_row : (x : Settle) (rest : ℕ) → copy.stands ≡ copies.Retires x rest → row_of slot p.stands ≡ Settles x
    helping_row x rest e = ap (row_of slot) is ∙ ap (λ (v : Copying). row_of_copier v) e

    helping_over : (x : Settle) (rest : ℕ) → copy.stands ≡ copies.Retires x rest → (incremental : Bool) (c : Chart K) → AloneAtPoint incremental c p.stands
        → AloneAtPoint incremental c (at.Helps (retiring.table_retired copy rest) goal)
    helping_over x rest e incremental c h =
        by (rest == 0) (subst (λ (z : Copying). AloneAtPoint incremental c (at.Helps (copiers.standing copy z) goal)) e (subst (AloneAtPoint incremental c) is h))
      where
        by : (b : Bool) → AloneAtPoint incremental c (at.Helps (copiers.standing copy (copies.Retires x rest)) goal)
            → AloneAtPoint incremental c (at.Helps (if b then copiers.standing copy copies.Over else copiers.standing copy (copies.Succeeds rest)) goal)
        by true f = f
        by false f = f

    helping_told : (x : Settle) (rest : ℕ) → copy.stands ≡ copies.Retires x rest → (y : Settle) (o : Settled (Node K V)) → Steps Took value_at m (settle_plan deferred_word x) m2 (y, o)
        → Account (helped p goal (retiring.retired copy rest (y, o)))
    helping_told x rest e y settled.Goes st =
        Settling x y settled.Goes (helping (copiers.standing copy (copies.Retires y rest)), called.Goes) (helping_row x rest e) st refl refl refl (helping_still x y rest e)
    helping_told x rest e y settled.Waits st =
        Settling x y settled.Waits (helping (copiers.standing copy (copies.Retires y rest)), called.Waits) (helping_row x rest e) st refl refl refl (helping_still x y rest e)
    helping_told x rest e y (settled.Gave value) st =
        Settling x y (settled.Gave value) (helping (copiers.standing copy (copies.Retires y rest)), called.Gave value) (helping_row x rest e) st refl refl refl (helping_still x y rest e)
    helping_told x rest e y settled.Done st =
        Over (helping (retiring.table_retired copy rest), called.Goes) refl (retired_no_row copy rest) (helping_past x rest e) (helping_over x rest e)

    helping_at : (x : Copying) → copy.stands ≡ x → IsRowOfCopier x → (end : KeyCall K V Q × Called (Node K V)) → Steps Took value_at m (plan_as (helped p goal) (copier.plan_at hash copy x)) m2 end → Account end
    helping_at x e row = at_retirement (λ z. copy.stands ≡ z → (end : KeyCall K V Q × Called (Node K V)) → Steps Took value_at m (plan_as (helped p goal) (copier.plan_at hash copy z)) m2 end → Account end)
        (λ settle rest is_it end st.
        let one = steps_back (helped p goal) m m2 (plan_as (retiring.retired copy rest) (settle_plan deferred_word settle)) end st in
        let two = steps_back (retiring.retired copy rest) m m2 (settle_plan deferred_word settle) one.0 one.1 in
        account_of (helped p goal (retiring.retired copy rest two.0)) end (one.2 ∙ ap (helped p goal) two.2) (helping_told settle rest is_it two.0.0 two.0.1 two.1)) x row e

  -- one that copies a whole table, and retires that one, or one behind it
  module _ (copy : Copier) (is : p.stands ≡ at.Copies copy) where
    abbrev copying : Copier → KeyCall K V Q
    copying q = points.standing p (at.Copies q)

    copying_past : (x : Settle) (rest : ℕ) → copy.stands ≡ copies.Retires x rest → copying (retiring.table_retired copy rest) ≡ once_over p
    copying_past x rest e =
        sym (ap (λ (z : Calling). points.standing p (past_row z)) is ∙ ap (λ (v : Copying). copying (past_copying copy v)) e)

    copying_still : (x y : Settle) (rest : ℕ) → copy.stands ≡ copies.Retires x rest → Still (copying (copiers.standing copy (copies.Retires y rest)))
    copying_still x y rest e = record {
      is_row = tt;
      past = copying_past x rest e;
      number = λ c blocks. ap (λ (z : Copying). number_of_call hash c blocks (copying (copiers.standing copy z))) (sym e) ∙ ap (λ (z : Calling). number_of_call hash c blocks (points.standing p z)) (sym is);
      alone = λ incremental c h. subst (λ (z : Copying). AloneAtPoint incremental c (at.Copies (copiers.standing copy z))) e (subst (AloneAtPoint incremental c) is h);
      target = λ first h. subst (TargetIs first) is h;
    }

    copying_row : (x : Settle) (rest : ℕ) → copy.stands ≡ copies.Retires x rest → row_of slot p.stands ≡ Settles x
    copying_row x rest e = ap (row_of slot) is ∙ ap (λ (v : Copying). row_of_copier v) e

    copying_over : (x : Settle) (rest : ℕ) → copy.stands ≡ copies.Retires x rest → (incremental : Bool) (c : Chart K) → AloneAtPoint incremental c p.stands
        → AloneAtPoint incremental c (at.Copies (retiring.table_retired copy rest))
    copying_over x rest e incremental c h =
        by (rest == 0) (subst (λ (z : Copying). AloneAtPoint incremental c (at.Copies (copiers.standing copy z))) e (subst (AloneAtPoint incremental c) is h))
      where
        by : (b : Bool) → AloneAtPoint incremental c (at.Copies (copiers.standing copy (copies.Retires x rest)))
            → AloneAtPoint incremental c (at.Copies (if b then copiers.standing copy copies.Over else copiers.standing copy (copies.Succeeds rest)))
        by true f = f
        by false f = f

    copying_told : (x : Settle) (rest : ℕ) → copy.stands ≡ copies.Retires x rest → (y : Settle) (o : Settled (Node K V)) → Steps Took value_at m (settle_plan deferred_word x) m2 (y, o)
        → Account (copied p (retiring.retired copy rest (y, o)))
    copying_told x rest e y settled.Goes st =
        Settling x y settled.Goes (copying (copiers.standing copy (copies.Retires y rest)), called.Goes) (copying_row x rest e) st refl refl refl (copying_still x y rest e)
    copying_told x rest e y settled.Waits st =
        Settling x y settled.Waits (copying (copiers.standing copy (copies.Retires y rest)), called.Waits) (copying_row x rest e) st refl refl refl (copying_still x y rest e)
    copying_told x rest e y (settled.Gave value) st =
        Settling x y (settled.Gave value) (copying (copiers.standing copy (copies.Retires y rest)), called.Gave value) (copying_row x rest e) st refl refl refl (copying_still x y rest e)
    copying_told x rest e y settled.Done st =
        Over (copying (retiring.table_retired copy rest), called.Goes) refl (retired_no_row copy rest) (copying_past x rest e) (copying_over x rest e)

    copying_at : (x : Copying) → copy.stands ≡ x → IsRowOfCopier x → (end : KeyCall K V Q × Called (Node K V)) → Steps Took value_at m (plan_as (copied p) (copier.plan_at hash copy x)) m2 end → Account end
    copying_at x e row = at_retirement (λ z. copy.stands ≡ z → (end : KeyCall K V Q × Called (Node K V)) → Steps Took value_at m (plan_as (copied p) (copier.plan_at hash copy z)) m2 end → Account end)
        (λ settle rest is_it end st.
        let one = steps_back (copied p) m m2 (plan_as (retiring.retired copy rest) (settle_plan deferred_word settle)) end st in
        let two = steps_back (retiring.retired copy rest) m m2 (settle_plan deferred_word settle) one.0 one.1 in
        account_of (copied p (retiring.retired copy rest two.0)) end (one.2 ∙ ap (copied p) two.2) (copying_told settle rest is_it two.0.0 two.0.1 two.1)) x row e

  -- what a step of a row is that a call stands at
  pub account : IsRowOfCall p.stands → (end : KeyCall K V Q × Called (Node K V)) → Steps Took value_at m (call_plan asks same hash p) m2 end → Account end
  account = by p.stands refl
    where
      by : (x : Calling) → p.stands ≡ x → IsRowOfCall x → (end : KeyCall K V Q × Called (Node K V)) → Steps Took value_at m (plan_at asks same hash p x) m2 end → Account end
      by (at.Disposes d answer) is row end st = by_disposal d answer is d.stands refl row end st
      by (at.Helps copy goal) is row end st = helping_at copy goal is copy.stands refl row end st
      by (at.Copies copy) is row end st = copying_at copy is copy.stands refl row end st
      by at.Makes is row end st = absurd row
      by (at.Looks l) is row end st = absurd row
      by at.Roots is row end st = absurd row
      by at.Probes is row end st = absurd row
      by (at.Tries word new) is row end st = absurd row
      by (at.Counts removed) is row end st = absurd row
      by at.Nexts is row end st = absurd row
      by (at.Firsts making) is row end st = absurd row
      by (at.Allocs making) is row end st = absurd row
      by (at.Asks asks_at) is row end st = absurd row
      by (at.Drops over) is row end st = absurd row
      by (at.Over over) is row end st = absurd row
