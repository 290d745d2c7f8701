-- A caller whose call is within a row of the collector takes the row's next step: all calls stand together.
use Rattle.many_calls.specs.Pairs.{HandsBack, kind_of, StoresGiven}
use Rattle.many_calls.proofs.Since.Given.{fit_of, given_stored}
use Rattle.map_facts_late.specs.Kinds.{Fits}
use Rattle.seize_model.specs.Given.SeizeWordsDeclared.fault.Fault.{Fault}
use Rattle.std.specs.Prelude.{◌≡◌, ℕ, Bool, Option, Some, None}
use Rattle.std.proofs.Common.{sym, subst, inl, inr}
use Rattle.seize_model.specs.Given.SeizeWordsMem.{Mem, Can, Took, value_at}
use Rattle.seize_model.specs.Given.SeizeWordsPlan.{May, Steps, plan_as}
use Rattle.seize_model.proofs.Given.SeizeWordsPlans.{as_may}
use Rattle.seize_model.specs.Given.SeizeDeclared.advance.Advance.{Advance}
use Rattle.seize_model.specs.Given.SeizeDeclared.advance.Advance.TheVariants as progress
use Rattle.seize_model.specs.Given.SeizeDeclared.rows.defer.Defer.{Defer}
use Rattle.seize_model.specs.Given.SeizeDeclared.rows.settle.Settle.{Settle}
use Rattle.seize_model.specs.Given.SeizeDeclared.rows.settle.Settled.{Settled}
use Rattle.seize_model.specs.Given.SeizeDeclared.rows.settle.Settled.TheVariants as settled
use Rattle.seize_model.specs.Given.SeizeDefer.{defer_plan}
use Rattle.seize_model.specs.Given.SeizeSettle.{settle_plan}
use Rattle.seize_model.specs.Given.SeizeWorld.{World, Rests, Settles, Defers, Step, Happens, IsInside, with_at}
use Rattle.seize_model.proofs.Given.SeizeRuleRows.Leaving.{steps_back}
use Rattle.map_facts_late.specs.Given.TablesNodes.{deferred_word}
use Rattle.map_facts_late.specs.Given.TablesDeclared.node.Node.{Node}
use Rattle.map_facts_late.specs.Given.TablesDeclared.setting.Setting.{Setting}
use Rattle.map_facts_late.specs.Given.TablesDeclared.table.Table.{Table}
use Rattle.map_facts_late.specs.Given.ResizeDispose as dispose
use Rattle.map_facts_late.specs.Given.ResizeCopierPromotes as retiring
use Rattle.map_facts_late.specs.Given.ResizeCopier as copier
use Rattle.map_facts_late.specs.Given.ResizeCopierStates as copiers
use Rattle.map_facts_late.specs.Given.ResizeDeclared.copier.Copier.{Copier}
use Rattle.map_facts_late.specs.Given.ResizeDeclared.copier.Copying.{Copying}
use Rattle.map_facts_late.specs.Given.ResizeDeclared.copier.Copying.TheVariants as copies
use Rattle.map_facts_late.specs.Given.ResizeDeclared.dispose.Dispose.{Dispose}
use Rattle.map_facts_late.specs.Given.ResizeDeclared.yielding.Yielding.{Yielding}
use Rattle.map_facts_late.specs.Given.ResizeDeclared.dispose.Disposing.{Disposing}
use Rattle.map_facts_late.specs.Given.ResizeDeclared.dispose.Disposing.TheVariants as disposes
use Rattle.map_facts_late.specs.Given.RawCall.{plan_at, disposed, helped, copied}
use Rattle.map_facts_late.specs.Given.RawCallPoints as points
use Rattle.map_facts_late.specs.Given.RawDeclared.machines.answer.KeyAnswer.{KeyAnswer}
use Rattle.map_facts_late.specs.Given.RawDeclared.machines.answer.Called.{Called}
use Rattle.map_facts_late.specs.Given.RawDeclared.machines.answer.Called.TheVariants as called
use Rattle.map_facts_late.specs.Given.RawDeclared.machines.call.KeyCall.{KeyCall}
use Rattle.map_facts_late.specs.Given.RawDeclared.machines.call.Calling.{Calling}
use Rattle.map_facts_late.specs.Given.RawDeclared.machines.call.Calling.TheVariants as at
use Rattle.map_facts_late.specs.Given.RuleChart.{Chart}
use Rattle.map_facts_late.specs.Given.RuleWords.{Blocks}
use Rattle.map_facts_late.specs.Given.PointsFactsCalls.{Change, AnswersChange}
use Rattle.map_facts_late.specs.Given.PointsTold.{IsRowOf, IsRowOfCopier, IsRowOfCall}
use Rattle.map_facts_late.specs.Given.PointsSteps.{AreLawful}
use Rattle.many_calls.specs.Rows.{row_of_disposal, row_of_copier, row_of, past_copying, past_row, once_over}
use Rattle.many_calls.specs.Since.{ChangedSince}
use Rattle.many_calls.specs.Sights.{Visible, seen_by}
use Rattle.many_calls.specs.Claims.{IsToClaim}
use Rattle.many_calls.proofs.Together.Few.{few_with, few_without, row_claims_none, retired_claims_none}
use Rattle.many_calls.specs.Together.{OnKey, CallOnKey, UnderWay, IsWriter, next_of, in_slot, Knows, Together, AnswersOnce, RefusesOnce, IsReclaimed}
use Rattle.many_calls.proofs.Together.RowsOfCopiers.{at_retirement}
use Rattle.many_calls.proofs.Together.FactsOn.{disposes_fresh}
use Rattle.many_calls.proofs.Together.RowSteps.{never_refused, RowCame, settle_may, settle_came, settle_gives, defer_may, defer_came}
use Rattle.many_calls.proofs.Together.Fits.{fits_some, fits_none, stands_by}

module _ {K V Q : Type 0} (same : K → K → Bool) (hash : K → ℕ) (asks : Q → K → Bool) (setting : Setting) (slot : ℕ → ℕ) (lawful : AreLawful same hash)
    (w : World (Node K V)) (c : Chart K) (blocks : Blocks) (sights : ℕ → Visible) (calls : ℕ → Option (UnderWay K V Q)) (s : Together V same hash asks setting slot w c blocks sights calls)
    (i : ℕ) (u : CallOnKey K V Q) (inside : IsInside (w.uses (slot i))) (its : IsWriter calls i) where
  -- the call after the step
  abbrev then_at : KeyCall K V Q → CallOnKey K V Q
  then_at p = record { keys = u.keys; pair = u.pair; began = u.began; change = u.change; call = p }

  -- what the step came to
  pub record Led (m2 : Mem (Node K V)) (end : KeyCall K V Q × Called (Node K V)) : Type 0 where
    pub w2 : World (Node K V)
    pub memory : w2.memory ≡ m2
    pub happened : Happens deferred_word setting.batch_size (Step i) w w2
    pub together : Together V same hash asks setting slot w2 c blocks sights (with_at calls i (next_of (record { keys = u.keys; pair = u.pair; began = u.began; change = u.change; call = end.0 }) end.1))
    pub answers : (answer : KeyAnswer) → end.1 ≡ called.Done answer → AnswersOnce V same hash asks setting slot w2 c (seen_by blocks (sights (slot i))) i u u.change answer
    pub refuses : (fault : Fault) → end.1 ≡ called.Refused fault → RefusesOnce V same hash asks setting slot c (seen_by blocks (sights (slot i))) u u.change fault
    pub hands : (value : Node K V) → end.1 ≡ called.Unstored value → HandsBack u.pair value
    pub gives : (value : Node K V) → end.1 ≡ called.Gave value → IsReclaimed w w2 value
    -- it rests once it is no row's step that is next, and once it has ended
    pub over : (IsRowOfCall end.0.stands → ⊥) → w2.row i ≡ Rests
    pub rests : next_of {K = K} {V = V} {Q = Q} (record { keys = u.keys; pair = u.pair; began = u.began; change = u.change; call = end.0 }) end.1 ≡ None → w2.row i ≡ Rests

  -- a step may be taken, and leads on
  abbrev pub Leads : Calling → Type 0
  Leads x =
      May Can Took value_at w.memory (plan_at asks same hash u.call x)
      × ((m2 : Mem (Node K V)) (end : KeyCall K V Q × Called (Node K V)) → Steps Took value_at w.memory (plan_at asks same hash u.call x) m2 end → Led m2 end)

  known : {w2 : World (Node K V)} (p q : KeyCall K V Q) → Knows V same hash asks setting slot w2 c (seen_by blocks (sights (slot i))) i u p → Knows V same hash asks setting slot w2 c (seen_by blocks (sights (slot i))) i (then_at q) p
  known p q k = record { facts = k.facts; since = k.since; pair = k.pair; none = k.none }

  -- it goes on, still within the row
  module _ (m2 : Mem (Node K V)) (p2 : KeyCall K V Q) (came : RowCame same hash asks setting slot lawful w c blocks sights calls s i inside m2 (row_of (slot i) p2.stands))
      (is_row : IsRowOfCall p2.stands) (k : Knows V same hash asks setting slot w c (seen_by blocks (sights (slot i))) i u (once_over p2)) where
    still : Together V same hash asks setting slot came.w2 c blocks sights (with_at calls i (Some (OnKey (then_at p2))))
    still =
        stands_by same hash asks setting slot came.w2 c blocks sights calls i (Some (OnKey (then_at p2))) came.ground
        (fits_some same hash asks setting slot came.w2 c blocks (sights (slot i)) i (OnKey (then_at p2)) came.still_inside (inr (came.row_is, is_row, known (once_over p2) p2 (came.knows u (once_over p2) k)))) came.others
        (λ blocking. few_with calls i c (s.few blocking) (OnKey (then_at p2)) (λ writes. its) (row_claims_none p2.stands is_row)) came.puts (λ none. absurd (cc none))

    goes : Led m2 (p2, called.Goes)
    goes = record { w2 = came.w2; memory = came.memory; happened = came.happened; together = still; answers = λ answer e. absurd (cc e); refuses = λ fault e. absurd (cc e); hands = λ value e. absurd (cc e); gives = λ value e. absurd (cc e); over = λ none. absurd (none is_row); rests = λ none. absurd (cc none) }

    waits : Led m2 (p2, called.Waits)
    waits = record { w2 = came.w2; memory = came.memory; happened = came.happened; together = still; answers = λ answer e. absurd (cc e); refuses = λ fault e. absurd (cc e); hands = λ value e. absurd (cc e); gives = λ value e. absurd (cc e); over = λ none. absurd (none is_row); rests = λ none. absurd (cc none) }

    gave : (value : Node K V) → IsReclaimed w came.w2 value → Led m2 (p2, called.Gave value)
    gave value taken = record {
      w2 = came.w2;
      memory = came.memory;
      happened = came.happened;
      together = still;
      answers = λ answer e. absurd (cc e);
      refuses = λ fault e. absurd (cc e);
      hands = λ value e. absurd (cc e);
      gives = λ it e. subst (IsReclaimed w came.w2) (same_value it e) taken;
      over = λ none. absurd (none is_row);
      rests = λ none. absurd (cc none);
    }
      where
        same_value : (it : Node K V) → ◌≡◌ {A = Called (Node K V)} (called.Gave value) (called.Gave it) → value ≡ it
        same_value it e = cc e

  -- it goes on, and the row is over
  over_goes : (m2 : Mem (Node K V)) (p2 : KeyCall K V Q) → RowCame same hash asks setting slot lawful w c blocks sights calls s i inside m2 Rests
      → Knows V same hash asks setting slot w c (seen_by blocks (sights (slot i))) i u p2 → ((t : ℕ) → IsToClaim t p2.stands → ⊥) → Led m2 (p2, called.Goes)
  over_goes m2 p2 came k claims = record {
    w2 = came.w2;
    memory = came.memory;
    happened = came.happened;
    together = stands_by same hash asks setting slot came.w2 c blocks sights calls i (Some (OnKey (then_at p2))) came.ground
        (fits_some same hash asks setting slot came.w2 c blocks (sights (slot i)) i (OnKey (then_at p2)) came.still_inside (inl (came.row_is, known p2 p2 (came.knows u p2 k)))) came.others
        (λ blocking. few_with calls i c (s.few blocking) (OnKey (then_at p2)) (λ writes. its) claims) came.puts (λ none. absurd (cc none));
    answers = λ answer e. absurd (cc e);
    refuses = λ fault e. absurd (cc e);
    hands = λ value e. absurd (cc e);
    gives = λ value e. absurd (cc e);
    over = λ none. came.row_is;
    rests = λ none. came.row_is;
  }

  -- a disposal
  module _ (d : Dispose) (answer : KeyAnswer) (k : Knows V same hash asks setting slot w c (seen_by blocks (sights (slot i))) i u (points.standing u.call (at.Disposes (dispose.standing d disposes.Over) answer))) where
    abbrev within : Disposing → KeyCall K V Q
    within x = points.standing u.call (at.Disposes (dispose.standing d x) answer)

    -- the pair is disposed of: the call answers the change that it has made
    answers_so : (m2 : Mem (Node K V)) → RowCame same hash asks setting slot lawful w c blocks sights calls s i inside m2 Rests → Led m2 (points.answered_with u.call answer)
    answers_so m2 came =
        let k2 = came.knows u (within disposes.Over) k in
        let all = disposes_fresh same hash asks (in_slot setting (slot i)) i came.w2 c (seen_by blocks (sights (slot i))) u.keys u.began u.change u.call (dispose.standing d disposes.Over) answer k2.facts in
        record {
          w2 = came.w2;
          memory = came.memory;
          happened = came.happened;
          together = stands_by same hash asks setting slot came.w2 c blocks sights calls i None came.ground
              (fits_none same hash asks setting slot came.w2 c blocks (sights (slot i)) i (all.idle (λ none. none))) came.others
              (λ blocking. few_without calls i c (s.few blocking)) came.puts (λ none. came.row_is);
          answers = λ it e. subst (AnswersOnce V same hash asks setting slot came.w2 c (seen_by blocks (sights (slot i))) i u u.change) (same_answer it e) (once came.w2
              (fit_of hash u.keys came.w2.memory c (seen_by blocks (sights (slot i))) u.pair u.change (within disposes.Over) (at.Disposes (dispose.standing d disposes.Over) answer) k2.pair).4 k2.since.changed all.point.1
              (given_stored hash u.keys came.w2.memory c (seen_by blocks (sights (slot i))) u.pair u.change (within disposes.Over) (dispose.standing d disposes.Over) answer k2.pair));
          refuses = λ fault e. absurd (cc e);
          hands = λ value e. absurd (cc e);
          gives = λ value e. absurd (cc e);
          over = λ none. came.row_is;
          rests = λ none. came.row_is;
        }
      where
        same_answer : (it : KeyAnswer) → ◌≡◌ {A = Called (Node K V)} (called.Done answer) (called.Done it) → answer ≡ it
        same_answer it e = cc e

        once : (v : World (Node K V)) → Fits (kind_of u.pair).present (kind_of u.pair).absent (kind_of u.pair).takes answer
            → ChangedSince hash c (seen_by blocks (sights (slot i))) u.keys u.began u.change
            → AnswersChange same hash asks v i (in_slot setting (slot i)) c (seen_by blocks (sights (slot i))) u.keys u.change u.change answer
            → StoresGiven hash v.memory c (seen_by blocks (sights (slot i))) u.pair u.change
            → AnswersOnce V same hash asks setting slot v c (seen_by blocks (sights (slot i))) i u u.change answer
        once v fits (inl none) tells stores = absurd (subst (λ (x : Change). AnswersChange same hash asks v i (in_slot setting (slot i)) c (seen_by blocks (sights (slot i))) u.keys x x answer) none tells)
        once v fits (inr made) tells stores = (fits, inr (made, tells, stores))

    settles : (x : Settle) → w.row i ≡ Settles x → (m2 : Mem (Node K V)) (e : Settle × Settled (Node K V)) → Steps Took value_at w.memory (settle_plan deferred_word x) m2 e
        → Led m2 (disposed u.call answer (dispose.settled d e))
    settles x is m2 (y, settled.Goes) st = goes m2 (within (disposes.Settles y)) (settle_came same hash asks setting slot lawful w c blocks sights calls s i inside m2 x is y settled.Goes st) tt k
    settles x is m2 (y, settled.Waits) st = waits m2 (within (disposes.Settles y)) (settle_came same hash asks setting slot lawful w c blocks sights calls s i inside m2 x is y settled.Waits st) tt k
    settles x is m2 (y, settled.Gave value) st =
        gave m2 (within (disposes.Settles y)) (settle_came same hash asks setting slot lawful w c blocks sights calls s i inside m2 x is y (settled.Gave value) st) tt k value (settle_gives same hash asks setting slot lawful w c blocks sights calls s i inside m2 x is y value st)
    settles x is m2 (y, settled.Done) st = answers_so m2 (settle_came same hash asks setting slot lawful w c blocks sights calls s i inside m2 x is y settled.Done st)

    defers : (x : Defer) → w.row i ≡ Defers (slot i) x → (m2 : Mem (Node K V)) (e : Defer × Advance Unit) → Steps Took value_at w.memory (defer_plan x) m2 e
        → Led m2 (disposed u.call answer (dispose.deferred d e))
    defers x is m2 (y, progress.Goes) st = goes m2 (within (disposes.Defers y)) (defer_came same hash asks setting slot lawful w c blocks sights calls s i inside m2 x is y progress.Goes st) tt k
    defers x is m2 (y, progress.Waits) st = waits m2 (within (disposes.Defers y)) (defer_came same hash asks setting slot lawful w c blocks sights calls s i inside m2 x is y progress.Waits st) tt k
    defers x is m2 (y, progress.Done end) st = answers_so m2 (defer_came same hash asks setting slot lawful w c blocks sights calls s i inside m2 x is y (progress.Done end) st)
    defers x is m2 (y, progress.Refused fault) st =
        absurd (none (defer_came same hash asks setting slot lawful w c blocks sights calls s i inside m2 x is y (progress.Refused fault) st))
      where
        none : RowCame same hash asks setting slot lawful w c blocks sights calls s i inside m2 (Defers (slot i) y) → ⊥
        none came = never_refused w.memory m2 x y fault st

    -- the step as one of the call
    led : (r e : Dispose × Settled (Node K V)) → e ≡ r → (m2 : Mem (Node K V)) (end : KeyCall K V Q × Called (Node K V)) → end ≡ disposed u.call answer e → Led m2 (disposed u.call answer r) → Led m2 end
    led r e inner m2 end outer l = subst (Led m2) (sym outer) (subst (λ (x : Dispose × Settled (Node K V)). Led m2 (disposed u.call answer x)) (sym inner) l)

    by_disposal : (x : Disposing) → IsRowOf x → w.row i ≡ row_of_disposal (slot i) x
        → May Can Took value_at w.memory (plan_as (disposed u.call answer) (dispose.plan_at d x))
        × ((m2 : Mem (Node K V)) (end : KeyCall K V Q × Called (Node K V)) → Steps Took value_at w.memory (plan_as (disposed u.call answer) (dispose.plan_at d x)) m2 end → Led m2 end)
    by_disposal (disposes.Settles x) row is = (
      as_may (disposed u.call answer) Can Took value_at w.memory (plan_as (dispose.settled d) (settle_plan deferred_word x))
          (as_may (dispose.settled d) Can Took value_at w.memory (settle_plan deferred_word x) (settle_may same hash asks setting slot lawful w c blocks sights calls s i inside w.memory x is)),
      λ m2 end st.
          let one = steps_back (disposed u.call answer) w.memory m2 (plan_as (dispose.settled d) (settle_plan deferred_word x)) end st in
          let two = steps_back (dispose.settled d) w.memory m2 (settle_plan deferred_word x) one.0 one.1 in
          led (dispose.settled d two.0) one.0 two.2 m2 end one.2 (settles x is m2 two.0 two.1),
    )
    by_disposal (disposes.Defers x) row is = (
      as_may (disposed u.call answer) Can Took value_at w.memory (plan_as (dispose.deferred d) (defer_plan x))
          (as_may (dispose.deferred d) Can Took value_at w.memory (defer_plan x) (defer_may same hash asks setting slot lawful w c blocks sights calls s i inside w.memory x is)),
      λ m2 end st.
          let one = steps_back (disposed u.call answer) w.memory m2 (plan_as (dispose.deferred d) (defer_plan x)) end st in
          let two = steps_back (dispose.deferred d) w.memory m2 (defer_plan x) one.0 one.1 in
          led (dispose.deferred d two.0) one.0 two.2 m2 end one.2 (defers x is m2 two.0 two.1),
    )
    by_disposal disposes.Reads row is = absurd row
    by_disposal (disposes.Walks table) row is = absurd row
    by_disposal disposes.Over row is = absurd row

  -- a step of a copier, as one of its call
  by_told : (told : Copier × Yielding (Node K V) Table → KeyCall K V Q × Called (Node K V)) (r e : Copier × Yielding (Node K V) Table) → e ≡ r → (m2 : Mem (Node K V)) (end : KeyCall K V Q × Called (Node K V)) → end ≡ told e
      → Led m2 (told r) → Led m2 end
  by_told told r e inner m2 end outer l = subst (Led m2) (sym outer) (subst (λ (x : Copier × Yielding (Node K V) Table). Led m2 (told x)) (sym inner) l)

  -- the retirement of a table, by a copier that helps
  module _ (p : Copier) (goal : Table) where
    abbrev helping : Copier → KeyCall K V Q
    helping q = points.standing u.call (at.Helps q goal)

    helps_retires : (x : Settle) (rest : ℕ) → Knows V same hash asks setting slot w c (seen_by blocks (sights (slot i))) i u (helping (retiring.table_retired p rest)) → w.row i ≡ Settles x
        → (m2 : Mem (Node K V)) (e : Settle × Settled (Node K V)) → Steps Took value_at w.memory (settle_plan deferred_word x) m2 e → Led m2 (helped u.call goal (retiring.retired p rest e))
    helps_retires x rest k is m2 (y, settled.Goes) st = goes m2 (helping (copiers.standing p (copies.Retires y rest))) (settle_came same hash asks setting slot lawful w c blocks sights calls s i inside m2 x is y settled.Goes st) tt k
    helps_retires x rest k is m2 (y, settled.Waits) st = waits m2 (helping (copiers.standing p (copies.Retires y rest))) (settle_came same hash asks setting slot lawful w c blocks sights calls s i inside m2 x is y settled.Waits st) tt k
    helps_retires x rest k is m2 (y, settled.Gave value) st =
        gave m2 (helping (copiers.standing p (copies.Retires y rest))) (settle_came same hash asks setting slot lawful w c blocks sights calls s i inside m2 x is y (settled.Gave value) st) tt k value (settle_gives same hash asks setting slot lawful w c blocks sights calls s i inside m2 x is y value st)
    helps_retires x rest k is m2 (y, settled.Done) st = over_goes m2 (helping (retiring.table_retired p rest)) (settle_came same hash asks setting slot lawful w c blocks sights calls s i inside m2 x is y settled.Done st) k (λ t claims. claims)

    abbrev HelpLeads : Copying → Type 0
    HelpLeads x =
        Knows V same hash asks setting slot w c (seen_by blocks (sights (slot i))) i u (helping (past_copying p x)) → w.row i ≡ row_of_copier x
        → May Can Took value_at w.memory (plan_as (helped u.call goal) (copier.plan_at hash p x))
        × ((m2 : Mem (Node K V)) (end : KeyCall K V Q × Called (Node K V)) → Steps Took value_at w.memory (plan_as (helped u.call goal) (copier.plan_at hash p x)) m2 end → Led m2 end)

    by_help : (x : Copying) → IsRowOfCopier x → HelpLeads x
    by_help = at_retirement HelpLeads (λ x rest k is. (
      as_may (helped u.call goal) Can Took value_at w.memory (plan_as (retiring.retired p rest) (settle_plan deferred_word x))
          (as_may (retiring.retired p rest) Can Took value_at w.memory (settle_plan deferred_word x) (settle_may same hash asks setting slot lawful w c blocks sights calls s i inside w.memory x is)),
      λ m2 end st.
          let one = steps_back (helped u.call goal) w.memory m2 (plan_as (retiring.retired p rest) (settle_plan deferred_word x)) end st in
          let two = steps_back (retiring.retired p rest) w.memory m2 (settle_plan deferred_word x) one.0 one.1 in
          by_told (helped u.call goal) (retiring.retired p rest two.0) one.0 two.2 m2 end one.2 (helps_retires x rest k is m2 two.0 two.1),
    ))

  -- and by one that copies a whole table
  module _ (p : Copier) where
    abbrev copying : Copier → KeyCall K V Q
    copying q = points.standing u.call (at.Copies q)

    copies_retires : (x : Settle) (rest : ℕ) → Knows V same hash asks setting slot w c (seen_by blocks (sights (slot i))) i u (copying (retiring.table_retired p rest)) → w.row i ≡ Settles x
        → (m2 : Mem (Node K V)) (e : Settle × Settled (Node K V)) → Steps Took value_at w.memory (settle_plan deferred_word x) m2 e → Led m2 (copied u.call (retiring.retired p rest e))
    copies_retires x rest k is m2 (y, settled.Goes) st = goes m2 (copying (copiers.standing p (copies.Retires y rest))) (settle_came same hash asks setting slot lawful w c blocks sights calls s i inside m2 x is y settled.Goes st) tt k
    copies_retires x rest k is m2 (y, settled.Waits) st = waits m2 (copying (copiers.standing p (copies.Retires y rest))) (settle_came same hash asks setting slot lawful w c blocks sights calls s i inside m2 x is y settled.Waits st) tt k
    copies_retires x rest k is m2 (y, settled.Gave value) st =
        gave m2 (copying (copiers.standing p (copies.Retires y rest))) (settle_came same hash asks setting slot lawful w c blocks sights calls s i inside m2 x is y (settled.Gave value) st) tt k value (settle_gives same hash asks setting slot lawful w c blocks sights calls s i inside m2 x is y value st)
    copies_retires x rest k is m2 (y, settled.Done) st = over_goes m2 (copying (retiring.table_retired p rest)) (settle_came same hash asks setting slot lawful w c blocks sights calls s i inside m2 x is y settled.Done st) k (retired_claims_none p rest)

    abbrev CopyLeads : Copying → Type 0
    CopyLeads x =
        Knows V same hash asks setting slot w c (seen_by blocks (sights (slot i))) i u (copying (past_copying p x)) → w.row i ≡ row_of_copier x
        → May Can Took value_at w.memory (plan_as (copied u.call) (copier.plan_at hash p x))
        × ((m2 : Mem (Node K V)) (end : KeyCall K V Q × Called (Node K V)) → Steps Took value_at w.memory (plan_as (copied u.call) (copier.plan_at hash p x)) m2 end → Led m2 end)

    by_copier : (x : Copying) → IsRowOfCopier x → CopyLeads x
    by_copier = at_retirement CopyLeads (λ x rest k is. (
      as_may (copied u.call) Can Took value_at w.memory (plan_as (retiring.retired p rest) (settle_plan deferred_word x))
          (as_may (retiring.retired p rest) Can Took value_at w.memory (settle_plan deferred_word x) (settle_may same hash asks setting slot lawful w c blocks sights calls s i inside w.memory x is)),
      λ m2 end st.
          let one = steps_back (copied u.call) w.memory m2 (plan_as (retiring.retired p rest) (settle_plan deferred_word x)) end st in
          let two = steps_back (retiring.retired p rest) w.memory m2 (settle_plan deferred_word x) one.0 one.1 in
          by_told (copied u.call) (retiring.retired p rest two.0) one.0 two.2 m2 end one.2 (copies_retires x rest k is m2 two.0 two.1),
    ))

  -- at each point
  pub within_row : (x : Calling) → IsRowOfCall x → w.row i ≡ row_of (slot i) x → Knows V same hash asks setting slot w c (seen_by blocks (sights (slot i))) i u (points.standing u.call (past_row x)) → Leads x
  within_row (at.Disposes d answer) row is k = by_disposal d answer k d.stands row is
  within_row (at.Helps p goal) row is k = by_help p goal p.stands row k is
  within_row (at.Copies p) row is k = by_copier p p.stands row k is
  within_row at.Makes row is k = absurd row
  within_row (at.Looks l) row is k = absurd row
  within_row at.Roots row is k = absurd row
  within_row at.Probes row is k = absurd row
  within_row (at.Tries word new) row is k = absurd row
  within_row (at.Counts removed) row is k = absurd row
  within_row at.Nexts row is k = absurd row
  within_row (at.Firsts making) row is k = absurd row
  within_row (at.Allocs making) row is k = absurd row
  within_row (at.Asks asking) row is k = absurd row
  within_row (at.Drops end) row is k = absurd row
  within_row (at.Over end) row is k = absurd row
