-- A step of a row within a disposal, or a copier, tells of what that has in hand.
use Rattle.std.specs.Prelude.{◌≡◌, ◌≢◌, ℕ, ◌+◌, ◌*◌, ◌<◌, ◌==◌, Option, Some, None, Ok, Err, Bool, true, false, List, [], ◌∷◌, length, if◌then◌else◌}
use Rattle.std.proofs.Common.{refl, ap, sym, subst, ◌∙◌, arith}
use Rattle.run_places.specs.Given.SeizeWordsDeclared.at.At.{At}
use Rattle.run_places.specs.Given.SeizeWordsOp.{Found, Stored, Exchanged, Made, Taken, Roomed}
use Rattle.run_places.specs.Given.SeizeWordsMem.{Mem, value_at}
use Rattle.run_places.specs.Given.SeizeWordsPlan.{Ends, Now}
use Rattle.run_places.specs.Given.SeizeWordsWord.{block_in}
use Rattle.run_places.specs.Given.SeizeDeclared.advance.Advance.{Advance}
use Rattle.run_places.specs.Given.SeizeDeclared.advance.Advance.TheVariants as progress
use Rattle.run_places.specs.Given.SeizeDeclared.states.TheConstants.{HELD, LAST_SLOT}
use Rattle.run_places.specs.Given.SeizeDeclared.rows.defer.Defer.{Defer}
use Rattle.run_places.specs.Given.SeizeDeclared.rows.defer.Deferring.{Deferring}
use Rattle.run_places.specs.Given.SeizeDeclared.rows.defer.Deferring.TheVariants as deferring
use Rattle.run_places.specs.Given.SeizeDeclared.rows.settle.Settle.{Settle}
use Rattle.run_places.specs.Given.SeizeDeclared.rows.settle.Settled.{Settled}
use Rattle.run_places.specs.Given.SeizeDeclared.rows.settle.Settled.TheVariants as settled
use Rattle.run_places.specs.Given.SeizeDeclared.rows.settle.Settling.{Settling}
use Rattle.run_places.specs.Given.SeizeDeclared.rows.settle.Settling.TheVariants as at
use Rattle.run_places.specs.Given.SeizeDefer.{deferring as putting, defer_plan}
use Rattle.run_places.specs.Given.SeizeDefer as defers
use Rattle.run_places.specs.Given.SeizeSettle.{retiring, settle_plan, plan_at}
use Rattle.run_places.specs.Given.SeizeSettle as plans
use Rattle.run_places.specs.Given.SeizeWorld.{World, Hand, Cutting, Row, Settles, Defers}
use Rattle.owner_facts.proofs.Given.SeizeMovesState.Ghost.{State}
use Rattle.owner_facts.proofs.Given.SeizeRulePoints.Aside.{HandFits}
use Rattle.owner_facts.proofs.Given.SeizeRulePoints.Known.{FitsAt, bare, open_blocks}
use Rattle.owner_facts.proofs.Given.SeizeRulePoints.Retire.{open_chain, of_link as named}
use Rattle.owner_facts.proofs.Given.SeizeRulePoints.Settle.{is_over, settle_steps}
use Rattle.owner_facts.proofs.Given.SeizeRulePoints.Stepped.{IsGoing}
use Rattle.owner_facts.proofs.Given.SeizeRuleRows.Known.{FitsRow}
use Rattle.owner_facts.proofs.Given.SeizeMemoryWords.Chains.{Chain, first_or}
use Rattle.owner_facts.proofs.Given.SeizeMemoryWords.Named.{link, link-block}
use Rattle.owner_facts.proofs.Given.SeizeMemoryWords.Shows.{lives}
use Rattle.owner_facts.proofs.Given.SeizeMemoryWords.There.{live_pos}
use Rattle.owner_facts.proofs.Given.SeizeMemoryWords.View.{view}
use Rattle.owner_facts.proofs.Given.SeizeRuleWorld.Start.{words_good}
use Rattle.owner_facts.proofs.Given.SeizeAloneHistories.Reached.{Reached}
use Rattle.run_places.specs.Given.TablesNodes.{deferred_word}
use Rattle.run_places.specs.Given.TablesDeclared.node.Node.{Node}
use Rattle.run_places.specs.Given.TablesDeclared.table.Table.{Table}
use Rattle.run_places.specs.Given.ResizeCopier.{copier_plan}
use Rattle.run_places.specs.Given.ResizeCopier as copiers
use Rattle.run_places.specs.Given.ResizeCopierPromotes.{retired, table_retired}
use Rattle.run_places.specs.Given.ResizeCopierStates.{standing}
use Rattle.run_places.specs.Given.ResizeDispose.{dispose_plan}
use Rattle.run_places.specs.Given.ResizeDispose as disposes
use Rattle.run_places.specs.Given.ResizeDeclared.copier.Copier.{Copier}
use Rattle.run_places.specs.Given.ResizeDeclared.copier.Copying.{Copying}
use Rattle.run_places.specs.Given.ResizeDeclared.copier.Copying.TheVariants as copying
use Rattle.run_places.specs.Given.ResizeDeclared.dispose.Dispose.{Dispose}
use Rattle.run_places.specs.Given.ResizeDeclared.dispose.Disposing.{Disposing}
use Rattle.run_places.specs.Given.ResizeDeclared.dispose.Disposing.TheVariants as disposing
use Rattle.run_places.specs.Given.ResizeDeclared.yielding.Yielding.{Yielding}
use Rattle.run_places.specs.Given.ResizeDeclared.yielding.Yielding.TheVariants as outcome
use Rattle.run_places.specs.Given.RunsDeclared.effect.Effect.{Effect}
use Rattle.run_places.specs.Given.TellerTells.{StepsObserved}
use Rattle.run_places.specs.Given.EffectsDeclared.changed.Changed.{Changed}
use Rattle.run_places.specs.Given.EffectsDeclared.changed.Changed.TheVariants as changed
use Rattle.run_places.specs.Given.EffectsKnown.{Known}
use Rattle.run_places.specs.Hands.Rows.{SettlesAside, ReclaimsNone}
use Rattle.run_places.proofs.Given.OthersOutcomes.{told_in}
use Rattle.run_debts.specs.Due.{RowObligation, ToPut, due_in_settle, due_in_defer, due_in_disposing, due_in_copying, RowTells, TellsNone}
use Rattle.run_debts.specs.Entries.{IsSomebodys, IsBlank, OneAt, RetiresOne}
use Rattle.run_debts.proofs.DueDefers.{AreTables, defer_tells}
use Rattle.run_debts.proofs.DueSettles.{effects_by, settle_tells}
use Rattle.run_places.proofs.Given.ScenesTold.{as_step}
use Rattle.run_places.proofs.Given.SeizeRuleRows.Leave.{over_is}

-- a row that has put a block behind another has none in hand
abbrev pub EndsNone : Defer → Advance Unit → Type 0
EndsNone d (progress.Done x) = due_in_defer d d.stands ≡ None
EndsNone d (progress.Refused fault) = due_in_defer d d.stands ≡ None
EndsNone d _ = Unit {0}

-- it goes on
abbrev pub GoesOn : {A B : Type 0} → Yielding A B → Type 0
GoesOn (outcome.Done x) = ⊥
GoesOn (outcome.Refused fault) = ⊥
GoesOn _ = Unit {0}

module _ {T : Type 0} (w : World T) (i : ℕ) where
  -- the row that retires a block is under way, or is to begin
  pub data SettleIs (settle : Settle) : Type 0 where
    IsSettling : w.row i ≡ Settles settle → SettleIs settle
    IsToSettle : (slot batch block : ℕ) → settle ≡ retiring slot batch (block * 2048) → w.hand block ≡ Cutting i → SettleIs settle

  -- so is one that puts a block behind another
  pub data DeferIs (defer : Defer) : Type 0 where
    IsPutting : (slot : ℕ) → w.row i ≡ Defers slot defer → DeferIs defer
    IsToPut : (block : ℕ) (word : At) → defer ≡ putting block word → DeferIs defer

  abbrev pub DisposingIs : Disposing → Type 0
  DisposingIs (disposing.Settles settle) = SettleIs settle
  DisposingIs (disposing.Defers defer) = DeferIs defer
  DisposingIs _ = ⊥

  abbrev pub CopyingIs : Copying → Type 0
  CopyingIs (copying.Retires settle rest) = SettleIs settle
  CopyingIs _ = ⊥

module _ {K V : Type 0} {size : ℕ} (w : World (Node K V)) (r : Reached deferred_word size w) (i map : ℕ) (known : Known) (m2 : Mem (Node K V)) (told : Changed)
    (blanks : (b : ℕ) → IsSomebodys (w.hand b) → IsBlank w.memory b) (none : ReclaimsNone (w.row i)) (own : RetiresOne (IsBlank w.memory) (w.row i))
    (tables : AreTables w.memory r.good.state.life known) where
  abbrev n : ℕ
  n = LAST_SLOT + 1

  abbrev m : State
  m = r.good.state

  abbrev effects : List Effect
  effects = effects_by i map known told

  abbrev pub Tells : Option RowObligation → Option RowObligation → Type 0
  Tells before after = RowTells i map known effects before after

  -- retiring

  module _ (c : Settle) (end : Settle × Settled (Node K V)) (steps : StepsObserved K V (Settle × Settled (Node K V)) w.memory changed.Nothing (settle_plan deferred_word c) m2 told end) where
    abbrev SettleGoes : Type 0
    SettleGoes = Tells (due_in_settle c c.stands) (due_in_settle end.0 end.0.stands) × (end.1 ≡ settled.Done → due_in_settle end.0 end.0.stands ≡ None)

    fits : w.row i ≡ Settles c → FitsAt n i (view deferred_word w.memory) m r.good.extra (bare c) c.stands
    fits is = subst (λ (q : Row). FitsRow n i (view deferred_word w.memory) m r.good.extra (length w.memory.slots) q) is (r.good.rows i)

    -- the first block of the batch is one
    first_some : (block : ℕ) → FitsAt n i (view deferred_word w.memory) m r.good.extra (bare c) (at.Batches block) → block_in c.first ≢ 0
    first_some block f e = by (open_blocks m c) refl
      where
        chain : Chain (r.good.extra.behind (m.open_batch c.slot)) (view deferred_word w.memory).nexts (first_or (r.good.extra.behind (m.open_batch c.slot)) (open_blocks m c)) (open_blocks m c)
        chain = open_chain n i (view deferred_word w.memory) m r.good.extra c r.good.inv r.good.shows f.putting.common.slot_lt

        by : (l : List ℕ) → open_blocks m c ≡ l → ⊥
        by [] is =
            let first : c.first ≡ link f.b = f.first ∙ ap (first_or (link f.b)) is in
            let zero : f.b ≡ 0 = sym (named c.first f.b first) ∙ e in
            let some = f.putting.some_block in absurd (omega (arith, zero, some))
        by (x ∷ l) is =
            let first : c.first ≡ link x = f.first ∙ ap (first_or (link f.b)) is in
            let zero : x ≡ 0 = sym (named c.first x first) ∙ e in
            let some = (subst (λ (k : List ℕ). Chain (r.good.extra.behind (m.open_batch c.slot)) (view deferred_word w.memory).nexts (first_or (r.good.extra.behind (m.open_batch c.slot)) k) k) is chain).0 in
            absurd (omega (arith, zero, some))

    done_none : w.row i ≡ Settles c → end.1 ≡ settled.Done → due_in_settle end.0 end.0.stands ≡ None
    done_none is done = by (is_over c.stands) refl
      where
        by : (q : Bool) → is_over c.stands ≡ q → due_in_settle end.0 end.0.stands ≡ None
        by true e =
            let stands = over_is c.stands e in
            let st = subst (λ (p : Settling). StepsObserved K V (Settle × Settled (Node K V)) w.memory changed.Nothing (plan_at deferred_word c p) m2 told end) stands steps in
            ap (λ (q : Settle × Settled (Node K V)). due_in_settle q.0 q.0.stands) st.1 ∙ ap (due_in_settle c) stands
        by false e =
            let went = settle_steps deferred_word n i w.memory m2 m r.good.extra c end refl (words_good deferred_word n w r.good) r.good.inv r.good.shows c.stands refl e (fits is)
            (as_step w.memory changed.Nothing (settle_plan deferred_word c) m2 told end steps) in
            absurd (subst IsGoing done went.1)

    -- as it begins it only looks
    sees_on : c.stands ≡ at.Sees → IsGoing end.1
    sees_on stands = by (subst (λ (p : Settling). StepsObserved K V (Settle × Settled (Node K V)) w.memory changed.Nothing (plan_at deferred_word c p) m2 told end) stands steps)
      where
        found : (word : ℕ) (q : Bool) → Ends (value_at m2) (if q then Now (c, settled.Waits) else plans.to (record c { last = word; stands = at.Holds })) end → IsGoing end.1
        found word true e = subst (λ (x : Settle × Settled (Node K V)). IsGoing x.1) (sym e) tt
        found word false e = subst (λ (x : Settle × Settled (Node K V)). IsGoing x.1) (sym e) tt

        by : StepsObserved K V (Settle × Settled (Node K V)) w.memory changed.Nothing (plan_at deferred_word c at.Sees) m2 told end → IsGoing end.1
        by (Found word, (took, told_so), ends) = found word (word == HELD) ends
        by (Stored, (took, told_so), ends) = absurd took.0
        by (Exchanged x, (took, told_so), ends) = absurd took.0
        by (Made x, (took, told_so), ends) = absurd took.0
        by (Taken x, (took, told_so), ends) = absurd took.0
        by (Roomed x, (took, told_so), ends) = absurd took.0

    pub settle_row : SettleIs w i c → SettleGoes
    settle_row (IsSettling is) = (
      settle_tells i map known w.memory m2 told c end (subst ReclaimsNone is none) (subst (RetiresOne (IsBlank w.memory)) is own)
          (λ block stands. first_some block (subst (FitsAt n i (view deferred_word w.memory) m r.good.extra (bare c)) stands (fits is))) steps,
      λ done. done_none is done,
    )
    settle_row (IsToSettle slot batch block is cut) = (
      settle_tells i map known w.memory m2 told c end (subst SettlesAside (sym is) (refl, refl, refl, tt))
          (subst (λ (x : Settle). OneAt (IsBlank w.memory) x x.stands) (sym is) (some, subst (IsBlank w.memory) (sym (link-block block)) (blanks block (subst IsSomebodys (sym cut) tt))))
          (λ x stands. absurd (let sees = ap (λ (y : Settle). y.stands) is in cc (sees, stands))) steps,
      λ done. absurd (subst IsGoing done (sees_on (ap (λ (y : Settle). y.stands) is))),
    )
      where
        there : 0 < block
        there = live_pos w.memory block (r.good.shows.lists.lived block ∙ ap lives (subst (λ (h : Hand). HandFits h (m.life block)) cut (r.good.hands block)))

        some : block * 2048 ≢ 0
        some e = absurd (omega (arith, e, there))

  -- putting behind

  module _ (c : Defer) (end : Defer × Advance Unit) (steps : StepsObserved K V (Defer × Advance Unit) w.memory changed.Nothing (defer_plan c) m2 told end) where
    abbrev DeferGoes : Type 0
    DeferGoes = Tells (due_in_defer c c.stands) (due_in_defer end.0 end.0.stands)

    abbrev DeferAt : Deferring → Type 0
    DeferAt p = StepsObserved K V (Defer × Advance Unit) w.memory changed.Nothing (defers.plan_at {T = Node K V} c p) m2 told end

    begun_on : c.stands ≡ deferring.Reads → DeferGoes
    begun_on stands = by (subst DeferAt stands steps)
      where
        after : (x : Defer × Advance Unit) → end ≡ x → due_in_defer x.0 x.0.stands ≡ Some (ToPut c.block c.table_word) → due_in_defer end.0 end.0.stands ≡ due_in_defer c c.stands
        after x is due = ap (λ (q : Defer × Advance Unit). due_in_defer q.0 q.0.stands) is ∙ due ∙ sym (ap (due_in_defer c) stands)

        by : DeferAt deferring.Reads → DeferGoes
        by (Found head, (took, told_so), ends) = TellsNone (ap (effects_by i map known) told_so) (after _ ends refl)
        by (Stored, (took, told_so), ends) = absurd took.0
        by (Exchanged x, (took, told_so), ends) = absurd took.0
        by (Made x, (took, told_so), ends) = absurd took.0
        by (Taken x, (took, told_so), ends) = absurd took.0
        by (Roomed x, (took, told_so), ends) = absurd took.0

    pub defer_row : DeferIs w i c → DeferGoes
    defer_row (IsPutting slot is) =
        defer_tells w r i i map known m2 told slot c (subst (λ (q : Row). FitsRow n i (view deferred_word w.memory) m r.good.extra (length w.memory.slots) q) is (r.good.rows i)) end steps tables
    defer_row (IsToPut block word is) = begun_on (ap (λ (x : Defer). x.stands) is)

    -- it is over once it has nothing in hand
    abbrev DoneNone : Defer × Advance Unit → Type 0
    DoneNone e = EndsNone e.0 e.1

    pub defer_done : DoneNone end
    defer_done = by c.stands refl steps
      where
        by : (p : Deferring) → c.stands ≡ p → DeferAt p → DoneNone end
        by deferring.Over stands st = subst DoneNone (sym st.1) (ap (due_in_defer c) stands)
        by (deferring.Links head) stands st = subst DoneNone (sym st.2) tt
        by deferring.Reads stands (Found head, (took, told_so), ends) = subst DoneNone (sym ends) tt
        by deferring.Reads stands (Stored, (took, told_so), ends) = absurd took.0
        by deferring.Reads stands (Exchanged x, (took, told_so), ends) = absurd took.0
        by deferring.Reads stands (Made x, (took, told_so), ends) = absurd took.0
        by deferring.Reads stands (Taken x, (took, told_so), ends) = absurd took.0
        by deferring.Reads stands (Roomed x, (took, told_so), ends) = absurd took.0
        by (deferring.Pushes head) stands (Exchanged (Ok found), (took, told_so), ends) = subst DoneNone (sym ends) tt
        by (deferring.Pushes head) stands (Exchanged (Err found), (took, told_so), ends) = subst DoneNone (sym ends) tt
        by (deferring.Pushes head) stands (Found x, (took, told_so), ends) = absurd took.0
        by (deferring.Pushes head) stands (Stored, (took, told_so), ends) = absurd took.0
        by (deferring.Pushes head) stands (Made x, (took, told_so), ends) = absurd took.0
        by (deferring.Pushes head) stands (Taken x, (took, told_so), ends) = absurd took.0
        by (deferring.Pushes head) stands (Roomed x, (took, told_so), ends) = absurd took.0

  -- where what it has in hand after it is the same
  as_after : (before after after2 : Option RowObligation) → after2 ≡ after → Tells before after → Tells before after2
  as_after before after after2 e tells = subst (Tells before) (sym e) tells

  -- within a disposal
  module _ (d : Dispose) (end : Dispose × Settled (Node K V)) (steps : StepsObserved K V (Dispose × Settled (Node K V)) w.memory changed.Nothing (dispose_plan d) m2 told end) where
    abbrev DisposeAt : Disposing → Type 0
    DisposeAt p = StepsObserved K V (Dispose × Settled (Node K V)) w.memory changed.Nothing (disposes.plan_at {K = K} {V = V} d p) m2 told end

    abbrev DisposeGoes : Disposing → Type 0
    DisposeGoes p = Tells (due_in_disposing p) (due_in_disposing end.0.stands) × (end.1 ≡ settled.Done → due_in_disposing end.0.stands ≡ None)

    abbrev GoesTo : Option RowObligation → Dispose × Settled (Node K V) → Type 0
    GoesTo before e = Tells before (due_in_disposing e.0.stands) × (e.1 ≡ settled.Done → due_in_disposing e.0.stands ≡ None)

    settles_to : (before : Option RowObligation) (q : Settle × Settled (Node K V)) → Tells before (due_in_settle q.0 q.0.stands) → (q.1 ≡ settled.Done → due_in_settle q.0 q.0.stands ≡ None) → GoesTo before (disposes.settled d q)
    settles_to before (c, settled.Goes) tells done = (tells, λ e. absurd (cc e))
    settles_to before (c, settled.Waits) tells done = (tells, λ e. absurd (cc e))
    settles_to before (c, settled.Gave value) tells done = (tells, λ e. absurd (cc e))
    settles_to before (c, settled.Done) tells done = (as_after before (due_in_settle c c.stands) None (sym (done refl)) tells, λ e. refl)

    defers_to : (before : Option RowObligation) (c : Defer) (o : Advance Unit) → Tells before (due_in_defer c c.stands) → EndsNone c o → GoesTo before (disposes.deferred d (c, o))
    defers_to before c progress.Goes tells done = (tells, λ e. absurd (cc e))
    defers_to before c progress.Waits tells done = (tells, λ e. absurd (cc e))
    defers_to before c (progress.Done x) tells done = (as_after before (due_in_defer c c.stands) None (sym done) tells, λ e. refl)
    defers_to before c (progress.Refused fault) tells done = (as_after before (due_in_defer c c.stands) None (sym done) tells, λ e. refl)

    pub dispose_row : DisposingIs w i d.stands → DisposeGoes d.stands
    dispose_row is = by d.stands is steps
      where
        by : (p : Disposing) → DisposingIs w i p → DisposeAt p → DisposeGoes p
        by (disposing.Settles settle) is st =
            let inner = told_in w.memory m2 told (disposes.settled d) (settle_plan deferred_word settle) end st in
            let row = settle_row settle inner.0 inner.2 is in
            subst (GoesTo (due_in_settle settle settle.stands)) (sym inner.1) (settles_to (due_in_settle settle settle.stands) inner.0 row.0 row.1)
        by (disposing.Defers defer) is st =
            let inner = told_in w.memory m2 told (disposes.deferred d) (defer_plan defer) end st in
            subst (GoesTo (due_in_defer defer defer.stands)) (sym inner.1)
            (defers_to (due_in_defer defer defer.stands) inner.0.0 inner.0.1 (defer_row defer inner.0 inner.2 is) (defer_done defer inner.0 inner.2))
        by disposing.Reads is st = absurd is
        by (disposing.Walks table) is st = absurd is
        by disposing.Over is st = absurd is

  -- within a copier
  module _ (hash : K → ℕ) (c : Copier) (end : Copier × Yielding (Node K V) Table) (steps : StepsObserved K V (Copier × Yielding (Node K V) Table) w.memory changed.Nothing (copier_plan hash c) m2 told end) where
    abbrev CopierAt : Copying → Type 0
    CopierAt p = StepsObserved K V (Copier × Yielding (Node K V) Table) w.memory changed.Nothing (copiers.plan_at {V = V} hash c p) m2 told end

    abbrev CopiesTo : Option RowObligation → Copier × Yielding (Node K V) Table → Type 0
    CopiesTo before e = Tells before (due_in_copying e.0.stands) × GoesOn e.1

    abbrev RetiredTo : Option RowObligation → ℕ → Settle × Settled (Node K V) → Type 0
    RetiredTo before rest q = CopiesTo before (retired c rest q)

    table_none : (rest : ℕ) → due_in_copying (table_retired c rest).stands ≡ None
    table_none rest = by (rest == 0)
      where
        by : (q : Bool) → due_in_copying (if q then standing c copying.Over else standing c (copying.Succeeds rest)).stands ≡ None
        by true = refl
        by false = refl

    retires_to : (before : Option RowObligation) (rest : ℕ) (q : Settle × Settled (Node K V)) → Tells before (due_in_settle q.0 q.0.stands) → (q.1 ≡ settled.Done → due_in_settle q.0 q.0.stands ≡ None) → RetiredTo before rest q
    retires_to before rest (s, settled.Goes) tells done = (tells, tt)
    retires_to before rest (s, settled.Waits) tells done = (tells, tt)
    retires_to before rest (s, settled.Gave value) tells done = (tells, tt)
    retires_to before rest (s, settled.Done) tells done = (as_after before (due_in_settle s s.stands) (due_in_copying (table_retired c rest).stands) (table_none rest ∙ sym (done refl)) tells, tt)

    pub copier_row : CopyingIs w i c.stands → CopiesTo (due_in_copying c.stands) end
    copier_row is = by c.stands is steps
      where
        by : (p : Copying) → CopyingIs w i p → CopierAt p → CopiesTo (due_in_copying p) end
        by (copying.Retires settle rest) is st =
            let inner = told_in w.memory m2 told (retired c rest) (settle_plan deferred_word settle) end st in
            let row = settle_row settle inner.0 inner.2 is in
            subst (CopiesTo (due_in_settle settle settle.stands)) (sym inner.1) (retires_to (due_in_settle settle settle.stands) rest inner.0 row.0 row.1)
        by _ is st = absurd is
