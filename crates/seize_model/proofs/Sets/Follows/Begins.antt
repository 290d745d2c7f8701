-- A row that runs alone begins, and ends: what the rest of its work comes to is then what the waiting sets say of its change, or nothing.
use Rattle.std.specs.Prelude.{filter, map}
use Rattle.std.proofs.Common.{◌≡◌, ℕ, suc, Bool, true, false, eqb, List, [], ◌∷◌, ◌++◌, refl, arith, ap, eqb-true, subst, sym, ◌∙◌}
use Rattle.std.proofs.lemmas.Bool.{eqb-false}
use Rattle.std.proofs.lemmas.List.{append-nil}
use Rattle.seize.specs.Sequence.{taken_in}
use Rattle.seize.specs.WaitingSets.{Batch, Sets, After, with_active, with_closed, without, size, retired, flushed, counted, left}
use Rattle.seize_rule.specs.Given.SeizeWaitingHeld.{count}
use Rattle.seize_rule.proofs.Given.SeizeWaitingBound.{rounds}
use Rattle.seize_rule.proofs.Given.SeizeWaitingCounts.{filter_same}
use Rattle.seize_rule.proofs.Given.SeizeWaitingWork.{counted_begins}
use Rattle.seize_rule.proofs.Given.SeizeWaitingRetired.{retired_bound}
use Rattle.seize_rule.proofs.Given.SeizeMovesState.Ghost.{Debt, Unscanned, Marked, Gone, Skipped, Owing, Loose, Counted, Closed, Entry, Active, State, list_of}
use Rattle.seize_rule.proofs.Given.SeizeMovesState.Rule.{Inv}
use Rattle.seize_rule.proofs.Given.SeizeMemoryWords.Shows.{Extra}
use Rattle.seize_rule.proofs.Points.Known.{Empty}
use Rattle.seize_rule.proofs.Given.SeizeMovesSets.Shown.{waits, is_owing, batch_shown, batches_in, Models, models_alike}
use Rattle.seize_rule.proofs.Given.SeizeMovesSets.ListTaken.{left_models, refreshed_models}
use Rattle.seize_rule.proofs.Given.SeizeMovesSets.Working.{AllWait, retiring_comes}
use Rattle.seize_rule.proofs.Given.SeizeMovesSets.Countdown.{all_done}
use Rattle.seize_rule.proofs.Given.SeizeMovesSets.Unmoved.{alike_kept}
use Rattle.seize_rule.proofs.Points.Told.{Part, NoneLeft}
use Rattle.seize_model.proofs.Sets.Follows.Work.{Lined, Base, Plainly, Flushes, Alone, Setting}
use Rattle.seize_model.proofs.Sets.Follows.Kept.{behind_in, retires_plainly, plainly_retires}
use Rattle.seize_model.proofs.Sets.Follows.Countdown.{all_closed, all_wait}
use Rattle.seize_rule.proofs.Given.SeizeMovesState.Moves
use Rattle.seize.proofs.Given.General.{at_most_itself as not_longer}

-- the row has nothing in its hands
pub record AtRest (i : ℕ) (m : State) : Type 0 where
  pub loose : m.loose i ≡ []
  pub none_left : NoneLeft i m
  pub pending : m.pending i ≡ []
  pub closing : m.closing i ≡ 0

pub at_rest : (i : ℕ) (m : State) (x : Extra) → Empty i m x → AtRest i m
at_rest i m x e = record { loose = e.loose; none_left = record { left = e.left; puts = e.puts }; pending = e.pending; closing = e.closing }

-- with no entry to count, no batch is to come
none_lined : (n i s : ℕ) (m : State) (order : List ℕ) → m.loose i ≡ [] → Lined n i s m order []
none_lined n i s m order e = record {
  ahead = order;
  behind = [];
  order_is = sym (append-nil order);
  shown = refl;
  entries = ap batches_in e;
  loose = λ x ne w. absurd (ne refl);
  from = λ ne. absurd (ne e);
}

none_aside : (batch_size n i s : ℕ) (m : State) (before : List ℕ) (target : After) (order : List ℕ) (w : Sets) → m.loose i ≡ [] → taken_in m.log ≡ before → Models n m order w
    → Base batch_size n i s m before target order w target []
none_aside batch_size n i s m before target order w e l h = record {
  working = record {
    so_far = [];
    passed = [];
    to_come = [];
    models = subst (λ (a : List Batch). Models n m order (with_closed w a)) (sym (append-nil w.closed)) h;
    comes = retiring_comes batch_size s target;
  };
  lined = none_lined n i s m order e;
  logged = ap (λ (a : List ℕ). a ++ []) l;
}

-- a block is to be retired
pub retire_begins : (batch_size n i s b : ℕ) (m : State) (order : List ℕ) (w : Sets) → AtRest i m → Models n m order w
    → Plainly batch_size n i s (Moves.begins_retire m i b) (taken_in m.log) (retired batch_size s b w)
retire_begins batch_size n i s b m order w r h =
    retires_plainly batch_size n i s (Moves.begins_retire m i b) (taken_in m.log) (retired batch_size s b w) (b ∷ []) (record { left = r.none_left.left; puts = r.none_left.puts })
    (grind (arith, r.pending))
    (record {
      order = order;
      sets = w;
      bound = suc (size w);
      base = none_aside batch_size n i s (Moves.begins_retire m i b) (taken_in m.log) (retired batch_size s b w) order w r.loose refl (models_alike n m (Moves.begins_retire m i b) order w h (alike_kept n m (Moves.begins_retire m i b) refl refl refl refl refl refl));
      enough = retired_bound w s b h.unused;
    })

-- the open batch is to be tried
pub flush_begins : (batch_size n i s : ℕ) (m : State) (order : List ℕ) (w : Sets) → AtRest i m → Models n m order w
    → Flushes batch_size n i s m (taken_in m.log) (flushed batch_size s w)
flush_begins batch_size n i s m order w r h = record {
  order = order;
  sets = w;
  base = none_aside batch_size n i s m (taken_in m.log) (flushed batch_size s w) order w r.loose refl h;
}

-- A slot's list is taken.

-- a closed batch that waits for the slot has its entry on the list
waits_listed : (n i s x : ℕ) (m : State) → Inv n m → Alone i m → m.loose i ≡ [] → m.stage x ≡ Closed → waits (m.debt x s) ≡ is_owing (m.debt x s)
waits_listed n i s x m inv alone none closed = at (m.debt x s) refl
  where
    no_loose : (j : ℕ) (b : Bool) → eqb j i ≡ b → m.loose j ≡ []
    no_loose j true e = ap m.loose (eqb-true j i e) ∙ none
    no_loose j false e = alone.no_loose j (eqb-false j i e)

    at : (d : Debt) → m.debt x s ≡ d → waits d ≡ is_owing d
    at Unscanned e = refl
    at Marked e = absurd (grind (arith, e, closed, inv.debts.marked x s, inv.batches.tally x))
    at Gone e = absurd (grind (arith, e, closed, inv.debts.marked x s, inv.batches.tally x))
    at Skipped e = refl
    at Owing e = refl
    at (Loose j) e = let a = no_loose j (eqb j i) refl in absurd (grind (arith, e, a, inv.debts.loosed x s j))
    at Counted e = refl

loosened_waits : (i : ℕ) (d : Debt) → waits d ≡ is_owing d → waits (Moves.loosened i d) ≡ is_owing d
loosened_waits i d e = grind (arith, e)

loosened_loose : (i : ℕ) (d : Debt) → waits d ≡ is_owing d → waits (Moves.loosened i d) ≡ true → Moves.loosened i d ≡ Loose i
loosened_loose i d e f = grind (arith, e, f)

loosened_here : (i s : ℕ) (d : ℕ → Debt) → Moves.loosened_at i s d s ≡ Moves.loosened i (d s)
loosened_here i s d = grind arith

-- all batches of the order are to come, and those that wait for the slot are those of its list
taken_lined : (n i s : ℕ) (m m2 : State) (order : List ℕ) (w : Sets) (es : List Entry) → Models n m order w → ((x : ℕ) → (count x order ≡ 0 → ⊥) → waits (m.debt x s) ≡ is_owing (m.debt x s))
    → m.head s ≡ Active es → m2.loose i ≡ es → m2.from i ≡ s → ((x : ℕ) → m2.debt x s ≡ Moves.loosened i (m.debt x s)) → map (batch_shown n m2.blocks m2.debt) order ≡ w.closed
    → Lined n i s m2 order w.closed
taken_lined n i s m m2 order w es h listed top l f d shown = record {
  ahead = [];
  behind = order;
  order_is = refl;
  shown = shown;
  entries = cc (
    ap batches_in l,
    ap batches_in (ap list_of top),
    h.lists s,
    filter_same (λ x. waits (m2.debt x s)) (λ x. is_owing (m.debt x s)) order (λ x ne. ap waits (d x) ∙ loosened_waits i (m.debt x s) (listed x ne)),
  );
  loose = λ x ne y. d x ∙ loosened_loose i (m.debt x s) (listed x ne) (rw (d x) at y);
  from = λ ne. f;
}

listed_all : (n i s : ℕ) (m : State) (order : List ℕ) (w : Sets) → Inv n m → Alone i m → AtRest i m → Models n m order w
    → (x : ℕ) → (count x order ≡ 0 → ⊥) → waits (m.debt x s) ≡ is_owing (m.debt x s)
listed_all n i s m order w inv alone r h x ne = waits_listed n i s x m inv alone r.loose (all_closed n i m order w inv alone r.closing h x ne)

-- the slot leaves
pub leave_begins : (batch_size n i s : ℕ) (es : List Entry) (m : State) (order : List ℕ) (w : Sets) → Inv n m → Alone i m → AtRest i m → m.head s ≡ Active es → Models n m order w
    → Plainly batch_size n i s (Moves.has_left m i s es) (taken_in m.log) (left batch_size s w)
leave_begins batch_size n i s es m order w inv alone r top h =
    let m2 = Moves.has_left m i s es in
    let v = with_active w (without s w.active) in
    let h2 = left_models n i s es m order w h in
    retires_plainly batch_size n i s m2 (taken_in m.log) (left batch_size s w) [] (record { left = r.none_left.left; puts = r.none_left.puts }) r.pending
    (record {
      order = order;
      sets = with_closed v [];
      bound = rounds (w.open_batch s) [] w.further;
      base = record {
        working = record { so_far = []; passed = []; to_come = w.closed; models = h2; comes = counted_begins batch_size s v };
        lined = taken_lined n i s m m2 order w es h (listed_all n i s m order w inv alone r h) top (grind arith) (grind arith) (λ x. loosened_here i s (m.debt x)) h2.closed;
        logged = refl;
      };
      enough = not_longer _;
    })

-- the slot leaves and enters in one
pub refresh_begins : (batch_size n i s : ℕ) (es : List Entry) (m : State) (order : List ℕ) (w : Sets) → Inv n m → Alone i m → AtRest i m → m.head s ≡ Active es → Models n m order w
    → Plainly batch_size n i s (Moves.refreshed m i s es) (taken_in m.log) (counted batch_size s w)
refresh_begins batch_size n i s es m order w inv alone r top h =
    let m2 = Moves.refreshed m i s es in
    let h2 = refreshed_models n i s es m order w top h in
    retires_plainly batch_size n i s m2 (taken_in m.log) (counted batch_size s w) [] (record { left = r.none_left.left; puts = r.none_left.puts }) r.pending
    (record {
      order = order;
      sets = with_closed w [];
      bound = rounds (w.open_batch s) [] w.further;
      base = record {
        working = record { so_far = []; passed = []; to_come = w.closed; models = h2; comes = counted_begins batch_size s w };
        lined = taken_lined n i s m m2 order w es h (listed_all n i s m order w inv alone r h) top (grind arith) (grind arith) (λ x. loosened_here i s (m.debt x)) h2.closed;
        logged = refl;
      };
      enough = not_longer _;
    })

-- Nothing is left to do: what the row has reclaimed is what the waiting sets say, in that order, and the state shows the sets after the change.
pub over_follows : (batch_size n i s : ℕ) (p : Part) (m : State) (before : List ℕ) (target : After) → Setting batch_size n i s p m → NoneLeft i m → m.pending i ≡ [] → m.closing i ≡ 0 → m.loose i ≡ []
    → Plainly batch_size n i s m before target → (taken_in m.log ≡ before ++ target.reclaimed) × ((order : List ℕ) × Models n m order target.sets)
over_follows batch_size n i s p m before target set none pending c loose h =
    let r = plainly_retires batch_size n i s m before target [] none pending h in
    let l = r.base.lined in
    let nobody : filter (λ x. waits (m.debt x s)) l.behind ≡ [] = cc (l.entries, ap batches_in loose) in
    let closed = all_closed n i m r.order _ set.inv set.alone c r.base.working.models in
    let wait = all_wait n s m l.behind set.inv set.counted (λ y ne. closed y (behind_in n i s y m r.order r.base.working.to_come l ne)) nobody in
    let done = all_done batch_size n s m r.order target r.sets r.base.working (subst (λ (a : List Batch). AllWait s a) l.shown wait) in
    (cc (append-nil (taken_in m.log), r.base.logged, done.0), (r.order, done.1))
