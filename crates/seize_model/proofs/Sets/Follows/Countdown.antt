-- A row that runs alone counts its entries down: each one is of the next batch that waits for the slot, and those between wait for others.
use Rattle.std.specs.Prelude.{◌==◌, filter, map}
use Rattle.std.proofs.Common.{◌≡◌, ℕ, ◌+◌, ◌-◌, ◌%◌, ◌^◌, ◌<◌, ◌≤◌, Bool, true, false, cond, eqb, List, [], ◌∷◌, ◌++◌, length, refl, arith, ap, append_assoc, eqb-true, subst, sym, ◌∙◌}
use Rattle.std.proofs.lemmas.Bool.{eqb-false}
use Rattle.std.proofs.lemmas.List.{append-nil, append_cancel_right, map-append}
use Rattle.seize.specs.WaitingSets.{Batch, Sets, After, with_closed, quietly, without, further_of_all, is_done, size, given}
use Rattle.seize_rule.specs.Given.SeizeWaitingHeld.{count}
use Rattle.seize_rule.specs.Given.SeizeWaitingChanges.{kept}
use Rattle.seize_rule.proofs.Given.SeizeWaitingBound.{rounds}
use Rattle.seize_rule.proofs.Given.SeizeWaitingCounts.{count-append, map_same, filter_same}
use Rattle.seize_rule.proofs.Given.SeizeWaitingWork.{rest_given, given_begins}
use Rattle.seize_rule.proofs.Given.SeizeWaitingRetired.{given_bound}
use Rattle.seize_rule.proofs.Given.SeizeMovesState.Ghost.{put, Debt, Unscanned, Marked, Gone, Skipped, Owing, Loose, Counted, Stage, Unused, Open, Closing, Closed, Dead, Entry, Life, State, owes, is_in}
use Rattle.seize_rule.proofs.Given.SeizeMovesState.Rule.{Inv, Pending}
use Rattle.seize_rule.proofs.Given.SeizeMovesState.Sums.{total_zero}
use Rattle.seize_rule.proofs.Given.SeizeMovesMoves.Pushes.{counted_moves}
use Rattle.seize_rule.proofs.Given.SeizeMovesSets.Shown.{waits, is_owing, is_shut, waiting, batch_shown, batches_in, Models, shut_in}
use Rattle.seize_rule.proofs.Given.SeizeMovesSets.Ascending.{ascending_without}
use Rattle.seize_rule.proofs.Given.SeizeMovesSets.Tries.{batch}
use Rattle.seize_rule.proofs.Given.SeizeMovesSets.ListTaken.{counted_debt, counted_models, counted_shown, gives_up_models}
use Rattle.seize_rule.proofs.Given.SeizeMovesSets.Counters.{closed_length, not_waiting, first_split}
use Rattle.seize_rule.proofs.Given.SeizeMovesSets.Working.{AllWait}
use Rattle.seize_rule.proofs.Given.SeizeMovesSets.Countdown.{last_comes, other_comes}
use Rattle.seize_rule.proofs.Points.Told.{Part, NoneLeft}
use Rattle.seize_model.proofs.Sets.Follows.Work.{Lined, Base, Plainly, Alone, Setting}
use Rattle.seize_model.proofs.Sets.Follows.Kept.{rest_on, Retires, plainly_retires, retires_plainly}
use Rattle.seize_rule.proofs.Given.SeizeMovesState.Moves

-- where no batch is being closed, those of the order are closed
pub all_closed : (n i : ℕ) (m : State) (order : List ℕ) (w : Sets) → Inv n m → Alone i m → m.closing i ≡ 0 → Models n m order w
    → (x : ℕ) → (count x order ≡ 0 → ⊥) → m.stage x ≡ Closed
all_closed n i m order w inv alone c h x ne = at (m.stage x) refl (shut_in n m order w h x ne)
  where
    none : (j : ℕ) → m.stage x ≡ Closing j → (b : Bool) → eqb j i ≡ b → ⊥
    none j e true f = let a = inv.batches.shut j x e in let g = ap m.closing (eqb-true j i f) in omega (arith, a, g, c)
    none j e false f = let a = inv.batches.shut j x e in let g = alone.no_closing j (eqb-false j i f) in omega (arith, a, g)

    at : (g : Stage) → m.stage x ≡ g → is_shut g ≡ 1 → m.stage x ≡ Closed
    at Unused e f = absurd (cc f)
    at (Open s) e f = absurd (cc f)
    at (Closing j) e f = absurd (none j e (eqb j i) refl)
    at Closed e f = e
    at Dead e f = absurd (cc f)

not_none : (k : ℕ) → 0 < k → (k == 0) ≡ false
not_none k l = grind (arith, l)

-- a closed batch that doesn't wait for the slot waits for others
waits_on : (n s x : ℕ) (m : State) → Inv n m → Pending m.stage m.counter → m.stage x ≡ Closed → waits (m.debt x s) ≡ false
    → (is_done s (batch_shown n m.blocks m.debt x) ≡ false) × (without s (waiting n (m.debt x)) ≡ waiting n (m.debt x))
waits_on n s x m inv p e f =
    let a = not_waiting n s x m f in
    let b = closed_length n x m inv e in
    let c = ap (λ (l : List ℕ). length l) a in
    (not_none (length (without s (waiting n (m.debt x)))) (omega (arith, b, c, p x e)), a)

-- of batches that don't wait for the slot each goes on waiting
pub all_wait : (n s : ℕ) (m : State) (newer : List ℕ) → Inv n m → Pending m.stage m.counter → ((x : ℕ) → (count x newer ≡ 0 → ⊥) → m.stage x ≡ Closed)
    → filter (λ x. waits (m.debt x s)) newer ≡ [] → AllWait s (map (batch_shown n m.blocks m.debt) newer)
all_wait n s m [] inv p h e = tt
all_wait n s m (x ∷ newer) inv p h e = at (waits (m.debt x s)) refl e (all_wait n s m newer inv p (λ y ne. h y (λ k. ne (grind (arith, k)))))
  where
    at : (b : Bool) → waits (m.debt x s) ≡ b → cond b (x ∷ filter (λ y. waits (m.debt y s)) newer) (filter (λ y. waits (m.debt y s)) newer) ≡ []
        → (filter (λ y. waits (m.debt y s)) newer ≡ [] → AllWait s (map (batch_shown n m.blocks m.debt) newer))
        → AllWait s (batch_shown n m.blocks m.debt x ∷ map (batch_shown n m.blocks m.debt) newer)
    at true f k ih = absurd (cc k)
    at false f k ih = let a = waits_on n s x m inv p (h x (λ z. grind (arith, z))) f in (a.0, a.1, ih k)

-- an entry is counted: its batch waits for one slot less, and its counter says so
counted_length : (n i s : ℕ) (m : State) (e : Entry) (es : List Entry) → n < 2 ^ 64 → Inv n m → m.loose i ≡ e ∷ es → m.from i ≡ s → m.debt e.batch (m.from i) ≡ Loose i → m.stage e.batch ≡ Closed
    → length (without s (waiting n (m.debt e.batch))) ≡ (m.counter e.batch + (2 ^ 64 - 1)) % 2 ^ 64
counted_length n i s m e es small inv h f d closed =
    let x = e.batch in
    let m2 = Moves.counted m i e es in
    let a = closed_length n x m2 (counted_moves n i s m e es small inv h d).inv closed in
    let b = ascending_without (λ t. waits (m.debt x t)) (λ t. waits (m2.debt x t)) n s (grind (arith, f)) (λ t ne. grind (arith, ne, f)) in
    let c : m2.counter x ≡ (m.counter x + (2 ^ 64 - 1)) % 2 ^ 64 = grind arith in
    let g = ap (λ (l : List ℕ). length l) b in
    cc (a, c, g)

-- a closed batch at zero is on no list
nothing_owed : (n x t : ℕ) (m : State) → Inv n m → m.stage x ≡ Closed → m.counter x ≡ 0 → is_owing (m.debt x t) ≡ false
nothing_owed n x t m inv e z = at (m.debt x t) refl
  where
    at : (d : Debt) → m.debt x t ≡ d → is_owing d ≡ false
    at Unscanned k = refl
    at Marked k = refl
    at Gone k = refl
    at Skipped k = refl
    at Owing k = absurd (grind (arith, k, e, z, inv.batches.tally x, inv.debts.scanned x t, inv.debts.seen_le x, total_zero owes (m.debt x) n t))
    at (Loose i) k = refl
    at Counted k = refl

-- the entry that is counted next, and the batches about it
record Next (n i s : ℕ) (m : State) (order : List ℕ) (before to_come : List Batch) (e : Entry) (es : List Entry) : Type 0 where
  pub ahead : List ℕ
  pub newer : List ℕ
  pub older : List ℕ
  pub order_is : order ≡ (ahead ++ newer) ++ e.batch ∷ older
  pub to_come_is : to_come ≡ map (batch_shown n m.blocks m.debt) newer ++ batch_shown n m.blocks m.debt e.batch ∷ map (batch_shown n m.blocks m.debt) older
  pub ahead_shown : map (batch_shown n m.blocks m.debt) ahead ≡ before
  pub none_waits : filter (λ x. waits (m.debt x s)) newer ≡ []
  pub entries : batches_in es ≡ filter (λ x. waits (m.debt x s)) older
  pub loose : (x : ℕ) → (count x older ≡ 0 → ⊥) → waits (m.debt x s) ≡ true → m.debt x s ≡ Loose i
  pub none_newer : count e.batch (ahead ++ newer) ≡ 0
  pub none_older : count e.batch older ≡ 0

once_shut : (g : Stage) → is_shut g ≤ 1
once_shut g = grind arith

next_of : (n i s : ℕ) (m : State) (order : List ℕ) (sets : Sets) (before to_come : List Batch) (e : Entry) (es : List Entry) → Models n m order (with_closed sets (before ++ to_come))
    → Lined n i s m order to_come → m.loose i ≡ e ∷ es → Next n i s m order before to_come e es
next_of n i s m order sets before to_come e es h l k = record {
  ahead = l.ahead;
  newer = newer;
  older = older;
  order_is = cc (l.order_is, behind_is, append_assoc l.ahead newer (x ∷ older));
  to_come_is = cc (l.shown, ap (map shown) behind_is, map-append shown newer (x ∷ older));
  ahead_shown = append_cancel_right (map shown l.ahead) before to_come (cc (map-append shown l.ahead l.behind, ap (map shown) l.order_is, h.closed, l.shown));
  none_waits = split.3;
  entries = sym split.4;
  loose = λ y ne w. l.loose y (λ z. ne (let a = in_behind y in omega (arith, a, z))) w;
  none_newer = let a = once in omega (arith, a);
  none_older = let a = once in omega (arith, a);
}
  where
    x : ℕ
    x = e.batch

    shown : ℕ → Batch
    shown = batch_shown n m.blocks m.debt

    waits_now : ℕ → Bool
    waits_now y = waits (m.debt y s)

    split : (newer : List ℕ) × (older : List ℕ) × (l.behind ≡ newer ++ x ∷ older) × (filter waits_now newer ≡ []) × (filter waits_now older ≡ batches_in es)
    split = first_split waits_now l.behind (batches_in es) x (cc (ap batches_in k, l.entries))

    newer : List ℕ
    newer = split.0

    older : List ℕ
    older = split.1

    behind_is : l.behind ≡ newer ++ x ∷ older
    behind_is = split.2

    in_behind : (y : ℕ) → count y older ≤ count y l.behind
    in_behind y = let a = ap (count y) behind_is in let b = count-append y newer (x ∷ older) in omega (arith, a, b)

    once : (count x (l.ahead ++ newer) ≡ 0) × (count x older ≡ 0)
    once =
        let a = ap (count x) l.order_is in let b = ap (count x) behind_is in
        let c = count-append x l.ahead l.behind in let d = count-append x newer (x ∷ older) in let f = count-append x l.ahead newer in
        let g = h.ordered x in let o = once_shut (m.stage x) in grind (arith, a, b, c, d, f, g, o)

-- the debts of these batches stay
others_stay : (m : State) (e : Entry) (t : ℕ) (older : List ℕ) → count e.batch older ≡ 0 → (y : ℕ) → (count y older ≡ 0 → ⊥)
    → put m.debt e.batch (put (m.debt e.batch) t Counted) y ≡ m.debt y
others_stay m e t older z y ne = at (eqb y e.batch) refl
  where
    at : (b : Bool) → eqb y e.batch ≡ b → cond b (put (m.debt e.batch) t Counted) (m.debt y) ≡ m.debt y
    at true f = absurd (ne (let a = ap (λ (u : ℕ). count u older) (eqb-true y e.batch f) in omega (arith, a, z)))
    at false f = refl

-- the older batches are those to come
lined_after : (n i s : ℕ) (m m2 : State) (order order2 before : List ℕ) (batches to_come : List Batch) (e : Entry) (es : List Entry) (k : Next n i s m order batches to_come e es)
    → order2 ≡ before ++ k.older → m2.loose i ≡ es → m2.from i ≡ s → m2.blocks ≡ m.blocks → ((y : ℕ) → (count y k.older ≡ 0 → ⊥) → m2.debt y ≡ m.debt y)
    → Lined n i s m2 order2 (map (batch_shown n m.blocks m.debt) k.older)
lined_after n i s m m2 order order2 before batches to_come e es k o l f b d = record {
  ahead = before;
  behind = k.older;
  order_is = o;
  shown = map_same (batch_shown n m2.blocks m2.debt) (batch_shown n m.blocks m.debt) k.older (λ y ne. shown y (d y ne));
  entries = cc (ap batches_in l, k.entries, filter_same (λ y. waits (m2.debt y s)) (λ y. waits (m.debt y s)) k.older (λ y ne. ap (λ (g : ℕ → Debt). waits (g s)) (d y ne)));
  loose = λ y ne w. rw (d y ne) (k.loose y ne (rw (d y ne) at w));
  from = λ ne. f;
}
  where
    shown : (y : ℕ) → m2.debt y ≡ m.debt y → batch_shown n m2.blocks m2.debt y ≡ batch_shown n m.blocks m.debt y
    shown y g = let a = ap (waiting n) g in let c = ap (λ (u : ℕ → List ℕ). u y) b in cc

-- what stands aside, once the next batch is counted
counted_lists : (closed passed newer older top : List Batch) (c : Batch) → top ≡ closed ++ passed
    → (top ++ newer) ++ c ∷ older ≡ closed ++ (((passed ++ newer) ++ c ∷ []) ++ older)
counted_lists closed passed newer older top c e =
    cc (e, append_assoc closed passed newer, append_assoc closed (passed ++ newer) (c ∷ older), append_assoc (passed ++ newer) (c ∷ []) older)

given_lists : (closed passed newer older top : List Batch) → top ≡ closed ++ passed → (top ++ newer) ++ older ≡ closed ++ ((passed ++ newer) ++ older)
given_lists closed passed newer older top e = cc (e, append_assoc closed passed newer, append_assoc closed (passed ++ newer) older)

module _ (batch_size n i s : ℕ) (m : State) (before : List ℕ) (target : After) (order : List ℕ) (sets : Sets) (h : Base batch_size n i s m before target order sets (quietly sets) [])
    (e : Entry) (es : List Entry) (k : Next n i s m order (sets.closed ++ h.working.passed) h.working.to_come e es) (from : m.from i ≡ s) (debt : m.debt e.batch s ≡ Loose i) where
  abbrev shown : ℕ → Batch
  shown = batch_shown n m.blocks m.debt

  abbrev less : Batch
  less = batch (m.blocks e.batch) (without s (waiting n (m.debt e.batch)))

  -- what the next entry's batch shows once it is counted
  counted_now : Models n (Moves.counted m i e es) ((k.ahead ++ k.newer) ++ e.batch ∷ k.older)
      (with_closed sets (sets.closed ++ (((h.working.passed ++ map shown k.newer) ++ less ∷ []) ++ map shown k.older)))
  counted_now =
      let a = counted_models n i s e es m order _ from debt h.working.models in
      let b = subst (λ (o : List ℕ). Models n (Moves.counted m i e es) o (with_closed sets (map (batch_shown n m.blocks (counted_debt m e.batch s)) o))) k.order_is a in
      let c = counted_shown n e.batch s m (k.ahead ++ k.newer) k.older k.none_newer k.none_older in
      let d = map-append shown k.ahead k.newer in
      let f = counted_lists sets.closed h.working.passed (map shown k.newer) (map shown k.older) (map shown k.ahead) less k.ahead_shown in
      subst (λ (l : List Batch). Models n (Moves.counted m i e es) ((k.ahead ++ k.newer) ++ e.batch ∷ k.older) (with_closed sets l)) (cc (c, d, f)) b

  -- and once that batch is reclaimed
  given_now : m.stage e.batch ≡ Closed → ((t : ℕ) → is_owing ((Moves.counted m i e es).debt e.batch t) ≡ false)
      → Models n (Moves.gives_up (Moves.counted m i e es) i e.batch) ((k.ahead ++ k.newer) ++ k.older)
      (with_closed sets (sets.closed ++ ((h.working.passed ++ map shown k.newer) ++ map shown k.older)))
  given_now closed none =
      let m2 = Moves.counted m i e es in
      let a = gives_up_models n i e.batch m2 (k.ahead ++ k.newer) k.older _ closed none counted_now in
      let c = map_same (batch_shown n m2.blocks m2.debt) shown ((k.ahead ++ k.newer) ++ k.older) (λ y ne. same y (others_stay m e (m.from i) _ gone y ne)) in
      let d = map-append shown (k.ahead ++ k.newer) k.older in
      let g = map-append shown k.ahead k.newer in
      let f = given_lists sets.closed h.working.passed (map shown k.newer) (map shown k.older) (map shown k.ahead) k.ahead_shown in
      subst (λ (l : List Batch). Models n (Moves.gives_up m2 i e.batch) ((k.ahead ++ k.newer) ++ k.older) (with_closed sets l)) (cc (c, d, g, f)) a
    where
      gone : count e.batch ((k.ahead ++ k.newer) ++ k.older) ≡ 0
      gone = let a = count-append e.batch (k.ahead ++ k.newer) k.older in let b = k.none_newer in let c = k.none_older in omega (arith, a, b, c)

      same : (y : ℕ) → (Moves.counted m i e es).debt y ≡ m.debt y → batch_shown n m.blocks (Moves.counted m i e es).debt y ≡ shown y
      same y g = ap (λ (d : ℕ → Debt). batch (m.blocks y) (waiting n d)) g

  counts_base : AllWait s (map shown k.newer) → is_done s (shown e.batch) ≡ false → Base batch_size n i s (Moves.counted m i e es) before target order sets (quietly sets) []
  counts_base wait d = record {
    working = record {
      so_far = h.working.so_far;
      passed = (h.working.passed ++ map shown k.newer) ++ less ∷ [];
      to_come = map shown k.older;
      models = subst (λ (o : List ℕ). Models n (Moves.counted m i e es) o (with_closed sets (sets.closed ++ (((h.working.passed ++ map shown k.newer) ++ less ∷ []) ++ map shown k.older)))) (sym k.order_is) counted_now;
      comes = other_comes batch_size s target sets h.working.so_far h.working.passed h.working.to_come (map shown k.newer) (map shown k.older) (shown e.batch) h.working.comes k.to_come_is wait d;
    };
    lined = lined_after n i s m (Moves.counted m i e es) order order ((k.ahead ++ k.newer) ++ e.batch ∷ []) (sets.closed ++ h.working.passed) h.working.to_come e es k
        (cc (k.order_is, append_assoc (k.ahead ++ k.newer) (e.batch ∷ []) k.older)) (grind arith) from refl (others_stay m e (m.from i) k.older k.none_older);
    logged = h.logged;
  }

  gives_base : AllWait s (map shown k.newer) → is_done s (shown e.batch) ≡ true → m.stage e.batch ≡ Closed → ((t : ℕ) → is_owing ((Moves.counted m i e es).debt e.batch t) ≡ false)
      → Base batch_size n i s (Moves.gives_up (Moves.counted m i e es) i e.batch) before target ((k.ahead ++ k.newer) ++ k.older) sets (given batch_size s (m.blocks e.batch) sets) []
  gives_base wait d closed none = record {
    working = record {
      so_far = h.working.so_far;
      passed = h.working.passed ++ map shown k.newer;
      to_come = map shown k.older;
      models = given_now closed none;
      comes = last_comes batch_size s target sets h.working.so_far h.working.passed h.working.to_come (map shown k.newer) (map shown k.older) (shown e.batch) h.working.comes k.to_come_is wait d;
    };
    lined = lined_after n i s m (Moves.gives_up (Moves.counted m i e es) i e.batch) order ((k.ahead ++ k.newer) ++ k.older) (k.ahead ++ k.newer) (sets.closed ++ h.working.passed) h.working.to_come e es k
        refl (grind arith) from refl (others_stay m e (m.from i) k.older k.none_older);
    logged = h.logged;
  }

-- what a step that counts can rely on
record Counting (batch_size n i s : ℕ) (m : State) (before : List ℕ) (target : After) (e : Entry) (es : List Entry) : Type 0 where
  pub now : Retires batch_size n i s m before target []
  pub next : Next n i s m now.order (now.sets.closed ++ now.base.working.passed) now.base.working.to_come e es
  pub from : m.from i ≡ s
  pub debt : m.debt e.batch s ≡ Loose i
  pub closed : m.stage e.batch ≡ Closed
  pub wait : AllWait s (map (batch_shown n m.blocks m.debt) next.newer)
  pub length_is : length (without s (waiting n (m.debt e.batch))) ≡ (m.counter e.batch + (2 ^ 64 - 1)) % 2 ^ 64

counting : (batch_size n i s : ℕ) (p : Part) (m : State) (before : List ℕ) (target : After) → Setting batch_size n i s p m → (e : Entry) (es : List Entry) → m.loose i ≡ e ∷ es
    → m.debt e.batch (m.from i) ≡ Loose i → m.closing i ≡ 0 → Retires batch_size n i s m before target [] → Counting batch_size n i s m before target e es
counting batch_size n i s p m before target set e es l d c r = record {
  now = r;
  next = next;
  from = from;
  debt = subst (λ (t : ℕ). m.debt e.batch t ≡ Loose i) from d;
  closed = closed e.batch (λ z. omega (arith, z, here));
  wait = all_wait n s m next.newer set.inv set.counted (λ y ne. closed y (λ z. ne (let a = in_order y in omega (arith, a, z)))) next.none_waits;
  length_is = counted_length n i s m e es set.small set.inv l from d (closed e.batch (λ z. omega (arith, z, here)));
}
  where
    from : m.from i ≡ s
    from = r.base.lined.from (λ z. cc (l, z))

    next : Next n i s m r.order (r.sets.closed ++ r.base.working.passed) r.base.working.to_come e es
    next = next_of n i s m r.order r.sets (r.sets.closed ++ r.base.working.passed) r.base.working.to_come e es
        (subst (λ (a : List Batch). Models n m r.order (with_closed r.sets a)) (sym (append_assoc r.sets.closed r.base.working.passed r.base.working.to_come)) r.base.working.models)
        r.base.lined l

    closed : (x : ℕ) → (count x r.order ≡ 0 → ⊥) → m.stage x ≡ Closed
    closed = all_closed n i m r.order _ set.inv set.alone c r.base.working.models

    in_order : (y : ℕ) → count y next.newer ≤ count y r.order
    in_order y =
        let a = ap (count y) next.order_is in let b = count-append y (next.ahead ++ next.newer) (e.batch ∷ next.older) in let f = count-append y next.ahead next.newer in omega (arith, a, b, f)

    here : 0 < count e.batch r.order
    here = let a = ap (count e.batch) next.order_is in let b = count-append e.batch (next.ahead ++ next.newer) (e.batch ∷ next.older) in grind (arith, a, b)

pub counts_follows : (batch_size n i s : ℕ) (p : Part) (m : State) (before : List ℕ) (target : After) → Setting batch_size n i s p m → (e : Entry) (es : List Entry) → m.loose i ≡ e ∷ es
    → m.debt e.batch (m.from i) ≡ Loose i → 0 < (m.counter e.batch + (2 ^ 64 - 1)) % 2 ^ 64 → NoneLeft i m → m.pending i ≡ [] → m.closing i ≡ 0
    → Plainly batch_size n i s m before target → Plainly batch_size n i s (Moves.counted m i e es) before target
counts_follows batch_size n i s p m before target set e es l d more none pending c h =
    let k = counting batch_size n i s p m before target set e es l d c (plainly_retires batch_size n i s m before target [] none pending h) in
    let r = k.now in
    retires_plainly batch_size n i s (Moves.counted m i e es) before target [] (record { left = none.left; puts = none.puts }) pending
    (record {
      order = r.order;
      sets = r.sets;
      bound = r.bound;
      base = counts_base batch_size n i s m before target r.order r.sets r.base e es k.next k.from k.debt k.wait (not_none _ (rw (sym k.length_is) at more));
      enough = r.enough;
    })

-- a batch is reclaimed, with nothing else to do
given_rest : (batch_size s : ℕ) (left puts pending numbers : List ℕ) (sets : Sets) → left ≡ numbers → puts ≡ [] → pending ≡ []
    → given batch_size s numbers sets ≡ rest_given batch_size (size sets) s left puts pending sets
given_rest batch_size s left puts pending numbers sets e f g =
    subst (λ (l : List ℕ). given batch_size s numbers sets ≡ rest_given batch_size (size sets) s l puts pending sets) (sym e)
    (subst (λ (l : List ℕ). given batch_size s numbers sets ≡ rest_given batch_size (size sets) s numbers l pending sets) (sym f)
    (subst (λ (l : List ℕ). given batch_size s numbers sets ≡ rest_given batch_size (size sets) s numbers [] l sets) (sym g) (given_begins batch_size s numbers sets)))

given_enough : (s bound : ℕ) (left puts pending numbers : List ℕ) (sets : Sets) → left ≡ numbers → puts ≡ [] → pending ≡ []
    → rounds (sets.open_batch s) (further_of_all numbers sets.further) (kept numbers sets.further) ≤ bound
    → rounds (sets.open_batch s) ((puts ++ further_of_all left sets.further) ++ pending) (kept left sets.further) ≤ bound
given_enough s bound left puts pending numbers sets e f g h =
    subst (λ (l : List ℕ). rounds (sets.open_batch s) ((puts ++ further_of_all l sets.further) ++ pending) (kept l sets.further) ≤ bound) (sym e)
    (subst (λ (l : List ℕ). rounds (sets.open_batch s) ((l ++ further_of_all numbers sets.further) ++ pending) (kept numbers sets.further) ≤ bound) (sym f)
    (subst (λ (l : List ℕ). rounds (sets.open_batch s) (further_of_all numbers sets.further ++ l) (kept numbers sets.further) ≤ bound) (sym g)
    (subst (λ (l : List ℕ). rounds (sets.open_batch s) l (kept numbers sets.further) ≤ bound) (sym (append-nil (further_of_all numbers sets.further))) h)))

-- no block stands twice in a closed batch
boxed_once : (n x c : ℕ) (m : State) → Inv n m → m.stage x ≡ Closed → count c (m.blocks x) ≤ 1
boxed_once n x c m inv e = let a = at_most (m.life c) in grind (arith, a, e, inv.places.boxed x c)
  where
    at_most : (l : Life) → is_in x l ≤ 1
    at_most l = grind arith

pub counts_last_follows : (batch_size n i s : ℕ) (p : Part) (m : State) (before : List ℕ) (target : After) → Setting batch_size n i s p m → (e : Entry) (es : List Entry) → m.loose i ≡ e ∷ es
    → m.debt e.batch (m.from i) ≡ Loose i → (m.counter e.batch + (2 ^ 64 - 1)) % 2 ^ 64 ≡ 0 → NoneLeft i m → m.pending i ≡ [] → m.closing i ≡ 0
    → Plainly batch_size n i s m before target → Plainly batch_size n i s (Moves.gives_up (Moves.counted m i e es) i e.batch) before target
counts_last_follows batch_size n i s p m before target set e es l d zero none pending c h =
    let k = counting batch_size n i s p m before target set e es l d c (plainly_retires batch_size n i s m before target [] none pending h) in
    let r = k.now in
    let m2 = Moves.gives_up (Moves.counted m i e es) i e.batch in
    let left : m2.left i ≡ m.blocks e.batch = grind arith in
    let owed = λ (t : ℕ). nothing_owed n e.batch t (Moves.counted m i e es) (counted_moves n i s m e es set.small set.inv l d).inv k.closed (grind (arith, zero)) in
    record {
      order = (k.next.ahead ++ k.next.newer) ++ k.next.older;
      sets = r.sets;
      bound = size r.sets;
      base = rest_on batch_size n i s m2 before target ((k.next.ahead ++ k.next.newer) ++ k.next.older) r.sets _ _ []
          (given_rest batch_size s (m2.left i) (m2.puts i) (m2.pending i) (m.blocks e.batch) r.sets left none.puts pending)
          (gives_base batch_size n i s m before target r.order r.sets r.base e es k.next k.from k.debt k.wait (is_none _ (k.length_is ∙ zero)) k.closed owed);
      enough = given_enough s (size r.sets) (m2.left i) (m2.puts i) (m2.pending i) (m.blocks e.batch) r.sets left none.puts pending
          (given_bound r.sets s (m.blocks e.batch) r.base.working.models.unused (λ y. boxed_once n e.batch y m set.inv k.closed));
    }
  where
    is_none : (k : ℕ) → k ≡ 0 → (k == 0) ≡ true
    is_none k e = grind (arith, e)
