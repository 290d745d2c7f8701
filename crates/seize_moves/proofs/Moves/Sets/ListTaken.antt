-- What taking a list, counting it down and giving batches back do to the waiting sets.
use Rattle.std.specs.Prelude.{◌==◌, ◌||◌, filter, map}
use Rattle.std.proofs.Common.{◌≡◌, ℕ, Bool, true, false, cond, eqb, List, [], ◌∷◌, ◌++◌, refl, arith, ap}
use Rattle.std.proofs.lemmas.List.{map-append}
use Rattle.std.proofs.lemmas.List.Elements.{filter-append}
use Rattle.seize.specs.WaitingSets.{Sets, with_active, with_closed, without, further_of, giving}
use Rattle.seize_moves.specs.Waiting.Held.{count}
use Rattle.seize_moves.proofs.Waiting.Bound.{further_kept}
use Rattle.seize_moves.proofs.Waiting.Counts.{count-append, map_same, filter_same}
use Rattle.seize_moves.proofs.Moves.State.Ghost.{put, Debt, Loose, Counted, Closed, Entry, Head, Idle, Active, State, list_of, is_active}
use Rattle.seize_moves.proofs.Moves.Sets.Shown.{waits, is_owing, ascending_same, waiting, batch_shown, batches_in, listed_in, Models, Alike}
use Rattle.seize_moves.proofs.Moves.Sets.Ascending.{ascending_without}
use Rattle.seize_moves.proofs.Moves.Sets.Tries.{batch}
use Rattle.seize_moves.proofs.Moves.State.Moves

-- the slot's list is taken

abbrev pub taken_debt : State → ℕ → ℕ → ℕ → ℕ → Debt
taken_debt m i s x = Moves.loosened_at i s (m.debt x)

none_pass : (p : ℕ → Bool) (order : List ℕ) → ((x : ℕ) → p x ≡ false) → filter p order ≡ []
none_pass p [] h = refl
none_pass p (x ∷ order) h = at (p x) _ (h x) (none_pass p order h)
  where
    at : (b : Bool) (l : List ℕ) → b ≡ false → l ≡ [] → cond b (x ∷ l) l ≡ []
    at b l e f = cc

taken_shown : (n i s : ℕ) (m : State) (order : List ℕ) → map (batch_shown n m.blocks (taken_debt m i s)) order ≡ map (batch_shown n m.blocks m.debt) order
taken_shown n i s m order = map_same (batch_shown n m.blocks (taken_debt m i s)) (batch_shown n m.blocks m.debt) order (λ y ne. shown y)
  where
    one : (b : Bool) (d : Debt) → waits (cond b (Moves.loosened i d) d) ≡ waits d
    one b d = grind arith

    shown : (y : ℕ) → batch_shown n m.blocks (taken_debt m i s) y ≡ batch_shown n m.blocks m.debt y
    shown y = let a = ascending_same (λ u. waits (taken_debt m i s y u)) (λ u. waits (m.debt y u)) n (λ u l. one (eqb u s) (m.debt y u)) in cc

taken_lists : (n i s : ℕ) (m : State) (order : List ℕ) (top : Head) → list_of top ≡ []
    → ((t : ℕ) → batches_in (list_of (m.head t)) ≡ listed_in m.debt t order) → (t : ℕ)
    → batches_in (list_of (put m.head s top t)) ≡ listed_in (taken_debt m i s) t order
taken_lists n i s m order top e h t = at (eqb t s) refl
  where
    there : (b : Bool) (d : Debt) → b ≡ true → is_owing (cond b (Moves.loosened i d) d) ≡ false
    there b d e = grind (arith, e)

    beside : (b : Bool) (d : Debt) → b ≡ false → is_owing (cond b (Moves.loosened i d) d) ≡ is_owing d
    beside b d e = grind (arith, e)

    at : (b : Bool) → eqb t s ≡ b → batches_in (list_of (cond b top (m.head t))) ≡ listed_in (taken_debt m i s) t order
    at true f = let a = none_pass (λ x. is_owing (taken_debt m i s x t)) order (λ x. there (eqb t s) (m.debt x t) f) in cc (a, ap batches_in e)
    at false f = cc (h t, filter_same (λ x. is_owing (taken_debt m i s x t)) (λ x. is_owing (m.debt x t)) order (λ x ne. beside (eqb t s) (m.debt x t) f))

pub left_models : (n i s : ℕ) (es : List Entry) (m : State) (order : List ℕ) (w : Sets)
    → Models n m order w → Models n (Moves.has_left m i s es) order (with_active w (without s w.active))
left_models n i s es m order w h = record {
  opened = h.opened;
  closed = cc (taken_shown n i s m order, h.closed);
  ordered = h.ordered;
  lists = taken_lists n i s m order Idle refl h.lists;
  active = cc (ap (without s) h.active, ascending_without (λ t. is_active (m.head t)) (λ t. is_active (put m.head s Idle t)) n s (grind arith) (λ t ne. grind (arith, ne)));
  put = h.put;
  unused = h.unused;
}

pub refreshed_models : (n i s : ℕ) (es : List Entry) (m : State) (order : List ℕ) (w : Sets) → m.head s ≡ Active es
    → Models n m order w → Models n (Moves.refreshed m i s es) order w
refreshed_models n i s es m order w e h = record {
  opened = h.opened;
  closed = cc (taken_shown n i s m order, h.closed);
  ordered = h.ordered;
  lists = taken_lists n i s m order (Active []) refl h.lists;
  active = cc (h.active, ascending_same (λ t. is_active (put m.head s (Active []) t)) (λ t. is_active (m.head t)) n (λ t l. grind (arith, e)));
  put = h.put;
  unused = h.unused;
}

-- an entry is counted: its batch waits for one slot less

abbrev pub counted_debt : State → ℕ → ℕ → ℕ → ℕ → Debt
counted_debt m x s = put m.debt x (put (m.debt x) s Counted)

pub counted_models : (n i s : ℕ) (e : Entry) (es : List Entry) (m : State) (order : List ℕ) (w : Sets) → m.from i ≡ s → m.debt e.batch s ≡ Loose i
    → Models n m order w → Models n (Moves.counted m i e es) order (with_closed w (map (batch_shown n m.blocks (counted_debt m e.batch s)) order))
counted_models n i s e es m order w f d h = record {
  opened = h.opened;
  closed = ap (λ (t : ℕ). map (batch_shown n m.blocks (counted_debt m e.batch t)) order) f;
  ordered = h.ordered;
  lists = λ t. cc (h.lists t, filter_same (λ y. is_owing (put m.debt e.batch (put (m.debt e.batch) (m.from i) Counted) y t)) (λ y. is_owing (m.debt y t)) order (λ y ne. grind (arith, f, d)));
  active = h.active;
  put = h.put;
  unused = h.unused;
}

-- and all others what they waited for
pub counted_shown : (n x s : ℕ) (m : State) (newer older : List ℕ) → count x newer ≡ 0 → count x older ≡ 0
    → map (batch_shown n m.blocks (counted_debt m x s)) (newer ++ x ∷ older)
    ≡ map (batch_shown n m.blocks m.debt) newer ++ batch (m.blocks x) (without s (waiting n (m.debt x))) ∷ map (batch_shown n m.blocks m.debt) older
counted_shown n x s m newer older e f =
    let a = map-append (batch_shown n m.blocks (counted_debt m x s)) newer (x ∷ older) in
    let b = map_same (batch_shown n m.blocks (counted_debt m x s)) (batch_shown n m.blocks m.debt) newer (λ y ne. other y (λ k. ne (grind (arith, e, k)))) in
    let c = map_same (batch_shown n m.blocks (counted_debt m x s)) (batch_shown n m.blocks m.debt) older (λ y ne. other y (λ k. ne (grind (arith, f, k)))) in
    let d = here in cc
  where
    here : batch_shown n m.blocks (counted_debt m x s) x ≡ batch (m.blocks x) (without s (waiting n (m.debt x)))
    here =
        let a = ascending_without (λ t. waits (m.debt x t)) (λ t. waits (counted_debt m x s x t)) n s (grind arith) (λ t ne. grind (arith, ne)) in cc

    other : (y : ℕ) → (y ≡ x → ⊥) → batch_shown n m.blocks (counted_debt m x s) y ≡ batch_shown n m.blocks m.debt y
    other y ne = let a = ascending_same (λ t. waits (counted_debt m x s y t)) (λ t. waits (m.debt y t)) n (λ t l. grind (arith, ne)) in cc

-- a batch that waits for nobody is reclaimed
pub gives_up_models : (n i x : ℕ) (m : State) (newer older : List ℕ) (w : Sets) → m.stage x ≡ Closed → ((t : ℕ) → is_owing (m.debt x t) ≡ false)
    → Models n m (newer ++ x ∷ older) w → Models n (Moves.gives_up m i x) (newer ++ older) (with_closed w (map (batch_shown n m.blocks m.debt) (newer ++ older)))
gives_up_models n i x m newer older w e none h = record {
  opened = h.opened;
  closed = refl;
  ordered = λ y. grind (arith, e, h.ordered y, h.ordered x, count-append y newer (x ∷ older), count-append y newer older, count-append x newer (x ∷ older));
  lists = λ t. listed t (is_owing (m.debt x t)) (none t) (filter-append (λ y. is_owing (m.debt y t)) newer (x ∷ older)) (filter-append (λ y. is_owing (m.debt y t)) newer older) (h.lists t);
  active = h.active;
  put = h.put;
  unused = h.unused;
}
  where
    listed : (t : ℕ) (b : Bool) → b ≡ false
        → listed_in m.debt t (newer ++ x ∷ older) ≡ listed_in m.debt t newer ++ cond b (x ∷ listed_in m.debt t older) (listed_in m.debt t older)
        → listed_in m.debt t (newer ++ older) ≡ listed_in m.debt t newer ++ listed_in m.debt t older
        → batches_in (list_of (m.head t)) ≡ listed_in m.debt t (newer ++ x ∷ older) → batches_in (list_of (m.head t)) ≡ listed_in m.debt t (newer ++ older)
    listed t b f a c k = cc

-- what a block put is taken over
pub drained_models : (n i b : ℕ) (m : State) (order : List ℕ) (w : Sets) → Models n m order w → Models n (Moves.drained m i b) order (giving (b ∷ []) w).sets
drained_models n i b m order w h = record {
  opened = h.opened;
  closed = h.closed;
  ordered = h.ordered;
  lists = h.lists;
  active = h.active;
  put = λ t. cc (further_kept t (b ∷ []) w.further, beside t (t == b) refl (further_of t w.further) (h.put t));
  unused = h.unused;
}
  where
    beside : (t : ℕ) (y : Bool) → (t == b) ≡ y → (l : List ℕ) → l ≡ m.deferred t → cond (y || false) [] l ≡ put m.deferred b [] t
    beside t true e l f = grind (arith, e)
    beside t false e l f = grind (arith, e, f)

-- what is no matter of the sets

pub taken_alike : (n i b : ℕ) (bs : List ℕ) (m : State) → Alike n m (Moves.taken m i b bs)
taken_alike n i b bs m = record {
  opened = λ t l. refl;
  stages = λ y. refl;
  blocks = λ y k. refl;
  debts = λ y t k. (refl, refl);
  lists = λ t. refl;
  active = λ t l. refl;
  put = λ t. refl;
}

pub joined_alike : (n i : ℕ) (m : State) → Alike n m (Moves.joined m i)
joined_alike n i m = record {
  opened = λ t l. refl;
  stages = λ y. refl;
  blocks = λ y k. refl;
  debts = λ y t k. (refl, refl);
  lists = λ t. refl;
  active = λ t l. refl;
  put = λ t. refl;
}
