-- What each move of a row that runs alone does to the waiting sets.
use Rattle.std.specs.Prelude.{◌==◌, filter, map, max, if◌then◌else◌}
use Rattle.std.proofs.Common.{◌≡◌, ℕ, ◌+◌, ◌<◌, ◌≤◌, Bool, true, false, cond, eqb, List, [], ◌∷◌, ◌++◌, refl, arith, eqb-true, sym, not, ◌∙◌}
use Rattle.std.proofs.lemmas.Bool.{eqb-false}
use Rattle.seize.specs.WaitingSets.{Sets, Further, further_of, with_open, with_slot, ended}
use Rattle.seize_moves.proofs.Waiting.Counts.{map_same}
use Rattle.seize_moves.proofs.Moves.State.Ghost.{put, Open, Closing, Idle, Active, State, list_of, is_active}
use Rattle.seize_moves.proofs.Moves.State.Rule.{Inv}
use Rattle.seize_moves.proofs.Moves.Sets.Shown.{is_shut, batch_shown, batches_in, listed_in, Models, shut_in, Alike}
use Rattle.seize_moves.proofs.Moves.Sets.Ascending.{ascending_with}
use Rattle.seize_moves.proofs.Moves.State.Moves

-- a slot that wasn't active becomes active
pub enters_models : (n s : ℕ) (m : State) (order : List ℕ) (w : Sets) → s < n → m.head s ≡ Idle
    → Models n m order w → Models n (Moves.entered m s) order (record w { active = with_slot s w.active; slots = max w.slots (s + 1) })
enters_models n s m order w l e h = record {
  opened = h.opened;
  closed = h.closed;
  ordered = h.ordered;
  lists = λ t. at t (eqb t s) (eqb-true t s) (h.lists t);
  active = cc (h.active, ascending_with (λ t. is_active (m.head t)) (λ t. is_active (put m.head s (Active []) t)) n s l (grind (arith, e)) (grind arith) (λ t ne. grind (arith, ne)));
  put = h.put;
  unused = λ t k. h.unused t (omega (arith, k));
}
  where
    at : (t : ℕ) (b : Bool) → (b ≡ true → t ≡ s) → batches_in (list_of (m.head t)) ≡ listed_in m.debt t order
        → batches_in (list_of (cond b (Active []) (m.head t))) ≡ listed_in m.debt t order
    at t true r k = let c = r refl in cc
    at t false r k = k

-- a block is deferred
pub defers_models : (n i b t : ℕ) (m : State) (order : List ℕ) (w : Sets)
    → Models n m order w → Models n (Moves.deferred_to m i b t) order (record w { further = record { number = b; behind = t } ∷ w.further })
defers_models n i b t m order w h = record {
  opened = h.opened;
  closed = h.closed;
  ordered = h.ordered;
  lists = h.lists;
  active = h.active;
  put = λ u. at u (t == u) (eqb u t) refl refl (h.put u);
  unused = h.unused;
}
  where
    at : (u : ℕ) (y z : Bool) → (t == u) ≡ y → eqb u t ≡ z → further_of u w.further ≡ m.deferred u
        → map (λ (f : Further). f.number) (cond y (record { number = b; behind = t } ∷ filter (λ (f : Further). f.behind == u) w.further) (filter (λ (f : Further). f.behind == u) w.further))
        ≡ cond z (b ∷ m.deferred t) (m.deferred u)
    at u true true e f k = let r = eqb-true u t f in cc
    at u true false e f k = absurd (eqb-false u t f (sym (eqb-true t u e)))
    at u false true e f k = absurd (eqb-false t u e (sym (eqb-true u t f)))
    at u false false e f k = k

-- what a block was of has ended: nothing is deferred behind it any more
pub left_over_models : (n i b : ℕ) (m : State) (order : List ℕ) (w : Sets) → Models n m order w → Models n (Moves.left_over m i b) order (ended b w)
left_over_models n i b m order w h = record {
  opened = h.opened;
  closed = h.closed;
  ordered = h.ordered;
  lists = h.lists;
  active = h.active;
  put = λ u. at u (eqb u b) refl (h.put u);
  unused = h.unused;
}
  where
    none : (u : ℕ) → u ≡ b → (further : List Further) → further_of u (filter (λ (f : Further). not (f.behind == b)) further) ≡ []
    none u e [] = refl
    none u e (f ∷ further) = one (f.behind == b) (f.behind == u) refl refl (none u e further)
      where
        one : (y z : Bool) → (f.behind == b) ≡ y → (f.behind == u) ≡ z → further_of u (filter (λ (f : Further). not (f.behind == b)) further) ≡ []
            → further_of u (if not y then f ∷ filter (λ (f : Further). not (f.behind == b)) further else filter (λ (f : Further). not (f.behind == b)) further) ≡ []
        one true z p q k = k
        one false true p q k = absurd (eqb-false f.behind b p (eqb-true f.behind u q ∙ e))
        one false false p q k = cc (q, k)

    same : (u : ℕ) → (u ≡ b → ⊥) → (further : List Further) → further_of u (filter (λ (f : Further). not (f.behind == b)) further) ≡ further_of u further
    same u ne [] = refl
    same u ne (f ∷ further) = one (f.behind == b) (f.behind == u) refl refl (same u ne further)
      where
        one : (y z : Bool) → (f.behind == b) ≡ y → (f.behind == u) ≡ z → further_of u (filter (λ (f : Further). not (f.behind == b)) further) ≡ further_of u further
            → further_of u (if not y then f ∷ filter (λ (f : Further). not (f.behind == b)) further else filter (λ (f : Further). not (f.behind == b)) further)
            ≡ map (λ (f : Further). f.number) (if z then f ∷ filter (λ (f : Further). f.behind == u) further else filter (λ (f : Further). f.behind == u) further)
        one true true p q k = absurd (ne (sym (eqb-true f.behind u q) ∙ eqb-true f.behind b p))
        one true false p q k = k
        one false true p q k = cc (q, k)
        one false false p q k = cc (q, k)

    at : (u : ℕ) (y : Bool) → eqb u b ≡ y → further_of u w.further ≡ m.deferred u
        → further_of u (filter (λ (f : Further). not (f.behind == b)) w.further) ≡ cond y [] (m.deferred u)
    at u true e k = none u (eqb-true u b e) w.further
    at u false e k = same u (eqb-false u b e) w.further ∙ k

-- a block goes into the open batch
pub appended_models : (n i s b : ℕ) (bs : List ℕ) (m : State) (order : List ℕ) (w : Sets) → Inv n m → s < n
    → Models n m order w → Models n (Moves.appended m i b bs (m.open_batch s)) order (with_open w s (w.open_batch s ++ b ∷ []))
appended_models n i s b bs m order w inv l h = record {
  opened = λ t k. at t k (eqb t s) (eqb-true t s) refl;
  closed = cc (h.closed, map_same (batch_shown n (put m.blocks (m.open_batch s) (m.blocks (m.open_batch s) ++ b ∷ [])) m.debt) (batch_shown n m.blocks m.debt) order (λ x ne. other x (shut_in n m order w h x ne)));
  ordered = h.ordered;
  lists = h.lists;
  active = h.active;
  put = h.put;
  unused = λ t k. last t k (t == s) refl;
}
  where
    other : (x : ℕ) → is_shut (m.stage x) ≡ 1
        → batch_shown n (put m.blocks (m.open_batch s) (m.blocks (m.open_batch s) ++ b ∷ [])) m.debt x ≡ batch_shown n m.blocks m.debt x
    other x e = let a = inv.batches.mine s l in grind (arith, e, a)

    last : (t : ℕ) → max w.slots (s + 1) ≤ t → (y : Bool) → (t == s) ≡ y → cond y (w.open_batch s ++ b ∷ []) (w.open_batch t) ≡ []
    last t k true e = absurd (omega (arith, k, eqb-true t s e))
    last t k false e = h.unused t (omega (arith, k))

    at : (t : ℕ) → t < n → (y : Bool) → (y ≡ true → t ≡ s) → eqb t s ≡ y
        → put m.blocks (m.open_batch s) (m.blocks (m.open_batch s) ++ b ∷ []) (m.open_batch t) ≡ cond y (w.open_batch s ++ b ∷ []) (w.open_batch t)
    at t k true e f = let r = e refl in grind (arith, h.opened t k, r)
    at t k false e f = grind (arith, h.opened t k, inv.batches.mine t k, inv.batches.mine s l, eqb-false t s f)

-- a try is given up, or a slot is scanned
pub given_up_alike : (n s x : ℕ) (m : State) → m.stage x ≡ Open s → Alike n m (Moves.given_up m x)
given_up_alike n s x m e = record {
  opened = λ t l. refl;
  stages = λ y. refl;
  blocks = λ y k. refl;
  debts = λ y t k. grind (arith, e, k);
  lists = λ t. refl;
  active = λ t l. refl;
  put = λ t. refl;
}

pub skipped_alike : (n s x u : ℕ) (m : State) → m.stage x ≡ Open s → Alike n m (Moves.skipped m x u)
skipped_alike n s x u m e = record {
  opened = λ t l. refl;
  stages = λ y. refl;
  blocks = λ y k. refl;
  debts = λ y t k. grind (arith, e, k);
  lists = λ t. refl;
  active = λ t l. refl;
  put = λ t. refl;
}

pub marked_alike : (n s x u : ℕ) (m : State) → m.stage x ≡ Open s → Alike n m (Moves.marked m x u)
marked_alike n s x u m e = record {
  opened = λ t l. refl;
  stages = λ y. refl;
  blocks = λ y k. refl;
  debts = λ y t k. grind (arith, e, k);
  lists = λ t. refl;
  active = λ t l. refl;
  put = λ t. refl;
}

-- an entry is counted in: nothing else waits
pub summed_alike : (n i x : ℕ) (m : State) → m.stage x ≡ Closing i → Alike n m (Moves.summed n m i x)
summed_alike n i x m e = record {
  opened = λ t l. refl;
  stages = λ y. grind (arith, e);
  blocks = λ y k. refl;
  debts = λ y t k. (refl, refl);
  lists = λ t. refl;
  active = λ t l. refl;
  put = λ t. refl;
}
