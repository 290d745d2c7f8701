-- What the rule says of the waiting sets that a state shows: no number stands twice, a closed batch waits for as many slots as its counter says, and a
-- row's entries are the next ones in the order that wait for its slot.
use Rattle.std.specs.Prelude.{◌==◌, filter, map}
use Rattle.std.proofs.Common.{◌≡◌, ℕ, zero, suc, ◌+◌, ◌<◌, ◌≤◌, Bool, true, false, cond, List, [], ◌∷◌, ◌++◌, length, refl, ap, arith, length-append, sym}
use Rattle.std.proofs.lemmas.Bool.{eqb-false}
use Rattle.seize.specs.WaitingSets.{Further, Sets, further_of, without}
use Rattle.seize_moves.specs.Waiting.Held.{same, count, weight_put, Once}
use Rattle.seize_moves.proofs.Waiting.Bound.{weight_count}
use Rattle.seize_moves.proofs.Moves.State.Ghost.{total, owes, is_marked, is_in, is_pending, Debt, Closed, State, Life, IsFree, IsOwned, IsLinked, IsUnlinked, IsDeferring, IsDeferred, IsPending, IsIn, IsDoomed, IsLeft}
use Rattle.seize_moves.proofs.Moves.State.Rule.{Inv}
use Rattle.seize_moves.proofs.Moves.Sets.Shown.{waits, waiting, Models}
use Rattle.seize_moves.proofs.Moves.Sets.Ascending.{ascending_without}

-- no number stands twice

abbrev pub is_put : Life → ℕ
is_put (IsDeferred t) = 1
is_put _ = 0

put_behind_one : (c t : ℕ) (further : List Further) → ((u : ℕ) → (u ≡ t → ⊥) → count c (further_of u further) ≡ 0) → weight_put (same c) further ≡ count c (further_of t further)
put_behind_one c t [] h = refl
put_behind_one c t (x ∷ further) h =
    at (x.behind == t) refl (put_behind_one c t further (λ u ne. less u (x.behind == u) (h u ne))) (λ ne. here (x.behind == x.behind) refl (h x.behind ne))
  where
    less : (u : ℕ) (b : Bool) → count c (map (λ (f : Further). f.number) (cond b (x ∷ filter (λ (f : Further). f.behind == u) further) (filter (λ (f : Further). f.behind == u) further))) ≡ 0
        → count c (further_of u further) ≡ 0
    less u true e = omega (arith, e)
    less u false e = e

    here : (b : Bool) → (x.behind == x.behind) ≡ b
        → count c (map (λ (f : Further). f.number) (cond b (x ∷ filter (λ (f : Further). f.behind == x.behind) further) (filter (λ (f : Further). f.behind == x.behind) further))) ≡ 0
        → same c x.number ≡ 0
    here true e k = omega (arith, k)
    here false e k = absurd (eqb-false x.behind x.behind e refl)

    at : (b : Bool) → (x.behind == t) ≡ b → weight_put (same c) further ≡ count c (further_of t further) → ((x.behind ≡ t → ⊥) → same c x.number ≡ 0)
        → same c x.number + weight_put (same c) further
        ≡ count c (map (λ (f : Further). f.number) (cond b (x ∷ filter (λ (f : Further). f.behind == t) further) (filter (λ (f : Further). f.behind == t) further)))
    at true e ih z = omega (arith, ih)
    at false e ih z = let k = z (eqb-false x.behind t e) in omega (arith, ih, k)

-- what is put behind another block stands there once
pub put_counted : (n c : ℕ) (m : State) (order : List ℕ) (w : Sets) → Inv n m → Models n m order w → weight_put (same c) w.further ≡ is_put (m.life c)
put_counted n c m order w inv h = at (m.life c) refl
  where
    behind : (u : ℕ) → count c (further_of u w.further) ≡ count c (m.deferred u)
    behind u = ap (count c) (h.put u)

    at : (l : Life) → m.life c ≡ l → weight_put (same c) w.further ≡ is_put l
    at (IsDeferred t) e =
        let a = put_behind_one c t w.further (λ u ne. let b = behind u in grind (arith, b, e, inv.places.all_deferred u c, ne)) in
        let b = behind t in grind (arith, a, b, e, inv.places.all_deferred t c)
    at IsFree e = let a = put_behind_one c 0 w.further (λ u ne. let b = behind u in grind (arith, b, e, inv.places.all_deferred u c)) in let b = behind 0 in grind (arith, a, b, e, inv.places.all_deferred 0 c)
    at (IsOwned i) e = let a = put_behind_one c 0 w.further (λ u ne. let b = behind u in grind (arith, b, e, inv.places.all_deferred u c)) in let b = behind 0 in grind (arith, a, b, e, inv.places.all_deferred 0 c)
    at IsLinked e = let a = put_behind_one c 0 w.further (λ u ne. let b = behind u in grind (arith, b, e, inv.places.all_deferred u c)) in let b = behind 0 in grind (arith, a, b, e, inv.places.all_deferred 0 c)
    at (IsUnlinked i) e = let a = put_behind_one c 0 w.further (λ u ne. let b = behind u in grind (arith, b, e, inv.places.all_deferred u c)) in let b = behind 0 in grind (arith, a, b, e, inv.places.all_deferred 0 c)
    at (IsDeferring i s t) e = let a = put_behind_one c 0 w.further (λ u ne. let b = behind u in grind (arith, b, e, inv.places.all_deferred u c)) in let b = behind 0 in grind (arith, a, b, e, inv.places.all_deferred 0 c)
    at (IsPending i) e = let a = put_behind_one c 0 w.further (λ u ne. let b = behind u in grind (arith, b, e, inv.places.all_deferred u c)) in let b = behind 0 in grind (arith, a, b, e, inv.places.all_deferred 0 c)
    at (IsIn x) e = let a = put_behind_one c 0 w.further (λ u ne. let b = behind u in grind (arith, b, e, inv.places.all_deferred u c)) in let b = behind 0 in grind (arith, a, b, e, inv.places.all_deferred 0 c)
    at (IsDoomed i) e = let a = put_behind_one c 0 w.further (λ u ne. let b = behind u in grind (arith, b, e, inv.places.all_deferred u c)) in let b = behind 0 in grind (arith, a, b, e, inv.places.all_deferred 0 c)
    at (IsLeft i) e = let a = put_behind_one c 0 w.further (λ u ne. let b = behind u in grind (arith, b, e, inv.places.all_deferred u c)) in let b = behind 0 in grind (arith, a, b, e, inv.places.all_deferred 0 c)

one_place : (x i : ℕ) (l : Life) → is_in x l + is_pending i l + is_put l ≤ 1
one_place x i l = grind arith

pub once_shown : (n i s : ℕ) (m : State) (order : List ℕ) (w : Sets) → s < n → Inv n m → Models n m order w → Once (w.open_batch s) (m.pending i) w.further
once_shown n i s m order w l inv h c =
    let a = put_counted n c m order w inv h in
    let b = weight_count c (m.pending i) in
    let d = weight_count c (w.open_batch s) in
    let e = ap (count c) (h.opened s l) in
    let g : count c (m.blocks (m.open_batch s)) ≡ is_in (m.open_batch s) (m.life c) = grind (arith, inv.batches.mine s l, inv.places.boxed (m.open_batch s) c) in
    let k = inv.places.to_retire i c in
    let o = one_place (m.open_batch s) i (m.life c) in
    omega (arith, a, b, d, e, g, k, o)

-- a closed batch waits for as many slots as its counter says

pub waiting_length : (d : ℕ → Debt) (n : ℕ) → length (waiting n d) ≡ total owes d n + total is_marked d n
waiting_length d zero = refl
waiting_length d (suc n) = at (d n) (waiting n d) (waiting_length d n)
  where
    at : (v : Debt) (l : List ℕ) → length l ≡ total owes d n + total is_marked d n
        → length (l ++ cond (waits v) (n ∷ []) []) ≡ (total owes d n + owes v) + (total is_marked d n + is_marked v)
    at v l e = let a = length-append l (cond (waits v) (n ∷ []) []) in grind (arith, a, e)

pub none_total : (f : Debt → ℕ) (d : ℕ → Debt) (n : ℕ) → ((t : ℕ) → f (d t) ≡ 0) → total f d n ≡ 0
none_total f d zero h = refl
none_total f d (suc n) h = let ih = none_total f d n h in omega (arith, ih, h n)

pub closed_length : (n x : ℕ) (m : State) → Inv n m → m.stage x ≡ Closed → length (waiting n (m.debt x)) ≡ m.counter x
closed_length n x m inv e =
    let a = waiting_length (m.debt x) n in
    let b = none_total is_marked (m.debt x) n (λ t. grind (arith, inv.debts.marked x t, inv.batches.tally x, e)) in
    grind (arith, a, b, inv.batches.tally x, e)

-- a batch that doesn't wait for the slot is passed as it is
pub not_waiting : (n s x : ℕ) (m : State) → waits (m.debt x s) ≡ false → without s (waiting n (m.debt x)) ≡ waiting n (m.debt x)
not_waiting n s x m e = sym (ascending_without (λ t. waits (m.debt x t)) (λ t. waits (m.debt x t)) n s e (λ t ne. refl))

-- the first batch of the order that passes a test
pub first_split : (p : ℕ → Bool) (order l : List ℕ) (x : ℕ) → filter p order ≡ x ∷ l
    → (newer : List ℕ) × (older : List ℕ) × (order ≡ newer ++ x ∷ older) × (filter p newer ≡ []) × (filter p older ≡ l)
first_split p [] l x e = absurd (cc e)
first_split p (y ∷ order) l x e = at (p y) refl (first_split p order l x) e
  where
    at : (b : Bool) → p y ≡ b
        → (filter p order ≡ x ∷ l → (newer : List ℕ) × (older : List ℕ) × (order ≡ newer ++ x ∷ older) × (filter p newer ≡ []) × (filter p older ≡ l))
        → cond b (y ∷ filter p order) (filter p order) ≡ x ∷ l
        → (newer : List ℕ) × (older : List ℕ) × (y ∷ order ≡ newer ++ x ∷ older) × (filter p newer ≡ []) × (filter p older ≡ l)
    at true f ih k = ([], order, cc k, refl, cc k)
    at false f ih k = let r = ih k in (y ∷ r.0, r.1, ap (λ (a : List ℕ). y ∷ a) r.2, grind (arith, f, r.3), r.4)
