-- The entries of a closed batch that are put, and the number of them that is added to its counter, follow the waiting sets.
use Rattle.std.specs.Prelude.{◌==◌, not}
use Rattle.std.proofs.Common.{◌≡◌, ℕ, zero, suc, ◌+◌, ◌%◌, ◌^◌, ◌<◌, ◌≤◌, Bool, true, false, cond, eqb, List, [], ◌∷◌, ◌++◌, length, refl, arith, ap, sym, subst, eqb-true, ◌∙◌, inl, inr}
use Rattle.std.proofs.lemmas.List.{append-nil}
use Rattle.seize.specs.Sequence.{taken_in}
use Rattle.seize.specs.WaitingSets.{Batch, Further, Sets, After, with_open, with_closed, closing, further_of_all, retired_all}
use Rattle.seize_rule.specs.Given.SeizeWaitingHeld.{count, weight, weight_put}
use Rattle.seize_rule.specs.Given.SeizeWaitingChanges.{kept}
use Rattle.seize_rule.proofs.Given.SeizeWaitingBehind.{kept_nil}
use Rattle.seize_rule.proofs.Given.SeizeWaitingBound.{one, rounds, set_opened}
use Rattle.seize_rule.proofs.Given.SeizeWaitingWork.{rest_given, all_given}
use Rattle.seize_rule.proofs.Given.SeizeMovesState.Ghost.{put, Debt, Unscanned, Marked, Gone, Skipped, Owing, Loose, Counted, Closing, Closed, Entry, Head, Active, State, counts, was_put, is_marked, total, is_active}
use Rattle.seize_rule.proofs.Given.SeizeMovesState.Rule.{Inv, HasLeft}
use Rattle.seize_rule.proofs.Given.SeizeMovesSets.Scan.{NoneGone, put_stay}
use Rattle.seize_rule.proofs.Given.SeizeMovesState.Moves
use Rattle.seize_rule.proofs.Given.SeizeMemoryWords.Apart.{put_here}
use Rattle.seize_rule.proofs.Given.SeizeMovesState.Sums.{total_zero, put_parts, put_le, total_same}
use Rattle.seize_rule.proofs.Given.SeizeMovesSets.Shown.{waits, is_owing, waiting, ascending_same, Models, models_alike}
use Rattle.seize_rule.proofs.Given.SeizeMovesSets.Moved.{summed_alike}
use Rattle.seize_rule.proofs.Given.SeizeMovesSets.Tries.{pushed_models}
use Rattle.seize_rule.proofs.Given.SeizeMovesSets.ListTaken.{gives_up_models}
use Rattle.seize_rule.proofs.Given.SeizeMovesSets.Counters.{waiting_length, none_total}
use Rattle.seize_rule.proofs.Given.SeizeMovesSets.Countdown.{tail_of}
use Rattle.seize_rule.proofs.Points.Told.{Pushing}
use Rattle.seize_model.proofs.Sets.Follows.Work.{Setting, Plainly, Puts, AllActive, BehindKept, base_kept, base_on, lined_on}

-- a row closes one batch
same_batch : (n i y z : ℕ) (m : State) → Inv n m → m.stage y ≡ Closing i → m.stage z ≡ Closing i → y ≡ z
same_batch n i y z m inv e f = grind (arith, inv.batches.shut i y e, inv.batches.shut i z f)

-- an entry is put

-- the slot is marked, and has not left since
first_marked : (n y t : ℕ) (rest : List ℕ) (m : State) → Inv n m → NoneGone y m → m.todo y ≡ t ∷ rest → m.debt y t ≡ Marked
first_marked n y t rest m inv stay e = at (m.debt y t) refl (inv.debts.marked y t)
  where
    at : (d : Debt) → m.debt y t ≡ d → count t (m.todo y) ≡ is_marked d → d ≡ Marked
    at Unscanned is k = absurd (grind (arith, k, e))
    at Marked is k = refl
    at Gone is k = absurd (stay t is)
    at Skipped is k = absurd (grind (arith, k, e))
    at Owing is k = absurd (grind (arith, k, e))
    at (Loose j) is k = absurd (grind (arith, k, e))
    at Counted is k = absurd (grind (arith, k, e))

active_still : (head : ℕ → Head) (t : ℕ) (es : List Entry) (ts : List ℕ) → AllActive head ts → AllActive (put head t (Active es)) ts
active_still head t es [] h = tt
active_still head t es (u ∷ ts) h = (at (eqb u t) h.0, active_still head t es ts h.1)
  where
    at : (b : Bool) → is_active (head u) ≡ true → is_active (cond b (Active es) (head u)) ≡ true
    at true k = refl
    at false k = k

active_rest : (head : ℕ → Head) (l ts : List ℕ) (t : ℕ) → l ≡ t ∷ ts → AllActive head l → AllActive head ts
active_rest head l ts t e h = (subst (λ (q : List ℕ). AllActive head q) e h).1

-- the debts of the batch, then
abbrev put_debts : (ℕ → Debt) → ℕ → ℕ → Debt
put_debts d t = put d t Owing

put_uncounted : (d : ℕ → Debt) (t n : ℕ) → d t ≡ Marked → total counts (put_debts d t) n ≡ total counts d n
put_uncounted d t n e = total_same counts d (put_debts d t) n (λ u. grind (arith, e))

put_waiting : (d : ℕ → Debt) (t n : ℕ) → d t ≡ Marked → waiting n (put_debts d t) ≡ waiting n d
put_waiting d t n e = ascending_same (λ u. waits (put_debts d t u)) (λ u. waits (d u)) n (λ u l. grind (arith, e))

put_not_loose : (d : ℕ → Debt) (t : ℕ) → ((u j : ℕ) → d u ≡ Loose j → ⊥) → (u j : ℕ) → put_debts d t u ≡ Loose j → ⊥
put_not_loose d t h u j = at (eqb u t) (h u j)
  where
    at : (b : Bool) → (d u ≡ Loose j → ⊥) → cond b Owing (d u) ≡ Loose j → ⊥
    at true k e = absurd (cc e)
    at false k e = k e

-- batches behind are others
behind_others : (n i s y t c : ℕ) (es : List Entry) (rest : List ℕ) (m : State) (behind : List ℕ) → count y behind ≡ 0 → BehindKept n i s m (Moves.pushed m y t c es rest) behind
behind_others n i s y t c es rest m behind e = record {
  same_loose = refl;
  same_from = refl;
  blocks = λ x ne. refl;
  debts = λ x ne. other x (eqb x y) (eqb-true x y) ne;
}
  where
    other : (x : ℕ) (b : Bool) → (b ≡ true → x ≡ y) → (count x behind ≡ 0 → ⊥) → cond b (put (m.debt y) t Owing) (m.debt x) ≡ m.debt x
    other x true r ne = absurd (ne (cc (ap (λ (q : ℕ). count q behind) (r refl), e)))
    other x false r ne = refl

pushes_here : (batch_size n i s : ℕ) (m : State) (before : List ℕ) (target : After) → Inv n m → (t d : ℕ) (es : List Entry) (rest : List ℕ) → (h : Puts batch_size n i s m before target)
    → m.todo h.y ≡ t ∷ rest → m.head t ≡ Active es → Puts batch_size n i s (Moves.pushed m h.y t d es rest) before target
pushes_here batch_size n i s m before target inv t d es rest h todo head =
    let m2 = Moves.pushed m h.y t d es rest in
    let marked = first_marked n h.y t rest m inv h.stay todo in
    let debt2 : m2.debt h.y ≡ put_debts (m.debt h.y) t = put_here m.debt h.y (put (m.debt h.y) t Owing) in
    let b = base_kept batch_size n i s m m2 before target (h.y ∷ h.order) (h.y ∷ h.order) (closing s h.sets) (closing s h.sets) _ _ [] [] [] h.base
    (λ aside k. pushed_models n i h.y t d es rest m h.order (with_closed (closing s h.sets) ((closing s h.sets).closed ++ aside)) h.stage marked head k)
    refl (sym (append-nil (taken_in m.log ++ []))) h.base.lined.ahead h.base.lined.order_is (behind_others n i s h.y t d es rest m h.base.lined.behind h.newest) in record {
      y = h.y;
      order = h.order;
      sets = h.sets;
      bound = h.bound;
      bound_back = h.bound_back;
      some = h.some;
      base = b.0;
      bounds = h.bounds;
      none_left = record { left = h.none_left.left; puts = h.none_left.puts };
      stage = h.stage;
      blocks = h.blocks;
      counter = h.counter;
      uncounted = ap (λ (e : ℕ → Debt). total counts e n) debt2 ∙ put_uncounted (m.debt h.y) t n marked ∙ h.uncounted;
      not_loose = λ u j e. put_not_loose (m.debt h.y) t h.not_loose u j (sym (ap (λ (g : ℕ → Debt). g u) debt2) ∙ e);
      active = subst (λ (l : List ℕ). AllActive m2.head l) (sym (put_here m.todo h.y rest)) (active_still m.head t (record { block = d; batch = h.y } ∷ es) rest (active_rest m.head (m.todo h.y) rest t todo h.active));
      stay = put_stay m.debt h.y t Owing h.stay (λ e. cc e);
      waits_for = ap (λ (e : ℕ → Debt). not (length (waiting n e) == 0)) debt2 ∙ ap (λ (l : List ℕ). not (length l == 0)) (put_waiting (m.debt h.y) t n marked) ∙ h.waits_for;
      newest = ap (count h.y) b.1 ∙ h.newest;
    }

pub pushes_follows : (batch_size n i s : ℕ) (m : State) (before : List ℕ) (target : After) → Setting batch_size n i s Pushing m → (y t d : ℕ) (es : List Entry) (rest : List ℕ)
    → m.stage y ≡ Closing i → m.todo y ≡ t ∷ rest → m.head t ≡ Active es
    → Puts batch_size n i s m before target → Puts batch_size n i s (Moves.pushed m y t d es rest) before target
pushes_follows batch_size n i s m before target here y t d es rest stage todo head h =
    let e = same_batch n i h.y y m here.inv h.stage stage in
    subst (λ (x : ℕ). Puts batch_size n i s (Moves.pushed m x t d es rest) before target) e
    (pushes_here batch_size n i s m before target here.inv t d es rest h (ap m.todo e ∙ todo) head)

-- a slot that was marked stays active, so no entry is missed
pub misses_follows : (batch_size n i s : ℕ) (m : State) (before : List ℕ) (target : After) → Setting batch_size n i s Pushing m → (y t : ℕ) (rest : List ℕ)
    → m.stage y ≡ Closing i → m.todo y ≡ t ∷ rest → HasLeft m y t
    → Puts batch_size n i s m before target → Puts batch_size n i s (Moves.missed m y t rest) before target
misses_follows batch_size n i s m before target here y t rest stage todo left h =
    absurd (elim left as (λ _. ⊥) [
      | inl idle ↦ cc ((subst (λ (q : List ℕ). AllActive m.head q) (ap m.todo same ∙ todo) h.active).0, idle)
      | inr gone ↦ h.stay t (ap (λ (x : ℕ). m.debt x t) same ∙ gone)
    ])
  where
    same : h.y ≡ y
    same = same_batch n i h.y y m here.inv h.stage stage

-- the number of entries is added

some_put : (c k : ℕ) → c ≡ 0 → 0 < (c + k) % 2 ^ 64 → 0 < k
some_put c k e h = omega (arith, e, h)

none_put : (c k n : ℕ) → n < 2 ^ 64 → k ≤ n → c ≡ 0 → (c + k) % 2 ^ 64 ≡ 0 → k ≡ 0
none_put c k n small l e h = omega (arith, small, l, e, h)

-- none is marked any more, and none counted yet
all_put : (n y : ℕ) (m : State) → Inv n m → m.todo y ≡ [] → total counts (m.debt y) n ≡ 0 → length (waiting n (m.debt y)) ≡ total was_put (m.debt y) n
all_put n y m inv e z =
    let a = waiting_length (m.debt y) n in
    let b = none_total is_marked (m.debt y) n (λ t. sym (inv.debts.marked y t) ∙ ap (count t) e) in
    let c = put_parts (m.debt y) n in
    omega (arith, a, b, c, z)

some_wait : (k : ℕ) (some : Bool) → not (k == 0) ≡ some → 0 < k → some ≡ true
some_wait zero some e l = absurd (omega (arith, l))
some_wait (suc k) some e l = grind (arith, e)

none_wait : (k : ℕ) (some : Bool) → not (k == 0) ≡ some → k ≡ 0 → some ≡ false
none_wait zero some e l = sym e
none_wait (suc k) some e l = absurd (omega (arith, l))

not_given : (batch_size bound s : ℕ) (left puts pending : List ℕ) (w : Sets) → left ≡ [] → puts ≡ [] → retired_all batch_size bound s pending w ≡ rest_given batch_size bound s left puts pending w
not_given batch_size bound s left puts pending w e f =
    sym (all_given batch_size bound s [] pending w)
    ∙ ap (λ (l : List ℕ). rest_given batch_size bound s l [] pending w) (sym e)
    ∙ ap (λ (l : List ℕ). rest_given batch_size bound s left l pending w) (sym f)

closed_enough : (bound : ℕ) (opened opened2 left puts pending : List ℕ) (further : List Further) → opened2 ≡ [] → left ≡ [] → puts ≡ []
    → rounds opened pending further ≤ bound → rounds opened2 ((puts ++ further_of_all left further) ++ pending) (kept left further) ≤ bound
closed_enough bound opened opened2 left puts pending further e f g l =
    let a = ap (weight one) e in
    let q : further_of_all left further ≡ [] = ap (λ (r : List ℕ). further_of_all r further) f in
    let c : (puts ++ further_of_all left further) ++ pending ≡ pending = cc (q, g) in
    let d : kept left further ≡ further = ap (λ (r : List ℕ). kept r further) f ∙ kept_nil further in
    let u = ap (weight one) c in
    let v = ap (weight_put one) d in
    omega (arith, a, u, v, l)

sums_here : (batch_size n i s : ℕ) (m : State) (before : List ℕ) (target : After) → Inv n m → (h : Puts batch_size n i s m before target)
    → m.todo h.y ≡ [] → 0 < (m.counter h.y + total was_put (m.debt h.y) n) % 2 ^ 64 → Plainly batch_size n i s (Moves.summed n m i h.y) before target
sums_here batch_size n i s m before target inv h todo more =
    let m2 = Moves.summed n m i h.y in
    let w = closing s h.sets in
    let length_is = all_put n h.y m inv todo h.uncounted in
    let put_some = some_put (m.counter h.y) (total was_put (m.debt h.y) n) h.counter more in
    let some_is = some_wait (length (waiting n (m.debt h.y))) h.some h.waits_for (subst (λ (k : ℕ). 0 < k) (sym length_is) put_some) in
    let back = rest_given batch_size h.bound_back s (h.sets.open_batch s) [] (m.pending i) (with_open h.sets s []) in record {
      order = h.y ∷ h.order;
      sets = w;
      bound = h.bound;
      base = base_on batch_size n i s m m2 before target (h.y ∷ h.order) (h.y ∷ h.order) w w _ _ [] [] [] h.base
          (λ aside k. models_alike n m m2 (h.y ∷ h.order) (with_closed w (w.closed ++ aside)) k (summed_alike n i h.y m h.stage))
          (ap (λ (b : Bool). cond b (retired_all batch_size h.bound s (m.pending i) w) back) some_is ∙ not_given batch_size h.bound s (m.left i) (m.puts i) (m.pending i) w h.none_left.left h.none_left.puts)
          (sym (append-nil (taken_in m.log ++ [])))
          (λ to_come l. lined_on n i s m m2 (h.y ∷ h.order) (h.y ∷ h.order) to_come l l.ahead l.order_is (record { same_loose = refl; same_from = refl; blocks = λ x ne. refl; debts = λ x ne. refl }));
      enough = closed_enough h.bound (h.sets.open_batch s) (w.open_batch s) (m.left i) (m.puts i) (m.pending i) h.sets.further (set_opened h.sets s []) h.none_left.left h.none_left.puts h.bounds.enough;
    }

pub sums_follows : (batch_size n i s : ℕ) (m : State) (before : List ℕ) (target : After) → Setting batch_size n i s Pushing m → (y : ℕ)
    → m.stage y ≡ Closing i → m.todo y ≡ [] → 0 < (m.counter y + total was_put (m.debt y) n) % 2 ^ 64
    → Puts batch_size n i s m before target → Plainly batch_size n i s (Moves.summed n m i y) before target
sums_follows batch_size n i s m before target here y stage todo more h =
    let e = same_batch n i h.y y m here.inv h.stage stage in
    subst (λ (x : ℕ). Plainly batch_size n i s (Moves.summed n m i x) before target) e
    (sums_here batch_size n i s m before target here.inv h (ap m.todo e ∙ todo) (subst (λ (x : ℕ). 0 < (m.counter x + total was_put (m.debt x) n) % 2 ^ 64) (sym e) more))

-- nothing was put: the batch is reclaimed

none_owes : (n y t : ℕ) (m : State) → Inv n m → total was_put (m.debt y) n ≡ 0 → is_owing (m.debt y t) ≡ false
none_owes n y t m inv z = at (m.debt y t) refl
  where
    at : (d : Debt) → m.debt y t ≡ d → is_owing d ≡ false
    at Unscanned k = refl
    at Marked k = refl
    at Gone k = refl
    at Skipped k = refl
    at Owing k = absurd (grind (arith, k, z, inv.debts.scanned y t, inv.debts.seen_le y, total_zero was_put (m.debt y) n t))
    at (Loose j) k = refl
    at Counted k = refl

last_models : (n i y : ℕ) (m : State) (order : List ℕ) (w : Sets) (b : Batch) (batches : List Batch) → m.stage y ≡ Closing i → ((t : ℕ) → is_owing (m.debt y t) ≡ false) → w.closed ≡ b ∷ batches
    → Models n m (y ∷ order) w → Models n (Moves.gives_up (Moves.summed n m i y) i y) order (with_closed w batches)
last_models n i y m order w b batches e none is h =
    let a = models_alike n m (Moves.summed n m i y) (y ∷ order) w h (summed_alike n i y m e) in
    let c = gives_up_models n i y (Moves.summed n m i y) [] order w (put_here m.stage y Closed) none a in
    subst (λ (l : List Batch). Models n (Moves.gives_up (Moves.summed n m i y) i y) order (with_closed w l)) (tail_of _ _ _ _ (a.closed ∙ is)) c

-- the batch is none of those to come
without_first : (y : ℕ) (order ahead behind : List ℕ) → y ∷ order ≡ ahead ++ behind → count y behind ≡ 0 → (ahead2 : List ℕ) × (order ≡ ahead2 ++ behind)
without_first y order [] behind e z = absurd (first y order (subst (λ (l : List ℕ). count y l ≡ 0) (sym e) z))
  where
    first : (y : ℕ) (l : List ℕ) → count y (y ∷ l) ≡ 0 → ⊥
    first y l h = grind (arith, h)
without_first y order (x ∷ ahead) behind e z = (ahead, tail_of y x order (ahead ++ behind) e)

back_enough : (bound : ℕ) (opened opened2 left puts pending : List ℕ) (further : List Further) → opened2 ≡ [] → opened ≡ left → [] ≡ puts
    → rounds [] (further_of_all opened further ++ pending) (kept opened further) ≤ bound → rounds opened2 ((puts ++ further_of_all left further) ++ pending) (kept left further) ≤ bound
back_enough bound opened opened2 left puts pending further e f g l =
    let a = ap (weight one) e in
    let q = ap (λ (r : List ℕ). further_of_all r further) f in
    let c : (puts ++ further_of_all left further) ++ pending ≡ further_of_all opened further ++ pending = cc (q, g) in
    let d = ap (λ (r : List ℕ). kept r further) f in
    let u = ap (weight one) c in
    let v = ap (weight_put one) d in
    omega (arith, a, u, v, l)

sums_last_here : (batch_size n i s : ℕ) (m : State) (before : List ℕ) (target : After) → n < 2 ^ 64 → Inv n m → (h : Puts batch_size n i s m before target)
    → m.todo h.y ≡ [] → (m.counter h.y + total was_put (m.debt h.y) n) % 2 ^ 64 ≡ 0 → Plainly batch_size n i s (Moves.gives_up (Moves.summed n m i h.y) i h.y) before target
sums_last_here batch_size n i s m before target small inv h todo last =
    let m2 = Moves.gives_up (Moves.summed n m i h.y) i h.y in
    let w = closing s h.sets in
    let v = with_open h.sets s [] in
    let length_is = all_put n h.y m inv todo h.uncounted in
    let put_none = none_put (m.counter h.y) (total was_put (m.debt h.y) n) n small (put_le (m.debt h.y) n) h.counter last in
    let some_is = none_wait (length (waiting n (m.debt h.y))) h.some h.waits_for (length_is ∙ put_none) in
    let left2 : h.sets.open_batch s ≡ m2.left i = sym (put_here m.left i (m.blocks h.y) ∙ h.blocks) in
    let rest = without_first h.y h.order h.base.lined.ahead h.base.lined.behind h.base.lined.order_is h.newest in
    let closed = retired_all batch_size h.bound s (m.pending i) w in
    let back = rest_given batch_size h.bound_back s (h.sets.open_batch s) [] (m.pending i) v in
    let b = base_kept batch_size n i s m m2 before target (h.y ∷ h.order) h.order w v (cond h.some closed back) (rest_given batch_size h.bound_back s (m2.left i) (m.puts i) (m.pending i) v) [] [] [] h.base
    (λ aside k. last_models n i h.y m h.order (with_closed w (w.closed ++ aside)) _ (h.sets.closed ++ aside) h.stage (λ t. none_owes n h.y t m inv put_none) refl k)
    (ap (λ (b : Bool). cond b closed back) some_is
    ∙ ap (λ (l : List ℕ). rest_given batch_size h.bound_back s l [] (m.pending i) v) left2
    ∙ ap (λ (l : List ℕ). rest_given batch_size h.bound_back s (m2.left i) l (m.pending i) v) (sym h.none_left.puts))
    (sym (append-nil (taken_in m.log ++ []))) rest.0 rest.1 (record { same_loose = refl; same_from = refl; blocks = λ x ne. refl; debts = λ x ne. refl }) in record {
      order = h.order;
      sets = v;
      bound = h.bound_back;
      base = b.0;
      enough = back_enough h.bound_back (h.sets.open_batch s) (v.open_batch s) (m2.left i) (m.puts i) (m.pending i) h.sets.further (set_opened h.sets s []) left2 (sym h.none_left.puts) h.bounds.back;
    }

pub sums_last_follows : (batch_size n i s : ℕ) (m : State) (before : List ℕ) (target : After) → Setting batch_size n i s Pushing m → (y : ℕ)
    → m.stage y ≡ Closing i → m.todo y ≡ [] → (m.counter y + total was_put (m.debt y) n) % 2 ^ 64 ≡ 0
    → Puts batch_size n i s m before target → Plainly batch_size n i s (Moves.gives_up (Moves.summed n m i y) i y) before target
sums_last_follows batch_size n i s m before target here y stage todo last h =
    let e = same_batch n i h.y y m here.inv h.stage stage in
    subst (λ (x : ℕ). Plainly batch_size n i s (Moves.gives_up (Moves.summed n m i x) i x) before target) e
    (sums_last_here batch_size n i s m before target here.small here.inv h (ap m.todo e ∙ todo) (subst (λ (x : ℕ). (m.counter x + total was_put (m.debt x) n) % 2 ^ 64 ≡ 0) (sym e) last))
