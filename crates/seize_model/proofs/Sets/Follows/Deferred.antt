-- A batch that a row reclaims, block by block, follows the waiting sets: what a block put is taken over, and is to be retired before the rest.
use Rattle.std.proofs.Common.{◌≡◌, ℕ, ◌≤◌, List, [], ◌∷◌, ◌++◌, refl, arith, ap, append_assoc, sym, subst, ◌∙◌}
use Rattle.std.proofs.lemmas.List.{append-nil}
use Rattle.seize.specs.Sequence.{taken_in}
use Rattle.seize.specs.WaitingSets.{Further, Sets, After, with_closed, giving, further_of, further_of_all}
use Rattle.seize_rule.specs.Given.SeizeWaitingHeld.{count, weight, weight_put}
use Rattle.seize_rule.specs.Given.SeizeWaitingChanges.{kept}
use Rattle.seize_rule.proofs.Given.SeizeWaitingBehind.{kept-append}
use Rattle.seize_rule.proofs.Given.SeizeWaitingBound.{one, rounds}
use Rattle.seize_rule.proofs.Given.SeizeWaitingWork.{rest_given, others_put, one_given, all_given}
use Rattle.seize_rule.proofs.Given.SeizeMovesState.Ghost.{State}
use Rattle.seize_rule.proofs.Given.SeizeMovesState.Rule.{Inv}
use Rattle.seize_rule.proofs.Given.SeizeMovesState.Moves
use Rattle.seize_rule.proofs.Given.SeizeMemoryWords.Apart.{put_here}
use Rattle.seize_rule.proofs.Given.SeizeMovesSets.Shown.{Models, Alike, models_alike}
use Rattle.seize_rule.proofs.Given.SeizeMovesSets.ListTaken.{drained_models, taken_alike, joined_alike}
use Rattle.seize_rule.proofs.Given.SeizeMovesSets.Working.{after_these}
use Rattle.seize_rule.proofs.Given.SeizeMovesSets.Countdown.{tail_of}
use Rattle.seize_rule.proofs.Points.Told.{Plain, Draining}
use Rattle.seize_model.proofs.Sets.Follows.Work.{Setting, Plainly, Drains, BehindKept, base_on, lined_on}

-- a block stands once in what is left of a batch
left_once : (n i b : ℕ) (bs : List ℕ) (m : State) → Inv n m → m.left i ≡ b ∷ bs → count b bs ≡ 0
left_once n i b bs m inv e = grind (arith, inv.places.to_take i b, e)

-- the lists of a row, after what a block put was taken over: what the rest comes to
drained_rest : (batch_size bound s b : ℕ) (bs left puts puts2 pending pending2 more : List ℕ) (w : Sets) → count b bs ≡ 0 → left ≡ b ∷ bs → further_of b w.further ≡ more → puts2 ≡ puts ++ more → pending2 ≡ pending
    → rest_given batch_size bound s left puts pending w ≡ after_these (b ∷ []) (rest_given batch_size bound s bs puts2 pending2 (giving (b ∷ []) w).sets)
drained_rest batch_size bound s b bs left puts puts2 pending pending2 more w once e f g h =
    let c : puts ++ further_of b w.further ≡ puts2 = cc (f, g) in
    let r : pending ≡ pending2 = cc h in
    ap (λ (l : List ℕ). rest_given batch_size bound s l puts pending w) e
    ∙ one_given batch_size bound s b bs puts pending w once
    ∙ ap (λ (l : List ℕ). after_these (b ∷ []) (rest_given batch_size bound s bs l pending (giving (b ∷ []) w).sets)) c
    ∙ ap (λ (l : List ℕ). after_these (b ∷ []) (rest_given batch_size bound s bs puts2 l (giving (b ∷ []) w).sets)) r

-- and the bound
drained_enough : (bound b : ℕ) (opened bs left puts puts2 pending pending2 more : List ℕ) (further : List Further) → count b bs ≡ 0 → left ≡ b ∷ bs → further_of b further ≡ more → puts2 ≡ puts ++ more → pending2 ≡ pending
    → rounds opened ((puts ++ further_of_all left further) ++ pending) (kept left further) ≤ bound
    → rounds opened ((puts2 ++ further_of_all bs (kept (b ∷ []) further)) ++ pending2) (kept bs (kept (b ∷ []) further)) ≤ bound
drained_enough bound b opened bs left puts puts2 pending pending2 more further once e f g h l =
    let o = others_put b bs further once in
    let a = append_assoc puts (further_of b further) (further_of_all bs further) in
    let k = ap (λ (r : List ℕ). kept r further) e in
    let q = ap (λ (r : List ℕ). further_of_all r further) e in
    let c : (puts2 ++ further_of_all bs (kept (b ∷ []) further)) ++ pending2 ≡ (puts ++ further_of_all left further) ++ pending = cc (o, a, q, f, g, h) in
    let d : kept bs (kept (b ∷ []) further) ≡ kept left further = cc (k, kept-append (b ∷ []) bs further) in
    let u = ap (weight one) c in
    let v = ap (weight_put one) d in
    omega (arith, u, v, l)

-- what a block put is the row's to retire: in m2 it is so
drains_to : (batch_size n i s : ℕ) (m m2 : State) (before : List ℕ) (target : After) (b : ℕ) (bs : List ℕ) → Inv n m → m.left i ≡ b ∷ bs
    → m2.left i ≡ m.left i → m2.puts i ≡ m.puts i ++ m.deferred b → m2.pending i ≡ m.pending i → m2.log ≡ m.log
    → ((order : List ℕ) (w : Sets) → Models n m order w → Models n m2 order (giving (b ∷ []) w).sets)
    → ((behind : List ℕ) → BehindKept n i s m m2 behind)
    → Plainly batch_size n i s m before target → Drains batch_size n i s m2 before target
drains_to batch_size n i s m m2 before target b bs inv e same puts pending log models behind h =
    let once = left_once n i b bs m inv e in
    let more = h.base.working.models.put b in record {
      b = b;
      bs = bs;
      order = h.order;
      sets = (giving (b ∷ []) h.sets).sets;
      bound = h.bound;
      left = cc (same, e);
      base = base_on batch_size n i s m m2 before target h.order h.order h.sets (giving (b ∷ []) h.sets).sets _ _ [] (b ∷ []) (b ∷ []) h.base
          (λ aside k. models h.order (with_closed h.sets (h.sets.closed ++ aside)) k)
          (drained_rest batch_size h.bound s b bs (m.left i) (m.puts i) (m2.puts i) (m.pending i) (m2.pending i) (m.deferred b) h.sets once e more puts pending)
          (cc (ap taken_in log, append-nil (taken_in m.log)))
          (λ to_come l. lined_on n i s m m2 h.order h.order to_come l l.ahead l.order_is (behind l.behind));
      enough = drained_enough h.bound b (h.sets.open_batch s) bs (m.left i) (m.puts i) (m2.puts i) (m.pending i) (m2.pending i) (m.deferred b) h.sets.further once e more puts pending h.enough;
    }

pub drains_follows : (batch_size n i s : ℕ) (m : State) (before : List ℕ) (target : After) → Setting batch_size n i s Plain m → (b : ℕ) (bs : List ℕ) → m.left i ≡ b ∷ bs
    → Plainly batch_size n i s m before target → Drains batch_size n i s (Moves.drained m i b) before target
drains_follows batch_size n i s m before target here b bs e h =
    drains_to batch_size n i s m (Moves.drained m i b) before target b bs here.inv e refl (put_here m.puts i (m.puts i ++ m.deferred b)) refl refl
    (λ order w k. drained_models n i b m order w k)
    (λ behind. record { same_loose = refl; same_from = refl; blocks = λ x ne. refl; debts = λ x ne. refl })
    h

-- it put nothing
undrained : (n i b : ℕ) (m : State) → m.deferred b ≡ [] → Alike n (Moves.drained m i b) m
undrained n i b m e = record {
  opened = λ t l. refl;
  stages = λ y. refl;
  blocks = λ y k. refl;
  debts = λ y t k. (refl, refl);
  lists = λ t. refl;
  active = λ t l. refl;
  put = λ t. grind (arith, e);
}

pub drains_none_follows : (batch_size n i s : ℕ) (m : State) (before : List ℕ) (target : After) → Setting batch_size n i s Plain m → (b : ℕ) (bs : List ℕ) → m.left i ≡ b ∷ bs → m.deferred b ≡ []
    → Plainly batch_size n i s m before target → Drains batch_size n i s m before target
drains_none_follows batch_size n i s m before target here b bs e none h =
    drains_to batch_size n i s m m before target b bs here.inv e refl (cc (none, append-nil (m.puts i))) refl refl
    (λ order w k. models_alike n (Moves.drained m i b) m order (giving (b ∷ []) w).sets (drained_models n i b m order w k) (undrained n i b m none))
    (λ behind. record { same_loose = refl; same_from = refl; blocks = λ x ne. refl; debts = λ x ne. refl })
    h

-- the block is reclaimed

head_is : (a b : ℕ) (l r : List ℕ) → (a ∷ l) ≡ (b ∷ r) → a ≡ b
head_is a b l r e = cc e

pub takes_follows : (batch_size n i s : ℕ) (m : State) (before : List ℕ) (target : After) → Setting batch_size n i s Draining m → (b : ℕ) (bs : List ℕ) → m.left i ≡ b ∷ bs → m.deferred b ≡ []
    → Drains batch_size n i s m before target → Plainly batch_size n i s (Moves.taken m i b bs) before target
takes_follows batch_size n i s m before target here b bs e none h =
    let lists : (h.b ∷ h.bs) ≡ (b ∷ bs) = cc (e, h.left) in
    let first = head_is h.b b h.bs bs lists in
    let left2 : h.bs ≡ (Moves.taken m i b bs).left i = cc (tail_of h.b b h.bs bs lists, put_here m.left i bs) in record {
      order = h.order;
      sets = h.sets;
      bound = h.bound;
      base = base_on batch_size n i s m (Moves.taken m i b bs) before target h.order h.order h.sets h.sets _ _ (h.b ∷ []) [] [] h.base
          (λ aside k. models_alike n m (Moves.taken m i b bs) h.order (with_closed h.sets (h.sets.closed ++ aside)) k (taken_alike n i b bs m))
          (ap (λ (l : List ℕ). rest_given batch_size h.bound s l (m.puts i) (m.pending i) h.sets) left2)
          (ap (λ (c : ℕ). (taken_in m.log ++ c ∷ []) ++ []) (cc first))
          (λ to_come l. lined_on n i s m (Moves.taken m i b bs) h.order h.order to_come l l.ahead l.order_is (record { same_loose = refl; same_from = refl; blocks = λ x ne. refl; debts = λ x ne. refl }));
      enough = still (h.sets.open_batch s) h.bs _ (m.puts i) (m.pending i) h.sets.further h.bound left2 h.enough;
    }
  where
    still : (opened l r puts pending : List ℕ) (further : List Further) (bound : ℕ) → l ≡ r → rounds opened ((puts ++ further_of_all l further) ++ pending) (kept l further) ≤ bound
        → rounds opened ((puts ++ further_of_all r further) ++ pending) (kept r further) ≤ bound
    still opened l r puts pending further bound k = subst (λ (q : List ℕ). rounds opened ((puts ++ further_of_all q further) ++ pending) (kept q further) ≤ bound) k

-- all blocks are reclaimed: what they put stands before the rest

joined_rest : (batch_size bound s : ℕ) (left puts puts2 pending pending2 : List ℕ) (w : Sets) → left ≡ [] → puts2 ≡ [] → pending2 ≡ puts ++ pending
    → rest_given batch_size bound s left puts pending w ≡ rest_given batch_size bound s left puts2 pending2 w
joined_rest batch_size bound s left puts puts2 pending pending2 w e f g =
    let a = ap (λ (l : List ℕ). rest_given batch_size bound s l puts pending w) e in
    let b = all_given batch_size bound s puts pending w in
    let c = all_given batch_size bound s [] (puts ++ pending) w in
    let d = ap (λ (l : List ℕ). rest_given batch_size bound s l puts2 pending2 w) e in
    let p = ap (λ (l : List ℕ). rest_given batch_size bound s [] l pending2 w) f in
    let q = ap (λ (l : List ℕ). rest_given batch_size bound s [] [] l w) g in
    a ∙ b ∙ sym c ∙ sym q ∙ sym p ∙ sym d

joined_enough : (bound : ℕ) (opened left puts puts2 pending pending2 : List ℕ) (further : List Further) → left ≡ [] → puts2 ≡ [] → pending2 ≡ puts ++ pending
    → rounds opened ((puts ++ further_of_all left further) ++ pending) (kept left further) ≤ bound
    → rounds opened ((puts2 ++ further_of_all left further) ++ pending2) (kept left further) ≤ bound
joined_enough bound opened left puts puts2 pending pending2 further e f g l =
    let a = append-nil puts in
    let q : further_of_all left further ≡ [] = ap (λ (r : List ℕ). further_of_all r further) e in
    let c : (puts2 ++ further_of_all left further) ++ pending2 ≡ (puts ++ further_of_all left further) ++ pending = cc (a, q, f, g) in
    let u = ap (weight one) c in
    omega (arith, u, l)

joins_on : (batch_size n i s : ℕ) (m : State) (before : List ℕ) (target : After) → m.left i ≡ []
    → Plainly batch_size n i s m before target → Plainly batch_size n i s (Moves.joined m i) before target
joins_on batch_size n i s m before target e h =
    let puts2 = put_here m.puts i [] in
    let pending2 = put_here m.pending i (m.puts i ++ m.pending i) in record {
      order = h.order;
      sets = h.sets;
      bound = h.bound;
      base = base_on batch_size n i s m (Moves.joined m i) before target h.order h.order h.sets h.sets _ _ [] [] [] h.base
          (λ aside k. models_alike n m (Moves.joined m i) h.order (with_closed h.sets (h.sets.closed ++ aside)) k (joined_alike n i m))
          (joined_rest batch_size h.bound s (m.left i) (m.puts i) _ (m.pending i) _ h.sets e puts2 pending2)
          (sym (append-nil (taken_in m.log ++ [])))
          (λ to_come l. lined_on n i s m (Moves.joined m i) h.order h.order to_come l l.ahead l.order_is (record { same_loose = refl; same_from = refl; blocks = λ x ne. refl; debts = λ x ne. refl }));
      enough = joined_enough h.bound (h.sets.open_batch s) (m.left i) (m.puts i) _ (m.pending i) _ h.sets.further e puts2 pending2 h.enough;
    }

pub joins_follows : (batch_size n i s : ℕ) (m : State) (before : List ℕ) (target : After) → Setting batch_size n i s Plain m → m.left i ≡ []
    → Plainly batch_size n i s m before target → Plainly batch_size n i s (Moves.joined m i) before target
joins_follows batch_size n i s m before target here e h = joins_on batch_size n i s m before target e h

pub takes_last_follows : (batch_size n i s : ℕ) (m : State) (before : List ℕ) (target : After) → Setting batch_size n i s Draining m → (b : ℕ) → m.left i ≡ b ∷ [] → m.deferred b ≡ []
    → Drains batch_size n i s m before target → Plainly batch_size n i s (Moves.joined (Moves.taken m i b []) i) before target
takes_last_follows batch_size n i s m before target here b e none h =
    joins_on batch_size n i s (Moves.taken m i b []) before target (put_here m.left i []) (takes_follows batch_size n i s m before target here b [] e none h)
