-- The moves of reclamation: each keeps the rule, and leaves to the other rows what they know.
use Rattle.std.proofs.Common.{◌≡◌, ℕ, ◌<◌, ◌≤◌, Bool, true, false, cond, eqb, List, [], ◌∷◌, refl, arith, eqb-true, subst, sym}
use Rattle.std.proofs.lemmas.Bool.{eqb-false}
use Rattle.seize.specs.Law.{holds}
use Rattle.seize_moves.specs.Waiting.Held.{count}
use Rattle.seize_moves.proofs.Waiting.Counts.{count-append}
use Rattle.seize_moves.proofs.Moves.State.Ghost.{put, Debt, Stage, Closed, Dead, Life, IsFree, IsOwned, IsLinked, IsUnlinked, IsDeferring, IsDeferred, IsPending, IsIn, IsDoomed, IsLeft, State, owes, total, lies_with, is_in, is_doomed}
use Rattle.seize_moves.proofs.Moves.State.Rule.{SameUnlessDead, Boxed, ToTake, Waits, Inv, Moved, same_slot, slot_of, same_batch, batch_of}
use Rattle.seize_moves.proofs.Moves.State.Logs.{held_open}
use Rattle.seize_moves.proofs.Moves.State.Sums.{total_zero}
use Rattle.seize_moves.proofs.Moves.Moves.Tries.{same_box}
use Rattle.seize_moves.proofs.Moves.State.Moves.{doomed}
use Rattle.seize_moves.proofs.Moves.State.Moves
use Rattle.seize.proofs.Given.General.{at_most_itself as not_longer}

-- a closed batch at zero waits for no section
pub unguarded : (n : ℕ) (m : State) (x t c : ℕ)
    → Inv n m → m.stage x ≡ Closed → m.counter x ≡ 0 → m.life c ≡ IsIn x → holds t c m.log ≡ true → ⊥
unguarded n m x t c inv hs hz hc k =
    one (m.debt x t) refl (rw hc at (inv.logged.guarded t c k))
  where
    at_zero : (total owes (m.debt x) n ≡ 0) × (n ≤ m.seen x) × (m.todo x ≡ [])
    at_zero = grind (arith, inv.batches.tally x)

    inside : t < n
    inside = grind (arith, held_open t c m.log k, inv.logged.opens t, inv.slots.outside t)

    one : (d : Debt) → m.debt x t ≡ d → Waits (m.debt x t) → ⊥
    one d e w = grind (arith, inv.debts.scanned x t, inv.debts.marked x t, at_zero, inside, total_zero owes (m.debt x) n t)

doomed_boxed : (i : ℕ) (stage : ℕ → Stage) (blocks : ℕ → List ℕ) (life : ℕ → Life) (x : ℕ)
    → Boxed stage blocks life → Boxed (put stage x Dead) blocks (λ c. doomed i x (life c))
doomed_boxed i stage blocks life x h y c = at (eqb y x) (eqb-false y x)
  where
    same_in : (l : Life) → (y ≡ x → ⊥) → is_in y (doomed i x l) ≡ is_in y l
    same_in l ne = grind arith

    at : (b : Bool) → (b ≡ false → y ≡ x → ⊥) → SameUnlessDead (cond b Dead (stage y)) (count c (blocks y)) (is_in y (doomed i x (life c)))
    at true p = tt
    at false p = rw (same_in (life c) (p refl)) (h y c)

doomed_left : (i : ℕ) (left : ℕ → List ℕ) (life : ℕ → Life) (x : ℕ) (bs : List ℕ)
    → ToTake left life → left i ≡ [] → ((c : ℕ) → count c bs ≡ is_in x (life c)) → ToTake (put left i bs) (λ c. doomed i x (life c))
doomed_left i left life x bs h e k j c = at (eqb j i) (eqb-true j i) (eqb-false j i)
  where
    here : (l : Life) → is_doomed i l ≡ 0 → is_doomed i (doomed i x l) ≡ is_in x l
    here l z = grind arith

    there : (l : Life) → (j ≡ i → ⊥) → is_doomed j (doomed i x l) ≡ is_doomed j l
    there l ne = grind arith

    at : (b : Bool) → (b ≡ true → j ≡ i) → (b ≡ false → j ≡ i → ⊥) → count c (cond b bs (left j)) ≡ is_doomed j (doomed i x (life c))
    at true p q = subst (λ (a : ℕ). count c bs ≡ is_doomed a (doomed i x (life c))) (sym (p refl)) (cc (k c, here (life c) (grind (arith, h i c))))
    at false p q = cc (h j c, there (life c) (q refl))

-- row i reclaims a closed batch whose counter is zero
pub gives_up_moves : (n i s : ℕ) (m : State) (x : ℕ)
    → Inv n m → m.stage x ≡ Closed → m.counter x ≡ 0 → m.left i ≡ [] → Moved n i s m (Moves.gives_up m i x)
gives_up_moves n i s m x inv hs hz hl = record {
  inv = record {
    debts = inv.debts;
    batches = record {
      fresh = λ y e. grind (arith, inv.batches.fresh y);
      blank = λ y e. grind (arith, inv.batches.blank y);
      tally = λ y. grind (arith, inv.batches.tally y);
      mine = λ u l. grind (arith, inv.batches.mine u l);
      sole = λ u y e. grind (arith, inv.batches.sole u y);
      below = λ u y e. grind (arith, inv.batches.below u y);
      shut = λ j y e. grind (arith, inv.batches.shut j y);
      rested = inv.batches.rested;
    };
    places = record {
      boxed = doomed_boxed i m.stage m.blocks m.life x inv.places.boxed;
      to_take = doomed_left i m.left m.life x (m.blocks x) inv.places.to_take hl (λ c. same_box (m.stage x) _ _ (λ d. cc (hs, d)) (inv.places.boxed x c));
      to_retire = λ j c. grind (arith, inv.places.to_retire j c);
      all_deferred = λ t c. grind (arith, inv.places.all_deferred t c);
      housed = λ c y e. grind (arith, inv.places.housed c y, e);
      carries = λ c t e. grind (arith, inv.places.carries c t);
    };
    logged = record {
      guarded = λ u c e. grind (arith, inv.logged.guarded u c e, unguarded n m x u c inv hs hz, e);
      opens = inv.logged.opens;
      inside = inv.logged.inside;
      reaches = λ c. grind (arith, inv.logged.reaches c);
      given = λ c. grind (arith, inv.logged.given c);
      used = λ c. grind (arith, inv.logged.used c);
      on_way = λ c j u v e. grind (arith, inv.logged.on_way c j u v);
      sound = inv.logged.sound;
    };
    slots = inv.slots;
  };
  keeps = record {
    rows = λ j e. record { loose = refl; from = refl; left = grind arith; pending = refl; puts = refl; closing = refl; section = refl; defers = refl };
    slots = λ t e. same_slot (slot_of m t);
    holding = λ j t e f. (refl, refl);
    batches = λ j y e f. record { stage = grind arith; blocks = refl; seen = refl; todo = refl; done = refl };
    lives = λ j c e f. grind arith;
    lists = λ j c e f. refl;
    taken_slots = λ t e. e;
    marked = λ j x t ne closing d. (d, ([], refl));
    lengths = λ t l. not_longer _;
  };
}

-- the first that is still to be taken
pub first_doomed : (n i : ℕ) (m : State) (b : ℕ) (bs : List ℕ) → Inv n m → m.left i ≡ b ∷ bs → m.life b ≡ IsDoomed i
first_doomed n i m b bs inv h = grind (arith, inv.places.to_take i b)

-- what was deferred until b is in the hands of row i
pub drained_moves : (n i s : ℕ) (m : State) (b : ℕ) → Inv n m → m.life b ≡ IsDoomed i → Moved n i s m (Moves.drained m i b)
drained_moves n i s m b inv h = record {
  inv = record {
    debts = inv.debts;
    batches = inv.batches;
    places = record {
      boxed = λ y c. grind (arith, inv.places.boxed y c);
      to_take = λ j c. grind (arith, inv.places.to_take j c);
      to_retire = λ j c. grind (arith, inv.places.to_retire j c, inv.places.all_deferred b c, count-append c (m.puts i) (m.deferred b));
      all_deferred = λ t c. grind (arith, inv.places.all_deferred t c);
      housed = λ c y e. grind (arith, inv.places.housed c y, e);
      carries = λ c t e. grind (arith, inv.places.carries c t);
    };
    logged = record {
      guarded = λ u c e. grind (arith, inv.logged.guarded u c e);
      opens = inv.logged.opens;
      inside = inv.logged.inside;
      reaches = λ c. grind (arith, inv.logged.reaches c);
      given = λ c. grind (arith, inv.logged.given c);
      used = λ c. grind (arith, inv.logged.used c);
      on_way = λ c j u v e. grind (arith, inv.logged.on_way c j u v);
      sound = inv.logged.sound;
    };
    slots = inv.slots;
  };
  keeps = record {
    rows = λ j e. record { loose = refl; from = refl; left = refl; pending = refl; puts = grind arith; closing = refl; section = refl; defers = refl };
    slots = λ t e. same_slot (slot_of m t);
    holding = λ j t e f. (refl, refl);
    batches = λ j x e f. same_batch (batch_of n m x);
    lives = λ j c e f. grind arith;
    lists = λ j c e f. grind arith;
    taken_slots = λ t e. e;
    marked = λ j x t ne closing d. (d, ([], refl));
    lengths = λ t l. not_longer _;
  };
}

-- and is to be retired before the rest
pub joined_moves : (n i s : ℕ) (m : State) → Inv n m → Moved n i s m (Moves.joined m i)
joined_moves n i s m inv = record {
  inv = record {
    debts = inv.debts;
    batches = inv.batches;
    places = record {
      boxed = inv.places.boxed;
      to_take = inv.places.to_take;
      to_retire = λ j c. grind (arith, inv.places.to_retire j c, count-append c (m.puts i) (m.pending i));
      all_deferred = inv.places.all_deferred;
      housed = inv.places.housed;
      carries = inv.places.carries;
    };
    logged = inv.logged;
    slots = inv.slots;
  };
  keeps = record {
    rows = λ j e. record { loose = refl; from = refl; left = refl; pending = grind arith; puts = grind arith; closing = refl; section = refl; defers = refl };
    slots = λ t e. same_slot (slot_of m t);
    holding = λ j t e f. (refl, refl);
    batches = λ j x e f. same_batch (batch_of n m x);
    lives = λ j c e f. (refl, refl);
    lists = λ j c e f. refl;
    taken_slots = λ t e. e;
    marked = λ j x t ne closing d. (d, ([], refl));
    lengths = λ t l. not_longer _;
  };
}

-- no block lies with a block to be taken whose list is empty
unladen : (n i : ℕ) (m : State) (b c : ℕ) → Inv n m → m.life b ≡ IsDoomed i → m.deferred b ≡ [] → (y : Life) → m.life c ≡ y → lies_with b y ≡ true → ⊥
unladen n i m b c inv h hd (IsDeferring j s t) e l = grind (arith, inv.logged.on_way c j s t e, inv.logged.guarded s b)
unladen n i m b c inv h hd (IsDeferred t) e l = grind (arith, inv.places.all_deferred b c)
unladen n i m b c inv h hd IsFree e l = cc l
unladen n i m b c inv h hd (IsOwned j) e l = cc l
unladen n i m b c inv h hd IsLinked e l = cc l
unladen n i m b c inv h hd (IsUnlinked j) e l = cc l
unladen n i m b c inv h hd (IsPending j) e l = cc l
unladen n i m b c inv h hd (IsIn x) e l = cc l
unladen n i m b c inv h hd (IsDoomed j) e l = cc l
unladen n i m b c inv h hd (IsLeft j) e l = cc l

-- row i takes b, for which nothing is deferred any more
pub taken_moves : (n i s : ℕ) (m : State) (b : ℕ) (bs : List ℕ)
    → Inv n m → m.left i ≡ b ∷ bs → m.life b ≡ IsDoomed i → m.deferred b ≡ [] → Moved n i s m (Moves.taken m i b bs)
taken_moves n i s m b bs inv hl h hd = record {
  inv = record {
    debts = inv.debts;
    batches = inv.batches;
    places = record {
      boxed = λ y c. grind (arith, inv.places.boxed y c);
      to_take = λ j c. grind (arith, inv.places.to_take j c);
      to_retire = λ j c. grind (arith, inv.places.to_retire j c);
      all_deferred = λ t c. grind (arith, inv.places.all_deferred t c);
      housed = λ c y e. grind (arith, inv.places.housed c y, e);
      carries = λ c t e. grind (arith, inv.places.carries c t, unladen n i m b c inv h hd _ refl);
    };
    logged = record {
      guarded = λ u c e. grind (arith, inv.logged.guarded u c e);
      opens = inv.logged.opens;
      inside = inv.logged.inside;
      reaches = λ c. grind (arith, inv.logged.reaches c);
      given = λ c. grind (arith, inv.logged.given c);
      used = λ c. grind (arith, inv.logged.used c);
      on_way = λ c j u v e. grind (arith, inv.logged.on_way c j u v);
      sound = (grind (arith, inv.logged.given b), grind (arith, inv.logged.reaches b), λ t. grind (arith, inv.logged.guarded t b), inv.logged.sound);
    };
    slots = inv.slots;
  };
  keeps = record {
    rows = λ j e. record { loose = refl; from = refl; left = grind arith; pending = refl; puts = refl; closing = refl; section = refl; defers = refl };
    slots = λ t e. same_slot (slot_of m t);
    holding = λ j t e f. (refl, refl);
    batches = λ j x e f. same_batch (batch_of n m x);
    lives = λ j c e f. grind arith;
    lists = λ j c e f. refl;
    taken_slots = λ t e. e;
    marked = λ j x t ne closing d. (d, ([], refl));
    lengths = λ t l. not_longer _;
  };
}
