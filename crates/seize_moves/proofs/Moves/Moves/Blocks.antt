-- The moves of blocks before they are retired: each keeps the rule, and leaves to the other rows what they know.
use Rattle.std.proofs.Common.{◌≡◌, ℕ, ◌+◌, Bool, true, false, cond, eqb, List, ◌∷◌, ◌⊎◌, refl, arith, subst, eqb-true, []}
use Rattle.std.proofs.lemmas.Bool.{eq-eqb}
use Rattle.seize.specs.Law.{Effect, Deferred, Dropped, holds, is_over}
use Rattle.seize_moves.proofs.Moves.State.Ghost.{put, Life, IsFree, IsOwned, IsLinked, IsUnlinked, IsDeferring, IsDeferred, IsPending, IsIn, IsDoomed, IsLeft, State, of_dropper, lies_with, can_carry}
use Rattle.seize_moves.proofs.Moves.State.Rule.{Carries, IsGuarded, OnWay, Inv, Moved, same_row, row_of, same_slot, slot_of, same_batch, batch_of}
use Rattle.seize_moves.proofs.Moves.State.Sums.{put_one}
use Rattle.seize_moves.proofs.Moves.State.Moves
use Rattle.seize.proofs.Given.General.{at_most_itself as not_longer}

-- no section holds what is not there
not_held : (n : ℕ) (m : State) (b : ℕ) → Inv n m → m.life b ≡ IsFree → (t : ℕ) → holds t b m.log ≡ false
not_held n m b inv h t = by (holds t b m.log) refl
  where
    by : (q : Bool) → holds t b m.log ≡ q → q ≡ false
    by true e = absurd (subst (λ (l : Life). IsGuarded l m.debt t) h (inv.logged.guarded t b e))
    by false e = refl

pub made_moves : (n i s : ℕ) (m : State) (b : ℕ) (k : Bool) → Inv n m → m.life b ≡ IsFree → Moved n i s m (Moves.made m i b k)
made_moves n i s m b k inv h = record {
  inv = record {
    debts = inv.debts;
    batches = inv.batches;
    places = record {
      boxed = λ x c. grind (arith, inv.places.boxed x c);
      to_take = λ j c. grind (arith, inv.places.to_take j c);
      to_retire = λ j c. grind (arith, inv.places.to_retire j c);
      all_deferred = λ t c. grind (arith, inv.places.all_deferred t c);
      housed = λ c x e. grind (arith, inv.places.housed c x);
      carries = λ c t e. grind (arith, inv.places.carries c t);
    };
    logged = record {
      guarded = λ t c e. grind (arith, inv.logged.guarded t c e);
      opens = inv.logged.opens;
      inside = inv.logged.inside;
      reaches = λ c. grind (arith, inv.logged.reaches c, inv.places.carries c b);
      given = λ c. grind (arith, inv.logged.given c);
      used = λ c. grind (arith, inv.logged.used c);
      on_way = λ c j u t e. grind (arith, inv.logged.on_way c j u t);
      sound = (λ t. not_held n m b inv h t, inv.logged.sound);
    };
    slots = inv.slots;
  };
  keeps = record {
    rows = λ j e. same_row (row_of m j);
    slots = λ t e. same_slot (slot_of m t);
    holding = λ j t e f. (refl, refl);
    batches = λ j x e f. same_batch (batch_of n m x);
    lives = λ j c e f. grind arith;
    lists = λ j c e f. refl;
    taken_slots = λ t e. e;
    marked = λ j x t ne closing d. (d, ([], refl));
    lengths = λ t l. not_longer _;
  };
}

-- nothing is on its way to a block that is taken away
dropped_way : (log : List Effect) (life : ℕ → Life) (section defers : ℕ → ℕ) (carrier : ℕ → Bool) (i b : ℕ) → OnWay log life section defers → Carries carrier life → of_dropper i (life b) ≡ true
    → OnWay (Dropped b ∷ log) (put life b IsFree) section defers
dropped_way log life section defers carrier i b w k h c j u t e = at (eqb c b) (eqb t b) (eqb-true t b) e
  where
    never : (l : Life) → of_dropper i l ≡ true → can_carry l ≡ true → ⊥
    never l p q = grind (arith, p, q)

    not_that : life c ≡ IsDeferring j u t → t ≡ b → ⊥
    not_that e same = never (life b) h (subst (λ (x : ℕ). can_carry (life x) ≡ true) same (k c t (rw e (eq-eqb t t refl))).2)

    at : (p q : Bool) → (q ≡ true → t ≡ b) → cond p IsFree (life c) ≡ IsDeferring j u t → (section j ≡ u + 1) × (defers j ≡ c + 1) × (cond q false (holds u t log) ≡ true)
    at true q same e = absurd (cc e)
    at false true same e = absurd (not_that e (same refl))
    at false false same e = w c j u t e

-- a block that was never linked, or is left over, is taken away: it is over, or no section holds it
pub dropped_moves : (n i s : ℕ) (m : State) (b : ℕ) → Inv n m → of_dropper i (m.life b) ≡ true → (is_over b m.log ≡ true) ⊎ ((t : ℕ) → holds t b m.log ≡ false) → Moved n i s m (Moves.dropped m b)
dropped_moves n i s m b inv h may = record {
  inv = record {
    debts = inv.debts;
    batches = inv.batches;
    places = record {
      boxed = λ x c. grind (arith, inv.places.boxed x c);
      to_take = λ j c. grind (arith, inv.places.to_take j c);
      to_retire = λ j c. grind (arith, inv.places.to_retire j c);
      all_deferred = λ t c. grind (arith, inv.places.all_deferred t c);
      housed = λ c x e. grind (arith, inv.places.housed c x);
      carries = λ c t e. grind (arith, inv.places.carries c t);
    };
    logged = record {
      guarded = λ t c e. grind (arith, inv.logged.guarded t c);
      opens = inv.logged.opens;
      inside = inv.logged.inside;
      reaches = λ c. grind (arith, inv.logged.reaches c, inv.places.carries c b);
      given = λ c. grind (arith, inv.logged.given c);
      used = λ c. grind (arith, inv.logged.used c);
      on_way = dropped_way m.log m.life m.section m.defers m.carrier i b inv.logged.on_way inv.places.carries h;
      sound = (grind (arith, inv.logged.used b), may, inv.logged.sound);
    };
    slots = inv.slots;
  };
  keeps = record {
    rows = λ j e. same_row (row_of m j);
    slots = λ t e. same_slot (slot_of m t);
    holding = λ j t e f. (refl, refl);
    batches = λ j x e f. same_batch (batch_of n m x);
    lives = λ j c e f. grind arith;
    lists = λ j c e f. refl;
    taken_slots = λ t e. e;
    marked = λ j x t ne closing d. (d, ([], refl));
    lengths = λ t l. not_longer _;
  };
}

-- and no section holds one that was never linked
pub never_held : (n i : ℕ) (m : State) (b : ℕ) → Inv n m → m.life b ≡ IsOwned i → (t : ℕ) → holds t b m.log ≡ false
never_held n i m b inv h t = by (holds t b m.log) refl
  where
    by : (q : Bool) → holds t b m.log ≡ q → q ≡ false
    by true e = absurd (subst (λ (l : Life). IsGuarded l m.debt t) h (inv.logged.guarded t b e))
    by false e = refl

pub linked_moves : (n i s : ℕ) (m : State) (b o : ℕ) → Inv n m → m.life b ≡ IsOwned i → Moved n i s m (Moves.linked m b o)
linked_moves n i s m b o inv h = record {
  inv = record {
    debts = inv.debts;
    batches = inv.batches;
    places = record {
      boxed = λ x c. grind (arith, inv.places.boxed x c);
      to_take = λ j c. grind (arith, inv.places.to_take j c);
      to_retire = λ j c. grind (arith, inv.places.to_retire j c);
      all_deferred = λ t c. grind (arith, inv.places.all_deferred t c);
      housed = λ c x e. grind (arith, inv.places.housed c x);
      carries = λ c t e. grind (arith, inv.places.carries c t);
    };
    logged = record {
      guarded = λ t c e. grind (arith, inv.logged.guarded t c);
      opens = inv.logged.opens;
      inside = inv.logged.inside;
      reaches = λ c. grind (arith, inv.logged.reaches c, inv.places.carries c b);
      given = λ c. grind (arith, inv.logged.given c);
      used = λ c. grind (arith, inv.logged.used c);
      on_way = λ c j u t e. grind (arith, inv.logged.on_way c j u t, inv.logged.inside j u);
      sound = inv.logged.sound;
    };
    slots = inv.slots;
  };
  keeps = record {
    rows = λ j e. same_row (row_of m j);
    slots = λ t e. same_slot (slot_of m t);
    holding = λ j t e f. (refl, refl);
    batches = λ j x e f. same_batch (batch_of n m x);
    lives = λ j c e f. grind arith;
    lists = λ j c e f. refl;
    taken_slots = λ t e. e;
    marked = λ j x t ne closing d. (d, ([], refl));
    lengths = λ t l. not_longer _;
  };
}

-- an owner ends: nothing else is another way
pub ended_moves : (n i s : ℕ) (m : State) (o : ℕ) → Inv n m → Moved n i s m (Moves.ended m o)
ended_moves n i s m o inv = record {
  inv = record {
    debts = inv.debts;
    batches = inv.batches;
    places = inv.places;
    logged = record {
      guarded = inv.logged.guarded;
      opens = inv.logged.opens;
      inside = inv.logged.inside;
      reaches = inv.logged.reaches;
      given = inv.logged.given;
      used = inv.logged.used;
      on_way = inv.logged.on_way;
      sound = inv.logged.sound;
    };
    slots = inv.slots;
  };
  keeps = record {
    rows = λ j e. same_row (row_of m j);
    slots = λ t e. same_slot (slot_of m t);
    holding = λ j t e f. (refl, refl);
    batches = λ j x e f. same_batch (batch_of n m x);
    lives = λ j c e f. (refl, refl);
    lists = λ j c e f. refl;
    taken_slots = λ t e. e;
    marked = λ j x t ne closing d. (d, ([], refl));
    lengths = λ t l. not_longer _;
  };
}

pub unlinked_moves : (n i s : ℕ) (m : State) (b : ℕ) → Inv n m → m.life b ≡ IsLinked → Moved n i s m (Moves.unlinked m i b)
unlinked_moves n i s m b inv h = record {
  inv = record {
    debts = inv.debts;
    batches = inv.batches;
    places = record {
      boxed = λ x c. grind (arith, inv.places.boxed x c);
      to_take = λ j c. grind (arith, inv.places.to_take j c);
      to_retire = λ j c. grind (arith, inv.places.to_retire j c);
      all_deferred = λ t c. grind (arith, inv.places.all_deferred t c);
      housed = λ c x e. grind (arith, inv.places.housed c x);
      carries = λ c t e. grind (arith, inv.places.carries c t);
    };
    logged = record {
      guarded = λ t c e. grind (arith, inv.logged.guarded t c);
      opens = inv.logged.opens;
      inside = inv.logged.inside;
      reaches = λ c. grind (arith, inv.logged.reaches c);
      given = λ c. grind (arith, inv.logged.given c);
      used = λ c. grind (arith, inv.logged.used c);
      on_way = λ c j u t e. grind (arith, inv.logged.on_way c j u t);
      sound = inv.logged.sound;
    };
    slots = inv.slots;
  };
  keeps = record {
    rows = λ j e. same_row (row_of m j);
    slots = λ t e. same_slot (slot_of m t);
    holding = λ j t e f. (refl, refl);
    batches = λ j x e f. same_batch (batch_of n m x);
    lives = λ j c e f. grind arith;
    lists = λ j c e f. refl;
    taken_slots = λ t e. e;
    marked = λ j x t ne closing d. (d, ([], refl));
    lengths = λ t l. not_longer _;
  };
}

pub begins_retire_moves : (n i s : ℕ) (m : State) (b holder : ℕ) → Inv n m → m.life b ≡ IsUnlinked holder → Moved n i s m (Moves.begins_retire m i b)
begins_retire_moves n i s m b holder inv h = record {
  inv = record {
    debts = inv.debts;
    batches = inv.batches;
    places = record {
      boxed = λ x c. grind (arith, inv.places.boxed x c);
      to_take = λ j c. grind (arith, inv.places.to_take j c);
      to_retire = λ j c. grind (arith, inv.places.to_retire j c);
      all_deferred = λ t c. grind (arith, inv.places.all_deferred t c);
      housed = λ c x e. grind (arith, inv.places.housed c x);
      carries = λ c t e. grind (arith, inv.places.carries c t);
    };
    logged = record {
      guarded = λ t c e. grind (arith, inv.logged.guarded t c);
      opens = inv.logged.opens;
      inside = inv.logged.inside;
      reaches = λ c. grind (arith, inv.logged.reaches c);
      given = λ c. grind (arith, inv.logged.given c);
      used = λ c. grind (arith, inv.logged.used c);
      on_way = λ c j u t e. grind (arith, inv.logged.on_way c j u t);
      sound = inv.logged.sound;
    };
    slots = inv.slots;
  };
  keeps = record {
    rows = λ j e. record { loose = refl; from = refl; left = refl; pending = grind arith; puts = refl; closing = refl; section = refl; defers = refl };
    slots = λ t e. same_slot (slot_of m t);
    holding = λ j t e f. (refl, refl);
    batches = λ j x e f. same_batch (batch_of n m x);
    lives = λ j c e f. grind arith;
    lists = λ j c e f. refl;
    taken_slots = λ t e. e;
    marked = λ j x t ne closing d. (d, ([], refl));
    lengths = λ t l. not_longer _;
  };
}

-- a carrier that a section holds may carry, where it is left to nobody
may_carry : (n : ℕ) (m : State) (s t : ℕ) → Inv n m → m.carrier t ≡ true → holds s t m.log ≡ true → ((j : ℕ) → m.life t ≡ IsLeft j → ⊥) → (y : Life) → m.life t ≡ y → can_carry y ≡ true
may_carry n m s t inv k h left IsFree e = absurd (grind (arith, inv.logged.guarded s t h))
may_carry n m s t inv k h left (IsOwned i) e = absurd (grind (arith, inv.logged.guarded s t h))
may_carry n m s t inv k h left IsLinked e = refl
may_carry n m s t inv k h left (IsUnlinked i) e = refl
may_carry n m s t inv k h left (IsDeferring i u v) e = absurd (grind (arith, inv.places.carries t v))
may_carry n m s t inv k h left (IsDeferred v) e = absurd (grind (arith, inv.places.carries t v))
may_carry n m s t inv k h left (IsPending i) e = refl
may_carry n m s t inv k h left (IsIn x) e = refl
may_carry n m s t inv k h left (IsDoomed i) e = refl
may_carry n m s t inv k h left (IsLeft i) e = absurd (left i e)

defer_carries : (carrier : ℕ → Bool) (life : ℕ → Life) (b i s t : ℕ)
    → Carries carrier life → carrier b ≡ false → carrier t ≡ true → can_carry (life t) ≡ true
    → Carries carrier (put life b (IsDeferring i s t))
defer_carries carrier life b i s t k kb kt kc = put_one
    (λ c l. (u : ℕ) → lies_with u l ≡ true → (carrier c ≡ false) × (carrier u ≡ true) × (can_carry (put life b (IsDeferring i s t) u) ≡ true))
    life b (IsDeferring i s t) (λ u e. grind arith) (λ c u e. grind (arith, k c u e))

defer_way : (log : List Effect) (life : ℕ → Life) (section defers : ℕ → ℕ) (carrier : ℕ → Bool) (b i s t : ℕ)
    → OnWay log life section defers → Carries carrier life → carrier b ≡ false → carrier t ≡ true
    → section i ≡ s + 1 → defers i ≡ 0 → holds s t log ≡ true
    → OnWay (Deferred b t ∷ log) (put life b (IsDeferring i s t)) section (put defers i (b + 1))
defer_way log life section defers carrier b i s t w k kb kt hs none held c j u v e = grind (arith, w c j u v, k c v)

-- the section of row i holds t, which may carry
pub begins_defer_moves : (n i s : ℕ) (m : State) (b t : ℕ)
    → Inv n m → m.life b ≡ IsLinked → m.carrier b ≡ false → m.carrier t ≡ true → m.section i ≡ s + 1 → m.defers i ≡ 0 → holds s t m.log ≡ true
    → ((j : ℕ) → m.life t ≡ IsLeft j → ⊥) → Moved n i s m (Moves.begins_defer m i s b t)
begins_defer_moves n i s m b t inv h no_carrier carrier hs none held left = record {
  inv = record {
    debts = inv.debts;
    batches = inv.batches;
    places = record {
      boxed = λ x c. grind (arith, inv.places.boxed x c);
      to_take = λ j c. grind (arith, inv.places.to_take j c);
      to_retire = λ j c. grind (arith, inv.places.to_retire j c);
      all_deferred = λ t c. grind (arith, inv.places.all_deferred t c);
      housed = λ c x e. grind (arith, inv.places.housed c x);
      carries = defer_carries m.carrier m.life b i s t inv.places.carries no_carrier carrier (may_carry n m s t inv carrier held left _ refl);
    };
    logged = record {
      guarded = λ t c e. grind (arith, inv.logged.guarded t c);
      opens = inv.logged.opens;
      inside = inv.logged.inside;
      reaches = λ c. grind (arith, inv.logged.reaches c, inv.logged.reaches t, inv.places.carries c b);
      given = λ c. grind (arith, inv.logged.given c);
      used = λ c. grind (arith, inv.logged.used c);
      on_way = defer_way m.log m.life m.section m.defers m.carrier b i s t inv.logged.on_way inv.places.carries no_carrier carrier hs none held;
      sound = inv.logged.sound;
    };
    slots = inv.slots;
  };
  keeps = record {
    rows = λ j e. record { loose = refl; from = refl; left = refl; pending = refl; puts = refl; closing = refl; section = refl; defers = grind arith };
    slots = λ t e. same_slot (slot_of m t);
    holding = λ j t e f. (refl, refl);
    batches = λ j x e f. same_batch (batch_of n m x);
    lives = λ j c e f. grind arith;
    lists = λ j c e f. refl;
    taken_slots = λ t e. e;
    marked = λ j x t ne closing d. (d, ([], refl));
    lengths = λ t l. not_longer _;
  };
}

to_carries : (carrier : ℕ → Bool) (life : ℕ → Life) (b i s t : ℕ) → Carries carrier life → life b ≡ IsDeferring i s t → Carries carrier (put life b (IsDeferred t))
to_carries carrier life b i s t k h = put_one
    (λ c l. (u : ℕ) → lies_with u l ≡ true → (carrier c ≡ false) × (carrier u ≡ true) × (can_carry (put life b (IsDeferred t) u) ≡ true))
    life b (IsDeferred t) (λ u e. grind (arith, k b u)) (λ c u e. grind (arith, k c u e, k b t))

pub deferred_to_moves : (n i s : ℕ) (m : State) (b t : ℕ) → Inv n m → m.life b ≡ IsDeferring i s t → Moved n i s m (Moves.deferred_to m i b t)
deferred_to_moves n i s m b t inv h = record {
  inv = record {
    debts = inv.debts;
    batches = inv.batches;
    places = record {
      boxed = λ x c. grind (arith, inv.places.boxed x c);
      to_take = λ j c. grind (arith, inv.places.to_take j c);
      to_retire = λ j c. grind (arith, inv.places.to_retire j c);
      all_deferred = λ u c. grind (arith, inv.places.all_deferred u c);
      housed = λ c x e. grind (arith, inv.places.housed c x);
      carries = to_carries m.carrier m.life b i s t inv.places.carries h;
    };
    logged = record {
      guarded = λ t c e. grind (arith, inv.logged.guarded t c);
      opens = inv.logged.opens;
      inside = inv.logged.inside;
      reaches = λ c. grind (arith, inv.logged.reaches c);
      given = λ c. grind (arith, inv.logged.given c);
      used = λ c. grind (arith, inv.logged.used c);
      on_way = λ c j u v e. grind (arith, inv.logged.on_way c j u v, inv.logged.on_way b i s t h);
      sound = inv.logged.sound;
    };
    slots = inv.slots;
  };
  keeps = record {
    rows = λ j e. record { loose = refl; from = refl; left = refl; pending = refl; puts = refl; closing = refl; section = refl; defers = grind arith };
    slots = λ t e. same_slot (slot_of m t);
    holding = λ j t e f. (refl, refl);
    batches = λ j x e f. same_batch (batch_of n m x);
    lives = λ j c e f. grind arith;
    lists = λ j c e f. grind (arith, inv.logged.on_way b i s t h, inv.logged.guarded s t, inv.places.carries b t);
    taken_slots = λ t e. e;
    marked = λ j x t ne closing d. (d, ([], refl));
    lengths = λ t l. not_longer _;
  };
}
