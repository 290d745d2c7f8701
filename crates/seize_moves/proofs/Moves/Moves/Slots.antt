-- The moves of slots, sections and holds: each keeps the rule, and leaves to the other rows what they know.
use Rattle.std.proofs.Common.{◌≡◌, ℕ, ◌+◌, ◌<◌, Bool, true, false, cond, eqb, List, [], refl, arith, eqb-true, ap}
use Rattle.std.proofs.lemmas.Bool.{eqb-false}
use Rattle.seize.specs.Law.{is_open}
use Rattle.seize_moves.proofs.Moves.State.Ghost.{put, Entry, Head, Idle, Active, list_of, Debt, Stage, Unused, Open, Closing, Closed, Dead, State, is_active, is_never, on_list, is_loose, owes, counts, was_put, total, entries}
use Rattle.seize_moves.proofs.Moves.State.Rule.{Listed, AllLoose, AtStage, Tally, Inv, Moved, same_row, row_of, same_slot, slot_of, same_batch, batch_of}
use Rattle.seize_moves.proofs.Moves.State.Sums.{total_same}
use Rattle.seize_moves.proofs.Moves.State.Grown.{left_grown, none_grown}
use Rattle.seize_moves.proofs.Moves.State.Moves.{loosened, loosened_at}
use Rattle.seize_moves.proofs.Moves.State.Moves
use Rattle.seize_moves.proofs.Moves.Sets.Unmoved.{inactive_list as no_list}
use Rattle.seize.proofs.Given.General.{at_most_itself as not_longer}

-- a slot that isn't active is taken; those below it were taken before
pub registered_moves : (n i s : ℕ) (m : State)
    → s < n → Inv n m → is_active (m.head s) ≡ false → ((t : ℕ) → t < s → is_never (m.head t) ≡ false) → Moved n i s m (Moves.registered m s)
registered_moves n i s m l inv h first = record {
  inv = record {
    debts = record {
      listed = λ x u. grind (arith, inv.debts.listed x u);
      loosed = inv.debts.loosed;
      marked = inv.debts.marked;
      scanned = inv.debts.scanned;
      seen_le = inv.debts.seen_le;
    };
    batches = inv.batches;
    places = inv.places;
    logged = record {
      guarded = inv.logged.guarded;
      opens = λ t e. grind (arith, inv.logged.opens t);
      inside = inv.logged.inside;
      reaches = inv.logged.reaches;
      given = inv.logged.given;
      used = inv.logged.used;
      on_way = inv.logged.on_way;
      sound = inv.logged.sound;
    };
    slots = record {
      outside = λ t e. grind (arith, inv.slots.outside t);
      prefix = λ u v e f. grind (arith, inv.slots.prefix u v, first u);
    };
  };
  keeps = record {
    rows = λ j e. same_row (row_of m j);
    slots = λ t e. record { head = grind arith; holder = refl; open_batch = refl };
    holding = λ j t e f. (refl, refl);
    batches = λ j x e f. same_batch (batch_of n m x);
    lives = λ j c e f. (refl, refl);
    lists = λ j c e f. refl;
    taken_slots = λ t e. grind arith;
    marked = λ j x t ne closing d. (d, none_grown m.head _ s t (no_list (m.head s) h) refl);
    lengths = λ t l. not_longer _;
  };
}

pub freed_moves : (n i s : ℕ) (m : State) → Inv n m → m.head s ≡ Idle → Moved n i s m (Moves.freed m s)
freed_moves n i s m inv h = record {
  inv = record {
    debts = record {
      listed = λ x u. grind (arith, inv.debts.listed x u);
      loosed = inv.debts.loosed;
      marked = inv.debts.marked;
      scanned = inv.debts.scanned;
      seen_le = inv.debts.seen_le;
    };
    batches = inv.batches;
    places = inv.places;
    logged = record {
      guarded = inv.logged.guarded;
      opens = λ t e. grind (arith, inv.logged.opens t);
      inside = inv.logged.inside;
      reaches = inv.logged.reaches;
      given = inv.logged.given;
      used = inv.logged.used;
      on_way = inv.logged.on_way;
      sound = inv.logged.sound;
    };
    slots = record {
      outside = λ t e. grind (arith, inv.slots.outside t);
      prefix = λ u v e f. grind (arith, inv.slots.prefix u v);
    };
  };
  keeps = record {
    rows = λ j e. same_row (row_of m j);
    slots = λ t e. record { head = grind arith; holder = refl; open_batch = refl };
    holding = λ j t e f. (refl, refl);
    batches = λ j x e f. same_batch (batch_of n m x);
    lives = λ j c e f. (refl, refl);
    lists = λ j c e f. refl;
    taken_slots = λ t e. grind arith;
    marked = λ j x t ne closing d. (d, none_grown m.head _ s t (ap list_of h) refl);
    lengths = λ t l. not_longer _;
  };
}

-- a section begins
pub entered_moves : (n i s : ℕ) (m : State) → Inv n m → m.head s ≡ Idle → Moved n i s m (Moves.entered m s)
entered_moves n i s m inv h = record {
  inv = record {
    debts = record {
      listed = λ x u. grind (arith, inv.debts.listed x u);
      loosed = inv.debts.loosed;
      marked = inv.debts.marked;
      scanned = inv.debts.scanned;
      seen_le = inv.debts.seen_le;
    };
    batches = inv.batches;
    places = inv.places;
    logged = record {
      guarded = λ t c e. grind (arith, inv.logged.guarded t c, inv.logged.reaches c, e);
      opens = λ t e. grind (arith, inv.logged.opens t);
      inside = λ j u e. grind (arith, inv.logged.inside j u);
      reaches = inv.logged.reaches;
      given = inv.logged.given;
      used = inv.logged.used;
      on_way = λ c j u v e. grind (arith, inv.logged.on_way c j u v);
      sound = inv.logged.sound;
    };
    slots = record {
      outside = λ t e. grind (arith, inv.slots.outside t);
      prefix = λ u v e f. grind (arith, inv.slots.prefix u v);
    };
  };
  keeps = record {
    rows = λ j e. same_row (row_of m j);
    slots = λ t e. record { head = grind arith; holder = refl; open_batch = refl };
    holding = λ j t e f. (refl, refl);
    batches = λ j x e f. same_batch (batch_of n m x);
    lives = λ j c e f. (refl, refl);
    lists = λ j c e f. refl;
    taken_slots = λ t e. grind arith;
    marked = λ j x t ne closing d. (d, none_grown m.head _ s t (ap list_of h) refl);
    lengths = λ t l. not_longer _;
  };
}

-- what a slot's debts count stays, when its entries are taken off its list
loosened_total : (f : Debt → ℕ) (i s n : ℕ) (d : ℕ → Debt) → ((x : Debt) → f (loosened i x) ≡ f x) → total f (loosened_at i s d) n ≡ total f d n
loosened_total f i s n d h = total_same f d (loosened_at i s d) n (λ t. grind (arith, h (d t)))

loosened_put : (i : ℕ) (x : Debt) → was_put (loosened i x) ≡ was_put x
loosened_put i x = grind arith

loosened_owes : (i : ℕ) (x : Debt) → owes (loosened i x) ≡ owes x
loosened_owes i x = grind arith

loosened_counts : (i : ℕ) (x : Debt) → counts (loosened i x) ≡ counts x
loosened_counts i x = grind arith

-- a counter's meaning depends on its debts by these three sums alone
pub same_tally : (n : ℕ) (st : Stage) (c : ℕ) (d e : ℕ → Debt) (k : ℕ) (todo : List ℕ)
    → total was_put e n ≡ total was_put d n → total owes e n ≡ total owes d n → total counts e n ≡ total counts d n
    → AtStage n st c d k todo → AtStage n st c e k todo
same_tally n Unused c d e k todo p q r a = (a.0, cc (p, a.1), a.2, a.3)
same_tally n (Open s) c d e k todo p q r a = (a.0, cc (p, a.1))
same_tally n (Closing i) c d e k todo p q r a = (cc (r, a.0), a.1)
same_tally n Closed c d e k todo p q r a = (cc (q, a.0), a.1, a.2)
same_tally n Dead c d e k todo p q r a = cc (q, a)

loosened_tally : (n i s : ℕ) (stage : ℕ → Stage) (counter : ℕ → ℕ) (debt : ℕ → ℕ → Debt) (seen : ℕ → ℕ) (todo : ℕ → List ℕ)
    → Tally n stage counter debt seen todo → Tally n stage counter (λ x. loosened_at i s (debt x)) seen todo
loosened_tally n i s stage counter debt seen todo a x =
    same_tally n (stage x) (counter x) (debt x) (loosened_at i s (debt x)) (seen x) (todo x)
    (loosened_total was_put i s n (debt x) (loosened_put i)) (loosened_total owes i s n (debt x) (loosened_owes i))
    (loosened_total counts i s n (debt x) (loosened_counts i))
    (a x)

-- of an entry that is taken off: it is loose, in the hands of row i
now_loose : (i : ℕ) (d : Debt) (k : ℕ) → k ≡ on_list d → 0 ≡ is_loose i d → k ≡ is_loose i (loosened i d)
now_loose i d k e f = grind arith

still_loose : (i j : ℕ) (d : Debt) → (j ≡ i → ⊥) → is_loose j (loosened i d) ≡ is_loose j d
still_loose i j d ne = grind arith

loosened_loose : (head : ℕ → Head) (loose : ℕ → List Entry) (from : ℕ → ℕ) (debt : ℕ → ℕ → Debt) (i s : ℕ) (es : List Entry)
    → Listed head debt → AllLoose loose from debt → head s ≡ Active es → loose i ≡ []
    → AllLoose (put loose i es) (put from i s) (λ x. loosened_at i s (debt x))
loosened_loose head loose from debt i s es a b h k x t j = at (eqb j i) (eqb-true j i) (eqb-false j i)
  where
    unloose : 0 ≡ is_loose i (debt x t)
    unloose = grind (arith, b x t i)

    at : (y : Bool) → (y ≡ true → j ≡ i) → (y ≡ false → j ≡ i → ⊥)
        → cond (eqb t (cond y s (from j))) (entries x (cond y es (loose j))) 0 ≡ is_loose j (loosened_at i s (debt x) t)
    at true e f = grind (arith, e refl, now_loose i (debt x s) (entries x es), rw h at (a x s), unloose)
    at false e f = grind (arith, still_loose i j (debt x t) (f refl), b x t j)

-- a section within which no row runs ends, and its slot's list is in the hands of row i
pub has_left_moves : (n i s : ℕ) (m : State) (es : List Entry)
    → Inv n m → m.head s ≡ Active es → m.loose i ≡ [] → ((j : ℕ) → m.section j ≡ s + 1 → ⊥) → Moved n i s m (Moves.has_left m i s es)
has_left_moves n i s m es inv h hl none = record {
  inv = record {
    debts = record {
      listed = λ x u. grind (arith, inv.debts.listed x u);
      loosed = loosened_loose m.head m.loose m.from m.debt i s es inv.debts.listed inv.debts.loosed h hl;
      marked = λ x u. grind (arith, inv.debts.marked x u);
      scanned = λ x u. grind (arith, inv.debts.scanned x u);
      seen_le = inv.debts.seen_le;
    };
    batches = record {
      fresh = inv.batches.fresh;
      blank = inv.batches.blank;
      tally = loosened_tally n i s m.stage m.counter m.debt m.seen m.todo inv.batches.tally;
      mine = inv.batches.mine;
      sole = inv.batches.sole;
      below = inv.batches.below;
      shut = inv.batches.shut;
      rested = inv.batches.rested;
    };
    places = inv.places;
    logged = record {
      guarded = λ t c e. grind (arith, inv.logged.guarded t c, e);
      opens = λ t e. grind (arith, inv.logged.opens t);
      inside = λ j u e. grind (arith, inv.logged.inside j u, none j);
      reaches = inv.logged.reaches;
      given = inv.logged.given;
      used = inv.logged.used;
      on_way = λ c j u v e. grind (arith, inv.logged.on_way c j u v, none j);
      sound = inv.logged.sound;
    };
    slots = record {
      outside = λ t e. grind (arith, inv.slots.outside t);
      prefix = λ u v e f. grind (arith, inv.slots.prefix u v);
    };
  };
  keeps = record {
    rows = λ j e. record { loose = grind arith; from = grind arith; left = refl; pending = refl; puts = refl; closing = refl; section = refl; defers = refl };
    slots = λ t e. record { head = grind arith; holder = refl; open_batch = refl };
    holding = λ j t e f. (refl, refl);
    batches = λ j x e f. record { stage = refl; blocks = refl; seen = refl; todo = refl; done = loosened_total was_put i s n (m.debt x) (loosened_put i) };
    lives = λ j c e f. (refl, refl);
    lists = λ j c e f. refl;
    taken_slots = λ t e. grind arith;
    marked = λ j x t ne closing d. left_grown m.head (m.debt x) _ i s t d;
    lengths = λ t l. not_longer _;
  };
}

-- the same, but the slot stays active
pub refreshed_moves : (n i s : ℕ) (m : State) (es : List Entry)
    → Inv n m → m.head s ≡ Active es → m.loose i ≡ [] → ((j : ℕ) → m.section j ≡ s + 1 → ⊥) → Moved n i s m (Moves.refreshed m i s es)
refreshed_moves n i s m es inv h hl none = record {
  inv = record {
    debts = record {
      listed = λ x u. grind (arith, inv.debts.listed x u);
      loosed = loosened_loose m.head m.loose m.from m.debt i s es inv.debts.listed inv.debts.loosed h hl;
      marked = λ x u. grind (arith, inv.debts.marked x u);
      scanned = λ x u. grind (arith, inv.debts.scanned x u);
      seen_le = inv.debts.seen_le;
    };
    batches = record {
      fresh = inv.batches.fresh;
      blank = inv.batches.blank;
      tally = loosened_tally n i s m.stage m.counter m.debt m.seen m.todo inv.batches.tally;
      mine = inv.batches.mine;
      sole = inv.batches.sole;
      below = inv.batches.below;
      shut = inv.batches.shut;
      rested = inv.batches.rested;
    };
    places = inv.places;
    logged = record {
      guarded = λ t c e. grind (arith, inv.logged.guarded t c, e);
      opens = λ t e. grind (arith, inv.logged.opens t);
      inside = λ j u e. grind (arith, inv.logged.inside j u, none j);
      reaches = inv.logged.reaches;
      given = inv.logged.given;
      used = inv.logged.used;
      on_way = λ c j u v e. grind (arith, inv.logged.on_way c j u v, none j);
      sound = inv.logged.sound;
    };
    slots = record {
      outside = λ t e. grind (arith, inv.slots.outside t);
      prefix = λ u v e f. grind (arith, inv.slots.prefix u v);
    };
  };
  keeps = record {
    rows = λ j e. record { loose = grind arith; from = grind arith; left = refl; pending = refl; puts = refl; closing = refl; section = refl; defers = refl };
    slots = λ t e. record { head = grind arith; holder = refl; open_batch = refl };
    holding = λ j t e f. (refl, refl);
    batches = λ j x e f. record { stage = refl; blocks = refl; seen = refl; todo = refl; done = loosened_total was_put i s n (m.debt x) (loosened_put i) };
    lives = λ j c e f. (refl, refl);
    lists = λ j c e f. refl;
    taken_slots = λ t e. grind arith;
    marked = λ j x t ne closing d. left_grown m.head (m.debt x) _ i s t d;
    lengths = λ t l. not_longer _;
  };
}

-- a section begins in a slot that is active
pub reopened_moves : (n i s : ℕ) (m : State) → Inv n m → is_active (m.head s) ≡ true → Moved n i s m (Moves.reopened m s)
reopened_moves n i s m inv h = record {
  inv = record {
    debts = inv.debts;
    batches = inv.batches;
    places = inv.places;
    logged = record {
      guarded = λ t c e. grind (arith, inv.logged.guarded t c, inv.logged.reaches c, e);
      opens = λ t e. grind (arith, inv.logged.opens t);
      inside = λ j u e. grind (arith, inv.logged.inside j u);
      reaches = inv.logged.reaches;
      given = inv.logged.given;
      used = inv.logged.used;
      on_way = λ c j u v e. grind (arith, inv.logged.on_way c j u v);
      sound = inv.logged.sound;
    };
    slots = inv.slots;
  };
  keeps = record {
    rows = λ j e. same_row (row_of m j);
    slots = λ t e. same_slot (slot_of m t);
    holding = λ j t e f. (refl, refl);
    batches = λ j x e f. same_batch (batch_of n m x);
    lives = λ j c e f. (refl, refl);
    lists = λ j c e f. refl;
    taken_slots = λ t e. e;
    marked = λ j x t ne closing d. (d, ([], refl));
    lengths = λ t l. not_longer _;
  };
}

-- row i runs within the section of slot s
pub begins_call_moves : (n i s : ℕ) (m : State) → Inv n m → is_open s m.log ≡ true → m.defers i ≡ 0 → Moved n i s m (Moves.begins_call m i s)
begins_call_moves n i s m inv h none = record {
  inv = record {
    debts = inv.debts;
    batches = inv.batches;
    places = inv.places;
    logged = record {
      guarded = inv.logged.guarded;
      opens = inv.logged.opens;
      inside = λ j u e. grind (arith, inv.logged.inside j u);
      reaches = inv.logged.reaches;
      given = inv.logged.given;
      used = inv.logged.used;
      on_way = λ c j u v e. grind (arith, inv.logged.on_way c j u v);
      sound = inv.logged.sound;
    };
    slots = inv.slots;
  };
  keeps = record {
    rows = λ j e. record { loose = refl; from = refl; left = refl; pending = refl; puts = refl; closing = refl; section = grind arith; defers = refl };
    slots = λ t e. same_slot (slot_of m t);
    holding = λ j t e f. (refl, refl);
    batches = λ j x e f. same_batch (batch_of n m x);
    lives = λ j c e f. (refl, refl);
    lists = λ j c e f. refl;
    taken_slots = λ t e. e;
    marked = λ j x t ne closing d. (d, ([], refl));
    lengths = λ t l. not_longer _;
  };
}

pub ends_call_moves : (n i s : ℕ) (m : State) → Inv n m → m.defers i ≡ 0 → Moved n i s m (Moves.ends_call m i)
ends_call_moves n i s m inv none = record {
  inv = record {
    debts = inv.debts;
    batches = inv.batches;
    places = inv.places;
    logged = record {
      guarded = inv.logged.guarded;
      opens = inv.logged.opens;
      inside = λ j u e. grind (arith, inv.logged.inside j u);
      reaches = inv.logged.reaches;
      given = inv.logged.given;
      used = inv.logged.used;
      on_way = λ c j u v e. grind (arith, inv.logged.on_way c j u v);
      sound = inv.logged.sound;
    };
    slots = inv.slots;
  };
  keeps = record {
    rows = λ j e. record { loose = refl; from = refl; left = refl; pending = refl; puts = refl; closing = refl; section = grind arith; defers = refl };
    slots = λ t e. same_slot (slot_of m t);
    holding = λ j t e f. (refl, refl);
    batches = λ j x e f. same_batch (batch_of n m x);
    lives = λ j c e f. (refl, refl);
    lists = λ j c e f. refl;
    taken_slots = λ t e. e;
    marked = λ j x t ne closing d. (d, ([], refl));
    lengths = λ t l. not_longer _;
  };
}

-- row i holds the open batch of the slot
pub held_moves : (n i s : ℕ) (m : State) → Inv n m → m.holder s ≡ 0 → Moved n i s m (Moves.held m i s)
held_moves n i s m inv h = record {
  inv = record {
    debts = inv.debts;
    batches = record {
      fresh = inv.batches.fresh;
      blank = inv.batches.blank;
      tally = inv.batches.tally;
      mine = inv.batches.mine;
      sole = inv.batches.sole;
      below = inv.batches.below;
      shut = inv.batches.shut;
      rested = λ u l e. grind (arith, inv.batches.rested u l);
    };
    places = inv.places;
    logged = inv.logged;
    slots = inv.slots;
  };
  keeps = record {
    rows = λ j e. same_row (row_of m j);
    slots = λ t e. record { head = refl; holder = grind arith; open_batch = refl };
    holding = λ j t e f. grind arith;
    batches = λ j x e f. same_batch (batch_of n m x);
    lives = λ j c e f. (refl, refl);
    lists = λ j c e f. refl;
    taken_slots = λ t e. e;
    marked = λ j x t ne closing d. (d, ([], refl));
    lengths = λ t l. not_longer _;
  };
}

-- and reclaims it with no try under way
pub gave_moves : (n i s : ℕ) (m : State)
    → Inv n m → m.holder s ≡ i + 1 → m.seen (m.open_batch s) ≡ 0 → m.todo (m.open_batch s) ≡ [] → Moved n i s m (Moves.gave m s)
gave_moves n i s m inv h unseen untried = record {
  inv = record {
    debts = inv.debts;
    batches = record {
      fresh = inv.batches.fresh;
      blank = inv.batches.blank;
      tally = inv.batches.tally;
      mine = inv.batches.mine;
      sole = inv.batches.sole;
      below = inv.batches.below;
      shut = inv.batches.shut;
      rested = λ u l e. grind (arith, inv.batches.rested u l);
    };
    places = inv.places;
    logged = inv.logged;
    slots = inv.slots;
  };
  keeps = record {
    rows = λ j e. same_row (row_of m j);
    slots = λ t e. record { head = refl; holder = grind arith; open_batch = refl };
    holding = λ j t e f. grind arith;
    batches = λ j x e f. same_batch (batch_of n m x);
    lives = λ j c e f. (refl, refl);
    lists = λ j c e f. refl;
    taken_slots = λ t e. e;
    marked = λ j x t ne closing d. (d, ([], refl));
    lengths = λ t l. not_longer _;
  };
}
