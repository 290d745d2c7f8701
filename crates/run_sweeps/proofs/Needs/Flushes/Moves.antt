-- A flush of a slot that is active takes nothing away: the batch that it closes waits for that slot.
use Rattle.std.proofs.Common.{◌≡◌, ℕ, ◌+◌, ◌%◌, ◌^◌, ◌<◌, ◌≤◌, Bool, true, false, cond, eqb, ltb, List, [], ◌∷◌, ◌++◌, refl, ap, sym, subst, ◌∙◌, arith, eqb-true, inl, inr}
use Rattle.papaya_raw.specs.Given.SeizeDeclared.rows.settle.Settle.{Settle}
use Rattle.run_finds.specs.Given.SeizeWaitingHeld.{count}
use Rattle.run_finds.proofs.Given.SeizeMovesState.Ghost.{put, Debt, Unscanned, Marked, Gone, Skipped, Owing, Loose, Counted, Entry, Active, Stage, Open, Closing, State, is_active, is_marked, owes, counts, was_put, total}
use Rattle.run_finds.proofs.Given.SeizeMovesState.Moves as moves
use Rattle.run_finds.proofs.Given.SeizeMovesState.Rule.{AtStage, HasLeft, Inv, SeenIs}
use Rattle.run_finds.proofs.Given.SeizeMovesState.Sums.{put_le, put_parts, total_le}
use Rattle.run_finds.proofs.Given.SeizeRulePoints.Passed.{passed_rest}
use Rattle.run_finds.proofs.Given.SeizeRulePoints.Told as told
use Rattle.run_finds.proofs.Given.SeizeRulePoints.Told.{Part, Told, part}
use Rattle.run_finds.proofs.Given.SeizeMemoryWords.Apart.{put_here}

-- a batch that is tried waits for a slot still: it is not scanned, or marked, or has its entry
abbrev pub awaits : Debt → Bool
awaits Unscanned = true
awaits Marked = true
awaits Gone = false
awaits Skipped = false
awaits Owing = true
awaits (Loose i) = false
awaits Counted = false

-- row i has no block and no entry in hand
pub record HasNone (i : ℕ) (m : State) : Type 0 where
  pub loose : m.loose i ≡ []
  pub left : m.left i ≡ []
  pub pending : m.pending i ≡ []
  pub puts : m.puts i ≡ []

-- it closes no batch, or the one that it closes waits for slot s; and it takes none
abbrev pub KnowsAt : ℕ → ℕ → Part → State → Type 0
KnowsAt i s told.Plain m = m.closing i ≡ 0
KnowsAt i s told.Flushing m = m.closing i ≡ 0
KnowsAt i s told.Trying m = (m.closing i ≡ 0) × (awaits (m.debt (m.open_batch s) s) ≡ true)
KnowsAt i s (told.Marking t) m = (m.closing i ≡ 0) × (awaits (m.debt (m.open_batch s) s) ≡ true)
KnowsAt i s told.Pushing m = (y : ℕ) → m.stage y ≡ Closing i → awaits (m.debt y s) ≡ true
KnowsAt i s told.Draining m = ⊥

-- A flush by row i of slot s, which is active, is at this part of its work.
pub record FlushesOn (i s : ℕ) (p : Part) (m : State) : Type 0 where
  pub none : HasNone i m
  pub active : is_active (m.head s) ≡ true
  pub knows : KnowsAt i s p m

-- debts

put_debt : (d : ℕ → Debt) (t s : ℕ) (v : Debt) → (s ≡ t → awaits v ≡ true) → awaits (d s) ≡ true → awaits (put d t v s) ≡ true
put_debt d t s v here there = by (eqb s t) (eqb-true s t)
  where
    by : (b : Bool) → (b ≡ true → s ≡ t) → awaits (cond b v (d s)) ≡ true
    by true e = here (e refl)
    by false e = there

unseen : (d : Debt) (t k : ℕ) → k ≡ 0 → SeenIs d t k → awaits d ≡ true
unseen Unscanned t k none l = refl
unseen Marked t k none l = refl
unseen Gone t k none l = absurd (omega (arith, none, l))
unseen Skipped t k none l = absurd (omega (arith, none, l))
unseen Owing t k none l = refl
unseen (Loose i) t k none l = absurd (omega (arith, none, l))
unseen Counted t k none l = absurd (omega (arith, none, l))

passed_awaits : (d : Debt) → (d ≡ Unscanned → ⊥) → awaits d ≡ true → awaits (moves.passed d) ≡ true
passed_awaits Unscanned seen e = absurd (seen refl)
passed_awaits Marked seen e = refl
passed_awaits Gone seen e = absurd (cc e)
passed_awaits Skipped seen e = absurd (cc e)
passed_awaits Owing seen e = refl
passed_awaits (Loose i) seen e = absurd (cc e)
passed_awaits Counted seen e = absurd (cc e)

-- once all slots are scanned, and entries are put for all that are marked, it owes the slot one
owed : (d : Debt) → awaits d ≡ true → is_marked d ≡ 0 → (d ≡ Unscanned → ⊥) → owes d ≡ 1
owed Unscanned e none seen = absurd (seen refl)
owed Marked e none seen = absurd (omega (arith, none))
owed Gone e none seen = absurd (cc e)
owed Skipped e none seen = absurd (cc e)
owed Owing e none seen = refl
owed (Loose i) e none seen = absurd (cc e)
owed Counted e none seen = absurd (cc e)

-- then its counter is not at zero
not_zero : (c put_all counted owing n : ℕ) → (c + counted) % 2 ^ 64 ≡ 0 → (c + put_all) % 2 ^ 64 ≡ 0 → put_all ≡ owing + counted → 1 ≤ owing → put_all ≤ n → n < 2 ^ 64 → ⊥
not_zero c put_all counted owing n before after parts some most small = omega (arith, before, after, parts, some, most, small)

-- a list has something, or nothing
some_none : {X : Type 0} (l : List X) (x : X) (xs : List X) → l ≡ x ∷ xs → l ≡ [] → ⊥
some_none l x xs some none = cc (some, none)

module _ (n i : ℕ) (small : n < 2 ^ 64) (c c2 : Settle) (m m2 : State) (inv : Inv n m) (slot_lt : c.slot < n) where
  abbrev s : ℕ
  s = c.slot

  abbrev x : ℕ
  x = m.open_batch s

  -- where it has come
  into : (v : State) (q : Part) → m2 ≡ v → part c2 ≡ q → FlushesOn i s q v → FlushesOn i s (part c2) m2
  into v q is part_is on = subst (λ (z : State). FlushesOn i s (part c2) z) (sym is) (subst (λ (r : Part). FlushesOn i s r v) (sym part_is) on)

  module _ (p : Part) (on : FlushesOn i s p m) where
    knows_at : (q : Part) → p ≡ q → KnowsAt i s q m
    knows_at q is = subst (λ (r : Part). KnowsAt i s r m) is on.knows

    -- a slot that is not active is another one
    other_slot : (t : ℕ) → is_active (m.head t) ≡ false → s ≡ t → ⊥
    other_slot t idle is = (let here = ap (λ (u : ℕ). is_active (m.head u)) is in let active = on.active in cc (here, idle, active))

    -- where it goes on with the same state but for who holds the batch
    held_as : (h : ℕ → ℕ) (q : Part) → KnowsAt i s q m → FlushesOn i s q (record m { holder = h })
    held_as h told.Plain k = record { none = record { loose = on.none.loose; left = on.none.left; pending = on.none.pending; puts = on.none.puts }; active = on.active; knows = k }
    held_as h told.Flushing k = record { none = record { loose = on.none.loose; left = on.none.left; pending = on.none.pending; puts = on.none.puts }; active = on.active; knows = k }
    held_as h told.Trying k = record { none = record { loose = on.none.loose; left = on.none.left; pending = on.none.pending; puts = on.none.puts }; active = on.active; knows = k }
    held_as h (told.Marking t) k = record { none = record { loose = on.none.loose; left = on.none.left; pending = on.none.pending; puts = on.none.puts }; active = on.active; knows = k }
    held_as h told.Pushing k = record { none = record { loose = on.none.loose; left = on.none.left; pending = on.none.pending; puts = on.none.puts }; active = on.active; knows = k }
    held_as h told.Draining k = absurd k

    -- a try has scanned so many slots, and the debts of its batch are these
    tried_as : (d : ℕ → Debt) (k : ℕ → ℕ) (todo : ℕ → List ℕ) → m.closing i ≡ 0 → awaits (d s) ≡ true → FlushesOn i s told.Trying (record m { debt = put m.debt x d; seen = k; todo = todo })
    tried_as d k todo none_closed e = record {
      none = record { loose = on.none.loose; left = on.none.left; pending = on.none.pending; puts = on.none.puts };
      active = on.active;
      knows = (none_closed, ap (λ (f : ℕ → Debt). awaits (f s)) (put_here m.debt x d) ∙ e);
    }

    -- all slots that were not scanned are passed, of which this is none
    all_passed : ((t : ℕ) → m.seen x ≤ t → t < n → is_active (m.head t) ≡ false) → awaits (m.debt x s) ≡ true → awaits (moves.passed_all n (m.debt x) s) ≡ true
    all_passed idle e = by (ltb s n)
      where
        seen : m.debt x s ≡ Unscanned → ⊥
        seen is =
            let behind : m.seen x ≤ s = subst (λ (d : Debt). SeenIs d s (m.seen x)) is (inv.debts.scanned x s) in
            other_slot s (idle s behind slot_lt) refl

        by : (b : Bool) → awaits (cond b (moves.passed (m.debt x s)) (m.debt x s)) ≡ true
        by true = passed_awaits (m.debt x s) seen e
        by false = e

    -- the batch is closed
    shut_as : m.seen x ≡ n → (m.closing i ≡ 0) × (awaits (m.debt x s) ≡ true) → FlushesOn i s told.Pushing (moves.closed n m i s x)
    shut_as all known = record {
      none = record { loose = on.none.loose; left = on.none.left; pending = on.none.pending; puts = on.none.puts };
      active = on.active;
      knows = λ y is. by y (eqb y m.next) (eqb y x) (eqb-true y x) is;
    }
      where
        by : (y : ℕ) (a b : Bool) → (b ≡ true → y ≡ x) → cond a (Open s) (cond b (Closing i) (m.stage y)) ≡ Closing i → awaits (cond b (moves.passed_all n (m.debt x)) (m.debt y) s) ≡ true
        by y true b is stage = absurd (cc stage)
        by y false true is stage = all_passed (λ t behind lt. absurd (omega (arith, all, behind, lt))) known.1
        by y false false is stage = absurd (let of = inv.batches.shut i y stage in let none = known.0 in omega (arith, of, none))

    -- an entry is put on the list of a slot,
    pushed_as : (y t d : ℕ) (es : List Entry) (rest : List ℕ) → m.stage y ≡ Closing i → ((z : ℕ) → m.stage z ≡ Closing i → awaits (m.debt z s) ≡ true)
        → FlushesOn i s told.Pushing (moves.pushed m y t d es rest)
    pushed_as y t d es rest stage known = record {
      none = record { loose = on.none.loose; left = on.none.left; pending = on.none.pending; puts = on.none.puts };
      active = still (eqb s t);
      knows = λ z is. by z (eqb z y) (eqb-true z y) is;
    }
      where
        still : (b : Bool) → is_active (cond b (Active (record { block = d; batch = y } ∷ es)) (m.head s)) ≡ true
        still true = refl
        still false = on.active

        by : (z : ℕ) (b : Bool) → (b ≡ true → z ≡ y) → m.stage z ≡ Closing i → awaits (cond b (put (m.debt y) t Owing) (m.debt z) s) ≡ true
        by z true is its = put_debt (m.debt y) t s Owing (λ e. refl) (known y stage)
        by z false is its = known z its

    -- or it has none any more, which is another slot
    missed_as : (y t : ℕ) (rest : List ℕ) → m.stage y ≡ Closing i → HasLeft m y t → ((z : ℕ) → m.stage z ≡ Closing i → awaits (m.debt z s) ≡ true)
        → FlushesOn i s told.Pushing (moves.missed m y t rest)
    missed_as y t rest stage left known = record {
      none = record { loose = on.none.loose; left = on.none.left; pending = on.none.pending; puts = on.none.puts };
      active = on.active;
      knows = λ z is. by z (eqb z y) is;
    }
      where
        stays : s ≡ t → HasLeft m y t → ⊥
        stays e (inl idle) = other_slot t idle e
        stays e (inr gone) = let here = known y stage in let k = ap (λ (u : ℕ). awaits (m.debt y u)) e in let none = ap awaits gone in cc (here, k, none)

        by : (z : ℕ) (b : Bool) → m.stage z ≡ Closing i → awaits (cond b (put (m.debt y) t Skipped) (m.debt z) s) ≡ true
        by z true its = put_debt (m.debt y) t s Skipped (λ e. absurd (stays e left)) (known y stage)
        by z false its = known z its

    -- the number of entries is added, and is not zero
    never_last : (y : ℕ) → m.stage y ≡ Closing i → m.todo y ≡ [] → (m.counter y + total was_put (m.debt y) n) % 2 ^ 64 ≡ 0 → ((z : ℕ) → m.stage z ≡ Closing i → awaits (m.debt z s) ≡ true) → ⊥
    never_last y stage todo zero known =
        not_zero (m.counter y) (total was_put (m.debt y) n) (total counts (m.debt y) n) (total owes (m.debt y) n) n tally.0 zero (put_parts (m.debt y) n)
        (let most = total_le owes (m.debt y) n s slot_lt in omega (arith, most, one)) (put_le (m.debt y) n) small
      where
        tally : ((m.counter y + total counts (m.debt y) n) % 2 ^ 64 ≡ 0) × (n ≤ m.seen y)
        tally = subst (λ (g : Stage). AtStage n g (m.counter y) (m.debt y) (m.seen y) (m.todo y)) stage (inv.batches.tally y)

        none_marked : is_marked (m.debt y s) ≡ 0
        none_marked = sym (inv.debts.marked y s) ∙ ap (count s) todo

        seen : m.debt y s ≡ Unscanned → ⊥
        seen is =
            let behind : m.seen y ≤ s = subst (λ (d : Debt). SeenIs d s (m.seen y)) is (inv.debts.scanned y s) in
            let all = tally.1 in
            omega (arith, behind, all, slot_lt)

        one : owes (m.debt y s) ≡ 1
        one = owed (m.debt y s) (known y stage) none_marked seen

    flush_by : Told n i c p m c2 m2 → FlushesOn i s (part c2) m2
    flush_by (told.Stays is same_part) = into m p is same_part on
    flush_by (told.Holds is same_part) = into (moves.held m i s) p is same_part (held_as (put m.holder s (i + 1)) p on.knows)
    flush_by (told.HoldsNone is p_is plain none_left none_pending no_blocks) = into (moves.held m i s) told.Plain is plain (held_as (put m.holder s (i + 1)) told.Plain (knows_at told.Flushing p_is))
    flush_by (told.Gives is p_is plain) = into (moves.gave m s) told.Plain is plain (held_as (put m.holder s 0) told.Plain (knows_at told.Plain p_is))
    flush_by (told.Begins is p_is trying none_left none_pending some not_scanned) =
        into m told.Trying is trying
        (record { none = on.none; active = on.active; knows = (knows_at told.Flushing p_is, unseen (m.debt x s) s (m.seen x) not_scanned.seen (inv.debts.scanned x s)) })
    flush_by (told.Appends b bs pending is p_is plain none_left short) = absurd (some_none (m.pending i) b bs pending on.none.pending)
    flush_by (told.Fills b bs pending is p_is trying none_left long not_scanned) = absurd (some_none (m.pending i) b bs pending on.none.pending)
    flush_by (told.Skips t lt seen idle is p_is trying) =
        let k = knows_at told.Trying p_is in
        into (moves.skipped m x t) told.Trying is trying
        (tried_as (put (m.debt x) t Skipped) (put m.seen x (t + 1)) m.todo k.0 (put_debt (m.debt x) t s Skipped (λ e. absurd (other_slot t idle e)) k.1))
    flush_by (told.Passes idle is p_is trying) =
        let k = knows_at told.Trying p_is in
        into (passed_rest n m x) told.Trying is trying (tried_as (moves.passed_all n (m.debt x)) (put m.seen x n) m.todo k.0 (all_passed idle k.1))
    flush_by (told.Finds t lt seen active is p_is marking) = into m (told.Marking t) is marking (record { none = on.none; active = on.active; knows = knows_at told.Trying p_is })
    flush_by (told.Marks t lt seen is p_is trying) =
        let k = knows_at (told.Marking t) p_is in
        into (moves.marked m x t) told.Trying is trying
        (tried_as (put (m.debt x) t Marked) (put m.seen x (t + 1)) (put m.todo x (m.todo x ++ t ∷ [])) k.0 (put_debt (m.debt x) t s Marked (λ e. refl) k.1))
    flush_by (told.GivesUp t lt seen active as_many is p_is plain none_left) =
        into (moves.given_up m x) told.Plain is plain
        (record { none = record { loose = on.none.loose; left = on.none.left; pending = on.none.pending; puts = on.none.puts }; active = on.active; knows = (knows_at told.Trying p_is).0 })
    flush_by (told.Closes all enough some is p_is pushing none_left) = into (moves.closed n m i s x) told.Pushing is pushing (shut_as all (knows_at told.Trying p_is))
    flush_by (told.Pushes y t d es rest stage todo head is p_is pushing) = into (moves.pushed m y t d es rest) told.Pushing is pushing (pushed_as y t d es rest stage (knows_at told.Pushing p_is))
    flush_by (told.Misses y t rest stage todo left is p_is pushing) = into (moves.missed m y t rest) told.Pushing is pushing (missed_as y t rest stage left (knows_at told.Pushing p_is))
    flush_by (told.Sums y stage todo some is p_is plain none_left) =
        into (moves.summed n m i y) told.Plain is plain
        (record { none = record { loose = on.none.loose; left = on.none.left; pending = on.none.pending; puts = on.none.puts }; active = on.active; knows = put_here m.closing i 0 })
    flush_by (told.SumsLast y stage todo zero is p_is plain none_left) = absurd (never_last y stage todo zero (knows_at told.Pushing p_is))
    flush_by (told.Drains b bs left is p_is draining) = absurd (some_none (m.left i) b bs left on.none.left)
    flush_by (told.DrainsNone b bs left none_put is p_is draining) = absurd (some_none (m.left i) b bs left on.none.left)
    flush_by (told.Takes b bs left none_put is p_is plain) = absurd (some_none (m.left i) b bs left on.none.left)
    flush_by (told.TakesLast b left none_put is p_is plain) = absurd (some_none (m.left i) b [] left on.none.left)
    flush_by (told.Joins left is p_is plain) =
        into (moves.joined m i) told.Plain is plain
        (record {
          none = record {
            loose = on.none.loose;
            left = on.none.left;
            pending = put_here m.pending i (m.puts i ++ m.pending i) ∙ ap (λ (l : List ℕ). l ++ m.pending i) on.none.puts ∙ on.none.pending;
            puts = put_here m.puts i [];
          };
          active = on.active;
          knows = knows_at told.Plain p_is;
        })
    flush_by (told.Counts e es loose debt some is p_is plain none_left none_pending none_closed) = absurd (some_none (m.loose i) e es loose on.none.loose)
    flush_by (told.CountsLast e es loose debt zero is p_is plain none_left none_pending none_closed) = absurd (some_none (m.loose i) e es loose on.none.loose)

  -- So it goes on by each of its moves.
  pub flush_moves : FlushesOn i c.slot (part c) m → Told n i c (part c) m c2 m2 → FlushesOn i c.slot (part c2) m2
  flush_moves on went = flush_by (part c) on went
