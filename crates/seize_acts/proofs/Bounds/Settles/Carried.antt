-- What a settling has in hand weighs, and what its moves leave of that: a block that keeps a list weighs so much that what comes off the list weighs less.
use Rattle.std.proofs.Common.{◌≡◌, ℕ, zero, suc, ◌+◌, ◌*◌, ◌<◌, ◌≤◌, Bool, true, false, cond, eqb, List, [], ◌∷◌, ◌++◌, length, length-append, refl, arith, ap, sym, subst, ◌∙◌}
use Rattle.seize.specs.declared.states.TheConstants.{LAST_SLOT, MOST_LOST}
use Rattle.seize.specs.declared.rows.settle.Settle.{Settle}
use Rattle.seize_model.specs.Given.SeizeWaitingHeld.{count}
use Rattle.seize_model.proofs.Given.SeizeMovesState.Ghost.{State, Entry, Life, Closing, put, is_deferred, lies_with, IsDeferred}
use Rattle.seize_model.proofs.Given.SeizeMovesState.Rule.{Inv}
use Rattle.seize_model.proofs.Given.SeizeMovesState.Moves
use Rattle.seize_model.proofs.Given.SeizeMemoryWords.Chains.{waiting, count_first}
use Rattle.seize_model.proofs.Given.SeizeRulePoints.Passed.{passed_rest}
use Rattle.seize_model.proofs.Given.SeizeRulePoints.Told.{Part, Plain, Flushing, Trying, Marking, Pushing, Draining, part, batch_now, Told, Stays, Holds, HoldsNone, Gives, Begins, Appends, Fills, Skips, Passes, Finds, Marks, GivesUp, Closes, Pushes, Misses, Sums, SumsLast, Drains, DrainsNone, Takes, TakesLast, Joins, Counts, CountsLast}
use Rattle.seize_acts.proofs.Bounds.Bounds.Machine.{MOST}
use Rattle.seize_model.proofs.Given.SeizeMemoryWords.Apart.{put_here}
use Rattle.seize_words.proofs.General.{at_most_itself as same}

-- what it costs to take the most blocks that there can be, and to push one entry, which loses no more exchanges than that

abbrev pub TAKING : ℕ
TAKING = 6 * MOST

abbrev pub PUSHING : ℕ
PUSHING = 2 * MOST_LOST + 4

-- what comes behind the scan of a try, without its pushes; a scan of one slot; a try; and what the retiring of a block may bring about
abbrev pub SHUTTING : ℕ
SHUTTING = 2 * MOST_LOST + TAKING + 10

abbrev pub SCANNING : ℕ
SCANNING = PUSHING + 3

abbrev pub TRYING : ℕ
TRYING = SCANNING * (LAST_SLOT + 1) + SHUTTING + 3

abbrev pub FILLING : ℕ
FILLING = TRYING + 6

-- and what a list may that comes off a block: of as many blocks as there are numbers each is passed, and retired; and an entry whose batch is the largest
abbrev pub DRAINING : ℕ
DRAINING = (FILLING + 1) * MOST + 10

abbrev pub COUNTING : ℕ
COUNTING = TAKING + 6

-- how many of these blocks may keep a list
abbrev pub carriers : (ℕ → Bool) → List ℕ → ℕ
carriers carrier [] = 0
carriers carrier (b ∷ l) = cond (carrier b) 1 0 + carriers carrier l

-- the list of the first block that is left to be taken was taken over
abbrev pub is_draining : Part → Bool
is_draining Draining = true
is_draining _ = false

-- the blocks of the batch that it closes
abbrev pub shut_at : (ℕ → List ℕ) → ℕ → List ℕ
shut_at blocks zero = []
shut_at blocks (suc x) = blocks x

abbrev pub shut : Part → (ℕ → List ℕ) → ℕ → List ℕ
shut Pushing blocks closing = shut_at blocks closing
shut _ blocks closing = []

-- The blocks that a row has before it which may keep a list: those to be taken, those to be retired, those of its slot's open batch, and those of the batch that
-- it closes; and those of a batch of the most blocks, for each entry that it has to count.
abbrev pub carried : ℕ → ℕ → Part → State → ℕ
carried j s p m =
    carriers m.carrier (waiting (is_draining p) (m.left j)) + carriers m.carrier (m.puts j) + carriers m.carrier (m.pending j)
    + carriers m.carrier (m.blocks (m.open_batch s)) + carriers m.carrier (shut p m.blocks (m.closing j)) + MOST * length (m.loose j)

-- the blocks that it has to retire
abbrev pub retiring : ℕ → State → ℕ
retiring j m = length (m.pending j) + length (m.puts j)

-- what it has to take, and to count
abbrev pub taking : ℕ → State → ℕ
taking j m = 6 * length (m.left j) + COUNTING * length (m.loose j)

-- What is left behind the work that it is at: the lists of its blocks, the blocks that it has to retire, what it has to take and to count.
abbrev pub owes : ℕ → ℕ → Part → State → ℕ
owes j s p m = DRAINING * carried j s p m + FILLING * retiring j m + taking j m

-- lists of blocks

pub carriers-append : (k : ℕ → Bool) (a b : List ℕ) → carriers k (a ++ b) ≡ carriers k a + carriers k b
carriers-append k [] b = omega arith
carriers-append k (c ∷ a) b = let ih = carriers-append k a b in omega (arith, ih)

carriers_few : (k : ℕ → Bool) (l : List ℕ) → carriers k l ≤ length l
carriers_few k [] = omega arith
carriers_few k (c ∷ l) = let ih = carriers_few k l in let one = bit (k c) in omega (arith, ih, one)
  where
    bit : (t : Bool) → ◌≤◌ (cond t 1 0) 1
    bit true = omega arith
    bit false = omega arith

carriers_none : (k : ℕ → Bool) (l : List ℕ) → ((c : ℕ) → 0 < count c l → k c ≡ false) → carriers k l ≡ 0
carriers_none k [] h = refl
carriers_none k (c ∷ l) h =
    let ih = carriers_none k l (λ d p. h d (omega (arith, p))) in
    let one = ap {B = ℕ} (λ (t : Bool). cond t 1 0) (h c (count_first c l)) in
    omega (arith, ih, one)

-- as many of the same blocks
pub carriers_same : (k k2 : ℕ → Bool) (l : List ℕ) → ((c : ℕ) → 0 < count c l → k2 c ≡ k c) → carriers k2 l ≡ carriers k l
carriers_same k k2 [] h = refl
carriers_same k k2 (c ∷ l) h =
    let ih = carriers_same k k2 l (λ d p. h d (omega (arith, p))) in
    let one = ap {B = ℕ} (λ (t : Bool). cond t 1 0) (h c (count_first c l)) in
    omega (arith, ih, one)

-- a block on the list of another one lies with it
lies : (t : ℕ) (l : Life) → 0 < is_deferred t l → lies_with t l ≡ true
lies t (IsDeferred u) p = by (eqb t u) p
  where
    by : (y : Bool) → ◌<◌ 0 (cond y 1 0) → y ≡ true
    by true p = refl
    by false p = absurd (omega (arith, p))
lies t _ p = absurd (omega (arith, p))

-- What a move leaves: no more lists to come; no more to retire, unless it takes a list over; no more to take, unless a try ends.
pub record NoMore (j s : ℕ) (m : State) (p p2 : Part) (m2 : State) : Type 0 where
  pub lists : carried j s p2 m2 ≤ carried j s p m
  pub retires : (p2 ≡ Draining → p ≡ Draining) → retiring j m2 ≤ retiring j m
  pub takes : (p ≡ Pushing → p2 ≡ Plain → ⊥) → taking j m2 ≤ taking j m
  pub counts : length (m2.loose j) ≤ length (m.loose j)
  pub weighs : DRAINING * carried j s p2 m2 + FILLING * retiring j m2 ≤ DRAINING * carried j s p m + FILLING * retiring j m

weighed : (a a2 b b2 : ℕ) → a2 ≤ a → b2 ≤ b → DRAINING * a2 + FILLING * b2 ≤ DRAINING * a + FILLING * b
weighed a a2 b b2 h k = omega (arith, h, k)

le : (a b : ℕ) → a ≡ b → a ≤ b
le a b e = omega (arith, e)

module _ (n j s : ℕ) (m : State) (inv : Inv n m) where
  abbrev Leaves : Part → Part → State → Type 0
  Leaves p p2 q = NoMore j s m p p2 q

  -- no more of each
  parts : (p p2 : Part) (q : State) → carried j s p2 q ≤ carried j s p m → retiring j q ≤ retiring j m
      → ((p ≡ Pushing → p2 ≡ Plain → ⊥) → taking j q ≤ taking j m) → length (q.loose j) ≤ length (m.loose j) → Leaves p p2 q
  parts p p2 q a b c d = record {
    lists = a;
    retires = λ z. b;
    takes = c;
    counts = d;
    weighs = weighed (carried j s p m) (carried j s p2 q) (retiring j m) (retiring j q) a b;
  }

  -- as much
  even : (p p2 : Part) (q : State) → carried j s p2 q ≡ carried j s p m → retiring j q ≡ retiring j m → taking j q ≡ taking j m → q.loose j ≡ m.loose j
      → Leaves p p2 q
  even p p2 q a b c d =
      parts p p2 q (le (carried j s p2 q) (carried j s p m) a) (le (retiring j q) (retiring j m) b) (λ z. le (taking j q) (taking j m) c)
      (le (length (q.loose j)) (length (m.loose j)) (ap (length) d))

  abbrev k : ℕ → Bool
  k = m.carrier

  -- a block goes into the open batch
  appended : (b : ℕ) (bs : List ℕ) → m.pending j ≡ b ∷ bs → (p2 : Part) → is_draining p2 ≡ false
      → ((blocks : ℕ → List ℕ) → shut p2 blocks (m.closing j) ≡ []) → Leaves Plain p2 (Moves.appended m j b bs (m.open_batch s))
  appended b bs is p2 none no_shut =
      parts Plain p2 (Moves.appended m j b bs (m.open_batch s))
      (let a = ap (carriers k) (put_here m.pending j bs) in
      let o = ap (carriers k) (put_here m.blocks (m.open_batch s) (m.blocks (m.open_batch s) ++ b ∷ [])) ∙ carriers-append k (m.blocks (m.open_batch s)) (b ∷ []) in
      let l = ap (carriers k) is in
      let f = ap (λ (t : Bool). carriers k (waiting t (m.left j))) none in
      let z = ap (carriers k) (no_shut (put m.blocks (m.open_batch s) (m.blocks (m.open_batch s) ++ b ∷ []))) in
      omega (arith, a, o, l, f, z))
      (let a = ap (length) (put_here m.pending j bs) in
      let l = ap (length) is in
      omega (arith, a, l))
      (λ z. same (taking j m)) (same (length (m.loose j)))

  -- the batch is closed, and an empty one opens
  closed : Leaves Trying Pushing (Moves.closed n m j s (m.open_batch s))
  closed =
      parts Trying Pushing (Moves.closed n m j s (m.open_batch s))
      (let o = ap (λ (y : ℕ). carriers k (m.blocks y)) (put_here m.open_batch s m.next)
      ∙ ap (carriers k) (inv.batches.blank m.next (inv.batches.fresh m.next (same m.next))) in
      let z = ap (λ (y : ℕ). carriers k (shut_at m.blocks y)) (put_here m.closing j (m.open_batch s + 1) ∙ next (m.open_batch s)) in
      omega (arith, o, z))
      (same (retiring j m)) (λ z. same (taking j m)) (same (length (m.loose j)))
    where
      next : (y : ℕ) → y + 1 ≡ suc y
      next y = omega arith

  -- it is closed, and does not come to nothing
  summed : (y : ℕ) → Leaves Pushing Plain (Moves.summed n m j y)
  summed y =
      parts Pushing Plain (Moves.summed n m j y) (omega arith) (same (retiring j m)) (λ z. same (taking j m)) (same (length (m.loose j)))

  -- or comes to nothing
  summed_last : (y : ℕ) → m.stage y ≡ Closing j → Leaves Pushing Plain (Moves.gives_up (Moves.summed n m j y) j y)
  summed_last y stage =
      parts Pushing Plain (Moves.gives_up (Moves.summed n m j y) j y)
      (let a = ap (carriers k) (put_here m.left j (m.blocks y)) in
      let z = ap (λ (c : ℕ). carriers k (shut_at m.blocks c)) (inv.batches.shut j y stage ∙ next y) in
      omega (arith, a, z))
      (same (retiring j m)) (λ z. absurd (z refl refl)) (same (length (m.loose j)))
    where
      next : (y : ℕ) → y + 1 ≡ suc y
      next y = omega arith

  -- a list is taken over

  -- what is on the list of a block keeps none, and the block one
  on_list : (b c : ℕ) → 0 < count c (m.deferred b) → (m.carrier c ≡ false) × (m.carrier b ≡ true)
  on_list b c p =
      let some = inv.places.all_deferred b c in
      let z = inv.places.carries c b (lies b (m.life c) (omega (arith, p, some))) in
      (z.0, z.1)

  drained_lists : (b : ℕ) (bs : List ℕ) → m.left j ≡ b ∷ bs → carried j s Draining (Moves.drained m j b) + cond (k b) 1 0 ≤ carried j s Plain m
  drained_lists b bs is =
      let a = ap (carriers k) (put_here m.puts j (m.puts j ++ m.deferred b)) ∙ carriers-append k (m.puts j) (m.deferred b) in
      let none = carriers_none k (m.deferred b) (λ c p. (on_list b c p).0) in
      let f = ap (λ (d : List ℕ). carriers k (waiting true d)) is in
      let g = ap (carriers k) is in
      omega (arith, a, none, f, g)

  drained : (b : ℕ) (bs : List ℕ) → m.left j ≡ b ∷ bs → length (put m.puts j (m.puts j ++ m.deferred b) j) ≤ MOST → Leaves Plain Draining (Moves.drained m j b)
  drained b bs is few = by (m.deferred b) refl
    where
      fewer : carried j s Draining (Moves.drained m j b) + cond (k b) 1 0 ≤ carried j s Plain m
      fewer = drained_lists b bs is

      more : (a a2 p u v : ℕ) → v ≤ MOST → a2 + 1 ≤ a → DRAINING * a2 + FILLING * (p + v) ≤ DRAINING * a + FILLING * (p + u)
      more a a2 p u v few h = omega (arith, few, h)

      by : (l : List ℕ) → m.deferred b ≡ l → Leaves Plain Draining (Moves.drained m j b)
      by [] e =
          let a = ap (length) (put_here m.puts j (m.puts j ++ m.deferred b)) ∙ length-append (m.puts j) (m.deferred b) in
          let none = ap (length) e in
          let f = fewer in
          parts Plain Draining (Moves.drained m j b) (omega (arith, f)) (omega (arith, a, none)) (λ z. same (taking j m)) (same (length (m.loose j)))
      by (c ∷ l) e =
          let one = ap {B = ℕ} (λ (t : Bool). cond t 1 0) (on_list b c (subst (λ (d : List ℕ). 0 < count c d) (sym e) (count_first c l))).1 in
          let f = fewer in
          record {
            lists = omega (arith, f);
            retires = λ z. absurd (cc (z refl));
            takes = λ z. same (taking j m);
            counts = same (length (m.loose j));
            weighs = more (carried j s Plain m) (carried j s Draining (Moves.drained m j b)) (length (m.pending j)) (length (m.puts j))
                (length (put m.puts j (m.puts j ++ m.deferred b) j)) few (omega (arith, f, one));
          }

  -- where it keeps none
  none_lists : (b : ℕ) (bs : List ℕ) → m.left j ≡ b ∷ bs → carried j s Draining m + cond (k b) 1 0 ≤ carried j s Plain m
  none_lists b bs is =
      let f = ap (λ (d : List ℕ). carriers k (waiting true d)) is in
      let g = ap (carriers k) is in
      omega (arith, f, g)

  drained_none : (b : ℕ) (bs : List ℕ) → m.left j ≡ b ∷ bs → Leaves Plain Draining m
  drained_none b bs is =
      parts Plain Draining m (let f = none_lists b bs is in omega (arith, f)) (same (retiring j m)) (λ z. same (taking j m)) (same (length (m.loose j)))

  -- a block is taken

  taken : (b : ℕ) (bs : List ℕ) → m.left j ≡ b ∷ bs → Leaves Draining Plain (Moves.taken m j b bs)
  taken b bs is =
      parts Draining Plain (Moves.taken m j b bs)
      (let a = ap (carriers k) (put_here m.left j bs) in
      let f = ap (λ (d : List ℕ). carriers k (waiting true d)) is in
      omega (arith, a, f))
      (same (retiring j m))
      (λ z.
      let a = ap (length) (put_here m.left j bs) in
      let l = ap (length) is in
      omega (arith, a, l))
      (same (length (m.loose j)))

  -- what was put is to be retired before the rest
  joined_long : length (put m.pending j (m.puts j ++ m.pending j) j) + length (put m.puts j [] j) ≤ retiring j m
  joined_long =
      let a = ap (length) (put_here m.pending j (m.puts j ++ m.pending j)) ∙ length-append (m.puts j) (m.pending j) in
      let b = ap (length) (put_here m.puts j []) in
      omega (arith, a, b)

  joined_lists : carriers k (put m.pending j (m.puts j ++ m.pending j) j) + carriers k (put m.puts j [] j) ≡ carriers k (m.pending j) + carriers k (m.puts j)
  joined_lists =
      let a = ap (carriers k) (put_here m.pending j (m.puts j ++ m.pending j)) ∙ carriers-append k (m.puts j) (m.pending j) in
      let b = ap (carriers k) (put_here m.puts j []) in
      omega (arith, a, b)

  taken_last : (b : ℕ) → m.left j ≡ b ∷ [] → Leaves Draining Plain (Moves.joined (Moves.taken m j b []) j)
  taken_last b is =
      parts Draining Plain (Moves.joined (Moves.taken m j b []) j)
      (let a = ap (carriers k) (put_here m.left j []) in
      let f = ap (λ (d : List ℕ). carriers k (waiting true d)) is in
      let z = joined_lists in
      omega (arith, a, f, z))
      joined_long
      (λ z.
      let a = ap (length) (put_here m.left j []) in
      let l = ap (length) is in
      omega (arith, a, l))
      (same (length (m.loose j)))

  joined : Leaves Plain Plain (Moves.joined m j)
  joined =
      parts Plain Plain (Moves.joined m j) (let z = joined_lists in omega (arith, z)) joined_long (λ z. same (taking j m)) (same (length (m.loose j)))

  -- an entry is counted

  counted : (e : Entry) (es : List Entry) → m.loose j ≡ e ∷ es → Leaves Plain Plain (Moves.counted m j e es)
  counted e es is =
      parts Plain Plain (Moves.counted m j e es) (let a = now in let l = ap (length) is in omega (arith, a, l)) (same (retiring j m))
      (λ z. let a = now in let l = ap (length) is in omega (arith, a, l)) (let a = now in let l = ap (length) is in omega (arith, a, l))
    where
      now : length (put m.loose j es j) ≡ length es
      now = ap (length) (put_here m.loose j es)

  counted_last : (e : Entry) (es : List Entry) → m.loose j ≡ e ∷ es → length (put m.left j (m.blocks e.batch) j) ≤ MOST
      → Leaves Plain Plain (Moves.gives_up (Moves.counted m j e es) j e.batch)
  counted_last e es is few =
      parts Plain Plain (Moves.gives_up (Moves.counted m j e es) j e.batch)
      (let c = carriers_few k (put m.left j (m.blocks e.batch) j) in
      let a = now in
      let l = ap (length) is in
      omega (arith, a, l, c, few))
      (same (retiring j m))
      (λ z. let a = now in let l = ap (length) is in omega (arith, a, l, few)) (let a = now in let l = ap (length) is in omega (arith, a, l))
    where
      now : length (put m.loose j es j) ≡ length es
      now = ap (length) (put_here m.loose j es)

-- by the move that a step makes
module _ (n j : ℕ) (m m2 : State) (inv : Inv n m) (few_left : length (m2.left j) ≤ MOST) (few_puts : length (m2.puts j) ≤ MOST) (c : Settle) (p : Part) (c2 : Settle)
  where
    abbrev So : Type 0
    So = NoMore j c.slot m p (part c2) m2

    at : (q : State) (a b : Part) → m2 ≡ q → p ≡ a → part c2 ≡ b → NoMore j c.slot m a b q → So
    at q a b e f g h =
        subst (λ (s : State). NoMore j c.slot m p (part c2) s) (sym e)
        (subst (λ (y : Part). NoMore j c.slot m p y q) (sym g) (subst (λ (y : Part). NoMore j c.slot m y b q) (sym f) h))

    -- nothing is taken, retired or counted
    quiet : (q : State) (a b : Part) → m2 ≡ q → p ≡ a → part c2 ≡ b → carried j c.slot b q ≡ carried j c.slot a m → retiring j q ≡ retiring j m
        → taking j q ≡ taking j m → q.loose j ≡ m.loose j → So
    quiet q a b e f g u v w z = at q a b e f g (even n j c.slot m inv a b q u v w z)

    pub no_more : Told n j c p m c2 m2 → So
    no_more (Stays e q) = quiet m p p e refl q refl refl refl refl
    no_more (Holds e q) = quiet (Moves.held m j c.slot) p p e refl q refl refl refl refl
    no_more (HoldsNone e q r s t u) = quiet (Moves.held m j c.slot) Flushing Plain e q r refl refl refl refl
    no_more (Gives e q r) = quiet (Moves.gave m c.slot) Plain Plain e q r refl refl refl refl
    no_more (Begins e q r s t u v) = quiet m Flushing Trying e q r refl refl refl refl
    no_more (Appends b bs pd e q r s t) =
        at (Moves.appended m j b bs (batch_now c m)) Plain Plain e q r (appended n j c.slot m inv b bs pd Plain refl (λ blocks. refl))
    no_more (Fills b bs pd e q r s t u) =
        at (Moves.appended m j b bs (batch_now c m)) Plain Trying e q r (appended n j c.slot m inv b bs pd Trying refl (λ blocks. refl))
    no_more (Skips t l s a e q r) = quiet (Moves.skipped m (batch_now c m) t) Trying Trying e q r refl refl refl refl
    no_more (Passes a e q r) = quiet (passed_rest n m (batch_now c m)) Trying Trying e q r refl refl refl refl
    no_more (Finds t l s a e q r) = quiet m Trying (Marking t) e q r refl refl refl refl
    no_more (Marks t l s e q r) = quiet (Moves.marked m (batch_now c m) t) (Marking t) Trying e q r refl refl refl refl
    no_more (GivesUp t l s a k e q r u) = quiet (Moves.given_up m (batch_now c m)) Trying Plain e q r refl refl refl refl
    no_more (Closes s k b e q r u) = at (Moves.closed n m j c.slot (batch_now c m)) Trying Pushing e q r (closed n j c.slot m inv)
    no_more (Pushes y t f es rest a b k e q r) = quiet (Moves.pushed m y t f es rest) Pushing Pushing e q r refl refl refl refl
    no_more (Misses y t rest a b k e q r) = quiet (Moves.missed m y t rest) Pushing Pushing e q r refl refl refl refl
    no_more (Sums y a b k e q r u) = at (Moves.summed n m j y) Pushing Plain e q r (summed n j c.slot m inv y)
    no_more (SumsLast y a b k e q r u) = at (Moves.gives_up (Moves.summed n m j y) j y) Pushing Plain e q r (summed_last n j c.slot m inv y a)
    no_more (Drains b bs l e q r) =
        at (Moves.drained m j b) Plain Draining e q r
        (drained n j c.slot m inv b bs l (subst (λ (s : State). length (s.puts j) ≤ MOST) e few_puts))
    no_more (DrainsNone b bs l d e q r) = at m Plain Draining e q r (drained_none n j c.slot m inv b bs l)
    no_more (Takes b bs l d e q r) = at (Moves.taken m j b bs) Draining Plain e q r (taken n j c.slot m inv b bs l)
    no_more (TakesLast b l d e q r) = at (Moves.joined (Moves.taken m j b []) j) Draining Plain e q r (taken_last n j c.slot m inv b l)
    no_more (Joins l e q r) = at (Moves.joined m j) Plain Plain e q r (joined n j c.slot m inv)
    no_more (Counts x xs l d k e q r u v w) = at (Moves.counted m j x xs) Plain Plain e q r (counted n j c.slot m inv x xs l)
    no_more (CountsLast x xs l d k e q r u v w) =
        at (Moves.gives_up (Moves.counted m j x xs) j x.batch) Plain Plain e q r
        (counted_last n j c.slot m inv x xs l (subst (λ (s : State). length (s.left j) ≤ MOST) e few_left))

-- A list was taken over: that of the first block to be taken.
pub record TakenOver (j s : ℕ) (m : State) (b : ℕ) (m2 : State) : Type 0 where
  pub lists : carried j s Draining m2 + cond (m.carrier b) 1 0 ≤ carried j s Plain m
  pub pends : m2.pending j ≡ m.pending j
  pub takes : taking j m2 ≡ taking j m

module _ (n j : ℕ) (m m2 : State) (inv : Inv n m) (c : Settle) (p : Part) (c2 : Settle) (b : ℕ) (bs : List ℕ) (left : m.left j ≡ b ∷ bs) where
  first : (d : ℕ) (ds : List ℕ) → m.left j ≡ d ∷ ds → b ≡ d
  first d ds e = let k : b ∷ bs ≡ d ∷ ds = sym left ∙ e in cc k

  pub taken_over : p ≡ Plain → part c2 ≡ Draining → Told n j c p m c2 m2 → TakenOver j c.slot m b m2
  taken_over pl dr (Drains d ds l e q r) =
      subst (λ (s : State). TakenOver j c.slot m b s) (sym e)
      (record {
        lists = subst (λ (d : ℕ). carried j c.slot Draining (Moves.drained m j d) + cond (m.carrier b) 1 0 ≤ carried j c.slot Plain m) (first d ds l)
            (drained_lists n j c.slot m inv b bs left);
        pends = refl;
        takes = refl;
      })
  taken_over pl dr (DrainsNone d ds l u e q r) =
      subst (λ (s : State). TakenOver j c.slot m b s) (sym e) (record { lists = none_lists n j c.slot m inv b bs left; pends = refl; takes = refl })
  taken_over pl dr (Stays e q) = absurd (cc (q, pl, dr))
  taken_over pl dr (Holds e q) = absurd (cc (q, pl, dr))
  taken_over pl dr (HoldsNone e q r s t u) = absurd (cc (r, dr))
  taken_over pl dr (Gives e q r) = absurd (cc (r, dr))
  taken_over pl dr (Begins e q r s t u v) = absurd (cc (r, dr))
  taken_over pl dr (Appends d ds pd e q r s t) = absurd (cc (r, dr))
  taken_over pl dr (Fills d ds pd e q r s t u) = absurd (cc (r, dr))
  taken_over pl dr (Skips t l s a e q r) = absurd (cc (r, dr))
  taken_over pl dr (Passes a e q r) = absurd (cc (r, dr))
  taken_over pl dr (Finds t l s a e q r) = absurd (cc (r, dr))
  taken_over pl dr (Marks t l s e q r) = absurd (cc (r, dr))
  taken_over pl dr (GivesUp t l s a k e q r u) = absurd (cc (r, dr))
  taken_over pl dr (Closes s k d e q r u) = absurd (cc (r, dr))
  taken_over pl dr (Pushes y t f es rest a d k e q r) = absurd (cc (r, dr))
  taken_over pl dr (Misses y t rest a d k e q r) = absurd (cc (r, dr))
  taken_over pl dr (Sums y a d k e q r u) = absurd (cc (r, dr))
  taken_over pl dr (SumsLast y a d k e q r u) = absurd (cc (r, dr))
  taken_over pl dr (Takes d ds l u e q r) = absurd (cc (r, dr))
  taken_over pl dr (TakesLast d l u e q r) = absurd (cc (r, dr))
  taken_over pl dr (Joins l e q r) = absurd (cc (r, dr))
  taken_over pl dr (Counts y xs l d k e q r u v w) = absurd (cc (r, dr))
  taken_over pl dr (CountsLast y xs l d k e q r u v w) = absurd (cc (r, dr))
