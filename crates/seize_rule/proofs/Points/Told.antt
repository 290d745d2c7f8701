-- The part of its work that a settling row is at, and the move that each of its steps makes.
use Rattle.std.specs.Prelude.{nat_lt, ◌==◌, if◌then◌else◌}
use Rattle.std.proofs.Common.{◌≡◌, ℕ, ◌+◌, ◌-◌, ◌%◌, ◌^◌, ◌<◌, ◌≤◌, Bool, true, false, cond, eqb, List, [], ◌∷◌, length, refl, ap}
use Rattle.seize_moves.specs.Given.SeizeDeclared.rows.settle.Settle.{Settle}
use Rattle.seize_moves.specs.Given.SeizeDeclared.rows.settle.Settling.{Settling}
use Rattle.seize_moves.specs.Given.SeizeDeclared.rows.settle.Settling.TheVariants as at
use Rattle.seize_moves.specs.Given.SeizeDeclared.states.TheConstants.{ACTIVE}
use Rattle.seize_moves.specs.Given.SeizeSettle.{onward, with_batch, standing}
use Rattle.seize_moves.proofs.Moves.State.Ghost.{Entry, Active, Closing, Loose, State, was_put, total, is_active}
use Rattle.seize_moves.proofs.Moves.State.Rule.{open_length, HasLeft}
use Rattle.seize_rule.proofs.Points.Passed.{passed_rest}
use Rattle.seize_moves.proofs.Moves.State.Moves

pub data Part : Type 0 where
  Plain : Part  -- it reclaims, retires and counts, as its lists say
  Flushing : Part  -- it is to try its batch at any length
  Trying : Part  -- it scans the slots for its batch
  Marking : ℕ → Part  -- it has found this slot active
  Pushing : Part  -- its batch is closed, and its entries are being put
  Draining : Part  -- what the block put that is reclaimed next is taken over

abbrev pub flush_part : Bool → Part
flush_part flushing = cond flushing Flushing Plain

abbrev pub part_at : Bool → Settling → Part
part_at flushing at.Sees = flush_part flushing
part_at flushing at.Holds = flush_part flushing
part_at flushing (at.Firsts block) = flush_part (eqb block 0)
part_at flushing (at.Scans slot block marks) = Trying
part_at flushing (at.Marks slot block marks) = Marking slot
part_at flushing (at.Marked slot block marks) = Trying
part_at flushing (at.Closes marks) = Trying
part_at flushing (at.Reads block left pushed) = Pushing
part_at flushing (at.Links block left pushed slot head) = Pushing
part_at flushing (at.Pushes block left pushed slot head) = Pushing
part_at flushing (at.Pushed block left pushed) = Pushing
part_at flushing (at.Sums pushed) = Pushing
part_at flushing (at.Tails next) = Draining
part_at flushing (at.Takes next) = Draining
part_at flushing _ = Plain

abbrev pub part : Settle → Part
part c = part_at c.flushing c.stands

-- the open batch of its slot
abbrev pub batch_now : Settle → State → ℕ
batch_now c m = m.open_batch c.slot

-- nothing is left of a batch that it reclaims
pub record NoneLeft (i : ℕ) (m : State) : Type 0 where
  pub left : m.left i ≡ []
  pub puts : m.puts i ≡ []

-- no try of the batch is under way
pub record NotScanned (x : ℕ) (m : State) : Type 0 where
  pub seen : m.seen x ≡ 0
  pub todo : m.todo x ≡ []

-- the length of the open batch, as its word says once a block more is in it
abbrev pub length_word : State → ℕ → ℕ
length_word m s = (open_length m s % 2 ^ 64 + 1) % 2 ^ 64

-- From c, in this part of its work, and m to c2 and m2: the move, and what is known of it.
pub data Told (n i : ℕ) (c : Settle) (p : Part) (m : State) (c2 : Settle) (m2 : State) : Type 0 where
  -- no move
  Stays : m2 ≡ m → part c2 ≡ p → Told n i c p m c2 m2
  -- the batch is held, and given up
  Holds : m2 ≡ Moves.held m i c.slot → part c2 ≡ p → Told n i c p m c2 m2
  HoldsNone : m2 ≡ Moves.held m i c.slot → p ≡ Flushing → part c2 ≡ Plain → NoneLeft i m → m.pending i ≡ [] → m.blocks (batch_now c m) ≡ [] → Told n i c p m c2 m2
  Gives : m2 ≡ Moves.gave m c.slot → p ≡ Plain → part c2 ≡ Plain → Told n i c p m c2 m2
  -- a flush begins its try
  Begins : m2 ≡ m → p ≡ Flushing → part c2 ≡ Trying → NoneLeft i m → m.pending i ≡ [] → (m.blocks (batch_now c m) ≡ [] → ⊥) → NotScanned (batch_now c m) m → Told n i c p m c2 m2
  -- a block is retired: the batch is short still, or it is to be tried
  Appends : (b : ℕ) (bs : List ℕ) → m.pending i ≡ b ∷ bs → m2 ≡ Moves.appended m i b bs (batch_now c m) → p ≡ Plain → part c2 ≡ Plain → NoneLeft i m
      → nat_lt (length_word m c.slot) c.batch_size ≡ true → Told n i c p m c2 m2
  Fills : (b : ℕ) (bs : List ℕ) → m.pending i ≡ b ∷ bs → m2 ≡ Moves.appended m i b bs (batch_now c m) → p ≡ Plain → part c2 ≡ Trying → NoneLeft i m
      → nat_lt (length_word m c.slot) c.batch_size ≡ false → NotScanned (batch_now c m) m → Told n i c p m c2 m2
  -- a try
  Skips : (t : ℕ) → t < n → m.seen (batch_now c m) ≡ t → is_active (m.head t) ≡ false → m2 ≡ Moves.skipped m (batch_now c m) t → p ≡ Trying → part c2 ≡ Trying → Told n i c p m c2 m2
  Passes : ((t : ℕ) → m.seen (batch_now c m) ≤ t → t < n → is_active (m.head t) ≡ false) → m2 ≡ passed_rest n m (batch_now c m) → p ≡ Trying → part c2 ≡ Trying → Told n i c p m c2 m2
  Finds : (t : ℕ) → t < n → m.seen (batch_now c m) ≡ t → is_active (m.head t) ≡ true → m2 ≡ m → p ≡ Trying → part c2 ≡ Marking t → Told n i c p m c2 m2
  Marks : (t : ℕ) → t < n → m.seen (batch_now c m) ≡ t → m2 ≡ Moves.marked m (batch_now c m) t → p ≡ Marking t → part c2 ≡ Trying → Told n i c p m c2 m2
  GivesUp : (t : ℕ) → t < n → m.seen (batch_now c m) ≡ t → is_active (m.head t) ≡ true → length (m.todo (batch_now c m)) ≡ length (m.blocks (batch_now c m))
      → m2 ≡ Moves.given_up m (batch_now c m) → p ≡ Trying → part c2 ≡ Plain → NoneLeft i m → Told n i c p m c2 m2
  Closes : m.seen (batch_now c m) ≡ n → length (m.todo (batch_now c m)) ≤ length (m.blocks (batch_now c m)) → (m.blocks (batch_now c m) ≡ [] → ⊥)
      → m2 ≡ Moves.closed n m i c.slot (batch_now c m) → p ≡ Trying → part c2 ≡ Pushing → NoneLeft i m → Told n i c p m c2 m2
  -- entries are put
  Pushes : (y t d : ℕ) (es : List Entry) (rest : List ℕ) → m.stage y ≡ Closing i → m.todo y ≡ t ∷ rest → m.head t ≡ Active es → m2 ≡ Moves.pushed m y t d es rest
      → p ≡ Pushing → part c2 ≡ Pushing → Told n i c p m c2 m2
  Misses : (y t : ℕ) (rest : List ℕ) → m.stage y ≡ Closing i → m.todo y ≡ t ∷ rest → HasLeft m y t → m2 ≡ Moves.missed m y t rest
      → p ≡ Pushing → part c2 ≡ Pushing → Told n i c p m c2 m2
  Sums : (y : ℕ) → m.stage y ≡ Closing i → m.todo y ≡ [] → 0 < (m.counter y + total was_put (m.debt y) n) % 2 ^ 64 → m2 ≡ Moves.summed n m i y
      → p ≡ Pushing → part c2 ≡ Plain → NoneLeft i m → Told n i c p m c2 m2
  SumsLast : (y : ℕ) → m.stage y ≡ Closing i → m.todo y ≡ [] → (m.counter y + total was_put (m.debt y) n) % 2 ^ 64 ≡ 0 → m2 ≡ Moves.gives_up (Moves.summed n m i y) i y
      → p ≡ Pushing → part c2 ≡ Plain → NoneLeft i m → Told n i c p m c2 m2
  -- a batch is reclaimed
  Drains : (b : ℕ) (bs : List ℕ) → m.left i ≡ b ∷ bs → m2 ≡ Moves.drained m i b → p ≡ Plain → part c2 ≡ Draining → Told n i c p m c2 m2
  DrainsNone : (b : ℕ) (bs : List ℕ) → m.left i ≡ b ∷ bs → m.deferred b ≡ [] → m2 ≡ m → p ≡ Plain → part c2 ≡ Draining → Told n i c p m c2 m2
  Takes : (b : ℕ) (bs : List ℕ) → m.left i ≡ b ∷ bs → m.deferred b ≡ [] → m2 ≡ Moves.taken m i b bs → p ≡ Draining → part c2 ≡ Plain → Told n i c p m c2 m2
  TakesLast : (b : ℕ) → m.left i ≡ b ∷ [] → m.deferred b ≡ [] → m2 ≡ Moves.joined (Moves.taken m i b []) i → p ≡ Draining → part c2 ≡ Plain → Told n i c p m c2 m2
  Joins : m.left i ≡ [] → m2 ≡ Moves.joined m i → p ≡ Plain → part c2 ≡ Plain → Told n i c p m c2 m2
  -- an entry is counted down
  Counts : (e : Entry) (es : List Entry) → m.loose i ≡ e ∷ es → m.debt e.batch (m.from i) ≡ Loose i → 0 < (m.counter e.batch + (2 ^ 64 - 1)) % 2 ^ 64
      → m2 ≡ Moves.counted m i e es → p ≡ Plain → part c2 ≡ Plain → NoneLeft i m → m.pending i ≡ [] → m.closing i ≡ 0 → Told n i c p m c2 m2
  CountsLast : (e : Entry) (es : List Entry) → m.loose i ≡ e ∷ es → m.debt e.batch (m.from i) ≡ Loose i → (m.counter e.batch + (2 ^ 64 - 1)) % 2 ^ 64 ≡ 0
      → m2 ≡ Moves.gives_up (Moves.counted m i e es) i e.batch → p ≡ Plain → part c2 ≡ Plain → NoneLeft i m → m.pending i ≡ [] → m.closing i ≡ 0 → Told n i c p m c2 m2

-- where it goes on after a piece of work, save that a flush is to try its batch
pub onward_part : (c : Settle) → c.flushing ≡ false → part (onward c) ≡ Plain
onward_part c e = one (c.reclaiming == 0) (c.pending == 0) c.flushing e (nat_lt ACTIVE c.list) c.held (c.last == 0) c.held c.flushing e
  where
    one : (a b d : Bool) → d ≡ false → (l h z h2 d2 : Bool) → d2 ≡ false
        → part (if a then (if b then (if d then with_batch c else (if l then standing c at.Lists else (if h then standing c at.Gives else standing c at.Over)))
        else (if h2 then (if d2 then (if z then record c { flushing = false; stands = at.Gives } else record c { flushing = false; stands = at.Firsts 0 }) else standing c at.Pops) else standing c at.Sees))
        else standing c at.Nexts) ≡ Plain
    one a b true f l h z h2 d2 g = absurd (cc f)
    one a b false f l h z h2 true g = absurd (cc g)
    one false b false f l h z h2 false g = refl
    one true true false f true h z h2 false g = refl
    one true true false f false true z h2 false g = refl
    one true true false f false false z h2 false g = refl
    one true false false f l h z true false g = refl
    one true false false f l h z false false g = ap flush_part e
