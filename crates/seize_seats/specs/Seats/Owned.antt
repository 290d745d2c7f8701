-- What the words, the places of values and a seat own. The words are lent for a lifetime of their own, whose token stays with whoever owns them, and a `&` to
-- them shows that it lasts. An invariant has the words, the values, and a quarter of each seat's view; three quarters of it are the seat's. It has the strips
-- of all numbers; whoever has the words has them by one strip, of which it is known that it is one of them.
use Rattle.std.specs.Prelude.{◌≡◌, ℕ, zero, suc, ◌+◌, ◌-◌, ◌*◌, ◌^◌, ◌<◌, ◌≤◌, Bool, true, List, [], ◌∷◌, Option, Some, None, length, replicate, take, drop, slice_get}
use mir.Syntax.{w64, ty_int, ty_array}
use prog.Memory.{size}
use base.Fraction.{full_share}
use base.Share.{quarter, three_quarters}
use base.Stored.{Gv, Coded, coded×, coded_ℕ, coded_via}
use base.Fml.{Lft, Share, Fml, ftrue, fsep, fex, flft, flent, fbor, fshr_bor}
use types.Keyed.{entries_from}
use denote.RattleType.{RattleType}
use denote.Memory.{part_at, lone}
use denote.RawPtr.{Ptr, block_ptr, null_ptr, block_of, count_of, InBlock, coded_ptr}
use Rattle.core.specs.contracts.option.Option.{the_row as OptionOf}
use Rattle.core.specs.Sync.RawAtomic.{word}
pub use Rattle.seize_seats.specs.Seats.Seen.{fact, itself, shared_view, seen, number_share_coded}
use Rattle.seize_seats.specs.Seats.Lendings.{lendable, in_hand}
use Rattle.seize_seats.specs.Seats.State.{State}
use Rattle.seize_seats.specs.Seats.Errands.{ViewCode, stakes}
use Rattle.seize_seats.specs.Seats.Stretches.{IsEven, invariant}
use Rattle.seize_seats.specs.Seats.Cells.{Body, Cell, Free, Claimed, Out, Has, Held, sign_of}
use Rattle.seize_seats.specs.Seats.Lines.{Parts, long, place_of, memory_of, AreLaid}
use Rattle.seize_seats.specs.Seats.Strips.{Strip, strip_coded, no_strip, further, Book, AreStrips}
use Rattle.seize_seats.specs.Seats.Doors.{IsFurther, frees, right_to, stays, doors}
use Rattle.seize_seats.specs.Seats.Buckets.{IsBucket, AreBuckets}
use Rattle.seize_words.specs.declared.at.At.{At}
use Rattle.seize_words.specs.declared.at.At.TheVariants.{Root, Used, Slot, Entry, Word}

-- the words lie side by side
abbrev pub row : ℕ → ℕ → List ℕ → Fml
row b o [] = ftrue
row b o (n ∷ ns) = fsep (word b o n) (row b (o + 8) ns)

-- where the own words of blocks lie, and how many they are: with its value D there is kept for each where they are
pub record Pieces (D : Type 0) : Type 0 where
  pub at : D → Ptr
  pub count : D → ℕ

abbrev pub pieces_at : {D : Type 0} → (D → Ptr) → (D → ℕ) → Pieces D
pieces_at at count = record { at = at; count = count }

-- As many words are there as is kept, and where there are any they lie in a block of memory.
abbrev pub IsPiece : {D : Type 0} → Pieces D → Body D → Type 0
IsPiece own x = (length x.1 ≡ own.count x.0) × (0 < own.count x.0 → InBlock (own.at x.0) × (own.count x.0 * 8 < 2 ^ 63))

-- the right to give the memory of so many words back, which lie there
abbrev pub words_right : ℕ → Ptr → Fml
words_right zero p = ftrue
words_right (suc n) p = frees (ty_array (ty_int w64) (suc n)) p

-- the own words of a block, with the right to give their memory back
abbrev pub piece : {D : Type 0} → Pieces D → Body D → Fml
piece own x =
    fsep (fact (IsPiece own x)) (fsep (row (block_of (own.at x.0)) (count_of (own.at x.0)) x.1) (words_right (own.count x.0) (own.at x.0)))

module _ {V : Type 0} (c : V → Gv) (γ : ℕ) where
  -- the views of the seats from this number on, of which none is there
  abbrev pub unborn : ℕ → V → Fml
  unborn id blank = entries_from shared_view γ id (λ _. (full_share, c blank))

  -- a quarter of each view
  abbrev pub quarters : ℕ → List V → Fml
  quarters id [] = ftrue
  quarters id (v ∷ vs) = fsep (seen c γ quarter id v) (quarters (suc id) vs)

  -- of seats that are there and those that are not
  abbrev pub ledger : V → List V → Fml
  ledger blank vs = fsep (quarters 0 vs) (unborn (length vs) blank)

-- the words of buckets of slots, one bucket after the other
abbrev pub lines : List Strip → List ℕ → Fml
lines [] ws = ftrue
lines (s ∷ ss) ws = fsep (row (block_of s.words) (count_of s.words) (take (s.size * 16) ws)) (lines ss (drop (s.size * 16) ws))

-- the right to give the memory of a bucket back
abbrev pub bucket_right : Strip → Fml
bucket_right s = words_right (s.size * 16) s.words

-- a bucket is a piece of memory
abbrev pub bucket_pieces : Pieces Strip
bucket_pieces = pieces_at (λ s. s.words) (λ s. s.size * 16)

-- of seats that may be on errands: α: the lifetime of the memory
abbrev pub sitting : {V : Type 0} → Lft → ViewCode V → ℕ → V → List V → Fml
sitting α c γ blank vs = fsep (ledger c.code γ blank vs) (stakes α γ c.away vs)

-- Who has a number: 0, or 1 where a call has its place in its hand, or two more than the name under which it is noted whose call has its value in the hand. The
-- call has left this share.
abbrev pub Hand : Type 0
Hand = ℕ × Share

abbrev pub hand_coded : Coded Hand
hand_coded = number_share_coded

abbrev pub resting : Hand
resting = (0, full_share)

abbrev pub busy : Share → Hand
busy e = (1, e)

abbrev pub held : ℕ → Share → Hand
held ρ e = (suc (suc ρ), e)

abbrev pub zeros : List ℕ
zeros = 0 ∷ 0 ∷ 0 ∷ 0 ∷ []

-- where the sign of a number was found 0, three quarters of the right to it
abbrev pub claim_owns : ℕ → ℕ → ℕ → Fml
claim_owns δ i zero = seen hand_coded.code δ three_quarters i resting
claim_owns δ i (suc found) = ftrue

-- the doors of all strips but the first one
abbrev pub doors_of : RattleType → Book → List Strip → Fml
doors_of R σ ss = doors σ.name (IsFurther R σ.least) (right_to R) (block_of σ.doors) (count_of σ.doors) 32 0 ss

-- how many bytes a place has, which holds a value or none
abbrev pub stride : RattleType → ℕ
stride R = size (lone (OptionOf R).mir)

-- Under each number lie five words and a place for a value. α: the lifetime of the memory; δ: the name of the hands; lent: what stands for the body of a
-- block, whose value can be lent, under a number, at a place; had: what stands for one whose value a call has in its hand, by the name under which that is
-- noted.
module _ (R : RattleType) (α : Lft) (δ : ℕ) where
  abbrev pub hand : Share → ℕ → Hand → Fml
  hand q i h = seen hand_coded.code δ q i h

  abbrev pub place : ℕ → ℕ → Option R.Denot → Fml
  place b o x = part_at (OptionOf R) full_share x b o

  -- the entry's words, and the place of the value
  abbrev pub inside : ℕ → ℕ → ℕ → ℕ → List ℕ → Option R.Denot → Fml
  inside b o b' o' ws x = fsep (row b o ws) (place b' o' x)

  module _ (lent : ℕ → Body R.Denot → ℕ → ℕ → Fml) (had : ℕ → ℕ → Body R.Denot → Fml) where
    -- the entry's words, and a body whose value can be lent
    abbrev pub offered : ℕ → ℕ → ℕ → ℕ → ℕ → List ℕ → Body R.Denot → Fml
    offered b o b' o' i ws x = fsep (row b o ws) (lent i x b' o')

    abbrev pub kept : ℕ → ℕ → ℕ → ℕ → ℕ → Cell R.Denot → Fml
    kept b o b' o' i Free = fsep (hand full_share i resting) (inside b o b' o' zeros None)
    kept b o b' o' i Claimed = fsep (hand quarter i resting) (inside b o b' o' zeros None)
    kept b o b' o' i (Out e) = fsep (hand quarter i (busy e)) (flft α e)
    kept b o b' o' i (Has x ws) = fsep (hand full_share i resting) (offered b o b' o' i ws x)
    kept b o b' o' i (Held ρ e x ws) = fsep (hand quarter i (held ρ e)) (fsep (row b o ws) (fsep (flft α e) (had ρ i x)))

    abbrev pub under : ℕ → ℕ → ℕ → ℕ → ℕ → Cell R.Denot → Fml
    under b o b' o' i c = fsep (word b (o + 32) (sign_of c)) (kept b o b' o' i c)

    -- of all numbers from the i-th on
    abbrev pub numbers : ℕ → ℕ → ℕ → ℕ → ℕ → List (Cell R.Denot) → Fml
    numbers b o b' o' i [] = ftrue
    numbers b o b' o' i (c ∷ cs) = fsep (under b o b' o' i c) (numbers b (o + 40) b' (o' + stride R) (suc i) cs)

    -- of all numbers, strip by strip
    abbrev pub strips : List Strip → List (Cell R.Denot) → Fml
    strips [] cs = ftrue
    strips (s ∷ ss) cs =
        fsep (numbers (block_of s.words) (s.skip * 8 + count_of s.words) (block_of s.values) (count_of s.values) s.first (take s.size cs)) (strips ss (drop s.size cs))

    -- the list of the strips, which only grows, the hands of numbers that do not exist yet, and the doors
    abbrev pub listing : Book → List Strip → ℕ → Fml
    listing σ ss n = fsep (fsep (ledger strip_coded.code σ.name no_strip ss) (unborn hand_coded.code δ n resting)) (doors_of R σ (further ss))

    -- with it; Known: what is known of the list
    abbrev pub listed : Book → (List Strip → Type 0) → List (Cell R.Denot) → List Strip → Fml
    listed σ Known cs ss = fsep (listing σ ss (length cs)) (fsep (fact (AreStrips 0 ss (length cs) × Known ss)) (strips ss cs))

    abbrev pub all_strips : Book → (List Strip → Type 0) → List (Cell R.Denot) → Fml
    all_strips σ Known cs = fex (List Strip) (listed σ Known cs)

-- places for values, side by side
abbrev pub places : (R : RattleType) → ℕ → ℕ → List (Option R.Denot) → Fml
places R b o [] = ftrue
places R b o (x ∷ xs) = fsep (part_at (OptionOf R) full_share x b o) (places R b (o + stride R) xs)

-- the own words of the block whose value is in a place
abbrev pub piece_in : {D : Type 0} → Pieces D → Option D → Fml
piece_in own None = ftrue
piece_in own (Some x) = fex (List ℕ) (λ ws. piece own (x, ws))

abbrev pub pieces : {D : Type 0} → Pieces D → List (Option D) → Fml
pieces own [] = ftrue
pieces own (x ∷ xs) = fsep (piece_in own x) (pieces own xs)

-- A further strip that stands under no rule: its words and its places, and with them the right to give its block back. fresh: no place has a value yet.
module _ (R : RattleType) (own : Pieces R.Denot) (fresh : Bool) where
  abbrev pub AreOf : Strip → List ℕ × List (Option R.Denot) → Type 0
  AreOf s u = (length u.0 ≡ s.size * 5) × (length u.1 ≡ s.size) × (fresh ≡ true → u.1 ≡ replicate s.size None)

  abbrev pub stripped : Strip → Fml
  stripped s =
      fex (List ℕ × List (Option R.Denot)) (λ u. fsep (fact (AreOf s u))
      (fsep (row (block_of s.words) (s.skip * 8 + count_of s.words) u.0)
      (fsep (places R (block_of s.values) (count_of s.values) u.1) (pieces own u.1))))

  abbrev pub alone : Strip → Fml
  alone s = fsep (stripped s) (right_to R s)

  abbrev pub all_alone : List Strip → Fml
  all_alone [] = ftrue
  all_alone (s ∷ ss) = fsep (alone s) (all_alone ss)

-- Which memory: the atom of its lifetime, the names of the views, of the hands, of the strips and of the buckets of slots, how many roots it has and how many
-- numbers there may be, and where the words of roots and of the first bucket's slots lie; where the doors lie, and how many numbers the first strip has.
pub record Core : Type 0 where
  pub atom : ℕ
  pub views_name : ℕ
  pub hands_name : ℕ
  pub strips_name : ℕ
  pub roots : ℕ
  pub count : ℕ
  pub fixed : Ptr
  pub doors : Ptr
  pub least : ℕ
  pub slots_name : ℕ

-- Which words these are: of which memory, and of which of its strips: the place of that in the list, and the strip, but for the address of the words. And which
-- bucket of slots behind the first is known to be there, if it isn't 0.
pub record BaseId : Type 0 where
  pub atom : ℕ
  pub views_name : ℕ
  pub hands_name : ℕ
  pub strips_name : ℕ
  pub roots : ℕ
  pub count : ℕ
  pub fixed : Ptr
  pub place : ℕ
  pub skip : ℕ
  pub values : Ptr
  pub first : ℕ
  pub size : ℕ
  pub doors : Ptr
  pub least : ℕ
  pub slots_name : ℕ
  pub bucket : ℕ
  pub slots : Strip

abbrev pub base_id_coded : Coded BaseId
base_id_coded = coded_via (coded× coded_ℕ (coded× coded_ℕ (coded× coded_ℕ (coded× coded_ℕ (coded× coded_ℕ (coded× coded_ℕ
    (coded× coded_ptr (coded× coded_ℕ (coded× coded_ℕ (coded× coded_ptr (coded× coded_ℕ (coded× coded_ℕ (coded× coded_ptr (coded× coded_ℕ (coded× coded_ℕ (coded× coded_ℕ strip_coded))))))))))))))))
    (λ (z : BaseId). (z.atom, (z.views_name, (z.hands_name, (z.strips_name, (z.roots, (z.count, (z.fixed, (z.place, (z.skip, (z.values, (z.first, (z.size, (z.doors, (z.least, (z.slots_name, (z.bucket, z.slots)))))))))))))))))
    (λ x y e i. record {
      atom = (e i).0;
      views_name = (e i).1.0;
      hands_name = (e i).1.1.0;
      strips_name = (e i).1.1.1.0;
      roots = (e i).1.1.1.1.0;
      count = (e i).1.1.1.1.1.0;
      fixed = (e i).1.1.1.1.1.1.0;
      place = (e i).1.1.1.1.1.1.1.0;
      skip = (e i).1.1.1.1.1.1.1.1.0;
      values = (e i).1.1.1.1.1.1.1.1.1.0;
      first = (e i).1.1.1.1.1.1.1.1.1.1.0;
      size = (e i).1.1.1.1.1.1.1.1.1.1.1.0;
      doors = (e i).1.1.1.1.1.1.1.1.1.1.1.1.0;
      least = (e i).1.1.1.1.1.1.1.1.1.1.1.1.1.0;
      slots_name = (e i).1.1.1.1.1.1.1.1.1.1.1.1.1.1.0;
      bucket = (e i).1.1.1.1.1.1.1.1.1.1.1.1.1.1.1.0;
      slots = (e i).1.1.1.1.1.1.1.1.1.1.1.1.1.1.1.1;
    })

abbrev pub core_of : BaseId → Core
core_of z = record {
  atom = z.atom;
  views_name = z.views_name;
  hands_name = z.hands_name;
  strips_name = z.strips_name;
  roots = z.roots;
  count = z.count;
  fixed = z.fixed;
  doors = z.doors;
  least = z.least;
  slots_name = z.slots_name;
}

-- what the list of its strips is known by
abbrev pub book_in : Core → Book
book_in k = record { name = k.strips_name; doors = k.doors; least = k.least }

abbrev pub book_of : BaseId → Book
book_of z = book_in (core_of z)

abbrev pub age : BaseId → Lft
age z = z.atom ∷ []

abbrev pub strip_of : Ptr → BaseId → Strip
strip_of p z = record { words = p; skip = z.skip; values = z.values; first = z.first; size = z.size }

-- the index is that of one of its numbers
abbrev pub IsIts : BaseId → ℕ → Type 0
IsIts z i = (z.first ≤ i) × (i < z.first + z.size)

-- the same words, but for the names of the lifetime and of the views
abbrev pub IsLike : BaseId → BaseId → Type 0
IsLike y z =
    (y.roots ≡ z.roots) × (y.count ≡ z.count) × (y.hands_name ≡ z.hands_name) × (y.strips_name ≡ z.strips_name) × (y.fixed ≡ z.fixed)
    × (y.place ≡ z.place) × (y.skip ≡ z.skip) × (y.values ≡ z.values) × (y.first ≡ z.first) × (y.size ≡ z.size) × (y.doors ≡ z.doors) × (y.least ≡ z.least)
    × (y.slots_name ≡ z.slots_name) × (y.bucket ≡ z.bucket) × (y.slots ≡ z.slots)

-- it is the first strip: its words come behind those of roots and slots
abbrev pub IsFirst : Ptr → BaseId → Type 0
IsFirst p z = (z.fixed ≡ p) × (z.skip ≡ long z.roots) × (z.place ≡ 0) × (z.first ≡ 0)

-- where the word of a name lies, if it is one of these words
abbrev pub place_in : BaseId → At → ℕ
place_in z (Root r) = place_of z.roots (Root r)
place_in z (Used r) = place_of z.roots (Used r)
place_in z (Slot s field) = place_of z.roots (Slot s field)
place_in z (Entry b i) = (b - 1 - z.first) * 5 + z.skip + i
place_in z (Word b i) = 0

-- it is one of these words, if there is such a word: those of roots and of the first bucket's slots lie before the words of the first strip
abbrev pub IsIn : Ptr → BaseId → At → Type 0
IsIn p z (Root r) = z.fixed ≡ p
IsIn p z (Used r) = z.fixed ≡ p
IsIn p z (Slot s field) = (s < 32) × (z.fixed ≡ p)
IsIn p z (Entry b i) = IsIts z (b - 1)
IsIn p z (Word b i) = ⊥

-- the doors of the buckets behind the first, which follow those of strips
abbrev pub gates : Core → List Strip → Fml
gates k ss = doors k.slots_name IsBucket bucket_right (block_of k.doors) (256 + count_of k.doors) 32 0 ss

-- The words of roots and slots, with these buckets behind the first: where they lie, the list of the buckets, which only grows, and their doors. The first
-- bucket has no door, and another one stands for it in the list.
abbrev pub ground_of : Core → List ℕ → List Strip → Fml
ground_of k ws ss =
    fsep (fsep (row (block_of k.fixed) (count_of k.fixed) (take (long k.roots) ws)) (lines ss (drop (long k.roots) ws)))
    (fsep (fsep (ledger strip_coded.code k.slots_name no_strip (no_strip ∷ ss)) (gates k ss)) (fact (AreBuckets k.roots ws ss)))

abbrev pub ground : Core → List ℕ → Fml
ground k ws = fex (List Strip) (ground_of k ws)

-- what the invariant has beside the rule: what the memory is made of, and the views
pub record Inside (T V W : Type 0) : Type 0 where
  pub parts : Parts T
  pub blank : V
  pub views : List V
  pub world : W

abbrev pub state_of : {T V W : Type 0} → BaseId → Inside T V W → State T V W
state_of z i = record { memory = memory_of z.roots i.parts; views = i.views; world = i.world }

-- they lie in a block each, as the doors do, and are not too many for one
abbrev pub IsPlaced : RattleType → Ptr → BaseId → Type 0
IsPlaced R p z = InBlock p × ((z.skip + z.size * 5) * 8 < 2 ^ 63) × InBlock z.values × (z.size * stride R < 2 ^ 63) × InBlock z.doors

-- the invariant, where this is known of the list of the strips
module _ (R : RattleType) (own : Pieces R.Denot) {V W : Type 0} (c : ViewCode V) (holds : State R.Denot V W → Type 0) (k : Core) (Known : List Strip → Type 0) where
  -- the own words of a block, and its value, at a place
  abbrev pub lent_in : ℕ → Body R.Denot → ℕ → ℕ → Fml
  lent_in i x b o = fsep (piece own x) (lendable R (k.atom ∷ []) c.code k.views_name holds i x.0 b o)

  abbrev pub had_in : ℕ → ℕ → Body R.Denot → Fml
  had_in ρ i x = fsep (piece own x) (in_hand R (k.atom ∷ []) c.code k.views_name holds ρ i x.0)

  abbrev pub standing_in : Inside R.Denot V W → Fml
  standing_in i =
      fsep (fsep (ground k i.parts.words) (all_strips R (k.atom ∷ []) k.hands_name lent_in had_in (book_in k) Known i.parts.cells))
      (fsep (sitting (k.atom ∷ []) c k.views_name i.blank i.views)
      (fact (holds record { memory = memory_of k.roots i.parts; views = i.views; world = i.world } × AreLaid k.roots k.count i.parts)))

  abbrev pub inner_in : Fml
  inner_in = fex (Inside R.Denot V W) standing_in

-- the strip is one of the list
abbrev pub IsListed : Ptr → BaseId → List Strip → Type 0
IsListed p z ss = slice_get ss z.place ≡ Some (strip_of p z)

-- that a bucket is there, if it isn't the first
abbrev pub bucket_known : ℕ → ℕ → Strip → Fml
bucket_known σ zero s = ftrue
bucket_known σ (suc k) s = fsep (fact (IsBucket k s)) (stays σ (suc k) s)

-- and stays so: a share of its place in the list, which can be cut again and again; with what is known of a bucket of slots
abbrev pub is_listed : Ptr → BaseId → Fml
is_listed p z = fsep (stays z.strips_name z.place (strip_of p z)) (bucket_known z.slots_name z.bucket z.slots)

-- what shows that a strip is one of a memory's
abbrev pub strip_there : RattleType → Ptr → BaseId → Fml
strip_there R p z = fsep (fact (IsPlaced R p z)) (is_listed p z)

-- where there is an address
abbrev pub strip_known : RattleType → Ptr → BaseId → Fml
strip_known R null_ptr z = ftrue
strip_known R (block_ptr b o) z = strip_there R (block_ptr b o) z

-- what is told to all, and nothing that it keeps for itself
abbrev pub strip_owns : RattleType → Ptr → BaseId → Fml
strip_owns R p z = fsep (strip_known R p z) ftrue

module _ (R : RattleType) (own : Pieces R.Denot) {V W : Type 0} (c : ViewCode V) (holds : State R.Denot V W → Type 0) where
  -- the invariant itself
  abbrev pub everything : Core → Fml
  everything k = inner_in R own c holds k (λ _. Unit {0})

  module _ (p : Ptr) (z : BaseId) where
    -- what stands for the body of a block
    abbrev pub lent_here : ℕ → Body R.Denot → ℕ → ℕ → Fml
    lent_here i x b o = fsep (piece own x) (lendable R (age z) c.code z.views_name holds i x.0 b o)

    -- what stands for one whose value a call has in its hand
    abbrev pub had_here : ℕ → ℕ → Body R.Denot → Fml
    had_here ρ i x = fsep (piece own x) (in_hand R (age z) c.code z.views_name holds ρ i x.0)

    -- the invariant, as it is seen by who knows of the strip
    abbrev pub standing : Inside R.Denot V W → Fml
    standing = standing_in R own c holds (core_of z) (IsListed p z)

    abbrev pub inner : Fml
    inner = inner_in R own c holds (core_of z) (IsListed p z)

    -- what is told to all: the invariant, and the strip
    abbrev pub told : Fml
    told = fsep (is_listed p z) (invariant IsEven (fbor (age z) (everything (core_of z))))

    abbrev pub common : Fml
    common = fsep (fact (IsPlaced R p z)) told

    abbrev pub words_own : Fml
    words_own = fsep (flft (age z) full_share) (fsep common (flent (age z) (everything (core_of z))))

    abbrev pub words_share : Lft → Fml
    words_share κ = fsep (fshr_bor κ (λ q. flft (age z) q)) common
