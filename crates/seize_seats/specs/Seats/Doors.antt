-- Doors: behind the first strip there is a pointer for each further one, null as long as that is not there. A strip is found by one load, and put by one
-- exchange.
use Rattle.std.specs.Prelude.{◌≡◌, ℕ, zero, suc, ◌+◌, ◌*◌, ◌/◌, ◌^◌, ◌<◌, List, [], ◌∷◌, slice_index_or}
use mir.Syntax.{Ty, w64, w128, ty_int, ty_array, ty_struct, tcons, tnil}
use mir.Raw.{raw as bare}
use prog.Memory.{size}
use base.Fml.{Share, Fml, ftrue, fsep, fwand, fex, froom}
use denote.RattleType.{RattleType}
use denote.Memory.{lone}
use denote.RawPtr.{Ptr, null_ptr, block_ptr, block_of, count_of, InBlock, Testable}
use Rattle.core.specs.contracts.option.Option.{the_row as OptionOf}
use Rattle.std.specs.declared.alloc.Global.{Global}
use Rattle.std.specs.contracts.impls.GlobalAllocator.TheImpl.{ghosts}
use Rattle.core.specs.Sync.RawAtomic.Pointer.{cell}
use Rattle.seize_seats.specs.Seats.Seen.{fact, seen}
use Rattle.seize_seats.specs.Seats.Strips.{Strip, strip_coded}

-- the right to free a block of a type, which lies there
abbrev pub heap : Global
heap = record { memory = record { seal = tt } }

abbrev pub frees : Ty → Ptr → Fml
frees = ghosts.dealloc_token heap

-- so many pointers, side by side
abbrev pub pointers : ℕ → ℕ → List Ptr → Fml
pointers b o [] = ftrue
pointers b o (p ∷ ps) = fsep (cell b o p) (pointers b (o + 8) ps)

-- A further strip of so many numbers is one block, which lies at a multiple of 16, whatever the values are: a place for the value of each number, and behind
-- them five words for each.
module _ (R : RattleType) where
  abbrev pub places_type : ℕ → Ty
  places_type n = ty_array (lone (OptionOf R).mir) n

  abbrev pub words_type : ℕ → Ty
  words_type n = ty_array (ty_int w64) n

  abbrev pub block_type : ℕ → Ty
  block_type n = bare (ty_struct [] (tcons (places_type n) (tcons (words_type (n * 5)) (tcons (ty_array (ty_int w128) 0) tnil))))

  -- how many words would lie where the places do
  abbrev pub before : ℕ → ℕ
  before n = (n * size (lone (OptionOf R).mir) + 7) / 8

  -- how many bytes it has
  abbrev pub block_bytes : ℕ → ℕ
  block_bytes n = (before n + n * 5 + 1) / 2 * 16

  -- where its words lie, from where its places do
  abbrev pub words_from : ℕ → Ptr → Ptr
  words_from n p = block_ptr (block_of p) (before n * 8 + count_of p)

  -- The strip behind the k-th door is such a block, whose address can be compared with null. It has as many numbers as come before it; least: how many the
  -- first one has.
  abbrev pub IsFurther : ℕ → ℕ → Strip → Type 0
  IsFurther least k s =
      InBlock s.words × Testable s.words × (s.skip ≡ before s.size) × (s.values ≡ s.words)
      × (s.first ≡ least * 2 ^ k) × (s.size ≡ s.first) × (block_bytes s.size < 2 ^ 63)

  -- whoever has its places and its words has the block (as each type here, without the names of lifetimes)
  abbrev pub fits_again : ℕ → Ptr → Fml
  fits_again n p =
      fwand (fsep (froom (bare (places_type n)) (block_of p) (count_of p)) (froom (words_type (n * 5)) (block_of p) (before n * 8 + count_of p)))
      (froom (block_type n) (block_of p) (count_of p))

  -- the right to give the block of so many numbers back, which lies there; holds: the right to free a block of a type
  abbrev pub deed : (Ty → Ptr → Fml) → ℕ → Ptr → Fml
  deed holds n p = fsep (holds (block_type n) p) (fits_again n p)

  abbrev pub right_to : Strip → Fml
  right_to s = deed frees s.size s.words

-- the strip is the k-th of the list of this name, and stays so
abbrev pub stays : ℕ → ℕ → Strip → Fml
stays σ k s = fex Share (λ q. seen strip_coded.code σ q k s)

-- σ: the name of the list of the strips; Is: what is so of the strip behind the k-th door, which is the next one of the list; right: the right to give its memory back
module _ (σ : ℕ) (Is : ℕ → Strip → Type 0) (right : Strip → Fml) where
  abbrev pub behind : ℕ → Strip → Fml
  behind k s = fsep (fact (Is k s)) (fsep (stays σ (suc k) s) (right s))

  -- the k-th door
  abbrev pub door : ℕ → ℕ → ℕ → Strip → Fml
  door b o k s = fsep (cell b o s.words) (behind k s)

  -- so many doors from there on, from the k-th one on
  abbrev pub doors : ℕ → ℕ → ℕ → ℕ → List Strip → Fml
  doors b o zero k ss = ftrue
  doors b o (suc n) k [] = fsep (cell b o null_ptr) (doors b (o + 8) n (suc k) [])
  doors b o (suc n) k (s ∷ ss) = fsep (door b o k s) (doors b (o + 8) n (suc k) ss)

-- The doors from the k-th one on have the addresses of the words of these strips, and then come doors that are null.
abbrev pub AreBehind : (ℕ → Strip → Type 0) → ℕ → List Strip → List Ptr → Type 0
AreBehind Is k [] ps = (i : ℕ) → slice_index_or ps i null_ptr ≡ null_ptr
AreBehind Is k (s ∷ ss) [] = ⊥
AreBehind Is k (s ∷ ss) (p ∷ ps) = Is k s × (p ≡ s.words) × AreBehind Is (suc k) ss ps
