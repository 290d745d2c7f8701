-- The state of a memory that seats share, and what each step of a seat owes to the rule.
use Rattle.std.specs.Prelude.{◌≡◌, ◌≢◌, ℕ, List, [], ◌∷◌, ◌++◌, Option, Some, IsSome, slice_get, slice_set, replicate}
use Rattle.seize_words.specs.OneMemory.Mem.{Mem, Can, Took, value_at}
use Rattle.seize_words.specs.OneMemory.Op.{Op, Out, Take}

-- A seat is known by its number; each has a view, which is plain data: what it knows. The world is what the rule keeps beside these.
pub record State (T V W : Type 0) : Type 0 where
  pub memory : Mem T
  pub views : List V
  pub world : W

module _ {T V W : Type 0} where
  abbrev pub view_of : State T V W → ℕ → Option V
  view_of s id = slice_get s.views id

  -- a step of the seat has left this memory, this view and this world
  abbrev pub after : State T V W → Mem T → ℕ → V → W → State T V W
  after s m id v w = record { memory = m; views = slice_set s.views id v; world = w }

  -- one seat more is there, with this view
  abbrev pub joined : State T V W → V → W → State T V W
  joined s v w = record { memory = s.memory; views = s.views ++ v ∷ []; world = w }

  -- The rule holds of a memory with as many roots and nothing else, before there is a seat.
  abbrev pub Starts : (State T V W → Type 0) → ℕ → Type 0
  Starts holds roots =
      (w : W) × holds record {
        memory = record { roots = replicate roots 0; used = replicate roots 0; slots = []; blocks = []; choices = [] };
        views =
            [];
        world = w;
      }

  -- Two seats come to know something else at once, by what both knew, and all else stays.
  abbrev pub Meets : (State T V W → Type 0) → ℕ → V → ℕ → V → (V → V → Type 0) → Type 0
  Meets holds i v j u so =
      (s : State T V W) → holds s → view_of s i ≡ Some v → view_of s j ≡ Some u → i ≢ j
      → (v' u' : V) × holds record { memory = s.memory; views = slice_set (slice_set s.views i v') j u'; world = s.world } × so v' u'

  -- A seat comes that knows this, where three seats know what they know, and all else stays.
  abbrev pub Testifies : (State T V W → Type 0) → ℕ → V → ℕ → V → ℕ → V → V → Type 0
  Testifies holds i v j u k o x =
      (s : State T V W) → holds s → view_of s i ≡ Some v → view_of s j ≡ Some u → view_of s k ≡ Some o → (w : W) × holds (joined s x w)

  -- What a rule says: `holds` of the state between any two steps, and which blocks the view of one seat keeps in a world, as long as what another seat
  -- owns lasts.
  module _ (holds : State T V W → Type 0) (keeps : V → V → W → ℕ → Type 0) where
    -- what others keep stays kept
    abbrev pub PreservesKept : State T V W → ℕ → W → Type 0
    PreservesKept s id w =
        (j k b : ℕ) (u o : V) → j ≢ id → k ≢ id → view_of s j ≡ Some u → view_of s k ≡ Some o → keeps u o s.world b → keeps u o w b

    -- with this memory the seat has a view, and there is a world, by which the rule holds again
    abbrev pub Goes : State T V W → Mem T → ℕ → (V → Type 0) → Type 0
    Goes s m id so = (v : V) × (w : W) × holds (after s m id v w) × PreservesKept s id w × so v

    -- Whatever the state is, the seat may make the operation, and whatever it answers the rule holds again.
    abbrev pub Allows : ℕ → V → Op T → (Out T → V → Type 0) → Type 0
    Allows id v op so =
        (s : State T V W) → holds s → view_of s id ≡ Some v → Can s.memory op × ((out : Out T) (m : Mem T) → Took s.memory op out m → Goes s m id (so out))

    -- The seat may take the block away. So it has the block to itself: what another seat knows is so, too, where the block is gone.
    abbrev pub Owns : ℕ → V → ℕ → Type 0
    Owns id v b = Allows id v (Take b) (λ _ _. Unit {0})

    -- a step without an operation
    abbrev pub Turns : ℕ → V → (V → Type 0) → Type 0
    Turns id v so = (s : State T V W) → holds s → view_of s id ≡ Some v → Goes s s.memory id so

    -- A seat comes to know something else by what another one knows, and all else stays.
    abbrev pub Learns : ℕ → V → ℕ → V → (V → Type 0) → Type 0
    Learns i v j u so = (s : State T V W) → holds s → view_of s i ≡ Some v → view_of s j ≡ Some u → i ≢ j → Goes s s.memory i so

    -- What three seats know shows that two of them keep the block.
    abbrev pub KeptByTwo : ℕ → V → ℕ → V → ℕ → V → ℕ → Type 0
    KeptByTwo i v j u k o b =
        (s : State T V W) → holds s → view_of s i ≡ Some v → view_of s j ≡ Some u → view_of s k ≡ Some o → keeps u o s.world b

    -- What seats keep is there.
    abbrev pub AreThere : Type 0
    AreThere =
        (s : State T V W) (j : ℕ) (u : V) (k : ℕ) (o : V) (b : ℕ) → holds s → view_of s j ≡ Some u → view_of s k ≡ Some o → keeps u o s.world b
        → IsSome (value_at s.memory b)

    -- a seat comes, whoever is there
    abbrev pub Comes : V → Type 0
    Comes v = (s : State T V W) → holds s → (w : W) × holds (joined s v w) × ((b : ℕ) (u o : V) → keeps u o s.world b → keeps u o w b)
