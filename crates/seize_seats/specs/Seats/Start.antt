-- What a memory was as its present lifetime began: none was there before it is opened; each renewal begins another one, and changes nothing.
use Rattle.std.specs.Prelude.{◌≡◌, ℕ, List, [], Option, Some, replicate}
use Rattle.std.specs.Coded.{Coded, code_by, coded×, coded_ℕ, coded_list, coded_option}
use Rattle.seize_words.specs.OneMemory.Mem.{Mem}
use Rattle.seize_words.specs.declared.block.Block.{Block}
use Rattle.seize_seats.specs.Seats.State.{State, view_of}
use Rattle.seize_seats.specs.Seats.Errands.{AreIdle}

-- how a memory is stored, where its values are stored so
module _ {T : Type 0} (values : Coded T) where
  abbrev pub block_coded : Coded (Block T)
  block_coded =
      code_by (T × (List ℕ × List ℕ)) (coded× values (coded× (coded_list coded_ℕ) (coded_list coded_ℕ))) (λ (x : Block T). (x.value, (x.entry, x.words)))
      (λ p. record { value = p.0; entry = p.1.0; words = p.1.1 }) (λ x i. x)

  abbrev pub memory_coded : Coded (Mem T)
  memory_coded =
      code_by (List ℕ × (List ℕ × (List (List ℕ) × (List (Option (Block T)) × List ℕ))))
      (coded× (coded_list coded_ℕ) (coded× (coded_list coded_ℕ) (coded× (coded_list (coded_list coded_ℕ))
      (coded× (coded_list (coded_option block_coded)) (coded_list coded_ℕ))))) (λ (m : Mem T). (m.roots, (m.used, (m.slots, (m.blocks, m.choices)))))
      (λ p. record { roots = p.0; used = p.1.0; slots = p.1.1.0; blocks = p.1.1.1.0; choices = p.1.1.1.1 }) (λ x i. x)

module _ {T : Type 0} where
  -- so many roots, and nothing else
  abbrev pub bare : ℕ → Mem T
  bare roots = record { roots = replicate roots 0; used = replicate roots 0; slots = []; blocks = []; choices = [] }

-- The rule held of this memory as that lifetime began, and all seats rested.
abbrev pub WasIdle : {T V W : Type 0} → (V → Type 0) → (State T V W → Type 0) → Mem T → Type 0
WasIdle {T} {V} {W} rests holds m = (s : State T V W) × holds s × AreIdle rests s × (m ≡ s.memory)

-- and one of them knew so
abbrev pub WasKnown : {T V W : Type 0} → (V → Type 0) → (State T V W → Type 0) → ℕ → V → Mem T → Type 0
WasKnown {T} {V} {W} rests holds id v m = (s : State T V W) × holds s × (view_of s id ≡ Some v) × AreIdle rests s × (m ≡ s.memory)
