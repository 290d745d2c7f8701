-- From where an operation on a word of a block's own is made.
use Rattle.std.specs.Prelude.{◌≡◌, ℕ, ◌*◌, ◌^◌, ◌<◌}
use denote.RawPtr.{Ptr, InBlock}
use Rattle.seize_blocks.specs.declared.part.Landing.{Landing}

-- It is made from an address in a block. If own words lie at this one, it is that one, and as many words on.
abbrev pub Lands : Ptr → ℕ → Landing → Type 0
Lands at own l = InBlock l.at × (l.place < 2 ^ 60) × (InBlock at → own * 8 < 2 ^ 63 → (at ≡ l.at) × (l.place ≡ own))
