-- What the words of places say, by rows that were worked by hand: to a call that looks, to one that changes, and to one that stores.
use Rattle.std.specs.Prelude.{ℕ, ◌+◌, ◌*◌, ◌^◌, ◌≡◌, Bool, true, false, List, [], ◌∷◌}
use Rattle.std.proofs.Common.{refl}
use Rattle.map_tables.specs.Finding.{finding, may_name}
use Rattle.map_tables.specs.Marks.{has_mark, link_in, unmarked_in}
use Rattle.map_tables.specs.declared.finding.Aim.TheVariants.{Looks, Changes, Stores}
use Rattle.map_tables.specs.declared.finding.Finding.{Finding}
use Rattle.map_tables.specs.declared.finding.Finding.TheVariants.{Free, Passed, Moved, Copying, There}
use Rattle.map_tables.specs.declared.resize_mode.ResizeMode.{ResizeMode}
use Rattle.map_tables.specs.declared.resize_mode.ResizeMode.TheVariants.{Incremental, Blocking}

-- block 3 with byte 5 and no mark; what is buried; the marks
abbrev pair : ℕ
pair = 3 * 2048 + 5 * 8

abbrev buried : ℕ
buried = 2

abbrev copying : ℕ
copying = 1

abbrev copied : ℕ
copied = 2

abbrev borrowed : ℕ
borrowed = 4

abbrev says : ResizeMode → ℕ → Bool → List Finding
says mode word same = finding mode Looks word same ∷ finding mode Changes word same ∷ finding mode Stores word same ∷ []

-- an empty place, a buried pair, a pair of another key, a pair of the key
free : says (Incremental 1) 0 false ∷ says Blocking 0 false ∷ [] ≡ (Free ∷ Free ∷ Free ∷ []) ∷ (Free ∷ Free ∷ Free ∷ []) ∷ []
free = refl

passed : says (Incremental 1) buried false ∷ says (Incremental 1) pair false ∷ says Blocking buried false ∷ says Blocking pair false ∷ []
    ≡ (Passed ∷ Passed ∷ Passed ∷ []) ∷ (Passed ∷ Passed ∷ Passed ∷ []) ∷ (Passed ∷ Passed ∷ Passed ∷ []) ∷ (Passed ∷ Passed ∷ Passed ∷ []) ∷ []
passed = refl

found : says (Incremental 1) (pair + borrowed) true ∷ says Blocking (pair + borrowed) true ∷ [] ≡ (There ∷ There ∷ There ∷ []) ∷ (There ∷ There ∷ There ∷ []) ∷ []
found = refl

-- while a table is copied: an empty place that is marked, a pair that is to be copied, and one that was
shut : says (Incremental 1) copying false ∷ says Blocking copying false ∷ [] ≡ (Passed ∷ Passed ∷ Passed ∷ []) ∷ (Free ∷ Free ∷ Moved ∷ []) ∷ []
shut = refl

marked : says (Incremental 1) (pair + copying) true ∷ says Blocking (pair + copying) true ∷ []
    ≡ (There ∷ Copying ∷ Copying ∷ []) ∷ (There ∷ Moved ∷ Moved ∷ []) ∷ []
marked = refl

moved : says (Incremental 1) (pair + copying + copied) true ≡ Moved ∷ Moved ∷ Moved ∷ []
moved = refl

-- a word may name a pair of a key if it names a block and has the byte of the key's hash
named : may_name (5 * 2 ^ 57) pair ∷ may_name (5 * 2 ^ 57) (pair + copying) ∷ may_name (5 * 2 ^ 57) (pair + 8) ∷ may_name (5 * 2 ^ 57) (5 * 8) ∷ []
    ≡ true ∷ true ∷ false ∷ false ∷ []
named = refl

-- marks, what is left without them, and the link to the block
marks : has_mark (2048 + copying) copying ∷ has_mark (2048 + copying) copied ∷ has_mark (2048 + borrowed) (copied + borrowed) ∷ [] ≡ true ∷ false ∷ true ∷ []
marks = refl

parts : unmarked_in (pair + 5) ∷ unmarked_in buried ∷ link_in (pair + 5) ∷ [] ≡ pair ∷ 0 ∷ 3 * 2048 ∷ []
parts = refl
