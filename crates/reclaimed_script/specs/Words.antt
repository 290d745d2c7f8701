-- The words of a line, and what a name, a value and a number look like.
use Rattle.std.specs.Prelude.{◌≡◌, ℕ, ◌+◌, ◌-◌, ◌*◌, ◌^◌, Bool, true, false, ◌&&◌, ◌||◌, not, List, [], ◌∷◌, length, Option, Some, None, Result, Ok, Err, nat_lt, nat_le, ◌==◌, codes, bytes_eq, if◌then◌else◌}
use Rattle.std.specs.List.{slice_split, list_all}
use Rattle.reclaimed_script.specs.declared.fault.LineFault.{LineFault}
use Rattle.reclaimed_script.specs.declared.fault.LineFault.TheVariants.{BadWord, WrongNumberOfWords}

-- The words of a line are the pieces between single spaces: two spaces in a row have an empty word between them.
abbrev pub words_of : List ℕ → List (List ℕ)
words_of line = slice_split (λ b. b == 32) line

-- the words of what is left of a line behind a word: none behind the last
abbrev pub words_left : Option (List ℕ) → List (List ℕ)
words_left None = []
words_left (Some rest) = words_of rest

abbrev pub is_digit : ℕ → Bool
is_digit b = nat_le 48 b && nat_le b 57

abbrev pub is_letter : ℕ → Bool
is_letter b = (nat_le 65 b && nat_le b 90) || (nat_le 97 b && nat_le b 122)

-- what a name is made of
abbrev pub is_name_byte : ℕ → Bool
is_name_byte b = is_letter b || is_digit b

-- what a value is made of: letters, digits and `_`
abbrev pub is_value_byte : ℕ → Bool
is_value_byte b = is_name_byte b || b == 95

-- a name has 1 to 16 letters or digits
abbrev pub is_name : List ℕ → Bool
is_name word = nat_le 1 (length word) && nat_le (length word) 16 && list_all is_name_byte word

-- a value has 1 to 32 letters, digits or `_`
abbrev pub is_value : List ℕ → Bool
is_value word = nat_le 1 (length word) && nat_le (length word) 32 && list_all is_value_byte word

-- not empty, and no zero in front but in "0" itself
abbrev pub starts_well : List ℕ → Bool
starts_well [] = false
starts_well (_ ∷ []) = true
starts_well (first ∷ _ ∷ _) = not (first == 48)

-- digits alone, without leading zeros
abbrev pub is_decimal : List ℕ → Bool
is_decimal word = starts_well word && list_all is_digit word

-- the number that digits go on to, behind digits that stand for n
unfoldable pub value_from : ℕ → List ℕ → ℕ
value_from n [] = n
value_from n (digit ∷ digits) = value_from (10 * n + (digit - 48)) digits

-- What follows a step that found no fault.
infixl 10 ◌>>=◌
abbrev pub ◌>>=◌ : {A B : Type 0} → Result A LineFault → (A → Result B LineFault) → Result B LineFault
(Ok x) >>= f = f x
(Err fault) >>= f = Err fault

abbrev pub name_of : List ℕ → Result (List ℕ) LineFault
name_of word = if is_name word then Ok word else Err BadWord

-- a caller has a name, or a dash in its place
abbrev pub caller_of : List ℕ → Result (List ℕ) LineFault
caller_of word = if bytes_eq word (codes "-") then Ok word else name_of word

abbrev pub value_of : List ℕ → Result (List ℕ) LineFault
value_of word = if is_value word then Ok word else Err BadWord

-- a number is decimal, and below 2^64
unfoldable pub number_of : List ℕ → Result ℕ LineFault
number_of word = if is_decimal word && nat_lt (value_from 0 word) (2 ^ 64) then Ok (value_from 0 word) else Err BadWord

-- a number from low to high
unfoldable pub number_between : ℕ → ℕ → List ℕ → Result ℕ LineFault
number_between low high word = do
  n ← number_of word
  if nat_le low n && nat_le n high then Ok n else Err BadWord

-- the next word, and those behind it
abbrev pub next_of : List (List ℕ) → Result (List ℕ × List (List ℕ)) LineFault
next_of [] = Err WrongNumberOfWords
next_of (word ∷ words) = Ok (word, words)

-- no word
abbrev pub none_of : List (List ℕ) → Result (Unit {0}) LineFault
none_of [] = Ok tt
none_of _ = Err WrongNumberOfWords

-- one word, two or three words, and no more
abbrev pub one_of : List (List ℕ) → Result (List ℕ) LineFault
one_of (a ∷ []) = Ok a
one_of _ = Err WrongNumberOfWords

abbrev pub two_of : List (List ℕ) → Result (List ℕ × List ℕ) LineFault
two_of (a ∷ b ∷ []) = Ok (a, b)
two_of _ = Err WrongNumberOfWords

abbrev pub three_of : List (List ℕ) → Result (List ℕ × List ℕ × List ℕ) LineFault
three_of (a ∷ b ∷ c ∷ []) = Ok (a, b, c)
three_of _ = Err WrongNumberOfWords

-- What a function returned, seen by view, is what is said.
abbrev pub Gives : {X Y : Type 0} → (X → Y) → Result X LineFault → Result Y LineFault → Type 0
Gives view (Ok x) said = said ≡ Ok (view x)
Gives view (Err fault) said = said ≡ Err fault
