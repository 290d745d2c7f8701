-- What reading a script answers, and where a parser stands on the way.
use Rattle.std.specs.Prelude.{◌≡◌, ℕ, ◌≤◌, true, not, List, ◌++◌, length, take, count_by, Option, Result, Ok, Err, IsOk, IfSome, ◌==◌}
use Rattle.std.specs.List.{list_all}
use Rattle.reclaimed_script.specs.declared.fault.ScriptStop.{ScriptStop}
use Rattle.reclaimed_script.specs.declared.fault.ScriptStop.TheVariants.{Line, ReadFailed, NoMemory}
use Rattle.std.specs.Io.KnownBytes.{Consumes, Keeps, IsAtEnd}
use Rattle.reclaimed_script.specs.declared.reading.Turn.{Turn}
use Rattle.reclaimed_script.specs.declared.reading.Turn.TheVariants.{Bytes, End, Interrupted, Failed}
use Rattle.reclaimed_script.specs.declared.parser.Parser.{Parser}
use Rattle.reclaimed_script.specs.declared.parser.Script.{Script}
use Rattle.reclaimed_script.specs.Lines.{ScriptEvent}
use Rattle.reclaimed_script.specs.Script.{lines_of, script_from, script_of}

-- the first n lines of a text have no fault
abbrev pub StartsWell : ℕ → List ℕ → Type 0
StartsWell n bytes = (n ≤ length (lines_of bytes)) × IsOk (script_from 1 (take n (lines_of bytes)))

-- n lines were read whole when this was left: so many line feeds stand before it
abbrev pub HasRead : ℕ → List ℕ → Option (List ℕ) → Type 0
HasRead n bytes left = IfSome left (λ rest. (read : List ℕ) × (bytes ≡ read ++ rest) × (n ≡ count_by (λ b. b == 10) read))

-- Why reading this text stopped, where no input failed: the first faulty line, or memory at a line up to which there is no fault.
abbrev pub StopsAt : List ℕ → ScriptStop → Type 0
StopsAt bytes (Line n fault) = script_of bytes ≡ Err (n, fault)
StopsAt bytes (NoMemory n) = StartsWell n bytes
StopsAt bytes (ReadFailed n) = ⊥

-- What reading a text answers: its events and how many lines it has, or the first faulty line. Where the input
-- or memory failed, no line up to there is faulty.
abbrev pub Answers : List ℕ → Option (List ℕ) → Result Script ScriptStop → Type 0
Answers bytes left (Ok script) = (script_of bytes ≡ Ok script.events.items) × (script.lines ≡ length (lines_of bytes))
Answers bytes left (Err (Line n fault)) = script_of bytes ≡ Err (n, fault)
Answers bytes left (Err (NoMemory n)) = StartsWell n bytes
Answers bytes left (Err (ReadFailed n)) = StartsWell n bytes × HasRead n bytes left

-- After these bytes of a text: these lines were read whole and have no fault, and what stands behind them begins a line.
pub record IsAt (read : List ℕ) (events : List ScriptEvent) (count : ℕ) (line : List ℕ) : Type 0 where
  pub lines : List (List ℕ)
  pub goes_on : (rest : List ℕ) → lines_of (read ++ rest) ≡ lines ++ lines_of (line ++ rest)
  pub said : script_from 1 lines ≡ Ok events
  pub counted : length lines ≡ count
  pub feeds : count_by (λ b. b == 10) read ≡ count
  pub open_line : list_all (λ b. not (b == 10)) line ≡ true

abbrev pub StandsAfter : List ℕ → Parser → Type 0
StandsAfter read parser = IsAt read parser.events.items parser.lines parser.line.items

-- What reading an input answers, by the bytes that it had left before and has left after, where those are known.
abbrev pub Reads : Option (List ℕ) → Option (List ℕ) → Result Script ScriptStop → Type 0
Reads before after result = IfSome before (λ bytes. Answers bytes after result)

-- what one read of an input gave
abbrev pub GivesBytes : Option (List ℕ) → Option (List ℕ) → List ℕ → Turn → Type 0
GivesBytes before after buffer (Bytes n) = Consumes before after (take n buffer)
GivesBytes before after buffer End = Keeps before after × IsAtEnd before
GivesBytes before after buffer Interrupted = Keeps before after
GivesBytes before after buffer Failed = Keeps before after

-- the bytes are in the buffer
abbrev pub IsWithin : List ℕ → Turn → Type 0
IsWithin buffer (Bytes n) = n ≤ length buffer
IsWithin buffer _ = Unit {0}
