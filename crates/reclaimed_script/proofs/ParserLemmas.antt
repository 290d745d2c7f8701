-- Where a parser stands after one byte more, and what it answers at a fault and at the end.
use Rattle.std.proofs.Common.{◌≡◌, ℕ, ◌+◌, ◌<◌, ◌≤◌, Bool, true, false, not, cond, eqb, ltb, List, [], ◌∷◌, ◌++◌, length, take, drop, get_or, add-one, drop-cons, Option, Result, Ok, Err, refl, sym, ap, subst, ◌∙◌, append_assoc, arith}
use Rattle.std.specs.Prelude.{IsOk, OnOk, IfErr, count_by}
use Rattle.std.proofs.lemmas.Bool.{le-ltb, lt-ltb, eqb-true}
use Rattle.std.proofs.lemmas.List.{append-nil, length-append, take_at, take-append-drop, nil_from_length}
use Rattle.std.proofs.lemmas.List.Sums.{sum_by-append}
use Rattle.std.proofs.lemmas.List.Folds.{list_all-append}
use Rattle.reclaimed_script.specs.declared.fault.LineFault.{LineFault}
use Rattle.reclaimed_script.specs.declared.fault.LineFault.TheVariants.{TooLong, TooManyLines}
use Rattle.reclaimed_script.specs.declared.fault.ScriptStop.{ScriptStop}
use Rattle.reclaimed_script.specs.declared.fault.ScriptStop.TheVariants.{Line, ReadFailed, NoMemory}
use Rattle.reclaimed_script.specs.Lines.{ScriptEvent, event_of}
use Rattle.reclaimed_script.specs.Script.{lines_of, one_event, events_of, line_at, script_from, script_of, Adds, AddsNothing}
use Rattle.reclaimed_script.specs.Reading.{StartsWell, StopsAt, Answers, IsAt}
use Rattle.reclaimed_script.proofs.ScriptLemmas.{is_open, lines_of-feed, lines_of-open, lines_of-begins, script_from-more, script_from-fault, line_at-long, BeginsLine, done as fine}

-- ---- one line

pub line_at-many : (number : ℕ) (line : List ℕ) → 1000000 < number → length line ≤ 256 → line_at number line ≡ Err TooManyLines
unfolding line_at
line_at-many number line many short =
    let fits : ltb 256 (length line) ≡ false = le-ltb _ _ short in
    let past : ltb 1000000 number ≡ true = lt-ltb _ _ many in
    rw (fits, past) refl

line_at-events : (number : ℕ) (line : List ℕ) → number ≤ 1000000 → length line ≤ 256 → line_at number line ≡ events_of line
unfolding line_at
line_at-events number line few short =
    let fits : ltb 256 (length line) ≡ false = le-ltb _ _ short in
    let within : ltb 1000000 number ≡ false = le-ltb _ _ few in
    rw (fits, within) refl

events_of-event : (line : List ℕ) → eqb (length line) 0 ≡ false → events_of line ≡ one_event (event_of line)
unfolding events_of
events_of-event [] e = absurd cc
events_of-event (b ∷ line) e = refl

events_of-empty : (line : List ℕ) → line ≡ [] → events_of line ≡ Ok []
unfolding events_of
events_of-empty line e = rw e refl

pub line_at-event : (number : ℕ) (line : List ℕ) → number ≤ 1000000 → length line ≤ 256 → eqb (length line) 0 ≡ false → one_event (event_of line) ≡ line_at number line
line_at-event number line few short some = sym (line_at-events number line few short ∙ events_of-event line some)

pub line_at-empty : (number : ℕ) (line : List ℕ) → number ≤ 1000000 → eqb (length line) 0 ≡ true → line_at number line ≡ Ok []
line_at-empty number line few none =
    let empty : line ≡ [] = nil_from_length line (eqb-true _ _ none) in
    line_at-events number line few (omega (arith, eqb-true _ _ none)) ∙ events_of-empty line empty

-- what was added
pub record Added (old new : List ScriptEvent) (said : Result (List ScriptEvent) LineFault) : Type 0 where
  pub events : List ScriptEvent
  pub said_is : said ≡ Ok events
  pub new_is : new ≡ old ++ events

pub Adds-is : (old new : List ScriptEvent) (said : Result (List ScriptEvent) LineFault) → Adds old new said → Added old new said
Adds-is old new (Ok events) h = record { events = events; said_is = refl; new_is = h }
Adds-is old new (Err fault) h = absurd h

pub Adds-none : (old : List ScriptEvent) (said : Result (List ScriptEvent) LineFault) → said ≡ Ok [] → Adds old old said
Adds-none old said e = rw e (sym (append-nil old))

-- ---- a text whose lines are known up to one of them

ok_value : (said : Result (List ScriptEvent) LineFault) → IsOk said → (events : List ScriptEvent) × (said ≡ Ok events)
ok_value (Ok events) h = (events, refl)
ok_value (Err fault) h = absurd cc

starts : (n : ℕ) (text : List ℕ) (lines others : List (List ℕ)) (events : List ScriptEvent) → lines_of text ≡ lines ++ others → length lines ≡ n → script_from 1 lines ≡ Ok events → StartsWell n text
starts n text lines others events parts count said =
    (rw parts (omega (arith, length-append lines others)), rw (parts, take_at lines others n count, said) refl)

pub stops : (text : List ℕ) (lines : List (List ℕ)) (line : List ℕ) (others : List (List ℕ)) (events : List ScriptEvent) (number : ℕ) (stop : ScriptStop) → lines_of text ≡ lines ++ line ∷ others → script_from 1 lines ≡ Ok events → number ≡ length lines + 1 → AddsNothing number (line_at number line) stop → StopsAt text stop
stops text lines line others events number (Line n fault) parts said count (same, e) = rw (parts, same) (script_from-fault lines line others events fault number count said e)
stops text lines line others events number (NoMemory n) parts said count (same, e) =
    let found = ok_value (line_at number line) e in
    starts n text (lines ++ line ∷ []) others (events ++ found.0) (parts ∙ sym (append_assoc lines (line ∷ []) others)) (omega (arith, length-append lines (line ∷ []))) (script_from-more lines line events found.0 number count said found.1)
stops text lines line others events number (ReadFailed n) parts said count h = absurd h

pub Answers-stop : (text : List ℕ) (left : Option (List ℕ)) (stop : ScriptStop) → StopsAt text stop → Answers text left (Err stop)
Answers-stop text left (Line n fault) h = h
Answers-stop text left (NoMemory n) h = h
Answers-stop text left (ReadFailed n) h = absurd h

-- ---- one byte

feeds_push : (read : List ℕ) (b n : ℕ) → cond (eqb b 10) 1 0 ≡ n → count_by (λ c. eqb c 10) (read ++ b ∷ []) ≡ count_by (λ c. eqb c 10) read + n
feeds_push read b n e = sum_by-append (λ c. cond (eqb c 10) 1 0) read (b ∷ []) ∙ ap (λ (k : ℕ). count_by (λ c. eqb c 10) read + k) (omega (arith, e))

open_push : (line : List ℕ) (b : ℕ) → is_open line ≡ true → eqb b 10 ≡ false → is_open (line ++ b ∷ []) ≡ true
open_push line b e other = list_all-append (λ c. not (eqb c 10)) line (b ∷ []) ∙ rw (e, other) refl

begins : (line rest : List ℕ) → is_open line ≡ true → 0 < length line → BeginsLine line (lines_of (line ++ rest))
begins [] rest e some = absurd (omega arith)
begins (b ∷ line) rest e some = lines_of-begins b line rest e

pub IsAt-new : IsAt [] [] 0 []
unfolding script_from
IsAt-new = record { lines = []; goes_on = λ rest. refl; said = refl; counted = refl; feeds = refl; open_line = refl }

pub StartsWell-at : (read : List ℕ) (events : List ScriptEvent) (count : ℕ) (line rest : List ℕ) → IsAt read events count line → StartsWell count (read ++ rest)
StartsWell-at read events count line rest at = starts count (read ++ rest) at.lines (lines_of (line ++ rest)) events (at.goes_on rest) at.counted at.said

-- a byte too many for its line
pub stops_long : (read : List ℕ) (events : List ScriptEvent) (count : ℕ) (line rest : List ℕ) (b : ℕ) → eqb b 10 ≡ false → 256 ≤ length line → IsAt read events count line → script_of (read ++ b ∷ rest) ≡ Err (count + 1, TooLong)
stops_long read events count line rest b other long at =
    let begun : BeginsLine (line ++ b ∷ []) (lines_of ((line ++ b ∷ []) ++ rest)) = begins (line ++ b ∷ []) rest (open_push line b at.open_line other) (omega (arith, length-append line (b ∷ []))) in
    let parts : lines_of (read ++ b ∷ rest) ≡ at.lines ++ ((line ++ b ∷ []) ++ begun.more) ∷ begun.others = at.goes_on (b ∷ rest) ∙ ap (λ (l : List ℕ). at.lines ++ lines_of l) (sym (append_assoc line (b ∷ []) rest)) ∙ ap (λ (l : List (List ℕ)). at.lines ++ l) begun.parts in
    let past : 256 < length ((line ++ b ∷ []) ++ begun.more) = omega (arith, length-append line (b ∷ []), length-append (line ++ b ∷ []) begun.more) in
    rw parts (script_from-fault at.lines ((line ++ b ∷ []) ++ begun.more) begun.others events TooLong (count + 1) (omega (arith, at.counted)) at.said (line_at-long (count + 1) ((line ++ b ∷ []) ++ begun.more) past))

-- a line feed
pub IsAt-feed : (read : List ℕ) (events new : List ScriptEvent) (count : ℕ) (line : List ℕ) → Adds events new (line_at (count + 1) line) → IsAt read events count line → IsAt (read ++ 10 ∷ []) new (count + 1) []
IsAt-feed read events new count line adds at =
    let added = Adds-is events new (line_at (count + 1) line) adds in
    record {
      lines = at.lines ++ line ∷ [];
      goes_on = λ rest. ap lines_of (append_assoc read (10 ∷ []) rest) ∙ at.goes_on (10 ∷ rest) ∙ ap (λ (l : List (List ℕ)). at.lines ++ l) (lines_of-feed line rest at.open_line) ∙ sym (append_assoc at.lines (line ∷ []) (lines_of rest));
      said = script_from-more at.lines line events added.events (count + 1) (omega (arith, at.counted)) at.said added.said_is ∙ ap (λ (l : List ScriptEvent). fine l) (sym added.new_is);
      counted = omega (arith, length-append at.lines (line ∷ []), at.counted);
      feeds = feeds_push read 10 1 refl ∙ omega (arith, at.feeds);
      open_line = refl;
    }

pub stops_feed : (read : List ℕ) (events : List ScriptEvent) (count : ℕ) (line rest : List ℕ) (stop : ScriptStop) → AddsNothing (count + 1) (line_at (count + 1) line) stop → IsAt read events count line → StopsAt (read ++ 10 ∷ rest) stop
stops_feed read events count line rest stop nothing at =
    stops (read ++ 10 ∷ rest) at.lines line (lines_of rest) events (count + 1) stop (at.goes_on (10 ∷ rest) ∙ ap (λ (l : List (List ℕ)). at.lines ++ l) (lines_of-feed line rest at.open_line)) at.said (omega (arith, at.counted)) nothing

-- ---- the end

-- the text has these events and lines
pub record IsWhole (text : List ℕ) (events : List ScriptEvent) (count : ℕ) : Type 0 where
  pub said : script_of text ≡ Ok events
  pub counted : count ≡ length (lines_of text)

whole_at : (text : List ℕ) (lines : List (List ℕ)) (events : List ScriptEvent) (count : ℕ) → lines_of text ≡ lines → script_from 1 lines ≡ Ok events → length lines ≡ count → IsWhole text events count
whole_at text lines events count parts said counted = record { said = rw parts said; counted = rw parts (sym counted) }

-- no line is open
pub IsWhole-closed : (read : List ℕ) (events : List ScriptEvent) (count : ℕ) (line : List ℕ) → eqb (length line) 0 ≡ true → IsAt read events count line → IsWhole read events count
IsWhole-closed read events count line none at =
    let empty : line ≡ [] = nil_from_length line (eqb-true _ _ none) in
    let parts : lines_of read ≡ at.lines = ap lines_of (sym (append-nil read)) ∙ at.goes_on [] ∙ ap (λ (l : List ℕ). at.lines ++ lines_of (l ++ [])) empty ∙ append-nil at.lines in
    whole_at read at.lines events count parts at.said at.counted

last_line : (read : List ℕ) (events : List ScriptEvent) (count : ℕ) (line : List ℕ) → eqb (length line) 0 ≡ false → (at : IsAt read events count line) → lines_of read ≡ at.lines ++ line ∷ []
last_line read events count [] some at = absurd cc
last_line read events count (b ∷ line) some at = ap lines_of (sym (append-nil read)) ∙ at.goes_on [] ∙ ap (λ (l : List ℕ). at.lines ++ lines_of l) (append-nil (b ∷ line)) ∙ ap (λ (l : List (List ℕ)). at.lines ++ l) (lines_of-open b line at.open_line)

-- a last line lacks its line feed
pub IsWhole-open : (read : List ℕ) (events new : List ScriptEvent) (count : ℕ) (line : List ℕ) → eqb (length line) 0 ≡ false → Adds events new (line_at (count + 1) line) → IsAt read events count line → IsWhole read new (count + 1)
IsWhole-open read events new count line some adds at =
    let added = Adds-is events new (line_at (count + 1) line) adds in
    whole_at read (at.lines ++ line ∷ []) new (count + 1) (last_line read events count line some at) (script_from-more at.lines line events added.events (count + 1) (omega (arith, at.counted)) at.said added.said_is ∙ ap (λ (l : List ScriptEvent). fine l) (sym added.new_is)) (omega (arith, length-append at.lines (line ∷ []), at.counted))

pub stops_open : (read : List ℕ) (events : List ScriptEvent) (count : ℕ) (line : List ℕ) (stop : ScriptStop) → eqb (length line) 0 ≡ false → AddsNothing (count + 1) (line_at (count + 1) line) stop → IsAt read events count line → StopsAt read stop
stops_open read events count line stop some nothing at =
    stops read at.lines line [] events (count + 1) stop (last_line read events count line some at) at.said (omega (arith, at.counted)) nothing

-- ---- bytes of a piece, one after another

-- the text up to a byte of a piece, and from there on
pub append-piece : (read bytes rest : List ℕ) (i b : ℕ) → i < length bytes → b ≡ get_or bytes i 0 → (read ++ take i bytes) ++ b ∷ (drop (i + 1) bytes ++ rest) ≡ read ++ bytes ++ rest
append-piece read bytes rest i b lt e =
    let cut : bytes ≡ take i bytes ++ b ∷ drop (i + 1) bytes = sym (take-append-drop i bytes) ∙ ap (λ (l : List ℕ). take i bytes ++ l) (rw (e, add-one) (drop-cons bytes i 0 lt)) in
    let back : (read ++ take i bytes) ++ b ∷ (drop (i + 1) bytes ++ rest) ≡ read ++ (take i bytes ++ b ∷ drop (i + 1) bytes) ++ rest = simp append_assoc in
    back ∙ ap (λ (l : List ℕ). read ++ l ++ rest) (sym cut)

pub same_length : (n m : ℕ) (b : Bool) → n ≡ m → eqb n 0 ≡ b → eqb m 0 ≡ b
same_length n m b e h = subst (λ (k : ℕ). eqb k 0 ≡ b) e h

-- ---- what ending a line says of a byte that is a line feed

pub feed_ok : {U : Type 0} (r : Result U ScriptStop) (events new : List ScriptEvent) (count lines : ℕ) (line rest : List ℕ) (b : ℕ) → b ≡ 10 → OnOk r (Adds events new (line_at (count + 1) line)) → OnOk r (lines ≡ count + 1) → OnOk r (rest ≡ []) → OnOk r ((read : List ℕ) → IsAt read events count line → IsAt (read ++ b ∷ []) new lines rest)
feed_ok (Ok x) events new count lines line rest b feed adds more none = λ read at. rw (feed, more, none) (IsAt-feed read events new count line adds at)
feed_ok (Err stop) events new count lines line rest b feed adds more none = tt

pub feed_err : {U : Type 0} (r : Result U ScriptStop) (events : List ScriptEvent) (count : ℕ) (line : List ℕ) (b : ℕ) → b ≡ 10 → IfErr r (AddsNothing (count + 1) (line_at (count + 1) line)) → IfErr r (λ stop. (read rest : List ℕ) → IsAt read events count line → StopsAt (read ++ b ∷ rest) stop)
feed_err (Ok x) events count line b feed nothing = tt
feed_err (Err stop) events count line b feed nothing = λ read rest at. rw feed (stops_feed read events count line rest stop nothing at)
