-- The lines of a text, and the events of lines one after another.
use Rattle.std.proofs.Common.{◌≡◌, ℕ, suc, ◌+◌, ◌<◌, Bool, true, false, not, eqb, ltb, List, [], ◌∷◌, ◌++◌, length, Result, Ok, Err, refl, sym, ap, subst, ◌∙◌, append_assoc, arith}
use Rattle.std.specs.List.{onto_first, list_all}
use Rattle.std.proofs.lemmas.List.{append-nil}
use Rattle.reclaimed_script.specs.declared.fault.LineFault.{LineFault}
use Rattle.std.proofs.lemmas.Bool.{lt-ltb}
use Rattle.reclaimed_script.specs.declared.fault.LineFault.TheVariants.{TooLong}
use Rattle.reclaimed_script.specs.Lines.{ScriptEvent}
use Rattle.reclaimed_script.specs.Script.{lines_of, line_at, in_front, then_lines, script_from}
use Rattle.run_schedules.proofs.Given.General.{both_true as and_parts}

-- bytes of one line
abbrev pub is_open : List ℕ → Bool
is_open line = list_all (λ b. not (eqb b 10)) line

not_true : (a : Bool) → not a ≡ true → a ≡ false
not_true true e = absurd cc
not_true false e = refl

-- a line that a line feed ends
pub lines_of-feed : (line rest : List ℕ) → is_open line ≡ true → lines_of (line ++ 10 ∷ rest) ≡ line ∷ lines_of rest
lines_of-feed [] rest e = refl
lines_of-feed (b ∷ line) rest e =
    let parts = and_parts (not (eqb b 10)) (is_open line) e in
    let other : eqb b 10 ≡ false = not_true _ parts.0 in
    rw (other, lines_of-feed line rest parts.1) refl

-- a last line without a line feed
pub lines_of-open : (b : ℕ) (line : List ℕ) → is_open (b ∷ line) ≡ true → lines_of (b ∷ line) ≡ (b ∷ line) ∷ []
lines_of-open b [] e =
    let parts = and_parts (not (eqb b 10)) true e in
    let other : eqb b 10 ≡ false = not_true _ parts.0 in
    rw other refl
lines_of-open b (c ∷ line) e =
    let parts = and_parts (not (eqb b 10)) (is_open (c ∷ line)) e in
    let other : eqb b 10 ≡ false = not_true _ parts.0 in
    let later = lines_of-open c line parts.1 in
    rw other (ap (onto_first b) later)

-- the first line of a text that begins with these bytes
pub record BeginsLine (line : List ℕ) (lines : List (List ℕ)) : Type 0 where
  pub more : List ℕ
  pub others : List (List ℕ)
  pub parts : lines ≡ (line ++ more) ∷ others

onto : (b : ℕ) (lines : List (List ℕ)) → BeginsLine (b ∷ []) (onto_first b lines)
onto b [] = record { more = []; others = []; parts = refl }
onto b (line ∷ lines) = record { more = line; others = lines; parts = refl }

pub lines_of-begins : (b : ℕ) (line rest : List ℕ) → is_open (b ∷ line) ≡ true → BeginsLine (b ∷ line) (lines_of ((b ∷ line) ++ rest))
lines_of-begins b [] rest e =
    let parts = and_parts (not (eqb b 10)) true e in
    let other : eqb b 10 ≡ false = not_true _ parts.0 in
    rw other (onto b (lines_of rest))
lines_of-begins b (c ∷ line) rest e =
    let parts = and_parts (not (eqb b 10)) (is_open (c ∷ line)) e in
    let other : eqb b 10 ≡ false = not_true _ parts.0 in
    let later = lines_of-begins c line rest parts.1 in
    rw other (record { more = later.more; others = later.others; parts = ap (onto_first b) later.parts })

in_front-nil : (said : Result (List ScriptEvent) (ℕ × LineFault)) → in_front [] said ≡ said
in_front-nil (Ok events) = refl
in_front-nil (Err fault) = refl

in_front-append : (a b : List ScriptEvent) (said : Result (List ScriptEvent) (ℕ × LineFault)) → in_front (a ++ b) said ≡ in_front a (in_front b said)
in_front-append a b (Ok events) = ap (λ (l : List ScriptEvent). Ok l) (append_assoc a b events)
in_front-append a b (Err fault) = refl

-- what a first line and the others after it say, where neither has a fault
pub record BothSay (said : Result (List ScriptEvent) LineFault) (others : Result (List ScriptEvent) (ℕ × LineFault)) (events : List ScriptEvent) : Type 0 where
  pub first : List ScriptEvent
  pub rest : List ScriptEvent
  pub first_is : said ≡ Ok first
  pub rest_is : others ≡ Ok rest
  pub parts : first ++ rest ≡ events

abbrev pub done : List ScriptEvent → Result (List ScriptEvent) (ℕ × LineFault)
done events = Ok events

ok_is : (a b : List ScriptEvent) → done a ≡ done b → a ≡ b
ok_is a b e = cc

both_say : (number : ℕ) (said : Result (List ScriptEvent) LineFault) (others : Result (List ScriptEvent) (ℕ × LineFault)) (events : List ScriptEvent) → then_lines number said others ≡ Ok events → BothSay said others events
both_say number (Ok first) (Ok rest) events e = record { first = first; rest = rest; first_is = refl; rest_is = refl; parts = ok_is (first ++ rest) events e }
both_say number (Ok first) (Err fault) events e = absurd cc
both_say number (Err fault) others events e = absurd cc

then_ok : (number : ℕ) (said : Result (List ScriptEvent) LineFault) (first : List ScriptEvent) (others shown : Result (List ScriptEvent) (ℕ × LineFault)) → said ≡ Ok first → others ≡ shown → then_lines number said others ≡ in_front first shown
then_ok number said first others shown p q = rw (p, q) refl

-- lines without fault, and others behind them
pub script_from-append : (number : ℕ) (lines others : List (List ℕ)) (events : List ScriptEvent) → script_from number lines ≡ Ok events → script_from number (lines ++ others) ≡ in_front events (script_from (number + length lines) others)
unfolding script_from
script_from-append number [] others events e =
    let none : [] ≡ events = ok_is [] events e in
    subst (λ (l : List ScriptEvent). script_from number others ≡ in_front l (script_from (number + 0) others)) none (sym (in_front-nil _) ∙ ap (λ (n : ℕ). in_front [] (script_from n others)) (omega arith))
script_from-append number (line ∷ lines) others events e =
    let both = both_say number (line_at number line) (script_from (number + 1) lines) events e in
    let later = script_from-append (number + 1) lines others both.rest both.rest_is in
    let count : number + 1 + length lines ≡ number + suc (length lines) = omega arith in
    let shown : script_from number ((line ∷ lines) ++ others) ≡ in_front both.first (in_front both.rest (script_from (number + 1 + length lines) others)) = then_ok number (line_at number line) both.first (script_from (number + 1) (lines ++ others)) _ both.first_is later in
    shown ∙ sym (in_front-append both.first both.rest _) ∙ ap (λ (l : List ScriptEvent). in_front l (script_from (number + 1 + length lines) others)) both.parts ∙ ap (λ (n : ℕ). in_front events (script_from n others)) count

-- one line more
pub script_from-more : (lines : List (List ℕ)) (line : List ℕ) (events more : List ScriptEvent) (number : ℕ) → number ≡ length lines + 1 → script_from 1 lines ≡ Ok events → line_at number line ≡ Ok more → script_from 1 (lines ++ line ∷ []) ≡ Ok (events ++ more)
unfolding script_from
script_from-more lines line events more number n e said =
    let place : 1 + length lines ≡ number = omega arith in
    script_from-append 1 lines (line ∷ []) events e ∙ rw (place, said) (ap (λ (l : List ScriptEvent). done (events ++ l)) (append-nil more))

-- the first fault
pub script_from-fault : (lines : List (List ℕ)) (line : List ℕ) (others : List (List ℕ)) (events : List ScriptEvent) (fault : LineFault) (number : ℕ) → number ≡ length lines + 1 → script_from 1 lines ≡ Ok events → line_at number line ≡ Err fault → script_from 1 (lines ++ line ∷ others) ≡ Err (number, fault)
unfolding script_from
script_from-fault lines line others events fault number n e said =
    let place : 1 + length lines ≡ number = omega arith in
    script_from-append 1 lines (line ∷ others) events e ∙ rw (place, said) refl

-- a line of more than 256 bytes
pub line_at-long : (number : ℕ) (line : List ℕ) → 256 < length line → line_at number line ≡ Err TooLong
unfolding line_at
line_at-long number line long = let test : ltb 256 (length line) ≡ true = lt-ltb _ _ long in rw test refl
