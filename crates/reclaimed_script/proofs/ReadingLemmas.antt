-- What was read of an input with known bytes, from one read to the next.
use Rattle.std.proofs.Common.{◌≡◌, ℕ, List, ◌++◌, Option, Some, None, Result, Err, refl, sym, ap, subst, ◌∙◌, append_assoc}
use Rattle.std.proofs.lemmas.List.{append-nil}
use Rattle.std.specs.Io.KnownBytes.{Consumes, Keeps, IsAtEnd}
use Rattle.reclaimed_script.specs.declared.fault.ScriptStop.{ScriptStop}
use Rattle.reclaimed_script.specs.declared.fault.ScriptStop.TheVariants.{ReadFailed}
use Rattle.reclaimed_script.specs.declared.parser.Parser.{Parser}
use Rattle.reclaimed_script.specs.declared.parser.Script.{Script}
use Rattle.reclaimed_script.specs.Reading.{StandsAfter, StopsAt, Answers, Reads}
use Rattle.reclaimed_script.proofs.ParserLemmas.{StartsWell-at, Answers-stop}

-- the bytes that an input had at first are those that the parser took and those that are left
abbrev pub ReadTo : Option (List ℕ) → Option (List ℕ) → Parser → Type 0
ReadTo None left p = Unit {0}
ReadTo (Some bytes) None p = ⊥
ReadTo (Some bytes) (Some left) p = (read : List ℕ) × (bytes ≡ read ++ left) × StandsAfter read p

pub ReadTo-bytes : (first before after : Option (List ℕ)) (p q : Parser) (bytes : List ℕ) → Consumes before after bytes → ((read : List ℕ) → StandsAfter read p → StandsAfter (read ++ bytes) q) → ReadTo first before p → ReadTo first after q
ReadTo-bytes None before after p q bytes took step h = tt
ReadTo-bytes (Some text) None after p q bytes took step h = absurd h
ReadTo-bytes (Some text) (Some left) None p q bytes took step h = absurd took
ReadTo-bytes (Some text) (Some left) (Some rest) p q bytes took step (read, e, at) = (read ++ bytes, e ∙ ap (λ (l : List ℕ). read ++ l) took ∙ sym (append_assoc read bytes rest), step read at)

pub ReadTo-keeps : (first before after : Option (List ℕ)) (p : Parser) → Keeps before after → ReadTo first before p → ReadTo first after p
ReadTo-keeps None before after p same h = tt
ReadTo-keeps (Some text) None after p same h = absurd h
ReadTo-keeps (Some text) (Some left) None p same h = absurd same
ReadTo-keeps (Some text) (Some left) (Some rest) p same (read, e, at) = (read, e ∙ ap (λ (l : List ℕ). read ++ l) (sym same), at)

pub Reads-stop : (first before after : Option (List ℕ)) (p : Parser) (bytes : List ℕ) (stop : ScriptStop) → Consumes before after bytes → ((read rest : List ℕ) → StandsAfter read p → StopsAt (read ++ bytes ++ rest) stop) → ReadTo first before p → Reads first after (Err stop)
Reads-stop None before after p bytes stop took step h = tt
Reads-stop (Some text) None after p bytes stop took step h = absurd h
Reads-stop (Some text) (Some left) None p bytes stop took step h = absurd took
Reads-stop (Some text) (Some left) (Some rest) p bytes stop took step (read, e, at) =
    let parts : text ≡ read ++ bytes ++ rest = e ∙ ap (λ (l : List ℕ). read ++ l) took ∙ sym (append_assoc read bytes rest) in
    Answers-stop text (Some rest) stop (subst (λ (l : List ℕ). StopsAt l stop) (sym parts) (step read rest at))

pub Reads-end : (first before after : Option (List ℕ)) (p : Parser) (result : Result Script ScriptStop) → IsAtEnd before → ((read : List ℕ) (left : Option (List ℕ)) → StandsAfter read p → Answers read left result) → ReadTo first before p → Reads first after result
Reads-end None before after p result ended step h = tt
Reads-end (Some text) None after p result ended step h = absurd h
Reads-end (Some text) (Some left) after p result ended step (read, e, at) =
    let all : text ≡ read = e ∙ ap (λ (l : List ℕ). read ++ l) ended ∙ append-nil read in
    subst (λ (l : List ℕ). Answers l after result) (sym all) (step read after at)

pub Reads-failed : (first before after : Option (List ℕ)) (p : Parser) (stop : ScriptStop) → stop ≡ ReadFailed p.lines → Keeps before after → ReadTo first before p → Reads first after (Err stop)
Reads-failed None before after p stop is same h = tt
Reads-failed (Some text) None after p stop is same h = absurd h
Reads-failed (Some text) (Some left) None p stop is same h = absurd same
Reads-failed (Some text) (Some left) (Some rest) p stop is same (read, e, at) =
    let parts : text ≡ read ++ rest = e ∙ ap (λ (l : List ℕ). read ++ l) (sym same) in
    rw (is, parts) (StartsWell-at read p.events.items p.lines p.line.items rest at, (read, refl, sym at.feeds))

pub Keeps-same : (known : Option (List ℕ)) → Keeps known known
Keeps-same None = tt
Keeps-same (Some bytes) = refl
