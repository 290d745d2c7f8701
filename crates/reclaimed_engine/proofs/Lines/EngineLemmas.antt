-- How the endings of the engine fit together.
use Rattle.std.proofs.Common.{◌≡◌, ℕ, Bool, true, false, List, Option, Some, None, Ok, subst, inl, inr, ⊎_elim}
use Rattle.std.specs.Prelude.{IfSome}
use Rattle.std.specs.Io.KnownBytes.{Appends}
use Rattle.reclaimed_script.specs.declared.parser.Script.{Script}
use Rattle.reclaimed_engine.specs.Lines.Engine.{EndsWith, IsTextFor}
use Rattle.reclaimed_script.specs.Outputs.{ReportsFailure, Writes}
use Rattle.reclaimed_script.specs.Reading.{Answers}

-- where the script was read and its text was written, or that write failed
pub written : (before left : Option (List ℕ)) (script : Script) (status : ℕ) (text : List ℕ) (failed : Bool) (output_before output_after errors_before errors_after : Option (List ℕ)) (errors_failed : Bool)
    → IfSome before (λ bytes. Answers bytes left (Ok script)) → IsTextFor script.events.items text → Writes status text failed output_before output_after
    → ReportsFailure failed errors_failed errors_before errors_after
    → IfSome before (λ bytes. EndsWith status bytes (record { left = left; output_before = output_before; output_after = output_after; output_failed = failed; errors_before = errors_before; errors_after = errors_after; errors_failed = errors_failed }))
written None left script status text failed output_before output_after errors_before errors_after errors_failed reads is_text writes tells = tt
written (Some bytes) left script status text failed output_before output_after errors_before errors_after errors_failed reads is_text writes tells =
    ⊎_elim (λ (w : (status ≡ 0) × (failed ≡ false) × Appends output_before output_after text).
    inl (w.0, (script.events.items, text, reads.0, is_text, w.1, w.2, subst (λ (b : Bool). ReportsFailure b errors_failed errors_before errors_after) w.1 tells)))
    (λ (w : (status ≡ 1) × (failed ≡ true)).
    inr (w.0, inr (script.events.items, reads.0, w.1, subst (λ (b : Bool). ReportsFailure b errors_failed errors_before errors_after) w.1 tells))) writes
