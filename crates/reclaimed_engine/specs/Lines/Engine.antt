-- What the program writes for what it reads.
use Rattle.std.specs.Prelude.{◌≡◌, ◌^◌, ℕ, min, true, false, nat_eq, List, Ok, Err, codes, ◌⊎◌}
use Rattle.std.specs.Io.KnownBytes.{Appends, Keeps}
use Rattle.reclaimed_script.specs.declared.fault.ScriptStop.{ScriptStop}
use Rattle.reclaimed_script.specs.declared.fault.ScriptStop.TheVariants.{Line, ReadFailed, NoMemory}
use Rattle.reclaimed_script.specs.FaultTexts.{fault_text}
use Rattle.reclaimed_script.specs.Lines.{ScriptEvent}
use Rattle.reclaimed_script.specs.Outputs.{ReportsFailure, SaysOnly, Streams}
use Rattle.reclaimed_script.specs.Reading.{Answers}
use Rattle.run_schedules.specs.Schedules.Runs.{IsRunOf}
use Rattle.run_schedules.specs.Schedules.Terms.{Terms}
use Rattle.reclaimed_script.specs.Script.{script_of, setup_of}
use Rattle.reclaimed_engine.specs.PrintedText.Text.{WordRun, text_of, fault_line}

-- the line that says why a script gives no run
abbrev pub stop_line : ScriptStop → List ℕ
stop_line (Line number fault) = fault_line number (fault_text fault)
stop_line (ReadFailed lines) = fault_line lines (codes "read failed")
stop_line (NoMemory lines) = fault_line lines (codes "no memory")

-- with what a script is run
abbrev pub terms_of : List ScriptEvent → Terms
terms_of events = record {
  batch_size = (setup_of events).batch_size;
  processors = min (setup_of events).processors (2 ^ 63);
  roots = (setup_of events).roots;
}

-- it is a run of these events, each of which keeps all that is promised of one, and tells at its end what they say
abbrev pub IsRunFor : List ScriptEvent → WordRun → Type 0
IsRunFor events run = IsRunOf nat_eq (terms_of events) events run

-- the text is what is printed for a run of these events
abbrev pub IsTextFor : List ScriptEvent → List ℕ → Type 0
IsTextFor events text = (run : WordRun) × IsRunFor events run × (text ≡ text_of run)

-- the script says events, and all that is printed for a run of them is written, and nothing else
abbrev pub IsPrinted : List ℕ → Streams → Type 0
IsPrinted bytes s =
    (events : List ScriptEvent) × (text : List ℕ) × (script_of bytes ≡ Ok events) × IsTextFor events text
    × (s.output_failed ≡ false) × Appends s.output_before s.output_after text × Keeps s.errors_before s.errors_after

-- the script gives no run: its first faulty line is told, or that the input or memory failed
abbrev pub IsStopped : List ℕ → Streams → Type 0
IsStopped bytes s = (stop : ScriptStop) × Answers bytes s.left (Err stop) × SaysOnly (stop_line stop) s

-- the script says events, and a write of what is printed for them failed, which is told on the errors
abbrev pub IsUnwritten : List ℕ → Streams → Type 0
IsUnwritten bytes s =
    (events : List ScriptEvent) × (script_of bytes ≡ Ok events) × (s.output_failed ≡ true) × ReportsFailure true s.errors_failed s.errors_before s.errors_after

-- the status is 0 where all is printed, and else 1
abbrev pub EndsWith : ℕ → List ℕ → Streams → Type 0
EndsWith status bytes s = ((status ≡ 0) × IsPrinted bytes s) ⊎ ((status ≡ 1) × (IsStopped bytes s ⊎ IsUnwritten bytes s))
