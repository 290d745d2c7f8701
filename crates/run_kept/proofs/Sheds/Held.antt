-- What a step of the executor leads to, it leads to of what the executor holds.
use Rattle.std.specs.Prelude.{◌≡◌, ◌<◌, ◌≤◌, ◌⊎◌, ℕ, Bool, List, length, Some, None, option_map}
use Rattle.std.proofs.Common.{sym, ap, ◌∙◌, inl, inr}
use Rattle.std.proofs.lemmas.Bool.{cases_lt}
use Rattle.std.proofs.lemmas.List.{get_or_past}
use Rattle.seize.specs.declared.advance.Advance.{Advance as Making}
use Rattle.seize.specs.declared.rows.reclaim_all.ReclaimAll.{ReclaimAll}
use Rattle.seize.specs.declared.rows.settle.Settled.{Settled}
use Rattle.papaya_raw.specs.Given.TablesDeclared.node.Node.{Node}
use Rattle.papaya_raw.specs.Given.TablesDeclared.setting.Setting.{Setting}
use Rattle.run_executor.specs.Given.FinishesMaps.{Standing}
use Rattle.run_executor.specs.Given.MomentsNumbers.{MapsAreBelow}
use Rattle.papaya_raw.specs.declared.machines.progress.Progress.{Progress}
use Rattle.run_executor.specs.Given.ScenesEnding.{EndingLeads}
use Rattle.run_executor.specs.Given.ScenesHeld.{IsAt}
use Rattle.run_executor.specs.Given.ScenesMaking.{MakingLeads}
use Rattle.run_executor.specs.Given.ScenesOnSlots.{RowBegins}
use Rattle.run_executor.specs.Given.ScenesReplying.{AskLeads, StopLeads}
use Rattle.run_executor.specs.Given.ScenesScene.{Scene, slot_of}
use Rattle.run_executor.specs.Given.ScenesStepping.{StepLeads}
use Rattle.run_executor.specs.Given.ScenesDeclared.row.SlotCall.{SlotCall}
use Rattle.run_executor.proofs.Given.ScenesLeads.{ask_leads, ending_leads, making_leads, reclaiming_leads, row_begins, step_leads, stop_leads}
use Rattle.run_executor.specs.Executing.Ending.{EndsThere}
use Rattle.run_executor.specs.Executing.IsThere.{IsThere, held_by}
use Rattle.run_executor.specs.Executing.Making.{MakesThere}
use Rattle.run_executor.specs.Executing.OnSlots.{MayBegin, RowBeginsThere}
use Rattle.run_executor.specs.Executing.Replying.{AsksThere, StopsThere}
use Rattle.run_executor.specs.Executing.Stepping.{StepsThere}
use Rattle.run_executor.specs.declared.executor.Executor.{Executor}
use Rattle.run_executor.specs.ReclaimsAll.Reclaiming.{IsReclaimingThere, ReclaimsThere}
use Rattle.run_executor.specs.Given.ScenesReclaiming.{IsReclaiming, ReclaimingLeads}

-- a map that stands, or is made, has a number that was given
pub maps_below : {K V S : Type 0} (same : K → K → Bool) (hash : K → ℕ) (e : Executor K V S) (s : Scene K V) → IsThere same hash e s → MapsAreBelow (length e.maps.items) s
maps_below {K} same hash e s there = record {
  standing = λ map st here. by map st here (cases_lt map (length e.maps.items));
  made = there.numbers;
}
  where
    by : (map : ℕ) (st : Standing K) → s.maps map ≡ Some st → (map < length e.maps.items) ⊎ (length e.maps.items ≤ map) → map < length e.maps.items
    by map st here (inl below) = below
    by map st here (inr past) =
        absurd (let none : Some st.setting ≡ None = sym (ap (option_map (λ (x : Standing K). x.setting)) here) ∙ there.maps map ∙ get_or_past e.maps.items map None past in cc none)

module _ {K V S : Type 0} (same : K → K → Bool) (hash : K → ℕ) (s : Scene K V) (old new : Executor K V S) (i : ℕ) where
  -- it is there, so what it holds is
  abbrev holds : (n : Scene K V) → IsThere same hash new n → IsAt same (λ map. hash) (held_by new) n
  holds n there = there.held

  -- the step of a call,
  abbrev pub call_held : (told : Progress (Node K V)) → StepsThere same hash i told s old new → StepLeads same (λ map. hash) i told s (held_by old) (held_by new)
  call_held told leads = step_leads same (IsThere same hash new) (IsAt same (λ map. hash) (held_by new)) holds i s (held_by old) (held_by new) told leads

  -- a pair that one is asked for, and the end of a walk that is given up,
  abbrev pub ask_held : (ready : Bool) → AsksThere same hash i ready s old new → AskLeads same (λ map. hash) i ready s (held_by old) (held_by new)
  ask_held ready leads = ask_leads same (IsThere same hash new) (IsAt same (λ map. hash) (held_by new)) holds i s (held_by old) (held_by new) ready leads.1

  abbrev pub stop_held : (stopped : Bool) → StopsThere same hash i stopped s old new → StopLeads same (λ map. hash) i stopped s (held_by old) (held_by new)
  stop_held stopped leads = stop_leads same (IsThere same hash new) (IsAt same (λ map. hash) (held_by new)) holds i s (held_by old) (held_by new) stopped leads.1

  -- the step of the making of a map, and of the end of one,
  abbrev pub making_held : (told : Making Setting) → MakesThere same hash i told s old new → MakingLeads same (λ map. hash) i told s (held_by old) (held_by new)
  making_held told leads = making_leads same (IsThere same hash new) (IsAt same (λ map. hash) (held_by new)) holds i s (held_by old) (held_by new) told leads

  abbrev pub ending_held : (told : Settled (Node K V)) → EndsThere same hash i told s old new → EndingLeads same (λ map. hash) i told s (held_by old) (held_by new)
  ending_held told leads = ending_leads same (IsThere same hash new) (IsAt same (λ map. hash) (held_by new)) holds i s (held_by old) (held_by new) told leads

  -- a row that begins,
  abbrev pub begun_held : (called : SlotCall) → MayBegin old (slot_of i) called → RowBeginsThere same hash called i s old new → RowBegins same (λ map. hash) called i s (held_by old) (held_by new)
  begun_held called may leads = row_begins same (IsThere same hash new) (IsAt same (λ map. hash) (held_by new)) holds i s (held_by old) (held_by new) called (leads may).3

  -- and the step of reclaiming all
  abbrev pub reclaim_held : (lists : ℕ → List ℕ) (before after : ReclaimAll) (told : Settled (Node K V)) → ReclaimsThere same hash s i lists old new before after told
      → ReclaimingLeads same (λ map. hash) s i lists (held_by old) (held_by new) before after told
  reclaim_held lists before after told leads =
      reclaiming_leads same s i lists (IsThere same hash new) (IsAt same (λ map. hash) (held_by new)) holds (λ s2 lists2 all. IsReclaimingThere same hash new s2 i lists2 all)
      (λ s2 lists2 all. IsReclaiming same (λ map. hash) (held_by new) s2 i lists2 all) (λ n lists2 all goes. goes.held) (held_by old) (held_by new) before after told leads
