-- A call that is alone may take its next step, be it its own or one of a row of the collector.
use Rattle.std.specs.Prelude.{ℕ, Bool}
use Rattle.std.proofs.Common.{inl, inr}
use Rattle.seize_words.specs.OneMemory.Mem.{Mem, Can, Took, value_at}
use Rattle.seize_words.specs.OneMemory.Plan.{May, Steps}
use Rattle.map_tables.specs.declared.node.Node.{Node}
use Rattle.map_tables.specs.declared.setting.Setting.{Setting}
use Rattle.papaya_raw.specs.Call.{call_plan}
use Rattle.papaya_raw.specs.declared.machines.answer.Called.{Called}
use Rattle.papaya_raw.specs.declared.machines.call.KeyCall.{KeyCall}
use Rattle.owner_whole.specs.Whole.Whole.{StepLeads, CallsContinueAlone}
use Rattle.owner_whole.proofs.Whole.Keys.Own as own
use Rattle.owner_whole.proofs.Whole.Rows.Kinds.{row_decided}
use Rattle.owner_whole.proofs.Whole.Rows.Steps as rows

module _ {K V Q : Type 0} (same : K → K → Bool) (hash : K → ℕ) (asks : Q → K → Bool) (setting : Setting) (slot : ℕ → ℕ) where
  pub calls_go_on_alone : CallsContinueAlone V same hash asks setting slot
  calls_go_on_alone lawful initial w c blocks sights u a = elim (row_decided u.call.stands) as (λ _. May Can Took value_at w.memory (call_plan asks same hash u.call)
      × ((m2 : Mem (Node K V)) (p2 : KeyCall K V Q) (progress : Called (Node K V)) → Steps Took value_at w.memory (call_plan asks same hash u.call) m2 (p2, progress)
      → StepLeads same hash asks setting slot w c blocks u m2 p2 progress)) [
        | inl is_row ↦ (rows.row_may same hash asks setting slot lawful w c blocks sights u a is_row, λ m2 p2 progress st. rows.row_leads same hash asks setting slot lawful w c blocks sights u a is_row m2 p2 progress st)
        | inr none ↦ (own.own_may same hash asks setting slot lawful w c blocks sights u a none initial, λ m2 p2 progress st. own.own_leads same hash asks setting slot lawful w c blocks sights u a none initial m2 p2 progress st)
      ]
