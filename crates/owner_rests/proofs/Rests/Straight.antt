-- The steps of a call that stores a pair of its own, as straight code makes them, are those of a run by one owner.
use Rattle.std.specs.Prelude.{ℕ, Bool, Option, Some, None, Result, Ok, Err}
use Rattle.std.proofs.Common.{refl}
use denote.Ref.{Bor}
use Rattle.seize_words.specs.OneMemory.Mem.{Mem, Took, value_at}
use Rattle.seize_words.specs.OneMemory.Op.{Make, Made}
use Rattle.seize_words.specs.OneMemory.Plan.{Plan, Steps}
use Rattle.seize_words.specs.declared.fault.Fault.{Fault}
use Rattle.seize_words.specs.declared.fault.Fault.TheVariants.{Memory}
use Rattle.seize.specs.declared.advance.Advance.{Advance}
use Rattle.seize.specs.declared.advance.Advance.TheVariants as progress
use Rattle.map_tables.specs.declared.node.Node.{Node}
use Rattle.map_tables.specs.declared.node.Node.TheVariants as nodes
use Rattle.map_tables.specs.declared.setting.Setting.{Setting}
use Rattle.map_tables.specs.declared.trial.Trial.{Trial}
use Rattle.papaya_raw.specs.Call.{call_plan}
use Rattle.papaya_raw.specs.CallPoints.{calling, untried, word_to}
use Rattle.papaya_raw.specs.Replies.{silent}
use Rattle.papaya_raw.specs.declared.machines.answer.Called.{Called}
use Rattle.papaya_raw.specs.declared.machines.answer.Called.TheVariants as called
use Rattle.papaya_raw.specs.declared.machines.answer.End.TheVariants as ends
use Rattle.papaya_raw.specs.declared.machines.answer.KeyAnswer.{KeyAnswer}
use Rattle.papaya_raw.specs.declared.machines.answer.Missing.TheVariants as missing
use Rattle.papaya_raw.specs.declared.machines.answer.There.{There}
use Rattle.papaya_raw.specs.declared.machines.call.Calling.{Calling}
use Rattle.papaya_raw.specs.declared.machines.call.Calling.TheVariants as at
use Rattle.papaya_raw.specs.declared.machines.call.KeyCall.{KeyCall}
use Rattle.map_straight.specs.Straight.Going.{CallGoes}
use Rattle.seize_straight.specs.Runs.{Leads, EndsTelling}
use Rattle.owner_calls.specs.Given.StridesEnding.{Ends, stops, goes}
use Rattle.owner_calls.specs.Owned.Machines.{on_call, on_key_plan}
use Rattle.owner_rests.specs.Rests.Storing.{StoresTo, storing, with_own}
use Rattle.owner_calls.specs.declared.machines.OnKey.{OnKey}
use Rattle.owner_calls.specs.declared.machines.Stop.{Stop}
use Rattle.owner_calls.specs.declared.machines.Stop.TheVariants as stop
use Rattle.owner_calls.proofs.Given.StridesRuns.Steps.{ends_on}
use Rattle.owner_calls.proofs.Owned.Straight.{runs_out, runs_there}

module _ {K V S : Type 0} (same : K → K → Bool) (hashes : S → K → ℕ) (setting : Setting) (hasher : Bor S) (hash : ℕ) (there : There) where
  abbrev plan_of : OnKey K V K S → Plan (Node K V) (OnKey K V K S × Advance Stop)
  plan_of = on_key_plan {K = K} {V = V} {Q = K} {S = S} same same hashes

  abbrev owns : ℕ → Trial → Calling → OnKey K V K S
  owns = with_own {K = K} {V = V} setting hasher hash there

  module _ (m n : Mem (Node K V)) (key : K) (value : V) where
    abbrev begun : OnKey K V K S
    begun = storing setting hasher hash there key value

    module _ (block : ℕ) (took : Took m (Make (nodes.Pair key value) 0) (Made (Ok block)) n) where
      made : Steps Took value_at m (plan_of begun) n (owns (word_to block hash) untried at.Roots, progress.Goes)
      made = (Made (Ok block), took, refl)

      pub made_ends : Ends plan_of begun m → Ends plan_of (owns (word_to block hash) untried at.Roots) n
      made_ends h = ends_on plan_of begun m h n (owns (word_to block hash) untried at.Roots) progress.Goes tt made

      pub made_on : (m2 : Mem (Node K V)) (end : Result Stop Fault × Option (Node K V)) → StoresTo same hashes (owns (word_to block hash) untried at.Roots) n m2 end → StoresTo same hashes begun m m2 end
      made_on m2 end s = (s.0, goes begun m (owns (word_to block hash) untried at.Roots) n progress.Goes tt made s.0 m2 end.0 s.1, s.2)

    -- its block is not made, and the pair comes back
    module _ (back : Node K V) (took : Took m (Make (nodes.Pair key value) 0) (Made (Err back)) n) where
      refused : OnKey K V K S
      refused = record { call = calling setting hash there missing.Puts None None silent (at.Over (ends.Refused Memory)); hasher = hasher; unstored = Some back }

      pub not_made : StoresTo same hashes begun m n (Err Memory, Some back)
      unfolding refused
      not_made = (refused, goes begun m refused n progress.Goes tt (Made (Err back), took, refl) refused n (Err Memory) (stops refused n refused n (progress.Refused Memory) (Err Memory) (refl, refl) refl), refl)

  abbrev call_steps : KeyCall K V K → Plan (Node K V) (KeyCall K V K × Called (Node K V))
  call_steps = call_plan same same (hashes hasher.now)

  -- what it has answered
  pub answered : (c : KeyCall K V K) (m n : Mem (Node K V)) (answer : KeyAnswer) → EndsTelling (CallGoes {T = Node K V}) Took value_at call_steps c m n (called.Done answer)
      → StoresTo same hashes (on_call hasher c) m n (Ok (stop.Answered answer), None)
  answered c m n answer t = let r = runs_out same same hashes hasher c m n answer t in (on_call hasher r.0, r.1, refl)

  -- and what comes of going on from a point to which it has come
  pub led_on : (c d : KeyCall K V K) (m n k : Mem (Node K V)) (end : Result Stop Fault × Option (Node K V)) → Leads (CallGoes {T = Node K V}) Took value_at call_steps c m d n
      → StoresTo same hashes (on_call hasher d) n k end → StoresTo same hashes (on_call hasher c) m k end
  led_on c d m n k end l s = (s.0, runs_there same same hashes hasher c d m n l s.0 k end.0 s.1, s.2)
