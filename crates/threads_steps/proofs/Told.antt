-- A seat tells its call what fits where that asks, and knows how far it has come.
use Rattle.std.specs.Prelude.{Option, Some, None, Ok}
use Rattle.std.proofs.Common.{◌≡◌, ℕ, ap, ◌∙◌}
use Rattle.map_tables.specs.declared.node.Node.{Node}
use Rattle.map_tables.specs.declared.node.Node.TheVariants.{Pair}
use Rattle.seize_words.specs.OneMemory.Word.{block_in}
use Rattle.papaya_raw.specs.Machine.{machine_replied}
use Rattle.papaya_raw.specs.declared.machines.asking.MachineReply.{MachineReply}
use Rattle.papaya_raw.specs.declared.machines.machine.Machine.{Machine}
use Rattle.papaya_raw.specs.declared.machines.machine.Machine.TheVariants as kinds
use Rattle.threads_rule.specs.Views.Begun.{replied}
use Rattle.threads_rule.specs.Views.Looks.{shown_in}
use Rattle.threads_rule.specs.declared.view.View.{View}
use Rattle.threads_steps.specs.Asking.{AsksWith}
use Rattle.threads_rule.specs.Errands.Calling.{IsAsking, IsUnderWay, MachineAsks, MachineContinues}
use Rattle.threads_kinds.specs.CallKinds.Kinds.{Kind, Stage, IsFit, stage_after}
use Rattle.threads_kinds.proofs.CallKinds.Telling.{taken}

module _ {K V : Type 0} (k : Kind) (s : Stage) (shown : ℕ → Option (Node K V)) (pair : Option ℕ) (reply : MachineReply V) where
  -- the machine takes what fits
  machine_takes : (machine : Machine K V K) → MachineAsks k s shown pair machine → IsFit k.takes s.told pair reply
      → MachineContinues k (stage_after s pair reply) (machine_replied machine reply).0 × ((machine_replied machine reply).1 ≡ Ok tt)
  machine_takes (kinds.Key c) asks fit = taken k s shown c reply pair asks fit
  machine_takes (kinds.Reserve r) asks fit = absurd asks
  machine_takes (kinds.Sweep r) asks fit = absurd asks
  machine_takes (kinds.Count r) asks fit = absurd asks

module _ {K V S : Type 0} (k : Kind) (s : Stage) (hasher : S) (pair : Option ℕ) (reply : MachineReply V) (machine : Machine K V K) (v : View K V S) (is : IsAsking k s hasher pair machine v) (fit : IsFit k.takes s.told pair reply) where
  -- it is not handed back,
  pub takes_it : (machine_replied machine reply).1 ≡ Ok tt
  takes_it = (machine_takes k s (shown_in v.held) pair reply machine is.asks fit).1

  -- and the call goes on
  pub goes_told : (w : View K V S) → w ≡ replied v machine reply → IsUnderWay k (stage_after s pair reply) hasher (machine_replied machine reply).0 w
  goes_told w e = record {
    at =
        record {
          map = is.at.map;
          knows = ap (λ (u : View K V S). u.map) e ∙ is.at.knows;
          hashes = is.at.hashes;
          works = ap (λ (u : View K V S). u.work) e;
        };
    goes = (machine_takes k s (shown_in v.held) pair reply machine is.asks fit).0;
  }

module _ {K V S : Type 0} (k : Kind) (s : Stage) (hasher : S) (v : View K V S) where
  pub asks_pair : (word : ℕ) (machine : Machine K V K) → (is : IsAsking k s hasher (Some word) machine v) → (key : K) (value : V) → shown_in v.held (block_in word) ≡ Some (Pair key value)
      → AsksWith (shown_in v.held) (Some (key, value)) machine
  asks_pair word (kinds.Key c) is key value e = (word, is.asks.1.here, e)
  asks_pair word (kinds.Reserve r) is key value e = absurd is.asks
  asks_pair word (kinds.Sweep r) is key value e = absurd is.asks
  asks_pair word (kinds.Count r) is key value e = absurd is.asks

  pub asks_none : (machine : Machine K V K) → IsAsking k s hasher None machine v → AsksWith (shown_in v.held) None machine
  asks_none (kinds.Key c) is = (is.asks.1.gap, is.asks.1.here)
  asks_none (kinds.Reserve r) is = absurd is.asks
  asks_none (kinds.Sweep r) is = absurd is.asks
  asks_none (kinds.Count r) is = absurd is.asks
