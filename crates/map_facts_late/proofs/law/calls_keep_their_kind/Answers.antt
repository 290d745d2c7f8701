-- The kind of a call.
use Rattle.map_facts_late.proofs.KindsKept.Calls.Asked.{replies_kept}
use Rattle.map_facts_late.proofs.KindsKept.Calls.Kept.{kinds_begin, asking_kinds_begin, kinds_kept}
use Rattle.map_facts_late.proofs.KindsKept.Calls.Lookups.{lookup_leaves}
use Rattle.map_facts_late.proofs.law.calls_keep_their_kind.Goals as goal

pub returns : goal.returns
returns c d = record {
  begins = kinds_begin _ _ _;
  asking = asking_kinds_begin _ _ _;
  kept = kinds_kept _ _ _;
  replies = replies_kept _ _ _;
  lookups = lookup_leaves;
}
