-- What was removed is not found.
use Rattle.std.specs.Str.{bytes_eq}
use Rattle.seq_examples.proofs.Kept.{none_left, ok_of}
use Rattle.seq_examples.proofs.session_registry.end.Goals as goal

pub returns : goal.returns
returns c = record { gone = none_left (bytes_eq c.args.token.now) _ _ (ok_of _ _ c.remove.result _ c.in_ok-remove.was c.remove.follows.holds-at-none.0).0 }
