-- A run begins so.
use Rattle.std.proofs.Common.{refl, arith}
use Rattle.run_shows.specs.Follows.Beginning.{RunsBegin}

pub runs_begin : (K V : Type 0) → RunsBegin K V
runs_begin K V same roots name = record {
  blocks = record {
    roles = λ b. (grind arith);
    once = λ b d n is is2. absurd (cc is);
    stored = refl;
  };
  number = λ map n. 0;
  maps = λ map standing is. absurd (cc is);
  calls = λ map i u is. absurd (cc is);
}
