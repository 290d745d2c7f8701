-- Before all events no call is under way.
use Rattle.run_shows.proofs.Follows.Beginning.{runs_begin}
use Rattle.run_places.specs.Hands.Beginning.{RunsBeginSo}

pub runs_begin_so : (K V : Type 0) → RunsBeginSo K V
runs_begin_so K V same roots name = record {
  shown = runs_begin K V same roots name;
  asked = record { apart = λ n j k l x y is is2 names. absurd (cc is); each = λ map i u is standing there c found. absurd (cc is) };
  hands = record {
    pairs = λ b n is there. absurd (cc is);
    tables = λ b len t there is at from. absurd (cc is);
    born = λ n map at. absurd (cc at);
    stand = λ b len t standing is there. absurd (cc is);
  };
  rows = record { none = λ map i u is. absurd (cc is); one = λ map i u is. absurd (cc is) };
}
