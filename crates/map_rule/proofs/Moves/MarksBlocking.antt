-- In blocking mode, a place of the root that holds a pair is marked.
use Rattle.std.proofs.Common.{ℕ, Bool, false, inl, refl, arith}
use Rattle.map_rule.specs.Chart.{Chart}
use Rattle.map_rule.specs.Rule.{Rule, IsLawful}
use Rattle.map_rule.specs.Moves.{MarksBlocking, Allowed}
use Rattle.map_rule.specs.Lasts.{MoveKeeps}
use Rattle.map_rule.proofs.Moves.MarkedRoot.{MayMark, marked_root_kept, marked_root_lasts}

module _ {K : Type 0} (same : K → K → Bool) (spot : ℕ → K → ℕ → ℕ) where
  may_mark : (i : ℕ) (c : Chart K) → Rule same spot false c → Allowed same spot false (MarksBlocking i) c → MayMark same spot c i c.share
  may_mark i c rule allowed = record {
    within = grind (arith, rule.common.outside c.first i, rule.common.rooted, allowed.1, allowed.5);
    has_next = allowed.1;
    unshared = rule.common.unshared;
    counted = λ t j. refl;
    free = λ t j. refl;
    over = λ t j e. e;
    lost = λ t j e. e;
    done = λ t j e. inl e;
  }

  pub kept_marks_blocking : (i : ℕ) (c : Chart K) → IsLawful same spot → Rule same spot false c → Allowed same spot false (MarksBlocking i) c → MoveKeeps same spot false (MarksBlocking i) c
  kept_marks_blocking i c lawful rule allowed = (
    marked_root_kept same spot c i c.share rule (may_mark i c rule allowed),
    marked_root_lasts same spot c i c.share rule.in_mode,
    λ caller t j f e. refl,
  )
