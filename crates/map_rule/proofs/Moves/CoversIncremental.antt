-- A pair of the root that was put into a later table is copied now, where pairs move in incremental mode: the rule stays.
use Rattle.std.proofs.Common.{ℕ, suc, Bool, true, inl, refl, arith}
use Rattle.map_rule.specs.Chart.{Copied, Done, Chart}
use Rattle.map_rule.specs.Rule.{IsLawful, Rule}
use Rattle.map_rule.specs.Moves.{Covers, copied_place, Allowed}
use Rattle.map_rule.specs.Lasts.{MoveKeeps}
use Rattle.map_rule.proofs.Moves.SamePairs.{copying_keeps}
use Rattle.map_rule.proofs.Moves.ClaimedPlaces.{claimed_is_copying, claimed_has_next, claimed_stays}
use Rattle.map_rule.proofs.Moves.RootPlaces.{MayChangeTo, change_kept, change_lasts}

module _ {K : Type 0} (same : K → K → Bool) (spot : ℕ → K → ℕ → ℕ) where
  may_cover : (caller i : ℕ) (c : Chart K) → Rule same spot true c → Allowed same spot true (Covers caller i) c
      → MayChangeTo same spot c i (copied_place spot true (c.place c.first i)) (Done caller)
  may_cover caller i c inv a =
      let w = claimed_is_copying same spot caller i c inv a.1 a.2 in
      record {
        within = a.1;
        has_next = claimed_has_next same spot caller i c inv a.2;
        keeps = rw w.2 (copying_keeps w.0 Copied w.1);
        counted = rw a.2 refl;
        agrees = rw w.2 refl;
        was_put = λ n borrowed e. a.3 n borrowed (grind (arith, w.2, e));
        goes_on = λ n borrowed e. inl (rw e refl);
      }

  pub kept_covers_incremental : (caller i : ℕ) (c : Chart K) → IsLawful same spot → Rule same spot true c → Allowed same spot true (Covers caller i) c
      → MoveKeeps same spot true (Covers caller i) c
  kept_covers_incremental caller i c lawful inv a = (
    change_kept same spot c i (copied_place spot true (c.place c.first i)) (Done caller) lawful inv (may_cover caller i c inv a),
    change_lasts same spot c i (copied_place spot true (c.place c.first i)) (Done caller) (may_cover caller i c inv a),
    λ other t j not_by of_other. claimed_stays c.share (suc c.first) i caller (Done caller) a.2 other not_by t j of_other,
  )
