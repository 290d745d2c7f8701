-- In blocking mode, a caller marks a place of the root that holds no pair: there is nothing to copy, so its share is done.
use Rattle.std.proofs.Common.{◌≡◌, ℕ, Bool, true, false, inl, inr, arith, ◌⊎◌}
use Rattle.map_rule.specs.Chart.{Share, Claimed, Done, Chart, put_in}
use Rattle.map_rule.specs.Rule.{is_past, Rule, IsLawful}
use Rattle.map_rule.specs.Moves.{Skips, is_of_caller, Allowed}
use Rattle.map_rule.specs.Lasts.{MoveKeeps}
use Rattle.map_rule.proofs.Moves.MarkedRoot.{MayMark, marked_root_kept, marked_root_lasts}

-- the share is this caller's no more, and no share of another caller changed
of_others : (share : ℕ → ℕ → Share) (caller other t i u j : ℕ) → share t i ≡ Claimed caller → (caller ≡ other → ⊥) → is_of_caller other (share u j) ≡ true
    → put_in share t i (Done caller) u j ≡ share u j
of_others share caller other t i u j e apart o = grind arith

-- what is done now was done before, or is the share of this place
done_here : (share : ℕ → ℕ → Share) (caller t i u j : ℕ) → is_past (put_in share t i (Done caller) u j) ≡ true → (is_past (share u j) ≡ true) ⊎ (j ≡ i)
done_here share caller t i u j e = grind arith

module _ {K : Type 0} (same : K → K → Bool) (spot : ℕ → K → ℕ → ℕ) where
  may_mark : (caller t i : ℕ) (c : Chart K) → Rule same spot false c → Allowed same spot false (Skips caller t i) c
      → MayMark same spot c i (put_in c.share t i (Done caller))
  may_mark caller t i c rule allowed = record {
    within = allowed.3;
    has_next = omega (arith, allowed.1, allowed.2);
    unshared = λ u j l. grind (arith, rule.common.unshared u j, allowed.2);
    counted = λ u j. grind (arith, allowed.4);
    free = λ u j. grind (arith, allowed.4);
    over = λ u j e. grind arith;
    lost = λ u j e. grind (arith, allowed.4);
    done = λ u j e. elim (done_here c.share caller t i u j e) [
      | inl before ↦ inl before
      | inr here ↦ inr (here, allowed.5)
    ];
  }

  pub kept_skips_blocking : (caller t i : ℕ) (c : Chart K) → IsLawful same spot → Rule same spot false c → Allowed same spot false (Skips caller t i) c
      → MoveKeeps same spot false (Skips caller t i) c
  kept_skips_blocking caller t i c lawful rule allowed = (
    marked_root_kept same spot c i (put_in c.share t i (Done caller)) rule (may_mark caller t i c rule allowed),
    marked_root_lasts same spot c i (put_in c.share t i (Done caller)) rule.in_mode,
    λ other u j f e. of_others c.share caller other t i u j allowed.4 f e,
  )
