-- What lasts where no place of a table changes.
use Rattle.std.proofs.Common.{ℕ, Bool, refl, arith}
use Rattle.map_rule.specs.Chart.{Share, Chart}
use Rattle.map_rule.specs.Lasts.{Lasts}

module _ {K : Type 0} (same : K → K → Bool) (spot : ℕ → K → ℕ → ℕ) where
  -- the words beside the places, and the shares, are others
  pub beside_lasts : (incremental : Bool) (c : Chart K) (status claim copied : ℕ → ℕ) (share : ℕ → ℕ → Share)
      → Lasts same spot incremental c (record c { status = status; claim = claim; copied = copied; share = share })
  beside_lasts incremental c status claim copied share = record {
    past = omega arith;
    first = omega arith;
    lens = λ t l. (refl, refl);
    stored = omega arith;
    keys = λ n l. refl;
    taken = λ t i e. e;
    others = λ t i k e f. f;
    copied = λ t i n borrowed e. e;
    settled = λ t i e. e;
    shut = λ t k e l s. s;
    frozen = λ t i e f. refl;
  }
