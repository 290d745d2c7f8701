-- The rule holds of a map without a table.
use Rattle.std.proofs.Common.{ℕ, Bool, true, false, refl, arith}
use Rattle.map_rule.specs.Rule.{Common, no_table}
use Rattle.map_rule.specs.Lasts.{RuleBegins}

module _ {K : Type 0} (same : K → K → Bool) (spot : ℕ → K → ℕ → ℕ) where
  common : (incremental : Bool) → Common same spot incremental no_table
  common b = record {
    rooted = λ l. absurd (omega arith);
    rootless = λ e. refl;
    lens = λ t l. absurd (omega arith);
    unmade = λ t i l. refl;
    unshared = λ t i l. refl;
    uncounted = λ t l. (refl, refl, refl);
    outside = λ t i l m. refl;
    keyed = λ t i n phase borrowed e. absurd (cc);
    unstored = λ n l. refl;
    on_path = λ t i n phase borrowed k s e. absurd (cc);
    once = λ t i j n o phase phase2 borrowed borrowed2 k s e. absurd (cc);
    unmarked = λ t i l. refl;
    pending = λ t l e. absurd (grind arith);
    live = λ e. absurd (grind arith);
    counts = λ t l m. absurd (omega arith);
    stands = λ n e. absurd (cc);
    is_current = λ t i n phase borrowed e. absurd (cc);
  }

  pub rule_begins : (incremental : Bool) → RuleBegins same spot incremental
  rule_begins true = record {
    common = common true;
    in_mode = record {
      settled = λ t i l. absurd (omega arith);
      chain = λ t u i n phase borrowed k e. absurd (cc);
      shares = λ i l. absurd (omega arith);
      only_next = λ t i l. refl;
      lent = λ t u i j n phase phase2 borrowed e. absurd (cc);
      never_aborted = λ t e. absurd (grind arith);
    };
  }
  rule_begins false = record {
    common = common false;
    in_mode = record {
      marked_has_next = λ i e. absurd (cc);
      plain = λ t i n phase borrowed e. absurd (cc);
      targets = λ t i n phase borrowed l s e. absurd (cc);
      copies = λ t j l s e. absurd (cc);
      claims = λ t j l m. absurd (omega arith);
      sources = λ t i n phase borrowed l e. absurd (cc);
      left = λ t i l. absurd (omega arith);
      no_tombstone = λ t i mark l e. absurd (cc);
      aborted = λ t l m. absurd (omega arith);
      given_up = λ t l e. absurd (grind arith);
    };
  }
