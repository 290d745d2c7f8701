-- A pair is removed, and its place stays taken: the rule is kept.
use Rattle.std.proofs.Common.{ℕ, Bool, true, false, refl, arith}
use Rattle.map_rule.specs.Chart.{Still, Tombstone, Chart}
use Rattle.map_rule.specs.Rule.{IsLawful, Common, Rule}
use Rattle.map_rule.specs.Moves.{Removes, without, Allowed}
use Rattle.map_rule.specs.Lasts.{MoveKeeps}
use Rattle.map_rule.proofs.Stores.Exchanges.{StoodStill, Exchanges, not_yet, without_pair}
use Rattle.map_rule.proofs.Stores.ExchangesBlocking.{exchange_blocking}
use Rattle.map_rule.proofs.Stores.ExchangesIncremental.{exchange_incremental}

module _ {K : Type 0} (same : K → K → Bool) (spot : ℕ → K → ℕ → ℕ) where
  -- the pair there, and that it may be taken out
  pub tombstone_stood : (incremental : Bool) (t i : ℕ) (c : Chart K) → (a : Allowed same spot incremental (Removes t i) c)
      → StoodStill same spot incremental c t i a.1.0 a.1.1 a.0
  tombstone_stood incremental t i c a = record { stood = a.1.2; of_class = a.1.3; may = a.2 }

  removes_exchanges : (incremental : Bool) (t i : ℕ) (k : K) (c : Chart K) → Common same spot incremental c → (n : ℕ) (borrowed : Bool)
      → StoodStill same spot incremental c t i n borrowed k
      → Exchanges same spot incremental c n k (Tombstone false) c.stored c.key (without spot incremental (c.place t i) c.current)
  removes_exchanges incremental t i k c inv n borrowed h =
      let less = without_pair spot incremental (c.place t i) n Still borrowed c.current h.stood in
      record {
        taken = refl;
        unmarked = refl;
        more = omega arith;
        keys = λ m l. refl;
        unstored = inv.unstored;
        holds = λ m phase borrowed2 e. absurd (cc e);
        new = λ m l e. absurd (grind (arith, l, e, less m, not_yet same spot incremental c inv m l));
        remain = λ m l ne. grind (arith, l, ne, less m);
        gone = grind (arith, less n);
      }

  pub kept_removes_incremental : (t i : ℕ) (c : Chart K) → IsLawful same spot → Rule same spot true c → Allowed same spot true (Removes t i) c
      → MoveKeeps same spot true (Removes t i) c
  kept_removes_incremental t i c lawful rule a =
      let h = tombstone_stood true t i c a in
      let w = exchange_incremental same spot lawful c rule.common rule.in_mode t i a.1.0 a.1.1 a.0 h _ _ _ _ (removes_exchanges true t i a.0 c rule.common a.1.0 a.1.1 h) in
      (w.0, w.1, λ caller u j other own. refl)

  pub kept_removes_blocking : (t i : ℕ) (c : Chart K) → IsLawful same spot → Rule same spot false c → Allowed same spot false (Removes t i) c
      → MoveKeeps same spot false (Removes t i) c
  kept_removes_blocking t i c lawful rule a =
      let h = tombstone_stood false t i c a in
      let w = exchange_blocking same spot lawful c rule.common rule.in_mode t i a.1.0 a.1.1 a.0 h _ _ _ _ (removes_exchanges false t i a.0 c rule.common a.1.0 a.1.1 h) in
      (w.0, w.1, λ caller u j other own. refl)
