-- A pair is replaced by another one of its class: the rule is kept.
use Rattle.std.proofs.Common.{◌≡◌, ℕ, suc, Bool, true, false, Some, refl, arith}
use Rattle.map_rule.specs.Chart.{Still, Holds, Chart, put}
use Rattle.map_rule.specs.Rule.{IsLawful, Common, Rule}
use Rattle.map_rule.specs.Moves.{Replaces, without, Allowed}
use Rattle.map_rule.specs.Lasts.{MoveKeeps}
use Rattle.map_rule.proofs.Stores.Exchanges.{StoodStill, Exchanges, not_yet, without_pair}
use Rattle.map_rule.proofs.Stores.ExchangesBlocking.{exchange_blocking}
use Rattle.map_rule.proofs.Stores.ExchangesIncremental.{exchange_incremental}

module _ {K : Type 0} (same : K → K → Bool) (spot : ℕ → K → ℕ → ℕ) where
  -- the pair there, and that it may be taken out
  pub replaced_stood : (incremental : Bool) (t i : ℕ) (k : K) (c : Chart K) → (a : Allowed same spot incremental (Replaces t i k) c)
      → StoodStill same spot incremental c t i a.0.0 a.0.1 k
  replaced_stood incremental t i k c a = record { stood = a.0.2; of_class = a.0.3; may = a.1 }

  replaces_exchanges : (incremental : Bool) (t i : ℕ) (k : K) (c : Chart K) → Common same spot incremental c → (n : ℕ) (borrowed : Bool)
      → StoodStill same spot incremental c t i n borrowed k
      → Exchanges same spot incremental c n k (Holds c.stored Still false) (suc c.stored) (put c.key c.stored (Some k))
      (put (without spot incremental (c.place t i) c.current) c.stored true)
  replaces_exchanges incremental t i k c inv n borrowed h =
      let there = (inv.keyed t i n Still borrowed h.stood).0 in
      let less = without_pair spot incremental (c.place t i) n Still borrowed c.current h.stood in
      record {
        taken = refl;
        unmarked = refl;
        more = omega arith;
        keys = λ m l. grind (arith, l);
        unstored = λ m l. grind (arith, l, inv.unstored m);
        holds = λ m phase borrowed2 e. let w : c.stored ≡ m = cc e in (omega (arith, w), omega (arith, w), cc e, cc e, grind (arith, w), grind (arith, w));
        new = λ m l e. grind (arith, l, e, less m, not_yet same spot incremental c inv m l);
        remain = λ m l ne. grind (arith, l, ne, less m);
        gone = grind (arith, there, less n);
      }

  pub kept_replaces_incremental : (t i : ℕ) (k : K) (c : Chart K) → IsLawful same spot → Rule same spot true c → Allowed same spot true (Replaces t i k) c
      → MoveKeeps same spot true (Replaces t i k) c
  kept_replaces_incremental t i k c lawful rule a =
      let h = replaced_stood true t i k c a in
      let w = exchange_incremental same spot lawful c rule.common rule.in_mode t i a.0.0 a.0.1 k h _ _ _ _ (replaces_exchanges true t i k c rule.common a.0.0 a.0.1 h) in
      (w.0, w.1, λ caller u j other own. refl)

  pub kept_replaces_blocking : (t i : ℕ) (k : K) (c : Chart K) → IsLawful same spot → Rule same spot false c → Allowed same spot false (Replaces t i k) c
      → MoveKeeps same spot false (Replaces t i k) c
  kept_replaces_blocking t i k c lawful rule a =
      let h = replaced_stood false t i k c a in
      let w = exchange_blocking same spot lawful c rule.common rule.in_mode t i a.0.0 a.0.1 k h _ _ _ _ (replaces_exchanges false t i k c rule.common a.0.0 a.0.1 h) in
      (w.0, w.1, λ caller u j other own. refl)
