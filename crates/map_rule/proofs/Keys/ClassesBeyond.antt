-- Where the keys that are looked for are looked for further, in the mode of the map: at the root first, and behind the tables that are
-- shut for them; and where they have no pair, as no further table is there.
use Rattle.std.proofs.Common.{◌≡◌, ℕ, suc, ◌≤◌, Bool, true, false, refl, arith}
use Rattle.map_rule.specs.Chart.{Copied, Chart}
use Rattle.map_rule.specs.Rule.{IsLawful, ShutBefore, Rule}
use Rattle.map_rule.specs.Maps.{spot_of, IsClass, NoneBefore, IsAbsent}
use Rattle.map_rule.proofs.Moves.Shuts.{past_shut}
use Rattle.map_rule.proofs.Keys.Absent.{no_current_past_shut}
use Rattle.map_rule.proofs.Words.WordsSeen.{HoldsPair}
use Rattle.map_rule.proofs.Keys.ClassesSeen.{absent_of, shut_past, absent_past, shut_moved}

module _ {K : Type 0} (same : K → K → Bool) (hash : K → ℕ) (lawful : IsLawful same (spot_of hash)) (keys : K → Bool) where
  -- no try is made yet at the root, and none at a table behind those that are shut
  pub none_at_root : (incremental : Bool) (c : Chart K) → Rule same (spot_of hash) incremental c → NoneBefore same hash incremental c keys c.first 0
  none_at_root true c rule k asked = ((λ g l. absurd (omega arith)), (λ u l. past_shut same (spot_of hash) lawful c rule u l k))
  none_at_root false c rule k asked = ((λ g l. absurd (omega arith)), refl)

  pub none_behind : (incremental : Bool) (c : Chart K) (t : ℕ) → incremental ≡ true → ((k : K) → keys k ≡ true → ShutBefore same (spot_of hash) incremental c t k)
      → NoneBefore same hash incremental c keys t 0
  none_behind true c t is shut k asked = ((λ g l. absurd (omega arith)), shut k asked)
  none_behind false c t is shut k asked = absurd (cc)

  module _ (code : ℕ) (class : IsClass same hash keys code) (c : Chart K) where
    -- in incremental mode they have no pair in the map, where no table is behind those that are shut for them
    pub absent_behind : (incremental : Bool) → incremental ≡ true → Rule same (spot_of hash) incremental c → (t : ℕ) → c.past ≤ t
        → ((k : K) → keys k ≡ true → ShutBefore same (spot_of hash) incremental c t k) → IsAbsent same hash incremental c keys
    absent_behind true is rule t last shut = absent_of same hash lawful keys code class true c (λ k asked. no_current_past_shut same (spot_of hash) lawful c rule k (λ u l. shut k asked u (omega arith)))
    absent_behind false is rule t last shut = absurd (cc)

    -- all tries at the table are made: in incremental mode it is shut for the keys
    pub shut_beyond : (incremental : Bool) → incremental ≡ true → Rule same (spot_of hash) incremental c → (t : ℕ) → NoneBefore same hash incremental c keys t (suc (c.limit t))
        → (k : K) → keys k ≡ true → ShutBefore same (spot_of hash) incremental c (suc t) k
    shut_beyond true is rule t none = shut_past same hash lawful keys code class c rule t none
    shut_beyond false is rule t none = absurd (cc)

    -- in blocking mode they have no pair
    pub absent_beyond : (incremental : Bool) → incremental ≡ false → Rule same (spot_of hash) incremental c → (t : ℕ) → NoneBefore same hash incremental c keys t (suc (c.limit t))
        → IsAbsent same hash incremental c keys
    absent_beyond true is rule t none = absurd (cc)
    absent_beyond false is rule t none = absent_past same hash lawful keys code class c rule t none

    -- their pair was copied from the table
    pub shut_after : (incremental : Bool) → incremental ≡ true → Rule same (spot_of hash) incremental c → (t j i n : ℕ) (borrowed : Bool) → NoneBefore same hash incremental c keys t j
        → HoldsPair keys c.key (c.place t i) n Copied borrowed → (k : K) → keys k ≡ true → ShutBefore same (spot_of hash) incremental c (suc t) k
    shut_after true is rule t j i n borrowed none holds = shut_moved same hash lawful keys code class c rule t j i n borrowed holds.1 none holds.0 holds.2 holds.3
    shut_after false is rule t j i n borrowed none holds = absurd (cc)
