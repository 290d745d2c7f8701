-- A pair that is not marked is taken out of its place, and a new one of its class, or none, stands there.
use Rattle.std.proofs.Common.{◌≡◌, ◌≢◌, ℕ, ◌<◌, ◌≤◌, Bool, true, false, Option, Some, None, refl, ap, sym, ◌∙◌, arith}
use Rattle.map_rule.specs.Chart.{Phase, Still, Place, Holds, Chart, put, put_in, is_marked, is_taken}
use Rattle.map_rule.specs.Rule.{IsLawful, is_of, Common}
use Rattle.map_rule.specs.Moves.{MayChange, without, with_current}

module _ {K : Type 0} (same : K → K → Bool) (spot : ℕ → K → ℕ → ℕ) where
  -- this pair of the class stands there, and may be taken out
  pub record StoodStill (incremental : Bool) (c : Chart K) (t i n : ℕ) (borrowed : Bool) (k : K) : Type 0 where
    pub stood : c.place t i ≡ Holds n Still borrowed
    pub of_class : is_of same spot incremental k (c.key n) ≡ true
    pub may : MayChange same spot incremental c t k

  -- what comes in its place, and the pairs, keys and map after it
  pub record Exchanges (incremental : Bool) (c : Chart K) (n : ℕ) (k : K) (v : Place) (stored : ℕ) (key : ℕ → Option K) (current : ℕ → Bool) : Type 0 where
    pub taken : is_taken incremental v ≡ true
    pub unmarked : is_marked v ≡ false
    pub more : c.stored ≤ stored
    pub keys : (m : ℕ) → m < c.stored → key m ≡ c.key m
    pub unstored : (m : ℕ) → stored ≤ m → key m ≡ None
    pub holds : (m : ℕ) (phase : Phase) (borrowed : Bool) → v ≡ Holds m phase borrowed
        → (c.stored ≤ m) × (m < stored) × (phase ≡ Still) × (borrowed ≡ false) × (key m ≡ Some k) × (current m ≡ true)
    pub new : (m : ℕ) → c.stored ≤ m → current m ≡ true → v ≡ Holds m Still false
    pub remain : (m : ℕ) → m < c.stored → m ≢ n → current m ≡ c.current m
    pub gone : current n ≡ false

  abbrev pub exchanged : Chart K → ℕ → ℕ → Place → ℕ → (ℕ → Option K) → (ℕ → Bool) → Chart K
  exchanged c t i v stored key current = with_current (record c { place = put_in c.place t i v; stored = stored; key = key }) current

  pub stands_within : (incremental : Bool) (c : Chart K) → Common same spot incremental c → (t i n : ℕ) (phase : Phase) (borrowed : Bool)
      → c.place t i ≡ Holds n phase borrowed → (t < c.past) × (i < c.len t)
  stands_within incremental c inv t i n phase borrowed e = (past, grind (arith, inv.outside t i, past, e))
    where
      past : t < c.past
      past = grind (arith, inv.unmade t i, e)

  -- the key of the pair
  pub owner : (incremental : Bool) → IsLawful same spot → (c : Chart K) → Common same spot incremental c → (t i n : ℕ) (borrowed : Bool) (k : K)
      → StoodStill incremental c t i n borrowed k → (k0 : K) × (c.key n ≡ Some k0) × (same k k0 ≡ true) × (n < c.stored)
  owner incremental lawful c inv t i n borrowed k h =
      let w = inv.keyed t i n Still borrowed h.stood in
      let e = ap (is_of same spot incremental k) w.2 in
      (w.1, w.2, sym e ∙ h.of_class, w.0)

  -- whose class has the new key had the pair before
  pub of_new : (incremental : Bool) → IsLawful same spot → (c : Chart K) → Common same spot incremental c → (t i n : ℕ) (borrowed : Bool) (k : K)
      → StoodStill incremental c t i n borrowed k → (other : K) → is_of same spot incremental other (Some k) ≡ is_of same spot incremental other (c.key n)
  of_new incremental lawful c inv t i n borrowed k h other =
      let o = owner incremental lawful c inv t i n borrowed k h in
      let e = ap (is_of same spot incremental other) o.1 in
      lawful.classes.symm other k ∙ lawful.classes.congr k o.0 other o.2 ∙ lawful.classes.symm o.0 other ∙ sym e

  -- what is in the map was stored
  pub not_yet : (incremental : Bool) (c : Chart K) → Common same spot incremental c → (m : ℕ) → c.stored ≤ m → c.current m ≡ false
  not_yet incremental c inv m l = at (c.current m) refl
    where
      at : (b : Bool) → c.current m ≡ b → b ≡ false
      at true e = let w = inv.stands m e in absurd (omega (arith, l, (inv.keyed w.0 w.1 m w.2 w.3 w.4).0))
      at false e = refl

-- the map without the pair of a place
pub without_pair : {K : Type 0} (spot : ℕ → K → ℕ → ℕ) (incremental : Bool) (p : Place) (n : ℕ) (phase : Phase) (borrowed : Bool) (current : ℕ → Bool)
    → p ≡ Holds n phase borrowed → (m : ℕ) → without spot incremental p current m ≡ put current n false m
without_pair spot incremental p n phase borrowed current e m = ap (λ (q : Place). without spot incremental q current m) e
