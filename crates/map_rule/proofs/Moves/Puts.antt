-- The pair of a place of the root is put into an empty place of a later table: what this keeps in both modes.
use Rattle.std.proofs.Common.{◌≡◌, ◌≢◌, ℕ, ◌<◌, ◌≤◌, Bool, true, false, Some, refl, subst, arith, ap}
use Rattle.map_machines.specs.Given.TablesDeclared.status.TheConstants.Status.{ABORTED}
use Rattle.map_rule.specs.Chart.{Phase, Still, Copied, Place, Empty, Holds, Share, Chart, put_in, is_counted, is_taken}
use Rattle.map_rule.specs.Rule.{Common, OnPath, IsHome, Shut, is_of, total}
use Rattle.map_rule.specs.Lasts.{Lasts}
use Rattle.map_rule.proofs.Moves.Writes.{put_in_one, stays_held, stays_taken, filled_keyed, filled_once}

module _ {K : Type 0} (same : K → K → Bool) (spot : ℕ → K → ℕ → ℕ) (incremental : Bool) where
  abbrev pub filled : Chart K → ℕ → ℕ → Place → (ℕ → ℕ → Share) → Chart K
  filled c t i v share = record c { place = put_in c.place t i v; share = share }

  -- a copier has found an empty place on the path of the pair, in a table without its class
  pub record Found (c : Chart K) (t i n : ℕ) (k : K) (v : Place) : Type 0 where
    pub later : c.first < t
    pub made : t < c.past
    pub inside : i < c.len t
    pub empty : c.place t i ≡ Empty false
    pub path : OnPath same spot incremental c t i k
    pub pair : v ≡ Holds n Still incremental
    pub has_key : c.key n ≡ Some k
    pub was_stored : n < c.stored
    pub in_map : c.current n ≡ true
    pub alone : c.status t ≢ ABORTED → (class : K) → is_of same spot incremental class (c.key n) ≡ true
        → (j o : ℕ) (phase : Phase) (borrowed : Bool) → c.place t j ≡ Holds o phase borrowed → is_of same spot incremental class (c.key o) ≡ true → ⊥

  filled_path : (c : Chart K) (t i n : ℕ) (k : K) (v : Place) (share : ℕ → ℕ → Share) → Common same spot incremental c → Found c t i n k v
      → (u j m : ℕ) (phase : Phase) (borrowed : Bool) (other : K) → c.status u ≢ ABORTED → put_in c.place t i v u j ≡ Holds m phase borrowed → c.key m ≡ Some other
      → OnPath same spot incremental (filled c t i v share) u j other
  filled_path c t i n k v share all found u j m phase borrowed other live e f = put_in_one
      (λ u j w. (m : ℕ) (phase : Phase) (borrowed : Bool) (other : K) → c.status u ≢ ABORTED → w ≡ Holds m phase borrowed → c.key m ≡ Some other → OnPath same spot incremental (filled c t i v share) u j other)
      c.place t i v
      (λ m phase borrowed other live e f.
      let p = found.path in
      subst (λ (x : K). OnPath same spot incremental (filled c t i v share) t i x) (cc (found.pair, found.has_key))
      (p.0, p.1, p.2, λ g l. stays_taken incremental c.place t i v t (spot (c.len t) k g) (ap (is_taken incremental) found.pair) (p.3 g l)))
      (λ u j m phase borrowed other live e f.
      let p = all.on_path u j m phase borrowed other live e f in
      (p.0, p.1, p.2, λ g l. stays_taken incremental c.place t i v u (spot (c.len u) other g) (ap (is_taken incremental) found.pair) (p.3 g l)))
      u j m phase borrowed other live e f

  pub filled_common : (c : Chart K) (t i n : ℕ) (k : K) (v : Place) (share : ℕ → ℕ → Share) → Common same spot incremental c → Found c t i n k v
      → ((u j : ℕ) → c.past ≤ u → share u j ≡ c.share u j)
      → ((u : ℕ) → total is_counted (share u) (c.len c.first) ≡ total is_counted (c.share u) (c.len c.first))
      → Common same spot incremental (filled c t i v share)
  filled_common c t i n k v share all found unshared counts = record {
    rooted = all.rooted;
    rootless = all.rootless;
    lens = all.lens;
    unmade = λ u j h. grind (arith, all.unmade u j, found.made);
    unshared = λ u j h. grind (arith, all.unshared u j, unshared u j);
    uncounted = all.uncounted;
    outside = λ u j h l. grind (arith, all.outside u j, found.inside);
    keyed = filled_keyed c.place c.key c.stored t i n Still incremental v found.pair found.was_stored k found.has_key all.keyed;
    unstored = all.unstored;
    on_path = filled_path c t i n k v share all found;
    once = λ u j j2 m o phase phase2 borrowed borrowed2 class live e e2. filled_once c.place (λ x. is_of same spot incremental class (c.key x)) t i n Still incremental v u found.pair
        (λ e is. found.alone (grind arith) class is)
        j j2 m o phase phase2 borrowed borrowed2 (all.once u j j2 m o phase phase2 borrowed borrowed2 class live) e e2;
    unmarked = λ u j h. grind (arith, all.unmarked u j, found.pair);
    pending = all.pending;
    live = all.live;
    counts = λ u l h. grind (arith, all.counts u l h, counts u);
    stands = λ m e.
        let w = all.stands m e in
        (w.0, w.1, w.2, w.3, stays_held c.place t i v found.empty w.0 w.1 m w.2 w.3 w.4, w.5, w.6);
    is_current = put_in_one
        (λ u j w. (m : ℕ) (phase : Phase) (borrowed : Bool) → w ≡ Holds m phase borrowed → phase ≢ Copied → IsHome same spot incremental c u → c.current m ≡ true)
        c.place t i v (λ m phase borrowed e copied home. grind (arith, found.pair, found.in_map)) all.is_current;
  }

  pub filled_lasts : (c : Chart K) (t i n : ℕ) (k : K) (v : Place) (share : ℕ → ℕ → Share) → Found c t i n k v
      → ((u : ℕ) (class : K) → incremental ≡ true → u < c.past → Shut same spot incremental c u class → Shut same spot incremental (filled c t i v share) u class)
      → Lasts same spot incremental c (filled c t i v share)
  filled_lasts c t i n k v share found shut = record {
    past = grind arith;
    first = grind arith;
    lens = λ u l. (refl, refl);
    stored = grind arith;
    keys = λ m l. refl;
    taken = λ u j e. stays_taken incremental c.place t i v u j (ap (is_taken incremental) found.pair) e;
    others = λ u j class e f. grind (arith, found.empty);
    copied = λ u j m borrowed e. grind (arith, found.empty);
    settled = λ u j e. grind (arith, found.empty);
    shut = shut;
    frozen = λ u j e f. grind (arith, found.empty);
  }
