-- What holds of the tables in both modes holds after a pair was exchanged.
use Rattle.std.proofs.Common.{◌≡◌, ◌≢◌, ℕ, ◌<◌, ◌≤◌, Bool, true, false, Option, Some, ◌⊎◌, inl, inr, ap, sym, ◌∙◌, subst, arith}
use Rattle.std.proofs.lemmas.Bool.{cases_lt}
use Rattle.map_machines.specs.Given.TablesDeclared.status.TheConstants.Status.{ABORTED}
use Rattle.map_rule.specs.Chart.{Phase, Still, Copied, Place, Holds, Chart, is_marked, is_taken}
use Rattle.map_rule.specs.Rule.{IsLawful, is_of, OnPath, IsHome, Common}
use Rattle.map_rule.proofs.Stores.Exchanges.{StoodStill, Exchanges, exchanged, stands_within, owner, of_new}
use Rattle.map_rule.proofs.Moves.Writes.{stands_new, stood_elsewhere, stays_taken}

module _ {K : Type 0} (same : K → K → Bool) (spot : ℕ → K → ℕ → ℕ) where
  module _ (incremental : Bool) (lawful : IsLawful same spot) (c : Chart K) (inv : Common same spot incremental c) (t i n : ℕ) (borrowed : Bool) (k : K)
      (h : StoodStill same spot incremental c t i n borrowed k) (v : Place) (stored : ℕ) (key : ℕ → Option K) (current : ℕ → Bool)
      (x : Exchanges same spot incremental c n k v stored key current) where
    abbrev after : Chart K
    after = exchanged same spot c t i v stored key current

    -- a pair that stood before keeps its key
    pub same_key : (u j m : ℕ) (phase : Phase) (borrowed2 : Bool) → c.place u j ≡ Holds m phase borrowed2 → key m ≡ c.key m
    same_key u j m phase borrowed2 e = x.keys m (inv.keyed u j m phase borrowed2 e).0

    pub path_stays : (u j : ℕ) (other : K) → OnPath same spot incremental c u j other
        → OnPath same spot incremental after u j other
    path_stays u j other path = (path.0, path.1, path.2, λ g l. stays_taken incremental c.place t i v u (spot (c.len u) other g) x.taken (path.3 g l))

    -- the new pair stands on the path of its key
    new_path : c.status t ≢ ABORTED → OnPath same spot incremental c t i k
    new_path live =
        let o = owner same spot incremental lawful c inv t i n borrowed k h in
        let path = inv.on_path t i n Still borrowed o.0 live h.stood o.1 in (
          path.0,
          path.1,
          lawful.respects (c.len t) path.0 k o.0 o.2 ∙ path.2,
          λ g l. ap (λ (p : ℕ). is_taken incremental (c.place t p)) (lawful.respects (c.len t) g k o.0 o.2) ∙ path.3 g l,
        )

    keyed_stays : (u j m : ℕ) (phase : Phase) (borrowed2 : Bool) → after.place u j ≡ Holds m phase borrowed2 → (m < stored) × (other : K) × (key m ≡ Some other)
    keyed_stays u j m phase borrowed2 e = at (stands_new c.place t i v _ u j e)
      where
        at : ((u ≡ t) × (j ≡ i) × (v ≡ Holds m phase borrowed2)) ⊎ (((u ≡ t) → (j ≡ i) → ⊥) × (c.place u j ≡ Holds m phase borrowed2))
            → (m < stored) × (other : K) × (key m ≡ Some other)
        at (inl new) = let w = x.holds m phase borrowed2 new.2 in (w.1, k, w.4)
        at (inr old) = let w = inv.keyed u j m phase borrowed2 old.1 in let more = x.more in (omega (arith, w.0), w.1, x.keys m w.0 ∙ w.2)

    on_path_stays : (u j m : ℕ) (phase : Phase) (borrowed2 : Bool) (other : K) → c.status u ≢ ABORTED → after.place u j ≡ Holds m phase borrowed2 → key m ≡ Some other
        → OnPath same spot incremental after u j other
    on_path_stays u j m phase borrowed2 other live e own = at (stands_new c.place t i v _ u j e)
      where
        at : ((u ≡ t) × (j ≡ i) × (v ≡ Holds m phase borrowed2)) ⊎ (((u ≡ t) → (j ≡ i) → ⊥) × (c.place u j ≡ Holds m phase borrowed2))
            → OnPath same spot incremental after u j other
        at (inl new) =
            let w = x.holds m phase borrowed2 new.2 in
            let same_keys : k ≡ other = cc (own, w.4) in
            let alive : c.status t ≢ ABORTED = λ z. live (ap c.status new.0 ∙ z) in
            subst (λ (y : K). OnPath same spot incremental after u j y) same_keys
            (subst (λ (y : ℕ). OnPath same spot incremental after y j k) (sym new.0)
            (subst (λ (y : ℕ). OnPath same spot incremental after t y k) (sym new.1) (path_stays t i k (new_path alive))))
        at (inr old) = path_stays u j other (inv.on_path u j m phase borrowed2 other live old.1 (sym (same_key u j m phase borrowed2 old.1) ∙ own))

    -- a class that stands in the table beside the new pair stood there beside the old one
    once_new : (j o : ℕ) (phase : Phase) (borrowed2 : Bool) (m : ℕ) (phase2 : Phase) (borrowed3 : Bool) (other : K) → c.status t ≢ ABORTED
        → v ≡ Holds m phase2 borrowed3 → c.place t j ≡ Holds o phase borrowed2
        → is_of same spot incremental other (key m) ≡ true → is_of same spot incremental other (key o) ≡ true → i ≡ j
    once_new j o phase borrowed2 m phase2 borrowed3 other live new old own own2 =
        let w = x.holds m phase2 borrowed3 new in
        let f : is_of same spot incremental other (c.key n) ≡ true =
        sym (of_new same spot incremental lawful c inv t i n borrowed k h other) ∙ ap (is_of same spot incremental other) (sym w.4) ∙ own in
        let g : is_of same spot incremental other (c.key o) ≡ true = ap (is_of same spot incremental other) (sym (same_key t j o phase borrowed2 old)) ∙ own2 in
        inv.once t i j n o Still phase borrowed borrowed2 other live h.stood old f g

    once_stays : (u j j2 m o : ℕ) (phase phase2 : Phase) (borrowed2 borrowed3 : Bool) (other : K) → c.status u ≢ ABORTED
        → after.place u j ≡ Holds m phase borrowed2 → after.place u j2 ≡ Holds o phase2 borrowed3
        → is_of same spot incremental other (key m) ≡ true → is_of same spot incremental other (key o) ≡ true → j ≡ j2
    once_stays u j j2 m o phase phase2 borrowed2 borrowed3 other live e f own own2 = at (stands_new c.place t i v _ u j e) (stands_new c.place t i v _ u j2 f)
      where
        at : ((u ≡ t) × (j ≡ i) × (v ≡ Holds m phase borrowed2)) ⊎ (((u ≡ t) → (j ≡ i) → ⊥) × (c.place u j ≡ Holds m phase borrowed2))
            → ((u ≡ t) × (j2 ≡ i) × (v ≡ Holds o phase2 borrowed3)) ⊎ (((u ≡ t) → (j2 ≡ i) → ⊥) × (c.place u j2 ≡ Holds o phase2 borrowed3)) → j ≡ j2
        at (inl a) (inl b) = a.1 ∙ sym b.1
        at (inl a) (inr b) =
            let alive : c.status t ≢ ABORTED = λ z. live (ap c.status a.0 ∙ z) in
            let old : c.place t j2 ≡ Holds o phase2 borrowed3 = ap (λ (y : ℕ). c.place y j2) (sym a.0) ∙ b.1 in
            a.1 ∙ once_new j2 o phase2 borrowed3 m phase borrowed2 other alive a.2 old own own2
        at (inr a) (inl b) =
            let alive : c.status t ≢ ABORTED = λ z. live (ap c.status b.0 ∙ z) in
            let old : c.place t j ≡ Holds m phase borrowed2 = ap (λ (y : ℕ). c.place y j) (sym b.0) ∙ a.1 in
            sym (once_new j m phase borrowed2 o phase2 borrowed3 other alive b.2 old own2 own) ∙ sym b.1
        at (inr a) (inr b) =
            inv.once u j j2 m o phase phase2 borrowed2 borrowed3 other live a.1 b.1
            (ap (is_of same spot incremental other) (sym (same_key u j m phase borrowed2 a.1)) ∙ own)
            (ap (is_of same spot incremental other) (sym (same_key u j2 o phase2 borrowed3 b.1)) ∙ own2)

    unmarked_stays : (u j : ℕ) → c.first < u → is_marked (after.place u j) ≡ false
    unmarked_stays u j l = grind (arith, inv.unmarked u j l, x.unmarked)

    stands_stays : IsHome same spot incremental c t → (m : ℕ) → current m ≡ true
        → (u : ℕ) × (j : ℕ) × (phase : Phase) × (borrowed2 : Bool) × (after.place u j ≡ Holds m phase borrowed2) × (phase ≢ Copied) × IsHome same spot incremental after u
    stands_stays home m there = at (cases_lt m c.stored)
      where
        at : (m < c.stored) ⊎ (c.stored ≤ m)
            → (u : ℕ) × (j : ℕ) × (phase : Phase) × (borrowed2 : Bool) × (after.place u j ≡ Holds m phase borrowed2) × (phase ≢ Copied) × IsHome same spot incremental after u
        at (inl old) =
            let other : m ≢ n = λ z. let g = x.gone in cc (g, z, there) in
            let w = inv.stands m (sym (x.remain m old other) ∙ there) in
            (w.0, w.1, w.2, w.3, stood_elsewhere c.place t i v _ w.0 w.1 w.4 (λ z. other (let s = h.stood in cc (s, z))), w.5, w.6)
        at (inr new) = (t, i, Still, false, grind (arith, x.new m new there), (λ z. cc z), home)

    current_stays : ((u j : ℕ) (phase : Phase) (borrowed2 : Bool) → c.place u j ≡ Holds n phase borrowed2 → phase ≢ Copied → IsHome same spot incremental c u → (u ≡ t) × (j ≡ i))
        → (u j m : ℕ) (phase : Phase) (borrowed2 : Bool) → after.place u j ≡ Holds m phase borrowed2 → phase ≢ Copied → IsHome same spot incremental c u → current m ≡ true
    current_stays alone u j m phase borrowed2 e still home = at (stands_new c.place t i v _ u j e)
      where
        at : ((u ≡ t) × (j ≡ i) × (v ≡ Holds m phase borrowed2)) ⊎ (((u ≡ t) → (j ≡ i) → ⊥) × (c.place u j ≡ Holds m phase borrowed2)) → current m ≡ true
        at (inl new) = (x.holds m phase borrowed2 new.2).5
        at (inr old) =
            let other : m ≢ n = λ z.
            let w = alone u j phase borrowed2 (subst (λ (y : ℕ). c.place u j ≡ Holds y phase borrowed2) z old.1) still home in old.0 w.0 w.1 in
            x.remain m (inv.keyed u j m phase borrowed2 old.1).0 other ∙ inv.is_current u j m phase borrowed2 old.1 still home

    pub common_stays : IsHome same spot incremental c t
        → ((u j : ℕ) (phase : Phase) (borrowed2 : Bool) → c.place u j ≡ Holds n phase borrowed2 → phase ≢ Copied → IsHome same spot incremental c u → (u ≡ t) × (j ≡ i))
        → Common same spot incremental after
    common_stays home alone =
        let w = stands_within same spot incremental c inv t i n Still borrowed h.stood in
        record {
          rooted = inv.rooted;
          rootless = inv.rootless;
          lens = inv.lens;
          unmade = λ u j l. grind (arith, inv.unmade u j l, w.0);
          unshared = inv.unshared;
          uncounted = inv.uncounted;
          outside = λ u j l far. grind (arith, inv.outside u j l far, w.1);
          keyed = keyed_stays;
          unstored = x.unstored;
          on_path = on_path_stays;
          once = once_stays;
          unmarked = unmarked_stays;
          pending = inv.pending;
          live = inv.live;
          counts = inv.counts;
          stands = stands_stays home;
          is_current = current_stays alone;
        }
