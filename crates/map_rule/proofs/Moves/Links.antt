-- A table is linked behind the last one, or as the first one.
use Rattle.std.proofs.Common.{◌≡◌, ℕ, suc, ◌<◌, Bool, true, false, cond, eqb, leb, ◌⊎◌, inl, inr, refl, sym, subst, arith}
use Rattle.map_rule.specs.Chart.{Phase, Empty, Holds, Chart, put, is_counted}
use Rattle.map_rule.specs.Rule.{IsLawful, Common, Rule, Agrees, Shut, OnPath, IsMoving, total, is_free}
use Rattle.map_rule.specs.Moves.{Links, after, Allowed}
use Rattle.map_rule.specs.Lasts.{Lasts, MoveKeeps}
use Rattle.map_rule.proofs.Moves.Totals.{total_none}

module _ {K : Type 0} (same : K → K → Bool) (spot : ℕ → K → ℕ → ℕ) where
  -- what is said of a table's length and limit is said of those of an older table still
  kept_length : (c : Chart K) (len limit t : ℕ) (P : ℕ → ℕ → Type 0) → t < c.past → P (c.len t) (c.limit t) → P (put c.len c.past len t) (put c.limit c.past limit t)
  kept_length c len limit t P l p = at (eqb t c.past) (grind arith)
    where
      at : (b : Bool) → b ≡ false → P (cond b len (c.len t)) (cond b limit (c.limit t))
      at true e = absurd (grind arith)
      at false e = p

  kept_root : (c : Chart K) (len t : ℕ) (P : ℕ → Type 0) → t < c.past → P (c.len t) → P (put c.len c.past len t)
  kept_root c len t P l p = kept_length c len len t (λ a b. P a) l p

  -- a pair stands in a table that is there
  pub linked_there : (b : Bool) (c : Chart K) → Common same spot b c → (t i n : ℕ) (phase : Phase) (borrowed : Bool) → c.place t i ≡ Holds n phase borrowed → t < c.past
  linked_there b c inv t i n phase borrowed e = grind (arith, inv.unmade t i)

  linked_shut : (b : Bool) (c : Chart K) (len limit t : ℕ) (k : K) → t < c.past → Shut same spot b c t k → Shut same spot b (after spot b (Links len limit) c) t k
  linked_shut b c len limit t k l s = kept_length c len limit t
      (λ len2 limit2. Shut same spot b (record c { len = λ u. len2; limit = λ u. limit2 }) t k) l s

  linked_path : (b : Bool) (c : Chart K) (len limit t i : ℕ) (k : K) → t < c.past → OnPath same spot b c t i k → OnPath same spot b (after spot b (Links len limit) c) t i k
  linked_path b c len limit t i k l s = kept_length c len limit t
      (λ len2 limit2. OnPath same spot b (record c { len = λ u. len2; limit = λ u. limit2 }) t i k) l s

  linked_common : (b : Bool) (c : Chart K) (len limit : ℕ) → Allowed same spot b (Links len limit) c → Common same spot b c → Common same spot b (after spot b (Links len limit) c)
  linked_common b c len limit a inv = record {
    rooted = λ l. grind (arith, inv.rooted, inv.rootless);
    rootless = λ e. absurd (omega arith);
    lens = λ t l. grind (arith, inv.lens t, a.0, a.1);
    unmade = λ t i l. inv.unmade t i (omega arith);
    unshared = λ t i l. inv.unshared t i (omega arith);
    uncounted = λ t l. grind (arith, inv.uncounted t);
    outside = λ t i l m. grind (arith, inv.outside t i, inv.unmade t i);
    keyed = inv.keyed;
    unstored = inv.unstored;
    on_path = λ t i n phase borrowed k s e f.
        let l = linked_there b c inv t i n phase borrowed e in linked_path b c len limit t i k l (inv.on_path t i n phase borrowed k (grind arith) e f);
    once = λ t i j n o phase phase2 borrowed borrowed2 k s e f. inv.once t i j n o phase phase2 borrowed borrowed2 k (grind (arith, linked_there b c inv t i n phase borrowed e)) e f;
    unmarked = inv.unmarked;
    pending = λ t l. grind (arith, inv.pending t l, inv.rooted);
    live = grind (arith, inv.live, inv.rooted, inv.rootless);
    counts = λ t m l. kept_root c len c.first (λ n. c.copied t ≡ total is_counted (c.share t) n) (grind (arith, inv.rooted)) (counted t m l (eqb t c.past) refl);
    stands = inv.stands;
    is_current = inv.is_current;
  }
    where
      counted : (t : ℕ) → c.first < t → t < suc c.past → (x : Bool) → eqb t c.past ≡ x → c.copied t ≡ total is_counted (c.share t) (c.len c.first)
      counted t m l true e = grind (arith, inv.uncounted t, total_none is_counted (c.share t) (c.len c.first) (λ j h. grind (arith, inv.unshared t j)))
      counted t m l false e = inv.counts t m (grind arith)

  linked_lasts : (b : Bool) (c : Chart K) (len limit : ℕ) → Lasts same spot b c (after spot b (Links len limit) c)
  linked_lasts b c len limit = record {
    past = omega arith;
    first = omega arith;
    lens = λ t l. grind arith;
    stored = omega arith;
    keys = λ n l. refl;
    taken = λ t i e. e;
    others = λ t i k e f. f;
    copied = λ t i n borrowed e. e;
    settled = λ t i e. e;
    shut = λ t k e l s. linked_shut b c len limit t k l s;
    frozen = λ t i e f. refl;
  }

  pub kept_links_incremental : (len limit : ℕ) (c : Chart K) → IsLawful same spot → Rule same spot true c → Allowed same spot true (Links len limit) c
      → MoveKeeps same spot true (Links len limit) c
  kept_links_incremental len limit c lawful rule a = (
    record {
      common = linked_common true c len limit a rule.common;
      in_mode = record {
        settled = λ t i m l. rule.in_mode.settled t i m (grind (arith, rule.common.rooted, rule.common.rootless));
        chain = λ t u i n phase borrowed k e f m l. chained t u i n phase borrowed k e m (rule.in_mode.chain t u i n phase borrowed k e f m l);
        shares = λ i l. shared i l (eqb c.first c.past) refl;
        only_next = rule.in_mode.only_next;
        lent = rule.in_mode.lent;
        never_aborted = λ t. grind (arith, rule.in_mode.never_aborted t);
      };
    },
    linked_lasts true c len limit,
    λ i u j h e. refl,
  )
    where
      chained : (t u i n : ℕ) (phase : Phase) (borrowed : Bool) (k : K) → c.place u i ≡ Holds n phase borrowed → t < u
          → Shut same spot true c t k ⊎ ((t ≡ c.first) × (borrowed ≡ true) × IsMoving same spot true c n)
          → Shut same spot true (after spot true (Links len limit) c) t k ⊎ ((t ≡ c.first) × (borrowed ≡ true) × IsMoving same spot true c n)
      chained t u i n phase borrowed k e m (inl s) = inl (linked_shut true c len limit t k (omega (arith, linked_there true c rule.common u i n phase borrowed e)) s)
      chained t u i n phase borrowed k e m (inr w) = inr w

      shared : (i : ℕ) → i < put c.len c.past len c.first → (x : Bool) → eqb c.first c.past ≡ x → Agrees (c.share (suc c.first) i) (c.place c.first i)
      shared i l true e =
          subst (λ p. Agrees (c.share (suc c.first) i) p) (sym (rule.common.unmade c.first i (grind arith)))
          (subst (λ s. Agrees s (Empty false)) (sym (rule.common.unshared (suc c.first) i (grind arith))) refl)
      shared i l false e = rule.in_mode.shares i (grind arith)

  pub kept_links_blocking : (len limit : ℕ) (c : Chart K) → IsLawful same spot → Rule same spot false c → Allowed same spot false (Links len limit) c
      → MoveKeeps same spot false (Links len limit) c
  kept_links_blocking len limit c lawful rule a = (
    record {
      common = linked_common false c len limit a rule.common;
      in_mode = record {
        marked_has_next = λ i e. grind (arith, rule.in_mode.marked_has_next i e);
        plain = rule.in_mode.plain;
        targets = λ t i n phase borrowed m s e.
            let l = linked_there false c rule.common t i n phase borrowed e in
            let w = rule.in_mode.targets t i n phase borrowed m (grind arith) e in (w.0, grind (arith, w.1), w.2, w.3);
        copies = λ t j m s e. rule.in_mode.copies t j m (grind (arith, rule.common.unshared t j)) e;
        claims = λ t j m p l. claimed t j m p l (eqb t c.past) refl;
        sources = λ t i n phase borrowed m e. rule.in_mode.sources t i n phase borrowed m e;
        left = λ t i m s l. rule.in_mode.left t i m (grind (arith, rule.common.rooted, rule.common.rootless)) (grind (arith, rule.common.rooted, rule.common.rootless));
        no_tombstone = rule.in_mode.no_tombstone;
        aborted = λ t m p. grind (arith, a.2 t m);
        given_up = λ t m s. let w = rule.in_mode.given_up t m (grind (arith, rule.common.uncounted t)) in (w.0, grind (arith, w.1, rule.common.uncounted t), w.2);
      };
    },
    linked_lasts false c len limit,
    λ i u j h e. refl,
  )
    where
      claimed : (t j : ℕ) → c.first < t → t < suc c.past → j < put c.len c.past len c.first → (x : Bool) → eqb t c.past ≡ x → is_free (c.share t j) ≡ leb (c.claim t) j
      claimed t j m p l true e = grind (arith, rule.common.uncounted t, rule.common.unshared t j)
      claimed t j m p l false e = rule.in_mode.claims t j m (grind arith) (grind arith)
