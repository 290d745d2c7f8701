-- What a caller has copied is counted.
use Rattle.std.proofs.Common.{ltb, ◌+◌, ◌≡◌, ◌≢◌, ℕ, suc, ◌<◌, Bool, true, false, cond, eqb, refl, arith}
use Rattle.map_rule.specs.Chart.{Place, Share, Free, Claimed, Done, Counted, Lost, Chart, put, is_counted}
use Rattle.map_rule.specs.Rule.{IsLawful, Common, Rule, Agrees, total, is_past, is_over, is_free}
use Rattle.map_rule.specs.Moves.{Counts, is_of_caller, with_counted, after, Allowed, counted_to}
use Rattle.map_rule.specs.Lasts.{MoveKeeps}
use Rattle.map_rule.proofs.Moves.Lasting.{beside_lasts}
use Rattle.map_rule.proofs.Moves.Totals.{total_with_counted}
use Rattle.map_rule.proofs.Moves.Writes.{chosen}

counted_over : (caller : ℕ) (s : Share) → is_over s ≡ true → is_over (with_counted caller s) ≡ true
counted_over caller Free h = h
counted_over caller (Claimed other) h = h
counted_over caller (Done other) h = grind arith
counted_over caller Counted h = h
counted_over caller Lost h = h

counted_past : (caller : ℕ) (s : Share) → is_past (with_counted caller s) ≡ is_past s
counted_past caller Free = refl
counted_past caller (Claimed other) = refl
counted_past caller (Done other) = grind arith
counted_past caller Counted = refl
counted_past caller Lost = refl

counted_free : (caller : ℕ) (s : Share) → is_free (with_counted caller s) ≡ is_free s
counted_free caller Free = refl
counted_free caller (Claimed other) = refl
counted_free caller (Done other) = grind arith
counted_free caller Counted = refl
counted_free caller Lost = refl

counted_lost : (caller : ℕ) (s : Share) → s ≡ Lost → with_counted caller s ≡ Lost
counted_lost caller Free h = h
counted_lost caller (Claimed other) h = h
counted_lost caller (Done other) h = grind arith
counted_lost caller Counted h = h
counted_lost caller Lost h = h

counted_nothing : (caller : ℕ) (s : Share) → s ≡ Free → with_counted caller s ≡ Free
counted_nothing caller Free h = h
counted_nothing caller (Claimed other) h = h
counted_nothing caller (Done other) h = grind arith
counted_nothing caller Counted h = h
counted_nothing caller Lost h = h

counted_others : (caller i : ℕ) (s : Share) → caller ≢ i → is_of_caller i s ≡ true → with_counted caller s ≡ s
counted_others caller i Free n h = refl
counted_others caller i (Claimed other) n h = refl
counted_others caller i (Done other) n h = grind arith
counted_others caller i Counted n h = refl
counted_others caller i Lost n h = refl

counted_agrees : (caller : ℕ) (s : Share) (p : Place) → Agrees s p → Agrees (with_counted caller s) p
counted_agrees caller Free p h = h
counted_agrees caller (Claimed other) p h = h
counted_agrees caller (Done other) p h = at (eqb other caller)
  where
    at : (b : Bool) → Agrees (cond b Counted (Done other)) p
    at true = h
    at false = h
counted_agrees caller Counted p h = h
counted_agrees caller Lost p h = h

module _ {K : Type 0} (same : K → K → Bool) (spot : ℕ → K → ℕ → ℕ) where
  counted_common : (b : Bool) (c : Chart K) (caller t number : ℕ) → Allowed same spot b (Counts caller t number) c → Common same spot b c
      → Common same spot b (after spot b (Counts caller t number) c)
  counted_common b c caller t number a inv = record {
    rooted = inv.rooted;
    rootless = inv.rootless;
    lens = inv.lens;
    unmade = inv.unmade;
    unshared = λ u i p. grind (arith, inv.unshared u i p);
    uncounted = λ u p. grind (arith, inv.uncounted u p);
    outside = inv.outside;
    keyed = inv.keyed;
    unstored = inv.unstored;
    on_path = inv.on_path;
    once = inv.once;
    unmarked = inv.unmarked;
    pending = inv.pending;
    live = inv.live;
    counts = λ u m p. counted u m (inv.counts u m p);
    stands = inv.stands;
    is_current = inv.is_current;
  }
    where
      counted : (u : ℕ) → c.first < u → c.copied u ≡ total is_counted (c.share u) (c.len c.first)
          → put c.copied t (counted_to c t number) u ≡ total is_counted (λ j. cond (eqb u t) (with_counted caller (c.share u j)) (c.share u j)) (c.len c.first)
      counted u m h = at (eqb u t) refl
        where
          at : (b : Bool) → eqb u t ≡ b
              → cond b (counted_to c t number) (c.copied u) ≡ total is_counted (λ j. cond b (with_counted caller (c.share u j)) (c.share u j)) (c.len c.first)
          at true e = grind (arith, a.1, total_with_counted caller (c.share u) (c.len c.first))
          at false e = h

  pub kept_counts_incremental : (caller t number : ℕ) (c : Chart K) → IsLawful same spot → Rule same spot true c → Allowed same spot true (Counts caller t number) c
      → MoveKeeps same spot true (Counts caller t number) c
  kept_counts_incremental caller t number c lawful rule a = (
    record {
      common = counted_common true c caller t number a rule.common;
      in_mode = record {
        settled = rule.in_mode.settled;
        chain = rule.in_mode.chain;
        shares = λ i l. chosen (λ (x : Share). Agrees x (c.place c.first i)) (eqb (suc c.first) t) _ _ (counted_agrees caller _ _ (rule.in_mode.shares i l)) (rule.in_mode.shares i l);
        only_next = λ u i m. chosen (λ (x : Share). x ≡ Free) (eqb u t) _ _ (counted_nothing caller _ (rule.in_mode.only_next u i m)) (rule.in_mode.only_next u i m);
        lent = rule.in_mode.lent;
        never_aborted = rule.in_mode.never_aborted;
      };
    },
    beside_lasts same spot true c c.status c.claim (put c.copied t (counted_to c t number)) (λ u j. cond (eqb u t) (with_counted caller (c.share u j)) (c.share u j)),
    λ i u j h e. chosen (λ (x : Share). x ≡ c.share u j) (eqb u t) _ _ (counted_others caller i (c.share u j) h e) refl,
  )

  pub kept_counts_blocking : (caller t number : ℕ) (c : Chart K) → IsLawful same spot → Rule same spot false c → Allowed same spot false (Counts caller t number) c
      → MoveKeeps same spot false (Counts caller t number) c
  kept_counts_blocking caller t number c lawful rule a = (
    record {
      common = counted_common false c caller t number a rule.common;
      in_mode = record {
        marked_has_next = rule.in_mode.marked_has_next;
        plain = rule.in_mode.plain;
        targets = λ u i n phase borrowed m s e.
            let w = rule.in_mode.targets u i n phase borrowed m s e in (w.0, w.1, w.2, chosen (λ (x : Share). is_over x ≡ true) (eqb u t) _ _ (counted_over caller (c.share u w.0) w.3) w.3);
        copies = λ u j m s e. rule.in_mode.copies u j m s (grind (arith, counted_past caller (c.share u j)));
        claims = λ u j m p l. grind (arith, rule.in_mode.claims u j m p l, counted_free caller (c.share u j));
        sources = rule.in_mode.sources;
        left = rule.in_mode.left;
        no_tombstone = rule.in_mode.no_tombstone;
        aborted = rule.in_mode.aborted;
        given_up = λ u m s. let w = rule.in_mode.given_up u m s in (w.0, w.1, chosen (λ (x : Share). x ≡ Lost) (eqb u t) _ _ (counted_lost caller (c.share u w.0) w.2) w.2);
      };
    },
    beside_lasts same spot false c c.status c.claim (put c.copied t (counted_to c t number)) (λ u j. cond (eqb u t) (with_counted caller (c.share u j)) (c.share u j)),
    λ i u j h e. chosen (λ (x : Share). x ≡ c.share u j) (eqb u t) _ _ (counted_others caller i (c.share u j) h e) refl,
  )

-- behind the root, places that are counted come to those that were
pub counted_behind : {K : Type 0} (c : Chart K) (t number : ℕ) → c.first < t → counted_to c t number ≡ c.copied t + number
counted_behind c t number l = by (ltb c.first t) refl
  where
    by : (z : Bool) → ltb c.first t ≡ z → cond z (c.copied t + number) number ≡ c.copied t + number
    by true e = refl
    by false e = absurd (grind (arith, e, l))
