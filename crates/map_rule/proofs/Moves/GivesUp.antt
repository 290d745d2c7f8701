-- In blocking mode, a caller gives up its shares of a table.
use Rattle.std.proofs.Common.{◌≡◌, ◌≢◌, ℕ, Bool, true, false, cond, eqb, refl, sym, arith, ◌∙◌}
use Rattle.map_rule.specs.Chart.{Share, Free, Claimed, Done, Counted, Lost, Chart, is_counted}
use Rattle.map_rule.specs.Rule.{IsLawful, Common, Rule, total, is_past, is_over, is_free}
use Rattle.map_rule.specs.Moves.{GivesUp, is_of_caller, with_lost, after, Allowed}
use Rattle.map_rule.specs.Lasts.{MoveKeeps}
use Rattle.map_rule.proofs.Moves.Lasting.{beside_lasts}
use Rattle.map_rule.proofs.Moves.Totals.{total_with_lost}
use Rattle.map_rule.proofs.Moves.Writes.{chosen}

lost_over : (caller : ℕ) (s : Share) → is_over s ≡ true → is_over (with_lost caller s) ≡ true
lost_over caller Free h = h
lost_over caller (Claimed other) h = grind arith
lost_over caller (Done other) h = grind arith
lost_over caller Counted h = h
lost_over caller Lost h = h

lost_past : (caller : ℕ) (s : Share) → is_past (with_lost caller s) ≡ true → is_past s ≡ true
lost_past caller Free h = h
lost_past caller (Claimed other) h = grind arith
lost_past caller (Done other) h = refl
lost_past caller Counted h = h
lost_past caller Lost h = h

lost_free : (caller : ℕ) (s : Share) → is_free (with_lost caller s) ≡ is_free s
lost_free caller Free = refl
lost_free caller (Claimed other) = grind arith
lost_free caller (Done other) = grind arith
lost_free caller Counted = refl
lost_free caller Lost = refl

lost_lost : (caller : ℕ) (s : Share) → s ≡ Lost → with_lost caller s ≡ Lost
lost_lost caller Free h = h
lost_lost caller (Claimed other) h = grind arith
lost_lost caller (Done other) h = grind arith
lost_lost caller Counted h = h
lost_lost caller Lost h = h

lost_others : (caller i : ℕ) (s : Share) → caller ≢ i → is_of_caller i s ≡ true → with_lost caller s ≡ s
lost_others caller i Free n h = refl
lost_others caller i (Claimed other) n h = grind arith
lost_others caller i (Done other) n h = grind arith
lost_others caller i Counted n h = refl
lost_others caller i Lost n h = refl

module _ {K : Type 0} (same : K → K → Bool) (spot : ℕ → K → ℕ → ℕ) where
  lost_common : (c : Chart K) (caller t : ℕ) → Common same spot false c → Common same spot false (after spot false (GivesUp caller t) c)
  lost_common c caller t inv = record {
    rooted = inv.rooted;
    rootless = inv.rootless;
    lens = inv.lens;
    unmade = inv.unmade;
    unshared = λ u i p. grind (arith, inv.unshared u i p);
    uncounted = inv.uncounted;
    outside = inv.outside;
    keyed = inv.keyed;
    unstored = inv.unstored;
    on_path = inv.on_path;
    once = inv.once;
    unmarked = inv.unmarked;
    pending = inv.pending;
    live = inv.live;
    counts = λ u m p. counted u (inv.counts u m p);
    stands = inv.stands;
    is_current = inv.is_current;
  }
    where
      counted : (u : ℕ) → c.copied u ≡ total is_counted (c.share u) (c.len c.first)
          → c.copied u ≡ total is_counted (λ j. cond (eqb u t) (with_lost caller (c.share u j)) (c.share u j)) (c.len c.first)
      counted u h = at (eqb u t)
        where
          at : (b : Bool) → c.copied u ≡ total is_counted (λ j. cond b (with_lost caller (c.share u j)) (c.share u j)) (c.len c.first)
          at true = h ∙ sym (total_with_lost caller (c.share u) (c.len c.first))
          at false = h

  pub kept_gives_up_blocking : (caller t : ℕ) (c : Chart K) → IsLawful same spot → Rule same spot false c → Allowed same spot false (GivesUp caller t) c
      → MoveKeeps same spot false (GivesUp caller t) c
  kept_gives_up_blocking caller t c lawful rule a = (
    record {
      common = lost_common c caller t rule.common;
      in_mode = record {
        marked_has_next = rule.in_mode.marked_has_next;
        plain = rule.in_mode.plain;
        targets = λ u i n phase borrowed m s e.
            let w = rule.in_mode.targets u i n phase borrowed m s e in (w.0, w.1, w.2, chosen (λ (x : Share). is_over x ≡ true) (eqb u t) _ _ (lost_over caller (c.share u w.0) w.3) w.3);
        copies = λ u j m s e. rule.in_mode.copies u j m s (before u j e);
        claims = λ u j m p l. grind (arith, rule.in_mode.claims u j m p l, lost_free caller (c.share u j));
        sources = rule.in_mode.sources;
        left = rule.in_mode.left;
        no_tombstone = rule.in_mode.no_tombstone;
        aborted = rule.in_mode.aborted;
        given_up = λ u m s. let w = rule.in_mode.given_up u m s in (w.0, w.1, chosen (λ (x : Share). x ≡ Lost) (eqb u t) _ _ (lost_lost caller (c.share u w.0) w.2) w.2);
      };
    },
    beside_lasts same spot false c c.status c.claim c.copied (λ u j. cond (eqb u t) (with_lost caller (c.share u j)) (c.share u j)),
    λ i u j h e. chosen (λ (x : Share). x ≡ c.share u j) (eqb u t) _ _ (lost_others caller i (c.share u j) h e) refl,
  )
    where
      before : (u j : ℕ) → is_past (cond (eqb u t) (with_lost caller (c.share u j)) (c.share u j)) ≡ true → is_past (c.share u j) ≡ true
      before u j = chosen (λ (x : Share). is_past x ≡ true → is_past (c.share u j) ≡ true) (eqb u t) _ _ (lost_past caller (c.share u j)) (λ e. e)
