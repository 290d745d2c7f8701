-- In blocking mode, a caller puts the pair of a place that it has claimed into the table that it copies into.
use Rattle.std.proofs.Common.{◌≡◌, ◌≢◌, ℕ, ◌<◌, Bool, true, false, refl, ap, sym, arith}
use Rattle.map_machines.specs.Given.TablesDeclared.status.TheConstants.Status.{ABORTED}
use Rattle.map_rule.specs.Chart.{Phase, Still, Copying, Place, Tombstone, Holds, Done, Chart, put_in, is_marked, is_counted}
use Rattle.map_rule.specs.Rule.{Rule, IsLawful, is_over, is_past}
use Rattle.map_rule.specs.Moves.{Puts, Allowed, lent_place}
use Rattle.map_rule.specs.Lasts.{MoveKeeps}
use Rattle.map_rule.proofs.Moves.Totals.{total_put_in}
use Rattle.map_rule.proofs.Moves.Puts.{Found, filled_common, filled_lasts}
use Rattle.map_rule.proofs.Moves.Writes.{put_in_one, filled_elsewhere, stays_held}

module _ {K : Type 0} (same : K → K → Bool) (spot : ℕ → K → ℕ → ℕ) where
  abbrev lent : Chart K → ℕ → Place
  lent c i = lent_place spot false (c.place c.first i)

  found : IsLawful same spot → (caller i t : ℕ) (k : K) (j : ℕ) (c : Chart K) → Rule same spot false c → (may : Allowed same spot false (Puts caller i t k j) c)
      → Found same spot false c t (spot (c.len t) k j) may.6.0 k (lent c i)
  found lawful caller i t k j c rule may =
      let all = rule.common in
      let one = rule.in_mode in
      let n = may.6.0 in
      let stands = may.6.2 in
      record {
        later = may.0;
        made = may.1;
        inside = lawful.within (c.len t) j k (all.lens t may.1).0;
        empty = may.4;
        path = (j, may.3, refl, may.5);
        pair = ap (lent_place spot false) stands;
        has_key = may.6.3;
        was_stored = (all.keyed c.first i n Copying may.6.1 stands).0;
        in_map = all.is_current c.first i n Copying may.6.1 stands (λ e. absurd (cc)) refl;
        alone = λ live class is g o phase borrowed e f.
            let w = one.targets t g o phase borrowed may.0 live e in
            let here = all.once c.first i w.0 n o Copying Copying may.6.1 false class all.live stands w.2 is f in
            let claimed = may.7 in
            grind (arith, w.3);
      }

  pub kept_puts : IsLawful same spot → (caller i t : ℕ) (k : K) (j : ℕ) (c : Chart K)
      → Rule same spot false c → Allowed same spot false (Puts caller i t k j) c → MoveKeeps same spot false (Puts caller i t k j) c
  kept_puts lawful caller i t k j c rule may =
      let all = rule.common in
      let one = rule.in_mode in
      let n = may.6.0 in
      let stands = may.6.2 in
      let claimed = may.7 in
      let p = spot (c.len t) k j in
      let v = lent c i in
      let share = put_in c.share t i (Done caller) in
      let here = found lawful caller i t k j c rule may in (
        record {
          common = filled_common same spot false c t p n k v share all here (λ u g h. grind arith) (λ u. total_put_in is_counted c.share t i (Done caller) u (c.len c.first) (sym (ap is_counted claimed)));
          in_mode = record {
            marked_has_next = λ g e. grind (arith, one.marked_has_next g);
            plain = λ u g m phase borrowed e. grind (arith, one.plain u g m phase borrowed, here.pair);
            targets = put_in_one
                (λ u g w. (m : ℕ) (phase : Phase) (borrowed : Bool) → c.first < u → c.status u ≢ ABORTED → w ≡ Holds m phase borrowed
                → (g2 : ℕ) × (g2 < c.len c.first) × (put_in c.place t p v c.first g2 ≡ Holds m Copying false) × (is_over (share u g2) ≡ true))
                c.place t p v
                (λ m phase borrowed h live e. (i, may.2, stays_held c.place t p v may.4 c.first i m Copying false (grind (arith, one.plain c.first i n Copying may.6.1, here.pair)), grind arith))
                (λ u g m phase borrowed h live e.
                let w = one.targets u g m phase borrowed h live e in
                (w.0, w.1, stays_held c.place t p v may.4 c.first w.0 m Copying false w.2, grind (arith, w.3)));
            copies = put_in_one
                (λ u g s. c.first < u → c.status u ≢ ABORTED → is_past s ≡ true
                → (is_marked (put_in c.place t p v c.first g) ≡ true)
                × ((m : ℕ) (phase : Phase) (borrowed : Bool) → put_in c.place t p v c.first g ≡ Holds m phase borrowed → (g2 : ℕ) × (put_in c.place t p v u g2 ≡ Holds m Still false)))
                c.share t i (Done caller)
                (λ h live e. (grind (arith, stands), λ m phase borrowed f. (p, grind (arith, stands, here.pair))))
                (λ u g h live e.
                let w = one.copies u g h live e in (
                  grind (arith, w.0),
                  λ m phase borrowed f.
                      let q = w.1 m phase borrowed (filled_elsewhere c.place t p v c.first g _ f (grind arith)) in
                      (q.0, stays_held c.place t p v may.4 u q.0 m Still false q.1),
                ));
            claims = λ u g h l l2. grind (arith, one.claims u g h l l2);
            sources = put_in_one
                (λ u g w. (m : ℕ) (phase : Phase) (borrowed : Bool) → c.first < u → w ≡ Holds m phase borrowed → (g2 : ℕ) × (put_in c.place t p v c.first g2 ≡ Holds m Copying false))
                c.place t p v
                (λ m phase borrowed h e. (i, stays_held c.place t p v may.4 c.first i m Copying false (grind (arith, one.plain c.first i n Copying may.6.1, here.pair))))
                (λ u g m phase borrowed h e. let w = one.sources u g m phase borrowed h e in (w.0, stays_held c.place t p v may.4 c.first w.0 m Copying false w.1));
            left = λ u g h live l. grind (arith, one.left u g h live l);
            no_tombstone = put_in_one
                (λ u g w. (mark : Bool) → c.first < u → w ≢ Tombstone mark) c.place t p v
                (λ mark h e. absurd (grind (arith, here.pair))) (λ u g mark h e. one.no_tombstone u g mark h e);
            aborted = one.aborted;
            given_up = λ u h e. let w = one.given_up u h e in (w.0, w.1, grind (arith, w.2));
          };
        },
        filled_lasts same spot false c t p n k v share here (λ u class e. absurd (grind arith)),
        λ x u g other e. grind (arith, other),
      )
