-- In blocking mode, a table in which a pair found no place is given up.
use Rattle.std.proofs.Common.{◌≡◌, ℕ, ◌<◌, Bool, true, false, eqb, refl, arith}
use Rattle.map_machines.specs.Given.TablesDeclared.status.TheConstants.Status.{ABORTED}
use Rattle.map_rule.specs.Chart.{Lost, Chart, put}
use Rattle.map_rule.specs.Rule.{IsLawful, Common, Rule}
use Rattle.map_rule.specs.Moves.{Aborts, after, Allowed}
use Rattle.map_rule.specs.Lasts.{MoveKeeps}
use Rattle.map_rule.proofs.Moves.Lasting.{beside_lasts}

module _ {K : Type 0} (same : K → K → Bool) (spot : ℕ → K → ℕ → ℕ) where
  aborted_common : (c : Chart K) (t : ℕ) → c.first < t → t < c.past → Common same spot false c → Common same spot false (after spot false (Aborts t) c)
  aborted_common c t m l inv = record {
    rooted = inv.rooted;
    rootless = inv.rootless;
    lens = inv.lens;
    unmade = inv.unmade;
    unshared = inv.unshared;
    uncounted = λ u p. grind (arith, inv.uncounted u p);
    outside = inv.outside;
    keyed = inv.keyed;
    unstored = inv.unstored;
    on_path = λ u i n phase borrowed k s. inv.on_path u i n phase borrowed k (grind arith);
    once = λ u i j n o phase phase2 borrowed borrowed2 k s. inv.once u i j n o phase phase2 borrowed borrowed2 k (grind arith);
    unmarked = inv.unmarked;
    pending = λ u p. grind (arith, inv.pending u p);
    live = grind (arith, inv.live);
    counts = inv.counts;
    stands = inv.stands;
    is_current = inv.is_current;
  }

  pub kept_aborts_blocking : (t : ℕ) (c : Chart K) → IsLawful same spot → Rule same spot false c → Allowed same spot false (Aborts t) c → MoveKeeps same spot false (Aborts t) c
  kept_aborts_blocking t c lawful rule a = (
    record {
      common = aborted_common c t a.1 a.2 rule.common;
      in_mode = record {
        marked_has_next = rule.in_mode.marked_has_next;
        plain = rule.in_mode.plain;
        targets = λ u i n phase borrowed m s. rule.in_mode.targets u i n phase borrowed m (grind arith);
        copies = λ u j m s. rule.in_mode.copies u j m (grind arith);
        claims = rule.in_mode.claims;
        sources = rule.in_mode.sources;
        left = λ u i m s. rule.in_mode.left u i m (grind arith);
        no_tombstone = rule.in_mode.no_tombstone;
        aborted = λ u m p. grind (arith, rule.in_mode.aborted u m p);
        given_up = λ u m s. given c t u a m s (rule.in_mode.given_up u m);
      };
    },
    beside_lasts same spot false c (put c.status t ABORTED) c.claim c.copied c.share,
    λ i u j h e. refl,
  )
    where
      given : (c : Chart K) (t u : ℕ) → Allowed same spot false (Aborts t) c → c.first < u → put c.status t ABORTED u ≡ ABORTED → (c.status u ≡ ABORTED → (j : ℕ) × (j < c.len c.first) × (c.share u j ≡ Lost))
          → (j : ℕ) × (j < c.len c.first) × (c.share u j ≡ Lost)
      given c t u a m s h = at (eqb u t) refl
        where
          at : (b : Bool) → eqb u t ≡ b → (j : ℕ) × (j < c.len c.first) × (c.share u j ≡ Lost)
          at true e = (a.3, a.4, grind arith)
          at false e = h (grind arith)
