-- In incremental mode, the claim of a table is another one.
use Rattle.std.proofs.Common.{ℕ, ◌<◌, Bool, true, refl, arith}
use Rattle.map_rule.specs.Chart.{Chart, put}
use Rattle.map_rule.specs.Rule.{IsLawful, Common, Rule}
use Rattle.map_rule.specs.Moves.{Reclaims, after, Allowed}
use Rattle.map_rule.specs.Lasts.{MoveKeeps}
use Rattle.map_rule.proofs.Moves.Lasting.{beside_lasts}

module _ {K : Type 0} (same : K → K → Bool) (spot : ℕ → K → ℕ → ℕ) where
  reclaimed_common : (c : Chart K) (t claim : ℕ) → t < c.past → Common same spot true c → Common same spot true (after spot true (Reclaims t claim) c)
  reclaimed_common c t claim l inv = record {
    rooted = inv.rooted;
    rootless = inv.rootless;
    lens = inv.lens;
    unmade = inv.unmade;
    unshared = inv.unshared;
    uncounted = λ u p. grind (arith, inv.uncounted u p);
    outside = inv.outside;
    keyed = inv.keyed;
    unstored = inv.unstored;
    on_path = inv.on_path;
    once = inv.once;
    unmarked = inv.unmarked;
    pending = inv.pending;
    live = inv.live;
    counts = inv.counts;
    stands = inv.stands;
    is_current = inv.is_current;
  }

  pub kept_reclaims_incremental : (t claim : ℕ) (c : Chart K) → IsLawful same spot → Rule same spot true c → Allowed same spot true (Reclaims t claim) c
      → MoveKeeps same spot true (Reclaims t claim) c
  kept_reclaims_incremental t claim c lawful rule a = (
    record {
      common = reclaimed_common c t claim a.1 rule.common;
      in_mode = record {
        settled = rule.in_mode.settled;
        chain = rule.in_mode.chain;
        shares = rule.in_mode.shares;
        only_next = rule.in_mode.only_next;
        lent = rule.in_mode.lent;
        never_aborted = rule.in_mode.never_aborted;
      };
    },
    beside_lasts same spot true c c.status (put c.claim t claim) c.copied c.share,
    λ i u j h e. refl,
  )
