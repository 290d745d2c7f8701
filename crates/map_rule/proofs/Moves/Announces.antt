-- The status of a table says that it is the root, or was.
use Rattle.std.proofs.Common.{ℕ, Bool, true, false, refl, arith}
use Rattle.map_machines.specs.Given.TablesDeclared.status.TheConstants.Status.{PROMOTED}
use Rattle.map_rule.specs.Chart.{Chart, put}
use Rattle.map_rule.specs.Rule.{IsLawful, Common, Rule}
use Rattle.map_rule.specs.Moves.{Announces, after, Allowed}
use Rattle.map_rule.specs.Lasts.{MoveKeeps}
use Rattle.map_rule.proofs.Moves.Lasting.{beside_lasts}

module _ {K : Type 0} (same : K → K → Bool) (spot : ℕ → K → ℕ → ℕ) where
  announced_common : (b : Bool) (t : ℕ) (c : Chart K) → Allowed same spot b (Announces t) c → Common same spot b c → Common same spot b (after spot b (Announces t) c)
  announced_common b u c l inv = record {
    rooted = inv.rooted;
    rootless = inv.rootless;
    lens = inv.lens;
    unmade = inv.unmade;
    unshared = inv.unshared;
    uncounted = λ t m. grind (arith, inv.uncounted t m, l.1);
    outside = inv.outside;
    keyed = inv.keyed;
    unstored = inv.unstored;
    on_path = λ t i n phase borrowed k s. inv.on_path t i n phase borrowed k (grind (arith, l.2));
    once = λ t i j n o phase phase2 borrowed borrowed2 k s. inv.once t i j n o phase phase2 borrowed borrowed2 k (grind (arith, l.2));
    unmarked = inv.unmarked;
    pending = λ t m. grind (arith, inv.pending t m, l.0);
    live = grind (arith, inv.live);
    counts = inv.counts;
    stands = inv.stands;
    is_current = inv.is_current;
  }

  pub kept_announces_incremental : (t : ℕ) (c : Chart K) → IsLawful same spot → Rule same spot true c → Allowed same spot true (Announces t) c
      → MoveKeeps same spot true (Announces t) c
  kept_announces_incremental u c lawful rule l = (
    record {
      common = announced_common true u c l rule.common;
      in_mode = record {
        settled = rule.in_mode.settled;
        chain = rule.in_mode.chain;
        shares = rule.in_mode.shares;
        only_next = rule.in_mode.only_next;
        lent = rule.in_mode.lent;
        never_aborted = λ t. grind (arith, rule.in_mode.never_aborted t);
      };
    },
    beside_lasts same spot true c (put c.status u PROMOTED) c.claim c.copied c.share,
    λ i t j h e. refl,
  )

  pub kept_announces_blocking : (t : ℕ) (c : Chart K) → IsLawful same spot → Rule same spot false c → Allowed same spot false (Announces t) c
      → MoveKeeps same spot false (Announces t) c
  kept_announces_blocking u c lawful rule l = (
    record {
      common = announced_common false u c l rule.common;
      in_mode = record {
        marked_has_next = rule.in_mode.marked_has_next;
        plain = rule.in_mode.plain;
        targets = λ t i n phase borrowed m s. rule.in_mode.targets t i n phase borrowed m (grind arith);
        copies = λ t j m s. rule.in_mode.copies t j m (grind arith);
        claims = rule.in_mode.claims;
        sources = rule.in_mode.sources;
        left = λ t i m s. rule.in_mode.left t i m (grind (arith, l.2));
        no_tombstone = rule.in_mode.no_tombstone;
        aborted = λ t m p. grind (arith, rule.in_mode.aborted t m p, l.0);
        given_up = λ t m s. rule.in_mode.given_up t m (grind arith);
      };
    },
    beside_lasts same spot false c (put c.status u PROMOTED) c.claim c.copied c.share,
    λ i t j h e. refl,
  )
