-- In blocking mode, a copier that comes late puts a pair into a table that was aborted and that the root has passed: nobody looks there any more.
use Rattle.std.proofs.Common.{ℕ, ◌<◌, Bool, false, refl, arith}
use Rattle.map_rule.specs.Chart.{Holds, Still, Chart}
use Rattle.map_rule.specs.Rule.{Rule, IsLawful}
use Rattle.map_rule.specs.Moves.{PutsLate, Allowed}
use Rattle.map_rule.specs.Lasts.{MoveKeeps}
use Rattle.map_rule.proofs.Moves.Writes.{filled_keyed, filled_elsewhere, stays_held, stays_taken}

module _ {K : Type 0} (same : K → K → Bool) (spot : ℕ → K → ℕ → ℕ) where
  pub kept_puts_late : IsLawful same spot → (t i n : ℕ) (c : Chart K) → Rule same spot false c → Allowed same spot false (PutsLate t i n) c → MoveKeeps same spot false (PutsLate t i n) c
  kept_puts_late lawful t i n c rule may =
      let all = rule.common in
      let one = rule.in_mode in
      let before = may.1 in
      let there : c.first < c.past = grind (arith, all.rooted, all.rootless) in (
        record {
          common = record {
            rooted = all.rooted;
            rootless = all.rootless;
            lens = all.lens;
            unmade = λ u j h. grind (arith, all.unmade u j);
            unshared = all.unshared;
            uncounted = all.uncounted;
            outside = λ u j h l. grind (arith, all.outside u j);
            keyed = filled_keyed c.place c.key c.stored t i n Still false _ refl may.5 may.6.0 may.6.1 all.keyed;
            unstored = all.unstored;
            on_path = λ u j m phase borrowed k live e ek.
                let p = all.on_path u j m phase borrowed k live (filled_elsewhere c.place t i (Holds n Still false) u j _ e (grind arith)) ek in
                (p.0, p.1, p.2, λ g l. stays_taken false c.place t i (Holds n Still false) u _ refl (p.3 g l));
            once = λ u j j2 m o phase phase2 borrowed borrowed2 k live e e2 f f2. grind (arith, all.once u j j2 m o phase phase2 borrowed borrowed2 k live);
            unmarked = λ u j h. grind (arith, all.unmarked u j);
            pending = all.pending;
            live = all.live;
            counts = all.counts;
            stands = λ m e. let w = all.stands m e in (w.0, w.1, w.2, w.3, stays_held c.place t i (Holds n Still false) may.4 w.0 w.1 m w.2 w.3 w.4, w.5, w.6);
            is_current = λ u j m phase borrowed e copied home. grind (arith, all.is_current u j m phase borrowed);
          };
          in_mode = record {
            marked_has_next = λ j e. grind (arith, one.marked_has_next j);
            plain = λ u j m phase borrowed e. grind (arith, one.plain u j m phase borrowed);
            targets = λ u j m phase borrowed h live e.
                let w = one.targets u j m phase borrowed h live (filled_elsewhere c.place t i (Holds n Still false) u j _ e (grind arith)) in
                (w.0, w.1, stays_held c.place t i (Holds n Still false) may.4 c.first w.0 m _ _ w.2, w.3);
            copies = λ u j h live e.
                let w = one.copies u j h live e in (
                  grind (arith, w.0),
                  λ m phase borrowed f.
                      let p = w.1 m phase borrowed (filled_elsewhere c.place t i (Holds n Still false) c.first j _ f (grind arith)) in
                      (p.0, stays_held c.place t i (Holds n Still false) may.4 u p.0 m _ _ p.1),
                );
            claims = one.claims;
            sources = λ u j m phase borrowed h e. let w = one.sources u j m phase borrowed h (filled_elsewhere c.place t i (Holds n Still false) u j _ e (grind arith)) in (w.0, stays_held c.place t i (Holds n Still false) may.4 c.first w.0 m _ _ w.1);
            left = λ u j h live l. grind (arith, one.left u j h live l);
            no_tombstone = λ u j mark h e. one.no_tombstone u j mark h (filled_elsewhere c.place t i (Holds n Still false) u j _ e (grind arith));
            aborted = one.aborted;
            given_up = one.given_up;
          };
        },
        record {
          past = grind arith;
          first = grind arith;
          lens = λ u l. (refl, refl);
          stored = grind arith;
          keys = λ m l. refl;
          taken = λ u j e. stays_taken false c.place t i (Holds n Still false) u j refl e;
          others = λ u j k e f. grind arith;
          copied = λ u j m borrowed e. grind arith;
          settled = λ u j e. grind arith;
          shut = λ u k e. absurd (grind arith);
          frozen = λ u j e f. grind arith;
        },
        λ j u v other e. refl,
      )
