-- Reclaiming what was left over at roots begins with the first one.
use Rattle.std.specs.Prelude.{Option, if◌then◌else◌, ◌==◌}
use Rattle.std.proofs.Common.{◌≡◌, ℕ, ◌<◌, Bool, true, false, List, [], refl, arith, ap, sym, subst, eqb-true}
use Rattle.std.proofs.lemmas.Bool.{eqb-false}
use Rattle.seize_words.specs.OneMemory.Mem.{Mem}
use Rattle.seize.specs.declared.rows.reclaim_all.ReclaimAll.{ReclaimAll}
use Rattle.seize.specs.declared.rows.reclaim_all.Reclaiming.{Reclaiming}
use Rattle.seize.specs.declared.rows.reclaim_all.Reclaiming.TheVariants as at
use Rattle.seize.specs.ReclaimAll.{reclaiming_all, clearing, standing}
use Rattle.seize.specs.World.{Vacant}
use Rattle.seize_model.specs.Alone.Alone.{History, IsHistory}
use Rattle.seize_acts.specs.Reclaims.Roots.{all_lists, LeftAt, Frees, named_at, unused_at, ReclaimedAtPoint, IsClearing}

module _ {T : Type 0} (defers : T → Option ℕ) (left_over : T → Bool) (batch_size roots : ℕ) (m : Mem T) (h : History) (lists : ℕ → List ℕ) where
  -- it begins with the first root, if there is one
  abbrev pub IsFirst : Reclaiming → Type 0
  IsFirst (at.Roots root) = (root ≡ 0) × (0 < roots)
  IsFirst at.Over = roots ≡ 0
  IsFirst _ = ⊥

  pub clear_begins : IsHistory defers batch_size roots m h → LeftAt left_over m h roots lists → ((s : ℕ) → h.uses s ≡ Vacant) → (c : ReclaimAll) → c.roots ≡ roots → IsFirst c.stands
      → IsClearing defers left_over batch_size roots m h lists c m []
  clear_begins had left vacant c same first =
      let k = by c.stands first in
      record {
        history = had;
        left = left;
        vacant = vacant;
        roots_are = same;
        back = [];
        stands = k.0;
        now = had;
        values = refl;
        frees = subst (λ (n : ℕ). Frees lists n (unused_at c.stands roots) m m []) (sym k.1) (subst (λ (n : ℕ). Frees lists 0 n m m []) (sym k.2) none_yet);
      }
    where
      none_yet : Frees lists 0 0 m m []
      none_yet = record {
        gone = λ b some. absurd (omega (arith, some));
        others = λ b none. refl;
        slots = refl;
        choices = refl;
        root = λ r lt. absurd (omega (arith, lt));
        other_root = λ r le. refl;
        used = λ r lt. absurd (omega (arith, lt));
        other_used = λ r le. refl;
      }

      by : (p : Reclaiming) → IsFirst p → ReclaimedAtPoint m lists roots p [] × (named_at p roots ≡ 0) × (unused_at p roots ≡ 0)
      by (at.Roots r) k = let e = k.0 in let some = k.1 in ((omega (arith, e, some), sym (ap (all_lists lists) e)), e, e)
      by at.Over k = (sym (ap (all_lists lists) k), k, k)
      by (at.Heads slot) k = absurd k
      by (at.Retakes slot) k = absurd k
      by (at.Leaves slot leave) k = absurd k
      by (at.Batches slot) k = absurd k
      by (at.Flushes slot settle) k = absurd k
      by (at.Frees slot) k = absurd k
      by (at.Nexts root block) k = absurd k
      by (at.Takes root block next) k = absurd k
      by (at.Empties root) k = absurd k
      by (at.Unuses root) k = absurd k

  -- and with no work on slots
  pub clear_first : IsHistory defers batch_size roots m h → LeftAt left_over m h roots lists → ((s : ℕ) → h.uses s ≡ Vacant) → IsClearing defers left_over batch_size roots m h lists (clearing roots) m []
  clear_first had left vacant = by (roots == 0) (eqb-true roots 0) (eqb-false roots 0)
    where
      by : (b : Bool) → (b ≡ true → roots ≡ 0) → (b ≡ false → roots ≡ 0 → ⊥)
          → IsClearing defers left_over batch_size roots m h lists (if b then standing (reclaiming_all 0 roots) at.Over else standing (reclaiming_all 0 roots) (at.Roots 0)) m []
      by true e f = clear_begins had left vacant (standing (reclaiming_all 0 roots) at.Over) refl (e refl)
      by false e f = let ne = f refl in clear_begins had left vacant (standing (reclaiming_all 0 roots) (at.Roots 0)) refl (refl, omega (arith, ne))
