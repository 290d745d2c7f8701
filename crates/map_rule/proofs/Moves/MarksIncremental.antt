-- A place of the root is marked, where pairs move in incremental mode: the rule stays.
use Rattle.std.proofs.Common.{◌≡◌, ℕ, suc, Bool, true, false, refl, arith}
use Rattle.map_rule.specs.Chart.{Still, Copying, Copied, Place, Empty, Tombstone, Holds, Share, Free, Claimed, Done, Counted, Lost, Chart, is_marked, is_counted}
use Rattle.map_rule.specs.Rule.{IsLawful, Rule, Agrees}
use Rattle.map_rule.specs.Moves.{Marks, marked, share_of, Allowed}
use Rattle.map_rule.specs.Lasts.{MoveKeeps}
use Rattle.map_rule.proofs.Moves.SamePairs.{marked_keeps}
use Rattle.map_rule.proofs.Moves.RootPlaces.{MayChangeTo, change_kept, change_lasts}

-- the share of a place that is not marked is free
share_free : (s : Share) (p : Place) → Agrees s p → is_marked p ≡ false → s ≡ Free
share_free Free p h e = refl
share_free (Claimed caller) p h e = grind (arith, h)
share_free (Done caller) (Empty m) h e = absurd (cc (h, e))
share_free (Done caller) (Tombstone m) h e = absurd (cc (h, e))
share_free (Done caller) (Holds n Still borrowed) h e = absurd (cc h)
share_free (Done caller) (Holds n Copying borrowed) h e = absurd (cc h)
share_free (Done caller) (Holds n Copied borrowed) h e = absurd (cc e)
share_free Counted (Empty m) h e = absurd (cc (h, e))
share_free Counted (Tombstone m) h e = absurd (cc (h, e))
share_free Counted (Holds n Still borrowed) h e = absurd (cc h)
share_free Counted (Holds n Copying borrowed) h e = absurd (cc h)
share_free Counted (Holds n Copied borrowed) h e = absurd (cc e)
share_free Lost p h e = absurd h

share_agrees : (caller : ℕ) (p : Place) → is_marked p ≡ false → Agrees (share_of caller p) (marked p)
share_agrees caller (Empty m) e = refl
share_agrees caller (Tombstone m) e = refl
share_agrees caller (Holds n Still borrowed) e = (n, borrowed, refl)
share_agrees caller (Holds n Copying borrowed) e = absurd (cc e)
share_agrees caller (Holds n Copied borrowed) e = absurd (cc e)

not_counted : (caller : ℕ) (p : Place) → is_counted (share_of caller p) ≡ 0
not_counted caller (Empty m) = refl
not_counted caller (Tombstone m) = refl
not_counted caller (Holds n phase borrowed) = refl

not_copied : (p : Place) (n : ℕ) (borrowed : Bool) → is_marked p ≡ false → marked p ≡ Holds n Copied borrowed → ⊥
not_copied (Empty m) n borrowed e h = cc h
not_copied (Tombstone m) n borrowed e h = cc h
not_copied (Holds o Still lent) n borrowed e h = cc h
not_copied (Holds o Copying lent) n borrowed e h = cc e
not_copied (Holds o Copied lent) n borrowed e h = cc e

module _ {K : Type 0} (same : K → K → Bool) (spot : ℕ → K → ℕ → ℕ) where
  pub was_free : (caller i : ℕ) (c : Chart K) → Rule same spot true c → Allowed same spot true (Marks caller i) c → c.share (suc c.first) i ≡ Free
  was_free caller i c inv a = share_free (c.share (suc c.first) i) (c.place c.first i) (inv.in_mode.shares i a.1) a.3

  may_mark : (caller i : ℕ) (c : Chart K) → Rule same spot true c → Allowed same spot true (Marks caller i) c
      → MayChangeTo same spot c i (marked (c.place c.first i)) (share_of caller (c.place c.first i))
  may_mark caller i c inv a = record {
    within = a.1;
    has_next = a.2;
    keeps = marked_keeps (c.place c.first i);
    counted = let free = was_free caller i c inv a in let none = not_counted caller (c.place c.first i) in rw free none;
    agrees = share_agrees caller (c.place c.first i) a.3;
    was_put = λ n borrowed e. absurd (not_copied (c.place c.first i) n borrowed a.3 e);
    goes_on = λ n borrowed e. absurd (grind (arith, a.3, e));
  }

  pub kept_marks_incremental : (caller i : ℕ) (c : Chart K) → IsLawful same spot → Rule same spot true c → Allowed same spot true (Marks caller i) c
      → MoveKeeps same spot true (Marks caller i) c
  kept_marks_incremental caller i c lawful inv a = (
    change_kept same spot c i (marked (c.place c.first i)) (share_of caller (c.place c.first i)) lawful inv (may_mark caller i c inv a),
    change_lasts same spot c i (marked (c.place c.first i)) (share_of caller (c.place c.first i)) (may_mark caller i c inv a),
    λ other t j not_by of_other. let free = was_free caller i c inv a in grind (arith, free, of_other),
  )
