-- A pair of a class is stored, where pairs move in blocking mode.
use Rattle.std.proofs.Common.{◌≡◌, ◌≢◌, ℕ, suc, ◌<◌, ◌≤◌, Bool, true, false, ◌⊎◌, inl, inr, refl, ap, sym, ◌∙◌, arith}
use Rattle.map_machines.specs.Given.TablesDeclared.status.TheConstants.Status.{ABORTED}
use Rattle.map_rule.specs.Chart.{Phase, Still, Copying, Copied, Empty, Holds, Chart, is_marked}
use Rattle.map_rule.specs.Rule.{IsLawful, is_past, is_over, Passed, Blocking, Rule}
use Rattle.map_rule.specs.Moves.{Stores, Allowed}
use Rattle.map_rule.specs.Lasts.{MoveKeeps}
use Rattle.map_rule.proofs.Moves.Writes.{put_in_cases, put_in_elsewhere, marked_stays}
use Rattle.map_rule.proofs.Stores.Stored.{stored, IsNew, IsOld, new_or_old, stored_stays}
use Rattle.map_rule.proofs.Stores.StoredCommon.{stored_common}
use Rattle.map_rule.proofs.Stores.StoredLasts.{stored_lasts}

module _ {K : Type 0} (same : K → K → Bool) (spot : ℕ → K → ℕ → ℕ) where
  module _ (c : Chart K) (t : ℕ) (k : K) (j : ℕ) where
    abbrev i : ℕ
    i = spot (c.len t) k j

    abbrev c2 : Chart K
    c2 = stored same spot false c t (spot (c.len t) k j) k

    abbrev New : ℕ → ℕ → ℕ → Phase → Bool → Type 0
    New u a n phase borrowed = IsNew same spot false c t (spot (c.len t) k j) k u a n phase borrowed

    abbrev Old : ℕ → ℕ → ℕ → Phase → Bool → Type 0
    Old u a n phase borrowed = IsOld same spot false c t (spot (c.len t) k j) k u a n phase borrowed

    module _ (lawful : IsLawful same spot) (inv : Rule same spot false c) (l : t < c.past) (root : t ≡ c.first) (may : j ≤ c.limit t) (empty : c.place t i ≡ Empty false)
        (passed : Passed same spot false c t k j) where
      cases : (u a n : ℕ) (phase : Phase) (borrowed : Bool) → c2.place u a ≡ Holds n phase borrowed → New u a n phase borrowed ⊎ Old u a n phase borrowed
      cases = new_or_old same spot false c t i k inv.common

      stays : (u a n : ℕ) (phase : Phase) (borrowed : Bool) → c.place u a ≡ Holds n phase borrowed → c2.place u a ≡ Holds n phase borrowed
      stays = stored_stays same spot false c t i k lawful inv.common empty

      -- the places of later tables are as they were
      later : (u a : ℕ) → c.first < u → c2.place u a ≡ c.place u a
      later u a h = put_in_elsewhere c.place t i (Holds c.stored Still false) u a (λ e. omega arith)

      marked_has_next : (a : ℕ) → is_marked (c2.place c.first a) ≡ true → suc c.first < c.past
      marked_has_next a h = either (put_in_cases c.place t i (Holds c.stored Still false) c.first a)
        where
          either : ((c.first ≡ t) × (a ≡ i) × (c2.place c.first a ≡ Holds c.stored Still false)) ⊎ (c2.place c.first a ≡ c.place c.first a) → suc c.first < c.past
          either (inl e) = absurd (let f = sym (ap is_marked e.2) ∙ h in cc)
          either (inr e) = inv.in_mode.marked_has_next a (sym (ap is_marked e) ∙ h)

      plain : (u a n : ℕ) (phase : Phase) (borrowed : Bool) → c2.place u a ≡ Holds n phase borrowed → (phase ≢ Copied) × (borrowed ≡ false)
      plain u a n phase borrowed at = either (cases u a n phase borrowed at)
        where
          either : New u a n phase borrowed ⊎ Old u a n phase borrowed → (phase ≢ Copied) × (borrowed ≡ false)
          either (inl new) = (λ e. let f = sym new.3 ∙ e in cc, new.4)
          either (inr old) = inv.in_mode.plain u a n phase borrowed old.0

      targets : (u a n : ℕ) (phase : Phase) (borrowed : Bool) → c.first < u → c.status u ≢ ABORTED → c2.place u a ≡ Holds n phase borrowed
          → (b : ℕ) × (b < c.len c.first) × (c2.place c.first b ≡ Holds n Copying false) × (is_over (c.share u b) ≡ true)
      targets u a n phase borrowed h live at =
          let s = inv.in_mode.targets u a n phase borrowed h live (sym (later u a h) ∙ at) in (s.0, s.1, stays c.first s.0 n Copying false s.2, s.3)

      copies : (u b : ℕ) → c.first < u → c.status u ≢ ABORTED → is_past (c.share u b) ≡ true
          → (is_marked (c2.place c.first b) ≡ true)
          × ((n : ℕ) (phase : Phase) (borrowed : Bool) → c2.place c.first b ≡ Holds n phase borrowed → (a : ℕ) × (c2.place u a ≡ Holds n Still false))
      copies u b h live over = (ap is_marked as_before ∙ s.0, λ n phase borrowed at. let w = s.1 n phase borrowed (sym as_before ∙ at) in (w.0, stays u w.0 n Still false w.1))
        where
          s : (is_marked (c.place c.first b) ≡ true)
              × ((n : ℕ) (phase : Phase) (borrowed : Bool) → c.place c.first b ≡ Holds n phase borrowed → (a : ℕ) × (c.place u a ≡ Holds n Still false))
          s = inv.in_mode.copies u b h live over

          as_before : c2.place c.first b ≡ c.place c.first b
          as_before = marked_stays c.place t i (Holds c.stored Still false) c.first b empty s.0

      stored_blocking : Blocking same spot false c2
      stored_blocking = record {
        marked_has_next = marked_has_next;
        plain = plain;
        targets = targets;
        copies = copies;
        claims = inv.in_mode.claims;
        sources = λ u a n phase borrowed h at. let s = inv.in_mode.sources u a n phase borrowed h (sym (later u a h) ∙ at) in (s.0, stays c.first s.0 n Copying false s.1);
        left = λ u a h live l. grind (arith, inv.in_mode.left u a h live l);
        no_tombstone = λ u a mark h at. inv.in_mode.no_tombstone u a mark h (sym (later u a h) ∙ at);
        aborted = inv.in_mode.aborted;
        given_up = inv.in_mode.given_up;
      }

      stored_keeps_blocking : MoveKeeps same spot false (Stores t k j) c
      stored_keeps_blocking = (
        record {
          common = stored_common same spot false c t k j lawful inv.common l may empty passed (λ e. inv.common.live (ap c.status (sym root) ∙ e)) root;
          in_mode = stored_blocking;
        },
        stored_lasts same spot false c t i k lawful inv.common empty (λ u o e h shut. absurd (cc)),
        λ a u b not_by mine. refl,
      )

  pub kept_stores_blocking : (t : ℕ) (k : K) (j : ℕ) (c : Chart K) → IsLawful same spot → Rule same spot false c → Allowed same spot false (Stores t k j) c
      → MoveKeeps same spot false (Stores t k j) c
  kept_stores_blocking t k j c lawful inv allowed = stored_keeps_blocking c t k j lawful inv allowed.0 allowed.5 allowed.2 allowed.3 allowed.4
