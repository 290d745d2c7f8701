-- A pass comes to lean on the owner of a map and on a guard, does something there, and comes back from both: that it may, and what that has come to.
use Rattle.std.specs.Prelude.{Option, Some, None}
use Rattle.std.proofs.Common.{◌≡◌, ◌⊎◌, ℕ, Bool, inl, inr, sym, subst, ap, ◌∙◌}
use Rattle.map_tables.specs.declared.node.Node.{Node}
use Rattle.seize_words.proofs.General.{same_some}
use Rattle.seize_seats.specs.Seats.State.{Learns}
use Rattle.seize_views.specs.declared.view.Fixed.{Fixed}
use Rattle.seize_views.specs.declared.view.Has.TheVariants.{Nothing as NoBlock}
use Rattle.seize_views.specs.declared.view.SlotView.{SlotView}
use Rattle.seize_views.specs.declared.view.SlotView.TheVariants.{Inside}
use Rattle.threads_errands.specs.Given.ViewsBegun.{leaning, lent_map, returned_map}
use Rattle.threads_errands.specs.Given.ViewsPromises.{LeaningsBegin, LoansBegin}
use Rattle.threads_errands.specs.Given.ViewsRule.{Holds, IsBy, KeepsFor, Leans, LeansOn, section_of}
use Rattle.threads_errands.specs.Given.ViewsDeclared.view.Map.{Map}
use Rattle.threads_errands.specs.Given.ViewsDeclared.view.View.{View}
use Rattle.threads_errands.specs.Given.ViewsDeclared.view.SeatWork.TheVariants.{Nothing}
use Rattle.threads_owners.specs.Loans.{BorrowsMap, EndsThere, Names, RestoresMap, back_from, within}
use Rattle.threads_callers.specs.Passing.{BeginsUnder, IsBack, LeansNoMore}

module _ {K V S : Type 0} (same : K → K → Bool) (hash : S → K → ℕ) (fixed : Fixed) where
  -- a seat that has nothing under way may lean on one that owns a map,
  pub may_borrow : LoansBegin V same hash → (i j : ℕ) (v u : View K V S) (map : Map S) → v.work ≡ Nothing → u.own ≡ Some map
      → Learns (Holds same hash fixed) KeepsFor i v j u (BorrowsMap v j u)
  may_borrow law i j v u map free owns s h at_i at_j ne =
      let g = law fixed i j v u map free owns s h at_i at_j ne in (g.0, g.1, g.2, g.3, (map, owns, g.4))

  -- and then also on one that is within its section
  pub may_lean_on : LeaningsBegin V same hash → (i j t k : ℕ) (v m u : View K V S) (map : Map S) → IsBack v → m ≡ lent_map v k map → u.slot ≡ Inside t NoBlock
      → Learns (Holds same hash fixed) KeepsFor i m j u (BeginsUnder m j u)
  may_lean_on law i j t k v m u map back is inside s h at_i at_j ne =
      let g = law fixed i j t m u (ap (λ (x : View K V S). x.slot) is ∙ back.rests) (ap (λ (x : View K V S). x.under) is ∙ back.lone)
      (ap (λ (x : View K V S). x.work) is ∙ back.free) inside s h at_i at_j ne in (g.0, g.1, g.2, g.3, (t, inside, g.4))

module _ {K V S : Type 0} (v w : View K V S) (n : ℕ) {X : Type 0} where
  -- who has borrowed a map leans on its owner, or on whom it leant,
  pub borrowed_leans : (k : ℕ) (map : Map S) → w ≡ lent_map v k map → (k ≡ n → X) → Leans w n → Leans v n ⊎ X
  borrowed_leans k map is lent (inl leans) = inl (inl (subst (λ (x : View K V S). LeansOn x.under n) is leans))
  borrowed_leans k map is lent (inr leans) = inr (lent (subst (λ (x : View K V S). IsBy x.by n) is leans))

  -- and who has given it back on no owner
  pub restored_leans : w ≡ returned_map v → Leans w n → Leans v n ⊎ X
  restored_leans is (inl leans) = inl (inl (subst (λ (x : View K V S). LeansOn x.under n) is leans))
  restored_leans is (inr leans) = absurd (subst (λ (x : View K V S). IsBy x.by n) is leans)

module _ {K V S : Type 0} (v o g : View K V S) (n t k : ℕ) (map : Map S) (owns : o.own ≡ Some map) (inside : g.slot ≡ Inside t NoBlock) where
  -- it has come to lean on both, as it may
  pub leans_on_both : (m l : View K V S) → BorrowsMap v k o m → BeginsUnder m n g l → l ≡ within v n t k map
  leans_on_both m l borrows begins =
      begins.2
      ∙ ap (λ (x : View K V S). leaning x (Some (n, begins.0))) (borrows.2 ∙ ap (lent_map v k) (same_some borrows.0 map (sym borrows.1 ∙ owns)))
      ∙ ap (λ (s : ℕ). within v n s k map)
      (same_some begins.0 t (ap (λ (x : SlotView (Node K V)). section_of None x) (sym begins.1 ∙ inside)))

  module _ (l f : View K V S) (both : l ≡ within v n t k map) (names : Names) (ends : EndsThere names l f) where
    -- there it stands as that has ended, on the same map
    pub ends_under : f.under ≡ Some (n, t)
    ends_under = ap (λ (p : (SlotView (Node K V) × Option (ℕ × ℕ)) × Option ℕ). p.0.1) ends.stays.slot ∙ ap (λ (x : View K V S). x.under) both

    pub ends_at : f.slot ≡ v.slot
    ends_at = ap (λ (p : (SlotView (Node K V) × Option (ℕ × ℕ)) × Option ℕ). p.0.0) ends.stays.slot ∙ ap (λ (x : View K V S). x.slot) both

    pub ends_on : o.own ≡ f.map
    ends_on = owns ∙ sym (ap (λ (x : View K V S). x.map) both) ∙ sym ends.stays.map

    -- and it comes back
    pub comes_home : (c w : View K V S) → IsBack v → LeansNoMore f c → RestoresMap c w → IsBack w
    comes_home c w back comes gives = record {
      rests = ap (λ (x : View K V S). x.slot) gives ∙ ap (λ (x : View K V S). x.slot) comes ∙ ends_at ∙ back.rests;
      free = ap (λ (x : View K V S). x.work) gives ∙ ap (λ (x : View K V S). x.work) comes ∙ ends.free;
      lone = ap (λ (x : View K V S). x.under) gives ∙ ap (λ (x : View K V S). x.under) comes;
      good = ap (λ (x : View K V S). x.by) gives;
    }

module _ {K V S : Type 0} (f c w : View K V S) where
  pub back_so : LeansNoMore f c → RestoresMap c w → w ≡ back_from f
  back_so comes gives = gives ∙ ap returned_map comes
