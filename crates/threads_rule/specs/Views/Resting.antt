-- Who has nothing under way has nothing under way after an operation; and whoever leans on a seat leans on it after one.
use Rattle.std.specs.Prelude.{◌≡◌, ◌⊎◌, ℕ, Bool, true, false, Option, Some, None}
use Rattle.std.proofs.Common.{inl, inr, refl, sym, subst, ap}
use Rattle.seize_words.specs.OneMemory.Op.{Op, Out}
use Rattle.seize.specs.declared.advance.Advance.{Advance as Told}
use Rattle.seize.specs.declared.advance.Advance.TheVariants as told_as
use Rattle.seize.specs.declared.rows.settle.Settled.{Settled}
use Rattle.seize.specs.declared.rows.settle.Settled.TheVariants as settled
use Rattle.map_tables.specs.Nodes.{deferred_word}
use Rattle.map_tables.specs.declared.node.Node.{Node}
use Rattle.map_tables.specs.declared.setting.Setting.{Setting}
use Rattle.seize_views.specs.Views.Notes.{noted, deed}
use Rattle.seize_views.specs.Views.Resting.{resting_stay as row_stays}
use Rattle.seize_views.specs.Views.Rows.{IsQuiescent}
use Rattle.seize_views.specs.declared.view.Deed.TheVariants.{NoneYet}
use Rattle.seize_views.specs.declared.view.SlotView.{SlotView}
use Rattle.seize_views.specs.declared.view.SlotView.TheVariants.{Inside}
use Rattle.threads_rule.specs.Views.Notes.{busy, knows_by, row_known, SeatIsQuiescent}
use Rattle.threads_rule.specs.Views.Rule.{LeansOn, IsBy, Leans}
use Rattle.threads_rule.specs.Views.Told.{told, observed_by, with_made, made_after, ended_after}
use Rattle.threads_rule.specs.declared.view.Map.{Map}
use Rattle.threads_rule.specs.declared.view.View.{View}
use Rattle.threads_rule.specs.declared.view.SeatWork.{SeatWork}
use Rattle.threads_rule.specs.declared.view.SeatWork.TheVariants.{Nothing, Calls, Makes, Ends}

-- who is busy does not rest
pub busy_not : {T : Type 0} (slot : SlotView T) → IsQuiescent (busy slot) → ⊥
busy_not (Inside t has) is = is
busy_not _ is = is

module _ {K V S : Type 0} (same : K → K → Bool) (hash : S → K → ℕ) where
  by_work : (v : View K V S) (op : Op (Node K V)) (out : Out (Node K V)) (w : View K V S) (under : Option (ℕ × ℕ)) (by : Option ℕ) → v.under ≡ under → v.by ≡ by → (map : Option (Map S)) (work : SeatWork K V S)
      → observed_by same hash v map work op out w → IsQuiescent (knows_by by (row_known under v.slot work)) → SeatIsQuiescent w
  by_work v op out w None None own lone map Nothing (slot, tells, is) rests =
      subst SeatIsQuiescent (sym is)
      (subst (λ (o : Option ℕ). IsQuiescent (knows_by o (row_known {S = S} v.under slot Nothing))) (sym lone)
      (subst (λ (u : Option (ℕ × ℕ)). IsQuiescent (row_known {S = S} u slot Nothing)) (sym own)
      (row_stays deferred_word (noted v.slot NoneYet v.began 0) op out (noted slot (deed v.slot NoneYet op out) v.began 0) (tells, refl, refl, refl) rests)))
  by_work v op out w None None own lone map (Calls machine) is rests = absurd (busy_not v.slot rests)
  by_work v op out w None None own lone map (Makes mine m hasher opening) is rests = absurd rests
  by_work v op out w None None own lone map (Ends machine) is rests = absurd rests
  by_work v op out w (Some leant) None own lone map work is rests = absurd rests
  by_work v op out w under (Some owner) own lone map work is rests = absurd (busy_not (row_known under v.slot work) rests)

  -- a step leaves a seat on whom it leans
  same_under : (v : View K V S) (op : Op (Node K V)) (out : Out (Node K V)) (w : View K V S) (map : Option (Map S)) (work : SeatWork K V S) → observed_by same hash v map work op out w
      → (w.under ≡ v.under) × ((w.by ≡ v.by) ⊎ (w.by ≡ None))
  same_under v op out w map Nothing is = (ap (λ (x : View K V S). x.under) is.2, inl (ap (λ (x : View K V S). x.by) is.2))
  same_under v op out w None (Calls machine) is = absurd is
  same_under v op out w (Some map) (Calls machine) is = (ap (λ (x : View K V S). x.under) is.2, inl (ap (λ (x : View K V S). x.by) is.2))
  same_under v op out w map (Ends machine) is = after is.0.1 is.2
    where
      after : (end : Settled (Node K V)) → w ≡ ended_after v w.looks is.0.0 end → (w.under ≡ v.under) × ((w.by ≡ v.by) ⊎ (w.by ≡ None))
      after settled.Done e = (ap (λ (x : View K V S). x.under) e, inl (ap (λ (x : View K V S). x.by) e))
      after _ e = (ap (λ (x : View K V S). x.under) e, inl (ap (λ (x : View K V S). x.by) e))
  same_under v op out w map (Makes mine m hasher opening) is = after is.0.1 is.2
    where
      made : (own : Bool) (before : Option (Map S)) (setting : Setting) → w ≡ with_made v own before (record { number = m; setting = setting; hasher = hasher }) w.looks
          → (w.under ≡ v.under) × ((w.by ≡ v.by) ⊎ (w.by ≡ None))
      made true None setting e = (ap (λ (x : View K V S). x.under) e, inl (ap (λ (x : View K V S). x.by) e))
      made true (Some other) setting e = (ap (λ (x : View K V S). x.under) e, inr (ap (λ (x : View K V S). x.by) e))
      made false before setting e = (ap (λ (x : View K V S). x.under) e, inr (ap (λ (x : View K V S). x.by) e))

      after : (end : Told Setting) → w ≡ made_after v mine m hasher w.looks is.0.0 end → (w.under ≡ v.under) × ((w.by ≡ v.by) ⊎ (w.by ≡ None))
      after (told_as.Done setting) e = made mine v.own setting e
      after (told_as.Refused fault) e = (ap (λ (x : View K V S). x.under) e, inl (ap (λ (x : View K V S). x.by) e))
      after _ e = (ap (λ (x : View K V S). x.under) e, inl (ap (λ (x : View K V S). x.by) e))

  pub resting_stay : (v : View K V S) (op : Op (Node K V)) (out : Out (Node K V)) (w : View K V S) → told same hash v op out w → SeatIsQuiescent v → SeatIsQuiescent w
  resting_stay v op out w is rests = by_work v op out w v.under v.by refl refl v.map v.work is rests

  pub leaning_stay : (v : View K V S) (op : Op (Node K V)) (out : Out (Node K V)) (w : View K V S) → told same hash v op out w → (n : ℕ) → Leans w n → Leans v n
  leaning_stay v op out w is n (inl leans) = inl (subst (λ (u : Option (ℕ × ℕ)). LeansOn u n) (same_under v op out w v.map v.work is).0 leans)
  leaning_stay v op out w is n (inr leans) = elim (same_under v op out w v.map v.work is).1 as (λ _. Leans v n) [
    | inl same ↦ inr (subst (λ (o : Option ℕ). IsBy o n) same leans)
    | inr none ↦ absurd (subst (λ (o : Option ℕ). IsBy o n) none leans)
  ]

-- who rests leans on nobody
pub upright : {K V S : Type 0} (v : View K V S) (n : ℕ) → SeatIsQuiescent v → Leans v n → ⊥
upright {K} {V} {S} v n rests leans = by v.under v.by rests leans
  where
    by : (under : Option (ℕ × ℕ)) (owner : Option ℕ) → IsQuiescent (knows_by owner (row_known under v.slot v.work)) → LeansOn under n ⊎ IsBy owner n → ⊥
    by None None rests (inl leans) = leans
    by None None rests (inr leans) = leans
    by (Some leant) None rests leans = rests
    by under (Some owner) rests leans = busy_not (row_known under v.slot v.work) rests
