-- Where all seats rest no caller has anything under way.
use Rattle.std.specs.Prelude.{◌≢◌, ◌⊎◌, Option, Some, None, ◌/◌}
use Rattle.std.specs.Option.{is_none}
use Rattle.std.proofs.Common.{◌≡◌, ℕ, ◌%◌, Bool, inl, inr, refl, sym, subst, ap, ◌∙◌}
use Rattle.std.proofs.lemmas.Bool.{cases_eq}
use Rattle.seize.specs.World.{Rests}
use Rattle.map_tables.specs.declared.node.Node.{Node}
use Rattle.many_acts.specs.Given.ScenesScene.{Scene}
use Rattle.many_acts.specs.Acts.Doings.{AllAreFree}
use Rattle.seize_acts.specs.Acts.Acts.{rests}
use Rattle.seize_seats.specs.Seats.State.{State, view_of}
use Rattle.seize_views.specs.Views.Rows.{IsQuiescent, row_of}
use Rattle.seize_views.specs.declared.view.Fixed.{Fixed}
use Rattle.seize_reclaims.proofs.Renews.One.{no_row}
use Rattle.threads_rule.specs.Views.Notes.{knows_by, row_known, SeatIsQuiescent}
use Rattle.threads_rule.specs.Views.Resting.{busy_not}
use Rattle.threads_rule.specs.Views.Rule.{MapsWorld, Holds, AreSo, Fits, HasRow, DoesSo, IsIdle, IsSlot, acts_in, caller_at}
use Rattle.threads_rule.specs.declared.view.View.{View}
use Rattle.threads_rule.specs.declared.view.SeatWork.{SeatWork}
use Rattle.threads_rule.specs.declared.view.SeatWork.TheVariants.{Nothing, Calls, Makes, Ends}
use Rattle.threads_rule.proofs.Views.Numbers.{its_caller, its_place}

-- whoever rests leans on nobody, and has neither a call nor a row
pub rests_so : {K V S : Type 0} (v : View K V S) → SeatIsQuiescent v → (v.under ≡ None) × (v.work ≡ Nothing) × (row_of v.slot ≡ Rests) × (v.by ≡ None)
rests_so {K} {V} {S} v is = by v.under v.work v.by refl refl refl is
  where
    by : (under : Option (ℕ × ℕ)) (work : SeatWork K V S) (owner : Option ℕ) → v.under ≡ under → v.work ≡ work → v.by ≡ owner → IsQuiescent (knows_by owner (row_known {S = S} under v.slot work))
        → (v.under ≡ None) × (v.work ≡ Nothing) × (row_of v.slot ≡ Rests) × (v.by ≡ None)
    by under work (Some owner) e f g q = absurd (busy_not (row_known {S = S} under v.slot work) q)
    by (Some leant) work None e f g q = absurd q
    by None Nothing None e f g q = (e, f, no_row v.slot q, g)
    by None (Calls machine) None e f g q = absurd (busy_not v.slot q)
    by None (Makes mine m hasher opening) None e f g q = absurd q
    by None (Ends machine) None e f g q = absurd q

module _ {K V S : Type 0} (same : K → K → Bool) (hash : S → K → ℕ) (fixed : Fixed) (s : State (Node K V) (View K V S) (MapsWorld K V S)) (h : Holds same hash fixed s)
    (idle : (j : ℕ) (v : View K V S) → view_of s j ≡ Some v → SeatIsQuiescent v) where
  abbrev scene : Scene K V
  scene = h.reached.0.0

  pub so : AreSo same hash s scene
  so = subst (λ (x : Scene K V). AreSo same hash s x) h.scene h.so

  idle_caller : (j t : ℕ) → IsSlot t → IsIdle scene (caller_at j t)
  idle_caller j t is = by (view_of s j) refl
    where
      by : (o : Option (View K V S)) → view_of s j ≡ o → IsIdle scene (caller_at j t)
      by None e = so.unborn j t is e
      by (Some v) e = here (cases_eq t (acts_in v.under v.slot))
        where
          f : Fits same hash scene j v
          f = so.seats j v e

          r : (v.under ≡ None) × (v.work ≡ Nothing) × (row_of v.slot ≡ Rests) × (v.by ≡ None)
          r = rests_so v (idle j v e)

          row : HasRow scene (caller_at j (acts_in v.under v.slot)) v.slot
          row = subst (λ (k : SeatWork K V S). DoesSo same hash scene (caller_at j (acts_in v.under v.slot)) v.under v.slot v.map k) r.1 f.does

          here : (t ≡ acts_in v.under v.slot) ⊎ (t ≢ acts_in v.under v.slot) → IsIdle scene (caller_at j t)
          here (inl one) = subst (λ (k : ℕ). IsIdle scene (caller_at j k)) (sym one) (record { calls = row.calls; makers = row.makers; enders = row.enders; row = row.row ∙ r.2 })
          here (inr ne) = f.idle t is ne

  pub all_idle : (i : ℕ) → IsIdle scene i
  all_idle i = subst (λ (k : ℕ). IsIdle scene k) (its_caller i) (idle_caller (i / 65536) (i % 65536) (its_place i))

  pub all_free : AllAreFree scene
  all_free = record {
    no_call = λ m i. ap is_none ((all_idle i).calls m);
    no_making = λ i. ap is_none (all_idle i).makers;
    no_ending = λ i. ap is_none (all_idle i).enders;
    rest = λ i. ap rests (all_idle i).row;
  }
