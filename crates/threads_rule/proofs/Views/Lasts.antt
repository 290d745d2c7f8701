-- What the call of a seat has, as its own pair or to reclaim it, has its value through what others do, and so has the table to which an end has come.
use Rattle.std.specs.Prelude.{◌≢◌, Option, Some, None, IsSome}
use Rattle.std.proofs.Common.{◌≡◌, ℕ, Bool, inl, inr, refl, sym, subst, ap, ◌∙◌}
use Rattle.seize_words.specs.OneMemory.Mem.{value_at}
use Rattle.seize.specs.World.{Row, Use, Handed, MayStep}
use Rattle.map_tables.specs.Nodes.{deferred_word}
use Rattle.map_tables.specs.declared.node.Node.{Node}
use Rattle.papaya_raw.specs.declared.machines.end_map.EndMap.{EndMap}
use Rattle.papaya_raw.specs.declared.machines.machine.Machine.{Machine}
use Rattle.seize_model.proofs.Given.SeizeRuleWorld.Kept.{rows_may}
use Rattle.many_acts.proofs.Given.CallersTogether.Came.{came_reached}
use Rattle.many_acts.specs.Given.ScenesScene.{Scene, slot_of}
use Rattle.many_acts.specs.Acts.Leads.{AllStand}
use Rattle.seize_views.proofs.Views.Reclaims.{reclaiming_there}
use Rattle.seize_views.specs.Views.Rows.{settles_for}
use Rattle.seize_views.specs.declared.view.Becomes.TheVariants.{Idle}
use Rattle.seize_views.specs.declared.view.SlotView.{SlotView}
use Rattle.seize_views.specs.declared.view.Why.TheVariants.{Retiring}
use Rattle.threads_rule.specs.Views.Looks.{IsAtTable}
use Rattle.threads_rule.specs.Views.Reclaims.{IsNextOf}
use Rattle.threads_rule.specs.Views.Rule.{DoesSo, KnowsMap, IsOfCall}
use Rattle.threads_rule.specs.declared.view.EndOfMap.{EndOfMap}
use Rattle.threads_rule.specs.declared.view.Map.{Map}
use Rattle.threads_rule.specs.declared.view.SeatWork.{SeatWork}
use Rattle.threads_rule.specs.declared.view.SeatWork.TheVariants.{Nothing, Calls, Makes, Ends}
use Rattle.seize_views.proofs.Views.Handed.{reclaiming_handed}
use Rattle.threads_rule.proofs.Views.Leaves.{Leaves}
use Rattle.threads_rule.proofs.Views.Made.{own_is_made}
use Rattle.threads_rule.proofs.Views.Tables.{table_stays}
use Rattle.threads_rule.proofs.Views.Within.{RowReclaims, row_reclaims}
use Rattle.seize_words.proofs.General.{same_some}

module _ {K V S : Type 0} (same : K → K → Bool) (hash : S → K → ℕ) (batch_size roots : ℕ) (s n : Scene K V) (all : AllStand same hash batch_size roots slot_of s) (all2 : AllStand same hash batch_size roots slot_of n)
    (i : ℕ) (mine : Option (ℕ × Use)) (leaves : Leaves same hash batch_size s n i mine) (k : ℕ) (ne : k ≢ i) (b : ℕ) (x : Node K V) (is : value_at s.world.memory b ≡ Some x) where
  -- what its row is to reclaim next is the collector's, and there
  reclaimed_lasts : RowReclaims s.world k b → value_at n.world.memory b ≡ Some x
  reclaimed_lasts (c, row, (reclaiming, same_block)) =
      let its : s.world.hand b ≡ Handed =
      ap s.world.hand same_block ∙ reclaiming_handed deferred_word batch_size s.world (came_reached batch_size s.world all.makings.standing.came) k c (Retiring Idle) row reclaiming in
      let may : MayStep deferred_word (settles_for (Retiring Idle) c) n.world.memory =
      subst (λ (r : Row). MayStep deferred_word r n.world.memory) (leaves.rows k ne ∙ row) (let came = all2.makings.standing.came in rows_may deferred_word batch_size came.0 came.1 n.world came.2 k) in
      let some : IsSome (value_at n.world.memory b) =
      subst (λ (a : ℕ). IsSome (value_at n.world.memory a)) (sym same_block) (reclaiming_there deferred_word c (Retiring Idle) n.world.memory may reclaiming) in
      leaves.keeps b its (subst (λ (o : Option (Node K V)). IsSome o) (sym is) refl) some ∙ is

  pub of_call_lasts : (under : Option (ℕ × ℕ)) (slot : SlotView (Node K V)) (map : Option (Map S)) (work : SeatWork K V S) → DoesSo same hash s k under slot map work → KnowsMap same hash s map → IsOfCall same hash work b
      → value_at n.world.memory b ≡ Some x
  of_call_lasts under slot map Nothing does knows of = absurd of
  of_call_lasts under slot None (Calls machine) does knows of = absurd does
  of_call_lasts under slot (Some map) (Calls machine) does knows (inl own) =
      let m = own_is_made same hash batch_size roots s all k under slot map machine does knows b own in leaves.made k ne b x m.0 is (λ e. m.3 (same_some m.1 x (sym m.2 ∙ is) ∙ e))
  of_call_lasts under slot (Some map) (Calls machine) does knows (inr next) =
      reclaimed_lasts
      (row_reclaims same hash batch_size roots s all map.number knows.0 knows.1 k b does.3.call does.3.here (subst (λ (y : Machine K V K). IsNextOf y b) (sym does.3.is) next))
  of_call_lasts under slot map (Makes mine m hasher opening) does knows of = absurd of
  of_call_lasts under slot map (Ends machine) does knows of =
      let d = does.1 in
      let here : IsAtTable d.ending.machine d.ending.machine.stands b = subst (λ (e : EndMap). IsAtTable e e.stands b) (sym (ap (λ (x : EndOfMap). x.machine) d.is)) of in
      table_stays same batch_size n.world k d.ending (all2.facts k d.ending (leaves.enders k ne ∙ d.here)) b here
      ∙ sym (table_stays same batch_size s.world k d.ending (all.facts k d.ending d.here) b here) ∙ is
