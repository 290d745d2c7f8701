-- While the one that acts seeks a slot the rule of maps allows its operations; and where that has ended it reclaims all.
use Rattle.std.specs.Prelude.{◌≢◌, Option, Some, None, IsSome, length, map}
use Rattle.std.proofs.Common.{◌≡◌, ℕ, ◌<◌, ◌^◌, Bool, inl, inr, refl, sym, subst, ap, ◌∙◌, arith}
use Rattle.seize_words.specs.OneMemory.Mem.{Mem, Can, Took, word_at}
use Rattle.seize_words.specs.OneMemory.Op.{Op, Out}
use Rattle.seize_words.specs.declared.at.At.TheVariants.{Slot}
use Rattle.seize.specs.declared.states.TheConstants.{HEAD}
use Rattle.seize.specs.declared.advance.Advance.{Advance}
use Rattle.seize.specs.declared.advance.Advance.TheVariants as progress
use Rattle.seize.specs.declared.rows.register.Register.{Register}
use Rattle.seize.specs.ReclaimAll.{reclaiming_all, clearing}
use Rattle.seize.specs.Register.{register_plan}
use Rattle.map_tables.specs.Nodes.{deferred_word}
use Rattle.map_tables.specs.declared.node.Node.{Node}
use Rattle.many_acts.specs.Given.ScenesScene.{Scene}
use Rattle.many_acts.proofs.Given.CallersTogether.Came.{came_reached}
use Rattle.seize_seats.specs.Seats.State.{State, view_of, Goes}
use Rattle.seize_views.specs.Views.Promises.{op_in, op_of}
use Rattle.seize_views.specs.Views.Told.{left_by, told as row_told}
use Rattle.seize_views.specs.Views.Rows.{IsShort, IsSeeking, IsQuiescent}
use Rattle.seize_views.specs.declared.view.Fixed.{Fixed}
use Rattle.seize_views.specs.declared.view.SlotView.{SlotView}
use Rattle.seize_views.specs.declared.view.SlotView.TheVariants as slot_view
use Rattle.seize_reclaims.specs.Empties.Asked.{HasSought}
use Rattle.seize_reclaims.specs.Renews.Rule.{SeeksAt}
use Rattle.seize_reclaims.specs.declared.alone.Alone.{Alone}
use Rattle.seize_reclaims.specs.declared.alone.Alone.TheVariants.{Registers, Reclaims}
use Rattle.seize_reclaims.proofs.Renews.Registering.{IsWell, no_word}
use Rattle.threads_rule.specs.Views.Notes.{SeatIsQuiescent, knows_by, row_known}
use Rattle.threads_rule.specs.Views.Rule.{MapsWorld, Holds, KeepsFor}
use Rattle.threads_rule.specs.Views.Told.{told, observed_by}
use Rattle.threads_rule.specs.declared.view.View.{View}
use Rattle.threads_rule.specs.declared.view.SeatWork.{SeatWork}
use Rattle.threads_rule.specs.declared.view.SeatWork.TheVariants.{Nothing}
use Rattle.threads_rule.proofs.Views.Rows.{rows_go_on}
use Rattle.threads_reclaims.specs.Reclaims.Rule.{HoldsOne, Seeking, TakesAt, NobodyKeeps, plainly, inside, freed, acts_of, all_in, none_in, one_told}
use Rattle.threads_reclaims.specs.declared.sole.Sole.{Sole}
use Rattle.threads_reclaims.specs.declared.sole.Sole.TheVariants.{Acts, Left}
use Rattle.threads_reclaims.proofs.Reclaims.Begun.{begins_slots, begins_roots}
use Rattle.threads_reclaims.proofs.Reclaims.Inside.{set_but, one_on, at_inside, inside_after}
use Rattle.threads_reclaims.proofs.Reclaims.Taking.{well_after, done_there}
use Rattle.seize_model.proofs.Given.SeizeMemoryWords.Room.{slot_there}

module _ {K V S : Type 0} (same : K → K → Bool) (hash : S → K → ℕ) (fixed : Fixed) (word : fixed.batch_size < 2 ^ 64) (s : State (Node K V) (Sole K V S) (MapsWorld K V S))
    (h : Seeking same hash fixed s) (id size r : ℕ) (c : Register) (v : View K V S) (at_id : view_of s id ≡ Some (Acts (Registers c size) r v)) where
  abbrev acting : Sole K V S
  acting = Acts (Registers c size) r v

  t : TakesAt fixed s.memory acting
  t = h.seats id acting at_id

  -- the others rest
  other : (j : ℕ) (x : Sole K V S) → j ≢ id → view_of s j ≡ Some x → SeatIsQuiescent (plainly x)
  other j (Acts b q u) ne at = absurd (ne (h.one j id q r b (Registers c size) u v at at_id))
  other j (Left u) ne at = h.seats j (Left u) at

  takes : (j : ℕ) (x : Sole K V S) (m : Mem (Node K V)) → j ≢ id → view_of s j ≡ Some x → TakesAt fixed m x
  takes j (Acts b q u) m ne at = absurd (ne (h.one j id q r b (Registers c size) u v at at_id))
  takes j (Left u) m ne at = h.seats j (Left u) at

  abbrev Hold : State (Node K V) (Sole K V S) (MapsWorld K V S) → Type 0
  Hold = HoldsOne same hash fixed

  -- an operation was made, with this answer, and the seat knows this then
  module _ (op : Op (Node K V)) (makes : op_in (register_plan {T = Node K V} c) ≡ Some op) (out : Out (Node K V)) (m : Mem (Node K V)) (took : Took s.memory op out m)
      (g : Goes (Holds same hash fixed) KeepsFor (inside s) m id (told same hash v op out)) where
    observed : observed_by same hash v v.map Nothing op out g.0
    observed = subst (λ (k : SeatWork K V S). observed_by same hash v v.map k op out g.0) t.4 g.4

    row : row_told deferred_word (slot_view.Registers c) op out observed.0
    row = subst (λ (x : SlotView (Node K V)). row_told deferred_word x op out observed.0) t.2 observed.1

    kept : freed g.0 ≡ freed v
    kept = ap freed observed.2

    slot_is : g.0.slot ≡ left_by row.0
    slot_is = ap (λ (x : View K V S). x.slot) observed.2 ∙ row.2

    under_is : g.0.under ≡ None
    under_is = ap (λ (x : View K V S). x.under) observed.2 ∙ t.3

    work_is : g.0.work ≡ Nothing
    work_is = ap (λ (x : View K V S). x.work) observed.2

    by_is : g.0.by ≡ None
    by_is = ap (λ (x : View K V S). x.by) observed.2 ∙ t.5

    short : (c.enters ≡ Bool.false) × IsSeeking c.stands
    short = subst IsShort t.2 (h.holds.rows id v (at_inside s id acting at_id)).short

    well : IsWell m row.0
    well = well_after s.memory m c short.0 row.0 c.stands short.1 t.6 op out makes took row.1

    abbrev Gone : Type 0
    Gone = Goes Hold NobodyKeeps s m id (one_told acting op out)

    -- it goes on
    goes_on : (d : Register) → g.0.slot ≡ slot_view.Registers d → SeeksAt m d d.stands
        → ((x : Sole K V S) → acts_of x ≡ Some (Registers d size) → all_in x ≡ reclaiming_all size r → HasSought acts_of all_in none_in size acting row.0 x) → Gone
    goes_on d slot seeks says =
        let next : Sole K V S = Acts (Registers d size) r g.0 in (
          next,
          g.1,
          inl record {
            holds = subst (Holds same hash fixed) (sym (inside_after s m id next g.1)) g.2;
            seats = set_but (λ _ (x : Sole K V S). TakesAt fixed m x) s.views id acting next at_id (t.0, t.1, slot, under_is, work_is, by_is, seeks) (λ j x ne at. takes j x m ne at);
            one = one_on s m id r (Registers c size) v next g.1 at_id h.one;
          },
          λ j k b u o ne ne2 at at2 none. none,
          ((row.0, row.1, says next refl refl), kept),
        )

    -- it reclaims all
    abbrev Says : Type 0
    Says = (x : Sole K V S) (left : ℕ) → acts_of x ≡ Some (Reclaims (reclaiming_all size r) None left) → HasSought acts_of all_in none_in size acting row.0 x

    all_is : (left : ℕ) → ◌≡◌ {A = Option (Alone (Node K V))} (Some (Reclaims (reclaiming_all fixed.batch_size fixed.roots) None left)) (Some (Reclaims (reclaiming_all size r) None left))
    all_is left =
        ap (λ (k : ℕ). Some (Reclaims (reclaiming_all k fixed.roots) None left)) (sym t.0) ∙ ap (λ (k : ℕ). Some (Reclaims (reclaiming_all size k) None left)) (sym t.1)

    ends : SeatIsQuiescent g.0 → 0 < length m.slots → Says → Gone
    ends rest some says =
        let r2 = came_reached fixed.batch_size g.2.reached.0.0.world g.2.reached.0.1.makings.standing.came in
        let is : m ≡ g.2.reached.0.0.world.memory = g.2.so.memory ∙ ap (λ (x : Scene K V). x.world.memory) g.2.scene in
        let slots : IsSome (word_at m (Slot 0 HEAD)) =
        subst (λ (x : Mem (Node K V)). IsSome (word_at x (Slot 0 HEAD))) (sym is)
        (slot_there g.2.reached.0.0.world.memory 0 HEAD r2.good.room.bucketed (subst (λ (x : Mem (Node K V)). 0 < length x.slots) is some) (omega arith)) in
        let b = begins_slots same hash fixed word s m id r (Registers c size) v g.0 g.1 at_id h.one rest other g.2 slots in (
          b.0,
          b.1,
          inr b.2,
          λ j k a u o ne ne2 at at2 none. none,
          ((row.0, row.1, says b.0 b.3.0 (b.3.1 ∙ all_is b.3.0)), b.4 ∙ kept),
        )

    -- or what is left over at roots, where there are no slots
    clears : SeatIsQuiescent g.0 → length m.slots ≡ 0
        → ((x : Sole K V S) (left : ℕ) → acts_of x ≡ Some (Reclaims (clearing r) None left) → HasSought acts_of all_in none_in size acting row.0 x) → Gone
    clears rest none says =
        let b = begins_roots same hash fixed word s m id r (Registers c size) v g.0 g.1 at_id h.one rest other g.2 (no_word m.slots none) in (
          b.0,
          b.1,
          inr b.2,
          λ j k a u o ne ne2 at at2 nothing. nothing,
          ((row.0, row.1, says b.0 b.3.0 (b.3.1 ∙ ap (λ (k : ℕ). Some (Reclaims (clearing k) None b.3.0)) (sym t.1))), b.4 ∙ kept),
        )

    -- who holds a slot, or none, rests
    quiet : (x : SlotView (Node K V)) → g.0.slot ≡ x → IsQuiescent x → SeatIsQuiescent g.0
    quiet x e is =
        subst (λ (o : Option ℕ). IsQuiescent (knows_by o (row_known {S = S} g.0.under g.0.slot g.0.work))) (sym by_is)
        (subst (λ (o : Option (ℕ × ℕ)). IsQuiescent (row_known {S = S} o g.0.slot g.0.work)) (sym under_is)
        (subst (λ (k : SeatWork K V S). IsQuiescent (row_known {S = S} None g.0.slot k)) (sym work_is) (subst (λ (y : SlotView (Node K V)). IsQuiescent y) (sym e) is)))

    abbrev Sought : Register × Advance ℕ → Sole K V S → Type 0
    Sought end x = HasSought acts_of all_in none_in size acting end x

    by_end : (end : Register × Advance ℕ) → row.0 ≡ end → IsWell m end → g.0.slot ≡ left_by end → Gone
    by_end (d, progress.Goes) e so slot = goes_on d slot so.2 (λ x acts all. subst (λ (y : Register × Advance ℕ). Sought y x) (sym e) (acts, all))
    by_end (d, progress.Waits) e so slot = goes_on d slot so.2 (λ x acts all. subst (λ (y : Register × Advance ℕ). Sought y x) (sym e) (acts, all))
    by_end (d, progress.Done a) e so slot =
        ends (quiet (slot_view.Outside a) slot tt)
        (done_there s.memory m c short.0 row.0 a (ap (λ (y : Register × Advance ℕ). y.1) e) c.stands short.1 t.6 op out makes took row.1)
        (λ x left acts. subst (λ (y : Register × Advance ℕ). Sought y x) (sym e) (None, left, acts))
    by_end (d, progress.Refused fault) e (inl none) slot =
        clears (quiet slot_view.Rests slot tt) none.1
        (λ x left acts. subst (λ (y : Register × Advance ℕ). Sought y x) (sym e) (λ first. (None, left, acts), λ later. absurd (later none.0)))
    by_end (d, progress.Refused fault) e (inr some) slot =
        ends (quiet slot_view.Rests slot tt) some.1
        (λ x left acts. subst (λ (y : Register × Advance ℕ). Sought y x) (sym e) (λ first. absurd (some.0 first), λ later. (None, left, acts)))

    pub goes : Gone
    goes = by_end row.0 refl well slot_is

  -- each operation of its plan
  pub seeks_on : (op : Op (Node K V)) → op_in (register_plan {T = Node K V} c) ≡ Some op
      → Can s.memory op × ((out : Out (Node K V)) (m : Mem (Node K V)) → Took s.memory op out m → Goes Hold NobodyKeeps s m id (one_told acting op out))
  seeks_on op makes =
      let k = rows_go_on V same hash fixed id v op t.3 t.4 (ap (op_of deferred_word) t.2 ∙ makes) (inside s) h.holds (at_inside s id acting at_id) in
      (k.0, λ out m took. goes op makes out m took (k.1 out m took))
