-- What a seat knows of its row is so after what another one has done: the block that it is to look at is there with its value, and it has settled within so many steps.
use Rattle.std.specs.Prelude.{Option, Some, None, IsSome}
use Rattle.std.proofs.Common.{◌≡◌, ℕ, Bool, List, refl, sym, subst, ap, ◌∙◌}
use Rattle.seize_words.specs.OneMemory.Mem.{value_at}
use Rattle.seize.specs.World.{Row, Event, MayStep, Handed}
use Rattle.seize.specs.declared.rows.settle.Settle.{Settle}
use Rattle.map_tables.specs.Nodes.{deferred_word}
use Rattle.map_tables.specs.declared.node.Node.{Node}
use Rattle.many_acts.specs.Given.CallersTogether.{CameAbout}
use Rattle.seize_model.proofs.Given.SeizeRuleWorld.Kept.{rows_may}
use Rattle.many_acts.proofs.Given.CallersTogether.Came.{came_reached}
use Rattle.many_acts.specs.Given.ScenesScene.{Scene}
use Rattle.seize_acts.specs.Bounds.Bounds.{HasCounted, HasTried, IsAloneOnSlot, Meanwhile}
use Rattle.seize_acts.proofs.Bounds.Bounds.Passing.{still_within}
use Rattle.seize_views.specs.Views.Rows.{row_of, settles_for, IsPlain, IsKnown, IsBounded}
use Rattle.seize_views.specs.declared.view.Fixed.{Fixed}
use Rattle.seize_views.specs.declared.view.Has.TheVariants.{Nothing as NoBlock}
use Rattle.seize_views.specs.declared.view.SlotView.{SlotView}
use Rattle.seize_views.specs.declared.view.SlotView.TheVariants as slot_view
use Rattle.seize_views.specs.declared.view.Why.{Why}
use Rattle.seize_views.specs.declared.view.Why.TheVariants.{Retiring, Ending}
use Rattle.seize_views.proofs.Views.Reclaims.{reclaiming_there}
use Rattle.threads_rule.specs.Views.Rule.{HasRow, DoesSo, Fits, KnowsRow, IsAside, caller_at, acts_in, section_of, place_of}
use Rattle.threads_rule.specs.declared.view.Map.{Map}
use Rattle.threads_rule.specs.declared.view.View.{View}
use Rattle.threads_rule.specs.declared.view.SeatWork.{SeatWork}
use Rattle.threads_rule.specs.declared.view.SeatWork.TheVariants.{Nothing, Calls, Makes, Ends}
use Rattle.seize_views.proofs.Views.Handed.{reclaiming_handed}
use Rattle.threads_rule.proofs.Views.Leaves.{own_section}
use Rattle.threads_rule.proofs.Views.Ran.{Keeps}

module _ {K V S : Type 0} (fixed : Fixed) (j : ℕ) (x : View K V S) where
  abbrev c : ℕ
  c = caller_at j (place_of x.slot)

  -- the row of a seat that settles is that of a settling
  settles_row : (s : Scene K V) → HasRow s c x.slot → (d : Settle) (why : Why) (seen : Option (ℕ × Node K V)) (left : ℕ) → x.slot ≡ slot_view.Settles d why seen left
      → s.world.row c ≡ settles_for why d
  settles_row s f d why seen left is = f.row ∙ ap (λ (y : SlotView (Node K V)). row_of y) is

  module _ (scene n : Scene K V) (came : CameAbout fixed.batch_size scene.world) (came2 : CameAbout fixed.batch_size n.world) (f : HasRow scene c x.slot) (g : HasRow n c x.slot)
      (keeps : Keeps scene.world n.world) (events : List (Event (Node K V)))
      (passes : Meanwhile deferred_word (IsAloneOnSlot c) fixed.batch_size c events scene.world n.world) where
    looked : (d : Settle) (why : Why) (seen : ℕ × Node K V) (left : ℕ) → x.slot ≡ slot_view.Settles d why (Some seen) left → IsKnown deferred_word scene.world (slot_view.Settles d why (Some seen) left)
        → IsKnown deferred_word n.world (slot_view.Settles d why (Some seen) left)
    looked d why seen left is known =
        let row = settles_row scene f d why (Some seen) left is in
        let its : scene.world.hand seen.0 ≡ Handed =
        ap scene.world.hand known.1 ∙ reclaiming_handed deferred_word fixed.batch_size scene.world (came_reached fixed.batch_size scene.world came) c d why row known.0 in
        let may : MayStep deferred_word (settles_for why d) n.world.memory =
        subst (λ (r : Row). MayStep deferred_word r n.world.memory) (settles_row n g d why (Some seen) left is)
        (rows_may deferred_word fixed.batch_size came2.0 came2.1 n.world came2.2 c) in
        let some : IsSome (value_at n.world.memory seen.0) =
        subst (λ (b : ℕ). IsSome (value_at n.world.memory b)) (sym known.1) (reclaiming_there deferred_word d why n.world.memory may known.0) in
        (known.0, known.1, keeps seen.0 its (subst IsSome (sym known.2) refl) some ∙ known.2)

    known_on : (slot : SlotView (Node K V)) → x.slot ≡ slot → IsPlain slot → IsKnown deferred_word scene.world slot → IsKnown deferred_word n.world slot
    known_on (slot_view.Settles d why None left) is plain known = tt
    known_on (slot_view.Settles d why (Some seen) left) is plain known = looked d why seen left is known
    known_on slot_view.Rests is plain known = tt
    known_on (slot_view.Registers d) is plain known = tt
    known_on (slot_view.Outside t) is plain known = tt
    known_on (slot_view.Enters t) is plain known = tt
    known_on (slot_view.Inside t NoBlock) is plain known = tt
    known_on (slot_view.Leaves t size way) is plain known = tt
    known_on (slot_view.Left t size way) is plain known = tt
    known_on (slot_view.Frees t) is plain known = tt
    known_on _ is plain known = absurd plain

    bound_on : (slot : SlotView (Node K V)) → IsBounded deferred_word fixed scene.world c slot → IsBounded deferred_word fixed n.world c slot
    bound_on (slot_view.Settles d (Retiring way) seen left) b =
        still_within deferred_word (IsAloneOnSlot c) HasTried fixed.batch_size c left scene.world n.world events passes b
    bound_on (slot_view.Settles d (Ending size way) seen left) b =
        still_within deferred_word (IsAloneOnSlot c) HasCounted fixed.batch_size c left scene.world n.world events passes b
    bound_on slot_view.Rests b = tt
    bound_on (slot_view.Registers d) b = tt
    bound_on (slot_view.Outside t) b = tt
    bound_on (slot_view.Owes t d) b = tt
    bound_on (slot_view.Enters t) b = tt
    bound_on (slot_view.Inside t has) b = tt
    bound_on (slot_view.Leaves t size way) b = tt
    bound_on (slot_view.Left t size way) b = tt
    bound_on (slot_view.Frees t) b = tt
    bound_on (slot_view.Brings d y) b = tt
    bound_on (slot_view.Bears d) b = tt
    bound_on (slot_view.Watches t d) b = tt
    bound_on (slot_view.Under n t d) b = tt
    bound_on (slot_view.Joins block) b = tt
    bound_on (slot_view.Defers t d) b = tt
    bound_on (slot_view.Busy t) b = tt

    pub knows_on : KnowsRow fixed scene j x.slot → KnowsRow fixed n j x.slot
    knows_on k = record { plain = k.plain; short = k.short; known = known_on x.slot refl k.plain k.known; bounded = bound_on x.slot k.bounded }

-- who has no row under way, within a section or without a slot
module _ {K V : Type 0} (fixed : Fixed) (n : Scene K V) (j : ℕ) where
  pub knows_inside : (t : ℕ) (v : SlotView (Node K V)) → v ≡ slot_view.Inside t NoBlock → KnowsRow fixed n j v
  knows_inside t v is = subst (λ (x : SlotView (Node K V)). KnowsRow fixed n j x) (sym is) (record { plain = tt; short = tt; known = tt; bounded = tt })

  pub knows_rests : (v : SlotView (Node K V)) → v ≡ slot_view.Rests → KnowsRow fixed n j v
  knows_rests v is = subst (λ (x : SlotView (Node K V)). KnowsRow fixed n j x) (sym is) (record { plain = tt; short = tt; known = tt; bounded = tt })

  -- who has calls under way within a section
  pub knows_within : (t : ℕ) (under : Option (ℕ × ℕ)) (v : SlotView (Node K V)) → IsAside under v → section_of under v ≡ Some t → KnowsRow fixed n j v
  knows_within t None v aside section = knows_inside t v (own_section v t section)
  knows_within t (Some leant) v aside section = knows_rests v aside

-- who has nothing under way, and leans on nobody, has nothing but its row
pub row_of_it : {K V S : Type 0} (same : K → K → Bool) (hash : S → K → ℕ) (s : Scene K V) (j : ℕ) (x : View K V S) → Fits same hash s j x → x.under ≡ None → x.work ≡ Nothing
    → HasRow s (caller_at j (place_of x.slot)) x.slot
row_of_it {K} {V} {S} same hash s j x f own free =
    subst (λ (k : SeatWork K V S). DoesSo same hash s (caller_at j (place_of x.slot)) None x.slot x.map k) free
    (subst (λ (u : Option (ℕ × ℕ)). DoesSo same hash s (caller_at j (acts_in u x.slot)) u x.slot x.map x.work) own f.does)

module _ {K V S : Type 0} (same : K → K → Bool) (hash : S → K → ℕ) (fixed : Fixed) (scene n : Scene K V) (j : ℕ) (x : View K V S) where
  -- what a seat knows of its row is so, if it is where it may have one
  pub by_kind : Fits same hash scene j x → (x.under ≡ None → x.work ≡ Nothing → KnowsRow fixed n j x.slot) → KnowsRow fixed n j x.slot
  by_kind f has = by x.under x.work x.map refl refl f.aside f.does
    where
      by : (under : Option (ℕ × ℕ)) (work : SeatWork K V S) (map : Option (Map S)) → x.under ≡ under → x.work ≡ work → IsAside under x.slot
          → DoesSo same hash scene (caller_at j (acts_in x.under x.slot)) under x.slot map work → KnowsRow fixed n j x.slot
      by (Some leant) work map own free aside d = knows_rests fixed n j x.slot aside
      by None Nothing map own free aside d = has own free
      by None (Calls p) None own free aside d = absurd d
      by None (Calls p) (Some map) own free aside d = knows_inside fixed n j d.0 x.slot (own_section x.slot d.0 d.1)
      by None (Makes mine m hasher opening) map own free aside d = knows_rests fixed n j x.slot d.0
      by None (Ends machine) map own free aside d = knows_rests fixed n j x.slot d.0
