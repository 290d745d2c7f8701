-- Rows of seats go on, begin and end, and what a settling is to look at is there.
use Rattle.std.specs.Prelude.{◌≢◌, Option, Some, None, IsSome, slice_get, slice_set}
use Rattle.std.proofs.Common.{◌≡◌, ℕ, Bool, List, [], ◌⊎◌, inl, inr, refl, sym, subst, ap, ◌∙◌}
use Rattle.std.proofs.lemmas.Bool.{cases_eq}
use Rattle.seize_words.specs.OneMemory.Mem.{Mem, Can, Took, value_at}
use Rattle.seize_words.specs.OneMemory.Op.{Op}
use Rattle.seize.specs.World.{Rests}
use Rattle.seize.specs.declared.rows.settle.Settle.{Settle}
use Rattle.map_tables.specs.Nodes.{deferred_word}
use Rattle.map_tables.specs.declared.node.Node.{Node}
use Rattle.many_acts.specs.Given.CallersRows.{IsUsedAlike}
use Rattle.many_acts.specs.Given.ScenesScene.{Scene}
use Rattle.seize_seats.specs.Seats.Errands.{IsUnlent}
use Rattle.seize_seats.specs.Seats.State.{State, view_of, Goes}
use Rattle.seize.specs.Settle.{flushing}
use Rattle.seize_views.specs.Views.Begun.{IsBegun}
use Rattle.seize_views.specs.Views.Promises.{op_of, IsToSettle}
use Rattle.seize_views.specs.Views.Rows.{row_of, use_of, hand_of, IsPlain, IsKnown}
use Rattle.seize_views.specs.Views.Told.{told as row_told}
use Rattle.seize_views.specs.declared.view.Becomes.{Becomes}
use Rattle.seize_views.specs.declared.view.Becomes.TheVariants.{Idle, Active}
use Rattle.seize_views.specs.declared.view.Began.{Began}
use Rattle.seize_views.specs.declared.view.Fixed.{Fixed}
use Rattle.seize_views.specs.declared.view.Has.{Has}
use Rattle.seize_views.specs.declared.view.Has.TheVariants.{Nothing as NoBlock, Made, Seen, Both, Cut, Walks}
use Rattle.seize_views.specs.declared.view.SlotView.{SlotView}
use Rattle.seize_views.specs.declared.view.SlotView.TheVariants as slot_view
use Rattle.seize_views.specs.declared.view.Why.TheVariants.{Retiring}
use Rattle.seize_views.proofs.Views.Begins.{resting, flushes}
use Rattle.seize_views.proofs.Views.GoesOn.{goes_on}
use Rattle.seize_views.proofs.Views.Lists.{there, elsewhere}
use Rattle.seize_views.proofs.Views.Turning.{Turning, turning}
use Rattle.threads_rule.specs.Views.Begun.{with_slot}
use Rattle.threads_rule.specs.Views.Promises.{RowsContinue, RowsTurn, SettlingsBegin, LookedAreShown}
use Rattle.threads_rule.specs.Views.Looks.{shown_in}
use Rattle.threads_rule.specs.Views.Rule.{MapsWorld, Fits, Holds, KeepsFor, LeansOn, LeansUnder}
use Rattle.threads_rule.specs.Views.Told.{told, observed_by}
use Rattle.threads_rule.specs.declared.view.View.{View}
use Rattle.threads_rule.specs.declared.view.SeatWork.{SeatWork}
use Rattle.threads_rule.specs.declared.view.SeatWork.TheVariants.{Nothing}
use Rattle.threads_rule.proofs.Views.Leaves.{no_table}
use Rattle.threads_rule.proofs.Views.RowBegins.{row_just, nobody_else, begins_to}
use Rattle.threads_rule.proofs.Views.RowFits.{scene, so, i, knows}
use Rattle.threads_rule.proofs.Views.RowSteps.{alike, row_in, steps_to}
use Rattle.threads_rule.proofs.Views.Views.{Had, views_hold}
use Rattle.seize_words.proofs.General.{same_some}

-- who knows of no block within its section knows of none
plain_has : {T : Type 0} (t : ℕ) (has : Has T) → IsPlain (slot_view.Inside t has) → has ≡ NoBlock
plain_has t NoBlock is = refl
plain_has t (Made b x) is = absurd is
plain_has t (Seen b) is = absurd is
plain_has t (Both b x a) is = absurd is
plain_has t (Cut b) is = absurd is
plain_has t (Walks b next) is = absurd is

module _ {K V S : Type 0} (same : K → K → Bool) (hash : S → K → ℕ) (fixed : Fixed) (s : State (Node K V) (View K V S) (MapsWorld K V S)) (h : Holds same hash fixed s)
    (id : ℕ) (v : View K V S) (at_id : view_of s id ≡ Some v) where
  -- it lets go of what it has looked at
  module _ (began : Began) where
    abbrev w : View K V S
    w = with_slot v v.slot began

    abbrev views : List (View K V S)
    views = slice_set s.views id w

    here : (j : ℕ) → j ≡ id → slice_get views j ≡ Some w
    here j e = subst (λ (a : ℕ). slice_get views a ≡ Some w) (sym e) (there s.views id w v at_id)

    had : (k : ℕ) (x : View K V S) → slice_get views k ≡ Some x → (k ≡ id) ⊎ (k ≢ id) → Had same hash fixed s h views k x
    had k x at (inl e) =
        let one = same_some w x (sym (here k e) ∙ at) in
        let f = h.so.seats id v at_id in
        let g : Fits same hash s.world.scene id w = record { slot = f.slot; does = f.does; aside = f.aside; map = f.map; own = f.own; only = f.only; held = tt; table = no_table same hash s.world.scene v.work; pair = f.pair; idle = f.idle } in
        record {
          knew = v;
          at = ap (view_of s) e ∙ at_id;
          slot = ap (λ (y : View K V S). y.slot) (sym one);
          under = inl (ap (λ (y : View K V S). y.under) (sym one));
          own = ap (λ (y : View K V S). y.own) (sym one);
          known = inl (ap (λ (y : View K V S). y.map) (sym one), ap (λ (y : View K V S). y.by) (sym one));
          calls = ap (λ (y : View K V S). y.calls) (sym one);
          work = ap (λ (y : View K V S). y.work) (sym one);
          held = λ b y shown. (let none : shown_in w.held b ≡ Some y = ap (λ (z : View K V S). shown_in z.held b) one ∙ shown in absurd (cc none));
          fits = subst (λ (y : View K V S). Fits same hash s.world.scene k y) one (subst (λ (a : ℕ). Fits same hash s.world.scene a w) (sym e) g);
        }
    had k x at (inr ne) = let was = sym (elsewhere s.views id k w ne) ∙ at in record { knew = x; at = was; slot = refl; under = inl refl; own = refl; known = inl (refl, refl); calls = refl; work = refl; held = λ b y shown. shown; fits = h.so.seats k x was }

    unborn : (k : ℕ) → slice_get views k ≡ None → (k ≡ id) ⊎ (k ≢ id) → view_of s k ≡ None
    unborn k at (inl e) = let f = here k e in absurd (cc (f, at))
    unborn k at (inr ne) = sym (elsewhere s.views id k w ne) ∙ at

    lets_go : (so_told : View K V S → Type 0) → so_told w → Goes (Holds same hash fixed) KeepsFor s s.memory id so_told
    lets_go so_told is = (
      w,
      s.world,
      views_hold same hash fixed s h views (λ k x at. had k x at (cases_eq k id)) (λ k at. unborn k at (cases_eq k id)),
      λ j k b u o ne ne2 at at2 keeps. keeps,
      is,
    )

  module _ (own : v.under ≡ None) (free : v.work ≡ Nothing) (unlent : IsUnlent LeansUnder id s) where
    abbrev me : ℕ
    me = i same hash fixed s h id v at_id own

    abbrev now : Scene K V
    now = scene same hash fixed s h id v at_id own

    -- what is left is the view with this known of its slot
    with_it : (u x : SlotView (Node K V)) (began : Began) → x ≡ u → record { slot = x; under = None; map = v.map; by = v.by; own = v.own; work = Nothing; looks = []; held = []; began = began; calls = v.calls } ≡ with_slot v u began
    with_it u x began e =
        ap (λ (y : SlotView (Node K V)). record { slot = y; under = None; map = v.map; by = v.by; own = v.own; work = Nothing; looks = []; held = []; began = began; calls = v.calls }) e
        ∙ ap (λ (k : SeatWork K V S). record { slot = u; under = None; map = v.map; by = v.by; own = v.own; work = k; looks = []; held = []; began = began; calls = v.calls }) (sym free)
        ∙ ap (λ (o : Option (ℕ × ℕ)). record { slot = u; under = o; map = v.map; by = v.by; own = v.own; work = v.work; looks = []; held = []; began = began; calls = v.calls }) (sym own)

    turns : (u : SlotView (Node K V)) (began : Began) → Turning deferred_word fixed IsUsedAlike alike me v.slot u
        → Goes (Holds same hash fixed) KeepsFor s s.memory id (λ x. x ≡ with_slot v u began)
    turns u began (inl is) =
        let none = plain_has is.slot is.has (subst (λ (x : SlotView (Node K V)). IsPlain x) is.from (knows same hash fixed s h id v at_id own).plain) in
        let stays : v.slot ≡ u = is.from ∙ ap (λ (x : Has (Node K V)). slot_view.Inside is.slot x) none ∙ sym is.to in
        lets_go began (λ x. x ≡ with_slot v u began) (ap (λ (x : SlotView (Node K V)). with_slot v x began) stays)
    turns u began (inr (inl (rest, begins))) =
        begins_to same hash fixed s h id v at_id own free unlent began (λ x. x ≡ u) (λ x. x ≡ with_slot v u began)
        (begins now.world (row_just same hash fixed s h id v at_id own free unlent rest)) (λ x e. with_it u x began e)
    turns u began (inr (inr ends)) =
        subst (λ (m : Mem (Node K V)). Goes (Holds same hash fixed) KeepsFor s m id (λ x. x ≡ with_slot v u began)) (sym (so same hash fixed s h id v at_id own).memory)
        (steps_to same hash fixed s h id v at_id own free unlent now.world.memory began (λ x. x ≡ u) (λ x. x ≡ with_slot v u began)
        (ends now.world (row_in same hash fixed s h id v at_id own free)) (λ x e. with_it u x began e))

    -- the batch is tried
    tries : (t : ℕ) (way : Becomes) (c : Settle) (began : Began) (rest : row_of v.slot ≡ Rests) (mine : use_of v.slot ≡ Some (t, resting way))
        → hand_of v.slot ≡ None → ((u : SlotView (Node K V)) → IsBegun way (flushing t fixed.batch_size) u → IsBegun way c u)
        → Goes (Holds same hash fixed) KeepsFor s s.memory id (λ w. (left : ℕ) × (w ≡ with_slot v (slot_view.Settles c (Retiring way) None left) began))
    tries t way c began rest mine empty same_settle =
        begins_to same hash fixed s h id v at_id own free unlent began (IsBegun way (flushing t fixed.batch_size)) (λ w. (left : ℕ) × (w ≡ with_slot v (slot_view.Settles c (Retiring way) None left) began))
        (flushes deferred_word fixed now.world me t way v.slot (row_just same hash fixed s h id v at_id own free unlent rest) (nobody_else same hash fixed s h id v at_id own free unlent t (resting way) mine) mine rest empty)
        (λ u is. let k = same_settle u is in (k.0, with_it (slot_view.Settles c (Retiring way) None k.0) u began k.1))

    settles : (x : SlotView (Node K V)) → v.slot ≡ x → (way : Becomes) (c : Settle) (began : Began) → IsToSettle fixed x way c → IsPlain x
        → Goes (Holds same hash fixed) KeepsFor s s.memory id (λ w. (left : ℕ) × (w ≡ with_slot v (slot_view.Settles c (Retiring way) None left) began))
    settles (slot_view.Inside t NoBlock) e Active c began is plain =
        tries t Active c began (ap (λ (x : SlotView (Node K V)). row_of x) e) (ap (λ (x : SlotView (Node K V)). use_of x) e)
        (ap (λ (x : SlotView (Node K V)). hand_of x) e) (λ u k. subst (λ (d : Settle). IsBegun Active d u) (sym is) k)
    settles (slot_view.Outside t) e Idle c began is plain =
        tries t Idle c began (ap (λ (x : SlotView (Node K V)). row_of x) e) (ap (λ (x : SlotView (Node K V)). use_of x) e)
        (ap (λ (x : SlotView (Node K V)). hand_of x) e) (λ u k. subst (λ (d : Settle). IsBegun Idle d u) (sym is) k)
    settles (slot_view.Inside t (Cut b)) e way c began is plain = absurd plain
    settles (slot_view.Inside t (Seen b)) e way c began is plain = absurd plain
    settles (slot_view.Owes t b) e way c began is plain = absurd plain
    settles _ e way c began is plain = absurd is

-- a row that has an operation to make is not one of a seat on which somebody leans
unlent_within : {K V S : Type 0} (same : K → K → Bool) (hash : S → K → ℕ) (fixed : Fixed) (s : State (Node K V) (View K V S) (MapsWorld K V S)) (h : Holds same hash fixed s)
    (id : ℕ) (v : View K V S) → view_of s id ≡ Some v → (op : Op (Node K V)) → op_of deferred_word v.slot ≡ Some op → IsUnlent LeansUnder id s
unlent_within {K} {V} {S} same hash fixed s h id v at_id op makes j x at leans = by x.under refl leans
  where
    by : (under : Option (ℕ × ℕ)) → x.under ≡ under → LeansOn under id → ⊥
    by None e none = none
    by (Some leant) e one =
        let base = h.so.leant j leant.0 leant.1 x at e in
        let same_view = same_some base.0 v (sym base.1 ∙ ap (view_of s) one ∙ at_id) in
        let none : op_of deferred_word base.0.slot ≡ None = ap (λ (y : SlotView (Node K V)). op_of deferred_word y) base.2 in
        let some : op_of deferred_word base.0.slot ≡ Some op = ap (λ (y : View K V S). op_of deferred_word y.slot) same_view ∙ makes in cc (none, some)

module _ {K S : Type 0} (V : Type 0) (same : K → K → Bool) (hash : S → K → ℕ) where
  pub rows_go_on : RowsContinue V same hash
  rows_go_on fixed id v op own free makes s h at_id =
      let now = (scene same hash fixed s h id v at_id own).world in
      let is = (so same hash fixed s h id v at_id own).memory in
      let k = goes_on deferred_word fixed IsUsedAlike alike now (i same hash fixed s h id v at_id own) v.slot op (row_in same hash fixed s h id v at_id own free) makes in (
        subst (λ (m : Mem (Node K V)). Can m op) (sym is) k.0,
        λ out m took.
            steps_to same hash fixed s h id v at_id own free (unlent_within same hash fixed s h id v at_id op makes) m v.began (row_told deferred_word v.slot op out) (told same hash v op out)
            (k.1 out m (subst (λ (x : Mem (Node K V)). Took x op out m) is took))
            (λ u tells.
            subst (λ (x : SeatWork K V S). observed_by same hash v v.map x op out record { slot = u; under = None; map = v.map; by = v.by; own = v.own; work = Nothing; looks = []; held = []; began = v.began; calls = v.calls }) (sym free)
            (u, tells, ap (λ (o : Option (ℕ × ℕ)). record { slot = u; under = o; map = v.map; by = v.by; own = v.own; work = Nothing; looks = []; held = []; began = v.began; calls = v.calls }) (sym own))),
      )

  pub rows_turn : RowsTurn V same hash
  rows_turn fixed id v u began own free is s h at_id unlent =
      turns same hash fixed s h id v at_id own free (λ j x at l. unlent j x at (inl l)) u began (turning deferred_word fixed IsUsedAlike alike (i same hash fixed s h id v at_id own) v.slot u is)

  pub settlings_begin : SettlingsBegin V same hash
  settlings_begin fixed id v way c began own free is s h at_id unlent =
      settles same hash fixed s h id v at_id own free (λ j x at l. unlent j x at (inl l)) v.slot refl way c began is (knows same hash fixed s h id v at_id own).plain

  pub looked_are_shown : LookedAreShown V same hash
  looked_are_shown fixed id v c why b left x is = (λ t h at. subst IsSome (sym (here t h at)) refl, λ y of. same_some y x (sym of.3 ∙ here of.0 of.1 of.2))
    where
      here : (t : State (Node K V) (View K V S) (MapsWorld K V S)) → Holds same hash fixed t → view_of t id ≡ Some v → value_at t.memory b ≡ Some x
      here t h at =
          ap (λ (m : Mem (Node K V)). value_at m b) h.so.memory
          ∙ (subst (λ (y : SlotView (Node K V)). IsKnown deferred_word t.world.scene.world y) is (h.rows id v at).known).2
