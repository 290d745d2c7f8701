-- A row of a seat that has nothing else under way begins.
use Rattle.std.specs.Prelude.{◌++◌, Option, Some, None}
use Rattle.std.specs.Option.{is_none}
use Rattle.std.proofs.Common.{◌≡◌, ℕ, Bool, List, [], ◌∷◌, inl, inr, refl, sym, subst, ap, ◌∙◌}
use Rattle.seize_words.specs.OneMemory.Mem.{Mem, value_at}
use Rattle.seize.specs.Law.{Effect, holds, owner_of}
use Rattle.seize.specs.World.{World, Rests, Use, Outside, Inside, Begin, Request, Register', Enter', Leave', LeaveOwned, Refresh, Unregister', Retire, Flush, Defer', Begins}
use Rattle.map_tables.specs.Nodes.{deferred_word}
use Rattle.map_tables.specs.declared.node.Node.{Node}
use Rattle.many_acts.specs.Given.CallersRows.{IsUsedAlike}
use Rattle.many_acts.specs.Given.CallersTogether.{UnderWay, OnKey, ForRoom, Counting, OverAll, UnlessCounts, IsOfSlots, Closes}
use Rattle.many_acts.specs.Given.ScenesRows.{request_of}
use Rattle.many_acts.specs.Given.ScenesScene.{Scene, slot_of}
use Rattle.many_acts.specs.Given.ScenesDeclared.row.SlotCall.{SlotCall}
use Rattle.many_acts.specs.Given.ScenesDeclared.row.SlotCall.TheVariants as slot_calls
use Rattle.many_acts.specs.Acts.Acts.{BeginsRow}
use Rattle.many_acts.specs.Acts.Doings.{Does, MayDo}
use Rattle.many_acts.specs.Acts.Leads.{Led}
use Rattle.seize_acts.specs.Acts.Acts.{rests}
use Rattle.seize_acts.specs.Acts.Waits.{SettlesOn}
use Rattle.seize_seats.specs.Seats.Errands.{IsUnlent}
use Rattle.seize_seats.specs.Seats.State.{State, view_of, Goes}
use Rattle.seize_views.specs.Views.Rows.{row_of, use_of, hand_of, IsPlain}
use Rattle.seize_views.specs.declared.view.Began.{Began as Noted}
use Rattle.seize_views.specs.declared.view.Fixed.{Fixed}
use Rattle.seize_views.specs.declared.view.Has.TheVariants.{Nothing as NoBlock}
use Rattle.seize_views.specs.declared.view.SlotView.{SlotView}
use Rattle.seize_views.specs.declared.view.SlotView.TheVariants as slot_view
use Rattle.seize_views.specs.declared.view.Why.TheVariants.{Retiring, Ending}
use Rattle.seize_views.proofs.Views.InWorld.{IsJustSo, IsUsedLike, HasRow as RowIn, Began, BeginsTo, slot_in, HasNoBlock}
use Rattle.threads_rule.specs.Views.Listed.{AreNumbered}
use Rattle.threads_rule.specs.Views.Rule.{MapsWorld, IsSlot, IsUsedSo, DoesSo, Holds, KeepsFor, LeansOn, caller_at, held_slot, acts_in, section_of, place_of, LeansUnder}
use Rattle.threads_rule.specs.declared.view.Map.{Map}
use Rattle.threads_rule.specs.declared.view.View.{View}
use Rattle.threads_rule.specs.declared.view.SeatWork.{SeatWork}
use Rattle.threads_rule.specs.declared.view.SeatWork.TheVariants.{Nothing, Calls, Makes, Ends}
use Rattle.threads_rule.proofs.Views.Alone.{alone_on_slot, lone_on}
use Rattle.threads_rule.proofs.Views.Exact.{none_inside, none_outside}
use Rattle.threads_rule.proofs.Views.Leaves.{Leaves, own_section}
use Rattle.threads_rule.proofs.Views.Listed.{numbered_on}
use Rattle.threads_rule.proofs.Views.Moved.{moved}
use Rattle.threads_rule.proofs.Views.Numbers.{slot_at}
use Rattle.threads_rule.proofs.Views.Whose.{whose}
use Rattle.threads_rule.proofs.Views.RowFits.{scene, all, so, its_place, i, knows, its, next, w, maps_on, held_place, go}
use Rattle.many_acts.proofs.Given.CallersTogether.Slots.{alike_same}

-- a row that has no block works on slots alone
of_slots : (request : Request) → HasNoBlock request → IsOfSlots request
of_slots (Register' enters) is = tt
of_slots (Enter' s) is = tt
of_slots (Leave' s) is = tt
of_slots (LeaveOwned s) is = tt
of_slots (Refresh s) is = tt
of_slots (Unregister' s) is = tt
of_slots (Retire s b) is = absurd is
of_slots (Flush s) is = tt
of_slots (Defer' s b t) is = absurd is

-- what it ends is the section of the slot that it is about
closes_its : (request : Request) (t : ℕ) → Closes request t → slot_in request ≡ Some t
closes_its (Leave' s) t is = ap (λ (a : ℕ). Some a) (sym is)
closes_its (LeaveOwned s) t is = ap (λ (a : ℕ). Some a) (sym is)
closes_its (Refresh s) t is = ap (λ (a : ℕ). Some a) (sym is)
closes_its (Register' enters) t is = absurd is
closes_its (Enter' s) t is = absurd is
closes_its (Unregister' s) t is = absurd is
closes_its (Retire s b) t is = absurd is
closes_its (Flush s) t is = absurd is
closes_its (Defer' s b u) t is = absurd is

unless : {K V Q : Type 0} (u : UnderWay K V Q) (A : Type 0) → A → UnlessCounts u A
unless (OnKey u) A a = a
unless (ForRoom r) A a = a
unless (Counting sum) A a = tt
unless (OverAll o) A a = a

-- it leads to one world
begins_one : {T : Type 0} (defers : T → Option ℕ) (size i : ℕ) (request : Request) (w n v : World T) → HasNoBlock request → Begins defers size i request w n → Begins defers size i request w v
    → n ≡ v
begins_one defers size i (Register' enters) w n v is a b = a ∙ sym b
begins_one defers size i (Enter' s) w n v is a b = a.1 ∙ sym b.1
begins_one defers size i (Leave' s) w n v is a b = a.1 ∙ sym b.1
begins_one defers size i (LeaveOwned s) w n v is a b = a.1 ∙ sym b.1
begins_one defers size i (Refresh s) w n v is a b = a.1 ∙ sym b.1
begins_one defers size i (Unregister' s) w n v is a b = a.1 ∙ sym b.1
begins_one defers size i (Flush s) w n v is a b = a.1 ∙ sym b.1
begins_one defers size i (Retire s b) w n v is x y = absurd is
begins_one defers size i (Defer' s b t) w n v is x y = absurd is

-- who knows of no block has none in its hand
plain_hand : {T : Type 0} (v : SlotView T) → IsPlain v → hand_of v ≡ None
plain_hand (slot_view.Inside t NoBlock) is = refl
plain_hand slot_view.Rests is = refl
plain_hand (slot_view.Registers c) is = refl
plain_hand (slot_view.Outside t) is = refl
plain_hand (slot_view.Enters t) is = refl
plain_hand (slot_view.Settles c why seen left) is = refl
plain_hand (slot_view.Leaves t size way) is = refl
plain_hand (slot_view.Left t size way) is = refl
plain_hand (slot_view.Frees t) is = refl
plain_hand _ is = absurd is

module _ {T : Type 0} (n : World T) where
  just_alike : (o : Option (ℕ × Use)) → IsUsedLike IsJustSo n o → IsUsedSo n o
  just_alike None is = tt
  just_alike (Some slot) is = subst (λ (u : Use). IsUsedAlike slot.1 u) (sym is) (alike_same slot.1)

module _ {K V S : Type 0} (same : K → K → Bool) (hash : S → K → ℕ) (fixed : Fixed) (s : State (Node K V) (View K V S) (MapsWorld K V S)) (h : Holds same hash fixed s)
    (id : ℕ) (v : View K V S) (at_id : view_of s id ≡ Some v) (own : v.under ≡ None) (free : v.work ≡ Nothing) (unlent : IsUnlent LeansUnder id s) where
  abbrev here : Scene K V
  here = scene same hash fixed s h id v at_id own

  abbrev now : World (Node K V)
  now = here.world

  abbrev me : ℕ
  me = i same hash fixed s h id v at_id own

  -- where it has no row under way its slot is used just so

  inside_zero : (t : ℕ) → row_of v.slot ≡ Rests → use_of v.slot ≡ Some (t, Inside 0) → IsUsedAlike (Inside 0) (now.uses t) → now.uses t ≡ Inside 0
  inside_zero t rest mine is = is.1 ∙ ap Inside (none_inside same hash fixed s h id v at_id free unlent rest t (Inside 0) mine is.0 is.1)

  outside_zero : (t : ℕ) → row_of v.slot ≡ Rests → use_of v.slot ≡ Some (t, Outside 0) → IsUsedAlike (Outside 0) (now.uses t) → now.uses t ≡ Outside 0
  outside_zero t rest mine is = is.1 ∙ ap Outside (none_outside same hash fixed s h id v at_id free unlent rest t (Outside 0) mine is.0 is.1)

  exactly : (x : SlotView (Node K V)) → v.slot ≡ x → row_of x ≡ Rests → IsPlain x → IsUsedSo now (use_of x) → IsUsedLike IsJustSo now (use_of x)
  exactly slot_view.Rests e rest plain is = tt
  exactly (slot_view.Registers c) e rest plain is = tt
  exactly (slot_view.Outside t) e rest plain is = outside_zero t (ap (λ (x : SlotView (Node K V)). row_of x) e) (ap (λ (x : SlotView (Node K V)). use_of x) e) is
  exactly (slot_view.Inside t NoBlock) e rest plain is = inside_zero t (ap (λ (x : SlotView (Node K V)). row_of x) e) (ap (λ (x : SlotView (Node K V)). use_of x) e) is
  exactly (slot_view.Enters t) e rest plain is = absurd (cc rest)
  exactly (slot_view.Settles c (Retiring way) seen left) e rest plain is = absurd (cc rest)
  exactly (slot_view.Settles c (Ending size way) seen left) e rest plain is = absurd (cc rest)
  exactly (slot_view.Leaves t size way) e rest plain is = absurd (cc rest)
  exactly (slot_view.Left t size way) e rest plain is = absurd (cc rest)
  exactly (slot_view.Frees t) e rest plain is = absurd (cc rest)
  exactly _ e rest plain is = absurd plain

  pub row_just : row_of v.slot ≡ Rests → RowIn deferred_word fixed IsJustSo now me v.slot
  row_just rest =
      let has = its same hash fixed s h id v at_id own free in let are = so same hash fixed s h id v at_id own in let known = knows same hash fixed s h id v at_id own in
      record {
        came = (all same hash fixed s h id v at_id own).makings.standing.came;
        row = has.row;
        used = exactly v.slot refl rest known.plain has.slot;
        short = known.short;
        bounded = known.bounded;
        alone = alone_on_slot same hash here (view_of s) are.seats are.unborn are.leant are.apart id v at_id own has;
      }

  pub nobody_else : (t : ℕ) (a : Use) → use_of v.slot ≡ Some (t, a) → (j : ℕ) → (j ≡ me → ⊥) → SettlesOn t (now.row j) → ⊥
  nobody_else t a mine = let are = so same hash fixed s h id v at_id own in lone_on same hash here (view_of s) are.seats are.unborn are.leant are.apart id v at_id own unlent t a mine

  -- a call that is under way is another seat's, in the section of that one's slot
  module _ (m k : ℕ) (u : UnderWay K V K) (a : Use) (on : here.calls m k ≡ Some u) (mine : use_of v.slot ≡ Some (slot_of k, a)) where
    by_work : (j : ℕ) (x : View K V S) → view_of s j ≡ Some x → k ≡ caller_at j (acts_in x.under x.slot) → (work : SeatWork K V S) (map : Option (Map S)) → x.work ≡ work
        → DoesSo same hash here k x.under x.slot map work → ⊥
    by_work j x at e Nothing map is d = let none = d.calls m in cc (none, on)
    by_work j x at e (Makes mine n hasher opening) map is d = let none = d.1.calls m in cc (none, on)
    by_work j x at e (Ends machine) map is d = let none = d.1.calls m in cc (none, on)
    by_work j x at e (Calls p) None is d = d
    by_work j x at e (Calls p) (Some map) is d =
        let f = (so same hash fixed s h id v at_id own).seats j x at in
        let place_is : slot_of k ≡ acts_in x.under x.slot = ap (λ (b : ℕ). slot_of b) e ∙ slot_at j (acts_in x.under x.slot) f.slot in by_under x.under refl place_is d.1
      where
        by_under : (under : Option (ℕ × ℕ)) → x.under ≡ under → slot_of k ≡ acts_in under x.slot → section_of under x.slot ≡ Some d.0 → ⊥
        by_under None lone place_is section =
            let slot_is = own_section x.slot d.0 section in
            let there : slot_of k ≡ d.0 = place_is ∙ ap (λ (y : SlotView (Node K V)). place_of y) slot_is in
            let uses : use_of x.slot ≡ Some (slot_of k, Inside 0) = ap (λ (y : SlotView (Node K V)). use_of y) slot_is ∙ ap (λ (b : ℕ). Some (b, Inside 0)) (sym there) in
            let one = (so same hash fixed s h id v at_id own).apart j id (slot_of k) (Inside 0) a x v at at_id uses mine in
            let knows_it = sym at ∙ ap (view_of s) one ∙ at_id in
            let works = is in let frees = free in cc (knows_it, works, frees)
        by_under (Some leant) leans place_is section =
            let base = (so same hash fixed s h id v at_id own).leant j leant.0 leant.1 x at leans in
            let uses : use_of base.0.slot ≡ Some (slot_of k, Inside 0) = ap (λ (y : SlotView (Node K V)). use_of y) base.2 ∙ ap (λ (b : ℕ). Some (b, Inside 0)) (sym place_is) in
            let one = (so same hash fixed s h id v at_id own).apart leant.0 id (slot_of k) (Inside 0) a base.0 v base.1 at_id uses mine in
            unlent j x at (subst (λ (o : Option (ℕ × ℕ)). LeansOn o id) (sym leans) one)

    not_there : ⊥
    not_there =
        let are = so same hash fixed s h id v at_id own in
        elim (whose same hash here (view_of s) are.seats are.unborn k) as (λ _. ⊥) [
          | inl idle ↦ let none = idle.calls m in cc (none, on)
          | inr it ↦ by_work it.seat it.knows it.here it.caller it.knows.work it.knows.map refl it.does
        ]

  module _ (u : SlotView (Node K V)) (noted : Noted) (n : World (Node K V)) (request : Request) (g : Began deferred_word fixed now me v.slot request u n) where
    no_block : HasNoBlock request
    no_block = g.no_block (plain_hand v.slot (knows same hash fixed s h id v at_id own).plain)

    -- it is on the slot of its caller
    its_own : (t : ℕ) → (a : Use) × (use_of v.slot ≡ Some (t, a)) → t ≡ slot_of me
    its_own t (a, mine) = sym (slot_at id (place_of v.slot) (its_place same hash fixed s h id v at_id own) ∙ ap held_slot mine)

    on_own : (r : Request) → HasNoBlock r → ((t : ℕ) → slot_in r ≡ Some t → (a : Use) × (use_of v.slot ≡ Some (t, a))) → (called : SlotCall) × (r ≡ request_of (slot_of me) called)
    on_own (Register' enters) none about = (slot_calls.Register enters, refl)
    on_own (Enter' t) none about = (slot_calls.Enter, ap Enter' (its_own t (about t refl)))
    on_own (Leave' t) none about = (slot_calls.Leave, ap Leave' (its_own t (about t refl)))
    on_own (LeaveOwned t) none about = (slot_calls.LeaveOwned, ap LeaveOwned (its_own t (about t refl)))
    on_own (Refresh t) none about = (slot_calls.Refresh, ap Refresh (its_own t (about t refl)))
    on_own (Unregister' t) none about = (slot_calls.Unregister, ap Unregister' (its_own t (about t refl)))
    on_own (Flush t) none about = (slot_calls.Flush, ap Flush (its_own t (about t refl)))
    on_own (Retire t b) none about = absurd none
    on_own (Defer' t b u) none about = absurd none

    may : MayDo V same hash fixed.batch_size fixed.roots slot_of (Does (BeginsRow me request)) h.reached.0
    may = (
      ap is_none h.nobody,
      (
        (λ a. ap is_none ((its same hash fixed s h id v at_id own free).calls a)),
        ap rests g.happens.0,
        of_slots request no_block,
        (λ m k x on. unless x (Closes request (slot_of k) → ⊥) (λ closes. let k2 = g.about (slot_of k) (closes_its request (slot_of k) closes) in not_there m k x k2.0 on k2.1)),
        ap is_none g.computed,
      ),
    )

    led : Led same hash fixed.batch_size fixed.roots slot_of (BeginsRow me request) here (h.course.told h.reached.0 (Does (BeginsRow me request)) may)
        (h.course.next h.reached.0 (Does (BeginsRow me request)) may).0
    led = (h.course.leads h.reached.0 (Does (BeginsRow me request)) may).0

    same_world : n ≡ led.0
    same_world = begins_one deferred_word fixed.batch_size me request now n led.0 no_block g.happens.1 led.1.1

    abbrev after : Scene K V
    after = next same hash fixed s h id v at_id own free u noted n led.2 led.3

    leaves : Leaves same hash fixed.batch_size here after me (use_of v.slot)
    leaves = record {
      rows = g.rows;
      calls = λ a k ne. refl;
      makers = λ k ne. refl;
      enders = λ k ne. refl;
      uses = λ t used apart. subst (λ (x : Use). IsUsedAlike (now.uses t) x) (sym (g.uses t apart)) (alike_same (now.uses t));
      ends = None;
      maps = λ a r lasts is. maps_on same hash fixed s h id v at_id own free u noted n led.2 led.3 a r is;
      held = λ t b a r apart inside lasts stands owner held.
          (ap (λ (l : List Effect). holds t b l) g.log ∙ held, ap (λ (l : List Effect). owner_of b l) g.log, ap (λ (m : Mem (Node K V)). value_at m b) g.memory);
      made = λ k ne b x made is other. ap (λ (m : Mem (Node K V)). value_at m b) g.memory ∙ is;
      keeps = λ b hand there some. ap (λ (m : Mem (Node K V)). value_at m b) g.memory;
      passes = λ c ne was then_. (Begin me request ∷ [], (n, ne, g.happens, then_, refl));
    }

    none_ends : leaves.ends ≡ None
    unfolding leaves
    none_ends = refl

    goes : (so_told : View K V S → Type 0) → so_told (w same hash fixed s h id v at_id own free u noted n led.2 led.3) → Goes (Holds same hash fixed) KeepsFor s s.memory id so_told
    goes so_told is =
        moved same hash fixed s h id v at_id (BeginsRow me request) may after
        (led.5 ∙ ap (λ (x : World (Node K V)). record here { world = x; maps = led.2 }) (sym same_world)) s.memory
        (w same hash fixed s h id v at_id own free u noted n led.2 led.3)
        (go same hash fixed s h id v at_id own free u noted n led.2 led.3 leaves none_ends g.row (just_alike n (use_of u) g.used) (inr g.place)
        (subst IsSlot (sym (held_place (use_of u) (use_of v.slot) g.place)) (its_place same hash fixed s h id v at_id own)) unlent (BeginsRow me request) numbered s.memory
        ((so same hash fixed s h id v at_id own).memory ∙ sym g.memory) g.plain g.short g.known g.bounded
        (λ j t a b x ne at uses its. let had = g.slot t b its in ne ((so same hash fixed s h id v at_id own).apart j id t a had.0 x v at at_id uses had.1)))
        (record { own = ((λ a k. 0), on_own request no_block g.about); others = λ j ne theirs. refl; its = λ are. are; newest = λ other on. absurd (cc on); aside = λ j ne theirs. refl; seen = λ before b x none. absurd (cc none) }) so_told is
      where
        numbered : AreNumbered 0 (s.world.doings ++ Does (BeginsRow me request) ∷ []) (so same hash fixed s h id v at_id own).fresh.0
        numbered = let f = (so same hash fixed s h id v at_id own).fresh in numbered_on s.world.doings (Does (BeginsRow me request) ∷ []) 0 f.0 f.0 f.2 refl

  pub begins_to : (noted : Noted) (so_in : SlotView (Node K V) → Type 0) (so_told : View K V S → Type 0) → BeginsTo deferred_word fixed now me v.slot so_in
      → ((u : SlotView (Node K V)) → so_in u → so_told record { slot = u; under = None; map = v.map; by = v.by; own = v.own; work = Nothing; looks = []; held = []; began = noted; calls = v.calls })
      → Goes (Holds same hash fixed) KeepsFor s s.memory id so_told
  begins_to noted so_in so_told (u, n, request, g, is) tells = goes u noted n request g so_told (tells u is)
