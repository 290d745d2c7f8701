-- Who has a call under way that may write, on a map in blocking mode, holds the slot in which it acts; so they are no more than there are slots.
use Rattle.std.specs.Prelude.{◌≢◌, ◌<◌, ◌≤◌, ◌==◌, length, slice_index_or, Option, Some, None, if◌then◌else◌}
use Rattle.std.proofs.Common.{◌≡◌, ℕ, ◌%◌, Bool, true, false, ◌⊎◌, inl, inr, refl, sym, subst, ap, arith, ◌∙◌, eqb-true}
use Rattle.std.proofs.lemmas.Bool.{eqb-false}
use Rattle.seize.specs.World.{Inside}
use Rattle.map_tables.specs.Chunks.{is_incremental}
use Rattle.map_tables.specs.declared.node.Node.{Node}
use Rattle.map_tables.specs.declared.setting.Setting.{Setting}
use Rattle.map_machines.specs.Sum.{sum_plan}
use Rattle.papaya_raw.specs.Machine.{machine_asked, machine_plan, machine_replied}
use Rattle.papaya_raw.specs.Call.{call_plan}
use Rattle.papaya_raw.specs.CallAsks.{replied_at}
use Rattle.papaya_raw.specs.Machine as machines
use Rattle.papaya_raw.specs.declared.machines.answer.Called.{Called}
use Rattle.papaya_raw.specs.declared.machines.answer.Called.TheVariants as called
use Rattle.papaya_raw.specs.declared.machines.asking.MachineReply.{MachineReply}
use Rattle.papaya_raw.specs.declared.machines.call.Calling.{Calling}
use Rattle.papaya_raw.specs.declared.machines.call.Calling.TheVariants as at
use Rattle.papaya_raw.specs.declared.machines.call.KeyCall.{KeyCall}
use Rattle.papaya_raw.specs.declared.machines.machine.Machine.{Machine}
use Rattle.papaya_raw.specs.declared.machines.machine.Machine.TheVariants as kinds
use Rattle.papaya_raw.specs.declared.machines.progress.Progress.{Progress}
use Rattle.seize_words.specs.OneMemory.Mem.{Mem, Took, value_at}
use Rattle.seize_words.specs.OneMemory.Plan.{Steps}
use Rattle.many_acts.specs.Given.CallersClaims.{AreFew, IsNoLookup}
use Rattle.many_acts.specs.Given.CallersTogether.{UnderWay, OnKey, ForRoom, Counting, OverAll, MayWrite, IsWriter}
use Rattle.many_acts.specs.Given.FinishesMachines.{machine_of}
use Rattle.many_acts.specs.Given.FinishesMaps.{Standing}
use Rattle.many_acts.specs.Given.ScenesScene.{Scene}
use Rattle.many_acts.proofs.Given.CallersTogether.Distinct.{few_below}
use Rattle.many_acts.proofs.Given.CallersTogether.Writers.{LooksOn, no_lookup_or_on}
use Rattle.many_acts.proofs.Looks.Sees.Plans.{stepped_as}
use Rattle.many_acts.specs.Looks.Sees.{Continues}
use Rattle.seize_views.specs.Views.Rows.{use_of}
use Rattle.threads_rule.specs.Views.Rule.{Writes, LooksAside, DoesSo, KnowsMap, IsIdle, Fits, AreSo, MapsWorld, acts_in, caller_at, section_of}
use Rattle.threads_rule.specs.declared.view.Map.{Map}
use Rattle.threads_rule.specs.declared.view.View.{View}
use Rattle.threads_rule.specs.declared.view.SeatWork.{SeatWork}
use Rattle.threads_rule.specs.declared.view.SeatWork.TheVariants.{Nothing, Calls, Makes, Ends}
use Rattle.threads_rule.proofs.Views.Leaves.{own_section, section_place}
use Rattle.threads_rule.proofs.Views.Numbers.{slot_at}
use Rattle.threads_rule.proofs.Views.Whose.{Seated, whose}
use Rattle.seize_seats.specs.Seats.State.{State, view_of}
use Rattle.seize_words.proofs.General.{same_some}

-- a call may write as its machine does
writes_so : {K V : Type 0} (u : UnderWay K V K) → MayWrite u → Writes (machine_of u)
writes_so (OnKey u) writes = writes
writes_so (ForRoom r) writes = writes
writes_so (Counting sum) writes = writes
writes_so (OverAll o) writes = writes

-- who may write once it was told something, or asked for its next pair, could do so before
pub replied_writes : {K V : Type 0} (machine : Machine K V K) (reply : MachineReply V) → Writes (machine_replied machine reply).0 → Writes machine
replied_writes {K} {V} (kinds.Key call) reply writes = by call.stands refl writes
  where
    by : (stands : Calling) → call.stands ≡ stands → IsNoLookup (replied_at {K = K} {V = V} {Q = K} stands call reply).0.stands → IsNoLookup stands
    by (at.Looks l) is writes = subst (λ (x : Calling). IsNoLookup x) is writes
    by _ is writes = tt
replied_writes (kinds.Reserve reserve) reply writes = tt
replied_writes (kinds.Count sum) reply writes = writes
replied_writes (kinds.Sweep sweep) reply writes = tt

pub asked_writes : {K V : Type 0} (machine : Machine K V K) → Writes (machine_asked machine).0 → Writes machine
asked_writes (kinds.Key call) writes = writes
asked_writes (kinds.Reserve reserve) writes = writes
asked_writes (kinds.Count sum) writes = writes
asked_writes (kinds.Sweep sweep) writes = tt

-- nor does a step make one of a lookup
module _ {K V : Type 0} (same : K → K → Bool) (hash : K → ℕ) (m m2 : Mem (Node K V)) (next : Machine K V K) (told : Progress (Node K V)) where
  looks_on : (end : KeyCall K V K × Called (Node K V)) → LooksOn end → Continues (machines.called {K = K} {V = V} {Q = K} end).1 → Writes (machines.called {K = K} {V = V} {Q = K} end).0 → ⊥
  looks_on (p, called.Done answer) looks on writes = on
  looks_on (p, called.Refused fault) looks on writes = on
  looks_on (p, called.Goes) looks on writes = looks writes
  looks_on (p, called.Waits) looks on writes = looks writes
  looks_on (p, called.Gave value) looks on writes = looks writes
  looks_on (p, called.Unstored value) looks on writes = looks writes
  looks_on (p, called.Asks asked) looks on writes = looks writes

  pub step_writes : (machine : Machine K V K) → Steps Took value_at m (machine_plan same same hash machine) m2 (next, told) → Continues told → Writes next → Writes machine
  step_writes (kinds.Key call) steps on writes =
      let first = stepped_as machines.called m (call_plan same same hash call) m2 (next, told) steps in
      elim (no_lookup_or_on same same hash call m m2 first.0 first.2) as (λ _. IsNoLookup call.stands) [
        | inl other ↦ other
        | inr looks ↦ absurd (looks_on first.0 looks (subst (λ (e : Machine K V K × Progress (Node K V)). Continues e.1) first.1 on) (subst (λ (e : Machine K V K × Progress (Node K V)). Writes e.0) first.1 writes))
      ]
  step_writes (kinds.Reserve reserve) steps on writes = tt
  step_writes (kinds.Count sum) steps on writes =
      let first = stepped_as machines.counted m (sum_plan sum) m2 (next, told) steps in subst (λ (e : Machine K V K × Progress (Node K V)). Writes e.0) first.1 writes
  step_writes (kinds.Sweep sweep) steps on writes = tt

-- who leans on another seat looks on
pub looks_aside_on : {K V S : Type 0} (under : Option (ℕ × ℕ)) (map : Option (Map S)) (machine next : Machine K V K) → (Writes next → Writes machine)
    → LooksAside under map (Calls machine) → LooksAside under map (Calls next)
looks_aside_on None map machine next before only = tt
looks_aside_on (Some leant) None machine next before only = tt
looks_aside_on (Some leant) (Some map) machine next before only = λ blocking writes. only blocking (before writes)

module _ {K V S : Type 0} (same : K → K → Bool) (hash : S → K → ℕ) (s : State (Node K V) (View K V S) (MapsWorld K V S)) (scene : Scene K V) (so : AreSo same hash s scene)
    (once : (m n i : ℕ) → (scene.calls m i ≢ None) → (scene.calls n i ≢ None) → m ≡ n)
    (m : ℕ) (standing : Standing K) (stands : scene.maps m ≡ Some standing) (blocking : is_incremental standing.setting.mode ≡ false) where
  -- a caller holds this slot
  pub record HoldsSlot (a : ℕ) : Type 0 where
    pub seat : ℕ
    pub knows : View K V S
    pub here : view_of s seat ≡ Some knows
    pub caller : a ≡ caller_at seat (a % 65536)
    pub uses : use_of knows.slot ≡ Some (a % 65536, Inside 0)

  -- whose call on the map may write holds the slot in which it acts
  module _ (a : ℕ) (k : Seated same hash scene (view_of s) so.seats so.unborn a) (u : UnderWay K V K) (has : scene.calls m a ≡ Some u) (writes : MayWrite u) where
    fits : Fits same hash scene k.seat k.knows
    fits = so.seats k.seat k.knows k.here

    place_is : a % 65536 ≡ acts_in k.knows.under k.knows.slot
    place_is = ap (λ (x : ℕ). x % 65536) k.caller ∙ slot_at k.seat (acts_in k.knows.under k.knows.slot) fits.slot

    by_section : (under : Option (ℕ × ℕ)) (t : ℕ) → k.knows.under ≡ under → section_of under k.knows.slot ≡ Some t → (under ≡ None) → HoldsSlot a
    by_section (Some leant) t is section none = absurd (cc none)
    by_section None t is section none =
        let own = own_section k.knows.slot t section in
        let place : a % 65536 ≡ t = place_is ∙ ap (λ (o : Option (ℕ × ℕ)). acts_in o k.knows.slot) is ∙ section_place None k.knows.slot t section in
        record {
          seat = k.seat;
          knows = k.knows;
          here = k.here;
          caller = k.caller ∙ ap (caller_at k.seat) (sym place_is);
          uses = ap use_of own ∙ ap (λ (x : ℕ). Some (x, Inside 0)) (sym place);
        }

    -- it leans on nobody
    upright : (under : Option (ℕ × ℕ)) (map : Map S) (machine : Machine K V K) → LooksAside under (Some map) (Calls machine) → is_incremental map.setting.mode ≡ false → Writes machine → under ≡ None
    upright None map machine only mode may = refl
    upright (Some leant) map machine only mode may = absurd (only mode may)

    by_work : (work : SeatWork K V S) (map : Option (Map S)) → KnowsMap same hash scene map → LooksAside k.knows.under map work
        → DoesSo same hash scene a k.knows.under k.knows.slot map work → HoldsSlot a
    by_work Nothing map known only does = absurd (let none = does.calls m in cc (none, has))
    by_work (Makes mine n hasher opening) map known only does = absurd (let none = does.1.calls m in cc (none, has))
    by_work (Ends machine) map known only does = absurd (let none = does.1.calls m in cc (none, has))
    by_work (Calls machine) None known only does = absurd does
    by_work (Calls machine) (Some map) (it, there, setting, hashes) only (t, section, inside, call, on) =
        let number : map.number ≡ m = once map.number m a (λ none. (let is = call.here in cc (none, is))) (λ none. cc (none, has)) in
        let one : u ≡ call.call = same_some u call.call (sym has ∙ ap (λ (n : ℕ). scene.calls n a) (sym number) ∙ call.here) in
        let its : it ≡ standing = same_some it standing (sym there ∙ ap scene.maps number ∙ stands) in
        let mode : is_incremental map.setting.mode ≡ false = ap (λ (x : Setting). is_incremental x.mode) (sym setting ∙ ap (λ (x : Standing K). x.setting) its) ∙ blocking in
        let may : Writes machine = subst (λ (x : Machine K V K). Writes x) (ap machine_of one ∙ call.is) (writes_so u writes) in
        by_section k.knows.under t refl section (upright k.knows.under map machine only mode may)

  writer_holds : (a : ℕ) → IsWriter (scene.calls m) a → HoldsSlot a
  writer_holds a (u, has, writes) = by (whose same hash scene (view_of s) so.seats so.unborn a)
    where
      by : IsIdle scene a ⊎ Seated same hash scene (view_of s) so.seats so.unborn a → HoldsSlot a
      by (inl idle) = absurd (let none = idle.calls m in cc (none, has))
      by (inr k) = by_work a k u has writes k.knows.work k.knows.map (so.seats k.seat k.knows k.here).map (so.seats k.seat k.knows k.here).only k.does

  -- no two of them hold one slot
  holds_apart : (a b : ℕ) → HoldsSlot a → HoldsSlot b → a % 65536 ≡ b % 65536 → a ≡ b
  holds_apart a b h k e =
      let one = so.apart h.seat k.seat (a % 65536) (Inside 0) (Inside 0) h.knows k.knows h.here k.here h.uses (k.uses ∙ ap (λ (x : ℕ). Some (x, Inside 0)) (sym e)) in
      h.caller ∙ ap (λ (x : ℕ). caller_at x (a % 65536)) one ∙ ap (caller_at k.seat) e ∙ sym k.caller

  module _ (i : ℕ) where
    abbrev Such : ℕ → Type 0
    Such j = (j ≡ i) ⊎ IsWriter (scene.calls m) j

    -- the slot of a caller, and a number past the slots for this one
    abbrev place : ℕ → ℕ
    place j = if j == i then 65536 else j % 65536

    low : (j : ℕ) (x : Bool) → (j == i) ≡ x → (if x then 65536 else j % 65536) < 65537
    low j true e = omega arith
    low j false e = omega arith

    apart_by : (j k : ℕ) (x y : Bool) → (j == i) ≡ x → (k == i) ≡ y → Such j → Such k → j ≢ k → (if x then 65536 else j % 65536) ≢ (if y then 65536 else k % 65536)
    apart_by j k true true e f a b ne p = ne (eqb-true j i e ∙ sym (eqb-true k i f))
    apart_by j k true false e f a b ne p = omega (arith, p)
    apart_by j k false true e f a b ne p = omega (arith, p)
    apart_by j k false false e f (inl a) b ne p = eqb-false j i e a
    apart_by j k false false e f (inr a) (inl b) ne p = eqb-false k i f b
    apart_by j k false false e f (inr a) (inr b) ne p = ne (holds_apart j k (writer_holds j a) (writer_holds k b) p)

    pub few_writers : AreFew Such
    few_writers callers different all =
        let fits : length callers ≤ 65537 = few_below place 65537 callers
        (λ a b d l k. apart_by (slice_index_or callers a d) (slice_index_or callers b d) (slice_index_or callers a d == i) (slice_index_or callers b d == i) refl refl (all a d (omega (arith, l, k)))
        (all b d k) (different a b d l k))
        (λ k d l. low (slice_index_or callers k d) (slice_index_or callers k d == i) refl) in
        omega (arith, fits)
