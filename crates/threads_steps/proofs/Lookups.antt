-- A step of the lookup of a seat's call: it may be taken, and the seat knows how far it has come.
use Rattle.std.specs.Prelude.{Option, Some, None}
use Rattle.std.proofs.Common.{◌≡◌, ℕ, Bool, refl, subst, ap, ◌∙◌}
use Rattle.seize_words.specs.OneMemory.Op.{Op, Out}
use Rattle.seize_words.specs.OneMemory.Plan.{Plan, May, Steps, plan_as}
use Rattle.seize.specs.declared.advance.Advance.{Advance}
use Rattle.seize.specs.declared.advance.Advance.TheVariants as progress
use Rattle.map_tables.specs.declared.node.Node.{Node}
use Rattle.map_machines.specs.Lookup.{lookup_plan}
use Rattle.map_machines.specs.declared.lookup.Lookup.{Lookup}
use Rattle.papaya_raw.specs.Call.{looked, looks_for}
use Rattle.papaya_raw.specs.CallPoints.{standing}
use Rattle.papaya_raw.specs.Machine.{machine_plan, called as as_machine}
use Rattle.papaya_raw.specs.declared.machines.answer.Called.{Called}
use Rattle.papaya_raw.specs.declared.machines.call.Calling.TheVariants.{Looks}
use Rattle.papaya_raw.specs.declared.machines.call.KeyCall.{KeyCall}
use Rattle.papaya_raw.specs.declared.machines.machine.Machine.{Machine}
use Rattle.papaya_raw.specs.declared.machines.machine.Machine.TheVariants.{Key}
use Rattle.papaya_raw.specs.declared.machines.progress.Progress.{Progress as Told}
use Rattle.seize_views.specs.Views.Promises.{op_in}
use Rattle.seize_views.specs.Views.Told.{FollowsBy}
use Rattle.threads_rule.specs.Views.Told.{called}
use Rattle.threads_rule.specs.Views.Rule.{stand_of}
use Rattle.threads_rule.specs.declared.view.View.{View}
use Rattle.threads_steps.specs.Made.{CanMake, HasMade, IsSameSeat, shown_of}
use Rattle.threads_rule.specs.Errands.Looking.{HasProgressed, LooksFor, LookedSo, StaysThere, progress_of_lookup}
use Rattle.threads_steps.specs.declared.within.Within.{Within}
use Rattle.threads_steps.proofs.Calls.{can_make, told_shown}
use Rattle.threads_rule.proofs.Errands.Looking.{TellsSo, tells, is_do, only_reads, is_plain}
use Rattle.threads_kinds.proofs.CallKinds.Plans.{may_by, was_made, op_as, follows_as, follows_one, follows_rest, leaves_as}

module _ {K V S : Type 0} (same : K → K → Bool) (hash : S → K → ℕ) (c : Within K V S) (key : K) (lookup : Lookup) (is : LooksFor key lookup c.seat.now.view) where
  abbrev standing_here : KeyCall K V K
  standing_here = standing is.call (Looks lookup)

  abbrev machine : Machine K V K
  machine = Key standing_here

  abbrev own : Plan (Node K V) (Lookup × Advance (Option ℕ))
  own = lookup_plan (same key) lookup

  abbrev in_call : Plan (Node K V) (KeyCall K V K × Called (Node K V))
  in_call = plan_as (looked standing_here) own

  -- the step of its call is that of the lookup
  its_plan : machine_plan same same (hash is.map.hasher) machine ≡ plan_as as_machine in_call
  its_plan = ap (λ (o : Option K). plan_as as_machine (looks_for same standing_here lookup o)) is.asked

  its_op : (op : Op (Node K V)) → op_in own ≡ Some op → op_in (machine_plan same same (hash is.map.hasher) machine) ≡ Some op
  its_op op e = ap op_in its_plan ∙ op_as as_machine in_call ∙ op_as (looked standing_here) own ∙ e

  makes : (op : Op (Node K V)) → op_in own ≡ Some op → CanMake same hash c op
  makes op e =
      can_make same hash c is.map machine is.knows is.works
      (leaves_as as_machine in_call (machine_plan same same (hash is.map.hasher) machine) its_plan (leaves_as (looked standing_here) own in_call refl (only_reads V (same key) lookup lookup.stands))) op (its_op op e)

  -- what is told of it
  pub record Came (n : Within K V S) (out : Out (Node K V)) : Type 0 where
    pub end : Lookup × Advance (Option ℕ)
    pub follows : FollowsBy (shown_of n) own out end
    pub view : n.seat.now.view ≡ called c.seat.now.view is.map machine (as_machine (looked standing_here end)) n.seat.now.view.looks

  came : (op : Op (Node K V)) (out : Out (Node K V)) (n : Within K V S) → HasMade same hash c op out n → Came n out
  came op out n made =
      let t = told_shown same hash c is.map machine is.knows is.works op out n made in
      let f = follows_as as_machine (shown_of n) in_call out t.0 (subst (λ (p : Plan (Node K V) (Machine K V K × Told (Node K V))). FollowsBy (shown_of n) p out t.0) its_plan t.1) in
      let g = follows_as (looked standing_here) (shown_of n) own out f.0 f.1 in
      record {
        end = g.0;
        follows = g.1;
        view =
            t.2 ∙ ap (λ (e : Machine K V K × Told (Node K V)). called c.seat.now.view is.map machine e n.seat.now.view.looks)
            (f.2 ∙ ap (λ (e : KeyCall K V K × Called (Node K V)). as_machine e) g.2);
      }

  pub may_look : May (CanMake same hash) (HasMade same hash) shown_of c own
  may_look =
      may_by (CanMake same hash) (HasMade same hash) shown_of c own (is_do V (same key) lookup lookup.stands is.on) makes
      (λ op out n e made. let k = came op out n made in (k.end, k.follows)) (is_plain V (same key) lookup lookup.stands)

  -- how far it has come, by what the step tells
  so_far : (n : Within K V S) (end : Lookup × Advance (Option ℕ)) → n.seat.now.view ≡ called c.seat.now.view is.map machine (as_machine (looked standing_here end)) n.seat.now.view.looks
      → TellsSo (same key) (shown_of n) end → LookedSo same key end.0 end.1 n.seat.now.view
  so_far n (d, progress.Goes) view on = record {
    map = is.map;
    call = is.call;
    knows = ap (λ (v : View K V S). v.map) view ∙ is.knows;
    asked = is.asked;
    works = ap (λ (v : View K V S). v.work) view;
    on = on;
  }
  so_far n (d, progress.Waits) view none = none
  so_far n (d, progress.Done None) view none = record { free = ap (λ (v : View K V S). v.work) view; shows = tt }
  so_far n (d, progress.Done (Some word)) view shows = record { free = ap (λ (v : View K V S). v.work) view; shows = shows }
  so_far n (d, progress.Refused fault) view none = none

  -- and what its call has told
  told_so : (n : Within K V S) (end : Lookup × Advance (Option ℕ)) → n.seat.now.view ≡ called c.seat.now.view is.map machine (as_machine (looked standing_here end)) n.seat.now.view.looks
      → HasProgressed (progress_of_lookup end.1) c.seat.now.view n.seat.now.view
  told_so n (d, progress.Goes) view = ap (λ (v : View K V S). v.calls) view
  told_so n (d, progress.Waits) view = ap (λ (v : View K V S). v.calls) view
  told_so n (d, progress.Done None) view = ap (λ (v : View K V S). v.calls) view
  told_so n (d, progress.Done (Some word)) view = ap (λ (v : View K V S). v.calls) view
  told_so n (d, progress.Refused fault) view = ap (λ (v : View K V S). v.calls) view

  pub has_looked : (n : Within K V S) (end : Lookup × Advance (Option ℕ)) → Steps (HasMade same hash) shown_of c own n end
      → LookedSo same key end.0 end.1 n.seat.now.view × StaysThere c.seat.now.view n.seat.now.view × IsSameSeat c n × HasProgressed (progress_of_lookup end.1) c.seat.now.view n.seat.now.view
  has_looked n end st =
      let k = was_made (CanMake same hash) (HasMade same hash) shown_of c own n end (is_do V (same key) lookup lookup.stands is.on) st in
      let t = came k.0 k.1 n k.3 in
      let one : t.end ≡ end = follows_one (shown_of n) own k.1 t.end end t.follows k.4 in
      let view = t.view ∙ ap (λ (e : Lookup × Advance (Option ℕ)). called c.seat.now.view is.map machine (as_machine (looked standing_here e)) n.seat.now.view.looks) one in (
        so_far n end view (tells (same key) (shown_of n) lookup k.1 end is.on (follows_rest (shown_of n) own k.1 end k.4)),
        record { slot = ap (λ (v : View K V S). stand_of v) view; map = ap (λ (v : View K V S). v.map) view },
        k.3.seat,
        told_so n end view,
      )
