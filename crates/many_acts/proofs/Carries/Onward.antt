-- A list of acts goes on by which all is reclaimed: a caller begins, and takes steps until it has come to its end. Only pairs are left then.
use Rattle.std.specs.Prelude.{Option, Some, None}
use Rattle.std.specs.Option.{is_none}
use Rattle.std.proofs.Common.{◌≡◌, ℕ, ◌<◌, ◌^◌, Bool, false, List, [], ◌∷◌, refl, ap, sym, subst, ◌∙◌}
use Rattle.run_shows.specs.Given.SeizeWordsDeclared.at.At.TheVariants.{Slot}
use Rattle.run_shows.specs.Given.SeizeWordsMem.{Mem, Took, value_at, word_at}
use Rattle.run_shows.specs.Given.SeizeWordsPlan.{Steps}
use Rattle.run_shows.specs.Given.SeizeReclaimAll.{reclaiming_all, clearing, reclaim_all_plan}
use Rattle.run_shows.specs.Given.SeizeDeclared.rows.reclaim_all.ReclaimAll.{ReclaimAll}
use Rattle.run_shows.specs.Given.SeizeDeclared.rows.settle.Settled.{Settled}
use Rattle.run_shows.specs.Given.SeizeDeclared.rows.settle.Settled.TheVariants as settled
use Rattle.run_shows.specs.Given.SeizeDeclared.states.TheConstants.{HEAD}
use Rattle.seize_acts.specs.Acts.Acts.{rests}
use Rattle.seize_acts.specs.Acts.Answers.{Grant, then_on}
use Rattle.seize_acts.proofs.Acts.Answers.{was_stepped}
use Rattle.run_shows.specs.Given.TablesNodes.{deferred_word, was_left}
use Rattle.run_shows.specs.Given.TablesDeclared.node.Node.{Node}
use Rattle.run_shows.specs.Reclaims.Ends.{Terminates, Comes}
use Rattle.run_shows.specs.Reclaims.Slots.{IsQuiescent}
use Rattle.run_shows.proofs.Reclaims.Ends.All.{reclaiming_ends}
use Rattle.many_acts.specs.Acts.Doings.{Doing, BeginsReclaiming, BeginsClearing, StepsReclaiming, AllAreFree, SlotsAreFree, is_vacant, still, reclaiming, behind, MayDo, HasStepped}
use Rattle.many_acts.specs.Acts.Lists.{Course, Reached, LedOn, nothing_done, on_by}
use Rattle.many_acts.specs.Acts.Reclaiming.{IsReclaimingAll, reclaiming_steps}
use Rattle.many_acts.proofs.Acts.Further.{led_further}
use Rattle.many_acts.proofs.Acts.Reclaiming.{reclaiming_is_by_acts}
use Rattle.many_acts.specs.Carries.Lists.{AreTheirs, SceneIsQuiescent, AllRestThere, OnlyPairsAreLeft, ListsReclaimAll, OnlyPairsAreDeferred}
use Rattle.many_acts.proofs.Carries.Lists.{idle_there, is_over, lists_keep_theirs, reclaiming_begins_there, theirs_on}
use Rattle.many_acts.proofs.Carries.Reclaimed.{may_be_stepped, some_is_there}
use Rattle.run_shows.specs.Scenes.Scene.{Scene}
use Rattle.run_shows.proofs.Given.General.{same_some}

-- who has not come to its end goes on
still_on : {T : Type 0} (e : Settled T) (it : ℕ × ReclaimAll) → (e ≡ settled.Done → ⊥) → still e it ≡ Some it
still_on settled.Goes it not_done = refl
still_on settled.Waits it not_done = refl
still_on (settled.Gave value) it not_done = refl
still_on settled.Done it not_done = absurd (not_done refl)

pub has_ended : {T : Type 0} (e : Settled T) (it : ℕ × ReclaimAll) → still e it ≡ None → e ≡ settled.Done
has_ended settled.Goes it none = absurd (cc none)
has_ended settled.Waits it none = absurd (cc none)
has_ended (settled.Gave value) it none = absurd (cc none)
has_ended settled.Done it none = refl

module _ {K S : Type 0} (V : Type 0) (same : K → K → Bool) (hash : S → K → ℕ) (batch_size roots : ℕ) (slot : ℕ → ℕ) (course : Course V same hash batch_size roots slot) where
  abbrev At : Type 0
  At = Reached V same hash batch_size roots slot

  abbrev May : Doing K V S → At → Type 0
  May doing x = MayDo V same hash batch_size roots slot doing x.0

  abbrev on : (x : At) (doing : Doing K V S) → May doing x → At
  on x doing may = on_by V same hash batch_size roots slot course x doing may

  abbrev Now : At → Option (ℕ × ReclaimAll)
  Now x = reclaiming V same hash batch_size roots slot x.0

  abbrev AllOver : At → Type 0
  AllOver y = AllRestThere V same hash batch_size roots slot y × OnlyPairsAreLeft V same hash batch_size roots slot y.0.0

  -- by its last step nobody has anything under way, and only pairs are left
  module _ (x : At) (theirs : AreTheirs x.0.0) (g : Grant) (may : May (StepsReclaiming g) x) where
    abbrev st : HasStepped V same hash batch_size roots slot g x.0 (course.told x.0 (StepsReclaiming g) may) (course.next x.0 (StepsReclaiming g) may)
    st = course.leads x.0 (StepsReclaiming g) may

    idle : IsReclaimingAll V same batch_size roots slot x.0.0 st.caller (behind V same hash batch_size roots slot x.0) st.machine
    idle = idle_there V same hash batch_size roots slot x.0 st.caller st.machine st.here

    is_all_over : st.end ≡ settled.Done → AllOver (on x (StepsReclaiming g) may)
    is_all_over done = (
      (
        record {
          no_calls = λ m i. ap (λ (s : Scene K V). s.calls m i) st.did.comes ∙ idle.stand.no_calls m i;
          no_makers = λ i. ap (λ (s : Scene K V). s.makers i) st.did.comes ∙ idle.stand.no_makers i;
          no_enders = λ i. ap (λ (s : Scene K V). s.enders i) st.did.comes ∙ idle.stand.no_enders i;
          rows = pairs.0.nothing.0;
        },
        st.goes_on ∙ ap (λ (e : Settled (Node K V)). still e (st.caller, st.next)) done,
      ),
      pairs,
    )
      where
        pairs : OnlyPairsAreLeft V same hash batch_size roots slot (course.next x.0 (StepsReclaiming g) may).0
        pairs =
            is_over V same hash batch_size roots slot st.caller x.0.0 (behind V same hash batch_size roots slot x.0) st.machine idle theirs g st.end (course.next x.0 (StepsReclaiming g) may).0 st.lists st.next st.did done

  pub only_pairs_wait_behind : OnlyPairsAreDeferred V same hash batch_size roots slot course
  only_pairs_wait_behind g doings x led may none =
      let theirs = lists_keep_theirs V same hash batch_size roots slot course doings x led in
      let step = st x theirs g may in
      is_all_over x theirs g may (has_ended step.end (step.caller, step.next) (sym step.goes_on ∙ none))

  -- acts lead on from there to where all is over
  abbrev Onward : At → Type 0
  Onward x = (more : List (Doing K V S)) × (y : At) × LedOn V same hash batch_size roots slot course more x y × AllOver y

  by_one_more : (doing : Doing K V S) (x : At) (may : May doing x) → Onward (on x doing may) → Onward x
  by_one_more doing x may k = (doing ∷ k.0, k.1, (may, k.2), k.3)

  -- whatever its step tells
  by_step : (x : At) (theirs : AreTheirs x.0.0) (g : Grant) (may : May (StepsReclaiming g) x) → (e : Settled (Node K V)) → (st x theirs g may).end ≡ e
      → (((st x theirs g may).end ≡ settled.Done → ⊥) → Onward (on x (StepsReclaiming g) may)) → Onward x
  by_step x theirs g may settled.Done is later = (StepsReclaiming g ∷ [], on x (StepsReclaiming g) may, (may, refl), is_all_over x theirs g may is)
  by_step x theirs g may settled.Goes is later = by_one_more (StepsReclaiming g) x may (later (λ e. cc (is, e)))
  by_step x theirs g may settled.Waits is later = by_one_more (StepsReclaiming g) x may (later (λ e. cc (is, e)))
  by_step x theirs g may (settled.Gave value) is later = by_one_more (StepsReclaiming g) x may (later (λ e. cc (is, e)))

  module _ (word : batch_size < 2 ^ 64) where
    -- the next step may be taken
    next_may : (x : At) (i : ℕ) (c : ReclaimAll) → Now x ≡ Some (i, c) → (g : Grant) × (is_none (then_on (Now x) (λ it. reclaiming_steps x.0.0 g it.1)) ≡ false)
    next_may x i c here =
        let acts = reclaiming_is_by_acts V same batch_size roots slot word x.0.0 i (behind V same hash batch_size roots slot x.0) c (idle_there V same hash batch_size roots slot x.0 i c here) in
        let step = may_be_stepped x.0.0.world.memory (reclaim_all_plan deferred_word was_left c) acts.0 in (
          step.0,
          subst (λ (o : Option (ℕ × ReclaimAll)). is_none (then_on o (λ it. reclaiming_steps x.0.0 step.0 it.1)) ≡ false) (sym here)
              (some_is_there (reclaiming_steps x.0.0 step.0 c) step.1 step.2),
        )

    to_end : (m : Mem (Node K V)) (c : ReclaimAll) → Terminates m c → (x : At) → AreTheirs x.0.0 → (i : ℕ) → Now x ≡ Some (i, c) → x.0.0.world.memory ≡ m → Onward x
    to_end m c (Comes _ _ more) x theirs i here at =
        let k = next_may x i c here in
        let may : May (StepsReclaiming k.0) x = (word, k.1) in
        let step = st x theirs k.0 may in
        by_step x theirs k.0 may step.end refl
        (λ not_done. to_end step.did.memory step.next
        (more step.did.memory step.next step.end (subst (λ (y : Mem (Node K V)). Steps Took value_at y (reclaim_all_plan deferred_word was_left c) step.did.memory (step.next, step.end)) at
        (subst (λ (it : ℕ × ReclaimAll). Steps Took value_at x.0.0.world.memory (reclaim_all_plan deferred_word was_left it.1) step.did.memory (step.next, step.end))
        (same_some (step.caller, step.machine) (i, c) (sym step.here ∙ here))
        (was_stepped x.0.0.world.memory k.0 (reclaim_all_plan deferred_word was_left step.machine) (step.did.memory, (step.next, step.end)) step.did.computed))) not_done)
        (on x (StepsReclaiming k.0) may) (theirs_on V same hash batch_size roots slot course x (StepsReclaiming k.0) may theirs) step.caller
        (step.goes_on ∙ still_on step.end (step.caller, step.next) not_done)
        (ap (λ (s : Scene K V). s.world.memory) step.did.comes ∙ step.did.did.memory))

    -- once it has begun
    from_there : (doing : Doing K V S) (x : At) → AreTheirs x.0.0 → (may : May doing x) → (i : ℕ) (c : ReclaimAll) → Now (on x doing may) ≡ Some (i, c) → Onward x
    from_there doing x theirs may i c here =
        let y = on x doing may in
        by_one_more doing x may (to_end y.0.0.world.memory c
        (reclaiming_ends V same same batch_size roots slot y.0.0.maps y.0.0.calls y.0.0.makers y.0.0.enders y.0.0.world i (behind V same hash batch_size roots slot y.0) c word
        (idle_there V same hash batch_size roots slot y.0 i c here)) y (theirs_on V same hash batch_size roots slot course x doing may theirs) i here refl)

    all_free : (s : Scene K V) → SceneIsQuiescent s → AllAreFree s
    all_free s rest = record {
      no_call = λ m i. ap is_none (rest.no_calls m i);
      no_making = λ i. ap is_none (rest.no_makers i);
      no_ending = λ i. ap is_none (rest.no_enders i);
      rest = λ i. ap rests (rest.rows i);
    }

    slots_free : (s : Scene K V) → IsQuiescent s.world → SlotsAreFree s
    slots_free s quiet = record { vacant = λ t. ap is_vacant (quiet.vacant t); none = quiet.none }

  pub lists_reclaim_all : ListsReclaimAll V same hash batch_size roots slot course
  lists_reclaim_all word doings x led (rest, none) i =
      let k = by (word_at x.0.0.world.memory (Slot 0 HEAD)) refl in
      (k.0, k.1, led_further V same hash batch_size roots slot course doings k.0 (nothing_done V same hash batch_size roots slot course) x k.1 led k.2, k.3.0, k.3.1)
    where
      theirs : AreTheirs x.0.0
      theirs = lists_keep_theirs V same hash batch_size roots slot course doings x led

      by : (o : Option ℕ) → word_at x.0.0.world.memory (Slot 0 HEAD) ≡ o → Onward x
      by (Some head) is =
          let may : May (BeginsReclaiming i) x = (ap is_none none, word, all_free word x.0.0 rest, ap is_none is) in
          from_there word (BeginsReclaiming i) x theirs may i (reclaiming_all batch_size roots) (course.leads x.0 (BeginsReclaiming i) may).3
      by None is =
          let quiet = ((reclaiming_begins_there V same hash batch_size roots slot course word doings x led (rest, none)).1 i).2 is in
          let may : May (BeginsClearing i) x = (ap is_none none, word, all_free word x.0.0 rest, slots_free word x.0.0 quiet) in
          from_there word (BeginsClearing i) x theirs may i (clearing roots) (course.leads x.0 (BeginsClearing i) may).3
