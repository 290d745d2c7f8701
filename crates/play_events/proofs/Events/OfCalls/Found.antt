-- The effects of the steps of a call find what they must, if what is still asked is so of all of them.
use Rattle.std.specs.Prelude.{◌≡◌, ◌+◌, ℕ, Bool, false, zero, suc, List, [], ◌∷◌, ◌++◌, map as list_map, Option, Some, option_map}
use Rattle.std.proofs.Common.{ap, sym, subst, ◌∙◌, inl, inr}
use Rattle.play_stepping.specs.Given.ResizeDeclared.new_table.NewTable.{NewTable}
use Rattle.run_schedules.specs.Runs.Same.{is_same}
use Rattle.run_schedules.specs.declared.effect.Effect.{Effect}
use Rattle.run_schedules.specs.declared.event.Event.{Event}
use Rattle.run_schedules.specs.Schedules.After.{moments_from}
use Rattle.run_schedules.specs.Schedules.Growing.{HasNext}
use Rattle.run_schedules.specs.Schedules.Lists.{OneOf}
use Rattle.run_schedules.specs.Schedules.Entry.{Entry}
use Rattle.run_schedules.specs.Schedules.Moment.{UnderWay as CallThere, Moment}
use Rattle.run_schedules.specs.Schedules.Terms.{Terms, shards_of}
use Rattle.run_schedules.specs.Schedules.Views.{call_of}
use Rattle.play_lists.specs.Given.EffectsKnown.{known}
use Rattle.play_lists.specs.Given.FinishesMachines.{machine_of}
use Rattle.play_lists.specs.Given.FinishesMaps.{Standing}
use Rattle.play_lists.specs.Given.FollowsCalls.{IsCalled}
use Rattle.play_stepping.proofs.Given.ChangesBegun.{effects_begun}
use Rattle.run_legal.specs.Given.GrowsCopiers.{making_of_copier}
use Rattle.play_lists.specs.Given.FindsParts.{FindAll, FindRest}
use Rattle.play_lists.proofs.Given.FindsJoined.{several_find_all}
use Rattle.run_schedules.specs.Schedules.Lives.{Finds}
use Rattle.play_lists.specs.Given.FindsLife.{StoresOne}
use Rattle.play_lists.specs.Given.FindsWithin.{ActsOn, AllIsInOrder}
use Rattle.play_lists.proofs.Given.FindsOver.{both_at}
use Rattle.play_lists.proofs.Given.FindsRuns.{life_keeps_order}
use Rattle.run_legal.specs.Given.GrowsNexts.{MayFollow}
use Rattle.run_legal.proofs.CallFinds.{steps_find_all}
use Rattle.run_legal.proofs.Given.GrowsFinding.Links.{such_of_making}
use Rattle.run_legal.proofs.Given.GrowsFinding.Rest.{steps_find_rest}
use Rattle.run_legal.proofs.Given.GrowsTries.Log.{found_full_so, tables_last}
use Rattle.play_stepping.specs.Given.NamedSeen.{Seen, seen}
use Rattle.play_stepping.proofs.Given.RowsLists.{both_some, found_alike}
use Rattle.play_stepping.specs.Given.SchedulerDeclared.scheduler.Scheduler.{Scheduler}
use Rattle.play_stepping.specs.EventSteps.Stepping.{GoneFor}
use Rattle.play_stepping.proofs.EventSteps.AfterEffects.{calls_seen}
use Rattle.play_events.proofs.Events.OfCalls.Steps.{HasCome, IsStep, as_told, did, follows, has_come, its_here, leads}
use Rattle.play_stepping.specs.Given.ExecutorIsThere.{held_by}
use Rattle.run_schedules.specs.Schedules.Transition.{past}
use Rattle.play_stepping.proofs.Given.General.{same_some as the}

module _ {K V : Type 0} (name : ℕ → List ℕ) (terms : Terms) (map i : ℕ) (c : CallThere K V) (moments : List (Moment K V)) where
  abbrev All : List Effect → Moment K V → Type 0
  All fs m = FindAll terms moments (name i) map fs m

module _ {K V S : Type 0} (same : K → K → Bool) (hash : K → ℕ) (name : ℕ → List ℕ) (terms : Terms) (log : List (Entry K V)) (event : Event K V) (beginning : Moment K V)
    (map i : ℕ) (c : CallThere K V) (place n : ℕ) (mid : List Effect) (p : Scheduler K V S) (come : HasCome same hash name terms log event beginning map i c place n mid p) where
  -- the map of the call has as many shards as the terms say
  pub mask_is : (standing : Standing K) → come.scene.maps map ≡ Some standing → standing.setting.mask + 1 ≡ shards_of terms
  mask_is standing there = come.shards map standing.setting (sym (come.shown.is_at.maps map) ∙ ap (λ (o : Option (Standing K)). option_map (λ (x : Standing K). x.setting) o) there)

module _ {K V S : Type 0} (same : K → K → Bool) (hash : K → ℕ) (name : ℕ → List ℕ) (terms : Terms) (log : List (Entry K V)) (event : Event K V) (beginning : Moment K V)
    (map i : ℕ) (c : CallThere K V) (place : ℕ) (c_is : call_of (name i) beginning ≡ Some c) (order : AllIsInOrder beginning) where
  abbrev Come : ℕ → List Effect → Scheduler K V S → Type 0
  Come n fs p = HasCome same hash name terms log event beginning map i c place n fs p

  module _ (n : ℕ) (mid after : List Effect) (p new : Scheduler K V S) (come : Come n mid p) (step : IsStep same hash place mid after p new) where
    abbrev here : come.scene.calls map i ≡ Some come.under
    here = its_here same hash name terms log event beginning map i c place n mid after p new come step

    abbrev its_did : List Effect
    its_did = did same hash name terms log event beginning map i c place n mid after p new come step

    after_is : after ≡ mid ++ its_did
    after_is = follows same hash name terms log event beginning map i c place n mid after p new come step

    abbrev its : (d : CallThere K V) × (call_of (name i) come.now ≡ Some d) × (d.map ≡ map) × IsCalled same come.under d.call
    its = come.midst.calls.whole.all.shown.calls map i come.under here

    -- its call is on the map on which it was as the event began, and began with the same one
    seen_same : seen c ≡ seen its.0
    seen_same =
        let as_now = ap (λ (x : Moment K V). list_map seen x.calls) come.midst.worked ∙ calls_seen (name i) (Some map) mid beginning in
        let alike = found_alike seen seen come.now.calls beginning.calls as_now (λ (z : Seen). is_same z.name (name i)) in
        let was = both_some seen seen (call_of (name i) beginning) (call_of (name i) come.now) (sym alike) its.0 its.1 in
        ap seen (the c was.0 (sym c_is ∙ was.1)) ∙ was.2

    same_begun : its.0.begun ≡ c.begun
    same_begun =
        let kept = effects_begun (name i) map (name i) mid beginning c c_is in
        ap (λ (y : CallThere K V). y.begun) (the its.0 kept.0 (sym its.1 ∙ ap (λ (x : Moment K V). call_of (name i) x) come.midst.worked ∙ kept.1)) ∙ kept.2

    -- where its copier makes a table, its map has a second one, or had one since the call began
    nexts : (k : NewTable) → making_of_copier (machine_of come.under) ≡ Some k → OneOf (HasNext map) (come.now ∷ moments_from its.0.begun log)
    nexts k is =
        elim (such_of_making (λ (x : NewTable). MayFollow map its.0.begun (past log) come.now) k (machine_of come.under) is (come.midst.calls.nexts map i come.under here its.0 its.1)) as
        (λ _. OneOf (HasNext map) (come.now ∷ moments_from its.0.begun log)) [
          | inl had ↦ inr had
          | inr now ↦ inl now
        ]

    -- all is in order there, since what was done so far has found what it must
    order_now : All name terms map i c (moments_from c.begun log) mid beginning → AllIsInOrder come.now
    order_now found =
        subst AllIsInOrder (sym come.midst.worked)
        (life_keeps_order K V terms (Some (name i)) (Some map) false (moments_from c.begun log) mid beginning
        (both_at (Finds terms (Some (name i)) (Some map) false (moments_from c.begun log)) (StoresOne (Some (name i))) (Some (name i)) (Some map) mid beginning found come.midst.stores) on_its order)
      where
        map_is : map ≡ c.map
        map_is = sym its.2 ∙ ap (λ (z : Seen). z.map) (sym seen_same)

        on_its : ActsOn (Some (name i)) (Some map) beginning
        on_its own d caller_is d_is =
            let same_name : name i ≡ own = cc caller_is in
            ap Some (map_is ∙ ap (λ (x : CallThere K V). x.map) (the c d (sym c_is ∙ ap (λ (x : List ℕ). call_of x beginning) same_name ∙ d_is)))

    -- those of one step find it
    step_finds : AllIsInOrder come.now → All name terms map i c (moments_from c.begun log) its_did come.now
    step_finds here_order =
        let led = leads same hash name terms log event beginning map i c place n mid after p new come step in
        let its_mask = mask_is same hash name terms log event beginning map i c place n mid p come (led map come.under here).0 (led map come.under here).2 in
        steps_find_all K V same (λ map. hash) name come.now (known p.logged.notes) come.scene (held_by p.logged.executor) (held_by new.logged.executor) come.shown.is_at.held come.midst.calls.whole come.midst.calls.kept map i come.under
        here step.said led terms its_mask its.0 its.1 (come.slot its.0 its.1) (moments_from c.begun log)
        (subst (λ (b : ℕ). FindRest terms (moments_from b log) (name i) map its_did come.now) same_begun
        (steps_find_rest K V same (λ map. hash) name (past log) come.now (known p.logged.notes) come.scene (held_by p.logged.executor) (held_by new.logged.executor) come.shown.is_at.held come.midst.calls.whole come.midst.calls.kept
        come.midst.calls.finding come.midst.calls.sources here_order come.midst.calls.purposes map i come.under here step.said led terms its.0 its.1 its_mask nexts
        (found_full_so name (past log) (tables_last log) come.now come.scene come.midst.calls.tries map i (come.midst.tables map) come.under here its.0 its.1)))

    -- and so do all, where those before do
    pub all_find : All name terms map i c (moments_from c.begun log) mid beginning → All name terms map i c (moments_from c.begun log) after beginning
    all_find before =
        subst (λ (fs : List Effect). All name terms map i c (moments_from c.begun log) fs beginning) (sym after_is)
        (several_find_all K V terms (moments_from c.begun log) (name i) map mid its_did beginning before
        (subst (λ (x : Moment K V). All name terms map i c (moments_from c.begun log) its_did x) come.midst.worked (step_finds (order_now before))))

  module _ (first : Scheduler K V S) (start : Come 0 [] first) where
    pub gone_find : (n : ℕ) (after : List Effect) (p : Scheduler K V S) → GoneFor same hash place n [] after first p → All name terms map i c (moments_from c.begun log) after beginning
    gone_find zero after p gone = subst (λ (fs : List Effect). All name terms map i c (moments_from c.begun log) fs beginning) gone.0 tt
    gone_find (suc n) after p (mid, q, outcome, gone, on, step) =
        all_find n mid after q p (has_come same hash name terms log event beginning map i c place first start n mid q gone) (as_told same hash step) (gone_find n mid q gone)
