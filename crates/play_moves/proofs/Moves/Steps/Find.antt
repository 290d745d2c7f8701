-- The effects of a step of a call, as an entry of a history, find what they must where all is in order.
use Rattle.std.specs.Prelude.{◌≡◌, ◌+◌, ℕ, Bool, true, false, List, [], ◌∷◌, Option, Some}
use Rattle.std.proofs.Common.{refl, ap, sym, subst, ◌∙◌, arith, inl, inr}
use Rattle.run_legal.specs.Given.TablesDeclared.node.Node.{Node}
use Rattle.threads_rule.specs.Given.ResizeDeclared.new_table.NewTable.{NewTable}
use Rattle.threads_rule.specs.Given.ResizeDeclared.sum.Sum.{Sum}
use Rattle.run_schedules.specs.Given.RawDeclared.machines.progress.Progress.{Progress}
use Rattle.run_schedules.specs.Runs.Present.{guard_of, guards_slot_or, slot_of_guard}
use Rattle.run_schedules.specs.Runs.Same.{is_same}
use Rattle.run_schedules.specs.declared.call.Call.{Call}
use Rattle.run_schedules.specs.declared.call.Call.TheVariants as call
use Rattle.run_schedules.specs.declared.effect.Effect.{Effect}
use Rattle.run_schedules.specs.declared.outcome.Outcome.{Outcome}
use Rattle.run_schedules.specs.Schedules.Effects.{AtEachEffect}
use Rattle.run_schedules.specs.Schedules.Entry.{ByCall}
use Rattle.run_schedules.specs.Schedules.Growing.{HasNext, only_looks}
use Rattle.run_schedules.specs.Schedules.Handing.{moments_since}
use Rattle.run_schedules.specs.Schedules.Lists.{OneOf}
use Rattle.run_schedules.specs.Schedules.Lives.{Finds}
use Rattle.run_schedules.specs.Schedules.Moment.{Moment, UnderWay as CallThere}
use Rattle.run_schedules.specs.Schedules.Terms.{Terms, shards_of}
use Rattle.run_schedules.specs.Schedules.Views.{call_of}
use Rattle.run_legal.specs.Given.CallersTogether.{Counting, ForRoom, OnKey, OverAll, UnderWay, UnlessCounts}
use Rattle.run_legal.specs.Given.EffectsEffects.{effects_of}
use Rattle.run_legal.specs.Given.EffectsKnown.{Known}
use Rattle.run_legal.specs.Given.EffectsDeclared.acting.Acting.TheVariants as acts
use Rattle.run_legal.specs.Given.FinishesMachines.{machine_of}
use Rattle.run_legal.specs.Given.FollowsCalls.{IsCalled}
use Rattle.run_legal.specs.Given.OwesLooking.{FindAtWork}
use Rattle.run_legal.specs.Given.PurposesPurposes.{RefinesPurposes}
use Rattle.run_legal.specs.Given.FindsLinking.{FoundFull}
use Rattle.run_legal.specs.Given.FindsLife.{StoresOne}
use Rattle.run_legal.specs.Given.FindsParts.{FindAll}
use Rattle.run_legal.specs.Given.FindsWithin.{AllIsInOrder, many_of}
use Rattle.run_legal.specs.Given.GrowsCopiers.{making_of_copier}
use Rattle.run_legal.specs.Given.GrowsNexts.{MayFollow}
use Rattle.run_legal.specs.Given.ScenesHeld.{Held, IsAt}
use Rattle.run_legal.specs.Given.ScenesScene.{Scene, slot_of}
use Rattle.run_legal.specs.Given.ScenesStepping.{StepLeads}
use Rattle.run_legal.proofs.CallFinds.{steps_find_all}
use Rattle.run_legal.proofs.Given.FollowsCalling.{is_same_is}
use Rattle.run_legal.proofs.Given.OwesLooking.Calls.{calls_keep_looking}
use Rattle.run_legal.proofs.Given.FindsGrown.{found_of}
use Rattle.run_legal.proofs.Given.FindsSteps.{steps_store_one}
use Rattle.run_legal.proofs.Given.GrowsFinding.Links.{such_of_making}
use Rattle.run_legal.proofs.Given.GrowsFinding.Rest.{steps_find_rest}
use Rattle.run_legal.proofs.Given.GrowsTries.Log.{found_full_so}
use Rattle.play_linear.specs.Given.AgreesGuards.{HasItsGuard, guard_on}
use Rattle.run_schedules.specs.Deeds.Deeds.{Entry, Steps, map_of_call, moment, named}
use Rattle.run_schedules.specs.Deeds.History.{past}
use Rattle.play_linear.specs.Linear.Shown.{RefinesAnswers}
use Rattle.play_moves.specs.EachMoves.Finds.{FindsIts}
use Rattle.play_moves.specs.Moves.Steps.{EachStoresOne, RefinesSteps, StepsMay}
use Rattle.play_moves.proofs.EachMoves.Steps.TablesLast.{tables_last}
use Rattle.run_schedules.proofs.Given.General.{same_some}

-- a counting only looks
counting_looks : {K V : Type 0} (same : K → K → Bool) (sum : Sum) (its : Call K V) → IsCalled same (Counting sum) its → only_looks its ≡ true
counting_looks same sum call.Len is = refl
counting_looks same sum _ is = absurd is

module _ {K V : Type 0} (same : K → K → Bool) (hash : ℕ → K → ℕ) (terms : Terms) (history : List (Entry K V)) (known : Known) (s : Scene K V) (old new : Held K V) (at : IsAt same hash old s)
    (all : RefinesAnswers same (past history) (moment history) known s) (may : StepsMay terms history s) (map i : ℕ) (u : UnderWay K V K) (here : s.calls map i ≡ Some u) (said : Progress (Node K V))
    (leads : StepLeads same hash i said s old new) (d : CallThere K V) (d_is : call_of (named i) (moment history) ≡ Some d) where
  abbrev m : Moment K V
  m = moment history

  abbrev effects : List Effect
  effects = effects_of (acts.Call i map) known new.changed

  abbrev All : List Effect → Type 0
  All fs = FindAll terms ((past history).since d.begun) (named i) map fs m

  its : (c : CallThere K V) × (call_of (named i) m ≡ Some c) × (c.map ≡ map) × IsCalled same u c.call
  its = all.whole.all.shown.calls map i u here

  same_call : its.0 ≡ d
  same_call = same_some its.0 d (sym its.1 ∙ d_is)

  on_map : d.map ≡ map
  on_map = ap (λ (c : CallThere K V). c.map) (sym same_call) ∙ its.2

  called : IsCalled same u d.call
  called = subst (λ (c : CallThere K V). IsCalled same u c.call) same_call its.3

  -- it has the guard of its caller's slot
  its_guard : d.guard ≡ named (slot_of i)
  its_guard =
      let it = found_of (λ (c : CallThere K V). is_same c.caller (named i)) HasItsGuard m.calls d may.names d_is in
      let names : named it.1.0 ≡ named i = sym it.1.1 ∙ is_same_is d.caller (named i) it.0 in
      let one : it.1.0 ≡ i = cc names in it.1.2 ∙ ap (λ (k : ℕ). named (slot_of k)) one

  abbrev Guarded : Type 0
  Guarded = guard_of (named (slot_of i)) m.there.guards ≡ Some (guard_on (slot_of i))

  module _ (purposes : RefinesPurposes same named (past history) m known s) (steps : RefinesSteps same (past history) m known s) (order : AllIsInOrder m) where
    -- where its copier makes a table, its map has a second one, or had one since the call began
    nexts : (n : NewTable) → making_of_copier (machine_of u) ≡ Some n → OneOf (HasNext map) (m ∷ (past history).since d.begun)
    nexts n is =
        elim (such_of_making (λ (x : NewTable). MayFollow map d.begun (past history) m) n (machine_of u) is (steps.nexts map i u here d d_is)) as
        (λ _. OneOf (HasNext map) (m ∷ (past history).since d.begun)) [
          | inl had ↦ inr had
          | inr now ↦ inl now
        ]

    full : FoundFull map (many_of map m) (m ∷ (past history).since d.begun) u
    full = found_full_so named (past history) (tables_last history) m s steps.tries map i (omega arith) u here d d_is

    mask : (leads map u here).0.setting.mask + 1 ≡ shards_of terms
    mask = may.shards.standing map (leads map u here).0 (leads map u here).2

    with_guard : slot_of_guard d.guard m.there ≡ slot_of i → All effects
    with_guard slot =
        steps_find_all K V same hash named m known s old new at all.whole all.kept map i u here said leads terms mask d d_is slot ((past history).since d.begun)
        (steps_find_rest K V same hash named (past history) m known s old new at all.whole all.kept steps.finding steps.sources order purposes map i u here said leads terms d d_is mask nexts full)

    -- one that only looks does nothing
    looks_find : only_looks d.call ≡ true → (fs : List Effect) → FindAtWork (named i) map fs m → All fs
    looks_find looks [] work = tt
    looks_find looks (f ∷ fs) work = absurd (
        let works : only_looks d.call ≡ false = subst (ByCall (λ (c : CallThere K V). only_looks c.call ≡ false)) d_is work.0 in cc (looks, works)
        )

    guarded : slot_of_guard (named (slot_of i)) m.there ≡ slot_of i → All effects
    guarded slot = with_guard (ap (λ (g : List ℕ). slot_of_guard g m.there) its_guard ∙ slot)

    by_kind : (w : UnderWay K V K) → u ≡ w → All effects
    by_kind (OnKey x) is = guarded (ap guards_slot_or (subst (λ (w : UnderWay K V K). UnlessCounts w Guarded) is (may.guards map i u here)))
    by_kind (ForRoom r) is = guarded (ap guards_slot_or (subst (λ (w : UnderWay K V K). UnlessCounts w Guarded) is (may.guards map i u here)))
    by_kind (OverAll o) is = guarded (ap guards_slot_or (subst (λ (w : UnderWay K V K). UnlessCounts w Guarded) is (may.guards map i u here)))
    by_kind (Counting sum) is =
        looks_find (counting_looks same sum d.call (subst (λ (w : UnderWay K V K). IsCalled same w d.call) is called)) effects
        (calls_keep_looking K V same hash named m known s old new at all.whole all.kept.looking map i u here said leads).0

    abbrev Found : Option ℕ → Option (CallThere K V) → Type 0
    Found acted c = AtEachEffect (Finds terms (Some (named i)) acted false (moments_since terms (past history) c)) (Some (named i)) acted effects m

    pub step_finds : (o : Outcome V) (refused : Bool) → FindsIts terms history (record { deed = Steps i; outcome = o; effects = effects; refused = refused })
    step_finds o refused =
        subst (λ (c : Option (CallThere K V)). Found (map_of_call c) c) (sym d_is) (subst (λ (a : Option ℕ). Found a (Some d)) (sym (ap Some on_map)) (by_kind u refl))

  pub step_stores : (o : Outcome V) (refused : Bool) → EachStoresOne history (record { deed = Steps i; outcome = o; effects = effects; refused = refused })
  step_stores o refused =
      subst (λ (a : Option ℕ). AtEachEffect (StoresOne (Some (named i))) (Some (named i)) a effects m) (sym (ap map_of_call d_is ∙ ap Some on_map))
      (steps_store_one K V same hash named m known s old new at all.whole map i u here said leads)
