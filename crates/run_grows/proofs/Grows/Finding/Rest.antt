-- The effects of a step of a call find what is left of what they must, by what the moment shows and what is still asked.
use Rattle.std.specs.Prelude.{◌≡◌, ℕ, ◌+◌, Bool, List, ◌∷◌, Some, None}
use Rattle.std.proofs.Common.{refl, inl, inr}
use Rattle.papaya_raw.specs.Given.TablesDeclared.node.Node.{Node}
use Rattle.run_finds.specs.Given.ResizeSum.{sum_plan}
use Rattle.run_finds.specs.Given.ResizeDeclared.new_table.NewTable.{NewTable}
use Rattle.run_finds.specs.Given.ResizeDeclared.sum.Sum.{Sum}
use Rattle.papaya_raw.specs.Machine.{counted as of_sum}
use Rattle.papaya_raw.specs.declared.machines.progress.Progress.{Progress}
use Rattle.run_schedules.specs.declared.effect.Effect.{Effect}
use Rattle.run_schedules.specs.Schedules.Growing.{HasNext, MayGrow}
use Rattle.run_schedules.specs.Schedules.Lists.{OneOf}
use Rattle.run_schedules.specs.Schedules.Moment.{UnderWay as CallThere, Moment}
use Rattle.run_schedules.specs.Schedules.Terms.{Terms, shards_of}
use Rattle.run_schedules.specs.Schedules.Views.{call_of}
use Rattle.run_finds.specs.Given.CallersTogether.{Counting, ForRoom, OnKey, OverAll, UnderWay}
use Rattle.run_finds.specs.Given.EffectsEffects.{effects_of}
use Rattle.run_finds.specs.Given.EffectsKnown.{Known}
use Rattle.run_finds.specs.Given.EffectsDeclared.acting.Acting.TheVariants as acts
use Rattle.run_finds.specs.Given.FinishesMachines.{machine_of}
use Rattle.run_finds.specs.Given.MomentsWhole.{RefinesWhole}
use Rattle.run_finds.proofs.Given.OthersOutcomes.{told_in}
use Rattle.run_kept.specs.Given.OwesTables.{RefinesOwnTables}
use Rattle.run_kept.proofs.Given.OwesWalks.{sum_at}
use Rattle.run_finds.specs.Given.SettlesDue.{OwnAreMade}
use Rattle.run_kept.proofs.Kept.Calls.{own_made}
use Rattle.run_finds.specs.Growing.{FindAsked}
use Rattle.run_finds.specs.Linking.{FindShapes, FoundFull}
use Rattle.run_finds.specs.Within.{many_of}
use Rattle.run_grows.specs.Grows.Copiers.{MakesByCopier, making_of_copier}
use Rattle.run_grows.proofs.Grows.CopiersAsk.{copiers_may_ask}
use Rattle.run_finds.proofs.Grows.Asked.{Asks, made_of, may_ask}
use Rattle.run_finds.proofs.Grows.Steps.{key_calls_may_ask}
use Rattle.run_finds.proofs.Linking.{key_calls_link}
use Rattle.run_finds.proofs.Rest.{rest_is_all}
use Rattle.run_grows.proofs.Waits.Handed.{calls_hand_past, past_is_handed}
use Rattle.run_grows.proofs.Waits.Next.{calls_put_behind}
use Rattle.run_finds.specs.Waits.{FindPast, FindDeferrals}
use Rattle.run_grows.proofs.Sources.Space.{calls_find_space}
use Rattle.run_finds.specs.Purposes.Purposes.{RefinesPurposes}
use Rattle.run_grows.specs.Grows.Finding.{RefinesFinding}
use Rattle.run_grows.specs.Grows.Rests.{StepsFindRest}
use Rattle.run_grows.proofs.Grows.Finding.Links.{copier_links, none_links}
use Rattle.run_grows.proofs.Grows.Finding.Rooms.{room_asks, room_links}
use Rattle.run_finds.specs.Given.ScenesHeld.{Held, IsAt}
use Rattle.run_finds.specs.Given.ScenesScene.{Scene}
use Rattle.run_finds.specs.Given.ScenesStepping.{StepLeads}
use Rattle.run_schedules.specs.Schedules.Transition.{Past}
use Rattle.run_finds.proofs.Given.SettlesHand.All.{copies_or_not as copies_or}

module _ {K V : Type 0} (same : K → K → Bool) (hash : ℕ → K → ℕ) (name : ℕ → List ℕ) (m : Moment K V) (known : Known) (s : Scene K V) (old new : Held K V) (at : IsAt same hash old s)
    (whole : RefinesWhole same name m known s) (finding : RefinesFinding name m known s) (map i : ℕ) (said : Progress (Node K V)) (leads : StepLeads same hash i said s old new)
    (terms : Terms) (moments : List (Moment K V)) (c : CallThere K V) (c_is : call_of (name i) m ≡ Some c) where
  abbrev Asked : Type 0
  Asked = FindAsked terms moments (name i) map (effects_of (acts.Call i map) known new.changed) m

  module _ (u : UnderWay K V K) (here : s.calls map i ≡ Some u) where
    copier_asks : ((n : NewTable) → making_of_copier (machine_of u) ≡ Some n → OneOf (HasNext map) (m ∷ moments)) → MakesByCopier u → Asked
    copier_asks nexts copies = copiers_may_ask K V same hash name m known s old new at whole map i u here said leads copies terms moments nexts

  -- a counting asks for none
  module _ (sum : Sum) (here : s.calls map i ≡ Some (Counting sum)) where
    none_asked : Asks new.changed → MayGrow terms c.call c (m ∷ moments)
    none_asked asks =
        let it = told_in old.memory new.memory new.changed of_sum (sum_plan sum) ((leads map (Counting sum) here).1, said) (leads map (Counting sum) here).3 in
        let n = made_of None old.memory new.memory new.changed (sum_plan sum) it.0 it.2 (sum_at K V None sum sum.stands) asks in absurd (let some = n.1 in cc some)

    sum_asks : Asked
    sum_asks = may_ask same hash name m known s old new at whole map i (Counting sum) here said leads terms moments c c_is none_asked

-- which table a call links, and that it may ask for each block
module _ {K V : Type 0} (same : K → K → Bool) (hash : ℕ → K → ℕ) (name : ℕ → List ℕ) (log : Past K V) (m : Moment K V) (known : Known) (s : Scene K V) (old new : Held K V) (at : IsAt same hash old s)
    (whole : RefinesWhole same name m known s) (tables : RefinesOwnTables name m known s) (finding : RefinesFinding name m known s) (purposes : RefinesPurposes same name log m known s) (map i : ℕ) (said : Progress (Node K V))
    (leads : StepLeads same hash i said s old new) (terms : Terms) (c : CallThere K V) (c_is : call_of (name i) m ≡ Some c) where
  abbrev since : List (Moment K V)
  since = log.since c.begun

  abbrev Linked : Type 0
  Linked = FindShapes terms since (name i) map (effects_of (acts.Call i map) known new.changed) m

  abbrev NextsOf : UnderWay K V K → Type 0
  NextsOf u = (n : NewTable) → making_of_copier (machine_of u) ≡ Some n → OneOf (HasNext map) (m ∷ since)

  copier_linked : (u : UnderWay K V K) (here : s.calls map i ≡ Some u) → NextsOf u → MakesByCopier u → Linked
  copier_linked u here nexts copies =
      copier_links same hash name m known s old new at whole tables map i u here said leads terms since finding.further copies (finding.capacities map (leads map u here).0 (leads map u here).2) nexts

  call_links : (u : UnderWay K V K) (here : s.calls map i ≡ Some u) → (leads map u here).0.setting.mask + 1 ≡ shards_of terms → NextsOf u → FoundFull map (many_of map m) (m ∷ since) u → Linked
  call_links (OnKey x) is mask_is nexts full = elim (copies_or x.call.stands) as (λ _. Linked) [
    | inl copies ↦ copier_linked (OnKey x) is nexts copies
    | inr other ↦
        key_calls_link K V same hash name m known s old new at whole tables finding.growing map i x is said leads other (finding.capacities map (leads map (OnKey x) is).0 (leads map (OnKey x) is).2) terms
        since full
  ]
  call_links (OverAll o) is mask_is nexts full = copier_linked (OverAll o) is nexts tt
  call_links (Counting sum) is mask_is nexts full = none_links same hash name m known s old new at whole tables map i (Counting sum) is said leads terms since refl
  call_links (ForRoom r) is mask_is nexts full =
      room_links same hash name log m known s old new at whole purposes map i r is said leads terms c c_is mask_is tables finding.further
      (finding.capacities map (leads map (ForRoom r) is).0 (leads map (ForRoom r) is).2) nexts

  call_asks : (u : UnderWay K V K) (here : s.calls map i ≡ Some u) → (leads map u here).0.setting.mask + 1 ≡ shards_of terms → NextsOf u
      → FindAsked terms since (name i) map (effects_of (acts.Call i map) known new.changed) m
  call_asks (OnKey x) is mask_is nexts = elim (copies_or x.call.stands) as (λ _. FindAsked terms since (name i) map (effects_of (acts.Call i map) known new.changed) m) [
    | inl copies ↦ copier_asks same hash name m known s old new at whole finding map i said leads terms since c c_is (OnKey x) is nexts copies
    | inr other ↦ key_calls_may_ask K V same hash name m known s old new at whole finding.growing map i x is said leads other terms since
  ]
  call_asks (OverAll o) is mask_is nexts = copier_asks same hash name m known s old new at whole finding map i said leads terms since c c_is (OverAll o) is nexts tt
  call_asks (Counting sum) is mask_is nexts = sum_asks same hash name m known s old new at whole finding map i said leads terms since c c_is sum is
  call_asks (ForRoom r) is mask_is nexts = room_asks same hash name log m known s old new at whole purposes map i r is said leads terms c c_is mask_is

pub steps_find_rest : (K V : Type 0) (same : K → K → Bool) (hash : ℕ → K → ℕ) → StepsFindRest K V same hash
steps_find_rest K V same hash name log m known s old new at whole kept finding sources order purposes map i u here said leads terms c c_is mask_is nexts full =
    rest_is_all K V terms (log.since c.begun) (name i) map effects m
    (call_asks same hash name log m known s old new at whole kept.tables finding purposes map i said leads terms c c_is u here mask_is nexts)
    (call_links same hash name log m known s old new at whole kept.tables finding purposes map i said leads terms c c_is u here mask_is nexts full)
    (past_is_handed K V (name i) map effects m found_past behind_it
    (calls_find_space K V same hash name m known s old new at whole kept.entries owning kept.owed sources order map i u here said leads found_past behind_it))
  where
    effects : List Effect
    effects = effects_of (acts.Call i map) known new.changed

    owning : OwnAreMade known s.world
    owning = own_made K V same hash name m known s old at whole kept

    found_past : FindPast (name i) map effects m
    found_past = calls_hand_past K V same hash name m known s old new at whole kept.entries owning kept.owed finding.waits map i u here said leads

    behind_it : FindDeferrals (name i) map effects m
    behind_it = calls_put_behind K V same hash name m known s old new at whole kept.entries owning kept.owed finding.waits finding.puts map i u here said leads
