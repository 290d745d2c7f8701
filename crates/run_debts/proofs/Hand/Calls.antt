-- Each call owes just what it has in hand after a step of a call, whoever's: what the effects of the step hand over they find owed, and it is owed no more.
use Rattle.std.specs.Prelude.{◌≡◌, ℕ, Bool, true, false, List, [], Some, None}
use Rattle.std.proofs.Common.{refl, ap, sym, subst, ◌∙◌, inl, inr}
use Rattle.run_places.specs.Given.RunsSame.{is_same}
use Rattle.run_places.specs.Given.TablesDeclared.node.Node.{Node}
use Rattle.run_places.specs.Given.RawDeclared.machines.machine.Machine.{Machine}
use Rattle.run_places.specs.Given.RawDeclared.machines.progress.Progress.{Progress}
use Rattle.run_places.specs.Given.RunsDeclared.effect.Effect.{Effect}
use Rattle.run_places.specs.Given.RunsDeclared.effect.Thing.{Thing}
use Rattle.run_places.specs.Given.SchedulesEffects.{AtEachEffect, with_effects}
use Rattle.run_places.specs.Given.SchedulesEntry.{ByCall, acting}
use Rattle.run_places.specs.Given.SchedulesMoment.{UnderWay as CallThere, Moment}
use Rattle.run_places.specs.Given.SchedulesViews.{call_of}
use Rattle.owner_facts.specs.Given.CallersTogether.{UnderWay}
use Rattle.run_places.specs.Given.EffectsEffects.{effects_of, known_after}
use Rattle.run_places.specs.Given.EffectsKnown.{Known}
use Rattle.run_places.specs.Given.EffectsDeclared.acting.Acting.TheVariants as acts
use Rattle.owner_facts.specs.Given.FinishesMachines.{machine_of}
use Rattle.run_places.specs.Given.FollowsCalls.{IsCalled}
use Rattle.run_places.specs.Given.FollowsShows.{Refines}
use Rattle.run_places.proofs.Given.FollowsOnward.{KeepsRoles}
use Rattle.run_places.proofs.Given.FollowsSteps.{WentTo, went_to}
use Rattle.run_places.proofs.Hands.Asking.{which}
use Rattle.run_places.proofs.Hands.Calling.{caller_is}
use Rattle.run_places.proofs.Changes.Steps.{led_on}
use Rattle.run_places.specs.Moments.Whole.{RefinesWhole}
use Rattle.run_debts.specs.Hand.{in_hand, NotesPending, RefinesObligations}
use Rattle.run_debts.specs.Owed.{PendingGoes, CallsPreserveObligations}
use Rattle.run_debts.specs.Owing.{ObligationsGo, FindsObligation}
use Rattle.run_debts.proofs.Calls.{goes_as_one}
use Rattle.run_debts.proofs.Gains.{others_stay}
use Rattle.run_debts.proofs.Hand.All.{calls_go_in_hand}
use Rattle.run_debts.proofs.Hand.Roles.{hand_same, hand_noted, hand_kept}
use Rattle.run_debts.proofs.Owing.{owes_follow}
use Rattle.run_places.specs.Given.ScenesHeld.{Held, IsAt}
use Rattle.run_places.specs.Given.ScenesScene.{Scene}
use Rattle.run_places.specs.Given.ScenesStepping.{StepLeads, scene_after}
use Rattle.run_places.proofs.Given.General.{same_some as one_of}

module _ {K V : Type 0} (same : K → K → Bool) (hash : ℕ → K → ℕ) (name : ℕ → List ℕ) (m : Moment K V) (known : Known) (s : Scene K V) (old new : Held K V) (at : IsAt same hash old s)
    (whole : RefinesWhole same name m known s) (shows : RefinesObligations name m known s) (map i : ℕ) (u : UnderWay K V K) (here : s.calls map i ≡ Some u) (said : Progress (Node K V))
    (leads : StepLeads same hash i said s old new) (goes : PendingGoes K V same hash m known s old new map i u said here leads) where
  abbrev shown : Refines same name m known s
  shown = whole.all.shown

  abbrev to : WentTo same hash name m known s old new at shown map i u here said leads
  to = went_to same hash name m known s old new at shown map i u here said leads

  abbrev effects : List Effect
  effects = effects_of (acts.Call i map) known new.changed

  abbrev known2 : Known
  known2 = known_after (acts.Call i map) new.changed known

  abbrev v : Moment K V
  v = with_effects (Some (name i)) (Some map) effects m

  -- blocks that were linked are what they were
  keeps : KeepsRoles known known2
  keeps = (led_on same hash name m known s old new at whole shown map i u here said leads).keeps

  still : (machine : Machine K V K) → NotesPending known machine → (in_hand known2 machine ≡ in_hand known machine) × NotesPending known2 machine
  still machine notes =
      let same_blocks = hand_kept known known2 keeps machine notes in (hand_same known known2 machine same_blocks, hand_noted known known2 machine same_blocks notes)

  its : (c : CallThere K V) × (call_of (name i) m ≡ Some c) × (c.map ≡ map) × IsCalled same u c.call
  its = shown.calls map i u here

  abbrev Finds : Type 0
  Finds = AtEachEffect (λ w f. ByCall (FindsObligation w f) (acting (Some (name i)) w)) (Some (name i)) (Some map) effects m

  -- its own
  follows : Finds × (d : CallThere K V) × (call_of (name i) v ≡ Some d) × (d.owes ≡ in_hand known to.1)
  follows =
      owes_follow K V (name i) map effects m its.0 its.1 (in_hand known to.1)
      (subst (λ (l : List Thing). ObligationsGo m effects l (in_hand known to.1)) (sym (shows.owed map i u here its.0 its.1)) goes.0)

  own_owes : (d : CallThere K V) → call_of (name i) v ≡ Some d → d.owes ≡ in_hand known to.1
  own_owes d is = ap (λ (x : CallThere K V). x.owes) (one_of d follows.1 (sym is ∙ follows.2)) ∙ follows.3

  -- others owe what they owed
  other_owes : (n j : ℕ) (x : UnderWay K V K) → (n ≡ map → j ≡ i → ⊥) → s.calls n j ≡ Some x → (d : CallThere K V) → call_of (name j) v ≡ Some d → d.owes ≡ in_hand known2 (machine_of x)
  other_owes n j x apart was d is =
      let c = shown.calls n j x was in
      let stays = others_stay (name i) map (name j) effects m c.0 (by c.0 c.1 (is_same c.0.caller (name i)) refl) c.1 in
      ap (λ (y : CallThere K V). y.owes) (one_of d c.0 (sym is ∙ stays)) ∙ shows.owed n j x was c.0 c.1 ∙ sym (still (machine_of x) (shows.noted n j x was)).0
    where
      by : (c : CallThere K V) → call_of (name j) m ≡ Some c → (q : Bool) → is_same c.caller (name i) ≡ q → is_same c.caller (name i) ≡ false
      by c c_is true e =
          absurd (let names : is_same (name j) (name i) ≡ true = ap (λ (l : List ℕ). is_same l (name i)) (sym (caller_is (name j) m c c_is)) ∙ e in
          let both = whole.all.asked.apart n j map i x u was here names in apart both.0 both.1)
      by c c_is false e = e

  -- where it has come to
  abbrev led : Scene K V
  led = scene_after same s old new map i to.0 u to.1 said to.4

  machine_then : (x : UnderWay K V K) → to.4.next ≡ Some x → machine_of x ≡ to.1
  machine_then x is = goes_as_one to.1 said to.4.next to.4.goes_on x is

  owes_then : (n j : ℕ) (x : UnderWay K V K) → led.calls n j ≡ Some x → (d : CallThere K V) → call_of (name j) v ≡ Some d → d.owes ≡ in_hand known2 (machine_of x)
  owes_then n j x is d d_is = elim (which s.calls map i to.4.next n j x is) as (λ _. d.owes ≡ in_hand known2 (machine_of x)) [
    | inl it ↦
        own_owes d (ap (λ (k : ℕ). call_of (name k) v) (sym it.1) ∙ d_is) ∙ sym (still to.1 goes.1).0 ∙ ap (in_hand known2) (sym (machine_then x it.2))
    | inr was ↦ other_owes n j x was.0 was.1 d d_is
  ]

  noted_then : (n j : ℕ) (x : UnderWay K V K) → led.calls n j ≡ Some x → NotesPending known2 (machine_of x)
  noted_then n j x is = elim (which s.calls map i to.4.next n j x is) as (λ _. NotesPending known2 (machine_of x)) [
    | inl it ↦ subst (λ (z : Machine K V K). NotesPending known2 z) (sym (machine_then x it.2)) (still to.1 goes.1).1
    | inr was ↦ (still (machine_of x) (shows.noted n j x was.1)).1
  ]

  pub kept : Finds × RefinesObligations name v known2 led × (to.4.next ≡ None → (d : CallThere K V) → call_of (name i) v ≡ Some d → d.owes ≡ [])
  kept = (follows.0, record { owed = owes_then; noted = noted_then }, λ none d is. own_owes d is ∙ goes.2 none)

pub calls_keep_owed : (K V : Type 0) (same : K → K → Bool) (hash : ℕ → K → ℕ) → CallsPreserveObligations K V same hash
calls_keep_owed K V same hash name m known s old new at whole entries owning shows map i u here said leads =
    kept same hash name m known s old new at whole shows map i u here said leads
    (calls_go_in_hand K V same hash name m known s old new at whole.all.shown whole.all.rows entries owning map i u here said leads (shows.noted map i u here))
