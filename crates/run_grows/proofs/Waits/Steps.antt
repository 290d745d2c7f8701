-- A step of a call, whoever's: each pair that a call has in hand lies so after it.
use Rattle.std.specs.Prelude.{◌≡◌, ℕ, Bool, true, false, List, [], ◌∷◌, Some, None}
use Rattle.std.proofs.Common.{refl, ap, sym, subst, ◌∙◌, inl, inr}
use Rattle.run_finds.specs.Given.TablesDeclared.node.Node.{Node}
use Rattle.papaya_raw.specs.declared.machines.machine.Machine.{Machine}
use Rattle.papaya_raw.specs.declared.machines.progress.Progress.{Progress}
use Rattle.run_schedules.specs.declared.effect.Effect.{Effect}
use Rattle.run_schedules.specs.declared.effect.Thing.TheVariants.{APair}
use Rattle.run_schedules.specs.Schedules.Effects.{with_effects}
use Rattle.run_schedules.specs.Schedules.Moment.{UnderWay as CallThere, Moment}
use Rattle.run_schedules.specs.Schedules.Views.{call_of}
use Rattle.run_finds.specs.Given.CallersTogether.{UnderWay, OnKey, OverAll, ForRoom, Counting}
use Rattle.run_finds.specs.Given.EffectsEffects.{effects_of}
use Rattle.run_finds.specs.Given.EffectsKnown.{Known}
use Rattle.run_finds.specs.Given.EffectsDeclared.acting.Acting.TheVariants as acts
use Rattle.run_finds.specs.Given.FinishesMachines.{machine_of}
use Rattle.run_finds.proofs.Given.FollowsSteps.{WentTo, went_to}
use Rattle.run_finds.specs.Given.MomentsWhole.{RefinesWhole}
use Rattle.run_finds.proofs.Given.OthersOutcomes.{told_in}
use Rattle.run_finds.specs.Given.SettlesDue.{OwnAreMade}
use Rattle.run_finds.specs.Given.SettlesEntries.{EntriesAreBlank}
use Rattle.run_finds.specs.Given.SettlesHand.{in_hand, RefinesObligations}
use Rattle.run_finds.specs.Waits.{waits_in, pair_in, IsHeldPast, RefinesWaits, CallsPreserveWaits}
use Rattle.run_grows.proofs.Waits.Calls.{follows, leaves}
use Rattle.run_schedules.specs.Runs.Same.{is_same}
use Rattle.papaya_raw.specs.Machine.{reserved as of_room, counted as of_sum}
use Rattle.run_finds.specs.Given.ReservesReserve.{reserve_plan}
use Rattle.run_finds.specs.Given.ResizeSum.{sum_plan}
use Rattle.run_finds.specs.Given.ResizeDeclared.sum.Sum.{Sum}
use Rattle.run_finds.specs.Given.CallersRooms.{CallForRoom}
use Rattle.run_finds.proofs.Given.HandsAsking.{which}
use Rattle.run_finds.proofs.Given.HandsCalling.{caller_is}
use Rattle.run_finds.proofs.Given.SettlesCalls.{goes_as_one}
use Rattle.run_kept.proofs.Given.SettlesGains.{others_stay}
use Rattle.run_grows.proofs.Waits.OnKeys.{held_then as key_held}
use Rattle.run_grows.proofs.Waits.OnSweeps.{held_then as sweep_held}
use Rattle.run_finds.specs.Given.ScenesHeld.{Held, IsAt}
use Rattle.run_finds.specs.Given.ScenesScene.{Scene}
use Rattle.run_finds.specs.Given.ScenesStepping.{StepLeads, StepsFrom, scene_after}
use Rattle.run_finds.proofs.Given.General.{same_some as one_of}

module _ {K V : Type 0} (same : K → K → Bool) (hash : ℕ → K → ℕ) (name : ℕ → List ℕ) (m : Moment K V) (known : Known) (s : Scene K V) (old new : Held K V) (at_old : IsAt same hash old s)
    (whole : RefinesWhole same name m known s) (entries : EntriesAreBlank s) (owning : OwnAreMade known s.world) (owes : RefinesObligations name m known s) (waits : RefinesWaits name m s)
    (map i : ℕ) (u : UnderWay K V K) (here : s.calls map i ≡ Some u) (said : Progress (Node K V)) (leads : StepLeads same hash i said s old new) where
  abbrev to : WentTo same hash name m known s old new at_old whole.all.shown map i u here said leads
  to = went_to same hash name m known s old new at_old whole.all.shown map i u here said leads

  abbrev effects : List Effect
  effects = effects_of (acts.Call i map) known new.changed

  abbrev v : Moment K V
  v = with_effects (Some (name i)) (Some map) effects m

  abbrev led : Scene K V
  led = scene_after same s old new map i to.0 u to.1 said to.4

  own_owes : (d : CallThere K V) → call_of (name i) v ≡ Some d → d.owes ≡ in_hand known to.1
  own_owes d is =
      let it = follows same hash name m known s old new at_old whole entries owning owes waits map i u here said leads in ap (λ (x : CallThere K V). x.owes) (one_of d it.0 (sym is ∙ it.1)) ∙ it.2

  -- others owe what they owed
  other_lies : (n j : ℕ) (x : UnderWay K V K) → (n ≡ map → j ≡ i → ⊥) → s.calls n j ≡ Some x → (word : ℕ) → pair_in (machine_of x) ≡ Some word → (d : CallThere K V) → call_of (name j) v ≡ Some d
      → (k : ℕ) → d.owes ≡ APair k ∷ [] → IsHeldPast n v k (waits_in (machine_of x))
  other_lies n j x apart was word some d is k owed =
      let c = whole.all.shown.calls n j x was in
      let stays = others_stay (name i) map (name j) effects m c.0 (by c.0 c.1 (is_same c.0.caller (name i)) refl) c.1 in
      let owed_then : c.0.owes ≡ APair k ∷ [] = ap (λ (y : CallThere K V). y.owes) (one_of c.0 d (sym stays ∙ is)) ∙ owed in
      leaves same hash name m known s old new at_old whole entries owning owes waits map i u here said leads n k (waits_in (machine_of x)) (waits n j x was word some c.0 c.1 k owed_then)
    where
      by : (c : CallThere K V) → call_of (name j) m ≡ Some c → (q : Bool) → is_same c.caller (name i) ≡ q → is_same c.caller (name i) ≡ false
      by c c_is true e =
          absurd (let names : is_same (name j) (name i) ≡ true = ap (λ (l : List ℕ). is_same l (name i)) (sym (caller_is (name j) m c c_is)) ∙ e in
          let both = whole.all.asked.apart n j map i x u was here names in apart both.0 both.1)
      by c c_is false e = e

  -- by where its own has come
  module _ (held : (k : ℕ) → in_hand known to.1 ≡ APair k ∷ [] → (word : ℕ) → pair_in to.1 ≡ Some word → IsHeldPast map v k (waits_in to.1)) where
    pub waits_then : RefinesWaits name v led
    waits_then n j y is word some d d_is k owed = elim (which s.calls map i to.4.next n j y is) as (λ _. IsHeldPast n v k (waits_in (machine_of y))) [
      | inl it ↦
          let machine = goes_as_one to.1 said to.4.next to.4.goes_on y it.2 in
          let now = held k (sym (own_owes d (ap (λ (x : ℕ). call_of (name x) v) (sym it.1) ∙ d_is)) ∙ owed) word (ap (λ (z : Machine K V K). pair_in z) (sym machine) ∙ some) in
          subst (λ (x : ℕ). IsHeldPast x v k (waits_in (machine_of y))) (sym it.0) (subst (λ (z : Machine K V K). IsHeldPast map v k (waits_in z)) (sym machine) now)
      | inr was ↦ other_lies n j y was.0 was.1 word some d d_is k owed
    ]

  -- a reservation, and one that counts, has no pair in hand
  abbrev HasNone : UnderWay K V K → Type 0
  HasNone x = StepsFrom same to.0.hash (machine_of x) old new to.1 said → pair_in to.1 ≡ None

  room_none : (r : CallForRoom) → HasNone (ForRoom r)
  room_none r steps =
      let it = told_in old.memory new.memory new.changed of_room (reserve_plan to.0.hash r.reserve) (to.1, said) steps in
      ap (λ (q : Machine K V K × Progress (Node K V)). pair_in q.0) it.1

  sum_none : (sum : Sum) → HasNone (Counting sum)
  sum_none sum steps =
      let it = told_in old.memory new.memory new.changed of_sum (sum_plan sum) (to.1, said) steps in
      ap (λ (q : Machine K V K × Progress (Node K V)). pair_in q.0) it.1

  pub none_then : pair_in to.1 ≡ None → RefinesWaits name v led
  none_then none = waits_then (λ k is word some. absurd (cc (none, some)))

pub calls_keep_waits : (K V : Type 0) (same : K → K → Bool) (hash : ℕ → K → ℕ) → CallsPreserveWaits K V same hash
calls_keep_waits K V same hash name m known s old new at_old whole entries owning owes waits map i (OnKey x) here said leads =
    waits_then same hash name m known s old new at_old whole entries owning owes waits map i (OnKey x) here said leads
    (key_held same hash name m known s old new at_old whole entries owning owes waits map i x here said leads)
calls_keep_waits K V same hash name m known s old new at_old whole entries owning owes waits map i (OverAll x) here said leads =
    waits_then same hash name m known s old new at_old whole entries owning owes waits map i (OverAll x) here said leads
    (sweep_held same hash name m known s old new at_old whole entries owning owes waits map i x here said leads)
calls_keep_waits K V same hash name m known s old new at_old whole entries owning owes waits map i (ForRoom r) here said leads =
    none_then same hash name m known s old new at_old whole entries owning owes waits map i (ForRoom r) here said leads
    (room_none same hash name m known s old new at_old whole entries owning owes waits map i (ForRoom r) here said leads r (leads map (ForRoom r) here).3)
calls_keep_waits K V same hash name m known s old new at_old whole entries owning owes waits map i (Counting sum) here said leads =
    none_then same hash name m known s old new at_old whole entries owning owes waits map i (Counting sum) here said leads
    (sum_none same hash name m known s old new at_old whole entries owning owes waits map i (Counting sum) here said leads sum (leads map (Counting sum) here).3)
