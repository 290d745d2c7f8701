-- After a step of a sweep a pair that it has in hand lies so: where it lay; or past the root that it has read; or where it was just taken out.
use Rattle.std.specs.Prelude.{◌≡◌, ℕ, Bool, List, [], ◌∷◌, Some, None}
use Rattle.std.proofs.Common.{ap, sym, subst, ◌∙◌, inl, inr}
use Rattle.run_finds.specs.Given.TablesDeclared.node.Node.{Node}
use Rattle.run_finds.specs.Given.SweepsSweep.{sweep_plan}
use Rattle.run_finds.specs.Given.ReservesDeclared.sweep.Sweep.{Sweep}
use Rattle.run_finds.specs.Given.ReservesDeclared.sweep.Swept.{Swept}
use Rattle.papaya_raw.specs.Machine.{swept as of_sweep}
use Rattle.papaya_raw.specs.declared.machines.machine.Machine.{Machine}
use Rattle.papaya_raw.specs.declared.machines.machine.Machine.TheVariants as kinds
use Rattle.papaya_raw.specs.declared.machines.progress.Progress.{Progress}
use Rattle.run_schedules.specs.declared.effect.Effect.{Effect}
use Rattle.run_schedules.specs.declared.effect.Thing.{Thing}
use Rattle.run_schedules.specs.declared.effect.Thing.TheVariants.{APair}
use Rattle.run_schedules.specs.Schedules.Effects.{with_effects}
use Rattle.run_schedules.specs.Schedules.Moment.{Moment}
use Rattle.run_finds.specs.Given.TellerTells.{StepsObserved}
use Rattle.run_finds.specs.Given.EffectsDeclared.changed.Changed.{Changed}
use Rattle.run_finds.specs.Given.EffectsDeclared.changed.Changed.TheVariants as changed
use Rattle.run_finds.specs.Given.RuleWords.{Blocks}
use Rattle.run_finds.specs.Given.CallersOverAll.{CallOverAll}
use Rattle.run_finds.specs.Given.CallersSights.{seen_by}
use Rattle.run_finds.specs.Given.CallersTogether.{OverAll, IsAtPoint, Together}
use Rattle.run_finds.specs.Given.EffectsEffects.{effects_of}
use Rattle.run_finds.specs.Given.EffectsKnown.{Known}
use Rattle.run_finds.specs.Given.EffectsDeclared.acting.Acting.TheVariants as acts
use Rattle.run_finds.specs.Given.FinishesMaps.{Standing}
use Rattle.run_finds.proofs.Given.FollowsSteps.{WentTo, went_to, made_so, is_inside, DidSo, OfNoRow}
use Rattle.run_finds.specs.Given.MomentsWhole.{RefinesWhole}
use Rattle.run_finds.proofs.Given.OthersOutcomes.{told_in}
use Rattle.run_finds.specs.Given.SettlesDue.{OwnAreMade}
use Rattle.run_finds.specs.Given.SettlesEntries.{EntriesAreBlank}
use Rattle.run_finds.specs.Given.SettlesHand.{in_hand, in_hand_of_sweep, RefinesObligations}
use Rattle.run_finds.specs.Given.SettlesInHand.{pair_in_sweeping, TakesPair}
use Rattle.run_finds.proofs.Given.SettlesHand.All.{own_or_row, sweep_rests}
use Rattle.run_finds.specs.Waits.{waits_in_sweeping, waits_in, pair_in, IsHeldPast, RefinesWaits}
use Rattle.run_finds.proofs.Given.OwesKnown.{sweep_tries, sweep_reads}
use Rattle.run_finds.proofs.Waits.Owes.{OwedBefore, OwedIt, OwedNone, OwedMore, sweep_one, sweep_some, sweep_noted}
use Rattle.run_grows.proofs.Waits.Sweeps.{SweepWaits, SweptNone, SweptAlike, SweptPast, SweptNew, step_hands as sweep_step}
use Rattle.run_finds.proofs.Waits.Taken.{TookPair, took_pair}
use Rattle.run_grows.proofs.Waits.Calls.{before, lay, lies_then, past_then, took_then, row_takes_none}
use Rattle.run_finds.specs.Given.LateToldSweeps.{IsRowOfSweep}
use Rattle.run_finds.specs.Given.ReservesDeclared.sweep.Sweeping.TheVariants as sweeping
use Rattle.run_finds.specs.Given.ResizeDeclared.copier.Copier.{Copier}
use Rattle.run_finds.specs.Given.TablesDeclared.marks.TheConstants.{TOMBSTONE}
use Rattle.run_finds.specs.Given.ScenesHeld.{Held, IsAt}
use Rattle.run_finds.specs.Given.ScenesScene.{Scene, slot_of}
use Rattle.run_finds.specs.Given.ScenesStepping.{StepLeads}

module _ {K V : Type 0} (same : K → K → Bool) (hash : ℕ → K → ℕ) (name : ℕ → List ℕ) (m : Moment K V) (known : Known) (s : Scene K V) (old new : Held K V) (at_old : IsAt same hash old s)
    (whole : RefinesWhole same name m known s) (entries : EntriesAreBlank s) (owning : OwnAreMade known s.world) (owes : RefinesObligations name m known s) (waits : RefinesWaits name m s)
    (map i : ℕ) (x : CallOverAll) (here : s.calls map i ≡ Some (OverAll x)) (said : Progress (Node K V)) (leads : StepLeads same hash i said s old new) where
  abbrev to : WentTo same hash name m known s old new at_old whole.all.shown map i (OverAll x) here said leads
  to = went_to same hash name m known s old new at_old whole.all.shown map i (OverAll x) here said leads

  abbrev st : Standing K
  st = to.0

  abbrev told : Changed
  told = new.changed

  abbrev effects : List Effect
  effects = effects_of (acts.Call i map) known told

  abbrev v : Moment K V
  v = with_effects (Some (name i)) (Some map) effects m

  abbrev seen : Blocks
  seen = seen_by st.blocks (st.sights (slot_of i))

  abbrev together : Together V same st.hash same st.setting slot_of s.world st.chart st.blocks st.sights (s.calls map)
  together = at_old.together.makings.standing.each map st to.2

  stands : IsAtPoint V same st.hash same st.setting slot_of s.world st.chart seen i (OverAll x)
  stands = together.stand i (OverAll x) here

  inner : (r : Sweep × Swept (Node K V)) × (◌≡◌ {A = Machine K V K × Progress (Node K V)} (to.1, said) (of_sweep r))
      × StepsObserved K V (Sweep × Swept (Node K V)) old.memory changed.Nothing (sweep_plan to.0.hash x.sweep) new.memory told r
  inner = told_in old.memory new.memory told of_sweep (sweep_plan to.0.hash x.sweep) (to.1, said) to.3

  machine_is : ◌≡◌ {A = Machine K V K} to.1 (kinds.Sweep inner.0.0)
  machine_is = ap (λ (z : Machine K V K × Progress (Node K V)). z.0) inner.1

  abbrev Waits : Sweep → Type 0
  Waits y = SweepWaits to.0.hash x.sweep old.memory new.memory told y

  hands : Waits inner.0.0
  hands = sweep_step to.0.hash x.sweep old.memory new.memory told inner.0 inner.2

  abbrev Did : Type 0
  Did = DidSo same hash name m known s old new at_old whole.all.shown map i (OverAll x) here said leads (OverAll x)

  abbrev OwnStep : Did → Type 0
  OwnStep did = OfNoRow same hash name m known s old new at_old whole.all.shown map i (OverAll x) here said leads (OverAll x) did

  abbrev Goal : ℕ → Sweep → Type 0
  Goal k y = (word : ℕ) → pair_in_sweeping y.stands ≡ Some word → IsHeldPast map v k (waits_in_sweeping y y.stands)

  abbrev IsNoCopy : Type 0
  IsNoCopy = (copier : Copier) → x.sweep.stands ≡ sweeping.Copies copier → ⊥

  -- it had the pair in hand
  was : (k : ℕ) → IsNoCopy → in_hand_of_sweep known x.sweep.stands ≡ APair k ∷ [] → IsHeldPast map m k (waits_in_sweeping x.sweep x.sweep.stands)
  was k none it =
      let w = sweep_some known x.sweep.stands none k it in
      lay same hash name m known s old new at_old whole entries owning owes waits map i (OverAll x) here said leads k it w.0 w.1

  by_owed : (k : ℕ) → in_hand_of_sweep known x.sweep.stands ≡ APair k ∷ [] → (y : Sweep) → Waits y → Goal k y
  by_owed k it y (SweptNone none) word some = absurd (cc (none, some))
  by_owed k it y (SweptAlike no_copy pair alike) word some =
      lies_then same hash name m known s old new at_old whole entries owning owes waits map i (OverAll x) here said leads k (waits_in_sweeping x.sweep x.sweep.stands) (was k no_copy it)
      (waits_in_sweeping y y.stands) alike
  by_owed k it y (SweptPast d root value no_copy pair were none is reads nothing read sees before_root) word some =
      lies_then same hash name m known s old new at_old whole entries owning owes waits map i (OverAll x) here said leads k None
      (past_then same hash name m known s old new at_old whole entries owning owes waits map i (OverAll x) here said leads
      (is_inside same hash name m known s old new at_old whole.all.shown map i (OverAll x) here said leads) k d
      (sweep_reads same st.hash st.setting slot_of s.world st.chart seen i x stands d is reads) root value read sees before_root (subst (IsHeldPast map m k) were (was k no_copy it)))
      (waits_in_sweeping y y.stands) none
  by_owed k it y (SweptNew word2 is wrote alike) word some = absurd (let none = sym it ∙ ap (in_hand_of_sweep known) is in cc none)

  -- one that copies no pairs has no more in hand
  by_more : (k : ℕ) (a b : Thing) (rest : List Thing) → in_hand_of_sweep known x.sweep.stands ≡ a ∷ b ∷ rest → (y : Sweep) → Waits y → Goal k y
  by_more k a b rest more y (SweptNone none) word some = absurd (cc (none, some))
  by_more k a b rest more y (SweptAlike no_copy pair alike) word some = absurd (sweep_one known x.sweep.stands no_copy a b rest more)
  by_more k a b rest more y (SweptPast d root value no_copy pair were none is reads nothing read sees before_root) word some = absurd (sweep_one known x.sweep.stands no_copy a b rest more)
  by_more k a b rest more y (SweptNew word2 is wrote alike) word some = absurd (let none = sym more ∙ ap (in_hand_of_sweep known) is in cc none)

  -- where it has just taken the pair
  took : (k : ℕ) → TakesPair effects k → (did : Did) → OwnStep did
      → TookPair same hash m known s old new at_old name whole.all.shown whole.places map i to.0 to.2 (made_so same hash name m known s old new at_old whole.all.shown map i (OverAll x) here said leads) (is_inside same hash name m known s old new at_old whole.all.shown map i (OverAll x) here said leads) k
  took k takes (p2, end, is, told_is, inl (step, moved)) own =
      took_pair same hash m known s old new at_old name whole.all.shown whole.places map i to.0 to.2 (made_so same hash name m known s old new at_old whole.all.shown map i (OverAll x) here said leads)
      (is_inside same hash name m known s old new at_old whole.all.shown map i (OverAll x) here said leads) k _ step.step.went step.step.blocks2 step.step.grown step.step.sights2 takes
  took k takes (p2, end, is, told_is, inr row) own = absurd own

  module _ (own : OwnStep to.4.did) (k : ℕ) (takes : TakesPair effects k) (nothing : in_hand_of_sweep known x.sweep.stands ≡ []) where
    no_row : IsRowOfSweep x.sweep.stands → ⊥
    no_row = sweep_rests same hash name m known s old new at_old whole.all.shown map i (OverAll x) here said leads x to.4.did own

    -- it had none in hand
    no_pair : IsNoCopy → (word : ℕ) → pair_in_sweeping x.sweep.stands ≡ Some word → ⊥
    no_pair none word some = sweep_noted known x.sweep.stands none (owes.noted map i (OverAll x) here) word some nothing

    by_none : (y : Sweep) → Waits y → Goal k y
    by_none y (SweptNone none) word some = absurd (cc (none, some))
    by_none y (SweptAlike no_copy pair alike) word some = absurd (let had = pair no_row in no_pair no_copy had.0 had.1)
    by_none y (SweptPast d root value no_copy pair were none is reads nothing_told read sees before_root) word some = absurd (let had = pair no_row in no_pair no_copy had.0 had.1)
    by_none y (SweptNew word2 is wrote alike) word some =
        let its_table = sweep_tries same st.hash st.setting slot_of s.world st.chart seen i x stands word2 is in
        subst (IsHeldPast map v k) (sym alike)
        (took_then same hash name m known s old new at_old whole entries owning owes waits map i (OverAll x) here said leads
        (is_inside same hash name m known s old new at_old whole.all.shown map i (OverAll x) here said leads) k takes (took k takes to.4.did own) x.sweep.table its_table.0 its_table.1
        x.sweep.setting its_table.2 _ word2 TOMBSTONE wrote)

  -- So it lies, whatever it had in hand.
  pub held_then : (k : ℕ) → in_hand known to.1 ≡ APair k ∷ [] → (word : ℕ) → pair_in to.1 ≡ Some word → IsHeldPast map v k (waits_in to.1)
  held_then k is word some =
      subst (λ (z : Machine K V K). pair_in z ≡ Some word → IsHeldPast map v k (waits_in z)) (sym machine_is) (λ has. by (before same hash name m known s old new at_old whole entries owning owes waits map i (OverAll x) here said leads k is) word has) some
    where
      by : OwedBefore effects k (in_hand_of_sweep known x.sweep.stands) → Goal k inner.0.0
      by (OwedIt it) = by_owed k it inner.0.0 hands
      by (OwedMore a b rest more) = by_more k a b rest more inner.0.0 hands
      by (OwedNone none takes) = elim (own_or_row same hash name m known s old new at_old whole.all.shown map i (OverAll x) here said leads (OverAll x) to.4.did) as (λ _. Goal k inner.0.0) [
        | inl own ↦ by_none own k takes none inner.0.0 hands
        | inr other ↦ λ word some. absurd (row_takes_none same hash name m known s old new at_old whole entries owning owes waits map i (OverAll x) here said leads other k takes)
      ]
