-- A step of a call on one key that copies pairs, none of a row: what the call has in hand goes with the effects of the step.
use Rattle.std.specs.Prelude.{◌≡◌, ℕ, Bool, false, List, Some}
use Rattle.std.proofs.Common.{refl, ap, sym, subst, ◌∙◌, inl, inr}
use Rattle.run_places.specs.Given.TablesDeclared.node.Node.{Node}
use Rattle.run_places.specs.Given.ResizeCopier.{copier_plan}
use Rattle.run_places.specs.Given.ResizeDeclared.copier.Copier.{Copier}
use Rattle.run_places.specs.Given.ResizeDeclared.yielding.Yielding.{Yielding}
use Rattle.run_places.specs.Given.TablesDeclared.table.Table.{Table}
use Rattle.run_places.specs.Given.RawCall.{call_plan, plan_at, helped, copied}
use Rattle.run_places.specs.Given.RawMachine.{called as of_key}
use Rattle.run_places.specs.Given.RawProgress.{of_called}
use Rattle.run_places.specs.Given.RawDeclared.machines.answer.Called.{Called}
use Rattle.run_places.specs.Given.RawDeclared.machines.call.Calling.{Calling}
use Rattle.run_places.specs.Given.RawDeclared.machines.call.Calling.TheVariants as at
use Rattle.run_places.specs.Given.RawDeclared.machines.call.KeyCall.{KeyCall}
use Rattle.run_places.specs.Given.RawDeclared.machines.machine.Machine.{Machine}
use Rattle.run_places.specs.Given.RawDeclared.machines.machine.Machine.TheVariants as kinds
use Rattle.run_places.specs.Given.RawDeclared.machines.progress.Progress.{Progress}
use Rattle.run_places.specs.Given.RunsDeclared.effect.Effect.{Effect}
use Rattle.run_places.specs.Given.SchedulesMoment.{Moment}
use Rattle.run_places.specs.Given.TellerTells.{StepsObserved}
use Rattle.run_places.specs.Given.EffectsDeclared.changed.Changed.{Changed}
use Rattle.run_places.specs.Given.EffectsDeclared.changed.Changed.TheVariants as changed
use Rattle.run_places.specs.Given.RuleWords.{Blocks}
use Rattle.owner_facts.specs.Given.PointsFactsCalls.{IsCopying, CallingFacts}
use Rattle.owner_facts.specs.Given.PointsTold.{IsRowOfCopier, IsRowOfCall}
use Rattle.owner_facts.proofs.Given.PointsSteps.RootSteps.{is_promoting, call_is_promoting, spares_call}
use Rattle.owner_facts.specs.Given.LateLateCalls.{SupersededCalling}
use Rattle.owner_facts.specs.Given.CallersSights.{seen_by}
use Rattle.owner_facts.specs.Given.CallersTogether.{CallOnKey, OnKey, in_slot}
use Rattle.run_places.specs.Given.EffectsEffects.{effects_of}
use Rattle.run_places.specs.Given.EffectsKnown.{Known}
use Rattle.run_places.specs.Given.EffectsDeclared.acting.Acting.TheVariants as acts
use Rattle.owner_facts.specs.Given.FinishesMaps.{Standing}
use Rattle.run_places.specs.Given.FollowsShows.{Refines}
use Rattle.run_places.proofs.Given.FollowsSteps.{WentTo, went_to, is_inside, OfNoRow}
use Rattle.run_places.proofs.Given.OthersOutcomes.{told_in}
use Rattle.run_debts.specs.Hand.{tables_in_hand, in_hand_of_call, in_hand, NotesTables, NotesOfCall, NotesPending}
use Rattle.run_debts.specs.InHand.{TakesPair, pair_in_calling}
use Rattle.run_debts.specs.Owed.{PendingGoes}
use Rattle.run_debts.proofs.CopierTables.{KnowsTables, fresh_knows, blocking_knows, late_knows}
use Rattle.run_debts.proofs.Hand.Copies.{copying_goes, KeyThen, helped_then, copied_then}
use Rattle.run_debts.proofs.Here.{each}
use Rattle.run_debts.proofs.Leaving.{no_promotion}
use Rattle.run_debts.proofs.Taken.{calls_take_in_hand}
use Rattle.run_places.specs.Given.ScenesHeld.{Held, IsAt}
use Rattle.run_places.specs.Given.ScenesScene.{Scene, slot_of}
use Rattle.run_places.specs.Given.ScenesStepping.{StepLeads, has_ended}

module _ {K V : Type 0} (same : K → K → Bool) (hash : ℕ → K → ℕ) (name : ℕ → List ℕ) (m : Moment K V) (known : Known) (s : Scene K V) (old new : Held K V) (at_old : IsAt same hash old s)
    (shown : Refines same name m known s) (map i : ℕ) (x : CallOnKey K V K) (under_way : s.calls map i ≡ Some (OnKey x)) (said : Progress (Node K V)) (leads : StepLeads same hash i said s old new)
    (notes : NotesOfCall known x.call.stands) (no_row : IsRowOfCall x.call.stands → ⊥)
    (own : OfNoRow same hash name m known s old new at_old shown map i (OnKey x) under_way said leads (OnKey x) (went_to same hash name m known s old new at_old shown map i (OnKey x) under_way said leads).4.did) where
  abbrev to : WentTo same hash name m known s old new at_old shown map i (OnKey x) under_way said leads
  to = went_to same hash name m known s old new at_old shown map i (OnKey x) under_way said leads

  abbrev st : Standing K
  st = to.0

  abbrev told : Changed
  told = new.changed

  abbrev effects : List Effect
  effects = effects_of (acts.Call i map) known told

  abbrev blocks : Blocks
  blocks = seen_by st.blocks (st.sights (slot_of i))

  abbrev Stepped : Calling → KeyCall K V K × Called (Node K V) → Type 0
  Stepped stands e = StepsObserved K V (KeyCall K V K × Called (Node K V)) old.memory changed.Nothing (plan_at same same to.0.hash x.call stands) new.memory told e

  inner : (e : KeyCall K V K × Called (Node K V)) × (◌≡◌ {A = Machine K V K × Progress (Node K V)} (to.1, said) (of_key e)) × Stepped x.call.stands e
  inner = told_in old.memory new.memory told of_key (call_plan same same to.0.hash x.call) (to.1, said) to.3

  abbrev Knows : Copier → Type 0
  Knows p = KnowsTables same st.hash s.world i (in_slot st.setting (slot_of i)) st.chart blocks p

  -- what its copier knows, by where the call stands
  abbrev KnowsOf : Calling → Type 0
  KnowsOf (at.Helps copier goal) = Knows copier
  KnowsOf (at.Copies copier) = Knows copier
  KnowsOf _ = Unit {0}

  fresh_of : (p : Calling) → CallingFacts same st.hash same s.world i (in_slot st.setting (slot_of i)) st.chart blocks x.keys x.change x.call p → KnowsOf p
  fresh_of (at.Helps copier goal) facts = fresh_knows same st.hash s.world i (in_slot st.setting (slot_of i)) st.chart blocks copier facts.6
  fresh_of (at.Copies copier) facts = blocking_knows same st.hash s.world i (in_slot st.setting (slot_of i)) st.chart blocks copier facts.2
  fresh_of _ facts = tt

  late_of : (p : Calling) → SupersededCalling same st.hash same s.world i (in_slot st.setting (slot_of i)) st.chart blocks x.keys x.began x.call p → KnowsOf p
  late_of (at.Copies copier) facts = late_knows same st.hash s.world i (in_slot st.setting (slot_of i)) st.chart blocks x.began copier facts.1
  late_of (at.Helps copier goal) facts = absurd facts
  late_of _ facts = tt

  knows : KnowsOf x.call.stands
  knows = elim ((each same hash name m known s old at_old shown map i st to.2 (OnKey x) under_way).stand i (OnKey x) under_way) as (λ _. KnowsOf x.call.stands) [
    | inl k ↦ elim (k.1.facts) as (λ _. KnowsOf x.call.stands) [
      | inl facts ↦ fresh_of x.call.stands facts.point
      | inr late ↦ late_of x.call.stands late.1.point
    ]
    | inr k ↦ absurd (no_row k.1)
  ]

  abbrev Goes : Type 0
  Goes = PendingGoes K V same hash m known s old new map i (OnKey x) said under_way leads

  -- its copier has taken the step, and it has come to this by that
  module _ (p : Copier) (its : Knows p) (row : IsRowOfCopier p.stands → ⊥) (before : in_hand_of_call known x.call.stands ≡ tables_in_hand known p p.stands) (noted : NotesTables known p p.stands)
      (other : is_promoting p.stands ≡ false → call_is_promoting x.call.stands ≡ false) (r : Copier × Yielding (Node K V) Table)
      (steps : StepsObserved K V (Copier × Yielding (Node K V) Table) old.memory changed.Nothing (copier_plan to.0.hash p) new.memory told r)
      (e : KeyCall K V K × Called (Node K V)) (is : inner.0 ≡ e) (came : KeyThen known r e) where
    machine_is : to.1 ≡ kinds.Key e.0
    machine_is = ap (λ (z : Machine K V K × Progress (Node K V)). z.0) inner.1 ∙ ap (λ (z : KeyCall K V K × Called (Node K V)). kinds.Key z.0) is

    said_is : said ≡ of_called e.1
    said_is = ap (λ (z : Machine K V K × Progress (Node K V)). z.1) inner.1 ∙ ap (λ (z : KeyCall K V K × Called (Node K V)). of_called z.1) is

    no_pair : (n : ℕ) → TakesPair effects n → ⊥
    no_pair n takes =
        (let it = calls_take_in_hand K V same hash name m known s old new at_old shown map i x under_way said leads own n takes in
        let machines : kinds.Key it.1 ≡ kinds.Key e.0 = sym it.2 ∙ machine_is in
        let one : it.1 ≡ e.0 = cc machines in
        let some : pair_in_calling e.0.stands ≡ Some it.3 = ap (λ (z : KeyCall K V K). pair_in_calling z.stands) (sym one) ∙ it.4 in
        let none = came.2 in cc (some, none))

    goes_so : Goes
    goes_so =
        copying_goes same hash name m known s old new at_old shown map i (OnKey x) under_way said leads
        (is_inside same hash name m known s old new at_old shown map i (OnKey x) under_way said leads) own p its row before noted r steps
        (λ has. (ap (in_hand known) machine_is ∙ (came.0 has).0, λ n. subst (NotesPending known) (sym machine_is) ((came.0 has).1 n)))
        (λ ended. ap (in_hand known) machine_is ∙ came.1 (ap has_ended (sym said_is) ∙ ended)) no_pair
        (λ no. no_promotion same hash name m known s old new at_old shown map i (OnKey x) under_way said leads (call_plan same same to.0.hash x.call) inner.0
        (spares_call same same to.0.hash x.call x.call.stands (other no) no_row) inner.2)

  goes_at : (stands : Calling) → x.call.stands ≡ stands → IsCopying stands → Goes
  goes_at (at.Helps copier goal) is copies =
      let d = told_in old.memory new.memory told (helped x.call goal) (copier_plan to.0.hash copier) inner.0 (subst (λ (z : Calling). Stepped z inner.0) is inner.2) in
      goes_so copier (subst KnowsOf is knows) (λ row. no_row (subst IsRowOfCall (sym is) row)) (ap (in_hand_of_call known) is) (subst (NotesOfCall known) is notes)
      (λ no. ap call_is_promoting is ∙ no) d.0 d.2 (helped x.call goal d.0) d.1 (helped_then known x.call goal d.0)
  goes_at (at.Copies copier) is copies =
      let d = told_in old.memory new.memory told (copied x.call) (copier_plan to.0.hash copier) inner.0 (subst (λ (z : Calling). Stepped z inner.0) is inner.2) in
      goes_so copier (subst KnowsOf is knows) (λ row. no_row (subst IsRowOfCall (sym is) row)) (ap (in_hand_of_call known) is) (subst (NotesOfCall known) is notes)
      (λ no. ap call_is_promoting is ∙ no) d.0 d.2 (copied x.call d.0) d.1 (copied_then known x.call d.0)
  goes_at _ is copies = absurd copies

  pub key_copies : IsCopying x.call.stands → Goes
  key_copies copies = goes_at x.call.stands refl copies
