-- A step of a sweep that is none of a row: what it has in hand goes with the effects of the step.
use Rattle.std.specs.Prelude.{◌≡◌, ℕ, ◌==◌, ◌&&◌, Bool, true, false, List, [], ◌∷◌, ◌++◌, Option, Some, None, Ok, Err, if◌then◌else◌}
use Rattle.std.proofs.Common.{refl, ap, sym, subst, ◌∙◌, inl, inr}
use Rattle.run_places.specs.Given.SeizeWordsOp.{Out, Found, Stored as StoredOut, Exchanged, Made, Taken, Roomed}
use Rattle.run_places.specs.Given.SeizeWordsWord.{block_in}
use Rattle.run_places.specs.Given.SeizeDeclared.rows.settle.Settled.{Settled}
use Rattle.run_places.specs.Given.SeizeDeclared.rows.settle.Settled.TheVariants as settled
use Rattle.run_places.specs.Given.TablesMarks.{has_mark}
use Rattle.run_places.specs.Given.TablesDeclared.marks.TheConstants.{COPYING}
use Rattle.run_places.specs.Given.TablesDeclared.node.Node.{Node}
use Rattle.run_places.specs.Given.ResizeCopier.{copier_plan}
use Rattle.run_places.specs.Given.ResizeCopierStates.{copying_all}
use Rattle.run_places.specs.Given.ResizeDispose.{dispose_plan}
use Rattle.run_places.specs.Given.ResizeDeclared.copier.Copier.{Copier}
use Rattle.run_places.specs.Given.ResizeDeclared.dispose.Dispose.{Dispose}
use Rattle.run_places.specs.Given.SweepsSweep as sweeps
use Rattle.run_places.specs.Given.SweepsSweep.{sweep_plan}
use Rattle.run_places.specs.Given.SweepsSweepPoints as points
use Rattle.run_places.specs.Given.ReservesDeclared.sweep.Purpose.{Purpose}
use Rattle.run_places.specs.Given.ReservesDeclared.sweep.Purpose.TheVariants.{Walks, Clears, Retains}
use Rattle.run_places.specs.Given.ReservesDeclared.sweep.Sweep.{Sweep}
use Rattle.run_places.specs.Given.ReservesDeclared.sweep.Sweeping.{Sweeping}
use Rattle.run_places.specs.Given.ReservesDeclared.sweep.Sweeping.TheVariants as sweeping
use Rattle.run_places.specs.Given.ReservesDeclared.sweep.Swept.{Swept}
use Rattle.run_places.specs.Given.ReservesDeclared.sweep.Swept.TheVariants as swept
use Rattle.run_places.specs.Given.RawMachine.{swept as of_sweep}
use Rattle.run_places.specs.Given.RawProgress.{of_swept}
use Rattle.run_places.specs.Given.RawDeclared.machines.machine.Machine.{Machine}
use Rattle.run_places.specs.Given.RawDeclared.machines.machine.Machine.TheVariants as kinds
use Rattle.run_places.specs.Given.RawDeclared.machines.progress.Progress.{Progress}
use Rattle.run_places.specs.Given.RunsDeclared.effect.Effect.{Effect}
use Rattle.run_places.specs.Given.RunsDeclared.effect.Effect.TheVariants as effect
use Rattle.run_places.specs.Given.RunsDeclared.effect.Thing.{Thing}
use Rattle.run_places.specs.Given.RunsDeclared.effect.Thing.TheVariants.{APair}
use Rattle.run_places.specs.Given.SchedulesMoment.{Moment}
use Rattle.run_places.specs.Given.TellerTells.{StepsObserved}
use Rattle.run_places.specs.Given.EffectsDeclared.changed.Changed.{Changed}
use Rattle.run_places.specs.Given.EffectsDeclared.changed.Changed.TheVariants as changed
use Rattle.run_places.specs.Given.RuleWords.{Blocks}
use Rattle.run_places.proofs.Given.RuleKeys.Always.{Always, AlwaysOf, always_if, always_steps}
use Rattle.owner_facts.specs.Given.LateFactsSweeps.{SweepingFacts}
use Rattle.owner_facts.specs.Given.LateToldSweeps.{IsRowOfSweep, OutcomeAgrees}
use Rattle.owner_facts.specs.Given.CallersOverAll.{CallOverAll}
use Rattle.owner_facts.specs.Given.CallersSights.{seen_by}
use Rattle.owner_facts.specs.Given.CallersTogether.{OverAll, in_slot, next_over_all}
use Rattle.run_places.specs.Given.EffectsEffects.{effects_of}
use Rattle.run_places.specs.Given.EffectsKnown.{Known}
use Rattle.run_places.specs.Given.EffectsDeclared.acting.Acting.TheVariants as acts
use Rattle.owner_facts.specs.Given.FinishesMaps.{Standing}
use Rattle.run_places.specs.Given.FollowsShows.{Refines}
use Rattle.run_places.proofs.Given.FollowsSteps.{WentTo, went_to, is_inside, DidSo, OfNoRow}
use Rattle.run_places.proofs.Given.OthersOutcomes.{told_in}
use Rattle.run_debts.specs.Counts.{counts_in_sweeping, is_to_count, shard_for}
use Rattle.run_debts.specs.Hand.{thing_as, things_at, in_hand_of_sweep, in_hand, IsPairRole, NotesPair, NotesOfSweep, NotesPending}
use Rattle.run_debts.specs.InHand.{TakesPair, pair_in_disposing, pair_in_sweeping}
use Rattle.run_debts.specs.Owed.{PendingGoes}
use Rattle.run_debts.specs.Owing.{AllLeave, ObligationsGo, KeepsOwed, TakesOut}
use Rattle.run_debts.proofs.CopierTables.{KnowsTables, whole_knows, late_knows}
use Rattle.run_debts.proofs.Gains.{AllApart, CountGoes, KeepsCount, AddsOne, GivesWay, TakesOne, CountsAll}
use Rattle.run_debts.proofs.Hand.Asked.{NoneOfSweep, sweeps_apart, further_none}
use Rattle.run_debts.proofs.Hand.Copies.{copying_goes, entering_none, sweep_then}
use Rattle.run_debts.proofs.Hand.Rooms.{begins_none}
use Rattle.run_debts.proofs.Held.{always_turned, IsDone, dispose_done, sweeps_take_in_hand, sweeps_hold_theirs}
use Rattle.run_debts.proofs.Here.{each}
use Rattle.run_debts.proofs.Leaving.{shifts_take, no_promotion, leaves}
use Rattle.run_debts.proofs.Passed.{copier_none}
use Rattle.run_debts.proofs.Points.{IsNoTry, idle_step}
use Rattle.run_debts.proofs.Rest.{sweep_counts, sweep_shifts}
use Rattle.run_debts.proofs.Spares.{sweep_is_promoting, spares_sweep}
use Rattle.run_places.proofs.Given.ScenesTold.{as_step}
use Rattle.run_places.specs.Given.ScenesHeld.{Held, IsAt}
use Rattle.run_places.specs.Given.ScenesScene.{Scene, slot_of}
use Rattle.run_places.specs.Given.ScenesStepping.{StepLeads, has_ended}

-- by where it stands: it has a pair in hand; it copies; or it has nothing, and is not to count
data KindOf (p : Sweeping) : Type 0 where
  HasPair : (word : ℕ) → pair_in_sweeping p ≡ Some word → IsNoTry p → sweep_is_promoting p ≡ false → KindOf p
  HasDone : (d : Dispose) → p ≡ sweeping.Disposes d → pair_in_disposing d d.stands ≡ None → KindOf p
  ToCopy : (copier : Copier) → p ≡ sweeping.Copies copier → KindOf p
  IsEarly : counts_in_sweeping p ≡ false → sweep_is_promoting p ≡ false → ((known : Known) → NoneOfSweep known p) → ((copier : Copier) → p ≡ sweeping.Copies copier → ⊥)
      → ((d : Dispose) → p ≡ sweeping.Disposes d → ⊥) → KindOf p

kind_at : (p : Sweeping) → KindOf p
kind_at (sweeping.Counts removed) = HasPair removed refl tt refl
kind_at (sweeping.Copies copier) = ToCopy copier refl
kind_at (sweeping.Disposes d) = by (pair_in_disposing d d.stands) refl
  where
    by : (o : Option ℕ) → pair_in_disposing d d.stands ≡ o → KindOf (sweeping.Disposes d)
    by (Some word) e = HasPair word e tt refl
    by None e = HasDone d refl e
kind_at _ = IsEarly refl refl (λ known. (refl, tt)) (λ copier e. cc e) (λ d e. cc e)

module _ (known : Known) where
  -- where it has a pair in hand, that is all
  hand_of : (p : Sweeping) (word : ℕ) → pair_in_sweeping p ≡ Some word → in_hand_of_sweep known p ≡ thing_as (known.roles (block_in word))
  hand_of (sweeping.Copies copier) word e = absurd (cc e)
  hand_of p word e = ap (things_at known) e

  note_of : (p : Sweeping) (word : ℕ) → pair_in_sweeping p ≡ Some word → NotesOfSweep known p → IsPairRole (known.roles (block_in word))
  note_of (sweeping.Copies copier) word e notes = absurd (cc e)
  note_of p word e notes = subst (NotesPair known) e notes

  noted_of : (p : Sweeping) (word : ℕ) → pair_in_sweeping p ≡ Some word → IsPairRole (known.roles (block_in word)) → NotesOfSweep known p
  noted_of (sweeping.Copies copier) word e pair = absurd (cc e)
  noted_of p word e pair = subst (NotesPair known) (sym e) pair

  -- where a step of one leads that has nothing in hand: it has none, unless it is to count
  module _ (K V : Type 0) where
    abbrev NoneThen : Sweep × Swept (Node K V) → Type 0
    NoneThen e = counts_in_sweeping e.0.stands ≡ false → NoneOfSweep known e.0.stands

    either : (b : Bool) (x y : Sweep × Swept (Node K V)) → NoneThen x → NoneThen y → NoneThen (if b then x else y)
    either true x y f g = f
    either false x y f g = g

    module _ (c : Sweep) where
      pair_none : (purpose : Purpose) (word : ℕ) → NoneThen (points.at_pair purpose c word)
      pair_none Walks word = λ e. (refl, tt)
      pair_none Clears word = λ e. (refl, tt)
      pair_none Retains word = λ e. (refl, tt)

      seen_none : (word : ℕ) → NoneThen (points.seen c word)
      seen_none word =
          either (points.removes c.purpose && has_mark word COPYING) (points.telling (points.further (record c { met = true }))) _ (λ e. further_none known (record c { met = true }))
          (either (block_in word == 0) (points.telling (points.further c)) (points.at_pair c.purpose c word) (λ e. further_none known c) (pair_none c.purpose word))

      done_none : (q : Dispose × Settled (Node K V)) → IsDone K V q → NoneThen (sweeps.disposed c q)
      done_none (d, settled.Goes) e = absurd (cc e)
      done_none (d, settled.Waits) e = absurd (cc e)
      done_none (d, settled.Gave value) e = absurd (cc e)
      done_none (d, settled.Done) e = λ never. further_none known c

      module _ (self : NoneOfSweep known c.stands) where
        stays : NoneThen (c, swept.Goes)
        stays e = self

        root_none : (out : Out (Node K V)) → Always NoneThen (sweeps.root_read c out)
        root_none (Found root) = always_if NoneThen (root == 0) _ _ (λ e. sweeps_apart known (points.removes c.purpose) sweeping.Over sweeping.Ready (refl, tt) (refl, tt)) (λ value e. entering_none known c _)
        root_none StoredOut = stays
        root_none (Exchanged r) = stays
        root_none (Made r) = stays
        root_none (Taken value) = stays
        root_none (Roomed r) = stays

        next_none : (out : Out (Node K V)) → Always NoneThen (sweeps.next_read c out)
        next_none (Found link) =
            always_if NoneThen (link == 0) _ _ (λ e. sweeps_apart known (points.removes c.purpose) sweeping.Words sweeping.Ready (refl, tt) (refl, tt))
            (λ value e. copier_none known (copying_all c.setting c.table _) (copying_all c.setting c.table _).stands (begins_none c.setting c.table _))
        next_none StoredOut = stays
        next_none (Exchanged r) = stays
        next_none (Made r) = stays
        next_none (Taken value) = stays
        next_none (Roomed r) = stays

        word_none : (out : Out (Node K V)) → Always NoneThen (sweeps.word_found c out)
        word_none (Found word) = seen_none word
        word_none StoredOut = stays
        word_none (Exchanged r) = stays
        word_none (Made r) = stays
        word_none (Taken value) = stays
        word_none (Roomed r) = stays

        tried_none : (word : ℕ) (out : Out (Node K V)) → Always NoneThen (sweeps.tried c word out)
        tried_none word (Exchanged (Ok found)) = λ e. absurd (cc e)
        tried_none word (Exchanged (Err found)) = seen_none found
        tried_none word (Found found) = stays
        tried_none word StoredOut = stays
        tried_none word (Made r) = stays
        tried_none word (Taken value) = stays
        tried_none word (Roomed r) = stays

    none_at : (hash : K → ℕ) (c : Sweep) (stands : Sweeping) → c.stands ≡ stands → counts_in_sweeping stands ≡ false → NoneOfSweep known stands → ((copier : Copier) → stands ≡ sweeping.Copies copier → ⊥)
        → ((d : Dispose) → stands ≡ sweeping.Disposes d → ⊥) → AlwaysOf NoneThen (sweeps.plan_at hash c stands)
    none_at hash c sweeping.Reads is counts none copies disposes = root_none c (subst (NoneOfSweep known) (sym is) none)
    none_at hash c sweeping.Follows is counts none copies disposes = next_none c (subst (NoneOfSweep known) (sym is) none)
    none_at hash c (sweeping.Copies copier) is counts none copies disposes = absurd (copies copier refl)
    none_at hash c sweeping.Words is counts none copies disposes = word_none c (subst (NoneOfSweep known) (sym is) none)
    none_at hash c (sweeping.Tries word) is counts none copies disposes = tried_none c (subst (NoneOfSweep known) (sym is) none) word
    none_at hash c (sweeping.Counts removed) is counts none copies disposes = absurd (cc counts)
    none_at hash c (sweeping.Disposes d) is counts none copies disposes = absurd (disposes d refl)
    none_at hash c sweeping.Ready is counts none copies disposes = λ e. subst (NoneOfSweep known) (sym is) none
    none_at hash c (sweeping.Asks word) is counts none copies disposes = λ e. subst (NoneOfSweep known) (sym is) none
    none_at hash c sweeping.Over is counts none copies disposes = λ e. subst (NoneOfSweep known) (sym is) none
    none_at hash c (sweeping.Refused fault) is counts none copies disposes = λ e. subst (NoneOfSweep known) (sym is) none

module _ {K V : Type 0} (same : K → K → Bool) (hash : ℕ → K → ℕ) (name : ℕ → List ℕ) (m : Moment K V) (known : Known) (s : Scene K V) (old new : Held K V) (at_old : IsAt same hash old s)
    (shown : Refines same name m known s) (map i : ℕ) (x : CallOverAll) (under_way : s.calls map i ≡ Some (OverAll x)) (said : Progress (Node K V)) (leads : StepLeads same hash i said s old new)
    (notes : NotesOfSweep known x.sweep.stands) (no_row : IsRowOfSweep x.sweep.stands → ⊥)
    (own : OfNoRow same hash name m known s old new at_old shown map i (OverAll x) under_way said leads (OverAll x) (went_to same hash name m known s old new at_old shown map i (OverAll x) under_way said leads).4.did) where
  abbrev to : WentTo same hash name m known s old new at_old shown map i (OverAll x) under_way said leads
  to = went_to same hash name m known s old new at_old shown map i (OverAll x) under_way said leads

  abbrev st : Standing K
  st = to.0

  abbrev told : Changed
  told = new.changed

  abbrev effects : List Effect
  effects = effects_of (acts.Call i map) known told

  abbrev blocks : Blocks
  blocks = seen_by st.blocks (st.sights (slot_of i))

  abbrev Stepped : Sweeping → Sweep × Swept (Node K V) → Type 0
  Stepped stands e = StepsObserved K V (Sweep × Swept (Node K V)) old.memory changed.Nothing (sweeps.plan_at to.0.hash x.sweep stands) new.memory told e

  inner : (e : Sweep × Swept (Node K V)) × (◌≡◌ {A = Machine K V K × Progress (Node K V)} (to.1, said) (of_sweep e)) × Stepped x.sweep.stands e
  inner = told_in old.memory new.memory told of_sweep (sweep_plan to.0.hash x.sweep) (to.1, said) to.3

  machine_is : to.1 ≡ kinds.Sweep inner.0.0
  machine_is = ap (λ (z : Machine K V K × Progress (Node K V)). z.0) inner.1

  abbrev Knows : Copier → Type 0
  Knows p = KnowsTables same st.hash s.world i (in_slot st.setting (slot_of i)) st.chart blocks p

  abbrev KnowsOf : Sweeping → Type 0
  KnowsOf (sweeping.Copies copier) = Knows copier
  KnowsOf _ = Unit {0}

  knows_of : (p : Sweeping) → SweepingFacts same st.hash s.world i (in_slot st.setting (slot_of i)) st.chart blocks x.began x.sweep p → KnowsOf p
  knows_of (sweeping.Copies copier) facts = elim facts as (λ _. Knows copier) [
    | inl whole ↦ whole_knows same st.hash s.world i (in_slot st.setting (slot_of i)) st.chart blocks copier whole
    | inr late ↦ late_knows same st.hash s.world i (in_slot st.setting (slot_of i)) st.chart blocks x.began copier late.1
  ]
  knows_of _ facts = tt

  knows : KnowsOf x.sweep.stands
  knows = elim ((each same hash name m known s old at_old shown map i st to.2 (OverAll x) under_way).stand i (OverAll x) under_way) as (λ _. KnowsOf x.sweep.stands) [
    | inl k ↦ knows_of x.sweep.stands k.1.facts.point
    | inr k ↦ absurd (no_row k.1)
  ]

  abbrev Goal : Machine K V K → Type 0
  Goal machine = ObligationsGo m effects (in_hand_of_sweep known x.sweep.stands) (in_hand known machine) × NotesPending known machine

  abbrev Goes : Type 0
  Goes = PendingGoes K V same hash m known s old new map i (OverAll x) said under_way leads

  -- off a copying that promotes, and off a try, its effects leave what is owed
  none_taken : IsNoTry x.sweep.stands → (n : ℕ) → TakesPair effects n → ⊥
  none_taken apart = shifts_take effects (sweep_shifts same hash name m known s old new at_old shown map i (OverAll x) under_way said leads x refl to.4.did own apart)

  all_leave : ((n : ℕ) → TakesPair effects n → ⊥) → sweep_is_promoting x.sweep.stands ≡ false → AllLeave effects
  all_leave no_pair other =
      leaves same hash name m known s old new at_old shown map i (OverAll x) under_way said leads own no_pair
      (no_promotion same hash name m known s old new at_old shown map i (OverAll x) under_way said leads (sweep_plan to.0.hash x.sweep) inner.0 (spares_sweep K V to.0.hash x.sweep x.sweep.stands other no_row) inner.2)

  -- once it has ended it is over, and has nothing in hand
  ended_none : to.4.next ≡ None → in_hand known to.1 ≡ []
  ended_none none = by to.4.did own
    where
      over_none : (y : CallOverAll) (p p2 : Sweeping) (end : Swept (Node K V)) → OutcomeAgrees p p2 end → next_over_all {K = K} {V = V} {Q = K} y end ≡ None → in_hand_of_sweep known p2 ≡ []
      over_none y p p2 swept.Done tells e = ap (in_hand_of_sweep known) tells
      over_none y p p2 (swept.Refused fault) tells e = ap (in_hand_of_sweep known) tells
      over_none y p p2 _ tells e = absurd (cc e)

      by : (did : DidSo same hash name m known s old new at_old shown map i (OverAll x) under_way said leads (OverAll x))
          → OfNoRow same hash name m known s old new at_old shown map i (OverAll x) under_way said leads (OverAll x) did → in_hand known to.1 ≡ []
      by (p2, end, is, told_is, inl (step, moved)) first =
          ap (in_hand known) is ∙ over_none _ x.sweep.stands p2.stands end step.step.went.told.stands.tells (sym moved.2 ∙ none)
      by (p2, end, is, told_is, inr row) first = absurd first

  -- it has a pair in hand, and has it still
  some_goes : (word : ℕ) → pair_in_sweeping x.sweep.stands ≡ Some word → IsNoTry x.sweep.stands → sweep_is_promoting x.sweep.stands ≡ false → Goal to.1
  some_goes word e apart other =
      let held = sweeps_hold_theirs K V same hash name m known s old new at_old shown map i x under_way said leads own word e in
      let same_hand : in_hand_of_sweep known held.0.stands ≡ in_hand_of_sweep known x.sweep.stands =
      hand_of known held.0.stands held.2 held.3 ∙ ap (λ (b : ℕ). thing_as (known.roles b)) held.4 ∙ sym (hand_of known x.sweep.stands word e) in
      subst Goal (sym held.1) (
        KeepsOwed (all_leave (none_taken apart) other) same_hand,
        noted_of known held.0.stands held.2 held.3 (subst (λ (b : ℕ). IsPairRole (known.roles b)) (sym held.4) (note_of known x.sweep.stands word e notes)),
      )

  -- it has none, and has none then
  none_goes : in_hand_of_sweep known x.sweep.stands ≡ [] → AllLeave effects → NoneOfSweep known inner.0.0.stands → Goal to.1
  none_goes nothing all after = subst Goal (sym machine_is) (KeepsOwed all (after.0 ∙ sym nothing), after.1)

  as_stepped : (stands : Sweeping) → x.sweep.stands ≡ stands → (P : Sweep × Swept (Node K V) → Type 0) → AlwaysOf P (sweeps.plan_at to.0.hash x.sweep stands) → P inner.0
  as_stepped stands is P always =
      always_steps P old.memory new.memory (sweeps.plan_at to.0.hash x.sweep stands) inner.0 always
      (as_step old.memory changed.Nothing (sweeps.plan_at to.0.hash x.sweep stands) new.memory told inner.0 (subst (λ (z : Sweeping). Stepped z inner.0) is inner.2))

  done_goes : (d : Dispose) → x.sweep.stands ≡ sweeping.Disposes d → pair_in_disposing d d.stands ≡ None → Goal to.1
  done_goes d is e =
      let after = as_stepped (sweeping.Disposes d) is (NoneThen known K V)
      (always_turned (IsDone K V) (NoneThen known K V) (sweeps.disposed x.sweep) (done_none known K V x.sweep) (dispose_plan d)
      (dispose_done K V d d.stands (λ row. no_row (subst IsRowOfSweep (sym is) row)) e)) in
      let idle = is_idle (subst IsNoTry (sym is) tt) in
      none_goes (ap (in_hand_of_sweep known) is ∙ ap (things_at known) e) (all_leave (none_taken (subst IsNoTry (sym is) tt)) (ap sweep_is_promoting is)) (after idle)
    where
      is_idle : IsNoTry x.sweep.stands → counts_in_sweeping inner.0.0.stands ≡ false
      is_idle apart =
          idle_step K V x.sweep to.0.hash apart old.memory new.memory inner.0 (as_step old.memory changed.Nothing (sweep_plan to.0.hash x.sweep) new.memory told inner.0 inner.2)

  -- one that has nothing in hand, and copies no pairs: it has none then, or has removed a pair, and has that in hand
  early_goes : counts_in_sweeping x.sweep.stands ≡ false → sweep_is_promoting x.sweep.stands ≡ false → NoneOfSweep known x.sweep.stands
      → ((copier : Copier) → x.sweep.stands ≡ sweeping.Copies copier → ⊥) → ((d : Dispose) → x.sweep.stands ≡ sweeping.Disposes d → ⊥) → Goal to.1
  early_goes counts other nothing copies disposes =
      by (sweep_counts same hash name m known s old new at_old shown map i (OverAll x) under_way said leads x refl to.4.did (λ row. absurd (row own))).0
    where
      takes : (p : ℕ) → effects ≡ effect.Removed p ∷ [] → Goal to.1
      takes p are =
          let it = sweeps_take_in_hand K V same hash name m known s old new at_old shown map i x under_way said leads own p are in
          let hand : in_hand_of_sweep known it.0.stands ≡ in_hand_of_sweep known x.sweep.stands ++ APair p ∷ [] =
          ap (in_hand_of_sweep known) it.3 ∙ ap thing_as it.4 ∙ ap (λ (l : List Thing). l ++ APair p ∷ []) (sym nothing.0) in
          subst Goal (sym it.1) (TakesOut p are hand, subst (NotesOfSweep known) (sym it.3) (subst IsPairRole (sym it.4) tt))

      apart_takes : AllApart effects → (n : ℕ) → TakesPair effects n → ⊥
      apart_takes all n (inl are) = (let no = (subst AllApart are all).0 in cc no)
      apart_takes all n (inr (k, sp, are)) = (let no = (subst AllApart are all).1.0 in cc no)

      by : CountGoes ⊥ (shard_for i st.setting) effects (counts_in_sweeping x.sweep.stands) (is_to_count to.1) → Goal to.1
      by (KeepsCount all same_count) =
          let idle : counts_in_sweeping inner.0.0.stands ≡ false = sym (ap is_to_count machine_is) ∙ same_count ∙ counts in
          none_goes nothing.0 (all_leave (apart_takes all) other) (as_stepped x.sweep.stands refl (NoneThen known K V) (none_at known K V to.0.hash x.sweep x.sweep.stands refl counts nothing copies disposes) idle)
      by (AddsOne may n sp are is) = absurd may
      by (GivesWay may p n sp are is) = absurd may
      by (TakesOne p are is) = takes p are
      by (CountsAll are was is) = absurd (cc (was, counts))

  copies_goes : (copier : Copier) → x.sweep.stands ≡ sweeping.Copies copier → Goes
  copies_goes copier is =
      let d = told_in old.memory new.memory told (sweeps.copied x.sweep) (copier_plan to.0.hash copier) inner.0 (subst (λ (z : Sweeping). Stepped z inner.0) is inner.2) in
      let came = sweep_then known x.sweep d.0 in
      let machine : to.1 ≡ kinds.Sweep (sweeps.copied x.sweep d.0).0 = machine_is ∙ ap (λ (z : Sweep × Swept (Node K V)). kinds.Sweep z.0) d.1 in
      let says : said ≡ of_swept (sweeps.copied x.sweep d.0).1 =
      ap (λ (z : Machine K V K × Progress (Node K V)). z.1) inner.1 ∙ ap (λ (z : Sweep × Swept (Node K V)). of_swept z.1) d.1 in
      copying_goes same hash name m known s old new at_old shown map i (OverAll x) under_way said leads
      (is_inside same hash name m known s old new at_old shown map i (OverAll x) under_way said leads) own copier (subst KnowsOf is knows) (λ row. no_row (subst IsRowOfSweep (sym is) row))
      (ap (in_hand_of_sweep known) is) (subst (NotesOfSweep known) is notes) d.0 d.2
      (λ has. (ap (in_hand known) machine ∙ (came.0 has).0, λ n. subst (NotesPending known) (sym machine) ((came.0 has).1 n)))
      (λ ended. ap (in_hand known) machine ∙ came.1 (ap has_ended (sym says) ∙ ended)) (none_taken (subst IsNoTry (sym is) tt))
      (λ no. no_promotion same hash name m known s old new at_old shown map i (OverAll x) under_way said leads (sweep_plan to.0.hash x.sweep) inner.0
      (spares_sweep K V to.0.hash x.sweep x.sweep.stands (ap sweep_is_promoting is ∙ no) no_row) inner.2)

  of_goal : Goal to.1 → Goes
  of_goal goal = (goal.0, goal.1, ended_none)

  pub sweep_goes_on : Goes
  sweep_goes_on = by x.sweep.stands refl (kind_at x.sweep.stands)
    where
      by : (stands : Sweeping) → x.sweep.stands ≡ stands → KindOf stands → Goes
      by stands is (HasPair word e apart other) = of_goal (some_goes word (ap pair_in_sweeping is ∙ e) (subst IsNoTry (sym is) apart) (ap sweep_is_promoting is ∙ other))
      by stands is (HasDone d at e) = of_goal (done_goes d (is ∙ at) e)
      by stands is (ToCopy copier at) = copies_goes copier (is ∙ at)
      by stands is (IsEarly counts other nothing copies disposes) =
          of_goal (early_goes (ap counts_in_sweeping is ∙ counts) (ap sweep_is_promoting is ∙ other) (subst (NoneOfSweep known) (sym is) (nothing known))
          (λ copier at. copies copier (sym is ∙ at)) (λ d at. disposes d (sym is ∙ at)))
