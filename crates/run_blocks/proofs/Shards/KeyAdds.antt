-- What a step of a call on one key does to the words of counts: one that counts adds to its shard what it is to; another writes none of them, and is about to count
-- one more just if it has stored a pair, and one less just if it has removed one.
use Rattle.std.specs.Prelude.{◌≡◌, ◌==◌, ℕ, Bool, true, false, List, [], ◌∷◌, Some, None, if◌then◌else◌, ◌⊎◌}
use Rattle.std.proofs.Common.{refl, ap, sym, subst, ◌∙◌, inl, inr}
use Rattle.run_debts.specs.Given.SeizeWorld.{World}
use Rattle.run_debts.specs.Given.TablesChunks.{is_incremental}
use Rattle.run_debts.specs.Given.TablesDeclared.node.Node.{Node}
use Rattle.run_debts.specs.Given.TablesDeclared.setting.Setting.{Setting}
use Rattle.owner_calls.specs.Given.RawProgress.{of_called}
use Rattle.run_debts.specs.Given.RawDeclared.machines.answer.Called.{Called}
use Rattle.run_debts.specs.Given.RawDeclared.machines.answer.Called.TheVariants as called
use Rattle.run_debts.specs.Given.RawDeclared.machines.call.Calling.{Calling}
use Rattle.run_debts.specs.Given.RawDeclared.machines.call.Calling.TheVariants as at
use Rattle.run_debts.specs.Given.RawDeclared.machines.call.KeyCall.{KeyCall}
use Rattle.run_debts.specs.Given.RawDeclared.machines.machine.Machine.TheVariants as kinds
use Rattle.run_debts.specs.Given.RawDeclared.machines.progress.Progress.{Progress}
use Rattle.run_debts.specs.Given.RunsDeclared.effect.Effect.{Effect}
use Rattle.run_debts.specs.Given.RunsDeclared.effect.Effect.TheVariants as effect
use Rattle.run_debts.specs.Given.RunsDeclared.effect.Spot.{Spot}
use Rattle.run_debts.specs.Given.SchedulesMoment.{Moment}
use Rattle.owner_calls.specs.Given.RuleChart.{Chart}
use Rattle.owner_calls.specs.Given.RuleWords.{Blocks}
use Rattle.owner_calls.specs.Given.PointsFactsCalls.{Change, Removed, CallingFacts}
use Rattle.owner_calls.specs.Given.PointsTold.{IsRowOfCall}
use Rattle.owner_calls.specs.Given.LateLateCalls.{SupersededCalling}
use Rattle.owner_calls.specs.Given.CallersSights.{seen_by}
use Rattle.owner_calls.specs.Given.CallersTogether.{CallOnKey, OnKey, IsAtPoint, change_observed, in_slot}
use Rattle.run_debts.specs.Given.EffectsEffects.{effects_of}
use Rattle.run_debts.specs.Given.EffectsKnown.{Known}
use Rattle.run_debts.specs.Given.EffectsDeclared.acting.Acting.TheVariants as acts
use Rattle.run_debts.specs.Given.FinishesEndings.{StepsWithEndings}
use Rattle.run_debts.specs.Given.FinishesMaps.{Standing}
use Rattle.run_debts.specs.Given.FollowsShows.{Refines}
use Rattle.run_debts.proofs.Given.FollowsSteps.{WentTo, went_to, DidSo}
use Rattle.run_debts.proofs.Given.HandsDone.{stepped, here}
use Rattle.run_debts.proofs.Given.ChangesWhich.{DidOnce, DidNone, DidStore, DidReplace, DidRemove}
use Rattle.run_blocks.specs.Shards.Adds.{adds_in_calling, adds_of}
use Rattle.run_debts.specs.Counts.{counts_in_calling, shard_for}
use Rattle.run_debts.specs.InHand.{pair_in_calling}
use Rattle.run_blocks.proofs.Shards.Adds.{adds_counts, adds_at, adds_none, Brings, StepAdds, AddsNone, AddsIts}
use Rattle.run_debts.proofs.Aimed.{CallsElsewhere}
use Rattle.run_debts.proofs.Fresh.{IsBefore, IsFresh}
use Rattle.run_debts.proofs.Gains.{CountGoes, KeepsCount, AddsOne, GivesWay, TakesOne, CountsAll}
use Rattle.run_debts.proofs.Keys.{Together2, change2, once, did, fresh, unchanged, nowhere, past, adds_now, counts_now, own_goes}
use Rattle.run_debts.proofs.Points.{IsBeyond}
use Rattle.run_debts.proofs.Status.{KindOf, ToCount, ToDispose, IsAtEnd, ToChange, kind_at, before_elsewhere, before_not, elsewhere_not, row_beyond}
use Rattle.run_debts.proofs.Taken.{key_takes}
use Rattle.run_debts.specs.Given.ScenesHeld.{Held, IsAt}
use Rattle.run_debts.specs.Given.ScenesScene.{Scene, slot_of}
use Rattle.run_debts.specs.Given.ScenesStepping.{StepLeads}

-- what it is to count is a pair that it has stored, where that is 0, or it has removed one
abbrev pub IsCounted : Change → ℕ → Type 0
IsCounted change removed = (removed ≡ 0) ⊎ ((n : ℕ) × (change ≡ Removed n))

module _ {K V : Type 0} (same : K → K → Bool) (hash : K → ℕ) (w : World (Node K V)) (i : ℕ) (setting : Setting) (c : Chart K) (seen : Blocks) (keys : K → Bool) where
  counted_at : (change : Change) (x : KeyCall K V K) (p : Calling) → CallingFacts same hash same w i setting c seen keys change x p → (removed : ℕ) → p ≡ at.Counts removed → IsCounted change removed
  counted_at change x (at.Counts r) facts removed is = subst (IsCounted change) (let one : r ≡ removed = cc is in one) its
    where
      its : IsCounted change r
      its = elim facts as (λ _. IsCounted change r) [
        | inl stored ↦ inl stored.0
        | inr gone ↦ inr (gone.0, gone.3)
      ]
  counted_at change x _ facts removed is = absurd (cc is)

  late_not : (began : ℕ) (x : KeyCall K V K) (p : Calling) → SupersededCalling same hash same w i setting c seen keys began x p → (removed : ℕ) → p ≡ at.Counts removed → ⊥
  late_not began x (at.Counts r) facts removed is = absurd facts
  late_not began x _ facts removed is = cc is

module _ {K V : Type 0} (same : K → K → Bool) (hash : K → ℕ) (setting : Setting) (slot : ℕ → ℕ) (w : World (Node K V)) (c : Chart K) (seen : Blocks) (i : ℕ) (x : CallOnKey K V K) where
  stands_counted : (removed : ℕ) → x.call.stands ≡ at.Counts removed → IsAtPoint V same hash same setting slot w c seen i (OnKey x) → IsCounted x.change removed
  stands_counted removed is stands = elim stands as (λ _. IsCounted x.change removed) [
    | inl k ↦ elim (k.1.facts) as (λ _. IsCounted x.change removed) [
      | inl facts ↦ counted_at same hash w i (in_slot setting (slot i)) c seen x.keys x.change x.call x.call.stands facts.point removed is
      | inr late ↦ absurd (late_not same hash w i (in_slot setting (slot i)) c seen x.keys x.began x.call x.call.stands late.1.point removed is)
    ]
    | inr k ↦ absurd (subst IsRowOfCall is k.1)
  ]

-- what a call that has not changed its map yet is to add is nothing
before_adds : (p : Calling) → IsBefore p → adds_in_calling p ≡ None
before_adds p before = adds_none p (before_not p before)

module _ {K V : Type 0} (same : K → K → Bool) (hash : ℕ → K → ℕ) (name : ℕ → List ℕ) (m : Moment K V) (known : Known) (s : Scene K V) (old new : Held K V) (at_old : IsAt same hash old s)
    (shown : Refines same name m known s) (map i : ℕ) (x : CallOnKey K V K) (under_way : s.calls map i ≡ Some (OnKey x)) (said : Progress (Node K V)) (leads : StepLeads same hash i said s old new) where
  abbrev to : WentTo same hash name m known s old new at_old shown map i (OnKey x) under_way said leads
  to = went_to same hash name m known s old new at_old shown map i (OnKey x) under_way said leads

  abbrev st : Standing K
  st = to.0

  abbrev effects : List Effect
  effects = effects_of (acts.Call i map) known new.changed

  abbrev shard : ℕ
  shard = shard_for i st.setting

  abbrev Does : Type 0
  Does = StepAdds (Unit {0}) known new.changed st.setting.counter shard effects (adds_in_calling x.call.stands) (adds_of to.1)

  module _ (p2 : KeyCall K V K) (end : Called (Node K V)) (machine_is : to.1 ≡ kinds.Key p2) (told_is : said ≡ of_called end) where
    after_is : adds_of to.1 ≡ adds_in_calling p2.stands
    after_is = ap adds_of machine_is

    -- it is about to count nothing then
    none_then : counts_in_calling p2.stands ≡ false → (removed : ℕ) → adds_of to.1 ≡ Some removed → Brings (Unit {0}) removed effects
    none_then never removed is = absurd (let counts = adds_counts p2.stands removed (sym after_is ∙ is) in cc (counts, never))

    spares : CallsElsewhere x.call.stands → IsBeyond x.call.stands → Does
    spares elsewhere beyond = AddsNone
        (nowhere same hash name m known s old new at_old shown map i x under_way said leads p2 end machine_is told_is elsewhere)
        (adds_none x.call.stands (elsewhere_not x.call.stands elsewhere))
        (none_then (past same hash name m known s old new at_old shown map i x under_way said leads p2 end machine_is told_is beyond))

    -- one of a row
    row_adds : IsRowOfCall x.call.stands → Does
    row_adds is_row = let it = row_beyond x.call.stands is_row in spares it.1 it.0

    module _ (step : StepsWithEndings V same same old.batch_size old.roots slot_of s.world s.maps s.calls s.makers s.enders map st i x new.memory p2 end) where
      abbrev Tog : Called (Node K V) → Type 0
      Tog = Together2 same hash name m known s old new at_old shown map i x under_way said leads p2 end machine_is told_is step

      abbrev Now : Change
      Now = change2 same hash name m known s old new at_old shown map i x under_way said leads p2 end machine_is told_is step

      module _ (removed : ℕ) (is : p2.stands ≡ at.Counts removed) where
        abbrev ChangedBy : (e : Called (Node K V)) → Tog e → Change
        ChangedBy e tog = change_observed V same st.hash same st.setting slot_of tog.went.told

        on : (e : Called (Node K V)) (tog : Tog e)
            → IsAtPoint V same st.hash same st.setting slot_of tog.went.w2 tog.went.c2 (seen_by tog.blocks2 (tog.sights2 (slot_of i))) i
            (OnKey (stepped same st.hash same st.setting slot_of s.world st.chart st.blocks st.sights (s.calls map) i x new.memory p2 e tog)) → IsCounted (ChangedBy e tog) removed
        on e tog stands =
            stands_counted same st.hash st.setting slot_of tog.went.w2 tog.went.c2 (seen_by tog.blocks2 (tog.sights2 (slot_of i))) i
            (stepped same st.hash same st.setting slot_of s.world st.chart st.blocks st.sights (s.calls map) i x new.memory p2 e tog) removed is stands

        never : counts_in_calling p2.stands ≡ false → ⊥
        never none = (let counts = ap counts_in_calling is in cc (counts, none))

        counted : (e : Called (Node K V)) (tog : Tog e) → IsFresh (p2, e) → IsCounted (ChangedBy e tog) removed
        counted called.Goes tog its =
            on called.Goes tog (tog.together.stand i _ (here same st.hash same st.setting slot_of s.world st.chart st.blocks st.sights (s.calls map) i x new.memory p2 called.Goes tog))
        counted called.Waits tog its =
            on called.Waits tog (tog.together.stand i _ (here same st.hash same st.setting slot_of s.world st.chart st.blocks st.sights (s.calls map) i x new.memory p2 called.Waits tog))
        counted (called.Gave value) tog its =
            on (called.Gave value) tog
            (tog.together.stand i _ (here same st.hash same st.setting slot_of s.world st.chart st.blocks st.sights (s.calls map) i x new.memory p2 (called.Gave value) tog))
        counted (called.Unstored value) tog its =
            on (called.Unstored value) tog
            (tog.together.stand i _ (here same st.hash same st.setting slot_of s.world st.chart st.blocks st.sights (s.calls map) i x new.memory p2 (called.Unstored value) tog))
        counted (called.Asks about) tog its =
            on (called.Asks about) tog
            (tog.together.stand i _ (here same st.hash same st.setting slot_of s.world st.chart st.blocks st.sights (s.calls map) i x new.memory p2 (called.Asks about) tog))
        counted (called.Done answer) tog its = absurd (never its.1)
        counted (called.Refused fault) tog its = absurd (never its)

        -- one that has stored a pair has removed none
        module _ (before : IsBefore x.call.stands) (n : ℕ) (sp : Spot) (are : effects ≡ effect.Stored n sp ∷ []) where
          not_gone : (k : ℕ) → Now ≡ Removed k → ⊥
          not_gone k gone = elim (once same hash name m known s old new at_old shown map i x under_way said leads p2 end machine_is told_is step) as (λ _. ⊥) [
            | inl kept ↦ (let un = unchanged same hash name m known s old new at_old shown map i x under_way said leads p2 end machine_is told_is step before in let same_change = kept.0 in cc (same_change, un, gone))
            | inr changes ↦ by (did same hash name m known s old new at_old shown map i x under_way said leads p2 end machine_is told_is step Now changes.1)
          ]
            where
              by : DidOnce same st.hash (is_incremental st.setting.mode) x.keys st.chart step.step.went.c2 (shown.number map) known.stored effects Now → ⊥
              by (DidNone e none) = cc (e, gone)
              by (DidStore sp2 are2 e absent comes) = cc (e, gone)
              by (DidReplace o sp2 are2 e pair comes) = cc (e, gone)
              by (DidRemove o are2 e pair) = cc (are, are2)

          stored_none : removed ≡ 0
          stored_none = elim (counted end step.step (fresh same hash name m known s old new at_old shown map i x under_way said leads p2 end machine_is told_is step before)) as (λ _. removed ≡ 0) [
            | inl zero ↦ zero
            | inr gone ↦ absurd (not_gone gone.0 gone.1)
          ]

        -- one that has removed a pair is to count that
        removed_some : (n : ℕ) → effects ≡ effect.Removed n ∷ [] → (removed == 0) ≡ false
        removed_some n are =
            let it = key_takes same hash name m known s old new at_old shown map i x under_way said leads p2 end machine_is told_is step n (inl are) in
            let same_call : it.1 ≡ p2 = (let theirs = it.2 in cc (theirs, machine_is)) in
            let in_hand : pair_in_calling (at.Counts removed) ≡ Some it.3 =
            ap pair_in_calling (sym is) ∙ ap (λ (z : KeyCall K V K). pair_in_calling z.stands) (sym same_call) ∙ it.4 in
            by (removed == 0) it.3 in_hand
          where
            by : (q : Bool) (word : ℕ) → (if q then None else Some removed) ≡ Some word → q ≡ false
            by true word e = absurd (cc e)
            by false word e = refl

      -- where it may change its map
      brings : IsBefore x.call.stands → (removed : ℕ) → p2.stands ≡ at.Counts removed → Brings (Unit {0}) removed effects
      brings before removed is =
          by (own_goes same hash name m known s old new at_old shown map i x under_way said leads p2 end machine_is told_is step) (before_not x.call.stands before) (ap counts_in_calling is)
        where
          by : CountGoes (Unit {0}) shard effects (counts_in_calling x.call.stands) (counts_in_calling p2.stands) → counts_in_calling x.call.stands ≡ false → counts_in_calling p2.stands ≡ true → Brings (Unit {0}) removed effects
          by (KeepsCount apart e) none some = absurd (cc (e, none, some))
          by (AddsOne may n sp are e) none some = inl (tt, stored_none removed is before n sp are, n, sp, are)
          by (GivesWay may p n sp are e) none some = absurd (cc (e, none, some))
          by (TakesOne n are e) none some = inr (removed_some removed is n are, n, are)
          by (CountsAll are e f) none some = absurd (cc (e, none))

      own_adds : Does
      own_adds = by (kind_at x.call.stands)
        where
          by : KindOf x.call.stands → Does
          by (ToCount removed stands) =
              let wrote = adds_now same hash name m known s old new at_old shown map i x under_way said leads p2 end machine_is told_is step removed stands in
              AddsIts removed wrote.0 wrote.1
              (counts_now same hash name m known s old new at_old shown map i x under_way said leads p2 end machine_is told_is step removed stands) (ap adds_in_calling stands)
              (after_is ∙ adds_none p2.stands (past same hash name m known s old new at_old shown map i x under_way said leads p2 end machine_is told_is (subst IsBeyond (sym stands) tt)))
          by (ToDispose dispose answer stands) = spares (subst CallsElsewhere (sym stands) tt) (subst IsBeyond (sym stands) tt)
          by (IsAtEnd e stands) = spares (subst CallsElsewhere (sym stands) tt) (subst IsBeyond (sym stands) tt)
          by (ToChange before) = AddsNone
              (nowhere same hash name m known s old new at_old shown map i x under_way said leads p2 end machine_is told_is (before_elsewhere x.call.stands before))
              (before_adds x.call.stands before) (λ removed is. brings before removed (adds_at p2.stands removed (sym after_is ∙ is)))

  pub key_adds : DidSo same hash name m known s old new at_old shown map i (OnKey x) under_way said leads (OnKey x) → Does
  key_adds (p2, end, machine_is, told_is, inl (step, moved)) = own_adds p2 end machine_is told_is step
  key_adds (p2, end, machine_is, told_is, inr (row, stayed)) = row_adds p2 end machine_is told_is row.is_row
