-- A call on one key that has just taken a pair out of its map has that in hand.
use Rattle.std.specs.Prelude.{◌≡◌, ℕ, ◌<◌, ◌==◌, Bool, true, false, List, [], flat_map, Some, None, if◌then◌else◌}
use Rattle.std.proofs.Common.{refl, ap, sym, subst, ◌∙◌, inl, inr, eqb-true}
use Rattle.run_places.specs.Given.SeizeWordsWord.{block_in}
use Rattle.run_places.specs.Given.SeizeWorld.{World}
use Rattle.owner_facts.proofs.Given.SeizeMemoryWords.Named.{link-block}
use Rattle.run_places.specs.Given.TablesChunks.{is_incremental}
use Rattle.run_places.specs.Given.TablesMarks.{link_in, has_mark}
use Rattle.run_places.specs.Given.TablesDeclared.marks.TheConstants.{BORROWED}
use Rattle.run_places.specs.Given.TablesDeclared.node.Node.{Node}
use Rattle.run_places.specs.Given.TablesDeclared.resize_mode.ResizeMode.{ResizeMode}
use Rattle.run_places.specs.Given.TablesDeclared.resize_mode.ResizeMode.TheVariants.{Incremental, Blocking}
use Rattle.run_places.specs.Given.TablesDeclared.setting.Setting.{Setting}
use Rattle.run_places.specs.Given.TablesDeclared.table.Table.{Table}
use Rattle.run_places.specs.Given.ResizeDispose.{start_of}
use Rattle.run_places.specs.Given.ResizeDeclared.dispose.Dispose.{Dispose}
use Rattle.run_places.specs.Given.RawDeclared.machines.answer.Called.{Called}
use Rattle.run_places.specs.Given.RawDeclared.machines.answer.Called.TheVariants as called
use Rattle.run_places.specs.Given.RawDeclared.machines.answer.KeyAnswer.TheVariants as answers
use Rattle.run_places.specs.Given.RawDeclared.machines.call.Calling.{Calling}
use Rattle.run_places.specs.Given.RawDeclared.machines.call.Calling.TheVariants as at
use Rattle.run_places.specs.Given.RawDeclared.machines.call.KeyCall.{KeyCall}
use Rattle.run_places.specs.Given.RawDeclared.machines.machine.Machine.TheVariants as kinds
use Rattle.run_places.specs.Given.RawDeclared.machines.progress.Progress.{Progress}
use Rattle.run_places.specs.Given.RawProgress.{of_called}
use Rattle.run_places.specs.Given.RunsDeclared.effect.Effect.{Effect}
use Rattle.run_places.specs.Given.SchedulesLinearizable.{shift_of}
use Rattle.run_places.specs.Given.SchedulesMoment.{Moment}
use Rattle.run_places.specs.Given.EffectsDeclared.changed.Changed.{Changed}
use Rattle.run_places.specs.Given.RuleChart.{Phase, Still, Holds, Chart}
use Rattle.run_places.specs.Given.RuleWords.{Blocks, byte_of, place_word}
use Rattle.run_places.proofs.Given.RuleLaws.{current_is_known, words_name_pairs, bytes_are_few}
use Rattle.owner_facts.specs.Given.PointsFactsCalls.{Change, Unchanged, Stored, Replaced, Removed, Seeks, AnswersChange, CallingFacts}
use Rattle.owner_facts.specs.Given.CallersRows.{past_row, once_over}
use Rattle.owner_facts.specs.Given.CallersSights.{seen_by}
use Rattle.owner_facts.specs.Given.CallersTogether.{CallOnKey, OnKey, IsAtPoint, change_observed, in_slot}
use Rattle.run_places.specs.Given.EffectsEffects.{effects_of}
use Rattle.run_places.specs.Given.EffectsKnown.{Known}
use Rattle.run_places.specs.Given.EffectsDeclared.acting.Acting.TheVariants as acts
use Rattle.run_places.specs.Given.EffectsDeclared.role.Role.TheVariants as role
use Rattle.owner_facts.specs.Given.FinishesEndings.{StepsWithEndings}
use Rattle.owner_facts.specs.Given.FinishesMaps.{Standing}
use Rattle.run_places.specs.Given.FollowsShows.{Refines}
use Rattle.run_places.proofs.Given.FollowsSteps.{WentTo, went_to, DidSo, OfNoRow}
use Rattle.run_places.proofs.Given.FollowsWrites.{nothing_free}
use Rattle.run_places.proofs.Hands.Done.{stepped, here}
use Rattle.run_places.proofs.Changes.Which.{DidOnce, DidNone, DidStore, DidReplace, DidRemove}
use Rattle.run_debts.specs.InHand.{pair_in_disposing, pair_in_calling, TakesPair, CallsTakePending}
use Rattle.run_debts.proofs.Fresh.{IsBefore, IsNewDisposal, IsFreshAt, IsFresh}
use Rattle.run_debts.proofs.Here.{each}
use Rattle.run_debts.proofs.Keys.{Together2, change2, once, did, none_moved, fresh, counts_now, disposing_tells, steps, SteppedAt}
use Rattle.run_debts.proofs.Status.{KindOf, ToCount, ToDispose, IsAtEnd, ToChange, kind_at, plain_tells, unchanged_tells}
use Rattle.run_places.specs.Given.ScenesHeld.{Held, IsAt}
use Rattle.run_places.specs.Given.ScenesScene.{Scene, slot_of}
use Rattle.run_places.specs.Given.ScenesStepping.{StepLeads}

-- the change takes this pair out
abbrev pub IsOut : ℕ → Change → Type 0
IsOut o (Replaced a n) = a ≡ o
IsOut o (Removed a) = a ≡ o
IsOut o _ = ⊥

-- the word is of the pair that it counts, or disposes of
abbrev pub Names : Calling → ℕ → Type 0
Names (at.Counts removed) word = removed ≡ word
Names (at.Disposes dispose answer) word = pair_in_disposing dispose dispose.stands ≡ Some word
Names _ word = ⊥

-- before its change a call has none in hand
before_none : (q : Calling) → IsBefore q → pair_in_calling q ≡ None
before_none (at.Counts removed) before = absurd before
before_none (at.Disposes dispose answer) before = absurd before
before_none _ before = refl

-- a disposal that begins is of the pair of its word
new_word : (setting : Setting) (mode : ResizeMode) (word : ℕ) (table : Table)
    → (let d : Dispose = record { setting = setting; pair = link_in word; table = table; stands = start_of setting mode word } in pair_in_disposing d d.stands ≡ Some (link_in word))
new_word setting (Incremental chunk) word table = by (has_mark word BORROWED) refl
  where
    by : (q : Bool) → has_mark word BORROWED ≡ q
        → (let d : Dispose = record { setting = setting; pair = link_in word; table = table; stands = start_of setting (Incremental chunk) word } in pair_in_disposing d d.stands ≡ Some (link_in word))
    by true e = rw e refl
    by false e = rw e refl
new_word setting Blocking word table = refl

pub disposal_word : (d : Dispose) (word : ℕ) → IsNewDisposal d word → pair_in_disposing d d.stands ≡ Some (link_in word)
disposal_word d word (setting, table, is) = subst (λ (x : Dispose). pair_in_disposing x x.stands ≡ Some (link_in word)) (sym is) (new_word setting setting.mode word table)

module _ {K V : Type 0} (same : K → K → Bool) (hash : K → ℕ) (w : World (Node K V)) (i : ℕ) (setting : Setting) (c : Chart K) (seen : Blocks) (keys : K → Bool)
    (few : (n : ℕ) (phase : Phase) (borrowed : Bool) → block_in (place_word hash c seen (Holds n phase borrowed)) ≡ seen.pair n) where
  abbrev pub HasTaken : ℕ → Calling → Type 0
  HasTaken o p = (word : ℕ) × Names p word × (block_in word ≡ seen.pair o)

  out_of : (change : Change) (old new o : ℕ) → AnswersChange same hash same w i setting c seen keys change change (answers.Replaced old new) → IsOut o change → block_in old ≡ seen.pair o
  out_of (Replaced a n) old new o tells out = ap block_in tells.3 ∙ few a Still tells.2 ∙ ap seen.pair out
  out_of Unchanged old new o tells out = absurd out
  out_of (Stored n) old new o tells out = absurd out
  out_of (Removed n) old new o tells out = absurd tells

  disposes_taken : (change : Change) (d : Dispose) (old new o : ℕ) → IsNewDisposal d old → AnswersChange same hash same w i setting c seen keys change change (answers.Replaced old new) → IsOut o change
      → HasTaken o (at.Disposes d (answers.Replaced old new))
  disposes_taken change d old new o fresh tells out = (link_in old, disposal_word d old fresh, link-block (block_in old) ∙ out_of change old new o tells out)

  taken_at : (change : Change) (x : KeyCall K V K) (p : Calling) → IsFreshAt p → (Seeks same hash same w i setting c seen keys change p → change ≡ Unchanged)
      → CallingFacts same hash same w i setting c seen keys change x p → (o : ℕ) → IsOut o change → HasTaken o p
  taken_at change x (at.Counts removed) is_fresh seeks facts o out = elim facts as (λ _. HasTaken o (at.Counts removed)) [
    | inl stored ↦ absurd (subst (IsOut o) stored.2 out)
    | inr gone ↦ (removed, refl, ap block_in gone.5 ∙ few gone.0 Still gone.2 ∙ ap seen.pair (subst (IsOut o) gone.3 out))
  ]
  taken_at change x (at.Disposes dispose (answers.Replaced old new)) is_fresh seeks facts o out = disposes_taken change dispose old new o is_fresh facts.1 out
  taken_at change x (at.Disposes dispose (answers.Found word)) is_fresh seeks facts o out = absurd is_fresh
  taken_at change x (at.Disposes dispose answers.Absent) is_fresh seeks facts o out = absurd is_fresh
  taken_at change x (at.Disposes dispose (answers.Stored word)) is_fresh seeks facts o out = absurd is_fresh
  taken_at change x (at.Disposes dispose (answers.Removed word)) is_fresh seeks facts o out = absurd is_fresh
  taken_at change x (at.Over end) is_fresh seeks facts o out = absurd (subst (IsOut o) facts out)
  taken_at change x _ is_fresh seeks facts o out = absurd (subst (IsOut o) (seeks tt) out)

  -- and where its row is under way
  taken_past : (change : Change) (x : KeyCall K V K) (p : Calling) → IsFreshAt p → (Seeks same hash same w i setting c seen keys change (past_row p) → change ≡ Unchanged)
      → CallingFacts same hash same w i setting c seen keys change x (past_row p) → (o : ℕ) → IsOut o change → HasTaken o p
  taken_past change x (at.Disposes dispose (answers.Replaced old new)) is_fresh seeks facts o out = disposes_taken change dispose old new o is_fresh facts.1 out
  taken_past change x (at.Disposes dispose (answers.Found word)) is_fresh seeks facts o out = absurd is_fresh
  taken_past change x (at.Disposes dispose answers.Absent) is_fresh seeks facts o out = absurd is_fresh
  taken_past change x (at.Disposes dispose (answers.Stored word)) is_fresh seeks facts o out = absurd is_fresh
  taken_past change x (at.Disposes dispose (answers.Removed word)) is_fresh seeks facts o out = absurd is_fresh
  taken_past change x (at.Helps copier goal) is_fresh seeks facts o out = absurd (subst (IsOut o) (seeks tt) out)
  taken_past change x (at.Copies copier) is_fresh seeks facts o out = absurd (subst (IsOut o) (seeks tt) out)
  taken_past change x p is_fresh seeks facts o out = taken_at change x p is_fresh seeks facts o out

module _ {K V : Type 0} (same : K → K → Bool) (hash : K → ℕ) (setting : Setting) (slot : ℕ → ℕ) (w : World (Node K V)) (c : Chart K) (seen : Blocks) (i : ℕ) (x : CallOnKey K V K)
    (few : (n : ℕ) (phase : Phase) (borrowed : Bool) → block_in (place_word hash c seen (Holds n phase borrowed)) ≡ seen.pair n) where
  abbrev Has : ℕ → Type 0
  Has o = HasTaken same hash w i (in_slot setting (slot i)) c seen x.keys few o x.call.stands

  pub stands_taken : IsFreshAt x.call.stands → IsAtPoint V same hash same setting slot w c seen i (OnKey x) → (o : ℕ) → IsOut o x.change → Has o
  stands_taken is_fresh stands o out = elim stands as (λ _. Has o) [
    | inl k ↦ elim (k.1.facts) as (λ _. Has o) [
      | inl facts ↦ taken_at same hash w i (in_slot setting (slot i)) c seen x.keys few x.change x.call x.call.stands is_fresh facts.unchanged facts.point o out
      | inr late ↦ absurd (subst (IsOut o) late.0 out)
    ]
    | inr k ↦ elim (k.2.facts) as (λ _. Has o) [
      | inl facts ↦ taken_past same hash w i (in_slot setting (slot i)) c seen x.keys few x.change (once_over x.call) x.call.stands is_fresh facts.unchanged facts.point o out
      | inr late ↦ absurd (subst (IsOut o) late.0 out)
    ]
  ]

module _ {K V : Type 0} (same : K → K → Bool) (hash : ℕ → K → ℕ) (name : ℕ → List ℕ) (m : Moment K V) (known : Known) (s : Scene K V) (old new : Held K V) (at_old : IsAt same hash old s)
    (shown : Refines same name m known s) (map i : ℕ) (x : CallOnKey K V K) (under_way : s.calls map i ≡ Some (OnKey x)) (said : Progress (Node K V)) (leads : StepLeads same hash i said s old new)
    (p2 : KeyCall K V K) (end : Called (Node K V)) where
  abbrev to : WentTo same hash name m known s old new at_old shown map i (OnKey x) under_way said leads
  to = went_to same hash name m known s old new at_old shown map i (OnKey x) under_way said leads

  abbrev st : Standing K
  st = to.0

  abbrev effects : List Effect
  effects = effects_of (acts.Call i map) known new.changed

  module _ (machine_is : to.1 ≡ kinds.Key p2) (told_is : said ≡ of_called end)
      (step : StepsWithEndings V same same old.batch_size old.roots slot_of s.world s.maps s.calls s.makers s.enders map st i x new.memory p2 end) where
    abbrev Tog : Called (Node K V) → Type 0
    Tog = Together2 same hash name m known s old new at_old shown map i x under_way said leads p2 end machine_is told_is step

    -- the word of a pair names its block, in whichever tables
    few : (c : Chart K) (seen : Blocks) (n : ℕ) (phase : Phase) (borrowed : Bool) → block_in (place_word st.hash c seen (Holds n phase borrowed)) ≡ seen.pair n
    few c seen n phase borrowed =
        words_name_pairs seen.pair (λ k. byte_of st.hash (c.key k)) n phase borrowed (bytes_are_few st.hash (at_old.together.makings.standing.fit map st to.2).0.fits (c.key n))

    module _ (e : Called (Node K V)) (tog : Tog e) where
      abbrev Standing2 : Type 0
      Standing2 = IsAtPoint V same st.hash same st.setting slot_of tog.went.w2 tog.went.c2 (seen_by tog.blocks2 (tog.sights2 (slot_of i))) i
          (OnKey (stepped same st.hash same st.setting slot_of s.world st.chart st.blocks st.sights (s.calls map) i x new.memory p2 e tog))

      on_taken : IsFreshAt p2.stands → Standing2 → (o : ℕ) → IsOut o (change_observed V same st.hash same st.setting slot_of tog.went.told) → (word : ℕ) × Names p2.stands word × (block_in word ≡ tog.blocks2.pair o)
      on_taken its stands o out =
          stands_taken same st.hash st.setting slot_of tog.went.w2 tog.went.c2 (seen_by tog.blocks2 (tog.sights2 (slot_of i))) i
          (stepped same st.hash same st.setting slot_of s.world st.chart st.blocks st.sights (s.calls map) i x new.memory p2 e tog)
          (few tog.went.c2 (seen_by tog.blocks2 (tog.sights2 (slot_of i)))) its stands o out

    abbrev HasIt : (e : Called (Node K V)) → Tog e → ℕ → Type 0
    HasIt e tog o = (word : ℕ) × Names p2.stands word × (block_in word ≡ tog.blocks2.pair o)

    abbrev Out : (e : Called (Node K V)) → Tog e → ℕ → Type 0
    Out e tog o = IsOut o (change_observed V same st.hash same st.setting slot_of tog.went.told)

    taken : (e : Called (Node K V)) (tog : Tog e) → IsFresh (p2, e) → (o : ℕ) → Out e tog o → HasIt e tog o
    taken called.Goes tog its o out =
        on_taken called.Goes tog its (tog.together.stand i _ (here same st.hash same st.setting slot_of s.world st.chart st.blocks st.sights (s.calls map) i x new.memory p2 called.Goes tog)) o out
    taken called.Waits tog its o out =
        on_taken called.Waits tog its (tog.together.stand i _ (here same st.hash same st.setting slot_of s.world st.chart st.blocks st.sights (s.calls map) i x new.memory p2 called.Waits tog)) o out
    taken (called.Gave value) tog its o out =
        on_taken (called.Gave value) tog its
        (tog.together.stand i _ (here same st.hash same st.setting slot_of s.world st.chart st.blocks st.sights (s.calls map) i x new.memory p2 (called.Gave value) tog)) o out
    taken (called.Unstored value) tog its o out =
        on_taken (called.Unstored value) tog its
        (tog.together.stand i _ (here same st.hash same st.setting slot_of s.world st.chart st.blocks st.sights (s.calls map) i x new.memory p2 (called.Unstored value) tog)) o out
    taken (called.Asks about) tog its o out =
        on_taken (called.Asks about) tog its
        (tog.together.stand i _ (here same st.hash same st.setting slot_of s.world st.chart st.blocks st.sights (s.calls map) i x new.memory p2 (called.Asks about) tog)) o out
    taken (called.Done answer) tog its o out = elim ((tog.answers answer refl).1) as (λ _. HasIt (called.Done answer) tog o) [
      | inl none ↦ absurd (subst (IsOut o) none.0 out)
      | inr has ↦ absurd (plain_tells same st.hash tog.went.w2 i (in_slot st.setting (slot_of i)) tog.went.c2 tog.went.blocks2 x.keys _ answer its.0 has.1)
    ]
    taken (called.Refused fault) tog its o out = absurd (subst (IsOut o) (tog.refuses fault refl).0 out)

    -- it is noted as that pair
    module _ (before : IsBefore x.call.stands) (k : ℕ) (current : st.chart.current k ≡ true)
        (out : Out end step.step k) where
      there : (k < st.chart.stored) × (st.blocks.pair_known k ≡ true)
      there =
          let its = each same hash name m known s old at_old shown map i st to.2 (OnKey x) under_way in
          current_is_known same st.hash st.setting s.world.memory st.chart st.blocks its.ground.map.map.rule its.ground.map.map.shows k current

      has : HasIt end step.step k
      has = taken end step.step (fresh same hash name m known s old new at_old shown map i x under_way said leads p2 end machine_is told_is step before) k out

      noted : known.roles (block_in has.0) ≡ role.Pair (shown.number map k)
      noted = ap known.roles (has.2 ∙ (step.step.grown.pairs k there.0).0) ∙ (shown.maps map st to.2).pairs.roles k there.0 there.1

      in_hand : (q : Calling) (word : ℕ) → Names q word → known.roles (block_in word) ≡ role.Pair (shown.number map k) → pair_in_calling q ≡ Some word
      in_hand (at.Counts removed) word names is = by (removed == 0) refl
        where
          by : (z : Bool) → (removed == 0) ≡ z → (if z then None else Some removed) ≡ Some word
          by false e = ap Some names
          by true e =
              let zero : word ≡ 0 = sym names ∙ eqb-true removed 0 e in
              let free = nothing_free s.world m.stored known shown.blocks.roles in
              absurd (let one : role.Free ≡ role.Pair (shown.number map k) = sym free ∙ ap (λ (z : ℕ). known.roles (block_in z)) (sym zero) ∙ is in cc one)
      in_hand (at.Disposes dispose answer) word names is = names
      in_hand _ word names is = absurd names

      pub takes_it : (word : ℕ) × (pair_in_calling p2.stands ≡ Some word) × (known.roles (block_in word) ≡ role.Pair (shown.number map k))
      takes_it = (has.0, in_hand p2.stands has.0 has.1 noted, noted)

    abbrev Goal : ℕ → Type 0
    Goal p = (pair_in_calling x.call.stands ≡ None) × (q : KeyCall K V K) × (to.1 ≡ kinds.Key q) × (word : ℕ) × (pair_in_calling q.stands ≡ Some word) × (known.roles (block_in word) ≡ role.Pair p)

    -- such effects say that a pair has gone
    goes_not : (p : ℕ) → TakesPair effects p → flat_map shift_of effects ≡ [] → ⊥
    goes_not p (inl are) none = absurd (let some = ap (λ (l : List Effect). flat_map shift_of l) are in cc (none, some))
    goes_not p (inr (n, sp, are)) none = absurd (let some = ap (λ (l : List Effect). flat_map shift_of l) are in cc (none, some))

    came : (before : IsBefore x.call.stands) (k p : ℕ) → st.chart.current k ≡ true → Out end step.step k → p ≡ shown.number map k → Goal p
    came before k p current out is =
        let it = takes_it before k current out in
        (before_none x.call.stands before, p2, machine_is, it.0, it.1, it.2 ∙ ap role.Pair (sym is))

    abbrev OutNow : Change
    OutNow = change2 same hash name m known s old new at_old shown map i x under_way said leads p2 end machine_is told_is step

    by_once : (before : IsBefore x.call.stands) (p : ℕ) → TakesPair effects p
        → DidOnce same st.hash (is_incremental st.setting.mode) x.keys st.chart step.step.went.c2 (shown.number map) known.stored effects OutNow → Goal p
    by_once before p takes (DidNone e none) = absurd (goes_not p takes none)
    by_once before p (inl was) (DidStore sp are e absent comes) = absurd (cc (was, are))
    by_once before p (inr (n, s2, was)) (DidStore sp are e absent comes) = absurd (cc (was, are))
    by_once before p (inl was) (DidReplace k sp are e pair comes) = absurd (cc (was, are))
    by_once before p (inr (n, s2, was)) (DidReplace k sp are e pair comes) =
        came before k p pair.0 (subst (IsOut k) (sym e) refl) (let same_effects = sym was ∙ are in cc same_effects)
    by_once before p (inl was) (DidRemove k are e pair) = came before k p pair.0 (subst (IsOut k) (sym e) refl) (let same_effects = sym was ∙ are in cc same_effects)
    by_once before p (inr (n, s2, was)) (DidRemove k are e pair) = absurd (cc (was, are))

    pub key_takes : (p : ℕ) → TakesPair effects p → Goal p
    key_takes p takes = by (kind_at x.call.stands)
      where
        by : KindOf x.call.stands → Goal p
        by (ToCount removed is) =
            let are = counts_now same hash name m known s old new at_old shown map i x under_way said leads p2 end machine_is told_is step removed is in
            absurd (goes_not p takes (ap (λ (l : List Effect). flat_map shift_of l) are))
        by (ToDispose dispose answer is) = elim (once same hash name m known s old new at_old shown map i x under_way said leads p2 end machine_is told_is step) as (λ _. Goal p) [
          | inl kept ↦ absurd (goes_not p takes (none_moved same hash name m known s old new at_old shown map i x under_way said leads p2 end machine_is told_is step kept.1))
          | inr changes ↦
              absurd (unchanged_tells same st.hash s.world i (in_slot st.setting (slot_of i)) st.chart (seen_by st.blocks (st.sights (slot_of i))) x.keys x.change answer changes.0
              (disposing_tells same hash name m known s old new at_old shown map i x under_way said leads p2 end machine_is told_is step dispose answer is))
        ]
        by (IsAtEnd e is) =
            let nothing = (subst (SteppedAt same hash name m known s old new at_old shown map i x under_way said leads p2 end machine_is told_is step) is
            (steps same hash name m known s old new at_old shown map i x under_way said leads p2 end machine_is told_is)).2 in
            absurd (goes_not p takes (ap (λ (t : Changed). flat_map shift_of (effects_of (acts.Call i map) known t)) nothing))
        by (ToChange before) = elim (once same hash name m known s old new at_old shown map i x under_way said leads p2 end machine_is told_is step) as (λ _. Goal p) [
          | inl kept ↦ absurd (goes_not p takes (none_moved same hash name m known s old new at_old shown map i x under_way said leads p2 end machine_is told_is step kept.1))
          | inr changes ↦ by_once before p takes (did same hash name m known s old new at_old shown map i x under_way said leads p2 end machine_is told_is step OutNow changes.1)
        ]

pub calls_take_in_hand : (K V : Type 0) (same : K → K → Bool) (hash : ℕ → K → ℕ) → CallsTakePending K V same hash
calls_take_in_hand K V same hash name m known s old new at_old shown map i x under_way said leads none p takes = by (went_to same hash name m known s old new at_old shown map i (OnKey x) under_way said leads).4.did none
  where
    by : (did_so : DidSo same hash name m known s old new at_old shown map i (OnKey x) under_way said leads (OnKey x)) → OfNoRow same hash name m known s old new at_old shown map i (OnKey x) under_way said leads (OnKey x) did_so
        → (pair_in_calling x.call.stands ≡ None)
        × (q : KeyCall K V K) × ((went_to same hash name m known s old new at_old shown map i (OnKey x) under_way said leads).1 ≡ kinds.Key q) × (word : ℕ) × (pair_in_calling q.stands ≡ Some word)
        × (known.roles (block_in word) ≡ role.Pair p)
    by (p2, end, machine_is, told_is, inl (step, moved)) none = key_takes same hash name m known s old new at_old shown map i x under_way said leads p2 end machine_is told_is step p takes
    by (p2, end, machine_is, told_is, inr row) none = absurd none
