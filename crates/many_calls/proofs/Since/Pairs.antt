-- A step of a call keeps track of the pair that it was begun with.
use Rattle.std.specs.Prelude.{◌==◌, if◌then◌else◌, Option, Some}
use Rattle.std.proofs.Common.{◌≡◌, ◌≢◌, ℕ, ◌<◌, ◌≤◌, ◌/◌, ◌^◌, Bool, true, false, inl, inr, refl, sym, ap, subst, arith, ◌∙◌}
use Rattle.seize_model.specs.Given.SeizeWordsMem.{Can, Took, value_at, Mem}
use Rattle.seize_model.specs.Given.SeizeWordsPlan.{May, Steps}
use Rattle.seize_model.proofs.Given.SeizeWordsOneOwner.Operations.{made as made_by_step, taken}
use Rattle.seize_model.specs.Given.SeizeWorld.{World}
use Rattle.map_facts_late.specs.Given.TablesDeclared.marks.TheConstants.{TOMBSTONE}
use Rattle.map_facts_late.specs.Given.TablesDeclared.node.Node.{Node}
use Rattle.map_facts_late.specs.Given.TablesDeclared.node.Node.TheVariants as node
use Rattle.map_facts_late.specs.Given.TablesDeclared.setting.Setting.{Setting}
use Rattle.map_facts_late.specs.Given.ResizeDispose.{disposing, dispose_plan}
use Rattle.map_facts_late.specs.Given.ResizeDeclared.dispose.Dispose.{Dispose}
use Rattle.seize_model.specs.Given.SeizeDeclared.rows.settle.Settled.{Settled}
use Rattle.seize_model.specs.Given.SeizeDeclared.rows.settle.Settled.TheVariants as settled
use Rattle.map_facts_late.specs.Given.RawCall.{call_plan, plan_at, makes_of, made, drops, dropped, disposed}
use Rattle.map_facts_late.specs.Given.RawAnswers.{ended}
use Rattle.map_facts_late.specs.Given.RawCallPoints.{changed, counted, going, over}
use Rattle.map_facts_late.specs.Given.RawDeclared.machines.answer.Called.{Called}
use Rattle.map_facts_late.specs.Given.RawDeclared.machines.answer.Called.TheVariants as called
use Rattle.map_facts_late.specs.Given.RawDeclared.machines.answer.End.{End}
use Rattle.map_facts_late.specs.Given.RawDeclared.machines.answer.End.TheVariants as ends
use Rattle.map_facts_late.specs.Given.RawDeclared.machines.answer.KeyAnswer.{KeyAnswer}
use Rattle.map_facts_late.specs.Given.RawDeclared.machines.answer.KeyAnswer.TheVariants as answers
use Rattle.map_facts_late.specs.Given.RawDeclared.machines.call.KeyCall.{KeyCall}
use Rattle.map_facts_late.specs.Given.RawDeclared.machines.call.Calling.{Calling}
use Rattle.map_facts_late.specs.Given.RawDeclared.machines.call.Calling.TheVariants as at
use Rattle.map_facts_late.specs.Given.RuleChart.{Still, Holds, Chart}
use Rattle.map_facts_late.specs.Given.RuleWords.{Blocks, place_word, byte_of}
use Rattle.map_facts_late.specs.Given.RuleInWorld.{IsOut, IsMapIn, IsFramed, SameBlocks}
use Rattle.map_facts_late.proofs.Given.RuleWords.PlaceWords.{pair_block}
use Rattle.map_facts_late.proofs.Given.RuleWords.PlacesShown.{byte_of-few}
use Rattle.map_facts_late.specs.Given.PointsFactsCalls.{Change, Unchanged, Stored, Replaced, Removed, IsOwnPair, Seeks, AnswersChange, CallingFacts, CallFacts}
use Rattle.map_facts_late.specs.Given.PointsTold.{HasAnswered, IsRowOfCall, CallFactsAfter, CallOutcome}
use Rattle.map_facts_late.proofs.Given.RuleKeys.Always.{always_plan_as, always_steps}
use Rattle.map_facts_late.proofs.Given.PointsCalls.Probes.{own_block, own_value}
use Rattle.map_facts_late.proofs.Given.PointsValues.Kept.{SameValues}
use Rattle.map_facts_late.proofs.Given.PointsValues.Left.{made_here}
use Rattle.map_facts_late.proofs.Given.PointsCalls.Holdings.{never_asks}
use Rattle.map_facts_late.proofs.Values.Never.{never_fills}
use Rattle.map_facts_late.proofs.Given.PointsValues.Sought.{IsSought, IsAhead, kept_of, GoesSeeking, IsLook}
use Rattle.map_facts_late.specs.Given.RawDeclared.machines.asking.Replies.{Replies}
use Rattle.map_facts_late.specs.Given.RawDeclared.machines.asking.Takes.TheVariants as takes
use Rattle.map_facts_late.proofs.Values.Seeks.{HasNoneOr, sought_own, look_unchanged}
use Rattle.map_facts_late.proofs.Given.PointsValues.Own.{IsDropping, NoneMoved, SeeksOn, seeks_on}
use Rattle.many_calls.specs.Pairs.{IsItsPair, StoresIt, HasIt, KeepsIt}

-- it hands no pair back
abbrev HandsNone : {K V Q : Type 0} → KeyCall K V Q × Called (Node K V) → Type 0
HandsNone (q, called.Unstored value) = ⊥
HandsNone _ = Unit {0}

-- nor does a call that has changed the map
module _ {K V Q : Type 0} (p : KeyCall K V Q) where
  counted_none : (removed : ℕ) → HandsNone (counted p removed)
  counted_none removed = by (removed == 0)
    where
      by : (b : Bool) → HandsNone (if b then over p (ends.Answered (answers.Stored p.own)) else going p (at.Disposes (disposing p.setting removed p.trial.table) (answers.Removed removed)))
      by true = tt
      by false = tt

  disposed_none : (answer : KeyAnswer) (e : Dispose × Settled (Node K V)) → HandsNone (disposed p answer e)
  disposed_none answer (d, settled.Goes) = tt
  disposed_none answer (d, settled.Waits) = tt
  disposed_none answer (d, settled.Gave value) = tt
  disposed_none answer (d, settled.Done) = tt

-- where a step leads
abbrev pub KeepsTo : {K V Q : Type 0} → Mem (Node K V) → Chart K → Blocks → Option (Node K V) → Change → KeyCall K V Q → Called (Node K V) → Type 0
KeepsTo m c blocks pair change p (called.Done answer) = StoresIt m c blocks pair change
KeepsTo m c blocks pair change p (called.Refused fault) = Unit {0}
KeepsTo m c blocks pair change p (called.Gave value) = Unit {0}
KeepsTo m c blocks pair change p (called.Unstored value) = KeepsIt m c blocks pair change p p.stands × (pair ≡ Some value)
KeepsTo m c blocks pair change p _ = KeepsIt m c blocks pair change p p.stands

module _ {K V Q : Type 0} (same : K → K → Bool) (hash : K → ℕ) (setting : Setting) (caller : ℕ) (asks : Q → K → Bool) (w w2 : World (Node K V)) (c c2 : Chart K) (blocks blocks2 : Blocks)
    (map : IsMapIn same hash setting w c blocks) (map2 : IsMapIn same hash setting w2 c2 blocks2) (blocks_same : SameBlocks c blocks blocks2) (stored : c.stored ≤ c2.stored)
    (frame : IsFramed setting caller w c blocks w2.memory) (fits : (k : K) → hash k < 2 ^ 64) (keys : K → Bool) (pair : Option (Node K V)) (change : Change) (p : KeyCall K V Q) where
  -- a pair of the map keeps its value
  pub its_pair_on : (n : ℕ) → IsItsPair w.memory c blocks pair n → IsItsPair w2.memory c2 blocks2 pair n
  its_pair_on n h =
      let here = blocks_same.pairs n h.0 h.1 in
      let is = map.map.shows.pairs n h.0 h.1 in (
        (let l = h.0 in omega (arith, l, stored)),
        here.1,
        ap (value_at w2.memory) here.0 ∙ frame.values (blocks.pair n) _ is.2 (λ making. absurd (subst IsOut making.0 (map.pairs_out n h.0 h.1))) ∙ sym is.2 ∙ h.2,
      )

  pub stored_on : (x : Change) → StoresIt w.memory c blocks pair x → StoresIt w2.memory c2 blocks2 pair x
  stored_on Unchanged h = h
  stored_on (Stored n) h = its_pair_on n h
  stored_on (Replaced o n) h = its_pair_on n h
  stored_on (Removed o) h = h

  module _ (p2 : KeyCall K V Q) (change2 : Change) where
    abbrev Keeps2 : Calling → Type 0
    Keeps2 stands = KeepsIt w2.memory c2 blocks2 pair change2 p2 stands

    abbrev Changed : Type 0
    Changed = change2 ≢ Unchanged

    -- once it has changed the map
    past : (stands : Calling) → (Seeks same hash asks w2 caller setting c2 blocks2 keys change2 stands → change2 ≡ Unchanged) → Changed → StoresIt w2.memory c2 blocks2 pair change2 → Keeps2 stands
    past at.Makes seeks other h = absurd (other (seeks tt))
    past (at.Looks l) seeks other h = absurd (other (seeks tt))
    past at.Roots seeks other h = absurd (other (seeks tt))
    past at.Probes seeks other h = absurd (other (seeks tt))
    past (at.Tries word new) seeks other h = absurd (other (seeks tt))
    past (at.Counts removed) seeks other h = h
    past at.Nexts seeks other h = absurd (other (seeks tt))
    past (at.Firsts making) seeks other h = absurd (other (seeks tt))
    past (at.Allocs making) seeks other h = absurd (other (seeks tt))
    past (at.Helps copier goal) seeks other h = absurd (other (seeks tt))
    past (at.Copies copier) seeks other h = absurd (other (seeks tt))
    past (at.Disposes d answer) seeks other h = h
    past (at.Asks asking) seeks other h = absurd (other (seeks tt))
    past (at.Drops end) seeks other h = absurd (other (seeks tt))
    past (at.Over end) seeks other h = h

    -- while it seeks
    seeking : (stands : Calling) → IsSought stands → HasIt w2.memory c2 blocks2 pair p2.own → Keeps2 stands
    seeking at.Makes so h = absurd so
    seeking (at.Looks l) so h = h
    seeking at.Roots so h = h
    seeking at.Probes so h = h
    seeking (at.Tries word new) so h = h
    seeking (at.Counts removed) so h = absurd so
    seeking at.Nexts so h = h
    seeking (at.Firsts making) so h = h
    seeking (at.Allocs making) so h = h
    seeking (at.Helps copier goal) so h = h
    seeking (at.Copies copier) so h = h
    seeking (at.Disposes d answer) so h = absurd so
    seeking (at.Asks asking) so h = h
    seeking (at.Drops end) so h = h
    seeking (at.Over end) so h = absurd so

  its_own : (stands : Calling) → IsSought stands → KeepsIt w.memory c blocks pair change p stands → HasIt w.memory c blocks pair p.own
  its_own at.Makes so h = absurd so
  its_own (at.Looks l) so h = h
  its_own at.Roots so h = h
  its_own at.Probes so h = h
  its_own (at.Tries word new) so h = h
  its_own (at.Counts removed) so h = absurd so
  its_own at.Nexts so h = h
  its_own (at.Firsts making) so h = h
  its_own (at.Allocs making) so h = h
  its_own (at.Helps copier goal) so h = h
  its_own (at.Copies copier) so h = h
  its_own (at.Disposes d answer) so h = absurd so
  its_own (at.Asks asking) so h = h
  its_own (at.Drops end) so h = h
  its_own (at.Over end) so h = absurd so

  module _ (p2 : KeyCall K V Q) (progress : Called (Node K V)) (told : CallOutcome same hash asks caller setting keys c change p w2 c2 blocks2 p2 progress)
      (facts : CallFacts same hash asks w caller setting c blocks keys change p) (row : IsRowOfCall p.stands → ⊥)
      (may : May Can Took value_at w.memory (call_plan asks same hash p)) (steps : Steps Took value_at w.memory (call_plan asks same hash p) w2.memory (p2, progress))
      (never : p.replies.takes ≡ takes.Nothing) (keeps : KeepsIt w.memory c blocks pair change p p.stands) (looks : change ≡ Unchanged → (answer : KeyAnswer) → HasAnswered answer p.stands → IsLook answer) where
    abbrev To : KeyCall K V Q → Called (Node K V) → Type 0
    To = KeepsTo w2.memory c2 blocks2 pair told.change2

    abbrev After : KeyCall K V Q → Called (Node K V) → Type 0
    After = CallFactsAfter same hash asks caller setting keys w2 c2 blocks2 told.change2

    -- it had changed the map before
    module _ (other : change ≢ Unchanged) where
      same_change : told.change2 ≡ change
      same_change = elim told.changes [
        | inl kept ↦ kept.0
        | inr made ↦ absurd (other made.0)
      ]

      changed2 : told.change2 ≢ Unchanged
      changed2 e = other (sym same_change ∙ e)

      holds_it : (stands : Calling) → (Seeks same hash asks w caller setting c blocks keys change stands → change ≡ Unchanged) → KeepsIt w.memory c blocks pair change p stands → StoresIt w.memory c blocks pair change
      holds_it at.Makes seeks h = absurd (other (seeks tt))
      holds_it (at.Looks l) seeks h = absurd (other (seeks tt))
      holds_it at.Roots seeks h = absurd (other (seeks tt))
      holds_it at.Probes seeks h = absurd (other (seeks tt))
      holds_it (at.Tries word new) seeks h = absurd (other (seeks tt))
      holds_it (at.Counts removed) seeks h = h
      holds_it at.Nexts seeks h = absurd (other (seeks tt))
      holds_it (at.Firsts making) seeks h = absurd (other (seeks tt))
      holds_it (at.Allocs making) seeks h = absurd (other (seeks tt))
      holds_it (at.Helps copier goal) seeks h = absurd (other (seeks tt))
      holds_it (at.Copies copier) seeks h = absurd (other (seeks tt))
      holds_it (at.Disposes d answer) seeks h = h
      holds_it (at.Asks asking) seeks h = absurd (other (seeks tt))
      holds_it (at.Drops end) seeks h = absurd (other (seeks tt))
      holds_it (at.Over end) seeks h = h

      stores2 : StoresIt w2.memory c2 blocks2 pair told.change2
      stores2 = subst (StoresIt w2.memory c2 blocks2 pair) (sym same_change) (stored_on change (holds_it p.stands facts.unchanged keeps))

      hands_none : HandsNone (p2, progress)
      hands_none = by p.stands facts.unchanged facts.point steps
        where
          by : (stands : Calling) → (Seeks same hash asks w caller setting c blocks keys change stands → change ≡ Unchanged) → CallingFacts same hash asks w caller setting c blocks keys change p stands
              → Steps Took value_at w.memory (plan_at asks same hash p stands) w2.memory (p2, progress) → HandsNone (p2, progress)
          by (at.Counts removed) seeks k s = always_steps HandsNone w.memory w2.memory (plan_at asks same hash p (at.Counts removed)) (p2, progress) (λ out. counted_none p removed) s
          by (at.Disposes d answer) seeks k s =
              always_steps HandsNone w.memory w2.memory (plan_at asks same hash p (at.Disposes d answer)) (p2, progress)
              (always_plan_as HandsNone (disposed p answer) (disposed_none p answer) (dispose_plan d)) s
          by (at.Over end) seeks k s = absurd (other k)
          by _ seeks k s = absurd (other (seeks tt))

      past_on : (q : KeyCall K V Q) (x : Called (Node K V)) → HandsNone (q, x) → After q x → To q x
      past_on q called.Goes none f = past q told.change2 q.stands f.unchanged changed2 stores2
      past_on q called.Waits none f = past q told.change2 q.stands f.unchanged changed2 stores2
      past_on q (called.Gave value) none f = tt
      past_on q (called.Unstored value) none f = absurd none
      past_on q (called.Asks asked) none f = past q told.change2 q.stands f.unchanged changed2 stores2
      past_on q (called.Done answer) none f = stores2
      past_on q (called.Refused fault) none f = tt

      past_now : To p2 progress
      past_now = past_on p2 progress hands_none told.facts

    -- it has changed nothing so far
    module _ (none : change ≡ Unchanged) where
      -- nor now
      nothing : told.change2 ≡ Unchanged → StoresIt w2.memory c2 blocks2 pair told.change2
      nothing e = subst (StoresIt w2.memory c2 blocks2 pair) (sym e) tt

      answered : (q : KeyCall K V Q) (answer : KeyAnswer) → IsLook answer → After q (called.Done answer) → StoresIt w2.memory c2 blocks2 pair told.change2
      answered q answer look f = nothing (look_unchanged same hash asks w2 caller setting c2 blocks2 keys told.change2 answer look f.2)

      -- its own block
      its : (stands : Calling) → p.stands ≡ stands → KeepsIt w.memory c blocks pair change p stands
      its stands here = subst (KeepsIt w.memory c blocks pair change p) here keeps

      module _ (so : IsSought p.stands) where
        has : HasIt w.memory c blocks pair p.own
        has = its_own p.stands so keeps

        own_on : NoneMoved same hash asks w caller setting c blocks keys change p w2.memory (p2, progress) → (q : KeyCall K V Q) → q.own ≡ p.own → q.hash < 2 ^ 64
            → HasNoneOr same hash asks w2 caller setting c2 blocks2 keys told.change2 q.own q.hash → HasIt w2.memory c2 blocks2 pair q.own
        own_on unmoved q same_own few (inl z) = inl z
        own_on unmoved q same_own few (inr own) = elim has as (λ _. HasIt w2.memory c2 blocks2 pair q.own) [
          | inl z ↦ inl (same_own ∙ z)
          | inr is ↦ by is (sought_own same hash asks w caller setting c blocks keys change p p.stands so facts.point)
        ]
          where
            after : value_at w2.memory (q.own / 2048) ≡ Some (node.Pair own.key own.value)
            after = own_value same hash asks caller setting keys w2 c2 blocks2 told.change2 q.own q.hash few own

            by : value_at w.memory (p.own / 2048) ≡ pair → HasNoneOr same hash asks w caller setting c blocks keys change p.own p.hash → HasIt w2.memory c2 blocks2 pair q.own
            by is (inl z) = inl (same_own ∙ z)
            by is (inr first) =
                let before = own_value same hash asks caller setting keys w c blocks change p.own p.hash facts.code first in
                inr (after ∙ sym (ap Some (unmoved (p.own / 2048) _ _ before (ap (λ (x : ℕ). value_at w2.memory (x / 2048)) (sym same_own) ∙ after))) ∙ sym before ∙ is)

        goes_on : NoneMoved same hash asks w caller setting c blocks keys change p w2.memory (p2, progress) → (q : KeyCall K V Q) → kept_of q ≡ kept_of p → IsAhead q.stands
            → CallFacts same hash asks w2 caller setting c2 blocks2 keys told.change2 q → Keeps2 q told.change2 q.stands
        goes_on unmoved q kept ahead f =
            let still : q.replies.takes ≡ takes.Nothing = ap (λ (x : ℕ × Replies K V). x.1.takes) kept ∙ never in
            let seeks = never_fills same hash asks w2 caller setting c2 blocks2 keys told.change2 q f still q.stands f.point ahead in
            seeking q told.change2 q.stands seeks
            (own_on unmoved q (ap (λ (x : ℕ × Replies K V). x.0) kept) f.code (sought_own same hash asks w2 caller setting c2 blocks2 keys told.change2 q q.stands seeks f.point))

        goes : NoneMoved same hash asks w caller setting c blocks keys change p w2.memory (p2, progress) → (q : KeyCall K V Q) (x : Called (Node K V)) → GoesSeeking p (q, x) → After q x → To q x
        goes unmoved q called.Goes g f = goes_on unmoved q g.0 g.1 f
        goes unmoved q called.Waits g f = goes_on unmoved q g.0 g.1 f
        goes unmoved q (called.Gave value) g f = tt
        goes unmoved q (called.Unstored value) g f = absurd g.1
        goes unmoved q (called.Asks asked) g f = goes_on unmoved q g.0 g.1 f
        goes unmoved q (called.Done answer) g f = answered q answer g.1.1 f
        goes unmoved q (called.Refused fault) g f = tt

        -- it changes the map
        module _ (kept : SameValues w.memory w2.memory) where
          word_block : (n x : ℕ) → x ≡ place_word hash c2 blocks2 (Holds n Still false) → x / 2048 ≡ blocks2.pair n
          word_block n x is = ap (λ (y : ℕ). y / 2048) is ∙ pair_block blocks2.pair (λ o. byte_of hash (c2.key o)) n Still false (byte_of-few hash fits (c2.key n))

          here_it : (n x : ℕ) → n < c2.stored → blocks2.pair_known n ≡ true → x ≡ place_word hash c2 blocks2 (Holds n Still false) → x ≡ p.own → IsItsPair w2.memory c2 blocks2 pair n
          here_it n x was known is own = (
            was,
            known,
            elim has as (λ _. value_at w2.memory (blocks2.pair n) ≡ pair) [
              | inl z ↦ absurd (let b = word_block n x is in let some = (map2.map.shows.pair_numbers n was known).0 in omega (arith, own, z, b, some))
              | inr h ↦ ap (value_at w2.memory) (sym (word_block n x is) ∙ ap (λ (y : ℕ). y / 2048) own) ∙ kept (p.own / 2048) ∙ h
            ],
          )

          count_stores : (q : KeyCall K V Q) (removed : ℕ) → q.own ≡ p.own → CallingFacts same hash asks w2 caller setting c2 blocks2 keys told.change2 q (at.Counts removed)
              → StoresIt w2.memory c2 blocks2 pair told.change2
          count_stores q removed own (inl (zero_is, n, is, known, word)) = subst (StoresIt w2.memory c2 blocks2 pair) (sym is) (here_it n q.own known.0 known.1 word own)
          count_stores q removed own (inr h) = subst (StoresIt w2.memory c2 blocks2 pair) (sym h.3) tt

          replaced : (x : Change) (old new : ℕ) → new ≡ p.own → AnswersChange same hash asks w2 caller setting c2 blocks2 keys told.change2 x (answers.Replaced old new) → StoresIt w2.memory c2 blocks2 pair x
          replaced Unchanged old new own h = absurd h
          replaced (Stored n) old new own h = absurd h
          replaced (Replaced o n) old new own (first, known, borrowed, old_is, new_is) = here_it n new known.0 known.1 new_is own
          replaced (Removed o) old new own h = absurd h

          abbrev ChangedTo : KeyCall K V Q × Called (Node K V) → Type 0
          ChangedTo e = After e.0 e.1 → To e.0 e.1

          changed_to : (word new : ℕ) → ChangedTo (changed p word new)
          changed_to word new = by (new == TOMBSTONE) (word == 0)
            where
              by : (a b : Bool)
                  → ChangedTo (if a then going p (at.Counts word) else (if b then going p (at.Counts 0) else going p (at.Disposes (disposing p.setting word p.trial.table) (answers.Replaced word p.own))))
              by true b f = count_stores (record p { stands = at.Counts word }) word refl f.point
              by false true f = count_stores (record p { stands = at.Counts 0 }) 0 refl f.point
              by false false f = replaced told.change2 word p.own refl f.point.1

      abbrev Ending : KeyCall K V Q × Called (Node K V) → Type 0
      Ending e = After e.0 e.1 → To e.0 e.1

      over_to : (end : End) → p.stands ≡ at.Over end → After p (ended end) → To p (ended end)
      over_to (ends.Answered answer) here f = answered p answer (looks none answer (subst (HasAnswered answer) (sym here) refl)) f
      over_to (ends.Refused fault) here f = tt

      made_to : (k : K) (v : V) → p.unmade ≡ Some (node.Pair k v) → p.unmade ≡ pair → Steps Took value_at w.memory (makes_of p (Some (node.Pair k v))) w2.memory (p2, progress) → Ending (p2, progress)
      made_to k v is its_pair s =
          elim (made_by_step w.memory (made p) (node.Pair k v) 0 w2.memory (p2, progress) s) as (λ _. Ending (p2, progress)) [
            | inl (b, free, after, same_end) ↦ subst Ending (sym same_end) (λ f. inr (
                ap (value_at w2.memory) (let few = facts.code in let small = free.1 in omega (arith, few, small))
                ∙ made_here w.memory w2.memory (λ x. ⊥) (λ x. ⊥) (λ x. ⊥) (node.Pair k v) 0 b free.0 after ∙ sym is ∙ its_pair))
            | inr (back, same_value, after, same_end) ↦ subst Ending (sym same_end) (λ f. (nothing f.point, sym its_pair ∙ is ∙ ap Some (sym same_value)))
          ]

      -- it hands its own block's pair back
      hands_own : (value : Node K V) → value_at w.memory (p.own / 2048) ≡ Some value → IsOwnPair same hash asks w caller setting c blocks keys change p.own p.hash
          → HasIt w.memory c blocks pair p.own → pair ≡ Some value
      hands_own value there own (inl z) =
          let block = own_block same hash asks caller setting keys w c blocks change p.own p.hash facts.code own in let some = own.number.0 in absurd (omega (arith, z, block, some))
      hands_own value there own (inr is) = sym is ∙ there

      seek_to : (stands : Calling) → p.stands ≡ stands → IsSought stands → SeeksOn same hash asks w caller setting c blocks keys change p w2.memory (p2, progress) stands → Ending (p2, progress)
      seek_to stands here so (inl (g, unmoved)) f = goes (subst IsSought (sym here) so) unmoved p2 progress g f
      seek_to stands here so (inr (word, new, is, kept, same_end)) f = subst Ending (sym same_end) (changed_to (subst IsSought (sym here) so) kept word new) f

      sought_to : (stands : Calling) → p.stands ≡ stands → IsSought stands → (IsDropping stands → ⊥) → CallingFacts same hash asks w caller setting c blocks keys change p stands
          → (IsRowOfCall stands → ⊥) → May Can Took value_at w.memory (plan_at asks same hash p stands) → Steps Took value_at w.memory (plan_at asks same hash p stands) w2.memory (p2, progress)
          → Ending (p2, progress)
      sought_to stands here so drops k no_row m s = seek_to stands here so (seeks_on same hash asks w caller setting c blocks keys change p w2.memory (p2, progress) stands here so drops k no_row m s)

      by_point : (stands : Calling) → p.stands ≡ stands → CallingFacts same hash asks w caller setting c blocks keys change p stands → (IsRowOfCall stands → ⊥)
          → May Can Took value_at w.memory (plan_at asks same hash p stands) → Steps Took value_at w.memory (plan_at asks same hash p stands) w2.memory (p2, progress) → Ending (p2, progress)
      by_point at.Makes here k no_row m s =
          made_to k.3 k.4 k.5 (its at.Makes here) (subst (λ plan. Steps Took value_at w.memory plan w2.memory (p2, progress)) (ap (makes_of p) k.5) s)
      by_point (at.Looks l) here k no_row m s = sought_to (at.Looks l) here tt (λ z. z) k no_row m s
      by_point at.Roots here k no_row m s = sought_to at.Roots here tt (λ z. z) k no_row m s
      by_point at.Probes here k no_row m s = sought_to at.Probes here tt (λ z. z) k no_row m s
      by_point (at.Tries word new) here k no_row m s = sought_to (at.Tries word new) here tt (λ z. z) k no_row m s
      by_point (at.Counts removed) here (inl k) no_row m s = absurd (let e = sym k.2 ∙ none in cc e)
      by_point (at.Counts removed) here (inr k) no_row m s = absurd (let e = sym k.3 ∙ none in cc e)
      by_point at.Nexts here k no_row m s = sought_to at.Nexts here tt (λ z. z) k no_row m s
      by_point (at.Firsts making) here k no_row m s = sought_to (at.Firsts making) here tt (λ z. z) k no_row m s
      by_point (at.Allocs making) here k no_row m s = sought_to (at.Allocs making) here tt (λ z. z) k no_row m s
      by_point (at.Helps copier goal) here k no_row m s = sought_to (at.Helps copier goal) here tt (λ z. z) k no_row m s
      by_point (at.Copies copier) here k no_row m s = sought_to (at.Copies copier) here tt (λ z. z) k no_row m s
      by_point (at.Disposes d answer) here k no_row m s = absurd (subst (λ (x : Change). AnswersChange same hash asks w caller setting c blocks keys change x answer) none k.1)
      by_point (at.Asks asks_at) here k no_row m s = absurd (never_asks same hash asks caller setting keys w c blocks p facts.may.0 never asks_at change k)
      by_point (at.Drops end) here k no_row m s =
          let d = taken w.memory (dropped p end) (p.own / 2048) w2.memory (p2, progress) s in
          subst Ending (sym d.3) (λ f. (nothing f.point, hands_own d.0 d.1 k.1 (its (at.Drops end) here)))
      by_point (at.Over end) here k no_row m s = subst Ending (sym s.1) (over_to end here)

    pub keeps_after : To p2 progress
    keeps_after = by change refl
      where
        by : (x : Change) → change ≡ x → To p2 progress
        by Unchanged e = by_point e p.stands refl facts.point row may steps told.facts
        by (Stored n) e = past_now (λ z. let y = sym e ∙ z in cc y)
        by (Replaced o n) e = past_now (λ z. let y = sym e ∙ z in cc y)
        by (Removed o) e = past_now (λ z. let y = sym e ∙ z in cc y)
