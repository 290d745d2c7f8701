-- The block that a call on one key names as its own is in its hands, until the call has changed something; from then on it is a pair's.
use Rattle.std.specs.Prelude.{◌≡◌, ◌≢◌, ℕ, ◌+◌, ◌*◌, ◌<◌, ◌^◌, Bool, true, false, Option, Some, ◌⊎◌}
use Rattle.std.proofs.Common.{refl, ap, sym, ◌∙◌, arith, inl, inr}
use Rattle.run_debts.specs.Given.SeizeWordsMem.{value_at}
use Rattle.run_debts.specs.Given.SeizeWordsWord.{block_in, link_word}
use Rattle.run_debts.specs.Given.SeizeWorld.{World, Making}
use Rattle.run_debts.specs.Given.TablesDeclared.node.Node.{Node}
use Rattle.run_debts.specs.Given.TablesDeclared.node.Node.TheVariants as node
use Rattle.run_debts.specs.Given.TablesDeclared.setting.Setting.{Setting}
use Rattle.run_debts.specs.Given.TablesNodes.{vacant}
use Rattle.run_debts.specs.Given.RawDeclared.machines.answer.End.{End}
use Rattle.run_debts.specs.Given.RawDeclared.machines.answer.End.TheVariants as ends
use Rattle.run_debts.specs.Given.RawDeclared.machines.answer.KeyAnswer.{KeyAnswer}
use Rattle.run_debts.specs.Given.RawDeclared.machines.answer.KeyAnswer.TheVariants as answers
use Rattle.run_debts.specs.Given.RawDeclared.machines.asking.Asking.{Asking}
use Rattle.run_debts.specs.Given.RawDeclared.machines.asking.Asking.TheVariants as asking
use Rattle.run_debts.specs.Given.RawDeclared.machines.call.Calling.{Calling}
use Rattle.run_debts.specs.Given.RawDeclared.machines.call.Calling.TheVariants as at
use Rattle.run_debts.specs.Given.RawDeclared.machines.call.KeyCall.{KeyCall}
use Rattle.owner_calls.specs.Given.RuleChart.{Still, Holds, Chart}
use Rattle.owner_calls.specs.Given.RuleWords.{Blocks, byte_of, mark_bits, place_word}
use Rattle.owner_calls.proofs.Given.RuleLaws.{words_name_pairs, bytes_are_few}
use Rattle.owner_calls.specs.Given.PointsFactsCalls.{Holding, Apart, InBlock, ByReply, holding, Change, Unchanged, Stored, Replaced, Removed, IsOwnPair, IsVacant, HasOwn, HasIts, IsToFill, AnswersChange, AskingFacts, CallingFacts}
use Rattle.owner_calls.specs.Given.PointsSteps.{AreLawful}
use Rattle.owner_calls.specs.Given.PointsTold.{IsRowOfCall}
use Rattle.owner_calls.specs.Given.LateLateCalls.{SupersededAsking, SupersededCalling}
use Rattle.run_debts.specs.Given.CallersRows.{past_row, once_over}
use Rattle.owner_calls.specs.Given.CallersSince.{SoSince, Since}
use Rattle.owner_calls.specs.Given.CallersTogether.{CallOnKey, OnKey, in_slot, Knows, IsAtPoint}
use Rattle.run_debts.specs.Given.EffectsKnown.{Known}
use Rattle.run_debts.specs.Given.EffectsDeclared.role.Role.TheVariants as role
use Rattle.owner_calls.specs.Holds.Came.{AnswerNamesOwn, EndsOwn, OwnsAt, Owns}
use Rattle.owner_calls.proofs.Holds.Calls.Steps.{names_block}

-- a block is in this caller's hands, as a table or a pair to come, and not as the counter of a map
pub record IsInHand {K V : Type 0} (w : World (Node K V)) (i b : ℕ) : Type 0 where
  pub hand : w.hand b ≡ Making i
  pub value : Node K V
  pub is : value_at w.memory b ≡ Some value
  pub other : value ≢ node.Shards

-- the word of a pair is not zero
pair_word : (word block byte marks : ℕ) → 0 < block → word ≡ link_word block byte marks → word ≡ 0 → ⊥
pair_word word block byte marks some is none = absurd (let sum : word ≡ block * 2048 + byte * 8 + marks = is in omega (arith, some, sum, none))

module _ {K V : Type 0} (same : K → K → Bool) (hash : K → ℕ) (w : World (Node K V)) (i : ℕ) (setting : Setting) (c : Chart K) (seen : Blocks) (keys : K → Bool) where
  module _ (change : Change) (own code : ℕ) (few : code < 2 ^ 64) where
    pair_held : IsOwnPair same hash same w i setting c seen keys change own code → IsInHand w i (block_in own)
    pair_held h =
        let b : block_in own ≡ h.block = ap block_in h.word_is ∙ names_block h.block code few h.number.0 h.number.1 in
        record { hand = ap w.hand b ∙ h.hand; value = node.Pair h.key h.value; is = ap (value_at w.memory) b ∙ h.there; other = λ e. cc e }

    vacant_held : IsVacant same hash same w i setting c seen keys change own code → IsInHand w i (block_in own)
    vacant_held h =
        let b : block_in own ≡ h.block = ap block_in h.word_is ∙ names_block h.block code few h.number.0 h.number.1 in
        record { hand = ap w.hand b ∙ h.hand; value = vacant; is = ap (value_at w.memory) b ∙ h.there; other = λ e. cc e }

    own_held : own ≢ 0 → (x : Holding) (asked key : Option K) → HasOwn same hash same w i setting c seen keys change x asked key own code → IsInHand w i (block_in own)
    own_held some InBlock asked key has = pair_held has.2
    own_held some Apart asked key has = absurd (some has.0)
    own_held some ByReply asked key has = elim (has.1) as (λ _. IsInHand w i (block_in own)) [
      | inl none ↦ absurd (some none.0)
      | inr its ↦ pair_held its.1
    ]

  module _ (p : KeyCall K V K) (few : p.hash < 2 ^ 64) (some : p.own ≢ 0) where
    abbrev pub Its : Type 0
    Its = IsInHand w i (block_in p.own)

    its_held : (change : Change) → HasIts same hash same w i setting c seen keys change p → Its
    its_held change its = own_held change p.own p.hash few some (holding p.replies.takes p.missing) p.asked p.replies.key its

    fill_held : (change : Change) → IsToFill same hash same w i setting c seen keys change p → Its
    fill_held change fill = elim fill as (λ _. Its) [
      | inl its ↦ its_held change its
      | inr left ↦ vacant_held change p.own p.hash few left.1
    ]

    asking_held : (change : Change) (a : Asking) → AskingFacts same hash same w i setting c seen keys change p a → Its
    asking_held change (asking.Absent gap) facts = its_held change facts.0
    asking_held change (asking.Present word) facts = its_held change facts.0
    asking_held change (asking.Fills word) facts = fill_held change facts.0
    asking_held change (asking.GivesUp word) facts = its_held change facts.0

    late_asking_held : (began : ℕ) (a : Asking) → SupersededAsking same hash same w i setting c seen keys began p a → Its
    late_asking_held began (asking.Absent gap) facts = its_held Unchanged facts.0
    late_asking_held began (asking.Present word) facts = its_held Unchanged facts.0
    late_asking_held began (asking.Fills word) facts = fill_held Unchanged facts.0
    late_asking_held began (asking.GivesUp word) facts = its_held Unchanged facts.0

    late_held : (began : ℕ) (stands : Calling) → SupersededCalling same hash same w i setting c seen keys began p stands → Its
    late_held began (at.Looks l) facts = absurd (some facts.0)
    late_held began at.Probes facts = its_held Unchanged facts.0
    late_held began (at.Tries word new) facts = its_held Unchanged facts.0
    late_held began at.Nexts facts = its_held Unchanged facts.0
    late_held began (at.Firsts making) facts = its_held Unchanged facts.0
    late_held began (at.Allocs making) facts = its_held Unchanged facts.0
    late_held began (at.Copies copier) facts = its_held Unchanged facts.0
    late_held began (at.Asks a) facts = late_asking_held began a facts
    late_held began at.Makes facts = absurd facts
    late_held began at.Roots facts = absurd facts
    late_held began (at.Counts removed) facts = absurd facts
    late_held began (at.Helps copier goal) facts = absurd facts
    late_held began (at.Disposes d answer) facts = absurd facts
    late_held began (at.Drops end) facts = absurd facts
    late_held began (at.Over end) facts = absurd facts

    -- once the call has changed something, the block is that of a pair that it looks at
    module _ (lawful : AreLawful same hash) (known : Known) (number : ℕ → ℕ) (roles : (n : ℕ) → n < c.stored → seen.pair_known n ≡ true → known.roles (seen.pair n) ≡ role.Pair (number n))
        (pairs : (n : ℕ) → n < c.stored → seen.pair_known n ≡ true → 0 < seen.pair n) where
      abbrev pub IsAPair : Type 0
      IsAPair = (n : ℕ) × (known.roles (block_in p.own) ≡ role.Pair n)

      abbrev pub HeldOrPair : Type 0
      HeldOrPair = Its ⊎ IsAPair

      named_pair : (n : ℕ) (borrowed : Bool) → n < c.stored → seen.pair_known n ≡ true → p.own ≡ place_word hash c seen (Holds n Still borrowed) → IsAPair
      named_pair n borrowed l known_too is = (
        number n,
        ap known.roles (ap block_in is ∙ words_name_pairs seen.pair (λ z. byte_of hash (c.key z)) n Still borrowed (bytes_are_few hash lawful.fits (c.key n))) ∙ roles n l known_too,
      )

      counts_pair : (change : Change) (removed : ℕ) → CallingFacts same hash same w i setting c seen keys change p (at.Counts removed) → OwnsAt p (at.Counts removed) → IsAPair
      counts_pair change removed (inl (none, n, change_is, there, own_is)) owns = named_pair n false there.0 there.1 own_is
      counts_pair change removed (inr (n, t, borrowed, change_is, left, removed_is, table_is, more)) owns = elim owns as (λ _. IsAPair) [
        | inl zero_word ↦ absurd (pair_word removed (seen.pair n) (byte_of hash (c.key n)) (mark_bits Still borrowed) (pairs n left.0 left.1) removed_is zero_word)
        | inr none ↦ absurd (some none)
      ]

      pub disposes_pair : (x change : Change) (answer : KeyAnswer) → AnswersChange same hash same w i setting c seen keys x change answer → AnswerNamesOwn p.own answer → IsAPair
      disposes_pair x change answers.Absent tells own = absurd (some own)
      disposes_pair x change (answers.Found word) tells own = absurd (some own)
      disposes_pair x change (answers.Removed word) tells own = absurd (some own)
      disposes_pair x (Stored n) (answers.Stored word) tells own = named_pair n false tells.0.0 tells.0.1 (sym own ∙ tells.1)
      disposes_pair x Unchanged (answers.Stored word) tells own = absurd tells
      disposes_pair x (Replaced o n) (answers.Stored word) tells own = absurd tells
      disposes_pair x (Removed n) (answers.Stored word) tells own = absurd tells
      disposes_pair x (Replaced o n) (answers.Replaced before then_there) tells own = named_pair n false tells.1.0 tells.1.1 (sym own ∙ tells.4)
      disposes_pair x Unchanged (answers.Replaced before then_there) tells own = absurd tells
      disposes_pair x (Stored n) (answers.Replaced before then_there) tells own = absurd tells
      disposes_pair x (Removed n) (answers.Replaced before then_there) tells own = absurd tells

      module _ (began : ℕ) where
        -- it has ended without a change, and so without such a block
        pub answered_pair : (answer : KeyAnswer) → SoSince hash c seen keys began answer → AnswerNamesOwn p.own answer → IsAPair
        answered_pair answers.Absent so own = absurd (some own)
        answered_pair (answers.Found word) so own = absurd (some own)
        answered_pair (answers.Removed word) so own = absurd (some own)
        answered_pair (answers.Stored word) (time, from, until, never) own = absurd never
        answered_pair (answers.Replaced before then_there) (time, from, until, never) own = absurd never

        over_pair : (change : Change) (end : End) → change ≡ Unchanged → Since hash c seen keys began change (at.Over end) → EndsOwn p.own end → IsAPair
        over_pair change (ends.Answered answer) none since own = answered_pair answer (since.answered none answer refl) own
        over_pair change (ends.Refused fault) none since own = absurd (some own)

        point_held : (change : Change) (stands : Calling) → CallingFacts same hash same w i setting c seen keys change p stands → OwnsAt p stands → Since hash c seen keys began change stands → HeldOrPair
        point_held change at.Makes facts owns since = absurd (some facts.0)
        point_held change (at.Looks l) facts owns since = absurd (some facts.0)
        point_held change at.Roots facts owns since = inl (its_held change facts)
        point_held change at.Probes facts owns since = inl (its_held change facts.0)
        point_held change (at.Tries word new) facts owns since = inl (its_held change facts.0)
        point_held change at.Nexts facts owns since = inl (its_held change facts.0)
        point_held change (at.Firsts making) facts owns since = inl (its_held change facts.0)
        point_held change (at.Allocs making) facts owns since = inl (its_held change facts.0)
        point_held change (at.Helps copier goal) facts owns since = inl (its_held change facts.0)
        point_held change (at.Copies copier) facts owns since = inl (its_held change facts.0)
        point_held change (at.Asks a) facts owns since = inl (asking_held change a facts)
        point_held change (at.Drops end) facts owns since = inl (pair_held change p.own p.hash few facts.1)
        point_held change (at.Counts removed) facts owns since = inr (counts_pair change removed facts owns)
        point_held change (at.Disposes d answer) facts owns since = inr (disposes_pair change change answer facts.1 owns)
        point_held change (at.Over end) facts owns since = inr (over_pair change end facts since owns)

-- the row within it over, it has the same block
over_point : {K V : Type 0} (p : KeyCall K V K) (stands : Calling) → OwnsAt p stands → IsRowOfCall stands → OwnsAt (once_over p) (past_row stands)
over_point p (at.Disposes d answer) owns row = owns
over_point p (at.Helps copier goal) owns row = tt
over_point p (at.Copies copier) owns row = tt
over_point p at.Makes owns row = absurd row
over_point p (at.Looks l) owns row = absurd row
over_point p at.Roots owns row = absurd row
over_point p at.Probes owns row = absurd row
over_point p (at.Tries word new) owns row = absurd row
over_point p (at.Counts removed) owns row = absurd row
over_point p at.Nexts owns row = absurd row
over_point p (at.Firsts making) owns row = absurd row
over_point p (at.Allocs making) owns row = absurd row
over_point p (at.Asks a) owns row = absurd row
over_point p (at.Drops end) owns row = absurd row
over_point p (at.Over end) owns row = absurd row

owns_over : {K V : Type 0} (p : KeyCall K V K) → Owns p → IsRowOfCall p.stands → Owns (once_over p)
owns_over p o row = record { code = o.code; live = o.live; removes = o.removes; point = over_point p p.stands o.point row }

module _ {K V : Type 0} (same : K → K → Bool) (hash : K → ℕ) (setting : Setting) (slot : ℕ → ℕ) (w : World (Node K V)) (c : Chart K) (seen : Blocks) (i : ℕ) (u : CallOnKey K V K)
    (lawful : AreLawful same hash) (known : Known) (number : ℕ → ℕ) (roles : (n : ℕ) → n < c.stored → seen.pair_known n ≡ true → known.roles (seen.pair n) ≡ role.Pair (number n))
    (pairs : (n : ℕ) → n < c.stored → seen.pair_known n ≡ true → 0 < seen.pair n) where
  abbrev Held : ℕ → Type 0
  Held own = IsInHand w i (block_in own) ⊎ ((n : ℕ) × (known.roles (block_in own) ≡ role.Pair n))

  knows_held : (p : KeyCall K V K) → Owns p → p.own ≢ 0 → Knows V same hash same setting slot w c seen i u p → Held p.own
  knows_held p o some knows = elim (knows.facts) as (λ _. Held p.own) [
    | inl facts ↦
        point_held same hash w i (in_slot setting (slot i)) c seen u.keys p o.code some lawful known number roles pairs u.began u.change p.stands facts.point o.point knows.since
    | inr late ↦ inl (late_held same hash w i (in_slot setting (slot i)) c seen u.keys p o.code some u.began p.stands late.1.point)
  ]

  -- so it is wherever the call stands, within a row or not
  pub stands_held : Owns u.call → u.call.own ≢ 0 → IsAtPoint V same hash same setting slot w c seen i (OnKey u) → Held u.call.own
  stands_held o some stands = elim stands as (λ _. Held u.call.own) [
    | inl k ↦ knows_held u.call o some k.1
    | inr k ↦ knows_held (once_over u.call) (owns_over u.call o k.1) some k.2
  ]
