-- What a step of a call on one key that has changed its map has stored: the pair that the call was begun with, or was told to store.
use Rattle.std.specs.Prelude.{◌≡◌, ℕ, ◌+◌, ◌*◌, ◌<◌, Bool, true, Option, Some, ◌⊎◌}
use Rattle.std.proofs.Common.{refl, sym, subst, arith, inl, inr}
use Rattle.run_shows.specs.Given.SeizeWordsMem.{Mem}
use Rattle.run_shows.specs.Given.SeizeWordsWord.{link_word}
use Rattle.run_shows.specs.Given.SeizeWorld.{World, IsInside, with_at}
use Rattle.run_shows.specs.Given.TablesDeclared.node.Node.{Node}
use Rattle.run_shows.specs.Given.TablesDeclared.setting.Setting.{Setting}
use Rattle.run_shows.specs.Given.RawDeclared.machines.answer.Called.{Called}
use Rattle.run_shows.specs.Given.RawDeclared.machines.answer.Called.TheVariants as called
use Rattle.run_shows.specs.Given.RawDeclared.machines.answer.KeyAnswer.{KeyAnswer}
use Rattle.run_shows.specs.Given.RawDeclared.machines.answer.KeyAnswer.TheVariants as answers
use Rattle.run_shows.specs.Given.RawDeclared.machines.call.KeyCall.{KeyCall}
use Rattle.run_shows.specs.Given.RawDeclared.machines.call.Calling.{Calling}
use Rattle.run_shows.specs.Given.RawDeclared.machines.call.Calling.TheVariants as at
use Rattle.run_shows.specs.Given.LateKinds as kinds
use Rattle.run_shows.specs.Given.RuleChart.{Still, Chart}
use Rattle.run_shows.specs.Given.RuleWords.{Blocks, byte_of, mark_bits}
use Rattle.run_shows.specs.Given.PointsFactsCalls.{Change, Unchanged, Stored, Replaced, Removed, Seeks, CallingFacts, AnswersChange}
use Rattle.run_shows.specs.Given.CallersKind.{Kind}
use Rattle.run_shows.specs.Given.CallersPairs.{Given, Begun, IsTold, kind_of, StoresGiven, KeepsGiven}
use Rattle.run_shows.specs.Given.CallersRows.{once_over}
use Rattle.run_shows.specs.Given.CallersSights.{Visible, seen_by}
use Rattle.run_shows.specs.Given.CallersTogether.{CallOnKey, UnderWay, OnKey, in_slot, Knows, IsAtPoint, change_observed, AnswersOnce, StepsTogether}
use Rattle.run_shows.proofs.Given.CallersTogether.At.{at_same}
use Rattle.run_places.proofs.Hands.Puts.{MayDo}

module _ {K V Q : Type 0} (same : K → K → Bool) (hash : K → ℕ) (asks : Q → K → Bool) (setting : Setting) (slot : ℕ → ℕ) (i : ℕ) (u : CallOnKey K V Q) where
  abbrev change : Change
  change = u.change

  -- it has changed nothing, or stored what it was begun with, or was told to, as a call of its kind may; the pair is in this block
  abbrev pub HasDone : World (Node K V) → Chart K → ℕ → ℕ → Type 0
  HasDone w c n b =
      (change ≡ Unchanged)
      ⊎ ((blocks : Blocks) × (blocks.pair n ≡ b) × MayDo (kind_of u.pair) change × StoresGiven hash w.memory c blocks u.pair change)

  tells_kind : (w : World (Node K V)) (c : Chart K) (seen : Blocks) (kind : Kind) (x : Change) (answer : KeyAnswer) → kinds.Fits kind.present kind.absent kind.takes answer
      → AnswersChange same hash asks w i (in_slot setting (slot i)) c seen u.keys change x answer → MayDo kind x
  tells_kind w c seen kind Unchanged answer fits tells = tt
  tells_kind w c seen kind (Removed n) (answers.Removed word) fits tells = fits
  tells_kind w c seen kind (Removed n) (answers.Found word) fits tells = absurd tells
  tells_kind w c seen kind (Removed n) answers.Absent fits tells = absurd tells
  tells_kind w c seen kind (Removed n) (answers.Stored word) fits tells = absurd tells
  tells_kind w c seen kind (Removed n) (answers.Replaced old new) fits tells = absurd tells
  tells_kind w c seen kind (Stored n) (answers.Stored word) fits tells = fits
  tells_kind w c seen kind (Stored n) (answers.Found word) fits tells = absurd tells
  tells_kind w c seen kind (Stored n) answers.Absent fits tells = absurd tells
  tells_kind w c seen kind (Stored n) (answers.Replaced old new) fits tells = absurd tells
  tells_kind w c seen kind (Stored n) (answers.Removed word) fits tells = absurd tells
  tells_kind w c seen kind (Replaced o n) (answers.Replaced old new) fits tells = fits
  tells_kind w c seen kind (Replaced o n) (answers.Stored word) fits tells = absurd tells
  tells_kind w c seen kind (Replaced o n) (answers.Found word) fits tells = absurd tells
  tells_kind w c seen kind (Replaced o n) answers.Absent fits tells = absurd tells
  tells_kind w c seen kind (Replaced o n) (answers.Removed word) fits tells = absurd tells

  counts_kind : (kind : Kind) (removed n : ℕ) → kinds.FitsCount kind.present kind.absent kind.takes removed → removed ≡ 0 → change ≡ Stored n → MayDo kind change
  counts_kind kind removed n fits none is = subst (MayDo kind) (sym is) (fits.0 none)

  -- the word of a pair is not zero
  removed_kind : (kind : Kind) (removed n block byte marks : ℕ) → kinds.FitsCount kind.present kind.absent kind.takes removed → change ≡ Removed n → 0 < block → removed ≡ link_word block byte marks
      → MayDo kind change
  removed_kind kind removed n block byte marks fits is some word = subst (MayDo kind) (sym is) (fits.1 (λ none. (let sum : removed ≡ block * 2048 + byte * 8 + marks = word in omega (arith, some, sum, none))))

  module _ (w : World (Node K V)) (c : Chart K) (seen : Blocks) (p : KeyCall K V Q) where
    abbrev pub Held : Type 0
    Held = (change ≡ Unchanged) ⊎ (MayDo (kind_of u.pair) change × StoresGiven hash w.memory c seen u.pair change)

    -- pairs that are seen have blocks
    module _ (pairs : (n : ℕ) → n < c.stored → seen.pair_known n ≡ true → 0 < seen.pair n) where
      -- where it goes on, it stands past its change, and keeps what it has stored
      at_counts : (given : Given K V) (removed : ℕ) → CallingFacts same hash asks w i (in_slot setting (slot i)) c seen u.keys change p (at.Counts removed)
          → KeepsGiven hash w.memory c seen u.keys given change p (at.Counts removed) → MayDo (kind_of given) change × StoresGiven hash w.memory c seen given change
      at_counts (Begun kind pair) removed (inl stored) keeps = (counts_kind kind removed stored.1 keeps.2.4 stored.0 stored.2, keeps.1)
      at_counts (Begun kind pair) removed (inr gone) keeps = (removed_kind kind removed gone.0 (seen.pair gone.0) (byte_of hash (c.key gone.0)) (mark_bits Still gone.2) keeps.2.4 gone.3 (pairs gone.0 gone.4.0 gone.4.1) gone.5, keeps.1)
      at_counts (IsTold kind its asked) removed (inl stored) keeps = (counts_kind kind removed stored.1 keeps.2.4 stored.0 stored.2, keeps.0)
      at_counts (IsTold kind its asked) removed (inr gone) keeps = (removed_kind kind removed gone.0 (seen.pair gone.0) (byte_of hash (c.key gone.0)) (mark_bits Still gone.2) keeps.2.4 gone.3 (pairs gone.0 gone.4.0 gone.4.1) gone.5, keeps.0)

      held_at : (stands : Calling) → (Seeks same hash asks w i (in_slot setting (slot i)) c seen u.keys change stands → change ≡ Unchanged) → CallingFacts same hash asks w i (in_slot setting (slot i)) c seen u.keys change p stands
          → KeepsGiven hash w.memory c seen u.keys u.pair change p stands → Held
      held_at at.Makes seeks point keeps = inl (seeks tt)
      held_at (at.Looks lookup) seeks point keeps = inl (seeks tt)
      held_at at.Roots seeks point keeps = inl (seeks tt)
      held_at at.Probes seeks point keeps = inl (seeks tt)
      held_at (at.Tries word new) seeks point keeps = inl (seeks tt)
      held_at at.Nexts seeks point keeps = inl (seeks tt)
      held_at (at.Firsts making) seeks point keeps = inl (seeks tt)
      held_at (at.Allocs making) seeks point keeps = inl (seeks tt)
      held_at (at.Helps copier goal) seeks point keeps = inl (seeks tt)
      held_at (at.Copies copier) seeks point keeps = inl (seeks tt)
      held_at (at.Asks asking) seeks point keeps = inl (seeks tt)
      held_at (at.Drops end) seeks point keeps = inl (seeks tt)
      held_at (at.Over end) seeks point keeps = inl point
      held_at (at.Counts removed) seeks point keeps = inr (at_counts u.pair removed point keeps)
      held_at (at.Disposes dispose answer) seeks point keeps = inr (by u.pair keeps)
        where
          by : (given : Given K V) → KeepsGiven hash w.memory c seen u.keys given change p (at.Disposes dispose answer) → MayDo (kind_of given) change × StoresGiven hash w.memory c seen given change
          by (Begun kind pair) keeps = (tells_kind w c seen kind change answer keeps.2.4 point.1, keeps.1)
          by (IsTold kind its asked) keeps = (tells_kind w c seen kind change answer keeps.2.4 point.1, keeps.0)

      pub held : Knows V same hash asks setting slot w c seen i u p → Held
      held knows = elim (knows.facts) as (λ _. Held) [
        | inl facts ↦ held_at p.stands facts.unchanged facts.point knows.pair
        | inr late ↦ inl late.0
      ]

module _ {K V Q : Type 0} (same : K → K → Bool) (hash : K → ℕ) (asks : Q → K → Bool) (setting : Setting) (slot : ℕ → ℕ) (w : World (Node K V)) (c : Chart K) (blocks : Blocks)
    (sights : ℕ → Visible) (calls : ℕ → Option (UnderWay K V Q)) (i : ℕ) (u : CallOnKey K V Q) (m2 : Mem (Node K V)) (p2 : KeyCall K V Q) where
  abbrev Step : Called (Node K V) → Type 0
  Step progress = StepsTogether V same hash asks setting slot w c blocks sights calls i u m2 p2 progress

  -- the call after its step
  abbrev pub stepped : (progress : Called (Node K V)) → Step progress → CallOnKey K V Q
  stepped progress step = record { keys = u.keys; pair = u.pair; began = u.began; change = change_observed V same hash asks setting slot step.went.told; call = p2 }

  abbrev pub HasDoneSo : (progress : Called (Node K V)) → Step progress → Type 0
  HasDoneSo progress step = HasDone same hash asks setting slot i (stepped progress step) step.went.w2 step.went.c2 c.stored (step.went.blocks2.pair c.stored)

  module _ (progress : Called (Node K V)) (step : Step progress) where
    abbrev seen : Blocks
    seen = seen_by step.blocks2 (step.sights2 (slot i))

    from_held : Held same hash asks setting slot i (stepped progress step) step.went.w2 step.went.c2 seen p2 → HasDoneSo progress step
    from_held (inl none) = inl none
    from_held (inr has) = inr (seen, (step.grown.new_pairs c.stored (omega arith)).0, has.0, has.1)

    pub here : with_at calls i (Some (OnKey (stepped progress step))) i ≡ Some (OnKey (stepped progress step))
    here = at_same calls i (Some (OnKey (stepped progress step))) i refl

    have_blocks : IsInside (step.went.w2.uses (slot i)) → (n : ℕ) → n < step.went.c2.stored → seen.pair_known n ≡ true → 0 < seen.pair n
    have_blocks inside n l known = let ground = step.together.ground in (ground.map.map.shows.pair_numbers n l ((ground.sight (slot i) inside).0.pairs n l known)).0

    goes_on : IsInside (step.went.w2.uses (slot i)) → IsAtPoint V same hash asks setting slot step.went.w2 step.went.c2 seen i (OnKey (stepped progress step)) → HasDoneSo progress step
    goes_on is stands = elim stands as (λ _. HasDoneSo progress step) [
      | inl k ↦ from_held (held same hash asks setting slot i (stepped progress step) step.went.w2 step.went.c2 seen p2 (have_blocks is) k.1)
      | inr k ↦ from_held (held same hash asks setting slot i (stepped progress step) step.went.w2 step.went.c2 seen (once_over p2) (have_blocks is) k.2)
    ]

    answered : (answer : KeyAnswer) → AnswersOnce V same hash asks setting slot step.went.w2 step.went.c2 step.went.blocks2 i u (stepped progress step).change answer → HasDoneSo progress step
    answered answer (fits, inl none) = inl none.0
    answered answer (fits, inr has) =
        inr (step.went.blocks2, refl, tells_kind same hash asks setting slot i (stepped progress step) step.went.w2 step.went.c2 step.went.blocks2 (kind_of u.pair) (stepped progress step).change answer fits has.1, has.2)

  -- so it is after each step that is none of a row
  pub done : (progress : Called (Node K V)) (step : Step progress) → HasDoneSo progress step
  done called.Goes step = goes_on called.Goes step (step.together.inside i _ (here called.Goes step)) (step.together.stand i _ (here called.Goes step))
  done called.Waits step = goes_on called.Waits step (step.together.inside i _ (here called.Waits step)) (step.together.stand i _ (here called.Waits step))
  done (called.Gave value) step = goes_on (called.Gave value) step (step.together.inside i _ (here (called.Gave value) step)) (step.together.stand i _ (here (called.Gave value) step))
  done (called.Unstored value) step = goes_on (called.Unstored value) step (step.together.inside i _ (here (called.Unstored value) step)) (step.together.stand i _ (here (called.Unstored value) step))
  done (called.Asks about) step = goes_on (called.Asks about) step (step.together.inside i _ (here (called.Asks about) step)) (step.together.stand i _ (here (called.Asks about) step))
  done (called.Done answer) step = answered (called.Done answer) step answer (step.answers answer refl)
  done (called.Refused fault) step = inl (step.refuses fault refl).0
