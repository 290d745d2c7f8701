-- A call that asks has changed the map: that is the change that it was told to make.
use Rattle.std.specs.Prelude.{◌≡◌, ◌≢◌, ℕ, ◌/◌, ◌<◌, ◌^◌, ◌==◌, Bool, true, false, List, Option, Some, None, if◌then◌else◌}
use Rattle.std.proofs.Common.{refl, ap, sym, subst, inl, inr, arith, eqb-true}
use Rattle.std.proofs.lemmas.Bool.{eqb-false}
use Rattle.seize_model.specs.Given.SeizeWordsMem.{value_at}
use Rattle.seize_model.specs.Given.SeizeWorld.{World}
use Rattle.map_facts_late.specs.Given.TablesDeclared.marks.TheConstants.{TOMBSTONE}
use Rattle.map_facts_late.specs.Given.TablesDeclared.node.Node.{Node}
use Rattle.map_facts_late.specs.Given.TablesDeclared.setting.Setting.{Setting}
use Rattle.map_facts_late.specs.Given.ResizeDispose.{disposing}
use Rattle.map_facts_late.specs.Given.RawCallPoints.{going, changed}
use Rattle.map_facts_late.specs.Given.RawDeclared.machines.answer.Called.{Called}
use Rattle.map_facts_late.specs.Given.RawDeclared.machines.answer.KeyAnswer.TheVariants as answers
use Rattle.map_facts_late.specs.Given.RawDeclared.machines.call.KeyCall.{KeyCall}
use Rattle.map_facts_late.specs.Given.RawDeclared.machines.call.Calling.TheVariants as at
use Rattle.map_facts_late.specs.Given.RuleChart.{Still, Holds, Chart}
use Rattle.map_facts_late.specs.Given.RuleWords.{Blocks, Represents, place_word}
use Rattle.map_facts_late.specs.Given.PointsFactsCalls.{Change, Unchanged, Stored, Replaced, Removed, AnswersChange, CallingFacts}
use Rattle.map_facts_late.specs.Given.PointsTold.{CallFactsAfter}
use Rattle.many_calls.specs.Asked.{Asked, IsThere, HasValueReplied, ChangesAsReplied, IsWordOf, OwnHasValueReplied, IsToRemove, DoesAsReplied}
use Rattle.many_calls.proofs.Asked.Stays.{ToldTo, has_on}
use Rattle.many_calls.proofs.Asked.By.{block_of_word, some_word, one_pair}

module _ {K V Q : Type 0} (same : K → K → Bool) (hash : K → ℕ) (fits : (k : K) → hash k < 2 ^ 64) (asks : Q → K → Bool) (w : World (Node K V)) (caller : ℕ) (setting : Setting) (c : Chart K) (blocks : Blocks)
    (keys : K → Bool) (its : Option K) (asked : List (Asked V)) (root : ℕ) (shows : Represents hash w.memory c blocks root) (change : Change) (p : KeyCall K V Q) (word new : ℕ)
    (does : DoesAsReplied hash w.memory c blocks its asked p.replies p.own (at.Tries word new)) where
  abbrev Told : Change → Type 0
  Told = ChangesAsReplied hash w.memory c blocks its asked

  abbrev There : ℕ → Type 0
  There = IsThere hash w.memory c blocks its asked

  -- its own block is that of a pair now
  in_pair : (about : Option ℕ) (n : ℕ) → p.own ≡ place_word hash c blocks (Holds n Still false) → OwnHasValueReplied hash w.memory c blocks its asked p.own about
      → HasValueReplied hash w.memory c blocks its asked about (blocks.pair n)
  in_pair about n is has =
      has_on hash w.memory w.memory c c blocks blocks its asked about (p.own / 2048) (blocks.pair n)
      (ap (value_at w.memory) (sym (block_of_word hash fits w.memory c blocks its asked root shows p.own n Still false is))) has.1

  -- a word of a pair is none of an empty place
  none_empty : (n : ℕ) → IsWordOf hash w.memory c blocks its asked word (Some n) → word ≢ 0
  none_empty n (there, borrowed, is) = some_word hash fits w.memory c blocks its asked root shows word n there (block_of_word hash fits w.memory c blocks its asked root shows word n Still borrowed is)

  pair_of : (n o : ℕ) (borrowed : Bool) → There o → word ≡ place_word hash c blocks (Holds o Still borrowed) → IsWordOf hash w.memory c blocks its asked word (Some n) → n ≡ o
  pair_of n o borrowed there is (there_n, borrowed_n, is_n) =
      one_pair hash fits w.memory c blocks its asked root shows word n o there_n there
      (block_of_word hash fits w.memory c blocks its asked root shows word n Still borrowed_n is_n) (block_of_word hash fits w.memory c blocks its asked root shows word o Still borrowed is)

  -- its own block is in an empty place
  stored_so : word ≡ 0 → (n : ℕ) → There n → p.own ≡ place_word hash c blocks (Holds n Still false) → Told (Stored n)
  stored_so zero n there is = by does
    where
      by : DoesAsReplied hash w.memory c blocks its asked p.replies p.own (at.Tries word new) → Told (Stored n)
      by (inl (mine, None, names, has)) = (there, in_pair None n is has)
      by (inl (mine, Some o, names, has)) = absurd (none_empty o names zero)
      by (inr (bare, o, names, removes)) = absurd (none_empty o names zero)

  -- a pair is out
  removed_so : new ≡ TOMBSTONE → (n : ℕ) (borrowed : Bool) → There n → word ≡ place_word hash c blocks (Holds n Still borrowed) → Told (Removed n)
  removed_so bare n borrowed there is = by does
    where
      by : DoesAsReplied hash w.memory c blocks its asked p.replies p.own (at.Tries word new) → Told (Removed n)
      by (inl (mine, about, names, has)) = absurd (let some = has.0 in omega (arith, some, mine, bare))
      by (inr (bare, o, names, removes)) = subst (IsToRemove hash w.memory c blocks its asked) (pair_of o n borrowed there is names) removes

  -- its own block is in the place of a pair
  replaced_so : new ≢ TOMBSTONE → word ≢ 0 → (o n : ℕ) (borrowed : Bool) → There o → There n → word ≡ place_word hash c blocks (Holds o Still borrowed)
      → p.own ≡ place_word hash c blocks (Holds n Still false) → Told (Replaced o n)
  replaced_so full some o n borrowed there there_n is is_n = by does
    where
      by : DoesAsReplied hash w.memory c blocks its asked p.replies p.own (at.Tries word new) → Told (Replaced o n)
      by (inl (mine, None, names, has)) = absurd (some names)
      by (inl (mine, Some x, names, has)) = (there_n, in_pair (Some o) n is_n (subst (λ (y : ℕ). OwnHasValueReplied hash w.memory c blocks its asked p.own (Some y)) (pair_of x o borrowed there is names) has))
      by (inr (bare, x, names, removes)) = absurd (full bare)

  counts_so : new ≡ TOMBSTONE → CallingFacts same hash asks w caller setting c blocks keys change (record p { stands = at.Counts word }) (at.Counts word) → Told change
  counts_so bare (inl (zero, n, is, known, own)) = subst Told (sym is) (stored_so zero n known own)
  counts_so bare (inr (n, t, borrowed, is, left, word_is, table, rest)) = subst Told (sym is) (removed_so bare n borrowed (left.0, left.1) word_is)

  counts_none : word ≡ 0 → CallingFacts same hash asks w caller setting c blocks keys change (record p { stands = at.Counts 0 }) (at.Counts 0) → Told change
  counts_none zero (inl (z, n, is, known, own)) = subst Told (sym is) (stored_so zero n known own)
  counts_none zero (inr (n, t, borrowed, is, left, word_is, table, rest)) =
      absurd (some_word hash fits w.memory c blocks its asked root shows 0 n (left.0, left.1) (block_of_word hash fits w.memory c blocks its asked root shows 0 n Still borrowed word_is) refl)

  tells_so : new ≢ TOMBSTONE → word ≢ 0 → (x : Change) → AnswersChange same hash asks w caller setting c blocks keys change x (answers.Replaced word p.own) → Told x
  tells_so full some Unchanged h = absurd h
  tells_so full some (Stored n) h = absurd h
  tells_so full some (Replaced o n) (first, known, borrowed, old_is, new_is) = replaced_so full some o n borrowed first known old_is new_is
  tells_so full some (Removed o) h = absurd h

  abbrev Ending : KeyCall K V Q × Called (Node K V) → Type 0
  Ending e = CallFactsAfter same hash asks caller setting keys w c blocks change e.0 e.1 → ToldTo hash w.memory c blocks its asked change e.0 e.1

  pub changed_told : Ending (changed p word new)
  changed_told = by (new == TOMBSTONE) (word == 0) (eqb-true new TOMBSTONE) (eqb-false new TOMBSTONE) (eqb-true word 0) (eqb-false word 0)
    where
      by : (a b : Bool) → (a ≡ true → new ≡ TOMBSTONE) → (a ≡ false → new ≢ TOMBSTONE) → (b ≡ true → word ≡ 0) → (b ≡ false → word ≢ 0)
          → Ending (if a then going p (at.Counts word) else (if b then going p (at.Counts 0) else going p (at.Disposes (disposing p.setting word p.trial.table) (answers.Replaced word p.own))))
      by true b bare full zero some f = counts_so (bare refl) f.point
      by false true bare full zero some f = counts_none (zero refl) f.point
      by false false bare full zero some f = tells_so (full refl) (some refl) change f.point.1
