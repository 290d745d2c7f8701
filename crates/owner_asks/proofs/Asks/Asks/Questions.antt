-- What a call asks, for one owner: about the pair of its keys that the map has, or about none where it has none.
use Rattle.std.specs.Prelude.{◌≡◌, ℕ, Bool, true, List, Option, Some, None}
use Rattle.std.proofs.Common.{refl, sym, ap, subst}
use denote.Ref.{Bor}
use Rattle.seize_words.specs.OneMemory.Mem.{Mem, value_at}
use Rattle.seize_words.specs.OneMemory.Word.{block_in}
use Rattle.map_tables.specs.declared.node.Node.{Node}
use Rattle.map_tables.specs.declared.node.Node.TheVariants as node
use Rattle.map_tables.specs.declared.setting.Setting.{Setting}
use Rattle.papaya_raw.specs.declared.machines.answer.KeyAnswer.{KeyAnswer}
use Rattle.papaya_raw.specs.declared.machines.answer.KeyAnswer.TheVariants as answers
use Rattle.papaya_raw.specs.declared.machines.asking.Asking.{Asking}
use Rattle.papaya_raw.specs.declared.machines.asking.Asking.TheVariants as asking
use Rattle.papaya_raw.specs.declared.machines.call.KeyCall.{KeyCall}
use Rattle.papaya_raw.specs.declared.machines.call.Calling.TheVariants as at
use Rattle.owner_calls.specs.Given.RuleWords.{Blocks}
use Rattle.owner_calls.specs.Given.PointsFactsCalls.{Unchanged, Seeks}
use Rattle.owner_calls.specs.Given.PointsTold.{HasAnswered, IsRowOfCall}
use Rattle.owner_calls.specs.Given.CallersPairs.{Given}
use Rattle.owner_calls.specs.Given.CallersSince.{SoSince}
use Rattle.owner_calls.specs.Given.CallersTogether.{in_slot}
use Rattle.owner_calls.specs.Given.WholeContents.{HasRun}
use Rattle.owner_calls.proofs.Given.WholeKeys.Own as own
use Rattle.owner_calls.specs.Owned.Owned.{Holds, IsWordOf}
use Rattle.owner_calls.specs.declared.machines.OnKey.{OnKey}
use Rattle.owner_calls.proofs.Owned.Owned.Answered as by
use Rattle.owner_calls.proofs.Owned.Owned.Keys.{AsksAt, Course, going}
use Rattle.owner_asks.proofs.Asks.Asks.Undisturbed.{AsksFor}

-- as an answer
abbrev pub as_answer : Option ℕ → KeyAnswer
as_answer None = answers.Absent
as_answer (Some word) = answers.Found word

pub has_answered : (asked : Option ℕ) (a : Asking) → AsksFor asked (at.Asks a) → HasAnswered (as_answer asked) (at.Asks a)
has_answered None (asking.Absent gap) h = refl
has_answered None (asking.Present word) h = absurd h
has_answered None (asking.Fills word) h = absurd h
has_answered None (asking.GivesUp word) h = absurd h
has_answered (Some word) (asking.Absent gap) h = absurd h
has_answered (Some word) (asking.Present other) h = ap answers.Found (sym h)
has_answered (Some word) (asking.Fills other) h = absurd h
has_answered (Some word) (asking.GivesUp other) h = absurd h

module _ {K V Q S : Type 0} (same : K → K → Bool) (asks : Q → K → Bool) (hashes : S → K → ℕ) (b : Bor S) (setting : Setting) (m0 : Mem (Node K V)) (xs : List (K × V)) (h : Holds same (hashes b.now) setting m0 xs)
    (keys : K → Bool) (given : Given K V) (one : (i j : K) → keys i ≡ true → keys j ≡ same i j) where
  abbrev hash : K → ℕ
  hash = hashes b.now

  abbrev slot_of : ℕ → ℕ
  slot_of i = setting.slot

  abbrev CourseIt : KeyCall K V Q → Mem (Node K V) → Type 0
  CourseIt = Course {Q = Q} {S = S} same asks hashes b setting h.lawful h.initial h.world.memory h.chart h.blocks h.rests.together.ground.map.map.rule keys given

  module _ (p : KeyCall K V Q) (m : Mem (Node K V)) (course : CourseIt p m) (a : Asking) (stands : p.stands ≡ at.Asks a) where
    no_row : IsRowOfCall p.stands → ⊥
    no_row row = subst IsRowOfCall stands row

    known : own.KnowsHere same hash asks setting slot_of h.lawful course.w course.c course.blocks course.sights (going {Q = Q} {S = S} same asks hashes b setting h.lawful h.initial h.world.memory h.chart h.blocks h.rests.together.ground.map.map.rule keys given course.change p) course.alone no_row
    known = own.knows_here same hash asks setting slot_of h.lawful course.w course.c course.blocks course.sights (going {Q = Q} {S = S} same asks hashes b setting h.lawful h.initial h.world.memory h.chart h.blocks h.rests.together.ground.map.map.rule keys given course.change p) course.alone no_row

    abbrev seen : Blocks
    seen = own.seen same hash asks setting slot_of h.lawful course.w course.c course.blocks course.sights (going {Q = Q} {S = S} same asks hashes b setting h.lawful h.initial h.world.memory h.chart h.blocks h.rests.together.ground.map.map.rule keys given course.change p) course.alone

    unchanged : course.change ≡ Unchanged
    unchanged = known.2.unchanged (subst (Seeks same hash asks course.w 0 (in_slot setting (slot_of 0)) course.c seen keys course.change) (sym stands) tt)

    run : HasRun same hash setting keys h.world.memory h.chart h.blocks Unchanged course.w.memory course.c course.blocks
    run = subst (λ x. HasRun same hash setting keys h.world.memory h.chart h.blocks x course.w.memory course.c course.blocks) unchanged course.runs

    so : (answer : KeyAnswer) → HasAnswered answer (at.Asks a) → SoSince hash course.c seen keys h.chart.now answer
    so answer has = known.1.since.answered unchanged answer (subst (HasAnswered answer) (sym stands) has)

    is_word : (asked : Option ℕ) → HasAnswered (as_answer asked) (at.Asks a) → IsWordOf keys m xs asked
    is_word None has =
        by.none_so same asks hashes b setting m0 xs h keys given one course.w course.c course.blocks seen course.alone.together.ground.map run (so answers.Absent has)
    is_word (Some word) has =
        let x =
        by.met_so same asks hashes b setting m0 xs h keys given one course.w course.c course.blocks seen course.alone.together.ground.map run setting.root
        (own.map same hash asks setting slot_of h.lawful course.w course.c course.blocks course.sights (going {Q = Q} {S = S} same asks hashes b setting h.lawful h.initial h.world.memory h.chart h.blocks h.rests.together.ground.map.map.rule keys given course.change p) course.alone).map.shows
        (λ o low known. refl) word (so (answers.Found word) has) in
        (x.0.0, x.0.1, subst (λ (y : Mem (Node K V)). value_at y (block_in word) ≡ Some (node.Pair x.0.0 x.0.1)) course.memory x.2, x.1)

  -- what it asks is so
  pub asks_so : (x : OnKey K V Q S) (m : Mem (Node K V)) (asked : Option ℕ)
      → (it : AsksAt {Q = Q} same asks hashes b setting h.lawful h.initial h.world.memory h.chart h.blocks h.rests.together.ground.map.map.rule keys given x m asked)
      → AsksFor asked (at.Asks it.asks_at) → IsWordOf keys m xs asked
  asks_so x m asked it for = is_word it.under.p m it.under.course it.asks_at it.stands asked (has_answered asked it.asks_at for)
