-- A whole call on one key that never asks, from the list of pairs to the list of pairs.
use Rattle.std.specs.Prelude.{◌≡◌, ℕ, Bool, true, List, Option, None, Result, Ok, Err}
use Rattle.std.proofs.Common.{refl}
use denote.Ref.{Bor}
use Rattle.seize_words.specs.OneMemory.Mem.{Mem}
use Rattle.seize_words.specs.declared.fault.Fault.{Fault}
use Rattle.map_tables.specs.declared.node.Node.{Node}
use Rattle.map_tables.specs.declared.setting.Setting.{Setting}
use Rattle.papaya_raw.specs.declared.machines.answer.KeyAnswer.{KeyAnswer}
use Rattle.papaya_raw.specs.declared.machines.answer.KeyAnswer.TheVariants as answers
use Rattle.papaya_raw.specs.declared.machines.call.KeyCall.{KeyCall}
use Rattle.owner_whole.specs.Given.AloneCounted.{counted_at}
use Rattle.owner_whole.specs.Given.LateKinds.{MayPut}
use Rattle.owner_whole.specs.Given.CallersPairs.{Begun}
use Rattle.owner_whole.specs.Given.CallersKind.{Kind}
use Rattle.owner_whole.specs.Given.CallersTogether.{IsBegun}
use Rattle.owner_calls.specs.Owned.Owned.{Holds, AnswersBy, EndsBy}
use Rattle.owner_calls.specs.declared.machines.OnKey.{OnKey}
use Rattle.owner_calls.specs.declared.machines.Stop.{Stop}
use Rattle.owner_calls.specs.declared.machines.Stop.TheVariants as stop
use Rattle.owner_calls.proofs.Owned.Owned.Answered as by
use Rattle.owner_calls.proofs.Owned.Owned.Keys.{OfKind, ComesTo}

-- asked with whatever stands for keys
module _ {K V Q S : Type 0} (same : K → K → Bool) (asks : Q → K → Bool) (hashes : S → K → ℕ) (b : Bor S) (setting : Setting) (m0 : Mem (Node K V)) (xs : List (K × V)) (h : Holds same (hashes b.now) setting m0 xs)
    (keys : K → Bool) (kind : Kind) (pair : Option (Node K V)) (one : (i j : K) → keys i ≡ true → keys j ≡ same i j)
    (named : MayPut kind.present kind.absent kind.takes → (k : K) × ((j : K) → keys j ≡ same k j)) where
  by_answer : (m : Mem (Node K V)) (answer : KeyAnswer) → by.AnswersTo same asks hashes b setting m0 xs h keys (Begun kind pair) m answer → AnswersBy same (hashes b.now) setting m kind pair keys xs answer
  by_answer m answers.Absent a = (a.0, a.2)
  by_answer m (answers.Found word) a = (a.0.0, a.0.1, a.1, a.2, a.5)
  by_answer m (answers.Stored word) a = a
  by_answer m (answers.Replaced old new) a = (a.0, a.1, a.2, a.3, a.4, a.6, a.7, a.8, a.9)
  by_answer m (answers.Removed word) a = (a.0, a.1, a.2, a.5, a.6)

  -- what it comes to
  pub ends_by_keys : (m : Mem (Node K V)) (result : Result Stop Fault)
      → ComesTo {Q = Q} same asks hashes b setting h.lawful h.initial h.world.memory h.chart h.blocks h.rests.together.ground.map.map.rule keys (Begun kind pair) m result
      → EndsBy same (hashes b.now) setting m kind pair keys xs result
  ends_by_keys m (Ok (stop.Answered answer)) a = (a.answers.0, by_answer m answer (by.answered_it same asks hashes b setting m0 xs h keys (Begun kind pair) one named m answer a))
  ends_by_keys m (Ok (stop.Asks asked)) t = t
  ends_by_keys m (Err fault) r = (
    r.1,
    by.refused_it same asks hashes b setting m0 xs h keys (Begun kind pair) m fault r.0,
    by.refused_ends same asks hashes b setting m0 xs h keys (Begun kind pair) m fault r.0,
  )

-- asked with a key
module _ {K V S : Type 0} (same : K → K → Bool) (hashes : S → K → ℕ) (b : Bor S) (setting : Setting) (m0 : Mem (Node K V)) (xs : List (K × V)) (h : Holds same (hashes b.now) setting m0 xs)
    (k : K) (kind : Kind) (pair : Option (Node K V)) where
  abbrev hash : K → ℕ
  hash = hashes b.now

  abbrev slot_of : ℕ → ℕ
  slot_of i = setting.slot

  abbrev pub UnderIt : OnKey K V K S → Mem (Node K V) → Type 0
  UnderIt = by.UnderIt {Q = K} same same hashes b setting m0 xs h (same k) (Begun kind pair)

  -- a call begins
  pub begins_under : (call : KeyCall K V K) → IsBegun V same hash same setting slot_of 0 (same k) (Begun kind pair) call → counted_at call.stands ≡ 0
      → OfKind {S = S} same same hashes b setting h.lawful h.initial h.world.memory h.chart h.blocks h.rests.together.ground.map.map.rule (same k) (Begun kind pair) call
      → UnderIt (record { call = call; hasher = b; unstored = None }) m0
  begins_under call begun none fit = by.begins_it same same hashes b setting m0 xs h (same k) (Begun kind pair) call begun none fit

  -- what it comes to
  pub ends_by : (m : Mem (Node K V)) (result : Result Stop Fault)
      → ComesTo {Q = K} same same hashes b setting h.lawful h.initial h.world.memory h.chart h.blocks h.rests.together.ground.map.map.rule (same k) (Begun kind pair) m result
      → EndsBy same hash setting m kind pair (same k) xs result
  ends_by m result c = ends_by_keys same same hashes b setting m0 xs h (same k) kind pair (λ i j is. h.lawful.lawful.classes.congr k i j is) (λ may. (k, λ j. refl)) m result c
