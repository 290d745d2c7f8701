-- A call that asks, for one owner, from its beginning to its question, or to its end, where it asks nothing.
use Rattle.std.specs.Prelude.{◌≡◌, ℕ, Bool, true, List, [], Option, Some, None, Result, Ok, Err, ◌⊎◌}
use Rattle.std.proofs.Common.{refl, sym, ◌∙◌, ap, subst, inl, inr}
use denote.Ref.{Bor}
use Rattle.seize_words.specs.OneMemory.Mem.{Mem}
use Rattle.seize_words.specs.OneMemory.Plan.{Plan}
use Rattle.seize.specs.declared.advance.Advance.{Advance}
use Rattle.seize_words.specs.declared.fault.Fault.{Fault}
use Rattle.seize_words.specs.declared.fault.Fault.TheVariants.{RemoveNothing}
use Rattle.map_tables.specs.declared.node.Node.{Node}
use Rattle.map_tables.specs.declared.node.Node.TheVariants as node
use Rattle.map_tables.specs.declared.setting.Setting.{Setting}
use Rattle.papaya_raw.specs.declared.machines.answer.KeyAnswer.{KeyAnswer}
use Rattle.papaya_raw.specs.declared.machines.answer.KeyAnswer.TheVariants as answers
use Rattle.papaya_raw.specs.declared.machines.call.KeyCall.{KeyCall}
use Rattle.papaya_raw.specs.declared.machines.call.Calling.TheVariants as at
use Rattle.owner_calls.specs.Given.LateFaults.{IsRoom}
use Rattle.owner_calls.specs.Given.LateKinds.{FaultFits, OutcomeFits}
use Rattle.papaya_raw.specs.declared.machines.answer.Called.TheVariants as called
use Rattle.owner_calls.specs.Given.CallersKind.{Kind}
use Rattle.owner_calls.specs.Given.CallersPairs.{IsTold, RemovesNone}
use Rattle.owner_calls.specs.Given.CallersTogether.{IsBegun}
use Rattle.owner_asks.specs.Asks.Asking.{AnswersAs, Pauses, AsksOf, Unasked, StartsAs, HasKeyBack, HasPairBack}
use Rattle.owner_calls.specs.Given.StridesEnding.{Ends, RunsTo}
use Rattle.owner_calls.specs.Owned.Machines.{on_key_plan}
use Rattle.owner_calls.specs.Owned.Owned.{Holds, IsWordOf}
use Rattle.owner_calls.specs.declared.machines.OnKey.{OnKey}
use Rattle.owner_calls.specs.declared.machines.Stop.{Stop}
use Rattle.owner_calls.specs.declared.machines.Stop.TheVariants as stop
use Rattle.owner_calls.proofs.Owned.Owned.Answered as by
use Rattle.owner_calls.proofs.Owned.Owned.Keys.{AsksAt, StopsAt, stops_at, under_ends}
use Rattle.owner_asks.proofs.Asks.Asks.Begins.{BeginsSo, begins_so}
use Rattle.owner_asks.proofs.Asks.Asks.Questions.{asks_so}
use Rattle.owner_asks.proofs.Asks.Asks.Runs.{HandedOut, InHand, HasAsked, HasCome, has_come}
use Rattle.owner_asks.proofs.Asks.Asks.Told as told
use Rattle.owner_asks.proofs.Asks.Asks.Undisturbed.{AsksFor}

-- no value is known before
no_key : {K V : Type 0} (its : Option K) → (v : V) → ◌≡◌ {A = Option V} None (Some v) → (◌≡◌ {A = Option V} None (Some v)) × (k : K) × (its ≡ Some k)
no_key its v e = absurd (cc e)

asks_of : (K V : Type 0) (kind : Kind) (asked : Option ℕ) → OutcomeFits kind.present kind.absent kind.takes {T = Node K V} (called.Asks asked) → AsksOf kind asked
asks_of K V kind None fit = fit
asks_of K V kind (Some word) fit = fit

-- its key comes back
pub key_back : {K V Q S : Type 0} (its : Option K) (known value : Option V) (x : OnKey K V Q S) → HandedOut its known value true x ⊎ InHand its known value true x → (k : K) → its ≡ Some k → HasKeyBack x k
key_back its known value x (inl (j, v, key, store, out)) k is = let e : j ≡ k = (let one = sym key ∙ is in cc one) in inr (v, out ∙ ap (λ z. Some (node.Pair z v)) e)
key_back its known value x (inr (none, bare)) k is = inl (none, bare.1 ∙ is)

-- and its value
pub pair_back : {K V Q S : Type 0} (its : Option K) (w : V) (x : OnKey K V Q S) → HandedOut its (Some w) (Some w) true x ⊎ InHand its (Some w) (Some w) true x → (k : K) → its ≡ Some k → HasPairBack x k w
pair_back its w x (inl (j, v, key, store, out)) k is =
    let e : j ≡ k = (let one = sym key ∙ is in cc one) in let f : v ≡ w = (let one = store in cc one) in inr (out ∙ ap (λ z. Some (node.Pair z v)) e ∙ ap (λ z. Some (node.Pair k z)) f)
pair_back its w x (inr (none, bare)) k is = inl (none, bare.1 ∙ is, bare.2)

module _ {K V Q S : Type 0} (asks : Q → K → Bool) (same : K → K → Bool) (hashes : S → K → ℕ) (setting : Setting) (kind : Kind) (its : Option K) (keys : K → Bool) (xs : List (K × V)) where
  abbrev the_plan : OnKey K V Q S → Plan (Node K V) (OnKey K V Q S × Advance Stop)
  the_plan = on_key_plan asks same hashes

  abbrev slot_of : ℕ → ℕ
  slot_of i = setting.slot

  -- A call begins.
  module _ (b : Bor S) (m0 : Mem (Node K V)) (h : Holds same (hashes b.now) setting m0 xs) (call : KeyCall K V Q) (begun : IsBegun V same (hashes b.now) asks setting slot_of 0 keys (IsTold kind its []) call) where
    abbrev x0 : OnKey K V Q S
    x0 = record { call = call; hasher = b; unstored = None }

    facts : BeginsSo same (hashes b.now) asks setting slot_of h.lawful kind its keys call
    facts = begins_so same (hashes b.now) asks setting slot_of h.lawful kind its keys call begun

    under0 : by.UnderIt same asks hashes b setting m0 xs h keys (IsTold kind its []) x0 m0
    under0 = by.begins_it same asks hashes b setting m0 xs h keys (IsTold kind its []) call begun facts.counted facts.fit

    pub start_ends : Ends the_plan x0 m0
    start_ends = under_ends same asks hashes b setting h.lawful h.initial h.world.memory h.chart h.blocks h.rests.together.ground.map.map.rule keys (IsTold kind its []) x0 m0 under0

    module _ (x : OnKey K V Q S) (m : Mem (Node K V)) where
      abbrev Stopped : Result Stop Fault → Type 0
      Stopped = StopsAt {Q = Q} same asks hashes b setting h.lawful h.initial h.world.memory h.chart h.blocks h.rests.together.ground.map.map.rule keys (IsTold kind its []) x m

      abbrev pub AskedIt : Option ℕ → Type 0
      AskedIt = AsksAt {Q = Q} same asks hashes b setting h.lawful h.initial h.world.memory h.chart h.blocks h.rests.together.ground.map.map.rule keys (IsTold kind its []) x m

      pub stopped : (result : Result Stop Fault) → RunsTo the_plan x0 m0 x m result → Stopped result
      stopped result runs = stops_at same asks hashes b setting h.lawful h.initial h.world.memory h.chart h.blocks h.rests.together.ground.map.map.rule keys (IsTold kind its []) x0 m0 x m result runs under0

      pub come : (result : Result Stop Fault) → RunsTo the_plan x0 m0 x m result → HasCome its None None true m x result
      come result runs = has_come its None None true (no_key its) asks same hashes x0 m0 x m result runs (inr (refl, facts.undisturbed m0))

      pub asks_for : (asked : Option ℕ) (s : AskedIt asked) → HasAsked its None None true m x asked → AsksFor asked (at.Asks s.asks_at)
      asks_for asked s c = subst (AsksFor asked) (ap (λ (y : OnKey K V Q S). y.call.stands) s.under.is ∙ s.stands) c.2

      asked_word : (asked : Option ℕ) (s : AskedIt asked) → HasAsked its None None true m x asked → IsWordOf keys m xs asked
      asked_word asked s c = asks_so same asks hashes b setting m0 xs h keys (IsTold kind its []) facts.one x m asked s (asks_for asked s c)

      pauses : (asked : Option ℕ) (s : AskedIt asked) → RunsTo the_plan x0 m0 x m (Ok (stop.Asks asked)) → Pauses asks same hashes setting kind its keys xs x m asked
      pauses asked s runs =
          let e : x.hasher ≡ b = ap (λ (y : OnKey K V Q S). y.hasher) s.under.is in
          record {
            before = m0;
            call = call;
            begun = subst (λ (z : Bor S). IsBegun V same (hashes z.now) asks setting slot_of 0 keys (IsTold kind its []) call) (sym e) begun;
            held = subst (λ (z : Bor S). Holds same (hashes z.now) setting m0 xs) (sym e) h;
            runs = subst (λ (z : Bor S). RunsTo the_plan (record { call = call; hasher = z; unstored = None }) m0 x m (Ok (stop.Asks asked))) (sym e) runs;
          }

      unasked : (answer : KeyAnswer) → by.AnswersTo same asks hashes b setting m0 xs h keys (IsTold kind its []) m answer → AnswersAs same (hashes b.now) setting m keys xs its (Unasked kind) answer
      unasked answers.Absent a = (told.unasked_none V kind.absent kind.takes a.1, a.0, a.2)
      unasked (answers.Found word) a = (a.0, told.unasked_pair V a.3 kind.present kind.takes a.4, a.1, a.2, a.5)
      unasked (answers.Stored word) a = absurd (let e = a.3.1 in cc e)
      unasked (answers.Replaced old new) a = absurd (let e = a.6.1 in cc e)
      unasked (answers.Removed word) a = absurd (elim a.4 as (λ _. ⊥) [ inl e ↦ cc e | inr e ↦ cc e ])

      room : (fault : Fault) → FaultFits kind.present kind.absent kind.takes fault → (fault ≡ RemoveNothing → RemovesNone {K = K} {V = V} (IsTold kind its [])) → IsRoom fault
      room fault (inl fits) never = fits.1
      room fault (inr fits) never = absurd (let e = never fits.2 in cc e)

      pub start_so : (result : Result Stop Fault) → RunsTo the_plan x0 m0 x m result → StartsAs asks same hashes setting kind its keys xs b x m result
      start_so (Ok (stop.Answered answer)) runs =
          unasked answer (by.answered_it same asks hashes b setting m0 xs h keys (IsTold kind its []) facts.one facts.named m answer (stopped (Ok (stop.Answered answer)) runs))
      start_so (Ok (stop.Asks asked)) runs =
          let s = stopped (Ok (stop.Asks asked)) runs in let c = come (Ok (stop.Asks asked)) runs in
          (pauses asked s runs, ap (λ (y : OnKey K V Q S). y.hasher) s.under.is, asked_word asked s c, asks_of K V kind asked s.fit)
      start_so (Err fault) runs =
          let s = stopped (Err fault) runs in let c = come (Err fault) runs in (
            room fault s.1.0 s.1.1,
            by.refused_it same asks hashes b setting m0 xs h keys (IsTold kind its []) m fault s.0,
            key_back its None None x c,
            by.refused_ends same asks hashes b setting m0 xs h keys (IsTold kind its []) m fault s.0,
          )

  -- the machine of a call that begins
  module _ (x : OnKey K V Q S) (none : x.unstored ≡ None) (m0 : Mem (Node K V)) (h : Holds same (hashes x.hasher.now) setting m0 xs)
      (begun : IsBegun V same (hashes x.hasher.now) asks setting slot_of 0 keys (IsTold kind its []) x.call) where
    fresh : x ≡ record { call = x.call; hasher = x.hasher; unstored = None }
    fresh = ap (λ (u : Option (Node K V)). record { call = x.call; hasher = x.hasher; unstored = u }) none

    pub begin_ends : Ends the_plan x m0
    begin_ends = subst (λ (y : OnKey K V Q S). Ends the_plan y m0) (sym fresh) (start_ends x.hasher m0 h x.call begun)

    pub begin_so : (x2 : OnKey K V Q S) (m2 : Mem (Node K V)) (result : Result Stop Fault) → RunsTo the_plan x m0 x2 m2 result → StartsAs asks same hashes setting kind its keys xs x.hasher x2 m2 result
    begin_so x2 m2 result runs = start_so x.hasher m0 h x.call begun x2 m2 result (subst (λ (y : OnKey K V Q S). RunsTo the_plan y m0 x2 m2 result) fresh runs)
