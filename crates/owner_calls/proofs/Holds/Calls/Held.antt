-- A call on one key of one owner's map, from question to question: each pair that the map had as it began stands still in its block.
use Rattle.std.specs.Prelude.{◌≡◌, ◌≢◌, ℕ, ◌<◌, Bool, true, List, Option, Some, None, Result, Ok, Err}
use Rattle.std.proofs.Common.{refl, sym, ◌∙◌, ap, subst, arith, inl, inr}
use denote.Ref.{Bor}
use Rattle.seize_words.specs.OneMemory.Mem.{Mem, Took, value_at}
use Rattle.seize_words.specs.OneMemory.Plan.{Steps}
use Rattle.seize_words.specs.OneMemory.Word.{block_in}
use Rattle.seize_words.specs.declared.fault.Fault.{Fault}
use Rattle.seize.specs.World.{World}
use Rattle.map_tables.specs.declared.node.Node.{Node}
use Rattle.map_tables.specs.declared.node.Node.TheVariants as node
use Rattle.map_tables.specs.declared.setting.Setting.{Setting}
use Rattle.papaya_raw.specs.Call.{call_plan}
use Rattle.papaya_raw.specs.declared.machines.answer.Called.{Called}
use Rattle.papaya_raw.specs.declared.machines.answer.KeyAnswer.{KeyAnswer}
use Rattle.papaya_raw.specs.declared.machines.answer.KeyAnswer.TheVariants as answers
use Rattle.papaya_raw.specs.declared.machines.call.KeyCall.{KeyCall}
use Rattle.map_straight.specs.Given.RuleChart.{Chart}
use Rattle.map_straight.specs.Given.RuleWords.{Blocks}
use Rattle.owner_whole.specs.Given.PointsFactsCalls.{Unchanged}
use Rattle.owner_whole.specs.Given.CallersPairs.{Given}
use Rattle.owner_whole.specs.Given.CallersSights.{Visible}
use Rattle.owner_whole.specs.Given.CallersTogether.{CallOnKey, OnKey as OnKeyOf, IsBegun, Gets, Removes, Inserts, TriesToInsert, Computes, Updates, UpdatesOrInserts, TriesToInsertWith, RemovesIf, begun_at}
use Rattle.owner_whole.proofs.Whole.Contents.Runs.{runs_begin}
use Rattle.owner_whole.proofs.Whole.Keys.Whole.{calls_go_on_alone}
use Rattle.owner_whole.specs.Whole.Contents.{HasRun}
use Rattle.owner_whole.specs.Whole.Owner.{IsAlone}
use Rattle.owner_whole.specs.Whole.Whole.{StepLeads, then_so}
use Rattle.owner_calls.specs.Owned.Calling.{IsCalling}
use Rattle.owner_whole.specs.Strides.Ending.{RunsTo}
use Rattle.owner_calls.specs.Owned.Machines.{on_key_plan}
use Rattle.owner_calls.specs.Owned.Owned.{Holds}
use Rattle.owner_calls.specs.declared.machines.OnKey.{OnKey}
use Rattle.owner_calls.specs.declared.machines.Stop.{Stop}
use Rattle.owner_calls.specs.declared.machines.Stop.TheVariants as stop
use Rattle.owner_calls.proofs.Sifts.Along.Calls.{GivesTold, StepsKeep, RepliesKeep, StopsAt, kept_along}
use Rattle.owner_calls.proofs.Holds.Calls.Runs.{calls_begin, replies_put_none, replies_keep_own, answered, none_so}
use Rattle.owner_calls.proofs.Holds.Calls.Steps.{OwnComes, step_comes}
use Rattle.owner_calls.proofs.Holds.Calls.Goes.{TellsSo}
use Rattle.owner_calls.proofs.Holds.Stood.{StandsStill, still_first, stood_beside}
use Rattle.owner_calls.specs.Holds.Calls.{CallsTakeNoneAway}
use Rattle.owner_calls.specs.Holds.Came.{NoneCame, CameBy, AnswerNamesOwn, Owns, HasOnly, HasCome, HasOutcome, stored_at, stored_by}

module _ {K V Q S : Type 0} (asks : Q → K → Bool) (same : K → K → Bool) (hashes : S → K → ℕ) (b : Bor S) (setting : Setting) (m0 : Mem (Node K V)) (xs : List (K × V)) (h : Holds same (hashes b.now) setting m0 xs) where
  abbrev hash : K → ℕ
  hash = hashes b.now

  abbrev slot_of : ℕ → ℕ
  slot_of i = setting.slot

  abbrev AloneIn : World (Node K V) → Chart K → Blocks → (ℕ → Visible) → CallOnKey K V Q → Type 0
  AloneIn w c blocks sights u = IsAlone same hash asks setting slot_of w c blocks sights (OnKeyOf u)

  abbrev Still : Mem (Node K V) → Type 0
  Still = StandsStill same hash setting m0 xs h

  -- no pair that could be looked at as the map rested stands in the block of this word
  abbrev Apart : ℕ → Type 0
  Apart word = (n : ℕ) → n < h.chart.stored → h.blocks.pair_known n ≡ true → block_in word ≢ h.blocks.pair n

  -- in its block stands nothing
  none_apart : (m : Mem (Node K V)) → Still m → (word : ℕ) → value_at m (block_in word) ≡ None → Apart word
  none_apart m still word none n low known is =
      let p = h.rests.together.ground.map.map.shows.pairs n low known in
      let e : ◌≡◌ {A = Option (Node K V)} None (Some (node.Pair p.0 p.1)) = sym none ∙ ap (value_at m) is ∙ still n low known ∙ p.2 in cc e

  -- what is so of it, of the memory and of its map
  record Keeps (u : CallOnKey K V Q) (m : Mem (Node K V)) (c : Chart K) (blocks : Blocks) : Type 0 where
    pub runs : HasRun same hash setting u.keys h.world.memory h.chart h.blocks u.change m c blocks
    pub looks : (n : ℕ) → n < h.chart.stored → h.blocks.pair_known n ≡ true → (blocks.pair_known n ≡ true) × (blocks.pair n ≡ h.blocks.pair n)
    pub still : Still m
    pub come : HasCome m0 m u.call
    pub apart : Apart u.call.own

  -- so of the word that it tells as stored
  abbrev StoresApart : KeyAnswer → Type 0
  StoresApart answer = (word : ℕ) → stored_by answer ≡ Some word → Apart word

  same_word : (told word own : ℕ) → told ≡ own → ◌≡◌ {A = Option ℕ} (Some told) (Some word) → Apart own → Apart word
  same_word told word own is e apart = subst Apart (let f : told ≡ word = cc e in sym is ∙ f) apart

  stores_apart : (own : ℕ) → Apart own → (answer : KeyAnswer) → AnswerNamesOwn own answer → StoresApart answer
  stores_apart own apart answers.Absent tells word e = absurd (cc e)
  stores_apart own apart (answers.Found found) tells word e = absurd (cc e)
  stores_apart own apart (answers.Stored told) tells word e = same_word told word own tells e apart
  stores_apart own apart (answers.Replaced old new) tells word e = same_word new word own tells e apart
  stores_apart own apart (answers.Removed removed) tells word e = absurd (cc e)

  -- what it gives
  abbrev Gives : Mem (Node K V) → Result KeyAnswer Fault → Type 0
  Gives m (Ok answer) = CameBy m0 m answer × Still m × StoresApart answer
  Gives m (Err fault) = NoneCame m0 m × Still m

  module _ (w : World (Node K V)) (c : Chart K) (blocks : Blocks) (sights : ℕ → Visible) (u : CallOnKey K V Q) (alone : AloneIn w c blocks sights u) (here : Keeps u w.memory c blocks)
      (m2 : Mem (Node K V)) (p2 : KeyCall K V Q) (told : Called (Node K V)) (s : Steps Took value_at w.memory (call_plan asks same hash u.call) m2 (p2, told)) (l : StepLeads same hash asks setting slot_of w c blocks u m2 p2 told) where
    comes : Owns p2 × TellsSo (p2, told) × HasOnly m0 m2 p2 × OwnComes w.memory u.call.own p2.own
    comes =
        step_comes u.call here.come.owns m0 w.memory m2 here.come.only asks same hash (p2, told)
        (calls_go_on_alone same hash asks setting slot_of h.lawful h.initial w c blocks sights u alone).0 s

    still_then : Still m2
    still_then n low known =
        let k = here.looks n low known in
        let low2 : n < c.stored = (let more = here.runs.keeps.stored in omega (arith, low, more)) in
        ap (value_at m2) (sym k.1) ∙ ap (λ (y : Mem (Node K V)). value_at y (blocks.pair n)) (sym l.memory) ∙ (l.looks n low2 k.0).2 ∙ ap (value_at w.memory) k.1 ∙ here.still n low known

    apart_then : Apart p2.own
    apart_then = elim comes.3 as (λ _. Apart p2.own) [
      | inl same ↦ subst Apart (sym same) here.apart
      | inr none ↦ none_apart w.memory here.still p2.own none
    ]

    kept_then : Keeps (then_so u l.change2 p2) m2 l.c2 l.blocks2
    kept_then = record {
      runs = subst (λ (y : Mem (Node K V)). HasRun same hash setting u.keys h.world.memory h.chart h.blocks l.change2 y l.c2 l.blocks2) l.memory
          (l.runs h.world.memory h.chart h.blocks h.rests.together.ground.map.map.rule here.runs);
      looks = λ n low known.
          let k = here.looks n low known in
          let j = l.looks n (let more = here.runs.keeps.stored in omega (arith, low, more)) k.0 in (j.0, j.1 ∙ k.1);
      still = still_then;
      come = record { owns = comes.0; only = comes.2 };
      apart = apart_then;
    }

    gives_then : GivesTold asks same hashes b setting m0 xs h Keeps Gives m2 told
    gives_then = (
      λ answer is. let so = subst (λ (t : Called (Node K V)). TellsSo (p2, t)) is comes.1 in (answered m0 m2 p2.own comes.2 answer so, still_then, stores_apart p2.own apart_then answer so),
      λ fault is. (none_so m0 m2 p2.own comes.2 (subst (λ (t : Called (Node K V)). TellsSo (p2, t)) is comes.1), still_then),
    )

  steps : StepsKeep asks same hashes b setting m0 xs h Keeps Gives
  steps w c blocks sights u alone here m2 p2 told s l = (kept_then w c blocks sights u alone here m2 p2 told s l, gives_then w c blocks sights u alone here m2 p2 told s l)

  replies : RepliesKeep asks same hashes b setting m0 xs h Keeps Gives
  replies m c blocks u here about told = record {
    runs = here.runs;
    looks = here.looks;
    still = here.still;
    come = replies_put_none K V Q m0 m u.call here.come told;
    apart = subst Apart (sym (replies_keep_own u.call here.come.owns told)) here.apart;
  }

  -- a call that begins has no block of its own
  begins_bare : (keys : K → Bool) (given : Given K V) (call : KeyCall K V Q) → IsBegun V same hash asks setting slot_of 0 keys given call → call.own ≡ 0
  begins_bare _ _ _ (Gets q code few class) = refl
  begins_bare _ _ _ (Removes q code few class) = refl
  begins_bare _ _ _ (Inserts key value) = refl
  begins_bare _ _ _ (TriesToInsert key value) = refl
  begins_bare _ _ _ (Computes key) = refl
  begins_bare _ _ _ (Updates key) = refl
  begins_bare _ _ _ (UpdatesOrInserts key absent) = refl
  begins_bare _ _ _ (TriesToInsertWith key) = refl
  begins_bare _ _ _ (RemovesIf q code few class) = refl

  first : (keys : K → Bool) (given : Given K V) (call : KeyCall K V Q) → IsBegun V same hash asks setting slot_of 0 keys given call → Keeps (begun_at V same hash asks setting slot_of h.chart keys given call) m0 h.chart h.blocks
  first keys given call is = record {
    runs = subst (λ (y : Mem (Node K V)). HasRun same hash setting keys h.world.memory h.chart h.blocks Unchanged y h.chart h.blocks) h.memory
        (runs_begin V same hash setting keys h.world.memory h.chart h.blocks h.rests.together.ground.moments);
    looks = λ n low known. (known, refl);
    still = still_first same hash setting m0 xs h;
    come = calls_begin K V Q same hash asks setting slot_of 0 h.lawful keys given call is m0;
    apart = subst Apart (sym (begins_bare keys given call is)) (none_apart m0 (still_first same hash setting m0 xs h) 0 refl);
  }

  -- wherever it stops
  abbrev StaysApart : Mem (Node K V) → Result Stop Fault → Type 0
  StaysApart m result = Still m × ((word : ℕ) → stored_at result ≡ Some word → Apart word)

  at_stop : (x : OnKey K V Q S) (m : Mem (Node K V)) (result : Result Stop Fault) → StopsAt asks same hashes b setting m0 xs h Keeps Gives x m result → HasOutcome m0 m x result × StaysApart m result
  at_stop x m (Ok (stop.Answered answer)) s = (s.0, (s.1, s.2))
  at_stop x m (Ok (stop.Asks about)) s =
      let k = s.under.course.kept in (subst (λ (y : OnKey K V Q S). HasCome m0 m y.call) (sym s.under.is) k.come, (k.still, λ word e. absurd (cc e)))
  at_stop x m (Err fault) s = (s.0, (s.1, λ word e. absurd (cc e)))

  take_none_away : (keys : K → Bool) (given : Given K V) (x : OnKey K V Q S) (m : Mem (Node K V)) → IsCalling asks same hashes b setting m0 keys given x m → (x2 : OnKey K V Q S) (m2 : Mem (Node K V)) (result : Result Stop Fault)
      → RunsTo (on_key_plan asks same hashes) x m x2 m2 result → HasOutcome m0 m2 x2 result × StaysApart m2 result
  take_none_away keys given x m is x2 m2 result runs =
      at_stop x2 m2 result (kept_along asks same hashes b setting m0 xs h Keeps Gives steps replies keys given (first keys given) x m is x2 m2 result runs)

pub calls_take_none_away : (K V Q S : Type 0) → CallsTakeNoneAway K V Q S
calls_take_none_away K V Q S asks same hashes b setting m0 keys given xs h x m is x2 m2 result runs =
    let at_end = take_none_away asks same hashes b setting m0 xs h keys given x m is x2 m2 result runs in
    (at_end.0, stood_beside same (hashes b.now) setting m0 xs h m2 at_end.1.0 result at_end.1.1)
