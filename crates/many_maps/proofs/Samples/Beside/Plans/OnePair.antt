-- The world of a few blocks, with a pair in the second table. A call that has asked about it was told to abort, or to store a value there: it takes a
-- wrong step, or gives a wrong answer, and no law holds of what that leaves.
use Rattle.std.specs.Prelude.{◌≡◌, ℕ, zero, suc, ◌+◌, ◌<◌, ◌≤◌, Bool, true, false, eqb, List, [], ◌∷◌, Option, Some, Ok}
use Rattle.std.proofs.Common.{refl, ap, sym, subst, ◌∙◌, arith, inl, inr}
use Rattle.many_calls.specs.Given.SeizeWordsMem.{Mem, Took, value_at, word_at, with_word}
use Rattle.many_calls.specs.Given.SeizeWordsOp.{Exchanged}
use Rattle.many_calls.specs.Given.SeizeWordsPlan.{Steps}
use Rattle.many_calls.specs.Given.SeizeWordsDeclared.at.At.TheVariants.{Word}
use Rattle.many_calls.specs.Given.SeizeWorld.{World, Rests, Vacant, Hand, NoBlock, Making, InUse, with_at}
use Rattle.many_calls.specs.Given.TablesDeclared.marks.TheConstants.{TOMBSTONE}
use Rattle.many_calls.specs.Given.TablesLengths.{IsTableLen}
use Rattle.many_calls.specs.Given.TablesDeclared.node.Node.{Node}
use Rattle.many_calls.specs.Given.TablesDeclared.node.Node.TheVariants as node
use Rattle.many_calls.specs.Given.TablesDeclared.table_words.TheConstants.{PLACES}
use Rattle.many_calls.specs.Given.RawCallAsks.{computing, replied}
use Rattle.many_calls.specs.Given.RawCallPoints.{entering, standing, answering, answered_with}
use Rattle.many_calls.specs.Given.RawDeclared.machines.answer.Called.{Called}
use Rattle.many_calls.specs.Given.RawDeclared.machines.answer.End.TheVariants as ends
use Rattle.many_calls.specs.Given.RawDeclared.machines.answer.KeyAnswer.TheVariants as answers
use Rattle.many_calls.specs.Given.RawDeclared.machines.asking.Asking.TheVariants as asking
use Rattle.many_calls.specs.Given.RawDeclared.machines.asking.MachineReply.{MachineReply}
use Rattle.many_calls.specs.Given.RawDeclared.machines.asking.MachineReply.TheVariants as reply
use Rattle.many_calls.specs.Given.RawDeclared.machines.call.Calling.TheVariants as at
use Rattle.many_calls.specs.Given.RawDeclared.machines.call.KeyCall.{KeyCall}
use Rattle.many_calls.specs.Given.RuleChart.{Still, Holds, Chart, is_taken}
use Rattle.many_calls.specs.Given.RuleInWorld.{IsOut, IsMapIn}
use Rattle.many_calls.specs.Given.RuleMaps.{IsTable, spot_of}
use Rattle.many_calls.specs.Given.RuleMoves.{Stores}
use Rattle.many_calls.specs.Given.RuleRule.{ShutBefore}
use Rattle.many_calls.specs.Given.RuleWords.{Blocks, Represents, RepresentsTable, place_word}
use Rattle.many_calls.specs.Given.PointsFactsCalls.{Unchanged}
use Rattle.many_maps.specs.Maps.{Standing, with_call, MapsTogether, StepsInMaps}
use Rattle.many_calls.specs.Asked.{Asked, IsWordOf}
use Rattle.many_calls.specs.Kind.{computes}
use Rattle.many_calls.specs.Pairs.{Given, IsTold, with_reply}
use Rattle.many_calls.specs.Together.{replied_about, OnKey, CallOnKey, UnderWay}
use Rattle.many_maps.proofs.Samples.Beside.Plans.Aborts.{removes_all_the_same, removes_though_told_to_abort, denies_its_pair}
use Rattle.many_maps.proofs.Samples.Beside.Plans.Untold.{tells_at_once, removes_and_tells, keeps_what_it_is_to_replace, removes_what_it_is_to_leave}
use Rattle.many_calls.proofs.Given.LateSamples.Plans.FewBlocks.{hash, lawful, setting, with_move, chart, Stands, moved, each, stands, memory, length_fits, both, new}
use Rattle.many_calls.proofs.Together.At.{at_same}

-- the pair of key 7 is stored at the first place of the second table: the first one is shut for it
abbrev with_seven : Chart ℕ
with_seven = with_move (Stores 1 7 0) chart

stands_with : Stands with_seven
stands_with = moved (Stores 1 7 0) chart stands (omega arith, omega arith, omega arith, refl, λ g l. absurd (omega (arith, l)), shut)
  where
    shut : ShutBefore eqb (spot_of hash) true chart 1 7
    shut zero l = (
      λ i n phase borrowed holds of. absurd (let stored = (stands.0.common.keyed 0 i n phase borrowed holds).0 in omega (arith, stored)),
      inr (λ j most. each (λ x. is_taken true (chart.place 0 (spot_of hash 8 7 x)) ≡ true) refl refl refl refl refl refl refl refl j (omega (arith, most))),
    )
    shut (suc u) l = absurd (omega (arith, l))

-- of that pair alone
only : (P : ℕ → Type 0) → P 0 → (n : ℕ) → n < 1 → P n
only P first zero l = first
only P first (suc n) l = absurd (omega (arith, l))

-- its block is the fourth one
abbrev its_memory : Mem (Node ℕ ℕ)
its_memory = with_word memory (Word 3 PLACES) 8192

abbrev hand_of : ℕ → Hand
hand_of zero = NoBlock
hand_of (suc zero) = Making 0
hand_of (suc (suc zero)) = InUse 1
hand_of (suc (suc (suc zero))) = InUse 1
hand_of (suc (suc (suc (suc zero)))) = InUse 1
hand_of (suc (suc (suc (suc (suc b))))) = NoBlock

abbrev world : World (Node ℕ ℕ)
world = record { memory = its_memory; row = λ i. Rests; uses = λ s. Vacant; hand = hand_of; log = [] }

abbrev blocks : Blocks
blocks = record { table = λ t. suc (suc t); pair = λ n. 4; table_known = λ t. true; pair_known = λ n. true }

first_shown : RepresentsTable hash its_memory with_seven blocks 0
first_shown = record {
  value = refl;
  next = refl;
  claim = refl;
  copied = refl;
  status = refl;
  places = each (λ i. word_at its_memory (Word 2 (i + PLACES)) ≡ Some (place_word hash with_seven blocks (with_seven.place 0 i))) refl refl refl refl refl refl refl refl;
}

second_shown : RepresentsTable hash its_memory with_seven blocks 1
second_shown = record {
  value = refl;
  next = refl;
  claim = refl;
  copied = refl;
  status = refl;
  places = each (λ i. word_at its_memory (Word 3 (i + PLACES)) ≡ Some (place_word hash with_seven blocks (with_seven.place 1 i))) refl refl refl refl refl refl refl refl;
}

shown : Represents hash its_memory with_seven blocks 0
shown = record {
  root_there = refl;
  tables = λ t made known. both (RepresentsTable hash its_memory with_seven blocks) first_shown second_shown t made;
  pairs = λ n stored known. only (λ x. (k : ℕ) × (v : ℕ) × (value_at its_memory 4 ≡ Some (node.Pair k v)) × (with_seven.key x ≡ Some k)) (7, 9, refl, refl) n stored;
  sized = both (λ t. IsTableLen (with_seven.len t)) length_fits length_fits;
  linked = λ t from made. refl;
  named = λ t i n phase borrowed made known holds. refl;
  table_numbers = λ t made known. (omega arith, omega (arith, made));
  pair_numbers = λ n stored known. (omega arith, omega arith);
  tables_apart = λ t u made made2 known known2 same. omega (arith, same);
  pairs_apart = λ n o stored stored2 known known2 same. omega (arith, stored, stored2);
}

-- the map stands there
is_map : IsMapIn eqb hash setting world with_seven blocks
is_map = record {
  map = record { rule = stands_with.0; shows = shown; later = λ t u before made known. refl };
  counter = refl;
  shards = shard;
  tables = λ t from made. both (λ u. hand_of (suc (suc u)) ≡ InUse 1) refl refl t made;
  pairs = λ n current. refl;
  named = λ t i n phase borrowed from made holds. inl (inl refl);
  tables_out = λ t made known. both (λ u. IsOut (hand_of (suc (suc u)))) tt tt t made;
  pairs_out = λ n stored known. tt;
}
  where
    shard : (s : ℕ) → s ≤ 0 → (count : ℕ) × (word_at its_memory (Word 1 s) ≡ Some count)
    shard zero l = (0, refl)
    shard (suc s) l = absurd (omega (arith, l))

new_is : IsTable with_seven blocks new 1
new_is = record { made = omega arith; known = refl; is = refl }

abbrev standing_map : Standing ℕ
standing_map = record { setting = setting; hash = hash; chart = with_seven; blocks = blocks; sights = λ s. record { tables = λ t. true; pairs = λ n. true } }

-- a call that may change the pair of key 7 has met it, and asks what to do
abbrev asker : KeyCall ℕ ℕ ℕ
asker = standing (entering (computing setting 0 7) new).0 (at.Asks (asking.Present 8192))

-- told to abort, it is over, and answers with the pair
abbrev told : KeyCall ℕ ℕ ℕ
told = (replied asker reply.Abort).0

it_is_over : told.stands ≡ at.Over (ends.Answered (answers.Found 8192))
it_is_over = refl

-- It removes the pair all the same: it can.
removes_steps : (m : Mem (Node ℕ ℕ)) × (end : KeyCall ℕ ℕ ℕ × Called (Node ℕ ℕ)) × Steps Took value_at its_memory (removes_all_the_same told 8192) m end
removes_steps = (with_word its_memory (Word 3 PLACES) TOMBSTONE, answered_with told (answers.Found 8192), (Exchanged (Ok 8192), ((refl, refl), refl), refl))

-- Caller 5 has that call on the map with this number, and has changed nothing by it. Other maps and calls are whichever they are.
module _ (asks : ℕ → ℕ → Bool) (maps : ℕ → Option (Standing ℕ)) (calls : ℕ → ℕ → Option (UnderWay ℕ ℕ ℕ)) (number : ℕ) (u : CallOnKey ℕ ℕ ℕ) (unchanged : u.change ≡ Unchanged) (called : u.call ≡ asker) where
  abbrev once : CallOnKey ℕ ℕ ℕ
  once = replied_about u (Some 0) reply.Abort

  told_so : once.call ≡ told
  told_so = ap (λ (p : KeyCall ℕ ℕ ℕ). (replied p reply.Abort).0) called

  removes_is_refused : (m : Mem (Node ℕ ℕ)) (end : KeyCall ℕ ℕ ℕ × Called (Node ℕ ℕ)) → Steps Took value_at its_memory (removes_all_the_same once.call 8192) m end
      → StepsInMaps ℕ eqb asks 1 (λ i. 0) world maps calls number standing_map 5 once m end.0 end.1 → ⊥
  removes_is_refused m end steps leads =
      removes_though_told_to_abort eqb hash asks setting (λ i. 0) lawful world with_seven blocks standing_map.sights (calls number) 5 once unchanged is_map stands_with.1 1 0 false
      (subst (λ (p : KeyCall ℕ ℕ ℕ). IsTable with_seven blocks p.trial.table 1) (sym told_so) new_is)
      (subst (λ (p : KeyCall ℕ ℕ ℕ). p.trial.probe.i < 8) (sym told_so) (omega arith))
      (subst (λ (p : KeyCall ℕ ℕ ℕ). with_seven.place 1 p.trial.probe.i ≡ Holds 0 Still false) (sym told_so) refl)
      refl 8192 refl (subst (λ (p : KeyCall ℕ ℕ ℕ). p.stands ≡ at.Over (ends.Answered (answers.Found 8192))) (sym told_so) refl) m end steps leads.step

  -- It answers that there is none.
  abbrev denying : CallOnKey ℕ ℕ ℕ
  denying = record once { call = (answering u.call answers.Absent).0 }

  denies_is_refused : maps number ≡ Some standing_map → u.keys 7 ≡ true → u.began ≡ with_seven.now
      → MapsTogether ℕ eqb asks 1 (λ i. 0) world maps (with_call calls number 5 (Some (OnKey denying))) → ⊥
  denies_is_refused here asked began all =
      denies_its_pair eqb hash asks setting (λ i. 0) lawful world with_seven blocks standing_map.sights (with_call calls number 5 (Some (OnKey denying)) number) 5 denying unchanged
      (subst (λ (p : KeyCall ℕ ℕ ℕ). (answering p answers.Absent).0.stands ≡ at.Over (ends.Answered answers.Absent)) (sym called) refl)
      0 7 (omega arith) refl asked was has (all.each number standing_map here)
    where
      was : (m : ℕ) → u.began ≤ m → m ≤ 1 → with_seven.was m 0 ≡ true
      was m from to = (let now : m ≡ 1 = omega (arith, from, to, began) in subst (λ (x : ℕ). with_seven.was x 0 ≡ true) (sym now) refl)

      has : with_call calls number 5 (Some (OnKey denying)) number 5 ≡ Some (OnKey denying)
      has = ap (λ (f : ℕ → Option (UnderWay ℕ ℕ ℕ)). f 5) (at_same calls number (with_at (calls number) 5 (Some (OnKey denying))) number refl) ∙ at_same (calls number) 5 (Some (OnKey denying)) 5 refl

-- It was told about that pair, and goes against that, by its answer: told to store 80 there, it answers that it has found it; told to abort, it removes
-- the pair and says so. It can do both.
abbrev asked : MachineReply ℕ → List (Asked ℕ)
asked said = record { about = Some 0; told = said } ∷ []

tells_steps : (m : Mem (Node ℕ ℕ)) × (end : KeyCall ℕ ℕ ℕ × Called (Node ℕ ℕ)) × Steps Took value_at its_memory (tells_at_once (replied asker (reply.Insert 80)).0 (answers.Found 8192)) m end
tells_steps = (its_memory, answered_with (replied asker (reply.Insert 80)).0 (answers.Found 8192), (refl, refl))

removes_and_tells_steps : (m : Mem (Node ℕ ℕ)) × (end : KeyCall ℕ ℕ ℕ × Called (Node ℕ ℕ)) × Steps Took value_at its_memory (removes_and_tells told 8192) m end
removes_and_tells_steps = (with_word its_memory (Word 3 PLACES) TOMBSTONE, answered_with told (answers.Removed 8192), (Exchanged (Ok 8192), ((refl, refl), refl), refl))

module _ (asks : ℕ → ℕ → Bool) (maps : ℕ → Option (Standing ℕ)) (calls : ℕ → ℕ → Option (UnderWay ℕ ℕ ℕ)) (number : ℕ) (u : CallOnKey ℕ ℕ ℕ) (called : u.call ≡ asker)
    (untold : u.pair ≡ IsTold computes (Some 7) []) where
  names : (said : MachineReply ℕ) → IsWordOf hash its_memory with_seven blocks (Some 7) (asked said) 8192 (Some 0)
  names said = ((omega arith, refl), false, refl)

  -- a reply that it takes is kept
  kept : (said : MachineReply ℕ) → (replied asker said).1 ≡ Ok tt → (replied_about u (Some 0) said).pair ≡ IsTold computes (Some 7) (asked said)
  kept said taken =
      ap (λ (g : Given ℕ ℕ). with_reply g (Some 0) said (replied u.call said).1) untold ∙ ap (λ (p : KeyCall ℕ ℕ ℕ). with_reply (IsTold computes (Some 7) []) (Some 0) said (replied p said).1) called
      ∙ ap (with_reply (IsTold computes (Some 7) []) (Some 0) said) taken

  keeps_is_refused : (m : Mem (Node ℕ ℕ)) (end : KeyCall ℕ ℕ ℕ × Called (Node ℕ ℕ)) → Steps Took value_at its_memory (tells_at_once (replied_about u (Some 0) (reply.Insert 80)).call (answers.Found 8192)) m end
      → StepsInMaps ℕ eqb asks 1 (λ i. 0) world maps calls number standing_map 5 (replied_about u (Some 0) (reply.Insert 80)) m end.0 end.1 → ⊥
  keeps_is_refused m end steps leads =
      keeps_what_it_is_to_replace eqb hash asks setting (λ i. 0) lawful world with_seven blocks standing_map.sights (calls number) 5 (replied_about u (Some 0) (reply.Insert 80)) (Some 7) (asked (reply.Insert 80))
      (kept (reply.Insert 80) refl) m is_map stands_with.1 8192 0 (names (reply.Insert 80)) 80 refl end steps leads.step

  removes_and_tells_is_refused : (m : Mem (Node ℕ ℕ)) (end : KeyCall ℕ ℕ ℕ × Called (Node ℕ ℕ)) → Steps Took value_at its_memory (removes_and_tells (replied_about u (Some 0) reply.Abort).call 8192) m end
      → StepsInMaps ℕ eqb asks 1 (λ i. 0) world maps calls number standing_map 5 (replied_about u (Some 0) reply.Abort) m end.0 end.1 → ⊥
  removes_and_tells_is_refused m end steps leads =
      removes_what_it_is_to_leave eqb hash asks setting (λ i. 0) lawful world with_seven blocks standing_map.sights (calls number) 5 (replied_about u (Some 0) reply.Abort) (Some 7) (asked reply.Abort)
      (kept reply.Abort refl) m is_map stands_with.1 8192 0 (names reply.Abort) refl end steps leads.step
