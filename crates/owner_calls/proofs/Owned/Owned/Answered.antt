-- What a whole call on one key has come to, whatever it was begun with, from the list of pairs to the list of pairs.
use Rattle.std.specs.Prelude.{◌≡◌, ◌≢◌, ℕ, ◌+◌, ◌%◌, ◌^◌, ◌<◌, ◌⊎◌, Bool, true, false, List, [], ◌∷◌, ◌++◌, Option, Some, None}
use Rattle.std.proofs.Common.{refl, sym, ◌∙◌, ap, subst, arith, inl, inr}
use denote.Ref.{Bor}
use Rattle.seize_words.specs.OneMemory.Mem.{Mem, value_at}
use Rattle.seize_words.specs.OneMemory.Word.{block_in}
use Rattle.seize_words.specs.declared.fault.Fault.{Fault}
use Rattle.seize_words.specs.declared.fault.Fault.TheVariants.{Capacity}
use Rattle.seize.specs.World.{World}
use Rattle.map_tables.specs.declared.lengths.Reason.{Reason}
use Rattle.map_tables.specs.declared.node.Node.{Node}
use Rattle.map_tables.specs.declared.node.Node.TheVariants as node
use Rattle.map_tables.specs.declared.setting.Setting.{Setting}
use Rattle.map_tables.specs.declared.table.Table.{Table}
use Rattle.map_straight.specs.Shown.Chain.{CannotGrowIn}
use Rattle.papaya_raw.specs.declared.machines.answer.KeyAnswer.{KeyAnswer}
use Rattle.papaya_raw.specs.declared.machines.answer.KeyAnswer.TheVariants as answers
use Rattle.papaya_raw.specs.declared.machines.asking.MachineReply.TheVariants as reply
use Rattle.papaya_raw.specs.declared.machines.call.KeyCall.{KeyCall}
use Rattle.map_straight.specs.Given.RuleChart.{Chart, Phase, Holds as HoldsPair, Still, put}
use Rattle.map_straight.specs.Given.RuleWords.{Blocks, Represents, place_word}
use Rattle.map_straight.specs.Given.RuleInWorld.{IsMapIn}
use Rattle.map_straight.proofs.Given.RuleMoves.Writes.{put_here, put_elsewhere}
use Rattle.map_straight.proofs.Given.RuleWorld.Hands.{current_known}
use Rattle.owner_whole.specs.Given.PointsFactsCalls.{Change, Unchanged, Stored, Replaced, Removed, AnswersChange}
use Rattle.owner_whole.specs.Given.AloneAlone.{HasChanged}
use Rattle.owner_whole.specs.Given.AloneCounted.{HasAdded, counted_at}
use Rattle.owner_whole.specs.Given.LateFaults.{HoldsInCalling}
use Rattle.owner_whole.specs.Given.LateKinds.{MayPut}
use Rattle.owner_whole.specs.Given.CallersAsked.{last_reply, LeavesPair, LeavesNone}
use Rattle.owner_whole.specs.Given.CallersPairs.{Given, Begun, IsTold, kind_of, StoresGiven, LeavesGiven}
use Rattle.owner_whole.specs.Given.CallersSince.{SoSince}
use Rattle.owner_whole.specs.Given.CallersTogether.{IsBegun, Gets, Removes, Inserts, TriesToInsert, Computes, Updates, UpdatesOrInserts, TriesToInsertWith, RemovesIf, in_slot}
use Rattle.owner_whole.proofs.Given.CallersAsked.By.{block_of_word}
use Rattle.owner_whole.specs.Whole.AtEnd.{AnswersSo}
use Rattle.owner_whole.specs.Whole.Limits.{IsForTheLast, IsTheLast}
use Rattle.owner_whole.specs.Whole.Contents.{ContentsBelow, AreContents, HasRun, pair_for, without}
use Rattle.owner_whole.proofs.Whole.Contents.Answers.{present_below}
use Rattle.owner_whole.proofs.Whole.Contents.AtEnd.{answers_tell_the_pairs}
use Rattle.owner_whole.proofs.Whole.Contents.Below.{below_stays, has_pair}
use Rattle.owner_whole.proofs.Whole.Contents.Runs.{runs_begin}
use Rattle.owner_whole.proofs.Whole.Keys.AtEnds.{counts_at_end, counts_where_unchanged}
use Rattle.owner_whole.proofs.Whole.Keys.Begins.{calls_begin_alone}
use Rattle.owner_calls.specs.Owned.Owned.{Holds, IsPairAt, found_by, left_by}
use Rattle.owner_whole.specs.Strides.Standing.{Standing, Waits}
use Rattle.owner_calls.specs.declared.machines.OnKey.{OnKey}
use Rattle.owner_calls.proofs.Owned.Owned.Keys.{Under, OfKind, Answered, IsRefused}
use Rattle.owner_calls.proofs.Owned.Owned.Lasts.{last_shown}
use Rattle.owner_calls.proofs.Owned.Owned.Lookups.{found_is, left_is, none_below}
use Rattle.owner_calls.proofs.Owned.Owned.Rests.{rests_as}
use Rattle.owner_calls.proofs.Owned.Owned.Standing.{blocks_below, none_there, standing_below}

-- what it has stored, removed or left, by what it was begun with, or was told
module _ {K V : Type 0} where
  abbrev pub PutsBy : Given K V → Option ℕ → K → V → Type 0
  PutsBy (Begun kind pair) about j v = pair ≡ Some (node.Pair j v)
  PutsBy (IsTold kind its asked) about j v = (its ≡ Some j) × (last_reply about asked ≡ Some (reply.Insert v))

  abbrev pub TakesBy : Given K V → ℕ → Type 0
  TakesBy (Begun kind pair) o = Unit {0}
  TakesBy (IsTold kind its asked) o = (last_reply (Some o) asked ≡ Some reply.Remove) ⊎ (last_reply (Some o) asked ≡ Some reply.Yes)

  abbrev pub LeavesBy : Given K V → Option ℕ → Type 0
  LeavesBy (Begun kind pair) about = Unit {0}
  LeavesBy (IsTold kind its asked) (Some n) = LeavesPair asked kind.present kind.takes n
  LeavesBy (IsTold kind its asked) None = LeavesNone asked kind.absent kind.takes

module _ {K V Q S : Type 0} (same : K → K → Bool) (asks : Q → K → Bool) (hashes : S → K → ℕ) (b : Bor S) (setting : Setting) (m0 : Mem (Node K V)) (xs : List (K × V)) (h : Holds same (hashes b.now) setting m0 xs)
    (keys : K → Bool) (given : Given K V) where
  abbrev hash : K → ℕ
  hash = hashes b.now

  abbrev slot_of : ℕ → ℕ
  slot_of i = setting.slot

  abbrev pub map0 : IsMapIn same hash setting h.world h.chart h.blocks
  map0 = h.rests.together.ground.map

  abbrev pub UnderIt : OnKey K V Q S → Mem (Node K V) → Type 0
  UnderIt = Under same asks hashes b setting h.lawful h.initial h.world.memory h.chart h.blocks map0.map.rule keys given

  abbrev pub AnsweredIt : Mem (Node K V) → KeyAnswer → Type 0
  AnsweredIt = Answered {Q = Q} same asks hashes b setting h.lawful h.initial h.world.memory h.chart h.blocks map0.map.rule keys given

  abbrev pub RefusedIt : Mem (Node K V) → Fault → Type 0
  RefusedIt = IsRefused {Q = Q} same asks hashes b setting h.lawful h.initial h.world.memory h.chart h.blocks map0.map.rule keys given

  nothing_added : (s : ℕ) → s % 2 ^ 64 ≡ (s + 0) % 2 ^ 64
  nothing_added s = ap (λ x. x % 2 ^ 64) (omega arith)

  -- one that begins has nothing to tell
  begun_so : (Is : Fault → Type 0) (Last : Table → Reason → Type 0) (others : K → Bool) (of : Given K V) (call : KeyCall K V Q) → IsBegun V same hash asks setting slot_of 0 others of call
      → HoldsInCalling Is Last call.trial.table call.stands
  begun_so Is Last others of call (Gets q code few class) = tt
  begun_so Is Last others of call (Removes q code few class) = tt
  begun_so Is Last others of call (Inserts key value) = tt
  begun_so Is Last others of call (TriesToInsert key value) = tt
  begun_so Is Last others of call (Computes key) = tt
  begun_so Is Last others of call (Updates key) = tt
  begun_so Is Last others of call (UpdatesOrInserts key absent) = tt
  begun_so Is Last others of call (TriesToInsertWith key) = tt
  begun_so Is Last others of call (RemovesIf q code few class) = tt

  -- a call begins
  pub begins_it : (call : KeyCall K V Q) → IsBegun V same hash asks setting slot_of 0 keys given call → counted_at call.stands ≡ 0
      → OfKind {S = S} same asks hashes b setting h.lawful h.initial h.world.memory h.chart h.blocks map0.map.rule keys given call → UnderIt (record { call = call; hasher = b; unstored = None }) m0
  begins_it call begun none fit = record {
    p = call;
    unstored = None;
    is = refl;
    course = record {
      w = h.world;
      c = h.chart;
      blocks = h.blocks;
      sights = h.sights;
      change = Unchanged;
      alone = calls_begin_alone same hash asks setting slot_of h.lawful h.world h.chart h.blocks h.sights
          (rests_as same hash setting h.incremental slot_of same asks h.world h.chart h.blocks h.sights h.rests) keys given call begun;
      memory = h.memory;
      runs = runs_begin V same hash setting keys h.world.memory h.chart h.blocks h.rests.together.ground.moments;
      counts = subst (λ x. HasAdded setting h.world.memory x h.world.memory) (sym none) (nothing_added _);
      fit = fit;
      looks = λ o low known. (known, refl, refl);
      ends = λ bits few. begun_so (IsForTheLast h.chart) (IsTheLast h.chart) keys given call begun;
    };
  }

  -- while nothing was changed, the list is the same
  abbrev Ran : Change → Mem (Node K V) → Chart K → Blocks → Type 0
  Ran change m c blocks = HasRun same hash setting keys h.world.memory h.chart h.blocks change m c blocks

  same_pairs : (m : Mem (Node K V)) (c : Chart K) (blocks : Blocks) → Ran Unchanged m c blocks → AreContents m c blocks xs
  same_pairs m c blocks run =
      let s : h.chart.stored ≡ c.stored = (let e = run.changed.stored in omega (arith, e)) in
      subst (λ (n : ℕ). ContentsBelow m c blocks n xs) s
      (below_stays same h.world.memory m h.chart c h.blocks blocks h.chart.stored xs (λ o low. ap (λ (f : ℕ → Bool). f o) run.changed.changes) run.keeps.values h.are)

  -- it was refused
  pub refused_it : (m : Mem (Node K V)) (fault : Fault) → RefusedIt m fault → Holds same hash setting m xs
  refused_it m fault r = record {
    lawful = h.lawful;
    initial = h.initial;
    few = h.few;
    one_shard = h.one_shard;
    incremental = h.incremental;
    size = h.size;
    world = r.w;
    chart = r.c;
    blocks = r.blocks;
    sights = r.sights;
    memory = r.memory;
    rests = rests_as same hash setting h.incremental slot_of asks same r.w r.c r.blocks r.sights r.rests;
    counted = counts_where_unchanged V same hash setting r.w r.c r.blocks r.rests.together.ground.map h.world.memory h.chart map0.map.rule keys r.runs.changed r.counts h.counted;
    are = same_pairs r.w.memory r.c r.blocks r.runs;
  }

  -- and for the length of a table only where none can follow the last one
  pub refused_ends : (m : Mem (Node K V)) (fault : Fault) → RefusedIt m fault → fault ≡ Capacity → CannotGrowIn m setting
  refused_ends m fault r e = last_shown same hash h.lawful setting r.w r.c r.blocks r.rests.together.ground.map m r.memory (r.ends h.incremental h.few e)

  -- by its answer: the pairs that the map had, and has, and what that is by
  module _ (m : Mem (Node K V)) where
    abbrev pub AnswersTo : KeyAnswer → Type 0
    AnswersTo answers.Absent = (found_by keys xs ≡ None) × LeavesBy given None × Holds same hash setting m xs
    AnswersTo (answers.Found word) = (x : K × V) × (found_by keys xs ≡ Some x) × IsPairAt m word x × (n : ℕ) × LeavesBy given (Some n) × Holds same hash setting m xs
    AnswersTo (answers.Stored word) =
        (found_by keys xs ≡ None) × (j : K) × (v : V) × PutsBy given None j v × IsPairAt m word (j, v) × Holds same hash setting m (xs ++ ((j, v) ∷ []))
    AnswersTo (answers.Replaced old new) =
        (x : K × V) × (found_by keys xs ≡ Some x) × IsPairAt m old x × (j : K) × (v : V) × (o : ℕ) × PutsBy given (Some o) j v × IsPairAt m new (j, v)
        × Holds same hash setting m (left_by keys xs ++ ((j, v) ∷ [])) × Waits m (block_in old) x (left_by keys xs ++ ((j, v) ∷ []))
    AnswersTo (answers.Removed word) =
        (x : K × V) × (found_by keys xs ≡ Some x) × IsPairAt m word x × (o : ℕ) × TakesBy given o × Holds same hash setting m (left_by keys xs) × Waits m (block_in word) x (left_by keys xs)

  module _ (one : (i j : K) → keys i ≡ true → keys j ≡ same i j) where
    -- the pair of the keys that the map has, in the list
    in_list : (w : World (Node K V)) (c : Chart K) (blocks : Blocks) (map : IsMapIn same hash setting w c blocks) → AreContents w.memory c blocks xs → (o : ℕ) → c.current o ≡ true → (i : K) → c.key o ≡ Some i → keys i ≡ true
        → (x : K × V) × (found_by keys xs ≡ Some x) × (value_at w.memory (blocks.pair o) ≡ Some (node.Pair x.0 x.1))
    in_list w c blocks map are o now i key of =
        let p = has_pair same hash h.lawful setting w c blocks map o now in
        let here : Some i ≡ Some p.key = sym key ∙ p.key_is in
        let e : i ≡ p.key = cc here in
        let its : keys p.key ≡ true = subst (λ (j : K). keys j ≡ true) e of in (
          (p.key, p.value),
          found_is same p.key keys (λ j. one p.key j its) xs
              ∙ present_below same hash h.lawful setting w c blocks map p.key o now p.key p.value p.block (sym (one p.key p.key its) ∙ its) c.stored xs are
              (current_known same hash setting w c blocks map.map.rule map.map.shows o now).0,
          p.block,
        )

    -- What was so at a moment, while nothing was changed, is so of the list.
    module _ (w : World (Node K V)) (c : Chart K) (blocks seen : Blocks) (map : IsMapIn same hash setting w c blocks) (run : Ran Unchanged w.memory c blocks) where
      pub none_so : SoSince hash c seen keys h.chart.now answers.Absent → found_by keys xs ≡ None
      none_so (m, l, high, all) =
          none_below same hash h.lawful setting w c blocks map keys c.stored xs (same_pairs w.memory c blocks run)
          (λ o j here key. all.1 o j (current_known same hash setting w c blocks map.map.rule map.map.shows o here).0 (run.still refl m o l high ∙ here) key)

      abbrev Met : ℕ → Type 0
      Met word =
          (x : K × V) × (found_by keys xs ≡ Some x) × (value_at w.memory (block_in word) ≡ Some (node.Pair x.0 x.1))
          × (n : ℕ) × (n < c.stored) × (seen.pair_known n ≡ true) × (phase : Phase) × (borrowed : Bool) × (word ≡ place_word hash c seen (HoldsPair n phase borrowed))

      pub met_so : (root : ℕ) → Represents hash w.memory c seen root → ((o : ℕ) → o < c.stored → seen.pair_known o ≡ true → seen.pair o ≡ blocks.pair o) → (word : ℕ)
          → SoSince hash c seen keys h.chart.now (answers.Found word) → Met word
      met_so root shows sees word (m, l, high, (n, (low, was, i, key, of), known, phase, borrowed, is)) =
          let x = in_list w c blocks map (same_pairs w.memory c blocks run) n (sym (run.still refl m n l high) ∙ was) i key of in
          let block : block_in word ≡ seen.pair n = block_of_word hash h.lawful.fits w.memory c seen None [] root shows word n phase borrowed is in
          (x.0, x.1, ap (value_at w.memory) (block ∙ sees n low known) ∙ x.2, n, low, known, phase, borrowed, is)

    -- it has answered
    module _ (named : MayPut (kind_of given).present (kind_of given).absent (kind_of given).takes → (k : K) × ((j : K) → keys j ≡ same k j)) (m : Mem (Node K V)) (answer : KeyAnswer) (a : AnsweredIt m answer) where
      abbrev map_then : IsMapIn same hash setting a.w a.c a.blocks
      map_then = a.rests.together.ground.map

      sees_current : (o : ℕ) → a.c.current o ≡ true → a.seen.pair o ≡ a.blocks.pair o
      sees_current o is = let known = current_known same hash setting a.w a.c a.seen a.seen_map.map.rule a.seen_map.map.shows o is in a.sees o known.0 known.1

      holds_at : (ys : List (K × V)) → AreContents a.w.memory a.c a.blocks ys → Holds same hash setting m ys
      holds_at ys are = record {
        lawful = h.lawful;
        initial = h.initial;
        few = h.few;
        one_shard = h.one_shard;
        incremental = h.incremental;
        size = h.size;
        world = a.w;
        chart = a.c;
        blocks = a.blocks;
        sights = a.sights;
        memory = a.memory;
        rests = rests_as same hash setting h.incremental slot_of asks same a.w a.c a.blocks a.sights a.rests;
        counted = counts_at_end same hash asks setting slot_of a.w a.c a.seen a.seen_map h.world.memory h.chart map0.map.rule
            (record { keys = keys; pair = given; began = h.chart.now; change = a.change; call = a.call }) a.runs.changed answer a.answers a.counts h.counted;
        are = are;
      }

      -- by a key of the class
      module _ (k : K) (keys_are : (j : K) → keys j ≡ same k j) where
        told : (ys : List (K × V)) × AreContents a.w.memory a.c a.blocks ys × AnswersSo same hash h.world.memory h.blocks a.w.memory a.c a.seen given k xs ys answer
        told =
            answers_tell_the_pairs same hash asks setting slot_of h.lawful h.world h.chart h.blocks map0 a.w a.c a.blocks a.seen map_then sees_current
            (record { keys = keys; pair = given; began = h.chart.now; change = a.change; call = a.call }) refl k keys_are a.runs answer a.answers xs h.are

        found : found_by keys xs ≡ pair_for same k xs
        found = found_is same k keys keys_are xs

        left : left_by keys xs ≡ without same k xs
        left = left_is same k keys keys_are xs

      -- the block of a word
      at_word : (word n : ℕ) (phase : Phase) (borrowed : Bool) → word ≡ place_word hash a.c a.seen (HoldsPair n phase borrowed) → (j : K) (v : V) → value_at a.w.memory (a.seen.pair n) ≡ Some (node.Pair j v)
          → IsPairAt m word (j, v)
      at_word word n phase borrowed is j v there =
          subst (λ (x : Mem (Node K V)). IsPairAt x word (j, v)) a.memory
          (ap (value_at a.w.memory) (block_of_word hash h.lawful.fits a.w.memory a.c a.seen None [] setting.root a.seen_map.map.shows word n phase borrowed is) ∙ there)

      -- the pair that was taken out is that of the keys, and has its value still
      abbrev Was : ℕ → Type 0
      Was word = (x : K × V) × (found_by keys xs ≡ Some x) × IsPairAt m word x × (k : K) × ((j : K) → keys j ≡ same k j)

      was : (o : ℕ) (i : K) → h.chart.current o ≡ true → h.chart.key o ≡ Some i → keys i ≡ true → o < a.c.stored → a.seen.pair_known o ≡ true
          → (word : ℕ) (borrowed : Bool) → word ≡ place_word hash a.c a.seen (HoldsPair o Still borrowed) → Was word
      was o i now key of low known word borrowed is =
          let x = in_list h.world h.chart h.blocks map0 h.are o now i key of in
          let first = current_known same hash setting h.world h.chart h.blocks map0.map.rule map0.map.shows o now in
          let looks = a.looks o first.0 first.1 in (
            x.0,
            x.1,
            at_word word o Still borrowed is x.0.0 x.0.1 (ap (value_at a.w.memory) (a.sees o low known ∙ looks.1) ∙ looks.2 ∙ x.2),
            i,
            (λ j. one i j of),
          )

      abbrev TellsIt : Change → KeyAnswer → Type 0
      TellsIt change it = AnswersChange {V = V} same hash asks a.w 0 (in_slot setting setting.slot) a.c a.seen keys a.change change it

      was_replaced : (change : Change) → HasChanged same hash setting keys h.chart a.c change → (old new : ℕ) → TellsIt change (answers.Replaced old new) → Was old
      was_replaced (Replaced o n) changed old new t = let is = changed.changes.1 in was o is.1 is.0 is.2 is.3 t.0.0 t.0.1 old t.2 t.3
      was_replaced Unchanged changed old new t = absurd t
      was_replaced (Stored n) changed old new t = absurd t
      was_replaced (Removed o) changed old new t = absurd t

      was_removed : (change : Change) → HasChanged same hash setting keys h.chart a.c change → (word : ℕ) → TellsIt change (answers.Removed word) → Was word
      was_removed (Removed o) changed word t = let is = changed.changes.0 in was o is.1 is.0 is.2 is.3 t.0.0 t.0.1 word t.1 t.2
      was_removed Unchanged changed word t = absurd t
      was_removed (Stored n) changed word t = absurd t
      was_removed (Replaced o n) changed word t = absurd t

      -- the pair with this number is out of the map, and stands in the block of this word
      record IsOut (word : ℕ) : Type 0 where
        pub number : ℕ
        pub gone : a.c.current number ≡ false
        pub low : number < a.c.stored
        pub known : a.seen.pair_known number ≡ true
        pub block : block_in word ≡ a.seen.pair number

      block_so : (word o : ℕ) (borrowed : Bool) → word ≡ place_word hash a.c a.seen (HoldsPair o Still borrowed) → block_in word ≡ a.seen.pair o
      block_so word o borrowed is = block_of_word hash h.lawful.fits a.w.memory a.c a.seen None [] setting.root a.seen_map.map.shows word o Still borrowed is

      out_replaced : (change : Change) → HasChanged same hash setting keys h.chart a.c change → (old new : ℕ) → TellsIt change (answers.Replaced old new) → IsOut old
      out_replaced (Replaced o n) changed old new t = record {
        number = o;
        gone = ap (λ (f : ℕ → Bool). f o) changed.changes.2 ∙ put_elsewhere (put h.chart.current o false) n true o apart ∙ put_here h.chart.current o false;
        low = t.0.0;
        known = t.0.1;
        block = block_so old o t.2 t.3;
      }
        where
          apart : o ≢ n
          apart e =
              let first = current_known same hash setting h.world h.chart h.blocks map0.map.rule map0.map.shows o changed.changes.1.0 in
              let low = first.0 in let is = changed.changes.0 in omega (arith, low, is, e)
      out_replaced Unchanged changed old new t = absurd t
      out_replaced (Stored n) changed old new t = absurd t
      out_replaced (Removed o) changed old new t = absurd t

      out_removed : (change : Change) → HasChanged same hash setting keys h.chart a.c change → (word : ℕ) → TellsIt change (answers.Removed word) → IsOut word
      out_removed (Removed o) changed word t = record {
        number = o;
        gone = ap (λ (f : ℕ → Bool). f o) changed.changes.1 ∙ put_here h.chart.current o false;
        low = t.0.0;
        known = t.0.1;
        block = block_so word o t.1 t.2;
      }
      out_removed Unchanged changed word t = absurd t
      out_removed (Stored n) changed word t = absurd t
      out_removed (Replaced o n) changed word t = absurd t

      -- so it waits, apart from those of the map
      apart_then : (n o : ℕ) → n < a.c.stored → a.seen.pair_known n ≡ true → a.c.current o ≡ true → a.seen.pair n ≡ a.seen.pair o → n ≡ o
      apart_then n o low known now alike =
          let k = current_known same hash setting a.w a.c a.seen a.seen_map.map.rule a.seen_map.map.shows o now in
          a.seen_map.map.shows.pairs_apart n o low k.0 known k.1 alike

      both_apart : (n o : ℕ) → a.c.current n ≡ true → a.c.current o ≡ true → a.seen.pair n ≡ a.seen.pair o → n ≡ o
      both_apart n o now now2 alike =
          let k = current_known same hash setting a.w a.c a.seen a.seen_map.map.rule a.seen_map.map.shows n now in apart_then n o k.0 k.1 now2 alike

      waits_so : (word : ℕ) → IsOut word → (x : K × V) → IsPairAt m word x → (ys : List (K × V)) → AreContents a.w.memory a.c a.blocks ys → Waits m (block_in word) x ys
      waits_so word out x there ys are = (
        blocks_below a.c a.seen.pair a.c.stored,
        (
          there,
          none_there a.c a.seen.pair (block_in word) a.c.stored (λ o low now alike. gone_not o now (apart_then out.number o out.low out.known now (sym out.block ∙ alike))),
          subst (λ (y : Mem (Node K V)). Standing y (blocks_below a.c a.seen.pair a.c.stored) ys) a.memory
              (standing_below a.c a.seen.pair a.w.memory a.blocks sees_current both_apart a.c.stored ys are),
        ),
      )
        where
          gone_not : (o : ℕ) → a.c.current o ≡ true → out.number ≡ o → ⊥
          gone_not o now is = let e : true ≡ false = sym now ∙ sym (ap a.c.current is) ∙ out.gone in cc e

      never_absent : (change : Change) → TellsIt change answers.Absent → ⊥
      never_absent Unchanged t = t
      never_absent (Stored n) t = t
      never_absent (Replaced o n) t = t
      never_absent (Removed o) t = t

      never_found : (change : Change) (word : ℕ) → TellsIt change (answers.Found word) → ⊥
      never_found Unchanged word t = t
      never_found (Stored n) word t = t
      never_found (Replaced o n) word t = t
      never_found (Removed o) word t = t

      -- what was stored
      puts_first : (g : Given K V) (n : ℕ) (j : K) (v : V) → value_at a.w.memory (a.seen.pair n) ≡ Some (node.Pair j v) → StoresGiven hash a.w.memory a.c a.seen g (Stored n) → PutsBy g None j v
      puts_first (Begun kind pair) n j v there s = sym s.2 ∙ there
      puts_first (IsTold kind its asked) n j v there s = pair_is s.1.0 s.1.1 (sym s.1.2 ∙ there) s.1.3 s.1.4
        where
          pair_is : (key : K) (value : V) → Some (node.Pair key value) ≡ Some (node.Pair j v) → its ≡ Some key → last_reply None asked ≡ Some (reply.Insert value) → (its ≡ Some j) × (last_reply None asked ≡ Some (reply.Insert v))
          pair_is key value e is said = let k : key ≡ j = cc e in let x : value ≡ v = cc e in (is ∙ ap (λ z. Some z) k, said ∙ ap (λ z. Some (reply.Insert z)) x)

      puts_again : (g : Given K V) (o n : ℕ) (j : K) (v : V) → value_at a.w.memory (a.seen.pair n) ≡ Some (node.Pair j v) → StoresGiven hash a.w.memory a.c a.seen g (Replaced o n) → PutsBy g (Some o) j v
      puts_again (Begun kind pair) o n j v there s = sym s.2 ∙ there
      puts_again (IsTold kind its asked) o n j v there s = pair_is s.1.0 s.1.1 (sym s.1.2 ∙ there) s.1.3 s.1.4
        where
          pair_is : (key : K) (value : V) → Some (node.Pair key value) ≡ Some (node.Pair j v) → its ≡ Some key → last_reply (Some o) asked ≡ Some (reply.Insert value) → (its ≡ Some j) × (last_reply (Some o) asked ≡ Some (reply.Insert v))
          pair_is key value e is said = let k : key ≡ j = cc e in let x : value ≡ v = cc e in (is ∙ ap (λ z. Some z) k, said ∙ ap (λ z. Some (reply.Insert z)) x)

      takes : (g : Given K V) (o : ℕ) → StoresGiven hash a.w.memory a.c a.seen g (Removed o) → TakesBy g o
      takes (Begun kind pair) o s = tt
      takes (IsTold kind its asked) o s = s

      -- what was left
      leaves_none : (g : Given K V) → LeavesGiven hash a.w.memory a.c a.seen g answers.Absent → LeavesBy g None
      leaves_none (Begun kind pair) s = tt
      leaves_none (IsTold kind its asked) s = s

      leaves_pair : (g : Given K V) (word n : ℕ) → n < a.c.stored → a.seen.pair_known n ≡ true → (phase : Phase) (borrowed : Bool) → word ≡ place_word hash a.c a.seen (HoldsPair n phase borrowed)
          → LeavesGiven hash a.w.memory a.c a.seen g (answers.Found word) → LeavesBy g (Some n)
      leaves_pair (Begun kind pair) word n low known phase borrowed is s = tt
      leaves_pair (IsTold kind its asked) word n low known phase borrowed is s = s n (low, known) phase borrowed is

    -- what it has come to
    module _ (named : MayPut (kind_of given).present (kind_of given).absent (kind_of given).takes → (k : K) × ((j : K) → keys j ≡ same k j)) (m : Mem (Node K V)) where
      abbrev HoldsIt : List (K × V) → Type 0
      HoldsIt ys = Holds same hash setting m ys

      pub answered_it : (answer : KeyAnswer) → AnsweredIt m answer → AnswersTo m answer
      answered_it answers.Absent a = elim a.answers.1 as (λ _. AnswersTo m answers.Absent) [
        | inl so ↦
            (let run = subst (λ x. Ran x a.w.memory a.c a.blocks) so.0 a.runs in (
              none_so a.w a.c a.blocks a.seen a.rests.together.ground.map run so.1,
              leaves_none named m answers.Absent a given so.2,
              holds_at named m answers.Absent a xs (same_pairs a.w.memory a.c a.blocks run),
            ))
        | inr did ↦ absurd (never_absent named m answers.Absent a a.change did.1)
      ]
      answered_it (answers.Found word) a = elim a.answers.1 as (λ _. AnswersTo m (answers.Found word)) [
        | inl so ↦
            (let run = subst (λ x. Ran x a.w.memory a.c a.blocks) so.0 a.runs in
            let x = met_so a.w a.c a.blocks a.seen a.rests.together.ground.map run setting.root a.seen_map.map.shows a.sees word so.1 in (
              x.0,
              x.1,
              subst (λ (y : Mem (Node K V)). IsPairAt y word x.0) a.memory x.2,
              x.3,
              leaves_pair named m (answers.Found word) a given word x.3 x.4 x.5 x.6 x.7 x.8 so.2,
              holds_at named m (answers.Found word) a xs (same_pairs a.w.memory a.c a.blocks run),
            ))
        | inr did ↦ absurd (never_found named m (answers.Found word) a a.change word did.1)
      ]
      answered_it (answers.Stored word) a =
          let k = named a.answers.0 in
          let t = told named m (answers.Stored word) a k.0 k.1 in let s = t.2 in let i = s.5 in (
            found named m (answers.Stored word) a k.0 k.1 ∙ s.0,
            s.2,
            s.3,
            puts_first named m (answers.Stored word) a given s.1 s.2 s.3 i.3 s.6,
            at_word named m (answers.Stored word) a word s.1 i.0 i.1 i.2 s.2 s.3 i.3,
            subst HoldsIt s.4 (holds_at named m (answers.Stored word) a t.0 t.1),
          )
      answered_it (answers.Replaced old new) a = elim a.answers.1 as (λ _. AnswersTo m (answers.Replaced old new)) [
        | inl so ↦ absurd so.1.3
        | inr did ↦
            (let it = was_replaced named m (answers.Replaced old new) a a.change a.runs.changed old new did.1 in
            let t = told named m (answers.Replaced old new) a it.3 it.4 in let s = t.2 in let i = s.6 in (
              it.0,
              it.1,
              it.2,
              s.3,
              s.4,
              s.0,
              puts_again named m (answers.Replaced old new) a given s.0 s.2 s.3 s.4 i.3 s.8,
              at_word named m (answers.Replaced old new) a new s.2 i.0 i.1 i.2 s.3 s.4 i.3,
              subst HoldsIt (s.5 ∙ ap (λ z. z ++ ((s.3, s.4) ∷ [])) (sym (left named m (answers.Replaced old new) a it.3 it.4)))
                  (holds_at named m (answers.Replaced old new) a t.0 t.1),
              subst (Waits m (block_in old) it.0) (s.5 ∙ ap (λ z. z ++ ((s.3, s.4) ∷ [])) (sym (left named m (answers.Replaced old new) a it.3 it.4)))
                  (waits_so named m (answers.Replaced old new) a old (out_replaced named m (answers.Replaced old new) a a.change a.runs.changed old new did.1) it.0 it.2 t.0 t.1),
            ))
      ]
      answered_it (answers.Removed word) a = elim a.answers.1 as (λ _. AnswersTo m (answers.Removed word)) [
        | inl so ↦ absurd so.1.3
        | inr did ↦
            (let it = was_removed named m (answers.Removed word) a a.change a.runs.changed word did.1 in
            let t = told named m (answers.Removed word) a it.3 it.4 in let s = t.2 in (
              it.0,
              it.1,
              it.2,
              s.0,
              takes named m (answers.Removed word) a given s.0 s.4,
              subst HoldsIt (s.2 ∙ sym (left named m (answers.Removed word) a it.3 it.4)) (holds_at named m (answers.Removed word) a t.0 t.1),
              subst (Waits m (block_in word) it.0) (s.2 ∙ sym (left named m (answers.Removed word) a it.3 it.4))
                  (waits_so named m (answers.Removed word) a word (out_removed named m (answers.Removed word) a a.change a.runs.changed word did.1) it.0 it.2 t.0 t.1),
            ))
      ]
