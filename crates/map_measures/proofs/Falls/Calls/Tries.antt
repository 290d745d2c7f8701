-- A call at a try: what it finds there leads it to lower numbers, if it goes on.
use Rattle.std.specs.Prelude.{◌+◌, ◌==◌, List, ◌∷◌, if◌then◌else◌}
use Rattle.std.proofs.Common.{◌≡◌, ℕ, suc, ◌<◌, ◌≤◌, Bool, true, false, Option, Some, None, inl, inr, refl, ap, sym, ◌∙◌, arith}
use Rattle.std.proofs.lemmas.Bool.{eq-eqb}
use Rattle.seize_words.specs.OneMemory.Word.{block_in}
use Rattle.map_tables.specs.Chunks.{is_incremental}
use Rattle.map_tables.specs.Finding.{finding}
use Rattle.map_tables.specs.Trials.{next_trial, with_met}
use Rattle.map_tables.specs.declared.finding.Aim.TheVariants.{Stores}
use Rattle.map_tables.specs.declared.finding.Finding.{Finding}
use Rattle.map_tables.specs.declared.finding.Finding.TheVariants as is
use Rattle.map_tables.specs.declared.marks.TheConstants.{TOMBSTONE}
use Rattle.map_tables.specs.declared.node.Node.{Node}
use Rattle.map_tables.specs.declared.resize_mode.ResizeMode.{ResizeMode}
use Rattle.map_tables.specs.declared.resize_mode.ResizeMode.TheVariants.{Incremental, Blocking}
use Rattle.map_tables.specs.declared.table.Table.{Table}
use Rattle.map_tables.specs.declared.trial.Trial.{Trial}
use Rattle.many_calls.specs.Given.RawAnswers.{ended}
use Rattle.many_calls.specs.Given.RawCallPoints.{aim_of, going, ending, storing, burying, at_gap, gap_by, asking_at, pair_by, asking_of, told, after_finding, at_free, at_end, at_pair, passed, halted}
use Rattle.many_calls.specs.Given.RawDeclared.machines.answer.KeyAnswer.TheVariants as answers
use Rattle.many_calls.specs.Given.RawDeclared.machines.answer.There.{There}
use Rattle.many_calls.specs.Given.RawDeclared.machines.answer.There.TheVariants as there
use Rattle.many_calls.specs.Given.RawDeclared.machines.answer.Missing.{Missing}
use Rattle.many_calls.specs.Given.RawDeclared.machines.answer.Missing.TheVariants as missing
use Rattle.many_calls.specs.Given.RawDeclared.machines.answer.End.{End}
use Rattle.many_calls.specs.Given.RawDeclared.machines.answer.End.TheVariants as ends
use Rattle.many_calls.specs.Given.RawDeclared.machines.answer.Called.{Called}
use Rattle.many_calls.specs.Given.RawDeclared.machines.asking.Asking.TheVariants as asking
use Rattle.many_calls.specs.Given.RawDeclared.machines.asking.Gap.{Gap}
use Rattle.many_calls.specs.Given.RawDeclared.machines.asking.Gap.TheVariants as gaps
use Rattle.many_calls.specs.Given.RawDeclared.machines.asking.Told.{Told}
use Rattle.many_calls.specs.Given.RawDeclared.machines.asking.Told.TheVariants as tells
use Rattle.many_calls.specs.Given.RawDeclared.machines.call.KeyCall.{KeyCall}
use Rattle.many_calls.specs.Given.RawDeclared.machines.call.Calling.TheVariants as at
use Rattle.many_calls.specs.Given.RuleChart.{Still, Copying, Copied, Place, Empty, Tombstone, Holds, Chart}
use Rattle.many_calls.specs.Given.RuleMaps.{spot_at, IsTrial}
use Rattle.many_calls.specs.Given.RuleWords.{Blocks, word_of, byte_of, place_word}
use Rattle.many_calls.proofs.Given.RuleKeys.TriesSeen.{IsNext, next_met}
use Rattle.many_calls.proofs.Given.RuleWords.PlaceWords.{HasBlock, HasByte}
use Rattle.many_calls.proofs.Given.RuleWords.PlaceWordsFinding.{finding-tombstone, finding-other, finding-still, finding-copying, finding-copied}
use Rattle.many_calls.specs.Given.PointsMeasures.{IsBelow}
use Rattle.map_measures.specs.Falls.Calls.{to_empty, stale, trying, number_of_call}
use Rattle.map_measures.specs.Falls.Falls.{GoesFurther}
use Rattle.map_measures.proofs.Falls.Calls.TrySeen.{at_try_is}

module _ (block byte : ℕ → ℕ) where
  -- by whom stores, only the word of an empty place is found free
  pub free_empty : (mode : ResizeMode) (place : Place) (same : Bool) → HasBlock block place → HasByte byte place
      → finding mode Stores (word_of block byte place) same ≡ is.Free → word_of block byte place ≡ 0
  free_empty mode (Empty false) same some low e = refl
  free_empty (Incremental chunk) (Empty true) same some low e = absurd (cc)
  free_empty Blocking (Empty true) same some low e = absurd (cc)
  free_empty mode (Tombstone mark) same some low e = absurd (let f = finding-tombstone block byte mode Stores mark same in cc)
  free_empty mode (Holds n phase borrowed) false some low e =
      absurd (let f = finding-other block byte mode Stores n borrowed (low n phase borrowed refl) (some n phase borrowed refl) phase in cc)
  free_empty mode (Holds n Still borrowed) true some low e =
      absurd (let f = finding-still block byte mode Stores n borrowed (low n Still borrowed refl) (some n Still borrowed refl) in cc)
  free_empty (Incremental chunk) (Holds n Copying borrowed) true some low e =
      absurd (let f = finding-copying block byte (Incremental chunk) Stores n borrowed (low n Copying borrowed refl) (some n Copying borrowed refl) in cc)
  free_empty Blocking (Holds n Copying borrowed) true some low e =
      absurd (let f = finding-copying block byte Blocking Stores n borrowed (low n Copying borrowed refl) (some n Copying borrowed refl) in cc)
  free_empty (Incremental chunk) (Holds n Copied borrowed) true some low e =
      absurd (let f = finding-copied block byte (Incremental chunk) Stores n borrowed (low n Copied borrowed refl) (some n Copied borrowed refl) in cc)
  free_empty Blocking (Holds n Copied borrowed) true some low e =
      absurd (let f = finding-copied block byte Blocking Stores n borrowed (low n Copied borrowed refl) (some n Copied borrowed refl) in cc)

-- one pair at most is to come out of a call's own block
pub one_most : {K : Type 0} (key : Option K) → to_empty key ≤ 1
one_most None = omega arith
one_most (Some key) = omega arith

module _ {K V Q : Type 0} (hash : K → ℕ) (c : Chart K) (blocks : Blocks) where
  -- a call that ends doesn't go on, or gives up its own block first
  pub ending_below : (p : KeyCall K V Q) (end : End) (stage : ℕ) (xs : List ℕ) → 1 < stage → GoesFurther (ending {V = V} p end).1 → IsBelow (number_of_call hash c blocks (ending p end).0) (stage ∷ xs)
  ending_below p end stage xs l goes = by_own (p.own == 0) goes
    where
      not_on : (end : End) → GoesFurther (ended {T = Node K V} end) → ⊥
      not_on (ends.Answered answer) goes = goes
      not_on (ends.Refused fault) goes = goes

      by_own : (b : Bool) → GoesFurther (if b then (record p { stands = at.Over end }, ended {T = Node K V} end) else going p (at.Drops end)).1
          → IsBelow (number_of_call hash c blocks (if b then (record p { stands = at.Over end }, ended {T = Node K V} end) else going p (at.Drops end)).0) (stage ∷ xs)
      by_own true e = absurd (not_on end e)
      by_own false e = inl l

  -- where the key is missing, it asks, or goes on
  pub asking_below : (p : KeyCall K V Q) (gap : Gap) (xs : List ℕ) → (GoesFurther (at_gap {V = V} gap p).1 → IsBelow (number_of_call hash c blocks (at_gap gap p).0) xs)
      → GoesFurther (asking_at {V = V} gap p).1 → IsBelow (number_of_call hash c blocks (asking_at gap p).0) xs
  asking_below p gap xs goes_on = by p.replies.absent
    where
      by : (told : Told V) → GoesFurther (gap_by told gap p).1 → IsBelow (number_of_call hash c blocks (gap_by told gap p).0) xs
      by tells.Nothing goes = absurd goes
      by (tells.Value value) goes = goes_on goes
      by tells.Own goes = goes_on goes
      by tells.Removes goes = goes_on goes

  module _ (p : KeyCall K V Q) (t j : ℕ) (trial : IsTrial c blocks p.trial p.hash t j) where
    abbrev here : Place
    here = c.place t (spot_at (c.len t) p.hash j)

    abbrev at_try : Place
    at_try = c.place p.trial.table.turn (spot_at (c.len p.trial.table.turn) p.hash p.trial.probe.len)

    module _ (some : HasBlock blocks.pair (c.place t (spot_at (c.len t) p.hash j))) (low : HasByte (λ n. byte_of hash (c.key n)) (c.place t (spot_at (c.len t) p.hash j)))
        (next : IsNext c blocks p.hash t (next_trial p.trial) j) (word : ℕ) (word_is : word ≡ place_word hash c blocks (c.place t (spot_at (c.len t) p.hash j)))
        (loaded : Bool) (point : ℕ) (some_left : 2 < point) (more_left : loaded ≡ false → 3 < point) where
      abbrev Leads : KeyCall K V Q × Called (Node K V) → Type 0
      Leads end = GoesFurther end.1 → IsBelow (number_of_call hash c blocks end.0) (trying hash c blocks p point)

      -- it stays at the try
      stays : (lower : ℕ) → lower < point → IsBelow (trying hash c blocks p lower) (trying hash c blocks p point)
      stays lower l = inr (refl, inr (refl, inr (refl, inr (refl, inr (refl, inl l)))))

      -- the word is there that is to be replaced
      fresh : (found : ℕ) → found ≡ word → stale hash c blocks p found ≡ 0
      fresh found is =
          ap (λ (b : Bool). if b then 0 else 4)
          (eq-eqb found (place_word hash c blocks at_try) (is ∙ word_is ∙ ap (place_word hash c blocks) (sym (at_try_is hash c blocks p t j trial))))

      tries_there : (found new : ℕ) → found ≡ word → Leads (going p (at.Tries found new))
      tries_there found new is goes = stays (stale hash c blocks p found) (let none = fresh found is in omega (arith, none, some_left))

      fills_there : (found : ℕ) → found ≡ word → Leads (going p (at.Asks (asking.Fills found)))
      fills_there found is goes =
          stays (suc (to_empty p.replies.key + stale hash c blocks p found)) (let none = fresh found is in let few = one_most p.replies.key in omega (arith, none, few, some_left))

      gives_there : Leads (going p (at.Asks (asking.GivesUp word)))
      gives_there goes = stays (suc (stale hash c blocks p word)) (let none = fresh word refl in omega (arith, none, some_left))

      -- its own block is to stand there
      stores : (told : Told V) (found : ℕ) → found ≡ word → Leads (storing told p found)
      stores tells.Own found is = tries_there found p.own is
      stores tells.Nothing found is = fills_there found is
      stores (tells.Value value) found is = fills_there found is
      stores tells.Removes found is = fills_there found is

      -- or a tombstone
      buries : Leads (burying p word)
      buries = by (p.own == 0)
        where
          by : (b : Bool) → Leads (if b then going p (at.Tries word TOMBSTONE) else going p (at.Asks (asking.GivesUp word)))
          by true = tries_there word TOMBSTONE refl
          by false = gives_there

      told_of_pair : (told : Told V) → Leads (pair_by told p word)
      told_of_pair tells.Nothing goes = absurd goes
      told_of_pair tells.Removes goes = buries goes
      told_of_pair (tells.Value value) goes = stores (tells.Value value) word refl goes
      told_of_pair tells.Own goes = stores tells.Own word refl goes

      asks_of : Leads (asking_of p word)
      asks_of = by (block_in word == p.replies.pair)
        where
          by : (b : Bool) → Leads (if b then pair_by p.replies.present p word else pair_by tells.Nothing p word)
          by true = told_of_pair p.replies.present
          by false = told_of_pair tells.Nothing

      -- whatever its tries have met
      leaves : (met : ℕ) → Leads (going (record p { trial = record p.trial { met = met } }) at.Nexts)
      leaves met goes = inr (refl, inr (refl, inr (refl, inr (refl, inl (omega arith)))))

      free_there : (flag : Bool) → finding p.setting.mode Stores (place_word hash c blocks here) flag ≡ is.Free → 0 ≡ word
      free_there flag free = sym (free_empty blocks.pair (λ n. byte_of hash (c.key n)) p.setting.mode here flag some low free) ∙ sym word_is

      frees : (m : Missing) → p.missing ≡ m → (flag : Bool) → finding p.setting.mode (aim_of m) (place_word hash c blocks here) flag ≡ is.Free → Leads (at_free m p)
      frees missing.Answers e flag free = ending_below p (ends.Answered answers.Absent) 5 _ (omega arith)
      frees missing.Asks e flag free = asking_below p gaps.Free (trying hash c blocks p point) (stores p.replies.absent 0 (free_there flag free))
      frees missing.Puts e flag free = tries_there 0 p.own (free_there flag free)

      ends_there : (met : ℕ) (m : Missing) → p.missing ≡ m → Leads (at_end m (record p { trial = record p.trial { met = met } }))
      ends_there met missing.Asks e = asking_below (record p { trial = record p.trial { met = met } }) gaps.Past (trying hash c blocks p point) (leaves met)
      ends_there met missing.Answers e = ending_below (record p { trial = record p.trial { met = met } }) (ends.Answered answers.Absent) 5 _ (omega arith)
      ends_there met missing.Puts e = leaves met

      passes : (met : ℕ) (o : Option Trial) → IsNext c blocks p.hash t o j → Leads (passed (record p { trial = record p.trial { met = met } }) o)
      passes met None is = by_mode (is_incremental p.setting.mode)
        where
          by_mode : (b : Bool) → Leads (if b then going (record p { trial = record p.trial { met = met } }) at.Nexts else at_end p.missing (record p { trial = record p.trial { met = met } }))
          by_mode true = leaves met
          by_mode false = ends_there met p.missing refl
      passes met (Some other) is = λ goes.
          let turn = ap (λ (x : Table). x.turn) trial.table.is in
          let turn2 = ap (λ (x : Table). x.turn) is.table.is in
          let limit = ap (λ (x : Table). x.limit) trial.table.is in
          let limit2 = ap (λ (x : Table). x.limit) is.table.is in
          let try = trial.try in let try2 = is.try in let most = is.most in
          inr (refl, inr (refl, inr (omega (arith, turn, turn2), inr (refl, inl (omega (arith, limit, limit2, try, try2, most))))))

      halts : (b : Bool) → b ≡ loaded → Leads (halted b p)
      halts true e goes = absurd goes
      halts false e goes = inr (refl, inr (refl, inr (refl, inr (refl, inr (refl, inl (more_left (sym e)))))))

      pairs : (x : There) → p.there ≡ x → Leads (at_pair x p word)
      pairs there.Answers e = ending_below p (ends.Answered (answers.Found word)) 5 _ (omega arith)
      pairs there.Puts e = tries_there word p.own refl
      pairs there.Removes e = tries_there word TOMBSTONE refl
      pairs there.Asks e = asks_of

      by_finding : (flag : Bool) (x : Finding) → finding p.setting.mode (aim_of p.missing) (place_word hash c blocks here) flag ≡ x → Leads (after_finding loaded p word x)
      by_finding flag is.Free e = frees p.missing refl flag e
      by_finding flag is.Passed e = passes (with_met p.trial word).met (next_trial (with_met p.trial word)) (next_met c blocks p.hash t p.trial j (with_met p.trial word).met next)
      by_finding flag is.Moved e = leaves p.trial.met
      by_finding flag is.Copying e = halts loaded refl
      by_finding flag is.There e = pairs p.there refl

      -- what the word says leads to lower numbers
      pub told_below : (flag : Bool) → GoesFurther (told {V = V} loaded p word flag).1 → IsBelow (number_of_call hash c blocks (told loaded p word flag).0) (trying hash c blocks p point)
      told_below flag =
          by_finding flag (finding p.setting.mode (aim_of p.missing) word flag) (sym (ap (λ (x : ℕ). finding p.setting.mode (aim_of p.missing) x flag) word_is))
