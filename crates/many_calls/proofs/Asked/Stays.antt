-- What a call was told, and has done by that, is so in a later state, where what was there is there still.
use Rattle.std.specs.Prelude.{◌≡◌, ℕ, ◌/◌, ◌<◌, ◌≤◌, Bool, true, List, Option, Some, None}
use Rattle.std.proofs.Common.{ap, sym, ◌∙◌, inl, inr, arith}
use Rattle.seize_model.specs.Given.SeizeWordsMem.{Mem, value_at}
use Rattle.map_facts_late.specs.Given.TablesDeclared.node.Node.{Node}
use Rattle.map_facts_late.specs.Given.RawDeclared.machines.answer.Called.{Called}
use Rattle.map_facts_late.specs.Given.RawDeclared.machines.answer.Called.TheVariants as called
use Rattle.map_facts_late.specs.Given.RawDeclared.machines.answer.End.{End}
use Rattle.map_facts_late.specs.Given.RawDeclared.machines.answer.End.TheVariants as ends
use Rattle.map_facts_late.specs.Given.RawDeclared.machines.answer.KeyAnswer.TheVariants as answers
use Rattle.map_facts_late.specs.Given.RawDeclared.machines.answer.Missing.{Missing}
use Rattle.map_facts_late.specs.Given.RawDeclared.machines.answer.There.{There}
use Rattle.map_facts_late.specs.Given.RawDeclared.machines.asking.Asking.TheVariants as asking
use Rattle.map_facts_late.specs.Given.RawDeclared.machines.asking.Replies.{Replies}
use Rattle.map_facts_late.specs.Given.RawDeclared.machines.asking.Takes.{Takes}
use Rattle.map_facts_late.specs.Given.RawDeclared.machines.call.KeyCall.{KeyCall}
use Rattle.map_facts_late.specs.Given.RawDeclared.machines.call.Calling.{Calling}
use Rattle.map_facts_late.specs.Given.RawDeclared.machines.call.Calling.TheVariants as at
use Rattle.map_facts_late.specs.Given.RuleChart.{Phase, Still, Holds, Chart}
use Rattle.map_facts_late.specs.Given.RuleWords.{Blocks, byte_of, word_of, place_word}
use Rattle.map_facts_late.specs.Given.PointsFactsCalls.{Change, Unchanged, Stored, Replaced, Removed}
use Rattle.many_calls.specs.Asked.{Asked, IsThere, HasValueReplied, ChangesAsReplied, IsWordOf, OwnHasValueReplied, Recalls, IsAsReplied, DoesAsReplied, EndsAsReplied, OverAsReplied, RemembersReplies}

-- the pairs that could be looked at can be looked at still, with their values
pub record Stays {K V : Type 0} (m m2 : Mem (Node K V)) (c c2 : Chart K) (blocks blocks2 : Blocks) : Type 0 where
  pub stored : c.stored ≤ c2.stored
  pub keys : (n : ℕ) → n < c.stored → c2.key n ≡ c.key n
  pub pairs : (n : ℕ) → n < c.stored → blocks.pair_known n ≡ true → (blocks2.pair n ≡ blocks.pair n) × (blocks2.pair_known n ≡ true)
  pub values : (n : ℕ) → n < c.stored → blocks.pair_known n ≡ true → value_at m2 (blocks.pair n) ≡ value_at m (blocks.pair n)

-- it has not changed the map, and is not to end
abbrev pub HasYet : Calling → Type 0
HasYet (at.Counts removed) = ⊥
HasYet (at.Disposes dispose answer) = ⊥
HasYet (at.Drops end) = ⊥
HasYet (at.Over end) = ⊥
HasYet _ = Unit {0}

module _ {K V : Type 0} (hash : K → ℕ) (m : Mem (Node K V)) (c : Chart K) (blocks : Blocks) (its : Option K) (asked : List (Asked V)) where
  -- where a step leads
  abbrev pub ToldTo : {Q : Type 0} → Change → KeyCall K V Q → Called (Node K V) → Type 0
  ToldTo change p (called.Done answer) = OverAsReplied hash m c blocks its asked change p.there p.missing p.replies.takes (ends.Answered answer)
  ToldTo change p (called.Refused fault) = EndsAsReplied hash m c blocks its asked p.there p.missing p.replies.takes (ends.Refused fault)
  ToldTo change p (called.Gave value) = Unit {0}
  ToldTo change p _ = RemembersReplies hash m c blocks its asked change p p.stands

module _ {K V : Type 0} (hash : K → ℕ) (m m2 : Mem (Node K V)) (c c2 : Chart K) (blocks blocks2 : Blocks) (its : Option K) (asked : List (Asked V)) where
  -- what is in this block is in that one
  abbrev pub PairStays : ℕ → ℕ → Type 0
  PairStays b b2 = value_at m2 b2 ≡ value_at m b

  pub has_on : (about : Option ℕ) (b b2 : ℕ) → PairStays b b2 → HasValueReplied hash m c blocks its asked about b → HasValueReplied hash m2 c2 blocks2 its asked about b2
  has_on about b b2 on (k, v, is, own_key, told) = (k, v, on ∙ is, own_key, told)

  module _ (stays : Stays m m2 c c2 blocks blocks2) where
    pub there_on : (n : ℕ) → IsThere hash m c blocks its asked n → IsThere hash m2 c2 blocks2 its asked n
    there_on n h = ((let s = stays.stored in let l = h.0 in omega (arith, l, s)), (stays.pairs n h.0 h.1).1)

    pair_on : (about : Option ℕ) (n : ℕ) → IsThere hash m c blocks its asked n → HasValueReplied hash m c blocks its asked about (blocks.pair n) → HasValueReplied hash m2 c2 blocks2 its asked about (blocks2.pair n)
    pair_on about n h = has_on about (blocks.pair n) (blocks2.pair n) (ap (value_at m2) (stays.pairs n h.0 h.1).0 ∙ stays.values n h.0 h.1)

    -- what it has changed
    pub changes_on : (change : Change) → ChangesAsReplied hash m c blocks its asked change → ChangesAsReplied hash m2 c2 blocks2 its asked change
    changes_on Unchanged h = h
    changes_on (Stored n) h = (there_on n h.0, pair_on None n h.0 h.1)
    changes_on (Replaced o n) h = (there_on n h.0, pair_on (Some o) n h.0 h.1)
    changes_on (Removed o) h = h

    -- what it knows by words and blocks
    word_still : (n : ℕ) → n < c.stored → blocks.pair_known n ≡ true → (phase : Phase) (borrowed : Bool) → place_word hash c blocks (Holds n phase borrowed) ≡ place_word hash c2 blocks2 (Holds n phase borrowed)
    word_still n was known phase borrowed =
        ap (λ (b : ℕ). word_of (λ (x : ℕ). b) (λ (x : ℕ). byte_of hash (c.key n)) (Holds n phase borrowed)) (sym (stays.pairs n was known).0)
        ∙ ap (λ k. word_of (λ (x : ℕ). blocks2.pair n) (λ (x : ℕ). byte_of hash k) (Holds n phase borrowed)) (sym (stays.keys n was))

    pub word_on : (word : ℕ) (about : Option ℕ) → IsWordOf hash m c blocks its asked word about → IsWordOf hash m2 c2 blocks2 its asked word about
    word_on word None h = h
    word_on word (Some n) (there, borrowed, is) = (there_on n there, borrowed, is ∙ word_still n there.0 there.1 Still borrowed)

    -- what it is to end with
    pub ends_on : (present : There) (absent : Missing) (kind : Takes) (end : End) → EndsAsReplied hash m c blocks its asked present absent kind end
        → EndsAsReplied hash m2 c2 blocks2 its asked present absent kind end
    ends_on present absent kind (ends.Answered (answers.Found word)) h = λ asks. let d = h asks in (d.0, word_on word (Some d.0) d.1, d.2)
    ends_on present absent kind (ends.Answered answers.Absent) h = h
    ends_on present absent kind (ends.Answered (answers.Stored word)) h = tt
    ends_on present absent kind (ends.Answered (answers.Replaced old new)) h = tt
    ends_on present absent kind (ends.Answered (answers.Removed word)) h = tt
    ends_on present absent kind (ends.Refused fault) h = h

    pub over_on : (change : Change) (present : There) (absent : Missing) (kind : Takes) (end : End) → OverAsReplied hash m c blocks its asked change present absent kind end
        → OverAsReplied hash m2 c2 blocks2 its asked change present absent kind end
    over_on change present absent kind end h = (changes_on change h.0, λ none. ends_on present absent kind end (h.1 none))

    pub recalls_on : (r : Replies K V) (Told Told2 : ℕ → Type 0) → ((n : ℕ) → Told n → Told2 n) → Recalls hash m c blocks its asked r Told → Recalls hash m2 c2 blocks2 its asked r Told2
    recalls_on r Told Told2 to (n, there, block, told) = (n, there_on n there, (stays.pairs n there.0 there.1).0 ∙ block, to n told)

    -- with the pair of its own block
    module _ (own : ℕ) (own_stays : 0 < own / 2048 → PairStays (own / 2048) (own / 2048)) where
      pub own_on : (about : Option ℕ) → OwnHasValueReplied hash m c blocks its asked own about → OwnHasValueReplied hash m2 c2 blocks2 its asked own about
      own_on about (some, has) = (some, has_on about (own / 2048) (own / 2048) (own_stays some) has)

      pub as_told_on : (r : Replies K V) → IsAsReplied hash m c blocks its asked r own → IsAsReplied hash m2 c2 blocks2 its asked r own
      as_told_on r h = record {
        asks = h.asks;
        key = h.key;
        key_own = λ k v some is. h.key_own k v some (sym (own_stays some) ∙ is);
        absent_first = h.absent_first;
        absent = h.absent;
        absent_own = λ e. own_on None (h.absent_own e);
        present = λ value e. recalls_on r _ _ (λ n told. told) (h.present value e);
        present_own = λ e. recalls_on r _ _ (λ n. own_on (Some n)) (h.present_own e);
        present_removes = λ e. recalls_on r _ _ (λ n told. told) (h.present_removes e);
      }

      pub does_on : (r : Replies K V) (stands : Calling) → DoesAsReplied hash m c blocks its asked r own stands → DoesAsReplied hash m2 c2 blocks2 its asked r own stands
      does_on r (at.Tries word new) (inl (is, about, names, has)) = inl (is, about, word_on word about names, own_on about has)
      does_on r (at.Tries word new) (inr (is, n, names, removes)) = inr (is, n, word_on word (Some n) names, removes)
      does_on r (at.Asks (asking.Absent gap)) h = h
      does_on r (at.Asks (asking.Present word)) h = h
      does_on r (at.Asks (asking.Fills word)) h = h
      does_on r (at.Asks (asking.GivesUp word)) (n, names, removes) = (n, word_on word (Some n) names, removes)
      does_on r at.Makes h = h
      does_on r (at.Looks l) h = h
      does_on r at.Roots h = h
      does_on r at.Probes h = h
      does_on r (at.Counts removed) h = h
      does_on r at.Nexts h = h
      does_on r (at.Firsts making) h = h
      does_on r (at.Allocs making) h = h
      does_on r (at.Helps copier goal) h = h
      does_on r (at.Copies copier) h = h
      does_on r (at.Disposes d answer) h = h
      does_on r (at.Drops end) h = h
      does_on r (at.Over end) h = h

    module _ {Q : Type 0} (change : Change) (p : KeyCall K V Q) where
      abbrev StaysSo : Calling → Type 0
      StaysSo stands =
          (HasYet stands → 0 < p.own / 2048 → PairStays (p.own / 2048) (p.own / 2048)) → RemembersReplies hash m c blocks its asked change p stands → RemembersReplies hash m2 c2 blocks2 its asked change p stands

      both : (stands : Calling) → (0 < p.own / 2048 → PairStays (p.own / 2048) (p.own / 2048))
          → IsAsReplied hash m c blocks its asked p.replies p.own × DoesAsReplied hash m c blocks its asked p.replies p.own stands
          → IsAsReplied hash m2 c2 blocks2 its asked p.replies p.own × DoesAsReplied hash m2 c2 blocks2 its asked p.replies p.own stands
      both stands own h = (as_told_on p.own own p.replies h.0, does_on p.own own p.replies stands h.1)

      pub keeps_told_on : (stands : Calling) → StaysSo stands
      keeps_told_on (at.Counts removed) own h = changes_on change h
      keeps_told_on (at.Disposes d answer) own h = changes_on change h
      keeps_told_on (at.Drops end) own h = ends_on p.there p.missing p.replies.takes end h
      keeps_told_on (at.Over end) own h = over_on change p.there p.missing p.replies.takes end h
      keeps_told_on at.Makes own h = both at.Makes (own tt) h
      keeps_told_on (at.Looks l) own h = both (at.Looks l) (own tt) h
      keeps_told_on at.Roots own h = both at.Roots (own tt) h
      keeps_told_on at.Probes own h = both at.Probes (own tt) h
      keeps_told_on (at.Tries word new) own h = both (at.Tries word new) (own tt) h
      keeps_told_on at.Nexts own h = both at.Nexts (own tt) h
      keeps_told_on (at.Firsts making) own h = both (at.Firsts making) (own tt) h
      keeps_told_on (at.Allocs making) own h = both (at.Allocs making) (own tt) h
      keeps_told_on (at.Helps copier goal) own h = both (at.Helps copier goal) (own tt) h
      keeps_told_on (at.Copies copier) own h = both (at.Copies copier) (own tt) h
      keeps_told_on (at.Asks asks_at) own h = both (at.Asks asks_at) (own tt) h
