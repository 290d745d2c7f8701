-- What a call does by what it remembers of its replies is what it was told: the word names the pair that it remembers.
use Rattle.std.specs.Prelude.{◌≡◌, ◌≢◌, ℕ, ◌/◌, ◌<◌, ◌^◌, Bool, List, Option, Some, None, ◌⊎◌}
use Rattle.std.proofs.Common.{ap, sym, ◌∙◌, inl, inr, arith}
use Rattle.seize_model.specs.Given.SeizeWordsWord.{block_in}
use Rattle.seize_model.specs.Given.SeizeWordsMem.{Mem}
use Rattle.seize_model.specs.Given.SeizeWorld.{World}
use Rattle.map_facts_late.specs.Given.TablesDeclared.node.Node.{Node}
use Rattle.map_facts_late.specs.Given.TablesDeclared.setting.Setting.{Setting}
use Rattle.map_facts_late.specs.Given.RawDeclared.machines.asking.Asking.TheVariants as asking
use Rattle.map_facts_late.specs.Given.RawDeclared.machines.asking.Replies.{Replies}
use Rattle.map_facts_late.specs.Given.RawDeclared.machines.call.KeyCall.{KeyCall}
use Rattle.map_facts_late.specs.Given.RawDeclared.machines.call.Calling.{Calling}
use Rattle.map_facts_late.specs.Given.RawDeclared.machines.call.Calling.TheVariants as at
use Rattle.map_facts_late.specs.Given.RuleChart.{Phase, Still, Holds, Chart}
use Rattle.map_facts_late.specs.Given.RuleWords.{Blocks, Represents, byte_of, place_word}
use Rattle.map_facts_late.proofs.Given.RuleWords.PlaceWords.{pair_block}
use Rattle.map_facts_late.proofs.Given.RuleWords.PlacesShown.{byte_of-few}
use Rattle.map_facts_late.specs.Given.PointsFactsCalls.{Change, Unchanged, NamesPair, MayReplace, MayTry, CallingFacts}
use Rattle.map_facts_late.specs.LateCalls.{SupersededCalling}
use Rattle.many_calls.specs.Asked.{Asked, IsThere, IsWordOf, Recalls, IsAsReplied, DoesAsReplied}
use Rattle.many_calls.proofs.Asked.Goes.{DoesBy}

module _ {K V : Type 0} (hash : K → ℕ) (fits : (k : K) → hash k < 2 ^ 64) (m : Mem (Node K V)) (c : Chart K) (blocks : Blocks) (its : Option K) (asked : List (Asked V))
    (root : ℕ) (shows : Represents hash m c blocks root) where
  -- the word names a pair
  abbrev pub IsNamed : ℕ → Type 0
  IsNamed word = (n : ℕ) × IsWordOf hash m c blocks its asked word (Some n)

  -- the words that a call is about to work on: that of an empty place, or of a pair
  abbrev pub NamedAt : Calling → Type 0
  NamedAt (at.Tries word new) = (word ≡ 0) ⊎ IsNamed word
  NamedAt (at.Asks (asking.GivesUp word)) = IsNamed word
  NamedAt _ = Unit {0}

  -- a word of a pair is by its block
  pub block_of_word : (word n : ℕ) (phase : Phase) (borrowed : Bool) → word ≡ place_word hash c blocks (Holds n phase borrowed) → word / 2048 ≡ blocks.pair n
  block_of_word word n phase borrowed is = ap (λ (x : ℕ). x / 2048) is ∙ pair_block blocks.pair (λ o. byte_of hash (c.key o)) n phase borrowed (byte_of-few hash fits (c.key n))

  pub some_word : (word n : ℕ) → IsThere hash m c blocks its asked n → word / 2048 ≡ blocks.pair n → word ≢ 0
  some_word word n there block zero = let some = (shows.pair_numbers n there.0 there.1).0 in omega (arith, block, zero, some)

  pub one_pair : (word n o : ℕ) → IsThere hash m c blocks its asked n → IsThere hash m c blocks its asked o → word / 2048 ≡ blocks.pair n → word / 2048 ≡ blocks.pair o → n ≡ o
  one_pair word n o a b is is2 = shows.pairs_apart n o a.0 b.0 a.1 b.1 (sym is ∙ is2)

  -- the pair that it remembers is that of the word
  pub recalls_word : (r : Replies K V) (Told : ℕ → Type 0) (word : ℕ) → block_in word ≡ r.pair → Recalls hash m c blocks its asked r Told → (word ≡ 0) ⊎ IsNamed word
      → (n : ℕ) × IsWordOf hash m c blocks its asked word (Some n) × Told n
  recalls_word r Told word block (n, there, is, told) (inl zero) = absurd (some_word word n there (block ∙ sym is) zero)
  recalls_word r Told word block (n, there, is, told) (inr (o, names)) =
      let e = one_pair word n o there names.0 (block ∙ sym is) (block_of_word word o Still names.1 names.2) in
      (n, rw e names, told)

  module _ (r : Replies K V) (own : ℕ) (h : IsAsReplied hash m c blocks its asked r own) where
    pub does_by : (Read : ℕ → Type 0) (stands : Calling) → NamedAt stands → DoesBy Read r own stands → DoesAsReplied hash m c blocks its asked r own stands
    does_by Read (at.Tries word new) named (inl (is, inl (zero, e))) = inl (is, None, zero, h.absent_own e)
    does_by Read (at.Tries word new) named (inl (is, inr (block, e))) =
        let d = recalls_word r _ word block (h.present_own e) named in inl (is, Some d.0, d.1, d.2)
    does_by Read (at.Tries word new) named (inr (is, block, e)) =
        let d = recalls_word r _ word block (h.present_removes e) named in inr (is, d.0, d.1, inl d.2)
    does_by Read (at.Asks (asking.Absent gap)) named d = d
    does_by Read (at.Asks (asking.Present word)) named d = tt
    does_by Read (at.Asks (asking.Fills word)) named d = d
    does_by Read (at.Asks (asking.GivesUp word)) named (block, e) =
        let d = recalls_word r _ word block (h.present_removes e) (inr named) in (d.0, d.1, inl d.2)
    does_by Read at.Makes named d = tt
    does_by Read (at.Looks l) named d = tt
    does_by Read at.Roots named d = tt
    does_by Read at.Probes named d = tt
    does_by Read (at.Counts removed) named d = tt
    does_by Read at.Nexts named d = tt
    does_by Read (at.Firsts making) named d = tt
    does_by Read (at.Allocs making) named d = tt
    does_by Read (at.Helps copier goal) named d = tt
    does_by Read (at.Copies copier) named d = tt
    does_by Read (at.Disposes dispose answer) named d = tt
    does_by Read (at.Drops end) named d = tt
    does_by Read (at.Over end) named d = tt

  -- what a point knows of its word
  module _ {Q : Type 0} (same : K → K → Bool) (asks : Q → K → Bool) (keys : K → Bool) (w : World (Node K V)) (caller : ℕ) (setting : Setting) (change : Change) (p : KeyCall K V Q) where
    pub named : (word : ℕ) → NamesPair same hash asks w caller setting c blocks keys change word → IsNamed word
    named word (n, k, borrowed, was, known, key, one, is) = (n, ((was, known), borrowed, is))

    pub named_or : (word : ℕ) → MayReplace same hash asks w caller setting c blocks keys change word → (word ≡ 0) ⊎ IsNamed word
    named_or word (inl zero) = inl zero
    named_or word (inr names) = inr (named word names)

    named_try : (word new : ℕ) → MayTry same hash asks w caller setting c blocks keys change p word new → (word ≡ 0) ⊎ IsNamed word
    named_try word new (inl (is, own, may)) = named_or word may
    named_try word new (inr (is, bare, names)) = inr (named word names)

    pub named_at : (stands : Calling) → CallingFacts same hash asks w caller setting c blocks keys change p stands → NamedAt stands
    named_at (at.Tries word new) f = named_try word new f.1
    named_at (at.Asks (asking.GivesUp word)) f = named word f.3
    named_at (at.Asks (asking.Absent gap)) f = tt
    named_at (at.Asks (asking.Present word)) f = tt
    named_at (at.Asks (asking.Fills word)) f = tt
    named_at at.Makes f = tt
    named_at (at.Looks l) f = tt
    named_at at.Roots f = tt
    named_at at.Probes f = tt
    named_at (at.Counts removed) f = tt
    named_at at.Nexts f = tt
    named_at (at.Firsts making) f = tt
    named_at (at.Allocs making) f = tt
    named_at (at.Helps copier goal) f = tt
    named_at (at.Copies copier) f = tt
    named_at (at.Disposes dispose answer) f = tt
    named_at (at.Drops end) f = tt
    named_at (at.Over end) f = tt

  module _ {Q : Type 0} (same : K → K → Bool) (asks : Q → K → Bool) (keys : K → Bool) (w : World (Node K V)) (caller : ℕ) (setting : Setting) (began : ℕ) (p : KeyCall K V Q) where
    pub late_named_at : (stands : Calling) → SupersededCalling same hash asks w caller setting c blocks keys began p stands → NamedAt stands
    late_named_at (at.Tries word new) f = named_try same asks keys w caller setting Unchanged p word new f.2
    late_named_at (at.Asks (asking.GivesUp word)) f = named same asks keys w caller setting Unchanged p word f.3
    late_named_at (at.Asks (asking.Absent gap)) f = tt
    late_named_at (at.Asks (asking.Present word)) f = tt
    late_named_at (at.Asks (asking.Fills word)) f = tt
    late_named_at at.Makes f = tt
    late_named_at (at.Looks l) f = tt
    late_named_at at.Roots f = tt
    late_named_at at.Probes f = tt
    late_named_at (at.Counts removed) f = tt
    late_named_at at.Nexts f = tt
    late_named_at (at.Firsts making) f = tt
    late_named_at (at.Allocs making) f = tt
    late_named_at (at.Helps copier goal) f = tt
    late_named_at (at.Copies copier) f = tt
    late_named_at (at.Disposes dispose answer) f = tt
    late_named_at (at.Drops end) f = tt
    late_named_at (at.Over end) f = tt
