-- What a sweep shows, or asks about, was in the map since it began; at its end it has come to what it comes to; and one word names one pair.
use Rattle.std.specs.Prelude.{◌≡◌, ℕ, ◌^◌, ◌<◌, ◌≤◌, List, Some}
use Rattle.std.proofs.Common.{refl, ap, inl, inr, sym, subst, ◌∙◌, arith}
use Rattle.map_facts.specs.Given.SeizeWordsMem.{Mem}
use Rattle.map_facts.specs.Given.SeizeWordsWord.{block_in}
use Rattle.map_facts.specs.Given.TablesDeclared.node.Node.{Node}
use Rattle.map_facts.specs.Given.ReservesDeclared.sweep.Sweep.{Sweep}
use Rattle.map_facts.specs.Given.ReservesDeclared.sweep.Sweeping.{Sweeping}
use Rattle.map_facts.specs.Given.ReservesDeclared.sweep.Sweeping.TheVariants as at
use Rattle.map_facts.specs.Given.ReservesDeclared.sweep.Swept.{Swept}
use Rattle.map_facts.specs.Given.ReservesDeclared.sweep.Swept.TheVariants as swept
use Rattle.map_facts.specs.Given.RuleChart.{Chart}
use Rattle.map_facts.specs.Given.RuleWords.{Blocks, Represents, byte_of}
use Rattle.map_facts.proofs.Given.RuleWords.PlaceWords.{pair_block}
use Rattle.map_facts.proofs.Given.RuleWords.PlacesShown.{byte_of-few}
use Rattle.map_facts_late.specs.Covers.{times, WasSince, AreShown, Came, NamesPair, CoversAt}
use Rattle.map_facts_late.specs.CoversSweeps.{Adds, DoneAt}
use Rattle.map_facts_late.specs.ToldSweeps.{word_shown, ReadsPlace, OutcomeAgrees}
use Rattle.map_facts_late.proofs.Swept.Covers.Passes.{times_new}

module _ {K V : Type 0} (hash : K → ℕ) (fits : (k : K) → hash k < 2 ^ 64) (m : Mem (Node K V)) (c : Chart K) (blocks : Blocks) (root : ℕ) (shows : Represents hash m c blocks root) where
  block_of : (word n : ℕ) → NamesPair hash c blocks word n → block_in word ≡ blocks.pair n
  block_of word n (was, known, phase, borrowed, is) = ap block_in is ∙ pair_block blocks.pair (λ o. byte_of hash (c.key o)) n phase borrowed (byte_of-few hash fits (c.key n))

  pub names_one : (word n o : ℕ) → NamesPair hash c blocks word n → NamesPair hash c blocks word o → n ≡ o
  names_one word n o a b = shows.pairs_apart n o a.0 b.0 a.1 b.1 (sym (block_of word n a) ∙ block_of word o b)

module _ {K : Type 0} (hash : K → ℕ) (c : Chart K) (blocks : Blocks) (began entered : ℕ) (from : began ≤ entered) (done : List ℕ) (p : Sweep) where
  -- a moment since it came to its table is one since it began
  pub since_began : (n : ℕ) → WasSince c entered n → WasSince c began n
  since_began n (moment, late, upto, is) = (moment, omega (arith, from, late), upto, is)

  shown_at : CoversAt hash c blocks p entered done at.Ready → AreShown c entered done
  shown_at (inl (bare, came)) = came.shown
  shown_at (inr (some, covers)) = covers.shown

  abbrev pub IsNamed : ℕ → Type 0
  IsNamed word = (n : ℕ) × NamesPair hash c blocks word n × WasSince c began n

  adds_so : (before : List ℕ) (word : ℕ) → Adds hash c blocks before done word → AreShown c entered done → IsNamed word
  adds_so before word (n, named, is) shown = (n, named, since_began n (shown.0 n (subst (λ (x : List ℕ). 0 < times n x) (sym is) (let new = times_new n n before refl in omega (arith, new)))))

  -- it has read the word of a place
  read_done : (T : Type 0) (was : Sweeping) (before : List ℕ) (entered0 word : ℕ) → ReadsPlace was → DoneAt hash c blocks before done {T = T} entered0 entered (swept.Pair word) was → Adds hash c blocks before done word
  read_done T at.Words before entered0 word reads did = did.1
  read_done T (at.Tries tried) before entered0 word reads did = did.1
  read_done T at.Reads before entered0 word reads did = absurd reads
  read_done T at.Follows before entered0 word reads did = absurd reads
  read_done T (at.Copies copier) before entered0 word reads did = absurd reads
  read_done T at.Ready before entered0 word reads did = absurd reads
  read_done T (at.Asks asked) before entered0 word reads did = absurd reads
  read_done T (at.Counts removed) before entered0 word reads did = absurd reads
  read_done T (at.Disposes dispose) before entered0 word reads did = absurd reads
  read_done T at.Over before entered0 word reads did = absurd reads
  read_done T (at.Refused fault) before entered0 word reads did = absurd reads

  -- what it tells after a step
  module _ {T : Type 0} (covers : CoversAt hash c blocks p entered done p.stands) where
    pub shows_since : (was : Sweeping) (before : List ℕ) (entered0 : ℕ) (end : Swept T) → OutcomeAgrees was p.stands end → DoneAt hash c blocks before done entered0 entered end was
        → (word : ℕ) → word_shown end ≡ Some word → IsNamed word
    shows_since was before entered0 (swept.Pair shown) (reads, ready) did word e =
        subst IsNamed (let same_word : shown ≡ word = cc e in same_word)
        (adds_so before shown (read_done T was before entered0 shown reads did) (shown_at (subst (CoversAt hash c blocks p entered done) ready covers)))
    shows_since was before entered0 (swept.Asks asked) asks did word e =
        let h = subst (CoversAt hash c blocks p entered done) asks covers in
        subst IsNamed (let same_word : asked ≡ word = cc e in same_word) (h.1, h.2, since_began h.1 h.3.was)
    shows_since was before entered0 swept.Goes tells did word e = absurd (cc e)
    shows_since was before entered0 swept.Waits tells did word e = absurd (cc e)
    shows_since was before entered0 (swept.Gave value) tells did word e = absurd (cc e)
    shows_since was before entered0 swept.Ready tells did word e = absurd (cc e)
    shows_since was before entered0 swept.Done tells did word e = absurd (cc e)
    shows_since was before entered0 (swept.Refused fault) tells did word e = absurd (cc e)

    -- and at its end
    pub came_at_end : (was : Sweeping) (end : Swept T) → OutcomeAgrees was p.stands end → end ≡ swept.Done → Came c entered p.purpose done
    came_at_end was end tells is = subst (CoversAt hash c blocks p entered done) (subst (OutcomeAgrees was p.stands) is tells) covers
