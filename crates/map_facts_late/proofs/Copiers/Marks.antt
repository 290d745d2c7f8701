-- A copier marks a place of its source, which the root has left: it was marked, and stays as it is.
use Rattle.std.specs.Prelude.{Some, bit_or}
use Rattle.std.proofs.Common.{◌≡◌, ◌≢◌, ℕ, ◌+◌, ◌^◌, ◌<◌, Bool, true, false, inl, inr, refl, ap, sym, subst, ◌∙◌, arith}
use Rattle.map_facts.specs.Given.SeizeWordsDeclared.at.At.{At}
use Rattle.map_facts.specs.Given.SeizeWordsMem.{Mem, Can, Took, value_at, with_word}
use Rattle.map_facts.specs.Given.SeizeWordsPlan.{May, Steps}
use Rattle.map_facts.specs.Given.SeizeWorld.{World}
use Rattle.map_facts.specs.Given.TablesChunks.{is_incremental}
use Rattle.map_facts.specs.Given.TablesTablePlaces.{at_place}
use Rattle.map_facts.specs.Given.TablesDeclared.marks.TheConstants.{COPYING}
use Rattle.map_facts.specs.Given.TablesDeclared.node.Node.{Node}
use Rattle.map_facts.specs.Given.TablesDeclared.setting.Setting.{Setting}
use Rattle.map_facts.specs.Given.TablesDeclared.table.Table.{Table}
use Rattle.map_facts.specs.Given.TablesDeclared.table_words.TheConstants.{PLACES}
use Rattle.map_facts.specs.Given.ResizeCopierMarks.{without_copying, probing, marks}
use Rattle.map_facts.specs.Given.ResizeCopierStates.{place_done}
use Rattle.map_facts.specs.Given.ResizeDeclared.copier.Copier.{Copier}
use Rattle.map_facts.specs.Given.ResizeDeclared.yielding.Yielding.{Yielding}
use Rattle.map_facts.specs.Given.ResizeDeclared.yielding.Yielding.TheVariants.{Goes}
use Rattle.map_facts.specs.Given.RuleChart.{Phase, Still, Copying, Copied, Place, Empty, Tombstone, Holds, Chart, is_marked}
use Rattle.map_facts.specs.Given.RuleInWorld.{IsMapIn}
use Rattle.map_facts.specs.Given.RuleMaps.{spot_of}
use Rattle.map_facts.specs.Given.RuleMoves.{marked}
use Rattle.map_facts.specs.Given.RuleRule.{Rule}
use Rattle.map_facts.specs.Given.RuleWords.{Blocks, byte_of, place_word}
use Rattle.map_facts.proofs.Given.RuleKeys.TriesSeen.{first_is}
use Rattle.map_facts.proofs.Given.RuleWords.PlaceWordsWritten.{word-marked, without_copying-copying}
use Rattle.map_facts.proofs.Given.RuleWords.TablesSeen.{place_stands}
use Rattle.map_facts.proofs.Given.RuleWords.WrittenAgain.{written_again}
use Rattle.map_facts.proofs.Blocking.Sources.{may_mark as may_mark_source, mark_tells}
use Rattle.map_facts_late.specs.LateCopies.{CopiesSuperseded, CopiesAborted, HasRange, WorksOnSuperseded}
use Rattle.map_facts_late.proofs.Copiers.LateDone.{late_goes_on}
use Rattle.map_facts_late.proofs.Copiers.LateWent.{LateCame, late_goes, late_on}

-- a place that is marked stays as it is
marked_again : (place : Place) → is_marked place ≡ true → marked place ≡ place
marked_again (Empty true) e = refl
marked_again (Empty false) e = absurd (cc e)
marked_again (Tombstone true) e = refl
marked_again (Tombstone false) e = absurd (cc e)
marked_again (Holds n Still borrowed) e = absurd (cc e)
marked_again (Holds n Copying borrowed) e = refl
marked_again (Holds n Copied borrowed) e = refl

-- the pair of a marked place is being copied, in blocking mode
is_copying : (n : ℕ) (phase : Phase) (borrowed : Bool) → is_marked (Holds n phase borrowed) ≡ true → phase ≢ Copied → borrowed ≡ false
    → Holds n phase borrowed ≡ Holds n Copying false
is_copying n Still borrowed e other lent = absurd (cc e)
is_copying n Copying borrowed e other lent = ap (Holds n Copying) lent
is_copying n Copied borrowed e other lent = absurd (other refl)

module _ {K V : Type 0} (same : K → K → Bool) (hash : K → ℕ) (fits : (k : K) → hash k < 2 ^ 64) (caller : ℕ) (setting : Setting) (began : ℕ)
    (w : World (Node K V)) (c : Chart K) (blocks : Blocks)
    (map : IsMapIn same hash setting w c blocks) (blocking : is_incremental setting.mode ≡ false) (p : Copier) (setting_is : p.setting ≡ setting)
    (u t : ℕ) (aborted : CopiesAborted same hash w caller setting c blocks began p u t) (inside : HasRange same hash w caller setting c blocks began p u) where
  abbrev place : Place
  place = c.place u p.place

  abbrev word : ℕ
  word = place_word hash c blocks place

  abbrev late : CopiesSuperseded same hash w caller setting c blocks began p u t
  late = aborted.0

  low : p.place < c.len u
  low = omega (arith, inside.0, inside.1)

  rule_blocking : Rule same (spot_of hash) false c
  rule_blocking = subst (λ (b : Bool). Rule same (spot_of hash) b c) blocking map.map.rule

  is_left : is_marked place ≡ true
  is_left = rule_blocking.in_mode.left u p.place late.left.behind late.left.was_root low

  -- the word has its mark
  same_memory : with_word w.memory (at_place p.source p.place) (bit_or word COPYING) ≡ w.memory
  same_memory =
      ap (with_word w.memory (at_place p.source p.place)) (word-marked blocks.pair (λ o. byte_of hash (c.key o)) place ∙ ap (place_word hash c blocks) (marked_again place is_left))
      ∙ ap (λ (x : At). with_word w.memory x word) (place_stands hash w.memory c blocks setting.root map.map.shows p.source u late.source p.place low)
      ∙ written_again w.memory (blocks.table u) (p.place + PLACES) word ((map.map.shows.tables u late.source.made late.source.known).places p.place low)

  pub may_mark : May Can Took value_at w.memory (marks hash p)
  may_mark = may_mark_source same hash fits setting w c blocks map blocking p setting_is u late.source low

  module _ (m2 : Mem (Node K V)) (still : m2 ≡ w.memory) (end : Copier × Yielding (Node K V) Table) where
    -- a place without a pair is done
    went_skip : end ≡ (place_done p, Goes) → LateCame same hash caller setting began w c blocks m2 end
    went_skip ends =
        let on = late_goes_on same hash caller setting began w c blocks p setting_is u t aborted inside in
        late_goes same hash caller setting began w c blocks map m2 end on.next still (ends ∙ ap (λ (q : Copier). (q, Goes)) on.next_is) on.setting_stays
        on.point

    -- a pair is to be copied
    went_pair : (n : ℕ) (phase : Phase) (borrowed : Bool) → place ≡ Holds n phase borrowed → (k : K) → c.key n ≡ Some k → (code : ℕ) → code ≡ hash k
        → end ≡ (probing p (without_copying word) code p.target, Goes) → LateCame same hash caller setting began w c blocks m2 end
    went_pair n phase borrowed e k key code code_is ends =
        late_goes same hash caller setting began w c blocks map m2 end (probing p (without_copying word) code p.target) still ends setting_is
        (u, t, n, k, 0, works, code_is, refl, first_is c blocks code t p.target late.target (map.map.shows.sized t late.target.made))
      where
        plain : (phase ≢ Copied) × (borrowed ≡ false)
        plain = rule_blocking.in_mode.plain u p.place n phase borrowed e

        place_is : place ≡ Holds n Copying false
        place_is = e ∙ is_copying n phase borrowed (ap is_marked (sym e) ∙ is_left) plain.0 plain.1

        works : WorksOnSuperseded same hash w caller setting c blocks began (probing p (without_copying word) code p.target) u t n k (without_copying word)
        works = record {
          copies = (
            late_on same hash caller setting began w c blocks p (probing p (without_copying word) code p.target) refl refl refl u t late,
            aborted.1,
          );
          inside = inside;
          place = place_is;
          key = key;
          word_is = ap (λ (x : Place). without_copying (place_word hash c blocks x)) place_is ∙ without_copying-copying blocks.pair (λ o. byte_of hash (c.key o)) n false;
        }

  pub went_mark : (m2 : Mem (Node K V)) (end : Copier × Yielding (Node K V) Table) → Steps Took value_at w.memory (marks hash p) m2 end
      → LateCame same hash caller setting began w c blocks m2 end
  went_mark m2 end s =
      let seen = mark_tells same hash fits setting w c blocks map blocking p setting_is u late.source low m2 end s in
      elim seen.1 as (λ _. LateCame same hash caller setting began w c blocks m2 end) [
        | inl a ↦ went_skip m2 (seen.0 ∙ same_memory) end a.1
        | inr a ↦ went_pair m2 (seen.0 ∙ same_memory) end a.0 a.1 a.2 a.3 a.4 a.5 a.6 a.7 a.8
      ]
