-- A copier, in incremental mode, marks the place of a pair that it has put as copied.
use Rattle.std.specs.Prelude.{IsSome, bit_or}
use Rattle.std.proofs.Common.{◌≡◌, ℕ, suc, Bool, true, refl, ap, sym, subst, ◌∙◌}
use Rattle.map_rule.specs.Given.SeizeWordsMem.{Mem, Can, Took, value_at, word_at, with_word}
use Rattle.map_rule.specs.Given.SeizeWordsOp.{Store, Stored}
use Rattle.map_rule.specs.Given.SeizeWordsPlan.{May, Steps}
use Rattle.map_rule.proofs.Given.SeizeWordsOneOwner.Operations.{may_store, stored}
use Rattle.papaya_raw.specs.Given.SeizeWorld.{World}
use Rattle.papaya_raw.specs.Given.TablesChunks.{is_incremental}
use Rattle.map_rule.specs.Given.ResizeCopierMarks.{covers, to}
use Rattle.map_rule.specs.Given.ResizeCopierStates.{place_done}
use Rattle.papaya_raw.specs.Given.TablesTablePlaces.{at_place}
use Rattle.papaya_raw.specs.Given.TablesDeclared.marks.TheConstants.{COPYING, COPIED}
use Rattle.papaya_raw.specs.Given.TablesDeclared.node.Node.{Node}
use Rattle.papaya_raw.specs.Given.TablesDeclared.table.Table.{Table}
use Rattle.map_rule.specs.Given.ResizeDeclared.yielding.Yielding.{Yielding}
use Rattle.papaya_raw.specs.Given.TablesDeclared.setting.Setting.{Setting}
use Rattle.map_rule.specs.Given.ResizeDeclared.copier.Copier.{Copier}
use Rattle.map_rule.specs.Given.ResizeDeclared.copier.Copying.TheVariants as at
use Rattle.map_rule.specs.Chart.{Place, Copying, Copied, Holds, Done, Chart, put_in}
use Rattle.map_rule.specs.Rule.{IsLawful}
use Rattle.map_rule.specs.Moves.{Covers, copied_place, WasPut}
use Rattle.map_rule.specs.Words.{Blocks, place_word, byte_of}
use Rattle.map_rule.specs.Maps.{spot_of}
use Rattle.map_rule.specs.InWorld.{IsMapIn}
use Rattle.map_facts.specs.FactsCopies.{CopyingFacts, Works}
use Rattle.map_facts.specs.Told.{CopierOutcome}
use Rattle.map_facts.proofs.Copiers.CopiersDone.{done_facts}
use Rattle.map_rule.proofs.Shares.CopiersPlaces.{placed_hands, placed_shows}
use Rattle.map_facts.proofs.Copiers.CopiersWrote.{CopierPlain, copier_wrote}
use Rattle.map_rule.proofs.Words.PlaceWordsWritten.{word-covered}
use Rattle.map_rule.proofs.Moves.SamePairs.{SamePair, copying_keeps}
use Rattle.map_rule.proofs.Words.TablesSeen.{place_there}
use Rattle.map_rule.proofs.Words.OwnWords.{own_at_place}
use Rattle.map_rule.proofs.Given.General.{some_is as is_some_of}

module _ {K V : Type 0} (same : K → K → Bool) (hash : K → ℕ) (caller : ℕ) (setting : Setting) (w : World (Node K V)) (c : Chart K) (blocks : Blocks)
    (map : IsMapIn same hash setting w c blocks) (p : Copier) (is : p.setting ≡ setting) (word : ℕ)
    (f : CopyingFacts same hash w caller setting c blocks p (at.Covers word)) where
  abbrev works : Works same hash w caller setting c blocks p f.0 f.1 word
  works = f.2

  there : IsSome (word_at w.memory (at_place p.source p.place))
  there = is_some_of _ _ (place_there hash w.memory c blocks setting.root map.map.shows p.source c.first works.copies.0 p.place works.in_range.0)

  pub may_covers : May Can Took value_at w.memory (covers p word)
  may_covers = may_store w.memory (λ out. to (place_done p)) (at_place p.source p.place) (bit_or (bit_or word COPYING) COPIED) there tt

  -- the place, once it is copied
  abbrev after_place : Place
  after_place = copied_place (spot_of hash) true (c.place c.first p.place)

  copied_is : after_place ≡ Holds f.0 Copied works.borrowed
  copied_is = ap (copied_place (spot_of hash) true) works.place

  keeps : SamePair (c.place c.first p.place) after_place
  keeps = rw works.place (copying_keeps f.0 Copied works.borrowed)

  written : bit_or (bit_or word COPYING) COPIED ≡ place_word hash c blocks after_place
  written =
      ap (λ x. bit_or (bit_or x COPYING) COPIED) works.word_is ∙ word-covered blocks.pair (λ n. byte_of hash (c.key n)) f.0 works.borrowed
      ∙ ap (place_word hash c blocks) (sym copied_is)

  pub went_covers : IsLawful same (spot_of hash) → is_incremental setting.mode ≡ true
      → (m2 : Mem (Node K V)) (end : Copier × Yielding (Node K V) Table) → Steps Took value_at w.memory (covers p word) m2 end → CopierPlain same hash caller setting w c blocks m2 end
  went_covers lawful bits m2 end steps =
      let s = stored w.memory (λ out. to (place_done p)) (at_place p.source p.place) (bit_or (bit_or word COPYING) COPIED) m2 end steps in
      copier_wrote same hash caller setting w c blocks map bits lawful (Store (at_place p.source p.place) (bit_or (bit_or word COPYING) COPIED)) Stored (at_place p.source p.place)
      (place_word hash c blocks after_place)
      (own_at_place same hash setting w c blocks map caller p.source c.first p.place works.copies.0 works.in_range.0) there m2 tt
      (s.0 ∙ ap (with_word w.memory (at_place p.source p.place)) written) (ap (with_word w.memory (at_place p.source p.place)) (sym written))
      (Covers caller p.place) refl tt (refl, works.in_range.0, works.claims.0, was_put)
      (placed_shows same hash setting w c blocks map p.source works.copies.0 p.place after_place keeps (put_in c.share (suc c.first) p.place (Done caller)) works.in_range.0)
      refl
      (placed_hands same hash setting w c blocks map p.source works.copies.0 p.place after_place keeps (put_in c.share (suc c.first) p.place (Done caller)))
      refl end
      (subst (CopierOutcome (record w { memory = with_word w.memory (at_place p.source p.place) (place_word hash c blocks after_place) }) caller setting
      (record c { place = put_in c.place c.first p.place after_place; share = put_in c.share (suc c.first) p.place (Done caller) }) blocks same hash) (sym s.1)
      (done_facts same hash w caller setting c blocks bits p is after_place (rw copied_is refl) (rw works.claims.0 refl) works.claims.1 works.copies works.has_done works.in_range works.settled
      (map.map.shows.sized c.first works.copies.0.made).most
      (record w { memory = with_word w.memory (at_place p.source p.place) (place_word hash c blocks after_place) })))
    where
      was_put : (n : ℕ) (borrowed : Bool) → c.place c.first p.place ≡ Holds n Copying borrowed → WasPut same (spot_of hash) true c n
      was_put n borrowed e = subst (WasPut same (spot_of hash) true c) (let place = works.place in cc (place, e)) f.3
