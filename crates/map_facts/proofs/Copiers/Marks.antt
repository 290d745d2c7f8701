-- A copier, in incremental mode, marks a place of its range.
use Rattle.std.specs.Prelude.{Option, Some, IsSome, bit_or, if◌then◌else◌, ◌==◌, ◌&&◌, not}
use Rattle.std.proofs.Common.{◌≡◌, ◌≢◌, ℕ, suc, ◌+◌, ◌/◌, ◌^◌, ◌<◌, Bool, true, false, ◌⊎◌, inl, inr, refl, ap, sym, subst, ◌∙◌, arith, eq-or-lt_of_le}
use Rattle.std.proofs.lemmas.Bool.{eqb-false, ne_eqb}
use Rattle.map_rule.specs.Given.SeizeWordsDeclared.at.At.{At}
use Rattle.map_rule.specs.Given.SeizeWordsMem.{Mem, Can, Took, value_at, word_at, with_word}
use Rattle.map_rule.specs.Given.SeizeWordsOp.{Found}
use Rattle.map_rule.specs.Given.SeizeWordsPlan.{May, Steps, Ends, Now}
use Rattle.map_rule.proofs.Given.SeizeWordsOneOwner.AfterWrites.{value_at-with_word}
use Rattle.map_rule.proofs.Given.SeizeWordsOneOwner.Operations.{may_or, ored}
use Rattle.map_rule.proofs.Given.SeizeWordsPlans.{see_if}
use Rattle.papaya_raw.specs.Given.SeizeWorld.{World}
use Rattle.papaya_raw.specs.Given.TablesChunks.{is_incremental}
use Rattle.map_rule.specs.Given.ResizeCopierMarks.{marks, marked as place_marked, is_mine, is_awaited, mine_marked, to}
use Rattle.map_rule.specs.Given.ResizeCopierStates.{next_place}
use Rattle.papaya_raw.specs.Given.TablesMarks.{has_mark}
use Rattle.papaya_raw.specs.Given.TablesTablePlaces.{at_place}
use Rattle.papaya_raw.specs.Given.TablesDeclared.marks.TheConstants.{COPYING, COPIED}
use Rattle.papaya_raw.specs.Given.TablesDeclared.node.Node.{Node}
use Rattle.papaya_raw.specs.Given.TablesDeclared.node.Node.TheVariants as node
use Rattle.papaya_raw.specs.Given.TablesDeclared.table.Table.{Table}
use Rattle.papaya_raw.specs.Given.TablesDeclared.table_words.TheConstants.{PLACES}
use Rattle.map_rule.specs.Given.ResizeDeclared.yielding.Yielding.{Yielding}
use Rattle.map_rule.specs.Given.ResizeDeclared.yielding.Yielding.TheVariants.{Goes, Waits}
use Rattle.papaya_raw.specs.Given.TablesDeclared.setting.Setting.{Setting}
use Rattle.map_rule.specs.Given.ResizeDeclared.copier.Copier.{Copier}
use Rattle.map_rule.specs.Given.ResizeDeclared.copier.Copying.TheVariants as at
use Rattle.map_rule.specs.Chart.{Still, Copying, Copied, Place, Empty, Tombstone, Holds, Chart, is_marked, is_settled}
use Rattle.map_rule.specs.Rule.{IsLawful}
use Rattle.map_rule.specs.Moves.{marked}
use Rattle.map_rule.specs.Words.{Blocks, place_word, byte_of, word_of}
use Rattle.map_rule.specs.Maps.{spot_of, IsTable}
use Rattle.map_rule.specs.InWorld.{IsMapIn}
use Rattle.map_facts.specs.FactsCopies.{CopyingFacts, HasSettled, InRange}
use Rattle.map_facts.specs.Told.{CopierOutcome}
use Rattle.map_facts.proofs.Copiers.CopiersFirst.{pair_here, went_first}
use Rattle.map_facts.proofs.Copiers.CopiersGoOn.{next_facts}
use Rattle.map_rule.proofs.Shares.CopiersMoves.{settled_next}
use Rattle.map_facts.proofs.Copiers.CopiersWrote.{CopierPlain, copier_still}
use Rattle.map_rule.proofs.Words.PlaceWords.{HasBlock}
use Rattle.map_rule.proofs.Words.PlaceWordsMarks.{has_copying, pair_copied}
use Rattle.map_rule.proofs.Words.PlaceWordsRead.{word-pair}
use Rattle.map_rule.proofs.Words.PlaceWordsWritten.{word-marked}
use Rattle.map_rule.proofs.Words.TablesSeen.{place_there, place_stands}
use Rattle.map_rule.proofs.World.WentIncremental.{rule_incremental}
use Rattle.map_rule.proofs.Words.WrittenAgain.{written_again}
use Rattle.map_rule.proofs.Given.General.{some_is as is_some_of}

-- a place that is marked is as it is once it is marked again
marked_again : (place : Place) → is_marked place ≡ true → marked place ≡ place
marked_again (Empty true) e = refl
marked_again (Empty false) e = absurd (cc e)
marked_again (Tombstone true) e = refl
marked_again (Tombstone false) e = absurd (cc e)
marked_again (Holds n Still borrowed) e = absurd (cc e)
marked_again (Holds n Copying borrowed) e = refl
marked_again (Holds n Copied borrowed) e = refl

-- where nothing is left to be copied, the place is marked
pub settled_marked : (place : Place) → is_settled place ≡ true → is_marked place ≡ true
settled_marked (Empty mark) e = e
settled_marked (Tombstone mark) e = e
settled_marked (Holds n Still borrowed) e = absurd (cc e)
settled_marked (Holds n Copying borrowed) e = absurd (cc e)
settled_marked (Holds n Copied borrowed) e = refl

-- only a copier that wants the whole table awaits a place
pub awaited_whole : (whole : Bool) (word : ℕ) → (whole && not (word / 2048 == 0) && not (has_mark word COPIED)) ≡ true → whole ≡ true
awaited_whole true word e = refl
awaited_whole false word e = absurd (cc e)

-- and it awaits each that is marked and not settled
module _ (block byte : ℕ → ℕ) where
  settled_here : (place : Place) → HasBlock block place → is_marked place ≡ true
      → (true && not (word_of block byte place / 2048 == 0) && not (has_mark (word_of block byte place) COPIED)) ≡ false → is_settled place ≡ true
  settled_here (Empty mark) some e awaited = e
  settled_here (Tombstone mark) some e awaited = e
  settled_here (Holds n Still borrowed) some e awaited = absurd (cc e)
  settled_here (Holds n Copied borrowed) some e awaited = refl
  settled_here (Holds n Copying borrowed) some e awaited =
      absurd (by (word_of block byte (Holds n Copying borrowed) / 2048 == 0) (has_mark (word_of block byte (Holds n Copying borrowed)) COPIED)
      (let k = some n Copying borrowed refl in ne_eqb _ 0 (omega (arith, k))) (pair_copied block byte n Copying borrowed) awaited)
    where
      by : (a b : Bool) → a ≡ false → b ≡ false → (true && not a && not b) ≡ false → ⊥
      by true b none copied h = cc none
      by false true none copied h = cc copied
      by false false none copied h = cc h

module _ {K V : Type 0} (same : K → K → Bool) (hash : K → ℕ) (caller : ℕ) (setting : Setting) (w : World (Node K V)) (c : Chart K) (blocks : Blocks)
    (map : IsMapIn same hash setting w c blocks) (fits : (k : K) → hash k < 2 ^ 64) (p : Copier) (is : p.setting ≡ setting)
    (f : CopyingFacts same hash w caller setting c blocks p at.Marks) where
  -- the place, in its table
  abbrev pub here : Place
  here = c.place f.0 p.place

  word_here : word_at w.memory (at_place p.source p.place) ≡ Some (place_word hash c blocks here)
  word_here = place_there hash w.memory c blocks setting.root map.map.shows p.source f.0 f.1.0 p.place f.4.0

  pair_seen : (word : ℕ) → word_at w.memory (at_place p.source p.place) ≡ Some word → word / 2048 ≢ 0 → IsSome (value_at w.memory (word / 2048))
  pair_seen word read some =
      let is_word : word ≡ place_word hash c blocks here = (let there = word_here in cc (there, read)) in
      let pair = word-pair blocks.pair (λ o. byte_of hash (c.key o)) here (omega (arith, is_word, some)) in
      let shown = pair_here same hash caller setting w c blocks map fits f.0 p.place pair.0 pair.1 pair.2 f.1.0.made f.1.0.known pair.3 in
      subst (λ (x : ℕ). IsSome (value_at w.memory (x / 2048))) (sym is_word) (is_some_of _ (node.Pair shown.2 shown.3) shown.4)

  pub may_marks : May Can Took value_at w.memory (marks hash p)
  may_marks = may_or w.memory (place_marked hash p) (at_place p.source p.place) COPYING (is_some_of _ _ word_here)
      (λ word read. see_if _ (is_mine p word) _ _
      (λ mine. see_if _ (word / 2048 == 0) _ _ (λ none. tt)
      (λ some. (
        subst (λ (o : Option (Node K V)). IsSome o) (sym (value_at-with_word w.memory (at_place p.source p.place) (bit_or word COPYING) (word / 2048) (is_some_of _ _ word_here)))
            (pair_seen word read (eqb-false (word / 2048) 0 some)),
        λ value shown. tt,
      )))
      (λ others. see_if _ (is_awaited p word) _ _ (λ waits. tt) (λ goes. tt)))

  module _ (bits : is_incremental setting.mode ≡ true) (word : ℕ) (read : word_at w.memory (at_place p.source p.place) ≡ Some word) where
    pub is_word : word ≡ place_word hash c blocks here
    is_word = let there = word_here in cc (there, read)

    -- it is the caller's, if it was not marked
    pub mine_is : is_mine p word ≡ not (is_marked here)
    mine_is =
        ap (λ (b : Bool). if b then not (has_mark word COPYING) else true) (ap (λ (s : Setting). is_incremental s.mode) is ∙ bits)
        ∙ ap (λ (x : ℕ). not (has_mark x COPYING)) is_word ∙ ap not (has_copying blocks.pair (λ o. byte_of hash (c.key o)) here)

    -- another caller's place stays as it is
    same_memory : is_marked here ≡ true → with_word w.memory (at_place p.source p.place) (bit_or word COPYING) ≡ w.memory
    same_memory is_so =
        let stands = place_stands hash w.memory c blocks setting.root map.map.shows p.source f.0 f.1.0 p.place f.4.0 in
        let again : bit_or word COPYING ≡ word =
        ap (λ (x : ℕ). bit_or x COPYING) is_word ∙ word-marked blocks.pair (λ o. byte_of hash (c.key o)) here
        ∙ ap (place_word hash c blocks) (marked_again here is_so) ∙ sym is_word in
        ap (with_word w.memory (at_place p.source p.place)) again
        ∙ ap (λ (a : At). with_word w.memory a word) stands ∙ written_again w.memory (blocks.table f.0) (p.place + PLACES) word (sym (ap (word_at w.memory) stands) ∙ read)

    -- it goes on, or waits
    others_told : is_marked here ≡ true → p.stands ≡ at.Marks → (end : Copier × Yielding (Node K V) Table)
        → ((is_awaited p word ≡ true) × (end ≡ (p, Waits))) ⊎ ((is_awaited p word ≡ false) × (end ≡ (next_place p, Goes))) → CopierOutcome w caller setting c blocks same hash end
    others_told is_so stands end (inl h) = subst (CopierOutcome w caller setting c blocks same hash) (sym h.1) (
      awaited_whole p.whole word h.0,
      record { setting_is = is; point = subst (CopyingFacts same hash w caller setting c blocks p) (sym stands) f },
    )
    others_told is_so stands end (inr h) = subst (CopierOutcome w caller setting c blocks same hash) (sym h.1)
        (next_facts same hash w caller setting c blocks bits f.3 p is f.0 f.1 f.2 f.4 (λ whole. settled_next (c.place f.0) p.place (f.5 whole) (settled whole)))
      where
        settled : p.whole ≡ true → is_settled here ≡ true
        settled whole =
            let awaited : (p.whole && not (word / 2048 == 0) && not (has_mark word COPIED)) ≡ false = h.0 in
            settled_here blocks.pair (λ o. byte_of hash (c.key o)) here
            (λ n phase borrowed e. (pair_here same hash caller setting w c blocks map fits f.0 p.place n phase borrowed f.1.0.made f.1.0.known e).0) is_so
            (subst (λ (x : ℕ). (true && not (x / 2048 == 0) && not (has_mark x COPIED)) ≡ false) is_word
            (subst (λ (b : Bool). (b && not (word / 2048 == 0) && not (has_mark word COPIED)) ≡ false) whole awaited))

    -- only the root has places that are not marked
    in_root : is_marked here ≡ false → f.0 ≡ c.first
    in_root unmarked = by_order (eq-or-lt_of_le f.1.2)
      where
        by_order : (f.0 ≡ c.first) ⊎ (f.0 < c.first) → f.0 ≡ c.first
        by_order (inl e) = e
        by_order (inr l) = absurd (let h = settled_marked here ((rule_incremental same hash setting w c blocks map bits).in_mode.settled f.0 p.place l f.4.0) in cc (h, unmarked))

    mine_first : IsLawful same (spot_of hash) → is_marked here ≡ false → (m2 : Mem (Node K V)) (end : Copier × Yielding (Node K V) Table)
        → m2 ≡ with_word w.memory (at_place p.source p.place) (bit_or word COPYING)
        → Ends (value_at (with_word w.memory (at_place p.source p.place) (bit_or word COPYING))) (mine_marked hash p word) end → CopierPlain same hash caller setting w c blocks m2 end
    mine_first lawful unmarked m2 end e ends =
        let root = in_root unmarked in
        went_first same hash caller setting w c blocks map fits lawful bits p is
        (subst (λ (x : ℕ). IsTable c blocks p.source x) root f.1.0, subst (λ (x : ℕ). IsTable c blocks p.target (suc x)) root f.1.1) f.2 f.3
        (subst (λ (x : ℕ). InRange same hash w caller setting c blocks p x) root f.4)
        (subst (λ (x : ℕ). HasSettled same hash w caller setting c blocks p x p.place) root f.5)
        (subst (λ (x : ℕ). is_marked (c.place x p.place) ≡ false) root unmarked) m2 end word read e ends

  pub went_marks : IsLawful same (spot_of hash) → is_incremental setting.mode ≡ true → p.stands ≡ at.Marks
      → (m2 : Mem (Node K V)) (end : Copier × Yielding (Node K V) Table) → Steps Took value_at w.memory (marks hash p) m2 end → CopierPlain same hash caller setting w c blocks m2 end
  went_marks lawful bits stands m2 end steps =
      let s = ored w.memory (place_marked hash p) (at_place p.source p.place) COPYING m2 end steps in
      by_mark s.0 s.1 s.2 (with_word w.memory (at_place p.source p.place) (bit_or s.0 COPYING)) refl s.3 (is_marked here) refl
    where
      others : (m : Mem (Node K V)) (word : ℕ) (a b : Bool) → a ≡ false
          → Ends (value_at m) (if a then mine_marked hash p word else (if b then Now (p, Waits) else to (next_place p))) end
          → ((b ≡ true) × (end ≡ (p, Waits))) ⊎ ((b ≡ false) × (end ≡ (next_place p, Goes)))
      others m word true b e ends = absurd (cc e)
      others m word false true e ends = inl (refl, ends)
      others m word false false e ends = inr (refl, ends)

      own : (m : Mem (Node K V)) (word : ℕ) (a b : Bool) → a ≡ true
          → Ends (value_at m) (if a then mine_marked hash p word else (if b then Now (p, Waits) else to (next_place p))) end → Ends (value_at m) (mine_marked hash p word) end
      own m word true b e ends = ends
      own m word false b e ends = absurd (cc e)

      by_mark : (word : ℕ) → word_at w.memory (at_place p.source p.place) ≡ Some word → m2 ≡ with_word w.memory (at_place p.source p.place) (bit_or word COPYING)
          → (m : Mem (Node K V)) → m ≡ with_word w.memory (at_place p.source p.place) (bit_or word COPYING) → Ends (value_at m) (place_marked hash p (Found word)) end
          → (b : Bool) → is_marked here ≡ b → CopierPlain same hash caller setting w c blocks m2 end
      by_mark word read e m there ends true is_so =
          copier_still same hash caller setting w c blocks map m2 (e ∙ same_memory bits word read is_so) end
          (others_told bits word read is_so stands end (others m word (is_mine p word) (is_awaited p word) (mine_is bits word read ∙ ap not is_so) ends))
      by_mark word read e m there ends false is_so =
          mine_first bits word read lawful is_so m2 end e
          (subst (λ (x : Mem (Node K V)). Ends (value_at x) (mine_marked hash p word) end) there
          (own m word (is_mine p word) (is_awaited p word) (mine_is bits word read ∙ ap not is_so) ends))
