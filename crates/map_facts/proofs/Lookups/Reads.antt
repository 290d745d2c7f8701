-- A lookup reads the word of a try: what it sees there.
use Rattle.std.specs.Prelude.{IsSome}
use Rattle.std.proofs.Common.{◌≡◌, ℕ, ◌/◌, ◌^◌, ◌<◌, Bool, true, false, Option, Some, ◌⊎◌, inl, inr, refl, ap, sym, subst, ◌∙◌}
use Rattle.map_rule.specs.Given.SeizeWordsMem.{Mem, value_at, word_at, Can, Took}
use Rattle.map_rule.specs.Given.SeizeWordsPlan.{May, MaySee, Steps, Ends, Now, Seeing}
use Rattle.map_rule.proofs.Given.SeizeWordsOneOwner.Operations.{may_load, loaded}
use Rattle.map_rule.proofs.Given.SeizeWordsPlans.{see_if, ends_if}
use Rattle.papaya_raw.specs.Given.SeizeDeclared.advance.Advance.{Advance}
use Rattle.papaya_raw.specs.Given.TablesLengths.{IsTableLen}
use Rattle.papaya_raw.specs.Given.TablesFinding.{may_name}
use Rattle.map_rule.specs.Given.ResizeLookup.{told, names_pair, word_read, word_found, probes}
use Rattle.papaya_raw.specs.Given.TablesTablePlaces.{at_place}
use Rattle.papaya_raw.specs.Given.TablesTrials.{place_tried}
use Rattle.papaya_raw.specs.Given.TablesDeclared.node.Node.{Node}
use Rattle.papaya_raw.specs.Given.TablesDeclared.resize_mode.ResizeMode.{ResizeMode}
use Rattle.map_rule.specs.Given.ResizeDeclared.lookup.Lookup.{Lookup}
use Rattle.papaya_raw.specs.Given.TablesDeclared.trial.Trial.{Trial}
use Rattle.map_rule.specs.Chart.{Place, Chart}
use Rattle.map_rule.specs.Words.{Blocks, place_word}
use Rattle.map_rule.specs.Maps.{spot_at, spot_of, IsClass, IsMap, IsTrial}
use Rattle.map_rule.proofs.Words.PlaceWords.{HasBlock}
use Rattle.map_rule.proofs.Words.PlacesShown.{AreStored, shown_block, are_stored}
use Rattle.map_rule.proofs.Words.PlacesRead.{place_keyed, pair_seen, value_tells, byte_tells}
use Rattle.map_rule.proofs.Words.TablesSeen.{place_there}
use Rattle.map_rule.proofs.Words.WordsSeen.{HasKey, Tells}
use Rattle.map_rule.proofs.Keys.TriesSeen.{spot_inside}
use Rattle.map_rule.proofs.Given.General.{some_is as is_some_of}

module _ {K V : Type 0} (hash : K → ℕ) (keys : K → Bool) (code : ℕ) (m : Mem (Node K V)) (c : Chart K) (blocks : Blocks) (trial : Trial) (t : ℕ) (place : Place) where
  -- the place of the try is read as what it is
  pub record SeesPlace : Type 0 where
    pub sized : IsTableLen (c.len t)
    pub there : word_at m (place_tried trial) ≡ Some (place_word hash c blocks place)
    pub has_key : HasKey keys c.key place
    pub has_block : HasBlock blocks.pair place
    -- its pair may be looked at, and tells whether it is one of the keys
    pub seen : may_name code (place_word hash c blocks place) ≡ true → IsSome (value_at m (place_word hash c blocks place / 2048))
    pub value : (value : Node K V) → value_at m (place_word hash c blocks place / 2048) ≡ Some value → Tells keys c.key place (names_pair keys value)
    pub other : may_name code (place_word hash c blocks place) ≡ false → Tells keys c.key place false

module _ {K V : Type 0} (hash : K → ℕ) (keys : K → Bool) (code : ℕ) (m : Mem (Node K V)) (c : Chart K) (blocks : Blocks) (l : Lookup) (hash_is : l.hash ≡ code)
    (trial : Trial) (t : ℕ) (place : Place) (sees : SeesPlace hash keys code m c blocks trial t place) where
  abbrev word : ℕ
  word = place_word hash c blocks place

  -- the pair of its word may be looked at
  may_read : (found : ℕ) → found ≡ place_word hash c blocks place → MaySee (value_at m) (word_read {K = K} {V = V} keys l trial found)
  may_read found is = see_if (value_at m) (may_name l.hash found) (Seeing (found / 2048) (λ value. Now (told l trial found (names_pair keys value)))) (Now (told l trial found false))
      (λ e. (shown (ap (may_name l.hash) (sym is) ∙ e), λ value at. tt)) (λ e. tt)
    where
      shown : may_name l.hash word ≡ true → IsSome (value_at m (found / 2048))
      shown e = subst (λ x. IsSome (value_at m (x / 2048))) (sym is) (sees.seen (subst (λ x. may_name x word ≡ true) hash_is e))

  read_is : (found : ℕ) → word_at m (place_tried trial) ≡ Some found → found ≡ place_word hash c blocks place
  read_is found e = cc (sees.there)

  -- it may read the word of the try
  pub may_probes : May Can Took value_at m (probes {K = K} {V = V} keys l trial)
  may_probes = may_load m (word_found keys l trial) (place_tried trial) (is_some_of (word_at m (place_tried trial)) word sees.there) (λ found e. may_read found (read_is found e))

  -- Whatever is so of where it goes on by this word, as its pair is one of the keys or not, is so of where it goes on.
  module _ (Told : Lookup × Advance (Option ℕ) → Type 0) (tells : (same_key : Bool) → Tells keys c.key place same_key → Told (told l trial (place_word hash c blocks place) same_key)) where
    read_tells : (found : ℕ) → found ≡ place_word hash c blocks place → (end : Lookup × Advance (Option ℕ)) → Ends (value_at m) (word_read {K = K} {V = V} keys l trial found) end → Told end
    read_tells found is end ends =
        by_name (ends_if (value_at m) (may_name l.hash found) (Seeing (found / 2048) (λ value. Now (told l trial found (names_pair keys value)))) (Now (told l trial found false)) end ends)
      where
        by_name : ((may_name l.hash found ≡ true) × ((value : Node K V) × (value_at m (found / 2048) ≡ Some value) × (end ≡ told l trial found (names_pair keys value))))
            ⊎ ((may_name l.hash found ≡ false) × (end ≡ told l trial found false))
            → Told end
        by_name (inl e) =
            subst (λ x. Told x) (sym e.1.2) (subst (λ x. Told (told l trial x (names_pair keys e.1.0))) (sym is) (tells (names_pair keys e.1.0)
            (sees.value e.1.0 (subst (λ x. value_at m (x / 2048) ≡ Some e.1.0) is e.1.1))))
        by_name (inr e) =
            subst (λ x. Told x) (sym e.1) (subst (λ x. Told (told l trial x false)) (sym is) (tells false
            (sees.other (subst (λ x. may_name x word ≡ false) hash_is (ap (may_name l.hash) (sym is) ∙ e.0)))))

    pub probes_tell : (m2 : Mem (Node K V)) (end : Lookup × Advance (Option ℕ)) → Steps Took value_at m (probes {K = K} {V = V} keys l trial) m2 end → (m2 ≡ m) × Told end
    probes_tell m2 end s = let r = loaded m (word_found keys l trial) (place_tried trial) m2 end s in (r.2, read_tells r.0 (read_is r.0 r.1) end r.3)

module _ {K V : Type 0} (same : K → K → Bool) (hash : K → ℕ) (fits : (k : K) → hash k < 2 ^ 64) (mode : ResizeMode) (root : ℕ) (keys : K → Bool) (code : ℕ)
    (class : IsClass same hash keys code) (m : Mem (Node K V)) (c : Chart K) (blocks : Blocks) (map : IsMap same hash mode root m c blocks) where
  stored : AreStored c
  stored = are_stored same (spot_of hash) _ c map.rule.common

  -- the place of a try, as the memory shows it
  pub sees_place : (trial : Trial) (t j : ℕ) → IsTrial c blocks trial code t j → SeesPlace hash keys code m c blocks trial t (c.place t (spot_at (c.len t) code j))
  sees_place trial t j tries = record {
    sized = map.shows.sized t made;
    there = ap (λ x. word_at m (at_place trial.table x)) tries.place ∙ place_there hash m c blocks root map.shows trial.table t tries.table i inside;
    has_key = place_keyed same hash fits m c blocks root map.shows stored t i made known keys;
    has_block = shown_block hash m c blocks root map.shows stored t i made known;
    seen = pair_seen same hash fits m c blocks root map.shows stored t i made known code;
    value = value_tells same hash fits m c blocks root map.shows stored t i made known keys keys (λ k. refl);
    other = byte_tells same hash fits m c blocks root map.shows stored t i made known keys code class;
  }
    where
      made : t < c.past
      made = tries.table.made

      known : blocks.table_known t ≡ true
      known = tries.table.known

      i : ℕ
      i = spot_at (c.len t) code j

      inside : spot_at (c.len t) code j < c.len t
      inside = spot_inside (c.len t) code j (map.rule.common.lens t made).0
