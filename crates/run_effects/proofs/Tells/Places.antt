-- Changes of places, and of links, as they are seen.
use Rattle.std.specs.Prelude.{◌≡◌, ◌≢◌, ℕ, ◌+◌, ◌*◌, ◌<◌, ◌≤◌, ◌^◌, Bool, true, false, eqb, Some, ◌⊎◌}
use Rattle.std.proofs.Common.{refl, ap, sym, subst, ◌∙◌, zero, suc, inl, inr, arith}
use Rattle.std.proofs.lemmas.Bool.{cases_lt, lt-ltb, le-ltb}
use Rattle.run_schedules.specs.Given.SeizeWordsDeclared.at.At.{At}
use Rattle.run_schedules.specs.Given.SeizeWordsDeclared.at.At.TheVariants.{Root, Word}
use Rattle.run_schedules.specs.Given.SeizeWordsMem.{Mem, word_at}
use Rattle.run_schedules.specs.Given.SeizeWordsWord.{block_in}
use Rattle.run_schedules.specs.Given.TablesChunks.{is_incremental}
use Rattle.run_schedules.specs.Given.TablesDeclared.marks.TheConstants.{TOMBSTONE}
use Rattle.run_schedules.specs.Given.TablesDeclared.node.Node.{Node}
use Rattle.run_schedules.specs.Given.TablesDeclared.setting.Setting.{Setting}
use Rattle.run_schedules.specs.Given.TablesDeclared.table_words.TheConstants.{NEXT, PLACES}
use Rattle.map_rule.specs.Chart.{Phase, Still, Place, Empty, Tombstone, Holds, Chart}
use Rattle.map_rule.specs.Moves.{Move, Links, Stores, Replaces, Removes, Marks, MarksBlocking, Skips, Unmarks, Puts, Covers, PutsLate, Claims, Reclaims, Counts, GivesUp, Aborts, Promotes, Announces, lent_place, Allowed, after}
use Rattle.map_rule.specs.Rule.{IsLawful}
use Rattle.map_rule.specs.Words.{Blocks, byte_of, place_word, next_word, root_word}
use Rattle.map_rule.specs.Maps.{spot_of, IsMap}
use Rattle.map_rule.specs.InWorld.{SameBlocks, SparesTables}
use Rattle.map_rule.proofs.Words.PlaceWordsRead.{pair_word-large}
use Rattle.run_effects.specs.Tells.Seen.{Seen, Wrote, MadeOne, HadNoRoom, TookAway, NewValue, Unseen}
use Rattle.run_effects.specs.Tells.Tells.{place_at, last_link, IsSilent, IsSeenAs}
use Rattle.run_effects.proofs.Tells.Changed.{IsUsersWord}
use Rattle.run_effects.proofs.Tells.Kept.{IsWritten}
use Rattle.run_effects.proofs.Tells.Names.{IsQuietTo, IsQuietMove, quiet_move}
use Rattle.run_effects.proofs.Tells.Quiet.{block_of_place, quiet_written}
use Rattle.map_rule.proofs.Moves.Writes.{put_in_here as put_here}

module _ {K V : Type 0} (same : K → K → Bool) (hash : K → ℕ) (lawful : IsLawful same (spot_of hash)) (fits : (k : K) → hash k < 2 ^ 64) (setting : Setting) (m m2 : Mem (Node K V))
    (c c2 : Chart K) (blocks blocks2 : Blocks) (map : IsMap same hash setting.mode setting.root m c blocks) (map2 : IsMap same hash setting.mode setting.root m2 c2 blocks2)
    (kept : SameBlocks c blocks blocks2) (spared : SparesTables c blocks c2) (seen : Seen (Node K V))
    (changed : (x : At) (old new : ℕ) → IsUsersWord x → word_at m x ≡ Some old → word_at m2 x ≡ Some new → old ≢ new → seen ≡ Wrote x old new)
    (written : (x : At) (old new : ℕ) → seen ≡ Wrote x old new → IsWritten m m2 x old new) where
  abbrev made_by : Move K → Chart K
  made_by move = after (spot_of hash) (is_incremental setting.mode) move c

  -- what keeps names is seen as nothing else
  pub quiet_seen : IsQuietTo c c2 → IsSilent setting c blocks seen
  quiet_seen quiet = by seen refl
    where
      by : (s : Seen (Node K V)) → seen ≡ s → IsSilent setting c blocks s
      by Unseen e = tt
      by (Wrote x old new) e = quiet_written same hash fits setting m m2 c c2 blocks blocks2 map map2 kept quiet old new x (written x old new e)
      by (MadeOne value b) e = tt
      by (HadNoRoom value) e = tt
      by (TookAway b) e = tt
      by (NewValue b value) e = tt

  quiet_by : (move : Move K) → IsQuietMove (spot_of hash) (is_incremental setting.mode) c move → c2 ≡ made_by move → IsQuietTo c c2
  quiet_by move q e = subst (IsQuietTo c) (sym e) (quiet_move (spot_of hash) (is_incremental setting.mode) c move q)

  -- a table whose places change can be looked at
  known_by : (t i : ℕ) → t < c.past → c2.place t i ≢ c.place t i → blocks.table_known t ≡ true
  known_by t i made other = by (blocks.table_known t) refl
    where
      by : (b : Bool) → blocks.table_known t ≡ b → blocks.table_known t ≡ true
      by true e = e
      by false e = absurd (other ((spared t made (λ known. cc)).0 i))

  -- a place that is another one, by its words
  module _ (t i : ℕ) (made : t < c.past) (inside : i < c.len t) (past_is : c2.past ≡ c.past) (len_is : c2.len t ≡ c.len t) (known : blocks.table_known t ≡ true) where
    there2 : (t < c2.past) × (blocks2.table t ≡ blocks.table t) × (blocks2.table_known t ≡ true)
    there2 = let same_table = kept.tables t made known in (rw past_is made, same_table.0, same_table.1)

    word_before : word_at m (place_at blocks t i) ≡ Some (place_word hash c blocks (c.place t i))
    word_before = (map.shows.tables t made known).places i inside

    word_after : word_at m2 (place_at blocks t i) ≡ Some (place_word hash c2 blocks2 (c2.place t i))
    word_after =
        let inside2 : i < c2.len t = (rw len_is inside) in
        subst (λ (b : ℕ). word_at m2 (Word b (i + PLACES)) ≡ Some (place_word hash c2 blocks2 (c2.place t i))) there2.1 ((map2.shows.tables t there2.0 there2.2).places i inside2)

    -- a pair that stands there then has a block
    large : (n : ℕ) (phase : Phase) (borrowed : Bool) → c2.place t i ≡ Holds n phase borrowed → 2048 ≤ place_word hash c2 blocks2 (Holds n phase borrowed)
    large n phase borrowed e =
        let was : n < c2.stored = (map2.rule.common.keyed t i n phase borrowed e).0 in
        let pair_known = map2.shows.named t i n phase borrowed there2.0 there2.2 e in
        pair_word-large blocks2.pair (λ o. byte_of hash (c2.key o)) n phase borrowed (map2.shows.pair_numbers n was pair_known).0

    -- an empty place comes to hold a pair
    filled : (n : ℕ) (borrowed : Bool) → c.place t i ≡ Empty false → c2.place t i ≡ Holds n Still borrowed
        → seen ≡ Wrote (place_at blocks t i) 0 (place_word hash c2 blocks2 (Holds n Still borrowed))
    filled n borrowed empty holds =
        changed (place_at blocks t i) 0 (place_word hash c2 blocks2 (Holds n Still borrowed)) tt
        (subst (λ (p : Place). word_at m (place_at blocks t i) ≡ Some (place_word hash c blocks p)) empty word_before)
        (subst (λ (p : Place). word_at m2 (place_at blocks t i) ≡ Some (place_word hash c2 blocks2 p)) holds word_after)
        (λ e. let big = large n Still borrowed holds in omega (arith, e, big))

    module _ (n : ℕ) (borrowed : Bool) (held : c.place t i ≡ Holds n Still borrowed) where
      before_is : word_at m (place_at blocks t i) ≡ Some (place_word hash c blocks (Holds n Still borrowed))
      before_is = subst (λ (p : Place). word_at m (place_at blocks t i) ≡ Some (place_word hash c blocks p)) held word_before

      was_stored : n < c.stored
      was_stored = (map.rule.common.keyed t i n Still borrowed held).0

      was_known : blocks.pair_known n ≡ true
      was_known = map.shows.named t i n Still borrowed made known held

      -- its pair gives way to a new one
      replaced : c2.stored ≡ suc c.stored → c2.place t i ≡ Holds c.stored Still false
          → seen ≡ Wrote (place_at blocks t i) (place_word hash c blocks (Holds n Still borrowed)) (place_word hash c2 blocks2 (Holds c.stored Still false))
      replaced stored_is holds =
          changed (place_at blocks t i) _ _ tt before_is
          (subst (λ (p : Place). word_at m2 (place_at blocks t i) ≡ Some (place_word hash c2 blocks2 p)) holds word_after)
          (λ e.
          let blocks_are : blocks.pair n ≡ blocks2.pair c.stored =
          sym (block_of_place hash fits c blocks (Holds n Still borrowed)) ∙ ap block_in e ∙ block_of_place hash fits c2 blocks2 (Holds c.stored Still false) in
          let pair_same = kept.pairs n was_stored was_known in
          let stored2 : c.stored < c2.stored = (rw stored_is (omega arith)) in
          let n2 : n < c2.stored = omega (arith, stored2, was_stored) in
          let new_known = map2.shows.named t i c.stored Still false there2.0 there2.2 holds in
          let one : n ≡ c.stored = map2.shows.pairs_apart n c.stored n2 stored2 pair_same.1 new_known (pair_same.0 ∙ blocks_are) in
          omega (arith, one, was_stored))

      -- it is removed
      removed : c2.place t i ≡ Tombstone false → seen ≡ Wrote (place_at blocks t i) (place_word hash c blocks (Holds n Still borrowed)) TOMBSTONE
      removed gone =
          changed (place_at blocks t i) _ TOMBSTONE tt before_is
          (subst (λ (p : Place). word_at m2 (place_at blocks t i) ≡ Some (place_word hash c2 blocks2 p)) gone word_after)
          (λ e.
          let big = pair_word-large blocks.pair (λ o. byte_of hash (c.key o)) n Still borrowed (map.shows.pair_numbers n was_stored was_known).0 in
          omega (arith, e, big))

  -- where a place holds a pair there is a table, and it is within it
  held_in : (t i n : ℕ) (phase : Phase) (borrowed : Bool) → c.place t i ≡ Holds n phase borrowed → (t < c.past) × (i < c.len t)
  held_in t i n phase borrowed held = by (cases_lt t c.past) (cases_lt i (c.len t))
    where
      not_empty : c.place t i ≢ Empty false
      not_empty none = (let no : Holds n phase borrowed ≡ Empty false = sym held ∙ none in absurd (cc))

      by : (t < c.past) ⊎ (c.past ≤ t) → (i < c.len t) ⊎ (c.len t ≤ i) → (t < c.past) × (i < c.len t)
      by (inl made) (inl inside) = (made, inside)
      by (inl made) (inr past) = absurd (not_empty (map.rule.common.outside t i made past))
      by (inr past) l = absurd (not_empty (map.rule.common.unmade t i past))

  -- each change of the tables, as it is seen
  pub stores_seen : (t : ℕ) (k : K) (j : ℕ) → Allowed same (spot_of hash) (is_incremental setting.mode) (Stores t k j) c → c2 ≡ made_by (Stores t k j)
      → IsSeenAs hash setting c blocks c2 blocks2 (Stores t k j) seen
  stores_seen t k j allowed e =
      let made = allowed.0 in
      let s : ℕ = spot_of hash (c.len t) k j in
      let inside : s < c.len t = lawful.within (c.len t) j k (map.rule.common.lens t made).0 in
      let holds : c2.place t s ≡ Holds c.stored Still false = ap (λ (d : Chart K). d.place t s) e ∙ put_here c.place t s (Holds c.stored Still false) in
      filled t s made inside (ap (λ (d : Chart K). d.past) e) (ap (λ (d : Chart K). d.len t) e) (map.shows.linked t allowed.1 made) c.stored false allowed.3 holds

  pub replaces_seen : (t i : ℕ) (k : K) → Allowed same (spot_of hash) (is_incremental setting.mode) (Replaces t i k) c → c2 ≡ made_by (Replaces t i k)
      → IsSeenAs hash setting c blocks c2 blocks2 (Replaces t i k) seen
  replaces_seen t i k allowed e =
      let n = allowed.0.0 in let borrowed = allowed.0.1 in let held = allowed.0.2 in
      let there = held_in t i n Still borrowed held in
      let holds : c2.place t i ≡ Holds c.stored Still false = ap (λ (d : Chart K). d.place t i) e ∙ put_here c.place t i (Holds c.stored Still false) in
      let stored_before : n < c.stored = (map.rule.common.keyed t i n Still borrowed held).0 in
      let other : c2.place t i ≢ c.place t i = (λ same_place. (let one : Holds c.stored Still false ≡ Holds n Still borrowed = sym holds ∙ same_place ∙ held in let number : c.stored ≡ n = cc in omega (arith, number, stored_before))) in (
        n,
        borrowed,
        held,
        replaced t i there.0 there.1 (ap (λ (d : Chart K). d.past) e) (ap (λ (d : Chart K). d.len t) e) (known_by t i there.0 other) n borrowed held
            (ap (λ (d : Chart K). d.stored) e) holds,
      )

  pub removes_seen : (t i : ℕ) → Allowed same (spot_of hash) (is_incremental setting.mode) (Removes t i) c → c2 ≡ made_by (Removes t i)
      → IsSeenAs hash setting c blocks c2 blocks2 (Removes t i) seen
  removes_seen t i allowed e =
      let n = allowed.1.0 in let borrowed = allowed.1.1 in let held = allowed.1.2 in
      let there = held_in t i n Still borrowed held in
      let gone : c2.place t i ≡ Tombstone false = ap (λ (d : Chart K). d.place t i) e ∙ put_here c.place t i (Tombstone false) in
      let other : c2.place t i ≢ c.place t i = (λ same_place. (let one : Tombstone false ≡ Holds n Still borrowed = sym gone ∙ same_place ∙ held in absurd (cc))) in
      (n, borrowed, held, removed t i there.0 there.1 (ap (λ (d : Chart K). d.past) e) (ap (λ (d : Chart K). d.len t) e) (known_by t i there.0 other) n borrowed held gone)

  pub puts_seen : (caller i t : ℕ) (k : K) (j : ℕ) → Allowed same (spot_of hash) (is_incremental setting.mode) (Puts caller i t k j) c → c2 ≡ made_by (Puts caller i t k j)
      → IsSeenAs hash setting c blocks c2 blocks2 (Puts caller i t k j) seen
  puts_seen caller i t k j allowed e =
      let made = allowed.1 in
      let copied = allowed.6 in
      let s : ℕ = spot_of hash (c.len t) k j in
      let inside : s < c.len t = lawful.within (c.len t) j k (map.rule.common.lens t made).0 in
      let incremental = is_incremental setting.mode in
      let lent_is : lent_place (spot_of hash) incremental (c.place c.first i) ≡ Holds copied.0 Still incremental = ap (lent_place (spot_of hash) incremental) copied.2 in
      let holds : c2.place t s ≡ Holds copied.0 Still incremental = ap (λ (d : Chart K). d.place t s) e ∙ put_here c.place t s (lent_place (spot_of hash) incremental (c.place c.first i)) ∙ lent_is in
      (copied.0, copied.1, copied.2, filled t s made inside (ap (λ (d : Chart K). d.past) e) (ap (λ (d : Chart K). d.len t) e) (map.shows.linked t (omega (arith, allowed.0)) made) copied.0 incremental allowed.4 holds)

  pub late_seen : (t i n : ℕ) → Allowed same (spot_of hash) (is_incremental setting.mode) (PutsLate t i n) c → c2 ≡ made_by (PutsLate t i n)
      → IsSeenAs hash setting c blocks c2 blocks2 (PutsLate t i n) seen
  late_seen t i n allowed e =
      let made : t < c.past = (let l = allowed.1 in let rooted : c.first < c.past = map.rule.common.rooted (omega (arith, past_some)) in omega (arith, l, rooted)) in
      let holds : c2.place t i ≡ Holds n Still false = ap (λ (d : Chart K). d.place t i) e ∙ put_here c.place t i (Holds n Still false) in
      let other : c2.place t i ≢ c.place t i = (λ same_place. (let one : Holds n Still false ≡ Empty false = sym holds ∙ same_place ∙ allowed.4 in absurd (cc))) in
      filled t i made allowed.2 (ap (λ (d : Chart K). d.past) e) (ap (λ (d : Chart K). d.len t) e) (known_by t i made other) n false allowed.4 holds
    where
      past_some : 0 < c.past
      past_some = by c.past refl
        where
          by : (p : ℕ) → c.past ≡ p → 0 < c.past
          by zero none = (let first_is : c.first ≡ 0 = map.rule.common.rootless none in let l = allowed.1 in omega (arith, first_is, l))
          by (suc p) some = omega (arith, some)

  -- a link to a table that was none before
  linked_by : (x : At) → IsUsersWord x → word_at m x ≡ Some 0 → word_at m2 x ≡ Some (blocks2.table c.past * 2048) → c2.first ≡ c.first → c2.past ≡ suc c.past → c.first ≤ c.past
      → seen ≡ Wrote x 0 (blocks2.table c.past * 2048)
  linked_by x users was is first_is past_is low =
      changed x 0 _ users was is (λ e.
      let made2 : c.past < c2.past = (rw past_is (omega arith)) in
      let first2 : c2.first ≤ c.past = (rw first_is low) in
      let some = (map2.shows.table_numbers c.past made2 (map2.shows.linked c.past first2 made2)).0 in
      omega (arith, e, some))

  pub links_seen : (len limit : ℕ) → c2 ≡ made_by (Links len limit) → IsSeenAs hash setting c blocks c2 blocks2 (Links len limit) seen
  links_seen len limit e = by c.past refl
    where
      past_is : c2.past ≡ suc c.past
      past_is = ap (λ (d : Chart K). d.past) e

      first_is : c2.first ≡ c.first
      first_is = ap (λ (d : Chart K). d.first) e

      by : (p : ℕ) → c.past ≡ p → seen ≡ Wrote (last_link setting blocks p) 0 (blocks2.table c.past * 2048)
      by zero none =
          let first_zero : c.first ≡ 0 = map.rule.common.rootless none in
          let was : word_at m (Root setting.root) ≡ Some 0 = (let shows = map.shows.root_there in let is : root_word hash c blocks ≡ 0 = (rw none refl) in shows ∙ ap Some is) in
          let to : root_word hash c2 blocks2 ≡ blocks2.table c.past * 2048 = (rw (past_is, first_is, first_zero, none) refl) in
          linked_by (Root setting.root) tt was (map2.shows.root_there ∙ ap Some to) first_is past_is (omega (arith, first_zero))
      by (suc p) some =
          let rooted : c.first < c.past = map.rule.common.rooted (omega (arith, some)) in
          let made : p < c.past = omega (arith, some) in
          let known = map.shows.linked p (omega (arith, some, rooted)) made in
          let there = kept.tables p made known in
          let none_behind : next_word hash c blocks p ≡ 0 = (let past : c.past ≤ suc p = omega (arith, some) in rw (le-ltb (suc p) c.past past) refl) in
          let was : word_at m (Word (blocks.table p) NEXT) ≡ Some 0 = (map.shows.tables p made known).next ∙ ap Some none_behind in
          let made2 : p < c2.past = (rw past_is (omega (arith, some))) in
          let behind : next_word hash c2 blocks2 p ≡ blocks2.table c.past * 2048 = (let less : suc p < c2.past = (rw past_is (omega (arith, some))) in rw (lt-ltb (suc p) c2.past less) (ap (λ q. blocks2.table q * 2048) (sym some))) in
          let is : word_at m2 (Word (blocks.table p) NEXT) ≡ Some (blocks2.table c.past * 2048) =
          subst (λ (b : ℕ). word_at m2 (Word b NEXT) ≡ Some (blocks2.table c.past * 2048)) there.0 ((map2.shows.tables p made2 there.1).next ∙ ap Some behind) in
          linked_by (Word (blocks.table p) NEXT) tt was is first_is past_is (omega (arith, rooted))

  pub promotes_seen : (t : ℕ) → Allowed same (spot_of hash) (is_incremental setting.mode) (Promotes t) c → c2 ≡ made_by (Promotes t) → IsSeenAs hash setting c blocks c2 blocks2 (Promotes t) seen
  promotes_seen t allowed e =
      let after_first = allowed.0 in let made = allowed.1 in
      let past_is : c2.past ≡ c.past = ap (λ (d : Chart K). d.past) e in
      let first_is : c2.first ≡ t = ap (λ (d : Chart K). d.first) e in
      let first_made : c.first < c.past = omega (arith, after_first, made) in
      let first_known = map.shows.linked c.first (omega arith) first_made in
      let known = map.shows.linked t (omega (arith, after_first)) made in
      let there : blocks2.table t ≡ blocks.table t = (kept.tables t made known).0 in
      let some : eqb c.past 0 ≡ false = grind (arith, made) in
      let from : root_word hash c blocks ≡ blocks.table c.first * 2048 = (rw some refl) in
      let to : root_word hash c2 blocks2 ≡ blocks.table t * 2048 = (rw (past_is, first_is, some, there) refl) in
      changed (Root setting.root) _ _ tt (map.shows.root_there ∙ ap Some from) (map2.shows.root_there ∙ ap Some to)
      (λ same_word. (let one : blocks.table c.first ≡ blocks.table t = omega (arith, same_word) in let turn = map.shows.tables_apart c.first t first_made made first_known known one in omega (arith, turn, after_first)))

  -- whichever change it is
  pub seen_so : (move : Move K) → Allowed same (spot_of hash) (is_incremental setting.mode) move c → c2 ≡ made_by move → IsSeenAs hash setting c blocks c2 blocks2 move seen
  seen_so (Links len limit) allowed e = links_seen len limit e
  seen_so (Stores t k j) allowed e = stores_seen t k j allowed e
  seen_so (Replaces t i k) allowed e = replaces_seen t i k allowed e
  seen_so (Removes t i) allowed e = removes_seen t i allowed e
  seen_so (Puts caller i t k j) allowed e = puts_seen caller i t k j allowed e
  seen_so (PutsLate t i n) allowed e = late_seen t i n allowed e
  seen_so (Promotes t) allowed e = promotes_seen t allowed e
  seen_so (Marks caller i) allowed e = quiet_seen (quiet_by (Marks caller i) tt e)
  seen_so (MarksBlocking i) allowed e = quiet_seen (quiet_by (MarksBlocking i) tt e)
  seen_so (Skips caller t i) allowed e = quiet_seen (quiet_by (Skips caller t i) tt e)
  seen_so (Unmarks caller i) allowed e = quiet_seen (quiet_by (Unmarks caller i) tt e)
  seen_so (Covers caller i) allowed e = quiet_seen (quiet_by (Covers caller i) tt e)
  seen_so (Claims caller t chunk) allowed e = quiet_seen (quiet_by (Claims caller t chunk) tt e)
  seen_so (Reclaims t claim) allowed e = quiet_seen (quiet_by (Reclaims t claim) tt e)
  seen_so (Counts caller t number) allowed e = quiet_seen (quiet_by (Counts caller t number) tt e)
  seen_so (GivesUp caller t) allowed e = quiet_seen (quiet_by (GivesUp caller t) tt e)
  seen_so (Aborts t) allowed e = quiet_seen (quiet_by (Aborts t) tt e)
  seen_so (Announces t) allowed e = quiet_seen (quiet_by (Announces t) tt e)
