-- A call replaces the pair that stands at its try by its own.
use Rattle.std.specs.Prelude.{suc, ◌≡◌, ◌≢◌, ℕ, ◌+◌, ◌^◌, ◌<◌, ◌≤◌, ◌==◌, Bool, true, false, cond, eqb, [], ◌∷◌, Some, if◌then◌else◌}
use Rattle.std.proofs.Common.{refl, ap, sym, subst, ◌∙◌, inl, inr, arith}
use Rattle.std.proofs.lemmas.Bool.{eq-eqb, ne_eqb}
use Rattle.map_rule.specs.Given.SeizeWordsDeclared.at.At.TheVariants.{Word}
use Rattle.map_rule.specs.Given.SeizeWordsMem.{Mem, word_at, with_word}
use Rattle.papaya_raw.specs.Given.SeizeLaw.{Unlinked, Linked}
use Rattle.papaya_raw.specs.Given.SeizeWorld.{Hand, Making, World, InUse, Parting, Cutting, Parts, Unlinks, with_at, MayCut, Links}
use Rattle.papaya_raw.specs.Given.TablesChunks.{is_incremental}
use Rattle.papaya_raw.specs.CallPoints.{going, changed}
use Rattle.papaya_raw.specs.Given.TablesTrials.{place_tried}
use Rattle.papaya_raw.specs.Given.TablesDeclared.marks.TheConstants.{TOMBSTONE}
use Rattle.papaya_raw.specs.Given.TablesDeclared.node.Node.{Node}
use Rattle.papaya_raw.specs.Given.TablesDeclared.setting.Setting.{Setting}
use Rattle.papaya_raw.specs.Given.TablesDeclared.table_words.TheConstants.{PLACES}
use Rattle.papaya_raw.specs.declared.machines.call.KeyCall.{KeyCall}
use Rattle.papaya_raw.specs.declared.machines.call.Calling.TheVariants as at
use Rattle.map_rule.proofs.Given.SeizeRuleRows.Others.{with_here}
use Rattle.map_rule.specs.Chart.{Phase, Still, Place, Holds, Chart, put}
use Rattle.map_rule.specs.Rule.{IsLawful, is_of}
use Rattle.map_rule.specs.Moves.{after, Allowed, without, Replaces, MayChange}
use Rattle.map_rule.specs.Words.{Blocks, byte_of, place_word, Represents}
use Rattle.map_rule.specs.Maps.{spot_at, spot_of, IsTrial, NoneBefore, IsPair}
use Rattle.map_rule.specs.InWorld.{IsMapIn}
use Rattle.map_facts.specs.FactsDisposes.{HasLeft}
use Rattle.map_facts.specs.FactsCalls.{Change, Unchanged, CallFacts, Replaced, IsOwnPair}
use Rattle.map_facts.specs.Told.{CallOutcome}
use Rattle.map_rule.proofs.World.Hands.{Hands, hand_kept, in_use_apart}
use Rattle.map_rule.proofs.World.HandsStored.{hands_left, hands_parting}
use Rattle.map_rule.proofs.Keys.ClassesSeen.{is_of_keys}
use Rattle.map_facts.proofs.Disposals.DisposesBegin.{IsTakenOut, dispose_begins}
use Rattle.map_rule.proofs.Moves.Promised.{moves_keep}
use Rattle.map_facts.proofs.Calls.CallsOn.{Seeking}
use Rattle.map_facts.proofs.Calls.CallsFound.{inside}
use Rattle.map_facts.proofs.Calls.Makes.{CallWent, by_end}
use Rattle.map_facts.proofs.Calls.Tries.{went_changed}
use Rattle.map_rule.specs.Given.ResizeDispose.{disposing}
use Rattle.papaya_raw.specs.declared.machines.answer.KeyAnswer.TheVariants as answers
use Rattle.papaya_raw.specs.declared.machines.answer.Called.{Called}
use Rattle.map_rule.proofs.Words.PlaceWordsRead.{pair_word-large}
use Rattle.map_rule.proofs.Words.WritesStored.{with_pair_block, old_pair_word}
use Rattle.map_facts.proofs.Steps.StandsOut.{replaced_has_left, replaced_stands}
use Rattle.map_facts.proofs.Calls.Stores.{own_asked, own_large, own_word_is, own_shown, same_blocks, own_comes_out, own_hands}
use Rattle.map_facts.proofs.Calls.Removes.{stands_still, is_pair}
use Rattle.map_rule.proofs.Words.LinksOwn.{OutsAreKnown, outs_handed, known_with}
use Rattle.map_rule.proofs.World.OthersSpared.{keeps_then, keeps_handed, used_not_held, own_not_held}

module _ {K V Q : Type 0} (same : K → K → Bool) (hash : K → ℕ) (asks : Q → K → Bool) (caller : ℕ) (setting : Setting) (keys : K → Bool)
    (lawful : IsLawful same (spot_of hash)) (fits : (k : K) → hash k < 2 ^ 64)
    (w : World (Node K V)) (c : Chart K) (blocks : Blocks) (map : IsMapIn same hash setting w c blocks) (p : KeyCall K V Q)
    (s : Seeking same hash asks caller setting keys w c blocks p)
    (t j : ℕ) (trial : IsTrial c blocks p.trial p.hash t j) (none : NoneBefore same hash (is_incremental setting.mode) c keys t j)
    (root : is_incremental setting.mode ≡ false → t ≡ c.first)
    (own : IsOwnPair same hash asks w caller setting c blocks keys Unchanged p.own p.hash)
    (n : ℕ) (k : K) (borrowed : Bool) (was : n < c.stored) (known : blocks.pair_known n ≡ true) (key : c.key n ≡ Some k) (asked : keys k ≡ true)
    (word found : ℕ) (word_is : word ≡ place_word hash c blocks (Holds n Still borrowed))
    (is : (word_at w.memory (place_tried p.trial) ≡ Some found) × (found ≡ word)) where
  abbrev bit : Bool
  bit = is_incremental setting.mode

  abbrev spot : ℕ
  spot = spot_at (c.len t) p.hash j

  abbrev c2 : Chart K
  c2 = after (spot_of hash) (is_incremental setting.mode) (Replaces t (spot_at (c.len t) p.hash j) own.key) c

  abbrev blocks2 : Blocks
  blocks2 = with_pair_block blocks c.stored own.block

  stood : c.place t (spot_at (c.len t) p.hash j) ≡ Holds n Still borrowed
  stood = stands_still same hash asks caller setting keys lawful fits w c blocks map p s t j trial none root n k borrowed was known key asked word found word_is is

  pair_is : IsPair same hash (is_incremental setting.mode) c keys n
  pair_is = is_pair same hash asks caller setting keys lawful fits w c blocks map p s t j trial none root n k borrowed was known key asked word found word_is is

  of_own : is_of same (spot_of hash) (is_incremental setting.mode) own.key (c.key n) ≡ true
  of_own =
      is_of_keys same hash lawful keys p.hash s.class (is_incremental setting.mode) own.key k (c.key n) key
      (own_asked same hash asks caller setting keys lawful fits w c blocks map p s t j trial none root own) ∙ asked

  may : MayChange same (spot_of hash) (is_incremental setting.mode) c t own.key
  may = (none own.key (own_asked same hash asks caller setting keys lawful fits w c blocks map p s t j trial none root own)).1

  allowed : Allowed same (spot_of hash) (is_incremental setting.mode) (Replaces t (spot_at (c.len t) p.hash j) own.key) c
  allowed = ((n, borrowed, stood, of_own), may)

  -- the pair's block is what it was
  other : eqb n c.stored ≡ false
  other = ne_eqb n c.stored (omega arith)

  block_is : blocks2.pair n ≡ blocks.pair n
  block_is = ap (λ q. cond q own.block (blocks.pair n)) other

  known_still : blocks2.pair_known n ≡ true
  known_still = ap (λ q. cond q true (blocks.pair_known n)) other ∙ known

  used : with_at w.hand own.block (InUse setting.counter) (blocks2.pair n) ≡ InUse setting.counter
  used =
      subst (λ (x : ℕ). with_at w.hand own.block (InUse setting.counter) x ≡ InUse setting.counter) (sym block_is)
      (hand_kept w.hand own.block (InUse setting.counter) (InUse setting.counter) (blocks.pair n) (in_use_apart w.hand (blocks.pair n) own.block caller own.hand (map.pairs n pair_is.0)) (map.pairs n pair_is.0))

  word_still : word ≡ place_word hash c2 blocks2 (Holds n Still borrowed)
  word_still =
      word_is ∙ sym (old_pair_word hash (spot_of hash) (is_incremental setting.mode) w.memory c blocks setting.root t spot own.block own.key own.value (Holds n Still borrowed) (λ o phase lent e. older o phase lent e))
    where
      older : (o : ℕ) (phase : Phase) (lent : Bool) → Holds n Still borrowed ≡ Holds o phase lent → o < c.stored
      older o phase lent e = let same_pair : n ≡ o = cc e in omega arith

  shown : Represents hash (with_word w.memory (Word (blocks.table t) (spot + PLACES)) p.own) c2 blocks2 setting.root
  shown =
      own_shown same hash asks caller setting keys lawful fits w c blocks map p s t j trial none root own spot
      (inside same hash asks caller setting keys lawful fits w c blocks map p s t j trial none root)

  hands : Hands same hash setting (record w { hand = with_at w.hand own.block (InUse setting.counter); log = Linked own.block setting.counter ∷ w.log }) c2 blocks2
  hands = own_hands same hash asks caller setting keys lawful fits w c blocks map p s t j trial none root own spot

  word_large : 2048 ≤ word
  word_large =
      let large = pair_word-large blocks.pair (λ o. byte_of hash (c.key o)) n Still borrowed (map.map.shows.pair_numbers n was known).0 in
      omega (arith, word_is, large)

  module _ (change : Change) (f : CallFacts same hash asks w caller setting c blocks keys change p) (unchanged : change ≡ Unchanged)
      (m2 : Mem (Node K V)) (after_is : m2 ≡ with_word w.memory (place_tried p.trial) p.own) where
    left : HasLeft w caller setting c2 blocks2 n
    left = let l = replaced_has_left same (spot_of hash) w caller setting blocks lawful c t spot n own.key bit map.map.rule borrowed stood known in (l.0, known_still, l.2)

    abbrev Older : Type 0
    Older = (u i : ℕ) (phase : Phase) (lent : Bool) → c2.place u i ≡ Holds n phase lent → u < t

    abbrev Nowhere : Type 0
    Nowhere = (u i : ℕ) (phase : Phase) (lent : Bool) → c2.first ≤ u → u < c2.past → c2.place u i ≢ Holds n phase lent

    stands_out : cond (cond bit borrowed false) Older Nowhere
    stands_out = replaced_stands same (spot_of hash) w caller setting blocks lawful c t spot n own.key bit map.map.rule borrowed stood of_own may

    abbrev end : KeyCall K V Q × Called (Node K V)
    end = going p (at.Disposes (disposing setting word p.trial.table) (answers.Replaced word p.own))

    end_is : changed p word p.own ≡ going p (at.Disposes (disposing setting word p.trial.table) (answers.Replaced word p.own))
    end_is =
        ap (λ (q : Bool). if q then going p (at.Counts word) else (if word == 0 then going p (at.Counts 0) else going p (at.Disposes (disposing p.setting word p.trial.table) (answers.Replaced word p.own))))
        (ne_eqb p.own TOMBSTONE (omega (arith, own_large same hash asks caller setting keys lawful fits w c blocks map p s t j trial none root own)))
        ∙ ap (λ (q : Bool). if q then going p (at.Counts 0) else going p (at.Disposes (disposing p.setting word p.trial.table) (answers.Replaced word p.own)))
        (ne_eqb word 0 (omega (arith, word_large)))
        ∙ ap (λ (x : Setting). going p (at.Disposes (disposing x word p.trial.table) (answers.Replaced word p.own))) s.setting_is

    told : (w2 : World (Node K V)) → IsTakenOut w2 caller setting c2 blocks2 n t borrowed
        → CallOutcome same hash asks caller setting keys c change p w2 c2 blocks2 end.0 end.1
    told w2 out = record {
      change2 = Replaced n c.stored;
      facts = record {
        setting_is = f.setting_is;
        may = f.may;
        code = f.code;
        class = f.class;
        unchanged = λ h. absurd h;
        idle = λ h. s.idle;
        point = (
          dispose_begins hash fits w2 caller setting c2 blocks2 n t word borrowed word_still p.trial.table
              (record { made = trial.table.made; known = trial.table.known; is = trial.table.is }) left out,
          (
            (left.0, known_still),
            (omega arith, ap (λ q. cond q true (blocks.pair_known c.stored)) (eq-eqb c.stored c.stored refl)),
            borrowed,
            word_still,
            own_word_is same hash asks caller setting keys lawful fits w c blocks map p s t j trial none root own spot,
          ),
        );
      };
      changes = inr (unchanged, (refl, pair_is, ap (λ (x : Place). put (without (spot_of hash) bit x c.current) c.stored true) stood));
      beside = λ other. inr (Replaces t spot own.key, tt, refl);
      answers = λ answer answered fresh stays. absurd answered;
      tells = λ answer answered fresh changed. absurd answered;
    }

    new_made : (x : ℕ) → c.stored ≤ x → x < suc c.stored → w.hand (blocks2.pair x) ≡ Making caller
    new_made x l m =
        ap w.hand (ap (λ (q : ℕ). cond (eqb q c.stored) own.block (blocks.pair q)) (let e : x ≡ c.stored = omega (arith, l, m) in e) ∙ ap (λ q. cond q own.block (blocks.pair c.stored)) (eq-eqb c.stored c.stored refl))
        ∙ own.hand

    -- nothing comes out but the two pairs
    come_out : (new : Hand) → OutsAreKnown caller w.hand (with_at (with_at w.hand own.block (InUse setting.counter)) (blocks2.pair n) new) c2 blocks2
    come_out new =
        known_with caller w.hand c2 blocks2 (with_at w.hand own.block (InUse setting.counter)) (blocks2.pair n) new (λ mine out. inr (n, left.0, known_still, refl))
        (own_comes_out same hash asks caller setting keys lawful fits w c blocks map p s t j trial none root own spot)

    by_older : (q : Bool) → cond bit borrowed false ≡ q → CallWent same hash asks caller setting keys w c blocks map change p f m2 end
    by_older true e =
        went_changed same hash asks caller setting keys lawful fits w c blocks map p s t j trial word p.own found is m2 after_is
        (with_at (with_at w.hand own.block (InUse setting.counter)) (blocks2.pair n) (Parting caller)) (Linked own.block setting.counter ∷ w.log)
        (λ m i other. keeps_then i m m m w.hand (with_at w.hand own.block (InUse setting.counter)) (with_at (with_at w.hand own.block (InUse setting.counter)) (blocks2.pair n) (Parting caller))
        (keeps_handed i m w.hand own.block (InUse setting.counter) (own_not_held caller i (w.hand own.block) other own.hand))
        (keeps_handed i m (with_at w.hand own.block (InUse setting.counter)) (blocks2.pair n) (Parting caller) (used_not_held i (with_at w.hand own.block (InUse setting.counter) (blocks2.pair n)) used)))
        (λ x value is out. outs_handed w.memory (with_at w.hand own.block (InUse setting.counter)) (blocks2.pair n) (Parting caller) tt x value is (outs_handed w.memory w.hand own.block (InUse setting.counter) tt x value is out))
        (Links caller own.block setting.counter ∷ Parts caller (blocks2.pair n) ∷ []) (tt, (tt, tt)) ((inl (own.hand, λ shards. (let there = own.there in cc (there, shards))), refl), (inr (inr (n, was, known, block_is)), tt)) (_, ((caller, own.hand), refl), (_, ((setting.counter, used), refl), refl))
        (Replaces t spot own.key) ((λ i by. absurd by), trial.table.known) allowed refl blocks2 new_made (come_out (Parting caller)) shown map.map.later
        (let h = hands_parting same hash setting (record w { hand = with_at w.hand own.block (InUse setting.counter); log = Linked own.block setting.counter ∷ w.log }) c2 blocks2
        (moves_keep same (spot_of hash) bit lawful (Replaces t spot own.key) c map.map.rule allowed).0 shown caller n left.0 known_still left.2 used hands in
        record { tables = h.tables; pairs = h.pairs; named = h.named; tables_out = h.tables_out; pairs_out = h.pairs_out })
        (same_blocks same hash asks caller setting keys lawful fits w c blocks map p s t j trial none root own spot)
        (λ w2 c2 blocks2. CallOutcome same hash asks caller setting keys c change p w2 c2 blocks2 end.0 end.1)
        (told (record w { memory = with_word w.memory (place_tried p.trial) p.own; hand = with_at (with_at w.hand own.block (InUse setting.counter)) (blocks2.pair n) (Parting caller); log = Linked own.block setting.counter ∷ w.log })
        (subst (λ (x : Bool). cond x ((with_at (with_at w.hand own.block (InUse setting.counter)) (blocks2.pair n) (Parting caller) (blocks2.pair n) ≡ Parting caller) × Older)
        ((with_at (with_at w.hand own.block (InUse setting.counter)) (blocks2.pair n) (Parting caller) (blocks2.pair n) ≡ Cutting caller) × Nowhere)) (sym e)
        (with_here (with_at w.hand own.block (InUse setting.counter)) (blocks2.pair n) (Parting caller), subst (λ (x : Bool). cond x Older Nowhere) e stands_out)))
    by_older false e =
        went_changed same hash asks caller setting keys lawful fits w c blocks map p s t j trial word p.own found is m2 after_is
        (with_at (with_at w.hand own.block (InUse setting.counter)) (blocks2.pair n) (Cutting caller)) (Unlinked (blocks2.pair n) ∷ Linked own.block setting.counter ∷ w.log)
        (λ m i other. keeps_then i m m m w.hand (with_at w.hand own.block (InUse setting.counter)) (with_at (with_at w.hand own.block (InUse setting.counter)) (blocks2.pair n) (Cutting caller))
        (keeps_handed i m w.hand own.block (InUse setting.counter) (own_not_held caller i (w.hand own.block) other own.hand))
        (keeps_handed i m (with_at w.hand own.block (InUse setting.counter)) (blocks2.pair n) (Cutting caller) (used_not_held i (with_at w.hand own.block (InUse setting.counter) (blocks2.pair n)) used)))
        (λ x value is out. outs_handed w.memory (with_at w.hand own.block (InUse setting.counter)) (blocks2.pair n) (Cutting caller) tt x value is (outs_handed w.memory w.hand own.block (InUse setting.counter) tt x value is out))
        (Links caller own.block setting.counter ∷ Unlinks caller (blocks2.pair n) ∷ []) (tt, (tt, tt)) ((inl (own.hand, λ shards. (let there = own.there in cc (there, shards))), refl), (inr (inr (n, was, known, block_is)), tt)) (_, ((caller, own.hand), refl), (_, (subst (MayCut caller) (sym used) tt, refl), refl))
        (Replaces t spot own.key) ((λ i by. absurd by), trial.table.known) allowed refl blocks2 new_made (come_out (Cutting caller)) shown map.map.later
        (let h = hands_left same hash setting (record w { hand = with_at w.hand own.block (InUse setting.counter); log = Linked own.block setting.counter ∷ w.log }) c2 blocks2
        (moves_keep same (spot_of hash) bit lawful (Replaces t spot own.key) c map.map.rule allowed).0 shown caller n left.0 known_still left.2 nowhere hands in
        record { tables = h.tables; pairs = h.pairs; named = h.named; tables_out = h.tables_out; pairs_out = h.pairs_out })
        (same_blocks same hash asks caller setting keys lawful fits w c blocks map p s t j trial none root own spot)
        (λ w2 c2 blocks2. CallOutcome same hash asks caller setting keys c change p w2 c2 blocks2 end.0 end.1)
        (told (record w { memory = with_word w.memory (place_tried p.trial) p.own; hand = with_at (with_at w.hand own.block (InUse setting.counter)) (blocks2.pair n) (Cutting caller); log = Unlinked (blocks2.pair n) ∷ Linked own.block setting.counter ∷ w.log })
        (subst (λ (x : Bool). cond x ((with_at (with_at w.hand own.block (InUse setting.counter)) (blocks2.pair n) (Cutting caller) (blocks2.pair n) ≡ Parting caller) × Older)
        ((with_at (with_at w.hand own.block (InUse setting.counter)) (blocks2.pair n) (Cutting caller) (blocks2.pair n) ≡ Cutting caller) × Nowhere)) (sym e)
        (with_here (with_at w.hand own.block (InUse setting.counter)) (blocks2.pair n) (Cutting caller), nowhere)))
      where
        nowhere : (u i : ℕ) (phase : Phase) (lent : Bool) → c2.first ≤ u → u < c2.past → c2.place u i ≢ Holds n phase lent
        nowhere = subst (λ (x : Bool). cond x Older Nowhere) e stands_out

    pub went_replaces : CallWent same hash asks caller setting keys w c blocks map change p f m2 (changed p word p.own)
    went_replaces =
        by_end same hash asks caller setting keys w c blocks map change p f m2 (changed p word p.own) end end_is
        (by_older (cond (is_incremental setting.mode) borrowed false) refl)
