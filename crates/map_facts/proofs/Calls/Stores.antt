-- A call stores its own pair in an empty place.
use Rattle.std.specs.Prelude.{eqb, ◌≡◌, ℕ, ◌+◌, ◌/◌, ◌^◌, ◌<◌, ◌≤◌, Bool, true, false, cond, [], ◌∷◌, Some, if◌then◌else◌}
use Rattle.std.proofs.Common.{refl, ap, sym, subst, ◌∙◌, inl, inr, arith}
use Rattle.std.proofs.lemmas.Bool.{eq-eqb, ne_eqb}
use Rattle.map_rule.specs.Given.SeizeWordsWord.{link_word}
use Rattle.map_rule.specs.Given.SeizeWordsDeclared.at.At.TheVariants.{Word}
use Rattle.map_rule.specs.Given.SeizeWordsMem.{Mem, word_at, with_word}
use Rattle.papaya_raw.specs.Given.SeizeLaw.{Linked}
use Rattle.papaya_raw.specs.Given.SeizeWorld.{World, InUse, Links, with_at}
use Rattle.papaya_raw.specs.Given.TablesChunks.{is_incremental}
use Rattle.papaya_raw.specs.CallPoints.{word_to, going, changed}
use Rattle.papaya_raw.specs.Given.TablesTrials.{place_tried}
use Rattle.papaya_raw.specs.Given.TablesDeclared.marks.TheConstants.{TOMBSTONE}
use Rattle.papaya_raw.specs.Given.TablesDeclared.node.Node.{Node}
use Rattle.papaya_raw.specs.Given.TablesDeclared.setting.Setting.{Setting}
use Rattle.papaya_raw.specs.Given.TablesDeclared.table_words.TheConstants.{PLACES}
use Rattle.papaya_raw.specs.Given.TablesDeclared.finding.Aim.TheVariants as aims
use Rattle.papaya_raw.specs.declared.machines.call.KeyCall.{KeyCall}
use Rattle.papaya_raw.specs.declared.machines.call.Calling.TheVariants as at
use Rattle.map_rule.specs.Chart.{Still, Place, Empty, Holds, Chart, put, is_settled}
use Rattle.map_rule.specs.Rule.{IsLawful, Rule}
use Rattle.map_rule.specs.Moves.{Stores, MayChange, Allowed, with_pair, without}
use Rattle.map_rule.specs.Words.{Blocks, place_word, Represents}
use Rattle.map_rule.specs.Maps.{spot_at, spot_of, IsTrial, NoneBefore}
use Rattle.map_rule.specs.InWorld.{IsKnownBlock, IsMapIn, SameBlocks}
use Rattle.map_facts.specs.FactsCalls.{Change, Unchanged, Stored, IsOwnPair, CallFacts}
use Rattle.map_facts.specs.Told.{CallOutcome}
use Rattle.map_rule.proofs.World.Hands.{Hands, hands_of, hands_linked, own_outside}
use Rattle.map_rule.proofs.World.HandsStored.{hands_stored}
use Rattle.map_rule.proofs.Words.WritesStored.{with_pair_block, IsNewPair, new_pair_word, pair_stored}
use Rattle.map_rule.proofs.Keys.ClassesSeen.{tried_is}
use Rattle.map_rule.proofs.Keys.ClassesFound.{home_unsettled, absent_free}
use Rattle.map_facts.proofs.Calls.CallsOn.{Seeking}
use Rattle.map_facts.proofs.Calls.CallsFound.{inside}
use Rattle.map_facts.proofs.Calls.Makes.{CallWent, by_end}
use Rattle.map_facts.proofs.Calls.Tries.{went_changed}
use Rattle.map_rule.proofs.Words.LinksOwn.{OutsAreKnown, outs_handed, known_same, known_with}
use Rattle.map_rule.proofs.World.OthersSpared.{keeps_handed, own_not_held}

-- the word of a block by a hash
pub word_to_is : (block code : ℕ) → block < 2 ^ 53 → code < 2 ^ 64 → word_to block code ≡ link_word block (code / 2 ^ 57) 0
word_to_is block code small few = omega arith

-- it is that of no tombstone, and of no empty place
pub word_to_large : (block code : ℕ) → 0 < block → block < 2 ^ 53 → code < 2 ^ 64 → 2048 ≤ word_to block code
word_to_large block code some small few = omega arith

module _ {K V Q : Type 0} (same : K → K → Bool) (hash : K → ℕ) (asks : Q → K → Bool) (caller : ℕ) (setting : Setting) (keys : K → Bool)
    (lawful : IsLawful same (spot_of hash)) (fits : (k : K) → hash k < 2 ^ 64)
    (w : World (Node K V)) (c : Chart K) (blocks : Blocks) (map : IsMapIn same hash setting w c blocks) (p : KeyCall K V Q)
    (s : Seeking same hash asks caller setting keys w c blocks p)
    (t j : ℕ) (trial : IsTrial c blocks p.trial p.hash t j) (none : NoneBefore same hash (is_incremental setting.mode) c keys t j)
    (root : is_incremental setting.mode ≡ false → t ≡ c.first)
    (own : IsOwnPair same hash asks w caller setting c blocks keys Unchanged p.own p.hash) where
  -- the key of its own pair is one of its keys
  pub own_asked : keys own.key ≡ true
  own_asked = own.keys_are own.key ∙ lawful.classes.refl own.key

  -- its word is neither empty nor that of a tombstone
  pub own_large : 2048 ≤ p.own
  own_large = let is = own.word_is in let large = word_to_large own.block p.hash own.number.0 own.number.1 s.code in omega (arith, is, large)

  -- its block is that of no table, and of no pair
  pub new_pair : IsNewPair w.memory c blocks own.block own.key own.value
  new_pair = record {
    value = own.there;
    some = own.number.0;
    fits = own.number.1;
    apart = (own_outside same hash setting w c blocks own.block caller own.hand (hands_of same hash setting w c blocks map)).pairs;
  }

  -- the counter is another block

  module _ (i : ℕ) where
    -- it is the word of the new pair
    pub own_word_is : p.own ≡ place_word hash (with_pair (spot_of hash) (is_incremental setting.mode) c t i own.key) (with_pair_block blocks c.stored own.block) (Holds c.stored Still false)
    own_word_is =
        own.word_is ∙ word_to_is own.block p.hash own.number.1 s.code ∙ ap (λ (h : ℕ). link_word own.block (h / 2 ^ 57) 0) (sym own.code_is)
        ∙ sym (new_pair_word hash (spot_of hash) (is_incremental setting.mode) w.memory c blocks setting.root t i own.block own.key own.value)

    -- the memory with its word shows the new pair
    pub own_shown : i < c.len t
        → Represents hash (with_word w.memory (Word (blocks.table t) (i + PLACES)) p.own) (with_pair (spot_of hash) (is_incremental setting.mode) c t i own.key)
        (with_pair_block blocks c.stored own.block) setting.root
    own_shown inside =
        subst (λ (x : ℕ). Represents hash (with_word w.memory (Word (blocks.table t) (i + PLACES)) x) (with_pair (spot_of hash) (is_incremental setting.mode) c t i own.key)
        (with_pair_block blocks c.stored own.block) setting.root) (sym own_word_is)
        (pair_stored hash (spot_of hash) (is_incremental setting.mode) w.memory c blocks setting.root t i own.block own.key own.value same map.map.shows map.map.rule.common
        trial.table.made trial.table.known inside new_pair)

    pub same_blocks : SameBlocks c blocks (with_pair_block blocks c.stored own.block)
    same_blocks = record {
      tables = λ u made known. (refl, known);
      pairs = λ n was known. (
        ap (λ q. cond q own.block (blocks.pair n)) (ne_eqb n c.stored (omega arith)),
        ap (λ q. cond q true (blocks.pair_known n)) (ne_eqb n c.stored (omega arith)) ∙ known,
      );
      tables_back = λ u made known. known;
      pairs_back = λ n was known. sym (ap (λ q. cond q true (blocks.pair_known n)) (ne_eqb n c.stored (omega arith))) ∙ known;
    }

    -- it alone comes out, as a pair of the map
    own_known : IsKnownBlock (with_pair (spot_of hash) (is_incremental setting.mode) c t i own.key) (with_pair_block blocks c.stored own.block) own.block
    own_known = inr (
      c.stored,
      omega arith,
      ap (λ q. cond q true (blocks.pair_known c.stored)) (eq-eqb c.stored c.stored refl),
      sym (ap (λ q. cond q own.block (blocks.pair c.stored)) (eq-eqb c.stored c.stored refl)),
    )

    pub own_comes_out : OutsAreKnown caller w.hand (with_at w.hand own.block (InUse setting.counter)) (with_pair (spot_of hash) (is_incremental setting.mode) c t i own.key)
        (with_pair_block blocks c.stored own.block)
    own_comes_out =
        known_with caller w.hand (with_pair (spot_of hash) (is_incremental setting.mode) c t i own.key) (with_pair_block blocks c.stored own.block) w.hand own.block (InUse setting.counter)
        (λ mine out. own_known) (known_same caller w.hand (with_pair (spot_of hash) (is_incremental setting.mode) c t i own.key) (with_pair_block blocks c.stored own.block))

    -- its block is linked, and its pair stored
    pub own_hands : Hands same hash setting (record w { hand = with_at w.hand own.block (InUse setting.counter); log = Linked own.block setting.counter ∷ w.log })
        (with_pair (spot_of hash) (is_incremental setting.mode) c t i own.key) (with_pair_block blocks c.stored own.block)
    own_hands =
        let h = hands_linked same hash setting w c blocks own.block caller own.hand (hands_of same hash setting w c blocks map) in
        hands_stored same hash setting (record w { hand = with_at w.hand own.block (InUse setting.counter); log = Linked own.block setting.counter ∷ w.log }) c blocks map.map.rule t i own.block own.key
        (ap (λ q. if q then (InUse setting.counter) else w.hand own.block) (eq-eqb own.block own.block refl))
        (record { tables = h.tables; pairs = h.pairs; named = h.named; tables_out = h.tables_out; pairs_out = h.pairs_out })

  -- the place is empty
  module _ (empty : c.place t (spot_at (c.len t) p.hash j) ≡ Empty false) where
    allowed : Allowed same (spot_of hash) (is_incremental setting.mode) (Stores t own.key j) c
    allowed = (
      trial.table.made,
      home (is_incremental setting.mode) map.map.rule (none own.key own_asked).1,
      trial.most,
      tried_is same hash lawful keys p.hash s.class (is_incremental setting.mode) c t j own.key own_asked ∙ empty,
      (none own.key own_asked).0,
      (none own.key own_asked).1,
    )
      where
        home : (b : Bool) → Rule same (spot_of hash) b c → MayChange same (spot_of hash) b c t own.key → c.first ≤ t
        home true rule may =
            home_unsettled same (spot_of hash) c rule t (spot_at (c.len t) p.hash j)
            (inside same hash asks caller setting keys lawful fits w c blocks map p s t j trial none root) (ap is_settled empty)
        home false rule may = omega arith

    -- where the place of its key stands
    spot_is : spot_of hash (c.len t) own.key j ≡ spot_at (c.len t) p.hash j
    spot_is = ap (λ h. spot_at (c.len t) h j) own.code_is

    pub went_stores : (change : Change) → (f : CallFacts same hash asks w caller setting c blocks keys change p) → change ≡ Unchanged
        → (found : ℕ) → (word_at w.memory (place_tried p.trial) ≡ Some found) × (found ≡ 0) → (m2 : Mem (Node K V)) → m2 ≡ with_word w.memory (place_tried p.trial) p.own
        → CallWent same hash asks caller setting keys w c blocks map change p f m2 (changed p 0 p.own)
    went_stores change f unchanged found is m2 after_is =
        by_end same hash asks caller setting keys w c blocks map change p f m2 (changed p 0 p.own) (going p (at.Counts 0)) not_tombstone
        (went_changed same hash asks caller setting keys lawful fits w c blocks map p s t j trial 0 p.own found is m2 after_is
        (with_at w.hand own.block (InUse setting.counter)) (Linked own.block setting.counter ∷ w.log)
        (λ m i other. keeps_handed i m w.hand own.block (InUse setting.counter) (own_not_held caller i (w.hand own.block) other own.hand)) (outs_handed w.memory w.hand own.block (InUse setting.counter) tt) (Links caller own.block setting.counter ∷ []) (tt, tt) ((inl (own.hand, λ shards. (let there = own.there in cc (there, shards))), refl), tt) (_, ((caller, own.hand), refl), refl)
        (Stores t own.key j) ((λ i by. absurd by), trial.table.known) allowed refl (with_pair_block blocks c.stored own.block)
        (λ x l m. ap w.hand (ap (λ (q : ℕ). cond (eqb q c.stored) own.block (blocks.pair q)) (let e : x ≡ c.stored = omega (arith, l, m) in e) ∙ ap (λ q. cond q own.block (blocks.pair c.stored)) (eq-eqb c.stored c.stored refl)) ∙ own.hand)
        (own_comes_out (spot_of hash (c.len t) own.key j))
        (subst (λ (x : ℕ). Represents hash (with_word w.memory (Word (blocks.table t) (spot_at (c.len t) p.hash j + PLACES)) p.own)
        (with_pair (spot_of hash) (is_incremental setting.mode) c t x own.key) (with_pair_block blocks c.stored own.block) setting.root) (sym spot_is)
        (own_shown (spot_at (c.len t) p.hash j) (inside same hash asks caller setting keys lawful fits w c blocks map p s t j trial none root)))
        map.map.later (own_hands (spot_of hash (c.len t) own.key j)) (same_blocks (spot_of hash (c.len t) own.key j))
        (λ w2 c2 blocks2. CallOutcome same hash asks caller setting keys c change p w2 c2 blocks2 (going p (at.Counts 0)).0 (going p (at.Counts 0)).1)
        (record {
          change2 = Stored c.stored;
          facts = record {
            setting_is = f.setting_is;
            may = f.may;
            code = f.code;
            class = f.class;
            unchanged = λ h. absurd h;
            idle = λ h. s.idle;
            point = inl (
              refl,
              c.stored,
              refl,
              (omega arith, ap (λ q. cond q true (blocks.pair_known c.stored)) (eq-eqb c.stored c.stored refl)),
              own_word_is (spot_of hash (c.len t) own.key j),
            );
          };
          changes = inr (
            unchanged,
            (
              refl,
              absent_free same hash lawful keys p.hash s.class c (is_incremental setting.mode) map.map.rule t j aims.Stores trial.most
                  (inside same hash asks caller setting keys lawful fits w c blocks map p s t j trial none root) none (inl empty),
              ap (λ (x : Place). put (without (spot_of hash) (is_incremental setting.mode) x c.current) c.stored true) (ap (c.place t) spot_is ∙ empty),
            ),
          );
          beside = λ other. inr (Stores t own.key j, tt, refl);
          answers = λ answer answered fresh stays. absurd answered;
          tells = λ answer answered fresh changed. absurd answered;
        }))
      where
        not_tombstone : changed p 0 p.own ≡ going p (at.Counts 0)
        not_tombstone = ap (λ (q : Bool). if q then going p (at.Counts 0) else going p (at.Counts 0)) (ne_eqb p.own TOMBSTONE (omega (arith, own_large)))
