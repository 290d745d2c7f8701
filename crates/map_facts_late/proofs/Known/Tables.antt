-- In incremental mode: what steps of others leave of what a call knows of tables, of its tries, and of its own blocks.
use Rattle.std.specs.Prelude.{◌≡◌, ℕ, ◌*◌, ◌<◌, ◌≤◌, Bool, true, false, cond, Option}
use Rattle.std.proofs.Common.{refl, ap, sym, subst, ◌∙◌, inl, inr, arith}
use Rattle.map_facts.specs.Given.SeizeWordsDeclared.at.At.{At}
use Rattle.map_facts.specs.Given.SeizeWordsDeclared.at.At.TheVariants.{Root, Used, Slot, Entry, Word}
use Rattle.map_facts.specs.Given.SeizeWordsMem.{word_at}
use Rattle.map_facts.specs.Given.SeizeWorld.{World}
use Rattle.map_facts.specs.Given.TablesChunks.{is_incremental}
use Rattle.map_facts.specs.Given.TablesDeclared.node.Node.{Node}
use Rattle.map_facts.specs.Given.TablesDeclared.setting.Setting.{Setting}
use Rattle.map_facts.specs.Given.TablesDeclared.status.TheConstants.Status.{ABORTED}
use Rattle.map_facts.specs.Given.TablesDeclared.table.Table.{Table}
use Rattle.map_facts.specs.Given.TablesDeclared.trial.Trial.{Trial}
use Rattle.map_facts.specs.Given.TablesDeclared.table_words.TheConstants.{NEXT}
use Rattle.map_facts.specs.Given.ResizeDeclared.new_table.NewTable.{NewTable}
use Rattle.map_facts.specs.Given.ResizeDeclared.new_table.Making.{Making as Point}
use Rattle.map_facts.specs.Given.ResizeDeclared.new_table.Making.TheVariants as at
use Rattle.map_facts.specs.Given.RuleChart.{Phase, Holds, Chart, is_taken}
use Rattle.map_facts.specs.Given.RuleRule.{Passed, ShutBefore, names}
use Rattle.map_facts.specs.Given.RuleMoves.{MayChange}
use Rattle.map_facts.specs.Given.RuleWords.{Blocks, byte_of, word_of, place_word}
use Rattle.map_facts.specs.Given.RuleMaps.{spot_of, IsTable, IsTrial, NoneBefore}
use Rattle.map_facts.specs.Given.RuleInWorld.{IsHeldBy}
use Rattle.map_facts.specs.Given.RuleLeaves.{Leaves}
use Rattle.map_facts.specs.FactsTables.{IsLinkOf, StandsAs, IsMadeFor, IsOwnTable, MakingFacts, NewTableFacts}
use Rattle.map_facts.specs.Others.{OthersStep}

module _ {K : Type 0} (same : K → K → Bool) (spot : ℕ → K → ℕ → ℕ) (bit : Bool) (caller : ℕ) (c c2 : Chart K) (leaves : Leaves same spot bit caller c c2) where
  -- its tries are passed still
  pub passed_on : (t : ℕ) (k : K) (j : ℕ) → t < c.past → Passed same spot bit c t k j → Passed same spot bit c2 t k j
  passed_on t k j made h g l =
      let x = h g l in
      let len = sym (leaves.lasts.lens t made).0 in (
        subst (λ (n : ℕ). is_taken bit (c2.place t (spot n k g)) ≡ true) len (leaves.lasts.taken t (spot (c.len t) k g) x.0),
        subst (λ (n : ℕ). names same spot bit c2.key k (c2.place t (spot n k g)) ≡ false) len (leaves.lasts.others t (spot (c.len t) k g) k x.0 x.1),
      )

module _ {K : Type 0} (same : K → K → Bool) (spot : ℕ → K → ℕ → ℕ) (bit : Bool) (bits : bit ≡ true) (caller : ℕ) (c c2 : Chart K) (leaves : Leaves same spot bit caller c c2) where
  -- and the tables before are shut still
  pub shut_before_on : (t : ℕ) (k : K) → t ≤ c.past → ShutBefore same spot bit c t k → ShutBefore same spot bit c2 t k
  shut_before_on t k made h u l = leaves.lasts.shut u k bits (omega arith) (h u l)

  pub may_change_on : (t : ℕ) (k : K) → t ≤ c.past → MayChange same spot bit c t k → MayChange same spot bit c2 t k
  may_change_on t k made h =
      subst (λ (x : Bool). cond x (ShutBefore same spot bit c2 t k) (t ≡ c2.first)) (sym bits)
      (shut_before_on t k made (subst (λ (x : Bool). cond x (ShutBefore same spot bit c t k) (t ≡ c.first)) bits h))

module _ {K V : Type 0} (same : K → K → Bool) (hash : K → ℕ) (setting : Setting) (caller : ℕ) (w w2 : World (Node K V)) (c c2 : Chart K)
    (blocks blocks2 : Blocks) (others : OthersStep same hash setting caller w c blocks w2 c2 blocks2) where
  pub made_on : (t : ℕ) → t < c.past → t < c2.past
  made_on t l = let p = others.leaves.lasts.past in omega (arith, l, p)

  pub first_on : (t : ℕ) → t ≤ c.first → t ≤ c2.first
  first_on t l = let p = others.leaves.lasts.first in omega (arith, l, p)

  pub stored_on : (n : ℕ) → n < c.stored → n < c2.stored
  stored_on n l = let p = others.leaves.lasts.stored in omega (arith, l, p)

  pub key_on : (n : ℕ) → n < c.stored → c2.key n ≡ c.key n
  key_on n l = others.leaves.lasts.keys n l

  pub len_on : (t : ℕ) → t < c.past → c2.len t ≡ c.len t
  len_on t l = (others.leaves.lasts.lens t l).0

  pub limit_on : (t : ℕ) → t < c.past → c2.limit t ≡ c.limit t
  limit_on t l = (others.leaves.lasts.lens t l).1

  pub table_known_on : (t : ℕ) → t < c.past → blocks.table_known t ≡ true → blocks2.table_known t ≡ true
  table_known_on t l known = (others.tables t l known).1

  pub table_block_on : (t : ℕ) → t < c.past → blocks.table_known t ≡ true → blocks2.table t ≡ blocks.table t
  table_block_on t l known = (others.tables t l known).0

  pub table_on : (table : Table) (t : ℕ) → IsTable c blocks table t → IsTable c2 blocks2 table t
  table_on table t h = record {
    made = made_on t h.made;
    known = table_known_on t h.made h.known;
    is = rw (table_block_on t h.made h.known, len_on t h.made, limit_on t h.made) h.is;
  }

  pub trial_on : (trial : Trial) (code t j : ℕ) → IsTrial c blocks trial code t j → IsTrial c2 blocks2 trial code t j
  trial_on trial code t j h = record {
    table = table_on trial.table t h.table;
    place = rw (len_on t h.table.made) h.place;
    try = h.try;
    most = rw (limit_on t h.table.made) h.most;
  }

  -- the word of a pair
  pub word_on : (n : ℕ) → n < c.stored → blocks.pair_known n ≡ true → (phase : Phase) (borrowed : Bool) → place_word hash c2 blocks2 (Holds n phase borrowed) ≡ place_word hash c blocks (Holds n phase borrowed)
  word_on n was known phase borrowed =
      ap (λ (b : ℕ). word_of (λ (x : ℕ). b) (λ (x : ℕ). byte_of hash (c2.key n)) (Holds n phase borrowed)) (others.pairs n was known).0
      ∙ ap (λ (k : Option K). word_of (λ (x : ℕ). blocks.pair n) (λ (x : ℕ). byte_of hash k) (Holds n phase borrowed)) (key_on n was)

  -- its own table
  pub own_table_on : (table : Table) (status : ℕ) → IsOwnTable w caller table status → IsOwnTable w2 caller table status
  own_table_on table status h =
      let own = others.own.blocks h.block _ h.value (λ e. absurd (cc e)) (subst (IsHeldBy caller) (sym h.hand) refl) in
      let words : (field : ℕ) → word_at w2.memory (Word h.block field) ≡ word_at w.memory (Word h.block field) = λ field. others.own.words h.block field _ h.value (λ e. absurd (cc e)) h.hand in
      record {
        block = h.block;
        link = h.link;
        number = h.number;
        hand = own.0 ∙ h.hand;
        value = own.1;
        blank = λ field inside other. words field ∙ h.blank field inside other;
        status_is = words _ ∙ h.status_is;
      }

module _ {K V : Type 0} (same : K → K → Bool) (hash : K → ℕ) (setting : Setting) (bits : is_incremental setting.mode ≡ true) (caller : ℕ) (w w2 : World (Node K V)) (c c2 : Chart K)
    (blocks blocks2 : Blocks) (others : OthersStep same hash setting caller w c blocks w2 c2 blocks2) where
  abbrev bit : Bool
  bit = is_incremental setting.mode

  pub none_on : (keys : K → Bool) (t j : ℕ) → t < c.past → NoneBefore same hash bit c keys t j → NoneBefore same hash bit c2 keys t j
  none_on keys t j made h k asked =
      let x = h k asked in (
        passed_on same (spot_of hash) bit caller c c2 others.leaves t k j made x.0,
        may_change_on same (spot_of hash) bit bits caller c c2 others.leaves t k (omega (arith, made)) x.1,
      )

  stands_on : (link : At) (turn u : ℕ) → StandsAs setting c link turn u → StandsAs setting c2 link turn u
  stands_on (Root r) turn u h = subst (λ (x : Bool). cond x (u ≤ c2.first) (u ≡ c2.first)) (sym bits) (first_on same hash setting caller w w2 c c2 blocks blocks2 others u (subst (λ (x : Bool). cond x (u ≤ c.first) (u ≡ c.first)) bits h))
  stands_on (Used r) turn u h = h
  stands_on (Slot s field) turn u h = h
  stands_on (Entry b field) turn u h = h
  stands_on (Word b field) turn u h = h

  made_for_on : (link : At) (turn : ℕ) (table : Table) → IsMadeFor setting c blocks link turn table → IsMadeFor setting c2 blocks2 link turn table
  made_for_on link turn table h = (h.0, stands_on link turn h.0 h.1, table_on same hash setting caller w w2 c c2 blocks blocks2 others table h.0 h.2)

  link_of_on : (link : At) (turn : ℕ) → IsLinkOf setting c blocks link turn → IsLinkOf setting c2 blocks2 link turn
  link_of_on link turn (inl root) = inl root
  link_of_on link turn (inr h) =
      inr (
        h.0,
        h.1 ∙ ap (λ (b : ℕ). Word b NEXT) (sym (table_block_on same hash setting caller w w2 c c2 blocks blocks2 others h.0 h.3 h.4)),
        h.2,
        made_on same hash setting caller w w2 c c2 blocks blocks2 others h.0 h.3,
        table_known_on same hash setting caller w w2 c c2 blocks blocks2 others h.0 h.3 h.4,
        subst (λ (x : Bool). cond x (Unit {0}) (c2.first < h.0 → c2.status h.0 ≡ ABORTED)) (sym bits) tt,
      )

  making_on : (link : At) (turn : ℕ) (stands : Point) → MakingFacts w caller setting c blocks link turn stands → MakingFacts w2 caller setting c2 blocks2 link turn stands
  making_on link turn (at.Sums before reason sum) h = ((h.0.0, table_on same hash setting caller w w2 c c2 blocks blocks2 others before h.0.0 h.0.1, h.0.2), h.1)
  making_on link turn (at.Makes table) h = h
  making_on link turn (at.Promotes table) h = (own_table_on same hash setting caller w w2 c c2 blocks blocks2 others table _ h.0, h.1, h.2)
  making_on link turn (at.Links table) h = (own_table_on same hash setting caller w w2 c c2 blocks blocks2 others table _ h.0, h.1)
  making_on link turn (at.Drops table found) h =
      (own_table_on same hash setting caller w w2 c c2 blocks blocks2 others table _ h.0, h.1, stands_on link turn h.1 h.2, made_on same hash setting caller w w2 c c2 blocks blocks2 others h.1 h.3, table_known_on same hash setting caller w w2 c c2 blocks blocks2 others h.1 h.3 h.4, h.5 ∙ ap (λ (b : ℕ). b * 2048) (sym (table_block_on same hash setting caller w w2 c c2 blocks blocks2 others h.1 h.3 h.4)), h.6)
  making_on link turn (at.Over table) h = made_for_on link turn table h
  making_on link turn (at.Refused fault) h = h

  pub new_table_on : (link : At) (turn : ℕ) (n : NewTable) → NewTableFacts w caller setting c blocks link turn n → NewTableFacts w2 caller setting c2 blocks2 link turn n
  new_table_on link turn n h = record { setting_is = h.setting_is; link_is = h.link_is; link_of = link_of_on link turn h.link_of; point = making_on link turn n.stands h.point }

  -- at the link behind a table
  pub next_table_on : (t turn : ℕ) → t < c.past → blocks.table_known t ≡ true → (n : NewTable) → NewTableFacts w caller setting c blocks (Word (blocks.table t) NEXT) turn n
      → NewTableFacts w2 caller setting c2 blocks2 (Word (blocks2.table t) NEXT) turn n
  next_table_on t turn made known n h =
      subst (λ (b : ℕ). NewTableFacts w2 caller setting c2 blocks2 (Word b NEXT) turn n) (sym (table_block_on same hash setting caller w w2 c c2 blocks blocks2 others t made known)) (new_table_on (Word (blocks.table t) NEXT) turn n h)
