-- From one moment to the next: the tables that a memory shows before a step and after it.
use Rattle.std.proofs.Common.{◌≡◌, ◌≢◌, ℕ, zero, suc, ◌*◌, ◌/◌, ◌<◌, ◌≤◌, Bool, true, cond, Some, ◌⊎◌, inl, inr, refl, ap, sym, ◌∙◌, arith}
use Rattle.std.proofs.lemmas.Bool.{cases_lt, lt-ltb, le-ltb, eq-eqb}
use Rattle.seize_words.specs.declared.at.At.TheVariants.{Root, Word}
use Rattle.seize_words.specs.OneMemory.Mem.{Mem, word_at, value_at}
use Rattle.map_tables.specs.Chunks.{is_incremental}
use Rattle.map_tables.specs.declared.node.Node.{Node}
use Rattle.map_tables.specs.declared.node.Node.TheVariants as node
use Rattle.map_tables.specs.declared.setting.Setting.{Setting}
use Rattle.map_tables.specs.declared.table.Table.{Table}
use Rattle.map_tables.specs.declared.table_words.TheConstants.{NEXT, CLAIM}
use Rattle.many_calls.specs.Given.RuleChart.{Chart}
use Rattle.many_calls.specs.Given.RuleInWorld.{SameBlocks}
use Rattle.many_calls.specs.Given.RuleLasts.{Lasts}
use Rattle.many_calls.specs.Given.RuleLinks.{LeadsTo}
use Rattle.many_calls.specs.Given.RuleMaps.{spot_of, IsMap, IsTable}
use Rattle.many_calls.specs.Given.RuleWords.{Blocks, Represents, next_word}
use Rattle.many_calls.proofs.Given.RuleWords.LinksSeen.{link_made, next_leads, root_leads}
use Rattle.many_calls.proofs.Given.RuleKeys.TriesLast.{table_lasts}

-- a map stands in the memory before and after, and what could be looked at is where it was
pub record Onward {K V : Type 0} (same : K → K → Bool) (hash : K → ℕ) (setting : Setting) (m : Mem (Node K V)) (c : Chart K) (blocks : Blocks)
    (m2 : Mem (Node K V)) (c2 : Chart K) (blocks2 : Blocks) : Type 0 where
  pub map : IsMap same hash setting.mode setting.root m c blocks
  pub map2 : IsMap same hash setting.mode setting.root m2 c2 blocks2
  pub blocks_same : SameBlocks c blocks blocks2
  pub lasts : Lasts same (spot_of hash) (is_incremental setting.mode) c c2

-- the words are kept that say which table is the last
pub record KeepsLinks {K V : Type 0} (root : ℕ) (c : Chart K) (blocks : Blocks) (m m2 : Mem (Node K V)) : Type 0 where
  pub root_kept : c.past ≡ 0 → word_at m2 (Root root) ≡ word_at m (Root root)
  pub next_kept : (t : ℕ) → suc t ≡ c.past → blocks.table_known t ≡ true → word_at m2 (Word (blocks.table t) NEXT) ≡ word_at m (Word (blocks.table t) NEXT)

-- the root's word is kept, and all words of the tables
pub record KeepsTables {K V : Type 0} (root : ℕ) (c : Chart K) (blocks : Blocks) (m m2 : Mem (Node K V)) : Type 0 where
  pub root_kept : word_at m2 (Root root) ≡ word_at m (Root root)
  pub words_kept : (t word : ℕ) → t < c.past → blocks.table_known t ≡ true → word_at m2 (Word (blocks.table t) word) ≡ word_at m (Word (blocks.table t) word)

pub links_kept : {K V : Type 0} (root : ℕ) (c : Chart K) (blocks : Blocks) (m m2 : Mem (Node K V)) → KeepsTables root c blocks m m2 → KeepsLinks root c blocks m m2
links_kept root c blocks m m2 keeps = record { root_kept = λ none. keeps.root_kept; next_kept = λ t last. keeps.words_kept t NEXT (omega (arith, last)) }

-- no link leads on from a table that is the last
pub behind_none : {K V : Type 0} (hash : K → ℕ) (c : Chart K) (blocks : Blocks) (root : ℕ) (m : Mem (Node K V)) → Represents hash m c blocks root
    → ((t u : ℕ) → t < u → u < c.past → blocks.table_known t ≡ true → blocks.table_known u ≡ true)
    → (t : ℕ) → t < c.past → blocks.table_known t ≡ true → word_at m (Word (blocks.table t) NEXT) ≡ Some 0 → c.past ≤ suc t
behind_none hash c blocks root m shows later t made known read = by (cases_lt (suc t) c.past)
  where
    by : (suc t < c.past) ⊎ (c.past ≤ suc t) → c.past ≤ suc t
    by (inr l) = l
    by (inl l) =
        let shown = (shows.tables t made known).next in
        let here : next_word hash c blocks t ≡ blocks.table (suc t) * 2048 = ap (λ q. cond q (blocks.table (suc t) * 2048) 0) (lt-ltb (suc t) c.past l) in
        let zero_is : 0 ≡ next_word hash c blocks t = cc (read, shown) in
        let number = (shows.table_numbers (suc t) l (later t (suc t) (omega arith) l known)).0 in
        absurd (omega (arith, here, zero_is, number))

module _ {K V : Type 0} (same : K → K → Bool) (hash : K → ℕ) (setting : Setting) (m : Mem (Node K V)) (c : Chart K) (blocks : Blocks) (m2 : Mem (Node K V)) (c2 : Chart K) (blocks2 : Blocks)
    (on : Onward same hash setting m c blocks m2 c2 blocks2) where
  pub grows : c.past ≤ c2.past
  grows = on.lasts.past

  -- a table that could be looked at is the same one
  pub table_on : (table : Table) (t : ℕ) → IsTable c blocks table t → IsTable c2 blocks2 table t
  table_on table t = table_lasts same hash (is_incremental setting.mode) c c2 on.lasts blocks blocks2 on.blocks_same table t

  pub known_on : (t : ℕ) → t < c.past → blocks.table_known t ≡ true → (blocks2.table t ≡ blocks.table t) × (blocks2.table_known t ≡ true)
  known_on t made known = on.blocks_same.tables t made known

  -- the tables that could be looked at have their values
  pub value_before : (t : ℕ) → t < c.past → blocks.table_known t ≡ true → (value : Node K V) × (value_at m (blocks.table t) ≡ Some value)
  value_before t made known = (node.Table (c.len t) (c.limit t) t, (on.map.shows.tables t made known).value)

  pub value_after : (t : ℕ) → t < c.past → blocks.table_known t ≡ true → (value : Node K V) × (value_at m2 (blocks.table t) ≡ Some value)
  value_after t made known =
      let kept = known_on t made known in
      let up = grows in
      (node.Table (c2.len t) (c2.limit t) t, ap (value_at m2) (sym kept.0) ∙ (on.map2.shows.tables t (omega (arith, made, up)) kept.1).value)

  -- the last table can be looked at
  pub last_known : (t : ℕ) → suc t ≡ c.past → blocks.table_known t ≡ true
  last_known t last = on.map.shows.linked t (let root = on.map.rule.common.rooted (omega (arith, last)) in omega (arith, root, last)) (omega (arith, last))

  -- a link leads on
  pub some_behind : (t link : ℕ) → t < c2.past → blocks2.table_known t ≡ true → word_at m2 (Word (blocks2.table t) NEXT) ≡ Some link → link ≢ 0 → suc t < c2.past
  some_behind t link made known read some = by (cases_lt (suc t) c2.past)
    where
      by : (suc t < c2.past) ⊎ (c2.past ≤ suc t) → suc t < c2.past
      by (inl l) = l
      by (inr l) =
          let shown = (on.map2.shows.tables t made known).next in
          let here : next_word hash c2 blocks2 t ≡ 0 = ap (λ q. cond q (blocks2.table (suc t) * 2048) 0) (le-ltb (suc t) c2.past l) in
          let link_is : link ≡ next_word hash c2 blocks2 t = cc (read, shown) in absurd (some (link_is ∙ here))

  next_is_zero : (t : ℕ) → suc t ≡ c.past → word_at m (Word (blocks.table t) NEXT) ≡ Some 0
  next_is_zero t last =
      (on.map.shows.tables t (omega (arith, last)) (last_known t last)).next
      ∙ ap (λ q. Some (cond q (blocks.table (suc t) * 2048) 0)) (le-ltb (suc t) c.past (omega (arith, last)))

  -- no table was linked
  pub past_kept : KeepsLinks setting.root c blocks m m2 → c2.past ≡ c.past
  past_kept keeps = by c.past refl
    where
      root_none : c.past ≡ 0 → LeadsTo c2 blocks2 0 c2.first → c2.past ≡ c.past
      root_none none (inl h) =
          elim (cases_lt 0 c2.past) as (λ _. c2.past ≡ c.past) [
            | inl l ↦ (let made = on.map2.rule.common.rooted l in let least = h.1 in absurd (omega (arith, made, least)))
            | inr l ↦ omega (arith, l, none)
          ]
      root_none none (inr h) = let number = (on.map2.shows.table_numbers c2.first h.1 h.2).0 in let is = h.0 in absurd (omega (arith, is, number))

      by : (past : ℕ) → c.past ≡ past → c2.past ≡ c.past
      by zero none =
          root_none none
          (root_leads same hash setting.mode setting.root m2 c2 blocks2 on.map2 0
          (keeps.root_kept none ∙ on.map.shows.root_there ∙ ap (λ q. Some (cond q 0 (blocks.table c.first * 2048))) (eq-eqb c.past 0 none)))
      by (suc t) some =
          let known = last_known t (sym some) in
          let kept = known_on t (omega (arith, some)) known in
          let up = grows in
          let most = behind_none hash c2 blocks2 setting.root m2 on.map2.shows on.map2.later t (omega (arith, some, up)) kept.1
          (ap (λ b. word_at m2 (Word b NEXT)) kept.0 ∙ keeps.next_kept t (sym some) known ∙ next_is_zero t (sym some)) in
          omega (arith, most, up, some)

  -- the claim is kept of a table of which its word is
  pub claim_on : (t claim : ℕ) → t < c.past → blocks.table_known t ≡ true → word_at m2 (Word (blocks.table t) CLAIM) ≡ Some claim → c2.claim t ≡ claim
  claim_on t claim made known read =
      let kept = known_on t made known in
      let up = grows in
      let shown = (on.map2.shows.tables t (omega (arith, made, up)) kept.1).claim in
      let here : word_at m2 (Word (blocks2.table t) CLAIM) ≡ Some claim = ap (λ b. word_at m2 (Word b CLAIM)) kept.0 ∙ read in
      cc (shown, here)

-- the link of a table before the last leads to the one behind it
module _ {K V : Type 0} (same : K → K → Bool) (hash : K → ℕ) (setting : Setting) (m : Mem (Node K V)) (c : Chart K) (blocks : Blocks) (map : IsMap same hash setting.mode setting.root m c blocks) where
  pub link_behind : (t : ℕ) → suc t < c.past → blocks.table_known t ≡ true → (link : ℕ) → link ≡ blocks.table t * 2048 → (next : ℕ) → word_at m (Word (link / 2048) NEXT) ≡ Some next
      → (next ≡ blocks.table (suc t) * 2048) × (suc t < c.past) × (blocks.table_known (suc t) ≡ true)
  link_behind t made known link is next read =
      link_made c blocks next (suc t)
      (next_leads same hash setting.mode setting.root m c blocks map (record { link = link; len = c.len t; limit = c.limit t; turn = t }) t next
      (record { made = omega (arith, made); known = known; is = ap (λ x. record { link = x; len = c.len t; limit = c.limit t; turn = t }) is }) read) made
