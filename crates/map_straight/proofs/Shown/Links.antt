-- What is read of a map's tables: where its links lead.
use Rattle.std.specs.Prelude.{Option, None, IsSome, if◌then◌else◌}
use Rattle.std.proofs.Common.{◌≡◌, ◌≢◌, ℕ, suc, ◌+◌, ◌/◌, ◌<◌, ◌≤◌, Bool, Some, ◌⊎◌, inl, inr, ap, ap₂, sym, subst, ◌∙◌, arith}
use Rattle.std.proofs.lemmas.Bool.{cases_lt, lt-ltb, le-ltb}
use Rattle.seize_words.specs.declared.at.At.{At}
use Rattle.seize_words.specs.declared.at.At.TheVariants.{Root, Word}
use Rattle.seize_words.specs.OneMemory.Mem.{Mem, value_at, word_at}
use Rattle.map_tables.specs.Nodes.{table_seen}
use Rattle.map_tables.specs.TablePlaces.{at_word}
use Rattle.map_tables.specs.declared.node.Node.{Node}
use Rattle.map_tables.specs.declared.node.Node.TheVariants as node
use Rattle.map_tables.specs.declared.setting.Setting.{Setting}
use Rattle.map_tables.specs.declared.table.Table.{Table}
use Rattle.map_tables.specs.declared.table_words.TheConstants.{NEXT, PLACES}
use Rattle.map_rule.specs.Chart.{Chart}
use Rattle.map_rule.specs.Words.{Blocks, next_word, root_word, place_word}
use Rattle.map_rule.specs.Maps.{IsTable}
use Rattle.map_rule.specs.Links.{LeadsTo}
use Rattle.map_rule.proofs.Laws.{roots_lead, nexts_lead, links_have_tables}
use Rattle.map_straight.specs.Shown.Shown.{HasMap, table_at, table_of}
use Rattle.seize_words.proofs.General.{some_is as is_some_of}

-- the same word of the same memory
module _ {T : Type 0} (m m2 : Mem T) (at at2 : At) (same : m2 ≡ m) (same_at : at2 ≡ at) where
  pub seen_as : IsSome (word_at m at) → IsSome (word_at m2 at2)
  seen_as shown = subst (λ (n : Mem T). IsSome (word_at n at2)) (sym same) (subst (λ (a : At). IsSome (word_at m a)) (sym same_at) shown)

  pub read_as : (word : ℕ) → word_at m2 at2 ≡ Some word → word_at m at ≡ Some word
  read_as word read = sym (ap₂ word_at same same_at) ∙ read

module _ {K : Type 0} (c : Chart K) (blocks : Blocks) (t : ℕ) where
  -- where there is a table with this turn
  pub made_at : (table : Table) (result : Option Table) → result ≡ table_at c blocks t → result ≡ Some table → (t < c.past) × (table ≡ table_of c blocks t)
  made_at table result is some = by (cases_lt t c.past)
    where
      by : (t < c.past) ⊎ (c.past ≤ t) → (t < c.past) × (table ≡ table_of c blocks t)
      by (inl l) = let at = ap (λ q. if q then Some (table_of c blocks t) else None) (lt-ltb t c.past l) in (l, cc)
      by (inr l) = let at = ap (λ q. if q then Some (table_of c blocks t) else None) (le-ltb t c.past l) in absurd (cc)

  -- and where there is none
  pub unmade_at : (result : Option Table) → result ≡ table_at c blocks t → result ≡ None → c.past ≤ t
  unmade_at result is none = by (cases_lt t c.past)
    where
      by : (t < c.past) ⊎ (c.past ≤ t) → c.past ≤ t
      by (inl l) = let at = ap (λ q. if q then Some (table_of c blocks t) else None) (lt-ltb t c.past l) in absurd (cc)
      by (inr l) = l

module _ {K V : Type 0} (eq : K → K → Bool) (hash : K → ℕ) (m : Mem (Node K V)) (setting : Setting) (c : Chart K) (blocks : Blocks) (stands : HasMap eq hash m setting c blocks) where
  -- the table of a link that was read
  module _ (link t : ℕ) (leads : LeadsTo c blocks link t) where
    pub led_shown : link ≢ 0 → IsSome (value_at m (link / 2048))
    led_shown some = by leads
      where
        by : LeadsTo c blocks link t → IsSome (value_at m (link / 2048))
        by (inl none) = absurd (some none.0)
        by (inr there) = is_some_of _ _ (links_have_tables eq hash setting.mode setting.root m c blocks stands.map link t there).1

    pub led : (result : Option Table) → (link ≡ 0 → result ≡ None)
        → ((value : Node K V) → link ≢ 0 → value_at m (link / 2048) ≡ Some value → result ≡ Some (table_seen link value)) → result ≡ table_at c blocks t
    led result at_none at_some = by leads
      where
        by : LeadsTo c blocks link t → result ≡ table_at c blocks t
        by (inl none) = at_none none.0 ∙ sym (ap (λ q. if q then Some (table_of c blocks t) else None) (le-ltb t c.past none.1))
        by (inr there) =
            let table : Node K V = node.Table (c.len t) (c.limit t) t in
            let found = links_have_tables eq hash setting.mode setting.root m c blocks stands.map link t there in
            at_some table found.0 found.1
            ∙ ap (λ (x : ℕ). Some (table_seen x table)) there.0
            ∙ sym (ap (λ q. if q then Some (table_of c blocks t) else None) (lt-ltb t c.past there.1))

  -- the word of the root is there
  pub root_shown : IsSome (word_at m (Root setting.root))
  root_shown = is_some_of _ (root_word hash c blocks) stands.map.shows.root_there

  pub root_leads_on : (link : ℕ) → word_at m (Root setting.root) ≡ Some link → LeadsTo c blocks link c.first
  root_leads_on link read = roots_lead eq hash setting.mode setting.root m c blocks stands.map link read

  module _ (table : Table) (linked : c.first ≤ table.turn) (made : table.turn < c.past) (is : table ≡ table_of c blocks table.turn) where
    -- a linked table can be looked at
    pub is_entered : IsTable c blocks table table.turn
    is_entered = record { made = made; known = stands.map.shows.linked table.turn linked made; is = is }

    -- the word of its link to the next table
    pub next_shown : IsSome (word_at m (at_word table NEXT))
    next_shown = is_some_of _ (next_word hash c blocks table.turn) (nexts_lead eq hash setting.mode setting.root m c blocks stands.map table table.turn is_entered).0

    pub next_leads_on : (link : ℕ) → word_at m (at_word table NEXT) ≡ Some link → LeadsTo c blocks link (suc table.turn)
    next_leads_on link read = (nexts_lead eq hash setting.mode setting.root m c blocks stands.map table table.turn is_entered).1 link read

    -- its block is that of its link
    pub block_is : table.link / 2048 ≡ blocks.table table.turn
    block_is = let l = ap (λ (x : Table). x.link) is in omega (arith, l)

    pub len_is : table.len ≡ c.len table.turn
    len_is = ap (λ (x : Table). x.len) is

    -- the word of a place
    pub place_read : (i : ℕ) → i < table.len → word_at m (Word (table.link / 2048) (i + PLACES)) ≡ Some (place_word hash c blocks (c.place table.turn i))
    place_read i inside =
        ap (λ b. word_at m (Word b (i + PLACES))) block_is ∙ (stands.map.shows.tables table.turn made is_entered.known).places i (subst (λ l. i < l) len_is inside)

    pub is_word : (i : ℕ) → i < table.len → (word : ℕ) → word_at m (Word (table.link / 2048) (i + PLACES)) ≡ Some word → word ≡ place_word hash c blocks (c.place table.turn i)
    is_word i inside word read = cc (place_read i inside)
