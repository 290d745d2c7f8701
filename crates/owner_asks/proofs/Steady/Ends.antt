-- The root of a map leads to one table, or to none, and no other is behind that: so it is where the words say so, and so it stays, by a row of the collector and by
-- a step that writes neither of the two links.
use Rattle.std.specs.Prelude.{◌≡◌, ◌≢◌, ℕ, zero, suc, ◌+◌, ◌*◌, ◌<◌, ◌≤◌, ◌==◌, ◌&&◌, Bool, true, false, cond, Some}
use Rattle.std.proofs.Common.{refl, sym, subst, ap, ◌∙◌, inl, inr, arith, eqb}
use Rattle.std.proofs.lemmas.Bool.{cases_eq, ne_eqb}
use Rattle.seize_words.specs.OneMemory.Mem.{Mem, Can, Took, value_at, word_at, same_at}
use Rattle.seize_words.specs.OneMemory.Plan.{Plan, May, Steps}
use Rattle.seize_words.specs.OneMemory.Word.{block_in}
use Rattle.seize_words.specs.declared.at.At.{At}
use Rattle.seize_words.specs.declared.at.At.TheVariants.{Root, Word}
use Rattle.papaya_raw.specs.Given.SeizeWorld.{World}
use Rattle.map_tables.specs.Nodes.{table_seen}
use Rattle.map_tables.specs.TablePlaces.{at_place}
use Rattle.map_tables.specs.declared.node.Node.{Node}
use Rattle.map_tables.specs.declared.node.Node.TheVariants as node
use Rattle.map_tables.specs.declared.setting.Setting.{Setting}
use Rattle.map_tables.specs.declared.table.Table.{Table}
use Rattle.map_tables.specs.declared.table_words.TheConstants.{NEXT, PLACES}
use Rattle.owner_calls.specs.Given.ResizeDispose as disposes
use Rattle.owner_calls.specs.Given.ResizeDeclared.dispose.Dispose.{Dispose}
use Rattle.owner_calls.specs.Given.ResizeDeclared.dispose.Disposing.{Disposing}
use Rattle.owner_calls.specs.Given.ResizeDeclared.dispose.Disposing.TheVariants as disposal
use Rattle.owner_calls.specs.Given.RuleChart.{Chart}
use Rattle.owner_calls.specs.Given.RuleInWorld.{IsMapIn}
use Rattle.owner_calls.specs.Given.RuleMaps.{IsTable}
use Rattle.owner_calls.specs.Given.RuleWords.{Blocks, next_word, root_word}
use Rattle.owner_calls.specs.Given.PointsTold.{IsRowOf}
use Rattle.owner_calls.specs.Given.ShownChain.{CountsTables, HasTables, behind, word_or_none}
use Rattle.owner_calls.proofs.Given.RuleSpared.{PlanSpares, step_spares}
use Rattle.owner_calls.proofs.Given.RuleWords.BlocksApart.{values_apart}
use Rattle.owner_calls.proofs.Given.RuleWords.TablesSeen.{block_of_link, place_stands}
use Rattle.owner_asks.specs.Steady.Steady.{HasOneTable}

-- the root leads there, and where it leads to a table, none is behind that
pub record EndsAt {T : Type 0} (setting : Setting) (link : ℕ) (m : Mem T) : Type 0 where
  pub root : word_at m (Root setting.root) ≡ Some link
  pub last : link ≢ 0 → word_at m (Word (block_in link) NEXT) ≡ Some 0

-- a table that was seen is that of its link
pub seen_link : {K V : Type 0} (link : ℕ) (value : Node K V) → (table_seen link value).link ≡ link
seen_link link (node.Pair key value) = refl
seen_link link (node.Table len limit turn) = refl
seen_link link node.Shards = refl

-- so its words show
pub shows_one : {K V : Type 0} (setting : Setting) (link : ℕ) (m : Mem (Node K V)) → EndsAt setting link m → HasOneTable setting m
shows_one setting link m ends =
    subst (λ (l : ℕ). (tables : CountsTables m l) × (tables.0 ≤ 1)) (sym (ap word_or_none ends.root)) (elim (cases_eq link 0) as (λ _. (tables : CountsTables m link) × (tables.0 ≤ 1)) [
      | inl none ↦ ((zero, none), omega arith)
      | inr some ↦ ((suc zero, (some, ap word_or_none (ends.last some))), omega arith)
    ])

module _ {K V : Type 0} (same : K → K → Bool) (hash : K → ℕ) (setting : Setting) (c : Chart K) (blocks : Blocks) where
  module _ (w : World (Node K V)) (map : IsMapIn same hash setting w c blocks) where
    -- where the root leads to a table
    module _ (some : root_word hash c blocks ≢ 0) where
      made : c.first < c.past
      made =
          map.map.rule.common.rooted (elim (cases_eq c.past 0) as (λ _. 0 < c.past) [
            | inl none ↦ absurd (some (ap (λ (b : Bool). cond b 0 (blocks.table c.first * 2048)) (ap (λ (n : ℕ). eqb n 0) none)))
            | inr more ↦ omega (arith, more)
          ])

      past_some : eqb c.past 0 ≡ false
      past_some = ne_eqb c.past 0 (λ e. let m = made in omega (arith, m, e))

      pub its_block : block_in (root_word hash c blocks) ≡ blocks.table c.first
      its_block = ap (λ (b : Bool). block_in (cond b 0 (blocks.table c.first * 2048))) past_some ∙ block_of_link (blocks.table c.first)

      pub its_value : value_at w.memory (block_in (root_word hash c blocks)) ≡ Some (node.Table (c.len c.first) (c.limit c.first) c.first)
      its_value = ap (value_at w.memory) its_block ∙ (map.map.shows.tables c.first made (map.map.shows.linked c.first (omega arith) made)).value

      its_next : word_at w.memory (Word (block_in (root_word hash c blocks)) NEXT) ≡ Some (next_word hash c blocks c.first)
      its_next = ap (λ (b : ℕ). word_at w.memory (Word b NEXT)) its_block ∙ (map.map.shows.tables c.first made (map.map.shows.linked c.first (omega arith) made)).next

    none_behind : root_word hash c blocks ≢ 0 → (tables : ℕ) → tables ≤ 1 → HasTables w.memory tables (root_word hash c blocks) → behind w.memory (root_word hash c blocks) ≡ 0
    none_behind some zero few has = absurd (some has)
    none_behind some (suc zero) few has = has.1
    none_behind some (suc (suc tables)) few has = absurd (omega (arith, few))

    -- where the words show one table at most
    pub ends_at : HasOneTable setting w.memory → EndsAt setting (root_word hash c blocks) w.memory
    ends_at one = record {
      root = map.map.shows.root_there;
      last = λ some.
          let zero : next_word hash c blocks c.first ≡ 0 =
          sym (ap word_or_none (its_next some))
          ∙ none_behind some one.0.0 one.1 (subst (HasTables w.memory one.0.0) (ap word_or_none map.map.shows.root_there) one.0.1) in its_next some ∙ ap (λ (n : ℕ). Some n) zero;
    }

    pub same_root : (link : ℕ) → EndsAt setting link w.memory → link ≡ root_word hash c blocks
    same_root link ends = let there = map.map.shows.root_there in let here = ends.root in cc (there, here)

    -- in another memory that has the same tables
    pub ends_on : (w2 : World (Node K V)) → IsMapIn same hash setting w2 c blocks → (link : ℕ) → EndsAt setting link w.memory → EndsAt setting link w2.memory
    ends_on w2 map2 link ends =
        let is = same_root link ends in
        subst (λ (l : ℕ). EndsAt setting l w2.memory) (sym is) (record { root = map2.map.shows.root_there; last = λ some. next_then w2 map2 some ∙ subst (λ (l : ℕ). l ≢ 0 → word_at w.memory (Word (block_in l) NEXT) ≡ Some 0) is ends.last some })
      where
        next_then : (w2 : World (Node K V)) → IsMapIn same hash setting w2 c blocks → (some : root_word hash c blocks ≢ 0) → word_at w2.memory (Word (block_in (root_word hash c blocks)) NEXT) ≡ word_at w.memory (Word (block_in (root_word hash c blocks)) NEXT)
        next_then w2 map2 some =
            ap (λ (b : ℕ). word_at w2.memory (Word b NEXT)) (its_block some)
            ∙ (map2.map.shows.tables c.first (made some) (map2.map.shows.linked c.first (omega arith) (made some))).next ∙ sym (its_next some)

    -- The link behind the root's table is no place of a table, and no shard of the counter.
    module _ (link : ℕ) (ends : EndsAt setting link w.memory) (some : link ≢ 0) where
      pub no_shard : (shard : ℕ) → same_at (Word (block_in link) NEXT) (Word setting.counter shard) ≡ false
      no_shard shard = ap (λ (b : Bool). b && (NEXT == shard)) (ne_eqb (block_in link) setting.counter apart)
        where
          is : link ≡ root_word hash c blocks
          is = same_root link ends

          apart : block_in link ≢ setting.counter
          apart =
              subst (λ (l : ℕ). block_in l ≢ setting.counter) (sym is)
              (values_apart w.memory (block_in (root_word hash c blocks)) setting.counter (node.Table (c.len c.first) (c.limit c.first) c.first) node.Shards (its_value (λ e. some (is ∙ e))) map.counter (λ e. cc e))

-- it is none of a place
module _ {K V : Type 0} (same : K → K → Bool) (hash : K → ℕ) (setting : Setting) (w : World (Node K V)) (c : Chart K) (blocks : Blocks) (map : IsMapIn same hash setting w c blocks) (link : ℕ) where
  neither : (b : Bool) → (b && false) ≡ false
  neither true = refl
  neither false = refl

  pub no_place : (table : Table) (t : ℕ) → IsTable c blocks table t → (i : ℕ) → i < c.len t → same_at (Word (block_in link) NEXT) (at_place table i) ≡ false
  no_place table t entered i inside =
      ap (same_at (Word (block_in link) NEXT)) (place_stands hash w.memory c blocks setting.root map.map.shows table t entered i inside)
      ∙ ap (λ (q : Bool). (block_in link == blocks.table t) && q) (ne_eqb NEXT (i + PLACES) (λ e. omega (arith, e))) ∙ neither (block_in link == blocks.table t)

-- a disposal that is at no row of the collector reads words alone
pub disposal_spares : (K V : Type 0) (x : At) (d : Dispose) (stands : Disposing) → (IsRowOf stands → ⊥) → PlanSpares x (disposes.plan_at {K = K} {V = V} d stands)
disposal_spares K V x d (disposal.Settles settle) none = absurd (none tt)
disposal_spares K V x d disposal.Reads none = tt
disposal_spares K V x d (disposal.Walks table) none = tt
disposal_spares K V x d (disposal.Defers defer) none = absurd (none tt)
disposal_spares K V x d disposal.Over none = tt

-- So it stays, where a step writes neither of the links.
pub ends_spared : {T R : Type 0} (setting : Setting) (link : ℕ) (m : Mem T) → EndsAt setting link m → (plan : Plan T R) → PlanSpares (Root setting.root) plan → (link ≢ 0 → PlanSpares (Word (block_in link) NEXT) plan)
    → May Can Took value_at m plan → (m2 : Mem T) (end : R) → Steps Took value_at m plan m2 end → EndsAt setting link m2
ends_spared setting link m ends plan root next may m2 end s = record {
  root = step_spares (Root setting.root) tt m link ends.root plan m2 end root may s;
  last = λ some. step_spares (Word (block_in link) NEXT) tt m 0 (ends.last some) plan m2 end (next some) may s;
}
