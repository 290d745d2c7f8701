-- In incremental mode, what a copier knows that has a table made for its pair, after one was linked.
use Rattle.std.proofs.Common.{◌≡◌, ℕ, suc, ◌<◌, ◌≤◌, Bool, true, ◌⊎◌, inl, inr, ap, sym, subst, ◌∙◌, arith}
use Rattle.papaya_raw.specs.Given.SeizeWorld.{World}
use Rattle.papaya_raw.specs.Given.TablesDeclared.node.Node.{Node}
use Rattle.papaya_raw.specs.Given.TablesDeclared.setting.Setting.{Setting}
use Rattle.papaya_raw.specs.Given.TablesDeclared.table.Table.{Table}
use Rattle.map_rule.specs.Given.ResizeDeclared.copier.Copier.{Copier}
use Rattle.map_rule.specs.Chart.{Still, Holds, Chart, is_taken}
use Rattle.map_rule.specs.Rule.{Shut, WasCopied, Full, total}
use Rattle.map_rule.specs.Moves.{is_done_by}
use Rattle.map_rule.specs.Words.{Blocks, place_word}
use Rattle.map_rule.specs.Maps.{spot_of, IsTable}
use Rattle.map_rule.specs.InWorld.{SameBlocks}
use Rattle.map_facts.specs.FactsCopies.{Works, LooksFor}

-- The chart with other numbers of tables, lengths, limits and statuses: those of the tables that were there are the same.
pub record IsLonger {K : Type 0} (c : Chart K) (past : ℕ) (len limit : ℕ → ℕ) : Type 0 where
  pub more : c.past ≤ past
  pub lens : (t : ℕ) → t < c.past → (len t ≡ c.len t) × (limit t ≡ c.limit t)

module _ {K : Type 0} (c : Chart K) (past : ℕ) (len limit status from : ℕ → ℕ) (longer : IsLonger c past len limit) where
  abbrev pub longer_chart : Chart K
  longer_chart = record c { past = past; len = len; limit = limit; status = status; from = from }

  -- a table that was entered
  pub table_longer : (blocks blocks2 : Blocks) → SameBlocks c blocks blocks2 → (table : Table) (t : ℕ) → IsTable c blocks table t → IsTable longer_chart blocks2 table t
  table_longer blocks blocks2 blocks_same table t entered = record {
    made = (let more = longer.more in let made = entered.made in omega arith);
    known = (blocks_same.tables t entered.made entered.known).1;
    is = (let block = (blocks_same.tables t entered.made entered.known).0 in let lens = longer.lens t entered.made in let is = entered.is in cc (block, lens.0, lens.1, is));
  }

  -- a table that is shut
  pub shut_longer : (same : K → K → Bool) (spot : ℕ → K → ℕ → ℕ) (t : ℕ) (k : K) → t < c.past → Shut same spot true c t k → Shut same spot true longer_chart t k
  shut_longer same spot t k made shut = (shut.0, either shut.1)
    where
      either : WasCopied same spot true c t k ⊎ Full same spot true c t k → WasCopied same spot true longer_chart t k ⊎ Full same spot true longer_chart t k
      either (inl w) = inl w
      either (inr full) =
          let lens = longer.lens t made in
          inr (λ j l. subst (λ (n : ℕ). is_taken true (c.place t (spot n k j)) ≡ true) (sym lens.0) (full j (let e = lens.1 in omega arith)))

module _ {K V : Type 0} (same : K → K → Bool) (hash : K → ℕ) (w w2 : World (Node K V)) (caller : ℕ) (setting : Setting) (c : Chart K) (past : ℕ) (len limit status from : ℕ → ℕ)
    (longer : IsLonger c past len limit) (rooted : c.first < c.past) (blocks blocks2 : Blocks) (blocks_same : SameBlocks c blocks blocks2) where
  abbrev after : Chart K
  after = longer_chart c past len limit status from longer

  pub works_longer : (p : Copier) (n : ℕ) (k : K) (word : ℕ) → n < c.stored → blocks.pair_known n ≡ true → Works same hash w caller setting c blocks p n k word
      → Works same hash w2 caller setting after blocks2 p n k word
  works_longer p n k word was known works = record {
    copies = (
      table_longer c past len limit status from longer blocks blocks2 blocks_same p.source c.first works.copies.0,
      table_longer c past len limit status from longer blocks blocks2 blocks_same p.target (suc c.first) works.copies.1,
    );
    has_done = works.has_done ∙ ap (λ m. total (is_done_by caller) (c.share (suc c.first)) m) (sym root_len);
    claims = works.claims;
    in_range = subst (λ (m : ℕ). (p.place < m) × (p.end ≤ m) × (p.whole ≡ true → p.end ≡ m)) (sym root_len) works.in_range;
    settled = works.settled;
    borrowed = works.borrowed;
    place = works.place;
    key = works.key;
    word_is = works.word_is ∙ (let same_pair = (blocks_same.pairs n was known).0 in ap (λ b. place_word hash c (record blocks { pair = λ x. b }) (Holds n Still works.borrowed)) (sym same_pair));
  }
    where
      root_len : len c.first ≡ c.len c.first
      root_len = (longer.lens c.first rooted).0

  pub looks_longer : (k : K) (t : ℕ) → t ≤ c.past → LooksFor same hash w caller setting c blocks k t → LooksFor same hash w2 caller setting after blocks2 k t
  looks_longer k t made looks = (looks.0, λ u later l. shut_longer c past len limit status from longer same (spot_of hash) u k (omega arith) (looks.1 u later l))
