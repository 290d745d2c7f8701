-- A copier, in incremental mode, counts what it has done: what is so afterwards.
use Rattle.std.specs.Prelude.{Some}
use Rattle.std.proofs.Common.{◌≡◌, ℕ, suc, ◌+◌, ◌%◌, ◌^◌, ◌≤◌, Bool, true, cond, eqb, refl, ap, sym, subst, ◌∙◌, arith}
use Rattle.std.proofs.lemmas.Bool.{eq-eqb}
use Rattle.map_rule.specs.Given.SeizeWordsDeclared.at.At.{At}
use Rattle.map_rule.specs.Given.SeizeWordsDeclared.at.At.TheVariants.{Word}
use Rattle.map_rule.specs.Given.SeizeWordsMem.{Mem, word_at, with_word}
use Rattle.map_rule.specs.Given.SeizeWordsOp.{Add, Found}
use Rattle.papaya_raw.specs.Given.SeizeWorld.{World}
use Rattle.papaya_raw.specs.Given.TablesChunks.{is_incremental}
use Rattle.papaya_raw.specs.Given.TablesTablePlaces.{at_word}
use Rattle.papaya_raw.specs.Given.TablesDeclared.node.Node.{Node}
use Rattle.papaya_raw.specs.Given.TablesDeclared.table.Table.{Table}
use Rattle.papaya_raw.specs.Given.TablesDeclared.table_words.TheConstants.{COPIED}
use Rattle.map_rule.specs.Given.ResizeDeclared.yielding.Yielding.{Yielding}
use Rattle.papaya_raw.specs.Given.TablesDeclared.setting.Setting.{Setting}
use Rattle.map_rule.specs.Given.ResizeDeclared.copier.Copier.{Copier}
use Rattle.map_rule.specs.Chart.{Share, Claimed, Chart, put}
use Rattle.map_rule.specs.Rule.{IsLawful, total}
use Rattle.map_rule.proofs.Moves.Counts.{counted_behind}
use Rattle.map_rule.specs.Moves.{counted_to, Counts, is_done_by, with_counted}
use Rattle.map_rule.specs.Words.{Blocks, Represents}
use Rattle.map_rule.specs.Maps.{spot_of, IsTable}
use Rattle.map_rule.specs.InWorld.{IsMapIn}
use Rattle.map_facts.specs.FactsCopies.{CopiesRoot, HasDone}
use Rattle.map_facts.specs.Told.{CopierOutcome}
use Rattle.map_facts.specs.ToldMoves.{MovedCounts}
use Rattle.map_rule.proofs.Shares.CopiersMoves.{table_beside}
use Rattle.map_rule.proofs.Shares.CopiersShares.{done_fits, none_done, claimed_counted}
use Rattle.map_facts.proofs.Copiers.CopiersWrote.{CopierMoved, hands_words, copier_moves}
use Rattle.map_rule.proofs.World.Framed.{shows_beside}
use Rattle.map_rule.proofs.Words.OwnWords.{own_at_word}
use Rattle.map_rule.proofs.Words.TablesSeen.{copied_there, word_stands}
use Rattle.map_rule.proofs.Words.WritesTables.{copied_written}
use Rattle.map_rule.proofs.Given.General.{some_is as is_some_of}

-- the caller's shares in this table, once they are counted
abbrev pub counted_in : ℕ → ℕ → (ℕ → ℕ → Share) → ℕ → ℕ → Share
counted_in caller t share u j = cond (eqb u t) (with_counted caller (share u j)) (share u j)

-- they are those of the table
pub counted_here : (caller t : ℕ) (share : ℕ → ℕ → Share) (P : (ℕ → Share) → Type 0) → P (λ j. with_counted caller (share t j)) → P (counted_in caller t share t)
counted_here caller t share P p = subst (λ (b : Bool). P (λ j. cond b (with_counted caller (share t j)) (share t j))) (sym (eq-eqb t t refl)) p

-- the chart and the world with what the copier has done counted
abbrev pub counted_chart : {K : Type 0} → ℕ → Chart K → Copier → Chart K
counted_chart caller c p = record c { share = counted_in caller (suc c.first) c.share; copied = put c.copied (suc c.first) (counted_to c (suc c.first) p.done) }

abbrev pub counted_world : {K V : Type 0} → World (Node K V) → Chart K → Copier → World (Node K V)
counted_world w c p = record w { memory = with_word w.memory (at_word p.target COPIED) (c.copied (suc c.first) + p.done) }

module _ {K V : Type 0} (same : K → K → Bool) (hash : K → ℕ) (caller : ℕ) (setting : Setting) (w : World (Node K V)) (c : Chart K) (blocks : Blocks)
    (map : IsMapIn same hash setting w c blocks) (p : Copier) (copies : CopiesRoot same hash w caller setting c blocks p)
    (has_done : HasDone same hash w caller setting c blocks p.done) where
  pub copied_word : word_at w.memory (at_word p.target COPIED) ≡ Some (c.copied (suc c.first))
  copied_word = copied_there hash w.memory c blocks setting.root map.map.shows p.target (suc c.first) copies.1

  -- the count has room for them
  pub count_fits : c.copied (suc c.first) + p.done ≤ c.len c.first
  count_fits =
      let counts = map.map.rule.common.counts (suc c.first) (omega arith) copies.1.made in
      let fits = done_fits caller (c.share (suc c.first)) (c.len c.first) in
      omega (arith, counts, fits, has_done)

  pub no_wrap : (c.copied (suc c.first) + p.done) % 2 ^ 64 ≡ c.copied (suc c.first) + p.done
  no_wrap = let most = (map.map.shows.sized c.first copies.0.made).most in omega (arith, count_fits, most)

  pub entered_counted : (table : Table) (t : ℕ) → IsTable c blocks table t → IsTable (counted_chart caller c p) blocks table t
  entered_counted = table_beside c c.place (counted_in caller (suc c.first) c.share) c.claim (put c.copied (suc c.first) (counted_to c (suc c.first) p.done)) blocks

  pub none_left : (u : World (Node K V)) → HasDone same hash u caller setting (counted_chart caller c p) blocks 0
  none_left u =
      counted_here caller (suc c.first) c.share (λ d. 0 ≡ total (is_done_by caller) d (c.len c.first)) (sym (none_done caller (c.share (suc c.first)) (c.len c.first)))

  -- claims are as they were
  pub claims_kept : (P : ℕ → Type 0) → ((j : ℕ) → c.share (suc c.first) j ≡ Claimed caller → P j)
      → (j : ℕ) → counted_in caller (suc c.first) c.share (suc c.first) j ≡ Claimed caller → P j
  claims_kept P old = counted_here caller (suc c.first) c.share (λ d. (j : ℕ) → d j ≡ Claimed caller → P j)
      (λ j e. old j (claimed_counted caller caller (c.share (suc c.first) j) e))

  -- what the step comes to
  pub count_wrote : IsLawful same (spot_of hash) → is_incremental setting.mode ≡ true → (m2 : Mem (Node K V)) (end : Copier × Yielding (Node K V) Table) (found : ℕ)
      → word_at w.memory (at_word p.target COPIED) ≡ Some found → m2 ≡ with_word w.memory (at_word p.target COPIED) ((found + p.done) % 2 ^ 64)
      → (found ≡ c.copied (suc c.first)
      → CopierOutcome (counted_world w c p) caller setting (counted_chart caller c p) blocks same hash end)
      → CopierMoved same hash caller setting w c blocks (MovedCounts hash caller c p) m2 end
  count_wrote lawful bits m2 end found read e told =
      copier_moves same hash caller setting w c blocks map (MovedCounts hash caller c p) bits lawful (Add (at_word p.target COPIED) p.done) (Found found) (at_word p.target COPIED) (c.copied (suc c.first) + p.done)
      (own_at_word same hash setting w c blocks map caller p.target (suc c.first) COPIED copies.1 (omega arith)) (is_some_of _ _ copied_word) m2 read
      (e ∙ ap (with_word w.memory (at_word p.target COPIED)) sum) (ap (with_word w.memory (at_word p.target COPIED)) (sym sum))
      (Counts caller (suc c.first) p.done) ((λ i by. sym by), copies.1.known) refl (copies.1.made, λ l. has_done)
      (subst (λ (a : At). Represents hash (with_word w.memory a (c.copied (suc c.first) + p.done)) (counted_chart caller c p) blocks setting.root)
      (sym (word_stands hash w.memory c blocks setting.root map.map.shows p.target (suc c.first) copies.1 COPIED)) shown)
      refl
      (hands_words same hash caller setting w c blocks map (counted_in caller (suc c.first) c.share) c.claim (put c.copied (suc c.first) (counted_to c (suc c.first) p.done)))
      refl end (told is_found)
    where
      is_found : found ≡ c.copied (suc c.first)
      is_found = let there = copied_word in cc (there, read)

      sum : (found + p.done) % 2 ^ 64 ≡ c.copied (suc c.first) + p.done
      sum = ap (λ n. (n + p.done) % 2 ^ 64) is_found ∙ no_wrap

      shown : Represents hash (with_word w.memory (Word (blocks.table (suc c.first)) COPIED) (c.copied (suc c.first) + p.done)) (counted_chart caller c p) blocks setting.root
      shown =
          subst (λ (n : ℕ). Represents hash (with_word w.memory (Word (blocks.table (suc c.first)) COPIED) n) (counted_chart caller c p) blocks setting.root) (counted_behind c (suc c.first) p.done (omega arith))
          (shows_beside hash (with_word w.memory (Word (blocks.table (suc c.first)) COPIED) (counted_to c (suc c.first) p.done))
          (record c { copied = put c.copied (suc c.first) (counted_to c (suc c.first) p.done) }) blocks setting.root (counted_in caller (suc c.first) c.share) c.current
          (copied_written hash w.memory c blocks setting.root map.map.shows (suc c.first) (counted_to c (suc c.first) p.done) copies.1.made copies.1.known))
