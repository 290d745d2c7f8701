-- In incremental mode, a copier makes the next table the root, unless another caller was faster.
use Rattle.std.specs.Prelude.{◌*◌, if◌then◌else◌, Some, IsSome, Ok, [], ◌∷◌}
use Rattle.std.proofs.Common.{◌≡◌, ◌≢◌, ℕ, suc, ◌<◌, Bool, true, false, cond, ◌⊎◌, inl, inr, eq-or-lt_of_le, refl, ap, ap₂, sym, subst, ◌∙◌, arith}
use Rattle.std.proofs.lemmas.Bool.{eq-eqb, ne_eqb}
use Rattle.map_rule.specs.Given.SeizeWordsDeclared.at.At.TheVariants.{Root}
use Rattle.map_rule.specs.Given.SeizeWordsMem.{Mem, value_at, word_at, with_word, Can, Took}
use Rattle.map_rule.specs.Given.SeizeWordsOp.{Exchange, Exchanged}
use Rattle.map_rule.specs.Given.SeizeWordsPlan.{May, Steps}
use Rattle.map_rule.proofs.Given.SeizeWordsOneOwner.Operations.{may_exchange, exchanged}
use Rattle.papaya_raw.specs.Given.SeizeLaw.{Unlinked}
use Rattle.papaya_raw.specs.Given.SeizeWorld.{World, InUse, Cutting, Unlinks, with_hand, with_effect, MayCut}
use Rattle.papaya_raw.specs.Given.TablesChunks.{is_incremental}
use Rattle.map_rule.specs.Given.ResizeCopierStates.{standing, behind}
use Rattle.map_rule.specs.Given.ResizeCopierPromotes.{promoted, promotes}
use Rattle.papaya_raw.specs.Given.TablesDeclared.node.Node.{Node}
use Rattle.map_rule.specs.Given.ResizeDeclared.yielding.Yielding.{Yielding}
use Rattle.map_rule.specs.Given.ResizeDeclared.yielding.Yielding.TheVariants.{Goes}
use Rattle.papaya_raw.specs.Given.TablesDeclared.setting.Setting.{Setting}
use Rattle.papaya_raw.specs.Given.TablesDeclared.table.Table.{Table}
use Rattle.map_rule.specs.Given.ResizeDeclared.copier.Copier.{Copier}
use Rattle.map_rule.specs.Given.ResizeDeclared.copier.Copying.TheVariants as at
use Rattle.map_rule.specs.Chart.{Chart, Free, Counted}
use Rattle.map_rule.specs.Rule.{Rule, IsLawful}
use Rattle.map_rule.specs.Moves.{passing, Promotes, Allowed, is_done_by}
use Rattle.map_rule.specs.Words.{Blocks, Represents}
use Rattle.map_rule.specs.Maps.{spot_of, IsTable}
use Rattle.map_rule.specs.InWorld.{IsMapIn, SparesPairs}
use Rattle.map_facts.specs.FactsCopies.{CopyingFacts, CopierFacts}
use Rattle.map_facts.specs.Told.{CopierOutcome}
use Rattle.map_facts.specs.ToldMoves.{MovedPromotes}
use Rattle.map_facts.proofs.Copiers.CopiersWrote.{CopierMoved, copier_stays}
use Rattle.map_rule.proofs.World.Hands.{Hands, hands_of, hands_kept, hands_unlinked, current_known, named_known}
use Rattle.map_rule.proofs.Words.TablesSeen.{pair_apart}
use Rattle.map_rule.proofs.Moves.Totals.{total_none}
use Rattle.map_rule.proofs.World.Footprints.{framed_written}
use Rattle.map_rule.proofs.Words.LinksOwn.{outs_handed, known_same, known_with, links_none}
use Rattle.map_rule.proofs.World.MovesKnown.{spares_moved}
use Rattle.map_rule.proofs.World.OthersSpared.{keeps_changed, used_not_held}
use Rattle.map_rule.proofs.World.WentStill.{spares_then, spares_written, spares_hand}
use Rattle.map_rule.proofs.World.WentWrote.{counter_of, counter_written, map_in, map_moved, went_after, later_kept}
use Rattle.map_rule.proofs.World.WentIncremental.{rule_incremental}
use Rattle.map_rule.proofs.Words.WritesTables.{root_written}

module _ {K V : Type 0} (same : K → K → Bool) (hash : K → ℕ) (setting : Setting) (w : World (Node K V)) (caller : ℕ) (c : Chart K) (blocks : Blocks)
    (map : IsMapIn same hash setting w c blocks) (p : Copier) where
  root_there : 0 < c.past → word_at w.memory (Root setting.root) ≡ Some (blocks.table c.first * 2048)
  root_there some = map.map.shows.root_there ∙ ap (λ q. Some (cond q 0 (blocks.table c.first * 2048))) (ne_eqb c.past 0 (omega arith))

  module _ (setting_is : p.setting ≡ setting) where
    root_seen : 0 < c.past → IsSome (word_at w.memory (Root p.setting.root))
    root_seen some = subst (λ (s : Setting). IsSome (word_at w.memory (Root s.root))) (sym setting_is) (rw (root_there some) refl)

    pub may_promotes : CopyingFacts same hash w caller setting c blocks p at.Promotes → May Can Took value_at w.memory (promotes p)
    may_promotes facts = may_exchange w.memory (promoted p) (Root p.setting.root) p.source.link p.target.link (root_seen (let made = facts.1.0.made in omega arith)) (λ found is. tt) (λ found is. tt)

    module _ (bits : is_incremental setting.mode ≡ true) (source : IsTable c blocks p.source c.first) (target : IsTable c blocks p.target (suc c.first))
        (counted : (j : ℕ) → j < c.len c.first → c.share (suc c.first) j ≡ Counted) where
      rule : Rule same (spot_of hash) true c
      rule = rule_incremental same hash setting w c blocks map bits

      -- the block of the old table, the chart and the world after it is unlinked
      abbrev block : ℕ
      block = blocks.table c.first

      abbrev chart : Chart K
      chart = record c { first = suc c.first; passed = passing c (suc c.first) }

      abbrev written : World (Node K V)
      written = record w { memory = with_word w.memory (Root setting.root) (blocks.table (suc c.first) * 2048) }

      abbrev unlinked : World (Node K V)
      unlinked = with_effect (with_hand written block (Cutting caller)) (Unlinked block)

      in_use : w.hand block ≡ InUse setting.counter
      in_use = map.tables c.first (omega arith) source.made

      some : IsSome (word_at w.memory (Root setting.root))
      some = let made = source.made in rw (root_there (omega arith)) refl

      shows : Represents hash written.memory chart blocks setting.root
      shows = root_written hash w.memory c blocks setting.root map.map.shows (suc c.first) (omega arith) target.made

      allowed : Allowed same (spot_of hash) (is_incremental setting.mode) (Promotes (suc c.first)) c
      allowed = (omega arith, target.made, counted, subst (λ (b : Bool). cond b (suc c.first ≡ suc c.first) (Unit {0})) (sym bits) refl)

      pair_elsewhere : (n : ℕ) → (n < c.stored) × (blocks.pair_known n ≡ true) → blocks.pair n ≢ block
      pair_elsewhere n known e = pair_apart hash w.memory c blocks setting.root map.map.shows c.first n source.made source.known known.0 known.1 (sym e)

      hands_before : Hands same hash setting written chart blocks
      hands_before =
          let h = hands_kept same hash setting w c blocks chart (omega arith) refl refl (λ n e. e)
          (λ t i n phase borrowed l m e. map.named t i n phase borrowed (omega arith) m e) (hands_of same hash setting w c blocks map) in
          record { tables = h.tables; pairs = h.pairs; named = h.named; tables_out = h.tables_out; pairs_out = h.pairs_out }

      hands : Hands same hash setting unlinked chart blocks
      hands = hands_unlinked same hash setting written chart blocks block caller
          (λ t l m e. (let same_turn = map.map.shows.tables_apart t c.first m source.made (map.map.shows.linked t (omega arith) m) source.known e in omega arith))
          (λ n e. pair_elsewhere n (current_known same hash setting w c blocks map.map.rule map.map.shows n e))
          (λ t i n phase borrowed l m e. pair_elsewhere n (named_known same hash setting w c blocks map.map.rule map.map.shows t i n phase borrowed (omega arith) e))
          hands_before

      map_then : IsLawful same (spot_of hash) → IsMapIn same hash setting unlinked chart blocks
      map_then lawful = map_in same hash setting unlinked chart blocks
          (map_moved same hash setting lawful w.memory written.memory c blocks blocks (Promotes (suc c.first)) map.map allowed shows (later_kept c chart blocks blocks refl (λ t. refl) map.map.later))
          (let h = counter_written setting w.memory (Root setting.root) (blocks.table (suc c.first) * 2048) some (counter_of same hash setting w c blocks map) in
          record { counter = h.counter; shards = h.shards })
          hands

      free_behind : (i : ℕ) → c.share (suc (suc c.first)) i ≡ Free
      free_behind i = rule.in_mode.only_next (suc (suc c.first)) i (omega arith)

      told : CopierFacts same hash unlinked caller setting chart blocks (standing p at.Announces)
      told = record {
        setting_is = setting_is;
        point = (
          (
            c.first,
            omega arith,
            record { made = source.made; known = source.known; is = source.is },
            record { made = target.made; known = target.known; is = target.is },
            rw (eq-eqb block block refl) refl,
          ),
          sym (total_none (is_done_by caller) (c.share (suc (suc c.first))) (c.len (suc c.first)) (λ j l. ap (is_done_by caller) (free_behind j))),
          λ j e. (let free = free_behind j in absurd (cc)),
        );
      }

      spares : SparesPairs w unlinked
      spares = spares_then w written unlinked (spares_written w (Root setting.root) (blocks.table (suc c.first) * 2048) some)
          (spares_hand written block (Cutting caller) (Unlinked block ∷ w.log) (λ j k v making is. (let used = in_use in absurd (cc))))

      pub went_ok : IsLawful same (spot_of hash) → (m2 : Mem (Node K V)) (end : Copier × Yielding (Node K V) Table) (found : ℕ)
          → word_at w.memory (Root p.setting.root) ≡ Some found → found ≡ p.source.link → m2 ≡ with_word w.memory (Root p.setting.root) p.target.link
          → end ≡ (standing p at.Announces, Goes) → CopierMoved same hash caller setting w c blocks (MovedPromotes hash caller c p end) m2 end
      went_ok lawful m2 end found read same_link is ends = subst (λ (n : Mem (Node K V)). CopierMoved same hash caller setting w c blocks (MovedPromotes hash caller c p end) n end) (sym whole)
          (went_after same hash setting caller w c blocks map (Exchange (Root p.setting.root) p.source.link p.target.link) (Exchanged (Ok found)) tt written.memory
          ((read, same_link), sym whole ∙ is)
          (Unlinks caller block ∷ []) (tt, tt) (inr (inl (c.first, source.made, source.known, refl)), tt) unlinked (unlinked, (subst (MayCut caller) (sym in_use) tt, refl), refl) refl
          (framed_written setting caller w c blocks (Root setting.root) (blocks.table (suc c.first) * 2048) some refl)
          (λ j other. keeps_changed caller w j other (Root setting.root) (blocks.table (suc c.first) * 2048) some tt block (Cutting caller) (used_not_held j (w.hand block) in_use)) chart blocks
          (spares_moved (spot_of hash) (is_incremental setting.mode) c blocks map.map.shows.linked (Promotes (suc c.first)) tt)
          (links_none caller w unlinked c chart blocks refl refl (outs_handed w.memory w.hand block (Cutting caller) tt)
          (known_with caller w.hand chart blocks w.hand block (Cutting caller) (λ own out. inl (c.first, source.made, source.known, refl)) (known_same caller w.hand chart blocks)))
          (inr (Promotes (suc c.first), allowed, refl, λ i by. absurd by))
          (map_then lawful)
          (record { tables = λ t made known. (refl, known); pairs = λ n was known. (refl, known); tables_back = λ t made known. known; pairs_back = λ n was known. known })
          (λ w2 c2 blocks2. SparesPairs w w2 × (c2.current ≡ c.current) × CopierOutcome w2 caller setting c2 blocks2 same hash end × MovedPromotes hash caller c p end c2)
          (spares, refl, subst (λ (x : Copier × Yielding (Node K V) Table). CopierOutcome unlinked caller setting chart blocks same hash x) (sym ends) told, inl (ends, refl)))
        where
          link_is : p.target.link ≡ blocks.table (suc c.first) * 2048
          link_is = ap (λ (x : Table). x.link) target.is

          whole : m2 ≡ written.memory
          whole = is ∙ ap₂ (λ (s : Setting) (x : ℕ). with_word w.memory (Root s.root) x) setting_is link_is

    -- another caller was faster: the table is before the root
    went_err : is_incremental setting.mode ≡ true → (facts : CopyingFacts same hash w caller setting c blocks p at.Promotes) → facts.0 < c.first
        → CopierFacts same hash w caller setting c blocks (behind p)
    went_err bits facts before = by_whole p.whole refl
      where
        by_whole : (b : Bool) → p.whole ≡ b
            → CopierFacts same hash w caller setting c blocks (if b then record p { place = 0; end = 0; spent = is_incremental p.setting.mode; stands = at.Asks } else standing p at.Over)
        by_whole true whole = record {
          setting_is = setting_is;
          point = (
            facts.0,
            facts.1,
            facts.2,
            facts.3,
            facts.4,
            ap (λ (s : Setting). is_incremental s.mode) setting_is ∙ bits,
            whole,
            λ e j l. (rule_incremental same hash setting w c blocks map bits).in_mode.settled facts.0 j before l,
          );
        }
        by_whole false other = record { setting_is = setting_is; point = (facts.3, facts.4) }

    pub went_promotes : IsLawful same (spot_of hash) → is_incremental setting.mode ≡ true → (facts : CopyingFacts same hash w caller setting c blocks p at.Promotes)
        → (m2 : Mem (Node K V)) (end : Copier × Yielding (Node K V) Table) → Steps Took value_at w.memory (promotes p) m2 end
        → CopierMoved same hash caller setting w c blocks (MovedPromotes hash caller c p end) m2 end
    went_promotes lawful bits facts m2 end s = either (exchanged w.memory (promoted p) (Root p.setting.root) p.source.link p.target.link m2 end s)
      where
        made : 0 < c.past
        made = let made = facts.1.0.made in omega arith

        read_root : (found : ℕ) → word_at w.memory (Root p.setting.root) ≡ Some found → found ≡ blocks.table c.first * 2048
        read_root found read =
            let here : word_at w.memory (Root setting.root) ≡ Some found = subst (λ (x : Setting). word_at w.memory (Root x.root) ≡ Some found) setting_is read in
            let there = root_there made in cc

        link_is : p.source.link ≡ blocks.table facts.0 * 2048
        link_is = ap (λ (x : Table). x.link) facts.1.0.is

        is_root : (found : ℕ) → word_at w.memory (Root p.setting.root) ≡ Some found → found ≡ p.source.link → facts.0 ≡ c.first
        is_root found read same_link =
            let root = map.map.rule.common.rooted made in
            map.map.shows.tables_apart facts.0 c.first facts.1.0.made root facts.1.0.known (map.map.shows.linked c.first (omega arith) root)
            (let a = read_root found read in let b = link_is in omega arith)

        before : (found : ℕ) → word_at w.memory (Root p.setting.root) ≡ Some found → found ≢ p.source.link → (facts.0 ≡ c.first) ⊎ (facts.0 < c.first) → facts.0 < c.first
        before found read other (inl e) = absurd (other (read_root found read ∙ ap (λ u. blocks.table u * 2048) (sym e) ∙ sym link_is))
        before found read other (inr l) = l

        either : ((found : ℕ) × ((word_at w.memory (Root p.setting.root) ≡ Some found) × (found ≡ p.source.link)) × (m2 ≡ with_word w.memory (Root p.setting.root) p.target.link)
            × (end ≡ (standing p at.Announces, Goes)))
            ⊎ ((found : ℕ) × ((word_at w.memory (Root p.setting.root) ≡ Some found) × (found ≢ p.source.link)) × (m2 ≡ w.memory) × (end ≡ (behind p, Goes)))
            → CopierMoved same hash caller setting w c blocks (MovedPromotes hash caller c p end) m2 end
        either (inl (found, gives, is, ends)) =
            let root = is_root found gives.0 gives.1 in
            went_ok bits (subst (λ (u : ℕ). IsTable c blocks p.source u) root facts.1.0) (subst (λ (u : ℕ). IsTable c blocks p.target (suc u)) root facts.1.1)
            (subst (λ (u : ℕ). (j : ℕ) → j < c.len u → c.share (suc u) j ≡ Counted) root (facts.5 root))
            lawful m2 end found gives.0 gives.1 is ends
        either (inr (found, gives, is, ends)) =
            let older = before found gives.0 gives.1 (eq-or-lt_of_le facts.1.2) in
            let turn_is = ap (λ (x : Table). x.turn) facts.1.0.is in
            copier_stays same hash caller setting w c blocks map (MovedPromotes hash caller c p end) (inr (refl, λ e. absurd (omega (arith, e, older, turn_is)))) m2 is end
            (subst (λ (x : Copier × Yielding (Node K V) Table). CopierOutcome w caller setting c blocks same hash x) (sym ends) (went_err bits facts older))
