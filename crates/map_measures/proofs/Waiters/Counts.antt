-- In blocking mode, a copier that counts what it has done: where the count is full then, it is to make its target the root; else a place is left that is not counted.
use Rattle.std.specs.Prelude.{cond, Some}
use Rattle.std.proofs.Common.{◌≡◌, ◌≢◌, ℕ, zero, suc, ◌+◌, ◌%◌, ◌^◌, ◌<◌, ◌≤◌, ◌==◌, ◌⊎◌, Bool, true, false, inl, inr, refl, ap, sym, subst, ◌∙◌, arith}
use Rattle.std.proofs.lemmas.Bool.{cases_eq, eqb-false, ne_eqb}
use Rattle.seize_words.specs.declared.at.At.{At}
use Rattle.seize_words.specs.declared.at.At.TheVariants.{Word}
use Rattle.seize_words.specs.OneMemory.Mem.{Mem, Took, value_at, with_word, word_at}
use Rattle.seize_words.specs.OneMemory.Plan.{Steps}
use Rattle.seize.specs.World.{World}
use Rattle.map_tables.specs.Chunks.{is_incremental}
use Rattle.map_tables.specs.TablePlaces.{at_word}
use Rattle.map_tables.specs.declared.node.Node.{Node}
use Rattle.map_tables.specs.declared.setting.Setting.{Setting}
use Rattle.map_tables.specs.declared.table.Table.{Table}
use Rattle.map_tables.specs.declared.table_words.TheConstants.{COPIED}
use Rattle.map_machines.specs.Copier.{plan_at}
use Rattle.map_machines.specs.CopierCounts.{counted as count_told}
use Rattle.map_machines.specs.CopierStates.{behind}
use Rattle.map_machines.specs.declared.copier.Copier.{Copier}
use Rattle.map_machines.specs.declared.copier.Copying.TheVariants as at
use Rattle.map_machines.specs.declared.yielding.Yielding.{Yielding}
use Rattle.map_machines.specs.declared.yielding.Yielding.TheVariants.{Goes}
use Rattle.many_calls.specs.Given.RuleChart.{Chart, Share, Free, Claimed, Done, Counted, Lost, is_counted}
use Rattle.many_calls.specs.Given.RuleInWorld.{IsMapIn}
use Rattle.many_calls.specs.Given.RuleLasts.{IsBy}
use Rattle.many_calls.specs.Given.RuleMaps.{spot_of}
use Rattle.many_calls.specs.Given.RuleMoves.{Move, Counts, after, counted_to, with_counted}
use Rattle.many_calls.specs.Given.RuleRule.{total}
use Rattle.many_calls.specs.Given.RuleWords.{Blocks, RepresentsTable}
use Rattle.many_calls.specs.Given.PointsFactsCopiesBlocking.{CopiesInto, HasDoneIn}
use Rattle.many_calls.proofs.Given.RuleMoves.Totals.{total_with_counted}
use Rattle.many_calls.proofs.Given.RuleShares.CopiersShares.{done_fits}
use Rattle.many_calls.proofs.Given.RuleWords.TablesSeen.{len_is, word_stands}
use Rattle.seize_words.proofs.OneMemory.OneOwner.AfterWrites.{word_at-with_word}
use Rattle.seize_words.proofs.OneMemory.OneOwner.Operations.{added}
use Rattle.seize_words.proofs.OneMemory.Plans.{ends_if}
use Rattle.seize_acts.proofs.Given.SeizeMemoryWords.Named.{same_at-refl}
use Rattle.map_measures.specs.Waits.Others.{EndsAt}
use Rattle.map_measures.proofs.Waiters.Moves.{AllKept, counted}
use Rattle.map_measures.proofs.Waiters.Reached.{MovedSo, Reached, moved, past_on, rule, shows}
use Rattle.seize_words.proofs.General.{some_is as is_some_of}

-- where not all shares are counted, one is not
some_uncounted : (d : ℕ → Share) (n : ℕ) → total is_counted d n ≢ n → (j : ℕ) × (j < n) × (d j ≢ Counted)
some_uncounted d zero few = absurd (few refl)
some_uncounted d (suc n) few = by (some_uncounted d n) (d n) refl
  where
    here : (share : Share) → d n ≡ share → share ≢ Counted → (j : ℕ) × (j < suc n) × (d j ≢ Counted)
    here share is other = (n, omega arith, λ e. other (sym is ∙ e))

    below : (total is_counted d n ≢ n → (j : ℕ) × (j < n) × (d j ≢ Counted)) → is_counted (d n) ≡ 1 → (j : ℕ) × (j < suc n) × (d j ≢ Counted)
    below before one = let found = before (λ e. few (omega (arith, e, one))) in (found.0, (let l = found.1 in omega (arith, l)), found.2)

    by : (total is_counted d n ≢ n → (j : ℕ) × (j < n) × (d j ≢ Counted)) → (share : Share) → d n ≡ share → (j : ℕ) × (j < suc n) × (d j ≢ Counted)
    by before Counted is = below before (ap is_counted is)
    by before Free is = here Free is (λ e. cc e)
    by before (Claimed k) is = here (Claimed k) is (λ e. cc e)
    by before (Done k) is = here (Done k) is (λ e. cc e)
    by before Lost is = here Lost is (λ e. cc e)

module _ {K V : Type 0} (same : K → K → Bool) (hash : K → ℕ) (caller : ℕ) (setting : Setting) (mode : is_incremental setting.mode ≡ false) (w : World (Node K V)) (c : Chart K) (blocks : Blocks)
    (map : IsMapIn same hash setting w c blocks) (p : Copier) (m2 : Mem (Node K V)) (end : Copier × Yielding (Node K V) Table)
    (steps : Steps Took value_at w.memory (plan_at hash p at.Counts) m2 end) (d : Chart K) (blocks2 : Blocks) (r : Reached same hash setting mode w caller c blocks map m2 d blocks2)
    (P A G : ℕ → Type 0) (t : ℕ) (into : CopiesInto same hash w caller setting c blocks p t) (some : 0 < p.done) (done : HasDoneIn same hash w caller setting c blocks t p.done) where
  abbrev sum : ℕ
  sum = c.copied t + p.done

  target_turn : p.target.turn ≡ t
  target_turn = ap (λ (x : Table). x.turn) into.2.is

  length : p.source.len ≡ c.len c.first
  length = len_is hash w.memory c blocks setting.root map.map.shows p.source c.first into.0

  counts : c.copied t ≡ total is_counted (c.share t) (c.len c.first)
  counts = (rule same hash setting mode w caller c blocks map m2 d blocks2).common.counts t into.1 into.2.made

  few : sum ≤ c.len c.first
  few = let most = done_fits caller (c.share t) (c.len c.first) in let of = counts in let its = done.0 in omega (arith, of, its, most)

  fits : sum % 2 ^ 64 ≡ sum
  fits = let most = (map.map.shows.sized c.first into.0.made).most in let low = few in omega (arith, low, most)

  -- the word of the count, before and after
  abbrev at_table : At
  at_table = Word (blocks.table t) COPIED

  word : at_word p.target COPIED ≡ at_table
  word = word_stands hash w.memory c blocks setting.root map.map.shows p.target t into.2 COPIED

  count_here : word_at w.memory at_table ≡ Some (c.copied t)
  count_here = (map.map.shows.tables t into.2.made into.2.known).copied

  target_here : word_at w.memory (at_word p.target COPIED) ≡ Some (c.copied t)
  target_here = ap (λ (x : At). word_at w.memory x) word ∙ count_here

  -- by how much it is counted then
  count_then : (count : ℕ) → count ≡ c.copied t → m2 ≡ with_word w.memory (at_word p.target COPIED) ((count + p.done) % 2 ^ 64) → d.copied t ≡ sum
  count_then count is wrote = (let both = sym read ∙ written in let now : d.copied t ≡ (count + p.done) % 2 ^ 64 = cc both in let low = fits in omega (arith, now, is, low))
    where
      written : word_at m2 at_table ≡ Some ((count + p.done) % 2 ^ 64)
      written =
          ap (λ (n : Mem (Node K V)). word_at n at_table) (wrote ∙ ap (λ (x : At). with_word w.memory x ((count + p.done) % 2 ^ 64)) word)
          ∙ word_at-with_word w.memory at_table ((count + p.done) % 2 ^ 64) at_table (is_some_of _ _ count_here)
          ∙ ap (λ (b : Bool). cond b (Some ((count + p.done) % 2 ^ 64)) (word_at w.memory at_table)) (same_at-refl at_table)

      same_table : (blocks2.table t ≡ blocks.table t) × (blocks2.table_known t ≡ true)
      same_table = r.3.tables t into.2.made into.2.known

      there : RepresentsTable hash m2 d blocks2 t
      there = (shows same hash setting mode w caller c blocks map m2 d blocks2 r).tables t (past_on same hash setting mode w caller c blocks map m2 d blocks2 r t into.2.made) same_table.1

      read : word_at m2 at_table ≡ Some (d.copied t)
      read = subst (λ (b : ℕ). word_at m2 (Word b COPIED) ≡ Some (d.copied t)) same_table.0 there.copied

  -- so the move was to count, for its target
  module _ (End : ℕ → Type 0) (now : d.copied t ≡ sum) (how : End t ⊎ ((j : ℕ) × (j < c.len c.first) × (with_counted caller (c.share t j) ≢ Counted))) (all : AllKept P A G c (λ u. ⊥) (λ u. ⊥)) where
    more : d.copied t ≡ c.copied t → ⊥
    more e = let is = now in omega (arith, e, is, some)

    by_counts : (k u number : ℕ) → d ≡ after (spot_of hash) false (Counts k u number) c → k ≡ caller → (u ≡ t) ⊎ (u ≡ t → ⊥) → AllKept P A G d End (λ u. ⊥)
    by_counts k u number is mine (inl e) =
        subst (λ (x : Chart K). AllKept P A G x End (λ v. ⊥)) (sym (is ∙ ap (λ (i : ℕ). after (spot_of hash) false (Counts i u number) c) mine ∙ ap (λ (v : ℕ). after (spot_of hash) false (Counts caller v number) c) e))
        (counted P A G same hash c (rule same hash setting mode w caller c blocks map m2 d blocks2) End (λ v. ⊥) caller t number (λ ahead. how) all)
    by_counts k u number is mine (inr other) =
        absurd (more (ap (λ (x : Chart K). x.copied t) is ∙ ap (λ (b : Bool). cond b (counted_to c u number) (c.copied t)) (ne_eqb t u (λ e. other (sym e)))))

    by_move : (move : Move K) → d ≡ after (spot_of hash) false move c → ((k : ℕ) → IsBy k move → k ≡ caller) → AllKept P A G d End (λ u. ⊥)
    by_move (Counts k u number) is own = by_counts k u number is (own k refl) (cases_eq u t)
    by_move _ is own = absurd (more (ap (λ (x : Chart K). x.copied t) is))

    goes : AllKept P A G d End (λ u. ⊥)
    goes = by (moved same hash setting mode w caller c blocks map m2 d blocks2 r)
      where
        by : MovedSo same hash setting mode w caller c blocks map m2 d blocks2 false → AllKept P A G d End (λ u. ⊥)
        by (inl is) = absurd (more (ap (λ (x : Chart K). x.copied t) is))
        by (inr (move, allowed, is, own)) = by_move move is own

  -- where the count is full it is to make its target the root; else nobody is to do more than before
  abbrev pub Comes : Type 0
  Comes =
      ((end ≡ (record p { place = 0; end = 0; done = 0; stands = at.Promotes }, Goes)) × AllKept P A G d (λ u. EndsAt d p at.Promotes u) (λ u. ⊥))
      ⊎ ((end ≡ (behind (record p { done = 0 }), Goes)) × AllKept P A G d (λ u. ⊥) (λ u. ⊥))

  pub copier_counts : d.first ≡ c.first → AllKept P A G c (λ u. ⊥) (λ u. ⊥) → Comes
  copier_counts first all =
      let add = added w.memory (count_told p) (at_word p.target COPIED) p.done m2 end steps in
      by add.0 (cc (add.1, target_here)) add.2
      (ends_if (value_at (with_word w.memory (at_word p.target COPIED) ((add.0 + p.done) % 2 ^ 64))) ((add.0 + p.done) % 2 ^ 64 == p.source.len) _ _ end add.3)
    where
      left : sum ≢ c.len c.first → (j : ℕ) × (j < c.len c.first) × (with_counted caller (c.share t j) ≢ Counted)
      left other = some_uncounted (λ j. with_counted caller (c.share t j)) (c.len c.first)
          (λ e. (let split = total_with_counted caller (c.share t) (c.len c.first) in let of = counts in let its = done.0 in other (omega (arith, e, split, of, its))))

      by : (count : ℕ) → count ≡ c.copied t → m2 ≡ with_word w.memory (at_word p.target COPIED) ((count + p.done) % 2 ^ 64)
          → ((((count + p.done) % 2 ^ 64 == p.source.len) ≡ true) × (end ≡ (record p { place = 0; end = 0; done = 0; stands = at.Promotes }, Goes)))
          ⊎ ((((count + p.done) % 2 ^ 64 == p.source.len) ≡ false) × (end ≡ (behind (record p { done = 0 }), Goes)))
          → Comes
      by count is wrote (inl (full, ends)) =
          inl (ends, goes (λ u. EndsAt d p at.Promotes u) (count_then count is wrote) (inl (target_turn, (let ahead = into.1 in omega (arith, first, ahead)))) all)
      by count is wrote (inr (short, ends)) =
          inr (
            ends,
            goes (λ u. ⊥) (count_then count is wrote)
                (inr (left (λ e. (let other = eqb-false ((count + p.done) % 2 ^ 64) p.source.len short in let low = fits in let long = length in other (omega (arith, is, low, long, e)))))) all,
          )
