-- In incremental mode, after each step of a copier each copying that is not over has a place that is not counted, or others that end it; or this copier
-- goes on, and is to end it; if so before.
use Rattle.std.specs.Prelude.{if◌then◌else◌, ◌==◌, ◌*◌, cond, Some}
use Rattle.std.proofs.Common.{◌≡◌, ◌≢◌, ℕ, suc, ◌+◌, ◌%◌, ◌^◌, ◌<◌, ◌⊎◌, inl, inr, Bool, true, false, refl, ap, sym, subst, ◌∙◌, arith, eq-or-lt_of_le}
use Rattle.std.proofs.lemmas.Bool.{eq-eqb, ne_eqb}
use Rattle.seize_words.specs.OneMemory.Mem.{Mem, Took, value_at, word_at, with_word}
use Rattle.seize_words.specs.OneMemory.Plan.{Steps, Ends}
use Rattle.seize_words.specs.declared.at.At.TheVariants.{Root}
use Rattle.seize_words.proofs.OneMemory.OneOwner.Operations.{added, exchanged}
use Rattle.seize.specs.World.{World}
use Rattle.map_tables.specs.Chunks.{is_incremental}
use Rattle.map_tables.specs.TablePlaces.{at_word}
use Rattle.map_tables.specs.declared.node.Node.{Node}
use Rattle.map_tables.specs.declared.setting.Setting.{Setting}
use Rattle.map_tables.specs.declared.table.Table.{Table}
use Rattle.map_tables.specs.declared.table_words.TheConstants.{COPIED}
use Rattle.map_machines.specs.Copier.{plan_at, copier_plan}
use Rattle.map_machines.specs.CopierCounts.{counts, counted, to}
use Rattle.map_machines.specs.CopierPromotes.{promotes, promoted}
use Rattle.map_machines.specs.CopierStates.{standing, behind}
use Rattle.map_machines.specs.declared.yielding.Yielding.{Yielding}
use Rattle.map_machines.specs.declared.yielding.Yielding.TheVariants.{Goes}
use Rattle.map_machines.specs.declared.copier.Copier.{Copier}
use Rattle.map_machines.specs.declared.copier.Copying.{Copying as Point}
use Rattle.map_machines.specs.declared.copier.Copying.TheVariants as at
use Rattle.many_calls.specs.Given.RuleChart.{Share, Chart, is_counted}
use Rattle.many_calls.specs.Given.RuleInWorld.{IsMapIn}
use Rattle.many_calls.specs.Given.RuleMaps.{spot_of}
use Rattle.many_calls.specs.Given.RuleMoves.{Counts, after, with_counted}
use Rattle.many_calls.specs.Given.RuleRule.{Rule, total}
use Rattle.many_calls.specs.Given.RuleWords.{Blocks}
use Rattle.many_calls.proofs.Given.RuleMoves.Totals.{total_with_counted}
use Rattle.many_calls.proofs.Given.RuleWords.TablesSeen.{len_is}
use Rattle.many_calls.proofs.Given.RuleWorld.WentIncremental.{rule_incremental}
use Rattle.many_calls.specs.Given.PointsFactsCopies.{CopyingFacts, CopierFacts}
use Rattle.many_calls.specs.Given.PointsToldMoves.{MovedAt, MovedPromotes}
use Rattle.many_calls.proofs.Given.PointsCopiers.CopiersCounted.{copied_word, no_wrap}
use Rattle.map_measures.specs.Waits.Others.{IsToCount, IsOpen, EndsAt}
use Rattle.map_measures.proofs.Waits.Endings as endings
use Rattle.map_measures.proofs.Waits.Endings.{left_over, OthersEnd, AllOr, AllEnd}

module _ {K V : Type 0} (same : K → K → Bool) (hash : K → ℕ) (caller : ℕ) (setting : Setting) (w : World (Node K V)) (c : Chart K) (blocks : Blocks)
    (map : IsMapIn same hash setting w c blocks) (bits : is_incremental setting.mode ≡ true) (p : Copier) (is : p.setting ≡ setting) where
  rule : Rule same (spot_of hash) true c
  rule = rule_incremental same hash setting w c blocks map bits

  abbrev IsLeft : Type 0
  IsLeft = (j : ℕ) × (j < c.len c.first) × IsToCount (with_counted caller (c.share (suc c.first) j))

  -- it goes on, to make the table the root
  abbrev IsToPromote : Copier × Yielding (Node K V) Table → Type 0
  IsToPromote end = (end.1 ≡ Goes) × (end.0.stands ≡ at.Promotes) × (end.0.target.turn ≡ suc c.first)

  -- who counts is to make the table the root, or a place is left
  counts_say : CopyingFacts same hash w caller setting c blocks p at.Counts → (m2 : Mem (Node K V)) (end : Copier × Yielding (Node K V) Table) → Steps Took value_at w.memory (counts p) m2 end
      → IsToPromote end ⊎ IsLeft
  counts_say f m2 end steps =
      let s = added w.memory (counted p) (at_word p.target COPIED) p.done m2 end steps in
      pick (with_word w.memory (at_word p.target COPIED) ((s.0 + p.done) % 2 ^ 64)) s.0
      (let there = copied_word same hash caller setting w c blocks map p f.0 f.2 in let read = s.1 in cc (there, read)) ((s.0 + p.done) % 2 ^ 64 == p.source.len) refl s.3
    where
      -- the sum is not that of all
      few : (found : ℕ) → found ≡ c.copied (suc c.first) → ((found + p.done) % 2 ^ 64 == p.source.len) ≡ false
          → total is_counted (λ j. with_counted caller (c.share (suc c.first) j)) (c.len c.first) ≢ c.len c.first
      few found e other all =
          let tally = map.map.rule.common.counts (suc c.first) (omega arith) f.0.1.made in
          let sum = total_with_counted caller (c.share (suc c.first)) (c.len c.first) in
          let done = f.2 in
          let whole : c.copied (suc c.first) + p.done ≡ c.len c.first = omega (arith, tally, sum, all, done) in
          let equal : (found + p.done) % 2 ^ 64 ≡ p.source.len = ap (λ n. (n + p.done) % 2 ^ 64) e ∙ no_wrap same hash caller setting w c blocks map p f.0 f.2 ∙ whole
          ∙ sym (len_is hash w.memory c blocks setting.root map.map.shows p.source c.first f.0.0) in
          let yes : ((found + p.done) % 2 ^ 64 == p.source.len) ≡ true = eq-eqb ((found + p.done) % 2 ^ 64) p.source.len equal in
          cc (yes, other)

      pick : (m : Mem (Node K V)) (found : ℕ) → found ≡ c.copied (suc c.first) → (b : Bool) → ((found + p.done) % 2 ^ 64 == p.source.len) ≡ b
          → Ends (value_at m) (if b then to (record p { place = 0; end = 0; done = 0; stands = at.Promotes }) else to (behind (record p { done = 0 }))) end
          → IsToPromote end ⊎ IsLeft
      pick m found e true full ends = inl (
        ap (λ (x : Copier × Yielding (Node K V) Table). x.1) ends,
        ap (λ (x : Copier × Yielding (Node K V) Table). x.0.stands) ends,
        ap (λ (x : Copier × Yielding (Node K V) Table). x.0.target.turn) ends ∙ ap (λ (x : Table). x.turn) f.0.1.is,
      )
      pick m found e false other ends = inr (left_over same hash c rule caller (few found e other))

  -- who makes the table the root had copied the root, and who fails to had not
  promotes_say : (f : CopyingFacts same hash w caller setting c blocks p at.Promotes) → (m2 : Mem (Node K V)) (end : Copier × Yielding (Node K V) Table) → Steps Took value_at w.memory (promotes p) m2 end
      → ((end ≡ (standing p at.Announces, Goes)) × (f.0 ≡ c.first)) ⊎ ((end ≡ (behind p, Goes)) × (f.0 < c.first))
  promotes_say f m2 end steps = either (exchanged w.memory (promoted p) (Root p.setting.root) p.source.link p.target.link m2 end steps)
    where
      made : 0 < c.past
      made = let made = f.1.0.made in omega (arith, made)

      root_there : word_at w.memory (Root setting.root) ≡ Some (blocks.table c.first * 2048)
      root_there = map.map.shows.root_there ∙ ap (λ q. Some (cond q 0 (blocks.table c.first * 2048))) (ne_eqb c.past 0 (λ e. omega (arith, e, made)))

      read_root : (found : ℕ) → word_at w.memory (Root p.setting.root) ≡ Some found → found ≡ blocks.table c.first * 2048
      read_root found read =
          let here : word_at w.memory (Root setting.root) ≡ Some found = subst (λ (x : Setting). word_at w.memory (Root x.root) ≡ Some found) is read in
          let there = root_there in
          cc (here, there)

      link_is : p.source.link ≡ blocks.table f.0 * 2048
      link_is = ap (λ (x : Table). x.link) f.1.0.is

      is_root : (found : ℕ) → word_at w.memory (Root p.setting.root) ≡ Some found → found ≡ p.source.link → f.0 ≡ c.first
      is_root found read same_link =
          let root = map.map.rule.common.rooted made in
          map.map.shows.tables_apart f.0 c.first f.1.0.made root f.1.0.known (map.map.shows.linked c.first (omega arith) root)
          (let a = read_root found read in let b = link_is in omega (arith, a, b, same_link))

      before : (found : ℕ) → word_at w.memory (Root p.setting.root) ≡ Some found → found ≢ p.source.link → (f.0 ≡ c.first) ⊎ (f.0 < c.first) → f.0 < c.first
      before found read other (inl e) = absurd (other (read_root found read ∙ ap (λ (u : ℕ). blocks.table u * 2048) (sym e) ∙ sym link_is))
      before found read other (inr l) = l

      either : ((found : ℕ) × ((word_at w.memory (Root p.setting.root) ≡ Some found) × (found ≡ p.source.link)) × (m2 ≡ with_word w.memory (Root p.setting.root) p.target.link)
          × (end ≡ (standing p at.Announces, Goes)))
          ⊎ ((found : ℕ) × ((word_at w.memory (Root p.setting.root) ≡ Some found) × (found ≢ p.source.link)) × (m2 ≡ w.memory) × (end ≡ (behind p, Goes)))
          → ((end ≡ (standing p at.Announces, Goes)) × (f.0 ≡ c.first)) ⊎ ((end ≡ (behind p, Goes)) × (f.0 < c.first))
      either (inl (found, gives, left, ends)) = inl (ends, is_root found gives.0 gives.1)
      either (inr (found, gives, left, ends)) = inr (ends, before found gives.0 gives.1 (eq-or-lt_of_le f.1.2))

  -- who fails to is not about to say that it has
  not_announcing : (b : Bool)
      → (if b then record p { place = 0; end = 0; spent = is_incremental p.setting.mode; stands = at.Asks } else standing p at.Over).stands ≡ at.Announces → ⊥
  not_announcing true e = cc e
  not_announcing false e = cc e

  module _ (P A : ℕ → Type 0) (m2 : Mem (Node K V)) (end : Copier × Yielding (Node K V) Table) (c2 : Chart K) where
    abbrev After : Type 0
    After = AllOr P A c2 (λ t. ⊥) ⊎ ((end.1 ≡ Goes) × AllEnd P A c2 end.0 end.0.stands)

    -- who counts
    by_counts : c2 ≡ after (spot_of hash) true (Counts caller (suc c.first) p.done) c → AllOr P A c (λ t. ⊥) → IsToPromote end ⊎ IsLeft → After
    by_counts moved all (inl (goes, stands, turn)) = inr (
      goes,
      subst (λ (x : Chart K). AllEnd P A x end.0 end.0.stands) (sym moved)
          (endings.counted P A same hash c rule caller p.done
          (λ t. EndsAt (after (spot_of hash) true (Counts caller (suc c.first) p.done) c) end.0 end.0.stands t)
          (inl (subst (λ (stage : Point). EndsAt (after (spot_of hash) true (Counts caller (suc c.first) p.done) c) end.0 stage (suc c.first)) (sym stands) (turn, omega arith)))
          all),
    )
    by_counts moved all (inr left) =
        inl (subst (λ (x : Chart K). AllOr P A x (λ t. ⊥)) (sym moved) (endings.counted P A same hash c rule caller p.done (λ t. ⊥) (inr left) all))

    module _ (f : CopyingFacts same hash w caller setting c blocks p at.Promotes) (all : AllEnd P A c p at.Promotes) where
      target : p.target.turn ≡ suc f.0
      target = ap (λ (x : Table). x.turn) f.1.1.is

      source : p.source.turn ≡ f.0
      source = ap (λ (x : Table). x.turn) f.1.0.is

      -- one that copies a table before the root ends none
      without : f.0 < c.first → AllOr P A c (λ t. ⊥)
      without l t some made unfinished = by (all t some made unfinished)
        where
          by : IsOpen c t ⊎ (OthersEnd P A c t ⊎ EndsAt c p at.Promotes t) → IsOpen c t ⊎ (OthersEnd P A c t ⊎ ⊥)
          by (inl uncounted) = inl uncounted
          by (inr (inl others)) = inr (inl others)
          by (inr (inr (turn, ahead))) = absurd (omega (arith, turn, ahead, target, l))

      by_promotes : ((end ≡ (standing p at.Announces, Goes)) × (f.0 ≡ c.first)) ⊎ ((end ≡ (behind p, Goes)) × (f.0 < c.first)) → MovedPromotes hash caller c p end c2 → After
      by_promotes (inl (ends, root)) (inl (same_end, moved)) = inr (
        ap (λ (x : Copier × Yielding (Node K V) Table). x.1) ends,
        subst (λ (x : Copier × Yielding (Node K V) Table). AllEnd P A c2 x.0 x.0.stands) (sym ends)
            (subst (λ (x : Chart K). AllEnd P A x (standing p at.Announces) at.Announces) (sym moved)
            (endings.promoted P A same hash c rule p (target ∙ ap (λ (n : ℕ). suc n) root) all)),
      )
      by_promotes (inl (ends, root)) (inr (same_chart, other)) = absurd (other (source ∙ root))
      by_promotes (inr (ends, l)) (inl (same_end, moved)) =
          absurd (not_announcing p.whole (ap (λ (x : Copier × Yielding (Node K V) Table). x.0.stands) (sym ends ∙ same_end)))
      by_promotes (inr (ends, l)) (inr (same_chart, other)) = inl (endings.plain P A same hash c rule caller c2 (inl same_chart) (without l))

    kept_at : (stands : Point) → CopyingFacts same hash w caller setting c blocks p stands → Steps Took value_at w.memory (plan_at hash p stands) m2 end
        → MovedAt hash caller c p stands end c2 → AllEnd P A c p stands → After
    kept_at at.Counts f s moved all = by_counts moved all (counts_say f m2 end s)
    kept_at (at.Tallies word fault) f s moved all =
        by_counts moved all (inr (p.place, f.2.in_range.0, subst (λ (x : Share). IsToCount (with_counted caller x)) (sym f.2.claims.0) tt))
    kept_at at.Promotes f s moved all = by_promotes f all (promotes_say f m2 end s) moved
    kept_at at.Announces f s moved all =
        inl (subst (λ (x : Chart K). AllOr P A x (λ t. ⊥)) (sym moved) (endings.announced P A same hash c rule p all))
    kept_at at.Over f s moved all = inl (endings.plain P A same hash c rule caller c2 (inl moved) all)
    kept_at (at.Refused fault) f s moved all = inl (endings.plain P A same hash c rule caller c2 (inl moved) all)
    kept_at _ f s moved all = inl (endings.plain P A same hash c rule caller c2 moved all)

    pub copier_ends : CopierFacts same hash w caller setting c blocks p → Steps Took value_at w.memory (copier_plan hash p) m2 end
        → MovedAt hash caller c p p.stands end c2 → AllEnd P A c p p.stands → After
    copier_ends f s moved all = kept_at p.stands f.point s moved all
