-- In blocking mode, a step of a caller that has no part in a copying leaves each with who goes on with it, who ends it, or who gives it up, as long as the root is as it was; and where the
-- caller has said that its own is over, or was given up, it is not to do so any more.
use Rattle.std.specs.Prelude.{◌*◌, cond, Some}
use Rattle.std.proofs.Common.{◌≡◌, ◌≢◌, ℕ, suc, ◌<◌, ◌≤◌, ◌⊎◌, inl, inr, Bool, true, false, ap, sym, subst, ◌∙◌, arith}
use Rattle.std.proofs.lemmas.Bool.{ne_eqb}
use Rattle.seize_words.specs.declared.at.At.TheVariants.{Root, Word}
use Rattle.seize_words.specs.OneMemory.Mem.{Mem, word_at}
use Rattle.seize.specs.World.{World}
use Rattle.map_tables.specs.Chunks.{is_incremental}
use Rattle.map_tables.specs.declared.node.Node.{Node}
use Rattle.map_tables.specs.declared.setting.Setting.{Setting}
use Rattle.map_tables.specs.declared.status.TheConstants.Status.{PROMOTED, ABORTED}
use Rattle.map_tables.specs.declared.table_words.TheConstants.{STATUS}
use Rattle.map_machines.specs.declared.copier.Copier.{Copier}
use Rattle.map_machines.specs.declared.copier.Copying.TheVariants as copies
use Rattle.many_calls.specs.Given.RuleChart.{Chart}
use Rattle.many_calls.specs.Given.RuleInWorld.{IsMapIn, Moved, SameBlocks, SparesTables}
use Rattle.many_calls.specs.Given.RuleLasts.{IsBy}
use Rattle.many_calls.specs.Given.RuleMaps.{spot_of}
use Rattle.many_calls.specs.Given.RuleMoves.{Move, Links, Promotes, Allowed, after, is_of_caller}
use Rattle.many_calls.specs.Given.RuleRule.{Rule}
use Rattle.many_calls.specs.Given.RuleWords.{Blocks, Represents, RepresentsTable}
use Rattle.map_measures.specs.Waits.Others.{EndsAt}
use Rattle.map_measures.specs.Waiters.Blocking.{AbortsAt}
use Rattle.map_measures.proofs.Waiters.Moves.{AllKept, aside, discharged, promoted}

module _ {K V : Type 0} (same : K → K → Bool) (hash : K → ℕ) (setting : Setting) (mode : is_incremental setting.mode ≡ false)
    (w : World (Node K V)) (caller : ℕ) (c : Chart K) (blocks : Blocks) (map : IsMapIn same hash setting w c blocks) (m2 : Mem (Node K V)) (d : Chart K) (blocks2 : Blocks) where
  -- what is known of where a step has led
  abbrev pub Reached : Type 0
  Reached =
      (w2 : World (Node K V)) × (w2.memory ≡ m2) × IsMapIn same hash setting w2 d blocks2 × SameBlocks c blocks blocks2 × SparesTables c blocks d × Moved same hash setting.mode caller c d

  -- a move, in blocking mode
  abbrev pub MovedSo : Bool → Type 0
  MovedSo b = (d ≡ c) ⊎ ((move : Move K) × Allowed same (spot_of hash) b move c × (d ≡ after (spot_of hash) b move c) × ((i : ℕ) → IsBy i move → i ≡ caller))

  pub rule : Rule same (spot_of hash) false c
  rule = subst (λ (b : Bool). Rule same (spot_of hash) b c) mode map.map.rule

  module _ (r : Reached) where
    pub shows : Represents hash m2 d blocks2 setting.root
    shows = subst (λ (m : Mem (Node K V)). Represents hash m d blocks2 setting.root) r.1 r.2.map.shows

    pub moved : MovedSo false
    moved = subst MovedSo mode r.5

    -- the word of the root is that of its table
    pub root_now : 0 < d.past → word_at m2 (Root setting.root) ≡ Some (blocks2.table d.first * 2048)
    root_now some = shows.root_there ∙ ap (λ (q : Bool). Some (cond q 0 (blocks2.table d.first * 2048))) (ne_eqb d.past 0 (λ e. omega (arith, e, some)))

    pub root_before : 0 < c.past → word_at w.memory (Root setting.root) ≡ Some (blocks.table c.first * 2048)
    root_before some = map.map.shows.root_there ∙ ap (λ (q : Bool). Some (cond q 0 (blocks.table c.first * 2048))) (ne_eqb c.past 0 (λ e. omega (arith, e, some)))

    -- so the root is as it was where its word is
    pub first_stays : word_at m2 (Root setting.root) ≡ word_at w.memory (Root setting.root) → d.first ≡ c.first
    first_stays same_root = by moved
      where
        by_move : (move : Move K) → Allowed same (spot_of hash) false move c → d ≡ after (spot_of hash) false move c → d.first ≡ c.first
        by_move (Promotes t) allowed is =
            let first : d.first ≡ t = ap (λ (x : Chart K). x.first) is in
            let past : d.past ≡ c.past = ap (λ (x : Chart K). x.past) is in
            let behind = allowed.0 in
            let made = allowed.1 in
            let some : 0 < c.past = omega (arith, made) in
            let known = map.map.shows.linked t (omega (arith, behind)) made in
            let first_made = rule.common.rooted some in
            let now = root_now (omega (arith, past, some)) in
            let words = sym now ∙ same_root ∙ root_before some in
            let numbers : blocks2.table d.first * 2048 ≡ blocks.table c.first * 2048 = cc words in
            let there : blocks2.table d.first ≡ blocks.table t = ap blocks2.table first ∙ (r.3.tables t made known).0 in
            let table : blocks.table t ≡ blocks.table c.first = omega (arith, numbers, there) in
            first ∙ map.map.shows.tables_apart t c.first made first_made known (map.map.shows.linked c.first (omega arith) first_made) table
        by_move _ allowed is = ap (λ (x : Chart K). x.first) is

        by : MovedSo false → d.first ≡ c.first
        by (inl is) = ap (λ (x : Chart K). x.first) is
        by (inr (move, allowed, is, own)) = by_move move allowed is

    -- tables that were there are there
    pub past_on : (t : ℕ) → t < c.past → t < d.past
    past_on t l = by moved
      where
        by_move : (move : Move K) → d ≡ after (spot_of hash) false move c → t < d.past
        by_move (Links len limit) is = let past : d.past ≡ suc c.past = ap (λ (x : Chart K). x.past) is in omega (arith, l, past)
        by_move _ is = subst (λ (n : ℕ). t < n) (sym (ap (λ (x : Chart K). x.past) is)) l

        by : MovedSo false → t < d.past
        by (inl is) = subst (λ (n : ℕ). t < n) (sym (ap (λ (x : Chart K). x.past) is)) l
        by (inr (move, allowed, is, own)) = by_move move is

    -- the status of a table is what its word says
    pub status_now : (t : ℕ) → t < c.past → t < d.past → blocks.table_known t ≡ true → (said : ℕ) → word_at m2 (Word (blocks.table t) STATUS) ≡ Some said → d.status t ≡ said
    status_now t before made known said written =
        let there : RepresentsTable hash m2 d blocks2 t = shows.tables t made (r.3.tables t before known).1 in
        let read : word_at m2 (Word (blocks.table t) STATUS) ≡ Some (d.status t) = subst (λ (b : ℕ). word_at m2 (Word b STATUS) ≡ Some (d.status t)) (r.3.tables t before known).0 there.status in
        (let both = sym read ∙ written in cc both)

    module _ (P A G : ℕ → Type 0) (first : d.first ≡ c.first)
        (none : (u j : ℕ) → c.first < u → is_of_caller caller (c.share u j) ≡ false) where
      -- all stays as it was
      pub aside_keeps : (End Lose : ℕ → Type 0) → AllKept P A G c End Lose → AllKept P A G d End Lose
      aside_keeps End Lose all = aside P A G same hash c rule caller d first none End Lose all moved

      -- its copier has said that its copying is over,
      pub announces_keep : (p : Copier) → d.status p.target.turn ≡ PROMOTED → AllKept P A G c (λ t. EndsAt c p copies.Announces t) (λ t. AbortsAt c p copies.Announces t)
          → AllKept P A G d (λ t. ⊥) (λ t. ⊥)
      announces_keep p over all =
          discharged P A G same hash c rule d (λ t. EndsAt c p copies.Announces t) (λ t. AbortsAt c p copies.Announces t)
          (λ u own unfinished. unfinished.0 (ap d.status (sym own.0) ∙ over)) (λ u own unfinished. own)
          (aside_keeps (λ t. EndsAt c p copies.Announces t) (λ t. AbortsAt c p copies.Announces t) all)

      -- or that it was given up
      pub aborts_keep : (p : Copier) → d.status p.target.turn ≡ ABORTED → AllKept P A G c (λ t. EndsAt c p copies.Aborts t) (λ t. AbortsAt c p copies.Aborts t) → AllKept P A G d (λ t. ⊥) (λ t. ⊥)
      aborts_keep p gone all =
          discharged P A G same hash c rule d (λ t. EndsAt c p copies.Aborts t) (λ t. AbortsAt c p copies.Aborts t)
          (λ u own unfinished. own) (λ u own unfinished. unfinished.1 (ap d.status (sym own.0) ∙ gone))
          (aside_keeps (λ t. EndsAt c p copies.Aborts t) (λ t. AbortsAt c p copies.Aborts t) all)

    -- the root has come to another table: its copier is to say so
    module _ (P A G : ℕ → Type 0) (p : Copier) (turn : d.first ≡ p.target.turn) (other : d.first ≢ c.first) where
      pub promotes_keep : AllKept P A G c (λ t. EndsAt c p copies.Promotes t) (λ t. AbortsAt c p copies.Promotes t) → AllKept P A G d (λ t. EndsAt d p copies.Announces t) (λ t. ⊥)
      promotes_keep all = by moved
        where
          End : ℕ → Type 0
          End t = EndsAt c p copies.Promotes t

          Lose : ℕ → Type 0
          Lose t = AbortsAt c p copies.Promotes t

          Own : Chart K → ℕ → Type 0
          Own x t = EndsAt x p copies.Announces t

          by_move : (move : Move K) → Allowed same (spot_of hash) false move c → d ≡ after (spot_of hash) false move c → AllKept P A G d (Own d) (λ t. ⊥)
          by_move (Promotes t) allowed is =
              let first : d.first ≡ t = ap (λ (x : Chart K). x.first) is in
              subst (λ (x : Chart K). AllKept P A G x (Own x) (λ u. ⊥)) (sym is)
              (promoted P A G same hash c rule t allowed End Lose (Own (after (spot_of hash) false (Promotes t) c))
              (λ u upto own. absurd (let ahead = own.1 in omega (arith, upto, ahead))) (sym turn ∙ first, (let upto : t ≤ t = omega arith in upto)) all)
          by_move _ allowed is = absurd (other (ap (λ (x : Chart K). x.first) is))

          by : MovedSo false → AllKept P A G d (Own d) (λ t. ⊥)
          by (inl is) = absurd (other (ap (λ (x : Chart K). x.first) is))
          by (inr (move, allowed, is, own)) = by_move move allowed is
