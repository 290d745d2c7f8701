-- In incremental mode, of two charts that one step may have led to, each showing its memory: where each copying that is not over has who ends it in one, it has in the other.
use Rattle.std.specs.Prelude.{◌*◌, cond, Option, Some}
use Rattle.std.proofs.Common.{◌≡◌, ◌≢◌, ℕ, suc, ◌<◌, ◌≤◌, ◌⊎◌, inl, inr, Bool, true, false, refl, ap, sym, subst, ◌∙◌, arith}
use Rattle.std.proofs.lemmas.Bool.{cases_lt, ne_eqb}
use Rattle.seize_words.specs.declared.at.At.TheVariants.{Root, Word}
use Rattle.seize_words.specs.OneMemory.Mem.{Mem, word_at}
use Rattle.seize.specs.World.{World}
use Rattle.map_tables.specs.Chunks.{is_incremental}
use Rattle.map_tables.specs.declared.node.Node.{Node}
use Rattle.map_tables.specs.declared.setting.Setting.{Setting}
use Rattle.map_tables.specs.declared.table_words.TheConstants.{COPIED, STATUS}
use Rattle.map_machines.specs.declared.copier.Copier.{Copier}
use Rattle.map_machines.specs.declared.copier.Copying.{Copying as Point}
use Rattle.map_machines.specs.declared.copier.Copying.TheVariants as at
use Rattle.many_calls.specs.Given.RuleChart.{Share, Lost, Chart, is_counted}
use Rattle.many_calls.specs.Given.RuleInWorld.{IsMapIn, Moved, SameBlocks, SparesTables}
use Rattle.many_calls.specs.Given.RuleLasts.{Lasts}
use Rattle.many_calls.specs.Given.RuleMaps.{spot_of}
use Rattle.many_calls.specs.Given.RuleMoves.{Move, Links, Promotes, after, Allowed}
use Rattle.many_calls.specs.Given.RuleRule.{Agrees, IsLawful, Rule, total}
use Rattle.many_calls.specs.Given.RuleWords.{Blocks, Represents, RepresentsTable}
use Rattle.many_calls.proofs.Given.RuleMoves.Totals.{total_full}
use Rattle.many_calls.proofs.Given.PointsMovedLasts.{moved_lasts}
use Rattle.many_calls.specs.Together.{UnderWay}
use Rattle.map_measures.specs.Waits.Others.{IsToCount, IsOpen, EndsAt, HaveEnds, copier_of}
use Rattle.map_measures.proofs.Waits.Endings.{some_left}

-- where one is to be counted, not all are
few : (share : ℕ → Share) (n j : ℕ) → j < n → IsToCount (share j) → total is_counted share n ≢ n
few share n j l uncounted all = subst (λ (s : Share). IsToCount s) (total_full share n all j l) uncounted

-- in incremental mode a place is left where the count is not full
open_where : {K : Type 0} (same : K → K → Bool) (hash : K → ℕ) (c : Chart K) → Rule same (spot_of hash) true c
    → (t : ℕ) → c.first < t → t < c.past → c.copied t ≢ c.len c.first → IsOpen c t
open_where same hash c rule t behind made short = by (cases_lt (suc c.first) t)
  where
    lost : t ≡ suc c.first → (j : ℕ) → j < c.len c.first → c.share t j ≢ Lost
    lost is j l e =
        subst (λ (s : Share). Agrees s (c.place c.first j)) (subst (λ (n : ℕ). c.share n j ≡ Lost) is e) (rule.in_mode.shares j l)

    by : (suc c.first < t) ⊎ (t ≤ suc c.first) → IsOpen c t
    by (inl l) = (
      behind,
      0,
      (rule.common.lens c.first (omega (arith, behind, made))).0,
      subst (λ (s : Share). IsToCount s) (sym (rule.in_mode.only_next t 0 l)) tt,
    )
    by (inr le) =
        let left = some_left (c.share t) (c.len c.first) (lost (omega (arith, behind, le))) (λ all. short (rule.common.counts t behind made ∙ all)) in
        (behind, left.0, left.1, left.2)

module _ {K V : Type 0} (same : K → K → Bool) (hash : K → ℕ) (setting : Setting) (lawful : IsLawful same (spot_of hash)) (bits : is_incremental setting.mode ≡ true)
    (w : World (Node K V)) (caller : ℕ) (c : Chart K) (blocks : Blocks) (map : IsMapIn same hash setting w c blocks) (m2 : Mem (Node K V)) where
  -- what is known of where a step has led
  abbrev pub Reached : Chart K → Blocks → Type 0
  Reached c2 blocks2 =
      (w2 : World (Node K V)) × (w2.memory ≡ m2) × IsMapIn same hash setting w2 c2 blocks2 × SameBlocks c blocks blocks2 × SparesTables c blocks c2
      × Moved same hash setting.mode caller c c2

  module _ (c2 : Chart K) (blocks2 : Blocks) (r : Reached c2 blocks2) where
    shows : Represents hash m2 c2 blocks2 setting.root
    shows = subst (λ (m : Mem (Node K V)). Represents hash m c2 blocks2 setting.root) r.1 r.2.map.shows

    rule : Rule same (spot_of hash) true c2
    rule = subst (λ (b : Bool). Rule same (spot_of hash) b c2) bits r.2.map.rule

    lasts : Lasts same (spot_of hash) (is_incremental setting.mode) c c2
    lasts = moved_lasts same hash setting lawful w c c2 blocks map r.5

    past_on : (t : ℕ) → t < c.past → t < c2.past
    past_on t l = let on = lasts.past in omega (arith, l, on)

    table_at : (t : ℕ) → t < c.past → blocks.table_known t ≡ true → RepresentsTable hash m2 c2 blocks2 t
    table_at t l known = shows.tables t (past_on t l) (r.3.tables t l known).1

    status_there : (t : ℕ) → t < c.past → blocks.table_known t ≡ true → word_at m2 (Word (blocks.table t) STATUS) ≡ Some (c2.status t)
    status_there t l known = subst (λ (b : ℕ). word_at m2 (Word b STATUS) ≡ Some (c2.status t)) (r.3.tables t l known).0 (table_at t l known).status

    copied_there : (t : ℕ) → t < c.past → blocks.table_known t ≡ true → word_at m2 (Word (blocks.table t) COPIED) ≡ Some (c2.copied t)
    copied_there t l known = subst (λ (b : ℕ). word_at m2 (Word b COPIED) ≡ Some (c2.copied t)) (r.3.tables t l known).0 (table_at t l known).copied

    -- the root is a table that was there
    first_made : 0 < c.past → c2.first < c.past
    first_made there = by r.5
      where
        by_move : (move : Move K) → Allowed same (spot_of hash) (is_incremental setting.mode) move c → (after (spot_of hash) (is_incremental setting.mode) move c).first < c.past
        by_move (Promotes t) allowed = allowed.1
        by_move _ allowed = map.map.rule.common.rooted there

        by : Moved same hash setting.mode caller c c2 → c2.first < c.past
        by (inl is) = subst (λ (x : Chart K). x.first < c.past) (sym is) (map.map.rule.common.rooted there)
        by (inr (move, allowed, is, own)) = subst (λ (x : Chart K). x.first < c.past) (sym is) (by_move move allowed)

    -- a table that was not there is the last one, and nothing is counted for it
    new_table : (t : ℕ) → c.past ≤ t → t < c2.past → (t ≡ c.past) × (c2.copied t ≡ 0)
    new_table t ge made = by r.5
      where
        by_move : (move : Move K) → t < (after (spot_of hash) (is_incremental setting.mode) move c).past
            → (t ≡ c.past) × ((after (spot_of hash) (is_incremental setting.mode) move c).copied t ≡ 0)
        by_move (Links len limit) l = (omega (arith, ge, l), (map.map.rule.common.uncounted t ge).1)
        by_move _ l = absurd (omega (arith, ge, l))

        by : Moved same hash setting.mode caller c c2 → (t ≡ c.past) × (c2.copied t ≡ 0)
        by (inl is) = absurd (let l : t < c.past = subst (λ (x : Chart K). t < x.past) is made in omega (arith, ge, l))
        by (inr (move, allowed, is, own)) =
            subst (λ (x : Chart K). (t ≡ c.past) × (x.copied t ≡ 0)) (sym is) (by_move move (subst (λ (x : Chart K). t < x.past) is made))

    first_known : (there : 0 < c.past) → blocks.table_known c2.first ≡ true
    first_known there = r.3.tables_back c2.first (first_made there) (shows.linked c2.first (omega arith) (past_on c2.first (first_made there)))

    root_is : (there : 0 < c.past) → word_at m2 (Root setting.root) ≡ Some (blocks.table c2.first * 2048)
    root_is there =
        shows.root_there
        ∙ ap (λ (b : Bool). Some (cond b 0 (blocks2.table c2.first * 2048))) (ne_eqb c2.past 0 (λ e. (let l = past_on 0 there in omega (arith, e, l))))
        ∙ ap (λ (b : ℕ). Some (b * 2048)) (r.3.tables c2.first (first_made there) (first_known there)).0

    len_first : (there : 0 < c.past) → c2.len c2.first ≡ c.len c2.first
    len_first there = (lasts.lens c2.first (first_made there)).0

  module _ (c2 d : Chart K) (blocks2 blocks3 : Blocks) (r : Reached c2 blocks2) (s : Reached d blocks3) where
    first_same : 0 < c.past → c2.first ≡ d.first
    first_same there =
        map.map.shows.tables_apart c2.first d.first (first_made c2 blocks2 r there) (first_made d blocks3 s there) (first_known c2 blocks2 r there) (first_known d blocks3 s there)
        (let one = root_is c2 blocks2 r there in let other = root_is d blocks3 s there in
        let same_word : blocks.table c2.first * 2048 ≡ blocks.table d.first * 2048 = cc (one, other) in
        omega (arith, same_word))

    status_same : (t : ℕ) → t < c.past → c2.status t ≡ d.status t
    status_same t l = by (blocks.table_known t) refl
      where
        by : (b : Bool) → blocks.table_known t ≡ b → c2.status t ≡ d.status t
        by true known = let one = status_there c2 blocks2 r t l known in let other = status_there d blocks3 s t l known in cc (one, other)
        by false none = (r.4 t l (λ known. cc (known, none))).1 ∙ sym (s.4 t l (λ known. cc (known, none))).1

    copied_same : (t : ℕ) → t < c.past → c2.copied t ≡ d.copied t
    copied_same t l = by (blocks.table_known t) refl
      where
        by : (b : Bool) → blocks.table_known t ≡ b → c2.copied t ≡ d.copied t
        by true known = let one = copied_there c2 blocks2 r t l known in let other = copied_there d blocks3 s t l known in cc (one, other)
        by false none = (r.4 t l (λ known. cc (known, none))).3 ∙ sym (s.4 t l (λ known. cc (known, none))).3

    len_same : (there : 0 < c.past) → c2.len c2.first ≡ d.len d.first
    len_same there = len_first c2 blocks2 r there ∙ ap c.len (first_same there) ∙ sym (len_first d blocks3 s there)

    module _ {Q : Type 0} (calls : ℕ → Option (UnderWay K V Q)) where
      abbrev AnyEnds : Chart K → ℕ → Type 0
      AnyEnds x t = (k : ℕ) × (u : UnderWay K V Q) × (p : Copier) × (calls k ≡ Some u) × (copier_of u ≡ Some p) × EndsAt x p p.stands t

      ends_on : 0 < c.past → (t : ℕ) (p : Copier) (stands : Point) → EndsAt d p stands t → EndsAt c2 p stands t
      ends_on there t p at.Promotes (turn, ahead) = (turn, subst (λ (n : ℕ). n < t) (sym (first_same there)) ahead)
      ends_on there t p at.Announces (turn, upto) = (turn, subst (λ (n : ℕ). t ≤ n) (sym (first_same there)) upto)
      ends_on there t p _ none = absurd none

      -- for a table that was there
      old : (t : ℕ) → t < c.past → t < c2.past → IsOpen d t ⊎ AnyEnds d t → IsOpen c2 t ⊎ AnyEnds c2 t
      old t l made (inl (behind, j, within, uncounted)) = inl
          (open_where same hash c2 (rule c2 blocks2 r) t (subst (λ (n : ℕ). n < t) (sym (first_same (omega (arith, l)))) behind) made
          (λ full. few (d.share t) (d.len d.first) j within uncounted
          (sym ((rule d blocks3 s).common.counts t behind (past_on d blocks3 s t l)) ∙ sym (copied_same t l) ∙ full ∙ len_same (omega (arith, l)))))
      old t l made (inr (k, u, p, is, of, ends)) = inr (k, u, p, is, of, ends_on (omega (arith, l)) t p p.stands ends)

      -- and for one that was not
      new : (t : ℕ) → 0 < t → c.past ≤ t → t < c2.past → IsOpen c2 t
      new t some ge made =
          let its = new_table c2 blocks2 r t ge made in
          let last = its.0 in
          let there : 0 < c.past = omega (arith, last, some) in
          let root = first_made c2 blocks2 r there in
          let long = ((rule c2 blocks2 r).common.lens c2.first (past_on c2 blocks2 r c2.first root)).0 in
          open_where same hash c2 (rule c2 blocks2 r) t (omega (arith, root, ge)) made (λ full. (let none = its.1 in omega (arith, full, none, long)))

      pub ends_same : HaveEnds d calls → HaveEnds c2 calls
      ends_same ends t some made unfinished = by (cases_lt t c.past)
        where
          by : (t < c.past) ⊎ (c.past ≤ t) → IsOpen c2 t ⊎ AnyEnds c2 t
          by (inl l) = old t l made
              (ends t some (past_on d blocks3 s t l) ((λ e. unfinished.0 (status_same t l ∙ e)), (λ e. unfinished.1 (status_same t l ∙ e))))
          by (inr ge) = inl (new t some ge made)
