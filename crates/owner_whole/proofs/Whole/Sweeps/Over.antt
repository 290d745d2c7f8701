-- A sweep that goes over the root's table goes on over it, whatever the word of its place is, and begins nothing anew, if it goes over one table alone.
use Rattle.std.specs.Prelude.{◌≡◌, ◌≢◌, ℕ, suc, ◌+◌, ◌%◌, ◌^◌, ◌<◌, ◌==◌, ◌&&◌, Bool, true, false, nat_lt, if◌then◌else◌}
use Rattle.std.proofs.Common.{refl, ap, sym, ◌∙◌, arith}
use Rattle.std.proofs.lemmas.Bool.{eqb-false}
use Rattle.seize_words.specs.OneMemory.Word.{block_in}
use Rattle.seize.specs.World.{World}
use Rattle.map_tables.specs.Chunks.{is_incremental}
use Rattle.map_tables.specs.Marks.{has_mark}
use Rattle.map_tables.specs.declared.marks.TheConstants.{COPYING}
use Rattle.map_tables.specs.declared.node.Node.{Node}
use Rattle.map_tables.specs.declared.setting.Setting.{Setting}
use Rattle.map_tables.specs.declared.table.Table.{Table}
use Rattle.papaya_raw.specs.Given.SweepsSweepPoints.{removes, standing, past, further, telling, at_pair, seen}
use Rattle.papaya_raw.specs.Given.ReservesDeclared.sweep.Purpose.{Purpose}
use Rattle.papaya_raw.specs.Given.ReservesDeclared.sweep.Purpose.TheVariants.{Walks, Clears, Retains}
use Rattle.papaya_raw.specs.Given.ReservesDeclared.sweep.Sweep.{Sweep}
use Rattle.papaya_raw.specs.Given.ReservesDeclared.sweep.Sweeping.{Sweeping}
use Rattle.papaya_raw.specs.Given.ReservesDeclared.sweep.Sweeping.TheVariants as at
use Rattle.map_measures.specs.Given.RuleChart.{Phase, Still, Holds, Chart}
use Rattle.map_measures.specs.Given.RuleWords.{Blocks, place_word}
use Rattle.map_measures.specs.Given.RuleInWorld.{IsMapIn}
use Rattle.map_measures.specs.Given.PointsFactsIdle.{IsIdle}
use Rattle.owner_facts.specs.Given.LateFactsSweeps.{GoesOver}
use Rattle.owner_facts.proofs.Given.LateSwept.Sweeps.On.{is_pair, mark_is, still_of}
use Rattle.owner_facts.proofs.Given.LateSwept.Sweeps.Tables.{upto, has_next}
use Rattle.owner_whole.specs.Whole.LoneSweeps.{IsBefore, goes_once, GoesOverRoot, LiesThere, OverRoot}

-- behind its place it reads the next word, or follows to the next table, or is over
pub further_by : (P : Sweeping → Type 0) (q : Sweep) → P at.Words → P at.Follows → P at.Over → P (further q).stands
further_by P q words follows over = by (nat_lt ((q.place + 1) % 2 ^ 64) q.table.len) (removes q.purpose && q.met)
  where
    by : (more again : Bool) → P (if more then at.Words else (if again then at.Follows else at.Over))
    by true again = words
    by false true = follows
    by false false = over

-- behind its last place it does not begin anew
pub further_none : (q : Sweep) → (removes q.purpose && q.met) ≡ false → IsBefore (further q).stands → ⊥
further_none q unmet = by (nat_lt ((q.place + 1) % 2 ^ 64) q.table.len) (removes q.purpose && q.met) unmet
  where
    by : (more again : Bool) → again ≡ false → IsBefore (if more then at.Words else (if again then at.Follows else at.Over)) → ⊥
    by true again e h = h
    by false true e h = absurd (cc e)
    by false false e h = h

module _ {K : Type 0} (hash : K → ℕ) (b : Bool) (c : Chart K) (blocks : Blocks) where
  -- it stands somewhere in the root's table
  pub further_over : (q : Sweep) → GoesOverRoot hash b c blocks q → OverRoot hash b c blocks (further q) (further q).stands
  further_over q over = by (nat_lt ((q.place + 1) % 2 ^ 64) q.table.len) (removes q.purpose && q.met)
    where
      by : (more again : Bool) → OverRoot hash b c blocks (standing (past q) (if more then at.Words else (if again then at.Follows else at.Over))) (if more then at.Words else (if again then at.Follows else at.Over))
      by true again = record { root = over.root; last = over.last }
      by false true = λ blocking. over.root
      by false false = tt

  -- what is so after a step, but for what is done
  pub record Then (p : Sweep) (q : Sweep) : Type 0 where
    pub table : OverRoot hash b c blocks q q.stands
    pub none : goes_once b p.purpose ≡ true → IsBefore q.stands → ⊥

module _ {K V : Type 0} (same : K → K → Bool) (hash : K → ℕ) (caller : ℕ) (setting : Setting) (began : ℕ) (w : World (Node K V)) (c : Chart K) (blocks : Blocks)
    (map : IsMapIn same hash setting w c blocks) (p : Sweep) (setting_is : p.setting ≡ setting) (idle : IsIdle same hash w caller setting c blocks)
    (t : ℕ) (over : GoesOver same hash w caller setting c blocks began p t) (inside : p.place < c.len t) (root : GoesOverRoot hash (is_incremental setting.mode) c blocks p) where
  abbrev b : Bool
  b = is_incremental setting.mode

  abbrev ThenAt : Sweep → Type 0
  ThenAt q = Then hash b c blocks p q

  turn_is : t ≡ c.first
  turn_is = ap (λ (x : Table). x.turn) (sym over.table.is) ∙ root.root

  -- no table is behind it where it never begins anew
  none_behind : b ≡ true → suc t < c.past → ⊥
  none_behind bits l = let last = root.last bits in let e = turn_is in omega (arith, l, last, e)

  met_none : goes_once b p.purpose ≡ true → (removes p.purpose && p.met) ≡ false
  met_none once = by p.purpose p.met once refl
    where
      by : (x : Purpose) (m : Bool) → goes_once b x ≡ true → p.met ≡ m → (removes x && m) ≡ false
      by Walks m once e = refl
      by Clears true once e = absurd (none_behind once (over.marks e))
      by Clears false once e = refl
      by Retains true once e = absurd (none_behind once (over.marks e))
      by Retains false once e = refl

  -- its place is behind it
  over_met : (m : Bool) → GoesOverRoot hash b c blocks (record p { met = m })
  over_met m = record { root = root.root; last = root.last }

  pub further_then : ThenAt (further p)
  further_then = record { table = further_over hash b c blocks p root; none = λ once. further_none p (met_none once) }

  -- the word of its place is read
  module _ (word : ℕ) (word_is : word ≡ place_word hash c blocks (c.place t p.place)) where
    marked_none : goes_once b p.purpose ≡ true → removes p.purpose ≡ true → has_mark word COPYING ≡ true → ⊥
    marked_none once taking marked = by p.purpose once taking
      where
        behind : suc t < c.past
        behind = has_next same hash c began t b map.map.rule over.table.made (upto same hash caller setting w c blocks began map t over.root) p.place inside
            (sym (mark_is same hash caller setting began w c blocks map p setting_is idle t over inside word word_is) ∙ marked)

        by : (x : Purpose) → goes_once b x ≡ true → removes x ≡ true → ⊥
        by Walks once taking = cc taking
        by Clears once taking = none_behind once behind
        by Retains once taking = none_behind once behind

    -- an unmarked pair stands there
    stands_there : block_in word ≢ 0 → has_mark word COPYING ≡ false → LiesThere hash b c blocks (standing p (at.Asks word)) word
    stands_there some unmarked =
        let pair = is_pair same hash caller setting began w c blocks map p setting_is idle t over inside word word_is some in
        let still = still_of same hash caller setting began w c blocks map p setting_is idle t over inside word word_is pair.0 pair.1 pair.2 pair.3 unmarked in
        let here : c.place t p.place ≡ Holds pair.0 Still pair.2 = pair.3 ∙ ap (λ (x : Phase). Holds pair.0 x pair.2) still in (
          pair.0,
          pair.2,
          ap (λ (x : Table). c.place x.turn p.place) over.table.is ∙ here,
          word_is ∙ ap (place_word hash c blocks) here,
        )

    pair_then : (purpose : Purpose) → p.purpose ≡ purpose → (removes purpose ≡ true → has_mark word COPYING ≡ false) → block_in word ≢ 0 → ThenAt (at_pair {T = Node K V} purpose p word).0
    pair_then Walks is unmarked some = record { table = λ l. record { root = root.root; last = root.last }; none = λ once h. h }
    pair_then Clears is unmarked some = record { table = (record { root = root.root; last = root.last }, λ retains. absurd (cc (is, retains))); none = λ once h. h }
    pair_then Retains is unmarked some = record { table = (record { root = root.root; last = root.last }, stands_there some (unmarked refl)); none = λ once h. h }

    pub seen_then : ThenAt (seen {T = Node K V} p word).0
    seen_then = by (removes p.purpose) (has_mark word COPYING) (block_in word == 0) refl refl refl
      where
        by : (r m z : Bool) → removes p.purpose ≡ r → has_mark word COPYING ≡ m → (block_in word == 0) ≡ z
            → ThenAt (if r && m then telling {T = Node K V} (further (record p { met = true })) else (if z then telling (further p) else at_pair p.purpose p word)).0
        by true true z taking marked zero = record { table = further_over hash b c blocks (record p { met = true }) (over_met true); none = λ once. absurd (marked_none once taking marked) }
        by true false true taking marked zero = further_then
        by true false false taking marked zero = pair_then p.purpose refl (λ e. marked) (eqb-false (block_in word) 0 zero)
        by false m true taking marked zero = further_then
        by false m false taking marked zero = pair_then p.purpose refl (λ e. absurd (cc (e, taking))) (eqb-false (block_in word) 0 zero)
