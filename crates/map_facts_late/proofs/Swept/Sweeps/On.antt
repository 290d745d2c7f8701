-- How a sweep goes on: what it knows where it comes to.
use Rattle.std.specs.Prelude.{◌≡◌, ◌≢◌, ℕ, suc, ◌+◌, ◌%◌, ◌^◌, ◌<◌, ◌==◌, ◌&&◌, Bool, true, false, nat_lt, if◌then◌else◌}
use Rattle.std.proofs.Common.{refl, ap, inr, ◌∙◌, arith}
use Rattle.std.proofs.lemmas.Bool.{ltb-true, eqb-false}
use Rattle.map_facts.specs.Given.SeizeWordsWord.{block_in}
use Rattle.map_facts.specs.Given.SeizeWorld.{World}
use Rattle.map_facts.specs.Given.TablesChunks.{is_incremental}
use Rattle.map_facts.specs.Given.TablesMarks.{has_mark}
use Rattle.map_facts.specs.Given.TablesDeclared.marks.TheConstants.{COPYING}
use Rattle.map_facts.specs.Given.TablesDeclared.node.Node.{Node}
use Rattle.map_facts.specs.Given.TablesDeclared.setting.Setting.{Setting}
use Rattle.map_facts.specs.Given.TablesDeclared.table.Table.{Table}
use Rattle.map_facts.specs.Given.SweepsSweepPoints.{removes, standing, beginning, entering, further, told, telling, at_pair, seen}
use Rattle.map_facts.specs.Given.ReservesDeclared.sweep.Purpose.{Purpose}
use Rattle.map_facts.specs.Given.ReservesDeclared.sweep.Purpose.TheVariants.{Walks, Clears, Retains}
use Rattle.map_facts.specs.Given.ReservesDeclared.sweep.Sweep.{Sweep}
use Rattle.map_facts.specs.Given.ReservesDeclared.sweep.Sweeping.{Sweeping}
use Rattle.map_facts.specs.Given.ReservesDeclared.sweep.Sweeping.TheVariants as at
use Rattle.map_facts.specs.Given.ReservesDeclared.sweep.Swept.{Swept}
use Rattle.map_facts.specs.Given.RuleChart.{Phase, Still, Copying, Copied, Holds, Chart, is_marked}
use Rattle.map_facts.specs.Given.RuleWords.{Blocks, byte_of, place_word}
use Rattle.map_facts.specs.Given.RuleMaps.{IsTable}
use Rattle.map_facts.specs.Given.RuleInWorld.{IsMapIn}
use Rattle.map_facts.proofs.Given.RuleWords.PlaceWordsMarks.{has_copying}
use Rattle.map_facts.proofs.Given.RuleWords.PlaceWordsRead.{word-pair}
use Rattle.map_facts.specs.FactsIdle.{IsIdle}
use Rattle.map_facts_late.specs.FactsSweeps.{WasRoot, GoesOver, NamesStill, SweepingFacts, SweepFacts}
use Rattle.map_facts_late.specs.ToldSweeps.{SweepAfter}
use Rattle.map_facts_late.proofs.Swept.Sweeps.Tables.{upto, has_next}

module _ {K V : Type 0} (same : K → K → Bool) (hash : K → ℕ) (caller : ℕ) (setting : Setting) (began : ℕ) (w : World (Node K V)) (c : Chart K) (blocks : Blocks) where
  abbrev pub After : Sweep × Swept (Node K V) → Type 0
  After end = SweepAfter same hash caller setting began w c blocks end

  abbrev pub Knows : Sweep → Type 0
  Knows p = SweepFacts same hash w caller setting c blocks began p

  abbrev pub KnowsAt : Sweep → Sweeping → Type 0
  KnowsAt p stage = SweepingFacts same hash w caller setting c blocks began p stage

  -- it tells how far it is
  pub telling_after : (p : Sweep) → Knows p → After (telling p)
  telling_after p f = by p.stands
    where
      by : (stage : Sweeping) → After (p, told stage)
      by at.Reads = f
      by at.Follows = f
      by (at.Copies copier) = f
      by at.Ready = f
      by at.Words = f
      by (at.Asks word) = f
      by (at.Tries word) = f
      by (at.Counts removed) = f
      by (at.Disposes dispose) = f
      by at.Over = f
      by (at.Refused fault) = f

  module _ (map : IsMapIn same hash setting w c blocks) (p : Sweep) (setting_is : p.setting ≡ setting) (idle : IsIdle same hash w caller setting c blocks) where
    -- it stands elsewhere
    pub on_at : (stage : Sweeping) → KnowsAt (standing p stage) stage → Knows (standing p stage)
    on_at stage point = record { setting_is = setting_is; idle = λ rests. idle; point = point }

    -- it begins to go over a table
    pub begins_over : (table : Table) (t : ℕ) → IsTable c blocks table t → WasRoot same hash w caller setting c blocks began t → Knows (beginning (record p { table = table }))
    begins_over table t entered root = by p.purpose refl
      where
        over : (purpose : Purpose) (stage : Sweeping)
            → GoesOver same hash w caller setting c blocks began (record p { purpose = purpose; table = table; place = 0; met = false; stands = stage }) t
        over purpose stage = record { table = entered; root = root; marks = λ e. absurd (cc e) }

        some : 0 < c.len t
        some = (map.map.rule.common.lens t entered.made).0

        by : (x : Purpose) → p.purpose ≡ x → Knows (record p { purpose = x; table = table; place = 0; met = false; stands = if removes x then at.Words else at.Ready })
        by Walks e = record { setting_is = setting_is; idle = λ rests. idle; point = (refl, inr (t, over Walks at.Ready, omega arith)) }
        by Clears e = record { setting_is = setting_is; idle = λ rests. idle; point = (t, (over Clears at.Words, some)) }
        by Retains e = record { setting_is = setting_is; idle = λ rests. idle; point = (t, (over Retains at.Words, some)) }

    -- it has come to a table
    pub enters : (table : Table) (t : ℕ) → IsTable c blocks table t → WasRoot same hash w caller setting c blocks began t → Knows (entering p table)
    enters table t entered root = by (is_incremental p.setting.mode)
      where
        by : (b : Bool) → Knows (if b then record p { table = table; stands = at.Follows } else beginning (record p { table = table }))
        by true = record { setting_is = setting_is; idle = λ rests. idle; point = (t, entered, root) }
        by false = begins_over table t entered root

    module _ (t : ℕ) (over : GoesOver same hash w caller setting c blocks began p t) (inside : p.place < c.len t) where
      len_is : p.table.len ≡ c.len t
      len_is = ap (λ (x : Table). x.len) over.table.is

      next_is : (p.place + 1) % 2 ^ 64 ≡ suc p.place
      next_is = let sized = (map.map.shows.sized t over.table.made).most in omega (arith, inside, sized)

      -- the place is behind it
      moved_over : (marked : Bool) → (marked ≡ true → suc t < c.past) → (stage : Sweeping)
          → GoesOver same hash w caller setting c blocks began (record p { place = (p.place + 1) % 2 ^ 64; met = marked; stands = stage }) t
      moved_over marked marks stage = record { table = over.table; root = over.root; marks = marks }

      further_in : (marked : Bool) → (marked ≡ true → suc t < c.past) → Knows (further (record p { met = marked }))
      further_in marked marks = by (nat_lt ((p.place + 1) % 2 ^ 64) p.table.len) (removes p.purpose && marked) refl
        where
          by : (more again : Bool) → nat_lt ((p.place + 1) % 2 ^ 64) p.table.len ≡ more
              → Knows (record p { place = (p.place + 1) % 2 ^ 64; met = marked; stands = if more then at.Words else (if again then at.Follows else at.Over) })
          by true again more = record {
            setting_is = setting_is;
            idle = λ rests. idle;
            point = (t, (moved_over marked marks at.Words, (let l = ltb-true ((p.place + 1) % 2 ^ 64) p.table.len more in omega (arith, l, len_is))));
          }
          by false true none = record { setting_is = setting_is; idle = λ rests. idle; point = (t, over.table, over.root) }
          by false false none = record { setting_is = setting_is; idle = λ rests. idle; point = tt }

      pub goes_further : Knows (further p)
      goes_further = further_in p.met over.marks

      -- it has read the word of its place
      module _ (word : ℕ) (word_is : word ≡ place_word hash c blocks (c.place t p.place)) where
        pub is_pair : block_in word ≢ 0 → (n : ℕ) × (phase : Phase) × (borrowed : Bool) × (c.place t p.place ≡ Holds n phase borrowed)
        is_pair some = word-pair blocks.pair (λ o. byte_of hash (c.key o)) (c.place t p.place) (omega (arith, some, word_is))

        pub mark_is : has_mark word COPYING ≡ is_marked (c.place t p.place)
        mark_is = ap (λ (x : ℕ). has_mark x COPYING) word_is ∙ has_copying blocks.pair (λ o. byte_of hash (c.key o)) (c.place t p.place)

        pub still_of : (n : ℕ) (phase : Phase) (borrowed : Bool) → c.place t p.place ≡ Holds n phase borrowed → has_mark word COPYING ≡ false → phase ≡ Still
        still_of n Still borrowed stands unmarked = refl
        still_of n Copying borrowed stands unmarked = absurd (let m = mark_is in cc (m, stands, unmarked))
        still_of n Copied borrowed stands unmarked = absurd (let m = mark_is in cc (m, stands, unmarked))

        names : block_in word ≢ 0 → has_mark word COPYING ≡ false → NamesStill same hash w caller setting c blocks began word
        names some unmarked =
            let pair = is_pair some in
            let still = still_of pair.0 pair.1 pair.2 pair.3 unmarked in (
              pair.0,
              pair.2,
              (map.map.rule.common.keyed t p.place pair.0 pair.1 pair.2 pair.3).0,
              map.map.shows.named t p.place pair.0 pair.1 pair.2 over.table.made over.table.known pair.3,
              word_is ∙ ap (place_word hash c blocks) pair.3 ∙ ap (λ (x : Phase). place_word hash c blocks (Holds pair.0 x pair.2)) still,
            )

        shows_pair : (purpose : Purpose) → p.purpose ≡ purpose → (removes purpose ≡ true → has_mark word COPYING ≡ false) → block_in word ≢ 0 → After (at_pair purpose p word)
        shows_pair Walks is unmarked some =
            record { setting_is = setting_is; idle = λ rests. idle; point = (is, inr (t, moved_over p.met over.marks at.Ready, (let n = next_is in omega (arith, inside, n)))) }
        shows_pair Clears is unmarked some = on_at (at.Tries word) (ap removes is, names some (unmarked refl), t, (record { table = over.table; root = over.root; marks = over.marks }, inside))
        shows_pair Retains is unmarked some = on_at (at.Asks word) (is, names some (unmarked refl), t, (record { table = over.table; root = over.root; marks = over.marks }, inside))

        pub seen_after : After (seen p word)
        seen_after = by (removes p.purpose) (has_mark word COPYING) (block_in word == 0) refl refl refl
          where
            by : (r m z : Bool) → removes p.purpose ≡ r → has_mark word COPYING ≡ m → (block_in word == 0) ≡ z
                → After (if r && m then telling (further (record p { met = true })) else (if z then telling (further p) else at_pair p.purpose p word))
            by true true z removes_is marked zero =
                telling_after (further (record p { met = true }))
                (further_in true (λ e. has_next same hash c began t (is_incremental setting.mode) map.map.rule over.table.made (upto same hash caller setting w c blocks began map t over.root)
                p.place inside (let is = mark_is in cc (is, marked))))
            by true false true removes_is marked zero = telling_after (further p) goes_further
            by true false false removes_is marked zero = shows_pair p.purpose refl (λ e. marked) (eqb-false (block_in word) 0 zero)
            by false m true removes_is marked zero = telling_after (further p) goes_further
            by false m false removes_is marked zero = shows_pair p.purpose refl (λ e. absurd (cc (e, removes_is))) (eqb-false (block_in word) 0 zero)
