-- What a retaining that is alone was told to remove, its try removes.
use Rattle.std.specs.Prelude.{◌≡◌, ◌≢◌, ℕ, ◌<◌, ◌==◌, ◌&&◌, ◌⊎◌, Bool, true, false, Some, if◌then◌else◌}
use Rattle.std.proofs.Common.{inl, inr, ap, sym, ◌∙◌}
use Rattle.seize_words.specs.OneMemory.Mem.{Mem, Took, value_at, word_at}
use Rattle.seize_words.specs.OneMemory.Plan.{Steps}
use Rattle.seize_words.specs.OneMemory.Word.{block_in}
use Rattle.seize_words.proofs.OneMemory.OneOwner.Operations.{exchanged}
use Rattle.seize.specs.World.{World}
use Rattle.map_tables.specs.Marks.{has_mark}
use Rattle.map_tables.specs.TablePlaces.{at_place}
use Rattle.map_tables.specs.declared.marks.TheConstants.{COPYING, TOMBSTONE}
use Rattle.map_tables.specs.declared.node.Node.{Node}
use Rattle.map_tables.specs.declared.setting.Setting.{Setting}
use Rattle.map_tables.specs.declared.table.Table.{Table}
use Rattle.papaya_raw.specs.Given.SweepsSweep.{tried, tries}
use Rattle.papaya_raw.specs.Given.SweepsSweepPoints.{removes, further, telling, going, at_pair, seen}
use Rattle.papaya_raw.specs.Given.ReservesDeclared.sweep.Purpose.{Purpose}
use Rattle.papaya_raw.specs.Given.ReservesDeclared.sweep.Purpose.TheVariants.{Walks, Clears, Retains}
use Rattle.papaya_raw.specs.Given.ReservesDeclared.sweep.Sweep.{Sweep}
use Rattle.papaya_raw.specs.Given.ReservesDeclared.sweep.Sweeping.TheVariants as at
use Rattle.papaya_raw.specs.Given.ReservesDeclared.sweep.Swept.{Swept}
use Rattle.map_measures.specs.Given.RuleChart.{Chart}
use Rattle.map_measures.specs.Given.RuleWords.{Blocks, place_word}
use Rattle.map_measures.specs.Given.RuleInWorld.{IsMapIn}
use Rattle.map_measures.proofs.Given.RuleWords.TablesSeen.{place_there}
use Rattle.owner_facts.specs.Given.LateFactsSweeps.{GoesOver}
use Rattle.owner_facts.proofs.Given.LateSwept.Sweeps.Moved.{Sees, Removing}
use Rattle.owner_whole.specs.Whole.LoneSweeps.{LiesThere}
use Rattle.owner_whole.proofs.Whole.Sweeps.Over.{further_by}

-- a sweep that has read the word of its place is not to count
pub seen_counts : (T : Type 0) (p : Sweep) (word removed : ℕ) → (seen {T = T} p word).0.stands ≢ at.Counts removed
seen_counts T p word removed = by (removes p.purpose && has_mark word COPYING) (block_in word == 0)
  where
    pair_counts : (purpose : Purpose) → (at_pair {T = T} purpose p word).0.stands ≢ at.Counts removed
    pair_counts Walks e = cc e
    pair_counts Clears e = cc e
    pair_counts Retains e = cc e

    by : (m z : Bool) → (if m then telling {T = T} (further (record p { met = true })) else (if z then telling (further p) else at_pair p.purpose p word)).0.stands ≢ at.Counts removed
    by true z = further_by (λ x. x ≢ at.Counts removed) (record p { met = true }) (λ e. cc e) (λ e. cc e) (λ e. cc e)
    by false true = further_by (λ x. x ≢ at.Counts removed) p (λ e. cc e) (λ e. cc e) (λ e. cc e)
    by false false = pair_counts p.purpose

module _ {K V : Type 0} (same : K → K → Bool) (hash : K → ℕ) (b : Bool) (setting : Setting) (began : ℕ) (w : World (Node K V)) (c : Chart K) (blocks : Blocks) (map : IsMapIn same hash setting w c blocks)
    (p : Sweep) (t : ℕ) (over : GoesOver same hash w 0 setting c blocks began p t) (inside : p.place < c.len t) (word : ℕ) (there : LiesThere hash b c blocks p word)
    (m2 : Mem (Node K V)) (end : Sweep × Swept (Node K V)) (steps : Steps Took value_at w.memory (tries p word) m2 end) where
  -- the word that it expects is there
  word_there : word_at w.memory (at_place p.table p.place) ≡ Some word
  word_there =
      place_there hash w.memory c blocks setting.root map.map.shows p.table t over.table p.place inside
      ∙ ap (λ (x : ℕ). Some x)
      (ap (place_word hash c blocks) (ap (λ (x : ℕ). c.place x p.place) (ap (λ (x : Table). x.turn) (sym over.table.is)) ∙ there.2) ∙ sym there.3)

  -- and so it goes on to count
  counts_then : end ≡ going p (at.Counts word)
  counts_then = elim (exchanged w.memory (tried p word) (at_place p.table p.place) word TOMBSTONE m2 end steps) as (λ _. end ≡ going p (at.Counts word)) [
    | inl d ↦ d.3
    | inr d ↦ absurd (d.1.1 (let e = d.1.0 in let f = word_there in cc (e, f)))
  ]

  pub tried_removes : (c2 : Chart K) → ((c2 ≡ c) × Sees same hash 0 setting began w c blocks p end) ⊎ Removing same hash 0 setting began w c blocks p word end c2 → Removing same hash 0 setting began w c blocks p word end c2
  tried_removes c2 (inr removing) = removing
  tried_removes c2 (inl (e, (u, here, is))) =
      absurd (seen_counts (Node K V) p (place_word hash c blocks (c.place u p.place)) word (ap (λ (x : Sweep × Swept (Node K V)). x.0.stands) (sym is ∙ counts_then)))
