-- A map that begins rests; and where a call has answered, the shards say how many pairs the map has.
use Rattle.std.specs.Prelude.{◌≡◌, ℕ, Bool, None}
use Rattle.std.proofs.Common.{inl, inr, refl, subst}
use Rattle.map_tables.specs.Chunks.{is_incremental}
use Rattle.map_tables.specs.declared.setting.Setting.{Setting}
use Rattle.papaya_raw.specs.declared.machines.answer.KeyAnswer.{KeyAnswer}
use Rattle.papaya_raw.specs.declared.machines.answer.KeyAnswer.TheVariants as answers
use Rattle.map_measures.specs.Given.RuleChart.{Chart}
use Rattle.map_measures.specs.Given.RuleWords.{Blocks}
use Rattle.owner_facts.specs.Given.PointsFactsCalls.{Change, Unchanged}
use Rattle.owner_facts.specs.Alone.Counted.{HasAdded, counted_for}
use Rattle.owner_facts.specs.Alone.Alone.{HasChanged}
use Rattle.owner_facts.proofs.Alone.Lone.Beside.{rests_first}
use Rattle.owner_facts.proofs.Alone.Shards.PairsChanged.{counted_then, counted_unchanged}
use Rattle.map_measures.specs.Given.CallersSince.{WasSo}
use Rattle.owner_facts.specs.Given.CallersTogether.{in_slot}
use Rattle.owner_facts.proofs.Given.CallersTogether.MapStands.{map_begins_together}
use Rattle.owner_whole.specs.Whole.Whole.{MapBeginsQuiescent, CountsAtEnd, CountsWhereUnchanged}

-- an answer that was so at a moment counts nothing
looks : {K : Type 0} (hash : K → ℕ) (c : Chart K) (seen : Blocks) (keys : K → Bool) (m : ℕ) (answer : KeyAnswer) → WasSo hash c seen keys m answer → counted_for answer ≡ 0
looks hash c seen keys m (answers.Found word) so = refl
looks hash c seen keys m answers.Absent so = refl
looks hash c seen keys m (answers.Stored word) so = absurd so
looks hash c seen keys m (answers.Replaced old new) so = absurd so
looks hash c seen keys m (answers.Removed word) so = absurd so

changed_here : {K : Type 0} (same : K → K → Bool) (hash : K → ℕ) (setting : Setting) (slot : ℕ) (keys : K → Bool) (c0 c : Chart K) (change : Change)
    → HasChanged same hash setting keys c0 c change → HasChanged same hash (in_slot setting slot) keys c0 c change
changed_here same hash setting slot keys c0 c change h = record { changes = h.changes; lasts = h.lasts; stored = h.stored }

module _ {K V Q : Type 0} (same : K → K → Bool) (hash : K → ℕ) (asks : Q → K → Bool) (setting : Setting) (slot : ℕ → ℕ) where
  pub map_begins_at_rest : MapBeginsQuiescent V same hash asks setting slot
  map_begins_at_rest w came root counter shards making rows inside = record {
    calls = λ i. None;
    none = λ i. refl;
    together = map_begins_together V same hash asks setting slot w (λ i. None) (λ i. refl) came root counter shards making;
    rows = rows;
    inside = inside;
    alone = rests_first K (is_incremental setting.mode) 0;
  }

  pub counts_at_end : CountsAtEnd V same hash asks setting slot
  counts_at_end w c seen map m0 c0 rule0 u changed answer (fits, inl (none, so, leaves)) added was =
      counted_unchanged same hash (in_slot setting (slot 0)) asks u.keys c0 rule0 w c seen map m0 u.change (changed_here same hash setting (slot 0) u.keys c0 c u.change changed) none
      (subst (λ (n : ℕ). HasAdded setting m0 n w.memory) (looks hash c seen u.keys so.0 answer so.3) added) was
  counts_at_end w c seen map m0 c0 rule0 u changed answer (fits, inr (made, tells, stores)) added was =
      counted_then same hash (in_slot setting (slot 0)) asks u.keys c0 rule0 w c seen map m0 u.change answer (changed_here same hash setting (slot 0) u.keys c0 c u.change changed) (inr tells) added was

pub counts_where_unchanged : {K : Type 0} (V : Type 0) (same : K → K → Bool) (hash : K → ℕ) (setting : Setting) → CountsWhereUnchanged V same hash setting
counts_where_unchanged {K} V same hash setting w c blocks map m0 c0 rule0 keys changed added was =
    counted_unchanged {Q = K} same hash setting same keys c0 rule0 w c blocks map m0 Unchanged changed refl added was
