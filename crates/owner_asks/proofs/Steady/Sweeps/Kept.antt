-- A sweep that removes pairs, and is alone: a step of it, be it its own or one of a row of the collector, leaves the map with one table at most.
use Rattle.std.specs.Prelude.{◌≡◌, ◌≢◌, ℕ, Bool, false, bit_and}
use Rattle.std.specs.Int.{IsPowerOfTwo}
use Rattle.std.proofs.Common.{refl, sym, subst, inl, inr}
use Rattle.seize_words.specs.OneMemory.Mem.{Mem, Can, Took, value_at, same_at}
use Rattle.seize_words.specs.OneMemory.Plan.{May, Steps}
use Rattle.seize_words.specs.OneMemory.Word.{block_in}
use Rattle.seize_words.specs.declared.at.At.{At}
use Rattle.seize_words.specs.declared.at.At.TheVariants.{Root, Word}
use Rattle.papaya_raw.specs.Given.SeizeWorld.{World}
use Rattle.map_tables.specs.Counts.{shard_of}
use Rattle.map_tables.specs.TablePlaces.{at_place}
use Rattle.map_tables.specs.declared.node.Node.{Node}
use Rattle.map_tables.specs.declared.setting.Setting.{Setting}
use Rattle.map_tables.specs.declared.table_words.TheConstants.{NEXT}
use Rattle.owner_calls.specs.Given.ResizeDispose.{dispose_plan}
use Rattle.papaya_raw.specs.Given.SweepsSweep.{disposed, plan_at, sweep_plan}
use Rattle.papaya_raw.specs.Given.ReservesDeclared.sweep.Sweep.{Sweep}
use Rattle.papaya_raw.specs.Given.ReservesDeclared.sweep.Sweeping.{Sweeping}
use Rattle.papaya_raw.specs.Given.ReservesDeclared.sweep.Sweeping.TheVariants as at
use Rattle.papaya_raw.specs.Given.ReservesDeclared.sweep.Swept.{Swept}
use Rattle.owner_calls.specs.Given.RuleChart.{Chart}
use Rattle.owner_calls.specs.Given.RuleInWorld.{IsMapIn}
use Rattle.owner_calls.specs.Given.RuleWords.{Blocks}
use Rattle.owner_calls.specs.Given.PointsSteps.{AreLawful}
use Rattle.owner_calls.specs.Given.LateFactsSweeps.{SweepingFacts, SweepFacts}
use Rattle.owner_calls.specs.Given.LateToldSweeps.{IsRowOfSweep}
use Rattle.owner_calls.specs.Given.CallersOverAll.{CallOverAll}
use Rattle.owner_calls.specs.Given.CallersSights.{Visible}
use Rattle.owner_calls.specs.Given.CallersTogether.{OverAll}
use Rattle.owner_calls.specs.Given.WholeOwner.{IsAlone}
use Rattle.owner_calls.proofs.Given.RuleSpared.{PlanSpares, spares_as}
use Rattle.owner_calls.proofs.Given.WholeSweeps.Leads.{sweep_decided}
use Rattle.owner_calls.proofs.Given.WholeSweeps.Own as own
use Rattle.owner_calls.proofs.Given.WholeSweeps.Rows as rows
use Rattle.owner_asks.proofs.Steady.Ends.{EndsAt, disposal_spares, ends_on, ends_spared, no_place, no_shard}
use Rattle.owner_asks.proofs.Steady.Sweeps.Points.{StandsSo}

module _ {K V : Type 0} (same : K → K → Bool) (hash : K → ℕ) (setting : Setting) (w : World (Node K V)) (c : Chart K) (blocks : Blocks) (map : IsMapIn same hash setting w c blocks)
    (began : ℕ) (p : Sweep) (facts : SweepFacts same hash w 0 setting c blocks began p) (link : ℕ) (linked : EndsAt setting link w.memory) (so : StandsSo setting link p.table p.stands)
    (none : IsRowOfSweep p.stands → ⊥) where
  abbrev Facts : Sweeping → Type 0
  Facts stands = SweepingFacts same hash w 0 setting c blocks began p stands

  -- a word that is none of a place which it tries, and no shard, is written by none of its steps
  sweep_spares : (x : At) → ((word : ℕ) → Facts (at.Tries word) → same_at x (at_place p.table p.place) ≡ false) → same_at x (shard_of p.setting) ≡ false
      → (stands : Sweeping) → StandsSo setting link p.table stands → (IsRowOfSweep stands → ⊥) → Facts stands → PlanSpares x (plan_at {K = K} {V = V} hash p stands)
  sweep_spares x tries shard at.Reads t row f = tt
  sweep_spares x tries shard at.Over t row f = tt
  sweep_spares x tries shard at.Follows t row f = tt
  sweep_spares x tries shard at.Words t row f = tt
  sweep_spares x tries shard (at.Asks word) t row f = tt
  sweep_spares x tries shard (at.Tries word) t row f = tries word f
  sweep_spares x tries shard (at.Counts removed) t row f = shard
  sweep_spares x tries shard (at.Disposes dispose) t row f = spares_as x (disposed p) (dispose_plan dispose) (disposal_spares K V x dispose dispose.stands row)
  sweep_spares x tries shard at.Ready t row f = absurd t
  sweep_spares x tries shard (at.Copies copier) t row f = absurd t
  sweep_spares x tries shard (at.Refused fault) t row f = absurd t

  other_shard : link ≢ 0 → same_at (Word (block_in link) NEXT) (shard_of p.setting) ≡ false
  other_shard some =
      subst (λ (its : Setting). same_at (Word (block_in link) NEXT) (shard_of its) ≡ false) (sym facts.setting_is) (no_shard same hash setting c blocks w map link linked some (bit_and setting.slot setting.mask))

  own_keeps : May Can Took value_at w.memory (sweep_plan hash p) → (m2 : Mem (Node K V)) (end : Sweep × Swept (Node K V)) → Steps Took value_at w.memory (sweep_plan hash p) m2 end → EndsAt setting link m2
  own_keeps may m2 end s =
      ends_spared setting link w.memory linked (sweep_plan hash p) (sweep_spares (Root setting.root) (λ word f. refl) refl p.stands so none facts.point)
      (λ some. sweep_spares (Word (block_in link) NEXT) (λ word f. no_place same hash setting w c blocks map link p.table f.2 f.3.0.table p.place f.3.1) (other_shard some) p.stands so none facts.point) may m2 end s

module _ {K V Q : Type 0} (same : K → K → Bool) (hash : K → ℕ) (asks : Q → K → Bool) (setting : Setting) (slot : ℕ → ℕ) (lawful : AreLawful same hash) (initial : IsPowerOfTwo setting.initial)
    (w : World (Node K V)) (c : Chart K) (blocks : Blocks) (sights : ℕ → Visible) (o : CallOverAll) (a : IsAlone {Q = Q} same hash asks setting slot w c blocks sights (OverAll o)) (link : ℕ)
    (linked : EndsAt setting link w.memory) (so : StandsSo setting link o.sweep.table o.sweep.stands) (m2 : Mem (Node K V)) (p2 : Sweep) (told : Swept (Node K V))
    (s : Steps Took value_at w.memory (sweep_plan hash o.sweep) m2 (p2, told)) where
  by_itself : (IsRowOfSweep o.sweep.stands → ⊥) → EndsAt setting link m2
  by_itself none =
      let here = own.here same hash asks setting slot lawful w c blocks sights o a in
      let knows = own.knows_here same hash asks setting slot lawful w c blocks sights o a none in
      let at_here = own_keeps same hash here w c (own.seen same hash asks setting slot lawful w c blocks sights o a) (own.map same hash asks setting slot lawful w c blocks sights o a) o.began o.sweep
      knows.knows.facts link (record { root = linked.root; last = linked.last }) so none (own.own_may same hash asks setting slot lawful w c blocks sights o a none initial) m2 (p2, told) s in
      record { root = at_here.root; last = at_here.last }

  by_row : IsRowOfSweep o.sweep.stands → EndsAt setting link m2
  by_row is_row =
      let now = rows.now same hash asks setting slot lawful w c blocks sights o a is_row in
      let led = rows.led same hash asks setting slot lawful w c blocks sights o a is_row m2 p2 told s in
      subst (EndsAt setting link) led.memory
      (ends_on same hash setting c blocks now.v now.together.ground.map led.w2 led.together.ground.map link (subst (EndsAt setting link) (sym now.memory) linked))

  pub sweep_keeps : EndsAt setting link m2
  sweep_keeps = elim (sweep_decided o.sweep.stands) as (λ _. EndsAt setting link m2) [
    | inl is_row ↦ by_row is_row
    | inr none ↦ by_itself none
  ]
