-- A call on a key that only removes, and is alone: a step of it, be it its own or one of a row of the collector, leaves the map with one table at most.
use Rattle.std.specs.Prelude.{◌≡◌, ◌≢◌, ℕ, ◌<◌, Bool, false, bit_and}
use Rattle.std.specs.Int.{IsPowerOfTwo}
use Rattle.std.proofs.Common.{refl, sym, subst, inl, inr, arith}
use Rattle.seize_words.specs.OneMemory.Mem.{Mem, Can, Took, value_at, same_at}
use Rattle.seize_words.specs.OneMemory.Plan.{May, Steps}
use Rattle.seize_words.specs.OneMemory.Word.{block_in}
use Rattle.seize_words.specs.declared.at.At.{At}
use Rattle.seize_words.specs.declared.at.At.TheVariants.{Root, Word}
use Rattle.papaya_raw.specs.Given.SeizeWorld.{World}
use Rattle.map_tables.specs.Trials.{place_tried}
use Rattle.map_tables.specs.declared.node.Node.{Node}
use Rattle.map_tables.specs.declared.setting.Setting.{Setting}
use Rattle.map_tables.specs.declared.table_words.TheConstants.{NEXT}
use Rattle.owner_calls.specs.Given.ResizeDispose.{dispose_plan}
use Rattle.papaya_raw.specs.Call.{call_plan, disposed, plan_at}
use Rattle.papaya_raw.specs.declared.machines.answer.Called.{Called}
use Rattle.papaya_raw.specs.declared.machines.answer.End.TheVariants as ends
use Rattle.papaya_raw.specs.declared.machines.asking.Asking.TheVariants as asking
use Rattle.papaya_raw.specs.declared.machines.call.Calling.{Calling}
use Rattle.papaya_raw.specs.declared.machines.call.Calling.TheVariants as at
use Rattle.papaya_raw.specs.declared.machines.call.KeyCall.{KeyCall}
use Rattle.owner_calls.specs.Given.RuleChart.{Chart}
use Rattle.owner_calls.specs.Given.RuleInWorld.{IsMapIn}
use Rattle.owner_calls.specs.Given.RuleWords.{Blocks}
use Rattle.owner_calls.specs.Given.PointsFactsCalls.{Change, CallingFacts, CallFacts}
use Rattle.owner_calls.specs.Given.PointsSteps.{AreLawful}
use Rattle.owner_calls.specs.Given.PointsTold.{IsRowOfCall}
use Rattle.owner_calls.specs.Given.CallersSights.{Visible}
use Rattle.owner_calls.specs.Given.CallersTogether.{CallOnKey, OnKey}
use Rattle.owner_calls.specs.Given.WholeOwner.{IsAlone}
use Rattle.owner_calls.proofs.Given.RuleKeys.TriesSeen.{spot_inside}
use Rattle.owner_calls.proofs.Given.RuleSpared.{PlanSpares, spares_as}
use Rattle.owner_calls.proofs.Given.WholeKeys.Own as own
use Rattle.owner_calls.proofs.Given.WholeRows.Kinds.{row_decided}
use Rattle.owner_calls.proofs.Given.WholeRows.Steps as rows
use Rattle.owner_asks.proofs.Steady.Ends.{EndsAt, disposal_spares, ends_on, ends_spared, no_place, no_shard}
use Rattle.owner_asks.proofs.Steady.Calls.Points.{StandsSo}

module _ {K V Q : Type 0} (same : K → K → Bool) (hash : K → ℕ) (asks : Q → K → Bool) (setting : Setting) (w : World (Node K V)) (c : Chart K) (blocks : Blocks) (map : IsMapIn same hash setting w c blocks)
    (keys : K → Bool) (change : Change) (p : KeyCall K V Q) (facts : CallFacts same hash asks w 0 setting c blocks keys change p) (link : ℕ) (linked : EndsAt setting link w.memory)
    (so : StandsSo setting link p.trial.table p.stands) (none : IsRowOfCall p.stands → ⊥) where
  abbrev Facts : Calling → Type 0
  Facts stands = CallingFacts same hash asks w 0 setting c blocks keys change p stands

  -- a word that is none of a place which it tries, and no shard, is written by none of its steps
  call_spares : (x : At) → ((word new : ℕ) → Facts (at.Tries word new) → same_at x (place_tried p.trial) ≡ false) → same_at x (Word p.setting.counter (bit_and p.setting.slot p.setting.mask)) ≡ false
      → (stands : Calling) → StandsSo setting link p.trial.table stands → (IsRowOfCall stands → ⊥) → Facts stands → PlanSpares x (plan_at asks same hash p stands)
  call_spares x tries shard at.Roots t row f = tt
  call_spares x tries shard at.Probes t row f = tt
  call_spares x tries shard (at.Tries word new) t row f = tries word new f
  call_spares x tries shard at.Nexts t row f = tt
  call_spares x tries shard (at.Counts removed) t row f = shard
  call_spares x tries shard (at.Asks (asking.Present word)) t row f = tt
  call_spares x tries shard (at.Disposes dispose answer) t row f = spares_as x (disposed p answer) (dispose_plan dispose) (disposal_spares K V x dispose dispose.stands row)
  call_spares x tries shard (at.Over (ends.Answered answer)) t row f = tt
  call_spares x tries shard (at.Over (ends.Refused fault)) t row f = absurd t
  call_spares x tries shard (at.Asks (asking.Absent gap)) t row f = absurd t
  call_spares x tries shard (at.Asks (asking.Fills word)) t row f = absurd t
  call_spares x tries shard (at.Asks (asking.GivesUp word)) t row f = absurd t
  call_spares x tries shard at.Makes t row f = absurd t
  call_spares x tries shard (at.Looks lookup) t row f = absurd t
  call_spares x tries shard (at.Firsts making) t row f = absurd t
  call_spares x tries shard (at.Allocs making) t row f = absurd t
  call_spares x tries shard (at.Helps copier goal) t row f = absurd t
  call_spares x tries shard (at.Copies copier) t row f = absurd t
  call_spares x tries shard (at.Drops e) t row f = absurd t

  -- the place that it tries is one of a table
  other_place : (word new : ℕ) → Facts (at.Tries word new) → same_at (Word (block_in link) NEXT) (place_tried p.trial) ≡ false
  other_place word new f =
      let t = f.2.0 in let trial = f.2.2 in let some : 0 < c.len t = (let least = (map.map.shows.sized t trial.table.made).least in omega (arith, least)) in
      no_place same hash setting w c blocks map link p.trial.table t trial.table p.trial.probe.i (subst (λ (i : ℕ). i < c.len t) (sym trial.place) (spot_inside (c.len t) p.hash f.2.1 some))

  other_shard : link ≢ 0 → same_at (Word (block_in link) NEXT) (Word p.setting.counter (bit_and p.setting.slot p.setting.mask)) ≡ false
  other_shard some =
      subst (λ (its : Setting). same_at (Word (block_in link) NEXT) (Word its.counter (bit_and its.slot its.mask)) ≡ false) (sym facts.setting_is)
      (no_shard same hash setting c blocks w map link linked some (bit_and setting.slot setting.mask))

  own_keeps : May Can Took value_at w.memory (call_plan asks same hash p) → (m2 : Mem (Node K V)) (end : KeyCall K V Q × Called (Node K V)) → Steps Took value_at w.memory (call_plan asks same hash p) m2 end
      → EndsAt setting link m2
  own_keeps may m2 end s =
      ends_spared setting link w.memory linked (call_plan asks same hash p) (call_spares (Root setting.root) (λ word new f. refl) refl p.stands so none facts.point)
      (λ some. call_spares (Word (block_in link) NEXT) other_place (other_shard some) p.stands so none facts.point) may m2 end s

module _ {K V Q : Type 0} (same : K → K → Bool) (hash : K → ℕ) (asks : Q → K → Bool) (setting : Setting) (slot : ℕ → ℕ) (lawful : AreLawful same hash) (initial : IsPowerOfTwo setting.initial)
    (w : World (Node K V)) (c : Chart K) (blocks : Blocks) (sights : ℕ → Visible) (u : CallOnKey K V Q) (a : IsAlone same hash asks setting slot w c blocks sights (OnKey u)) (link : ℕ)
    (linked : EndsAt setting link w.memory) (so : StandsSo setting link u.call.trial.table u.call.stands) (m2 : Mem (Node K V)) (p2 : KeyCall K V Q) (told : Called (Node K V))
    (s : Steps Took value_at w.memory (call_plan asks same hash u.call) m2 (p2, told)) where
  by_itself : (IsRowOfCall u.call.stands → ⊥) → EndsAt setting link m2
  by_itself none =
      let here = own.here same hash asks setting slot lawful w c blocks sights u a in
      let at_here = own_keeps same hash asks here w c (own.seen same hash asks setting slot lawful w c blocks sights u a) (own.map same hash asks setting slot lawful w c blocks sights u a) u.keys u.change u.call
      (own.knows_here same hash asks setting slot lawful w c blocks sights u a none).2 link (record { root = linked.root; last = linked.last }) so none
      (own.own_may same hash asks setting slot lawful w c blocks sights u a none initial) m2 (p2, told) s in
      record { root = at_here.root; last = at_here.last }

  by_row : IsRowOfCall u.call.stands → EndsAt setting link m2
  by_row is_row =
      let now = rows.now same hash asks setting slot lawful w c blocks sights u a is_row in
      let led = rows.led same hash asks setting slot lawful w c blocks sights u a is_row m2 p2 told s in
      subst (EndsAt setting link) led.memory
      (ends_on same hash setting c blocks now.v now.together.ground.map led.w2 led.together.ground.map link (subst (EndsAt setting link) (sym now.memory) linked))

  pub call_keeps : EndsAt setting link m2
  call_keeps = elim (row_decided u.call.stands) as (λ _. EndsAt setting link m2) [
    | inl is_row ↦ by_row is_row
    | inr none ↦ by_itself none
  ]
