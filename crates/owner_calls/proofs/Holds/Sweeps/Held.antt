-- A sweep over one owner's map, from question to question: each pair that the map had as it began stands still in its block.
use Rattle.std.specs.Prelude.{◌≡◌, ℕ, ◌<◌, ◌≤◌, Bool, true, List, Result}
use Rattle.std.proofs.Common.{refl, sym, ◌∙◌, ap, arith}
use denote.Ref.{Bor}
use Rattle.seize_words.specs.OneMemory.Mem.{Mem, Took, value_at}
use Rattle.seize_words.specs.OneMemory.Plan.{Steps}
use Rattle.seize_words.specs.declared.fault.Fault.{Fault}
use Rattle.seize.specs.World.{World}
use Rattle.map_tables.specs.declared.node.Node.{Node}
use Rattle.map_tables.specs.declared.setting.Setting.{Setting}
use Rattle.papaya_raw.specs.Given.SweepsSweep.{sweep_plan}
use Rattle.papaya_raw.specs.Given.ReservesDeclared.sweep.Purpose.{Purpose}
use Rattle.papaya_raw.specs.Given.ReservesDeclared.sweep.Sweep.{Sweep}
use Rattle.papaya_raw.specs.Given.ReservesDeclared.sweep.Swept.{Swept}
use Rattle.map_straight.specs.Given.RuleChart.{Chart}
use Rattle.map_straight.specs.Given.RuleWords.{Blocks}
use Rattle.owner_whole.specs.Given.CallersOverAll.{CallOverAll, begun_over_all}
use Rattle.owner_whole.specs.Given.CallersSights.{Visible}
use Rattle.owner_whole.specs.Given.CallersTogether.{OverAll, in_slot}
use Rattle.owner_whole.proofs.Whole.Sweeps.Leads.{sweeps_go_on_alone}
use Rattle.owner_whole.specs.Whole.Owner.{IsAlone}
use Rattle.owner_whole.specs.Strides.Ending.{RunsTo}
use Rattle.owner_calls.specs.Owned.Owned.{Holds}
use Rattle.owner_calls.specs.Sifts.Sweeping.{IsSweeping, over_pairs_plan}
use Rattle.owner_calls.specs.declared.sweeping.OverPairs.{OverPairs}
use Rattle.owner_calls.specs.declared.sweeping.Pause.{Pause}
use Rattle.owner_calls.proofs.Sifts.Along.Sweeps.{StepsKeep, RepliesKeep, stopped_along}
use Rattle.owner_calls.proofs.Holds.Runs.Machines.{sweep_puts}
use Rattle.owner_calls.proofs.Holds.Runs.Puts.{puts_none}
use Rattle.owner_calls.proofs.Holds.Stood.{StandsStill, still_first, stood}
use Rattle.owner_calls.proofs.Holds.Sweeps.Looks.{Led, led_on}
use Rattle.owner_calls.specs.Holds.Came.{NoneCame, StayInPlace}
use Rattle.owner_calls.specs.Holds.Sweeps.{SweepsTakeNoneAway}

module _ {K V S : Type 0} (same : K → K → Bool) (hashes : S → K → ℕ) (b : Bor S) (setting : Setting) (m0 : Mem (Node K V)) (xs : List (K × V)) (h : Holds same (hashes b.now) setting m0 xs) where
  abbrev hash : K → ℕ
  hash = hashes b.now

  abbrev slot_of : ℕ → ℕ
  slot_of i = setting.slot

  abbrev AloneIn : World (Node K V) → Chart K → Blocks → (ℕ → Visible) → CallOverAll → Type 0
  AloneIn w c blocks sights o = IsAlone {Q = K} same hash same setting slot_of w c blocks sights (OverAll o)

  -- no pair has come, and what could be looked at as the map rested stands still
  abbrev IsHeld : Mem (Node K V) → Type 0
  IsHeld m = NoneCame m0 m × StandsStill same hash setting m0 xs h m

  -- what is so of the memory and of its map
  record Keeps (o : CallOverAll) (m : Mem (Node K V)) (c : Chart K) (blocks : Blocks) : Type 0 where
    pub stored : h.chart.stored ≤ c.stored
    pub looks : (n : ℕ) → n < h.chart.stored → h.blocks.pair_known n ≡ true → (blocks.pair_known n ≡ true) × (blocks.pair n ≡ h.blocks.pair n)
    pub held : IsHeld m

  -- it may be refused
  abbrev Refuses : Mem (Node K V) → Fault → Type 0
  Refuses m fault = Unit {0}

  module _ (w : World (Node K V)) (c : Chart K) (blocks : Blocks) (sights : ℕ → Visible) (o : CallOverAll) (alone : AloneIn w c blocks sights o) (here : Keeps o w.memory c blocks)
      (m2 : Mem (Node K V)) (p2 : Sweep) (end : Swept (Node K V)) (s : Steps Took value_at w.memory (sweep_plan hash o.sweep) m2 (p2, end)) where
    led : Led {Q = K} same hash same setting slot_of h.lawful w c blocks sights o alone m2 p2 end s
    led = led_on {Q = K} same hash same setting slot_of h.lawful w c blocks sights o alone m2 p2 end s h.initial

    still_then : StandsStill same hash setting m0 xs h m2
    still_then n low known =
        let l = here.looks n low known in
        let low2 : n < c.stored = (let more = here.stored in omega (arith, low, more)) in
        ap (value_at m2) (sym l.1) ∙ (led.looks n low2 l.0).2 ∙ ap (value_at w.memory) l.1 ∙ here.held.1 n low known

    held_then : IsHeld m2
    held_then =
        let may = (sweeps_go_on_alone {Q = K} same hash same setting slot_of h.lawful h.initial w c blocks sights o alone).0 in
        (λ n y there. here.held.0 n y (puts_none w.memory m2 (sweep_plan hash o.sweep) (p2, end) (sweep_puts K V hash o.sweep) may s n y there), still_then)

  steps : StepsKeep same hashes b setting m0 xs h Keeps Refuses
  steps w c blocks sights o alone here m2 p2 end s =
      let l = led w c blocks sights o alone here m2 p2 end s in
      record {
        w2 = l.w2;
        c2 = l.c2;
        blocks2 = l.blocks2;
        sights2 = l.sights2;
        o2 = l.o2;
        sweep = l.sweep;
        memory = l.memory;
        leads = l.leads;
        kept = record {
          stored = let more = here.stored in let less = l.stored in omega (arith, more, less);
          looks = λ n low known.
              let k = here.looks n low known in
              let j = l.looks n (let more = here.stored in omega (arith, low, more)) k.0 in (j.0, j.1 ∙ k.1);
          held = held_then w c blocks sights o alone here m2 p2 end s;
        };
        refuses = λ fault is. tt;
      }

  replies : RepliesKeep same hashes b setting m0 xs h Keeps Refuses
  replies m c blocks o here n keeps = record { stored = here.stored; looks = here.looks; held = here.held }

  pub take_none_away : (purpose : Purpose) (x : OverPairs S) (m : Mem (Node K V)) → IsSweeping hashes b setting purpose m0 x m → (x2 : OverPairs S) (m2 : Mem (Node K V)) (result : Result Pause Fault)
      → RunsTo (over_pairs_plan {K = K} {V = V} hashes) x m x2 m2 result → NoneCame m0 m2 × StayInPlace m0 m2 xs
  take_none_away purpose x m is x2 m2 result runs =
      let at_end = stopped_along same hashes b setting m0 xs h Keeps Refuses steps replies purpose first x m is x2 m2 result runs in
      let held = at_end.0.3.held in (held.0, stood same hash setting m0 xs h m2 held.1)
    where
      first : Keeps (begun_over_all h.chart.now (in_slot setting setting.slot) purpose) m0 h.chart h.blocks
      first = record {
        stored = omega arith;
        looks = λ n low known. (known, refl);
        held = ((λ n y there. there), still_first same hash setting m0 xs h);
      }

pub sweeps_take_none_away : (K V S : Type 0) → SweepsTakeNoneAway K V S
sweeps_take_none_away K V S same hashes b setting m0 xs h purpose x m is x2 m2 result runs = take_none_away same hashes b setting m0 xs h purpose x m is x2 m2 result runs
