-- A sweep that removes pairs, from question to question: while its map has one table at most, it is not refused.
use Rattle.std.specs.Prelude.{◌≡◌, ℕ, Bool, true, List, Result, Ok, Err, IfErr, IsOk}
use Rattle.std.proofs.Common.{refl, sym, subst}
use denote.Ref.{Bor}
use Rattle.seize_words.specs.OneMemory.Mem.{Mem}
use Rattle.seize_words.specs.declared.fault.Fault.{Fault}
use Rattle.map_tables.specs.declared.node.Node.{Node}
use Rattle.map_tables.specs.declared.setting.Setting.{Setting}
use Rattle.papaya_raw.specs.Given.SweepsSweepPoints.{removes}
use Rattle.papaya_raw.specs.Given.ReservesDeclared.sweep.Purpose.{Purpose}
use Rattle.owner_calls.specs.Given.RuleChart.{Chart}
use Rattle.owner_calls.specs.Given.RuleWords.{Blocks, root_word}
use Rattle.owner_calls.specs.Given.CallersOverAll.{CallOverAll, begun_over_all, come_to}
use Rattle.owner_calls.specs.Given.CallersTogether.{in_slot}
use Rattle.owner_calls.proofs.Given.WholeSweeps.Leads.{sweeps_go_on_alone}
use Rattle.owner_calls.specs.Given.StridesEnding.{RunsTo}
use Rattle.owner_calls.specs.Owned.Owned.{Holds}
use Rattle.owner_calls.specs.Sifts.Sweeping.{IsSweeping, over_pairs_plan, swept_by}
use Rattle.owner_calls.specs.declared.sweeping.OverPairs.{OverPairs}
use Rattle.owner_calls.specs.declared.sweeping.Pause.{Pause}
use Rattle.owner_calls.proofs.Sifts.Along.Sweeps.{StepsKeep, RepliesKeep, stopped_along}
use Rattle.owner_asks.proofs.Steady.Ends.{EndsAt, ends_at, shows_one}
use Rattle.owner_asks.proofs.Steady.Sweeps.Kept.{sweep_keeps}
use Rattle.owner_asks.proofs.Steady.Sweeps.Points.{IsDone, IsSteady, comes_steady, told_steady}
use Rattle.owner_asks.specs.Steady.Steady.{HasOneTable, SweepsAreSteady}

module _ {K V S : Type 0} (same : K → K → Bool) (hashes : S → K → ℕ) (b : Bor S) (setting : Setting) (m0 : Mem (Node K V)) (xs : List (K × V)) (h : Holds same (hashes b.now) setting m0 xs)
    (one : HasOneTable setting m0) where
  abbrev hash : K → ℕ
  hash = hashes b.now

  abbrev slot_of : ℕ → ℕ
  slot_of i = setting.slot

  -- where the root leads all the while
  abbrev link : ℕ
  link = root_word hash h.chart h.blocks

  -- it stands at such a point, and the map is over the same tables
  abbrev Keeps : CallOverAll → Mem (Node K V) → Chart K → Blocks → Type 0
  Keeps o m c blocks = EndsAt setting link m × IsSteady setting link o.sweep

  -- it is never refused
  abbrev Refuses : Mem (Node K V) → Fault → Type 0
  Refuses m fault = ⊥

  steps : StepsKeep same hashes b setting m0 xs h Keeps Refuses
  steps w c blocks sights o alone here m2 p2 end s =
      let l = (sweeps_go_on_alone {Q = K} same hash same setting slot_of h.lawful h.initial w c blocks sights o alone).1 m2 p2 end s in
      let steady = comes_steady setting link hash w.memory m2 here.0 o.sweep here.1 (p2, end) s in
      record {
        w2 = l.w2;
        c2 = l.c2;
        blocks2 = l.blocks2;
        sights2 = l.sights2;
        o2 = come_to o l.entered2 l.done2 p2;
        sweep = refl;
        memory = l.memory;
        leads = l.leads;
        kept = (sweep_keeps {Q = K} same hash same setting slot_of h.lawful h.initial w c blocks sights o alone link here.0 here.1.1 m2 p2 end s, steady.0);
        refuses = λ fault is. subst IsDone is steady.1;
      }

  replies : RepliesKeep same hashes b setting m0 xs h Keeps Refuses
  replies m c blocks o here n keeps = (here.0, told_steady setting link o.sweep here.1 keeps)

  never_refused : (result : Result Pause Fault) → IfErr result (λ fault. ⊥) → IsOk (swept_by result)
  never_refused (Ok end) none = refl
  never_refused (Err fault) none = absurd none

  stays_steady : (purpose : Purpose) → removes purpose ≡ true → (x : OverPairs S) (m : Mem (Node K V)) → IsSweeping hashes b setting purpose m0 x m → (x2 : OverPairs S) (m2 : Mem (Node K V)) (result : Result Pause Fault)
      → RunsTo (over_pairs_plan {K = K} {V = V} hashes) x m x2 m2 result → IsOk (swept_by result) × HasOneTable setting m2
  stays_steady purpose removing x m is x2 m2 result runs =
      let at_end = stopped_along same hashes b setting m0 xs h Keeps Refuses steps replies purpose first x m is x2 m2 result runs in (never_refused result at_end.1, shows_one setting link m2 at_end.0.3.0)
    where
      linked : EndsAt setting link m0
      linked =
          subst (EndsAt setting link) h.memory
          (ends_at same hash setting h.chart h.blocks h.world h.rests.together.ground.map (subst (HasOneTable setting) (sym h.memory) one))

      first : Keeps (begun_over_all h.chart.now (in_slot setting setting.slot) purpose) m0 h.chart h.blocks
      first = (linked, (record { removing = removing; bits = h.incremental; root_is = refl }, tt))

pub sweeps_are_steady : (K V S : Type 0) → SweepsAreSteady K V S
sweeps_are_steady K V S same hashes b setting m0 xs h one purpose removing m result ran =
    subst (λ (r : Result Unit Fault). IsOk r × HasOneTable setting m) (sym ran.6) (stays_steady same hashes b setting m0 xs h one purpose removing ran.0 ran.1 ran.2 ran.3 m ran.4 ran.5)
