-- A sweep over one owner's map, from question to question: what each step and each reply keeps is so all the while.
use Rattle.std.specs.Prelude.{◌≡◌, ℕ, Bool, List, Result, Ok, Err, IfErr}
use Rattle.std.proofs.Common.{refl, sym, ◌∙◌, ap, subst}
use denote.Ref.{Bor}
use Rattle.seize_words.specs.OneMemory.Mem.{Mem, Took, value_at}
use Rattle.seize_words.specs.OneMemory.Plan.{Steps}
use Rattle.seize_words.specs.declared.fault.Fault.{Fault}
use Rattle.seize.specs.World.{World}
use Rattle.seize.specs.declared.advance.Advance.{Advance}
use Rattle.map_tables.specs.declared.node.Node.{Node}
use Rattle.map_tables.specs.declared.setting.Setting.{Setting}
use Rattle.papaya_raw.specs.Given.SweepsSweep.{sweep_plan}
use Rattle.papaya_raw.specs.Given.SweepsSweepPoints.{sweeping, after_reply}
use Rattle.papaya_raw.specs.Given.ReservesDeclared.sweep.Purpose.{Purpose}
use Rattle.papaya_raw.specs.Given.ReservesDeclared.sweep.Sweep.{Sweep}
use Rattle.papaya_raw.specs.Given.ReservesDeclared.sweep.Sweeping.TheVariants as at
use Rattle.papaya_raw.specs.Given.ReservesDeclared.sweep.Swept.{Swept}
use Rattle.papaya_raw.specs.Given.ReservesDeclared.sweep.Swept.TheVariants as swept
use Rattle.map_straight.specs.Given.RuleChart.{Chart}
use Rattle.map_straight.specs.Given.RuleWords.{Blocks}
use Rattle.owner_whole.specs.Given.CallersOverAll.{CallOverAll, begun_over_all, with_verdict}
use Rattle.owner_whole.specs.Given.CallersSights.{Visible}
use Rattle.owner_whole.specs.Given.CallersTogether.{OverAll, in_slot}
use Rattle.owner_whole.proofs.Whole.Sweeps.Begins.{sweeps_begin_alone}
use Rattle.owner_whole.proofs.Whole.Sweeps.ToldOn.{sweeps_told_alone}
use Rattle.owner_whole.specs.Whole.Owner.{IsAlone}
use Rattle.owner_whole.specs.Whole.WholeSweeps.{SweepLeads}
use Rattle.owner_whole.specs.Strides.Ending.{RunsTo}
use Rattle.owner_calls.specs.Owned.Owned.{Holds}
use Rattle.owner_whole.proofs.Strides.Runs.Comes.{NextOf, next_turned, run_comes}
use Rattle.owner_calls.specs.Sifts.Sweeping.{IsSweeping, begun, asked, over_pairs_after, over_pairs_plan, over_pairs_settled}
use Rattle.owner_calls.specs.declared.sweeping.OverPairs.{OverPairs}
use Rattle.owner_calls.specs.declared.sweeping.Pause.{Pause}
use Rattle.owner_calls.specs.declared.sweeping.Pause.TheVariants as pause

module _ {K V S : Type 0} (same : K → K → Bool) (hashes : S → K → ℕ) (b : Bor S) (setting : Setting) (m0 : Mem (Node K V)) (xs : List (K × V)) (h : Holds same (hashes b.now) setting m0 xs) where
  abbrev hash : K → ℕ
  hash = hashes b.now

  abbrev slot_of : ℕ → ℕ
  slot_of i = setting.slot

  abbrev it : Sweep → OverPairs S
  it p = record { sweep = p; hasher = b }

  abbrev pub AloneIn : World (Node K V) → Chart K → Blocks → (ℕ → Visible) → CallOverAll → Type 0
  AloneIn w c blocks sights o = IsAlone {Q = K} same hash same setting slot_of w c blocks sights (OverAll o)

  -- by what is kept of a sweep, of the memory and of its map, and by what is so where the sweep is refused
  module _ (Keeps : CallOverAll → Mem (Node K V) → Chart K → Blocks → Type 0) (Refuses : Mem (Node K V) → Fault → Type 0) where
    abbrev pub IsKept : Mem (Node K V) → Type 0
    IsKept m = (o : CallOverAll) × (c : Chart K) × (blocks : Blocks) × Keeps o m c blocks

    -- where a step leads: that is kept
    pub record Led (w : World (Node K V)) (m2 : Mem (Node K V)) (p2 : Sweep) (end : Swept (Node K V)) : Type 0 where
      pub w2 : World (Node K V)
      pub c2 : Chart K
      pub blocks2 : Blocks
      pub sights2 : ℕ → Visible
      pub o2 : CallOverAll
      pub sweep : o2.sweep ≡ p2
      pub memory : w2.memory ≡ m2
      pub leads : SweepLeads {Q = K} same hash same setting slot_of w w2 c2 blocks2 sights2 o2 end
      pub kept : Keeps o2 m2 c2 blocks2
      pub refuses : (fault : Fault) → end ≡ swept.Refused fault → Refuses m2 fault

    -- Each step leads so.
    abbrev pub StepsKeep : Type 0
    StepsKeep =
        (w : World (Node K V)) (c : Chart K) (blocks : Blocks) (sights : ℕ → Visible) (o : CallOverAll) → AloneIn w c blocks sights o → Keeps o w.memory c blocks
        → (m2 : Mem (Node K V)) (p2 : Sweep) (end : Swept (Node K V)) → Steps Took value_at w.memory (sweep_plan hash o.sweep) m2 (p2, end) → Led w m2 p2 end

    -- Each reply keeps it.
    abbrev pub RepliesKeep : Type 0
    RepliesKeep = (m : Mem (Node K V)) (c : Chart K) (blocks : Blocks) (o : CallOverAll) → Keeps o m c blocks → (n : ℕ) (keeps : Bool) → Keeps (with_verdict o n keeps) m c blocks

    -- it is under way, and alone, and that is so
    pub record Course (o : CallOverAll) (m : Mem (Node K V)) : Type 0 where
      pub w : World (Node K V)
      pub c : Chart K
      pub blocks : Blocks
      pub sights : ℕ → Visible
      pub alone : AloneIn w c blocks sights o
      pub memory : w.memory ≡ m
      pub kept : Keeps o m c blocks

    pub record Under (x : OverPairs S) (m : Mem (Node K V)) : Type 0 where
      pub o : CallOverAll
      pub is : x ≡ it o.sweep
      pub course : Course o m

    -- where it stops
    abbrev pub StopsAt : OverPairs S → Mem (Node K V) → Result Pause Fault → Type 0
    StopsAt x m (Ok (pause.Asks word)) = Under x m × (x.sweep.stands ≡ at.Asks word)
    StopsAt x m (Ok _) = IsKept m
    StopsAt x m (Err fault) = IsKept m × Refuses m fault

    -- where a step of its machine leads
    abbrev Next : OverPairs S → Mem (Node K V) → Advance Pause → Type 0
    Next = NextOf Under StopsAt

    under_of : (w : World (Node K V)) (m2 : Mem (Node K V)) (p2 : Sweep) (end : Swept (Node K V)) → (l : Led w m2 p2 end) → AloneIn l.w2 l.c2 l.blocks2 l.sights2 l.o2 → Under (it p2) m2
    under_of w m2 p2 end l alone = record {
      o = l.o2;
      is = ap it (sym l.sweep);
      course = record {
        w = l.w2;
        c = l.c2;
        blocks = l.blocks2;
        sights = l.sights2;
        alone = alone;
        memory = l.memory;
        kept = l.kept;
      };
    }

    is_kept : (w : World (Node K V)) (m2 : Mem (Node K V)) (p2 : Sweep) (end : Swept (Node K V)) → Led w m2 p2 end → IsKept m2
    is_kept w m2 p2 end l = (l.o2, l.c2, l.blocks2, l.kept)

    next_by : (w : World (Node K V)) (m2 : Mem (Node K V)) (p2 : Sweep) (end : Swept (Node K V)) → Led w m2 p2 end → Next (over_pairs_settled (it p2) end).0 m2 (over_pairs_settled (it p2) end).1
    next_by w m2 p2 swept.Goes l = under_of w m2 p2 swept.Goes l l.leads
    next_by w m2 p2 swept.Waits l = absurd l.leads
    next_by w m2 p2 (swept.Gave value) l = under_of w m2 p2 (swept.Gave value) l l.leads.0
    next_by w m2 p2 swept.Ready l = is_kept w m2 p2 swept.Ready l
    next_by w m2 p2 (swept.Pair word) l = is_kept w m2 p2 (swept.Pair word) l
    next_by w m2 p2 (swept.Asks word) l = (under_of w m2 p2 (swept.Asks word) l l.leads.0, ap (λ (q : Sweep). q.stands) (sym l.sweep) ∙ l.leads.1)
    next_by w m2 p2 swept.Done l = is_kept w m2 p2 swept.Done l
    next_by w m2 p2 (swept.Refused fault) l = (is_kept w m2 p2 (swept.Refused fault) l, l.refuses fault refl)

    module _ (steps : StepsKeep) (replies : RepliesKeep) where
      under_step : (x : OverPairs S) (m : Mem (Node K V)) → Under x m → (m2 : Mem (Node K V)) (end : OverPairs S × Advance Pause) → Steps Took value_at m (over_pairs_plan {K = K} {V = V} hashes x) m2 end → Next end.0 m2 end.1
      under_step x m u m2 end s =
          let c = u.course in
          next_turned Under StopsAt (over_pairs_after (it u.o.sweep)) m m2 (sweep_plan hash u.o.sweep)
          (λ e t. next_by c.w m2 e.0 e.1
          (steps c.w c.c c.blocks c.sights u.o c.alone (subst (λ (y : Mem (Node K V)). Keeps u.o y c.c c.blocks) (sym c.memory) c.kept) m2 e.0 e.1
          (subst (λ (y : Mem (Node K V)). Steps Took value_at y (sweep_plan hash u.o.sweep) m2 e) (sym c.memory) t))) end
          (subst (λ (y : OverPairs S). Steps Took value_at m (over_pairs_plan {K = K} {V = V} hashes y) m2 end) u.is s)

      -- told about the pair that it asks about, it is under way again
      told_on : (x : OverPairs S) (m : Mem (Node K V)) (u : Under x m) (word : ℕ) → x.sweep.stands ≡ at.Asks word → (keeps : Bool) → Under (record x { sweep = after_reply x.sweep keeps }) m
      told_on x m u word asks keeps =
          let c = u.course in
          let t = sweeps_told_alone same hash same setting slot_of h.lawful c.w c.c c.blocks c.sights u.o c.alone in
          let here : u.o.sweep.stands ≡ at.Asks word = ap (λ (y : OverPairs S). y.sweep.stands) (sym u.is) ∙ asks in
          let about = t.asks_about word here in
          record {
            o = with_verdict u.o about.0 keeps;
            is = ap (λ (y : OverPairs S). record y { sweep = after_reply y.sweep keeps }) u.is;
            course = record {
              w = c.w;
              c = c.c;
              blocks = c.blocks;
              sights = c.sights;
              alone = (t.replied word about.0 about.1 about.2 here about.3.0 keeps).0;
              memory = c.memory;
              kept = replies m c.c c.blocks u.o c.kept about.0 keeps;
            };
          }

      -- where it is so as the sweep begins
      module _ (purpose : Purpose) (first : Keeps (begun_over_all h.chart.now (in_slot setting setting.slot) purpose) m0 h.chart h.blocks) where
        begins : Under (it (sweeping (in_slot setting setting.slot) purpose)) m0
        begins = record {
          o = begun_over_all h.chart.now (in_slot setting setting.slot) purpose;
          is = refl;
          course = record {
            w = h.world;
            c = h.chart;
            blocks = h.blocks;
            sights = h.sights;
            alone = sweeps_begin_alone same hash same setting slot_of h.world h.chart h.blocks h.sights h.rests purpose;
            memory = h.memory;
            kept = first;
          };
        }

        kept_along : (x : OverPairs S) (m : Mem (Node K V)) → IsSweeping hashes b setting purpose m0 x m → (x2 : OverPairs S) (m2 : Mem (Node K V)) (result : Result Pause Fault)
            → RunsTo (over_pairs_plan {K = K} {V = V} hashes) x m x2 m2 result → StopsAt x2 m2 result
        kept_along _ _ begun = run_comes Under StopsAt (over_pairs_plan {K = K} {V = V} hashes) under_step _ m0 begins
        kept_along _ _ (asked x m before x2 m2 word runs keeps) =
            let k = kept_along x m before x2 m2 (Ok (pause.Asks word)) runs in run_comes Under StopsAt (over_pairs_plan {K = K} {V = V} hashes) under_step _ m2 (told_on x2 m2 k.0 word k.1 keeps)

        -- so it is wherever it stops
        pub stopped_along : (x : OverPairs S) (m : Mem (Node K V)) → IsSweeping hashes b setting purpose m0 x m → (x2 : OverPairs S) (m2 : Mem (Node K V)) (result : Result Pause Fault)
            → RunsTo (over_pairs_plan {K = K} {V = V} hashes) x m x2 m2 result → IsKept m2 × IfErr result (Refuses m2)
        stopped_along x m is x2 m2 result runs = by result (kept_along x m is x2 m2 result runs)
          where
            by : (r : Result Pause Fault) → StopsAt x2 m2 r → IsKept m2 × IfErr r (Refuses m2)
            by (Ok (pause.Asks word)) s = let c = s.0.course in ((s.0.o, c.c, c.blocks, c.kept), tt)
            by (Ok pause.Ended) s = (s, tt)
            by (Ok pause.Ready) s = (s, tt)
            by (Ok (pause.Shows word)) s = (s, tt)
            by (Err fault) s = s
