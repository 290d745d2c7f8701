-- A sweep that is alone may take its next step, be it its own or one of a row of the collector, and where that leads.
use Rattle.std.specs.Prelude.{◌≡◌, ℕ, suc, ◌+◌, ◌%◌, ◌^◌, ◌<◌, ◌⊎◌, Bool, true, List, None}
use Rattle.std.specs.Int.{IsPowerOfTwo}
use Rattle.std.proofs.Common.{inl, inr, refl, sym, subst, ◌∙◌, arith}
use Rattle.seize_words.specs.OneMemory.Mem.{Mem, Can, Took, value_at}
use Rattle.seize_words.specs.OneMemory.Plan.{May, Steps}
use Rattle.seize.specs.World.{World}
use Rattle.map_tables.specs.Chunks.{is_incremental}
use Rattle.map_tables.specs.declared.node.Node.{Node}
use Rattle.map_tables.specs.declared.setting.Setting.{Setting}
use Rattle.papaya_raw.specs.Given.SweepsSweep.{sweep_plan}
use Rattle.papaya_raw.specs.Given.ReservesDeclared.sweep.Purpose.{Purpose}
use Rattle.papaya_raw.specs.Given.ReservesDeclared.sweep.Sweep.{Sweep}
use Rattle.papaya_raw.specs.Given.ReservesDeclared.sweep.Sweeping.{Sweeping}
use Rattle.papaya_raw.specs.Given.ReservesDeclared.sweep.Sweeping.TheVariants as at
use Rattle.papaya_raw.specs.Given.ReservesDeclared.sweep.Swept.{Swept}
use Rattle.papaya_raw.specs.Given.ReservesDeclared.sweep.Swept.TheVariants as swept
use Rattle.map_measures.specs.Given.RuleChart.{Chart}
use Rattle.map_measures.specs.Given.RuleWords.{Blocks}
use Rattle.map_measures.proofs.Given.RuleWorld.Hands.{current_known}
use Rattle.owner_facts.specs.Given.PointsSteps.{AreLawful}
use Rattle.map_measures.proofs.Given.PointsMovedLasts.{moved_lasts}
use Rattle.owner_facts.specs.Alone.Counting.{pairs_in, shards_sum}
use Rattle.owner_facts.specs.Alone.Counted.{HasAdded}
use Rattle.owner_facts.proofs.Alone.Calls.Changes.{none_stored}
use Rattle.owner_facts.proofs.Alone.Shards.Sums.{added_none}
use Rattle.map_measures.specs.Given.LateCovers.{Came}
use Rattle.owner_facts.specs.Given.LateToldSweeps.{word_shown, IsRowOfSweep}
use Rattle.owner_facts.specs.Given.CallersOverAll.{CallOverAll}
use Rattle.owner_facts.specs.Given.CallersSights.{Visible}
use Rattle.owner_facts.specs.Given.CallersTogether.{OverAll}
use Rattle.owner_facts.proofs.Given.CallersSights.Sources.{below}
use Rattle.owner_whole.specs.Whole.Contents.{KeepsPairs}
use Rattle.owner_whole.specs.Whole.LoneSweeps.{goes_once}
use Rattle.owner_whole.specs.Whole.Owner.{IsAlone}
use Rattle.owner_whole.specs.Whole.WholeSweeps.{uncounted, IsCountedBut, ShowsNew, SweepStepLeads, SweepsContinueAlone}
use Rattle.owner_whole.proofs.Whole.Contents.Runs.{went_keeps, row_keeps}
use Rattle.owner_whole.proofs.Whole.Limits.Sweeps.{row_sweep_ends, sweep_ends}
use Rattle.owner_whole.proofs.Whole.Rows.Kinds.{copier_decided, disposal_decided}
use Rattle.owner_whole.proofs.Whole.Rows.Shards.{row_shards}
use Rattle.owner_whole.proofs.Whole.Sweeps.Counting.{own_counts}
use Rattle.owner_whole.proofs.Whole.Sweeps.Onward.{about_none, onward_same, swept_on}
use Rattle.owner_whole.proofs.Whole.Sweeps.Own as own
use Rattle.owner_whole.proofs.Whole.Sweeps.OwnRuns.{less_pairs, own_onward}
use Rattle.owner_whole.proofs.Whole.Sweeps.Rows as rows
use Rattle.owner_whole.proofs.Whole.Sweeps.Tells.{done_kept, tells_new}

pub sweep_decided : (x : Sweeping) → IsRowOfSweep x ⊎ (IsRowOfSweep x → ⊥)
sweep_decided (at.Copies copier) = copier_decided copier.stands
sweep_decided (at.Disposes dispose) = disposal_decided dispose.stands
sweep_decided at.Reads = inr (λ h. h)
sweep_decided at.Follows = inr (λ h. h)
sweep_decided at.Ready = inr (λ h. h)
sweep_decided at.Words = inr (λ h. h)
sweep_decided (at.Asks word) = inr (λ h. h)
sweep_decided (at.Tries word) = inr (λ h. h)
sweep_decided (at.Counts removed) = inr (λ h. h)
sweep_decided at.Over = inr (λ h. h)
sweep_decided (at.Refused fault) = inr (λ h. h)

-- a step that shows nothing
silent_tells : {K V : Type 0} (hash : K → ℕ) (m : Mem (Node K V)) (c : Chart K) (blocks : Blocks) (once : Bool) (done : List ℕ) (end : Swept (Node K V)) → word_shown end ≡ None → ShowsNew hash m c blocks once done done end
silent_tells hash m c blocks once done (swept.Pair word) silent = absurd (cc silent)
silent_tells hash m c blocks once done (swept.Asks word) silent = absurd (cc silent)
silent_tells hash m c blocks once done swept.Goes silent = λ same. refl
silent_tells hash m c blocks once done swept.Waits silent = λ same. refl
silent_tells hash m c blocks once done (swept.Gave value) silent = λ same. refl
silent_tells hash m c blocks once done swept.Ready silent = λ same. refl
silent_tells hash m c blocks once done swept.Done silent = λ same. refl
silent_tells hash m c blocks once done (swept.Refused fault) silent = λ same. refl

row_sum : (s2 s p u2 u : ℕ) → s2 % 2 ^ 64 ≡ (s + 0) % 2 ^ 64 → u2 ≡ u → s % 2 ^ 64 ≡ p + u → s2 % 2 ^ 64 ≡ p + u2
row_sum s2 s p u2 u e same was = omega (arith, e, same, was)

module _ {K V Q : Type 0} (same : K → K → Bool) (hash : K → ℕ) (asks : Q → K → Bool) (setting : Setting) (slot : ℕ → ℕ) (lawful : AreLawful same hash)
    (w : World (Node K V)) (c : Chart K) (blocks : Blocks) (sights : ℕ → Visible) (o : CallOverAll) (a : IsAlone {Q = Q} same hash asks setting slot w c blocks sights (OverAll o)) where
  abbrev b : Bool
  b = is_incremental setting.mode

  low : (n : ℕ) → c.current n ≡ true → n < c.stored
  low n is = (current_known same hash setting w c blocks a.together.ground.map.map.rule a.together.ground.map.map.shows n is).0

  -- by a step of its own
  module _ (none : IsRowOfSweep o.sweep.stands → ⊥) (initial : IsPowerOfTwo setting.initial) (m2 : Mem (Node K V)) (p2 : Sweep) (end : Swept (Node K V))
      (steps : Steps Took value_at w.memory (sweep_plan hash o.sweep) m2 (p2, end)) where
    pub own_leads : SweepStepLeads {Q = Q} same hash asks setting slot w c blocks o m2 p2 end
    own_leads =
        let here = own.here same hash asks setting slot lawful w c blocks sights o a in
        let seen = own.seen same hash asks setting slot lawful w c blocks sights o a in
        let map = own.map same hash asks setting slot lawful w c blocks sights o a in
        let k = own.knows_here same hash asks setting slot lawful w c blocks sights o a none in
        let may = own.own_may same hash asks setting slot lawful w c blocks sights o a none initial in
        let went = own.went same hash asks setting slot lawful w c blocks sights o a none initial m2 p2 end steps in
        let stepped = own.stepped same hash asks setting slot lawful w c blocks sights o a none initial m2 p2 end steps in
        let together2 = own.together2 same hash asks setting slot lawful w c blocks sights o a none initial m2 p2 end steps in
        let covers2 = own.covers2 same hash asks setting slot lawful w c blocks sights o a none initial m2 p2 end steps in
        let pair_seen = own.pair_seen same hash asks setting slot lawful w c blocks sights o a none initial m2 p2 end steps in
        let before = own.nothing_before same hash asks setting slot lawful w c blocks sights o a none initial m2 p2 end steps in
        let tells = tells_new same hash lawful here setting o.began w c seen o.sweep k.over.table went.w2 went.c2 went.blocks2 stepped.blocks2 went.map together2.ground.map pair_seen p2 end went.told.told went.told.stage
        o.done stepped.done2 o.entered stepped.entered2 covers2 stepped.done before in
        let kept = done_kept same hash lawful here setting o.began w c seen o.sweep k.over.table went.w2 went.c2 went.blocks2 stepped.blocks2 went.map together2.ground.map pair_seen p2 end went.told.told went.told.stage
        o.done stepped.done2 o.entered stepped.entered2 covers2 stepped.done before in
        let less = less_pairs o c went.c2 stepped.removes in
        let keeps : KeepsPairs w.memory c blocks went.w2.memory went.c2 stepped.blocks2 =
        went_keeps same hash lawful setting w c blocks a.together.ground.map here 0 seen m2 _ went stepped.blocks2 (λ n l. below n c.stored (blocks.pair n) (went.blocks2.pair n) l) map (λ n l e. less n e) in
        let stored = none_stored same hash here (λ key. true) c went.c2 map.map.rule went.map.map.rule went.moved (moved_lasts same hash here lawful.lawful w c went.c2 seen map went.moved) less in
        record {
          w2 = went.w2;
          c2 = went.c2;
          blocks2 = stepped.blocks2;
          sights2 = stepped.sights2;
          entered2 = stepped.entered2;
          done2 = stepped.done2;
          memory = went.memory;
          leads = own.leads same hash asks setting slot lawful w c blocks sights o a none initial m2 p2 end steps;
          tells = tells;
          removes = stepped.removes;
          purpose = went.told.told.stands.purpose;
          comes = λ done. subst (λ (x : Purpose). Came went.c2 stepped.entered2 x stepped.done2) (sym went.told.told.stands.purpose) (stepped.comes done);
          runs = λ m0 c0 blocks0 asked. swept_on b m0 c0 blocks0 w.memory c blocks asked o went.w2.memory went.c2 stepped.blocks2 asked _ low
              (own_onward same hash here w c blocks seen map o k.knows.facts k.over.table k.knows.covers k.knows.tries m2 p2 end steps went.w2 went.c2 went.blocks2 stepped.blocks2 went.told.told went.told.stage
              went.told.moves went.moved stepped.remembers together2.ground.moments stepped.removes stepped.entered2 stepped.done2 stepped.from stepped.done tells kept asked keeps stored);
          counts = λ was. subst (λ (m : Mem (Node K V)). IsCountedBut setting m went.c2 p2.stands) (sym went.memory)
              (own_counts same hash lawful here o.began w c seen map o.sweep k.knows.facts k.whole none may m2 p2 end steps went.w2 went.c2 went.blocks2 went.told.moves stored was);
          ends = λ bits fits so. sweep_ends same hash here bits fits w went.w2 c went.c2 seen went.blocks2 map went.map (moved_lasts same hash here lawful.lawful w c went.c2 seen map went.moved) went.blocks_same
              o.sweep k.whole may (p2, end) (subst (λ (m : Mem (Node K V)). Steps Took value_at w.memory (sweep_plan hash o.sweep) m (p2, end)) (sym went.memory) steps) so;
        }

  -- by a step of a row
  module _ (is_row : IsRowOfSweep o.sweep.stands) (m2 : Mem (Node K V)) (p2 : Sweep) (end : Swept (Node K V)) (steps : Steps Took value_at w.memory (sweep_plan hash o.sweep) m2 (p2, end)) where
    pub row_leads : SweepStepLeads {Q = Q} same hash asks setting slot w c blocks o m2 p2 end
    row_leads =
        let now = rows.now same hash asks setting slot lawful w c blocks sights o a is_row in
        let led = rows.led same hash asks setting slot lawful w c blocks sights o a is_row m2 p2 end steps in
        let goes = rows.goes same hash asks setting slot lawful w c blocks sights o a is_row m2 p2 end steps in
        let keeps : KeepsPairs w.memory c blocks led.w2.memory c blocks = subst (λ (m : Mem (Node K V)). KeepsPairs m c blocks led.w2.memory c blocks) now.memory
        (row_keeps same hash lawful setting now.v c blocks now.together.ground.map now.together.ground.came 0 led.w2 led.happened) in
        let added : HasAdded setting w.memory 0 led.w2.memory = row_shards same hash setting now.v c blocks now.together.ground.map now.together.ground.came now.together.ground.counter 0 led.w2 led.happened w.memory 0
        (subst (HasAdded setting w.memory 0) (sym now.memory) (added_none setting w.memory)) in
        record {
          w2 = led.w2;
          c2 = c;
          blocks2 = blocks;
          sights2 = sights;
          entered2 = o.entered;
          done2 = o.done;
          memory = led.memory;
          leads = rows.row_leads same hash asks setting slot lawful w c blocks sights o a is_row m2 p2 end steps;
          tells = silent_tells hash led.w2.memory c blocks (goes_once b o.sweep.purpose) o.done end led.silent;
          removes = inl refl;
          purpose = goes.purpose;
          comes = λ done. subst (λ (x : Purpose). Came c o.entered x o.done) (sym goes.purpose) (led.comes done);
          runs = λ m0 c0 blocks0 asked. swept_on b m0 c0 blocks0 w.memory c blocks asked o led.w2.memory c blocks asked _ low
              (onward_same b w.memory led.w2.memory c blocks asked o p2 keeps goes.purpose goes.before
              (λ n. about_none p2.stands goes.tries o.told n ∙ sym (about_none o.sweep.stands (λ word e. subst IsRowOfSweep e is_row) o.told n)));
          counts = λ was. row_sum (shards_sum led.w2.memory setting.counter (suc setting.mask)) (shards_sum w.memory setting.counter (suc setting.mask)) (pairs_in c) (uncounted p2.stands) (uncounted o.sweep.stands)
              added goes.counted was;
          ends = λ bits fits so. row_sweep_ends hash c o.sweep is_row w.memory m2 (p2, end) steps so;
        }

module _ {K V Q : Type 0} (same : K → K → Bool) (hash : K → ℕ) (asks : Q → K → Bool) (setting : Setting) (slot : ℕ → ℕ) where
  pub sweeps_go_on_alone : SweepsContinueAlone V same hash asks setting slot
  sweeps_go_on_alone lawful initial w c blocks sights o a = elim (sweep_decided o.sweep.stands) as (λ _. May Can Took value_at w.memory (sweep_plan hash o.sweep)
      × ((m2 : Mem (Node K V)) (p2 : Sweep) (end : Swept (Node K V)) → Steps Took value_at w.memory (sweep_plan hash o.sweep) m2 (p2, end)
      → SweepStepLeads {Q = Q} same hash asks setting slot w c blocks o m2 p2 end)) [
        | inl is_row ↦ (rows.row_may same hash asks setting slot lawful w c blocks sights o a is_row, λ m2 p2 end st. row_leads same hash asks setting slot lawful w c blocks sights o a is_row m2 p2 end st)
        | inr none ↦ (own.own_may same hash asks setting slot lawful w c blocks sights o a none initial, λ m2 p2 end st. own_leads same hash asks setting slot lawful w c blocks sights o a none initial m2 p2 end st)
      ]
