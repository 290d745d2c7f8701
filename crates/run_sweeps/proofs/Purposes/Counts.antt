-- A step of a counting that is under way, in the words of a run.
use Rattle.std.specs.Prelude.{◌≡◌, ℕ, suc, ◌≤◌, Bool, Option, Some}
use Rattle.std.proofs.Common.{ap, sym, subst, ◌∙◌}
use Rattle.run_finds.specs.Given.SeizeWordsMem.{Mem, word_at}
use Rattle.run_finds.specs.Given.SeizeWordsDeclared.at.At.TheVariants.{Word}
use Rattle.run_finds.proofs.Given.SeizeRuleRows.Leaving.{steps_back}
use Rattle.run_finds.specs.Given.SeizeDeclared.advance.Advance.{Advance as Counted}
use Rattle.run_finds.specs.Given.SeizeDeclared.advance.Advance.TheVariants as counting
use Rattle.run_finds.specs.Given.TablesDeclared.node.Node.{Node}
use Rattle.run_finds.specs.Given.TablesDeclared.setting.Setting.{Setting}
use Rattle.run_finds.specs.Given.ResizeSum.{sum_plan}
use Rattle.run_finds.specs.Given.ResizeDeclared.sum.Sum.{Sum}
use Rattle.run_finds.specs.Given.RawMachine.{machine_plan, counted}
use Rattle.run_finds.specs.Given.RawDeclared.machines.machine.Machine.{Machine}
use Rattle.run_finds.specs.Given.RawDeclared.machines.machine.Machine.TheVariants as kinds
use Rattle.run_finds.specs.Given.RawDeclared.machines.progress.Answer.TheVariants as answers
use Rattle.run_finds.specs.Given.RawDeclared.machines.progress.Progress.{Progress}
use Rattle.run_finds.specs.Given.RawDeclared.machines.progress.Progress.TheVariants as progress
use Rattle.run_finds.specs.Given.SchedulesCounts.{Counts}
use Rattle.run_finds.specs.Given.SchedulesMoment.{UnderWay as CallThere, Moment}
use Rattle.run_finds.specs.Given.PointsFactsTables.{CountsShards, SumFacts}
use Rattle.run_finds.specs.Given.CallersTogether.{UnderWay, Counting, in_slot}
use Rattle.run_finds.specs.Given.FinishesMachines.{ContinuesAs}
use Rattle.run_finds.specs.Given.FinishesMaps.{Standing}
use Rattle.run_finds.specs.Given.EffectsDeclared.changed.Changed.TheVariants.{Nothing}
use Rattle.run_finds.proofs.Given.ChangesLogs.{now_there}
use Rattle.run_finds.specs.Given.ShardsShardWords.{RefinesShards}
use Rattle.run_finds.specs.Purposes.Purposes.{HasAdded}
use Rattle.run_finds.specs.Purposes.Shards.{NoneCounted}
use Rattle.run_finds.proofs.Purposes.Sums.{After, counting_on}
use Rattle.run_finds.proofs.Given.ScenesTold.{as_step}
use Rattle.run_finds.specs.Given.ScenesHeld.{Held, IsAt}
use Rattle.run_finds.specs.Given.ScenesScene.{Scene, slot_of}
use Rattle.run_finds.specs.Given.ScenesStepping.{StepsFrom}
use Rattle.run_finds.specs.Given.ChangesHistories.{IsPast}
use Rattle.run_finds.specs.Given.SchedulesTransition.{Past}

module _ {K V : Type 0} (same : K → K → Bool) (hash : ℕ → K → ℕ) (log : Past K V) (is_past : IsPast log) (m : Moment K V) (s : Scene K V) (old new : Held K V) (at : IsAt same hash old s)
    (of i : ℕ) (sum : Sum) (here : s.calls of i ≡ Some (Counting sum)) (st : Standing K) (there : s.maps of ≡ Some st) (c : CallThere K V) (before : c.begun ≤ log.entries)
    (shards : RefinesShards m s) (none : NoneCounted log m of) (has : HasAdded of (log.since c.begun) sum.setting.mask sum.stands)
    (machine : Machine K V K) (said : Progress (Node K V)) (steps : StepsFrom same st.hash (kinds.Count sum) old new machine said) where
  abbrev mem : Mem (Node K V)
  mem = old.memory

  facts : SumFacts (in_slot st.setting (slot_of i)) sum
  facts = ((at.together.makings.standing.each of st there).stand i (Counting sum) here).1

  reads : (shard : ℕ) → shard ≤ sum.setting.mask → word_at mem (Word sum.setting.counter shard) ≡ Some (log.now.shards of shard)
  reads shard few =
      ap (λ (x : Mem (Node K V)). word_at x (Word sum.setting.counter shard)) (sym at.memory)
      ∙ ap (λ (x : Setting). word_at s.world.memory (Word x.counter shard)) facts.0
      ∙ shards of st there shard (subst (λ (x : Setting). shard ≤ x.mask) facts.0 few) ∙ ap Some (none.0 shard)

  abbrev Came : Sum × Counted ℕ → Type 0
  Came end = After of (log.since c.begun) mem sum log.now (λ P p. now_there log is_past P c.begun before p) reads end

  its_step : (end : Sum × Counted ℕ) × Came end × ((machine, said) ≡ counted end)
  its_step =
      let d = steps_back counted mem new.memory (sum_plan sum) (machine, said) (as_step mem Nothing (machine_plan same same st.hash (kinds.Count sum)) new.memory new.changed (machine, said) steps) in (
        d.0,
        counting_on of (log.since c.begun) mem sum log.now (λ P p. now_there log is_past P c.begun before p) reads
            (subst (λ (x : Setting). CountsShards x sum.stands) (sym facts.0) facts.1) has new.memory d.0 d.1,
        d.2,
      )

  -- where it goes on
  pub counts_on : (next : Option (UnderWay K V K)) → ContinuesAs machine said next → (x : UnderWay K V K) → next ≡ Some x → (sum2 : Sum) → machine ≡ kinds.Count sum2
      → HasAdded of (log.since c.begun) sum2.setting.mask sum2.stands
  counts_on next goes x e sum2 machine_is = by its_step
    where
      by : (end : Sum × Counted ℕ) × Came end × ((machine, said) ≡ counted end) → HasAdded of (log.since c.begun) sum2.setting.mask sum2.stands
      by ((c2, counting.Goes), came, is) =
          let same_one : c2 ≡ sum2 = (let one = ap (λ z. z.0) is in cc (one, machine_is)) in
          subst (λ (z : Sum). HasAdded of (log.since c.begun) z.setting.mask z.stands) same_one
          (subst (λ (z : Setting). HasAdded of (log.since c.begun) z.mask c2.stands) (sym came.0) came.1)
      by ((c2, counting.Waits), came, is) = absurd came
      by ((c2, counting.Done count), came, is) =
          absurd (let gone : next ≡ _ = subst (λ (p : Progress (Node K V)). ContinuesAs machine p next) (ap (λ z. z.1) is) goes in cc (gone, e))
      by ((c2, counting.Refused fault), came, is) = absurd came

  -- where it ends
  pub counts_end : (count : ℕ) → said ≡ progress.Done (answers.Count count) → Counts (suc sum.setting.mask) of (log.since c.begun) count
  counts_end count done = by its_step
    where
      by : (end : Sum × Counted ℕ) × Came end × ((machine, said) ≡ counted end) → Counts (suc sum.setting.mask) of (log.since c.begun) count
      by ((c2, counting.Goes), came, is) = absurd (let told = ap (λ z. z.1) is in cc (told, done))
      by ((c2, counting.Waits), came, is) = absurd came
      by ((c2, counting.Done count2), came, is) =
          let same_count : count2 ≡ count = (let told = ap (λ z. z.1) is in cc (told, done)) in
          subst (λ (z : ℕ). Counts (suc sum.setting.mask) of (log.since c.begun) z) same_count came
      by ((c2, counting.Refused fault), came, is) = absurd came

  -- its shards are those of its map
  pub mask_is : sum.setting.mask ≡ st.setting.mask
  mask_is = ap (λ (x : Setting). x.mask) facts.0
