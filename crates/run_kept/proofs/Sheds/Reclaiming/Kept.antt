-- After a step by which all is reclaimed what waits behind tables waits there, behind one table alone, what lies behind them does so, and the tables that the collector has are retired, where no table is
-- left over; and none is left over then.
use Rattle.std.specs.Prelude.{◌≡◌, ◌⊎◌, ℕ, ◌+◌, Bool, true, List, [], None, if◌then◌else◌}
use Rattle.std.proofs.Common.{sym, subst, ◌∙◌, inl, inr}
use Rattle.run_schedules.specs.Given.SeizeWordsDeclared.at.At.TheVariants.{Root, Used}
use Rattle.run_schedules.specs.Given.SeizeWordsMem.{value_at}
use Rattle.run_executor.specs.Given.SeizeWordsWord.{block_in}
use Rattle.seize.specs.declared.rows.reclaim_all.ReclaimAll.{ReclaimAll}
use Rattle.seize.specs.declared.rows.settle.Settled.{Settled}
use Rattle.seize.specs.declared.states.TheConstants.{LAST_SLOT}
use Rattle.seize.specs.World.{World, Hand}
use Rattle.run_executor.proofs.Given.SeizeRulePoints.Aside.{HandFits}
use Rattle.run_executor.proofs.Given.SeizeMemoryWords.Shows.{lives}
use Rattle.run_executor.proofs.Given.SeizeMemoryWords.There.{value_there}
use Rattle.papaya_raw.specs.Given.TablesNodes.{deferred_word}
use Rattle.papaya_raw.specs.Given.TablesDeclared.node.Node.{Node}
use Rattle.run_schedules.specs.declared.effect.Effect.{Effect}
use Rattle.run_schedules.specs.Schedules.Effects.{with_effects}
use Rattle.run_schedules.specs.Schedules.Moment.{Moment}
use Rattle.run_schedules.specs.Schedules.Views.{is_stage, is_retired}
use Rattle.run_executor.specs.Given.EffectsDeclared.changed.Changed.{Changed}
use Rattle.run_executor.specs.Given.EffectsDeclared.changed.Changed.TheVariants as changed
use Rattle.run_executor.specs.Given.EffectsEffects.{linked_on, named, names_same, effects_of, known_after}
use Rattle.run_executor.specs.Given.EffectsKnown.{Known}
use Rattle.run_executor.specs.Given.EffectsDeclared.acting.Acting.TheVariants.{Row}
use Rattle.run_executor.specs.Given.ScenesReclaiming.{IsReclaiming, ReclaimingLeads}
use Rattle.run_executor.proofs.Given.FollowsOperations.{LeavesBy}
use Rattle.run_executor.proofs.Given.OthersRowPlans.{TellsRow}
use Rattle.run_executor.proofs.Given.OthersStays.{same_there}
use Rattle.run_executor.specs.Given.MomentsWhole.{RefinesWhole}
use Rattle.run_waiting.specs.Lives.Behind.{IsLeft, NoTableLeft, RefinesWaiting, WaitsOnce}
use Rattle.run_waiting.specs.Lives.Lying.{RefinesLying}
use Rattle.run_waiting.specs.Lives.Order.{RefinesOrder}
use Rattle.run_waiting.specs.Lives.Retired.{IsToRetire, RefinesRetiredTables}
use Rattle.run_waiting.proofs.Lives.Once.{once_fewer, row_fewer}
use Rattle.run_waiting.proofs.Lives.Reclaimed.{stays_so}
use Rattle.run_waiting.proofs.Lives.Stages.{still_retired}
use Rattle.run_waiting.proofs.Lives.Users.{left_lives}
use Rattle.run_waiting.proofs.Lives.Worlds.{Kept}
use Rattle.run_kept.proofs.Sheds.Reclaiming.Lies.{reclaiming_lies}
use Rattle.run_kept.proofs.Sheds.Reclaiming.Order.{reclaiming_order}
use Rattle.run_kept.proofs.Sheds.Reclaiming.Rows.{EmptiesRoot, reclaiming_tells}
use Rattle.run_kept.proofs.Sheds.Reclaiming.Steps.{kept as kept_there, left, no_call, root_none, nothing_there}
use Rattle.run_kept.proofs.Sheds.Reclaiming.Waits.{kept_then, rows_leave_waiting}
use Rattle.run_executor.specs.Given.ScenesHeld.{Held}
use Rattle.run_executor.specs.Given.ScenesScene.{HasCall, Scene}
use Rattle.run_blocks.proofs.Given.FinishesBeside.Makings.Outs.{handed_lives}

module _ {K V : Type 0} (same : K → K → Bool) (hash : ℕ → K → ℕ) (name : ℕ → List ℕ) (m : Moment K V) (known : Known) (s : Scene K V) (whole : RefinesWhole same name m known s)
    (waiting : RefinesWaiting m known s.world) (once : WaitsOnce m.deferred) (retired : RefinesRetiredTables m known s) (lying : RefinesLying m known s.world) (order : RefinesOrder m known s.world) (no_table : NoTableLeft known s.world)
    (old new : Held K V) (i : ℕ) (lists : ℕ → List ℕ) (before after : ReclaimAll) (told : Settled (Node K V)) (at : IsReclaiming same hash old s i lists before)
    (leads : ReclaimingLeads same hash s i lists old new before after told) where
  abbrev w : World (Node K V)
  w = s.world

  abbrev w2 : World (Node K V)
  w2 = leads.1.w2

  abbrev s2 : Scene K V
  s2 = record s { world = leads.1.w2; maps = leads.1.maps2 }

  its : Kept deferred_word old.batch_size w2
  its = kept_then same hash name m known s whole waiting once no_table old new i lists before after told at leads

  -- a block that lives is there, in the hands in which it was
  same_hand : (b : ℕ) → lives (its.good.state.life b) ≡ true → w2.hand b ≡ w.hand b
  same_hand b alive =
      let there = value_there deferred_word (LAST_SLOT + 1) w2.memory its.good.state its.good.extra b its.good.shows alive in
      (kept_there same hash name m known s whole old new i lists before after told at leads b there).1

  -- what is so then
  pub record ComesSo (fs : List Effect) (noted : Known) : Type 0 where
    pub waits : RefinesWaiting (with_effects None None fs m) noted w2
    pub alone : WaitsOnce (with_effects None None fs m).deferred
    pub had : RefinesRetiredTables (with_effects None None fs m) noted s2
    pub lies : RefinesLying (with_effects None None fs m) noted w2
    pub ordered : RefinesOrder (with_effects None None fs m) noted w2
    pub none_left : NoTableLeft noted w2

  rows_come : (x : Changed) → TellsRow x → LeavesBy w.memory w2.memory x → ComesSo (effects_of Row known x) (known_after Row x known)
  rows_come x tells l = record {
    waits = rows_leave_waiting same hash name m known s whole waiting once no_table old new i lists before after told at leads x tells l;
    alone = once_fewer m.deferred (with_effects None None (effects_of Row known x) m).deferred (row_fewer known m x tells) once;
    had = record {
      tables = λ b len t e handed.
          let was = stays_so m known whole.blocks x tells b len t e in
          let fits = subst (λ (h : Hand). HandFits h (its.good.state.life b)) handed (its.good.hands b) in
          let before_it = sym (same_hand b (handed_lives (its.good.state.life b) fits)) ∙ handed in
          elim (retired.tables b len t was.0 before_it)
          as (λ _. (is_stage is_retired t (with_effects None None (effects_of Row known x) m) ≡ true) ⊎ ((j : ℕ) × HasCall s2 j × IsToRetire b (s2.world.row j))) [
            | inl so ↦ inl (still_retired t None None (effects_of Row known x) m was.1 so)
            | inr due ↦ absurd (no_call same hash name m known s whole old new i lists before after told at leads due.1.0 due.0 due.1.1 due.1.2)
          ];
      lengths = λ b len t e. retired.lengths b len t (stays_so m known whole.blocks x tells b len t e).0;
    };
    lies = reclaiming_lies same hash name m known s whole lying old new i lists before after told at leads x tells l;
    ordered = reclaiming_order same hash name m known s whole lying order old new i lists before after told at leads x tells l;
    none_left = λ b len t e over.
        let was = (stays_so m known whole.blocks x tells b len t e).0 in
        let hand = same_hand b (left_lives (w2.hand b) (its.good.state.life b) over (its.good.hands b)) in
        no_table b len t was (subst IsLeft hand over);
  }

  idle_comes : ((b : ℕ) → value_at w2.memory b ≡ value_at w.memory b) → ComesSo [] known
  idle_comes values = rows_come changed.Nothing tt (same_there w.memory w2.memory values)

  root_comes : (x : Changed) → EmptiesRoot x → LeavesBy w.memory w2.memory x → ComesSo (effects_of Row known x) (known_after Row x known)
  root_comes (changed.Wrote (Root r) was now) empty l =
      let none = root_none same hash name m known s whole old new i lists before after told at leads (names_same was now) (named known was) (named known now) (block_in now)
      (nothing_there same hash name m known s whole old new i lists before after told at leads now empty) in
      subst (λ (fs : List Effect). ComesSo fs (if names_same was now then known else linked_on Row (block_in now) (named known now) known)) (sym none.0)
      (subst (ComesSo []) (sym none.1) (idle_comes l.2))
  root_comes (changed.Wrote (Used r) was now) empty l = idle_comes l.2
  root_comes _ empty l = absurd empty

  pub reclaiming_comes : ComesSo (effects_of Row known new.changed) (known_after Row new.changed known)
  reclaiming_comes =
      let leaves = left same hash name m known s whole old new i lists before after told at leads in
      elim (reclaiming_tells old.memory new.memory new.changed before before.stands (after, told) leads.0)
      as (λ _. ComesSo (effects_of Row known new.changed) (known_after Row new.changed known)) [
        | inl tells ↦ rows_come new.changed tells leaves
        | inr empties ↦ root_comes new.changed empties leaves
      ]
