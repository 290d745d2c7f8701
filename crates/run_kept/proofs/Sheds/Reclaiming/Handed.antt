-- After a step by which all is reclaimed what the collector has is handed over, or waits; and what is told to be handed over it has, and that waits behind nothing.
use Rattle.std.specs.Prelude.{◌≡◌, ◌⊎◌, ℕ, ◌+◌, zero, suc, Bool, List, [], ◌∷◌, Option, Some, None, IsSome, if◌then◌else◌}
use Rattle.std.proofs.Common.{refl, ap, sym, subst, ◌∙◌, inl, inr, arith}
use Rattle.run_schedules.specs.Given.SeizeWordsOp.{Store}
use Rattle.run_schedules.specs.Given.SeizeWordsDeclared.at.At.TheVariants.{Root, Used}
use Rattle.run_schedules.specs.Given.SeizeWordsMem.{value_at}
use Rattle.run_executor.specs.Given.SeizeWordsWord.{block_in}
use Rattle.seize.specs.Sequence.{taken_in}
use Rattle.seize.specs.declared.rows.reclaim_all.ReclaimAll.{ReclaimAll}
use Rattle.seize.specs.declared.rows.settle.Settled.{Settled}
use Rattle.seize.specs.declared.states.TheConstants.{LAST_SLOT}
use Rattle.seize.specs.World.{World, Hand, Handed, Event, Begin, Step, Operates, Clears, Runs, times}
use Rattle.run_executor.proofs.Given.SeizeRulePoints.Aside.{HandFits}
use Rattle.run_executor.proofs.Given.SeizeMemoryWords.There.{value_there}
use Rattle.run_executor.proofs.Given.SeizeAloneHistories.NotTaken.{did}
use Rattle.run_executor.proofs.Given.SeizeAloneHistories.Reached.{Reached, happens_reached}
use Rattle.run_executor.proofs.Given.SeizeAloneSpared.Rows.{RowStepped}
use Rattle.papaya_raw.specs.Given.TablesNodes.{deferred_word}
use Rattle.papaya_raw.specs.Given.TablesDeclared.node.Node.{Node}
use Rattle.run_schedules.specs.declared.effect.Effect.{Effect}
use Rattle.run_schedules.specs.Schedules.Effects.{with_effects}
use Rattle.run_schedules.specs.Schedules.Moment.{Moment}
use Rattle.run_executor.specs.Given.EffectsDeclared.changed.Changed.{Changed}
use Rattle.run_executor.specs.Given.EffectsDeclared.changed.Changed.TheVariants as changed
use Rattle.run_executor.specs.Given.EffectsEffects.{linked_on, named, names_same, effects_of, known_after}
use Rattle.run_executor.specs.Given.EffectsKnown.{Known}
use Rattle.run_executor.specs.Given.EffectsDeclared.acting.Acting.TheVariants.{Row}
use Rattle.run_executor.specs.Given.ScenesReclaiming.{IsReclaiming, ReclaimingLeads}
use Rattle.run_executor.specs.Given.ReclaimsSlots.{AreItsRows}
use Rattle.run_executor.specs.Given.FinishesFactsEnds.{TakesLeft, WritesRoot, events_of}
use Rattle.run_executor.proofs.Given.FollowsOperations.{LeavesBy}
use Rattle.run_executor.proofs.Given.OthersRowPlans.{TellsRow}
use Rattle.run_executor.proofs.Given.OthersStays.{same_there}
use Rattle.run_executor.specs.Given.MomentsWhole.{RefinesWhole}
use Rattle.run_waiting.specs.Lives.Behind.{NoTableLeft, RefinesWaiting}
use Rattle.run_waiting.specs.Lives.Handed.{IsToHand, IsHandedOver, RefinesHanded}
use Rattle.run_waiting.specs.Lives.Waiting.{waits_behind}
use Rattle.run_waiting.proofs.Lives.HandedOver.{came_listed}
use Rattle.run_waiting.proofs.Lives.HandedTaken.{taking_keeps}
use Rattle.run_waiting.proofs.Lives.Listed.{Listing, carries_some, runs_listed}
use Rattle.run_waiting.proofs.Lives.Logs.{waits_no_more, waits_not, waits_on}
use Rattle.run_waiting.proofs.Lives.Worlds.{has_it, log_back}
use Rattle.run_kept.proofs.Sheds.Reclaiming.Rows.{EmptiesRoot, reclaiming_tells}
use Rattle.run_kept.proofs.Sheds.Reclaiming.Steps.{kept as kept_there, left, no_call, reached, root_none, nothing_there}
use Rattle.run_kept.proofs.Sheds.Reclaiming.Waits.{begun_log}
use Rattle.run_executor.specs.Given.ScenesHeld.{Held}
use Rattle.run_executor.specs.Given.ScenesScene.{HasCall, Scene}
use Rattle.run_executor.proofs.Given.ScenesLeads.{happens}
use Rattle.run_blocks.proofs.Given.FinishesBeside.Makings.Outs.{handed_lives}
use Rattle.run_executor.proofs.Given.SeizeAloneHistories.Waiting.{carries_lives}

-- what rows on slots do to what waits
module _ {K V : Type 0} (size i p : ℕ) where
  -- what waits behind nothing does so still,
  rows_alone : (events : List (Event (Node K V))) → AreItsRows i events → (w w2 : World (Node K V)) → Reached deferred_word size w → Runs deferred_word size events w w2
      → waits_behind p w.log ≡ None → waits_behind p w2.log ≡ None
  rows_alone [] its w w2 r runs alone = ap (λ (z : World (Node K V)). waits_behind p z.log) runs ∙ alone
  rows_alone (Begin j request ∷ events) its w w2 r (v, happens, runs) alone =
      rows_alone events its.2 v w2 (happens_reached deferred_word size (Begin j request) w v r happens) runs (ap (waits_behind p) (begun_log size j request w v its.1 happens.1) ∙ alone)
  rows_alone (Step j ∷ events) its w w2 r (v, happens, runs) alone =
      let it = did deferred_word size w r j v happens in
      rows_alone events its.1 v w2 (happens_reached deferred_word size (Step j) w v r happens) runs (ap (waits_behind p) it.logged ∙ waits_not p it.effects w.log it.one alone)
  rows_alone (_ ∷ events) its w w2 r runs alone = absurd its

  -- and what waits behind a block does so, or behind nothing
  rows_free : (t : ℕ) (events : List (Event (Node K V))) → AreItsRows i events → (w w2 : World (Node K V)) → Reached deferred_word size w → Runs deferred_word size events w w2
      → waits_behind p w.log ≡ Some t → (waits_behind p w2.log ≡ None) ⊎ (waits_behind p w2.log ≡ Some t)
  rows_free t [] its w w2 r runs waits = inr (ap (λ (z : World (Node K V)). waits_behind p z.log) runs ∙ waits)
  rows_free t (Begin j request ∷ events) its w w2 r (v, happens, runs) waits =
      rows_free t events its.2 v w2 (happens_reached deferred_word size (Begin j request) w v r happens) runs (ap (waits_behind p) (begun_log size j request w v its.1 happens.1) ∙ waits)
  rows_free t (Step j ∷ events) its w w2 r (v, happens, runs) waits = by (times t (taken_in it.effects)) refl (λ so. rows_free t events its.1 v w2 later runs so)
    where
      later : Reached deferred_word size v
      later = happens_reached deferred_word size (Step j) w v r happens

      it : RowStepped deferred_word j w v
      it = did deferred_word size w r j v happens

      by : (k : ℕ) → times t (taken_in it.effects) ≡ k → (waits_behind p v.log ≡ Some t → (waits_behind p w2.log ≡ None) ⊎ (waits_behind p w2.log ≡ Some t))
          → (waits_behind p w2.log ≡ None) ⊎ (waits_behind p w2.log ≡ Some t)
      by zero e on = on (ap (waits_behind p) it.logged ∙ waits_on p t it.effects w.log it.one waits e)
      by (suc k) e on =
          inl (rows_alone events its.1 v w2 later runs (ap (waits_behind p) it.logged ∙ waits_no_more p t it.effects w.log it.one (λ none. omega (arith, none, e)) waits))
  rows_free t (_ ∷ events) its w w2 r runs waits = absurd its

module _ {K V : Type 0} (same : K → K → Bool) (hash : ℕ → K → ℕ) (name : ℕ → List ℕ) (m : Moment K V) (known : Known) (s : Scene K V) (whole : RefinesWhole same name m known s)
    (waiting : RefinesWaiting m known s.world) (handed : RefinesHanded m known s) (no_table : NoTableLeft known s.world)
    (old new : Held K V) (i : ℕ) (lists : ℕ → List ℕ) (before after : ReclaimAll) (told : Settled (Node K V)) (at : IsReclaiming same hash old s i lists before)
    (leads : ReclaimingLeads same hash s i lists old new before after told) where
  abbrev w : World (Node K V)
  w = s.world

  abbrev w2 : World (Node K V)
  w2 = leads.1.w2

  abbrev s2 : Scene K V
  s2 = record s { world = leads.1.w2; maps = leads.1.maps2 }

  abbrev RunsBy : List (Event (Node K V)) → Type 0
  RunsBy events = Runs deferred_word old.batch_size events w w2

  here : Reached deferred_word old.batch_size w
  here = reached same hash name m known s whole old new i lists before after told at leads

  before_it : Listing deferred_word old.batch_size w
  before_it = came_listed old.batch_size w at.under_way.stand.together.makings.standing.came

  after_it : Listing deferred_word old.batch_size w2
  after_it = runs_listed deferred_word old.batch_size leads.1.events w w2 before_it leads.1.runs

  -- what waits, by what was done
  log_free : (p t : ℕ) → waits_behind p w.log ≡ Some t → (waits_behind p w2.log ≡ None) ⊎ (waits_behind p w2.log ≡ Some t)
  log_free p t waits = by leads.1.its
    where
      aside : (v : World (Node K V)) → w2 ≡ v → waits_behind p w.log ≡ waits_behind p v.log → (waits_behind p w2.log ≡ None) ⊎ (waits_behind p w2.log ≡ Some t)
      aside v is back = inr (ap (λ (z : World (Node K V)). waits_behind p z.log) is ∙ sym back ∙ waits)

      by : AreItsRows i leads.1.events ⊎ (((b : ℕ) × (leads.1.events ≡ events_of i (TakesLeft b)))
          ⊎ ((root : ℕ) × ((leads.1.events ≡ events_of i (WritesRoot (Root root) 0)) ⊎ (leads.1.events ≡ events_of i (WritesRoot (Used root) 0)))))
          → (waits_behind p w2.log ≡ None) ⊎ (waits_behind p w2.log ≡ Some t)
      by (inl rows) = rows_free old.batch_size i p t leads.1.events rows w w2 here leads.1.runs waits
      by (inr (inl (b, is))) = (let runs : RunsBy (events_of i (TakesLeft b)) = subst RunsBy is leads.1.runs in aside runs.0 runs.2 (log_back deferred_word old.batch_size w runs.0 (Clears i b) tt runs.1 p))
      by (inr (inr (root, inl is))) =
          (let runs : RunsBy (events_of i (WritesRoot (Root root) 0)) = subst RunsBy is leads.1.runs in
          aside runs.0 runs.2 (log_back deferred_word old.batch_size w runs.0 (Operates (Store (Root root) 0)) tt runs.1 p))
      by (inr (inr (root, inr is))) =
          (let runs : RunsBy (events_of i (WritesRoot (Used root) 0)) = subst RunsBy is leads.1.runs in
          aside runs.0 runs.2 (log_back deferred_word old.batch_size w runs.0 (Operates (Store (Used root) 0)) tt runs.1 p))

  log_alone : (p : ℕ) → waits_behind p w.log ≡ None → waits_behind p w2.log ≡ None
  log_alone p alone = by leads.1.its
    where
      aside : (v : World (Node K V)) → w2 ≡ v → waits_behind p w.log ≡ waits_behind p v.log → waits_behind p w2.log ≡ None
      aside v is back = ap (λ (z : World (Node K V)). waits_behind p z.log) is ∙ sym back ∙ alone

      by : AreItsRows i leads.1.events ⊎ (((b : ℕ) × (leads.1.events ≡ events_of i (TakesLeft b)))
          ⊎ ((root : ℕ) × ((leads.1.events ≡ events_of i (WritesRoot (Root root) 0)) ⊎ (leads.1.events ≡ events_of i (WritesRoot (Used root) 0))))) → waits_behind p w2.log ≡ None
      by (inl rows) = rows_alone old.batch_size i p leads.1.events rows w w2 here leads.1.runs alone
      by (inr (inl (b, is))) = (let runs : RunsBy (events_of i (TakesLeft b)) = subst RunsBy is leads.1.runs in aside runs.0 runs.2 (log_back deferred_word old.batch_size w runs.0 (Clears i b) tt runs.1 p))
      by (inr (inr (root, inl is))) =
          (let runs : RunsBy (events_of i (WritesRoot (Root root) 0)) = subst RunsBy is leads.1.runs in
          aside runs.0 runs.2 (log_back deferred_word old.batch_size w runs.0 (Operates (Store (Root root) 0)) tt runs.1 p))
      by (inr (inr (root, inr is))) =
          (let runs : RunsBy (events_of i (WritesRoot (Used root) 0)) = subst RunsBy is leads.1.runs in
          aside runs.0 runs.2 (log_back deferred_word old.batch_size w runs.0 (Operates (Store (Used root) 0)) tt runs.1 p))

  -- a block that is there is in the hands in which it was
  same_hand : (b : ℕ) → IsSome (value_at w2.memory b) → w2.hand b ≡ w.hand b
  same_hand b some = (kept_there same hash name m known s whole old new i lists before after told at leads b some).1

  had : (b : ℕ) → w2.hand b ≡ Handed → w.hand b ≡ Handed
  had b has =
      let good = after_it.good in
      let some = value_there deferred_word (LAST_SLOT + 1) w2.memory good.state good.extra b good.shows
      (handed_lives (good.state.life b) (subst (λ (h : Hand). HandFits h (good.state.life b)) has (good.hands b))) in
      sym (same_hand b some) ∙ has

  over_on : (b : ℕ) → IsSome (value_at w2.memory b) → IsHandedOver w b → IsHandedOver w2 b
  over_on b some over = (same_hand b some ∙ over.0, log_alone b over.1)

  due_then : (b : ℕ) → ((j : ℕ) × HasCall s j × IsToHand b (s.world.row j)) → (j : ℕ) × HasCall s2 j × IsToHand b (s2.world.row j)
  due_then b due = absurd (no_call same hash name m known s whole old new i lists before after told at leads due.1.0 due.0 due.1.1 due.1.2)

  -- what is handed over then
  abbrev Comes : List Effect → Known → Type 0
  Comes fs noted = RefinesHanded (with_effects None None fs m) noted s2

  rows_come : (x : Changed) → TellsRow x → LeavesBy w.memory w2.memory x → Comes (effects_of Row known x) (known_after Row x known)
  rows_come x tells l = taking_keeps same name m known s s2 whole waiting handed x tells l had over_on freed_on (λ b len t is table over. no_table b len t table over) due_then
    where
      freed_on : (t b : ℕ) → x ≡ changed.Took t → IsSome (value_at w2.memory b) → waits_behind b w.log ≡ Some t → IsHandedOver w2 b
      freed_on t b is some waits = (
        same_hand b some ∙ has_it deferred_word old.batch_size w before_it.kept b t waits,
        elim (log_free b t waits) as (λ _. waits_behind b w2.log ≡ None) [
          | inl alone ↦ alone
          | inr still ↦ absurd (
              let gone : LeavesBy w.memory w2.memory (changed.Took t) = subst (LeavesBy w.memory w2.memory) is l in
              let good = after_it.kept.good in
              let there = value_there deferred_word (LAST_SLOT + 1) w2.memory good.state good.extra t good.shows
              (carries_lives (good.state.life t) (carries_some deferred_word old.batch_size w2 after_it b t still)) in
              let it : IsSome {T = Node K V} None = subst (λ (q : Option (Node K V)). IsSome q) gone.1 there in cc it
              )
        ],
      )

  idle_comes : ((b : ℕ) → value_at w2.memory b ≡ value_at w.memory b) → Comes [] known
  idle_comes values = rows_come changed.Nothing tt (same_there w.memory w2.memory values)

  root_comes : (x : Changed) → EmptiesRoot x → LeavesBy w.memory w2.memory x → Comes (effects_of Row known x) (known_after Row x known)
  root_comes (changed.Wrote (Root r) was now) empty l =
      let none = root_none same hash name m known s whole old new i lists before after told at leads (names_same was now) (named known was) (named known now) (block_in now)
      (nothing_there same hash name m known s whole old new i lists before after told at leads now empty) in
      subst (λ (fs : List Effect). Comes fs (if names_same was now then known else linked_on Row (block_in now) (named known now) known)) (sym none.0)
      (subst (Comes []) (sym none.1) (idle_comes l.2))
  root_comes (changed.Wrote (Used r) was now) empty l = idle_comes l.2
  root_comes _ empty l = absurd empty

  pub reclaiming_handed : Comes (effects_of Row known new.changed) (known_after Row new.changed known)
  reclaiming_handed =
      let leaves = left same hash name m known s whole old new i lists before after told at leads in
      elim (reclaiming_tells old.memory new.memory new.changed before before.stands (after, told) leads.0)
      as (λ _. Comes (effects_of Row known new.changed) (known_after Row new.changed known)) [
        | inl tells ↦ rows_come new.changed tells leaves
        | inr empties ↦ root_comes new.changed empties leaves
      ]
