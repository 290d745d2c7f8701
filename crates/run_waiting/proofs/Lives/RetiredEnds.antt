-- The tables that the collector has after a step of the end of a map are retired, or rows within calls are to retire them.
use Rattle.std.specs.Prelude.{◌≡◌, ◌⊎◌, ℕ, zero, suc, ◌+◌, Bool, true, List, [], ◌∷◌, Option, Some, None, IsSome}
use Rattle.std.proofs.Common.{refl, ap, sym, subst, ◌∙◌, inl, inr, arith}
use Rattle.run_debts.specs.Given.SeizeWordsMem.{value_at}
use Rattle.run_debts.specs.Given.SeizeDeclared.rows.settle.Settled.{Settled}
use Rattle.run_debts.specs.Given.SeizeDeclared.rows.settle.Settled.TheVariants as settled
use Rattle.run_debts.specs.Given.SeizeDeclared.states.TheConstants.{LAST_SLOT}
use Rattle.run_debts.specs.Given.SeizeWorld.{World, Row, Hand, LeftTo, Handed, times}
use Rattle.run_debts.proofs.Given.SeizeRulePoints.Aside.{HandFits}
use Rattle.run_debts.proofs.Given.SeizeMemoryWords.There.{value_there}
use Rattle.run_debts.proofs.Given.SeizeAloneHistories.Reached.{Reached, runs_reached}
use Rattle.run_debts.specs.Given.TablesNodes.{deferred_word}
use Rattle.run_debts.specs.Given.TablesDeclared.node.Node.{Node}
use Rattle.run_debts.specs.Given.RawDeclared.machines.end_map.EndMap.{EndMap}
use Rattle.run_debts.specs.Given.RunsDeclared.effect.Effect.{Effect}
use Rattle.run_debts.specs.Given.RunsDeclared.effect.Effect.TheVariants.{Reclaimed, Taken}
use Rattle.run_debts.specs.Given.RunsDeclared.effect.TableId.{TableId}
use Rattle.run_debts.specs.Given.RunsDeclared.effect.Thing.TheVariants.{APair, ATable}
use Rattle.run_debts.specs.Given.SchedulesEffects.{with_effects}
use Rattle.run_debts.specs.Given.SchedulesMoment.{Moment}
use Rattle.run_debts.specs.Given.SchedulesViews.{is_stage, is_retired}
use Rattle.run_debts.specs.Given.EffectsDeclared.changed.Changed.{Changed}
use Rattle.run_debts.specs.Given.EffectsDeclared.changed.Changed.TheVariants as changed
use Rattle.run_debts.specs.Given.CallersTogether.{UnderWay}
use Rattle.run_debts.proofs.Given.CallersTogether.Came.{came_reached}
use Rattle.run_debts.proofs.Given.CallersTogether.Slots.{between_rows}
use Rattle.run_debts.specs.Given.EffectsEffects.{effects_of, known_after}
use Rattle.run_debts.specs.Given.EffectsKnown.{Known}
use Rattle.run_debts.specs.Given.EffectsDeclared.acting.Acting.TheVariants.{Ending}
use Rattle.run_debts.specs.Given.EffectsDeclared.role.Role.TheVariants as role
use Rattle.run_debts.specs.Given.FinishesEndings.{Finishing, StepsOfEnding}
use Rattle.run_debts.specs.Given.FinishesFactsEnds.{events_of, taken_by as taken_of, left_by}
use Rattle.run_debts.proofs.Given.FollowsAlike.{is_calm, AllCalm, put_here}
use Rattle.run_debts.proofs.Given.FollowsOnward.{IsOfMap}
use Rattle.run_debts.specs.Given.OthersEndings.{ending_after}
use Rattle.run_debts.specs.Given.MomentsWhole.{RefinesWhole}
use Rattle.run_debts.proofs.Given.MomentsEnds.{says, end_keeps}
use Rattle.run_debts.proofs.Given.MomentsOnSlots.{none_some}
use Rattle.run_waiting.specs.Lives.Retired.{IsToRetire, RefinesRetiredTables, EndingsPreserveRetired}
use Rattle.run_waiting.proofs.Lives.Stages.{EndsIt, NoneEnds, still_retired, taken_ends}
use Rattle.run_debts.proofs.Given.ScenesBetween.{deed_between}
use Rattle.run_debts.specs.Given.ScenesEnding.{EndingHasOutcome, EndingStepsFrom}
use Rattle.run_debts.specs.Given.ScenesHeld.{Held, IsAt}
use Rattle.run_debts.specs.Given.ScenesScene.{HasCall, Scene, slot_of}
use Rattle.run_debts.proofs.Given.FinishesBeside.Makings.Outs.{handed_lives}

calm_ends : (t : TableId) (f : Effect) → is_calm f ≡ true → EndsIt t f → ⊥
calm_ends t (Reclaimed (ATable u)) calm ends = absurd (cc calm)
calm_ends t (Reclaimed (APair n)) calm ends = ends
calm_ends t (Taken u) calm ends = absurd (cc calm)
calm_ends t _ calm ends = ends

calm_end : (t : TableId) (effects : List Effect) → AllCalm effects → NoneEnds t effects
calm_end t [] all = tt
calm_end t (f ∷ effects) all = (calm_ends t f all.0, calm_end t effects all.1)

module _ {K V : Type 0} (same : K → K → Bool) (hash : ℕ → K → ℕ) (name : ℕ → List ℕ) (m : Moment K V) (known : Known) (s : Scene K V) (old new : Held K V) (at : IsAt same hash old s)
    (whole : RefinesWhole same name m known s) (shows : RefinesRetiredTables m known s) (i : ℕ) (f : Finishing K V) (here : s.enders i ≡ Some f) (end : EndMap) (said : Settled (Node K V))
    (steps : EndingStepsFrom f.machine old new end said)
    (did : StepsOfEnding V same same old.batch_size old.roots slot_of s.world s.maps s.calls s.makers s.enders i f new.memory (end, said))
    (map : ℕ) (not_there : s.maps map ≡ None) (comes : EndingHasOutcome same hash s new i f end did.w2 did.deed said) where
  abbrev told : Changed
  told = new.changed

  abbrev known2 : Known
  known2 = known_after (Ending map) told known

  abbrev v : Moment K V
  v = with_effects None (Some map) (effects_of (Ending map) known told) m

  after : Reached deferred_word old.batch_size did.w2
  after = runs_reached deferred_word old.batch_size (events_of i did.deed) s.world did.w2 (came_reached old.batch_size s.world at.together.makings.standing.came) did.runs

  -- the collector had what it has
  pub handed_before : (b : ℕ) → did.w2.hand b ≡ Handed → s.world.hand b ≡ Handed
  handed_before b handed = by (times b (taken_of did.deed)) refl
    where
      there : IsSome (value_at did.w2.memory b)
      there = value_there deferred_word (LAST_SLOT + 1) did.w2.memory after.good.state after.good.extra b after.good.shows
          (handed_lives (after.good.state.life b) (subst (λ (h : Hand). HandFits h (after.good.state.life b)) handed (after.good.hands b)))

      kept : times b (taken_of did.deed) ≡ 0 → (n : ℕ) → times b (left_by did.deed) ≡ n → s.world.hand b ≡ Handed
      kept none zero e = sym (did.spares.hands b none e) ∙ handed
      kept none (suc n) e = absurd (let its : LeftTo i ≡ Handed = sym (did.spares.left b (omega (arith, e))) ∙ handed in cc its)

      by : (n : ℕ) → times b (taken_of did.deed) ≡ n → s.world.hand b ≡ Handed
      by zero e = kept e (times b (left_by did.deed)) refl
      by (suc n) e = absurd (none_some (value_at did.w2.memory b) there (did.spares.gone b (omega (arith, e))))

  was_table : (b len : ℕ) (t : TableId) → known2.roles b ≡ role.Table t len → known.roles b ≡ role.Table t len
  was_table b len t is = sym ((end_keeps same hash name m known s old new at whole i f here end said steps did map not_there comes).0 b (subst IsOfMap (sym is) tt)) ∙ is

  ends_none : (b len : ℕ) (t : TableId) → known2.roles b ≡ role.Table t len → NoneEnds t (effects_of (Ending map) known told)
  ends_none b len t is = elim (says same hash name m known s old new at whole i f here end said steps did map not_there comes) as (λ _. NoneEnds t (effects_of (Ending map) known told)) [
    | inl it ↦ calm_end t (effects_of (Ending map) known told) it.0
    | inr it ↦
        let gone : (known_after (Ending map) (changed.Took it.0) known).roles b ≡ role.Table t len = ap (λ (x : Changed). (known_after (Ending map) x known).roles b) (sym it.1) ∙ is in
        subst (λ (x : Changed). NoneEnds t (effects_of (Ending map) known x)) (sym it.1)
        (taken_ends t (Ending map) (known.roles it.0) (λ u n its_table one.
        let same_one = whole.blocks.tables_once b it.0 len n t (was_table b len t is) (its_table ∙ ap (λ (y : TableId). role.Table y n) one) in
        subst IsOfMap (put_here it.0 role.Free known.roles b same_one) (subst IsOfMap (sym gone) tt)))
  ]

  shown_then : (s2 : Scene K V) → s2.world ≡ did.w2 → s2.calls ≡ s.calls → RefinesRetiredTables v known2 s2
  shown_then s2 world calls = record {
    tables = λ b len t is handed.
        let before = handed_before b (sym (ap (λ (z : World (Node K V)). z.hand b) world) ∙ handed) in
        elim (shows.tables b len t (was_table b len t is) before) as (λ _. (is_stage is_retired t v ≡ true) ⊎ ((j : ℕ) × HasCall s2 j × IsToRetire b (s2.world.row j))) [
          | inl so ↦ inl (still_retired t None (Some map) (effects_of (Ending map) known told) m (ends_none b len t is) so)
          | inr due ↦
              let rows = ap (λ (z : World (Node K V)). z.row due.0) world
              ∙ ap (λ (g : ℕ → Row). g due.0) (between_rows deferred_word old.batch_size (events_of i did.deed) s.world did.w2 (deed_between (Node K V) i did.deed) did.runs) in
              inr (due.0, (due.1.0, due.1.1, ap (λ (g : ℕ → ℕ → Option (UnderWay K V K)). g due.1.0 due.0) calls ∙ due.1.2), subst (IsToRetire b) (sym rows) due.2)
        ];
    lengths = λ b len t is. shows.lengths b len t (was_table b len t is);
  }

  pub retired_then : (x : Settled (Node K V)) (it : EndingHasOutcome same hash s new i f end did.w2 did.deed x) → RefinesRetiredTables v known2 (ending_after same hash s new i f end did.w2 did.deed x it)
  retired_then settled.Goes it = shown_then _ refl refl
  retired_then settled.Waits it = absurd it
  retired_then (settled.Gave value) it = shown_then _ refl refl
  retired_then settled.Done it = shown_then _ refl refl

pub endings_keep_retired : (K V : Type 0) (same : K → K → Bool) (hash : ℕ → K → ℕ) → EndingsPreserveRetired K V same hash
endings_keep_retired K V same hash name m known s old new at whole shows i told leads f here map not_there =
    let to = leads f here in retired_then same hash name m known s old new at whole shows i f here to.0 told to.1 to.2 map not_there to.3 told to.3
