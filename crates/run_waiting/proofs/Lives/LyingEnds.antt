-- A step of the end of a map leaves what lies behind tables there, but for what lies behind one that it leaves over, which lies nowhere from then on.
use Rattle.std.specs.Prelude.{◌≡◌, ℕ, Bool, true, List, Some, None}
use Rattle.std.proofs.Common.{refl, ap, sym, subst, ◌∙◌, inl, inr}
use Rattle.run_debts.specs.Given.SeizeLaw.{With, is_somewhere, where_is}
use Rattle.run_debts.specs.Given.SeizeWorld.{Row}
use Rattle.run_debts.specs.Given.SeizeDeclared.rows.settle.Settled.{Settled}
use Rattle.run_debts.specs.Given.SeizeDeclared.rows.settle.Settled.TheVariants as settled
use Rattle.run_debts.proofs.Given.SeizeAloneHistories.NotTaken.{CanBeReached, kept_there}
use Rattle.run_debts.proofs.Given.SeizeAloneHistories.Reached.{Reached, runs_reached}
use Rattle.run_debts.specs.Given.TablesNodes.{deferred_word}
use Rattle.run_debts.specs.Given.TablesDeclared.node.Node.{Node}
use Rattle.run_debts.specs.Given.RawDeclared.machines.end_map.EndMap.{EndMap}
use Rattle.run_debts.specs.Given.RunsDeclared.effect.Effect.{Effect}
use Rattle.run_debts.specs.Given.RunsDeclared.effect.TableId.{TableId}
use Rattle.run_debts.specs.Given.SchedulesEffects.{with_effects}
use Rattle.run_debts.specs.Given.SchedulesLists.{is_among}
use Rattle.run_debts.specs.Given.SchedulesMoment.{Deferral, Moment}
use Rattle.run_debts.specs.Given.SchedulesViews.{behind}
use Rattle.run_debts.specs.Given.EffectsDeclared.changed.Changed.{Changed}
use Rattle.run_debts.specs.Given.EffectsDeclared.changed.Changed.TheVariants as changed
use Rattle.run_debts.proofs.Given.CallersTogether.Came.{came_reached}
use Rattle.run_debts.specs.Given.EffectsEffects.{taken_by, effects_of, known_after}
use Rattle.run_debts.specs.Given.EffectsKnown.{Known}
use Rattle.run_debts.specs.Given.EffectsDeclared.acting.Acting.TheVariants.{Ending}
use Rattle.run_debts.specs.Given.EffectsDeclared.role.Role.{Role}
use Rattle.run_debts.specs.Given.EffectsDeclared.role.Role.TheVariants as role
use Rattle.run_debts.specs.Given.FinishesEndings.{Finishing, StepsOfEnding}
use Rattle.run_debts.specs.Given.FinishesFactsEnds.{events_of}
use Rattle.run_debts.proofs.Given.FollowsAlike.{put_here}
use Rattle.run_debts.proofs.Given.FollowsOnward.{IsOfMap}
use Rattle.run_debts.specs.Given.OthersEndings.{ending_after}
use Rattle.run_debts.specs.Given.MomentsWhole.{RefinesWhole}
use Rattle.run_debts.proofs.Given.MomentsEnds.{says, end_keeps}
use Rattle.run_waiting.specs.Lives.Lying.{RefinesLying, EndingsPreserveLying}
use Rattle.run_waiting.specs.Lives.Waiting.{IsPutting}
use Rattle.run_waiting.proofs.Lives.Lying.{behind_other, lying_on}
use Rattle.run_waiting.proofs.Lives.WaitingEnds.{calm_deferred}
use Rattle.run_debts.specs.Given.ScenesEnding.{EndingHasOutcome, EndingStepsFrom}
use Rattle.run_debts.specs.Given.ScenesHeld.{Held, IsAt}
use Rattle.run_debts.specs.Given.ScenesScene.{Scene, slot_of}

module _ {K V : Type 0} (same : K → K → Bool) (hash : ℕ → K → ℕ) (name : ℕ → List ℕ) (m : Moment K V) (known : Known) (s : Scene K V) (old new : Held K V) (at : IsAt same hash old s)
    (whole : RefinesWhole same name m known s) (shows : RefinesLying m known s.world) (i : ℕ) (f : Finishing K V) (here : s.enders i ≡ Some f) (end : EndMap) (said : Settled (Node K V))
    (steps : EndingStepsFrom f.machine old new end said)
    (did : StepsOfEnding V same same old.batch_size old.roots slot_of s.world s.maps s.calls s.makers s.enders i f new.memory (end, said))
    (map : ℕ) (not_there : s.maps map ≡ None) (comes : EndingHasOutcome same hash s new i f end did.w2 did.deed said) where
  abbrev told : Changed
  told = new.changed

  abbrev known2 : Known
  known2 = known_after (Ending map) told known

  abbrev effects : List Effect
  effects = effects_of (Ending map) known told

  abbrev v : Moment K V
  v = with_effects None (Some map) effects m

  after : Reached deferred_word old.batch_size did.w2
  after = runs_reached deferred_word old.batch_size (events_of i did.deed) s.world did.w2 (came_reached old.batch_size s.world at.together.makings.standing.came) did.runs

  was_table : (c len : ℕ) (t : TableId) → known2.roles c ≡ role.Table t len → known.roles c ≡ role.Table t len
  was_table c len t is = sym ((end_keeps same hash name m known s old new at whole i f here end said steps did map not_there comes).0 c (subst IsOfMap (sym is) tt)) ∙ is

  -- what lies behind a block is there, and is what it was
  still_pair : (b c n : ℕ) → where_is b did.w2.log ≡ With c → known.roles b ≡ role.Pair n → known2.roles b ≡ role.Pair n
  still_pair b c n lies is =
      (end_keeps same hash name m known s old new at whole i f here end said steps did map not_there comes).1 b
      (kept_there deferred_word old.batch_size did.w2 after b (CanBeReached (ap is_somewhere lies))) (subst IsOfMap (sym is) tt) ∙ is

  -- what waits behind a table that is left does so still
  module _ (c len n : ℕ) (t : TableId) (is : known2.roles c ≡ role.Table t len) (was : known.roles c ≡ role.Table t len) (among : is_among n (behind t m.deferred) ≡ true) where
    taken_among : (x : ℕ) → told ≡ changed.Took x → (r : Role) → known.roles x ≡ r → is_among n (behind t (with_effects None (Some map) (taken_by (Ending map) r) m).deferred) ≡ true
    taken_among x took role.Free e = among
    taken_among x took (role.OwnPair j) e = among
    taken_among x took (role.OwnTable turn shape) e = among
    taken_among x took (role.Pair k) e = among
    taken_among x took (role.Counter of) e = among
    taken_among x took (role.Table u k) e = behind_other n t u other m.deferred among
      where
        other : t ≡ u → ⊥
        other one =
            let one_block : c ≡ x = whole.blocks.tables_once c x len k t was (e ∙ ap (λ (y : TableId). role.Table y k) (sym one)) in
            let gone : (known_after (Ending map) (changed.Took x) known).roles c ≡ role.Table t len = ap (λ (y : Changed). (known_after (Ending map) y known).roles c) (sym took) ∙ is in
            subst IsOfMap (put_here x role.Free known.roles c one_block) (subst IsOfMap (sym gone) tt)

    pub still_among : is_among n (behind t v.deferred) ≡ true
    still_among = elim (says same hash name m known s old new at whole i f here end said steps did map not_there comes) as (λ _. is_among n (behind t v.deferred) ≡ true) [
      | inl it ↦ ap (λ (ds : List Deferral). is_among n (behind t ds)) (calm_deferred (Some map) effects m it.0) ∙ among
      | inr it ↦
          subst (λ (x : Changed). is_among n (behind t (with_effects None (Some map) (effects_of (Ending map) known x) m).deferred) ≡ true) (sym it.1) (taken_among it.0 it.1 (known.roles it.0) refl)
    ]

  lies_then : RefinesLying v known2 did.w2
  lies_then =
      lying_on m v known known2 s.world did.w2 shows (λ b c lies. did.spares.behind b c lies) (λ b c len t lies is. was_table c len t is) still_pair
      (λ c len n t is was among. still_among c len n t is was among) (λ j b c puts. subst (λ (g : ℕ → Row). IsPutting b c (g j)) (sym did.spares.rows) puts)

  pub lying_then : (x : Settled (Node K V)) (it : EndingHasOutcome same hash s new i f end did.w2 did.deed x) → RefinesLying v known2 (ending_after same hash s new i f end did.w2 did.deed x it).world
  lying_then settled.Goes it = lies_then
  lying_then settled.Waits it = absurd it
  lying_then (settled.Gave value) it = lies_then
  lying_then settled.Done it = lies_then

pub endings_keep_lying : (K V : Type 0) (same : K → K → Bool) (hash : ℕ → K → ℕ) → EndingsPreserveLying K V same hash
endings_keep_lying K V same hash name m known s old new at whole shows i told leads f here map not_there =
    let to = leads f here in lying_then same hash name m known s old new at whole shows i f here to.0 told to.1 to.2 map not_there to.3 told to.3
