-- A step of a call that is none of a row leaves what waits behind tables there.
use Rattle.std.specs.Prelude.{◌≡◌, ℕ, ◌≤◌, Bool, List, [], ◌∷◌, length, Option, Some}
use Rattle.std.proofs.Common.{refl, ap, sym, subst, ◌∙◌, arith, inl, inr}
use Rattle.run_debts.specs.Given.SeizeWorld.{World, Event, Runs}
use Rattle.run_debts.specs.Given.TablesNodes.{deferred_word}
use Rattle.run_debts.specs.Given.TablesDeclared.node.Node.{Node}
use Rattle.run_debts.specs.Given.RawDeclared.machines.progress.Progress.{Progress}
use Rattle.run_debts.specs.Given.RunsDeclared.effect.Effect.{Effect}
use Rattle.run_debts.specs.Given.RunsDeclared.effect.Effect.TheVariants.{Asked, PairMade, PairGivenUp, TableMade, TableGivenUp, Linked, Promoted, Copied, Stored, Replaced, Removed, Counted, Deferred, Retired, Reclaimed, Ended, Taken}
use Rattle.run_debts.specs.Given.RunsDeclared.effect.TableId.{TableId}
use Rattle.run_debts.specs.Given.SchedulesEffects.{in_map, place_by, deferred_by, with_effect, with_effects, AtEachEffect}
use Rattle.run_debts.specs.Given.SchedulesMoment.{Out, Behind, Moment}
use Rattle.run_debts.specs.Given.RuleInWorld.{AllUsers}
use Rattle.run_debts.specs.Given.CallersTogether.{UnderWay, OnKey, ForRoom, Counting, OverAll}
use Rattle.run_debts.specs.Given.EffectsEffects.{effects_of, known_after}
use Rattle.run_debts.specs.Given.EffectsKnown.{Known}
use Rattle.run_debts.specs.Given.EffectsDeclared.acting.Acting.TheVariants.{Call}
use Rattle.run_debts.specs.Given.EffectsDeclared.role.Role.{Role}
use Rattle.run_debts.specs.Given.EffectsDeclared.role.Role.TheVariants as role
use Rattle.run_debts.specs.Given.FollowsBlocks.{HasRole}
use Rattle.run_debts.specs.Given.FollowsFinds.{FindsMap}
use Rattle.run_debts.proofs.Given.FollowsAlike.{put_elsewhere}
use Rattle.run_debts.proofs.Given.FollowsContents.{pair_within}
use Rattle.run_debts.proofs.Given.FollowsOnward.{IsLasting, KeepsRoles}
use Rattle.run_debts.proofs.Given.FollowsSteps.{WentTo, went_to, DidSo, OfNoRow, step_shown}
use Rattle.run_debts.proofs.Given.HandsSteps.{calls_store_theirs}
use Rattle.run_debts.proofs.Given.SpotsElsewhere.{stored_grows}
use Rattle.run_debts.proofs.Given.SpotsHanding.{HandsNothing, AllHandNothing}
use Rattle.run_debts.proofs.Given.SpotsSteps.{hands_nothing}
use Rattle.run_debts.specs.Given.MomentsWhole.{RefinesWhole}
use Rattle.run_waiting.specs.Lives.Behind.{IsDeferredTo, RefinesWaiting}
use Rattle.run_waiting.specs.Lives.Steps.{CallsPreserveWaiting}
use Rattle.run_waiting.proofs.Lives.Users.{users_keep_waiting}
use Rattle.run_debts.specs.Given.ScenesHeld.{Held, IsAt}
use Rattle.run_debts.specs.Given.ScenesScene.{Scene}
use Rattle.run_debts.specs.Given.ScenesStepping.{StepLeads}

module _ {K V : Type 0} (map : ℕ) (caller : Option (List ℕ)) (acted : Option ℕ) where
  -- the same pairs wait
  deferred_one : (f : Effect) (m : Moment K V) → HandsNothing f → deferred_by f m.deferred ≡ m.deferred
  deferred_one (Deferred n t) m hands = absurd hands
  deferred_one (Retired x) m hands = absurd hands
  deferred_one (Reclaimed x) m hands = absurd hands
  deferred_one (Ended n) m hands = absurd hands
  deferred_one (Taken t) m hands = absurd hands
  deferred_one (Stored n s) m hands = refl
  deferred_one (Replaced n) m hands = refl
  deferred_one (Removed n) m hands = refl
  deferred_one (Asked growth) m hands = refl
  deferred_one PairMade m hands = refl
  deferred_one PairGivenUp m hands = refl
  deferred_one (TableMade t) m hands = refl
  deferred_one (TableGivenUp t) m hands = refl
  deferred_one (Linked t shape) m hands = refl
  deferred_one (Promoted t) m hands = refl
  deferred_one (Copied n s) m hands = refl
  deferred_one (Counted s) m hands = refl

  same_deferred : (effects : List Effect) (m : Moment K V) → AllHandNothing effects → (with_effects caller acted effects m).deferred ≡ m.deferred
  same_deferred [] m hands = refl
  same_deferred (f ∷ effects) m hands = same_deferred effects (with_effect caller acted f m) hands.1 ∙ deferred_one f m hands.0

  -- what is behind a table was stored, and is in no map: so it stays there
  behind_one : (f : Effect) (m : Moment K V) → HandsNothing f → FindsMap map m f → (n : ℕ) → n ≤ length m.stored → m.place n ≡ Behind → place_by acted m.deferred f m.place n ≡ Behind
  behind_one (Deferred k t) m hands finds n l is = absurd hands
  behind_one (Retired x) m hands finds n l is = absurd hands
  behind_one (Reclaimed x) m hands finds n l is = absurd hands
  behind_one (Ended k) m hands finds n l is = absurd hands
  behind_one (Taken t) m hands finds n l is = absurd hands
  behind_one (Stored k s) m hands finds n l is = put_elsewhere k (in_map acted) m.place n (λ e. let at_k = finds.0 in omega (arith, e, at_k, l)) ∙ is
  behind_one (Replaced k) m hands finds n l is = put_elsewhere k Out m.place n (λ e. (let both = sym is ∙ ap m.place e ∙ finds in cc both)) ∙ is
  behind_one (Removed k) m hands finds n l is = put_elsewhere k Out m.place n (λ e. (let both = sym is ∙ ap m.place e ∙ finds in cc both)) ∙ is
  behind_one (Asked growth) m hands finds n l is = is
  behind_one PairMade m hands finds n l is = is
  behind_one PairGivenUp m hands finds n l is = is
  behind_one (TableMade t) m hands finds n l is = is
  behind_one (TableGivenUp t) m hands finds n l is = is
  behind_one (Linked t shape) m hands finds n l is = is
  behind_one (Promoted t) m hands finds n l is = is
  behind_one (Copied k s) m hands finds n l is = is
  behind_one (Counted s) m hands finds n l is = is

  still_behind : (effects : List Effect) (m : Moment K V) → AllHandNothing effects → AtEachEffect (FindsMap map) caller acted effects m
      → (n : ℕ) → n ≤ length m.stored → m.place n ≡ Behind → (with_effects caller acted effects m).place n ≡ Behind
  still_behind [] m hands finds n l is = is
  still_behind (f ∷ effects) m hands finds n l is =
      still_behind effects (with_effect caller acted f m) hands.1 finds.1 n (let more = stored_grows caller acted (f ∷ []) m in omega (arith, l, more)) (behind_one f m hands.0 finds.0 n l is)

module _ {K V : Type 0} (same : K → K → Bool) (hash : ℕ → K → ℕ) (name : ℕ → List ℕ) (m : Moment K V) (known : Known) (s : Scene K V) (old new : Held K V) (at : IsAt same hash old s)
    (whole : RefinesWhole same name m known s) (waiting : RefinesWaiting m known s.world) (map i : ℕ) (u : UnderWay K V K) (here : s.calls map i ≡ Some u) (told : Progress (Node K V))
    (leads : StepLeads same hash i told s old new) where
  abbrev to : WentTo same hash name m known s old new at whole.all.shown map i u here told leads
  to = went_to same hash name m known s old new at whole.all.shown map i u here told leads

  abbrev effects : List Effect
  effects = effects_of (Call i map) known new.changed

  abbrev v : Moment K V
  v = with_effects (Some (name i)) (Some map) effects m

  abbrev known2 : Known
  known2 = known_after (Call i map) new.changed known

  module _ (hands : AllHandNothing effects) (finds : AtEachEffect (FindsMap map) (Some (name i)) (Some map) effects m) (keeps : KeepsRoles known known2) where
    kept : (x : ℕ) (r : Role) → known.roles x ≡ r → IsLasting r → known2.roles x ≡ r
    kept x r e its = keeps x (subst IsLasting (sym e) its) ∙ e

    was_stored : (n : ℕ) (t : TableId) (l : IsDeferredTo known s.world n t) → n ≤ length m.stored
    was_stored n t l =
        let has = subst (λ (r : Role). HasRole s.world m.stored l.pair r) l.is_pair (whole.all.shown.blocks.roles l.pair) in
        pair_within m.stored n (has.0, has.1) has.2

    by_events : (w2 : World (Node K V)) → to.4.w2 ≡ w2 → (events : List (Event (Node K V))) → AllUsers events → Runs deferred_word to.0.setting.batch_size events s.world w2 → RefinesWaiting v known2 to.4.w2
    by_events w2 is events users runs =
        subst (λ (z : World (Node K V)). RefinesWaiting v known2 z) (sym is)
        (users_keep_waiting K V to.0.setting.batch_size m v known known2 s.world w2 (at.together.makings.standing.each map to.0 to.2).ground.came waiting events users runs (same_deferred map (Some (name i)) (Some map) effects m hands)
        (λ n t l behind. still_behind map (Some (name i)) (Some map) effects m hands finds n (was_stored n t l) behind)
        (λ x n e. kept x (role.Pair n) e tt) (λ x len t e. kept x (role.Table t len) e tt))

    by_did : (x : UnderWay K V K) (did : DidSo same hash name m known s old new at whole.all.shown map i u here told leads x)
        → OfNoRow same hash name m known s old new at whole.all.shown map i u here told leads x did → RefinesWaiting v known2 to.4.w2
    by_did (OnKey x) (p2, end, machine_is, told_is, inl (step, moved)) own = by_events step.step.went.w2 moved.0 step.step.went.events step.step.went.users step.step.went.runs
    by_did (OnKey x) (p2, end, machine_is, told_is, inr (row, stayed)) own = absurd own
    by_did (ForRoom x) (p2, end, machine_is, told_is, inl (step, moved)) own = by_events step.step.went.w2 moved.0 step.step.went.events step.step.went.users step.step.went.runs
    by_did (ForRoom x) (p2, end, machine_is, told_is, inr (row, stayed)) own = absurd own
    by_did (Counting x) (p2, end, machine_is, told_is, still, stayed) own = by_events s.world stayed.0 [] tt refl
    by_did (OverAll x) (p2, end, machine_is, told_is, inl (step, moved)) own = by_events step.step.went.w2 moved.0 step.step.went.events step.step.went.users step.step.went.runs
    by_did (OverAll x) (p2, end, machine_is, told_is, inr (row, stayed)) own = absurd own

-- the same pairs wait after it
pub calls_keep_list : {K V : Type 0} (same : K → K → Bool) (hash : ℕ → K → ℕ) (name : ℕ → List ℕ) (m : Moment K V) (known : Known) (s : Scene K V) (old new : Held K V)
    (at : IsAt same hash old s) (whole : RefinesWhole same name m known s) (map i : ℕ) (u : UnderWay K V K) (here : s.calls map i ≡ Some u) (told : Progress (Node K V))
    (leads : StepLeads same hash i told s old new)
    → OfNoRow same hash name m known s old new at whole.all.shown map i u here told leads u (leads map u here).4.did
    → (with_effects (Some (name i)) (Some map) (effects_of (Call i map) known new.changed) m).deferred ≡ m.deferred
calls_keep_list same hash name m known s old new at whole map i u here told leads own =
    let hands = hands_nothing same hash name m known s old new at whole.all.shown map i u here told leads own in
    same_deferred map (Some (name i)) (Some map) (effects_of (Call i map) known new.changed) m hands

pub calls_keep_waiting : (K V : Type 0) (same : K → K → Bool) (hash : ℕ → K → ℕ) → CallsPreserveWaiting K V same hash
calls_keep_waiting K V same hash name m known s old new at whole waiting map i u here told leads own =
    let hands = hands_nothing same hash name m known s old new at whole.all.shown map i u here told leads own in
    let stores = (calls_store_theirs K V same hash name m known s old new at whole.all map i u here told leads own).0 in
    let led = step_shown same hash name m known s old new at whole.all.shown map i u here told leads own stores in
    by_did same hash name m known s old new at whole waiting map i u here told leads hands led.0 led.1.keeps u (leads map u here).4.did own
