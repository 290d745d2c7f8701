-- What a step of a call that is none of a row takes out of its map: a pair that it removes or replaces, or the tables that the root passes; it hands nothing over.
use Rattle.std.specs.Prelude.{◌≡◌, ℕ, ◌+◌, Bool, true, false, ◌||◌, List, [], ◌∷◌, ◌++◌, Some}
use Rattle.std.specs.List.{list_any}
use Rattle.std.proofs.Common.{refl, ap, sym, subst, ◌∙◌, inl, inr}
use Rattle.std.proofs.lemmas.List.{append-nil}
use Rattle.run_places.specs.Given.SeizeWordsDeclared.at.At.{At}
use Rattle.run_places.specs.Given.SeizeWordsMem.{Mem}
use Rattle.run_places.specs.Given.SeizeWorld.{World, IsInside}
use Rattle.run_places.specs.Given.TablesDeclared.node.Node.{Node}
use Rattle.run_places.specs.Given.TablesDeclared.setting.Setting.{Setting}
use Rattle.run_places.specs.Given.RawDeclared.machines.progress.Progress.{Progress}
use Rattle.run_places.specs.Given.RunsDeclared.effect.Effect.{Effect}
use Rattle.run_places.specs.Given.RunsDeclared.effect.Effect.TheVariants as effect
use Rattle.run_places.specs.Given.RunsDeclared.effect.Thing.{Thing}
use Rattle.run_places.specs.Given.RunsDeclared.effect.Thing.TheVariants.{APair}
use Rattle.run_places.specs.Given.SchedulesMoment.{Moment}
use Rattle.run_places.specs.Given.EffectsDeclared.changed.Changed.{Changed}
use Rattle.run_places.specs.Given.EffectsDeclared.changed.Changed.TheVariants as changed
use Rattle.run_places.specs.Given.TellsSeen.{Seen, Unseen, Wrote, seen_of}
use Rattle.run_places.specs.Given.TellsTells.{IsObserved}
use Rattle.run_places.proofs.Given.TellsPromised.{operations_tell, still_steps_tell}
use Rattle.run_places.specs.Given.RuleChart.{Chart}
use Rattle.run_places.specs.Given.RuleInWorld.{IsMapIn, Moved, StepSpec}
use Rattle.run_places.specs.Given.RuleMoves.{Move, Links, Stores, Replaces, Removes, Marks, MarksBlocking, Skips, Unmarks, Puts, Covers, PutsLate, Claims, Reclaims, Counts, GivesUp, Aborts, Promotes, Announces}
use Rattle.run_places.specs.Given.RuleWords.{Blocks}
use Rattle.run_places.proofs.Given.RuleWorld.WentTold.{went_as}
use Rattle.owner_facts.specs.Given.PointsSteps.{AreLawful}
use Rattle.owner_facts.specs.Given.CallersSights.{Visible, seen_by, IsGrown, IsVisibility}
use Rattle.owner_facts.specs.Given.CallersTogether.{UnderWay, OnKey, ForRoom, Counting, OverAll, in_slot, Together}
use Rattle.owner_facts.proofs.Given.CallersSights.Seen.{map_seen}
use Rattle.owner_facts.proofs.Given.CallersTogether.Fits.{map_in_slot}
use Rattle.run_places.specs.Given.EffectsEffects.{effects_of}
use Rattle.run_places.specs.Given.EffectsKnown.{Known}
use Rattle.run_places.specs.Given.EffectsDeclared.acting.Acting.TheVariants.{Call}
use Rattle.owner_facts.specs.Given.FinishesMaps.{Standing}
use Rattle.run_places.specs.Given.FollowsShows.{Refines}
use Rattle.run_places.proofs.Given.FollowsAlike.{is_calm, AllCalm}
use Rattle.run_places.proofs.Given.FollowsOperations.{LeavesBy, Operated, operated_leaves, seen_write, told_write}
use Rattle.run_places.proofs.Given.FollowsSteps.{WentTo, went_to, made_so, DidSo, OfNoRow}
use Rattle.run_places.proofs.Spots.Done.{DidBy, DidMoved, did_moved}
use Rattle.run_places.proofs.Spots.Steps.{stayed_calm}
use Rattle.run_debts.specs.Owing.{hands_over, leaves_owed, AllLeave, ObligationsGo, KeepsOwed, TakesOut, PutsOver, Passes, StepsTakeOut}
use Rattle.run_places.specs.Given.ScenesHeld.{Held, IsAt}
use Rattle.run_places.specs.Given.ScenesScene.{Scene, slot_of}
use Rattle.run_places.specs.Given.ScenesStepping.{StepLeads}

-- calm effects leave what is owed, and hand nothing over
calm_leaves : (f : Effect) → is_calm f ≡ true → (leaves_owed f ≡ true) × (hands_over f ≡ false)
calm_leaves (effect.Promoted t) e = absurd (cc e)
calm_leaves (effect.Replaced n) e = absurd (cc e)
calm_leaves (effect.Removed n) e = absurd (cc e)
calm_leaves (effect.Deferred n t) e = absurd (cc e)
calm_leaves (effect.Retired x) e = absurd (cc e)
calm_leaves _ e = (refl, refl)

pub all_calm : (effects : List Effect) → AllCalm effects → AllLeave effects × (list_any hands_over effects ≡ false)
all_calm [] all = (tt, refl)
all_calm (f ∷ fs) all = let one = calm_leaves f all.0 in let rest = all_calm fs all.1 in ((one.0, rest.0), ap (λ (q : Bool). q || list_any hands_over fs) one.1 ∙ rest.1)

module _ {K V : Type 0} (same : K → K → Bool) (hash : ℕ → K → ℕ) (m : Moment K V) (known : Known) (s : Scene K V) (old new : Held K V) (at : IsAt same hash old s)
    (name : ℕ → List ℕ) (shown : Refines same name m known s) (map i : ℕ) (standing : Standing K) (there : s.maps map ≡ Some standing) (made : Operated s.world.memory new.memory new.changed) (owes : List Thing) where
  abbrev m2 : Mem (Node K V)
  m2 = new.memory

  abbrev told : Changed
  told = new.changed

  abbrev w : World (Node K V)
  w = s.world

  abbrev effects : List Effect
  effects = effects_of (Call i map) known told

  abbrev setting : Setting
  setting = in_slot standing.setting (slot_of i)

  abbrev sight : Visible
  sight = standing.sights (slot_of i)

  -- what it takes out comes behind what the call owed, and it hands nothing over
  abbrev pub TakesMore : Type 0
  TakesMore = (taken : List Thing) × ObligationsGo m effects owes (owes ++ taken) × (list_any hands_over effects ≡ false)

  one_leaves : (f : Effect) → leaves_owed f ≡ true → hands_over f ≡ false → effects ≡ f ∷ [] → TakesMore
  one_leaves f leaves none are = ([], KeepsOwed (subst AllLeave (sym are) (leaves, tt)) (append-nil owes), ap (list_any hands_over) are ∙ ap (λ (q : Bool). q || false) none)

  calm_takes : AllCalm effects → TakesMore
  calm_takes calm = let all = all_calm effects calm in ([], KeepsOwed all.0 (append-nil owes), all.1)

  here : Together V same standing.hash same standing.setting slot_of w standing.chart standing.blocks standing.sights (s.calls map)
  here = at.together.makings.standing.each map standing there

  lawful : AreLawful same standing.hash
  lawful = (at.together.makings.standing.fit map standing there).0

  left : LeavesBy w.memory m2 told
  left = operated_leaves w.memory m2 told made

  module _ (inside : IsInside (w.uses (slot_of i))) (Told : World (Node K V) → Chart K → Blocks → Type 0)
      (had : StepSpec same standing.hash setting i w standing.chart (seen_by standing.blocks sight) m2 Told)
      (blocks2 : Blocks) (grown : IsGrown standing.chart standing.blocks had.blocks2 blocks2) (sights2 : ℕ → Visible) where
    is_sight : IsVisibility standing.chart standing.blocks sight
    is_sight = (here.ground.sight (slot_of i) inside).0

    is_map : IsMapIn same standing.hash setting w standing.chart (seen_by standing.blocks sight)
    is_map = map_seen same standing.hash setting w standing.chart standing.blocks sight (map_in_slot same standing.hash standing.setting w standing.chart standing.blocks (slot_of i) here.ground.map) is_sight

    abbrev went : StepSpec same standing.hash setting i w standing.chart (seen_by standing.blocks sight) m2 (λ w2 c2 blocks2. Unit {0})
    went = went_as same standing.hash setting i w standing.chart (seen_by standing.blocks sight) m2 Told (λ w2 c2 blocks2. Unit {0}) (λ w2 c2 blocks2 map moved alike told. tt) had

    abbrev DidIt : Moved same standing.hash setting.mode i standing.chart went.c2 → Type 0
    DidIt = DidMoved same (slot_of i) i map (Some (name i)) (shown.number map) standing lawful w sight is_sight is_map m2 (λ w2 c2 blocks2. Unit {0}) went blocks2 grown sights2 m known (shown.maps map standing there) shown.blocks told left

    did : DidIt went.moved
    did = by made
      where
        did_by : (seen : Seen (Node K V)) → ((at : At) (x y : ℕ) → seen ≡ Wrote at x y → told ≡ changed.Wrote at x y) → ((at : At) (x y : ℕ) → told ≡ changed.Wrote at x y → seen ≡ Wrote at x y)
            → IsObserved standing.hash setting standing.chart (seen_by standing.blocks sight) went.c2 went.blocks2 same i went.moved seen → DidIt went.moved
        did_by = did_moved same (slot_of i) i map (Some (name i)) (shown.number map) standing lawful w sight is_sight is_map m2 (λ w2 c2 blocks2. Unit {0}) went blocks2 grown sights2 m known (shown.maps map standing there)
            shown.blocks told left

        by : Operated w.memory m2 told → DidIt went.moved
        by (inl (still, nothing)) =
            did_by Unseen (λ at x y e. absurd (cc e)) (λ at x y e. absurd (cc (nothing, e)))
            (still_steps_tell V same standing.hash lawful.lawful lawful.fits setting i w standing.chart (seen_by standing.blocks sight) m2 is_map went still)
        by (inr op) =
            did_by (seen_of w.memory op.op op.out) (λ at x y e. op.is ∙ told_write at x y op.op op.out (seen_of w.memory op.op op.out) e)
            (λ at x y e. seen_write at x y op.op op.out (seen_of w.memory op.op op.out) (sym op.is ∙ e))
            (operations_tell V same standing.hash lawful.lawful lawful.fits setting i w standing.chart (seen_by standing.blocks sight) m2 is_map went op.op op.out op.can op.took)

    abbrev By : Move K → Type 0
    By = DidBy same (slot_of i) i map (Some (name i)) (shown.number map) standing lawful w sight is_sight is_map m2 (λ w2 c2 blocks2. Unit {0}) went blocks2 grown sights2 m known (shown.maps map standing there) shown.blocks told left

    by_move : (move : Move K) → By move → TakesMore
    by_move (Links len limit) (b, its_own, done) = one_leaves _ refl refl done.0
    by_move (Stores t k j) (j2, b, its_own, b_is, done) = one_leaves _ refl refl done.0
    by_move (Replaces t j k) (n, borrowed, held, (j2, b, its_own, b_is, done)) =
        (APair (shown.number map n) ∷ [], PutsOver (shown.number map n) (known.stored + 1) _ done.0 refl, ap (list_any hands_over) done.0)
    by_move (Removes t j) (n, borrowed, held, done) = (APair (shown.number map n) ∷ [], TakesOut (shown.number map n) done.0 refl, ap (list_any hands_over) done.0)
    by_move (Puts j place t k l) (n, borrowed, held, few, seen, done) = one_leaves _ refl refl done.0
    by_move (PutsLate t j n) (few, seen, tables, done) = one_leaves _ refl refl done.0
    by_move (Promotes t) done = (_, Passes _ done.0 refl, ap (list_any hands_over) done.0)
    by_move (Marks j place) calm = calm_takes calm.calm
    by_move (MarksBlocking place) calm = calm_takes calm.calm
    by_move (Skips j t place) calm = calm_takes calm.calm
    by_move (Unmarks j place) calm = calm_takes calm.calm
    by_move (Covers j place) calm = calm_takes calm.calm
    by_move (Claims j t chunk) calm = calm_takes calm.calm
    by_move (Reclaims t claim) calm = calm_takes calm.calm
    by_move (Counts j t many) calm = calm_takes calm.calm
    by_move (GivesUp j t) calm = calm_takes calm.calm
    by_move (Aborts t) calm = calm_takes calm.calm
    by_move (Announces t) calm = calm_takes calm.calm

    pub takes_more : TakesMore
    takes_more = by went.moved did
      where
        by : (moved : Moved same standing.hash setting.mode i standing.chart went.c2) → DidIt moved → TakesMore
        by (inl still) calm = calm_takes calm.calm
        by (inr made) done = by_move made.0 done

module _ {K V : Type 0} (same : K → K → Bool) (hash : ℕ → K → ℕ) (name : ℕ → List ℕ) (m : Moment K V) (known : Known) (s : Scene K V) (old new : Held K V) (at : IsAt same hash old s)
    (shown : Refines same name m known s) (map i : ℕ) (u : UnderWay K V K) (under_way : s.calls map i ≡ Some u) (said : Progress (Node K V)) (leads : StepLeads same hash i said s old new) (owes : List Thing) where
  abbrev to : WentTo same hash name m known s old new at shown map i u under_way said leads
  to = went_to same hash name m known s old new at shown map i u under_way said leads

  its_made : Operated s.world.memory new.memory new.changed
  its_made = made_so same hash name m known s old new at shown map i u under_way said leads

  abbrev Takes : Type 0
  Takes = TakesMore same hash m known s old new at name shown map i to.0 to.2 its_made owes

  takes_out : (x : UnderWay K V K) → (did : DidSo same hash name m known s old new at shown map i u under_way said leads x) → OfNoRow same hash name m known s old new at shown map i u under_way said leads x did → Takes
  takes_out (OnKey x) (p2, end, machine_is, told_is, inl (step, moved)) none =
      takes_more same hash m known s old new at name shown map i to.0 to.2 its_made owes step.step.inside _ step.step.went step.step.blocks2 step.step.grown step.step.sights2
  takes_out (OnKey x) (p2, end, machine_is, told_is, inr row) none = absurd none
  takes_out (ForRoom x) (p2, end, machine_is, told_is, inl (step, moved)) none =
      takes_more same hash m known s old new at name shown map i to.0 to.2 its_made owes step.step.inside _ step.step.went step.step.blocks2 step.step.grown step.step.sights2
  takes_out (ForRoom x) (p2, end, machine_is, told_is, inr row) none = absurd none
  takes_out (Counting x) (p2, end, machine_is, told_is, still, stayed) none =
      let all = all_calm _ (stayed_calm same hash m known s old new at name shown map i to.0 to.2 (name i) its_made still).calm in ([], KeepsOwed all.0 (append-nil owes), all.1)
  takes_out (OverAll x) (p2, end, machine_is, told_is, inl (step, moved)) none =
      takes_more same hash m known s old new at name shown map i to.0 to.2 its_made owes step.step.inside _ step.step.went step.step.blocks2 step.step.grown step.step.sights2
  takes_out (OverAll x) (p2, end, machine_is, told_is, inr row) none = absurd none

pub steps_take_out : (K V : Type 0) (same : K → K → Bool) (hash : ℕ → K → ℕ) → StepsTakeOut K V same hash
steps_take_out K V same hash name m known s old new at shown map i u here said leads none owes =
    takes_out same hash name m known s old new at shown map i u here said leads owes u (went_to same hash name m known s old new at shown map i u here said leads).4.did none
