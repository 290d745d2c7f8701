-- The making of a map hands nothing over, and leaves what was handed over as it was.
use Rattle.std.specs.Prelude.{◌≡◌, ℕ, ◌==◌, Bool, true, false, List, [], ◌∷◌, Option, Some, None, if◌then◌else◌}
use Rattle.std.proofs.Common.{refl, ap, sym, subst, ◌∙◌, inl, inr}
use Rattle.run_debts.specs.Given.SeizeWordsDeclared.at.At.TheVariants.{Root, Used, Slot, Entry, Word}
use Rattle.run_debts.specs.Given.SeizeDeclared.advance.Advance.{Advance}
use Rattle.run_debts.specs.Given.SeizeWorld.{World, Row}
use Rattle.run_debts.specs.Given.TablesNodes.{deferred_word}
use Rattle.run_debts.specs.Given.TablesDeclared.node.Node.{Node}
use Rattle.run_debts.specs.Given.TablesDeclared.setting.Setting.{Setting}
use Rattle.run_debts.specs.Given.TablesDeclared.table_words.TheConstants.{NEXT, DEFERRED}
use Rattle.run_debts.specs.Given.RunsDeclared.effect.Effect.{Effect}
use Rattle.run_debts.specs.Given.RunsDeclared.effect.TableId.{TableId}
use Rattle.run_debts.specs.Given.SchedulesEffects.{with_effects}
use Rattle.run_debts.specs.Given.SchedulesMoment.{Place, Moment}
use Rattle.run_debts.specs.Given.SchedulesReclaims.{is_handed}
use Rattle.run_debts.specs.Given.RunsDeclared.effect.Spot.{Spot}
use Rattle.run_debts.specs.Given.RunsDeclared.effect.Effect.TheVariants.{Asked}
use Rattle.run_debts.specs.Given.RunsDeclared.effect.Growth.TheVariants.{ABlock, ABucket}
use Rattle.run_debts.specs.Given.EffectsDeclared.changed.Changed.{Changed}
use Rattle.run_debts.specs.Given.EffectsDeclared.changed.Changed.TheVariants as changed
use Rattle.run_debts.specs.Given.EffectsDeclared.changed.Kind.{Kind}
use Rattle.run_debts.specs.Given.EffectsDeclared.changed.Kind.TheVariants as kind
use Rattle.run_debts.proofs.Given.CallersTogether.Came.{came_reached}
use Rattle.run_debts.proofs.Given.CallersTogether.Users.{events_rows}
use Rattle.run_debts.specs.Given.EffectsEffects.{names_same, named, made_by, taken_by, led_to, followed_by, carried, placed, spot_at, is_place, in_block, effects_of, known_after}
use Rattle.run_debts.specs.Given.EffectsKnown.{Known}
use Rattle.run_debts.specs.Given.EffectsDeclared.acting.Acting.TheVariants.{Making}
use Rattle.run_debts.specs.Given.EffectsDeclared.role.Role.{Role}
use Rattle.run_debts.specs.Given.EffectsDeclared.role.Role.TheVariants as role
use Rattle.run_debts.specs.Given.FinishesMakings.{Beginning}
use Rattle.run_debts.specs.Given.FollowsBlocks.{HasRole}
use Rattle.run_debts.proofs.Given.FollowsAlike.{put_here}
use Rattle.run_debts.proofs.Given.FollowsOnward.{IsOfMap}
use Rattle.run_debts.specs.Given.OthersMakings.{WasNew}
use Rattle.run_debts.specs.Given.MomentsWhole.{RefinesWhole}
use Rattle.run_debts.proofs.Given.MomentsMakingSteps.{makings_go_beside}
use Rattle.run_waiting.specs.Lives.Handed.{IsToHand, HasGone, is_deferred, RefinesHanded, MakingsPreserveHanded}
use Rattle.run_waiting.proofs.Lives.HandedEffects.{NoneHands, retired_back}
use Rattle.run_waiting.proofs.Lives.HandedOver.{came_listed, users_over}
use Rattle.run_waiting.proofs.Lives.Makings.{apart, role_kept}
use Rattle.run_waiting.proofs.Lives.RetiredCalls.{users_handed}
use Rattle.run_debts.specs.Given.ScenesHeld.{Held, IsAt}
use Rattle.run_debts.specs.Given.ScenesMaking.{MakingLeads}
use Rattle.run_debts.specs.Given.ScenesScene.{Scene}

-- the effects of what makes a map
module _ (map : ℕ) (known : Known) where
  either : (q : Bool) (a b : List Effect) → NoneHands a → NoneHands b → NoneHands (if q then a else b)
  either true a b first second = first
  either false a b first second = second

  made_none : (k : Kind) → NoneHands (Asked ABlock ∷ made_by (Making map) k)
  made_none kind.Pair = (λ z. z, (λ z. z, tt))
  made_none (kind.Table len limit turn) = (λ z. z, (λ z. z, tt))
  made_none kind.Shards = (λ z. z, tt)

  taken_none : (r : Role) → (IsOfMap r → ⊥) → NoneHands (taken_by (Making map) r)
  taken_none role.Free none = tt
  taken_none (role.OwnPair i) none = (λ z. z, tt)
  taken_none (role.OwnTable turn shape) none = (λ z. z, tt)
  taken_none (role.Pair n) none = absurd (none tt)
  taken_none (role.Table t len) none = absurd (none tt)
  taken_none (role.Counter c) none = tt

  led_none : (was is : Role) → NoneHands (led_to (Making map) was is)
  led_none was (role.OwnTable turn shape) = (λ z. z, tt)
  led_none (role.Table t len) (role.Table u other) = (λ z. z, tt)
  led_none role.Free (role.Table u other) = tt
  led_none (role.OwnPair i) (role.Table u other) = tt
  led_none (role.OwnTable turn shape) (role.Table u other) = tt
  led_none (role.Pair n) (role.Table u other) = tt
  led_none (role.Counter c) (role.Table u other) = tt
  led_none (role.Table t len) role.Free = tt
  led_none (role.Table t len) (role.OwnPair i) = tt
  led_none (role.Table t len) (role.Pair n) = tt
  led_none (role.Table t len) (role.Counter c) = tt
  led_none role.Free _ = tt
  led_none (role.OwnPair i) _ = tt
  led_none (role.OwnTable turn shape) _ = tt
  led_none (role.Pair n) _ = tt
  led_none (role.Counter c) _ = tt

  followed_none : (r : Role) → NoneHands (followed_by (Making map) r)
  followed_none (role.OwnTable turn shape) = (λ z. z, tt)
  followed_none _ = tt

  carried_none : (t : TableId) (r : Role) → NoneHands (carried t r)
  carried_none t (role.Pair n) = (λ z. z, tt)
  carried_none t _ = tt

  placed_none : (s : Spot) (stored : ℕ) (was is : Role) → NoneHands (placed s stored was is)
  placed_none s stored (role.Pair n) (role.OwnPair c) = (λ z. z, (λ z. z, tt))
  placed_none s stored role.Free (role.OwnPair c) = (λ z. z, tt)
  placed_none s stored (role.OwnPair i) (role.OwnPair c) = (λ z. z, tt)
  placed_none s stored (role.OwnTable turn shape) (role.OwnPair c) = (λ z. z, tt)
  placed_none s stored (role.Table t len) (role.OwnPair c) = (λ z. z, tt)
  placed_none s stored (role.Counter of) (role.OwnPair c) = (λ z. z, tt)
  placed_none s stored (role.Pair n) role.Free = (λ z. z, tt)
  placed_none s stored role.Free (role.Pair n) = (λ z. z, tt)
  placed_none s stored _ _ = tt

  block_none : (r : Role) (field : ℕ) (same : Bool) (was is : Role) → NoneHands (in_block (Making map) r field known.stored same was is)
  block_none (role.Table t len) field same was is =
      either same [] _ tt
      (either (field == NEXT) (followed_by (Making map) is) _ (followed_none is)
      (either (field == DEFERRED) (carried t is) _ (carried_none t is)
      (either (is_place len field) (placed (spot_at t field) known.stored was is) [] (placed_none (spot_at t field) known.stored was is) tt)))
  block_none (role.Counter c) field same was is = (λ z. z, tt)
  block_none role.Free field same was is = tt
  block_none (role.OwnPair i) field same was is = tt
  block_none (role.OwnTable turn shape) field same was is = tt
  block_none (role.Pair n) field same was is = tt

  making_none : (told : Changed) → ((x : ℕ) → told ≡ changed.Took x → IsOfMap (known.roles x) → ⊥) → NoneHands (effects_of (Making map) known told)
  making_none changed.Nothing spares = tt
  making_none (changed.Wrote (Root r) old new) spares = either (names_same old new) [] _ tt (led_none (named known old) (named known new))
  making_none (changed.Wrote (Used r) old new) spares = tt
  making_none (changed.Wrote (Slot t field) old new) spares = tt
  making_none (changed.Wrote (Entry x field) old new) spares = either (names_same old new) [] _ tt tt
  making_none (changed.Wrote (Word x field) old new) spares = block_none (known.roles x) field (names_same old new) (named known old) (named known new)
  making_none (changed.Made k x) spares = made_none k
  making_none (changed.Unmade k) spares = (λ z. z, tt)
  making_none (changed.Took x) spares = taken_none (known.roles x) (spares x refl)
  making_none (changed.Roomed bucket had) spares = either _ [] (Asked ABucket ∷ []) tt (λ z. z, tt)

module _ {K V : Type 0} (same : K → K → Bool) (hash : ℕ → K → ℕ) (name : ℕ → List ℕ) (m : Moment K V) (known : Known) (s : Scene K V) (old new : Held K V) (at : IsAt same hash old s)
    (whole : RefinesWhole same name m known s) (shows : RefinesHanded m known s) (i : ℕ) (said : Advance Setting) (leads : MakingLeads same hash i said s old new) (b : Beginning K)
    (here : s.makers i ≡ Some b) (of : Option ℕ) (was_new : WasNew b.map said m) where
  abbrev w : World (Node K V)
  w = s.world

  abbrev w2 : World (Node K V)
  w2 = (leads b here).2.step.w2

  abbrev told : Changed
  told = new.changed

  abbrev effects : List Effect
  effects = effects_of (Making b.map) known told

  abbrev v : Moment K V
  v = with_effects None of effects m

  abbrev known2 : Known
  known2 = known_after (Making b.map) told known

  abbrev s2 : Scene K V
  s2 = record s { world = w2 }

  role_on : (x : ℕ) (r : Role) → known.roles x ≡ r → IsOfMap r → known2.roles x ≡ r
  role_on = role_kept same hash name m known s old new at whole i said leads b here of was_new

  none : NoneHands effects
  none = making_none b.map known told (λ x is its.
      let still = role_on x (known.roles x) refl its in
      let gone : known2.roles x ≡ role.Free = ap (λ (y : Changed). (known_after (Making b.map) y known).roles x) is ∙ put_here x role.Free known.roles x refl in
      subst IsOfMap (sym still ∙ gone) its)

  place : v.place ≡ m.place
  place = (apart same hash name m known s old new at whole i said leads b here of was_new).1

  deferred : v.deferred ≡ m.deferred
  deferred = (apart same hash name m known s old new at whole i said leads b here of was_new).0

  was_pair : (x n : ℕ) → known2.roles x ≡ role.Pair n → known.roles x ≡ role.Pair n
  was_pair x n noted = elim ((makings_go_beside K V same hash name m known s old new at whole i said leads b here of was_new).back x (subst IsOfMap (sym noted) tt)) as (λ _. known.roles x ≡ role.Pair n) [
    | inl alike ↦ sym alike ∙ noted
    | inr came ↦ absurd (let two : role.Pair n ≡ role.Table came.table came.len = sym noted ∙ came.is in cc two)
  ]

  gone_then : (x n : ℕ) → HasGone m s x n → HasGone v s2 x n
  gone_then x n (inl so) = inl (ap (λ (g : ℕ → Place). is_handed (g n)) place ∙ so)
  gone_then x n (inr (inl so)) = inr (inl (ap (is_deferred n) deferred ∙ so))
  gone_then x n (inr (inr due)) =
      let step = (leads b here).2.step in
      inr (inr (due.0, due.1, subst (IsToHand x) (sym (ap (λ (f : ℕ → Row). f due.0) (events_rows old.batch_size step.events w w2 step.users step.runs))) due.2))

  pub making_handed : RefinesHanded v known2 s2
  making_handed =
      let step = (leads b here).2.step in
      let came = at.together.makings.standing.came in
      let over = users_over deferred_word old.batch_size step.events w w2 (came_listed old.batch_size w came) step.users step.runs in
      record {
        pairs = λ x n noted handed.
            let was = was_pair x n noted in
            let has = subst (HasRole w m.stored x) was (whole.all.shown.blocks.roles x) in
            gone_then x n (shows.pairs x n was (users_handed old.batch_size x step.events w w2 (came_reached old.batch_size w came) _ has.3 step.users step.runs handed));
        handed = λ n so.
            let one = shows.handed n (sym (ap (λ (g : ℕ → Place). is_handed (g n)) place) ∙ so) in
            (one.0, role_on one.0 (role.Pair n) one.1 tt, over one.0 one.2);
        tables = λ t so.
            let one = shows.tables t (retired_back None of t effects m none so) in
            (one.0, one.1, role_on one.0 (role.Table t one.1) one.2 tt, over one.0 one.3);
      }

pub makings_keep_handed : (K V : Type 0) (same : K → K → Bool) (hash : ℕ → K → ℕ) → MakingsPreserveHanded K V same hash
makings_keep_handed K V same hash name m known s old new at whole shows i told leads b here of was_new =
    making_handed same hash name m known s old new at whole shows i told leads b here of was_new
