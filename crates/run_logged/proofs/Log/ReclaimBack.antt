-- What comes back while all is reclaimed is what was taken away.
use Rattle.std.specs.Prelude.{◌≡◌, ◌⊎◌, ℕ, Bool, true, false, List, [], ◌++◌, flat_map, None, if◌then◌else◌}
use Rattle.std.proofs.Common.{refl, sym, ap, subst, ◌∙◌, inl, inr}
use Rattle.std.proofs.lemmas.List.{append-nil, append_assoc}
use Rattle.run_schedules.specs.Given.SeizeWordsDeclared.at.At.TheVariants.{Root, Used}
use Rattle.seize.specs.declared.rows.reclaim_all.ReclaimAll.{ReclaimAll}
use Rattle.seize.specs.declared.rows.settle.Settled.{Settled}
use Rattle.seize.specs.declared.rows.settle.Settled.TheVariants as settled
use Rattle.papaya_raw.specs.Given.TablesDeclared.node.Node.{Node}
use Rattle.run_schedules.specs.declared.ended.Pair.{Pair}
use Rattle.run_schedules.specs.declared.effect.Effect.{Effect}
use Rattle.run_schedules.specs.Schedules.Effects.{pairs_back, with_effects}
use Rattle.run_schedules.specs.Schedules.Moment.{Moment}
use Rattle.run_effects.specs.declared.changed.Changed.{Changed}
use Rattle.run_effects.specs.declared.changed.Changed.TheVariants as changed
use Rattle.run_effects.specs.Effects.Effects.{effects_of, led_to, named, names_same}
use Rattle.run_effects.specs.Effects.Known.{Known, known}
use Rattle.run_effects.specs.declared.acting.Acting.TheVariants.{Row}
use Rattle.run_effects.specs.declared.role.Role.{Role}
use Rattle.run_effects.specs.declared.role.Role.TheVariants as role
use Rattle.run_shows.specs.Reclaims.Reclaims.{ReclaimingOutcome}
use Rattle.run_executor.specs.declared.executor.Executor.{Executor}
use Rattle.run_executor.specs.ReclaimsAll.Reclaiming.{MayReclaim, NobodyHas}
use Rattle.run_shows.specs.Follows.Steps.{TakesNone}
use Rattle.run_shows.proofs.Others.Quiet.{stored_none}
use Rattle.run_shows.proofs.Others.RowPlans.{TellsRow}
use Rattle.run_logged.specs.Log.Back.{AllBringsBack, ComesBack, pair_back, settled_back}
use Rattle.run_logged.specs.Log.Reclaims.{ReclaimingIsShown, ReclaimingSoFar, ReclaimingSteps}
use Rattle.run_logged.specs.Log.Shown.{IsShown}
use Rattle.run_logged.specs.declared.logged.Logged.{Logged}
use Rattle.run_logged.proofs.Log.BroughtBack.{IsBack, more_back, none_back, nothing_back, row_quiet, taken_back}
use Rattle.run_kept.proofs.Sheds.ReclaimGives.{GivesOr, reclaiming_gives, taken_gone}
use Rattle.run_kept.proofs.Sheds.Reclaiming.Rows.{EmptiesRoot, reclaiming_tells}
use Rattle.run_kept.proofs.Sheds.Reclaiming.Steps.{left}
use Rattle.run_shows.specs.Scenes.Scene.{Scene}
use Rattle.run_executor.specs.Executing.IsThere.{held_by}
use Rattle.run_shows.specs.Scenes.Reclaiming.{ReclaimingLeads}

-- a root that is emptied reclaims nothing
led_quiet : (was is : Role) → flat_map pairs_back (led_to Row was is) ≡ []
led_quiet _ (role.OwnTable turn shape) = refl
led_quiet (role.Table t len) (role.Table u other) = refl
led_quiet _ _ = refl

if_quiet : (q : Bool) (effects : List Effect) → flat_map pairs_back effects ≡ [] → flat_map pairs_back (if q then [] else effects) ≡ []
if_quiet true effects none = refl
if_quiet false effects none = none

root_quiet : (noted : Known) (x : Changed) → EmptiesRoot x → flat_map pairs_back (effects_of Row noted x) ≡ []
root_quiet noted (changed.Wrote (Root r) was now) is = if_quiet (names_same was now) (led_to Row (named noted was) (named noted now)) (led_quiet (named noted was) (named noted now))
root_quiet noted (changed.Wrote (Used r) was now) is = refl
root_quiet noted _ is = absurd is

module _ {K V S : Type 0} where
  -- what so many steps bring back, wherever it goes on, and a moment shows that
  abbrev pub BroughtSoFar : ReclaimAll → (before after : List Effect) → (first : Logged K V S) → (old new : List (Pair K V)) → Type 0
  BroughtSoFar all before after first old new =
      (did : List Effect) × (after ≡ before ++ did)
      × ((same : K → K → Bool) (hash : K → ℕ) (name : ℕ → List ℕ) (m : Moment K V) (s : Scene K V) (i : ℕ) (lists : ℕ → List ℕ) → ReclaimingIsShown same hash name m first s i lists all
      → ComesBack m.stored did old new)

  pub brought_none : (all : ReclaimAll) (l : Logged K V S) (xs : List Effect) (b : List (Pair K V)) → BroughtSoFar all xs xs l b b
  brought_none all l xs b = ([], sym (append-nil xs), λ same hash name m s i lists shown. none_back m.stored b)

  module _ (same : K → K → Bool) (hash : K → ℕ) (name : ℕ → List ℕ) (m : Moment K V) (s : Scene K V) (mid : Logged K V S) (new : Executor K V S) (i : ℕ) (lists : ℕ → List ℕ) (before after : ReclaimAll)
      (told : Settled (Node K V)) (shown : ReclaimingIsShown same hash name m mid s i lists before) (leads : ReclaimingLeads same (λ map. hash) s i lists (held_by mid.executor) (held_by new) before after told) (ys : List Effect) where
    abbrev noted : Known
    noted = known mid.notes

    abbrev does : List Effect
    does = effects_of Row noted new.memory.changed

    silent : TakesNone new.memory.changed → IsBack m.stored does []
    silent none = nothing_back m.stored does [] refl (elim tells as (λ _. flat_map pairs_back does ≡ []) [
      | inl row ↦ row_quiet noted new.memory.changed row none
      | inr empties ↦ root_quiet noted new.memory.changed empties
    ])
      where
        tells : TellsRow new.memory.changed ⊎ EmptiesRoot new.memory.changed
        tells = reclaiming_tells mid.executor.memory.memory new.memory.memory new.memory.changed before before.stands (after, told) leads.0

    all_brings : IsBack m.stored does (settled_back told (ys ++ does))
    all_brings = by told leads.1.told (reclaiming_gives mid.executor.memory.memory new.memory.memory new.memory.changed before (after, told) before.stands leads.0)
      where
        by : (t : Settled (Node K V)) → ReclaimingOutcome s.world leads.1.w2 lists leads.1.lists2 t → GivesOr mid.executor.memory.memory new.memory.memory new.memory.changed t
            → IsBack m.stored does (settled_back t (ys ++ does))
        by settled.Goes say none = silent none
        by settled.Waits say none = silent none
        by (settled.Gave value) say gives =
            let took = taken_gone s.world.memory leads.1.w2.memory new.memory.changed (left same (λ map. hash) name m noted s shown.shows (held_by mid.executor) (held_by new) i lists before after told shown.under_way.held leads)
            say.0 value say.1 say.2 in
            subst (λ (xs : List Effect). IsBack m.stored xs (pair_back value (ys ++ xs))) (sym (ap (effects_of Row noted) took))
            (taken_back s.world m.stored say.0 value say.1 Row ys (noted.roles say.0) (shown.shows.all.shown.blocks.roles say.0))
        by settled.Done say none = silent none

  -- a step more
  pub brings_all : (first now next : ReclaimAll) (old mid new : Logged K V S) (xs ys zs : List Effect) (told : Settled (Node K V)) → ReclaimingSoFar first now xs ys old mid → ReclaimingSteps now next told ys zs mid new
      → zs ≡ ys ++ effects_of Row (known mid.notes) new.executor.memory.changed
      → (b0 b1 b2 : List (Pair K V)) → BroughtSoFar first xs ys old b0 b1 → b2 ≡ b1 ++ settled_back told zs → BroughtSoFar first xs zs old b0 b2
  brings_all first now next old mid new xs ys zs told so step did b0 b1 b2 was follows =
      let more = effects_of Row (known mid.notes) new.executor.memory.changed in (
        was.0 ++ more,
        did ∙ ap (λ (l : List Effect). l ++ more) was.1 ∙ append_assoc xs was.0 more,
        λ same hash name m s i lists shown.
            (let u = so.3 same hash name m s i lists shown in
            let leads = (step.2 same hash name (with_effects None None so.0 m) u.0 i u.1 u.3).0 in
            more_back m.stored was.0 more b0 b1 b2 (was.2 same hash name m s i lists shown) (settled_back told (ys ++ more))
            (subst (λ (l : List (K × V)). IsBack l more (settled_back told (ys ++ more))) (stored_none None so.0 m)
            (all_brings same hash name (with_effects None None so.0 m) u.0 mid new.executor i u.1 now next told u.3 leads ys))
            (follows ∙ ap (λ (l : List Effect). b1 ++ settled_back told l) did)),
      )

  -- in the end
  pub brought_all : (taken : Bool) (first : ReclaimAll) (xs zs : List Effect) (old : Logged K V S) (b0 b1 : List (Pair K V))
      → ((same : K → K → Bool) (hash : K → ℕ) (name : ℕ → List ℕ) (m : Moment K V) (s : Scene K V) (i : ℕ) (lists : ℕ → List ℕ) → IsShown same hash name m old s
      → NobodyHas old.executor → MayReclaim old.executor s lists taken → ReclaimingIsShown same hash name m old s i lists first)
      → BroughtSoFar first xs zs old b0 b1 → AllBringsBack taken xs zs old b0 b1
  brought_all taken first xs zs old b0 b1 begins it = (
    it.0,
    it.1,
    λ same hash name m s lists shown nobody may. it.2 same hash name m s 0 lists (begins same hash name m s 0 lists shown nobody may),
  )
