-- What an event gives back is what its row has brought back, or reclaiming all.
use Rattle.std.specs.Prelude.{◌≡◌, ℕ, Bool, List, [], ◌++◌}
use Rattle.std.proofs.Common.{sym, ap, subst, ◌∙◌}
use Rattle.run_schedules.specs.declared.ended.Pair.{Pair}
use Rattle.run_schedules.specs.declared.effect.Effect.{Effect}
use Rattle.run_schedules.specs.declared.event.Event.{Event}
use Rattle.run_schedules.specs.Schedules.After.{moment}
use Rattle.run_schedules.specs.Schedules.Entry.{Entry}
use Rattle.run_schedules.specs.Schedules.Moment.{Moment}
use Rattle.run_schedules.specs.Schedules.Terms.{Terms}
use Rattle.run_shows.specs.declared.row.SlotCall.{SlotCall}
use Rattle.run_executor.specs.ReclaimsAll.Reclaiming.{MayReclaim, NobodyHas}
use Rattle.run_logged.specs.Log.Back.{AllBringsBack, BringsBack, ComesBack}
use Rattle.run_logged.specs.Log.OnSlots.{OnSlotBegins}
use Rattle.run_logged.specs.Log.Shown.{IsShown}
use Rattle.run_logged.specs.declared.logged.Logged.{Logged}
use Rattle.run_logged.proofs.Log.BroughtBack.{none_back}
use Rattle.play_scheduler.specs.Played.{IsInTurn}
use Rattle.play_scheduler.specs.declared.scheduler.Scheduler.{Scheduler}
use Rattle.run_executor.specs.Executing.OnSlots.{MayBegin}
use Rattle.run_shows.specs.Scenes.Scene.{Scene, slot_of}
use Rattle.run_executor.specs.Executing.IsThere.{in_slot}

module _ {K V S : Type 0} where
  -- what a row brings back that has begun before it ran
  pub brought : (slot : ℕ) (called : SlotCall) (caller : ℕ) (old began : Logged K V S) (before after : List Effect) (b0 b1 : List (Pair K V)) → slot_of caller ≡ slot → MayBegin old.executor slot called
      → ((same : K → K → Bool) (hash : K → ℕ) (name : ℕ → List ℕ) (m : Moment K V) (s : Scene K V) → IsShown same hash name m old s → OnSlotBegins same hash name m s called caller old began)
      → BringsBack before after began b0 b1 → BringsBack before after old b0 b1
  brought slot called caller old began before after b0 b1 in_slot may begins it =
      let may_there = subst (λ (x : ℕ). MayBegin old.executor x called) (sym in_slot) may in
      (it.0, it.1, λ same hash name m s shown. it.2 same hash name m _ (begins same hash name m s shown may_there).1)

  module _ (same : K → K → Bool) (hash : K → ℕ) (terms : Terms) (log : List (Entry K V)) (event : Event K V) (p : Scheduler K V S) (due : IsInTurn same hash terms log event p) (b0 : List (Pair K V)) where
    -- what the row of an event brings back,
    pub came : (before after : List Effect) → before ≡ [] → (b1 : List (Pair K V)) → BringsBack before after p.logged b0 b1 → ComesBack (moment log).stored after b0 b1
    came before after none b1 it =
        subst (λ (xs : List Effect). ComesBack (moment log).stored xs b0 b1) (sym (it.1 ∙ ap (λ (xs : List Effect). xs ++ it.0) none))
        (it.2 same hash due.played.name (moment log) due.played.scene due.played.shown)

    -- by what the code does
    pub came_as : (effects before after : List Effect) → effects ≡ after → before ≡ [] → (b1 b2 : List (Pair K V)) → b2 ≡ b1 → BringsBack before after p.logged b0 b1
        → ComesBack (moment log).stored effects b0 b2
    came_as effects before after did none b1 b2 is it =
        subst (ComesBack (moment log).stored effects b0) (sym is) (subst (λ (xs : List Effect). ComesBack (moment log).stored xs b0 b1) (sym did) (came before after none b1 it))

    -- what reclaiming all brings back
    pub all_came : (taken : Bool) → NobodyHas p.logged.executor → (lists : ℕ → List ℕ) → MayReclaim p.logged.executor due.played.scene lists taken → (before after : List Effect) → before ≡ []
        → (b1 : List (Pair K V)) → AllBringsBack taken before after p.logged b0 b1 → ComesBack (moment log).stored after b0 b1
    all_came taken nobody lists may before after none b1 it =
        subst (λ (xs : List Effect). ComesBack (moment log).stored xs b0 b1) (sym (it.1 ∙ ap (λ (xs : List Effect). xs ++ it.0) none))
        (it.2 same hash due.played.name (moment log) due.played.scene lists due.played.shown nobody may)

module _ {K V : Type 0} where
  -- nothing, where nothing was done
  pub none_came : (stored : List (K × V)) (effects : List Effect) (b : List (Pair K V)) → effects ≡ [] → ComesBack stored effects b b
  none_came stored effects b none = subst (λ (xs : List Effect). ComesBack stored xs b b) (sym none) (none_back stored b)

  pub stayed_as : (stored : List (K × V)) (effects : List Effect) (b0 b2 : List (Pair K V)) → effects ≡ [] → b2 ≡ b0 → ComesBack stored effects b0 b2
  stayed_as stored effects b0 b2 none is = subst (ComesBack stored effects b0) (sym is) (none_came stored effects b0 none)
