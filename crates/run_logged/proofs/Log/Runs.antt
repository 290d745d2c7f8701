-- A row on a slot runs on: what its steps do follows one upon another.
use Rattle.std.specs.Prelude.{◌≡◌, ◌<◌, ℕ, Bool, true, false, List, [], ◌++◌, Option, Some, None}
use Rattle.std.proofs.Common.{sym, ap, subst, ◌∙◌}
use Rattle.std.proofs.lemmas.List.{append-nil, append_assoc}
use Rattle.papaya_raw.specs.Given.TablesDeclared.node.Node.{Node}
use Rattle.run_schedules.specs.declared.effect.Effect.{Effect}
use Rattle.run_schedules.specs.Schedules.Effects.{with_effects}
use Rattle.run_schedules.specs.Schedules.Moment.{Moment}
use Rattle.run_shows.specs.declared.row.RowTold.{RowTold}
use Rattle.run_shows.specs.declared.row.SlotRow.{SlotRow}
use Rattle.run_executor.specs.declared.executor.Executor.{Executor}
use Rattle.run_shows.specs.declared.row.SlotUse.{SlotUse}
use Rattle.run_executor.specs.declared.worker.Work.{Work}
use Rattle.run_executor.specs.declared.worker.Work.TheVariants.{OnSlot}
use Rattle.run_executor.proofs.Given.MomentsAfter.{effects_after}
use Rattle.run_logged.specs.Log.OnSlots.{OnSlotSteps, OnSlotRan, has_come}
use Rattle.run_logged.specs.Log.Shown.{IsShown}
use Rattle.run_logged.specs.declared.logged.Logged.{Logged}
use Rattle.run_kept.specs.Sheds.Ended.{has_ended, uses_ended}
use Rattle.run_logged.proofs.Log.Ended.{rows_end}
use Rattle.run_logged.proofs.Log.RowsFall.{steps_left_of, row_then, steps_fall, under_way_on}
use Rattle.run_executor.specs.Executing.IsThere.{IsThere, work_of}
use Rattle.run_executor.specs.Executing.OnSlots.{RowStepsThere}
use Rattle.run_shows.specs.Scenes.Scene.{Scene}

module _ {K V S : Type 0} where
  pub ran_none : (l : Logged K V S) (xs : List Effect) → OnSlotRan xs xs l l
  ran_none l xs = (
    [],
    sym (append-nil xs),
    λ same hash s at. (s.world, s.maps, at),
    λ same hash name m s shown. (s.world, s.maps, shown),
  )

  -- and one step more
  pub ran_on : (old mid new : Logged K V S) (xs ys zs : List Effect) (i : ℕ) (told : RowTold (Node K V)) (row : SlotRow) → work_of mid.executor i ≡ Some (OnSlot row)
      → OnSlotRan xs ys old mid → OnSlotSteps i told ys zs mid new
      → ((same : K → K → Bool) (hash : K → ℕ) (s : Scene K V) → IsThere same hash mid.executor s → RowStepsThere same hash i told s mid.executor new.executor)
      → OnSlotRan xs zs old new
  ran_on old mid new xs ys zs i told row here ran step stepping = (
    ran.0 ++ step.0,
    step.1 ∙ ap (λ (l : List Effect). l ++ step.0) ran.1 ∙ append_assoc xs ran.0 step.0,
    λ same hash s at.
        (let u = ran.2 same hash s at in
        let to = (stepping same hash (record s { world = u.0; maps = u.1 }) u.2 row here).5 in
        (to.0, to.2, to.4)),
    λ same hash name m s shown.
        (let u = ran.3 same hash name m s shown in
        let then_at = record s { world = u.0; maps = u.1 } in
        let to = step.2 same hash name (with_effects None None ran.0 m) then_at u.2 row here in
        let at = (to.1 row to.0).2 in (
          at.0,
          at.2,
          subst (λ (n : Moment K V). IsShown same hash name n new (record s { world = at.0; maps = at.2 })) (sym (effects_after None None ran.0 step.0 m)) to.2,
        )),
  )

  -- the executor is there at a scene
  pub still_there : (same : K → K → Bool) (hash : K → ℕ) (s : Scene K V) (old new : Logged K V S) (xs ys : List Effect) → IsThere same hash old.executor s → OnSlotRan xs ys old new
      → (s2 : Scene K V) × IsThere same hash new.executor s2
  still_there same hash s old new xs ys at ran = let u = ran.2 same hash s at in (record s { world = u.0; maps = u.1 }, u.2)

-- What slots come to by a run from here is what they come to from its beginning.
abbrev pub EndsAs : {K V S : Type 0} → (old mid : Logged K V S) → ℕ → Type 0
EndsAs {K} {V} old mid i =
    (row first : SlotRow) → work_of mid.executor i ≡ Some (OnSlot row) → work_of old.executor i ≡ Some (OnSlot first) → (last : RowTold (Node K V)) → has_ended last ≡ true
    → uses_ended row last mid.executor.slots.items ≡ uses_ended first last old.executor.slots.items

module _ {K V S : Type 0} (i : ℕ) where
  one_row : (e : Executor K V S) (row row2 : SlotRow) → work_of e i ≡ Some (OnSlot row) → work_of e i ≡ Some (OnSlot row2) → row ≡ row2
  one_row e row row2 a b = same (sym a ∙ b)
    where
      same : ◌≡◌ {A = Option (Work K V)} (Some (OnSlot row)) (Some (OnSlot row2)) → row ≡ row2
      same is = cc is

  pub ends_at_first : (old : Logged K V S) → EndsAs old old i
  ends_at_first old row first here there last h = ap (λ (r : SlotRow). uses_ended r last old.executor.slots.items) (one_row old.executor row first here there)

  module _ (same : K → K → Bool) (hash : K → ℕ) (s : Scene K V) (old mid new : Logged K V S) (told : RowTold (Node K V)) (row : SlotRow) (here : work_of mid.executor i ≡ Some (OnSlot row))
      (leads : RowStepsThere same hash i told s mid.executor new.executor) (ends : EndsAs old mid i) where
    pub ends_on : has_come told ≡ false → EndsAs old new i
    ends_on goes row2 first here2 there last h =
        let to = leads row here in
        let is = one_row new.executor row2 to.1 here2 (to.3 ∙ under_way_on to.1 told goes) in
        ap (λ (r : SlotRow). uses_ended r last new.executor.slots.items) is ∙ ap (λ (l : List SlotUse). uses_ended to.1 last l) to.4
        ∙ (rows_end K V mid.executor.slots.items mid.executor.memory.memory new.executor.memory.memory row new.executor.memory.changed (to.1, told) to.2).1 goes last h
        ∙ ends row first here there last h

    pub ends_now : (first : SlotRow) → work_of old.executor i ≡ Some (OnSlot first) → has_ended told ≡ true → new.executor.slots.items ≡ uses_ended first told old.executor.slots.items
    ends_now first there h =
        let to = leads row here in
        to.4 ∙ (rows_end K V mid.executor.slots.items mid.executor.memory.memory new.executor.memory.memory row new.executor.memory.changed (to.1, told) to.2).0 h ∙ ends row first here there told h

-- a run goes on with a step of the row after which it is under way still
pub record RunGoes {K V S : Type 0} (old mid new : Logged K V S) (i : ℕ) (xs zs : List Effect) : Type 0 where
  pub ran : OnSlotRan xs zs old new
  pub under : (row : SlotRow) × (work_of new.executor i ≡ Some (OnSlot row))
  pub used : EndsAs old new i
  pub less : steps_left_of new.executor.memory.memory (work_of new.executor i) < steps_left_of mid.executor.memory.memory (work_of mid.executor i)

pub run_goes : {K V S : Type 0} (same : K → K → Bool) (hash : K → ℕ) (s : Scene K V) (old mid new : Logged K V S) (i : ℕ) (xs ys zs : List Effect) (told : RowTold (Node K V))
    → IsThere same hash old.executor s → (row : SlotRow) → work_of mid.executor i ≡ Some (OnSlot row) → OnSlotRan xs ys old mid → EndsAs old mid i → OnSlotSteps i told ys zs mid new
    → ((same : K → K → Bool) (hash : K → ℕ) (s : Scene K V) → IsThere same hash mid.executor s → RowStepsThere same hash i told s mid.executor new.executor)
    → has_come told ≡ false → RunGoes old mid new i xs zs
run_goes same hash s old mid new i xs ys zs told at row here ran ends step stepping goes =
    let t = still_there same hash s old mid xs ys at ran in
    let leads = stepping same hash t.0 t.1 in
    record {
      ran = ran_on old mid new xs ys zs i told row here ran step stepping;
      under = ((leads row here).1, row_then same hash mid.executor new.executor t.0 t.1 i told leads row here goes);
      used = ends_on i same hash t.0 old mid new told row here leads ends goes;
      less = steps_fall same hash mid.executor new.executor t.0 t.1 i told leads row here goes;
    }
