-- What the row within a call has in hand, and has neither retired nor put behind a table: by where its machine stands.
use Rattle.std.specs.Prelude.{◌≡◌, ℕ, Bool, List, [], ◌∷◌, Option, Some, None}
use Rattle.run_places.specs.Given.SeizeWordsWord.{block_in}
use Rattle.run_places.specs.Given.SeizeWordsDeclared.at.At.{At}
use Rattle.run_places.specs.Given.SeizeFurther.{IsWordOf}
use Rattle.run_places.specs.Given.SeizeWorld.{World, Making}
use Rattle.run_places.specs.Given.SeizeDeclared.rows.defer.Defer.{Defer}
use Rattle.run_places.specs.Given.SeizeDeclared.rows.defer.Deferring.{Deferring}
use Rattle.run_places.specs.Given.SeizeDeclared.rows.defer.Deferring.TheVariants as deferring
use Rattle.run_places.specs.Given.SeizeDeclared.rows.settle.Settle.{Settle}
use Rattle.run_places.specs.Given.SeizeDeclared.rows.settle.Settling.{Settling}
use Rattle.run_places.specs.Given.SeizeDeclared.rows.settle.Settling.TheVariants as settling
use Rattle.run_places.specs.Given.ResizeDeclared.copier.Copying.{Copying}
use Rattle.run_places.specs.Given.ResizeDeclared.copier.Copying.TheVariants as copying
use Rattle.run_places.specs.Given.ResizeDeclared.dispose.Disposing.{Disposing}
use Rattle.run_places.specs.Given.ResizeDeclared.dispose.Disposing.TheVariants as disposing
use Rattle.run_places.specs.Given.ReservesDeclared.reserve.Reserving.{Reserving}
use Rattle.run_places.specs.Given.ReservesDeclared.reserve.Reserving.TheVariants as reserving
use Rattle.run_places.specs.Given.ReservesDeclared.sweep.Sweeping.{Sweeping}
use Rattle.run_places.specs.Given.ReservesDeclared.sweep.Sweeping.TheVariants as sweeping
use Rattle.run_places.specs.Given.RawDeclared.machines.call.Calling.{Calling}
use Rattle.run_places.specs.Given.RawDeclared.machines.call.Calling.TheVariants as calling
use Rattle.run_places.specs.Given.RawDeclared.machines.machine.Machine.{Machine}
use Rattle.run_places.specs.Given.RawDeclared.machines.machine.Machine.TheVariants as kinds
use Rattle.run_places.specs.Given.RawDeclared.machines.progress.Progress.{Progress}
use Rattle.run_places.specs.Given.RunsDeclared.shapes.TableShape.{TableShape}
use Rattle.run_places.specs.Given.TablesDeclared.node.Node.{Node}
use Rattle.run_places.specs.Given.RunsDeclared.effect.Effect.{Effect}
use Rattle.run_places.specs.Given.RunsDeclared.effect.Effect.TheVariants as effect
use Rattle.run_places.specs.Given.RunsDeclared.effect.TableId.{TableId}
use Rattle.run_places.specs.Given.RunsDeclared.effect.Thing.TheVariants.{APair, ATable}
use Rattle.run_places.specs.Given.SchedulesMoment.{Moment}
use Rattle.owner_facts.specs.Given.CallersTogether.{UnderWay}
use Rattle.run_places.specs.Given.EffectsEffects.{carried, named, effects_of}
use Rattle.run_places.specs.Given.EffectsKnown.{Known}
use Rattle.run_places.specs.Given.EffectsDeclared.acting.Acting.TheVariants.{Call}
use Rattle.run_places.specs.Given.EffectsDeclared.role.Role.{Role}
use Rattle.run_places.specs.Given.EffectsDeclared.role.Role.TheVariants as role
use Rattle.owner_facts.specs.Given.FinishesMachines.{machine_of}
use Rattle.run_places.specs.Given.FollowsShows.{Refines}
use Rattle.run_places.specs.Given.FollowsSteps.{IsOfNoRow}
use Rattle.run_places.specs.Hands.Rows.{RowsReclaimNone}
use Rattle.run_debts.specs.Entries.{EntriesAreBlank}
use Rattle.run_places.specs.Given.ScenesHeld.{Held, IsAt}
use Rattle.run_places.specs.Given.ScenesScene.{Scene}
use Rattle.run_places.specs.Given.ScenesStepping.{StepLeads}

-- the word of a block that a row is to retire, or to put behind another one, which has this word
pub data RowObligation : Type 0 where
  ToRetire : ℕ → RowObligation
  ToPut : ℕ → At → RowObligation

abbrev pub word_due : Option RowObligation → Option ℕ
word_due None = None
word_due (Some (ToRetire word)) = Some word
word_due (Some (ToPut word place)) = Some word

-- the one that it is to retire, until its batch is told of
abbrev pub due_in_settle : Settle → Settling → Option RowObligation
due_in_settle c settling.Sees = Some (ToRetire c.pending)
due_in_settle c settling.Holds = Some (ToRetire c.pending)
due_in_settle c settling.Pops = Some (ToRetire c.pending)
due_in_settle c (settling.Firsts block) = Some (ToRetire block)
due_in_settle c (settling.Batches block) = Some (ToRetire block)
due_in_settle c _ = None

-- and the one that it is to put behind another, until it is there
abbrev pub due_in_defer : Defer → Deferring → Option RowObligation
due_in_defer c deferring.Over = None
due_in_defer c _ = Some (ToPut c.block c.table_word)

abbrev pub due_in_disposing : Disposing → Option RowObligation
due_in_disposing (disposing.Settles settle) = due_in_settle settle settle.stands
due_in_disposing (disposing.Defers defer) = due_in_defer defer defer.stands
due_in_disposing _ = None

abbrev pub due_in_copying : Copying → Option RowObligation
due_in_copying (copying.Retires settle rest) = due_in_settle settle settle.stands
due_in_copying _ = None

abbrev pub due_in_calling : Calling → Option RowObligation
due_in_calling (calling.Disposes dispose answer) = due_in_disposing dispose.stands
due_in_calling (calling.Helps copier goal) = due_in_copying copier.stands
due_in_calling (calling.Copies copier) = due_in_copying copier.stands
due_in_calling _ = None

abbrev pub due_in_reserving : Reserving → Option RowObligation
due_in_reserving (reserving.Copies copier) = due_in_copying copier.stands
due_in_reserving _ = None

abbrev pub due_in_sweeping : Sweeping → Option RowObligation
due_in_sweeping (sweeping.Copies copier) = due_in_copying copier.stands
due_in_sweeping (sweeping.Disposes dispose) = due_in_disposing dispose.stands
due_in_sweeping _ = None

abbrev pub due_in_row : {K V Q : Type 0} → Machine K V Q → Option RowObligation
due_in_row (kinds.Key p) = due_in_calling p.stands
due_in_row (kinds.Reserve r) = due_in_reserving r.stands
due_in_row (kinds.Sweep c) = due_in_sweeping c.stands
due_in_row (kinds.Count sum) = None

-- what is told as the block is retired: a pair, or a table
abbrev pub retired_effects : Role → List Effect
retired_effects (role.Pair n) = effect.Retired (APair n) ∷ []
retired_effects (role.Table t len) = effect.Retired (ATable t) ∷ []
retired_effects _ = []

-- What a step of a row within a call tells: nothing, and what it had in hand it has still; or it retires that, or has put it behind a table, and has nothing in hand
-- any more.
pub data RowTells (caller map : ℕ) (known : Known) (effects : List Effect) (before after : Option RowObligation) : Type 0 where
  TellsNone : effects ≡ [] → after ≡ before → RowTells caller map known effects before after
  TellsRetired : (word : ℕ) → before ≡ Some (ToRetire word) → after ≡ None → effects ≡ retired_effects (known.roles (block_in word)) → RowTells caller map known effects before after
  TellsDeferred : (word block : ℕ) (place : At) (t : TableId) (len : ℕ) → before ≡ Some (ToPut word place) → IsWordOf block place → after ≡ None → known.roles block ≡ role.Table t len
      → effects ≡ carried t (named known word)
      → RowTells caller map known effects before after

-- each block that is noted as a table of somebody's own is one that somebody makes
abbrev pub OwnAreMade : {T : Type 0} → Known → World T → Type 0
OwnAreMade known w = (b turn : ℕ) (shape : TableShape) → known.roles b ≡ role.OwnTable turn shape → (j : ℕ) × (w.hand b ≡ Making j)

-- The promise, of each step of a row within a call, where that is so.
abbrev pub RowsTellDue : (K V : Type 0) (same : K → K → Bool) (hash : ℕ → K → ℕ) → Type 0
RowsTellDue K V same hash =
    (name : ℕ → List ℕ) (m : Moment K V) (known : Known) (s : Scene K V) (old new : Held K V) → IsAt same hash old s → Refines same name m known s → RowsReclaimNone s → EntriesAreBlank s → OwnAreMade known s.world
    → (map i : ℕ) (u : UnderWay K V K) (here : s.calls map i ≡ Some u) (said : Progress (Node K V)) (leads : StepLeads same hash i said s old new)
    → (let to = leads map u here in
    (IsOfNoRow same old.batch_size old.roots s.world s.maps s.calls s.makers s.enders map to.0 i new.memory to.4.w2 to.4.maps2 to.4.next u to.1 said to.4.did → ⊥)
    → RowTells i map known (effects_of (Call i map) known new.changed) (due_in_row (machine_of u)) (due_in_row to.1))
