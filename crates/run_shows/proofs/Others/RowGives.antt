-- A row on a slot hands out the value of the block that it has taken away.
use Rattle.std.specs.Prelude.{◌≡◌, ℕ, nat_lt, Bool, true, false, List, [], Option, Some, Ok, Err, if◌then◌else◌}
use Rattle.std.proofs.Common.{refl, ap, sym, subst}
use Rattle.seize_words.specs.OneMemory.Mem.{Mem, Took, value_at}
use Rattle.seize_words.specs.OneMemory.Op.{Op, Out, Load, Store, Swap, Add, Or, Exchange, Make, Take, Rewrite, Room, Found, Exchanged, Made, Taken, Roomed}
use Rattle.seize_words.specs.OneMemory.Plan.{Plan, Turn, Do, Now, Ends}
use Rattle.seize_words.specs.OneMemory.Word.{block_in}
use Rattle.seize.specs.Enter.{enter_plan, unregister_plan}
use Rattle.seize.specs.Law.{Effect}
use Rattle.seize.specs.Leave as leave
use Rattle.seize.specs.Register as register
use Rattle.seize.specs.Sequence.{taken_in}
use Rattle.seize.specs.Settle as settle
use Rattle.seize.specs.World.{settle_effects}
use Rattle.seize.specs.declared.advance.Advance.{Advance}
use Rattle.seize.specs.declared.advance.Advance.TheVariants as progress
use Rattle.seize.specs.declared.rows.leave.Leave.{Leave}
use Rattle.seize.specs.declared.rows.leave.Leaving.{Leaving}
use Rattle.seize.specs.declared.rows.leave.Leaving.TheVariants as leaving
use Rattle.seize.specs.declared.rows.register.Register.{Register}
use Rattle.seize.specs.declared.rows.register.Registering.{Registering}
use Rattle.seize.specs.declared.rows.register.Registering.TheVariants as registering
use Rattle.seize.specs.declared.rows.settle.Settle.{Settle}
use Rattle.seize.specs.declared.rows.settle.Settled.{Settled}
use Rattle.seize.specs.declared.rows.settle.Settled.TheVariants as settled
use Rattle.seize.specs.declared.rows.settle.Settling.{Settling}
use Rattle.seize.specs.declared.rows.settle.Settling.TheVariants as settling
use Rattle.seize.specs.declared.states.TheConstants.{ACTIVE}
use Rattle.run_effects.proofs.Given.SeizeRuleRows.Taken.{TellsTaken, settle_tells}
use Rattle.run_effects.specs.Given.TablesNodes.{deferred_word}
use Rattle.run_effects.specs.Given.TablesDeclared.node.Node.{Node}
use Rattle.run_effects.specs.Tells.Seen.{seen_of}
use Rattle.run_effects.specs.ReportingMemory.Tells.{observed_of, StepsObserved}
use Rattle.run_effects.specs.declared.changed.Changed.{Changed}
use Rattle.run_effects.specs.declared.changed.Changed.TheVariants as changed
use Rattle.run_shows.specs.declared.row.RowTold.{RowTold}
use Rattle.run_shows.specs.declared.row.SlotRow.{SlotRow}
use Rattle.run_shows.specs.declared.row.SlotRow.TheVariants as rows
use Rattle.run_shows.specs.Follows.Steps.{TakesNone}
use Rattle.run_shows.specs.Others.Gives.{GivesWhatItTook, RowsGiveWhatTheyTook}
use Rattle.run_shows.proofs.Others.Outcomes.{told_in}
use Rattle.run_shows.proofs.Scenes.Told.{as_step}
use Rattle.run_shows.specs.Scenes.OnSlots.{RowSteps}
use Rattle.run_shows.specs.Scenes.Rows.{of_registering, of_settling, of_storing}

module _ {T : Type 0} where
  -- the operation takes no block away
  abbrev IsNoTake : Op T → Type 0
  IsNoTake (Take b) = ⊥
  IsNoTake _ = Unit {0}

  abbrev IsNoTakePlan : {R : Type 0} → Plan T R → Type 0
  IsNoTakePlan (Turn rest) = Unit {0}
  IsNoTakePlan (Do op rest) = IsNoTake op

-- the stage at which a settling takes one
abbrev pub IsTakes : Settling → Type 0
IsTakes (settling.Takes next) = Unit {0}
IsTakes _ = ⊥

module _ {T : Type 0} (defers : T → Option ℕ) (c : Settle) where
  no_take : (p : Settling) → (IsTakes p → ⊥) → IsNoTakePlan (settle.plan_at defers c p)
  no_take (settling.Takes next) none = absurd (none tt)
  no_take _ none = tt

none_taken : (c : Settle) (p : Settling) → (IsTakes p → ⊥) → taken_in (settle_effects c p) ≡ []
none_taken c (settling.Counts block) none = refl
none_taken c (settling.Takes next) none = absurd (none tt)
none_taken c _ none = refl

registers_none : (T : Type 0) (c : Register) (p : Registering) → IsNoTakePlan (register.plan_at {T = T} c p)
registers_none T c registering.Begin = tt
registers_none T c _ = tt

module _ {K V : Type 0} (m m2 : Mem (Node K V)) (told : Changed) where
  op_none : (op : Op (Node K V)) (out : Out (Node K V)) → IsNoTake op → TakesNone (observed_of op out (seen_of m op out))
  op_none (Load at) out is = tt
  op_none (Store at word) out is = tt
  op_none (Swap at word) (Found before) is = tt
  op_none (Swap at word) _ is = tt
  op_none (Add at by) (Found before) is = tt
  op_none (Add at by) _ is = tt
  op_none (Or at bits) (Found before) is = tt
  op_none (Or at bits) _ is = tt
  op_none (Exchange at old new) (Exchanged (Ok word)) is = tt
  op_none (Exchange at old new) _ is = tt
  op_none (Make value words) (Made (Ok b)) is = tt
  op_none (Make value words) (Made (Err back)) is = tt
  op_none (Make value words) _ is = tt
  op_none (Take b) out is = absurd is
  op_none (Rewrite b value) out is = tt
  op_none (Room bucket) (Roomed roomed) is = tt
  op_none (Room bucket) _ is = tt

  plan_none : {R : Type 0} (plan : Plan (Node K V) R) (end : R) → StepsObserved K V R m changed.Nothing plan m2 told end → IsNoTakePlan plan → TakesNone told
  plan_none (Turn rest) end steps is = subst TakesNone (sym steps.2) tt
  plan_none (Do op rest) end steps is = subst TakesNone (sym steps.1.1) (op_none op steps.0 is)

  -- what a settling hands out
  abbrev GivesBy : Settled (Node K V) → Type 0
  GivesBy (settled.Gave value) = (b : ℕ) × (told ≡ changed.Took b) × (value_at m b ≡ Some value)
  GivesBy _ = TakesNone told

  by_silence : (effects : List Effect) → taken_in effects ≡ [] → TakesNone told → (p : Settled (Node K V)) → TellsTaken m m2 effects p → GivesBy p
  by_silence effects none silent settled.Goes tells = silent
  by_silence effects none silent settled.Waits tells = silent
  by_silence effects none silent (settled.Gave value) tells = absurd (let some = tells.1 in cc (none, some))
  by_silence effects none silent settled.Done tells = silent

  module _ (c : Settle) (end : Settle × Settled (Node K V)) where
    takes_gives : (next : ℕ) (out : Out (Node K V)) → Took m (Take (block_in c.reclaiming)) out m2 → told ≡ changed.Took (block_in c.reclaiming) → Ends (value_at m2) (settle.given_back c next out) end → GivesBy end.1
    takes_gives next (Taken value) took is e = subst GivesBy (sym (ap (λ (x : Settle × Settled (Node K V)). x.1) e)) (block_in c.reclaiming, is, took.0)
    takes_gives next _ took is e = absurd took.0

    settle_gives_at : (p : Settling) → StepsObserved K V (Settle × Settled (Node K V)) m changed.Nothing (settle.plan_at deferred_word c p) m2 told end → TellsTaken m m2 (settle_effects c p) end.1 → GivesBy end.1
    settle_gives_at (settling.Takes next) s tells = takes_gives next s.0 s.1.0 s.1.1 s.2
    settle_gives_at p s tells = by_silence (settle_effects c p) (none_taken c p (λ h. h)) (plan_none (settle.plan_at deferred_word c p) end s (no_take (deferred_word {K = K} {V = V}) c p (λ h. h))) end.1 tells

    settle_gives : StepsObserved K V (Settle × Settled (Node K V)) m changed.Nothing (settle.settle_plan deferred_word c) m2 told end → GivesBy end.1
    settle_gives s = settle_gives_at c.stands s (settle_tells deferred_word m m2 c end (as_step m changed.Nothing (settle.settle_plan deferred_word c) m2 told end s))

  module _ (c : Leave) (end : Leave × Settled (Node K V)) where
    goes : TakesNone told → (x : Leave) → ◌≡◌ {A = Leave × Settled (Node K V)} end (x, settled.Goes) → GivesBy end.1
    goes none x e = subst GivesBy (sym (ap (λ (y : Leave × Settled (Node K V)). y.1) e)) none

    swaps_gives : TakesNone told → (out : Out (Node K V)) → Ends (value_at m2) (leave.list_taken c out) end → GivesBy end.1
    swaps_gives none (Found head) e = by (nat_lt ACTIVE head) e
      where
        by : (q : Bool) → Ends (value_at m2) (if q then Now (leave.standing c (leaving.Settles (settle.counting_down c.slot c.batch_size head)), settled.Goes) else Now (leave.counted_down c, settled.Goes)) end → GivesBy end.1
        by true f = goes none _ f
        by false f = goes none _ f
    swaps_gives none _ e = goes none _ e

    settled_gives : (r : Settle × Settled (Node K V)) → GivesBy r.1 → GivesBy (leave.settled c r).1
    settled_gives (x, settled.Goes) g = g
    settled_gives (x, settled.Waits) g = g
    settled_gives (x, settled.Gave value) g = g
    settled_gives (x, settled.Done) g = g

    leave_gives : (p : Leaving) → StepsObserved K V (Leave × Settled (Node K V)) m changed.Nothing (leave.plan_at deferred_word c p) m2 told end → GivesBy end.1
    leave_gives leaving.Swaps s = swaps_gives (plan_none (leave.plan_at deferred_word c leaving.Swaps) end s tt) s.0 s.2
    leave_gives (leaving.Settles it) s =
        let inner = told_in m m2 told (leave.settled c) (settle.settle_plan deferred_word it) end s in
        subst GivesBy (sym (ap (λ (y : Leave × Settled (Node K V)). y.1) inner.1)) (settled_gives inner.0 (settle_gives it inner.0 inner.2))
    leave_gives leaving.Frees s = goes (plan_none (leave.plan_at deferred_word c leaving.Frees) end s tt) _ s.2
    leave_gives leaving.Over s = subst GivesBy (sym (ap (λ (y : Leave × Settled (Node K V)). y.1) s.1)) (plan_none (leave.plan_at deferred_word c leaving.Over) end s tt)

  -- as a row tells it
  by_settling : (p : Settled (Node K V)) → GivesBy p → GivesWhatItTook m told (of_settling p)
  by_settling settled.Goes g = g
  by_settling settled.Waits g = g
  by_settling (settled.Gave value) g = g
  by_settling settled.Done g = g

  by_registering : (p : Advance ℕ) → TakesNone told → GivesWhatItTook m told (of_registering p)
  by_registering progress.Goes none = none
  by_registering progress.Waits none = none
  by_registering (progress.Done slot) none = none
  by_registering (progress.Refused fault) none = none

  by_storing : (p : Advance Unit) → TakesNone told → GivesWhatItTook m told (of_storing p)
  by_storing progress.Goes none = none
  by_storing progress.Waits none = none
  by_storing (progress.Done u) none = none
  by_storing (progress.Refused fault) none = none

  as_told : (after : SlotRow × RowTold (Node K V)) (row : SlotRow) (it : RowTold (Node K V)) → after ≡ (row, it) → GivesWhatItTook m told it → GivesWhatItTook m told after.1
  as_told after row it e g = subst (GivesWhatItTook m told) (sym (ap (λ (x : SlotRow × RowTold (Node K V)). x.1) e)) g

  row_gives : (after : SlotRow × RowTold (Node K V)) (row : SlotRow) → RowSteps K V row m m2 told after → GivesWhatItTook m told after.1
  row_gives after (rows.Registers c) s = as_told after _ _ s.2 (by_registering s.0.1 (plan_none (register.register_plan c) s.0 s.1 (registers_none (Node K V) c c.stands)))
  row_gives after (rows.Enters c) s = as_told after _ _ s.2 (by_storing s.0.1 (plan_none (enter_plan c) s.0 s.1 tt))
  row_gives after (rows.Leaves c) s = as_told after _ _ s.2 (by_settling s.0.1 (leave_gives c s.0 c.stands s.1))
  row_gives after (rows.Flushes c) s = as_told after _ _ s.2 (by_settling s.0.1 (settle_gives c s.0 s.1))
  row_gives after (rows.Frees c) s = as_told after _ _ s.2 (by_storing s.0.1 (plan_none (unregister_plan c) s.0 s.1 tt))

pub rows_give_what_they_took : (K V : Type 0) (same : K → K → Bool) (hash : ℕ → K → ℕ) → RowsGiveWhatTheyTook K V same hash
rows_give_what_they_took K V same hash s old new i told leads row here =
    let to = leads row here in row_gives old.memory new.memory new.changed (to.0, told) row to.1
