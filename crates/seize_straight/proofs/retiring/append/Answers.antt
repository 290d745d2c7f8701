-- Each operation is the settling's next one.
use Rattle.std.specs.Prelude.{ℕ}
use Rattle.std.proofs.Common.{sym, subst}
use Rattle.seize_words.specs.OneMemory.Op.{Load, Store, Add, Found, Stored}
use Rattle.seize_words.specs.declared.at.At.TheVariants.{Entry}
use Rattle.seize.specs.declared.rows.settle.Settling.{Settling}
use Rattle.seize.specs.declared.rows.settle.Settling.TheVariants as at
use Rattle.seize.specs.declared.states.TheConstants.{COUNT, FIRST, NEXT}
use Rattle.seize_straight.proofs.Retirements as by
use Rattle.seize_straight.proofs.Running.{begins, next, on_from, reaches_to}
use Rattle.seize_straight.proofs.retiring.append.Given as given
use Rattle.seize_straight.proofs.retiring.append.Goals as goal
use Rattle.seize_straight.proofs.retiring.append.Goals.{After-load-first, After-load-pending, After-store, After-store-2, After-store-3}

-- the batch is held, and the block is being put behind its last one
abbrev Grows : (g : given.Over) (slot size block last : ℕ) → g.row.M.Denot → (pending new first : ℕ) → Settling → g.row.M.Denot → Type 0
Grows g = by.Grows g.T.Defers.defers g.M.Look.can g.M.Look.took g.M.Look.shown

popped : (g : given.Over) (c : goal.After-load-pending g) → Grows g c.args.slot c.args.batch_size c.args.block c.args.last c.args.memory.now c.load-pending.result c.args.last 0 (at.Firsts c.args.block) c.load-pending.new.self
popped g c = by.popped g.T.Defers.defers (begins c.requires.may) c.requires.last (subst (λ b. g.M.Look.took c.args.memory.now (Load (Entry b NEXT)) (Found c.load-pending.result) c.load-pending.new.self) c.block_of.ensures c.load-pending.ensures)

firsted : (g : given.Over) (c : goal.After-load-first g)
    → Grows g c.args.slot c.args.batch_size c.args.block c.args.last c.args.memory.now c.load-pending.result c.args.last 0 (at.Firsts c.args.block) c.load-pending.new.self
    → Grows g c.args.slot c.args.batch_size c.args.block c.args.last c.args.memory.now c.load-pending.result c.args.last c.load-first.result (at.Batches c.args.block) c.load-first.new.self
firsted g c l = by.firsted g.T.Defers.defers l c.requires.block (subst (λ b. g.M.Look.took c.load-pending.new.self (Load (Entry b FIRST)) (Found c.load-first.result) c.load-first.new.self) c.block_of-2.ensures c.load-first.ensures)

batched : (g : given.Over) (c : goal.After-store g)
    → Grows g c.args.slot c.args.batch_size c.args.block c.args.last c.args.memory.now c.load-pending.result c.args.last c.load-first.result (at.Batches c.args.block) c.load-first.new.self
    → Grows g c.args.slot c.args.batch_size c.args.block c.args.last c.args.memory.now c.load-pending.result c.args.last c.load-first.result (at.Ends c.args.block) c.store.new.self
batched g c l = by.batched g.T.Defers.defers l (subst (λ b. g.M.Look.took c.load-first.new.self (Store (Entry b FIRST) c.load-first.result) Stored c.store.new.self) c.block_of-3.ensures c.store.ensures)

ended : (g : given.Over) (c : goal.After-store-2 g)
    → Grows g c.args.slot c.args.batch_size c.args.block c.args.last c.args.memory.now c.load-pending.result c.args.last c.load-first.result (at.Ends c.args.block) c.store.new.self
    → Grows g c.args.slot c.args.batch_size c.args.block c.args.last c.args.memory.now c.load-pending.result c.args.last c.load-first.result (at.Appends c.args.block) c.store-2.new.self
ended g c l = by.ended g.T.Defers.defers l c.requires.last (subst (λ b. g.M.Look.took c.store.new.self (Store (Entry b NEXT) 0) Stored c.store-2.new.self) c.block_of-4.ensures c.store-2.ensures)

appended : (g : given.Over) (c : goal.After-store-3 g)
    → Grows g c.args.slot c.args.batch_size c.args.block c.args.last c.args.memory.now c.load-pending.result c.args.last c.load-first.result (at.Appends c.args.block) c.store-2.new.self
    → Grows g c.args.slot c.args.batch_size c.args.block c.args.last c.args.memory.now c.load-pending.result c.args.last c.load-first.result (at.Counts c.args.block) c.store-3.new.self
appended g c l = by.appended g.T.Defers.defers l (subst (λ b. g.M.Look.took c.store-2.new.self (Store (Entry b NEXT) c.args.block) Stored c.store-3.new.self) c.block_of-5.ensures c.store-3.ensures)

pub load-pending-requires : goal.load-pending-requires
load-pending-requires g c =
    subst (λ b. g.M.Look.can c.args.memory.now (Load (Entry b NEXT))) (sym c.block_of.ensures) (next (begins c.requires.may)).0

pub load-first-requires : goal.load-first-requires
load-first-requires g c =
    let x = goal.at.load-first-requires g c in
    subst (λ b. g.M.Look.can c.load-pending.new.self (Load (Entry b FIRST))) (sym c.block_of-2.ensures) (next (popped g x.After-load-pending)).0

pub store-requires : goal.store-requires
store-requires g c =
    let x = goal.at.store-requires g c in
    subst (λ b. g.M.Look.can c.load-first.new.self (Store (Entry b FIRST) c.load-first.result)) (sym c.block_of-3.ensures) (next (firsted g x.After-load-first (popped g x.After-load-pending))).0

pub store-requires-2 : goal.store-requires-2
store-requires-2 g c =
    let x = goal.at.store-requires-2 g c in
    subst (λ b. g.M.Look.can c.store.new.self (Store (Entry b NEXT) 0)) (sym c.block_of-4.ensures) (next (batched g x.After-store (firsted g x.After-load-first (popped g x.After-load-pending)))).0

pub store-requires-3 : goal.store-requires-3
store-requires-3 g c =
    let x = goal.at.store-requires-3 g c in
    subst (λ b. g.M.Look.can c.store-2.new.self (Store (Entry b NEXT) c.args.block)) (sym c.block_of-5.ensures) (next (ended g x.After-store-2 (batched g x.After-store (firsted g x.After-load-first (popped g x.After-load-pending))))).0

pub add-count-requires : goal.add-count-requires
add-count-requires g c =
    let x = goal.at.add-count-requires g c in
    subst (λ b. g.M.Look.can c.store-3.new.self (Add (Entry b COUNT) 1)) (sym c.block_of-6.ensures) (next (appended g x.After-store-3 (ended g x.After-store-2 (batched g x.After-store (firsted g x.After-load-first (popped g x.After-load-pending)))))).0

pub give-requires : goal.give-requires
give-requires g c =
    let x = goal.at.give-requires g c in
    on_from (by.counted g.T.Defers.defers (appended g x.After-store-3 (ended g x.After-store-2 (batched g x.After-store (firsted g x.After-load-first (popped g x.After-load-pending))))) (subst (λ b. g.M.Look.took c.store-3.new.self (Add (Entry b COUNT) 1) (Found c.add-count.result) c.add-count.new.self) c.block_of-6.ensures c.add-count.ensures))

pub returns : goal.returns
returns g c =
    let x = goal.at.returns g c in
    reaches_to (by.counted g.T.Defers.defers (appended g x.After-store-3 (ended g x.After-store-2 (batched g x.After-store (firsted g x.After-load-first (popped g x.After-load-pending))))) (subst (λ b. g.M.Look.took c.store-3.new.self (Add (Entry b COUNT) 1) (Found c.add-count.result) c.add-count.new.self) c.block_of-6.ensures c.add-count.ensures))
    c.give.new.memory _ c.give.ensures
