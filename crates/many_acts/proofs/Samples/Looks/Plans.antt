-- Wrong plans beside the laws of what steps look at, and see: stepped in a world of a few blocks, where a law's clause is false of them.
use Rattle.std.specs.Prelude.{◌≡◌, ℕ, zero, suc, true, [], IsSome, ◌⊎◌}
use Rattle.std.proofs.Common.{inl, inr, refl, arith}
use Rattle.run_shows.specs.Given.SeizeWordsMem.{Mem, Took, value_at}
use Rattle.run_shows.specs.Given.SeizeWordsOp.{Load, Found}
use Rattle.run_shows.specs.Given.SeizeWordsPlan.{Plan, Do, Now, Seeing, Steps}
use Rattle.run_shows.specs.Given.SeizeWordsDeclared.at.At.TheVariants.{Word}
use Rattle.run_shows.specs.Given.SeizeLaw.{holds}
use Rattle.run_shows.specs.Given.SeizeWorld.{World, Rests, Vacant, Hand, NoBlock, Making, InUse}
use Rattle.run_shows.specs.Given.TablesDeclared.node.Node.{Node}
use Rattle.run_shows.specs.Given.RawCallPoints.{entering, inserting}
use Rattle.run_shows.specs.Given.RawDeclared.machines.answer.Called.{Called}
use Rattle.run_shows.specs.Given.RawDeclared.machines.answer.Called.TheVariants as called
use Rattle.run_shows.specs.Given.RawDeclared.machines.call.KeyCall.{KeyCall}
use Rattle.run_shows.specs.Given.RawDeclared.machines.machine.Machine.TheVariants as kinds
use Rattle.run_shows.specs.Given.RawDeclared.machines.progress.Progress.TheVariants as progress
use Rattle.owner_facts.proofs.Given.LateSamples.Plans.FewBlocks.{setting, memory, new}
use Rattle.many_acts.specs.Looks.Blocks.{LooksAt, MayMake}
use Rattle.many_acts.specs.Looks.Sees.{HasSeen, Continues, IsOwnOf}
use Rattle.many_acts.specs.Looks.Looks.{IsHeldFor}

-- A call that loads the link of a table which it has left: the first one of that world.
abbrev looks_back : KeyCall ℕ ℕ ℕ → Plan (Node ℕ ℕ) (KeyCall ℕ ℕ ℕ × Called (Node ℕ ℕ))
looks_back p = Do (Load (Word 2 0)) (λ out. Now (p, called.Goes))

-- block 1 is the counter, and the others are linked
abbrev hand_of : ℕ → Hand
hand_of zero = NoBlock
hand_of (suc zero) = Making 0
hand_of (suc (suc b)) = InUse 1

-- No section is open there, and so none holds that table.
abbrev world : World (Node ℕ ℕ)
world = record { memory = memory; row = λ i. Rests; uses = λ s. Vacant; hand = hand_of; log = [] }

abbrev insertion : KeyCall ℕ ℕ ℕ
insertion = (entering (inserting setting 0 7 9) new).0

back_steps : (m : Mem (Node ℕ ℕ)) × (end : KeyCall ℕ ℕ ℕ × Called (Node ℕ ℕ)) × Steps Took value_at memory (looks_back insertion) m end
back_steps = (memory, (insertion, called.Goes), (Found 6144, (refl, refl), refl))

back_looks : LooksAt 2 memory (looks_back insertion)
back_looks = inl refl

not_held : (slot caller : ℕ) → IsHeldFor world slot caller setting.counter 2 → ⊥
not_held slot caller (inl held) = cc held
not_held slot caller (inr (inl own)) = own
not_held slot caller (inr (inr counter)) = omega (arith, counter)

-- It stands at no row, and makes no block.
back_is_refused : (slot caller : ℕ) → (IsSome (value_at memory 2) × (⊥ ⊎ IsHeldFor world slot caller setting.counter 2)) ⊎ MayMake 2 memory (looks_back insertion) → ⊥
back_is_refused slot caller (inl (there, inl row)) = row
back_is_refused slot caller (inl (there, inr held)) = not_held slot caller held
back_is_refused slot caller (inr made) = made

-- And one that sees that table, once it has loaded its link: no section holds it, and it is no pair of the call's own.
abbrev sees_back : KeyCall ℕ ℕ ℕ → Plan (Node ℕ ℕ) (KeyCall ℕ ℕ ℕ × Called (Node ℕ ℕ))
sees_back p = Do (Load (Word 2 0)) (λ out. Seeing 2 (λ value. Now (p, called.Goes)))

back_seen : HasSeen 2 memory (sees_back insertion) memory (insertion, called.Goes)
back_seen = (Found 6144, (refl, refl), (_, refl, refl), inl refl)

sight_is_refused : (slot : ℕ) → (holds slot 2 world.log ≡ true) ⊎ (IsOwnOf (kinds.Key insertion) 2 × Continues {T = Node ℕ ℕ} progress.Goes) → ⊥
sight_is_refused slot (inl held) = cc held
sight_is_refused slot (inr (own, on)) = let some = own.1 in cc some
