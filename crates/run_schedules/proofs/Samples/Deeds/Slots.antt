-- Who registers asks for the bucket that it needs, once; and rows are of one kind each. And wrong histories.
use Rattle.std.proofs.Common.{◌≡◌, ℕ, Bool, true, false, List, [], ◌∷◌, inl, inr, refl, sym, Option, Some, None}
use Rattle.run_schedules.specs.declared.effect.Effect.{Effect}
use Rattle.run_schedules.specs.declared.effect.Effect.TheVariants.{Asked, Reclaimed}
use Rattle.run_schedules.specs.declared.effect.Growth.TheVariants.{ABucket}
use Rattle.run_schedules.specs.declared.effect.Thing.TheVariants.{APair}
use Rattle.run_schedules.specs.declared.outcome.Outcome.TheVariants.{Goes}
use Rattle.run_schedules.specs.Deeds.Deeds.{Entry, Leaves, Registers, Shuts, Tends}
use Rattle.run_schedules.specs.Deeds.History.{MovesOn}
use Rattle.run_schedules.proofs.Samples.Deeds.{entry, one_none, removed}
use Rattle.run_schedules.proofs.Samples.Schedules.Words.{small as terms}
use Rattle.seize_words.proofs.General.{either, true_not_false as yes_no}

abbrev asks : Bool → ℕ → Entry ℕ ℕ
asks refused slot = record { deed = Registers slot; outcome = Goes; effects = Asked ABucket ∷ []; refused = refused }

asks_first : MovesOn terms [] (asks false 0)
asks_first = record { finds = (inl (refl, refl), tt); may = refl; granted = refl; refuses = tt; whole = tt; leaves = tt }

-- Where it was refused the next one asks for the same bucket.
asks_again : MovesOn terms (asks true 0 ∷ []) (asks false 0)
asks_again = record { finds = (inl (refl, refl), tt); may = refl; granted = refl; refuses = tt; whole = tt; leaves = tt }

-- The second bucket is asked for before the last slot of the first one is taken.
abbrev reached : List (Entry ℕ ℕ)
reached = entry (Registers 31) Goes [] ∷ asks false 0 ∷ []

asks_next : MovesOn terms reached (asks false 31)
asks_next = record { finds = (inr refl, tt); may = refl; granted = refl; refuses = tt; whole = tt; leaves = tt }

-- Wrong: the first bucket is asked for twice; the second one for another slot.
none_some : ◌≡◌ {A = Option ℕ} None (Some 1) → ⊥
none_some h = cc

asks_twice : MovesOn terms (asks false 0 ∷ []) (asks false 0) → ⊥
asks_twice is = either (λ e. one_none e.1) none_some is.finds.0

asks_early : MovesOn terms (asks false 0 ∷ []) (asks false 1) → ⊥
asks_early is = either (λ e. one_none e.0) none_some is.finds.0

-- A batch is flushed in whose slot no section is open: what it holds may be given back.
abbrev back : List Effect
back = Reclaimed (APair 1) ∷ []

flushes : MovesOn terms (entry (Shuts 3) Goes [] ∷ removed) (entry (Tends 3) Goes back)
flushes = record { finds = (tt, tt); may = refl; granted = refl; refuses = tt; whole = tt; leaves = tt }

-- Wrong: who registers reclaims, who leaves or flushes asks for a bucket, and the step by which a section ends reclaims.

registers_reclaims : MovesOn terms [] (entry (Registers 0) Goes back) → ⊥
registers_reclaims is = yes_no (sym is.may)

leaves_asks : MovesOn terms [] (entry (Leaves 0) Goes (Asked ABucket ∷ [])) → ⊥
leaves_asks is = yes_no (sym is.may)

flushes_asks : MovesOn terms [] (entry (Tends 0) Goes (Asked ABucket ∷ [])) → ⊥
flushes_asks is = yes_no (sym is.may)

shuts_reclaims : MovesOn terms [] (entry (Shuts 0) Goes back) → ⊥
shuts_reclaims is = yes_no (sym is.may)
