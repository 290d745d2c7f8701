-- What reclaiming all finds behind roots in a small memory, and what its definitions forbid.
use Rattle.std.specs.Prelude.{◌≡◌, Option, None, Some}
use Rattle.std.proofs.Common.{ℕ, suc, true, List, [], ◌∷◌, refl, arith, inl, inr}
use Rattle.seize_words.specs.OneMemory.Word.{link_to}
use Rattle.seize_words.specs.declared.block.Block.{Block}
use Rattle.seize.specs.declared.rows.settle.Settled.TheVariants as settled
use Rattle.seize.specs.World.{World, Rests, Vacant, Outside, Handed, LeftTo, Retire, Leave', Register', Begin, Step}
use Rattle.seize_acts.specs.Acts.Reclaimed.{IsStillHad}
use Rattle.run_effects.specs.Given.TablesDeclared.node.Node.{Node}
use Rattle.run_effects.specs.Given.TablesDeclared.node.Node.TheVariants as node
use Rattle.many_maps.specs.Maps.{Standing}
use Rattle.run_shows.specs.Reclaims.Deferred.{IsDeferredOn, OnlyPairsWait}
use Rattle.run_shows.specs.Reclaims.Reclaims.{RootLeads, ReclaimingOutcome, AllIsReclaimed}
use Rattle.run_shows.specs.Reclaims.Slots.{AreItsRows, IsQuiescent}

-- Root 0 leads to block 1, a pair, and that one to block 2. Root 1 is free.
abbrev pair : ℕ → ℕ → Block (Node ℕ ℕ)
pair key next = record { value = node.Pair key key; entry = next ∷ 0 ∷ 0 ∷ 0 ∷ []; words = [] }

abbrev left : World (Node ℕ ℕ)
left = record {
  memory = record { roots = link_to 1 ∷ 0 ∷ []; used = 1 ∷ 0 ∷ []; slots = []; blocks = Some (pair 7 (link_to 2)) ∷ Some (pair 8 0) ∷ []; choices = [] };
  row = λ i. Rests;
  uses = λ s. Vacant;
  hand = λ b. LeftTo 0;
  log = [];
}

leads : RootLeads left 0 (1 ∷ 2 ∷ [])
leads = ((node.Pair 7 7, refl, refl), (link_to 1, refl, (link_to 2, omega arith, refl, refl, (0, omega arith, refl, refl, refl))), refl)

-- it does not lead to the second one alone, is not free, and the other root leads nowhere
not_second : RootLeads left 0 (2 ∷ []) → ⊥
not_second ((value, is, was), (word, here, (next, some, link, there, rest)), used) = grind (arith, here, link)

not_free : RootLeads left 0 [] → ⊥
not_free (used, here) = cc used

other_is_free : RootLeads left 1 []
other_is_free = (refl, refl)

-- While slot 0 is in use, it is not quiet.
abbrev used : World (Node ℕ ℕ)
used = record left { uses = λ s. Outside 0 }

not_quiet : IsQuiescent used → ⊥
not_quiet quiet = let vacant = quiet.vacant 0 in cc vacant

-- All is not reclaimed while a root leads to what was left, and no map stands.
abbrev no_maps : ℕ → Option (Standing ℕ)
no_maps m = None

not_all : AllIsReclaimed 2 left no_maps → ⊥
not_all all = elim (all.free 0 (omega arith)) as (λ _. ⊥) [
  | inl (m, s, stands, root) ↦ cc stands
  | inr (unused, empty) ↦ cc unused
]

-- a step never waits
never_waits : (w w2 : World (Node ℕ ℕ)) (lists lists2 : ℕ → List ℕ) → ReclaimingOutcome w w2 lists lists2 settled.Waits → ⊥
never_waits w w2 lists lists2 told = told

-- Rows on slots are a leaving and its steps, and no retiring, no entering, and nothing of another caller.
rows : AreItsRows {T = Node ℕ ℕ} 3 (Begin 3 (Leave' 0) ∷ Step 3 ∷ Step 3 ∷ [])
rows = (refl, tt, (refl, (refl, tt)))

no_retiring : AreItsRows {T = Node ℕ ℕ} 3 (Begin 3 (Retire 0 1) ∷ []) → ⊥
no_retiring (mine, kind, rest) = kind

no_entering : AreItsRows {T = Node ℕ ℕ} 3 (Begin 3 (Register' true) ∷ []) → ⊥
no_entering (mine, kind, rest) = cc kind

none_of_others : AreItsRows {T = Node ℕ ℕ} 3 (Step 4 ∷ []) → ⊥
none_of_others (mine, rest) = cc mine

-- What a deferred block stays behind is not the collector's, and not left over.
not_its : IsStillHad Handed → ⊥
not_its had = had

not_left : IsStillHad (LeftTo 0) → ⊥
not_left had = had

-- Nothing is deferred on the last table of a map: its resize has not begun.
not_on_the_last : (w : World (Node ℕ ℕ)) (s : Standing ℕ) (t b : ℕ) → suc t ≡ s.chart.past → IsDeferredOn w s t b → ⊥
not_on_the_last w s t b last on = let next = on.unfinished in omega (arith, next, last)

-- Where no map stands, what the collector has is deferred on no table of one.
abbrev handed_over : World (Node ℕ ℕ)
handed_over = record left { hand = λ b. Handed }

waits_nowhere : OnlyPairsWait handed_over no_maps → ⊥
waits_nowhere waits = let stands = (waits 1 refl).2 in cc stands
