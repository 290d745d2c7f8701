-- What an onlooker of a walk was shown, step by step, and which pairs those were.
use Rattle.std.specs.Prelude.{◌≡◌, ℕ, Bool, List, [], ◌∷◌, ◌++◌, Some}
use Rattle.std.specs.List.{FoldsTo}
use Rattle.seize_words.specs.OneMemory.Word.{block_in}
use Rattle.map_tables.specs.declared.node.Node.{Node}
use Rattle.map_tables.specs.declared.node.Node.TheVariants.{Pair}
use Rattle.papaya_raw.specs.declared.machines.progress.Progress.{Progress}
use Rattle.papaya_raw.specs.declared.machines.progress.Progress.TheVariants as progress
use Rattle.threads_calls.specs.Given.ErrandsLooking.{Begins}
use Rattle.threads_calls.specs.Given.ViewsLooks.{shown_in}
use Rattle.threads_calls.specs.Given.ViewsDeclared.view.View.{View}
use Rattle.threads_sweeps.specs.Closures.{TakesSteps, WasAskedNext}
use Rattle.threads_sweeps.specs.Swept.{walks}

-- The onlooker was shown the pair of this word, which the seat shows, and is so then.
pub record WasShown {T K V S : Type 0} (sees : T → K → V → T → Type 0) (word : ℕ) (v : View K V S) (t next : T) : Type 0 where
  pub key : K
  pub value : V
  pub shown : shown_in v.held (block_in word) ≡ Some (Pair key value)
  pub seen : sees t key value next

module _ {T K V S : Type 0} where
  -- What follows where a step of a walk has told this: a pair is shown to the onlooker, and the next one asked for; of one that is ready the first.
  abbrev pub SeesSo : (T → K → V → T → Type 0) → Progress (Node K V) → T → View K V S → T → View K V S → Type 0
  SeesSo sees (progress.Pair word) t v next w = WasShown sees word v t next × WasAskedNext v w
  SeesSo sees progress.Ready t v next w = (next ≡ t) × WasAskedNext v w
  SeesSo sees told t v next w = (next ≡ t) × (w ≡ v)

module _ {K V S : Type 0} (same : K → K → Bool) (hash : S → K → ℕ) where
  -- It has begun a walk, and the onlooker was shown each pair that this has told, in order, and nothing else: it is so then.
  abbrev pub HasShownTo : {T : Type 0} → (T → K → V → T → Type 0) → T → T → View K V S → View K V S → Type 0
  HasShownTo sees t last v w = (u : View K V S) × (n : ℕ) × Begins same hash walks v u × TakesSteps same hash (SeesSo sees) n t u last w

  -- it has begun a walk, which has told just these pairs, in order
  abbrev pub HasTold : List (K × V) → View K V S → View K V S → Type 0
  HasTold pairs v w = HasShownTo (λ xs key value ys. ys ≡ xs ++ ((key, value) ∷ [])) [] pairs v w

  -- It has begun a walk, which has told just some pairs, in order, and the onlooker has come to be so by being shown these, one after another.
  abbrev pub HasBeenShown : {T : Type 0} → (T → K → V → T → Type 0) → T → T → View K V S → View K V S → Type 0
  HasBeenShown sees t last v w = (pairs : List (K × V)) × HasTold pairs v w × FoldsTo (λ x pair y. sees x pair.0 pair.1 y) t pairs last
