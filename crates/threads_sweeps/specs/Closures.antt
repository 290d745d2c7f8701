-- What the closure of a call over all pairs was called with, step by step, and what was done with what it has answered.
use Rattle.std.specs.Prelude.{◌≡◌, ℕ, zero, suc, Bool, Some}
use Rattle.std.specs.Fn.{Called, Mut}
use denote.Ref.{Bor}
use Rattle.seize_words.specs.OneMemory.Word.{block_in}
use Rattle.map_tables.specs.declared.node.Node.{Node}
use Rattle.map_tables.specs.declared.node.Node.TheVariants.{Pair}
use Rattle.papaya_raw.specs.declared.machines.machine.Machine.{Machine}
use Rattle.papaya_raw.specs.declared.machines.progress.Progress.{Progress}
use Rattle.papaya_raw.specs.declared.machines.progress.Progress.TheVariants as progress
use Rattle.threads_calls.specs.Given.ActsActs.{Wanted}
use Rattle.threads_calls.specs.Given.ErrandsLooking.{Begins, HasProgressed}
use Rattle.threads_calls.specs.Given.ViewsBegun.{asked, replied}
use Rattle.threads_calls.specs.Given.ViewsLooks.{shown_in}
use Rattle.threads_calls.specs.Given.ViewsDeclared.view.View.{View}
use Rattle.threads_calls.specs.Given.ViewsDeclared.view.SeatWork.TheVariants.{Calls}
use Rattle.threads_calls.specs.Given.StepsAsking.{reply_of}
use Rattle.threads_calls.specs.Given.Steps.{HasStepped}
use Rattle.threads_sweeps.specs.Swept.{retains, walks}

-- The closure was called with the pair of this word, which the seat shows, has answered so, and is so then.
pub record WasCalledWith {F A K V S : Type 0} (g : Mut F (Bor K × (Bor V × Unit {0})) A) (word : ℕ) (v : View K V S) (f : F) (answer : A) (next : F) : Type 0 where
  pub key : Bor K
  pub value : Bor V
  pub shown : shown_in v.held (block_in word) ≡ Some (Pair key.now value.now)
  pub called : Called g f (key, (value, tt)) answer next

-- it was called with this key and this value, and is so then
abbrev pub CalledOn : {F K V : Type 0} → Mut F (Bor K × (Bor V × Unit {0})) (Unit {0}) → F → K → V → F → Type 0
CalledOn {F} {K} {V} g f key value next = (p : Bor K) × (q : Bor V) × (p.now ≡ key) × (q.now ≡ value) × Called g f (p, (q, tt)) tt next

module _ {K V S : Type 0} where
  -- the walk that is under way was asked for its next pair,
  abbrev pub WasAskedNext : View K V S → View K V S → Type 0
  WasAskedNext v w = (machine : Machine K V K) × (v.work ≡ Calls machine) × (w ≡ asked v machine)

  -- or the retaining was told of the pair about which it asks whether it is to be kept
  abbrev pub WasTold : Bool → View K V S → View K V S → Type 0
  WasTold keeps v w = (machine : Machine K V K) × (v.work ≡ Calls machine) × (w ≡ replied v machine (reply_of keeps))

module _ {F K V S : Type 0} where
  -- What follows where a step of a walk has told this: with a pair the closure is called, and the next one asked for; of one that is ready the first.
  abbrev pub ShowsSo : Mut F (Bor K × (Bor V × Unit {0})) (Unit {0}) → Progress (Node K V) → F → View K V S → F → View K V S → Type 0
  ShowsSo g (progress.Pair word) f v next w = WasCalledWith g word v f tt next × WasAskedNext v w
  ShowsSo g progress.Ready f v next w = (next ≡ f) × WasAskedNext v w
  ShowsSo g told f v next w = (next ≡ f) × (w ≡ v)

  -- And where one of a retaining has: where it asks about a pair, the closure is called with that, and the retaining told what it answers.
  abbrev pub HeedsSo : Mut F (Bor K × (Bor V × Unit {0})) Bool → Progress (Node K V) → F → View K V S → F → View K V S → Type 0
  HeedsSo g (progress.Asks (Some word)) f v next w = (keeps : Bool) × WasCalledWith g word v f keeps next × WasTold keeps v w
  HeedsSo g told f v next w = (next ≡ f) × (w ≡ v)

  module _ (same : K → K → Bool) (hash : S → K → ℕ) where
    -- a step of its call, and what follows on what that tells,
    abbrev pub TakesStep : (Progress (Node K V) → F → View K V S → F → View K V S → Type 0) → F → View K V S → F → View K V S → Type 0
    TakesStep follows f v next w = (u : View K V S) × (told : Progress (Node K V)) × HasStepped same hash v u × HasProgressed told v u × follows told f u next w

    -- so many, one after another
    abbrev pub TakesSteps : (Progress (Node K V) → F → View K V S → F → View K V S → Type 0) → ℕ → F → View K V S → F → View K V S → Type 0
    TakesSteps follows zero f v next w = (next ≡ f) × (w ≡ v)
    TakesSteps follows (suc n) f v next w = (e : F) × (u : View K V S) × TakesSteps follows n f v e u × TakesStep follows e u next w

    -- It has begun to do this, and has taken steps, each with what follows on what that tells.
    abbrev pub HasGoneWith : (Progress (Node K V) → F → View K V S → F → View K V S → Type 0) → Wanted K V → F → View K V S → View K V S → Type 0
    HasGoneWith follows wanted f v w = (u : View K V S) × (n : ℕ) × (last : F) × Begins same hash wanted v u × TakesSteps follows n f u last w

    -- It has begun a walk, and the closure was called with each pair that this has told, in order, and with no other.
    abbrev pub HasShownEach : Mut F (Bor K × (Bor V × Unit {0})) (Unit {0}) → F → View K V S → View K V S → Type 0
    HasShownEach g f v w = HasGoneWith (ShowsSo g) walks f v w

    -- It has begun a retaining, the closure was called with each pair about which this has asked, in order, and with no other, and it was told what the closure has answered.
    abbrev pub HasHeeded : Mut F (Bor K × (Bor V × Unit {0})) Bool → F → View K V S → View K V S → Type 0
    HasHeeded g f v w = HasGoneWith (HeedsSo g) retains f v w
