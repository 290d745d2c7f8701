-- A walk, a clearing or a retaining that is under way among the callers of a map: what it has come to, the rows of the collector within it, and where it
-- is to claim places.
use Rattle.std.specs.Prelude.{◌≡◌, ◌⊎◌, ℕ, Bool, true, false, List, [], ◌∷◌, Option, None, Some, cond}
use Rattle.seize_model.specs.Given.SeizeWorld.{Row, Rests}
use Rattle.map_facts_late.specs.Given.TablesDeclared.setting.Setting.{Setting}
use Rattle.map_facts_late.specs.Given.ResizeDeclared.copier.Copying.TheVariants as copies
use Rattle.map_facts_late.specs.Given.ResizeDeclared.dispose.Disposing.TheVariants as disposes
use Rattle.map_facts_late.specs.Given.SweepsSweepPoints.{standing, sweeping, after_reply}
use Rattle.map_facts_late.specs.Given.ReservesDeclared.sweep.Purpose.{Purpose}
use Rattle.map_facts_late.specs.Given.ReservesDeclared.sweep.Purpose.TheVariants.{Clears, Retains}
use Rattle.map_facts_late.specs.Given.ReservesDeclared.sweep.Sweep.{Sweep}
use Rattle.map_facts_late.specs.Given.ReservesDeclared.sweep.Sweeping.{Sweeping}
use Rattle.map_facts_late.specs.Given.ReservesDeclared.sweep.Sweeping.TheVariants as at
use Rattle.map_facts_late.specs.Given.RuleChart.{Chart, put}
use Rattle.map_facts_late.specs.Given.RuleWords.{Blocks}
use Rattle.map_facts_late.specs.Covers.{NamesPair}
use Rattle.many_calls.specs.Rows.{row_of_copier, row_of_disposal, past_copying}

-- what a retaining was told: whether to keep this pair
pub record Verdict : Type 0 where
  pub about : ℕ
  pub keeps : Bool

abbrev pub verdict : ℕ → Bool → Option Verdict
verdict n keeps = Some (record { about = n; keeps = keeps })

-- A sweep that is under way, and the moment of the map at which it began. What it has come to counts from a moment since then: the pairs that a walk has
-- shown, or that a retaining was told to keep. And what it was told last, if anything.
pub record CallOverAll : Type 0 where
  pub began : ℕ
  pub entered : ℕ
  pub done : List ℕ
  pub told : Option Verdict
  pub sweep : Sweep

-- it begins at this moment
abbrev pub begun_over_all : ℕ → Setting → Purpose → CallOverAll
begun_over_all now setting purpose = record { began = now; entered = now; done = []; told = None; sweep = sweeping setting purpose }

-- it goes on elsewhere, with what it has come to
abbrev pub gone_on : CallOverAll → Sweep → CallOverAll
gone_on o p = record { began = o.began; entered = o.entered; done = o.done; told = o.told; sweep = p }

-- it has come to more by a step
abbrev pub come_to : CallOverAll → ℕ → List ℕ → Sweep → CallOverAll
come_to o entered done p = record { began = o.began; entered = entered; done = done; told = o.told; sweep = p }

-- it is told whether to keep this pair
abbrev pub with_verdict : CallOverAll → ℕ → Bool → CallOverAll
with_verdict o n keeps =
    record { began = o.began; entered = o.entered; done = cond keeps (n ∷ o.done) o.done; told = verdict n keeps; sweep = after_reply o.sweep keeps }

-- the row that it stands at
abbrev pub row_of_sweep : ℕ → Sweeping → Row
row_of_sweep slot (at.Copies copier) = row_of_copier copier.stands
row_of_sweep slot (at.Disposes dispose) = row_of_disposal slot dispose.stands
row_of_sweep slot _ = Rests

-- where it stands once that row is over
abbrev pub past_sweeping : Sweeping → Sweeping
past_sweeping (at.Copies copier) = at.Copies (past_copying copier copier.stands)
past_sweeping (at.Disposes dispose) = at.Disposes (record dispose { stands = disposes.Over })
past_sweeping stands = stands

abbrev pub sweep_once_over : Sweep → Sweep
sweep_once_over p = standing p (past_sweeping p.stands)

-- its next step is to claim a chunk of places, to be copied into the table with this turn
abbrev pub SweepClaims : ℕ → Sweeping → Type 0
SweepClaims t (at.Copies copier) = (copier.stands ≡ copies.Claims) × (copier.target.turn ≡ t)
SweepClaims t _ = ⊥

module _ {K : Type 0} (hash : K → ℕ) (c : Chart K) (blocks : Blocks) where
  -- what a retaining is about to remove is the very pair that it was told last not to keep
  abbrev pub TriesAsReplied : Option Verdict → Purpose → Sweeping → Type 0
  TriesAsReplied told purpose (at.Tries word) = purpose ≡ Retains → (n : ℕ) × NamesPair hash c blocks word n × (told ≡ verdict n false)
  TriesAsReplied told purpose _ = Unit {0}

-- No pair is removed, or one that the map had: a clearing removes any, a retaining that which it was told last not to keep, and a walk none.
abbrev pub RemovesAsReplied : {K : Type 0} → CallOverAll → Chart K → Chart K → Type 0
RemovesAsReplied o c c2 =
    (c2.current ≡ c.current)
    ⊎ ((n : ℕ) × (c.current n ≡ true) × (c2.current ≡ put c.current n false)
    × ((o.sweep.purpose ≡ Clears) ⊎ ((o.sweep.purpose ≡ Retains) × (o.told ≡ verdict n false))))
