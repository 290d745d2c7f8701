-- Rows within calls that retire a block: such a row tells that the thing in it is retired, just once.
use Rattle.std.specs.Prelude.{◌≡◌, ◌⊎◌, ℕ, Some, List, [], ◌∷◌}
use Rattle.run_schedules.specs.Given.SeizeWordsDeclared.at.At.TheVariants.{Entry}
use Rattle.run_schedules.specs.Given.SeizeWordsMem.{word_at}
use Rattle.run_schedules.specs.Given.SeizeWordsWord.{link_to}
use Rattle.seize.specs.Sequence.{changes}
use Rattle.seize.specs.WaitingSets.{Change, Retires}
use Rattle.seize.specs.World.{World, Row, Rests, Settles, Use, Retire}
use Rattle.seize.specs.declared.rows.settle.Settle.{Settle}
use Rattle.seize.specs.declared.rows.settle.Settling.{Settling}
use Rattle.seize.specs.declared.rows.settle.Settling.TheVariants as at
use Rattle.seize.specs.declared.states.TheConstants.{NEXT, FIRST}
use Rattle.papaya_raw.specs.Given.TablesDeclared.node.Node.{Node}
use Rattle.run_executor.specs.Given.EffectsKnown.{Known}
use Rattle.run_schedules.specs.declared.effect.Thing.{Thing}
use Rattle.run_kept.specs.Models.Alike.{ChangesAlike}
use Rattle.run_kept.specs.Models.Numbers.{HasNumber}

-- it is to retire this block, and has not written into it which batch it is of
abbrev pub IsToRetireAt : ℕ → Settle → Settling → Type 0
IsToRetireAt b c at.Sees = c.pending ≡ link_to b
IsToRetireAt b c at.Holds = c.pending ≡ link_to b
IsToRetireAt b c at.Pops = c.pending ≡ link_to b
IsToRetireAt b c (at.Firsts block) = (block ≡ link_to b) × (c.pending ≡ 0)
IsToRetireAt b c (at.Batches block) = (block ≡ link_to b) × (c.pending ≡ 0)
IsToRetireAt b c _ = ⊥

abbrev pub IsToRetire : ℕ → Row → Type 0
IsToRetire b (Settles c) = IsToRetireAt b c c.stands
IsToRetire b _ = ⊥

-- it stands where it has
abbrev pub IsPast : Settling → Type 0
IsPast at.Sees = ⊥
IsPast at.Holds = ⊥
IsPast at.Pops = ⊥
IsPast (at.Firsts block) = ⊥
IsPast (at.Batches block) = ⊥
IsPast _ = Unit {0}

-- it has retired what it was to retire
abbrev pub HasRetired : Row → Type 0
HasRetired Rests = Unit {0}
HasRetired (Settles c) = (c.pending ≡ 0) × IsPast c.stands
HasRetired _ = ⊥

module _ {K V : Type 0} (things : List Thing) (known : Known) where
  -- a row of caller i that retires this block under this slot: so far it has told nothing, and the block is in no list and no batch; or it has told just that
  abbrev pub HasReportedRetire : (i s b : ℕ) → List Change → World (Node K V) → Type 0
  HasReportedRetire i s b handed w =
      (IsToRetire b (w.row i) × (handed ≡ []) × (word_at w.memory (Entry b FIRST) ≡ Some 0) × (word_at w.memory (Entry b NEXT) ≡ Some 0))
      ⊎ (HasRetired (w.row i) × ChangesAlike (HasNumber known things) (Retires s b ∷ []) handed)

-- The promise: once it has ended, it was told as what it is.
abbrev pub RetiresAreReported : Type 0 → Type 0 → Type 0
RetiresAreReported K V =
    (things : List Thing) (known : Known) (i s b : ℕ) (handed : List Change) (w : World (Node K V)) → HasReportedRetire things known i s b handed w → w.row i ≡ Rests
    → (before after : ℕ → Use) → ChangesAlike (HasNumber known things) (changes (Retire s b) before after) handed
