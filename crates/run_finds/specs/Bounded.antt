-- While nobody is there so much waits at most: what a moment of a run calls retired is so in the memory, and that is bounded.
use Rattle.std.specs.Prelude.{◌≡◌, ℕ, ◌<◌, ◌^◌, true, false, List, [], ◌∷◌}
use Rattle.std.specs.List.{AllByRecursion, list_any}
use Rattle.run_executor.specs.Given.SeizeLaw.{is_retired as is_retired_in}
use Rattle.run_executor.specs.Given.SeizeWorld.{World, Rests, IsOutside, SlotsTaken}
use Rattle.run_blocks.specs.Given.TablesDeclared.node.Node.{Node}
use Rattle.run_executor.specs.Given.SchedulesMoment.{TableThere, Moment}
use Rattle.run_executor.specs.Given.SchedulesReclaims.{is_handed, IsBounded}
use Rattle.run_executor.specs.Given.SchedulesThings.{same_table}
use Rattle.run_executor.specs.Given.SchedulesViews.{is_retired}
use Rattle.run_executor.specs.Given.CallersTogether.{CameAbout}
use Rattle.run_executor.specs.Given.EffectsKnown.{Known}
use Rattle.run_executor.specs.Given.EffectsDeclared.role.Role.TheVariants as role

-- no table is there twice
abbrev pub TablesApart : List TableThere → Type 0
TablesApart [] = Unit {0}
TablesApart (u ∷ tables) = (list_any (λ v. same_table v.table u.table) tables ≡ false) × TablesApart tables

module _ {K V : Type 0} (m : Moment K V) (known : Known) (w : World (Node K V)) where
  -- the pair, or the table, is in a block that is retired, and not reclaimed since
  abbrev pub HasRetiredPair : ℕ → Type 0
  HasRetiredPair n = (b : ℕ) × (known.roles b ≡ role.Pair n) × (is_retired_in b w.log ≡ true)

  abbrev pub HasRetiredTable : TableThere → Type 0
  HasRetiredTable u = (b : ℕ) × (len : ℕ) × (known.roles b ≡ role.Table u.table len) × (is_retired_in b w.log ≡ true)

  -- What the moment calls retired is so in the memory, and as many slots were taken there as it says.
  pub record RefinesRetired : Type 0 where
    pub pairs : (n : ℕ) → is_handed (m.place n) ≡ true → HasRetiredPair n
    pub tables : AllByRecursion (λ u. is_retired u.stage ≡ true → HasRetiredTable u) m.tables
    pub apart : TablesApart m.tables
    pub slots : SlotsTaken w.memory m.slots

-- no row is under way, and no slot is active
pub record NobodyIsThere {T : Type 0} (w : World T) : Type 0 where
  pub rests : (i : ℕ) → w.row i ≡ Rests
  pub outside : (s : ℕ) → IsOutside (w.uses s)

-- The promise.
abbrev pub LittleWaits : Type 0 → Type 0 → Type 0
LittleWaits K V =
    (batch_size : ℕ) (m : Moment K V) (known : Known) (w : World (Node K V)) → batch_size < 2 ^ 64 → CameAbout batch_size w → NobodyIsThere w → RefinesRetired m known w
    → IsBounded batch_size m
