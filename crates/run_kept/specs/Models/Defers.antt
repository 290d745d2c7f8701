-- Rows within calls that defer a pair behind a table: such a row tells just that, once.
use Rattle.std.specs.Prelude.{◌≡◌, ◌⊎◌, ℕ, true, List, [], ◌∷◌}
use Rattle.run_schedules.specs.Given.SeizeWordsDeclared.at.At.{At}
use Rattle.run_schedules.specs.Given.SeizeWordsDeclared.at.At.TheVariants.{Word}
use Rattle.run_schedules.specs.Given.SeizeWordsWord.{link_to}
use Rattle.seize.specs.Sequence.{changes}
use Rattle.seize.specs.WaitingSets.{Change, Defers}
use Rattle.seize.specs.World.{World, Row, Rests, Defers as DefersRow, Use, Defer'}
use Rattle.seize.specs.declared.rows.defer.Deferring.{Deferring}
use Rattle.seize.specs.declared.rows.defer.Deferring.TheVariants as deferring
use Rattle.papaya_raw.specs.Given.TablesDeclared.node.Node.{Node}
use Rattle.papaya_raw.specs.Given.TablesDeclared.table_words.TheConstants.{DEFERRED}
use Rattle.run_executor.specs.Given.EffectsKnown.{Known}
use Rattle.run_executor.specs.Given.EffectsDeclared.role.Role.TheVariants as role
use Rattle.run_schedules.specs.Schedules.Lists.{is_in}
use Rattle.run_schedules.specs.Schedules.Things.{same_thing}
use Rattle.run_schedules.specs.declared.effect.TableId.{TableId}
use Rattle.run_schedules.specs.declared.effect.Thing.{Thing}
use Rattle.run_schedules.specs.declared.effect.Thing.TheVariants.{APair, ATable}
use Rattle.run_kept.specs.Models.Alike.{ChangesAlike}
use Rattle.run_kept.specs.Models.Numbers.{HasNumber}

-- the block is not on the list still
abbrev pub IsStillPending : Deferring → Type 0
IsStillPending deferring.Over = ⊥
IsStillPending _ = Unit {0}

-- it is
abbrev pub IsDone : Deferring → Type 0
IsDone deferring.Over = Unit {0}
IsDone _ = ⊥

-- the row is to put this block on the list that begins with this word
abbrev pub IsToDefer : ℕ → At → Row → Type 0
IsToDefer b at (DefersRow s c) = (c.block ≡ link_to b) × (c.table_word ≡ at) × IsStillPending c.stands
IsToDefer b at _ = ⊥

abbrev pub HasDeferred : Row → Type 0
HasDeferred Rests = Unit {0}
HasDeferred (DefersRow s c) = IsDone c.stands
HasDeferred _ = ⊥

-- the first block is noted as a pair, and the other one as a table, which came into a map
pub record AreNoted (things : List Thing) (known : Known) (b t : ℕ) : Type 0 where
  pub n : ℕ
  pub len : ℕ
  pub table : TableId
  pub pair_is : known.roles b ≡ role.Pair n
  pub table_is : known.roles t ≡ role.Table table len
  pub pair_came : is_in same_thing (APair n) things ≡ true
  pub table_came : is_in same_thing (ATable table) things ≡ true

module _ {K V : Type 0} (things : List Thing) (known : Known) where
  -- a row of caller i that defers this block behind that one: so far it has told nothing; or it has told just that
  abbrev pub HasReportedDefer : (i b t : ℕ) → List Change → World (Node K V) → Type 0
  HasReportedDefer i b t handed w =
      (IsToDefer b (Word t DEFERRED) (w.row i) × (handed ≡ [])) ⊎ (HasDeferred (w.row i) × ChangesAlike (HasNumber known things) (Defers b t ∷ []) handed)

-- The promise: once it has ended, it was told as what it is.
abbrev pub DefersAreReported : Type 0 → Type 0 → Type 0
DefersAreReported K V =
    (things : List Thing) (known : Known) (i s b t : ℕ) (handed : List Change) (w : World (Node K V)) → HasReportedDefer things known i b t handed w → w.row i ≡ Rests
    → (before after : ℕ → Use) → ChangesAlike (HasNumber known things) (changes (Defer' s b t) before after) handed
