-- The guards of a history whose sections are open are spared by whoever has no row beside them.
use Rattle.std.specs.Prelude.{Option, Some, None}
use Rattle.std.proofs.Common.{◌≡◌, ℕ, List, inl, inr, ap, sym, ◌∙◌}
use Rattle.seize_acts.specs.Given.SeizeWorld.{World}
use Rattle.seize_acts.proofs.Given.SeizeAloneHistories.Reached.{Reached}
use Rattle.play_lists.specs.Given.TablesNodes.{deferred_word}
use Rattle.play_lists.specs.Given.TablesDeclared.node.Node.{Node}
use Rattle.run_schedules.specs.Runs.Present.{Present, guard_of}
use Rattle.run_schedules.specs.Runs.Same.{is_same}
use Rattle.run_schedules.specs.declared.holders.NamedGuard.{NamedGuard}
use Rattle.run_schedules.specs.Schedules.Moment.{Sheltered}
use Rattle.play_lists.specs.Given.EffectsKnown.{Known}
use Rattle.play_lists.specs.Given.PromisesSheltered.{AreShelteredOn, GuardsAreOn, IsShelteredOn}
use Rattle.play_lists.proofs.Given.PromisesLists.{all_of}
use Rattle.play_lists.specs.Given.ScenesScene.{row_of}
use Rattle.play_lists.specs.Given.ScenesDeclared.row.SlotRow.{SlotRow}
use Rattle.play_lists.specs.Given.ScenesDeclared.row.SlotRow.TheVariants as rows
use Rattle.play_lists.specs.Agrees.Guards.{GuardsAre, IsOpen as IsOpenOn, guard_on}
use Rattle.play_lists.proofs.Agrees.Lists.{found_so}
use Rattle.play_linear.specs.Protects.Shelters.{IsOpen}
use Rattle.play_linear.proofs.Protects.Goes.{IsSpared, inside_spares, leaving_spares}
use Rattle.play_linear.proofs.Protects.Sections.{Spares}

module _ {K V : Type 0} (size : ℕ) (w : World (Node K V)) (r : Reached deferred_word size w) (rows_are : ℕ → Option SlotRow) (is_row : (j : ℕ) (row : SlotRow) → rows_are j ≡ Some row → w.row j ≡ row_of row)
    (there : Present) (guards : GuardsAre rows_are w.uses there.guards) (i : ℕ) (no_row : rows_are i ≡ None) where
  -- a slot whose section is open
  open_spared : (t : ℕ) → IsOpenOn rows_are w.uses t → Spares t w (w.row i)
  open_spared t (inl inside) = inside_spares size w r t i inside
  open_spared t (inr (j, c, has, at, on)) = leaving_spares size w r t i j (λ e. let both : None ≡ Some (rows.Leaves c) = sym no_row ∙ ap rows_are e ∙ has in cc both) c (is_row j (rows.Leaves c) has) at on

  guard_spared : (own : List ℕ) (g : NamedGuard) → guard_of own there.guards ≡ Some g → Spares g.slot w (w.row i)
  guard_spared own g found = open_spared g.slot (found_so (λ (h : NamedGuard). (h ≡ guard_on h.slot) × IsOpenOn rows_are w.uses h.slot) (λ h. is_same h.name own) there.guards g guards.each found).0.1

  pub guards_spared : GuardsAreOn (IsOpen w) there → GuardsAreOn (IsSpared i w) there
  guards_spared open_are own g found = (open_are own g found, guard_spared own g found)

  one_spared : (known : Known) (x : Sheltered) → IsShelteredOn (IsOpen w) there w known x → IsShelteredOn (IsSpared i w) there w known x
  one_spared known x (come, g, found, is, each) = (come, g, found, (is, guard_spared x.guard g found), each)

  pub all_spared : (known : Known) (xs : List Sheltered) → AreShelteredOn (IsOpen w) there w known xs → AreShelteredOn (IsSpared i w) there w known xs
  all_spared known xs all = all_of (IsShelteredOn (IsOpen w) there w known) (IsShelteredOn (IsSpared i w) there w known) xs (one_spared known) all
