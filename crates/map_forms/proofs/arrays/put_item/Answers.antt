-- The text is the compact one, as the value has no float, and it is read back, as the value nests few levels.
use Rattle.std.proofs.Common.{◌≤◌, ◌∙◌, ap, sym, subst}
use Rattle.serde_json.specs.Data.{depth}
use Rattle.serde_json.specs.Read.{max_depth}
use Rattle.serde_json.specs.Written.{has_float}
use Rattle.map_forms.proofs.arrays.put_item.Goals as goal

pub returns-clause-item : goal.returns-clause-item
returns-clause-item g c =
    let its = c.in_ok-item.ensures.value in (
      (c.in_ok-text.text, c.in_ok-item.item),
      (
        c.in_ok-text.ensures.text (ap has_float its ∙ g.met.K.JsonForm.has_no_float c.args.element.now),
        c.in_ok-text.ensures.reads_back (subst (λ d. depth d ≤ max_depth) (sym its) (g.met.K.JsonForm.is_read_back c.args.element.now)),
      ),
      its,
      c.in_ok-insert.ensures.entries,
    )
