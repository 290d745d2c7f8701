use Rattle.std.proofs.Common.{sym, subst, ◌∙◌}
use Rattle.map_forms.specs.Decimals.{IsPlain, IsOther}
use Rattle.map_forms.proofs.PlainTexts.{other_signed, read_signed}
use Rattle.map_forms.proofs.decimals.signed_of.Goals as goal

pub returns-then-not-is_plain : goal.returns-then-not-is_plain
returns-then-not-is_plain c number fits same =
    other_signed number fits (subst IsOther (c.as_bytes.ensures.value ∙ sym same) c.if-not-is_plain.ensures)

pub returns : goal.returns
returns c =
    rw c.ok.ensures.value
    (read_signed c.args.text.now c.parse.result (subst IsPlain c.as_bytes.ensures.value c.if-not-is_plain.ensures) c.parse.ensures.value.0)
