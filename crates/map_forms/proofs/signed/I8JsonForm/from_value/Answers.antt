-- The number that a value is within the bounds of 8 bits is the one of 8 bits.
use Rattle.std.proofs.Common.{pos, negsuc, w8}
use Rattle.serde_json.specs.View.{view}
use Rattle.map_forms.specs.Forms.{signed_value}
use Rattle.map_forms.proofs.Narrow.{fits_so, reads_so, fits_8, low_8, high_8}
use Rattle.map_forms.proofs.signed.I8JsonForm.from_value.Goals as goal

pub overflow_cast-result : goal.overflow_cast-result
overflow_cast-result c =
    fits_so w8 (negsuc 127) (pos 127) fits_8 low_8 high_8 c.from.result c.from-2.result c.in_ok-value_within.field-0 c.from.ensures c.from-2.ensures
    c.in_ok-value_within.ensures.0

pub returns : goal.returns
returns c =
    reads_so w8 (negsuc 127) (pos 127) fits_8 low_8 high_8 c.from.result c.from-2.result c.in_ok-value_within.field-0 c.from.ensures c.from-2.ensures
    c.in_ok-value_within.ensures.0 signed_value (view c.args.value.now) c.in_ok-value_within.ensures.1
