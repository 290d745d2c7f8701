-- The number that a text tells within the bounds of 16 bits is the one of 16 bits.
use Rattle.std.proofs.Common.{pos, negsuc, w16}
use Rattle.std.specs.Fmt.{signed_decimal}
use Rattle.map_forms.proofs.Narrow.{fits_so, reads_so, fits_16, low_16, high_16}
use Rattle.map_forms.proofs.signed.I16JsonKey.from_key_text.Goals as goal

pub overflow_cast-result : goal.overflow_cast-result
overflow_cast-result c =
    fits_so w16 (negsuc 32767) (pos 32767) fits_16 low_16 high_16 c.from.result c.from-2.result c.in_ok-key_within.field-0 c.from.ensures c.from-2.ensures
    c.in_ok-key_within.ensures.0

pub returns : goal.returns
returns c =
    reads_so w16 (negsuc 32767) (pos 32767) fits_16 low_16 high_16 c.from.result c.from-2.result c.in_ok-key_within.field-0 c.from.ensures c.from-2.ensures
    c.in_ok-key_within.ensures.0 signed_decimal c.args.text.now c.in_ok-key_within.ensures.1
