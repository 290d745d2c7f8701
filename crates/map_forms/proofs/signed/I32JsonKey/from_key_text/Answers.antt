-- The number that a text tells within the bounds of 32 bits is the one of 32 bits.
use Rattle.std.proofs.Common.{pos, negsuc, w32}
use Rattle.std.specs.Fmt.{signed_decimal}
use Rattle.map_forms.proofs.Narrow.{fits_so, reads_so, fits_32, low_32, high_32}
use Rattle.map_forms.proofs.signed.I32JsonKey.from_key_text.Goals as goal

pub overflow_cast-result : goal.overflow_cast-result
overflow_cast-result c =
    fits_so w32 (negsuc 2147483647) (pos 2147483647) fits_32 low_32 high_32 c.from.result c.from-2.result c.in_ok-key_within.field-0 c.from.ensures c.from-2.ensures
    c.in_ok-key_within.ensures.0

pub returns : goal.returns
returns c =
    reads_so w32 (negsuc 2147483647) (pos 2147483647) fits_32 low_32 high_32 c.from.result c.from-2.result c.in_ok-key_within.field-0 c.from.ensures c.from-2.ensures
    c.in_ok-key_within.ensures.0 signed_decimal c.args.text.now c.in_ok-key_within.ensures.1
