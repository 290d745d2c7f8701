-- Whether a copier has unlinked tables that it has still to hand to the collector.
use Rattle.std.specs.Prelude.{Bool, true, false}
use Rattle.map_rule.specs.Given.ResizeDeclared.copier.Copying.{Copying}
use Rattle.map_rule.specs.Given.ResizeDeclared.copier.Copying.TheVariants as copies

-- a copier has unlinked tables, and is to retire them
abbrev pub has_unlinked : Copying → Bool
has_unlinked copies.Announces = true
has_unlinked (copies.Succeeds table) = true
has_unlinked (copies.Retires settle rest) = true
has_unlinked _ = false
