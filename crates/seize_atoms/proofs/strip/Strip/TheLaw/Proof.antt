-- What a `&` to a strip holds is made of a borrow of it, and lasts. Assumes `Logic`.
use denote.RattleType.{RattleType}
use denote.Param.Laws.{Laws}
use denote.Param.Shared.{copy_shared}
use denote.Struct.Field.{RawPtr-field}
use denote.Struct.Laws.{RawPtr-copy, field_copy}
use denote.Struct.Lending.{of_Lends}
use Rattle.std.specs.contracts.marker.PhantomData as marker
use Rattle.seize_seats.proofs.Seats.Views.Shown.{strip_laws, lends_strip}
use Rattle.seize_atoms.specs.contracts.strip.Strip as strip
use Rattle.seize_atoms.proofs.strip.Strip.TheLaw.Statement.{statement}
use Rattle.seize_seats.specs.contracts.kept.Kept as kept_of

pub shares : (T : RattleType) (LT : Laws T) → statement T LT
shares T LT = of_Lends (strip.struct T) (strip.the_codes T.Denot T.coded (marker.the_row T).coded) (strip.the_heap T) (strip.the_lent T)
    (λ d p. strip_laws (kept_of.the_row T) d.words d.id)
    (copy_shared RawPtr-field RawPtr-copy, (copy_shared (marker.the_field T) (field_copy (marker.the_type T) tt), tt))
    (λ M 𝓤 𝓛 d p. lends_strip (kept_of.the_row T) d.words d.id 𝓛 (strip.the_row T).lives)
