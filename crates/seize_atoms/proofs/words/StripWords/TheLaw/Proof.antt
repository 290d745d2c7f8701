-- What a `&` to the words holds is made of a borrow of them, and lasts. Assumes `Logic`.
use Rattle.seize_atoms.specs.Visiting.{HoldsSince, seat_coded}
use Rattle.std.proofs.Common.{[], ◌∷◌}
use denote.Struct.Tuple.{Tuple}
use denote.RattleType.{RattleType}
use denote.Param.Laws.{Laws}
use denote.Param.Shared.{copy_shared}
use denote.Struct.Field.{RawPtr-field}
use denote.Struct.Laws.{RawPtr-copy, field_copy}
use denote.Struct.Lending.{of_Lends}
use Rattle.std.specs.contracts.marker.PhantomData as marker
use Rattle.seize_seats.proofs.Seats.Views.Shown.{words_laws, lends_words}
use Rattle.seize_atoms.specs.declared.rule.Rule.{Ghosts}
use Rattle.seize_atoms.specs.contracts.words.StripWords as words
use Rattle.seize_atoms.proofs.words.StripWords.TheLaw.Statement.{statement}
use Rattle.seize_seats.specs.contracts.kept.Kept as kept_of
use Rattle.seize_seats.specs.Plots.Pieces.{kept_words}

pub shares : (T R V F : RattleType) (g : Ghosts R.Denot T.Denot V.Denot F.Denot) (LT : Laws T) (LR : Laws R) (LV : Laws V) (LF : Laws F)
    → statement T R V F g LT LR LV LF
shares T R V F g LT LR LV LF = let All = Tuple (T ∷ R ∷ []) in
    of_Lends (words.struct T R V F g) (words.the_codes T.Denot R.Denot V.Denot F.Denot T.coded R.coded V.coded F.coded (marker.the_row All).coded)
    (words.the_heap T R V F g) (words.the_lent T R V F g)
    (λ d p. words_laws (kept_of.the_row T) kept_words (seat_coded V.coded) (HoldsSince g.rests g.leans d.start (g.holds d.fixed) g.keeps) d.words d.id)
    (copy_shared RawPtr-field RawPtr-copy, (copy_shared (marker.the_field All) (field_copy (marker.the_type All) tt), tt))
    (λ M 𝓤 𝓛 d p. lends_words (kept_of.the_row T) kept_words (seat_coded V.coded) (HoldsSince g.rests g.leans d.start (g.holds d.fixed) g.keeps) d.words d.id 𝓛 (words.the_row T R V F g).lives)
