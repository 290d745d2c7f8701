-- By the lemmas on arrays of the same elements.
use Rattle.map_forms.proofs.OneArray.{arrays_are_one, arrays_tell, arrays_have_no_order}
use Rattle.map_forms.proofs.law.arrays_have_their_elements.Goals as goal

pub returns : goal.returns
returns g c = record { one = arrays_are_one _; told = arrays_tell _; order = arrays_have_no_order _ }
