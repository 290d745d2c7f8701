-- One event more in a kept schedule.
use Rattle.std.specs.Prelude.{◌≡◌, List, [], ◌∷◌, ◌++◌}
use Rattle.std.proofs.Common.{ap, ◌∙◌}
use Rattle.std.proofs.lemmas.List.{map-append}
use Rattle.run_names.specs.Crews.Crew.{events_of}
use Rattle.run_names.specs.declared.kept.KeptEvent.{KeptEvent}

pub one_more : {E : Type 0} (old new : List (KeptEvent E)) (kept : KeptEvent E) (event : E) → new ≡ old ++ kept ∷ [] → kept.event ≡ event → events_of new ≡ events_of old ++ event ∷ []
one_more {E} old new kept event is same =
    ap events_of is ∙ map-append (λ (k : KeptEvent E). k.event) old (kept ∷ []) ∙ ap (λ (e : E). events_of old ++ e ∷ []) same
