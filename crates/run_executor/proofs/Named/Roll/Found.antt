-- Where the caller of a name stands among those that are shown.
use Rattle.std.specs.Prelude.{is_some, position, slice_get, slice_set, MatchOption, Option, Some, None}
use Rattle.std.specs.List.{remove}
use Rattle.std.proofs.Common.{◌≡◌, ℕ, List, sym, ap, ◌∙◌}
use Rattle.run_schedules.proofs.Runs.Laws.{same_tells}
use Rattle.run_names.specs.Presence.Crowd.{IsAbsent, IsHome, LeadsHome, StandsAt}
use Rattle.run_names.specs.declared.name_index.NameIndex.{NameIndex}
use Rattle.run_names.proofs.Presence.Crowds.Homes.{home_alone}
use Rattle.run_names.proofs.Presence.Crowds.Kept.{unnamed}
use Rattle.run_executor.specs.Named.Roll.{at_place, called, name_of, newest}
use Rattle.run_executor.specs.Named.Seen.{is_named}
use Rattle.run_executor.specs.declared.caller.NamedCaller.{NamedCaller}
use Rattle.run_executor.proofs.Named.Roll.Newest.{no_position, seat, seat_get, seat_gone, seat_position, seat_set}

module _ {V : Type 0} (name : List ℕ) (shown comers : List (Option (NamedCaller V))) (places : NameIndex) (same : shown ≡ comers) (leads : LeadsHome name_of comers places) where
  pub absent_none : IsAbsent name_of name shown → position (is_named name) (newest comers) ≡ None
  absent_none absent = no_position (is_named name) comers (λ q t s. unnamed name_of name t (absent q t (ap (λ (l : List (Option (NamedCaller V))). slice_get l q) same ∙ s)))

  module _ (place : ℕ) (home : IsHome name_of name shown place) where
    pub stands_here : StandsAt comers place home.0
    stands_here = ap (λ (l : List (Option (NamedCaller V))). slice_get l place) (sym same) ∙ home.1

    pub placed : position (is_named name) (newest comers) ≡ Some (seat comers place)
    placed =
        seat_position (is_named name) comers place home.0 stands_here ((same_tells (name_of home.0) name).1 home.2)
        (λ q t s e. home_alone name_of comers places name place leads (home.0, stands_here, home.2) q t s ((same_tells (name_of t) name).0 e))

    pub called_here : called name (newest comers) ≡ Some home.0
    called_here = ap (at_place (newest comers)) placed ∙ seat_get comers place home.0 stands_here

    the_place : (k : ℕ) → position (is_named name) (newest comers) ≡ Some k → seat comers place ≡ k
    the_place k is = let one : Some (seat comers place) ≡ Some k = sym placed ∙ is in cc one

    -- another one in its stead, and none
    pub set_here : (n : NamedCaller V) (k : ℕ) → position (is_named name) (newest comers) ≡ Some k → newest (slice_set comers place (Some n)) ≡ slice_set (newest comers) k n
    set_here n k is = seat_set comers place home.0 n stands_here ∙ ap (λ (j : ℕ). slice_set (newest comers) j n) (the_place k is)

    pub gone_here : (k : ℕ) → position (is_named name) (newest comers) ≡ Some k → newest (slice_set comers place None) ≡ remove (newest comers) k
    gone_here k is = seat_gone comers place home.0 stands_here ∙ ap (remove (newest comers)) (the_place k is)

    -- who stands there
    pub who_here : (k : ℕ) (d : NamedCaller V) → position (is_named name) (newest comers) ≡ Some k → slice_get (newest comers) k ≡ Some d → home.0 ≡ d
    who_here k d is at =
        let two : Some home.0 ≡ Some d = sym (seat_get comers place home.0 stands_here) ∙ ap (slice_get (newest comers)) (the_place k is) ∙ at in
        cc two

  pub called_none : IsAbsent name_of name shown → called name (newest comers) ≡ None
  called_none absent = ap (at_place (newest comers)) (absent_none absent)

  pub has_so : (r : Option ℕ) → MatchOption r (IsAbsent name_of name shown) (IsHome name_of name shown) → is_some r ≡ is_some (position (is_named name) (newest comers))
  has_so None absent = sym (ap is_some (absent_none absent))
  has_so (Some place) home = sym (ap is_some (placed place home))
