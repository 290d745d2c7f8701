-- The bucket of slots behind a door, at the end: whoever takes the address finds null, or that of the first of the buckets that are left.
use Rattle.std.specs.Prelude.{slice_index_or, map}
use Rattle.std.proofs.Common.{◌≡◌, ℕ, suc, ◌+◌, ◌-◌, ◌*◌, ◌<◌, ◌≤◌, List, [], ◌∷◌, length, drop, refl, sym, ap, ◌∙◌, subst, arith, lit<}
use Rattle.std.proofs.lemmas.List.{length-drop, drop_more}
use denote.RawPtr.{Ptr, null_ptr, InBlock, Testable}
use Rattle.seize_words.specs.OneMemory.Place.{capacity}
use Rattle.seize_seats.specs.Seats.Strips.{Strip}
use Rattle.seize_seats.specs.Seats.Doors.{AreBehind}
use Rattle.seize_seats.specs.Seats.Buckets.{IsBucket}
use Rattle.seize_seats.specs.Plots.Pieces.{first_spot, other_spots, bucket_spot, AreBucketsBehind}

-- what is so of an address
abbrev Found : ℕ → List (Ptr × ℕ) → List Ptr → Ptr → Type 0
Found door spots ps p =
    Testable p × (p ≡ null_ptr → spots ≡ []) × (InBlock p → (first_spot spots ≡ (p, capacity (door - 31) * 16)) × AreBucketsBehind (door + 1) (other_spots spots) ps)

found : (door : ℕ) (spots : List (Ptr × ℕ)) (ps qs : List Ptr) (p : Ptr) (ss : List Strip) → 32 ≤ door → spots ≡ map bucket_spot ss → qs ≡ drop (door + 1) ps
    → AreBehind IsBucket (door - 32) ss (p ∷ qs) → Found door spots ps p
found door spots ps qs p [] low is rest are = let none : p ≡ null_ptr = are 0 in
    (subst Testable (sym none) (lit< tt), λ _. is, λ there. absurd (subst InBlock none there))
found door spots ps qs p (s ∷ ss) low is rest are =
    let here : p ≡ s.words = are.1 in let so = are.0 in let next : suc (door - 32) ≡ door - 31 = omega (arith, low) in let on : suc (door - 32) ≡ door + 1 - 32 = omega (arith, low) in
    let size : s.size ≡ capacity (door - 31) = ap (λ (x : Strip). x.size) so.2 ∙ ap capacity next in (
      subst Testable (sym here) so.1,
      λ none. absurd (subst InBlock (sym here ∙ none) so.0),
      λ there. (
        ap first_spot is ∙ (λ i. (sym here i, size i * 16)),
        (ss, ap other_spots is, subst (λ (u : ℕ × List Ptr). AreBehind IsBucket u.0 ss u.1) (λ i. (on i, rest i)) are.2),
      ),
    )

pub bucket_behind : (door : ℕ) (spots : List (Ptr × ℕ)) (ps : List Ptr) (p : Ptr) → 32 ≤ door → door < length ps → p ≡ slice_index_or ps door p
    → AreBucketsBehind door spots ps → Found door spots ps p
bucket_behind door spots ps p low lt at are =
    found door spots ps (drop (door + 1) ps) p are.0 low are.1 refl
    (subst (AreBehind IsBucket (door - 32) are.0) (drop_more ps door p lt ∙ ap (λ (q : Ptr). q ∷ drop (door + 1) ps) (sym at)) are.2)

-- and behind the last door there is none
pub none_behind : (door : ℕ) (spots : List (Ptr × ℕ)) (ps : List Ptr) → length ps ≤ door → AreBucketsBehind door spots ps → spots ≡ []
none_behind door spots ps le are = are.1 ∙ ap (map bucket_spot) (by are.0 (drop door ps) (let l = length-drop door ps in omega (arith, l, le)) are.2)
  where
    by : (ss : List Strip) (qs : List Ptr) → length qs ≡ 0 → AreBehind IsBucket (door - 32) ss qs → ss ≡ []
    by [] qs none are = refl
    by (s ∷ ss) [] none are = absurd are
    by (s ∷ ss) (q ∷ qs) none are = absurd (omega (arith, none))
