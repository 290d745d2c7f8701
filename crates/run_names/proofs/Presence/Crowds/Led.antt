-- Where names lead, after one of them was put or taken.
use Rattle.std.specs.Prelude.{nat_eq}
use Rattle.std.proofs.Common.{◌≡◌, ℕ, Bool, true, false, List, refl, sym, ap, ◌∙◌}
use Rattle.std.specs.Cmp.Lexicographic.{pointwise, bytes_decides}
use Rattle.std.specs.Map.{KeepsOthers, lookup}
use Rattle.std.specs.Global.{Vec}
use Rattle.run_names.specs.Presence.Places.{IsElsewhere}

-- whether a key has these bytes
abbrev pub has_bytes : List ℕ → Vec ℕ → Bool
has_bytes bytes key = pointwise nat_eq bytes key.items

pub apart : (name other : List ℕ) → IsElsewhere name other → (bytes : List ℕ) → pointwise nat_eq name bytes ≡ true → pointwise nat_eq other bytes ≡ false
apart name other n bytes e = elim (pointwise nat_eq other bytes) as (λ (b : Bool). pointwise nat_eq other bytes ≡ b → b ≡ false) [
  | true ↦ λ h. absurd (n ((bytes_decides name bytes).0 e ∙ sym ((bytes_decides other bytes).0 h)))
  | false ↦ λ h. refl
] refl

pub alike : (other one two : List ℕ) → pointwise nat_eq other one ≡ true → pointwise nat_eq other two ≡ pointwise nat_eq one two
alike other one two e = ap (λ (l : List ℕ). pointwise nat_eq l two) ((bytes_decides other one).0 e)

pub others_lead : (name other : List ℕ) → IsElsewhere name other → (old new : List (Vec ℕ × ℕ))
    → KeepsOthers (λ (x : Vec ℕ) (y : Vec ℕ). pointwise nat_eq x.items y.items) (has_bytes name) old new
    → lookup (has_bytes other) new ≡ lookup (has_bytes other) old
unfolding KeepsOthers
others_lead name other n old new keeps = keeps (has_bytes other) (λ x y e. alike other x.items y.items e) (λ k e. apart name other n k.items e)
