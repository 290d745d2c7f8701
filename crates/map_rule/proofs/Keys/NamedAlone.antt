-- While a pair stands in the root and isn't being copied, no later table names its class, where pairs move in incremental mode.
use Rattle.std.proofs.Common.{◌≡◌, ℕ, ◌<◌, Bool, true, false, Some, ◌⊎◌, inl, inr, refl, arith, ◌∙◌}
use Rattle.map_rule.specs.Chart.{Phase, Still, Copying, Place, Empty, Tombstone, Holds, Chart}
use Rattle.map_rule.specs.Rule.{IsLawful, Rule, Shut, IsMoving, is_of, names}
use Rattle.map_rule.specs.Moves.{NamedInRootAlone}
use Rattle.map_rule.proofs.Moves.Shuts.{keyed_class}

module _ {K : Type 0} (same : K → K → Bool) (spot : ℕ → K → ℕ → ℕ) (lawful : IsLawful same spot) (c : Chart K) (rule : Rule same spot true c)
    (i n : ℕ) (borrowed : Bool) (k : K) (there : c.place c.first i ≡ Holds n Still borrowed) (key : c.key n ≡ Some k) where
  is_own : (other : K) → same k other ≡ true → is_of same spot true other (c.key n) ≡ true
  is_own other is = rw key (lawful.classes.symm other k ∙ is)

  -- a later pair of the class would be a copy
  none_later : (t j o : ℕ) (phase : Phase) (lent : Bool) → c.first < t → c.place t j ≡ Holds o phase lent → is_of same spot true k (c.key o) ≡ true → ⊥
  none_later t j o phase lent later at is =
      let owner = keyed_class same spot true c rule.common k t j o phase lent at is in
      either owner.0 (rule.in_mode.chain c.first t j o phase lent owner.0 at owner.1 later (omega arith)) (is_own owner.0 owner.2)
    where
      either : (owner : K) → Shut same spot true c c.first owner ⊎ ((c.first ≡ c.first) × (lent ≡ true) × IsMoving same spot true c o)
          → is_of same spot true owner (c.key n) ≡ true → ⊥
      either owner (inl shut) own = let copied = shut.0 i n Still borrowed there own in cc copied
      either owner (inr moves) own =
          let moving = moves.2 in
          let here : i ≡ moving.0 = rule.common.once c.first i moving.0 n o Still Copying borrowed moving.1 k rule.common.live there moving.2 (rw key (lawful.classes.refl k)) is in
          cc (here, there, moving.2)

  pub named_alone : NamedInRootAlone same spot true c k
  named_alone t j later = at (c.place t j) refl
    where
      of_pair : (o : ℕ) (phase : Phase) (lent : Bool) → c.place t j ≡ Holds o phase lent → (b : Bool) → is_of same spot true k (c.key o) ≡ b → b ≡ false
      of_pair o phase lent e false is = refl
      of_pair o phase lent e true is = absurd (none_later t j o phase lent later e is)

      at : (p : Place) → c.place t j ≡ p → names same spot true c.key k p ≡ false
      at (Empty mark) e = refl
      at (Tombstone mark) e = refl
      at (Holds o phase lent) e = of_pair o phase lent e _ refl
