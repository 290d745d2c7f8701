-- Changes of a map's tables by which each place goes on to name the same pair, or none.
use Rattle.std.specs.Prelude.{◌≡◌, ℕ, Bool, true, false, cond, eqb, Option, Some, None}
use Rattle.std.proofs.Common.{refl, arith}
use Rattle.map_rule.specs.Chart.{Still, Copying, Copied, Place, Empty, Tombstone, Holds, Chart, put_in}
use Rattle.map_rule.specs.Moves.{Move, Links, Stores, Replaces, Removes, Marks, MarksBlocking, Skips, Unmarks, Puts, Covers, PutsLate, Claims, Reclaims, Counts, GivesUp, Aborts, Promotes, Announces, marked, still_place, copied_place, after}

-- the pair that a place names
abbrev pub named : Place → Option ℕ
named (Holds n phase borrowed) = Some n
named _ = None

named_marked : (place : Place) → named (marked place) ≡ named place
named_marked (Empty mark) = refl
named_marked (Tombstone mark) = refl
named_marked (Holds n Still borrowed) = refl
named_marked (Holds n Copying borrowed) = refl
named_marked (Holds n Copied borrowed) = refl

-- the place of this turn and number is another one, which names the same
put_named : (f : ℕ → ℕ → Place) (t k : ℕ) (place : Place) → named place ≡ named (f t k) → (u j : ℕ) → named (put_in f t k place u j) ≡ named (f u j)
put_named f t k place same u j = by (eqb u t) refl (eqb j k) refl
  where
    by : (a : Bool) → eqb u t ≡ a → (b : Bool) → eqb j k ≡ b → named (cond a (cond b place (f u j)) (f u j)) ≡ named (f u j)
    by true e true d = let t_is : u ≡ t = grind (arith, e) in let k_is : j ≡ k = grind (arith, d) in rw (t_is, k_is) same
    by true e false d = refl
    by false e b d = refl

module _ {K : Type 0} where
  -- nothing comes into the map, and the root stays
  pub record IsQuietTo (c c2 : Chart K) : Type 0 where
    pub first : c2.first ≡ c.first
    pub past : c2.past ≡ c.past
    pub lens : (t : ℕ) → c2.len t ≡ c.len t
    pub names : (t i : ℕ) → named (c2.place t i) ≡ named (c.place t i)

  pub quiet_same : (c c2 : Chart K) → c2 ≡ c → IsQuietTo c c2
  quiet_same c c2 e = rw e (record { first = refl; past = refl; lens = λ t. refl; names = λ t i. refl })

  module _ (spot : ℕ → K → ℕ → ℕ) (incremental : Bool) (c : Chart K) where
    still_named : (place : Place) → named (still_place spot incremental place) ≡ named place
    still_named (Empty mark) = refl
    still_named (Tombstone mark) = refl
    still_named (Holds n phase borrowed) = refl

    copied_named : (place : Place) → named (copied_place spot incremental place) ≡ named place
    copied_named (Empty mark) = refl
    copied_named (Tombstone mark) = refl
    copied_named (Holds n phase borrowed) = refl

    -- such changes
    abbrev pub IsQuietMove : Move K → Type 0
    IsQuietMove (Links len limit) = ⊥
    IsQuietMove (Stores t k j) = ⊥
    IsQuietMove (Replaces t i k) = ⊥
    IsQuietMove (Removes t i) = ⊥
    IsQuietMove (Puts caller i t k j) = ⊥
    IsQuietMove (PutsLate t i n) = ⊥
    IsQuietMove (Promotes t) = ⊥
    IsQuietMove _ = Unit {0}

    pub quiet_move : (move : Move K) → IsQuietMove move → IsQuietTo c (after spot incremental move c)
    quiet_move (Marks caller i) q = record { first = refl; past = refl; lens = λ t. refl; names = put_named c.place c.first i _ (named_marked (c.place c.first i)) }
    quiet_move (MarksBlocking i) q = record { first = refl; past = refl; lens = λ t. refl; names = put_named c.place c.first i _ (named_marked (c.place c.first i)) }
    quiet_move (Skips caller t i) q = record { first = refl; past = refl; lens = λ t. refl; names = put_named c.place c.first i _ (named_marked (c.place c.first i)) }
    quiet_move (Unmarks caller i) q = record { first = refl; past = refl; lens = λ t. refl; names = put_named c.place c.first i _ (still_named (c.place c.first i)) }
    quiet_move (Covers caller i) q = record { first = refl; past = refl; lens = λ t. refl; names = put_named c.place c.first i _ (copied_named (c.place c.first i)) }
    quiet_move (Claims caller t chunk) q = record { first = refl; past = refl; lens = λ t. refl; names = λ t i. refl }
    quiet_move (Reclaims t claim) q = record { first = refl; past = refl; lens = λ t. refl; names = λ t i. refl }
    quiet_move (Counts caller t number) q = record { first = refl; past = refl; lens = λ t. refl; names = λ t i. refl }
    quiet_move (GivesUp caller t) q = record { first = refl; past = refl; lens = λ t. refl; names = λ t i. refl }
    quiet_move (Aborts t) q = record { first = refl; past = refl; lens = λ t. refl; names = λ t i. refl }
    quiet_move (Announces t) q = record { first = refl; past = refl; lens = λ t. refl; names = λ t i. refl }
    quiet_move (Links len limit) q = absurd q
    quiet_move (Stores t k j) q = absurd q
    quiet_move (Replaces t i k) q = absurd q
    quiet_move (Removes t i) q = absurd q
    quiet_move (Puts caller i t k j) q = absurd q
    quiet_move (PutsLate t i n) q = absurd q
    quiet_move (Promotes t) q = absurd q
