-- What a walk has come to by key: of each class of keys that its map had all the time since the walk began, it has shown one pair, or is to show one.
use Rattle.std.specs.Prelude.{◌≡◌, ℕ, ◌+◌, ◌<◌, ◌≤◌, Bool, true, cond, List, [], ◌∷◌, Some, ◌⊎◌}
use Rattle.std.specs.List.{AllByRecursion}
use Rattle.run_finds.specs.Given.TablesDeclared.table.Table.{Table}
use Rattle.run_finds.specs.Given.ReservesDeclared.sweep.Sweep.{Sweep}
use Rattle.run_finds.specs.Given.ReservesDeclared.sweep.Sweeping.{Sweeping}
use Rattle.run_finds.specs.Given.ReservesDeclared.sweep.Sweeping.TheVariants as at
use Rattle.run_finds.specs.Given.RuleChart.{Chart}
use Rattle.run_finds.specs.Given.RuleRule.{is_of, names}

module _ {K : Type 0} (same : K → K → Bool) (spot : ℕ → K → ℕ → ℕ) (incremental : Bool) (c : Chart K) where
  -- at this moment the map had a pair of the class
  abbrev pub HasClass : ℕ → K → Type 0
  HasClass time k = (n : ℕ) × (c.was time n ≡ true) × (is_of same spot incremental k (c.key n) ≡ true)

  -- and at each since this one
  abbrev pub HadAlways : ℕ → K → Type 0
  HadAlways began k = (time : ℕ) → began ≤ time → time ≤ c.now → HasClass time k

  -- how many of these pairs are of the class
  abbrev pub of_class : K → List ℕ → ℕ
  of_class k [] = 0
  of_class k (n ∷ done) = cond (is_of same spot incremental k (c.key n)) 1 0 + of_class k done

  -- it stands at a place of the table, and one pair of it is done if the walk is past that place, and else none
  abbrev pub LiesAtPlace : Table → ℕ → List ℕ → K → Type 0
  LiesAtPlace table place done k =
      (i : ℕ) × (i < table.len) × (names same spot incremental c.key k (c.place table.turn i) ≡ true)
      × (((i < place) × (of_class k done ≡ 1)) ⊎ ((place ≤ i) × (of_class k done ≡ 0)))

  -- so it is with each class that the map had all the time
  abbrev pub KeysTo : ℕ → Table → ℕ → List ℕ → Type 0
  KeysTo began table place done = (k : K) → HadAlways began k → LiesAtPlace table place done k

  -- one pair of each is done
  abbrev pub KeysCame : ℕ → List ℕ → Type 0
  KeysCame began done = (k : K) → HadAlways began k → of_class k done ≡ 1

  -- What a walk has come to at a point. It copies pairs in incremental mode alone.
  abbrev pub KeysAt : ℕ → Sweep → List ℕ → Sweeping → Type 0
  KeysAt began p done at.Follows = incremental ≡ true
  KeysAt began p done (at.Copies copier) = incremental ≡ true
  KeysAt began p done at.Ready = ((p.table.len ≡ 0) × KeysCame began done) ⊎ ((0 < p.table.len) × KeysTo began p.table p.place done)
  KeysAt began p done at.Words = KeysTo began p.table p.place done
  KeysAt began p done at.Over = KeysCame began done
  KeysAt began p done _ = Unit {0}

-- each pair of this list has a key
abbrev pub AreKeyed : {K : Type 0} → Chart K → List ℕ → Type 0
AreKeyed {K} c done = AllByRecursion (λ n. (k : K) × (c.key n ≡ Some k)) done
