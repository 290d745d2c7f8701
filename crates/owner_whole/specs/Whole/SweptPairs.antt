-- What a sweep for one owner has done to the pairs of the map since it began, and what it comes to, by the list of the pairs with their numbers.
use Rattle.std.specs.Prelude.{◌≡◌, ℕ, zero, suc, ◌+◌, ◌<◌, ◌≤◌, Bool, true, cond, eqb, nat_lt, List, [], ◌∷◌, ◌++◌, map, filter, Contains, Option, Some}
use Rattle.seize_words.specs.OneMemory.Mem.{Mem, value_at}
use Rattle.seize_words.specs.declared.fault.Fault.{Fault}
use Rattle.map_tables.specs.declared.node.Node.{Node}
use Rattle.map_tables.specs.declared.node.Node.TheVariants as node
use Rattle.map_tables.specs.declared.setting.Setting.{Setting}
use Rattle.papaya_raw.specs.Given.ReservesDeclared.sweep.Purpose.{Purpose}
use Rattle.papaya_raw.specs.Given.ReservesDeclared.sweep.Purpose.TheVariants.{Walks, Clears, Retains}
use Rattle.papaya_raw.specs.Given.ReservesDeclared.sweep.Sweeping.{Sweeping}
use Rattle.papaya_raw.specs.Given.ReservesDeclared.sweep.Sweeping.TheVariants as at
use Rattle.map_measures.specs.Given.RuleChart.{Chart}
use Rattle.map_measures.specs.Given.RuleWords.{Blocks}
use Rattle.map_measures.specs.Given.RuleMoments.{Moments}
use Rattle.map_measures.specs.Given.LateCovers.{times, Came}
use Rattle.owner_facts.specs.Given.CallersOverAll.{Verdict, CallOverAll, begun_over_all}
use Rattle.owner_whole.specs.Whole.Contents.{AreContents, KeepsPairs}
use Rattle.owner_whole.specs.Whole.LoneSweeps.{IsBefore, goes_once}

-- one for a pair that a retaining is about to remove, as it was told
abbrev pub about_to_go : Sweeping → Option Verdict → ℕ → ℕ
about_to_go (at.Tries word) (Some verdict) n = cond (eqb n verdict.about) 1 0
about_to_go _ _ n = 0

-- one for a pair that has left the map since
abbrev pub gone_since : {K : Type 0} → Chart K → Chart K → ℕ → ℕ
gone_since c0 c n = cond (c0.current n) (cond (c.current n) 0 1) 0

-- Since the map stood so, this sweep has begun and has come to this. It was told about the pairs of the list asked, the last one first.
pub record HasSwept {K V : Type 0} (incremental : Bool) (m0 : Mem (Node K V)) (c0 : Chart K) (blocks0 : Blocks) (asked : List ℕ) (o : CallOverAll)
    (m : Mem (Node K V)) (c : Chart K) (blocks : Blocks) : Type 0 where
  -- no pair was stored, and the pairs that the map has still were there, with the same values, and since the sweep began at each moment
  pub keeps : KeepsPairs m0 c0 blocks0 m c blocks
  pub stored : c.stored ≡ c0.stored
  pub still : (i n : ℕ) → o.began ≤ i → i ≤ c.now → c.current n ≡ true → c.was i n ≡ true
  pub from : o.began ≤ o.entered
  -- a walk removes none; nor was any removed before the sweep came to a place, or where it is refused, if it goes over one table alone
  pub walks : o.sweep.purpose ≡ Walks → c.current ≡ c0.current
  pub before : goes_once incremental o.sweep.purpose ≡ true → IsBefore o.sweep.stands → c.current ≡ c0.current
  -- what is done the map has
  pub done : (n : ℕ) → 0 < times n o.done → c.current n ≡ true
  -- Each pair was told about as often as it was told to be kept, and once more if it has left, or is about to.
  pub asks : goes_once incremental o.sweep.purpose ≡ true → o.sweep.purpose ≡ Retains
      → (n : ℕ) → times n asked ≡ times n o.done + gone_since c0 c n + about_to_go o.sweep.stands o.told n

module _ {K V : Type 0} (m : Mem (Node K V)) (c : Chart K) (blocks : Blocks) where
  -- the pairs of the map with numbers below this one, each behind its number
  abbrev pub NumberedBelow : ℕ → List (ℕ × (K × V)) → Type 0
  NumberedBelow zero xs = xs ≡ []
  NumberedBelow (suc n) xs =
      cond (c.current n)
      ((ys : List (ℕ × (K × V))) × (k : K) × (v : V) × NumberedBelow n ys × (value_at m (blocks.pair n) ≡ Some (node.Pair k v)) × (xs ≡ ys ++ ((n, (k, v)) ∷ [])))
      (NumberedBelow n xs)

  -- all pairs of the map
  abbrev pub AreNumbered : List (ℕ × (K × V)) → Type 0
  AreNumbered xs = NumberedBelow c.stored xs

-- the list without the numbers
abbrev pub pairs_of : {K V : Type 0} → List (ℕ × (K × V)) → List (K × V)
pairs_of xs = map (λ x. x.1) xs

-- those whose numbers pass this test
abbrev pub those : {X : Type 0} → (ℕ → Bool) → List (ℕ × X) → List (ℕ × X)
those test xs = filter (λ x. test x.0) xs

-- the number is in the list
abbrev pub is_done : List ℕ → ℕ → Bool
is_done done n = nat_lt 0 (times n done)

-- what a sweep leaves at its end: a walk all, a clearing nothing, and a retaining those that it was told to keep, in their order
abbrev pub left_by : {X : Type 0} → Purpose → List ℕ → List (ℕ × X) → List (ℕ × X)
left_by Walks done xs = xs
left_by Clears done xs = []
left_by Retains done xs = those (is_done done) xs

module _ (K V : Type 0) where
  -- The list of the pairs of a map is such a list without its numbers, and such a list without them is that of the pairs.
  abbrev pub NumbersAre : Type 0
  NumbersAre =
      (m : Mem (Node K V)) (c : Chart K) (blocks : Blocks) (xs : List (K × V)) → AreContents m c blocks xs → (ns : List (ℕ × (K × V))) × AreNumbered m c blocks ns × (pairs_of ns ≡ xs)

  abbrev pub NumbersGo : Type 0
  NumbersGo = (m : Mem (Node K V)) (c : Chart K) (blocks : Blocks) (ns : List (ℕ × (K × V))) → AreNumbered m c blocks ns → AreContents m c blocks (pairs_of ns)

  -- A pair of the map is in it.
  abbrev pub PairsAreInIt : Type 0
  PairsAreInIt =
      (m : Mem (Node K V)) (c : Chart K) (blocks : Blocks) (ns : List (ℕ × (K × V))) → AreNumbered m c blocks ns
      → (n : ℕ) (k : K) (v : V) → n < c.stored → c.current n ≡ true → value_at m (blocks.pair n) ≡ Some (node.Pair k v) → Contains ns (n, (k, v))

  -- A sweep that begins has done nothing.
  abbrev pub SweptBegins : Type 0
  SweptBegins =
      (incremental : Bool) (m : Mem (Node K V)) (c : Chart K) (blocks : Blocks) → Moments incremental c → (its : Setting) (purpose : Purpose)
      → HasSwept incremental m c blocks [] (begun_over_all c.now its purpose) m c blocks

  module _ (incremental : Bool) (m0 m : Mem (Node K V)) (c0 c : Chart K) (blocks0 blocks : Blocks) (asked : List ℕ) (o : CallOverAll) where
    -- While it goes on, the list is the one of the beginning without the pairs that were removed.
    abbrev pub ContentsBetween : Type 0
    ContentsBetween =
        HasSwept incremental m0 c0 blocks0 asked o m c blocks → (ns : List (ℕ × (K × V))) → AreNumbered m0 c0 blocks0 ns → AreNumbered m c blocks (those c.current ns)

    -- A pair that the map has then is in the list of the beginning, and its block had the same value.
    abbrev pub ShownIsInIt : Type 0
    ShownIsInIt =
        HasSwept incremental m0 c0 blocks0 asked o m c blocks → (ns : List (ℕ × (K × V))) → AreNumbered m0 c0 blocks0 ns
        → (n : ℕ) (k : K) (v : V) → n < c.stored → c.current n ≡ true → value_at m (blocks.pair n) ≡ Some (node.Pair k v) → Contains ns (n, (k, v)) × (value_at m0 (blocks0.pair n) ≡ Some (node.Pair k v))

    -- Where a retaining that goes over one table alone asks about a pair, it was not told about it before.
    abbrev pub AsksOnce : Type 0
    AsksOnce =
        HasSwept incremental m0 c0 blocks0 asked o m c blocks → goes_once incremental o.sweep.purpose ≡ true → o.sweep.purpose ≡ Retains
        → (word : ℕ) → o.sweep.stands ≡ at.Asks word → (n : ℕ) → c.current n ≡ true → times n o.done ≡ 0 → times n asked ≡ 0

    -- One that is refused leaves the list as it was, if it goes over one table alone.
    abbrev pub RefusedPreservesAll : Type 0
    RefusedPreservesAll =
        HasSwept incremental m0 c0 blocks0 asked o m c blocks → goes_once incremental o.sweep.purpose ≡ true → (fault : Fault) → o.sweep.stands ≡ at.Refused fault
        → (ns : List (ℕ × (K × V))) → AreNumbered m0 c0 blocks0 ns → AreNumbered m c blocks ns

    -- One that is done has left this. What is done is done once: what a walk has shown are the pairs of the map, and what a retaining was told to keep.
    -- A retaining that goes over one table alone was told about each pair of the list once, and about no other.
    abbrev pub SweepsLeave : Type 0
    SweepsLeave =
        HasSwept incremental m0 c0 blocks0 asked o m c blocks → Came c o.entered o.sweep.purpose o.done → o.sweep.stands ≡ at.Over
        → (ns : List (ℕ × (K × V))) → AreNumbered m0 c0 blocks0 ns
        → AreNumbered m c blocks (left_by o.sweep.purpose o.done ns)
        × ((o.sweep.purpose ≡ Clears → ⊥) → (n : ℕ) → times n o.done ≡ cond (c.current n) 1 0)
        × (goes_once incremental o.sweep.purpose ≡ true → o.sweep.purpose ≡ Retains → (n : ℕ) → n < c.stored → times n asked ≡ cond (c0.current n) 1 0)
