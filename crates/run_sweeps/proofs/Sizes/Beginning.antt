-- What an event begins leaves what is said of each map, and what is there; of a map that it makes nothing is said, and it has no pairs.
use Rattle.std.specs.Prelude.{◌≡◌, ℕ, zero, suc, ◌+◌, ◌%◌, ◌^◌, ◌<◌, ◌≤◌, ◌==◌, Bool, true, false, List, [], ◌∷◌, is_some, length, sum_by, Option, Some, None, if◌then◌else◌}
use Rattle.std.specs.List.{AllByRecursion, list_any}
use Rattle.std.proofs.Common.{refl, ap, sym, subst, ◌∙◌, arith}
use Rattle.std.proofs.lemmas.Bool.{ne_eqb}
use Rattle.std.proofs.lemmas.List.Sums.{sum_by-cons}
use Rattle.run_finds.specs.Given.RunsDeclared.call.Call.{Call}
use Rattle.run_finds.specs.Given.RunsDeclared.event.Event.{Event}
use Rattle.run_finds.specs.Given.RunsDeclared.event.Event.TheVariants as event
use Rattle.run_finds.specs.Given.RunsDeclared.outcome.Outcome.{Outcome}
use Rattle.run_finds.specs.Given.RunsDeclared.outcome.Outcome.TheVariants as outcome
use Rattle.run_finds.specs.Given.SchedulesBeginning.{begun, fresh_call, with_call}
use Rattle.run_finds.specs.Given.SchedulesEntry.{is_busy, nameless}
use Rattle.run_finds.specs.Given.SchedulesMoment.{MapThere, Place, Unborn, UnderWay, Moment}
use Rattle.run_finds.specs.Given.SchedulesViews.{is_in_map, number_of, places_below}
use Rattle.run_finds.specs.Waiting.{once_if}
use Rattle.run_finds.specs.Within.{AllIsInOrder, HasItsMap}
use Rattle.run_finds.proofs.Lists.{all_so, one_of_them}
use Rattle.run_finds.proofs.Tables.{all_append}
use Rattle.run_sweeps.specs.Sizes.Sizes.{sum_below}
use Rattle.run_sweeps.proofs.Sizes.Balance.{minus_of, none_either, plus_of, said, there}
use Rattle.run_sweeps.proofs.Sizes.Sums.{below_same, places_same, sums_same}
use Rattle.run_finds.proofs.Given.FollowsStored.{in_map_true as is_in_it}
use Rattle.run_finds.proofs.Given.General.{equal_so as number_is}

zeros_below : (n : ℕ) → sum_below n (λ s. 0) ≡ 0
zeros_below zero = refl
zeros_below (suc n) = let rest = zeros_below n in omega (arith, rest)

nothing_below : (test : Place → Bool) → test Unborn ≡ false → (n : ℕ) → places_below test (λ j. Unborn) n ≡ 0
nothing_below test none zero = refl
nothing_below test none (suc n) = let here : once_if (test Unborn) ≡ 0 = ap once_if none in let rest = nothing_below test none n in omega (arith, here, rest)

module _ {K V : Type 0} where
  zeros : (calls : List (UnderWay K V)) → sum_by (λ c. 0) calls ≡ 0
  zeros [] = refl
  zeros (c ∷ calls) = let all = sum_by-cons (λ (d : UnderWay K V). 0) c calls in let rest = zeros calls in omega (arith, all, rest)

  -- each call is on a map that is there, which has a number below how many were made
  pub below_made : (m : Moment K V) → AllIsInOrder m → (map : ℕ) → list_any (λ (f : MapThere). f.number == map) m.maps ≡ true → map < m.made
  below_made m h map any =
      let it = one_of_them (λ (f : MapThere). f.number == map) (λ (f : MapThere). f.number < m.made) m.maps any h.within.made in
      subst (λ (n : ℕ). n < m.made) (number_is it.0.number map it.1) it.2

  pub calls_below_made : (m : Moment K V) → AllIsInOrder m → AllByRecursion (λ (c : UnderWay K V). c.map < m.made) m.calls
  calls_below_made m h = all_so (HasItsMap m) (λ (c : UnderWay K V). c.map < m.made) (λ c its. below_made m h c.map its.there) m.calls h.within.calls

  module _ (shards k : ℕ) where
    -- a call that begins has nothing to count
    called : (own guard : List ℕ) (its : Call K V) (number : Option ℕ) (m : Moment K V)
        → (said shards k (with_call own guard its number m) ≡ said shards k m) × (there k (with_call own guard its number m) ≡ there k m)
    called own guard its None m = (refl, refl)
    called own guard its (Some map) m =
        let fresh = fresh_call own guard its map m.events in
        let plus = sum_by-cons (plus_of k) fresh m.calls in
        let minus = sum_by-cons (minus_of k) fresh m.calls in
        let none : plus_of k fresh ≡ 0 = none_either (k == map) 0 refl in
        let also : minus_of k fresh ≡ 0 = none_either (k == map) (0 + once_if false) refl in
        (omega (arith, plus, none), omega (arith, minus, also))

    pub begun_same : (its : Event K V) (came : Outcome V) (m : Moment K V) → (said shards k (begun its came m) ≡ said shards k m) × (there k (begun its came m) ≡ there k m)
    begun_same (event.Begin caller guard name call) outcome.Goes m = called caller guard call (number_of name m) m
    begun_same (event.OneCall guard name call) came m = by (is_busy came)
      where
        by : (q : Bool) → (said shards k (if q then m else with_call nameless guard call (number_of name m) m) ≡ said shards k m)
            × (there k (if q then m else with_call nameless guard call (number_of name m) m) ≡ there k m)
        by true = (refl, refl)
        by false = called nameless guard call (number_of name m) m
    begun_same (event.MakeMap name mode capacity) outcome.Done m = (refl, refl)
    begun_same _ _ m = (refl, refl)

    -- of a number that no map has had nothing is said, and there is nothing
    pub nothing_yet : (m : Moment K V) → AllIsInOrder m → m.made ≤ k → ((s : ℕ) → m.shards k s ≡ 0) → (said shards k m ≡ 0) × (there k m ≡ 0)
    nothing_yet m h past blank = (
      (let words = below_same shards (m.shards k) (λ s. 0) (λ s l. blank s) in
          let none = zeros_below shards in
          let plus = sums_same (plus_of k) (λ c. 0) m.calls (all_so (λ (c : UnderWay K V). c.map < m.made) (λ c. plus_of k c ≡ 0) (λ c l. ap (λ (q : Bool). if q then c.gained else 0) (other c l)) m.calls (calls_below_made m h)) in
          let zero_plus = zeros m.calls in
          omega (arith, words, none, plus, zero_plus)),
      (let places = places_same (is_in_map k) m.place (λ j. Unborn) (length m.stored) (λ j l u. not_there j (is_in_map k (m.place j)) refl) in
          let none = nothing_below (is_in_map k) refl (length m.stored) in
          let minus = sums_same (minus_of k) (λ c. 0) m.calls (all_so (λ (c : UnderWay K V). c.map < m.made) (λ c. minus_of k c ≡ 0) (λ c l. ap (λ (q : Bool). if q then c.lost + once_if (is_some c.replacing) else 0) (other c l)) m.calls (calls_below_made m h)) in
          let zero_minus = zeros m.calls in
          omega (arith, places, none, minus, zero_minus)),
    )
      where
        other : (c : UnderWay K V) → c.map < m.made → (k == c.map) ≡ false
        other c l = ne_eqb k c.map (λ e. omega (arith, l, past, e))

        not_there : (j : ℕ) (q : Bool) → is_in_map k (m.place j) ≡ q → is_in_map k (m.place j) ≡ false
        not_there j false e = e
        not_there j true e =
            absurd (
            let is = is_in_it k (m.place j) e in
            let low = (h.within.maps j k is).0 in
            let below = below_made m h k (h.somewhere.there j k low is) in
            omega (arith, below, past)
            )

  -- so each map is counted where an event has begun what it begins, if each was
  abbrev pub Counted : ℕ → Moment K V → ℕ → Type 0
  Counted shards m k = said shards k m % 2 ^ 64 ≡ there k m % 2 ^ 64

  pub begun_counted : (shards : ℕ) (its : Event K V) (came : Outcome V) (m : Moment K V) → AllIsInOrder m → ((k s : ℕ) → m.made ≤ k → m.shards k s ≡ 0) → AllByRecursion (λ (f : MapThere). Counted shards m f.number) m.maps
      → AllByRecursion (λ (f : MapThere). Counted shards (begun its came m) f.number) (begun its came m).maps
  begun_counted shards its came m h blank all = by its came (all_so (λ (f : MapThere). Counted shards m f.number) (λ (f : MapThere). Counted shards (begun its came m) f.number) (λ f e. moved its came f.number e) m.maps all)
    where
      moved : (its : Event K V) (came : Outcome V) (k : ℕ) → Counted shards m k → Counted shards (begun its came m) k
      moved its came k e = let same = begun_same shards k its came m in ap (λ (n : ℕ). n % 2 ^ 64) same.0 ∙ e ∙ sym (ap (λ (n : ℕ). n % 2 ^ 64) same.1)

      called_maps : (own guard : List ℕ) (call : Call K V) (number : Option ℕ) → (with_call own guard call number m).maps ≡ m.maps
      called_maps own guard call None = refl
      called_maps own guard call (Some n) = refl

      by : (its : Event K V) (came : Outcome V) → AllByRecursion (λ (f : MapThere). Counted shards (begun its came m) f.number) m.maps
          → AllByRecursion (λ (f : MapThere). Counted shards (begun its came m) f.number) (begun its came m).maps
      by (event.MakeMap name mode capacity) outcome.Done each =
          all_append (λ (f : MapThere). Counted shards (begun {K = K} (event.MakeMap name mode capacity) outcome.Done m) f.number) m.maps _ each (
          let none = nothing_yet shards m.made m h (omega arith) (λ s. blank m.made s (omega arith)) in
          moved (event.MakeMap name mode capacity) outcome.Done m.made (ap (λ (n : ℕ). n % 2 ^ 64) (none.0 ∙ sym none.1))
          )
      by (event.Begin caller guard name call) outcome.Goes each =
          subst (λ (fs : List MapThere). AllByRecursion (λ (f : MapThere). Counted shards (with_call caller guard call (number_of name m) m) f.number) fs) (sym (called_maps caller guard call (number_of name m))) each
      by (event.OneCall guard name call) came each = of (is_busy came) each
        where
          of : (q : Bool) → AllByRecursion (λ (f : MapThere). Counted shards (if q then m else with_call nameless guard call (number_of name m) m) f.number) m.maps
              → AllByRecursion (λ (f : MapThere). Counted shards (if q then m else with_call nameless guard call (number_of name m) m) f.number) (if q then m else with_call nameless guard call (number_of name m) m).maps
          of true all_are = all_are
          of false all_are =
              subst (λ (fs : List MapThere). AllByRecursion (λ (f : MapThere). Counted shards (with_call nameless guard call (number_of name m) m) f.number) fs) (sym (called_maps nameless guard call (number_of name m))) all_are
      by _ _ each = each
