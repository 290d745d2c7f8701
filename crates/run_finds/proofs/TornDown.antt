-- Each pair was given back once, where nothing waits and no map is there.
use Rattle.std.specs.Prelude.{◌≡◌, ℕ, ◌+◌, ◌≤◌, ◌<◌, ◌==◌, nat_lt, Bool, true, false, ◌&&◌, ◌||◌, List, [], ◌∷◌, length}
use Rattle.std.specs.List.{list_any}
use Rattle.std.proofs.Common.{refl, ap, ◌∙◌, arith}
use Rattle.std.proofs.lemmas.Bool.{eq-eqb}
use Rattle.run_executor.specs.Given.RunsLifeCycle.{times}
use Rattle.run_executor.specs.Given.RunsDeclared.effect.TableId.{TableId}
use Rattle.run_executor.specs.Given.SchedulesMoment.{Place, Unborn, InMap, Out, Handed, Behind, Left, GivenBack, MapThere, Deferral, Moment}
use Rattle.run_executor.specs.Given.SchedulesReclaims.{has_next, has_last_reason, IsEmptied}
use Rattle.run_executor.specs.Given.SchedulesThings.{same_table}
use Rattle.run_executor.specs.Given.SchedulesViews.{chain_of, tables_of}
use Rattle.run_finds.specs.Waiting.{is_unborn, is_back, once_if, PairsArePlaced}
use Rattle.run_finds.specs.TornDown.{StoredAreSomewhere, SomewhereAtFirst, TornDownInTheEnd}
use Rattle.run_finds.proofs.Lists.{numbers_pass, number_passes}

pub somewhere_at_first : (K V : Type 0) → SomewhereAtFirst K V
somewhere_at_first K V = record { born = λ n l u. absurd (omega (arith, l, u)); there = λ n map l e. absurd (cc e) }

module _ {K V : Type 0} (m : Moment K V) (placed : PairsArePlaced m) (somewhere : StoredAreSomewhere m) (none : m.maps ≡ []) (emptied : IsEmptied m) where
  -- no table has a next one in a map that is there
  none_next : (t : TableId) → has_next m t ≡ false
  none_next t = ap (λ (l : List MapThere). list_any (λ (f : MapThere). f.number == t.map) l && list_any (λ u. same_table u.table t) (chain_of t.map m) && nat_lt (t.turn + 1) (length (tables_of t.map m))) none

  none_behind : (n : ℕ) (deferred : List Deferral) → list_any (λ d. (d.pair == n) && has_next m d.behind) deferred ≡ false
  none_behind n [] = refl
  none_behind n (d ∷ deferred) = by (d.pair == n) (none_behind n deferred)
    where
      by : (q : Bool) → list_any (λ x. (x.pair == n) && has_next m x.behind) deferred ≡ false → ((q && has_next m d.behind) || list_any (λ x. (x.pair == n) && has_next m x.behind) deferred) ≡ false
      by true rest = ap (λ (b : Bool). b || list_any (λ x. (x.pair == n) && has_next m x.behind) deferred) (none_next d.behind) ∙ rest
      by false rest = rest

  is_given : (n : ℕ) → 1 ≤ n → n ≤ length m.stored → (p : Place) → m.place n ≡ p → has_last_reason m n p ≡ true → p ≡ GivenBack
  is_given n l u Unborn is waits = absurd (let born = somewhere.born n l u in let unborn : is_unborn (m.place n) ≡ true = ap is_unborn is in cc (born, unborn))
  is_given n l u (InMap map) is waits = absurd (
      let there = somewhere.there n map l is in
      let no : list_any (λ (f : MapThere). f.number == map) m.maps ≡ false = ap (list_any (λ (f : MapThere). f.number == map)) none in
      cc (there, no)
      )
  is_given n l u Out is waits = absurd (cc waits)
  is_given n l u Handed is waits = absurd (cc waits)
  is_given n l u Behind is waits = absurd (let no = none_behind n m.deferred in cc (waits, no))
  is_given n l u Left is waits = absurd (cc waits)
  is_given n l u GivenBack is waits = refl

  given_once : (n : ℕ) → 1 ≤ n → n < 1 + length m.stored → (times n m.given_back == 1) ≡ true
  given_once n l u =
      let waits = number_passes (λ k. has_last_reason m k (m.place k)) 1 (length m.stored) n l u emptied.pairs in
      let back : m.place n ≡ GivenBack = is_given n l (omega (arith, u)) (m.place n) refl waits in
      eq-eqb (times n m.given_back) 1 (placed.back n ∙ ap (λ (p : Place). once_if (is_back p)) back)

pub torn_down_in_the_end : (K V : Type 0) → TornDownInTheEnd K V
torn_down_in_the_end K V m placed somewhere none emptied = numbers_pass (λ n. times n m.given_back == 1) 1 (length m.stored) (given_once m placed somewhere none emptied)
