-- A whole `len` has one moment, that before its event: on a map on which nobody has a call it tells the size.
use Rattle.std.specs.Prelude.{◌≡◌, ℕ, ◌%◌, ◌^◌, ◌<◌, ◌==◌, Bool, true, false, List, [], ◌∷◌, length, Option, Some, if◌then◌else◌}
use Rattle.std.specs.List.{AllByRecursion}
use Rattle.std.proofs.Common.{refl, ap, sym, subst, ◌∙◌, arith}
use Rattle.std.proofs.lemmas.Bool.{eq-eqb, lt-ltb, ne_eqb}
use Rattle.run_finds.specs.Given.TablesCounts.{count_in}
use Rattle.run_finds.specs.Given.RunsDeclared.call.Response.TheVariants.{Counted}
use Rattle.run_finds.specs.Given.RunsDeclared.call.Call.TheVariants.{Len}
use Rattle.run_finds.specs.Given.RunsDeclared.effect.Effect.{Effect}
use Rattle.run_finds.specs.Given.RunsDeclared.event.Event.TheVariants.{OneCall}
use Rattle.run_finds.specs.Given.RunsDeclared.outcome.Outcome.TheVariants.{Answered}
use Rattle.run_finds.specs.Given.SchedulesAfter.{moment, moments_from}
use Rattle.run_finds.specs.Given.SchedulesBeginning.{fresh_call, with_call}
use Rattle.run_finds.specs.Given.SchedulesEffects.{AtEachEffect, with_effects, worked}
use Rattle.run_finds.specs.Given.SchedulesEntry.{ByCall, Entry, acted_on, nameless}
use Rattle.run_finds.specs.Given.SchedulesGrowing.{only_looks}
use Rattle.run_finds.specs.Given.SchedulesHanding.{moments_of}
use Rattle.run_finds.specs.Given.SchedulesInTurn.{is_called}
use Rattle.run_finds.specs.Given.SchedulesLives.{CallFinds, Finds}
use Rattle.run_finds.specs.Given.SchedulesMoment.{UnderWay, Moment}
use Rattle.run_finds.specs.Given.SchedulesRuns.{IsLegalLog}
use Rattle.run_finds.specs.Given.SchedulesTerms.{Terms}
use Rattle.run_finds.specs.Given.SchedulesViews.{call_of, number_of, size_of}
use Rattle.run_finds.proofs.Given.ChangesLogs.{events_are, moments_grow}
use Rattle.run_finds.proofs.Endings.{entry}
use Rattle.run_finds.proofs.Lists.{all_so, none_of_them}
use Rattle.run_sweeps.specs.Sizes.Sizes.{StaysCounted, WholeLensTellSize}
use Rattle.run_sweeps.proofs.Sizes.Lens.{lens_tell_size}
use Rattle.run_sweeps.proofs.Sizes.Sums.{sums_same}
use Rattle.run_finds.proofs.Given.General.{equal_so as number_is}

module _ {K V : Type 0} where
  -- of a call that has begun just now there is one moment
  none_later : (begun : ℕ) (log : List (Entry K V)) → length log < begun → moments_from begun log ≡ []
  none_later begun [] l = ap (λ (q : Bool). if q then moment {K = K} {V = V} [] ∷ [] else []) (ne_eqb begun 0 (λ e. omega (arith, l, e)))
  none_later begun (e ∷ log) l = ap (λ (q : Bool). if q then [] else moment (e ∷ log) ∷ moments_from begun log) (lt-ltb (length (e ∷ log)) begun l)

  one_moment : (log : List (Entry K V)) → moments_from (length log) log ≡ moment log ∷ []
  one_moment [] = refl
  one_moment (e ∷ log) =
      moments_grow (length (e ∷ log)) e log (omega arith) ∙ ap (λ (ms : List (Moment K V)). moment (e ∷ log) ∷ ms) (none_later (length (e ∷ log)) log (omega arith))

  module _ (eq : K → K → Bool) (terms : Terms) (log : List (Entry K V)) (steps : ℕ) (effects : List Effect) (guard name : List ℕ) (n : ℕ) where
    abbrev m : Moment K V
    m = moment log

    abbrev e : Entry K V
    e = entry (OneCall guard name Len) (Answered (Counted n)) steps effects

    module _ (legal : IsLegalLog eq terms (e ∷ log)) (map : ℕ) (at : number_of name m ≡ Some map) (uncalled : is_called (Some map) m ≡ false) where
      abbrev c : UnderWay K V
      c = fresh_call nameless guard Len map m.events

      abbrev b : Moment K V
      b = with_call nameless guard Len (number_of name m) m

      abbrev moments : List (Moment K V)
      moments = moments_of terms log (call_of nameless b)

      begins : call_of nameless b ≡ Some c
      begins = ap (λ (o : Option ℕ). call_of nameless (with_call nameless guard Len o m)) at

      -- it does nothing
      nothing : effects ≡ []
      nothing = by effects legal.0.life.finds
        where
          by : (fs : List Effect) → AtEachEffect (Finds terms (Some nameless) (acted_on (OneCall guard name Len) b) false moments) (Some nameless) (acted_on (OneCall guard name Len) b) fs b → fs ≡ []
          by [] finds = refl
          by (f ∷ fs) finds = absurd (cc (subst (ByCall (λ (d : UnderWay K V). (only_looks d.call ≡ false) × CallFinds terms moments b f d)) begins finds.0).0)

      c_is : call_of nameless (worked e m) ≡ Some c
      c_is = ap (λ (fs : List Effect). call_of nameless (with_effects (Some nameless) (acted_on (OneCall guard name Len) b) fs b)) nothing ∙ begins

      -- nobody has anything to count of the map
      none_on_it : AllByRecursion (λ (d : UnderWay K V). (if map == d.map then d.gained else 0) ≡ (if map == d.map then d.lost else 0)) m.calls
      none_on_it =
          all_so (λ (d : UnderWay K V). (d.map == map) ≡ false) (λ (d : UnderWay K V). (if map == d.map then d.gained else 0) ≡ (if map == d.map then d.lost else 0))
          (λ d other. (let apart = not_it d other (map == d.map) refl in ap (λ (q : Bool). if q then d.gained else 0) apart ∙ sym (ap (λ (q : Bool). if q then d.lost else 0) apart))) m.calls
          (none_of_them (λ (d : UnderWay K V). d.map == map) m.calls uncalled)
        where
          not_it : (d : UnderWay K V) → (d.map == map) ≡ false → (q : Bool) → (map == d.map) ≡ q → (map == d.map) ≡ false
          not_it d other false is = is
          not_it d other true is = absurd (let same : (d.map == map) ≡ true = eq-eqb d.map map (sym (number_is map d.map is)) in cc (sym other ∙ same))

      stays : StaysCounted map (size_of map m) (moments_from c.begun log)
      stays =
          subst (λ (t : ℕ). StaysCounted map (size_of map m) (moments_from t log)) (sym (events_are log)) (subst (StaysCounted map (size_of map m)) (sym (one_moment log)) (
            (sums_same (λ (d : UnderWay K V). if map == d.map then d.gained else 0) (λ (d : UnderWay K V). if map == d.map then d.lost else 0) m.calls none_on_it, refl),
            tt,
          ))

      pub tells_size : n ≡ count_in (size_of map m % 2 ^ 64)
      tells_size = lens_tell_size K V eq terms log e legal c c_is refl n refl (size_of map m) stays

pub whole_lens_tell_size : (K V : Type 0) → WholeLensTellSize K V
whole_lens_tell_size K V eq terms log e legal guard name event map at uncalled n came =
    tells_size eq terms log e.steps e.effects guard name n (subst (λ (x : Entry K V). IsLegalLog eq terms (x ∷ log)) e_is legal) map at uncalled
  where
    e_is : e ≡ entry (OneCall guard name Len) (Answered (Counted n)) e.steps e.effects
    e_is = λ i. entry (event i) (came i) e.steps e.effects
