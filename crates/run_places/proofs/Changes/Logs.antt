-- The moments of a run since an event: the last one is among them, and more come.
use Rattle.std.specs.Prelude.{◌≡◌, ℕ, ◌==◌, ◌≤◌, suc, true, List, [], ◌∷◌, length, if◌then◌else◌}
use Rattle.std.proofs.Common.{refl, ap, subst, sym, arith, inl, inr}
use Rattle.run_shows.specs.Given.SchedulesAfter.{moment, moments_from}
use Rattle.run_shows.specs.Given.SchedulesEntry.{Entry}
use Rattle.run_shows.specs.Given.SchedulesLists.{OneOf}
use Rattle.run_shows.specs.Given.SchedulesMoment.{Moment, start}
use Rattle.run_shows.specs.Given.SchedulesTransition.{Past, further, past}
use Rattle.run_places.specs.Changes.Histories.{IsPast}
use Rattle.run_shows.proofs.Given.General.{less_false as not_before}

pub each_of : {X : Type 0} (P Q : X → Type 0) (xs : List X) → ((x : X) → P x → Q x) → OneOf P xs → OneOf Q xs
each_of P Q [] so one = one
each_of P Q (x ∷ xs) so (inl here) = inl (so x here)
each_of P Q (x ∷ xs) so (inr there) = inr (each_of P Q xs so there)

module _ {K V : Type 0} where
  -- what comes next adds its moment
  pub grows : (m : Moment K V) (log : Past K V) (begun : ℕ) → begun ≤ suc log.entries → (further m log).since begun ≡ m ∷ log.since begun
  grows m log begun l = ap (λ q. if q then [] else m ∷ log.since begun) (not_before (suc log.entries) begun l)

  pub further_is_past : (m : Moment K V) (log : Past K V) → m.events ≡ suc log.entries → IsPast (further m log)
  further_is_past m log counted = record { counted = counted; last = λ begun l. (log.since begun, grows m log begun l) }

  -- of no entry
  pub first_is_past : IsPast (past {K = K} {V = V} [])
  first_is_past = record { counted = refl; last = λ begun l. ([], ap (λ q. if q then start ∷ [] else []) (none begun l)) }
    where
      none : (begun : ℕ) → begun ≤ 0 → (begun == 0) ≡ true
      none begun l = grind (arith, l)

  -- the last moment is one of them
  pub now_there : (log : Past K V) → IsPast log → (P : Moment K V → Type 0) (begun : ℕ) → begun ≤ log.entries → P log.now → OneOf P (log.since begun)
  now_there log is P begun l p = let last = is.last begun l in subst (OneOf P) (sym last.1) (inl p)

  -- of a log of events
  pub moments_grow : (begun : ℕ) (e : Entry K V) (log : List (Entry K V)) → begun ≤ length (e ∷ log) → moments_from begun (e ∷ log) ≡ moment (e ∷ log) ∷ moments_from begun log
  moments_grow begun e log l = grows (moment (e ∷ log)) (past log) begun l

  pub events_are : (log : List (Entry K V)) → (moment log).events ≡ length log
  events_are [] = refl
  events_are (e ∷ log) = let rest = events_are log in omega (arith, rest)
