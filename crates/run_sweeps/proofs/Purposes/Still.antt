-- Where only calls have changed, and this one has been told and has shown what it was told and had shown, it has come to what it had come to.
use Rattle.std.specs.Prelude.{◌≡◌, ℕ, Bool, ◌∷◌}
use Rattle.std.proofs.Common.{refl, ap, sym, subst, ◌∙◌, inl, inr}
use Rattle.run_finds.specs.Given.RunsDeclared.call.Call.{Call}
use Rattle.run_finds.specs.Given.SchedulesLists.{OneOf}
use Rattle.run_finds.specs.Given.SchedulesMoment.{Place, UnderWay as CallThere, Moment}
use Rattle.run_finds.specs.Given.SchedulesViews.{is_in_map}
use Rattle.run_finds.specs.Given.CallersTogether.{UnderWay, OnKey, ForRoom, Counting, OverAll}
use Rattle.run_finds.specs.Given.FinishesMaps.{Standing}
use Rattle.run_finds.specs.Given.ChangesHistories.{IsWithin}
use Rattle.run_finds.proofs.Given.ChangesFound.{map_alike}
use Rattle.run_finds.proofs.Given.ChangesWithin.{within_alike}
use Rattle.run_finds.specs.Purposes.Purposes.{PairsWithin, IsFor, HasAdded, HasMet, HasCome}
use Rattle.run_sweeps.proofs.Purposes.Done.{tells_kept}
use Rattle.run_sweeps.proofs.Purposes.Shown.{IsStill}
use Rattle.run_sweeps.proofs.Purposes.Within.{pairs_within_moments}
use Rattle.run_finds.specs.Given.SchedulesTransition.{Past}

module _ {K V : Type 0} (same : K → K → Bool) (of : ℕ) (st : Standing K) (number : ℕ → ℕ) (log : Past K V) (m m2 : Moment K V) (place : m2.place ≡ m.place) (stored : m2.stored ≡ m.stored) (c d : CallThere K V) where
  pub within_still : d.begun ≡ c.begun → (began : ℕ) → PairsWithin of st number (m ∷ log.since c.begun) began → PairsWithin of st number (m2 ∷ log.since d.begun) began
  within_still begun began within =
      subst (λ (b : ℕ). PairsWithin of st number (m2 ∷ log.since b) began) (sym begun)
      (pairs_within_moments of st number (m ∷ log.since c.begun) (m2 ∷ log.since c.begun) began more within)
    where
      more : (n : ℕ) (q : Bool) → OneOf (λ (x : Moment K V). is_in_map of (x.place n) ≡ q) (m ∷ log.since c.begun) → OneOf (λ (x : Moment K V). is_in_map of (x.place n) ≡ q) (m2 ∷ log.since c.begun)
      more n q (inl h) = inl (ap (λ (f : ℕ → Place). is_in_map of (f n)) place ∙ h)
      more n q (inr h) = inr h

  -- class by class, too
  pub classes_still : d.begun ≡ c.begun → (began : ℕ) → IsWithin same of st number (m ∷ log.since c.begun) began → IsWithin same of st number (m2 ∷ log.since d.begun) began
  classes_still begun began within =
      subst (λ (b : ℕ). IsWithin same of st number (m2 ∷ log.since b) began) (sym begun)
      (within_alike same of st number (log.since c.begun) m m2 began (λ k. map_alike same of k m m2 place stored) within)

  pub come_still : IsStill c d → (u : UnderWay K V K) → HasCome same of st number log m u c → HasCome same of st number log m2 u d
  come_still still (OnKey u) h = tt
  come_still still (ForRoom r) h = subst (λ (b : ℕ). HasMet of st (log.since b) r) (sym still.begun) h
  come_still still (Counting sum) h = subst (λ (b : ℕ). HasAdded of (log.since b) sum.setting.mask sum.stands) (sym still.begun) h
  come_still still (OverAll o) h = record {
    within = within_still still.begun o.began h.within;
    stored = h.stored;
    tells = tells_kept number number st.chart.stored (λ n l. refl) c d still o.done h.stored h.tells;
    none = h.none;
    keys = h.keys;
    classes = classes_still still.begun o.began h.classes;
  }

pub for_still : {K V : Type 0} (c d : CallThere K V) → IsStill c d → (u : UnderWay K V K) → IsFor u c.call → IsFor u d.call
for_still c d still u is = subst (λ (x : Call _ _). IsFor u x) (sym still.call) is
