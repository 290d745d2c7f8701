-- What is refused comes to what is kept out, and notes that a map was to be made.
use Rattle.std.specs.Prelude.{◌≡◌, ℕ, Bool, true, false, List, [], Option, Some, None, MatchOption}
use Rattle.std.proofs.Common.{refl, sym, ap, subst, ◌∙◌}
use Rattle.seize_words.specs.declared.fault.Fault.{Fault}
use Rattle.seize_words.specs.declared.fault.Fault.TheVariants.{Busy}
use Rattle.papaya_raw.specs.Given.TablesDeclared.resize_mode.ResizeMode.{ResizeMode}
use Rattle.run_schedules.specs.Runs.Runs.{map_fault}
use Rattle.run_schedules.specs.declared.event.Event.{Event}
use Rattle.run_schedules.specs.declared.event.Event.TheVariants.{Collector, Hash, Choose, Register, Unregister, Enter, Own, Refresh, Flush, DropGuard, Forget, ReclaimAll, Close, MakeMap, EndMap, ShowShape, Begin, Step, Go, Replied, OneCall, Next, Stop}
use Rattle.run_schedules.specs.declared.outcome.Outcome.{Outcome}
use Rattle.run_schedules.specs.declared.outcome.Outcome.TheVariants.{Refused}
use Rattle.run_schedules.specs.Schedules.After.{mapped_on}
use Rattle.run_schedules.specs.Schedules.Entry.{Entry}
use Rattle.run_schedules.specs.Schedules.InTurn.{IsKeptOut}
use Rattle.run_schedules.specs.Schedules.Terms.{Terms}
use Rattle.play_scheduler.specs.Played.{IsPlayed, Plays, entry_of}
use Rattle.play_scheduler.specs.Turns.{IsMakingOut}
use Rattle.play_scheduler.specs.declared.played.Played.{Played}
use Rattle.play_scheduler.specs.declared.scheduler.Scheduler.{Scheduler}
use Rattle.play_scheduler.proofs.KeptOut.{kept_out}
use Rattle.play_scheduler.proofs.Rights.{so_played}

-- what is told of the making of a map
module _ {V : Type 0} (mode : ResizeMode) (capacity : ℕ) (outcome : Outcome V) where
  making_by : (found : Option Fault) → map_fault mode capacity ≡ found → MatchOption found (outcome ≡ Refused Busy) (λ fault. outcome ≡ Refused fault) → IsMakingOut mode capacity outcome
  making_by found is so = subst (λ (o : Option Fault). MatchOption o (outcome ≡ Refused Busy) (λ fault. outcome ≡ Refused fault)) (sym is) so

  pub making_busy : map_fault mode capacity ≡ None → outcome ≡ Refused Busy → IsMakingOut mode capacity outcome
  making_busy is so = making_by None is so

  pub making_faulty : (fault : Fault) → map_fault mode capacity ≡ Some fault → outcome ≡ Refused fault → IsMakingOut mode capacity outcome
  making_faulty fault is so = making_by (Some fault) is so

module _ {K V : Type 0} where
  -- of any other event
  pub not_making : (e : Event K V) → ((n : List ℕ) (mode : ResizeMode) (c : ℕ) → e ≡ MakeMap n mode c → ⊥) → ((o : Outcome V) → o ≡ Refused Busy → IsKeptOut e o) × ((b : Bool) → mapped_on e b ≡ b)
  not_making (MakeMap n mode c) none = absurd (none n mode c refl)
  not_making (Collector setup) none = ((λ o is. is), (λ b. refl))
  not_making (Hash by) none = ((λ o is. is), (λ b. refl))
  not_making (Choose choice) none = ((λ o is. is), (λ b. refl))
  not_making (Register r) none = ((λ o is. is), (λ b. refl))
  not_making (Unregister r) none = ((λ o is. is), (λ b. refl))
  not_making (Enter g r) none = ((λ o is. is), (λ b. refl))
  not_making (Own g) none = ((λ o is. is), (λ b. refl))
  not_making (Refresh g) none = ((λ o is. is), (λ b. refl))
  not_making (Flush g) none = ((λ o is. is), (λ b. refl))
  not_making (DropGuard g) none = ((λ o is. is), (λ b. refl))
  not_making (Forget g) none = ((λ o is. is), (λ b. refl))
  not_making ReclaimAll none = ((λ o is. is), (λ b. refl))
  not_making Close none = ((λ o is. is), (λ b. refl))
  not_making (EndMap n) none = ((λ o is. is), (λ b. refl))
  not_making (ShowShape n) none = ((λ o is. is), (λ b. refl))
  not_making (Begin c g n call) none = ((λ o is. is), (λ b. refl))
  not_making (Step c refuse) none = ((λ o is. is), (λ b. refl))
  not_making (Go c refuse) none = ((λ o is. is), (λ b. refl))
  not_making (Replied c reply) none = ((λ o is. is), (λ b. refl))
  not_making (OneCall g n call) none = ((λ o is. is), (λ b. refl))
  not_making (Next c) none = ((λ o is. is), (λ b. refl))
  not_making (Stop c) none = ((λ o is. is), (λ b. refl))

  -- and of that one
  pub is_making : (e : Event K V) (n : List ℕ) (mode : ResizeMode) (c : ℕ) → e ≡ MakeMap n mode c → ((o : Outcome V) → IsMakingOut mode c o → IsKeptOut e o) × ((b : Bool) → mapped_on e b ≡ true)
  is_making e n mode c is =
      ((λ o out. subst (λ (x : Event K V). IsKeptOut x o) (sym is) out), (λ b. ap (λ (x : Event K V). mapped_on x b) is))

  -- the scheduler notes it
  pub noted : {S : Type 0} (p q : Scheduler K V S) (before after : Bool) → before ≡ after → q ≡ record p { is_mapped = before } → q ≡ record p { is_mapped = after }
  noted p q before after is so = so ∙ ap (λ (b : Bool). record p { is_mapped = b }) is

  -- and so it has played the log with the event
  pub refused_plays : {S : Type 0} (same : K → K → Bool) (hash : K → ℕ) (terms : Terms) (log : List (Entry K V)) (p : Scheduler K V S) → IsPlayed same hash terms log p
      → (event : Event K V) → p.is_closed ≡ true → (played : Played V) → IsKeptOut event played.outcome → played.steps ≡ 0 → played.effects.items ≡ []
      → (q : Scheduler K V S) → q ≡ record p { is_mapped = mapped_on event p.is_mapped } → Plays same hash terms log (entry_of event played) q
  refused_plays {S} same hash terms log p is event out played kept steps effects q q_is =
      subst (λ (x : Scheduler K V S). Plays same hash terms log (entry_of event played) x) (sym q_is)
      (so_played same hash terms log (record p { is_mapped = mapped_on event p.is_mapped }) event played played.outcome 0 [] refl steps effects
      (kept_out same hash terms log p is event out played.outcome kept))
