-- What an event has done that reclaims all is what its functions have done.
use Rattle.std.specs.Prelude.{◌≡◌, nat_lt, true, List, []}
use Rattle.std.proofs.Common.{refl, subst, sym, inl, inr}
use Rattle.seize_words.specs.declared.fault.Fault.TheVariants.{Busy}
use Rattle.run_schedules.specs.declared.effect.Effect.{Effect}
use Rattle.run_schedules.specs.declared.outcome.Outcome.TheVariants.{Done, Refused}
use Rattle.run_executor.specs.Given.EffectsKnown.{known}
use Rattle.play_scheduler.specs.Given.LoggedGoes.{ReclaimingGone}
use Rattle.play_scheduler.specs.Given.LoggedDeclared.logged.Logged.{Logged}
use Rattle.play_scheduler.specs.AllWorks.{WorksOnAll}
use Rattle.play_scheduler.specs.Reclaiming.{are_gone}
use Rattle.play_scheduler.specs.declared.played.Played.{Played}
use Rattle.play_scheduler.specs.declared.scheduler.Scheduler.{Scheduler}

module _ {K V S : Type 0} (old : Scheduler K V S) (played : Played V) where
  -- it was out of turn, and did nothing;
  pub did_wait : played.outcome ≡ Refused Busy → played.effects.items ≡ [] → WorksOnAll played old old
  did_wait is none = (refl, inl (is, (none, refl)))

  -- or all was reclaimed
  pub did_all : (new : Scheduler K V S) → new.calls ≡ old.calls → played.outcome ≡ Done → are_gone old.there old.calls ≡ true → (before after : List Effect) → before ≡ []
      → played.effects.items ≡ after → (q : Logged K V S) → new.logged ≡ q → ReclaimingGone (nat_lt 0 (known old.logged.notes).buckets) before after old.logged q → WorksOnAll played old new
  did_all new calls done gone before after nothing effects q is ran = (
    calls,
    inr (
      done,
      gone,
      subst (λ (l : Logged K V S). ReclaimingGone (nat_lt 0 (known old.logged.notes).buckets) [] played.effects.items old.logged l) (sym is)
          (subst (λ (xs : List Effect). ReclaimingGone (nat_lt 0 (known old.logged.notes).buckets) [] xs old.logged q) (sym effects)
          (subst (λ (xs : List Effect). ReclaimingGone (nat_lt 0 (known old.logged.notes).buckets) xs after old.logged q) nothing ran)),
    ),
  )
