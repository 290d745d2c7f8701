-- What a moment shows of steps of calls it shows, too, where an entry is over, with that on the history; and so where no entry comes.
use Rattle.std.specs.Prelude.{◌≡◌, ◌≤◌, ℕ, Bool, Some}
use Rattle.std.proofs.Common.{ap, sym, subst}
use Rattle.run_schedules.specs.Schedules.Moment.{Moment, UnderWay as CallThere}
use Rattle.run_schedules.specs.Schedules.Transition.{Past, further}
use Rattle.run_schedules.specs.Schedules.Views.{call_of}
use Rattle.run_legal.specs.Given.CallersTogether.{UnderWay}
use Rattle.run_legal.specs.Given.EffectsKnown.{Known}
use Rattle.run_legal.specs.Given.FollowsShows.{Refines}
use Rattle.run_legal.specs.Given.GrowsFinding.{RefinesFinding}
use Rattle.run_legal.specs.Given.GrowsNexts.{RefinesNexts}
use Rattle.run_legal.specs.Given.GrowsTries.{RefinesTries}
use Rattle.run_legal.specs.Given.ScenesScene.{Scene}
use Rattle.run_legal.proofs.Given.GrowsFinding.Nexts.{nexts_grow}
use Rattle.run_legal.proofs.Given.GrowsTries.Shows.{tries_grow}
use Rattle.run_legal.proofs.Sourced.{sources_so}
use Rattle.run_legal.specs.Given.SourcesSources.{RefinesSources}
use Rattle.run_schedules.specs.Deeds.Deeds.{named}
use Rattle.play_linear.proofs.Linear.Like.{IsLike}
use Rattle.play_moves.specs.Moves.Steps.{RefinesSteps}

module _ {K V : Type 0} (same : K → K → Bool) (log : Past K V) (known : Known) (s : Scene K V) (m v : Moment K V) where
  -- each call began before an entry that is to come
  abbrev pub BegunBy : Type 0
  BegunBy = (map i : ℕ) (u : UnderWay K V K) → s.calls map i ≡ Some u → (c : CallThere K V) → call_of (named i) m ≡ Some c → c.begun ≤ log.entries

  pub steps_over : BegunBy → RefinesFinding named m known s → RefinesNexts named log m s → RefinesTries named log m s → IsLike m v → RefinesSources same named v known s → RefinesSteps same (further v log) v known s
  steps_over begun finding nexts tries like =
      subst (λ (x : Moment K V). RefinesSources same named x known s → RefinesSteps same (further v log) x known s) (sym like)
      (λ sources. record {
        finding = record { growing = finding.growing; further = finding.further; capacities = finding.capacities; waits = finding.waits; puts = finding.puts };
        nexts = nexts_grow named log v m s begun nexts;
        tries = tries_grow named log v m s begun tries;
        sources = sources;
      })

  -- with all of it at the moment at which its effects are there
  pub steps_come : BegunBy → RefinesSteps same log m known s → IsLike m v → Refines same named v known s → RefinesSteps same (further v log) v known s
  steps_come begun steps like shown =
      steps_over begun steps.finding steps.nexts steps.tries like
      (sources_so K V same named m v known known s s steps.sources shown (ap (λ (x : Moment K V). x.stored) like) (ap (λ (x : Moment K V). x.born) like) (ap (λ (x : Moment K V). x.spot) like) (λ n st is. is))
