-- What happens as a call takes a step: users' events, or a step of its caller's row.
use Rattle.std.specs.Prelude.{Some}
use Rattle.std.proofs.Common.{◌≡◌, ℕ, Bool, List, [], ◌∷◌, inl, inr, refl, sym, subst}
use Rattle.seize_words.specs.OneMemory.Mem.{Mem}
use Rattle.seize.specs.World.{World, Event, Request, Register', Enter', Leave', LeaveOwned, Refresh, Unregister', Retire, Flush, Defer', Runs}
use Rattle.map_tables.specs.Nodes.{deferred_word}
use Rattle.map_tables.specs.declared.node.Node.{Node}
use Rattle.map_tables.specs.declared.setting.Setting.{Setting}
use Rattle.papaya_raw.specs.declared.machines.machine.Machine.{Machine}
use Rattle.papaya_raw.specs.declared.machines.progress.Progress.{Progress}
use Rattle.map_straight.specs.Given.RuleInWorld.{AllUsers}
use Rattle.many_acts.specs.Given.CallersTogether.{UnderWay, OnKey, ForRoom, Counting, OverAll, IsOneStep, HandsOver}
use Rattle.many_acts.specs.Given.FinishesMachines.{MachineStepsWithEndings, DidOfKind}
use Rattle.many_acts.specs.Given.FinishesMaps.{Standing}
use Rattle.many_acts.specs.Given.ScenesScene.{Scene}
use Rattle.many_acts.specs.Acts.Leads.{AllStand}
use Rattle.threads_rule.proofs.Views.Quiet.{HandsOne}
use Rattle.threads_rule.proofs.Views.Ran.{Stepped, Ran}
use Rattle.seize_model.proofs.Alone.Histories.UsersTurn.{AreUsers as AllOfUsers}

module _ {K V : Type 0} where
  pub as_users : (events : List (Event (Node K V))) → AllUsers events → AllOfUsers events
  as_users [] h = tt
  as_users (e ∷ events) h = (h.0, as_users events h.1)

  module _ (setting : Setting) (i : ℕ) (w v : World (Node K V)) where
    hands_one : (request : Request) → HandsOver setting i w request → HandsOne (deferred_word {K = K} {V = V}) setting.batch_size request
    hands_one (Retire s b) h = tt
    hands_one (Defer' s b t) h = tt
    hands_one (Register' enters) h = absurd h
    hands_one (Enter' s) h = absurd h
    hands_one (Leave' s) h = absurd h
    hands_one (LeaveOwned s) h = absurd h
    hands_one (Refresh s) h = absurd h
    hands_one (Unregister' s) h = absurd h
    hands_one (Flush s) h = absurd h

    one_step : IsOneStep setting i w v → Stepped deferred_word setting.batch_size i w v
    one_step (inl h) = inl h
    one_step (inr (request, begun, hands, first, after)) = inr (request, begun, hands_one request hands, first, after)

module _ {K V S : Type 0} (same : K → K → Bool) (hash : S → K → ℕ) (batch_size roots : ℕ) (slot : ℕ → ℕ) where
  -- what has happened as a call took a step
  pub calls_ran : (s : Scene K V) → AllStand same hash batch_size roots slot s → (m : ℕ) (it : Standing K) → s.maps m ≡ Some it → (i : ℕ) (u : UnderWay K V K)
      → (m2 : Mem (Node K V)) (machine : Machine K V K) (told : Progress (Node K V))
      → (did : MachineStepsWithEndings V same same batch_size roots slot s.world s.maps s.calls s.makers s.enders m it i m2 u machine told)
      → Ran (deferred_word {K = K} {V = V}) batch_size i s.world did.w2
  calls_ran s all m it stands i u m2 machine told did = subst (λ (n : ℕ). Ran deferred_word n i s.world did.w2) (all.makings.standing.fit m it stands).2 (by u did.did)
    where
      w : World (Node K V)
      w = s.world

      come : (v : World (Node K V)) → did.w2 ≡ v → Ran deferred_word it.setting.batch_size i w v → Ran deferred_word it.setting.batch_size i w did.w2
      come v is h = subst (λ (x : World (Node K V)). Ran deferred_word it.setting.batch_size i w x) (sym is) h

      users : (events : List (Event (Node K V))) (v : World (Node K V)) → AllUsers events → Runs deferred_word it.setting.batch_size events w v → Ran deferred_word it.setting.batch_size i w v
      users events v are runs = inl (events, as_users events are, runs)

      row : (v : World (Node K V)) → IsOneStep it.setting i w v → Ran deferred_word it.setting.batch_size i w v
      row v h = inr (one_step it.setting i w v h)

      by : (u : UnderWay K V K) → DidOfKind V same same batch_size roots slot w s.maps s.calls s.makers s.enders m it i m2 did.w2 did.maps2 did.next u machine told
          → Ran deferred_word it.setting.batch_size i w did.w2
      by (OnKey k) (p2, end, e, f, inl (to, moved)) = come to.step.went.w2 moved.0 (users to.step.went.events to.step.went.w2 to.step.went.users to.step.went.runs)
      by (OnKey k) (p2, end, e, f, inr (to, stayed)) = come to.step.w2 stayed.0 (row to.step.w2 to.step.happened)
      by (ForRoom k) (p2, end, e, f, inl (to, moved)) = come to.step.went.w2 moved.0 (users to.step.went.events to.step.went.w2 to.step.went.users to.step.went.runs)
      by (ForRoom k) (p2, end, e, f, inr (to, stayed)) = come to.step.w2 stayed.0 (row to.step.w2 to.step.happened)
      by (Counting k) (sum2, end, e, f, g, stayed) = come w stayed.0 (inl ([], tt, refl))
      by (OverAll k) (p2, end, e, f, inl (to, moved)) = come to.step.went.w2 moved.0 (users to.step.went.events to.step.went.w2 to.step.went.users to.step.went.runs)
      by (OverAll k) (p2, end, e, f, inr (to, stayed)) = come to.step.w2 stayed.0 (row to.step.w2 to.step.happened)
