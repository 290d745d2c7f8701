-- Over a step of a call, of a row or none, sections go on, and hold what they held.
use Rattle.std.specs.Prelude.{◌≡◌, ℕ, Bool, true, List, [], Some}
use Rattle.std.proofs.Common.{refl, sym, subst, inl, inr}
use Rattle.run_places.specs.Given.SeizeLaw.{Deferred, holds, is_open}
use Rattle.run_places.specs.Given.SeizeWorld.{World, Use, Event, Begin, Happens, Runs, IsInside, Request, Register', Enter', Leave', LeaveOwned, Refresh, Unregister', Retire, Flush, Defer'}
use Rattle.run_places.proofs.Given.SeizeMovesState.Held.{held_on}
use Rattle.run_places.proofs.Given.SeizeAloneHistories.NotTaken.{still_held}
use Rattle.run_places.proofs.Given.SeizeAloneHistories.Reached.{Reached, happens_reached}
use Rattle.run_places.proofs.Given.SeizeAloneHistories.Uses.{inside_kept, inside_open}
use Rattle.run_places.specs.Given.TablesNodes.{deferred_word}
use Rattle.run_places.specs.Given.TablesDeclared.node.Node.{Node}
use Rattle.run_places.specs.Given.TablesDeclared.setting.Setting.{Setting}
use Rattle.run_places.specs.Given.RawDeclared.machines.progress.Progress.{Progress}
use Rattle.run_places.specs.Given.RuleInWorld.{AllUsers}
use Rattle.run_places.specs.Given.SchedulesMoment.{Moment}
use Rattle.run_places.specs.Given.CallersTogether.{UnderWay, OnKey, ForRoom, Counting, OverAll, CameAbout, HandsOver, IsOneStep}
use Rattle.run_places.proofs.Given.CallersRows.Users.{events_hold}
use Rattle.run_places.proofs.Given.CallersTogether.Came.{came_reached}
use Rattle.run_places.proofs.Given.CallersTogether.Handed.{inside_on}
use Rattle.run_places.proofs.Given.CallersTogether.Users.{events_uses}
use Rattle.run_places.specs.Given.EffectsKnown.{Known}
use Rattle.run_places.specs.Given.FollowsShows.{Refines}
use Rattle.run_places.proofs.Given.FollowsSteps.{WentTo, went_to, DidSo}
use Rattle.run_places.specs.Given.ScenesHeld.{Held, IsAt}
use Rattle.run_places.specs.Given.ScenesScene.{Scene}
use Rattle.run_places.specs.Given.ScenesStepping.{StepLeads}

-- sections of one kind are of another one then, and hold what they held
pub record GoOn {K V : Type 0} (On On2 : ℕ → Type 0) (w w2 : World (Node K V)) : Type 0 where
  pub inside : (t : ℕ) → On t → On2 t
  pub held : (t b : ℕ) → On t → holds t b w.log ≡ true → holds t b w2.log ≡ true

-- Sections of these kinds are open, before and after, and go on where users do something.
pub record Sections {K V : Type 0} (On On2 : World (Node K V) → ℕ → Type 0) : Type 0 where
  pub opens : (size : ℕ) (w : World (Node K V)) → Reached deferred_word size w → (t : ℕ) → On w t → is_open t w.log ≡ true
  pub opens_then : (size : ℕ) (w : World (Node K V)) → Reached deferred_word size w → (t : ℕ) → On2 w t → is_open t w.log ≡ true
  pub events : (size : ℕ) (w w2 : World (Node K V)) → Reached deferred_word size w → (events : List (Event (Node K V))) → AllUsers events → Runs deferred_word size events w w2 → GoOn (On w) (On2 w2) w w2

-- and where this caller takes a step of a row within its call
abbrev pub GoOnByRows : {K V : Type 0} → (World (Node K V) → ℕ → Type 0) → (World (Node K V) → ℕ → Type 0) → ℕ → Type 0
GoOnByRows {K} {V} On On2 i = (setting : Setting) (w w2 : World (Node K V)) → CameAbout setting.batch_size w → IsOneStep setting i w w2 → GoOn (On w) (On2 w2) w w2

-- who is inside is within such a section
abbrev pub Within : {K V : Type 0} → World (Node K V) → ℕ → Type 0
Within w t = IsInside (w.uses t)

module _ {K V : Type 0} where
  over_events : (size : ℕ) (w w2 : World (Node K V)) → Reached deferred_word size w → (events : List (Event (Node K V))) → AllUsers events → Runs deferred_word size events w w2 → GoOn (Within w) (Within w2) w w2
  over_events size w w2 r events users runs = record {
    inside = λ t inside. subst (λ (f : ℕ → Use). IsInside (f t)) (sym (events_uses size events w w2 users runs)) inside;
    held = λ t b inside h. events_hold size b t events w w2 r inside users runs h;
  }

  abbrev Goes : World (Node K V) → World (Node K V) → Type 0
  Goes w w2 = GoOn (Within w) (Within w2) w w2

  begun_goes : (setting : Setting) (i : ℕ) (w begun : World (Node K V)) (request : Request) → HandsOver setting i w request → Happens deferred_word setting.batch_size (Begin i request) w begun → Goes w begun
  begun_goes setting i w begun (Retire s c) hands h = subst (Goes w) (sym h.1.2) (record { inside = λ t inside. inside_on w.uses s t inside; held = λ t b inside k. k })
  begun_goes setting i w begun (Defer' s c d) hands h =
      subst (Goes w) (sym h.1.7) (record { inside = λ t inside. inside_on w.uses s t inside; held = λ t b inside k. held_on t b (Deferred c d) w.log tt k })
  begun_goes setting i w begun (Register' enters) hands h = absurd hands
  begun_goes setting i w begun (Enter' s) hands h = absurd hands
  begun_goes setting i w begun (Leave' s) hands h = absurd hands
  begun_goes setting i w begun (LeaveOwned s) hands h = absurd hands
  begun_goes setting i w begun (Refresh s) hands h = absurd hands
  begun_goes setting i w begun (Unregister' s) hands h = absurd hands
  begun_goes setting i w begun (Flush s) hands h = absurd hands

  pub over_row : (i : ℕ) → GoOnByRows {K = K} {V = V} Within Within i
  over_row i setting w w2 came (inl step) =
      let r = came_reached setting.batch_size w came in record {
        inside = λ t inside. inside_kept deferred_word setting.batch_size w r i w2 step t inside;
        held = λ t b inside h. still_held deferred_word setting.batch_size w r i w2 step t b inside h;
      }
  over_row i setting w w2 came (inr (request, begun, hands, begins, step)) =
      let r = happens_reached deferred_word setting.batch_size (Begin i request) w begun (came_reached setting.batch_size w came) begins in
      let first = begun_goes setting i w begun request hands begins in record {
        inside = λ t inside. inside_kept deferred_word setting.batch_size begun r i w2 step t (first.inside t inside);
        held = λ t b inside h. still_held deferred_word setting.batch_size begun r i w2 step t b (first.inside t inside) (first.held t b inside h);
      }

  pub within_sections : Sections {K = K} {V = V} Within Within
  within_sections = record {
    opens = λ size w r t inside. inside_open deferred_word size w r t inside;
    opens_then = λ size w r t inside. inside_open deferred_word size w r t inside;
    events = over_events;
  }

module _ {K V : Type 0} (same : K → K → Bool) (hash : ℕ → K → ℕ) (name : ℕ → List ℕ) (m : Moment K V) (known : Known) (s : Scene K V) (old new : Held K V) (at : IsAt same hash old s)
    (shown : Refines same name m known s) (map i : ℕ) (u : UnderWay K V K) (here : s.calls map i ≡ Some u) (told : Progress (Node K V)) (leads : StepLeads same hash i told s old new)
    (On On2 : World (Node K V) → ℕ → Type 0) (sections : Sections On On2) (rows : GoOnByRows On On2 i) where
  abbrev to : WentTo same hash name m known s old new at shown map i u here told leads
  to = went_to same hash name m known s old new at shown map i u here told leads

  abbrev Onward : World (Node K V) → Type 0
  Onward w2 = GoOn (On s.world) (On2 w2) s.world w2

  came : CameAbout to.0.setting.batch_size s.world
  came = (at.together.makings.standing.each map to.0 to.2).ground.came

  by_events : (w2 : World (Node K V)) → to.4.w2 ≡ w2 → (events : List (Event (Node K V))) → AllUsers events → Runs deferred_word to.0.setting.batch_size events s.world w2 → Onward to.4.w2
  by_events w2 is events users runs =
      subst Onward (sym is) (sections.events to.0.setting.batch_size s.world w2 (came_reached to.0.setting.batch_size s.world came) events users runs)

  by_row : (w2 : World (Node K V)) → to.4.w2 ≡ w2 → IsOneStep to.0.setting i s.world w2 → Onward to.4.w2
  by_row w2 is step = subst Onward (sym is) (rows to.0.setting s.world w2 came step)

  pub call_goes_on : Onward to.4.w2
  call_goes_on = by u to.4.did
    where
      by : (x : UnderWay K V K) → DidSo same hash name m known s old new at shown map i u here told leads x → Onward to.4.w2
      by (OnKey x) (p2, end, machine_is, told_is, inl (step, moved)) = by_events step.step.went.w2 moved.0 step.step.went.events step.step.went.users step.step.went.runs
      by (OnKey x) (p2, end, machine_is, told_is, inr (row, stayed)) = by_row row.step.w2 stayed.0 row.step.happened
      by (ForRoom x) (p2, end, machine_is, told_is, inl (step, moved)) = by_events step.step.went.w2 moved.0 step.step.went.events step.step.went.users step.step.went.runs
      by (ForRoom x) (p2, end, machine_is, told_is, inr (row, stayed)) = by_row row.step.w2 stayed.0 row.step.happened
      by (Counting x) (p2, end, machine_is, told_is, still, stayed) = by_events s.world stayed.0 [] tt refl
      by (OverAll x) (p2, end, machine_is, told_is, inl (step, moved)) = by_events step.step.went.w2 moved.0 step.step.went.events step.step.went.users step.step.went.runs
      by (OverAll x) (p2, end, machine_is, told_is, inr (row, stayed)) = by_row row.step.w2 stayed.0 row.step.happened
