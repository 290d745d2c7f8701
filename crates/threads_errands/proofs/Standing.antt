-- Code that is ahead of its machine: it may be run, and what it comes to is known to the seat, but for turns.
use Rattle.std.specs.Prelude.{Option, Some, None, Ok}
use Rattle.std.proofs.Common.{◌≡◌, ℕ, Bool, [], inl, inr, refl, sym, subst, ap, ◌∙◌}
use Rattle.seize_words.specs.OneMemory.Mem.{Mem}
use Rattle.seize_words.specs.OneMemory.Op.{Op, Out}
use Rattle.seize_words.specs.OneMemory.Plan.{Ends, Plan, Then, Turn, Do, Now, Seeing, Sure, MaySee, May, Steps, then_as, plan_as}
use Rattle.seize_blocks.specs.Given.SeizeSeatsState.{Allows}
use Rattle.seize_views.specs.Views.Promises.{op_in}
use Rattle.seize_views.specs.Views.Told.{FollowsBy}
use Rattle.seize_views.specs.declared.view.Fixed.{Fixed}
use Rattle.map_tables.specs.declared.node.Node.{Node}
use Rattle.papaya_raw.specs.Call.{call_plan}
use Rattle.papaya_raw.specs.Machine.{machine_plan, called as as_machine}
use Rattle.papaya_raw.specs.declared.machines.answer.Called.{Called}
use Rattle.papaya_raw.specs.declared.machines.answer.Called.TheVariants as tells
use Rattle.papaya_raw.specs.declared.machines.answer.KeyAnswer.{KeyAnswer}
use Rattle.papaya_raw.specs.declared.machines.call.KeyCall.{KeyCall}
use Rattle.papaya_raw.specs.declared.machines.machine.Machine.{Machine}
use Rattle.papaya_raw.specs.declared.machines.machine.Machine.TheVariants.{Key}
use Rattle.papaya_raw.specs.declared.machines.progress.Answer.TheVariants.{Key as OfKey}
use Rattle.papaya_raw.specs.declared.machines.progress.Progress.{Progress}
use Rattle.papaya_raw.specs.declared.machines.progress.Progress.TheVariants as progress
use Rattle.papaya_raw.specs.Progress.{of_called}
use Rattle.threads_steps.specs.Given.ViewsLooks.{MayFollow, shown_in}
use Rattle.threads_steps.specs.Given.ViewsRule.{Holds, KeepsFor, stand_of}
use Rattle.threads_steps.specs.Given.ViewsTold.{HandsBack, MayCome, called, newest_progress, pair_in, told}
use Rattle.threads_steps.specs.Given.ViewsDeclared.view.View.{View}
use Rattle.threads_steps.proofs.Given.ViewsLaws.{calls_go_on}
use Rattle.seize_views.proofs.Views.Looks.{IsNow}
use Rattle.map_straight.specs.Straight.Going.{CallGoes, CallLeads, MayCall}
use Rattle.threads_steps.specs.Given.CallKindsAnswers.{IsAnswer}
use Rattle.threads_steps.specs.Given.CallKindsKinds.{Continues}
use Rattle.threads_steps.specs.Given.CallKindsShows.{AnsweredAreVisible}
use Rattle.threads_steps.proofs.Given.CallKindsAsking.{call_is}
use Rattle.threads_steps.proofs.Given.CallKindsPlans.{ReplacesNone, answered_by, follows_as, follows_one, leaves_values, op_as}
use Rattle.threads_steps.proofs.Given.CallKindsQuiet.{IsQuiet}
use Rattle.threads_steps.specs.Given.SeizeCallersKept.{kept}
use Rattle.seize_straight.specs.Runs.{none_taken, one_more, EndsTelling}
use Rattle.seize_straight.proofs.Running.{by_law}
use Rattle.threads_errands.specs.Ahead.{CanGo, CatchesUp, HasEndedSo, HasGone, IsAhead, here, IsEnding, over, turns_over, IsSameAhead, Makes, MakesNext, StandsAt, shown_ahead}
use Rattle.threads_steps.specs.Given.ErrandsCalling.{IsBack, Works}
use Rattle.threads_steps.specs.Given.ErrandsLooking.{IsOfThem, StaysThere}
use Rattle.threads_steps.specs.Storing.{HandsIt, Since}
use Rattle.threads_errands.specs.declared.ahead.Ahead.{Ahead}
use Rattle.threads_steps.proofs.Given.ErrandsBeginnings.{stays_on}
use Rattle.threads_errands.proofs.Behind.{IsOnStill, ahead_on, at_point, goes_along, goes_by, is_on, on_still, plan_here, works_still}
use Rattle.threads_steps.proofs.Calling.{MadeNone, MadeOne, came_to, leads_by, may_quiet, quiet_leaves}
use Rattle.threads_steps.proofs.Sinces.{hands_it, since_last, since_on}
use Rattle.threads_steps.proofs.Given.ErrandsRuns.{of_them, same_pair}
use Rattle.threads_steps.proofs.Tellings.{told_shown}

-- what a step looks at whose outcome is turned into another
sees_as : {T A B : Type 0} (f : A → B) (shown : ℕ → Option T) (rest : Then T A) → MaySee shown (then_as f rest) → MaySee shown rest
sees_as f shown (Now r) is = tt
sees_as f shown (Seeing block rest) is = (is.0, λ value e. sees_as f shown (rest value) (is.1 value e))
sees_as f shown (Sure fact rest) is = (is.0, sees_as f shown rest is.1)

may_follow_as : {T A B : Type 0} (f : A → B) (shown : ℕ → Option T) (plan : Plan T A) (out : Out T) → MayFollow shown (plan_as f plan) out → MayFollow shown plan out
may_follow_as f shown (Turn rest) out is = absurd is
may_follow_as f shown (Do op rest) out is = sees_as f shown (rest out) is

-- where a step makes none, it passes on to its end at once
now_at : {T R : Type 0} (shown : ℕ → Option T) (rest : Then T R) (end : R) → IsNow rest → Ends shown rest end → rest ≡ Now end
now_at shown (Now r) end is e = ap Now (sym e)
now_at shown (Seeing block rest) end is e = absurd is
now_at shown (Sure fact rest) end is e = absurd is

-- a memory of nothing, in which a turn may be taken as in any
nothing : {T : Type 0} → Mem T
nothing = record { roots = []; used = []; slots = []; blocks = []; choices = [] }

module _ {K V S : Type 0} (same : K → K → Bool) (hash : S → K → ℕ) (hasher : S) where
  -- the code stands at this point
  abbrev pub IsAt : KeyCall K V K → Ahead K V S → Type 0
  IsAt x c = IsAhead same hash hasher x c.seat.now.view

  module _ (x : KeyCall K V K) (c : Ahead K V S) (is : IsAt x c) where
    abbrev plan : Plan (Node K V) (KeyCall K V K × Called (Node K V))
    plan = call_plan same same (hash hasher) x

    quiet : IsQuiet plan
    quiet = call_is is.kind is.stage same same (hash hasher) x (goes_along same (hash hasher) is.kind is.stage is.behind x is.leads is.goes)

    -- its operation replaces no value
    pub leaves : (op : Op (Node K V)) → Makes same (hash hasher) x op → ReplacesNone op
    leaves op e = leaves_values plan op (quiet_leaves plan quiet) e

    -- the seat has come to this by the answer
    pub record Came (out : Out (Node K V)) (n : View K V S) : Type 0 where
      pub before : View K V S
      pub stands : StandsAt (Key x) c.seat.now.view before
      pub at : Works hasher (Key x) before
      pub end : KeyCall K V K × Called (Node K V)
      pub follows : FollowsBy (shown_in n.held) plan out end
      pub view : n ≡ called before at.map (Key x) (as_machine end) n.looks
      pub may : MayFollow (shown_in n.held) plan out
      pub hands : HandsBack before.calls (as_machine end).1
      pub step : MayCome (machine_plan same same (hash hasher) (Key x)) (as_machine end)
      pub shows : AnsweredAreVisible (as_machine end).1 (shown_in n.held)

    came : (op : Op (Node K V)) (out : Out (Node K V)) (n : Ahead K V S) → Makes same (hash hasher) x op → HasGone same hash c op out n → Came out n.seat.now.view
    came op out n e gone =
        let t = gone.came hasher x is e in
        let at : Works hasher (Key x) t.0 = at_point same hash c.seat.now.view hasher x t.0 is t.1 in
        let w = n.seat.now.view in
        let so = told_shown same hash t.0 at.map (Key x) at.knows at.works op out w t.2 in
        let its = plan_here same hash hasher x t.0 at plan refl in
        let f = follows_as as_machine (shown_in w.held) plan out so.0
        (subst (λ (p : Plan (Node K V) (Machine K V K × Progress (Node K V))). FollowsBy (shown_in w.held) p out so.0) its so.1) in record {
          before = t.0;
          stands = t.1;
          at = at;
          end = f.0;
          follows = f.1;
          view = so.2 ∙ ap (λ (m : Machine K V K × Progress (Node K V)). called t.0 at.map (Key x) m w.looks) f.2;
          may =
              may_follow_as as_machine (shown_in w.held) plan out (subst (λ (p : Plan (Node K V) (Machine K V K × Progress (Node K V))). MayFollow (shown_in w.held) p out) its so.3);
          hands = subst (λ (m : Machine K V K × Progress (Node K V)). HandsBack t.0.calls m.1) f.2 so.5;
          step =
              subst (λ (m : Machine K V K × Progress (Node K V)). MayCome (machine_plan same same (hash hasher) (Key x)) m) f.2
              (subst (λ (p : Plan (Node K V) (Machine K V K × Progress (Node K V))). MayCome p so.0) its so.4);
          shows = subst (λ (m : Machine K V K × Progress (Node K V)). AnsweredAreVisible m.1 (shown_in w.held)) f.2 so.6.1;
        }

    pub may_go : May (CanGo same hash) (HasGone same hash) shown_ahead c plan
    may_go =
        may_quiet (CanGo same hash) (HasGone same hash) shown_ahead c plan quiet (λ op e. record { hasher = hasher; point = x; ahead = is; makes = e })
        (λ op out n e gone. (came op out n e gone).may)

    -- what a step has come to
    pub record Went (n : Ahead K V S) (y : KeyCall K V K) (told : Called (Node K V)) : Type 0 where
      pub stays : StaysThere c.seat.now.view n.seat.now.view
      pub seat : IsSameAhead c n
      pub calls : IsOfThem c.seat.now.view n.seat.now.view
      pub ahead : CallGoes told → IsAt y n
      pub ends : (answer : KeyAnswer) → told ≡ tells.Done answer → IsEnding same hash answer n.seat.now.view
      pub step : MayCome (machine_plan same same (hash hasher) (Key x)) (as_machine (y, told))

    goes : Continues is.kind is.stage x
    goes = goes_along same (hash hasher) is.kind is.stage is.behind x is.leads is.goes

    -- the call has ended with its operation
    ended_now : (y : KeyCall K V K) (answer : KeyAnswer) (v n : View K V S) (at : Works hasher (Key x) v) → n ≡ called v at.map (Key x) (as_machine (y, tells.Done answer)) n.looks
        → AnsweredAreVisible (progress.Done (OfKey answer)) (shown_in n.held) → HasEndedSo answer n n
    ended_now y answer v n at view shows =
        let told : Progress (Node K V) = progress.Done (OfKey answer) in let calls = ap (λ (u : View K V S). u.calls) view in record {
          ended = record { free = ap (λ (u : View K V S). u.work) view; told = calls ∙ sym (of_them v v n told (λ other. refl) calls told); shows = shows };
          stays = record { slot = refl; map = refl };
        }

    -- what it has come to with its operation
    pub record Made (n : Ahead K V S) (y : KeyCall K V K) (told : Called (Node K V)) : Type 0 where
      pub stays : StaysThere c.seat.now.view n.seat.now.view
      pub seat : IsSameAhead c n
      pub calls : IsOfThem c.seat.now.view n.seat.now.view
      pub ahead : IsOnStill told → IsAt y n
      pub ends : (answer : KeyAnswer) → told ≡ tells.Done answer → IsEnding same hash answer n.seat.now.view
      pub step : MayCome (machine_plan same same (hash hasher) (Key x)) (as_machine (y, told))
      pub hands : (pair : Node K V) → pair_in c.seat.now.view.calls ≡ Some pair → HandsIt pair (of_called told)

    pub made_one : (n : Ahead K V S) (y : KeyCall K V K) (told : Called (Node K V)) → MadeOne (CanGo same hash) (HasGone same hash) shown_ahead c plan n (y, told) → Made n y told
    made_one n y told it =
        let k = came it.0 it.1 n it.4 it.2 in let w = n.seat.now.view in let u = c.seat.now.view in
        let one : k.end ≡ (y, told) = follows_one (shown_in w.held) plan it.1 k.end (y, told) k.follows it.3 in
        let view : w ≡ called k.before k.at.map (Key x) (as_machine (y, told)) w.looks =
        k.view ∙ ap (λ (e : KeyCall K V K × Called (Node K V)). called k.before k.at.map (Key x) (as_machine e) w.looks) one in
        let stays : StaysThere k.before w = record { slot = ap (λ (z : View K V S). stand_of z) view; map = ap (λ (z : View K V S). z.map) view } in
        let leads = leads_by (shown_in w.held) plan it.1 (y, told) (answered_by plan it.0 it.1 it.4 it.2.fits) it.3 in record {
          stays = stays_on u k.before w k.stands.stays stays;
          seat = it.2.seat;
          calls = of_them u k.before w (of_called told) k.stands.calls (ap (λ (z : View K V S). z.calls) view);
          ahead = λ on. record {
            kind = is.kind;
            stage = is.stage;
            none = is.none;
            behind = y;
            at = works_still hasher (Key x) (Key y) k.before w k.at stays (ap (λ (z : View K V S). z.work) view ∙ is_on y told on);
            goes = goes_by same (hash hasher) is.kind is.stage (shown_in w.held) x y told goes on leads;
            leads = here y;
          };
          ends = λ answer done. over (ended_now y answer k.before w k.at
              (view ∙ ap (λ (t : Called (Node K V)). called k.before k.at.map (Key x) (as_machine (y, t)) w.looks) done)
              (subst (λ (t : Called (Node K V)). AnsweredAreVisible (of_called t) (shown_in w.held)) done
              (subst (λ (e : KeyCall K V K × Called (Node K V)). AnsweredAreVisible (as_machine e).1 (shown_in w.held)) one k.shows)));
          step = subst (λ (e : KeyCall K V K × Called (Node K V)). MayCome (machine_plan same same (hash hasher) (Key x)) (as_machine e)) one k.step;
          hands = λ pair its.
              hands_it pair k.before.calls (of_called told) (same_pair u k.before k.stands.calls ∙ its)
              (subst (λ (e : KeyCall K V K × Called (Node K V)). HandsBack k.before.calls (as_machine e).1) one k.hands);
        }

    went_so : (n : Ahead K V S) (y : KeyCall K V K) (told : Called (Node K V)) → Made n y told → Went n y told
    went_so n y told m = record { stays = m.stays; seat = m.seat; calls = m.calls; ahead = λ on. m.ahead (on_still told on); ends = m.ends; step = m.step }

    -- without an operation nothing has changed
    made_none : (n : Ahead K V S) (y : KeyCall K V K) (told : Called (Node K V)) → MadeNone (CanGo same hash) (HasGone same hash) shown_ahead c plan n (y, told) → Went n y told
    made_none n y told it =
        let now : IsNow it.1.0 = subst (λ (p : Plan (Node K V) (KeyCall K V K × Called (Node K V))). IsQuiet p) it.1.1 quiet in
        let is_turn : plan ≡ Turn (Now (y, told)) = it.1.1 ∙ ap Turn (now_at (shown_ahead c) it.1.0 (y, told) now it.1.2) in
        let same_view : c.seat.now.view ≡ n.seat.now.view = ap (λ (k : Ahead K V S). k.seat.now.view) (sym it.0) in record {
          stays =
              record { slot = ap (λ (u : View K V S). stand_of u) (sym same_view); map = ap (λ (u : View K V S). u.map) (sym same_view) };
          seat =
              ap (λ (k : Ahead K V S). kept k.blocks k.seat.ghost_name k.seat.now.id k.seat.now.away) it.0;
          calls = λ other. ap (λ (u : View K V S). newest_progress other u.calls) (sym same_view);
          ahead = λ on. subst (λ (u : View K V S). IsAhead same hash hasher y u) same_view (ahead_on same hash c.seat.now.view hasher x y is (told, on, is_turn));
          ends = λ answer done. turns_over hasher x y (subst (λ (u : View K V S). IsAhead same hash hasher x u) same_view is)
              (is_turn ∙ ap (λ (t : Called (Node K V)). Turn (Now (y, t))) done);
          step =
              subst (λ (p : Plan (Node K V) (KeyCall K V K × Called (Node K V))). MayCome (plan_as as_machine p) (as_machine (y, told))) (sym is_turn) (nothing, nothing, (refl, refl));
        }

    pub went : (n : Ahead K V S) (y : KeyCall K V K) (told : Called (Node K V)) → Steps (HasGone same hash) shown_ahead c plan n (y, told) → Went n y told
    went n y told st = elim (came_to (CanGo same hash) (HasGone same hash) shown_ahead c plan n (y, told) st) as (λ _. Went n y told) [
      | inl it ↦ went_so n y told (made_one n y told it)
      | inr none ↦ made_none n y told none
    ]

  -- it may be run
  pub may_run : (x : KeyCall K V K) (c : Ahead K V S) → IsAt x c → MayCall same same (hash hasher) (HasGone same hash) shown_ahead (CanGo same hash) x c
  may_run =
      by_law (CallGoes {T = Node K V}) (HasGone same hash) shown_ahead (call_plan same same (hash hasher)) (CanGo same hash) IsAt may_go
      (λ x m is n y told on st. (went x m is n y told st).ahead on)

  -- of the seat and its calls nothing has changed but how far its call has come, and that has its pair still
  pub record HasStayed (x : KeyCall K V K) (m : Ahead K V S) (y : KeyCall K V K) (n : Ahead K V S) : Type 0 where
    pub at : IsAt y n
    pub stays : StaysThere m.seat.now.view n.seat.now.view
    pub seat : IsSameAhead m n
    pub calls : IsOfThem m.seat.now.view n.seat.now.view
    pub back : (pair : Node K V) (handed : Option (Node K V)) → Since same (hash hasher) pair (Key x) handed → Since same (hash hasher) pair (Key y) handed

  pub led : (x y : KeyCall K V K) (m n : Ahead K V S) → CallLeads same same (hash hasher) (HasGone same hash) shown_ahead x m y n → IsAt x m → HasStayed x m y n
  led x y m n (none_taken _ _) is =
      record { at = is; stays = record { slot = refl; map = refl }; seat = refl; calls = λ told. refl; back = λ pair handed since. since }
  led x y m n (one_more _ _ z k l told on _ _ st) is =
      let a = led x z m k l is in let b = went z k a.at n y told st in record {
        at = b.ahead on;
        stays = stays_on m.seat.now.view k.seat.now.view n.seat.now.view a.stays b.stays;
        seat = b.seat ∙ a.seat;
        calls = λ other. b.calls other ∙ a.calls other;
        back = λ pair handed since. since_on same (hash hasher) pair z y handed told on (a.back pair handed since) b.step;
      }

  -- and it has ended with an answer
  pub record HasAnswered (x : KeyCall K V K) (m : Ahead K V S) (answer : KeyAnswer) (n : Ahead K V S) : Type 0 where
    pub ends : IsEnding same hash answer n.seat.now.view
    pub stays : StaysThere m.seat.now.view n.seat.now.view
    pub seat : IsSameAhead m n
    pub calls : IsOfThem m.seat.now.view n.seat.now.view
    pub back : (pair : Node K V) → Since same (hash hasher) pair (Key x) None → IsBack pair (Ok (OfKey answer)) None

  pub answered : (x : KeyCall K V K) (m n : Ahead K V S) (answer : KeyAnswer) → EndsTelling (CallGoes {T = Node K V}) (HasGone same hash) shown_ahead (call_plan same same (hash hasher)) x m n (tells.Done answer)
      → IsAt x m → HasAnswered x m answer n
  answered x m n answer (y, k, z, l, st, not) is =
      let a = led x y m k l is in let b = went y k a.at n z (tells.Done answer) st in record {
        ends = b.ends answer refl;
        stays = stays_on m.seat.now.view k.seat.now.view n.seat.now.view a.stays b.stays;
        seat = b.seat ∙ a.seat;
        calls = λ other. b.calls other ∙ a.calls other;
        back = λ pair since. since_last same (hash hasher) pair (Key y) (Key z) None (progress.Done (OfKey answer)) (a.back pair None since) b.step tt;
      }

-- an operation of such code: the seat takes the turns up to it, and may make it
module _ {K V S : Type 0} (same : K → K → Bool) (hash : S → K → ℕ) (c : Ahead K V S) (op : Op (Node K V)) where
  pub next_of : CanGo same hash c op → MakesNext same hash c.seat.now.view
  next_of can = (can.hasher, can.point, op, can.ahead, can.makes)

  pub may_make : (fixed : Fixed) (id : ℕ) (w : View K V S) → CanGo same hash c op → CatchesUp same hash c.seat.now.view w
      → Allows (Holds same hash fixed) KeepsFor id w op (told same hash w op)
  may_make fixed id w can caught =
      let at = at_point same hash c.seat.now.view can.hasher can.point w can.ahead (caught can.hasher can.point op can.ahead can.makes) in
      let plan = call_plan same same (hash can.hasher) can.point in
      calls_go_on V same hash fixed id w at.map (Key can.point) op at.knows at.works
      (ap op_in (plan_here same hash can.hasher can.point w at plan refl) ∙ op_as as_machine plan ∙ can.makes)

  pub has_gone : (out : Out (Node K V)) (w : View K V S) (n : Ahead K V S) → IsSameAhead c n → IsAnswer op out → CatchesUp same hash c.seat.now.view w
      → told same hash w op out n.seat.now.view → HasGone same hash c op out n
  has_gone out w n seat fits caught told_so = record { seat = seat; fits = fits; came = λ hasher x a m. (w, caught hasher x op a m, told_so) }
