-- A call whose code is ahead of its machine: turns lead to one point that makes an operation, and the seat may take them, or those with which the call ends.
use Rattle.std.specs.Prelude.{Option, None, List}
use Rattle.std.proofs.Common.{◌≡◌, ℕ, Bool, inl, inr, refl, sym, subst, ap, ◌∙◌}
use Rattle.seize_words.specs.OneMemory.Op.{Op}
use Rattle.seize_words.specs.OneMemory.Plan.{Plan, Turn, Do, Now, Seeing, Sure, plan_as}
use Rattle.seize_blocks.specs.Given.SeizeSeatsState.{Turns}
use Rattle.seize_views.specs.Views.Promises.{op_in}
use Rattle.seize_views.specs.declared.view.Fixed.{Fixed}
use Rattle.seize_views.specs.declared.view.SlotView.{SlotView}
use Rattle.map_tables.specs.declared.node.Node.{Node}
use Rattle.papaya_raw.specs.Call.{call_plan}
use Rattle.papaya_raw.specs.Machine.{machine_plan, called as as_machine}
use Rattle.papaya_raw.specs.declared.machines.answer.Called.{Called}
use Rattle.papaya_raw.specs.declared.machines.answer.Called.TheVariants as tells
use Rattle.papaya_raw.specs.declared.machines.answer.KeyAnswer.{KeyAnswer}
use Rattle.papaya_raw.specs.declared.machines.call.KeyCall.{KeyCall}
use Rattle.papaya_raw.specs.declared.machines.machine.Machine.{Machine}
use Rattle.papaya_raw.specs.declared.machines.machine.Machine.TheVariants.{Key, Reserve, Sweep, Count}
use Rattle.papaya_raw.specs.declared.machines.progress.Answer.TheVariants.{Key as OfKey}
use Rattle.papaya_raw.specs.declared.machines.progress.Progress.{Progress}
use Rattle.papaya_raw.specs.declared.machines.progress.Progress.TheVariants as progress
use Rattle.papaya_raw.specs.Progress.{of_called}
use Rattle.seize_words.proofs.General.{same_some}
use Rattle.threads_steps.specs.Given.ViewsLooks.{shown_in, TurnsTo}
use Rattle.threads_steps.specs.Given.ViewsRule.{Holds, KeepsFor, IsBy, Leans, LeansOn, stand_of}
use Rattle.threads_steps.specs.Given.ViewsTold.{call_after, called, newest_progress, turned}
use Rattle.threads_steps.specs.Given.ViewsDeclared.view.Map.{Map}
use Rattle.threads_steps.specs.Given.ViewsDeclared.view.View.{View}
use Rattle.threads_steps.specs.Given.ViewsDeclared.view.SeatWork.TheVariants.{Calls}
use Rattle.threads_steps.proofs.Given.ViewsLaws.{calls_turn}
use Rattle.map_straight.specs.Straight.Going.{CallGoes}
use Rattle.threads_steps.specs.Given.CallKindsKinds.{Kind, Stage, Continues, SaysSo}
use Rattle.threads_steps.proofs.Given.CallKindsAsking.{says}
use Rattle.threads_steps.specs.Given.CallKindsLeads.{Leads}
use Rattle.threads_steps.specs.Given.CallKindsShows.{AnsweredAreVisible}
use Rattle.threads_errands.specs.Ahead.{CatchesUp, StandsAtOneOf, HasEndedSo, IsAhead, IsBehind, here, turns, IsEnding, over, turns_over, LiesAhead, Makes, MakesNext, PassesTo, StandsAt}
use Rattle.threads_steps.specs.Given.ErrandsCalling.{Works}
use Rattle.threads_steps.specs.Given.ErrandsLooking.{IsOfThem, StaysThere}
use Rattle.threads_steps.proofs.Given.ErrandsBeginnings.{stays_on}
use Rattle.threads_steps.proofs.Given.ErrandsRuns.{of_them, told_last}
use Rattle.threads_steps.proofs.Tellings.{turned_so}
use Rattle.threads_errands.proofs.Turning.{turns_as, turns_none, turns_then}

-- where a turn goes on from
abbrev after_turn : {T X P : Type 0} → Plan T (X × P) → X → X
after_turn (Turn (Now end)) x = end.0
after_turn (Turn (Seeing block rest)) x = x
after_turn (Turn (Sure fact rest)) x = x
after_turn (Do op rest) x = x

-- nothing is shown
abbrev none_shown : {T : Type 0} → ℕ → Option T
none_shown b = None

module _ {T : Type 0} where
  -- a call that tells this has not ended, and asks nothing
  abbrev pub IsOnStill : Called T → Type 0
  IsOnStill (tells.Asks pair) = ⊥
  IsOnStill (tells.Done answer) = ⊥
  IsOnStill (tells.Refused fault) = ⊥
  IsOnStill told = Unit {0}

  pub on_still : (told : Called T) → CallGoes told → IsOnStill told
  on_still tells.Goes on = tt
  on_still tells.Waits on = tt
  on_still (tells.Gave value) on = absurd on
  on_still (tells.Unstored value) on = absurd on
  on_still (tells.Asks pair) on = absurd on
  on_still (tells.Done answer) on = absurd on
  on_still (tells.Refused fault) on = absurd on

module _ {K V : Type 0} (same : K → K → Bool) (hashes : K → ℕ) where
  one_turn : (x y z : KeyCall K V K) → PassesTo same hashes x y → PassesTo same hashes x z → y ≡ z
  one_turn x y z t u = ap (λ (p : Plan (Node K V) (KeyCall K V K × Called (Node K V))). after_turn p x) (sym t.2 ∙ u.2)

  no_turn : (x y : KeyCall K V K) (op : Op (Node K V)) → PassesTo same hashes x y → Makes same hashes x op → ⊥
  no_turn x y op t makes = let none : op_in (call_plan same same hashes x) ≡ None = ap op_in t.2 in cc (makes, none)

  -- turns lead to one point that makes an operation
  one_point : (x y z : KeyCall K V K) (op other : Op (Node K V)) → IsBehind same hashes x y → IsBehind same hashes x z → Makes same hashes y op → Makes same hashes z other → y ≡ z
  one_point x y z op other (here _) (here _) m n = refl
  one_point x y z op other (here _) (turns _ b _ t l) m n = absurd (no_turn x b op t m)
  one_point x y z op other (turns _ a _ t l) (here _) m n = absurd (no_turn x a other t n)
  one_point x y z op other (turns _ a _ t l) (turns _ b _ u k) m n =
      one_point a y z op other l (subst (λ (w : KeyCall K V K). IsBehind same hashes w z) (sym (one_turn x a b t u)) k) m n

  pub behind_on : (x y z : KeyCall K V K) → IsBehind same hashes x y → PassesTo same hashes y z → IsBehind same hashes x z
  behind_on x y z (here _) t = turns x z z t (here z)
  behind_on x y z (turns _ a _ u l) t = turns x a z u (behind_on a y z l t)

  -- a step that goes on from a call of a kind goes on from one of the same
  said_on : (k : Kind) (s : Stage) (shown : ℕ → Option (Node K V)) (y : KeyCall K V K) (told : Called (Node K V)) → IsOnStill told → SaysSo k s shown (y, told) → Continues k s y
  said_on k s shown y tells.Goes on is = is
  said_on k s shown y tells.Waits on is = is
  said_on k s shown y (tells.Gave value) on is = is
  said_on k s shown y (tells.Unstored value) on is = is
  said_on k s shown y (tells.Asks pair) on is = absurd on
  said_on k s shown y (tells.Done answer) on is = absurd on
  said_on k s shown y (tells.Refused fault) on is = absurd on

  pub goes_by : (k : Kind) (s : Stage) (shown : ℕ → Option (Node K V)) (x y : KeyCall K V K) (told : Called (Node K V)) → Continues k s x → IsOnStill told
      → Leads shown (call_plan same same hashes x) (y, told) → Continues k s y
  goes_by k s shown x y told goes on leads = said_on k s shown y told on (says k s same same hashes x goes shown (y, told) leads)

  pub goes_past : (k : Kind) (s : Stage) (x y : KeyCall K V K) → Continues k s x → PassesTo same hashes x y → Continues k s y
  goes_past k s x y goes t =
      goes_by k s (none_shown {T = Node K V}) x y t.0 goes (on_still t.0 t.1)
      (subst (λ (p : Plan (Node K V) (KeyCall K V K × Called (Node K V))). Leads (none_shown {T = Node K V}) p (y, t.0)) (sym t.2) refl)

  pub goes_along : (k : Kind) (s : Stage) (x y : KeyCall K V K) → IsBehind same hashes x y → Continues k s x → Continues k s y
  goes_along k s x y (here _) goes = goes
  goes_along k s x y (turns _ a _ t l) goes = goes_along k s a y l (goes_past k s x a goes t)

module _ {K V S : Type 0} where
  -- so it is under way
  pub is_on : (y : KeyCall K V K) (told : Called (Node K V)) → IsOnStill told → call_after {S = S} (Key y) (of_called told) ≡ Calls (Key y)
  is_on y tells.Goes on = refl
  is_on y tells.Waits on = refl
  is_on y (tells.Gave value) on = refl
  is_on y (tells.Unstored value) on = refl
  is_on y (tells.Asks pair) on = absurd on
  is_on y (tells.Done answer) on = absurd on
  is_on y (tells.Refused fault) on = absurd on

  -- and leans on whom it leant on
  pub leans_still : (v w : View K V S) → StaysThere v w → (n : ℕ) → Leans w n → Leans v n
  leans_still v w stays n (inl leans) = inl (subst (λ (u : Option (ℕ × ℕ)). LeansOn u n) (ap (λ (s : (SlotView (Node K V) × Option (ℕ × ℕ)) × Option ℕ). s.0.1) stays.slot) leans)
  leans_still v w stays n (inr leans) = inr (subst (λ (o : Option ℕ). IsBy o n) (ap (λ (s : (SlotView (Node K V) × Option (ℕ × ℕ)) × Option ℕ). s.1) stays.slot) leans)

  pub works_still : (hasher : S) (machine next : Machine K V K) (v w : View K V S) → Works hasher machine v → StaysThere v w → w.work ≡ Calls next → Works hasher next w
  works_still hasher machine next v w at stays works =
      record { map = at.map; knows = stays.map ∙ at.knows; hashes = at.hashes; works = works }

module _ {K V S : Type 0} (same : K → K → Bool) (hash : S → K → ℕ) (hasher : S) where
  -- the plan of its machine is that of its call
  pub plan_here : (x : KeyCall K V K) (v : View K V S) (at : Works hasher (Key x) v) (plan : Plan (Node K V) (KeyCall K V K × Called (Node K V)))
      → call_plan same same (hash hasher) x ≡ plan → machine_plan same same (hash at.map.hasher) (Key x) ≡ plan_as as_machine plan
  plan_here x v at plan is =
      ap (λ (h : S). plan_as as_machine (call_plan same same (hash h) x)) at.hashes ∙ ap (λ (p : Plan (Node K V) (KeyCall K V K × Called (Node K V))). plan_as as_machine p) is

  -- it has taken a turn to there
  turned_to : (x y : KeyCall K V K) (told : Called (Node K V)) (v w : View K V S) (at : Works hasher (Key x) v) → call_plan same same (hash hasher) x ≡ Turn (Now (y, told))
      → turned same hash v w → (w ≡ called v at.map (Key x) (as_machine (y, told)) w.looks) × AnsweredAreVisible (of_called told) (shown_in w.held)
  turned_to x y told v w at is turn =
      let t = turned_so same hash v at.map (Key x) at.knows at.works w turn in
      let one : t.0 ≡ as_machine (y, told) =
      subst (λ (p : Plan (Node K V) (Machine K V K × Progress (Node K V))). TurnsTo (shown_in w.looks) p t.0) (plan_here x v at (Turn (Now (y, told))) is) t.1 in
      let held : w.held ≡ w.looks = ap (λ (u : View K V S). u.held) t.2 in (
        t.2 ∙ ap (λ (e : Machine K V K × Progress (Node K V)). called v at.map (Key x) e w.looks) one,
        subst (λ (e : Machine K V K × Progress (Node K V)). AnsweredAreVisible e.1 (shown_in w.held)) one
            (subst (λ (l : List (ℕ × Node K V)). AnsweredAreVisible t.0.1 (shown_in l)) (sym held) t.5.1),
      )

  -- by one that goes on it stands there then
  passed : (x y : KeyCall K V K) (v w : View K V S) (at : Works hasher (Key x) v) → PassesTo same (hash hasher) x y → turned same hash v w → StandsAt (Key y) v w
  passed x y v w at t turn = let view = (turned_to x y t.0 v w at t.2 turn).0 in record {
    works = ap (λ (u : View K V S). u.work) view ∙ is_on y t.0 (on_still t.0 t.1);
    stays = record { slot = ap (λ (u : View K V S). stand_of u) view; map = ap (λ (u : View K V S). u.map) view };
    calls = of_them v v w (of_called t.0) (λ told. refl) (ap (λ (u : View K V S). u.calls) view);
  }

  stands_since : (machine : Machine K V K) (u v w : View K V S) → StaysThere u v → IsOfThem u v → StandsAt machine v w → StandsAt machine u w
  stands_since machine u v w stays calls is =
      record { works = is.works; stays = stays_on u v w stays is.stays; calls = λ told. is.calls told ∙ calls told }

  module _ (fixed : Fixed) (id : ℕ) where
    may_turn : (x y : KeyCall K V K) (told : Called (Node K V)) (v : View K V S) → Works hasher (Key x) v → call_plan same same (hash hasher) x ≡ Turn (Now (y, told))
        → Turns (Holds same hash fixed) KeepsFor id v (turned same hash v)
    may_turn x y told v at is = calls_turn V same hash fixed id v at.map (Key x) (Now (as_machine (y, told))) at.knows at.works (plan_here x v at (Turn (Now (y, told))) is)

    may_reach : (x y : KeyCall K V K) (v : View K V S) → IsBehind same (hash hasher) x y → Works hasher (Key x) v → Turns (Holds same hash fixed) KeepsFor id v (StandsAt (Key y) v)
    may_reach x y v (here _) at =
        turns_as (Holds same hash fixed) KeepsFor id v (λ w. w ≡ v) (StandsAt (Key x) v)
        (λ w e. record {
          works = ap (λ (u : View K V S). u.work) e ∙ at.works;
          stays = record { slot = ap (λ (u : View K V S). stand_of u) e; map = ap (λ (u : View K V S). u.map) e };
          calls = λ told. ap (λ (u : View K V S). newest_progress told u.calls) e;
        })
        (turns_none (Holds same hash fixed) KeepsFor id v)
    may_reach x y v (turns _ a _ t l) at =
        turns_then (Holds same hash fixed) KeepsFor id v (turned same hash v) (StandsAt (Key y) v) (may_turn x a t.0 v at t.2)
        (λ w turn.
        let p = passed x a v w at t turn in
        turns_as (Holds same hash fixed) KeepsFor id w (StandsAt (Key y) w) (StandsAt (Key y) v) (λ u s. stands_since (Key y) v w u p.stays p.calls s)
        (may_reach a y w l (works_still hasher (Key x) (Key a) v w at p.stays p.works)))

module _ {K V S : Type 0} (same : K → K → Bool) (hash : S → K → ℕ) (v : View K V S) where
  -- there is one point ahead of what the seat knows that makes an operation
  one_ahead : (hasher other : S) (x z : KeyCall K V K) (op by : Op (Node K V)) → IsAhead same hash hasher x v → IsAhead same hash other z v
      → Makes same (hash hasher) x op → Makes same (hash other) z by → x ≡ z
  one_ahead hasher other x z op by a b m n =
      let maps : a.at.map ≡ b.at.map = same_some a.at.map b.at.map (sym a.at.knows ∙ b.at.knows) in
      let hashers : other ≡ hasher = sym b.at.hashes ∙ ap (λ (k : Map S). k.hasher) (sym maps) ∙ a.at.hashes in
      let works = sym b.at.works ∙ a.at.works in
      let from : b.behind ≡ a.behind = cc works in
      one_point same (hash hasher) a.behind x z op by a.leads
      (subst (λ (y : KeyCall K V K). IsBehind same (hash hasher) y z) from (subst (λ (h : S). IsBehind same (hash h) b.behind z) hashers b.leads)) m
      (subst (λ (h : S). Makes same (hash h) z by) hashers n)

  -- where turns lead to a point, and one more to the next, they lead to that
  pub ahead_on : (hasher : S) (x y : KeyCall K V K) → IsAhead same hash hasher x v → PassesTo same (hash hasher) x y → IsAhead same hash hasher y v
  ahead_on hasher x y a t = record {
    kind = a.kind;
    stage = a.stage;
    none = a.none;
    behind = a.behind;
    at = a.at;
    goes = a.goes;
    leads = behind_on same (hash hasher) a.behind x y a.leads t;
  }

  -- who stands there knows that of its call
  pub at_point : (hasher : S) (x : KeyCall K V K) (w : View K V S) → IsAhead same hash hasher x v → StandsAt (Key x) v w → Works hasher (Key x) w
  at_point hasher x w a s = works_still hasher (Key a.behind) (Key x) v w a.at s.stays s.works

  module _ (fixed : Fixed) (id : ℕ) where
    pub may_catch_up : MakesNext same hash v → Turns (Holds same hash fixed) KeepsFor id v (CatchesUp same hash v)
    may_catch_up (hasher, x, op, a, m) =
        turns_as (Holds same hash fixed) KeepsFor id v (StandsAt (Key x) v) (CatchesUp same hash v)
        (λ w s other z by b n. subst (λ (p : KeyCall K V K). StandsAt (Key p) v w) (one_ahead hasher other x z op by a b m n) s)
        (may_reach same hash hasher fixed id a.behind x v a.leads a.at)

    pub may_stand : (points : Machine K V K → Type 0) (hasher : S) (machine : Machine K V K) → points machine → LiesAhead same hash hasher machine v
        → Turns (Holds same hash fixed) KeepsFor id v (StandsAtOneOf points v)
    may_stand points hasher (Key x) is a =
        turns_as (Holds same hash fixed) KeepsFor id v (StandsAt (Key x) v) (StandsAtOneOf points v) (λ w s. (Key x, is, s)) (may_reach same hash hasher fixed id a.behind x v a.leads a.at)
    may_stand points hasher (Reserve r) is a = absurd a
    may_stand points hasher (Sweep r) is a = absurd a
    may_stand points hasher (Count r) is a = absurd a

    -- a turn that ends its call does
    ended_by : (hasher : S) (x y : KeyCall K V K) (answer : KeyAnswer) (w u : View K V S) (at : Works hasher (Key x) w) → StandsAt (Key x) v w
        → call_plan same same (hash hasher) x ≡ Turn (Now (y, tells.Done answer)) → turned same hash w u → HasEndedSo answer v u
    ended_by hasher x y answer w u at s is turn = let to = turned_to same hash hasher x y (tells.Done answer) w u at is turn in let view = to.0 in record {
      ended = record {
        free = ap (λ (z : View K V S). z.work) view;
        told = told_last v w u (progress.Done (OfKey answer)) s.calls (ap (λ (z : View K V S). z.calls) view);
        shows = to.1;
      };
      stays =
          stays_on v w u s.stays (record { slot = ap (λ (z : View K V S). stand_of z) view; map = ap (λ (z : View K V S). z.map) view });
    }

    pub may_end : (answer : KeyAnswer) → IsEnding same hash answer v → Turns (Holds same hash fixed) KeepsFor id v (HasEndedSo answer v)
    may_end answer (over e) =
        turns_as (Holds same hash fixed) KeepsFor id v (λ w. w ≡ v) (HasEndedSo answer v) (λ w same_view. subst (λ (u : View K V S). HasEndedSo answer v u) (sym same_view) e)
        (turns_none (Holds same hash fixed) KeepsFor id v)
    may_end answer (turns_over hasher x y a is) =
        turns_then (Holds same hash fixed) KeepsFor id v (StandsAt (Key x) v) (HasEndedSo answer v) (may_reach same hash hasher fixed id a.behind x v a.leads a.at)
        (λ w s.
        let at = at_point hasher x w a s in
        turns_as (Holds same hash fixed) KeepsFor id w (turned same hash w) (HasEndedSo answer v) (λ u turn. ended_by hasher x y answer w u at s is turn)
        (may_turn same hash hasher fixed id x y (tells.Done answer) w at is))
