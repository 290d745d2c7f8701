-- Code that makes the operations of a call without being its machine. It is ahead of the machine that the seat knows: steps that make no operation lead from that
-- one to the point where the code stands.
use Rattle.std.specs.Prelude.{◌≡◌, ℕ, Bool, Option, Some, Ok}
use Rattle.seize_words.specs.OneMemory.Op.{Op, Out}
use Rattle.seize_words.specs.OneMemory.Plan.{Turn, Now}
use Rattle.seize_views.specs.Views.Promises.{op_in}
use Rattle.map_tables.specs.declared.node.Node.{Node}
use Rattle.papaya_raw.specs.Call.{call_plan}
use Rattle.papaya_raw.specs.declared.machines.answer.Called.{Called}
use Rattle.papaya_raw.specs.declared.machines.answer.Called.TheVariants as called
use Rattle.papaya_raw.specs.declared.machines.answer.KeyAnswer.{KeyAnswer}
use Rattle.papaya_raw.specs.declared.machines.call.KeyCall.{KeyCall}
use Rattle.papaya_raw.specs.declared.machines.machine.Machine.{Machine}
use Rattle.papaya_raw.specs.declared.machines.machine.Machine.TheVariants.{Key}
use Rattle.papaya_raw.specs.declared.machines.progress.Answer.TheVariants.{Key as OfKey}
use Rattle.threads_steps.specs.Given.ViewsLooks.{shown_in}
use Rattle.threads_steps.specs.Given.ViewsTold.{told}
use Rattle.threads_steps.specs.Given.ViewsDeclared.view.View.{View}
use Rattle.threads_steps.specs.Given.ViewsDeclared.view.SeatWork.TheVariants.{Calls}
use Rattle.map_straight.specs.Straight.Going.{CallGoes}
use Rattle.threads_steps.specs.Given.CallKindsAnswers.{IsAnswer}
use Rattle.threads_steps.specs.Given.CallKindsKinds.{Kind, Stage, Continues}
use Rattle.threads_steps.specs.Given.SeizeCallersKept.{kept}
use Rattle.threads_steps.specs.Given.ErrandsCalling.{AsksNothing, HasEnded, Works}
use Rattle.threads_steps.specs.Given.ErrandsLooking.{IsOfThem, StaysThere}
use Rattle.threads_errands.specs.declared.ahead.Ahead.{Ahead}

module _ {K V : Type 0} (same : K → K → Bool) (hashes : K → ℕ) where
  -- the step at the one point makes no operation, and goes on from the other
  abbrev pub PassesTo : KeyCall K V K → KeyCall K V K → Type 0
  PassesTo x y = (told : Called (Node K V)) × CallGoes told × (call_plan same same hashes x ≡ Turn (Now (y, told)))

  pub data IsBehind : KeyCall K V K → KeyCall K V K → Type 0 where
    here : (x : KeyCall K V K) → IsBehind x x
    turns : (x y z : KeyCall K V K) → PassesTo x y → IsBehind y z → IsBehind x z

  -- the step at it makes this operation
  abbrev pub Makes : KeyCall K V K → Op (Node K V) → Type 0
  Makes x op = op_in (call_plan same same hashes x) ≡ Some op

module _ {K V S : Type 0} (same : K → K → Bool) (hash : S → K → ℕ) where
  -- a call is under way that asks nothing, and turns lead from where it stands to this point
  pub record IsAhead (hasher : S) (x : KeyCall K V K) (v : View K V S) : Type 0 where
    pub kind : Kind
    pub stage : Stage
    pub none : AsksNothing kind
    pub behind : KeyCall K V K
    pub at : Works hasher (Key behind) v
    pub goes : Continues kind stage behind
    pub leads : IsBehind same (hash hasher) behind x

  abbrev pub LiesAhead : S → Machine K V K → View K V S → Type 0
  LiesAhead hasher (Key x) v = IsAhead hasher x v
  LiesAhead hasher _ v = ⊥

  -- there it makes an operation
  abbrev pub MakesNext : View K V S → Type 0
  MakesNext v = (hasher : S) × (x : KeyCall K V K) × (op : Op (Node K V)) × IsAhead hasher x v × Makes same (hash hasher) x op

module _ {K V S : Type 0} where
  -- its call stands there now; all else is as it was
  pub record StandsAt (machine : Machine K V K) (v w : View K V S) : Type 0 where
    pub works : w.work ≡ Calls machine
    pub stays : StaysThere v w
    pub calls : IsOfThem v w

  -- so it is of one of these
  abbrev pub StandsAtOneOf : (Machine K V K → Type 0) → View K V S → View K V S → Type 0
  StandsAtOneOf points v w = (machine : Machine K V K) × points machine × StandsAt machine v w

  -- its call has ended, with this answer
  pub record HasEndedSo (answer : KeyAnswer) (v w : View K V S) : Type 0 where
    pub ended : HasEnded (Ok (OfKey answer)) v w
    pub stays : StaysThere v w

module _ {K V S : Type 0} (same : K → K → Bool) (hash : S → K → ℕ) where
  -- it has taken the turns up to the next operation
  abbrev pub CatchesUp : View K V S → View K V S → Type 0
  CatchesUp v w = (hasher : S) (x : KeyCall K V K) (op : Op (Node K V)) → IsAhead same hash hasher x v → Makes same (hash hasher) x op → StandsAt (Key x) v w

  -- its call has ended with this answer, or a turn ends it so to which turns lead
  pub data IsEnding (answer : KeyAnswer) (v : View K V S) : Type 0 where
    over : HasEndedSo answer v v → IsEnding answer v
    turns_over : (hasher : S) (x y : KeyCall K V K) → IsAhead same hash hasher x v → call_plan same same (hash hasher) x ≡ Turn (Now (y, called.Done answer)) → IsEnding answer v

module _ {K V S : Type 0} where
  abbrev pub shown_ahead : Ahead K V S → ℕ → Option (Node K V)
  shown_ahead c b = shown_in c.seat.now.view.held b

  abbrev pub IsSameAhead : Ahead K V S → Ahead K V S → Type 0
  IsSameAhead c n = kept n.blocks n.seat.ghost_name n.seat.now.id n.seat.now.away ≡ kept c.blocks c.seat.ghost_name c.seat.now.id c.seat.now.away

module _ {K V S : Type 0} (same : K → K → Bool) (hash : S → K → ℕ) where
  -- it is the next operation of its call,
  pub record CanGo (c : Ahead K V S) (op : Op (Node K V)) : Type 0 where
    pub hasher : S
    pub point : KeyCall K V K
    pub ahead : IsAhead same hash hasher point c.seat.now.view
    pub makes : Makes same (hash hasher) point op

  -- and its seat knows what it told, once it had taken the turns up to that
  pub record HasGone (c : Ahead K V S) (op : Op (Node K V)) (out : Out (Node K V)) (n : Ahead K V S) : Type 0 where
    pub seat : IsSameAhead c n
    pub fits : IsAnswer op out
    pub came : (hasher : S) (x : KeyCall K V K) → IsAhead same hash hasher x c.seat.now.view → Makes same (hash hasher) x op
        → (w : View K V S) × StandsAt (Key x) c.seat.now.view w × told same hash w op out n.seat.now.view
