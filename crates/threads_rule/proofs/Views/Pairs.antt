-- Which pair a call was begun with stays as it was begun, and it is the one that a step hands back.
use Rattle.std.specs.Prelude.{Option, Some, None, Result, Ok, Err}
use Rattle.std.proofs.Common.{◌≡◌, ℕ, Bool, List, [], ◌∷◌, inl, inr, refl, sym, subst, ap, ◌∙◌}
use Rattle.seize_words.specs.OneMemory.Mem.{Mem}
use Rattle.seize.specs.declared.advance.Advance.{Advance as Counting}
use Rattle.seize.specs.declared.advance.Advance.TheVariants as counting
use Rattle.map_tables.specs.declared.node.Node.{Node}
use Rattle.map_machines.specs.declared.sum.Sum.{Sum}
use Rattle.map_machines.specs.declared.yielding.Yielding.{Yielding}
use Rattle.map_machines.specs.declared.yielding.Yielding.TheVariants as outcome
use Rattle.papaya_raw.specs.CallAsks.{replied}
use Rattle.papaya_raw.specs.Progress.{of_called, of_outcome, of_swept, of_counting}
use Rattle.papaya_raw.specs.Given.ReservesDeclared.sweep.Swept.{Swept}
use Rattle.papaya_raw.specs.Given.ReservesDeclared.sweep.Swept.TheVariants as swept
use Rattle.papaya_raw.specs.declared.machines.answer.Called.{Called}
use Rattle.papaya_raw.specs.declared.machines.answer.Called.TheVariants as tells
use Rattle.papaya_raw.specs.declared.machines.asking.MachineReply.{MachineReply}
use Rattle.papaya_raw.specs.declared.machines.machine.Machine.{Machine}
use Rattle.papaya_raw.specs.declared.machines.progress.Progress.{Progress}
use Rattle.many_acts.specs.Acts.Acts.{Wanted, Get, begun}
use Rattle.many_acts.specs.Given.ScenesScene.{Scene, slot_of}
use Rattle.many_acts.specs.Given.CallersPairs.{Given, Begun, IsTold, with_reply, HandsBack as HandsGiven}
use Rattle.many_acts.specs.Given.CallersTogether.{CallOnKey, UnderWay, OnKey, ForRoom, Counting as Counts, OverAll, next_of, next_for_room, next_of_counting, next_over_all}
use Rattle.many_acts.specs.Given.CallersOverAll.{CallOverAll}
use Rattle.many_acts.specs.Given.CallersRooms.{CallForRoom}
use Rattle.many_acts.specs.Given.FinishesMachines.{machine_of, DidOfKind, MachineStepsWithEndings, RepliedOfKind}
use Rattle.many_acts.specs.Given.FinishesMaps.{Standing}
use Rattle.threads_rule.specs.Views.Rule.{given_pair, pair_of}
use Rattle.threads_rule.specs.Views.Told.{HandsBack, begun_with, newest_progress, pair_in}
use Rattle.threads_rule.specs.declared.view.BegunCall.{BegunCall}
use Rattle.seize_words.proofs.General.{same_some}

module _ {K V : Type 0} where
  -- a call is under way with the pair with which it has begun
  pub begun_pair : (same : K → K → Bool) (slot : ℕ → ℕ) (s : Standing K) (i : ℕ) (wanted : Wanted K V) → pair_of (begun same slot s i wanted) ≡ begun_with (machine_of (begun same slot s i wanted))
  begun_pair same slot s i (Get key) = refl
  begun_pair same slot s i _ = refl

  pub newest_pair : (told : Progress (Node K V)) (runs : List (BegunCall K V)) → pair_in (newest_progress told runs) ≡ pair_in runs
  newest_pair told [] = refl
  newest_pair told (run ∷ before) = refl

  -- what it is told changes nothing of that,
  told_given : (given : Given K V) (about : Option ℕ) (told : MachineReply V) (taken : Result Unit (MachineReply V)) → given_pair (with_reply given about told taken) ≡ given_pair given
  told_given (Begun kind pair) about told taken = refl
  told_given (IsTold kind its asked) about told (Ok u) = refl
  told_given (IsTold kind its asked) about told (Err back) = refl

  pub told_pair : (same : K → K → Bool) (batch_size roots : ℕ) (slot : ℕ → ℕ) (s : Standing K) (i : ℕ) (u : UnderWay K V K) (told : MachineReply V) (next : UnderWay K V K)
      → RepliedOfKind V same same batch_size roots slot s i u told next → pair_of next ≡ pair_of u
  told_pair same batch_size roots slot s i (OnKey u) told next (inl (asks_at, about, at, asks, is)) = ap pair_of is ∙ told_given u.pair about told (replied u.call told).1
  told_pair same batch_size roots slot s i (OnKey u) told next (inr is) = ap pair_of is
  told_pair same batch_size roots slot s i (ForRoom r) told next is = ap pair_of is
  told_pair same batch_size roots slot s i (Counts sum) told next is = ap pair_of is
  told_pair same batch_size roots slot s i (OverAll o) told next (inl (word, n, at, names, inl is)) = ap pair_of is.1
  told_pair same batch_size roots slot s i (OverAll o) told next (inl (word, n, at, names, inr is)) = ap pair_of is.1
  told_pair same batch_size roots slot s i (OverAll o) told next (inr is) = ap pair_of is

  -- nor does a step, after which it goes on
  key_next : (u : CallOnKey K V K) (end : Called (Node K V)) (next : UnderWay K V K) → next_of u end ≡ Some next → pair_of next ≡ given_pair u.pair
  key_next u tells.Goes next is = ap pair_of (sym (same_some (OnKey u) next is))
  key_next u tells.Waits next is = ap pair_of (sym (same_some (OnKey u) next is))
  key_next u (tells.Gave value) next is = ap pair_of (sym (same_some (OnKey u) next is))
  key_next u (tells.Unstored value) next is = ap pair_of (sym (same_some (OnKey u) next is))
  key_next u (tells.Asks pair) next is = ap pair_of (sym (same_some (OnKey u) next is))
  key_next u (tells.Done answer) next is = absurd (cc is)
  key_next u (tells.Refused fault) next is = absurd (cc is)

  room_next : (r : CallForRoom) (end : Yielding (Node K V) Unit) (next : UnderWay K V K) → next_for_room r end ≡ Some next → pair_of next ≡ None
  room_next r outcome.Goes next is = ap pair_of (sym (same_some (ForRoom r) next is))
  room_next r outcome.Waits next is = ap pair_of (sym (same_some (ForRoom r) next is))
  room_next r (outcome.Gave value) next is = ap pair_of (sym (same_some (ForRoom r) next is))
  room_next r (outcome.Done end) next is = absurd (cc is)
  room_next r (outcome.Refused fault) next is = absurd (cc is)

  counting_next : (sum : Sum) (end : Counting ℕ) (next : UnderWay K V K) → next_of_counting sum end ≡ Some next → pair_of next ≡ None
  counting_next sum counting.Goes next is = ap pair_of (sym (same_some (Counts sum) next is))
  counting_next sum counting.Waits next is = ap pair_of (sym (same_some (Counts sum) next is))
  counting_next sum (counting.Done count) next is = absurd (cc is)
  counting_next sum (counting.Refused fault) next is = absurd (cc is)

  over_next : (o : CallOverAll) (end : Swept (Node K V)) (next : UnderWay K V K) → next_over_all o end ≡ Some next → pair_of next ≡ None
  over_next o swept.Goes next is = ap pair_of (sym (same_some (OverAll o) next is))
  over_next o swept.Waits next is = ap pair_of (sym (same_some (OverAll o) next is))
  over_next o (swept.Gave value) next is = ap pair_of (sym (same_some (OverAll o) next is))
  over_next o swept.Ready next is = ap pair_of (sym (same_some (OverAll o) next is))
  over_next o (swept.Pair pair) next is = ap pair_of (sym (same_some (OverAll o) next is))
  over_next o (swept.Asks pair) next is = ap pair_of (sym (same_some (OverAll o) next is))
  over_next o swept.Done next is = absurd (cc is)
  over_next o (swept.Refused fault) next is = absurd (cc is)

  -- what a call on one key hands back
  key_hands : (given : Given K V) (runs : List (BegunCall K V)) → given_pair given ≡ pair_in runs → (end : Called (Node K V))
      → ((value : Node K V) → end ≡ tells.Unstored value → HandsGiven given value) → HandsBack runs (of_called end)
  key_hands given runs is tells.Goes hands = tt
  key_hands given runs is tells.Waits hands = tt
  key_hands given runs is (tells.Gave value) hands = tt
  key_hands given runs is (tells.Asks pair) hands = tt
  key_hands given runs is (tells.Done answer) hands = tt
  key_hands given runs is (tells.Refused fault) hands = tt
  key_hands given runs is (tells.Unstored value) hands = λ pair has. by given is (hands value refl) pair has
    where
      by : (given : Given K V) → given_pair given ≡ pair_in runs → HandsGiven given value → (pair : Node K V) → pair_in runs ≡ Some pair → value ≡ pair
      by (Begun kind its) is it pair has = same_some value pair (sym it ∙ is ∙ has)
      by (IsTold kind its asked) is it pair has = absurd (cc (is, has))

  room_hands : (runs : List (BegunCall K V)) (end : Yielding (Node K V) Unit) → HandsBack runs (of_outcome end)
  room_hands runs outcome.Goes = tt
  room_hands runs outcome.Waits = tt
  room_hands runs (outcome.Gave value) = tt
  room_hands runs (outcome.Done end) = tt
  room_hands runs (outcome.Refused fault) = tt

  counting_hands : (runs : List (BegunCall K V)) (end : Counting ℕ) → HandsBack runs (of_counting end)
  counting_hands runs counting.Goes = tt
  counting_hands runs counting.Waits = tt
  counting_hands runs (counting.Done count) = tt
  counting_hands runs (counting.Refused fault) = tt

  over_hands : (runs : List (BegunCall K V)) (end : Swept (Node K V)) → HandsBack runs (of_swept end)
  over_hands runs swept.Goes = tt
  over_hands runs swept.Waits = tt
  over_hands runs (swept.Gave value) = tt
  over_hands runs swept.Ready = tt
  over_hands runs (swept.Pair pair) = tt
  over_hands runs (swept.Asks pair) = tt
  over_hands runs swept.Done = tt
  over_hands runs (swept.Refused fault) = tt

module _ {K V : Type 0} (same : K → K → Bool) (batch_size roots : ℕ) (s : Scene K V) (m : ℕ) (it : Standing K) (i : ℕ) (u : UnderWay K V K) (m2 : Mem (Node K V)) (machine : Machine K V K)
    (told : Progress (Node K V)) (did : MachineStepsWithEndings V same same batch_size roots slot_of s.world s.maps s.calls s.makers s.enders m it i m2 u machine told) where
  abbrev Did : UnderWay K V K → Type 0
  Did u = DidOfKind V same same batch_size roots slot_of s.world s.maps s.calls s.makers s.enders m it i m2 did.w2 did.maps2 did.next u machine told

  pub step_pair : (next : UnderWay K V K) → did.next ≡ Some next → pair_of next ≡ pair_of u
  step_pair next is = by u did.did
    where
      by : (u : UnderWay K V K) → Did u → pair_of next ≡ pair_of u
      by (OnKey c) (p2, end, e, f, inl (to, moved)) = key_next _ end next (sym moved.2 ∙ is)
      by (OnKey c) (p2, end, e, f, inr (to, stayed)) = key_next _ end next (sym stayed.2 ∙ is)
      by (ForRoom c) (p2, end, e, f, inl (to, moved)) = room_next _ end next (sym moved.2 ∙ is)
      by (ForRoom c) (p2, end, e, f, inr (to, stayed)) = room_next _ end next (sym stayed.2 ∙ is)
      by (Counts c) (sum2, end, e, f, g, stayed) = counting_next sum2 end next (sym stayed.2 ∙ is)
      by (OverAll c) (p2, end, e, f, inl (to, moved)) = over_next _ end next (sym moved.2 ∙ is)
      by (OverAll c) (p2, end, e, f, inr (to, stayed)) = over_next _ end next (sym stayed.2 ∙ is)

  pub step_hands : (runs : List (BegunCall K V)) → pair_of u ≡ pair_in runs → HandsBack runs told
  step_hands runs = by u did.did
    where
      told_so : (so : Progress (Node K V)) → told ≡ so → HandsBack runs so → HandsBack runs told
      told_so so is hands = subst (λ (t : Progress (Node K V)). HandsBack runs t) (sym is) hands

      by : (u : UnderWay K V K) → Did u → pair_of u ≡ pair_in runs → HandsBack runs told
      by (OnKey c) (p2, end, e, f, inl (to, moved)) is = told_so (of_called end) f (key_hands c.pair runs is end to.step.hands)
      by (OnKey c) (p2, end, e, f, inr (to, stayed)) is = told_so (of_called end) f (key_hands c.pair runs is end to.step.hands)
      by (ForRoom c) (p2, end, e, f, did) is = told_so (of_outcome end) f (room_hands runs end)
      by (Counts c) (sum2, end, e, f, g, did) is = told_so (of_counting end) f (counting_hands runs end)
      by (OverAll c) (p2, end, e, f, did) is = told_so (of_swept end) f (over_hands runs end)
