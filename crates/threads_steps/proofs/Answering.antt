-- A call that stores what is made where its key is missing is of its kind as long as it goes on, and answers with a pair that is in the map then.
use Rattle.std.specs.Prelude.{zero, suc, List, [], ◌∷◌, Option, Some, None, IsSome, Ok}
use Rattle.std.proofs.Common.{◌⊎◌, ℕ, Bool, inl, inr, refl, sym, subst}
use Rattle.seize_words.specs.OneMemory.Op.{Op, Out}
use Rattle.seize_words.specs.OneMemory.Mem.{Took, value_at}
use Rattle.map_tables.specs.declared.node.Node.{Node}
use Rattle.owner_calls.proofs.Given.LateKindsKept.Calls.Kept.{asking_kinds_begin}
use Rattle.owner_calls.proofs.Given.LateKindsKept.Laws.{calls_keep_their_kind, replies_keep_the_kind}
use Rattle.owner_calls.specs.Given.LateKinds.{IsFit, OutcomeFits}
use Rattle.papaya_raw.specs.Call.{call_plan}
use Rattle.papaya_raw.specs.Machine.{machine_plan, called as as_machine}
use Rattle.papaya_raw.specs.Progress.{of_called}
use Rattle.papaya_raw.specs.declared.machines.answer.Called.{Called}
use Rattle.papaya_raw.specs.declared.machines.answer.Called.TheVariants as tells
use Rattle.papaya_raw.specs.declared.machines.answer.KeyAnswer.TheVariants as answers
use Rattle.papaya_raw.specs.declared.machines.answer.Missing.TheVariants as missing
use Rattle.papaya_raw.specs.declared.machines.answer.There.TheVariants as there
use Rattle.papaya_raw.specs.declared.machines.asking.MachineReply.{MachineReply}
use Rattle.papaya_raw.specs.declared.machines.asking.Takes.TheVariants as takes
use Rattle.papaya_raw.specs.declared.machines.asking.Told.TheVariants as was_told
use Rattle.papaya_raw.specs.declared.machines.call.KeyCall.{KeyCall}
use Rattle.papaya_raw.specs.declared.machines.machine.Machine.{Machine}
use Rattle.papaya_raw.specs.declared.machines.machine.Machine.TheVariants as kinds
use Rattle.papaya_raw.specs.declared.machines.progress.Answer.{Answer}
use Rattle.papaya_raw.specs.declared.machines.progress.Progress.{Progress}
use Rattle.threads_rule.specs.Errands.Calling.{outcome_of, pair_there}
use Rattle.threads_rule.specs.Errands.Looking.{Begins, HasRun}
use Rattle.threads_rule.specs.Given.ActsActs.{TryToInsertWith}
use Rattle.threads_rule.specs.Views.Begun.{replied}
use Rattle.threads_rule.specs.Views.Told.{MayCome, call_after, called, newest_progress, observed_by, turned_by}
use Rattle.threads_rule.specs.declared.view.BegunCall.{BegunCall}
use Rattle.threads_rule.specs.declared.view.Map.{Map}
use Rattle.threads_rule.specs.declared.view.SeatWork.{SeatWork}
use Rattle.threads_rule.specs.declared.view.SeatWork.TheVariants.{Nothing, Calls, Makes, Ends}
use Rattle.threads_rule.specs.declared.view.View.{View}
use Rattle.threads_steps.specs.Asking.{HasAsked, HasGone, WasReplied}
use Rattle.threads_steps.specs.Steps.{HasStepped}
use Rattle.threads_steps.proofs.Handing.{TellsOne, steps_as}

module _ {K V : Type 0} where
  -- a call that makes its value
  abbrev IsMaking : KeyCall K V K → Type 0
  IsMaking c = IsFit there.Answers missing.Asks takes.Values c

  tells_one : (told : Called (Node K V)) → OutcomeFits there.Answers missing.Asks takes.Values told → TellsOne (of_called told)
  tells_one tells.Goes fits = tt
  tells_one tells.Waits fits = tt
  tells_one (tells.Gave value) fits = tt
  tells_one (tells.Unstored value) fits = tt
  tells_one (tells.Asks pair) fits = tt
  tells_one (tells.Refused fault) fits = tt
  tells_one (tells.Done (answers.Found word)) fits = refl
  tells_one (tells.Done (answers.Stored word)) fits = refl
  tells_one (tells.Done (answers.Replaced old new)) fits = refl
  tells_one (tells.Done (answers.Removed word)) (inl is) = absurd (cc is)
  tells_one (tells.Done (answers.Removed word)) (inr is) = let asks = is.0 in absurd (cc asks)
  tells_one (tells.Done answers.Absent) (inl is) = absurd (cc is)
  tells_one (tells.Done answers.Absent) (inr is) = let changes = is.1 in absurd (cc changes)

  -- the newest call has told so
  abbrev Newest : List (BegunCall K V) → Type 0
  Newest [] = Unit {0}
  Newest (run ∷ before) = TellsOne run.told

  newest_then : (told : Progress (Node K V)) (runs : List (BegunCall K V)) → TellsOne told → Newest (newest_progress told runs)
  newest_then told [] is = tt
  newest_then told (run ∷ before) is = is

module _ {K V S : Type 0} where
  -- what is under way is such a call, or nothing
  abbrev OfKind : SeatWork K V S → Type 0
  OfKind Nothing = Unit {0}
  OfKind (Calls (kinds.Key c)) = IsMaking c
  OfKind (Calls machine) = ⊥
  OfKind (Makes own m hasher opening) = ⊥
  OfKind (Ends machine) = ⊥

  pub record Making (v : View K V S) : Type 0 where
    pub of : OfKind v.work
    pub newest : Newest v.calls

  after : (v : View K V S) (c : KeyCall K V K) (told : Called (Node K V)) → IsMaking c → OfKind (call_after (kinds.Key c) (of_called told))
  after v c tells.Goes is = is
  after v c tells.Waits is = is
  after v c (tells.Gave value) is = is
  after v c (tells.Unstored value) is = is
  after v c (tells.Asks pair) is = is
  after v c (tells.Done answer) is = tt
  after v c (tells.Refused fault) is = tt

  module _ (same : K → K → Bool) (hash : S → K → ℕ) where
    -- its step leaves one, or ends it with such an answer
    came : (v : View K V S) (map : Map S) (c : KeyCall K V K) (end : Machine K V K × Progress (Node K V)) (looks : List (ℕ × Node K V))
        → MayCome (machine_plan same same (hash map.hasher) (kinds.Key c)) end → IsMaking c → Making (called v map (kinds.Key c) end looks)
    came v map c end looks (m, n, s) is =
        let k = steps_as as_machine Took value_at m n (call_plan same same (hash map.hasher) c) end s in
        let fits = calls_keep_their_kind same same (hash map.hasher) there.Answers missing.Asks takes.Values c is m n k.0 k.1 in
        subst (λ (e : Machine K V K × Progress (Node K V)). Making (called v map (kinds.Key c) e looks)) (sym k.2)
        (record { of = after v k.0.0 k.0.1 fits.0; newest = newest_then (of_called k.0.1) v.calls (tells_one k.0.1 fits.1) })

    by_step : (v : View K V S) (map : Option (Map S)) (work : SeatWork K V S) (op : Op (Node K V)) (out : Out (Node K V)) (w : View K V S) → OfKind work → Newest v.calls
        → observed_by same hash v map work op out w → Making w
    by_step v None Nothing op out w of newest is = subst Making (sym is.2) (record { of = tt; newest = newest })
    by_step v (Some map) Nothing op out w of newest is = subst Making (sym is.2) (record { of = tt; newest = newest })
    by_step v None (Calls machine) op out w of newest is = absurd is
    by_step v (Some map) (Calls (kinds.Key c)) op out w of newest is = subst Making (sym is.2) (came v map c is.0 w.looks is.4 of)
    by_step v (Some map) (Calls (kinds.Reserve r)) op out w of newest is = absurd of
    by_step v (Some map) (Calls (kinds.Sweep r)) op out w of newest is = absurd of
    by_step v (Some map) (Calls (kinds.Count r)) op out w of newest is = absurd of
    by_step v None (Makes own m hasher opening) op out w of newest is = absurd of
    by_step v (Some map) (Makes own m hasher opening) op out w of newest is = absurd of
    by_step v None (Ends machine) op out w of newest is = absurd of
    by_step v (Some map) (Ends machine) op out w of newest is = absurd of

    by_turn : (v : View K V S) (map : Option (Map S)) (work : SeatWork K V S) (w : View K V S) → OfKind work → turned_by same hash v map work w → Making w
    by_turn v None Nothing w of is = absurd is
    by_turn v (Some map) Nothing w of is = absurd is
    by_turn v None (Calls machine) w of is = absurd is
    by_turn v (Some map) (Calls (kinds.Key c)) w of is = subst Making (sym is.2) (came v map c is.0 w.looks is.3 of)
    by_turn v (Some map) (Calls (kinds.Reserve r)) w of is = absurd of
    by_turn v (Some map) (Calls (kinds.Sweep r)) w of is = absurd of
    by_turn v (Some map) (Calls (kinds.Count r)) w of is = absurd of
    by_turn v None (Makes own m hasher opening) w of is = absurd of
    by_turn v (Some map) (Makes own m hasher opening) w of is = absurd of
    by_turn v None (Ends machine) w of is = absurd of
    by_turn v (Some map) (Ends machine) w of is = absurd of

    -- so it is where it was told something
    told_so : (v : View K V S) (machine : Machine K V K) (told : MachineReply V) → OfKind (Calls machine) → Newest v.calls → Making (replied v machine told)
    told_so v (kinds.Key c) told of newest = record { of = replies_keep_the_kind there.Answers missing.Asks takes.Values c of told; newest = newest }
    told_so v (kinds.Reserve r) told of newest = absurd of
    told_so v (kinds.Sweep r) told of newest = absurd of
    told_so v (kinds.Count r) told of newest = absurd of

    module _ (says : Option (K × V) → MachineReply V → Type 0) where
      by_one : (v w : View K V S) → Making v → HasStepped same hash v w ⊎ WasReplied says v w → Making w
      by_one v w is (inl (inl step)) = by_step v v.map v.work step.0 step.1 w is.of is.newest step.2
      by_one v w is (inl (inr turn)) = by_turn v v.map v.work w is.of turn
      by_one v w is (inr was) = subst Making (sym was.6) (told_so v was.0 was.2 (subst OfKind was.3 is.of) is.newest)

      by_all : (n : ℕ) (v w : View K V S) → Making v → HasGone same hash says n v w → Making w
      by_all zero v w is gone = subst Making (sym gone) is
      by_all (suc n) v w is gone = by_one gone.0 w (by_all n v gone.0 is gone.1) gone.2

      begins_so : (key : K) (v w : View K V S) → Begins same hash (TryToInsertWith key) v w → Making w
      begins_so key v w is =
          subst Making (sym is.4) (record { of = (asking_kinds_begin K V K (record is.0.setting { slot = is.1 }) (hash is.0.hasher key) key key was_told.Nothing).3; newest = tt })

      -- it answers with a pair that is in the map
      pub answers_one : (key : K) (answer : Answer) (v w : View K V S) → HasAsked same hash says (TryToInsertWith key) v w → HasRun same hash (TryToInsertWith key) (outcome_of (Ok answer)) v w
          → IsSome (pair_there answer)
      answers_one key answer v w asked ran = subst Newest ran.4 (by_all asked.1 asked.0 w (begins_so key v asked.0 asked.2) asked.3).newest
