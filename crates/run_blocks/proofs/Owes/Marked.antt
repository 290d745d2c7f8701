-- Between the steps of calls: what is so of the machine of each call that has some mark stays so, where the mark is one that replies and outcomes leave.
use Rattle.std.specs.Prelude.{◌≡◌, ℕ, Bool, true, false, List, find, Option, Some}
use Rattle.std.proofs.Common.{refl, ap, sym, subst, ◌∙◌, inl, inr}
use Rattle.run_debts.specs.Given.RawDeclared.machines.machine.Machine.{Machine}
use Rattle.run_debts.specs.Given.RunsSame.{is_same}
use Rattle.run_debts.specs.Given.RunsDeclared.call.Call.{Call}
use Rattle.run_debts.specs.Given.RunsDeclared.call.Reply.{Reply}
use Rattle.run_debts.specs.Given.RunsDeclared.outcome.Outcome.{Outcome}
use Rattle.run_debts.specs.Given.SchedulesBeginning.{with_call}
use Rattle.run_debts.specs.Given.SchedulesEntry.{ends_call}
use Rattle.run_debts.specs.Given.SchedulesMoment.{UnderWay as CallThere, Moment}
use Rattle.run_debts.specs.Given.SchedulesViews.{call_of}
use Rattle.owner_calls.specs.Given.CallersTogether.{UnderWay}
use Rattle.run_debts.specs.Given.FinishesMachines.{machine_of}
use Rattle.run_debts.specs.Given.FinishesMaps.{with_call as with_in}
use Rattle.run_debts.specs.Given.FollowsCalling.{NoneNamed, told, come_to}
use Rattle.run_debts.specs.Given.FollowsCalls.{RefinesCalls}
use Rattle.run_debts.proofs.Given.HandsAsking.{which}
use Rattle.run_debts.specs.Given.OthersWalks.{given_up}
use Rattle.run_blocks.proofs.Owes.Kept.{calls_without, HasAsMuch, HadAsMuch, fresh_has, others_there, told_had, left_had, come_had}
use Rattle.run_debts.specs.Given.ScenesReplying.{scene_with, unless_stopped}
use Rattle.run_debts.specs.Given.ScenesScene.{Scene}
use Rattle.run_debts.proofs.Given.General.{same_some as one_of}

module _ {K V : Type 0} (mark : CallThere K V → Bool) (P : Machine K V K → Type 0) (kept : (c d : CallThere K V) → HasAsMuch c d → mark d ≡ mark c) where
  abbrev pub Marked : (ℕ → List ℕ) → Moment K V → Scene K V → Type 0
  Marked name m s = (map i : ℕ) (u : UnderWay K V K) → s.calls map i ≡ Some u → (c : CallThere K V) → call_of (name i) m ≡ Some c → mark c ≡ true → P (machine_of u)

  pub stays_marked : (name : ℕ → List ℕ) (m v : Moment K V) (s t : Scene K V) → Marked name m s → v.calls ≡ m.calls → t.calls ≡ s.calls → Marked name v t
  stays_marked name m v s t marked calls under_way map i u is c c_is e =
      marked map i u (sym (ap (λ (f : ℕ → ℕ → Option (UnderWay K V K)). f map i) under_way) ∙ is) c
      (sym (ap (λ (l : List (CallThere K V)). find (λ y. is_same y.caller (name i)) l) calls) ∙ c_is) e

  module _ (name : ℕ → List ℕ) (m : Moment K V) (s : Scene K V) (marked : Marked name m s) where
    -- of one that had as much
    has_as_much : (n j : ℕ) (x : UnderWay K V K) → s.calls n j ≡ Some x → (d : CallThere K V) → HadAsMuch name m j d → mark d ≡ true → P (machine_of x)
    has_as_much n j x is d had e = marked n j x is had.0 had.1 (sym (kept had.0 d had.2) ∙ e)

    -- a call begins
    pub begin_marked : (of i : ℕ) (u : UnderWay K V K) (call : Call K V) (guard : List ℕ) → NoneNamed name (name i) s
        → ((d : CallThere K V) → d.is_short ≡ false → d.call ≡ call → mark d ≡ true → P (machine_of u)) → Marked name (with_call (name i) guard call (Some of) m) (scene_with of i u s)
    begin_marked of i u call guard apart fresh n j x is d d_is e = elim (which s.calls of i (Some u) n j x is) as (λ _. P (machine_of x)) [
      | inl it ↦
          let has = fresh_has name m of i call guard j it.1 d d_is in
          subst (λ (y : UnderWay K V K). P (machine_of y)) (one_of u x it.2) (fresh d has.2 has.3 e)
      | inr was ↦ marked n j x was.1 d (others_there name m of i call guard j (apart n j x was.1) d d_is) e
    ]

    -- it goes on as a machine of which it is so as well
    module _ (of i : ℕ) (u : UnderWay K V K) (here : s.calls of i ≡ Some u) (next : UnderWay K V K) (goes : P (machine_of u) → P (machine_of next)) where
      -- one that is under way then was so before
      on_there : (n j : ℕ) (x : UnderWay K V K) → with_in s.calls of i (Some next) n j ≡ Some x → (y : UnderWay K V K) × (s.calls n j ≡ Some y) × (P (machine_of y) → P (machine_of x))
      on_there n j x is = elim (which s.calls of i (Some next) n j x is) as (λ _. (y : UnderWay K V K) × (s.calls n j ≡ Some y) × (P (machine_of y) → P (machine_of x))) [
        | inl it ↦ (
          u,
          ap (λ (k : ℕ). s.calls k j) it.0 ∙ ap (s.calls of) it.1 ∙ here,
          λ so. subst (λ (y : UnderWay K V K). P (machine_of y)) (one_of next x it.2) (goes so),
        )
        | inr was ↦ (x, was.1, λ so. so)
      ]

      pub go_on_marked : Marked name m (scene_with of i next s)
      go_on_marked n j x is d d_is e = let was = on_there n j x is in was.2 (marked n j was.0 was.1 d d_is e)

    -- where the moment shows the calls
    module _ (same : K → K → Bool) (shown : RefinesCalls same name m s.calls) where
      pub take_marked : (of i : ℕ) (u : UnderWay K V K) → s.calls of i ≡ Some u → (next : UnderWay K V K) → (P (machine_of u) → P (machine_of next)) → (is_told : Reply V)
          → Marked name (told (name i) is_told m) (scene_with of i next s)
      take_marked of i u here next goes is_told n j x is d d_is e =
          let was = on_there of i u here next goes n j x is in was.2 (has_as_much n j was.0 was.1 d (told_had name m same s.calls shown (name i) is_told n j was.0 was.1 d d_is) e)

      pub come_marked : (own : List ℕ) (o : Outcome V) (steps : ℕ) → (ends_call o ≡ true → NoneNamed name own s) → Marked name (come_to own o steps m) s
      come_marked own o steps ended n j x is d d_is e = has_as_much n j x is d (come_had name m same s.calls shown own o steps n j x is (λ over. ended over n j x is) d d_is) e

      -- a walk is given up, or not
      pub stop_marked : (of i : ℕ) (u : UnderWay K V K) → s.calls of i ≡ Some u → (stopped : Bool)
          → (stopped ≡ true → NoneNamed name (name i) (record s { calls = with_in s.calls of i (unless_stopped stopped u) }))
          → Marked name (given_up (name i) stopped m) (record s { calls = with_in s.calls of i (unless_stopped stopped u) })
      stop_marked of i u here true none n j x is d d_is e =
          let was = calls_without s.calls of i n j x is in has_as_much n j x was d (left_had name m same s.calls shown (name i) n j x was (none refl n j x is) d d_is) e
      stop_marked of i u here false none n j x is d d_is e = let was = on_there of i u here u (λ so. so) n j x is in was.2 (marked n j was.0 was.1 d d_is e)
