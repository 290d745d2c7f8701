-- A call under way is told something as the machine that it is, or asked for the next pair: all stand together.
use Rattle.std.specs.Prelude.{◌≡◌, ℕ, Bool, true, false, Option, Some}
use Rattle.std.proofs.Common.{refl, ap, sym, subst, ◌∙◌, inl, inr}
use Rattle.many_calls.specs.Given.SeizeWorld.{World, with_at}
use Rattle.many_calls.proofs.Given.SeizeRuleRows.Leaving.{with_same}
use Rattle.many_calls.specs.Given.TablesDeclared.node.Node.{Node}
use Rattle.many_calls.specs.Given.SweepsSweepPoints.{after_next}
use Rattle.many_calls.specs.Given.ReservesDeclared.sweep.Sweeping.{Sweeping}
use Rattle.many_calls.specs.Given.ReservesDeclared.sweep.Sweeping.TheVariants as sweeping
use Rattle.many_calls.specs.Given.RawCallAsks.{replied_at}
use Rattle.many_calls.specs.Given.RawMachine.{sweep_with_reply, machine_replied}
use Rattle.many_calls.specs.Given.RawDeclared.machines.asking.Asking.{Asking}
use Rattle.many_calls.specs.Given.RawDeclared.machines.asking.MachineReply.{MachineReply}
use Rattle.many_calls.specs.Given.RawDeclared.machines.asking.MachineReply.TheVariants as reply
use Rattle.many_calls.specs.Given.RawDeclared.machines.call.Calling.{Calling}
use Rattle.many_calls.specs.Given.RawDeclared.machines.call.Calling.TheVariants as at
use Rattle.many_calls.specs.Given.RawDeclared.machines.machine.Machine.{Machine}
use Rattle.many_calls.specs.Given.RawDeclared.machines.machine.Machine.TheVariants as kinds
use Rattle.many_calls.specs.OverAll.{CallOverAll, gone_on, with_verdict}
use Rattle.many_calls.specs.Sights.{seen_by}
use Rattle.many_calls.specs.Sweeps.{TakesReply}
use Rattle.many_calls.specs.Together.{UnderWay, OnKey, ForRoom, Counting, OverAll, CallOnKey, replied_about}
use Rattle.many_maps.specs.Makings.{Beginning}
use Rattle.many_maps.specs.Maps.{Standing, with_call}
use Rattle.many_maps.specs.Endings.{Finishing, EndingsTogether}
use Rattle.many_maps.specs.Machines.{machine_of, RepliedOfKind, MachinesRepliedWithEndings}
use Rattle.many_maps.proofs.Among.Calls.{replies_stand_among}
use Rattle.many_maps.proofs.Among.Sweeps.{sweeps_told_among}

module _ {K Q : Type 0} (V : Type 0) (same : K → K → Bool) (asks : Q → K → Bool) (batch_size roots : ℕ) (slot : ℕ → ℕ) where
  module _ (w : World (Node K V)) (maps : ℕ → Option (Standing K)) (calls : ℕ → ℕ → Option (UnderWay K V Q)) (makers : ℕ → Option (Beginning K)) (enders : ℕ → Option (Finishing K V))
      (all : EndingsTogether V same asks batch_size roots slot w maps calls makers enders) (m : ℕ) (s : Standing K) (here : maps m ≡ Some s) (i : ℕ) where
    abbrev With : UnderWay K V Q → Type 0
    With next = EndingsTogether V same asks batch_size roots slot w maps (with_call calls m i (Some next)) makers enders

    -- nothing changes
    unchanged : (u : UnderWay K V Q) → calls m i ≡ Some u → With u
    unchanged u has =
        subst (λ (x : ℕ → ℕ → Option (UnderWay K V Q)). EndingsTogether V same asks batch_size roots slot w maps x makers enders)
        (sym (ap (with_at calls m) (ap (with_at (calls m) i) (sym has) ∙ with_same (calls m) i) ∙ with_same calls m)) all

    abbrev Told : UnderWay K V Q → MachineReply V → Type 0
    Told u told =
        (next : UnderWay K V Q) × (machine_of next ≡ (machine_replied (machine_of u) told).0) × RepliedOfKind V same asks batch_size roots slot s i u told next × With next

    -- a call on one key
    module _ (u : CallOnKey K V Q) (has : calls m i ≡ Some (OnKey u)) (told : MachineReply V) where
      asking : (asks_at : Asking) → u.call.stands ≡ at.Asks asks_at → Told (OnKey u) told
      asking asks_at is =
          let taken = replies_stand_among V same asks batch_size roots slot w maps calls makers enders all m s here i u has asks_at is in
          (OnKey (replied_about u taken.0.0 told), refl, inl (asks_at, taken.0.0, is, taken.0.1, refl), taken.3 taken.0.0 taken.0.1 told)

      -- it takes no reply
      taking_none : (replied_at u.call.stands u.call told).0 ≡ u.call → Told (OnKey u) told
      taking_none e = (OnKey u, ap kinds.Key (sym e), inr refl, unchanged (OnKey u) has)

      key_told : (stage : Calling) → u.call.stands ≡ stage → Told (OnKey u) told
      key_told (at.Asks asks_at) is = asking asks_at is
      key_told at.Makes is = taking_none (ap (λ (x : Calling). (replied_at x u.call told).0) is)
      key_told (at.Looks a) is = taking_none (ap (λ (x : Calling). (replied_at x u.call told).0) is)
      key_told at.Roots is = taking_none (ap (λ (x : Calling). (replied_at x u.call told).0) is)
      key_told at.Probes is = taking_none (ap (λ (x : Calling). (replied_at x u.call told).0) is)
      key_told (at.Tries a b) is = taking_none (ap (λ (x : Calling). (replied_at x u.call told).0) is)
      key_told (at.Counts a) is = taking_none (ap (λ (x : Calling). (replied_at x u.call told).0) is)
      key_told (at.Disposes a b) is = taking_none (ap (λ (x : Calling). (replied_at x u.call told).0) is)
      key_told at.Nexts is = taking_none (ap (λ (x : Calling). (replied_at x u.call told).0) is)
      key_told (at.Firsts a) is = taking_none (ap (λ (x : Calling). (replied_at x u.call told).0) is)
      key_told (at.Allocs a) is = taking_none (ap (λ (x : Calling). (replied_at x u.call told).0) is)
      key_told (at.Helps a b) is = taking_none (ap (λ (x : Calling). (replied_at x u.call told).0) is)
      key_told (at.Copies a) is = taking_none (ap (λ (x : Calling). (replied_at x u.call told).0) is)
      key_told (at.Drops a) is = taking_none (ap (λ (x : Calling). (replied_at x u.call told).0) is)
      key_told (at.Over a) is = taking_none (ap (λ (x : Calling). (replied_at x u.call told).0) is)

    -- a sweep
    module _ (o : CallOverAll) (has : calls m i ≡ Some (OverAll o)) where
      taken : TakesReply s.hash s.chart (seen_by s.blocks (s.sights (slot i))) o (λ told. With (OverAll told))
      taken = sweeps_told_among V same asks batch_size roots slot w maps calls makers enders all m s here i o has

      abbrev TellsAt : Sweeping → MachineReply V → Type 0
      TellsAt stage told = (sweep_with_reply stage o.sweep told).0 ≡ o.sweep

      as_it_was : (stage : Sweeping) (told : MachineReply V) → o.sweep.stands ≡ stage → TellsAt stage told → Told (OverAll o) told
      as_it_was stage told is e = (OverAll o, ap kinds.Sweep (sym (ap (λ (x : Sweeping). (sweep_with_reply x o.sweep told).0) is ∙ e)), inr refl, unchanged (OverAll o) has)

      abbrev told_there : MachineReply V → Sweeping → Machine K V Q
      told_there told x = kinds.Sweep (sweep_with_reply x o.sweep told).0

      word_told : (word : ℕ) → o.sweep.stands ≡ sweeping.Asks word → (told : MachineReply V) → Told (OverAll o) told
      word_told word is reply.Yes =
          let pair = taken.asks_about word is in (
            OverAll (with_verdict o pair.0 true),
            ap (told_there reply.Yes) (sym is),
            inl (word, pair.0, is, pair.1, inl (refl, refl)),
            taken.replied word pair.0 is pair.1 true,
          )
      word_told word is reply.No =
          let pair = taken.asks_about word is in (
            OverAll (with_verdict o pair.0 false),
            ap (told_there reply.No) (sym is),
            inl (word, pair.0, is, pair.1, inr (refl, refl)),
            taken.replied word pair.0 is pair.1 false,
          )
      word_told word is told = as_it_was (sweeping.Asks word) told is refl

      sweep_is_told : (told : MachineReply V) (stage : Sweeping) → o.sweep.stands ≡ stage → Told (OverAll o) told
      sweep_is_told told (sweeping.Asks word) is = word_told word is told
      sweep_is_told told sweeping.Reads is = as_it_was sweeping.Reads told is refl
      sweep_is_told told sweeping.Follows is = as_it_was sweeping.Follows told is refl
      sweep_is_told told (sweeping.Copies copier) is = as_it_was (sweeping.Copies copier) told is refl
      sweep_is_told told sweeping.Ready is = as_it_was sweeping.Ready told is refl
      sweep_is_told told sweeping.Words is = as_it_was sweeping.Words told is refl
      sweep_is_told told (sweeping.Tries word) is = as_it_was (sweeping.Tries word) told is refl
      sweep_is_told told (sweeping.Counts removed) is = as_it_was (sweeping.Counts removed) told is refl
      sweep_is_told told (sweeping.Disposes dispose) is = as_it_was (sweeping.Disposes dispose) told is refl
      sweep_is_told told sweeping.Over is = as_it_was sweeping.Over told is refl
      sweep_is_told told (sweeping.Refused fault) is = as_it_was (sweeping.Refused fault) told is refl

  pub machines_told_among : MachinesRepliedWithEndings V same asks batch_size roots slot
  machines_told_among w maps calls makers enders all m s here i (OnKey u) has = (
    λ told. key_told w maps calls makers enders all m s here i u has told u.call.stands refl,
    (OnKey u, refl, unchanged w maps calls makers enders all m s here i (OnKey u) has),
  )
  machines_told_among w maps calls makers enders all m s here i (ForRoom r) has = (
    λ told. (ForRoom r, refl, refl, unchanged w maps calls makers enders all m s here i (ForRoom r) has),
    (ForRoom r, refl, unchanged w maps calls makers enders all m s here i (ForRoom r) has),
  )
  machines_told_among w maps calls makers enders all m s here i (Counting sum) has = (
    λ told. (Counting sum, refl, refl, unchanged w maps calls makers enders all m s here i (Counting sum) has),
    (Counting sum, refl, unchanged w maps calls makers enders all m s here i (Counting sum) has),
  )
  machines_told_among w maps calls makers enders all m s here i (OverAll o) has = (
    λ told. sweep_is_told w maps calls makers enders all m s here i o has told o.sweep.stands refl,
    (OverAll (gone_on o (after_next o.sweep)), refl, (taken w maps calls makers enders all m s here i o has).next),
  )
