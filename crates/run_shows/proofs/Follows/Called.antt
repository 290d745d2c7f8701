-- A call that goes on after a step is what was called, as before.
use Rattle.std.specs.Prelude.{◌≡◌, ℕ, Bool, Option, Some}
use Rattle.std.proofs.Common.{refl, sym, subst, ◌∙◌, inl, inr}
use Rattle.seize_words.specs.OneMemory.Mem.{Mem}
use Rattle.seize.specs.World.{World}
use Rattle.seize.specs.declared.advance.Advance.{Advance as Counted}
use Rattle.seize.specs.declared.advance.Advance.TheVariants as counted
use Rattle.run_effects.specs.Given.TablesDeclared.node.Node.{Node}
use Rattle.run_effects.specs.Given.ResizeDeclared.yielding.Yielding.{Yielding}
use Rattle.run_effects.specs.Given.ResizeDeclared.yielding.Yielding.TheVariants as outcome
use Rattle.run_effects.specs.Given.ResizeDeclared.sum.Sum.{Sum}
use Rattle.run_effects.specs.Given.ReservesDeclared.sweep.Swept.{Swept}
use Rattle.run_effects.specs.Given.ReservesDeclared.sweep.Swept.TheVariants as swept
use Rattle.run_effects.specs.Given.RawDeclared.machines.answer.Called.{Called}
use Rattle.run_effects.specs.Given.RawDeclared.machines.answer.Called.TheVariants as called
use Rattle.run_effects.specs.Given.RawDeclared.machines.machine.Machine.{Machine}
use Rattle.run_effects.specs.Given.RawDeclared.machines.progress.Progress.{Progress}
use Rattle.run_effects.specs.Given.RunsDeclared.call.Call.{Call}
use Rattle.run_effects.specs.Given.RunsDeclared.call.Call.TheVariants as call
use Rattle.many_maps.specs.Given.CallersOverAll.{CallOverAll}
use Rattle.many_maps.specs.Given.CallersRooms.{CallForRoom}
use Rattle.many_maps.specs.Given.CallersTogether.{CallOnKey, UnderWay, OnKey, ForRoom, Counting, OverAll, next_of, next_for_room, next_of_counting, next_over_all}
use Rattle.many_maps.specs.Endings.{Finishing}
use Rattle.many_maps.specs.Makings.{Beginning}
use Rattle.many_maps.specs.Maps.{Standing}
use Rattle.run_shows.specs.Follows.Calls.{IsCalled}
use Rattle.run_shows.specs.Follows.Steps.{Did}

module _ {K V : Type 0} where
  pub some_is : (x y : UnderWay K V K) → ◌≡◌ {A = Option (UnderWay K V K)} (Some x) (Some y) → y ≡ x
  some_is x y e = cc e

  -- what goes on is the call
  pub key_goes_on : (u : CallOnKey K V K) (end : Called (Node K V)) (x : UnderWay K V K) → next_of u end ≡ Some x → x ≡ OnKey u
  key_goes_on u called.Goes x e = some_is (OnKey u) x e
  key_goes_on u called.Waits x e = some_is (OnKey u) x e
  key_goes_on u (called.Gave value) x e = some_is (OnKey u) x e
  key_goes_on u (called.Unstored value) x e = some_is (OnKey u) x e
  key_goes_on u (called.Asks about) x e = some_is (OnKey u) x e
  key_goes_on u (called.Done answer) x e = absurd (cc e)
  key_goes_on u (called.Refused fault) x e = absurd (cc e)

  pub room_goes_on : (r : CallForRoom) (end : Yielding (Node K V) Unit) (x : UnderWay K V K) → next_for_room r end ≡ Some x → x ≡ ForRoom r
  room_goes_on r outcome.Goes x e = some_is (ForRoom r) x e
  room_goes_on r outcome.Waits x e = some_is (ForRoom r) x e
  room_goes_on r (outcome.Gave value) x e = some_is (ForRoom r) x e
  room_goes_on r (outcome.Done answer) x e = absurd (cc e)
  room_goes_on r (outcome.Refused fault) x e = absurd (cc e)

  pub counting_goes_on : (sum : Sum) (end : Counted ℕ) (x : UnderWay K V K) → next_of_counting sum end ≡ Some x → x ≡ Counting sum
  counting_goes_on sum counted.Goes x e = some_is (Counting sum) x e
  counting_goes_on sum counted.Waits x e = some_is (Counting sum) x e
  counting_goes_on sum (counted.Done count) x e = absurd (cc e)
  counting_goes_on sum (counted.Refused fault) x e = absurd (cc e)

  pub sweep_goes_on : (o : CallOverAll) (end : Swept (Node K V)) (x : UnderWay K V K) → next_over_all o end ≡ Some x → x ≡ OverAll o
  sweep_goes_on o swept.Goes x e = some_is (OverAll o) x e
  sweep_goes_on o swept.Waits x e = some_is (OverAll o) x e
  sweep_goes_on o (swept.Gave value) x e = some_is (OverAll o) x e
  sweep_goes_on o swept.Ready x e = some_is (OverAll o) x e
  sweep_goes_on o (swept.Pair word) x e = some_is (OverAll o) x e
  sweep_goes_on o (swept.Asks word) x e = some_is (OverAll o) x e
  sweep_goes_on o swept.Done x e = absurd (cc e)
  sweep_goes_on o (swept.Refused fault) x e = absurd (cc e)

  module _ (same : K → K → Bool) where
    -- of one kind, and on the same keys
    pub key_called : (u v : CallOnKey K V K) → v.keys ≡ u.keys → (its : Call K V) → IsCalled same (OnKey u) its → IsCalled same (OnKey v) its
    key_called u v keys (call.On one) is = keys ∙ is
    key_called u v keys (call.Reserve additional) is = absurd is
    key_called u v keys call.Clear is = absurd is
    key_called u v keys call.Retain is = absurd is
    key_called u v keys call.Len is = absurd is
    key_called u v keys call.Walk is = absurd is

    room_called : (r q : CallForRoom) (its : Call K V) → IsCalled same (ForRoom r) its → IsCalled same (ForRoom q) its
    room_called r q (call.On one) is = absurd is
    room_called r q (call.Reserve additional) is = tt
    room_called r q call.Clear is = absurd is
    room_called r q call.Retain is = absurd is
    room_called r q call.Len is = absurd is
    room_called r q call.Walk is = absurd is

    counting_called : (a b : Sum) (its : Call K V) → IsCalled same (Counting a) its → IsCalled same (Counting b) its
    counting_called a b (call.On one) is = absurd is
    counting_called a b (call.Reserve additional) is = absurd is
    counting_called a b call.Clear is = absurd is
    counting_called a b call.Retain is = absurd is
    counting_called a b call.Len is = tt
    counting_called a b call.Walk is = absurd is

    pub sweep_called : (o p : CallOverAll) (its : Call K V) → IsCalled same (OverAll o) its → IsCalled same (OverAll p) its
    sweep_called o p (call.On one) is = absurd is
    sweep_called o p (call.Reserve additional) is = absurd is
    sweep_called o p call.Clear is = tt
    sweep_called o p call.Retain is = tt
    sweep_called o p call.Len is = absurd is
    sweep_called o p call.Walk is = tt

    pub called_as : (x y : UnderWay K V K) (its : Call K V) → x ≡ y → IsCalled same y its → IsCalled same x its
    called_as x y its e is = subst (λ (z : UnderWay K V K). IsCalled same z its) (sym e) is

    key_on : (u v : CallOnKey K V K) → v.keys ≡ u.keys → (end : Called (Node K V)) (next : Option (UnderWay K V K)) → next ≡ next_of v end → (x : UnderWay K V K) → next ≡ Some x
        → (its : Call K V) → IsCalled same (OnKey u) its → IsCalled same x its
    key_on u v keys end next goes x e its is = called_as x (OnKey v) its (key_goes_on v end x (sym goes ∙ e)) (key_called u v keys its is)

    room_on : (r q : CallForRoom) (end : Yielding (Node K V) Unit) (next : Option (UnderWay K V K)) → next ≡ next_for_room q end → (x : UnderWay K V K) → next ≡ Some x
        → (its : Call K V) → IsCalled same (ForRoom r) its → IsCalled same x its
    room_on r q end next goes x e its is = called_as x (ForRoom q) its (room_goes_on q end x (sym goes ∙ e)) (room_called r q its is)

    counting_on : (a b : Sum) (end : Counted ℕ) (next : Option (UnderWay K V K)) → next ≡ next_of_counting b end → (x : UnderWay K V K) → next ≡ Some x
        → (its : Call K V) → IsCalled same (Counting a) its → IsCalled same x its
    counting_on a b end next goes x e its is = called_as x (Counting b) its (counting_goes_on b end x (sym goes ∙ e)) (counting_called a b its is)

    sweep_on : (o p : CallOverAll) (end : Swept (Node K V)) (next : Option (UnderWay K V K)) → next ≡ next_over_all p end → (x : UnderWay K V K) → next ≡ Some x
        → (its : Call K V) → IsCalled same (OverAll o) its → IsCalled same x its
    sweep_on o p end next goes x e its is = called_as x (OverAll p) its (sweep_goes_on p end x (sym goes ∙ e)) (sweep_called o p its is)

    module _ (batch_size roots : ℕ) (w : World (Node K V)) (maps : ℕ → Option (Standing K)) (calls : ℕ → ℕ → Option (UnderWay K V K))
        (makers : ℕ → Option (Beginning K)) (enders : ℕ → Option (Finishing K V)) (m : ℕ) (s : Standing K) (i : ℕ) (m2 : Mem (Node K V)) (w2 : World (Node K V))
        (maps2 : ℕ → Option (Standing K)) (next : Option (UnderWay K V K)) where
      -- so it is after a step
      pub called_on : (u : UnderWay K V K) (machine : Machine K V K) (told : Progress (Node K V)) → Did same batch_size roots w maps calls makers enders m s i m2 w2 maps2 next u machine told
          → (x : UnderWay K V K) → next ≡ Some x → (its : Call K V) → IsCalled same u its → IsCalled same x its
      called_on (OnKey u) machine told (p2, end, machine_is, told_is, inl (to, moved)) x e its is = key_on u _ refl end next moved.2 x e its is
      called_on (OnKey u) machine told (p2, end, machine_is, told_is, inr (to, stayed)) x e its is = key_on u _ refl end next stayed.2 x e its is
      called_on (ForRoom r) machine told (p2, end, machine_is, told_is, inl (to, moved)) x e its is = room_on r _ end next moved.2 x e its is
      called_on (ForRoom r) machine told (p2, end, machine_is, told_is, inr (to, stayed)) x e its is = room_on r _ end next stayed.2 x e its is
      called_on (Counting sum) machine told (sum2, end, machine_is, told_is, still, stayed) x e its is = counting_on sum sum2 end next stayed.2 x e its is
      called_on (OverAll o) machine told (p2, end, machine_is, told_is, inl (to, moved)) x e its is = sweep_on o _ end next moved.2 x e its is
      called_on (OverAll o) machine told (p2, end, machine_is, told_is, inr (to, stayed)) x e its is = sweep_on o _ end next stayed.2 x e its is
