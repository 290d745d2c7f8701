-- A call that goes on is for what it was for.
use Rattle.std.specs.Prelude.{◌≡◌}
use Rattle.std.proofs.Common.{sym, subst, ◌∙◌}
use Rattle.run_finds.specs.Given.ResizeDeclared.sum.Sum.{Sum}
use Rattle.run_finds.specs.Given.RunsDeclared.call.Call.{Call}
use Rattle.run_finds.specs.Given.RunsDeclared.call.Call.TheVariants as call
use Rattle.run_finds.specs.Given.CallersOverAll.{CallOverAll}
use Rattle.run_finds.specs.Given.CallersRooms.{CallForRoom}
use Rattle.run_finds.specs.Given.CallersTogether.{CallOnKey, UnderWay, OnKey, ForRoom, Counting, OverAll}
use Rattle.run_finds.specs.Purposes.Purposes.{IsFor}

module _ {K V : Type 0} where
  key_for : (its : Call K V) (u v : CallOnKey K V K) → IsFor (OnKey u) its → IsFor (OnKey v) its
  key_for (call.On one) u v is = tt
  key_for (call.Reserve n) u v is = absurd is
  key_for call.Clear u v is = absurd is
  key_for call.Retain u v is = absurd is
  key_for call.Len u v is = absurd is
  key_for call.Walk u v is = absurd is

  pub key_is_for : (its : Call K V) (u v : CallOnKey K V K) (x : UnderWay K V K) → x ≡ OnKey v → IsFor (OnKey u) its → IsFor x its
  key_is_for its u v x x_is is = subst (λ (y : UnderWay K V K). IsFor y its) (sym x_is) (key_for its u v is)

  pub room_for : (its : Call K V) (r q : CallForRoom) → q.reserve.additional ≡ r.reserve.additional → IsFor (ForRoom r) its → IsFor (ForRoom q) its
  room_for (call.On one) r q same is = absurd is
  room_for (call.Reserve n) r q same is = same ∙ is
  room_for call.Clear r q same is = absurd is
  room_for call.Retain r q same is = absurd is
  room_for call.Len r q same is = absurd is
  room_for call.Walk r q same is = absurd is

  pub counting_for : (its : Call K V) (a b : Sum) → IsFor (Counting a) its → IsFor (Counting b) its
  counting_for (call.On one) a b is = absurd is
  counting_for (call.Reserve n) a b is = absurd is
  counting_for call.Clear a b is = absurd is
  counting_for call.Retain a b is = absurd is
  counting_for call.Len a b is = tt
  counting_for call.Walk a b is = absurd is

  pub sweep_for : (its : Call K V) (o p : CallOverAll) → p.sweep.purpose ≡ o.sweep.purpose → IsFor (OverAll o) its → IsFor (OverAll p) its
  sweep_for (call.On one) o p same is = absurd is
  sweep_for (call.Reserve n) o p same is = absurd is
  sweep_for call.Clear o p same is = same ∙ is
  sweep_for call.Retain o p same is = same ∙ is
  sweep_for call.Len o p same is = absurd is
  sweep_for call.Walk o p same is = same ∙ is
