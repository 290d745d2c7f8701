-- What a row within a call hands over is the first of what the call owes: where the call has the same behind it, what it owes goes with the effects of the row's step.
use Rattle.std.specs.Prelude.{◌≡◌, ℕ, List, [], ◌++◌, Option, Some}
use Rattle.std.proofs.Common.{refl, ap, sym, subst, ◌∙◌}
use Rattle.run_places.specs.Given.SeizeWordsDeclared.at.At.{At}
use Rattle.run_places.specs.Given.SeizeWordsWord.{block_in}
use Rattle.run_places.specs.Given.RunsDeclared.effect.Effect.{Effect}
use Rattle.run_places.specs.Given.RunsDeclared.effect.Effect.TheVariants as effect
use Rattle.run_places.specs.Given.RunsDeclared.effect.TableId.{TableId}
use Rattle.run_places.specs.Given.RunsDeclared.effect.Thing.{Thing}
use Rattle.run_places.specs.Given.RunsDeclared.effect.Thing.TheVariants.{APair, ATable}
use Rattle.run_places.specs.Given.SchedulesMoment.{Moment}
use Rattle.run_places.specs.Given.EffectsEffects.{carried, named}
use Rattle.run_places.specs.Given.EffectsKnown.{Known}
use Rattle.run_places.specs.Given.EffectsDeclared.role.Role.{Role}
use Rattle.run_places.specs.Given.EffectsDeclared.role.Role.TheVariants as role
use Rattle.run_debts.specs.Due.{RowObligation, ToPut, word_due, retired_effects, RowTells, TellsNone, TellsRetired, TellsDeferred}
use Rattle.run_debts.specs.Hand.{thing_as, things_at, IsPairRole}
use Rattle.run_debts.specs.Owing.{AllLeave, ObligationsGo, KeepsOwed, HandsFirst}

-- what a call has in hand, before and after, is what its row is to hand over, and the same behind that
pub data KeepsBehind (known : Known) (before after : List Thing) (due due2 : Option RowObligation) : Type 0 where
  Behind : (rest : List Thing) → before ≡ things_at known (word_due due) ++ rest → after ≡ things_at known (word_due due2) ++ rest → KeepsBehind known before after due due2

module _ {K V : Type 0} (m : Moment K V) (known : Known) (effects : List Effect) where
  -- nothing is told, and it is the same
  none_goes : (before after : List Thing) → effects ≡ [] → after ≡ before → ObligationsGo m effects before after
  none_goes before after none same = KeepsOwed (subst AllLeave (sym none) tt) same

  -- it is retired
  retired_goes : (before after : List Thing) (r : Role) → effects ≡ retired_effects r → before ≡ thing_as r ++ after → ObligationsGo m effects before after
  retired_goes before after (role.Pair n) are is = HandsFirst (effect.Retired (APair n)) (APair n) are refl is
  retired_goes before after (role.Table t len) are is = HandsFirst (effect.Retired (ATable t)) (ATable t) are refl is
  retired_goes before after role.Free are is = none_goes before after are (sym is)
  retired_goes before after (role.OwnPair caller) are is = none_goes before after are (sym is)
  retired_goes before after (role.OwnTable turn shape) are is = none_goes before after are (sym is)
  retired_goes before after (role.Counter map) are is = none_goes before after are (sym is)

  -- it is put behind a table
  put_goes : (before after : List Thing) (t : TableId) (r : Role) → IsPairRole r → effects ≡ carried t r → before ≡ thing_as r ++ after → ObligationsGo m effects before after
  put_goes before after t (role.Pair n) pair are is = HandsFirst (effect.Deferred n t) (APair n) are refl is
  put_goes before after t role.Free pair are is = absurd pair
  put_goes before after t (role.Table u len) pair are is = absurd pair
  put_goes before after t (role.OwnPair caller) pair are is = absurd pair
  put_goes before after t (role.OwnTable turn shape) pair are is = absurd pair
  put_goes before after t (role.Counter map) pair are is = absurd pair

  -- what is to be put is a pair
  abbrev pub PutsPair : Option RowObligation → Type 0
  PutsPair due = (word : ℕ) (place : At) → due ≡ Some (ToPut word place) → IsPairRole (named known word)

  pub row_goes : (caller map : ℕ) (before after : List Thing) (due due2 : Option RowObligation) → PutsPair due → KeepsBehind known before after due due2 → RowTells caller map known effects due due2
      → ObligationsGo m effects before after
  row_goes caller map before after due due2 pair (Behind rest is then) (TellsNone none same) =
      none_goes before after none (then ∙ ap (λ (d : Option RowObligation). things_at known (word_due d) ++ rest) same ∙ sym is)
  row_goes caller map before after due due2 pair (Behind rest is then) (TellsRetired word was gone are) =
      let left : after ≡ rest = then ∙ ap (λ (d : Option RowObligation). things_at known (word_due d) ++ rest) gone in
      retired_goes before after (known.roles (block_in word)) are
      (is ∙ ap (λ (d : Option RowObligation). things_at known (word_due d) ++ rest) was ∙ ap (λ (l : List Thing). thing_as (known.roles (block_in word)) ++ l) (sym left))
  row_goes caller map before after due due2 pair (Behind rest is then) (TellsDeferred word block place t len was its gone table are) =
      let left : after ≡ rest = then ∙ ap (λ (d : Option RowObligation). things_at known (word_due d) ++ rest) gone in
      put_goes before after t (named known word) (pair word place was) are
      (is ∙ ap (λ (d : Option RowObligation). things_at known (word_due d) ++ rest) was ∙ ap (λ (l : List Thing). thing_as (named known word) ++ l) (sym left))
