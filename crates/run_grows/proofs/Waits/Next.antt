-- A pair that a step of a call puts behind a table is put behind that of the map just before its own.
use Rattle.std.specs.Prelude.{◌≡◌, ℕ, Bool, false, List, [], ◌∷◌, Some}
use Rattle.std.specs.List.{list_any}
use Rattle.std.proofs.Common.{refl, ap, sym, subst, ◌∙◌, inl, inr, arith}
use Rattle.run_finds.specs.Given.SeizeWordsWord.{block_in}
use Rattle.run_finds.specs.Given.SeizeWordsDeclared.at.At.{At}
use Rattle.run_finds.specs.Given.SeizeWordsDeclared.at.At.TheVariants.{Word}
use Rattle.run_finds.specs.Given.SeizeFurther.{IsWordOf}
use Rattle.run_finds.specs.Given.TablesDeclared.node.Node.{Node}
use Rattle.papaya_raw.specs.declared.machines.progress.Progress.{Progress}
use Rattle.run_schedules.specs.declared.effect.Effect.{Effect}
use Rattle.run_schedules.specs.declared.effect.Effect.TheVariants as effect
use Rattle.run_schedules.specs.declared.effect.TableId.{TableId}
use Rattle.run_schedules.specs.declared.effect.Thing.TheVariants.{APair, ATable}
use Rattle.run_schedules.specs.Schedules.Effects.{call_by, with_effect}
use Rattle.run_schedules.specs.Schedules.Entry.{ByCall}
use Rattle.run_schedules.specs.Schedules.Moment.{UnderWay as CallThere, Moment}
use Rattle.run_schedules.specs.Schedules.Views.{call_of}
use Rattle.run_finds.specs.Given.CallersTogether.{UnderWay}
use Rattle.run_finds.specs.Given.EffectsEffects.{carried, effects_of}
use Rattle.run_finds.specs.Given.EffectsKnown.{Known}
use Rattle.run_finds.specs.Given.EffectsDeclared.acting.Acting.TheVariants as acts
use Rattle.run_finds.specs.Given.EffectsDeclared.role.Role.{Role}
use Rattle.run_finds.specs.Given.EffectsDeclared.role.Role.TheVariants as role
use Rattle.run_finds.specs.Given.FinishesMachines.{machine_of}
use Rattle.run_finds.specs.Given.FollowsCalls.{IsCalled}
use Rattle.run_finds.proofs.Given.FollowsSteps.{WentTo, went_to}
use Rattle.run_finds.specs.Given.MomentsWhole.{RefinesWhole}
use Rattle.run_finds.proofs.Given.OwesFields.{its_effect}
use Rattle.run_finds.specs.Given.SettlesDue.{ToPut, RowTells, TellsNone, TellsRetired, TellsDeferred, retired_effects, due_in_row, OwnAreMade}
use Rattle.run_finds.specs.Given.SettlesEntries.{EntriesAreBlank}
use Rattle.run_finds.specs.Given.SettlesHand.{thing_as, RefinesObligations}
use Rattle.run_finds.specs.Given.SettlesOwing.{hands_over}
use Rattle.run_finds.proofs.Given.SettlesDueCalls.{rows_tell_due}
use Rattle.run_finds.proofs.Given.SettlesHand.All.{own_or_row}
use Rattle.run_finds.proofs.Given.SettlesTakings.{steps_take_out}
use Rattle.run_finds.specs.Waits.{IsHeldPast, RefinesWaits, FindsDeferral, FindDeferrals}
use Rattle.run_finds.proofs.Waits.Due.{row_due}
use Rattle.run_finds.specs.Puts.{RefinesPuts, CallsDeferOnTheLast}
use Rattle.run_finds.specs.Given.ScenesHeld.{Held, IsAt}
use Rattle.run_finds.specs.Given.ScenesScene.{Scene}
use Rattle.run_finds.specs.Given.ScenesStepping.{StepLeads}
use Rattle.run_finds.proofs.Given.General.{both_false as neither}

-- an effect that hands nothing over is put behind no table
module _ {K V : Type 0} where
  behind_none : (m : Moment K V) (f : Effect) (c : CallThere K V) → hands_over f ≡ false → FindsDeferral m f c
  behind_none m (effect.Deferred n t) c e = absurd (cc e)
  behind_none m _ c e = tt

  all_none : (own : List ℕ) (map : ℕ) (effects : List Effect) (m : Moment K V) (c : CallThere K V) → call_of own m ≡ Some c → list_any hands_over effects ≡ false → FindDeferrals own map effects m
  all_none own map [] m c c_is e = tt
  all_none own map (f ∷ fs) m c c_is e =
      let both = neither (hands_over f) (list_any hands_over fs) e in (
        subst (ByCall (FindsDeferral m f)) (sym c_is) (behind_none m f c both.0),
        all_none own map fs (with_effect (Some own) (Some map) f m) (call_by m f c) (its_effect own map f m c c_is) both.1,
      )

-- a place is in one block
same_block : (a b : ℕ) (place : At) → IsWordOf a place → IsWordOf b place → a ≡ b
same_block a b (Word d field) x y = x ∙ sym y
same_block a b _ x y = absurd x

module _ {K V : Type 0} (same : K → K → Bool) (hash : ℕ → K → ℕ) (name : ℕ → List ℕ) (m : Moment K V) (known : Known) (s : Scene K V) (old new : Held K V) (at_old : IsAt same hash old s)
    (whole : RefinesWhole same name m known s) (entries : EntriesAreBlank s) (owning : OwnAreMade known s.world) (owes : RefinesObligations name m known s) (waits : RefinesWaits name m s) (puts : RefinesPuts known s)
    (map i : ℕ) (u : UnderWay K V K) (here : s.calls map i ≡ Some u) (said : Progress (Node K V)) (leads : StepLeads same hash i said s old new) where
  abbrev to : WentTo same hash name m known s old new at_old whole.all.shown map i u here said leads
  to = went_to same hash name m known s old new at_old whole.all.shown map i u here said leads

  abbrev effects : List Effect
  effects = effects_of (acts.Call i map) known new.changed

  its : (c : CallThere K V) × (call_of (name i) m ≡ Some c) × (c.map ≡ map) × IsCalled same u c.call
  its = whole.all.shown.calls map i u here

  abbrev c : CallThere K V
  c = its.0

  abbrev Finds : List Effect → Type 0
  Finds l = FindDeferrals (name i) map l m

  one : (f : Effect) → FindsDeferral m f c → Finds (f ∷ [])
  one f finds = (subst (ByCall (FindsDeferral m f)) (sym its.1) finds, tt)

  retired : (r : Role) → Finds (retired_effects r)
  retired (role.Pair n) = one (effect.Retired (APair n)) tt
  retired (role.Table t len) = one (effect.Retired (ATable t)) tt
  retired role.Free = tt
  retired (role.OwnPair j) = tt
  retired (role.OwnTable turn shape) = tt
  retired (role.Counter of) = tt

  -- the block that it is put behind is that of the table just before its own
  put_behind : (word block : ℕ) (place : At) (t : TableId) (len : ℕ) → due_in_row (machine_of u) ≡ Some (ToPut word place) → IsWordOf block place → known.roles block ≡ role.Table t len
      → (n : ℕ) → known.roles (block_in word) ≡ role.Pair n → FindsDeferral m (effect.Deferred n t) c
  put_behind word block place t len due its_word noted n is =
      let has = row_due known (ToPut word place) n is (machine_of u) (owes.noted map i u here) due in
      let held = waits map i u here word has.1 c its.1 n (owes.owed map i u here c its.1 ∙ has.0 ∙ ap thing_as is) in
      let b = puts map i u here word place due in
      let lies = (subst (IsHeldPast map m n) b.4 held).1.0 in
      let table : ◌≡◌ {A = Role} (role.Table t len) (role.Table (record { map = map; turn = b.1 }) b.2) = sym noted ∙ ap known.roles (same_block block b.0 place its_word b.3) ∙ b.5 in
      let one_table : t ≡ record { map = map; turn = b.1 } = cc table in
      let turn = ap (λ (x : TableId). x.turn) one_table in
      (ap (λ (x : TableId). x.map) one_table ∙ sym its.2, omega (arith, lies, turn))

  deferred : (word block : ℕ) (place : At) (t : TableId) (len : ℕ) → due_in_row (machine_of u) ≡ Some (ToPut word place) → IsWordOf block place → known.roles block ≡ role.Table t len
      → (r : Role) → known.roles (block_in word) ≡ r → Finds (carried t r)
  deferred word block place t len due its_word noted (role.Pair n) is = one (effect.Deferred n t) (put_behind word block place t len due its_word noted n is)
  deferred word block place t len due its_word noted (role.Table u2 len2) is = tt
  deferred word block place t len due its_word noted role.Free is = tt
  deferred word block place t len due its_word noted (role.OwnPair j) is = tt
  deferred word block place t len due its_word noted (role.OwnTable turn shape) is = tt
  deferred word block place t len due its_word noted (role.Counter of) is = tt

  row_behind : RowTells i map known effects (due_in_row (machine_of u)) (due_in_row to.1) → Finds effects
  row_behind (TellsNone none same_due) = subst Finds (sym none) tt
  row_behind (TellsRetired word was gone are) = subst Finds (sym are) (retired (known.roles (block_in word)))
  row_behind (TellsDeferred word block place t len was its_word gone noted are) = subst Finds (sym are) (deferred word block place t len was its_word noted (known.roles (block_in word)) refl)

  pub puts_behind : Finds effects
  puts_behind = elim (own_or_row same hash name m known s old new at_old whole.all.shown map i u here said leads u to.4.did) as (λ _. Finds effects) [
    | inl own ↦ all_none (name i) map effects m c its.1 (steps_take_out K V same hash name m known s old new at_old whole.all.shown map i u here said leads own []).2
    | inr other ↦ row_behind (rows_tell_due K V same hash name m known s old new at_old whole.all.shown whole.all.rows entries owning map i u here said leads other)
  ]

pub calls_put_behind : (K V : Type 0) (same : K → K → Bool) (hash : ℕ → K → ℕ) → CallsDeferOnTheLast K V same hash
calls_put_behind K V same hash name m known s old new at_old whole entries owning owes waits puts map i u here said leads =
    puts_behind same hash name m known s old new at_old whole entries owning owes waits puts map i u here said leads
