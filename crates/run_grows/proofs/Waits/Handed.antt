-- What a step of a call hands over is past the root, or was copied past an older table; and with what is left that is all which must be found of it.
use Rattle.std.specs.Prelude.{◌≡◌, ℕ, Bool, true, false, List, [], ◌∷◌, Option, Some, None}
use Rattle.std.specs.List.{list_any}
use Rattle.std.proofs.Common.{refl, ap, sym, subst, ◌∙◌, inl, inr, arith}
use Rattle.run_finds.specs.Given.SeizeWordsWord.{block_in}
use Rattle.run_finds.specs.Given.SeizeWordsDeclared.at.At.{At}
use Rattle.run_finds.specs.Given.TablesDeclared.node.Node.{Node}
use Rattle.papaya_raw.specs.declared.machines.progress.Progress.{Progress}
use Rattle.run_schedules.specs.declared.effect.Effect.{Effect}
use Rattle.run_schedules.specs.declared.effect.Effect.TheVariants as effect
use Rattle.run_schedules.specs.declared.effect.TableId.{TableId}
use Rattle.run_schedules.specs.declared.effect.Thing.TheVariants.{APair, ATable}
use Rattle.run_schedules.specs.Schedules.Effects.{call_by, with_effect}
use Rattle.run_schedules.specs.Schedules.Entry.{ByCall, acting}
use Rattle.run_schedules.specs.Schedules.Lives.{IsPast}
use Rattle.run_schedules.specs.Schedules.Moment.{UnderWay as CallThere, Moment}
use Rattle.run_schedules.specs.Schedules.Views.{call_of, first_of, is_stage, is_there, map_at, grows_in_chunks}
use Rattle.run_finds.specs.Given.CallersTogether.{UnderWay}
use Rattle.run_finds.specs.Given.EffectsEffects.{carried, effects_of}
use Rattle.run_finds.specs.Given.EffectsKnown.{Known}
use Rattle.run_finds.specs.Given.EffectsDeclared.acting.Acting.TheVariants as acts
use Rattle.run_finds.specs.Given.EffectsDeclared.role.Role.{Role}
use Rattle.run_finds.specs.Given.EffectsDeclared.role.Role.TheVariants as role
use Rattle.run_finds.specs.Given.FinishesMachines.{machine_of}
use Rattle.run_finds.specs.Given.FollowsCalls.{IsCalled}
use Rattle.run_finds.proofs.Given.FollowsSteps.{WentTo, went_to}
use Rattle.run_finds.specs.Given.MomentsWhole.{RefinesWhole}
use Rattle.run_finds.proofs.Given.OwesFields.{its_effect}
use Rattle.run_finds.specs.Given.SettlesDue.{RowObligation, ToRetire, ToPut, RowTells, TellsNone, TellsRetired, TellsDeferred, retired_effects, due_in_row, OwnAreMade}
use Rattle.run_finds.specs.Given.SettlesEntries.{EntriesAreBlank}
use Rattle.run_finds.specs.Given.SettlesHand.{thing_as, RefinesObligations}
use Rattle.run_finds.specs.Given.SettlesOwing.{hands_over}
use Rattle.run_finds.proofs.Given.SettlesDueCalls.{rows_tell_due}
use Rattle.run_finds.proofs.Given.SettlesHand.All.{own_or_row}
use Rattle.run_finds.proofs.Given.SettlesTakings.{steps_take_out}
use Rattle.run_finds.specs.Rest.{FindsHanded, FindHanded}
use Rattle.run_finds.specs.Waits.{waits_in, IsHeldPast, RefinesWaits, FindsPast, FindPast, FindsDeferral, FindDeferrals, FindsSpace, FindSpace, PastIsHanded, CallsHandPast}
use Rattle.run_finds.proofs.Waits.Due.{word_of, DueHas, row_due}
use Rattle.run_finds.specs.Given.ScenesHeld.{Held, IsAt}
use Rattle.run_finds.specs.Given.ScenesScene.{Scene}
use Rattle.run_finds.specs.Given.ScenesStepping.{StepLeads}
use Rattle.run_finds.proofs.Given.General.{both_false as neither}

module _ {K V : Type 0} where
  -- the parts, by the kind of effect
  by_kind : (m : Moment K V) (f : Effect) (c : CallThere K V) → FindsPast m f c → FindsDeferral m f c → FindsSpace m f c → FindsHanded m f c
  by_kind m (effect.Deferred n t) c past behind space = (behind.0, behind.1, past.0, past.1, past.2, space)
  by_kind m (effect.Retired (APair n)) c past behind space = past
  by_kind m (effect.Retired (ATable t)) c past behind space = tt
  by_kind m _ c past behind space = tt

  by_call : (m : Moment K V) (f : Effect) (o : Option (CallThere K V)) → ByCall (FindsPast m f) o → ByCall (FindsDeferral m f) o → ByCall (FindsSpace m f) o → ByCall (FindsHanded m f) o
  by_call m f None past behind space = past
  by_call m f (Some c) past behind space = by_kind m f c past behind space

  all_joined : (own : List ℕ) (map : ℕ) (effects : List Effect) (m : Moment K V) → FindPast own map effects m → FindDeferrals own map effects m → FindSpace own map effects m → FindHanded own map effects m
  all_joined own map [] m past behind space = tt
  all_joined own map (f ∷ fs) m past behind space = (by_call m f (acting (Some own) m) past.0 behind.0 space.0, all_joined own map fs (with_effect (Some own) (Some map) f m) past.1 behind.1 space.1)

  -- one that hands nothing over
  past_none : (m : Moment K V) (f : Effect) (c : CallThere K V) → hands_over f ≡ false → FindsPast m f c
  past_none m (effect.Deferred n t) c e = absurd (cc e)
  past_none m (effect.Retired (APair n)) c e = absurd (cc e)
  past_none m (effect.Retired (ATable t)) c e = tt
  past_none m _ c e = tt

  all_none : (own : List ℕ) (map : ℕ) (effects : List Effect) (m : Moment K V) (c : CallThere K V) → call_of own m ≡ Some c → list_any hands_over effects ≡ false → FindPast own map effects m
  all_none own map [] m c c_is e = tt
  all_none own map (f ∷ fs) m c c_is e =
      let both = neither (hands_over f) (list_any hands_over fs) e in (
        subst (ByCall (FindsPast m f)) (sym c_is) (past_none m f c both.0),
        all_none own map fs (with_effect (Some own) (Some map) f m) (call_by m f c) (its_effect own map f m c c_is) both.1,
      )

pub past_is_handed : (K V : Type 0) → PastIsHanded K V
past_is_handed K V own map effects m past behind space = all_joined own map effects m past behind space

module _ {K V : Type 0} (same : K → K → Bool) (hash : ℕ → K → ℕ) (name : ℕ → List ℕ) (m : Moment K V) (known : Known) (s : Scene K V) (old new : Held K V) (at_old : IsAt same hash old s)
    (whole : RefinesWhole same name m known s) (entries : EntriesAreBlank s) (owning : OwnAreMade known s.world) (owes : RefinesObligations name m known s) (waits : RefinesWaits name m s)
    (map i : ℕ) (u : UnderWay K V K) (here : s.calls map i ≡ Some u) (said : Progress (Node K V)) (leads : StepLeads same hash i said s old new) where
  abbrev to : WentTo same hash name m known s old new at_old whole.all.shown map i u here said leads
  to = went_to same hash name m known s old new at_old whole.all.shown map i u here said leads

  abbrev effects : List Effect
  effects = effects_of (acts.Call i map) known new.changed

  its : (c : CallThere K V) × (call_of (name i) m ≡ Some c) × (c.map ≡ map) × IsCalled same u c.call
  its = whole.all.shown.calls map i u here

  abbrev c : CallThere K V
  c = its.0

  abbrev Finds : List Effect → Type 0
  Finds l = FindPast (name i) map l m

  one : (f : Effect) → FindsPast m f c → Finds (f ∷ [])
  one f finds = (subst (ByCall (FindsPast m f)) (sym its.1) finds, tt)

  -- the pair that it is to hand over lies so
  held : (due : RowObligation) (n : ℕ) → known.roles (block_in (word_of due)) ≡ role.Pair n → DueHas known due (machine_of u) → IsHeldPast map m n (waits_in (machine_of u))
  held due n is_role has = waits map i u here (word_of due) has.1 c its.1 n (owes.owed map i u here c its.1 ∙ has.0 ∙ ap thing_as is_role)

  retired : (word : ℕ) → due_in_row (machine_of u) ≡ Some (ToRetire word) → (r : Role) → known.roles (block_in word) ≡ r → Finds (retired_effects r)
  retired word due (role.Pair n) is =
      let has = row_due known (ToRetire word) n is (machine_of u) (owes.noted map i u here) due in
      let lies = subst (IsHeldPast map m n) has.2 (held (ToRetire word) n is has) in
      one (effect.Retired (APair n)) (subst (λ (x : ℕ). IsPast (m.born n).turn (m.spot n).turn (first_of x m)) (sym its.2) lies.1)
  retired word due (role.Table t len) is = one (effect.Retired (ATable t)) tt
  retired word due role.Free is = tt
  retired word due (role.OwnPair j) is = tt
  retired word due (role.OwnTable turn shape) is = tt
  retired word due (role.Counter of) is = tt

  deferred : (word : ℕ) (place : At) (t : TableId) → is_stage is_there t m ≡ true → due_in_row (machine_of u) ≡ Some (ToPut word place) → (r : Role) → known.roles (block_in word) ≡ r → Finds (carried t r)
  deferred word place t there due (role.Pair n) is =
      let has = row_due known (ToPut word place) n is (machine_of u) (owes.noted map i u here) due in
      let lies = (subst (IsHeldPast map m n) has.2.1 (held (ToPut word place) n is has)).1 in
      let turn = lies.0 in
      let stored = lies.1 in
      one (effect.Deferred n t) (omega (arith, turn, stored), there, subst (λ (x : ℕ). grows_in_chunks (map_at x m) ≡ true) (sym its.2) lies.2)
  deferred word place t there due (role.Table u2 len) is = tt
  deferred word place t there due role.Free is = tt
  deferred word place t there due (role.OwnPair j) is = tt
  deferred word place t there due (role.OwnTable turn shape) is = tt
  deferred word place t there due (role.Counter of) is = tt

  row_past : RowTells i map known effects (due_in_row (machine_of u)) (due_in_row to.1) → Finds effects
  row_past (TellsNone none same) = subst Finds (sym none) tt
  row_past (TellsRetired word was gone are) = subst Finds (sym are) (retired word was (known.roles (block_in word)) refl)
  row_past (TellsDeferred word block place t len was its_word gone table are) = subst Finds (sym are) (deferred word place t (whole.blocks.tables block len t table) was (known.roles (block_in word)) refl)

  pub hands_past : Finds effects
  hands_past = elim (own_or_row same hash name m known s old new at_old whole.all.shown map i u here said leads u to.4.did) as (λ _. Finds effects) [
    | inl own ↦ all_none (name i) map effects m c its.1 (steps_take_out K V same hash name m known s old new at_old whole.all.shown map i u here said leads own []).2
    | inr other ↦ row_past (rows_tell_due K V same hash name m known s old new at_old whole.all.shown whole.all.rows entries owning map i u here said leads other)
  ]

pub calls_hand_past : (K V : Type 0) (same : K → K → Bool) (hash : ℕ → K → ℕ) → CallsHandPast K V same hash
calls_hand_past K V same hash name m known s old new at_old whole entries owning owes waits map i u here said leads =
    hands_past same hash name m known s old new at_old whole entries owning owes waits map i u here said leads
