-- A step of a call, of whichever kind: it asks for a growth only if it is not short of one, and each is as short as the moment says after it.
use Rattle.std.specs.Prelude.{◌≡◌, ℕ, ◌==◌, Bool, true, false, List, Option, Some, None, option_map, ◌⊎◌, if◌then◌else◌}
use Rattle.std.proofs.Common.{refl, ap, sym, subst, ◌∙◌, inl, inr}
use Rattle.run_debts.specs.Given.TablesDeclared.node.Node.{Node}
use Rattle.run_debts.specs.Given.RawDeclared.machines.machine.Machine.{Machine}
use Rattle.run_debts.specs.Given.RawDeclared.machines.progress.Progress.{Progress}
use Rattle.run_debts.specs.Given.RawDeclared.machines.progress.Progress.TheVariants as said_so
use Rattle.run_debts.specs.Given.RunsSame.{is_same}
use Rattle.run_debts.specs.Given.SeizeWordsDeclared.fault.Fault.TheVariants.{Memory}
use Rattle.run_debts.specs.Given.RunsDeclared.effect.Effect.{Effect}
use Rattle.run_debts.specs.Given.RunsDeclared.effect.Effect.TheVariants as effect
use Rattle.run_debts.specs.Given.SchedulesEffects.{with_effects}
use Rattle.run_debts.specs.Given.SchedulesMoment.{UnderWay as CallThere, Moment}
use Rattle.run_debts.specs.Given.SchedulesViews.{call_of}
use Rattle.run_debts.specs.Given.TellerChanged.{kind_of}
use Rattle.run_debts.specs.Given.EffectsDeclared.changed.Changed.{Changed}
use Rattle.run_debts.specs.Given.EffectsDeclared.changed.Changed.TheVariants as changed
use Rattle.run_debts.specs.Given.EffectsDeclared.changed.Kind.{Kind}
use Rattle.run_debts.specs.Given.EffectsDeclared.changed.Kind.TheVariants as kind
use Rattle.owner_calls.specs.Given.CallersTogether.{UnderWay}
use Rattle.run_debts.specs.Given.EffectsEffects.{table_at, effects_of}
use Rattle.run_debts.specs.Given.EffectsKnown.{Known}
use Rattle.run_debts.specs.Given.EffectsDeclared.acting.Acting.{Acting}
use Rattle.run_debts.specs.Given.EffectsDeclared.acting.Acting.TheVariants as acts
use Rattle.run_debts.specs.Given.FinishesMachines.{machine_of}
use Rattle.run_debts.proofs.Given.FollowsSteps.{WentTo, went_to}
use Rattle.run_debts.proofs.Given.HandsAsking.{which}
use Rattle.run_debts.specs.Given.MomentsWhole.{RefinesWhole}
use Rattle.run_blocks.specs.Owes.Short.{fault_of, RefinesShort, FindGrown, CallsPreserveShort}
use Rattle.run_blocks.proofs.Owes.Fields.{all_by, field_own, field_other}
use Rattle.run_blocks.proofs.Owes.Short.Denied.{EndsSo, MachineStays, machine_stays}
use Rattle.run_blocks.proofs.Owes.Short.Effects.{short_by, short_kept, effect_short, none_find, asked_finds, made_finds, NoneAsked, none_asked}
use Rattle.run_blocks.proofs.Owes.Short.Unmade.{unmade_so}
use Rattle.run_blocks.proofs.Owes.Tables.Held.{call_unmade}
use Rattle.run_blocks.proofs.Owes.Tables.Kinds.{MakesWhich, which_made, no_room}
use Rattle.run_debts.proofs.Given.ScenesGoes.{goes_as}
use Rattle.run_debts.specs.Given.ScenesHeld.{Held, IsAt}
use Rattle.run_debts.specs.Given.ScenesScene.{Scene}
use Rattle.run_debts.specs.Given.ScenesStepping.{StepLeads, going_on, has_ended, scene_after}
use Rattle.run_debts.proofs.Calls.{goes_as_one}

-- a table is none of shards
not_shards : (len limit turn : ℕ) (q : Bool) → (if q then kind.Pair else kind.Table len limit turn) ≡ kind.Shards → ⊥
not_shards len limit turn true e = cc e
not_shards len limit turn false e = cc e

module _ {K V : Type 0} (same : K → K → Bool) (hash : ℕ → K → ℕ) (name : ℕ → List ℕ) (m : Moment K V) (known : Known) (s : Scene K V) (old new : Held K V) (at : IsAt same hash old s)
    (whole : RefinesWhole same name m known s) (short : RefinesShort name m s) (map i : ℕ) (u : UnderWay K V K) (here : s.calls map i ≡ Some u) (said : Progress (Node K V))
    (leads : StepLeads same hash i said s old new) where
  abbrev to : WentTo same hash name m known s old new at whole.all.shown map i u here said leads
  to = went_to same hash name m known s old new at whole.all.shown map i u here said leads

  abbrev told : Changed
  told = new.changed

  abbrev its : Acting
  its = acts.Call i map

  abbrev effects : List Effect
  effects = effects_of its known told

  abbrev v : Moment K V
  v = with_effects (Some (name i)) (Some map) effects m

  abbrev led : Scene K V
  led = scene_after same s old new map i to.0 u to.1 said to.4

  -- its machine is to be refused for want of memory
  abbrev pub WasDenied : Bool → Type 0
  WasDenied h = h ≡ true → fault_of (machine_of u) ≡ Some Memory

  abbrev IsDenied : Type 0
  IsDenied = (fault_of to.1 ≡ Some Memory) × EndsSo Memory said

  pub stays : fault_of (machine_of u) ≡ Some Memory → MachineStays old.memory new.memory told same same to.0.hash to.1 said Memory
  stays fault = machine_stays old.memory new.memory told same same to.0.hash to.1 said (machine_of u) Memory fault to.3

  -- it makes no counter, and asks for no bucket

  no_shards : (b : ℕ) → told ≡ changed.Made kind.Shards b → ⊥
  no_shards b is =
      by (which_made same same to.0.hash old.memory new.memory told to.1 said (machine_of u) (call_unmade same hash name m known s old at whole.all.shown map i u here) to.3 kind.Shards b is)
    where
      by : MakesWhich (machine_of u) kind.Shards → ⊥
      by (inl pair) = cc pair
      by (inr (value, (n, table, making_is, stands, value_is), kind_is)) = not_shards table.len table.limit table.turn (table.len == 0) (ap kind_of (sym value_is) ∙ kind_is)

  pub no_bucket : (bucket : ℕ) (had : Bool) → told ≡ changed.Roomed bucket had → ⊥
  no_bucket bucket had is =
      no_room same same to.0.hash old.memory new.memory told to.1 said (machine_of u) (call_unmade same hash name m known s old at whole.all.shown map i u here) to.3 bucket had is

  -- who is short after it is to be refused

  kept_short : (x : Changed) → NoneAsked x → (h : Bool) → WasDenied h → all_by short_by (effects_of its known x) h ≡ true → IsDenied
  kept_short x none h was e =
      let so = stays (was (sym (short_kept (effects_of its known x) (none_asked its known x none) h) ∙ e)) in (so.1, so.2)

  made_short : (k : Kind) (b : ℕ) → told ≡ changed.Made k b → (h : Bool) → all_by short_by (effects_of its known (changed.Made k b)) h ≡ true → IsDenied
  made_short kind.Pair b is h e = absurd (cc e)
  made_short (kind.Table len limit turn) b is h e = absurd (cc e)
  made_short kind.Shards b is h e = absurd (no_shards b is)

  short_by_told : (x : Changed) → told ≡ x → (h : Bool) → WasDenied h → all_by short_by (effects_of its known x) h ≡ true → IsDenied
  short_by_told changed.Nothing is h was e = kept_short changed.Nothing tt h was e
  short_by_told (changed.Wrote place before after) is h was e = kept_short (changed.Wrote place before after) tt h was e
  short_by_told (changed.Took b) is h was e = kept_short (changed.Took b) tt h was e
  short_by_told (changed.Made k b) is h was e = made_short k b is h e
  short_by_told (changed.Unmade k) is h was e = unmade_so old.memory new.memory told k is same same to.0.hash to.1 said (machine_of u) to.3
  short_by_told (changed.Roomed bucket had) is h was e = absurd (no_bucket bucket had is)

  -- and who asks for a growth is not

  pub grown : (h : Bool) → WasDenied h → (NoneAsked told → ⊥) → h ≡ false
  grown true was asked = absurd (asked (stays (was refl)).0)
  grown false was asked = refl

  abbrev Finds : Changed → Type 0
  Finds x = FindGrown (name i) map (effects_of its known x) m

  module _ (c : CallThere K V) (c_is : call_of (name i) m ≡ Some c) (was : WasDenied c.is_short) where
    not_short : (x : Changed) → told ≡ x → (NoneAsked x → ⊥) → c.is_short ≡ false
    not_short x is asked = grown c.is_short was (λ none. asked (subst NoneAsked is none))

    made_find : (k : Kind) (b : ℕ) → told ≡ changed.Made k b → Finds (changed.Made k b)
    made_find kind.Pair b is = made_finds (name i) map effect.PairMade (λ d. tt) m c c_is (not_short (changed.Made kind.Pair b) is (λ none. none))
    made_find (kind.Table len limit turn) b is =
        made_finds (name i) map (effect.TableMade (table_at its turn)) (λ d. tt) m c c_is (not_short (changed.Made (kind.Table len limit turn) b) is (λ none. none))
    made_find kind.Shards b is = asked_finds (name i) map m c c_is (not_short (changed.Made kind.Shards b) is (λ none. none))

    find_by : (x : Changed) → told ≡ x → Finds x
    find_by changed.Nothing is = tt
    find_by (changed.Wrote place before after) is =
        none_find (name i) map (effects_of its known (changed.Wrote place before after)) m c c_is (none_asked its known (changed.Wrote place before after) tt)
    find_by (changed.Took b) is = none_find (name i) map (effects_of its known (changed.Took b)) m c c_is (none_asked its known (changed.Took b) tt)
    find_by (changed.Made k b) is = made_find k b is
    find_by (changed.Unmade k) is = asked_finds (name i) map m c c_is (not_short (changed.Unmade k) is (λ none. none))
    find_by (changed.Roomed bucket had) is = absurd (no_bucket bucket had is)

  -- each call after it

  pub its_there : (c : CallThere K V) × (call_of (name i) m ≡ Some c)
  its_there = let c = whole.all.shown.calls map i u here in (c.0, c.1)

  its_denied : (d : CallThere K V) → call_of (name i) v ≡ Some d → d.is_short ≡ true → IsDenied
  its_denied d d_is e =
      let field = field_own (λ (x : CallThere K V). x.is_short) short_by effect_short (name i) map effects m its_there.0 its_there.1 d d_is in
      short_by_told told refl its_there.0.is_short (short map i u here its_there.0 its_there.1) (sym field ∙ e)

  short_then : RefinesShort name v led
  short_then n j x is d d_is e = elim (which s.calls map i to.4.next n j x is) as (λ _. fault_of (machine_of x) ≡ Some Memory) [
    | inl it ↦
        ap (λ (y : Machine K V K). fault_of y) (goes_as_one to.1 said to.4.next to.4.goes_on x it.2) ∙ (its_denied d (ap (λ (k : ℕ). call_of (name k) v) (sym it.1) ∙ d_is) e).0
    | inr was ↦
        let c = whole.all.shown.calls n j x was.1 in
        let field = field_other (λ (y : CallThere K V). y.is_short) short_by effect_short (name i) map effects m (name j) (apart was.0 was.1) c.0 c.1 d d_is in
        short n j x was.1 c.0 c.1 (sym field ∙ e)
  ]
    where
      apart : (n ≡ map → j ≡ i → ⊥) → s.calls n j ≡ Some x → is_same (name j) (name i) ≡ true → ⊥
      apart other was names = (let both = whole.all.asked.apart n j map i x u was here names in other both.0 both.1)

  -- one that is under way no more has ended
  ended : to.4.next ≡ None → has_ended said ≡ false → ⊥
  ended none e =
      (let goes : option_map machine_of to.4.next ≡ going_on to.1 said = goes_as to.1 said to.4.next to.4.goes_on in
      let on : ◌≡◌ {A = Option (Machine K V K)} None (Some to.1) =
      sym (ap (option_map machine_of) none) ∙ goes ∙ ap (λ (q : Bool). if q then None else Some to.1) e in cc on)

  ends_grown : to.4.next ≡ None → (c : CallThere K V) → call_of (name i) v ≡ Some c → (said ≡ said_so.Refused Memory) ⊎ (c.is_short ≡ false)
  ends_grown none c c_is = by c.is_short refl
    where
      by : (q : Bool) → c.is_short ≡ q → (said ≡ said_so.Refused Memory) ⊎ (c.is_short ≡ false)
      by false e = inr e
      by true e = elim ((its_denied c c_is e).1) as (λ _. (said ≡ said_so.Refused Memory) ⊎ (c.is_short ≡ false)) [
        | inl refused ↦ inl refused
        | inr goes ↦ absurd (ended none goes)
      ]

  pub step_keeps_short : FindGrown (name i) map effects m × RefinesShort name v led × (to.4.next ≡ None → (c : CallThere K V) → call_of (name i) v ≡ Some c → (said ≡ said_so.Refused Memory) ⊎ (c.is_short ≡ false))
  step_keeps_short = (find_by its_there.0 its_there.1 (short map i u here its_there.0 its_there.1) told refl, short_then, ends_grown)

pub calls_keep_short : (K V : Type 0) (same : K → K → Bool) (hash : ℕ → K → ℕ) → CallsPreserveShort K V same hash
calls_keep_short K V same hash name m known s old new at whole short map i u here said leads = step_keeps_short same hash name m known s old new at whole short map i u here said leads
