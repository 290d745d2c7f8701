-- What is done beside calls, in the midst of an event: the event goes on by its entry, or as it was where there is none, and callers are as they were played.
use Rattle.std.specs.Prelude.{◌++◌, ◌==◌, ◌+◌, ◌≤◌, Option, if◌then◌else◌}
use Rattle.std.proofs.Common.{◌≡◌, ℕ, Bool, true, false, List, refl, sym, ap, subst, ◌∙◌}
use Rattle.seize.specs.declared.advance.Advance.{Advance}
use Rattle.seize.specs.declared.advance.Advance.TheVariants as progress
use Rattle.seize.specs.declared.rows.leave.Leave.{Leave}
use Rattle.seize.specs.declared.rows.leave.Leaving.{Leaving}
use Rattle.seize.specs.declared.rows.leave.Leaving.TheVariants as leaves
use Rattle.seize.specs.declared.rows.register.Registering.{Registering}
use Rattle.seize.specs.declared.rows.register.Registering.TheVariants as registers
use Rattle.seize.specs.declared.rows.settle.Settled.{Settled}
use Rattle.seize.specs.declared.states.TheConstants.{ACTIVE}
use Rattle.map_tables.specs.declared.setting.Setting.{Setting}
use Rattle.run_finds.specs.Given.ResizeDeclared.new_map.NewMap.{NewMap}
use Rattle.run_kept.specs.Given.EffectsDeclared.changed.Changed.{Changed}
use Rattle.many_acts.specs.Given.ScenesDeclared.row.SlotRow.{SlotRow}
use Rattle.many_acts.specs.Given.ScenesDeclared.row.SlotRow.TheVariants as rows
use Rattle.run_schedules.specs.declared.effect.Effect.{Effect}
use Rattle.run_schedules.specs.declared.event.Event.{Event}
use Rattle.run_schedules.specs.declared.outcome.Outcome.{Outcome}
use Rattle.run_schedules.specs.Schedules.After.{moment}
use Rattle.run_schedules.specs.Schedules.Entry.{Entry}
use Rattle.run_kept.specs.Given.EffectsEffects.{effects_of, known_after}
use Rattle.run_kept.specs.Given.EffectsKnown.{Known}
use Rattle.run_kept.specs.Given.EffectsDeclared.acting.Acting.{Acting}
use Rattle.run_finds.specs.Given.ExecutorDeclared.caller.NamedCaller.{NamedCaller}
use Rattle.many_acts.specs.Acts.Acts.{Answer}
use Rattle.run_schedules.specs.Deeds.Deeds.{Deed, Registers, Opens, Shuts, Leaves, Tends, MapComes, Makes, MapFails, Ends, MapGoes, ReclaimsAll}
use Rattle.play_lists.specs.Played.Play.{Calling, Ending, Making, Now, State, began, ending_deed, has_root, is_over, is_refusal, leaves_as, made_on, making_deed, pairs_for, registers_as, row_deed, worked}
use Rattle.play_lists.specs.Grouped.Grouping.{MayHave, Names, is_step, names_after, names_on}
use Rattle.play_lists.specs.Grouped.Called.{CallersAre, IsCalledAs}
use Rattle.play_lists.specs.Agrees.Fresh.{comes_with}
use Rattle.play_lists.proofs.Grouped.Midst.{InEvent, event_goes_on, maps_of}
use Rattle.run_finds.proofs.Given.General.{all_so as each_so}

module _ {K V : Type 0} where
  -- It begins no call, and is no step of one.
  pub record IsAside (d : Deed K V) : Type 0 where
    pub named : (event : Event K V) (names : Names) → names_on event d names ≡ names
    pub still : is_step d ≡ false

  opens : (s : ℕ) → IsAside (Opens s)
  opens s = record { named = λ event names. refl; still = refl }

  leaves_slot : (s : ℕ) → IsAside (Leaves s)
  leaves_slot s = record { named = λ event names. refl; still = refl }

  registers_at : (s : ℕ) → IsAside (Registers s)
  registers_at s = record { named = λ event names. refl; still = refl }

  shuts : (s : ℕ) → IsAside (Shuts s)
  shuts s = record { named = λ event names. refl; still = refl }

  tends : (s : ℕ) → IsAside (Tends s)
  tends s = record { named = λ event names. refl; still = refl }

  pub all_aside : (last : Bool) → IsAside (ReclaimsAll last)
  all_aside last = record { named = λ event names. refl; still = refl }

  registering : (stands : Registering) (s : ℕ) → IsAside (registers_as stands s)
  registering registers.Begin s = registers_at s
  registering registers.Look s = registers_at s
  registering (registers.Widen bucket head) s = registers_at s
  registering (registers.Take head) s = registers_at s
  registering registers.Enter s = opens s
  registering registers.Registered s = registers_at s
  registering (registers.Refused fault) s = registers_at s

  leaving : (c : Leave) (stands : Leaving) → IsAside (leaves_as c stands)
  leaving c leaves.Swaps = shuts c.slot
  leaving c (leaves.Settles settle) = leaves_slot c.slot
  leaving c leaves.Frees = leaves_slot c.slot
  leaving c leaves.Over = by (c.becomes == ACTIVE)
    where
      by : (q : Bool) → IsAside (if q then Opens c.slot else Leaves c.slot)
      by true = opens c.slot
      by false = leaves_slot c.slot

  pub row_aside : (row : SlotRow) → IsAside (row_deed row)
  row_aside (rows.Registers c) = registering c.stands c.slot
  row_aside (rows.Enters c) = opens c.slot
  row_aside (rows.Leaves c) = leaving c c.stands
  row_aside (rows.Flushes c) = tends c.slot
  row_aside (rows.Frees c) = tends c.slot

  pub making_aside : (map : ℕ) (before after : NewMap) → IsAside (making_deed map before after)
  making_aside map before after = by (has_root before.stands) (has_root after.stands)
    where
      by : (b c : Bool) → IsAside (if b then (if c then Makes map else MapFails map) else (if c then MapComes map after.setting.root after.setting.mode (pairs_for after.len) else Makes map))
      by true true = record { named = λ event names. refl; still = refl }
      by true false = record { named = λ event names. refl; still = refl }
      by false true = record { named = λ event names. refl; still = refl }
      by false false = record { named = λ event names. refl; still = refl }

  pub ending_aside : {T : Type 0} (f : Ending) (told : Settled T) → IsAside (ending_deed f told)
  ending_aside f told = by (is_over told)
    where
      by : (b : Bool) → IsAside (if b then MapGoes f.map else Ends f.map)
      by true = record { named = λ event names. refl; still = refl }
      by false = record { named = λ event names. refl; still = refl }

module _ {K V S : Type 0} where
  -- callers are as they were played while calls are
  pub callers_same : (names : Names) (calls : List (NamedCaller V)) (x y : State K V S) → y.now.calls ≡ x.now.calls → CallersAre names calls x → CallersAre names calls y
  callers_same names calls x y same so = record {
    each = each_so (λ d. IsCalledAs names x d) (λ d. IsCalledAs names y d)
        (λ d is. record {
          name = is.name;
          call = is.call;
          here = ap (λ (f : ℕ → ℕ → Option (Calling K V)). f d.map d.number) same ∙ is.here;
          kind = is.kind;
          value = is.value;
        }) calls so.each;
    once = so.once;
  }

  -- by a step of a making no call goes on
  pub made_calls : (i : ℕ) (b : Making S) (machine : NewMap) (told : Advance Setting) (now : Now K V S) → (made_on i b machine told now).calls ≡ now.calls
  made_calls i b machine progress.Goes now = refl
  made_calls i b machine progress.Waits now = refl
  made_calls i b machine (progress.Done setting) now = refl
  made_calls i b machine (progress.Refused fault) now = refl

module _ {K V S : Type 0} (log : List (Entry K V)) (event : Event K V) (did : List Effect) (steps : ℕ) (outcome : Outcome V) (calls : List (NamedCaller V)) (x : State K V S)
    (so : InEvent log event did steps outcome calls x) (now : Now K V S) (same_calls : now.calls ≡ x.now.calls) where
  -- nothing is said of what has begun
  pub begun_aside : InEvent log event did steps outcome calls (began now x)
  begun_aside = record {
    known = so.known;
    before = so.before;
    grouping = so.grouping;
    piece = so.piece;
    history = so.history;
    effects = so.effects;
    counts = so.counts;
    comes = so.comes;
    deeds = so.deeds;
    callers = callers_same (names_after event so.piece so.known) calls x (began now x) same_calls so.callers;
    fresh = so.fresh;
  }

  module _ (who : Acting) (changed : Changed) (deed : Deed K V) (outcome2 : Outcome V) (answer : Answer K V) (aside : IsAside deed)
      (kept : (n : ℕ) → (moment log).made + maps_of event ≤ n → comes_with n deed ≡ false) (may : (names : Names) → MayHave names (moment log) event deed) where
    abbrev z : State K V S
    z = worked who changed deed outcome2 answer now x

    -- and what has one operation is an entry
    pub worked_aside : InEvent log event (did ++ effects_of who x.known changed) steps outcome2 calls z
    worked_aside =
        let names = names_after event so.piece so.known in
        event_goes_on log event did steps outcome calls calls x z so (record { deed = deed; outcome = outcome2; effects = effects_of who x.known changed; refused = is_refusal changed }) refl kept aside.still
        (aside.named event names) (may names) (callers_same names calls x z same_calls so.callers)

    -- with what was noted of it
    pub works_on : (noted noted2 : Known) (did2 : List Effect) → x.known ≡ noted → did2 ≡ did ++ effects_of who noted changed → noted2 ≡ known_after who changed noted → (y : State K V S) → y ≡ z
        → (y.known ≡ noted2) × InEvent log event did2 steps outcome2 calls y
    works_on noted noted2 did2 knows did_is noted_is y y_is = (
      ap (λ (w : State K V S). w.known) y_is ∙ ap (known_after who changed) knows ∙ sym noted_is,
      subst (λ (w : State K V S). InEvent log event did2 steps outcome2 calls w) (sym y_is)
          (subst (λ (l : List Effect). InEvent log event l steps outcome2 calls z) (ap (λ (k : Known). did ++ effects_of who k changed) knows ∙ sym did_is) worked_aside),
    )
