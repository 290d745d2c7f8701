-- A scheduler stands where a row on a slot has run, and others are there.
use Rattle.std.specs.Prelude.{◌≡◌, ◌≢◌, ◌⊎◌, ◌==◌, ◌&&◌, ℕ, Bool, true, false, List, [], ◌∷◌, map, Option, Some, None, option_map, if◌then◌else◌}
use Rattle.std.specs.List.{AllByRecursion}
use Rattle.std.proofs.Common.{refl, sym, ap, ◌∙◌, inl, inr, eqb-true}
use Rattle.std.proofs.lemmas.Bool.{cases_eq}
use Rattle.seize.specs.World.{World}
use Rattle.papaya_raw.specs.Given.TablesDeclared.setting.Setting.{Setting}
use Rattle.run_schedules.specs.Runs.Present.{Present, HaveNames, guards_on}
use Rattle.run_schedules.specs.declared.effect.Effect.{Effect}
use Rattle.run_schedules.specs.declared.effect.Effect.TheVariants.{Promoted}
use Rattle.run_schedules.specs.declared.effect.TableId.{TableId}
use Rattle.run_schedules.specs.Schedules.Effects.{maps_by, promoted, with_effect, with_effects}
use Rattle.run_schedules.specs.Schedules.Moment.{MapThere, Remains, Sheltered, UnderWay as CallThere, Moment}
use Rattle.run_schedules.specs.Schedules.Terms.{Terms}
use Rattle.run_shows.specs.Given.CallersTogether.{UnderWay}
use Rattle.run_logged.specs.Given.EffectsKnown.{known}
use Rattle.run_shows.specs.declared.row.RowTold.{RowTold}
use Rattle.run_shows.specs.declared.row.SlotCall.{SlotCall}
use Rattle.run_shows.specs.Given.FinishesMaps.{Standing}
use Rattle.run_logged.specs.Log.Shown.{IsShown}
use Rattle.run_logged.specs.declared.logged.Logged.{Logged}
use Rattle.run_shows.proofs.Others.Quiet.{calls_none}
use Rattle.papaya_raw.specs.Given.TablesDeclared.node.Node.{Node}
use Rattle.play_scheduler.specs.Played.{IsUnderWay, RefinesFor}
use Rattle.run_logged.specs.Rows.Rows.{RowRan, used_as}
use Rattle.run_executor.specs.Named.Seen.{named, seen}
use Rattle.run_executor.specs.declared.named_map.NamedMap.{NamedMap}
use Rattle.play_scheduler.specs.declared.scheduler.Scheduler.{Scheduler}
use Rattle.run_logged.proofs.Given.RemainsStays.{remains_stay}
use Rattle.run_logged.proofs.Rows.Elsewhere.{elsewhere, shown_elsewhere, kept_elsewhere, counted_elsewhere}
use Rattle.run_logged.proofs.Rows.Facts.{no_ending_of, no_making_of, no_work_at, row_rests}
use Rattle.run_logged.proofs.Rows.Lists.{all_so, one_of, unseen}
use Rattle.run_logged.proofs.Rows.Ran.{Led}
use Rattle.run_logged.proofs.Rows.There.{on_its_slot}
use Rattle.run_executor.specs.Executing.IsThere.{use_at, work_of}
use Rattle.run_executor.specs.Executing.OnSlots.{MayBegin, NobodyIn}
use Rattle.run_shows.specs.Scenes.Scene.{Scene, slot_of}
use Rattle.seize_words.proofs.General.{both_true}

-- names and numbers of maps stay, whatever effects there are
same_named : (t : TableId) (f : MapThere) → named (promoted t f) ≡ named f
same_named t f = by (f.number == t.map)
  where
    by : (b : Bool) → named (if b then record f { first = t.turn } else f) ≡ named f
    by true = refl
    by false = refl

one_named : (effect : Effect) (maps : List MapThere) → map named (maps_by effect maps) ≡ map named maps
one_named (Promoted t) maps = unseen named (promoted t) (same_named t) maps
one_named _ maps = refl

module _ {K V : Type 0} where
  pub maps_named : (caller : Option (List ℕ)) (acted : Option ℕ) (effects : List Effect) (m : Moment K V) → map named (with_effects caller acted effects m).maps ≡ map named m.maps
  maps_named caller acted [] m = refl
  maps_named caller acted (f ∷ effects) m = maps_named caller acted effects (with_effect caller acted f m) ∙ one_named f m.maps

  pub there_stays : (caller : Option (List ℕ)) (acted : Option ℕ) (effects : List Effect) (m : Moment K V) → (with_effects caller acted effects m).there ≡ m.there
  there_stays caller acted [] m = refl
  there_stays caller acted (f ∷ effects) m = there_stays caller acted effects (with_effect caller acted f m)

pub some_setting : {K : Type 0} (o : Option (Standing K)) (x : Setting) → option_map (λ st. st.setting) o ≡ Some x → (standing : Standing K) × (o ≡ Some standing)
some_setting None x e = absurd (cc e)
some_setting (Some st) x e = (st, refl)

module _ {K V S : Type 0} (same : K → K → Bool) (hash : K → ℕ) (terms : Terms) (m : Moment K V) (p : Scheduler K V S) (stands : RefinesFor same hash terms m p) where
  -- while no guard of calls is on a slot, nobody has anything under way in it
  pub nobody_by : (there : Present) → AllByRecursion (IsUnderWay stands.name stands.scene there) p.calls → (slot : ℕ) → guards_on slot there.guards ≡ 0 → NobodyIn p.logged.executor slot
  nobody_by there each slot none i at = stands.rests i no_call
    where
      no_call : (n : ℕ) → stands.scene.calls n i ≡ None
      no_call n = by (stands.scene.calls n i) refl
        where
          by : (o : Option (UnderWay K V K)) → stands.scene.calls n i ≡ o → stands.scene.calls n i ≡ None
          by None is = is
          by (Some u) is =
              let d = one_of (IsUnderWay stands.name stands.scene there) (λ d. (d.map == n) && (d.number == i)) p.calls (stands.calls.only n i u is) each in
              let number = eqb-true d.0.number i (both_true (d.0.map == n) (d.0.number == i) d.2).1 in
              absurd (on_its_slot d.0.guard there.guards slot (d.1.3 ∙ ap Some (ap slot_of number ∙ at)) none)

  -- so it is while none at all is on it
  pub nobody_in : (slot : ℕ) → guards_on slot p.there.guards ≡ 0 → NobodyIn p.logged.executor slot
  nobody_in slot none = nobody_by p.there stands.calls.each slot none

  module _ (slot : ℕ) (called : SlotCall) (said : RowTold (Node K V)) (before after : List Effect) (new : Logged K V S) (ran : RowRan slot called said before after p.logged new) (may : MayBegin p.logged.executor slot called)
      (led : Led same hash ran.caller stands.scene new.executor) (over : work_of new.executor ran.caller ≡ None) where
    abbrev w : Moment K V
    w = with_effects None None ran.did m

    abbrev to : (world : World (Node K V)) × (maps : ℕ → Option (Standing K)) × IsShown same hash stands.name w new (record stands.scene { world = world; maps = maps })
    to = ran.shown same hash stands.name m stands.scene stands.shown may

    abbrev then_at : Scene K V
    then_at = record stands.scene { world = to.0; maps = to.1 }

    stand_then : (t : NamedMap) → ((standing : Standing K) × (stands.scene.maps t.number ≡ Some standing)) → (standing : Standing K) × (then_at.maps t.number ≡ Some standing)
    stand_then t st =
        some_setting (to.1 t.number) st.0.setting
        (to.2.is_at.maps t.number ∙ sym (led.at.maps t.number) ∙ led.settings t.number ∙ ap (option_map (λ x. x.setting)) st.1)

    rests_then : (j : ℕ) → ((n : ℕ) → stands.scene.calls n j ≡ None) → work_of new.executor j ≡ None
    rests_then j none = by (cases_eq j ran.caller)
      where
        by : (j ≡ ran.caller) ⊎ (j ≢ ran.caller) → work_of new.executor j ≡ None
        by (inl e) = ap (work_of new.executor) e ∙ over
        by (inr ne) =
            let at = stands.shown.is_at in
            let idle = stands.rests j none in
            no_work_at same hash new.executor (record stands.scene { world = led.w; maps = led.maps }) led.at j none (no_making_of same hash p.logged.executor stands.scene at j idle)
            (no_ending_of same hash p.logged.executor stands.scene at j idle) (led.rows j ne ∙ row_rests same hash p.logged.executor stands.scene at j idle)

    pub stands_ran : (there2 : Present) → AllByRecursion (IsUnderWay stands.name stands.scene there2) p.calls → ((t : ℕ) → use_at new.executor t ≡ used_as t there2) → HaveNames there2
        → (there : Present) → there ≡ there2 → (events : ℕ) (is_alone : Bool) (slots : ℕ) (sheltered : List Sheltered) (remains : List Remains) → remains ≡ m.remains
        → RefinesFor same hash terms (elsewhere events m.is_mapped m.is_closed is_alone there slots sheltered remains w) (record p { logged = new; there = there2 })
    stands_ran there2 each used names there is events is_alone slots sheltered remains alike = record {
      name = stands.name;
      scene = then_at;
      shown = record {
        is_at = to.2.is_at;
        shows = shown_elsewhere w (known new.notes) events m.is_mapped m.is_closed is_alone there slots sheltered remains same stands.name then_at to.2.shows;
        kept = kept_elsewhere w (known new.notes) events m.is_mapped m.is_closed is_alone there slots sheltered remains stands.name then_at to.2.kept;
        counted = counted_elsewhere w (known new.notes) events m.is_mapped m.is_closed is_alone there slots sheltered remains new then_at (alike ∙ sym (remains_stay None None ran.did m)) to.2.counted;
      };
      given = stands.given;
      there = is;
      mapped = stands.mapped;
      closed = stands.closed;
      calls = let c = stands.calls in record {
        listed = ap (λ (l : List (CallThere K V)). map seen l) (calls_none None ran.did m) ∙ c.listed;
        once = c.once;
        each = each;
        only = c.only;
      };
      maps = let c = stands.maps in record {
        listed = maps_named None None ran.did m ∙ c.listed;
        stand = all_so (λ t. (standing : Standing K) × (stands.scene.maps t.number ≡ Some standing)) (λ t. (standing : Standing K) × (then_at.maps t.number ≡ Some standing)) stand_then p.maps c.stand;
      };
      slots = used;
      rests = rests_then;
      names = names;
    }
