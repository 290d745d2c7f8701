-- A making of a map has made as many tables as its map has, and one more while it has that in hand.
use Rattle.std.specs.Prelude.{◌≡◌, ◌+◌, ◌==◌, ℕ, Bool, true, false, List, [], ◌∷◌, ◌++◌, length, filter, Option, Some, None, if◌then◌else◌}
use Rattle.std.specs.List.{list_all}
use Rattle.std.proofs.Common.{refl, ap, sym, subst, ◌∙◌, arith, length-append}
use Rattle.std.proofs.lemmas.Bool.{and_parts, eq-eqb}
use Rattle.std.proofs.lemmas.List.Elements.{filter-append}
use Rattle.papaya_raw.specs.Given.SeizeDeclared.advance.Advance.{Advance}
use Rattle.papaya_raw.specs.Given.SeizeDeclared.advance.Advance.TheVariants as progress
use Rattle.papaya_raw.specs.Given.TablesDeclared.setting.Setting.{Setting}
use Rattle.papaya_raw.specs.Given.TablesDeclared.table.Table.{Table as Planned}
use Rattle.run_schedules.specs.declared.shapes.TableShape.{TableShape}
use Rattle.run_schedules.specs.declared.effect.Effect.{Effect}
use Rattle.run_schedules.specs.declared.effect.Effect.TheVariants as effect
use Rattle.run_schedules.specs.declared.effect.Growth.TheVariants.{ABlock}
use Rattle.run_schedules.specs.declared.effect.TableId.{TableId}
use Rattle.run_schedules.specs.Schedules.Effects.{with_effect, with_effects}
use Rattle.run_schedules.specs.Schedules.Handing.{is_first_making, is_table_made}
use Rattle.run_schedules.specs.Schedules.Moment.{TableThere, Moment}
use Rattle.run_schedules.specs.Schedules.Views.{tables_of}
use Rattle.run_finds.specs.Given.EffectsEffects.{effects_of, known_after, table_at}
use Rattle.run_finds.specs.Given.EffectsKnown.{Known}
use Rattle.run_finds.specs.Given.EffectsDeclared.acting.Acting.{Acting}
use Rattle.run_finds.specs.Given.EffectsDeclared.acting.Acting.TheVariants as acts
use Rattle.run_kept.specs.Given.FinishesMakings.{Beginning}
use Rattle.run_finds.specs.Given.FollowsShows.{Refines}
use Rattle.run_kept.specs.Given.OthersMakings.{NotesCounter, making_after}
use Rattle.run_kept.specs.Given.OwesTables.{RefinesOwnTables}
use Rattle.run_kept.proofs.Given.OwesTables.Held.{shape_of}
use Rattle.run_kept.proofs.Given.OwesTables.Leaves.{Stays, IsMade, IsGivenUp, IsLinked}
use Rattle.run_kept.proofs.Given.OwesTables.MakingsOfMaps.{left_tables}
use Rattle.run_kept.proofs.Given.OwesTables.Roles.{of_table, NoneOfTable}
use Rattle.run_sweeps.specs.Needs.Makings.{CountsTables, MakingsCountTables, in_hand, table_left}
use Rattle.run_sweeps.proofs.Needs.Makings.{makings_do_theirs}
use Rattle.run_finds.specs.Given.ScenesHeld.{Held, IsAt}
use Rattle.run_kept.specs.Given.ScenesMaking.{MakingLeads}
use Rattle.run_finds.specs.Given.ScenesScene.{Scene}
use Rattle.run_sweeps.proofs.Given.FindsGrown.{linked_as as linked}

-- Of the effects of a making those that say nothing of tables make none, and the map has as many as before.
module _ {K V : Type 0} (map : ℕ) (of : Option ℕ) where
  abbrev LeavesMany : List Effect → Moment K V → Type 0
  LeavesMany fs m = (length (filter is_table_made fs) ≡ 0) × (length (tables_of map (with_effects None of fs m)) ≡ length (tables_of map m))

  quiet_leave : (fs : List Effect) (m : Moment K V) → list_all is_first_making fs ≡ true → NoneOfTable fs → LeavesMany fs m
  quiet_leave [] m firsts none = (refl, refl)
  quiet_leave (f ∷ fs) m firsts none =
      let both = and_parts (is_first_making f) (list_all is_first_making fs) firsts in
      by f both.0 none.0 (quiet_leave fs (with_effect None of f m) both.1 none.1)
    where
      by : (g : Effect) → is_first_making g ≡ true → of_table g ≡ false → LeavesMany fs (with_effect None of g m) → LeavesMany (g ∷ fs) m
      by (effect.Asked ABlock) first quiet rest = rest
      by (effect.TableMade t) first quiet rest = absurd (cc quiet)
      by (effect.Linked t shape) first quiet rest = absurd (cc quiet)
      by _ first quiet rest = absurd (cc first)

  -- one that links a table brings it to the map
  one_more : (t : TableId) (shape : TableShape) (m : Moment K V) → t.map ≡ map → length (tables_of map (with_effects None of (effect.Linked t shape ∷ []) m)) ≡ length (tables_of map m) + 1
  one_more t shape m its =
      ap length (filter-append (λ (u : TableThere). u.table.map == map) m.tables (linked t shape ∷ []))
      ∙ length-append (tables_of map m) (filter (λ (u : TableThere). u.table.map == map) (linked t shape ∷ []))
      ∙ ap (λ (q : Bool). length (tables_of map m) + length (if q then linked t shape ∷ [] else [])) (eq-eqb t.map map its)

module _ {K V : Type 0} (same : K → K → Bool) (hash : ℕ → K → ℕ) (name : ℕ → List ℕ) (m : Moment K V) (known : Known) (s : Scene K V) (old new : Held K V) (at_s : IsAt same hash old s)
    (shown : Refines same name m known s) (tables : RefinesOwnTables name m known s) (i : ℕ) (told : Advance Setting) (leads : MakingLeads same hash i told s old new)
    (b : Beginning K) (here : s.makers i ≡ Some b) (noted : NotesCounter known b) (of : Option ℕ) (done : List Effect) (counts : CountsTables b.map done m (table_left b.machine progress.Goes)) where
  abbrev its : Acting
  its = acts.Making b.map

  abbrev effects : List Effect
  effects = effects_of its known new.changed

  abbrev left : Option Planned
  left = table_left (leads b here).0 told

  firsts : list_all is_first_making effects ≡ true
  firsts = makings_do_theirs K V same hash name m known s old new at_s shown i told leads b here noted

  abbrev Goal : List Effect → Type 0
  Goal fs = CountsTables b.map (done ++ fs) (with_effects None of fs m) left

  as_effects : (fs : List Effect) → effects ≡ fs → Goal fs → Goal effects
  as_effects fs are so = subst Goal (sym are) so

  -- so many are made, so many came to the map, and one is in hand, or not
  count_on : (fs : List Effect) (made more : ℕ) → length (filter is_table_made fs) ≡ made → length (tables_of b.map (with_effects None of fs m)) ≡ length (tables_of b.map m) + more
      → more + in_hand left ≡ made + in_hand (table_left b.machine progress.Goes) → Goal fs
  count_on fs made more made_is more_is left_is =
      let all = ap length (filter-append is_table_made done fs) ∙ length-append (filter is_table_made done) (filter is_table_made fs) in omega (arith, all, counts, made_is, more_is, left_is)

  tables_counted : Refines same name (with_effects None of effects m) (known_after its new.changed known)
      (making_after same hash s old new i b (leads b here).0 (leads b here).2.step.w2 told (leads b here).3) → Goal effects
  tables_counted shown_then =
      elim ((left_tables same hash name m known s old new at_s shown tables i b here (leads b here).0 told (leads b here).1 (leads b here).2 of (leads b here).3 shown_then).goes) as (λ _. Goal effects) [
        | Stays quiet as_before ↦
            let many = quiet_leave b.map of effects m firsts quiet in
            count_on effects 0 0 many.0 (let same_many = many.1 in omega (arith, same_many)) (let hand = ap in_hand as_before in omega (arith, hand))
        | IsMade p effects_are none has in_turn ↦
            as_effects _ effects_are
            (count_on (effect.Asked ABlock ∷ effect.TableMade (table_at its p.turn) ∷ []) 1 0 refl (omega arith)
            (let before = ap in_hand none in let now = ap in_hand has in omega (arith, before, now)))
        | IsGivenUp p effects_are had none in_turn ↦ absurd (omega (arith, in_turn))
        | IsLinked p effects_are had none ↦
            as_effects _ effects_are
            (count_on (effect.Linked (table_at its p.turn) (shape_of p) ∷ []) 0 1 refl (one_more b.map of (table_at its p.turn) (shape_of p) m refl)
            (let before = ap in_hand had in let now = ap in_hand none in omega (arith, before, now)))
      ]

pub makings_count_tables : (K V : Type 0) (same : K → K → Bool) (hash : ℕ → K → ℕ) → MakingsCountTables K V same hash
makings_count_tables K V same hash name m known s old new at_s shown tables i told leads b here noted of done counts shown_then =
    tables_counted same hash name m known s old new at_s shown tables i told leads b here noted of done counts shown_then
