-- A step of a row on a slot: the moment after its effects shows the scene after it, also where it reclaims a pair or a table.
use Rattle.std.specs.Prelude.{◌&&◌, ◌≡◌, ◌≢◌, ℕ, zero, suc, nat_lt, Bool, List, [], ◌∷◌, Option, Some, None}
use Rattle.std.proofs.Common.{refl, ap, sym, subst, ◌∙◌, arith}
use Rattle.seize_words.specs.declared.at.At.TheVariants.{Root, Used, Slot, Entry, Word}
use Rattle.seize_words.specs.OneMemory.Mem.{Mem, value_at}
use Rattle.seize.specs.Sequence.{taken_in}
use Rattle.seize.specs.World.{World, Hand, Step, Steps', times}
use Rattle.run_shows.proofs.Scenes.May.{may_row}
use Rattle.run_effects.proofs.Given.SeizeRuleRows.Effects.{hand_kept}
use Rattle.seize_acts.proofs.Given.SeizeAloneSpared.Rows.{RowStepped}
use Rattle.seize_acts.proofs.Given.SeizeAloneHistories.NotTaken.{did, taken_gone}
use Rattle.seize_acts.proofs.Given.SeizeAloneHistories.Reached.{Reached}
use Rattle.run_effects.specs.Given.TablesNodes.{deferred_word}
use Rattle.run_effects.specs.Given.TablesDeclared.node.Node.{Node}
use Rattle.run_effects.specs.Given.RunsDeclared.effect.Effect.{Effect}
use Rattle.run_effects.specs.Given.RunsDeclared.effect.Effect.TheVariants.{PairGivenUp, TableGivenUp, Reclaimed}
use Rattle.run_effects.specs.Given.RunsDeclared.effect.Thing.TheVariants.{APair, ATable}
use Rattle.run_effects.specs.Given.SchedulesEffects.{with_effects, AtEachEffect}
use Rattle.run_effects.specs.Given.SchedulesMoment.{Handed, IsReclaimed, Moment}
use Rattle.run_effects.specs.declared.changed.Changed.{Changed}
use Rattle.run_effects.specs.declared.changed.Changed.TheVariants as changed
use Rattle.run_effects.specs.Given.RuleInWorld.{IsMapIn}
use Rattle.many_maps.proofs.Given.CallersTogether.Came.{came_reached}
use Rattle.many_maps.specs.Maps.{Standing, IsSameMap}
use Rattle.run_effects.specs.Effects.Effects.{names_same, taken_by, effects_of, known_after}
use Rattle.run_effects.specs.Effects.Known.{Known, with_role}
use Rattle.run_effects.specs.declared.acting.Acting.TheVariants.{Row}
use Rattle.run_effects.specs.declared.role.Role.{Role}
use Rattle.run_effects.specs.declared.role.Role.TheVariants as role
use Rattle.run_shows.specs.declared.row.RowTold.{RowTold}
use Rattle.run_shows.specs.declared.row.SlotRow.{SlotRow}
use Rattle.run_shows.specs.Follows.Blocks.{WasLinked}
use Rattle.run_shows.specs.Follows.Calls.{RefinesCalls}
use Rattle.run_shows.specs.Follows.Shows.{Refines}
use Rattle.run_shows.proofs.Follows.Alike.{AllStill}
use Rattle.run_shows.proofs.Follows.Operations.{StaysThere, LeavesBy, operated_leaves}
use Rattle.run_shows.proofs.Follows.Told.{roomed_as_many}
use Rattle.run_shows.specs.Others.After.{RefinesAfter}
use Rattle.run_shows.specs.Others.Gone.{WasRetired}
use Rattle.run_shows.specs.Others.Rows.{scene_then, RowsOnSlotsAreShown}
use Rattle.run_shows.proofs.Others.Leads.{roomed_still, either_still, calls_then, quiet, gone_quiet}
use Rattle.run_shows.proofs.Others.RowPlans.{TellsRow, row_tells, row_operated}
use Rattle.run_shows.proofs.Others.Retired.{retired_apart}
use Rattle.run_shows.proofs.Others.Scenes.{pair_gone, table_gone}
use Rattle.run_shows.proofs.Others.Stays.{StaysBlock, same_there}
use Rattle.run_shows.specs.Scenes.Held.{Held, IsAt}
use Rattle.run_shows.specs.Scenes.OnSlots.{HappensAt, RowSteps}
use Rattle.run_shows.specs.Scenes.Scene.{IsOnSlot, Scene}

-- a block that is there still, if it was, is as it was
module _ {K V : Type 0} (size : ℕ) (w w2 : World (Node K V)) (r : Reached deferred_word size w) (i : ℕ) (step : Steps' deferred_word i (w.row i) w w2) where
  abbrev it : RowStepped deferred_word i w w2
  it = did deferred_word size w r i w2 step

  pub row_stays : (b : ℕ) → StaysThere w.memory w2.memory b → StaysBlock w w2 b
  row_stays b there = by (times b (taken_in it.effects)) refl
    where
      by : (n : ℕ) → times b (taken_in it.effects) ≡ n → StaysBlock w w2 b
      by zero e = record {
        value = it.frames.values b e;
        linked = λ value is linked. subst (λ (h : Hand). WasLinked h) (sym (ap (λ (h : ℕ → Hand). h b) it.hands ∙ hand_kept b it.effects w.hand e it.one)) linked;
      }
      by (suc n) e = none (value_at w.memory b) refl
        where
          gone : value_at w2.memory b ≡ None
          gone = taken_gone deferred_word size w r i w2 step b (λ z. omega (arith, e, z))

          none : (o : Option (Node K V)) → value_at w.memory b ≡ o → StaysBlock w w2 b
          none None f = record { value = gone ∙ sym f; linked = λ value is linked. absurd (cc (f, is)) }
          none (Some value) f = absurd (let now = (there.there value f).1 in cc (gone, now))

-- Where such a step leads, whichever row it is of, or if it is of none: what is there stays so, but for a block that was taken away, and maps are as they were.
module _ {K V : Type 0} (same : K → K → Bool) (name : ℕ → List ℕ) (m : Moment K V) (known : Known) (s : Scene K V) (shown : Refines same name m known s)
    (w2 : World (Node K V)) (maps2 : ℕ → Option (Standing K)) (maps_same : (n : ℕ) → IsSameMap (s.maps n) (maps2 n)) (stays : (b : ℕ) → StaysThere s.world.memory w2.memory b → StaysBlock s.world w2 b)
    (stood : (n : ℕ) (before : Standing K) → s.maps n ≡ Some before → IsMapIn same before.hash before.setting s.world before.chart before.blocks)
    (stand : (n : ℕ) (st : Standing K) → maps2 n ≡ Some st → IsMapIn same st.hash st.setting w2 st.chart st.blocks) where
  abbrev rest : Scene K V
  rest = record s { world = w2; maps = maps2 }

  -- where these are the effects
  abbrev Goal : List Effect → Known → Type 0
  Goal effects after = RefinesAfter same name m known s shown (with_effects None None effects m) after rest

  still : (effects : List Effect) (after : Known) → AllStill effects → after.roles ≡ known.roles → after.stored ≡ known.stored → ((b : ℕ) → StaysThere s.world.memory w2.memory b) → Goal effects after
  still effects after none roles as_many there = quiet same name m known s shown w2 maps2 maps_same None rest shown.calls effects after none roles as_many (λ b. stays b (there b))

  -- a block was taken away
  module _ (b : ℕ) (gone : value_at w2.memory b ≡ None) (there : (x : ℕ) → x ≢ b → StaysThere s.world.memory w2.memory x) where
    abbrev free : Known
    free = with_role b role.Free known

    others : (x : ℕ) → x ≢ b → StaysBlock s.world w2 x
    others x ne = stays x (there x ne)

    calls : (effects : List Effect) → RefinesCalls same name (with_effects None None effects m) s.calls
    calls = calls_then same name m known s shown w2 maps2 maps_same None rest shown.calls

    none_moved : (effects : List Effect) → AllStill effects → Goal effects free
    none_moved effects none = gone_quiet same name m known s shown w2 maps2 maps_same None rest shown.calls stood stand effects none b gone others

    taken : (r : Role) → known.roles b ≡ r → AtEachEffect WasRetired None None (taken_by Row r) m → Goal (taken_by Row r) free
    taken role.Free e may = none_moved [] tt
    taken (role.OwnPair caller) e may = none_moved (PairGivenUp ∷ []) (refl, tt)
    taken (role.OwnTable turn shape) e may = none_moved (TableGivenUp (record { map = 0; turn = turn }) ∷ []) (refl, tt)
    taken (role.Counter map) e may = none_moved [] tt
    taken (role.Pair k) e may =
        pair_gone same name m known s shown w2 maps2 maps_same stood stand b gone others free refl refl rest (with_effects None None (Reclaimed (APair k) ∷ []) m) refl
        (calls (Reclaimed (APair k) ∷ [])) k e refl refl refl refl
    taken (role.Table t len) e may =
        table_gone same name m known s shown w2 maps2 maps_same stood stand b gone others free refl refl rest (with_effects None None (Reclaimed (ATable t) ∷ []) m) refl
        (calls (Reclaimed (ATable t) ∷ [])) IsReclaimed t Handed (λ n before at. retired_apart n (shown.number n) before m known (shown.maps n before at) t may.0.0) may.0.1 (λ n. refl) refl refl refl refl

  pub row_leads : (told : Changed) → TellsRow told → LeavesBy s.world.memory w2.memory told → AtEachEffect WasRetired None None (effects_of Row known told) m
      → RefinesAfter same name m known s shown (with_effects None None (effects_of Row known told) m) (known_after Row told known) (record s { world = w2; maps = maps2 })
  row_leads changed.Nothing is l may = still [] known tt refl refl l
  row_leads (changed.Wrote (Slot t field) old new) is l may = still [] known tt refl refl (same_there s.world.memory w2.memory l.2)
  row_leads (changed.Wrote (Entry b field) old new) is l may = still _ known (either_still (names_same old new)) refl refl (same_there s.world.memory w2.memory l.2)
  row_leads (changed.Wrote (Root r) old new) is l may = absurd is
  row_leads (changed.Wrote (Used r) old new) is l may = absurd is
  row_leads (changed.Wrote (Word b field) old new) is l may = absurd is
  row_leads (changed.Made kind b) is l may = absurd is
  row_leads (changed.Unmade kind) is l may = absurd is
  row_leads (changed.Took b) is l may = taken b l.1 l.2 (known.roles b) refl may
  row_leads (changed.Roomed bucket had) is l may =
      let alike = roomed_as_many Row known bucket had in still (effects_of Row known (changed.Roomed bucket had)) _ (roomed_still (had && nat_lt bucket known.buckets)) alike.0 alike.1 l

module _ {K V : Type 0} (same : K → K → Bool) (hash : ℕ → K → ℕ) (name : ℕ → List ℕ) (m : Moment K V) (known : Known) (s : Scene K V) (old new : Held K V) (at : IsAt same hash old s)
    (shown : Refines same name m known s) (i : ℕ) (row : SlotRow) (here : IsOnSlot s i row) (end : SlotRow × RowTold (Node K V))
    (steps : RowSteps K V row old.memory new.memory new.changed end) (happened : HappensAt same hash (Step i) s old new) where
  abbrev w : World (Node K V)
  w = s.world

  abbrev told : Changed
  told = new.changed

  left : LeavesBy w.memory happened.0.memory told
  left =
      subst (λ (n : Mem (Node K V)). LeavesBy w.memory n told) (sym happened.4.memory)
      (subst (λ (n : Mem (Node K V)). LeavesBy n new.memory told) (sym at.memory)
      (operated_leaves old.memory new.memory told
      (row_operated old.memory new.memory told end row (may_row same hash old s at i row here) steps)))

  pub row_shown : AtEachEffect WasRetired None None (effects_of Row known told) m
      → RefinesAfter same name m known s shown (with_effects None None (effects_of Row known told) m) (known_after Row told known) (scene_then same hash (Step i) s old new happened)
  row_shown may =
      row_leads same name m known s shown happened.0 happened.2 happened.3
      (row_stays old.batch_size w happened.0 (came_reached old.batch_size w at.together.makings.standing.came) i happened.1)
      (λ n before e. (at.together.makings.standing.each n before e).ground.map) (λ n st e. (happened.4.together.makings.standing.each n st e).ground.map)
      told (row_tells old.memory new.memory told end row steps) left may

module _ (K V : Type 0) (same : K → K → Bool) (hash : ℕ → K → ℕ) where
  pub rows_on_slots_are_shown : RowsOnSlotsAreShown K V same hash
  rows_on_slots_are_shown name m known s old new at shown i told leads row here may =
      let to = leads row here in row_shown same hash name m known s old new at shown i row here (to.0, told) to.1 to.2 may
