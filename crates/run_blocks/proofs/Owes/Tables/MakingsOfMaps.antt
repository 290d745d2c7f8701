-- A step of the making of a map makes the first table of that map, goes on with it, or links it; and each table that is not linked is somebody's.
use Rattle.std.specs.Prelude.{◌≡◌, ◌≢◌, ℕ, Bool, false, List, [], ◌∷◌, Option, Some, None}
use Rattle.std.proofs.Common.{refl, ap, sym, subst, ◌∙◌, arith, inl, inr}
use Rattle.run_debts.specs.Given.SeizeWordsWord.{block_in}
use Rattle.run_debts.specs.Given.SeizeWorld.{World}
use Rattle.run_debts.specs.Given.SeizeDeclared.advance.Advance.{Advance}
use Rattle.run_debts.specs.Given.SeizeDeclared.advance.Advance.TheVariants as progress
use Rattle.run_debts.specs.Given.TablesDeclared.node.Node.{Node}
use Rattle.run_debts.specs.Given.TablesDeclared.setting.Setting.{Setting}
use Rattle.run_debts.specs.Given.TablesDeclared.table.Table.{Table as Planned}
use Rattle.run_debts.specs.Given.TablesDeclared.node.Node.TheVariants as node
use Rattle.owner_calls.specs.Given.ResizeDeclared.new_map.NewMap.{NewMap}
use Rattle.owner_calls.specs.Given.ResizeDeclared.new_table.Making.{Making}
use Rattle.owner_calls.specs.Given.ResizeDeclared.new_table.NewTable.{NewTable}
use Rattle.owner_calls.specs.Given.ResizeDeclared.new_table.Making.TheVariants as makings
use Rattle.run_debts.specs.Given.RunsDeclared.effect.Effect.{Effect}
use Rattle.run_debts.specs.Given.RunsDeclared.effect.Effect.TheVariants as effect
use Rattle.run_debts.specs.Given.SchedulesEffects.{with_effects}
use Rattle.run_debts.specs.Given.SchedulesMoment.{Moment}
use Rattle.run_debts.specs.Given.TellerChanged.{kind_of}
use Rattle.run_debts.specs.Given.EffectsDeclared.changed.Changed.{Changed}
use Rattle.run_debts.specs.Given.EffectsDeclared.changed.Changed.TheVariants as changed
use Rattle.run_debts.specs.Given.EffectsDeclared.changed.Kind.TheVariants as kind
use Rattle.owner_calls.specs.Given.CallersTogether.{UnderWay}
use Rattle.owner_calls.proofs.Given.CallersTogether.At.{at_other, at_same}
use Rattle.run_debts.specs.Given.EffectsEffects.{effects_of, known_after}
use Rattle.run_debts.specs.Given.EffectsKnown.{Known}
use Rattle.run_debts.specs.Given.EffectsDeclared.acting.Acting.{Acting}
use Rattle.run_debts.specs.Given.EffectsDeclared.acting.Acting.TheVariants as acts
use Rattle.run_debts.specs.Given.FinishesEndings.{MakingStepsWithEndings}
use Rattle.run_debts.specs.Given.FinishesMakings.{Beginning}
use Rattle.run_debts.specs.Given.FollowsShows.{Refines}
use Rattle.run_debts.proofs.Given.FollowsOperations.{LeavesBy}
use Rattle.run_debts.specs.Given.OthersMakings.{making_after}
use Rattle.run_debts.proofs.Given.OthersMakes.{left}
use Rattle.run_debts.proofs.Given.OthersQuiet.{calls_none}
use Rattle.run_blocks.specs.Owes.Making.{making_in_opening}
use Rattle.run_blocks.specs.Owes.Tables.{table_in, table_made, HoldsTable, RefinesOwnTables}
use Rattle.run_blocks.specs.Owes.TablesBeside.{MakesFirst, MakingsPreserveOwnTables}
use Rattle.run_blocks.proofs.Owes.InHand.{free_there}
use Rattle.run_blocks.proofs.Owes.MakingsOfMaps.{opening_which}
use Rattle.run_blocks.proofs.Owes.Planned.{IsMadeBy}
use Rattle.run_blocks.proofs.Owes.Tables.Aside.{fields_still}
use Rattle.run_blocks.proofs.Owes.Tables.Goes.{with_table, with_made}
use Rattle.run_blocks.proofs.Owes.Tables.Held.{OpeningMade, some_making, role_there, maker_made, maker_hands, held_by, noted_by}
use Rattle.run_blocks.proofs.Owes.Tables.Hosts.{Within, OpeningGoes, Any, opening_within}
use Rattle.run_blocks.proofs.Owes.Tables.Leaves.{IsOneStep, TableGoes, Stays, IsMade, IsGivenUp, IsLinked, LeavesTables, left_without}
use Rattle.run_blocks.proofs.Owes.Tables.Roles.{of_table, NoneOfTable, FreeBefore, does_to_tables}
use Rattle.run_debts.specs.Given.ScenesHeld.{Held, IsAt}
use Rattle.run_debts.specs.Given.ScenesMaking.{MakingHasOutcome, MakingStepsFrom}
use Rattle.run_debts.specs.Given.ScenesScene.{Scene, slot_of}
use Rattle.run_debts.proofs.Given.General.{same_some as one_of}

-- effects that say nothing of such a table make none
first_none : (map : ℕ) (effects : List Effect) → NoneOfTable effects → MakesFirst map effects
first_none map [] none = tt
first_none map (f ∷ effects) none = by f none.0 (first_none map effects none.1)
  where
    by : (f : Effect) → of_table f ≡ false → MakesFirst map effects → MakesFirst map (f ∷ effects)
    by (effect.TableMade t) e rest = absurd (cc e)
    by _ e rest = rest

module _ {K V : Type 0} (same : K → K → Bool) (hash : ℕ → K → ℕ) (name : ℕ → List ℕ) (m : Moment K V) (known : Known) (s : Scene K V) (old new : Held K V) (at : IsAt same hash old s)
    (shown : Refines same name m known s) (tables : RefinesOwnTables name m known s) (i : ℕ) (b : Beginning K) (here : s.makers i ≡ Some b) (end : NewMap) (said : Advance Setting)
    (steps : MakingStepsFrom b.machine old new end said)
    (did : MakingStepsWithEndings V same same old.batch_size old.roots slot_of s.world s.maps s.calls s.makers s.enders i b new.memory (end, said)) (of : Option ℕ)
    (comes : MakingHasOutcome same hash s old new i b end did.step.w2 said) where
  abbrev w2 : World (Node K V)
  w2 = did.step.w2

  abbrev told : Changed
  told = new.changed

  abbrev its : Acting
  its = acts.Making b.map

  abbrev known2 : Known
  known2 = known_after its told known

  abbrev effects : List Effect
  effects = effects_of its known told

  abbrev v : Moment K V
  v = with_effects None of effects m

  -- where it has come, by what it says

  abbrev After : (q : Advance Setting) → MakingHasOutcome same hash s old new i b end w2 q → Scene K V
  After q c = making_after same hash s old new i b end w2 q c

  at_after : (q : Advance Setting) (c : MakingHasOutcome same hash s old new i b end w2 q) → IsAt same hash new (After q c)
  at_after progress.Goes c = c
  at_after progress.Waits c = absurd c
  at_after (progress.Done setting) c = c.2
  at_after (progress.Refused fault) c = c

  same_calls : (q : Advance Setting) (c : MakingHasOutcome same hash s old new i b end w2 q) → (After q c).calls ≡ s.calls
  same_calls progress.Goes c = refl
  same_calls progress.Waits c = refl
  same_calls (progress.Done setting) c = refl
  same_calls (progress.Refused fault) c = refl

  others_make : (q : Advance Setting) (c : MakingHasOutcome same hash s old new i b end w2 q) (j : ℕ) → j ≢ i → (After q c).makers j ≡ s.makers j
  others_make progress.Goes c j ne = at_other s.makers i (Some (record b { machine = end })) j ne
  others_make progress.Waits c j ne = refl
  others_make (progress.Done setting) c j ne = at_other s.makers i None j ne
  others_make (progress.Refused fault) c j ne = at_other s.makers i None j ne

  abbrev now_of : Advance Setting → Option Planned
  now_of progress.Goes = table_made (making_in_opening end.stands)
  now_of progress.Waits = None
  now_of (progress.Done setting) = None
  now_of (progress.Refused fault) = None

  its_then : (q : Advance Setting) (c : MakingHasOutcome same hash s old new i b end w2 q) (p : Planned) → now_of q ≡ Some p → HoldsTable (After q c) i (block_in p.link)
  its_then progress.Goes c p has = inr (record b { machine = end }, at_same s.makers i (Some (record b { machine = end })) i refl, p, has, refl)
  its_then progress.Waits c p has = absurd c
  its_then (progress.Done setting) c p has = absurd (cc has)
  its_then (progress.Refused fault) c p has = absurd (cc has)

  abbrev led : Scene K V
  led = After said comes

  abbrev had : Option Planned
  had = table_made (making_in_opening b.machine.stands)

  abbrev now : Option Planned
  now = now_of said

  its_own : (x : ℕ) → HoldsTable s i x → (p : Planned) × (had ≡ Some p) × (x ≡ block_in p.link)
  its_own x (inl (n, u, is, p, has, named)) = absurd (let none = at.together.makings.alone i b here n in cc (none, is))
  its_own x (inr (d, is, p, has, named)) =
      (p, subst (λ (y : Beginning K). table_made (making_in_opening y.machine.stands) ≡ Some p) (one_of d b (sym is ∙ here)) has, named)

  others_then : (j x : ℕ) → j ≢ i → HoldsTable s j x → HoldsTable led j x
  others_then j x ne (inl (n, u, is, p, has, named)) = inl (n, u, ap (λ (f : ℕ → ℕ → Option (UnderWay K V K)). f n j) (same_calls said comes) ∙ is, p, has, named)
  others_then j x ne (inr (d, is, p, has, named)) = inr (d, others_make said comes j ne ∙ is, p, has, named)

  leaves : LeavesBy s.world.memory w2.memory told
  leaves = left same hash name m known s old new at shown i b here end said steps did of

  makes_free : (x : Changed) → LeavesBy s.world.memory w2.memory x → FreeBefore its known x
  makes_free (changed.Made k y) l = free_there s.world m.stored known shown.blocks.roles y l.0
  makes_free changed.Nothing l = tt
  makes_free (changed.Wrote place before after) l = tt
  makes_free (changed.Unmade k) l = tt
  makes_free (changed.Took y) l = tt
  makes_free (changed.Roomed bucket had_one) l = tt

  -- The moment after it shows where it has come.
  module _ (shown_then : Refines same name v known2 led) where
    one : IsOneStep its known told s led i had now 0
    one = record {
      whose = tables.whose;
      own = its_own;
      others = others_then;
      now_holds = λ p is. its_then said comes p is;
      hands = λ j x holds. held_by same hash name v known2 led new (at_after said comes) shown_then j x holds;
      noted = λ j x holds. noted_by same hash name v known2 led new (at_after said comes) shown_then j x holds;
    }

    abbrev Left : Type 0
    Left = LeavesTables its known told s led i had now 0

    -- where the step is one of this making, it goes on so
    module _ (n : NewTable) (making_is : making_in_opening b.machine.stands ≡ Some n) where
      abbrev inner : Within old.memory new.memory told n (OpeningGoes old.memory new.memory told b.machine (end, said)) (Any old.memory new.memory told b.machine (end, said))
      inner = opening_within old.memory new.memory told b.machine (end, said) n making_is steps

      its_making : OpeningMade same hash name m known s old at shown i n
      its_making = maker_made same hash name m known s old at shown i b here n making_is

      goes_on : inner.0.1 ≡ progress.Goes → now ≡ table_in inner.0.0.stands
      goes_on goes = let so = inner.2.0 goes in ap now_of so.1 ∙ ap table_made so.0

      with_its_table : (p : Planned) → table_in n.stands ≡ Some p → Left
      with_its_table p has =
          let had_is : had ≡ Some p = ap table_made making_is ∙ has in
          let hands = maker_hands same hash name m known s old at shown i b here p had_is in
          with_table its known told s led i had now 0 one old.memory new.memory n inner.0 inner.1 goes_on its_making.2
          p has had_is hands (role_there same hash name m known s old at shown i p hands) its_making.1

      made_its : had ≡ None → (value : Node K V) (table : Planned) → n.stands ≡ makings.Makes table → value ≡ node.Table table.len table.limit table.turn → (x len limit turn : ℕ)
          → told ≡ changed.Made (kind.Table len limit turn) x → kind_of value ≡ kind.Table len limit turn → Left
      made_its none value table stands value_is x len limit turn made_it kind_is =
          with_made its known told s led i had now 0 one old.memory new.memory n inner.0 inner.1 goes_on its_making.2
          none table stands (subst (λ (p : Making). IsMadeBy s.world i p) stands its_making.0) x len limit turn made_it (ap kind_of (sym value_is) ∙ kind_is)

    made_table : had ≡ None → (x len limit turn : ℕ) → told ≡ changed.Made (kind.Table len limit turn) x → Left
    made_table none x len limit turn made_it =
        elim (opening_which s.world i old.roots b.machine old.memory new.memory told (end, said) b.machine.stands steps (kind.Table len limit turn) x made_it) as (λ _. Left) [
          | inl (value, (n, table, making_is, stands, value_is), kind_is) ↦ made_its n making_is none value table stands value_is x len limit turn made_it kind_is
          | inr shards ↦ absurd (cc shards)
        ]

    pub left_tables : Left
    left_tables = by had refl
      where
        by : (o : Option Planned) → had ≡ o → Left
        by None e = left_without its known told s led i had now 0 one e (made_table e) (does_to_tables its known told (makes_free told leaves))
        by (Some p) e = let n = some_making (making_in_opening b.machine.stands) p e in with_its_table n.0 n.1 p n.2

    first_by : TableGoes its known told s led i had now 0 → MakesFirst b.map effects
    first_by (Stays quiet as_before) = first_none b.map effects quiet
    first_by (IsMade p effects_are none has in_turn) = let first : p.turn ≡ 0 = omega (arith, in_turn) in subst (MakesFirst b.map) (sym effects_are) (refl, first, tt)
    first_by (IsGivenUp p effects_are had_it none in_turn) = subst (MakesFirst b.map) (sym effects_are) tt
    first_by (IsLinked p effects_are had_it none) = subst (MakesFirst b.map) (sym effects_are) tt

    pub making_keeps : MakesFirst b.map effects × RefinesOwnTables name v known2 led
    making_keeps = (
      first_by left_tables.goes,
      record { tables = fields_still name m v known s led tables (calls_none of effects m) (same_calls said comes); whose = left_tables.whose },
    )

module _ (K V : Type 0) (same : K → K → Bool) (hash : ℕ → K → ℕ) where
  pub makings_keep_tables : MakingsPreserveOwnTables K V same hash
  makings_keep_tables name m known s old new at shown tables i told leads b here of shown_then =
      let to = leads b here in making_keeps same hash name m known s old new at shown tables i b here to.0 told to.1 to.2 of to.3 shown_then
