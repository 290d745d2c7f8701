-- What the effects of an operation find of the table that a call has made, and which one it has after them.
use Rattle.std.specs.Prelude.{◌≡◌, ◌<◌, ◌≤◌, ℕ, false, List, [], ◌∷◌, length, Option, Some, None}
use Rattle.std.proofs.Common.{refl, ap, sym, subst, ◌∙◌}
use Rattle.run_debts.specs.Given.RunsDeclared.call.Call.{Call}
use Rattle.run_debts.specs.Given.RunsDeclared.call.Call.TheVariants as call
use Rattle.run_debts.specs.Given.RunsDeclared.effect.Effect.{Effect}
use Rattle.run_debts.specs.Given.RunsDeclared.effect.Effect.TheVariants as effect
use Rattle.run_debts.specs.Given.RunsDeclared.effect.Growth.TheVariants.{ABlock}
use Rattle.run_debts.specs.Given.RunsDeclared.effect.TableId.{TableId}
use Rattle.run_debts.specs.Given.RunsDeclared.shapes.TableShape.{TableShape}
use Rattle.run_debts.specs.Given.SchedulesEffects.{due_for, call_by, with_effect}
use Rattle.run_debts.specs.Given.SchedulesEntry.{ByCall}
use Rattle.run_debts.specs.Given.SchedulesMoment.{UnderWay as CallThere, Moment}
use Rattle.run_debts.specs.Given.SchedulesViews.{call_of, tables_of}
use Rattle.run_blocks.specs.Owes.Tables.{FindsTable, FindTables}
use Rattle.run_blocks.proofs.Owes.Fields.{all_by, its_effect}
use Rattle.run_blocks.proofs.Owes.Tables.Roles.{of_table, NoneOfTable}

-- which table a call has after an effect
abbrev pub table_by : Effect → Option TableId → Option TableId
table_by (effect.TableMade t) h = Some t
table_by (effect.TableGivenUp t) h = None
table_by (effect.Linked t shape) h = None
table_by _ h = h

kept_by : (f : Effect) → of_table f ≡ false → (h : Option TableId) → table_by f h ≡ h
kept_by (effect.TableMade t) e h = absurd (cc e)
kept_by (effect.TableGivenUp t) e h = absurd (cc e)
kept_by (effect.Linked t shape) e h = absurd (cc e)
kept_by _ e h = refl

pub tables_kept : (effects : List Effect) → NoneOfTable effects → (h : Option TableId) → all_by table_by effects h ≡ h
tables_kept [] none h = refl
tables_kept (f ∷ fs) none h = ap (all_by table_by fs) (kept_by f none.0 h) ∙ tables_kept fs none.1 h

module _ {K V : Type 0} where
  due_table : (its : Call K V) (c : CallThere K V) (old : Option ℕ) (new : ℕ) → (due_for its c old new).table ≡ c.table
  due_table (call.On one) c old new = refl
  due_table (call.Reserve n) c old new = refl
  due_table call.Clear c old new = refl
  due_table call.Retain c old new = refl
  due_table call.Len c old new = refl
  due_table call.Walk c old new = refl

  pub effect_table : (m : Moment K V) (f : Effect) (c : CallThere K V) → (call_by m f c).table ≡ table_by f c.table
  effect_table m (effect.Asked growth) c = refl
  effect_table m effect.PairMade c = refl
  effect_table m effect.PairGivenUp c = refl
  effect_table m (effect.TableMade t) c = refl
  effect_table m (effect.TableGivenUp t) c = refl
  effect_table m (effect.Linked t shape) c = refl
  effect_table m (effect.Promoted t) c = refl
  effect_table m (effect.Copied n s) c = refl
  effect_table m (effect.Stored n s) c = due_table c.call c c.replacing n
  effect_table m (effect.Replaced n) c = refl
  effect_table m (effect.Removed n) c = due_table c.call c (Some n) _
  effect_table m (effect.Counted s) c = refl
  effect_table m (effect.Deferred n t) c = refl
  effect_table m (effect.Retired x) c = refl
  effect_table m (effect.Reclaimed x) c = refl
  effect_table m (effect.Ended n) c = refl
  effect_table m (effect.Taken t) c = refl

  quiet_finds : (m : Moment K V) (f : Effect) (c : CallThere K V) → of_table f ≡ false → FindsTable m f c
  quiet_finds m (effect.TableMade t) c e = absurd (cc e)
  quiet_finds m (effect.TableGivenUp t) c e = absurd (cc e)
  quiet_finds m (effect.Linked t shape) c e = absurd (cc e)
  quiet_finds m _ c e = tt

  -- of the call of this name
  module _ (own : List ℕ) (map : ℕ) where
    finds_by : (f : Effect) (v : Moment K V) (c : CallThere K V) → call_of own v ≡ Some c → FindsTable v f c → ByCall (FindsTable v f) (call_of own v)
    finds_by f v c is finds = subst (ByCall (FindsTable v f)) (sym is) finds

    pub none_find : (effects : List Effect) (m : Moment K V) (c : CallThere K V) → call_of own m ≡ Some c → NoneOfTable effects → FindTables own map effects m
    none_find [] m c is none = tt
    none_find (f ∷ fs) m c is none = (
      finds_by f m c is (quiet_finds m f c none.0),
      none_find fs (with_effect (Some own) (Some map) f m) (call_by m f c) (its_effect own map f m c is) none.1,
    )

    pub made_find : (t : TableId) (m : Moment K V) (c : CallThere K V) → call_of own m ≡ Some c → c.table ≡ None → t.map ≡ c.map → t.turn ≤ length (tables_of c.map m)
        → FindTables own map (effect.Asked ABlock ∷ effect.TableMade t ∷ []) m
    made_find t m c is none map_is in_turn = (
      finds_by (effect.Asked ABlock) m c is tt,
      (
        finds_by (effect.TableMade t) (with_effect (Some own) (Some map) (effect.Asked ABlock) m) (call_by m (effect.Asked ABlock) c) (its_effect own map (effect.Asked ABlock) m c is)
            (refl, none, map_is, in_turn),
        tt,
      ),
    )

    pub given_find : (t : TableId) (m : Moment K V) (c : CallThere K V) → call_of own m ≡ Some c → c.table ≡ Some t → t.turn < length (tables_of c.map m)
        → FindTables own map (effect.TableGivenUp t ∷ []) m
    given_find t m c is has in_turn = (finds_by (effect.TableGivenUp t) m c is (has, in_turn), tt)

    pub linked_find : (t : TableId) (shape : TableShape) (m : Moment K V) (c : CallThere K V) → call_of own m ≡ Some c → c.table ≡ Some t → FindTables own map (effect.Linked t shape ∷ []) m
    linked_find t shape m c is has = (finds_by (effect.Linked t shape) m c is has, tt)
