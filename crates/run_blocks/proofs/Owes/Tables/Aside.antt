-- As long as calls and makings are as they were, and blocks are as much tables that are not linked, calls have the tables that they had.
use Rattle.std.specs.Prelude.{◌≡◌, ℕ, List, find, Option, Some, option_map}
use Rattle.std.proofs.Common.{refl, ap, sym, ◌∙◌, inl, inr}
use Rattle.std.proofs.lemmas.Bool.{cases_eq}
use Rattle.run_debts.specs.Given.SeizeWorld.{with_at}
use Rattle.run_debts.specs.Given.RunsSame.{is_same}
use Rattle.run_debts.specs.Given.SchedulesMoment.{UnderWay as CallThere, Moment}
use Rattle.run_debts.specs.Given.SchedulesViews.{call_of}
use Rattle.owner_calls.specs.Given.CallersTogether.{UnderWay}
use Rattle.owner_calls.proofs.Given.CallersTogether.At.{at_other}
use Rattle.run_debts.specs.Given.EffectsKnown.{Known}
use Rattle.run_debts.specs.Given.FinishesMakings.{Beginning}
use Rattle.run_debts.specs.Given.FinishesMachines.{machine_of}
use Rattle.run_blocks.specs.Owes.Tables.{HoldsTable, RefinesOwnTables, table_made, of_map}
use Rattle.run_blocks.specs.Owes.TablesBeside.{TablesBegin, StaysTables, MakingsBeginTables}
use Rattle.run_blocks.proofs.Owes.Tables.Roles.{own_table_of, own_table_is}
use Rattle.run_blocks.specs.Owes.Making.{making_of}
use Rattle.run_debts.specs.Given.ScenesScene.{Scene}

-- As a run begins there is no call, and no table.
pub tables_begin : (K V : Type 0) → TablesBegin K V
tables_begin K V roots name = record { tables = λ map i u is c c_is. absurd (cc is); whose = λ b turn shape is. absurd (cc is) }

-- blocks are as much tables that are not linked
abbrev pub AreTables : Known → Known → Type 0
AreTables known known2 = (b : ℕ) → own_table_of (known2.roles b) ≡ own_table_of (known.roles b)

module _ {K V : Type 0} (name : ℕ → List ℕ) (m v : Moment K V) (known : Known) (s t : Scene K V) (tables : RefinesOwnTables name m known s) (calls : v.calls ≡ m.calls) (under_way : t.calls ≡ s.calls) where
  pub fields_still : (n j : ℕ) (x : UnderWay K V K) → t.calls n j ≡ Some x → (c : CallThere K V) → call_of (name j) v ≡ Some c → c.table ≡ option_map (of_map n) (table_made (making_of (machine_of x)))
  fields_still n j x is c c_is =
      tables.tables n j x (sym (ap (λ (f : ℕ → ℕ → Option (UnderWay K V K)). f n j) under_way) ∙ is) c (sym (ap (λ (l : List (CallThere K V)). find (λ y. is_same y.caller (name j)) l) calls) ∙ c_is)

  module _ (known2 : Known) (makers : t.makers ≡ s.makers) (theirs : AreTables known known2) where
    still_of : (j b : ℕ) → HoldsTable s j b → HoldsTable t j b
    still_of j b (inl (n, x, is, p, has, named)) = inl (n, x, ap (λ (f : ℕ → ℕ → Option (UnderWay K V K)). f n j) under_way ∙ is, p, has, named)
    still_of j b (inr (d, is, p, has, named)) = inr (d, ap (λ (f : ℕ → Option (Beginning K)). f j) makers ∙ is, p, has, named)

    pub tables_still : RefinesOwnTables name v known2 t
    tables_still = record {
      tables = fields_still;
      whose = λ b turn shape is.
          let it = tables.whose b turn shape (own_table_is (known.roles b) turn shape (sym (theirs b) ∙ ap own_table_of is)) in (it.0, still_of it.0 b it.1);
    }

pub stays_tables : (K V : Type 0) → StaysTables K V
stays_tables K V name m v known s t tables calls under_way makers = tables_still name m v known s t tables calls under_way known makers (λ b. refl)

-- Who begins to make a map had not begun to make another one.
pub makings_begin_tables : (K V : Type 0) → MakingsBeginTables K V
makings_begin_tables K V name m known s tables i b none = record { tables = tables.tables; whose = λ x turn shape is. theirs x (tables.whose x turn shape is) }
  where
    theirs : (x : ℕ) → (j : ℕ) × HoldsTable s j x → (j : ℕ) × HoldsTable (record s { makers = with_at s.makers i (Some b) }) j x
    theirs x (j, inl call) = (j, inl call)
    theirs x (j, inr (d, is, p, has, named)) = elim (cases_eq j i) as (λ _. (k : ℕ) × HoldsTable (record s { makers = with_at s.makers i (Some b) }) k x) [
      | inl e ↦ absurd (let there : s.makers i ≡ Some d = ap s.makers (sym e) ∙ is in cc (there, none))
      | inr ne ↦ (j, inr (d, at_other s.makers i (Some b) j ne ∙ is, p, has, named))
    ]
