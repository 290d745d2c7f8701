-- The list of what waits behind a table: who stands in it waits there, and no more often than in all.
use Rattle.std.specs.Prelude.{◌≡◌, ℕ, zero, suc, ◌+◌, ◌≤◌, ◌==◌, Bool, true, false, cond, List, [], ◌∷◌, length, filter, map, find, Some, if◌then◌else◌}
use Rattle.std.specs.List.{AllByRecursion}
use Rattle.std.proofs.Common.{refl, ap, sym, ◌∙◌, arith, length-append, inl, inr}
use Rattle.std.proofs.lemmas.Bool.{cases_eq, ne_eqb}
use Rattle.run_finds.specs.Given.RunsLifeCycle.{times}
use Rattle.run_finds.specs.Given.RunsDeclared.effect.TableId.{TableId}
use Rattle.run_finds.specs.Given.SchedulesMoment.{Place, Unborn, InMap, Out, Handed, Behind, Left, GivenBack, UnderWay, Deferral, Stage, Moment}
use Rattle.run_finds.specs.Given.SchedulesThings.{same_table}
use Rattle.run_finds.specs.Given.SchedulesViews.{call_of, behind}
use Rattle.run_finds.specs.Given.RuleChart.{Chart}
use Rattle.run_finds.specs.Given.FollowsMaps.{table_of, shape_at, tables_to}
use Rattle.run_finds.specs.Given.RunsSame.{is_same}
use Rattle.run_finds.specs.Waiting.{is_out, is_behind_one, once_if, owed_in, put_in, owed_by, PairsArePlaced}

-- a map has so many tables
pub many_tables : {K : Type 0} (map : ℕ) (c : Chart K) (stage : ℕ → Stage) (n : ℕ) → length (tables_to map c stage n) ≡ n
many_tables map c stage zero = refl
many_tables map c stage (suc n) =
    let rest = many_tables map c stage n in
    let more = length-append (tables_to map c stage n) (record { table = table_of map n; shape = shape_at map c n; stage = stage n } ∷ []) in
    omega (arith, rest, more)

module _ (t : TableId) (j : ℕ) where
  -- as often as behind any at most
  pub no_more_behind : (ds : List Deferral) → times j (behind t ds) ≤ put_in j ds
  no_more_behind [] = omega arith
  no_more_behind (d ∷ ds) = by (same_table d.behind t) (no_more_behind ds)
    where
      by : (q : Bool) → times j (behind t ds) ≤ put_in j ds → times j (map (λ (x : Deferral). x.pair) (cond q (d ∷ filter (λ (x : Deferral). same_table x.behind t) ds) (filter (λ (x : Deferral). same_table x.behind t) ds))) ≤ put_in j (d ∷ ds)
      by true rest = omega (arith, rest)
      by false rest = omega (arith, rest)

  -- who is listed waits behind it
  module _ (P : Deferral → Type 0) where
    abbrev pub WaitsThere : Type 0
    WaitsThere = (d : Deferral) × P d × (d.pair ≡ j) × (same_table d.behind t ≡ true)

    pub listed_waits : (ds : List Deferral) → AllByRecursion P ds → 1 ≤ times j (behind t ds) → WaitsThere
    listed_waits [] all some = absurd (omega (arith, some))
    listed_waits (d ∷ ds) all some = by (same_table d.behind t) refl some (listed_waits ds all.1)
      where
        by : (q : Bool) → same_table d.behind t ≡ q
            → 1 ≤ times j (map (λ (x : Deferral). x.pair) (cond q (d ∷ filter (λ (x : Deferral). same_table x.behind t) ds) (filter (λ (x : Deferral). same_table x.behind t) ds)))
            → (1 ≤ times j (behind t ds) → WaitsThere) → WaitsThere
        by false e some rest = rest some
        by true e some rest = elim (cases_eq j d.pair) as (λ _. WaitsThere) [
          | inl is ↦ (d, all.0, sym is, e)
          | inr ne ↦ rest (let none : ◌≡◌ {A = ℕ} (if j == d.pair then 1 else 0) 0 = ap (λ (q : Bool). if q then 1 else 0) (ne_eqb j d.pair ne) in omega (arith, some, none))
        ]

-- a pair that is out is behind no table
out_not_behind : (p : Place) → 1 ≤ once_if (is_out p) → once_if (is_behind_one p) ≡ 0
out_not_behind Out l = refl
out_not_behind Unborn l = refl
out_not_behind (InMap map) l = refl
out_not_behind Handed l = refl
out_not_behind Behind l = absurd (omega (arith, l))
out_not_behind Left l = refl
out_not_behind GivenBack l = refl

-- a pair that a call owes is behind no table
module _ {K V : Type 0} (own : List ℕ) where
  owed_among : (calls : List (UnderWay K V)) (c : UnderWay K V) → find (λ (d : UnderWay K V). is_same d.caller own) calls ≡ Some c → (n : ℕ) → owed_in n c.owes ≤ owed_by n calls
  owed_among [] c is n = absurd (cc is)
  owed_among (d ∷ ds) c is n = by (is_same d.caller own) is (λ e. owed_among ds c e n)
    where
      by : (q : Bool) → cond q (Some d) (find (λ (x : UnderWay K V). is_same x.caller own) ds) ≡ Some c
          → (find (λ (x : UnderWay K V). is_same x.caller own) ds ≡ Some c → owed_in n c.owes ≤ owed_by n ds) → owed_in n c.owes ≤ owed_in n d.owes + owed_by n ds
      by true found rest = (let one : d ≡ c = cc found in let e = ap (λ (x : UnderWay K V). owed_in n x.owes) one in omega (arith, e))
      by false found rest = (let l = rest found in omega (arith, l))

  pub owed_not_behind : (m : Moment K V) (placed : PairsArePlaced m) (c : UnderWay K V) → call_of own m ≡ Some c → (n : ℕ) → 1 ≤ owed_in n c.owes → put_in n m.deferred ≡ 0
  owed_not_behind m placed c is n some =
      let among = owed_among m.calls c is n in
      let owed = placed.owed n in
      placed.put n ∙ out_not_behind (m.place n) (omega (arith, some, among, owed))
