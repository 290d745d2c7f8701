-- The making of a table has seen only another call's table, which its section holds; a counting sees nothing.
use Rattle.std.specs.Prelude.{ℕ, ◌/◌, nat_lt}
use Rattle.std.proofs.Common.{◌≡◌, true, inl, inr, sym, subst}
use Rattle.run_shows.specs.Given.SeizeWordsDeclared.at.At.{At}
use Rattle.run_shows.specs.Given.SeizeWordsDeclared.at.At.TheVariants.{Word}
use Rattle.run_shows.specs.Given.SeizeWordsMem.{Mem, value_at}
use Rattle.run_shows.specs.Given.SeizeWorld.{World}
use Rattle.run_shows.specs.Given.SeizeDeclared.advance.Advance.{Advance}
use Rattle.run_shows.specs.Given.TablesNodes.{table_seen}
use Rattle.run_shows.specs.Given.TablesDeclared.node.Node.{Node}
use Rattle.run_shows.specs.Given.TablesDeclared.setting.Setting.{Setting}
use Rattle.run_shows.specs.Given.TablesDeclared.table.Table.{Table}
use Rattle.run_shows.specs.Given.ResizeNewTable as new_table
use Rattle.run_shows.specs.Given.ResizeNewTable.{new_table_plan}
use Rattle.run_shows.specs.Given.ResizeSum as sum
use Rattle.run_shows.specs.Given.ResizeSum.{sum_plan}
use Rattle.run_shows.specs.Given.ResizeDeclared.new_table.Making.{Making}
use Rattle.run_shows.specs.Given.ResizeDeclared.new_table.Making.TheVariants as at
use Rattle.run_shows.specs.Given.ResizeDeclared.new_table.NewTable.{NewTable}
use Rattle.run_shows.specs.Given.ResizeDeclared.sum.Sum.{Sum}
use Rattle.run_shows.specs.Given.ResizeDeclared.sum.Summing.{Summing}
use Rattle.run_shows.specs.Given.ResizeDeclared.sum.Summing.TheVariants as summing
use Rattle.run_shows.specs.Given.RuleChart.{Chart}
use Rattle.run_shows.specs.Given.RuleWords.{Blocks}
use Rattle.owner_facts.specs.Given.LateLateCalls.{SupersededFirst, SupersededFirstFacts}
use Rattle.owner_facts.specs.Given.PointsFactsTables.{MakingFacts, NewTableFacts}
use Rattle.many_acts.specs.Looks.Sees.{HasSeen}
use Rattle.many_acts.proofs.Looks.Sees.Held.{AllSeen, table_held}
use Rattle.many_acts.proofs.Looks.Sees.Operations.{none_if, loads, exchanges, makes}
use Rattle.many_acts.proofs.Looks.Sees.Plans.{seen_as, sees_one}

module _ {T : Type 0} (b : ℕ) (m n : Mem T) (c : Sum) (end : Sum × Advance ℕ) where
  none_at : (stands : Summing) → HasSeen b m (sum.plan_at c stands) n end → ⊥
  none_at (summing.Adds shard total) seen =
      let l = loads b m n (Word c.setting.counter shard) end (sum.added c shard total) seen in
      none_if b (value_at n) (nat_lt shard c.setting.mask) _ _ (λ x. x) (λ x. x) l.3.1
  none_at (summing.Over count) seen = seen.2

  pub sum_sees_none : HasSeen b m (sum_plan c) n end → ⊥
  sum_sees_none = none_at c.stands

module _ {K V : Type 0} (w : World (Node K V)) (slot caller : ℕ) (c : Chart K) (seen : Blocks) (setting : Setting) (Held : ℕ → Type 0) (within : AllSeen Held c seen)
    (link : At) (turn : ℕ) (p : NewTable) (b : ℕ) (n : Mem (Node K V)) (end : NewTable × Advance Table) where
  abbrev IsHeld : Type 0
  IsHeld = Held b

  by_point : (stands : Making) → MakingFacts w caller setting c seen link turn stands → HasSeen b w.memory (new_table.plan_at p stands) n end → IsHeld
  by_point (at.Sums before reason sum) point saw =
      let s = seen_as (new_table.counted p before reason) b w.memory (sum_plan sum) n end saw in absurd (sum_sees_none b w.memory n sum s.0 s.2)
  by_point (at.Makes table) point saw = elim (makes b w.memory n end (new_table.made p table) _ _ saw) as (λ _. IsHeld) [
    | inl made ↦ absurd made.1.1
    | inr back ↦ absurd back.1.1
  ]
  by_point (at.Promotes table) point saw = absurd saw.3
  by_point (at.Links table) point saw = elim (exchanges b w.memory n p.link end (new_table.linked p table) 0 table.link saw) as (λ _. IsHeld) [
    | inl made ↦ absurd made.1.1
    | inr found ↦ absurd found.3.1
  ]
  by_point (at.Drops table found) (own, u, stands, made, known, is, planned) saw =
      subst (λ (x : ℕ). Held x) (sym (sees_one b (found / 2048) (value_at n) (λ value. new_table.done p (table_seen found value)) saw.3))
      (table_held w slot c seen Held within found u (is, made, known))
  by_point (at.Over table) point saw = absurd saw.2
  by_point (at.Refused fault) point saw = absurd saw.2

  pub new_table_sees : NewTableFacts w caller setting c seen link turn p → HasSeen b w.memory (new_table_plan p) n end → IsHeld
  new_table_sees facts saw = by_point p.stands facts.point saw

-- the making of a first table that came too late, in blocking mode
module _ {K V : Type 0} (w : World (Node K V)) (slot caller : ℕ) (c : Chart K) (seen : Blocks) (setting : Setting) (Held : ℕ → Type 0) (within : AllSeen Held c seen)
    (began : ℕ) (p : NewTable) (b : ℕ) (n : Mem (Node K V)) (end : NewTable × Advance Table) where
  by_left : (stands : Making) → SupersededFirst w caller setting c seen began stands → HasSeen b w.memory (new_table.plan_at p stands) n end → Held b
  by_left (at.Drops table found) (own, planned, u, left, made, known, is) saw =
      subst (λ (x : ℕ). Held x) (sym (sees_one b (found / 2048) (value_at n) (λ value. new_table.done p (table_seen found value)) saw.3))
      (table_held w slot c seen Held within found u (is, made, known))
  by_left (at.Over table) point saw = absurd saw.2
  by_left _ point saw = absurd point

  pub left_first_sees : SupersededFirstFacts w caller setting c seen began p → HasSeen b w.memory (new_table_plan p) n end → Held b
  left_first_sees facts saw = by_left p.stands facts.point saw
