-- What a reservation is not to know: it counts the pairs in no table that the root has yet to come to; nor, in blocking mode, in one that the root has left,
-- as if that were the root's still, or had been so since it began.
use Rattle.std.proofs.Common.{◌≡◌, ℕ, suc, ◌<◌, ◌≤◌, Bool, true, false, cond, ap, sym, subst, ◌∙◌, arith}
use Rattle.map_facts.specs.Given.SeizeWorld.{World}
use Rattle.map_facts.specs.Given.TablesChunks.{is_incremental}
use Rattle.map_facts.specs.Given.TablesDeclared.node.Node.{Node}
use Rattle.map_facts.specs.Given.TablesDeclared.setting.Setting.{Setting}
use Rattle.map_facts.specs.Given.TablesDeclared.table.Table.{Table}
use Rattle.map_facts.specs.Given.ResizeDeclared.sum.Sum.{Sum}
use Rattle.map_facts.specs.Given.ReservesDeclared.reserve.Reserve.{Reserve}
use Rattle.map_facts.specs.Given.ReservesDeclared.reserve.Reserving.TheVariants as at
use Rattle.map_facts.specs.Given.RuleChart.{Chart}
use Rattle.map_facts.specs.Given.RuleWords.{Blocks}
use Rattle.map_facts.specs.Given.RuleMaps.{IsTable}
use Rattle.map_facts_late.specs.FactsReserves.{IsRoot, ReserveFacts}
use Rattle.map_facts_late.specs.LateReserves.{SupersededReserveFacts}

module _ {K V : Type 0} (same : K → K → Bool) (hash : K → ℕ) (w : World (Node K V)) (caller : ℕ) (setting : Setting) (c : Chart K) (blocks : Blocks) (p : Reserve) (table : Table) (sum : Sum) where
  abbrev counting : Reserve
  counting = record p { stands = at.Sums table sum }

  one_turn : (t u : ℕ) → IsTable c blocks table t → IsTable c blocks table u → t ≡ u
  one_turn t u here there = sym (ap (λ (x : Table). x.turn) here.is) ∙ ap (λ (x : Table). x.turn) there.is

  -- wrong: it has gone on to the table behind without copying the root into it
  counts_too_early : IsTable c blocks table (suc c.first) → ReserveFacts same hash w caller setting c blocks counting → ⊥
  counts_too_early behind facts =
      let ((t, there, root), adds) = facts.point in
      by (is_incremental setting.mode) (subst (λ (u : ℕ). IsRoot same hash w caller setting c blocks u) (one_turn t (suc c.first) there behind) root)
    where
      by : (b : Bool) → cond b (suc c.first ≤ c.first) (suc c.first ≡ c.first) → ⊥
      by true l = absurd (omega (arith, l))
      by false e = absurd (omega (arith, e))

  -- wrong: in blocking mode it counts in a table that the root has left as in the root's
  counts_too_late : is_incremental setting.mode ≡ false → (t : ℕ) → IsTable c blocks table t → t < c.first → ReserveFacts same hash w caller setting c blocks counting → ⊥
  counts_too_late blocking t there left facts =
      let ((u, here, root), adds) = facts.point in
      let is : u ≡ c.first = subst (λ (b : Bool). cond b (u ≤ c.first) (u ≡ c.first)) blocking root in
      let turn = one_turn t u there here in
      absurd (omega (arith, left, is, turn))

  -- wrong: it counts there, but began only once the root had left that table
  began_too_late : (began t : ℕ) → IsTable c blocks table t → c.passed t < began → SupersededReserveFacts same hash w caller setting c blocks began counting → ⊥
  began_too_late began t there passed facts =
      let ((u, here, left), adds) = facts.point in
      let since = left.since in
      let is : c.passed u ≡ c.passed t = ap c.passed (one_turn u t here there) in
      absurd (omega (arith, since, is, passed))

  -- wrong: it has gone on to the table behind, which is the root's by now, as if the root had left that one, too
  not_left : (began : ℕ) → IsTable c blocks table c.first → SupersededReserveFacts same hash w caller setting c blocks began counting → ⊥
  not_left began root facts =
      let ((u, here, left), adds) = facts.point in
      let behind = left.behind in
      let turn = one_turn u c.first here root in
      absurd (omega (arith, behind, turn))
