use Rattle.std.proofs.Common.{◌∙◌, ap, sym, subst}
use Rattle.seize_words.specs.OneMemory.Word.{block_in}
use Rattle.seize_words.specs.declared.at.At.TheVariants.{Word}
use Rattle.map_tables.specs.Chunks.{is_incremental}
use Rattle.map_tables.specs.declared.table_words.TheConstants.{NEXT}
use Rattle.map_straight.specs.Shown.Chain.{HasTables}
use Rattle.map_straight.specs.Shown.Coming.{pairs_to_come, can_go_on}
use Rattle.map_straight.proofs.Shown.Goes.{came, passed, behind_read, behind_fewer, one_less}
use Rattle.map_straight.proofs.Shown.Links.{read_as}
use Rattle.map_straight.proofs.iter.PairsIterator.next.Goals as goal

pub returns-in-Some-clause-steps : goal.returns-in-Some-clause-steps
returns-in-Some-clause-steps g c =
    let it = c.loop-self.self in let inv = c.loop-self.invariant in
    sym inv.1 ∙ came it.tables.memory.now (is_incremental it.setting.mode) it.tables.link it.len it.place c.loop-self-test.true (inv.0.1 c.loop-self-test.true) c.in-Some.place (c.in-Some.key.now, c.in-Some.value.now) c.in-Some.ensures.1 it.tables.count.0 it.tables.count.1

pub returns-in-Some-clause-goes : goal.returns-in-Some-clause-goes
returns-in-Some-clause-goes g c =
    let it = c.loop-self.self in let inv = c.loop-self.invariant in
    one_less can_go_on pairs_to_come c.args.self.now (record it { place = c.in-Some.place }) (c.in-Some.key, c.in-Some.value) (c.in-Some.key.now, c.in-Some.value.now)
    (sym inv.1 ∙ came it.tables.memory.now (is_incremental it.setting.mode) it.tables.link it.len it.place c.loop-self-test.true (inv.0.1 c.loop-self-test.true) c.in-Some.place (c.in-Some.key.now, c.in-Some.value.now) c.in-Some.ensures.1 it.tables.count.0 it.tables.count.1)
    (inv.0.0, inv.0.1, c.in-Some.ensures.0)

pub from_link-requires-clause-read : goal.from_link-requires-clause-read
from_link-requires-clause-read g c =
    let it = c.loop-self.self in
    behind_read it.tables.memory.now it.tables.link c.loop-self-test.true c.load-behind.result
    (read_as it.tables.memory.now c.look.result.memory.now (Word (block_in it.tables.link) NEXT) (Word c.block_of.result NEXT) c.look.ensures (ap (λ b. Word b NEXT) c.block_of.ensures) c.load-behind.result c.load-behind.ensures.0)
    it.tables.count.0 it.tables.count.1 c.loop-self.invariant.0.0

pub loop-self-smaller : goal.loop-self-smaller
loop-self-smaller g c =
    let it = c.loop-self.self in let on = c.from_link.result in
    behind_fewer it.tables.memory.now it.tables.link c.loop-self-test.true c.load-behind.result
    (read_as it.tables.memory.now c.look.result.memory.now (Word (block_in it.tables.link) NEXT) (Word c.block_of.result NEXT) c.look.ensures (ap (λ b. Word b NEXT) c.block_of.ensures) c.load-behind.result c.load-behind.ensures.0)
    it.tables.count.0 it.tables.count.1 on.tables.count.0
    (subst (λ m. HasTables m on.tables.count.0 c.load-behind.result) c.from_link.ensures.at.0 (subst (HasTables on.tables.memory.now on.tables.count.0) c.from_link.ensures.at.2 on.tables.count.1))

pub loop-self-preserved : goal.loop-self-preserved
loop-self-preserved g c =
    let it = c.loop-self.self in let inv = c.loop-self.invariant in let on = c.from_link.result in (
      c.from_link.ensures.can,
      c.from_link.ensures.left
          ∙ sym (passed it.tables.memory.now (is_incremental it.setting.mode) it.tables.link it.len it.place c.loop-self-test.true (inv.0.1 c.loop-self-test.true) c.in_default.ensures c.load-behind.result
          (read_as it.tables.memory.now c.look.result.memory.now (Word (block_in it.tables.link) NEXT) (Word c.block_of.result NEXT) c.look.ensures (ap (λ b. Word b NEXT) c.block_of.ensures) c.load-behind.result c.load-behind.ensures.0)
          it.tables.count.0 it.tables.count.1 on.tables.count.0
          (subst (λ m. HasTables m on.tables.count.0 c.load-behind.result) c.from_link.ensures.at.0 (subst (HasTables on.tables.memory.now on.tables.count.0) c.from_link.ensures.at.2 on.tables.count.1)))
          ∙ inv.1,
    )
