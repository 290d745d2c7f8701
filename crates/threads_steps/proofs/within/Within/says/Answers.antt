use Rattle.std.specs.Prelude.{ℕ, Option, Some}
use Rattle.std.proofs.Common.{sym, subst, ap, ◌∙◌}
use Rattle.map_measures.specs.ByKey.ByKey.{by_key}
use Rattle.papaya_raw.specs.declared.machines.asking.MachineReply.{MachineReply}
use Rattle.papaya_raw.specs.declared.machines.asking.Takes.TheVariants.{Choices}
use Rattle.threads_rule.specs.Views.Looks.{shown_in}
use Rattle.threads_steps.specs.Asking.{MayTest, TestSays, removes_if, reply_of}
use Rattle.threads_rule.specs.Errands.Calling.{IsAsking, IsUnderWay}
use Rattle.threads_kinds.specs.CallKinds.Kinds.{Stage, IsFit, PairIsVisible, stage_after}
use Rattle.threads_steps.proofs.Pausing.{asks_there, same_stage, same_word, shown_at, test_fits, test_says}
use Rattle.threads_steps.proofs.Told.{asks_pair}
use Rattle.threads_steps.proofs.within.Within.says.Goals as goal

pub word_of-word-requires : goal.word_of-word-requires
word_of-word-requires g c =
    let p = asks_there c.requires.asks.0 c.args.hasher.now c.args.self.now.seat.now.view c.args.pair (by_key g.Q.Equivalent.stands_for c.args.machine.now) c.requires.asks.1 in record { there = (p.0, p.1) }

pub tested-yes-requires-clause-shown : goal.tested-yes-requires-clause-shown
tested-yes-requires-clause-shown g c =
    let v = c.args.self.now.seat.now.view in
    let p = asks_there c.requires.asks.0 c.args.hasher.now v c.args.pair (by_key g.Q.Equivalent.stands_for c.args.machine.now) c.requires.asks.1 in
    subst (λ (w : ℕ). PairIsVisible (shown_in v.held) w) (same_word c.args.pair p.0 c.word_of-word.result p.1 c.word_of-word.ensures) p.2

pub tells_by-requires : goal.tells_by-requires
tells_by-requires g c = record {
  asks = (
    removes_if,
    c.requires.asks.0,
    c.requires.asks.1,
    subst (λ (r : MachineReply g.row.V.Denot). IsFit Choices c.requires.asks.0.told c.args.pair r) (sym c.said.ensures)
        (subst (λ (o : Option ℕ). IsFit {V = g.row.V.Denot} Choices c.requires.asks.0.told o (reply_of c.tested-yes.result)) (sym c.word_of-word.ensures)
        (test_fits g.row.V.Denot c.requires.asks.0.told c.word_of-word.result c.tested-yes.result)),
  );
}

pub returns-clause-goes : goal.returns-clause-goes
returns-clause-goes g c = λ s is.
    let fit : IsFit Choices s.told (Some c.word_of-word.result) c.said.result =
    subst (λ (r : MachineReply g.row.V.Denot). IsFit Choices s.told (Some c.word_of-word.result) r) (sym c.said.ensures) (test_fits g.row.V.Denot s.told c.word_of-word.result c.tested-yes.result) in
    subst (λ (x : Stage). IsUnderWay removes_if x c.args.hasher.now (by_key g.Q.Equivalent.stands_for c.tells_by.new.machine) c.tells_by.new.self.seat.now.view)
    (ap (λ (o : Option ℕ). stage_after s o c.said.result) c.word_of-word.ensures ∙ same_stage s c.word_of-word.result c.said.result fit)
    (c.tells_by.ensures.goes removes_if s is (subst (λ (o : Option ℕ). IsFit Choices s.told o c.said.result) (sym c.word_of-word.ensures) fit))

pub returns-clause-told : goal.returns-clause-told
returns-clause-told g c =
    let v = c.args.self.now.seat.now.view in
    let p = asks_there c.requires.asks.0 c.args.hasher.now v c.args.pair (by_key g.Q.Equivalent.stands_for c.args.machine.now) c.requires.asks.1 in
    let one = same_word c.args.pair p.0 c.word_of-word.result p.1 c.word_of-word.ensures in
    let is = subst (λ (o : Option ℕ). IsAsking removes_if c.requires.asks.0 c.args.hasher.now o (by_key g.Q.Equivalent.stands_for c.args.machine.now) v) p.1 c.requires.asks.1 in
    let shows = p.2 in (
      by_key g.Q.Equivalent.stands_for c.args.machine.now,
      Some (shows.0, shows.1),
      c.said.result,
      c.requires.asks.1.at.works,
      asks_pair removes_if c.requires.asks.0 c.args.hasher.now v p.0 (by_key g.Q.Equivalent.stands_for c.args.machine.now) is shows.0 shows.1 shows.2,
      subst (λ (r : MachineReply g.row.V.Denot). TestSays (MayTest g.F.Fn c.args.test.now) (Some (shows.0, shows.1)) r) (sym c.said.ensures)
          (test_says (MayTest g.F.Fn c.args.test.now) (shows.0, shows.1) c.tested-yes.result (c.tested-yes.ensures.tests shows.0 shows.1 (shown_at v.held p.0 c.word_of-word.result one shows.0 shows.1 shows.2))),
      c.tells_by.ensures.told,
    )
