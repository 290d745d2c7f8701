-- The place is marked, its pair put into the table that is copied into, and the place covered.
use Rattle.std.specs.Prelude.{◌≡◌, bit_or, IsSome, Some}
use Rattle.map_machines.specs.CopierMarks.{without_copying}
use Rattle.std.proofs.Common.{sym, ◌∙◌, subst}
use Rattle.seize_words.specs.OneMemory.Op.{Or, Store, Found, Stored}
use Rattle.seize_words.specs.declared.at.At.{At}
use Rattle.map_tables.specs.declared.marks.TheConstants.{COPIED, COPYING}
use Rattle.map_machines.specs.declared.copier.Copier.{Copier}
use Rattle.seize_straight.specs.Runs.{none_taken}
use Rattle.map_straight.specs.declared.copying.Placed.TheVariants as placed
use Rattle.map_straight.specs.Straight.Going.{CopyLeads}
use Rattle.map_straight.proofs.Straight.Copies as by
use Rattle.map_straight.proofs.copying.copy_place.Given as given
use Rattle.map_straight.proofs.copying.copy_place.Goals as goal
use Rattle.map_straight.proofs.copying.copy_place.Goals.{After-at-place, After-key_hash-hash, After-or-word}

midst : (g : given.Over) (c : goal.After-at-place g) → by.Midst (g.S.Hashes.hash c.args.hasher.now) g.M.Look.can g.M.Look.took g.M.Look.shown c.args.copier.now c.args.memory.now
midst g c = record { midst = c.is_midst.ensures c.if-not-is_midst.false; run = c.requires }

marked : (g : given.Over) (c : goal.After-or-word g)
    → by.Marked (g.S.Hashes.hash c.args.hasher.now) g.M.Look.can g.M.Look.took g.M.Look.shown c.args.copier.now c.args.memory.now c.or-word.new.self c.or-word.result
marked g c = record {
  before = record { midst = c.is_midst.ensures c.if-not-is_midst.false; run = c.requires };
  ors = subst (λ (a : At). g.M.Look.took c.args.memory.now (Or a COPYING) (Found c.or-word.result) c.or-word.new.self) c.at-place.ensures c.or-word.ensures;
}

paired : (g : given.Over) (c : goal.After-key_hash-hash g) → by.Marked (g.S.Hashes.hash c.args.hasher.now) g.M.Look.can g.M.Look.took g.M.Look.shown c.args.copier.now c.args.memory.now c.or-word.new.self c.or-word.result
    → by.Paired (g.S.Hashes.hash c.args.hasher.now) g.M.Look.can g.M.Look.took g.M.Look.shown c.args.copier.now c.args.memory.now c.or-word.new.self c.or-word.result c.value.result.now c.key_hash-hash.result
paired g c mark = record {
  mark = mark;
  own = sym c.has.ensures ∙ c.if-has.false;
  some = λ e. c.if-block_of-eq0.false (c.block_of.ensures ∙ e);
  shows = subst (λ b. g.M.Look.shown c.or-word.new.self b ≡ Some c.value.result.now) c.block_of-2.ensures c.value.ensures;
  hashes = c.key_hash-hash.ensures;
}

pub returns-then-not-is_midst : goal.returns-then-not-is_midst
returns-then-not-is_midst g c =
    none_taken _ _

pub or-word-requires : goal.or-word-requires
or-word-requires g c =
    subst (λ (a : At). g.M.Look.can c.args.memory.now (Or a COPYING)) (sym c.at-place.ensures) (by.can_mark (midst g (goal.at.or-word-requires g c).After-at-place))

pub returns-then-has : goal.returns-then-has
returns-then-has g c =
    by.is_others (marked g (goal.at.returns-then-has g c).After-or-word) (sym c.has.ensures ∙ c.if-has.true)

pub returns-then-block_of-eq0 : goal.returns-then-block_of-eq0
returns-then-block_of-eq0 g c =
    by.is_vacant (marked g (goal.at.returns-then-block_of-eq0 g c).After-or-word) (sym c.has.ensures ∙ c.if-has.false) (sym c.block_of.ensures ∙ c.if-block_of-eq0.true)

pub value-requires : goal.value-requires
value-requires g c =
    subst (λ b. IsSome (g.M.Look.shown c.or-word.new.self b)) (sym c.block_of-2.ensures)
    (by.can_look (marked g (goal.at.value-requires g c).After-or-word) (sym c.has.ensures ∙ c.if-has.false) (λ e. c.if-block_of-eq0.false (c.block_of.ensures ∙ e)))

pub put_pair-requires-clause-mode : goal.put_pair-requires-clause-mode
put_pair-requires-clause-mode g c =
    (c.is_midst.ensures c.if-not-is_midst.false).2

pub put_pair-requires-clause-may : goal.put_pair-requires-clause-may
put_pair-requires-clause-may g c =
    let x = goal.at.put_pair-requires-clause-may g c in by.may_place (paired g x.After-key_hash-hash (marked g x.After-or-word))

pub store-requires : goal.store-requires
store-requires g c =
    let x = goal.at.store-requires g c in
    subst (λ (a : At). g.M.Look.can c.put_pair.new.memory (Store a (bit_or (bit_or (without_copying c.or-word.result) COPYING) COPIED))) (sym c.at-place.ensures)
    (by.can_cover (paired g x.After-key_hash-hash (marked g x.After-or-word)) c.put_pair.new.memory c.in-Put.ensures)

pub returns-in-Put : goal.returns-in-Put
returns-in-Put g c =
    let x = goal.at.returns-in-Put g c in
    by.was_covered (paired g x.After-key_hash-hash (marked g x.After-or-word)) c.put_pair.new.memory c.in-Put.ensures c.store.new.self
    (subst (λ (a : At). g.M.Look.took c.put_pair.new.memory (Store a (bit_or (bit_or (without_copying c.or-word.result) COPYING) COPIED)) Stored c.store.new.self) c.at-place.ensures c.store.ensures)

pub returns-in-Past : goal.returns-in-Past
returns-in-Past g c =
    let x = goal.at.returns-in-Past g c in
    subst (λ (e : Copier). CopyLeads (g.S.Hashes.hash c.args.hasher.now) g.M.Look.took g.M.Look.shown c.args.copier.now c.args.memory.now e c.put_pair.new.memory) (sym c.stands_at.ensures)
    (by.came (paired g x.After-key_hash-hash (marked g x.After-or-word)) c.put_pair.new.memory placed.Past c.in-Past.ensures)

pub returns-in-Next : goal.returns-in-Next
returns-in-Next g c =
    let x = goal.at.returns-in-Next g c in
    subst (λ (e : Copier). CopyLeads (g.S.Hashes.hash c.args.hasher.now) g.M.Look.took g.M.Look.shown c.args.copier.now c.args.memory.now e c.put_pair.new.memory) (sym c.stands_at-in-Next.ensures)
    (by.came (paired g x.After-key_hash-hash (marked g x.After-or-word)) c.put_pair.new.memory (placed.Next c.in-Next.probe) c.in-Next.ensures)
