-- What a step within the making of a table does: it makes the table, goes on with it, gives it up, or links it; and the call goes on with the making.
use Rattle.std.specs.Prelude.{◌≡◌, ℕ, Some, Ok, Err, ◌+◌, ◌%◌, ◌^◌}
use Rattle.std.proofs.Common.{refl, ap, sym, subst, ◌∙◌}
use Rattle.run_debts.specs.Given.SeizeWordsMem.{Mem, Took, value_at}
use Rattle.run_debts.specs.Given.SeizeWordsOp.{Out, Found, Stored, Exchanged, Made, Taken, Roomed, Make, Exchange}
use Rattle.run_debts.specs.Given.SeizeWordsPlan.{Ends}
use Rattle.run_debts.specs.Given.SeizeWordsWord.{block_in}
use Rattle.run_debts.specs.Given.SeizeWordsDeclared.at.At.{At}
use Rattle.run_debts.specs.Given.SeizeWordsDeclared.at.At.TheVariants.{Root, Used, Slot, Entry, Word}
use Rattle.run_debts.specs.Given.SeizeWordsDeclared.fault.Fault.TheVariants.{Memory}
use Rattle.run_debts.specs.Given.SeizeDeclared.advance.Advance.{Advance as Counting}
use Rattle.run_debts.specs.Given.SeizeDeclared.advance.Advance.TheVariants as progress
use Rattle.run_debts.specs.Given.TablesDeclared.node.Node.{Node}
use Rattle.run_debts.specs.Given.TablesDeclared.node.Node.TheVariants as node
use Rattle.run_debts.specs.Given.TablesDeclared.status.TheConstants.Status.{PROMOTED}
use Rattle.run_debts.specs.Given.TablesDeclared.table.Table.{Table as Planned}
use Rattle.run_debts.specs.Given.TablesDeclared.table_words.TheConstants.{STATUS, PLACES}
use Rattle.owner_calls.specs.Given.ResizeNewTable.{new_table_plan, with_block, after_making}
use Rattle.owner_calls.specs.Given.ResizeNewTable as tables
use Rattle.owner_calls.specs.Given.ResizeDeclared.new_table.Making.{Making}
use Rattle.owner_calls.specs.Given.ResizeDeclared.new_table.Making.TheVariants as making
use Rattle.owner_calls.specs.Given.ResizeDeclared.new_table.NewTable.{NewTable}
use Rattle.run_debts.specs.Given.TellsSeen.{seen_of}
use Rattle.run_debts.specs.Given.TellerTells.{observed_of, StepsObserved}
use Rattle.run_debts.specs.Given.EffectsDeclared.changed.Changed.{Changed}
use Rattle.run_debts.specs.Given.EffectsDeclared.changed.Changed.TheVariants as changed
use Rattle.run_debts.specs.Given.EffectsDeclared.changed.Kind.{Kind}
use Rattle.run_blocks.specs.Owes.Tables.{table_in}

module _ {K V : Type 0} (m m2 : Mem (Node K V)) (told : Changed) (n : NewTable) where
  abbrev End : Type 0
  End = NewTable × Counting Planned

  abbrev going_in : End → Type 0
  going_in e = e.1 ≡ progress.Goes

  -- It goes on with its table, having marked it at most, or not that; or the table is gone; or it was linked.
  pub data GoesWithTable (t : Planned) (e : End) : Type 0 where
    Rests : told ≡ changed.Nothing → going_in e → table_in e.0.stands ≡ Some t → GoesWithTable t e
    Marks : (before : ℕ) → told ≡ changed.Wrote (Word (block_in t.link) STATUS) before PROMOTED → going_in e → table_in e.0.stands ≡ Some t → GoesWithTable t e
    Gives : (found : ℕ) → n.stands ≡ making.Drops t found → told ≡ changed.Took (block_in t.link) → GoesWithTable t e
    Links : told ≡ changed.Wrote n.link 0 t.link → GoesWithTable t e

  abbrev Told : Making → End → Type 0
  Told p e = StepsObserved K V End m changed.Nothing (tables.plan_at n p) m2 told e

  end_is : (e d : End) → e ≡ d → d.1 ≡ progress.Goes → going_in e
  end_is e d is goes = ap (λ (x : End). x.1) is ∙ goes

  table_is : (e d : End) (t : Planned) → e ≡ d → table_in d.0.stands ≡ Some t → table_in e.0.stands ≡ Some t
  table_is e d t is has = ap (λ (x : End). table_in x.0.stands) is ∙ has

  linked_so : (t : Planned) (e : End) (out : Out (Node K V)) → Took m (Exchange n.link 0 t.link) out m2 → told ≡ observed_of (Exchange n.link 0 t.link) out (seen_of m (Exchange n.link 0 t.link) out)
      → Ends (value_at m2) (tables.linked n t out) e → n.stands ≡ making.Links t → GoesWithTable t e
  linked_so t e (Exchanged (Ok before)) took is end at_links = Links (is ∙ ap (λ (x : ℕ). changed.Wrote n.link x t.link) took.0.1)
  linked_so t e (Exchanged (Err found)) took is end at_links = Rests is (end_is e _ end refl) (table_is e _ t end refl)
  linked_so t e (Found found) took is end at_links = Rests is (end_is e _ end refl) (table_is e (n, progress.Goes) t end (ap table_in at_links))
  linked_so t e Stored took is end at_links = Rests is (end_is e _ end refl) (table_is e (n, progress.Goes) t end (ap table_in at_links))
  linked_so t e (Made r) took is end at_links = Rests is (end_is e _ end refl) (table_is e (n, progress.Goes) t end (ap table_in at_links))
  linked_so t e (Taken value) took is end at_links = Rests is (end_is e _ end refl) (table_is e (n, progress.Goes) t end (ap table_in at_links))
  linked_so t e (Roomed r) took is end at_links = Rests is (end_is e _ end refl) (table_is e (n, progress.Goes) t end (ap table_in at_links))

  goes_at : (t : Planned) (p : Making) → n.stands ≡ p → table_in p ≡ Some t → (e : End) → Told p e → GoesWithTable t e
  goes_at t (making.Promotes u) at_p has e s =
      let same : u ≡ t = cc has in
      subst (λ (x : Planned). GoesWithTable x e) same (Marks _ s.1.1 (end_is e _ s.2 refl) (table_is e _ u s.2 refl))
  goes_at t (making.Links u) at_p has e s = let same : u ≡ t = cc has in subst (λ (x : Planned). GoesWithTable x e) same (linked_so u e s.0 s.1.0 s.1.1 s.2 at_p)
  goes_at t (making.Drops u found) at_p has e s = let same : u ≡ t = cc has in subst (λ (x : Planned). GoesWithTable x e) same (Gives found at_p s.1.1)
  goes_at t (making.Sums before reason sum) at_p has e s = absurd (cc has)
  goes_at t (making.Makes u) at_p has e s = absurd (cc has)
  goes_at t (making.Over u) at_p has e s = absurd (cc has)
  goes_at t (making.Refused fault) at_p has e s = absurd (cc has)

  pub goes_with : (t : Planned) → table_in n.stands ≡ Some t → (e : End) → StepsObserved K V End m changed.Nothing (new_table_plan n) m2 told e → GoesWithTable t e
  goes_with t has e s = goes_at t n.stands refl has e s

  -- A table was made: the making goes on with it.
  pub record HasMadeTable (u : Planned) (b : ℕ) (e : End) : Type 0 where
    pub goes : going_in e
    pub table : Planned
    pub has : table_in e.0.stands ≡ Some table
    pub turn : table.turn ≡ u.turn

  after_has : (at : At) (t : Planned) → table_in (after_making at t) ≡ Some t
  after_has (Root r) t = refl
  after_has (Used r) t = refl
  after_has (Slot s field) t = refl
  after_has (Entry b field) t = refl
  after_has (Word b field) t = refl

  made_by_out : (u : Planned) (k : Kind) (b : ℕ) (e : End) (out : Out (Node K V)) (words : ℕ)
      → told ≡ observed_of (Make (node.Table u.len u.limit u.turn) words) out (seen_of m (Make (node.Table u.len u.limit u.turn) words) out) → Ends (value_at m2) (tables.made n u out) e
      → told ≡ changed.Made k b → HasMadeTable u b e
  made_by_out u k b e (Made (Ok x)) words is end made =
      record {
        goes = end_is e _ end refl;
        table = with_block u x;
        has = table_is e _ (with_block u x) end (after_has n.link (with_block u x));
        turn = refl;
      }
  made_by_out u k b e (Made (Err back)) words is end made = absurd (let both = sym is ∙ made in cc both)
  made_by_out u k b e (Found found) words is end made = absurd (let both = sym is ∙ made in cc both)
  made_by_out u k b e Stored words is end made = absurd (let both = sym is ∙ made in cc both)
  made_by_out u k b e (Exchanged r) words is end made = absurd (let both = sym is ∙ made in cc both)
  made_by_out u k b e (Taken value) words is end made = absurd (let both = sym is ∙ made in cc both)
  made_by_out u k b e (Roomed r) words is end made = absurd (let both = sym is ∙ made in cc both)

  pub made_with : (u : Planned) → n.stands ≡ making.Makes u → (e : End) → StepsObserved K V End m changed.Nothing (new_table_plan n) m2 told e → (k : Kind) (b : ℕ) → told ≡ changed.Made k b → HasMadeTable u b e
  made_with u is e s k b made =
      let there : Told (making.Makes u) e = subst (λ (p : Making). Told p e) is s in made_by_out u k b e there.0 ((u.len + PLACES) % 2 ^ 64) there.1.1 there.2 made

  -- A table was refused: the making is.

  refused_by_out : (u : Planned) (k : Kind) (e : End) (out : Out (Node K V)) (words : ℕ)
      → told ≡ observed_of (Make (node.Table u.len u.limit u.turn) words) out (seen_of m (Make (node.Table u.len u.limit u.turn) words) out) → Ends (value_at m2) (tables.made n u out) e
      → told ≡ changed.Unmade k → e.1 ≡ progress.Refused Memory
  refused_by_out u k e (Made (Err back)) words is end unmade = ap (λ (x : End). x.1) end
  refused_by_out u k e (Made (Ok x)) words is end unmade = absurd (let both = sym is ∙ unmade in cc both)
  refused_by_out u k e (Found found) words is end unmade = absurd (let both = sym is ∙ unmade in cc both)
  refused_by_out u k e Stored words is end unmade = absurd (let both = sym is ∙ unmade in cc both)
  refused_by_out u k e (Exchanged r) words is end unmade = absurd (let both = sym is ∙ unmade in cc both)
  refused_by_out u k e (Taken value) words is end unmade = absurd (let both = sym is ∙ unmade in cc both)
  refused_by_out u k e (Roomed r) words is end unmade = absurd (let both = sym is ∙ unmade in cc both)

  pub refused_with : (u : Planned) → n.stands ≡ making.Makes u → (e : End) → StepsObserved K V End m changed.Nothing (new_table_plan n) m2 told e → (k : Kind) → told ≡ changed.Unmade k → e.1 ≡ progress.Refused Memory
  refused_with u is e s k unmade =
      let there : Told (making.Makes u) e = subst (λ (p : Making). Told p e) is s in refused_by_out u k e there.0 ((u.len + PLACES) % 2 ^ 64) there.1.1 there.2 unmade
