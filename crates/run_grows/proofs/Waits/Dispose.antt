-- A step of the disposal of a pair: it goes by the same table still, or has read a root that is none before that one, or has the pair in hand no more.
use Rattle.std.specs.Prelude.{◌≡◌, ℕ, ◌≤◌, ◌==◌, nat_lt, Option, Some, None}
use Rattle.std.proofs.Common.{refl, ap, sym, subst, ◌∙◌, inl, inr}
use Rattle.std.proofs.lemmas.Bool.{ltb-false}
use Rattle.run_finds.proofs.Given.SeizeWordsPlans.{ends_if}
use Rattle.run_finds.specs.Given.SeizeWordsMem.{Mem, word_at, value_at}
use Rattle.run_finds.specs.Given.SeizeWordsOp.{Out, Load, Found}
use Rattle.run_finds.specs.Given.SeizeWordsPlan.{Ends}
use Rattle.run_finds.specs.Given.SeizeWordsWord.{block_in}
use Rattle.run_finds.specs.Given.SeizeWordsDeclared.at.At.TheVariants.{Root}
use Rattle.run_finds.specs.Given.SeizeSettle.{settle_plan}
use Rattle.papaya_raw.specs.Given.SeizeDefer.{defer_plan}
use Rattle.run_finds.specs.Given.SeizeDeclared.advance.Advance.{Advance}
use Rattle.run_finds.specs.Given.SeizeDeclared.advance.Advance.TheVariants as progress
use Rattle.run_finds.specs.Given.SeizeDeclared.rows.defer.Defer.{Defer}
use Rattle.run_finds.specs.Given.SeizeDeclared.rows.settle.Settle.{Settle}
use Rattle.run_finds.specs.Given.SeizeDeclared.rows.settle.Settled.{Settled}
use Rattle.run_finds.specs.Given.SeizeDeclared.rows.settle.Settled.TheVariants as settled
use Rattle.run_finds.specs.Given.TablesNodes.{deferred_word, table_seen}
use Rattle.run_finds.specs.Given.TablesDeclared.node.Node.{Node}
use Rattle.papaya_raw.specs.Given.ResizeDispose as disposes
use Rattle.run_finds.specs.Given.ResizeDeclared.dispose.Dispose.{Dispose}
use Rattle.run_finds.specs.Given.ResizeDeclared.dispose.Disposing.{Disposing}
use Rattle.run_finds.specs.Given.ResizeDeclared.dispose.Disposing.TheVariants as at
use Rattle.run_finds.specs.Given.PointsTold.{IsRowOf}
use Rattle.run_finds.proofs.Given.RuleKeys.Always.{Always, AlwaysOf, always_if, always_plan_as, always_steps}
use Rattle.run_finds.specs.Given.TellerTells.{StepsObserved, ObservedAs}
use Rattle.run_finds.specs.Given.EffectsDeclared.changed.Changed.{Changed}
use Rattle.run_finds.specs.Given.EffectsDeclared.changed.Changed.TheVariants as changed
use Rattle.run_finds.specs.Given.SettlesInHand.{pair_in_disposing}
use Rattle.run_finds.specs.Waits.{waits_in_disposing, waits_of}
use Rattle.run_finds.proofs.Given.ScenesTold.{as_step}

module _ {K V : Type 0} (d : Dispose) (m m2 : Mem (Node K V)) (told : Changed) where
  -- it has the pair in hand, unless in a row
  abbrev pub Holding : Type 0
  Holding = (IsRowOf d.stands → ⊥) → (word : ℕ) × (pair_in_disposing d d.stands ≡ Some word)

  pub data WaitsGo (e : Dispose) : Type 0 where
    WaitsAlike : Holding → waits_of e ≡ waits_of d → WaitsGo e
    WaitsOver : pair_in_disposing e e.stands ≡ None → WaitsGo e
    -- the root that was read is none before its table
    WaitsPast : (root : ℕ) (value : Node K V) → told ≡ changed.Nothing → d.stands ≡ at.Reads → waits_of e ≡ None → word_at m (Root d.setting.root) ≡ Some root → value_at m (block_in root) ≡ Some value
        → d.table.turn ≤ (table_seen root value).turn → WaitsGo e

  abbrev Goes : Dispose × Settled (Node K V) → Type 0
  Goes e = WaitsGo e.0

  abbrev pub StepOf : Disposing → Dispose × Settled (Node K V) → Type 0
  StepOf p e = StepsObserved K V (Dispose × Settled (Node K V)) m changed.Nothing (disposes.plan_at d p) m2 told e

  -- it was at such a point
  was_at : (p : Disposing) → d.stands ≡ p → (waits : Option ℕ) → waits_in_disposing d p ≡ waits → waits ≡ waits_of d
  was_at p is waits e = sym e ∙ sym (ap (waits_in_disposing d) is)

  in_row : (p : Disposing) → d.stands ≡ p → IsRowOf p → Holding
  in_row p is row = λ none. absurd (none (subst IsRowOf (sym is) row))

  has_it : (p : Disposing) → d.stands ≡ p → pair_in_disposing d p ≡ Some d.pair → Holding
  has_it p is has = λ none. (d.pair, ap (pair_in_disposing d) is ∙ has)

  settled_goes : (settle : Settle) → d.stands ≡ at.Settles settle → (e : Settle × Settled (Node K V)) → Goes (disposes.settled d e)
  settled_goes settle is (next, settled.Goes) = WaitsAlike (in_row (at.Settles settle) is tt) (was_at (at.Settles settle) is None refl)
  settled_goes settle is (next, settled.Waits) = WaitsAlike (in_row (at.Settles settle) is tt) (was_at (at.Settles settle) is None refl)
  settled_goes settle is (next, settled.Gave value) = WaitsAlike (in_row (at.Settles settle) is tt) (was_at (at.Settles settle) is None refl)
  settled_goes settle is (next, settled.Done) = WaitsOver refl

  deferred_goes : (defer : Defer) → d.stands ≡ at.Defers defer → (e : Defer × Advance Unit) → Goes (disposes.deferred d e)
  deferred_goes defer is (next, progress.Goes) = WaitsAlike (in_row (at.Defers defer) is tt) (was_at (at.Defers defer) is (Some d.table.turn) refl)
  deferred_goes defer is (next, progress.Waits) = WaitsAlike (in_row (at.Defers defer) is tt) (was_at (at.Defers defer) is (Some d.table.turn) refl)
  deferred_goes defer is (next, progress.Done end) = WaitsOver refl
  deferred_goes defer is (next, progress.Refused fault) = WaitsOver refl

  walked_goes : (table : ℕ) → d.stands ≡ at.Walks table → (out : Out (Node K V)) → Always Goes (disposes.walked d table out)
  walked_goes table is (Found next) =
      always_if Goes (block_in next == block_in d.table.link) _ _ (WaitsAlike (has_it (at.Walks table) is refl) (was_at (at.Walks table) is (Some d.table.turn) refl)) (WaitsAlike (has_it (at.Walks table) is refl) (was_at (at.Walks table) is (Some d.table.turn) refl))
  walked_goes table is _ = WaitsAlike (has_it (at.Walks table) is refl) refl

  -- the root is compared
  compared_goes : (root : ℕ) (value : Node K V) → d.stands ≡ at.Reads → told ≡ changed.Nothing → word_at m (Root d.setting.root) ≡ Some root → value_at m (block_in root) ≡ Some value
      → (e : Dispose × Settled (Node K V)) → Ends (value_at m2) (disposes.compared d root (table_seen root value)) e → Goes e
  compared_goes root value is nothing read seen e ends =
      elim (ends_if (value_at m2) (nat_lt (table_seen root value).turn d.table.turn) (disposes.goes d (at.Walks root)) (disposes.goes d (disposes.retires d.setting d.pair)) e ends) as (λ _. Goes e) [
        | inl before ↦ subst Goes (sym before.1) (WaitsAlike (has_it at.Reads is refl) (was_at at.Reads is (Some d.table.turn) refl))
        | inr past ↦ subst Goes (sym past.1) (WaitsPast root value nothing is refl read seen (ltb-false (table_seen root value).turn d.table.turn past.0))
      ]

  reads_goes : d.stands ≡ at.Reads → (out : Out (Node K V)) → ObservedAs K V (Dispose × Settled (Node K V)) m (Load (Root d.setting.root)) out m2 told
      → (e : Dispose × Settled (Node K V)) → Ends (value_at m2) (disposes.root_read d out) e → Goes e
  reads_goes is (Found root) tells e ends = compared_goes root ends.0 is tells.1 tells.0.0 (ap (λ (x : Mem (Node K V)). value_at x (block_in root)) (sym tells.0.1) ∙ ends.1) e ends.2
  reads_goes is _ tells e ends = absurd tells.0.0

  as_always : (p : Disposing) (e : Dispose × Settled (Node K V)) → AlwaysOf Goes (disposes.plan_at d p) → StepOf p e → Goes e
  as_always p e all s = always_steps Goes m m2 (disposes.plan_at d p) e all (as_step m changed.Nothing (disposes.plan_at d p) m2 told e s)

  pub dispose_goes : (p : Disposing) → d.stands ≡ p → (e : Dispose × Settled (Node K V)) → StepOf p e → Goes e
  dispose_goes (at.Settles settle) is e s = as_always (at.Settles settle) e (always_plan_as Goes (disposes.settled d) (settled_goes settle is) (settle_plan deferred_word settle)) s
  dispose_goes at.Reads is e s = reads_goes is s.0 s.1 e s.2
  dispose_goes (at.Walks table) is e s = as_always (at.Walks table) e (λ out. walked_goes table is out) s
  dispose_goes (at.Defers defer) is e s = as_always (at.Defers defer) e (always_plan_as Goes (disposes.deferred d) (deferred_goes defer is) (defer_plan defer)) s
  dispose_goes at.Over is e s = as_always at.Over e (WaitsOver (ap (pair_in_disposing d) is)) s
