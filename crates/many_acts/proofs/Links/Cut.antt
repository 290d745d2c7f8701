-- What a copier is to hand over it has unlinked: its caller has it, in either mode, also once the root has left the table that it copies.
use Rattle.std.specs.Prelude.{◌*◌}
use Rattle.std.proofs.Common.{◌≡◌, ℕ, suc, ◌<◌, ◌≤◌, ◌⊎◌, Bool, true, false, cond, eqb, inl, inr, refl, arith, ap, sym, subst, ◌∙◌, eqb-true}
use Rattle.std.proofs.lemmas.Bool.{cases_lt}
use Rattle.run_shows.specs.Given.SeizeWorld.{World, Cutting}
use Rattle.run_shows.specs.Given.SeizeDeclared.rows.settle.Settle.{Settle}
use Rattle.run_shows.specs.Given.TablesChunks.{is_incremental}
use Rattle.run_shows.specs.Given.TablesDeclared.node.Node.{Node}
use Rattle.run_shows.specs.Given.TablesDeclared.setting.Setting.{Setting}
use Rattle.run_shows.specs.Given.TablesDeclared.table.Table.{Table}
use Rattle.run_shows.specs.Given.ResizeCopierStates.{standing}
use Rattle.run_shows.specs.Given.ResizeDeclared.copier.Copier.{Copier}
use Rattle.run_shows.specs.Given.ResizeDeclared.copier.Copying.{Copying}
use Rattle.run_shows.specs.Given.ResizeDeclared.copier.Copying.TheVariants as copies
use Rattle.run_shows.specs.Given.RuleChart.{Chart}
use Rattle.run_shows.specs.Given.RuleWords.{Blocks}
use Rattle.owner_facts.specs.Given.PointsFactsCopies.{CopyingFacts, CopierFacts}
use Rattle.owner_facts.specs.Given.PointsFactsCopiesBlocking.{CopyingFactsBlocking, CopierFactsBlocking}
use Rattle.owner_facts.specs.Given.PointsTold.{IsRowOfCopier}
use Rattle.owner_facts.specs.Given.LateFactsReserves.{CopiesWhole, IsEnding}
use Rattle.owner_facts.specs.Given.LateLateCopies.{SupersededCopying, SupersededCopierFacts}
use Rattle.owner_facts.specs.Given.CallersRows.{past_copying}
use Rattle.many_acts.specs.Carries.Theirs.{IsObligedAt, IsAhead, next_of_them}

module _ {K V : Type 0} (same : K → K → Bool) (hash : K → ℕ) (w : World (Node K V)) (caller : ℕ) (setting : Setting) (c : Chart K) (blocks : Blocks) where
  abbrev IsCut : ℕ → Type 0
  IsCut b = w.hand b ≡ Cutting caller

  -- what it is to hand over next it has unlinked, and what it is to come to
  pub record OwesWhatItCut (p : Copier) : Type 0 where
    pub due : (b : ℕ) → IsObligedAt p p.stands b → w.hand b ≡ Cutting caller
    pub ahead : is_incremental setting.mode ≡ false → (b : ℕ) → IsAhead c.past blocks.table (next_of_them p p.stands) p.target.turn b → w.hand b ≡ Cutting caller

  -- the block that a link names
  at_link : (s b link : ℕ) → link ≡ blocks.table s * 2048 → link ≡ b * 2048 → IsCut (blocks.table s) → IsCut b
  at_link s b link is due cut = let e : b ≡ blocks.table s = omega (arith, is, due) in ap w.hand e ∙ cut

  -- so many tables are its own
  abbrev CutFrom : ℕ → ℕ → Type 0
  CutFrom s t = (u : ℕ) → s ≤ u → u < t → (blocks.table_known u ≡ true) × IsCut (blocks.table u)

  due_incremental : (p : Copier) (stands : Copying) → CopyingFacts same hash w caller setting c blocks p stands → (b : ℕ) → IsObligedAt p stands b → IsCut b
  due_incremental p copies.Announces (unlinked, done, none) b due = at_link unlinked.0 b p.source.link (ap (λ (x : Table). x.link) unlinked.2.is) due unlinked.4
  due_incremental p (copies.Succeeds table) (unlinked, done, none, is) b due =
      at_link unlinked.0 b p.source.link (ap (λ (x : Table). x.link) unlinked.2.is) (sym is ∙ due) unlinked.4
  due_incremental p (copies.Retires settle rest) (s, low, to_retire, last, done, none, known) b due =
      at_link s b settle.pending (ap (λ (x : Settle). x.pending) to_retire.0) (ap (λ (x : Settle). x.pending) due) to_retire.1
  due_incremental p _ facts b due = absurd due

  due_blocking : (p : Copier) (stands : Copying) → CopyingFactsBlocking same hash w caller setting c blocks p stands → (b : ℕ) → IsObligedAt p stands b → IsCut b
  due_blocking p copies.Announces (s, source, unlinked) b due =
      at_link s b p.source.link (ap (λ (x : Table). x.link) source.is) due (unlinked.3 s (omega arith) unlinked.0).1
  due_blocking p (copies.Succeeds table) (s, unlinked, is) b due = at_link s b table is due (unlinked.3 s (omega arith) unlinked.0).1
  due_blocking p (copies.Retires settle rest) (s, unlinked, to_retire, more) b due =
      at_link s b settle.pending (ap (λ (x : Settle). x.pending) to_retire.0) (ap (λ (x : Settle). x.pending) due) to_retire.1
  due_blocking p _ facts b due = absurd due

  due_late : (began : ℕ) (p : Copier) (stands : Copying) → SupersededCopying same hash w caller setting c blocks began p stands → (b : ℕ) → IsObligedAt p stands b → IsCut b
  due_late began p copies.Announces (s, t, source, unlinked) b due =
      at_link s b p.source.link (ap (λ (x : Table). x.link) source.is) due (unlinked.4 s (omega arith) unlinked.0).1
  due_late began p (copies.Succeeds table) (s, t, unlinked, is) b due = at_link s b table is due (unlinked.4 s (omega arith) unlinked.0).1
  due_late began p (copies.Retires settle rest) (s, t, unlinked, to_retire, more) b due =
      at_link s b settle.pending (ap (λ (x : Settle). x.pending) to_retire.0) (ap (λ (x : Settle). x.pending) due) to_retire.1
  due_late began p _ facts b due = absurd due

  -- nothing is ahead where no word names a table
  none_ahead : (word target b : ℕ) → word ≡ 0 → IsAhead c.past blocks.table word target b → IsCut b
  none_ahead word target b none (first, next, u, from, before, at) = absurd (let named = next.named in let some = next.some in omega (arith, none, named, some))

  -- it comes to its own tables, from the one on that the word names
  ahead_cut : (s t word target : ℕ) → s < t → CutFrom s t → word ≡ blocks.table s * 2048 → target ≡ t → (b : ℕ) → IsAhead c.past blocks.table word target b → IsCut b
  ahead_cut s t word target order cut named turn b (first, next, u, from, before, at) = ap w.hand at ∙ (cut u (by (cases_lt first s)) (omega (arith, before, turn))).1
    where
      block : blocks.table s ≡ blocks.table first
      block = let a = next.named in omega (arith, a, named)

      by : (first < s) ⊎ (s ≤ first) → s ≤ u
      by (inl low) = absurd (next.last s low (omega (arith, order, turn)) block)
      by (inr high) = omega (arith, high, from)

  -- one that retires a table comes to the next one, if there is one
  rest_cut : (s t rest target : ℕ) → s < t → CutFrom s t → (suc s < t → rest ≡ blocks.table (suc s) * 2048) → (suc s ≡ t → rest ≡ 0) → target ≡ t
      → (b : ℕ) → IsAhead c.past blocks.table rest target b → IsCut b
  rest_cut s t rest target order cut more none turn b ahead = by (cases_lt (suc s) t)
    where
      by : (suc s < t) ⊎ (t ≤ suc s) → IsCut b
      by (inl low) = ahead_cut (suc s) t rest target low (λ u from to. cut u (omega (arith, from)) to) (more low) turn b ahead
      by (inr high) = none_ahead rest target b (none (omega (arith, order, high))) ahead

  ahead_blocking : (p : Copier) (stands : Copying) → CopyingFactsBlocking same hash w caller setting c blocks p stands
      → (b : ℕ) → IsAhead c.past blocks.table (next_of_them p stands) p.target.turn b → IsCut b
  ahead_blocking p copies.Announces (s, source, unlinked) b ahead =
      ahead_cut s c.first p.source.link p.target.turn unlinked.0 unlinked.3 (ap (λ (x : Table). x.link) source.is) (ap (λ (x : Table). x.turn) unlinked.1.is) b ahead
  ahead_blocking p (copies.Succeeds table) (s, unlinked, is) b ahead =
      ahead_cut s c.first table p.target.turn unlinked.0 unlinked.3 is (ap (λ (x : Table). x.turn) unlinked.1.is) b ahead
  ahead_blocking p (copies.Retires settle rest) (s, unlinked, to_retire, more) b ahead =
      rest_cut s c.first rest p.target.turn unlinked.0 unlinked.3 more.0 more.1 (ap (λ (x : Table). x.turn) unlinked.1.is) b ahead
  ahead_blocking p _ facts b ahead = none_ahead 0 p.target.turn b refl ahead

  ahead_late : (began : ℕ) (p : Copier) (stands : Copying) → SupersededCopying same hash w caller setting c blocks began p stands
      → (b : ℕ) → IsAhead c.past blocks.table (next_of_them p stands) p.target.turn b → IsCut b
  ahead_late began p copies.Announces (s, t, source, unlinked) b ahead =
      ahead_cut s t p.source.link p.target.turn unlinked.0 unlinked.4 (ap (λ (x : Table). x.link) source.is) (ap (λ (x : Table). x.turn) unlinked.1.is) b ahead
  ahead_late began p (copies.Succeeds table) (s, t, unlinked, is) b ahead =
      ahead_cut s t table p.target.turn unlinked.0 unlinked.4 is (ap (λ (x : Table). x.turn) unlinked.1.is) b ahead
  ahead_late began p (copies.Retires settle rest) (s, t, unlinked, to_retire, more) b ahead =
      rest_cut s t rest p.target.turn unlinked.0 unlinked.4 more.0 more.1 (ap (λ (x : Table). x.turn) unlinked.1.is) b ahead
  ahead_late began p _ facts b ahead = none_ahead 0 p.target.turn b refl ahead

  pub incremental_owes : (p : Copier) → is_incremental setting.mode ≡ true → CopierFacts same hash w caller setting c blocks p → OwesWhatItCut p
  incremental_owes p bits facts = record { due = due_incremental p p.stands facts.point; ahead = λ blocking b ahead. absurd (cc (bits, blocking)) }

  pub blocking_owes : (p : Copier) → CopierFactsBlocking same hash w caller setting c blocks p → OwesWhatItCut p
  blocking_owes p facts = record { due = due_blocking p p.stands facts.point; ahead = λ blocking. ahead_blocking p p.stands facts.point }

  pub late_owes : (began : ℕ) (p : Copier) → SupersededCopierFacts same hash w caller setting c blocks began p → OwesWhatItCut p
  late_owes began p facts = record { due = due_late began p p.stands facts.point; ahead = λ blocking. ahead_late began p p.stands facts.point }

  abbrev Whole : Bool → Copier → Type 0
  Whole b p =
      cond b
      ((p.whole ≡ true) × CopierFacts same hash w caller setting c blocks p × IsEnding same hash w caller setting c blocks p p.stands)
      (CopierFactsBlocking same hash w caller setting c blocks p)

  pub whole_owes : (p : Copier) → CopiesWhole same hash w caller setting c blocks p → OwesWhatItCut p
  whole_owes p facts = by (is_incremental setting.mode) refl
    where
      by : (b : Bool) → is_incremental setting.mode ≡ b → OwesWhatItCut p
      by true bits = incremental_owes p bits (subst (λ (b : Bool). Whole b p) bits facts).1
      by false bits = blocking_owes p (subst (λ (b : Bool). Whole b p) bits facts)

  -- within a row it has unlinked what it is to come to once that is over
  pub row_ahead : (p : Copier) (stands : Copying) → IsRowOfCopier stands → OwesWhatItCut (past_copying p stands) → is_incremental setting.mode ≡ false
      → (b : ℕ) → IsAhead c.past blocks.table (next_of_them p stands) p.target.turn b → IsCut b
  row_ahead p (copies.Retires settle rest) row owes blocking b ahead = by (eqb rest 0) refl owes
    where
      by : (q : Bool) → eqb rest 0 ≡ q → OwesWhatItCut (cond q (standing p copies.Over) (standing p (copies.Succeeds rest))) → IsCut b
      by true e then = none_ahead rest p.target.turn b (eqb-true rest 0 e) ahead
      by false e then = then.ahead blocking b ahead
  row_ahead p _ row owes blocking b ahead = absurd row
