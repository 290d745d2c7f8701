-- Where a sweep stands after a step, and what it tells of that.
use Rattle.std.specs.Prelude.{◌≡◌, ◌≢◌, ℕ, ◌+◌, ◌%◌, ◌^◌, Bool, true, false, nat_lt, ◌==◌, ◌&&◌, if◌then◌else◌}
use Rattle.std.proofs.Common.{refl, ap, inl, inr, sym, subst, ◌∙◌}
use Rattle.map_facts.specs.Given.SeizeWordsWord.{block_in}
use Rattle.map_facts.specs.Given.SeizeWorld.{World}
use Rattle.map_facts.specs.Given.SeizeDeclared.rows.settle.Settled.{Settled}
use Rattle.map_facts.specs.Given.SeizeDeclared.rows.settle.Settled.TheVariants as settled
use Rattle.map_facts.specs.Given.TablesChunks.{is_incremental}
use Rattle.map_facts.specs.Given.TablesMarks.{has_mark}
use Rattle.map_facts.specs.Given.TablesDeclared.marks.TheConstants.{COPYING}
use Rattle.map_facts.specs.Given.TablesDeclared.node.Node.{Node}
use Rattle.map_facts.specs.Given.TablesDeclared.setting.Setting.{Setting}
use Rattle.map_facts.specs.Given.TablesDeclared.table.Table.{Table}
use Rattle.map_facts.specs.Given.ResizeCopierStates.{resting, copying_all}
use Rattle.map_facts.specs.Given.ResizeDeclared.copier.Copier.{Copier}
use Rattle.map_facts.specs.Given.ResizeDeclared.copier.Copying.TheVariants as copies
use Rattle.map_facts.specs.Given.ResizeDeclared.dispose.Dispose.{Dispose}
use Rattle.map_facts.specs.Given.ResizeDeclared.yielding.Yielding.{Yielding}
use Rattle.map_facts.specs.Given.ResizeDeclared.yielding.Yielding.TheVariants as outcome
use Rattle.map_facts.specs.Given.SweepsSweep.{copied, disposed}
use Rattle.map_facts.specs.Given.SweepsSweepPoints.{removes, standing, tableless, beginning, entering, further, told, telling, at_pair, seen}
use Rattle.map_facts.specs.Given.ReservesDeclared.sweep.Purpose.{Purpose}
use Rattle.map_facts.specs.Given.ReservesDeclared.sweep.Purpose.TheVariants.{Walks, Clears, Retains}
use Rattle.map_facts.specs.Given.ReservesDeclared.sweep.Sweep.{Sweep}
use Rattle.map_facts.specs.Given.ReservesDeclared.sweep.Sweeping.{Sweeping}
use Rattle.map_facts.specs.Given.ReservesDeclared.sweep.Sweeping.TheVariants as at
use Rattle.map_facts.specs.Given.ReservesDeclared.sweep.Swept.{Swept}
use Rattle.map_facts.specs.Given.ReservesDeclared.sweep.Swept.TheVariants as swept
use Rattle.map_facts.specs.Given.RuleChart.{Chart}
use Rattle.map_facts.specs.Given.RuleWords.{Blocks, place_word}
use Rattle.map_facts_late.specs.FactsSweeps.{CopiesPairs}
use Rattle.map_facts_late.specs.ToldSweeps.{ReadsPlace, OutcomeAgrees, IsAtPointThen}
use Rattle.map_facts_late.proofs.Swept.Sweeps.Moved.{Sees, SweepMoves}

-- it asks nothing there, removes nothing, and copies nothing
abbrev pub IsQuiet : Sweeping → Type 0
IsQuiet (at.Asks word) = ⊥
IsQuiet (at.Tries word) = ⊥
IsQuiet (at.Copies copier) = ⊥
IsQuiet _ = Unit {0}

quiet_if : (b : Bool) (x y : Sweeping) → IsQuiet x → IsQuiet y → IsQuiet (if b then x else y)
quiet_if true x y f g = f
quiet_if false x y f g = g

pub quiet_tableless : (p : Sweep) → IsQuiet (tableless p).stands
quiet_tableless p = quiet_if (removes p.purpose) at.Over at.Ready tt tt

pub quiet_beginning : (p : Sweep) → IsQuiet (beginning p).stands
quiet_beginning p = quiet_if (removes p.purpose) at.Words at.Ready tt tt

pub quiet_entering : (p : Sweep) (table : Table) → IsQuiet (entering p table).stands
quiet_entering p table = by (is_incremental p.setting.mode)
  where
    by : (b : Bool) → IsQuiet (if b then record p { table = table; stands = at.Follows } else beginning (record p { table = table })).stands
    by true = tt
    by false = quiet_beginning (record p { table = table })

pub quiet_further : (p : Sweep) → IsQuiet (further p).stands
quiet_further p = quiet_if (nat_lt ((p.place + 1) % 2 ^ 64) p.table.len) at.Words (if removes p.purpose && p.met then at.Follows else at.Over) tt (quiet_if (removes p.purpose && p.met) at.Follows at.Over tt tt)

entering_purpose : (p : Sweep) (table : Table) → (entering p table).purpose ≡ p.purpose
entering_purpose p table = by (is_incremental p.setting.mode)
  where
    by : (b : Bool) → (if b then record p { table = table; stands = at.Follows } else beginning (record p { table = table })).purpose ≡ p.purpose
    by true = refl
    by false = refl

-- a copying of a whole table begins elsewhere than at the claiming of places
begins_unclaiming : (setting : Setting) (source target : Table) → (copying_all setting source target).stands ≢ copies.Claims
begins_unclaiming setting source target = by (is_incremental setting.mode)
  where
    by : (b : Bool) → (if b then record (resting setting true source target copies.Marks) { end = source.len } else resting setting true source target copies.Asks).stands ≢ copies.Claims
    by true e = cc e
    by false e = cc e

module _ (T : Type 0) where
  -- what it tells where it stands
  tells_so : (was stands : Sweeping) → OutcomeAgrees was stands (told {T = T} stands)
  tells_so was at.Reads = tt
  tells_so was at.Follows = tt
  tells_so was (at.Copies copier) = tt
  tells_so was at.Ready = tt
  tells_so was at.Words = tt
  tells_so was (at.Asks word) = refl
  tells_so was (at.Tries word) = tt
  tells_so was (at.Counts removed) = tt
  tells_so was (at.Disposes dispose) = tt
  tells_so was at.Over = refl
  tells_so was (at.Refused fault) = refl

module _ {K V : Type 0} (p : Sweep) where
  abbrev Then : Sweep × Swept (Node K V) → Type 0
  Then end = IsAtPointThen {T = Node K V} p end.0 end.1

  -- it goes on where it neither asks, nor removes, nor copies
  quietly : (q : Sweep) → IsQuiet q.stands → q.purpose ≡ p.purpose → (end : Swept (Node K V)) → OutcomeAgrees p.stands q.stands end → IsAtPointThen p q end
  quietly q quiet same_purpose end tells = record {
    purpose = same_purpose;
    tells = tells;
    tries = λ retains word e. subst IsQuiet e quiet;
    begins = λ none copier e. absurd (subst IsQuiet e quiet);
  }

  telling_then : (q : Sweep) → IsQuiet q.stands → q.purpose ≡ p.purpose → Then (telling q)
  telling_then q quiet same_purpose = quietly q quiet same_purpose (told q.stands) (tells_so (Node K V) p.stands q.stands)

  pair_then : (purpose : Purpose) → p.purpose ≡ purpose → ReadsPlace p.stands → (word : ℕ) → Then (at_pair purpose p word)
  pair_then Walks is reads word = record { purpose = refl; tells = (reads, refl); tries = λ retains x e. cc e; begins = λ none copier e. absurd (cc e) }
  pair_then Clears is reads word = record { purpose = refl; tells = tt; tries = λ retains x e. cc (is, retains); begins = λ none copier e. absurd (cc e) }
  pair_then Retains is reads word = record { purpose = refl; tells = refl; tries = λ retains x e. cc e; begins = λ none copier e. absurd (cc e) }

  -- it has read the word of its place
  seen_then : ReadsPlace p.stands → (word : ℕ) → Then (seen p word)
  seen_then reads word = by (removes p.purpose && has_mark word COPYING) (block_in word == 0)
    where
      by : (m z : Bool) → Then (if m then telling (further (record p { met = true })) else (if z then telling (further p) else at_pair p.purpose p word))
      by true z = telling_then (further (record p { met = true })) (quiet_further (record p { met = true })) refl
      by false true = telling_then (further p) (quiet_further p) refl
      by false false = pair_then p.purpose refl reads word

  copied_then : CopiesPairs p.stands → (b : Copier × Yielding (Node K V) Table) → Then (copied p b)
  copied_then copying (next, outcome.Goes) = record { purpose = refl; tells = tt; tries = λ retains word e. cc e; begins = λ none. absurd (none copying) }
  copied_then copying (next, outcome.Waits) = record { purpose = refl; tells = tt; tries = λ retains word e. cc e; begins = λ none. absurd (none copying) }
  copied_then copying (next, outcome.Gave value) = record { purpose = refl; tells = tt; tries = λ retains word e. cc e; begins = λ none. absurd (none copying) }
  copied_then copying (next, outcome.Done root) = telling_then (entering p root) (quiet_entering p root) (entering_purpose p root)
  copied_then copying (next, outcome.Refused fault) = telling_then (standing p (at.Refused fault)) tt refl

  pub disposed_then : (b : Dispose × Settled (Node K V)) → Then (disposed p b)
  disposed_then (next, settled.Goes) = quietly (standing p (at.Disposes next)) tt refl swept.Goes tt
  disposed_then (next, settled.Waits) = quietly (standing p (at.Disposes next)) tt refl swept.Waits tt
  disposed_then (next, settled.Gave value) = quietly (standing p (at.Disposes next)) tt refl (swept.Gave value) tt
  disposed_then (next, settled.Done) = telling_then (further p) (quiet_further p) refl

  copying_then : (next : Table) → IsAtPointThen {T = Node K V} p (standing p (at.Copies (copying_all p.setting p.table next))) swept.Goes
  copying_then next = record {
    purpose = refl;
    tells = tt;
    tries = λ retains word e. cc e;
    begins = λ none copier e claims. begins_unclaiming p.setting p.table next (ap (λ (x : Copier). x.stands) (same_copier copier e) ∙ claims);
  }
    where
      same_copier : (copier : Copier) → at.Copies (copying_all p.setting p.table next) ≡ at.Copies copier → copying_all p.setting p.table next ≡ copier
      same_copier copier e = cc e

  -- it stands where it stood
  still_then : (stage : Sweeping) → p.stands ≡ stage → ((word : ℕ) → stage ≢ at.Tries word) → ((copier : Copier) → stage ≢ at.Copies copier) → Then (p, told stage)
  still_then stage here trying copying = record {
    purpose = refl;
    tells = subst (λ (x : Sweeping). OutcomeAgrees x x (told {T = Node K V} stage)) (sym here) (tells_so (Node K V) stage stage);
    tries = λ retains word e. trying word (sym here ∙ e);
    begins = λ none copier e. absurd (copying copier (sym here ∙ e));
  }

module _ {K V : Type 0} (same : K → K → Bool) (hash : K → ℕ) (caller : ℕ) (setting : Setting) (began : ℕ) (w : World (Node K V)) (c : Chart K) (blocks : Blocks) (p : Sweep)
    (w2 : World (Node K V)) (c2 : Chart K) (blocks2 : Blocks) (p2 : Sweep) (end : Swept (Node K V)) where
  abbrev Moves : Sweeping → Type 0
  Moves stage = SweepMoves same hash caller setting began w c blocks p stage (p2, end) w2 c2 blocks2

  led : (x : Sweep × Swept (Node K V)) → ◌≡◌ {A = Sweep × Swept (Node K V)} (p2, end) x → IsAtPointThen p x.0 x.1 → IsAtPointThen p p2 end
  led x e h = subst (λ (y : Sweep × Swept (Node K V)). IsAtPointThen p y.0 y.1) (sym e) h

  reading : ReadsPlace p.stands → Sees same hash caller setting began w c blocks p (p2, end) → IsAtPointThen p p2 end
  reading reads (t, entered, is) = led (seen p (place_word hash c blocks (c.place t p.place))) is (seen_then p reads (place_word hash c blocks (c.place t p.place)))

  stands_at : (stage : Sweeping) → p.stands ≡ stage → Moves stage → IsAtPointThen p p2 end
  stands_at at.Reads here (e, f, inl none) = led (telling (tableless p)) none.1 (telling_then p (tableless p) (quiet_tableless p) refl)
  stands_at at.Reads here (e, f, inr some) = led (telling (entering p some.0)) some.2 (telling_then p (entering p some.0) (quiet_entering p some.0) (entering_purpose p some.0))
  stands_at at.Follows here (e, f, t, entered, inl last) = led (telling (beginning p)) last.1 (telling_then p (beginning p) (quiet_beginning p) refl)
  stands_at at.Follows here (e, f, t, entered, inr (next, is)) = led (standing p (at.Copies (copying_all p.setting p.table next)), swept.Goes) is (copying_then p next)
  stands_at (at.Copies copier) here (current, b, is, ends) = led (copied p b) is (copied_then p (subst CopiesPairs (sym here) tt) b)
  stands_at at.Words here (e, f, sees) = reading (subst ReadsPlace (sym here) tt) sees
  stands_at (at.Tries word) here (f, inl (e, sees)) = reading (subst ReadsPlace (sym here) tt) sees
  stands_at (at.Tries word) here (f, inr (n, there, current, e, is)) = led (standing p (at.Counts word), swept.Goes) is (quietly p (standing p (at.Counts word)) tt refl swept.Goes tt)
  stands_at (at.Counts removed) here (e, is) = led _ is (quietly p _ tt refl swept.Goes tt)
  stands_at (at.Disposes dispose) here (e, b, is) = led (disposed p b) is (disposed_then p b)
  stands_at at.Ready here (e, is) = led (p, told at.Ready) is (still_then p at.Ready here (λ word e. cc e) (λ copier e. cc e))
  stands_at (at.Asks word) here (e, is) = led (p, told (at.Asks word)) is (still_then p (at.Asks word) here (λ x e. cc e) (λ copier e. cc e))
  stands_at at.Over here (e, is) = led (p, told at.Over) is (still_then p at.Over here (λ word e. cc e) (λ copier e. cc e))
  stands_at (at.Refused fault) here (e, is) = led (p, told (at.Refused fault)) is (still_then p (at.Refused fault) here (λ word e. cc e) (λ copier e. cc e))

  pub stands_then : Moves p.stands → IsAtPointThen p p2 end
  stands_then = stands_at p.stands refl
