-- What a step of a sweep tells, by how it moves its map and leads on.
use Rattle.std.specs.Prelude.{◌≡◌, ◌≢◌, ℕ, Bool, true, false, Some, ◌==◌, ◌&&◌, if◌then◌else◌}
use Rattle.std.proofs.Common.{refl, ap, inl, inr, sym, subst, ◌∙◌, arith}
use Rattle.std.proofs.lemmas.Bool.{eqb-false}
use Rattle.map_facts.specs.Given.SeizeWordsWord.{block_in}
use Rattle.map_facts.specs.Given.SeizeWorld.{World}
use Rattle.map_facts.specs.Given.SeizeDeclared.rows.settle.Settled.{Settled}
use Rattle.map_facts.specs.Given.SeizeDeclared.rows.settle.Settled.TheVariants as settled
use Rattle.map_facts.specs.Given.TablesChunks.{is_incremental}
use Rattle.map_facts.specs.Given.TablesMarks.{has_mark}
use Rattle.map_facts.specs.Given.TablesDeclared.marks.TheConstants.{COPYING}
use Rattle.map_facts.specs.Given.TablesDeclared.node.Node.{Node}
use Rattle.map_facts.specs.Given.TablesDeclared.setting.Setting.{Setting}
use Rattle.map_facts.specs.Given.TablesDeclared.table.Table.{Table}
use Rattle.map_facts.specs.Given.ResizeDeclared.copier.Copier.{Copier}
use Rattle.map_facts.specs.Given.ResizeDeclared.dispose.Dispose.{Dispose}
use Rattle.map_facts.specs.Given.ResizeDeclared.yielding.Yielding.{Yielding}
use Rattle.map_facts.specs.Given.ResizeDeclared.yielding.Yielding.TheVariants as outcome
use Rattle.map_facts.specs.Given.SweepsSweep.{copied, disposed}
use Rattle.map_facts.specs.Given.SweepsSweepPoints.{removes, tableless, beginning, entering, further, told, telling, at_pair, seen}
use Rattle.map_facts.specs.Given.ReservesDeclared.sweep.Purpose.{Purpose}
use Rattle.map_facts.specs.Given.ReservesDeclared.sweep.Purpose.TheVariants.{Walks, Clears, Retains}
use Rattle.map_facts.specs.Given.ReservesDeclared.sweep.Sweep.{Sweep}
use Rattle.map_facts.specs.Given.ReservesDeclared.sweep.Sweeping.{Sweeping}
use Rattle.map_facts.specs.Given.ReservesDeclared.sweep.Sweeping.TheVariants as at
use Rattle.map_facts.specs.Given.ReservesDeclared.sweep.Swept.{Swept}
use Rattle.map_facts.specs.Given.RuleChart.{Phase, Place, Holds, Chart}
use Rattle.map_facts.specs.Given.RuleMoves.{without}
use Rattle.map_facts.specs.Given.RuleWords.{Blocks, byte_of, place_word}
use Rattle.map_facts.specs.Given.RuleMaps.{spot_of}
use Rattle.map_facts.specs.Given.RuleInWorld.{IsMapIn}
use Rattle.map_facts.proofs.Given.RuleWords.PlaceWordsRead.{word-pair}
use Rattle.map_facts_late.specs.FactsSweeps.{CopiesPairs}
use Rattle.map_facts_late.specs.ToldSweeps.{word_shown, NamesThere, IsAtPointThen, SweepOutcome}
use Rattle.map_facts_late.proofs.Swept.Sweeps.Moved.{Sees, SweepTells}
use Rattle.map_facts_late.proofs.Swept.Sweeps.Stands.{IsQuiet, quiet_tableless, quiet_beginning, quiet_entering, quiet_further, stands_then}

-- where it is quiet it names no pair
pub quiet_tells : (T : Type 0) (stage : Sweeping) → IsQuiet stage → (word : ℕ) → word_shown (told {T = T} stage) ≡ Some word → ⊥
quiet_tells T at.Reads quiet word e = cc e
quiet_tells T at.Follows quiet word e = cc e
quiet_tells T (at.Copies copier) quiet word e = quiet
quiet_tells T at.Ready quiet word e = cc e
quiet_tells T at.Words quiet word e = cc e
quiet_tells T (at.Asks asked) quiet word e = quiet
quiet_tells T (at.Tries tried) quiet word e = quiet
quiet_tells T (at.Counts removed) quiet word e = cc e
quiet_tells T (at.Disposes dispose) quiet word e = cc e
quiet_tells T at.Over quiet word e = cc e
quiet_tells T (at.Refused fault) quiet word e = cc e

module _ {K V : Type 0} (same : K → K → Bool) (hash : K → ℕ) (caller : ℕ) (setting : Setting) (began : ℕ) (w : World (Node K V)) (c : Chart K) (blocks : Blocks)
    (map : IsMapIn same hash setting w c blocks) (p : Sweep) where
  -- a word that it tells is that of the pair of its place
  sees_names : (t : ℕ) (word : ℕ) → word_shown (seen {T = Node K V} p (place_word hash c blocks (c.place t p.place))).1 ≡ Some word
      → (n : ℕ) × (phase : Phase) × (borrowed : Bool) × (c.place t p.place ≡ Holds n phase borrowed) × (word ≡ place_word hash c blocks (c.place t p.place))
  sees_names t word e = by (removes p.purpose && has_mark there COPYING) (block_in there == 0) refl e
    where
      there : ℕ
      there = place_word hash c blocks (c.place t p.place)

      pair : (purpose : Purpose) → block_in there ≢ 0 → word_shown (at_pair {T = Node K V} purpose p there).1 ≡ Some word
          → (n : ℕ) × (phase : Phase) × (borrowed : Bool) × (c.place t p.place ≡ Holds n phase borrowed) × (word ≡ there)
      pair Walks some e = let h = word-pair blocks.pair (λ o. byte_of hash (c.key o)) (c.place t p.place) (omega (arith, some)) in (h.0, h.1, h.2, h.3, cc e)
      pair Clears some e = absurd (cc e)
      pair Retains some e = let h = word-pair blocks.pair (λ o. byte_of hash (c.key o)) (c.place t p.place) (omega (arith, some)) in (h.0, h.1, h.2, h.3, cc e)

      by : (m z : Bool) → (block_in there == 0) ≡ z → word_shown (if m then telling {T = Node K V} (further (record p { met = true })) else (if z then telling (further p) else at_pair p.purpose p there)).1 ≡ Some word
          → (n : ℕ) × (phase : Phase) × (borrowed : Bool) × (c.place t p.place ≡ Holds n phase borrowed) × (word ≡ there)
      by true z zero e = absurd (quiet_tells (Node K V) (further (record p { met = true })).stands (quiet_further (record p { met = true })) word e)
      by false true zero e = absurd (quiet_tells (Node K V) (further p).stands (quiet_further p) word e)
      by false false zero e = pair p.purpose (eqb-false (block_in there) 0 zero) e

  names_there : (end : Sweep × Swept (Node K V)) → Sees same hash caller setting began w c blocks p end → (word : ℕ) → word_shown end.1 ≡ Some word
      → (n : ℕ) × (phase : Phase) × NamesThere hash c blocks p word n phase
  names_there end (t, entered, is) word e =
      let h = sees_names t word (sym (ap (λ (x : Sweep × Swept (Node K V)). word_shown x.1) is) ∙ e) in
      (h.0, h.1, (t, h.2, entered, h.3, h.4 ∙ ap (place_word hash c blocks) h.3))

  module _ (w2 : World (Node K V)) (c2 : Chart K) (blocks2 : Blocks) (p2 : Sweep) (end : Swept (Node K V)) (stood : IsAtPointThen p p2 end) where
    abbrev Tells : Sweeping → Type 0
    Tells stage = SweepTells same hash caller setting began w c blocks p stage (p2, end) w2 c2 blocks2

    abbrev Led : Sweep × Swept (Node K V)
    Led = (p2, end)

    abbrev IsTold : Type 0
    IsTold = SweepOutcome same hash caller setting began c blocks p w2 c2 blocks2 p2 end

    current_same : c2 ≡ c → c2.current ≡ c.current
    current_same e = ap (λ (x : Chart K). x.current) e

    -- where no move was made, and no pair is told of
    silent : (stage : Sweeping) → Tells stage → c2 ≡ c → (q : Sweep) → IsQuiet q.stands → end ≡ told q.stands → IsTold
    silent stage tells e q quiet is = record {
      facts = tells.0;
      changes = inl (current_same e);
      beside = λ other. inl e;
      shows = λ word named fresh. absurd (quiet_tells (Node K V) q.stands quiet word (ap word_shown (sym is) ∙ named));
      stands = stood;
    }

    end_of : (x : Sweep × Swept (Node K V)) → ◌≡◌ {A = Sweep × Swept (Node K V)} (p2, end) x → end ≡ x.1
    end_of x e = ap (λ (y : Sweep × Swept (Node K V)). y.1) e

    seeing : (stage : Sweeping) → Tells stage → c2 ≡ c → blocks2 ≡ blocks → Sees same hash caller setting began w c blocks p (p2, end) → IsTold
    seeing stage tells e f sees = record {
      facts = tells.0;
      changes = inl (current_same e);
      beside = λ other. inl e;
      shows = λ word named fresh.
          subst (λ (x : Chart K). (n : ℕ) × (phase : Phase) × NamesThere hash x blocks2 p word n phase) (sym e)
          (subst (λ (x : Blocks). (n : ℕ) × (phase : Phase) × NamesThere hash c x p word n phase) (sym f) (names_there (p2, end) sees word named));
      stands = stood;
    }

    disposing_quiet : (b : Dispose × Settled (Node K V)) → Led ≡ disposed p b → (word : ℕ) → word_shown end ≡ Some word → ⊥
    disposing_quiet (next, settled.Goes) is word e = absurd (let f = end_of _ is in cc (f, e))
    disposing_quiet (next, settled.Waits) is word e = absurd (let f = end_of _ is in cc (f, e))
    disposing_quiet (next, settled.Gave value) is word e = absurd (let f = end_of _ is in cc (f, e))
    disposing_quiet (next, settled.Done) is word e = quiet_tells (Node K V) (further p).stands (quiet_further p) word (ap word_shown (sym (end_of _ is)) ∙ e)

    copying_quiet : (b : Copier × Yielding (Node K V) Table) → Led ≡ copied p b → (word : ℕ) → word_shown end ≡ Some word → ⊥
    copying_quiet (next, outcome.Goes) is word e = absurd (let f = end_of _ is in cc (f, e))
    copying_quiet (next, outcome.Waits) is word e = absurd (let f = end_of _ is in cc (f, e))
    copying_quiet (next, outcome.Gave value) is word e = absurd (let f = end_of _ is in cc (f, e))
    copying_quiet (next, outcome.Done table) is word e = quiet_tells (Node K V) (entering p table).stands (quiet_entering p table) word (ap word_shown (sym (end_of _ is)) ∙ e)
    copying_quiet (next, outcome.Refused fault) is word e = absurd (let f = end_of _ is in cc (f, e))

    still : (stage : Sweeping) → p.stands ≡ stage → Tells stage → c2 ≡ c → ◌≡◌ {A = Sweep × Swept (Node K V)} (p2, end) (p, told stage) → IsTold
    still stage here tells e is = record {
      facts = tells.0;
      changes = inl (current_same e);
      beside = λ other. inl e;
      shows = λ word named fresh. absurd (by stage here (ap word_shown (sym (end_of _ is)) ∙ named) fresh);
      stands = stood;
    }
      where
        by : (stage : Sweeping) → p.stands ≡ stage → {word : ℕ} → word_shown (told {T = Node K V} stage) ≡ Some word → p.stands ≢ at.Asks word → ⊥
        by (at.Asks asked) here {word} e fresh = fresh (here ∙ ap at.Asks (let same_word : asked ≡ word = cc e in same_word))
        by at.Reads here e fresh = cc e
        by at.Follows here e fresh = cc e
        by (at.Copies copier) here e fresh = cc e
        by at.Ready here e fresh = cc e
        by at.Words here e fresh = cc e
        by (at.Tries tried) here e fresh = cc e
        by (at.Counts removed) here e fresh = cc e
        by (at.Disposes dispose) here e fresh = cc e
        by at.Over here e fresh = cc e
        by (at.Refused fault) here e fresh = cc e

    told_at : (stage : Sweeping) → p.stands ≡ stage → Tells stage → IsTold
    told_at at.Reads here (facts, (e, f, inl none)) = silent at.Reads (facts, (e, f, inl none)) e (tableless p) (quiet_tableless p) (end_of _ none.1)
    told_at at.Reads here (facts, (e, f, inr some)) = silent at.Reads (facts, (e, f, inr some)) e (entering p some.0) (quiet_entering p some.0) (end_of _ some.2)
    told_at at.Follows here (facts, (e, f, t, entered, inl last)) = silent at.Follows (facts, (e, f, t, entered, inl last)) e (beginning p) (quiet_beginning p) (end_of _ last.1)
    told_at at.Follows here (facts, (e, f, t, entered, inr (next, is))) = record {
      facts = facts;
      changes = inl (current_same e);
      beside = λ other. inl e;
      shows = λ word named fresh. absurd (let f = end_of _ is in cc (f, named));
      stands = stood;
    }
    told_at (at.Copies copier) here (facts, (current, b, is, ends)) = record {
      facts = facts;
      changes = inl current;
      beside = λ other. absurd (other (subst CopiesPairs (sym here) tt));
      shows = λ word named fresh. absurd (copying_quiet b is word named);
      stands = stood;
    }
    told_at at.Words here (facts, (e, f, sees)) = seeing at.Words (facts, (e, f, sees)) e f sees
    told_at (at.Tries word) here (facts, (f, inl (e, sees))) = seeing (at.Tries word) (facts, (f, inl (e, sees))) e f sees
    told_at (at.Tries word) here (facts, (f, inr (n, there, current, e, is))) = record {
      facts = facts;
      changes = inr (
        word,
        n,
        here,
        there,
        current,
        ap (λ (x : Chart K). x.current) e ∙ ap (λ (x : Place). without (spot_of hash) (is_incremental setting.mode) x c.current) there.3,
      );
      beside = λ other. inr (there.0, p.place, e);
      shows = λ word2 named fresh. absurd (let f = end_of _ is in cc (f, named));
      stands = stood;
    }
    told_at (at.Counts removed) here (facts, (e, is)) = record {
      facts = facts;
      changes = inl (current_same e);
      beside = λ other. inl e;
      shows = λ word named fresh. absurd (let f = end_of _ is in cc (f, named));
      stands = stood;
    }
    told_at (at.Disposes dispose) here (facts, (e, b, is)) = record {
      facts = facts;
      changes = inl (current_same e);
      beside = λ other. inl e;
      shows = λ word named fresh. absurd (disposing_quiet b is word named);
      stands = stood;
    }
    told_at at.Ready here (facts, (e, is)) = still at.Ready here (facts, (e, is)) e is
    told_at (at.Asks word) here (facts, (e, is)) = still (at.Asks word) here (facts, (e, is)) e is
    told_at at.Over here (facts, (e, is)) = still at.Over here (facts, (e, is)) e is
    told_at (at.Refused fault) here (facts, (e, is)) = still (at.Refused fault) here (facts, (e, is)) e is

  pub told_of : (w2 : World (Node K V)) (c2 : Chart K) (blocks2 : Blocks) (p2 : Sweep) (end : Swept (Node K V)) → SweepTells same hash caller setting began w c blocks p p.stands (p2, end) w2 c2 blocks2
      → SweepOutcome same hash caller setting began c blocks p w2 c2 blocks2 p2 end
  told_of w2 c2 blocks2 p2 end tells =
      told_at w2 c2 blocks2 p2 end (stands_then same hash caller setting began w c blocks p w2 c2 blocks2 p2 end tells.1) p.stands refl tells
