-- What a sweep knows lasts over steps of others, also where the root leaves its table.
use Rattle.std.proofs.Common.{◌≡◌, ℕ, ◌<◌, ◌≤◌, Bool, true, false, cond, ◌⊎◌, inl, inr, refl, arith, sym, subst}
use Rattle.std.proofs.lemmas.Bool.{cases_lt}
use Rattle.map_facts.specs.Given.SeizeWorld.{World, Parting, Cutting}
use Rattle.map_facts.specs.Given.TablesChunks.{is_incremental}
use Rattle.map_facts.specs.Given.TablesDeclared.node.Node.{Node}
use Rattle.map_facts.specs.Given.TablesDeclared.setting.Setting.{Setting}
use Rattle.map_facts.specs.Given.TablesDeclared.table.Table.{Table}
use Rattle.map_facts.specs.Given.ResizeDeclared.copier.Copier.{Copier}
use Rattle.map_facts.specs.Given.ResizeDeclared.dispose.Dispose.{Dispose}
use Rattle.map_facts.specs.Given.ReservesDeclared.sweep.Sweep.{Sweep}
use Rattle.map_facts.specs.Given.ReservesDeclared.sweep.Sweeping.{Sweeping}
use Rattle.map_facts.specs.Given.ReservesDeclared.sweep.Sweeping.TheVariants as at
use Rattle.map_facts.specs.Given.RuleChart.{Chart}
use Rattle.map_facts.specs.Given.RuleWords.{Blocks}
use Rattle.map_facts.specs.Given.RuleMaps.{spot_of, IsTable}
use Rattle.map_facts.specs.Given.RuleMoments.{Moments}
use Rattle.map_facts.specs.Given.RuleInWorld.{IsMapIn}
use Rattle.map_facts.specs.FactsCopies.{CopierFacts}
use Rattle.map_facts.specs.FactsCopiesBlocking.{CopierFactsBlocking}
use Rattle.map_facts.specs.FactsDisposes.{LiesBefore, LiesNowhere, HasLeft, DisposeFacts}
use Rattle.map_facts.specs.Others.{OthersStep}
use Rattle.map_facts.specs.Steps.{AreLawful}
use Rattle.map_facts_late.proofs.Known.Disposes as incremental
use Rattle.map_facts_late.proofs.Known.Pairs.{word_here, left_here}
use Rattle.map_facts_late.proofs.Known.Tables.{made_on, first_on, stored_on, table_on}
use Rattle.map_facts_late.specs.Left.{Left, Entered}
use Rattle.map_facts_late.proofs.Lasts.Copiers.{ClaimsStayFew, copier_on, late_copier_on}
use Rattle.map_facts_late.proofs.Lasts.Disposals as blocking_mode
use Rattle.map_facts_late.proofs.Lasts.Promised.{knows_on}
use Rattle.map_facts_late.proofs.Lasts.Tables.{left_on, left_now}
use Rattle.map_facts_late.specs.FactsReserves.{IsEnding}
use Rattle.map_facts_late.proofs.Rooms.Late.Copies.{whole_blocking}
use Rattle.map_facts_late.proofs.Rooms.Lasts.Reserves.{whole_then}
use Rattle.map_facts_late.specs.FactsSweeps.{WasRoot, GoesOver, AtPlace, HasNoTable, NamesStill, CopiesTable, SweepingFacts, SweepFacts}
use Rattle.map_facts_late.specs.LastsSweeps.{SweepsKnowOn}
use Rattle.map_facts_late.proofs.Swept.Sweeps.Tables.{WasRootIn}

module _ {K V : Type 0} (same : K → K → Bool) (hash : K → ℕ) (are : AreLawful same hash) (setting : Setting) (caller : ℕ) (w w2 : World (Node K V)) (c c2 : Chart K) (blocks blocks2 : Blocks)
    (map : IsMapIn same hash setting w c blocks) (map2 : IsMapIn same hash setting w2 c2 blocks2) (moments : Moments (is_incremental setting.mode) c)
    (others : OthersStep same hash setting caller w c blocks w2 c2 blocks2) (few : is_incremental setting.mode ≡ false → ClaimsStayFew c c2) (began : ℕ) (since : began ≤ c.now) where
  -- the table was the root's, and is so still, or the root has left it
  root_in : (b : Bool) (t : ℕ) → WasRootIn same hash c began t b → WasRootIn same hash c2 began t b
  root_in true t upto = first_on same hash setting caller w w2 c c2 blocks blocks2 others t upto
  root_in false t (inr left) = inr (left_on same (spot_of hash) (is_incremental setting.mode) caller c c2 others.leaves began t left)
  root_in false t (inl is) = elim (cases_lt c.first c2.first) as (λ _. Entered c2 began t) [
    | inl on ↦ inr (subst (Left c2 began) (sym is) (left_now same (spot_of hash) (is_incremental setting.mode) caller c c2 others.leaves began since map.map.rule.common.live on))
    | inr still ↦ inl (let f = others.leaves.lasts.first in omega (arith, is, still, f))
  ]

  root_then : (t : ℕ) → WasRoot same hash w caller setting c blocks began t → WasRoot same hash w2 caller setting c2 blocks2 began t
  root_then t h = root_in (is_incremental setting.mode) t h

  table_then : (table : Table) (t : ℕ) → IsTable c blocks table t → IsTable c2 blocks2 table t
  table_then = table_on same hash setting caller w w2 c c2 blocks blocks2 others

  over_then : (p : Sweep) (t : ℕ) → GoesOver same hash w caller setting c blocks began p t → GoesOver same hash w2 caller setting c2 blocks2 began p t
  over_then p t h = record {
    table = table_then p.table t h.table;
    root = root_then t h.root;
    marks = λ met. (let l = h.marks met in let past = others.leaves.lasts.past in omega (arith, l, past));
  }

  len_then : (t : ℕ) → t < c.past → c2.len t ≡ c.len t
  len_then t made = (others.leaves.lasts.lens t made).0

  pub place_then : (p : Sweep) (t : ℕ) → AtPlace same hash w caller setting c blocks began p t → AtPlace same hash w2 caller setting c2 blocks2 began p t
  place_then p t (over, inside) = (over_then p t over, (let len = len_then t over.table.made in omega (arith, inside, len)))

  names_then : (word : ℕ) → NamesStill same hash w caller setting c blocks began word → NamesStill same hash w2 caller setting c2 blocks2 began word
  names_then word (n, borrowed, was, known, is) = (
    n,
    borrowed,
    stored_on same hash setting caller w w2 c c2 blocks blocks2 others n was,
    (others.pairs n was known).1,
    word_here same hash setting caller w w2 c c2 blocks blocks2 map others n was known borrowed word is,
  )

  ready_then : (p : Sweep) → HasNoTable same hash w caller setting c blocks began p ⊎ ((t : ℕ) × GoesOver same hash w caller setting c blocks began p t × (p.place ≤ c.len t))
      → HasNoTable same hash w2 caller setting c2 blocks2 began p ⊎ ((t : ℕ) × GoesOver same hash w2 caller setting c2 blocks2 began p t × (p.place ≤ c2.len t))
  ready_then p (inl none) = inl none
  ready_then p (inr (t, over, upto)) = inr (t, over_then p t over, (let len = len_then t over.table.made in omega (arith, upto, len)))

  -- a pair that it took out
  module _ (n : ℕ) (left : HasLeft w caller setting c blocks n) (t : ℕ) (borrowed : Bool) where
    abbrev OutIn : World (Node K V) → Chart K → Blocks → Bool → Type 0
    OutIn w c blocks b =
        cond (cond b borrowed false) ((w.hand (blocks.pair n) ≡ Parting caller) × LiesBefore w caller setting c blocks n t) ((w.hand (blocks.pair n) ≡ Cutting caller) × LiesNowhere w caller setting c blocks n)

    out_then : OutIn w c blocks (is_incremental setting.mode) → OutIn w2 c2 blocks2 (is_incremental setting.mode)
    out_then h = by (is_incremental setting.mode) refl
      where
        by : (b : Bool) → is_incremental setting.mode ≡ b → OutIn w2 c2 blocks2 (is_incremental setting.mode)
        by true bits = incremental.out_on same hash setting bits caller w w2 c c2 blocks blocks2 map map2 others n left (cond (is_incremental setting.mode) borrowed false) t h
        by false blocking = blocking_mode.out_on same hash setting blocking caller w w2 c c2 blocks blocks2 map map2 others n left t borrowed h

  dispose_then : (d : Dispose) → DisposeFacts w caller setting c blocks d → DisposeFacts w2 caller setting c2 blocks2 d
  dispose_then d h = by (is_incremental setting.mode) refl
    where
      by : (b : Bool) → is_incremental setting.mode ≡ b → DisposeFacts w2 caller setting c2 blocks2 d
      by true bits = incremental.dispose_on same hash setting bits caller w w2 c c2 blocks blocks2 map map2 others d h
      by false blocking = blocking_mode.dispose_on same hash setting blocking caller w w2 c c2 blocks blocks2 map map2 others d h

  -- its copying
  copies_then : (copier : Copier) → CopiesTable same hash w caller setting c blocks began copier → CopiesTable same hash w2 caller setting c2 blocks2 began copier
  copies_then copier (inr (blocking, late)) = inr (blocking, late_copier_on same hash setting blocking caller w w2 c c2 blocks blocks2 map moments others began since copier late)
  copies_then copier (inl whole) = by (is_incremental setting.mode) refl
    where
      by : (b : Bool) → is_incremental setting.mode ≡ b → CopiesTable same hash w2 caller setting c2 blocks2 began copier
      by true bits = inl (whole_then same hash setting caller w w2 c c2 blocks blocks2 map map2 others are.lawful bits copier whole)
      by false blocking =
          elim (copier_on same hash setting blocking caller w w2 c c2 blocks blocks2 map moments others began since (few blocking) copier
          (subst (λ (b : Bool). cond b ((copier.whole ≡ true) × CopierFacts same hash w caller setting c blocks copier × IsEnding same hash w caller setting c blocks copier copier.stands)
          (CopierFactsBlocking same hash w caller setting c blocks copier)) blocking whole)) as (λ _. CopiesTable same hash w2 caller setting c2 blocks2 began copier) [
            | inl fresh ↦ inl (whole_blocking same hash caller setting blocking w2 c2 blocks2 copier fresh)
            | inr late ↦ inr (blocking, late)
          ]

  sweeping_then : (p : Sweep) (stage : Sweeping) → SweepingFacts same hash w caller setting c blocks began p stage → SweepingFacts same hash w2 caller setting c2 blocks2 began p stage
  sweeping_then p at.Reads h = h
  sweeping_then p at.Follows (t, entered, root) = (t, table_then p.table t entered, root_then t root)
  sweeping_then p (at.Copies copier) h = copies_then copier h
  sweeping_then p at.Ready (walks, where_is) = (walks, ready_then p where_is)
  sweeping_then p at.Words (t, place) = (t, place_then p t place)
  sweeping_then p (at.Asks word) (retains, names, t, place) = (retains, names_then word names, t, place_then p t place)
  sweeping_then p (at.Tries word) (taking, names, t, place) = (taking, names_then word names, t, place_then p t place)
  sweeping_then p (at.Counts removed) (taking, t, place, (n, borrowed, left, is, out)) = (
    taking,
    t,
    place_then p t place,
    (
      n,
      borrowed,
      left_here same hash setting caller w w2 c c2 blocks blocks2 map others n left,
      word_here same hash setting caller w w2 c c2 blocks blocks2 map others n left.0 left.1 borrowed removed is,
      out_then n left t borrowed out,
    ),
  )
  sweeping_then p (at.Disposes dispose) (taking, t, place, facts) = (taking, t, place_then p t place, dispose_then dispose facts)
  sweeping_then p at.Over h = h
  sweeping_then p (at.Refused fault) h = h

  pub knows_then : (p : Sweep) → SweepFacts same hash w caller setting c blocks began p → SweepFacts same hash w2 caller setting c2 blocks2 began p
  knows_then p h = record {
    setting_is = h.setting_is;
    idle = λ rests. (knows_on V same hash (λ (q : Unit {0}) (k : K). false) are setting caller w w2 c c2 blocks blocks2 map map2 moments others few).0 (h.idle rests);
    point = sweeping_then p p.stands h.point;
  }

-- the promise
pub sweeps_know_on : {K : Type 0} (V : Type 0) (same : K → K → Bool) (hash : K → ℕ) → SweepsKnowOn V same hash
sweeps_know_on V same hash are setting caller w w2 c c2 blocks blocks2 map map2 moments others few began since =
    knows_then same hash are setting caller w w2 c c2 blocks blocks2 map map2 moments others (λ blocking t made l. few blocking t (made_on same hash setting caller w w2 c c2 blocks blocks2 others t made)) began since
