-- What a step of a sweep that is alone tells: what it shows, or asks about, is a pair that the map has, and that is not done; and what is done then.
use Rattle.std.specs.Prelude.{◌≡◌, ◌≢◌, ℕ, ◌≤◌, Bool, true, cond, eqb, List, [], ◌∷◌}
use Rattle.std.proofs.Common.{inl, inr, refl, ap, sym, subst, ◌∙◌, arith}
use Rattle.std.proofs.lemmas.Bool.{eq-eqb}
use Rattle.seize_words.specs.OneMemory.Word.{link_word}
use Rattle.seize.specs.World.{World}
use Rattle.map_tables.specs.Chunks.{is_incremental}
use Rattle.map_tables.specs.declared.node.Node.{Node}
use Rattle.map_tables.specs.declared.resize_mode.ResizeMode.{ResizeMode}
use Rattle.map_tables.specs.declared.setting.Setting.{Setting}
use Rattle.map_tables.specs.declared.table.Table.{Table}
use Rattle.papaya_raw.specs.Given.ReservesDeclared.sweep.Sweep.{Sweep}
use Rattle.papaya_raw.specs.Given.ReservesDeclared.sweep.Sweeping.{Sweeping}
use Rattle.papaya_raw.specs.Given.ReservesDeclared.sweep.Sweeping.TheVariants as at
use Rattle.papaya_raw.specs.Given.ReservesDeclared.sweep.Swept.{Swept}
use Rattle.papaya_raw.specs.Given.ReservesDeclared.sweep.Swept.TheVariants as swept
use Rattle.map_measures.specs.Given.RuleChart.{Phase, Still, Holds, Chart}
use Rattle.map_measures.specs.Given.RuleWords.{Blocks, mark_bits, byte_of, place_word}
use Rattle.map_measures.specs.Given.RuleInWorld.{IsMapIn}
use Rattle.owner_facts.specs.Given.PointsSteps.{AreLawful}
use Rattle.map_measures.specs.Given.LateCovers.{times, NamesPair, CoversAt}
use Rattle.map_measures.specs.Given.LateCoversSweeps.{DoneBy, DoneAt}
use Rattle.owner_facts.specs.Given.LateFactsSweeps.{CopiesPairs}
use Rattle.owner_facts.specs.Given.LateToldSweeps.{word_shown, ReadsPlace, OutcomeAgrees, OnlyRemoves, NamesThere, SweepOutcome}
use Rattle.owner_facts.proofs.Given.LateSwept.Covers.Begins.{names_current}
use Rattle.owner_facts.proofs.Given.LateSwept.Sweeps.Tables.{still_current}
use Rattle.owner_whole.specs.Whole.LoneSweeps.{IsBefore, goes_once, GoesOverRoot, LiesThere, OverRoot}
use Rattle.owner_whole.specs.Whole.WholeSweeps.{NamesPairOf, ShowsNew}
use Rattle.owner_whole.proofs.Whole.Sweeps.Names.{named, names_pair, one_named}
use Rattle.owner_whole.proofs.Whole.Sweeps.Own.{before_cases}
use Rattle.owner_whole.proofs.Whole.Sweeps.Stages.{StageTold}

-- where it reads the word of its place, it is in its table
reads_root : {K : Type 0} (hash : K → ℕ) (b : Bool) (c : Chart K) (seen : Blocks) (p : Sweep) (stage : Sweeping) → ReadsPlace stage → OverRoot hash b c seen p stage → GoesOverRoot hash b c seen p
reads_root hash b c seen p at.Words reads over = over
reads_root hash b c seen p (at.Tries word) reads over = over.0
reads_root hash b c seen p at.Reads reads over = absurd reads
reads_root hash b c seen p at.Follows reads over = absurd reads
reads_root hash b c seen p (at.Copies copier) reads over = absurd reads
reads_root hash b c seen p at.Ready reads over = absurd reads
reads_root hash b c seen p (at.Asks word) reads over = absurd reads
reads_root hash b c seen p (at.Counts removed) reads over = absurd reads
reads_root hash b c seen p (at.Disposes dispose) reads over = absurd reads
reads_root hash b c seen p at.Over reads over = absurd reads
reads_root hash b c seen p (at.Refused fault) reads over = absurd reads

reads_place : (stage : Sweeping) → ReadsPlace stage → IsBefore stage → ⊥
reads_place at.Words reads before = before
reads_place (at.Tries word) reads before = before
reads_place at.Reads reads before = reads
reads_place at.Follows reads before = reads
reads_place (at.Copies copier) reads before = reads
reads_place at.Ready reads before = reads
reads_place (at.Asks word) reads before = reads
reads_place (at.Counts removed) reads before = reads
reads_place (at.Disposes dispose) reads before = reads
reads_place at.Over reads before = reads
reads_place (at.Refused fault) reads before = reads

before_copies : (stage : Sweeping) → (IsBefore stage → ⊥) → CopiesPairs stage → ⊥
before_copies (at.Copies copier) at_place copies = at_place tt
before_copies at.Reads at_place copies = copies
before_copies at.Follows at_place copies = copies
before_copies at.Ready at_place copies = copies
before_copies at.Words at_place copies = copies
before_copies (at.Asks word) at_place copies = copies
before_copies (at.Tries word) at_place copies = copies
before_copies (at.Counts removed) at_place copies = copies
before_copies (at.Disposes dispose) at_place copies = copies
before_copies at.Over at_place copies = copies
before_copies (at.Refused fault) at_place copies = copies

-- at a place, what is done is that of before, or a pair more
pub done_by : {K T : Type 0} (hash : K → ℕ) (c : Chart K) (blocks : Blocks) (done done2 : List ℕ) (entered entered2 : ℕ) (end : Swept T) (stage : Sweeping) → (IsBefore stage → ⊥)
    → DoneAt hash c blocks done done2 entered entered2 end stage → DoneBy hash c blocks done done2 end
done_by hash c blocks done done2 entered entered2 end at.Reads at_place h = absurd (at_place tt)
done_by hash c blocks done done2 entered entered2 end at.Follows at_place h = absurd (at_place tt)
done_by hash c blocks done done2 entered entered2 end (at.Copies copier) at_place h = absurd (at_place tt)
done_by hash c blocks done done2 entered entered2 end at.Ready at_place h = h.1
done_by hash c blocks done done2 entered entered2 end at.Words at_place h = h.1
done_by hash c blocks done done2 entered entered2 end (at.Asks word) at_place h = h.1
done_by hash c blocks done done2 entered entered2 end (at.Tries word) at_place h = h.1
done_by hash c blocks done done2 entered entered2 end (at.Counts removed) at_place h = h.1
done_by hash c blocks done done2 entered entered2 end (at.Disposes dispose) at_place h = h.1
done_by hash c blocks done done2 entered entered2 end at.Over at_place h = h.1
done_by hash c blocks done done2 entered entered2 end (at.Refused fault) at_place h = h.1

-- one more at its front, and none twice: it was not in it
pub front_new : (n : ℕ) (xs ys : List ℕ) → ys ≡ n ∷ xs → times n ys ≤ 1 → times n xs ≡ 0
front_new n xs ys is few =
    let e = ap (times n) is in let here : cond (eqb n n) 1 0 ≡ 1 = ap {B = ℕ} (λ (x : Bool). cond x 1 0) (eq-eqb n n refl) in omega (arith, few, e, here)

-- what is so of the tables where no move was made, or a pair was removed
root_on : {K : Type 0} (hash : K → ℕ) (b : Bool) (mode : ResizeMode) (c c2 : Chart K) (seen seen2 : Blocks) (p : Sweep) → OnlyRemoves hash mode c c2 → GoesOverRoot hash b c seen p → GoesOverRoot hash b c2 seen2 p
root_on {K = K} hash b mode c c2 seen seen2 p (inl e) over = record {
  root = over.root ∙ sym (ap (λ (d : Chart K). d.first) e);
  last = λ bits. (let l = over.last bits in let first = ap (λ (d : Chart K). d.first) e in let past = ap (λ (d : Chart K). d.past) e in omega (arith, l, first, past));
}
root_on {K = K} hash b mode c c2 seen seen2 p (inr (t, i, e)) over = record {
  root = over.root ∙ sym (ap (λ (d : Chart K). d.first) e);
  last = λ bits. (let l = over.last bits in let first = ap (λ (d : Chart K). d.first) e in let past = ap (λ (d : Chart K). d.past) e in omega (arith, l, first, past));
}

module _ {K V : Type 0} (same : K → K → Bool) (hash : K → ℕ) (lawful : AreLawful same hash) (setting its : Setting) (began : ℕ) (w : World (Node K V)) (c : Chart K) (seen : Blocks) (p : Sweep)
    (over : OverRoot hash (is_incremental setting.mode) c seen p p.stands) (w2 : World (Node K V)) (c2 : Chart K) (blocks2 blocks3 : Blocks) (map2 : IsMapIn same hash setting w2 c2 blocks2)
    (map3 : IsMapIn same hash its w2 c2 blocks3) (pair_seen : (n : ℕ) → c2.current n ≡ true → blocks2.pair n ≡ blocks3.pair n) (p2 : Sweep) (end : Swept (Node K V))
    (told : SweepOutcome same hash 0 setting began c seen p w2 c2 blocks2 p2 end) (stage : StageTold same hash setting w2 c2 blocks2 p (p2, end))
    (done done2 : List ℕ) (entered entered2 : ℕ) (covers : CoversAt hash c2 blocks2 p2 entered2 done2 p2.stands) (is_done : DoneAt hash c2 blocks2 done done2 entered entered2 end p.stands)
    (before : goes_once (is_incremental setting.mode) p.purpose ≡ true → IsBefore p.stands → (done ≡ []) × (done2 ≡ [])) where
  abbrev b : Bool
  b = is_incremental setting.mode

  word_seen : (n : ℕ) (phase : Phase) (borrowed : Bool) → c2.current n ≡ true → place_word hash c2 blocks2 (Holds n phase borrowed) ≡ place_word hash c2 blocks3 (Holds n phase borrowed)
  word_seen n phase borrowed is = ap (λ (x : ℕ). link_word x (byte_of hash (c2.key n)) (mark_bits phase borrowed)) (pair_seen n is)

  -- the pair that a word names
  names_it : (word n : ℕ) (phase : Phase) (borrowed : Bool) → c2.current n ≡ true → word ≡ place_word hash c2 blocks2 (Holds n phase borrowed) → (key : K) × (v : V) × NamesPairOf hash w2.memory c2 blocks3 word n key v
  names_it word n phase borrowed is word_is = named same hash lawful its w2 c2 blocks3 map3 word n phase borrowed is (word_is ∙ word_seen n phase borrowed is)

  -- unless a walk shows a pair, what is done stays so where it goes over one table alone
  pub done_kept : goes_once b p.purpose ≡ true → ((word : ℕ) → end ≢ swept.Pair word) → done2 ≡ done
  done_kept once silent = elim (before_cases p.stands) as (λ _. done2 ≡ done) [
    | inl early ↦ (let h = before once early in h.1 ∙ sym h.0)
    | inr at_place ↦ by end refl (done_by hash c2 blocks2 done done2 entered entered2 end p.stands at_place is_done)
  ]
    where
      by : (x : Swept (Node K V)) → end ≡ x → DoneBy hash c2 blocks2 done done2 x → done2 ≡ done
      by (swept.Pair word) e h = absurd (silent word e)
      by swept.Goes e h = h
      by swept.Waits e h = h
      by (swept.Gave value) e h = h
      by swept.Ready e h = h
      by (swept.Asks word) e h = h
      by swept.Done e h = h
      by (swept.Refused fault) e h = h

  -- a walk shows a pair
  module _ (word : ℕ) (is : end ≡ swept.Pair word) where
    pair_tells : ReadsPlace p.stands × (p2.stands ≡ at.Ready)
    pair_tells = subst (λ (x : Swept (Node K V)). OutcomeAgrees p.stands p2.stands x) is told.stands.tells

    asks_none : p.stands ≢ at.Asks word
    asks_none e = subst ReadsPlace e pair_tells.0

    at_place : IsBefore p.stands → ⊥
    at_place = reads_place p.stands pair_tells.0

    root2 : GoesOverRoot hash b c2 blocks2 p
    root2 = root_on hash b setting.mode c c2 seen blocks2 p (told.beside (before_copies p.stands at_place)) (reads_root hash b c seen p p.stands pair_tells.0 over)

    shown : (n : ℕ) × (phase : Phase) × NamesThere hash c2 blocks2 p word n phase
    shown = told.shows word (ap word_shown is) asks_none

    turn_is : shown.2.0 ≡ c2.first
    turn_is = ap (λ (x : Table). x.turn) (sym shown.2.2.is) ∙ root2.root

    shown_current : c2.current shown.0 ≡ true
    shown_current =
        (names_current same hash c2 b map2.map.rule root2.last shown.0).1 (p.place, shown.1, shown.2.1, ap (λ (t : ℕ). c2.place t p.place) (sym turn_is) ∙ shown.2.3)

    adds : (n : ℕ) × NamesPair hash c2 blocks2 word n × (done2 ≡ n ∷ done)
    adds = subst (DoneBy hash c2 blocks2 done done2) is (done_by hash c2 blocks2 done done2 entered entered2 end p.stands at_place is_done)

    done_is : done2 ≡ shown.0 ∷ done
    done_is = adds.2 ∙ ap (λ (n : ℕ). n ∷ done) (one_named same hash lawful setting w2 c2 blocks2 map2 word adds.0 shown.0 adds.1 (names_pair same hash lawful setting w2 c2 blocks2 map2 word shown.0 shown.1 shown.2.1 shown_current shown.2.4))

    few : times shown.0 done2 ≤ 1
    few = by (subst (CoversAt hash c2 blocks2 p2 entered2 done2) pair_tells.1 covers)
      where
        by : CoversAt hash c2 blocks2 p2 entered2 done2 at.Ready → times shown.0 done2 ≤ 1
        by (inl came) = came.1.shown.1 shown.0
        by (inr in_table) = in_table.1.shown.1 shown.0

    pair_new : ShowsNew hash w2.memory c2 blocks3 (goes_once b p.purpose) done done2 (swept.Pair word)
    pair_new =
        let p = names_it word shown.0 shown.1 shown.2.1 shown_current shown.2.4 in
        (shown.0, p.0, p.1, (p.2, front_new shown.0 done done2 done_is few), done_is)

  -- it asks about a pair
  module _ (word : ℕ) (is : end ≡ swept.Asks word) where
    asks_there : p2.stands ≡ at.Asks word
    asks_there = subst (λ (x : Swept (Node K V)). OutcomeAgrees p.stands p2.stands x) is told.stands.tells

    asks_over : GoesOverRoot hash b c2 blocks2 p2 × LiesThere hash b c2 blocks2 p2 word
    asks_over = subst (OverRoot hash b c2 blocks2 p2) asks_there stage.table

    asks_current : c2.current asks_over.1.0 ≡ true
    asks_current = still_current same hash c2 began b map2.map.rule p2.place asks_over.1.0 asks_over.1.1 (ap (λ (x : ℕ). c2.place x p2.place) (sym asks_over.0.root) ∙ asks_over.1.2)

    asks_covers : CoversAt hash c2 blocks2 p2 entered2 done2 (at.Asks word)
    asks_covers = subst (CoversAt hash c2 blocks2 p2 entered2 done2) asks_there covers

    asks_new : ShowsNew hash w2.memory c2 blocks3 (goes_once b p.purpose) done done2 (swept.Asks word)
    asks_new =
        let n = asks_over.1.0 in
        let p = names_it word n Still asks_over.1.1 asks_current asks_over.1.3 in
        let one = one_named same hash lawful setting w2 c2 blocks2 map2 word asks_covers.1 n asks_covers.2 (names_pair same hash lawful setting w2 c2 blocks2 map2 word n Still asks_over.1.1 asks_current asks_over.1.3) in
        ((n, p.0, p.1, (p.2, ap (λ (x : ℕ). times x done2) (sym one) ∙ asks_covers.3.fresh)), λ once. done_kept once (λ other e. cc (is, e)))

  pub tells_new : ShowsNew hash w2.memory c2 blocks3 (goes_once b p.purpose) done done2 end
  tells_new = by end refl
    where
      by : (x : Swept (Node K V)) → end ≡ x → ShowsNew hash w2.memory c2 blocks3 (goes_once b p.purpose) done done2 x
      by (swept.Pair word) e = pair_new word e
      by (swept.Asks word) e = asks_new word e
      by swept.Goes e = λ once. done_kept once (λ word q. cc (e, q))
      by swept.Waits e = λ once. done_kept once (λ word q. cc (e, q))
      by (swept.Gave value) e = λ once. done_kept once (λ word q. cc (e, q))
      by swept.Ready e = λ once. done_kept once (λ word q. cc (e, q))
      by swept.Done e = λ once. done_kept once (λ word q. cc (e, q))
      by (swept.Refused fault) e = λ once. done_kept once (λ word q. cc (e, q))
