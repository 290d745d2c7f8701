-- What runs keeps: each step keeps the pairs that the map has still, and tells what was changed since the map stood in some way.
use Rattle.std.specs.Prelude.{◌≡◌, ◌≢◌, ℕ, suc, ◌<◌, ◌≤◌, ◌⊎◌, Bool, true, false, cond, eqb}
use Rattle.std.proofs.Common.{refl, ap, sym, subst, ◌∙◌, inl, inr, arith}
use Rattle.std.proofs.lemmas.Bool.{cases_lt, ne_eqb}
use Rattle.seize_words.specs.OneMemory.Mem.{Mem, value_at}
use Rattle.seize.specs.World.{World, Steps'}
use Rattle.map_measures.proofs.Given.SeizeAloneHistories.NotTaken.{kept_value}
use Rattle.map_tables.specs.Chunks.{is_incremental}
use Rattle.map_tables.specs.Nodes.{deferred_word}
use Rattle.map_tables.specs.declared.node.Node.{Node}
use Rattle.map_tables.specs.declared.setting.Setting.{Setting}
use Rattle.map_measures.specs.Given.RuleChart.{Chart, put}
use Rattle.map_measures.specs.Given.RuleMaps.{spot_of}
use Rattle.map_measures.specs.Given.RuleWords.{Blocks}
use Rattle.map_measures.specs.Given.RuleInWorld.{IsMapIn, IsOut, Moved, StepSpec}
use Rattle.map_measures.specs.Given.RuleMoments.{Moments, Remembers}
use Rattle.map_measures.specs.Given.RuleMoves.{Move, Links, Stores, Replaces, Removes, Marks, MarksBlocking, Skips, Unmarks, Puts, Covers, PutsLate, Claims, Reclaims, Counts, GivesUp, Aborts, Promotes, Announces, after}
use Rattle.map_tables.specs.declared.resize_mode.ResizeMode.{ResizeMode}
use Rattle.map_measures.proofs.Given.RuleWorld.Hands.{current_known}
use Rattle.owner_facts.specs.Given.PointsFactsCalls.{Change, Unchanged, Stored, Replaced, Removed, Changes}
use Rattle.owner_facts.specs.Given.PointsSteps.{AreLawful}
use Rattle.map_measures.proofs.Given.PointsMovedLasts.{moved_lasts}
use Rattle.map_measures.proofs.Given.RuleMoves.Lasting.{beside_lasts}
use Rattle.owner_facts.specs.Alone.Alone.{HasChanged}
use Rattle.owner_facts.specs.Given.CallersTogether.{CameAbout}
use Rattle.map_measures.proofs.Given.CallersRows.Keep.{kept_block, used_kept}
use Rattle.owner_facts.proofs.Given.CallersTogether.Came.{came_reached}
use Rattle.owner_whole.specs.Whole.Contents.{KeepsPairs, StillSince, HasRun, RunsBegin}

-- where one pair is taken out, what there is was there before
pub out_of : (f : ℕ → Bool) (n o : ℕ) → put f n false o ≡ true → f o ≡ true
out_of f n o = by (eqb o n)
  where
    by : (b : Bool) → cond b false (f o) ≡ true → f o ≡ true
    by true e = absurd (cc e)
    by false e = e

-- a pair that the map has after a change was there before, unless it is the one that was stored
module _ {K : Type 0} (same : K → K → Bool) (hash : K → ℕ) (incremental : Bool) (keys : K → Bool) (c c2 : Chart K) where
  beside : (f : ℕ → Bool) (n o : ℕ) → o ≢ n → put f n true o ≡ true → f o ≡ true
  beside f n o other e = sym (ap (λ (b : Bool). cond b true (f o)) (ne_eqb o n other)) ∙ e

  were_there : (change : Change) → Changes same hash incremental keys c c2 change → (o : ℕ) → o < c.stored → c2.current o ≡ true → c.current o ≡ true
  were_there Unchanged h o low e = sym (ap (λ (f : ℕ → Bool). f o) h) ∙ e
  were_there (Stored n) h o low e = let is = h.0 in beside c.current n o (λ z. omega (arith, z, is, low)) (sym (ap (λ (f : ℕ → Bool). f o) h.2) ∙ e)
  were_there (Replaced p n) h o low e =
      let is = h.0 in out_of c.current p o (beside (put c.current p false) n o (λ z. omega (arith, z, is, low)) (sym (ap (λ (f : ℕ → Bool). f o) h.2) ∙ e))
  were_there (Removed p) h o low e = out_of c.current p o (sym (ap (λ (f : ℕ → Bool). f o) h.1) ∙ e)

  pub were_told : (change change2 : Change) → ((change2 ≡ change) × (c2.current ≡ c.current)) ⊎ ((change ≡ Unchanged) × Changes same hash incremental keys c c2 change2)
      → (o : ℕ) → o < c.stored → c2.current o ≡ true → c.current o ≡ true
  were_told change change2 (inl still) o low e = sym (ap (λ (f : ℕ → Bool). f o) still.1) ∙ e
  were_told change change2 (inr made) o low e = were_there change2 made.1 o low e

-- one run after another
pub keeps_on : {K V : Type 0} (m0 m m2 : Mem (Node K V)) (c0 c c2 : Chart K) (blocks0 blocks blocks2 : Blocks) → KeepsPairs m0 c0 blocks0 m c blocks → KeepsPairs m c blocks m2 c2 blocks2
    → KeepsPairs m0 c0 blocks0 m2 c2 blocks2
keeps_on m0 m m2 c0 c c2 blocks0 blocks blocks2 past on = record {
  stored = (let a = past.stored in let b = on.stored in omega (arith, a, b));
  were = λ o low e. past.were o low (on.were o (let a = past.stored in omega (arith, low, a)) e);
  values = λ o low e. (let high : o < c.stored = (let a = past.stored in omega (arith, low, a)) in on.values o high e ∙ past.values o low (on.were o high e));
}

module _ {K V : Type 0} (same : K → K → Bool) (hash : K → ℕ) (lawful : AreLawful same hash) (setting : Setting) (w : World (Node K V)) (c : Chart K) (blocks : Blocks)
    (map : IsMapIn same hash setting w c blocks) where
  -- a step of the caller's own
  module _ (here : Setting) (caller : ℕ) (seen : Blocks) (m2 : Mem (Node K V)) (Told : World (Node K V) → Chart K → Blocks → Type 0)
      (went : StepSpec same hash here caller w c seen m2 Told) (blocks2 : Blocks) (blocks_same : (o : ℕ) → o < c.stored → blocks2.pair o ≡ blocks.pair o)
      (sees : IsMapIn same hash here w c seen) where
    pub went_keeps : ((o : ℕ) → o < c.stored → went.c2.current o ≡ true → c.current o ≡ true) → KeepsPairs w.memory c blocks went.w2.memory went.c2 blocks2
    went_keeps were = record {
      stored = (moved_lasts same hash here lawful.lawful w c went.c2 seen sees went.moved).stored;
      were = were;
      values = λ o low e. ap (value_at went.w2.memory) (blocks_same o low) ∙ value_same o (were o low e);
    }
      where
        value_same : (o : ℕ) → c.current o ≡ true → value_at went.w2.memory (blocks.pair o) ≡ value_at w.memory (blocks.pair o)
        value_same o e =
            let known = current_known same hash setting w c blocks map.map.rule map.map.shows o e in
            let is = (map.map.shows.pairs o known.0 known.1).2 in
            ap (λ (m : Mem (Node K V)). value_at m (blocks.pair o)) went.memory
            ∙ went.frame.values (blocks.pair o) _ is (λ making. subst IsOut making.0 (map.pairs_out o known.0 known.1)) ∙ sym is

  -- a step of a row
  pub row_keeps : CameAbout setting.batch_size w → (i : ℕ) (w2 : World (Node K V)) → Steps' deferred_word i (w.row i) w w2 → KeepsPairs w.memory c blocks w2.memory c blocks
  row_keeps came i w2 step = record {
    stored = omega arith;
    were = λ o low e. e;
    values = λ o low e. kept_value deferred_word setting.batch_size w (came_reached setting.batch_size w came) i w2 step (blocks.pair o)
        (kept_block w (blocks.pair o) (used_kept w (blocks.pair o) (map.pairs o e)));
  }

-- a move is one moment at most
now_after : {K : Type 0} (spot : ℕ → K → ℕ → ℕ) (b : Bool) (move : Move K) (c : Chart K) → (after spot b move c).now ≤ suc c.now
now_after spot b (Links len limit) c = omega arith
now_after spot b (Stores t k j) c = omega arith
now_after spot b (Replaces t i k) c = omega arith
now_after spot b (Removes t i) c = omega arith
now_after spot b (Marks caller i) c = omega arith
now_after spot b (MarksBlocking i) c = omega arith
now_after spot b (Skips caller t i) c = omega arith
now_after spot b (Unmarks caller i) c = omega arith
now_after spot b (Puts caller i t k j) c = omega arith
now_after spot b (Covers caller i) c = omega arith
now_after spot b (PutsLate t i n) c = omega arith
now_after spot b (Claims caller t chunk) c = omega arith
now_after spot b (Reclaims t claim) c = omega arith
now_after spot b (Counts caller t number) c = omega arith
now_after spot b (GivesUp caller t) c = omega arith
now_after spot b (Aborts t) c = omega arith
now_after spot b (Promotes t) c = omega arith
now_after spot b (Announces t) c = omega arith

pub now_next : {K : Type 0} (same : K → K → Bool) (hash : K → ℕ) (mode : ResizeMode) (caller : ℕ) (c c2 : Chart K) → Moved same hash mode caller c c2 → c2.now ≤ suc c.now
now_next {K} same hash mode caller c c2 (inl e) = let now = ap (λ (d : Chart K). d.now) e in omega (arith, now)
now_next {K} same hash mode caller c c2 (inr (move, may, e, its)) =
    let now = ap (λ (d : Chart K). d.now) e in let l = now_after (spot_of hash) (is_incremental mode) move c in omega (arith, now, l)

-- while nothing is changed, the map has the same pairs at each moment
module _ {K : Type 0} (same : K → K → Bool) (hash : K → ℕ) (mode : ResizeMode) (keys : K → Bool) (caller : ℕ) (c0 c c2 : Chart K) (moved : Moved same hash mode caller c c2)
    (remembers : Remembers (is_incremental mode) c c2) (moments2 : Moments (is_incremental mode) c2) (change change2 : Change) where
  as_it_was : ((change2 ≡ change) × (c2.current ≡ c.current)) ⊎ ((change ≡ Unchanged) × Changes same hash (is_incremental mode) keys c c2 change2)
      → change2 ≡ Unchanged → (change ≡ Unchanged) × (c2.current ≡ c.current)
  as_it_was (inl k) e = (sym k.0 ∙ e, k.1)
  as_it_was (inr k) e = (k.0, subst (λ (x : Change). Changes same hash (is_incremental mode) keys c c2 x) e k.1)

  pub still_on : ((change2 ≡ change) × (c2.current ≡ c.current)) ⊎ ((change ≡ Unchanged) × Changes same hash (is_incremental mode) keys c c2 change2)
      → StillSince c0 c change → StillSince c0 c2 change2
  still_on told past e n o l h =
      let was = as_it_was told e in
      elim (cases_lt c.now n) as (λ _. c2.was n o ≡ c2.current o) [
        | inl later ↦ (
            let next = now_next same hash mode caller c c2 moved in let is : n ≡ c2.now = omega (arith, later, h, next) in
            ap (λ (x : ℕ). c2.was x o) is ∙ moments2.now_is o
            )
        | inr before ↦ ap (λ (f : ℕ → Bool). f o) (remembers.was n before) ∙ past was.0 n o l before ∙ sym (ap (λ (f : ℕ → Bool). f o) was.1)
      ]

-- what has run since the map stood so
module _ {K V : Type 0} (same : K → K → Bool) (hash : K → ℕ) (setting : Setting) (keys : K → Bool) (m0 : Mem (Node K V)) (c0 : Chart K) (blocks0 : Blocks) where
  pub run_on : (m m2 : Mem (Node K V)) (c c2 : Chart K) (blocks blocks2 : Blocks) (change change2 : Change) → (HasChanged same hash setting keys c0 c change → HasChanged same hash setting keys c0 c2 change2)
      → KeepsPairs m c blocks m2 c2 blocks2 → (StillSince c0 c change → StillSince c0 c2 change2) → HasRun same hash setting keys m0 c0 blocks0 change m c blocks → HasRun same hash setting keys m0 c0 blocks0 change2 m2 c2 blocks2
  run_on m m2 c c2 blocks blocks2 change change2 changes keeps stays past = record {
    changed = changes past.changed;
    keeps = keeps_on m0 m m2 c0 c c2 blocks0 blocks blocks2 past.keeps keeps;
    still = stays past.still;
  }

pub runs_begin : {K : Type 0} (V : Type 0) (same : K → K → Bool) (hash : K → ℕ) → RunsBegin V same hash
runs_begin V same hash setting keys m c blocks moments = record {
  changed = record { changes = refl; lasts = beside_lasts same (spot_of hash) (is_incremental setting.mode) c c.status c.claim c.copied c.share; stored = omega arith };
  keeps = record { stored = omega arith; were = λ o low e. e; values = λ o low e. refl };
  still = λ e n o l h. let is : n ≡ c.now = omega (arith, l, h) in ap (λ (x : ℕ). c.was x o) is ∙ moments.now_is o;
}
