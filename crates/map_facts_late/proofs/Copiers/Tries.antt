-- A copier whose source the root has left looks for a place for a pair in its target, which was aborted, and puts it there.
use Rattle.std.specs.Prelude.{Some, None, nat_lt, if◌then◌else◌, Ok}
use Rattle.std.proofs.Common.{◌≡◌, ℕ, suc, ◌-◌, ◌<◌, ◌==◌, Bool, true, false, ◌⊎◌, inl, inr, refl, ap, sym, subst, ◌∙◌, arith}
use Rattle.map_facts.specs.Given.SeizeWordsDeclared.at.At.{At}
use Rattle.map_facts.specs.Given.SeizeWordsMem.{Mem, Took, value_at, word_at, with_word}
use Rattle.map_facts.specs.Given.SeizeWordsOp.{Exchange, Exchanged}
use Rattle.map_facts.specs.Given.SeizeWordsPlan.{Steps}
use Rattle.map_facts.proofs.Given.SeizeWordsOneOwner.Operations.{loaded, exchanged}
use Rattle.map_facts.proofs.Given.SeizeWordsPlans.{ends_if}
use Rattle.map_facts.specs.Given.SeizeWorld.{World}
use Rattle.map_facts.specs.Given.TablesChunks.{is_incremental}
use Rattle.map_facts.specs.Given.TablesMarks.{unmarked_in}
use Rattle.map_facts.specs.Given.TablesProbes.{probe_after}
use Rattle.map_facts.specs.Given.TablesTablePlaces.{at_place}
use Rattle.map_facts.specs.Given.TablesTrials.{trial_at}
use Rattle.map_facts.specs.Given.TablesDeclared.node.Node.{Node}
use Rattle.map_facts.specs.Given.TablesDeclared.probe.Probe.{Probe}
use Rattle.map_facts.specs.Given.TablesDeclared.setting.Setting.{Setting}
use Rattle.map_facts.specs.Given.TablesDeclared.table.Table.{Table}
use Rattle.map_facts.specs.Given.ResizeCopierPlaces.{copied_word, next_try, pair_put, place_read, probes, after_put, puts}
use Rattle.map_facts.specs.Given.ResizeCopierStates.{standing}
use Rattle.map_facts.specs.Given.ResizeDeclared.copier.Copier.{Copier}
use Rattle.map_facts.specs.Given.ResizeDeclared.copier.Copying.{Copying as Point}
use Rattle.map_facts.specs.Given.ResizeDeclared.copier.Copying.TheVariants as at
use Rattle.map_facts.specs.Given.ResizeDeclared.yielding.Yielding.{Yielding}
use Rattle.map_facts.specs.Given.ResizeDeclared.yielding.Yielding.TheVariants.{Goes}
use Rattle.map_facts.specs.Given.RuleChart.{Phase, Still, Copying, Place, Holds, Chart}
use Rattle.map_facts.specs.Given.RuleInWorld.{IsMapIn}
use Rattle.map_facts.specs.Given.RuleMaps.{spot_of, IsTrial}
use Rattle.map_facts.specs.Given.RuleMoves.{PutsLate, after, Allowed}
use Rattle.map_facts.specs.Given.RuleRule.{IsLawful}
use Rattle.map_facts.specs.Given.RuleWords.{Blocks, byte_of, place_word, Represents}
use Rattle.map_facts.proofs.Given.RuleKeys.TriesSeen.{IsNext, next_is}
use Rattle.map_facts.proofs.Given.RuleMoves.Writes.{put_in_elsewhere}
use Rattle.map_facts.proofs.Given.RuleWords.PlaceWordsWritten.{word-unmarked}
use Rattle.map_facts.proofs.Given.RuleWorld.Hands.{Hands}
use Rattle.map_facts.proofs.Blocking.Placing.{try_inside, try_word, try_empty, may_write_try, put_shows}
use Rattle.map_facts_late.specs.LateCopies.{CopiesSuperseded, CopiesAborted, WorksOnSuperseded}
use Rattle.map_facts_late.proofs.Copiers.LateDone.{late_goes_on}
use Rattle.map_facts_late.proofs.Copiers.LateWent.{LateCame, late_goes, late_wrote, aborted_behind, late_again, late_on}
use Rattle.map_facts.proofs.Given.General.{some_is as is_some_of}

module _ {K V : Type 0} (same : K → K → Bool) (hash : K → ℕ) (caller : ℕ) (setting : Setting) (began : ℕ) (w : World (Node K V)) (c : Chart K) (blocks : Blocks)
    (map : IsMapIn same hash setting w c blocks) (lawful : IsLawful same (spot_of hash)) (blocking : is_incremental setting.mode ≡ false) (p : Copier)
    (setting_is : p.setting ≡ setting)
    (pair code : ℕ) (table : Table) (probe : Probe) (u t n : ℕ) (k : K) (j : ℕ) (works : WorksOnSuperseded same hash w caller setting c blocks began p u t n k pair) (code_is : code ≡ hash k)
    (table_is : table ≡ p.target) (trial : IsTrial c blocks (trial_at table probe) code t j) where
  abbrev late : CopiesSuperseded same hash w caller setting c blocks began p u t
  late = works.copies.0

  abbrev spot : ℕ
  spot = spot_of hash (c.len t) k j

  abbrev place : Place
  place = c.place t spot

  abbrev at_try : At
  at_try = at_place table probe.i

  word_is : word_at w.memory at_try ≡ Some (place_word hash c blocks place)
  word_is = try_word same hash setting w c blocks map code table probe t k j code_is trial

  p_blocking : is_incremental p.setting.mode ≡ false
  p_blocking = ap (λ (x : Setting). is_incremental x.mode) setting_is ∙ blocking

  on : (q : Copier) → q.source ≡ p.source → q.target ≡ p.target → q.whole ≡ p.whole → CopiesAborted same hash w caller setting c blocks began q u t
  on q source target whole =
      (late_on same hash caller setting began w c blocks p q source target whole u t late, works.copies.1)

  works_at : (stands : Point) → WorksOnSuperseded same hash w caller setting c blocks began (standing p stands) u t n k pair
  works_at stands = record {
    copies = on (standing p stands) refl refl refl;
    inside = works.inside;
    place = works.place;
    key = works.key;
    word_is = works.word_is;
  }

  module _ (m2 : Mem (Node K V)) (still : m2 ≡ w.memory) (end : Copier × Yielding (Node K V) Table) where
    -- the place is another pair's
    went_further : end ≡ (next_try p pair code table probe, Goes) → LateCame same hash caller setting began w c blocks m2 end
    went_further ends =
        by_limit (nat_lt probe.len table.limit) refl
        (next_is c blocks code t (trial_at table probe) j trial (map.map.shows.sized t trial.table.made) (map.map.rule.common.lens t trial.table.made).1)
      where
        by_limit : (b : Bool) → nat_lt probe.len table.limit ≡ b
            → IsNext c blocks code t (if nat_lt probe.len table.limit then Some (trial_at table (probe_after probe (table.len - 1))) else None) j
            → LateCame same hash caller setting began w c blocks m2 end
        by_limit true e next =
            late_goes same hash caller setting began w c blocks map m2 end (standing p (at.Probes pair code table (probe_after probe (table.len - 1)))) still
            (ends ∙ rw e refl) setting_is (
              u,
              t,
              n,
              k,
              suc j,
              works_at (at.Probes pair code table (probe_after probe (table.len - 1))),
              code_is,
              table_is,
              subst (λ (b : Bool). IsNext c blocks code t (if b then Some (trial_at table (probe_after probe (table.len - 1))) else None) j) e
                  next,
            )
        by_limit false e next =
            late_goes same hash caller setting began w c blocks map m2 end (record p { place = 0; end = 0; done = 0; stands = at.Aborts }) still
            (ends ∙ rw (e, p_blocking) refl) setting_is (u, t, on (record p { place = 0; end = 0; done = 0; stands = at.Aborts }) refl refl refl)

  pub went_probe : (m2 : Mem (Node K V)) (end : Copier × Yielding (Node K V) Table) → Steps Took value_at w.memory (probes p pair code table probe) m2 end
      → LateCame same hash caller setting began w c blocks m2 end
  went_probe m2 end s =
      let read = loaded w.memory (place_read p pair code table probe) at_try m2 end s in
      by_word read.0 read.2 (ends_if (value_at w.memory) (read.0 == 0) _ _ end read.3)
    where
      by_word : (found : ℕ) → m2 ≡ w.memory
          → (((found == 0) ≡ true) × (end ≡ (standing p (at.Puts pair code table probe), Goes))) ⊎ (((found == 0) ≡ false) × (end ≡ (next_try p pair code table probe, Goes)))
          → LateCame same hash caller setting began w c blocks m2 end
      by_word found still (inl a) =
          late_goes same hash caller setting began w c blocks map m2 end (standing p (at.Puts pair code table probe)) still a.1 setting_is
          (u, t, n, k, j, works_at (at.Puts pair code table probe), code_is, table_is, trial)
      by_word found still (inr a) = went_further m2 still end a.1

  abbrev put_chart : Chart K
  put_chart = after (spot_of hash) false (PutsLate t spot n) c

  abbrev put_memory : Mem (Node K V)
  put_memory = with_word w.memory at_try (copied_word p pair)

  pair_is : copied_word p pair ≡ place_word hash c blocks (Holds n Still false)
  pair_is = rw p_blocking refl ∙ ap unmarked_in works.word_is ∙ word-unmarked blocks.pair (λ o. byte_of hash (c.key o)) n Still false

  shows_put : Represents hash put_memory put_chart blocks setting.root
  shows_put = put_shows same hash setting w c blocks map code table probe t k j code_is trial (copied_word p pair) (Holds n Still false) pair_is known
    where
      -- it is named in the source
      known : (o : ℕ) (phase : Phase) (borrowed : Bool) → Holds n Still false ≡ Holds o phase borrowed → blocks.pair_known o ≡ true
      known o phase borrowed e =
          let is : n ≡ o = cc e in
          subst (λ (x : ℕ). blocks.pair_known x ≡ true) is (map.map.shows.named u p.place n Copying false late.source.made late.source.known works.place)

  behind : t < c.first
  behind = aborted_behind c t map.map.rule.common.live late.over works.copies.1

  put_hands : Hands same hash setting w put_chart blocks
  put_hands = record {
    tables = map.tables;
    pairs = map.pairs;
    named = λ v i o phase borrowed l made e. map.named v i o phase borrowed l made
        (sym (put_in_elsewhere c.place t spot (Holds n Still false) v i (λ one. omega (arith, one, l, behind))) ∙ e);
    tables_out = map.tables_out;
    pairs_out = map.pairs_out;
  }

  -- it knows the same of its tables then
  late_then : CopiesSuperseded same hash (record w { memory = put_memory }) caller setting put_chart blocks began p u t
  late_then =
      late_again same hash caller setting began w (record w { memory = put_memory }) c put_chart blocks refl refl refl refl refl refl refl p p refl refl refl u
      t late.idle late

  went_in : (m2 : Mem (Node K V)) → m2 ≡ put_memory → place_word hash c blocks place ≡ 0 → (end : Copier × Yielding (Node K V) Table)
      → end ≡ (pair_put p pair, Goes)
      → LateCame same hash caller setting began w c blocks m2 end
  went_in m2 m2_is empty end ends =
      let on = late_goes_on same hash caller setting began (record w { memory = put_memory }) put_chart blocks p setting_is u t (late_then, works.copies.1) works.inside in
      late_wrote same hash caller setting began w c blocks map lawful blocking (PutsLate t spot n) allowed (λ i by. absurd by) trial.table.known
      (Exchange at_try 0 (copied_word p pair)) (Exchanged (Ok 0)) at_try (copied_word p pair)
      (may_write_try same hash setting w c blocks map code table probe t k j code_is trial caller) (is_some_of _ _ word_is)
      m2 (word_is ∙ ap Some empty, refl) m2_is refl refl shows_put put_hands refl end on.next (ends ∙ ap (λ (q : Copier). (q, Goes)) (rw p_blocking refl ∙ on.next_is)) on.setting_stays on.point
    where
      allowed : Allowed same (spot_of hash) false (PutsLate t spot n) c
      allowed = (
        refl,
        behind,
        try_inside same hash setting w c blocks map code table probe t k j code_is trial,
        works.copies.1,
        try_empty same hash setting w c blocks map code table probe t k j code_is trial empty,
        (map.map.rule.common.keyed u p.place n Copying false works.place).0,
        (k, works.key),
        p.place,
        ap (λ (x : ℕ). c.place x p.place) works.copies.0.from ∙ works.place,
      )

  pub went_put : (m2 : Mem (Node K V)) (end : Copier × Yielding (Node K V) Table) → Steps Took value_at w.memory (puts p pair code table probe) m2 end
      → LateCame same hash caller setting began w c blocks m2 end
  went_put m2 end s =
      elim (exchanged w.memory (after_put p pair code table probe) at_try 0 (copied_word p pair) m2 end s) as (λ _. LateCame same hash caller setting began w c blocks m2 end) [
        | inl done ↦ went_in m2 done.2 (let e : done.0 ≡ place_word hash c blocks place = cc (done.1.0, word_is) in sym e ∙ done.1.1) end done.3
        | inr lost ↦ went_further m2 lost.2 end lost.3
      ]
