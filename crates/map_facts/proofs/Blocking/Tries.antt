-- In blocking mode, a copier looks for a place for a pair, and puts it there, or gives its target up.
use Rattle.std.specs.Prelude.{Some, None, nat_lt, if◌then◌else◌, Ok}
use Rattle.std.proofs.Common.{◌≡◌, ◌≢◌, ℕ, suc, ◌-◌, ◌<◌, ◌≤◌, ◌==◌, Bool, true, false, ◌⊎◌, inl, inr, refl, ap, sym, subst, ◌∙◌, arith}
use Rattle.std.proofs.lemmas.Bool.{cases_eq, eqb-false}
use Rattle.map_rule.specs.Given.SeizeWordsDeclared.at.At.{At}
use Rattle.map_rule.specs.Given.SeizeWordsMem.{Mem, Took, value_at, word_at, with_word}
use Rattle.map_rule.specs.Given.SeizeWordsOp.{Exchange, Exchanged}
use Rattle.map_rule.specs.Given.SeizeWordsPlan.{Steps}
use Rattle.map_rule.proofs.Given.SeizeWordsOneOwner.Operations.{loaded, exchanged}
use Rattle.map_rule.proofs.Given.SeizeWordsPlans.{ends_if}
use Rattle.papaya_raw.specs.Given.SeizeWorld.{World}
use Rattle.papaya_raw.specs.Given.TablesChunks.{is_incremental}
use Rattle.papaya_raw.specs.Given.TablesMarks.{unmarked_in}
use Rattle.papaya_raw.specs.Given.TablesProbes.{probe_after}
use Rattle.papaya_raw.specs.Given.TablesTrials.{trial_at}
use Rattle.papaya_raw.specs.Given.TablesDeclared.node.Node.{Node}
use Rattle.map_rule.specs.Given.ResizeDeclared.yielding.Yielding.{Yielding}
use Rattle.map_rule.specs.Given.ResizeDeclared.yielding.Yielding.TheVariants.{Goes}
use Rattle.papaya_raw.specs.Given.TablesDeclared.probe.Probe.{Probe}
use Rattle.papaya_raw.specs.Given.TablesDeclared.setting.Setting.{Setting}
use Rattle.papaya_raw.specs.Given.TablesDeclared.table.Table.{Table}
use Rattle.map_rule.specs.Given.ResizeDeclared.copier.Copier.{Copier}
use Rattle.map_rule.specs.Given.ResizeDeclared.copier.Copying.{Copying as Point}
use Rattle.map_rule.specs.Given.ResizeDeclared.copier.Copying.TheVariants as at
use Rattle.papaya_raw.specs.Given.TablesTablePlaces.{at_place}
use Rattle.map_rule.specs.Given.ResizeCopierStates.{standing}
use Rattle.map_rule.specs.Given.ResizeCopierPlaces.{copied_word, next_try, pair_put, place_read, probes, after_put, puts}
use Rattle.map_rule.specs.Chart.{Phase, Still, Copying, Place, Empty, Tombstone, Holds, Done, Chart, put_in, is_marked, is_taken}
use Rattle.map_rule.specs.Rule.{Rule, IsLawful}
use Rattle.map_rule.specs.Moves.{Puts, Taken, lent_place}
use Rattle.map_rule.specs.Words.{Blocks, byte_of, word_of, place_word, Represents}
use Rattle.map_rule.specs.Maps.{spot_of, IsTrial}
use Rattle.map_rule.specs.InWorld.{IsReached, IsMapIn}
use Rattle.map_facts.specs.FactsCopiesBlocking.{WorksIn}
use Rattle.map_facts.specs.FactsAloneBlocking.{AloneBlocking}
use Rattle.map_facts.proofs.Steps.AloneCharts.{aborted_done}
use Rattle.map_facts.proofs.Copiers.CopierDone.{goes_on}
use Rattle.map_facts.proofs.Copiers.CopierMoves.{copier_wrote}
use Rattle.map_facts.proofs.Copiers.CopierWent.{CopierCame, copier_goes}
use Rattle.map_rule.proofs.World.Framed.{shows_beside}
use Rattle.map_rule.proofs.World.Hands.{Hands}
use Rattle.map_rule.proofs.Words.PlaceWordsWritten.{word-unmarked}
use Rattle.map_rule.proofs.Keys.TriesSeen.{IsNext, next_is}
use Rattle.map_facts.proofs.Blocking.Placing.{try_word, try_empty, may_write_try, put_shows}
use Rattle.map_facts.proofs.Blocking.Lost.{went_lost}
use Rattle.map_rule.proofs.Moves.Writes.{put_in_cases}
use Rattle.map_rule.proofs.Given.General.{some_is as is_some_of}

-- an unmarked place whose word is not that of an empty one is taken
word_taken : (block byte : ℕ → ℕ) (place : Place) → is_marked place ≡ false → word_of block byte place ≢ 0 → is_taken false place ≡ true
word_taken block byte (Empty true) plain some = absurd (cc plain)
word_taken block byte (Empty false) plain some = absurd (some refl)
word_taken block byte (Tombstone mark) plain some = refl
word_taken block byte (Holds n phase borrowed) plain some = refl

module _ {K V : Type 0} (same : K → K → Bool) (hash : K → ℕ) (caller : ℕ) (setting : Setting) (w : World (Node K V)) (c : Chart K) (blocks : Blocks)
    (map : IsMapIn same hash setting w c blocks) (lawful : IsLawful same (spot_of hash)) (blocking : is_incremental setting.mode ≡ false) (p : Copier) (setting_is : p.setting ≡ setting)
    (pair code : ℕ) (table : Table) (probe : Probe) (t n : ℕ) (k : K) (j : ℕ) (works : WorksIn same hash w caller setting c blocks p t n k pair) (code_is : code ≡ hash k)
    (table_is : table ≡ p.target) (trial : IsTrial c blocks (trial_at table probe) code t j)
    (taken : (g : ℕ) → g < j → Taken same (spot_of hash) false c t k g) where
  abbrev spot : ℕ
  spot = spot_of hash (c.len t) k j

  abbrev place : Place
  place = c.place t spot

  abbrev at_try : At
  at_try = at_place table probe.i

  word_is : word_at w.memory at_try ≡ Some (place_word hash c blocks place)
  word_is = try_word same hash setting w c blocks map code table probe t k j code_is trial

  rule_blocking : Rule same (spot_of hash) false c
  rule_blocking = subst (λ (b : Bool). Rule same (spot_of hash) b c) blocking map.map.rule

  p_blocking : is_incremental p.setting.mode ≡ false
  p_blocking = ap (λ (x : Setting). is_incremental x.mode) setting_is ∙ blocking

  works_at : (stands : Point) → WorksIn same hash w caller setting c blocks (standing p stands) t n k pair
  works_at stands = record {
    copies = works.copies;
    has_done = works.has_done;
    claims = works.claims;
    inside = works.inside;
    place = works.place;
    key = works.key;
    word_is = works.word_is;
  }

  -- the place is taken by another pair, or by a removed one
  is_passed : place_word hash c blocks place ≢ 0 → Taken same (spot_of hash) false c t k j
  is_passed some = word_taken blocks.pair (λ o. byte_of hash (c.key o)) place (map.map.rule.common.unmarked t spot works.copies.1) some

  abbrev alone_here : Type 0
  alone_here = AloneBlocking c p (at.Probes pair code table probe)

  module _ (m2 : Mem (Node K V)) (still : m2 ≡ w.memory) (end : Copier × Yielding (Node K V) Table) where
    went_further : place_word hash c blocks place ≢ 0 → end ≡ (next_try p pair code table probe, Goes) → CopierCame same hash caller setting w c blocks alone_here m2 end
    went_further some ends =
        by_limit (nat_lt probe.len table.limit) refl
        (next_is c blocks code t (trial_at table probe) j trial (map.map.shows.sized t trial.table.made) (map.map.rule.common.lens t trial.table.made).1)
      where
        passed : (g : ℕ) → g < suc j → Taken same (spot_of hash) false c t k g
        passed g l =
            elim (cases_eq g j) as (λ _. Taken same (spot_of hash) false c t k g) [
              | inl e ↦ subst (λ (x : ℕ). Taken same (spot_of hash) false c t k x) (sym e) (is_passed some)
              | inr ne ↦ taken g (omega (arith, l, ne))
            ]

        by_limit : (b : Bool) → nat_lt probe.len table.limit ≡ b
            → IsNext c blocks code t (if nat_lt probe.len table.limit then Some (trial_at table (probe_after probe (table.len - 1))) else None) j
            → CopierCame same hash caller setting w c blocks alone_here m2 end
        by_limit true e next =
            copier_goes same hash caller setting w c blocks alone_here map m2 end (standing p (at.Probes pair code table (probe_after probe (table.len - 1)))) still
            (ends ∙ rw e refl) setting_is (
              t,
              n,
              k,
              suc j,
              works_at (at.Probes pair code table (probe_after probe (table.len - 1))),
              code_is,
              table_is,
              subst (λ (b : Bool). IsNext c blocks code t (if b then Some (trial_at table (probe_after probe (table.len - 1))) else None) j) e next,
              passed,
            )
            (λ a. a)
        by_limit false e next =
            went_lost same hash caller setting w c blocks map lawful blocking p setting_is t n k pair works m2 still end (ends ∙ rw (e, p_blocking) refl)

  pub went_probe : (m2 : Mem (Node K V)) (end : Copier × Yielding (Node K V) Table) → Steps Took value_at w.memory (probes p pair code table probe) m2 end
      → CopierCame same hash caller setting w c blocks alone_here m2 end
  went_probe m2 end s =
      let read = loaded w.memory (place_read p pair code table probe) at_try m2 end s in
      by_word read.0 (cc (read.1, word_is)) read.2 (ends_if (value_at w.memory) (read.0 == 0) _ _ end read.3)
    where
      by_word : (found : ℕ) → found ≡ place_word hash c blocks place → m2 ≡ w.memory
          → (((found == 0) ≡ true) × (end ≡ (standing p (at.Puts pair code table probe), Goes))) ⊎ (((found == 0) ≡ false) × (end ≡ (next_try p pair code table probe, Goes)))
          → CopierCame same hash caller setting w c blocks alone_here m2 end
      by_word found e still (inl a) =
          copier_goes same hash caller setting w c blocks alone_here map m2 end (standing p (at.Puts pair code table probe)) still a.1 setting_is
          (t, n, k, j, works_at (at.Puts pair code table probe), code_is, table_is, trial, taken) (λ a. a)
      by_word found e still (inr a) = went_further m2 still end (λ none. eqb-false found 0 a.0 (e ∙ none)) a.1

  -- the pair is put into an empty place
  abbrev put_place : Place
  put_place = lent_place (spot_of hash) false (c.place c.first p.place)

  put_is : put_place ≡ Holds n Still false
  put_is = ap (lent_place (spot_of hash) false) works.place

  abbrev put_memory : Mem (Node K V)
  put_memory = with_word w.memory at_try (copied_word p pair)

  abbrev put_places : ℕ → ℕ → Place
  put_places = put_in c.place t spot put_place

  pair_is : copied_word p pair ≡ place_word hash c blocks put_place
  pair_is =
      rw p_blocking refl ∙ ap unmarked_in works.word_is ∙ word-unmarked blocks.pair (λ o. byte_of hash (c.key o)) n Still false ∙ ap (place_word hash c blocks) (sym put_is)

  shows_put : Represents hash put_memory (record c { place = put_places }) blocks setting.root
  shows_put = put_shows same hash setting w c blocks map code table probe t k j code_is trial (copied_word p pair) put_place pair_is known
    where
      known : (o : ℕ) (phase : Phase) (borrowed : Bool) → put_place ≡ Holds o phase borrowed → blocks.pair_known o ≡ true
      known o phase borrowed e =
          let is : n ≡ o = cc (put_is, e) in
          subst (λ (x : ℕ). blocks.pair_known x ≡ true) is
          (map.map.shows.named c.first p.place n Copying false works.copies.0.made works.copies.0.known works.place)

  -- the pair is in the map
  current : c.current n ≡ true
  current = rule_blocking.common.is_current c.first p.place n Copying false works.place (λ e. absurd (cc e)) refl

  put_hands : Hands same hash setting w (record c { place = put_places; share = put_in c.share t p.place (Done caller) }) blocks
  put_hands = record {
    tables = map.tables;
    pairs = map.pairs;
    named = λ u i o phase borrowed l made e. named u i o phase borrowed l made (put_in_cases c.place t spot put_place u i) e;
    tables_out = map.tables_out;
    pairs_out = map.pairs_out;
  }
    where
      named : (u i o : ℕ) (phase : Phase) (borrowed : Bool) → c.first ≤ u → u < c.past
          → ((u ≡ t) × (i ≡ spot) × (put_places u i ≡ put_place)) ⊎ (put_places u i ≡ c.place u i) → put_places u i ≡ Holds o phase borrowed
          → IsReached same hash setting w c blocks u o
      named u i o phase borrowed l made (inl new) e =
          let is : n ≡ o = cc (new.2, put_is, e) in
          inl (inl (map.pairs o (subst (λ (x : ℕ). c.current x ≡ true) is current)))
      named u i o phase borrowed l made (inr old) e = map.named u i o phase borrowed l made (sym old ∙ e)

  went_in : (m2 : Mem (Node K V)) → m2 ≡ put_memory → place_word hash c blocks place ≡ 0 → (end : Copier × Yielding (Node K V) Table) → end ≡ (pair_put p pair, Goes)
      → CopierCame same hash caller setting w c blocks alone_here m2 end
  went_in m2 m2_is empty end ends =
      let on = goes_on same hash caller setting w (record w { memory = put_memory }) c blocks p setting_is (map.map.shows.sized c.first works.copies.0.made).most t works.copies works.has_done
      works.claims works.inside put_places in
      copier_wrote same hash caller setting w c blocks map lawful blocking (Puts caller p.place t k j)
      (works.copies.1, trial.table.made, omega (arith, works.inside.0, works.inside.1), trial.most, is_empty, taken, (n, false, works.place, works.key), works.claims.0 p.place (omega arith) works.inside.0) alone_here (λ i other is. other (sym is)) trial.table.known
      (Exchange at_try 0 (copied_word p pair)) (Exchanged (Ok 0)) at_try (copied_word p pair)
      (may_write_try same hash setting w c blocks map code table probe t k j code_is trial caller) (is_some_of _ _ word_is)
      m2 (word_is ∙ ap Some empty, refl) m2_is refl refl
      (shows_beside hash put_memory (record c { place = put_places }) blocks setting.root (put_in c.share t p.place (Done caller)) c.current shows_put)
      put_hands refl end on.next (ends ∙ ap (λ (q : Copier). (q, Goes)) (rw p_blocking refl ∙ on.next_is)) on.setting_stays on.point
      (λ a. on.alone (aborted_done c t p.place caller a.0, a.1, a.2))
    where
      is_empty : c.place t spot ≡ Empty false
      is_empty = try_empty same hash setting w c blocks map code table probe t k j code_is trial empty

  pub went_put : (m2 : Mem (Node K V)) (end : Copier × Yielding (Node K V) Table) → Steps Took value_at w.memory (puts p pair code table probe) m2 end
      → CopierCame same hash caller setting w c blocks alone_here m2 end
  went_put m2 end s =
      elim (exchanged w.memory (after_put p pair code table probe) at_try 0 (copied_word p pair) m2 end s) as (λ _. CopierCame same hash caller setting w c blocks alone_here m2 end) [
        | inl done ↦ went_in m2 done.2 (let e : done.0 ≡ place_word hash c blocks place = cc (done.1.0, word_is) in sym e ∙ done.1.1) end done.3
        | inr lost ↦ went_further m2 lost.2 end (λ none. let e : lost.0 ≡ place_word hash c blocks place = cc (lost.1.0, word_is) in lost.1.1 (e ∙ none)) lost.3
      ]
