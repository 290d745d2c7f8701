-- A walk, a clearing or a retaining among the calls on its map: it begins, and takes each step that is none of a row, and all stand together.
use Rattle.std.specs.Prelude.{◌≡◌, ◌⊎◌, ℕ, ◌≤◌, Bool, false, List, Option, Some, None}
use Rattle.std.proofs.Common.{◌∙◌, ap, refl, sym, arith, subst, inl, inr}
use Rattle.seize_model.specs.Given.SeizeWordsMem.{Mem, Can, Took, value_at}
use Rattle.seize_model.specs.Given.SeizeWordsPlan.{May, Steps}
use Rattle.seize_model.specs.Given.SeizeWorld.{World, Rests, IsInside, with_at}
use Rattle.map_facts_late.specs.Given.TablesChunks.{is_incremental}
use Rattle.map_facts_late.specs.Given.TablesDeclared.node.Node.{Node}
use Rattle.map_facts_late.specs.Given.TablesDeclared.setting.Setting.{Setting}
use Rattle.map_facts_late.specs.Given.SweepsSweep.{sweep_plan}
use Rattle.map_facts_late.specs.Given.SweepsSweepPoints.{removes}
use Rattle.map_facts_late.specs.Given.ReservesDeclared.sweep.Purpose.{Purpose}
use Rattle.map_facts_late.specs.Given.ReservesDeclared.sweep.Purpose.TheVariants.{Walks, Clears, Retains}
use Rattle.map_facts_late.specs.Given.ReservesDeclared.sweep.Sweep.{Sweep}
use Rattle.map_facts_late.specs.Given.ReservesDeclared.sweep.Sweeping.{Sweeping}
use Rattle.map_facts_late.specs.Given.ReservesDeclared.sweep.Sweeping.TheVariants as at
use Rattle.map_facts_late.specs.Given.ReservesDeclared.sweep.Swept.{Swept}
use Rattle.map_facts_late.specs.Given.ReservesDeclared.sweep.Swept.TheVariants as swept
use Rattle.map_facts_late.specs.Given.RuleChart.{Still, Chart}
use Rattle.map_facts_late.specs.Given.RuleWords.{Blocks}
use Rattle.map_facts_late.specs.Given.RuleInWorld.{IsMapIn, StepSpec}
use Rattle.map_facts_late.specs.Given.RuleMoments.{Remembers}
use Rattle.map_facts_late.proofs.Given.RuleWorld.WentTold.{went_as}
use Rattle.map_facts_late.specs.Given.PointsSteps.{AreLawful}
use Rattle.map_facts_late.specs.Covers.{Came, NamesPair, CoversAt}
use Rattle.map_facts_late.specs.CoversSweeps.{DoneAt, CoversOn}
use Rattle.map_facts_late.specs.FactsSweeps.{CopiesPairs, SweepingFacts, SweepFacts}
use Rattle.map_facts_late.specs.ToldSweeps.{IsRowOfSweep, OutcomeAgrees, RemovesPair, SweepAfter, SweepOutcome}
use Rattle.map_facts_late.proofs.Swept.Covers.Shows.{names_one, shows_since, came_at_end}
use Rattle.map_facts_late.proofs.Swept.Laws.{sweeps_begin, sweeps_keep_the_map, sweeps_cover}
use Rattle.many_calls.specs.OverAll.{CallOverAll, verdict, begun_over_all, come_to, SweepClaims, TriesAsReplied, RemovesAsReplied}
use Rattle.many_calls.specs.Sights.{Visible, seen_by}
use Rattle.many_calls.specs.Sweeps.{SweepsBeginTogether, SweepStepsTogether, SweepsPreserveTheInvariant}
use Rattle.many_calls.specs.Together.{UnderWay, OverAll, ClaimsInto, next_over_all, in_slot, StayFew, KnowsSweep, IsAtPoint, Together}
use Rattle.many_calls.proofs.Claims.Sweeps.{sweep_claims_by}
use Rattle.many_calls.proofs.Sights.Seen.{map_seen}
use Rattle.many_calls.proofs.Together.Few.{few_begun, few_step, claim_few, over_all_next_is}
use Rattle.many_calls.proofs.Together.Fits.{map_in_slot, Fits, fits_some, fits_none, fits_of, stands_by, knows_sweep_on}
use Rattle.many_calls.proofs.Together.Moves as moves

module _ {K V Q : Type 0} (same : K → K → Bool) (hash : K → ℕ) (asks : Q → K → Bool) (setting : Setting) (slot : ℕ → ℕ) where
  abbrev Stand : World (Node K V) → Chart K → Blocks → (ℕ → Visible) → (ℕ → Option (UnderWay K V Q)) → Type 0
  Stand = Together V same hash asks setting slot

  pub sweeps_begin_together : SweepsBeginTogether V same hash asks setting slot
  sweeps_begin_together w c blocks sights calls i s none rests inside purpose few =
      stands_by same hash asks setting slot w c blocks sights calls i (Some (OverAll it)) s.ground
      (fits_some same hash asks setting slot w c blocks (sights (slot i)) i (OverAll it) inside
      (inl (
        rests,
        record {
          facts = sweeps_begin V same hash (in_slot setting (slot i)) w i c (seen_by blocks (sights (slot i))) c.now (s.idle i none) purpose;
          began_before = (let e : c.now ≤ c.now = omega arith in e);
          from = (let e : c.now ≤ c.now = omega arith in e);
          covers = tt;
          tries = tt;
        },
      )))
      (λ j other. fits_of same hash asks setting slot w c blocks sights calls s j)
      (λ blocking. few_begun calls i (OverAll it) c (s.few blocking) (λ t claims. claims) (few blocking)) s.onto (λ none. absurd (cc none))
    where
      it : CallOverAll
      it = begun_over_all c.now (in_slot setting (slot i)) purpose

  module _ (lawful : AreLawful same hash) (w : World (Node K V)) (c : Chart K) (blocks : Blocks) (sights : ℕ → Visible) (calls : ℕ → Option (UnderWay K V Q))
      (s : Stand w c blocks sights calls) (i : ℕ) (o : CallOverAll) (has : calls i ≡ Some (OverAll o)) (none : IsRowOfSweep o.sweep.stands → ⊥) (rests : w.row i ≡ Rests)
      (knows : KnowsSweep V same hash asks setting slot w c (seen_by blocks (sights (slot i))) i o o.sweep)
      (m2 : Mem (Node K V)) (p2 : Sweep) (end : Swept (Node K V)) (may : May Can Took value_at w.memory (sweep_plan hash o.sweep))
      (steps : Steps Took value_at w.memory (sweep_plan hash o.sweep) m2 (p2, end)) where
    abbrev seen : Blocks
    seen = seen_by blocks (sights (slot i))

    abbrev its : Setting
    its = in_slot setting (slot i)

    abbrev Tells : World (Node K V) → Chart K → Blocks → Type 0
    Tells w2 c2 blocks2 = SweepOutcome same hash i its o.began c seen o.sweep w2 c2 blocks2 p2 end

    pub inside : IsInside (w.uses (slot i))
    inside = s.inside i (OverAll o) has

    map : IsMapIn same hash its w c seen
    map = moves.part same hash asks setting slot lawful w c blocks sights calls s i inside m2 Tells (slot i) i inside

    -- a pair that it removes
    removes_told : (c2 : Chart K) → RemovesPair hash c seen o.sweep c2 → RemovesAsReplied o c c2
    removes_told c2 (word, n, tries, (t, borrowed, table, stands, is), current, gone) = inr (n, current, gone, by o.sweep.purpose refl)
      where
        named : NamesPair hash c seen word n
        named = ((map.map.rule.common.keyed t o.sweep.place n Still borrowed stands).0, map.map.shows.named t o.sweep.place n Still borrowed table.made table.known stands, Still, borrowed, is)

        told : o.sweep.purpose ≡ Retains → o.told ≡ verdict n false
        told retains =
            let h = subst (TriesAsReplied hash c seen o.told o.sweep.purpose) tries knows.tries retains in
            h.2 ∙ ap (λ (x : ℕ). verdict x false) (names_one hash lawful.fits w.memory c seen setting.root map.map.shows word h.0 n h.1 named)

        by : (purpose : Purpose) → o.sweep.purpose ≡ purpose
            → (o.sweep.purpose ≡ Clears) ⊎ ((o.sweep.purpose ≡ Retains) × (o.told ≡ verdict n false))
        by Walks walks = absurd (let taking = (subst (SweepingFacts same hash w i its c seen o.began o.sweep) tries knows.facts.point).0 in let no : removes o.sweep.purpose ≡ false = ap removes walks in cc (taking, no))
        by Clears clears = inl clears
        by Retains retains = inr (retains, told retains)

    module _ (went : StepSpec same hash its i w c seen m2 Tells) (covers : CoversOn hash o.began c seen o.sweep went.c2 went.blocks2 p2 end) where
      -- what it has come to
      abbrev more : (entered2 : ℕ) × (done2 : List ℕ) × (o.began ≤ entered2) × DoneAt hash went.c2 went.blocks2 o.done done2 o.entered entered2 end o.sweep.stands × CoversAt hash went.c2 went.blocks2 p2 entered2 done2 p2.stands
      more = covers o.entered o.done knows.from knows.covers

      abbrev after : CallOverAll
      after = come_to o more.0 more.1 p2

      -- after it calls are few as before
      pub few : is_incremental setting.mode ≡ false → StayFew (with_at calls i (next_over_all after end)) went.c2
      few blocking =
          few_step calls i (OverAll o) has (next_over_all after end) c went.c2 (s.few blocking) (λ v is writes. tt) same hash setting.mode i s.ground.map.map.rule went.moved
          (λ t. SweepClaims t p2.stands) (λ v is t claims. subst (ClaimsInto t) (over_all_next_is after end v is) claims)
          (sweep_claims_by same hash w i its c seen blocking map o.began o.sweep knows.facts none m2 Tells went went.told.beside p2 end went.told.stands may steps)

      abbrev blocks_then : Blocks
      blocks_then = moves.blocks_then same hash asks setting slot lawful w c blocks sights calls s i inside m2 Tells rests went (next_over_all after end) few

      abbrev sights_then : ℕ → Visible
      sights_then = moves.sights_then same hash asks setting slot lawful w c blocks sights calls s i inside m2 Tells rests went (next_over_all after end) few

      pub remembers : Remembers (is_incremental setting.mode) c went.c2
      remembers = moves.remembers same hash asks setting slot lawful w c blocks sights calls s i inside m2 Tells rests went (next_over_all after end) few

      -- a retaining is not about to remove a pair
      tries_none : (stage : Sweeping) → p2.stands ≡ stage → TriesAsReplied hash went.c2 went.blocks2 o.told p2.purpose stage
      tries_none (at.Tries word) is = λ retains. absurd (went.told.stands.tries (sym went.told.stands.purpose ∙ retains) word is)
      tries_none _ is = tt

      goes_on : SweepFacts same hash went.w2 i its went.c2 went.blocks2 o.began p2 → Fits same hash asks setting slot went.w2 went.c2 blocks_then (sights_then (slot i)) i (Some (OverAll after))
      goes_on facts =
          fits_some same hash asks setting slot went.w2 went.c2 blocks_then (sights_then (slot i)) i (OverAll after)
          (moves.inside_then same hash asks setting slot lawful w c blocks sights calls s i inside m2 Tells rests went (next_over_all after end) few (slot i) inside)
          (inl (
            moves.row_same same hash asks setting slot lawful w c blocks sights calls s i inside m2 Tells rests went (next_over_all after end) few i ∙ rests,
            knows_sweep_on same hash asks setting slot lawful i went.w2 went.w2 went.c2 went.c2 went.blocks2 (seen_by blocks_then (sights_then (slot i))) went.map
                (moves.part2 same hash asks setting slot lawful w c blocks sights calls s i inside m2 Tells rests went (next_over_all after end) few (slot i) i inside)
                (moves.moments2 same hash asks setting slot lawful w c blocks sights calls s i inside m2 Tells rests went (next_over_all after end) few)
                (moves.its_own same hash asks setting slot lawful w c blocks sights calls s i inside m2 Tells rests went (next_over_all after end) few)
                (moves.same_few same hash asks setting slot lawful w c blocks sights calls s i inside m2 Tells rests went (next_over_all after end) few) i (inl refl) after p2
                (record {
                  facts = facts;
                  began_before = (let l = knows.began_before in let n = remembers.now in omega (arith, l, n));
                  from = more.2;
                  covers = more.4;
                  tries = tries_none p2.stands refl;
                }),
          ))

      -- it has ended
      ends : (stage : Sweeping) → p2.stands ≡ stage → (CopiesPairs stage → ⊥) → SweepFacts same hash went.w2 i its went.c2 went.blocks2 o.began p2
          → Fits same hash asks setting slot went.w2 went.c2 blocks_then (sights_then (slot i)) i None
      ends stage is idle facts = fits_none same hash asks setting slot went.w2 went.c2 blocks_then (sights_then (slot i)) i (facts.idle (λ copies. idle (subst CopiesPairs is copies)))

      pub mine : (x : Swept (Node K V)) → SweepAfter same hash i its o.began went.w2 went.c2 went.blocks2 (p2, x) → OutcomeAgrees o.sweep.stands p2.stands x
          → Fits same hash asks setting slot went.w2 went.c2 blocks_then (sights_then (slot i)) i (next_over_all after x)
      mine swept.Goes h tells = goes_on h
      mine swept.Waits h tells = goes_on h
      mine (swept.Gave value) h tells = absurd h
      mine swept.Ready h tells = goes_on h
      mine (swept.Pair word) h tells = goes_on h
      mine (swept.Asks word) h tells = goes_on h
      mine swept.Done h tells = ends at.Over tells (λ copies. copies) h
      mine (swept.Refused fault) h tells = ends (at.Refused fault) tells (λ copies. copies) h

      pub changes : (went.c2.current ≡ c.current) ⊎ RemovesPair hash c seen o.sweep went.c2 → RemovesAsReplied o c went.c2
      changes (inl same_pairs) = inl same_pairs
      changes (inr removed) = removes_told went.c2 removed

      abbrev pub sweep_leads : SweepStepsTogether V same hash asks setting slot w c blocks sights calls i o m2 p2 end
      sweep_leads = record {
        went = went;
        inside = inside;
        remembers = remembers;
        removes = changes went.told.changes;
        entered2 = more.0;
        done2 = more.1;
        from = more.2;
        done = more.3;
        shows = shows_since hash went.c2 went.blocks2 o.began more.0 more.2 more.1 p2 more.4 o.sweep.stands o.done o.entered end went.told.stands.tells more.3;
        comes = λ over. subst (λ (x : Purpose). Came went.c2 more.0 x more.1) went.told.stands.purpose
            (came_at_end hash went.c2 went.blocks2 o.began more.0 more.2 more.1 p2 more.4 o.sweep.stands end went.told.stands.tells over);
        blocks2 = blocks_then;
        grown = moves.grown_then same hash asks setting slot lawful w c blocks sights calls s i inside m2 Tells rests went (next_over_all after end) few;
        sights2 = sights_then;
        together = moves.moves_together same hash asks setting slot lawful w c blocks sights calls s i inside m2 Tells rests went (next_over_all after end) few
            (mine end went.told.facts went.told.stands.tells);
      }

  pub sweeps_stand_together : SweepsPreserveTheInvariant V same hash asks setting slot
  sweeps_stand_together lawful initial w c blocks sights calls s i o has none = by (s.stand i (OverAll o) has)
    where
      Comes : Type 0
      Comes =
          May Can Took value_at w.memory (sweep_plan hash o.sweep)
          × ((m2 : Mem (Node K V)) (p2 : Sweep) (end : Swept (Node K V)) → Steps Took value_at w.memory (sweep_plan hash o.sweep) m2 (p2, end)
          → SweepStepsTogether V same hash asks setting slot w c blocks sights calls i o m2 p2 end)

      its_map : IsMapIn same hash (in_slot setting (slot i)) w c (seen_by blocks (sights (slot i)))
      its_map = map_seen same hash (in_slot setting (slot i)) w c blocks (sights (slot i)) (map_in_slot same hash setting w c blocks (slot i) s.ground.map) (s.ground.sight (slot i) (s.inside i (OverAll o) has)).0

      by : IsAtPoint V same hash asks setting slot w c (seen_by blocks (sights (slot i))) i (OverAll o) → Comes
      by (inr (row, is_row, k)) = absurd (none is_row)
      by (inl (rests, k)) =
          let may = (sweeps_keep_the_map V same hash lawful (in_slot setting (slot i)) initial w i c (seen_by blocks (sights (slot i))) o.began o.sweep its_map s.ground.moments
          (λ blocking t made. claim_few calls c (s.few blocking) t made) k.facts none).0 in (
            may,
            λ m2 p2 end steps.
                let covered = sweeps_cover V same hash lawful (in_slot setting (slot i)) initial w i c (seen_by blocks (sights (slot i))) o.began o.sweep its_map s.ground.moments
                (λ blocking t made. claim_few calls c (s.few blocking) t made) k.began_before k.facts none m2 p2 end steps in
                sweep_leads lawful w c blocks sights calls s i o has none rests k m2 p2 end may steps
                (went_as same hash (in_slot setting (slot i)) i w c (seen_by blocks (sights (slot i))) m2 _
                (λ w2 c2 blocks2. SweepOutcome same hash i (in_slot setting (slot i)) o.began c (seen_by blocks (sights (slot i))) o.sweep w2 c2 blocks2 p2 end)
                (λ w2 c2 blocks2 map moved blocks_same told. told.0) covered) covered.told.1,
          )
