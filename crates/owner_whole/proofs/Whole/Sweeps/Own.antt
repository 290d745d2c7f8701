-- A step of a sweep that is alone, none of a row of the collector: it does not wait, and the sweep is alone still, or the owner rests.
use Rattle.std.specs.Prelude.{◌≡◌, ℕ, ◌⊎◌, Bool, true, false, [], Option, Some, None}
use Rattle.std.specs.Int.{IsPowerOfTwo}
use Rattle.std.proofs.Common.{inl, inr, refl, ap, sym, subst, ◌∙◌}
use Rattle.std.proofs.lemmas.Bool.{cases_eq, cases_lt}
use Rattle.seize_words.specs.OneMemory.Mem.{Mem, Can, Took, value_at}
use Rattle.seize_words.specs.OneMemory.Plan.{May, Steps}
use Rattle.seize_words.specs.OneMemory.Word.{link_word}
use Rattle.seize.specs.World.{World, Row, Rests, IsInside, with_at}
use Rattle.map_tables.specs.Chunks.{is_incremental}
use Rattle.map_tables.specs.declared.node.Node.{Node}
use Rattle.map_tables.specs.declared.setting.Setting.{Setting}
use Rattle.papaya_raw.specs.Given.SweepsSweep.{sweep_plan}
use Rattle.papaya_raw.specs.Given.ReservesDeclared.sweep.Sweep.{Sweep}
use Rattle.papaya_raw.specs.Given.ReservesDeclared.sweep.Sweeping.{Sweeping}
use Rattle.papaya_raw.specs.Given.ReservesDeclared.sweep.Sweeping.TheVariants as at
use Rattle.papaya_raw.specs.Given.ReservesDeclared.sweep.Swept.{Swept}
use Rattle.papaya_raw.specs.Given.ReservesDeclared.sweep.Swept.TheVariants as swept
use Rattle.map_measures.specs.Given.RuleChart.{Phase, Still, Chart}
use Rattle.map_measures.specs.Given.RuleWords.{Blocks, mark_bits, byte_of}
use Rattle.map_measures.specs.Given.RuleInWorld.{IsMapIn, StepSpec}
use Rattle.map_measures.proofs.Given.RuleWorld.Hands.{current_known}
use Rattle.owner_facts.specs.Given.PointsSteps.{AreLawful}
use Rattle.map_measures.specs.Given.LateCovers.{CoversAt}
use Rattle.map_measures.specs.Given.LateCoversSweeps.{DoneBy, DoneAt}
use Rattle.owner_facts.specs.Given.LateLeft.{ClaimsAreFew}
use Rattle.owner_facts.specs.Given.LateToldSweeps.{IsRowOfSweep, OutcomeAgrees, SweepOutcome}
use Rattle.owner_facts.proofs.Given.LateSwept.Laws.{sweeps_keep_the_map}
use Rattle.owner_facts.proofs.Given.LateSwept.Sweeps.Moved.{SweepMoves}
use Rattle.owner_facts.proofs.Given.LateSwept.Sweeps.Tables.{still_current}
use Rattle.owner_facts.specs.Alone.FactsAloneCalls.{AloneBetweenCalls}
use Rattle.map_measures.specs.Given.PointsMeasures.{IsBelow}
use Rattle.map_measures.specs.Passes.FallsSweeps.{AdvancesFrom}
use Rattle.map_measures.specs.Passes.Sweeps.{number_of_sweep}
use Rattle.map_measures.proofs.Passes.Laws.{sweeps_fall}
use Rattle.owner_facts.specs.Given.CallersOverAll.{CallOverAll, come_to}
use Rattle.owner_facts.specs.Given.CallersSights.{Visible, seen_by}
use Rattle.map_measures.specs.Given.CallersSweeps.{SweepStepsTogether}
use Rattle.owner_facts.specs.Given.CallersTogether.{UnderWay, OverAll, next_over_all, in_slot, KnowsSweep, IsAtPoint, Together}
use Rattle.owner_facts.proofs.Given.CallersSights.Seen.{map_seen}
use Rattle.owner_facts.proofs.Given.CallersSights.Sources.{below, above}
use Rattle.owner_facts.proofs.Given.CallersTogether.At.{at_other, at_same}
use Rattle.owner_facts.proofs.Given.CallersTogether.Came.{came_reached}
use Rattle.owner_facts.proofs.Given.CallersTogether.Few.{claim_few}
use Rattle.owner_facts.proofs.Given.CallersTogether.Fits.{map_in_slot}
use Rattle.owner_facts.proofs.Given.CallersTogether.Sweeps.{sweep_leads}
use Rattle.owner_facts.proofs.Given.CallersTogether.Users.{events_rows, inside_on}
use Rattle.owner_whole.specs.Whole.LoneSweeps.{IsBefore, goes_once, IsLoneSweep, GoesOverRoot, LiesThere, OverRoot, IsOverRoot}
use Rattle.owner_whole.specs.Whole.Owner.{IsOfRoot, IsQuiescent, IsAlone}
use Rattle.owner_whole.specs.Whole.WholeSweeps.{SweepLeads}
use Rattle.owner_whole.proofs.Whole.Joined.{same_joined, links_joined}
use Rattle.owner_whole.proofs.Whole.Fresh.Sweeps.{CopiesRoot, of_whole, whole_of}
use Rattle.owner_whole.proofs.Whole.Sweeps.Account.{no_sweep_row_rests}
use Rattle.owner_whole.proofs.Whole.Sweeps.Lone.{LeadsSweep}
use Rattle.owner_whole.proofs.Whole.Sweeps.Went.{OwnTold, own_went}

-- what is so of its table is so by what may be looked at in another way
over_on : {K : Type 0} (hash : K → ℕ) (b : Bool) (c : Chart K) (blocks blocks2 : Blocks) (p : Sweep)
    → ((word : ℕ) → GoesOverRoot hash b c blocks p → LiesThere hash b c blocks p word → LiesThere hash b c blocks2 p word)
    → (stage : Sweeping) → OverRoot hash b c blocks p stage → OverRoot hash b c blocks2 p stage
over_on hash b c blocks blocks2 p on at.Reads over = tt
over_on hash b c blocks blocks2 p on at.Follows over = over
over_on hash b c blocks blocks2 p on (at.Copies copier) over = tt
over_on hash b c blocks blocks2 p on at.Ready over = λ l. (let o = over l in record { root = o.root; last = o.last })
over_on hash b c blocks blocks2 p on at.Words over = record { root = over.root; last = over.last }
over_on hash b c blocks blocks2 p on (at.Asks word) over = (record { root = over.0.root; last = over.0.last }, on word over.0 over.1)
over_on hash b c blocks blocks2 p on (at.Tries word) over = (record { root = over.0.root; last = over.0.last }, λ retains. on word over.0 (over.1 retains))
over_on hash b c blocks blocks2 p on (at.Counts removed) over = record { root = over.root; last = over.last }
over_on hash b c blocks blocks2 p on (at.Disposes dispose) over = record { root = over.root; last = over.last }
over_on hash b c blocks blocks2 p on at.Over over = tt
over_on hash b c blocks blocks2 p on (at.Refused fault) over = tt

pub before_cases : (stage : Sweeping) → IsBefore stage ⊎ (IsBefore stage → ⊥)
before_cases at.Reads = inl tt
before_cases at.Follows = inl tt
before_cases (at.Copies copier) = inl tt
before_cases (at.Refused fault) = inl tt
before_cases at.Ready = inr (λ h. h)
before_cases at.Words = inr (λ h. h)
before_cases (at.Asks word) = inr (λ h. h)
before_cases (at.Tries word) = inr (λ h. h)
before_cases (at.Counts removed) = inr (λ h. h)
before_cases (at.Disposes dispose) = inr (λ h. h)
before_cases at.Over = inr (λ h. h)

module _ {K V Q : Type 0} (same : K → K → Bool) (hash : K → ℕ) (asks : Q → K → Bool) (setting : Setting) (slot : ℕ → ℕ) (lawful : AreLawful same hash)
    (w : World (Node K V)) (c : Chart K) (blocks : Blocks) (sights : ℕ → Visible) (o : CallOverAll) (a : IsAlone {Q = Q} same hash asks setting slot w c blocks sights (OverAll o)) where
  abbrev pub here : Setting
  here = in_slot setting (slot 0)

  abbrev pub b : Bool
  b = is_incremental setting.mode

  abbrev pub seen : Blocks
  seen = seen_by blocks (sights (slot 0))

  pub inside : IsInside (w.uses (slot 0))
  inside = a.together.inside 0 (OverAll o) a.has

  pub map : IsMapIn same hash here w c seen
  map = map_seen same hash here w c blocks (sights (slot 0)) (map_in_slot same hash setting w c blocks (slot 0) a.together.ground.map) (a.together.ground.sight (slot 0) inside).0

  pub few : b ≡ false → ClaimsAreFew c
  few blocking t made = claim_few a.calls c (a.together.few blocking) t made

  -- at a point of its own it knows what the point says
  module _ (none : IsRowOfSweep o.sweep.stands → ⊥) where
    pub record KnowsHere : Type 0 where
      pub rests : w.row 0 ≡ Rests
      pub knows : KnowsSweep V same hash asks setting slot w c seen 0 o o.sweep
      pub whole : CopiesRoot same hash here w c seen o.sweep.stands
      pub over : IsOverRoot hash b c seen o.sweep o.done

    pub knows_here : KnowsHere
    knows_here = by (a.together.stand 0 (OverAll o) a.has) a.of_root
      where
        by : (x : IsAtPoint V same hash asks setting slot w c seen 0 (OverAll o)) → IsOfRoot same hash asks setting slot w c seen (OverAll o) x → KnowsHere
        by (inl (rests, knows)) (first, over) = record { rests = rests; knows = knows; whole = whole_of same hash asks setting slot w c seen o.began o.sweep o.sweep.stands knows.facts.point first; over = over }
        by (inr (row, is_row, knows)) of_root = absurd (none is_row)

    module _ (initial : IsPowerOfTwo setting.initial) where
      pub own_may : May Can Took value_at w.memory (sweep_plan hash o.sweep)
      own_may = (sweeps_keep_the_map V same hash lawful here initial w 0 c seen o.began o.sweep map a.together.ground.moments few knows_here.knows.facts none).0

      module _ (m2 : Mem (Node K V)) (p2 : Sweep) (end : Swept (Node K V)) (steps : Steps Took value_at w.memory (sweep_plan hash o.sweep) m2 (p2, end)) where
        abbrev Own : World (Node K V) → Chart K → Blocks → Type 0
        Own w2 c2 blocks2 =
            OwnTold same hash lawful here initial o.began w c seen map a.together.ground.moments few knows_here.knows.began_before o.sweep knows_here.knows.facts knows_here.whole a.lone
            knows_here.over.table none m2 p2 end steps w2 c2 blocks2

        pub went : StepSpec same hash here 0 w c seen m2 Own
        went =
            own_went same hash lawful here initial o.began w c seen map a.together.ground.moments few knows_here.knows.began_before o.sweep knows_here.knows.facts knows_here.whole a.lone
            knows_here.over.table none m2 p2 end steps

        abbrev pub fresh : StepSpec same hash here 0 w c seen m2 (λ w2 c2 blocks2. SweepOutcome same hash 0 here o.began c seen o.sweep w2 c2 blocks2 p2 end)
        fresh = record {
          w2 = went.w2;
          c2 = went.c2;
          blocks2 = went.blocks2;
          events = went.events;
          users = went.users;
          its = went.its;
          runs = went.runs;
          memory = went.memory;
          frame = went.frame;
          tables = went.tables;
          links = went.links;
          spares = went.spares;
          moved = went.moved;
          map = went.map;
          blocks_same = went.blocks_same;
          told = went.told.told;
        }

        abbrev pub stepped : SweepStepsTogether V same hash asks setting slot w c blocks sights a.calls 0 o m2 p2 end
        stepped = sweep_leads same hash asks setting slot lawful w c blocks sights a.calls a.together 0 o a.has none knows_here.rests knows_here.knows m2 p2 end own_may steps fresh went.told.covers

        abbrev pub after : CallOverAll
        after = come_to o stepped.entered2 stepped.done2 p2

        abbrev pub calls2 : ℕ → Option (UnderWay K V Q)
        calls2 = with_at a.calls 0 (next_over_all after end)

        pub together2 : Together V same hash asks setting slot went.w2 went.c2 stepped.blocks2 stepped.sights2 calls2
        together2 = stepped.together

        -- what it has come to
        pub covers2 : CoversAt hash went.c2 went.blocks2 p2 stepped.entered2 stepped.done2 p2.stands
        covers2 = (went.told.covers o.entered o.done knows_here.knows.from knows_here.knows.covers).4

        row_same : (i : ℕ) → went.w2.row i ≡ w.row i
        row_same i = ap (λ (f : ℕ → Row). f i) (events_rows setting.batch_size went.events w went.w2 went.users went.runs)

        pub inside2 : IsInside (went.w2.uses (slot 0))
        inside2 =
            inside_on setting.batch_size slot 0 went.events w went.w2 (came_reached setting.batch_size w a.together.ground.came) inside went.users went.runs (slot 0) inside

        abbrev pub seen2 : Blocks
        seen2 = seen_by stepped.blocks2 (stepped.sights2 (slot 0))

        pub map2 : IsMapIn same hash here went.w2 went.c2 seen2
        map2 =
            map_seen same hash here went.w2 went.c2 stepped.blocks2 (stepped.sights2 (slot 0)) (map_in_slot same hash setting went.w2 went.c2 stepped.blocks2 (slot 0) together2.ground.map)
            (together2.ground.sight (slot 0) inside2).0

        -- what it has looked at are the pairs of the map
        pub pair_seen : (n : ℕ) → went.c2.current n ≡ true → went.blocks2.pair n ≡ stepped.blocks2.pair n
        pair_seen n is = elim (cases_lt n c.stored) as (λ _. went.blocks2.pair n ≡ stepped.blocks2.pair n) [
          | inl low ↦
              (let known = current_known same hash here went.w2 went.c2 went.blocks2 went.map.map.rule went.map.map.shows n is in
              (went.blocks_same.pairs n low (went.blocks_same.pairs_back n low known.1)).0 ∙ sym (below n c.stored (blocks.pair n) (went.blocks2.pair n) low))
          | inr high ↦ sym (above n c.stored (blocks.pair n) (went.blocks2.pair n) high)
        ]

        pub word_seen : (n : ℕ) (phase : Phase) (borrowed : Bool) → went.c2.current n ≡ true
            → link_word (went.blocks2.pair n) (byte_of hash (went.c2.key n)) (mark_bits phase borrowed) ≡ link_word (stepped.blocks2.pair n) (byte_of hash (went.c2.key n)) (mark_bits phase borrowed)
        word_seen n phase borrowed is = ap (λ (x : ℕ). link_word x (byte_of hash (went.c2.key n)) (mark_bits phase borrowed)) (pair_seen n is)

        stands_seen : (word : ℕ) → GoesOverRoot hash b went.c2 went.blocks2 p2 → LiesThere hash b went.c2 went.blocks2 p2 word → LiesThere hash b went.c2 seen2 p2 word
        stands_seen word over (n, borrowed, stands, is) =
            let current = still_current same hash went.c2 o.began b went.map.map.rule p2.place n borrowed (ap (λ (x : ℕ). went.c2.place x p2.place) (sym over.root) ∙ stands) in
            (n, borrowed, stands, is ∙ word_seen n Still borrowed current)

        -- before it has come to a place, nothing is done
        pub done_before : (stage : Sweeping) → o.sweep.stands ≡ stage → IsBefore stage → DoneAt hash went.c2 went.blocks2 o.done stepped.done2 o.entered stepped.entered2 end stage
            → SweepMoves same hash 0 here o.began w c seen o.sweep stage (p2, end) went.w2 went.c2 went.blocks2 → (IsBefore o.sweep.stands → o.done ≡ []) → stepped.done2 ≡ []
        done_before at.Reads is before done moves old = done
        done_before at.Follows is before done moves old = done
        done_before (at.Copies copier) is before done moves old = done
        done_before (at.Refused fault) is before done moves old =
            subst (λ (x : Swept (Node K V)). DoneBy hash went.c2 went.blocks2 o.done stepped.done2 x) (ap (λ (x : Sweep × Swept (Node K V)). x.1) moves.1) done.1
            ∙ old (subst IsBefore (sym is) tt)
        done_before at.Ready is before done moves old = absurd before
        done_before at.Words is before done moves old = absurd before
        done_before (at.Asks word) is before done moves old = absurd before
        done_before (at.Tries word) is before done moves old = absurd before
        done_before (at.Counts removed) is before done moves old = absurd before
        done_before (at.Disposes dispose) is before done moves old = absurd before
        done_before at.Over is before done moves old = absurd before

        pub nothing_before : goes_once b o.sweep.purpose ≡ true → IsBefore o.sweep.stands → (o.done ≡ []) × (stepped.done2 ≡ [])
        nothing_before once early =
            (knows_here.over.before once early, done_before o.sweep.stands refl early stepped.done went.told.moves (knows_here.over.before once))

        pub over2 : IsOverRoot hash b went.c2 seen2 p2 stepped.done2
        over2 = record {
          table = over_on hash b went.c2 went.blocks2 seen2 p2 stands_seen p2.stands went.told.stage.table;
          before = λ once before2. elim (before_cases o.sweep.stands) as (λ _. stepped.done2 ≡ []) [
            | inl before ↦ done_before o.sweep.stands refl before stepped.done went.told.moves (knows_here.over.before (once_was once))
            | inr at_place ↦ absurd (went.told.stage.none (once_was once) at_place before2)
          ];
        }
          where
            once_was : goes_once b p2.purpose ≡ true → goes_once b o.sweep.purpose ≡ true
            once_was once = sym (ap (goes_once b) went.told.told.stands.purpose) ∙ once

        of_root_then : (x : IsAtPoint V same hash asks setting slot went.w2 went.c2 seen2 0 (OverAll after)) → IsOfRoot same hash asks setting slot went.w2 went.c2 seen2 (OverAll after) x
        of_root_then (inl (rests, knows)) =
            (of_whole same hash asks setting slot went.w2 went.c2 went.blocks2 seen2 went.map map2 o.began p2 p2.stands went.told.stage.whole knows.facts.point, over2)
        of_root_then (inr (row, is_row, knows)) = absurd (no_sweep_row_rests (slot 0) p2.stands is_row (sym knows_here.rests ∙ sym (row_same 0) ∙ row))

        pub still_alone : IsLoneSweep b 0 went.c2 p2.stands → next_over_all {Q = Q} after end ≡ Some (OverAll after)
            → IsAlone {Q = Q} same hash asks setting slot went.w2 went.c2 stepped.blocks2 stepped.sights2 (OverAll after)
        still_alone alone goes =
            let has2 : calls2 0 ≡ Some (OverAll after) = at_same a.calls 0 (next_over_all after end) 0 refl ∙ goes in
            record {
              calls = calls2;
              has = has2;
              others = λ i other. at_other a.calls 0 (next_over_all after end) i other ∙ a.others i other;
              together = together2;
              rows = λ i other. row_same i ∙ a.rows i other;
              lone = alone;
              inside = together2.inside 0 (OverAll after) has2;
              of_root = of_root_then (together2.stand 0 (OverAll after) has2);
            }

        -- where it has ended, the owner rests
        at_rest : AloneBetweenCalls b 0 went.c2 → next_over_all {Q = Q} after end ≡ None → IsQuiescent {Q = Q} same hash asks setting slot went.w2 went.c2 stepped.blocks2 stepped.sights2
        at_rest alone ends = record {
          calls = calls2;
          none = λ i. elim (cases_eq i 0) as (λ _. calls2 i ≡ None) [
            | inl e ↦ at_same a.calls 0 (next_over_all after end) i e ∙ ends
            | inr other ↦ at_other a.calls 0 (next_over_all after end) i other ∙ a.others i other
          ];
          together = together2;
          rows = λ i. elim (cases_eq i 0) as (λ _. went.w2.row i ≡ Rests) [
            | inl e ↦ row_same i ∙ ap w.row e ∙ knows_here.rests
            | inr other ↦ row_same i ∙ a.rows i other
          ];
          inside = inside2;
          alone = alone;
        }

        pub leads : SweepLeads same hash asks setting slot w went.w2 went.c2 stepped.blocks2 stepped.sights2 after end
        leads = by end refl went.told.leads
          where
            pair_ready : (word : ℕ) → end ≡ swept.Pair word → p2.stands ≡ at.Ready
            pair_ready word is = (subst (λ (x : Swept (Node K V)). OutcomeAgrees o.sweep.stands p2.stands x) is went.told.told.stands.tells).1

            asks_there : (word : ℕ) → end ≡ swept.Asks word → p2.stands ≡ at.Asks word
            asks_there word is = subst (λ (x : Swept (Node K V)). OutcomeAgrees o.sweep.stands p2.stands x) is went.told.told.stands.tells

            by : (x : Swept (Node K V)) → end ≡ x → LeadsSweep b 0 went.c2 (p2, x) → SweepLeads same hash asks setting slot w went.w2 went.c2 stepped.blocks2 stepped.sights2 after x
            by swept.Goes is alone = still_alone alone (ap (next_over_all after) is)
            by swept.Waits is alone = alone
            by (swept.Gave value) is alone = absurd alone
            by swept.Ready is alone = (still_alone alone (ap (next_over_all after) is), went.told.stage.ready is)
            by (swept.Pair word) is alone = (still_alone alone (ap (next_over_all after) is), pair_ready word is)
            by (swept.Asks word) is alone = (still_alone alone (ap (next_over_all after) is), asks_there word is)
            by swept.Done is alone = (at_rest alone (ap (next_over_all after) is), subst (λ (x : Swept (Node K V)). OutcomeAgrees o.sweep.stands p2.stands x) is went.told.told.stands.tells)
            by (swept.Refused fault) is alone = (at_rest alone (ap (next_over_all after) is), subst (λ (x : Swept (Node K V)). OutcomeAgrees o.sweep.stands p2.stands x) is went.told.told.stands.tells)

        -- the same step, by all that is seen then: where it comes on, its numbers are lower
        abbrev to : StepSpec same hash here 0 w c seen m2 (λ w2 c2 blocks2. Unit {0})
        to = record {
          w2 = went.w2;
          c2 = went.c2;
          blocks2 = seen2;
          events = went.events;
          users = went.users;
          its = went.its;
          runs = went.runs;
          memory = went.memory;
          frame = went.frame;
          tables = went.tables;
          links = links_joined c seen went.blocks2 went.blocks_same 0 w went.w2 went.c2 went.links;
          spares = went.spares;
          moved = went.moved;
          map = map2;
          blocks_same = same_joined c seen went.blocks2;
          told = tt;
        }

        pub own_lower : AdvancesFrom o.sweep.stands end → IsBelow (number_of_sweep hash went.c2 seen2 p2) (number_of_sweep hash c seen o.sweep)
        own_lower more = sweeps_fall V same hash lawful here w 0 c seen o.began o.sweep map knows_here.knows.facts none m2 p2 end steps more to
