-- A step of a call that is alone, none of a row of the collector: it does not wait, and the call is alone still, or it asks, or the owner rests.
use Rattle.std.specs.Prelude.{◌≡◌, ℕ, ◌<◌, Bool, Option, Some, None}
use Rattle.std.specs.Int.{IsPowerOfTwo}
use Rattle.std.proofs.Common.{inl, inr, refl, ap, sym, subst, ◌∙◌, true}
use Rattle.std.proofs.lemmas.Bool.{cases_eq, cases_lt}
use Rattle.seize_words.specs.OneMemory.Mem.{Mem, Can, Took, value_at}
use Rattle.seize_words.specs.OneMemory.Plan.{May, Steps}
use Rattle.seize.specs.World.{World, Row, Rests, IsInside, with_at}
use Rattle.map_measures.proofs.Given.SeizeAloneHistories.Reached.{Reached}
use Rattle.map_tables.specs.Chunks.{is_incremental}
use Rattle.map_tables.specs.Nodes.{deferred_word}
use Rattle.map_tables.specs.declared.node.Node.{Node}
use Rattle.map_tables.specs.declared.setting.Setting.{Setting}
use Rattle.papaya_raw.specs.Call.{call_plan}
use Rattle.papaya_raw.specs.declared.machines.answer.Called.{Called}
use Rattle.papaya_raw.specs.declared.machines.answer.Called.TheVariants as called
use Rattle.papaya_raw.specs.declared.machines.call.KeyCall.{KeyCall}
use Rattle.map_measures.specs.Given.RuleChart.{Chart}
use Rattle.map_measures.specs.Given.RuleWords.{Blocks}
use Rattle.map_measures.specs.Given.RuleInWorld.{IsMapIn, IsOut, StepSpec}
use Rattle.map_measures.proofs.Given.RuleWorld.WentTold.{went_as}
use Rattle.owner_facts.specs.Given.PointsFactsCalls.{CallFacts}
use Rattle.owner_facts.specs.Given.PointsSteps.{AreLawful}
use Rattle.owner_facts.specs.Given.PointsTold.{IsRowOfCall, CallFactsAfter, CallOutcome}
use Rattle.owner_facts.proofs.Given.PointsCalls.StepsTold.{calls_keep_the_map}
use Rattle.owner_facts.specs.Alone.FactsAloneCalls.{IsLone, AloneBetweenCalls, LeadsLone}
use Rattle.owner_facts.proofs.Alone.Lone.Stays.{LoneWent, went_call_lone}
use Rattle.owner_facts.specs.Given.CallersSights.{Visible, seen_by}
use Rattle.owner_facts.specs.Given.CallersTogether.{UnderWay, CallOnKey, OnKey, next_of, in_slot, Knows, IsAtPoint, Together, StepsTogether}
use Rattle.owner_facts.proofs.Given.CallersSights.Seen.{map_seen}
use Rattle.owner_facts.proofs.Given.CallersTogether.At.{at_other, at_same}
use Rattle.owner_facts.proofs.Given.CallersTogether.Came.{came_reached}
use Rattle.owner_facts.proofs.Given.CallersTogether.FactsOn.{KnowsOfCall}
use Rattle.owner_facts.proofs.Given.CallersTogether.Fits.{map_in_slot}
use Rattle.owner_facts.proofs.Given.CallersTogether.Stand.{fresh_leads}
use Rattle.owner_facts.proofs.Given.CallersTogether.Users.{events_rows, inside_on}
use Rattle.owner_whole.specs.Whole.Owner.{IsFirst, IsOfRoot, IsQuiescent, IsAlone}
use Rattle.owner_whole.specs.Whole.Whole.{then_so, Leads, StepLeads}
use Rattle.map_measures.proofs.Given.PointsMovedLasts.{moved_lasts}
use Rattle.owner_facts.proofs.Alone.Calls.Changes.{changed_on}
use Rattle.owner_facts.proofs.Given.CallersSights.Sources.{below, above}
use Rattle.owner_whole.proofs.Whole.Contents.Runs.{were_told, went_keeps, run_on, still_on}
use Rattle.seize_words.specs.declared.fault.Fault.{Fault}
use Rattle.owner_facts.specs.Alone.Counted.{HasAdded, counted_at}
use Rattle.owner_facts.proofs.Alone.Shards.Counted.{counted_on}
use Rattle.owner_whole.proofs.Whole.Fresh.Calls.{never_both}
use Rattle.owner_whole.proofs.Whole.Keys.Counted.{answered_counted}
use Rattle.owner_whole.proofs.Whole.Limits.Keys.{call_ends}
use Rattle.owner_whole.proofs.Whole.Rows.Standing.{no_row_rests}

module _ {K V Q : Type 0} (same : K → K → Bool) (hash : K → ℕ) (asks : Q → K → Bool) (setting : Setting) (slot : ℕ → ℕ) (lawful : AreLawful same hash)
    (w : World (Node K V)) (c : Chart K) (blocks : Blocks) (sights : ℕ → Visible) (u : CallOnKey K V Q) (a : IsAlone same hash asks setting slot w c blocks sights (OnKey u)) where
  abbrev pub here : Setting
  here = in_slot setting (slot 0)

  abbrev pub seen : Blocks
  seen = seen_by blocks (sights (slot 0))

  pub inside : IsInside (w.uses (slot 0))
  inside = a.together.inside 0 (OnKey u) a.has

  pub map : IsMapIn same hash here w c seen
  map = map_seen same hash here w c blocks (sights (slot 0)) (map_in_slot same hash setting w c blocks (slot 0) a.together.ground.map) (a.together.ground.sight (slot 0) inside).0

  first_of : (p : KeyCall K V Q) (x : KnowsOfCall same hash asks here 0 w c seen u.keys u.began u.change p) → IsFirst x → CallFacts same hash asks w 0 here c seen u.keys u.change p
  first_of p (inl facts) first = facts
  first_of p (inr late) first = absurd first

  -- at a point of its own it knows what the point says
  module _ (none : IsRowOfCall u.call.stands → ⊥) where
    abbrev pub KnowsHere : Type 0
    KnowsHere = (w.row 0 ≡ Rests) × Knows V same hash asks setting slot w c seen 0 u u.call × CallFacts same hash asks w 0 here c seen u.keys u.change u.call

    pub knows_here : KnowsHere
    knows_here = by (a.together.stand 0 (OnKey u) a.has) a.of_root
      where
        by : (x : IsAtPoint V same hash asks setting slot w c seen 0 (OnKey u)) → IsOfRoot same hash asks setting slot w c seen (OnKey u) x → KnowsHere
        by (inl (rests, knows)) first = (rests, knows, first_of u.call knows.facts first)
        by (inr (row, is_row, knows)) first = absurd (none is_row)

    module _ (initial : IsPowerOfTwo setting.initial) where
      pub own_may : May Can Took value_at w.memory (call_plan asks same hash u.call)
      own_may = (calls_keep_the_map V same hash asks lawful here initial w 0 c seen u.keys u.change u.call map knows_here.2 none).0

      -- where a step leads, alone
      abbrev pub LoneHere : Mem (Node K V) → KeyCall K V Q → Called (Node K V) → Type 0
      LoneHere m2 p2 progress = LoneWent same hash asks lawful.lawful lawful.fits here initial w 0 c seen u.keys map u.change u.call knows_here.2 m2 u.call.stands (p2, progress)

      module _ (m2 : Mem (Node K V)) (p2 : KeyCall K V Q) (progress : Called (Node K V)) (steps : Steps Took value_at w.memory (call_plan asks same hash u.call) m2 (p2, progress)) where
        pub lone : LoneHere m2 p2 progress
        lone = went_call_lone same hash asks lawful.lawful lawful.fits here initial w 0 c seen u.keys map u.change u.call knows_here.2 m2 (p2, progress) none steps

        abbrev pub fresh : StepSpec same hash here 0 w c seen m2 (λ w2 c2 blocks2. CallOutcome same hash asks 0 here u.keys c u.change u.call w2 c2 blocks2 p2 progress)
        fresh = went_as same hash here 0 w c seen m2 _ (λ w2 c2 blocks2. CallOutcome same hash asks 0 here u.keys c u.change u.call w2 c2 blocks2 p2 progress)
            (λ w2 c2 blocks2 map2 moved blocks_same told. told.0) lone

        abbrev pub stepped : StepsTogether V same hash asks setting slot w c blocks sights a.calls 0 u m2 p2 progress
        stepped = fresh_leads same hash asks setting slot lawful w c blocks sights a.calls a.together 0 u a.has none knows_here.0 knows_here.1 m2 p2 progress own_may steps knows_here.2 fresh

        abbrev pub after : CallOnKey K V Q
        after = then_so u lone.told.0.change2 p2

        abbrev pub calls2 : ℕ → Option (UnderWay K V Q)
        calls2 = with_at a.calls 0 (next_of after progress)

        pub together2 : Together V same hash asks setting slot lone.w2 lone.c2 stepped.blocks2 stepped.sights2 calls2
        together2 = stepped.together

        rows_same : lone.w2.row ≡ w.row
        rows_same = events_rows setting.batch_size lone.events w lone.w2 lone.users lone.runs

        row_same : (i : ℕ) → lone.w2.row i ≡ w.row i
        row_same i = ap (λ (f : ℕ → Row). f i) rows_same

        reached : Reached deferred_word setting.batch_size w
        reached = came_reached setting.batch_size w a.together.ground.came

        pub inside2 : IsInside (lone.w2.uses (slot 0))
        inside2 = inside_on setting.batch_size slot 0 lone.events w lone.w2 reached inside lone.users lone.runs (slot 0) inside

        abbrev pub seen2 : Blocks
        seen2 = seen_by stepped.blocks2 (stepped.sights2 (slot 0))

        pub map2 : IsMapIn same hash here lone.w2 lone.c2 seen2
        map2 =
            map_seen same hash here lone.w2 lone.c2 stepped.blocks2 (stepped.sights2 (slot 0)) (map_in_slot same hash setting lone.w2 lone.c2 stepped.blocks2 (slot 0) together2.ground.map)
            (together2.ground.sight (slot 0) inside2).0

        -- where it goes on, the root has left no table that it works in
        module _ (facts : CallFacts same hash asks lone.w2 0 here lone.c2 lone.blocks2 u.keys lone.told.0.change2 p2) where
          first_then : (x : KnowsOfCall same hash asks here 0 lone.w2 lone.c2 seen2 u.keys u.began lone.told.0.change2 p2) → IsFirst x
          first_then (inl known) = tt
          first_then (inr (none, late)) = never_both same hash asks here lone.w2 0 lone.c2 lone.blocks2 seen2 lone.map map2 u.keys lone.told.0.change2 u.began p2 facts late

          of_root_then : (x : IsAtPoint V same hash asks setting slot lone.w2 lone.c2 seen2 0 (OnKey after)) → IsOfRoot same hash asks setting slot lone.w2 lone.c2 seen2 (OnKey after) x
          of_root_then (inl (rests, knows)) = first_then knows.facts
          of_root_then (inr (row, is_row, knows)) = absurd (no_row_rests (slot 0) p2.stands is_row (sym knows_here.0 ∙ sym (row_same 0) ∙ row))

          pub still_alone : IsLone (is_incremental setting.mode) 0 lone.c2 p2.stands → next_of after progress ≡ Some (OnKey after) → IsAlone same hash asks setting slot lone.w2 lone.c2 stepped.blocks2 stepped.sights2 (OnKey after)
          still_alone alone goes =
              let has2 : calls2 0 ≡ Some (OnKey after) = at_same a.calls 0 (next_of after progress) 0 refl ∙ goes in
              record {
                calls = calls2;
                has = has2;
                others = λ i other. at_other a.calls 0 (next_of after progress) i other ∙ a.others i other;
                together = together2;
                rows = λ i other. row_same i ∙ a.rows i other;
                lone = alone;
                inside = together2.inside 0 (OnKey after) has2;
                of_root = of_root_then (together2.stand 0 (OnKey after) has2);
              }

        -- what it has looked at has the blocks that it has for all
        pair_seen : (o : ℕ) → lone.blocks2.pair_known o ≡ true → lone.blocks2.pair o ≡ stepped.blocks2.pair o
        pair_seen o known = elim (cases_lt o c.stored) as (λ _. lone.blocks2.pair o ≡ stepped.blocks2.pair o) [
          | inl low ↦ (lone.blocks_same.pairs o low (lone.blocks_same.pairs_back o low known)).0 ∙ sym (below o c.stored (blocks.pair o) (lone.blocks2.pair o) low)
          | inr high ↦ sym (above o c.stored (blocks.pair o) (lone.blocks2.pair o) high)
        ]

        whole : IsMapIn same hash setting w c blocks
        whole = a.together.ground.map

        -- and its value
        value_same : (o : ℕ) → o < c.stored → blocks.pair_known o ≡ true → value_at lone.w2.memory (blocks.pair o) ≡ value_at w.memory (blocks.pair o)
        value_same o low known =
            let is = (whole.map.shows.pairs o low known).2 in
            ap (λ (m : Mem (Node K V)). value_at m (blocks.pair o)) lone.memory
            ∙ lone.frame.values (blocks.pair o) _ is (λ making. subst IsOut making.0 (whole.pairs_out o low known)) ∙ sym is

        -- where it has ended, the owner rests
        at_rest : AloneBetweenCalls (is_incremental setting.mode) 0 lone.c2 → next_of after progress ≡ None → IsQuiescent {Q = Q} same hash asks setting slot lone.w2 lone.c2 stepped.blocks2 stepped.sights2
        at_rest alone ends = record {
          calls = calls2;
          none = λ i. elim (cases_eq i 0) as (λ _. calls2 i ≡ None) [
            | inl e ↦ at_same a.calls 0 (next_of after progress) i e ∙ ends
            | inr other ↦ at_other a.calls 0 (next_of after progress) i other ∙ a.others i other
          ];
          together = together2;
          rows = λ i. elim (cases_eq i 0) as (λ _. lone.w2.row i ≡ Rests) [
            | inl e ↦ row_same i ∙ ap w.row e ∙ knows_here.0
            | inr other ↦ row_same i ∙ a.rows i other
          ];
          inside = inside2;
          alone = alone;
        }

        -- what it has counted then
        counting : (m0 : Mem (Node K V)) → HasAdded setting m0 (counted_at u.call.stands) w.memory
            → HasAdded setting m0 (counted_at p2.stands) m2 × ((fault : Fault) → progress ≡ called.Refused fault → HasAdded setting m0 0 m2)
        counting m0 had = counted_on same hash asks w 0 here c seen u.keys map u.change u.call knows_here.2 none own_may m0 m2 (p2, progress) steps had

        pub own_leads : StepLeads same hash asks setting slot w c blocks u m2 p2 progress
        own_leads = record {
          w2 = lone.w2;
          c2 = lone.c2;
          blocks2 = stepped.blocks2;
          sights2 = stepped.sights2;
          change2 = lone.told.0.change2;
          memory = lone.memory;
          leads = by progress refl lone.told.0.facts (lone.told.1 a.lone);
          counts = λ m0 had. subst (HasAdded setting m0 (counted_at p2.stands)) (sym lone.memory) (counting m0 had).0;
          hands = stepped.hands;
          removes = λ fault is nothing. ((stepped.refuses fault is).2 nothing).0;
          ends = λ bits few so. call_ends same hash asks here bits few w lone.w2 c lone.c2 seen lone.blocks2 map lone.map
              (moved_lasts same hash here lawful.lawful w c lone.c2 seen map lone.moved) lone.blocks_same u.keys u.change u.call knows_here.2 own_may (p2, progress)
              (subst (λ (m : Mem (Node K V)). Steps Took value_at w.memory (call_plan asks same hash u.call) m (p2, progress)) (sym lone.memory) steps) so;
          looks = λ o low known. (
            below o c.stored (blocks.pair_known o) (lone.blocks2.pair_known o) low ∙ known,
            below o c.stored (blocks.pair o) (lone.blocks2.pair o) low,
            value_same o low known,
          );
          answered = λ answer is. answered_counted answer p2.stands (subst (CallFactsAfter same hash asks 0 here u.keys lone.w2 lone.c2 lone.blocks2 lone.told.0.change2 p2) is lone.told.0.facts).0;
          refused = λ fault is m0 had. subst (HasAdded setting m0 0) (sym lone.memory) ((counting m0 had).1 fault is);
          runs = λ m0 c0 blocks0 rule0. run_on same hash setting u.keys m0 c0 blocks0 w.memory lone.w2.memory c lone.c2 blocks stepped.blocks2 u.change lone.told.0.change2
              (λ changed. changed_on same hash setting u.keys c0 c lone.c2 rule0 map.map.rule lone.map.map.rule lone.moved
              (moved_lasts same hash here lawful.lawful w c lone.c2 seen map lone.moved) u.change lone.told.0.change2 changed lone.told.0.changes)
              (went_keeps same hash lawful setting w c blocks a.together.ground.map here 0 seen m2 _ lone stepped.blocks2 (λ o low. below o c.stored (blocks.pair o) (lone.blocks2.pair o) low) map
              (were_told same hash (is_incremental setting.mode) u.keys c lone.c2 u.change lone.told.0.change2 lone.told.0.changes))
              (still_on same hash setting.mode u.keys 0 c0 c lone.c2 lone.moved stepped.remembers together2.ground.moments u.change lone.told.0.change2 lone.told.0.changes);
        }
          where
            by : (x : Called (Node K V)) → progress ≡ x → CallFactsAfter same hash asks 0 here u.keys lone.w2 lone.c2 lone.blocks2 lone.told.0.change2 p2 x
                → LeadsLone (is_incremental setting.mode) 0 lone.c2 (p2, x) → Leads same hash asks setting slot w lone.w2 lone.c2 stepped.blocks2 stepped.sights2 after x
            by called.Goes is facts alone = still_alone facts alone (ap (next_of after) is)
            by called.Waits is facts alone = alone
            by (called.Gave value) is facts alone = absurd facts
            by (called.Unstored value) is facts alone = still_alone facts alone.0 (ap (next_of after) is)
            by (called.Asks asked) is facts alone = (still_alone facts alone.0 (ap (next_of after) is), alone.1, alone.2)
            by (called.Done answer) is facts alone = (at_rest alone (ap (next_of after) is), lone.blocks2, lone.map, (λ o low known. pair_seen o known), stepped.answers answer is)
            by (called.Refused fault) is facts alone = (at_rest alone (ap (next_of after) is), facts.1)
