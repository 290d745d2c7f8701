-- A step of a call on one key, among others on its map: all stand together after it, and it answers what was so, or its one change.
use Rattle.many_calls.specs.Claims.{IsToClaim}
use Rattle.many_calls.proofs.Since.PairsOn.{looks_so}
use Rattle.many_calls.proofs.Since.LatePairs.{late_keeps_after, late_never_asks_on}
use Rattle.many_calls.proofs.Since.Pairs.{keeps_after}
use Rattle.many_calls.specs.Asked.{RemembersReplies}
use Rattle.many_calls.specs.Pairs.{kind_of, RemovesNone, IsOfKind, KeepsIt, KeepsGiven}
use Rattle.many_calls.proofs.Asked.On.{step_stays}
use Rattle.many_calls.proofs.Asked.Steps.{told_after}
use Rattle.many_calls.proofs.Asked.LateSteps.{late_told_after}
use Rattle.many_calls.proofs.Asked.Stays.{Stays}
use Rattle.many_calls.proofs.Once.Stays.{once_to}
use Rattle.many_calls.proofs.Once.Steps.{once_after}
use Rattle.many_calls.proofs.Once.LateSteps.{late_once_after}
use Rattle.map_facts_late.proofs.Given.PointsValues.Sought.{IsLook}
use Rattle.many_calls.proofs.Asked.Walks.{RoomsAt, rooms_at}
use Rattle.many_calls.proofs.Since.Began.{so_since_on}
use Rattle.many_calls.proofs.Since.Given.{GivenTo, fit_of, given_to}
use Rattle.map_facts_late.proofs.KindsKept.Laws.{calls_keep_their_kind}
use Rattle.map_facts_late.specs.Kinds.{StepFits}
use Rattle.many_calls.specs.Kind.{Kind}
use Rattle.map_facts_late.specs.Given.RawDeclared.machines.answer.KeyAnswer.TheVariants as answers
use Rattle.seize_model.specs.Given.SeizeWordsDeclared.fault.Fault.{Fault}
use Rattle.map_facts_late.proofs.Values.Never.{never_asks_on}
use Rattle.std.specs.Prelude.{suc, ◌≡◌, ℕ, Bool, false, Option, Some}
use Rattle.std.proofs.Common.{refl, ◌∙◌, arith, sym, subst, inl, inr}
use Rattle.seize_model.specs.Given.SeizeWordsMem.{Mem, Can, Took, value_at}
use Rattle.seize_model.specs.Given.SeizeWordsPlan.{May, Steps}
use Rattle.seize_model.specs.Given.SeizeWorld.{World, Rests, IsInside, with_at}
use Rattle.map_facts_late.specs.Given.RawCall.{call_plan}
use Rattle.map_facts_late.specs.Given.RuleInWorld.{IsMapIn, StepSpec, IsFramed}
use Rattle.many_calls.specs.Together.{UnderWay, CallOnKey, OnKey, ClaimsInto, next_of, in_slot, StayFew, Knows, IsAtPoint, Together, StepOutcome, Fresh, Late, change_observed, StepsTogether, CallsPreserveTheInvariant, AnswersOnce, RefusesOnce}
use Rattle.map_facts_late.specs.Given.TablesChunks.{is_incremental}
use Rattle.map_facts_late.specs.Given.TablesDeclared.node.Node.{Node}
use Rattle.map_facts_late.specs.Given.TablesDeclared.setting.Setting.{Setting}
use Rattle.map_facts_late.specs.Given.RawDeclared.machines.answer.KeyAnswer.{KeyAnswer}
use Rattle.map_facts_late.specs.Given.RawDeclared.machines.answer.Called.{Called}
use Rattle.map_facts_late.specs.Given.RawDeclared.machines.answer.Called.TheVariants as called
use Rattle.map_facts_late.specs.Given.RawDeclared.machines.call.KeyCall.{KeyCall}
use Rattle.map_facts_late.specs.Given.RuleChart.{Chart}
use Rattle.map_facts_late.specs.Given.RuleWords.{Blocks}
use Rattle.map_facts_late.specs.Given.RuleMoments.{Moments, Remembers}
use Rattle.map_facts_late.specs.Given.PointsFactsCalls.{Change, Unchanged, CallFacts}
use Rattle.map_facts_late.specs.Given.PointsTold.{HasAnswered, CallOutcome, IsRowOfCall}
use Rattle.map_facts_late.specs.Given.PointsSteps.{AreLawful}
use Rattle.map_facts_late.specs.Given.RuleLasts.{Lasts}
use Rattle.map_facts_late.proofs.Given.RuleWorld.WentTold.{went_as}
use Rattle.map_facts_late.specs.LateCalls.{SupersededCallFacts}
use Rattle.map_facts_late.specs.LateTold.{SupersededCallOutcome}
use Rattle.map_facts_late.proofs.Calls.Points.{late_calls_keep_the_map}
use Rattle.map_facts_late.proofs.Copiers.Points.{late_copiers_keep_the_map}
use Rattle.map_facts_late.specs.Given.RuleMaps.{spot_of}
use Rattle.many_calls.specs.Since.{SoSince, Since}
use Rattle.many_calls.specs.Sights.{Visible, seen_by}
use Rattle.map_facts_late.proofs.Known.Steps.{lasts_went, others_step}
use Rattle.many_calls.proofs.Together.Moves as moves
use Rattle.many_calls.proofs.Together.Few.{few_step, claim_few, next_is}
use Rattle.many_calls.proofs.Together.Writers.{wrote_before}
use Rattle.many_calls.proofs.Claims.Promised.{claims_by}
use Rattle.many_calls.proofs.Together.FactsOn.{KnowsOfCall}
use Rattle.many_calls.proofs.Together.Fits.{Fits, fits_some, fits_none, knows_on}
use Rattle.many_calls.proofs.Together.Told.{KnowsAfter, since_told, answers_told, refuses_told, after_told, beside_told}
use Rattle.map_facts_late.proofs.Given.PointsCalls.StepsTold.{calls_keep_the_map}

module _ {K V Q : Type 0} (same : K → K → Bool) (hash : K → ℕ) (asks : Q → K → Bool) (setting : Setting) (slot : ℕ → ℕ) where
  abbrev Stand : World (Node K V) → Chart K → Blocks → (ℕ → Visible) → (ℕ → Option (UnderWay K V Q)) → Type 0
  Stand = Together V same hash asks setting slot

  module _ (lawful : AreLawful same hash) (w : World (Node K V)) (c : Chart K) (blocks : Blocks) (sights : ℕ → Visible) (calls : ℕ → Option (UnderWay K V Q))
      (s : Stand w c blocks sights calls) (i : ℕ) (u : CallOnKey K V Q) (has : calls i ≡ Some (OnKey u)) (m2 : Mem (Node K V)) (p2 : KeyCall K V Q) (progress : Called (Node K V)) where
    abbrev Tells : World (Node K V) → Chart K → Blocks → Type 0
    Tells = StepOutcome V same hash asks setting slot c i u p2 progress

    pub inside : IsInside (w.uses (slot i))
    inside = s.inside i (OnKey u) has

    seen_map : IsMapIn same hash (in_slot setting (slot i)) w c (seen_by blocks (sights (slot i)))
    seen_map = moves.part same hash asks setting slot lawful w c blocks sights calls s i inside m2 Tells (slot i) i inside

    module _ (rests : w.row i ≡ Rests) (knows : Knows V same hash asks setting slot w c (seen_by blocks (sights (slot i))) i u u.call)
        (went : StepSpec same hash (in_slot setting (slot i)) i w c (seen_by blocks (sights (slot i))) m2 Tells)
        (its_pair : GivenTo hash u.keys went.w2.memory went.c2 went.blocks2 u.pair (change_observed V same hash asks setting slot went.told) p2 progress)
        (few : is_incremental setting.mode ≡ false → StayFew (with_at calls i (next_of (record { keys = u.keys; pair = u.pair; began = u.began; change = change_observed V same hash asks setting slot went.told; call = p2 }) progress)) went.c2) where
      abbrev pub change2 : Change
      change2 = change_observed V same hash asks setting slot went.told

      abbrev pub after : CallOnKey K V Q
      after = record { keys = u.keys; pair = u.pair; began = u.began; change = change2; call = p2 }

      abbrev pub blocks_then : Blocks
      blocks_then = moves.blocks_then same hash asks setting slot lawful w c blocks sights calls s i inside m2 Tells rests went (next_of after progress) few

      abbrev pub sights_then : ℕ → Visible
      sights_then = moves.sights_then same hash asks setting slot lawful w c blocks sights calls s i inside m2 Tells rests went (next_of after progress) few

      moments2 : Moments (is_incremental setting.mode) went.c2
      moments2 = moves.moments2 same hash asks setting slot lawful w c blocks sights calls s i inside m2 Tells rests went (next_of after progress) few

      pub remembers : Remembers (is_incremental setting.mode) c went.c2
      remembers = moves.remembers same hash asks setting slot lawful w c blocks sights calls s i inside m2 Tells rests went (next_of after progress) few

      lasts : Lasts same (spot_of hash) (is_incremental setting.mode) c went.c2
      lasts = moves.lasts same hash asks setting slot lawful w c blocks sights calls s i inside m2 Tells rests went (next_of after progress) few

      sees_then : IsMapIn same hash (in_slot setting (slot i)) went.w2 went.c2 (seen_by blocks_then (sights_then (slot i)))
      sees_then = moves.part2 same hash asks setting slot lawful w c blocks sights calls s i inside m2 Tells rests went (next_of after progress) few (slot i) i inside

      since_mine : Since hash went.c2 went.blocks2 u.keys u.began change2 p2.stands
      since_mine =
          since_told same hash asks setting slot i u w went.w2 c went.c2 (seen_by blocks (sights (slot i))) went.blocks2 p2 progress seen_map went.map s.ground.moments moments2 lasts remembers
          went.blocks_same went.moved knows.since went.told

      -- where it was told to remove what is not there, that was so
      none_mine : RemovesNone u.pair → SoSince hash went.c2 went.blocks2 u.keys u.began answers.Absent
      none_mine removes =
          so_since_on hash (is_incremental setting.mode) c went.c2 (seen_by blocks (sights (slot i))) went.blocks2 remembers lasts.stored lasts.keys went.blocks_same.pairs u.keys u.began answers.Absent (knows.none removes)

      abbrev Keeps : Type 0
      Keeps = KeepsGiven hash went.w2.memory went.c2 went.blocks2 u.keys u.pair change2 p2 p2.stands

      knows_mine : KnowsOfCall same hash asks (in_slot setting (slot i)) i went.w2 went.c2 went.blocks2 u.keys u.began change2 p2 → Keeps
          → Knows V same hash asks setting slot went.w2 went.c2 (seen_by blocks_then (sights_then (slot i))) i after p2
      knows_mine facts keeps =
          knows_on same hash asks setting slot lawful i went.w2 went.w2 went.c2 went.c2 went.blocks2 (seen_by blocks_then (sights_then (slot i))) went.map sees_then moments2 (moves.its_own same hash asks setting slot lawful w c blocks sights calls s i inside m2 Tells rests went (next_of after progress) few) (moves.same_few same hash asks setting slot lawful w c blocks sights calls s i inside m2 Tells rests went (next_of after progress) few) after p2
          (record { facts = facts; since = since_mine; pair = keeps; none = none_mine })

      goes_on : KnowsOfCall same hash asks (in_slot setting (slot i)) i went.w2 went.c2 went.blocks2 u.keys u.began change2 p2 → Keeps → Fits same hash asks setting slot went.w2 went.c2 blocks_then (sights_then (slot i)) i (Some (OnKey after))
      goes_on facts keeps =
          fits_some same hash asks setting slot went.w2 went.c2 blocks_then (sights_then (slot i)) i (OnKey after) (moves.inside_then same hash asks setting slot lawful w c blocks sights calls s i inside m2 Tells rests went (next_of after progress) few (slot i) inside)
          (inl (moves.row_same same hash asks setting slot lawful w c blocks sights calls s i inside m2 Tells rests went (next_of after progress) few i ∙ rests, knows_mine facts keeps))

      pub mine : (it : Called (Node K V)) → KnowsAfter same hash asks setting slot went.w2 went.c2 went.blocks2 i u change2 p2 it
          → GivenTo hash u.keys went.w2.memory went.c2 went.blocks2 u.pair change2 p2 it
          → Fits same hash asks setting slot went.w2 went.c2 blocks_then (sights_then (slot i)) i (next_of after it)
      mine called.Goes facts keeps = goes_on facts keeps
      mine called.Waits facts keeps = goes_on facts keeps
      mine (called.Gave value) facts keeps = absurd facts
      mine (called.Unstored value) facts keeps = goes_on facts keeps.0
      mine (called.Asks asked) facts keeps = goes_on facts keeps
      mine (called.Done answer) facts keeps = fits_none same hash asks setting slot went.w2 went.c2 blocks_then (sights_then (slot i)) i facts
      mine (called.Refused fault) facts keeps = fits_none same hash asks setting slot went.w2 went.c2 blocks_then (sights_then (slot i)) i facts

      -- what it answers
      pub answers_once : (answer : KeyAnswer) → progress ≡ called.Done answer → AnswersOnce V same hash asks setting slot went.w2 went.c2 went.blocks2 i u change2 answer
      answers_once answer done =
          answers_told same hash asks setting slot i u w went.w2 c went.c2 (seen_by blocks (sights (slot i))) went.blocks2 p2 progress seen_map went.map s.ground.moments moments2 lasts remembers
          went.blocks_same went.moved knows.since lawful.fits went.told answer done its_pair

      pub refuses_once : (fault : Fault) → progress ≡ called.Refused fault → RefusesOnce V same hash asks setting slot went.c2 went.blocks2 u change2 fault
      refuses_once fault refused =
          refuses_told same hash asks setting slot i u w went.w2 c went.c2 (seen_by blocks (sights (slot i))) went.blocks2 p2 progress went.told fault refused its_pair none_mine

      abbrev pub leads : StepsTogether V same hash asks setting slot w c blocks sights calls i u m2 p2 progress
      leads = record {
        went = went;
        inside = inside;
        remembers = remembers;
        blocks2 = blocks_then;
        grown = moves.grown_then same hash asks setting slot lawful w c blocks sights calls s i inside m2 Tells rests went (next_of after progress) few;
        sights2 = sights_then;
        together = moves.moves_together same hash asks setting slot lawful w c blocks sights calls s i inside m2 Tells rests went (next_of after progress) few
            (mine progress (after_told same hash asks setting slot i u w went.w2 c went.c2 (seen_by blocks (sights (slot i))) went.blocks2 p2 progress went.told) its_pair);
        answers = answers_once;
        refuses = refuses_once;
        hands = λ value handed. (subst (GivenTo hash u.keys went.w2.memory went.c2 went.blocks2 u.pair change2 p2) handed its_pair).1;
      }

  module _ (lawful : AreLawful same hash) (w : World (Node K V)) (c : Chart K) (blocks : Blocks) (sights : ℕ → Visible) (calls : ℕ → Option (UnderWay K V Q))
      (s : Stand w c blocks sights calls) (i : ℕ) (u : CallOnKey K V Q) (has : calls i ≡ Some (OnKey u)) (none : IsRowOfCall u.call.stands → ⊥)
      (rests : w.row i ≡ Rests) (knows : Knows V same hash asks setting slot w c (seen_by blocks (sights (slot i))) i u u.call)
      (m2 : Mem (Node K V)) (p2 : KeyCall K V Q) (progress : Called (Node K V)) (may : May Can Took value_at w.memory (call_plan asks same hash u.call))
      (steps : Steps Took value_at w.memory (call_plan asks same hash u.call) m2 (p2, progress)) where
    abbrev ToldSo : World (Node K V) → Chart K → Blocks → Type 0
    ToldSo = StepOutcome V same hash asks setting slot c i u p2 progress

    abbrev pub ComesTo : Type 0
    ComesTo = StepSpec same hash (in_slot setting (slot i)) i w c (seen_by blocks (sights (slot i))) m2 (StepOutcome V same hash asks setting slot c i u p2 progress)

    its_map : IsMapIn same hash (in_slot setting (slot i)) w c (seen_by blocks (sights (slot i)))
    its_map = seen_map lawful w c blocks sights calls s i u has m2 p2 progress

    abbrev after_by : ComesTo → CallOnKey K V Q
    after_by went = record { keys = u.keys; pair = u.pair; began = u.began; change = change_observed V same hash asks setting slot went.told; call = p2 }

    -- what it does by its kind
    rooms : RoomsAt u.call.stands
    rooms =
        let fit = fit_of hash u.keys w.memory c (seen_by blocks (sights (slot i))) u.pair u.change u.call u.call.stands knows.pair in
        rooms_at (kind_of u.pair).present (kind_of u.pair).absent (kind_of u.pair).takes u.call.stands fit.4

    fits_on : (m : Mem (Node K V)) → Steps Took value_at w.memory (call_plan asks same hash u.call) m (p2, progress) → (kind : Kind) → IsOfKind kind u.call u.call.stands
        → StepFits kind.present kind.absent kind.takes (p2, progress)
    fits_on m then kind fit = calls_keep_their_kind asks same hash kind.present kind.absent kind.takes u.call fit w.memory m (p2, progress) then

    -- after it calls are few as before
    pub stay_few : (went : ComesTo) → is_incremental setting.mode ≡ false
        → StayFew (with_at calls i (next_of (record { keys = u.keys; pair = u.pair; began = u.began; change = change_observed V same hash asks setting slot went.told; call = p2 }) progress)) went.c2
    stay_few went blocking =
        few_step calls i (OnKey u) has (next_of (after_by went) progress) c went.c2 (s.few blocking) (wrote_before asks same hash u.call w.memory m2 (p2, progress) steps (after_by went) refl) same hash setting.mode i s.ground.map.map.rule went.moved
        (λ t. IsToClaim t p2.stands) (λ v is t claims. subst (ClaimsInto t) (next_is (after_by went) progress v is) claims)
        (claims_by same hash asks w i (in_slot setting (slot i)) c (seen_by blocks (sights (slot i))) blocking its_map u.keys u.began u.change u.call knows.facts none m2 ToldSo went
        (beside_told same hash asks setting slot i u w went.w2 c went.c2 (seen_by blocks (sights (slot i))) went.blocks2 p2 progress went.told) p2 progress may steps)

    -- in its table
    module _ (facts : CallFacts same hash asks w i (in_slot setting (slot i)) c (seen_by blocks (sights (slot i))) u.keys u.change u.call)
        (fresh : StepSpec same hash (in_slot setting (slot i)) i w c (seen_by blocks (sights (slot i))) m2 (λ w2 c2 blocks2. CallOutcome same hash asks i (in_slot setting (slot i)) u.keys c u.change u.call w2 c2 blocks2 p2 progress)) where
      abbrev pub fresh_went : ComesTo
      fresh_went = went_as same hash (in_slot setting (slot i)) i w c (seen_by blocks (sights (slot i))) m2 _ ToldSo (λ w2 c2 blocks2 map moved blocks_same told. Fresh told) fresh

      fresh_lasts : Lasts same (spot_of hash) (is_incremental setting.mode) c fresh.c2
      fresh_lasts = lasts_went same hash (in_slot setting (slot i)) lawful i w c (seen_by blocks (sights (slot i))) its_map s.ground.moments m2 _ fresh

      fresh_then : Steps Took value_at w.memory (call_plan asks same hash u.call) fresh.w2.memory (p2, progress)
      fresh_then = subst (λ (m : Mem (Node K V)). Steps Took value_at w.memory (call_plan asks same hash u.call) m (p2, progress)) (sym fresh.memory) steps

      fresh_frame : IsFramed (in_slot setting (slot i)) i w c (seen_by blocks (sights (slot i))) fresh.w2.memory
      fresh_frame = subst (IsFramed (in_slot setting (slot i)) i w c (seen_by blocks (sights (slot i)))) (sym fresh.memory) fresh.frame

      fresh_stays : Stays w.memory fresh.w2.memory c fresh.c2 (seen_by blocks (sights (slot i))) fresh.blocks2
      fresh_stays = step_stays same hash (in_slot setting (slot i)) i w fresh.w2 c fresh.c2 (seen_by blocks (sights (slot i))) fresh.blocks2 its_map fresh.blocks_same fresh_lasts.stored fresh_lasts.keys fresh_frame

      fresh_looks : u.change ≡ Unchanged → (answer : KeyAnswer) → HasAnswered answer u.call.stands → IsLook answer
      fresh_looks unchanged answer is = looks_so hash c (seen_by blocks (sights (slot i))) u.keys u.began answer (knows.since.answered unchanged answer is)

      pub fresh_pair : GivenTo hash u.keys fresh.w2.memory fresh.c2 fresh.blocks2 u.pair fresh.told.change2 p2 progress
      fresh_pair = given_to hash u.keys w.memory fresh.w2.memory c fresh.c2 (seen_by blocks (sights (slot i))) fresh.blocks2 u.pair u.change fresh.told.change2 u.call p2 progress
          (λ never. never_asks_on same hash asks w i (in_slot setting (slot i)) c (seen_by blocks (sights (slot i))) u.keys u.change u.call facts never fresh.w2.memory (p2, progress) may fresh_then)
          (λ pair never keeps. keeps_after same hash (in_slot setting (slot i)) i asks w fresh.w2 c fresh.c2 (seen_by blocks (sights (slot i))) fresh.blocks2 its_map fresh.map fresh.blocks_same fresh_lasts.stored
          fresh_frame lawful.fits u.keys pair u.change u.call p2 progress fresh.told facts none may fresh_then never keeps
          fresh_looks)
          (λ its asked keeps. (
            told_after same hash (in_slot setting (slot i)) i asks w fresh.w2 c fresh.c2 (seen_by blocks (sights (slot i))) fresh.blocks2 its_map fresh.map fresh_stays
                lawful.fits u.keys its asked u.change u.call p2 progress fresh.told facts none may fresh_then rooms keeps.0 fresh_looks,
            once_to hash c fresh.c2 (seen_by blocks (sights (slot i))) fresh.blocks2 u.keys asked its u.call.replies u.call.stands p2 progress
                (λ key. once_after same hash (in_slot setting (slot i)) i asks w fresh.w2 c fresh.c2 (seen_by blocks (sights (slot i))) fresh.blocks2 its_map fresh.map fresh_stays
                (others_step same hash (in_slot setting (slot i)) lawful i w c (seen_by blocks (sights (slot i))) its_map s.ground.moments m2 _ fresh (suc i) (λ e. omega (arith, e))).leaves.gone
                lawful.lawful lawful.fits u.keys its asked key u.change u.call p2 progress fresh.told facts none may fresh_then rooms keeps.0) keeps.1,
          )) (fits_on fresh.w2.memory fresh_then) knows.pair

      abbrev pub fresh_leads : StepsTogether V same hash asks setting slot w c blocks sights calls i u m2 p2 progress
      fresh_leads = leads lawful w c blocks sights calls s i u has m2 p2 progress rests knows fresh_went fresh_pair (stay_few fresh_went)

    -- in one that the root has left
    late_leads : is_incremental setting.mode ≡ false → u.change ≡ Unchanged → SupersededCallFacts same hash asks w i (in_slot setting (slot i)) c (seen_by blocks (sights (slot i))) u.keys u.began u.call
        → StepSpec same hash (in_slot setting (slot i)) i w c (seen_by blocks (sights (slot i))) m2 (λ w2 c2 blocks2. SupersededCallOutcome same hash asks i (in_slot setting (slot i)) u.keys u.began c u.call w2 c2 blocks2 p2 progress)
        → StepsTogether V same hash asks setting slot w c blocks sights calls i u m2 p2 progress
    late_leads blocking unchanged facts late = leads lawful w c blocks sights calls s i u has m2 p2 progress rests knows went its_pair (stay_few went)
      where
        went : ComesTo
        went = went_as same hash (in_slot setting (slot i)) i w c (seen_by blocks (sights (slot i))) m2 _ ToldSo (λ w2 c2 blocks2 map moved blocks_same told. Late blocking unchanged told) late

        lasts : Lasts same (spot_of hash) (is_incremental setting.mode) c late.c2
        lasts = lasts_went same hash (in_slot setting (slot i)) lawful i w c (seen_by blocks (sights (slot i))) its_map s.ground.moments m2 _ late

        then : Steps Took value_at w.memory (call_plan asks same hash u.call) late.w2.memory (p2, progress)
        then = subst (λ (m : Mem (Node K V)). Steps Took value_at w.memory (call_plan asks same hash u.call) m (p2, progress)) (sym late.memory) steps

        stays : Stays w.memory late.w2.memory c late.c2 (seen_by blocks (sights (slot i))) late.blocks2
        stays = step_stays same hash (in_slot setting (slot i)) i w late.w2 c late.c2 (seen_by blocks (sights (slot i))) late.blocks2 its_map late.blocks_same lasts.stored lasts.keys
            (subst (IsFramed (in_slot setting (slot i)) i w c (seen_by blocks (sights (slot i)))) (sym late.memory) late.frame)

        its_pair : GivenTo hash u.keys late.w2.memory late.c2 late.blocks2 u.pair Unchanged p2 progress
        its_pair = given_to hash u.keys w.memory late.w2.memory c late.c2 (seen_by blocks (sights (slot i))) late.blocks2 u.pair u.change Unchanged u.call p2 progress
            (λ never. late_never_asks_on same hash asks w i (in_slot setting (slot i)) c (seen_by blocks (sights (slot i))) u.keys u.began u.call facts never none late.w2.memory (p2, progress) may then)
            (λ pair never keeps. late_keeps_after same hash (in_slot setting (slot i)) i asks w late.w2 c late.c2 (seen_by blocks (sights (slot i))) late.blocks2 u.keys u.began pair u.call p2 progress facts late.told.facts none may
            then never (subst (λ (x : Change). KeepsIt w.memory c (seen_by blocks (sights (slot i))) pair x u.call u.call.stands) unchanged keeps))
            (λ its asked keeps. let was = subst (λ (x : Change). RemembersReplies hash w.memory c (seen_by blocks (sights (slot i))) its asked x u.call u.call.stands) unchanged keeps.0 in (
              late_told_after same hash (in_slot setting (slot i)) i asks w late.w2 c late.c2 (seen_by blocks (sights (slot i))) late.blocks2 its_map late.map stays
                  lawful.fits u.keys u.began its asked u.call p2 progress facts late.told.facts none may then rooms was,
              once_to hash c late.c2 (seen_by blocks (sights (slot i))) late.blocks2 u.keys asked its u.call.replies u.call.stands p2 progress
                  (λ key. late_once_after same hash (in_slot setting (slot i)) i asks w late.w2 c late.c2 (seen_by blocks (sights (slot i))) late.blocks2 its_map stays
                  (others_step same hash (in_slot setting (slot i)) lawful i w c (seen_by blocks (sights (slot i))) its_map s.ground.moments m2 _ late (suc i) (λ e. omega (arith, e))).leaves.gone
                  lawful.fits u.keys u.began its asked key u.call p2 progress facts late.told.facts then rooms was) keeps.1,
            )) (fits_on late.w2.memory then) knows.pair

  pub stand_together : CallsPreserveTheInvariant V same hash asks setting slot
  stand_together lawful initial w c blocks sights calls s i u has none = by (s.stand i (OnKey u) has)
    where
      Comes : Type 0
      Comes =
          May Can Took value_at w.memory (call_plan asks same hash u.call)
          × ((m2 : Mem (Node K V)) (p2 : KeyCall K V Q) (progress : Called (Node K V)) → Steps Took value_at w.memory (call_plan asks same hash u.call) m2 (p2, progress)
          → StepsTogether V same hash asks setting slot w c blocks sights calls i u m2 p2 progress)

      map : IsMapIn same hash (in_slot setting (slot i)) w c (seen_by blocks (sights (slot i)))
      map = seen_map lawful w c blocks sights calls s i u has w.memory u.call called.Goes

      by_facts : w.row i ≡ Rests → (knows : Knows V same hash asks setting slot w c (seen_by blocks (sights (slot i))) i u u.call)
          → KnowsOfCall same hash asks (in_slot setting (slot i)) i w c (seen_by blocks (sights (slot i))) u.keys u.began u.change u.call → Comes
      by_facts rests knows (inl fresh) =
          let keeps = calls_keep_the_map V same hash asks lawful (in_slot setting (slot i)) initial w i c (seen_by blocks (sights (slot i))) u.keys u.change u.call map fresh none in
          (keeps.0, λ m2 p2 progress steps. fresh_leads lawful w c blocks sights calls s i u has none rests knows m2 p2 progress keeps.0 steps fresh (keeps.1 m2 p2 progress steps))
      by_facts rests knows (inr (unchanged, late)) =
          let keeps = late_calls_keep_the_map V same hash asks (late_copiers_keep_the_map same hash) lawful (in_slot setting (slot i)) initial w i c (seen_by blocks (sights (slot i))) u.keys u.began u.call map s.ground.moments
          (λ t made. claim_few calls c (s.few late.blocking) t made) late none in
          (keeps.0, λ m2 p2 progress steps. late_leads lawful w c blocks sights calls s i u has none rests knows m2 p2 progress keeps.0 steps late.blocking unchanged late (keeps.1 m2 p2 progress steps))

      by : IsAtPoint V same hash asks setting slot w c (seen_by blocks (sights (slot i))) i (OnKey u) → Comes
      by (inl (rests, knows)) = by_facts rests knows knows.facts
      by (inr (row, is_row, k)) = absurd (none is_row)
