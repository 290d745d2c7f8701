-- A step of a row within a call that is alone: it does not wait, and the call is alone still, or the owner rests.
use Rattle.std.specs.Prelude.{◌≡◌, ◌≢◌, ℕ, ◌<◌, Bool, Option, Some, None}
use Rattle.std.proofs.Common.{true, inl, inr, refl, ap, sym, subst, ◌∙◌}
use Rattle.std.proofs.lemmas.Bool.{cases_eq}
use Rattle.seize_words.specs.OneMemory.Mem.{Mem, Can, Took, value_at}
use Rattle.seize_words.specs.OneMemory.Plan.{May, Steps}
use Rattle.seize.specs.declared.advance.Advance.{Advance}
use Rattle.seize.specs.declared.advance.Advance.TheVariants as deferred
use Rattle.seize.specs.declared.rows.defer.Defer.{Defer}
use Rattle.seize.specs.declared.rows.settle.Settle.{Settle}
use Rattle.seize.specs.declared.rows.settle.Settled.{Settled}
use Rattle.seize.specs.declared.rows.settle.Settled.TheVariants as settled
use Rattle.seize.specs.Defer.{defer_plan}
use Rattle.seize.specs.Settle.{settle_plan}
use Rattle.seize.specs.World.{World, Rests, Settles, Defers, IsInside, with_at}
use Rattle.map_measures.proofs.Given.SeizeAloneHistories.NotTaken.{IsKept, IsHeld, kept_value}
use Rattle.map_measures.proofs.Given.SeizeAloneHistories.Uses.{inside_kept}
use Rattle.map_measures.proofs.Given.SeizeEndsSettling.Most.{is_going}
use Rattle.map_measures.proofs.Given.SeizeRuleRows.Others.{steps_others}
use Rattle.map_tables.specs.Chunks.{is_incremental}
use Rattle.map_tables.specs.Nodes.{deferred_word}
use Rattle.map_tables.specs.declared.node.Node.{Node}
use Rattle.map_tables.specs.declared.setting.Setting.{Setting}
use Rattle.papaya_raw.specs.Call.{call_plan}
use Rattle.papaya_raw.specs.declared.machines.answer.KeyAnswer.{KeyAnswer}
use Rattle.papaya_raw.specs.declared.machines.answer.Called.{Called}
use Rattle.papaya_raw.specs.declared.machines.answer.Called.TheVariants as called
use Rattle.papaya_raw.specs.declared.machines.call.KeyCall.{KeyCall}
use Rattle.map_measures.specs.Given.RuleChart.{Chart}
use Rattle.map_measures.specs.Given.RuleInWorld.{IsMapIn}
use Rattle.map_measures.specs.Given.RuleWords.{Blocks}
use Rattle.owner_facts.specs.Given.PointsSteps.{AreLawful}
use Rattle.owner_facts.specs.Given.PointsTold.{IsRowOfCall}
use Rattle.owner_facts.specs.Alone.FactsAloneCalls.{TablesAlone, AloneAtPoint, IsLone}
use Rattle.owner_facts.specs.Given.LateLateCalls.{SupersededCallFacts}
use Rattle.owner_facts.specs.Given.CallersKept.{IsKeptBy}
use Rattle.map_measures.specs.Given.CallersRows.{past_row, once_over}
use Rattle.owner_facts.specs.Given.CallersSights.{Visible, seen_by}
use Rattle.owner_facts.specs.Given.CallersTogether.{UnderWay, CallOnKey, OnKey, IsWriter, next_of, in_slot, IsAtPoint}
use Rattle.owner_facts.proofs.Given.CallersTogether.At.{at_other, at_same}
use Rattle.map_measures.proofs.Given.CallersRows.Keep.{kept_block}
use Rattle.owner_facts.proofs.Given.CallersSights.Seen.{map_seen}
use Rattle.owner_facts.proofs.Given.CallersTogether.Came.{came_reached}
use Rattle.owner_facts.proofs.Given.CallersTogether.FactsOn.{KnowsOfCall}
use Rattle.owner_facts.proofs.Given.CallersTogether.Few.{row_writes}
use Rattle.owner_facts.proofs.Given.CallersTogether.Fits.{map_in_slot}
use Rattle.owner_facts.proofs.Given.CallersTogether.WithinRows as rows
use Rattle.owner_facts.specs.Alone.Counted.{HasAdded, counted_for, counted_at}
use Rattle.seize_words.specs.declared.fault.Fault.{Fault}
use Rattle.papaya_raw.specs.declared.machines.call.Calling.{Calling}
use Rattle.papaya_raw.specs.declared.machines.call.Calling.TheVariants as at
use Rattle.owner_whole.proofs.Whole.Rows.Shards.{row_shards}
use Rattle.owner_whole.specs.Whole.Contents.{KeepsPairs}
use Rattle.owner_whole.proofs.Whole.Contents.Runs.{row_keeps, run_on}
use Rattle.owner_whole.specs.Whole.Owner.{IsFirst, IsOfRoot, IsQuiescent, IsAlone}
use Rattle.owner_whole.specs.Whole.Whole.{then_so, Leads, StepLeads}
use Rattle.owner_whole.proofs.Whole.Limits.Keys.{row_call_ends}
use Rattle.owner_whole.proofs.Whole.Rows.Account.{told_by, Still, Account, Settling, Deferring, Over, Ends, account}
use Rattle.owner_whole.proofs.Whole.Rows.Settles.{never_waits, deferring_lowers}
use Rattle.owner_whole.proofs.Whole.Rows.Standing.{never_late_at, never_late_past}
use Rattle.owner_whole.proofs.Whole.Rows.Within.{IsWithinRow, within_row}

-- what an answer has counted
abbrev counted_by : {T : Type 0} → Called T → ℕ
counted_by (called.Done answer) = counted_for answer
counted_by _ = 0

module _ {K V Q : Type 0} (same : K → K → Bool) (hash : K → ℕ) (asks : Q → K → Bool) (setting : Setting) (slot : ℕ → ℕ) (lawful : AreLawful same hash)
    (w : World (Node K V)) (c : Chart K) (blocks : Blocks) (sights : ℕ → Visible) (u : CallOnKey K V Q) (a : IsAlone same hash asks setting slot w c blocks sights (OnKey u))
    (is_row : IsRowOfCall u.call.stands) where
  abbrev pub here : Setting
  here = in_slot setting (slot 0)

  abbrev pub seen : Blocks
  seen = seen_by blocks (sights (slot 0))

  pub now : IsWithinRow same hash asks setting slot lawful w c blocks sights u a is_row
  now = within_row same hash asks setting slot lawful w c blocks sights u a is_row

  pub inside : IsInside (now.v.uses (slot 0))
  inside = now.together.inside 0 (OnKey u) a.has

  pub its : IsWriter a.calls 0
  its = (OnKey u, a.has, row_writes u.call.stands is_row)

  leads_on : rows.Leads same hash asks setting slot lawful now.v c blocks sights a.calls now.together 0 u inside its u.call.stands
  leads_on = rows.within_row same hash asks setting slot lawful now.v c blocks sights a.calls now.together 0 u inside its u.call.stands is_row now.row_is now.knows

  pub row_may : May Can Took value_at w.memory (call_plan asks same hash u.call)
  row_may = subst (λ (m : Mem (Node K V)). May Can Took value_at m (call_plan asks same hash u.call)) now.memory leads_on.0

  module _ (m2 : Mem (Node K V)) (p2 : KeyCall K V Q) (progress : Called (Node K V)) (steps : Steps Took value_at w.memory (call_plan asks same hash u.call) m2 (p2, progress)) where
    pub steps_now : Steps Took value_at now.v.memory (call_plan asks same hash u.call) m2 (p2, progress)
    steps_now = subst (λ (m : Mem (Node K V)). Steps Took value_at m (call_plan asks same hash u.call) m2 (p2, progress)) (sym now.memory) steps

    pub led : rows.Led same hash asks setting slot lawful now.v c blocks sights a.calls now.together 0 u inside its m2 (p2, progress)
    led = leads_on.1 m2 (p2, progress) steps_now

    abbrev pub after : CallOnKey K V Q
    after = then_so u u.change p2

    abbrev calls2 : ℕ → Option (UnderWay K V Q)
    calls2 = with_at a.calls 0 (next_of after progress)

    row_other : (i : ℕ) → i ≢ 0 → led.w2.row i ≡ Rests
    row_other i other = steps_others deferred_word setting.batch_size now.v led.w2 0 i other (now.v.row 0) led.happened ∙ now.rows i other

    -- it goes on: alone, and not late
    goes_on : IsLone (is_incremental setting.mode) 0 c p2.stands
        → ((x : IsAtPoint V same hash asks setting slot led.w2 c seen 0 (OnKey after)) → IsOfRoot same hash asks setting slot led.w2 c seen (OnKey after) x)
        → next_of after progress ≡ Some (OnKey after) → IsAlone same hash asks setting slot led.w2 c blocks sights (OnKey after)
    goes_on alone of_root goes =
        let has2 : calls2 0 ≡ Some (OnKey after) = at_same a.calls 0 (next_of after progress) 0 refl ∙ goes in
        record {
          calls = calls2;
          has = has2;
          others = λ i other. at_other a.calls 0 (next_of after progress) i other ∙ a.others i other;
          together = led.together;
          rows = row_other;
          lone = alone;
          inside = led.together.inside 0 (OnKey after) has2;
          of_root = of_root (led.together.stand 0 (OnKey after) has2);
        }

    -- within the row still
    still_first : (s : Still same hash asks (slot 0) u.call now.v.memory m2 p2) → (x : KnowsOfCall same hash asks here 0 led.w2 c seen u.keys u.began u.change (once_over p2)) → IsFirst x
    still_first s (inl facts) = tt
    still_first s (inr (none, late)) =
        never_late_past same hash asks here led.w2 0 c seen u.keys u.change (once_over p2) u.began p2.stands s.is_row (s.target c.first now.target) late.point

    still_at : (s : Still same hash asks (slot 0) u.call now.v.memory m2 p2) → (x : KnowsOfCall same hash asks here 0 led.w2 c seen u.keys u.began u.change p2) → IsFirst x
    still_at s (inl facts) = tt
    still_at s (inr (none, late)) = never_late_at same hash asks here led.w2 0 c seen u.keys u.change p2 u.began p2.stands s.is_row (s.target c.first now.target) late.point

    still_of_root : Still same hash asks (slot 0) u.call now.v.memory m2 p2
        → (x : IsAtPoint V same hash asks setting slot led.w2 c seen 0 (OnKey after)) → IsOfRoot same hash asks setting slot led.w2 c seen (OnKey after) x
    still_of_root s (inl (rests, knows)) = still_at s knows.facts
    still_of_root s (inr (row, at_row, knows)) = still_first s knows.facts

    still_lone : Still same hash asks (slot 0) u.call now.v.memory m2 p2 → IsLone (is_incremental setting.mode) 0 c p2.stands
    still_lone s = record { idle = a.lone.idle; point = s.alone (is_incremental setting.mode) c a.lone.point }

    still_alone : Still same hash asks (slot 0) u.call now.v.memory m2 p2 → next_of after progress ≡ Some (OnKey after) → IsAlone same hash asks setting slot led.w2 c blocks sights (OnKey after)
    still_alone s goes = goes_on (still_lone s) (still_of_root s) goes

    -- the row is over
    over_first : p2 ≡ once_over u.call → (x : KnowsOfCall same hash asks here 0 led.w2 c seen u.keys u.began u.change p2) → IsFirst x
    over_first past (inl facts) = tt
    over_first past (inr (none, late)) =
        never_late_past same hash asks here led.w2 0 c seen u.keys u.change (once_over u.call) u.began u.call.stands is_row now.target
        (subst (λ (q : KeyCall K V Q). SupersededCallFacts same hash asks led.w2 0 here c seen u.keys u.began q) past late).point

    over_of_root : (IsRowOfCall p2.stands → ⊥) → p2 ≡ once_over u.call
        → (x : IsAtPoint V same hash asks setting slot led.w2 c seen 0 (OnKey after)) → IsOfRoot same hash asks setting slot led.w2 c seen (OnKey after) x
    over_of_root none past (inl (rests, knows)) = over_first past knows.facts
    over_of_root none past (inr (row, at_row, knows)) = absurd (none at_row)

    abbrev LeadsSo : Called (Node K V) → Type 0
    LeadsSo x = Leads same hash asks setting slot w led.w2 c blocks sights after x

    as_told : (x : Called (Node K V)) → progress ≡ x → LeadsSo x → LeadsSo progress
    as_told x is h = subst LeadsSo (sym is) h

    settling_leads : (x y : Settle) (o : Settled (Node K V)) → now.v.row 0 ≡ Settles x → Steps Took value_at now.v.memory (settle_plan deferred_word x) m2 (y, o) → is_going o ≡ true → progress ≡ told_by o
        → Still same hash asks (slot 0) u.call now.v.memory m2 p2 → LeadsSo progress
    settling_leads x y settled.Goes row st going is s = as_told called.Goes is (still_alone s (ap (next_of after) is))
    settling_leads x y settled.Waits row st going is s = absurd (never_waits setting.batch_size now.v now.together.ground.came 0 now.rows x row m2 y st)
    settling_leads x y (settled.Gave value) row st going is s =
        as_told (called.Gave value) is (still_alone s (ap (next_of after) is), now.reclaims led.w2 value (led.gives value is))
    settling_leads x y settled.Done row st going is s = absurd (cc going)

    -- a deferral goes on
    deferring_leads : (x y : Defer) (o : Advance Unit) → now.v.row 0 ≡ Defers (slot 0) x → Steps Took value_at now.v.memory (defer_plan x) m2 (y, o) → o ≢ deferred.Done tt
        → (o ≡ deferred.Goes → progress ≡ called.Goes) → Still same hash asks (slot 0) u.call now.v.memory m2 p2 → LeadsSo progress
    deferring_leads x y o row st more goes s = elim (deferring_lowers setting.batch_size now.v now.together.ground.came 0 now.rows (slot 0) x row m2 (y, o) st) as (λ _. LeadsSo progress) [
      | inl on ↦ as_told called.Goes (goes on.0) (still_alone s (ap (next_of after) (goes on.0)))
      | inr done ↦ absurd (more done)
    ]

    inside_then : IsInside (led.w2.uses (slot 0))
    inside_then = inside_kept deferred_word setting.batch_size now.v (came_reached setting.batch_size now.v now.together.ground.came) 0 led.w2 led.happened (slot 0) inside

    ended : (is : next_of after progress ≡ None) → (IsRowOfCall p2.stands → ⊥) → ((incremental : Bool) (x : Chart K) → AloneAtPoint incremental x u.call.stands → TablesAlone incremental x)
        → IsQuiescent {Q = Q} same hash asks setting slot led.w2 c blocks sights
    ended is none tables = record {
      calls = calls2;
      none = λ i. elim (cases_eq i 0) as (λ _. calls2 i ≡ None) [
        | inl e ↦ at_same a.calls 0 (next_of after progress) i e ∙ is
        | inr other ↦ at_other a.calls 0 (next_of after progress) i other ∙ a.others i other
      ];
      together = led.together;
      rows = λ i. elim (cases_eq i 0) as (λ _. led.w2.row i ≡ Rests) [
        | inl e ↦ ap led.w2.row e ∙ led.over none
        | inr other ↦ row_other i other
      ];
      inside = inside_then;
      alone = record { idle = a.lone.idle; tables = tables (is_incremental setting.mode) c a.lone.point };
    }

    map_then : IsMapIn same hash here led.w2 c seen
    map_then = map_seen same hash here led.w2 c blocks (sights (slot 0)) (map_in_slot same hash setting led.w2 c blocks (slot 0) led.together.ground.map) (led.together.ground.sight (slot 0) inside_then).0

    pub by_account : (end : KeyCall K V Q × Called (Node K V)) → end ≡ (p2, progress) → Account same hash asks (slot 0) u.call now.v.memory m2 end → LeadsSo progress
    by_account end is (Settling x y o _ row st going tells row2 s) =
        settling_leads x y o (now.row_is ∙ row) st going (sym (ap (λ (e : KeyCall K V Q × Called (Node K V)). e.1) is) ∙ tells)
        (subst (λ (q : KeyCall K V Q). Still same hash asks (slot 0) u.call now.v.memory m2 q) (ap (λ (e : KeyCall K V Q × Called (Node K V)). e.0) is) s)
    by_account end is (Deferring x y o _ row st more goes row2 s) =
        deferring_leads x y o (now.row_is ∙ row) st more (λ e. sym (ap (λ (e : KeyCall K V Q × Called (Node K V)). e.1) is) ∙ goes e)
        (subst (λ (q : KeyCall K V Q). Still same hash asks (slot 0) u.call now.v.memory m2 q) (ap (λ (e : KeyCall K V Q × Called (Node K V)). e.0) is) s)
    by_account end is (Over _ tells none past alone) =
        let e = ap (λ (e : KeyCall K V Q × Called (Node K V)). e.0) is in
        let goes = sym (ap (λ (e : KeyCall K V Q × Called (Node K V)). e.1) is) ∙ tells in
        as_told called.Goes goes
        (goes_on (record { idle = a.lone.idle; point = subst (λ (q : KeyCall K V Q). AloneAtPoint (is_incremental setting.mode) c q.stands) e (alone (is_incremental setting.mode) c a.lone.point) })
        (over_of_root (subst (λ (q : KeyCall K V Q). IsRowOfCall q.stands → ⊥) e none) (sym e ∙ past)) (ap (next_of after) goes))
    by_account end is (Ends answer _ tells none same_count tables) =
        let e = ap (λ (e : KeyCall K V Q × Called (Node K V)). e.0) is in
        let done = sym (ap (λ (e : KeyCall K V Q × Called (Node K V)). e.1) is) ∙ tells in
        as_told (called.Done answer) done (ended (ap (next_of after) done) (subst (λ (q : KeyCall K V Q). IsRowOfCall q.stands → ⊥) e none) tables, seen, map_then, (λ o low known. refl), led.answers answer done)

    -- a row keeps the pairs of the map
    pub row_kept : KeepsPairs w.memory c blocks led.w2.memory c blocks
    row_kept =
        subst (λ (m : Mem (Node K V)). KeepsPairs m c blocks led.w2.memory c blocks) now.memory
        (row_keeps same hash lawful setting now.v c blocks now.together.ground.map now.together.ground.came 0 led.w2 led.happened)

    -- and all that can be looked at
    is_kept : (b : ℕ) → IsKeptBy now.v b → IsKept b now.v
    is_kept b (inl kept) = kept_block now.v b kept
    is_kept b (inr (s, in_it, held)) = IsHeld s held

    pub row_looks : (o : ℕ) → o < c.stored → blocks.pair_known o ≡ true → value_at led.w2.memory (blocks.pair o) ≡ value_at w.memory (blocks.pair o)
    row_looks o low known =
        kept_value deferred_word setting.batch_size now.v (came_reached setting.batch_size now.v now.together.ground.came) 0 led.w2 led.happened (blocks.pair o)
        (is_kept (blocks.pair o) (now.together.ground.kept.pairs o low known)) ∙ ap (λ (m : Mem (Node K V)). value_at m (blocks.pair o)) now.memory

    -- and the call has counted by it what it had
    count_past : (x : Calling) → counted_at (past_row x) ≡ counted_at x
    count_past (at.Disposes d answer) = refl
    count_past (at.Helps copier goal) = refl
    count_past (at.Copies copier) = refl
    count_past _ = refl

    count_still : (q : KeyCall K V Q) → once_over q ≡ once_over u.call → counted_at q.stands ≡ counted_at u.call.stands
    count_still q past = sym (count_past q.stands) ∙ ap (λ (x : KeyCall K V Q). counted_at x.stands) past ∙ count_past u.call.stands

    count_account : (end : KeyCall K V Q × Called (Node K V)) → Account same hash asks (slot 0) u.call now.v.memory m2 end → counted_at end.0.stands ≡ counted_at u.call.stands
    count_account end (Settling x y o _ row st going tells row2 s) = count_still end.0 s.past
    count_account end (Deferring x y o _ row st more goes row2 s) = count_still end.0 s.past
    count_account end (Over _ tells none past alone) = ap (λ (x : KeyCall K V Q). counted_at x.stands) past ∙ count_past u.call.stands
    count_account end (Ends answer _ tells none same_count tables) = same_count.0

    refused_account : (end : KeyCall K V Q × Called (Node K V)) → Account same hash asks (slot 0) u.call now.v.memory m2 end → (fault : Fault) → end.1 ≡ called.Refused fault → ⊥
    refused_account end (Settling x y settled.Goes _ row st going tells row2 s) fault is = absurd (cc (tells, is))
    refused_account end (Settling x y settled.Waits _ row st going tells row2 s) fault is = absurd (cc (tells, is))
    refused_account end (Settling x y (settled.Gave value) _ row st going tells row2 s) fault is = absurd (cc (tells, is))
    refused_account end (Settling x y settled.Done _ row st going tells row2 s) fault is = absurd (cc going)
    refused_account end (Deferring x y o _ row st more goes row2 s) fault is =
        elim (deferring_lowers setting.batch_size now.v now.together.ground.came 0 now.rows (slot 0) x (now.row_is ∙ row) m2 (y, o) st) as (λ _. ⊥) [
          | inl on ↦ (let e = goes on.0 in cc (e, is))
          | inr done ↦ more done
        ]
    refused_account end (Over _ tells none past alone) fault is = absurd (cc (tells, is))
    refused_account end (Ends answer _ tells none same_count tables) fault is = absurd (cc (tells, is))

    answered_account : (end : KeyCall K V Q × Called (Node K V)) → Account same hash asks (slot 0) u.call now.v.memory m2 end → (answer : KeyAnswer) → end.1 ≡ called.Done answer → counted_at end.0.stands ≡ counted_for answer
    answered_account end (Settling x y settled.Goes _ row st going tells row2 s) answer is = absurd (cc (tells, is))
    answered_account end (Settling x y settled.Waits _ row st going tells row2 s) answer is = absurd (cc (tells, is))
    answered_account end (Settling x y (settled.Gave value) _ row st going tells row2 s) answer is = absurd (cc (tells, is))
    answered_account end (Settling x y settled.Done _ row st going tells row2 s) answer is = absurd (cc going)
    answered_account end (Deferring x y o _ row st more goes row2 s) answer is =
        elim (deferring_lowers setting.batch_size now.v now.together.ground.came 0 now.rows (slot 0) x (now.row_is ∙ row) m2 (y, o) st) as (λ _. counted_at end.0.stands ≡ counted_for answer) [
          | inl on ↦ (let e = goes on.0 in absurd (cc (e, is)))
          | inr done ↦ absurd (more done)
        ]
    answered_account end (Over _ tells none past alone) answer is = absurd (cc (tells, is))
    answered_account end (Ends one _ tells none same_count tables) answer is = same_count.1 ∙ ap counted_by (sym tells ∙ is)

    its_account : Account same hash asks (slot 0) u.call now.v.memory m2 (p2, progress)
    its_account = account same hash asks (slot 0) u.call now.v.memory m2 is_row (p2, progress) steps_now

    pub row_counts : (m0 : Mem (Node K V)) → HasAdded setting m0 (counted_at u.call.stands) w.memory → HasAdded setting m0 (counted_at p2.stands) led.w2.memory
    row_counts m0 had =
        subst (λ (n : ℕ). HasAdded setting m0 n led.w2.memory) (sym (count_account (p2, progress) its_account))
        (row_shards same hash setting now.v c blocks now.together.ground.map now.together.ground.came now.together.ground.counter 0 led.w2 led.happened m0 (counted_at u.call.stands)
        (subst (HasAdded setting m0 (counted_at u.call.stands)) (sym now.memory) had))

    pub row_answered : (answer : KeyAnswer) → progress ≡ called.Done answer → counted_at p2.stands ≡ counted_for answer
    row_answered = answered_account (p2, progress) its_account

    pub row_refused : (fault : Fault) → progress ≡ called.Refused fault → (m0 : Mem (Node K V)) → HasAdded setting m0 (counted_at u.call.stands) w.memory → HasAdded setting m0 0 led.w2.memory
    row_refused fault is m0 had = absurd (refused_account (p2, progress) its_account fault is)

    abbrev pub row_leads : StepLeads same hash asks setting slot w c blocks u m2 p2 progress
    row_leads = record {
      w2 = led.w2;
      c2 = c;
      blocks2 = blocks;
      sights2 = sights;
      change2 = u.change;
      memory = led.memory;
      runs = λ m0 c0 blocks0 rule0. run_on same hash setting u.keys m0 c0 blocks0 w.memory led.w2.memory c c blocks blocks u.change u.change (λ h. h) row_kept (λ h. h);
      counts = row_counts;
      answered = row_answered;
      refused = row_refused;
      hands = led.hands;
      removes = λ fault is nothing. ((led.refuses fault is).2 nothing).0;
      ends = λ bits few so. row_call_ends same hash asks c u.call is_row w.memory m2 (p2, progress) steps so;
      looks = λ o low known. (known, refl, row_looks o low known);
      leads = by_account (p2, progress) refl (account same hash asks (slot 0) u.call now.v.memory m2 is_row (p2, progress) steps_now);
    }
