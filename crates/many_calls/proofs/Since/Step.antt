-- A step of a call adds its change, or its answer, to what was so since it began.
use Rattle.std.specs.Prelude.{◌≡◌, ◌≢◌, ℕ, suc, ◌<◌, ◌≤◌, Bool, true, false, cond, eqb, ◌⊎◌}
use Rattle.std.proofs.Common.{refl, ap, sym, subst, ◌∙◌, inl, inr, arith}
use Rattle.std.proofs.lemmas.Bool.{eq-eqb, ne_eqb}
use Rattle.seize_model.specs.Given.SeizeWorld.{World}
use Rattle.map_facts_late.specs.Given.TablesChunks.{is_incremental}
use Rattle.map_facts_late.specs.Given.TablesDeclared.node.Node.{Node}
use Rattle.map_facts_late.specs.Given.TablesDeclared.setting.Setting.{Setting}
use Rattle.map_facts_late.specs.Given.RawDeclared.machines.answer.KeyAnswer.{KeyAnswer}
use Rattle.map_facts_late.specs.Given.RawDeclared.machines.answer.KeyAnswer.TheVariants as answers
use Rattle.map_facts_late.specs.Given.RawDeclared.machines.answer.Called.{Called}
use Rattle.map_facts_late.specs.Given.RawDeclared.machines.answer.Called.TheVariants as called
use Rattle.map_facts_late.specs.Given.RawDeclared.machines.call.KeyCall.{KeyCall}
use Rattle.map_facts_late.specs.Given.RuleChart.{Chart, put}
use Rattle.map_facts_late.specs.Given.RuleWords.{Blocks}
use Rattle.map_facts_late.specs.Given.RuleMaps.{spot_of, IsAbsent, IsPair}
use Rattle.map_facts_late.specs.Given.RuleInWorld.{IsMapIn, Moved, SameBlocks}
use Rattle.map_facts_late.specs.Given.RuleLasts.{Lasts}
use Rattle.map_facts_late.specs.Given.RuleMoments.{Moments, Remembers}
use Rattle.map_facts_late.specs.Given.PointsFactsCalls.{Change, Unchanged, Stored, Replaced, Removed, AnswersOf, AnswersChange, Changes}
use Rattle.map_facts_late.specs.Given.PointsTold.{CallFactsAfter, CallOutcome}
use Rattle.many_calls.specs.Since.{HadPair, HadNone, WasSo, WasChanged, ChangedSince, SoSince, Since}
use Rattle.map_facts_late.proofs.Given.RuleWorld.Hands.{current_known}
use Rattle.many_calls.proofs.Since.Began.{has_answered, changed_since_on, so_since_on, moment_moved}

module _ {K V : Type 0} (same : K → K → Bool) (hash : K → ℕ) (setting : Setting) (w w2 : World (Node K V)) (c c2 : Chart K) (blocks blocks2 : Blocks)
    (map : IsMapIn same hash setting w c blocks) (map2 : IsMapIn same hash setting w2 c2 blocks2) (moments : Moments (is_incremental setting.mode) c) (moments2 : Moments (is_incremental setting.mode) c2)
    (lasts : Lasts same (spot_of hash) (is_incremental setting.mode) c c2) (remembers : Remembers (is_incremental setting.mode) c c2) (blocks_same : SameBlocks c blocks blocks2) where
  abbrev pub Later : (keys : K → Bool) (began : ℕ) (change : Change) → ChangedSince hash c blocks keys began change → ChangedSince hash c2 blocks2 keys began change
  Later keys began change = changed_since_on hash (is_incremental setting.mode) c c2 blocks blocks2 remembers lasts.stored lasts.keys blocks_same.pairs keys began change

  known_of : (n : ℕ) → c.current n ≡ true → n < c.stored
  known_of n is = (current_known same hash setting w c blocks map.map.rule map.map.shows n is).0

  -- what the map has before the step it had at the moment before
  was_before : (n : ℕ) → c2.was c.now n ≡ c.current n
  was_before n = ap (λ (f : ℕ → Bool). f n) (remembers.was c.now (omega arith)) ∙ moments.now_is n

  module _ {caller : ℕ} (moved : Moved same hash setting.mode caller c c2) (keys : K → Bool) where
    had_none : IsAbsent same hash (is_incremental setting.mode) c keys → HadNone hash c2 blocks2 keys c.now
    had_none absent = (
      (λ n e. let b = known_of n (sym (was_before n) ∙ e) in let s = lasts.stored in omega (arith, b, s)),
      (λ n k there e key. let is = sym (was_before n) ∙ e in absent n k is (sym (lasts.keys n (known_of n is)) ∙ key)),
    )

    had_pair : (o : ℕ) → IsPair same hash (is_incremental setting.mode) c keys o → HadPair hash c2 blocks2 keys c.now o
    had_pair o pair =
        let b = known_of o pair.0 in (let s = lasts.stored in omega (arith, b, s), was_before o ∙ pair.0, pair.1, lasts.keys o b ∙ pair.2, pair.3)

    -- where the pairs are other ones, a moment has passed
    next_moment : (n : ℕ) → c2.current n ≢ c.current n → c2.now ≡ suc c.now
    next_moment n other = by moved
      where
        by : Moved same hash setting.mode caller c c2 → c2.now ≡ suc c.now
        by (inl e) = absurd (other (ap (λ (x : Chart K). x.current n) e))
        by (inr (move, allowed, e, its)) = elim (moment_moved (spot_of hash) (is_incremental setting.mode) move c) [
          | inl on ↦ ap (λ (x : Chart K). x.now) e ∙ on
          | inr kept ↦ absurd (other (ap (λ (x : Chart K). x.current n) e ∙ ap (λ (f : ℕ → Bool). f n) kept))
        ]

    was_next : c2.now ≡ suc c.now → (x : ℕ) → c2.was (suc c.now) x ≡ c2.current x
    was_next on x = ap (λ (m : ℕ). c2.was m x) (sym on) ∙ moments2.now_is x

    -- a pair that is put, or taken out, of what the map had before
    put_before : (f : ℕ → Bool) (n : ℕ) (b : Bool) (x : ℕ) → put c.current n b x ≡ put (c2.was c.now) n b x
    put_before f n b x = ap (λ (q : Bool). cond (eqb x n) b q) (sym (was_before x))

    here : (f : ℕ → Bool) (n : ℕ) (b : Bool) → put f n b n ≡ b
    here f n b = ap (λ (q : Bool). cond q b (f n)) (eq-eqb n n refl)

    there : (f : ℕ → Bool) (n : ℕ) (b : Bool) (x : ℕ) → x ≢ n → put f n b x ≡ f x
    there f n b x ne = ap (λ (q : Bool). cond q b (f x)) (ne_eqb x n ne)

    -- the call's own change
    pub change_made : (began : ℕ) → began ≤ c.now → (change : Change) → Changes same hash (is_incremental setting.mode) keys c c2 change → ChangedSince hash c2 blocks2 keys began change
    change_made began b Unchanged h = inl refl
    change_made began b (Stored n) h =
        let on = next_moment n (λ e. fresh n h.0 (sym e ∙ ap (λ (f : ℕ → Bool). f n) h.2 ∙ here c.current n true)) in
        inr (c.now, b, omega (arith, on), (had_none h.1, λ x. was_next on x ∙ ap (λ (f : ℕ → Bool). f x) h.2 ∙ put_before c.current n true x))
      where
        fresh : (n : ℕ) → n ≡ c.stored → c.current n ≡ true → ⊥
        fresh n e is = let l = known_of n is in omega (arith, e, l)
    change_made began b (Replaced o n) h =
        let on = next_moment o (λ e. gone o n h.0 h.1.0 (sym (ap (λ (f : ℕ → Bool). f o) h.2) ∙ e ∙ h.1.0)) in
        inr (c.now, b, omega (arith, on), (had_pair o h.1, λ x. was_next on x ∙ ap (λ (f : ℕ → Bool). f x) h.2 ∙ both o n x))
      where
        gone : (o n : ℕ) → n ≡ c.stored → c.current o ≡ true → put (put c.current o false) n true o ≡ true → ⊥
        gone o n e is f =
            let l = known_of o is in
            let out = there (put c.current o false) n true o (λ q. omega (arith, q, e, l)) ∙ here c.current o false in cc (f, out)

        both : (o n x : ℕ) → put (put c.current o false) n true x ≡ put (put (c2.was c.now) o false) n true x
        both o n x = ap (λ (q : Bool). cond (eqb x n) true q) (put_before c.current o false x)
    change_made began b (Removed o) h =
        let on = next_moment o (λ e. gone o h.0.0 (sym (ap (λ (f : ℕ → Bool). f o) h.1) ∙ e ∙ h.0.0)) in
        inr (c.now, b, omega (arith, on), (had_pair o h.0, λ x. was_next on x ∙ ap (λ (f : ℕ → Bool). f x) h.1 ∙ put_before c.current o false x))
      where
        gone : (o : ℕ) → c.current o ≡ true → put c.current o false o ≡ true → ⊥
        gone o is f = let out = here c.current o false in cc (f, out)

  -- the call's own answer, where it has changed nothing
  module _ {Q : Type 0} (asks : Q → K → Bool) (caller : ℕ) (keys : K → Bool) (change : Change) where
    answer_so : (answer : KeyAnswer) → AnswersOf same hash asks w2 caller setting c2 blocks2 keys change answer → WasSo hash c2 blocks2 keys c2.now answer
    answer_so (answers.Found word) h =
        let known = current_known same hash setting w2 c2 blocks2 map2.map.rule map2.map.shows h.0 h.3.0 in
        (h.0, (known.0, moments2.now_is h.0 ∙ h.3.0, h.3.1, h.3.2, h.3.3), known.1, h.1, h.2, h.4)
    answer_so answers.Absent h = (
      (λ n e. (current_known same hash setting w2 c2 blocks2 map2.map.rule map2.map.shows n (sym (moments2.now_is n) ∙ e)).0),
      (λ n k there e key. h n k (sym (moments2.now_is n) ∙ e) key),
    )
    answer_so (answers.Stored word) h = absurd h
    answer_so (answers.Replaced old new) h = absurd h
    answer_so (answers.Removed word) h = absurd h

  module _ {Q : Type 0} (asks : Q → K → Bool) (caller : ℕ) (keys : K → Bool) (change : Change) (p p2 : KeyCall K V Q) (progress : Called (Node K V))
      (moved : Moved same hash setting.mode caller c c2) (told : CallOutcome same hash asks caller setting keys c change p w2 c2 blocks2 p2 progress)
      (began : ℕ) (since : Since hash c blocks keys began change p.stands) where
    began_on : began ≤ c2.now
    began_on = let b = since.began_before in let n = remembers.now in omega (arith, b, n)

    changed : ChangedSince hash c2 blocks2 keys began told.change2
    changed = elim told.changes [
      | inl kept ↦ subst (ChangedSince hash c2 blocks2 keys began) (sym kept.0) (Later keys began change since.changed)
      | inr made ↦ change_made moved keys began since.began_before told.change2 made.1
    ]

    unchanged_before : told.change2 ≡ Unchanged → change ≡ Unchanged
    unchanged_before none = elim told.changes [
      | inl kept ↦ sym kept.0 ∙ none
      | inr made ↦ made.0
    ]

    -- what was so since it began, after its step
    pub since_step : Since hash c2 blocks2 keys began told.change2 p2.stands
    since_step = record {
      began_before = began_on;
      changed = changed;
      answered = λ none answer has. elim (has_answered answer p.stands) [
        | inl before ↦
            so_since_on hash (is_incremental setting.mode) c c2 blocks blocks2 remembers lasts.stored lasts.keys blocks_same.pairs keys began answer (since.answered (unchanged_before none) answer before)
        | inr fresh ↦ (c2.now, began_on, (let e : c2.now ≤ c2.now = omega arith in e), answer_so asks caller keys told.change2 answer (told.answers answer has fresh none))
      ];
    }

    pub answers_step : (answer : KeyAnswer) → progress ≡ called.Done answer
        → ((told.change2 ≡ Unchanged) × SoSince hash c2 blocks2 keys began answer)
        ⊎ (((m : ℕ) × (began ≤ m) × (m < c2.now) × WasChanged hash c2 blocks2 keys m told.change2)
        × AnswersChange same hash asks w2 caller setting c2 blocks2 keys told.change2 told.change2 answer)
    answers_step answer done = by (subst (λ (x : Called (Node K V)). CallFactsAfter same hash asks caller setting keys w2 c2 blocks2 told.change2 p2 x) done told.facts)
      where
        by : CallFactsAfter same hash asks caller setting keys w2 c2 blocks2 told.change2 p2 (called.Done answer)
            → ((told.change2 ≡ Unchanged) × SoSince hash c2 blocks2 keys began answer)
            ⊎ (((m : ℕ) × (began ≤ m) × (m < c2.now) × WasChanged hash c2 blocks2 keys m told.change2)
            × AnswersChange same hash asks w2 caller setting c2 blocks2 keys told.change2 told.change2 answer)
        by (has, idle, inl none) = inl (none, since_step.answered none answer has)
        by (has, idle, inr tells) = elim changed [
          | inl none ↦ inl (none, since_step.answered none answer has)
          | inr made ↦ inr (made, tells)
        ]
