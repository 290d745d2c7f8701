-- What was so since a call began was so after further steps, too; and a step of the call itself adds to it.
use Rattle.std.specs.Prelude.{◌≡◌, ◌≢◌, ℕ, suc, ◌<◌, ◌≤◌, Bool, true, false, ◌⊎◌}
use Rattle.std.proofs.Common.{refl, ap, sym, ◌∙◌, inl, inr, arith}
use Rattle.std.proofs.lemmas.Bool.{cases_eq}
use Rattle.map_facts_late.specs.Given.RawDeclared.machines.answer.End.{End}
use Rattle.map_facts_late.specs.Given.RawDeclared.machines.answer.End.TheVariants as ends
use Rattle.map_facts_late.specs.Given.RawDeclared.machines.answer.KeyAnswer.{KeyAnswer}
use Rattle.map_facts_late.specs.Given.RawDeclared.machines.answer.KeyAnswer.TheVariants as answers
use Rattle.map_facts_late.specs.Given.RawDeclared.machines.asking.Asking.TheVariants as asking
use Rattle.map_facts_late.specs.Given.RawDeclared.machines.call.Calling.{Calling}
use Rattle.map_facts_late.specs.Given.RawDeclared.machines.call.Calling.TheVariants as at
use Rattle.map_facts_late.specs.Given.RuleChart.{Phase, Holds, Chart, put}
use Rattle.map_facts_late.specs.Given.RuleMoves.{Move, Links, Stores, Replaces, Removes, Marks, MarksBlocking, Skips, Unmarks, Puts, Covers, PutsLate, Claims, Reclaims, Counts, GivesUp, Aborts, Promotes, Announces, after}
use Rattle.map_facts_late.specs.Given.RuleWords.{Blocks, byte_of, word_of, place_word}
use Rattle.map_facts_late.specs.Given.RuleMoments.{Remembers}
use Rattle.map_facts_late.specs.Given.PointsFactsCalls.{Change, Unchanged, Stored, Replaced, Removed}
use Rattle.map_facts_late.specs.Given.PointsTold.{HasAnswered}
use Rattle.many_calls.specs.Since.{HadPair, HadNone, WasSo, WasChanged, ChangedSince, SoSince, Since}

-- which answers are one
same_answer : (a b : KeyAnswer) → (a ≡ b) ⊎ (a ≢ b)
same_answer answers.Absent answers.Absent = inl refl
same_answer answers.Absent (answers.Found w) = inr (λ e. cc e)
same_answer answers.Absent (answers.Stored w) = inr (λ e. cc e)
same_answer answers.Absent (answers.Replaced o n) = inr (λ e. cc e)
same_answer answers.Absent (answers.Removed w) = inr (λ e. cc e)
same_answer (answers.Found v) answers.Absent = inr (λ e. cc e)
same_answer (answers.Found v) (answers.Found w) = elim (cases_eq v w) [ inl e ↦ inl (ap answers.Found e) | inr ne ↦ inr (λ e. ne (cc e)) ]
same_answer (answers.Found v) (answers.Stored w) = inr (λ e. cc e)
same_answer (answers.Found v) (answers.Replaced o n) = inr (λ e. cc e)
same_answer (answers.Found v) (answers.Removed w) = inr (λ e. cc e)
same_answer (answers.Stored v) answers.Absent = inr (λ e. cc e)
same_answer (answers.Stored v) (answers.Found w) = inr (λ e. cc e)
same_answer (answers.Stored v) (answers.Stored w) = elim (cases_eq v w) [ inl e ↦ inl (ap answers.Stored e) | inr ne ↦ inr (λ e. ne (cc e)) ]
same_answer (answers.Stored v) (answers.Replaced o n) = inr (λ e. cc e)
same_answer (answers.Stored v) (answers.Removed w) = inr (λ e. cc e)
same_answer (answers.Replaced p q) answers.Absent = inr (λ e. cc e)
same_answer (answers.Replaced p q) (answers.Found w) = inr (λ e. cc e)
same_answer (answers.Replaced p q) (answers.Stored w) = inr (λ e. cc e)
same_answer (answers.Replaced p q) (answers.Replaced o n) = elim (cases_eq p o) [
  | inl e ↦ (elim (cases_eq q n) [ inl f ↦ inl (cc (e, f)) | inr ne ↦ inr (λ g. ne (cc g)) ])
  | inr ne ↦ inr (λ g. ne (cc g))
]
same_answer (answers.Replaced p q) (answers.Removed w) = inr (λ e. cc e)
same_answer (answers.Removed v) answers.Absent = inr (λ e. cc e)
same_answer (answers.Removed v) (answers.Found w) = inr (λ e. cc e)
same_answer (answers.Removed v) (answers.Stored w) = inr (λ e. cc e)
same_answer (answers.Removed v) (answers.Replaced o n) = inr (λ e. cc e)
same_answer (answers.Removed v) (answers.Removed w) = elim (cases_eq v w) [ inl e ↦ inl (ap answers.Removed e) | inr ne ↦ inr (λ e. ne (cc e)) ]

ended_with : (answer : KeyAnswer) (end : End) → (end ≡ ends.Answered answer) ⊎ (end ≢ ends.Answered answer)
ended_with answer (ends.Answered other) = elim (same_answer other answer) [ inl e ↦ inl (ap ends.Answered e) | inr ne ↦ inr (λ e. ne (cc e)) ]
ended_with answer (ends.Refused fault) = inr (λ e. cc e)

-- whether a call has come to an answer
pub has_answered : (answer : KeyAnswer) (stands : Calling) → HasAnswered answer stands ⊎ (HasAnswered answer stands → ⊥)
has_answered answer at.Makes = inr (λ h. h)
has_answered answer (at.Looks lookup) = inr (λ h. h)
has_answered answer at.Roots = inr (λ h. h)
has_answered answer at.Probes = inr (λ h. h)
has_answered answer (at.Tries word new) = inr (λ h. h)
has_answered answer at.Nexts = inr (λ h. h)
has_answered answer (at.Firsts making) = inr (λ h. h)
has_answered answer (at.Allocs making) = inr (λ h. h)
has_answered answer (at.Helps copier goal) = inr (λ h. h)
has_answered answer (at.Copies copier) = inr (λ h. h)
has_answered answer (at.Counts removed) = inr (λ h. h)
has_answered answer (at.Disposes dispose other) = inr (λ h. h)
has_answered answer (at.Asks (asking.Absent gap)) = same_answer answer answers.Absent
has_answered answer (at.Asks (asking.Present word)) = same_answer answer (answers.Found word)
has_answered answer (at.Asks (asking.Fills word)) = inr (λ h. h)
has_answered answer (at.Asks (asking.GivesUp word)) = inr (λ h. h)
has_answered answer (at.Drops end) = ended_with answer end
has_answered answer (at.Over end) = ended_with answer end

module _ {K : Type 0} (hash : K → ℕ) (incremental : Bool) (c c2 : Chart K) (blocks blocks2 : Blocks) (remembers : Remembers incremental c c2) (stored : c.stored ≤ c2.stored)
    (stored_keys : (n : ℕ) → n < c.stored → c2.key n ≡ c.key n) (pairs : (n : ℕ) → n < c.stored → blocks.pair_known n ≡ true → (blocks2.pair n ≡ blocks.pair n) × (blocks2.pair_known n ≡ true))
    (keys : K → Bool) where
  was_on : (m : ℕ) → m ≤ c.now → c2.was m ≡ c.was m
  was_on m l = remembers.was m l

  pair_on : (m n : ℕ) → m ≤ c.now → HadPair hash c blocks keys m n → HadPair hash c2 blocks2 keys m n
  pair_on m n l h = (let s = stored in let b = h.0 in omega (arith, b, s), ap (λ (f : ℕ → Bool). f n) (was_on m l) ∙ h.1, h.2, stored_keys n h.0 ∙ h.3, h.4)

  none_on : (m : ℕ) → m ≤ c.now → HadNone hash c blocks keys m → HadNone hash c2 blocks2 keys m
  none_on m l h = (
    (λ n e. let b = h.0 n (back n e) in let s = stored in omega (arith, b, s)),
    (λ n k there e key. let b = h.0 n (back n e) in h.1 n k b (back n e) (sym (stored_keys n b) ∙ key)),
  )
    where
      back : (n : ℕ) → c2.was m n ≡ true → c.was m n ≡ true
      back n e = sym (ap (λ (f : ℕ → Bool). f n) (was_on m l)) ∙ e

  word_still : (n : ℕ) → n < c.stored → blocks.pair_known n ≡ true → (phase : Phase) (borrowed : Bool) → place_word hash c blocks (Holds n phase borrowed) ≡ place_word hash c2 blocks2 (Holds n phase borrowed)
  word_still n was known phase borrowed =
      ap (λ (b : ℕ). word_of (λ (x : ℕ). b) (λ (x : ℕ). byte_of hash (c.key n)) (Holds n phase borrowed)) (sym (pairs n was known).0)
      ∙ ap (λ k. word_of (λ (x : ℕ). blocks2.pair n) (λ (x : ℕ). byte_of hash k) (Holds n phase borrowed)) (sym (stored_keys n was))

  so_on : (m : ℕ) → m ≤ c.now → (answer : KeyAnswer) → WasSo hash c blocks keys m answer → WasSo hash c2 blocks2 keys m answer
  so_on m l (answers.Found word) h = (h.0, pair_on m h.0 l h.1, (pairs h.0 h.1.0 h.2).1, h.3, h.4, h.5 ∙ word_still h.0 h.1.0 h.2 h.3 h.4)
  so_on m l answers.Absent h = none_on m l h
  so_on m l (answers.Stored word) h = absurd h
  so_on m l (answers.Replaced old new) h = absurd h
  so_on m l (answers.Removed word) h = absurd h

  at_next : (m : ℕ) → m < c.now → (x : ℕ) → c2.was (suc m) x ≡ c.was (suc m) x
  at_next m l x = ap (λ (f : ℕ → Bool). f x) (was_on (suc m) (omega (arith, l)))

  changed_on : (m : ℕ) → m < c.now → (change : Change) → WasChanged hash c blocks keys m change → WasChanged hash c2 blocks2 keys m change
  changed_on m l Unchanged h = absurd h
  changed_on m l (Stored n) h = (none_on m (omega (arith, l)) h.0, λ x. at_next m l x ∙ h.1 x ∙ ap (λ (f : ℕ → Bool). put f n true x) (sym (was_on m (omega (arith, l)))))
  changed_on m l (Replaced o n) h = (pair_on m o (omega (arith, l)) h.0, λ x. at_next m l x ∙ h.1 x ∙ ap (λ (f : ℕ → Bool). put (put f o false) n true x) (sym (was_on m (omega (arith, l)))))
  changed_on m l (Removed o) h = (pair_on m o (omega (arith, l)) h.0, λ x. at_next m l x ∙ h.1 x ∙ ap (λ (f : ℕ → Bool). put f o false x) (sym (was_on m (omega (arith, l)))))

  later : (m : ℕ) → m ≤ c.now → m ≤ c2.now
  later m l = let n = remembers.now in omega (arith, l, n)

  pub changed_since_on : (began : ℕ) (change : Change) → ChangedSince hash c blocks keys began change → ChangedSince hash c2 blocks2 keys began change
  changed_since_on began change (inl none) = inl none
  changed_since_on began change (inr (m, b, l, h)) = inr (m, b, (let n = remembers.now in omega (arith, l, n)), changed_on m l change h)

  pub so_since_on : (began : ℕ) (answer : KeyAnswer) → SoSince hash c blocks keys began answer → SoSince hash c2 blocks2 keys began answer
  so_since_on began answer (m, b, l, h) = (m, b, later m l, so_on m l answer h)

  pub since_on : (began : ℕ) (change : Change) (stands : Calling) → Since hash c blocks keys began change stands → Since hash c2 blocks2 keys began change stands
  since_on began change stands h = record {
    began_before = later began h.began_before;
    changed = changed_since_on began change h.changed;
    answered = λ none answer has. so_since_on began answer (h.answered none answer has);
  }

-- the moments of a map after a move: the next one, or the pairs are the same
module _ {K : Type 0} (spot : ℕ → K → ℕ → ℕ) (incremental : Bool) where
  pub moment_moved : (move : Move K) (c : Chart K) → ((after spot incremental move c).now ≡ suc c.now) ⊎ ((after spot incremental move c).current ≡ c.current)
  moment_moved (Links len limit) c = inr refl
  moment_moved (Stores t k j) c = inl refl
  moment_moved (Replaces t i k) c = inl refl
  moment_moved (Removes t i) c = inl refl
  moment_moved (Marks caller i) c = inr refl
  moment_moved (MarksBlocking i) c = inr refl
  moment_moved (Skips caller t i) c = inr refl
  moment_moved (Unmarks caller i) c = inr refl
  moment_moved (Puts caller i t k j) c = inr refl
  moment_moved (Covers caller i) c = inr refl
  moment_moved (PutsLate t i n) c = inr refl
  moment_moved (Claims caller t chunk) c = inr refl
  moment_moved (Reclaims t claim) c = inr refl
  moment_moved (Counts caller t number) c = inr refl
  moment_moved (GivesUp caller t) c = inr refl
  moment_moved (Aborts t) c = inr refl
  moment_moved (Promotes t) c = inr refl
  moment_moved (Announces t) c = inr refl
