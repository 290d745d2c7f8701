-- A call that is told what it has asked knows what its next point knows.
use Rattle.std.specs.Prelude.{◌≡◌, ◌≢◌, ℕ, ◌==◌, ◌/◌, Bool, true, false, Option, if◌then◌else◌}
use Rattle.std.specs.Int.{IsPowerOfTwo}
use Rattle.std.proofs.Common.{refl, ap, sym, subst, inl, inr}
use Rattle.map_rule.specs.Given.SeizeWordsDeclared.fault.Fault.TheVariants.{RemoveNothing}
use Rattle.papaya_raw.specs.Given.SeizeWorld.{World}
use Rattle.papaya_raw.specs.CallAsks.{with_absent, with_present}
use Rattle.papaya_raw.specs.CallPoints.{going, over, ending, burying, storing, following_made, at_gap}
use Rattle.papaya_raw.specs.Replies.{value_replied}
use Rattle.papaya_raw.specs.Given.TablesDeclared.marks.TheConstants.{TOMBSTONE}
use Rattle.papaya_raw.specs.Given.TablesDeclared.node.Node.{Node}
use Rattle.papaya_raw.specs.Given.TablesDeclared.setting.Setting.{Setting}
use Rattle.papaya_raw.specs.declared.machines.answer.Called.{Called}
use Rattle.papaya_raw.specs.declared.machines.answer.Called.TheVariants.{Goes}
use Rattle.papaya_raw.specs.declared.machines.answer.End.{End}
use Rattle.papaya_raw.specs.declared.machines.answer.End.TheVariants as ends
use Rattle.papaya_raw.specs.declared.machines.answer.KeyAnswer.{KeyAnswer}
use Rattle.papaya_raw.specs.declared.machines.answer.KeyAnswer.TheVariants as answers
use Rattle.papaya_raw.specs.declared.machines.asking.Asking.{Asking}
use Rattle.papaya_raw.specs.declared.machines.asking.Asking.TheVariants as asking
use Rattle.papaya_raw.specs.declared.machines.asking.Gap.{Gap}
use Rattle.papaya_raw.specs.declared.machines.asking.Gap.TheVariants as gaps
use Rattle.papaya_raw.specs.declared.machines.asking.Replies.{Replies}
use Rattle.papaya_raw.specs.declared.machines.asking.Takes.{Takes}
use Rattle.papaya_raw.specs.declared.machines.asking.Takes.TheVariants as takes
use Rattle.papaya_raw.specs.declared.machines.asking.Told.{Told}
use Rattle.papaya_raw.specs.declared.machines.asking.Told.TheVariants as tells
use Rattle.papaya_raw.specs.declared.machines.call.KeyCall.{KeyCall}
use Rattle.papaya_raw.specs.declared.machines.call.Calling.{Calling}
use Rattle.papaya_raw.specs.declared.machines.call.Calling.TheVariants as at
use Rattle.map_rule.specs.Chart.{Chart}
use Rattle.map_rule.specs.Words.{Blocks}
use Rattle.map_rule.specs.InWorld.{IsMapIn}
use Rattle.map_facts.specs.FactsCalls.{Change, Unchanged, MayStore, RepliesFit, Apart, holding, HasOwn, HasIts, Seeks, IsCopying, GapFacts, CallingFacts, CallFacts}
use Rattle.map_facts.specs.FactsIdle.{IsIdle}
use Rattle.map_facts.specs.Steps.{AreLawful, RepliesAreTaken}
use Rattle.map_facts.specs.Told.{HasAnswered, CallFactsAfter}
use Rattle.map_facts.proofs.Calls.Asking.{IsLast, names_some, gap_goes, buries_so}
use Rattle.map_facts.proofs.Calls.CallsOn.{answered_same, Seeking, Comes, facts_at, own_pair}
use Rattle.map_facts.proofs.Calls.CallsTables.{makes_next}
use Rattle.map_facts.proofs.Calls.Holdings.{held_as, asks_there}
use Rattle.map_facts.proofs.Calls.RepliesTaken.{takes_more, IsSoOfAll, replied_so}

module _ {K V : Type 0} (r : Replies K V) (fit : RepliesFit r) where
  -- a value is told where the key is missing
  pub fits_absent : (value : V) → RepliesFit (record r { absent = tells.Value value })
  fits_absent value = record {
    absent_own = λ own. absurd (cc own);
    present_own = fit.present_own;
    one_own = λ own. absurd (cc own);
    absent_stays = λ removes. cc removes;
    choices_stay = fit.choices_stay;
  }

  -- or what to do with a pair
  pub fits_present : (pair : ℕ) (told : Told V) → told ≢ tells.Own → r.takes ≢ takes.Choices → RepliesFit (record r { pair = pair; present = told })
  fits_present pair told other takes_more = record {
    absent_own = fit.absent_own;
    present_own = λ own. absurd (other own);
    one_own = λ own present. other present;
    absent_stays = fit.absent_stays;
    choices_stay = λ choices. absurd (takes_more choices);
  }

module _ {K V Q : Type 0} where
  -- at a gap nothing ends
  pub gap_on : (gap : Gap) (q : KeyCall K V Q) → ((at_gap gap q).1 ≡ Goes) × ((answer : KeyAnswer) → HasAnswered answer (at_gap gap q).0.stands → ⊥)
  gap_on gaps.NoTable q = (refl, λ answer h. h)
  gap_on gaps.Past q = (refl, λ answer h. h)
  gap_on gaps.Last q = (refl, λ answer h. h)
  gap_on gaps.Free q = by q.replies.absent
    where
      by : (told : Told V) → ((storing told q 0).1 ≡ Goes) × ((answer : KeyAnswer) → HasAnswered answer (storing told q 0).0.stands → ⊥)
      by tells.Nothing = (refl, λ answer h. h)
      by (tells.Value v) = (refl, λ answer h. h)
      by tells.Own = (refl, λ answer h. h)
      by tells.Removes = (refl, λ answer h. h)

  pub buries_on : (q : KeyCall K V Q) (word : ℕ) → ((burying q word).1 ≡ Goes) × ((answer : KeyAnswer) → HasAnswered answer (burying q word).0.stands → ⊥)
  buries_on q word = by (q.own == 0)
    where
      by : (b : Bool) → let x = (if b then going q (at.Tries word TOMBSTONE) else going q (at.Asks (asking.GivesUp word))) in (x.1 ≡ Goes) × ((answer : KeyAnswer) → HasAnswered answer x.0.stands → ⊥)
      by true = (refl, λ answer h. h)
      by false = (refl, λ answer h. h)

module _ {K V Q : Type 0} (same : K → K → Bool) (hash : K → ℕ) (asks : Q → K → Bool) (are : AreLawful same hash) (setting : Setting) (power : IsPowerOfTwo setting.initial)
    (w : World (Node K V)) (caller : ℕ) (c : Chart K) (blocks : Blocks) (keys : K → Bool) (p : KeyCall K V Q) (map : IsMapIn same hash setting w c blocks)
    (f : CallFacts same hash asks w caller setting c blocks keys Unchanged p) where
  abbrev Knows : KeyCall K V Q → Type 0
  Knows q = CallFacts same hash asks w caller setting c blocks keys Unchanged q

  -- it knows that, and would have answered so
  abbrev So : KeyCall K V Q → Type 0
  So q = Knows q × ((answer : KeyAnswer) → HasAnswered answer q.stands → HasAnswered answer p.stands)

  abbrev Point : Calling → Type 0
  Point stands = CallingFacts same hash asks w caller setting c blocks keys Unchanged p stands

  at_point : (stands : Calling) → p.stands ≡ stands → Point stands
  at_point stands here = subst Point here f.point

  -- with what it is told
  seeks : (replies : Replies K V) → replies.takes ≡ p.replies.takes → replies.key ≡ p.replies.key → RepliesFit replies → IsIdle same hash w caller setting c blocks
      → HasIts same hash asks w caller setting c blocks keys Unchanged p → Seeking same hash asks caller setting keys w c blocks (record p { replies = replies })
  seeks replies takes_is key_is fits idle its = record {
    setting_is = f.setting_is;
    may = (subst (λ (x : Takes). MayStore x p.there p.missing) (sym takes_is) f.may.0, fits);
    code = f.code;
    class = f.class;
    idle = idle;
    own = subst (λ (x : Takes). HasOwn same hash asks w caller setting c blocks keys Unchanged (holding x p.missing) p.asked replies.key p.own p.hash) (sym takes_is)
        (subst (λ (k : Option K). HasOwn same hash asks w caller setting c blocks keys Unchanged (holding p.replies.takes p.missing) p.asked k p.own p.hash) (sym key_is) its);
  }

  -- where it goes on, it answers nothing yet
  goes_so : (end : KeyCall K V Q × Called (Node K V)) → end.1 ≡ Goes → ((answer : KeyAnswer) → HasAnswered answer end.0.stands → ⊥) → Comes same hash asks caller setting keys w c blocks end → So end.0
  goes_so (q, progress) is none comes = (facts progress is comes.0, λ answer answered. absurd (none answer answered))
    where
      facts : (x : Called (Node K V)) → x ≡ Goes → CallFactsAfter same hash asks caller setting keys w c blocks Unchanged q x → Knows q
      facts x is after = subst (λ (y : Called (Node K V)). CallFactsAfter same hash asks caller setting keys w c blocks Unchanged q y) is after

  -- it ends
  ends_so : IsIdle same hash w caller setting c blocks → HasIts same hash asks w caller setting c blocks keys Unchanged p → (end : End) → ((answer : KeyAnswer) → end ≡ ends.Answered answer → HasAnswered answer p.stands)
      → So (ending p end).0
  ends_so idle its end answers = by (p.own == 0) refl
    where
      s : Seeking same hash asks caller setting keys w c blocks p
      s = record { setting_is = f.setting_is; may = f.may; code = f.code; class = f.class; idle = idle; own = its }

      by : (b : Bool) → (p.own == 0) ≡ b → So (if b then over p end else going p (at.Drops end)).0
      by true e = (record { setting_is = f.setting_is; may = f.may; code = f.code; class = f.class; unchanged = λ h. absurd h; idle = λ h. idle; point = refl }, λ answer is. answers answer is)
      by false e = (
        facts_at same hash asks caller setting keys w c blocks p s p.trial p.helped (at.Drops end) (refl, own_pair same hash asks caller setting keys w c blocks p s (holding p.replies.takes p.missing) p.asked p.replies.key its e),
        λ answer is. answers answer is,
      )

  taken : IsSoOfAll p So
  taken = record {
    asks_on = (f, λ answer is. is);
    stores = λ gap value here more.
        let k = at_point (at.Asks (asking.Absent gap)) here in
        let s = seeks (record p.replies { absent = tells.Value value }) refl refl (fits_absent p.replies f.may.1 value) (idle_at here) k.0 in
        let on = gap_on gap (with_absent p value) in
        goes_so (at_gap gap (with_absent p value)) on.0 on.1
        (gap_goes same hash asks caller setting keys w c blocks (with_absent p value) s k.1 gap k.2 (last_goes gap value k.2 s) (λ none. cc none));
    removes_none = λ gap here takes_is. let k = at_point (at.Asks (asking.Absent gap)) here in ends_so (idle_at here) k.0 (ends.Refused RemoveNothing) (λ answer is. absurd (cc is));
    answers_none = λ gap here takes_is.
        let k = at_point (at.Asks (asking.Absent gap)) here in
        ends_so (idle_at here) k.0 (ends.Answered answers.Absent) (λ answer is. subst (HasAnswered answer) (sym here) (sym (answered_same answers.Absent answer is)));
    replaces = λ word value here values. (
      let more = (takes_more p.replies.takes values).0 in
          let k = at_point (at.Asks (asking.Present word)) here in
          let held = asks_there p.replies.takes p.there p.missing f.may.0 k.1 more in
          record {
            setting_is = f.setting_is;
            may = (f.may.0, fits_present p.replies f.may.1 (word / 2048) (tells.Value value) (λ own. cc own) more);
            code = f.code;
            class = f.class;
            unchanged = λ h. refl;
            idle = λ h. idle_at here;
            point = (inl k.0, held, (value, ap (λ (b : Bool). value_replied (if b then p.replies.absent else tells.Value value)) (names_some same hash asks caller setting keys w c blocks are.fits map.map word k.2)), inr k.2, k.3);
          },
      λ answer answered. absurd answered,
    );
    removes = λ word here takes_is.
        let k = at_point (at.Asks (asking.Present word)) here in
        let more : p.replies.takes ≢ takes.Choices = λ choices. cc (choices, takes_is) in
        let held = asks_there p.replies.takes p.there p.missing f.may.0 k.1 more in
        let s = seeks (record p.replies { pair = word / 2048; present = tells.Removes }) refl refl (fits_present p.replies f.may.1 (word / 2048) tells.Removes (λ own. cc own) more) (idle_at here) k.0 in
        let on = buries_on (with_present p word tells.Removes) word in
        goes_so (burying (with_present p word tells.Removes) word) on.0 on.1 (buries_so same hash asks caller setting keys w c blocks (with_present p word tells.Removes) s word k.2 k.3 (λ some. held));
    buries = λ word here takes_is.
        let k = at_point (at.Asks (asking.Present word)) here in
        let on = buries_on p word in
        goes_so (burying p word) on.0 on.1
        (buries_so same hash asks caller setting keys w c blocks p (seeks p.replies refl refl f.may.1 (idle_at here) k.0) word k.2 k.3
        (λ some. absurd (some (held_as same hash asks caller setting keys w c blocks p Apart (ap (λ (x : Takes). holding x p.missing) takes_is) k.0).0)));
    answers = λ word here.
        let k = at_point (at.Asks (asking.Present word)) here in
        ends_so (idle_at here) k.0 (ends.Answered (answers.Found word)) (λ answer is. subst (HasAnswered answer) (sym here) (sym (answered_same (answers.Found word) answer is)));
  }
    where
      idle_at : {x : Asking} → p.stands ≡ at.Asks x → IsIdle same hash w caller setting c blocks
      idle_at here = f.idle (λ copying. subst IsCopying here copying)

      last_goes : (gap : Gap) (value : V) → GapFacts same hash asks w caller setting c blocks keys Unchanged p gap
          → Seeking same hash asks caller setting keys w c blocks (with_absent p value) → IsLast gap → Comes same hash asks caller setting keys w c blocks (following_made (with_absent p value))
      last_goes gaps.Last value k s last = makes_next same hash asks caller setting keys are.lawful w c blocks map.map (with_absent p value) s k.1 k.2.0 k.2.1 power
      last_goes gaps.NoTable value k s last = absurd last
      last_goes gaps.Free value k s last = absurd last
      last_goes gaps.Past value k s last = absurd last

module _ {K Q : Type 0} (V : Type 0) (same : K → K → Bool) (hash : K → ℕ) (asks : Q → K → Bool) where
  pub replies_are_taken : RepliesAreTaken V same hash asks
  replies_are_taken are setting power w caller c blocks keys change p map f r =
      replied_so p Here (record {
        asks_on = (f, λ answer is. is);
        stores = λ gap value here more. back here (λ g. (taken_at g).stores gap value here more);
        removes_none = λ gap here takes_is. back here (λ g. (taken_at g).removes_none gap here takes_is);
        answers_none = λ gap here takes_is. back here (λ g. (taken_at g).answers_none gap here takes_is);
        replaces = λ word value here more. back here (λ g. (taken_at g).replaces word value here more);
        removes = λ word here takes_is. back here (λ g. (taken_at g).removes word here takes_is);
        buries = λ word here takes_is. back here (λ g. (taken_at g).buries word here takes_is);
        answers = λ word here. back here (λ g. (taken_at g).answers word here);
      }) r
    where
      SoOf : Change → KeyCall K V Q → Type 0
      SoOf x q = CallFacts same hash asks w caller setting c blocks keys x q × ((answer : KeyAnswer) → HasAnswered answer q.stands → HasAnswered answer p.stands)

      Here : KeyCall K V Q → Type 0
      Here = SoOf change

      taken_at : CallFacts same hash asks w caller setting c blocks keys Unchanged p → IsSoOfAll p (SoOf Unchanged)
      taken_at g = taken same hash asks are setting power w caller c blocks keys p map g

      -- where it asks it has changed nothing
      back : {x : Asking} {q : KeyCall K V Q} → p.stands ≡ at.Asks x → (CallFacts same hash asks w caller setting c blocks keys Unchanged p → SoOf Unchanged q) → Here q
      back {x} {q} here g =
          let e = f.unchanged (subst (λ (s : Calling). Seeks same hash asks w caller setting c blocks keys change s) (sym here) tt) in
          subst (λ (y : Change). SoOf y q) (sym e) (g (subst (λ (y : Change). CallFacts same hash asks w caller setting c blocks keys y p) e f))
