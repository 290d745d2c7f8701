-- A call that is told what it has asked in a table that the root has left knows what its next point knows.
use Rattle.std.specs.Prelude.{◌≡◌, ◌≢◌, ℕ, ◌/◌, ◌==◌, Bool, true, false, ◌⊎◌, if◌then◌else◌}
use Rattle.std.proofs.Common.{refl, ap, sym, subst, inl, inr}
use Rattle.map_facts.specs.Given.SeizeWordsDeclared.fault.Fault.TheVariants.{RemoveNothing}
use Rattle.map_facts.specs.Given.SeizeWorld.{World}
use Rattle.map_facts.specs.Given.RawCallAsks.{with_absent, with_present}
use Rattle.map_facts.specs.Given.RawCallPoints.{going, over, ending, burying, at_gap}
use Rattle.map_facts.specs.Given.RawReplies.{value_replied}
use Rattle.map_facts.specs.Given.TablesDeclared.node.Node.{Node}
use Rattle.map_facts.specs.Given.TablesDeclared.setting.Setting.{Setting}
use Rattle.map_facts.specs.Given.RawDeclared.machines.answer.Called.{Called}
use Rattle.map_facts.specs.Given.RawDeclared.machines.answer.Called.TheVariants.{Goes}
use Rattle.map_facts.specs.Given.RawDeclared.machines.answer.End.{End}
use Rattle.map_facts.specs.Given.RawDeclared.machines.answer.End.TheVariants as ends
use Rattle.map_facts.specs.Given.RawDeclared.machines.answer.KeyAnswer.{KeyAnswer}
use Rattle.map_facts.specs.Given.RawDeclared.machines.answer.KeyAnswer.TheVariants as answers
use Rattle.map_facts.specs.Given.RawDeclared.machines.asking.Asking.TheVariants as asking
use Rattle.map_facts.specs.Given.RawDeclared.machines.asking.Replies.{Replies}
use Rattle.map_facts.specs.Given.RawDeclared.machines.asking.Takes.{Takes}
use Rattle.map_facts.specs.Given.RawDeclared.machines.asking.Takes.TheVariants as takes
use Rattle.map_facts.specs.Given.RawDeclared.machines.asking.Told.TheVariants as tells
use Rattle.map_facts.specs.Given.RawDeclared.machines.call.KeyCall.{KeyCall}
use Rattle.map_facts.specs.Given.RawDeclared.machines.call.Calling.{Calling}
use Rattle.map_facts.specs.Given.RawDeclared.machines.call.Calling.TheVariants as at
use Rattle.map_facts.specs.Given.RuleChart.{Chart}
use Rattle.map_facts.specs.Given.RuleWords.{Blocks}
use Rattle.map_facts.specs.Given.RuleInWorld.{IsMapIn}
use Rattle.map_facts.specs.FactsCalls.{Unchanged, MayStore, RepliesFit, Apart, holding, CallFacts}
use Rattle.map_facts.specs.Steps.{AreLawful}
use Rattle.map_facts.specs.Told.{HasAnswered}
use Rattle.map_facts.proofs.Calls.Asking.{names_some}
use Rattle.map_facts.proofs.Calls.CallsOn.{answered_same, Seeking, facts_at, own_pair}
use Rattle.map_facts.proofs.Calls.Holdings.{held_as, asks_there}
use Rattle.map_facts.proofs.Calls.RepliesKnow.{fits_absent, fits_present, gap_on, buries_on}
use Rattle.map_facts.proofs.Calls.RepliesTaken.{takes_more, IsSoOfAll, replied_so}
use Rattle.map_facts.proofs.MovedLasts.{idle_in}
use Rattle.map_facts_late.specs.LateCalls.{Its, SupersededCalling, SupersededCallFacts}
use Rattle.map_facts_late.specs.LateSteps.{SupersededRepliesAreTaken}
use Rattle.map_facts_late.specs.LateTold.{SupersededCallAfter}
use Rattle.map_facts_late.proofs.Calls.Asking.{gap_goes_late, buries_late}
use Rattle.map_facts_late.proofs.Calls.LatesOn.{LateComes}

module _ {K V Q : Type 0} (same : K → K → Bool) (hash : K → ℕ) (asks : Q → K → Bool) (are : AreLawful same hash) (setting : Setting)
    (w : World (Node K V)) (caller : ℕ) (c : Chart K) (blocks : Blocks) (keys : K → Bool) (began : ℕ) (p : KeyCall K V Q) (map : IsMapIn same hash setting w c blocks)
    (f : SupersededCallFacts same hash asks w caller setting c blocks keys began p) where
  abbrev Knows : KeyCall K V Q → Type 0
  Knows q = CallFacts same hash asks w caller setting c blocks keys Unchanged q ⊎ SupersededCallFacts same hash asks w caller setting c blocks keys began q

  -- it knows that, and would have answered so
  abbrev So : KeyCall K V Q → Type 0
  So q = Knows q × ((answer : KeyAnswer) → HasAnswered answer q.stands → HasAnswered answer p.stands)

  abbrev Point : Calling → Type 0
  Point stands = SupersededCalling same hash asks w caller setting c blocks keys began p stands

  at_point : (stands : Calling) → p.stands ≡ stands → Point stands
  at_point stands here = subst Point here f.point

  -- with what it is told
  seeks : (replies : Replies K V) → replies.takes ≡ p.replies.takes → RepliesFit replies → Its same hash asks w caller setting c blocks keys began (record p { replies = replies })
      → Seeking same hash asks caller setting keys w c blocks (record p { replies = replies })
  seeks replies takes_is fits its = record {
    setting_is = f.setting_is;
    may = (subst (λ (x : Takes). MayStore x p.there p.missing) (sym takes_is) f.may.0, fits);
    code = f.code;
    class = f.class;
    idle = idle_in same hash w caller setting c blocks false f.blocking f.idle;
    own = its;
  }

  goes_so : (end : KeyCall K V Q × Called (Node K V)) → end.1 ≡ Goes → ((answer : KeyAnswer) → HasAnswered answer end.0.stands → ⊥) → LateComes same hash asks caller setting f.blocking keys began w c blocks end → So end.0
  goes_so (q, progress) is none comes = (
    subst (λ (y : Called (Node K V)). SupersededCallAfter same hash asks caller setting keys began w c blocks q y) is comes.0,
    λ answer answered. absurd (none answer answered),
  )

  -- it ends
  ends_so : Its same hash asks w caller setting c blocks keys began p → (end : End) → ((answer : KeyAnswer) → end ≡ ends.Answered answer → HasAnswered answer p.stands) → So (ending p end).0
  ends_so its end answers = by (p.own == 0) refl
    where
      s : Seeking same hash asks caller setting keys w c blocks p
      s = seeks p.replies refl f.may.1 its

      by : (b : Bool) → (p.own == 0) ≡ b → So (if b then over p end else going p (at.Drops end)).0
      by true e = (inl (record { setting_is = f.setting_is; may = f.may; code = f.code; class = f.class; unchanged = λ h. absurd h; idle = λ h. s.idle; point = refl }), λ answer is. answers answer is)
      by false e = (
        inl (facts_at same hash asks caller setting keys w c blocks p s p.trial p.helped (at.Drops end) (refl, own_pair same hash asks caller setting keys w c blocks p s (holding p.replies.takes p.missing) p.asked p.replies.key its e)),
        λ answer is. answers answer is,
      )

  taken : IsSoOfAll p So
  taken = record {
    asks_on = (inr f, λ answer is. is);
    stores = λ gap value here more.
        let k = at_point (at.Asks (asking.Absent gap)) here in
        let s = seeks (record p.replies { absent = tells.Value value }) refl (fits_absent p.replies f.may.1 value) k.0 in
        let on = gap_on gap (with_absent p value) in
        goes_so (at_gap gap (with_absent p value)) on.0 on.1
        (gap_goes_late same hash asks caller setting f.blocking keys began w c blocks (with_absent p value) s k.1 gap k.2 (λ none. cc none));
    removes_none = λ gap here takes_is. let k = at_point (at.Asks (asking.Absent gap)) here in ends_so k.0 (ends.Refused RemoveNothing) (λ answer is. absurd (cc is));
    answers_none = λ gap here takes_is.
        let k = at_point (at.Asks (asking.Absent gap)) here in
        ends_so k.0 (ends.Answered answers.Absent) (λ answer is. subst (HasAnswered answer) (sym here) (sym (answered_same answers.Absent answer is)));
    replaces = λ word value here values. (
      let more = (takes_more p.replies.takes values).0 in
          let k = at_point (at.Asks (asking.Present word)) here in
          let held = asks_there p.replies.takes p.there p.missing f.may.0 k.1 more in
          inr (record {
            blocking = f.blocking;
            setting_is = f.setting_is;
            may = (f.may.0, fits_present p.replies f.may.1 (word / 2048) (tells.Value value) (λ own. cc own) more);
            code = f.code;
            class = f.class;
            idle = f.idle;
            point = (inl k.0, held, (value, ap (λ (b : Bool). value_replied (if b then p.replies.absent else tells.Value value)) (names_some same hash asks caller setting keys w c blocks are.fits map.map word k.2)), inr k.2, k.3);
          }),
      λ answer answered. absurd answered,
    );
    removes = λ word here takes_is.
        let k = at_point (at.Asks (asking.Present word)) here in
        let more : p.replies.takes ≢ takes.Choices = λ choices. cc (choices, takes_is) in
        let held = asks_there p.replies.takes p.there p.missing f.may.0 k.1 more in
        let s = seeks (record p.replies { pair = word / 2048; present = tells.Removes }) refl (fits_present p.replies f.may.1 (word / 2048) tells.Removes (λ own. cc own) more) k.0 in
        let on = buries_on (with_present p word tells.Removes) word in
        goes_so (burying (with_present p word tells.Removes) word) on.0 on.1
        (buries_late same hash asks caller setting f.blocking keys began w c blocks (with_present p word tells.Removes) s word k.2 k.3 (λ some. held));
    buries = λ word here takes_is.
        let k = at_point (at.Asks (asking.Present word)) here in
        let on = buries_on p word in
        goes_so (burying p word) on.0 on.1
        (buries_late same hash asks caller setting f.blocking keys began w c blocks p (seeks p.replies refl f.may.1 k.0) word k.2 k.3
        (λ some. absurd (some (held_as same hash asks caller setting keys w c blocks p Apart (ap (λ (x : Takes). holding x p.missing) takes_is) k.0).0)));
    answers = λ word here.
        let k = at_point (at.Asks (asking.Present word)) here in
        ends_so k.0 (ends.Answered (answers.Found word)) (λ answer is. subst (HasAnswered answer) (sym here) (sym (answered_same (answers.Found word) answer is)));
  }

module _ {K Q : Type 0} (V : Type 0) (same : K → K → Bool) (hash : K → ℕ) (asks : Q → K → Bool) where
  pub late_replies_are_taken : SupersededRepliesAreTaken V same hash asks
  late_replies_are_taken are setting w caller c blocks keys began p map f r =
      replied_so p (So same hash asks are setting w caller c blocks keys began p map f) (taken same hash asks are setting w caller c blocks keys began p map f) r
