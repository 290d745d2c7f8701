-- A call that asks is told what to do: all calls stand together then, and it knows its next point.
use Rattle.std.specs.Prelude.{List, Option, Some, None, Result, Ok, Err}
use Rattle.std.proofs.Common.{◌≡◌, ◌≢◌, ℕ, Bool, true, false, ◌==◌, if◌then◌else◌, ◌⊎◌, inl, inr, refl, sym, subst}
use Rattle.seize_model.specs.Given.SeizeWordsMem.{Mem}
use Rattle.seize_model.specs.Given.SeizeWorld.{World, Rests, with_at}
use Rattle.map_facts_late.specs.Given.TablesDeclared.marks.TheConstants.{TOMBSTONE}
use Rattle.map_facts_late.specs.Given.TablesDeclared.node.Node.{Node}
use Rattle.map_facts_late.specs.Given.TablesDeclared.setting.Setting.{Setting}
use Rattle.map_facts_late.specs.Given.RawCallAsks.{with_absent, with_present, replied_at, replied}
use Rattle.map_facts_late.specs.Given.RawCallPoints.{going, over, ending, burying, storing, at_gap}
use Rattle.map_facts_late.specs.Given.RawDeclared.machines.answer.End.{End}
use Rattle.map_facts_late.specs.Given.RawDeclared.machines.answer.KeyAnswer.{KeyAnswer}
use Rattle.map_facts_late.specs.Given.RawDeclared.machines.answer.KeyAnswer.TheVariants as answers
use Rattle.map_facts_late.specs.Given.RawDeclared.machines.asking.Asking.{Asking}
use Rattle.map_facts_late.specs.Given.RawDeclared.machines.asking.Asking.TheVariants as asking
use Rattle.map_facts_late.specs.Given.RawDeclared.machines.asking.Gap.{Gap}
use Rattle.map_facts_late.specs.Given.RawDeclared.machines.asking.Gap.TheVariants as gaps
use Rattle.map_facts_late.specs.Given.RawDeclared.machines.asking.MachineReply.{MachineReply}
use Rattle.map_facts_late.specs.Given.RawDeclared.machines.asking.MachineReply.TheVariants as reply
use Rattle.map_facts_late.specs.Given.RawDeclared.machines.asking.Takes.TheVariants as takes
use Rattle.map_facts_late.specs.Given.RawDeclared.machines.asking.Told.{Told}
use Rattle.map_facts_late.specs.Given.RawDeclared.machines.asking.Told.TheVariants as tells
use Rattle.map_facts_late.specs.Given.RawDeclared.machines.call.KeyCall.{KeyCall}
use Rattle.map_facts_late.specs.Given.RawDeclared.machines.call.Calling.{Calling}
use Rattle.map_facts_late.specs.Given.RawDeclared.machines.call.Calling.TheVariants as at
use Rattle.map_facts_late.specs.Given.RuleChart.{Still, Chart}
use Rattle.map_facts_late.specs.Given.RuleInWorld.{IsMapIn}
use Rattle.map_facts_late.specs.Given.RuleWords.{Blocks}
use Rattle.map_facts_late.specs.Given.PointsFactsCalls.{Change, Unchanged, RepliesFit, NamesPair, Seeks, CallingFacts, CallFacts}
use Rattle.map_facts_late.specs.LateCalls.{SupersededCalling, SupersededCallFacts}
use Rattle.map_facts_late.specs.Given.PointsTold.{HasAnswered, IsRowOfCall}
use Rattle.map_facts_late.proofs.Given.PointsCalls.Holdings.{never_asks}
use Rattle.map_facts_late.proofs.Given.PointsCalls.RepliesKnow.{replies_are_taken}
use Rattle.map_facts_late.proofs.Given.PointsCalls.RepliesTaken.{replied_so}
use Rattle.map_facts_late.proofs.Calls.Replies.{late_replies_are_taken}
use Rattle.map_facts_late.proofs.Values.Own.{late_never_asks}
use Rattle.many_calls.specs.Claims.{IsNoLookup, IsToClaim}
use Rattle.many_calls.specs.Asked.{Asked, last_reply, RepliesWithin, IsAsReplied, DoesAsReplied, RemembersReplies}
use Rattle.many_calls.specs.AskedOnce.{AskedAt, AsksOnce}
use Rattle.map_facts_late.specs.Kinds.{FitsAt}
use Rattle.map_facts_late.proofs.KindsKept.Laws.{replies_keep_the_kind}
use Rattle.many_calls.specs.Kind.{Kind}
use Rattle.many_calls.specs.Pairs.{Given, Begun, IsTold, with_reply, AsksFirst, RemovesNone, IsOfKind, KeepsGiven}
use Rattle.many_calls.specs.Since.{SoSince}
use Rattle.many_calls.proofs.Asked.Leaves.{within_then, removes_then}
use Rattle.many_calls.specs.Sights.{seen_by}
use Rattle.many_calls.specs.Together.{OnKey, CallOnKey, replied_about, in_slot, Knows, IsAtPoint, Together, AsksAbout, RepliesPreserveTheInvariant}
use Rattle.many_calls.proofs.Asked.By.{block_of_word, one_pair}
use Rattle.many_calls.proofs.Asked.Replies.{and_asked, About as AboutIn, replied_told}
use Rattle.many_calls.proofs.Once.Replies.{replied_once}
use Rattle.many_calls.proofs.Sights.Seen.{map_seen}
use Rattle.many_calls.proofs.Together.Few.{few_with}
use Rattle.many_calls.proofs.Together.FactsOn.{KnowsOfCall}
use Rattle.many_calls.proofs.Together.Fits.{map_in_slot, fits_some, fits_of, stands_by}

-- it is not to claim places then
module _ {K V Q : Type 0} (p : KeyCall K V Q) (x : Asking) (here : p.stands ≡ at.Asks x) (t : ℕ) where
  abbrev ClaimsNone : KeyCall K V Q → Type 0
  ClaimsNone q = IsToClaim t q.stands → ⊥

  ends_none : (end : End) → ClaimsNone (ending p end).0
  ends_none end = by (p.own == 0)
    where
      by : (b : Bool) → ClaimsNone (if b then over p end else going p (at.Drops end)).0
      by true to = to
      by false to = to

  buries_none : (q : KeyCall K V Q) (word : ℕ) → ClaimsNone (burying q word).0
  buries_none q word = by (q.own == 0)
    where
      by : (b : Bool) → ClaimsNone (if b then going q (at.Tries word TOMBSTONE) else going q (at.Asks (asking.GivesUp word))).0
      by true to = to
      by false to = to

  gap_none : (gap : Gap) (q : KeyCall K V Q) → ClaimsNone (at_gap gap q).0
  gap_none gaps.NoTable q to = to
  gap_none gaps.Past q to = to
  gap_none gaps.Last q to = to
  gap_none gaps.Free q to = by q.replies.absent to
    where
      by : (told : Told V) → ClaimsNone (storing told q 0).0
      by tells.Nothing to = to
      by (tells.Value v) to = to
      by tells.Own to = to
      by tells.Removes to = to

  claims_none : (r : MachineReply V) → ClaimsNone (replied p r).0
  claims_none = replied_so p ClaimsNone (record {
    asks_on = λ to. subst (IsToClaim t) here to;
    stores = λ gap value e more. gap_none gap (with_absent p value);
    removes_none = λ gap e is. ends_none _;
    answers_none = λ gap e is. ends_none _;
    replaces = λ word value e more to. to;
    removes = λ word e is. buries_none (with_present p word tells.Removes) word;
    buries = λ word e is. buries_none p word;
    answers = λ word e. ends_none _;
  })

-- what it keeps with the reply, if that was taken
kept_with : {K V Q : Type 0} (hash : K → ℕ) (m : Mem (Node K V)) (c : Chart K) (blocks : Blocks) (keys : K → Bool) (kind : Kind) (its : Option K) (asked : List (Asked V)) (change : Change) (about : Option ℕ) (r : MachineReply V)
    (x : KeyCall K V Q × Result Unit (MachineReply V)) → RemembersReplies hash m c blocks its (and_asked asked about r x.1) change x.0 x.0.stands
    → AsksOnce hash c blocks keys (and_asked asked about r x.1) its x.0.replies x.0.stands → IsOfKind kind x.0 x.0.stands → RepliesWithin (and_asked asked about r x.1) kind
    → KeepsGiven hash m c blocks keys (with_reply (IsTold kind its asked) about r x.1) change x.0 x.0.stands
kept_with hash m c blocks keys kind its asked change about r (q, Ok taken) told once fit within = (told, once, fit, within)
kept_with hash m c blocks keys kind its asked change about r (q, Err back) told once fit within = (told, once, fit, within)

-- what it was told of none is what it recalls
removes_as : {K V : Type 0} (kind : Kind) (its : Option K) (asked : List (Asked V)) (about : Option ℕ) (r : MachineReply V) (taken : Result Unit (MachineReply V)) → RemovesNone (with_reply (IsTold kind its asked) about r taken)
    → last_reply None (and_asked asked about r taken) ≡ Some reply.Remove
removes_as kind its asked about r (Ok u) told = told
removes_as kind its asked about r (Err back) told = told

module _ {K V Q : Type 0} (same : K → K → Bool) (hash : K → ℕ) (asks : Q → K → Bool) (setting : Setting) (slot : ℕ → ℕ) where
  -- what it asks about
  module _ (w : World (Node K V)) (i : ℕ) (c : Chart K) (seen : Blocks) (keys : K → Bool) where
    abbrev About : Asking → Type 0
    About x = (about : Option ℕ) × AsksAbout V same hash asks setting slot c seen x about

    about_pair : (change : Change) (word : ℕ) → NamesPair same hash asks w i (in_slot setting (slot i)) c seen keys change word → About (asking.Present word)
    about_pair change word (n, k, borrowed, was, known, key, its, is) = (Some n, (was, known, borrowed, is))

    about_by : (change : Change) (p : KeyCall K V Q) (x : Asking) → CallingFacts same hash asks w i (in_slot setting (slot i)) c seen keys change p (at.Asks x) → About x
    about_by change p (asking.Absent gap) k = (None, refl)
    about_by change p (asking.Present word) k = about_pair change word k.2
    about_by change p (asking.Fills word) k = (None, refl)
    about_by change p (asking.GivesUp word) k = (None, refl)

    late_about : (began : ℕ) (p : KeyCall K V Q) (x : Asking) → SupersededCalling same hash asks w i (in_slot setting (slot i)) c seen keys began p (at.Asks x) → About x
    late_about began p (asking.Absent gap) k = (None, refl)
    late_about began p (asking.Present word) k = about_pair Unchanged word k.2
    late_about began p (asking.Fills word) k = (None, refl)
    late_about began p (asking.GivesUp word) k = (None, refl)

    -- it asks about a pair or none, has changed nothing, and is one that asks
    abbrev IsAsking : CallOnKey K V Q → Asking → Type 0
    IsAsking u x = About x × (u.change ≡ Unchanged) × RepliesFit u.call.replies × (u.call.replies.takes ≢ takes.Nothing)

  pub replies_stand_together : RepliesPreserveTheInvariant V same hash asks setting slot
  replies_stand_together are power w c blocks sights calls s i u has x here = (it_knows.0, (λ gap is. asks_first gap is u.pair known.pair), (λ word n is about. asks_new word n is about u.pair known.pair), stand_so)
    where
      seen : Blocks
      seen = seen_by blocks (sights (slot i))

      map : IsMapIn same hash (in_slot setting (slot i)) w c seen
      map = map_seen same hash (in_slot setting (slot i)) w c blocks (sights (slot i)) (map_in_slot same hash setting w c blocks (slot i) s.ground.map) (s.ground.sight (slot i) (s.inside i (OnKey u) has)).0

      by_stand : IsAtPoint V same hash asks setting slot w c seen i (OnKey u) → (w.row i ≡ Rests) × Knows V same hash asks setting slot w c seen i u u.call
      by_stand (inl h) = h
      by_stand (inr (row, is_row, k)) = absurd (subst IsRowOfCall here is_row)

      known : Knows V same hash asks setting slot w c seen i u u.call
      known = (by_stand (s.stand i (OnKey u) has)).1

      by_facts : KnowsOfCall same hash asks (in_slot setting (slot i)) i w c seen u.keys u.began u.change u.call → IsAsking w i c seen u.keys u x
      by_facts (inl fresh) =
          let k = subst (CallingFacts same hash asks w i (in_slot setting (slot i)) c seen u.keys u.change u.call) here fresh.point in (
            about_by w i c seen u.keys u.change u.call x k,
            fresh.unchanged (subst (Seeks same hash asks w i (in_slot setting (slot i)) c seen u.keys u.change) (sym here) tt),
            fresh.may.1,
            λ never. never_asks same hash asks i (in_slot setting (slot i)) u.keys w c seen u.call fresh.may.0 never x u.change k,
          )
      by_facts (inr (none, late)) =
          let k = subst (SupersededCalling same hash asks w i (in_slot setting (slot i)) c seen u.keys u.began u.call) here late.point in
          (late_about w i c seen u.keys u.began u.call x k, none, late.may.1, λ never. late_never_asks same hash asks w i (in_slot setting (slot i)) c seen u.keys u.began u.call late.may.0 never x k)

      it_knows : IsAsking w i c seen u.keys u x
      it_knows = by_facts known.facts

      -- what it was told before
      recalls : (its : Option K) (asked : List (Asked V)) → RemembersReplies hash w.memory c seen its asked u.change u.call u.call.stands
          → IsAsReplied hash w.memory c seen its asked u.call.replies u.call.own × DoesAsReplied hash w.memory c seen its asked u.call.replies u.call.own (at.Asks x)
      recalls its asked keeps = subst (RemembersReplies hash w.memory c seen its asked u.change u.call) here keeps

      first_of : (gap : Gap) → x ≡ asking.Absent gap → (its : Option K) (asked : List (Asked V)) → RemembersReplies hash w.memory c seen its asked u.change u.call u.call.stands → last_reply None asked ≡ None
      first_of gap is its asked keeps =
          let h = recalls its asked keeps in
          h.0.absent_first (subst (λ (y : Asking). DoesAsReplied hash w.memory c seen its asked u.call.replies u.call.own (at.Asks y)) is h.1)

      asks_first : (gap : Gap) → x ≡ asking.Absent gap → (pair : Given K V) → KeepsGiven hash w.memory c seen u.keys pair u.change u.call u.call.stands → AsksFirst pair None
      asks_first gap is (Begun kind pair) keeps = it_knows.3 keeps.0
      asks_first gap is (IsTold kind None asked) keeps = first_of gap is None asked keeps.0
      asks_first gap is (IsTold kind (Some key) asked) keeps = first_of gap is (Some key) asked keeps.0

      -- the pair is the one that it has not been asked about
      asks_new : (word n : ℕ) → x ≡ asking.Present word → AsksAbout V same hash asks setting slot c seen x (Some n) → (pair : Given K V)
          → KeepsGiven hash w.memory c seen u.keys pair u.change u.call u.call.stands → AsksFirst pair (Some n)
      asks_new word n is about (Begun kind pair) keeps = it_knows.3 keeps.0
      asks_new word n is about (IsTold kind None asked) keeps = tt
      asks_new word n is about (IsTold kind (Some key) asked) keeps =
          let new = (subst (λ (y : Asking). AskedAt hash c seen u.keys asked u.call.replies (at.Asks y)) is (subst (AskedAt hash c seen u.keys asked u.call.replies) here keeps.1)).1 in
          let named = subst (λ (y : Asking). AsksAbout V same hash asks setting slot c seen y (Some n)) is about in
          let one = one_pair hash are.fits w.memory c seen None asked setting.root map.map.shows word new.0 n (new.1.0, new.1.1) (named.0, named.1)
          (block_of_word hash are.fits w.memory c seen None asked setting.root map.map.shows word new.0 Still new.2 new.3)
          (block_of_word hash are.fits w.memory c seen None asked setting.root map.map.shows word n Still named.2 named.3) in
          subst (λ (y : ℕ). last_reply (Some y) asked ≡ None) one new.4

      about_as : (its : Option K) (asked : List (Asked V)) (y : Asking) (about : Option ℕ) → AsksAbout V same hash asks setting slot c seen y about → AboutIn hash w.memory c seen its asked y about
      about_as its asked (asking.Present word) (Some n) (was, there, borrowed, is) = ((was, there), borrowed, is)
      about_as its asked (asking.Present word) None is = is
      about_as its asked (asking.Absent gap) about is = is
      about_as its asked (asking.Fills word) about is = is
      about_as its asked (asking.GivesUp word) about is = is

      stand_so : (about : Option ℕ) → AsksAbout V same hash asks setting slot c seen x about → (r : MachineReply V) → Together V same hash asks setting slot w c blocks sights (with_at calls i (Some (OnKey (replied_about u about r))))
      stand_so about asked_about r =
          stands_by same hash asks setting slot w c blocks sights calls i (Some (OnKey told)) s.ground
          (fits_some same hash asks setting slot w c blocks (sights (slot i)) i (OnKey told) (s.inside i (OnKey u) has) (inl ((by_stand (s.stand i (OnKey u) has)).0, knows_then)))
          (λ j other. fits_of same hash asks setting slot w c blocks sights calls s j)
          (λ blocking. few_with calls i c (s.few blocking) (OnKey told) (λ writes. (OnKey u, has, subst (λ (stands : Calling). IsNoLookup stands) (sym here) tt)) (λ t. claims_none u.call x here t r)) s.onto (λ none. absurd (cc none))
        where
          told : CallOnKey K V Q
          told = replied_about u about r

          taken : KnowsOfCall same hash asks (in_slot setting (slot i)) i w c seen u.keys u.began u.change u.call
              → KnowsOfCall same hash asks (in_slot setting (slot i)) i w c seen u.keys u.began u.change (replied u.call r).0
              × ((answer : KeyAnswer) → HasAnswered answer (replied u.call r).0.stands → HasAnswered answer u.call.stands)
          taken (inl fresh) =
              let t = replies_are_taken V same hash asks are (in_slot setting (slot i)) power w i c seen u.keys u.change u.call map fresh r in (inl t.0, t.1)
          taken (inr (none, late)) =
              let t = late_replies_are_taken V same hash asks are (in_slot setting (slot i)) w i c seen u.keys u.began u.call map late r in (either t.0, t.1)
            where
              either : CallFacts same hash asks w i (in_slot setting (slot i)) c seen u.keys Unchanged (replied u.call r).0 ⊎ SupersededCallFacts same hash asks w i (in_slot setting (slot i)) c seen u.keys u.began (replied u.call r).0
                  → KnowsOfCall same hash asks (in_slot setting (slot i)) i w c seen u.keys u.began u.change (replied u.call r).0
              either (inl fresh) = inl (subst (λ (y : Change). CallFacts same hash asks w i (in_slot setting (slot i)) c seen u.keys y (replied u.call r).0) (sym none) fresh)
              either (inr late) = inr (none, late)

          -- it asks, so it was begun with no pair
          given : (pair : Given K V) → KeepsGiven hash w.memory c seen u.keys pair u.change u.call u.call.stands
              → KeepsGiven hash w.memory c seen u.keys (with_reply pair about r (replied u.call r).1) u.change (replied u.call r).0 (replied u.call r).0.stands
          given (Begun kind pair) keeps = absurd (it_knows.3 keeps.0)
          given (IsTold kind its asked) keeps =
              kept_with hash w.memory c seen u.keys kind its asked u.change about r (replied u.call r)
              (replied_told hash are.fits w.memory c seen its setting.root map.map.shows asked u.change it_knows.1 u.call it_knows.2 keeps.0 (recalls its asked keeps.0).0 x here about (about_as its asked x about asked_about) r)
              (once_by its asked keeps.1) (replies_keep_the_kind kind.present kind.absent kind.takes u.call keeps.2 r) (within_by kind keeps.2 asked keeps.3)
            where
              within_by : (k : Kind) → IsOfKind k u.call u.call.stands → (list : List (Asked V)) → RepliesWithin list k → RepliesWithin (and_asked list about r (replied u.call r).1) k
              within_by k fit list h =
                  subst (λ (y : Calling). RepliesWithin (and_asked list about r (replied_at y u.call r).1) k) (sym here)
                  (within_then list r hash w.memory c seen u.call k h x (subst (FitsAt k.present k.absent k.takes) here fit.4) about (about_as None list x about asked_about))

              once_by : (key : Option K) (list : List (Asked V)) → AsksOnce hash c seen u.keys list key u.call.replies u.call.stands
                  → AsksOnce hash c seen u.keys (and_asked list about r (replied u.call r).1) key (replied u.call r).0.replies (replied u.call r).0.stands
              once_by None list h = tt
              once_by (Some key) list h = replied_once hash are.fits w.memory c seen u.keys setting.root map.map.shows list u.call h x here about (about_as None list x about asked_about) r

          -- where it was told to remove what is not there, that was so as it asked
          removes_none : (pair : Given K V) → KeepsGiven hash w.memory c seen u.keys pair u.change u.call u.call.stands → (RemovesNone pair → SoSince hash c seen u.keys u.began answers.Absent)
              → RemovesNone (with_reply pair about r (replied u.call r).1) → SoSince hash c seen u.keys u.began answers.Absent
          removes_none (Begun kind pair) keeps before told = absurd (it_knows.3 keeps.0)
          removes_none (IsTold kind its asked) keeps before told =
              removes_then asked r hash w.memory c seen u.call (SoSince hash c seen u.keys u.began answers.Absent) before x
              (λ gap is. known.since.answered it_knows.1 answers.Absent (subst (HasAnswered answers.Absent) (sym here) (subst (λ (y : Asking). HasAnswered answers.Absent (at.Asks y)) (sym is) refl)))
              about (about_as None asked x about asked_about)
              (subst (λ (y : Calling). last_reply None (and_asked asked about r (replied_at y u.call r).1) ≡ Some reply.Remove) here (removes_as kind its asked about r (replied u.call r).1 told))

          knows_then : Knows V same hash asks setting slot w c seen i told (replied u.call r).0
          knows_then =
              let t = taken known.facts in
              record {
                facts = t.0;
                since = record { began_before = known.since.began_before; changed = known.since.changed; answered = λ none answer answered. known.since.answered none answer (t.1 answer answered) };
                pair = given u.pair known.pair;
                none = removes_none u.pair known.pair known.none;
              }
