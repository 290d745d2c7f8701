-- Where a call that asks takes what it is told, each call under way was asked and told as the moment says.
use Rattle.std.specs.Prelude.{◌≡◌, ℕ, Bool, true, false, List, ◌∷◌, Option, Some, None, Ok, if◌then◌else◌, ◌⊎◌}
use Rattle.std.proofs.Common.{refl, ap, sym, subst, ◌∙◌, inl, inr}
use Rattle.run_shows.specs.Given.SeizeWordsWord.{block_in}
use Rattle.run_shows.specs.Given.RunsSame.{is_same}
use Rattle.run_shows.specs.Given.RawCallAsks.{replied}
use Rattle.run_shows.specs.Given.RawMachine.{machine_replied}
use Rattle.run_shows.specs.Given.RawDeclared.machines.asking.Asking.{Asking as AskingAt}
use Rattle.run_shows.specs.Given.RawDeclared.machines.asking.Asking.TheVariants as asking
use Rattle.run_shows.specs.Given.RawDeclared.machines.call.Calling.TheVariants as at
use Rattle.run_shows.specs.Given.RunsDeclared.call.Call.{Call}
use Rattle.run_shows.specs.Given.RunsDeclared.call.Call.TheVariants as call
use Rattle.run_shows.specs.Given.RunsDeclared.call.OneKey.{OneKey}
use Rattle.run_shows.specs.Given.RunsDeclared.call.Reply.{Reply}
use Rattle.run_shows.specs.Given.SchedulesAfter.{replied as replied_at}
use Rattle.run_shows.specs.Given.SchedulesMoment.{Asking, Told, UnderWay as CallThere, Moment}
use Rattle.run_shows.specs.Given.SchedulesViews.{call_of}
use Rattle.run_shows.specs.Given.RuleChart.{Still}
use Rattle.run_shows.specs.Given.RuleWords.{byte_of}
use Rattle.run_shows.proofs.Given.RuleLaws.{words_name_pairs, bytes_are_few}
use Rattle.run_shows.specs.Given.CallersAsked.{last_reply}
use Rattle.run_shows.specs.Given.CallersPairs.{Given, with_reply}
use Rattle.run_shows.specs.Given.CallersSights.{seen_by, IsVisibility}
use Rattle.run_shows.specs.Given.CallersTogether.{CallOnKey, UnderWay, OnKey, ForRoom, Counting, OverAll, replied_about, AsksAbout, Together}
use Rattle.run_shows.specs.Given.EffectsKnown.{Known}
use Rattle.run_shows.specs.Given.EffectsDeclared.role.Role.TheVariants as role
use Rattle.run_shows.specs.Given.FinishesMachines.{machine_of, RepliedOfKind}
use Rattle.run_shows.specs.Given.FinishesMaps.{Standing, with_call as with_in}
use Rattle.run_shows.specs.Follows.Calling.{told}
use Rattle.run_shows.specs.Follows.Calls.{IsCalled}
use Rattle.run_shows.specs.Follows.Shows.{Refines}
use Rattle.run_shows.proofs.Follows.Calling.{is_same_refl, replied_same, told_with}
use Rattle.run_shows.proofs.Follows.Calls.{changed, found}
use Rattle.run_places.specs.Hands.Asked.{reply_to_machine, KnowsFirst, IsSameQuestion, IsQuestion, IsAskedOn, IsAskedAs, IsAsked, RefinesAsked}
use Rattle.run_places.specs.Hands.Calling.{CallsTake}
use Rattle.run_places.proofs.Hands.Asking.{which}
use Rattle.run_places.proofs.Hands.RowsOn.{rows_with}
use Rattle.run_places.proofs.Hands.Calling.{caller_is, asked_as}
use Rattle.run_places.proofs.Hands.HandsOn.{hands_with}
use Rattle.run_places.proofs.Hands.Takes.{asked_leaves, and_given, not_begun, not_first}
use Rattle.run_shows.specs.Scenes.Held.{Held, IsAt}
use Rattle.run_shows.specs.Scenes.Scene.{Scene, slot_of}
use Rattle.run_shows.proofs.Given.General.{same_some as one_of}

module _ {K V : Type 0} (same : K → K → Bool) (hash : ℕ → K → ℕ) (name : ℕ → List ℕ) (m : Moment K V) (known : Known) (s : Scene K V) (e : Held K V) (at_e : IsAt same hash e s)
    (shown : Refines same name m known s) (asked : RefinesAsked name shown.number m known s) (map i : ℕ) (standing : Standing K) (there : s.maps map ≡ Some standing)
    (c : CallThere K V) (c_is : call_of (name i) m ≡ Some c) (question : Option ℕ) (c_asks : c.stands ≡ Asking question) (is_told : Reply V) where
  each : Together V same standing.hash same standing.setting slot_of s.world standing.chart standing.blocks standing.sights (s.calls map)
  each = at_e.together.makings.standing.each map standing there

  abbrev number : ℕ → ℕ
  number = shown.number map

  abbrev stored : ℕ
  stored = standing.chart.stored

  -- the call once it was told
  abbrev after : CallThere K V
  after = record c { stands = Told; replies = (question, is_told) ∷ c.replies }

  module _ (u : CallOnKey K V K) (here : s.calls map i ≡ Some (OnKey u)) (taken : (replied u.call (reply_to_machine is_told)).1 ≡ Ok tt) where
    module _ (asks_at : AskingAt) (about : Option ℕ) (stands : u.call.stands ≡ at.Asks asks_at)
        (asks : AsksAbout V same standing.hash same standing.setting slot_of standing.chart (seen_by standing.blocks (standing.sights (slot_of i))) asks_at about) where
      is_sight : IsVisibility standing.chart standing.blocks (standing.sights (slot_of i))
      is_sight = (each.ground.sight (slot_of i) (each.inside i (OnKey u) here)).0

      -- what it is told about is the question that the moment has
      same_question : (it : AskingAt) → it ≡ asks_at → (q k : Option ℕ) → AsksAbout V same standing.hash same standing.setting slot_of standing.chart (seen_by standing.blocks (standing.sights (slot_of i))) it q
          → IsQuestion known it k → IsSameQuestion number stored q k
      same_question (asking.Absent gap) is q None none just = subst (λ (x : Option ℕ). IsSameQuestion number stored x None) (sym none) tt
      same_question (asking.Absent gap) is q (Some k) none just = absurd just
      same_question (asking.Present word) is None k none just = absurd none
      same_question (asking.Present word) is (Some n) None is_pair just = absurd just
      same_question (asking.Present word) is (Some n) (Some k) (l, seen, borrowed, word_is) just =
          let names : block_in word ≡ standing.blocks.pair n = ap block_in word_is
          ∙ words_name_pairs standing.blocks.pair (λ x. byte_of standing.hash (standing.chart.key x)) n Still borrowed
          (bytes_are_few standing.hash (at_e.together.makings.standing.fit map standing there).0.fits (standing.chart.key n)) in
          let its_role = (shown.maps map standing there).pairs.roles n l (is_sight.pairs n l seen) in
          let same_role : role.Pair (number n) ≡ role.Pair k = sym its_role ∙ ap known.roles (sym names) ∙ just in
          (l, cc same_role)
      same_question (asking.Fills word) is q None asks just = absurd just
      same_question (asking.Fills word) is q (Some k) asks just = absurd just
      same_question (asking.GivesUp word) is q None asks just = absurd just
      same_question (asking.GivesUp word) is q (Some k) asks just = absurd just

      -- it asks what is not known from the beginning
      first_kept : (one : OneKey K V) (h : IsAskedOn number stored known u one c) (q : Option ℕ) → (it : AskingAt) → asks_at ≡ it
          → AsksAbout V same standing.hash same standing.setting slot_of standing.chart (seen_by standing.blocks (standing.sights (slot_of i))) it q → IsQuestion known it question
          → KnowsFirst one → last_reply None (record { about = q; told = reply_to_machine is_told } ∷ h.asked) ≡ None
      first_kept one h (Some n) it is asks just first = h.first first
      first_kept one h None (asking.Absent gap) is asks just first =
          absurd (not_first same standing s.world i u asks_at stands (each.stand i (OnKey u) here) gap is one h.asked h.given first (h.first first))
      first_kept one h None (asking.Present word) is asks just first = absurd asks
      first_kept one h None (asking.Fills word) is asks just first = absurd (no_question (asking.Fills word) question just)
        where
          no_question : (it : AskingAt) (q : Option ℕ) → IsQuestion known (asking.Fills word) q → ⊥
          no_question it None just = just
          no_question it (Some k) just = just
      first_kept one h None (asking.GivesUp word) is asks just first = absurd (no_question (asking.GivesUp word) question just)
        where
          no_question : (it : AskingAt) (q : Option ℕ) → IsQuestion known (asking.GivesUp word) q → ⊥
          no_question it None just = just
          no_question it (Some k) just = just

      one_told : (one : OneKey K V) → IsAskedOn number stored known u one c → IsAskedOn number stored known (replied_about u about (reply_to_machine is_told)) one after
      one_told one h =
          let was = h.asks question c_asks in
          let it_is : was.0 ≡ asks_at = (let same_at : at.Asks was.0 ≡ at.Asks asks_at = sym was.1 ∙ stands in cc same_at) in
          let just : IsQuestion known asks_at question = subst (λ (x : AskingAt). IsQuestion known x question) it_is was.2 in
          record {
            asked = record { about = about; told = reply_to_machine is_told } ∷ h.asked;
            given = ap (with_reply u.pair about (reply_to_machine is_told)) taken ∙ ap (λ (g : Given K V). with_reply g about (reply_to_machine is_told) (Ok tt)) h.given
                ∙ and_given one h.asked about (reply_to_machine is_told)
                (λ kind pair is. not_begun same standing s.world i u asks_at stands (each.stand i (OnKey u) here) (reply_to_machine is_told) taken kind pair (h.given ∙ is));
            replies = (same_question asks_at refl about question asks just, refl, h.replies);
            first = first_kept one h about asks_at refl asks just;
            replacing = h.replacing;
            asks = λ q e. absurd (let no : Told ≡ Asking q = e in cc no);
          }

      as_told_on : (x : Call K V) → IsAskedAs number stored known u x c → IsAskedAs number stored known (replied_about u about (reply_to_machine is_told)) x after
      as_told_on (call.On one) h = one_told one h
      as_told_on (call.Reserve n) h = tt
      as_told_on call.Clear h = tt
      as_told_on call.Retain h = tt
      as_told_on call.Len h = tt
      as_told_on call.Walk h = tt

  pub own_told : (u next : UnderWay K V K) → s.calls map i ≡ Some u → machine_of next ≡ (machine_replied (machine_of u) (reply_to_machine is_told)).0 → (machine_replied (machine_of u) (reply_to_machine is_told)).1 ≡ Ok tt
      → RepliedOfKind V same same e.batch_size e.roots slot_of standing i u (reply_to_machine is_told) next → IsAsked number stored known next after
  own_told (OnKey u) next here machine taken (inl (asks_at, about, stands, asks, is)) =
      subst (λ (x : UnderWay K V K). IsAsked number stored known x after) (sym is)
      (as_told_on u here taken asks_at about stands asks c.call (asked.each map i (OnKey u) here standing there c c_is))
  own_told (OnKey u) next here machine taken (inr is) =
      absurd (asked_so c.call (asked.each map i (OnKey u) here standing there c c_is) its)
    where
      same_call : u.call ≡ (replied u.call (reply_to_machine is_told)).0
      same_call = let one = sym (ap machine_of is) ∙ machine in cc one

      its : IsCalled same (OnKey u) c.call
      its = let was = shown.calls map i (OnKey u) here in subst (λ (x : CallThere K V). IsCalled same (OnKey u) x.call) (one_of was.0 c (sym was.1 ∙ c_is)) was.3

      asked_so : (x : Call K V) → IsAskedAs number stored known u x c → IsCalled same (OnKey u) x → ⊥
      asked_so (call.On one) h called = let was = h.asks question c_asks in asked_leaves u.call was.0 (reply_to_machine is_told) was.1 taken (sym same_call)
      asked_so (call.Reserve n) h called = called
      asked_so call.Clear h called = called
      asked_so call.Retain h called = called
      asked_so call.Len h called = called
      asked_so call.Walk h called = called
  own_told (ForRoom r) next here machine taken is = subst (λ (x : UnderWay K V K). IsAsked number stored known x after) (sym is) tt
  own_told (Counting sum) next here machine taken is = subst (λ (x : UnderWay K V K). IsAsked number stored known x after) (sym is) tt
  own_told (OverAll o) next here machine taken (inl (word, n, stands, names, inl (kept, is))) = subst (λ (x : UnderWay K V K). IsAsked number stored known x after) (sym is) tt
  own_told (OverAll o) next here machine taken (inl (word, n, stands, names, inr (goes, is))) = subst (λ (x : UnderWay K V K). IsAsked number stored known x after) (sym is) tt
  own_told (OverAll o) next here machine taken (inr is) = subst (λ (x : UnderWay K V K). IsAsked number stored known x after) (sym is) tt

  module _ (u next : UnderWay K V K) (here : s.calls map i ≡ Some u) (own : IsAsked number stored known next after) where
    abbrev v : Moment K V
    v = told (name i) is_told m

    abbrev tells : CallThere K V → CallThere K V
    tells y = replied_at is_told y y.stands

    before : (n j : ℕ) (x : UnderWay K V K) → with_in s.calls map i (Some next) n j ≡ Some x → (b : UnderWay K V K) × (s.calls n j ≡ Some b)
    before n j x is = elim (which s.calls map i (Some next) n j x is) as (λ _. (b : UnderWay K V K) × (s.calls n j ≡ Some b)) [
      | inl its ↦ (u, ap (λ (k : ℕ). s.calls k j) its.0 ∙ ap (s.calls map) its.1 ∙ here)
      | inr was ↦ (x, was.1)
    ]

    pub told_asked : RefinesAsked name shown.number v known (record s { calls = with_in s.calls map i (Some next) })
    told_asked = record {
      apart = λ n j k l x y is is2 names. asked.apart n j k l (before n j x is).0 (before k l y is2).0 (before n j x is).1 (before k l y is2).1 names;
      each = λ n j x is st st_is d d_is. one n j x st st_is d d_is (which s.calls map i (Some next) n j x is);
    }
      where
        Goal : ℕ → UnderWay K V K → Standing K → CallThere K V → Type 0
        Goal n x st d = IsAsked (shown.number n) st.chart.stored known x d

        own_found : call_of (name i) v ≡ Some after
        own_found = found tells (λ y. replied_same is_told y y.stands) (name i) (name i) m.calls c c_is
            ∙ ap Some (ap (λ q. if q then tells c else c) (ap (λ (l : List ℕ). is_same l (name i)) (caller_is (name i) m c c_is) ∙ is_same_refl (name i))
            ∙ ap (replied_at is_told c) c_asks)

        one : (n j : ℕ) (x : UnderWay K V K) (st : Standing K) → s.maps n ≡ Some st → (d : CallThere K V) → call_of (name j) v ≡ Some d
            → ((n ≡ map) × (j ≡ i) × (◌≡◌ {A = Option (UnderWay K V K)} (Some next) (Some x))) ⊎ ((n ≡ map → j ≡ i → ⊥) × (s.calls n j ≡ Some x)) → Goal n x st d
        one n j x st st_is d d_is (inl a) =
            subst (λ (k : ℕ). Goal k x st d) (sym a.0)
            (subst (λ (y : UnderWay K V K). Goal map y st d) (one_of next x a.2)
            (subst (λ (y : Standing K). Goal map next y d) (one_of standing st (sym there ∙ ap s.maps (sym a.0) ∙ st_is))
            (asked_as number stored known next after d (one_of after d (sym own_found ∙ ap (λ (k : ℕ). call_of (name k) v) (sym a.1) ∙ d_is)) own)))
        one n j x st st_is d d_is (inr a) =
            let was = shown.calls n j x a.1 in
            let now = found tells (λ y. replied_same is_told y y.stands) (name i) (name j) m.calls was.0 was.1 in
            let is_d : changed tells (λ y. replied_same is_told y y.stands) (name i) was.0 ≡ d = one_of (changed tells (λ y. replied_same is_told y y.stands) (name i) was.0) d (sym now ∙ d_is) in
            let same_so : (if is_same was.0.caller (name i) then tells was.0 else was.0) ≡ was.0 =
            ap (λ q. if q then tells was.0 else was.0) (ap (λ (l : List ℕ). is_same l (name i)) (caller_is (name j) m was.0 was.1) ∙ other_name (is_same (name j) (name i)) refl) in
            asked_as (shown.number n) st.chart.stored known x was.0 d (sym same_so ∙ is_d) (asked.each n j x a.1 st st_is was.0 was.1)
          where
            other_name : (q : Bool) → is_same (name j) (name i) ≡ q → is_same (name j) (name i) ≡ false
            other_name false e = e
            other_name true e = absurd (let same_one = asked.apart n j map i x u a.1 here e in a.0 same_one.0 same_one.1)

pub calls_take : (K V : Type 0) (same : K → K → Bool) (hash : ℕ → K → ℕ) → CallsTake K V same hash
calls_take K V same hash name m known s e at_e all map i u here c c_is question c_asks standing there is_told next machine taken goes =
    let b = told_with same name m known s all.shown map i u here e.batch_size e.roots standing (reply_to_machine is_told) next goes is_told in
    record {
      shown = b.0;
      asked = subst (λ (f : ℕ → ℕ → ℕ). RefinesAsked name f (told (name i) is_told m) known (record s { calls = with_in s.calls map i (Some next) })) (sym b.1)
          (told_asked same hash name m known s e at_e all.shown all.asked map i standing there c c_is question c_asks is_told u next here
          (own_told same hash name m known s e at_e all.shown all.asked map i standing there c c_is question c_asks is_told u next here machine taken goes));
      hands = hands_with m known s (told (name i) is_told m).calls (with_in s.calls map i (Some next)) all.hands;
      rows = rows_with s map i next all.rows (all.rows.none map i u here, all.rows.one map i u here);
    }
