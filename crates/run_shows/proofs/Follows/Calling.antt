-- Where a call begins, is told a reply, or has come to an outcome, nothing else has changed.
use Rattle.std.specs.Prelude.{◌≡◌, ◌≢◌, ℕ, ◌+◌, ◌==◌, Bool, true, false, cond, not, ◌&&◌, List, [], ◌∷◌, length, filter, find, map, Option, Some, if◌then◌else◌, ◌⊎◌}
use Rattle.std.proofs.Common.{refl, ap, sym, subst, ◌∙◌, inl, inr}
use Rattle.std.proofs.lemmas.Bool.{eq-eqb, cases_eq}
use Rattle.seize.specs.World.{with_at}
use Rattle.run_effects.specs.Given.RunsSame.{is_same}
use Rattle.run_effects.specs.Given.RawDeclared.machines.asking.MachineReply.{MachineReply}
use Rattle.run_effects.specs.Given.RunsDeclared.call.Call.{Call}
use Rattle.run_effects.specs.Given.RunsDeclared.call.Reply.{Reply}
use Rattle.run_effects.specs.Given.RunsDeclared.outcome.Outcome.{Outcome}
use Rattle.run_effects.specs.Given.RunsDeclared.outcome.Outcome.TheVariants as outcome
use Rattle.run_effects.specs.Given.SchedulesAfter.{asks_on, with_outcome, replied, without_call}
use Rattle.run_effects.specs.Given.SchedulesBeginning.{fresh_call, with_call}
use Rattle.run_effects.specs.Given.SchedulesEntry.{ends_call}
use Rattle.run_effects.specs.Given.SchedulesMoment.{CallState, Going, Asking, Told, IsReady, UnderWay as CallThere, Moment}
use Rattle.run_effects.specs.Given.SchedulesViews.{call_of}
use Rattle.many_maps.specs.Given.CallersOverAll.{CallOverAll}
use Rattle.many_maps.specs.Given.CallersTogether.{CallOnKey, UnderWay, OnKey, ForRoom, Counting, OverAll}
use Rattle.many_maps.proofs.Given.CallersTogether.At.{at_other, at_same}
use Rattle.many_maps.specs.Machines.{RepliedOfKind}
use Rattle.many_maps.specs.Maps.{Standing, with_call as with_in}
use Rattle.run_effects.specs.Effects.Known.{Known}
use Rattle.run_shows.specs.Follows.Blocks.{HasRole}
use Rattle.run_shows.specs.Follows.Calls.{IsCalled, RefinesCalls}
use Rattle.run_shows.specs.Follows.Calling.{NoneNamed, told, come_to, CallsComeTo}
use Rattle.run_shows.specs.Follows.Shows.{Refines}
use Rattle.run_shows.proofs.Follows.Alike.{AreSame, alike_same}
use Rattle.run_shows.proofs.Follows.Called.{some_is, called_as, key_called, sweep_called}
use Rattle.run_shows.proofs.Follows.Calls.{IsOfSame, CalledOn, changed, of_same, found, was_there}
use Rattle.run_shows.proofs.Follows.Onward.{tables_same, pairs_same, blocks_same, map_on}
use Rattle.run_shows.specs.Scenes.Scene.{Scene, slot_of}
use Rattle.seize_words.proofs.General.{both_true as both, equal_so as number_is}

-- names

pub is_same_refl : (l : List ℕ) → is_same l l ≡ true
is_same_refl [] = refl
is_same_refl (a ∷ l) = ap (λ q. q && is_same l l) (eq-eqb a a refl) ∙ is_same_refl l

pub is_same_is : (a b : List ℕ) → is_same a b ≡ true → a ≡ b
is_same_is [] [] e = refl
is_same_is [] (b ∷ ys) e = absurd (cc e)
is_same_is (a ∷ xs) [] e = absurd (cc e)
is_same_is (a ∷ xs) (b ∷ ys) e =
    let two = both (a == b) (is_same xs ys) e in ap (λ x. x ∷ xs) (number_is a b two.0) ∙ ap (λ l. b ∷ l) (is_same_is xs ys two.1)

-- other names are other names either way
pub apart_back : (a b : List ℕ) → is_same a b ≡ false → is_same b a ≡ false
apart_back a b e = by (is_same b a) refl
  where
    by : (q : Bool) → is_same b a ≡ q → is_same b a ≡ false
    by true f = absurd (let one = ap (λ l. is_same a l) (is_same_is b a f) ∙ is_same_refl a in cc (one, e))
    by false f = f

module _ {K V : Type 0} where
  -- nothing but the calls has changed: pairs have the numbers that they had
  calls_only : (same : K → K → Bool) (name : ℕ → List ℕ) (m m2 : Moment K V) (known : Known) (s : Scene K V) → AreSame m m2 → (calls2 : ℕ → ℕ → Option (UnderWay K V K)) → RefinesCalls same name m2 calls2
      → (shown : Refines same name m known s) → (after : Refines same name m2 known (record s { calls = calls2 })) × (after.number ≡ shown.number)
  calls_only same name m m2 known s alike calls2 there shown = (
    record {
      blocks = record {
        roles = λ b. subst (λ (xs : List (K × V)). HasRole s.world xs b (known.roles b)) (sym alike.stored) (shown.blocks.roles b);
        once = shown.blocks.once;
        stored = shown.blocks.stored ∙ sym (ap length alike.stored);
      };
      number = shown.number;
      maps = λ n st is. map_on n (shown.number n) st st m m2 known known (blocks_same st.chart st.blocks) (λ b lasting. refl) refl (tables_same st.chart) (pairs_same st.chart) (alike_same n m m2 alike) (shown.maps n st is);
      calls = there;
    },
    refl,
  )

  begins_calls : (same : K → K → Bool) (name : ℕ → List ℕ) (m : Moment K V) (calls : ℕ → ℕ → Option (UnderWay K V K)) → RefinesCalls same name m calls → (of i : ℕ) (u : UnderWay K V K) (call : Call K V) (guard : List ℕ)
      → ((n j : ℕ) (x : UnderWay K V K) → calls n j ≡ Some x → is_same (name i) (name j) ≡ false) → IsCalled same u call
      → RefinesCalls same name (with_call (name i) guard call (Some of) m) (with_in calls of i (Some u))
  begins_calls same name m calls shown of i u call guard apart called n j x is = by (cases_eq n of) (cases_eq j i)
    where
      fresh : CallThere K V
      fresh = fresh_call (name i) guard call of m.events

      Found : Type 0
      Found = (c : CallThere K V) × (call_of (name j) (with_call (name i) guard call (Some of) m) ≡ Some c) × (c.map ≡ n) × IsCalled same x c.call

      before : calls n j ≡ Some x → Found
      before was =
          let there = shown n j x was in
          (there.0, ap (λ z. cond z (Some fresh) (find (λ c. is_same c.caller (name j)) m.calls)) (apart n j x was) ∙ there.1, there.2, there.3)

      its_map : n ≡ of → with_at (calls of) i (Some u) j ≡ Some x
      its_map e = ap (λ (g : ℕ → Option (UnderWay K V K)). g j) (sym (at_same calls of (with_at (calls of) i (Some u)) n e)) ∙ is

      by : (n ≡ of) ⊎ (n ≢ of) → (j ≡ i) ⊎ (j ≢ i) → Found
      by (inl e) (inl f) = (
        fresh,
        ap (λ z. cond z (Some fresh) (find (λ c. is_same c.caller (name j)) m.calls)) (ap (λ (k : ℕ). is_same (name i) (name k)) f ∙ is_same_refl (name i)),
        sym e,
        called_as same x u call (some_is u x (sym (at_same (calls of) i (Some u) j f) ∙ its_map e)) called,
      )
      by (inl e) (inr ne) = before (ap (λ (k : ℕ). calls k j) e ∙ sym (at_other (calls of) i (Some u) j ne) ∙ its_map e)
      by (inr ne) f = before (ap (λ (g : ℕ → Option (UnderWay K V K)). g j) (sym (at_other calls of (with_at (calls of) i (Some u)) n ne)) ∙ is)

  -- a call that is told something, or has come to something, is the same one
  pub replied_same : (reply : Reply V) (c : CallThere K V) (stands : CallState) → IsOfSame c (replied reply c stands)
  replied_same reply c Going = (refl, refl, refl)
  replied_same reply c (Asking q) = (refl, refl, refl)
  replied_same reply c Told = (refl, refl, refl)
  replied_same reply c IsReady = (refl, refl, refl)

  pub asked_same : (question : Option ℕ) (c : CallThere K V) (stands : CallState) → IsOfSame c (asks_on question c stands)
  asked_same question c Going = (refl, refl, refl)
  asked_same question c (Asking q) = (refl, refl, refl)
  asked_same question c Told = (refl, refl, refl)
  asked_same question c IsReady = (refl, refl, refl)

  pub come_same : (o : Outcome V) (c : CallThere K V) → IsOfSame c (with_outcome o c)
  come_same outcome.Done c = (refl, refl, refl)
  come_same (outcome.Slot n) c = (refl, refl, refl)
  come_same outcome.Goes c = (refl, refl, refl)
  come_same (outcome.Asks question) c = asked_same question c c.stands
  come_same outcome.Waits c = (refl, refl, refl)
  come_same outcome.Ready c = (refl, refl, refl)
  come_same (outcome.Shows n) c = (refl, refl, refl)
  come_same (outcome.Answered a) c = (refl, refl, refl)
  come_same (outcome.Shape tables) c = (refl, refl, refl)
  come_same (outcome.Refused fault) c = (refl, refl, refl)

  module _ (same : K → K → Bool) where
    on_key : (next : UnderWay K V K) (u v : CallOnKey K V K) → next ≡ OnKey v → v.keys ≡ u.keys → (its : Call K V) → IsCalled same (OnKey u) its → IsCalled same next its
    on_key next u v is keys its called = called_as same next (OnKey v) its is (key_called same u v keys its called)

    on_sweep : (next : UnderWay K V K) (o p : CallOverAll) → next ≡ OverAll p → (its : Call K V) → IsCalled same (OverAll o) its → IsCalled same next its
    on_sweep next o p is its called = called_as same next (OverAll p) its is (sweep_called same o p its called)

    told_called : (batch_size roots : ℕ) (standing : Standing K) (i : ℕ) (u : UnderWay K V K) (reply : MachineReply V) (next : UnderWay K V K)
        → RepliedOfKind V same same batch_size roots slot_of standing i u reply next → CalledOn same u next
    told_called batch_size roots standing i (OnKey u) reply next (inl (asks_at, about, stands, asked, is)) its called = on_key next u _ is refl its called
    told_called batch_size roots standing i (OnKey u) reply next (inr is) its called = called_as same next (OnKey u) its is called
    told_called batch_size roots standing i (ForRoom r) reply next is its called = called_as same next (ForRoom r) its is called
    told_called batch_size roots standing i (Counting sum) reply next is its called = called_as same next (Counting sum) its is called
    told_called batch_size roots standing i (OverAll o) reply next (inl (word, n, stands, names, inl (kept, is))) its called = on_sweep next o _ is its called
    told_called batch_size roots standing i (OverAll o) reply next (inl (word, n, stands, names, inr (not_so, is))) its called = on_sweep next o _ is its called
    told_called batch_size roots standing i (OverAll o) reply next (inr is) its called = called_as same next (OverAll o) its is called

    -- calls of which one goes on as itself
    changed_calls : (change : CallThere K V → CallThere K V) (is_of : (c : CallThere K V) → IsOfSame c (change c)) (own : List ℕ) (name : ℕ → List ℕ) (m : Moment K V) (calls : ℕ → ℕ → Option (UnderWay K V K))
        → RefinesCalls same name m calls → RefinesCalls same name (record m { calls = map (changed change is_of own) m.calls }) calls
    changed_calls change is_of own name m calls shown n j x is =
        let there = shown n j x is in (
          changed change is_of own there.0,
          found change is_of own (name j) m.calls there.0 there.1,
          (of_same change is_of own there.0).1 ∙ there.2,
          subst (IsCalled same x) (sym (of_same change is_of own there.0).2) there.3,
        )

    next_calls : (name : ℕ → List ℕ) (m : Moment K V) (calls : ℕ → ℕ → Option (UnderWay K V K)) (of i : ℕ) (u : UnderWay K V K) → calls of i ≡ Some u → (next : UnderWay K V K) → CalledOn same u next
        → RefinesCalls same name m calls → RefinesCalls same name m (with_in calls of i (Some next))
    next_calls name m calls of i u here next on shown n j x is =
        let before = was_there same calls of i u here (Some next) (λ y e its called. called_as same y next its (some_is next y e) (on its called)) n j x is in
        let there = shown n j before.0 before.1 in (there.0, there.1, there.2, before.2 there.0.call there.3)

  module _ (test keep : CallThere K V → Bool) where
    pub found_passes : (cs : List (CallThere K V)) (c : CallThere K V) → find test cs ≡ Some c → test c ≡ true
    found_passes [] c is = absurd (cc is)
    found_passes (x ∷ cs) c is = by (test x) refl (λ later. found_passes cs c later)
      where
        by : (q : Bool) → test x ≡ q → (find test cs ≡ Some c → test c ≡ true) → test c ≡ true
        by true e rest =
            let it : x ≡ c = (let here : cond true (Some x) (find test cs) ≡ Some c = ap (λ z. cond z (Some x) (find test cs)) (sym e) ∙ is in cc here) in ap test (sym it) ∙ e
        by false e rest = rest (ap (λ z. cond z (Some x) (find test cs)) (sym e) ∙ is)

    -- what is kept is found still
    pub found_kept : (cs : List (CallThere K V)) (c : CallThere K V) → find test cs ≡ Some c → keep c ≡ true → find test (filter keep cs) ≡ Some c
    found_kept [] c is kept = absurd (cc is)
    found_kept (x ∷ cs) c is kept = by (test x) refl (keep x) refl (λ later. found_kept cs c later kept)
      where
        Goal : Bool → Type 0
        Goal z = find test (if z then x ∷ filter keep cs else filter keep cs) ≡ Some c

        by : (p : Bool) → test x ≡ p → (q : Bool) → keep x ≡ q → (find test cs ≡ Some c → find test (filter keep cs) ≡ Some c) → Goal (keep x)
        by true e q f rest =
            let it : x ≡ c = (let here : cond true (Some x) (find test cs) ≡ Some c = ap (λ z. cond z (Some x) (find test cs)) (sym e) ∙ is in cc here) in
            subst Goal (sym (ap keep it ∙ kept)) (ap (λ z. cond z (Some x) (find test (filter keep cs))) e ∙ ap Some it)
        by false e true f rest =
            subst Goal (sym f) (ap (λ z. cond z (Some x) (find test (filter keep cs))) e ∙ rest (ap (λ z. cond z (Some x) (find test cs)) (sym e) ∙ is))
        by false e false f rest = subst Goal (sym f) (rest (ap (λ z. cond z (Some x) (find test cs)) (sym e) ∙ is))

  kept_calls : (same : K → K → Bool) (own : List ℕ) (name : ℕ → List ℕ) (m : Moment K V) (calls : ℕ → ℕ → Option (UnderWay K V K)) → ((n j : ℕ) (x : UnderWay K V K) → calls n j ≡ Some x → is_same own (name j) ≡ false)
      → RefinesCalls same name m calls → RefinesCalls same name (record m { calls = without_call own m.calls }) calls
  kept_calls same own name m calls apart shown n j x is =
      let there = shown n j x is in
      let is_its = is_same_is there.0.caller (name j) (found_passes (λ c. is_same c.caller (name j)) (λ c. true) m.calls there.0 there.1) in
      let kept : not (is_same there.0.caller own) ≡ true = ap (λ (l : List ℕ). not (is_same l own)) is_its ∙ ap not (apart_back own (name j) (apart n j x is)) in
      (there.0, found_kept (λ c. is_same c.caller (name j)) (λ c. not (is_same c.caller own)) m.calls there.0 there.1 kept, there.2, there.3)

-- a call has come to this, by so many steps
abbrev pub come : {K V : Type 0} → Outcome V → ℕ → CallThere K V → CallThere K V
come o steps c = with_outcome o (record c { steps = c.steps + steps })

pub come_of_same : {K V : Type 0} (o : Outcome V) (steps : ℕ) (c : CallThere K V) → IsOfSame c (come o steps c)
come_of_same o steps c = come_same o (record c { steps = c.steps + steps })

module _ {K V : Type 0} (same : K → K → Bool) (name : ℕ → List ℕ) (m : Moment K V) (known : Known) (s : Scene K V) (shown : Refines same name m known s) where
  -- the moment shows the scene with other calls, with the numbers of its pairs
  abbrev pub ShowsWith : Moment K V → (ℕ → ℕ → Option (UnderWay K V K)) → Type 0
  ShowsWith m2 calls2 = (after : Refines same name m2 known (record s { calls = calls2 })) × (after.number ≡ shown.number)

  pub begins_with : (of i : ℕ) (u : UnderWay K V K) (call : Call K V) (guard : List ℕ) → NoneNamed name (name i) s → IsCalled same u call
      → ShowsWith (with_call (name i) guard call (Some of) m) (with_in s.calls of i (Some u))
  begins_with of i u call guard apart called =
      calls_only same name m (with_call (name i) guard call (Some of) m) known s (record { place = refl; born = refl; maps = refl; tables = refl; stored = refl }) (with_in s.calls of i (Some u))
      (begins_calls same name m s.calls shown.calls of i u call guard apart called) shown

  pub told_with : (of i : ℕ) (u : UnderWay K V K) → s.calls of i ≡ Some u → (batch_size roots : ℕ) (standing : Standing K) (reply : MachineReply V) (next : UnderWay K V K)
      → RepliedOfKind V same same batch_size roots slot_of standing i u reply next → (is_told : Reply V) → ShowsWith (told (name i) is_told m) (with_in s.calls of i (Some next))
  told_with of i u here batch_size roots standing reply next goes is_told =
      calls_only same name m (told (name i) is_told m) known s (record { place = refl; born = refl; maps = refl; tables = refl; stored = refl }) (with_in s.calls of i (Some next))
      (next_calls same name (told (name i) is_told m) s.calls of i u here next (told_called same batch_size roots standing i u reply next goes)
      (changed_calls same (λ c. replied is_told c c.stands) (λ c. replied_same is_told c c.stands) (name i) name m s.calls shown.calls)) shown

  pub come_with : (own : List ℕ) (o : Outcome V) (steps : ℕ) → (ends_call o ≡ true → NoneNamed name own s) → ShowsWith (come_to own o steps m) s.calls
  come_with own o steps ended =
      calls_only same name m (come_to own o steps m) known s (record { place = refl; born = refl; maps = refl; tables = refl; stored = refl }) s.calls (by (ends_call o) refl) shown
    where
      by : (q : Bool) → ends_call o ≡ q → RefinesCalls same name (record m { calls = if q then without_call own m.calls else map (λ c. if is_same c.caller own then come o steps c else c) m.calls }) s.calls
      by true e = kept_calls same own name m s.calls (ended e) shown.calls
      by false e = changed_calls same (come o steps) (come_of_same o steps) own name m s.calls shown.calls

module _ (K V : Type 0) (same : K → K → Bool) where
  pub calls_come_to : CallsComeTo K V same
  calls_come_to name m known s shown own o steps ended = (come_with same name m known s shown own o steps ended).0
