-- A retaining that takes what it is told: the last reply about each pair that it has done is yes.
use Rattle.std.specs.Prelude.{◌≡◌, ◌≢◌, ℕ, ◌+◌, ◌<◌, ◌≤◌, Bool, true, false, cond, List, [], ◌∷◌, Option, Some, Ok, if◌then◌else◌, ◌⊎◌}
use Rattle.std.specs.List.{AllByRecursion}
use Rattle.std.proofs.Common.{refl, ap, sym, subst, ◌∙◌, arith, inl, inr}
use Rattle.std.proofs.lemmas.Bool.{cases_order, eq-eqb}
use Rattle.run_finds.specs.Given.SweepsSweepPoints.{reply_at, after_reply}
use Rattle.run_finds.specs.Given.ReservesDeclared.sweep.Purpose.TheVariants.{Retains}
use Rattle.run_finds.specs.Given.ReservesDeclared.sweep.Sweep.{Sweep}
use Rattle.run_finds.specs.Given.ReservesDeclared.sweep.Sweeping.{Sweeping}
use Rattle.run_finds.specs.Given.ReservesDeclared.sweep.Sweeping.TheVariants as sweeping
use Rattle.run_finds.specs.Given.RawMachine.{machine_replied, sweep_with_reply}
use Rattle.run_finds.specs.Given.RawDeclared.machines.asking.MachineReply.{MachineReply}
use Rattle.run_finds.specs.Given.RawDeclared.machines.asking.MachineReply.TheVariants as reply
use Rattle.run_finds.specs.Given.RunsSame.{is_same}
use Rattle.run_finds.specs.Given.RunsDeclared.call.Call.{Call}
use Rattle.run_finds.specs.Given.RunsDeclared.call.Call.TheVariants as call
use Rattle.run_finds.specs.Given.RunsDeclared.call.Reply.{Reply}
use Rattle.run_finds.specs.Given.RunsDeclared.call.Reply.TheVariants.{Gives, Removes, Aborts, Decides}
use Rattle.run_finds.specs.Given.SchedulesAfter.{replied}
use Rattle.run_finds.specs.Given.SchedulesMoment.{Asking, Told, UnderWay as CallThere, Moment}
use Rattle.run_finds.specs.Given.SchedulesSweeps.{is_yes}
use Rattle.run_finds.specs.Given.SchedulesViews.{call_of, reply_to}
use Rattle.run_finds.specs.Given.RuleWords.{Blocks}
use Rattle.run_finds.specs.Given.PointsSteps.{AreLawful}
use Rattle.run_finds.specs.Given.LateCovers.{times, NamesPair, CoversAt}
use Rattle.run_finds.specs.Given.LateFactsSweeps.{SweepingFacts}
use Rattle.run_finds.specs.Given.LateToldSweeps.{IsRowOfSweep}
use Rattle.run_finds.specs.Given.CallersOverAll.{CallOverAll, with_verdict}
use Rattle.run_finds.specs.Given.CallersSights.{IsVisibility, seen_by}
use Rattle.run_finds.specs.Given.CallersTogether.{UnderWay, OnKey, ForRoom, Counting, OverAll, KnowsSweep, Together, in_slot}
use Rattle.run_finds.specs.Given.EffectsKnown.{Known}
use Rattle.run_finds.specs.Given.EffectsDeclared.role.Role.TheVariants as role
use Rattle.run_finds.specs.Given.FinishesMachines.{machine_of, RepliedOfKind}
use Rattle.run_finds.specs.Given.FinishesMaps.{Standing}
use Rattle.run_finds.specs.Given.FollowsCalling.{told}
use Rattle.run_finds.specs.Given.FollowsShows.{Refines}
use Rattle.run_finds.proofs.Given.FollowsCalling.{is_same_refl, replied_same, told_with}
use Rattle.run_finds.proofs.Given.FollowsCalls.{found}
use Rattle.run_finds.specs.Given.HandsAsked.{reply_to_machine}
use Rattle.run_finds.proofs.Given.HandsAsking.{which}
use Rattle.run_finds.proofs.Given.HandsCalling.{caller_is}
use Rattle.run_finds.specs.Given.HistoriesAnswers.{NamesPair as NamesNumber}
use Rattle.run_finds.specs.Given.ChangesHistories.{since, IsWithin}
use Rattle.run_finds.proofs.Given.HistoriesRoles.{named_by}
use Rattle.run_finds.specs.Given.MomentsWhole.{RefinesWhole}
use Rattle.run_sweeps.specs.Purposes.Kept.{AsksAboutIt, CallsTakePurposes}
use Rattle.run_finds.specs.Purposes.Purposes.{IsFor, PairsWithin, HasAdded, HasMet, ShowsDone, HasSwept, HasCome, RefinesPurposes}
use Rattle.run_sweeps.proofs.Purposes.For.{key_is_for, sweep_for}
use Rattle.run_sweeps.proofs.Purposes.Lists.{all_on, all_both, yes_now, yes_still}
use Rattle.run_sweeps.proofs.Purposes.Shown.{same_still}
use Rattle.run_sweeps.proofs.Purposes.Still.{within_still, classes_still, come_still}
use Rattle.run_finds.specs.Given.ScenesHeld.{Held, IsAt}
use Rattle.run_finds.specs.Given.ScenesReplying.{scene_with}
use Rattle.run_finds.specs.Given.ScenesScene.{Scene, slot_of}
use Rattle.run_finds.specs.Given.SchedulesTransition.{Past}
use Rattle.run_finds.proofs.Given.General.{same_some as one_of}

-- a pair that is not among them is none of them
apart_step : (p x : ℕ) (xs : List ℕ) → times p (x ∷ xs) ≡ 0 → (x ≢ p) × (times p xs ≡ 0)
apart_step p x xs none = (
  λ e. (let one = subst (λ q. cond q 1 0 + times p xs ≡ 0) (eq-eqb p x (sym e)) none in omega (arith, one)),
  omega (arith, none),
)

pub all_apart : (p : ℕ) (xs : List ℕ) → times p xs ≡ 0 → AllByRecursion (λ x. x ≢ p) xs
all_apart p [] none = tt
all_apart p (x ∷ xs) none = let both = apart_step p x xs none in (both.0, all_apart p xs both.1)

-- numbers that rise are apart
pub numbers_apart : (number : ℕ → ℕ) (stored : ℕ) → ((n o : ℕ) → n < o → o < stored → number n < number o) → (n p : ℕ) → n < stored → p < stored → number n ≡ number p → n ≡ p
numbers_apart number stored rising n p n_there p_there same = by (cases_order n p)
  where
    by : (n ≡ p) ⊎ ((n < p) ⊎ (p < n)) → n ≡ p
    by (inl e) = e
    by (inr (inl l)) = absurd (let r = rising n p l p_there in omega (arith, r, same))
    by (inr (inr l)) = absurd (let r = rising p n l n_there in omega (arith, r, same))

-- what is told as yes is yes
is_yes_told : {V : Type 0} (r : Reply V) → reply_to_machine r ≡ reply.Yes → r ≡ Decides true
is_yes_told (Gives v) e = absurd (cc e)
is_yes_told Removes e = absurd (cc e)
is_yes_told (Aborts w) e = absurd (cc e)
is_yes_told (Decides true) e = refl
is_yes_told (Decides false) e = absurd (cc e)

-- a sweep that takes a reply asks about a pair
asks_word : {V : Type 0} (stands : Sweeping) (p : Sweep) (r : MachineReply V) → (sweep_with_reply stands p r).1 ≡ Ok tt → (word : ℕ) × (stands ≡ sweeping.Asks word)
asks_word (sweeping.Asks word) p r taken = (word, refl)
asks_word _ p r taken = absurd (cc taken)

reply_purpose : (p : Sweep) (keeps : Bool) → (after_reply p keeps).purpose ≡ p.purpose
reply_purpose p keeps = by p.stands keeps
  where
    by : (stands : Sweeping) (q : Bool) → (reply_at stands p q).purpose ≡ p.purpose
    by (sweeping.Asks word) true = refl
    by (sweeping.Asks word) false = refl
    by _ q = refl

-- what is so of a retaining that asks about the pair of a word
module _ {K V : Type 0} (same : K → K → Bool) (hash : ℕ → K → ℕ) (name : ℕ → List ℕ) (log : Past K V) (m : Moment K V) (known : Known) (s : Scene K V) (e : Held K V)
    (at : IsAt same hash e s) (shown : Refines same name m known s) (of i : ℕ) (o : CallOverAll) (here : s.calls of i ≡ Some (OverAll o)) (st : Standing K) (there : s.maps of ≡ Some st)
    (word : ℕ) (stands : o.sweep.stands ≡ sweeping.Asks word) (q : ℕ) (names : NamesNumber known word q) where
  each : Together V same st.hash same st.setting slot_of s.world st.chart st.blocks st.sights (s.calls of)
  each = at.together.makings.standing.each of st there

  lawful : AreLawful same st.hash
  lawful = (at.together.makings.standing.fit of st there).0

  abbrev seen : Blocks
  seen = seen_by st.blocks (st.sights (slot_of i))

  abbrev number : ℕ → ℕ
  number = shown.number of

  its_sight : IsVisibility st.chart st.blocks (st.sights (slot_of i))
  its_sight = (each.ground.sight (slot_of i) (each.inside i (OverAll o) here)).0

  knows : KnowsSweep V same st.hash same st.setting slot_of s.world st.chart seen i o o.sweep
  knows = elim (each.stand i (OverAll o) here) as (λ _. KnowsSweep V same st.hash same st.setting slot_of s.world st.chart seen i o o.sweep) [
    | inl k ↦ k.1
    | inr k ↦ absurd (subst IsRowOfSweep stands k.1)
  ]

  pub retains : o.sweep.purpose ≡ Retains
  retains = (subst (SweepingFacts same st.hash s.world i (in_slot st.setting (slot_of i)) st.chart seen o.began o.sweep) stands knows.facts.point).0

  -- the pair of the word has this number
  pub number_is : (n : ℕ) → NamesPair st.hash st.chart seen word n → (n < st.chart.stored) × (number n ≡ q)
  number_is n (l, known_too, phase, borrowed, word_is) =
      let one : role.Pair q ≡ role.Pair (number n) =
      sym names ∙ ap known.roles (named_by same st.hash lawful st.chart seen word n phase borrowed word_is) ∙ (shown.maps of st there).pairs.roles n l (its_sight.pairs n l known_too) in
      let same_number : q ≡ number n = cc one in (l, sym same_number)

  -- and is not done
  pub fresh : (p : ℕ) × (p < st.chart.stored) × (number p ≡ q) × (times p o.done ≡ 0)
  fresh = by (subst (CoversAt st.hash st.chart seen o.sweep o.entered o.done) stands knows.covers)
    where
      by : CoversAt st.hash st.chart seen o.sweep o.entered o.done (sweeping.Asks word) → (p : ℕ) × (p < st.chart.stored) × (number p ≡ q) × (times p o.done ≡ 0)
      by (covers, p, named, about) = let it = number_is p named in (p, it.0, it.1, about.fresh)

  pub others : AllByRecursion (λ n. n < st.chart.stored) o.done → AllByRecursion (λ n. number n ≢ q) o.done
  others below =
      all_on (λ n. (n < st.chart.stored) × (n ≢ fresh.0)) (λ n. number n ≢ q)
      (λ n h same_number. h.1 (numbers_apart number st.chart.stored (shown.maps of st there).pairs.rising n fresh.0 h.0 fresh.1 (same_number ∙ sym fresh.2))) o.done
      (all_both (λ n. n < st.chart.stored) (λ n. n ≢ fresh.0) o.done below (all_apart fresh.0 o.done fresh.3))

  -- once it is told about that pair
  module _ (c d : CallThere K V) (told_so : Reply V) (m2 : Moment K V) (place : m2.place ≡ m.place) (stored : m2.stored ≡ m.stored) (same_call : d.call ≡ c.call) (begun : d.begun ≡ c.begun)
      (replies : d.replies ≡ (Some q, told_so) ∷ c.replies) (is_for : IsFor (OverAll o) c.call) (had : HasSwept same of st number (since log m c) o c) where
    -- it has done that, by yes, or no more
    abbrev pub Does : List ℕ → Type 0
    Does done2 = (done2 ≡ o.done) ⊎ ((p : ℕ) × (done2 ≡ p ∷ o.done) × (p < st.chart.stored) × (number p ≡ q) × (told_so ≡ Decides true))

    abbrev IsYes : CallThere K V → ℕ → Type 0
    IsYes x n = is_yes (reply_to (Some (number n)) x.replies) ≡ true

    yes_all : AllByRecursion (IsYes c) o.done → AllByRecursion (IsYes d) o.done
    yes_all said_yes =
        all_on (λ n. (number n ≢ q) × IsYes c n) (IsYes d)
        (λ n h. ap (λ (r : List (Option ℕ × Reply V)). is_yes (reply_to (Some (number n)) r)) replies ∙ yes_still (number n) q c.replies told_so h.0 h.1) o.done
        (all_both (λ n. number n ≢ q) (IsYes c) o.done (others had.stored) said_yes)

    yes_done : (done2 : List ℕ) → Does done2 → AllByRecursion (IsYes c) o.done → AllByRecursion (IsYes d) done2
    yes_done done2 (inl kept) said_yes = subst (AllByRecursion (IsYes d)) (sym kept) (yes_all said_yes)
    yes_done done2 (inr (p, is, below, number_p, told_yes)) said_yes =
        subst (AllByRecursion (IsYes d)) (sym is) (
          ap (λ (r : List (Option ℕ × Reply V)). is_yes (reply_to (Some (number p)) r)) replies
              ∙ ap (λ (r : Reply V). is_yes (reply_to (Some (number p)) ((Some q, r) ∷ c.replies))) told_yes ∙ yes_now (number p) q c.replies number_p,
          yes_all said_yes,
        )

    tells : (its : Call K V) → IsFor (OverAll o) its → ShowsDone its number o.done c → (done2 : List ℕ) → Does done2 → ShowsDone its number done2 d
    tells (call.On one) is has done2 does = tt
    tells (call.Reserve more) is has done2 does = tt
    tells call.Clear is has done2 does = tt
    tells call.Retain is has done2 does = yes_done done2 does has
    tells call.Len is has done2 does = tt
    tells call.Walk is has done2 does = absurd (let r = retains in cc (r, is))

    below_done : (done2 : List ℕ) → Does done2 → AllByRecursion (λ n. n < st.chart.stored) done2
    below_done done2 (inl kept) = subst (AllByRecursion (λ n. n < st.chart.stored)) (sym kept) had.stored
    below_done done2 (inr (p, is, below, number_p, told_yes)) = subst (AllByRecursion (λ n. n < st.chart.stored)) (sym is) (below, had.stored)

    pub told_come : (x : CallOverAll) → x.began ≡ o.began → x.sweep.purpose ≡ o.sweep.purpose → Does x.done → HasSwept same of st number (since log m2 d) x d
    told_come x began purpose does = record {
      within = subst (PairsWithin of st number (since log m2 d)) (sym began) (within_still same of st number log m m2 place stored c d begun o.began had.within);
      stored = below_done x.done does;
      tells = subst (λ (y : Call K V). ShowsDone y number x.done d) (sym same_call) (tells c.call is_for had.tells x.done does);
      none = λ walks first. absurd (let r = retains in cc (walks, purpose, r));
      keys = λ walks. absurd (let r = retains in cc (walks, purpose, r));
      classes = subst (IsWithin same of st number (since log m2 d)) (sym began) (classes_still same of st number log m m2 place stored c d begun o.began had.classes);
    }

module _ {K V : Type 0} (same : K → K → Bool) (hash : ℕ → K → ℕ) (name : ℕ → List ℕ) (log : Past K V) (m : Moment K V) (known : Known) (s : Scene K V) (e : Held K V)
    (at : IsAt same hash e s) (whole : RefinesWhole same name m known s) (purposes : RefinesPurposes same name log m known s) (of i : ℕ) (u : UnderWay K V K) (here : s.calls of i ≡ Some u)
    (c : CallThere K V) (c_is : call_of (name i) m ≡ Some c) (question : Option ℕ) (c_asks : c.stands ≡ Asking question) (about : AsksAboutIt known u question) (st : Standing K)
    (there : s.maps of ≡ Some st) (is_told : Reply V) (next : UnderWay K V K) (taken : (machine_replied (machine_of u) (reply_to_machine is_told)).1 ≡ Ok tt)
    (goes : RepliedOfKind V same same e.batch_size e.roots slot_of st i u (reply_to_machine is_told) next) where
  abbrev v : Moment K V
  v = told (name i) is_told m

  abbrev tells_it : CallThere K V → CallThere K V
  tells_it y = replied is_told y y.stands

  abbrev after : CallThere K V
  after = record c { stands = Told; replies = (question, is_told) ∷ c.replies }

  b : (shows : Refines same name v known (scene_with of i next s)) × (shows.number ≡ purposes.shown.number)
  b = told_with same name m known s purposes.shown of i u here e.batch_size e.roots st (reply_to_machine is_told) next goes is_told

  own_found : call_of (name i) v ≡ Some after
  own_found =
      found tells_it (λ y. replied_same is_told y y.stands) (name i) (name i) m.calls c c_is
      ∙ ap Some (ap (λ q. if q then tells_it c else c) (ap (λ (l : List ℕ). is_same l (name i)) (caller_is (name i) m c c_is) ∙ is_same_refl (name i))
      ∙ ap (replied is_told c) c_asks)

  -- other calls are as they were
  other_same : (n j : ℕ) (x : UnderWay K V K) → (n ≡ of → j ≡ i → ⊥) → s.calls n j ≡ Some x → (a d : CallThere K V) → call_of (name j) m ≡ Some a → call_of (name j) v ≡ Some d → d ≡ a
  other_same n j x other x_is a d a_is d_is =
      one_of d (if is_same a.caller (name i) then tells_it a else a) (sym d_is ∙ found tells_it (λ y. replied_same is_told y y.stands) (name i) (name j) m.calls a a_is)
      ∙ ap (λ q. if q then tells_it a else a) (ap (λ (l : List ℕ). is_same l (name i)) (caller_is (name j) m a a_is) ∙ by (is_same (name j) (name i)) refl)
    where
      by : (z : Bool) → is_same (name j) (name i) ≡ z → is_same (name j) (name i) ≡ false
      by false f = f
      by true f = absurd (let one = whole.all.asked.apart n j of i x u x_is here f in other one.0 one.1)

  -- the call's own
  module _ (d : CallThere K V) (d_is : d ≡ after) where
    own_for : (y : UnderWay K V K) → IsFor y c.call → RepliedOfKind V same same e.batch_size e.roots slot_of st i y (reply_to_machine is_told) next → IsFor next d.call
    own_for y is to = subst (λ (f : CallThere K V). IsFor next f.call) (sym d_is) (by y is to)
      where
        by : (y : UnderWay K V K) → IsFor y c.call → RepliedOfKind V same same e.batch_size e.roots slot_of st i y (reply_to_machine is_told) next → IsFor next c.call
        by (OnKey z) is (inl (asks_at, asked, stands, asks, next_is)) = key_is_for c.call z _ next next_is is
        by (OnKey z) is (inr next_is) = subst (λ (y : UnderWay K V K). IsFor y c.call) (sym next_is) is
        by (ForRoom r) is next_is = subst (λ (y : UnderWay K V K). IsFor y c.call) (sym next_is) is
        by (Counting sum) is next_is = subst (λ (y : UnderWay K V K). IsFor y c.call) (sym next_is) is
        by (OverAll o) is (inl (word, n, stands, names, inl (kept, next_is))) =
            subst (λ (y : UnderWay K V K). IsFor y c.call) (sym next_is) (sweep_for c.call o (with_verdict o n true) (reply_purpose o.sweep true) is)
        by (OverAll o) is (inl (word, n, stands, names, inr (left, next_is))) =
            subst (λ (y : UnderWay K V K). IsFor y c.call) (sym next_is) (sweep_for c.call o (with_verdict o n false) (reply_purpose o.sweep false) is)
        by (OverAll o) is (inr next_is) = subst (λ (y : UnderWay K V K). IsFor y c.call) (sym next_is) is

    module _ (o : CallOverAll) (o_is : s.calls of i ≡ Some (OverAll o)) (u_is : u ≡ OverAll o) where
      asks : (word : ℕ) × (o.sweep.stands ≡ sweeping.Asks word)
      asks = asks_word o.sweep.stands o.sweep (reply_to_machine is_told) (subst (λ (y : UnderWay K V K). (machine_replied (machine_of y) (reply_to_machine is_told)).1 ≡ Ok tt) u_is taken)

      asked : (q : ℕ) × (question ≡ Some q) × NamesNumber known asks.0 q
      asked = about o u_is asks.0 asks.1

      had : HasSwept same of st (purposes.shown.number of) (since log m c) o c
      had = purposes.come of i (OverAll o) o_is st there c c_is

      abbrev DoesNow : List ℕ → Type 0
      DoesNow done2 = (done2 ≡ o.done) ⊎ ((p : ℕ) × (done2 ≡ p ∷ o.done) × (p < st.chart.stored) × (purposes.shown.number of p ≡ asked.0) × (is_told ≡ Decides true))

      come_by : (x : CallOverAll) → x.began ≡ o.began → x.sweep.purpose ≡ o.sweep.purpose → DoesNow x.done → HasSwept same of st (purposes.shown.number of) (since log v d) x d
      come_by x began purpose does =
          told_come same hash name log m known s e at purposes.shown of i o o_is st there asks.0 asks.1 asked.0 asked.2 c d is_told v refl refl (ap (λ (f : CallThere K V). f.call) d_is)
          (ap (λ (f : CallThere K V). f.begun) d_is)
          (ap (λ (f : CallThere K V). f.replies) d_is ∙ ap (λ (a : Option ℕ). (a, is_told) ∷ c.replies) asked.1) (purposes.is_for of i (OverAll o) o_is c c_is) had x began purpose does

      number_of : (word n : ℕ) → o.sweep.stands ≡ sweeping.Asks word → NamesPair st.hash st.chart (seen_by st.blocks (st.sights (slot_of i))) word n
          → (n < st.chart.stored) × (purposes.shown.number of n ≡ asked.0)
      number_of word n stands names =
          let same_word : word ≡ asks.0 = (let one = asks.1 in cc (one, stands)) in
          number_is same hash name log m known s e at purposes.shown of i o o_is st there asks.0 asks.1 asked.0 asked.2 n
          (subst (λ (z : ℕ). NamesPair st.hash st.chart (seen_by st.blocks (st.sights (slot_of i))) z n) same_word names)

      own_sweep : RepliedOfKind V same same e.batch_size e.roots slot_of st i (OverAll o) (reply_to_machine is_told) next → HasCome same of st (purposes.shown.number of) log v next d
      own_sweep (inl (word, n, stands, names, inl (kept, next_is))) =
          let it = number_of word n stands names in
          subst (λ (y : UnderWay K V K). HasCome same of st (purposes.shown.number of) log v y d) (sym next_is)
          (come_by (with_verdict o n true) refl (reply_purpose o.sweep true) (inr (n, refl, it.0, it.1, is_yes_told is_told kept)))
      own_sweep (inl (word, n, stands, names, inr (left, next_is))) =
          subst (λ (y : UnderWay K V K). HasCome same of st (purposes.shown.number of) log v y d) (sym next_is) (come_by (with_verdict o n false) refl (reply_purpose o.sweep false) (inl refl))
      own_sweep (inr next_is) = subst (λ (y : UnderWay K V K). HasCome same of st (purposes.shown.number of) log v y d) (sym next_is) (come_by o refl refl (inl refl))

    own_come : (y : UnderWay K V K) → s.calls of i ≡ Some y → u ≡ y → RepliedOfKind V same same e.batch_size e.roots slot_of st i y (reply_to_machine is_told) next → HasCome same of st (purposes.shown.number of) log v next d
    own_come (OnKey z) y_is u_is (inl (at_it, of_it, stands, it_asks, next_is)) = subst (λ (y : UnderWay K V K). HasCome same of st (purposes.shown.number of) log v y d) (sym next_is) tt
    own_come (OnKey z) y_is u_is (inr next_is) = subst (λ (y : UnderWay K V K). HasCome same of st (purposes.shown.number of) log v y d) (sym next_is) tt
    own_come (ForRoom r) y_is u_is next_is =
        subst (λ (y : UnderWay K V K). HasCome same of st (purposes.shown.number of) log v y d) (sym next_is)
        (subst (λ (z : ℕ). HasMet of st (log.since z) r) (sym (ap (λ (f : CallThere K V). f.begun) d_is)) (purposes.come of i (ForRoom r) y_is st there c c_is))
    own_come (Counting sum) y_is u_is next_is =
        subst (λ (y : UnderWay K V K). HasCome same of st (purposes.shown.number of) log v y d) (sym next_is)
        (subst (λ (z : ℕ). HasAdded of (log.since z) sum.setting.mask sum.stands) (sym (ap (λ (f : CallThere K V). f.begun) d_is)) (purposes.come of i (Counting sum) y_is st there c c_is))
    own_come (OverAll o) y_is u_is to = own_sweep o y_is u_is to

  abbrev Which : ℕ → ℕ → UnderWay K V K → Type 0
  Which n j x = ((n ≡ of) × (j ≡ i) × (◌≡◌ {A = Option (UnderWay K V K)} (Some next) (Some x))) ⊎ ((n ≡ of → j ≡ i → ⊥) × (s.calls n j ≡ Some x))

  own_is : (n j : ℕ) (d : CallThere K V) → call_of (name j) v ≡ Some d → j ≡ i → d ≡ after
  own_is n j d d_is e = one_of d after (sym d_is ∙ ap (λ (k : ℕ). call_of (name k) v) e ∙ own_found)

  begun_one : (n j : ℕ) (x : UnderWay K V K) (d : CallThere K V) → call_of (name j) v ≡ Some d → Which n j x → d.begun ≤ log.entries
  begun_one n j x d d_is (inl a) = subst (λ (f : CallThere K V). f.begun ≤ log.entries) (sym (own_is n j d d_is a.1)) (purposes.begun of i u here c c_is)
  begun_one n j x d d_is (inr was) =
      let f = purposes.shown.calls n j x was.1 in
      subst (λ (y : CallThere K V). y.begun ≤ log.entries) (sym (other_same n j x was.0 was.1 f.0 d f.1 d_is)) (purposes.begun n j x was.1 f.0 f.1)

  for_one : (n j : ℕ) (x : UnderWay K V K) (d : CallThere K V) → call_of (name j) v ≡ Some d → Which n j x → IsFor x d.call
  for_one n j x d d_is (inl a) = subst (λ (y : UnderWay K V K). IsFor y d.call) (one_of next x a.2) (own_for d (own_is n j d d_is a.1) u (purposes.is_for of i u here c c_is) goes)
  for_one n j x d d_is (inr was) =
      let f = purposes.shown.calls n j x was.1 in
      subst (λ (y : CallThere K V). IsFor x y.call) (sym (other_same n j x was.0 was.1 f.0 d f.1 d_is)) (purposes.is_for n j x was.1 f.0 f.1)

  come_one : (n j : ℕ) (x : UnderWay K V K) (z : Standing K) → s.maps n ≡ Some z → (d : CallThere K V) → call_of (name j) v ≡ Some d → Which n j x
      → HasCome same n z (purposes.shown.number n) log v x d
  come_one n j x z z_is d d_is (inl a) =
      subst (λ (k : ℕ). HasCome same k z (purposes.shown.number k) log v x d) (sym a.0)
      (subst (λ (y : UnderWay K V K). HasCome same of z (purposes.shown.number of) log v y d) (one_of next x a.2)
      (subst (λ (w : Standing K). HasCome same of w (purposes.shown.number of) log v next d) (one_of st z (sym there ∙ ap s.maps (sym a.0) ∙ z_is)) (own_come d (own_is n j d d_is a.1) u here refl goes)))
  come_one n j x z z_is d d_is (inr was) =
      let f = purposes.shown.calls n j x was.1 in
      subst (λ (y : CallThere K V). HasCome same n z (purposes.shown.number n) log v x y) (sym (other_same n j x was.0 was.1 f.0 d f.1 d_is))
      (come_still same n z (purposes.shown.number n) log m v refl refl f.0 f.0 (same_still f.0) x (purposes.come n j x was.1 z z_is f.0 f.1))

  pub told_purposes : RefinesPurposes same name log v known (scene_with of i next s)
  told_purposes = record {
    past = purposes.past;
    lasts = purposes.lasts;
    shown = b.0;
    begun = λ n j x is d d_is. begun_one n j x d d_is (which s.calls of i (Some next) n j x is);
    is_for = λ n j x is d d_is. for_one n j x d d_is (which s.calls of i (Some next) n j x is);
    come = λ n j x is z z_is d d_is.
        subst (λ (f : ℕ → ℕ → ℕ). HasCome same n z (f n) log v x d) (sym b.1) (come_one n j x z z_is d d_is (which s.calls of i (Some next) n j x is));
  }

pub calls_take_purposes : (K V : Type 0) (same : K → K → Bool) (hash : ℕ → K → ℕ) → CallsTakePurposes K V same hash
calls_take_purposes K V same hash name log m known s e at whole purposes of i u here c c_is question c_asks about st there is_told next taken goes =
    told_purposes same hash name log m known s e at whole purposes of i u here c c_is question c_asks about st there is_told next taken goes
