-- Wherever a list of acts has led, what is told of the calls of a seat is so in its history: act by act.
use Rattle.std.specs.Prelude.{◌++◌, ◌==◌, ◌<◌, ◌^◌, suc, Option, Some, None, if◌then◌else◌}
use Rattle.std.specs.List.{AllByRecursion}
use Rattle.std.proofs.Common.{◌≡◌, ℕ, Bool, List, [], ◌∷◌, refl, sym, subst, ap, ◌∙◌}
use Rattle.std.proofs.lemmas.List.{append-nil}
use Rattle.play_linear.proofs.Given.ActsFurther.{led_further}
use Rattle.threads_rule.proofs.Views.Listed.{numbered_on}
use Rattle.run_legal.specs.Given.TablesDeclared.node.Node.{Node}
use Rattle.threads_rule.specs.Views.Listed.{Called, AreNumbered, calls_of, calls_then, has_progressed, seat_of, seen_of, seen_then}
use Rattle.run_schedules.specs.Schedules.After.{AtEachEvent}
use Rattle.run_schedules.specs.Deeds.Deeds.{moment}
use Rattle.run_schedules.specs.Deeds.History.{IsLinearizable, past}
use Rattle.run_legal.specs.Given.ScenesScene.{slot_of}
use Rattle.seize_acts.specs.Acts.Answers.{then_on}
use Rattle.run_schedules.specs.Given.SeizeWordsMem.{Mem}
use Rattle.seize_acts.specs.Given.SeizeDeclared.rows.reclaim_all.ReclaimAll.{ReclaimAll}
use Rattle.run_legal.specs.Given.FollowsBlocks.{HasRole}
use Rattle.threads_rule.specs.Given.ActsActs.{Act, Answer, Nothing, BeginsCall, StepsCall, TellsCall, AsksCall, StopsCall, BeginsMaking, StepsMaking, BeginsEnding, StepsEnding, BeginsRow, StepsRow}
use Rattle.play_linear.specs.Given.ActsAsSteps.{changed_by}
use Rattle.play_linear.specs.Given.ActsDoings.{Doing, Does, BeginsReclaiming, BeginsClearing, StepsReclaiming, Chooses, MayDo}
use Rattle.play_linear.specs.Given.ActsLists.{Course, LedOn, LedTo, Reached, nothing_done, on_by}
use Rattle.play_linear.specs.Given.AgreesFresh.{HasNewNumber}
use Rattle.play_linear.specs.Linear.Linear.{IsOfOwn}
use Rattle.play_linear.specs.Given.PlayedPlay.{State, all_begun, choice_come, first_state, play, play_all}
use Rattle.play_linear.specs.Given.PlayedReached.{IsOf, rows_beside}
use Rattle.play_linear.proofs.Given.AgreesComing.{once_is_new}
use Rattle.play_linear.proofs.Given.AgreesGivenBack.{again_first}
use Rattle.play_linear.proofs.Linear.Holding.{AllHolds}
use Rattle.play_linear.proofs.Linear.Linear.{wherever_led}
use Rattle.play_linear.proofs.Linear.Stays.{all_stay, first_holds}
use Rattle.play_linear.proofs.Given.PlayedAlong.{At, Is, StaysSo, far}
use Rattle.play_linear.proofs.Given.PlayedPlayedAs.{played_as, reclaimed_as}
use Rattle.play_linear.proofs.Given.PlayedTied.{call_tied}
use Rattle.play_moves.proofs.OneHistory.Acts.{IsOther, PairsAreThere, acts_tell, nothing_tells, reclaiming_tells, steps_tell}
use Rattle.play_moves.proofs.OneHistory.Lookups.{lookup_owes}
use Rattle.play_moves.proofs.OneHistory.Numbers.{once}
use Rattle.play_moves.proofs.OneHistory.Tells.{Tells}
use Rattle.play_moves.proofs.OneHistory.Words.{HasWords, acts_say, reclaiming_says, silent}
use Rattle.run_schedules.proofs.Given.General.{same_some, all_and_one as all_more}

module _ {X : Type 0} where
  -- what comes is what was there
  one_only : (o : Option X) (y : X) → then_on o (λ x. Some x) ≡ Some y → o ≡ Some y
  one_only None y e = absurd (cc e)
  one_only (Some x) y e = e

  after_more : (xs ys : List X) (x : X) → (xs ++ x ∷ []) ++ ys ≡ xs ++ x ∷ ys
  after_more [] ys x = refl
  after_more (y ∷ xs) ys x = ap (λ (l : List X). y ∷ l) (after_more xs ys x)

module _ {K V S : Type 0} where
  -- numbers up to an act, and from it on
  first_numbered : (doing : Doing K V S) (doings : List (Doing K V S)) (k end : ℕ) → AreNumbered k (doing ∷ doings) end → (l : ℕ) × AreNumbered k (doing ∷ []) l × AreNumbered l doings end
  first_numbered (Does (BeginsMaking i m hasher given places)) doings k end are = (suc k, (are.0, refl), are.1)
  first_numbered _ doings k end are = (k, refl, are)

module _ {K S : Type 0} (V : Type 0) (same : K → K → Bool) (by_hasher : S → K → ℕ) (hash : ℕ → K → ℕ) (batch_size roots : ℕ) (small : batch_size < 2 ^ 64) (aborts : ℕ → V)
    (course : Course V same by_hasher batch_size roots slot_of) where
  abbrev first : Reached V same by_hasher batch_size roots slot_of
  first = nothing_done V same by_hasher batch_size roots slot_of course

  abbrev Here : At V same by_hasher hash batch_size roots → State K V S → Type 0
  Here p x = AllHolds same x p.0 × Is V same by_hasher hash batch_size roots aborts p x × HasWords x

  here_stays : StaysSo V same by_hasher hash batch_size roots aborts HasNewNumber Here
  here_stays = record {
    acts = λ p n x y act told own fits none none_then is is_then at may led leads at_then played here. (
      stays.acts p n x y act told own fits none none_then is is_then at may led leads at_then played here.0,
      is_then,
      acts_say same by_hasher hash batch_size roots aborts x y p.0 n.0
          (subst (λ (o : Option (ℕ × ReclaimAll)). IsOf by_hasher p.0 (rows_beside o p.0.world.row) x.now) none is.scene) at here.0.holds told act
          (played_as same by_hasher batch_size roots aborts x y act played) led leads,
    );
    begins = λ p n x i c none begun same_scene all_free is is_then at here.
        (stays.begins p n x i c none begun same_scene all_free is is_then at here.0, is_then, silent (all_begun c x) x.told Nothing refl (λ said e. cc e));
    steps = λ p n x y told g st is is_then at leads comes played here. (
      stays.steps p n x y told g st is is_then at leads comes played here.0,
      is_then,
      reclaiming_says same by_hasher hash batch_size roots aborts x y g (reclaimed_as same by_hasher batch_size roots aborts x y g played),
    );
    chooses = λ p n x choice none none_then scene is is_then at here.
        (stays.chooses p n x choice none none_then scene is is_then at here.0, is_then, silent (choice_come choice x) x.told Nothing refl (λ said e. cc e));
  }
    where
      stays : StaysSo V same by_hasher hash batch_size roots aborts HasNewNumber (λ p x. AllHolds same x p.0)
      stays = all_stay V same by_hasher hash batch_size roots aborts

  first_has : HasWords {K = K} {V = V} {S = S} (first_state roots)
  first_has i said before e earlier c told entries deed there = absurd (cc entries)

  first_is : Is V same by_hasher hash batch_size roots aborts first.0 (first_state roots)
  first_is = record {
    scene = record { memory = refl; maps = λ m. refl; calls = λ m i. refl; makers = λ i. refl; enders = λ i. refl; between = λ i rest. refl; calling = λ m i u has. absurd (cc has) };
    all = refl;
  }

  -- These acts, whose makings have the numbers below this one, have led here, as they are played.
  pub record LedThere (done : List (Doing K V S)) (end : ℕ) (a : Reached V same by_hasher batch_size roots slot_of) (x : State K V S) : Type 0 where
    pub led : LedOn V same by_hasher batch_size roots slot_of course done first a
    pub own : AllByRecursion (IsOfOwn V same by_hasher hash batch_size roots) done
    pub numbered : AreNumbered 0 done end
    pub played : play_all same by_hasher batch_size roots aborts done (first_state roots) ≡ Some x
    pub here : Here a.0 x

  reach : (done : List (Doing K V S)) (a : Reached V same by_hasher batch_size roots slot_of) → LedOn V same by_hasher batch_size roots slot_of course done first a
      → AllByRecursion (IsOfOwn V same by_hasher hash batch_size roots) done → (end : ℕ) → AreNumbered 0 done end → (x : State K V S) × LedThere done end a x
  reach done a led own end numbered =
      let to = wherever_led V same by_hasher hash batch_size roots small aborts Here here_stays course done a led own
      (once_is_new V same by_hasher hash batch_size roots aborts done (once done 0 end numbered)) (first_holds V same by_hasher hash batch_size roots aborts first.0 refl (again_first roots), first_is, first_has) in
      (to.0, record { led = led; own = own; numbered = numbered; played = to.1; here = to.2 })

  nothing_led : LedThere [] 0 first (first_state roots)
  nothing_led = record { led = refl; own = tt; numbered = refl; played = refl; here = (first_holds V same by_hasher hash batch_size roots aborts first.0 refl (again_first roots), first_is, first_has) }

  abbrev play_each : List (Doing K V S) → State K V S → Option (State K V S)
  play_each = play_all same by_hasher batch_size roots aborts

  play_more : (done more : List (Doing K V S)) (x : State K V S) → play_each (done ++ more) x ≡ then_on (play_each done x) (play_each more)
  play_more [] more x = refl
  play_more (doing ∷ done) more x = by (λ y. play_more done more y) (play same by_hasher batch_size roots aborts doing x)
    where
      by : ((y : State K V S) → play_each (done ++ more) y ≡ then_on (play_each done y) (play_each more)) → (o : Option (State K V S))
          → then_on o (play_each (done ++ more)) ≡ then_on (then_on o (play_each done)) (play_each more)
      by rest None = refl
      by rest (Some y) = rest y

  -- one act more
  module _ (done : List (Doing K V S)) (k : ℕ) (a : Reached V same by_hasher batch_size roots slot_of) (x : State K V S) (there : LedThere done k a x) (doing : Doing K V S)
      (may : MayDo V same by_hasher batch_size roots slot_of doing a.0) (own : IsOfOwn V same by_hasher hash batch_size roots doing) (l : ℕ) (numbered : AreNumbered k (doing ∷ []) l) where
    abbrev next : Reached V same by_hasher batch_size roots slot_of
    next = on_by V same by_hasher batch_size roots slot_of course a doing may

    further : (z : State K V S) × LedThere (done ++ doing ∷ []) l next z
    further =
        reach (done ++ doing ∷ []) next (led_further V same by_hasher batch_size roots slot_of course done (doing ∷ []) first a next there.led (may, refl))
        (all_more (IsOfOwn V same by_hasher hash batch_size roots) done doing there.own own) l (numbered_on done (doing ∷ []) 0 k l there.numbered numbered)

    plays : play same by_hasher batch_size roots aborts doing x ≡ Some further.0
    plays =
        one_only (play same by_hasher batch_size roots aborts doing x) further.0
        (sym (ap (λ (o : Option (State K V S)). then_on o (play_each (doing ∷ []))) there.played) ∙ sym (play_more done (doing ∷ []) (first_state roots)) ∙ further.1.played)

  module _ (seat : ℕ) where
    -- by whatever is done there
    module _ (a n : Reached V same by_hasher batch_size roots slot_of) (x z : State K V S) (here : Here a.0 x) (here_then : Here n.0 z) (calls : List (Called K V))
        (seen : Option (ℕ × Mem (Node K V))) (tells : Tells same seat x calls seen) where
      -- whatever is noted as a pair is that pair
      pairs : PairsAreThere z n.0.0.world.memory
      pairs b k is =
          let there = subst (HasRole n.0.0.world (moment z.history).stored b) is (here_then.0.holds.shows.whole.all.shown.blocks.roles b) in (there.0, there.1, there.2, there.3)

      other : (act : Act K V S) (may : MayDo V same by_hasher batch_size roots slot_of (Does act) a.0) → IsOther act → play same by_hasher batch_size roots aborts (Does act) x ≡ Some z
          → Tells same seat z (calls_then seat (Does act) (course.told a.0 (Does act) may) calls) seen
      other act may is_other played =
          acts_tell same by_hasher batch_size roots aborts seat x z calls seen tells here_then.0.holds.noted act is_other (course.told a.0 (Does act) may)
          (played_as same by_hasher batch_size roots aborts x z act played)

      abbrev Then : (doing : Doing K V S) → MayDo V same by_hasher batch_size roots slot_of doing a.0 → Type 0
      Then doing may = Tells same seat z (calls_then seat doing (course.told a.0 doing may) calls) (seen_then seat doing n.0.0.world.memory seen)

      acts : (act : Act K V S) (may : MayDo V same by_hasher batch_size roots slot_of (Does act) a.0) → play same by_hasher batch_size roots aborts (Does act) x ≡ Some z → Then (Does act) may
      acts (StepsCall i m g) may played =
          let came = (course.leads a.0 (Does (StepsCall i m g)) may).0 in
          let tied = call_tied same by_hasher batch_size roots aborts a.0.0 (course.next a.0 (Does (StepsCall i m g)) may).0
          (rows_beside (far V same by_hasher hash batch_size roots a.0) a.0.0.world.row) x z here.1.scene i m g (course.told a.0 (Does (StepsCall i m g)) may) came
          (played_as same by_hasher batch_size roots aborts x z (StepsCall i m g) played) in
          let changed = changed_by {S = S} same (StepsCall i m g) a.0.0 in
          let memory = n.0.0.world.memory in
          let next = if seat == seat_of i then Some (i, memory) else seen in
          subst (λ (told : Answer K V). Tells same seat z (calls_then {S = S} seat (Does (StepsCall i m g)) told calls) next) (sym came.tells)
          (subst (λ (v : State K V S). Tells same seat v (if seat == seat_of i then has_progressed i came.progress calls else calls) next) (sym tied.comes)
          (steps_tell same seat x calls seen tells here.0.holds.noted i m tied.it tied.here changed came.memory came.machine came.progress
          (subst (λ (v : State K V S). AtEachEvent (IsLinearizable same) v.history) tied.comes here_then.0.holds.each)
          (λ u is. lookup_owes same (past x.history) (moment x.history) x.known a.0.0 here.0.holds.shows.dues m i came.call came.here came.standing came.stands u is)
          (subst (λ (v : State K V S). HasWords v) tied.comes here_then.2) memory (subst (λ (v : State K V S). PairsAreThere v memory) tied.comes pairs)))
      acts (BeginsCall i m wanted) may played = other (BeginsCall i m wanted) may tt played
      acts (TellsCall i m reply) may played = other (TellsCall i m reply) may tt played
      acts (AsksCall i m) may played = other (AsksCall i m) may tt played
      acts (StopsCall i m) may played = other (StopsCall i m) may tt played
      acts (BeginsMaking i map hasher given places) may played = other (BeginsMaking i map hasher given places) may tt played
      acts (StepsMaking i g) may played = other (StepsMaking i g) may tt played
      acts (BeginsEnding i m) may played = other (BeginsEnding i m) may tt played
      acts (StepsEnding i g) may played = other (StepsEnding i g) may tt played
      acts (BeginsRow i request) may played = other (BeginsRow i request) may tt played
      acts (StepsRow i g) may played = other (StepsRow i g) may tt played

      -- where nothing was done but that something has begun
      begun : (y : State K V S) → Some y ≡ Some z → y.history ≡ x.history → y.now.calls ≡ x.now.calls → Tells same seat z calls seen
      begun y is history_is calls_are =
          subst (λ (v : State K V S). Tells same seat v calls seen) (same_some y z is) (nothing_tells same by_hasher batch_size roots aborts seat x y calls seen tells history_is calls_are)

      does : (doing : Doing K V S) (may : MayDo V same by_hasher batch_size roots slot_of doing a.0) → play same by_hasher batch_size roots aborts doing x ≡ Some z → Then doing may
      does (Does act) may played = acts act may played
      does (BeginsReclaiming i) may played = begun _ played refl refl
      does (BeginsClearing i) may played = begun _ played refl refl
      does (StepsReclaiming g) may played =
          reclaiming_tells same by_hasher batch_size roots aborts seat x z calls seen tells g (reclaimed_as same by_hasher batch_size roots aborts x z g played)
      does (Chooses choice) may played = begun _ played refl refl

    -- So on and on.
    walk : (todo done : List (Doing K V S)) (k : ℕ) (a : Reached V same by_hasher batch_size roots slot_of) (x : State K V S) → LedThere done k a x
        → (y : Reached V same by_hasher batch_size roots slot_of) (led : LedOn V same by_hasher batch_size roots slot_of course todo a y)
        → AllByRecursion (IsOfOwn V same by_hasher hash batch_size roots) todo → (end : ℕ) → AreNumbered k todo end → (calls : List (Called K V)) (seen : Option (ℕ × Mem (Node K V)))
        → Tells same seat x calls seen
        → (answers : List (Answer K V)) × (y.1 ≡ a.1 ++ answers) × (after : State K V S) × (play_each todo x ≡ Some after)
        × Tells same seat after (calls_of seat todo answers calls) (seen_of V same by_hasher batch_size roots slot_of course seat todo a y led seen)
    walk [] done k a x there y led own end numbered calls seen tells =
        ([], ap (λ (z : Reached V same by_hasher batch_size roots slot_of). z.1) led ∙ sym (append-nil a.1), x, refl, tells)
    walk (doing ∷ todo) done k a x there y (may, led) own end numbered calls seen tells =
        let parts = first_numbered doing todo k end numbered in
        let to = further done k a x there doing may own.0 parts.0 parts.1 in
        let played = plays done k a x there doing may own.0 parts.0 parts.1 in
        let told = course.told a.0 doing may in
        let then_at = next done k a x there doing may own.0 parts.0 parts.1 in
        let rest = walk todo (done ++ doing ∷ []) parts.0 then_at to.0 to.1 y led own.1 end parts.2 (calls_then seat doing told calls) (seen_then seat doing then_at.0.0.world.memory seen)
        (does a then_at x to.0 there.here to.1.here calls seen tells doing may played) in
        (told ∷ rest.0, rest.1 ∙ after_more a.1 rest.0 told, rest.2, ap (λ (o : Option (State K V S)). then_on o (play_each todo)) played ∙ rest.3, rest.4)

    pub all_tell : (doings : List (Doing K V S)) (y : Reached V same by_hasher batch_size roots slot_of) (led : LedTo V same by_hasher batch_size roots slot_of course doings y)
        → AllByRecursion (IsOfOwn V same by_hasher hash batch_size roots) doings → (end : ℕ) → AreNumbered 0 doings end
        → (after : State K V S) × (play_each doings (first_state roots) ≡ Some after)
        × Tells same seat after (calls_of seat doings y.1 []) (seen_of V same by_hasher batch_size roots slot_of course seat doings first y led None)
    all_tell doings y led own end numbered =
        let w = walk doings [] 0 first (first_state roots) nothing_led y led own end numbered [] None
        (record { answered = tt; found = λ i memory of is. absurd (cc is); under_way = λ m i c of has. absurd (cc has); unanswered = λ m i c of has. absurd (cc has); got = λ i of. refl; last = λ i of. tt }) in (
          w.2,
          w.3,
          subst (λ (l : List (Answer K V)). Tells same seat w.2 (calls_of seat doings l []) (seen_of V same by_hasher batch_size roots slot_of course seat doings first y led None)) (sym w.1) w.4,
        )
