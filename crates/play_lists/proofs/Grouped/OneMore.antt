-- Where an executor is by acts, and does what is one act more, or a choice comes, it is by acts.
use Rattle.std.specs.Prelude.{◌<◌, ◌+◌, ◌++◌, Some, None, length, if◌then◌else◌}
use Rattle.std.specs.Option.{is_none}
use Rattle.std.specs.List.{AllByRecursion}
use Rattle.std.proofs.Common.{◌≡◌, ℕ, Bool, List, [], ◌∷◌, refl, sym, ap, subst, arith, ◌∙◌}
use Rattle.std.proofs.lemmas.Bool.{eq-eqb, ne_eqb}
use Rattle.many_acts.specs.Given.ScenesScene.{Scene, slot_of}
use Rattle.run_kept.specs.Given.EffectsKnown.{Known}
use Rattle.run_finds.specs.Given.ExecutorIsThere.{IsThere, StaysGiven}
use Rattle.run_finds.specs.Given.ExecutorDeclared.executor.Executor.{Executor}
use Rattle.many_acts.specs.Acts.Acts.{Act, Answer, BeginsRow}
use Rattle.many_acts.specs.Acts.Doings.{Chooses, Doing, Does, HasDone, MayDo, Stage, reclaiming, scene_chosen}
use Rattle.many_acts.specs.Acts.Lists.{Course, LedTo, Reached, nothing_done, on_by}
use Rattle.many_acts.proofs.Acts.Further.{led_further}
use Rattle.play_lists.specs.Agrees.Places.{AsksMaps}
use Rattle.play_lists.specs.Agrees.Fresh.{HasNewNumber, IsNew}
use Rattle.play_lists.specs.Drives.Executors.{IsAct}
use Rattle.play_lists.specs.Played.Play.{State, choice_come, first_state, play, play_act, play_all}
use Rattle.play_lists.specs.Played.Reached.{AreOnOwn, IsOfStage, IsOnOwn}
use Rattle.play_lists.proofs.Played.All.{lists_are_played}
use Rattle.play_lists.specs.Grouped.Reach.{LeadsTo, PlaysTo, Reach}
use Rattle.run_schedules.specs.Schedules.Lists.{put}
use Rattle.play_lists.proofs.Grouped.Aborts.{new_one, new_same, plays_one, plays_same, told_all}
use Rattle.run_finds.proofs.Given.General.{all_and_one as all_and_last, same_some}

module _ {K V S : Type 0} (same : K → K → Bool) (by_hasher : S → K → ℕ) (h : S) (b r shards : ℕ) where
  abbrev pub Its : Doing K V S → Type 0
  Its doing = AsksMaps V by_hasher (λ map. by_hasher h) shards doing

  on_own : (doing : Doing K V S) → Its doing → IsOnOwn doing
  on_own (Does (BeginsRow i request)) asks = asks.0
  on_own doing asks = tt

  all_on_own : (doings : List (Doing K V S)) → AllByRecursion Its doings → AreOnOwn doings
  all_on_own [] all = tt
  all_on_own (doing ∷ doings) all = (on_own doing all.0, all_on_own doings all.1)

  -- One doing more: it may be done where a list leads, and wherever it leads this is so.
  module _ (any : Course V same by_hasher b r slot_of) (noted noted2 : Known) (P Q : State K V S → Type 0) (Before After : Stage V same by_hasher b r slot_of → Type 0) (doing : Doing K V S) (asks : Its doing)
      (may : (p : Stage V same by_hasher b r slot_of) → Before p → MayDo V same by_hasher b r slot_of doing p)
      (leads_to : (told : Answer K V) (p n : Stage V same by_hasher b r slot_of) → Before p → HasDone V same by_hasher b r slot_of doing p told n → After n)
      (new : (aborts : ℕ → V) (x : State K V S) → P x → IsNew same by_hasher b r aborts x doing) (abort : V → V)
      (next : (value : V) (aborts : ℕ → V) (x y : State K V S) (p : Stage V same by_hasher b r slot_of) → IsOfStage by_hasher same b r p x.now → Before p → aborts (length x.told) ≡ abort value
      → play same by_hasher b r aborts doing x ≡ Some y → x.known ≡ noted → P x → (y.known ≡ noted2) × Q y) where
    -- where one course leads by it
    module _ (course : Course V same by_hasher b r slot_of) (doings : List (Doing K V S)) (y : Reached V same by_hasher b r slot_of) (led : LedTo V same by_hasher b r slot_of course doings y) (so : Before y.0) where
      may_be : MayDo V same by_hasher b r slot_of doing y.0
      may_be = may y.0 so

      abbrev y2 : Reached V same by_hasher b r slot_of
      y2 = on_by V same by_hasher b r slot_of course y doing may_be

      goes_on : LedTo V same by_hasher b r slot_of course (doings ++ doing ∷ []) y2
      goes_on = led_further V same by_hasher b r slot_of course doings (doing ∷ []) (nothing_done V same by_hasher b r slot_of course) y y2 led (may_be, refl)

      leads_there : (z : Reached V same by_hasher b r slot_of) × LedTo V same by_hasher b r slot_of course (doings ++ doing ∷ []) z × After z.0
      leads_there = (y2, goes_on, leads_to (course.told y.0 doing may_be) y.0 (course.next y.0 doing may_be) so (course.leads y.0 doing may_be))

    module _ (at : LeadsTo same by_hasher h b r shards Before P noted) (value : V) where
      was : PlaysTo same by_hasher h b r shards P at.doings noted
      was = at.played value

      -- the closure that is told to by this act aborts with this value
      abbrev aborts : ℕ → V
      aborts = put (length was.after.told) (abort value) was.aborts

      alike : (n : ℕ) → n < length (first_state {K = K} {V = V} {S = S} r).told + length at.doings → was.aborts n ≡ aborts n
      alike n l =
          let count = told_all same by_hasher b r was.aborts at.doings (first_state r) was.after was.plays in
          sym (ap (λ (q : Bool). if q then abort value else was.aborts n) (ne_eqb n (length was.after.told) (λ is. absurd (omega (arith, is, l, count)))))

      plays : play_all same by_hasher b r aborts at.doings (first_state r) ≡ Some was.after
      plays = sym (plays_same same by_hasher b r was.aborts aborts at.doings (first_state r) alike) ∙ was.plays

      its : aborts (length was.after.told) ≡ abort value
      its = ap (λ (q : Bool). if q then abort value else was.aborts (length was.after.told)) (eq-eqb (length was.after.told) (length was.after.told) refl)

      plays_then : PlaysTo same by_hasher h b r shards Q (at.doings ++ doing ∷ []) noted2
      plays_then =
          let to = at.leads any in
          let before = lists_are_played V same by_hasher b r aborts any at.doings to.0 to.1 (all_on_own at.doings at.asks) in
          let all = all_and_last Its at.doings doing at.asks asks in
          let after = lists_are_played V same by_hasher b r aborts any (at.doings ++ doing ∷ []) (y2 any at.doings to.0 to.1 to.2) (goes_on any at.doings to.0 to.1 to.2) (all_on_own (at.doings ++ doing ∷ []) all) in
          let one : before.0 ≡ was.after = same_some before.0 was.after (sym before.1 ∙ plays) in
          let stage = subst (λ (x : State K V S). IsOfStage by_hasher same b r to.0.0 x.now) one before.2 in
          let step = sym (plays_one same by_hasher b r aborts doing at.doings (first_state r) was.after plays) ∙ after.1 in
          let so = next value aborts was.after after.0 to.0.0 stage to.2 its step was.knows was.so in
          record {
            aborts = aborts;
            after = after.0;
            plays = after.1;
            new = new_one same by_hasher b r aborts doing at.doings (first_state r) was.after plays (new_same same by_hasher b r was.aborts aborts at.doings (first_state r) alike was.new) (new aborts was.after was.so);
            knows = so.0;
            so = so.1;
          }

    pub one_more : LeadsTo same by_hasher h b r shards Before P noted → LeadsTo same by_hasher h b r shards After Q noted2
    one_more at = record {
      doings = at.doings ++ doing ∷ [];
      asks = all_and_last Its at.doings doing at.asks asks;
      leads = λ course. (let to = at.leads course in leads_there course at.doings to.0 to.1 to.2);
      played = λ value. plays_then at value;
    }

-- Where an executor is by acts.
module _ {K V S : Type 0} (same : K → K → Bool) (by_hasher : S → K → ℕ) (h : S) (b r shards : ℕ) (P : State K V S → Type 0) (e : Executor K V S) (noted : Known) where
  abbrev pub IsBy : Stage V same by_hasher b r slot_of → Type 0
  IsBy p = (reclaiming V same by_hasher b r slot_of p ≡ None) × IsThere same (by_hasher h) e p.0

  pub as_led : Reach same by_hasher h b r shards P e noted → LeadsTo same by_hasher h b r shards IsBy P noted
  as_led at = record { doings = at.doings; asks = at.asks; leads = λ course. (let to = at.leads course in (to.0, to.1, (to.2, to.3))); played = at.played }

  pub as_reach : e.hasher ≡ h → e.batch_size ≡ b → e.roots ≡ r → LeadsTo same by_hasher h b r shards IsBy P noted → Reach same by_hasher h b r shards P e noted
  as_reach hasher size roots at = record { hasher_is = hasher; size = size; roots_are = roots; doings = at.doings; asks = at.asks; leads = λ course. (let to = at.leads course in (to.0, to.1, to.2.0, to.2.1)); played = at.played }

module _ {K V S : Type 0} (same : K → K → Bool) (by_hasher : S → K → ℕ) (shards : ℕ) (e e2 : Executor K V S) (given : StaysGiven e e2)
    (any : Course V same by_hasher e.batch_size e.roots slot_of) (noted noted2 : Known) (P Q : State K V S → Type 0) where
  abbrev At : (P : State K V S → Type 0) → Executor K V S → Known → Type 0
  At P x known = Reach same by_hasher e.hasher e.batch_size e.roots shards P x known

  abbrev Asked : Doing K V S → Type 0
  Asked doing = Its same by_hasher e.hasher e.batch_size e.roots shards doing

  -- It goes on by one doing, by which another one is there.
  one_doing : (doing : Doing K V S) → Asked doing
      → ((p : Stage V same by_hasher e.batch_size e.roots slot_of) → reclaiming V same by_hasher e.batch_size e.roots slot_of p ≡ None → IsThere same (by_hasher e.hasher) e p.0
      → MayDo V same by_hasher e.batch_size e.roots slot_of doing p)
      → ((told : Answer K V) (p n : Stage V same by_hasher e.batch_size e.roots slot_of) → IsThere same (by_hasher e.hasher) e p.0
      → HasDone V same by_hasher e.batch_size e.roots slot_of doing p told n → (reclaiming V same by_hasher e.batch_size e.roots slot_of n ≡ None) × IsThere same (by_hasher e.hasher) e2 n.0)
      → ((aborts : ℕ → V) (x : State K V S) → P x → IsNew same by_hasher e.batch_size e.roots aborts x doing) → (abort : V → V)
      → ((value : V) (aborts : ℕ → V) (x y : State K V S) (p : Stage V same by_hasher e.batch_size e.roots slot_of) → IsOfStage by_hasher same e.batch_size e.roots p x.now
      → IsThere same (by_hasher e.hasher) e p.0 → aborts (length x.told) ≡ abort value → play same by_hasher e.batch_size e.roots aborts doing x ≡ Some y → x.known ≡ noted → P x
      → (y.known ≡ noted2) × Q y)
      → At P e noted → At Q e2 noted2
  one_doing doing asks may leads_to new abort next at =
      as_reach same by_hasher e.hasher e.batch_size e.roots shards Q e2 noted2 given.0 given.1 given.2
      (one_more same by_hasher e.hasher e.batch_size e.roots shards any noted noted2 P Q (IsBy same by_hasher e.hasher e.batch_size e.roots shards P e noted) (IsBy same by_hasher e.hasher e.batch_size e.roots shards Q e2 noted2)
      doing asks (λ p so. may p so.0 so.1) (λ told p n so done. leads_to told p n so.1 done) new abort
      (λ value aborts x y p stage so its played knows was. next value aborts x y p stage so.1 its played knows was)
      (as_led same by_hasher e.hasher e.batch_size e.roots shards P e noted at))

  -- By an act of the executor,
  pub one_act : (act : Act K V S) (told : Answer K V) → Asked (Does act) → ((s : Scene K V) → IsThere same (by_hasher e.hasher) e s → IsAct same by_hasher e e2 s act told)
      → ((x : State K V S) → P x → HasNewNumber x act) → (abort : V → V)
      → ((value : V) (aborts : ℕ → V) (x y : State K V S) (p : Stage V same by_hasher e.batch_size e.roots slot_of) → IsOfStage by_hasher same e.batch_size e.roots p x.now
      → IsThere same (by_hasher e.hasher) e p.0 → aborts (length x.told) ≡ abort value → play_act same by_hasher e.batch_size e.roots aborts act x ≡ Some y → x.known ≡ noted → P x
      → (y.known ≡ noted2) × Q y)
      → At P e noted → At Q e2 noted2
  one_act act told asks is new abort next =
      one_doing (Does act) asks (λ p idle there. (ap is_none idle, (is p.0 there).may)) (λ said p n there done. (done.1, ((is p.0 there).wherever n.0 said n.1 done.0).1)) (λ aborts x so. new x so) abort next

  -- and as a choice comes.
  pub one_choice : (choice : ℕ) → ((s : Scene K V) → IsThere same (by_hasher e.hasher) e s → IsThere same (by_hasher e.hasher) e2 (scene_chosen choice s)) → noted ≡ noted2
      → ((x : State K V S) → P x → Q (choice_come choice x)) → At P e noted → At Q e2 noted2
  one_choice choice stays noted_is so =
      one_doing (Chooses choice) tt (λ p idle there. ap is_none idle)
      (λ told p n there done. (done.3, subst (λ (s : Scene K V). IsThere same (by_hasher e.hasher) e2 s) (sym done.1) (stays p.0 there))) (λ aborts x p. tt) (λ value. value)
      (λ value aborts x y p stage there its played knows was.
      (let is : choice_come choice x ≡ y = same_some (choice_come choice x) y played in
      (ap (λ (z : State K V S). z.known) (sym is) ∙ knows ∙ noted_is, subst Q is (so x was))))
