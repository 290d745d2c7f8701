-- Where a call begins, is asked for its next pair, or is given up, as it is played, the entry is linearizable, if there is one, and what the moment shows of calls and of what they were told it shows then.
use Rattle.std.specs.Prelude.{◌≡◌, ◌⊎◌, ℕ, Bool, true, false, List, [], ◌∷◌, Option, Some, None}
use Rattle.std.proofs.Common.{refl, ap, sym, subst, ◌∙◌, inl, inr}
use Rattle.seize_acts.specs.Given.SeizeWorld.{Rests, with_at}
use Rattle.play_lists.specs.Given.TablesDeclared.setting.Setting.{Setting}
use Rattle.run_logged.specs.Given.RawMachine.{machine_asked}
use Rattle.run_logged.specs.Given.RawDeclared.machines.machine.Machine.{Machine}
use Rattle.run_logged.specs.Given.RawDeclared.machines.machine.Machine.TheVariants as kinds
use Rattle.run_logged.specs.Given.SweepsSweepPoints.{after_next, next_at}
use Rattle.run_logged.specs.Given.ReservesDeclared.sweep.Sweep.{Sweep}
use Rattle.run_logged.specs.Given.ReservesDeclared.sweep.Sweeping.{Sweeping}
use Rattle.run_logged.specs.Given.ReservesDeclared.sweep.Sweeping.TheVariants as sweeping
use Rattle.run_logged.specs.Given.CallersOverAll.{CallOverAll, gone_on}
use Rattle.run_logged.specs.Given.CallersTogether.{UnderWay, OnKey, ForRoom, Counting, OverAll, in_slot}
use Rattle.play_lists.specs.Given.FinishesMachines.{machine_of}
use Rattle.play_lists.specs.Given.FinishesMaps.{Standing, with_call}
use Rattle.play_lists.specs.Given.FollowsCalling.{NoneNamed}
use Rattle.play_lists.proofs.Given.FollowsCalling.{is_same_refl}
use Rattle.run_logged.proofs.Given.HandsAsking.{which}
use Rattle.run_schedules.specs.Runs.Same.{is_same}
use Rattle.run_schedules.specs.declared.call.Call.{Call}
use Rattle.run_schedules.specs.declared.call.Call.TheVariants.{On}
use Rattle.run_schedules.specs.declared.call.OneKey.TheVariants.{Compute, TryInsert}
use Rattle.run_schedules.specs.declared.call.Reply.{Reply}
use Rattle.run_schedules.specs.declared.outcome.Outcome.TheVariants as outcome
use Rattle.run_schedules.specs.Schedules.Beginning.{fresh_call}
use Rattle.run_schedules.specs.Schedules.Moment.{Asking}
use Rattle.play_lists.specs.Given.ScenesBeginning.{Begins as BeginsSo}
use Rattle.play_lists.specs.Given.ScenesHeld.{Held, IsAt}
use Rattle.play_lists.specs.Given.ScenesReplying.{AskLeads, StopLeads, scene_with, unless_stopped}
use Rattle.play_lists.specs.Given.ScenesScene.{Scene, slot_of}
use Rattle.seize_acts.proofs.Given.SeizeRuleRows.Leaving.{with_same}
use Rattle.play_lists.specs.Given.ValuesValues.{KeepsValue}
use Rattle.play_lists.proofs.Given.ValuesValues.{values_begin}
use Rattle.run_schedules.specs.Deeds.Deeds.{Begins, Entry, Stops, moment, named}
use Rattle.run_schedules.specs.Deeds.History.{IsLinearizable, past}
use Rattle.play_lists.specs.Given.ActsActs.{Wanted, begun}
use Rattle.play_lists.specs.Given.ActsLeads.{asked_on}
use Rattle.play_lists.specs.Played.Play.{Calling, State, begun_call, call_for}
use Rattle.play_lists.proofs.Played.Noted.{CallsAreNoted, apart}
use Rattle.play_linear.specs.Linear.Shown.{RefinesAnswers}
use Rattle.play_linear.proofs.Linear.Begun.{begun_rightly}
use Rattle.play_linear.proofs.Linear.CallEntries.{begins_answer, stops_answer}
use Rattle.play_linear.proofs.Linear.CallsGo.{walks_go_on}
use Rattle.play_linear.proofs.Linear.Heard.{IsHeard, SaidOn, begins_aside, begins_itself, stops_aside}
use Rattle.play_linear.proofs.Linear.HeardAll.{AreHeard, AreHeardAt, none_other, one_heard}
use Rattle.play_linear.proofs.Linear.TakesReply.{TakesNone, asked_none, begins_none}
use Rattle.run_schedules.proofs.Given.General.{same_some}

-- one that is not the other's has another name
not_named : (i j : ℕ) → (j ≡ i → ⊥) → is_same (named i) (named j) ≡ false
not_named i j never = apart i j never

-- a walk that is not ready stays as it is where it is asked for a pair
next_same : (stands : Sweeping) (c : Sweep) → (stands ≡ sweeping.Ready → ⊥) → next_at stands c ≡ c
next_same sweeping.Ready c never = absurd (never refl)
next_same _ c never = refl

module _ {K V : Type 0} where
  -- what is put where it was is as it was
  pub same_calls : (s : Scene K V) (m i : ℕ) (u : UnderWay K V K) → s.calls m i ≡ Some u → scene_with m i u s ≡ s
  same_calls s m i u has =
      ap (λ (calls : ℕ → ℕ → Option (UnderWay K V K)). record s { calls = calls })
      (ap (λ (o : Option (UnderWay K V K)). with_call s.calls m i o) (sym has) ∙ (ap (λ (f : ℕ → Option (UnderWay K V K)). with_at s.calls m f) (with_same (s.calls m) i) ∙ with_same s.calls m))

  -- what is asked keeps its value
  asked_keeps : (machine : Machine K V K) (call : Call K V) (replies : List (Option ℕ × Reply V)) (value : Option V) → KeepsValue call replies machine value → KeepsValue call replies (machine_asked machine).0 value
  asked_keeps (kinds.Key p) call replies value keeps = keeps
  asked_keeps (kinds.Reserve c) call replies value keeps = keeps
  asked_keeps (kinds.Count c) call replies value keeps = keeps
  asked_keeps (kinds.Sweep c) (On (TryInsert k v)) replies value keeps = tt
  asked_keeps (kinds.Sweep c) (On (Compute k)) replies value keeps = tt
  asked_keeps (kinds.Sweep c) _ replies value keeps = tt

module _ {K V S : Type 0} (same : K → K → Bool) (hash : ℕ → K → ℕ) (x : State K V S) (s : Scene K V) (old new : Held K V) (at : IsAt same hash old s)
    (all : RefinesAnswers same (past x.history) (moment x.history) x.known s) (heard : AreHeard x) (i m : ℕ) where
  -- A call begins
  module _ (by_hasher : S → K → ℕ) (set : Setting × S) (standing : Standing K) (there : s.maps m ≡ Some standing) (wanted : Wanted K V) (begins : BeginsSo same standing i (begun same slot_of standing i wanted))
      (no_call : (k : ℕ) → s.calls k i ≡ None) (none : (k : ℕ) → x.now.calls k i ≡ None) (rests : s.world.row i ≡ Rests) (at2 : IsAt same hash new (scene_with m i (begun same slot_of standing i wanted) s)) where
    abbrev call : Call K V
    call = call_for wanted

    abbrev entry : Entry K V
    entry = record { deed = Begins i (slot_of i) m call; outcome = outcome.Goes; effects = []; refused = false }

    pub none_named : NoneNamed named (named i) s
    none_named map j u is = not_named i j (λ e. let both : None ≡ Some u = sym (no_call map) ∙ sym (ap (s.calls map) e) ∙ is in cc both)

    pub played_begins : IsLinearizable same x.history entry × RefinesAnswers same (past (entry ∷ x.history)) (moment (entry ∷ x.history)) x.known (scene_with m i (begun same slot_of standing i wanted) s)
    played_begins =
        let right = begun_rightly same standing i wanted in
        begins_answer same hash x.history x.known s old new at all m i standing there (begun same slot_of standing i wanted) call begins right.0 right.1 right.2 none_named rests at2

    itself : IsHeard (moment (entry ∷ x.history)) i call (begun_call i m by_hasher call set).machine None
    itself = record {
      there = fresh_call (named i) (named (slot_of i)) call m (moment x.history).events;
      is = begins_itself i (slot_of i) m call (moment x.history);
      called = refl;
      keeps = values_begin K V (in_slot set.0 (slot_of i)) (by_hasher set.1) call None;
      asks = inl (begins_none (in_slot set.0 (slot_of i)) (by_hasher set.1) call);
    }

    pub played_begins_are_heard : AreHeardAt (moment (entry ∷ x.history)) (with_call x.now.calls m i (Some (begun_call i m by_hasher call set)))
    played_begins_are_heard =
        one_heard x heard i m (Some (begun_call i m by_hasher call set)) (moment (entry ∷ x.history)) (begins_aside i (slot_of i) m call (moment x.history)) own
        (λ on d ne has. let both : None ≡ Some d = sym (none on) ∙ has in cc both)
      where
        own : (d : Calling K V) → ◌≡◌ {A = Option (Calling K V)} (Some (begun_call i m by_hasher call set)) (Some d) → IsHeard (moment (entry ∷ x.history)) i d.call d.machine d.value
        own d is = subst (λ (z : Calling K V). IsHeard (moment (entry ∷ x.history)) i z.call z.machine z.value) (same_some (begun_call i m by_hasher call set) d is) itself

  -- One is asked for its next pair, or given up
  module _ (noted : CallsAreNoted x) (c : Calling K V) (here : x.now.calls m i ≡ Some c) (u : UnderWay K V K) (under : s.calls m i ≡ Some u) (its : c.machine ≡ machine_of u) where
    abbrev it : IsHeard (moment x.history) i c.call c.machine c.value
    it = heard m i c here

    -- one that isn't ready stays as it was
    not_ready : (w : UnderWay K V K) → (machine_asked (machine_of w)).1 ≡ false → asked_on w ≡ w
    not_ready (OverAll o) e = ap (λ (c : Sweep). OverAll (gone_on o c)) (next_same o.sweep.stands o.sweep (λ is. by o.sweep.stands is e))
      where
        by : (stands : Sweeping) → stands ≡ sweeping.Ready → (machine_asked {K = K} {V = V} {Q = K} (kinds.Sweep (record o.sweep { stands = stands }))).1 ≡ false → ⊥
        by sweeping.Ready is e = cc e
        by _ is e = cc is
    not_ready (OnKey k) e = refl
    not_ready (ForRoom r) e = refl
    not_ready (Counting sum) e = refl

    -- and one that is ready is a walk: what is so where a walk goes on is so where a call is asked
    module _ (Q : Scene K V → Type 0) (so : Q s)
        (goes : (o : CallOverAll) (here : s.calls m i ≡ Some (OverAll o)) (leads : AskLeads same hash i true s old new) → (leads m (OverAll o) here).0 ≡ OverAll (gone_on o (after_next o.sweep))
        → Q (scene_with m i (leads m (OverAll o) here).0 s)) where
      so_asked : (w : UnderWay K V K) (w_is : s.calls m i ≡ Some w) (ready : Bool) → ready ≡ (machine_asked (machine_of w)).1 → (leads : AskLeads same hash i ready s old new) → (leads m w w_is).0 ≡ asked_on w
          → Q (scene_with m i (asked_on w) s)
      so_asked w w_is false ready leads is = subst Q (sym (ap (λ (z : UnderWay K V K). scene_with m i z s) (not_ready w (sym ready)) ∙ same_calls s m i w w_is)) so
      so_asked (OverAll o) w_is true ready leads is = subst (λ (z : UnderWay K V K). Q (scene_with m i z s)) is (goes o w_is leads is)
      so_asked (OnKey k) w_is true ready leads is = absurd (cc ready)
      so_asked (ForRoom r) w_is true ready leads is = absurd (cc ready)
      so_asked (Counting sum) w_is true ready leads is = absurd (cc ready)

      pub asked_so : (ready : Bool) (leads : AskLeads same hash i ready s old new) → (leads m u under).0 ≡ asked_on u → Q (scene_with m i (asked_on u) s)
      asked_so ready leads is = so_asked u under ready (leads m u under).2 leads is

    pub played_asks : (ready : Bool) (leads : AskLeads same hash i ready s old new) → (leads m u under).0 ≡ asked_on u → RefinesAnswers same (past x.history) (moment x.history) x.known (scene_with m i (asked_on u) s)
    played_asks ready leads is =
        asked_so (RefinesAnswers same (past x.history) (moment x.history) x.known) all
        (λ o o_is walks goes. walks_go_on K V same hash (past x.history) x.known s old at (moment x.history) all new i walks m o o_is goes) ready leads is

    asked_then : IsHeard (moment x.history) i c.call (machine_asked c.machine).0 c.value
    asked_then = record {
      there = it.there;
      is = it.is;
      called = it.called;
      keeps = asked_keeps c.machine it.there.call it.there.replies c.value it.keeps;
      asks = by it.asks;
    }
      where
        by : TakesNone c.machine ⊎ ((question : Option ℕ) × (it.there.stands ≡ Asking question)) → TakesNone (machine_asked c.machine).0 ⊎ ((question : Option ℕ) × (it.there.stands ≡ Asking question))
        by (inl none) = inl (asked_none c.machine none)
        by (inr asking) = inr asking

    -- what was said of others is said still
    as_said : (j : ℕ) → is_same (named i) (named j) ≡ false → SaidOn (moment x.history) (moment x.history) j
    as_said j other w is = (w, is, (refl, refl, refl))

    stays_heard : (c2 : Calling K V) → IsHeard (moment x.history) i c2.call c2.machine c2.value → AreHeardAt (moment x.history) (with_call x.now.calls m i (Some c2))
    stays_heard c2 so =
        one_heard x heard i m (Some c2) (moment x.history) as_said
        (λ d is. subst (λ (z : Calling K V). IsHeard (moment x.history) i z.call z.machine z.value) (same_some c2 d is) so) (none_other x noted i m c here)

    pub played_asks_are_heard : AreHeardAt (moment x.history) (with_call x.now.calls m i (Some (record c { machine = (machine_asked c.machine).0 })))
    played_asks_are_heard = stays_heard (record c { machine = (machine_asked c.machine).0 }) asked_then

    -- given up, it is under way no more
    abbrev given_up : Entry K V
    given_up = record { deed = Stops i; outcome = outcome.Done; effects = []; refused = false }

    pub none_then : NoneNamed named (named i) (record s { calls = with_call s.calls m i (unless_stopped true u) })
    none_then n j w there = not_named i j never
      where
        never : j ≡ i → ⊥
        never e = elim (which s.calls m i None n j w there) as (λ _. ⊥) [
          | inl goes ↦ let none = goes.2 in cc none
          | inr was ↦ let two = all.whole.all.asked.apart n j m i w u was.1 under (ap (λ (q : ℕ). is_same (named q) (named i)) e ∙ is_same_refl (named i)) in was.0 two.0 two.1
        ]

    pub played_stops : StopLeads same hash i true s old new
        → IsLinearizable same x.history given_up
        × RefinesAnswers same (past (given_up ∷ x.history)) (moment (given_up ∷ x.history)) x.known (record s { calls = with_call s.calls m i (unless_stopped true u) })
    played_stops leads = stops_answer same hash x.history x.known s old new at all m i leads u under none_then

    pub played_stops_are_heard : AreHeardAt (moment (given_up ∷ x.history)) (with_call x.now.calls m i None)
    played_stops_are_heard =
        one_heard x heard i m None (moment (given_up ∷ x.history)) (stops_aside i (moment x.history)) (λ d is. absurd (let both : None ≡ Some d = is in cc both)) (none_other x noted i m c here)

    -- and one that isn't ready is not given up
    pub played_stays : RefinesAnswers same (past x.history) (moment x.history) x.known (scene_with m i u s)
    played_stays = subst (RefinesAnswers same (past x.history) (moment x.history) x.known) (sym (same_calls s m i u under)) all

    pub played_stays_heard : AreHeardAt (moment x.history) (with_call x.now.calls m i (Some c))
    played_stays_heard = stays_heard c it
