-- The entries of a call that begins, takes a reply, or is given up: each is linearizable, and the moment after it shows what the next entry asks for.
use Rattle.std.specs.Prelude.{◌≡◌, ℕ, Bool, true, false, List, [], ◌∷◌, flat_map, Option, Some, None, Ok}
use Rattle.std.proofs.Common.{refl, arith}
use Rattle.seize_acts.specs.Given.SeizeWorld.{Rests}
use Rattle.run_logged.specs.Given.RawMachine.{machine_replied}
use Rattle.run_logged.specs.Given.CallersTogether.{UnderWay}
use Rattle.play_lists.specs.Given.FinishesMachines.{RepliedOfKind, machine_of}
use Rattle.play_lists.specs.Given.FinishesMaps.{Standing, with_call as with_call_of}
use Rattle.run_schedules.specs.declared.call.Call.{Call}
use Rattle.run_schedules.specs.declared.call.Call.TheVariants.{On}
use Rattle.run_schedules.specs.declared.call.OneKey.{OneKey}
use Rattle.run_schedules.specs.declared.call.Reply.{Reply}
use Rattle.run_schedules.specs.declared.outcome.Outcome.TheVariants as outcome
use Rattle.run_schedules.specs.Schedules.Beginning.{with_call}
use Rattle.run_schedules.specs.Schedules.Linearizable.{shift_of}
use Rattle.run_schedules.specs.Schedules.Moment.{Asking, Moment, UnderWay as CallThere}
use Rattle.run_schedules.specs.Schedules.Views.{call_of}
use Rattle.play_lists.specs.Given.EffectsKnown.{Known}
use Rattle.play_lists.specs.Given.ScenesBeginning.{Begins as BeginsSo}
use Rattle.play_lists.specs.Given.ScenesHeld.{Held, IsAt}
use Rattle.play_lists.specs.Given.ScenesReplying.{StopLeads, scene_with, unless_stopped}
use Rattle.play_lists.specs.Given.ScenesScene.{Scene, slot_of}
use Rattle.play_lists.specs.Given.FollowsCalling.{NoneNamed, told}
use Rattle.play_lists.specs.Given.FollowsCalls.{IsCalled}
use Rattle.run_logged.specs.Given.HandsAsked.{reply_to_machine}
use Rattle.run_logged.specs.Given.HandsCalling.{IsBegunFor}
use Rattle.play_lists.specs.Given.OthersWalks.{given_up}
use Rattle.play_lists.specs.Given.HistoriesAsCalled.{IsBegunAs}
use Rattle.run_logged.specs.Given.ChangesChanges.{IsTaken}
use Rattle.play_lists.proofs.Given.HistoriesOtherCalls.{no_calls_are_linearizable}
use Rattle.run_schedules.specs.Deeds.Deeds.{Begins, Deed, Entry, Replies, Stops, after, caller_of, moment, named}
use Rattle.run_schedules.specs.Deeds.History.{IsLinearizable, past, transition}
use Rattle.play_linear.specs.Linear.Shown.{RefinesAnswers}
use Rattle.play_linear.proofs.Linear.CallsGo.{calls_begin, calls_take, walks_stop}
use Rattle.play_linear.proofs.Linear.Like.{IsLike, entries_are_over}

-- An entry of no call by which no pair comes or goes is linearizable.
pub none_is_linearizable : {K V : Type 0} (same : K → K → Bool) (history : List (Entry K V)) (e : Entry K V) → caller_of e.deed ≡ None → flat_map shift_of e.effects ≡ [] → IsLinearizable same history e
none_is_linearizable {K} {V} same history e none shifts = no_calls_are_linearizable K V same (past history) (transition history e) none shifts

-- The moment after an entry is that of the history.
pub entry_answers : {K V : Type 0} (same : K → K → Bool) (history : List (Entry K V)) (e : Entry K V) (m : Moment K V) (known : Known) (s : Scene K V) → RefinesAnswers same (past history) m known s
    → IsLike m (after e (moment history)) → RefinesAnswers same (past (e ∷ history)) (moment (e ∷ history)) known s
entry_answers same history e m known s all like =
    entries_are_over same (past history) known s m (after e (moment history)) all like (let before = all.dues.history.past.counted in omega (arith, before))

module _ {K V : Type 0} (same : K → K → Bool) (hash : ℕ → K → ℕ) (history : List (Entry K V)) (known : Known) (s : Scene K V) (old new : Held K V) (at : IsAt same hash old s)
    (all : RefinesAnswers same (past history) (moment history) known s) (map i : ℕ) where
  -- a deed by itself
  abbrev pub alone : Deed K V → Entry K V
  alone deed = record { deed = deed; outcome = outcome.Goes; effects = []; refused = false }

  pub begins_answer : (standing : Standing K) → s.maps map ≡ Some standing → (u : UnderWay K V K) (call : Call K V) → BeginsSo same standing i u → IsCalled same u call → IsBegunFor u call → IsBegunAs u call
      → NoneNamed named (named i) s → s.world.row i ≡ Rests → IsAt same hash new (scene_with map i u s)
      → (let e = alone (Begins i (slot_of i) map call) in
      IsLinearizable same history e × RefinesAnswers same (past (e ∷ history)) (moment (e ∷ history)) known (scene_with map i u s))
  begins_answer standing there u call begins called given swept none rests at2 = (
    none_is_linearizable same history (alone (Begins i (slot_of i) map call)) refl refl,
    entry_answers same history (alone (Begins i (slot_of i) map call)) (with_call (named i) (named (slot_of i)) call (Some map) (moment history)) known (scene_with map i u s)
        (calls_begin K V same hash (past history) known s old at all map i new standing there u call (named (slot_of i)) begins called given swept none rests at2) refl,
  )

  pub replies_answer : (u : UnderWay K V K) → s.calls map i ≡ Some u → (c : CallThere K V) → call_of (named i) (moment history) ≡ Some c → (question : Option ℕ) → c.stands ≡ Asking question
      → (standing : Standing K) → s.maps map ≡ Some standing → (reply : Reply V) (next : UnderWay K V K)
      → machine_of next ≡ (machine_replied (machine_of u) (reply_to_machine reply)).0 → (machine_replied (machine_of u) (reply_to_machine reply)).1 ≡ Ok tt
      → RepliedOfKind V same same old.batch_size old.roots slot_of standing i u (reply_to_machine reply) next → ((one : OneKey K V) → c.call ≡ On one → IsTaken one reply) → IsAt same hash new (scene_with map i next s)
      → (let e = alone (Replies i reply) in
      IsLinearizable same history e × RefinesAnswers same (past (e ∷ history)) (moment (e ∷ history)) known (scene_with map i next s))
  replies_answer u here c c_is question asks standing there reply next next_is takes kind taken at2 = (
    none_is_linearizable same history (alone (Replies i reply)) refl refl,
    entry_answers same history (alone (Replies i reply)) (told (named i) reply (moment history)) known (scene_with map i next s)
        (calls_take K V same hash (past history) known s old at (moment history) all new map i u here c c_is question asks standing there reply next next_is takes kind taken at2) refl,
  )

  pub stops_answer : StopLeads same hash i true s old new → (u : UnderWay K V K) → s.calls map i ≡ Some u
      → (let then_at = record s { calls = with_call_of s.calls map i (unless_stopped true u) } in
      let e : Entry K V = record { deed = Stops i; outcome = outcome.Done; effects = []; refused = false } in
      NoneNamed named (named i) then_at → IsLinearizable same history e × RefinesAnswers same (past (e ∷ history)) (moment (e ∷ history)) known then_at)
  stops_answer leads u here none = (
    none_is_linearizable same history (record { deed = Stops i; outcome = outcome.Done; effects = []; refused = false }) refl refl,
    entry_answers same history (record { deed = Stops i; outcome = outcome.Done; effects = []; refused = false }) (given_up (named i) true (moment history)) known
        (record s { calls = with_call_of s.calls map i (unless_stopped true u) }) (walks_stop K V same hash (past history) known s old at (moment history) all new i true leads map u here (λ e. none)) refl,
  )
