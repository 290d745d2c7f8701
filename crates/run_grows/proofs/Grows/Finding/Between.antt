-- What steps of calls find by is so on between the steps of events: where a call begins, takes a reply, goes on as a walk or is given up, and where a map comes, or goes.
use Rattle.std.specs.Prelude.{◌≡◌, ◌≢◌, ◌≤◌, ◌==◌, ◌++◌, ℕ, Bool, true, false, List, [], ◌∷◌, cond, filter, find, length, Option, Some, None, if◌then◌else◌}
use Rattle.std.proofs.Common.{refl, ap, sym, subst, ◌∙◌, inl, inr}
use Rattle.std.proofs.lemmas.Bool.{ne_eqb}
use Rattle.run_finds.specs.Given.SeizeWordsWord.{block_in}
use Rattle.run_finds.specs.Given.SeizeWordsDeclared.at.At.{At}
use Rattle.papaya_raw.specs.Given.SweepsSweepPoints.{next_at}
use Rattle.papaya_raw.specs.Given.ReservesDeclared.sweep.Sweep.{Sweep}
use Rattle.papaya_raw.specs.Given.ReservesDeclared.sweep.Sweeping.{Sweeping}
use Rattle.papaya_raw.specs.Given.ReservesDeclared.sweep.Sweeping.TheVariants as sweeping
use Rattle.papaya_raw.specs.CallAsks.{replied_at}
use Rattle.papaya_raw.specs.Machine.{machine_asked, machine_replied, sweep_with_reply}
use Rattle.papaya_raw.specs.declared.machines.asking.Asking.TheVariants as asking
use Rattle.papaya_raw.specs.declared.machines.asking.MachineReply.{MachineReply}
use Rattle.papaya_raw.specs.declared.machines.call.Calling.{Calling}
use Rattle.papaya_raw.specs.declared.machines.call.Calling.TheVariants as calling
use Rattle.papaya_raw.specs.declared.machines.call.KeyCall.{KeyCall}
use Rattle.papaya_raw.specs.declared.machines.machine.Machine.{Machine}
use Rattle.papaya_raw.specs.declared.machines.machine.Machine.TheVariants as kinds
use Rattle.run_schedules.specs.Runs.Same.{is_same}
use Rattle.run_schedules.specs.declared.effect.Thing.TheVariants.{APair}
use Rattle.run_schedules.specs.Schedules.Moment.{MapThere, Moment, Place, UnderWay as CallThere}
use Rattle.run_schedules.specs.Schedules.Views.{capacity_or, is_in_a_map, map_at}
use Rattle.run_finds.specs.Given.CallersOverAll.{CallOverAll}
use Rattle.run_finds.specs.Given.CallersPairs.{Given}
use Rattle.run_finds.specs.Given.CallersRooms.{CallForRoom}
use Rattle.run_finds.specs.Given.CallersTogether.{Computes, Counting, ForRoom, Gets, Inserts, IsBegun, OnKey, OverAll, Removes, RemovesIf, TriesToInsert, TriesToInsertWith, UnderWay, Updates, UpdatesOrInserts}
use Rattle.run_finds.specs.Given.EffectsKnown.{Known}
use Rattle.run_finds.specs.Given.EffectsDeclared.role.Role.{Role}
use Rattle.run_finds.specs.Given.EffectsDeclared.role.Role.TheVariants as role
use Rattle.run_finds.specs.Given.FinishesMachines.{machine_of}
use Rattle.run_finds.specs.Given.FinishesMaps.{Standing, with_call as with_in}
use Rattle.run_finds.specs.Given.FollowsCalls.{RefinesCalls as IsThere}
use Rattle.run_finds.proofs.Given.HandsAsking.{which}
use Rattle.run_finds.specs.Given.SettlesDue.{ToPut, due_in_row}
use Rattle.run_finds.specs.Given.SettlesHand.{HoldsAt, IsPairAt, IsPairRole, NotesPending, NotesOfCall, NotesOfSweep, RefinesObligations, in_hand, in_hand_of_call, in_hand_of_sweep, thing_as, things_at}
use Rattle.run_finds.specs.Given.SettlesInHand.{pair_in_calling, pair_in_sweeping}
use Rattle.run_finds.proofs.Given.SettlesHand.Roles.{hand_kept}
use Rattle.run_finds.specs.Puts.{IsDeferredOnTheLast, RefinesPuts}
use Rattle.run_finds.specs.Waits.{LeavesPending, RefinesWaits, pair_in, waits_in}
use Rattle.run_finds.proofs.Capacities.{capacities_stay}
use Rattle.run_finds.proofs.Grows.Between.{growing_stays}
use Rattle.run_grows.proofs.Waits.Behind.{call_put, room_never, sweep_put}
use Rattle.run_grows.proofs.Waits.Between.{waits_follow_owed, waits_stay}
use Rattle.run_grows.proofs.Waits.Puts.{puts_stay}
use Rattle.run_grows.specs.Grows.Finding.{RefinesFinding}
use Rattle.run_grows.proofs.Grows.Finding.Alike.{held_in, many_same, stood_as}
use Rattle.run_grows.proofs.Grows.Finding.Making.Between.{further_stays}
use Rattle.run_grows.proofs.Grows.Finding.Making.Lengths.{lengths_same}
use Rattle.run_kept.proofs.Given.ScenesMay.{standing_is}
use Rattle.run_finds.specs.Given.ScenesBeginning.{Begins}
use Rattle.run_finds.specs.Given.ScenesHeld.{Held, IsAt}
use Rattle.run_finds.specs.Given.ScenesReplying.{scene_with, unless_stopped}
use Rattle.run_finds.specs.Given.ScenesScene.{Scene, slot_of}
use Rattle.run_finds.proofs.Given.General.{same_some as one_of, at_most_itself as itself}

-- A call that begins has no pair in hand, and is to put none behind a table.

abbrev HasNone : {K V Q : Type 0} → Machine K V Q → Type 0
HasNone machine = (pair_in machine ≡ None) × (due_in_row machine ≡ None)

module _ {K V : Type 0} (same : K → K → Bool) where
  key_begins : (hash : K → ℕ) (i : ℕ) (standing : Standing K) (keys : K → Bool) (given : Given K V) (call : KeyCall K V K) → IsBegun V same hash same standing.setting slot_of i keys given call → HasNone (kinds.Key call)
  key_begins hash i standing keys given call (Gets q code few class) = (refl, refl)
  key_begins hash i standing keys given call (Removes q code few class) = (refl, refl)
  key_begins hash i standing keys given call (Inserts key value) = (refl, refl)
  key_begins hash i standing keys given call (TriesToInsert key value) = (refl, refl)
  key_begins hash i standing keys given call (Computes key) = (refl, refl)
  key_begins hash i standing keys given call (Updates key) = (refl, refl)
  key_begins hash i standing keys given call (UpdatesOrInserts key absent) = (refl, refl)
  key_begins hash i standing keys given call (TriesToInsertWith key) = (refl, refl)
  key_begins hash i standing keys given call (RemovesIf q code few class) = (refl, refl)

  pub none_at_first : (standing : Standing K) (i : ℕ) (u : UnderWay K V K) → Begins same standing i u → HasNone (machine_of u)
  none_at_first standing i (OnKey u) begins = key_begins standing.hash i standing u.keys u.pair u.call begins.0
  none_at_first standing i (ForRoom r) begins = subst (λ (x : CallForRoom). HasNone {K = K} {V = V} {Q = K} (kinds.Reserve x.reserve)) (sym begins.1) (refl, refl)
  none_at_first standing i (Counting sum) begins = (refl, refl)
  none_at_first standing i (OverAll o) begins = subst (λ (x : CallOverAll). HasNone {K = K} {V = V} {Q = K} (kinds.Sweep x.sweep)) (sym begins.1) (refl, refl)

-- of calls, one alone goes on otherwise: others are to put what they were to put
module _ {K V : Type 0} (known : Known) (s : Scene K V) (map i : ℕ) (next : Option (UnderWay K V K)) where
  pub puts_with : ((x : UnderWay K V K) → next ≡ Some x → (word : ℕ) (place : At) → due_in_row (machine_of x) ≡ Some (ToPut word place) → IsDeferredOnTheLast known map place (waits_in (machine_of x))) → RefinesPuts known s
      → RefinesPuts known (record s { calls = with_in s.calls map i next })
  puts_with its puts n j x is word place due = elim (which s.calls map i next n j x is) as (λ _. IsDeferredOnTheLast known n place (waits_in (machine_of x))) [
    | inl own ↦ subst (λ (k : ℕ). IsDeferredOnTheLast known k place (waits_in (machine_of x))) (sym own.0) (its x own.2 word place due)
    | inr was ↦ puts n j x was.1 word place due
  ]

pub puts_begun : {K V : Type 0} (known : Known) (s : Scene K V) (map i : ℕ) (u : UnderWay K V K) → due_in_row (machine_of u) ≡ None → RefinesPuts known s → RefinesPuts known (scene_with map i u s)
puts_begun {K} {V} known s map i u none =
    puts_with known s map i (Some u) (λ x is word place due. absurd (let its : due_in_row (machine_of x) ≡ None = ap (λ (z : UnderWay K V K). due_in_row (machine_of z)) (sym (one_of u x is)) ∙ none in cc (its, due)))

-- A pair in hand is noted as one.

pair_role : (r : Role) → IsPairRole r → (n : ℕ) × (r ≡ role.Pair n)
pair_role (role.Pair n) is = (n, refl)
pair_role _ is = absurd is

module _ (known : Known) (word : ℕ) where
  noted_of_call : (p : Calling) → NotesOfCall known p → pair_in_calling p ≡ Some word → IsPairRole (known.roles (block_in word)) × (in_hand_of_call known p ≡ things_at known (Some word))
  noted_of_call (calling.Helps copier goal) notes some = absurd (cc some)
  noted_of_call (calling.Copies copier) notes some = absurd (cc some)
  noted_of_call p notes some = (subst (HoldsAt (IsPairAt known)) some notes, ap (things_at known) some)

  noted_of_sweep : (p : Sweeping) → NotesOfSweep known p → pair_in_sweeping p ≡ Some word → IsPairRole (known.roles (block_in word)) × (in_hand_of_sweep known p ≡ things_at known (Some word))
  noted_of_sweep (sweeping.Copies copier) notes some = absurd (cc some)
  noted_of_sweep p notes some = (subst (HoldsAt (IsPairAt known)) some notes, ap (things_at known) some)

  module _ {K V Q : Type 0} where
    noted_so : (machine : Machine K V Q) → NotesPending known machine → pair_in machine ≡ Some word → IsPairRole (known.roles (block_in word)) × (in_hand known machine ≡ things_at known (Some word))
    noted_so (kinds.Key p) notes some = noted_of_call p.stands notes some
    noted_so (kinds.Sweep c) notes some = noted_of_sweep c.stands notes some
    noted_so (kinds.Reserve r) notes some = absurd (cc some)
    noted_so (kinds.Count sum) notes some = absurd (cc some)

    pub pair_held : (machine : Machine K V Q) → NotesPending known machine → pair_in machine ≡ Some word → (n : ℕ) × (in_hand known machine ≡ APair n ∷ [])
    pair_held machine notes some =
        let noted = noted_so machine notes some in
        let n = pair_role (known.roles (block_in word)) noted.0 in
        (n.0, noted.1 ∙ ap thing_as n.1)

    -- what is to be put behind a table is in hand
    pub due_pair : (place : At) (machine : Machine K V Q) → due_in_row machine ≡ Some (ToPut word place) → pair_in machine ≡ Some word
    due_pair place (kinds.Key p) due = (call_put word place p p.stands refl due).0
    due_pair place (kinds.Sweep c) due = (sweep_put word place c c.stands refl due).0
    due_pair place (kinds.Reserve r) due = absurd (room_never word place r.stands due)
    due_pair place (kinds.Count sum) due = absurd (cc due)

-- One that has a pair in hand does not ask, and is not ready: a reply, and the asking for a next pair, leave it where it is.
module _ (known : Known) (n : ℕ) where
  next_same : (c : Sweep) (stands : Sweeping) → in_hand_of_sweep known stands ≡ APair n ∷ [] → next_at stands c ≡ c
  next_same c sweeping.Ready e = absurd (cc e)
  next_same c _ e = refl

module _ {V : Type 0} (known : Known) (n : ℕ) where
  sweep_same : (c : Sweep) (stands : Sweeping) (reply : MachineReply V) → in_hand_of_sweep known stands ≡ APair n ∷ [] → (sweep_with_reply stands c reply).0 ≡ c
  sweep_same c (sweeping.Asks word) reply e = absurd (cc e)
  sweep_same c _ reply e = refl

module _ {K V : Type 0} (known : Known) (n : ℕ) where
  key_same : (p : KeyCall K V K) (stands : Calling) (reply : MachineReply V) → in_hand_of_call known stands ≡ APair n ∷ [] → (replied_at stands p reply).0 ≡ p
  key_same p (calling.Asks (asking.Absent gap)) reply e = absurd (cc e)
  key_same p (calling.Asks (asking.Present word)) reply e = absurd (cc e)
  key_same p _ reply e = refl

  pub replied_same : (machine : Machine K V K) (reply : MachineReply V) → in_hand known machine ≡ APair n ∷ [] → (machine_replied machine reply).0 ≡ machine
  replied_same (kinds.Key p) reply e = ap kinds.Key (key_same p p.stands reply e)
  replied_same (kinds.Sweep c) reply e = ap kinds.Sweep (sweep_same known n c c.stands reply e)
  replied_same (kinds.Reserve r) reply e = refl
  replied_same (kinds.Count sum) reply e = refl

  pub asked_same : (machine : Machine K V K) → in_hand known machine ≡ APair n ∷ [] → (machine_asked machine).0 ≡ machine
  asked_same (kinds.Key p) e = refl
  asked_same (kinds.Sweep c) e = ap kinds.Sweep (next_same known n c c.stands e)
  asked_same (kinds.Reserve r) e = refl
  asked_same (kinds.Count sum) e = refl

-- So where one goes on by either, what calls have in hand lies as it lay, and is to be put where it was to be.
module _ (K V : Type 0) (same : K → K → Bool) (name : ℕ → List ℕ) (m v : Moment K V) (known : Known) (s : Scene K V) (map i : ℕ) (u : UnderWay K V K) (here : s.calls map i ≡ Some u) (next : UnderWay K V K)
    (there : IsThere same name m s.calls) (owes : RefinesObligations name m known s) (owes2 : RefinesObligations name v known (scene_with map i next s))
    (stays : in_hand known (machine_of next) ≡ in_hand known (machine_of u)) (goes : (n : ℕ) → in_hand known (machine_of u) ≡ APair n ∷ [] → machine_of next ≡ machine_of u) where
  abbrev t : Scene K V
  t = scene_with map i next s

  abbrev Was : ℕ → ℕ → UnderWay K V K → Type 0
  Was n j x = (y : UnderWay K V K) × (s.calls n j ≡ Some y) × (machine_of y ≡ machine_of x)

  was_so : (n j : ℕ) (x : UnderWay K V K) → t.calls n j ≡ Some x → (word : ℕ) → pair_in (machine_of x) ≡ Some word → Was n j x
  was_so n j x is word some = elim (which s.calls map i (Some next) n j x is) as (λ _. Was n j x) [
    | inl own ↦
        let one = one_of next x own.2 in
        let its = pair_held known word (machine_of x) (owes2.noted n j x is) some in (
          u,
          ap (λ (k : ℕ). s.calls k j) own.0 ∙ ap (s.calls map) own.1 ∙ here,
          sym (goes its.0 (sym stays ∙ ap (λ (z : UnderWay K V K). in_hand known (machine_of z)) one ∙ its.1)) ∙ ap (λ (z : UnderWay K V K). machine_of z) one,
        )
    | inr was ↦ (x, was.1, refl)
  ]

  pub waits_on : LeavesPending t m v → RefinesWaits name m s → RefinesWaits name v t
  waits_on leaves waits = waits_follow_owed K V same name m v known known s t there owes owes2 waits leaves
      (λ n j x is word some. (let was = was_so n j x is word some in (was.0, was.1, was.2, hand_kept known known (λ b lasts. refl) (machine_of was.0) (owes.noted n j was.0 was.1))))

  pub puts_on : RefinesPuts known s → RefinesPuts known t
  puts_on puts = puts_stay K V known known s t puts
      (λ n j x is word place due. (let was = was_so n j x is word (due_pair known word place (machine_of x) due) in (was.0, was.1, was.2, λ b its. refl)))

-- where a walk is given up, or a call is as it was
pub fewer_calls : {K V : Type 0} (s : Scene K V) (map i : ℕ) (u : UnderWay K V K) → s.calls map i ≡ Some u → (stopped : Bool) (n j : ℕ) (x : UnderWay K V K) → with_in s.calls map i (unless_stopped stopped u) n j ≡ Some x
    → s.calls n j ≡ Some x
fewer_calls s map i u here stopped n j x is = elim (which s.calls map i (unless_stopped stopped u) n j x is) as (λ _. s.calls n j ≡ Some x) [
  | inl own ↦ ap (λ (k : ℕ). s.calls k j) own.0 ∙ ap (s.calls map) own.1 ∙ here ∙ by stopped own.2
  | inr was ↦ was.1
]
  where
    by : (q : Bool) → unless_stopped q u ≡ Some x → Some u ≡ Some x
    by true e = absurd (cc e)
    by false e = e

-- A map of another number is found as before where one comes, and one that has another name where one goes.
pub found_beside : (xs : List MapThere) (new : MapThere) (map : ℕ) → new.number ≢ map → find (λ (f : MapThere). f.number == map) (xs ++ new ∷ []) ≡ find (λ (f : MapThere). f.number == map) xs
found_beside [] new map ne = ap (λ (b : Bool). cond b (Some new) None) (ne_eqb new.number map ne)
found_beside (x ∷ xs) new map ne = ap (λ (o : Option MapThere). cond (x.number == map) (Some x) o) (found_beside xs new map ne)

pub found_kept : (p keep : MapThere → Bool) (xs : List MapThere) (x : MapThere) → find p xs ≡ Some x → keep x ≡ true → find p (filter keep xs) ≡ Some x
found_kept p keep [] x is kept = absurd (cc is)
found_kept p keep (y ∷ ys) x is kept = by (p y) refl (keep y) refl is (λ rest. found_kept p keep ys x rest kept)
  where
    by : (b : Bool) → p y ≡ b → (q : Bool) → keep y ≡ q → cond b (Some y) (find p ys) ≡ Some x → (find p ys ≡ Some x → find p (filter keep ys) ≡ Some x) → find p (if q then y ∷ filter keep ys else filter keep ys) ≡ Some x
    by true e true k one rest = ap (λ (b : Bool). cond b (Some y) (find p (filter keep ys))) e ∙ one
    by true e false k one rest = absurd (let same : y ≡ x = cc one in let no_more : keep x ≡ false = ap keep (sym same) ∙ k in cc (kept, no_more))
    by false e true k one rest = ap (λ (b : Bool). cond b (Some y) (find p (filter keep ys))) e ∙ rest one
    by false e false k one rest = rest one

module _ {K V : Type 0} (same : K → K → Bool) (hash : ℕ → K → ℕ) (name : ℕ → List ℕ) (m v : Moment K V) (known : Known) (s : Scene K V) (e : Held K V) (at : IsAt same hash e s) where
  -- at a moment with other maps, where those that stand are found as they were
  pub finding_where : ((n : ℕ) (st : Standing K) → s.maps n ≡ Some st → map_at n v ≡ map_at n m) → v.tables ≡ m.tables → v.calls ≡ m.calls → v.place ≡ m.place → v.born ≡ m.born → v.spot ≡ m.spot
      → v.stored ≡ m.stored → RefinesFinding name m known s → RefinesFinding name v known s
  finding_where still tables calls place born spot stored finding = record {
    growing = growing_stays K V m v s s finding.growing (many_same m v tables) (λ map i u is. (u, is, refl));
    further = further_stays m v s s finding.further (lengths_same m v tables) (λ map i u is. (u, is, refl));
    capacities = capacities_stay K V m v s s finding.capacities (λ n st is. ap capacity_or (still n st is)) (stood_as s s refl);
    waits = waits_stay K V name m v s s finding.waits leaves
        (λ map i u is word some d d_is. (u, is, refl, d, ap (λ (l : List (CallThere K V)). find (λ y. is_same y.caller (name i)) l) (sym calls) ∙ d_is, refl));
    puts = finding.puts;
  }
    where
      more : length m.stored ≤ length v.stored
      more = subst (λ (xs : List (K × V)). length m.stored ≤ length xs) (sym stored) (itself (length m.stored))

      leaves : LeavesPending s m v
      leaves map i u is k waits held =
          let st = standing_is same hash e s at map i u is in
          held_in m v more born spot map (still map st.0 st.1) k (ap (λ (f : ℕ → Place). is_in_a_map (f k)) place) waits held
