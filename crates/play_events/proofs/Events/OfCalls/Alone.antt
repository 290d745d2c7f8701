-- Where calls came one after another, only the call that an event is of can be in the midst of a row; and its slot is active.
use Rattle.std.specs.Prelude.{◌≡◌, ◌≢◌, ◌<◌, ◌≤◌, ◌^◌, ◌==◌, ◌&&◌, ◌||◌, ℕ, Bool, true, false, List, [], ◌∷◌, Option, Some}
use Rattle.std.specs.List.{AllByRecursion, list_all, list_any}
use Rattle.std.proofs.Common.{refl, ap, sym, subst, ◌∙◌, inl, inr}
use Rattle.std.proofs.lemmas.Bool.{eqb-true}
use Rattle.seize_acts.specs.Given.SeizeWaitingHeld.{count}
use Rattle.play_stepping.specs.Given.SeizeWorld.{IsInside, Rests, Use}
use Rattle.run_schedules.specs.Runs.Present.{guard_of, living_slot}
use Rattle.run_schedules.specs.Runs.Same.{is_same}
use Rattle.run_schedules.specs.declared.event.Event.{Event}
use Rattle.run_schedules.specs.Schedules.After.{is_by, moment}
use Rattle.run_schedules.specs.Schedules.Entry.{Entry, speaker}
use Rattle.run_schedules.specs.Schedules.Model.{sets_in}
use Rattle.run_schedules.specs.Schedules.Terms.{Terms}
use Rattle.play_stepping.specs.Given.CallersTogether.{UnderWay}
use Rattle.play_lists.specs.Given.EffectsKnown.{known}
use Rattle.play_lists.specs.Given.ScenesDeclared.row.SlotUse.{SlotUse}
use Rattle.play_lists.specs.Given.ScenesDeclared.row.SlotUse.TheVariants as used
use Rattle.play_lists.proofs.Given.ModelsQuiet.{insides_follow}
use Rattle.run_legal.specs.Carried.{IsSequential, FollowsOrRows}
use Rattle.play_stepping.proofs.Given.RowsFacts.{row_rests}
use Rattle.play_stepping.proofs.Given.RowsLists.{all_alike, one_of}
use Rattle.run_legal.proofs.Given.RowsThere.{is_inside, on_its_slot}
use Rattle.play_stepping.specs.Given.SchedulerPlayed.{IsPlayed, IsUnderWay}
use Rattle.play_stepping.specs.Given.NamedSeen.{Seen, is_named, seen, seen_of}
use Rattle.play_stepping.specs.Given.ExecutorDeclared.caller.NamedCaller.{NamedCaller}
use Rattle.play_stepping.specs.Given.SchedulerDeclared.scheduler.Scheduler.{Scheduler}
use Rattle.play_events.proofs.Events.OfCalls.InRows.{insides_follow_in_rows}
use Rattle.play_stepping.specs.Given.ExecutorIsThere.{IsUsedAs}
use Rattle.play_lists.specs.Given.ScenesScene.{slot_of}
use Rattle.play_stepping.proofs.Given.General.{both_true as both, none_is}

module _ {V : Type 0} (n j : ℕ) where
  abbrev its_number : NamedCaller V → Bool
  its_number d = d.number == j

  -- one of this number is there, where one of this map and number is
  any_number : (calls : List (NamedCaller V)) → list_any (λ (d : NamedCaller V). (d.map == n) && (d.number == j)) calls ≡ true → list_any its_number calls ≡ true
  any_number [] any = absurd (cc any)
  any_number (d ∷ calls) any = by (d.map == n) (d.number == j) any (any_number calls)
    where
      by : (a b : Bool) → ((a && b) || list_any (λ (x : NamedCaller V). (x.map == n) && (x.number == j)) calls) ≡ true
          → (list_any (λ (x : NamedCaller V). (x.map == n) && (x.number == j)) calls ≡ true → list_any its_number calls ≡ true) → (b || list_any its_number calls) ≡ true
      by a true is later = refl
      by true false is later = later is
      by false false is later = later is

all_each : {X : Type 0} (q : X → Bool) (xs : List X) → list_all q xs ≡ true → AllByRecursion (λ x. q x ≡ true) xs
all_each q [] all = tt
all_each q (x ∷ xs) all = let it = both (q x) (list_all q xs) all in (it.0, all_each q xs it.1)

both_each : {X : Type 0} (P Q : X → Type 0) (xs : List X) → AllByRecursion P xs → AllByRecursion Q xs → AllByRecursion (λ x. P x × Q x) xs
both_each P Q [] a b = tt
both_each P Q (x ∷ xs) a b = ((a.0, b.0), both_each P Q xs a.1 b.1)

module _ {K V S : Type 0} (same : K → K → Bool) (hash : K → ℕ) (terms : Terms) (log : List (Entry K V)) (p : Scheduler K V S) (stands : IsPlayed same hash terms log p) where
  abbrev calls : List (NamedCaller V)
  calls = p.calls

  -- who has a row under way is a caller
  pub row_of_caller : (j : ℕ) → stands.scene.world.row j ≢ Rests → list_any (λ (d : NamedCaller V). d.number == j) calls ≡ true
  row_of_caller j goes = by (list_any (λ (d : NamedCaller V). d.number == j) calls) refl
    where
      by : (q : Bool) → list_any (λ (d : NamedCaller V). d.number == j) calls ≡ q → list_any (λ (d : NamedCaller V). d.number == j) calls ≡ true
      by true is = is
      by false is = absurd (goes (row_rests same hash p.logged.executor stands.scene stands.shown.is_at j
          (stands.rests j (λ n. none_is (stands.scene.calls n j) (λ u here. (let any = any_number n j calls (stands.calls.only n j u here) in cc (any, is)))))))

  module _ (event : Event K V) (own : List ℕ) (speaks : speaker event ≡ Some own) (alone : IsSequential event log) where
    -- each caller has the name of whom the event speaks
    each_own : AllByRecursion (λ (d : NamedCaller V). is_named own d ≡ true) calls
    each_own =
        all_each (is_named own) calls
        (sym (all_alike seen seen_of (moment log).calls calls stands.calls.listed (λ (z : Seen). is_same z.name own))
        ∙ subst (λ (who : Option (List ℕ)). list_all (is_by who) (moment log).calls ≡ true) speaks (both (moment log).is_alone _ alone).1)

    -- so it is that one whose row is under way, if any is
    its : (j : ℕ) → stands.scene.world.row j ≢ Rests → (d : NamedCaller V) × (IsUnderWay stands.name stands.scene p.there d × (is_named own d ≡ true)) × ((d.number == j) ≡ true)
    its j goes =
        one_of (λ (d : NamedCaller V). IsUnderWay stands.name stands.scene p.there d × (is_named own d ≡ true)) (λ (d : NamedCaller V). d.number == j) calls (row_of_caller j goes)
        (both_each (IsUnderWay stands.name stands.scene p.there) (λ (d : NamedCaller V). is_named own d ≡ true) calls stands.calls.each each_own)

    pub only_its_row : (map i : ℕ) (u : UnderWay K V K) → stands.scene.calls map i ≡ Some u → stands.name i ≡ own → (j : ℕ) → stands.scene.world.row j ≢ Rests → j ≡ i
    only_its_row map i u here name_is j goes =
        let it = its j goes in
        let named : is_same (stands.name it.0.number) (stands.name i) ≡ true =
        ap (λ (x : List ℕ). is_same x (stands.name i)) it.1.0.2 ∙ ap (λ (x : List ℕ). is_same it.0.name x) name_is ∙ it.1.1 in
        sym (eqb-true it.0.number j it.2) ∙ (stands.shown.shows.all.asked.apart it.0.map it.0.number map i it.1.0.0 u it.1.0.1 here named).1

    -- and no row is, where no caller has that name
    pub no_row : list_any (is_named own) calls ≡ false → (j : ℕ) → stands.scene.world.row j ≢ Rests → ⊥
    no_row free j goes =
        let it = its j goes in
        let any = some_named calls (row_of_caller j goes) each_own in
        cc (any, free)
      where
        some_named : (ds : List (NamedCaller V)) → list_any (λ (d : NamedCaller V). d.number == j) ds ≡ true → AllByRecursion (λ (d : NamedCaller V). is_named own d ≡ true) ds → list_any (is_named own) ds ≡ true
        some_named [] any all = absurd (cc any)
        some_named (d ∷ ds) any all = ap (λ (q : Bool). q || list_any (is_named own) ds) all.0

  -- the slot of a guard that lives is within its section
  pub inside_of : (guard : List ℕ) (slot : ℕ) → living_slot (guard_of guard p.there.guards) ≡ Some slot → IsInside (stands.scene.world.uses slot)
  inside_of guard slot lives =
      let is : IsUsedAs used.Inside (stands.scene.world.uses slot) =
      subst (λ (x : SlotUse). IsUsedAs x (stands.scene.world.uses slot)) (stands.slots slot ∙ is_inside slot p.there (on_its_slot guard p.there.guards slot lives)) (stands.shown.is_at.uses slot) in
      subst (λ (x : Use). IsInside x) (sym is.1) tt

  -- so it is active in the sets of the model
  pub active_of : p.logged.executor.batch_size ≡ terms.batch_size → (slot : ℕ) → IsInside (stands.scene.world.uses slot)
      → FollowsOrRows terms log (known p.logged.notes) stands.scene.world → 1 ≤ count slot (sets_in terms.batch_size log).active
  active_of size slot inside = by
    where
      small : terms.batch_size < 2 ^ 64
      small = subst (λ (n : ℕ). n < 2 ^ 64) size stands.shown.is_at.held.small

      by : FollowsOrRows terms log (known p.logged.notes) stands.scene.world → 1 ≤ count slot (sets_in terms.batch_size log).active
      by (inl follows) = insides_follow K V terms.batch_size terms.roots _ (sets_in terms.batch_size log) (known p.logged.notes) stands.scene.world small follows slot inside
      by (inr (i, row)) = insides_follow_in_rows K V terms.batch_size terms.roots _ (sets_in terms.batch_size log) (known p.logged.notes) stands.scene.world small (slot_of i) slot i row inside
