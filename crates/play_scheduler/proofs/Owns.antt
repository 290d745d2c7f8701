-- A guard that owns its slot: it gets the least one that is not in use.
use Rattle.std.specs.Prelude.{◌≢◌, ◌&&◌, not, max, is_some, None, Result, Ok, Err}
use Rattle.std.specs.List.{AllByRecursion}
use Rattle.std.proofs.Common.{◌≡◌, ℕ, ◌+◌, Bool, true, false, List, [], ◌∷◌, ◌++◌, ◌⊎◌, inl, inr, refl, sym, ap, subst, ◌∙◌}
use Rattle.seize_words.specs.declared.fault.Fault.{Fault}
use Rattle.seize_words.specs.declared.fault.Fault.TheVariants.{Busy}
use Rattle.papaya_raw.specs.Given.TablesDeclared.node.Node.{Node}
use Rattle.run_schedules.specs.Runs.Present.{Present, enters_slot, guard_of}
use Rattle.run_schedules.specs.declared.effect.Effect.{Effect}
use Rattle.run_schedules.specs.declared.event.Event.TheVariants.{Own}
use Rattle.run_schedules.specs.declared.outcome.Outcome.{Outcome}
use Rattle.run_schedules.specs.declared.outcome.Outcome.TheVariants.{Refused, Slot}
use Rattle.run_schedules.specs.Schedules.After.{is_alone_on, moment, there_on}
use Rattle.run_schedules.specs.Schedules.Effects.{with_effects}
use Rattle.run_schedules.specs.Schedules.Entry.{Entry}
use Rattle.run_schedules.specs.Schedules.InTurn.{GetsSlot}
use Rattle.run_schedules.specs.Schedules.InUse.{is_guard}
use Rattle.run_schedules.specs.Schedules.Moment.{Moment}
use Rattle.run_schedules.specs.Schedules.Terms.{Terms}
use Rattle.run_shows.specs.declared.row.RowTold.{RowTold}
use Rattle.run_shows.specs.declared.row.RowTold.TheVariants as told
use Rattle.run_shows.specs.declared.row.SlotCall.TheVariants as call
use Rattle.run_shows.specs.declared.row.SlotUse.TheVariants as used
use Rattle.run_logged.specs.declared.logged.Logged.{Logged}
use Rattle.play_scheduler.specs.Played.{IsInTurn, IsUnderWay, Plays, RefinesFor}
use Rattle.run_logged.specs.Rows.Rows.{RowRan, used_as}
use Rattle.run_logged.specs.Rows.Taking.{SlotTaken, outcome_of_taking}
use Rattle.play_scheduler.specs.Quiet.{BusyIsSilent}
use Rattle.play_scheduler.specs.declared.scheduler.Scheduler.{Scheduler}
use Rattle.play_scheduler.proofs.Busy.{slot_quiet}
use Rattle.play_scheduler.proofs.Enters.{found_more, used_now}
use Rattle.run_logged.proofs.Rows.Lists.{all_so}
use Rattle.run_logged.proofs.Rows.Names.{enters_named}
use Rattle.play_scheduler.proofs.Quiet.{stands_on}
use Rattle.play_scheduler.proofs.RanOn.{stands_ran, there_stays}
use Rattle.play_scheduler.proofs.SlotTaken.{gets_none, gets_slot, led_taking, over_taking, use_still, use_then}
use Rattle.run_logged.proofs.Rows.There.{guard_is}
use Rattle.play_scheduler.proofs.Rights.{entry, in_turn, out_of_turn, plays, quiet}
use Rattle.run_shows.specs.Scenes.Scene.{slot_of}
use Rattle.seize_words.proofs.General.{none_of as none_is}

module _ {K V S : Type 0} (same : K → K → Bool) (hash : K → ℕ) (terms : Terms) (log : List (Entry K V)) (p : Scheduler K V S) (guard : List ℕ)
    (due : IsInTurn same hash terms log (Own guard) p) where
  abbrev m : Moment K V
  m = moment log

  abbrev stands : RefinesFor same hash terms m p
  stands = due.played

  abbrev turn : Bool
  turn = not (is_guard guard m.there)

  abbrev Found : Bool → Type 0
  Found b = is_some (guard_of guard p.there.guards) ≡ b

  abbrev wanted : List Effect → Outcome V → Type 0
  wanted did = GetsSlot m.there did

  turn_is : (b : Bool) → Found b → turn ≡ not b
  turn_is b found =
      ap not (ap (is_guard guard) stands.there ∙ guard_is guard p.there ∙ found)

  -- the name is taken
  pub name_taken : Found true → Plays same hash terms log (quiet (Own guard) (Refused Busy)) p
  name_taken found =
      let e = quiet (Own guard) (Refused Busy) in
      plays same hash terms log (Own guard) p due e refl (out_of_turn (wanted []) turn (Refused Busy) (turn_is true found) refl)
      (stands_on same hash terms m p stands (m.events + 1) (m.is_alone && is_alone_on e m) m.slots m.sheltered)

  module _ (found : Found false) (said : RowTold (Node K V)) (before after : List Effect) (logged : Logged K V S) (ran : RowRan 0 (call.Register true) said before after p.logged logged) where
    abbrev w : Moment K V
    w = with_effects None None ran.did m

    -- it is refused,
    pub refused : (fault : Fault) → said ≡ told.Refused fault → before ≡ [] → Plays same hash terms log (entry (Own guard) (Refused fault) 0 ran.did) (record p { logged = logged })
    refused fault is nothing =
        let e = entry (Own guard) (Refused fault) 0 ran.did in
        plays same hash terms log (Own guard) (record p { logged = logged }) due e refl
        (in_turn (wanted ran.did) turn (Refused fault) (turn_is false found) (gets_none same hash terms m p stands true said before after logged ran fault is nothing))
        (stands_ran same hash terms m p stands 0 (call.Register true) said before after logged ran tt (led_taking same hash terms m p stands true said before after logged ran)
        (over_taking same hash terms m p stands true said before after logged ran) p.there stands.calls.each (use_still same hash terms m p stands true said before after logged ran fault is) stands.names
        (there_on {K = K} {V = V} (Own guard) (Refused fault) w.there) (there_stays None None ran.did m ∙ stands.there) (m.events + 1) (m.is_alone && is_alone_on e m) m.slots w.sheltered m.remains refl)

    -- or has a slot
    module _ (slot : ℕ) (is : said ≡ told.Registered slot) where
      abbrev there2 : Present
      there2 = enters_slot guard slot p.there

      names : guard_of guard p.there.guards ≡ None
      names = none_is (guard_of guard p.there.guards) found

      -- calls have their guards still
      each : AllByRecursion (IsUnderWay stands.name stands.scene there2) p.calls
      each =
          all_so (IsUnderWay stands.name stands.scene p.there) (IsUnderWay stands.name stands.scene there2)
          (λ d way. (way.0, way.1, way.2, found_more d.guard p.there.guards (record { name = guard; slot = slot; forgotten = false } ∷ []) (slot_of d.number) way.3, way.4)) p.calls stands.calls.each

      inside : used_as slot there2 ≡ used.Inside
      inside = by (used_now guard slot p.there slot)
        where
          by : ((slot ≡ slot) × (used_as slot there2 ≡ used.Inside)) ⊎ ((slot ≢ slot) × (used_as slot there2 ≡ used_as slot p.there)) → used_as slot there2 ≡ used.Inside
          by (inl h) = h.1
          by (inr h) = absurd (h.0 refl)

      others : (t : ℕ) → t ≢ slot → used_as t there2 ≡ used_as t p.there
      others t ne = by (used_now guard slot p.there t)
        where
          by : ((t ≡ slot) × (used_as t there2 ≡ used.Inside)) ⊎ ((t ≢ slot) × (used_as t there2 ≡ used_as t p.there)) → used_as t there2 ≡ used_as t p.there
          by (inl h) = absurd (ne h.0)
          by (inr h) = h.1

      pub entered : (there : Present) → there ≡ there2 → Plays same hash terms log (entry (Own guard) (Slot slot) 0 ran.did) (record p { logged = logged; there = there })
      entered there there_is =
          let e = entry (Own guard) (Slot slot) 0 ran.did in
          subst (λ (x : Present). Plays same hash terms log e (record p { logged = logged; there = x })) (sym there_is)
          (plays same hash terms log (Own guard) (record p { logged = logged; there = there2 }) due e refl
          (in_turn (wanted ran.did) turn (Slot slot) (turn_is false found) (gets_slot same hash terms m p stands true said before after logged ran slot is ran.did))
          (stands_ran same hash terms m p stands 0 (call.Register true) said before after logged ran tt (led_taking same hash terms m p stands true said before after logged ran)
          (over_taking same hash terms m p stands true said before after logged ran) there2 each
          (use_then same hash terms m p stands true said before after logged ran slot is there2 inside others)
          (enters_named guard slot p.there names stands.names) (there_on {K = K} {V = V} (Own guard) (Slot slot) w.there)
          (ap (enters_slot guard slot) (there_stays None None ran.did m ∙ stands.there)) (m.events + 1) (m.is_alone && is_alone_on e m) (max m.slots (slot + 1)) w.sheltered m.remains refl))

-- so it is, by what the code does
module _ {K V S : Type 0} (same : K → K → Bool) (hash : K → ℕ) (terms : Terms) (log : List (Entry K V)) (p : Scheduler K V S) (guard : List ℕ)
    (due : IsInTurn same hash terms log (Own guard) p) (found : is_some (guard_of guard p.there.guards) ≡ false)
    (q : Scheduler K V S) (same_p : q ≡ record p { logged = q.logged }) (before after : List Effect) (nothing : before ≡ []) (slot : Result ℕ Fault)
    (ran : SlotTaken true slot before after p.logged q.logged) where
  did : after ≡ ran.did
  did = ran.follows ∙ ap (λ (xs : List Effect). xs ++ ran.did) nothing

  pub joined_refused : (fault : Fault) → slot ≡ Err fault → Plays same hash terms log (entry (Own guard) (Refused fault) 0 after) q
  joined_refused fault is =
      subst (λ (x : Scheduler K V S). Plays same hash terms log (entry (Own guard) (Refused fault) 0 after) x) (sym same_p)
      (subst (λ (xs : List Effect). Plays same hash terms log (entry (Own guard) (Refused fault) 0 xs) (record p { logged = q.logged })) (sym did)
      (refused same hash terms log p guard due found (outcome_of_taking slot) before after q.logged ran fault (ap (λ (x : Result ℕ Fault). outcome_of_taking {T = Node K V} x) is) nothing))

  pub joined_slot : (n : ℕ) → slot ≡ Ok n → (there : Present) → there ≡ enters_slot guard n q.there
      → Plays same hash terms log (entry (Own guard) (Slot n) 0 after) (record q { there = there })
  joined_slot n is there there_is =
      subst (λ (x : Scheduler K V S). Plays same hash terms log (entry (Own guard) (Slot n) 0 after) (record x { there = there })) (sym same_p)
      (subst (λ (xs : List Effect). Plays same hash terms log (entry (Own guard) (Slot n) 0 xs) (record p { logged = q.logged; there = there })) (sym did)
      (entered same hash terms log p guard due found (outcome_of_taking slot) before after q.logged ran n (ap (λ (x : Result ℕ Fault). outcome_of_taking {T = Node K V} x) is) there
      (there_is ∙ ap (λ (x : Scheduler K V S). enters_slot guard n x.there) same_p)))

  -- it was not refused as busy
  pub refused_quiet : (fault : Fault) → slot ≡ Err fault → BusyIsSilent {V = V} (Refused fault) after
  refused_quiet fault is = slot_quiet V (moment log).there ran.did after fault
      (gets_none same hash terms (moment log) p due.played true (outcome_of_taking slot) before after q.logged ran fault (ap (λ (x : Result ℕ Fault). outcome_of_taking {T = Node K V} x) is) nothing)
