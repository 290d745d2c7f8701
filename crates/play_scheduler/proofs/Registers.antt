-- A new registration: it gets the least slot that is not in use.
use Rattle.std.specs.Prelude.{◌&&◌, not, max, is_some, option_map, None, Result, Ok, Err, if◌then◌else◌}
use Rattle.std.proofs.Common.{◌≡◌, ℕ, ◌+◌, Bool, true, false, List, [], ◌++◌, refl, sym, ap, subst, ◌∙◌}
use Rattle.std.proofs.lemmas.Bool.{eq-eqb, ne_eqb}
use Rattle.seize_words.specs.declared.fault.Fault.{Fault}
use Rattle.seize_words.specs.declared.fault.Fault.TheVariants.{Busy}
use Rattle.papaya_raw.specs.Given.TablesDeclared.node.Node.{Node}
use Rattle.run_schedules.specs.Runs.Present.{Present, has_registration, registers, registration_of}
use Rattle.run_schedules.specs.declared.effect.Effect.{Effect}
use Rattle.run_schedules.specs.declared.event.Event.TheVariants.{Register}
use Rattle.run_schedules.specs.declared.outcome.Outcome.{Outcome}
use Rattle.run_schedules.specs.declared.outcome.Outcome.TheVariants.{Refused, Slot}
use Rattle.run_schedules.specs.Schedules.After.{is_alone_on, moment, there_on}
use Rattle.run_schedules.specs.Schedules.Effects.{with_effects}
use Rattle.run_schedules.specs.Schedules.Entry.{Entry}
use Rattle.run_schedules.specs.Schedules.InTurn.{GetsSlot}
use Rattle.run_schedules.specs.Schedules.InUse.{is_registered}
use Rattle.run_schedules.specs.Schedules.Moment.{Moment}
use Rattle.run_schedules.specs.Schedules.Terms.{Terms}
use Rattle.run_shows.specs.declared.row.RowTold.{RowTold}
use Rattle.run_shows.specs.declared.row.RowTold.TheVariants as told
use Rattle.run_shows.specs.declared.row.SlotCall.TheVariants as call
use Rattle.run_logged.specs.declared.logged.Logged.{Logged}
use Rattle.play_scheduler.specs.Played.{IsInTurn, Plays, RefinesFor}
use Rattle.run_logged.specs.Rows.Rows.{RowRan}
use Rattle.run_logged.specs.Rows.Taking.{SlotTaken, outcome_of_taking}
use Rattle.play_scheduler.specs.Quiet.{BusyIsSilent}
use Rattle.play_scheduler.specs.declared.scheduler.Scheduler.{Scheduler}
use Rattle.play_scheduler.proofs.Busy.{slot_quiet}
use Rattle.play_scheduler.proofs.Quiet.{stands_on}
use Rattle.play_scheduler.proofs.RanOn.{stands_ran, there_stays}
use Rattle.run_logged.proofs.Rows.Registered.{has_more, registers_named}
use Rattle.play_scheduler.proofs.SlotTaken.{first, gets_none, gets_slot, led_taking, over_taking, use_still, use_then}
use Rattle.run_logged.proofs.Rows.There.{is_outside, registered_is, slot_some, used_alike}
use Rattle.play_scheduler.proofs.Rights.{entry, in_turn, out_of_turn, plays, quiet}
use Rattle.run_logged.proofs.Rows.InUse.{vacant_free}
use Rattle.seize_words.proofs.General.{none_of as none_is}

module _ {K V S : Type 0} (same : K → K → Bool) (hash : K → ℕ) (terms : Terms) (log : List (Entry K V)) (p : Scheduler K V S) (registration : List ℕ)
    (due : IsInTurn same hash terms log (Register registration) p) where
  abbrev m : Moment K V
  m = moment log

  abbrev stands : RefinesFor same hash terms m p
  stands = due.played

  abbrev turn : Bool
  turn = not (is_registered registration m.there)

  abbrev Found : Bool → Type 0
  Found b = is_some (option_map (λ r. r.slot) (registration_of registration p.there.registrations)) ≡ b

  abbrev wanted : List Effect → Outcome V → Type 0
  wanted did = GetsSlot m.there did

  turn_is : (b : Bool) → Found b → turn ≡ not b
  turn_is b found =
      ap not (ap (is_registered registration) stands.there ∙ registered_is registration p.there ∙ sym (slot_some (registration_of registration p.there.registrations)) ∙ found)

  -- the name is taken
  pub name_taken : Found true → Plays same hash terms log (quiet (Register registration) (Refused Busy)) p
  name_taken found =
      let e = quiet (Register registration) (Refused Busy) in
      plays same hash terms log (Register registration) p due e refl (out_of_turn (wanted []) turn (Refused Busy) (turn_is true found) refl)
      (stands_on same hash terms m p stands (m.events + 1) (m.is_alone && is_alone_on e m) m.slots m.sheltered)

  module _ (found : Found false) (said : RowTold (Node K V)) (before after : List Effect) (logged : Logged K V S) (ran : RowRan 0 (call.Register false) said before after p.logged logged) where
    abbrev w : Moment K V
    w = with_effects None None ran.did m

    -- it is refused,
    pub refused : (fault : Fault) → said ≡ told.Refused fault → before ≡ [] → Plays same hash terms log (entry (Register registration) (Refused fault) 0 ran.did) (record p { logged = logged })
    refused fault is nothing =
        let e = entry (Register registration) (Refused fault) 0 ran.did in
        plays same hash terms log (Register registration) (record p { logged = logged }) due e refl
        (in_turn (wanted ran.did) turn (Refused fault) (turn_is false found) (gets_none same hash terms m p stands false said before after logged ran fault is nothing))
        (stands_ran same hash terms m p stands 0 (call.Register false) said before after logged ran tt (led_taking same hash terms m p stands false said before after logged ran)
        (over_taking same hash terms m p stands false said before after logged ran) p.there stands.calls.each (use_still same hash terms m p stands false said before after logged ran fault is) stands.names
        (there_on {K = K} {V = V} (Register registration) (Refused fault) w.there) (there_stays None None ran.did m ∙ stands.there) (m.events + 1) (m.is_alone && is_alone_on e m) m.slots w.sheltered m.remains refl)

    -- or has a slot
    module _ (slot : ℕ) (is : said ≡ told.Registered slot) where
      abbrev there2 : Present
      there2 = registers registration slot p.there

      free : has_registration slot p.there.registrations ≡ false
      free = (vacant_free slot p.there (first same hash terms m p stands false said before after logged ran slot is).vacant).1

      names : registration_of registration p.there.registrations ≡ None
      names = none_is (registration_of registration p.there.registrations) (sym (slot_some (registration_of registration p.there.registrations)) ∙ found)

      pub registered : (there : Present) → there ≡ there2 → Plays same hash terms log (entry (Register registration) (Slot slot) 0 ran.did) (record p { logged = logged; there = there })
      registered there there_is =
          let e = entry (Register registration) (Slot slot) 0 ran.did in
          let vacant = vacant_free slot p.there (first same hash terms m p stands false said before after logged ran slot is).vacant in
          subst (λ (x : Present). Plays same hash terms log e (record p { logged = logged; there = x })) (sym there_is)
          (plays same hash terms log (Register registration) (record p { logged = logged; there = there2 }) due e refl
          (in_turn (wanted ran.did) turn (Slot slot) (turn_is false found) (gets_slot same hash terms m p stands false said before after logged ran slot is ran.did))
          (stands_ran same hash terms m p stands 0 (call.Register false) said before after logged ran tt (led_taking same hash terms m p stands false said before after logged ran)
          (over_taking same hash terms m p stands false said before after logged ran) there2 stands.calls.each
          (use_then same hash terms m p stands false said before after logged ran slot is there2
          (is_outside slot there2 vacant.0 (has_more registration slot p.there slot ∙ ap (λ (b : Bool). if b then true else has_registration slot p.there.registrations) (eq-eqb slot slot refl)))
          (λ t ne. used_alike t p.there there2 refl
          (has_more registration slot p.there t ∙ ap (λ (b : Bool). if b then true else has_registration t p.there.registrations) (ne_eqb slot t (λ e. ne (sym e))))))
          (registers_named registration slot p.there stands.names names free) (there_on {K = K} {V = V} (Register registration) (Slot slot) w.there)
          (ap (registers registration slot) (there_stays None None ran.did m ∙ stands.there)) (m.events + 1) (m.is_alone && is_alone_on e m) (max m.slots (slot + 1)) w.sheltered m.remains refl))

-- so it is, by what the code does
module _ {K V S : Type 0} (same : K → K → Bool) (hash : K → ℕ) (terms : Terms) (log : List (Entry K V)) (p : Scheduler K V S) (registration : List ℕ)
    (due : IsInTurn same hash terms log (Register registration) p) (found : is_some (option_map (λ r. r.slot) (registration_of registration p.there.registrations)) ≡ false)
    (q : Scheduler K V S) (same_p : q ≡ record p { logged = q.logged }) (before after : List Effect) (nothing : before ≡ []) (slot : Result ℕ Fault)
    (ran : SlotTaken false slot before after p.logged q.logged) where
  did : after ≡ ran.did
  did = ran.follows ∙ ap (λ (xs : List Effect). xs ++ ran.did) nothing

  pub joined_refused : (fault : Fault) → slot ≡ Err fault → Plays same hash terms log (entry (Register registration) (Refused fault) 0 after) q
  joined_refused fault is =
      subst (λ (x : Scheduler K V S). Plays same hash terms log (entry (Register registration) (Refused fault) 0 after) x) (sym same_p)
      (subst (λ (xs : List Effect). Plays same hash terms log (entry (Register registration) (Refused fault) 0 xs) (record p { logged = q.logged })) (sym did)
      (refused same hash terms log p registration due found (outcome_of_taking slot) before after q.logged ran fault (ap (λ (x : Result ℕ Fault). outcome_of_taking {T = Node K V} x) is) nothing))

  pub joined_slot : (n : ℕ) → slot ≡ Ok n → (there : Present) → there ≡ registers registration n q.there
      → Plays same hash terms log (entry (Register registration) (Slot n) 0 after) (record q { there = there })
  joined_slot n is there there_is =
      subst (λ (x : Scheduler K V S). Plays same hash terms log (entry (Register registration) (Slot n) 0 after) (record x { there = there })) (sym same_p)
      (subst (λ (xs : List Effect). Plays same hash terms log (entry (Register registration) (Slot n) 0 xs) (record p { logged = q.logged; there = there })) (sym did)
      (registered same hash terms log p registration due found (outcome_of_taking slot) before after q.logged ran n (ap (λ (x : Result ℕ Fault). outcome_of_taking {T = Node K V} x) is) there
      (there_is ∙ ap (λ (x : Scheduler K V S). registers registration n x.there) same_p)))

  -- it was not refused as busy
  pub refused_quiet : (fault : Fault) → slot ≡ Err fault → BusyIsSilent {V = V} (Refused fault) after
  refused_quiet fault is = slot_quiet V (moment log).there ran.did after fault
      (gets_none same hash terms (moment log) p due.played false (outcome_of_taking slot) before after q.logged ran fault (ap (λ (x : Result ℕ Fault). outcome_of_taking {T = Node K V} x) is) nothing)
