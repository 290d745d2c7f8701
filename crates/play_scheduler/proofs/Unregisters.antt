-- A registration ends: its slot is given up, unless guards are left on it.
use Rattle.std.specs.Prelude.{◌==◌, ◌&&◌, ◌⊎◌, ◌≢◌, is_some, option_map, slice_index_or, slice_set, Some, None}
use Rattle.std.proofs.Common.{[], ◌++◌, ◌≡◌, ℕ, ◌+◌, ◌<◌, Bool, true, false, List, length, refl, sym, ap, subst, ◌∙◌, inl, inr, arith}
use Rattle.std.proofs.lemmas.Bool.{cases_eq, ne_eqb}
use Rattle.std.proofs.lemmas.List.{get_or-set_other, get_or-set_same, length-set}
use Rattle.seize_words.specs.declared.fault.Fault.TheVariants.{Busy}
use Rattle.papaya_raw.specs.Given.TablesDeclared.node.Node.{Node}
use Rattle.run_schedules.specs.declared.holders.NamedRegistration.{NamedRegistration}
use Rattle.run_schedules.specs.Runs.Present.{Present, guards_on, has_registration, living_on, registration_of, slot_of_registration, unregisters}
use Rattle.run_schedules.specs.declared.effect.Effect.{Effect}
use Rattle.run_schedules.specs.declared.event.Event.TheVariants.{Unregister}
use Rattle.run_schedules.specs.declared.outcome.Outcome.TheVariants.{Done, Refused}
use Rattle.run_schedules.specs.Schedules.After.{is_alone_on, moment}
use Rattle.run_schedules.specs.Schedules.Effects.{with_effects}
use Rattle.run_schedules.specs.Schedules.Entry.{Entry}
use Rattle.run_schedules.specs.Schedules.InTurn.{IsDone}
use Rattle.run_schedules.specs.Schedules.InUse.{is_registered}
use Rattle.run_schedules.specs.Schedules.Moment.{Moment}
use Rattle.run_schedules.specs.Schedules.Terms.{Terms}
use Rattle.run_shows.specs.declared.row.RowTold.{RowTold}
use Rattle.run_shows.specs.declared.row.RowTold.TheVariants as told
use Rattle.run_shows.specs.declared.row.SlotCall.TheVariants as call
use Rattle.run_shows.specs.declared.row.SlotUse.{SlotUse}
use Rattle.run_shows.specs.declared.row.SlotUse.TheVariants as used
use Rattle.run_shows.specs.declared.callers.TheConstants.{SLOTS}
use Rattle.run_logged.specs.Given.ShedsEnded.{has_ended}
use Rattle.run_logged.specs.declared.logged.Logged.{Logged}
use Rattle.play_scheduler.specs.Played.{IsInTurn, Plays, RefinesFor}
use Rattle.run_logged.specs.Rows.Rows.{RowRan, RowRanOn, used_as}
use Rattle.play_scheduler.specs.declared.scheduler.Scheduler.{Scheduler}
use Rattle.run_logged.proofs.Rows.Facts.{slot_fits}
use Rattle.play_scheduler.proofs.Quiet.{stands_on}
use Rattle.run_logged.proofs.Rows.Ran.{done_once, led_once, over_once}
use Rattle.play_scheduler.proofs.RanOn.{nobody_in, stands_ran, there_stays}
use Rattle.run_logged.proofs.Rows.Registered.{found_has, none_then, others_then, slot_found, unregisters_named}
use Rattle.play_scheduler.proofs.Seats.{stands_there}
use Rattle.run_logged.proofs.Rows.There.{is_inside, is_outside, is_vacant, registered_is, slot_is, slot_some, used_alike}
use Rattle.play_scheduler.proofs.Rights.{entry, in_turn, out_of_turn, plays, quiet}
use Rattle.run_executor.specs.Executing.IsThere.{use_at}
use Rattle.run_executor.specs.Executing.OnSlots.{MayBegin}

module _ {K V S : Type 0} (same : K → K → Bool) (hash : K → ℕ) (terms : Terms) (log : List (Entry K V)) (p : Scheduler K V S) (registration : List ℕ)
    (due : IsInTurn same hash terms log (Unregister registration) p) where
  abbrev m : Moment K V
  m = moment log

  abbrev stands : RefinesFor same hash terms m p
  stands = due.played

  abbrev turn : Bool
  turn = is_registered registration m.there && (living_on (slot_of_registration registration m.there) m.there.guards == 0)

  busy : turn ≡ false → Plays same hash terms log (quiet (Unregister registration) (Refused Busy)) p
  busy fails =
      let e = quiet (Unregister registration) (Refused Busy) in
      plays same hash terms log (Unregister registration) p due e refl (out_of_turn IsDone turn (Refused Busy) fails refl)
      (stands_on same hash terms m p stands (m.events + 1) (m.is_alone && is_alone_on e m) m.slots m.sheltered)

  registered : is_registered registration m.there ≡ is_some (option_map (λ r. r.slot) (registration_of registration p.there.registrations))
  registered = ap (is_registered registration) stands.there ∙ registered_is registration p.there ∙ sym (slot_some (registration_of registration p.there.registrations))

  pub not_registered : option_map (λ r. r.slot) (registration_of registration p.there.registrations) ≡ None → Plays same hash terms log (quiet (Unregister registration) (Refused Busy)) p
  not_registered none =
      busy (ap (λ (b : Bool). b && (living_on (slot_of_registration registration m.there) m.there.guards == 0)) (registered ∙ ap is_some none))

  module _ (slot : ℕ) (found : option_map (λ r. r.slot) (registration_of registration p.there.registrations) ≡ Some slot) where
    living_is : living_on (slot_of_registration registration m.there) m.there.guards ≡ living_on slot p.there.guards
    living_is = ap (λ (x : Present). living_on (slot_of_registration registration x) x.guards) stands.there ∙ ap (λ (x : ℕ). living_on x p.there.guards) (slot_is registration p.there slot found)

    is_turn : (b : Bool) → (living_on slot p.there.guards == 0) ≡ b → turn ≡ b
    is_turn b e =
        ap (λ (q : Bool). q && (living_on (slot_of_registration registration m.there) m.there.guards == 0)) (registered ∙ ap is_some found) ∙ ap (λ (n : ℕ). n == 0) living_is ∙ e

    pub guards_live : (living_on slot p.there.guards == 0) ≡ false → Plays same hash terms log (quiet (Unregister registration) (Refused Busy)) p
    guards_live some = busy (is_turn false some)

    module _ (none_live : (living_on slot p.there.guards == 0) ≡ true) where
      abbrev there2 : Present
      there2 = unregisters registration p.there

      abbrev its : (r : NamedRegistration) × (registration_of registration p.there.registrations ≡ Some r) × (r.slot ≡ slot)
      its = slot_found (registration_of registration p.there.registrations) slot found

      none_now : has_registration slot there2.registrations ≡ false
      none_now = subst (λ (x : ℕ). has_registration x there2.registrations ≡ false) its.2 (none_then registration p.there stands.names its.0 its.1)

      others_now : (t : ℕ) → t ≢ slot → has_registration t there2.registrations ≡ has_registration t p.there.registrations
      others_now t ne = others_then registration p.there stands.names its.0 t its.1 (ne_eqb its.0.slot t (λ e. ne (sym e ∙ its.2)))

      -- guards that were forgotten keep the slot,
      pub left : guards_on slot p.there.guards ≢ 0 → (there : Present) → there ≡ there2 → Plays same hash terms log (quiet (Unregister registration) Done) (record p { there = there })
      left some there is =
          let e = quiet (Unregister registration) Done in
          subst (λ (x : Present). Plays same hash terms log e (record p { there = x })) (sym is)
          (plays same hash terms log (Unregister registration) (record p { there = there2 }) due e refl (in_turn IsDone turn Done (is_turn true none_live) refl)
          (stands_there same hash terms m p stands there2 stands.calls.each used_still (unregisters_named registration p.there stands.names) (unregisters registration m.there)
          (ap (unregisters registration) stands.there) (m.events + 1) (m.is_alone && is_alone_on e m) m.slots m.sheltered))
        where
          used_still : (t : ℕ) → used_as t there2 ≡ used_as t p.there
          used_still t = by (cases_eq t slot)
            where
              by : (t ≡ slot) ⊎ (t ≢ slot) → used_as t there2 ≡ used_as t p.there
              by (inl e2) = subst (λ (x : ℕ). used_as x there2 ≡ used_as x p.there) (sym e2) (is_inside slot there2 some ∙ sym (is_inside slot p.there some))
              by (inr ne) = used_alike t p.there there2 refl (others_now t ne)

      -- and else it is given up
      module _ (last : guards_on slot p.there.guards ≡ 0) where
        outside : use_at p.logged.executor slot ≡ used.Outside
        outside =
            stands.slots slot
            ∙ is_outside slot p.there last (subst (λ (x : ℕ). has_registration x p.there.registrations ≡ true) its.2 (found_has registration p.there stands.names its.0 its.1))

        pub may_free : MayBegin p.logged.executor slot call.Unregister
        may_free = (outside, nobody_in same hash terms m p stands slot last)

        pub fits : slot < SLOTS
        fits = slot_fits same hash p.logged.executor stands.scene stands.shown.is_at slot (λ e. let h = sym outside ∙ e in cc h)

        module _ (said : RowTold (Node K V)) (before after : List Effect) (logged : Logged K V S) (ran : RowRan slot call.Unregister said before after p.logged logged) where
          is_done : said ≡ told.Done
          is_done = done_once same hash stands.name m stands.scene p.logged logged stands.shown slot call.Unregister said before after ran may_free tt

          slots_now : logged.executor.slots.items ≡ slice_set (slice_set p.logged.executor.slots.items slot used.Changing) slot used.Vacant
          slots_now = ran.used (ap has_ended is_done)

          use_now : (t : ℕ) → use_at logged.executor t ≡ used_as t there2
          use_now t = by (cases_eq t slot)
            where
              long : slot < length (slice_set p.logged.executor.slots.items slot used.Changing)
              long = let n = stands.shown.is_at.slots in let l = length-set p.logged.executor.slots.items slot used.Changing in omega (arith, n, l, fits)

              by : (t ≡ slot) ⊎ (t ≢ slot) → use_at logged.executor t ≡ used_as t there2
              by (inl e) =
                  ap (λ (xs : List SlotUse). slice_index_or xs t used.Vacant) slots_now ∙ ap (λ (x : ℕ). slice_index_or (slice_set (slice_set p.logged.executor.slots.items slot used.Changing) slot used.Vacant) x used.Vacant) e
                  ∙ get_or-set_same (slice_set p.logged.executor.slots.items slot used.Changing) slot used.Vacant used.Vacant long ∙ sym (ap (λ (x : ℕ). used_as x there2) e ∙ is_vacant slot there2 last none_now)
              by (inr ne) =
                  ap (λ (xs : List SlotUse). slice_index_or xs t used.Vacant) slots_now ∙ get_or-set_other (slice_set p.logged.executor.slots.items slot used.Changing) slot t used.Vacant used.Vacant ne
                  ∙ get_or-set_other p.logged.executor.slots.items slot t used.Changing used.Vacant ne ∙ stands.slots t ∙ sym (used_alike t p.there there2 refl (others_now t ne))

          pub freed : (there : Present) → there ≡ there2 → Plays same hash terms log (entry (Unregister registration) Done 0 ran.did) (record p { logged = logged; there = there })
          freed there is =
              let e = entry (Unregister registration) Done 0 ran.did in
              let w = with_effects None None ran.did m in
              subst (λ (x : Present). Plays same hash terms log e (record p { logged = logged; there = x })) (sym is)
              (plays same hash terms log (Unregister registration) (record p { logged = logged; there = there2 }) due e refl (in_turn IsDone turn Done (is_turn true none_live) refl)
              (stands_ran same hash terms m p stands slot call.Unregister said before after logged ran may_free
              (led_once same hash stands.name m stands.scene p.logged logged stands.shown slot call.Unregister said before after ran may_free tt)
              (over_once same hash stands.name m stands.scene p.logged logged stands.shown slot call.Unregister said before after ran may_free tt) there2 stands.calls.each use_now
              (unregisters_named registration p.there stands.names) (unregisters registration w.there) (ap (unregisters registration) (there_stays None None ran.did m ∙ stands.there))
              (m.events + 1) (m.is_alone && is_alone_on e m) m.slots w.sheltered m.remains refl))

-- so it is, by what the code does
module _ {K V S : Type 0} (same : K → K → Bool) (hash : K → ℕ) (terms : Terms) (log : List (Entry K V)) (p : Scheduler K V S) (registration : List ℕ)
    (due : IsInTurn same hash terms log (Unregister registration) p) (slot : ℕ) (found : option_map (λ r. r.slot) (registration_of registration p.there.registrations) ≡ Some slot)
    (none_live : (living_on slot p.there.guards == 0) ≡ true) (p2 : Scheduler K V S) (effects : List Effect) (there : Present) (is : there ≡ unregisters registration p2.there) where
  abbrev Comes : Scheduler K V S → List Effect → Type 0
  Comes q did = Plays same hash terms log (entry (Unregister registration) Done 0 did) (record q { there = there })

  pub joined : guards_on slot p.there.guards ≢ 0 → p2 ≡ p → effects ≡ [] → Comes p2 effects
  joined some same_p no_effects =
      subst (λ (q : Scheduler K V S). Comes q effects) (sym same_p)
      (subst (λ (did : List Effect). Comes p did) (sym no_effects)
      (left same hash terms log p registration due slot found none_live some there (is ∙ ap (λ (q : Scheduler K V S). unregisters registration q.there) same_p)))

  pub joined_last : guards_on slot p.there.guards ≡ 0 → (before after : List Effect) → before ≡ [] → effects ≡ after → (q : Scheduler K V S) → p2 ≡ q → q ≡ record p { logged = q.logged }
      → RowRanOn slot call.Unregister before after p.logged q.logged → Comes p2 effects
  joined_last last before after no_effects same_effects q same_q same_p (said, ran) =
      let did : effects ≡ ran.did = same_effects ∙ ran.follows ∙ ap (λ (xs : List Effect). xs ++ ran.did) no_effects in
      subst (λ (x : Scheduler K V S). Comes x effects) (sym (same_q ∙ same_p))
      (subst (λ (xs : List Effect). Comes (record p { logged = q.logged }) xs) (sym did)
      (freed same hash terms log p registration due slot found none_live last said before after q.logged ran
      there (is ∙ ap (λ (x : Scheduler K V S). unregisters registration x.there) (same_q ∙ same_p))))
