-- A guard enters.
use Rattle.std.specs.Prelude.{◌&&◌, ◌⊎◌, ◌≢◌, not, cond, nat_lt, is_some, option_map, slice_index_or, slice_set, Some, None, if◌then◌else◌}
use Rattle.std.specs.List.{AllByRecursion}
use Rattle.std.proofs.Common.{◌≡◌, ℕ, ◌+◌, ◌<◌, Bool, true, false, List, [], ◌∷◌, ◌++◌, length, refl, sym, ap, subst, ◌∙◌, inl, inr, arith}
use Rattle.std.proofs.lemmas.Bool.{cases_eq, eq-eqb, ne_eqb}
use Rattle.std.proofs.lemmas.List.{get_or-set_other, get_or-set_same, length-set}
use Rattle.seize_words.specs.declared.fault.Fault.TheVariants.{Busy, GuardsFull}
use Rattle.papaya_raw.specs.Given.TablesDeclared.node.Node.{Node}
use Rattle.run_schedules.specs.declared.holders.NamedGuard.{NamedGuard}
use Rattle.run_schedules.specs.Runs.Present.{Present, enters_slot, guard_of, guards_on, has_registration, living_slot, registration_of, slot_of_registration}
use Rattle.run_schedules.specs.Runs.Runs.{MOST_GUARDS}
use Rattle.run_schedules.specs.Runs.Same.{is_same}
use Rattle.run_schedules.proofs.Runs.Laws.{enters_counts}
use Rattle.run_schedules.specs.declared.effect.Effect.{Effect}
use Rattle.run_schedules.specs.declared.event.Event.TheVariants.{Enter}
use Rattle.run_schedules.specs.declared.outcome.Outcome.{Outcome}
use Rattle.run_schedules.specs.declared.outcome.Outcome.TheVariants.{Done, Refused}
use Rattle.run_schedules.specs.Schedules.After.{is_alone_on, moment, there_on}
use Rattle.run_schedules.specs.Schedules.Effects.{with_effects}
use Rattle.run_schedules.specs.Schedules.Entry.{Entry}
use Rattle.run_schedules.specs.Schedules.InTurn.{IsEntered}
use Rattle.run_schedules.specs.Schedules.InUse.{is_guard, is_registered}
use Rattle.run_schedules.specs.Schedules.Moment.{Moment}
use Rattle.run_schedules.specs.Schedules.Terms.{Terms}
use Rattle.run_shows.specs.declared.row.RowTold.{RowTold}
use Rattle.run_shows.specs.declared.row.RowTold.TheVariants as told
use Rattle.run_shows.specs.declared.row.SlotCall.TheVariants as call
use Rattle.run_shows.specs.declared.row.SlotUse.{SlotUse}
use Rattle.run_shows.specs.declared.row.SlotUse.TheVariants as used
use Rattle.run_shows.specs.declared.callers.TheConstants.{SLOTS}
use Rattle.run_logged.specs.Given.ShedsEnded.{has_ended}
use Rattle.run_logged.specs.declared.logged.Logged.{Logged}
use Rattle.play_scheduler.specs.Played.{IsInTurn, IsUnderWay, Plays, RefinesFor}
use Rattle.run_logged.specs.Rows.Rows.{RowRan, RowRanOn, used_as}
use Rattle.play_scheduler.specs.declared.scheduler.Scheduler.{Scheduler}
use Rattle.run_logged.proofs.Rows.Facts.{slot_fits}
use Rattle.run_logged.proofs.Rows.Lists.{all_so}
use Rattle.run_logged.proofs.Rows.Names.{enters_named}
use Rattle.play_scheduler.proofs.Quiet.{stands_on}
use Rattle.run_logged.proofs.Rows.Ran.{done_once, led_once, over_once}
use Rattle.play_scheduler.proofs.RanOn.{nobody_in, stands_ran, there_stays}
use Rattle.run_logged.proofs.Rows.Registered.{found_has, slot_found}
use Rattle.play_scheduler.proofs.Seats.{stands_there}
use Rattle.run_logged.proofs.Rows.There.{guard_is, is_inside, is_outside, registered_is, slot_is, slot_some, used_alike}
use Rattle.play_scheduler.proofs.Rights.{entry, in_turn, out_of_turn, plays, quiet}
use Rattle.run_executor.specs.Executing.IsThere.{use_at}
use Rattle.run_executor.specs.Executing.OnSlots.{MayBegin}
use Rattle.run_shows.specs.Scenes.Scene.{slot_of}
use Rattle.seize_words.proofs.General.{none_of as none_is}

-- guards that are there are found as before where one more comes
pub found_more : (name : List ℕ) (guards more : List NamedGuard) (slot : ℕ) → living_slot (guard_of name guards) ≡ Some slot → living_slot (guard_of name (guards ++ more)) ≡ Some slot
found_more name [] more slot e = absurd (cc e)
found_more name (g ∷ guards) more slot e = by (is_same g.name name) e (found_more name guards more slot)
  where
    by : (b : Bool) → living_slot (cond b (Some g) (guard_of name guards)) ≡ Some slot → (living_slot (guard_of name guards) ≡ Some slot → living_slot (guard_of name (guards ++ more)) ≡ Some slot)
        → living_slot (cond b (Some g) (guard_of name (guards ++ more))) ≡ Some slot
    by true h ih = h
    by false h ih = ih h

module _ (guard : List ℕ) (slot : ℕ) (there : Present) where
  abbrev more : Present
  more = enters_slot guard slot there

  abbrev new : NamedGuard
  new = record { name = guard; slot = slot; forgotten = false }

  on_it : guards_on slot more.guards ≢ 0
  on_it z = let c = (enters_counts there.guards new).1 slot in let q = ap {B = ℕ} (λ (b : Bool). cond b 1 0) (eq-eqb slot slot refl) in omega (arith, z, c, q)

  on_others : (t : ℕ) → t ≢ slot → guards_on t more.guards ≡ guards_on t there.guards
  on_others t ne =
      let c = (enters_counts there.guards new).1 t in
      let q = ap {B = ℕ} (λ (b : Bool). cond b 1 0) (ne_eqb slot t (λ e. ne (sym e))) in
      omega (arith, c, q)

  -- slots are used as before where one guard was on it already
  pub used_still : guards_on slot there.guards ≢ 0 → (t : ℕ) → used_as t more ≡ used_as t there
  used_still some t = by (cases_eq t slot)
    where
      by : (t ≡ slot) ⊎ (t ≢ slot) → used_as t more ≡ used_as t there
      by (inl e) = subst (λ (x : ℕ). used_as x more ≡ used_as x there) (sym e) (is_inside slot more on_it ∙ sym (is_inside slot there some))
      by (inr ne) = used_alike t there more (on_others t ne) refl

  -- and else it is entered now
  pub used_now : (t : ℕ) → ((t ≡ slot) × (used_as t more ≡ used.Inside)) ⊎ ((t ≢ slot) × (used_as t more ≡ used_as t there))
  used_now t = by (cases_eq t slot)
    where
      by : (t ≡ slot) ⊎ (t ≢ slot) → ((t ≡ slot) × (used_as t more ≡ used.Inside)) ⊎ ((t ≢ slot) × (used_as t more ≡ used_as t there))
      by (inl e) = inl (e, subst (λ (x : ℕ). used_as x more ≡ used.Inside) (sym e) (is_inside slot more on_it))
      by (inr ne) = inr (ne, used_alike t there more (on_others t ne) refl)

module _ {K V S : Type 0} (same : K → K → Bool) (hash : K → ℕ) (terms : Terms) (log : List (Entry K V)) (p : Scheduler K V S) (guard registration : List ℕ)
    (due : IsInTurn same hash terms log (Enter guard registration) p) where
  abbrev m : Moment K V
  m = moment log

  abbrev stands : RefinesFor same hash terms m p
  stands = due.played

  abbrev turn : Bool
  turn = not (is_guard guard m.there) && is_registered registration m.there

  abbrev wanted : Outcome V → Type 0
  wanted = IsEntered (slot_of_registration registration m.there) m.there

  busy : turn ≡ false → Plays same hash terms log (quiet (Enter guard registration) (Refused Busy)) p
  busy fails =
      let e = quiet (Enter guard registration) (Refused Busy) in
      plays same hash terms log (Enter guard registration) p due e refl (out_of_turn wanted turn (Refused Busy) fails refl)
      (stands_on same hash terms m p stands (m.events + 1) (m.is_alone && is_alone_on e m) m.slots m.sheltered)

  pub guard_there : is_some (guard_of guard p.there.guards) ≡ true → Plays same hash terms log (quiet (Enter guard registration) (Refused Busy)) p
  guard_there has = busy (ap (λ (b : Bool). not b && is_registered registration m.there) (ap (is_guard guard) stands.there ∙ guard_is guard p.there ∙ has))

  pub no_registration : option_map (λ r. r.slot) (registration_of registration p.there.registrations) ≡ None → Plays same hash terms log (quiet (Enter guard registration) (Refused Busy)) p
  no_registration none =
      busy (no_other (not (is_guard guard m.there)) (is_registered registration m.there)
      (ap (is_registered registration) stands.there ∙ registered_is registration p.there ∙ sym (slot_some (registration_of registration p.there.registrations)) ∙ ap is_some none))
    where
      no_other : (a b : Bool) → b ≡ false → (a && b) ≡ false
      no_other true b e = e
      no_other false b e = refl

  module _ (none : is_some (guard_of guard p.there.guards) ≡ false) (slot : ℕ) (found : option_map (λ r. r.slot) (registration_of registration p.there.registrations) ≡ Some slot) where
    is_turn : turn ≡ true
    is_turn =
        ap (λ (b : Bool). not b && is_registered registration m.there) (ap (is_guard guard) stands.there ∙ guard_is guard p.there ∙ none)
        ∙ ap (is_registered registration) stands.there ∙ registered_is registration p.there ∙ sym (slot_some (registration_of registration p.there.registrations)) ∙ ap is_some found

    pub its_slot : slot_of_registration registration m.there ≡ slot
    its_slot = ap (slot_of_registration registration) stands.there ∙ slot_is registration p.there slot found

    -- what it comes to, by how many guards there are
    wanted_by : (full : Bool) → nat_lt (guards_on slot p.there.guards) MOST_GUARDS ≡ full → wanted (if full then Done else Refused GuardsFull)
    wanted_by full is =
        sym (ap (λ (x : ℕ). if nat_lt (guards_on x m.there.guards) MOST_GUARDS then Done else Refused GuardsFull) its_slot
        ∙ ap (λ (x : Present). if nat_lt (guards_on slot x.guards) MOST_GUARDS then Done else Refused GuardsFull) stands.there ∙ ap (λ (b : Bool). if b then Done else Refused GuardsFull) is)

    pub full : nat_lt (guards_on slot p.there.guards) MOST_GUARDS ≡ false → Plays same hash terms log (quiet (Enter guard registration) (Refused GuardsFull)) p
    full most =
        let e = quiet (Enter guard registration) (Refused GuardsFull) in
        plays same hash terms log (Enter guard registration) p due e refl (in_turn wanted turn (Refused GuardsFull) is_turn (wanted_by false most))
        (stands_on same hash terms m p stands (m.events + 1) (m.is_alone && is_alone_on e m) m.slots m.sheltered)

    abbrev there2 : Present
    there2 = enters_slot guard slot p.there

    there_now : (there : Present) → there ≡ p.there → there_on {K = K} {V = V} (Enter guard registration) Done there ≡ there2
    there_now there is =
        ap (λ (x : Present). enters_slot guard (slot_of_registration registration x) x) is ∙ ap (λ (x : ℕ). enters_slot guard x p.there) (slot_is registration p.there slot found)

    each_now : AllByRecursion (IsUnderWay stands.name stands.scene there2) p.calls
    each_now =
        all_so (IsUnderWay stands.name stands.scene p.there) (IsUnderWay stands.name stands.scene there2)
        (λ d way. (way.0, way.1, way.2, found_more d.guard p.there.guards (record { name = guard; slot = slot; forgotten = false } ∷ []) (slot_of d.number) way.3, way.4)) p.calls stands.calls.each

    -- another guard is on the slot
    pub entered : nat_lt (guards_on slot p.there.guards) MOST_GUARDS ≡ true → guards_on slot p.there.guards ≢ 0 → (there : Present) → there ≡ there2
        → Plays same hash terms log (quiet (Enter guard registration) Done) (record p { there = there })
    entered few some there is =
        let e = quiet (Enter guard registration) Done in
        subst (λ (x : Present). Plays same hash terms log e (record p { there = x })) (sym is)
        (plays same hash terms log (Enter guard registration) (record p { there = there2 }) due e refl (in_turn wanted turn Done is_turn (wanted_by true few))
        (stands_there same hash terms m p stands there2 each_now (used_still guard slot p.there some) (enters_named guard slot p.there (none_is (guard_of guard p.there.guards) none) stands.names)
        (there_on {K = K} {V = V} (Enter guard registration) Done m.there) (there_now m.there stands.there) (m.events + 1) (m.is_alone && is_alone_on e m) m.slots m.sheltered))

    -- or it is the first one
    module _ (first : guards_on slot p.there.guards ≡ 0) where
      has : has_registration slot p.there.registrations ≡ true
      has =
          let r = slot_found (registration_of registration p.there.registrations) slot found in
          subst (λ (x : ℕ). has_registration x p.there.registrations ≡ true) r.2 (found_has registration p.there stands.names r.0 r.1)

      outside : use_at p.logged.executor slot ≡ used.Outside
      outside = stands.slots slot ∙ is_outside slot p.there first has

      pub may_enter : MayBegin p.logged.executor slot call.Enter
      may_enter = (outside, nobody_in same hash terms m p stands slot first)

      pub fits : slot < SLOTS
      fits = slot_fits same hash p.logged.executor stands.scene stands.shown.is_at slot (λ e. let h = sym outside ∙ e in cc h)

      module _ (said : RowTold (Node K V)) (before after : List Effect) (logged : Logged K V S) (ran : RowRan slot call.Enter said before after p.logged logged) where
        is_done : said ≡ told.Done
        is_done = done_once same hash stands.name m stands.scene p.logged logged stands.shown slot call.Enter said before after ran may_enter tt

        slots_now : logged.executor.slots.items ≡ slice_set (slice_set p.logged.executor.slots.items slot used.Changing) slot used.Inside
        slots_now = ran.used (ap has_ended is_done)

        use_now : (t : ℕ) → use_at logged.executor t ≡ used_as t there2
        use_now t = by (used_now guard slot p.there t)
          where
            long : slot < length (slice_set p.logged.executor.slots.items slot used.Changing)
            long = let n = stands.shown.is_at.slots in let l = length-set p.logged.executor.slots.items slot used.Changing in omega (arith, n, l, fits)

            by : ((t ≡ slot) × (used_as t there2 ≡ used.Inside)) ⊎ ((t ≢ slot) × (used_as t there2 ≡ used_as t p.there)) → use_at logged.executor t ≡ used_as t there2
            by (inl (e, inside)) =
                ap (λ (xs : List SlotUse). slice_index_or xs t used.Vacant) slots_now ∙ ap (λ (x : ℕ). slice_index_or (slice_set (slice_set p.logged.executor.slots.items slot used.Changing) slot used.Inside) x used.Vacant) e
                ∙ get_or-set_same (slice_set p.logged.executor.slots.items slot used.Changing) slot used.Inside used.Vacant long ∙ sym inside
            by (inr (ne, alike)) =
                ap (λ (xs : List SlotUse). slice_index_or xs t used.Vacant) slots_now ∙ get_or-set_other (slice_set p.logged.executor.slots.items slot used.Changing) slot t used.Inside used.Vacant ne
                ∙ get_or-set_other p.logged.executor.slots.items slot t used.Changing used.Vacant ne ∙ stands.slots t ∙ sym alike

        -- it is within a section
        pub is_within : use_at logged.executor slot ≡ used.Inside
        is_within = use_now slot ∙ is_inside slot there2 (on_it guard slot p.there)

        pub entered_first : nat_lt (guards_on slot p.there.guards) MOST_GUARDS ≡ true → (there : Present) → there ≡ there2
            → Plays same hash terms log (entry (Enter guard registration) Done 0 ran.did) (record p { logged = logged; there = there })
        entered_first few there is =
            let e = entry (Enter guard registration) Done 0 ran.did in
            let w = with_effects None None ran.did m in
            subst (λ (x : Present). Plays same hash terms log e (record p { logged = logged; there = x })) (sym is)
            (plays same hash terms log (Enter guard registration) (record p { logged = logged; there = there2 }) due e refl (in_turn wanted turn Done is_turn (wanted_by true few))
            (stands_ran same hash terms m p stands slot call.Enter said before after logged ran may_enter
            (led_once same hash stands.name m stands.scene p.logged logged stands.shown slot call.Enter said before after ran may_enter tt)
            (over_once same hash stands.name m stands.scene p.logged logged stands.shown slot call.Enter said before after ran may_enter tt) there2 each_now use_now
            (enters_named guard slot p.there (none_is (guard_of guard p.there.guards) none) stands.names) (there_on {K = K} {V = V} (Enter guard registration) Done w.there)
            (there_now w.there (there_stays None None ran.did m ∙ stands.there)) (m.events + 1) (m.is_alone && is_alone_on e m) m.slots w.sheltered m.remains refl))

-- so it is, by what the code does
module _ {K V S : Type 0} (same : K → K → Bool) (hash : K → ℕ) (terms : Terms) (log : List (Entry K V)) (p : Scheduler K V S) (guard registration : List ℕ)
    (due : IsInTurn same hash terms log (Enter guard registration) p) (none : is_some (guard_of guard p.there.guards) ≡ false) (slot : ℕ)
    (found : option_map (λ r. r.slot) (registration_of registration p.there.registrations) ≡ Some slot) (few : nat_lt (guards_on slot p.there.guards) MOST_GUARDS ≡ true)
    (p2 : Scheduler K V S) (effects : List Effect) (there : Present) (is : there ≡ enters_slot guard slot p2.there) where
  abbrev Comes : Scheduler K V S → List Effect → Type 0
  Comes q did = Plays same hash terms log (entry (Enter guard registration) Done 0 did) (record q { there = there })

  pub joined : guards_on slot p.there.guards ≢ 0 → p2 ≡ p → effects ≡ [] → Comes p2 effects
  joined some same_p no_effects =
      subst (λ (q : Scheduler K V S). Comes q effects) (sym same_p)
      (subst (λ (did : List Effect). Comes p did) (sym no_effects)
      (entered same hash terms log p guard registration due none slot found few some there (is ∙ ap (λ (q : Scheduler K V S). enters_slot guard slot q.there) same_p)))

  pub joined_first : guards_on slot p.there.guards ≡ 0 → (before after : List Effect) → before ≡ [] → effects ≡ after → (q : Scheduler K V S) → p2 ≡ q → q ≡ record p { logged = q.logged }
      → RowRanOn slot call.Enter before after p.logged q.logged → Comes p2 effects
  joined_first first before after no_effects same_effects q same_q same_p (said, ran) =
      let did : effects ≡ ran.did = same_effects ∙ ran.follows ∙ ap (λ (xs : List Effect). xs ++ ran.did) no_effects in
      subst (λ (x : Scheduler K V S). Comes x effects) (sym (same_q ∙ same_p))
      (subst (λ (xs : List Effect). Comes (record p { logged = q.logged }) xs) (sym did)
      (entered_first same hash terms log p guard registration due none slot found first said before after q.logged ran few
      there (is ∙ ap (λ (x : Scheduler K V S). enters_slot guard slot x.there) (same_q ∙ same_p))))
