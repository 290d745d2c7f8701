-- A guard ends: the only one on its slot leaves the slot.
use Rattle.std.specs.Prelude.{◌==◌, ◌&&◌, ◌⊎◌, ◌≢◌, is_some, slice_index_or, slice_set, Some, None, if◌then◌else◌}
use Rattle.std.specs.List.{AllByRecursion}
use Rattle.std.proofs.Common.{[], ◌++◌, ◌≡◌, ℕ, ◌+◌, ◌<◌, Bool, true, false, List, length, refl, sym, ap, subst, ◌∙◌, inl, inr, arith}
use Rattle.std.proofs.lemmas.Bool.{cases_eq}
use Rattle.std.proofs.lemmas.List.{get_or-set_other, get_or-set_same, length-set}
use Rattle.seize_words.specs.declared.fault.Fault.TheVariants.{Busy}
use Rattle.run_shows.specs.Given.SeizeEndsHolders.{has_batch}
use Rattle.papaya_raw.specs.Given.TablesDeclared.node.Node.{Node}
use Rattle.run_schedules.specs.Runs.Present.{Present, drops, guard_of, guards_on, has_registration, living_slot}
use Rattle.run_schedules.specs.declared.effect.Effect.{Effect}
use Rattle.run_schedules.specs.declared.event.Event.TheVariants.{DropGuard}
use Rattle.run_schedules.specs.declared.outcome.Outcome.TheVariants.{Done, Refused}
use Rattle.run_schedules.specs.Schedules.After.{is_alone_on, moment, unsheltered}
use Rattle.run_schedules.specs.Schedules.Effects.{with_effects}
use Rattle.run_schedules.specs.Schedules.Entry.{Entry}
use Rattle.run_schedules.specs.Schedules.InTurn.{IsDone}
use Rattle.run_schedules.specs.Schedules.InUse.{is_free_guard}
use Rattle.run_schedules.specs.Schedules.Moment.{Moment}
use Rattle.run_schedules.specs.Schedules.Terms.{Terms}
use Rattle.run_shows.specs.declared.row.RowTold.{RowTold}
use Rattle.run_shows.specs.declared.row.RowTold.TheVariants as told
use Rattle.run_shows.specs.declared.row.SlotCall.{SlotCall}
use Rattle.run_shows.specs.declared.row.SlotCall.TheVariants as call
use Rattle.run_shows.specs.declared.row.SlotUse.{SlotUse}
use Rattle.run_shows.specs.declared.row.SlotUse.TheVariants as used
use Rattle.run_shows.specs.declared.callers.TheConstants.{SLOTS}
use Rattle.run_logged.specs.Given.ShedsEnded.{has_ended, uses_ended}
use Rattle.run_logged.specs.declared.logged.Logged.{Logged}
use Rattle.play_scheduler.specs.Played.{IsInTurn, IsUnderWay, Plays, RefinesFor}
use Rattle.run_logged.specs.Rows.Rows.{RowRan, RowRanOn, left_as, used_as}
use Rattle.run_executor.specs.Named.Seen.{free_slot}
use Rattle.play_scheduler.specs.declared.scheduler.Scheduler.{Scheduler}
use Rattle.play_scheduler.proofs.Dropped.{each_left, fits, free_lives, inside, nobody_else, none_left, others_used, used_still}
use Rattle.run_logged.proofs.Rows.Holders.{none_has}
use Rattle.run_logged.proofs.Rows.Names.{drops_named}
use Rattle.run_logged.specs.Rows.Settling.{IsSettling}
use Rattle.run_logged.proofs.Rows.NeverWaits.{done_alone, led_alone, over_alone}
use Rattle.play_scheduler.proofs.Quiet.{stands_on}
use Rattle.play_scheduler.proofs.RanOn.{stands_ran, there_stays}
use Rattle.play_scheduler.proofs.Rights.{entry, in_turn, out_of_turn, plays, quiet}
use Rattle.play_scheduler.proofs.Seats.{free_is, stands_there}
use Rattle.run_executor.specs.Executing.IsThere.{use_at}
use Rattle.run_executor.specs.Executing.OnSlots.{MayBegin, NobodyIn}
use Rattle.run_shows.specs.Scenes.Rows.{begun_row, uses_begun}

-- how the slot is used then, and how slots are once its row has ended
abbrev left_use : Bool → SlotUse
left_use b = if b then used.Outside else used.Vacant

ended_as : {T : Type 0} (slot size : ℕ) (said : RowTold T) (slots : List SlotUse) (b : Bool)
    → uses_ended (begun_row slot size (if b then call.Leave else call.LeaveOwned)) said (uses_begun slot (if b then call.Leave else call.LeaveOwned) slots)
    ≡ slice_set (slice_set slots slot used.Changing) slot (left_use b)
ended_as slot size said slots true = refl
ended_as slot size said slots false = refl

module _ {K V S : Type 0} (same : K → K → Bool) (hash : K → ℕ) (terms : Terms) (log : List (Entry K V)) (p : Scheduler K V S) (guard : List ℕ)
    (due : IsInTurn same hash terms log (DropGuard guard) p) where
  abbrev m : Moment K V
  m = moment log

  abbrev stands : RefinesFor same hash terms m p
  stands = due.played

  pub not_free : free_slot guard p.there p.calls ≡ None → Plays same hash terms log (quiet (DropGuard guard) (Refused Busy)) p
  not_free none =
      let e = quiet (DropGuard guard) (Refused Busy) in
      plays same hash terms log (DropGuard guard) p due e refl (out_of_turn IsDone (is_free_guard guard m) (Refused Busy) (free_is same hash terms m p stands guard ∙ ap is_some none) refl)
      (stands_on same hash terms m p stands (m.events + 1) (m.is_alone && is_alone_on e m) m.slots m.sheltered)

  abbrev pub less : Present
  less = drops guard p.there

  module _ (slot : ℕ) (free : free_slot guard p.there p.calls ≡ Some slot) where
    its_lives : living_slot (guard_of guard p.there.guards) ≡ Some slot
    its_lives = free_lives same hash terms m p stands guard slot free

    is_turn : is_free_guard guard m ≡ true
    is_turn = free_is same hash terms m p stands guard ∙ ap is_some free

    each_now : AllByRecursion (IsUnderWay stands.name stands.scene less) p.calls
    each_now = each_left same hash terms m p stands guard slot free

    -- while others are on its slot, that is used as before
    pub beside : guards_on slot p.there.guards ≢ 1 → (there : Present) → there ≡ less → Plays same hash terms log (quiet (DropGuard guard) Done) (record p { there = there })
    beside many there is =
        let e = quiet (DropGuard guard) Done in
        subst (λ (x : Present). Plays same hash terms log e (record p { there = x })) (sym is)
        (plays same hash terms log (DropGuard guard) (record p { there = less }) due e refl (in_turn IsDone (is_free_guard guard m) Done is_turn refl)
        (stands_there same hash terms m p stands less each_now (used_still guard slot p.there stands.names its_lives many) (drops_named guard p.there stands.names) (drops guard m.there)
        (ap (drops guard) stands.there) (m.events + 1) (m.is_alone && is_alone_on e m) m.slots (unsheltered guard m.sheltered)))

    -- and else its row runs, and ends
    module _ (one : guards_on slot p.there.guards ≡ 1) where
      abbrev pub how : SlotCall
      how = left_as slot p.there

      is_inside : use_at p.logged.executor slot ≡ used.Inside
      is_inside = inside same hash terms m p stands guard slot its_lives

      nobody : NobodyIn p.logged.executor slot
      nobody = nobody_else same hash terms m p stands guard slot free one

      pub may_leave : MayBegin p.logged.executor slot how
      may_leave = by (has_registration slot p.there.registrations)
        where
          by : (b : Bool) → MayBegin p.logged.executor slot (if b then call.Leave else call.LeaveOwned)
          by true = (is_inside, nobody)
          by false = (is_inside, nobody)

      pub its_fits : slot < SLOTS
      its_fits = fits same hash terms m p stands guard slot its_lives

      pub alone : (j : ℕ) → has_batch slot (stands.scene.world.row j) ≡ true → ⊥
      alone = none_has same hash p.logged.executor stands.scene stands.shown.is_at slot nobody

      pub settles : IsSettling (begun_row slot p.logged.executor.batch_size how)
      settles = by (has_registration slot p.there.registrations)
        where
          by : (b : Bool) → IsSettling (begun_row slot p.logged.executor.batch_size (if b then call.Leave else call.LeaveOwned))
          by true = tt
          by false = tt

      used_then : used_as slot less ≡ left_use (has_registration slot p.there.registrations)
      used_then =
          ap (λ (n : ℕ). if n == 0 then (if has_registration slot p.there.registrations then used.Outside else used.Vacant) else used.Inside)
          (none_left guard slot p.there stands.names its_lives one)

      module _ (said : RowTold (Node K V)) (before after : List Effect) (logged : Logged K V S) (ran : RowRan slot how said before after p.logged logged) where
        is_done : said ≡ told.Done
        is_done = done_alone same hash stands.name m stands.scene p.logged logged stands.shown slot how said before after ran may_leave settles alone

        abbrev last_use : SlotUse
        last_use = left_use (has_registration slot p.there.registrations)

        abbrev changing : List SlotUse
        changing = slice_set p.logged.executor.slots.items slot used.Changing

        slots_now : logged.executor.slots.items ≡ slice_set changing slot last_use
        slots_now = ran.used (ap has_ended is_done) ∙ ended_as slot p.logged.executor.batch_size said p.logged.executor.slots.items (has_registration slot p.there.registrations)

        use_now : (t : ℕ) → use_at logged.executor t ≡ used_as t less
        use_now t = by (cases_eq t slot)
          where
            long : slot < length changing
            long = let n = stands.shown.is_at.slots in let l = length-set p.logged.executor.slots.items slot used.Changing in omega (arith, n, l, its_fits)

            by : (t ≡ slot) ⊎ (t ≢ slot) → use_at logged.executor t ≡ used_as t less
            by (inl e) =
                ap (λ (xs : List SlotUse). slice_index_or xs t used.Vacant) slots_now ∙ ap (λ (x : ℕ). slice_index_or (slice_set changing slot last_use) x used.Vacant) e
                ∙ get_or-set_same changing slot last_use used.Vacant long ∙ sym used_then ∙ ap (λ (x : ℕ). used_as x less) (sym e)
            by (inr ne) =
                ap (λ (xs : List SlotUse). slice_index_or xs t used.Vacant) slots_now ∙ get_or-set_other changing slot t last_use used.Vacant ne
                ∙ get_or-set_other p.logged.executor.slots.items slot t used.Changing used.Vacant ne ∙ stands.slots t ∙ sym (others_used guard slot p.there stands.names its_lives t ne)

        pub left : (there : Present) → there ≡ less → Plays same hash terms log (entry (DropGuard guard) Done 0 ran.did) (record p { logged = logged; there = there })
        left there is =
            let e = entry (DropGuard guard) Done 0 ran.did in
            let w = with_effects None None ran.did m in
            subst (λ (x : Present). Plays same hash terms log e (record p { logged = logged; there = x })) (sym is)
            (plays same hash terms log (DropGuard guard) (record p { logged = logged; there = less }) due e refl (in_turn IsDone (is_free_guard guard m) Done is_turn refl)
            (stands_ran same hash terms m p stands slot how said before after logged ran may_leave
            (led_alone same hash stands.name m stands.scene p.logged logged stands.shown slot how said before after ran may_leave settles alone)
            (over_alone same hash stands.name m stands.scene p.logged logged stands.shown slot how said before after ran may_leave settles alone) less each_now use_now
            (drops_named guard p.there stands.names) (drops guard w.there) (ap (drops guard) (there_stays None None ran.did m ∙ stands.there))
            (m.events + 1) (m.is_alone && is_alone_on e m) m.slots (unsheltered guard w.sheltered) m.remains refl))

-- so it is, by what the code does
module _ {K V S : Type 0} (same : K → K → Bool) (hash : K → ℕ) (terms : Terms) (log : List (Entry K V)) (p : Scheduler K V S) (guard : List ℕ)
    (due : IsInTurn same hash terms log (DropGuard guard) p) (slot : ℕ) (free : free_slot guard p.there p.calls ≡ Some slot) (p2 : Scheduler K V S) (effects : List Effect)
    (there : Present) (is : there ≡ drops guard p2.there) where
  abbrev Comes : Scheduler K V S → List Effect → Type 0
  Comes q did = Plays same hash terms log (entry (DropGuard guard) Done 0 did) (record q { there = there })

  pub joined : guards_on slot p.there.guards ≢ 1 → p2 ≡ p → effects ≡ [] → Comes p2 effects
  joined many same_p no_effects =
      subst (λ (q : Scheduler K V S). Comes q effects) (sym same_p)
      (subst (λ (did : List Effect). Comes p did) (sym no_effects)
      (beside same hash terms log p guard due slot free many there (is ∙ ap (λ (q : Scheduler K V S). drops guard q.there) same_p)))

  pub joined_alone : guards_on slot p.there.guards ≡ 1 → (before after : List Effect) → before ≡ [] → effects ≡ after → (q : Scheduler K V S) → p2 ≡ q → q ≡ record p { logged = q.logged }
      → (called : SlotCall) → called ≡ left_as slot p.there → RowRanOn slot called before after p.logged q.logged → Comes p2 effects
  joined_alone one before after no_effects same_effects q same_q same_p called is_called ran_on =
      by (subst (λ (x : SlotCall). RowRanOn slot x before after p.logged q.logged) is_called ran_on)
    where
      by : RowRanOn slot (left_as slot p.there) before after p.logged q.logged → Comes p2 effects
      by (said, ran) =
          let did : effects ≡ ran.did = same_effects ∙ ran.follows ∙ ap (λ (xs : List Effect). xs ++ ran.did) no_effects in
          subst (λ (x : Scheduler K V S). Comes x effects) (sym (same_q ∙ same_p))
          (subst (λ (xs : List Effect). Comes (record p { logged = q.logged }) xs) (sym did)
          (left same hash terms log p guard due slot free one said before after q.logged ran
          there (is ∙ ap (λ (x : Scheduler K V S). drops guard x.there) (same_q ∙ same_p))))
