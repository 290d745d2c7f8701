-- A guard's section begins anew.
use Rattle.std.specs.Prelude.{◌&&◌, ◌⊎◌, ◌≢◌, is_some, slice_index_or, slice_set, Some, None}
use Rattle.std.proofs.Common.{[], ◌++◌, ◌≡◌, ℕ, ◌+◌, ◌<◌, Bool, true, List, length, refl, sym, ap, subst, ◌∙◌, inl, inr, arith}
use Rattle.std.proofs.lemmas.Bool.{cases_eq}
use Rattle.std.proofs.lemmas.List.{get_or-set_other, get_or-set_same, length-set}
use Rattle.seize_words.specs.declared.fault.Fault.TheVariants.{Busy}
use Rattle.run_shows.specs.Given.SeizeEndsHolders.{has_batch}
use Rattle.papaya_raw.specs.Given.TablesDeclared.node.Node.{Node}
use Rattle.run_schedules.specs.Runs.Present.{guards_on}
use Rattle.run_schedules.specs.declared.effect.Effect.{Effect}
use Rattle.run_schedules.specs.declared.event.Event.TheVariants.{Refresh}
use Rattle.run_schedules.specs.declared.outcome.Outcome.TheVariants.{Done, Refused}
use Rattle.run_schedules.specs.Schedules.After.{is_alone_on, moment, unsheltered}
use Rattle.run_schedules.specs.Schedules.Effects.{with_effects}
use Rattle.run_schedules.specs.Schedules.Entry.{Entry}
use Rattle.run_schedules.specs.Schedules.InTurn.{IsDone}
use Rattle.run_schedules.specs.Schedules.InUse.{is_free_guard}
use Rattle.run_schedules.specs.Schedules.Moment.{Moment}
use Rattle.run_schedules.specs.Schedules.Terms.{Terms}
use Rattle.run_shows.specs.declared.row.RowTold.{RowTold}
use Rattle.run_shows.specs.declared.row.RowTold.TheVariants as told
use Rattle.run_shows.specs.declared.row.SlotCall.TheVariants as call
use Rattle.run_shows.specs.declared.row.SlotUse.{SlotUse}
use Rattle.run_shows.specs.declared.row.SlotUse.TheVariants as used
use Rattle.run_shows.specs.declared.callers.TheConstants.{SLOTS}
use Rattle.run_logged.specs.Given.ShedsEnded.{has_ended}
use Rattle.run_logged.specs.declared.logged.Logged.{Logged}
use Rattle.play_scheduler.specs.Played.{IsInTurn, Plays, RefinesFor}
use Rattle.run_logged.specs.Rows.Rows.{RowRan, RowRanOn, used_as}
use Rattle.run_executor.specs.Named.Seen.{free_slot}
use Rattle.play_scheduler.specs.declared.scheduler.Scheduler.{Scheduler}
use Rattle.play_scheduler.proofs.Dropped.{fits, free_lives, inside, nobody_else}
use Rattle.run_logged.proofs.Rows.Holders.{none_has}
use Rattle.run_logged.proofs.Rows.NeverWaits.{done_alone, led_alone, over_alone}
use Rattle.play_scheduler.proofs.Quiet.{stands_on}
use Rattle.play_scheduler.proofs.RanOn.{stands_ran, there_stays}
use Rattle.play_scheduler.proofs.Rights.{entry, in_turn, out_of_turn, plays, quiet}
use Rattle.play_scheduler.proofs.Seats.{free_is}
use Rattle.run_executor.specs.Executing.IsThere.{use_at}
use Rattle.run_executor.specs.Executing.OnSlots.{MayBegin}

module _ {K V S : Type 0} (same : K → K → Bool) (hash : K → ℕ) (terms : Terms) (log : List (Entry K V)) (p : Scheduler K V S) (guard : List ℕ)
    (due : IsInTurn same hash terms log (Refresh guard) p) where
  abbrev m : Moment K V
  m = moment log

  abbrev stands : RefinesFor same hash terms m p
  stands = due.played

  pub not_free : free_slot guard p.there p.calls ≡ None → Plays same hash terms log (quiet (Refresh guard) (Refused Busy)) p
  not_free none =
      let e = quiet (Refresh guard) (Refused Busy) in
      plays same hash terms log (Refresh guard) p due e refl (out_of_turn IsDone (is_free_guard guard m) (Refused Busy) (free_is same hash terms m p stands guard ∙ ap is_some none) refl)
      (stands_on same hash terms m p stands (m.events + 1) (m.is_alone && is_alone_on e m) m.slots m.sheltered)

  module _ (slot : ℕ) (free : free_slot guard p.there p.calls ≡ Some slot) where
    -- while others are on its slot, the slot's section goes on
    pub beside : Plays same hash terms log (quiet (Refresh guard) Done) p
    beside =
        let e = quiet (Refresh guard) Done in
        plays same hash terms log (Refresh guard) p due e refl (in_turn IsDone (is_free_guard guard m) Done (free_is same hash terms m p stands guard ∙ ap is_some free) refl)
        (stands_on same hash terms m p stands (m.events + 1) (m.is_alone && is_alone_on e m) m.slots (unsheltered guard m.sheltered))

    -- and else its row runs, and ends
    module _ (one : guards_on slot p.there.guards ≡ 1) where
      is_inside : use_at p.logged.executor slot ≡ used.Inside
      is_inside = inside same hash terms m p stands guard slot (free_lives same hash terms m p stands guard slot free)

      pub may_refresh : MayBegin p.logged.executor slot call.Refresh
      may_refresh = (is_inside, nobody_else same hash terms m p stands guard slot free one)

      pub its_fits : slot < SLOTS
      its_fits = fits same hash terms m p stands guard slot (free_lives same hash terms m p stands guard slot free)

      pub alone : (j : ℕ) → has_batch slot (stands.scene.world.row j) ≡ true → ⊥
      alone = none_has same hash p.logged.executor stands.scene stands.shown.is_at slot may_refresh.1

      module _ (said : RowTold (Node K V)) (before after : List Effect) (logged : Logged K V S) (ran : RowRan slot call.Refresh said before after p.logged logged) where
        is_done : said ≡ told.Done
        is_done = done_alone same hash stands.name m stands.scene p.logged logged stands.shown slot call.Refresh said before after ran may_refresh tt alone

        slots_now : logged.executor.slots.items ≡ slice_set (slice_set p.logged.executor.slots.items slot used.Changing) slot used.Inside
        slots_now = ran.used (ap has_ended is_done)

        use_now : (t : ℕ) → use_at logged.executor t ≡ used_as t p.there
        use_now t = by (cases_eq t slot)
          where
            long : slot < length (slice_set p.logged.executor.slots.items slot used.Changing)
            long = let n = stands.shown.is_at.slots in let l = length-set p.logged.executor.slots.items slot used.Changing in omega (arith, n, l, its_fits)

            by : (t ≡ slot) ⊎ (t ≢ slot) → use_at logged.executor t ≡ used_as t p.there
            by (inl e) =
                ap (λ (xs : List SlotUse). slice_index_or xs t used.Vacant) slots_now
                ∙ ap (λ (x : ℕ). slice_index_or (slice_set (slice_set p.logged.executor.slots.items slot used.Changing) slot used.Inside) x used.Vacant) e
                ∙ get_or-set_same (slice_set p.logged.executor.slots.items slot used.Changing) slot used.Inside used.Vacant long
                ∙ sym is_inside ∙ stands.slots slot ∙ ap (λ (x : ℕ). used_as x p.there) (sym e)
            by (inr ne) =
                ap (λ (xs : List SlotUse). slice_index_or xs t used.Vacant) slots_now
                ∙ get_or-set_other (slice_set p.logged.executor.slots.items slot used.Changing) slot t used.Inside used.Vacant ne
                ∙ get_or-set_other p.logged.executor.slots.items slot t used.Changing used.Vacant ne ∙ stands.slots t

        -- it is within a section anew
        pub is_within : use_at logged.executor slot ≡ used.Inside
        is_within = use_now slot ∙ sym (stands.slots slot) ∙ is_inside

        pub refreshed : Plays same hash terms log (entry (Refresh guard) Done 0 ran.did) (record p { logged = logged })
        refreshed =
            let e = entry (Refresh guard) Done 0 ran.did in
            let w = with_effects None None ran.did m in
            plays same hash terms log (Refresh guard) (record p { logged = logged }) due e refl (in_turn IsDone (is_free_guard guard m) Done (free_is same hash terms m p stands guard ∙ ap is_some free) refl)
            (stands_ran same hash terms m p stands slot call.Refresh said before after logged ran may_refresh
            (led_alone same hash stands.name m stands.scene p.logged logged stands.shown slot call.Refresh said before after ran may_refresh tt alone)
            (over_alone same hash stands.name m stands.scene p.logged logged stands.shown slot call.Refresh said before after ran may_refresh tt alone) p.there stands.calls.each use_now
            stands.names w.there (there_stays None None ran.did m ∙ stands.there) (m.events + 1) (m.is_alone && is_alone_on e m) m.slots (unsheltered guard w.sheltered) m.remains refl)

-- so it is, by what the code does
module _ {K V S : Type 0} (same : K → K → Bool) (hash : K → ℕ) (terms : Terms) (log : List (Entry K V)) (p : Scheduler K V S) (guard : List ℕ)
    (due : IsInTurn same hash terms log (Refresh guard) p) (slot : ℕ) (free : free_slot guard p.there p.calls ≡ Some slot) (p2 : Scheduler K V S) (effects : List Effect) where
  abbrev Comes : Scheduler K V S → List Effect → Type 0
  Comes q did = Plays same hash terms log (entry (Refresh guard) Done 0 did) q

  pub joined : p2 ≡ p → effects ≡ [] → Comes p2 effects
  joined same_p no_effects =
      subst (λ (q : Scheduler K V S). Comes q effects) (sym same_p)
      (subst (λ (did : List Effect). Comes p did) (sym no_effects) (beside same hash terms log p guard due slot free))

  pub joined_alone : guards_on slot p.there.guards ≡ 1 → (before after : List Effect) → before ≡ [] → effects ≡ after → (q : Scheduler K V S) → p2 ≡ q → q ≡ record p { logged = q.logged }
      → RowRanOn slot call.Refresh before after p.logged q.logged → Comes p2 effects
  joined_alone one before after no_effects same_effects q same_q same_p (said, ran) =
      let did : effects ≡ ran.did = same_effects ∙ ran.follows ∙ ap (λ (xs : List Effect). xs ++ ran.did) no_effects in
      subst (λ (x : Scheduler K V S). Comes x effects) (sym (same_q ∙ same_p))
      (subst (λ (xs : List Effect). Comes (record p { logged = q.logged }) xs) (sym did)
      (refreshed same hash terms log p guard due slot free one said before after q.logged ran))
