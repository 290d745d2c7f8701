-- The open batch of a guard's slot is tried, unless a call has it in hand.
use Rattle.std.specs.Prelude.{◌==◌, ◌&&◌, is_some, slice_index_or, IsSome, Option, Some, None, if◌then◌else◌}
use Rattle.std.proofs.Common.{[], ◌++◌, ◌≡◌, ℕ, ◌+◌, ◌<◌, Bool, true, false, List, refl, sym, ap, subst, ◌∙◌, inl, inr, eqb-true}
use Rattle.std.proofs.lemmas.Bool.{eq-eqb}
use Rattle.seize.specs.declared.states.TheConstants.{BATCH, HELD}
use Rattle.seize_words.specs.OneMemory.Mem.{Mem, word_at}
use Rattle.seize_words.specs.declared.at.At.TheVariants.{Slot}
use Rattle.seize_words.specs.declared.fault.Fault.TheVariants.{Busy}
use Rattle.run_shows.proofs.Given.SeizeMemoryWords.Named.{word_found, words_of}
use Rattle.run_shows.specs.Given.SeizeEndsHolders.{has_batch}
use Rattle.papaya_raw.specs.Given.TablesDeclared.node.Node.{Node}
use Rattle.run_schedules.specs.Runs.Present.{guard_of, guards_slot_or, living_slot, slot_of_guard}
use Rattle.run_schedules.specs.declared.effect.Effect.{Effect}
use Rattle.run_schedules.specs.declared.event.Event.TheVariants.{Flush}
use Rattle.run_schedules.specs.declared.outcome.Outcome.{Outcome}
use Rattle.run_schedules.specs.declared.outcome.Outcome.TheVariants.{Done, Refused}
use Rattle.run_schedules.specs.Schedules.After.{is_alone_on, moment}
use Rattle.run_schedules.specs.Schedules.Effects.{with_effects}
use Rattle.run_schedules.specs.Schedules.Entry.{Entry}
use Rattle.run_schedules.specs.Schedules.InTurn.{IsFlushed}
use Rattle.run_schedules.specs.Schedules.InUse.{is_held, is_living}
use Rattle.run_schedules.specs.Schedules.Moment.{Moment}
use Rattle.run_schedules.specs.Schedules.Terms.{Terms}
use Rattle.run_shows.specs.declared.row.RowTold.{RowTold}
use Rattle.run_shows.specs.declared.row.RowTold.TheVariants as told
use Rattle.run_shows.specs.declared.row.SlotCall.TheVariants as call
use Rattle.run_shows.specs.declared.row.SlotUse.{SlotUse}
use Rattle.run_shows.specs.declared.row.SlotUse.TheVariants as used
use Rattle.run_shows.specs.declared.callers.TheConstants.{SLOTS}
use Rattle.run_logged.specs.Given.ShedsEnded.{has_ended}
use Rattle.run_logged.specs.declared.logged.Logged.{Logged}
use Rattle.play_scheduler.specs.Played.{IsInTurn, Plays, RefinesFor}
use Rattle.play_scheduler.specs.Works.{FlushesUnlessHeld}
use Rattle.run_logged.specs.Rows.Rows.{RowRan, RowRanOn, used_as}
use Rattle.play_scheduler.specs.declared.scheduler.Scheduler.{Scheduler}
use Rattle.play_scheduler.proofs.HeldTold.{HeldIsTold}
use Rattle.play_scheduler.proofs.Dropped.{fits, inside, lives_on}
use Rattle.run_logged.proofs.Rows.Holders.{word_says, word_there}
use Rattle.run_logged.proofs.Rows.NeverWaits.{done_alone, led_alone, over_alone}
use Rattle.play_scheduler.proofs.Quiet.{stands_on}
use Rattle.play_scheduler.proofs.RanOn.{stands_ran, there_stays}
use Rattle.play_scheduler.proofs.Rights.{entry, in_turn, out_of_turn, plays, quiet}
use Rattle.run_logged.proofs.Rows.There.{living_is}
use Rattle.run_executor.specs.Executing.IsThere.{use_at}
use Rattle.run_executor.specs.Executing.OnSlots.{MayBegin}
use Rattle.seize_words.proofs.General.{same_some as one_slot}

-- a word that is there is read so
read_there : (o : Option ℕ) → IsSome o → (word : ℕ) × (o ≡ Some word)
read_there None some = absurd (cc some)
read_there (Some word) some = (word, refl)

module _ {K V S : Type 0} (same : K → K → Bool) (hash : K → ℕ) (terms : Terms) (log : List (Entry K V)) (p : Scheduler K V S) (guard : List ℕ)
    (due : IsInTurn same hash terms log (Flush guard) p) where
  abbrev m : Moment K V
  m = moment log

  abbrev stands : RefinesFor same hash terms m p
  stands = due.played

  abbrev wanted : Outcome V → Type 0
  wanted = IsFlushed (is_held (slot_of_guard guard m.there) m)

  lives_there : is_living guard m.there ≡ is_some (living_slot (guard_of guard p.there.guards))
  lives_there = ap (is_living guard) stands.there ∙ living_is guard p.there (stands.names.guards guard)

  pub not_living : living_slot (guard_of guard p.there.guards) ≡ None → Plays same hash terms log (quiet (Flush guard) (Refused Busy)) p
  not_living none =
      let e = quiet (Flush guard) (Refused Busy) in
      plays same hash terms log (Flush guard) p due e refl (out_of_turn wanted (is_living guard m.there) (Refused Busy) (lives_there ∙ ap is_some none) refl)
      (stands_on same hash terms m p stands (m.events + 1) (m.is_alone && is_alone_on e m) m.slots m.sheltered)

  module _ (slot : ℕ) (lives : living_slot (guard_of guard p.there.guards) ≡ Some slot) where
    is_turn : is_living guard m.there ≡ true
    is_turn = lives_there ∙ ap is_some lives

    pub its_slot : slot_of_guard guard m.there ≡ slot
    its_slot =
        let g = lives_on (guard_of guard p.there.guards) slot lives in
        ap (slot_of_guard guard) stands.there ∙ ap guards_slot_or g.1 ∙ g.2

    is_inside : use_at p.logged.executor slot ≡ used.Inside
    is_inside = inside same hash terms m p stands guard slot lives

    pub may_flush : MayBegin p.logged.executor slot call.Flush
    may_flush = inr is_inside

    pub its_fits : slot < SLOTS
    its_fits = fits same hash terms m p stands guard slot lives

    -- the word of its batch is there
    pub its_word : IsSome (word_at p.logged.executor.memory.memory (Slot slot BATCH))
    its_word = word_there same hash p.logged.executor stands.scene stands.shown.is_at slot its_fits (inr is_inside)

    abbrev read : (word : ℕ) × (word_at p.logged.executor.memory.memory (Slot slot BATCH) ≡ Some word)
    read = read_there (word_at p.logged.executor.memory.memory (Slot slot BATCH)) its_word

    -- what is read of that
    abbrev pub IsRead : Bool → Type 0
    IsRead held = (word : ℕ) → word_at p.logged.executor.memory.memory (Slot slot BATCH) ≡ Some word → held ≡ (word == HELD)

    -- a batch that is held is told so
    pub is_held_now : HeldIsTold m p → (held : Bool) → IsRead held → held ≡ true → Plays same hash terms log (quiet (Flush guard) (Refused Busy)) p
    is_held_now tells held reads so =
        let e = quiet (Flush guard) (Refused Busy) in
        let word : word_at p.logged.executor.memory.memory (Slot slot BATCH) ≡ Some HELD = read.1 ∙ ap Some (eqb-true read.0 HELD (sym (reads read.0 read.1) ∙ so)) in
        plays same hash terms log (Flush guard) p due e refl
        (in_turn wanted (is_living guard m.there) (Refused Busy) is_turn (inr (ap (λ (x : ℕ). is_held x m) its_slot ∙ tells slot word, refl)))
        (stands_on same hash terms m p stands (m.events + 1) (m.is_alone && is_alone_on e m) m.slots m.sheltered)

    -- and else nobody has it, and the row of the flush runs, and ends
    module _ (held : Bool) (reads : IsRead held) (no : held ≡ false) where
      pub alone : (j : ℕ) → has_batch slot (stands.scene.world.row j) ≡ true → ⊥
      alone j has =
          let at = stands.shown.is_at in
          let says = word_says same hash p.logged.executor stands.scene at j slot its_fits has in
          let word = word_found p.logged.executor.memory.memory (Slot slot BATCH) read.0 read.1 in
          let same_word : read.0 ≡ HELD = sym word ∙ ap (λ (x : Mem (Node K V)). words_of x (Slot slot BATCH)) (sym at.held.memory) ∙ says in
          let yes = reads read.0 read.1 ∙ eq-eqb read.0 HELD same_word in
          cc (yes, no)

      module _ (said : RowTold (Node K V)) (before after : List Effect) (logged : Logged K V S) (ran : RowRan slot call.Flush said before after p.logged logged) where
        is_done : said ≡ told.Done
        is_done = done_alone same hash stands.name m stands.scene p.logged logged stands.shown slot call.Flush said before after ran may_flush tt alone

        slots_now : logged.executor.slots.items ≡ p.logged.executor.slots.items
        slots_now = ran.used (ap has_ended is_done)

        use_now : (t : ℕ) → use_at logged.executor t ≡ used_as t p.there
        use_now t = ap (λ (xs : List SlotUse). slice_index_or xs t used.Vacant) slots_now ∙ stands.slots t

        pub flushed : Plays same hash terms log (entry (Flush guard) Done 0 ran.did) (record p { logged = logged })
        flushed =
            let e = entry (Flush guard) Done 0 ran.did in
            let w = with_effects None None ran.did m in
            plays same hash terms log (Flush guard) (record p { logged = logged }) due e refl (in_turn wanted (is_living guard m.there) Done is_turn (inl refl))
            (stands_ran same hash terms m p stands slot call.Flush said before after logged ran may_flush
            (led_alone same hash stands.name m stands.scene p.logged logged stands.shown slot call.Flush said before after ran may_flush tt alone)
            (over_alone same hash stands.name m stands.scene p.logged logged stands.shown slot call.Flush said before after ran may_flush tt alone) p.there stands.calls.each use_now
            stands.names w.there (there_stays None None ran.did m ∙ stands.there) (m.events + 1) (m.is_alone && is_alone_on e m) m.slots w.sheltered m.remains refl)

      -- so it is, by what the code does
      pub has_run : (before after : List Effect) → before ≡ [] → (q : Scheduler K V S) → q ≡ record p { logged = q.logged } → RowRanOn slot call.Flush before after p.logged q.logged
          → Plays same hash terms log (entry (Flush guard) Done 0 after) q
      has_run before after no_effects q same_p (said, ran) =
          let did : after ≡ ran.did = ran.follows ∙ ap (λ (xs : List Effect). xs ++ ran.did) no_effects in
          subst (λ (x : Scheduler K V S). Plays same hash terms log (entry (Flush guard) Done 0 after) x) (sym same_p)
          (subst (λ (xs : List Effect). Plays same hash terms log (entry (Flush guard) Done 0 xs) (record p { logged = q.logged })) (sym did)
          (flushed said before after q.logged ran))

module _ {K V S : Type 0} (p : Scheduler K V S) (guard : List ℕ) where
  -- what a flush comes to, by whether the batch was found in hand
  pub by_held : (here : ℕ) → living_slot (guard_of guard p.there.guards) ≡ Some here → (held : Bool)
      → ((word : ℕ) → word_at p.logged.executor.memory.memory (Slot here BATCH) ≡ Some word → held ≡ (word == HELD))
      → (outcome : Outcome V) → outcome ≡ (if held then Refused Busy else Done) → FlushesUnlessHeld guard outcome p
  by_held here lives held says outcome is slot word there found =
      let same : here ≡ slot = one_slot here slot (sym lives ∙ there) in
      is ∙ ap (λ (b : Bool). if b then Refused Busy else Done) (says word (subst (λ (s : ℕ). word_at p.logged.executor.memory.memory (Slot s BATCH) ≡ Some word) (sym same) found))

  pub by_none : living_slot (guard_of guard p.there.guards) ≡ None → (outcome : Outcome V) → FlushesUnlessHeld guard outcome p
  by_none none outcome slot word there found = let k = sym none ∙ there in cc k
