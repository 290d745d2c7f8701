-- Slots that were ever taken have their words still after each event, and so has the one behind them.
use Rattle.std.specs.Prelude.{◌≡◌, ◌≤◌, ◌<◌, ◌+◌, ◌==◌, ◌||◌, ◌++◌, max, not, map, ℕ, Bool, true, false, List, [], ◌∷◌, length, Option, Some, None, MatchBool, MatchOption, if◌then◌else◌}
use Rattle.std.proofs.Common.{refl, ap, subst, sym, inl, inr, ◌∙◌, arith}
use Rattle.std.proofs.lemmas.Bool.{cases_lt, eq-eqb}
use Rattle.run_schedules.specs.Given.SeizeWordsDeclared.fault.Fault.{Fault}
use Rattle.run_schedules.specs.Given.SeizeWordsDeclared.fault.Fault.TheVariants.{Busy, GuardsFull}
use Rattle.run_schedules.specs.Given.SeizeWordsMem.{Mem}
use Rattle.run_schedules.specs.Given.SeizeWordsPlace.{capacity}
use Rattle.play_stepping.proofs.Given.SeizeWordsPlaces.Words.{capacity_le_capacity}
use Rattle.play_stepping.specs.Given.SeizeDeclared.states.TheConstants.{LAST_SLOT}
use Rattle.play_stepping.specs.Given.SeizeWorld.{Use, Vacant, Outside, Inside, Changing, World}
use Rattle.seize_acts.proofs.Given.SeizeMovesState.Ghost.{Head, Never, Free, Idle, Active, emptied, is_never}
use Rattle.seize_acts.proofs.Given.SeizeRuleRows.Teams.{UseFits}
use Rattle.seize_acts.proofs.Given.SeizeRuleWorld.Good.{Good}
use Rattle.play_lists.specs.Given.TablesNodes.{deferred_word}
use Rattle.play_lists.specs.Given.TablesDeclared.node.Node.{Node}
use Rattle.play_stepping.proofs.Given.CallersTogether.Came.{came_reached}
use Rattle.run_schedules.specs.Runs.Present.{Present, guards_on, has_registration, slot_of_guard, slot_of_registration}
use Rattle.run_schedules.specs.declared.holders.NamedGuard.{NamedGuard}
use Rattle.run_schedules.specs.declared.holders.NamedRegistration.{NamedRegistration}
use Rattle.run_schedules.specs.Runs.Runs.{map_fault}
use Rattle.run_schedules.specs.declared.event.Event.{Event}
use Rattle.run_schedules.specs.declared.event.Event.TheVariants as event
use Rattle.run_schedules.specs.declared.outcome.Outcome.{Outcome}
use Rattle.run_schedules.specs.declared.outcome.Outcome.TheVariants.{Done, Goes, Refused, Slot}
use Rattle.run_schedules.specs.Schedules.After.{moment, moments_from, slots_on, there_on}
use Rattle.run_schedules.specs.Schedules.Coming.{Progresses}
use Rattle.run_schedules.specs.Schedules.Effects.{worked}
use Rattle.run_schedules.specs.Schedules.Entry.{ByCall, Entry, acting, caller_of}
use Rattle.run_schedules.specs.Schedules.InTurn.{HasRightOutcome, HasOutcome, Continues, InTurn, IsDone, IsEntered, IsFlushed, IsKeptOut, IsMade, IsNext, IsShapeOf, chain_named}
use Rattle.run_schedules.specs.Schedules.InUse.{is_held, used_slots}
use Rattle.run_schedules.specs.Schedules.Lists.{is_among}
use Rattle.run_schedules.specs.Schedules.Moment.{Asking, IsReady, Moment, CallState, UnderWay as CallThere}
use Rattle.run_schedules.specs.Schedules.Terms.{Terms}
use Rattle.run_schedules.specs.Schedules.Views.{number_of}
use Rattle.play_lists.specs.Given.EffectsKnown.{Known, known}
use Rattle.play_lists.specs.Given.ScenesDeclared.row.SlotUse.TheVariants as used
use Rattle.run_legal.specs.Given.RowsRows.{used_as}
use Rattle.play_stepping.proofs.Given.RowsFacts.{used_once}
use Rattle.run_legal.proofs.Given.RowsInUse.{among_used, unused_by}
use Rattle.play_stepping.specs.Given.SchedulerPlayed.{IsPlayed, RefinesFor}
use Rattle.play_stepping.specs.Given.SchedulerDeclared.scheduler.Scheduler.{Scheduler}
use Rattle.play_stepping.specs.Given.NeedsNeeds.{AreReached}
use Rattle.run_legal.proofs.Works.Reached.{reached_still}
use Rattle.play_stepping.specs.Given.ExecutorIsThere.{use_at}
use Rattle.play_stepping.proofs.Given.General.{or_second as or_so}

registered_among : (s : ℕ) (name : List ℕ) (rs : List NamedRegistration) (ys : List ℕ) → is_among s (map (λ (r : NamedRegistration). r.slot) (rs ++ record { name = name; slot = s } ∷ []) ++ ys) ≡ true
registered_among s name [] ys = ap (λ (b : Bool). b || is_among s ys) (eq-eqb s s refl)
registered_among s name (r ∷ rs) ys = or_so (s == r.slot) _ (registered_among s name rs ys)

guard_last : (s : ℕ) (name : List ℕ) (gs : List NamedGuard) → is_among s (map (λ (g : NamedGuard). g.slot) (gs ++ record { name = name; slot = s; forgotten = false } ∷ [])) ≡ true
guard_last s name [] = ap (λ (b : Bool). b || false) (eq-eqb s s refl)
guard_last s name (g ∷ gs) = or_so (s == g.slot) _ (guard_last s name gs)

guard_among : (s : ℕ) (name : List ℕ) (xs : List ℕ) (gs : List NamedGuard) → is_among s (xs ++ map (λ (g : NamedGuard). g.slot) (gs ++ record { name = name; slot = s; forgotten = false } ∷ [])) ≡ true
guard_among s name [] gs = guard_last s name gs
guard_among s name (x ∷ xs) gs = or_so (s == x) _ (guard_among s name xs gs)

-- a slot that is used was taken
never_vacant : (u : Use) (h : Head) (k : ℕ) (o : Bool) → (u ≡ Vacant → ⊥) → UseFits u (emptied h) k o → is_never h ≡ false
never_vacant Vacant h k o used fits = absurd (used refl)
never_vacant (Outside j) Never k o used fits = absurd (let e = fits.0 in cc e)
never_vacant (Inside j) Never k o used fits = absurd (let e = fits.0 in cc e)
never_vacant Changing Never k o used fits = absurd (let e = fits.0 in cc e)
never_vacant u Free k o used fits = refl
never_vacant u Idle k o used fits = refl
never_vacant u (Active es) k o used fits = refl

never_is : (h : Head) → h ≡ Never → is_never h ≡ false → ⊥
never_is h is taken = (let never = ap is_never is in cc (never, taken))

-- then the slot behind it has words
module _ {T : Type 0} {size : ℕ} (defers : T → Option ℕ) (w : World T) (good : Good defers (LAST_SLOT + 1) size w) where
  below_last : (s : ℕ) → is_never (good.state.head s) ≡ false → s < LAST_SLOT + 1
  below_last s taken = elim (cases_lt s (LAST_SLOT + 1)) as (λ _. s < LAST_SLOT + 1) [
    | inl lt ↦ lt
    | inr past ↦ absurd (never_is (good.state.head s) (good.inv.slots.outside s past) taken)
  ]

  -- behind the last slot there are some, as slots are those of whole buckets
  behind_last : (s number : ℕ) → length w.memory.slots + 32 ≡ capacity number → s < length w.memory.slots → LAST_SLOT + 1 ≤ s + 1 → s < LAST_SLOT + 1 → s + 1 < length w.memory.slots
  behind_last s number whole here last lt = elim (cases_lt number 12) as (λ _. s + 1 < length w.memory.slots) [
    | inl few ↦ absurd (let most = capacity_le_capacity number 11 (omega (arith, few)) in omega (arith, most, whole, here, last))
    | inr many ↦ (let least = capacity_le_capacity 12 number many in omega (arith, least, whole, lt))
  ]

  room_behind : (s : ℕ) → is_never (good.state.head s) ≡ false → s + 1 < length w.memory.slots
  room_behind s taken = elim (cases_lt (s + 1) (LAST_SLOT + 1)) as (λ _. s + 1 < length w.memory.slots) [
    | inl more ↦ good.room.enough s (s + 1) taken (omega arith) more
    | inr last ↦
        behind_last s good.room.bucketed.number good.room.bucketed.whole (good.room.enough s s taken (omega arith) (below_last s taken)) last (below_last s taken)
  ]

module _ {K V S : Type 0} (same : K → K → Bool) (hash : K → ℕ) (terms : Terms) (m : Moment K V) (p : Scheduler K V S) (plays : RefinesFor same hash terms m p) where
  -- a slot that somebody uses has its words, and so has the one behind it
  used_reaches : (s : ℕ) → is_among s (used_slots m.there) ≡ true → s + 1 + 32 < capacity (known p.logged.notes).buckets
  used_reaches s among =
      let some = room_behind deferred_word plays.scene.world good s (never_vacant (plays.scene.world.uses s) (good.state.head s) _ _ not_vacant (good.used.fits s)) in
      let whole = plays.shown.counted.numbered.slots.whole in
      let there = ap (λ (x : Mem (Node K V)). length x.slots) plays.shown.is_at.held.memory in
      omega (arith, some, whole, there)
    where
      good : Good deferred_word (LAST_SLOT + 1) p.logged.executor.batch_size plays.scene.world
      good = (came_reached p.logged.executor.batch_size plays.scene.world plays.shown.is_at.held.together.makings.standing.came).good

      in_use : (has_registration s p.there.registrations || not (guards_on s p.there.guards == 0)) ≡ true
      in_use = sym (among_used s p.there) ∙ ap (λ (x : Present). is_among s (used_slots x)) (sym plays.there) ∙ among

      not_vacant : plays.scene.world.uses s ≡ Vacant → ⊥
      not_vacant is =
          let as_vacant : used_as s p.there ≡ used.Vacant = sym (plays.slots s) ∙ used_once (use_at p.logged.executor s) used.Vacant (plays.scene.world.uses s) (plays.shown.is_at.uses s) is in
          let none = unused_by (guards_on s p.there.guards == 0) (has_registration s p.there.registrations) as_vacant in
          let some = in_use in
          cc (none, some)

-- the slot that somebody got is used then
module _ {K V : Type 0} (terms : Terms) (log : List (Entry K V)) (e : Entry K V) (s : ℕ) (is : e.outcome ≡ Slot s) where
  abbrev m : Moment K V
  m = moment log

  abbrev Uses : Type 0
  Uses = is_among s (used_slots (moment (e ∷ log)).there) ≡ true

  out_of : {X : Type 0} (b : Bool) (P : Outcome V → Type 0) → InTurn b P e.outcome → (P e.outcome → X) → X
  out_of true P right so = so right
  out_of false P right so = absurd (cc (is, right))

  not_done : {X : Type 0} → e.outcome ≡ Done → X
  not_done done = absurd (cc (is, done))

  not_progress : {X : Type 0} (stands : CallState) (c : CallThere K V) (moments : List (Moment K V)) (w : Moment K V) (o : Outcome V) → o ≡ Slot s → Progresses terms stands c moments w o → X
  not_progress stands c moments w o so goes = absurd (by stands (subst (Progresses terms stands c moments w) so goes))
    where
      by : (stands : CallState) → Progresses terms stands c moments w (Slot s) → ⊥
      by (Asking question) right = cc right
      by IsReady right = cc right
      by _ right = right

  not_by : {X : Type 0} (o : Option (CallThere K V)) → ByCall (λ (c : CallThere K V). Progresses terms c.stands c (moments_from c.begun log) (worked e m) e.outcome) o → X
  not_by None right = absurd right
  not_by (Some c) right = not_progress c.stands c (moments_from c.begun log) (worked e m) e.outcome is right

  not_goes_on : {X : Type 0} → Continues terms log e → X
  not_goes_on right = not_by (acting (caller_of e.event) (worked e m)) right

  not_entered : {X : Type 0} (q : Bool) → e.outcome ≡ (if q then Done else Refused GuardsFull) → X
  not_entered true right = absurd (cc (is, right))
  not_entered false right = absurd (cc (is, right))

  not_made : {X : Type 0} (root : Bool) → IsMade root e.effects e.outcome → X
  not_made true (inl done) = absurd (cc (is, done))
  not_made true (inr short) = absurd (let refused = short.0 in cc (is, refused))
  not_made false right = absurd (cc (is, right))

  not_flushed : {X : Type 0} (held : Bool) → IsFlushed held e.outcome → X
  not_flushed held (inl done) = absurd (cc (is, done))
  not_flushed held (inr busy) = absurd (let refused = busy.1 in cc (is, refused))

  kept : {X : Type 0} (its : Event K V) → IsKeptOut its e.outcome → X
  kept (event.MakeMap name mode capacity) right = by (map_fault mode capacity) right
    where
      by : {X : Type 0} (o : Option Fault) → MatchOption o (e.outcome ≡ Refused Busy) (λ fault. e.outcome ≡ Refused fault) → X
      by None right = absurd (cc (is, right))
      by (Some fault) right = absurd (cc (is, right))
  kept _ right = absurd (cc (is, right))

  made_by : {X : Type 0} (o : Option Fault) (b root : Bool) → MatchOption o (InTurn b (IsMade root e.effects) e.outcome) (λ fault. e.outcome ≡ Refused fault) → X
  made_by None b root right = out_of b (IsMade root e.effects) right (λ its. not_made root its)
  made_by (Some fault) b root right = absurd (cc (is, right))

  uses_by : (its : Event K V) → e.event ≡ its → is_among s (used_slots (there_on its (Slot s) (worked e m).there)) ≡ true → Uses
  uses_by its event_is so =
      subst (λ (x : Event K V). is_among s (used_slots (there_on x e.outcome (worked e m).there)) ≡ true) (sym event_is)
      (subst (λ (o : Outcome V). is_among s (used_slots (there_on its o (worked e m).there)) ≡ true) (sym is) so)

  comes : (its : Event K V) → e.event ≡ its → HasOutcome terms log m e its e.outcome → Uses
  comes (event.Register registration) event_is right =
      uses_by (event.Register registration) event_is (registered_among s registration (worked e m).there.registrations (map (λ (g : NamedGuard). g.slot) (worked e m).there.guards))
  comes (event.Own guard) event_is right =
      uses_by (event.Own guard) event_is (guard_among s guard (map (λ (r : NamedRegistration). r.slot) (worked e m).there.registrations) (worked e m).there.guards)
  comes (event.Collector setup) event_is right = out_of _ IsDone right not_done
  comes (event.Hash by) event_is right = out_of _ IsDone right not_done
  comes (event.Choose choice) event_is right = not_done right
  comes (event.Unregister registration) event_is right = out_of _ IsDone right not_done
  comes (event.Enter guard registration) event_is right = out_of _ (IsEntered (slot_of_registration registration m.there) m.there) right (λ its. not_entered _ its)
  comes (event.Refresh guard) event_is right = out_of _ IsDone right not_done
  comes (event.Flush guard) event_is right = out_of _ (IsFlushed (is_held (slot_of_guard guard m.there) m)) right (λ its. not_flushed _ its)
  comes (event.DropGuard guard) event_is right = out_of _ IsDone right not_done
  comes (event.Forget guard) event_is right = out_of _ IsDone right not_done
  comes event.ReclaimAll event_is right = out_of _ IsDone right not_done
  comes event.Close event_is right = out_of _ IsDone right not_done
  comes (event.MakeMap name mode capacity) event_is right = made_by (map_fault mode capacity) _ _ right
  comes (event.EndMap name) event_is right = out_of _ IsDone right not_done
  comes (event.ShowShape name) event_is right =
      out_of _ (IsShapeOf (chain_named (number_of name m) m)) right (λ its. absurd (subst (IsShapeOf (chain_named (number_of name m) m)) is its))
  comes (event.Begin caller guard name call) event_is right = out_of _ (λ (o : Outcome V). o ≡ Goes) right (λ its. absurd (cc (is, its)))
  comes (event.Step caller refuse) event_is right = out_of _ (λ (o : Outcome V). Continues terms log e) right not_goes_on
  comes (event.Go caller refuse) event_is right = out_of _ (λ (o : Outcome V). Continues terms log e) right not_goes_on
  comes (event.Replied caller reply) event_is right = out_of _ (λ (o : Outcome V). o ≡ Goes) right (λ its. absurd (cc (is, its)))
  comes (event.OneCall guard name call) event_is right = out_of _ (λ (o : Outcome V). Continues terms log e) right not_goes_on
  comes (event.Next caller) event_is right = out_of _ IsNext right (λ its. absurd (subst IsNext is its))
  comes (event.Stop caller) event_is right = out_of _ IsDone right not_done

  slot_is_used : HasRightOutcome terms log e → Uses
  slot_is_used right = by m.is_closed right
    where
      by : (q : Bool) → MatchBool q (IsKeptOut e.event e.outcome) (HasOutcome terms log m e e.event e.outcome) → Uses
      by true out = kept e.event out
      by false turn = comes e.event refl turn

max_below : (a b n : ℕ) → a + 32 < n → b + 32 < n → max a b + 32 < n
max_below a b n l r = omega (arith, l, r)

-- So it is after each event that comes to what is right, if no bucket is forgotten.
module _ {K V S : Type 0} (same : K → K → Bool) (hash : K → ℕ) (terms : Terms) (log : List (Entry K V)) (e : Entry K V) (old new : Scheduler K V S) where
  pub reached_after : HasRightOutcome terms log e → IsPlayed same hash terms (e ∷ log) new → (known old.logged.notes).buckets ≤ (known new.logged.notes).buckets
      → AreReached (moment log).slots (known old.logged.notes) → AreReached (moment (e ∷ log)).slots (known new.logged.notes)
  reached_after right plays more so = by e.outcome refl
    where
      still : AreReached (moment log).slots (known new.logged.notes)
      still = reached_still (moment log).slots (known old.logged.notes) (known new.logged.notes) more so

      with_slot : (s : ℕ) → s + 1 + 32 < capacity (known new.logged.notes).buckets → AreReached (moment log).slots (known new.logged.notes) → AreReached (max (moment log).slots (s + 1)) (known new.logged.notes)
      with_slot s some (inl none) = inr (max_below (moment log).slots (s + 1) _ (omega (arith, none, some)) some)
      with_slot s some (inr reached) = inr (max_below (moment log).slots (s + 1) _ reached some)

      by : (o : Outcome V) → e.outcome ≡ o → AreReached (slots_on o (moment log).slots) (known new.logged.notes)
      by (Slot s) is = with_slot s (used_reaches same hash terms (moment (e ∷ log)) new plays s (slot_is_used terms log e s is right)) still
      by _ is = still

  -- and where it notes the same
  pub reached_by : HasRightOutcome terms log e → IsPlayed same hash terms (e ∷ log) new → known new.logged.notes ≡ known old.logged.notes
      → AreReached (moment log).slots (known old.logged.notes) → AreReached (moment (e ∷ log)).slots (known new.logged.notes)
  reached_by right plays alike so = reached_after right plays (let same_number = ap (λ (k : Known). k.buckets) alike in omega (arith, same_number)) so
