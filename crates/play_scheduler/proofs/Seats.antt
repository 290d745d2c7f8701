-- Who is there changes, and nothing else: a guard is forgotten.
use Rattle.std.specs.Prelude.{◌≡◌, ◌+◌, ℕ, ◌&&◌, Bool, true, false, not, List, is_some, Option, Some, None, if◌then◌else◌}
use Rattle.std.specs.List.{AllByRecursion, list_any}
use Rattle.std.proofs.Common.{refl, sym, ap, subst, ◌∙◌}
use Rattle.seize_words.specs.declared.fault.Fault.TheVariants.{Busy}
use Rattle.run_schedules.specs.Runs.Present.{Present, HaveNames, guard_of, living_slot, forgets}
use Rattle.run_schedules.specs.Runs.Same.{is_same}
use Rattle.run_schedules.specs.declared.event.Event.TheVariants.{Forget}
use Rattle.run_schedules.specs.declared.outcome.Outcome.TheVariants.{Done, Refused}
use Rattle.run_schedules.specs.Schedules.After.{is_alone_on, moment}
use Rattle.run_schedules.specs.Schedules.Entry.{Entry}
use Rattle.run_schedules.specs.Schedules.InTurn.{IsDone}
use Rattle.run_schedules.specs.Schedules.InUse.{is_free_guard, is_living}
use Rattle.run_schedules.specs.Schedules.Moment.{Sheltered, Moment}
use Rattle.run_schedules.specs.Schedules.Terms.{Terms}
use Rattle.run_logged.specs.Given.EffectsKnown.{known}
use Rattle.run_logged.specs.Rows.Rows.{used_as}
use Rattle.play_scheduler.specs.Played.{IsInTurn, IsUnderWay, Plays, RefinesFor}
use Rattle.run_executor.specs.Named.Seen.{Seen, free_slot, seen, seen_of}
use Rattle.play_scheduler.specs.declared.scheduler.Scheduler.{Scheduler}
use Rattle.run_logged.proofs.Rows.Elsewhere.{elsewhere, shown_elsewhere, kept_elsewhere, counted_elsewhere}
use Rattle.run_logged.proofs.Given.Lists.{all_but}
use Rattle.run_logged.proofs.Rows.Lists.{any_alike}
use Rattle.run_logged.proofs.Rows.Names.{forgets_named}
use Rattle.play_scheduler.proofs.Quiet.{stands_on}
use Rattle.run_logged.proofs.Rows.There.{forgets_used, living_is, others_found}
use Rattle.play_scheduler.proofs.Rights.{in_turn, out_of_turn, plays, quiet}

module _ {K V S : Type 0} (same : K → K → Bool) (hash : K → ℕ) (terms : Terms) (m : Moment K V) (p : Scheduler K V S) (stands : RefinesFor same hash terms m p) where
  -- others are there, each call has its guard still, and slots are used as before
  pub stands_there : (there2 : Present) → AllByRecursion (IsUnderWay stands.name stands.scene there2) p.calls → ((slot : ℕ) → used_as slot there2 ≡ used_as slot p.there) → HaveNames there2
      → (there : Present) → there ≡ there2 → (events : ℕ) (is_alone : Bool) (slots : ℕ) (sheltered : List Sheltered)
      → RefinesFor same hash terms (elsewhere events m.is_mapped m.is_closed is_alone there slots sheltered m.remains m) (record p { there = there2 })
  stands_there there2 each used names there is events is_alone slots sheltered = record {
    name = stands.name;
    scene = stands.scene;
    shown = record {
      is_at = stands.shown.is_at;
      shows = shown_elsewhere m (known p.logged.notes) events m.is_mapped m.is_closed is_alone there slots sheltered m.remains same stands.name stands.scene stands.shown.shows;
      kept = kept_elsewhere m (known p.logged.notes) events m.is_mapped m.is_closed is_alone there slots sheltered m.remains stands.name stands.scene stands.shown.kept;
      counted = counted_elsewhere m (known p.logged.notes) events m.is_mapped m.is_closed is_alone there slots sheltered m.remains p.logged stands.scene refl stands.shown.counted;
    };
    given = stands.given;
    there = is;
    mapped = stands.mapped;
    closed = stands.closed;
    calls = let c = stands.calls in record { listed = c.listed; once = c.once; each = each; only = c.only };
    maps = let c = stands.maps in record { listed = c.listed; stand = c.stand };
    slots = λ slot. stands.slots slot ∙ sym (used slot);
    rests = stands.rests;
    names = names;
  }

  -- whether a guard lives that no call uses
  pub uses_alike : (guard : List ℕ) → list_any (λ c. is_same c.guard guard) m.calls ≡ list_any (λ d. is_same d.guard guard) p.calls
  uses_alike guard = any_alike seen seen_of m.calls p.calls stands.calls.listed (λ (z : Seen). is_same z.guard guard)

  pub free_is : (guard : List ℕ) → is_free_guard guard m ≡ is_some (free_slot guard p.there p.calls)
  free_is guard =
      ap (λ (b : Bool). b && not (list_any (λ c. is_same c.guard guard) m.calls)) (ap (is_living guard) stands.there ∙ living_is guard p.there (stands.names.guards guard))
      ∙ ap (λ (b : Bool). is_some (living_slot (guard_of guard p.there.guards)) && not b) (uses_alike guard)
      ∙ by (list_any (λ d. is_same d.guard guard) p.calls) (living_slot (guard_of guard p.there.guards))
    where
      by : (b : Bool) (o : Option ℕ) → (is_some o && not b) ≡ is_some (if b then None else o)
      by true None = refl
      by true (Some slot) = refl
      by false None = refl
      by false (Some slot) = refl

  -- one that is free has no call
  pub none_uses : (guard : List ℕ) → is_some (free_slot guard p.there p.calls) ≡ true → list_any (λ d. is_same d.guard guard) p.calls ≡ false
  none_uses guard free = by (list_any (λ d. is_same d.guard guard) p.calls) refl free
    where
      by : (b : Bool) → list_any (λ d. is_same d.guard guard) p.calls ≡ b → is_some (if b then None else living_slot (guard_of guard p.there.guards)) ≡ true
          → list_any (λ d. is_same d.guard guard) p.calls ≡ false
      by true e f = absurd (cc f)
      by false e f = e

module _ {K V S : Type 0} (same : K → K → Bool) (hash : K → ℕ) (terms : Terms) (log : List (Entry K V)) (p : Scheduler K V S) (guard : List ℕ) (due : IsInTurn same hash terms log (Forget guard) p) where
  abbrev m : Moment K V
  m = moment log

  abbrev stands : RefinesFor same hash terms m p
  stands = due.played

  pub not_forgotten : is_some (free_slot guard p.there p.calls) ≡ false → Plays same hash terms log (quiet (Forget guard) (Refused Busy)) p
  not_forgotten none =
      let e = quiet (Forget guard) (Refused Busy) in
      plays same hash terms log (Forget guard) p due e refl (out_of_turn IsDone (is_free_guard guard m) (Refused Busy) (free_is same hash terms m p stands guard ∙ none) refl)
      (stands_on same hash terms m p stands (m.events + 1) (m.is_alone && is_alone_on e m) m.slots m.sheltered)

  pub forgotten : is_some (free_slot guard p.there p.calls) ≡ true → (there2 : Present) → there2 ≡ forgets guard p.there
      → Plays same hash terms log (quiet (Forget guard) Done) (record p { there = there2 })
  forgotten free there2 is =
      let e = quiet (Forget guard) Done in
      subst (λ (x : Present). Plays same hash terms log e (record p { there = x })) (sym is)
      (plays same hash terms log (Forget guard) (record p { there = forgets guard p.there }) due e refl (in_turn IsDone (is_free_guard guard m) Done (free_is same hash terms m p stands guard ∙ free) refl)
      (stands_there same hash terms m p stands (forgets guard p.there)
      (all_but (IsUnderWay stands.name stands.scene p.there) (IsUnderWay stands.name stands.scene (forgets guard p.there)) (λ d. is_same d.guard guard)
      (λ d other way. (way.0, way.1, way.2, ap living_slot (others_found guard d.guard p.there.guards other) ∙ way.3, way.4)) p.calls
      (none_uses same hash terms m p stands guard free) stands.calls.each)
      (λ slot. forgets_used guard slot p.there) (forgets_named guard p.there stands.names) (forgets guard m.there) (ap (forgets guard) stands.there) (m.events + 1) (m.is_alone && is_alone_on e m) m.slots m.sheltered))
