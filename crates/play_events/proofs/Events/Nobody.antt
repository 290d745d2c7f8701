-- Where no call is under way, and no guard is there, nobody is in the world, and what is retired is so in its log.
use Rattle.std.specs.Prelude.{◌≡◌, ◌<◌, ◌^◌, ◌==◌, ℕ, Bool, true, false, List, [], ◌∷◌, find, Option, Some, None, if◌then◌else◌}
use Rattle.std.proofs.Common.{refl, ap, sym, subst, ◌∙◌}
use Rattle.run_schedules.specs.Runs.Same.{is_same}
use Rattle.play_stepping.specs.Given.SeizeWorld.{Rests, Use, IsOutside}
use Rattle.play_stepping.specs.Given.CallersTogether.{CameAbout, UnderWay}
use Rattle.play_lists.specs.Given.ScenesDeclared.row.SlotUse.{SlotUse}
use Rattle.play_lists.specs.Given.ScenesDeclared.row.SlotUse.TheVariants as used
use Rattle.run_schedules.specs.Runs.Present.{Present, guards_on, has_registration}
use Rattle.run_schedules.specs.declared.holders.NamedGuard.{NamedGuard}
use Rattle.run_schedules.specs.Schedules.After.{moment}
use Rattle.run_schedules.specs.Schedules.Entry.{Entry}
use Rattle.run_schedules.specs.Schedules.Lists.{is_empty}
use Rattle.run_schedules.specs.Schedules.Moment.{Moment, UnderWay as CallThere}
use Rattle.run_schedules.specs.Schedules.Reclaims.{is_quiescent}
use Rattle.run_schedules.specs.Schedules.Terms.{Terms}
use Rattle.run_schedules.specs.Schedules.Views.{call_of}
use Rattle.play_lists.specs.Given.EffectsKnown.{known}
use Rattle.play_lists.specs.Given.FindsBounded.{NobodyIsThere, RefinesRetired}
use Rattle.play_lists.specs.Given.FindsLittle.{RefinesQuiescence}
use Rattle.run_legal.proofs.Found.{rest_shows_retired}
use Rattle.run_legal.specs.Given.RowsRows.{used_as}
use Rattle.play_stepping.proofs.Given.RowsFacts.{row_rests}
use Rattle.play_stepping.specs.Given.SchedulerDeclared.scheduler.Scheduler.{Scheduler}
use Rattle.play_events.specs.Events.OfCalls.{Runs}
use Rattle.play_stepping.specs.Given.ExecutorIsThere.{IsUsedAs, held_by, use_at}
use Rattle.play_lists.specs.Given.ScenesScene.{Scene}
use Rattle.play_stepping.proofs.Given.General.{both_true as both}

none_in : {X : Type 0} (xs : List X) → is_empty xs ≡ true → xs ≡ []
none_in [] is = refl
none_in (x ∷ xs) is = absurd (cc is)

-- a slot on which no guard is is not active
outside_so : (q : Bool) (v : Use) → IsUsedAs (if q then used.Outside else used.Vacant) v → IsOutside v
outside_so true v (n, is) = subst IsOutside (sym is) tt
outside_so false v is = subst IsOutside (sym is) tt

outside_by : (slot : ℕ) (there : Present) → there.guards ≡ [] → (kind : SlotUse) (v : Use) → kind ≡ used_as slot there → IsUsedAs kind v → IsOutside v
outside_by slot there none kind v is fits =
    outside_so (has_registration slot there.registrations) v
    (subst (λ (x : SlotUse). IsUsedAs x v)
    (is ∙ ap (λ (gs : List NamedGuard). if guards_on slot gs == 0 then (if has_registration slot there.registrations then used.Outside else used.Vacant) else used.Inside) none) fits)

module _ {K V S : Type 0} (same : K → K → Bool) (hash : K → ℕ) (terms : Terms) (log : List (Entry K V)) (p : Scheduler K V S) (runs : Runs same hash terms log p) where
  abbrev m : Moment K V
  m = moment log

  abbrev s : Scene K V
  s = runs.stands.scene

  module _ (quiet : is_quiescent m ≡ true) where
    alone : (is_empty m.calls ≡ true) × (is_empty m.there.guards ≡ true)
    alone = both (is_empty m.calls) (is_empty m.there.guards) quiet

    no_guards : p.there.guards ≡ []
    no_guards = ap (λ (x : Present). x.guards) (sym runs.stands.there) ∙ none_in m.there.guards alone.1

    none_called : (n i : ℕ) (o : Option (UnderWay K V K)) → s.calls n i ≡ o → s.calls n i ≡ None
    none_called n i None is = is
    none_called n i (Some u) is = absurd (
        let there = (runs.stands.shown.shows.all.shown.calls n i u is).1 in
        let none : call_of (runs.stands.name i) m ≡ None = ap (λ (cs : List (CallThere K V)). find (λ (c : CallThere K V). is_same c.caller (runs.stands.name i)) cs) (none_in m.calls alone.0) in
        cc (there, none))

    rests : (i : ℕ) → s.world.row i ≡ Rests
    rests i = row_rests same hash p.logged.executor s runs.stands.shown.is_at i (runs.stands.rests i (λ n. none_called n i (s.calls n i) refl))

    nobody : NobodyIsThere s.world
    nobody = record {
      rests = rests;
      outside = λ t. outside_by t p.there no_guards (use_at p.logged.executor t) (s.world.uses t) (runs.stands.slots t) (runs.stands.shown.is_at.uses t);
    }

    retired : RefinesRetired m (known p.logged.notes) s.world
    retired =
        rest_shows_retired K V same (λ map. hash) runs.stands.name m (known p.logged.notes) s (held_by p.logged.executor) runs.stands.shown.is_at.held runs.stands.shown.kept rests runs.shows.order.0.within.apart runs.taken

  pub is_word : terms.batch_size < 2 ^ 64
  is_word = subst (λ (n : ℕ). n < 2 ^ 64) runs.size runs.stands.shown.is_at.held.small

  pub shows_nobody : RefinesQuiescence terms m (known p.logged.notes) s.world
  shows_nobody = record {
    came = subst (λ (n : ℕ). CameAbout n s.world) runs.size runs.stands.shown.is_at.held.together.makings.standing.came;
    nobody = λ quiet. (nobody quiet, retired quiet);
  }
