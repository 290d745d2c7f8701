-- A scheduler stands as before where a choice of a block number comes.
use Rattle.std.specs.Prelude.{◌≡◌, ◌+◌, ◌&&◌, ℕ, Bool, List, []}
use Rattle.std.proofs.Common.{refl, ap, sym, subst}
use Rattle.run_schedules.specs.declared.event.Event.TheVariants.{Choose}
use Rattle.run_schedules.specs.declared.outcome.Outcome.TheVariants.{Done}
use Rattle.run_schedules.specs.Schedules.After.{is_alone_on, moment}
use Rattle.run_schedules.specs.Schedules.Entry.{Entry}
use Rattle.run_schedules.specs.Schedules.Moment.{Moment}
use Rattle.run_schedules.specs.Schedules.Terms.{Terms}
use Rattle.run_logged.specs.Log.Choosing.{logged_chosen, scene_chosen}
use Rattle.run_logged.specs.declared.logged.Logged.{Logged}
use Rattle.run_logged.proofs.Log.Choosing.{choice_shown}
use Rattle.play_scheduler.specs.Played.{IsInTurn, Plays, RefinesFor}
use Rattle.play_scheduler.specs.Works.{WorksOnSetup}
use Rattle.play_scheduler.specs.declared.played.Played.{Played}
use Rattle.play_scheduler.specs.declared.scheduler.Scheduler.{Scheduler}
use Rattle.play_scheduler.proofs.Quiet.{stands_on}
use Rattle.play_scheduler.proofs.Rights.{plays, quiet}

module _ {K V S : Type 0} (same : K → K → Bool) (hash : K → ℕ) (terms : Terms) (m : Moment K V) (p : Scheduler K V S) (stands : RefinesFor same hash terms m p) (choice : ℕ) where
  abbrev pub chosen : Scheduler K V S
  chosen = record p { logged = logged_chosen choice p.logged }

  pub stands_chosen : RefinesFor same hash terms m chosen
  stands_chosen = record {
    name = stands.name;
    scene = scene_chosen choice stands.scene;
    shown = choice_shown choice p.logged same hash stands.name m stands.scene stands.shown;
    given = stands.given;
    there = stands.there;
    mapped = stands.mapped;
    closed = stands.closed;
    calls = let c = stands.calls in record { listed = c.listed; once = c.once; each = c.each; only = c.only };
    maps = let c = stands.maps in record { listed = c.listed; stand = c.stand };
    slots = stands.slots;
    rests = stands.rests;
    names = stands.names;
  }

module _ {K V S : Type 0} (same : K → K → Bool) (hash : K → ℕ) (terms : Terms) (log : List (Entry K V)) (p : Scheduler K V S) (choice : ℕ) (due : IsInTurn same hash terms log (Choose choice) p) where
  abbrev m : Moment K V
  m = moment log

  pub choice_plays : (logged : Logged K V S) → logged ≡ logged_chosen choice p.logged → Plays same hash terms log (quiet (Choose choice) Done) (record p { logged = logged })
  choice_plays logged is =
      let e = quiet (Choose choice) Done in
      subst (λ (l : Logged K V S). Plays same hash terms log e (record p { logged = l })) (sym is)
      (plays same hash terms log (Choose choice) (record p { logged = logged_chosen choice p.logged }) due e refl refl
      (stands_on same hash terms m (record p { logged = logged_chosen choice p.logged }) (stands_chosen same hash terms m p due.played choice) (m.events + 1) (m.is_alone && is_alone_on e m) m.slots m.sheltered))

-- that is all that was done
module _ {K V S : Type 0} (p : Scheduler K V S) (choice : ℕ) where
  pub has_chosen : (played : Played V) → played.outcome ≡ Done → played.effects.items ≡ [] → (logged : Logged K V S) → logged ≡ logged_chosen choice p.logged
      → WorksOnSetup played p (record p { logged = logged }) (Choose choice)
  has_chosen played done none logged is = (done, none, ap (λ (l : Logged K V S). record p { logged = l }) is)
