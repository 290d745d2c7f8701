-- A scheduler stands as before for a moment in which nothing has changed that is seen of it.
use Rattle.std.specs.Prelude.{ℕ, Bool, List}
use Rattle.std.proofs.Common.{refl}
use Rattle.run_schedules.specs.Schedules.Moment.{Sheltered, Moment}
use Rattle.run_schedules.specs.Schedules.Terms.{Terms}
use Rattle.run_logged.specs.Given.EffectsKnown.{known}
use Rattle.play_scheduler.specs.Played.{RefinesFor}
use Rattle.play_scheduler.specs.declared.scheduler.Scheduler.{Scheduler}
use Rattle.run_logged.proofs.Rows.Elsewhere.{elsewhere, shown_elsewhere, kept_elsewhere, counted_elsewhere}

module _ {K V S : Type 0} (same : K → K → Bool) (hash : K → ℕ) (terms : Terms) (m : Moment K V) (p : Scheduler K V S) (stands : RefinesFor same hash terms m p) where
  pub stands_on : (events : ℕ) (is_alone : Bool) (slots : ℕ) (sheltered : List Sheltered) → RefinesFor same hash terms (elsewhere events m.is_mapped m.is_closed is_alone m.there slots sheltered m.remains m) p
  stands_on events is_alone slots sheltered = record {
    name = stands.name;
    scene = stands.scene;
    shown = record {
      is_at = stands.shown.is_at;
      shows = shown_elsewhere m (known p.logged.notes) events m.is_mapped m.is_closed is_alone m.there slots sheltered m.remains same stands.name stands.scene stands.shown.shows;
      kept = kept_elsewhere m (known p.logged.notes) events m.is_mapped m.is_closed is_alone m.there slots sheltered m.remains stands.name stands.scene stands.shown.kept;
      counted = counted_elsewhere m (known p.logged.notes) events m.is_mapped m.is_closed is_alone m.there slots sheltered m.remains p.logged stands.scene refl stands.shown.counted;
    };
    given = stands.given;
    there = stands.there;
    mapped = stands.mapped;
    closed = stands.closed;
    calls = let c = stands.calls in record { listed = c.listed; once = c.once; each = c.each; only = c.only };
    maps = let c = stands.maps in record { listed = c.listed; stand = c.stand };
    slots = stands.slots;
    rests = stands.rests;
    names = stands.names;
  }
