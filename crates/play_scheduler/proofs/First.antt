-- Before all events a scheduler stands for the first moment.
use Rattle.std.specs.Prelude.{◌≡◌, ℕ, Bool, false, List, []}
use Rattle.std.proofs.Common.{refl, sym, subst, ◌∙◌, arith}
use Rattle.seize.specs.World.{Vacant}
use Rattle.run_schedules.specs.Runs.Present.{HaveNames, Present, nobody}
use Rattle.run_schedules.specs.Schedules.Moment.{start}
use Rattle.run_shows.specs.declared.row.SlotUse.TheVariants as used
use Rattle.run_logged.specs.Log.Shown.{IsShown}
use Rattle.run_logged.specs.Rows.Rows.{used_as}
use Rattle.play_scheduler.specs.Played.{CallsAre, IsPlayed, MapsAre, terms_given}
use Rattle.run_executor.specs.declared.caller.NamedCaller.{NamedCaller}
use Rattle.run_executor.specs.declared.named_map.NamedMap.{NamedMap}
use Rattle.play_scheduler.specs.declared.scheduler.Scheduler.{Scheduler}
use Rattle.run_logged.proofs.Rows.Facts.{no_work_at, used_once}
use Rattle.run_logged.proofs.Rows.Names.{nobody_named}
use Rattle.run_executor.specs.Executing.IsThere.{use_at}
use Rattle.run_shows.specs.Scenes.Scene.{at_first}

module _ {K V S : Type 0} (same : K → K → Bool) (hash : K → ℕ) (p : Scheduler K V S) (roots : ℕ)
    (shown : (name : ℕ → List ℕ) → IsShown {K = K} {V = V} {S = S} same hash name start p.logged (at_first roots))
    (there : p.there ≡ nobody) (maps : p.maps ≡ []) (calls : p.calls ≡ []) (mapped : p.is_mapped ≡ false) (closed : p.is_closed ≡ false) where
  name : ℕ → List ℕ
  name i = []

  pub stands_first : IsPlayed same hash (terms_given p.setup) [] p
  stands_first = record {
    name = name;
    scene = at_first roots;
    shown = shown name;
    given = refl;
    there = sym there;
    mapped = sym mapped;
    closed = sym closed;
    calls = subst (λ (xs : List (NamedCaller V)). CallsAre {K = K} {V = V} name (at_first roots) p.there start xs) (sym calls)
        (record { listed = refl; once = λ own. omega arith; each = tt; only = λ n i u is. absurd (cc is) });
    maps = subst (λ (xs : List NamedMap). MapsAre {K = K} {V = V} (at_first roots) start xs) (sym maps) (record { listed = refl; stand = tt });
    slots = λ slot. used_once (use_at p.logged.executor slot) used.Vacant Vacant ((shown name).is_at.uses slot) refl ∙ subst (λ (x : Present). used.Vacant ≡ used_as slot x) (sym there) refl;
    rests = λ i none. no_work_at same hash p.logged.executor (at_first roots) (shown name).is_at i (λ n. refl) refl refl refl;
    names = subst (λ (x : Present). HaveNames x) (sym there) nobody_named;
  }
