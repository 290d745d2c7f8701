-- A scheduler stands where maps have come or gone, and nothing else has changed.
use Rattle.std.specs.Prelude.{◌≡◌, ℕ, Bool, List, map, Option, Some, None}
use Rattle.std.specs.List.{AllByRecursion}
use Rattle.std.proofs.Common.{ap, subst, sym, ◌∙◌}
use Rattle.seize.specs.World.{Row, Use}
use Rattle.run_schedules.specs.Runs.Present.{Present}
use Rattle.run_schedules.specs.Schedules.Moment.{Remains, Sheltered, UnderWay as CallThere, Moment}
use Rattle.run_schedules.specs.Schedules.Terms.{Terms}
use Rattle.owner_whole.specs.Given.CallersTogether.{UnderWay}
use Rattle.run_executor.specs.Given.EffectsKnown.{known}
use Rattle.owner_whole.specs.Given.FinishesMaps.{Standing}
use Rattle.play_scheduler.specs.Given.LoggedShown.{IsShown}
use Rattle.play_scheduler.specs.Given.LoggedDeclared.logged.Logged.{Logged}
use Rattle.play_scheduler.proofs.Given.RowsElsewhere.{elsewhere, shown_elsewhere, kept_elsewhere, counted_elsewhere}
use Rattle.play_scheduler.proofs.Given.RowsFacts.{no_ending_of, no_making_of, no_work_at, row_rests, used_still}
use Rattle.play_scheduler.proofs.Given.RowsLists.{all_so}
use Rattle.play_scheduler.specs.Played.{IsUnderWay, RefinesFor}
use Rattle.run_executor.specs.Named.Seen.{named, named_of, seen}
use Rattle.run_executor.specs.declared.named_map.NamedMap.{NamedMap}
use Rattle.play_scheduler.specs.declared.scheduler.Scheduler.{Scheduler}
use Rattle.play_scheduler.specs.Given.ScenesScene.{Scene}

module _ {K V S : Type 0} (same : K → K → Bool) (hash : K → ℕ) (terms : Terms) (m : Moment K V) (p : Scheduler K V S) (stands : RefinesFor same hash terms m p) (new : Logged K V S) (w : Moment K V)
    (s2 : Scene K V) (shown : IsShown same hash stands.name w new s2) (calls : s2.calls ≡ stands.scene.calls) (rows : s2.world.row ≡ stands.scene.world.row)
    (uses : s2.world.uses ≡ stands.scene.world.uses) (makers : (j : ℕ) → stands.scene.makers j ≡ None → s2.makers j ≡ None)
    (enders : (j : ℕ) → stands.scene.enders j ≡ None → s2.enders j ≡ None) (no_call : w.calls ≡ m.calls) where
  abbrev Stands : NamedMap → Type 0
  Stands t = (standing : Standing K) × (s2.maps t.number ≡ Some standing)

  same_calls : (n i : ℕ) → s2.calls n i ≡ stands.scene.calls n i
  same_calls n i = ap (λ (f : ℕ → ℕ → Option (UnderWay K V K)). f n i) calls

  module _ (p2 : Scheduler K V S) (is : p2 ≡ record p { logged = new; maps = p2.maps; is_mapped = p2.is_mapped }) where
    pub stands_mapped : (is_mapped : Bool) → is_mapped ≡ p2.is_mapped → map named w.maps ≡ map named_of p2.maps → AllByRecursion Stands p2.maps → (there : Present) → there ≡ p.there
        → (events : ℕ) (is_alone : Bool) (slots : ℕ) (sheltered : List Sheltered) (remains : List Remains) → remains ≡ w.remains
        → RefinesFor same hash terms (elsewhere events is_mapped m.is_closed is_alone there slots sheltered remains w) p2
    stands_mapped is_mapped mapped listed stand there same_there events is_alone slots sheltered remains alike =
        subst (RefinesFor same hash terms (elsewhere events is_mapped m.is_closed is_alone there slots sheltered remains w)) (sym is) (record {
          name = stands.name;
          scene = s2;
          shown = record {
            is_at = shown.is_at;
            shows = shown_elsewhere w (known new.notes) events is_mapped m.is_closed is_alone there slots sheltered remains same stands.name s2 shown.shows;
            kept = kept_elsewhere w (known new.notes) events is_mapped m.is_closed is_alone there slots sheltered remains stands.name s2 shown.kept;
            counted = counted_elsewhere w (known new.notes) events is_mapped m.is_closed is_alone there slots sheltered remains new s2 alike shown.counted;
          };
          given = stands.given;
          there = same_there;
          mapped = mapped;
          closed = stands.closed;
          calls = let c = stands.calls in record {
            listed = ap (λ (l : List (CallThere K V)). map seen l) no_call ∙ c.listed;
            once = c.once;
            each = all_so (IsUnderWay stands.name stands.scene p.there) (IsUnderWay stands.name s2 p.there)
                (λ d way. (way.0, same_calls d.map d.number ∙ way.1, way.2, way.3, way.4)) p.calls c.each;
            only = λ n i u is. c.only n i u (sym (same_calls n i) ∙ is);
          };
          maps = record { listed = listed; stand = stand };
          slots = λ t.
              used_still same hash p.logged.executor stands.scene stands.shown.is_at new.executor s2 shown.is_at t (ap (λ (f : ℕ → Use). f t) uses) ∙ stands.slots t;
          rests = λ j none.
              (let at = stands.shown.is_at in
              let idle = stands.rests j (λ n. sym (same_calls n j) ∙ none n) in
              no_work_at same hash new.executor s2 shown.is_at j none (makers j (no_making_of same hash p.logged.executor stands.scene at j idle))
              (enders j (no_ending_of same hash p.logged.executor stands.scene at j idle)) (ap (λ (f : ℕ → Row). f j) rows ∙ row_rests same hash p.logged.executor stands.scene at j idle));
          names = stands.names;
        })
