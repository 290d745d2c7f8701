-- The beginning of a call is written down, under the name of its caller.
use Rattle.std.specs.Prelude.{◌≡◌, ◌<◌, ◌≢◌, ℕ, Bool, false, List, Some, None, if◌then◌else◌}
use Rattle.std.proofs.Common.{refl, sym, subst, ap}
use Rattle.std.proofs.lemmas.Bool.{eq-eqb, ne_eqb}
use Rattle.papaya_raw.specs.declared.machines.machine.Machine.{Machine}
use Rattle.run_schedules.specs.Runs.Same.{is_same}
use Rattle.run_schedules.specs.Schedules.Beginning.{with_call}
use Rattle.run_schedules.specs.Schedules.Lists.{put}
use Rattle.run_schedules.specs.Schedules.Moment.{Moment, start}
use Rattle.run_effects.specs.Effects.Known.{Known, known, nothing_known}
use Rattle.run_shows.specs.declared.callers.TheConstants.{SLOTS}
use Rattle.run_shows.specs.Follows.Calling.{NoneNamed}
use Rattle.run_executor.specs.Given.MomentsWhole.{RefinesWhole}
use Rattle.run_kept.specs.Kept.Kept.{RefinesKept}
use Rattle.run_kept.proofs.Kept.Between.{calls_begin_kept}
use Rattle.run_kept.proofs.Kept.Stays.{begins_kept, renamed_kept}
use Rattle.run_executor.proofs.Given.MomentsCalls.{whole_begins, calls_begin_whole}
use Rattle.run_logged.specs.Log.Calling.{CallBegins}
use Rattle.run_logged.specs.Log.Shown.{IsShown}
use Rattle.run_logged.specs.declared.logged.Logged.{Logged}
use Rattle.run_logged.proofs.Log.Counted.{counted_begins, counted_stays, same_memory}
use Rattle.run_kept.proofs.Kept.Renamed.{renamed}
use Rattle.run_executor.proofs.Executing.Fresh.{caller_in, no_calls_yet, resting}
use Rattle.run_executor.specs.Executing.Beginning.{BeginsThere}
use Rattle.run_executor.specs.Executing.IsThere.{IsThere, PreservesSettings, held_by}
use Rattle.run_shows.specs.Scenes.Replying.{scene_with}
use Rattle.run_shows.specs.Scenes.Scene.{HasCall, Scene, at_first}

-- one that is named gets its name, and the others keep theirs
named : (i : ℕ) (own : List ℕ) (name : ℕ → List ℕ) → put i own name i ≡ own
named i own name = ap (λ (b : Bool). if b then own else name i) (eq-eqb i i refl)

same_name : (i j : ℕ) (own : List ℕ) (name : ℕ → List ℕ) → j ≢ i → put i own name j ≡ name j
same_name i j own name ne = ap (λ (b : Bool). if b then own else name j) (ne_eqb j i ne)

module _ {K V S : Type 0} (same : K → K → Bool) (hash : K → ℕ) where
  pub call_begins : (old new : Logged K V S) (slot map : ℕ) (machine : Machine K V K) (fits : slot < SLOTS)
      → ((s : Scene K V) → IsThere same hash old.executor s → BeginsThere same hash map machine (caller_in old.executor slot) s old.executor new.executor)
      → new.notes ≡ old.notes → PreservesSettings old.executor new.executor
      → (name : ℕ → List ℕ) (m : Moment K V) (s : Scene K V) → IsShown same hash name m old s → CallBegins same hash name m s (caller_in old.executor slot) map machine old new
  call_begins old new slot map machine fits begins noted given name m s shown standing stands inside u is fresh own guard call called begun apart =
      let i = caller_in old.executor slot in
      let names = put i own name in
      let leads = (begins s shown.is_at inside).1 standing stands u is fresh in
      let agree : (j : ℕ) → HasCall s j → names j ≡ name j =
      λ j has. same_name i j own name (λ e. absurd (cc (has.2, subst (λ x. s.calls has.0 x ≡ None) (sym e) (no_calls_yet same hash old.executor s shown.is_at slot fits has.0)))) in
      let before = renamed same name names m (known old.notes) s agree shown.shows in
      let none : NoneNamed names (names i) s = λ n j x here. subst (λ a. is_same a (names j) ≡ false) (sym (named i own name)) (subst (λ a. is_same own a ≡ false) (sym (agree j (n, x, here))) (apart n j x here)) in
      let after = with_call own guard call (Some map) m in
      let then_at = scene_with map i u s in
      let rests = resting same hash old.executor s shown.is_at slot fits in
      let whole = calls_begin_whole K V same names m (known old.notes) s before map i u call guard none called begun rests in
      let kept_before = renamed_kept K V name names m (known old.notes) s agree shown.kept in
      record {
        is_at = leads.1;
        shows = subst (λ (k : Known). RefinesWhole {K = K} {V = V} same names after k then_at) (ap known (sym noted))
            (subst (λ (a : List ℕ). RefinesWhole {K = K} {V = V} same names (with_call a guard call (Some map) m) (known old.notes) then_at) (named i own name) whole);
        kept = subst (λ (k : Known). RefinesKept {K = K} {V = V} names after k then_at) (ap known (sym noted))
            (subst (λ (a : List ℕ). RefinesKept {K = K} {V = V} names (with_call a guard call (Some map) m) (known old.notes) then_at) (named i own name)
            (calls_begin_kept K V same (λ map. hash) names m (known old.notes) s (held_by old.executor) (held_by new.executor) shown.is_at.held before kept_before map i standing stands u call guard fresh called begun none rests leads.1.held whole.all.shown));
        counted = counted_stays old new given noted m after s then_at shown.counted (same_memory same (λ map. hash) old.executor new.executor s then_at shown.is_at.held leads.1.held refl) refl refl refl refl refl refl refl;
      }

-- so it is before all events, with nothing noted
pub first_shown : {K V S : Type 0} (same : K → K → Bool) (hash : K → ℕ) (name : ℕ → List ℕ) (l : Logged K V S) (roots : ℕ) → IsThere same hash l.executor (at_first roots) → l.executor.roots ≡ roots → known l.notes ≡ nothing_known
    → IsShown same hash name start l (at_first roots)
first_shown {K} {V} same hash name l roots at is_roots noted = record {
  is_at = at;
  shows = subst (λ (k : Known). RefinesWhole {K = K} {V = V} same name start k (at_first roots)) (sym noted) (whole_begins K V same roots name);
  kept = subst (λ (k : Known). RefinesKept {K = K} {V = V} name start k (at_first roots)) (sym noted) (begins_kept K V roots name);
  counted = counted_begins same (λ map. hash) l roots at.held is_roots noted;
}
