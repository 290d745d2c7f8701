-- After a step of a call, and where a call begins or goes on, the row of each call under way reclaims nothing, and keeps a block of its batch.
use Rattle.std.specs.Prelude.{◌≡◌, ◌≢◌, ℕ, Bool, List, [], Option, Some, None, ◌⊎◌}
use Rattle.std.proofs.Common.{refl, ap, sym, subst, inl, inr}
use Rattle.std.proofs.lemmas.Bool.{cases_eq}
use Rattle.run_shows.specs.Given.SeizeWorld.{World, Row, Rests, Event, Runs, IsInside}
use Rattle.run_shows.specs.Given.TablesNodes.{deferred_word}
use Rattle.run_shows.specs.Given.TablesDeclared.node.Node.{Node}
use Rattle.run_shows.specs.Given.RawDeclared.machines.progress.Progress.{Progress}
use Rattle.run_shows.specs.Given.ResizeDeclared.sum.Sum.{Sum}
use Rattle.run_shows.specs.Given.RuleInWorld.{AllUsers}
use Rattle.run_shows.specs.Given.SchedulesMoment.{Moment}
use Rattle.run_shows.specs.Given.CallersTogether.{UnderWay, UnlessCounts, OnKey, ForRoom, Counting, OverAll, CameAbout}
use Rattle.run_shows.proofs.Given.CallersTogether.Came.{came_reached}
use Rattle.run_shows.proofs.Given.CallersTogether.Fits.{unless_on}
use Rattle.run_shows.proofs.Given.CallersTogether.Users.{events_rows}
use Rattle.run_shows.specs.Given.EffectsKnown.{Known}
use Rattle.run_shows.specs.Given.FinishesMaps.{Standing}
use Rattle.run_shows.specs.Follows.Shows.{Refines}
use Rattle.run_shows.proofs.Follows.Steps.{WentTo, went_to, DidSo, OfNoRow}
use Rattle.run_places.specs.Hands.Rows.{ReclaimsNone, HoldsOne, KeepsOne, RowsReclaimNone}
use Rattle.run_places.proofs.Hands.Asking.{which}
use Rattle.run_places.proofs.Hands.Guarded.{runs_keep_one}
use Rattle.run_places.proofs.Hands.SettlingRows.{one_kept}
use Rattle.run_shows.specs.Scenes.Held.{Held, IsAt}
use Rattle.run_shows.specs.Scenes.Replying.{scene_with}
use Rattle.run_shows.specs.Scenes.Scene.{Scene, slot_of}
use Rattle.run_shows.specs.Scenes.Stepping.{StepLeads, scene_after}

-- the row of a call is so
abbrev pub RowSo : {K V : Type 0} → World (Node K V) → ℕ → Type 0
RowSo w i = ReclaimsNone (w.row i) × KeepsOne (HoldsOne w (slot_of i)) (w.row i)

-- where calls alone have changed
module _ {K V : Type 0} (s : Scene K V) (map i : ℕ) (u : UnderWay K V K) (rows : RowsReclaimNone s) (own : RowSo s.world i) where
  each_so : (n j : ℕ) (x : UnderWay K V K) → (scene_with map i u s).calls n j ≡ Some x → RowSo s.world j
  each_so n j x is = elim (which s.calls map i (Some u) n j x is) as (λ _. RowSo s.world j) [
    | inl its ↦ subst (λ (k : ℕ). RowSo s.world k) (sym its.1) own
    | inr was ↦ (rows.none n j x was.1, rows.one n j x was.1)
  ]

  pub rows_with : RowsReclaimNone (scene_with map i u s)
  rows_with = record { none = λ n j x is. (each_so n j x is).0; one = λ n j x is. (each_so n j x is).1 }

-- whoever has a call under way that needs it is within its section
module _ {K V : Type 0} (same : K → K → Bool) (hash : ℕ → K → ℕ) (s : Scene K V) (e : Held K V) (at : IsAt same hash e s) where
  pub inside_of : (n j : ℕ) (x : UnderWay K V K) → s.calls n j ≡ Some x → UnlessCounts x (IsInside (s.world.uses (slot_of j)))
  inside_of n j x is = by (s.maps n) refl
    where
      by : (o : Option (Standing K)) → s.maps n ≡ o → UnlessCounts x (IsInside (s.world.uses (slot_of j)))
      by None gone = absurd (let none = at.together.makings.standing.only n j gone in cc (none, is))
      by (Some st) there = (at.together.makings.standing.each n st there).inside j x is

  -- a counting has no row under way
  count_rests : (n j : ℕ) (sum : Sum) → s.calls n j ≡ Some (Counting sum) → s.world.row j ≡ Rests
  count_rests n j sum is = by (s.maps n) refl
    where
      by : (o : Option (Standing K)) → s.maps n ≡ o → s.world.row j ≡ Rests
      by None gone = absurd (let none = at.together.makings.standing.only n j gone in cc (none, is))
      by (Some st) there = ((at.together.makings.standing.each n st there).stand j (Counting sum) is).0

  -- So a row goes on with its block of a batch, if that stays where the section is open.
  pub kept_within : (Two : ℕ → Type 0) (n j : ℕ) (x : UnderWay K V K) → s.calls n j ≡ Some x → UnlessCounts x ((first : ℕ) → HoldsOne s.world (slot_of j) first → Two first)
      → KeepsOne (HoldsOne s.world (slot_of j)) (s.world.row j) → KeepsOne Two (s.world.row j)
  kept_within Two n j (OnKey u) is keeps one = one_kept (HoldsOne s.world (slot_of j)) Two keeps (s.world.row j) one
  kept_within Two n j (ForRoom r) is keeps one = one_kept (HoldsOne s.world (slot_of j)) Two keeps (s.world.row j) one
  kept_within Two n j (Counting sum) is keeps one = subst (KeepsOne Two) (sym (count_rests n j sum is)) tt
  kept_within Two n j (OverAll o) is keeps one = one_kept (HoldsOne s.world (slot_of j)) Two keeps (s.world.row j) one

module _ {K V : Type 0} (same : K → K → Bool) (hash : ℕ → K → ℕ) (name : ℕ → List ℕ) (m : Moment K V) (known : Known) (s : Scene K V) (old new : Held K V) (at : IsAt same hash old s)
    (shown : Refines same name m known s) (map i : ℕ) (u : UnderWay K V K) (here : s.calls map i ≡ Some u) (told : Progress (Node K V)) (leads : StepLeads same hash i told s old new)
    (rows : RowsReclaimNone s) where
  abbrev to : WentTo same hash name m known s old new at shown map i u here told leads
  to = went_to same hash name m known s old new at shown map i u here told leads

  abbrev Own : Type 0
  Own = RowSo to.4.w2 i

  -- a block of a batch stays where some section is open
  abbrev KeepsTheirs : Type 0
  KeepsTheirs = (slot : ℕ) → IsInside (s.world.uses slot) → (first : ℕ) → HoldsOne s.world slot first → HoldsOne to.4.w2 slot first

  pub rows_on : KeepsTheirs → Own → RowsReclaimNone (scene_after same s old new map i to.0 u to.1 told to.4)
  rows_on keeps own = record { none = λ n j x is. (one n j x is).0; one = λ n j x is. (one n j x is).1 }
    where
      by : (n j : ℕ) (x : UnderWay K V K) → ((n ≡ map) × (j ≡ i) × (to.4.next ≡ Some x)) ⊎ ((n ≡ map → j ≡ i → ⊥) × (s.calls n j ≡ Some x)) → (j ≡ i) ⊎ (j ≢ i) → RowSo to.4.w2 j
      by n j x w (inl e) = subst (λ (k : ℕ). RowSo to.4.w2 k) (sym e) own
      by n j x (inl its) (inr ne) = absurd (ne its.1)
      by n j x (inr was) (inr ne) = (
        subst ReclaimsNone (sym (to.4.rows j ne)) (rows.none n j x was.1),
        subst (KeepsOne (HoldsOne to.4.w2 (slot_of j))) (sym (to.4.rows j ne))
            (kept_within same hash s old at (HoldsOne to.4.w2 (slot_of j)) n j x was.1 (unless_on x (keeps (slot_of j)) (inside_of same hash s old at n j x was.1)) (rows.one n j x was.1)),
      )

      one : (n j : ℕ) (x : UnderWay K V K) → (scene_after same s old new map i to.0 u to.1 told to.4).calls n j ≡ Some x → RowSo to.4.w2 j
      one n j x is = by n j x (which s.calls map i to.4.next n j x is) (cases_eq j i)

  came : CameAbout to.0.setting.batch_size s.world
  came = (at.together.makings.standing.each map to.0 to.2).ground.came

  -- a step that is none of a row leaves the rows as they were, and each block in its batch
  abbrev LeavesRows : Type 0
  LeavesRows = (to.4.w2.row ≡ s.world.row) × KeepsTheirs

  by_events : (w2 : World (Node K V)) → to.4.w2 ≡ w2 → (events : List (Event (Node K V))) → AllUsers events → Runs deferred_word to.0.setting.batch_size events s.world w2 → LeavesRows
  by_events w2 is events users runs =
      subst (λ (v : World (Node K V)). (v.row ≡ s.world.row) × ((slot : ℕ) → IsInside (s.world.uses slot) → (first : ℕ) → HoldsOne s.world slot first → HoldsOne v slot first)) (sym is) (
        events_rows to.0.setting.batch_size events s.world w2 users runs,
        λ slot inside first one. runs_keep_one slot first s.world (came_reached to.0.setting.batch_size s.world came) one events w2 inside users runs,
      )

  leaves_rows : OfNoRow same hash name m known s old new at shown map i u here told leads u to.4.did → LeavesRows
  leaves_rows own = by u to.4.did own
    where
      by : (x : UnderWay K V K) → (did : DidSo same hash name m known s old new at shown map i u here told leads x) → OfNoRow same hash name m known s old new at shown map i u here told leads x did → LeavesRows
      by (OnKey x) (p2, end, machine_is, told_is, inl (step, moved)) own = by_events step.step.went.w2 moved.0 step.step.went.events step.step.went.users step.step.went.runs
      by (OnKey x) (p2, end, machine_is, told_is, inr row) own = absurd own
      by (ForRoom x) (p2, end, machine_is, told_is, inl (step, moved)) own = by_events step.step.went.w2 moved.0 step.step.went.events step.step.went.users step.step.went.runs
      by (ForRoom x) (p2, end, machine_is, told_is, inr row) own = absurd own
      by (Counting x) (p2, end, machine_is, told_is, still, stayed) own =
          by_events s.world stayed.0 [] tt refl
      by (OverAll x) (p2, end, machine_is, told_is, inl (step, moved)) own = by_events step.step.went.w2 moved.0 step.step.went.events step.step.went.users step.step.went.runs
      by (OverAll x) (p2, end, machine_is, told_is, inr row) own = absurd own

  pub keeps_theirs : OfNoRow same hash name m known s old new at shown map i u here told leads u to.4.did → KeepsTheirs
  keeps_theirs own = (leaves_rows own).1

  pub own_row : OfNoRow same hash name m known s old new at shown map i u here told leads u to.4.did → Own
  own_row own =
      let left = leaves_rows own in
      let row = ap (λ (f : ℕ → Row). f i) left.0 in (
        subst ReclaimsNone (sym row) (rows.none map i u here),
        subst (KeepsOne (HoldsOne to.4.w2 (slot_of i))) (sym row)
            (kept_within same hash s old at (HoldsOne to.4.w2 (slot_of i)) map i u here (unless_on u (left.1 (slot_of i)) (inside_of same hash s old at map i u here)) (rows.one map i u here)),
      )
