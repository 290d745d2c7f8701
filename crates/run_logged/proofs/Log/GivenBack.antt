-- The number of a making that was refused is given back: the executor is there as it was.
use Rattle.std.specs.Prelude.{◌≡◌, ◌≢◌, ◌<◌, ◌≤◌, ◌+◌, ◌==◌, ◌⊎◌, ℕ, Bool, true, false, List, [], ◌∷◌, length, take, Option, Some, None, option_map, slice_index_or, if◌then◌else◌}
use Rattle.std.specs.List.{list_all}
use Rattle.std.proofs.Common.{refl, sym, ap, subst, ◌∙◌, inl, inr, arith}
use Rattle.std.proofs.lemmas.Bool.{cases_eq, cases_lt, eqb-true}
use Rattle.std.proofs.lemmas.List.{get_or-take, get_or_past, length-take-le}
use Rattle.seize.specs.declared.advance.Advance.{Advance}
use Rattle.seize.specs.declared.advance.Advance.TheVariants as progress
use Rattle.run_schedules.specs.Given.SeizeWordsMem.{Mem}
use Rattle.papaya_raw.specs.Given.TablesDeclared.node.Node.{Node}
use Rattle.papaya_raw.specs.Given.TablesDeclared.setting.Setting.{Setting}
use Rattle.run_schedules.specs.declared.effect.Effect.{Effect}
use Rattle.run_schedules.specs.declared.effect.Effect.TheVariants.{Asked}
use Rattle.run_schedules.specs.Schedules.Effects.{with_effect, with_effects}
use Rattle.run_schedules.specs.Schedules.InTurn.{is_growth}
use Rattle.run_schedules.specs.Schedules.Moment.{Moment}
use Rattle.run_effects.specs.Effects.Known.{known}
use Rattle.run_effects.specs.declared.notes.Notes.{Notes}
use Rattle.run_shows.specs.Given.FinishesMakings.{Beginning}
use Rattle.run_shows.specs.Given.FinishesMaps.{Standing}
use Rattle.run_executor.specs.declared.executor.Executor.{Executor}
use Rattle.run_executor.specs.Given.MomentsWhole.{RefinesWhole}
use Rattle.run_kept.specs.Kept.Kept.{RefinesKept}
use Rattle.run_logged.specs.Log.Makings.{given_back, numbers_then, MakingCame, MakingRan, BelowIfRefused, CameBare, JustAsks}
use Rattle.run_kept.specs.Given.RemainsNumbered.{NumbersUpTo}
use Rattle.run_kept.specs.Given.RemainsRemains.{RefinesRemains}
use Rattle.run_kept.specs.Given.RemainsSlots.{SlotsNoted}
use Rattle.run_logged.specs.Log.Shown.{IsCounted}
use Rattle.run_logged.specs.declared.logged.Logged.{Logged}
use Rattle.run_logged.proofs.Log.Counted.{numbers_as}
use Rattle.run_executor.specs.Executing.IsThere.{IsThere}
use Rattle.run_shows.specs.Scenes.Scene.{Scene}

-- without its last place a list reads the same, if there was none
module _ {X : Type 0} (items : List (Option X)) (map : ℕ) (long : length items ≡ map + 1) (none : slice_index_or items map None ≡ None) where
  short : length (take map items) ≡ map
  short = length-take-le map items (omega (arith, long))

  pub reads_same : (m : ℕ) → slice_index_or (take map items) m None ≡ slice_index_or items m None
  reads_same m = elim (cases_lt m map) as (λ _. slice_index_or (take map items) m None ≡ slice_index_or items m None) [
    | inl below ↦ get_or-take map items m None below
    | inr from ↦ get_or_past (take map items) m None (let s = short in omega (arith, s, from)) ∙ sym (behind from (cases_eq m map))
  ]
    where
      behind : map ≤ m → (m ≡ map) ⊎ (m ≢ map) → slice_index_or items m None ≡ None
      behind from (inl e) = ap (λ (k : ℕ). slice_index_or items k None) e ∙ none
      behind from (inr ne) = get_or_past items m None (omega (arith, long, from, ne))

module _ {K V S : Type 0} (same : K → K → Bool) (hash : K → ℕ) where
  -- an executor with other settings, that read the same, is there where each number of a making is still that of a place
  pub with_maps : (e e2 : Executor K V S) (s : Scene K V) → IsThere same hash e s → e2 ≡ record e { maps = e2.maps } → ((m : ℕ) → slice_index_or e2.maps.items m None ≡ slice_index_or e.maps.items m None)
      → ((j : ℕ) (d : Beginning K) → s.makers j ≡ Some d → d.map < length e2.maps.items) → IsThere same hash e2 s
  with_maps e e2 s at is reads numbers = subst (λ (x : Executor K V S). IsThere same hash x s) (sym is) (record {
    held = record {
      memory = at.held.memory;
      together = at.held.together;
      hashes = at.held.hashes;
      hashes_made = at.held.hashes_made;
      on_slots = at.held.on_slots;
      small = at.held.small;
    };
    maps = λ m. at.maps m ∙ sym (reads m);
    calls = at.calls;
    makers = at.makers;
    enders = at.enders;
    numbers = numbers;
    rows = at.rows;
    slots = at.slots;
    uses = at.uses;
  })

  -- So it is where a making has come to what it told.
  module _ (map i : ℕ) (s s2 : Scene K V) (before : Executor K V S) (at_first : IsThere same hash before s) (b : Beginning K) (here : s.makers i ≡ Some b) (of_map : b.map ≡ map)
      (e e2 : Executor K V S) (is : e2 ≡ record e { maps = e2.maps }) (at : IsThere same hash e s2) where
    -- another making is of another number
    other_number : (j : ℕ) (d : Beginning K) → s2.makers i ≡ None → ((k : ℕ) → k ≢ i → s2.makers k ≡ s.makers k) → s2.makers j ≡ Some d → d.map ≢ map
    other_number j d over others makes e = elim (cases_eq j i) as (λ _. ⊥) [
      | inl same_one ↦ (let none = ap s2.makers same_one ∙ over in cc (none, makes))
      | inr ne ↦ at_first.held.together.makings.numbers i j b d (λ q. ne (sym q)) here (sym (others j ne) ∙ makes) (of_map ∙ sym e)
    ]

    -- settings that are as they were
    kept : e2.maps.items ≡ e.maps.items → IsThere same hash e2 s2
    kept items = with_maps e e2 s2 at is (λ m. ap (λ (xs : List (Option Setting)). slice_index_or xs m None) items)
        (λ j d makes. subst (λ (n : ℕ). d.map < n) (sym (ap length items)) (at.numbers j d makes))

    none_there : s2.maps ≡ s.maps → slice_index_or e.maps.items map None ≡ None
    none_there maps =
        sym (at.maps map) ∙ ap (λ (f : ℕ → Option (Standing K)). option_map (λ standing. standing.setting) (f map)) maps
        ∙ ap (λ (m : ℕ). option_map (λ standing. standing.setting) (s.maps m)) (sym of_map) ∙ ap (option_map (λ standing. standing.setting)) (at_first.held.together.makings.coming i b here)

    dropped : s2.makers i ≡ None → ((k : ℕ) → k ≢ i → s2.makers k ≡ s.makers k) → s2.maps ≡ s.maps → (q : Bool) → (length e.maps.items == map + 1) ≡ q
        → e2.maps.items ≡ (if q then take map e.maps.items else e.maps.items) → IsThere same hash e2 s2
    dropped over others maps false f items = kept items
    dropped over others maps true f items =
        let long : length e.maps.items ≡ map + 1 = eqb-true (length e.maps.items) (map + 1) f in
        let few : length e2.maps.items ≡ map = ap length items ∙ short e.maps.items map long (none_there maps) in
        with_maps e e2 s2 at is (λ m. ap (λ (xs : List (Option Setting)). slice_index_or xs m None) items ∙ reads_same e.maps.items map long (none_there maps) m)
        (λ j d makes. (let l = at.numbers j d makes in let ne = other_number j d over others makes in by_less (length e2.maps.items) (length e.maps.items) d.map few long l ne))
      where
        by_less : (n k x : ℕ) → n ≡ map → k ≡ map + 1 → x < k → x ≢ map → x < n
        by_less n k x few long l ne = omega (arith, few, long, l, ne)

    pub at_given : (told : Advance Setting) → MakingCame s s2 i b told → e2.maps.items ≡ given_back map told e.maps.items → IsThere same hash e2 s2
    at_given progress.Goes came items = kept items
    at_given progress.Waits came items = kept items
    at_given (progress.Done setting) came items = kept items
    at_given (progress.Refused fault) came items = dropped came.maker came.makers came.maps (length e.maps.items == map + 1) refl items

-- where a number is given back there are so many
pub numbers_given : (map : ℕ) (told : Advance Setting) (items : List (Option Setting)) → length (given_back map told items) ≡ numbers_then map told (length items)
numbers_given map progress.Goes items = refl
numbers_given map progress.Waits items = refl
numbers_given map (progress.Done setting) items = refl
numbers_given map (progress.Refused fault) items = by (length items == map + 1) refl
  where
    by : (q : Bool) → (length items == map + 1) ≡ q → length (if q then take map items else items) ≡ (if q then map else length items)
    by true f = (let long = eqb-true (length items) (map + 1) f in length-take-le map items (omega (arith, long)))
    by false f = refl

-- it was refused
abbrev IsRefused : Advance Setting → Type 0
IsRefused (progress.Refused fault) = Unit {0}
IsRefused _ = ⊥

-- effects that just ask for growths leave maps and tables
asks_leave : {K V : Type 0} (of : Option ℕ) (fs : List Effect) (m : Moment K V) → list_all is_growth fs ≡ true
    → ((with_effects None of fs m).maps ≡ m.maps) × ((with_effects None of fs m).tables ≡ m.tables)
asks_leave of [] m all = (refl, refl)
asks_leave of (Asked growth ∷ fs) m all = asks_leave of fs (with_effect None of (Asked growth) m) all
asks_leave of (_ ∷ fs) m all = absurd (cc all)

-- so numbers are below the count still, with the number given back
numbers_left : {K V : Type 0} (map count : ℕ) (of : Option ℕ) (fs : List Effect) (m : Moment K V) (told : Advance Setting) → NumbersUpTo count (with_effects None of fs m) → BelowIfRefused map told m
    → (IsRefused told → list_all is_growth fs ≡ true) → NumbersUpTo (numbers_then map told count) (with_effects None of fs m)
numbers_left map count of fs m progress.Goes numbers below asks = numbers
numbers_left map count of fs m progress.Waits numbers below asks = numbers
numbers_left map count of fs m (progress.Done setting) numbers below asks = numbers
numbers_left {K} {V} map count of fs m (progress.Refused fault) numbers below asks = by (count == map + 1)
  where
    by : (q : Bool) → NumbersUpTo (if q then map else count) (with_effects None of fs m)
    by true = (let left = asks_leave of fs m (asks tt) in numbers_as map m (with_effects None of fs m) left.0 left.1 below)
    by false = numbers

module _ {K V S : Type 0} (i map : ℕ) (told : Advance Setting) (mid new : Logged K V S) (notes : new.notes ≡ mid.notes) (is : new.executor ≡ record mid.executor { maps = new.executor.maps })
    (items : new.executor.maps.items ≡ given_back map told mid.executor.maps.items) (of : Option ℕ) (fs : List Effect) (m : Moment K V) where
  counted_given : (s s2 : Scene K V) (b : Beginning K) (came : MakingCame s s2 i b told) → BelowIfRefused map told m → (CameBare s s2 i b told came.maker → JustAsks b fs)
      → IsCounted (with_effects None of fs m) mid s2 → IsCounted (with_effects None of fs m) new s2
  counted_given s s2 b came below asks c = record {
    numbered = record {
      numbers = subst (λ (n : ℕ). NumbersUpTo n (with_effects None of fs m)) (sym (ap length items ∙ numbers_given map told mid.executor.maps.items))
          (numbers_left map (length mid.executor.maps.items) of fs m told c.numbered.numbers below (just told came asks));
      slots = subst (λ (n : Notes). SlotsNoted (known n) new.executor.memory.memory) (sym notes)
          (subst (λ (x : Mem (Node K V)). SlotsNoted (known mid.notes) x) (sym (ap (λ (e : Executor K V S). e.memory.memory) is)) c.numbered.slots);
    };
    remains = subst (λ (r : ℕ). RefinesRemains r (with_effects None of fs m) (known new.notes) s2) (sym (ap (λ (e : Executor K V S). e.roots) is))
        (subst (λ (n : Notes). RefinesRemains mid.executor.roots (with_effects None of fs m) (known n) s2) (sym notes) c.remains);
  }
    where
      just : (t : Advance Setting) (came : MakingCame s s2 i b t) → (CameBare s s2 i b t came.maker → JustAsks b fs) → IsRefused t → list_all is_growth fs ≡ true
      just progress.Goes came asks refused = absurd refused
      just progress.Waits came asks refused = absurd refused
      just (progress.Done setting) came asks refused = absurd refused
      just (progress.Refused fault) came asks refused = (asks tt).1

-- what has run has so with the number given back
pub ran_given : {K V S : Type 0} (i map : ℕ) (told : Advance Setting) (xs ys : List Effect) (old mid new : Logged K V S) → MakingRan i map told xs ys old mid → new.notes ≡ mid.notes
    → new.executor ≡ record mid.executor { maps = new.executor.maps } → new.executor.maps.items ≡ given_back map told mid.executor.maps.items → MakingRan i map told xs ys old new
ran_given {K} {V} {S} i map told xs ys old mid new ran notes is items = (
  ran.0,
  ran.1,
  λ same hash s at b here of_map.
      (let u = ran.2 same hash s at b here of_map in
      (u.0, u.1, at_given same hash map i s u.0 old.executor at b here of_map mid.executor new.executor is u.2 told u.1 items)),
  λ same hash name m s shown b here of_map of.
      (let r = ran.3 same hash name m s shown b here of_map of in (
        r.0,
        λ was_new below.
            (let u = r.1 was_new below in (
              u.0,
              u.1,
              record {
                is_at = at_given same hash map i s u.0 old.executor shown.is_at b here of_map mid.executor new.executor is u.2.is_at told u.1 items;
                shows = subst (λ (n : Notes). RefinesWhole {K = K} {V = V} same name (with_effects None of ran.0 m) (known n) u.0) (sym notes) u.2.shows;
                kept = subst (λ (n : Notes). RefinesKept {K = K} {V = V} name (with_effects None of ran.0 m) (known n) u.0) (sym notes) u.2.kept;
                counted = counted_given i map told mid new notes is items of ran.0 m s u.0 b u.1 below u.3 u.2.counted;
              },
              u.3,
              u.4,
            )),
      )),
)

-- the making's number has its place among so many
pub has_place : {K V S : Type 0} (same : K → K → Bool) (hash : K → ℕ) (s : Scene K V) (i map : ℕ) {old : Executor K V S} → IsThere same hash old s → (b : Beginning K) → s.makers i ≡ Some b → b.map ≡ map
    → (count : ℕ) → count ≡ length old.maps.items → map < count
has_place same hash s i map at b here of_map count is = subst (λ (n : ℕ). n < count) of_map (subst (λ (n : ℕ). b.map < n) (sym is) (at.numbers i b here))
