-- How many maps have a number after an event, and that names of maps stay apart: an event that makes one adds it, where none of its name was there.
use Rattle.std.specs.Prelude.{◌≡◌, ◌≤◌, ◌+◌, ℕ, Bool, true, false, not, List, [], ◌∷◌, ◌++◌, length, filter, find, map, is_none, is_some, nat_lt, MatchBool, MatchOption, Option, Some, None, Result, Ok, Err, IfOk, if◌then◌else◌}
use Rattle.std.proofs.Common.{refl, ap, sym, subst, ◌∙◌, arith}
use Rattle.std.proofs.lemmas.List.{length-map}
use Rattle.seize_words.specs.declared.fault.Fault.{Fault}
use Rattle.seize_words.specs.declared.fault.Fault.TheVariants.{Busy}
use Rattle.map_tables.specs.declared.resize_mode.ResizeMode.{ResizeMode}
use Rattle.run_schedules.specs.Runs.Runs.{map_fault}
use Rattle.run_schedules.specs.Runs.Same.{is_same}
use Rattle.run_schedules.proofs.Runs.Sames.{same_is}
use Rattle.run_schedules.specs.declared.call.Call.{Call}
use Rattle.run_schedules.specs.declared.event.Event.{Event}
use Rattle.run_schedules.specs.declared.event.Event.TheVariants.{Collector, Hash, Choose, Register, Unregister, Enter, Own, Refresh, Flush, DropGuard, Forget, ReclaimAll, Close, MakeMap, EndMap, ShowShape, Begin, Step, Go, Replied, OneCall, Next, Stop}
use Rattle.run_schedules.specs.declared.outcome.Outcome.{Outcome}
use Rattle.run_schedules.specs.declared.outcome.Outcome.TheVariants.{Done, Goes, Refused}
use Rattle.run_schedules.specs.Schedules.After.{maps_on, moment}
use Rattle.run_schedules.specs.Schedules.Beginning.{begun, used_roots, with_call}
use Rattle.run_schedules.specs.Schedules.Entry.{Entry, is_busy, nameless}
use Rattle.run_schedules.specs.Schedules.InTurn.{HasOutcome, InTurn, IsKeptOut, IsMade}
use Rattle.run_schedules.specs.Schedules.Moment.{MapThere, Moment}
use Rattle.run_schedules.specs.Schedules.Terms.{Terms}
use Rattle.run_schedules.specs.Schedules.Views.{map_of, number_of}
use Rattle.play_events.proofs.Given.RowsLists.{is_found, none_kept}
use Rattle.play_events.specs.Given.NamedSeen.{named}
use Rattle.play_events.specs.Given.SchedulerDeclared.played.Played.{Played}
use Rattle.play_events.proofs.Given.MappingMapLists.{kept_map}
use Rattle.play_events.specs.Events.Asked.{FindsBy, is_of_calls, is_of_maps, numbers_on}

-- names are apart
abbrev pub NamesApart : List MapThere → Type 0
NamesApart xs = (own : List ℕ) → length (filter (λ f. is_same f.name own) xs) ≤ 1

-- so they are of maps of the same names
count_is : (own : List ℕ) (xs : List MapThere) → length (filter (λ f. is_same f.name own) xs) ≡ length (filter (λ (z : List ℕ × ℕ). is_same z.0 own) (map named xs))
count_is own xs = sym (length-map (filter (λ (f : MapThere). is_same f.name own) xs) named) ∙ ap length (kept_map named (λ (z : List ℕ × ℕ). is_same z.0 own) xs)

pub named_apart : (xs ys : List MapThere) → map named ys ≡ map named xs → NamesApart xs → NamesApart ys
named_apart xs ys same apart own =
    subst (λ (n : ℕ). n ≤ 1)
    (count_is own xs ∙ ap (λ (zs : List (List ℕ × ℕ)). length (filter (λ (z : List ℕ × ℕ). is_same z.0 own) zs)) (sym same) ∙ sym (count_is own ys)) (apart own)

-- of those that are kept,
kept_fewer : (p q : MapThere → Bool) (xs : List MapThere) → length (filter p (filter q xs)) ≤ length (filter p xs)
kept_fewer p q [] = omega arith
kept_fewer p q (x ∷ xs) = by (q x) (kept_fewer p q xs)
  where
    put : (c : Bool) → length (filter p (filter q xs)) ≤ length (filter p xs)
        → length (if c then x ∷ filter p (filter q xs) else filter p (filter q xs)) ≤ length (if c then x ∷ filter p xs else filter p xs)
    put true ih = omega (arith, ih)
    put false ih = ih

    out : (c : Bool) → length (filter p (filter q xs)) ≤ length (filter p xs) → length (filter p (filter q xs)) ≤ length (if c then x ∷ filter p xs else filter p xs)
    out true ih = omega (arith, ih)
    out false ih = ih

    by : (a : Bool) → length (filter p (filter q xs)) ≤ length (filter p xs)
        → length (filter p (if a then x ∷ filter q xs else filter q xs)) ≤ length (if p x then x ∷ filter p xs else filter p xs)
    by true ih = put (p x) ih
    by false ih = out (p x) ih

-- and with one more, of whose name there is none
count_more : (p : MapThere → Bool) (x : MapThere) (xs : List MapThere) → length (filter p (xs ++ x ∷ [])) ≡ length (filter p xs) + (if p x then 1 else 0)
count_more p x [] = by (p x)
  where
    by : (c : Bool) → length (if c then x ∷ [] else []) ≡ 0 + (if c then 1 else 0)
    by true = refl
    by false = refl
count_more p x (y ∷ xs) = by (p y) (count_more p x xs)
  where
    by : (c : Bool) → length (filter p (xs ++ x ∷ [])) ≡ length (filter p xs) + (if p x then 1 else 0)
        → length (if c then y ∷ filter p (xs ++ x ∷ []) else filter p (xs ++ x ∷ [])) ≡ length (if c then y ∷ filter p xs else filter p xs) + (if p x then 1 else 0)
    by true ih = omega (arith, ih)
    by false ih = ih

more_apart : (xs : List MapThere) (x : MapThere) → find (λ f. is_same f.name x.name) xs ≡ None → NamesApart xs → NamesApart (xs ++ x ∷ [])
more_apart xs x none apart own = by (is_same x.name own) refl (count_more (λ f. is_same f.name own) x xs)
  where
    none_of_it : (other : List ℕ) → x.name ≡ other → length (filter (λ f. is_same f.name other) xs) ≡ 0
    none_of_it other is =
        subst (λ (n : List ℕ). length (filter (λ (f : MapThere). is_same f.name n) xs) ≡ 0) is
        (ap length (none_kept (λ (f : MapThere). is_same f.name x.name) xs (sym (is_found (λ (f : MapThere). is_same f.name x.name) xs) ∙ ap is_some none)))

    by : (c : Bool) → is_same x.name own ≡ c → length (filter (λ f. is_same f.name own) (xs ++ x ∷ [])) ≡ length (filter (λ f. is_same f.name own) xs) + (if c then 1 else 0)
        → length (filter (λ f. is_same f.name own) (xs ++ x ∷ [])) ≤ 1
    by true e long = let no = none_of_it own (same_is x.name own e) in omega (arith, no, long)
    by false e long = let few = apart own in omega (arith, few, long)

-- an event that is done is refused nothing
never_done : (V : Type 0) (fault : Option Fault) → MatchOption fault (◌≡◌ {A = Outcome V} Done (Refused Busy)) (λ f. ◌≡◌ {A = Outcome V} Done (Refused f)) → ⊥
never_done V None so = cc so
never_done V (Some f) so = cc so

module _ {K V : Type 0} where
  -- an event has begun what it begins: one map more has a number if it makes one
  pub made_begun : (e : Event K V) (o : Outcome V) (m : Moment K V) → (begun e o m).made ≡ numbers_on e o m.made
  made_begun (Collector setup) o m = refl
  made_begun (Hash by) o m = refl
  made_begun (Choose choice) o m = refl
  made_begun (Register r) o m = refl
  made_begun (Unregister r) o m = refl
  made_begun (Enter g r) o m = refl
  made_begun (Own g) o m = refl
  made_begun (Refresh g) o m = refl
  made_begun (Flush g) o m = refl
  made_begun (DropGuard g) o m = refl
  made_begun (Forget g) o m = refl
  made_begun ReclaimAll o m = refl
  made_begun Close o m = refl
  made_begun (MakeMap n mode c) Done m = refl
  made_begun (MakeMap n mode c) o m = refl
  made_begun (EndMap n) o m = refl
  made_begun (ShowShape n) o m = refl
  made_begun (Begin c g n call) Goes m = called c g call (number_of n m) m
    where
      called : (c g : List ℕ) (call : Call K V) (number : Option ℕ) (m : Moment K V) → (with_call c g call number m).made ≡ m.made
      called c g call None m = refl
      called c g call (Some k) m = refl
  made_begun (Begin c g n call) o m = refl
  made_begun (Step c refuse) o m = refl
  made_begun (Go c refuse) o m = refl
  made_begun (Replied c reply) o m = refl
  made_begun (OneCall g n call) o m = by (is_busy o) (number_of n m)
    where
      by : (b : Bool) (number : Option ℕ) → (if b then m else with_call nameless g call number m).made ≡ m.made
      by true number = refl
      by false None = refl
      by false (Some k) = refl
  made_begun (Next c) o m = refl
  made_begun (Stop c) o m = refl

  -- one that makes no map leaves how many there are,
  pub still_counts : (e : Event K V) (o : Outcome V) (count : ℕ) → ((n : List ℕ) (mode : ResizeMode) (c : ℕ) → e ≡ MakeMap n mode c → ⊥) → numbers_on e o count ≡ count
  still_counts (Collector setup) o count other = refl
  still_counts (Hash by) o count other = refl
  still_counts (Choose choice) o count other = refl
  still_counts (Register r) o count other = refl
  still_counts (Unregister r) o count other = refl
  still_counts (Enter g r) o count other = refl
  still_counts (Own g) o count other = refl
  still_counts (Refresh g) o count other = refl
  still_counts (Flush g) o count other = refl
  still_counts (DropGuard g) o count other = refl
  still_counts (Forget g) o count other = refl
  still_counts ReclaimAll o count other = refl
  still_counts Close o count other = refl
  still_counts (MakeMap n mode c) o count other = absurd (other n mode c refl)
  still_counts (EndMap n) o count other = refl
  still_counts (ShowShape n) o count other = refl
  still_counts (Begin c g n call) o count other = refl
  still_counts (Step c refuse) o count other = refl
  still_counts (Go c refuse) o count other = refl
  still_counts (Replied c reply) o count other = refl
  still_counts (OneCall g n call) o count other = refl
  still_counts (Next c) o count other = refl
  still_counts (Stop c) o count other = refl

  -- and so does one that is kept out
  pub out_counts : (e : Event K V) (o : Outcome V) (count : ℕ) → IsKeptOut e o → numbers_on e o count ≡ count
  out_counts (MakeMap n mode c) Done count out = absurd (never_done V (map_fault mode c) out)
  out_counts (MakeMap n mode c) o count out = refl
  out_counts (Collector setup) o count out = refl
  out_counts (Hash by) o count out = refl
  out_counts (Choose choice) o count out = refl
  out_counts (Register r) o count out = refl
  out_counts (Unregister r) o count out = refl
  out_counts (Enter g r) o count out = refl
  out_counts (Own g) o count out = refl
  out_counts (Refresh g) o count out = refl
  out_counts (Flush g) o count out = refl
  out_counts (DropGuard g) o count out = refl
  out_counts (Forget g) o count out = refl
  out_counts ReclaimAll o count out = refl
  out_counts Close o count out = refl
  out_counts (EndMap n) o count out = refl
  out_counts (ShowShape n) o count out = refl
  out_counts (Begin c g n call) o count out = refl
  out_counts (Step c refuse) o count out = refl
  out_counts (Go c refuse) o count out = refl
  out_counts (Replied c reply) o count out = refl
  out_counts (OneCall g n call) o count out = refl
  out_counts (Next c) o count out = refl
  out_counts (Stop c) o count out = refl

  -- the end of a map leaves names apart,
  pub gone_apart : (e : Event K V) (o : Outcome V) (xs : List MapThere) → NamesApart xs → NamesApart (maps_on e o xs)
  gone_apart (EndMap n) Done xs apart = λ own. (let few = kept_fewer (λ f. is_same f.name own) (λ f. not (is_same f.name n)) xs in let one = apart own in omega (arith, few, one))
  gone_apart (EndMap n) o xs apart = apart
  gone_apart (Collector setup) o xs apart = apart
  gone_apart (Hash by) o xs apart = apart
  gone_apart (Choose choice) o xs apart = apart
  gone_apart (Register r) o xs apart = apart
  gone_apart (Unregister r) o xs apart = apart
  gone_apart (Enter g r) o xs apart = apart
  gone_apart (Own g) o xs apart = apart
  gone_apart (Refresh g) o xs apart = apart
  gone_apart (Flush g) o xs apart = apart
  gone_apart (DropGuard g) o xs apart = apart
  gone_apart (Forget g) o xs apart = apart
  gone_apart ReclaimAll o xs apart = apart
  gone_apart Close o xs apart = apart
  gone_apart (MakeMap n mode c) o xs apart = apart
  gone_apart (ShowShape n) o xs apart = apart
  gone_apart (Begin c g n call) o xs apart = apart
  gone_apart (Step c refuse) o xs apart = apart
  gone_apart (Go c refuse) o xs apart = apart
  gone_apart (Replied c reply) o xs apart = apart
  gone_apart (OneCall g n call) o xs apart = apart
  gone_apart (Next c) o xs apart = apart
  gone_apart (Stop c) o xs apart = apart

  module _ (terms : Terms) (log : List (Entry K V)) (e : Entry K V) (apart : NamesApart (moment log).maps) where
    abbrev m : Moment K V
    m = moment log

    abbrev Right : Event K V → Outcome V → Type 0
    Right event o = MatchBool m.is_closed (IsKeptOut event o) (HasOutcome terms log m e event o)

    -- a map that was made has a new name
    new_name : (n : List ℕ) (mode : ResizeMode) (c : ℕ) → Right (MakeMap n mode c) Done → map_of n m ≡ None
    new_name n mode c right = by m.is_closed (map_fault mode c) (map_of n m) refl right
      where
        by : (out : Bool) (fault : Option Fault) (there : Option MapThere) → map_of n m ≡ there
            → MatchBool out (MatchOption fault (◌≡◌ {A = Outcome V} Done (Refused Busy)) (λ f. ◌≡◌ {A = Outcome V} Done (Refused f)))
            (MatchOption fault (InTurn {V = V} (is_none there) (IsMade (nat_lt (length (used_roots m)) terms.roots) e.effects) Done) (λ f. ◌≡◌ {A = Outcome V} Done (Refused f)))
            → map_of n m ≡ None
        by true fault there is so = absurd (never_done V fault so)
        by false (Some f) there is so = absurd (cc so)
        by false None (Some f) is so = absurd (cc so)
        by false None None is so = is

    -- and so does what an event begins
    pub begun_apart : (event : Event K V) (o : Outcome V) → (FindsBy terms log e event → Right event o) → NamesApart (begun event o m).maps
    begun_apart (MakeMap n mode c) Done right = more_apart m.maps _ (new_name n mode c (right tt)) apart
    begun_apart (MakeMap n mode c) o right = apart
    begun_apart (Collector setup) o right = apart
    begun_apart (Hash by) o right = apart
    begun_apart (Choose choice) o right = apart
    begun_apart (Register r) o right = apart
    begun_apart (Unregister r) o right = apart
    begun_apart (Enter g r) o right = apart
    begun_apart (Own g) o right = apart
    begun_apart (Refresh g) o right = apart
    begun_apart (Flush g) o right = apart
    begun_apart (DropGuard g) o right = apart
    begun_apart (Forget g) o right = apart
    begun_apart ReclaimAll o right = apart
    begun_apart Close o right = apart
    begun_apart (EndMap n) o right = apart
    begun_apart (ShowShape n) o right = apart
    begun_apart (Begin c g n call) Goes right = called (number_of n m)
      where
        called : (number : Option ℕ) → NamesApart (with_call c g call number m).maps
        called None = apart
        called (Some k) = apart
    begun_apart (Begin c g n call) o right = apart
    begun_apart (Step c refuse) o right = apart
    begun_apart (Go c refuse) o right = apart
    begun_apart (Replied c reply) o right = apart
    begun_apart (OneCall g n call) o right = by (is_busy o) (number_of n m)
      where
        by : (b : Bool) (number : Option ℕ) → NamesApart (if b then m else with_call nameless g call number m).maps
        by true number = apart
        by false None = apart
        by false (Some k) = apart
    begun_apart (Next c) o right = apart
    begun_apart (Stop c) o right = apart

  -- events of calls make no map, nor do those of slots
  pub calls_make_none : (event : Event K V) → is_of_calls event ≡ true → (n : List ℕ) (mode : ResizeMode) (c : ℕ) → event ≡ MakeMap n mode c → ⊥
  calls_make_none event calls n mode c is = (let no : ◌≡◌ {A = Bool} false true = sym (ap is_of_calls is) ∙ calls in cc no)

  pub slots_make_none : (event : Event K V) → is_of_maps event ≡ false → (n : List ℕ) (mode : ResizeMode) (c : ℕ) → event ≡ MakeMap n mode c → ⊥
  slots_make_none event maps n mode c is = (let no : ◌≡◌ {A = Bool} true false = sym (ap is_of_maps is) ∙ maps in cc no)

  module _ {X : Type 0} (event : Event K V) (result : Result (Played V) X) (old new : ℕ) where
    abbrev pub CountsOn : Event K V → Type 0
    CountsOn form = IfOk result (λ played. new ≡ numbers_on form played.outcome old)

    pub counts_as : (form : Event K V) → event ≡ form → CountsOn form → CountsOn event
    counts_as form is so = subst CountsOn (sym is) so

    pub counts_still : ((n : List ℕ) (mode : ResizeMode) (c : ℕ) → event ≡ MakeMap n mode c → ⊥) → new ≡ old → CountsOn event
    counts_still other is = by result
      where
        by : (r : Result (Played V) X) → IfOk r (λ played. new ≡ numbers_on event played.outcome old)
        by (Ok played) = is ∙ sym (still_counts event played.outcome old other)
        by (Err x) = tt
