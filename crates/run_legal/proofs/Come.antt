-- All that was stored and linked came into maps: effect by effect, over what an operation of a call does, and over an event whose effects find what they must.
use Rattle.std.specs.Prelude.{◌≡◌, ℕ, ◌+◌, ◌≤◌, Bool, true, false, ◌||◌, List, [], ◌∷◌, ◌++◌, flat_map, length, map, Option, Some, None, if◌then◌else◌}
use Rattle.std.specs.List.{AllByRecursion}
use Rattle.std.proofs.Common.{refl, ap, sym, subst, ◌∙◌, append_assoc, arith, inl, inr}
use Rattle.std.proofs.lemmas.Bool.{cases_lt, eq-eqb}
use Rattle.std.proofs.lemmas.List.{append-nil, length-append}
use Rattle.std.proofs.lemmas.List.Concat.{flat_map-cons}
use Rattle.run_grows.specs.Given.EffectsDeclared.changed.Changed.{Changed}
use Rattle.run_grows.specs.Given.RunsDeclared.effect.Effect.{Effect}
use Rattle.run_grows.specs.Given.RunsDeclared.effect.Effect.TheVariants as effect
use Rattle.run_grows.specs.Given.RunsDeclared.effect.Spot.{Spot}
use Rattle.run_grows.specs.Given.RunsDeclared.effect.TableId.{TableId}
use Rattle.run_grows.specs.Given.RunsDeclared.effect.Thing.{Thing}
use Rattle.run_grows.specs.Given.RunsDeclared.effect.Thing.TheVariants.{APair, ATable}
use Rattle.run_grows.specs.Given.RunsDeclared.event.Event.{Event}
use Rattle.run_grows.specs.Given.RunsDeclared.event.Event.TheVariants as event
use Rattle.run_grows.specs.Given.RunsDeclared.outcome.Outcome.{Outcome}
use Rattle.run_grows.specs.Given.RunsDeclared.outcome.Outcome.TheVariants as outcome
use Rattle.run_grows.specs.Given.RunsDeclared.call.Call.{Call as Calling}
use Rattle.run_grows.specs.Given.RunsDeclared.call.Call.TheVariants.{On}
use Rattle.run_grows.specs.Given.SchedulesAfter.{moment}
use Rattle.run_grows.specs.Given.SchedulesBeginning.{at_work, begun, with_call}
use Rattle.run_grows.specs.Given.SchedulesEffects.{AtEachEffect, at_stage, new_pair, stored_by, tables_by, with_effect, with_effects}
use Rattle.run_grows.specs.Given.SchedulesEntry.{ByCall, acted_on, acting, caller_of, is_busy, nameless}
use Rattle.run_grows.specs.Given.SchedulesGrowing.{only_looks}
use Rattle.run_grows.specs.Given.SchedulesHanding.{gives_all, moments_of}
use Rattle.run_grows.specs.Given.SchedulesLists.{is_in}
use Rattle.run_grows.specs.Given.SchedulesLives.{CallFinds, Finds}
use Rattle.run_grows.specs.Given.SchedulesModel.{came, things_in}
use Rattle.run_grows.specs.Given.SchedulesMoment.{UnderWay as CallThere, Moment, Stage, TableThere, IsLinked, IsRetired, IsReclaimed, IsTaken}
use Rattle.run_grows.specs.Given.SchedulesSequential.{Meaning, Answers, Puts, key_of, means, value_put}
use Rattle.run_grows.specs.Given.SchedulesTerms.{Terms}
use Rattle.run_grows.specs.Given.SchedulesThings.{same_table, same_thing}
use Rattle.run_grows.specs.Given.SchedulesViews.{number_of, reply_to}
use Rattle.run_grows.specs.Given.EffectsEffects.{effects_of}
use Rattle.run_grows.specs.Given.EffectsKnown.{Known}
use Rattle.run_grows.specs.Given.EffectsDeclared.acting.Acting.{Acting}
use Rattle.run_grows.specs.Given.EffectsDeclared.acting.Acting.TheVariants.{Call}
use Rattle.run_grows.proofs.Given.SpotsUnreclaimed.{same_itself}
use Rattle.run_grows.proofs.Given.FindsLists.{all_so}
use Rattle.run_grows.proofs.Given.FindsSomewhere.{is_storing, none_stored}
use Rattle.run_grows.proofs.Given.ModelsNumbers.{still_in}
use Rattle.run_legal.specs.Noted.{HaveCome, CallsBringThings, EventsBringThings, NothingHasCome}
use Rattle.run_grows.proofs.Given.FollowsOfEach.{OfEach, each_operation_so}
use Rattle.run_grows.proofs.Given.General.{or_second as or_right}

-- the n-th pair that is stored has the number n
abbrev pub IsNumbered : {K V : Type 0} → Moment K V → Effect → Type 0
IsNumbered m (effect.Stored n s) = n ≡ length m.stored + 1
IsNumbered m _ = Unit {0}

-- the thing that comes last is one of them
at_end : (things : List Thing) (x : Thing) → same_thing x x ≡ true → is_in same_thing x (things ++ x ∷ []) ≡ true
at_end [] x same = ap (λ (q : Bool). q || false) same
at_end (y ∷ things) x same = or_right (same_thing x y) (is_in same_thing x (things ++ x ∷ [])) (at_end things x same)

-- a call has one pair at most to store
module _ {K V : Type 0} where
  put_few : (k : K) (x : Meaning V) → length {A = K × V} (map (λ (v : V). (k, v)) (value_put x)) ≤ 1
  put_few k x = by x
    where
      by : (x : Meaning V) → length {A = K × V} (map (λ (v : V). (k, v)) (value_put x)) ≤ 1
      by (Answers a (Puts v)) = omega arith
      by _ = omega arith

  new_few : (call : Calling K V) (c : CallThere K V) (n : ℕ) → length (new_pair call c n) ≤ 1
  new_few (On one) c n = put_few (key_of one) (means one (reply_to c.replacing c.replies) c.replacing n)
  new_few _ c n = omega arith

-- One effect.

module _ {K V : Type 0} (caller : Option (List ℕ)) (acted : Option ℕ) (things : List Thing) (m : Moment K V) (h : HaveCome things m) where
  -- a table of this list is among them
  abbrev Among : List Thing → TableThere → Type 0
  Among xs u = is_in same_thing (ATable u.table) xs ≡ true

  still_pairs : (more : List Thing) (n : ℕ) → 1 ≤ n → n ≤ length m.stored → is_in same_thing (APair n) (things ++ more) ≡ true
  still_pairs more n l u = still_in more things (APair n) (h.pairs n l u)

  still_tables : (more : List Thing) → AllByRecursion (Among (things ++ more)) m.tables
  still_tables more = all_so (Among things) (Among (things ++ more)) (λ u so. still_in more things (ATable u.table) so) m.tables h.tables

  stored_too : (o : Option (CallThere K V)) (k : ℕ) (s : Spot) → k ≡ length m.stored + 1 → (n : ℕ) → 1 ≤ n → n ≤ length (stored_by o (effect.Stored k s) m.stored)
      → is_in same_thing (APair n) (things ++ APair k ∷ []) ≡ true
  stored_too None k s number n l u = still_pairs (APair k ∷ []) n l u
  stored_too (Some c) k s number n l u = elim (cases_lt (length m.stored) n) as (λ _. is_in same_thing (APair n) (things ++ APair k ∷ []) ≡ true) [
    | inl after ↦
        let few = new_few c.call c k in
        let many : length (m.stored ++ new_pair c.call c k) ≡ length m.stored + length (new_pair c.call c k) = length-append m.stored (new_pair c.call c k) in
        let one : n ≡ k = omega (arith, after, u, few, many, number) in
        subst (λ (x : ℕ). is_in same_thing (APair x) (things ++ APair k ∷ []) ≡ true) (sym one) (at_end things (APair k) (eq-eqb k k refl))
    | inr before ↦ still_pairs (APair k ∷ []) n l before
  ]

  pairs_then : (f : Effect) (q : Bool) → is_storing f ≡ q → IsNumbered m f → (o : Option (CallThere K V)) (n : ℕ) → 1 ≤ n → n ≤ length (stored_by o f m.stored)
      → is_in same_thing (APair n) (things ++ came f) ≡ true
  pairs_then (effect.Stored k s) true e number o n l u = stored_too o k s number n l u
  pairs_then f false e number o n l u = still_pairs (came f) n l (subst (λ (xs : List (K × V)). n ≤ length xs) (none_stored o f m.stored e) u)
  pairs_then _ true e number o n l u = absurd (cc e)

  -- tables at another stage are the same tables
  staged : (t : TableId) (stage : Stage) (xs : List Thing) (tables : List TableThere) → AllByRecursion (Among xs) tables → AllByRecursion (Among xs) (map (at_stage t stage) tables)
  staged t stage xs [] all = tt
  staged t stage xs (u ∷ tables) all = (by (same_table u.table t), staged t stage xs tables all.1)
    where
      by : (q : Bool) → Among xs (if q then record u { stage = stage } else u)
      by true = all.0
      by false = all.0

  linked_too : (xs : List Thing) (new : TableThere) (tables : List TableThere) → AllByRecursion (Among xs) tables → Among xs new → AllByRecursion (Among xs) (tables ++ new ∷ [])
  linked_too xs new [] all its = (its, tt)
  linked_too xs new (u ∷ tables) all its = (all.0, linked_too xs new tables all.1 its)

  tables_then : (f : Effect) → AllByRecursion (Among (things ++ came f)) (tables_by f m.tables)
  tables_then (effect.Linked t shape) =
      linked_too (things ++ ATable t ∷ []) (record { table = t; shape = shape; stage = IsLinked }) m.tables (still_tables (ATable t ∷ [])) (at_end things (ATable t) (same_itself t))
  tables_then (effect.Retired (ATable t)) = staged t IsRetired (things ++ []) m.tables (still_tables [])
  tables_then (effect.Reclaimed (ATable t)) = staged t IsReclaimed (things ++ []) m.tables (still_tables [])
  tables_then (effect.Taken t) = staged t IsTaken (things ++ []) m.tables (still_tables [])
  tables_then (effect.Stored n s) = still_tables (APair n ∷ [])
  tables_then (effect.Retired (APair n)) = still_tables []
  tables_then (effect.Reclaimed (APair n)) = still_tables []
  tables_then _ = still_tables []

  come_one : (f : Effect) → IsNumbered m f → HaveCome (things ++ came f) (with_effect caller acted f m)
  come_one f number = record { pairs = λ n l u. pairs_then f (is_storing f) refl number (acting caller m) n l u; tables = tables_then f }

-- Several effects.

module _ {K V : Type 0} (caller : Option (List ℕ)) (acted : Option ℕ) where
  pub come_all : (effects : List Effect) (things : List Thing) (m : Moment K V) → HaveCome things m → AtEachEffect IsNumbered caller acted effects m
      → HaveCome (things ++ flat_map came effects) (with_effects caller acted effects m)
  come_all [] things m h numbers = subst (λ (xs : List Thing). HaveCome xs m) (sym (append-nil things)) h
  come_all (f ∷ effects) things m h numbers =
      subst (λ (xs : List Thing). HaveCome xs (with_effects caller acted effects (with_effect caller acted f m)))
      (append_assoc things (came f) (flat_map came effects) ∙ ap (λ (xs : List Thing). things ++ xs) (sym (flat_map-cons came f effects)))
      (come_all effects (things ++ came f) (with_effect caller acted f m) (come_one caller acted things m h f numbers.0) numbers.1)

  -- What an operation of a call stores has its number.

  module _ (i map_number : ℕ) (known : Known) (m : Moment K V) (many : known.stored ≡ length m.stored) where
    abbrev its : Acting
    its = Call i map_number

    abbrev AllNumbered : List Effect → Type 0
    AllNumbered effects = AtEachEffect IsNumbered caller acted effects m

    each_numbered : OfEach its known AllNumbered
    each_numbered = record {
      nothing = tt;
      linked = λ turn shape. (tt, tt);
      deferred = λ n t. (tt, tt);
      stored = λ s. (ap (λ (k : ℕ). k + 1) many, tt);
      replaced = λ old s. (tt, (ap (λ (k : ℕ). k + 1) (many ∙ sym (ap length (none_stored (acting caller m) (effect.Replaced old) m.stored refl))), tt));
      removed = λ n. (tt, tt);
      copied = λ n s. (tt, tt);
      retired = λ x. (tt, tt);
      asked = (tt, tt);
      pair_made = (tt, (tt, tt));
      table_made = λ turn. (tt, (tt, tt));
      pair_given_up = (tt, tt);
      table_given_up = λ turn. (tt, tt);
    }

    pub numbers_so : (told : Changed) → AllNumbered (effects_of its known told)
    numbers_so told = each_operation_so its known AllNumbered each_numbered (λ t. (tt, tt)) (λ field. (tt, tt)) (λ n. (tt, tt)) (λ t. (tt, tt)) (tt, tt) told

module _ (K V : Type 0) where
  pub nothing_has_come : NothingHasCome K V
  nothing_has_come = record { pairs = λ n l u. absurd (omega (arith, l, u)); tables = tt }

  pub calls_bring_things : CallsBringThings K V
  calls_bring_things things m h known many i map_number told own of = come_all own of (effects_of (Call i map_number) known told) things m h (numbers_so own of i map_number known m many told)

-- An event.

module _ {K V : Type 0} where
  as_there : (things : List Thing) (m v : Moment K V) → HaveCome things m → v.stored ≡ m.stored → v.tables ≡ m.tables → HaveCome things v
  as_there things m v h stored tables = record {
    pairs = λ n l u. h.pairs n l (subst (λ (xs : List (K × V)). n ≤ length xs) stored u);
    tables = subst (AllByRecursion (λ u. is_in same_thing (ATable u.table) things ≡ true)) (sym tables) h.tables;
  }

  pub called : (caller guard : List ℕ) (call : Calling K V) (of : Option ℕ) (things : List Thing) (m : Moment K V) → HaveCome things m → HaveCome things (with_call caller guard call of m)
  called caller guard call None things m h = h
  called caller guard call (Some of) things m h = as_there things m (with_call caller guard call (Some of) m) h refl refl

  begins : (v : Event K V) (o : Outcome V) (things : List Thing) (m : Moment K V) → HaveCome things m → HaveCome things (begun v o m)
  begins (event.Begin caller guard name call) outcome.Goes things m h = called caller guard call (number_of name m) things m h
  begins (event.OneCall guard name call) o things m h = by (is_busy o)
    where
      by : (q : Bool) → HaveCome things (if q then m else with_call nameless guard call (number_of name m) m)
      by true = h
      by false = called nameless guard call (number_of name m) things m h
  begins (event.MakeMap name mode capacity) outcome.Done things m h = as_there things m (begun (event.MakeMap name mode capacity) outcome.Done m) h refl refl
  begins _ _ things m h = h

  -- an effect that finds what it must
  module _ (terms : Terms) (everything : Bool) (moments : List (Moment K V)) where
    number_found : (caller : Option (List ℕ)) (acted : Option ℕ) (m : Moment K V) (f : Effect) → Finds terms caller acted everything moments m f → IsNumbered m f
    number_found (Some caller) acted m (effect.Stored n s) finds = by (acting (Some caller) m) finds
      where
        by : (o : Option (CallThere K V)) → ByCall (λ (c : CallThere K V). (only_looks c.call ≡ false) × CallFinds terms moments m (effect.Stored n s) c) o → n ≡ length m.stored + 1
        by None it = absurd it
        by (Some c) it = it.1.0
    number_found None None m (effect.Stored n s) finds = absurd finds
    number_found None (Some acted) m (effect.Stored n s) finds = absurd finds
    number_found caller acted m _ finds = tt

    numbers_found : (caller : Option (List ℕ)) (acted : Option ℕ) (effects : List Effect) (m : Moment K V) → AtEachEffect (Finds terms caller acted everything moments) caller acted effects m
        → AtEachEffect IsNumbered caller acted effects m
    numbers_found caller acted [] m finds = tt
    numbers_found caller acted (f ∷ effects) m finds = (number_found caller acted m f finds.0, numbers_found caller acted effects (with_effect caller acted f m) finds.1)

module _ (K V : Type 0) where
  pub events_bring_things : EventsBringThings K V
  events_bring_things terms log e h finds =
      let b = at_work e (moment log) in
      let all = come_all (caller_of e.event) (acted_on e.event b) e.effects (things_in log) b (begins e.event e.outcome (things_in log) (moment log) h)
      (numbers_found terms (gives_all e.event) (moments_of terms log (acting (caller_of e.event) b)) (caller_of e.event) (acted_on e.event b) e.effects b finds) in
      as_there (things_in (e ∷ log)) (with_effects (caller_of e.event) (acted_on e.event b) e.effects b) (moment (e ∷ log)) all refl refl
