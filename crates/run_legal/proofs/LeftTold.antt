-- What ended maps have left over is what a moment says of it: as maps end, as all is reclaimed, and where nothing of that is.
use Rattle.std.specs.Prelude.{◌≡◌, ◌⊎◌, ◌<◌, ◌+◌, ◌==◌, ◌||◌, ℕ, nat_lt, Bool, true, false, not, cond, List, [], ◌∷◌, filter, find, flat_map, length, map, Option, Some, None, MatchBool, if◌then◌else◌}
use Rattle.std.specs.List.{list_all}
use Rattle.std.proofs.Common.{refl, ap, sym, subst, ◌∙◌, inl, inr, arith}
use Rattle.std.proofs.Math.Bool.{or-false}
use Rattle.std.proofs.lemmas.Bool.{and_parts, eqb-true}
use Rattle.run_grows.specs.Given.SeizeWordsDeclared.fault.Fault.TheVariants.{Busy}
use Rattle.run_grows.specs.Given.RunsSame.{is_same}
use Rattle.run_grows.specs.Given.RunsDeclared.effect.Effect.{Effect}
use Rattle.run_grows.specs.Given.RunsDeclared.effect.Effect.TheVariants as effect
use Rattle.run_grows.specs.Given.RunsDeclared.effect.TableId.{TableId}
use Rattle.run_grows.specs.Given.RunsDeclared.effect.Thing.{Thing}
use Rattle.run_grows.specs.Given.RunsDeclared.effect.Thing.TheVariants.{APair, ATable}
use Rattle.run_grows.specs.Given.RunsDeclared.event.Event.{Event}
use Rattle.run_grows.specs.Given.RunsDeclared.event.Event.TheVariants as event
use Rattle.run_grows.specs.Given.RunsDeclared.outcome.Outcome.{Outcome}
use Rattle.run_grows.specs.Given.RunsDeclared.outcome.Outcome.TheVariants.{Done, Goes, Refused}
use Rattle.run_grows.specs.Given.SchedulesAfter.{after, if_any, moment, remains_on, root_or, tables_taken, with_remains}
use Rattle.run_grows.specs.Given.SchedulesBeginning.{at_work, begun, with_call}
use Rattle.run_grows.specs.Given.SchedulesEffects.{AtEachEffect, all_at, in_map, with_effect, with_effects, worked}
use Rattle.run_grows.specs.Given.SchedulesEntry.{Entry, ByCall, acted_on, acting, caller_of, is_busy, nameless}
use Rattle.run_grows.specs.Given.SchedulesGrowing.{only_looks}
use Rattle.run_grows.specs.Given.SchedulesHanding.{gives_all, is_ending, is_only, may_do, moments_of, IsWhole}
use Rattle.run_grows.specs.Given.SchedulesLists.{is_among, is_in, put}
use Rattle.run_grows.specs.Given.SchedulesLives.{Finds, MayReclaim}
use Rattle.run_grows.specs.Given.SchedulesMoment.{Place, Unborn, InMap, Out, Handed, Behind, Left, GivenBack, Deferral, Remains, UnderWay, Moment}
use Rattle.run_grows.specs.Given.SchedulesTerms.{Terms}
use Rattle.run_grows.specs.Given.SchedulesThings.{same_table, same_thing}
use Rattle.run_grows.specs.Given.SchedulesViews.{behind, call_of, is_in_a_map, map_of, number_of}
use Rattle.run_grows.proofs.Given.SpotsUnreclaimed.{same_itself, table_is}
use Rattle.run_grows.proofs.Given.LivesOrder.{behind_apart}
use Rattle.run_grows.specs.Given.FindsLife.{StoresOne}
use Rattle.run_grows.specs.Given.FindsLittle.{ReclaimsAll}
use Rattle.run_grows.specs.Given.FindsOrderly.{is_left_over}
use Rattle.run_grows.specs.Given.FindsWaiting.{FindsPlaced, HasPairPending, PairsArePlaced, is_behind_one, is_out, is_unborn, once_if, owed_by, owed_in, put_in}
use Rattle.run_grows.specs.Given.FindsWithin.{AllIsInOrder, GoesInOrder}
use Rattle.run_grows.proofs.Given.FindsBegun.{all_begun}
use Rattle.run_grows.proofs.Given.FindsEndings.{entry}
use Rattle.run_grows.proofs.Given.FindsLife.{life_finds_placed}
use Rattle.run_grows.proofs.Given.FindsOver.{both_at}
use Rattle.run_grows.proofs.Given.FindsPlaced.{effects_keep_placed}
use Rattle.run_legal.specs.Carried.{EventsTellLeft, LeftIsNoted}
use Rattle.run_grows.proofs.Given.RemainsLists.{among_append as among_two}

-- where a pair is that is elsewhere
unborn_not : (p : Place) → is_unborn p ≡ true → is_left_over p ≡ false
unborn_not Unborn e = refl
unborn_not (InMap map) e = refl
unborn_not Out e = refl
unborn_not Handed e = refl
unborn_not Behind e = refl
unborn_not Left e = absurd (cc e)
unborn_not GivenBack e = refl

in_map_not : (p : Place) → is_in_a_map p ≡ true → is_left_over p ≡ false
in_map_not Unborn e = refl
in_map_not (InMap map) e = refl
in_map_not Out e = refl
in_map_not Handed e = refl
in_map_not Behind e = refl
in_map_not Left e = absurd (cc e)
in_map_not GivenBack e = refl

out_not : (p : Place) → 0 < once_if (is_out p) → is_left_over p ≡ false
out_not Unborn e = refl
out_not (InMap map) e = refl
out_not Out e = refl
out_not Handed e = refl
out_not Behind e = refl
out_not Left e = absurd (omega (arith, e))
out_not GivenBack e = refl

behind_not : (p : Place) → 0 < once_if (is_behind_one p) → is_left_over p ≡ false
behind_not Unborn e = refl
behind_not (InMap map) e = refl
behind_not Out e = refl
behind_not Handed e = refl
behind_not Behind e = refl
behind_not Left e = absurd (omega (arith, e))
behind_not GivenBack e = refl

new_not : (acted : Option ℕ) → is_left_over (in_map acted) ≡ false
new_not None = refl
new_not (Some map) = refl

-- a pair that was not left over is elsewhere, and not left over
put_aside : (k : ℕ) (there : Place) (place : ℕ → Place) → is_left_over there ≡ false → is_left_over (place k) ≡ false → (n : ℕ) → is_left_over (put k there place n) ≡ is_left_over (place n)
put_aside k there place none was n = by (n == k) refl
  where
    by : (q : Bool) → (n == k) ≡ q → is_left_over (if q then there else place n) ≡ is_left_over (place n)
    by true e = none ∙ sym (ap (λ (x : ℕ). is_left_over (place x)) (eqb-true n k e) ∙ was)
    by false e = refl

-- what is owed is owed some times, and what waits behind a table is put behind one
owed_some : (n : ℕ) (xs : List Thing) → is_in same_thing (APair n) xs ≡ true → 0 < owed_in n xs
owed_some n [] e = absurd (cc e)
owed_some n (x ∷ xs) e = by (same_thing (APair n) x) e (owed_some n xs)
  where
    by : (q : Bool) → (q || is_in same_thing (APair n) xs) ≡ true → (is_in same_thing (APair n) xs ≡ true → 0 < owed_in n xs) → 0 < once_if q + owed_in n xs
    by true is k = omega arith
    by false is k = (let some = k is in omega (arith, some))

owes_some : {K V : Type 0} (n : ℕ) (own : List ℕ) (calls : List (UnderWay K V)) (c : UnderWay K V) → find (λ (d : UnderWay K V). is_same d.caller own) calls ≡ Some c
    → is_in same_thing (APair n) c.owes ≡ true → 0 < owed_by n calls
owes_some n own [] c is owes = absurd (cc is)
owes_some {K} {V} n own (d ∷ calls) c is owes = by (is_same d.caller own) is (owes_some n own calls c)
  where
    by : (q : Bool) → cond q (Some d) (find (λ (x : UnderWay K V). is_same x.caller own) calls) ≡ Some c
        → (find (λ (x : UnderWay K V). is_same x.caller own) calls ≡ Some c → is_in same_thing (APair n) c.owes ≡ true → 0 < owed_by n calls) → 0 < owed_in n d.owes + owed_by n calls
    by true e k =
        let one : d ≡ c = cc e in
        let some = owed_some n d.owes (ap (λ (x : UnderWay K V). is_in same_thing (APair n) x.owes) one ∙ owes) in omega (arith, some)
    by false e k = (let some = k e owes in omega (arith, some))

put_some : (n : ℕ) (t : TableId) (ds : List Deferral) → is_among n (behind t ds) ≡ true → 0 < put_in n ds
put_some n t [] e = absurd (cc e)
put_some n t (d ∷ ds) e = by (same_table d.behind t) e (put_some n t ds)
  where
    Its : Deferral → Bool
    Its x = same_table x.behind t

    either : (q : Bool) → (q || is_among n (behind t ds)) ≡ true → (is_among n (behind t ds) ≡ true → 0 < put_in n ds) → 0 < once_if q + put_in n ds
    either true is k = omega arith
    either false is k = (let some = k is in omega (arith, some))

    by : (q : Bool) → is_among n (map (λ (x : Deferral). x.pair) (if q then d ∷ filter (λ (x : Deferral). same_table x.behind t) ds else filter (λ (x : Deferral). same_table x.behind t) ds)) ≡ true
        → (is_among n (behind t ds) ≡ true → 0 < put_in n ds) → 0 < once_if (n == d.pair) + put_in n ds
    by true is k = either (n == d.pair) is k
    by false is k = (let some = k is in omega (arith, some))

-- An effect by which no table ends leaves what is left over, where not everything may be reclaimed.
module _ {K V : Type 0} (terms : Terms) (caller : Option (List ℕ)) (acted : Option ℕ) (moments : List (Moment K V)) (m : Moment K V) (placed : PairsArePlaced m) where
  abbrev Stays : Effect → Type 0
  Stays f = (n : ℕ) → is_left_over ((with_effect caller acted f m).place n) ≡ is_left_over (m.place n)

  same_as : (k : ℕ) (there : Place) → is_left_over there ≡ false → is_left_over (m.place k) ≡ false → (n : ℕ) → is_left_over (put k there m.place n) ≡ is_left_over (m.place n)
  same_as k there none was n = put_aside k there m.place none was n

  -- a pair that is stored is a new one
  not_stored : (k : ℕ) → k ≡ length m.stored + 1 → is_left_over (m.place k) ≡ false
  not_stored k is = by (is_unborn (m.place k)) refl
    where
      by : (q : Bool) → is_unborn (m.place k) ≡ q → is_left_over (m.place k) ≡ false
      by true e = unborn_not (m.place k) e
      by false e = absurd (let le = placed.stored k e in omega (arith, is, le))

  taken_not : (k : ℕ) (o : Option (UnderWay K V)) → ByCall (λ c. is_in_a_map (m.place k) ≡ true) o → is_left_over (m.place k) ≡ false
  taken_not k None none = absurd none
  taken_not k (Some c) is = in_map_not (m.place k) is

  owed_not : (k : ℕ) (who : Option (List ℕ)) → HasPairPending who m k → is_left_over (m.place k) ≡ false
  owed_not k None none = absurd none
  owed_not k (Some own) owes = by (call_of own m) refl owes
    where
      by : (o : Option (UnderWay K V)) → call_of own m ≡ o → ByCall (λ c. is_in same_thing (APair k) c.owes ≡ true) o → is_left_over (m.place k) ≡ false
      by None is none = absurd none
      by (Some c) is there = out_not (m.place k) (subst (λ (x : ℕ). 0 < x) (placed.owed k) (owes_some k own m.calls c is there))

  none_finds : (o : Option (UnderWay K V)) → ByCall (λ c. (only_looks c.call ≡ false) × ⊥) o → ⊥
  none_finds None is = is
  none_finds (Some c) is = is.1

  handed_not : (k : ℕ) (who : Option (List ℕ)) (p : Place) → m.place k ≡ p → Finds terms who acted false moments m (effect.Reclaimed (APair k)) → is_left_over p ≡ false
  handed_not k None Left is finds = (let its : MayReclaim false Left = subst (λ (p : Place). MayReclaim false p) is finds in absurd (cc its))
  handed_not k (Some own) Left is finds = absurd (none_finds (acting (Some own) m) finds)
  handed_not k who _ is finds = refl

  -- what waits behind a table is not left over
  behind_stays : (t : TableId) (n : ℕ) → is_left_over (all_at Handed (behind t m.deferred) m.place n) ≡ is_left_over (m.place n)
  behind_stays t n = by (is_among n (behind t m.deferred)) refl
    where
      by : (q : Bool) → is_among n (behind t m.deferred) ≡ q → is_left_over (if q then Handed else m.place n) ≡ is_left_over (m.place n)
      by true e = sym (behind_not (m.place n) (subst (λ (x : ℕ). 0 < x) (placed.put n) (put_some n t m.deferred e)))
      by false e = refl

  one_stays : (f : Effect) → Finds terms caller acted false moments m f → FindsPlaced caller m f → tables_taken f ≡ [] → Stays f
  one_stays (effect.Stored k s) finds its none = same_as k (in_map acted) (new_not acted) (not_stored k its.0)
  one_stays (effect.Replaced k) finds its none = same_as k Out refl (taken_not k (acting caller m) its)
  one_stays (effect.Removed k) finds its none = same_as k Out refl (taken_not k (acting caller m) its)
  one_stays (effect.Retired (APair k)) finds its none = same_as k Handed refl (owed_not k caller its)
  one_stays (effect.Retired (ATable t)) finds its none = λ n. refl
  one_stays (effect.Deferred k t) finds its none = same_as k Behind refl (owed_not k caller its)
  one_stays (effect.Reclaimed (APair k)) finds its none = same_as k GivenBack refl (handed_not k caller (m.place k) refl finds)
  one_stays (effect.Reclaimed (ATable t)) finds its none = behind_stays t
  one_stays (effect.Ended k) finds its none = same_as k GivenBack refl (in_map_not (m.place k) its)
  one_stays (effect.Taken t) finds its none = absurd (cc none)
  one_stays _ finds its none = λ n. refl

-- by none of these effects a table ends
abbrev TakesNoTable : List Effect → Type 0
TakesNoTable [] = Unit {0}
TakesNoTable (f ∷ fs) = (tables_taken f ≡ []) × TakesNoTable fs

module _ {K V : Type 0} (terms : Terms) (caller : Option (List ℕ)) (acted : Option ℕ) (moments : List (Moment K V)) where
  all_stay : (fs : List Effect) (m : Moment K V) → PairsArePlaced m → AtEachEffect (λ v f. Finds terms caller acted false moments v f × StoresOne caller v f) caller acted fs m → TakesNoTable fs
      → (n : ℕ) → is_left_over ((with_effects caller acted fs m).place n) ≡ is_left_over (m.place n)
  all_stay [] m placed finds none n = refl
  all_stay (f ∷ fs) m placed finds none n =
      let its = life_finds_placed K V terms caller acted false moments m f finds.0.0 finds.0.1 in
      all_stay fs (with_effect caller acted f m) (effects_keep_placed K V caller acted (f ∷ []) m (its, tt) placed) finds.1 none.1 n
      ∙ one_stays terms caller acted moments m placed f finds.0.0 its none.0 n

-- Of an end of a map: what waited behind the tables that it took is left over, too.

-- behind a table that is taken nothing waits any more
none_behind : (t : TableId) (ds : List Deferral) → behind t (filter (λ (d : Deferral). not (same_table d.behind t)) ds) ≡ []
none_behind t [] = refl
none_behind t (d ∷ ds) = by (same_table d.behind t) refl (none_behind t ds)
  where
    F : List Deferral
    F = filter (λ (x : Deferral). not (same_table x.behind t)) ds

    by : (q : Bool) → same_table d.behind t ≡ q → behind t F ≡ [] → behind t (if not q then d ∷ F else F) ≡ []
    by true is k = k
    by false is k =
        ap (λ (z : Bool). map (λ (x : Deferral). x.pair) (if z then d ∷ filter (λ (x : Deferral). same_table x.behind t) F else filter (λ (x : Deferral). same_table x.behind t) F)) is ∙ k

module _ (n : ℕ) (t : TableId) (ds : List Deferral) (none : is_among n (behind t ds) ≡ false) where
  abbrev kept : List Deferral
  kept = filter (λ (d : Deferral). not (same_table d.behind t)) ds

  one_kept : (u : TableId) → is_among n (behind u kept) ≡ is_among n (behind u ds)
  one_kept u = by (same_table u t) refl
    where
      by : (q : Bool) → same_table u t ≡ q → is_among n (behind u kept) ≡ is_among n (behind u ds)
      by true e =
          let one : u ≡ t = table_is u t e in
          ap (λ (x : TableId). is_among n (behind x kept)) one ∙ ap (is_among n) (none_behind t ds) ∙ sym (ap (λ (x : TableId). is_among n (behind x ds)) one ∙ none)
      by false e = ap (is_among n) (behind_apart u t (λ one. (let yes : same_table u t ≡ true = ap (λ (x : TableId). same_table x t) one ∙ same_itself t in cc (yes, e))) ds)

  all_kept : (ts : List TableId) → is_among n (flat_map (λ u. behind u kept) ts) ≡ is_among n (flat_map (λ u. behind u ds) ts)
  all_kept [] = refl
  all_kept (u ∷ ts) =
      among_two n (behind u kept) (flat_map (λ x. behind x kept) ts)
      ∙ ap (λ (q : Bool). q || is_among n (flat_map (λ x. behind x kept) ts)) (one_kept u)
      ∙ ap (λ (q : Bool). is_among n (behind u ds) || q) (all_kept ts)
      ∙ sym (among_two n (behind u ds) (flat_map (λ x. behind x ds) ts))

abbrev pairs_behind : List Deferral → List Effect → List ℕ
pairs_behind ds fs = flat_map (λ t. behind t ds) (flat_map tables_taken fs)

module _ {K V : Type 0} (terms : Terms) (acted : Option ℕ) (everything : Bool) (moments : List (Moment K V)) where
  ended_not : (m : Moment K V) (k : ℕ) (of : Option ℕ) → Finds terms None of everything moments m (effect.Ended k) → is_left_over (m.place k) ≡ false
  ended_not m k None finds = absurd finds
  ended_not m k (Some map) finds = ap is_left_over finds

  ends_leave : (fs : List Effect) (m : Moment K V) → list_all is_ending fs ≡ true → AtEachEffect (Finds terms None acted everything moments) None acted fs m
      → (n : ℕ) → is_left_over ((with_effects None acted fs m).place n) ≡ (is_left_over (m.place n) || is_among n (pairs_behind m.deferred fs))
  ends_leave [] m ends finds n = sym (or-false (is_left_over (m.place n)))
  ends_leave (effect.Ended k ∷ fs) m ends finds n =
      ends_leave fs (with_effect None acted (effect.Ended k) m) ends finds.1 n
      ∙ ap (λ (q : Bool). q || is_among n (pairs_behind m.deferred fs)) (put_aside k GivenBack m.place refl (ended_not m k acted finds.0) n)
  ends_leave (effect.Taken t ∷ fs) m ends finds n =
      ends_leave fs (with_effect None acted (effect.Taken t) m) ends finds.1 n
      ∙ by (is_among n (behind t m.deferred)) refl
      ∙ ap (λ (q : Bool). is_left_over (m.place n) || q) (sym (among_two n (behind t m.deferred) (pairs_behind m.deferred fs)))
    where
      kept_then : List Deferral
      kept_then = filter (λ (d : Deferral). not (same_table d.behind t)) m.deferred

      rest : Bool
      rest = is_among n (pairs_behind m.deferred fs)

      over : (q : Bool) → true ≡ (q || true)
      over true = refl
      over false = refl

      by : (q : Bool) → is_among n (behind t m.deferred) ≡ q
          → (is_left_over (if q then Left else m.place n) || is_among n (pairs_behind kept_then fs)) ≡ (is_left_over (m.place n) || (q || rest))
      by true e = over (is_left_over (m.place n))
      by false e = ap (λ (q : Bool). is_left_over (m.place n) || q) (all_kept n t m.deferred e (flat_map tables_taken fs))
  ends_leave (_ ∷ fs) m ends finds n = absurd (cc ends)

-- and it is told, among what is told
swapped : (a b c : Bool) → (a || (b || c)) ≡ (b || (a || c))
swapped true true c = refl
swapped true false c = refl
swapped false true c = refl
swapped false false c = refl

exchanged : (a b : Bool) → (a || b) ≡ (b || a)
exchanged true true = refl
exchanged true false = refl
exchanged false true = refl
exchanged false false = refl

module _ (n : ℕ) where
  abbrev told : List Remains → Bool
  told rs = is_among n (flat_map (λ r. r.pairs) rs)

  with_told : (new : Remains) (rs : List Remains) → told (with_remains new rs) ≡ (is_among n new.pairs || told rs)
  with_told new [] = among_two n new.pairs []
  with_told new (r ∷ rs) = by (nat_lt new.root r.root) (with_told new rs)
    where
      by : (q : Bool) → told (with_remains new rs) ≡ (is_among n new.pairs || told rs) → told (if q then new ∷ r ∷ rs else r ∷ with_remains new rs) ≡ (is_among n new.pairs || told (r ∷ rs))
      by true ih = among_two n new.pairs (flat_map (λ x. x.pairs) (r ∷ rs))
      by false ih =
          among_two n r.pairs (flat_map (λ x. x.pairs) (with_remains new rs))
          ∙ ap (λ (q : Bool). is_among n r.pairs || q) ih
          ∙ swapped (is_among n r.pairs) (is_among n new.pairs) (told rs)
          ∙ ap (λ (q : Bool). is_among n new.pairs || q) (sym (among_two n r.pairs (flat_map (λ x. x.pairs) rs)))

  any_told : (root : ℕ) (pairs : List ℕ) (rs : List Remains) → told (if_any root pairs rs) ≡ (is_among n pairs || told rs)
  any_told root [] rs = refl
  any_told root (k ∷ pairs) rs = with_told (record { root = root; pairs = k ∷ pairs }) rs

-- So it is after each event.
module _ {K V : Type 0} (terms : Terms) (log : List (Entry K V)) where
  abbrev m : Moment K V
  m = moment log

  begun_place : (its : Event K V) (came : Outcome V) → (begun its came m).place ≡ m.place
  begun_place (event.MakeMap name mode capacity) Done = refl
  begun_place (event.Begin caller guard name call) Goes = by (number_of name m)
    where
      by : (o : Option ℕ) → (with_call caller guard call o m).place ≡ m.place
      by None = refl
      by (Some map) = refl
  begun_place (event.OneCall guard name call) came = busy (is_busy came)
    where
      by : (o : Option ℕ) → (with_call nameless guard call o m).place ≡ m.place
      by None = refl
      by (Some map) = refl

      busy : (q : Bool) → (if q then m else with_call nameless guard call (number_of name m) m).place ≡ m.place
      busy true = refl
      busy false = by (number_of name m)
  begun_place _ _ = refl

  abbrev Tells : Event K V → Outcome V → ℕ → List Effect → Type 0
  Tells its came steps effects = LeftIsNoted (after (entry its came steps effects) m)

  abbrev Goes_so : Event K V → Outcome V → ℕ → List Effect → Type 0
  Goes_so its came steps effects = GoesInOrder terms log (entry its came steps effects)

  -- where nothing of that is told anew
  as_before : (its : Event K V) (came : Outcome V) (steps : ℕ) (effects : List Effect) → remains_on its came effects m ≡ m.remains
      → ((n : ℕ) → is_left_over ((worked (entry its came steps effects) m).place n) ≡ is_left_over (m.place n)) → LeftIsNoted m → Tells its came steps effects
  as_before its came steps effects same stays before n = stays n ∙ before n ∙ sym (ap (λ (rs : List Remains). told n rs) same)

  nothing_does : (its : Event K V) (came : Outcome V) (steps : ℕ) (effects : List Effect) → effects ≡ [] → (n : ℕ) → is_left_over ((worked (entry its came steps effects) m).place n) ≡ is_left_over (m.place n)
  nothing_does its came steps effects none n =
      ap (λ (fs : List Effect). is_left_over ((worked (entry its came steps fs) m).place n)) none ∙ ap (λ (p : ℕ → Place). is_left_over (p n)) (begun_place its came)

  takes_no_table : (its : Event K V) → ((t : TableId) → may_do its m (effect.Taken t) ≡ true → ⊥) → (fs : List Effect) → list_all (may_do its m) fs ≡ true → TakesNoTable fs
  takes_no_table its none [] may = tt
  takes_no_table its none (f ∷ fs) may = (let both = and_parts (may_do its m f) (list_all (may_do its m) fs) may in (by f both.0, takes_no_table its none fs both.1))
    where
      by : (g : Effect) → may_do its m g ≡ true → tables_taken g ≡ []
      by (effect.Taken t) may_take = absurd (none t may_take)
      by _ may_do_it = refl

  -- of an event by which no map ends, and nothing that is left over is reclaimed
  others_tell : (its : Event K V) (came : Outcome V) (steps : ℕ) (effects : List Effect) → Goes_so its came steps effects → AllIsInOrder m → gives_all its ≡ false
      → ((t : TableId) → may_do its m (effect.Taken t) ≡ true → ⊥) → remains_on its came effects m ≡ m.remains → LeftIsNoted m → Tells its came steps effects
  others_tell its came steps effects goes order gives none same before = as_before its came steps effects same stays before
    where
      e : Entry K V
      e = entry its came steps effects

      b : Moment K V
      b = at_work e m

      moments : List (Moment K V)
      moments = moments_of terms log (acting (caller_of its) b)

      stays : (n : ℕ) → is_left_over ((worked e m).place n) ≡ is_left_over (m.place n)
      stays n =
          all_stay terms (caller_of its) (acted_on its b) moments effects b (all_begun terms log e its came goes.right order).waits.placed
          (subst (λ (q : Bool). AtEachEffect (λ v f. Finds terms (caller_of its) (acted_on its b) q moments v f × StoresOne (caller_of its) v f) (caller_of its) (acted_on its b) effects b) gives
          (both_at (Finds terms (caller_of its) (acted_on its b) (gives_all its) moments) (StoresOne (caller_of its)) (caller_of its) (acted_on its b) effects b goes.life.finds goes.stores))
          (takes_no_table its none effects goes.life.may) n
          ∙ ap (λ (p : ℕ → Place). is_left_over (p n)) (begun_place its came)

  done_or_busy : (q r : Bool) (came : Outcome V) → MatchBool q (came ≡ Refused Busy) (MatchBool r (came ≡ Done) (came ≡ Refused Busy)) → (came ≡ Done) ⊎ (came ≡ Refused Busy)
  done_or_busy true r came is = inr is
  done_or_busy false true came is = inl is
  done_or_busy false false came is = inr is

  -- one that is busy
  busy_tells : (its : Event K V) (steps : ℕ) (effects : List Effect) → remains_on its (Refused Busy) effects m ≡ m.remains → Goes_so its (Refused Busy) steps effects → LeftIsNoted m
      → Tells its (Refused Busy) steps effects
  busy_tells its steps effects same goes before = as_before its (Refused Busy) steps effects same (nothing_does its (Refused Busy) steps effects (none its goes.life.whole)) before
    where
      none : (x : Event K V) → IsWhole x (Refused Busy) effects m (worked (entry its (Refused Busy) steps effects) m) → effects ≡ []
      none (event.MakeMap name mode capacity) whole = whole
      none _ whole = whole

  -- the end of a map
  end_tells : (own : List ℕ) (steps : ℕ) (effects : List Effect) → Goes_so (event.EndMap own) Done steps effects → LeftIsNoted m → Tells (event.EndMap own) Done steps effects
  end_tells own steps effects goes before n =
      ends_leave terms (number_of own m) false (moments_of terms log None) effects m goes.life.may goes.life.finds n
      ∙ ap (λ (q : Bool). q || is_among n (pairs_behind m.deferred effects)) (before n)
      ∙ exchanged (told n m.remains) (is_among n (pairs_behind m.deferred effects))
      ∙ sym (any_told n (root_or (map_of own m)) (pairs_behind m.deferred effects) m.remains)

  tells_left : (its : Event K V) (came : Outcome V) (steps : ℕ) (effects : List Effect) → Goes_so its came steps effects → ReclaimsAll log (entry its came steps effects) → AllIsInOrder m → LeftIsNoted m
      → Tells its came steps effects
  tells_left (event.EndMap own) came steps effects goes reclaims order before =
      elim (done_or_busy m.is_closed _ came goes.right) as (λ _. Tells (event.EndMap own) came steps effects) [
        | inl done ↦ subst (λ (o : Outcome V). Goes_so (event.EndMap own) o steps effects → Tells (event.EndMap own) o steps effects) (sym done) (λ its. end_tells own steps effects its before) goes
        | inr busy ↦
            subst (λ (o : Outcome V). Goes_so (event.EndMap own) o steps effects → Tells (event.EndMap own) o steps effects) (sym busy)
            (λ its. busy_tells (event.EndMap own) steps effects refl its before) goes
      ]
  tells_left event.ReclaimAll came steps effects goes reclaims order before =
      elim (done_or_busy m.is_closed _ came goes.right) as (λ _. Tells event.ReclaimAll came steps effects) [
        | inl done ↦
            subst (λ (o : Outcome V). ReclaimsAll log (entry event.ReclaimAll o steps effects) → Tells event.ReclaimAll o steps effects) (sym done) (λ its n. its.0.nothing.left n) reclaims
        | inr busy ↦
            subst (λ (o : Outcome V). Goes_so event.ReclaimAll o steps effects → Tells event.ReclaimAll o steps effects) (sym busy)
            (λ its. busy_tells event.ReclaimAll steps effects refl its before) goes
      ]
  tells_left event.Close came steps effects goes reclaims order before =
      elim (done_or_busy m.is_closed _ came goes.right) as (λ _. Tells event.Close came steps effects) [
        | inl done ↦ subst (λ (o : Outcome V). ReclaimsAll log (entry event.Close o steps effects) → Tells event.Close o steps effects) (sym done) (λ its n. its.0.nothing.left n) reclaims
        | inr busy ↦
            subst (λ (o : Outcome V). Goes_so event.Close o steps effects → Tells event.Close o steps effects) (sym busy) (λ its. busy_tells event.Close steps effects refl its before) goes
      ]
  tells_left (event.Refresh guard) came steps effects goes reclaims order before =
      others_tell (event.Refresh guard) came steps effects goes order refl (λ t may. (let both = and_parts (is_only guard m) false may in cc both.1)) refl before
  tells_left (event.DropGuard guard) came steps effects goes reclaims order before =
      others_tell (event.DropGuard guard) came steps effects goes order refl (λ t may. (let both = and_parts (is_only guard m) false may in cc both.1)) refl before
  tells_left its came steps effects goes reclaims order before = others_tell its came steps effects goes order refl (λ t may. cc may) refl before

pub events_tell_left : (K V : Type 0) → EventsTellLeft K V
events_tell_left K V terms log e goes reclaims order before = tells_left terms log e.event e.outcome e.steps e.effects goes reclaims order before
