-- What a list of acts tells, with one act more.
use Rattle.std.specs.Prelude.{◌≢◌, ◌==◌, ◌++◌, length, suc, Option, if◌then◌else◌}
use Rattle.std.proofs.Common.{◌≡◌, ℕ, ◌+◌, Bool, List, [], ◌∷◌, refl, sym, subst, ap, ◌∙◌, arith}
use Rattle.std.proofs.lemmas.Bool.{eq-eqb, ne_eqb}
use Rattle.seize_words.specs.OneMemory.Mem.{Mem}
use Rattle.map_tables.specs.declared.node.Node.{Node}
use Rattle.papaya_raw.specs.declared.machines.progress.Progress.{Progress}
use Rattle.many_acts.specs.Acts.Acts.{Answer, BeginsCall, StepsCall, TellsCall, AsksCall, StopsCall, BeginsMaking, StepsMaking, BeginsEnding, StepsEnding, BeginsRow, StepsRow}
use Rattle.many_acts.specs.Acts.Doings.{Doing, Does, BeginsReclaiming, BeginsClearing, StepsReclaiming, Chooses, MayDo}
use Rattle.many_acts.specs.Acts.Lists.{Course, Reached, LedOn, LedTo, nothing_done, on_by}
use Rattle.threads_rule.specs.Views.Listed.{Called, calls_then, calls_of, has_progressed, seen_then, seen_of, AreNumbered, IsNewest, seat_of}
use Rattle.threads_rule.specs.Views.Rule.{IsSlot, AreRuns, caller_at}
use Rattle.threads_rule.specs.Views.Told.{newest_progress}
use Rattle.threads_rule.specs.declared.view.BegunCall.{BegunCall}
use Rattle.seize_words.proofs.General.{nothing_and as none_before}

-- a seat is that of its callers, and of no other seat's
pub its_seat : (seat t : ℕ) → IsSlot t → seat_of (caller_at seat t) ≡ seat
its_seat seat t is = omega (arith, is)

pub is_its : (seat t : ℕ) → IsSlot t → (seat == seat_of (caller_at seat t)) ≡ Bool.true
is_its seat t is = eq-eqb seat (seat_of (caller_at seat t)) (sym (its_seat seat t is))

pub is_other : (other seat t : ℕ) → IsSlot t → other ≢ seat → (other == seat_of (caller_at seat t)) ≡ Bool.false
is_other other seat t is ne = ne_eqb other (seat_of (caller_at seat t)) (λ e. ne (e ∙ its_seat seat t is))

module _ {K V S : Type 0} where
  -- numbers go on
  pub numbered_on : (doings more : List (Doing K V S)) (k l m : ℕ) → AreNumbered k doings l → AreNumbered l more m → AreNumbered k (doings ++ more) m
  numbered_on [] more k l m is then_ = subst (λ (a : ℕ). AreNumbered a more m) (sym is) then_
  numbered_on (Does (BeginsMaking i n hasher given places) ∷ doings) more k l m is then_ = (is.0, numbered_on doings more (suc k) l m is.1 then_)
  numbered_on (Does (BeginsCall i n wanted) ∷ doings) more k l m is then_ = numbered_on doings more k l m is then_
  numbered_on (Does (StepsCall i n g) ∷ doings) more k l m is then_ = numbered_on doings more k l m is then_
  numbered_on (Does (TellsCall i n reply) ∷ doings) more k l m is then_ = numbered_on doings more k l m is then_
  numbered_on (Does (AsksCall i n) ∷ doings) more k l m is then_ = numbered_on doings more k l m is then_
  numbered_on (Does (StopsCall i n) ∷ doings) more k l m is then_ = numbered_on doings more k l m is then_
  numbered_on (Does (StepsMaking i g) ∷ doings) more k l m is then_ = numbered_on doings more k l m is then_
  numbered_on (Does (BeginsEnding i n) ∷ doings) more k l m is then_ = numbered_on doings more k l m is then_
  numbered_on (Does (StepsEnding i g) ∷ doings) more k l m is then_ = numbered_on doings more k l m is then_
  numbered_on (Does (BeginsRow i request) ∷ doings) more k l m is then_ = numbered_on doings more k l m is then_
  numbered_on (Does (StepsRow i g) ∷ doings) more k l m is then_ = numbered_on doings more k l m is then_
  numbered_on (BeginsReclaiming i ∷ doings) more k l m is then_ = numbered_on doings more k l m is then_
  numbered_on (BeginsClearing i ∷ doings) more k l m is then_ = numbered_on doings more k l m is then_
  numbered_on (StepsReclaiming g ∷ doings) more k l m is then_ = numbered_on doings more k l m is then_
  numbered_on (Chooses choice ∷ doings) more k l m is then_ = numbered_on doings more k l m is then_

  -- an act more than those of two lists that are as long
  pub calls_more : (seat : ℕ) (doings : List (Doing K V S)) (answers : List (Answer K V)) (doing : Doing K V S) (told : Answer K V) (calls : List (Called K V)) → length answers ≡ length doings
      → calls_of seat (doings ++ doing ∷ []) (answers ++ told ∷ []) calls ≡ calls_then seat doing told (calls_of seat doings answers calls)
  calls_more seat [] [] doing told calls long = refl
  calls_more seat (one ∷ doings) (said ∷ answers) doing told calls long = calls_more seat doings answers doing told (calls_then seat one said calls) (let less = long in omega (arith, less))
  calls_more seat [] (said ∷ answers) doing told calls long = absurd (cc long)
  calls_more seat (one ∷ doings) [] doing told calls long = absurd (cc long)

module _ {K S : Type 0} (V : Type 0) (same : K → K → Bool) (hash : S → K → ℕ) (batch_size roots : ℕ) (slot : ℕ → ℕ) (course : Course V same hash batch_size roots slot) where
  one_longer : (answers : List (Answer K V)) (told : Answer K V) → length (answers ++ told ∷ []) ≡ suc (length answers)
  one_longer [] told = refl
  one_longer (one ∷ answers) told = ap suc (one_longer answers told)

  -- each act tells something
  as_many : (doings : List (Doing K V S)) (x y : Reached V same hash batch_size roots slot) → LedOn V same hash batch_size roots slot course doings x y
      → length y.1 ≡ length x.1 + length doings
  as_many [] x y led = ap (λ (z : Reached V same hash batch_size roots slot). length z.1) led ∙ (let n = length x.1 in omega arith)
  as_many (doing ∷ doings) x y (may, led) =
      let rest = as_many doings (on_by V same hash batch_size roots slot course x doing may) y led in
      let longer = one_longer x.1 (course.told x.0 doing may) in omega (arith, rest, longer)

  -- what has led on from elsewhere has led on from where that is
  from_there : (seat : ℕ) (doings : List (Doing K V S)) (x y z : Reached V same hash batch_size roots slot) (is : y ≡ x) (led : LedOn V same hash batch_size roots slot course doings y z)
      (seen : Option (ℕ × Mem (Node K V)))
      → seen_of V same hash batch_size roots slot course seat doings y z led seen
      ≡ seen_of V same hash batch_size roots slot course seat doings x z (subst (λ (w : Reached V same hash batch_size roots slot). LedOn V same hash batch_size roots slot course doings w z) is led) seen
  from_there seat doings x y z is led seen =
      λ j. seen_of V same hash batch_size roots slot course seat doings (is j) z (coe 0 j (i. LedOn V same hash batch_size roots slot course doings (is i) z) led) seen

  -- An act more leads on, and what was seen is then what that leaves.
  pub led_more : (doings : List (Doing K V S)) (doing : Doing K V S) (x y : Reached V same hash batch_size roots slot) (led : LedOn V same hash batch_size roots slot course doings x y)
      (may : MayDo V same hash batch_size roots slot doing y.0)
      → (let next = on_by V same hash batch_size roots slot course y doing may in
      (more : LedOn V same hash batch_size roots slot course (doings ++ doing ∷ []) x next)
      × ((seat : ℕ) (seen : Option (ℕ × Mem (Node K V))) → seen_of V same hash batch_size roots slot course seat (doings ++ doing ∷ []) x next more seen
      ≡ seen_then seat doing next.0.0.world.memory (seen_of V same hash batch_size roots slot course seat doings x y led seen)))
  led_more [] doing x y led may =
      let next = on_by V same hash batch_size roots slot course y doing may in (
        subst (λ (w : Reached V same hash batch_size roots slot). LedOn V same hash batch_size roots slot course (doing ∷ []) w next) led (may, refl),
        λ seat seen. sym (from_there seat (doing ∷ []) x y next led (may, refl) seen),
      )
  led_more (one ∷ doings) doing x y (first, led) may =
      let next = on_by V same hash batch_size roots slot course x one first in
      let rest = led_more doings doing next y led may in ((first, rest.0), λ seat seen. rest.1 seat (seen_then seat one next.0.0.world.memory seen))

  pub as_long : (doings : List (Doing K V S)) (y : Reached V same hash batch_size roots slot) → LedTo V same hash batch_size roots slot course doings y → length y.1 ≡ length doings
  as_long doings y led = as_many doings (nothing_done V same hash batch_size roots slot course) y led ∙ none_before (length doings)

module _ {K V S : Type 0} (same : K → K → Bool) (hash : S → K → ℕ) (i : ℕ) (told : Progress (Node K V)) where
  -- where the newest one, which is this caller's, has told this
  pub newest_runs : (calls : List (Called K V)) (runs : List (BegunCall K V)) → IsNewest i calls → AreRuns same hash calls runs → AreRuns same hash (has_progressed i told calls) (newest_progress told runs)
  newest_runs [] runs newest are = absurd newest
  newest_runs (call ∷ calls) [] newest are = absurd are
  newest_runs (call ∷ calls) (run ∷ runs) newest are =
      subst (λ (q : Bool). AreRuns same hash (if q then record call { told = told } ∷ calls else call ∷ has_progressed i told calls) (record run { told = told } ∷ runs)) (sym (eq-eqb call.caller i newest))
      (record { map = are.0.map; number = are.0.number; its = are.0.its; plainly = are.0.plainly; began = are.0.began; told = refl }, are.1)

-- the newest one is on that caller's
pub newest_on : {K V : Type 0} (i : ℕ) (told : Progress (Node K V)) (calls : List (Called K V)) → IsNewest i calls → IsNewest i (has_progressed i told calls)
newest_on i told [] newest = newest
newest_on i told (call ∷ calls) newest =
    subst (λ (q : Bool). IsNewest i (if q then record call { told = told } ∷ calls else call ∷ has_progressed i told calls)) (sym (eq-eqb call.caller i newest)) newest
