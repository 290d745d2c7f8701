-- By a move, a class that the map has all the time stands on where it stood, in a table that is the root, or was.
use Rattle.std.specs.Prelude.{◌≡◌, ◌≢◌, ℕ, suc, ◌+◌, ◌<◌, ◌≤◌, nat_lt, Bool, true, false, cond, if◌then◌else◌, List, [], ◌∷◌, Option, Some, None, ◌⊎◌}
use Rattle.std.specs.List.{AllByRecursion}
use Rattle.std.proofs.Common.{refl, ap, sym, subst, ◌∙◌, arith, inl, inr}
use Rattle.std.proofs.lemmas.Bool.{cases_lt, ltb-true, ltb-false}
use Rattle.run_finds.specs.Given.TablesDeclared.status.TheConstants.Status.{ABORTED}
use Rattle.run_finds.specs.Given.TablesDeclared.table.Table.{Table}
use Rattle.run_finds.specs.Given.SweepsSweepPoints.{standing, next_at, after_next}
use Rattle.run_finds.specs.Given.ReservesDeclared.sweep.Sweep.{Sweep}
use Rattle.run_finds.specs.Given.ReservesDeclared.sweep.Sweeping.{Sweeping}
use Rattle.run_finds.specs.Given.ReservesDeclared.sweep.Sweeping.TheVariants as at
use Rattle.run_finds.specs.Given.RuleChart.{Phase, Still, Copying, Copied, Place, Empty, Tombstone, Holds, Chart, put, put_in, is_taken}
use Rattle.run_finds.specs.Given.RuleLasts.{Lasts}
use Rattle.run_finds.specs.Given.RuleMaps.{spot_of}
use Rattle.run_finds.specs.Given.RuleMoments.{Moments, Remembers}
use Rattle.run_finds.specs.Given.RuleMoves.{Move, Links, Stores, Replaces, Removes, Marks, MarksBlocking, Skips, Unmarks, Puts, Covers, PutsLate, Claims, Reclaims, Counts, GivesUp, Aborts, Promotes, Announces, marked, still_place, copied_place, lent_place, without, after, Allowed}
use Rattle.run_finds.specs.Given.RuleRule.{IsLawful, Common, Rule, is_of, names}
use Rattle.run_finds.proofs.Given.RuleHistory.History.{history_kept}
use Rattle.run_finds.proofs.Given.RuleMoves.Promised.{moves_keep}
use Rattle.run_finds.proofs.Given.RuleMoves.Writes.{put_cases, put_in_cases, put_in_one, put_in_elsewhere}
use Rattle.run_finds.proofs.Given.LateSwept.Sweeps.Tables.{root_is, still_current}
use Rattle.run_finds.proofs.Given.CallersAsked.OneCurrent.{one_current}
use Rattle.run_finds.specs.Purposes.Keys.{HasClass, HadAlways, of_class, LiesAtPlace, KeysTo, KeysCame, KeysAt}

-- a place has a pair
abbrev pub IsHeld : Place → Type 0
IsHeld p = (n : ℕ) × (phase : Phase) × (borrowed : Bool) × (p ≡ Holds n phase borrowed)

held_marked : (p : Place) → IsHeld p → IsHeld (marked p)
held_marked (Empty mark) (n, phase, borrowed, e) = absurd (cc e)
held_marked (Tombstone mark) (n, phase, borrowed, e) = absurd (cc e)
held_marked (Holds n Still borrowed) h = (n, Copying, borrowed, refl)
held_marked (Holds n Copying borrowed) h = (n, Copying, borrowed, refl)
held_marked (Holds n Copied borrowed) h = (n, Copied, borrowed, refl)

module _ {K : Type 0} (spot : ℕ → K → ℕ → ℕ) (incremental : Bool) where
  held_still : (p : Place) → IsHeld p → IsHeld (still_place spot incremental p)
  held_still (Empty mark) (n, phase, borrowed, e) = absurd (cc e)
  held_still (Tombstone mark) (n, phase, borrowed, e) = absurd (cc e)
  held_still (Holds n phase borrowed) h = (n, Still, borrowed, refl)

  held_copied : (p : Place) → IsHeld p → IsHeld (copied_place spot incremental p)
  held_copied (Empty mark) (n, phase, borrowed, e) = absurd (cc e)
  held_copied (Tombstone mark) (n, phase, borrowed, e) = absurd (cc e)
  held_copied (Holds n phase borrowed) h = (n, Copied, borrowed, refl)

module _ {K : Type 0} (same : K → K → Bool) (spot : ℕ → K → ℕ → ℕ) (incremental : Bool) (c : Chart K) (t i : ℕ) where
  -- the move takes the pair out of this place
  abbrev Empties : Move K → Type 0
  Empties (Removes u j) = (t ≡ u) × (i ≡ j)
  Empties _ = ⊥

  held_one : (u j : ℕ) (v : Place) → (IsHeld (c.place u j) → IsHeld v) → IsHeld (c.place t i) → IsHeld (put_in c.place u j v t i)
  held_one u j v there = put_in_one (λ (x y : ℕ) (q : Place). IsHeld (c.place x y) → IsHeld q) c.place u j v there (λ x y h. h) t i

  -- a place that has a pair has one then, unless it was taken out
  held_after : t ≤ c.first → (move : Move K) → Allowed same spot incremental move c → IsHeld (c.place t i) → IsHeld ((after spot incremental move c).place t i) ⊎ Empties move
  held_after upto (Links len limit) a h = inl h
  held_after upto (Stores u k j) a h = inl (held_one u (spot (c.len u) k j) (Holds c.stored Still false) (λ x. (c.stored, Still, false, refl)) h)
  held_after upto (Replaces u j k) a h = inl (held_one u j (Holds c.stored Still false) (λ x. (c.stored, Still, false, refl)) h)
  held_after upto (Removes u j) a h = by (put_in_cases c.place u j (Tombstone false) t i)
    where
      by : ((t ≡ u) × (i ≡ j) × (put_in c.place u j (Tombstone false) t i ≡ Tombstone false)) ⊎ (put_in c.place u j (Tombstone false) t i ≡ c.place t i)
          → IsHeld (put_in c.place u j (Tombstone false) t i) ⊎ ((t ≡ u) × (i ≡ j))
      by (inl here) = inr (here.0, here.1)
      by (inr kept) = inl (subst IsHeld (sym kept) h)
  held_after upto (Marks caller j) a h = inl (held_one c.first j (marked (c.place c.first j)) (held_marked (c.place c.first j)) h)
  held_after upto (MarksBlocking j) a h = inl (held_one c.first j (marked (c.place c.first j)) (held_marked (c.place c.first j)) h)
  held_after upto (Skips caller u j) a h = inl (held_one c.first j (marked (c.place c.first j)) (held_marked (c.place c.first j)) h)
  held_after upto (Unmarks caller j) a h = inl (held_one c.first j (still_place spot incremental (c.place c.first j)) (held_still spot incremental (c.place c.first j)) h)
  held_after upto (Puts caller j u k try) a h =
      inl (subst IsHeld
      (sym (put_in_elsewhere c.place u (spot (c.len u) k try) (lent_place spot incremental (c.place c.first j)) t i (λ e. (let l = a.0 in omega (arith, e, l, upto))))) h)
  held_after upto (Covers caller j) a h = inl (held_one c.first j (copied_place spot incremental (c.place c.first j)) (held_copied spot incremental (c.place c.first j)) h)
  held_after upto (PutsLate u j n) a h = inl (held_one u j (Holds n Still false) (λ x. (n, Still, false, refl)) h)
  held_after upto (Claims caller u chunk) a h = inl h
  held_after upto (Reclaims u claim) a h = inl h
  held_after upto (Counts caller u number) a h = inl h
  held_after upto (GivesUp caller u) a h = inl h
  held_after upto (Aborts u) a h = inl h
  held_after upto (Promotes u) a h = inl h
  held_after upto (Announces u) a h = inl h

module _ {K : Type 0} (same : K → K → Bool) (spot : ℕ → K → ℕ → ℕ) (incremental : Bool) where
  -- a place that names a class has a pair of it
  pub named_held : (keys : ℕ → Option K) (k : K) (p : Place) → names same spot incremental keys k p ≡ true → (h : IsHeld p) × (is_of same spot incremental k (keys h.0) ≡ true)
  named_held keys k (Empty mark) e = absurd (cc e)
  named_held keys k (Tombstone mark) e = absurd (cc e)
  named_held keys k (Holds n phase borrowed) e = ((n, phase, borrowed, refl), e)

  pub names_by : (keys : ℕ → Option K) (k : K) (p : Place) (h : IsHeld p) → is_of same spot incremental k (keys h.0) ≡ true → names same spot incremental keys k p ≡ true
  names_by keys k p h e = ap (names same spot incremental keys k) h.3 ∙ e

  module _ (lawful : IsLawful same spot) where
    one_class : (k x o : K) → same k x ≡ true → same o x ≡ true → same k o ≡ true
    one_class k x o a b = lawful.classes.congr k x o a ∙ lawful.classes.symm x o ∙ b

    of_one : (k o : K) (key : Option K) → is_of same spot incremental k key ≡ true → is_of same spot incremental o key ≡ true → same k o ≡ true
    of_one k o None a b = absurd (cc a)
    of_one k o (Some x) a b = one_class k x o a b

    module _ (c c2 : Chart K) (common2 : Common same spot incremental c2) (lasts : Lasts same spot incremental c c2) (t i : ℕ) (k : K) where
      -- what has a pair then has one of the class that it named
      class_after : names same spot incremental c.key k (c.place t i) ≡ true → IsHeld (c2.place t i) → names same spot incremental c2.key k (c2.place t i) ≡ true
      class_after named held = names_by c2.key k (c2.place t i) held (ap (is_of same spot incremental k) key.2 ∙ by (names same spot incremental c.key key.1 (c.place t i)) refl)
        where
          was : (h : IsHeld (c.place t i)) × (is_of same spot incremental k (c.key h.0) ≡ true)
          was = named_held c.key k (c.place t i) named

          key : (held.0 < c2.stored) × (x : K) × (c2.key held.0 ≡ Some x)
          key = common2.keyed t i held.0 held.1 held.2 held.3

          its : names same spot incremental c2.key key.1 (c2.place t i) ≡ true
          its = names_by c2.key key.1 (c2.place t i) held (ap (is_of same spot incremental key.1) key.2 ∙ lawful.classes.refl key.1)

          taken : is_taken incremental (c.place t i) ≡ true
          taken = ap (is_taken incremental) was.0.3

          by : (b : Bool) → names same spot incremental c.key key.1 (c.place t i) ≡ b → same k key.1 ≡ true
          by true e = of_one k key.1 (c.key was.0.0) was.1 (sym (ap (names same spot incremental c.key key.1) was.0.3) ∙ e)
          by false e = absurd (let none = lasts.others t i key.1 taken e in cc (its, none))

-- what stands in a table stands within it
pub inside_of : {K : Type 0} (same : K → K → Bool) (spot : ℕ → K → ℕ → ℕ) (incremental : Bool) (c : Chart K) → Common same spot incremental c → (t i : ℕ) → IsHeld (c.place t i) → i < c.len t
inside_of same spot incremental c common t i held = by (cases_lt i (c.len t)) (cases_lt t c.past)
  where
    by : (i < c.len t) ⊎ (c.len t ≤ i) → (t < c.past) ⊎ (c.past ≤ t) → i < c.len t
    by (inl l) made = l
    by (inr far) (inl made) = absurd (let none = common.outside t i made far in let is = held.3 in cc (none, is))
    by (inr far) (inr unmade) = absurd (let none = common.unmade t i unmade in let is = held.3 in cc (none, is))

module _ {K : Type 0} (same : K → K → Bool) (hash : K → ℕ) (incremental : Bool) (lawful : IsLawful same (spot_of hash)) (c : Chart K) (rule : Rule same (spot_of hash) incremental c)
    (moments : Moments incremental c) where
  -- where a pair was taken out of such a table, the map has none of its class
  module _ (t i : ℕ) (upto : t ≤ c.first) (alive : c.status t ≢ ABORTED) (k : K) (named : names same (spot_of hash) incremental c.key k (c.place t i) ≡ true) where
    none_left : Allowed same (spot_of hash) incremental (Removes t i) c → HasClass same (spot_of hash) incremental (after (spot_of hash) incremental (Removes t i) c) (suc c.now) k → ⊥
    none_left allowed (o, was, of) = by (put_cases c.current n false o)
      where
        n : ℕ
        n = allowed.1.0

        held : c.place t i ≡ Holds n Still allowed.1.1
        held = allowed.1.2

        root : t ≡ c.first
        root = root_is same hash c 0 t incremental rule upto alive i n allowed.1.1 (inside_of same (spot_of hash) incremental c rule.common t i (n, Still, allowed.1.1, held)) held

        current : c.current n ≡ true
        current = still_current same hash c 0 incremental rule i n allowed.1.1 (ap (λ (x : ℕ). c.place x i) (sym root) ∙ held)

        its : is_of same (spot_of hash) incremental k (c.key n) ≡ true
        its = sym (ap (names same (spot_of hash) incremental c.key k) held) ∙ named

        then_current : put c.current n false o ≡ true
        then_current =
            sym (ap (λ (p : Place). without (spot_of hash) incremental p c.current o) held)
            ∙ sym ((history_kept same (spot_of hash) incremental lawful (Removes t i) c rule moments allowed).0.now_is o) ∙ was

        by : ((o ≡ n) × (put c.current n false o ≡ false)) ⊎ ((o ≢ n) × (put c.current n false o ≡ c.current o)) → ⊥
        by (inl it) = (let none = it.1 in let now = then_current in cc (none, now))
        by (inr other) = other.0 (one_current same (spot_of hash) lawful.classes c incremental rule k o n (sym other.1 ∙ then_current) current of its)

    none_left_by : (move : Move K) → Allowed same (spot_of hash) incremental move c → Empties same (spot_of hash) incremental c t i move
        → HasClass same (spot_of hash) incremental (after (spot_of hash) incremental move c) (after (spot_of hash) incremental move c).now k → ⊥
    none_left_by (Removes u j) allowed (e, f) =
        subst (λ (x : ℕ). Allowed same (spot_of hash) incremental (Removes x j) c → HasClass same (spot_of hash) incremental (after (spot_of hash) incremental (Removes x j) c) (suc c.now) k → ⊥) e
        (subst (λ (y : ℕ). Allowed same (spot_of hash) incremental (Removes t y) c → HasClass same (spot_of hash) incremental (after (spot_of hash) incremental (Removes t y) c) (suc c.now) k → ⊥) f none_left) allowed
    none_left_by _ allowed e = absurd e

  module _ (move : Move K) (allowed : Allowed same (spot_of hash) incremental move c) (began : ℕ) (since : began ≤ c.now)
      (stored : (time n : ℕ) → began ≤ time → time ≤ c.now → c.was time n ≡ true → n < c.stored) where
    abbrev c2 : Chart K
    c2 = after (spot_of hash) incremental move c

    lasts : Lasts same (spot_of hash) incremental c c2
    lasts = (moves_keep same (spot_of hash) incremental lawful move c rule allowed).1

    remembers : Remembers incremental c c2
    remembers = (history_kept same (spot_of hash) incremental lawful move c rule moments allowed).1

    had_before : (k : K) → HadAlways same (spot_of hash) incremental c2 began k → HadAlways same (spot_of hash) incremental c began k
    had_before k always time from to = by (always time from (let l = remembers.now in omega (arith, to, l)))
      where
        by : HasClass same (spot_of hash) incremental c2 time k → HasClass same (spot_of hash) incremental c time k
        by (n, was, of) =
            let then_was : c.was time n ≡ true = sym (ap (λ (f : ℕ → Bool). f n) (remembers.was time to)) ∙ was in
            (n, then_was, ap (is_of same (spot_of hash) incremental k) (sym (lasts.keys n (stored time n from to then_was))) ∙ of)

    class_on : (k : K) (done : List ℕ) → AllByRecursion (λ n. n < c.stored) done → of_class same (spot_of hash) incremental c2 k done ≡ of_class same (spot_of hash) incremental c k done
    class_on k [] below = refl
    class_on k (n ∷ done) below =
        ap (λ (x : Option K). cond (is_of same (spot_of hash) incremental k x) 1 0 + of_class same (spot_of hash) incremental c2 k done) (lasts.keys n below.0)
        ∙ ap (λ (x : ℕ). cond (is_of same (spot_of hash) incremental k (c.key n)) 1 0 + x) (class_on k done below.1)

    module _ (done : List ℕ) (below : AllByRecursion (λ n. n < c.stored) done) where
      came_on : KeysCame same (spot_of hash) incremental c began done → KeysCame same (spot_of hash) incremental c2 began done
      came_on h k always = class_on k done below ∙ h k (had_before k always)

      to_on : (table : Table) → table.turn ≤ c.first → c.status table.turn ≢ ABORTED → (place : ℕ) → KeysTo same (spot_of hash) incremental c began table place done
          → KeysTo same (spot_of hash) incremental c2 began table place done
      to_on table upto alive place h k always = by (h k (had_before k always))
        where
          stands : (i : ℕ) → names same (spot_of hash) incremental c.key k (c.place table.turn i) ≡ true → names same (spot_of hash) incremental c2.key k (c2.place table.turn i) ≡ true
          stands i named =
              elim (held_after same (spot_of hash) incremental c table.turn i upto move allowed (named_held same (spot_of hash) incremental c.key k (c.place table.turn i) named).0) as
              (λ _. names same (spot_of hash) incremental c2.key k (c2.place table.turn i) ≡ true) [
                | inl held ↦
                    class_after same (spot_of hash) incremental lawful c c2 (moves_keep same (spot_of hash) incremental lawful move c rule allowed).0.common lasts table.turn i k named held
                | inr empties ↦
                    absurd (none_left_by table.turn i upto alive k named move allowed empties (always c2.now (let l = remembers.now in omega (arith, since, l)) (omega arith)))
              ]

          by : LiesAtPlace same (spot_of hash) incremental c table place done k → LiesAtPlace same (spot_of hash) incremental c2 table place done k
          by (i, inside, named, inl (past, one)) = (i, inside, stands i named, inl (past, class_on k done below ∙ one))
          by (i, inside, named, inr (ahead, none)) = (i, inside, stands i named, inr (ahead, class_on k done below ∙ none))

-- its table is the root, or was, where it goes over one
abbrev pub IsLow : {K : Type 0} → Chart K → Table → Type 0
IsLow c table = (table.turn ≤ c.first) × (c.status table.turn ≢ ABORTED)

abbrev pub StandsLow : {K : Type 0} → Chart K → Sweep → Sweeping → Type 0
StandsLow c p at.Ready = 0 < p.table.len → IsLow c p.table
StandsLow c p at.Words = IsLow c p.table
StandsLow c p _ = Unit {0}

-- at each point
pub keys_at_on : {K : Type 0} (same : K → K → Bool) (hash : K → ℕ) (incremental : Bool) → IsLawful same (spot_of hash) → (c : Chart K) → Rule same (spot_of hash) incremental c → Moments incremental c
    → (move : Move K) → Allowed same (spot_of hash) incremental move c → (began : ℕ) → began ≤ c.now → ((time n : ℕ) → began ≤ time → time ≤ c.now → c.was time n ≡ true → n < c.stored)
    → (done : List ℕ) → AllByRecursion (λ n. n < c.stored) done → (p : Sweep) (stage : Sweeping) → StandsLow c p stage → KeysAt same (spot_of hash) incremental c began p done stage
    → KeysAt same (spot_of hash) incremental (after (spot_of hash) incremental move c) began p done stage
keys_at_on same hash incremental lawful c rule moments move allowed began since stored done below p stage low h = by stage low h
  where
    by : (stage : Sweeping) → StandsLow c p stage → KeysAt same (spot_of hash) incremental c began p done stage
        → KeysAt same (spot_of hash) incremental (after (spot_of hash) incremental move c) began p done stage
    by at.Ready low (inl (zero, came)) = inl (zero, came_on same hash incremental lawful c rule moments move allowed began since stored done below came)
    by at.Ready low (inr (some, to)) =
        inr (some, to_on same hash incremental lawful c rule moments move allowed began since stored done below p.table (low some).0 (low some).1 p.place to)
    by at.Words low to = to_on same hash incremental lawful c rule moments move allowed began since stored done below p.table low.0 low.1 p.place to
    by at.Over low came = came_on same hash incremental lawful c rule moments move allowed began since stored done below came
    by at.Follows low h = h
    by (at.Copies copier) low h = h
    by at.Reads low h = tt
    by (at.Asks word) low h = tt
    by (at.Tries word) low h = tt
    by (at.Counts removed) low h = tt
    by (at.Disposes dispose) low h = tt
    by (at.Refused fault) low h = tt

-- where it is asked for its next pair
pub keys_next : {K : Type 0} (same : K → K → Bool) (spot : ℕ → K → ℕ → ℕ) (incremental : Bool) (c : Chart K) (began : ℕ) (done : List ℕ) (p : Sweep) → p.stands ≡ at.Ready
    → KeysAt same spot incremental c began p done p.stands → KeysAt same spot incremental c began (after_next p) done (after_next p).stands
keys_next same spot incremental c began done p ready h =
    subst (λ (x : Sweeping). KeysAt same spot incremental c began (next_at x p) done (next_at x p).stands) (sym ready)
    (by (nat_lt p.place p.table.len) refl (subst (KeysAt same spot incremental c began p done) ready h))
  where
    at_end : nat_lt p.place p.table.len ≡ false → KeysTo same spot incremental c began p.table p.place done → KeysCame same spot incremental c began done
    at_end far to k always = one (to k always)
      where
        one : LiesAtPlace same spot incremental c p.table p.place done k → of_class same spot incremental c k done ≡ 1
        one (i, within, named, inl (l, is)) = is
        one (i, within, named, inr (ahead, none)) = absurd (let l = ltb-false p.place p.table.len far in omega (arith, within, ahead, l))

    by : (more : Bool) → nat_lt p.place p.table.len ≡ more → KeysAt same spot incremental c began p done at.Ready
        → KeysAt same spot incremental c began (standing p (if more then at.Words else at.Over)) done (if more then at.Words else at.Over)
    by true more (inl (zero, came)) = absurd (let l = ltb-true p.place p.table.len more in omega (arith, l, zero))
    by true more (inr (some, to)) = to
    by false far (inl (zero, came)) = came
    by false far (inr (some, to)) = at_end far to
