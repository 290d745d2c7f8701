-- Writes of a try: blocks are marked with slots, and linked to the lists that they are put on.
use Rattle.std.proofs.Common.{◌≡◌, ℕ, ◌+◌, ◌<◌, Bool, true, false, cond, eqb, List, [], ◌∷◌, ◌++◌, length, refl, arith, subst, sym, eqb-true}
use Rattle.std.proofs.lemmas.Bool.{eqb-false}
use Rattle.seize_moves.specs.Waiting.Held.{count}
use Rattle.seize_moves.proofs.Waiting.Counts.{count-append}
use Rattle.seize_moves.proofs.Moves.State.Ghost.{put, Entry, Head, State, Stage, Unused, Open, Closing, Closed, Dead, list_of}
use Rattle.seize_moves.proofs.Moves.State.Moves.{marked, given_up, skipped}
use Rattle.seize_moves.proofs.Moves.State.Rule.{IsOf}
use Rattle.seize_moves.proofs.Memory.Words.Chains.{chain_apart, count_first, waiting, blocks_of, Marks, marks_apart, marks_more}
use Rattle.seize_moves.proofs.Memory.Words.View.{View}
use Rattle.seize_moves.proofs.Memory.Words.Shows.{Spot, Unspent, Extra, Shows, Written, KeepsWords, RestIs, is_on, is_in_hands, is_unspent, stands, has_entry, keeps_like}
use Rattle.seize_moves.proofs.Memory.Words.Apart.{head_apart, count_blocks, count_waiting, put_some}
use Rattle.seize_moves.proofs.Moves.State.Sums.{put_one}

-- an unspent block of a batch
pub is_unspent_one : (rest : ℕ → List ℕ) (spot : ℕ → Spot) (y c : ℕ) → count c (rest y) ≡ is_unspent y (spot c) → 0 < count c (rest y) → spot c ≡ Unspent y
is_unspent_one rest spot y c h some = grind arith

-- it stands on no list, and is unspent in no other batch
none_on : (head : ℕ → Head) (spot : ℕ → Spot) (y c t b : ℕ) → spot c ≡ Unspent y → stands c b (list_of (head t)) ≡ is_on t b (spot c) → stands c b (list_of (head t)) ≡ 0
none_on head spot y c t b is h = grind arith

none_in_hands : (loose : ℕ → List Entry) (spot : ℕ → Spot) (y c i b : ℕ) → spot c ≡ Unspent y → stands c b (loose i) ≡ is_in_hands i b (spot c) → stands c b (loose i) ≡ 0
none_in_hands loose spot y c i b is h = grind arith

none_unspent : (spot : ℕ → Spot) (y c z : ℕ) (a : Bool) (r : List ℕ) → spot c ≡ Unspent y → (z ≡ y → ⊥) → count c r ≡ is_unspent z (spot c) → count c (waiting a r) ≡ 0
none_unspent spot y c z a r is ne h = let le = count_waiting c a r in let none : count c r ≡ 0 = grind arith in omega arith

-- the link of an unspent block is no other row's
kept_link : (i j y c v a : ℕ) (f : View) (m : State) (x : Extra) → x.spot c ≡ Unspent y → IsOf i m.holder (m.stage y) ≡ true → (j ≡ i → ⊥)
    → has_entry j m.holder m.stage (x.spot a) ≡ true → put f.links c v a ≡ f.links a
kept_link i j y c v a f m x is mine ne p = at (eqb a c) refl
  where
    two : (g : Stage) → IsOf i m.holder g ≡ true → IsOf j m.holder g ≡ true → ⊥
    two Unused p q = cc
    two (Open s) p q = grind arith
    two (Closing k) p q = grind arith
    two Closed p q = cc
    two Dead p q = cc

    at : (t : Bool) → eqb a c ≡ t → cond t v (f.links a) ≡ f.links a
    at true e = absurd (two (m.stage y) mine (same_spot (x.spot a) (grind arith) p))
      where
        same_spot : (q : Spot) → q ≡ Unspent y → has_entry j m.holder m.stage q ≡ true → IsOf j m.holder (m.stage y) ≡ true
        same_spot q e p = grind arith
    at false e = refl

keeps_link : (i y c v : ℕ) (f : View) (m : State) (x : Extra) → x.spot c ≡ Unspent y → IsOf i m.holder (m.stage y) ≡ true
    → KeepsWords i f m x (record f { links = put f.links c v }) x
keeps_link i y c v f m x is mine = record {
  rows = λ j ne. record { hand = refl; pends = refl; popped = refl; lefts = refl; put_first = refl };
  batches = λ j z ne k. record { rest = refl; aimed = refl; behind = refl };
  nexts = λ j a ne k. refl;
  firsts = λ j a ne k. refl;
  links = λ j a ne p. kept_link i j y c v a f m x is mine ne p;
  spots = λ j a ne p. refl;
  owns = λ j a ne k. record { own = λ d has. refl; lists = refl; drained = refl };
}

open_rest : (g : Stage) (s : ℕ) (rs : List ℕ) (a : Bool) (bs : List ℕ) → g ≡ Open s → RestIs g rs a bs → (rs ≡ bs) × (a ≡ false)
open_rest g s rs a bs e h = (grind arith, grind arith)

-- the next block of batch y is marked with slot t
pub marked_written : (n i s y c t : ℕ) (us more : List ℕ) (f : View) (m : State) (x : Extra) → Shows n f m x → m.stage y ≡ Open s → m.holder s ≡ i + 1
    → m.blocks y ≡ us ++ c ∷ more → length us ≡ length (m.todo y)
    → Written n i f m x (record f { links = put f.links c t }) (marked m y t) x
marked_written n i s y c t us more f m x v op hold is len =
    let r = open_rest (m.stage y) s (x.rest y) (x.aimed y) (m.blocks y) op (v.entries.rests y) in
    let rest : x.rest y ≡ us ++ c ∷ more = cc (r.0, is) in
    let here : 0 < count c (x.rest y) = grind (arith, count-append c us (c ∷ more), count_first c more) in
    let spot = is_unspent_one x.rest x.spot y c (v.entries.unspent y c) here in
    let once : count c us ≡ 0 = grind (arith, count-append c us (c ∷ more), count_first c more, v.entries.unspent y c) in
    record {
      shows = record {
        entries = record {
          headed = λ u. head_apart f.links c t (f.heads u) (m.head u) (λ b. none_on m.head x.spot y c u b spot (v.entries.on u b c)) (v.entries.headed u);
          loosed = λ j. chain_apart 3 f.links c t (x.hand j) (blocks_of (m.loose j)) (count_blocks c (m.loose j) (λ b. none_in_hands m.loose x.spot y c j b spot (v.entries.hands j b c))) (v.entries.loosed j);
          marks = put_some (λ z l. Marks (put f.links c t) (waiting (x.aimed z) (x.rest z)) (waiting (x.aimed z) l)) m.todo y (m.todo y ++ t ∷ [])
              (at_y (x.aimed y) (x.rest y) r.1 rest once (v.entries.marks y))
              (λ z ne. marks_apart f.links c t (waiting (x.aimed z) (x.rest z)) (waiting (x.aimed z) (m.todo z)) (none_unspent x.spot y c z (x.aimed z) (x.rest z) spot ne (v.entries.unspent z c)) (v.entries.marks z));
          rests = v.entries.rests;
          on = v.entries.on;
          hands = v.entries.hands;
          unspent = v.entries.unspent;
          spots = v.entries.spots;
        };
        linkage = v.linkage;
        lists = v.lists;
      };
      keeps = keeps_link i y c t f m x spot (rw op (grind arith));
    }
  where
    at_y : (a : Bool) (r : List ℕ) → a ≡ false → r ≡ us ++ c ∷ more → count c us ≡ 0 → Marks f.links (waiting a r) (waiting a (m.todo y))
        → Marks (put f.links c t) (waiting a r) (waiting a (m.todo y ++ t ∷ []))
    at_y true r e is once k = absurd (cc)
    at_y false r e is once k = rw is (marks_more f.links c t us more (m.todo y) len once (rw is at k))

-- nothing is written where a slot is passed
pub skipped_written : (n i y t : ℕ) (f : View) (m : State) (x : Extra) → Shows n f m x → Written n i f m x f (skipped m y t) x
skipped_written n i y t f m x v = record { shows = record { entries = v.entries; linkage = v.linkage; lists = v.lists }; keeps = keeps_like i f m x f refl refl refl refl refl }

pub given_up_written : (n i s y : ℕ) (f : View) (m : State) (x : Extra) → Shows n f m x → m.stage y ≡ Open s → Written n i f m x f (given_up m y) x
given_up_written n i s y f m x v op = record {
  shows = record {
    entries = record {
      headed = v.entries.headed;
      loosed = v.entries.loosed;
      marks = put_one (λ z l. Marks f.links (waiting (x.aimed z) (x.rest z)) (waiting (x.aimed z) l)) m.todo y [] (no_marks (x.aimed y) (x.rest y)) v.entries.marks;
      rests = v.entries.rests;
      on = v.entries.on;
      hands = v.entries.hands;
      unspent = v.entries.unspent;
      spots = v.entries.spots;
    };
    linkage = v.linkage;
    lists = v.lists;
  };
  keeps = keeps_like i f m x f refl refl refl refl refl;
}
  where
    no_marks : (a : Bool) (r : List ℕ) → Marks f.links (waiting a r) (waiting a [])
    no_marks true r = tt
    no_marks false r = tt

-- the mark of the first unspent block was read
abbrev pub aimed_at : Extra → ℕ → Extra
aimed_at x y = record x { aimed = put x.aimed y true }

closing_rest : (g : Stage) (i : ℕ) (rs : List ℕ) (a : Bool) (bs : List ℕ) → g ≡ Closing i → RestIs g rs a bs
closing_rest g i rs a bs e = grind arith

pub mark_read : (n i y c t : ℕ) (rs ts : List ℕ) (f : View) (m : State) (x : Extra) → Shows n f m x → x.rest y ≡ c ∷ rs → m.todo y ≡ t ∷ ts → x.aimed y ≡ false
    → f.links c ≡ t
mark_read n i y c t rs ts f m x v is todo none = (rw (is, todo, none) at (v.entries.marks y)).0

pub aimed_written : (n i y c t : ℕ) (rs ts : List ℕ) (f : View) (m : State) (x : Extra) → Shows n f m x → m.stage y ≡ Closing i → x.rest y ≡ c ∷ rs
    → m.todo y ≡ t ∷ ts → x.aimed y ≡ false → Written n i f m x f m (aimed_at x y)
aimed_written n i y c t rs ts f m x v cl is todo none = record {
  shows = record {
    entries = record {
      headed = v.entries.headed;
      loosed = v.entries.loosed;
      marks = put_one (λ z a. Marks f.links (waiting a (x.rest z)) (waiting a (m.todo z))) x.aimed y true (rw (is, todo) ((rw (is, todo, none) at (v.entries.marks y)).1)) v.entries.marks;
      rests = put_one (λ z a. RestIs (m.stage z) (x.rest z) a (m.blocks z)) x.aimed y true (closing_rest (m.stage y) i (x.rest y) true (m.blocks y) cl) v.entries.rests;
      on = v.entries.on;
      hands = v.entries.hands;
      unspent = v.entries.unspent;
      spots = v.entries.spots;
    };
    linkage = v.linkage;
    lists = v.lists;
  };
  keeps = record {
    rows = λ j ne. record { hand = refl; pends = refl; popped = refl; lefts = refl; put_first = refl };
    batches = λ j z ne k. record { rest = refl; aimed = grind arith; behind = refl };
    nexts = λ j a ne k. refl;
    firsts = λ j a ne k. refl;
    links = λ j a ne k. refl;
    spots = λ j a ne k. refl;
    owns = λ j a ne k. record { own = λ d has. refl; lists = refl; drained = refl };
  };
}

-- it is linked to what its slot's head was seen to be
pub link_written : (n i y c w : ℕ) (rs : List ℕ) (f : View) (m : State) (x : Extra) → Shows n f m x → m.stage y ≡ Closing i → x.rest y ≡ c ∷ rs → x.aimed y ≡ true
    → Written n i f m x (record f { links = put f.links c w }) m x
link_written n i y c w rs f m x v cl is aim =
    let here : 0 < count c (x.rest y) = grind (arith, count_first c rs) in
    let spot = is_unspent_one x.rest x.spot y c (v.entries.unspent y c) here in
    let once : count c rs ≡ 0 = grind (arith, v.entries.unspent y c) in
    record {
      shows = record {
        entries = record {
          headed = λ u. head_apart f.links c w (f.heads u) (m.head u) (λ b. none_on m.head x.spot y c u b spot (v.entries.on u b c)) (v.entries.headed u);
          loosed = λ j. chain_apart 3 f.links c w (x.hand j) (blocks_of (m.loose j)) (count_blocks c (m.loose j) (λ b. none_in_hands m.loose x.spot y c j b spot (v.entries.hands j b c))) (v.entries.loosed j);
          marks = λ z. at z (eqb z y) (eqb-true z y) (eqb-false z y) spot once (v.entries.marks z);
          rests = v.entries.rests;
          on = v.entries.on;
          hands = v.entries.hands;
          unspent = v.entries.unspent;
          spots = v.entries.spots;
        };
        linkage = v.linkage;
        lists = v.lists;
      };
      keeps = keeps_link i y c w f m x spot (rw cl (grind arith));
    }
  where
    at : (z : ℕ) (t : Bool) → (t ≡ true → z ≡ y) → (t ≡ false → z ≡ y → ⊥) → x.spot c ≡ Unspent y → count c rs ≡ 0
        → Marks f.links (waiting (x.aimed z) (x.rest z)) (waiting (x.aimed z) (m.todo z)) → Marks (put f.links c w) (waiting (x.aimed z) (x.rest z)) (waiting (x.aimed z) (m.todo z))
    at z true e o spot once k =
        marks_apart f.links c w (waiting (x.aimed z) (x.rest z)) (waiting (x.aimed z) (m.todo z))
        (subst (λ (a : ℕ). count c (waiting (x.aimed a) (x.rest a)) ≡ 0) (sym (e refl)) (rw (aim, is) once)) k
    at z false e o spot once k =
        marks_apart f.links c w (waiting (x.aimed z) (x.rest z)) (waiting (x.aimed z) (m.todo z))
        (none_unspent x.spot y c z (x.aimed z) (x.rest z) spot (o refl) (v.entries.unspent z c)) k
