-- The write by which a slot is given an entry of a batch, or is found not active.
use Rattle.std.proofs.Common.{◌≡◌, ℕ, ◌<◌, Bool, true, false, cond, eqb, List, ◌∷◌, refl, arith, subst, sym, eqb-true}
use Rattle.seize_moves.specs.Waiting.Held.{count}
use Rattle.seize_moves.proofs.Moves.State.Ghost.{put, Entry, Head, Active, State, Closing, list_of}
use Rattle.seize_moves.proofs.Moves.State.Moves.{pushed, missed}
use Rattle.seize_moves.proofs.Moves.State.Sums.{put_both}
use Rattle.seize_moves.proofs.Memory.Words.Named.{link}
use Rattle.seize_moves.proofs.Memory.Words.Chains.{Chain, count_first, waiting, blocks_of, Marks}
use Rattle.seize_moves.proofs.Memory.Words.View.{View}
use Rattle.seize_moves.proofs.Memory.Words.Shows.{Spot, Nowhere, Unspent, On, SpotLife, Extra, Shows, Written, HeadIs, RestIs, is_on, is_in_hands, is_unspent, stands, has_entry}
use Rattle.seize_moves.proofs.Memory.Written.Marks.{is_unspent_one}

-- block c of batch y is used up: its entry is somewhere
abbrev pub spent : Extra → ℕ → ℕ → List ℕ → Spot → Extra
spent x y c rs p = record x { spot = put x.spot c p; rest = put x.rest y rs; aimed = put x.aimed y false }

-- three arrays written at one place
put_three : {X Y Z : Type 0} (P : ℕ → X → Y → Z → Type 0) (f : ℕ → X) (g : ℕ → Y) (h : ℕ → Z) (k : ℕ) (u : X) (v : Y) (w : Z)
    → P k u v w → ((j : ℕ) → P j (f j) (g j) (h j)) → (j : ℕ) → P j (put f k u j) (put g k v j) (put h k w j)
put_three P f g h k u v w a all j = at (eqb j k) (eqb-true j k) (all j)
  where
    at : (b : Bool) → (b ≡ true → j ≡ k) → P j (f j) (g j) (h j) → P j (cond b u (f j)) (cond b v (g j)) (cond b w (h j))
    at true e p = subst (λ (i : ℕ). P i u v w) (sym (e refl)) a
    at false e p = p

module _ (x : Extra) (y c : ℕ) where
  on_more : (head : ℕ → Head) (t : ℕ) (es : List Entry) (u b a : ℕ) → x.spot c ≡ Unspent y → head t ≡ Active es
      → stands a b (list_of (head u)) ≡ is_on u b (x.spot a)
      → stands a b (list_of (put head t (Active (record { block = c; batch = y } ∷ es)) u)) ≡ is_on u b (put x.spot c (On t y) a)
  on_more head t es u b a spot is h = grind arith

  -- nothing else changes where a block that was unspent is now on a list, or nowhere
  hands_same : (l : List Entry) (j b a : ℕ) (p : Spot) → x.spot c ≡ Unspent y → is_in_hands j b p ≡ 0 → stands a b l ≡ is_in_hands j b (x.spot a)
      → stands a b l ≡ is_in_hands j b (put x.spot c p a)
  hands_same l j b a p spot none h = grind arith

  on_same : (l : List Entry) (u b a : ℕ) → x.spot c ≡ Unspent y → stands a b l ≡ is_on u b (x.spot a) → stands a b l ≡ is_on u b (put x.spot c Nowhere a)
  on_same l u b a spot h = grind arith

  unspent_less : (rs : List ℕ) (p : Spot) (z a : ℕ) → x.spot c ≡ Unspent y → x.rest y ≡ c ∷ rs → is_unspent z p ≡ 0 → count a (x.rest z) ≡ is_unspent z (x.spot a)
      → count a (put x.rest y rs z) ≡ is_unspent z (put x.spot c p a)
  unspent_less rs p z a spot is none h = grind arith

  -- it is no other row's
  kept_spot : (i j : ℕ) (m : State) (p : Spot) (a : ℕ) → x.spot c ≡ Unspent y → m.stage y ≡ Closing i → (j ≡ i → ⊥)
      → has_entry j m.holder m.stage (x.spot a) ≡ true → put x.spot c p a ≡ x.spot a
  kept_spot i j m p a spot cl ne k = grind arith

pub pushed_written : (n i y t c : ℕ) (es : List Entry) (ts rs : List ℕ) (f : View) (m : State) (x : Extra) → Shows n f m x → m.stage y ≡ Closing i
    → x.rest y ≡ c ∷ rs → x.aimed y ≡ true → m.todo y ≡ t ∷ ts → m.head t ≡ Active es → f.links c ≡ f.heads t → 0 < c
    → Written n i f m x (record f { heads = put f.heads t (link c) }) (pushed m y t c es ts) (spent x y c rs (On t y))
pushed_written n i y t c es ts rs f m x v cl is aim todo act linked some =
    let here : 0 < count c (x.rest y) = grind (arith, count_first c rs) in
    let spot = is_unspent_one x.rest x.spot y c (v.entries.unspent y c) here in
    record {
      shows = record {
        entries = record {
          headed = put_both (λ u w h. HeadIs f.links w h) f.heads m.head t (link c) (Active (record { block = c; batch = y } ∷ es))
              (some, refl, subst (λ (w : ℕ). Chain 3 f.links w (blocks_of es)) (sym linked) (rw act at (v.entries.headed t))) v.entries.headed;
          loosed = v.entries.loosed;
          marks = put_three (λ z a r l. Marks f.links (waiting a r) (waiting a l)) x.aimed x.rest m.todo y false rs ts (rw (aim, is, todo) at (v.entries.marks y)) v.entries.marks;
          rests = λ z. rests z (v.entries.rests z);
          on = λ u b a. on_more x y c m.head t es u b a spot act (v.entries.on u b a);
          hands = λ j b a. hands_same x y c (m.loose j) j b a (On t y) spot refl (v.entries.hands j b a);
          unspent = λ z a. unspent_less x y c rs (On t y) z a spot is refl (v.entries.unspent z a);
          spots = λ a. spots a spot (v.entries.spots a) (v.entries.spots c);
        };
        linkage = v.linkage;
        lists = v.lists;
      };
      keeps = record {
        rows = λ j ne. record { hand = refl; pends = refl; popped = refl; lefts = refl; put_first = refl };
        batches = λ j z ne k. record { rest = grind arith; aimed = grind arith; behind = refl };
        nexts = λ j a ne k. refl;
        firsts = λ j a ne k. refl;
        links = λ j a ne k. refl;
        spots = λ j a ne k. kept_spot x y c i j m (On t y) a spot cl ne k;
        owns = λ j a ne k. record { own = λ d has. refl; lists = refl; drained = refl };
      };
    }
  where
    rests : (z : ℕ) → RestIs (m.stage z) (x.rest z) (x.aimed z) (m.blocks z) → RestIs (m.stage z) (put x.rest y rs z) (put x.aimed y false z) (m.blocks z)
    rests z h = grind arith

    spots : (a : ℕ) → x.spot c ≡ Unspent y → SpotLife (x.spot a) (m.life a) → SpotLife (x.spot c) (m.life c) → SpotLife (put x.spot c (On t y) a) (m.life a)
    spots a spot h k = grind arith

pub missed_written : (n i y t c : ℕ) (ts rs : List ℕ) (f : View) (m : State) (x : Extra) → Shows n f m x → m.stage y ≡ Closing i
    → x.rest y ≡ c ∷ rs → x.aimed y ≡ true → m.todo y ≡ t ∷ ts
    → Written n i f m x f (missed m y t ts) (spent x y c rs Nowhere)
missed_written n i y t c ts rs f m x v cl is aim todo =
    let here : 0 < count c (x.rest y) = grind (arith, count_first c rs) in
    let spot = is_unspent_one x.rest x.spot y c (v.entries.unspent y c) here in
    record {
      shows = record {
        entries = record {
          headed = v.entries.headed;
          loosed = v.entries.loosed;
          marks = put_three (λ z a r l. Marks f.links (waiting a r) (waiting a l)) x.aimed x.rest m.todo y false rs ts (rw (aim, is, todo) at (v.entries.marks y)) v.entries.marks;
          rests = λ z. rests z (v.entries.rests z);
          on = λ u b a. on_same x y c (list_of (m.head u)) u b a spot (v.entries.on u b a);
          hands = λ j b a. hands_same x y c (m.loose j) j b a Nowhere spot refl (v.entries.hands j b a);
          unspent = λ z a. unspent_less x y c rs Nowhere z a spot is refl (v.entries.unspent z a);
          spots = λ a. spots a (v.entries.spots a);
        };
        linkage = v.linkage;
        lists = v.lists;
      };
      keeps = record {
        rows = λ j ne. record { hand = refl; pends = refl; popped = refl; lefts = refl; put_first = refl };
        batches = λ j z ne k. record { rest = grind arith; aimed = grind arith; behind = refl };
        nexts = λ j a ne k. refl;
        firsts = λ j a ne k. refl;
        links = λ j a ne k. refl;
        spots = λ j a ne k. kept_spot x y c i j m Nowhere a spot cl ne k;
        owns = λ j a ne k. record { own = λ d has. refl; lists = refl; drained = refl };
      };
    }
  where
    rests : (z : ℕ) → RestIs (m.stage z) (x.rest z) (x.aimed z) (m.blocks z) → RestIs (m.stage z) (put x.rest y rs z) (put x.aimed y false z) (m.blocks z)
    rests z h = grind arith

    spots : (a : ℕ) → SpotLife (x.spot a) (m.life a) → SpotLife (put x.spot c Nowhere a) (m.life a)
    spots a h = grind arith
