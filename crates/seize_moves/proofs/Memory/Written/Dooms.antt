-- A batch at zero is given to a row, to be reclaimed: no word is written.
use Rattle.std.specs.Prelude.{Option}
use Rattle.std.proofs.Common.{◌≡◌, ℕ, ◌<◌, ◌≤◌, Bool, true, false, cond, eqb, List, [], ◌∷◌, refl, arith, subst, sym, eqb-true, inl, inr, ◌∙◌, ap}
use Rattle.std.proofs.lemmas.Bool.{cases_lt}
use Rattle.seize_moves.specs.Waiting.Held.{count}
use Rattle.seize_moves.proofs.Moves.State.Ghost.{put, entries, Entry, State, Closed, Dead, Life, Debt, is_loose, on_list, owes, list_of}
use Rattle.seize_moves.proofs.Moves.State.Moves.{gives_up, doomed}
use Rattle.seize_moves.proofs.Moves.State.Rule.{Inv, IsOf, SeenIs}
use Rattle.seize_moves.proofs.Moves.State.Sums.{put_both, total_zero, put_one}
use Rattle.seize_moves.proofs.Memory.Words.Chains.{Chain, waiting, first_or, Marks}
use Rattle.seize_moves.proofs.Memory.Words.View.{View}
use Rattle.seize_moves.proofs.Memory.Words.Shows.{Spot, Nowhere, Unspent, On, InHands, SpotLife, Extra, Shows, Written, LinkedIs, EndIs, FirstIs, CountIs, ZeroIs, RestIs, NextIs, DrainedIs, CarrierIs, is_on, is_in_hands, is_unspent, stands, lives, has_entry}

abbrev pub dropped : ℕ → Spot → Spot
dropped y Nowhere = Nowhere
dropped y (Unspent z) = cond (eqb z y) Nowhere (Unspent z)
dropped y (On t z) = On t z
dropped y (InHands i z) = InHands i z

-- row i has the blocks of batch y to take
abbrev pub given_up : State → Extra → ℕ → ℕ → Extra
given_up m x i y = record x { spot = λ c. dropped y (x.spot c); rest = put x.rest y []; lefts = put x.lefts i (first_or 0 (m.blocks y)) }

-- a batch at zero has no entry on a list or in hands

owes_none : (n y t : ℕ) (m : State) → Inv n m → m.stage y ≡ Closed → m.counter y ≡ 0 → t < n → owes (m.debt y t) ≡ 0
owes_none n y t m inv cl zero_is l =
    let k = (rw cl at (inv.batches.tally y)).0 in
    total_zero owes (m.debt y) n t (sym k ∙ zero_is) l

pub no_entries : (n y t : ℕ) (m : State) → Inv n m → m.stage y ≡ Closed → m.counter y ≡ 0 → entries y (list_of (m.head t)) ≡ 0
no_entries n y t m inv cl zero_is = elim (cases_lt t n) as (λ _. entries y (list_of (m.head t)) ≡ 0) [
  | inl l ↦ one (m.debt y t) (owes_none n y t m inv cl zero_is l) (inv.debts.listed y t)
  | inr out ↦ rw (inv.slots.outside t out) refl
]
  where
    one : (d : Debt) → owes d ≡ 0 → entries y (list_of (m.head t)) ≡ on_list d → entries y (list_of (m.head t)) ≡ 0
    one d h k = grind arith

pub no_loose : (n y i : ℕ) (m : State) → Inv n m → m.stage y ≡ Closed → m.counter y ≡ 0 → entries y (m.loose i) ≡ 0
no_loose n y i m inv cl zero_is =
    one (m.from i) (m.debt y (m.from i)) (m.seen y) (inv.debts.loosed y (m.from i) i) (inv.debts.scanned y (m.from i)) (inv.debts.seen_le y) (owes_none n y (m.from i) m inv cl zero_is)
  where
    one : (t : ℕ) (d : Debt) (k : ℕ) → cond (eqb t t) (entries y (m.loose i)) 0 ≡ is_loose i d → SeenIs d t k → k ≤ n → (t < n → owes d ≡ 0) → entries y (m.loose i) ≡ 0
    one t d k h seen le none = grind arith

stands_le : (c y : ℕ) (es : List Entry) → stands c y es ≤ entries y es
stands_le c y [] = omega arith
stands_le c y (e ∷ es) = one c y e es (stands_le c y es)
  where
    one : (c y : ℕ) (e : Entry) (es : List Entry) → stands c y es ≤ entries y es → stands c y (e ∷ es) ≤ entries y (e ∷ es)
    one c y e es h = grind arith

count_dead : (counts : ℕ → ℕ) (k : ℕ) (bs : List ℕ) → CountIs counts Dead k bs
count_dead counts k [] = tt
count_dead counts k (c ∷ l) = tt

pub gives_up_written : (n i y : ℕ) (f : View) (m : State) (x : Extra) → Inv n m → Shows n f m x → m.stage y ≡ Closed → m.counter y ≡ 0
    → Written n i f m x f (gives_up m i y) (given_up m x i y)
gives_up_written n i y f m x inv v cl zero_is =
    let todo : m.todo y ≡ [] = (rw cl at (inv.batches.tally y)).2 in
    record {
      shows = record {
        entries = record {
          headed = v.entries.headed;
          loosed = v.entries.loosed;
          marks = put_one (λ z r. Marks f.links (waiting (x.aimed z) r) (waiting (x.aimed z) (m.todo z))) x.rest y [] (rw todo (no_marks (x.aimed y))) v.entries.marks;
          rests = put_both (λ z g r. RestIs g r (x.aimed z) (m.blocks z)) m.stage x.rest y Dead [] tt v.entries.rests;
          on = λ t z a. on_same (stands a z (list_of (m.head t))) t z a (v.entries.on t z a);
          hands = λ j z a. hands_same (stands a z (m.loose j)) j z a (v.entries.hands j z a);
          unspent = λ z a. unspent_less z a (v.entries.unspent z a);
          spots = λ a. spots a (x.spot a) (m.life a) (v.entries.spots a) (λ t. v.entries.on t y a) (λ j. v.entries.hands j y a);
        };
        linkage = record {
          batched = v.linkage.batched;
          linked = put_one (λ z g. LinkedIs f.nexts (x.behind z) g (m.blocks z)) m.stage y Dead tt v.linkage.linked;
          ended = put_one (λ z g. EndIs m.holder (x.behind z) g) m.stage y Dead tt v.linkage.ended;
          first = λ c. first (f.firsts c) (m.life c) (v.linkage.first c);
          counted = put_one (λ z g. CountIs f.counts g (m.counter z) (m.blocks z)) m.stage y Dead (count_dead f.counts (m.counter y) (m.blocks y)) v.linkage.counted;
          zeros = λ c. zeros (f.counts c) (m.life c) (v.linkage.zeros c);
        };
        lists = record {
          pended = v.lists.pended;
          lefted = put_both (λ j w r. Chain 0 f.nexts w r) x.lefts m.left i (first_or 0 (m.blocks y)) (m.blocks y) (rw cl at (v.linkage.linked y)) v.lists.lefted;
          putted = v.lists.putted;
          deferring = v.lists.deferring;
          nexted = λ c. nexts (f.nexts c) (m.life c) (v.lists.nexted c);
          drains = λ c. drains (m.life c) (x.drained c) (v.lists.drains c);
          lived = λ c. lived (f.live c) (m.life c) (v.lists.lived c);
          carriers = λ c. carriers (m.life c) (m.carrier c) (f.lists c) (v.lists.carriers c);
        };
      };
      keeps = record {
        rows = λ j ne. record { hand = refl; pends = refl; popped = refl; lefts = grind arith; put_first = refl };
        batches = λ j z ne k. record { rest = grind arith; aimed = refl; behind = refl };
        nexts = λ j a ne k. refl;
        firsts = λ j a ne k. refl;
        links = λ j a ne k. refl;
        spots = λ j a ne k. kept_spot j (x.spot a) k;
        owns = λ j a ne k. record { own = λ d has. refl; lists = refl; drained = refl };
      };
    }
  where
    no_marks : (a : Bool) → Marks f.links (waiting a []) (waiting a [])
    no_marks true = tt
    no_marks false = tt

    on_same : (k t z a : ℕ) → k ≡ is_on t z (x.spot a) → k ≡ is_on t z (dropped y (x.spot a))
    on_same k t z a h = grind arith

    hands_same : (k j z a : ℕ) → k ≡ is_in_hands j z (x.spot a) → k ≡ is_in_hands j z (dropped y (x.spot a))
    hands_same k j z a h = grind arith

    unspent_less : (z a : ℕ) → count a (x.rest z) ≡ is_unspent z (x.spot a) → count a (put x.rest y [] z) ≡ is_unspent z (dropped y (x.spot a))
    unspent_less z a h = grind arith

    spots : (a : ℕ) (p : Spot) (l : Life) → SpotLife p l → ((t : ℕ) → stands a y (list_of (m.head t)) ≡ is_on t y p)
        → ((j : ℕ) → stands a y (m.loose j) ≡ is_in_hands j y p) → SpotLife (dropped y p) (doomed i y l)
    spots a Nowhere l h on hands = tt
    spots a (Unspent z) l h on hands = grind arith
    spots a (On t z) l h on hands = let q = stands_le a y (list_of (m.head t)) in let r = no_entries n y t m inv cl zero_is in let k = on t in grind arith
    spots a (InHands j z) l h on hands = let q = stands_le a y (m.loose j) in let r = no_loose n y j m inv cl zero_is in let k = hands j in grind arith

    first : (w : ℕ) (l : Life) → FirstIs w m.blocks l → FirstIs w m.blocks (doomed i y l)
    first w l h = grind arith

    zeros : (w : ℕ) (l : Life) → ZeroIs w l → ZeroIs w (doomed i y l)
    zeros w l h = grind arith

    nexts : (w : ℕ) (l : Life) → NextIs w l → NextIs w (doomed i y l)
    nexts w l h = grind arith

    drains : (l : Life) (d : Bool) → DrainedIs l d → DrainedIs (doomed i y l) d
    drains l d h = grind arith

    lived : (k : Bool) (l : Life) → k ≡ lives l → k ≡ lives (doomed i y l)
    lived k l h = grind arith

    carriers : (l : Life) (k : Bool) (d : Option ℕ) → CarrierIs l k d → CarrierIs (doomed i y l) k d
    carriers l k d h = grind arith

    kept_spot : (j : ℕ) (p : Spot) → has_entry j m.holder m.stage p ≡ true → dropped y p ≡ p
    kept_spot j p k = grind arith

-- the same behind another write of the row, by which its batch came to zero
pub then_gives_up : (n i y : ℕ) (f g : View) (m m2 : State) (x x2 : Extra) → Written n i f m x g m2 x2 → Inv n m2 → m2.stage y ≡ Closed → m2.counter y ≡ 0
    → ((j : ℕ) → (j ≡ i → ⊥) → IsOf j m.holder (m.stage y) ≡ true → ⊥) → Written n i f m x g (gives_up m2 i y) (given_up m2 x2 i y)
then_gives_up n i y f g m m2 x x2 w inv cl zero_is other = record {
  shows = (gives_up_written n i y g m2 x2 inv w.shows cl zero_is).shows;
  keeps = record {
    rows = λ j ne. let k = w.keeps.rows j ne in record { hand = k.hand; pends = k.pends; popped = k.popped; lefts = grind (arith, k.lefts); put_first = k.put_first };
    batches = λ j z ne h. let k = w.keeps.batches j z ne h in record { rest = rest_kept j z ne h k.rest; aimed = k.aimed; behind = k.behind };
    nexts = w.keeps.nexts;
    firsts = w.keeps.firsts;
    links = w.keeps.links;
    spots = λ j c ne h. spot_kept j ne (x.spot c) (x2.spot c) h (w.keeps.spots j c ne h);
    owns = λ j c ne h. let k = w.keeps.owns j c ne h in record { own = k.own; lists = k.lists; drained = k.drained };
  };
}
  where
    rest_kept : (j z : ℕ) → (j ≡ i → ⊥) → IsOf j m.holder (m.stage z) ≡ true → x2.rest z ≡ x.rest z → put x2.rest y [] z ≡ x.rest z
    rest_kept j z ne h k = at (eqb z y) (eqb-true z y)
      where
        at : (t : Bool) → (t ≡ true → z ≡ y) → cond t [] (x2.rest z) ≡ x.rest z
        at true e = absurd (other j ne (subst (λ (a : ℕ). IsOf j m.holder (m.stage a) ≡ true) (e refl) h))
        at false e = k

    spot_kept : (j : ℕ) → (j ≡ i → ⊥) → (p q : Spot) → has_entry j m.holder m.stage p ≡ true → q ≡ p → dropped y q ≡ p
    spot_kept j ne Nowhere q h e = absurd (cc)
    spot_kept j ne (On t z) q h e = absurd (cc)
    spot_kept j ne (InHands u z) q h e = grind arith
    spot_kept j ne (Unspent z) q h e = ap (dropped y) e ∙ at (eqb z y) (eqb-true z y)
      where
        at : (t : Bool) → (t ≡ true → z ≡ y) → cond t Nowhere (Unspent z) ≡ Unspent z
        at true k = absurd (other j ne (subst (λ (a : ℕ). IsOf j m.holder (m.stage a) ≡ true) (k refl) h))
        at false k = refl
