-- Blocks are made, linked, unlinked, and handed to the collector or to another block's list.
use Rattle.std.specs.Prelude.{Option}
use Rattle.std.proofs.Common.{◌≡◌, ℕ, ◌<◌, Bool, true, false, cond, eqb, List, [], ◌∷◌, refl, arith, subst, sym, eqb-true}
use Rattle.seize_moves.specs.Waiting.Held.{count}
use Rattle.seize_moves.proofs.Waiting.Counts.{none_counted}
use Rattle.seize_moves.proofs.Moves.State.Ghost.{put, is_deferred, lies_with, can_carry, State, Life, IsFree, IsOwned, IsLinked, IsUnlinked, IsDeferring, IsDeferred, IsPending, IsIn, IsDoomed, IsLeft}
use Rattle.seize_moves.proofs.Moves.State.Moves.{linked, unlinked, begins_retire, begins_defer}
use Rattle.seize_moves.proofs.Moves.State.Rule.{Inv}
use Rattle.seize_moves.proofs.Moves.State.Sums.{put_both}
use Rattle.seize_moves.proofs.Memory.Words.Named.{link}
use Rattle.seize_moves.proofs.Memory.Words.Chains.{Chain, waiting}
use Rattle.seize_moves.proofs.Memory.Words.View.{View}
use Rattle.seize_moves.proofs.Memory.Words.Shows.{Spot, SpotLife, Extra, Entries, Linkage, Shows, Written, FirstIs, ZeroIs, NextIs, DrainedIs, CarrierIs, lives, keeps_like}

-- nothing is deferred until a block that is free
pub none_deferred : (n b : ℕ) (m : State) → Inv n m → m.life b ≡ IsFree → m.deferred b ≡ []
none_deferred n b m inv free = none_counted (m.deferred b) (λ c. one c (m.life c) refl (inv.places.all_deferred b c) (inv.places.carries c b))
  where
    carry : (l : Life) → l ≡ IsFree → can_carry l ≡ true → ⊥
    carry l e h = grind arith

    one : (c : ℕ) (l : Life) → m.life c ≡ l → count c (m.deferred b) ≡ is_deferred b l
        → (lies_with b (m.life c) ≡ true → (m.carrier c ≡ false) × (m.carrier b ≡ true) × (can_carry (m.life b) ≡ true)) → count c (m.deferred b) ≡ 0
    one c (IsDeferred u) e k h = at (eqb b u) refl
      where
        at : (t : Bool) → eqb b u ≡ t → count c (m.deferred b) ≡ 0
        at true q = absurd (carry (m.life b) free (h (rw e q)).2)
        at false q = grind arith
    one c IsFree e k h = k
    one c (IsOwned j) e k h = k
    one c IsLinked e k h = k
    one c (IsUnlinked j) e k h = k
    one c (IsDeferring j s t) e k h = k
    one c (IsPending j) e k h = k
    one c (IsIn y) e k h = k
    one c (IsDoomed j) e k h = k
    one c (IsLeft j) e k h = k

-- a block's life before it is handed to the collector, or on its way
abbrev pub is_early : Life → Bool
is_early (IsIn y) = false
is_early (IsDoomed i) = false
is_early (IsLeft i) = false
is_early _ = true

-- the words are the same where a block of this kind is of this kind again
module _ (life : ℕ → Life) (b : ℕ) (l : Life) where
  spots_early : (p : ℕ → Spot) (a : ℕ) → is_early (life b) ≡ true → SpotLife (p b) (life b) → SpotLife (p a) (life a) → SpotLife (p a) (put life b l a)
  spots_early p a early q h = grind arith

  first_early : (w c : ℕ) (blocks : ℕ → List ℕ) → is_early l ≡ true → FirstIs w blocks (life c) → FirstIs w blocks (put life b l c)
  first_early w c blocks early h = grind arith

  pub zeros_early : (w c : ℕ) → is_early (life b) ≡ true → ZeroIs w (life c) → ZeroIs w (put life b l c)
  zeros_early w c early h = grind arith

  pub drains_early : (d : Bool) (c : ℕ) → is_early (life b) ≡ true → DrainedIs (life c) d → DrainedIs (put life b l c) d
  drains_early d c early h = grind arith

  pub lived_same : (k : Bool) (c : ℕ) → lives (life b) ≡ lives l → k ≡ lives (life c) → k ≡ lives (put life b l c)
  lived_same k c same h = grind arith

  pub carriers_same : (k : Bool) (d : Option ℕ) (c : ℕ) → lives (life b) ≡ true → CarrierIs (life c) k d → CarrierIs (put life b l c) k d
  carriers_same k d c live h = grind arith

  pub nexts_at : (f : ℕ → ℕ) (c : ℕ) → NextIs (f b) l → NextIs (f c) (life c) → NextIs (f c) (put life b l c)
  nexts_at f c is h = at (eqb c b) (eqb-true c b)
    where
      at : (t : Bool) → (t ≡ true → c ≡ b) → NextIs (f c) (cond t l (life c))
      at true e = subst (λ (a : ℕ). NextIs (f a) l) (sym (e refl)) is
      at false e = h

pub entries_early : (f : View) (m : State) (x : Extra) (b : ℕ) (l : Life) → is_early (m.life b) ≡ true
    → Entries f.links f.heads m.head m.loose m.todo m.stage m.blocks m.life x.spot x.rest x.aimed x.hand
    → Entries f.links f.heads m.head m.loose m.todo m.stage m.blocks (put m.life b l) x.spot x.rest x.aimed x.hand
entries_early f m x b l early v = record {
  headed = v.headed;
  loosed = v.loosed;
  marks = v.marks;
  rests = v.rests;
  on = v.on;
  hands = v.hands;
  unspent = v.unspent;
  spots = λ a. spots_early m.life b l x.spot a early (v.spots b) (v.spots a);
}

pub linkage_early : (n : ℕ) (f : View) (m : State) (x : Extra) (b : ℕ) (l : Life) → is_early (m.life b) ≡ true → is_early l ≡ true
    → Linkage n f.batches f.nexts f.firsts f.counts m.holder m.open_batch m.blocks m.stage m.counter m.life x.behind
    → Linkage n f.batches f.nexts f.firsts f.counts m.holder m.open_batch m.blocks m.stage m.counter (put m.life b l) x.behind
linkage_early n f m x b l early then v = record {
  batched = v.batched;
  linked = v.linked;
  ended = v.ended;
  first = λ c. first_early m.life b l (f.firsts c) c m.blocks then (v.first c);
  counted = v.counted;
  zeros = λ c. zeros_early m.life b l (f.counts c) c early (v.zeros c);
}

-- a block is linked or unlinked: no word of the collector is written
life_shows : (n b : ℕ) (l : Life) (f : View) (m : State) (x : Extra) → Shows n f m x → is_early (m.life b) ≡ true → is_early l ≡ true
    → lives (m.life b) ≡ true → lives l ≡ true → NextIs (f.nexts b) l → Shows n f (record m { life = put m.life b l }) x
life_shows n b l f m x v early then live alive is = record {
  entries = entries_early f m x b l early v.entries;
  linkage = linkage_early n f m x b l early then v.linkage;
  lists = record {
    pended = v.lists.pended;
    lefted = v.lists.lefted;
    putted = v.lists.putted;
    deferring = v.lists.deferring;
    nexted = λ c. nexts_at m.life b l f.nexts c is (v.lists.nexted c);
    drains = λ c. drains_early m.life b l (x.drained c) c early (v.lists.drains c);
    lived = λ c. lived_same m.life b l (f.live c) c (cc) (v.lists.lived c);
    carriers = λ c. carriers_same m.life b l (m.carrier c) (f.lists c) c live (v.lists.carriers c);
  };
}

-- what a life says of the link
next_of : (w : ℕ) (l k : Life) → l ≡ k → NextIs w l → NextIs w k
next_of w l k e h = subst (λ (q : Life). NextIs w q) e h

pub linked_written : (n i b o : ℕ) (f : View) (m : State) (x : Extra) → Shows n f m x → m.life b ≡ IsOwned i → Written n i f m x f (linked m b o) x
linked_written n i b o f m x v is =
    let s = life_shows n b IsLinked f m x v (rw is refl) refl (rw is refl) refl (next_of (f.nexts b) (m.life b) (IsOwned i) is (v.lists.nexted b)) in
    record { shows = record { entries = s.entries; linkage = s.linkage; lists = s.lists }; keeps = keeps_like i f m x f refl refl refl refl refl }

pub unlinked_written : (n i b : ℕ) (f : View) (m : State) (x : Extra) → Shows n f m x → m.life b ≡ IsLinked → Written n i f m x f (unlinked m i b) x
unlinked_written n i b f m x v is =
    let s = life_shows n b (IsUnlinked i) f m x v (rw is refl) refl (rw is refl) refl (next_of (f.nexts b) (m.life b) IsLinked is (v.lists.nexted b)) in
    record { shows = record { entries = s.entries; linkage = s.linkage; lists = s.lists }; keeps = keeps_like i f m x f refl refl refl refl refl }

pub begins_defer_written : (n i s b t : ℕ) (f : View) (m : State) (x : Extra) → Shows n f m x → m.life b ≡ IsLinked → Written n i f m x f (begins_defer m i s b t) x
begins_defer_written n i s b t f m x v is =
    let s = life_shows n b (IsDeferring i s t) f m x v (rw is refl) refl (rw is refl) refl tt in
    record { shows = record { entries = s.entries; linkage = s.linkage; lists = s.lists }; keeps = keeps_like i f m x f refl refl refl refl refl }

-- row i is to retire the block, and nothing else
abbrev pub to_retire : Extra → ℕ → ℕ → Extra
to_retire x i b = record x { pends = put x.pends i (link b) }

retire_shows : (n i b : ℕ) (f : View) (m : State) (x : Extra) → Shows n f m x → is_early (m.life b) ≡ true → lives (m.life b) ≡ true
    → f.nexts b ≡ 0 → 0 < b → m.pending i ≡ [] → x.popped i ≡ false
    → Shows n f (record m { life = put m.life b (IsPending i); pending = put m.pending i (b ∷ m.pending i) }) (to_retire x i b)
retire_shows n i b f m x v early live none some empty pop =
    let s = life_shows n b (IsPending i) f m x v early refl live refl tt in
    record {
      entries = s.entries;
      linkage = s.linkage;
      lists = record {
        pended = put_both (λ j w l. Chain 0 f.nexts w (waiting (x.popped j) l)) x.pends m.pending i (link b) (b ∷ m.pending i) (rw (pop, empty) (some, refl, none)) v.lists.pended;
        lefted = v.lists.lefted;
        putted = v.lists.putted;
        deferring = v.lists.deferring;
        nexted = s.lists.nexted;
        drains = s.lists.drains;
        lived = s.lists.lived;
        carriers = s.lists.carriers;
      };
    }

pub begins_retire_written : (n i b holder : ℕ) (f : View) (m : State) (x : Extra) → Shows n f m x → m.life b ≡ IsUnlinked holder → 0 < b → m.pending i ≡ [] → x.popped i ≡ false
    → Written n i f m x f (begins_retire m i b) (to_retire x i b)
begins_retire_written n i b holder f m x v is some empty pop =
    let s = retire_shows n i b f m x v (rw is refl) (rw is refl) (next_of (f.nexts b) (m.life b) (IsUnlinked holder) is (v.lists.nexted b)) some empty pop in
    record {
      shows = record { entries = s.entries; linkage = s.linkage; lists = s.lists };
      keeps = record {
        rows = λ j ne. record { hand = refl; pends = grind arith; popped = refl; lefts = refl; put_first = refl };
        batches = λ j y ne k. record { rest = refl; aimed = refl; behind = refl };
        nexts = λ j a ne k. refl;
        firsts = λ j a ne k. refl;
        links = λ j a ne k. refl;
        spots = λ j a ne k. refl;
        owns = λ j a ne k. record { own = λ d has. refl; lists = refl; drained = refl };
      };
    }
