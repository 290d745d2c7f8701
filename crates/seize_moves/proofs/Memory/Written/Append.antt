-- The write by which a block is retired: it is counted in its slot's open batch.
use Rattle.std.proofs.Common.{◌≡◌, ℕ, suc, ◌+◌, ◌%◌, ◌^◌, ◌<◌, Bool, true, false, cond, eqb, List, [], ◌∷◌, ◌++◌, length, length-append, refl, arith, subst, sym, ap, ◌∙◌, eqb-true}
use Rattle.std.proofs.lemmas.Bool.{eqb-false}
use Rattle.seize_moves.specs.Waiting.Held.{count}
use Rattle.seize_moves.proofs.Waiting.Counts.{count-append}
use Rattle.seize_moves.proofs.Moves.State.Ghost.{put, is_in, State, Stage, Open, Life, IsIn, IsPending}
use Rattle.seize_moves.proofs.Moves.State.Moves.{appended}
use Rattle.seize_moves.proofs.Moves.State.Rule.{Inv, SameUnlessDead}
use Rattle.seize_moves.proofs.Moves.State.Sums.{put_both, put_one}
use Rattle.seize_moves.proofs.Memory.Words.Named.{link}
use Rattle.seize_moves.proofs.Memory.Words.Chains.{Chain, chain_append, waiting, first_or, Marks, marks-append}
use Rattle.seize_moves.proofs.Memory.Words.View.{View}
use Rattle.seize_moves.proofs.Memory.Words.Shows.{Spot, Nowhere, Unspent, SpotLife, Extra, Shows, Written, LinkedIs, EndIs, FirstIs, CountIs, ZeroIs, RestIs, NextIs, is_unspent}
use Rattle.seize_moves.proofs.Memory.Words.Apart.{is_pending_first, boxed_none, counted_apart}

-- the first block of the batch that b is appended to
abbrev pub head_or : ℕ → List ℕ → ℕ
head_or b [] = b
head_or b (c ∷ l) = c

-- the word behind the last block, where b is linked behind it
abbrev pub awaits : ℕ → List ℕ → ℕ
awaits b [] = 0
awaits b (c ∷ l) = link b

-- block b is in batch y, for row i
abbrev pub appended_to : Extra → ℕ → ℕ → ℕ → Extra
appended_to x i b y = record x {
  spot = put x.spot b (Unspent y);
  rest = put x.rest y (x.rest y ++ b ∷ []);
  behind = put x.behind y 0;
  popped = put x.popped i false;
}

linked_more : (nexts : ℕ → ℕ) (b e : ℕ) (bs : List ℕ) → 0 < b → nexts b ≡ 0 → e ≡ awaits b bs → Chain e nexts (first_or e bs) bs
    → Chain 0 nexts (first_or 0 (bs ++ b ∷ [])) (bs ++ b ∷ [])
linked_more nexts b e [] some none is k = (some, refl, none)
linked_more nexts b e (c ∷ l) some none is k =
    chain_append 0 (link b) nexts (link c) (c ∷ l) (b ∷ []) (subst (λ (u : ℕ). Chain u nexts (link c) (c ∷ l)) is k) (some, refl, none)

pub first_more : (b : ℕ) (bs : List ℕ) → first_or 0 (bs ++ b ∷ []) ≡ first_or (link b) bs
first_more b [] = refl
first_more b (c ∷ l) = refl

pub first_some : (b e : ℕ) (bs : List ℕ) → 0 < count b bs → first_or e bs ≡ first_or 0 bs
first_some b e [] h = absurd (omega arith)
first_some b e (c ∷ l) h = refl

first_kept : (w c b y : ℕ) (blocks : ℕ → List ℕ) (l : Life) → count c (blocks y) ≡ is_in y l → FirstIs w blocks l → FirstIs w (put blocks y (blocks y ++ b ∷ [])) l
first_kept w c b y blocks (IsIn z) k h = at (eqb z y) (eqb-true z y) (eqb-false z y)
  where
    at : (t : Bool) → (t ≡ true → z ≡ y) → (t ≡ false → z ≡ y → ⊥) → w ≡ first_or 0 (cond t (blocks y ++ b ∷ []) (blocks z))
    at true e o = let some : 0 < count c (blocks y) = grind (arith, e refl) in cc (h, ap (λ a. first_or 0 (blocks a)) (e refl), first_more b (blocks y), first_some c (link b) (blocks y) some)
    at false e o = h
first_kept w c b y blocks _ k h = tt

unspent_more : (rest : ℕ → List ℕ) (spot : ℕ → Spot) (y b z a : ℕ) → spot b ≡ Nowhere → count a (rest z) ≡ is_unspent z (spot a)
    → count a (put rest y (rest y ++ b ∷ []) z) ≡ is_unspent z (put spot b (Unspent y) a)
unspent_more rest spot y b z a none h = grind (arith, count-append a (rest y) (b ∷ []))

one_more : (a : ℕ) → (a % 2 ^ 64 + 1) % 2 ^ 64 ≡ (a + 1) % 2 ^ 64
one_more a = omega arith

count_more : (counts : ℕ → ℕ) (b s k : ℕ) (bs : List ℕ) → counts b ≡ 0 → CountIs counts (Open s) k bs
    → CountIs (put counts (head_or b bs) ((counts (head_or b bs) + 1) % 2 ^ 64)) (Open s) k (bs ++ b ∷ [])
count_more counts b s k [] none h = grind (arith, none)
count_more counts b s k (c ∷ l) none h = one (length l) (length (l ++ b ∷ [])) (length-append l (b ∷ [])) h
  where
    one : (p q : ℕ) → q ≡ p + 1 → counts c ≡ suc p % 2 ^ 64 → put counts c ((counts c + 1) % 2 ^ 64) c ≡ suc q % 2 ^ 64
    one p q e h = let k = one_more (suc p) in grind arith

-- the first block of the batch is in it, once b is
pub head_in : (b y : ℕ) (bs : List ℕ) (life : ℕ → Life) → ((c : ℕ) → count c bs ≡ is_in y (life c)) → put life b (IsIn y) (head_or b bs) ≡ IsIn y
head_in b y [] life h = grind arith
head_in b y (c ∷ l) life h = grind (arith, h c)

-- and the first block of no other one
head_apart : (b y z : ℕ) (bs : List ℕ) (life : ℕ → Life) → ((c : ℕ) → count c bs ≡ is_in y (life c)) → is_in z (life b) ≡ 0 → (z ≡ y → ⊥)
    → is_in z (life (head_or b bs)) ≡ 0
head_apart b y z [] life h none ne = none
head_apart b y z (c ∷ l) life h none ne = grind (arith, h c)

pub appended_written : (n i s b y : ℕ) (bs : List ℕ) (f : View) (m : State) (x : Extra) → Inv n m → Shows n f m x
    → m.pending i ≡ b ∷ bs → x.popped i ≡ true → m.stage y ≡ Open s → m.holder s ≡ i + 1
    → 0 < b → f.nexts b ≡ 0 → f.firsts b ≡ first_or (link b) (m.blocks y) → x.behind y ≡ awaits b (m.blocks y)
    → Written n i f m x (record f { counts = put f.counts (head_or b (m.blocks y)) ((f.counts (head_or b (m.blocks y)) + 1) % 2 ^ 64) }) (appended m i b bs y) (appended_to x i b y)
appended_written n i s b y bs f m x inv v is pop op hold some nb fb eb =
    let l : m.life b ≡ IsPending i = is_pending_first m.stage m.blocks m.left m.pending m.puts m.deferred m.carrier m.life x.popped i b bs inv.places is in
    let box : (c : ℕ) → count c (m.blocks y) ≡ is_in y (m.life c) = (λ c. boxed (m.stage y) (count c (m.blocks y)) (is_in y (m.life c)) op (inv.places.boxed y c)) in
    let spot : x.spot b ≡ Nowhere = nowhere (x.spot b) (m.life b) l (v.entries.spots b) in
    record {
      shows = record {
        entries = record {
          headed = v.entries.headed;
          loosed = v.entries.loosed;
          marks = put_one (λ z r. Marks f.links (waiting (x.aimed z) r) (waiting (x.aimed z) (m.todo z))) x.rest y (x.rest y ++ b ∷ [])
              (marked (x.aimed y) (x.rest y) (m.todo y) (aimed (m.stage y) op (v.entries.rests y)) (v.entries.marks y)) v.entries.marks;
          rests = λ z. grind (arith, v.entries.rests z);
          on = λ t z a. grind (arith, v.entries.on t z a);
          hands = λ j z a. grind (arith, v.entries.hands j z a);
          unspent = λ z a. unspent_more x.rest x.spot y b z a spot (v.entries.unspent z a);
          spots = λ a. grind (arith, v.entries.spots a);
        };
        linkage = record {
          batched = λ t lt. grind (arith, v.linkage.batched t lt, inv.batches.mine t lt);
          linked = put_both (λ z e r. LinkedIs f.nexts e (m.stage z) r) x.behind m.blocks y 0 (m.blocks y ++ b ∷ [])
              (rw op (linked_more f.nexts b (x.behind y) (m.blocks y) some nb eb (rw op at (v.linkage.linked y)))) v.linkage.linked;
          ended = put_one (λ z e. EndIs m.holder e (m.stage z)) x.behind y 0 (grind arith) v.linkage.ended;
          first = λ c. first c (m.life c) refl box fb (v.linkage.first c);
          counted = λ z. counted z box l (v.linkage.counted z) (v.linkage.zeros b);
          zeros = λ c. zeros c (head_in b y (m.blocks y) m.life box) (v.linkage.zeros c);
        };
        lists = record {
          pended = put_both (λ j p r. Chain 0 f.nexts (x.pends j) (waiting p r)) x.popped m.pending i false bs (rw (is, pop) at (v.lists.pended i)) v.lists.pended;
          lefted = v.lists.lefted;
          putted = v.lists.putted;
          deferring = v.lists.deferring;
          nexted = λ c. nexts c l (v.lists.nexted c);
          drains = λ c. grind (arith, v.lists.drains c);
          lived = λ c. grind (arith, v.lists.lived c);
          carriers = λ c. grind (arith, v.lists.carriers c);
        };
      };
      keeps = record {
        rows = λ j ne. record { hand = refl; pends = refl; popped = grind arith; lefts = refl; put_first = refl };
        batches = λ j z ne k. record { rest = grind arith; aimed = refl; behind = grind arith };
        nexts = λ j c ne k. refl;
        firsts = λ j c ne k. refl;
        links = λ j c ne k. refl;
        spots = λ j c ne k. grind (arith, spot);
        owns = λ j c ne k. record { own = λ d has. refl; lists = refl; drained = refl };
      };
    }
  where
    boxed : (g : Stage) (a b : ℕ) → g ≡ Open s → SameUnlessDead g a b → a ≡ b
    boxed g a b e h = grind arith

    nowhere : (p : Spot) (l : Life) → l ≡ IsPending i → SpotLife p l → p ≡ Nowhere
    nowhere p l e h = grind arith

    aimed : (g : Stage) → g ≡ Open s → RestIs g (x.rest y) (x.aimed y) (m.blocks y) → x.aimed y ≡ false
    aimed g e h = grind arith

    marked : (a : Bool) (r t : List ℕ) → a ≡ false → Marks f.links (waiting a r) (waiting a t) → Marks f.links (waiting a (r ++ b ∷ [])) (waiting a t)
    marked false r t e h = marks-append f.links r (b ∷ []) t h
    marked true r t e h = absurd (cc)

    first : (c : ℕ) (l : Life) → m.life c ≡ l → ((c : ℕ) → count c (m.blocks y) ≡ is_in y (m.life c)) → f.firsts b ≡ first_or (link b) (m.blocks y)
        → FirstIs (f.firsts c) m.blocks l → FirstIs (f.firsts c) (put m.blocks y (m.blocks y ++ b ∷ [])) (cond (eqb c b) (IsIn y) l)
    first c l e box fb h = at (eqb c b) (eqb-true c b)
      where
        at : (t : Bool) → (t ≡ true → c ≡ b) → FirstIs (f.firsts c) (put m.blocks y (m.blocks y ++ b ∷ [])) (cond t (IsIn y) l)
        at true is = grind (arith, is refl, fb, first_more b (m.blocks y))
        at false is = first_kept (f.firsts c) c b y m.blocks l (box c ∙ ap (is_in y) e) h

    counted : (z : ℕ) → ((c : ℕ) → count c (m.blocks y) ≡ is_in y (m.life c)) → m.life b ≡ IsPending i → CountIs f.counts (m.stage z) (m.counter z) (m.blocks z)
        → ZeroIs (f.counts b) (m.life b)
        → CountIs (put f.counts (head_or b (m.blocks y)) ((f.counts (head_or b (m.blocks y)) + 1) % 2 ^ 64)) (m.stage z) (m.counter z) (put m.blocks y (m.blocks y ++ b ∷ []) z)
    counted z box l h zero_b = at (eqb z y) (eqb-true z y) (eqb-false z y)
      where
        at : (t : Bool) → (t ≡ true → z ≡ y) → (t ≡ false → z ≡ y → ⊥)
            → CountIs (put f.counts (head_or b (m.blocks y)) ((f.counts (head_or b (m.blocks y)) + 1) % 2 ^ 64)) (m.stage z) (m.counter z) (cond t (m.blocks y ++ b ∷ []) (m.blocks z))
        at true e o =
            subst (λ (a : ℕ). CountIs (put f.counts (head_or b (m.blocks y)) ((f.counts (head_or b (m.blocks y)) + 1) % 2 ^ 64)) (m.stage a) (m.counter a) (m.blocks y ++ b ∷ [])) (sym (e refl))
            (rw op (count_more f.counts b s (m.counter y) (m.blocks y) (rw l at zero_b) (rw op at (v.linkage.counted y))))
        at false e o = counted_apart f.counts (head_or b (m.blocks y)) ((f.counts (head_or b (m.blocks y)) + 1) % 2 ^ 64) (m.counter z) (m.stage z) (m.blocks z)
            (boxed_none (m.stage z) (m.blocks z) (head_or b (m.blocks y)) z (m.life (head_or b (m.blocks y))) (inv.places.boxed z (head_or b (m.blocks y)))
            (head_apart b y z (m.blocks y) m.life box (grind arith) (o refl))) h

    nexts : (c : ℕ) → m.life b ≡ IsPending i → NextIs (f.nexts c) (m.life c) → NextIs (f.nexts c) (put m.life b (IsIn y) c)
    nexts c l h = grind arith

    zeros : (c : ℕ) → put m.life b (IsIn y) (head_or b (m.blocks y)) ≡ IsIn y → ZeroIs (f.counts c) (m.life c)
        → ZeroIs (put f.counts (head_or b (m.blocks y)) ((f.counts (head_or b (m.blocks y)) + 1) % 2 ^ 64) c) (put m.life b (IsIn y) c)
    zeros c hd h = at (head_or b (m.blocks y)) hd
      where
        at : (o : ℕ) → put m.life b (IsIn y) o ≡ IsIn y → ZeroIs (put f.counts o ((f.counts o + 1) % 2 ^ 64) c) (put m.life b (IsIn y) c)
        at o hd = by (eqb c b) refl (eqb c o) (eqb-true c o)
          where
            by : (p : Bool) → eqb c b ≡ p → (q : Bool) → (q ≡ true → c ≡ o) → ZeroIs (cond q ((f.counts o + 1) % 2 ^ 64) (f.counts c)) (cond p (IsIn y) (m.life c))
            by true e q same = tt
            by false e true same =
                let here = subst (λ (a : ℕ). put m.life b (IsIn y) a ≡ IsIn y) (sym (same refl)) hd in
                subst (λ (l : Life). ZeroIs ((f.counts o + 1) % 2 ^ 64) l) (sym (subst (λ (t : Bool). cond t (IsIn y) (m.life c) ≡ IsIn y) e here)) tt
            by false e false same = h
