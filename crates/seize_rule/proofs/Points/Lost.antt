-- What a push knows of the list that it has lost exchanges on: the list is longer each time, and never as long as there are numbers of blocks.
use Rattle.std.proofs.Common.{◌≡◌, ℕ, ◌+◌, ◌^◌, ◌<◌, ◌≤◌, Bool, true, false, cond, eqb, List, [], ◌∷◌, ◌++◌, length, append_assoc, length-append, refl, arith, ap, sym, subst, ◌∙◌, eqb-true}
use Rattle.std.proofs.lemmas.List.{append-nil}
use Rattle.seize_moves.specs.Given.SeizeDeclared.rows.settle.Settle.{Settle}
use Rattle.seize_moves.specs.Waiting.Held.{count, same}
use Rattle.seize_moves.proofs.Moves.State.Ghost.{Entry, Head, Active, State, list_of}
use Rattle.seize_moves.proofs.Moves.State.Rule.{Grows}
use Rattle.seize_moves.proofs.Memory.Words.Chains.{Chain, blocks_of, chain_begin, first_or}
use Rattle.seize_moves.proofs.Memory.Words.Sums.{blocks_long, count_stands, list_below}
use Rattle.seize_moves.proofs.Memory.Words.View.{View}
use Rattle.seize_moves.proofs.Memory.Words.Shows.{Spot, Nowhere, Unspent, On, InHands, SpotLife, HeadIs, Extra, Shows, lives, stands, is_on}
use Rattle.seize_rule.proofs.Points.Known.{Behind, Shuts, Reads}

-- before the first exchange the block is to follow no entry
pub behind_none : (es : List Entry) → Behind es 3 0
behind_none es = record { front = es; back = []; split = sym (append-nil es); from = refl; many = omega arith }

-- what stands from the word on stays there
pub behind_grown : (es es2 : List Entry) (head k : ℕ) → Grows es es2 → Behind es head k → Behind es2 head k
behind_grown es es2 head k g b = record {
  front = g.0 ++ b.front;
  back = b.back;
  split = g.1 ∙ ap (λ (l : List Entry). g.0 ++ l) b.split ∙ sym (append_assoc g.0 b.front b.back);
  from = b.from;
  many = b.many;
}

-- where another word is found, a further entry stands before
pub behind_lost : (links : ℕ → ℕ) (es : List Entry) (head k w : ℕ) → Chain 3 links w (blocks_of es) → (w ≡ head → ⊥) → Behind es head k → Behind es w (k + 1)
behind_lost links es head k w chain other b = record { front = []; back = es; split = refl; from = sym begin; many = longer b.front b.split }
  where
    begin : w ≡ first_or 3 (blocks_of es)
    begin = chain_begin 3 links w (blocks_of es) chain

    longer : (front : List Entry) → es ≡ front ++ b.back → k + 1 ≤ length es
    longer [] e = absurd (other (begin ∙ ap (λ (l : List Entry). first_or 3 (blocks_of l)) e ∙ b.from))
    longer (f ∷ fs) e = let a = ap length e in let l = length-append (f ∷ fs) b.back in let m = b.many in omega (arith, a, l, m)

-- a list through words has no block 0
chain_some : (e : ℕ) (next : ℕ → ℕ) (w : ℕ) (l : List ℕ) → Chain e next w l → count 0 l ≡ 0
chain_some e next w [] h = refl
chain_some e next w (c ∷ l) h = let ih = chain_some e next (next c) l h.2 in let p = h.0 in grind (arith, ih, p)

module _ (n : ℕ) (f : View) (m : State) (x : Extra) (v : Shows n f m x) (few : (b : ℕ) → f.live b ≡ true → b < 2 ^ 53) (t : ℕ) (es : List Entry) (is : m.head t ≡ Active es) where
  abbrev blocks : List ℕ
  blocks = blocks_of es

  -- each block on the list is one of the batch's that has an entry there, once
  once : (c : ℕ) → (count c blocks ≤ 1) × (0 < count c blocks → lives (m.life c) ≡ true)
  once c = one (x.spot c) (λ b. sym (ap (λ (h : Head). stands c b (list_of h)) is) ∙ v.entries.on t b c) (v.entries.spots c)
    where
      none : ((b : ℕ) → stands c b es ≡ 0) → (count c blocks ≤ 1) × (0 < count c blocks → lives (m.life c) ≡ true)
      none h = let k = count_stands c 0 es (λ b. let a = h b in omega (arith, a)) in let a = h 0 in (omega (arith, k, a), λ p. absurd (omega (arith, k, a, p)))

      same_le : (q : Bool) (b y : ℕ) → cond q (same b y) 0 ≤ same b y
      same_le true b y = omega arith
      same_le false b y = omega arith

      same_one : (b y : ℕ) → same b y ≤ 1
      same_one b y = grind arith

      one : (p : Spot) → ((b : ℕ) → stands c b es ≡ is_on t b p) → SpotLife p (m.life c) → (count c blocks ≤ 1) × (0 < count c blocks → lives (m.life c) ≡ true)
      one Nowhere h s = none h
      one (Unspent y) h s = none h
      one (InHands j y) h s = none h
      one (On u y) h s =
          let k = count_stands c y es (λ b. let a = h b in let d = same_le (eqb t u) b y in omega (arith, a, d)) in
          let a = h y in
          let d = same_le (eqb t u) y y in
          let z = same_one y y in
          (omega (arith, k, a, d, z), λ p. ap lives s)

  chain : Chain 3 f.links (f.heads t) blocks
  chain = subst (λ (h : Head). HeadIs f.links (f.heads t) h) is (v.entries.headed t)

  -- so with the number of no block the list has no more than there are numbers
  pub list_short : length es < 2 ^ 53
  list_short =
      let k = list_below (0 ∷ blocks) (2 ^ 53) each below in
      let l = blocks_long es in
      omega (arith, k, l)
    where
      each : (c : ℕ) → count c (0 ∷ blocks) ≤ 1
      each c = by (eqb c 0) refl
        where
          by : (q : Bool) → eqb c 0 ≡ q → count c (0 ∷ blocks) ≤ 1
          by true e = let z = eqb-true c 0 e in let k = ap (λ (a : ℕ). count a blocks) z in let some = chain_some 3 f.links (f.heads t) blocks chain in grind (arith, e, k, some)
          by false e = let k = (once c).0 in grind (arith, e, k)

      below : (c : ℕ) → 0 < count c (0 ∷ blocks) → c < 2 ^ 53
      below c h = by (eqb c 0) refl
        where
          by : (q : Bool) → eqb c 0 ≡ q → c < 2 ^ 53
          by true e = let z = eqb-true c 0 e in omega (arith, z)
          by false e = few c (v.lists.lived c ∙ (once c).1 (grind (arith, e, h)))

-- How often a push has lost changes nothing of what else it knows.
module _ (n i : ℕ) (m : State) (x : Extra) where
  pub shuts_lost : (c : Settle) (k y : ℕ) (rs ts : List ℕ) (aimed : Bool) (left pushed : ℕ) → Shuts n i m x c y rs ts aimed left pushed → Shuts n i m x (record c { lost = k }) y rs ts aimed left pushed
  shuts_lost c k y rs ts aimed left pushed s = record {
    common = s.common;
    popped = s.popped;
    closing = s.closing;
    put = s.put;
    put_last = s.put_last;
    batch = s.batch;
    holds = s.holds;
    once = s.once;
    none_left = s.none_left;
    stage = s.stage;
    first = s.first;
    rest_is = s.rest_is;
    aimed_is = s.aimed_is;
    todo = s.todo;
    done = s.done;
    left_is = s.left_is;
    active = s.active;
    some = s.some;
  }

  abbrev pub reads_lost : (c : Settle) (k block left pushed : ℕ) (aimed : Bool) → Reads n i m x c block left pushed aimed → Reads n i m x (record c { lost = k }) block left pushed aimed
  reads_lost c k block left pushed aimed r = record {
    y = r.y;
    before = r.before;
    d = r.d;
    rs = r.rs;
    t = r.t;
    ts = r.ts;
    shuts = shuts_lost c k r.y (r.d ∷ r.rs) (r.t ∷ r.ts) aimed left pushed r.shuts;
    blocks = r.blocks;
    block_is = r.block_is;
    room = r.room;
  }
