-- Where a settling row tries no batch any more, the open batch of its slot is short.
use Rattle.std.specs.Prelude.{Option, Some, if◌then◌else◌, nat_lt, ◌/◌, ◌==◌}
use Rattle.std.proofs.Common.{◌≡◌, ℕ, ◌+◌, ◌-◌, ◌%◌, ◌^◌, ◌<◌, ◌≤◌, Bool, true, false, cond, eqb, List, [], ◌∷◌, ◌++◌, length, refl, arith, ap, sym, subst, ◌∙◌, eqb-true, ltb-true}
use Rattle.std.proofs.lemmas.Bool.{eqb-false, eq-eqb}
use Rattle.seize_moves.specs.Given.SeizeWordsDeclared.at.At.TheVariants.{Entry, Slot}
use Rattle.seize_moves.specs.Given.SeizeWordsOp.{Found}
use Rattle.seize_moves.specs.Given.SeizeWordsMem.{Mem, Took, value_at, word_at, with_word}
use Rattle.seize_moves.specs.Given.SeizeWordsPlan.{Steps, Ends}
use Rattle.seize_moves.proofs.Given.SeizeWordsOneOwner.Operations.{added, loaded, stored}
use Rattle.seize_moves.specs.Given.SeizeDeclared.states.TheConstants.{COUNT, HEAD, NEXT, LINK, NEVER, ACTIVE, LAST_SLOT}
use Rattle.seize_moves.specs.Given.SeizeDeclared.rows.settle.Settle.{Settle}
use Rattle.seize_moves.specs.Given.SeizeDeclared.rows.settle.Settling.{Settling}
use Rattle.seize_moves.specs.Given.SeizeDeclared.rows.settle.Settling.TheVariants as at
use Rattle.seize_moves.specs.Given.SeizeDeclared.rows.settle.Settled.{Settled}
use Rattle.seize_moves.specs.Given.SeizeDeclared.rows.settle.Settled.TheVariants.{Goes}
use Rattle.seize_moves.specs.Given.SeizeSettle.{plan_at, scanning, onward, standing, behind, closed, to, goes, counted, scanned, marked_next}
use Rattle.seize_moves.specs.Given.SeizeLaw.{Effect}
use Rattle.seize_moves.specs.Given.SeizeWorld.{Row, settle_effects}
use Rattle.seize_moves.proofs.Moves.State.Ghost.{State, is_never}
use Rattle.seize_moves.proofs.Moves.State.Rule.{Inv, retirals, open_length}
use Rattle.seize_moves.proofs.Memory.Words.Named.{link, word_found}
use Rattle.seize_moves.proofs.Memory.Words.Chains.{first_or}
use Rattle.seize_moves.proofs.Memory.Words.View.{view}
use Rattle.seize_moves.proofs.Memory.Words.Shows.{Extra, Shows}
use Rattle.seize_moves.proofs.Memory.Written.Append.{head_or}
use Rattle.seize_moves.proofs.Memory.Words.There.{live_pos}
use Rattle.seize_rule.proofs.Points.Told.{part}
use Rattle.seize_rule.proofs.Points.Stepped.{Stepped}
use Rattle.seize_rule.proofs.Points.Known.{open_blocks, Counts, Scans, Fits, FitsAt, bare}
use Rattle.seize_rule.proofs.Points.Retire.{of_link, none_open}
use Rattle.seize_rule.proofs.Points.Counts.{head_link, count_is as batch_count}
use Rattle.seize_rule.proofs.Points.Try.{taken_word}
use Rattle.seize_rule.proofs.Points.Mark.{open_lives}
use Rattle.seize_rule.proofs.Rows.Short.{is_trying, settle_tries, tries_on, IsShort, StillShort, short_by, no_longer, other_no_longer, one_longer}

behind_trying : (slot block marks : ℕ) → is_trying (behind slot block marks) ≡ true
behind_trying slot block marks = by (nat_lt slot LAST_SLOT)
  where
    by : (t : Bool) → is_trying (if t then at.Scans (slot + 1) block marks else at.Closes marks) ≡ true
    by true = refl
    by false = refl

length_none : (us : List ℕ) → length (us ++ []) ≡ length us
length_none [] = refl
length_none (u ∷ us) = let k = length_none us in omega (arith, k)

module _ {T : Type 0} {size : ℕ} (defers : T → Option ℕ) (n i : ℕ) (mem mem2 : Mem T) (m : State) (x : Extra) (c : Settle) (end : Settle × Settled T)
    (inv : Inv n m) (v : Shows n (view defers mem) m x) (last : n ≡ LAST_SLOT + 1) (sized : c.batch_size ≡ size) (lt : c.slot < n) where
  abbrev Steps_to : List Effect → Type 0
  Steps_to effects = Stepped n i c (part c) (view defers mem) m x (view defers mem2) effects end.0

  not_trying : (d : Settle) → end ≡ (d, Goes) → is_trying d.stands ≡ true → is_trying end.0.stands ≡ false → ⊥
  not_trying d e t f = absurd (let k : is_trying end.0.stands ≡ true = ap (λ (q : Settle × Settled T). is_trying q.0.stands) e ∙ t in cc (k, f))

  -- no batch has grown
  same_short : (effects : List Effect) (st : Steps_to effects) → retirals (effects ++ m.log) ≡ retirals m.log → IsShort size m c.slot → IsShort size st.m2 c.slot
  same_short effects st same h =
      short_by n i c.slot size m st.m2 st.moved.keeps c.slot (no_longer n i c.slot m st.m2 st.moved.keeps c.slot lt (ap retirals st.logged ∙ same)) h

  below : (u : ℕ) → is_never (m.head u) ≡ false → u < n
  below u h = grind (arith, inv.slots.outside u)

  -- the block that was retired leaves it shorter than a batch that is tried
  counts_short : (block : ℕ) → Counts n i (view defers mem) m x (bare c) block → Steps Took value_at mem (plan_at defers c (at.Counts block)) mem2 end
      → (st : Steps_to (settle_effects c (at.Counts block))) → is_trying end.0.stands ≡ false → IsShort size m c.slot → IsShort size st.m2 c.slot
  counts_short block r s st calm h = by (value_at (with_word mem (Entry (c.first / 2048) COUNT) ((l.0 + 1) % 2 ^ 64))) (nat_lt ((l.0 + 1) % 2 ^ 64) c.batch_size) refl l.3
    where
      l : (w : ℕ) × (word_at mem (Entry (c.first / 2048) COUNT) ≡ Some w) × (mem2 ≡ with_word mem (Entry (c.first / 2048) COUNT) ((w + 1) % 2 ^ 64))
          × Ends (value_at (with_word mem (Entry (c.first / 2048) COUNT) ((w + 1) % 2 ^ 64))) (counted c block (Found w)) end
      l = added mem (counted c block) (Entry (c.first / 2048) COUNT) 1 mem2 end s

      count_is : l.0 ≡ open_length m c.slot % 2 ^ 64
      count_is =
          let a : c.first / 2048 ≡ head_or r.b (open_blocks m c) = of_link c.first (head_or r.b (open_blocks m c)) (r.first ∙ head_link r.b (open_blocks m c)) in
          let found : word_at mem (Entry (head_or r.b (open_blocks m c)) COUNT) ≡ Some l.0 = ap (λ u. word_at mem (Entry u COUNT)) (sym a) ∙ l.1 in
          sym (word_found mem (Entry (head_or r.b (open_blocks m c)) COUNT) l.0 found)
          ∙ batch_count n i (view defers mem) m x c inv v block r

      short : (l.0 + 1) % 2 ^ 64 < c.batch_size → IsShort size st.m2 c.slot
      short less = record {
        below = λ limit word pos big taken.
            let old = h.below (2 ^ 64 - 1) word (omega arith) (omega (arith, word)) (λ u e. let k = below u e in omega (arith, k, last)) in
            let more = one_longer n i c.slot m st.m2 st.moved.keeps c.slot lt (ap retirals st.logged) in
            few limit (open_length m c.slot) (open_length st.m2 c.slot) l.0 big old more count_is less;
        untaken = λ e. absurd (let k = st.moved.keeps.taken_slots c.slot r.putting.common.taken in cc (k, e));
      }
        where
          few : (limit a b w : ℕ) → size ≤ limit → a < 2 ^ 64 - 1 → b ≤ a + 1 → w ≡ a % 2 ^ 64 → (w + 1) % 2 ^ 64 < c.batch_size → b < limit
          few limit a b w big old more is less = omega (arith, big, old, more, is, less, sized)

      by : (shown : ℕ → Option T) (t : Bool) → nat_lt ((l.0 + 1) % 2 ^ 64) c.batch_size ≡ t
          → Ends shown (if t then to {T = T} (onward (record c { last = block })) else to (scanning (record c { last = block }))) end → IsShort size st.m2 c.slot
      by shown true e f = short (ltb-true ((l.0 + 1) % 2 ^ 64) c.batch_size e)
      by shown false e f = absurd (not_trying (scanning (record c { last = block })) f refl calm)

  -- a try that is given up has found as many active slots below this one as there are blocks
  given_up_short : (slot block marks : ℕ) → Scans n i m x (bare c) slot block marks → block ≡ 0 → is_never (m.head slot) ≡ false → IsShort size m c.slot
  given_up_short slot block marks r none taken = record {
    below = λ limit word pos big all. let k = all slot taken in let e = at_most r.vs refl in omega (arith, k, e);
    untaken = λ e. absurd (let k = r.tries.common.taken in cc (k, e));
  }
    where
      at_most : (vs : List ℕ) → r.vs ≡ vs → open_length m c.slot ≤ slot
      at_most [] e =
          let a : open_length m c.slot ≡ length r.us = ap length r.tries.blocks ∙ ap (λ (q : List ℕ). length (r.us ++ q)) e ∙ length_none r.us in
          let b = r.used in
          let k = r.tries.marks_le in
          omega (arith, a, b, k)
      at_most (d ∷ vs) e =
          let blocks : open_blocks m c ≡ r.us ++ d ∷ vs = r.tries.blocks ∙ ap (λ (q : List ℕ). r.us ++ q) e in
          let pos : 0 < d = live_pos mem d (open_lives n i (view defers mem) m x c inv v last lt r.us vs d blocks) in
          let is : block ≡ link d = r.block_is ∙ ap (first_or 0) e in
          absurd (omega (arith, pos, is, none))

  scans_short : (slot block marks : ℕ) → Scans n i m x (bare c) slot block marks → Steps Took value_at mem (plan_at defers c (at.Scans slot block marks)) mem2 end
      → (st : Steps_to []) → is_trying end.0.stands ≡ false → IsShort size st.m2 c.slot
  scans_short slot block marks r s st calm = never_at (l.0 == NEVER) refl l.3
    where
      l : (w : ℕ) × (word_at mem (Slot slot HEAD) ≡ Some w) × (mem2 ≡ mem) × Ends (value_at mem) (scanned c slot block marks (Found w)) end
      l = loaded mem (scanned c slot block marks) (Slot slot HEAD) mem2 end s

      taken : (l.0 ≡ 0 → ⊥) → is_never (m.head slot) ≡ false
      taken ne = taken_word (view defers mem).links ((view defers mem).heads slot) (m.head slot) (v.entries.headed slot) (λ k. ne (sym (word_found mem (Slot slot HEAD) l.0 l.1) ∙ k))

      blocks_at : (l.0 ≡ 0 → ⊥) → (t : Bool) → (block == 0) ≡ t → Ends (value_at mem) (if t then to {T = T} (onward c) else goes c (at.Marks slot block marks)) end → IsShort size st.m2 c.slot
      blocks_at ne true z e = same_short [] st refl (given_up_short slot block marks r (eqb-true block 0 z) (taken ne))
      blocks_at ne false z e = absurd (not_trying (standing c (at.Marks slot block marks)) e refl calm)

      active_at : (l.0 ≡ 0 → ⊥) → (t : Bool)
          → Ends (value_at mem) (if t then goes {T = T} c (behind slot block marks) else (if block == 0 then to (onward c) else goes c (at.Marks slot block marks))) end → IsShort size st.m2 c.slot
      active_at ne true e = absurd (not_trying (standing c (behind slot block marks)) e (behind_trying slot block marks) calm)
      active_at ne false e = blocks_at ne (block == 0) refl e

      never_at : (t : Bool) → (l.0 == NEVER) ≡ t
          → Ends (value_at mem) (if t then goes {T = T} c (at.Closes marks) else (if nat_lt l.0 ACTIVE then goes c (behind slot block marks) else (if block == 0 then to (onward c) else goes c (at.Marks slot block marks)))) end
          → IsShort size st.m2 c.slot
      never_at true z e = absurd (not_trying (standing c (at.Closes marks)) e refl calm)
      never_at false z e = active_at (eqb-false l.0 0 z) (nat_lt l.0 ACTIVE) e

  -- a batch that is closed leaves an empty one
  closes_short : (marks : ℕ) → Steps Took value_at mem (plan_at defers c (at.Closes marks)) mem2 end → (st : Steps_to []) → IsShort size st.m2 c.slot
  closes_short marks s st =
      let l = stored mem (λ out. to (closed c marks)) (Entry (c.first / 2048) COUNT) 0 mem2 end s in
      let empty = by (marks == 0) (subst (λ (q : Settle × Settled T). Fits n i (view defers mem2) st.m2 st.x2 q.0) l.1 st.fits) in
      record {
        below = λ limit word pos big taken. let k : open_length st.m2 c.slot ≡ 0 = ap length empty in omega (arith, k, pos);
        untaken = λ e. ap length empty;
      }
    where
      by : (t : Bool) → Fits n i (view defers mem2) st.m2 st.x2 (if t then record c { last = 0; stands = at.Sums 0 } else record c { last = 0; stands = at.Reads c.first marks 0 })
          → open_blocks st.m2 c ≡ []
      by true f = none_open n i (view defers mem2) st.m2 st.x2 (record c { last = 0 }) st.moved.inv st.written.shows lt f.shuts.batch.last refl
      by false f = none_open n i (view defers mem2) st.m2 st.x2 (record c { last = 0 }) st.moved.inv st.written.shows lt f.shuts.batch.last refl

  pub settle_short : (p : Settling) → FitsAt n i (view defers mem) m x (bare c) p → Steps Took value_at mem (plan_at defers c p) mem2 end → (st : Steps_to (settle_effects c p))
      → is_trying end.0.stands ≡ false → (is_trying p ≡ false → IsShort size m c.slot) → IsShort size st.m2 c.slot
  settle_short at.Sees r s st calm h = same_short [] st refl (h refl)
  settle_short at.Holds r s st calm h = same_short [] st refl (h refl)
  settle_short at.Pops r s st calm h = same_short [] st refl (h refl)
  settle_short (at.Firsts block) r s st calm h = same_short [] st refl (h refl)
  settle_short (at.Batches block) r s st calm h = same_short [] st refl (h refl)
  settle_short (at.Ends block) r s st calm h = same_short [] st refl (h refl)
  settle_short (at.Appends block) r s st calm h = same_short [] st refl (h refl)
  settle_short (at.Counts block) r s st calm h = counts_short block r s st calm (h refl)
  settle_short (at.Scans slot block marks) r s st calm h = scans_short slot block marks r s st calm
  settle_short (at.Marks slot block marks) r s st calm h =
      let l = stored mem (λ out. goes c (at.Marked slot block marks)) (Entry (block / 2048) LINK) slot mem2 end s in
      absurd (not_trying (standing c (at.Marked slot block marks)) l.1 refl calm)
  settle_short (at.Marked slot block marks) r s st calm h =
      let l = loaded mem (marked_next c slot marks) (Entry (block / 2048) NEXT) mem2 end s in
      absurd (not_trying (standing c (behind slot l.0 ((marks + 1) % 2 ^ 64))) l.3 (behind_trying slot l.0 ((marks + 1) % 2 ^ 64)) calm)
  settle_short (at.Closes marks) r s st calm h = closes_short marks s st
  settle_short (at.Reads block left pushed) r s st calm h = same_short [] st refl (h refl)
  settle_short (at.Links block left pushed slot head) r s st calm h = same_short [] st refl (h refl)
  settle_short (at.Pushes block left pushed slot head) r s st calm h = same_short [] st refl (h refl)
  settle_short (at.Pushed block left pushed) r s st calm h = same_short [] st refl (h refl)
  settle_short (at.Sums pushed) r s st calm h = same_short [] st refl (h refl)
  settle_short at.Nexts r s st calm h = same_short [] st refl (h refl)
  settle_short (at.Drains next word) r s st calm h = same_short [] st refl (h refl)
  settle_short (at.Joins next more) r s st calm h = same_short [] st refl (h refl)
  settle_short (at.Tails next) r s st calm h = same_short [] st refl (h refl)
  settle_short (at.Takes next) r s st calm h = same_short (settle_effects c (at.Takes next)) st refl (h refl)
  settle_short at.Puts r s st calm h = same_short [] st refl (h refl)
  settle_short at.Lists r s st calm h = same_short [] st refl (h refl)
  settle_short (at.Owns next) r s st calm h = same_short [] st refl (h refl)
  settle_short (at.Downs next batch) r s st calm h = same_short [] st refl (h refl)
  settle_short at.Gives r s st calm h = same_short [] st refl (h refl)
  settle_short at.Over r s st calm h = same_short [] st refl (h refl)

module _ {T : Type 0} {size : ℕ} (defers : T → Option ℕ) (n i : ℕ) (mem mem2 : Mem T) (m : State) (x : Extra) (c : Settle) (end : Settle × Settled T)
    (inv : Inv n m) (v : Shows n (view defers mem) m x) (last : n ≡ LAST_SLOT + 1) (sized : c.batch_size ≡ size) where
  -- and so are the others
  pub settle_still : FitsAt n i (view defers mem) m x (bare c) c.stands → Steps Took value_at mem (plan_at defers c c.stands) mem2 end → (st : Stepped n i c (part c) (view defers mem) m x (view defers mem2) (settle_effects c c.stands) end.0)
      → (row row2 : Row) → ((t : ℕ) → tries_on row t ≡ settle_tries c t) → ((t : ℕ) → tries_on row2 t ≡ settle_tries end.0 t) → StillShort n size m st.m2 row row2
  settle_still r s st row row2 is is2 t l e h = by (eqb t c.slot) (eqb-true t c.slot) refl
    where
      by : (z : Bool) → (z ≡ true → t ≡ c.slot) → eqb t c.slot ≡ z → IsShort size st.m2 t
      by false a b = short_by n i c.slot size m st.m2 st.moved.keeps t (other_no_longer n i c.slot m st.m2 st.moved.keeps t l b) (h (is t ∙ ap (λ (q : Bool). cond q (is_trying c.stands) false) b))
      by true a b = subst (λ (u : ℕ). IsShort size st.m2 u) (sym (a refl)) (settle_short defers n i mem mem2 m x c end inv v last sized (subst (λ (u : ℕ). u < n) (a refl) l) c.stands r s st calm before)
        where
          calm : is_trying end.0.stands ≡ false
          calm =
              let k : eqb t end.0.slot ≡ true = eq-eqb t end.0.slot (a refl ∙ sym st.slot_is) in
              sym (ap (λ (q : Bool). cond q (is_trying end.0.stands) false) k) ∙ sym (is2 t) ∙ e

          before : is_trying c.stands ≡ false → IsShort size m c.slot
          before f = subst (λ (u : ℕ). IsShort size m u) (a refl) (h (is t ∙ ap (λ (q : Bool). cond q (is_trying c.stands) false) b ∙ f))
