-- What a row that settles knows at each of its points of the words of its lists, whether the first block to be retired is on its way into the batch, and which
-- batch it closes.
use Rattle.std.specs.Prelude.{not}
use Rattle.std.proofs.Common.{◌≡◌, ℕ, ◌+◌, ◌<◌, Bool, true, false, eqb, List, [], ◌∷◌, refl, arith, ap, sym, ◌∙◌}
use Rattle.seize.specs.declared.rows.settle.Settle.{Settle}
use Rattle.seize.specs.declared.rows.settle.Settling.{Settling}
use Rattle.seize.specs.declared.rows.settle.Settling.TheVariants as at
use Rattle.seize_model.specs.Given.SeizeWaitingHeld.{count}
use Rattle.seize_model.proofs.Given.SeizeMovesState.Ghost.{State, Life, Closing, is_pending}
use Rattle.seize_model.proofs.Given.SeizeMemoryWords.Named.{link}
use Rattle.seize_model.proofs.Given.SeizeMemoryWords.Chains.{first_or, waiting}
use Rattle.seize_model.proofs.Given.SeizeMemoryWords.View.{View}
use Rattle.seize_model.proofs.Given.SeizeMemoryWords.Shows.{Extra}
use Rattle.seize_model.proofs.Given.SeizeRulePoints.Aside.{is_handed}
use Rattle.seize_model.proofs.Given.SeizeRulePoints.Known.{CommonOf, Rest, Putting, Shuts, FitsAt, FirstsOf, bare}
use Rattle.seize_model.proofs.Given.SeizeRulePoints.Told.{Pushing, part_at, flush_part}

-- the first block to be retired is on its way
abbrev pub is_popped : Settling → Bool
is_popped (at.Firsts block) = not (eqb block 0)
is_popped (at.Batches block) = true
is_popped (at.Ends block) = true
is_popped (at.Appends block) = true
is_popped (at.Counts block) = true
is_popped _ = false

-- its link
abbrev pub popped_word : Settling → ℕ
popped_word (at.Firsts block) = block
popped_word (at.Batches block) = block
popped_word (at.Ends block) = block
popped_word (at.Appends block) = block
popped_word (at.Counts block) = block
popped_word _ = 0

-- the words are those of the lists
pub record Known (n i : ℕ) (m : State) (x : Extra) (d : Settle) (t : Bool) (word : ℕ) : Type 0 where
  pub common : CommonOf n i m x d.slot d.list d.pending d.reclaiming d.put_first
  pub popped : x.popped i ≡ t
  pub some : t ≡ true → (b : ℕ) × (bs : List ℕ) × (m.pending i ≡ b ∷ bs) × (word ≡ link b)

-- it closes a batch, whose first block it has
pub record Shutting (i : ℕ) (m : State) (first : ℕ) : Type 0 where
  pub batch : ℕ
  pub closing : m.closing i ≡ batch + 1
  pub stage : m.stage batch ≡ Closing i
  pub first_is : first ≡ first_or 0 (m.blocks batch)

module _ (n i : ℕ) (f : View) (m : State) (x : Extra) (d : Settle) where
  none : (w : ℕ) → CommonOf n i m x d.slot d.list d.pending d.reclaiming d.put_first → x.popped i ≡ false → Known n i m x d false w
  none w common popped = record { common = common; popped = popped; some = λ e. absurd (cc e) }

  rests : (w : ℕ) → Rest n i m x (bare d) → Known n i m x d false w
  rests w r = none w r.common r.popped

  puts : (block b : ℕ) (bs : List ℕ) (e : ℕ) → Putting n i m x (bare d) block b bs e → Known n i m x d true block
  puts block b bs e r = record { common = r.common; popped = r.popped; some = λ z. (b, bs, r.pending, r.block_is) }

  firsts : (block : ℕ) (t : Bool) → FirstsOf t n i m x (bare d) block → Known n i m x d (not t) block
  firsts block true r = rests block r.retiring.rest
  firsts block false r = puts block r.b r.bs 0 r.putting

  pub known_at : (p : Settling) → FitsAt n i f m x (bare d) p → Known n i m x d (is_popped p) (popped_word p)
  known_at at.Sees r = rests 0 r.retiring.rest
  known_at at.Holds r = rests 0 r.retiring.rest
  known_at at.Pops r = rests 0 r.retiring.rest
  known_at (at.Firsts block) r = firsts block (eqb block 0) r
  known_at (at.Batches block) r = puts block r.b r.bs 0 r.putting
  known_at (at.Ends block) r = puts block r.batches.b r.batches.bs 0 r.batches.putting
  known_at (at.Appends block) r = puts block r.ends.batches.b r.ends.batches.bs 0 r.ends.batches.putting
  known_at (at.Counts block) r = puts block r.b r.bs _ r.putting
  known_at (at.Scans slot block marks) r = none 0 r.tries.common r.tries.popped
  known_at (at.Marks slot block marks) r = none 0 r.tries.common r.tries.popped
  known_at (at.Marked slot block marks) r = none 0 r.tries.common r.tries.popped
  known_at (at.Closes marks) r = none 0 r.tries.common r.tries.popped
  known_at (at.Reads block left pushed) r = none 0 r.shuts.common r.shuts.popped
  known_at (at.Links block left pushed slot head) r = none 0 r.reads.shuts.common r.reads.shuts.popped
  known_at (at.Pushes block left pushed slot head) r = none 0 r.links.reads.shuts.common r.links.reads.shuts.popped
  known_at (at.Pushed block left pushed) r = none 0 r.shuts.common r.shuts.popped
  known_at (at.Sums pushed) r = none 0 r.shuts.common r.shuts.popped
  known_at at.Nexts r = rests 0 r.rest
  known_at (at.Drains next word) r = none 0 r.backs.common r.backs.popped
  known_at (at.Joins next more) r = none 0 r.drains.backs.common r.drains.backs.popped
  known_at (at.Tails next) r = none 0 r.backs.common r.backs.popped
  known_at (at.Takes next) r = none 0 r.backs.common r.backs.popped
  known_at at.Puts r = none 0 r.common r.popped
  known_at at.Lists r = rests 0 r.rest
  known_at (at.Owns next) r = rests 0 r.lists.rest
  known_at (at.Downs next batch) r = rests 0 r.owns.lists.rest
  known_at at.Gives r = rests 0 r.rest
  known_at at.Over r = rests 0 r.rest

  shuts : (y : ℕ) (rs ts : List ℕ) (aimed : Bool) (left pushed : ℕ) → Shuts n i m x (bare d) y rs ts aimed left pushed → Shutting i m d.first
  shuts y rs ts aimed left pushed r = record { batch = y; closing = r.closing; stage = r.stage; first_is = r.first }

  not_flush : (g : Bool) → flush_part g ≡ Pushing → Shutting i m d.first
  not_flush true e = absurd (cc e)
  not_flush false e = absurd (cc e)

  pub shutting_at : (g : Bool) (p : Settling) → FitsAt n i f m x (bare d) p → part_at g p ≡ Pushing → Shutting i m d.first
  shutting_at g at.Sees r e = not_flush g e
  shutting_at g at.Holds r e = not_flush g e
  shutting_at g (at.Firsts block) r e = not_flush (eqb block 0) e
  shutting_at g (at.Reads block left pushed) r e = shuts r.y (r.d ∷ r.rs) (r.t ∷ r.ts) false left pushed r.shuts
  shutting_at g (at.Links block left pushed slot head) r e =
      let k = r.reads in shuts k.y (k.d ∷ k.rs) (k.t ∷ k.ts) true left pushed k.shuts
  shutting_at g (at.Pushes block left pushed slot head) r e =
      let k = r.links.reads in shuts k.y (k.d ∷ k.rs) (k.t ∷ k.ts) true left pushed k.shuts
  shutting_at g (at.Pushed block left pushed) r e = shuts r.y (r.e ∷ r.rs) (r.t ∷ r.ts) false left pushed r.shuts
  shutting_at g (at.Sums pushed) r e = shuts r.y r.rs [] false 0 pushed r.shuts
  shutting_at g _ r e = absurd (cc e)

-- two lists are the same, if what is behind their first blocks is, and these have this link
pub pending_agree : (t : Bool) (w : ℕ) (l k : List ℕ) → (t ≡ true → (b : ℕ) × (bs : List ℕ) × (l ≡ b ∷ bs) × (w ≡ link b))
    → (t ≡ true → (b : ℕ) × (bs : List ℕ) × (k ≡ b ∷ bs) × (w ≡ link b)) → waiting t k ≡ waiting t l → k ≡ l
pending_agree false w l k a b same = same
pending_agree true w l k a b same =
    let p = a refl in
    let q = b refl in
    let first : q.0 ≡ p.0 = link_of q.0 p.0 (sym q.3 ∙ p.3) in
    let rest : q.1 ≡ p.1 = sym (ap (waiting true) q.2) ∙ same ∙ ap (waiting true) p.2 in
    let one = q.2 in
    let two = p.2 in
    cc (first, rest, one, two)
  where
    link_of : (c d : ℕ) → link c ≡ link d → c ≡ d
    link_of c d e = omega (arith, e)

-- what is behind the first block is in the list
pub behind_count : (b : ℕ) (t : Bool) (l : List ℕ) → 0 < count b (waiting t l) → 0 < count b l
behind_count b false l h = h
behind_count b true [] h = h
behind_count b true (c ∷ l) h = omega (arith, h)

-- a block that is to be retired is had by the collector
pub pending_handed : (j b : ℕ) (l : Life) (k q : ℕ) → k + q ≡ is_pending j l → 0 < k → is_handed l ≡ true
pending_handed j b l k q e p = grind (arith, e, p)

-- and so is one that was put
pub put_handed : (j b : ℕ) (l : Life) (k q : ℕ) → k + q ≡ is_pending j l → 0 < q → is_handed l ≡ true
put_handed j b l k q e p = grind (arith, e, p)
