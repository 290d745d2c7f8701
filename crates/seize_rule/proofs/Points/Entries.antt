-- The program points by which slots are given the entries of a closed batch.
use Rattle.std.specs.Prelude.{Option, is_some, ◌/◌}
use Rattle.std.proofs.Common.{◌≡◌, ℕ, Bool, true, false, List, [], ◌∷◌, ◌++◌, append_assoc, refl, arith, ap, sym, subst, ◌∙◌}
use Rattle.seize_moves.specs.Given.SeizeWordsDeclared.at.At.TheVariants.{Entry}
use Rattle.seize_moves.specs.Given.SeizeWordsMem.{Mem, Took, value_at, with_word}
use Rattle.seize_moves.specs.Given.SeizeWordsPlan.{Steps}
use Rattle.seize_moves.proofs.Given.SeizeWordsOneOwner.Operations.{loaded, stored}
use Rattle.seize_moves.specs.Given.SeizeDeclared.states.TheConstants.{NEXT, LINK, ACTIVE}
use Rattle.seize_moves.specs.Given.SeizeDeclared.rows.settle.Settle.{Settle}
use Rattle.seize_moves.specs.Given.SeizeDeclared.rows.settle.Settled.{Settled}
use Rattle.seize_moves.specs.Given.SeizeDeclared.rows.settle.Settled.TheVariants.{Goes}
use Rattle.seize_moves.specs.Given.SeizeDeclared.rows.settle.Settling.TheVariants as at
use Rattle.seize_moves.specs.Given.SeizeSettle.{standing, goes, slot_read, reads, links, next_pushed, pushed_next}
use Rattle.seize_moves.proofs.Moves.State.Ghost.{State, list_of}
use Rattle.seize_moves.proofs.Moves.State.Rule.{Inv}
use Rattle.seize_moves.proofs.Moves.State.Together.{stays}
use Rattle.seize_moves.proofs.Moves.State.Moves.{pushed}
use Rattle.seize_moves.proofs.Memory.Words.Named.{link, words_of, word_found, wrote}
use Rattle.seize_moves.proofs.Memory.Words.Chains.{Chain, chain_behind, first_or}
use Rattle.seize_moves.proofs.Memory.Words.View.{view, view_link}
use Rattle.seize_moves.proofs.Memory.Words.Shows.{Spot, Unspent, Extra, Shows, SpotLife, lives, keeps_like}
use Rattle.seize_moves.proofs.Memory.Written.Marks.{mark_read, aimed_at, aimed_written, link_written, is_unspent_one}
use Rattle.seize_rule.proofs.Points.Aside.{aside_same}
use Rattle.seize_rule.proofs.Points.Told.{Pushing, Stays}
use Rattle.seize_rule.proofs.Points.Stepped.{HasWords, Went, went_loaded, went_written}
use Rattle.seize_rule.proofs.Points.Known.{Reads, Links, Pushed, bare}
use Rattle.seize_rule.proofs.Points.Lost.{behind_none}
use Rattle.seize_rule.proofs.Points.Retire.{of_link}

module _ {T : Type 0} (defers : T → Option ℕ) (n i : ℕ) (mem mem2 : Mem T) (m : State) (x : Extra) (c : Settle) (end : Settle × Settled T)
    (inv : Inv n m) (v : Shows n (view defers mem) m x) where
  -- the mark of the next block is read: the slot that it is for
  pub reads_steps : (block left pushed : ℕ) → Reads n i m x (bare c) block left pushed false → Steps Took value_at mem (reads c block left pushed) mem2 end
      → Went defers n i c Pushing mem m x [] mem2 end
  reads_steps block left pushed r st =
      let l = loaded mem (slot_read c block left pushed) (Entry (block / 2048) LINK) mem2 end st in
      let p = r.shuts in
      let mark : (view defers mem).links r.d ≡ r.t = mark_read n i r.y r.d r.t r.rs r.ts (view defers mem) m x v p.rest_is p.todo p.aimed_is in
      let w : l.0 ≡ r.t = sym (word_found mem (Entry (block / 2048) LINK) l.0 l.1) ∙ ap (λ a. words_of mem (Entry a LINK)) (of_link block r.d r.block_is) ∙ mark in
      went_loaded defers n i c Pushing mem m x [] mem2 (record c { lost = 0; stands = at.Links block left pushed l.0 ACTIVE }) Goes end tt l.3 l.2
      (record {
        m2 = m;
        x2 = aimed_at x r.y;
        moved = stays n i c.slot m inv;
        written = aimed_written n i r.y r.d r.t r.rs r.ts (view defers mem) m x v p.stage p.rest_is p.todo p.aimed_is;
        pending = λ q. q;
        logged = refl;
        aside = aside_same m m refl refl;
        slot_is = refl;
        told = Stays refl refl;
        fits = record {
          reads = record {
            y = r.y;
            before = r.before;
            d = r.d;
            rs = r.rs;
            t = r.t;
            ts = r.ts;
            shuts = record {
              common = record { slot_lt = p.common.slot_lt; taken = p.common.taken; outside = p.common.outside; hand = p.common.hand; pends = p.common.pends; lefts = p.common.lefts; put_first = p.common.put_first };
              popped = p.popped;
              closing = p.closing;
              put = p.put;
              put_last = p.put_last;
              batch = record { holder = p.batch.holder; last = p.batch.last; behind = p.batch.behind; seen = p.batch.seen; todo = p.batch.todo };
              holds = p.holds;
              once = p.once;
              none_left = p.none_left;
              stage = p.stage;
              first = p.first;
              rest_is = p.rest_is;
              aimed_is = grind arith;
              todo = p.todo;
              done = p.done;
              left_is = p.left_is;
              active = p.active;
              some = p.some;
            };
            blocks = r.blocks;
            block_is = r.block_is;
            room = r.room;
          };
          slot_is = w;
          active = omega arith;
          lost = λ d. behind_none (list_of (m.head r.t));
        };
      })

  -- the block to be put next is unspent, and lives
  unspent_block : (block left pushed : ℕ) (a : Bool) (r : Reads n i m x (bare c) block left pushed a) → x.spot r.d ≡ Unspent r.y
  unspent_block block left pushed a r =
      is_unspent_one x.rest x.spot r.y r.d (v.entries.unspent r.y r.d) (grind (arith, r.shuts.rest_is))

  pub block_lives : (block left pushed : ℕ) (a : Bool) (r : Reads n i m x (bare c) block left pushed a) → is_some (value_at mem r.d) ≡ true
  block_lives block left pushed a r = one (x.spot r.d) (unspent_block block left pushed a r) (v.entries.spots r.d)
    where
      one : (p : Spot) → p ≡ Unspent r.y → SpotLife p (m.life r.d) → is_some (value_at mem r.d) ≡ true
      one p e h = v.lists.lived r.d ∙ ap lives (subst (λ (q : Spot). SpotLife q (m.life r.d)) e h)

  -- it is linked to the slot's list
  pub links_steps : (block left pushed slot head : ℕ) → HasWords defers n mem m.head → Links n i m x (bare c) block left pushed slot head
      → Steps Took value_at mem (links c block left pushed slot head) mem2 end → Went defers n i c Pushing mem m x [] mem2 end
  links_steps block left pushed slot head has r st =
      let d = r.reads.d in
      let p = r.reads.shuts in
      let l = stored mem (λ out. goes c (at.Pushes block left pushed slot head)) (Entry (block / 2048) LINK) head mem2 end st in
      let e : mem2 ≡ with_word mem (Entry d LINK) head = l.0 ∙ ap (λ u. with_word mem (Entry u LINK) head) (of_link block d r.reads.block_is) in
      went_written defers n i c Pushing mem m x [] mem2 (Entry d LINK) head _ (standing c (at.Pushes block left pushed slot head)) Goes end tt l.1 e
      (view_link defers mem d head (with_word mem (Entry d LINK) head) (wrote mem (Entry d LINK) head (has.entries d LINK (omega arith) (block_lives block left pushed true r.reads))))
      (record {
        m2 = m;
        x2 = x;
        moved = stays n i c.slot m inv;
        written = link_written n i r.reads.y d head r.reads.rs (view defers mem) m x v p.stage p.rest_is p.aimed_is;
        pending = λ q. q;
        logged = refl;
        aside = aside_same m m refl refl;
        slot_is = refl;
        told = Stays refl refl;
        fits = record { links = r; linked = grind arith };
      })

  -- the block behind it is the next one
  pub pushed_steps : (block left pushed : ℕ) → Pushed n i m x (bare c) block left pushed → Steps Took value_at mem (pushed_next c block left pushed) mem2 end
      → Went defers n i c Pushing mem m x [] mem2 end
  pushed_steps block left pushed r st =
      let l = loaded mem (next_pushed c left pushed) (Entry (block / 2048) NEXT) mem2 end st in
      let p = r.shuts in
      let chain : Chain 0 (view defers mem).nexts (first_or 0 (m.blocks r.y)) (m.blocks r.y) = rw p.stage at (v.linkage.linked r.y) in
      let k = chain_behind 0 (view defers mem).nexts (first_or 0 (m.blocks r.y)) r.before (r.d ∷ r.e ∷ r.rs) (subst (λ (bs : List ℕ). Chain 0 (view defers mem).nexts (first_or 0 (m.blocks r.y)) bs) r.blocks chain) in
      let w : l.0 ≡ link r.e = sym (word_found mem (Entry (block / 2048) NEXT) l.0 l.1) ∙ ap (λ a. words_of mem (Entry a NEXT)) (of_link block r.d r.block_is) ∙ k.2.1 in
      went_loaded defers n i c Pushing mem m x [] mem2 (standing c (at.Reads l.0 left pushed)) Goes end tt l.3 l.2
      (record {
        m2 = m;
        x2 = x;
        moved = stays n i c.slot m inv;
        written = record { shows = v; keeps = keeps_like i (view defers mem) m x (view defers mem) refl refl refl refl refl };
        pending = λ q. q;
        logged = refl;
        aside = aside_same m m refl refl;
        slot_is = refl;
        told = Stays refl refl;
        fits = record {
          y = r.y;
          before = r.before ++ r.d ∷ [];
          d = r.e;
          rs = r.rs;
          t = r.t;
          ts = r.ts;
          shuts = p;
          blocks = r.blocks ∙ sym (append_assoc r.before (r.d ∷ []) (r.e ∷ r.rs));
          block_is = w;
          room = r.room;
        };
      })
