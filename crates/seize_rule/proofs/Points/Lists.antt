-- The points at which a row counts its list of entries down.
use Rattle.std.specs.Prelude.{◌/◌, Option, List, [], ◌∷◌}
use Rattle.std.proofs.Common.{◌≡◌, ℕ, ◌<◌, true, refl, arith, sym, ◌∙◌, ap}
use Rattle.seize_moves.specs.Given.SeizeWordsDeclared.at.At.TheVariants.{Entry}
use Rattle.seize_moves.specs.Given.SeizeWordsMem.{Mem, Took, value_at}
use Rattle.seize_moves.specs.Given.SeizeWordsPlan.{Steps}
use Rattle.seize_moves.proofs.Given.SeizeWordsOneOwner.Operations.{loaded}
use Rattle.seize_moves.specs.Given.SeizeDeclared.states.TheConstants.{LINK, FIRST}
use Rattle.seize_moves.specs.Given.SeizeDeclared.rows.settle.Settle.{Settle}
use Rattle.seize_moves.specs.Given.SeizeDeclared.rows.settle.Settling.TheVariants as at
use Rattle.seize_moves.specs.Given.SeizeDeclared.rows.settle.Settled.{Settled}
use Rattle.seize_moves.specs.Given.SeizeDeclared.rows.settle.Settled.TheVariants.{Goes}
use Rattle.seize_moves.specs.Given.SeizeSettle.{entry_read, lists, batch_read, owns, standing}
use Rattle.seize_moves.proofs.Moves.State.Ghost.{State, IsIn}
use Rattle.seize_moves.proofs.Moves.State.Ghost as Ghosts
use Rattle.seize_moves.proofs.Moves.State.Rule.{Inv}
use Rattle.seize_moves.proofs.Memory.Words.Named.{link, link-block, words_of, word_found}
use Rattle.seize_moves.proofs.Memory.Words.Chains.{Chain, blocks_of}
use Rattle.seize_moves.proofs.Memory.Words.View.{View, view}
use Rattle.seize_moves.proofs.Memory.Words.Shows.{Extra, Shows}
use Rattle.seize_moves.proofs.Memory.Written.Counts.{in_hands}
use Rattle.seize_rule.proofs.Points.Known.{Lists, Owns, bare, list_word}
use Rattle.seize_rule.proofs.Points.Told.{Plain}
use Rattle.seize_rule.proofs.Points.Stepped.{quiet, Went, went_loaded}

-- what a row with a list has in its hands
first_entry : (n i : ℕ) (f : View) (m : State) (x : Extra) (c : Settle) → Shows n f m x → Lists n i m x (bare c)
    → (e : Ghosts.Entry) × (es : List Ghosts.Entry) × (m.loose i ≡ e ∷ es) × (c.list ≡ link e.block)
first_entry n i f m x c v r = one (m.loose i) refl (v.entries.loosed i)
  where
    word : (w k : ℕ) → 3 < w → k ≡ list_word w → k ≡ w
    word w k l h = grind arith

    one : (l : List Ghosts.Entry) → m.loose i ≡ l → Chain 3 f.links (x.hand i) (blocks_of l)
        → (e : Ghosts.Entry) × (es : List Ghosts.Entry) × (m.loose i ≡ e ∷ es) × (c.list ≡ link e.block)
    one [] q k = absurd (let h = word c.list (x.hand i) r.some r.rest.common.hand in let some = r.some in omega (arith, h, k))
    one (e ∷ es) q k = (e, es, q, sym (word c.list (x.hand i) r.some r.rest.common.hand) ∙ k.1)

-- the block of a list's entry lives
pub loose_lives : (n i : ℕ) (f : View) (m : State) (x : Extra) (e : Ghosts.Entry) (es : List Ghosts.Entry) → Shows n f m x → m.loose i ≡ e ∷ es
    → (m.life e.block ≡ IsIn e.batch) × (f.live e.block ≡ true)
loose_lives n i f m x e es v is =
    let life : m.life e.block ≡ IsIn e.batch = rw (in_hands x.spot i e (m.loose i) es is (v.entries.hands i e.batch e.block)) at (v.entries.spots e.block) in
    (life, rw life at (v.lists.lived e.block))

module _ {T : Type 0} (defers : T → Option ℕ) (n i : ℕ) (mem : Mem T) (m : State) (x : Extra) (c : Settle) where
  -- the list's first entry is read

  block_of : (b : ℕ) → c.list ≡ link b → c.list / 2048 ≡ b
  block_of b e = ap (λ w. w / 2048) e ∙ link-block b

  pub lists_steps : (mem2 : Mem T) (end : Settle × Settled T) → Inv n m → Shows n (view defers mem) m x → Lists n i m x (bare c)
      → Steps Took value_at mem (lists c) mem2 end → Went defers n i c Plain mem m x [] mem2 end
  lists_steps mem2 end inv v r st =
      let d = loaded mem (entry_read c) (Entry (c.list / 2048) LINK) mem2 end st in
      let h = first_entry n i (view defers mem) m x c v r in
      went_loaded defers n i c Plain mem m x [] mem2 (standing c (at.Owns d.0)) Goes end tt d.3 d.2
      (quiet n i c Plain (view defers mem) m x (standing c (at.Owns d.0)) inv v refl refl
      (record {
        lists = r;
        e = h.0;
        es = h.1;
        loose = h.2;
        next_is = ap (λ b. words_of mem (Entry b LINK)) (sym (block_of h.0.block h.3)) ∙ word_found mem (Entry (c.list / 2048) LINK) d.0 d.1;
      }))

  -- and its batch

  owned_list : (next : ℕ) → Shows n (view defers mem) m x → (r : Owns n i (view defers mem) m x (bare c) next) → c.list ≡ link r.e.block
  owned_list next v r = let h = first_entry n i (view defers mem) m x c v r.lists in let k = r.loose in grind (arith, h.2, h.3)

  pub owns_steps : (next : ℕ) (mem2 : Mem T) (end : Settle × Settled T) → Inv n m → Shows n (view defers mem) m x → Owns n i (view defers mem) m x (bare c) next
      → Steps Took value_at mem (owns c next) mem2 end → Went defers n i c Plain mem m x [] mem2 end
  owns_steps next mem2 end inv v r st =
      let d = loaded mem (batch_read c next) (Entry (c.list / 2048) FIRST) mem2 end st in
      went_loaded defers n i c Plain mem m x [] mem2 (standing c (at.Downs next d.0)) Goes end tt d.3 d.2
      (quiet n i c Plain (view defers mem) m x (standing c (at.Downs next d.0)) inv v refl refl
      (record {
        owns = r;
        batch_is = ap (λ b. words_of mem (Entry b FIRST)) (sym (block_of r.e.block (owned_list next v r))) ∙ word_found mem (Entry (c.list / 2048) FIRST) d.0 d.1;
      }))
