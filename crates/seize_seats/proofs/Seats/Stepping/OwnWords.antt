-- One step on a word of a block's own, by a seat that knows where they lie; and on any word. Assumes `Logic`.
use Rattle.std.proofs.Common.{◌≡◌, inl, inr, ℕ, ◌+◌, ◌*◌, [], ◌∷◌, sym, ◌∙◌, Some, ap, subst, ◌^◌, ◌<◌}
use seplogic.Ra.Ura.{Ura}
use base.Logic.{SProp, ent, sep, ex, all, apply∗, all_e, upd_i}
use base.Fml.{Lft, Share, Fml, fsep, flft}
use types.Logic.{Logic, sem}
use types.Kit.{‵, raw, ◌⊛◌, some as items, given, ◌$◌, ◌∵◌, !, qed, by, move, split, split3, pick, learn, show, frame, each, assume, suffices, use1, use2}
use denote.RattleType.{RattleType}
use denote.RawPtr.{Ptr, InBlock, block_ptr, block_of, count_of}
use Rattle.core.specs.Sync.RawAtomic.{word, asks, always}
use Rattle.core.proofs.raw_atomic.Asked.{Lies, Again}
use Rattle.seize_words.specs.OneMemory.Mem.{word_at, with_word}
use Rattle.seize_words.specs.OneMemory.Op.{Op, Out}
use Rattle.seize_words.specs.declared.at.At.{At}
use Rattle.seize_words.specs.declared.at.At.TheVariants.{Root, Used, Slot, Entry, Word}
use Rattle.seize_seats.specs.Seats.Errands.{ViewCode, StayAllSo}
use Rattle.seize_seats.specs.Seats.State.{State, Goes, Allows}
use Rattle.seize_seats.specs.Seats.Lines.{Parts, IsWord, memory_of, AreLaid}
use Rattle.seize_seats.specs.Seats.Steps.{IsWordStep}
use Rattle.seize_seats.specs.Seats.Visits.{AreSeenAt}
use Rattle.seize_seats.specs.Seats.Owned.{Pieces, BaseId, age, Inside, state_of, inner, IsIn, place_in}
use Rattle.seize_seats.specs.Seats.Reached.{IsAt}
use Rattle.seize_seats.proofs.Seats.Places.Cells.{own_lies}
use Rattle.seize_seats.proofs.Seats.Places.Numbers as Numbers
use Rattle.seize_seats.proofs.Seats.Places.Pieces as Pieces
use Rattle.seize_seats.proofs.Seats.Stepping.Moves as Moves
use Rattle.seize_seats.proofs.Seats.Blocks.Makings as Makings
use Rattle.seize_seats.proofs.Seats.Views.Known as Known
use Rattle.seize_seats.proofs.Seats.Stepping.SlotWords as SlotWords
use Rattle.seize_seats.proofs.Seats.Stepping.Steps.{lying}

module _ {M : Type 1} {𝓤 : Ura M} (𝓛 : Logic 𝓤) (R : RattleType) (own : Pieces R.Denot) {V W : Type 0} (cv : ViewCode V) (holds : State R.Denot V W → Type 0) (keeps : V → V → W → ℕ
    → Type 0) (p : Ptr) (z : BaseId) where
  open 𝓛 use {H, A}

  abbrev ◌⊢◌ : SProp 𝓤 → SProp 𝓤 → Type 1
  P ⊢ Q = ent 𝓤 P Q

  abbrev ◌∗◌ : SProp 𝓤 → SProp 𝓤 → SProp 𝓤
  P ∗ Q = sep 𝓤 P Q

  abbrev ⟦◌⟧ : Fml → SProp 𝓤
  ⟦ P ⟧ = sem 𝓛 P

  infix 26 ◌⊢◌
  infixr 35 ◌∗◌
  abbrev α : Lft
  α = age z

  abbrev I : Fml
  I = inner R own cv holds p z

  abbrev In : Type 0
  In = Inside R.Denot V W

  abbrev Ws : Parts R.Denot → Fml
  Ws = Moves.Ws 𝓛 R own cv holds keeps p z

  abbrev seat : ℕ → V → Fml
  seat = Moves.seat 𝓛 R own cv holds keeps p z

  abbrev Stands : ℕ → V → In → Type 0
  Stands = Moves.Stands 𝓛 R own cv holds keeps p z

  -- It becomes f of what it was, and that is the operation of the word's name. r: where the own words of the block lie as long as the seat has this view; q: where
  -- the step is taken, from which the word lies so many words on
  module _ (id : ℕ) (v : V) (n i place : ℕ) (r q : Ptr) (op : Op R.Denot) (f : ℕ → ℕ) (out : ℕ → Out R.Denot) (so : Out R.Denot → V → Type 0) where
    abbrev pub told : ℕ → Fml
    told m = Moves.gone_on 𝓛 R own cv holds keeps p z id (so (out m))

    module _ (is : IsWordStep R.Denot (Word n i) op f out) (stays : StayAllSo cv.away v so) (law : Allows holds keeps id v op so) (seen : AreSeenAt own.at holds id v n r)
        (lands : InBlock r → i * 8 < 2 ^ 63 → (r ≡ q) × (place ≡ i)) (mine : Makings.Mine 𝓛 R own cv holds keeps p z n) where
      abbrev b : ℕ
      b = block_of q

      abbrev e : ℕ
      e = place * 8 + count_of q

      goes : (t : In) → Stands id v t → (w : ℕ) → word_at (memory_of z.roots t.parts) (Word n i) ≡ Some w → (s : Parts R.Denot)
          → memory_of z.roots s ≡ with_word (memory_of z.roots t.parts) (Word n i) (f w) → Goes holds keeps (state_of z t) (memory_of z.roots s) id (so (out w))
      goes t g w found s same = let a = law (state_of z t) g.0 g.2 in let made = is.makes (memory_of z.roots t.parts) w found in
          a.1 (out w) (memory_of z.roots s) (made.0, same ∙ sym made.1)

      pub steps : (s : Share) → ⟦ Moves.Inv 𝓛 R own cv holds keeps p z ⟧ ∗ (A.lft α s ∗ ⟦ seat id v ⟧) ⊢ asks 𝓛 (block_ptr b e) f always (λ m. fsep (flft α s) (told m))
      steps s = let G : SProp 𝓤 = ex 𝓤 (Lies 𝓛 α s I b e f always told) in Known.stepped 𝓛 R own cv holds p z s b e f told ⟦ seat id v ⟧
          (qed 𝓛 (‵ I ∷ ‵ (seat id v) ∷ []) ∵ suffices ! _ (upd_i 𝓤 G) $
          use2 𝓛 (Moves.opening 𝓛 R own cv holds keeps p z id v) (Moves.opened 𝓛 R own cv holds keeps p z id v) $ pick ! (λ t. learn ! (λ g. split3 ! $
          let found = is.needs (memory_of z.roots t.parts) (law (state_of z t) g.0 g.2).0 in let w : ℕ = found.0 in
          let P = Pieces.Renotes 𝓛 R own cv holds p z t.parts n i b e in let l = own_lies z.roots z.count t.parts n i w g.1 found.1 in
          let x = seen (state_of z t) g.0 g.2 in
          -- [the memory; the views; the seat]
          use1 𝓛 (‵ (word b e w) ⊛ raw (all 𝓤 P))
          (Pieces.own_opens 𝓛 R own cv holds p z t.parts g.1 n i e w r q
          (λ there few. let l = lands there few in (l.0, ap (λ (k : ℕ). k * 8 + count_of q) l.1)) l.0 (mine l.0 l.1) x.0 x.1 x.2 found.1) $ split ! $
          show ! (Lies 𝓛 α s I b e f always told) w $ frame ! $
          each ! (λ (_ : Unit {0}). Again 𝓛 α s I b e f always told w) (λ _. assume ! (‵ (word b e (f w))) $
          -- [the word; the others; the views; the seat]
          move ! (1 ∷ []) $ use1 𝓛 (raw (P (f w))) (all_e 𝓤 P (f w)) $ move ! (1 ∷ 0 ∷ []) $
          use2 𝓛 (items (λ (m : Parts R.Denot). given (AreLaid z.roots z.count m × (memory_of z.roots m ≡ with_word (memory_of z.roots t.parts) (Word n i) (f w)))
          (‵ (Ws m)))) (apply∗ 𝓤 ⟦ word b e (f w) ⟧
          (ex 𝓤 (Numbers.Rewritten 𝓛 R p z (Moves.lent 𝓛 R own cv holds keeps p z) (Moves.had 𝓛 R own cv holds keeps p z) t.parts (Word n i) (f w)))) $
          pick ! (λ m. learn ! (λ so_is.
          by ! (Moves.back 𝓛 R own cv holds keeps p z id v t m (so (out w)) (stays (out w)) so_is.0 g.2 (goes t g w found.1 m so_is.1))))))))

  -- one step on the word of a name, whichever it is
  module _ (id : ℕ) (v : V) (op : Op R.Denot) (f : ℕ → ℕ) (out : ℕ → Out R.Denot) (so : Out R.Denot → V → Type 0) (stays : StayAllSo cv.away v so)
      (law : Allows holds keeps id v op so) where
    abbrev Reached : Ptr → ℕ → Share → Type 1
    Reached q place s =
        ⟦ Moves.Inv 𝓛 R own cv holds keeps p z ⟧ ∗ (A.lft α s ∗ ⟦ seat id v ⟧)
        ⊢ asks 𝓛 (block_ptr (block_of q) (place * 8 + count_of q)) f always (λ m. fsep (flft α s) (Moves.gone_on 𝓛 R own cv holds keeps p z id (so (out m))))

    of_strip : (at : At) (q : Ptr) (place : ℕ) → IsWordStep R.Denot at op f out → q ≡ p → (IsWord z.roots z.count at → IsIn p z at × (place ≡ place_in z at))
        → (s : Share) → Reached q place s
    of_strip at q place is same lies s =
        subst (λ (r : Ptr). Reached r place s) (sym same) (Moves.steps 𝓛 R own cv holds keeps p z id v at place op f out so (lying p z at place op f out is lies) stays law s)

    pub reached : (at : At) (q : Ptr) (place : ℕ) → IsWordStep R.Denot at op f out → IsAt own.at holds id v p z at q place → (s : Share) → Reached q place s
    reached (Root r) q place is at s = of_strip (Root r) q place is at.0 at.1 s
    reached (Used r) q place is at s = of_strip (Used r) q place is at.0 at.1 s
    reached (Slot n i) q place is (inl at) s = of_strip (Slot n i) q place is at.0 at.1 s
    reached (Slot n i) q place is (inr at) s =
        subst (λ (r : Ptr). Reached r place s) (sym at.0) (SlotWords.steps 𝓛 R own cv holds keeps p z id v n i place op f out so is stays law at.2 at.3 at.1 s)
    reached (Entry b i) q place is at s = of_strip (Entry b i) q place is at.0 at.1 s
    reached (Word b i) q place is at s = steps id v b i place at.1.0 q op f out so is stays law at.1.1 at.1.2 at.0 s
