-- One step on a word of a slot behind the first bucket, by whoever knows that its bucket is there. Assumes `Logic`.
use Rattle.std.proofs.Common.{◌≡◌, ℕ, zero, suc, ◌+◌, ◌-◌, ◌*◌, ◌<◌, List, [], ◌∷◌, get_or, set, sym, refl, ◌∙◌, arith, Some}
use seplogic.Ra.Ura.{Ura}
use base.Logic.{SProp, ent, sep, ex, all, apply∗, all_e, upd_i}
use base.Fml.{Lft, Share, Fml, fsep, flft}
use types.Logic.{Logic, sem}
use types.Kit.{‵, raw, ◌⊛◌, ◌$◌, ◌∵◌, !, qed, by, move, drop, split, split3, join, fsplit, fjoin, pick, learn, show, frame, each, assume, suffices, use1, use2, rewrite}
use denote.RattleType.{RattleType}
use denote.RawPtr.{Ptr, block_ptr, block_of, count_of}
use Rattle.core.specs.Sync.RawAtomic.{word, asks, always}
use Rattle.core.proofs.raw_atomic.Asked.{Lies, Again}
use Rattle.seize_words.specs.OneMemory.Mem.{word_at, with_word}
use Rattle.seize_words.specs.OneMemory.Op.{Op, Out}
use Rattle.seize_words.specs.declared.at.At.TheVariants.{Slot}
use Rattle.seize_seats.specs.Seats.Errands.{ViewCode, StayAllSo}
use Rattle.seize_seats.specs.Seats.State.{State, Goes, Allows}
use Rattle.seize_seats.specs.Seats.Lines.{Parts, place_of, memory_of}
use Rattle.seize_seats.specs.Seats.Strips.{IsOf}
use Rattle.seize_seats.specs.Seats.Doors.{stays}
use Rattle.seize_seats.specs.Seats.Steps.{IsWordStep}
use Rattle.seize_seats.specs.Seats.Owned.{Pieces, ground, BaseId, age, core_of, Inside, state_of, bucket_known, is_listed, inner}
use Rattle.seize_seats.proofs.Seats.Places.Columns.{words_lie, words_are_apart}
use Rattle.seize_seats.proofs.Seats.Places.Grounds as Grounds
use Rattle.seize_seats.proofs.Seats.Stepping.Moves as Moves
use Rattle.seize_seats.proofs.Seats.Views.Known as Known

module _ {M : Type 1} {𝓤 : Ura M} (𝓛 : Logic 𝓤) (R : RattleType) (own : Pieces R.Denot) {V W : Type 0} (cv : ViewCode V) (holds : State R.Denot V W → Type 0) (keeps : V → V → W → ℕ
    → Type 0) (p : Ptr) (z : BaseId) where
  open 𝓛 use {H, A}

  abbrev ◌⊢◌ : SProp 𝓤 → SProp 𝓤 → Type 1
  P ⊢ Q = ent 𝓤 P Q

  abbrev ◌∗◌ : SProp 𝓤 → SProp 𝓤 → SProp 𝓤
  P ∗ Q = sep 𝓤 P Q

  abbrev ⟦◌⟧ : Fml → SProp 𝓤
  ⟦ P ⟧ = sem 𝓛 P

  infix 26 ◌⊢◌
  infixr 35 ◌∗◌
  abbrev α : Lft
  α = age z

  abbrev I : Fml
  I = inner R own cv holds p z

  abbrev In : Type 0
  In = Inside R.Denot V W

  abbrev Fixed : List ℕ → Fml
  Fixed ws = ground (core_of z) ws

  abbrev seat : ℕ → V → Fml
  seat = Moves.seat 𝓛 R own cv holds keeps p z

  abbrev Stands : ℕ → V → In → Type 0
  Stands = Moves.Stands 𝓛 R own cv holds keeps p z

  abbrev Inv : Fml
  Inv = Moves.Inv 𝓛 R own cv holds keeps p z

  -- what is known of a bucket, beside the rest of what is told to all
  pub bucket_apart : ⟦ Inv ⟧ ⊢ ⟦ Inv ⟧ ∗ ⟦ bucket_known z.slots_name z.bucket z.slots ⟧
  bucket_apart = let L : Fml = is_listed p z in qed 𝓛 (‵ Inv ∷ []) ∵ fsplit ! $ use1 𝓛 (‵ L ⊛ ‵ L) (Known.listed_twice 𝓛 p z) $ split ! $ move ! (0 ∷ 2 ∷ []) $ fjoin ! $
      frame ! $ fsplit ! $ drop ! $ types.Kit.done !

  behind_first : (k : ℕ) → 0 < k → (j : ℕ) × (k ≡ suc j)
  behind_first zero lt = absurd (omega (arith, lt))
  behind_first (suc j) lt = (j, refl)

  -- it becomes f of what it was, and that is the operation of the word's name
  module _ (id : ℕ) (v : V) (n i place : ℕ) (op : Op R.Denot) (f : ℕ → ℕ) (out : ℕ → Out R.Denot) (so : Out R.Denot → V → Type 0) where
    abbrev told : ℕ → Fml
    told m = Moves.gone_on 𝓛 R own cv holds keeps p z id (so (out m))

    module _ (is : IsWordStep R.Denot (Slot n i) op f out) (same : StayAllSo cv.away v so) (law : Allows holds keeps id v op so) (of : IsOf z.slots n)
        (at : place ≡ (n - z.slots.first) * 16 + i) where
      abbrev q : Ptr
      q = z.slots.words

      abbrev b : ℕ
      b = block_of q

      abbrev e : ℕ
      e = place * 8 + count_of q

      goes : (t : In) → Stands id v t → (w : ℕ) → word_at (memory_of z.roots t.parts) (Slot n i) ≡ Some w → (s : Parts R.Denot)
          → memory_of z.roots s ≡ with_word (memory_of z.roots t.parts) (Slot n i) (f w) → Goes holds keeps (state_of z t) (memory_of z.roots s) id (so (out w))
      goes t g w found s alike = let a = law (state_of z t) g.0 g.2 in let made = is.makes (memory_of z.roots t.parts) w found in
          a.1 (out w) (memory_of z.roots s) (made.0, alike ∙ sym made.1)

      known : (j : ℕ) (s : Share) → ⟦ Inv ⟧ ∗ (A.lft α s ∗ (⟦ stays z.slots_name (suc j) z.slots ⟧ ∗ ⟦ seat id v ⟧)) ⊢ asks 𝓛 (block_ptr b e) f always (λ m. fsep (flft α s) (told m))
      known j s = let G : SProp 𝓤 = ex 𝓤 (Lies 𝓛 α s I b e f always told) in let St : Fml = stays z.slots_name (suc j) z.slots in
          Known.stepped 𝓛 R own cv holds p z s b e f told (⟦ St ⟧ ∗ ⟦ seat id v ⟧)
          (qed 𝓛 (‵ I ∷ (‵ St ⊛ ‵ (seat id v)) ∷ []) ∵ suffices ! _ (upd_i 𝓤 G) $ move ! (1 ∷ []) $ split ! $ move ! (2 ∷ 1 ∷ []) $
          use2 𝓛 (Moves.opening 𝓛 R own cv holds keeps p z id v) (Moves.opened 𝓛 R own cv holds keeps p z id v) $ pick ! (λ t. learn ! (λ g. split3 ! $
          let found = is.needs (memory_of z.roots t.parts) (law (state_of z t) g.0 g.2).0 in let w : ℕ = found.0 in let ws : List ℕ = t.parts.words in
          let l = words_lie R.Denot z.roots z.count t.parts (Slot n i) w g.1 tt found.1 in let few = l.0.1 in let low = of.0 in let high = of.1 in
          let k : ℕ = place_of z.roots (Slot n i) in let P = Grounds.Sets 𝓛 (core_of z) ws k b e in
          -- [the memory; the views; the seat; the bucket stays]
          fsplit ! $ move ! (0 ∷ 4 ∷ []) $
          use2 𝓛 (‵ (word b e (get_or ws k 0)) ⊛ raw (all 𝓤 P))
          (Grounds.ground_far 𝓛 (core_of z) ws j place k e z.slots (omega (arith, at, few, low, high)) (omega (arith, at, low)) refl) $ split ! $
          rewrite ! 0 (λ (x : ℕ). ‵ (word b e x)) l.2 refl $ show ! (Lies 𝓛 α s I b e f always told) w $ frame ! $
          each ! (λ (_ : Unit {0}). Again 𝓛 α s I b e f always told w) (λ _. assume ! (‵ (word b e (f w))) $
          -- [the word; the others; the numbers; the views; the seat]
          move ! (1 ∷ []) $ use1 𝓛 (raw (P (f w))) (all_e 𝓤 P (f w)) $ move ! (1 ∷ 0 ∷ []) $
          use2 𝓛 (‵ (Fixed (set ws k (f w)))) (apply∗ 𝓤 ⟦ word b e (f w) ⟧ ⟦ Fixed (set ws k (f w)) ⟧) $ fjoin ! $
          let a = words_are_apart R.Denot z.roots z.count t.parts (Slot n i) w (f w) g.1 tt found.1 in
          let m : Parts R.Denot = record { words = set ws k (f w); slots = t.parts.slots; cells = t.parts.cells; given = t.parts.given } in
          by ! (Moves.back 𝓛 R own cv holds keeps p z id v t m (so (out w)) (same (out w)) a.0 g.2 (goes t g w found.1 m a.1))))))

      pub steps : 0 < z.bucket → (s : Share) → ⟦ Inv ⟧ ∗ (A.lft α s ∗ ⟦ seat id v ⟧) ⊢ asks 𝓛 (block_ptr b e) f always (λ m. fsep (flft α s) (told m))
      steps there s = let j = behind_first z.bucket there in let St : Fml = stays z.slots_name (suc j.0) z.slots in
          qed 𝓛 (‵ Inv ∷ (‵ (flft α s) ⊛ ‵ (seat id v)) ∷ []) ∵ use1 𝓛 (‵ Inv ⊛ ‵ (bucket_known z.slots_name z.bucket z.slots)) bucket_apart $ split ! $ move ! (1 ∷ []) $
          rewrite ! 0 (λ (k : ℕ). ‵ (bucket_known z.slots_name k z.slots)) j.1 refl $ fsplit ! $ drop ! $
          -- [the bucket stays; the invariant; the token and the seat]
          move ! (2 ∷ []) $ split ! $ move ! (2 ∷ 1 ∷ []) $ join ! $ move ! (1 ∷ 0 ∷ []) $ join ! $ move ! (1 ∷ 0 ∷ []) $ by ! (known j.0 s)
