-- How the value of a block is replaced by a seat that has the block to itself: the call takes the value in its hand, and puts another one in its place. Assumes
-- `Logic`.
use Rattle.std.specs.Prelude.{Bool, slice_get, slice_set, slice_index_or, IsSome, if◌then◌else◌}
use Rattle.std.proofs.Common.{◌≡◌, ◌≢◌, ◌⊎◌, ℕ, zero, suc, ◌+◌, ◌-◌, ◌*◌, ◌<◌, List, [], ◌∷◌, length, refl, sym, ap, ◌∙◌, subst, arith, inl, inr, Option, Some, None}
use Rattle.std.proofs.lemmas.Bool.{cases_eq, eq-eqb, ne_eqb}
use seplogic.Ra.Ura.{Ura}
use base.Fraction.{full_share}
use base.Share.{quarter, three_quarters}
use base.Stored.{Coded, Gv, coded×, coded_ℕ}
use base.Logic.{SProp, ent, sep, ex, all, upd, emp, apply∗, all_e, upd_i}
use base.Fml.{Lft, Share, Fml, ftrue, fsep, fex, flft}
use types.Keyed.{entries_from, entries_new, entries_take}
use types.Logic.{Logic, sem}
use types.Kit.{‵, raw, ◌⊛◌, some as items, given, ◌$◌, ◌∵◌, !, qed, move, keep, drop, split, split3, fsplit, fsplit3, fjoin, fpick, fpack, pick, learn, frame, suffices, settle, use0, use1, use2, use3, rewrite, done}
use denote.RattleType.{RattleType}
use denote.RawPtr.{Ptr, block_of, count_of}
use denote.Steps.{nothing}
use Rattle.core.specs.Sync.RawAtomic.{word}
use Rattle.seize_words.specs.OneMemory.Mem.{Mem, value_at, value_in, with_block, with_value_in}
use Rattle.seize_words.specs.OneMemory.Op.{Rewrite, Taken}
use Rattle.seize_words.specs.OneMemory.Op as Op
use Rattle.seize_words.specs.declared.block.Block.{Block}
use Rattle.seize_seats.specs.Seats.Errands.{ViewCode, StayAllSo}
use Rattle.seize_seats.specs.Seats.State.{State, Goes, Allows, Owns}
use Rattle.seize_seats.specs.Seats.State as State
use Rattle.seize_seats.specs.Seats.Cells.{Body, Cell, Free, Claimed, Out, Has, Held, block_in, blocks_in, cell_at}
use Rattle.seize_seats.specs.Seats.Lines.{Parts, memory_of, AreLaid}
use Rattle.seize_seats.specs.Seats.Lendings.{Witness, Bears, IsAside, Alone, IsValueOf, note, lendable}
use Rattle.seize_seats.specs.Seats.Seen.{itself, shared_view, seen}
use Rattle.seize_seats.specs.Seats.Owned.{piece, Pieces, fact, Hand, hand_coded, resting, held, row, stride, had_here, BaseId, age, IsIts, Inside, state_of, inner}
use Rattle.seize_seats.proofs.Seats.Places.Cells.{recelled, laid_with, block_is, blocks_set, was_given}
use Rattle.seize_seats.proofs.Seats.Places.Numbers as Numbers
use Rattle.seize_seats.proofs.Seats.Places.Pieces as Pieces
use Rattle.seize_seats.proofs.Seats.Views.Ledgers as Ledgers
use Rattle.seize_seats.proofs.Seats.Views.Sitters as Sitters
use Rattle.seize_seats.proofs.Seats.Stepping.Moves as Moves
use Rattle.seize_seats.proofs.Seats.Blocks.Makings as Makings
use Rattle.seize_seats.proofs.Seats.Views.Hands as Hands

unset : {A : Type 0} (xs : List (Option A)) (i : ℕ) → slice_index_or (slice_set xs i None) i None ≡ None
unset [] i = refl
unset (x ∷ xs) zero = refl
unset (x ∷ xs) (suc i) = unset xs i

-- where a block was taken away there is none
pub emptied : {T : Type 0} (m : Mem T) (b : ℕ) → value_at (with_block m b None) b ≡ None
emptied {T} m b = by (cases_eq b 0)
  where
    branch : Bool → Option T
    branch y = value_in (if y then None else slice_index_or (slice_set m.blocks (b - 1) None) (b - 1) None)

    by : (b ≡ 0) ⊎ (b ≢ 0) → value_at (with_block m b None) b ≡ None
    by (inl e) = ap branch (eq-eqb b 0 e)
    by (inr ne) = ap branch (ne_eqb b 0 ne) ∙ ap value_in (unset m.blocks (b - 1))

some_value : {A : Type 0} (x : Option A) → IsSome x → (y : A) × (x ≡ Some y)
some_value None some = absurd (cc some)
some_value (Some y) some = (y, refl)

-- another seat leaves what a witness says
bears_on : {V : Type 0} (vs : List V) (id : ℕ) (v : V) (x : Witness V) → IsAside id x → Bears vs x → Bears (slice_set vs id v) x
bears_on vs id v None aside bears = tt
bears_on vs id v (Some w) aside bears = Ledgers.other_view vs id w.0 v aside ∙ bears

-- WHO MAY TAKE A BLOCK AWAY HAS IT TO ITSELF
pub owns_alone : {T V W : Type 0} (holds : State T V W → Type 0) (keeps : V → V → W → ℕ → Type 0) (id : ℕ) (v : V) (n : ℕ) → Owns holds keeps id v n
    → Alone holds id v n
owns_alone {T} {V} {W} holds keeps id v n own t i w j u y so at ne nf aside here there bears shown =
    let a = own t so at in let x = some_value (value_at t.memory n) a.0 in let m : Mem T = with_block t.memory n None in
    let g = a.1 (Taken x.0) m (x.1, refl) in
    let some = shown (State.after t m id g.0 g.1) g.2 (Ledgers.other_view t.views id i g.0 ne ∙ here) (Ledgers.other_view t.views id j g.0 nf ∙ there)
    (bears_on t.views id g.0 y aside bears) in
    let none = emptied t.memory n in absurd (cc (subst IsSome none some))

module _ {M : Type 1} {𝓤 : Ura M} (𝓛 : Logic 𝓤) (R : RattleType) (own : Pieces R.Denot) {V W : Type 0} (cv : ViewCode V) (holds : State R.Denot V W → Type 0) (keeps : V → V → W → ℕ
    → Type 0) (p : Ptr) (z : BaseId) where
  open 𝓛 use {H, A}

  abbrev Pr : Type 2
  Pr = SProp 𝓤

  abbrev ◌⊢◌ : Pr → Pr → Type 1
  P ⊢ Q = ent 𝓤 P Q

  abbrev ◌∗◌ : Pr → Pr → Pr
  P ∗ Q = sep 𝓤 P Q

  abbrev ⟦◌⟧ : Fml → Pr
  ⟦ P ⟧ = sem 𝓛 P

  infix 26 ◌⊢◌
  infixr 35 ◌∗◌
  abbrev α : Lft
  α = age z

  abbrev I : Fml
  I = inner R own cv holds p z

  abbrev In : Type 0
  In = Inside R.Denot V W

  abbrev seat : ℕ → V → Fml
  seat = Moves.seat 𝓛 R own cv holds keeps p z

  abbrev gone_on : ℕ → (V → Type 0) → Fml
  gone_on = Moves.gone_on 𝓛 R own cv holds keeps p z

  abbrev Stands : ℕ → V → In → Type 0
  Stands = Moves.Stands 𝓛 R own cv holds keeps p z

  abbrev Led : In → Fml
  Led = Makings.Led 𝓛 R own cv holds keeps p z

  abbrev hands : Share → ℕ → Hand → Fml
  hands = Makings.hands 𝓛 R own cv holds keeps p z

  abbrev Ws : Parts R.Denot → Fml
  Ws = Moves.Ws 𝓛 R own cv holds keeps p z

  abbrev had : ℕ → ℕ → Body R.Denot → Fml
  had = had_here R own cv holds p z

  abbrev cell_of : ℕ → Cell R.Denot → Fml
  cell_of = Makings.cell_of 𝓛 R own cv holds keeps p z

  abbrev Recells : In → ℕ → Cell R.Denot → Pr
  Recells = Makings.Recells 𝓛 R own cv holds keeps p z

  -- the entry of a number, and the value at its place
  abbrev entry : ℕ → List ℕ → Fml
  entry i ws = row (block_of p) ((i - z.first) * 40 + (z.skip * 8 + count_of p)) ws

  abbrev pub value : ℕ → R.Denot → Fml
  value i x = lendable R α cv.code z.views_name holds i x (block_of z.values) ((i - z.first) * stride R + count_of z.values)

  -- what is noted of the value that is in the hand
  abbrev Noted : Type 0
  Noted = R.Denot × (ℕ × Gv)

  abbrev noted_coded : Coded Noted
  noted_coded = coded× R.coded (coded× coded_ℕ itself)

  abbrev pub Note : ℕ → Share → R.Denot → ℕ → V → Fml
  Note ρ q x id v = note R α cv.code z.views_name holds ρ q x id v

  abbrev fresh_note : R.Denot → ℕ → V → ℕ → Fml
  fresh_note x id v ρ = entries_from shared_view ρ 0 (λ _. (full_share, noted_coded.code (x, (id, cv.code v))))

  abbrev Fresh : R.Denot → ℕ → V → ℕ → Pr
  Fresh x id v ρ = ⟦ fresh_note x id v ρ ⟧

  notes : (x : R.Denot) (id : ℕ) (v : V) → emp 𝓤 ⊢ upd 𝓤 (ex 𝓤 (Fresh x id v))
  notes x id v = entries_new shared_view 𝓛 0 (λ _. (full_share, noted_coded.code (x, (id, cv.code v))))

  module _ (id : ℕ) (v : V) (n : ℕ) (e : Share) (mine : Makings.Mine 𝓛 R own cv holds keeps p z n) where
    abbrev i : ℕ
    i = n - 1

    -- ---- THE VALUE IS TAKEN IN THE HAND, for a share of the lifetime
    module _ (owns : Owns holds keeps id v n) where
      abbrev pub Holding : ℕ × R.Denot → Fml
      Holding u =
          fsep (fact ((0 < n) × IsIts z (n - 1) × IsValueOf holds id v n u.1))
          (fsep (Note u.0 three_quarters u.1 id v) (fsep (hands three_quarters (n - 1) (held u.0 e)) (value (n - 1) u.1)))

      abbrev TakenUp : Pr
      TakenUp = ⟦ I ⟧ ∗ ⟦ fex (ℕ × R.Denot) Holding ⟧

      abbrev Asked : In → Pr
      Asked t = ⟦ Ws t.parts ⟧ ∗ ⟦ Led t ⟧ ∗ ⟦ seat id v ⟧ ∗ ⟦ flft α e ⟧

      has : (t : In) (g : Stands id v t) → Makings.HasBlock 𝓛 R own cv holds keeps p z n t → Asked t ⊢ upd 𝓤 TakenUp
      has t g th = let y : Body R.Denot = th.0 in let x : R.Denot = y.0 in let ws : List ℕ = th.1 in let c : Cell R.Denot = Has y ws in let cs : List (Cell R.Denot) = t.parts.cells in
          let low = th.3 in let of = Makings.is_mine 𝓛 R own cv holds keeps p z n t c mine g.1 th.2 (λ q. absurd (cc q)) low in
          let value_is = ap value_in (block_is z.roots z.count t.parts g.1 n low ∙ ap block_in th.2) in
          let facts : (0 < n) × IsIts z (n - 1) × IsValueOf holds id v n x = (low, of, (state_of z t, g.0, g.2, value_is)) in
          let one : n ≡ suc i = omega (arith, low) in
          let alone : Alone holds id v (suc i) = subst (λ (k : ℕ). Alone holds id v k) one (owns_alone holds keeps id v n owns) in
          qed 𝓛 (‵ (Ws t.parts) ∷ ‵ (Led t) ∷ ‵ (seat id v) ∷ ‵ (flft α e) ∷ []) ∵
          use1 𝓛 (‵ (cell_of i c) ⊛ raw (all 𝓤 (Recells t i)))
          (Numbers.celled 𝓛 R p z (Moves.lent 𝓛 R own cv holds keeps p z) had t.parts.words cs i c of th.2) $ split ! $
          use0 𝓛 (raw (upd 𝓤 (ex 𝓤 (Fresh x id v)))) (notes x id v) $ settle 𝓛 TakenUp (items (λ (ρ : ℕ). ‵ (fresh_note x id v ρ))) $ pick ! (λ ρ.
          let Rest : Fml = entries_from shared_view ρ 1 (λ _. (full_share, noted_coded.code (x, (id, cv.code v)))) in let d : Cell R.Denot = Held ρ e y ws in
          use1 𝓛 (‵ (Note ρ full_share x id v) ⊛ ‵ Rest) (entries_take shared_view 𝓛 ρ 0 (λ _. (full_share, noted_coded.code (x, (id, cv.code v))))) $ split ! $
          move ! (1 ∷ []) $ drop ! $
          use1 𝓛 (‵ (Note ρ quarter x id v) ⊛ ‵ (Note ρ three_quarters x id v)) (Ledgers.cuts 𝓛 noted_coded ρ 0 (x, (id, cv.code v))) $ split ! $
          -- [a quarter of the note; three; the cell; the others; the views; the seat; the share]
          move ! (2 ∷ []) $ fsplit ! $ move ! (1 ∷ []) $ fsplit ! $ move ! (1 ∷ []) $ fsplit ! $ move ! (1 ∷ []) $ fsplit ! $
          -- the own words behind all else: [the entry; the value; the hand; the sign; a quarter; three; the others; the views; the seat; the share]
          move ! (2 ∷ 1 ∷ 3 ∷ 4 ∷ 5 ∷ 6 ∷ 7 ∷ 8 ∷ 9 ∷ 10 ∷ 0 ∷ []) $
          move ! (2 ∷ []) $ use1 𝓛 (‵ (hands quarter i resting) ⊛ ‵ (hands three_quarters i resting)) (Ledgers.cuts 𝓛 hand_coded z.hands_name i resting) $
          split ! $
          use2 𝓛 (raw (upd 𝓤 (⟦ hands quarter i (held ρ e) ⟧ ∗ ⟦ hands three_quarters i (held ρ e) ⟧)))
          (Makings.turns_hand 𝓛 R own cv holds keeps p z i resting resting (held ρ e)) $
          settle 𝓛 TakenUp (‵ (hands quarter i (held ρ e)) ⊛ ‵ (hands three_quarters i (held ρ e))) $ split ! $ suffices ! _ (upd_i 𝓤 TakenUp) $
          -- [the hand, by two; the entry; the value; the sign; a quarter; three; the others; the views; the seat; the share]
          nothing ! $ fpack ! (Alone holds id v (suc i)) (λ _. ftrue) alone $ move ! (10 ∷ 0 ∷ []) $ fjoin ! $ move ! (6 ∷ 0 ∷ []) $ fjoin ! $
          fpack ! (ℕ × V) (λ u. fsep (Note ρ quarter x u.0 u.1) (fsep (seen cv.code z.views_name three_quarters u.0 u.1)
          (fact (Alone holds u.0 u.1 (suc i))))) (id, v) $
          move ! (10 ∷ 0 ∷ []) $ fjoin ! $
          -- [who has it; the hand, by two; the entry; the value; the sign; three; the others; the views; the share]
          move ! (9 ∷ 0 ∷ []) $ fjoin ! $ move ! (3 ∷ 0 ∷ []) $ fjoin ! $ move ! (1 ∷ 0 ∷ []) $ fjoin ! $ move ! (3 ∷ 0 ∷ []) $ fjoin ! $
          -- [the cell; three quarters of the hand; the value; three of the note; the others; the views]
          move ! (0 ∷ 4 ∷ 5 ∷ []) $ use3 𝓛 (‵ I) (Makings.recell 𝓛 R own cv holds keeps p z t (g.0, g.1) i d (sym (ap block_in th.2))) $ frame ! $
          -- [three quarters of the hand; the value; three of the note]
          fjoin ! $ move ! (1 ∷ 0 ∷ []) $ fjoin ! $
          nothing ! $ fpack ! ((0 < n) × IsIts z (n - 1) × IsValueOf holds id v n x) (λ _. ftrue) facts $ fjoin ! $ fpack ! (ℕ × R.Denot) Holding (ρ, x) $ done !)

      any : (t : In) (g : Stands id v t) → Makings.HasBlock 𝓛 R own cv holds keeps p z n t ⊎ Makings.HeldBlock 𝓛 R own cv holds keeps p z n t → Asked t ⊢ upd 𝓤 TakenUp
      any t g (inl th) = has t g th
      any t g (inr h) = let Z : Pr = upd 𝓤 TakenUp in
          qed 𝓛 (‵ (Ws t.parts) ∷ ‵ (Led t) ∷ ‵ (seat id v) ∷ ‵ (flft α e) ∷ []) ∵ keep ! (0 ∷ 1 ∷ 2 ∷ []) $
          types.Kit.by ! (Makings.held_away 𝓛 R own cv holds keeps p z n t mine (g.0, g.1) h id v id v None (seat id v)
          (Hands.one_shows 𝓛 R own cv holds p z id v id v three_quarters refl refl)
          (Hands.one_crowds 𝓛 R own cv holds p z id v id v three_quarters refl) Z (λ s so at _ _. (owns s so at).0))

      pub takes_up : ⟦ I ⟧ ∗ (⟦ seat id v ⟧ ∗ ⟦ flft α e ⟧) ⊢ upd 𝓤 TakenUp
      takes_up = Makings.opens_seated 𝓛 R own cv holds keeps p z id v ⟦ flft α e ⟧ (upd 𝓤 TakenUp)
          (λ t g. any t g (Makings.has_block 𝓛 R own cv holds keeps p z n t g.1 (owns (state_of z t) g.0 g.2).0))

    -- ---- ANOTHER VALUE IS PUT in its place, and the share comes back
    module _ (ρ : ℕ) (x new : R.Denot) (there : own.at x ≡ own.at new) (many : own.count x ≡ own.count new) (so : Op.Out R.Denot → V → Type 0)
        (stays : StayAllSo cv.away v so) (law : Allows holds keeps id v (Rewrite n new) so) (low : 0 < n) (of : IsIts z (n - 1)) where
      abbrev pub PutBack : Pr
      PutBack = ⟦ I ⟧ ∗ (⟦ gone_on id (so (Taken x)) ⟧ ∗ ⟦ flft α e ⟧)

      abbrev Hh : Fml
      Hh = hands three_quarters i (held ρ e)

      abbrev pub Ready : Pr
      Ready = ⟦ Hh ⟧ ∗ ⟦ Note ρ three_quarters x id v ⟧ ∗ ⟦ value i new ⟧

      abbrev Sound : In → Type 0
      Sound = Makings.Sound 𝓛 R own cv holds keeps p z

      -- the memory with the new value
      abbrev renewed : (t : In) (sound : Sound t) → List ℕ → List ℕ → Parts R.Denot
      renewed t sound us ws = recelled z.roots z.count t.parts sound.1 i (Has (new, us) ws) t.parts.given

      goes : (t : In) (sound : Sound t) (s : Share) (y : Body R.Denot) (ws : List ℕ) (ρ' : ℕ) → cell_at t.parts.cells i ≡ Held ρ' s y ws → y.0 ≡ x
          → slice_get t.views id ≡ Some v
          → AreLaid z.roots z.count (renewed t sound y.1 ws) × Goes holds keeps (state_of z t) (memory_of z.roots (renewed t sound y.1 ws)) id (so (Taken x))
      goes t sound s y ws ρ' is same_value at = let mo : Mem R.Denot = memory_of z.roots t.parts in let d : Cell R.Denot = Has (new, y.1) ws in
          let here = block_is z.roots z.count t.parts sound.1 n low ∙ ap block_in is in
          let given = was_given z.roots z.count t.parts sound.1 i _ (ap block_in is) in
          let four = sound.1.fours i _ (ap block_in is) in
          let same = ap (λ (l : List (Option (Block R.Denot))). record mo { blocks = l }) (blocks_set t.parts.given t.parts.cells i d
          ∙ ap (λ (y : Option (Block R.Denot)). slice_set (blocks_in t.parts.given t.parts.cells) i (with_value_in y new)) (sym here)) in (
            laid_with z.roots z.count t.parts sound.1 i d t.parts.given (omega arith) sound.1.within (inr given) (λ b q.
                let block : record { value = new; entry = ws; words = y.1 } ≡ b = cc q in sym (ap (λ (l : Block R.Denot). length l.entry) block) ∙ four),
            (law (state_of z t) sound.0 at).1 (Taken x) (memory_of z.roots (renewed t sound y.1 ws)) (ap value_in here ∙ ap Some same_value, same),
          )

      abbrev Opened : In → Cell R.Denot → Pr
      Opened t c = ⟦ cell_of i c ⟧ ∗ all 𝓤 (Recells t i) ∗ ⟦ Led t ⟧ ∗ Ready

      -- what the call has noted is what stands with the block
      found : (t : In) (sound : Sound t) (s : Share) (ρ' : ℕ) (y : Body R.Denot) (ws : List ℕ) (w : ℕ × V) → cell_at t.parts.cells i ≡ Held ρ' s y ws
          → held ρ' s ≡ held ρ e → y.0 ≡ x → w.0 ≡ id → w.1 ≡ v
          → ⟦ hands quarter i (held ρ' s) ⟧ ∗ ⟦ Hh ⟧ ∗ ⟦ word (block_of p) ((i - z.first) * 40 + (z.skip * 8 + count_of p) + 32) 1 ⟧ ∗ ⟦ entry i ws ⟧ ∗
          ⟦ value i new ⟧ ∗ ⟦ flft α s ⟧ ∗ ⟦ seen cv.code z.views_name three_quarters w.0 w.1 ⟧ ∗ all 𝓤 (Recells t i) ∗ ⟦ Led t ⟧ ∗ ⟦ piece own y ⟧ ⊢ upd 𝓤 PutBack
      found t sound s ρ' y ws w is same_hand same_value same_seat same_view =
          let d : Cell R.Denot = Has (new, y.1) ws in let cs : List (Cell R.Denot) = slice_set t.parts.cells i d in let told : V → Type 0 = so (Taken x) in
          let S : Fml = word (block_of p) ((i - z.first) * 40 + (z.skip * 8 + count_of p) + 32) 1 in
          qed 𝓛 (‵ (hands quarter i (held ρ' s)) ∷ ‵ Hh ∷ ‵ S ∷ ‵ (entry i ws) ∷ ‵ (value i new) ∷ ‵ (flft α s) ∷
          ‵ (seen cv.code z.views_name three_quarters w.0 w.1) ∷ raw (all 𝓤 (Recells t i)) ∷ ‵ (Led t) ∷ ‵ (piece own y) ∷ []) ∵
          rewrite ! 6 (λ (u : ℕ × V). ‵ (seen cv.code z.views_name three_quarters u.0 u.1)) (λ k. (same_seat k, same_view k)) refl $
          rewrite ! 5 (λ (u : Share). ‵ (flft α u)) (ap (λ (h : Hand). h.1) same_hand) refl $
          use2 𝓛 (raw (upd 𝓤 (⟦ hands quarter i resting ⟧ ∗ ⟦ hands three_quarters i resting ⟧)))
          (Makings.turns_hand 𝓛 R own cv holds keeps p z i (held ρ' s) (held ρ e) resting) $
          settle 𝓛 PutBack (‵ (hands quarter i resting) ⊛ ‵ (hands three_quarters i resting)) $ split ! $
          use2 𝓛 (given (resting ≡ resting) (‵ (hands full_share i resting))) (Ledgers.glues 𝓛 hand_coded z.hands_name i resting resting) $ learn ! (λ _.
          -- [the hand; the sign; the entry; the value; the share; the seat; the others; the views; the own words]
          move ! (8 ∷ []) $ use1 𝓛 (‵ (piece own (new, y.1)))
          (Pieces.alike 𝓛 own y.0 new y.1 (ap own.at same_value ∙ there) (ap own.count same_value ∙ many)) $ move ! (0 ∷ 4 ∷ []) $ fjoin ! $
          move ! (3 ∷ 0 ∷ []) $ fjoin ! $ move ! (1 ∷ 0 ∷ []) $ fjoin ! $ move ! (1 ∷ 0 ∷ []) $ fjoin ! $
          -- [the cell; the share; the seat; the others; the views]
          move ! (3 ∷ []) $ use1 𝓛 (raw (Recells t i d)) (all_e 𝓤 (Recells t i) d) $ move ! (1 ∷ 0 ∷ []) $
          use2 𝓛 (‵ (Numbers.Ws 𝓛 R p z (Moves.lent 𝓛 R own cv holds keeps p z) had t.parts.words cs))
          (apply∗ 𝓤 ⟦ cell_of i d ⟧ ⟦ Numbers.Ws 𝓛 R p z (Moves.lent 𝓛 R own cv holds keeps p z) had t.parts.words cs ⟧) $
          -- [the memory; the share; the seat; the views]
          move ! (3 ∷ 2 ∷ []) $ use2 𝓛 (given (slice_get t.views id ≡ Some v) (‵ (Led t) ⊛ ‵ (seat id v)))
          (Sitters.sits 𝓛 α cv z.views_name t.blank t.views id three_quarters v) $ learn ! (λ at. split ! $ move ! (2 ∷ 0 ∷ 1 ∷ []) $
          let r = goes t sound s y ws ρ' is same_value at in
          use3 𝓛 (raw (upd 𝓤 (⟦ I ⟧ ∗ ⟦ gone_on id told ⟧))) (Moves.back 𝓛 R own cv holds keeps p z id v t (renewed t sound y.1 ws) told (stays (Taken x)) r.0 at r.1) $
          settle 𝓛 PutBack (‵ I ⊛ ‵ (gone_on id told)) $ split ! $ suffices ! _ (upd_i 𝓤 PutBack) $ done !))

      none_of_theirs : (t : In) (c : Cell R.Denot) → Makings.IsAnothers 𝓛 R own cv holds keeps p z (held ρ e) c → Opened t c ⊢ upd 𝓤 PutBack
      none_of_theirs t c ne =
          Makings.none_of_theirs 𝓛 R own cv holds keeps p z t i (held ρ e) c (⟦ Note ρ three_quarters x id v ⟧ ∗ ⟦ value i new ⟧) (upd 𝓤 PutBack) ne

      by_cell : (t : In) (sound : Sound t) (c : Cell R.Denot) → cell_at t.parts.cells i ≡ c → Opened t c ⊢ upd 𝓤 PutBack
      by_cell t sound Free is = none_of_theirs t Free tt
      by_cell t sound (Has y ws) is = none_of_theirs t (Has y ws) tt
      by_cell t sound Claimed is = none_of_theirs t Claimed (λ same. Makings.held_is_not 𝓛 R own cv holds keeps p z ρ e (sym same))
      by_cell t sound (Out s) is = none_of_theirs t (Out s) (λ same. Makings.held_is_not_busy 𝓛 R own cv holds keeps p z ρ e s (sym same))
      by_cell t sound (Held ρ' s y ws) is =
          qed 𝓛 (‵ (cell_of i (Held ρ' s y ws)) ∷ raw (all 𝓤 (Recells t i)) ∷ ‵ (Led t) ∷ (‵ Hh ⊛ ‵ (Note ρ three_quarters x id v) ⊛ ‵ (value i new)) ∷ []) ∵
          move ! (3 ∷ []) $ split3 ! $ move ! (3 ∷ []) $ fsplit ! $ move ! (1 ∷ []) $ fsplit3 ! $ move ! (2 ∷ []) $ fsplit ! $ move ! (1 ∷ []) $
          -- [who has it; the share; the hand; the entry; the sign; three quarters; the note; the new value; the others; the views]
          move ! (2 ∷ 5 ∷ []) $ use2 𝓛 (given (held ρ' s ≡ held ρ e) (‵ (hands quarter i (held ρ' s)) ⊛ ‵ Hh))
          (Makings.same_hand 𝓛 R own cv holds keeps p z i (held ρ e) (held ρ' s)) $ learn ! (λ same. split ! $
          let named : ρ' ≡ ρ = two_less (ap (λ (h : Hand). h.0) same) in
          -- [the hand, by two; who has it; the share; the entry; the sign; the note; the new value; the others; the views]
          move ! (2 ∷ []) $ rewrite ! 0 (λ (k : ℕ). ‵ (had k i y)) named refl $ fsplit ! $
          -- the own words behind all else
          move ! (1 ∷ 2 ∷ 3 ∷ 4 ∷ 5 ∷ 6 ∷ 7 ∷ 8 ∷ 9 ∷ 10 ∷ 0 ∷ []) $ fpick ! (λ w. fsplit3 ! $
          -- [the note's quarter; the seat; alone; the hand, by two; the share; the entry; the sign; the note; the new value; the others; the views]
          move ! (2 ∷ []) $ drop ! $ move ! (0 ∷ 7 ∷ []) $
          use2 𝓛 (given ((y.0, (w.0, cv.code w.1)) ≡ (x, (id, cv.code v))) (‵ (Note ρ quarter y.0 w.0 w.1) ⊛ ‵ (Note ρ three_quarters x id v)))
          (Ledgers.agree 𝓛 noted_coded ρ 0 three_quarters (y.0, (w.0, cv.code w.1)) (x, (id, cv.code v))) $ learn ! (λ noted. drop ! $
          -- [the seat; the hand, by two; the share; the entry; the sign; the new value; the others; the views]
          move ! (1 ∷ 2 ∷ 5 ∷ 4 ∷ 6 ∷ 3 ∷ 0 ∷ 7 ∷ 8 ∷ 9 ∷ []) $
          types.Kit.by ! (found t sound s ρ' y ws w is same (ap (λ (u : Noted). u.0) noted) (ap (λ (u : Noted). u.1.0) noted)
          (cv.inj w.1 v (ap (λ (u : Noted). u.1.1) noted))))))
        where
          two_less : {a b : ℕ} → suc (suc a) ≡ suc (suc b) → a ≡ b
          two_less same = omega (arith, same)

      pub puts_back : ⟦ I ⟧ ∗ Ready ⊢ upd 𝓤 PutBack
      puts_back = Makings.opens 𝓛 R own cv holds keeps p z Ready (upd 𝓤 PutBack) i of by_cell
