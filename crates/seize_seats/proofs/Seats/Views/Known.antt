-- Whoever knows of a strip finds it among those of the invariant, as long as that is open. Assumes `Logic`.
use Rattle.std.proofs.Common.{ℕ, zero, suc, List, [], ◌∷◌, length}
use seplogic.Ra.Ura.{Ura}
use base.Share
use base.Logic.{SProp, ent, sep, ex, all, upd, apply∗, all_e, upd_i}
use base.Fml.{Lft, Share, Fml, ftrue, fsep, flft, fbor, finv}
use types.Logic.{Logic, sem}
use types.Kit.{‵, raw, ◌⊛◌, some as items, given, ◌$◌, ◌∵◌, !, qed, by, move, drop, split, fsplit, fsplit3, fjoin, fjoin3, fpick, fpack, pick, learn, show, frame, each, assume, suffices, settle, use1, use2, done}
use denote.RattleType.{RattleType}
use denote.RawPtr.{Ptr, block_ptr}
use denote.Steps.{nothing}
use Rattle.core.specs.Sync.RawAtomic.{word, asks, always}
use Rattle.core.proofs.raw_atomic.Asked.{borrowed, Lies, Again}
use Rattle.seize_seats.specs.Seats.Errands.{ViewCode}
use Rattle.seize_seats.specs.Seats.State.{State}
use Rattle.seize_seats.specs.Seats.Seen.{seen}
use Rattle.seize_seats.specs.Seats.Cells.{Cell}
use Rattle.seize_seats.specs.Seats.Strips.{Strip, strip_coded, no_strip, AreStrips}
use Rattle.seize_seats.specs.Seats.Doors.{stays as lasts}
use Rattle.seize_seats.specs.Seats.Buckets.{IsBucket}
use Rattle.seize_seats.specs.Seats.Stretches.{IsEven, invariant}
use Rattle.seize_seats.specs.Seats.Owned.{Pieces, ledger, listed, BaseId, Inside, age, core_of, book_of, strip_of, IsListed, bucket_known, is_listed, lent_here, had_here, standing, standing_in, inner, everything, told}
use Rattle.seize_seats.proofs.Seats.Views.Ledgers as Ledgers
use Rattle.seize_seats.proofs.Seats.Views.Stretches as Stretches

-- that a strip, or a bucket, stays in a list may be told again
stays_twice : {M : Type 1} {𝓤 : Ura M} (𝓛 : Logic 𝓤) (σ k : ℕ) (s : Strip) → ent 𝓤 (sem 𝓛 (lasts σ k s)) (sep 𝓤 (sem 𝓛 (lasts σ k s)) (sem 𝓛 (lasts σ k s)))
stays_twice 𝓛 σ k s = let Sh : Share → Fml = λ q. seen strip_coded.code σ q k s in
    qed 𝓛 (‵ (lasts σ k s) ∷ []) ∵ fpick ! (λ q. let q₁ : Share = Share.left q in let q₂ : Share = Share.right q in
    use1 𝓛 (‵ (Sh q₁) ⊛ ‵ (Sh q₂)) ((Ledgers.view_halves 𝓛 strip_coded σ k s).cut q) $ split ! $
    fpack ! Share Sh q₁ $ move ! (1 ∷ []) $ fpack ! Share Sh q₂ $ done !)

pub bucket_twice : {M : Type 1} {𝓤 : Ura M} (𝓛 : Logic 𝓤) (σ k : ℕ) (s : Strip)
    → ent 𝓤 (sem 𝓛 (bucket_known σ k s)) (sep 𝓤 (sem 𝓛 (bucket_known σ k s)) (sem 𝓛 (bucket_known σ k s)))
bucket_twice 𝓛 σ zero s = qed 𝓛 (‵ ftrue ∷ []) ∵ nothing ! $ done !
bucket_twice 𝓛 σ (suc k) s = let St : Fml = lasts σ (suc k) s in qed 𝓛 (‵ (bucket_known σ (suc k) s) ∷ []) ∵ fsplit ! $ fpick ! (λ is. drop ! $
    use1 𝓛 (‵ St ⊛ ‵ St) (stays_twice 𝓛 σ (suc k) s) $ split ! $ nothing ! $ fpack ! (IsBucket k s) (λ _. ftrue) is $ move ! (0 ∷ 1 ∷ []) $ fjoin ! $
    move ! (1 ∷ []) $ nothing ! $ fpack ! (IsBucket k s) (λ _. ftrue) is $ move ! (0 ∷ 1 ∷ []) $ fjoin ! $ done !)

-- what is known of a strip may be told again
pub listed_twice : {M : Type 1} {𝓤 : Ura M} (𝓛 : Logic 𝓤) (p : Ptr) (z : BaseId)
    → ent 𝓤 (sem 𝓛 (is_listed p z)) (sep 𝓤 (sem 𝓛 (is_listed p z)) (sem 𝓛 (is_listed p z)))
listed_twice 𝓛 p z = let St : Fml = lasts z.strips_name z.place (strip_of p z) in let B : Fml = bucket_known z.slots_name z.bucket z.slots in
    qed 𝓛 (‵ (is_listed p z) ∷ []) ∵ fsplit ! $ use1 𝓛 (‵ St ⊛ ‵ St) (stays_twice 𝓛 z.strips_name z.place (strip_of p z)) $ split ! $ move ! (2 ∷ []) $
    use1 𝓛 (‵ B ⊛ ‵ B) (bucket_twice 𝓛 z.slots_name z.bucket z.slots) $ split ! $ move ! (2 ∷ 0 ∷ []) $ fjoin ! $ move ! (2 ∷ 1 ∷ []) $ fjoin ! $ move ! (1 ∷ []) $ done !

module _ {M : Type 1} {𝓤 : Ura M} (𝓛 : Logic 𝓤) (R : RattleType) (own : Pieces R.Denot) {V W : Type 0} (cv : ViewCode V) (holds : State R.Denot V W → Type 0) (p : Ptr) (z : BaseId) where
  open 𝓛 use {H, A}

  abbrev Pr : Type 2
  Pr = SProp 𝓤

  abbrev ◌⊢◌ : Pr → Pr → Type 1
  P ⊢ Q = ent 𝓤 P Q

  abbrev ◌∗◌ : Pr → Pr → Pr
  P ∗ Q = sep 𝓤 P Q

  abbrev ⟦◌⟧ : Fml → Pr
  ⟦ P ⟧ = sem 𝓛 P

  infix 26 ◌⊢◌
  infixr 35 ◌∗◌
  abbrev α : Lft
  α = age z

  -- the invariant itself, and as it is seen by who knows of the strip
  abbrev E : Fml
  E = everything R own cv holds (core_of z)

  abbrev I : Fml
  I = inner R own cv holds p z

  abbrev L : Fml
  L = is_listed p z

  abbrev Inv : Fml
  Inv = told R own cv holds p z

  abbrev Book : List Strip → Fml
  Book ss = ledger strip_coded.code z.strips_name no_strip ss

  abbrev Sh : Share → Fml
  Sh q = seen strip_coded.code z.strips_name q z.place (strip_of p z)

  abbrev Listed : (List Strip → Type 0) → List (Cell R.Denot) → List Strip → Fml
  Listed = listed R α z.hands_name (lent_here R own cv holds p z) (had_here R own cv holds p z) (book_of z)

  abbrev Any : List Strip → Type 0
  Any ss = Unit {0}

  abbrev Are : (List Strip → Type 0) → Inside R.Denot V W → List Strip → Type 0
  Are Known t ss = AreStrips 0 ss (length t.parts.cells) × Known ss

  pub comes_in : ⟦ E ⟧ ∗ ⟦ L ⟧ ⊢ ⟦ I ⟧
  comes_in = qed 𝓛 (‵ E ∷ ‵ L ∷ []) ∵ fpick ! (λ t. fsplit3 ! $ fsplit ! $ move ! (1 ∷ []) $ fpick ! (λ ss. fsplit3 ! $ move ! (1 ∷ []) $ fpick ! (λ are. drop ! $
      -- [the list; the strips; the words; the views; the facts; what is known]
      move ! (5 ∷ []) $ fsplit ! $ move ! (1 ∷ []) $ drop ! $ fpick ! (λ q. move ! (1 ∷ []) $ fsplit ! $ fsplit ! $ move ! (0 ∷ 3 ∷ []) $
      use2 𝓛 (given (IsListed p z ss) (‵ (Book ss) ⊛ ‵ (Sh q))) (Ledgers.sits 𝓛 strip_coded z.strips_name no_strip ss z.place q (strip_of p z)) $
      learn ! (λ at. split ! $ move ! (1 ∷ []) $ drop ! $ fjoin ! $ fjoin ! $
      nothing ! $ fpack ! (Are (IsListed p z) t ss) (λ _. ftrue) (are.0, at) $ move ! (1 ∷ 0 ∷ 2 ∷ []) $ fjoin3 ! $
      fpack ! (List Strip) (Listed (IsListed p z) t.parts.cells) ss $ move ! (1 ∷ 0 ∷ []) $ fjoin ! $ fjoin3 ! $
      fpack ! (Inside R.Denot V W) (standing R own cv holds p z) t $ done !)))))

  pub goes_out : ⟦ I ⟧ ⊢ ⟦ E ⟧
  goes_out = qed 𝓛 (‵ I ∷ []) ∵ fpick ! (λ t. fsplit3 ! $ fsplit ! $ move ! (1 ∷ []) $ fpick ! (λ ss. fsplit3 ! $ move ! (1 ∷ []) $ fpick ! (λ are. drop ! $
      nothing ! $ fpack ! (Are Any t ss) (λ _. ftrue) (are.0, tt) $ move ! (1 ∷ 0 ∷ 2 ∷ []) $ fjoin3 ! $
      fpack ! (List Strip) (Listed Any t.parts.cells) ss $ move ! (1 ∷ 0 ∷ []) $ fjoin ! $ fjoin3 ! $
      fpack ! (Inside R.Denot V W) (standing_in R own cv holds (core_of z) Any) t $ done !)))

  -- it may be told again
  pub twice : ⟦ Inv ⟧ ⊢ ⟦ Inv ⟧ ∗ ⟦ Inv ⟧
  twice = let P : Fml = invariant IsEven (fbor α E) in qed 𝓛 (‵ Inv ∷ []) ∵ fsplit ! $ use1 𝓛 (‵ L ⊛ ‵ L) (listed_twice 𝓛 p z) $ split ! $ move ! (2 ∷ []) $
      use1 𝓛 (‵ P ⊛ ‵ P) (Stretches.twice 𝓛 IsEven (fbor α E)) $ split ! $ move ! (2 ∷ 0 ∷ []) $ fjoin ! $ move ! (2 ∷ 1 ∷ []) $ fjoin ! $ done !

  -- where it stays open but for a step
  pub within : (K Q : Pr) → ⟦ I ⟧ ∗ K ⊢ upd 𝓤 (⟦ I ⟧ ∗ Q) → ⟦ E ⟧ ∗ (⟦ L ⟧ ∗ K) ⊢ upd 𝓤 (⟦ E ⟧ ∗ Q)
  within K Q go = let Z : Pr = ⟦ E ⟧ ∗ Q in qed 𝓛 (‵ E ∷ (‵ L ⊛ raw K) ∷ []) ∵ move ! (1 ∷ []) $ split ! $ move ! (2 ∷ 0 ∷ []) $ use2 𝓛 (‵ I) comes_in $
      use2 𝓛 (raw (upd 𝓤 (⟦ I ⟧ ∗ Q))) go $ settle 𝓛 Z (‵ I ⊛ raw Q) $ split ! $ suffices ! _ (upd_i 𝓤 Z) $ use1 𝓛 (‵ E) goes_out $ done !

  -- a step on a word
  module _ (q : Share) (b e : ℕ) (f : ℕ → ℕ) (after : ℕ → Fml) where
    abbrev Again_in : Fml → ℕ → Pr
    Again_in J n = Again 𝓛 α q J b e f always after n

    abbrev Lies_in : Fml → ℕ → Pr
    Lies_in J n = Lies 𝓛 α q J b e f always after n

    abbrev lies_item : ℕ → types.Kit.Item 𝓤
    lies_item n = ‵ (word b e n) ⊛ raw (all 𝓤 (λ (_ : always n). Again_in I n))

    outside : (n : ℕ) → Lies_in I n ⊢ Lies_in E n
    outside n = let Z : Pr = ⟦ E ⟧ ∗ ⟦ after n ⟧ in qed 𝓛 (lies_item n ∷ []) ∵ split ! $ frame ! $
        each ! (λ (_ : always n). Again_in E n) (λ y. use1 𝓛 (raw (Again_in I n)) (all_e 𝓤 (λ (_ : always n). Again_in I n) y) $
        assume ! (‵ (word b e (f n))) $
        use2 𝓛 (raw (upd 𝓤 (⟦ I ⟧ ∗ ⟦ after n ⟧))) (apply∗ 𝓤 ⟦ word b e (f n) ⟧ (upd 𝓤 (⟦ I ⟧ ∗ ⟦ after n ⟧))) $
        settle 𝓛 Z (‵ I ⊛ ‵ (after n)) $ split ! $ suffices ! _ (upd_i 𝓤 Z) $ use1 𝓛 (‵ E) goes_out $ done !)

    stays : (K : Pr) → ⟦ I ⟧ ∗ K ⊢ upd 𝓤 (ex 𝓤 (Lies_in I)) → ⟦ E ⟧ ∗ (⟦ L ⟧ ∗ K) ⊢ upd 𝓤 (ex 𝓤 (Lies_in E))
    stays K go = let Z : Pr = ex 𝓤 (Lies_in E) in qed 𝓛 (‵ E ∷ (‵ L ⊛ raw K) ∷ []) ∵ move ! (1 ∷ []) $ split ! $ move ! (2 ∷ 0 ∷ []) $
        use2 𝓛 (‵ I) comes_in $ use2 𝓛 (raw (upd 𝓤 (ex 𝓤 (Lies_in I)))) go $ settle 𝓛 Z (items lies_item) $ suffices ! _ (upd_i 𝓤 Z) $
        pick ! (λ n. show ! (Lies_in E) n $ by ! (outside n))

    pub stepped : (K : Pr) → ⟦ I ⟧ ∗ K ⊢ upd 𝓤 (ex 𝓤 (Lies_in I))
        → ⟦ Inv ⟧ ∗ (A.lft α q ∗ K) ⊢ asks 𝓛 (block_ptr b e) f always (λ n. fsep (flft α q) (after n))
    stepped K go = qed 𝓛 (‵ Inv ∷ (‵ (flft α q) ⊛ raw K) ∷ []) ∵ fsplit ! $ move ! (1 ∷ []) $
        use1 𝓛 (‵ (finv (fbor α E))) (Stretches.plain 𝓛 IsEven (fbor α E)) $ move ! (2 ∷ []) $ split ! $
        -- [the token; K; the invariant; the strip]
        move ! (2 ∷ 0 ∷ 3 ∷ 1 ∷ []) $ by ! (borrowed 𝓛 α q E b e f always after (⟦ L ⟧ ∗ K) (stays K go))
