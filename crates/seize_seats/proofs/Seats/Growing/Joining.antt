-- A strip more joins the others, with words that are 0 and places without a value: its numbers follow those that are there. Assumes `Logic`.
use Rattle.std.specs.Prelude.{replicate}
use Rattle.std.proofs.Common.{◌≡◌, ℕ, zero, suc, ◌+◌, ◌*◌, ◌≤◌, List, [], ◌∷◌, ◌++◌, length, take, drop, refl, sym, ap, ◌∙◌, subst, arith, None, length-append}
use Rattle.std.proofs.lemmas.List.{length-replicate, length-drop, take_all, take-append-le, drop-append-le}
use seplogic.Ra.Ura.{Ura}
use base.Share
use base.Share.{three_quarters}
use base.Logic.{SProp, ent, sep, wand, upd, apply∗, upd_i}
use base.Fml.{Lft, Share, Fml, ftrue, fsep}
use types.Logic.{Logic, sem}
use types.Kit.{‵, raw, ◌⊛◌, ◌$◌, ◌∵◌, !, qed, move, split, fsplit, fjoin, fjoin3, fpack, suffices, settle, use1, use2, use3, rewrite, done}
use denote.RattleType.{RattleType}
use denote.RawPtr.{block_of, count_of}
use denote.Steps.{nothing}
use Rattle.seize_seats.specs.Seats.Seen.{seen}
use Rattle.seize_seats.specs.Seats.Cells.{Body, Cell, Free, block_in, blocks_in, cell_at}
use Rattle.seize_seats.specs.Seats.Lines.{Parts, memory_of, AreLaid}
use Rattle.seize_seats.specs.Seats.Strips.{Strip, strip_coded, no_strip, further, Book, AreStrips}
use Rattle.seize_seats.specs.Seats.Doors.{stays}
use Rattle.seize_seats.specs.Seats.Owned.{row, ledger, unborn, hand_coded, resting, doors_of, places, numbers, strips, listed}
use Rattle.seize_seats.proofs.Seats.Places.Strips.{strips_up}
use Rattle.seize_seats.proofs.Seats.Views.Ledgers as Ledgers
use Rattle.seize_seats.proofs.Seats.Opening.{fives}
use Rattle.seize_seats.proofs.Seats.Opening as Opening

-- ---- the memory stays as it is
module _ {T : Type 0} where
  abbrev pub more : List (Cell T) → ℕ → List (Cell T)
  more cs m = cs ++ replicate m Free

  -- no other number has another cell
  pub cell_more : (cs : List (Cell T)) (m k : ℕ) → cell_at (more cs m) k ≡ cell_at cs k
  cell_more [] zero k = refl
  cell_more [] (suc m) zero = refl
  cell_more [] (suc m) (suc k) = cell_more [] m k
  cell_more (c ∷ cs) m zero = refl
  cell_more (c ∷ cs) m (suc k) = cell_more cs m k

  blocks_more : (g : ℕ) (cs : List (Cell T)) (m : ℕ) → g ≤ length cs → blocks_in g (more cs m) ≡ blocks_in g cs
  blocks_more zero cs m le = refl
  blocks_more (suc g) [] m le = absurd (omega (arith, le))
  blocks_more (suc g) (c ∷ cs) m le = ap (λ l. block_in c ∷ l) (blocks_more g cs m (omega (arith, le)))

  module _ (roots count : ℕ) (s : Parts T) (laid : AreLaid roots count s) (m : ℕ) where
    abbrev pub grown : Parts T
    grown = record s { cells = more s.cells m }

    abbrev long : length (more s.cells m) ≡ length s.cells + m
    long = length-append s.cells (replicate m Free) ∙ ap (λ (k : ℕ). length s.cells + k) (length-replicate m Free)

    pub laid_grown : length s.cells + m ≤ count → AreLaid roots count grown × (memory_of roots grown ≡ memory_of roots s)
    laid_grown few = (
      record {
        all = laid.all;
        slots_are = laid.slots_are;
        counted = let l = long in omega (arith, l, few);
        within = let l = long in let w = laid.within in omega (arith, l, w);
        rest = λ k le. ap block_in (cell_more s.cells m k) ∙ laid.rest k le;
        fours = λ k x e. laid.fours k x (sym (ap block_in (cell_more s.cells m k)) ∙ e);
      },
      ap (λ l. record (memory_of roots s) { blocks = l }) (blocks_more s.given s.cells m laid.within),
    )

-- ---- one strip follows the other
pub are_joined : (ss : List Strip) (j n : ℕ) (s : Strip) → AreStrips j ss n → s.first ≡ n → AreStrips j (ss ++ s ∷ []) (n + s.size)
are_joined [] j n s are first = (first ∙ are, omega (arith, are))
are_joined (x ∷ ss) j n s are first = (are.0, are_joined ss (j + x.size) n s are.1 first)

module _ {M : Type 1} {𝓤 : Ura M} (𝓛 : Logic 𝓤) (R : RattleType) (α : Lft) (δ : ℕ) (lent : ℕ → Body R.Denot → ℕ → ℕ → Fml) (had : ℕ → ℕ → Body R.Denot → Fml) where
  abbrev All : List Strip → List (Cell R.Denot) → Fml
  All ss cs = strips R α δ lent had ss cs

  abbrev Of : Strip → List (Cell R.Denot) → Fml
  Of s cs = numbers R α δ lent had (block_of s.words) (s.skip * 8 + count_of s.words) (block_of s.values) (count_of s.values) s.first cs

  strips_join : (ss : List Strip) (cs : List (Cell R.Denot)) (j n : ℕ) (s : Strip) → AreStrips j ss n → n ≡ j + length cs
      → ent 𝓤 (sep 𝓤 (sem 𝓛 (All ss cs)) (sem 𝓛 (Of s (replicate s.size Free)))) (sem 𝓛 (All (ss ++ s ∷ []) (more cs s.size)))
  strips_join [] (c ∷ cs) j n s are long = absurd (omega (arith, are, long))
  strips_join [] [] j n s are long =
      let l = length-replicate {A = Cell R.Denot} s.size Free in
      let same : take s.size (replicate s.size Free) ≡ replicate s.size Free = take_all s.size (replicate s.size Free) (omega (arith, l)) in
      qed 𝓛 (‵ ftrue ∷ ‵ (Of s (replicate s.size Free)) ∷ []) ∵ rewrite ! 1 (λ (cs : List (Cell R.Denot)). ‵ (Of s cs)) (sym same) refl $
      move ! (1 ∷ 0 ∷ []) $ fjoin ! $ done !
  strips_join (x ∷ ss) cs j n s are long =
      let up = strips_up ss (j + x.size) n are.1 in let le : x.size ≤ length cs = omega (arith, up, long) in
      let size = length-drop x.size cs in
      let rest : n ≡ j + x.size + length (drop x.size cs) = omega (arith, long, size, le) in
      let first = take-append-le x.size cs (replicate s.size Free) le in let last = drop-append-le x.size cs (replicate s.size Free) le in
      qed 𝓛 ((‵ (Of x (take x.size cs)) ⊛ ‵ (All ss (drop x.size cs))) ∷ ‵ (Of s (replicate s.size Free)) ∷ []) ∵ split ! $ move ! (1 ∷ 2 ∷ []) $
      use2 𝓛 (‵ (All (ss ++ s ∷ []) (more (drop x.size cs) s.size))) (strips_join ss (drop x.size cs) (j + x.size) n s are.1 rest) $
      rewrite ! 0 (λ (l : List (Cell R.Denot)). ‵ (All (ss ++ s ∷ []) l)) (sym last) refl $
      rewrite ! 1 (λ (l : List (Cell R.Denot)). ‵ (Of x l)) (sym first) refl $ move ! (1 ∷ 0 ∷ []) $ fjoin ! $ done !

  -- THE STRIP JOINS: its words and places go under the rule, and who has put it there can tell that it is listed
  module _ (σ : Book) (Known : List Strip → Type 0) (ss : List Strip) (cs : List (Cell R.Denot)) (s : Strip) (are : AreStrips 0 ss (length cs))
      (first : s.first ≡ length cs) (known : Known (ss ++ s ∷ [])) where
    abbrev Fives : Fml
    Fives = row (block_of s.words) (s.skip * 8 + count_of s.words) (fives s.size)

    abbrev Nones : Fml
    Nones = places R (block_of s.values) (count_of s.values) (replicate s.size None)

    abbrev Hands : ℕ → Fml
    Hands n = unborn hand_coded.code δ n resting

    abbrev Led : List Strip → Fml
    Led l = ledger strip_coded.code σ.name no_strip l

    abbrev Drs : List Strip → Fml
    Drs l = doors_of R σ l

    abbrev Sh : Share → Fml
    Sh q = seen strip_coded.code σ.name q (length ss) s

    -- it is listed, and stays so
    abbrev pub Stays : Fml
    Stays = stays σ.name (length ss) s

    abbrev pub Joined : Fml
    Joined = listed R α δ lent had σ Known (more cs s.size) (ss ++ s ∷ [])

    -- what makes the doors those of all of them, once it is listed
    abbrev pub Opens : SProp 𝓤
    Opens = wand 𝓤 (sem 𝓛 Stays) (sem 𝓛 (Drs (further (ss ++ s ∷ []))))

    pub joins : ent 𝓤 (sep 𝓤 (sem 𝓛 (fsep (Led ss) (Hands (length cs)))) (sep 𝓤 (sem 𝓛 (All ss cs)) (sep 𝓤 (sem 𝓛 Fives) (sep 𝓤 (sem 𝓛 Nones) Opens))))
        (upd 𝓤 (sep 𝓤 (sem 𝓛 Joined) (sem 𝓛 Stays)))
    joins = let Z : SProp 𝓤 = sep 𝓤 (sem 𝓛 Joined) (sem 𝓛 Stays) in let us : List Strip = ss ++ s ∷ [] in
        let q₁ : Share = Share.left three_quarters in let q₂ : Share = Share.right three_quarters in
        let long : length (more cs s.size) ≡ length cs + s.size = length-append cs (replicate s.size Free)
        ∙ ap (λ (k : ℕ). length cs + k) (length-replicate {A = Cell R.Denot} s.size Free) in
        let after = are_joined ss 0 (length cs) s are first in
        let still : AreStrips 0 us (length (more cs s.size)) = subst (AreStrips 0 us) (sym long) after in
        qed 𝓛 (‵ (fsep (Led ss) (Hands (length cs))) ∷ ‵ (All ss cs) ∷ ‵ Fives ∷ ‵ Nones ∷ raw Opens ∷ []) ∵ fsplit ! $
        -- [the list; the hands; the strips; the words; the places; what opens]
        use1 𝓛 (raw (upd 𝓤 (sep 𝓤 (sem 𝓛 (Led us)) (sem 𝓛 (Sh three_quarters))))) (Ledgers.comes 𝓛 strip_coded σ.name no_strip ss s) $
        settle 𝓛 Z (‵ (Led us) ⊛ ‵ (Sh three_quarters)) $ split ! $ suffices ! _ (upd_i 𝓤 Z) $ move ! (1 ∷ []) $
        use1 𝓛 (‵ (Sh q₁) ⊛ ‵ (Sh q₂)) ((Ledgers.view_halves 𝓛 strip_coded σ.name (length ss) s).cut three_quarters) $ split ! $
        fpack ! Share Sh q₁ $ move ! (1 ∷ []) $ fpack ! Share Sh q₂ $
        -- [it stays; it stays; the list; the hands; the strips; the words; the places; what opens]
        move ! (0 ∷ 7 ∷ []) $ use2 𝓛 (‵ (Drs (further us))) (apply∗ 𝓤 (sem 𝓛 Stays) (sem 𝓛 (Drs (further us)))) $
        -- [the doors; it stays; the list; the hands; the strips; the words; the places]
        move ! (2 ∷ 1 ∷ 3 ∷ 4 ∷ 5 ∷ 6 ∷ 0 ∷ []) $
        -- [the list; it stays; the hands; the strips; the words; the places; the doors]
        move ! (2 ∷ []) $ rewrite ! 0 (λ (n : ℕ). ‵ (Hands n)) (sym first) refl $ move ! (4 ∷ 5 ∷ 0 ∷ []) $
        use3 𝓛 (‵ (Of s (replicate s.size Free)) ⊛ ‵ (Hands (length (more cs s.size))))
        (Opening.builds 𝓛 R α δ lent had (block_of s.words) (block_of s.values) s.size s.first (length (more cs s.size)) (s.skip * 8 + count_of s.words)
        (count_of s.values) (omega (arith, long, first))) $ split ! $
        -- [its numbers; the hands; the list; it stays; the strips; the doors]
        move ! (2 ∷ 1 ∷ []) $ fjoin ! $ move ! (0 ∷ 4 ∷ []) $ fjoin ! $
        -- [the list, the hands and the doors; its numbers; it stays; the strips]
        move ! (3 ∷ 1 ∷ []) $ use2 𝓛 (‵ (All us (more cs s.size))) (strips_join ss cs 0 (length cs) s are (omega arith)) $
        -- [the strips; the list, the hands and the doors; it stays]
        nothing ! $ fpack ! (AreStrips 0 us (length (more cs s.size)) × Known us) (λ _. ftrue) (still, known) $ move ! (2 ∷ 0 ∷ 1 ∷ []) $ fjoin3 ! $ done !
