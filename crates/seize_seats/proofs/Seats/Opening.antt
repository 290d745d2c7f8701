-- Words that are 0 and places without a value go under a rule that holds of them, and come back at the end. Assumes `Logic`.
use Rattle.std.specs.Prelude.{slice_index, slice_get, replicate, map}
use Rattle.std.proofs.Common.{◌≡◌, ℕ, zero, suc, ◌+◌, ◌*◌, ◌≤◌, false, List, [], ◌∷◌, ◌++◌, length, take, drop, refl, sym, ap, ◌∙◌, subst, inl, arith, Option, None, Some, length-append}
use Rattle.std.proofs.lemmas.List.{length-replicate, length-take-le, length-drop, take_all, take-append-le, drop-append-le}
use seplogic.Ra.Ura.{Ura}
use base.Fraction.{full_share}
use base.Share.{three_quarters}
use base.Logic.{SProp, ent, sep, ex, guard, via, never, never_e, emp}
use base.Fml.{Lft, Share, Fml, ftrue, fsep, fbor, fdead}
use types.Logic.{Logic, sem}
use types.Owned.{basic}
use types.Keyed.{entries_take, entries_new}
use types.Tokens.{lft_new, lft_end, bor_new, lent_back}
use types.Kit.{‵, raw, ◌⊛◌, some as items, given, later, ◌$◌, ◌∵◌, !, qed, by, move, keep, drop as leave, split, split3, fsplit, fsplit3, fjoin, fjoin3, fpick, fpack, pick, learn, check, show, use0, use1, use2, use3, rewrite, updating, await, now, done}
use denote.RattleType.{RattleType}
use denote.RawPtr.{Ptr, null_ptr, block_of, count_of}
use denote.Steps.{nothing}
use Rattle.core.specs.Sync.RawAtomic.{word}
use Rattle.seize_words.specs.declared.block.Block.{Block}
use Rattle.seize_seats.specs.Seats.Errands.{ViewCode}
use Rattle.seize_seats.specs.Seats.State.{State, Starts}
use Rattle.seize_seats.specs.Seats.Cells.{Body, Cell, Free, Claimed, Out, Has, Held, block_in, cell_at, sign_of}
use Rattle.seize_seats.specs.Seats.Lines.{Parts, column, long, whole, memory_of, AreLaid}
use Rattle.seize_seats.specs.Seats.Strips.{Strip, strip_coded, no_strip, further, AreStrips}
use Rattle.seize_seats.specs.Seats.Buckets.{IsBucket}
use Rattle.seize_seats.specs.Seats.Doors.{pointers, IsFurther, right_to, AreBehind}
use Rattle.seize_seats.specs.Seats.Seen.{seen, fact}
use Rattle.seize_seats.specs.Seats.Owned.{bucket_pieces, piece_in, pieces, piece, Pieces, row, ground, unborn, ledger, sitting, shared_view, hand_coded, resting, zeros, stride, place, places, AreOf, stripped, all_alone, hand, kept, under, numbers, strips, doors_of, listed, BaseId, age, core_of, book_of, strip_of, IsFirst, Inside, state_of, IsPlaced, standing_in, inner, everything, lent_here, had_here, words_own}
use Rattle.seize_seats.specs.Seats.Stretches.{IsEven, invariant}
use Rattle.seize_seats.proofs.Seats.Views.Ledgers as Ledgers
use Rattle.seize_seats.proofs.Seats.Views.Sitters as Sitters
use Rattle.seize_seats.proofs.Seats.Views.Stretches as Stretches
use Rattle.seize_seats.proofs.Seats.Places.Pieces as Pieces
use Rattle.seize_seats.proofs.Seats.Places.Strips.{strips_up, strip_within}
use Rattle.seize_seats.proofs.Seats.Growing.Doors as Doors
use Rattle.seize_seats.proofs.Seats.Growing.Doors.{pointers_split, pointers_join}
use Rattle.seize_seats.proofs.Seats.Places.Rows.{row_splits, row_joins}
use Rattle.seize_seats.proofs.Seats.Places.Grounds.{drop_none}
use Rattle.seize_seats.proofs.Seats.Views.Known as Known
use Rattle.seize_seats.proofs.Seats.Places.Grounds as Grounds

-- each word is 0
abbrev pub AreZeros : List ℕ → Type 0
AreZeros ws = (k : ℕ) → slice_index ws k ≡ 0

column_zeros : (k : ℕ) (ws : List ℕ) (o : ℕ) → AreZeros ws → column k ws o ≡ replicate k 0
column_zeros zero ws o none = refl
column_zeros (suc k) ws o none = let first = none o in let rest = column_zeros k ws (o + 16) none in cc (first, rest)

-- five words for each number
abbrev pub fives : ℕ → List ℕ
fives zero = []
fives (suc n) = 0 ∷ 0 ∷ 0 ∷ 0 ∷ 0 ∷ fives n

pub fives_are : (n : ℕ) (ws : List ℕ) → length ws ≡ n * 5 → AreZeros ws → ws ≡ fives n
fives_are zero [] l none = refl
fives_are zero (a ∷ ws) l none = absurd (omega (arith, l))
fives_are (suc n) [] l none = absurd (omega (arith, l))
fives_are (suc n) (a ∷ []) l none = absurd (omega (arith, l))
fives_are (suc n) (a ∷ b ∷ []) l none = absurd (omega (arith, l))
fives_are (suc n) (a ∷ b ∷ c ∷ []) l none = absurd (omega (arith, l))
fives_are (suc n) (a ∷ b ∷ c ∷ d ∷ []) l none = absurd (omega (arith, l))
fives_are (suc n) (a ∷ b ∷ c ∷ d ∷ e ∷ ws) l none =
    let p : a ≡ 0 = none 0 in let q : b ≡ 0 = none 1 in let r : c ≡ 0 = none 2 in let s : d ≡ 0 = none 3 in let t : e ≡ 0 = none 4 in
    let rest = fives_are n ws (omega (arith, l)) (λ k. none (suc (suc (suc (suc (suc k)))))) in cc (p, q, r, s, t, rest)

pub fives_long : (n : ℕ) → length (fives n) ≡ n * 5
fives_long zero = refl
fives_long (suc n) = let r = fives_long n in omega (arith, r)

-- a block under one of the first numbers, or under one of the others, is there
module _ {T : Type 0} where
  taken_cell : (n k : ℕ) (cs : List (Cell T)) (x : Block T) → block_in (cell_at (take n cs) k) ≡ Some x → block_in (cell_at cs k) ≡ Some x
  taken_cell zero k cs x e = absurd (let none : block_in (cell_at {T = T} [] k) ≡ None = refl in cc (none, e))
  taken_cell (suc n) k [] x e = e
  taken_cell (suc n) zero (c ∷ cs) x e = e
  taken_cell (suc n) (suc k) (c ∷ cs) x e = taken_cell n k cs x e

  dropped_cell : (n k i : ℕ) (cs : List (Cell T)) (x : Block T) → i ≡ n + k → block_in (cell_at (drop n cs) k) ≡ Some x → block_in (cell_at cs i) ≡ Some x
  dropped_cell zero k i cs x at e = let same : k ≡ i = omega (arith, at) in subst (λ (m : ℕ). block_in (cell_at cs m) ≡ Some x) same e
  dropped_cell (suc n) k i [] x at e = absurd (let none : block_in (cell_at {T = T} [] k) ≡ None = refl in cc (none, e))
  dropped_cell (suc n) k zero (c ∷ cs) x at e = absurd (omega (arith, at))
  dropped_cell (suc n) k (suc i) (c ∷ cs) x at e = dropped_cell n k i cs x (omega (arith, at)) e

  -- each block has four words
  abbrev pub AreFour : List (Cell T) → Type 0
  AreFour cs = (k : ℕ) (x : Block T) → block_in (cell_at cs k) ≡ Some x → length x.entry ≡ 4

module _ {M : Type 1} {𝓤 : Ura M} (𝓛 : Logic 𝓤) (R : RattleType) (α : Lft) (δ : ℕ) (lent : ℕ → Body R.Denot → ℕ → ℕ → Fml) (had : ℕ → ℕ → Body R.Denot → Fml) where
  abbrev Unborn : ℕ → Fml
  Unborn i = unborn hand_coded.code δ i resting

  -- so many numbers, each of them free
  abbrev free : ℕ → List (Cell R.Denot)
  free n = replicate n Free

  pub builds : (b b' n i j o o' : ℕ) → j ≡ n + i → ent 𝓤 (sep 𝓤 (sem 𝓛 (row b o (fives n))) (sep 𝓤 (sem 𝓛 (places R b' o' (replicate n None))) (sem 𝓛 (Unborn i))))
      (sep 𝓤 (sem 𝓛 (numbers R α δ lent had b o b' o' i (free n))) (sem 𝓛 (Unborn j)))
  builds b b' zero i j o o' is = let same : i ≡ j = omega (arith, is) in qed 𝓛 (‵ ftrue ∷ ‵ ftrue ∷ ‵ (Unborn i) ∷ []) ∵
      rewrite ! 2 (λ (k : ℕ). ‵ (Unborn k)) same refl $ keep ! (0 ∷ 2 ∷ []) $ done !
  builds b b' (suc n) i j o o' is =
      let P : Fml = place R α δ b' o' None in let Ps : Fml = places R b' (o' + stride R) (replicate n None) in
      let at : o + 8 + 8 + 8 + 8 ≡ o + 32 = omega arith in let on : o + 8 + 8 + 8 + 8 + 8 ≡ o + 40 = omega arith in
      qed 𝓛 (‵ (row b o (fives (suc n))) ∷ ‵ (fsep P Ps) ∷ ‵ (Unborn i) ∷ []) ∵
      fsplit ! $ move ! (1 ∷ []) $ fsplit ! $ move ! (1 ∷ []) $ fsplit ! $ move ! (1 ∷ []) $ fsplit ! $ move ! (1 ∷ []) $ fsplit ! $
      -- [sign; the rest; w3; w2; w1; w0; places; hands]
      rewrite ! 0 (λ (k : ℕ). ‵ (word b k 0)) at refl $ rewrite ! 1 (λ (k : ℕ). ‵ (row b k (fives n))) on refl $ move ! (6 ∷ []) $ fsplit ! $
      move ! (8 ∷ []) $ use1 𝓛 (‵ (hand R α δ full_share i resting) ⊛ ‵ (Unborn (suc i))) (entries_take shared_view 𝓛 δ i (λ _. (
        full_share,
        hand_coded.code resting,
      ))) $ split ! $
      -- [hand; hands; place; places; sign; the rest; w3; w2; w1; w0]
      move ! (5 ∷ 3 ∷ 1 ∷ []) $ use3 𝓛 (‵ (numbers R α δ lent had b (o + 40) b' (o' + stride R) (suc i) (free n)) ⊛ ‵ (Unborn j))
      (builds b b' n (suc i) j (o + 40) (o' + stride R) (omega (arith, is))) $ split ! $ move ! (0 ∷ 2 ∷ 3 ∷ 4 ∷ 5 ∷ 6 ∷ 7 ∷ 8 ∷ 1 ∷ []) $
      -- [numbers; hand; place; sign; w3; w2; w1; w0; hands]
      nothing ! $ move ! (5 ∷ 0 ∷ []) $ fjoin ! $ move ! (5 ∷ 0 ∷ []) $ fjoin ! $ move ! (5 ∷ 0 ∷ []) $ fjoin ! $ move ! (5 ∷ 0 ∷ []) $ fjoin ! $
      -- [the entry; numbers; hand; place; sign; hands]
      move ! (0 ∷ 3 ∷ []) $ fjoin ! $ move ! (2 ∷ 0 ∷ []) $ fjoin ! $ move ! (2 ∷ 0 ∷ []) $ fjoin ! $ fjoin ! $ done !

  module _ (own : Pieces R.Denot) where
    -- values that are owned, and not lent
    abbrev pub owned : ℕ → Body R.Denot → ℕ → ℕ → Fml
    owned i x c u = fsep (piece own x) (place R α δ c u (Some x.0))

    -- what was lent comes back
    module _ (back : (i : ℕ) (x : Body R.Denot) (c u : ℕ) → ent 𝓤 (sep 𝓤 (sem 𝓛 (fdead α)) (sem 𝓛 (lent i x c u))) (𝓛.H.⇛ (sep 𝓤 (sem 𝓛 (fdead α)) (sem 𝓛 (owned i x c u))))) where
      unlends_one : (b b' o o' i : ℕ) (c : Cell R.Denot) → ent 𝓤 (sep 𝓤 (sem 𝓛 (under R α δ lent had b o b' o' i c)) (sem 𝓛 (fdead α)))
          (𝓛.H.⇛ (sep 𝓤 (sem 𝓛 (under R α δ owned had b o b' o' i c)) (sem 𝓛 (fdead α))))
      unlends_one b b' o o' i Free = qed 𝓛 (‵ (under R α δ owned had b o b' o' i Free) ∷ ‵ (fdead α) ∷ []) ∵ updating ! $ now ! $ done !
      unlends_one b b' o o' i Claimed = qed 𝓛 (‵ (under R α δ owned had b o b' o' i Claimed) ∷ ‵ (fdead α) ∷ []) ∵ updating ! $ now ! $ done !
      unlends_one b b' o o' i (Out e) = qed 𝓛 (‵ (under R α δ owned had b o b' o' i (Out e)) ∷ ‵ (fdead α) ∷ []) ∵ updating ! $ now ! $ done !
      unlends_one b b' o o' i (Held ρ e x ws) = qed 𝓛 (‵ (under R α δ owned had b o b' o' i (Held ρ e x ws)) ∷ ‵ (fdead α) ∷ []) ∵ updating ! $ now ! $ done !
      unlends_one b b' o o' i (Has x ws) = qed 𝓛 (‵ (under R α δ lent had b o b' o' i (Has x ws)) ∷ ‵ (fdead α) ∷ []) ∵ updating ! $ fsplit ! $ move ! (1 ∷ []) $ fsplit ! $
          move ! (1 ∷ []) $ fsplit ! $
          -- [the entry; the value; the hand; the sign; dead]
          move ! (4 ∷ 1 ∷ []) $ use2 𝓛 (later (‵ (fdead α) ⊛ ‵ (owned i x b' o'))) (back i x b' o') $ await ! tt $ split ! $ move ! (2 ∷ 1 ∷ []) $ fjoin ! $
          move ! (2 ∷ 0 ∷ []) $ fjoin ! $ move ! (2 ∷ 0 ∷ []) $ fjoin ! $ now ! $ done !

      unlends : (b b' : ℕ) (cs : List (Cell R.Denot)) (o o' i : ℕ) → ent 𝓤 (sep 𝓤 (sem 𝓛 (numbers R α δ lent had b o b' o' i cs)) (sem 𝓛 (fdead α)))
          (𝓛.H.⇛ (sep 𝓤 (sem 𝓛 (numbers R α δ owned had b o b' o' i cs)) (sem 𝓛 (fdead α))))
      unlends b b' [] o o' i = qed 𝓛 (‵ ftrue ∷ ‵ (fdead α) ∷ []) ∵ updating ! $ now ! $ done !
      unlends b b' (c ∷ cs) o o' i = let Rest : (ℕ → Body R.Denot → ℕ → ℕ → Fml) → Fml = λ l. numbers R α δ l had b (o + 40) b' (o' + stride R) (suc i) cs in
          qed 𝓛 ((‵ (under R α δ lent had b o b' o' i c) ⊛ ‵ (Rest lent)) ∷ ‵ (fdead α) ∷ []) ∵ updating ! $ split ! $ move ! (1 ∷ 2 ∷ []) $
          use2 𝓛 (later (‵ (Rest owned) ⊛ ‵ (fdead α))) (unlends b b' cs (o + 40) (o' + stride R) (suc i)) $ await ! tt $ split ! $ move ! (2 ∷ 1 ∷ []) $
          use2 𝓛 (later (‵ (under R α δ owned had b o b' o' i c) ⊛ ‵ (fdead α))) (unlends_one b b' o o' i c) $ await ! tt $ split ! $ move ! (0 ∷ 2 ∷ []) $ fjoin ! $
          now ! $ done !

      pub unlends_strips : (ss : List Strip) (cs : List (Cell R.Denot)) → ent 𝓤 (sep 𝓤 (sem 𝓛 (strips R α δ lent had ss cs)) (sem 𝓛 (fdead α)))
          (𝓛.H.⇛ (sep 𝓤 (sem 𝓛 (strips R α δ owned had ss cs)) (sem 𝓛 (fdead α))))
      unlends_strips [] cs = qed 𝓛 (‵ ftrue ∷ ‵ (fdead α) ∷ []) ∵ updating ! $ now ! $ done !
      unlends_strips (s ∷ ss) cs =
          let Here : (ℕ → Body R.Denot → ℕ → ℕ → Fml) → Fml = λ l. numbers R α δ l had (block_of s.words) (s.skip * 8 + count_of s.words) (block_of s.values)
          (count_of s.values) s.first (take s.size cs) in
          let Rest : (ℕ → Body R.Denot → ℕ → ℕ → Fml) → Fml = λ l. strips R α δ l had ss (drop s.size cs) in
          qed 𝓛 ((‵ (Here lent) ⊛ ‵ (Rest lent)) ∷ ‵ (fdead α) ∷ []) ∵ updating ! $ split ! $ move ! (1 ∷ 2 ∷ []) $
          use2 𝓛 (later (‵ (Rest owned) ⊛ ‵ (fdead α))) (unlends_strips ss (drop s.size cs)) $ await ! tt $ split ! $ move ! (2 ∷ 1 ∷ []) $
          use2 𝓛 (later (‵ (Here owned) ⊛ ‵ (fdead α)))
          (unlends (block_of s.words) (block_of s.values) (take s.size cs) (s.skip * 8 + count_of s.words) (count_of s.values) s.first) $ await ! tt $ split ! $
          move ! (0 ∷ 2 ∷ []) $ fjoin ! $ now ! $ done !

    -- what comes back of so many numbers
    abbrev Torn : ℕ → ℕ → ℕ → ℕ → ℕ → List ℕ × List (Option R.Denot) → SProp 𝓤
    Torn b b' n o o' u = guard 𝓤 ((length u.0 ≡ n * 5) × (length u.1 ≡ n))
        (sep 𝓤 (sem 𝓛 (row b o u.0)) (sep 𝓤 (sem 𝓛 (places R b' o' u.1)) (sem 𝓛 (pieces own u.1))))

    abbrev torn_item : ℕ → ℕ → ℕ → ℕ → ℕ → List ℕ × List (Option R.Denot) → types.Kit.Item 𝓤
    torn_item b b' n o o' u = given ((length u.0 ≡ n * 5) × (length u.1 ≡ n)) (‵ (row b o u.0) ⊛ ‵ (places R b' o' u.1) ⊛ ‵ (pieces own u.1))

    -- four words, a sign, the place and its own words, before those of further numbers
    stacks : (b b' n o o' s : ℕ) (ws : List ℕ) (x : Option R.Denot) → length ws ≡ 4 → (u : List ℕ × List (Option R.Denot)) → (length u.0 ≡ n * 5) × (length u.1 ≡ n)
        → ent 𝓤 (sep 𝓤 (sem 𝓛 (word b (o + 32) s)) (sep 𝓤 (sem 𝓛 (fsep (row b o ws) (fsep (piece_in own x) (place R α δ b' o' x))))
        (sep 𝓤 (sem 𝓛 (row b (o + 40) u.0)) (sep 𝓤 (sem 𝓛 (places R b' (o' + stride R) u.1)) (sem 𝓛 (pieces own u.1))))))
        (ex 𝓤 (Torn b b' (suc n) o o'))
    stacks b b' n o o' s ws x four u long_are =
        let on : o + 40 ≡ o + 32 + 8 = omega arith in let l = long_are.0 in let m = long_are.1 in
        let all : length (ws ++ s ∷ u.0) ≡ suc n * 5 = length-append ws (s ∷ u.0) ∙ omega (arith, four, l) in
        qed 𝓛 (‵ (word b (o + 32) s) ∷ ‵ (fsep (row b o ws) (fsep (piece_in own x) (place R α δ b' o' x))) ∷ ‵ (row b (o + 40) u.0) ∷
        ‵ (places R b' (o' + stride R) u.1) ∷ ‵ (pieces own u.1) ∷ []) ∵
        move ! (2 ∷ []) $ rewrite ! 0 (λ (k : ℕ). ‵ (row b k u.0)) on refl $ move ! (1 ∷ 0 ∷ []) $ fjoin ! $ move ! (1 ∷ []) $ fsplit ! $
        -- [the entry; the place with its own words; the sign and the rest; places; their own words]
        move ! (0 ∷ 2 ∷ []) $ use2 𝓛 (‵ (row b o (ws ++ s ∷ u.0))) (row_joins 𝓛 b ws (s ∷ u.0) o (o + 32) (omega (arith, four))) $ move ! (1 ∷ []) $ fsplit ! $
        -- [the own words; the place; the row; places; their own words]
        move ! (0 ∷ 4 ∷ []) $ fjoin ! $ move ! (1 ∷ 3 ∷ []) $ fjoin ! $
        show ! (Torn b b' (suc n) o o') (ws ++ s ∷ u.0, x ∷ u.1) $ check ! (all, omega (arith, m)) $ move ! (2 ∷ 0 ∷ 1 ∷ []) $ done !

    -- what lies under a number, before what has come back of further ones
    abbrev all_of : (b b' o o' i : ℕ) → Cell R.Denot → List ℕ × List (Option R.Denot) → List (types.Kit.Item 𝓤)
    all_of b b' o o' i c u = ‵ (word b (o + 32) (sign_of c)) ∷ ‵ (kept R α δ owned had b o b' o' i c) ∷ ‵ (fdead α) ∷ ‵ (row b (o + 40) u.0) ∷
        ‵ (places R b' (o' + stride R) u.1) ∷ ‵ (pieces own u.1) ∷ []

    tears : (b b' : ℕ) (cs : List (Cell R.Denot)) (o o' i : ℕ) → ((k : ℕ) (x : Block R.Denot) → block_in (cell_at cs k) ≡ Some x → length x.entry ≡ 4)
        → ent 𝓤 (sep 𝓤 (sem 𝓛 (numbers R α δ owned had b o b' o' i cs)) (sem 𝓛 (fdead α))) (ex 𝓤 (Torn b b' (length cs) o o'))
    tears b b' [] o o' i fours = qed 𝓛 (‵ ftrue ∷ ‵ (fdead α) ∷ []) ∵ show ! (Torn b b' 0 o o') ([], []) $ check ! (refl, refl) $ leave ! $ leave ! $ nothing ! $ nothing ! $ nothing ! $ done !
    tears b b' (c ∷ cs) o o' i fours =
        qed 𝓛 ((‵ (under R α δ owned had b o b' o' i c) ⊛ ‵ (numbers R α δ owned had b (o + 40) b' (o' + stride R) (suc i) cs)) ∷ ‵ (fdead α) ∷ []) ∵ split ! $ move ! (2 ∷ []) $
        use1 𝓛 (‵ (fdead α) ⊛ ‵ (fdead α)) (𝓛.lfts.dead_dup α) $ split ! $ move ! (3 ∷ 0 ∷ []) $
        use2 𝓛 (items (torn_item b b' (length cs) (o + 40) (o' + stride R))) (tears b b' cs (o + 40) (o' + stride R) (suc i) (λ k. fours (suc k))) $
        pick ! (λ u. learn ! (λ l. split3 ! $ move ! (4 ∷ 3 ∷ []) $ fsplit ! $ by ! (parts c (λ x e. fours 0 x e) u l)))
      where
        parts : (c : Cell R.Denot) → ((x : Block R.Denot) → block_in c ≡ Some x → length x.entry ≡ 4) → (u : List ℕ × List (Option R.Denot))
            → (length u.0 ≡ length cs * 5) × (length u.1 ≡ length cs)
            → ent 𝓤 (sep 𝓤 (sem 𝓛 (word b (o + 32) (sign_of c))) (sep 𝓤 (sem 𝓛 (kept R α δ owned had b o b' o' i c)) (sep 𝓤 (sem 𝓛 (fdead α))
            (sep 𝓤 (sem 𝓛 (row b (o + 40) u.0)) (sep 𝓤 (sem 𝓛 (places R b' (o' + stride R) u.1)) (sem 𝓛 (pieces own u.1))))))) (ex 𝓤 (Torn b b' (suc (length cs)) o o'))
        parts Free four u l = qed 𝓛 (all_of b b' o o' i Free u) ∵ move ! (1 ∷ []) $ fsplit ! $ move ! (1 ∷ []) $ fsplit ! $
            -- [the entry; the place; the hand; the sign; dead; the rest; places; their own words]
            nothing ! $ move ! (0 ∷ 2 ∷ []) $ fjoin ! $ move ! (1 ∷ 0 ∷ []) $ fjoin ! $ keep ! (2 ∷ 0 ∷ 4 ∷ 5 ∷ 6 ∷ []) $
            by ! (stacks b b' (length cs) o o' 0 zeros None refl u l)
        parts Claimed four u l = qed 𝓛 (all_of b b' o o' i Claimed u) ∵ move ! (1 ∷ []) $ fsplit ! $ move ! (1 ∷ []) $ fsplit ! $
            nothing ! $ move ! (0 ∷ 2 ∷ []) $ fjoin ! $ move ! (1 ∷ 0 ∷ []) $ fjoin ! $ keep ! (2 ∷ 0 ∷ 4 ∷ 5 ∷ 6 ∷ []) $
            by ! (stacks b b' (length cs) o o' 1 zeros None refl u l)
        parts (Has x ws) four u l = qed 𝓛 (all_of b b' o o' i (Has x ws) u) ∵ move ! (1 ∷ []) $ fsplit ! $ move ! (1 ∷ []) $ fsplit ! $ move ! (1 ∷ []) $ fsplit ! $
            -- [the own words; the place; the entry; the hand; the sign; dead; the rest; places; their own words]
            fpack ! (List ℕ) (λ us. piece own (x.0, us)) x.1 $ fjoin ! $ move ! (1 ∷ 0 ∷ []) $ fjoin ! $ keep ! (2 ∷ 0 ∷ 4 ∷ 5 ∷ 6 ∷ []) $
            by ! (stacks b b' (length cs) o o' 1 ws (Some x.0) (four _ refl) u l)
        parts (Out s) four u l = qed 𝓛 (all_of b b' o o' i (Out s) u) ∵
            move ! (1 ∷ []) $ fsplit ! $ move ! (1 ∷ 3 ∷ []) $ use2 𝓛 (raw (never 𝓤)) (𝓛.lfts.lft-dead α s) $ keep ! (0 ∷ []) $
            by ! (never_e 𝓤 (ex 𝓤 (Torn b b' (suc (length cs)) o o')))
        parts (Held ρ s x ws) four u l = qed 𝓛 (all_of b b' o o' i (Held ρ s x ws) u) ∵
            move ! (1 ∷ []) $ fsplit3 ! $ move ! (2 ∷ []) $ fsplit ! $ move ! (0 ∷ 5 ∷ []) $ use2 𝓛 (raw (never 𝓤)) (𝓛.lfts.lft-dead α s) $ keep ! (0 ∷ []) $
            by ! (never_e 𝓤 (ex 𝓤 (Torn b b' (suc (length cs)) o o')))

    -- strip by strip
    abbrev pub all_stripped : List Strip → Fml
    all_stripped [] = ftrue
    all_stripped (s ∷ ss) = fsep (stripped R own false s) (all_stripped ss)

    tears_all : (ss : List Strip) (cs : List (Cell R.Denot)) (j n : ℕ) → AreStrips j ss n → n ≡ j + length cs → AreFour cs
        → ent 𝓤 (sep 𝓤 (sem 𝓛 (strips R α δ owned had ss cs)) (sem 𝓛 (fdead α))) (sem 𝓛 (all_stripped ss))
    tears_all [] cs j n are long fours = qed 𝓛 (‵ ftrue ∷ ‵ (fdead α) ∷ []) ∵ leave ! $ leave ! $ nothing ! $ done !
    tears_all (s ∷ ss) cs j n are long fours =
        let b : ℕ = block_of s.words in let o : ℕ = s.skip * 8 + count_of s.words in let b' : ℕ = block_of s.values in let o' : ℕ = count_of s.values in
        let us : List (Cell R.Denot) = take s.size cs in let up = strips_up ss (j + s.size) n are.1 in let le : s.size ≤ length cs = omega (arith, up, long) in
        let size : length us ≡ s.size = length-take-le s.size cs le in let rest = length-drop s.size cs in
        let Parts : List ℕ × List (Option R.Denot) → Fml = λ u. fsep (fact (AreOf R own false s u)) (fsep (row b o u.0) (fsep (places R b' o' u.1) (pieces own u.1))) in
        qed 𝓛 ((‵ (numbers R α δ owned had b o b' o' s.first us) ⊛ ‵ (strips R α δ owned had ss (drop s.size cs))) ∷ ‵ (fdead α) ∷ []) ∵ split ! $ move ! (2 ∷ []) $
        use1 𝓛 (‵ (fdead α) ⊛ ‵ (fdead α)) (𝓛.lfts.dead_dup α) $ split ! $ move ! (3 ∷ 0 ∷ []) $
        use2 𝓛 (‵ (all_stripped ss))
        (tears_all ss (drop s.size cs) (j + s.size) n are.1 (omega (arith, long, rest, le)) (λ k x e. fours (s.size + k) x (dropped_cell s.size k (s.size + k) cs x refl e))) $
        move ! (2 ∷ 1 ∷ []) $ use2 𝓛 (items (torn_item b b' (length us) o o'))
        (tears b b' us o o' s.first (λ k x e. fours k x (taken_cell s.size k cs x e))) $ pick ! (λ u. learn ! (λ l. split3 ! $ move ! (1 ∷ 2 ∷ []) $ fjoin ! $ move ! (1 ∷ 0 ∷ []) $ fjoin ! $
        let is : (length u.0 ≡ s.size * 5) × (length u.1 ≡ s.size) = subst (λ (m : ℕ). (length u.0 ≡ m * 5) × (length u.1 ≡ m)) size l in
        nothing ! $ fpack ! (AreOf R own false s u) (λ _. ftrue) (is.0, is.1, λ e. absurd (cc e)) $ fjoin ! $ fpack ! (List ℕ × List (Option R.Denot)) Parts u $
        fjoin ! $ done !))

    -- with the rights to their blocks
    all_joined : (σ : ℕ) (Is : ℕ → Strip → Type 0) (b n : ℕ) (ss : List Strip)
        → ent 𝓤 (sep 𝓤 (sem 𝓛 (all_stripped ss)) (sem 𝓛 (Doors.rights 𝓛 σ Is (right_to R) b (take n ss)))) (sem 𝓛 (all_alone R own false (take n ss)))
    all_joined σ Is b zero ss = qed 𝓛 (‵ (all_stripped ss) ∷ ‵ ftrue ∷ []) ∵ leave ! $ done !
    all_joined σ Is b (suc n) [] = qed 𝓛 (‵ ftrue ∷ ‵ ftrue ∷ []) ∵ leave ! $ done !
    all_joined σ Is b (suc n) (s ∷ ss) = let Rs : List Strip → Fml = Doors.rights 𝓛 σ Is (right_to R) b in
        qed 𝓛 ((‵ (stripped R own false s) ⊛ ‵ (all_stripped ss)) ∷ (‵ (right_to R s) ⊛ ‵ (Rs (take n ss))) ∷ []) ∵ split ! $ move ! (2 ∷ []) $ split ! $
        -- [the right; the other rights; the strip; the others]
        move ! (2 ∷ 0 ∷ []) $ fjoin ! $ move ! (2 ∷ 1 ∷ []) $ use2 𝓛 (‵ (all_alone R own false (take n ss))) (all_joined σ Is b n ss) $ move ! (1 ∷ 0 ∷ []) $ fjoin ! $ done !

zeros_of : (n k : ℕ) → slice_index (replicate n 0) k ≡ 0
zeros_of zero k = refl
zeros_of (suc n) zero = refl
zeros_of (suc n) (suc k) = zeros_of n k

frees_of : {T : Type 0} (n k : ℕ) → cell_at {T = T} (replicate n Free) k ≡ Free
frees_of zero k = refl
frees_of (suc n) zero = refl
frees_of (suc n) (suc k) = frees_of n k

zeros_are : (n m : ℕ) (ws : List ℕ) → length ws ≡ n + m * 5 → AreZeros ws → ws ≡ replicate n 0 ++ fives m
zeros_are zero m ws l none = fives_are m ws (omega (arith, l)) none
zeros_are (suc n) m [] l none = absurd (omega (arith, l))
zeros_are (suc n) m (a ∷ ws) l none = let first : a ≡ 0 = none 0 in let rest = zeros_are n m ws (omega (arith, l)) (λ k. none (suc k)) in cc (first, rest)

module _ {M : Type 1} {𝓤 : Ura M} (𝓛 : Logic 𝓤) (R : RattleType) (own : Pieces R.Denot) {V W : Type 0} (cv : ViewCode V) (holds : State R.Denot V W → Type 0) (p pv dp : Ptr) where
  open 𝓛 use {H, A}

  abbrev ⟦◌⟧ : Fml → SProp 𝓤
  ⟦ P ⟧ = sem 𝓛 P

  -- which words these are, but for names: those of roots and slots, and of the first strip
  abbrev pub named : ℕ → ℕ → ℕ → ℕ → ℕ → ℕ → ℕ → ℕ → BaseId
  named a γ δ σ ε roots count most = record {
    atom = a;
    views_name = γ;
    hands_name = δ;
    strips_name = σ;
    roots = roots;
    count = most;
    fixed = p;
    place = 0;
    skip = long roots;
    values = pv;
    first = 0;
    size = count;
    doors = dp;
    least = count;
    slots_name = ε;
    bucket = 0;
    slots = no_strip;
  }

  module _ (roots count most : ℕ) (within : count ≤ most) (blank : V) (ws : List ℕ) (none : AreZeros ws) (all : length ws ≡ whole roots count) (placed : IsPlaced R p (named 0 0 0 0 0 roots count most))
      (starts : Starts holds roots) where
    abbrev pub Opened : BaseId → SProp 𝓤
    Opened z = guard 𝓤 ((z.roots ≡ roots) × (z.count ≡ most) × (z.values ≡ pv) × (z.size ≡ count) × (z.least ≡ count) × (z.doors ≡ dp) × IsFirst p z) ⟦ words_own R own cv holds p z ⟧

    abbrev parts : Parts R.Denot
    parts = record { words = replicate (long roots) 0; slots = 0; cells = replicate count Free; given = 0 }

    abbrev first : Inside R.Denot V W
    first = record { parts = parts; blank = blank; views = []; world = starts.0 }

    laid : AreLaid roots most parts
    laid = record {
      all = let l = length-replicate {A = ℕ} (long roots) 0 in omega (arith, l);
      slots_are = inl (refl, length-replicate (long roots) 0, λ k le. zeros_of (long roots) k);
      counted = let l = length-replicate {A = Cell R.Denot} count Free in omega (arith, l, within);
      within = omega arith;
      rest = λ k le. ap block_in (frees_of count k);
      fours = λ k x e. absurd (let none : block_in (cell_at {T = R.Denot} (replicate count Free) k) ≡ None = ap block_in (frees_of count k) in cc (none, e));
    }

    begins : holds record { memory = memory_of roots parts; views = []; world = starts.0 }
    begins = let links = column_zeros roots (replicate (long roots) 0) 0 (zeros_of (long roots)) in
        let used = column_zeros roots (replicate (long roots) 0) (roots * 16) (zeros_of (long roots)) in
        subst (λ (m : List ℕ × List ℕ). holds record {
          memory = record { roots = m.0; used = m.1; slots = []; blocks = []; choices = [] };
          views = [];
          world = starts.0;
        }) (λ i. (sym links i, sym used i)) starts.1

    hands_new : ent 𝓤 (emp 𝓤) (H.⇛ (ex 𝓤 (λ (δ : ℕ). ⟦ unborn hand_coded.code δ 0 resting ⟧)))
    hands_new = via 𝓤 _ (entries_new shared_view 𝓛 0 (λ _. (full_share, hand_coded.code resting)))
        (basic 𝓛 (ex 𝓤 (λ (δ : ℕ). ⟦ unborn hand_coded.code δ 0 resting ⟧)))

    abbrev all_free : List (Cell R.Denot)
    all_free = replicate count Free

    pub opens : ent 𝓤 (sep 𝓤 ⟦ row (block_of p) (count_of p) ws ⟧ (sep 𝓤 ⟦ places R (block_of pv) (count_of pv) (replicate count None) ⟧
        ⟦ pointers (block_of dp) (count_of dp) (replicate 32 null_ptr ++ replicate 32 null_ptr) ⟧)) (H.⇛ (ex 𝓤 Opened))
    opens = let b : ℕ = block_of p in let o : ℕ = count_of p in let b' : ℕ = block_of pv in let o' : ℕ = count_of pv in let f : ℕ = long roots * 8 + o in
        let head : List ℕ = replicate (long roots) 0 in let l = length-replicate {A = ℕ} (long roots) 0 in
        let many = length-replicate {A = Cell R.Denot} count Free in let same : take count all_free ≡ all_free = take_all count all_free (omega (arith, many)) in
        let db : ℕ = block_of dp in let d₀ : ℕ = count_of dp in
        let Nulls : Fml = pointers db d₀ (replicate 32 null_ptr) in let More : Fml = pointers db (256 + d₀) (replicate 32 null_ptr) in
        qed 𝓛 (‵ (row b o ws) ∷ ‵ (places R b' o' (replicate count None)) ∷ ‵ (pointers db d₀ (replicate 32 null_ptr ++ replicate 32 null_ptr)) ∷ []) ∵ updating ! $ lft_new ! tt (λ a. let α : Lft = a ∷ [] in
        use0 𝓛 (later (items (λ (γ : ℕ). ‵ (sitting α cv γ blank [])))) (via 𝓤 _ (Sitters.begins 𝓛 α cv 0 blank)
        (basic 𝓛 (ex 𝓤 (λ (γ : ℕ). ⟦ sitting α cv γ blank [] ⟧)))) $ await ! tt $ pick ! (λ γ.
        use0 𝓛 (later (items (λ (δ : ℕ). ‵ (unborn hand_coded.code δ 0 resting)))) hands_new $ await ! tt $ pick ! (λ δ.
        use0 𝓛 (later (items (λ (σ : ℕ). ‵ (ledger strip_coded.code σ no_strip [])))) (via 𝓤 _ (Ledgers.begins 𝓛 strip_coded 0 no_strip)
        (basic 𝓛 (ex 𝓤 (λ (σ : ℕ). ⟦ ledger strip_coded.code σ no_strip [] ⟧)))) $ await ! tt $ pick ! (λ σ.
        use0 𝓛 (later (items (λ (ε : ℕ). ‵ (ledger strip_coded.code ε no_strip [])))) (via 𝓤 _ (Ledgers.begins 𝓛 strip_coded 0 no_strip)
        (basic 𝓛 (ex 𝓤 (λ (ε : ℕ). ⟦ ledger strip_coded.code ε no_strip [] ⟧)))) $ await ! tt $ pick ! (λ ε.
        let Bs : Fml = ledger strip_coded.code ε no_strip (no_strip ∷ []) in
        use1 𝓛 (later (‵ Bs ⊛ ‵ (seen strip_coded.code ε three_quarters 0 no_strip))) (via 𝓤 _ (Ledgers.comes 𝓛 strip_coded ε no_strip [] no_strip) (basic 𝓛 _)) $
        await ! tt $ split ! $ move ! (1 ∷ []) $ leave ! $
        -- [the list of the buckets; that of the strips; the hands; the views; the token; the words; the places; the doors]
        move ! (7 ∷ []) $ use1 𝓛 (‵ Nulls ⊛ ‵ More) (pointers_split 𝓛 db (replicate 32 null_ptr) (replicate 32 null_ptr) d₀ (256 + d₀) refl) $ split ! $
        -- [the doors; those of buckets; the list of the buckets; that of the strips; the hands; the views; the token; the words; the places]
        move ! (3 ∷ 4 ∷ 5 ∷ 6 ∷ 7 ∷ 8 ∷ 0 ∷ 1 ∷ 2 ∷ []) $
        let z : BaseId = named a γ δ σ ε roots count most in let E : Fml = everything R own cv holds (core_of z) in let s : Strip = strip_of p z in
        let Drs : Fml = doors_of R (book_of z) [] in
        let Book : Fml = ledger strip_coded.code σ no_strip (s ∷ []) in let Sh : Share → Fml = λ q. seen strip_coded.code σ q 0 s in
        let Lt = lent_here R own cv holds p z in let Hd = had_here R own cv holds p z in
        let N : List (Cell R.Denot) → Fml = λ cs. numbers R α δ Lt Hd b f b' o' 0 cs in
        use1 𝓛 (later (‵ Book ⊛ ‵ (Sh three_quarters))) (via 𝓤 _ (Ledgers.comes 𝓛 strip_coded σ no_strip [] s) (basic 𝓛 _)) $ await ! tt $ split ! $
        move ! (1 ∷ []) $ fpack ! Share Sh three_quarters $
        -- [the strip; the list; the hands; the views; the token; the words; the places; the doors; those of buckets; their list]
        move ! (7 ∷ []) $ use1 𝓛 (‵ Drs) (Doors.nulls 𝓛 σ (IsFurther R count) (right_to R) db 32 d₀ 0) $ move ! (1 ∷ 2 ∷ 3 ∷ 4 ∷ 5 ∷ 6 ∷ 7 ∷ 0 ∷ []) $
        move ! (5 ∷ []) $ rewrite ! 0 (λ (us : List ℕ). ‵ (row b o us)) (zeros_are (long roots) count ws all none) refl $
        use1 𝓛 (‵ (row b o head) ⊛ ‵ (row b f (fives count))) (row_splits 𝓛 b head (fives count) o f (omega (arith, l))) $ split ! $
        -- [the first words; the others; the strip; the list; the hands; the views; the token; the places; the doors; those of buckets; their list]
        move ! (0 ∷ 10 ∷ 9 ∷ []) $ use3 𝓛 (‵ (ground (core_of z) head)) (Grounds.ground_begins 𝓛 (core_of z) head l) $
        move ! (1 ∷ 7 ∷ 4 ∷ []) $ use3 𝓛 (‵ (N all_free) ⊛ ‵ (unborn hand_coded.code δ count resting)) (builds 𝓛 R α δ Lt Hd b b' count 0 count f o' (omega arith)) $ split ! $
        rewrite ! 0 (λ (cs : List (Cell R.Denot)). ‵ (N cs)) (sym same) refl $
        rewrite ! 1 (λ (n : ℕ). ‵ (unborn hand_coded.code δ n resting)) (sym many) refl $
        -- [the numbers; further hands; the first words; the strip; the list; the views; the token; the doors]
        move ! (4 ∷ 1 ∷ []) $ fjoin ! $ move ! (0 ∷ 6 ∷ []) $ fjoin ! $ move ! (1 ∷ 2 ∷ 3 ∷ 0 ∷ []) $
        -- [the numbers; the first words; the strip; the list, the hands and the doors; the views; the token]
        nothing ! $ move ! (1 ∷ 0 ∷ []) $ fjoin ! $
        nothing ! $ fpack ! (AreStrips 0 (s ∷ []) (length all_free) × Unit {0}) (λ _. ftrue) ((refl, omega (arith, many)), tt) $
        -- [what is so; the numbers; the first words; the strip; the list; the views; the token]
        move ! (4 ∷ 0 ∷ 1 ∷ []) $ fjoin3 ! $ fpack ! (List Strip) (listed R α δ Lt Hd (book_of z) (λ _. Unit {0}) all_free) (s ∷ []) $ move ! (1 ∷ 0 ∷ []) $ fjoin ! $
        -- [the memory; the strip; the views; the token]
        nothing ! $ fpack ! (holds (state_of z first) × AreLaid z.roots z.count parts) (λ _. ftrue) (begins, laid) $ move ! (1 ∷ 3 ∷ 0 ∷ []) $ fjoin3 ! $
        fpack ! (Inside R.Denot V W) (standing_in R own cv holds (core_of z) (λ _. Unit {0})) first $
        bor_new ! tt α $ use1 𝓛 (later (‵ (invariant IsEven (fbor α E)))) (Stretches.made 𝓛 IsEven (fbor α E) Stretches.evens) $ await ! tt $
        -- [the invariant; what was lent; the strip; the token]
        move ! (2 ∷ []) $ nothing ! $ move ! (1 ∷ 0 ∷ []) $ fjoin ! $ move ! (0 ∷ 1 ∷ []) $ fjoin ! $
        nothing ! $ fpack ! (IsPlaced R p z) (λ _. ftrue) placed $ move ! (0 ∷ 1 ∷ []) $ fjoin ! $ move ! (0 ∷ 1 ∷ []) $ fjoin ! $ move ! (1 ∷ 0 ∷ []) $ fjoin ! $
        now ! $ show ! Opened z $ check ! (refl, refl, refl, refl, refl, refl, (refl, refl, refl, refl)) $ done !)))))

  module _ (z : BaseId) (is : IsFirst p z) where
    -- the words, the places, the doors, the further strips, and the further buckets of slots
    abbrev pub Back : Type 0
    Back = List ℕ × List (Option R.Denot) × List Ptr × List Strip × List Strip

    abbrev pub AreClosed : Back → Type 0
    AreClosed u =
        (length u.0 ≡ whole z.roots z.size) × (length u.1 ≡ z.size) × (length u.2 ≡ 64) × IsPlaced R p z
        × AreBehind (IsFurther R z.least) 0 u.3 (take 32 u.2) × AreBehind IsBucket 0 u.4 (drop 32 u.2)

    abbrev pub Closed : Back → SProp 𝓤
    Closed u =
        guard 𝓤 (AreClosed u)
        (sep 𝓤 ⟦ row (block_of p) (count_of p) u.0 ⟧ (sep 𝓤 ⟦ places R (block_of z.values) (count_of z.values) u.1 ⟧
        (sep 𝓤 ⟦ pointers (block_of z.doors) (count_of z.doors) u.2 ⟧ (sep 𝓤 ⟦ all_alone R own false u.3 ⟧
        (sep 𝓤 ⟦ pieces own u.1 ⟧ ⟦ pieces bucket_pieces (map Some u.4) ⟧)))))

    abbrev Drs : List Strip → Fml
    Drs ss = doors_of R (book_of z) ss

    abbrev α : Lft
    α = age z

    abbrev Lt : ℕ → Body R.Denot → ℕ → ℕ → Fml
    Lt = lent_here R own cv holds p z

    abbrev Hd : ℕ → ℕ → Body R.Denot → Fml
    Hd = had_here R own cv holds p z

    abbrev Owned : ℕ → Body R.Denot → ℕ → ℕ → Fml
    Owned = owned 𝓛 R α z.hands_name Lt Hd own

    abbrev Fixed : List ℕ → Fml
    Fixed ws = ground (core_of z) ws

    abbrev ended_item : List ℕ → types.Kit.Item 𝓤
    ended_item ws = items (λ (v : List Strip × List Ptr). given ((length v.1 ≡ 32) × AreBehind IsBucket 0 v.0 v.1)
        (‵ (row (block_of z.fixed) (count_of z.fixed) (take (long z.roots) ws)) ⊛ ‵ (pieces bucket_pieces (map Some v.0)) ⊛ ‵ (pointers (block_of z.doors) (256 + count_of z.doors) v.1)))

    -- the first strip, and all others
    gives_back : (t : Inside R.Denot V W) (laid : AreLaid z.roots z.count t.parts) (placed : IsPlaced R p z) (ss : List Strip)
        → AreStrips 0 ss (length t.parts.cells) → slice_get ss 0 ≡ Some (strip_of p z)
        → ent 𝓤 (sep 𝓤 ⟦ strips R α z.hands_name Owned Hd ss t.parts.cells ⟧ (sep 𝓤 ⟦ fdead α ⟧ (sep 𝓤 ⟦ Fixed t.parts.words ⟧ ⟦ Drs (further ss) ⟧))) (ex 𝓤 Closed)
    gives_back t laid placed [] are at = absurd (cc at)
    gives_back t laid placed (s ∷ ss) are at =
        let same : s ≡ strip_of p z = cc at in let up = strip_within (s ∷ ss) 0 (length t.parts.cells) 0 (strip_of p z) are at in let last = up.1 in
        let cs : List (Cell R.Denot) = t.parts.cells in let us : List (Cell R.Denot) = take z.size cs in let ws : List ℕ = t.parts.words in
        let Of : Strip → Fml = λ r. numbers R α z.hands_name Owned Hd (block_of r.words) (r.skip * 8 + count_of r.words) (block_of r.values) (count_of r.values) r.first
        (take r.size cs) in
        let b : ℕ = block_of p in let o : ℕ = count_of p in let b' : ℕ = block_of z.values in let o' : ℕ = count_of z.values in let f : ℕ = z.skip * 8 + o in
        let size : length us ≡ z.size = length-take-le z.size cs (omega (arith, last)) in let skip = is.1 in let head = laid.all in
        let ws' : List ℕ = take (long z.roots) ws in let few_words : length ws' ≡ long z.roots = length-take-le (long z.roots) ws head in
        let At : Ptr → Fml = λ r. row (block_of r) (count_of r) ws' in
        let σ : ℕ = z.strips_name in let Is : ℕ → Strip → Type 0 = IsFurther R z.least in let db : ℕ = block_of z.doors in let d₀ : ℕ = count_of z.doors in
        let le : s.size ≤ length cs = let l = strips_up ss (0 + s.size) (length cs) are.1 in omega (arith, l) in let beyond = length-drop s.size cs in
        let further_long : length cs ≡ 0 + s.size + length (drop s.size cs) = omega (arith, beyond, le) in
        let Stripped : Fml = all_stripped 𝓛 R α z.hands_name Lt Hd own ss in
        qed 𝓛 (‵ (fsep (Of s) (strips R α z.hands_name Owned Hd ss (drop s.size cs))) ∷ ‵ (fdead α) ∷ ‵ (Fixed ws) ∷ ‵ (Drs ss) ∷ []) ∵ fsplit ! $
        move ! (2 ∷ []) $ use1 𝓛 (‵ (fdead α) ⊛ ‵ (fdead α)) (𝓛.lfts.dead_dup α) $ split ! $ move ! (3 ∷ 0 ∷ []) $
        use2 𝓛 (‵ Stripped)
        (tears_all 𝓛 R α z.hands_name Lt Hd own ss (drop s.size cs) (0 + s.size) (length cs) are.1 further_long (λ k x q. laid.fours (s.size + k) x (dropped_cell s.size k (s.size + k) cs x refl q))) $
        -- [the others; dead; the first numbers; the first words; the doors]
        move ! (3 ∷ []) $ use1 𝓛 (ended_item ws) (Grounds.ground_ends 𝓛 (core_of z) ws) $ pick ! (λ v. learn ! (λ so. split3 ! $
        -- [the first words; the buckets; their doors; the others; dead; the first numbers; the doors]
        move ! (5 ∷ 4 ∷ 0 ∷ 3 ∷ 6 ∷ 1 ∷ 2 ∷ []) $
        rewrite ! 0 (λ (r : Strip). ‵ (Of r)) same refl $
        rewrite ! 2 (λ (r : Ptr). ‵ (At r)) is.0 refl $
        use2 𝓛 (items (torn_item 𝓛 R α z.hands_name Lt Hd own b b' (length us) f o'))
        (tears 𝓛 R α z.hands_name Lt Hd own b b' us f o' z.first (λ k x e. laid.fours k x (taken_cell z.size k cs x e))) $ pick ! (λ u. learn ! (λ l. split3 ! $
        -- [its words; its places; their own words; the first words; the others; the doors; the buckets; their doors]
        let l0 = l.0 in let l1 = l.1 in
        let long_is : length (ws' ++ u.0) ≡ whole z.roots z.size = length-append ws' u.0 ∙ omega (arith, few_words, l0, size) in
        move ! (3 ∷ 0 ∷ []) $ use2 𝓛 (‵ (row b o (ws' ++ u.0))) (row_joins 𝓛 b ws' u.0 o f (omega (arith, few_words, skip))) $ move ! (4 ∷ []) $
        use1 𝓛 (Doors.plain_item 𝓛 σ Is (right_to R) db d₀ 32 0 ss) (Doors.plain 𝓛 σ Is (right_to R) db 32 d₀ 0 ss) $ pick ! (λ ps. learn ! (λ few. split ! $
        -- [the doors; the rights; the words; the places; their own words; the others; the buckets; their doors]
        move ! (5 ∷ 1 ∷ []) $ use2 𝓛 (‵ (all_alone R own false (take 32 ss))) (all_joined 𝓛 R α z.hands_name Lt Hd own σ Is db 32 ss) $
        move ! (1 ∷ 6 ∷ []) $ use2 𝓛 (‵ (pointers db d₀ (ps ++ v.1))) (pointers_join 𝓛 db ps v.1 d₀ (256 + d₀) (let n = few.0 in omega (arith, n))) $
        -- [the doors; the others; the words; the places; their own words; the buckets]
        let first_doors : take 32 (ps ++ v.1) ≡ ps = take-append-le 32 ps v.1 (let n = few.0 in omega (arith, n)) ∙ take_all 32 ps (let n = few.0 in omega (arith, n)) in
        let last_doors : drop 32 (ps ++ v.1) ≡ v.1 = drop-append-le 32 ps v.1 (let n = few.0 in omega (arith, n)) ∙ ap (λ (l : List Ptr). l ++ v.1) (drop_none 32 ps few.0) in
        let many : length (ps ++ v.1) ≡ 64 = let l = length-append ps v.1 in let m = few.0 in let n = so.0 in omega (arith, l, m, n) in
        show ! Closed (ws' ++ u.0, u.1, ps ++ v.1, take 32 ss, v.0) $
        check ! (
          long_is,
          omega (arith, l1, size),
          many,
          placed,
          subst (AreBehind Is 0 (take 32 ss)) (sym first_doors) few.1,
          subst (AreBehind IsBucket 0 v.0) (sym last_doors) so.1,
        ) $ move ! (2 ∷ 3 ∷ 0 ∷ 1 ∷ 4 ∷ 5 ∷ []) $ done !))))))

    pub closes : ent 𝓤 ⟦ words_own R own cv holds p z ⟧ (H.⇛ (ex 𝓤 Closed))
    closes = let E : Fml = everything R own cv holds (core_of z) in
        qed 𝓛 (‵ (words_own R own cv holds p z) ∷ []) ∵ updating ! $ fsplit3 ! $ move ! (1 ∷ []) $ fsplit ! $ fpick ! (λ placed. leave ! $ fsplit ! $
        -- [the strip; the invariant; the token; what was lent]
        move ! (1 ∷ []) $ leave ! $ move ! (1 ∷ []) $
        lft_end ! tt $ use1 𝓛 (‵ (fdead α) ⊛ ‵ (fdead α)) (𝓛.lfts.dead_dup α) $ split ! $ move ! (0 ∷ 3 ∷ []) $ lent_back ! tt $
        -- [all of it; dead; the strip]
        move ! (0 ∷ 2 ∷ []) $ use2 𝓛 (‵ (inner R own cv holds p z)) (Known.comes_in 𝓛 R own cv holds p z) $
        fpick ! (λ t. fsplit3 ! $ move ! (2 ∷ []) $ fpick ! (λ so. leave ! $
        -- [the memory; the views; dead]
        fsplit ! $ move ! (1 ∷ []) $ fpick ! (λ ss. fsplit3 ! $ move ! (1 ∷ []) $ fpick ! (λ are. leave ! $ fsplit ! $ leave ! $
        -- [the doors; the strips; the words; the views; dead]
        let cs : List (Cell R.Denot) = t.parts.cells in
        move ! (1 ∷ 4 ∷ []) $
        use2 𝓛 (later (‵ (strips R α z.hands_name Owned Hd ss cs) ⊛ ‵ (fdead α)))
        (unlends_strips 𝓛 R α z.hands_name Lt Hd own (Pieces.over 𝓛 R own cv holds p z) ss cs) $ await ! tt $ split ! $
        -- [the strips; dead; the doors; the words; the views]
        now ! $ keep ! (0 ∷ 1 ∷ 3 ∷ 2 ∷ []) $ by ! (gives_back t so.1 placed ss are.0 (subst (λ (k : ℕ). slice_get ss k ≡ Some (strip_of p z)) is.2 are.1)))))))
