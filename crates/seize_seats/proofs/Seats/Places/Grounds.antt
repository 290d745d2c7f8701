-- The words of roots and slots by their places: those that lie with the first strip, and those of a bucket of slots that is known to be there. Assumes `Logic`.
use Rattle.std.specs.Prelude.{slice_get, replicate, map}
use Rattle.std.proofs.Common.{◌≡◌, ℕ, zero, suc, ◌+◌, ◌-◌, ◌*◌, ◌^◌, ◌<◌, ◌≤◌, List, [], ◌∷◌, length, length-set, set, get_or, take, drop, sym, refl, ap, ◌∙◌, subst, arith, Some}
use Rattle.std.proofs.lemmas.List.{take_all, length-take-le, length-drop, get_or-take, get_or-drop, take-set-le, drop-set-lt, drop-set-add}
use seplogic.Ra.Ura.{Ura}
use base.Logic.{SProp, ent, sep, wand, ex, all, guard, apply∗, all_e}
use base.Fml.{Share, Fml, ftrue, fsep}
use types.Logic.{Logic, sem}
use types.Kit.{‵, raw, ◌⊛◌, given, ◌$◌, ◌∵◌, !, qed, move, drop as leave, split, frame, each, assume, fsplit, fjoin, fpick, fpack, learn, check, show, use1, use2, rewrite, done}
use denote.RawPtr.{Ptr, null_ptr, block_of, count_of}
use denote.Steps.{nothing}
use Rattle.core.specs.Sync.RawAtomic.{word}
use Rattle.seize_words.specs.OneMemory.Place.{capacity}
use Rattle.seize_words.proofs.OneMemory.Places.Words.{capacity-more, capacity_le_capacity}
use Rattle.seize_seats.specs.Seats.Seen.{seen}
use Rattle.seize_seats.specs.Seats.Lines.{long}
use Rattle.seize_seats.specs.Seats.Strips.{Strip, strip_coded, no_strip, AreStrips}
use Rattle.seize_seats.specs.Seats.Doors.{pointers, stays, AreBehind}
use Rattle.seize_seats.specs.Seats.Buckets.{IsBucket, AreBuckets}
use Rattle.seize_seats.specs.Seats.Owned.{bucket_pieces, IsPiece, piece, pieces, row, lines, ledger, bucket_right, Core, gates, ground_of, ground}
use Rattle.seize_seats.proofs.Seats.Views.Ledgers as Ledgers
use Rattle.seize_seats.proofs.Seats.Growing.Doors as Doors
use Rattle.seize_seats.proofs.Seats.Places.Rows.{row_at}
use Rattle.seize_seats.proofs.Seats.Places.Rows as Rows
use Rattle.seize_seats.proofs.Seats.Places.Strips.{take_set, strips_up, strip_within}

pub capacity_least : (k : ℕ) → 32 ≤ capacity k
capacity_least k = let c = capacity_le_capacity 0 k (omega arith) in let e : capacity 0 ≡ 32 = refl in omega (arith, c, e)

-- each bucket has twice as many slots as the one before it
pub capacity_twice : (k : ℕ) → capacity (suc k) ≡ capacity k + capacity k
capacity_twice k = let e : suc k ≡ k + 1 = omega arith in ap capacity e ∙ capacity-more k

module _ {M : Type 1} {𝓤 : Ura M} (𝓛 : Logic 𝓤) where
  abbrev ⟦◌⟧ : Fml → SProp 𝓤
  ⟦ P ⟧ = sem 𝓛 P

  -- whoever has another word at a place of a bucket has all of them with it
  abbrev Puts : List Strip → List ℕ → ℕ → Strip → ℕ → ℕ → SProp 𝓤
  Puts ss ws i s e y = wand 𝓤 ⟦ word (block_of s.words) e y ⟧ ⟦ lines ss (set ws i y) ⟧

  -- a word of one of these buckets, the first of which begins with the j-th slot
  lines_at : (ss : List Strip) (ws : List ℕ) (j n k m i e : ℕ) (s : Strip) → AreStrips j ss n → n * 16 ≡ j * 16 + length ws → slice_get ss k ≡ Some s
      → m < s.size * 16 → i + j * 16 ≡ s.first * 16 + m → e ≡ m * 8 + count_of s.words
      → ent 𝓤 ⟦ lines ss ws ⟧ (sep 𝓤 ⟦ word (block_of s.words) e (get_or ws i 0) ⟧ (all 𝓤 (Puts ss ws i s e)))
  lines_at [] ws j n k m i e s are long at lt is lies = absurd (cc at)
  lines_at (x ∷ ss) ws j n zero m i e s are long at lt is lies =
      let same : x ≡ s = cc at in
      subst (λ (y : Strip). m < y.size * 16 → i + j * 16 ≡ y.first * 16 + m → e ≡ m * 8 + count_of y.words
      → ent 𝓤 ⟦ lines (x ∷ ss) ws ⟧ (sep 𝓤 ⟦ word (block_of y.words) e (get_or ws i 0) ⟧ (all 𝓤 (Puts (x ∷ ss) ws i y e)))) same here lt is lies
    where
      here : m < x.size * 16 → i + j * 16 ≡ x.first * 16 + m → e ≡ m * 8 + count_of x.words
          → ent 𝓤 ⟦ lines (x ∷ ss) ws ⟧ (sep 𝓤 ⟦ word (block_of x.words) e (get_or ws i 0) ⟧ (all 𝓤 (Puts (x ∷ ss) ws i x e)))
      here few at_i at_e =
          let b : ℕ = block_of x.words in let o : ℕ = count_of x.words in let t : ℕ = x.size * 16 in let first = are.0 in
          let up = strips_up ss (j + x.size) n are.1 in let this : i ≡ m = omega (arith, at_i, first) in
          let size : length (take t ws) ≡ t = length-take-le t ws (omega (arith, up, long)) in let low : i < t = omega (arith, this, few) in
          let P = Rows.Puts 𝓛 b o (take t ws) i e in let there : e ≡ i * 8 + o = omega (arith, at_e, this) in
          qed 𝓛 (‵ (row b o (take t ws)) ∷ ‵ (lines ss (drop t ws)) ∷ []) ∵
          use1 𝓛 (‵ (word b e (get_or (take t ws) i 0)) ⊛ raw (all 𝓤 P)) (row_at 𝓛 b (take t ws) o i e there (omega (arith, low, size))) $ split ! $
          rewrite ! 0 (λ (v : ℕ). ‵ (word b e v)) (get_or-take t ws i 0 low) refl $ frame ! $
          each ! (Puts (x ∷ ss) ws i x e) (λ y. use1 𝓛 (raw (P y)) (all_e 𝓤 P y) $ assume ! (‵ (word b e y)) $
          use2 𝓛 (‵ (row b o (set (take t ws) i y))) (apply∗ 𝓤 ⟦ word b e y ⟧ ⟦ row b o (set (take t ws) i y) ⟧) $
          rewrite ! 0 (λ (l : List ℕ). ‵ (row b o l)) (sym (take_set t ws i y)) refl $
          rewrite ! 1 (λ (l : List ℕ). ‵ (lines ss l)) (sym (drop-set-lt t ws i y low)) refl $ fjoin ! $ done !)
  lines_at (x ∷ ss) ws j n (suc k) m i e s are long at lt is lies =
      let b : ℕ = block_of x.words in let o : ℕ = count_of x.words in let t : ℕ = x.size * 16 in let b' : ℕ = block_of s.words in
      let within = strip_within ss (j + x.size) n k s are.1 at in let behind = within.0 in let up = strips_up ss (j + x.size) n are.1 in
      let i' : ℕ = i - t in let mine : t + i' ≡ i = omega (arith, is, behind) in let size = length-drop t ws in
      let P = Puts ss (drop t ws) i' s e in
      qed 𝓛 (‵ (row b o (take t ws)) ∷ ‵ (lines ss (drop t ws)) ∷ []) ∵ move ! (1 ∷ []) $
      use1 𝓛 (‵ (word b' e (get_or (drop t ws) i' 0)) ⊛ raw (all 𝓤 P))
      (lines_at ss (drop t ws) (j + x.size) n k m i' e s are.1 (omega (arith, long, up, size)) at lt (omega (arith, is, mine)) lies) $ split ! $
      rewrite ! 0 (λ (v : ℕ). ‵ (word b' e v)) (get_or-drop t ws i' 0 ∙ ap (λ (q : ℕ). get_or ws q 0) mine) refl $ frame ! $
      each ! (Puts (x ∷ ss) ws i s e) (λ y. use1 𝓛 (raw (P y)) (all_e 𝓤 P y) $ assume ! (‵ (word b' e y)) $
      use2 𝓛 (‵ (lines ss (set (drop t ws) i' y))) (apply∗ 𝓤 ⟦ word b' e y ⟧ ⟦ lines ss (set (drop t ws) i' y) ⟧) $
      rewrite ! 0 (λ (l : List ℕ). ‵ (lines ss l)) (sym (drop-set-add t ws i' y) ∙ ap (λ (q : ℕ). drop t (set ws q y)) mine) refl $ move ! (1 ∷ []) $
      rewrite ! 0 (λ (l : List ℕ). ‵ (row b o l)) (sym (take-set-le t ws (t + i') y (omega arith)) ∙ ap (λ (q : ℕ). take t (set ws q y)) mine) refl $
      fjoin ! $ done !)

  -- one bucket follows the other
  abbrev pub AllBuckets : Core → List Strip → Type 0
  AllBuckets k ss = Doors.AllAre 𝓛 k.slots_name IsBucket bucket_right (block_of k.doors) 0 ss

  follow : (σ b : ℕ) (ss : List Strip) (k : ℕ) → Doors.AllAre 𝓛 σ IsBucket bucket_right b k ss
      → AreStrips (capacity (suc k) - 32) ss (capacity (suc k + length ss) - 32)
  follow σ b [] k are = let e : suc k + 0 ≡ suc k = omega arith in ap (λ (n : ℕ). capacity n - 32) e
  follow σ b (s ∷ ss) k are =
      let is = are.0.2 in let first : s.first ≡ capacity (suc k) - 32 = ap (λ (x : Strip). x.first) is in
      let size : s.size ≡ capacity (suc k) = ap (λ (x : Strip). x.size) is in
      let twice = capacity_twice (suc k) in let least = capacity_least (suc k) in
      let next : capacity (suc (suc k)) - 32 ≡ capacity (suc k) - 32 + s.size = omega (arith, twice, least, size) in
      let on : suc (suc k) + length ss ≡ suc k + suc (length ss) = omega arith in (
        first,
        subst (λ (n : ℕ). AreStrips n ss (capacity (suc k + suc (length ss)) - 32)) next
            (subst (λ (n : ℕ). AreStrips (capacity (suc (suc k)) - 32) ss (capacity n - 32)) on (follow σ b ss (suc k) are.1)),
      )

  pub buckets_follow : (k : Core) (ss : List Strip) → AllBuckets k ss → AreStrips 32 ss (capacity (suc (length ss)) - 32)
  buckets_follow k ss are =
      let e : suc 0 + length ss ≡ suc (length ss) = omega arith in let first : capacity (suc 0) - 32 ≡ 32 = refl in
      subst (λ (n : ℕ). AreStrips 32 ss (capacity n - 32)) e (follow k.slots_name (block_of k.doors) ss 0 are)

  module _ (k : Core) (ws : List ℕ) where
    abbrev L : ℕ
    L = long k.roots

    abbrev b : ℕ
    b = block_of k.fixed

    abbrev o : ℕ
    o = count_of k.fixed

    -- another word at a place of all of them
    abbrev pub Sets : ℕ → ℕ → ℕ → ℕ → SProp 𝓤
    Sets i c e y = wand 𝓤 ⟦ word c e y ⟧ ⟦ ground k (set ws i y) ⟧

    abbrev Tail : List Strip → Fml
    Tail ss = fsep (ledger strip_coded.code k.slots_name no_strip (no_strip ∷ ss)) (gates k ss)

    still : (ss : List Strip) (i y : ℕ) → AreBuckets k.roots ws ss → AreBuckets k.roots (set ws i y) ss
    still ss i y are = (are.0, let l = length-set ws i y in let a = are.1 in omega (arith, l, a))

    -- A WORD OF A ROOT OR OF THE FIRST BUCKET
    pub ground_at : (i e : ℕ) → i < L → L ≤ length ws → e ≡ i * 8 + o
        → ent 𝓤 ⟦ ground k ws ⟧ (sep 𝓤 ⟦ word b e (get_or ws i 0) ⟧ (all 𝓤 (Sets i b e)))
    ground_at i e low fits at = qed 𝓛 (‵ (ground k ws) ∷ []) ∵ fpick ! (λ ss. fsplit ! $ fsplit ! $
        let P = Rows.Puts 𝓛 b o (take L ws) i e in let size : length (take L ws) ≡ L = length-take-le L ws fits in
        -- [the first words; the buckets; the list, the doors and what is so]
        use1 𝓛 (‵ (word b e (get_or (take L ws) i 0)) ⊛ raw (all 𝓤 P)) (row_at 𝓛 b (take L ws) o i e at (omega (arith, low, size))) $ split ! $
        rewrite ! 0 (λ (v : ℕ). ‵ (word b e v)) (get_or-take L ws i 0 low) refl $ frame ! $
        each ! (Sets i b e) (λ y. use1 𝓛 (raw (P y)) (all_e 𝓤 P y) $ assume ! (‵ (word b e y)) $
        use2 𝓛 (‵ (row b o (set (take L ws) i y))) (apply∗ 𝓤 ⟦ word b e y ⟧ ⟦ row b o (set (take L ws) i y) ⟧) $
        rewrite ! 0 (λ (l : List ℕ). ‵ (row b o l)) (sym (take_set L ws i y)) refl $
        rewrite ! 1 (λ (l : List ℕ). ‵ (lines ss l)) (sym (drop-set-lt L ws i y low)) refl $ fjoin ! $ move ! (1 ∷ []) $ fsplit ! $ move ! (1 ∷ []) $
        fpick ! (λ are. leave ! $ nothing ! $ fpack ! (AreBuckets k.roots (set ws i y) ss) (λ _. ftrue) (still ss i y are) $
        -- [what is so; the list and the doors; the words]
        move ! (1 ∷ 0 ∷ []) $ fjoin ! $ move ! (1 ∷ 0 ∷ []) $ fjoin ! $ fpack ! (List Strip) (ground_of k (set ws i y)) ss $ done !)))

    abbrev Sh : Share → ℕ → Strip → Fml
    Sh q j s = seen strip_coded.code k.slots_name q (suc j) s

    -- the buckets with their doors, where what is so of them is known
    abbrev Known : ℕ → Strip → SProp 𝓤
    Known j s = ex 𝓤 (λ (ss : List Strip). guard 𝓤 (AreBuckets k.roots ws ss × AllBuckets k ss × (slice_get ss j ≡ Some s))
        (sep 𝓤 ⟦ row b o (take L ws) ⟧ (sep 𝓤 ⟦ lines ss (drop L ws) ⟧ ⟦ Tail ss ⟧)))

    -- whoever knows of a bucket finds it in the list
    known : (j : ℕ) (s : Strip) → ent 𝓤 (sep 𝓤 ⟦ ground k ws ⟧ ⟦ stays k.slots_name (suc j) s ⟧) (Known j s)
    known j s = let K : List Strip → SProp 𝓤 = λ ss. guard 𝓤 (AreBuckets k.roots ws ss × AllBuckets k ss × (slice_get ss j ≡ Some s))
        (sep 𝓤 ⟦ row b o (take L ws) ⟧ (sep 𝓤 ⟦ lines ss (drop L ws) ⟧ ⟦ Tail ss ⟧)) in
        qed 𝓛 (‵ (ground k ws) ∷ ‵ (stays k.slots_name (suc j) s) ∷ []) ∵ fpick ! (λ ss. fsplit ! $ fsplit ! $ move ! (2 ∷ []) $ fsplit ! $ move ! (1 ∷ []) $
        fpick ! (λ are. leave ! $ fsplit ! $
        let Led : Fml = ledger strip_coded.code k.slots_name no_strip (no_strip ∷ ss) in
        -- [the list; the doors; the first words; the buckets; it stays]
        move ! (4 ∷ []) $ fpick ! (λ q. move ! (1 ∷ 0 ∷ []) $
        use2 𝓛 (given (slice_get (no_strip ∷ ss) (suc j) ≡ Some s) (‵ Led ⊛ ‵ (Sh q j s)))
        (Ledgers.sits 𝓛 strip_coded k.slots_name no_strip (no_strip ∷ ss) (suc j) q s) $ learn ! (λ at. split ! $ move ! (1 ∷ []) $ leave ! $ move ! (1 ∷ []) $
        use1 𝓛 (given (AllBuckets k ss) (‵ (gates k ss)))
        (Doors.all_are 𝓛 k.slots_name IsBucket bucket_right (block_of k.doors) ss (256 + count_of k.doors) 32 0 are.0) $ learn ! (λ all.
        show ! K ss $ check ! (are, all, at) $ move ! (1 ∷ 0 ∷ []) $ fjoin ! $ move ! (1 ∷ 2 ∷ 0 ∷ []) $ done !)))))

    abbrev known_item : ℕ → Strip → types.Kit.Item 𝓤
    known_item j s = types.Kit.some (λ (ss : List Strip). given (AreBuckets k.roots ws ss × AllBuckets k ss × (slice_get ss j ≡ Some s))
        (‵ (row b o (take L ws)) ⊛ ‵ (lines ss (drop L ws)) ⊛ ‵ (Tail ss)))

    -- A WORD OF A BUCKET THAT IS KNOWN TO BE THERE: the m-th of its words
    pub ground_far : (j m i e : ℕ) (s : Strip) → m < s.size * 16 → i ≡ (k.roots + k.roots + s.first) * 16 + m → e ≡ m * 8 + count_of s.words
        → ent 𝓤 (sep 𝓤 ⟦ ground k ws ⟧ ⟦ stays k.slots_name (suc j) s ⟧) (sep 𝓤 ⟦ word (block_of s.words) e (get_or ws i 0) ⟧ (all 𝓤 (Sets i (block_of s.words) e)))
    ground_far j m i e s few is at = qed 𝓛 (‵ (ground k ws) ∷ ‵ (stays k.slots_name (suc j) s) ∷ []) ∵ use2 𝓛 (known_item j s) (known j s) $
        types.Kit.pick ! (λ ss. learn ! (λ so. types.Kit.split3 ! $
        let c : ℕ = block_of s.words in let are = so.0.1 in let n : ℕ = capacity (suc (length ss)) - 32 in let least = capacity_least (suc (length ss)) in
        let follows = buckets_follow k ss so.1 in let size = length-drop L ws in let behind = (strip_within ss 32 n j s follows so.2).0 in
        let i' : ℕ = i - L in let mine : L + i' ≡ i = omega (arith, is, behind) in let P = Puts ss (drop L ws) i' s e in
        -- [the first words; the buckets; the list and the doors]
        move ! (1 ∷ []) $ use1 𝓛 (‵ (word c e (get_or (drop L ws) i' 0)) ⊛ raw (all 𝓤 P))
        (lines_at ss (drop L ws) 32 n j m i' e s follows (omega (arith, are, least, size)) so.2 few (omega (arith, is, mine)) at) $ split ! $
        rewrite ! 0 (λ (v : ℕ). ‵ (word c e v)) (get_or-drop L ws i' 0 ∙ ap (λ (q : ℕ). get_or ws q 0) mine) refl $ frame ! $
        each ! (Sets i c e) (λ y. use1 𝓛 (raw (P y)) (all_e 𝓤 P y) $ assume ! (‵ (word c e y)) $
        use2 𝓛 (‵ (lines ss (set (drop L ws) i' y))) (apply∗ 𝓤 ⟦ word c e y ⟧ ⟦ lines ss (set (drop L ws) i' y) ⟧) $
        rewrite ! 0 (λ (l : List ℕ). ‵ (lines ss l)) (sym (drop-set-add L ws i' y) ∙ ap (λ (q : ℕ). drop L (set ws q y)) mine) refl $ move ! (1 ∷ []) $
        rewrite ! 0 (λ (l : List ℕ). ‵ (row b o l)) (sym (take-set-le L ws (L + i') y (omega arith)) ∙ ap (λ (q : ℕ). take L (set ws q y)) mine) refl $
        fjoin ! $ nothing ! $ fpack ! (AreBuckets k.roots (set ws i y) ss) (λ _. ftrue) (still ss i y so.0) $
        -- [what is so; the words; the list and the doors]
        move ! (2 ∷ 0 ∷ []) $ fjoin ! $ move ! (1 ∷ 0 ∷ []) $ fjoin ! $ fpack ! (List Strip) (ground_of k (set ws i y)) ss $ done !)))

-- nothing is behind all of them
pub drop_none : {A : Type 0} (n : ℕ) (l : List A) → length l ≡ n → drop n l ≡ []
drop_none zero [] e = refl
drop_none zero (x ∷ l) e = absurd (omega (arith, e))
drop_none (suc n) [] e = refl
drop_none (suc n) (x ∷ l) e = drop_none n l (omega (arith, e))

-- ---- the first and the last of them
module _ {M : Type 1} {𝓤 : Ura M} (𝓛 : Logic 𝓤) (k : Core) where
  abbrev db : ℕ
  db = block_of k.doors

  abbrev d : ℕ
  d = 256 + count_of k.doors

  abbrev Led : List Strip → Fml
  Led ss = ledger strip_coded.code k.slots_name no_strip ss

  -- with no bucket but the first one
  pub ground_begins : (ws : List ℕ) → length ws ≡ long k.roots → ent 𝓤 (sep 𝓤 (sem 𝓛 (row (block_of k.fixed) (count_of k.fixed) ws))
      (sep 𝓤 (sem 𝓛 (Led (no_strip ∷ []))) (sem 𝓛 (pointers db d (replicate 32 null_ptr))))) (sem 𝓛 (ground k ws))
  ground_begins ws long_is = let b : ℕ = block_of k.fixed in let o : ℕ = count_of k.fixed in let few : capacity (suc 0) ≡ 64 = refl in
      qed 𝓛 (‵ (row b o ws) ∷ ‵ (Led (no_strip ∷ [])) ∷ ‵ (pointers db d (replicate 32 null_ptr)) ∷ []) ∵
      rewrite ! 0 (λ (l : List ℕ). ‵ (row b o l)) (sym (take_all (long k.roots) ws (omega (arith, long_is)))) refl $ move ! (2 ∷ []) $
      use1 𝓛 (‵ (gates k [])) (Doors.nulls 𝓛 k.slots_name IsBucket bucket_right db 32 d 0) $
      -- [the doors; the words; the list]
      move ! (2 ∷ 0 ∷ []) $ fjoin ! $ nothing ! $ fpack ! (AreBuckets k.roots ws []) (λ _. ftrue) (omega arith, omega (arith, long_is, few)) $
      move ! (1 ∷ 0 ∷ []) $ fjoin ! $ move ! (1 ∷ 0 ∷ []) $ nothing ! $ move ! (1 ∷ 0 ∷ []) $ fjoin ! $ fjoin ! $
      fpack ! (List Strip) (ground_of k ws) [] $ done !

  pieces_of : (σ b n : ℕ) (ss : List Strip) (ws : List ℕ) (j m i : ℕ) → i + length ss ≤ 32 → Doors.AllAre 𝓛 σ IsBucket bucket_right b i ss → AreStrips j ss m
      → m * 16 ≡ j * 16 + length ws
      → ent 𝓤 (sep 𝓤 (sem 𝓛 (lines ss ws)) (sem 𝓛 (Doors.rights 𝓛 σ IsBucket bucket_right n ss))) (sem 𝓛 (pieces bucket_pieces (map Some ss)))
  pieces_of σ b n [] ws j m i few all are long_is = qed 𝓛 (‵ ftrue ∷ ‵ ftrue ∷ []) ∵ leave ! $ done !
  pieces_of σ b n (s ∷ ss) ws j m i few all are long_is =
      let t : ℕ = s.size * 16 in let us : List ℕ = take t ws in let up = strips_up ss (j + s.size) m are.1 in let rest = length-drop t ws in
      let size : length us ≡ t = length-take-le t ws (omega (arith, up, long_is)) in
      let is : s.size ≡ capacity (suc i) = ap (λ (x : Strip). x.size) all.0.2 in let most = capacity_le_capacity (suc i) 32 (omega (arith, few)) in
      let c : capacity 32 ≡ 2 ^ 37 = refl in
      let so : IsPiece bucket_pieces (s, us) = (size, λ _. (all.0.0, omega (arith, is, most, c))) in
      let P : List ℕ → Fml = λ l. piece bucket_pieces (s, l) in let R : List Strip → Fml = Doors.rights 𝓛 σ IsBucket bucket_right n in
      qed 𝓛 ((‵ (row (block_of s.words) (count_of s.words) us) ⊛ ‵ (lines ss (drop t ws))) ∷ (‵ (bucket_right s) ⊛ ‵ (R ss)) ∷ []) ∵ split ! $ move ! (2 ∷ []) $ split ! $
      -- [the right; the other rights; the words; the others]
      move ! (2 ∷ 0 ∷ []) $ fjoin ! $ nothing ! $ fpack ! (IsPiece bucket_pieces (s, us)) (λ _. ftrue) so $ fjoin ! $ fpack ! (List ℕ) P us $ move ! (2 ∷ 1 ∷ []) $
      use2 𝓛 (‵ (pieces bucket_pieces (map Some ss)))
      (pieces_of σ b n ss (drop t ws) (j + s.size) m (suc i) (omega (arith, few)) all.1 are.1 (omega (arith, long_is, rest, size, up))) $
      move ! (1 ∷ 0 ∷ []) $ fjoin ! $ done !

  -- at the end each is a piece of memory again, and the doors are pointers
  abbrev pub Ended : List ℕ → List Strip × List Ptr → SProp 𝓤
  Ended ws u =
      guard 𝓤 ((length u.1 ≡ 32) × AreBehind IsBucket 0 u.0 u.1)
      (sep 𝓤 (sem 𝓛 (row (block_of k.fixed) (count_of k.fixed) (take (long k.roots) ws))) (sep 𝓤 (sem 𝓛 (pieces bucket_pieces (map Some u.0))) (sem 𝓛 (pointers db d u.1))))

  pub ground_ends : (ws : List ℕ) → ent 𝓤 (sem 𝓛 (ground k ws)) (ex 𝓤 (Ended ws))
  ground_ends ws = qed 𝓛 (‵ (ground k ws) ∷ []) ∵ fpick ! (λ ss. fsplit ! $ fsplit ! $ move ! (2 ∷ []) $ fsplit ! $ move ! (1 ∷ []) $ fpick ! (λ are. leave ! $ fsplit ! $ leave ! $
      -- [the doors; the first words; the buckets]
      use1 𝓛 (given (AllBuckets 𝓛 k ss) (‵ (gates k ss))) (Doors.all_are 𝓛 k.slots_name IsBucket bucket_right db ss d 32 0 are.0) $ learn ! (λ all.
      use1 𝓛 (Doors.plain_item 𝓛 k.slots_name IsBucket bucket_right db d 32 0 ss) (Doors.plain 𝓛 k.slots_name IsBucket bucket_right db 32 d 0 ss) $ types.Kit.pick ! (λ ps. learn ! (λ so. split ! $
      -- [the doors; the rights; the first words; the buckets]
      let L : ℕ = long k.roots in let n : ℕ = capacity (suc (length ss)) - 32 in let least = capacity_least (suc (length ss)) in let follows = buckets_follow 𝓛 k ss all in
      let beyond = length-drop L ws in let long_is = are.1 in let whole : take 32 ss ≡ ss = take_all 32 ss are.0 in
      let behind : AreBehind IsBucket 0 ss ps = subst (λ (l : List Strip). AreBehind IsBucket 0 l ps) whole so.1 in
      move ! (1 ∷ []) $ rewrite ! 0 (λ (l : List Strip). ‵ (Doors.rights 𝓛 k.slots_name IsBucket bucket_right db l)) whole refl $ move ! (3 ∷ 0 ∷ []) $
      use2 𝓛 (‵ (pieces bucket_pieces (map Some ss)))
      (pieces_of k.slots_name db db ss (drop L ws) 32 n 0 (let f = are.0 in omega (arith, f)) all follows (omega (arith, long_is, least, beyond))) $
      -- [the pieces; the doors; the first words]
      show ! (Ended ws) (ss, ps) $ check ! (so.0, behind) $ move ! (2 ∷ 0 ∷ 1 ∷ []) $ done !)))))
