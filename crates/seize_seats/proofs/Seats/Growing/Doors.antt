-- One door of all: that of a strip which is there, or one that is null. Assumes `Logic`.
use Rattle.std.specs.Prelude.{slice_get, slice_index_or, replicate}
use Rattle.std.proofs.Common.{◌≡◌, ℕ, zero, suc, ◌+◌, ◌*◌, ◌<◌, ◌≤◌, List, [], ◌∷◌, ◌++◌, length, take, sym, refl, ap, arith, Some}
use seplogic.Ra.Ura.{Ura}
use base.Share
use base.Logic.{SProp, ent, sep, wand, ex, all, guard, apply∗, all_e}
use base.Fml.{Share, Fml, ftrue, fsep}
use types.Logic.{Logic, sem}
use types.Kit.{‵, raw, ◌⊛◌, some, given, ◌$◌, ◌∵◌, !, qed, move, keep, split, frame, each, assume, pick, learn, show, check, fsplit, fjoin, fsplit3, fjoin3, fpick, fpack, drop, use1, use2, rewrite, done}
use denote.RawPtr.{Ptr, null_ptr}
use denote.Steps.{nothing}
use Rattle.core.specs.Sync.RawAtomic.Pointer.{cell}
use Rattle.seize_seats.specs.Seats.Seen.{seen}
use Rattle.seize_seats.specs.Seats.Strips.{Strip, strip_coded}
use Rattle.seize_seats.specs.Seats.Doors.{pointers, stays, behind, door, doors, AreBehind}
use Rattle.seize_seats.proofs.Seats.Views.Ledgers as Ledgers

module _ {M : Type 1} {𝓤 : Ura M} (𝓛 : Logic 𝓤) (σ : ℕ) (Is : ℕ → Strip → Type 0) (right : Strip → Fml) (b : ℕ) where
  abbrev Doors : ℕ → ℕ → ℕ → List Strip → Fml
  Doors o n k ss = doors σ Is right b o n k ss

  abbrev Door : ℕ → ℕ → Strip → Fml
  Door o k s = door σ Is right b o k s

  abbrev Null : ℕ → Fml
  Null o = cell b o null_ptr

  -- that of the i-th strip of these
  pub door_at : (ss : List Strip) (o n k i e j : ℕ) (s : Strip) → e ≡ i * 8 + o → j ≡ k + i → i < n → slice_get ss i ≡ Some s
      → ent 𝓤 (sem 𝓛 (Doors o n k ss)) (sep 𝓤 (sem 𝓛 (Door e j s)) (wand 𝓤 (sem 𝓛 (Door e j s)) (sem 𝓛 (Doors o n k ss))))
  door_at [] o n k i e j s is at lt has = absurd (cc has)
  door_at (x ∷ ss) o zero k i e j s is at lt has = absurd (omega (arith, lt))
  door_at (x ∷ ss) o (suc n) k zero e j s is at lt has =
      let here : o ≡ e = omega (arith, is) in let this : k ≡ j = omega (arith, at) in let same : x ≡ s = cc has in
      qed 𝓛 (‵ (Door o k x) ∷ ‵ (Doors (o + 8) n (suc k) ss) ∷ []) ∵
      rewrite ! 0 (λ (t : ℕ × ℕ × Strip). ‵ (Door t.0 t.1 t.2)) (λ i. (here i, this i, same i)) refl $ frame ! $ assume ! (‵ (Door e j s)) $
      rewrite ! 0 (λ (t : ℕ × ℕ × Strip). ‵ (Door t.0 t.1 t.2)) (λ i. (sym here i, sym this i, sym same i)) refl $ done !
  door_at (x ∷ ss) o (suc n) k (suc i) e j s is at lt has = let B = wand 𝓤 (sem 𝓛 (Door e j s)) (sem 𝓛 (Doors (o + 8) n (suc k) ss)) in
      qed 𝓛 (‵ (Door o k x) ∷ ‵ (Doors (o + 8) n (suc k) ss) ∷ []) ∵ move ! (1 ∷ []) $
      use1 𝓛 (‵ (Door e j s) ⊛ raw B) (door_at ss (o + 8) n (suc k) i e j s (omega (arith, is)) (omega (arith, at)) (omega (arith, lt)) has) $ split ! $ frame ! $
      assume ! (‵ (Door e j s)) $ use2 𝓛 (‵ (Doors (o + 8) n (suc k) ss)) (apply∗ 𝓤 (sem 𝓛 (Door e j s)) (sem 𝓛 (Doors (o + 8) n (suc k) ss))) $
      move ! (1 ∷ 0 ∷ []) $ done !

  -- one behind which there is no strip
  pub door_null : (ss : List Strip) (o n k i e : ℕ) → e ≡ i * 8 + o → i < n → length ss ≤ i
      → ent 𝓤 (sem 𝓛 (Doors o n k ss)) (sep 𝓤 (sem 𝓛 (Null e)) (wand 𝓤 (sem 𝓛 (Null e)) (sem 𝓛 (Doors o n k ss))))
  door_null ss o zero k i e is lt le = absurd (omega (arith, lt))
  door_null (x ∷ ss) o (suc n) k zero e is lt le = absurd (omega (arith, le))
  door_null [] o (suc n) k zero e is lt le = let here : o ≡ e = omega (arith, is) in
      qed 𝓛 (‵ (Null o) ∷ ‵ (Doors (o + 8) n (suc k) []) ∷ []) ∵ rewrite ! 0 (λ (t : ℕ). ‵ (Null t)) here refl $ frame ! $ assume ! (‵ (Null e)) $
      rewrite ! 0 (λ (t : ℕ). ‵ (Null t)) (sym here) refl $ done !
  door_null [] o (suc n) k (suc i) e is lt le = let B = wand 𝓤 (sem 𝓛 (Null e)) (sem 𝓛 (Doors (o + 8) n (suc k) [])) in
      qed 𝓛 (‵ (Null o) ∷ ‵ (Doors (o + 8) n (suc k) []) ∷ []) ∵ move ! (1 ∷ []) $
      use1 𝓛 (‵ (Null e) ⊛ raw B) (door_null [] (o + 8) n (suc k) i e (omega (arith, is)) (omega (arith, lt)) (omega arith)) $ split ! $ frame ! $
      assume ! (‵ (Null e)) $ use2 𝓛 (‵ (Doors (o + 8) n (suc k) [])) (apply∗ 𝓤 (sem 𝓛 (Null e)) (sem 𝓛 (Doors (o + 8) n (suc k) []))) $
      move ! (1 ∷ 0 ∷ []) $ done !
  door_null (x ∷ ss) o (suc n) k (suc i) e is lt le = let B = wand 𝓤 (sem 𝓛 (Null e)) (sem 𝓛 (Doors (o + 8) n (suc k) ss)) in
      qed 𝓛 (‵ (Door o k x) ∷ ‵ (Doors (o + 8) n (suc k) ss) ∷ []) ∵ move ! (1 ∷ []) $
      use1 𝓛 (‵ (Null e) ⊛ raw B) (door_null ss (o + 8) n (suc k) i e (omega (arith, is)) (omega (arith, lt)) (omega (arith, le))) $ split ! $ frame ! $
      assume ! (‵ (Null e)) $ use2 𝓛 (‵ (Doors (o + 8) n (suc k) ss)) (apply∗ 𝓤 (sem 𝓛 (Null e)) (sem 𝓛 (Doors (o + 8) n (suc k) ss))) $
      move ! (1 ∷ 0 ∷ []) $ done !

  -- the next one: whoever sets it has doors of a strip more
  abbrev pub Sets : ℕ → ℕ → ℕ → List Strip → ℕ → ℕ → Strip → SProp 𝓤
  Sets o n k ss e j s = wand 𝓤 (sem 𝓛 (Door e j s)) (sem 𝓛 (Doors o n k (ss ++ s ∷ [])))

  pub door_next : (ss : List Strip) (o n k e j : ℕ) → e ≡ length ss * 8 + o → j ≡ k + length ss → length ss < n
      → ent 𝓤 (sem 𝓛 (Doors o n k ss)) (sep 𝓤 (sem 𝓛 (Null e)) (all 𝓤 (Sets o n k ss e j)))
  door_next ss o zero k e j is at lt = absurd (omega (arith, lt))
  door_next [] o (suc n) k e j is at lt = let here : o ≡ e = omega (arith, is) in let this : k ≡ j = omega (arith, at) in
      qed 𝓛 (‵ (Null o) ∷ ‵ (Doors (o + 8) n (suc k) []) ∷ []) ∵ rewrite ! 0 (λ (t : ℕ). ‵ (Null t)) here refl $ frame ! $
      each ! (Sets o (suc n) k [] e j) (λ s. assume ! (‵ (Door e j s)) $
      rewrite ! 0 (λ (t : ℕ × ℕ). ‵ (Door t.0 t.1 s)) (λ i. (sym here i, sym this i)) refl $ done !)
  door_next (x ∷ ss) o (suc n) k e j is at lt = let B = Sets (o + 8) n (suc k) ss e j in
      qed 𝓛 (‵ (Door o k x) ∷ ‵ (Doors (o + 8) n (suc k) ss) ∷ []) ∵ move ! (1 ∷ []) $
      use1 𝓛 (‵ (Null e) ⊛ raw (all 𝓤 B)) (door_next ss (o + 8) n (suc k) e j (omega (arith, is)) (omega (arith, at)) (omega (arith, lt))) $ split ! $ frame ! $
      each ! (Sets o (suc n) k (x ∷ ss) e j) (λ s. use1 𝓛 (raw (B s)) (all_e 𝓤 B s) $ assume ! (‵ (Door e j s)) $
      use2 𝓛 (‵ (Doors (o + 8) n (suc k) (ss ++ s ∷ []))) (apply∗ 𝓤 (sem 𝓛 (Door e j s)) (sem 𝓛 (Doors (o + 8) n (suc k) (ss ++ s ∷ [])))) $
      move ! (1 ∷ 0 ∷ []) $ done !)

  -- what stands behind a door tells its strip to whoever looks
  pub tells : (k : ℕ) (s : Strip) → ent 𝓤 (sem 𝓛 (behind σ Is right k s)) (sep 𝓤 (sem 𝓛 (behind σ Is right k s)) (sem 𝓛 (stays σ (suc k) s)))
  tells k s = let Sh : Share → Fml = λ q. seen strip_coded.code σ q (suc k) s in
      qed 𝓛 (‵ (behind σ Is right k s) ∷ []) ∵ fsplit3 ! $ fpick ! (λ is. drop ! $ fpick ! (λ q. let q₁ : Share = Share.left q in let q₂ : Share = Share.right q in
      use1 𝓛 (‵ (Sh q₁) ⊛ ‵ (Sh q₂)) ((Ledgers.view_halves 𝓛 strip_coded σ (suc k) s).cut q) $ split ! $ fpack ! Share Sh q₁ $ move ! (1 ∷ []) $ fpack ! Share Sh q₂ $
      nothing ! $ fpack ! (Is k s) (λ _. ftrue) is $ move ! (0 ∷ 2 ∷ 3 ∷ []) $ fjoin3 ! $ done !))

  -- where all are null there is no strip behind them
  pub nulls : (n o k : ℕ) → ent 𝓤 (sem 𝓛 (pointers b o (replicate n null_ptr))) (sem 𝓛 (Doors o n k []))
  nulls zero o k = qed 𝓛 (‵ ftrue ∷ []) ∵ done !
  nulls (suc n) o k = qed 𝓛 (‵ (Null o) ∷ ‵ (pointers b (o + 8) (replicate n null_ptr)) ∷ []) ∵ move ! (1 ∷ []) $
      use1 𝓛 (‵ (Doors (o + 8) n (suc k) [])) (nulls n (o + 8) (suc k)) $ move ! (1 ∷ 0 ∷ []) $ fjoin ! $ done !

  -- the rights to all of these strips
  abbrev pub rights : List Strip → Fml
  rights [] = ftrue
  rights (s ∷ ss) = fsep (right s) (rights ss)

  -- At the end they are pointers again, and the rights to what lies behind them come back.
  abbrev pub Plain : ℕ → ℕ → ℕ → List Strip → List Ptr → SProp 𝓤
  Plain o n k ss ps = guard 𝓤 ((length ps ≡ n) × AreBehind Is k (take n ss) ps) (sep 𝓤 (sem 𝓛 (pointers b o ps)) (sem 𝓛 (rights (take n ss))))

  abbrev pub plain_item : ℕ → ℕ → ℕ → List Strip → types.Kit.Item 𝓤
  plain_item o n k ss = some (λ (ps : List Ptr). given ((length ps ≡ n) × AreBehind Is k (take n ss) ps) (‵ (pointers b o ps) ⊛ ‵ (rights (take n ss))))

  pub plain : (n o k : ℕ) (ss : List Strip) → ent 𝓤 (sem 𝓛 (Doors o n k ss)) (ex 𝓤 (Plain o n k ss))
  plain zero o k ss = qed 𝓛 (‵ ftrue ∷ []) ∵ show ! (Plain o zero k ss) [] $ check ! (refl, λ i. refl) $ nothing ! $ done !
  plain (suc n) o k [] = qed 𝓛 (‵ (Null o) ∷ ‵ (Doors (o + 8) n (suc k) []) ∷ []) ∵ move ! (1 ∷ []) $
      use1 𝓛 (plain_item (o + 8) n (suc k) []) (plain n (o + 8) (suc k) []) $ pick ! (λ ps. learn ! (λ is.
      show ! (Plain o (suc n) k []) (null_ptr ∷ ps) $ check ! (ap suc is.0, first n ps is.1) $ split ! $ move ! (1 ∷ []) $ drop ! $
      move ! (1 ∷ 0 ∷ []) $ fjoin ! $ nothing ! $ move ! (1 ∷ 0 ∷ []) $ done !))
    where
      first : (m : ℕ) (ps : List Ptr) → AreBehind Is (suc k) (take m []) ps → (i : ℕ) → slice_index_or (null_ptr ∷ ps) i null_ptr ≡ null_ptr
      first m ps are zero = refl
      first zero ps are (suc i) = are i
      first (suc m) ps are (suc i) = are i
  plain (suc n) o k (s ∷ ss) = qed 𝓛 (‵ (Door o k s) ∷ ‵ (Doors (o + 8) n (suc k) ss) ∷ []) ∵ move ! (1 ∷ []) $
      use1 𝓛 (plain_item (o + 8) n (suc k) ss) (plain n (o + 8) (suc k) ss) $ pick ! (λ ps. learn ! (λ behind_are. split ! $ move ! (2 ∷ []) $ fsplit ! $
      move ! (1 ∷ []) $ fsplit3 ! $ fpick ! (λ is. drop ! $ drop ! $
      -- [the right; the cell; the other cells; the other rights]
      show ! (Plain o (suc n) k (s ∷ ss)) (s.words ∷ ps) $ check ! (ap suc behind_are.0, (is, refl, behind_are.1)) $ move ! (0 ∷ 3 ∷ []) $ fjoin ! $
      move ! (1 ∷ 2 ∷ 0 ∷ []) $ fjoin ! $ done !)))

  -- what is so of all strips behind them
  abbrev pub AllAre : ℕ → List Strip → Type 0
  AllAre k [] = Unit {0}
  AllAre k (s ∷ ss) = Is k s × AllAre (suc k) ss

  pub all_are : (ss : List Strip) (o n k : ℕ) → length ss ≤ n → ent 𝓤 (sem 𝓛 (Doors o n k ss)) (guard 𝓤 (AllAre k ss) (sem 𝓛 (Doors o n k ss)))
  all_are [] o n k le = qed 𝓛 (‵ (Doors o n k []) ∷ []) ∵ check ! tt $ done !
  all_are (s ∷ ss) o zero k le = absurd (omega (arith, le))
  all_are (s ∷ ss) o (suc n) k le = let B : Fml = fsep (stays σ (suc k) s) (right s) in
      qed 𝓛 (‵ (Door o k s) ∷ ‵ (Doors (o + 8) n (suc k) ss) ∷ []) ∵ move ! (1 ∷ []) $
      use1 𝓛 (given (AllAre (suc k) ss) (‵ (Doors (o + 8) n (suc k) ss))) (all_are ss (o + 8) n (suc k) (omega (arith, le))) $ learn ! (λ rest.
      move ! (1 ∷ []) $ fsplit3 ! $ move ! (1 ∷ []) $ fpick ! (λ is. drop ! $
      -- [the cell; it stays, and the right; the others]
      move ! (1 ∷ []) $ nothing ! $ fpack ! (Is k s) (λ _. ftrue) is $ fjoin ! $ move ! (1 ∷ 0 ∷ []) $ fjoin ! $ check ! (is, rest) $ done !))

-- ---- pointers side by side, in two parts
module _ {M : Type 1} {𝓤 : Ura M} (𝓛 : Logic 𝓤) (b : ℕ) where
  pub pointers_split : (ps qs : List Ptr) (o e : ℕ) → e ≡ length ps * 8 + o → ent 𝓤 (sem 𝓛 (pointers b o (ps ++ qs))) (sep 𝓤 (sem 𝓛 (pointers b o ps)) (sem 𝓛 (pointers b e qs)))
  pointers_split [] qs o e is = let here : o ≡ e = omega (arith, is) in qed 𝓛 (‵ (pointers b o qs) ∷ []) ∵ rewrite ! 0 (λ (k : ℕ). ‵ (pointers b k qs)) here refl $ nothing ! $ done !
  pointers_split (p ∷ ps) qs o e is = qed 𝓛 (‵ (cell b o p) ∷ ‵ (pointers b (o + 8) (ps ++ qs)) ∷ []) ∵ move ! (1 ∷ []) $
      use1 𝓛 (‵ (pointers b (o + 8) ps) ⊛ ‵ (pointers b e qs)) (pointers_split ps qs (o + 8) e (omega (arith, is))) $ split ! $ move ! (2 ∷ 0 ∷ []) $ fjoin ! $ done !

  pub pointers_join : (ps qs : List Ptr) (o e : ℕ) → e ≡ length ps * 8 + o → ent 𝓤 (sep 𝓤 (sem 𝓛 (pointers b o ps)) (sem 𝓛 (pointers b e qs))) (sem 𝓛 (pointers b o (ps ++ qs)))
  pointers_join [] qs o e is = let here : e ≡ o = omega (arith, is) in qed 𝓛 (‵ ftrue ∷ ‵ (pointers b e qs) ∷ []) ∵
      rewrite ! 1 (λ (k : ℕ). ‵ (pointers b k qs)) here refl $ move ! (1 ∷ []) $ keep ! (0 ∷ []) $ done !
  pointers_join (p ∷ ps) qs o e is = qed 𝓛 ((‵ (cell b o p) ⊛ ‵ (pointers b (o + 8) ps)) ∷ ‵ (pointers b e qs) ∷ []) ∵ split ! $ move ! (1 ∷ 2 ∷ []) $
      use2 𝓛 (‵ (pointers b (o + 8) (ps ++ qs))) (pointers_join ps qs (o + 8) e (omega (arith, is))) $ move ! (1 ∷ 0 ∷ []) $ fjoin ! $ done !
