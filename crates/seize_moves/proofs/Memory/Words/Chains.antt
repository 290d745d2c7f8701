-- Lists that run through words: each word is the link of a block, or the word that ends the list.
use Rattle.std.proofs.Common.{◌≡◌, ℕ, ◌+◌, ◌<◌, Bool, true, false, List, [], ◌∷◌, ◌++◌, length, arith, refl, sym, subst}
use Rattle.seize_moves.specs.Waiting.Held.{count, same}
use Rattle.seize_moves.proofs.Moves.State.Ghost.{put, Entry}
use Rattle.seize_moves.proofs.Memory.Words.Named.{link}

-- from word w on, through the word of each block, to word e
abbrev pub Chain : ℕ → (ℕ → ℕ) → ℕ → List ℕ → Type 0
Chain e next w [] = w ≡ e
Chain e next w (c ∷ l) = (0 < c) × (w ≡ link c) × Chain e next (next c) l

-- the word that a list begins with, where it ends in e
abbrev pub first_or : ℕ → List ℕ → ℕ
first_or e [] = e
first_or e (c ∷ l) = link c

abbrev pub last_from : ℕ → List ℕ → ℕ
last_from c [] = c
last_from c (d ∷ l) = last_from d l

-- the last block, or 0
abbrev pub last_of : List ℕ → ℕ
last_of [] = 0
last_of (c ∷ l) = last_from c l

abbrev pub blocks_of : List Entry → List ℕ
blocks_of [] = []
blocks_of (e ∷ es) = e.block ∷ blocks_of es

-- the list, or what is behind its first block
abbrev pub waiting : Bool → List ℕ → List ℕ
waiting false l = l
waiting true [] = []
waiting true (c ∷ l) = l

-- blocks that are marked, the first ones with these slots in order
abbrev pub Marks : (ℕ → ℕ) → List ℕ → List ℕ → Type 0
Marks at cs [] = Unit {0}
Marks at [] (t ∷ ts) = ⊥
Marks at (c ∷ cs) (t ∷ ts) = (at c ≡ t) × Marks at cs ts

-- counting

pub count_last : (c : ℕ) (l : List ℕ) → 0 < count (last_from c l) (c ∷ l)
count_last c [] = grind arith
count_last c (d ∷ l) = one (count_last d l)
  where
    one : 0 < count (last_from d l) (d ∷ l) → 0 < same (last_from d l) c + count (last_from d l) (d ∷ l)
    one h = omega arith

pub count_first : (c : ℕ) (l : List ℕ) → 0 < count c (c ∷ l)
count_first c l = grind arith

pub last-append : (c d : ℕ) (l : List ℕ) → last_from c (l ++ d ∷ []) ≡ d
last-append c d [] = refl
last-append c d (b ∷ l) = last-append b d l

pub last_of-append : (d : ℕ) (l : List ℕ) → last_of (l ++ d ∷ []) ≡ d
last_of-append d [] = refl
last_of-append d (b ∷ l) = last-append b d l

-- chains

-- a chain is of its own words alone
pub chain_like : (e : ℕ) (next other : ℕ → ℕ) (w : ℕ) (l : List ℕ) → ((c : ℕ) → 0 < count c l → other c ≡ next c) → Chain e next w l → Chain e other w l
chain_like e next other w [] h k = k
chain_like e next other w (c ∷ l) h k = (
  k.0,
  k.1,
  subst (λ (u : ℕ). Chain e other u l) (sym (h c (count_first c l)))
      (chain_like e next other (next c) l (λ d p. h d (more d c l p)) k.2),
)
  where
    more : (d c : ℕ) (l : List ℕ) → 0 < count d l → 0 < count d (c ∷ l)
    more d c l p = omega arith

-- a write to a block that does not stand in the list changes nothing
pub chain_apart : (e : ℕ) (next : ℕ → ℕ) (b v w : ℕ) (l : List ℕ) → count b l ≡ 0 → Chain e next w l → Chain e (put next b v) w l
chain_apart e next b v w l none k = chain_like e next (put next b v) w l (λ c p. grind arith) k

pub chain_begin : (e : ℕ) (next : ℕ → ℕ) (w : ℕ) (l : List ℕ) → Chain e next w l → w ≡ first_or e l
chain_begin e next w [] k = k
chain_begin e next w (c ∷ l) k = k.1

-- the same list from the word that it begins with
pub chain_from : (e : ℕ) (next : ℕ → ℕ) (w : ℕ) (l : List ℕ) → Chain e next w l → Chain e next (first_or e l) l
chain_from e next w l k = subst (λ (u : ℕ). Chain e next u l) (chain_begin e next w l k) k

-- a word that does not end the list is of its first block
pub chain_cons : (e : ℕ) (next : ℕ → ℕ) (w : ℕ) (l : List ℕ) → (w ≡ e → ⊥) → Chain e next w l
    → (c : ℕ) × (rest : List ℕ) × (l ≡ c ∷ rest) × (0 < c) × (w ≡ link c) × Chain e next (next c) rest
chain_cons e next w [] other k = absurd (other k)
chain_cons e next w (c ∷ l) other k = (c, l, refl, k.0, k.1, k.2)

pub chain_nil : (e : ℕ) (next : ℕ → ℕ) (w : ℕ) (l : List ℕ) → e < 4 → w ≡ e → Chain e next w l → l ≡ []
chain_nil e next w [] small is k = refl
chain_nil e next w (c ∷ l) small is k = absurd (let p = k.0 in let q = k.1 in omega arith)

-- what stands behind a part of the list
pub chain_behind : (e : ℕ) (next : ℕ → ℕ) (w : ℕ) (l k : List ℕ) → Chain e next w (l ++ k) → Chain e next (first_or e k) k
chain_behind e next w [] k h = chain_from e next w k h
chain_behind e next w (c ∷ l) k h = chain_behind e next (next c) l k h.2

pub chain_append : (e u : ℕ) (next : ℕ → ℕ) (w : ℕ) (l k : List ℕ) → Chain u next w l → Chain e next u k → Chain e next w (l ++ k)
chain_append e u next w [] k h t = subst (λ (v : ℕ). Chain e next v k) (sym h) t
chain_append e u next w (c ∷ l) k h t = (h.0, h.1, chain_append e u next (next c) l k h.2 t)

-- another word behind the last block
pub chain_end : (e v : ℕ) (next : ℕ → ℕ) (w c : ℕ) (l : List ℕ) → Chain e next w (c ∷ l) → count (last_from c l) (c ∷ l) ≡ 1
    → Chain v (put next (last_from c l) v) w (c ∷ l)
chain_end e v next w c [] k once = (k.0, k.1, grind arith)
chain_end e v next w c (d ∷ l) k once =
    let p = count_last d l in
    let here : put next (last_from d l) v c ≡ next c = other next (last_from d l) v c (count (last_from d l) (d ∷ l)) p once in (
      k.0,
      k.1,
      subst (λ (u : ℕ). Chain v (put next (last_from d l) v) u (d ∷ l)) (sym here)
          (chain_end e v next (next c) d l k.2 (fewer (last_from d l) c (count (last_from d l) (d ∷ l)) p once)),
    )
  where
    other : (next : ℕ → ℕ) (b v c k : ℕ) → 0 < k → same b c + k ≡ 1 → put next b v c ≡ next c
    other next b v c k p h = grind arith

    fewer : (b c k : ℕ) → 0 < k → same b c + k ≡ 1 → k ≡ 1
    fewer b c k p h = omega arith

-- marks

pub marks_apart : (at : ℕ → ℕ) (b v : ℕ) (cs ts : List ℕ) → count b cs ≡ 0 → Marks at cs ts → Marks (put at b v) cs ts
marks_apart at b v cs [] none k = tt
marks_apart at b v [] (t ∷ ts) none k = k
marks_apart at b v (c ∷ cs) (t ∷ ts) none k = (other at b v c t cs none k.0, marks_apart at b v cs ts (fewer b c cs none) k.1)
  where
    other : (at : ℕ → ℕ) (b v c t : ℕ) (cs : List ℕ) → count b (c ∷ cs) ≡ 0 → at c ≡ t → put at b v c ≡ t
    other at b v c t cs h k = grind arith

    fewer : (b c : ℕ) (cs : List ℕ) → count b (c ∷ cs) ≡ 0 → count b cs ≡ 0
    fewer b c cs h = omega arith

-- blocks behind don't matter
pub marks-append : (at : ℕ → ℕ) (cs ds ts : List ℕ) → Marks at cs ts → Marks at (cs ++ ds) ts
marks-append at cs ds [] k = tt
marks-append at [] ds (t ∷ ts) k = absurd k
marks-append at (c ∷ cs) ds (t ∷ ts) k = (k.0, marks-append at cs ds ts k.1)

-- the next block is marked
pub marks_more : (at : ℕ → ℕ) (c t : ℕ) (us more ts : List ℕ) → length us ≡ length ts → count c us ≡ 0 → Marks at (us ++ c ∷ more) ts
    → Marks (put at c t) (us ++ c ∷ more) (ts ++ t ∷ [])
marks_more at c t [] more [] len none k = (grind arith, tt)
marks_more at c t [] more (s ∷ ts) len none k = absurd (omega arith)
marks_more at c t (u ∷ us) more [] len none k = absurd (omega arith)
marks_more at c t (u ∷ us) more (s ∷ ts) len none k =
    (other at c t u s us none k.0, marks_more at c t us more ts (omega arith) (fewer c u us none) k.1)
  where
    other : (at : ℕ → ℕ) (b v c t : ℕ) (cs : List ℕ) → count b (c ∷ cs) ≡ 0 → at c ≡ t → put at b v c ≡ t
    other at b v c t cs h k = grind arith

    fewer : (b c : ℕ) (cs : List ℕ) → count b (c ∷ cs) ≡ 0 → count b cs ≡ 0
    fewer b c cs h = omega arith
