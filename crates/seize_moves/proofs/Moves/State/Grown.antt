-- The list of a slot that a batch has marked, and that has not left since, only grows.
use Rattle.std.proofs.Common.{◌≡◌, ℕ, Bool, true, false, cond, eqb, List, [], ◌∷◌, ◌++◌, append_assoc, refl, ap, sym, ◌∙◌, eqb-true}
use Rattle.seize_moves.proofs.Moves.State.Ghost.{put, Entry, Head, Active, Debt, Unscanned, Marked, Gone, Skipped, Owing, Loose, Counted, Stage, Closing, list_of}
use Rattle.seize_moves.proofs.Moves.State.Rule.{Grows}
use Rattle.seize_moves.proofs.Moves.State.Moves.{loosened, loosened_at}

-- one list after another
pub grows_then : (a b c : List Entry) → Grows a b → Grows b c → Grows a c
grows_then a b c f g = (g.0 ++ f.0, g.1 ∙ ap (λ (l : List Entry). g.0 ++ l) f.1 ∙ sym (append_assoc g.0 f.0 a))

-- a slot without a list gets none
pub none_grown : (head : ℕ → Head) (h : Head) (s t : ℕ) → list_of (head s) ≡ [] → list_of h ≡ [] → Grows (list_of (head t)) (list_of (put head s h t))
none_grown head h s t before after = one (eqb t s) (eqb-true t s)
  where
    one : (q : Bool) → (q ≡ true → t ≡ s) → Grows (list_of (head t)) (list_of (cond q h (head t)))
    one true same_slot = ([], after ∙ sym before ∙ sym (ap (λ (a : ℕ). list_of (head a)) (same_slot refl)))
    one false same_slot = ([], refl)

-- an entry is put before the others
pub one_grown : (head : ℕ → Head) (e : Entry) (es : List Entry) (s t : ℕ) → head s ≡ Active es → Grows (list_of (head t)) (list_of (put head s (Active (e ∷ es)) t))
one_grown head e es s t h = one (eqb t s) (eqb-true t s)
  where
    one : (q : Bool) → (q ≡ true → t ≡ s) → Grows (list_of (head t)) (list_of (cond q (Active (e ∷ es)) (head t)))
    one true same_slot = (e ∷ [], ap (λ (l : List Entry). e ∷ l) (sym (ap list_of (ap head (same_slot refl) ∙ h))))
    one false same_slot = ([], refl)

-- a slot that is still marked is none that has left
pub left_grown : (head : ℕ → Head) (debt : ℕ → Debt) (h : Head) (i s t : ℕ) → loosened_at i s debt t ≡ Marked → (debt t ≡ Marked) × Grows (list_of (head t)) (list_of (put head s h t))
left_grown head debt h i s t = one (eqb t s)
  where
    never : (d : Debt) → loosened i d ≡ Marked → ⊥
    never Unscanned e = cc e
    never Marked e = cc e
    never Gone e = cc e
    never Skipped e = cc e
    never Owing e = cc e
    never (Loose j) e = cc e
    never Counted e = cc e

    one : (q : Bool) → cond q (loosened i (debt t)) (debt t) ≡ Marked → (debt t ≡ Marked) × Grows (list_of (head t)) (list_of (cond q h (head t)))
    one true e = absurd (never (debt t) e)
    one false e = (e, ([], refl))

-- what another row does to its own batch changes nothing of a batch that is being closed
pub other_marked : (stage : ℕ → Stage) (debt : ℕ → ℕ → Debt) (d : ℕ → Debt) (j x y t : ℕ) → stage x ≡ Closing j → (stage y ≡ Closing j → ⊥) → put debt y d x t ≡ Marked → debt x t ≡ Marked
other_marked stage debt d j x y t closing other = one (eqb x y) (eqb-true x y)
  where
    one : (q : Bool) → (q ≡ true → x ≡ y) → cond q d (debt x) t ≡ Marked → debt x t ≡ Marked
    one true same_batch e = absurd (other (sym (ap stage (same_batch refl)) ∙ closing))
    one false same_batch e = e
