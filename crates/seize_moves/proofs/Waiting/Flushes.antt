-- Flushes with no slot active: each one reclaims a batch, and fewer numbers are in the sets than before.
use Rattle.std.specs.Prelude.{◌==◌, ◌||◌, max}
use Rattle.std.proofs.Common.{◌≡◌, ℕ, zero, suc, ◌+◌, ◌<◌, ◌≤◌, Bool, true, false, cond, eqb, ltb, List, [], ◌∷◌, ◌++◌, length, refl, ap, arith, eqb-true, subst, sym, length-append}
use Rattle.std.proofs.lemmas.Bool.{eqb-false, le-ltb}
use Rattle.std.proofs.lemmas.List.{append-nil}
use Rattle.seize.specs.WaitingSets.{Batch, Sets, After, with_open, closing, giving, quietly, further_of_all, is_full, is_enough, in_closed, opened, size, retired_all, given, given_all, flushed, counted, left, all_left, emptied, with_active, with_closed, without, no_more, is_one_of}
use Rattle.seize_moves.specs.Waiting.Held.{count, Once}
use Rattle.seize_moves.specs.Waiting.Changes.{kept}
use Rattle.seize_moves.proofs.Waiting.Counts.{none_counted, not_among}
use Rattle.seize_moves.proofs.Waiting.Tidy.{without_counted, put_at}
use Rattle.seize_moves.proofs.Waiting.Bound.{one, weight_length, weight_put_length, given_weight, once_counted, once_appended, once_closed, once_given, set_opened, tried, before_rest}

-- what a slot's work leaves alone
pub record Frame (slot : ℕ) (w v : Sets) : Type 0 where
  pub active : v.active ≡ w.active
  pub slots : v.slots ≤ max w.slots (slot + 1)
  pub others : (s : ℕ) → (s ≡ slot → ⊥) → v.open_batch s ≡ w.open_batch s

other_slot : (slot : ℕ) (xs : List ℕ) (f : ℕ → List ℕ) (s : ℕ) → (s ≡ slot → ⊥) → cond (s == slot) xs (f s) ≡ f s
other_slot slot xs f s ne = at (s == slot) (eqb-true s slot)
  where
    at : (y : Bool) → (y ≡ true → s ≡ slot) → cond y xs (f s) ≡ f s
    at true e = absurd (ne (e refl))
    at false e = refl

frame_same : (slot : ℕ) (w : Sets) → Frame slot w w
frame_same slot w = record { active = refl; slots = omega arith; others = λ s ne. refl }

frame_open : (slot : ℕ) (xs : List ℕ) (w : Sets) → Frame slot w (with_open w slot xs)
frame_open slot xs w = record { active = refl; slots = omega arith; others = λ s ne. other_slot slot xs w.open_batch s ne }

frame_then : (slot : ℕ) (w v u : Sets) → Frame slot w v → Frame slot v u → Frame slot w u
frame_then slot w v u h k = record {
  active = (let a = h.active in let b = k.active in cc);
  slots = (let a = h.slots in let b = k.slots in omega (arith, a, b));
  others = λ s ne. let a = h.others s ne in let b = k.others s ne in cc;
}

frame_giving : (slot : ℕ) (numbers : List ℕ) (w : Sets) → Frame slot w (giving numbers w).sets
frame_giving slot numbers w = record { active = refl; slots = omega arith; others = λ s ne. refl }

frame_closing : (slot : ℕ) (w : Sets) → Frame slot w (closing slot w)
frame_closing slot w = record { active = refl; slots = omega arith; others = λ s ne. other_slot slot [] w.open_batch s ne }

frame_tried : (slot : ℕ) (w : Sets) (full enough none : Bool) (p q r : After) → Frame slot w p.sets → Frame slot w q.sets → Frame slot w r.sets → Frame slot w (tried full enough none p q r).sets
frame_tried slot w false enough none p q r a b c = a
frame_tried slot w true false none p q r a b c = a
frame_tried slot w true true true p q r a b c = b
frame_tried slot w true true false p q r a b c = c

-- how many numbers stand in the lists below k
abbrev pub len_below : ℕ → (ℕ → List ℕ) → ℕ
len_below zero f = 0
len_below (suc k) f = len_below k f + length (f k)

pub opened_len : (k : ℕ) (w : Sets) → length (opened k w) ≡ len_below k w.open_batch
opened_len zero w = refl
opened_len (suc k) w = let a = length-append (opened k w) (w.open_batch k) in let ih = opened_len k w in omega (arith, a, ih)

len_same : (k slot : ℕ) (xs : List ℕ) (f : ℕ → List ℕ) → k ≤ slot → len_below k (put_at slot xs f) ≡ len_below k f
len_same zero slot xs f l = refl
len_same (suc k) slot xs f l =
    let ih = len_same k slot xs f (omega (arith, l)) in
    let a = ap (λ (u : List ℕ). length u) (other_slot slot xs f k (λ e. absurd (omega (arith, l, e)))) in
    omega (arith, ih, a)

len_put : (k slot : ℕ) (xs : List ℕ) (f : ℕ → List ℕ) → slot < k → len_below k (put_at slot xs f) + length (f slot) ≡ len_below k f + length xs
len_put zero slot xs f l = absurd (omega (arith, l))
len_put (suc k) slot xs f l = at (k == slot) refl (len_put k slot xs f)
  where
    at : (y : Bool) → (k == slot) ≡ y → (slot < k → len_below k (put_at slot xs f) + length (f slot) ≡ len_below k f + length xs)
        → (len_below k (put_at slot xs f) + length (cond y xs (f k))) + length (f slot) ≡ (len_below k f + length (f k)) + length xs
    at true e ih =
        let a = eqb-true k slot e in
        let b = len_same k slot xs f (omega (arith, a)) in
        let c = ap (λ (u : ℕ). length (f u)) a in
        omega (arith, b, c)
    at false e ih =
        let a = eqb-false k slot e in let b = ih (omega (arith, l, a)) in omega (arith, b)

-- lists with nothing in them
pub len_past : (j k : ℕ) (f : ℕ → List ℕ) → j ≤ k → ((s : ℕ) → j ≤ s → f s ≡ []) → len_below k f ≡ len_below j f
len_past j zero f l h = let e : j ≡ 0 = omega (arith, l) in cc e
len_past j (suc k) f l h = at (eqb j (suc k)) refl (len_past j k f)
  where
    at : (y : Bool) → eqb j (suc k) ≡ y → (j ≤ k → ((s : ℕ) → j ≤ s → f s ≡ []) → len_below k f ≡ len_below j f) → len_below (suc k) f ≡ len_below j f
    at true e ih = let a = eqb-true j (suc k) e in cc a
    at false e ih =
        let a = eqb-false j (suc k) e in
        let m : j ≤ k = omega (arith, l, a) in
        let b = ih m h in
        let c = ap (λ (u : List ℕ). length u) (h k m) in
        omega (arith, b, c)

-- how many numbers the sets have, in the slots below k
abbrev pub much : ℕ → Sets → ℕ
much k w = len_below k w.open_batch + in_closed w.closed + length w.further

pub size_much : (k : ℕ) (w : Sets) → w.slots ≤ k → ((s : ℕ) → w.slots ≤ s → w.open_batch s ≡ []) → much k w ≡ size w
size_much k w l unused = let a = opened_len w.slots w in let b = len_past w.slots k w.open_batch l unused in omega (arith, a, b)

much_open : (k slot : ℕ) (xs : List ℕ) (w : Sets) → slot < k → much k (with_open w slot xs) + length (w.open_batch slot) ≡ much k w + length xs
much_open k slot xs w l = let a = len_put k slot xs w.open_batch l in omega (arith, a)

-- a batch of these numbers is given back, and what it put is still to be retired
much_given : (k slot : ℕ) (numbers xs : List ℕ) (w : Sets) → ((c : ℕ) → count c numbers ≤ 1)
    → much k (giving numbers w).sets + length (further_of_all numbers w.further ++ xs) ≡ much k w + length xs
much_given k slot numbers xs w h =
    let a = given_weight one numbers xs w.further h in
    let b = weight_length (further_of_all numbers w.further ++ xs) in
    let c = weight_length xs in
    let d = weight_put_length w.further in
    let e = weight_put_length (kept numbers w.further) in
    omega (arith, a, b, c, d, e)

module _ (batch_size : ℕ) where
  pub retired_all_frame : (bound slot : ℕ) (xs : List ℕ) (w : Sets) → Frame slot w (retired_all batch_size bound slot xs w).sets
  retired_all_frame bound slot [] w = frame_same slot w
  retired_all_frame zero slot (x ∷ xs) w = frame_open slot (w.open_batch slot ++ x ∷ xs) w
  retired_all_frame (suc bound) slot (x ∷ xs) w =
      let v = with_open w slot (w.open_batch slot ++ x ∷ []) in
      let numbers = v.open_batch slot in
      let u = with_open v slot [] in
      let ys = further_of_all numbers v.further ++ xs in
      let first = frame_open slot (w.open_batch slot ++ x ∷ []) w in
      let later = retired_all_frame (suc bound) slot xs v in
      let back = retired_all_frame bound slot ys (giving numbers u).sets in
      let closed = retired_all_frame (suc bound) slot xs (closing slot v) in
      frame_tried slot w (is_full batch_size slot v) (is_enough slot v) (length v.active == 0) _
      (before_rest (giving numbers u) (retired_all batch_size bound slot ys (giving numbers u).sets)) _
      (frame_then slot w v _ first later)
      (frame_then slot w v _ first (frame_then slot v u _ (frame_open slot [] v) (frame_then slot u (giving numbers u).sets _ (frame_giving slot numbers u) back)))
      (frame_then slot w v _ first (frame_then slot v (closing slot v) _ (frame_closing slot v) closed))

  given_frame : (slot : ℕ) (numbers : List ℕ) (w : Sets) → Frame slot w (given batch_size slot numbers w).sets
  given_frame slot numbers w =
      frame_then slot w (giving numbers w).sets _ (frame_giving slot numbers w)
      (retired_all_frame (size w) slot (further_of_all numbers w.further) (giving numbers w).sets)

  pub flushed_frame : (slot : ℕ) (w : Sets) → Frame slot w (flushed batch_size slot w).sets
  flushed_frame slot w = at (length (w.open_batch slot) == 0)
    where
      at : (y : Bool) → Frame slot w
          (cond y (quietly w) (tried true (is_enough slot w) (length w.active == 0) (quietly w) (given batch_size slot (w.open_batch slot) (with_open w slot [])) (quietly (closing slot w)))).sets
      at true = frame_same slot w
      at false = frame_tried slot w true (is_enough slot w) (length w.active == 0) _ (given batch_size slot (w.open_batch slot) (with_open w slot [])) _ (frame_same slot w)
          (frame_then slot w (with_open w slot []) _ (frame_open slot [] w) (given_frame slot (w.open_batch slot) (with_open w slot [])))
          (frame_closing slot w)

  -- how much there is after

  -- the rest falls by its own measure
  abbrev Falls : ℕ → ℕ → Sets → Sets → Type 0
  Falls k more w v = much k v ≤ much k w + more

  falls_tried : (k more : ℕ) (w : Sets) (full enough none : Bool) (p q r : After) → Falls k more w p.sets → Falls k more w q.sets → Falls k more w r.sets → Falls k more w (tried full enough none p q r).sets
  falls_tried k more w false enough none p q r a b c = a
  falls_tried k more w true false none p q r a b c = a
  falls_tried k more w true true true p q r a b c = b
  falls_tried k more w true true false p q r a b c = c

  falls_then : (k more rest : ℕ) (w v u : Sets) → much k v + rest ≤ much k w + more → Falls k rest v u → Falls k more w u
  falls_then k more rest w v u h f = omega (arith, h, f)

  much_closing : (k slot : ℕ) (w : Sets) → slot < k → much k (closing slot w) ≡ much k w
  much_closing k slot w l = let a = len_put k slot [] w.open_batch l in omega (arith, a)

  retired_all_falls : (bound slot k : ℕ) (xs : List ℕ) (w : Sets) → slot < k → Once (w.open_batch slot) xs w.further
      → Falls k (length xs) w (retired_all batch_size bound slot xs w).sets
  retired_all_falls bound slot k [] w l h = omega arith
  retired_all_falls zero slot k (x ∷ xs) w l h =
      let a = much_open k slot (w.open_batch slot ++ x ∷ xs) w l in
      let b = length-append (w.open_batch slot) (x ∷ xs) in
      omega (arith, a, b)
  retired_all_falls (suc bound) slot k (x ∷ xs) w l h =
      let opened_now = w.open_batch slot ++ x ∷ [] in
      let v = with_open w slot opened_now in
      let numbers = v.open_batch slot in
      let u = with_open v slot [] in
      let g = (giving numbers u).sets in
      let ys = further_of_all numbers v.further ++ xs in
      let e = set_opened w slot opened_now in
      let none = set_opened v slot [] in
      let once = once_appended (w.open_batch slot) xs x w.further h in
      let once_v = subst (λ (o : List ℕ). Once o xs w.further) (sym e) once in
      let once_g = subst (λ (o : List ℕ). Once o ys g.further) (sym none) (once_given numbers xs w.further once_v) in
      let once_c = subst (λ (o : List ℕ). Once o xs w.further) (sym none) (once_closed opened_now xs w.further once) in
      let later = retired_all_falls (suc bound) slot k xs v l once_v in
      let back = retired_all_falls bound slot k ys g l once_g in
      let closed = retired_all_falls (suc bound) slot k xs (closing slot v) l once_c in
      let a = much_open k slot opened_now w l in
      let b = length-append (w.open_batch slot) (x ∷ []) in
      let c = much_open k slot [] v l in
      let d = much_given k slot numbers xs u (once_counted numbers xs w.further once_v) in
      let q = much_closing k slot v l in
      falls_tried k (suc (length xs)) w (is_full batch_size slot v) (is_enough slot v) (length v.active == 0) _
      (before_rest (giving numbers u) (retired_all batch_size bound slot ys g)) _
      (falls_then k (suc (length xs)) (length xs) w v (retired_all batch_size (suc bound) slot xs v).sets (more _ _ _ _ _ a b) later)
      (falls_then k (suc (length xs)) (length ys) w g (retired_all batch_size bound slot ys g).sets (gone _ _ _ _ _ _ _ _ _ a b c d) back)
      (falls_then k (suc (length xs)) (length xs) w (closing slot v) (retired_all batch_size (suc bound) slot xs (closing slot v)).sets (shut _ _ _ _ _ _ a b q) closed)
    where
      more : (mv mw o p xs : ℕ) → mv + o ≡ mw + p → p ≡ o + 1 → mv + xs ≤ mw + suc xs
      more mv mw o p xs a b = omega (arith, a, b)

      gone : (mv mw o p mu num mg ys xs : ℕ) → mv + o ≡ mw + p → p ≡ o + 1 → mu + num ≡ mv + 0 → mg + ys ≡ mu + xs → mg + ys ≤ mw + suc xs
      gone mv mw o p mu num mg ys xs a b c d = omega (arith, a, b, c, d)

      shut : (mv mw o p mc xs : ℕ) → mv + o ≡ mw + p → p ≡ o + 1 → mc ≡ mv → mc + xs ≤ mw + suc xs
      shut mv mw o p mc xs a b q = omega (arith, a, b, q)

  -- the numbers of the batch are there no more
  given_falls : (slot k : ℕ) (w : Sets) → slot < k → Once (w.open_batch slot) [] w.further
      → much k (given batch_size slot (w.open_batch slot) (with_open w slot [])).sets + length (w.open_batch slot) ≤ much k w
  given_falls slot k w l h =
      let numbers = w.open_batch slot in
      let u = with_open w slot [] in
      let g = (giving numbers u).sets in
      let puts = further_of_all numbers w.further in
      let none = set_opened w slot [] in
      let once = subst (λ (o : List ℕ). Once o puts g.further) (sym none) (subst (λ (p : List ℕ). Once [] p g.further) (append-nil puts) (once_given numbers [] w.further h)) in
      let a = much_open k slot [] w l in
      let b = much_given k slot numbers [] u (once_counted numbers [] w.further h) in
      let c = ap (λ (p : List ℕ). length p) (append-nil puts) in
      let d = retired_all_falls (size u) slot k puts g l once in
      sums _ _ _ _ _ _ _ a b c d
    where
      sums : (mu o mw mg pn p me : ℕ) → mu + o ≡ mw + 0 → mg + pn ≡ mu + 0 → pn ≡ p → me ≤ mg + p → me + o ≤ mw
      sums mu o mw mg pn p me a b c d = omega (arith, a, b, c, d)

  -- a flush with no slot active
  pub flushed_falls : (slot k : ℕ) (w : Sets) → slot < k → w.active ≡ [] → Once (w.open_batch slot) [] w.further
      → much k (flushed batch_size slot w).sets + length (w.open_batch slot) ≤ much k w
  flushed_falls slot k w l e h =
      at (length (w.open_batch slot) == 0) (is_enough slot w) (length w.active == 0) (eqb-true (length (w.open_batch slot)) 0)
      (enough (le-ltb (length (w.open_batch slot)) (length w.active) (omega (arith, z)))) (ap (λ (k : ℕ). k == 0) z)
    where
      z : length w.active ≡ 0
      z = ap (λ (a : List ℕ). length a) e

      enough : ltb (length (w.open_batch slot)) (length w.active) ≡ false → is_enough slot w ≡ true
      enough a = cc a

      at : (y enough none : Bool) → (y ≡ true → length (w.open_batch slot) ≡ 0) → enough ≡ true → none ≡ true
          → much k (cond y (quietly w) (tried true enough none (quietly w) (given batch_size slot (w.open_batch slot) (with_open w slot [])) (quietly (closing slot w)))).sets
          + length (w.open_batch slot) ≤ much k w
      at true a b q f g = let r = q refl in omega (arith, r)
      at false true true q f g = given_falls slot k w l h
      at false false b q f g = absurd (cc f)
      at false true false q f g = absurd (cc g)

  -- all slots below k flush

  pub emptied_active : (k : ℕ) (w : Sets) → (emptied batch_size k w).sets.active ≡ w.active
  emptied_active zero w = refl
  emptied_active (suc k) w = let a = (flushed_frame k (emptied batch_size k w).sets).active in let b = emptied_active k w in cc

  pub emptied_slots : (k j : ℕ) (w : Sets) → w.slots ≤ j → k ≤ j → (emptied batch_size k w).sets.slots ≤ j
  emptied_slots zero j w l m = l
  emptied_slots (suc k) j w l m =
      let a = (flushed_frame k (emptied batch_size k w).sets).slots in let b = emptied_slots k j w l (omega (arith, m)) in omega (arith, a, b, m)

  pub emptied_others : (k : ℕ) (w : Sets) (s : ℕ) → k ≤ s → (emptied batch_size k w).sets.open_batch s ≡ w.open_batch s
  emptied_others zero w s l = refl
  emptied_others (suc k) w s l =
      let a = (flushed_frame k (emptied batch_size k w).sets).others s (λ e. absurd (omega (arith, e, l))) in
      let b = emptied_others k w s (omega (arith, l)) in
      cc

  -- slots leave

  given_all_frame : (slot : ℕ) (batches : List Batch) (w : Sets) → Frame slot w (given_all batch_size slot batches w).sets
  given_all_frame slot [] w = frame_same slot w
  given_all_frame slot (b ∷ batches) w =
      let v = (given batch_size slot b.retired w).sets in
      frame_then slot w v (given_all batch_size slot batches v).sets (given_frame slot b.retired w) (given_all_frame slot batches v)

  pub counted_frame : (slot : ℕ) (w : Sets) → Frame slot w (counted batch_size slot w).sets
  counted_frame slot w =
      let a = given_all_frame slot (no_more slot w.closed) (with_closed w []) in
      record { active = a.active; slots = a.slots; others = a.others }

  left_active : (slot : ℕ) (w : Sets) → (left batch_size slot w).sets.active ≡ without slot w.active
  left_active slot w = (counted_frame slot (with_active w (without slot w.active))).active

  pub left_others : (slot : ℕ) (w : Sets) (s : ℕ) → (s ≡ slot → ⊥) → (left batch_size slot w).sets.open_batch s ≡ w.open_batch s
  left_others slot w s ne = (counted_frame slot (with_active w (without slot w.active))).others s ne

  -- those that left are active no more
  all_left_counted : (t : ℕ) (slots : List ℕ) (w : Sets) → count t (all_left batch_size slots w).sets.active ≤ cond (is_one_of t slots) 0 (count t w.active)
  all_left_counted t [] w = omega arith
  all_left_counted t (slot ∷ slots) w = at (eqb t slot) (is_one_of t slots) (without_counted slot t w.active) (ap (count t) (left_active slot w)) (all_left_counted t slots (left batch_size slot w).sets)
    where
      at : (y z : Bool) → count t (without slot w.active) ≡ cond y 0 (count t w.active) → count t (left batch_size slot w).sets.active ≡ count t (without slot w.active)
          → count t (all_left batch_size slots (left batch_size slot w).sets).sets.active ≤ cond z 0 (count t (left batch_size slot w).sets.active)
          → count t (all_left batch_size slots (left batch_size slot w).sets).sets.active ≤ cond (y || z) 0 (count t w.active)
      at true true e f h = h
      at true false e f h = omega (arith, e, f, h)
      at false true e f h = h
      at false false e f h = omega (arith, e, f, h)

  pub all_left_active : (w : Sets) → (all_left batch_size w.active w).sets.active ≡ []
  all_left_active w = none_counted (all_left batch_size w.active w).sets.active (λ t. at t (is_one_of t w.active) refl (all_left_counted t w.active w))
    where
      at : (t : ℕ) (y : Bool) → is_one_of t w.active ≡ y → count t (all_left batch_size w.active w).sets.active ≤ cond y 0 (count t w.active)
          → count t (all_left batch_size w.active w).sets.active ≡ 0
      at t true e h = omega (arith, h)
      at t false e h = let a = not_among t w.active e in omega (arith, h, a)

  pub all_left_others : (slots : List ℕ) (w : Sets) (s : ℕ) → count s slots ≡ 0 → (all_left batch_size slots w).sets.open_batch s ≡ w.open_batch s
  all_left_others [] w s h = refl
  all_left_others (slot ∷ slots) w s h =
      let a = left_others slot w s (λ e. absurd (one_there e)) in
      let b = all_left_others slots (left batch_size slot w).sets s (omega (arith, h)) in
      cc
    where
      one_there : s ≡ slot → ⊥
      one_there e = grind (arith, h, e)
