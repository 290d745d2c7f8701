-- What a slot retires within a section, and what is put behind others: nothing is reclaimed, and the sets hold just this more.
use Rattle.std.specs.Prelude.{◌==◌}
use Rattle.std.proofs.Common.{◌≡◌, ℕ, ◌+◌, ◌≤◌, Bool, true, false, List, [], ◌∷◌, ◌++◌, length, refl, sym, subst, arith, ◌∙◌}
use Rattle.seize.specs.WaitingSets.{Further, Sets, Change, Enters, Leaves, Refreshes, Retires, Flushes, Defers, Ends, ReclaimsAll, After, then_also, with_open, is_full, is_enough, changed, all_changed}
use Rattle.seize_moves.specs.Waiting.Held.{count, Tidy, all_held, bare}
use Rattle.seize_moves.specs.Waiting.Handed.{put_by, further_by, WaitsNow}
use Rattle.seize_moves.specs.Waiting.Laws.{DeferredIsHeld, HandedWaits}
use Rattle.seize_moves.proofs.Waiting.Bound.{tried}
use Rattle.seize_moves.proofs.Waiting.Counts.{count-append}
use Rattle.seize_moves.proofs.Waiting.Tidy.{opened_alike, open_tidy, closing_tidy}
use Rattle.seize_moves.proofs.Waiting.Held.{open_all_held, closing_all_held, some_active}
use Rattle.seize_moves.proofs.Waiting.Quiet.{one_active}

-- The sets have these numbers more, and nothing was reclaimed; what waits behind others is this.
record Puts (w : Sets) (numbers : List ℕ) (further : List Further) (a : After) : Type 0 where
  pub quiet : a.reclaimed ≡ []
  pub tidy : Tidy (bare a.sets)
  pub active_now : a.sets.active ≡ w.active
  pub held_now : (n : ℕ) → all_held n a.sets ≡ all_held n w + count n numbers
  pub behind : a.sets.further ≡ further

tried_puts : (w : Sets) (numbers : List ℕ) (further : List Further) (full enough none : Bool) (p q r : After) → none ≡ false
    → Puts w numbers further p → Puts w numbers further r → Puts w numbers further (tried full enough none p q r)
tried_puts w numbers further false enough none p q r e h k = h
tried_puts w numbers further true false none p q r e h k = h
tried_puts w numbers further true true true p q r e h k = absurd (cc e)
tried_puts w numbers further true true false p q r e h k = k

-- a number is retired
retires_puts : (batch_size slot n : ℕ) (w : Sets) → Tidy (bare w) → 1 ≤ count slot w.active → Puts w (n ∷ []) w.further (changed batch_size (Retires slot n) w)
retires_puts batch_size slot n w t l =
    tried_puts w (n ∷ []) w.further (is_full batch_size slot v) (is_enough slot v) (length v.active == 0) _ _ _ idle
    (record { quiet = refl; tidy = tv; active_now = refl; held_now = more; behind = refl })
    (record {
      quiet = refl;
      tidy = closing_tidy slot (bare v) (some_active v.active idle) tv;
      active_now = refl;
      held_now = λ k. let a = closing_all_held k slot v tv in let b = more k in omega (arith, a, b);
      behind = refl;
    })
  where
    v : Sets
    v = with_open w slot (w.open_batch slot ++ n ∷ [])

    idle : (length w.active == 0) ≡ false
    idle = one_active slot w.active l

    tv : Tidy (bare v)
    tv = open_tidy slot (w.open_batch slot ++ n ∷ []) (bare w) t

    more : (k : ℕ) → all_held k v ≡ all_held k w + count k (n ∷ [])
    more k =
        let a = open_all_held k slot (w.open_batch slot ++ n ∷ []) w t in
        let b = count-append k (w.open_batch slot) (n ∷ []) in
        omega (arith, a, b)

-- a number is put behind another one
pub deferred_held : (batch_size : ℕ) → DeferredIsHeld batch_size
deferred_held batch_size n behind m w =
    let a = opened_alike m w.slots (record w { further = record { number = n; behind = behind } ∷ w.further }) w refl in omega (arith, a)

defers_puts : (batch_size n behind : ℕ) (w : Sets) → Tidy (bare w)
    → Puts w (n ∷ []) (record { number = n; behind = behind } ∷ w.further) (changed batch_size (Defers n behind) w)
defers_puts batch_size n behind w t = record {
  quiet = refl;
  tidy = record { none_further = refl; unused = t.unused; waiting = t.waiting; ascends = t.ascends };
  active_now = refl;
  held_now = λ k. let a = deferred_held batch_size n behind k w in omega (arith, a);
  behind = refl;
}

-- and then the rest
then_waits : (w : Sets) (numbers : List ℕ) (further : List Further) (changes : List Change) (a : After) (f : Sets → After) → Puts w numbers further a
    → WaitsNow changes a.sets (f a.sets) → Puts w (numbers ++ put_by changes) (further_by changes further) (then_also a f)
then_waits w numbers further changes a f h k = record {
  quiet = (let x = h.quiet in let y = k.quiet in both a.reclaimed (f a.sets).reclaimed x y);
  tidy = k.tidy;
  active_now = k.active_now ∙ h.active_now;
  held_now = λ n. let x = h.held_now n in let y = k.held_now n in let z = count-append n numbers (put_by changes) in omega (arith, x, y, z);
  behind = subst (λ (l : List Further). (f a.sets).sets.further ≡ further_by changes l) h.behind k.behind;
}
  where
    both : (xs ys : List ℕ) → xs ≡ [] → ys ≡ [] → xs ++ ys ≡ []
    both xs ys e d = cc (e, d)

waits_so : (changes : List Change) (w : Sets) (a : After) → Puts w (put_by changes) (further_by changes w.further) a → WaitsNow changes w a
waits_so changes w a h = record { quiet = h.quiet; tidy = h.tidy; active_now = h.active_now; held_now = h.held_now; behind = h.behind }

-- The promise: all that an active slot hands over is in the sets then.
pub handed_waits : (batch_size : ℕ) → HandedWaits batch_size
handed_waits batch_size slot [] w by t l = record { quiet = refl; tidy = t; active_now = refl; held_now = λ n. omega arith; behind = refl }
handed_waits batch_size slot (Retires s n ∷ changes) w by t l =
    let first = retires_puts batch_size s n w t (subst (λ (x : ℕ). 1 ≤ count x w.active) (sym by.0) l) in
    let a = changed batch_size (Retires s n) w in
    waits_so (Retires s n ∷ changes) w (all_changed batch_size (Retires s n ∷ changes) w)
    (then_waits w (n ∷ []) w.further changes a (all_changed batch_size changes) first
    (handed_waits batch_size slot changes a.sets by.1 first.tidy (subst (λ (x : List ℕ). 1 ≤ count slot x) (sym first.active_now) l)))
handed_waits batch_size slot (Defers n behind ∷ changes) w by t l =
    let first = defers_puts batch_size n behind w t in
    let a = changed batch_size (Defers n behind) w in
    waits_so (Defers n behind ∷ changes) w (all_changed batch_size (Defers n behind ∷ changes) w)
    (then_waits w (n ∷ []) (record { number = n; behind = behind } ∷ w.further) changes a (all_changed batch_size changes) first
    (handed_waits batch_size slot changes a.sets by.1 first.tidy l))
handed_waits batch_size slot (Enters s ∷ changes) w by t l = absurd by.0
handed_waits batch_size slot (Leaves s ∷ changes) w by t l = absurd by.0
handed_waits batch_size slot (Refreshes s ∷ changes) w by t l = absurd by.0
handed_waits batch_size slot (Flushes s ∷ changes) w by t l = absurd by.0
handed_waits batch_size slot (Ends n ∷ changes) w by t l = absurd by.0
handed_waits batch_size slot (ReclaimsAll ∷ changes) w by t l = absurd by.0
