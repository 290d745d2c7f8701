-- Where a settling row goes on after a piece of work.
use Rattle.std.specs.Prelude.{if◌then◌else◌, nat_lt, ◌==◌}
use Rattle.std.proofs.Common.{◌≡◌, ℕ, ◌≤◌, Bool, true, false, refl, arith, eqb-true, ltb-true, ltb-false}
use Rattle.std.proofs.lemmas.Bool.{eqb-false}
use Rattle.seize_moves.specs.Given.SeizeDeclared.states.TheConstants.{ACTIVE}
use Rattle.seize_moves.specs.Given.SeizeDeclared.rows.settle.Settle.{Settle}
use Rattle.seize_moves.specs.Given.SeizeDeclared.rows.settle.Settling.TheVariants as at
use Rattle.seize_moves.specs.Given.SeizeSettle.{onward, with_batch, standing}
use Rattle.seize_moves.proofs.Moves.State.Ghost.{State}
use Rattle.seize_moves.proofs.Memory.Words.View.{View}
use Rattle.seize_moves.proofs.Memory.Words.Shows.{Extra}
use Rattle.seize_rule.proofs.Points.Known.{AllFresh, MayHold, Rest, Retiring, Over, Fits, bare}

-- the batch that the row may hold, where nothing of it is changed
pub may_hold_on : (i : ℕ) (m : State) (x : Extra) (c : Settle) (t : Bool) (m2 : State) (x2 : Extra) (d : Settle) → d.slot ≡ c.slot → d.last ≡ c.last → m2.holder ≡ m.holder
    → m2.open_batch ≡ m.open_batch → m2.blocks ≡ m.blocks → m2.seen ≡ m.seen → m2.todo ≡ m.todo → x2.behind ≡ x.behind → MayHold t i m x (bare c) → MayHold t i m2 x2 (bare d)
may_hold_on i m x c false m2 x2 d a b e g h k l o q = tt
may_hold_on i m x c true m2 x2 d a b e g h k l o q = record {
  holder = rw (a, e) (q.holder);
  last = rw (a, b, g, h) (q.last);
  behind = rw (a, g, o) (q.behind);
  seen = rw (a, g, k) (q.seen);
  todo = rw (a, g, l) (q.todo);
}

-- a flush is begun, as the row holds the batch
rest_flushed : (n i : ℕ) (m : State) (x : Extra) (c : Settle) → Rest n i m x (bare c) → Rest n i m x (bare (record c { flushing = false }))
rest_flushed n i m x c r = record {
  common = r.common;
  popped = r.popped;
  closing = r.closing;
  put = r.put;
  put_last = r.put_last;
  batch = one c.held r.batch;
  tries = λ e. absurd (cc e);
}
  where
    one : (t : Bool) → MayHold t i m x (bare c) → MayHold t i m x (bare (record c { flushing = false }))
    one true h = h
    one false h = h

retiring_at : (n i : ℕ) (m : State) (x : Extra) (c : Settle) (t : Bool) → c.held ≡ t → c.reclaiming ≡ 0 → Rest n i m x (bare c) → Retiring n i m x (bare c) t
retiring_at n i m x c t h e r = record { rest = r; holds = h; none_left = e }

module _ (n i : ℕ) (g : View) (m : State) (x : Extra) (c : Settle) (r : Rest n i m x (bare c)) where
  over_at : (t : Bool) → c.held ≡ t → c.flushing ≡ false → c.reclaiming ≡ 0 → c.pending ≡ 0 → c.list ≤ 3 → Over n i m x (bare c) t
  over_at t h f e p l = record { rest = r; once = f; none_left = e; none_pending = p; none_listed = l; holds = h }

  flush_at : (b : Bool) → (c.last == 0) ≡ b → c.held ≡ true → c.flushing ≡ true → c.reclaiming ≡ 0
      → Fits n i g m x (if b then record c { flushing = false; stands = at.Gives } else record c { flushing = false; stands = at.Firsts 0 })
  flush_at true q h f e = let k = r.tries f in record {
    rest = rest_flushed n i m x c r;
    once = refl;
    none_left = e;
    none_pending = k.0;
    none_listed = omega (arith, k.1);
    holds = h;
  }
  flush_at false q h f e = record {
    retiring = record { rest = rest_flushed n i m x c r; holds = h; none_left = e };
    some = eqb-false c.last 0 q;
    once = refl;
    none_pending = (r.tries f).0;
  }

  batch_at : (h f : Bool) → c.held ≡ h → c.flushing ≡ f → c.reclaiming ≡ 0 → (c.pending ≡ 0 → c.flushing ≡ true)
      → Fits n i g m x (if h then (if f then (if c.last == 0 then record c { flushing = false; stands = at.Gives } else record c { flushing = false; stands = at.Firsts 0 }) else standing c at.Pops) else standing c at.Sees)
  batch_at true true hh ff e p = flush_at (c.last == 0) refl hh ff e
  batch_at true false hh ff e p = record { retiring = retiring_at n i m x c true hh e r; some = λ z. absurd (cc (p z, ff)) }
  batch_at false f hh ff e p = record { retiring = retiring_at n i m x c false hh e r }

  last_at : (h : Bool) → c.held ≡ h → c.flushing ≡ false → c.reclaiming ≡ 0 → c.pending ≡ 0 → c.list ≤ 3
      → Fits n i g m x (if h then standing c at.Gives else standing c at.Over)
  last_at true h f e p l = over_at true h f e p l
  last_at false h f e p l = over_at false h f e p l

  list_at : (l : Bool) → nat_lt ACTIVE c.list ≡ l → c.flushing ≡ false → c.reclaiming ≡ 0 → c.pending ≡ 0
      → Fits n i g m x (if l then standing c at.Lists else (if c.held then standing c at.Gives else standing c at.Over))
  list_at true q f e p = record { rest = r; once = f; none_left = e; none_pending = p; some = ltb-true 3 c.list q }
  list_at false q f e p = last_at c.held refl f e p (ltb-false 3 c.list q)

  tried_at : (f : Bool) → c.flushing ≡ f → c.reclaiming ≡ 0 → c.pending ≡ 0
      → Fits n i g m x (if f then with_batch c else (if nat_lt ACTIVE c.list then standing c at.Lists else (if c.held then standing c at.Gives else standing c at.Over)))
  tried_at true q e p = batch_at c.held c.flushing refl refl e (λ z. q)
  tried_at false q e p = list_at (nat_lt ACTIVE c.list) refl q e p

  pending_at : (p : Bool) → (c.pending == 0) ≡ p → c.reclaiming ≡ 0
      → Fits n i g m x (if p then (if c.flushing then with_batch c else (if nat_lt ACTIVE c.list then standing c at.Lists else (if c.held then standing c at.Gives else standing c at.Over))) else with_batch c)
  pending_at true q e = tried_at c.flushing refl e (eqb-true c.pending 0 q)
  pending_at false q e = batch_at c.held c.flushing refl refl e (λ z. absurd (eqb-false c.pending 0 q z))

  -- whatever it goes on with, it knows what it has to
  pub onward_fits : ((c.reclaiming ≡ 0 → ⊥) → AllFresh x.drained (m.left i)) → Fits n i g m x (onward c)
  onward_fits fresh = left_at (c.reclaiming == 0) refl
    where
      left_at : (t : Bool) → (c.reclaiming == 0) ≡ t → Fits n i g m x (if t then (if c.pending == 0 then (if c.flushing then with_batch c else (if nat_lt ACTIVE c.list then standing c at.Lists else (if c.held then standing c at.Gives else standing c at.Over))) else with_batch c) else standing c at.Nexts)
      left_at true q = pending_at (c.pending == 0) refl (eqb-true c.reclaiming 0 q)
      left_at false q = record { rest = r; some = eqb-false c.reclaiming 0 q; fresh = fresh (eqb-false c.reclaiming 0 q) }

-- its slot stays
pub onward_slot : (c : Settle) → (onward c).slot ≡ c.slot
onward_slot c = one (c.reclaiming == 0) (c.pending == 0) c.flushing (nat_lt ACTIVE c.list) c.held c.held c.flushing (c.last == 0) c.held c.flushing (c.last == 0)
  where
    one : (a b d l h h2 f2 z h3 f3 z3 : Bool)
        → (if a then (if b then (if d then (if h2 then (if f2 then (if z then record c { flushing = false; stands = at.Gives } else record c { flushing = false; stands = at.Firsts 0 }) else standing c at.Pops) else standing c at.Sees) else (if l then standing c at.Lists else (if h then standing c at.Gives else standing c at.Over))) else (if h3 then (if f3 then (if z3 then record c { flushing = false; stands = at.Gives } else record c { flushing = false; stands = at.Firsts 0 }) else standing c at.Pops) else standing c at.Sees)) else standing c at.Nexts).slot ≡ c.slot
    one a b d l h h2 f2 z h3 f3 z3 = grind arith
