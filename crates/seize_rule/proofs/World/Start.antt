-- The world at its start, and the words that rows may rely on.
use Rattle.std.specs.Prelude.{Option, None, is_some, replicate}
use Rattle.std.proofs.Common.{◌≡◌, ℕ, ◌+◌, ◌<◌, true, false, [], length, refl, arith, ap, sym, subst, ◌∙◌}
use Rattle.seize_moves.specs.Given.SeizeWordsMem.{Mem, Can, Took, value_at, value_in}
use Rattle.seize_moves.specs.Given.SeizeWordsPlan.{May}
use Rattle.seize_moves.specs.Given.SeizeDeclared.rows.settle.Settle.{Settle}
use Rattle.seize_moves.specs.Given.SeizeSettle.{settle_plan}
use Rattle.seize_moves.specs.Given.SeizeWorld.{World, Row, Settles, at_start}
use Rattle.seize_moves.proofs.Moves.State.Ghost.{start, is_never}
use Rattle.seize_moves.proofs.Moves.State.Together.{rule_start, pending_start}
use Rattle.seize_moves.proofs.Memory.Words.View.{view, list_in}
use Rattle.seize_moves.proofs.Memory.Words.ShowsStart
use Rattle.seize_moves.proofs.Memory.Words.ShowsStart.{no_block, shows_only_roots}
use Rattle.seize_rule.proofs.Points.Stepped.{HasWords}
use Rattle.seize_rule.proofs.Rows.Known.{FitsRow}
use Rattle.seize_rule.proofs.World.Good.{Good}
use Rattle.seize_rule.proofs.Points.May.{may_at}

module _ {T : Type 0} (defers : T → Option ℕ) (n : ℕ) where
  none_live : (m : Mem T) (b : ℕ) → value_at m b ≡ None → is_some (value_at m b) ≡ true → ⊥
  none_live m b e h = cc (ap is_some e, h)

  pub start_good : (size roots : ℕ) → Good defers n size (at_start defers roots)
  start_good size roots =
      let zeros = replicate roots 0 in
      let mem : Mem T = (at_start defers roots).memory in
      let none : (b : ℕ) → value_at mem b ≡ None = (λ b. ap value_in (no_block defers zeros zeros [] b)) in
      record {
        state = start n;
        extra = ShowsStart.at_start;
        inv = rule_start n;
        shows = shows_only_roots defers zeros zeros [] n;
        pending = pending_start n;
        logged = refl;
        rows = λ i. record {
          empty = record { loose = refl; left = refl; pending = refl; puts = refl; closing = refl; hand = refl; pends = refl; lefts = refl; put_first = refl; popped = refl };
          outside = record { section = refl; defers = refl };
        };
        hands = λ b. refl;
        used = record { team = λ s. []; teamed = λ s i. grind arith; fits = λ s. refl; kinds = λ i s e. absurd (omega arith) };
        room = record { bucketed = record { there = λ s i l h. absurd (omega arith); number = 0; whole = refl }; enough = λ s t e l h. absurd (cc e) };
        stocked = record {
          entries = λ b i h l. absurd (none_live mem b (none b) h);
          lists = λ b d h. absurd (cc (sym (ap (list_in defers) (none b)) ∙ h));
          few = λ b h. absurd (none_live mem b (none b) h);
        };
        short = λ t l none. record { below = λ limit word pos big taken. pos; untaken = λ e. refl };
      }

  pub start_state : (size roots : ℕ) → (start_good size roots).state ≡ start n
  unfolding start_good
  start_state size roots = refl

module _ {T : Type 0} {size : ℕ} (defers : T → Option ℕ) (n : ℕ) (w : World T) (good : Good defers n size w) where
  -- a slot ever taken is one of the n
  taken_below : (t : ℕ) → is_never (good.state.head t) ≡ false → t < n
  taken_below t h = grind (arith, good.inv.slots.outside t)

  pub words_good : HasWords defers n w.memory good.state.head
  words_good = record {
    entries = λ b k l live. good.stocked.entries b k live l;
    lists = good.stocked.lists;
    slots = λ t k l h. good.room.bucketed.there t k (good.room.enough t t h (omega arith) (taken_below t h)) l;
    behind = λ t k l h lt. good.room.bucketed.there (t + 1) k (good.room.enough t (t + 1) h (omega arith) lt) l;
    few = good.stocked.few;
  }

  pub settles_may : (i : ℕ) (c : Settle) → w.row i ≡ Settles c → May Can Took value_at w.memory (settle_plan defers c)
  settles_may i c e =
      may_at defers n i w.memory good.state good.extra c good.inv good.shows words_good c.stands
      (subst (λ (r : Row). FitsRow n i (view defers w.memory) good.state good.extra (length w.memory.slots) r) e (good.rows i))
