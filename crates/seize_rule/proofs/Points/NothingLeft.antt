-- A row whose words say that it has nothing left to reclaim, or to retire, has nothing left.
use Rattle.std.proofs.Common.{◌≡◌, ℕ, false, [], arith, ◌∙◌}
use Rattle.seize_moves.proofs.Moves.State.Ghost.{State}
use Rattle.seize_moves.proofs.Memory.Words.Chains.{chain_nil}
use Rattle.seize_moves.proofs.Memory.Words.View.{View}
use Rattle.seize_moves.proofs.Memory.Words.Shows.{Extra, Shows}
use Rattle.seize_rule.proofs.Points.Known.{CommonOf}
use Rattle.seize_rule.proofs.Points.Told.{NoneLeft}

module _ (n i : ℕ) (f : View) (m : State) (x : Extra) (v : Shows n f m x) where
  pub none_left : x.lefts i ≡ 0 → x.put_first i ≡ 0 → NoneLeft i m
  none_left l p = record {
    left = chain_nil 0 f.nexts (x.lefts i) (m.left i) (omega arith) l (v.lists.lefted i);
    puts = chain_nil 0 f.nexts (x.put_first i) (m.puts i) (omega arith) p (v.lists.putted i);
  }

  -- as the row's common words say it
  pub nothing_left : (slot list pend back puts : ℕ) → CommonOf n i m x slot list pend back puts → back ≡ 0 → puts ≡ 0 → NoneLeft i m
  nothing_left slot list pend back puts r l p = none_left (r.lefts ∙ l) (r.put_first ∙ p)

  pub none_pending : (slot list pend back puts : ℕ) → CommonOf n i m x slot list pend back puts → x.popped i ≡ false → pend ≡ 0 → m.pending i ≡ []
  none_pending slot list pend back puts r q e = chain_nil 0 f.nexts (x.pends i) (m.pending i) (omega arith) (r.pends ∙ e) (rw q at (v.lists.pended i))
