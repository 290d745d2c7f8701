-- Numbers end in the waiting sets: what is behind them leaves the sets, each once, and nothing is behind them any more.
use Rattle.std.specs.Prelude.{not, filter, map, ◌==◌}
use Rattle.std.proofs.Common.{◌≡◌, ℕ, List, [], ◌∷◌, refl, sym, ap, ◌∙◌, arith}
use Rattle.seize.specs.WaitingSets.{Further, Sets, Ends, quietly, further_of_all, all_changed}
use Rattle.seize_moves.specs.Waiting.Held.{same}
use Rattle.seize_moves.specs.Waiting.Changes.{kept, with_further}
use Rattle.seize_moves.specs.Waiting.Laws.{EndsLeave}
use Rattle.seize_moves.proofs.Waiting.Behind.{kept_nil, kept_more}
use Rattle.seize_moves.proofs.Waiting.Bound.{put_once, weight_count}
use Rattle.seize_moves.proofs.Waiting.Tidy.{opened_alike}

-- nothing is reclaimed, and what was behind them is there no more
ends_kept : (batch_size : ℕ) (numbers : List ℕ) (w : Sets) → all_changed batch_size (map (λ t. Ends t) numbers) w ≡ quietly (with_further w (kept numbers w.further))
ends_kept batch_size [] w = ap (λ (l : List Further). quietly (with_further w l)) (sym (kept_nil w.further))
ends_kept batch_size (n ∷ numbers) w =
    let v = with_further w (filter (λ f. not (f.behind == n)) w.further) in
    ends_kept batch_size numbers v ∙ ap (λ (l : List Further). quietly (with_further w l)) (kept_more n numbers w.further)

-- nothing else is touched, and each number that was behind others is so still, or left over
pub ends_leave : (batch_size : ℕ) → EndsLeave batch_size
ends_leave batch_size numbers w = (
  ends_kept batch_size numbers w,
  (λ n. let c = opened_alike n w.slots (with_further w (kept numbers w.further)) w refl in omega (arith, c)),
  λ once n.
      let a = put_once (same n) numbers w.further once in
      let b = weight_count n (further_of_all numbers w.further) in
      omega (arith, a, b),
)
