use Rattle.std.proofs.Common.{ℕ, List, sym, ◌∙◌, subst, take}
use denote.Param.{param}
use denote.RawPtr.{Ptr}
use Rattle.seize_seats.specs.Seats.Doors.{IsFurther, AreBehind}
use Rattle.seize_seats.specs.Plots.Pieces.{AreBucketsBehind}
use Rattle.seize_seats.specs.contracts.kept.Kept.{the_row as KeptOf}
use Rattle.seize_blocks.proofs.home.Home.drop.Goals as goal

pub clear-requires : goal.clear-requires
clear-requires g c = let e = c.close-row.ensures in let s = c.into_slots-open.ensures in let b = c.args.self.blocks in (
  s.3 e.8,
  s.1,
  subst (λ (u : ℕ × List Ptr). AreBehind (IsFurther (KeptOf (param 0 g.row.T)) u.0) 0 c.close-row.result.3.strips (take 32 u.1)) (λ i. (b.counted.2 i, sym s.2 i)) e.9,
)

pub clear_rooms-requires : goal.clear_rooms-requires
clear_rooms-requires g c = let e = c.close-row.ensures in let s = c.into_slots-open.ensures in let n = c.clear.ensures in
    (n.3, n.1 ∙ s.1, subst (AreBucketsBehind 32 c.close-row.result.5.spots) (sym (n.2 ∙ s.2)) e.11)
