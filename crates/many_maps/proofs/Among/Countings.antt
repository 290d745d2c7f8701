-- Countings of pairs among calls, makings and ends of maps.
use Rattle.std.proofs.Common.{ℕ, Bool, ap, sym, ◌∙◌}
use Rattle.many_maps.proofs.Beside.Makings.CallSteps.{makings_with_call, no_maker}
use Rattle.many_maps.proofs.Beside.Maps.All.{maps_with_call}
use Rattle.many_maps.proofs.Beside.Maps.Steps.{no_other}
use Rattle.many_calls.specs.Together.{Counting}
use Rattle.many_calls.proofs.Together.Countings.{countings_begin_together, countings_stand_together}
use Rattle.many_maps.specs.Countings.{CountingsBeginWithEndings, CountingsPreserveWithEndings}
use Rattle.many_maps.proofs.Among.Calls.{no_ender, endings_with_call}

module _ {K Q : Type 0} (V : Type 0) (same : K → K → Bool) (asks : Q → K → Bool) (batch_size roots : ℕ) (slot : ℕ → ℕ) where
  pub countings_begin_among : CountingsBeginWithEndings V same asks batch_size roots slot
  countings_begin_among w maps calls makers enders all i free unending alone rests m s here =
      let standing = all.makings.standing in
      endings_with_call V same asks batch_size roots slot w maps calls makers enders all m i _ (λ j f ends e. (let none = ap enders (sym e) ∙ ends in cc (none, unending)))
      (makings_with_call V same asks batch_size roots slot w maps calls makers all.makings m i _ (λ j b makes e. (let none = ap makers (sym e) ∙ makes in cc (none, free)))
      (maps_with_call V same asks batch_size slot w maps calls standing m s here i _ (λ n ne. alone n)
      (countings_begin_together same s.hash asks s.setting slot w s.chart s.blocks s.sights (calls m) i (standing.each m s here) (alone m) rests)))

  pub countings_stand_among : CountingsPreserveWithEndings V same asks batch_size roots slot
  countings_stand_among w maps calls makers enders all m s here i sum has =
      let standing = all.makings.standing in
      let leads = countings_stand_together same s.hash asks s.setting slot w s.chart s.blocks s.sights (calls m) (standing.each m s here) i sum has in (
        leads.0,
        λ m2 sum2 end st.
            let to = leads.1 m2 sum2 end st in (
              to.0,
              to.1,
              to.2,
              endings_with_call V same asks batch_size roots slot w maps calls makers enders all m i _ (no_ender V same asks batch_size roots slot w maps calls makers enders all m i (Counting sum) has)
                  (makings_with_call V same asks batch_size roots slot w maps calls makers all.makings m i _ (no_maker V same asks batch_size roots slot w maps calls makers all.makings m i (Counting sum) has)
                  (maps_with_call V same asks batch_size slot w maps calls standing m s here i _ (no_other V same asks batch_size slot w maps calls standing m s here i (Counting sum) has) to.3)),
            ),
      )
