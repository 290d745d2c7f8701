-- What happens elsewhere leaves what is shown as it was.
use Rattle.std.specs.Prelude.{ℕ, Bool, Option}
use Rattle.std.proofs.Common.{refl, ap, sym, subst}
use Rattle.seize_words.specs.OneMemory.Mem.{Mem, value_at}
use Rattle.seize.specs.World.{Hand}
use Rattle.run_effects.specs.Given.TablesDeclared.node.Node.{Node}
use Rattle.many_maps.specs.Given.CallersTogether.{UnderWay}
use Rattle.run_shows.specs.Follows.Blocks.{WasLinked}
use Rattle.run_shows.specs.Follows.Calls.{RefinesCalls}
use Rattle.run_shows.specs.Others.Elsewhere.{RefinedElsewhere}
use Rattle.run_shows.proofs.Others.Quiet.{calls_shown}
use Rattle.run_shows.proofs.Others.Scenes.{all_stay}

pub shown_elsewhere : (K V : Type 0) (same : K → K → Bool) → RefinedElsewhere K V same
shown_elsewhere K V same name m m2 known s s2 shown has stands =
    all_stay same name m known s shown s2.world s2.maps stands.maps m2 known
    (record { place = has.place; born = has.born; maps = has.maps; tables = has.tables; stored = has.stored }) refl refl
    (λ b. record {
      value = ap (λ (n : Mem (Node K V)). value_at n b) stands.memory;
      linked = λ value is linked. subst (λ (h : ℕ → Hand). WasLinked (h b)) (sym stands.hand) linked;
    })
    s2 (subst (λ (calls : ℕ → ℕ → Option (UnderWay K V K)). RefinesCalls same name m2 calls) (sym stands.calls) (calls_shown same name m m2 s.calls has.calls shown.calls))
