-- A `&` to a drawer is a borrow of the whole, which the thread's token opens. Assumes `Logic`.
use mathlib.Core.List.{[], ◌∷◌}
use base.Fraction.{full_share}
use base.Fml.{Fml, fbor}
use types.Logic.{lfts}
use types.Kit.{‵, raw, later, ◌$◌, ◌∵◌, !, qed, use1, await, updating, now, done}
use types.Na.{na_bor, bor_na}
use Prim.Native.Nat.{ℕ}
use denote.RattleType.{RattleType}
use denote.Memory.{part_at, part_of}
use denote.Hidden.{guarded_shr_laws}
use denote.Param.Laws.{Laws}
use Rattle.seize_guards.specs.declared.drawer.Labelled.{Ghosts}
use Rattle.seize_guards.specs.contracts.drawer.Drawer as drawer
use Rattle.seize_guards.proofs.drawer.Drawer.TheLaw.Statement.{statement}

pub shares : (T : RattleType) (g : Ghosts T.Denot) (L : Laws T) → statement T g L
unfolding part_of
shares T g L =
    let P : ℕ → ℕ → ℕ → Fml = λ n b o. part_at (drawer.the_written T g) full_share n b o in
    record {
      shr_laws = λ n b o. guarded_shr_laws (b, o) (P n b o);
      shares = λ M 𝓤 𝓛 n κ ts b o inc sp.
          let B = P n b o in
          qed 𝓛 (‵ (fbor κ B) ∷ raw (lfts 𝓛 ts) ∷ []) ∵ updating ! $ use1 𝓛 (later (‵ (na_bor κ (b, o) B))) (bor_na 𝓛 κ (b, o) B) $ await ! tt $ now ! $ done !;
    }
