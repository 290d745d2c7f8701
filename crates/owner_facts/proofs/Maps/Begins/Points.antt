-- Each step of the beginning of a map: it may be taken, and where it leads.
use Rattle.std.specs.Prelude.{◌≡◌, ℕ, ◌+◌, ◌^◌, ◌<◌, ◌≤◌, Bool, max}
use Rattle.std.specs.Int.{IsPowerOfTwo}
use Rattle.std.proofs.Common.{refl, sym, subst}
use Rattle.many_maps.specs.Given.SeizeWordsMem.{Mem, value_at, Can, Took}
use Rattle.many_maps.specs.Given.SeizeWordsPlan.{May, Steps}
use Rattle.many_maps.specs.Given.SeizeWorld.{World}
use Rattle.many_maps.specs.Given.SeizeDeclared.advance.Advance.{Advance}
use Rattle.many_maps.specs.Given.TablesLengths.{IsTableLen}
use Rattle.many_maps.specs.Given.ResizeNewMap.{opening, plan_at, new_map_plan}
use Rattle.many_maps.specs.Given.TablesDeclared.node.Node.{Node}
use Rattle.many_maps.specs.Given.TablesDeclared.setting.Setting.{Setting}
use Rattle.many_maps.specs.Given.ResizeDeclared.new_map.NewMap.{NewMap}
use Rattle.many_maps.specs.Given.ResizeDeclared.new_map.Opening.{Opening}
use Rattle.many_maps.specs.Given.ResizeDeclared.new_map.Opening.TheVariants as at
use Rattle.many_maps.specs.Given.RuleRule.{IsLawful}
use Rattle.many_maps.specs.Given.RuleMaps.{spot_of}
use Rattle.many_maps.specs.Makings.{HasRoots}
use Rattle.owner_facts.specs.Maps.FactsBegins.{OpeningFacts, BeginFacts, BeginOutcome, BeginStepSpec}
use Rattle.owner_facts.proofs.Maps.Begins.Roots.{begin_still, may_takes, went_takes, may_frees, went_frees}
use Rattle.owner_facts.proofs.Maps.Begins.Tables.{may_shards, went_shards, may_tables, went_tables, may_unmakes, went_unmakes}

module _ {K V : Type 0} (same : K → K → Bool) (hash : K → ℕ) (caller : ℕ) (setting : Setting) where
  -- what is known as it begins
  pub begin_facts : (w : World (Node K V)) (roots len : ℕ) → 0 < roots → HasRoots w roots → (max len 8 ≤ 2 ^ 48 → IsTableLen (max len 8))
      → BeginFacts same hash caller w setting (opening setting roots len)
  begin_facts w roots len some there is = record { setting_is = refl; len = is; point = (refl, some, there) }

  module _ (lawful : IsLawful same (spot_of hash)) (initial_is : IsPowerOfTwo setting.initial) (mask_fits : setting.mask + 1 < 2 ^ 64) (w : World (Node K V)) where
    module _ (n : NewMap) (f : BeginFacts same hash caller w setting n) where
      may_at : (stage : Opening) → n.stands ≡ stage → OpeningFacts same hash caller w setting n stage → May Can Took value_at w.memory (plan_at n stage)
      may_at at.Takes here point = may_takes same hash caller setting w n f here point
      may_at at.Shards here point = may_shards same hash caller setting w n f mask_fits point
      may_at (at.Tables making) here point = may_tables same hash caller setting w n f lawful initial_is making point
      may_at (at.Unmakes fault) here point = may_unmakes same hash caller setting w n f fault point
      may_at (at.Frees fault) here point = may_frees same hash caller setting w n f fault point
      may_at at.Over here point = tt
      may_at (at.Refused fault) here point = tt

      went_at : (stage : Opening) → n.stands ≡ stage → OpeningFacts same hash caller w setting n stage → (m2 : Mem (Node K V)) (end : NewMap × Advance Setting)
          → Steps Took value_at w.memory (plan_at n stage) m2 end → BeginStepSpec same hash caller setting stage w n.setting.root m2 end
      went_at at.Takes here point m2 end s = went_takes same hash caller setting w n f here point m2 end s
      went_at at.Shards here point m2 end s = went_shards same hash caller setting w n f mask_fits point m2 end s
      went_at (at.Tables making) here point m2 end s = went_tables same hash caller setting w n f lawful initial_is making point m2 end s
      went_at (at.Unmakes fault) here point m2 end s = went_unmakes same hash caller setting w n f fault point m2 end s
      went_at (at.Frees fault) here point m2 end s = went_frees same hash caller setting w n f fault point m2 end s
      went_at at.Over here point m2 end s =
          begin_still same hash caller setting w at.Over n.setting.root m2 s.0 end
          (subst (λ (e : NewMap × Advance Setting). BeginOutcome same hash caller setting at.Over w w e) (sym s.1) (refl, f.setting_is, point))
      went_at (at.Refused fault) here point m2 end s =
          begin_still same hash caller setting w (at.Refused fault) n.setting.root m2 s.0 end
          (subst (λ (e : NewMap × Advance Setting). BeginOutcome same hash caller setting (at.Refused fault) w w e) (sym s.1) refl)

    pub may_new_map : (n : NewMap) → BeginFacts same hash caller w setting n → May Can Took value_at w.memory (new_map_plan n)
    may_new_map n f = may_at n f n.stands refl f.point

    pub went_new_map : (n : NewMap) → BeginFacts same hash caller w setting n → (m2 : Mem (Node K V)) (end : NewMap × Advance Setting)
        → Steps Took value_at w.memory (new_map_plan n) m2 end → BeginStepSpec same hash caller setting n.stands w n.setting.root m2 end
    went_new_map n f m2 end s = went_at n f n.stands refl f.point m2 end s
