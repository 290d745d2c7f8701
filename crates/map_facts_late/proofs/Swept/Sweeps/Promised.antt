-- What is promised of each step of a sweep, of its first point, and of what it is told.
use Rattle.std.specs.Prelude.{◌≡◌, ℕ, ◌≤◌, Bool, true, false, nat_lt, ◌⊎◌, if◌then◌else◌}
use Rattle.std.proofs.Common.{refl, ap, inl, inr, sym, subst, arith}
use Rattle.std.proofs.lemmas.Bool.{ltb-true}
use Rattle.map_facts.specs.Given.SeizeWorld.{World}
use Rattle.map_facts.specs.Given.TablesDeclared.node.Node.{Node}
use Rattle.map_facts.specs.Given.TablesDeclared.setting.Setting.{Setting}
use Rattle.map_facts.specs.Given.TablesDeclared.table.Table.{Table}
use Rattle.map_facts.specs.Given.SweepsSweepPoints.{removes, next_at, reply_at, standing}
use Rattle.map_facts.specs.Given.ReservesDeclared.sweep.Sweep.{Sweep}
use Rattle.map_facts.specs.Given.ReservesDeclared.sweep.Sweeping.{Sweeping}
use Rattle.map_facts.specs.Given.ReservesDeclared.sweep.Sweeping.TheVariants as at
use Rattle.map_facts.specs.Given.RuleChart.{Chart}
use Rattle.map_facts.specs.Given.RuleWords.{Blocks}
use Rattle.map_facts.specs.Given.RuleInWorld.{IsMapIn}
use Rattle.map_facts.proofs.Given.RuleWorld.WentTold.{went_as}
use Rattle.map_facts_late.specs.FactsSweeps.{CopiesPairs, HasNoTable, GoesOver, SweepingFacts, SweepFacts}
use Rattle.map_facts_late.specs.StepsSweeps.{SweepsBegin, SweepsAreReplied, SweepsPreserveTheMap}
use Rattle.map_facts_late.specs.ToldSweeps.{SweepOutcome}
use Rattle.map_facts_late.proofs.Swept.Sweeps.Moved.{SweepTells}
use Rattle.map_facts_late.proofs.Swept.Sweeps.On.{goes_further}
use Rattle.map_facts_late.proofs.Swept.Sweeps.Points.{may_sweep, went_sweep}
use Rattle.map_facts_late.proofs.Swept.Sweeps.Told.{told_of}

module _ {K : Type 0} (V : Type 0) (same : K → K → Bool) (hash : K → ℕ) where
  pub sweeps_begin : SweepsBegin V same hash
  sweeps_begin setting w caller c blocks began idle purpose = record { setting_is = refl; idle = λ rests. idle; point = (refl, refl) }

  module _ (setting : Setting) (w : World (Node K V)) (caller : ℕ) (c : Chart K) (blocks : Blocks) (began : ℕ) (map : IsMapIn same hash setting w c blocks) (p : Sweep)
      (f : SweepFacts same hash w caller setting c blocks began p) where
    abbrev Knows : Sweep → Type 0
    Knows q = SweepFacts same hash w caller setting c blocks began q

    -- asked for the next pair
    next_in : (stage : Sweeping) → p.stands ≡ stage → SweepingFacts same hash w caller setting c blocks began p stage → Knows (next_at stage p)
    next_in at.Ready is (walks, where_is) = by (nat_lt p.place p.table.len) refl where_is
      where
        idle : (CopiesPairs at.Ready → ⊥) → (CopiesPairs p.stands → ⊥)
        idle none = subst (λ (x : Sweeping). CopiesPairs x → ⊥) (sym is) none

        by : (more : Bool) → nat_lt p.place p.table.len ≡ more → HasNoTable same hash w caller setting c blocks began p ⊎ ((t : ℕ) × GoesOver same hash w caller setting c blocks began p t × (p.place ≤ c.len t))
            → Knows (standing p (if more then at.Words else at.Over))
        by true more (inl none) =
            absurd (let l = ltb-true p.place p.table.len more in let len : p.table.len ≡ 0 = ap (λ (x : Table). x.len) none.0 in omega (arith, l, len))
        by true more (inr (t, over, upto)) = record {
          setting_is = f.setting_is;
          idle = λ rests. f.idle (idle (λ h. h));
          point = (
            t,
            (
              record { table = over.table; root = over.root; marks = over.marks },
              (let l = ltb-true p.place p.table.len more in let len : p.table.len ≡ c.len t = ap (λ (x : Table). x.len) over.table.is in omega (arith, l, len)),
            ),
          );
        }
        by false more at_table = record { setting_is = f.setting_is; idle = λ rests. f.idle (idle (λ h. h)); point = tt }
    next_in _ is point = f

    -- told whether its pair is to be kept
    reply_in : (stage : Sweeping) → p.stands ≡ stage → SweepingFacts same hash w caller setting c blocks began p stage → (keeps : Bool) → Knows (reply_at stage p keeps)
    reply_in (at.Asks word) is (retains, names, t, (over, inside)) true =
        goes_further same hash caller setting began w c blocks map p f.setting_is (f.idle (subst (λ (x : Sweeping). CopiesPairs x → ⊥) (sym is) (λ h. h))) t over inside
    reply_in (at.Asks word) is (retains, names, t, (over, inside)) false = record {
      setting_is = f.setting_is;
      idle = λ rests. f.idle (subst (λ (x : Sweeping). CopiesPairs x → ⊥) (sym is) (λ h. h));
      point = (ap removes retains, names, t, (record { table = over.table; root = over.root; marks = over.marks }, inside));
    }
    reply_in _ is point keeps = f

  pub sweeps_are_told : SweepsAreReplied V same hash
  sweeps_are_told setting w caller c blocks began p map f =
      (next_in setting w caller c blocks began map p f p.stands refl f.point, reply_in setting w caller c blocks began map p f p.stands refl f.point)

  pub sweeps_keep_the_map : SweepsPreserveTheMap V same hash
  sweeps_keep_the_map are setting initial_is w caller c blocks began p map moments few f none = (
    may_sweep same hash are caller setting initial_is began w c blocks map moments few p f none,
    λ m2 p2 end s. went_as same hash setting caller w c blocks m2 (SweepTells same hash caller setting began w c blocks p p.stands (p2, end))
        (λ w2 c2 blocks2. SweepOutcome same hash caller setting began c blocks p w2 c2 blocks2 p2 end)
        (λ w2 c2 blocks2 map2 moved same_blocks tells. told_of same hash caller setting began w c blocks map p w2 c2 blocks2 p2 end tells)
        (went_sweep same hash are caller setting initial_is began w c blocks map moments few p f m2 (p2, end) none s),
  )
