-- A sweep copies a whole table: each step of its copier, in either mode, and in a table that the root has left.
use Rattle.std.specs.Prelude.{◌≡◌, ℕ, Bool, true, false, cond, ◌⊎◌}
use Rattle.std.specs.Int.{IsPowerOfTwo}
use Rattle.std.proofs.Common.{refl, inl, inr, sym, subst}
use Rattle.map_facts.specs.Given.SeizeWordsMem.{Mem, value_at, Can, Took}
use Rattle.map_facts.specs.Given.SeizeWordsPlan.{May, Steps}
use Rattle.map_facts.proofs.Given.SeizeWordsPlans.{as_may}
use Rattle.map_facts.proofs.Given.SeizeRuleRows.Leaving.{steps_back}
use Rattle.map_facts.specs.Given.SeizeWorld.{World}
use Rattle.map_facts.specs.Given.TablesChunks.{is_incremental}
use Rattle.map_facts.specs.Given.TablesDeclared.node.Node.{Node}
use Rattle.map_facts.specs.Given.TablesDeclared.setting.Setting.{Setting}
use Rattle.map_facts.specs.Given.TablesDeclared.table.Table.{Table}
use Rattle.map_facts.specs.Given.ResizeCopier.{copier_plan}
use Rattle.map_facts.specs.Given.ResizeDeclared.copier.Copier.{Copier}
use Rattle.map_facts.specs.Given.ResizeDeclared.yielding.Yielding.{Yielding}
use Rattle.map_facts.specs.Given.ResizeDeclared.yielding.Yielding.TheVariants as outcome
use Rattle.map_facts.specs.Given.SweepsSweep.{copied, plan_at}
use Rattle.map_facts.specs.Given.SweepsSweepPoints.{entering, telling, standing}
use Rattle.map_facts.specs.Given.ReservesDeclared.sweep.Sweep.{Sweep}
use Rattle.map_facts.specs.Given.ReservesDeclared.sweep.Sweeping.TheVariants as at
use Rattle.map_facts.specs.Given.ReservesDeclared.sweep.Swept.{Swept}
use Rattle.map_facts.specs.Given.RuleChart.{Chart}
use Rattle.map_facts.specs.Given.RuleWords.{Blocks}
use Rattle.map_facts.specs.Given.RuleMaps.{IsTable}
use Rattle.map_facts.specs.Given.RuleMoments.{Moments}
use Rattle.map_facts.specs.Given.RuleInWorld.{IsMapIn, SparesPairs}
use Rattle.map_facts.proofs.Given.RuleWorld.WentTold.{went_as}
use Rattle.map_facts.specs.FactsCopies.{CopierFacts}
use Rattle.map_facts.specs.FactsCopiesBlocking.{CopierFactsBlocking}
use Rattle.map_facts.specs.FactsIdle.{IsIdle}
use Rattle.map_facts.specs.Steps.{AreLawful}
use Rattle.map_facts.specs.Told.{IsRowOfCopier, CopierOutcome, CopierOutcomeBlocking}
use Rattle.map_facts.proofs.MovedLasts.{idle_in}
use Rattle.map_facts_late.specs.Left.{ClaimsAreFew}
use Rattle.map_facts_late.specs.LateCopies.{SupersededCopierFacts}
use Rattle.map_facts_late.specs.LateTold.{SupersededCopierAfter, SupersededCopierOutcome}
use Rattle.map_facts_late.proofs.Copiers.Points.{late_copiers_keep_the_map}
use Rattle.map_facts_late.specs.FactsReserves.{IsEnding}
use Rattle.map_facts_late.specs.ToldReserves.{EndsAtRoot, WholeCopyOutcome}
use Rattle.map_facts_late.proofs.Rooms.Late.Copies.{whole_blocking}
use Rattle.map_facts_late.proofs.Rooms.Reserves.Copies.{may_whole, went_whole}
use Rattle.map_facts_late.proofs.Rooms.Reserves.Moved.{CopierMoves}
use Rattle.map_facts_late.specs.FactsSweeps.{WasRoot, CopiesTable}
use Rattle.map_facts_late.proofs.Swept.Sweeps.Tables.{WasRootIn}
use Rattle.map_facts_late.proofs.Swept.Sweeps.On.{After, Knows, telling_after, enters}
use Rattle.map_facts_late.proofs.Swept.Sweeps.Moved.{EndsWith, SweepTells, SweepWent}

module _ {K V : Type 0} (same : K → K → Bool) (hash : K → ℕ) (caller : ℕ) (setting : Setting) (began : ℕ) (p : Sweep) (setting_is : p.setting ≡ setting) where
  -- where it leads
  abbrev pub Leads : World (Node K V) → Chart K → Blocks → Copier × Yielding (Node K V) Table → Type 0
  Leads w c blocks b = After same hash caller setting began w c blocks (copied p b) × EndsWith same hash caller setting began w c blocks b

  module _ (w : World (Node K V)) (c : Chart K) (blocks : Blocks) (map : IsMapIn same hash setting w c blocks) where
    -- it copies on
    on : (next : Copier) → CopiesTable same hash w caller setting c blocks began next → Knows same hash caller setting began w c blocks (standing p (at.Copies next))
    on next f = record { setting_is = setting_is; idle = λ rests. absurd (rests tt); point = f }

    ends : IsIdle same hash w caller setting c blocks → (table : Table) (t : ℕ) → IsTable c blocks table t → WasRoot same hash w caller setting c blocks began t
        → After same hash caller setting began w c blocks (telling (entering p table))
    ends idle table t entered root =
        telling_after same hash caller setting began w c blocks (entering p table) (enters same hash caller setting began w c blocks map p setting_is idle table t entered root)

    -- from the root's table, or from one that was it in incremental mode
    abbrev ToldIn : Bool → Copier × Yielding (Node K V) Table → Type 0
    ToldIn b end =
        cond b (CopierOutcome w caller setting c blocks same hash end × (end.0.whole ≡ true) × EndsAtRoot w caller setting c blocks same hash end)
        (CopierOutcomeBlocking w caller setting c blocks same hash end)

    whole_of : (b : Bool) → is_incremental setting.mode ≡ b → (next : Copier)
        → cond b ((next.whole ≡ true) × CopierFacts same hash w caller setting c blocks next × IsEnding same hash w caller setting c blocks next next.stands) (CopierFactsBlocking same hash w caller setting c blocks next)
        → CopiesTable same hash w caller setting c blocks began next
    whole_of b mode next f =
        inl (subst (λ (x : Bool). cond x ((next.whole ≡ true) × CopierFacts same hash w caller setting c blocks next × IsEnding same hash w caller setting c blocks next next.stands)
        (CopierFactsBlocking same hash w caller setting c blocks next)) (sym mode) f)

    root_of : (b : Bool) → is_incremental setting.mode ≡ b → (t : ℕ) → WasRootIn same hash c began t b → WasRoot same hash w caller setting c blocks began t
    root_of b mode t h = subst (WasRootIn same hash c began t) (sym mode) h

    pub whole_leads_in : (b : Bool) → is_incremental setting.mode ≡ b → (end : Copier × Yielding (Node K V) Table) → ToldIn b end → Leads w c blocks end
    whole_leads_in true mode (next, outcome.Goes) told = (on next (whole_of true mode next (told.1, told.0, told.2)), tt)
    whole_leads_in true mode (next, outcome.Waits) told = (on next (whole_of true mode next (told.1, told.0.1, told.2)), tt)
    whole_leads_in true mode (next, outcome.Gave value) told = absurd told.0
    whole_leads_in true mode (next, outcome.Done table) told = (
      ends (idle_in same hash w caller setting c blocks true mode told.0) table told.2.0 told.2.1 (root_of true mode told.2.0 told.2.2),
      (told.2.0, told.2.1, root_of true mode told.2.0 told.2.2),
    )
    whole_leads_in true mode (next, outcome.Refused fault) told = (record { setting_is = setting_is; idle = λ rests. idle_in same hash w caller setting c blocks true mode told.0; point = tt }, tt)
    whole_leads_in false mode (next, outcome.Goes) told = (on next (whole_of false mode next told), tt)
    whole_leads_in false mode (next, outcome.Waits) told = (on next (whole_of false mode next told), tt)
    whole_leads_in false mode (next, outcome.Gave value) told = absurd told
    whole_leads_in false mode (next, outcome.Done table) told = (
      ends (idle_in same hash w caller setting c blocks false mode told.1) table c.first told.0 (root_of false mode c.first (inl refl)),
      (c.first, told.0, root_of false mode c.first (inl refl)),
    )
    whole_leads_in false mode (next, outcome.Refused fault) told = (record { setting_is = setting_is; idle = λ rests. idle_in same hash w caller setting c blocks false mode told; point = tt }, tt)

    -- from one that the root has left, in blocking mode
    module _ (blocking : is_incremental setting.mode ≡ false) where
      late_on : (next : Copier) → CopierFactsBlocking same hash w caller setting c blocks next ⊎ SupersededCopierFacts same hash w caller setting c blocks began next
          → CopiesTable same hash w caller setting c blocks began next
      late_on next (inl fresh) = inl (whole_blocking same hash caller setting blocking w c blocks next fresh)
      late_on next (inr late) = inr (blocking, late)

      late_leads : (end : Copier × Yielding (Node K V) Table) → SupersededCopierAfter same hash caller setting began w c blocks end → Leads w c blocks end
      late_leads (next, outcome.Goes) told = (on next (late_on next told), tt)
      late_leads (next, outcome.Waits) told = (on next (inr (blocking, told)), tt)
      late_leads (next, outcome.Gave value) told = absurd told
      late_leads (next, outcome.Done table) told = (
        ends (idle_in same hash w caller setting c blocks false blocking told.1) table told.0.0 told.0.1 (root_of false blocking told.0.0 told.0.2),
        (told.0.0, told.0.1, root_of false blocking told.0.0 told.0.2),
      )
      late_leads (next, outcome.Refused fault) told = (record { setting_is = setting_is; idle = λ rests. idle_in same hash w caller setting c blocks false blocking told; point = tt }, tt)

  module _ (are : AreLawful same hash) (initial_is : IsPowerOfTwo setting.initial) (w : World (Node K V)) (c : Chart K) (blocks : Blocks) (map : IsMapIn same hash setting w c blocks)
      (moments : Moments (is_incremental setting.mode) c) (few : is_incremental setting.mode ≡ false → ClaimsAreFew c) (copier : Copier) (none : IsRowOfCopier copier.stands → ⊥) where
    moments_of : is_incremental setting.mode ≡ false → Moments false c
    moments_of blocking = subst (λ (b : Bool). Moments b c) blocking moments

    may_inner : CopiesTable same hash w caller setting c blocks began copier → May Can Took value_at w.memory (copier_plan hash copier)
    may_inner (inl whole) = may_whole same hash caller setting are.lawful are.fits initial_is w c blocks map copier none whole
    may_inner (inr (blocking, late)) = (late_copiers_keep_the_map same hash are setting initial_is blocking w caller c blocks began copier map (moments_of blocking) (few blocking) late none).0

    pub may_copies : CopiesTable same hash w caller setting c blocks began copier → May Can Took value_at w.memory (plan_at hash p (at.Copies copier))
    may_copies facts = as_may (copied p) Can Took value_at w.memory (copier_plan hash copier) (may_inner facts)

    module _ (m2 : Mem (Node K V)) (end : Sweep × Swept (Node K V)) (b : Copier × Yielding (Node K V) Table) (end_is : end ≡ copied p b) where
      tells : (w2 : World (Node K V)) (c2 : Chart K) (blocks2 : Blocks) → c2.current ≡ c.current → Leads w2 c2 blocks2 b
          → SweepTells same hash caller setting began w c blocks p (at.Copies copier) end w2 c2 blocks2
      tells w2 c2 blocks2 current leads = (subst (After same hash caller setting began w2 c2 blocks2) (sym end_is) leads.0, (current, b, end_is, leads.1))

      inner : CopiesTable same hash w caller setting c blocks began copier → Steps Took value_at w.memory (copier_plan hash copier) m2 b
          → SweepWent same hash caller setting began w c blocks p m2 (at.Copies copier) end
      inner (inl whole) s =
          went_as same hash setting caller w c blocks m2
          (λ w2 c2 blocks2. SparesPairs w w2 × (c2.current ≡ c.current) × WholeCopyOutcome w2 caller setting c2 blocks2 same hash b × CopierMoves same hash caller setting w c copier b c2)
          (SweepTells same hash caller setting began w c blocks p (at.Copies copier) end)
          (λ w2 c2 blocks2 map2 moved same_blocks told. tells w2 c2 blocks2 told.1 (whole_leads_in w2 c2 blocks2 map2 (is_incremental setting.mode) refl b told.2))
          (went_whole same hash caller setting are.lawful are.fits initial_is w c blocks map copier none whole m2 b s)
      inner (inr (blocking, late)) s =
          went_as same hash setting caller w c blocks m2 (λ w2 c2 blocks2. SparesPairs w w2 × SupersededCopierOutcome same hash caller setting began w2 c2 blocks2 c b)
          (SweepTells same hash caller setting began w c blocks p (at.Copies copier) end)
          (λ w2 c2 blocks2 map2 moved same_blocks told. tells w2 c2 blocks2 told.1.1 (late_leads w2 c2 blocks2 map2 blocking b told.1.0))
          ((late_copiers_keep_the_map same hash are setting initial_is blocking w caller c blocks began copier map (moments_of blocking) (few blocking) late none).1 m2 b s)

    pub went_copies : CopiesTable same hash w caller setting c blocks began copier → (m2 : Mem (Node K V)) (end : Sweep × Swept (Node K V))
        → Steps Took value_at w.memory (plan_at hash p (at.Copies copier)) m2 end → SweepWent same hash caller setting began w c blocks p m2 (at.Copies copier) end
    went_copies facts m2 end s = let b = steps_back (copied p) w.memory m2 (copier_plan hash copier) end s in inner m2 end b.0 b.2 facts b.1
