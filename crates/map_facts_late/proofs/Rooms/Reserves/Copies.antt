-- A reservation copies a whole table: each step of its copier, in either mode.
use Rattle.std.specs.Prelude.{◌≡◌, ℕ, ◌^◌, ◌<◌, ◌≤◌, Bool, true, false, cond}
use Rattle.std.specs.Int.{IsPowerOfTwo}
use Rattle.std.proofs.Common.{refl, sym, subst, ◌∙◌}
use Rattle.map_facts.specs.Given.SeizeWordsMem.{Mem, value_at, Can, Took}
use Rattle.map_facts.specs.Given.SeizeWordsPlan.{May, Steps}
use Rattle.map_facts.proofs.Given.SeizeWordsPlans.{as_may}
use Rattle.map_facts.proofs.Given.SeizeRuleRows.Leaving.{steps_back}
use Rattle.map_facts.specs.Given.SeizeWorld.{World}
use Rattle.map_facts.specs.Given.TablesChunks.{is_incremental}
use Rattle.map_facts.specs.Given.ResizeCopier.{copier_plan}
use Rattle.map_facts.specs.Given.ReservesReserve.{standing, copied, plan_at}
use Rattle.map_facts.specs.Given.TablesDeclared.node.Node.{Node}
use Rattle.map_facts.specs.Given.ResizeDeclared.yielding.Yielding.{Yielding}
use Rattle.map_facts.specs.Given.ResizeDeclared.yielding.Yielding.TheVariants as outcome
use Rattle.map_facts.specs.Given.TablesDeclared.setting.Setting.{Setting}
use Rattle.map_facts.specs.Given.TablesDeclared.table.Table.{Table}
use Rattle.map_facts.specs.Given.ResizeDeclared.copier.Copier.{Copier}
use Rattle.map_facts.specs.Given.ReservesDeclared.reserve.Reserve.{Reserve}
use Rattle.map_facts.specs.Given.ReservesDeclared.reserve.Reserving.TheVariants as at
use Rattle.map_facts.specs.Given.RuleChart.{Chart}
use Rattle.map_facts.specs.Given.RuleRule.{IsLawful}
use Rattle.map_facts.specs.Given.RuleWords.{Blocks}
use Rattle.map_facts.specs.Given.RuleMaps.{spot_of}
use Rattle.map_facts.specs.Given.RuleInWorld.{IsMapIn, StepSpec, SparesPairs}
use Rattle.map_facts.specs.FactsCopies.{CopierFacts}
use Rattle.map_facts.specs.FactsCopiesBlocking.{CopierFactsBlocking}
use Rattle.map_facts.specs.FactsAloneBlocking.{AloneBlocking, LeadsAlone}
use Rattle.map_facts.specs.Measures.{OthersIdle}
use Rattle.map_facts.specs.ToldMoves.{MovedAt}
use Rattle.map_facts.specs.Told.{IsRowOfCopier, CopierOutcome, CopierOutcomeBlocking}
use Rattle.map_facts.proofs.MovedLasts.{moved_lasts, idle_in}
use Rattle.map_facts.proofs.Given.RuleWorld.WentTold.{went_as}
use Rattle.map_facts.proofs.Copiers.CopiersWhole.{whole_stays}
use Rattle.map_facts.proofs.Copiers.CopierWent.{CopierTells}
use Rattle.map_facts.proofs.Copiers.Points.{may_copier, went_copier_moved}
use Rattle.map_facts.proofs.Blocking.Points.{may_copier_blocking, went_copier_blocking_alone}
use Rattle.map_facts.proofs.Given.RuleKeys.TriesLast.{table_lasts}
use Rattle.map_facts_late.specs.FactsReserves.{IsRoot, IsEnding, CopiesWhole, ReserveFacts}
use Rattle.map_facts_late.specs.ToldReserves.{EndsAtRoot, WholeCopyOutcome, ReserveAfter}
use Rattle.map_facts_late.proofs.Rooms.Reserves.WholeCopies.{comes_to_root}
use Rattle.map_facts_late.proofs.Rooms.Reserves.Moved.{CopierMoves}
use Rattle.map_facts_late.proofs.Rooms.Reserves.On.{ReserveTells, ReserveWent, counts}

module _ {K V : Type 0} (same : K → K → Bool) (hash : K → ℕ) (caller : ℕ) (setting : Setting) (lawful : IsLawful same (spot_of hash)) (fits : (k : K) → hash k < 2 ^ 64)
    (initial_is : IsPowerOfTwo setting.initial) where
  -- in this mode
  abbrev CopiesIn : World (Node K V) → Chart K → Blocks → Bool → Copier → Type 0
  CopiesIn w c blocks b copier =
      cond b ((copier.whole ≡ true) × CopierFacts same hash w caller setting c blocks copier × IsEnding same hash w caller setting c blocks copier copier.stands)
      (CopierFactsBlocking same hash w caller setting c blocks copier)

  abbrev ToldIn : World (Node K V) → Chart K → Blocks → Bool → Copier × Yielding (Node K V) Table → Type 0
  ToldIn w c blocks b end =
      cond b (CopierOutcome w caller setting c blocks same hash end × (end.0.whole ≡ true) × EndsAtRoot w caller setting c blocks same hash end)
      (CopierOutcomeBlocking w caller setting c blocks same hash end)

  module _ (w : World (Node K V)) (c : Chart K) (blocks : Blocks) (map : IsMapIn same hash setting w c blocks) where
    module _ (copier : Copier) (none : IsRowOfCopier copier.stands → ⊥) where
      pub may_whole : CopiesWhole same hash w caller setting c blocks copier → May Can Took value_at w.memory (copier_plan hash copier)
      may_whole facts = by (is_incremental setting.mode) refl facts
        where
          by : (b : Bool) → is_incremental setting.mode ≡ b → CopiesIn w c blocks b copier → May Can Took value_at w.memory (copier_plan hash copier)
          by true bits f = may_copier same hash setting bits initial_is lawful fits w caller c blocks map copier f.1 none
          by false blocking f = may_copier_blocking same hash fits lawful caller setting blocking initial_is w c blocks map copier f none

      -- what a step tells, in this mode
      abbrev StepIn : Copier × Yielding (Node K V) Table → Bool → World (Node K V) → Chart K → Blocks → Type 0
      StepIn end b w2 c2 blocks2 =
          SparesPairs w w2 × (c2.current ≡ c.current) × ToldIn w2 c2 blocks2 b end
          × cond b (MovedAt hash caller c copier copier.stands end c2) (OthersIdle caller c × AloneBlocking c copier copier.stands → LeadsAlone c2 caller end)

      abbrev StepOf : Copier × Yielding (Node K V) Table → World (Node K V) → Chart K → Blocks → Type 0
      StepOf end w2 c2 blocks2 =
          SparesPairs w w2 × (c2.current ≡ c.current) × WholeCopyOutcome w2 caller setting c2 blocks2 same hash end × CopierMoves same hash caller setting w c copier end c2

      pub went_whole : CopiesWhole same hash w caller setting c blocks copier → (m2 : Mem (Node K V)) (end : Copier × Yielding (Node K V) Table)
          → Steps Took value_at w.memory (copier_plan hash copier) m2 end → StepSpec same hash setting caller w c blocks m2 (StepOf end)
      went_whole facts m2 end s = by (is_incremental setting.mode) refl facts
        where
          in_mode : (b : Bool) → is_incremental setting.mode ≡ b → StepSpec same hash setting caller w c blocks m2 (StepIn end b) → StepSpec same hash setting caller w c blocks m2 (StepOf end)
          in_mode b mode went = subst (λ (x : Bool). StepSpec same hash setting caller w c blocks m2 (StepIn end x)) (sym mode) went

          by : (b : Bool) → is_incremental setting.mode ≡ b → CopiesIn w c blocks b copier → StepSpec same hash setting caller w c blocks m2 (StepOf end)
          by true bits f = in_mode true bits
              (went_as same hash setting caller w c blocks m2
              (λ w2 c2 blocks2. SparesPairs w w2 × (c2.current ≡ c.current) × CopierOutcome w2 caller setting c2 blocks2 same hash end × MovedAt hash caller c copier copier.stands end c2)
              (StepIn end true)
              (λ w2 c2 blocks2 map2 moved same_blocks told.
              let lasts = moved_lasts same hash setting lawful w c c2 blocks map moved in
              let ends = comes_to_root same hash caller setting w w2 c c2 blocks blocks2 map (table_lasts same hash (is_incremental setting.mode) c c2 lasts blocks blocks2 same_blocks)
              lasts.first copier f.0 m2 end copier.stands refl f.1.point f.2 s in
              (told.0, told.1, (told.2, whole_stays hash copier w.memory m2 end s ∙ f.0, ends), told.3))
              (went_copier_moved same hash setting bits initial_is lawful fits w caller c blocks map copier f.1 none m2 end s))
          by false blocking f = in_mode false blocking
              (went_as same hash setting caller w c blocks m2
              (CopierTells same hash caller setting w c blocks (AloneBlocking c copier copier.stands) end) (StepIn end false)
              (λ w2 c2 blocks2 map2 moved same_blocks told. (told.0.0, told.0.1, told.0.2, told.1))
              (went_copier_blocking_alone same hash fits lawful caller setting blocking initial_is w c blocks map copier f none m2 end s))

    -- where the reservation comes to
    module _ (p : Reserve) (setting_is : p.setting ≡ setting) where
      copied_in : (b : Bool) → is_incremental setting.mode ≡ b → (end : Copier × Yielding (Node K V) Table) → ToldIn w c blocks b end
          → ReserveAfter w caller setting c blocks same hash (copied p end)
      copied_in b mode = by b mode
        where
          root_in : (b : Bool) → is_incremental setting.mode ≡ b → (t : ℕ) → cond b (t ≤ c.first) (t ≡ c.first) → IsRoot same hash w caller setting c blocks t
          root_in b mode t h = subst (λ (x : Bool). cond x (t ≤ c.first) (t ≡ c.first)) (sym mode) h

          goes : (b : Bool) → is_incremental setting.mode ≡ b → (next : Copier) → CopiesIn w c blocks b next → ReserveFacts same hash w caller setting c blocks (standing p (at.Copies next))
          goes b mode next f = record { setting_is = setting_is; idle = λ rests. absurd (rests tt); point = subst (λ (x : Bool). CopiesIn w c blocks x next) (sym mode) f }

          by : (b : Bool) → is_incremental setting.mode ≡ b → (end : Copier × Yielding (Node K V) Table) → ToldIn w c blocks b end
              → ReserveAfter w caller setting c blocks same hash (copied p end)
          by true mode (next, outcome.Goes) told = goes true mode next (told.1, told.0, told.2)
          by true mode (next, outcome.Waits) told = goes true mode next (told.1, told.0.1, told.2)
          by true mode (next, outcome.Gave value) told = absurd told.0
          by true mode (next, outcome.Done root) told =
              counts same hash caller setting w c blocks map p setting_is (idle_in same hash w caller setting c blocks true mode told.0) root told.2.0 told.2.1 (root_in true mode told.2.0 told.2.2)
          by true mode (next, outcome.Refused fault) told = idle_in same hash w caller setting c blocks true mode told.0
          by false mode (next, outcome.Goes) told = goes false mode next told
          by false mode (next, outcome.Waits) told = goes false mode next told
          by false mode (next, outcome.Gave value) told = absurd told
          by false mode (next, outcome.Done root) told =
              counts same hash caller setting w c blocks map p setting_is (idle_in same hash w caller setting c blocks false mode told.1) root c.first told.0 (root_in false mode c.first refl)
          by false mode (next, outcome.Refused fault) told = idle_in same hash w caller setting c blocks false mode told

      pub copied_told : (end : Copier × Yielding (Node K V) Table) → WholeCopyOutcome w caller setting c blocks same hash end → ReserveAfter w caller setting c blocks same hash (copied p end)
      copied_told end told = copied_in (is_incremental setting.mode) refl end told

  module _ (w : World (Node K V)) (c : Chart K) (blocks : Blocks) (map : IsMapIn same hash setting w c blocks) (p : Reserve) (setting_is : p.setting ≡ setting)
      (copier : Copier) (none : IsRowOfCopier copier.stands → ⊥) (facts : CopiesWhole same hash w caller setting c blocks copier) where
    pub may_copies : May Can Took value_at w.memory (plan_at hash p (at.Copies copier))
    may_copies = as_may (copied p) Can Took value_at w.memory (copier_plan hash copier) (may_whole w c blocks map copier none facts)

    pub went_copies : (m2 : Mem (Node K V)) (end : Reserve × Yielding (Node K V) Unit) → Steps Took value_at w.memory (plan_at hash p (at.Copies copier)) m2 end
        → ReserveWent same hash caller setting w c blocks m2 (at.Copies copier) end
    went_copies m2 end s =
        let b = steps_back (copied p) w.memory m2 (copier_plan hash copier) end s in
        went_as same hash setting caller w c blocks m2
        (λ w2 c2 blocks2. SparesPairs w w2 × (c2.current ≡ c.current) × WholeCopyOutcome w2 caller setting c2 blocks2 same hash b.0 × CopierMoves same hash caller setting w c copier b.0 c2)
        (ReserveTells same hash caller setting w c m2 (at.Copies copier) end)
        (λ w2 c2 blocks2 map2 moved same_blocks told. (
          told.0,
          told.1,
          subst (λ (e : Reserve × Yielding (Node K V) Unit). ReserveAfter w2 caller setting c2 blocks2 same hash e) (sym b.2) (copied_told w2 c2 blocks2 map2 p setting_is b.0 told.2),
          (b.0, b.1, (p, b.2), told.2, told.3),
        ))
        (went_whole w c blocks map copier none facts m2 b.0 b.1)
