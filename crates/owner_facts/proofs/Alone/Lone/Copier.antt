-- In incremental mode, a copier waits for no place that it need not, and for no status that it need not: a helper never waits, nor does one that is alone.
use Rattle.std.specs.Int.{IsPowerOfTwo}
use Rattle.std.proofs.Common.{◌≡◌, ◌≢◌, ℕ, suc, ◌^◌, ◌<◌, Bool, true, false, ◌⊎◌, inl, inr, ap}
use Rattle.many_maps.specs.Given.SeizeWordsMem.{Mem, value_at, Took}
use Rattle.many_maps.specs.Given.SeizeWordsPlan.{Steps}
use Rattle.many_maps.proofs.Given.SeizeWordsOneOwner.Operations.{exchanged}
use Rattle.many_maps.specs.Given.SeizeWorld.{World}
use Rattle.many_maps.specs.Given.SeizeDeclared.advance.Advance.{Advance}
use Rattle.many_maps.specs.Given.SeizeDeclared.advance.Advance.TheVariants as progress
use Rattle.many_maps.specs.Given.TablesChunks.{is_incremental}
use Rattle.many_maps.specs.Given.ResizeCopier.{plan_at, copier_plan}
use Rattle.many_maps.specs.Given.ResizeCopierPlaces.{after_put, copied_word, next_try, pair_put}
use Rattle.many_maps.specs.Given.ResizeCopierFurther.{grown}
use Rattle.many_maps.specs.Given.ResizeCopierCounts.{refusing}
use Rattle.many_maps.specs.Given.ResizeCopierMarks.{probing}
use Rattle.many_maps.specs.Given.ResizeCopierStates.{standing}
use Rattle.many_maps.specs.Given.TablesDeclared.table_words.TheConstants.{NEXT}
use Rattle.many_maps.specs.Given.SeizeWordsDeclared.at.At.TheVariants.{Word}
use Rattle.many_maps.specs.Given.TablesTablePlaces.{at_place}
use Rattle.many_maps.specs.Given.TablesDeclared.node.Node.{Node}
use Rattle.many_maps.specs.Given.ResizeDeclared.yielding.Yielding.{Yielding}
use Rattle.many_maps.specs.Given.ResizeDeclared.yielding.Yielding.TheVariants.{Goes, Waits}
use Rattle.many_maps.specs.Given.TablesDeclared.setting.Setting.{Setting}
use Rattle.many_maps.specs.Given.TablesDeclared.table.Table.{Table}
use Rattle.many_maps.specs.Given.ResizeDeclared.copier.Copier.{Copier}
use Rattle.many_maps.specs.Given.ResizeDeclared.copier.Copying.{Copying as Point}
use Rattle.many_maps.specs.Given.ResizeDeclared.copier.Copying.TheVariants as at
use Rattle.many_maps.specs.Given.ResizeDeclared.new_table.NewTable.{NewTable}
use Rattle.many_maps.specs.Given.RuleChart.{Chart}
use Rattle.many_maps.specs.Given.RuleRule.{IsLawful}
use Rattle.many_maps.specs.Given.RuleWords.{Blocks}
use Rattle.many_maps.specs.Given.RuleMaps.{spot_of}
use Rattle.many_maps.specs.Given.RuleInWorld.{IsMapIn}
use Rattle.many_maps.specs.Given.PointsFactsCopies.{CopyingFacts, CopierFacts}
use Rattle.many_maps.specs.Given.PointsTold.{NewTableOutcome, IsRowOfCopier}
use Rattle.many_maps.specs.Given.PointsMeasures.{OthersIdle}
use Rattle.many_maps.proofs.Given.PointsCopiers.Grows.{went_grown}
use Rattle.many_maps.proofs.Given.PointsCopiers.Marks.{awaited_whole}
use Rattle.many_maps.proofs.Given.PointsCopiers.Passes.{comes_passes}
use Rattle.many_maps.proofs.Given.PointsCopiers.Probes.{comes_probes}
use Rattle.owner_facts.specs.Alone.FactsAlone.{AloneAt, FactsAlone}
use Rattle.owner_facts.proofs.Alone.Lone.Copies.{awaits_no_place, awaits_no_status}
use Rattle.owner_facts.proofs.Alone.Lone.CopierSteps.{LeadsOn, WaitsFor, AwaitsPlace, AwaitsStatus, leads_begins, leads_follows, leads_asks, leads_sees, leads_claims, leads_marks, leads_covers, leads_counts, leads_tallies, leads_unmarks, leads_unclaims, leads_promotes, leads_announces, leads_succeeds}

module _ {K V : Type 0} (same : K → K → Bool) (hash : K → ℕ) (setting : Setting) (bits : is_incremental setting.mode ≡ true) (initial_is : IsPowerOfTwo setting.initial)
    (lawful : IsLawful same (spot_of hash)) (fits : (k : K) → hash k < 2 ^ 64)
    (w : World (Node K V)) (caller : ℕ) (c : Chart K) (blocks : Blocks) (map : IsMapIn same hash setting w c blocks) (p : Copier)
    (m2 : Mem (Node K V)) (end : Copier × Yielding (Node K V) Table) where
  -- what it waits for: at a place that another caller copies, or for the status
  abbrev pub Awaits : Point → Type 0
  Awaits at.Marks = AwaitsPlace p w.memory m2 end
  Awaits at.Asks = AwaitsStatus p w.memory m2 end
  Awaits _ = ⊥

  waiting : (q : Copier) → end ≡ (q, Goes) → end.1 ≡ Waits → ⊥
  waiting q ends waits = let goes = ap (λ (x : Copier × Yielding (Node K V) Table). x.1) ends in cc (goes, waits)

  below : (stands : Point) → LeadsOn p w.memory m2 end stands → end.1 ≡ Waits → ⊥
  below stands h = waiting h.0 h.1

  or_waits : (stands : Point) (Other : Type 0) → WaitsFor p w.memory m2 end Other ⊎ LeadsOn p w.memory m2 end stands → end.1 ≡ Waits → Other
  or_waits stands Other (inl h) waits = h.1
  or_waits stands Other (inr h) waits = absurd (below stands h waits)

  -- a making of a table never waits
  grown_waits : (word code : ℕ) (w2 : World (Node K V)) (c2 : Chart K) (blocks2 : Blocks) (b t : ℕ) (made : NewTable × Advance Table) → end ≡ grown p word code made
      → NewTableOutcome w2 caller setting c2 blocks2 (Word b NEXT) (suc t) made → end.1 ≡ Waits → ⊥
  grown_waits word code w2 c2 blocks2 b t (making, progress.Goes) ends told = waiting (standing p (at.Grows word code making)) ends
  grown_waits word code w2 c2 blocks2 b t (making, progress.Waits) ends told = absurd told
  grown_waits word code w2 c2 blocks2 b t (making, progress.Done table) ends told = waiting (probing p word code table) ends
  grown_waits word code w2 c2 blocks2 b t (making, progress.Refused fault) ends told = waiting (refusing p word fault) ends

  module _ (is : p.setting ≡ setting) where
    awaits_at : (stands : Point) → CopyingFacts same hash w caller setting c blocks p stands → (IsRowOfCopier stands → ⊥)
        → Steps Took value_at w.memory (plan_at hash p stands) m2 end → end.1 ≡ Waits → Awaits stands
    awaits_at at.Begins f none s = below at.Begins (leads_begins p w.memory m2 end s)
    awaits_at at.Follows f none s = below at.Follows (leads_follows p w.memory m2 end s)
    awaits_at at.Asks f none s = or_waits at.Asks (AwaitsStatus p w.memory m2 end) (leads_asks p w.memory m2 end f.5 s)
    awaits_at at.Sees f none s = below at.Sees (leads_sees p w.memory m2 end s)
    awaits_at at.Claims f none s = below at.Claims (leads_claims p w.memory m2 end s)
    awaits_at at.Marks f none s = or_waits at.Marks (AwaitsPlace p w.memory m2 end) (leads_marks p w.memory m2 end hash s)
    awaits_at (at.Probes word code table probe) f none s =
        let h = comes_probes same hash setting w caller c blocks map p word code table probe f is bits m2 end s in waiting h.1 h.2
    awaits_at (at.Puts word code table probe) f none s =
        elim (exchanged w.memory (after_put p word code table probe) (at_place table probe.i) 0 (copied_word p word) m2 end s) as (λ _. end.1 ≡ Waits → ⊥) [
          | inl d ↦ waiting (pair_put p word) d.3
          | inr d ↦ waiting (next_try p word code table probe) d.3
        ]
    awaits_at (at.Covers word) f none s = below (at.Covers word) (leads_covers p w.memory m2 end word s)
    awaits_at (at.Passes word code table) f none s =
        let h = comes_passes same hash setting w caller c blocks map p word code table f bits initial_is is m2 end s in waiting h.1 h.2
    awaits_at (at.Grows word code making) f none s =
        let g = went_grown same hash setting w caller c blocks map p word code making f initial_is lawful is m2 end s in
        grown_waits word code g.w2 g.c2 g.blocks2 (blocks.table f.2) f.2 g.told.3 g.told.4 g.told.7
    awaits_at at.Aborts f none s = absurd f
    awaits_at at.Replaces f none s = absurd f
    awaits_at (at.Remakes making) f none s = absurd f
    awaits_at at.Counts f none s = below at.Counts (leads_counts p w.memory m2 end s)
    awaits_at (at.Tallies word fault) f none s = below (at.Tallies word fault) (leads_tallies p w.memory m2 end word fault s)
    awaits_at (at.Unmarks word fault) f none s = below (at.Unmarks word fault) (leads_unmarks p w.memory m2 end word fault s)
    awaits_at (at.Unclaims fault) f none s = below (at.Unclaims fault) (leads_unclaims p w.memory m2 end fault s)
    awaits_at at.Promotes f none s = below at.Promotes (leads_promotes p w.memory m2 end s)
    awaits_at at.Announces f none s = below at.Announces (leads_announces p w.memory m2 end s)
    awaits_at (at.Succeeds table) f none s = below (at.Succeeds table) (leads_succeeds p w.memory m2 end table s)
    awaits_at (at.Retires settle rest) f none s = absurd (none tt)
    awaits_at at.Over f none s = λ waits. let done = ap (λ (x : Copier × Yielding (Node K V) Table). x.1) s.1 in cc (done, waits)
    awaits_at (at.Refused fault) f none s = λ waits. let refused = ap (λ (x : Copier × Yielding (Node K V) Table). x.1) s.1 in cc (refused, waits)

    -- a copier of a whole table waits, if any does
    awaits_whole : (stands : Point) → CopyingFacts same hash w caller setting c blocks p stands → Awaits stands → p.whole ≡ true
    awaits_whole at.Asks f awaits = f.6
    awaits_whole at.Marks f awaits = awaited_whole p.whole awaits.0 awaits.3
    awaits_whole at.Begins f awaits = absurd awaits
    awaits_whole at.Follows f awaits = absurd awaits
    awaits_whole at.Sees f awaits = absurd awaits
    awaits_whole at.Claims f awaits = absurd awaits
    awaits_whole (at.Probes word code table probe) f awaits = absurd awaits
    awaits_whole (at.Puts word code table probe) f awaits = absurd awaits
    awaits_whole (at.Covers word) f awaits = absurd awaits
    awaits_whole (at.Passes word code table) f awaits = absurd awaits
    awaits_whole (at.Grows word code making) f awaits = absurd awaits
    awaits_whole at.Aborts f awaits = absurd awaits
    awaits_whole at.Replaces f awaits = absurd awaits
    awaits_whole (at.Remakes making) f awaits = absurd awaits
    awaits_whole at.Counts f awaits = absurd awaits
    awaits_whole (at.Tallies word fault) f awaits = absurd awaits
    awaits_whole (at.Unmarks word fault) f awaits = absurd awaits
    awaits_whole (at.Unclaims fault) f awaits = absurd awaits
    awaits_whole at.Promotes f awaits = absurd awaits
    awaits_whole at.Announces f awaits = absurd awaits
    awaits_whole (at.Succeeds table) f awaits = absurd awaits
    awaits_whole (at.Retires settle rest) f awaits = absurd awaits
    awaits_whole at.Over f awaits = absurd awaits
    awaits_whole (at.Refused fault) f awaits = absurd awaits

    -- one that is alone awaits nothing
    awaits_none : (stands : Point) → CopyingFacts same hash w caller setting c blocks p stands → OthersIdle caller c → AloneAt c p stands → Awaits stands → ⊥
    awaits_none at.Asks f idle alone awaits = awaits_no_status same hash caller setting w c blocks map bits idle p is m2 end alone.0 alone.1 f awaits
    awaits_none at.Marks f idle alone awaits = awaits_no_place same hash caller setting w c blocks map bits idle p is m2 end fits f awaits
    awaits_none at.Begins f idle alone awaits = awaits
    awaits_none at.Follows f idle alone awaits = awaits
    awaits_none at.Sees f idle alone awaits = awaits
    awaits_none at.Claims f idle alone awaits = awaits
    awaits_none (at.Probes word code table probe) f idle alone awaits = awaits
    awaits_none (at.Puts word code table probe) f idle alone awaits = awaits
    awaits_none (at.Covers word) f idle alone awaits = awaits
    awaits_none (at.Passes word code table) f idle alone awaits = awaits
    awaits_none (at.Grows word code making) f idle alone awaits = awaits
    awaits_none at.Aborts f idle alone awaits = awaits
    awaits_none at.Replaces f idle alone awaits = awaits
    awaits_none (at.Remakes making) f idle alone awaits = awaits
    awaits_none at.Counts f idle alone awaits = awaits
    awaits_none (at.Tallies word fault) f idle alone awaits = awaits
    awaits_none (at.Unmarks word fault) f idle alone awaits = awaits
    awaits_none (at.Unclaims fault) f idle alone awaits = awaits
    awaits_none at.Promotes f idle alone awaits = awaits
    awaits_none at.Announces f idle alone awaits = awaits
    awaits_none (at.Succeeds table) f idle alone awaits = awaits
    awaits_none (at.Retires settle rest) f idle alone awaits = awaits
    awaits_none at.Over f idle alone awaits = awaits
    awaits_none (at.Refused fault) f idle alone awaits = awaits

  module _ (f : CopierFacts same hash w caller setting c blocks p) (none : IsRowOfCopier p.stands → ⊥) (s : Steps Took value_at w.memory (copier_plan hash p) m2 end) where
    -- only a copier of a whole table waits
    pub waits_whole : end.1 ≡ Waits → p.whole ≡ true
    waits_whole waits = awaits_whole f.setting_is p.stands f.point (awaits_at f.setting_is p.stands f.point none s waits)

    -- a helper never waits
    pub helper_goes : p.whole ≡ false → end.1 ≢ Waits
    helper_goes part waits = let whole = waits_whole waits in cc (part, whole)

    -- and nor does one that is alone
    pub alone_goes : FactsAlone c caller p → end.1 ≢ Waits
    alone_goes alone waits = awaits_none f.setting_is p.stands f.point alone.idle alone.point (awaits_at f.setting_is p.stands f.point none s waits)
