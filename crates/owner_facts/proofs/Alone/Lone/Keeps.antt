-- In incremental mode, a copier that is alone stays so with each of its steps that is no row of the collector, and at its end.
use Rattle.std.specs.Int.{IsPowerOfTwo}
use Rattle.std.proofs.Common.{◌≡◌, ◌≢◌, ℕ, suc, ◌<◌, Bool, true, false, ◌⊎◌, inl, inr, ap, sym, subst, arith}
use Rattle.many_maps.specs.Given.SeizeWordsMem.{Mem, value_at, Took}
use Rattle.many_maps.specs.Given.SeizeWordsPlan.{Steps}
use Rattle.many_maps.proofs.Given.SeizeWordsOneOwner.Operations.{exchanged}
use Rattle.many_maps.proofs.Given.SeizeRuleRows.Leaving.{steps_back}
use Rattle.many_maps.specs.Given.SeizeWorld.{World}
use Rattle.many_maps.specs.Given.TablesChunks.{is_incremental}
use Rattle.many_maps.specs.Given.ResizeCopier.{plan_at}
use Rattle.many_maps.specs.Given.ResizeCopierFurther.{grown}
use Rattle.many_maps.specs.Given.ResizeCopierMarks.{probing}
use Rattle.many_maps.specs.Given.ResizeCopierPlaces.{after_put, copied_word, next_try, pair_put}
use Rattle.many_maps.specs.Given.ResizeCopierStates.{standing}
use Rattle.many_maps.specs.Given.ResizeNewTable.{table_after, new_table_plan}
use Rattle.many_maps.specs.Given.TablesTablePlaces.{at_place}
use Rattle.many_maps.specs.Given.TablesDeclared.lengths.Reason.TheVariants.{NoPlace}
use Rattle.many_maps.specs.Given.TablesDeclared.node.Node.{Node}
use Rattle.many_maps.specs.Given.ResizeDeclared.yielding.Yielding.{Yielding}
use Rattle.many_maps.specs.Given.ResizeDeclared.yielding.Yielding.TheVariants.{Goes}
use Rattle.many_maps.specs.Given.ResizeDeclared.yielding.Yielding.TheVariants as outcome
use Rattle.many_maps.specs.Given.TablesDeclared.setting.Setting.{Setting}
use Rattle.many_maps.specs.Given.TablesDeclared.table.Table.{Table}
use Rattle.many_maps.specs.Given.ResizeDeclared.copier.Copier.{Copier}
use Rattle.many_maps.specs.Given.ResizeDeclared.copier.Copying.{Copying as Point}
use Rattle.many_maps.specs.Given.ResizeDeclared.copier.Copying.TheVariants as at
use Rattle.many_maps.specs.Given.RuleChart.{Chart, Empty}
use Rattle.many_maps.specs.Given.RuleWords.{Blocks}
use Rattle.many_maps.specs.Given.RuleMaps.{IsTable}
use Rattle.many_maps.specs.Given.RuleInWorld.{IsMapIn}
use Rattle.many_maps.specs.Given.PointsFactsCopies.{CopyingFacts}
use Rattle.many_maps.specs.Given.PointsMeasures.{OthersIdle}
use Rattle.many_maps.specs.Given.PointsTold.{CopierOutcome, IsRowOfCopier}
use Rattle.many_maps.specs.Given.PointsToldMoves.{MovedPlain, MovedAt}
use Rattle.many_maps.proofs.Given.PointsCopiers.Passes.{comes_passes}
use Rattle.many_maps.proofs.Given.PointsCopiers.Probes.{place_here, comes_probes}
use Rattle.owner_facts.specs.Alone.FactsAlone.{AllAnnounced, IsUncounted, AloneAt, FactsAlone}
use Rattle.owner_facts.proofs.Alone.Lone.CopierSteps.{AwaitsPlace, AwaitsStatus, leads_begins, leads_follows, leads_asks, leads_sees, leads_claims, leads_marks, leads_covers, leads_counts, leads_tallies, leads_unmarks, leads_unclaims, leads_promotes, leads_announces, leads_succeeds}
use Rattle.owner_facts.proofs.Alone.Lone.QuietPoints.{IsQuiet}
use Rattle.owner_facts.proofs.Alone.Lone.Steps.{quiet_next_try, quiet_pair_put, quiet_grown, quiet_kept, quiet_goes, quiet_waits, rooted, counts_kept, tallies_kept, promotes_kept, announces_kept, ends_kept}

module _ {K V : Type 0} (same : K → K → Bool) (hash : K → ℕ) (setting : Setting) (bits : is_incremental setting.mode ≡ true) (initial_is : IsPowerOfTwo setting.initial)
    (w : World (Node K V)) (caller : ℕ) (c : Chart K) (blocks : Blocks) (map : IsMapIn same hash setting w c blocks) (p : Copier) (is : p.setting ≡ setting)
    (idle : OthersIdle caller c) (m2 : Mem (Node K V)) (end : Copier × Yielding (Node K V) Table)
    (w2 : World (Node K V)) (c2 : Chart K) (blocks2 : Blocks) (map2 : IsMapIn same hash setting w2 c2 blocks2) where
  goes : (q : Copier) → end ≡ (q, Goes) → IsQuiet q.stands → IsQuiet end.0.stands
  goes q = quiet_goes same hash setting bits w caller c blocks map p idle m2 end w2 c2 blocks2 map2 q Goes

  -- it is alone still, and where it ends it has nothing to say of any table
  abbrev pub Kept : Type 0
  Kept = FactsAlone c2 caller end.0 × (end.1 ≢ Goes → IsQuiet end.0.stands)

  plain : IsQuiet end.0.stands → 0 < c.past → AllAnnounced c × IsUncounted c → MovedPlain hash caller c c2 → Kept
  plain quiet some alone moved = (
    quiet_kept same hash setting bits w caller c blocks map p idle m2 end w2 c2 blocks2 map2 quiet (rooted same hash setting bits w caller c blocks map p idle m2 end w2 c2 blocks2 map2 some) alone moved,
    λ ends. quiet,
  )

  further : (q : Copier) → end ≡ (q, Goes) → FactsAlone c2 caller end.0 → Kept
  further q on alone = (alone, λ ends. absurd (ends (ap (λ (x : Copier × Yielding (Node K V) Table). x.1) on)))

  last : (outcome : Yielding (Node K V) Table) → end ≡ (p, outcome) → IsQuiet p.stands → AllAnnounced c × IsUncounted c → c2 ≡ c → Kept
  last outcome ends quiet alone moved = (
    ends_kept same hash setting bits w caller c blocks map p idle m2 end w2 c2 blocks2 map2 outcome ends quiet alone moved,
    λ _. subst (λ (x : Copier × Yielding (Node K V) Table). IsQuiet x.0.stands) (sym ends) quiet,
  )

  pub kept_at : (stands : Point) → p.stands ≡ stands → CopyingFacts same hash w caller setting c blocks p stands → (IsRowOfCopier stands → ⊥)
      → Steps Took value_at w.memory (plan_at hash p stands) m2 end → AloneAt c p stands → CopierOutcome w2 caller setting c2 blocks2 same hash end
      → MovedAt hash caller c p stands end c2 → Kept
  kept_at at.Begins here f none s alone told moved =
      let h = leads_begins p w.memory m2 end s in plain (goes h.0 h.1 h.2) f.0 alone moved
  kept_at at.Follows here f none s alone told moved =
      let h = leads_follows p w.memory m2 end s in plain (goes h.0 h.1 h.2) (let made = f.6.made in omega arith) alone moved
  kept_at at.Asks here f none s alone told moved =
      plain (quiet_waits same hash setting bits w caller c blocks map p idle m2 end w2 c2 blocks2 map2 at.Asks (AwaitsStatus p w.memory m2 end) (λ h. goes h.0 h.1 h.2) (subst IsQuiet (sym here) tt) (leads_asks p w.memory m2 end f.5 s))
      (let made = f.1.1.made in omega arith) alone moved
  kept_at at.Sees here f none s alone told moved =
      let h = leads_sees p w.memory m2 end s in plain (goes h.0 h.1 h.2) (let made = f.1.1.made in omega arith) alone moved
  kept_at at.Claims here f none s alone told moved =
      let h = leads_claims p w.memory m2 end s in plain (goes h.0 h.1 h.2) (let made = f.1.1.made in omega arith) alone moved
  kept_at at.Marks here f none s alone told moved =
      plain (quiet_waits same hash setting bits w caller c blocks map p idle m2 end w2 c2 blocks2 map2 at.Marks (AwaitsPlace p w.memory m2 end) (λ h. goes h.0 h.1 h.2) (subst IsQuiet (sym here) tt) (leads_marks p w.memory m2 end hash s))
      (let made = f.1.1.made in omega arith) alone moved
  kept_at (at.Probes word code table probe) here f none s alone told moved =
      let h = comes_probes same hash setting w caller c blocks map p word code table probe f is bits m2 end s in
      plain (goes h.1 h.2 (either h.1 h.4)) (let made = f.4.copies.0.made in omega arith) alone moved
    where
      either : (q : Copier) → (q ≡ standing p (at.Puts word code table probe)) ⊎ ((place_here same hash setting w caller c blocks map p word code table probe f ≢ Empty false) × (q ≡ next_try p word code table probe))
          → IsQuiet q.stands
      either q (inl e) = subst (λ (x : Copier). IsQuiet x.stands) (sym e) tt
      either q (inr e) = subst (λ (x : Copier). IsQuiet x.stands) (sym e.1) (quiet_next_try p word code table probe)
  kept_at (at.Puts word code table probe) here f none s alone told moved =
      plain
      (elim (exchanged w.memory (after_put p word code table probe) (at_place table probe.i) 0 (copied_word p word) m2 end s) as (λ _. IsQuiet end.0.stands) [
        | inl d ↦ goes (pair_put p word) d.3 (quiet_pair_put p word)
        | inr d ↦ goes (next_try p word code table probe) d.3 (quiet_next_try p word code table probe)
      ])
      (let made = f.4.copies.0.made in omega arith) alone moved
  kept_at (at.Covers word) here f none s alone told moved =
      let h = leads_covers p w.memory m2 end word s in plain (goes h.0 h.1 h.2) (let made = f.2.copies.0.made in omega arith) alone moved
  kept_at (at.Passes word code table) here f none s alone told moved =
      let h = comes_passes same hash setting w caller c blocks map p word code table f bits initial_is is m2 end s in
      plain (goes h.1 h.2 (either h.1 h.4)) (let made = f.3.copies.0.made in omega arith) alone moved
    where
      either : (q : Copier) → (q ≡ standing p (at.Grows word code (table_after p.setting table NoPlace))) ⊎ ((further : Table) × IsTable c blocks further (suc f.2) × (q ≡ probing p word code further))
          → IsQuiet q.stands
      either q (inl e) = subst (λ (x : Copier). IsQuiet x.stands) (sym e) tt
      either q (inr e) = subst (λ (x : Copier). IsQuiet x.stands) (sym e.2) tt
  kept_at (at.Grows word code making) here f none s alone told moved =
      let b = steps_back (grown p word code) w.memory m2 (new_table_plan making) end s in
      plain (subst (λ (x : Copier × Yielding (Node K V) Table). IsQuiet x.0.stands) (sym b.2) (quiet_grown K V p word code b.0)) (let made = f.3.copies.0.made in omega arith) alone moved
  kept_at at.Aborts here f none s alone told moved = absurd f
  kept_at at.Replaces here f none s alone told moved = absurd f
  kept_at (at.Remakes making) here f none s alone told moved = absurd f
  kept_at at.Counts here f none s alone told moved =
      let h = leads_counts p w.memory m2 end s in further h.0 h.1 (counts_kept same hash setting bits w caller c blocks map p idle m2 end w2 c2 blocks2 map2 f alone moved s)
  kept_at (at.Tallies word fault) here f none s alone told moved =
      let h = leads_tallies p w.memory m2 end word fault s in further h.0 h.1 (tallies_kept same hash setting bits w caller c blocks map p idle m2 end w2 c2 blocks2 map2 word fault f alone.0 moved told s)
  kept_at (at.Unmarks word fault) here f none s alone told moved =
      let h = leads_unmarks p w.memory m2 end word fault s in plain (goes h.0 h.1 h.2) (let made = f.0.2.copies.0.made in omega arith) alone moved
  kept_at (at.Unclaims fault) here f none s alone told moved =
      let h = leads_unclaims p w.memory m2 end fault s in plain (goes h.0 h.1 h.2) (let made = f.1.1.made in omega arith) alone moved
  kept_at at.Promotes here f none s alone told moved =
      let h = leads_promotes p w.memory m2 end s in further h.0 h.1 (promotes_kept same hash setting bits w caller c blocks map p idle m2 end w2 c2 blocks2 map2 f alone moved)
  kept_at at.Announces here f none s alone told moved =
      let h = leads_announces p w.memory m2 end s in further h.0 h.1 (announces_kept same hash setting bits w caller c blocks map p idle m2 end w2 c2 blocks2 map2 alone moved (goes h.0 h.1 h.2))
  kept_at (at.Succeeds table) here f none s alone told moved =
      let h = leads_succeeds p w.memory m2 end table s in plain (goes h.0 h.1 h.2) (let made = f.0.2.made in omega arith) alone moved
  kept_at (at.Retires settle rest) here f none s alone told moved = absurd (none tt)
  kept_at at.Over here f none s alone told moved = last (outcome.Done p.target) s.1 (subst IsQuiet (sym here) tt) alone moved
  kept_at (at.Refused fault) here f none s alone told moved = last (outcome.Refused fault) s.1 (subst IsQuiet (sym here) tt) alone moved
