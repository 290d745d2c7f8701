-- A call whose lookup, or whose copier, takes a step in a table that the root has left.
use Rattle.std.specs.Prelude.{◌≡◌, ℕ, Bool, false, Option, Some, None, ◌⊎◌}
use Rattle.std.proofs.Common.{inl, inr, refl, subst, sym}
use Rattle.map_facts.specs.Given.SeizeWordsMem.{Mem, value_at, Took}
use Rattle.map_facts.specs.Given.SeizeWordsPlan.{Steps}
use Rattle.map_facts.proofs.Given.SeizeRuleRows.Leaving.{steps_back}
use Rattle.map_facts.specs.Given.SeizeWorld.{World}
use Rattle.map_facts.specs.Given.SeizeDeclared.advance.Advance.{Advance}
use Rattle.map_facts.specs.Given.SeizeDeclared.advance.Advance.TheVariants as progress
use Rattle.map_facts.specs.Given.TablesChunks.{is_incremental}
use Rattle.map_facts.specs.Given.TablesDeclared.node.Node.{Node}
use Rattle.map_facts.specs.Given.TablesDeclared.setting.Setting.{Setting}
use Rattle.map_facts.specs.Given.TablesDeclared.table.Table.{Table}
use Rattle.map_facts.specs.Given.ResizeCopier.{copier_plan}
use Rattle.map_facts.specs.Given.ResizeLookup.{lookup_plan}
use Rattle.map_facts.specs.Given.ResizeDeclared.copier.Copier.{Copier}
use Rattle.map_facts.specs.Given.ResizeDeclared.copier.Copying.{Copying as Point}
use Rattle.map_facts.specs.Given.ResizeDeclared.copier.Copying.TheVariants as copies_at
use Rattle.map_facts.specs.Given.ResizeDeclared.lookup.Lookup.{Lookup}
use Rattle.map_facts.specs.Given.ResizeDeclared.yielding.Yielding.{Yielding}
use Rattle.map_facts.specs.Given.ResizeDeclared.yielding.Yielding.TheVariants as outcome
use Rattle.map_facts.specs.Given.RawCall.{looks_for, looked, looks, copied, copies}
use Rattle.map_facts.specs.Given.RawDeclared.machines.answer.KeyAnswer.TheVariants as answers
use Rattle.map_facts.specs.Given.RawDeclared.machines.answer.Called.{Called}
use Rattle.map_facts.specs.Given.RawDeclared.machines.call.KeyCall.{KeyCall}
use Rattle.map_facts.specs.Given.RawDeclared.machines.call.Calling.TheVariants as at
use Rattle.map_facts.specs.Given.RuleChart.{Chart}
use Rattle.map_facts.specs.Given.RuleRule.{IsLawful}
use Rattle.map_facts.specs.Given.RuleWords.{Blocks}
use Rattle.map_facts.specs.Given.RuleMaps.{spot_of}
use Rattle.map_facts.specs.Given.RuleInWorld.{IsMapIn, StepSpec, SparesPairs}
use Rattle.map_facts.proofs.Given.RuleWorld.WentTold.{went_as}
use Rattle.map_facts.specs.FactsCalls.{IsCopying, Unchanged, CallFacts}
use Rattle.map_facts.specs.FactsCopiesBlocking.{HasNoShares, CopierFactsBlocking}
use Rattle.map_facts.proofs.Calls.CallsOn.{Seeking}
use Rattle.map_facts.proofs.Calls.CallsWithin.{seeking_lasts, its_last}
use Rattle.map_facts.proofs.MovedLasts.{idle_in}
use Rattle.map_facts_late.specs.LateCalls.{Its, SupersededCalling, SupersededCallFacts}
use Rattle.map_facts_late.specs.LateCopies.{SupersededCopying, SupersededCopierFacts}
use Rattle.map_facts_late.specs.LateTold.{SupersededLookupOutcome, SupersededCopierAfter, SupersededCopierOutcome, SupersededCallOutcome}
use Rattle.map_facts_late.proofs.Calls.LatesOn.{LateComes, LateWent, told_late, goes_late, answers_at_once, refuses_late}
use Rattle.map_facts_late.proofs.Calls.Enters.{enters_told}

module _ {K V Q : Type 0} (same : K → K → Bool) (hash : K → ℕ) (asks : Q → K → Bool) (caller : ℕ) (setting : Setting) (alone : is_incremental setting.mode ≡ false) (keys : K → Bool) (began : ℕ)
    (w : World (Node K V)) (c : Chart K) (blocks : Blocks) (p : KeyCall K V Q) (s : Seeking same hash asks caller setting keys w c blocks p) where
  -- its lookup
  module _ (l : Lookup) (point : SupersededCalling same hash asks w caller setting c blocks keys began p (at.Looks l)) where
    looked_comes : (end : Lookup × Advance (Option ℕ)) → SupersededLookupOutcome same hash setting.mode setting.root keys p.hash c blocks began end
        → LateComes same hash asks caller setting alone keys began w c blocks (looked p end)
    looked_comes (next, progress.Goes) told =
        goes_late same hash asks caller setting alone keys began w c blocks p s p.trial (at.Looks next) (λ answer h. h) (point.0, point.1, point.2, point.3, point.4, point.5, told)
    looked_comes (next, progress.Waits) told = absurd told
    looked_comes (next, progress.Done (Some found)) told = answers_at_once same hash asks caller setting alone keys began w c blocks p s (answers.Found found) told
    looked_comes (next, progress.Done None) told = answers_at_once same hash asks caller setting alone keys began w c blocks p s answers.Absent told
    looked_comes (next, progress.Refused fault) told = absurd told

    pub went_looks : ((m2 : Mem (Node K V)) (end : Lookup × Advance (Option ℕ)) → Steps Took value_at w.memory (lookup_plan (asks point.3) l) m2 end
        → (m2 ≡ w.memory) × SupersededLookupOutcome same hash setting.mode setting.root keys p.hash c blocks began end)
        → (m2 : Mem (Node K V)) (end : KeyCall K V Q × Called (Node K V)) → Steps Took value_at w.memory (looks asks p l) m2 end
        → (m2 ≡ w.memory) × LateComes same hash asks caller setting alone keys began w c blocks end
    went_looks inner m2 end steps =
        let these : Steps Took value_at w.memory (looks_for asks p l (Some point.3)) m2 end = subst (λ (a : Option Q). Steps Took value_at w.memory (looks_for asks p l a) m2 end) point.4 steps in
        let d = steps_back (looked p) w.memory m2 (lookup_plan (asks point.3) l) end these in
        let told = inner m2 d.0 d.1 in
        (told.0, subst (λ (x : KeyCall K V Q × Called (Node K V)). LateComes same hash asks caller setting alone keys began w c blocks x) (sym d.2) (looked_comes d.0 told.1))

  -- its copier
  module _ (w2 : World (Node K V)) (c2 : Chart K) (blocks2 : Blocks) where
    none_at : (copier : Copier) (stands : Point) → SupersededCopying same hash w2 caller setting c2 blocks2 began copier stands → HasNoShares same hash w2 caller setting c2 blocks2
    none_at copier copies_at.Asks point = point.2.idle
    none_at copier copies_at.Sees point = point.2.idle
    none_at copier copies_at.Claims point = point.2.idle
    none_at copier copies_at.Marks point = point.2.0.idle
    none_at copier (copies_at.Probes word code table probe) point = point.5.copies.0.idle
    none_at copier (copies_at.Puts word code table probe) point = point.5.copies.0.idle
    none_at copier copies_at.Counts point = point.2.0.idle
    none_at copier copies_at.Aborts point = point.2.0.idle
    none_at copier copies_at.Replaces point = point.2.0.idle
    none_at copier (copies_at.Remakes making) point = point.2.0.idle
    none_at copier copies_at.Promotes point = point.2.idle
    none_at copier copies_at.Announces point = point.3.3
    none_at copier (copies_at.Succeeds table) point = point.2.3
    none_at copier (copies_at.Retires settle rest) point = point.2.3
    none_at copier copies_at.Over point = point.3
    none_at copier copies_at.Begins point = absurd point
    none_at copier copies_at.Follows point = absurd point
    none_at copier (copies_at.Covers word) point = absurd point
    none_at copier (copies_at.Passes word code table) point = absurd point
    none_at copier (copies_at.Grows word code making) point = absurd point
    none_at copier (copies_at.Tallies word fault) point = absurd point
    none_at copier (copies_at.Unmarks word fault) point = absurd point
    none_at copier (copies_at.Unclaims fault) point = absurd point
    none_at copier (copies_at.Refused fault) point = absurd point

    module _ (lawful : IsLawful same (spot_of hash)) (map2 : IsMapIn same hash setting w2 c2 blocks2) (spares : SparesPairs w w2) where
      own2 : Its same hash asks w2 caller setting c2 blocks2 keys began p
      own2 = its_last same hash asks caller setting keys w w2 c c2 blocks blocks2 spares p s.own

      seeks : HasNoShares same hash w2 caller setting c2 blocks2 → Seeking same hash asks caller setting keys w2 c2 blocks2 p
      seeks none = seeking_lasts same hash asks caller setting keys w w2 c c2 blocks blocks2 spares p (idle_in same hash w2 caller setting c2 blocks2 false alone none) s

      -- it goes on
      goes_there : (next : Copier) → CopierFactsBlocking same hash w2 caller setting c2 blocks2 next ⊎ SupersededCopierFacts same hash w2 caller setting c2 blocks2 began next
          → CallFacts same hash asks w2 caller setting c2 blocks2 keys Unchanged (record p { stands = at.Copies next })
          ⊎ SupersededCallFacts same hash asks w2 caller setting c2 blocks2 keys began (record p { stands = at.Copies next })
      goes_there next (inl fresh) = inl record {
        setting_is = s.setting_is;
        may = s.may;
        code = s.code;
        class = s.class;
        unchanged = λ h. refl;
        idle = λ h. absurd (h tt);
        point = (own2, alone, fresh);
      }
      goes_there next (inr late) = inr record {
        blocking = alone;
        setting_is = s.setting_is;
        may = s.may;
        code = s.code;
        class = s.class;
        idle = none_at next next.stands late.point;
        point = (own2, late);
      }

      copied_comes : (end : Copier × Yielding (Node K V) Table) → SupersededCopierAfter same hash caller setting began w2 c2 blocks2 end
          → LateComes same hash asks caller setting alone keys began w2 c2 blocks2 (copied p end)
      copied_comes (next, outcome.Goes) told = (goes_there next told, λ answer h. absurd h)
      copied_comes (next, outcome.Waits) told = (goes_there next (inr told), λ answer h. absurd h)
      copied_comes (next, outcome.Gave value) told = absurd told
      copied_comes (next, outcome.Done table) told =
          enters_told same hash asks caller setting alone keys began lawful w2 c2 blocks2 map2.map p (seeks told.1) table told.0.0 told.0.1 told.0.2
      copied_comes (next, outcome.Refused fault) told = refuses_late same hash asks caller setting alone keys began w2 c2 blocks2 p (seeks told) fault

  pub went_copies : IsLawful same (spot_of hash) → (copier : Copier) → IsCopying p.stands → (m2 : Mem (Node K V)) (end : KeyCall K V Q × Called (Node K V))
      → ((m2 : Mem (Node K V)) (end : Copier × Yielding (Node K V) Table) → Steps Took value_at w.memory (copier_plan hash copier) m2 end
      → StepSpec same hash setting caller w c blocks m2 (λ w2 c2 blocks2. SparesPairs w w2 × SupersededCopierOutcome same hash caller setting began w2 c2 blocks2 c end))
      → Steps Took value_at w.memory (copies hash p copier) m2 end → LateWent same hash asks caller setting alone keys began w c blocks p m2 end
  went_copies lawful copier copying m2 end inner steps =
      let d = steps_back (copied p) w.memory m2 (copier_plan hash copier) end steps in
      subst (λ (x : KeyCall K V Q × Called (Node K V)). LateWent same hash asks caller setting alone keys began w c blocks p m2 x) (sym d.2)
      (went_as same hash setting caller w c blocks m2
      (λ w2 c2 blocks2. SparesPairs w w2 × SupersededCopierOutcome same hash caller setting began w2 c2 blocks2 c d.0)
      (λ w2 c2 blocks2. SupersededCallOutcome same hash asks caller setting keys began c p w2 c2 blocks2 (copied p d.0).0 (copied p d.0).1)
      (λ w2 c2 blocks2 map2 moved same_blocks told.
      told_late same hash asks caller setting alone keys began w2 c2 blocks2 c p (copied p d.0) told.1.1 (λ other. absurd (other copying))
      (copied_comes w2 c2 blocks2 lawful map2 told.0 d.0 told.1.0))
      (inner m2 d.0 d.1))
