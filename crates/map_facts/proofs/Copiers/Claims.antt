-- A copier, in incremental mode, comes to a chunk: its reads of the status and of the claim, and the chunk that it claims.
use Rattle.std.specs.Prelude.{Some, if◌then◌else◌, ◌==◌, nat_lt}
use Rattle.std.proofs.Common.{◌≡◌, ◌≢◌, ℕ, suc, ◌+◌, ◌%◌, ◌^◌, Bool, true, false, ◌⊎◌, inl, inr, refl, ap, sym, subst, ◌∙◌, arith}
use Rattle.std.proofs.lemmas.Bool.{ne_eqb, ltb-true}
use Rattle.map_rule.specs.Given.SeizeWordsDeclared.at.At.{At}
use Rattle.map_rule.specs.Given.SeizeWordsMem.{Mem, Can, Took, value_at, word_at, with_word}
use Rattle.map_rule.specs.Given.SeizeWordsOp.{Add, Found}
use Rattle.map_rule.specs.Given.SeizeWordsPlan.{May, Steps, Ends, Now}
use Rattle.map_rule.proofs.Given.SeizeWordsOneOwner.Operations.{may_load, may_add, loaded, added}
use Rattle.map_rule.proofs.Given.SeizeWordsPlans.{see_if}
use Rattle.papaya_raw.specs.Given.SeizeWorld.{World}
use Rattle.papaya_raw.specs.Given.TablesChunks.{is_incremental}
use Rattle.map_rule.specs.Given.ResizeCopierClaims.{asks, sees, claims, status_read, claim_read, claimed, chunk, range_claimed, to}
use Rattle.map_rule.specs.Given.ResizeCopierStates.{standing}
use Rattle.papaya_raw.specs.Given.TablesTablePlaces.{at_word}
use Rattle.papaya_raw.specs.Given.TablesDeclared.node.Node.{Node}
use Rattle.papaya_raw.specs.Given.TablesDeclared.status.TheConstants.Status.{ABORTED, PROMOTED}
use Rattle.papaya_raw.specs.Given.TablesDeclared.table.Table.{Table}
use Rattle.papaya_raw.specs.Given.TablesDeclared.table_words.TheConstants.{CLAIM, STATUS}
use Rattle.map_rule.specs.Given.ResizeDeclared.yielding.Yielding.{Yielding}
use Rattle.map_rule.specs.Given.ResizeDeclared.yielding.Yielding.TheVariants.{Goes, Waits}
use Rattle.papaya_raw.specs.Given.TablesDeclared.setting.Setting.{Setting}
use Rattle.map_rule.specs.Given.ResizeDeclared.copier.Copier.{Copier}
use Rattle.map_rule.specs.Given.ResizeDeclared.copier.Copying.TheVariants as at
use Rattle.map_rule.specs.Chart.{Chart, put}
use Rattle.map_rule.specs.Rule.{IsLawful}
use Rattle.map_rule.specs.Moves.{Reclaims}
use Rattle.map_rule.specs.Words.{Blocks, Represents}
use Rattle.map_rule.specs.Maps.{spot_of, IsTable}
use Rattle.map_rule.specs.InWorld.{IsMapIn}
use Rattle.map_facts.specs.FactsCopies.{CopyingFacts, InRange}
use Rattle.map_facts.specs.Told.{CopierOutcome}
use Rattle.map_rule.proofs.Shares.CopiersMoves.{table_beside}
use Rattle.map_facts.proofs.Copiers.CopiersWrote.{CopierPlain, copier_still, hands_words, copier_wrote}
use Rattle.map_rule.proofs.Words.TablesSeen.{claim_there, status_there, len_is, word_stands}
use Rattle.map_rule.proofs.World.WentIncremental.{rule_incremental}
use Rattle.map_rule.proofs.Words.WritesTables.{claim_written}
use Rattle.map_rule.proofs.Words.OwnWords.{own_at_word}
use Rattle.map_rule.proofs.Given.General.{some_is as is_some_of}

module _ {K V : Type 0} (same : K → K → Bool) (hash : K → ℕ) (caller : ℕ) (setting : Setting) (w : World (Node K V)) (c : Chart K) (blocks : Blocks)
    (map : IsMapIn same hash setting w c blocks) (p : Copier) (is : p.setting ≡ setting) where
  module _ (bits : is_incremental setting.mode ≡ true) (f : CopyingFacts same hash w caller setting c blocks p at.Asks) where
    pub may_asks : May Can Took value_at w.memory (asks p)
    may_asks = may_load w.memory (status_read p) (at_word p.target STATUS)
        (is_some_of _ _ (status_there hash w.memory c blocks setting.root map.map.shows p.target (suc f.0) f.1.1))
        (λ status read. see_if (value_at w.memory) (status == PROMOTED) _ _ (λ is. tt)
        (λ other. see_if (value_at w.memory) (status == ABORTED) _ _ (λ is. tt) (λ live. see_if (value_at w.memory) p.spent _ _ (λ is. tt) (λ still. tt))))

    pub went_asks : p.stands ≡ at.Asks → (m2 : Mem (Node K V)) (end : Copier × Yielding (Node K V) Table) → Steps Took value_at w.memory (asks p) m2 end → CopierPlain same hash caller setting w c blocks m2 end
    went_asks stands m2 end steps =
        let s = loaded w.memory (status_read p) (at_word p.target STATUS) m2 end steps in
        copier_still same hash caller setting w c blocks map m2 s.2 end
        (told (pick (s.0 == PROMOTED) (s.0 == ABORTED) p.spent (ne_eqb s.0 ABORTED (not_aborted s.0 s.1)) f.5 s.3))
      where
        not_aborted : (status : ℕ) → word_at w.memory (at_word p.target STATUS) ≡ Some status → status ≢ ABORTED
        not_aborted status read e =
            let there = status_there hash w.memory c blocks setting.root map.map.shows p.target (suc f.0) f.1.1 in
            let never = (rule_incremental same hash setting w c blocks map bits).in_mode.never_aborted (suc f.0) in
            never (cc (read, there, e))

        pick : (a b s : Bool) → b ≡ false → s ≡ true
            → Ends (value_at w.memory)
            (if a then to (standing p at.Over) else (if b then to (record p { spent = false; stands = at.Replaces }) else (if s then Now (p, Waits) else to (standing p at.Sees)))) end
            → (end ≡ (standing p at.Over, Goes)) ⊎ (end ≡ (p, Waits))
        pick true b s live all e = inl e
        pick false true s live all e = absurd (cc live)
        pick false false true live all e = inr e
        pick false false false live all e = absurd (cc all)

        told : (end ≡ (standing p at.Over, Goes)) ⊎ (end ≡ (p, Waits)) → CopierOutcome w caller setting c blocks same hash end
        told (inl e) = subst (CopierOutcome w caller setting c blocks same hash) (sym e) (record { setting_is = is; point = (f.3, f.4) })
        told (inr e) = subst (CopierOutcome w caller setting c blocks same hash) (sym e) (f.6, record { setting_is = is; point = subst (CopyingFacts same hash w caller setting c blocks p) (sym stands) f })

  module _ (f : CopyingFacts same hash w caller setting c blocks p at.Sees) where
    pub may_sees : May Can Took value_at w.memory (sees p)
    may_sees = may_load w.memory (claim_read p) (at_word p.target CLAIM)
        (is_some_of _ _ (claim_there hash w.memory c blocks setting.root map.map.shows p.target (suc f.0) f.1.1))
        (λ claim read. see_if (value_at w.memory) (nat_lt claim p.source.len) _ _ (λ some. tt) (λ none. tt))

    pub went_sees : (m2 : Mem (Node K V)) (end : Copier × Yielding (Node K V) Table) → Steps Took value_at w.memory (sees p) m2 end → CopierPlain same hash caller setting w c blocks m2 end
    went_sees m2 end steps =
        let s = loaded w.memory (claim_read p) (at_word p.target CLAIM) m2 end steps in
        copier_still same hash caller setting w c blocks map m2 s.2 end (told (pick (nat_lt s.0 p.source.len) p.whole f.5 s.3))
      where
        pick : (a b : Bool) → b ≡ false
            → Ends (value_at w.memory) (if a then to (standing p at.Claims) else to (if b then record p { spent = true; stands = at.Asks } else standing p at.Over)) end
            → (end ≡ (standing p at.Claims, Goes)) ⊎ (end ≡ (standing p at.Over, Goes))
        pick true b part e = inl e
        pick false true part e = absurd (cc part)
        pick false false part e = inr e

        told : (end ≡ (standing p at.Claims, Goes)) ⊎ (end ≡ (standing p at.Over, Goes)) → CopierOutcome w caller setting c blocks same hash end
        told (inl e) = subst (CopierOutcome w caller setting c blocks same hash) (sym e) (record { setting_is = is; point = f })
        told (inr e) = subst (CopierOutcome w caller setting c blocks same hash) (sym e) (record { setting_is = is; point = (f.3, f.4) })

  module _ (f : CopyingFacts same hash w caller setting c blocks p at.Claims) where
    claim_word : word_at w.memory (at_word p.target CLAIM) ≡ Some (c.claim (suc f.0))
    claim_word = claim_there hash w.memory c blocks setting.root map.map.shows p.target (suc f.0) f.1.1

    pub may_claims : May Can Took value_at w.memory (claims p)
    may_claims = may_add w.memory (claimed p) (at_word p.target CLAIM) (chunk p) (is_some_of _ _ claim_word)
        (λ claim read. see_if _ (nat_lt claim p.source.len) _ _ (λ some. tt) (λ none. tt))

    pub went_claims : IsLawful same (spot_of hash) → is_incremental setting.mode ≡ true
        → (m2 : Mem (Node K V)) (end : Copier × Yielding (Node K V) Table) → Steps Took value_at w.memory (claims p) m2 end → CopierPlain same hash caller setting w c blocks m2 end
    went_claims lawful bits m2 end steps =
        let s = added w.memory (claimed p) (at_word p.target CLAIM) (chunk p) m2 end steps in
        wrote ((s.0 + chunk p) % 2 ^ 64) s.0 s.1 s.2 refl (pick (with_word w.memory (at_word p.target CLAIM) ((s.0 + chunk p) % 2 ^ 64)) s.0 (nat_lt s.0 p.source.len) p.whole f.5 s.3)
      where
        pick : (m : Mem (Node K V)) (claim : ℕ) (a b : Bool) → b ≡ false
            → Ends (value_at m) (if a then to (range_claimed p claim) else to (if b then record p { spent = true; stands = at.Asks } else standing p at.Over)) end
            → ((a ≡ true) × (end ≡ (range_claimed p claim, Goes))) ⊎ (end ≡ (standing p at.Over, Goes))
        pick m claim true b part e = inl (refl, e)
        pick m claim false true part e = absurd (cc part)
        pick m claim false false part e = inr e

        entered : (word : ℕ) (table : Table) (t : ℕ) → IsTable c blocks table t → IsTable (record c { claim = put c.claim (suc f.0) word }) blocks table t
        entered word = table_beside c c.place c.share (put c.claim (suc f.0) word) c.copied blocks

        in_range : (claim : ℕ) → nat_lt claim p.source.len ≡ true → InRange same hash w caller setting c blocks (range_claimed p claim) f.0
        in_range claim below =
            let len = len_is hash w.memory c blocks setting.root map.map.shows p.source f.0 f.1.0 in
            let l = ltb-true claim p.source.len below in
            (omega (arith, l, len), omega (arith, l, len), λ all. absurd (let part = f.5 in cc))

        told : (word claim : ℕ) → ((nat_lt claim p.source.len ≡ true) × (end ≡ (range_claimed p claim, Goes))) ⊎ (end ≡ (standing p at.Over, Goes))
            → CopierOutcome (record w { memory = with_word w.memory (at_word p.target CLAIM) word }) caller setting (record c { claim = put c.claim (suc f.0) word }) blocks same hash end
        told word claim (inl e) =
            subst (CopierOutcome (record w { memory = with_word w.memory (at_word p.target CLAIM) word }) caller setting (record c { claim = put c.claim (suc f.0) word }) blocks same hash) (sym e.1)
            (record {
              setting_is = is;
              point = (f.0, (entered word p.source f.0 f.1.0, entered word p.target (suc f.0) f.1.1, f.1.2, f.1.3), f.2 ∙ f.3, f.4, in_range claim e.0, λ all. absurd (let part = f.5 in cc));
            })
        told word claim (inr e) =
            subst (CopierOutcome (record w { memory = with_word w.memory (at_word p.target CLAIM) word }) caller setting (record c { claim = put c.claim (suc f.0) word }) blocks same hash) (sym e)
            (record { setting_is = is; point = (f.3, f.4) })

        wrote : (word claim : ℕ) → word_at w.memory (at_word p.target CLAIM) ≡ Some claim → m2 ≡ with_word w.memory (at_word p.target CLAIM) word → word ≡ (claim + chunk p) % 2 ^ 64
            → ((nat_lt claim p.source.len ≡ true) × (end ≡ (range_claimed p claim, Goes))) ⊎ (end ≡ (standing p at.Over, Goes)) → CopierPlain same hash caller setting w c blocks m2 end
        wrote word claim read e sum either =
            copier_wrote same hash caller setting w c blocks map bits lawful (Add (at_word p.target CLAIM) (chunk p)) (Found claim) (at_word p.target CLAIM) word
            (own_at_word same hash setting w c blocks map caller p.target (suc f.0) CLAIM f.1.1 (omega arith)) (is_some_of _ _ claim_word) m2 read e
            (ap (with_word w.memory (at_word p.target CLAIM)) sum) (Reclaims (suc f.0) word) tt f.1.1.known
            (refl, f.1.1.made)
            (subst (λ (a : At). Represents hash (with_word w.memory a word) (record c { claim = put c.claim (suc f.0) word }) blocks setting.root)
            (sym (word_stands hash w.memory c blocks setting.root map.map.shows p.target (suc f.0) f.1.1 CLAIM))
            (claim_written hash w.memory c blocks setting.root map.map.shows (suc f.0) word f.1.1.made f.1.1.known))
            refl
            (hands_words same hash caller setting w c blocks map c.share (put c.claim (suc f.0) word) c.copied)
            refl end (told word claim either)
