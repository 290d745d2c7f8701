-- A copier, in incremental mode, that is refused sets the claim to 0, so that others come to its place again.
use Rattle.std.specs.Prelude.{Some}
use Rattle.std.proofs.Common.{◌≡◌, ℕ, suc, Bool, true, refl, sym, subst, arith}
use Rattle.map_rule.specs.Given.SeizeWordsDeclared.at.At.{At}
use Rattle.map_rule.specs.Given.SeizeWordsDeclared.fault.Fault.{Fault}
use Rattle.map_rule.specs.Given.SeizeWordsMem.{Mem, Can, Took, value_at, word_at, with_word}
use Rattle.map_rule.specs.Given.SeizeWordsOp.{Store, Stored}
use Rattle.map_rule.specs.Given.SeizeWordsPlan.{May, Steps}
use Rattle.map_rule.proofs.Given.SeizeWordsOneOwner.Operations.{may_store, stored}
use Rattle.papaya_raw.specs.Given.SeizeWorld.{World}
use Rattle.papaya_raw.specs.Given.TablesChunks.{is_incremental}
use Rattle.map_rule.specs.Given.ResizeCopierCounts.{unclaims, given_up, to}
use Rattle.papaya_raw.specs.Given.TablesTablePlaces.{at_word}
use Rattle.papaya_raw.specs.Given.TablesDeclared.node.Node.{Node}
use Rattle.papaya_raw.specs.Given.TablesDeclared.table.Table.{Table}
use Rattle.papaya_raw.specs.Given.TablesDeclared.table_words.TheConstants.{CLAIM}
use Rattle.map_rule.specs.Given.ResizeDeclared.yielding.Yielding.{Yielding}
use Rattle.papaya_raw.specs.Given.TablesDeclared.setting.Setting.{Setting}
use Rattle.map_rule.specs.Given.ResizeDeclared.copier.Copier.{Copier}
use Rattle.map_rule.specs.Given.ResizeDeclared.copier.Copying.TheVariants as at
use Rattle.map_rule.specs.Chart.{Chart, put}
use Rattle.map_rule.specs.Rule.{IsLawful}
use Rattle.map_rule.specs.Moves.{Reclaims}
use Rattle.map_rule.specs.Words.{Blocks, Represents}
use Rattle.map_rule.specs.Maps.{spot_of}
use Rattle.map_rule.specs.InWorld.{IsMapIn}
use Rattle.map_facts.specs.FactsCopies.{CopyingFacts}
use Rattle.map_facts.specs.Told.{CopierOutcome}
use Rattle.map_facts.proofs.Copiers.CopiersWrote.{CopierPlain, hands_words, copier_wrote}
use Rattle.map_rule.proofs.Words.TablesSeen.{claim_there, word_stands}
use Rattle.map_rule.proofs.Words.WritesTables.{claim_written}
use Rattle.map_rule.proofs.Words.OwnWords.{own_at_word}
use Rattle.map_rule.proofs.Given.General.{some_is as is_some_of}

module _ {K V : Type 0} (same : K → K → Bool) (hash : K → ℕ) (caller : ℕ) (setting : Setting) (w : World (Node K V)) (c : Chart K) (blocks : Blocks)
    (map : IsMapIn same hash setting w c blocks) (p : Copier) (is : p.setting ≡ setting) (fault : Fault)
    (f : CopyingFacts same hash w caller setting c blocks p (at.Unclaims fault)) where
  claim_word : word_at w.memory (at_word p.target CLAIM) ≡ Some (c.claim (suc f.0))
  claim_word = claim_there hash w.memory c blocks setting.root map.map.shows p.target (suc f.0) f.1.1

  pub may_unclaims : May Can Took value_at w.memory (unclaims p fault)
  may_unclaims = may_store w.memory (λ out. to (given_up p fault)) (at_word p.target CLAIM) 0 (is_some_of _ _ claim_word) tt

  pub went_unclaims : IsLawful same (spot_of hash) → is_incremental setting.mode ≡ true
      → (m2 : Mem (Node K V)) (end : Copier × Yielding (Node K V) Table) → Steps Took value_at w.memory (unclaims p fault) m2 end → CopierPlain same hash caller setting w c blocks m2 end
  went_unclaims lawful bits m2 end steps =
      let s = stored w.memory (λ out. to (given_up p fault)) (at_word p.target CLAIM) 0 m2 end steps in
      copier_wrote same hash caller setting w c blocks map bits lawful (Store (at_word p.target CLAIM) 0) Stored (at_word p.target CLAIM) 0
      (own_at_word same hash setting w c blocks map caller p.target (suc f.0) CLAIM f.1.1 (omega arith)) (is_some_of _ _ claim_word) m2 tt s.0 refl (Reclaims (suc f.0) 0) tt f.1.1.known
      (refl, f.1.1.made)
      (subst (λ (a : At). Represents hash (with_word w.memory a 0) (record c { claim = put c.claim (suc f.0) 0 }) blocks setting.root)
      (sym (word_stands hash w.memory c blocks setting.root map.map.shows p.target (suc f.0) f.1.1 CLAIM))
      (claim_written hash w.memory c blocks setting.root map.map.shows (suc f.0) 0 f.1.1.made f.1.1.known))
      refl
      (hands_words same hash caller setting w c blocks map c.share (put c.claim (suc f.0) 0) c.copied)
      refl end
      (subst (CopierOutcome (record w { memory = with_word w.memory (at_word p.target CLAIM) 0 }) caller setting (record c { claim = put c.claim (suc f.0) 0 }) blocks same hash) (sym s.1)
      (record { setting_is = is; point = (f.3, f.4) }))
