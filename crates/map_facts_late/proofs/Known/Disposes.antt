-- In incremental mode: what the disposal of a pair knows lasts over steps of others.
use Rattle.std.specs.Prelude.{◌≡◌, ℕ, ◌*◌, ◌<◌, Bool, true, false, cond}
use Rattle.std.proofs.Common.{ap, sym, subst, ◌∙◌, inl, inr, arith}
use Rattle.std.proofs.lemmas.Bool.{cases_lt}
use Rattle.map_facts.specs.Given.SeizeWorld.{World, Parting, Cutting}
use Rattle.map_facts.specs.Given.SeizeSettle.{retiring}
use Rattle.map_facts.specs.Given.SeizeDefer.{deferring}
use Rattle.map_facts.specs.Given.SeizeWordsDeclared.at.At.TheVariants.{Word}
use Rattle.map_facts.specs.Given.TablesChunks.{is_incremental}
use Rattle.map_facts.specs.Given.TablesDeclared.node.Node.{Node}
use Rattle.map_facts.specs.Given.TablesDeclared.setting.Setting.{Setting}
use Rattle.map_facts.specs.Given.TablesDeclared.table_words.TheConstants.{DEFERRED}
use Rattle.map_facts.specs.Given.ResizeDeclared.dispose.Dispose.{Dispose}
use Rattle.map_facts.specs.Given.ResizeDeclared.dispose.Disposing.{Disposing}
use Rattle.map_facts.specs.Given.ResizeDeclared.dispose.Disposing.TheVariants as disposes
use Rattle.map_facts.specs.Given.RuleChart.{Chart}
use Rattle.map_facts.specs.Given.RuleRule.{Rule}
use Rattle.map_facts.specs.Given.RuleWords.{Blocks}
use Rattle.map_facts.specs.Given.RuleMaps.{spot_of}
use Rattle.map_facts.specs.Given.RuleInWorld.{IsMapIn}
use Rattle.map_facts.specs.FactsDisposes.{HasLeft, LiesBefore, LiesNowhere, DisposingFacts, DisposeFacts}
use Rattle.map_facts.specs.Others.{OthersStep}
use Rattle.map_facts_late.proofs.Known.Pairs.{pair_block, left_here, parts_here, cuts_here}
use Rattle.map_facts_late.proofs.Known.Tables.{table_on, table_known_on, table_block_on}

module _ {K V : Type 0} (same : K → K → Bool) (hash : K → ℕ) (setting : Setting) (bits : is_incremental setting.mode ≡ true) (caller : ℕ) (w w2 : World (Node K V)) (c c2 : Chart K)
    (blocks blocks2 : Blocks) (map : IsMapIn same hash setting w c blocks) (map2 : IsMapIn same hash setting w2 c2 blocks2) (others : OthersStep same hash setting caller w c blocks w2 c2 blocks2) where
  rule : Rule same (spot_of hash) true c
  rule = subst (λ (x : Bool). Rule same (spot_of hash) x c) bits map.map.rule

  module _ (n : ℕ) (left : HasLeft w caller setting c blocks n) where
    before_here : (t : ℕ) → LiesBefore w caller setting c blocks n t → LiesBefore w2 caller setting c2 blocks2 n t
    before_here t h u j phase borrowed e = let o = others.leaves.unnamed bits n left.0 left.2 u j phase borrowed e in h u j o.0 borrowed o.1

    -- a table that was not there names no pair
    nowhere_here : LiesNowhere w caller setting c blocks n → LiesNowhere w2 caller setting c2 blocks2 n
    nowhere_here h u j phase borrowed l made e =
        let o = others.leaves.unnamed bits n left.0 left.2 u j phase borrowed e in
        elim (cases_lt u c.past) [
          | inl there ↦ h u j o.0 borrowed (let f = others.leaves.lasts.first in omega (arith, l, f)) there o.1
          | inr none ↦ (let empty = rule.common.unmade u j none in let at = o.1 in cc (empty, at))
        ]

    pub out_on : (b : Bool) (t : ℕ) → cond b ((w.hand (blocks.pair n) ≡ Parting caller) × LiesBefore w caller setting c blocks n t) ((w.hand (blocks.pair n) ≡ Cutting caller) × LiesNowhere w caller setting c blocks n)
        → cond b ((w2.hand (blocks2.pair n) ≡ Parting caller) × LiesBefore w2 caller setting c2 blocks2 n t) ((w2.hand (blocks2.pair n) ≡ Cutting caller) × LiesNowhere w2 caller setting c2 blocks2 n)
    out_on true t h = (parts_here same hash setting caller w w2 c c2 blocks blocks2 map others n left h.0, before_here t h.1)
    out_on false t h = (cuts_here same hash setting caller w w2 c c2 blocks blocks2 map others n left h.0, nowhere_here h.1)

    disposing_here : (t : ℕ) → t < c.past → (stands : Disposing) → DisposingFacts w caller setting c blocks n t stands → DisposingFacts w2 caller setting c2 blocks2 n t stands
    disposing_here t made (disposes.Settles settle) h = (
      (
        h.0.0 ∙ ap (λ (b : ℕ). retiring setting.slot setting.batch_size (b * 2048)) (sym (pair_block same hash setting caller w w2 c c2 blocks blocks2 map others n left.0 left.1)),
        cuts_here same hash setting caller w w2 c c2 blocks blocks2 map others n left h.0.1,
      ),
      nowhere_here h.1,
    )
    disposing_here t made disposes.Reads h = (h.0, parts_here same hash setting caller w w2 c c2 blocks blocks2 map others n left h.1, before_here t h.2)
    disposing_here t made (disposes.Walks table) h =
        let there : h.3 < c.past = (let l = h.4 in omega (arith, l, made)) in (
          h.0,
          parts_here same hash setting caller w w2 c c2 blocks blocks2 map others n left h.1,
          before_here t h.2,
          h.3,
          h.4,
          table_known_on same hash setting caller w w2 c c2 blocks blocks2 others h.3 there h.5,
          h.6 ∙ ap (λ (b : ℕ). b * 2048) (sym (table_block_on same hash setting caller w w2 c c2 blocks blocks2 others h.3 there h.5)),
        )
    disposing_here t made (disposes.Defers defer) h =
        let there : h.2 < c.past = (let e = h.3 in omega (arith, e, made)) in (
          parts_here same hash setting caller w w2 c c2 blocks blocks2 map others n left h.0,
          before_here t h.1,
          h.2,
          h.3,
          table_known_on same hash setting caller w w2 c c2 blocks blocks2 others h.2 there h.4,
          h.5 ∙ ap (λ (b : ℕ). deferring (b * 2048) (Word (blocks.table h.2) DEFERRED)) (sym (pair_block same hash setting caller w w2 c c2 blocks blocks2 map others n left.0 left.1))
              ∙ ap (λ (b : ℕ). deferring (blocks2.pair n * 2048) (Word b DEFERRED)) (sym (table_block_on same hash setting caller w w2 c c2 blocks blocks2 others h.2 there h.4)),
          h.6,
        )
    disposing_here t made disposes.Over h = h

  pub dispose_on : (d : Dispose) → DisposeFacts w caller setting c blocks d → DisposeFacts w2 caller setting c2 blocks2 d
  dispose_on d h = record {
    setting_is = h.setting_is;
    n = h.n;
    t = h.t;
    left = left_here same hash setting caller w w2 c c2 blocks blocks2 map others h.n h.left;
    pair_is = h.pair_is ∙ ap (λ (b : ℕ). b * 2048) (sym (pair_block same hash setting caller w w2 c c2 blocks blocks2 map others h.n h.left.0 h.left.1));
    table = table_on same hash setting caller w w2 c c2 blocks blocks2 others d.table h.t h.table;
    point = disposing_here h.n h.left h.t h.table.made d.stands h.point;
  }
