-- In blocking mode: what the disposal of a pair knows lasts over steps of others.
use Rattle.std.proofs.Common.{◌≡◌, ℕ, ◌*◌, Bool, true, false, cond, inl, inr, refl, arith, ap, sym, subst, ◌∙◌}
use Rattle.std.proofs.lemmas.Bool.{cases_lt}
use Rattle.map_facts.specs.Given.SeizeWorld.{World, Cutting, Parting}
use Rattle.map_facts.specs.Given.SeizeSettle.{retiring}
use Rattle.map_facts.specs.Given.TablesChunks.{is_incremental}
use Rattle.map_facts.specs.Given.TablesDeclared.node.Node.{Node}
use Rattle.map_facts.specs.Given.TablesDeclared.setting.Setting.{Setting}
use Rattle.map_facts.specs.Given.ResizeDeclared.dispose.Dispose.{Dispose}
use Rattle.map_facts.specs.Given.ResizeDeclared.dispose.Disposing.{Disposing}
use Rattle.map_facts.specs.Given.ResizeDeclared.dispose.Disposing.TheVariants as disposes
use Rattle.map_facts.specs.Given.RuleChart.{Phase, Holds, Chart}
use Rattle.map_facts.specs.Given.RuleRule.{Rule}
use Rattle.map_facts.specs.Given.RuleWords.{Blocks}
use Rattle.map_facts.specs.Given.RuleMaps.{spot_of}
use Rattle.map_facts.specs.Given.RuleInWorld.{IsMapIn}
use Rattle.map_facts.specs.FactsDisposes.{LiesBefore, LiesNowhere, HasLeft, DisposingFacts, DisposeFacts}
use Rattle.map_facts.specs.Others.{OthersStep}
use Rattle.map_facts_late.proofs.Known.Pairs.{pair_block, left_here, cuts_here}
use Rattle.map_facts_late.proofs.Known.Tables.{table_on}

module _ {K V : Type 0} (same : K → K → Bool) (hash : K → ℕ) (setting : Setting) (blocking : is_incremental setting.mode ≡ false) (caller : ℕ) (w w2 : World (Node K V))
    (c c2 : Chart K) (blocks blocks2 : Blocks) (map : IsMapIn same hash setting w c blocks) (map2 : IsMapIn same hash setting w2 c2 blocks2)
    (others : OthersStep same hash setting caller w c blocks w2 c2 blocks2) where
  rule2 : Rule same (spot_of hash) false c2
  rule2 = subst (λ (x : Bool). Rule same (spot_of hash) x c2) blocking map2.map.rule

  -- a pair that was taken out
  module _ (n : ℕ) (left : HasLeft w caller setting c blocks n) where
    not_current : c2.current n ≡ true → ⊥
    not_current e = let gone = others.leaves.gone n left.0 left.2 in cc (gone, e)

    not_in_root : (j : ℕ) (phase : Phase) (borrowed : Bool) → c2.place c2.first j ≡ Holds n phase borrowed → ⊥
    not_in_root j phase borrowed e = not_current (rule2.common.is_current c2.first j n phase borrowed e (rule2.in_mode.plain c2.first j n phase borrowed e).0 refl)

    nowhere_on : LiesNowhere w2 caller setting c2 blocks2 n
    nowhere_on u j phase borrowed l made e = elim (cases_lt c2.first u) [
      | inl behind ↦ (let s = rule2.in_mode.sources u j n phase borrowed behind e in not_in_root s.0 _ _ s.1)
      | inr root ↦ (let is : u ≡ c2.first = omega (arith, l, root) in not_in_root j phase borrowed (ap (λ (x : ℕ). c2.place x j) (sym is) ∙ e))
    ]

    disposing_on : (t : ℕ) (stands : Disposing) → DisposingFacts w caller setting c blocks n t stands → DisposingFacts w2 caller setting c2 blocks2 n t stands
    disposing_on t (disposes.Settles settle) h = (
      (
        h.0.0 ∙ ap (λ (b : ℕ). retiring setting.slot setting.batch_size (b * 2048)) (sym (pair_block same hash setting caller w w2 c c2 blocks blocks2 map others n left.0 left.1)),
        cuts_here same hash setting caller w w2 c c2 blocks blocks2 map others n left h.0.1,
      ),
      nowhere_on,
    )
    disposing_on t disposes.Reads h = absurd (let e = h.0 in cc (blocking, e))
    disposing_on t (disposes.Walks table) h = absurd (let e = h.0 in cc (blocking, e))
    disposing_on t (disposes.Defers defer) h = absurd (let e = h.6 in cc (blocking, e))
    disposing_on t disposes.Over h = h

  pub dispose_on : (d : Dispose) → DisposeFacts w caller setting c blocks d → DisposeFacts w2 caller setting c2 blocks2 d
  dispose_on d h = record {
    setting_is = h.setting_is;
    n = h.n;
    t = h.t;
    left = left_here same hash setting caller w w2 c c2 blocks blocks2 map others h.n h.left;
    pair_is = h.pair_is ∙ ap (λ (b : ℕ). b * 2048) (sym (pair_block same hash setting caller w w2 c c2 blocks blocks2 map others h.n h.left.0 h.left.1));
    table = table_on same hash setting caller w w2 c c2 blocks blocks2 others d.table h.t h.table;
    point = disposing_on h.n h.left h.t d.stands h.point;
  }

  pub out_on : (n : ℕ) → HasLeft w caller setting c blocks n → (t : ℕ) (borrowed : Bool)
      → cond (cond (is_incremental setting.mode) borrowed false) ((w.hand (blocks.pair n) ≡ Parting caller) × LiesBefore w caller setting c blocks n t) ((w.hand (blocks.pair n) ≡ Cutting caller) × LiesNowhere w caller setting c blocks n)
      → cond (cond (is_incremental setting.mode) borrowed false) ((w2.hand (blocks2.pair n) ≡ Parting caller) × LiesBefore w2 caller setting c2 blocks2 n t) ((w2.hand (blocks2.pair n) ≡ Cutting caller) × LiesNowhere w2 caller setting c2 blocks2 n)
  out_on n left t borrowed h =
      subst (λ (x : Bool). cond (cond x borrowed false) ((w2.hand (blocks2.pair n) ≡ Parting caller) × LiesBefore w2 caller setting c2 blocks2 n t) ((w2.hand (blocks2.pair n) ≡ Cutting caller) × LiesNowhere w2 caller setting c2 blocks2 n)) (sym blocking) (
        cuts_here same hash setting caller w w2 c c2 blocks blocks2 map others n left
            (subst (λ (x : Bool). cond (cond x borrowed false) ((w.hand (blocks.pair n) ≡ Parting caller) × LiesBefore w caller setting c blocks n t) ((w.hand (blocks.pair n) ≡ Cutting caller) × LiesNowhere w caller setting c blocks n)) blocking h).0,
        nowhere_on n left,
      )
