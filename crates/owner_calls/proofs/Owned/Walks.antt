-- What the memory of a map that one owner has shows of its pairs, where it rests.
use Rattle.std.specs.Prelude.{cond}
use Rattle.std.proofs.Common.{◌≡◌, ℕ, zero, suc, Bool, true, false, List, [], ◌∷◌, ◌++◌, Some, refl, ap, sym, subst, ◌∙◌}
use Rattle.std.proofs.lemmas.List.{append-nil}
use Rattle.seize_words.specs.OneMemory.Mem.{Mem, value_at}
use Rattle.map_tables.specs.Chunks.{is_incremental}
use Rattle.map_tables.specs.declared.node.Node.{Node}
use Rattle.map_tables.specs.declared.node.Node.TheVariants as node
use Rattle.map_tables.specs.declared.setting.Setting.{Setting}
use Rattle.map_straight.specs.Given.RuleChart.{Chart}
use Rattle.map_straight.specs.Given.RuleWords.{Blocks}
use Rattle.map_straight.specs.Given.RuleMaps.{spot_of, IsMap}
use Rattle.owner_whole.proofs.Given.MapsRests.NoneMoves.{none_copying, claims_none}
use Rattle.owner_whole.specs.Whole.Contents.{ContentsBelow}
use Rattle.map_straight.specs.Shown.Chain.{pair_of}
use Rattle.map_straight.specs.Shown.Shown.{HasMap, NoneMoves, pairs_stored}
use Rattle.owner_calls.specs.Owned.Owned.{Holds}

module _ {K V : Type 0} (m : Mem (Node K V)) (c : Chart K) (blocks : Blocks) where
  contents_below : (n : ℕ) (xs : List (K × V)) → ContentsBelow m c blocks n xs → xs ≡ pairs_stored m c blocks n
  contents_below zero xs are = are
  contents_below (suc n) xs are = by (contents_below n) (c.current n) refl are
    where
      by : ((ys : List (K × V)) → ContentsBelow m c blocks n ys → ys ≡ pairs_stored m c blocks n) → (b : Bool) → c.current n ≡ b
          → cond b ((ys : List (K × V)) × (k : K) × (v : V) × ContentsBelow m c blocks n ys × (value_at m (blocks.pair n) ≡ Some (node.Pair k v)) × (xs ≡ ys ++ ((k, v) ∷ []))) (ContentsBelow m c blocks n xs)
          → xs ≡ pairs_stored m c blocks (suc n)
      by below true is h =
          h.5 ∙ ap (λ l. l ++ (h.1, h.2) ∷ []) (below h.0 h.3) ∙ ap (λ o. pairs_stored m c blocks n ++ pair_of o) (sym h.4)
          ∙ ap (λ b. pairs_stored m c blocks n ++ cond b (pair_of (value_at m (blocks.pair n))) []) (sym is)
      by below false is h = below xs h ∙ sym (append-nil (pairs_stored m c blocks n)) ∙ ap (λ b. pairs_stored m c blocks n ++ cond b (pair_of (value_at m (blocks.pair n))) []) (sym is)

module _ {K V : Type 0} (same : K → K → Bool) (hash : K → ℕ) (setting : Setting) (m : Mem (Node K V)) (xs : List (K × V)) (h : Holds same hash setting m xs) where
  -- its words show its tables
  pub holds_stands : HasMap same hash m setting h.chart h.blocks
  holds_stands = record {
    map = subst (λ w. IsMap same hash setting.mode setting.root w h.chart h.blocks) h.memory h.rests.together.ground.map.map;
    classes = h.lawful.lawful.classes;
    fits = h.lawful.fits;
  }

  pub holds_moves_none : is_incremental setting.mode ≡ true → NoneMoves true h.chart
  holds_moves_none incremental =
      let rule = h.rests.together.ground.map.map.rule in
      let none = none_copying same (spot_of hash) h.chart h.rests.alone.idle (is_incremental setting.mode) rule
      (claims_none (is_incremental setting.mode) _ _ _ (h.rests.together.idle 0 (h.rests.none 0))) in
      λ e. none incremental

  pub holds_pairs : xs ≡ pairs_stored m h.chart h.blocks h.chart.stored
  holds_pairs = subst (λ w. xs ≡ pairs_stored w h.chart h.blocks h.chart.stored) h.memory (contents_below h.world.memory h.chart h.blocks h.chart.stored xs h.are)
