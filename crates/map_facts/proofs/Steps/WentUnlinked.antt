-- A pair that was taken out of the map, and that no linked table names, is unlinked.
use Rattle.std.specs.Prelude.{◌≡◌, ◌≢◌, ℕ, ◌<◌, ◌≤◌, Bool, true, false, [], ◌∷◌}
use Rattle.std.proofs.Common.{refl, ap, sym, ◌∙◌, inl, inr, subst}
use Rattle.map_rule.specs.Given.SeizeWordsMem.{Mem}
use Rattle.papaya_raw.specs.Given.SeizeLaw.{Unlinked}
use Rattle.papaya_raw.specs.Given.SeizeWorld.{World, Parting, Cutting, Unlinks, with_hand, with_effect, MayCut}
use Rattle.papaya_raw.specs.Given.TablesDeclared.node.Node.{Node}
use Rattle.papaya_raw.specs.Given.TablesDeclared.setting.Setting.{Setting}
use Rattle.map_rule.specs.Chart.{Phase, Holds, Chart}
use Rattle.map_rule.specs.Words.{Blocks}
use Rattle.map_rule.specs.InWorld.{IsMapIn, IsHeldBy, IsFramed, StepSpec, SparesPairs}
use Rattle.map_facts.specs.FactsDisposes.{LiesNowhere}
use Rattle.map_rule.proofs.World.Hands.{hands_of, hands_unlinked, named_known, current_known}
use Rattle.map_rule.proofs.Words.TablesSeen.{pair_apart}
use Rattle.map_rule.proofs.World.WentStill.{spares_hand}
use Rattle.map_rule.proofs.World.WentWrote.{counter_of, map_in}
use Rattle.map_rule.proofs.World.Footprints.{framed_same}
use Rattle.map_rule.proofs.Words.LinksOwn.{outs_handed, known_same, known_with, links_none}
use Rattle.map_rule.proofs.World.MovesKnown.{tables_same}
use Rattle.map_rule.proofs.World.OthersSpared.{keeps_handed}

module _ {K V : Type 0} (same : K → K → Bool) (hash : K → ℕ) (setting : Setting) (w : World (Node K V)) (caller : ℕ) (c : Chart K) (blocks : Blocks)
    (map : IsMapIn same hash setting w c blocks) where
  -- A pair that was taken out of the map and that no linked table names is unlinked, by a step that changed no word.
  pub went_unlinked : (n : ℕ) → n < c.stored → blocks.pair_known n ≡ true → c.current n ≡ false → w.hand (blocks.pair n) ≡ Parting caller
      → LiesNowhere w caller setting c blocks n → (m2 : Mem (Node K V)) → m2 ≡ w.memory → (Told : World (Node K V) → Chart K → Blocks → Type 0)
      → (SparesPairs w (with_effect (with_hand w (blocks.pair n) (Cutting caller)) (Unlinked (blocks.pair n)))
      → Told (with_effect (with_hand w (blocks.pair n) (Cutting caller)) (Unlinked (blocks.pair n))) c blocks)
      → StepSpec same hash setting caller w c blocks m2 Told
  went_unlinked n was seen left parting nowhere m2 is Told told = record {
    w2 = w2;
    c2 = c;
    blocks2 = blocks;
    events = Unlinks caller b ∷ [];
    users = (tt, tt);
    its = (inr (inr (n, was, seen, refl)), tt);
    runs = (w2, (subst (MayCut caller) (sym parting) refl, refl), refl);
    memory = sym is;
    tables = tables_same c blocks;
    links = links_none caller w w2 c c blocks refl refl (outs_handed w.memory w.hand b (Cutting caller) tt)
        (known_with caller w.hand c blocks w.hand b (Cutting caller) (λ own out. inr (n, was, seen, refl)) (known_same caller w.hand c blocks));
    frame = subst (IsFramed setting caller w c blocks) (sym is) (framed_same setting caller w c blocks);
    spares = λ j other. keeps_handed j w.memory w.hand b (Cutting caller) (λ held. other (sym (subst (IsHeldBy j) parting held)));
    moved = inl refl;
    map = map_in same hash setting w2 c blocks map.map (counter_of same hash setting w c blocks map)
        (hands_unlinked same hash setting w c blocks b caller
        (λ t l made. pair_apart hash w.memory c blocks setting.root map.map.shows t n made (map.map.shows.linked t l made) was seen)
        no_pair no_name (hands_of same hash setting w c blocks map));
    blocks_same = record { tables = λ t made known. (refl, known); pairs = λ o was2 known. (refl, known); tables_back = λ t made known. known; pairs_back = λ n was known. known };
    told = told (spares_hand w b (Cutting caller) (Unlinked b ∷ w.log) (λ j k v making there. absurd (cc (making, parting))));
  }
    where
      b : ℕ
      b = blocks.pair n

      w2 : World (Node K V)
      w2 = with_effect (with_hand w (blocks.pair n) (Cutting caller)) (Unlinked (blocks.pair n))

      no_pair : (o : ℕ) → c.current o ≡ true → blocks.pair o ≢ blocks.pair n
      no_pair o is e =
          let k = current_known same hash setting w c blocks map.map.rule map.map.shows o is in
          let one : o ≡ n = map.map.shows.pairs_apart o n k.0 was k.1 seen e in
          let gone : c.current o ≡ false = ap c.current one ∙ left in
          absurd (cc (is, gone))

      no_name : (t i o : ℕ) (phase : Phase) (borrowed : Bool) → c.first ≤ t → t < c.past → c.place t i ≡ Holds o phase borrowed → blocks.pair o ≢ blocks.pair n
      no_name t i o phase borrowed l made stood e =
          let k = named_known same hash setting w c blocks map.map.rule map.map.shows t i o phase borrowed l stood in
          let one : o ≡ n = map.map.shows.pairs_apart o n k.0 was k.1 seen e in
          nowhere t i phase borrowed l made (stood ∙ ap (λ (x : ℕ). Holds x phase borrowed) one)
