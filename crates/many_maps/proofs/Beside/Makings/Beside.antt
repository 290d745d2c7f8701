-- Makings go on, as they were, where somebody else has taken a step, of a call or of a row, that leaves them what they have.
use Rattle.std.specs.Prelude.{◌≡◌, ℕ, Bool, Option, Some, None}
use Rattle.std.proofs.Common.{ap, sym, subst, ◌∙◌}
use Rattle.many_calls.specs.Given.SeizeWordsDeclared.at.At.TheVariants.{Root, Used}
use Rattle.many_calls.specs.Given.SeizeWordsMem.{word_at}
use Rattle.many_calls.specs.Given.SeizeWorld.{World}
use Rattle.many_calls.specs.Given.TablesDeclared.node.Node.{Node}
use Rattle.many_calls.specs.Given.TablesDeclared.setting.Setting.{Setting}
use Rattle.many_calls.specs.Given.RuleInWorld.{PreservesBlocks}
use Rattle.many_maps.specs.Makings.{Beginning, HasTaken, HasMade, HasRoots, HasOwnCounter, MakingsTogether}
use Rattle.many_maps.specs.Maps.{Standing, MapsTogether}
use Rattle.many_calls.specs.Together.{UnderWay}
use Rattle.many_maps.proofs.Beside.Makings.Lasts.{IsLeftTo, facts_last}

module _ {K Q : Type 0} (V : Type 0) (same : K → K → Bool) (asks : Q → K → Bool) (batch_size roots : ℕ) (slot : ℕ → ℕ) where
  module _ (w : World (Node K V)) (maps : ℕ → Option (Standing K)) (makers : ℕ → Option (Beginning K)) where
    -- the root of a map that stands
    abbrev pub IsMapsRoot : ℕ → Type 0
    IsMapsRoot r = (m : ℕ) × (s : Standing K) × (maps m ≡ Some s) × (r ≡ s.setting.root)

    -- What such a step leaves: whether roots are taken, where all lead that are no standing map's, and what each making has.
    pub record LeavesMakings (w2 : World (Node K V)) : Type 0 where
      pub used : (r word : ℕ) → word_at w.memory (Used r) ≡ Some word → word_at w2.memory (Used r) ≡ Some word
      pub root : (r word : ℕ) → word_at w.memory (Root r) ≡ Some word → (IsMapsRoot r → ⊥) → word_at w2.memory (Root r) ≡ Some word
      pub own : (j : ℕ) (b : Beginning K) → makers j ≡ Some b → PreservesBlocks j w.memory w.hand w2.memory w2.hand
      pub counter : (j : ℕ) (b : Beginning K) → makers j ≡ Some b → HasMade b.machine.stands → HasOwnCounter w j b.machine.setting → HasOwnCounter w2 j b.machine.setting

  module _ (w : World (Node K V)) (maps : ℕ → Option (Standing K)) (calls : ℕ → ℕ → Option (UnderWay K V Q)) (makers : ℕ → Option (Beginning K))
      (all : MakingsTogether V same asks batch_size roots slot w maps calls makers) (w2 : World (Node K V)) (left : LeavesMakings w maps makers w2)
      (maps2 : ℕ → Option (Standing K)) (calls2 : ℕ → ℕ → Option (UnderWay K V Q)) (stand2 : MapsTogether V same asks batch_size slot w2 maps2 calls2)
      (settings : (m : ℕ) (s2 : Standing K) → maps2 m ≡ Some s2 → (s : Standing K) × (maps m ≡ Some s) × (s2.setting ≡ s.setting)) (nones : (m : ℕ) → maps m ≡ None → maps2 m ≡ None)
      (alone2 : (j : ℕ) (b : Beginning K) → makers j ≡ Some b → (m : ℕ) → calls2 m j ≡ None) where
    -- a root that is free is no standing map's, and neither is that of a making
    not_free : (r : ℕ) → word_at w.memory (Used r) ≡ Some 0 → IsMapsRoot w maps makers r → ⊥
    not_free r is (m, s, here, e) = (let one = all.used m s here in let zero_there = subst (λ (x : ℕ). word_at w.memory (Used x) ≡ Some 0) e is in cc (one, zero_there))

    not_taken : (j : ℕ) (b : Beginning K) → makers j ≡ Some b → HasTaken b.machine.stands → IsMapsRoot w maps makers b.machine.setting.root → ⊥
    not_taken j b makes taken (m, s, here, e) = all.roots_apart j m b s makes here taken e

    left_to : (j : ℕ) (b : Beginning K) → makers j ≡ Some b → IsLeftTo same j w w2 b.machine
    left_to j b makes = record {
      used = λ taken is. left.used b.machine.setting.root 1 is;
      root = λ taken is. left.root b.machine.setting.root 0 is (not_taken j b makes taken);
      own = left.own j b makes;
      counter = left.counter j b makes;
    }

    free2 : HasRoots w2 roots
    free2 r l =
        let h = all.free r l in
        (h.0, left.used r h.0 h.1, λ none. left.root r 0 (h.2 none) (not_free r (h.1 ∙ ap Some none)))

    pub makings_on : MakingsTogether V same asks batch_size roots slot w2 maps2 calls2 makers
    makings_on = record {
      standing = stand2;
      free = free2;
      used = λ m s2 here. let was = settings m s2 here in
          left.used s2.setting.root 1 (subst (λ (x : Setting). word_at w.memory (Used x.root) ≡ Some 1) (sym was.2) (all.used m was.0 was.1));
      facts = λ j b makes. facts_last same j w w2 batch_size roots b (left_to j b makes) (all.facts j b makes);
      alone = alone2;
      coming = λ j b makes. nones b.map (all.coming j b makes);
      numbers = all.numbers;
      their_roots = all.their_roots;
      roots_apart = λ j m b s2 makes here taken. let was = settings m s2 here in
          λ e. all.roots_apart j m b was.0 makes was.1 taken (e ∙ ap (λ (x : Setting). x.root) was.2);
      counters_apart = λ j m b s2 makes here made. let was = settings m s2 here in
          λ e. all.counters_apart j m b was.0 makes was.1 made (e ∙ ap (λ (x : Setting). x.counter) was.2);
    }
