-- A step of the end of a map leaves the makings as they are: with the maps that stand they do so together.
use Rattle.std.specs.Prelude.{◌≢◌, Option, Some}
use Rattle.std.proofs.Common.{◌≡◌, ℕ, Bool, refl, inl, inr, sym, subst, ◌∙◌}
use Rattle.std.proofs.lemmas.Bool.{cases_eq}
use Rattle.many_calls.specs.Given.SeizeWordsDeclared.at.At.TheVariants.{Root, Used}
use Rattle.many_calls.specs.Given.SeizeWordsMem.{word_at}
use Rattle.many_calls.specs.Given.SeizeWorld.{World}
use Rattle.many_calls.specs.Given.TablesDeclared.node.Node.{Node}
use Rattle.many_calls.specs.Given.RuleInWorld.{IsHeldBy}
use Rattle.many_maps.specs.Makings.{Beginning, HasTaken, HasMade, HasRoots, HasOwnCounter, MakingsTogether}
use Rattle.many_maps.specs.Maps.{Standing, MapsTogether}
use Rattle.many_calls.specs.Together.{UnderWay}
use Rattle.many_maps.proofs.Beside.Makings.Lasts.{IsLeftTo, counter_on, facts_last}
use Rattle.many_maps.proofs.Beside.Maps.All.{StandsSo}
use Rattle.many_maps.specs.Endings.{Finishing, HasCounter, FinishingFacts}
use Rattle.many_maps.proofs.Among.Own.Apart.{IsApart, held_apart, Did, as_before, keeps_all}
use Rattle.many_maps.proofs.Among.Own.Maps.{map_stands_on}

-- the root is taken, or it leads nowhere
abbrev pub IsRoot : {K V : Type 0} → World (Node K V) → ℕ → Type 0
IsRoot w r = (used : ℕ) × (word_at w.memory (Used r) ≡ Some used) × (used ≡ 0 → word_at w.memory (Root r) ≡ Some 0)

module _ {K Q : Type 0} (V : Type 0) (same : K → K → Bool) (asks : Q → K → Bool) (batch_size roots : ℕ) (slot : ℕ → ℕ)
    (w : World (Node K V)) (maps : ℕ → Option (Standing K)) (calls : ℕ → ℕ → Option (UnderWay K V Q)) (makers : ℕ → Option (Beginning K))
    (all : MakingsTogether V same asks batch_size roots slot w maps calls makers) (i : ℕ) (f : Finishing K V) (facts : FinishingFacts same batch_size w i f) (w2 : World (Node K V))
    (did : Did same batch_size w i f facts w2) where
  module _ (roots_apart : (m : ℕ) (s : Standing K) → maps m ≡ Some s → f.setting.root ≢ s.setting.root)
      (counters_apart : (m : ℕ) (s : Standing K) → maps m ≡ Some s → HasCounter f → f.setting.counter ≢ s.setting.counter)
      (makings_roots : (j : ℕ) (b : Beginning K) → makers j ≡ Some b → HasTaken b.machine.stands → f.setting.root ≢ b.machine.setting.root)
      (makings_counters : (j : ℕ) (b : Beginning K) → makers j ≡ Some b → HasMade b.machine.stands → HasCounter f → f.setting.counter ≢ b.machine.setting.counter) where
    stands_on : (m : ℕ) (s : Standing K) → maps m ≡ Some s → StandsSo V same asks batch_size slot w2 s (calls m)
    stands_on m s here =
        let fit = all.standing.fit m s here in
        map_stands_on same batch_size w i f facts w2 did s.hash asks s.setting slot fit.0 fit.2 s.chart s.blocks s.sights (calls m) (all.standing.each m s here)
        (roots_apart m s here) (counters_apart m s here)

    maps_stand : MapsTogether V same asks batch_size slot w2 maps calls
    maps_stand = record {
      came = did.came2;
      each = stands_on;
      fit = all.standing.fit;
      roots = all.standing.roots;
      counters = all.standing.counters;
      only = all.standing.only;
      once = all.standing.once;
    }

    -- the root of a making is as it was, and so is its counter
    module _ (j : ℕ) (b : Beginning K) (makes : makers j ≡ Some b) where
      other_root : HasTaken b.machine.stands → b.machine.setting.root ≢ f.setting.root
      other_root taken e = makings_roots j b makes taken (sym e)

      counter_apart : HasMade b.machine.stands → HasOwnCounter w j b.machine.setting → IsApart w i f b.machine.setting.counter
      counter_apart made own = held_apart w i f b.machine.setting.counter j (subst (IsHeldBy j) (sym own.hand) refl) (λ has e. makings_counters j b makes made has (sym e))

      left_to : IsLeftTo same j w w2 b.machine
      left_to = record {
        used = λ taken is. (did.spares.roots b.machine.setting.root (other_root taken)).1 ∙ is;
        root = λ taken is. (did.spares.roots b.machine.setting.root (other_root taken)).0 ∙ is;
        own = keeps_all same batch_size w i f facts w2 did j;
        counter = λ made own. let k = as_before same batch_size w i f facts w2 did b.machine.setting.counter (counter_apart made own) in
            counter_on same j w w2 b.machine.setting k.value k.hand (λ field word is. k.words field ∙ is) own;
      }

    -- roots that are free lead nowhere, if that of the end does so once it is free
    roots_then : IsRoot w2 f.setting.root → HasRoots w2 roots
    roots_then its r below = elim (cases_eq r f.setting.root) as (λ _. IsRoot w2 r) [
      | inl e ↦ subst (IsRoot w2) (sym e) its
      | inr ne ↦ (let h = all.free r below in let k = did.spares.roots r ne in (h.0, k.1 ∙ h.1, λ none. k.0 ∙ h.2 none))
    ]

    pub makings_stand_on : IsRoot w2 f.setting.root → MakingsTogether V same asks batch_size roots slot w2 maps calls makers
    makings_stand_on its = record {
      standing = maps_stand;
      free = roots_then its;
      used = λ m s here. (did.spares.roots s.setting.root (λ e. roots_apart m s here (sym e))).1 ∙ all.used m s here;
      facts = λ j b makes. facts_last same j w w2 batch_size roots b (left_to j b makes) (all.facts j b makes);
      alone = all.alone;
      coming = all.coming;
      numbers = all.numbers;
      their_roots = all.their_roots;
      roots_apart = all.roots_apart;
      counters_apart = all.counters_apart;
    }
