-- Ends of maps go on as they were where somebody else has taken a step that spares them.
use Rattle.std.specs.Prelude.{◌≢◌, Option, Some, None}
use Rattle.std.proofs.Common.{◌≡◌, ℕ, zero, suc, Bool, refl, arith, ap, ◌∙◌}
use Rattle.many_calls.specs.Given.SeizeWorld.{World, times}
use Rattle.many_calls.specs.Given.TablesDeclared.node.Node.{Node}
use Rattle.many_calls.specs.Given.TablesDeclared.setting.Setting.{Setting}
use Rattle.many_maps.specs.Makings.{Beginning, HasTaken, HasMade, MakingsTogether}
use Rattle.many_maps.specs.Maps.{Standing}
use Rattle.many_calls.specs.Together.{UnderWay}
use Rattle.many_maps.proofs.Beside.Endings.Spares.{SparesEnd}
use Rattle.many_maps.specs.Endings.{Finishing, HasCounter, EndingsTogether}
use Rattle.many_maps.proofs.Among.LeftAlone.{facts_on}

-- What a step spares of an end: what is this owner's, which is the map's counter as long as that was not reclaimed, and what waits behind its root.
abbrev pub IsSparedEnd : {K V : Type 0} → ℕ → World (Node K V) → World (Node K V) → ℕ → Finishing K V → Type 0
IsSparedEnd batch_size w w2 i f = (o : ℕ) × (HasCounter f → o ≡ f.setting.counter) × SparesEnd w w2 batch_size o f.setting.root i

-- an owner that is not this number: the counter, as long as that was not reclaimed
pub other_owner : {K V : Type 0} (f : Finishing K V) (avoid : ℕ) → (HasCounter f → f.setting.counter ≢ avoid) → (o : ℕ) × (HasCounter f → o ≡ f.setting.counter) × (o ≢ avoid)
other_owner f avoid apart = by (times f.setting.counter f.back) refl
  where
    by : (k : ℕ) → times f.setting.counter f.back ≡ k → (o : ℕ) × (HasCounter f → o ≡ f.setting.counter) × (o ≢ avoid)
    by zero e = (f.setting.counter, λ has. refl, apart e)
    by (suc k) e = (suc avoid, λ has. absurd (omega (arith, has, e)), λ same. omega (arith, same))

module _ {K Q : Type 0} (V : Type 0) (same : K → K → Bool) (asks : Q → K → Bool) (batch_size roots : ℕ) (slot : ℕ → ℕ)
    (w : World (Node K V)) (maps : ℕ → Option (Standing K)) (calls : ℕ → ℕ → Option (UnderWay K V Q)) (makers : ℕ → Option (Beginning K)) (enders : ℕ → Option (Finishing K V))
    (all : EndingsTogether V same asks batch_size roots slot w maps calls makers enders) (w2 : World (Node K V))
    (spared : (j : ℕ) (f : Finishing K V) → enders j ≡ Some f → IsSparedEnd batch_size w w2 j f) where
  -- with other maps, calls and makings then
  module _ (maps2 : ℕ → Option (Standing K)) (calls2 : ℕ → ℕ → Option (UnderWay K V Q)) (makers2 : ℕ → Option (Beginning K)) (makings2 : MakingsTogether V same asks batch_size roots slot w2 maps2 calls2 makers2)
      (alone2 : (j : ℕ) (f : Finishing K V) → enders j ≡ Some f → ((m : ℕ) → calls2 m j ≡ None) × (makers2 j ≡ None))
      (roots2 : (j m : ℕ) (f : Finishing K V) (s : Standing K) → enders j ≡ Some f → maps2 m ≡ Some s → (f.setting.root ≢ s.setting.root) × (HasCounter f → f.setting.counter ≢ s.setting.counter))
      (making_roots2 : (j l : ℕ) (f : Finishing K V) (b : Beginning K) → enders j ≡ Some f → makers2 l ≡ Some b
      → (HasTaken b.machine.stands → f.setting.root ≢ b.machine.setting.root) × (HasMade b.machine.stands → HasCounter f → f.setting.counter ≢ b.machine.setting.counter)) where
    pub endings_on : EndingsTogether V same asks batch_size roots slot w2 maps2 calls2 makers2 enders
    endings_on = record {
      makings = makings2;
      facts = λ j f is. let s = spared j f is in facts_on same batch_size w j f (all.facts j f is) w2 s.0 s.1 s.2;
      alone = alone2;
      roots_apart = λ j m f s is here. (roots2 j m f s is here).0;
      counters_apart = λ j m f s is here. (roots2 j m f s is here).1;
      makings_roots = λ j l f b is makes. (making_roots2 j l f b is makes).0;
      makings_counters = λ j l f b is makes. (making_roots2 j l f b is makes).1;
      their_roots = all.their_roots;
      their_counters = all.their_counters;
    }

  -- the maps that stand have the settings that they had, and the makings are the same
  module _ (maps2 : ℕ → Option (Standing K)) (calls2 : ℕ → ℕ → Option (UnderWay K V Q)) (makings2 : MakingsTogether V same asks batch_size roots slot w2 maps2 calls2 makers)
      (alone2 : (j : ℕ) (f : Finishing K V) → enders j ≡ Some f → (m : ℕ) → calls2 m j ≡ None)
      (settings : (m : ℕ) (s2 : Standing K) → maps2 m ≡ Some s2 → (s : Standing K) × (maps m ≡ Some s) × (s2.setting ≡ s.setting)) where
    pub endings_same : EndingsTogether V same asks batch_size roots slot w2 maps2 calls2 makers enders
    endings_same =
        endings_on maps2 calls2 makers makings2 (λ j f is. (alone2 j f is, (all.alone j f is).1))
        (λ j m f s2 is here. let was = settings m s2 here in (
          λ e. all.roots_apart j m f was.0 is was.1 (e ∙ ap (λ (x : Setting). x.root) was.2),
          λ has e. all.counters_apart j m f was.0 is was.1 has (e ∙ ap (λ (x : Setting). x.counter) was.2),
        ))
        (λ j l f b is makes. (all.makings_roots j l f b is makes, all.makings_counters j l f b is makes))
