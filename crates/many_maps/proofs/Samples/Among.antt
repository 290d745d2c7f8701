-- Ends of maps among others: what is refused of them.
use Rattle.std.specs.Prelude.{Option, Some}
use Rattle.std.proofs.Common.{◌≡◌, ℕ, ◌<◌, Bool, false, List, [], ◌∷◌, arith, sym, subst, ◌∙◌}
use Rattle.many_calls.specs.Given.SeizeWordsDeclared.at.At.TheVariants.{Root, Entry}
use Rattle.many_calls.specs.Given.SeizeWordsMem.{Mem, word_at}
use Rattle.many_calls.specs.Given.SeizeDeclared.states.TheConstants.{NEXT}
use Rattle.many_calls.specs.Given.SeizeWorld.{World, NoBlock, times}
use Rattle.many_calls.specs.Given.TablesDeclared.node.Node.{Node}
use Rattle.many_maps.specs.Makings.{Beginning}
use Rattle.many_maps.specs.Maps.{Standing}
use Rattle.many_calls.specs.Together.{UnderWay}
use Rattle.many_maps.specs.Endings.{Finishing, HasFinished, EndingsTogether}
use Rattle.many_maps.specs.FactsEnds.{RootIs}
use Rattle.many_maps.proofs.Ends.OrdersOn.{counter_later}
use Rattle.many_maps.proofs.Ends.CountedBlocks.{some_last}

one_word : {a b : ℕ} → ◌≡◌ {A = Option ℕ} (Some a) (Some b) → a ≡ b
one_word e = cc e

module _ {K V : Type 0} (m : Mem (Node K V)) (f : Finishing K V) where
  -- a root leads nowhere, though something waits
  forgets_all_that_waits : (x : ℕ) (list : List ℕ) → f.waits ≡ x ∷ list → word_at m (Root f.setting.root) ≡ Some 0 → HasFinished m f → ⊥
  forgets_all_that_waits x list are none done =
      let root : RootIs f.setting m (x ∷ list) = subst (RootIs f.setting m) are done.root in
      let word_is = one_word (sym root.1 ∙ none) in
      let some = root.2.1 in let link = root.2.2 in omega (arith, word_is, some, link)

  -- it leads to the first block that waits, and the second is lost
  loses_one_that_waits : (x y : ℕ) → f.waits ≡ x ∷ y ∷ [] → word_at m (Entry x NEXT) ≡ Some 0 → HasFinished m f → ⊥
  loses_one_that_waits x y are last done =
      let root : RootIs f.setting m (x ∷ y ∷ []) = subst (RootIs f.setting m) are done.root in
      let next_is = one_word (sym root.2.3 ∙ last) in
      let some = root.2.4.1 in let link = root.2.4.2 in omega (arith, next_is, some, link)

  -- nothing was reclaimed
  reclaims_nothing : f.back ≡ [] → HasFinished m f → ⊥
  reclaims_nothing none done =
      let there = subst (λ (l : List ℕ). 0 < times f.setting.counter l) (sym done.back_is ∙ none)
      (some_last f.setting.counter _ _ (counter_later f.setting f.chart f.blocks (λ t. []) false f.chart.first)) in
      omega (arith, there)

  -- a block was reclaimed twice
  reclaims_twice : (x : ℕ) → 1 < times x f.back → HasFinished m f → ⊥
  reclaims_twice x twice done = let once = (done.once x).0 in omega (arith, twice, once)

module _ {K Q : Type 0} (V : Type 0) (same : K → K → Bool) (asks : Q → K → Bool) (batch_size roots : ℕ) (slot : ℕ → ℕ)
    (w : World (Node K V)) (maps : ℕ → Option (Standing K)) (calls : ℕ → ℕ → Option (UnderWay K V Q)) (makers : ℕ → Option (Beginning K)) (enders : ℕ → Option (Finishing K V))
    (i : ℕ) (f : Finishing K V) (ends : enders i ≡ Some f) where
  -- a pair that waits, since a section may hold it, was taken away
  takes_what_waits : (x : ℕ) → 0 < times x f.waits → w.hand x ≡ NoBlock → EndingsTogether V same asks batch_size roots slot w maps calls makers enders → ⊥
  takes_what_waits x on gone all =
      let facts = all.facts i f ends in
      let left = facts.facts.since.waits x (subst (λ (l : List ℕ). 0 < times x l) facts.waits_are on) in cc (left, gone)

  -- a map that stands has the root of one that ends
  ends_at_a_maps_root : (m : ℕ) (s : Standing K) → maps m ≡ Some s → f.setting.root ≡ s.setting.root → EndingsTogether V same asks batch_size roots slot w maps calls makers enders → ⊥
  ends_at_a_maps_root m s here is all = all.roots_apart i m f s ends here is

  -- who ends a map has a call
  ends_within_a_call : (m : ℕ) (u : UnderWay K V Q) → calls m i ≡ Some u → EndingsTogether V same asks batch_size roots slot w maps calls makers enders → ⊥
  ends_within_a_call m u has all = let none = (all.alone i f ends).0 m in cc (none, has)
