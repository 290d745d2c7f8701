-- A step of the end of a map leaves each other end what it knows.
use Rattle.std.specs.Prelude.{◌≢◌}
use Rattle.std.proofs.Common.{◌≡◌, ℕ, zero, suc, Bool, ◌⊎◌, inl, inr, refl, arith, sym, subst, ◌∙◌}
use Rattle.many_calls.specs.Given.SeizeWorld.{World, Row, InUse, Handed, LeftTo, IsOnto, times}
use Rattle.many_calls.specs.Given.TablesDeclared.node.Node.{Node}
use Rattle.many_calls.specs.Kept.{IsMaking}
use Rattle.many_maps.proofs.Beside.Endings.Spares.{IsUsedOf, IsOfEnd, IsSpared, SparesEnd}
use Rattle.many_maps.specs.Endings.{Finishing, HasCounter, FinishingFacts}
use Rattle.many_maps.proofs.Among.LeftAlone.{facts_on}
use Rattle.many_maps.proofs.Among.Own.Apart.{IsApart, making_apart, Did, behind_value, as_before}

module _ {K V : Type 0} (same : K → K → Bool) (batch_size : ℕ) (w : World (Node K V)) (i : ℕ) (f : Finishing K V) (facts : FinishingFacts same batch_size w i f) (w2 : World (Node K V))
    (did : Did same batch_size w i f facts w2) where
  -- a block that is apart is spared
  apart_spared : (b : ℕ) → IsApart w i f b → IsSpared w w2 b
  apart_spared b apart = let k = as_before same batch_size w i f facts w2 did b apart in record {
    value = k.value;
    words = λ field word no is. k.words field ∙ is;
    hand = k.hand;
    owner = did.spares.owners b;
    orphan = did.spares.orphans b;
    over = did.spares.overs b;
  }

  module _ (j : ℕ) (other : j ≢ i) (owner root : ℕ) (roots : root ≢ f.setting.root) (counters : HasCounter f → owner ≢ f.setting.counter) where
    -- a block in use of another owner is apart
    used_of_other : (b : ℕ) → IsUsedOf w owner b → IsApart w i f b
    used_of_other b used = record {
      not_left = λ e. (let k = used.0 in cc (k, e));
      not_counter = λ has e. not_made (subst (λ (y : ℕ). IsMaking (w.hand y)) (sym e) (facts.facts.since.counter has).1);
      not_owned = λ has of e. counters has (sym used.1 ∙ e);
    }
      where
        not_made : IsMaking (w.hand b) → ⊥
        not_made making = subst IsMaking used.0 making

    -- and so is one that is left over to another caller
    left_to_other : (b : ℕ) → w.hand b ≡ LeftTo j → IsApart w i f b
    left_to_other b left = record {
      not_left = λ e. other (same_caller j i (sym left ∙ e));
      not_counter = λ has e. not_made (subst (λ (y : ℕ). IsMaking (w.hand y)) (sym e) (facts.facts.since.counter has).1);
      not_owned = λ has of. absurd (not_out of);
    }
      where
        same_caller : (a z : ℕ) → LeftTo a ≡ LeftTo z → a ≡ z
        same_caller a z e = cc e

        not_made : IsMaking (w.hand b) → ⊥
        not_made making = subst IsMaking left making

        not_out : (w.hand b ≡ InUse f.setting.counter) ⊎ (w.hand b ≡ Handed) → ⊥
        not_out (inl e) = cc (left, e)
        not_out (inr e) = cc (left, e)

    of_other : (b : ℕ) → IsOfEnd w owner j b → IsApart w i f b
    of_other b (inl used) = used_of_other b used
    of_other b (inr left) = left_to_other b left

    own_spares_other : SparesEnd w w2 batch_size owner root j
    own_spares_other = record {
      came = did.came2;
      blocks = λ b of. apart_spared b (of_other b of);
      counter = λ is making. apart_spared owner (making_apart w i f owner making counters);
      links = λ b word left is. (as_before same batch_size w i f facts w2 did b (left_to_other b left)).link ∙ is;
      behind = λ b x used at. let before = did.spares.behind x b at in (before, did.spares.owners x, behind_value same batch_size w i f facts w2 did x b before);
      onto = λ b l used on. subst (λ (r : ℕ → Row). IsOnto b (r l)) did.spares.rows on;
      root_leads = λ word is. (did.spares.roots root roots).0 ∙ is;
      root_used = λ is. (did.spares.roots root roots).1 ∙ is;
    }

  -- each other end knows what it knew
  pub other_facts : (j : ℕ) (g : Finishing K V) → j ≢ i → FinishingFacts same batch_size w j g → g.setting.root ≢ f.setting.root
      → (HasCounter f → HasCounter g → f.setting.counter ≢ g.setting.counter) → FinishingFacts same batch_size w2 j g
  other_facts j g other known roots counters = by (times g.setting.counter g.back) refl
    where
      -- a number that is not that of the end's counter stands for one that is no counter any more
      by : (k : ℕ) → times g.setting.counter g.back ≡ k → FinishingFacts same batch_size w2 j g
      by zero has = facts_on same batch_size w j g known w2 g.setting.counter (λ _. refl)
          (own_spares_other j other g.setting.counter g.setting.root roots (λ mine e. counters mine has (sym e)))
      by (suc k) gone = facts_on same batch_size w j g known w2 (suc f.setting.counter) (λ has. absurd (omega (arith, has, gone)))
          (own_spares_other j other (suc f.setting.counter) g.setting.root roots (λ mine e. omega (arith, e)))
