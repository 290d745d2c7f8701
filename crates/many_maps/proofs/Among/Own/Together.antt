-- After a step of the end of a map all stand together: the maps, the makings, the other ends, and this one, if it goes on.
use Rattle.std.specs.Prelude.{◌≢◌, Option, Some, None}
use Rattle.std.proofs.Common.{◌≡◌, ℕ, Bool, ap, sym, ◌∙◌}
use Rattle.many_calls.specs.Given.SeizeWorld.{World, with_at}
use Rattle.many_calls.specs.Given.TablesDeclared.node.Node.{Node}
use Rattle.many_calls.specs.Given.TablesDeclared.setting.Setting.{Setting}
use Rattle.many_maps.specs.Makings.{Beginning}
use Rattle.many_maps.specs.Maps.{Standing}
use Rattle.many_calls.specs.Together.{UnderWay}
use Rattle.many_maps.proofs.Beside.Makings.Steps.{one_made, two_made}
use Rattle.many_maps.specs.Endings.{Finishing, HasCounter, FinishingFacts, EndingsTogether}
use Rattle.many_maps.proofs.Among.Own.Apart.{Did}
use Rattle.many_maps.proofs.Among.Own.Makings.{IsRoot, makings_stand_on}
use Rattle.many_maps.proofs.Among.Own.Others.{other_facts}

module _ {K Q : Type 0} (V : Type 0) (same : K → K → Bool) (asks : Q → K → Bool) (batch_size roots : ℕ) (slot : ℕ → ℕ)
    (w : World (Node K V)) (maps : ℕ → Option (Standing K)) (calls : ℕ → ℕ → Option (UnderWay K V Q)) (makers : ℕ → Option (Beginning K)) (enders : ℕ → Option (Finishing K V))
    (all : EndingsTogether V same asks batch_size roots slot w maps calls makers enders) (i : ℕ) (f : Finishing K V) (is : enders i ≡ Some f) (w2 : World (Node K V))
    (did : Did same batch_size w i f (all.facts i f is) w2) (root : IsRoot w2 f.setting.root) (new : Option (Finishing K V))
    (its : (g : Finishing K V) → new ≡ Some g → FinishingFacts same batch_size w2 i g × (g.setting ≡ f.setting) × (HasCounter g → HasCounter f)) where
  same_root : (g : Finishing K V) → new ≡ Some g → f.setting.root ≡ g.setting.root
  same_root g e = ap (λ (x : Setting). x.root) (sym (its g e).1)

  same_counter : (g : Finishing K V) → new ≡ Some g → f.setting.counter ≡ g.setting.counter
  same_counter g e = ap (λ (x : Setting). x.counter) (sym (its g e).1)

  -- an end that is none of this caller's knows what it knew
  beside : (j : ℕ) (g : Finishing K V) → j ≢ i → enders j ≡ Some g → FinishingFacts same batch_size w2 j g
  beside j g other has =
      other_facts same batch_size w i f (all.facts i f is) w2 did j g other (all.facts j g has) (all.their_roots j i g f other has is)
      (λ mine theirs. all.their_counters i j f g (λ e. other (sym e)) is has mine theirs)

  pub ends_stand : EndingsTogether V same asks batch_size roots slot w2 maps calls makers (with_at enders i new)
  ends_stand = record {
    makings = makings_stand_on V same asks batch_size roots slot w maps calls makers all.makings i f (all.facts i f is) w2 did (λ m s here. all.roots_apart i m f s is here)
        (λ m s here has. all.counters_apart i m f s is here has) (λ j b makes taken. all.makings_roots i j f b is makes taken) (λ j b makes made has. all.makings_counters i j f b is makes made has) root;
    facts = one_made enders i new (λ j g. FinishingFacts same batch_size w2 j g) (λ g e. (its g e).0) beside;
    alone = one_made enders i new (λ j g. ((m : ℕ) → calls m j ≡ None) × (makers j ≡ None)) (λ g e. all.alone i f is) (λ j g other has. all.alone j g has);
    roots_apart = λ j m g s has here. one_made enders i new (λ l h. h.setting.root ≢ s.setting.root) (λ h e x. all.roots_apart i m f s is here (same_root h e ∙ x))
        (λ l h other there. all.roots_apart l m h s there here) j g has;
    counters_apart = λ j m g s has here. one_made enders i new (λ l h. HasCounter h → h.setting.counter ≢ s.setting.counter)
        (λ h e counter x. all.counters_apart i m f s is here ((its h e).2 counter) (same_counter h e ∙ x)) (λ l h other there. all.counters_apart l m h s there here) j g has;
    makings_roots = λ j l g b has makes taken. one_made enders i new (λ k h. h.setting.root ≢ b.machine.setting.root) (λ h e x. all.makings_roots i l f b is makes taken (same_root h e ∙ x))
        (λ k h other there. all.makings_roots k l h b there makes taken) j g has;
    makings_counters = λ j l g b has makes made. one_made enders i new (λ k h. HasCounter h → h.setting.counter ≢ b.machine.setting.counter)
        (λ h e counter x. all.makings_counters i l f b is makes made ((its h e).2 counter) (same_counter h e ∙ x)) (λ k h other there. all.makings_counters k l h b there makes made) j g has;
    their_roots = λ j l g h ne has there. two_made enders i new (λ x y. x.setting.root ≢ y.setting.root)
        (λ x e k y other there. (
          λ z. all.their_roots i k f y (λ z. other (sym z)) is there (same_root x e ∙ z),
          λ z. all.their_roots k i y f other there is (z ∙ sym (same_root x e)),
        )) all.their_roots j l g h ne has there;
    their_counters = λ j l g h ne has there. two_made enders i new (λ x y. HasCounter x → HasCounter y → x.setting.counter ≢ y.setting.counter)
        (λ x e k y other there. (
          λ mine theirs z. all.their_counters i k f y (λ z. other (sym z)) is there ((its x e).2 mine) theirs (same_counter x e ∙ z),
          λ theirs mine z. all.their_counters k i y f other there is theirs ((its x e).2 mine) (z ∙ sym (same_counter x e)),
        )) all.their_counters j l g h ne has there;
  }
