-- A step of the end of a map leaves each map that stands as it is.
use Rattle.std.specs.Prelude.{◌≢◌, Option}
use Rattle.std.proofs.Common.{◌≡◌, ℕ, Bool, inl, inr, ap, sym, subst, ◌∙◌}
use Rattle.many_calls.specs.Given.SeizeLaw.{is_somewhere}
use Rattle.many_calls.specs.Given.SeizeWorld.{World, Row, Use, IsInside, IsOnto}
use Rattle.many_calls.specs.Given.TablesDeclared.node.Node.{Node}
use Rattle.many_calls.specs.Given.TablesDeclared.setting.Setting.{Setting}
use Rattle.many_calls.specs.Given.RuleChart.{Chart}
use Rattle.many_calls.specs.Given.RuleWords.{Blocks}
use Rattle.many_calls.specs.Given.RuleInWorld.{IsOut, IsKnownBlock}
use Rattle.many_calls.specs.Given.PointsSteps.{AreLawful}
use Rattle.many_calls.specs.Kept.{IsUsersOwn, IsKeptBy}
use Rattle.many_calls.specs.Sights.{Visible}
use Rattle.many_calls.specs.Together.{UnderWay, CameAbout, Together}
use Rattle.many_maps.proofs.Beside.Maps.Left.{IsLeft, Leaves, left_spared}
use Rattle.many_maps.proofs.Beside.Maps.OtherSteps.{making_not_out, known_out, known_owner}
use Rattle.many_maps.proofs.Beside.Maps.Stays.{stays}
use Rattle.many_maps.specs.Endings.{Finishing, HasCounter, FinishingFacts}
use Rattle.many_maps.proofs.Among.Own.Apart.{IsApart, making_apart, Did, behind_value, IsAsBefore, as_before, keeps_all}

module _ {K V : Type 0} (same : K → K → Bool) (batch_size : ℕ) (w : World (Node K V)) (i : ℕ) (f : Finishing K V) (facts : FinishingFacts same batch_size w i f) (w2 : World (Node K V))
    (did : Did same batch_size w i f facts w2) where
  -- what is kept is kept
  pub kept_then : (b : ℕ) → IsAsBefore same batch_size w i f facts w2 did b → IsKeptBy w b → IsKeptBy w2 b
  kept_then b k (inl (inl own)) = inl (inl (subst IsUsersOwn (sym k.hand) own))
  kept_then b k (inl (inr there)) = inl (inr (ap is_somewhere k.place ∙ there))
  kept_then b k (inr (s, inside, held)) = inr (s, subst (λ (u : ℕ → Use). IsInside (u s)) (sym did.spares.uses) inside, k.held s ∙ held)

  module _ {Q : Type 0} (hash : K → ℕ) (asks : Q → K → Bool) (setting : Setting) (slot : ℕ → ℕ) (lawful : AreLawful same hash) (size : setting.batch_size ≡ batch_size)
      (c : Chart K) (blocks : Blocks) (sights : ℕ → Visible) (calls : ℕ → Option (UnderWay K V Q)) (s : Together V same hash asks setting slot w c blocks sights calls)
      (roots : f.setting.root ≢ setting.root) (counters : HasCounter f → f.setting.counter ≢ setting.counter) where
    -- a block of the map is apart
    known_apart : (b : ℕ) → IsKnownBlock c blocks b → IsApart w i f b
    known_apart b known =
        let out = known_out same hash asks setting slot w c blocks sights calls s b known in
        record {
          not_left = λ e. subst IsOut e out;
          not_counter = λ has e. making_not_out (w.hand f.setting.counter) (facts.facts.since.counter has).1 (subst (λ (y : ℕ). IsOut (w.hand y)) e out);
          not_owned = λ has of e. counters has (sym e ∙ known_owner same hash asks setting slot w c blocks sights calls s b known);
        }

    known_before : (b : ℕ) → IsKnownBlock c blocks b → IsAsBefore same batch_size w i f facts w2 did b
    known_before b known = as_before same batch_size w i f facts w2 did b (known_apart b known)

    -- and so is its counter
    counter_before : IsAsBefore same batch_size w i f facts w2 did setting.counter
    counter_before = as_before same batch_size w i f facts w2 did setting.counter (making_apart w i f setting.counter s.ground.counter (λ has e. counters has (sym e)))

    known_left : (b : ℕ) → IsKnownBlock c blocks b → IsLeft setting w c blocks calls w2 b
    known_left b known = let k = known_before b known in record {
      value = k.value;
      words = λ field word is. k.words field ∙ is;
      hand = k.hand;
      owner = did.spares.owners b;
      carried = λ t its at. k.place ∙ at;
      kept = kept_then b k;
      held = λ r inside h. k.held r ∙ h;
    }

    leaves : Leaves setting w c blocks calls w2
    leaves = record {
      came = subst (λ (n : ℕ). CameAbout n w2) (sym size) did.came2;
      known = known_left;
      behind = λ t x from made at. let before = did.spares.behind x (blocks.table t) at in (before, did.spares.owners x, behind_value same batch_size w i f facts w2 did x (blocks.table t) before);
      onto = λ t j from made on. subst (λ (r : ℕ → Row). IsOnto (blocks.table t) (r j)) did.spares.rows on;
      root = λ word is. (did.spares.roots setting.root (λ e. roots (sym e))).0 ∙ is;
      counter_value = counter_before.value;
      counter_hand = counter_before.hand;
      counter_words = λ field word is. counter_before.words field ∙ is;
      inside = λ r inside. subst (λ (u : ℕ → Use). IsInside (u r)) (sym did.spares.uses) inside;
      inside_before = λ r inside. subst (λ (u : ℕ → Use). IsInside (u r)) did.spares.uses inside;
      rows = λ j u has. ap (λ (r : ℕ → Row). r j) did.spares.rows;
      own = λ j u has. keeps_all same batch_size w i f facts w2 did j;
    }

    -- it stands on
    pub map_stands_on : Together V same hash asks setting slot w2 c blocks sights calls
    map_stands_on = stays same hash asks setting slot lawful w c blocks sights calls s w2 (left_spared same hash asks setting slot w c blocks sights calls s w2 leaves)
