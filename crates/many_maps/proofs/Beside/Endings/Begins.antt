-- An owner ends, as the end of a map begins: all other maps stand on, and all makings go on.
use Rattle.std.specs.Prelude.{◌≡◌, ◌≢◌, ℕ, Bool, Option, Some, None}
use Rattle.std.proofs.Common.{refl, ap, sym, subst, ◌∙◌, inl, inr}
use Rattle.std.proofs.lemmas.Bool.{cases_eq}
use Rattle.many_calls.specs.Given.SeizeLaw.{Ended}
use Rattle.many_calls.specs.Given.SeizeWorld.{World, Ends, Happens, with_at, with_effect}
use Rattle.many_calls.specs.Given.TablesNodes.{deferred_word}
use Rattle.many_calls.specs.Given.TablesDeclared.node.Node.{Node}
use Rattle.many_calls.specs.Given.TablesDeclared.setting.Setting.{Setting}
use Rattle.many_calls.specs.Given.RuleChart.{Chart}
use Rattle.many_calls.specs.Given.RuleWords.{Blocks}
use Rattle.many_calls.proofs.Given.RuleWorld.OthersSpared.{keeps_same}
use Rattle.many_calls.specs.Given.PointsSteps.{AreLawful}
use Rattle.many_maps.specs.Makings.{Beginning, MakingsTogether}
use Rattle.many_maps.specs.Maps.{Standing, MapsTogether}
use Rattle.many_calls.specs.Sights.{Visible}
use Rattle.many_calls.specs.Together.{UnderWay, CameAbout, Together}
use Rattle.many_maps.proofs.Beside.Makings.Beside.{makings_on}
use Rattle.many_maps.proofs.Beside.Makings.RowSteps.{left_untouched}
use Rattle.many_maps.proofs.Beside.Maps.All.{StandsSo}
use Rattle.many_maps.proofs.Beside.Maps.Stays.{Spared, stays}
use Rattle.many_calls.proofs.Together.At.{at_other, at_same}
use Rattle.many_calls.proofs.Together.Came.{came_next}

module _ {K V Q : Type 0} (same : K → K → Bool) (hash : K → ℕ) (asks : Q → K → Bool) (setting : Setting) (slot : ℕ → ℕ) (lawful : AreLawful same hash)
    (w : World (Node K V)) (c : Chart K) (blocks : Blocks) (sights : ℕ → Visible) (calls : ℕ → Option (UnderWay K V Q)) (s : Together V same hash asks setting slot w c blocks sights calls)
    (o : ℕ) (came : CameAbout setting.batch_size (with_effect w (Ended o))) where
  spared : Spared setting w c blocks calls same hash (with_effect w (Ended o))
  spared = record {
    came = came;
    map = record {
      map = s.ground.map.map;
      counter = s.ground.map.counter;
      shards = s.ground.map.shards;
      tables = s.ground.map.tables;
      pairs = s.ground.map.pairs;
      named = s.ground.map.named;
      tables_out = s.ground.map.tables_out;
      pairs_out = s.ground.map.pairs_out;
    };
    kept = λ b known k. k;
    owner = λ b known. refl;
    held = λ b known r in_it h. h;
    behind = λ t x l made at. (at, refl, refl);
    onto = λ t j l made on. on;
    value = λ n was known. refl;
    counter = s.ground.counter;
    inside = λ r h. h;
    inside_before = λ r h. h;
    rows = λ j u has. refl;
    own = λ j u has. keeps_same j w.memory w.hand;
  }

  -- a map stands on
  pub stands_as_one_ends : Together V same hash asks setting slot (with_effect w (Ended o)) c blocks sights calls
  stands_as_one_ends = stays same hash asks setting slot lawful w c blocks sights calls s (with_effect w (Ended o)) spared

module _ {K Q : Type 0} (V : Type 0) (same : K → K → Bool) (asks : Q → K → Bool) (size : ℕ) (slot : ℕ → ℕ) (w : World (Node K V)) (maps : ℕ → Option (Standing K)) (calls : ℕ → ℕ → Option (UnderWay K V Q))
    (m i o : ℕ) (w2 : World (Node K V)) (h : Happens deferred_word size (Ends i o) w w2) where
  -- a map that stands without this one stood, and is another one
  pub without_it : (n : ℕ) (r : Standing K) → with_at maps m None n ≡ Some r → (n ≢ m) × (maps n ≡ Some r)
  without_it n r is = elim (cases_eq n m) as (λ _. (n ≢ m) × (maps n ≡ Some r)) [
    | inl e ↦ absurd (let none = at_same maps m None n e in cc (none, is))
    | inr ne ↦ (ne, sym (at_other maps m None n ne) ∙ is)
  ]

  none_without_it : (n : ℕ) → maps n ≡ None → with_at maps m None n ≡ None
  none_without_it n none = elim (cases_eq n m) as (λ _. with_at maps m None n ≡ None) [
    | inl e ↦ at_same maps m None n e
    | inr ne ↦ at_other maps m None n ne ∙ none
  ]

  -- All maps but one stand on, where nobody has a call on that.
  module _ (all : MapsTogether V same asks size slot w maps calls) (alone : (j : ℕ) → calls m j ≡ None) where
    came2 : CameAbout size w2
    came2 = came_next size w w2 (Ends i o) all.came h

    stands : (n : ℕ) (r : Standing K) → maps n ≡ Some r → StandsSo V same asks size slot w2 r (calls n)
    stands n r is =
        let fit = all.fit n r is in
        subst (λ (v : World (Node K V)). StandsSo V same asks size slot v r (calls n)) (sym h)
        (stands_as_one_ends same r.hash asks r.setting slot fit.0 w r.chart r.blocks r.sights (calls n) (all.each n r is) o
        (subst (λ (k : ℕ). CameAbout k (with_effect w (Ended o))) (sym fit.2) (subst (CameAbout size) h came2)))

    pub maps_stand_without : MapsTogether V same asks size slot w2 (with_at maps m None) calls
    maps_stand_without = record {
      came = came2;
      each = λ n r is. stands n r (without_it n r is).1;
      fit = λ n r is. all.fit n r (without_it n r is).1;
      roots = λ n k r q ne is has. all.roots n k r q ne (without_it n r is).1 (without_it k q has).1;
      counters = λ n k r q ne is has. all.counters n k r q ne (without_it n r is).1 (without_it k q has).1;
      only = λ n j gone. elim (cases_eq n m) as (λ _. calls n j ≡ None) [
        | inl e ↦ ap (λ (x : ℕ). calls x j) e ∙ alone j
        | inr ne ↦ all.only n j (sym (at_other maps m None n ne) ∙ gone)
      ];
      once = all.once;
    }

  -- and all makings go on
  module _ (roots : ℕ) (makers : ℕ → Option (Beginning K)) (all : MakingsTogether V same asks size roots slot w maps calls makers) (alone : (j : ℕ) → calls m j ≡ None) where
    pub makings_stand_without : MakingsTogether V same asks size roots slot w2 (with_at maps m None) calls makers
    makings_stand_without =
        makings_on V same asks size roots slot w maps calls makers all w2
        (left_untouched V same asks size roots slot maps makers w w2 (ap (λ (v : World (Node K V)). v.memory) h) (ap (λ (v : World (Node K V)). v.hand) h))
        (with_at maps m None) calls (maps_stand_without all.standing alone) (λ n r is. (r, (without_it n r is).1, refl)) none_without_it all.alone
