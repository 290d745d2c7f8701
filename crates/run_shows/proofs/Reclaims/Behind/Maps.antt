-- Where a block is taken away that was left over, or a root is written that no map has which stands, each map stands as it stood.
use Rattle.std.specs.Prelude.{◌≢◌, Option, Some, None}
use Rattle.std.proofs.Common.{◌≡◌, ℕ, zero, suc, ◌<◌, Bool, inl, inr, refl, arith, ap, sym, subst, ◌∙◌}
use Rattle.std.proofs.lemmas.Bool.{cases_eq}
use Rattle.seize_words.specs.OneMemory.Mem.{value_at}
use Rattle.seize.specs.Law.{With, is_somewhere, where_is}
use Rattle.seize.specs.World.{World, Row, Use, LeftTo, IsInside, IsOnto, times}
use Rattle.run_effects.specs.Given.TablesNodes.{deferred_word}
use Rattle.run_effects.specs.Given.TablesDeclared.node.Node.{Node}
use Rattle.run_effects.specs.Given.TablesDeclared.setting.Setting.{Setting}
use Rattle.run_effects.specs.Given.RuleChart.{Chart}
use Rattle.run_effects.specs.Given.RuleWords.{Blocks}
use Rattle.run_effects.specs.Given.RuleInWorld.{IsOut, IsKnownBlock}
use Rattle.many_maps.specs.Given.PointsSteps.{AreLawful}
use Rattle.many_maps.specs.Given.CallersKept.{IsMaking, IsUsersOwn, IsKeptBy}
use Rattle.many_maps.specs.Given.CallersSights.{Visible}
use Rattle.many_maps.specs.Given.CallersTogether.{UnderWay, CameAbout, Together}
use Rattle.many_maps.proofs.Given.CallersRows.Behind.{behind_handed}
use Rattle.many_maps.proofs.Given.CallersTogether.Came.{came_reached}
use Rattle.many_maps.specs.Endings.{Finishing}
use Rattle.many_maps.specs.FactsEnds.{Deed, taken_by, left_by, cut_by, Spares}
use Rattle.many_maps.specs.Makings.{Beginning, HasRoots, MakingsTogether}
use Rattle.many_maps.specs.Maps.{Standing, MapsTogether}
use Rattle.many_maps.proofs.Among.Own.Makings.{IsRoot}
use Rattle.many_maps.proofs.Beside.Maps.All.{StandsSo}
use Rattle.many_maps.proofs.Beside.Maps.Left.{IsLeft, Leaves, left_spared}
use Rattle.many_maps.proofs.Beside.Maps.OtherSteps.{known_out}
use Rattle.many_maps.proofs.Beside.Maps.Stays.{stays}
use Rattle.run_shows.specs.Reclaims.Reclaims.{AllStandIdle}

-- what a step of reclaiming behind roots leaves
pub record Leaves' {K V : Type 0} (size i : ℕ) (setting : Setting) (w w2 : World (Node K V)) : Type 0 where
  pub deed : Deed
  pub spares : Spares setting i w w2 deed
  pub came2 : CameAbout size w2
  pub taken : (x : ℕ) → 0 < times x (taken_by deed) → (j : ℕ) × (w.hand x ≡ LeftTo j)
  pub none_left : (x : ℕ) → times x (left_by deed) ≡ 0
  pub none_cut : (x : ℕ) → times x (cut_by deed) ≡ 0

module _ {K V : Type 0} (size i : ℕ) (its : Setting) (w w2 : World (Node K V)) (did : Leaves' size i its w w2) where
  none_taken : (x : ℕ) → ((j : ℕ) → w.hand x ≡ LeftTo j → ⊥) → times x (taken_by did.deed) ≡ 0
  none_taken x other = by (times x (taken_by did.deed)) refl
    where
      by : (k : ℕ) → times x (taken_by did.deed) ≡ k → times x (taken_by did.deed) ≡ 0
      by zero e = e
      by (suc k) e = let l = did.taken x (omega (arith, e)) in absurd (other l.0 l.1)

  module _ {Q : Type 0} (same : K → K → Bool) (hash : K → ℕ) (asks : Q → K → Bool) (setting : Setting) (slot : ℕ → ℕ) (lawful : AreLawful same hash) (sized : setting.batch_size ≡ size)
      (c : Chart K) (blocks : Blocks) (sights : ℕ → Visible) (calls : ℕ → Option (UnderWay K V Q)) (idle : (j : ℕ) → calls j ≡ None)
      (s : Together V same hash asks setting slot w c blocks sights calls) (roots : setting.root ≢ its.root) where
    out_taken : (b : ℕ) → IsOut (w.hand b) → times b (taken_by did.deed) ≡ 0
    out_taken b out = none_taken b (λ j e. subst IsOut e out)

    counter_taken : times setting.counter (taken_by did.deed) ≡ 0
    counter_taken = none_taken setting.counter (λ j e. subst IsMaking e s.ground.counter)

    known_none : (b : ℕ) → IsKnownBlock c blocks b → times b (taken_by did.deed) ≡ 0
    known_none b known = out_taken b (known_out same hash asks setting slot w c blocks sights calls s b known)

    -- what lies behind another block keeps its value
    behind_value : (x b : ℕ) → where_is x w.log ≡ With b → value_at w2.memory x ≡ value_at w.memory x
    behind_value x b at =
        let handed = behind_handed deferred_word setting.batch_size w (came_reached setting.batch_size w s.ground.came) x b at in
        did.spares.values x (none_taken x (λ j e. (cc (handed, e))))

    place_same : (b : ℕ) → times b (taken_by did.deed) ≡ 0 → where_is b w2.log ≡ where_is b w.log
    place_same b none = did.spares.places b none (did.none_cut b) (λ t at. did.none_cut t)

    hand_same : (b : ℕ) → times b (taken_by did.deed) ≡ 0 → w2.hand b ≡ w.hand b
    hand_same b none = did.spares.hands b none (did.none_left b)

    kept_then : (b : ℕ) → times b (taken_by did.deed) ≡ 0 → IsKeptBy w b → IsKeptBy w2 b
    kept_then b none (inl (inl own)) = inl (inl (subst IsUsersOwn (sym (hand_same b none)) own))
    kept_then b none (inl (inr there)) = inl (inr (ap is_somewhere (place_same b none) ∙ there))
    kept_then b none (inr (r, inside, held)) = inr (r, subst (λ (u : ℕ → Use). IsInside (u r)) (sym did.spares.uses) inside, did.spares.held r b none ∙ held)

    known_left : (b : ℕ) → IsKnownBlock c blocks b → IsLeft setting w c blocks calls w2 b
    known_left b known = let none = known_none b known in record {
      value = did.spares.values b none;
      words = λ field word is. did.spares.words b field none ∙ is;
      hand = hand_same b none;
      owner = did.spares.owners b;
      carried = λ t its_known at. place_same b none ∙ at;
      kept = kept_then b none;
      held = λ r inside h. did.spares.held r b none ∙ h;
    }

    leaves : Leaves setting w c blocks calls w2
    leaves = record {
      came = subst (λ (n : ℕ). CameAbout n w2) (sym sized) did.came2;
      known = known_left;
      behind = λ t x from made at. let before = did.spares.behind x (blocks.table t) at in (before, did.spares.owners x, behind_value x (blocks.table t) before);
      onto = λ t j from made on. subst (λ (r : ℕ → Row). IsOnto (blocks.table t) (r j)) did.spares.rows on;
      root = λ word is. (did.spares.roots setting.root roots).0 ∙ is;
      counter_value = did.spares.values setting.counter counter_taken;
      counter_hand = hand_same setting.counter counter_taken;
      counter_words = λ field word is. did.spares.words setting.counter field counter_taken ∙ is;
      inside = λ r inside. subst (λ (u : ℕ → Use). IsInside (u r)) (sym did.spares.uses) inside;
      inside_before = λ r inside. subst (λ (u : ℕ → Use). IsInside (u r)) did.spares.uses inside;
      rows = λ j u has. absurd (let none = idle j in cc (has, none));
      own = λ j u has. absurd (let none = idle j in cc (has, none));
    }

    map_stands : Together V same hash asks setting slot w2 c blocks sights calls
    map_stands = stays same hash asks setting slot lawful w c blocks sights calls s w2 (left_spared same hash asks setting slot w c blocks sights calls s w2 leaves)

module _ {K Q : Type 0} (V : Type 0) (same : K → K → Bool) (asks : Q → K → Bool) (batch_size roots : ℕ) (slot : ℕ → ℕ)
    (maps : ℕ → Option (Standing K)) (calls : ℕ → ℕ → Option (UnderWay K V Q)) (makers : ℕ → Option (Beginning K)) (enders : ℕ → Option (Finishing K V))
    (w : World (Node K V)) (idle : AllStandIdle V same asks batch_size roots slot maps calls makers enders w) (i : ℕ) (its : Setting) (w2 : World (Node K V)) (did : Leaves' batch_size i its w w2)
    (apart : (m : ℕ) (s : Standing K) → maps m ≡ Some s → s.setting.root ≢ its.root) (root : IsRoot w2 its.root) where
  makings : MakingsTogether V same asks batch_size roots slot w maps calls makers
  makings = idle.together.makings

  stands_on : (m : ℕ) (s : Standing K) → maps m ≡ Some s → StandsSo V same asks batch_size slot w2 s (calls m)
  stands_on m s here =
      let fit = makings.standing.fit m s here in
      map_stands batch_size i its w w2 did same s.hash asks s.setting slot fit.0 fit.2 s.chart s.blocks s.sights (calls m) (idle.no_calls m) (makings.standing.each m s here) (apart m s here)

  maps_stand : MapsTogether V same asks batch_size slot w2 maps calls
  maps_stand = record {
    came = did.came2;
    each = stands_on;
    fit = makings.standing.fit;
    roots = makings.standing.roots;
    counters = makings.standing.counters;
    only = makings.standing.only;
    once = makings.standing.once;
  }

  has_roots : HasRoots w2 roots
  has_roots r below = elim (cases_eq r its.root) as (λ _. IsRoot w2 r) [
    | inl e ↦ subst (IsRoot w2) (sym e) root
    | inr ne ↦ (let h = makings.free r below in let k = did.spares.roots r ne in (h.0, k.1 ∙ h.1, λ none. k.0 ∙ h.2 none))
  ]

  no_maker : {X : Type 0} (j : ℕ) (b : Beginning K) → makers j ≡ Some b → X
  no_maker j b makes = absurd (let none = idle.no_makers j in cc (makes, none))

  no_ender : {X : Type 0} (j : ℕ) (f : Finishing K V) → enders j ≡ Some f → X
  no_ender j f ends = absurd (let none = idle.no_enders j in cc (ends, none))

  makings_stand : MakingsTogether V same asks batch_size roots slot w2 maps calls makers
  makings_stand = record {
    standing = maps_stand;
    free = has_roots;
    used = λ m s here. (did.spares.roots s.setting.root (apart m s here)).1 ∙ makings.used m s here;
    facts = λ j b makes. no_maker j b makes;
    alone = makings.alone;
    coming = makings.coming;
    numbers = makings.numbers;
    their_roots = makings.their_roots;
    roots_apart = makings.roots_apart;
    counters_apart = makings.counters_apart;
  }

  -- all stand on
  pub idle_stands : AllStandIdle V same asks batch_size roots slot maps calls makers enders w2
  idle_stands = record {
    together = record {
      makings = makings_stand;
      facts = λ j f ends. no_ender j f ends;
      alone = idle.together.alone;
      roots_apart = idle.together.roots_apart;
      counters_apart = idle.together.counters_apart;
      makings_roots = idle.together.makings_roots;
      makings_counters = idle.together.makings_counters;
      their_roots = idle.together.their_roots;
      their_counters = idle.together.their_counters;
    };
    no_calls = idle.no_calls;
    no_makers = idle.no_makers;
    no_enders = idle.no_enders;
  }
