-- What a step of a call leaves of the pairs of other maps, and of the numbers that no pair has yet.
use Rattle.std.specs.Prelude.{◌≡◌, ◌≢◌, ℕ, ◌+◌, ◌<◌, ◌≤◌, Bool, true, false, List, [], ◌∷◌, length, Option, Some, None}
use Rattle.std.proofs.Common.{refl, ap, sym, subst, ◌∙◌, arith, inl, inr}
use Rattle.std.proofs.lemmas.List.{length-append}
use Rattle.run_shows.specs.Given.SeizeWordsMem.{Mem}
use Rattle.run_shows.specs.Given.SeizeWorld.{World}
use Rattle.run_shows.specs.Given.TablesChunks.{is_incremental}
use Rattle.run_shows.specs.Given.TablesDeclared.node.Node.{Node}
use Rattle.run_shows.specs.Given.RunsDeclared.effect.Effect.{Effect}
use Rattle.run_shows.specs.Given.RunsDeclared.effect.Effect.TheVariants.{Copied, Stored, Replaced}
use Rattle.run_shows.specs.Given.RunsDeclared.effect.Spot.{Spot}
use Rattle.run_shows.specs.Given.RunsDeclared.effect.TableId.{TableId}
use Rattle.run_shows.specs.Given.SchedulesEffects.{later, new_pair, stored_by, with_effect, with_effects}
use Rattle.run_shows.specs.Given.SchedulesEntry.{acting}
use Rattle.run_shows.specs.Given.SchedulesLists.{put}
use Rattle.run_shows.specs.Given.SchedulesMoment.{Moment, UnderWay}
use Rattle.run_shows.specs.Given.SchedulesViews.{is_in_map}
use Rattle.run_shows.specs.Given.EffectsDeclared.changed.Changed.{Changed}
use Rattle.run_shows.specs.Given.RuleChart.{Chart}
use Rattle.run_shows.specs.Given.RuleMoves.{Move, Links, Stores, Replaces, Removes, Marks, MarksBlocking, Skips, Unmarks, Puts, Covers, PutsLate, Claims, Reclaims, Counts, GivesUp, Aborts, Promotes, Announces}
use Rattle.run_shows.specs.Given.RuleWords.{Blocks}
use Rattle.run_shows.specs.Given.RuleMaps.{spot_of}
use Rattle.run_shows.specs.Given.RuleInWorld.{IsMapIn, Moved, StepSpec}
use Rattle.run_shows.specs.Given.PointsSteps.{AreLawful}
use Rattle.run_shows.specs.Given.CallersSights.{Visible, seen_by, IsGrown, IsVisibility}
use Rattle.run_shows.specs.Given.CallersTogether.{in_slot}
use Rattle.run_shows.specs.Given.FinishesMaps.{Standing}
use Rattle.run_shows.specs.Given.EffectsEffects.{effects_of, known_after}
use Rattle.run_shows.specs.Given.EffectsKnown.{Known}
use Rattle.run_shows.specs.Given.EffectsDeclared.acting.Acting.TheVariants.{Call}
use Rattle.run_shows.specs.Given.EffectsDeclared.role.Role.TheVariants as role
use Rattle.run_shows.specs.Follows.Blocks.{RefinesBlocks}
use Rattle.run_shows.specs.Follows.Maps.{table_of, RefinesMap}
use Rattle.run_shows.proofs.Follows.Alike.{put_elsewhere}
use Rattle.run_shows.proofs.Follows.Onward.{IsLasting, KeepsRoles}
use Rattle.run_shows.proofs.Follows.Operations.{LeavesBy}
use Rattle.run_places.specs.Spots.Spots.{spot_in, LiesAt, IsCopiedTo, IsPairOf, RefinesSpots}
use Rattle.run_places.proofs.Spots.Calm.{IsCalm}
use Rattle.run_places.proofs.Spots.Done.{DidBy, DidMoved}
use Rattle.run_places.proofs.Spots.Effects.{AllAside, AreAside, aside_all, calm_aside, spot_copied_other, spot_promoted_other}
use Rattle.run_places.proofs.Spots.Own.{keeps_put, keeps_pair}

module _ {K V : Type 0} where
  stored_more : (o : Option (UnderWay K V)) (f : Effect) (stored : List (K × V)) → length stored ≤ length (stored_by o f stored)
  stored_more None f stored = omega arith
  stored_more (Some c) (Stored n s) stored = let e = length-append stored (new_pair c.call c n) in omega (arith, e)
  stored_more (Some c) _ stored = omega arith

  -- no pair that was stored is so no more
  pub stored_grows : (caller : Option (List ℕ)) (acted : Option ℕ) (effects : List Effect) (m : Moment K V) → length m.stored ≤ length (with_effects caller acted effects m).stored
  stored_grows caller acted [] m = omega arith
  stored_grows caller acted (f ∷ effects) m =
      let one = stored_more (acting caller m) f m.stored in
      let more = stored_grows caller acted effects (with_effect caller acted f m) in
      omega (arith, one, more)

  -- pairs of other maps lie where they lay, and numbers to come have no copies
  pub record IsElsewhere (map : ℕ) (m v : Moment K V) : Type 0 where
    pub born : (k : ℕ) → k ≤ length m.stored → v.born k ≡ m.born k
    pub spot : (k : ℕ) → k ≤ length m.stored → (m.born k).map ≢ map → is_in_map map (m.place k) ≡ false → v.spot k ≡ m.spot k
    pub copy : (k : ℕ) → (m.born k).map ≢ map → v.copy k ≡ m.copy k
    pub beyond : (k : ℕ) → length m.stored < k → v.copy k ≡ m.copy k

  pub aside_elsewhere : (map : ℕ) (m v : Moment K V) → AreAside m v → IsElsewhere map m v
  aside_elsewhere map m v aside = record {
    born = λ k l. ap (λ (f : ℕ → TableId). f k) aside.born;
    spot = λ k l apart out. ap (λ (f : ℕ → Spot). f k) aside.spot;
    copy = λ k apart. ap (λ (f : ℕ → Spot). f k) aside.copy;
    beyond = λ k l. ap (λ (f : ℕ → Spot). f k) aside.copy;
  }

  -- each pair of another map lies where it lay
  pub other_lies : (map of : ℕ) (number : ℕ → ℕ) (s : Standing K) (m v : Moment K V) (known known2 : Known) → of ≢ map → RefinesMap of number s m known → KeepsRoles known known2 → IsElsewhere map m v
      → ((n : ℕ) → s.chart.current n ≡ true → is_in_map map (m.place (number n)) ≡ false) → RefinesSpots s m known → RefinesSpots s v known2
  other_lies map of number s m v known known2 apart shown keeps away out h = record {
    born = λ n k t i b pair e. subst (λ (x : TableId). x.turn ≤ t) (sym (away.born k (within n k pair))) (h.born n k t i b (was n k pair) e);
    whole = h.whole;
    lies = λ n k pair current.
        subst (λ (x : TableId). LiesThere n (v.spot k) x.turn) (sym (away.born k (within n k pair)))
        (subst (λ (x : Spot). LiesThere n x (m.born k).turn) (sym (away.spot k (within n k pair) (elsewhere n k pair) (subst (λ (x : ℕ). is_in_map map (m.place x) ≡ false) (its n k pair) (out n current))))
        (h.lies n k (was n k pair) current));
    copied = λ e n k pair current. subst (λ (x : Spot). IsCopiedTo s.chart n x) (sym (away.copy k (elsewhere n k pair))) (h.copied e n k (was n k pair) current);
  }
    where
      LiesThere : ℕ → Spot → ℕ → Type 0
      LiesThere n x born = LiesAt s.chart (is_incremental s.setting.mode) n x born

      its : (n k : ℕ) → IsPairOf s known2 n k → number n ≡ k
      its n k (l, seen, is) =
          let had = shown.pairs.roles n l seen in
          let now : known2.roles (s.blocks.pair n) ≡ role.Pair (number n) = keeps (s.blocks.pair n) (subst IsLasting (sym had) tt) ∙ had in
          cc (now, is)

      was : (n k : ℕ) → IsPairOf s known2 n k → IsPairOf s known n k
      was n k pair = (pair.0, pair.1, shown.pairs.roles n pair.0 pair.1 ∙ ap role.Pair (its n k pair))

      within : (n k : ℕ) → IsPairOf s known2 n k → k ≤ length m.stored
      within n k pair = let le = (shown.pairs.numbered n pair.0).1 in let e = its n k pair in omega (arith, le, e)

      elsewhere : (n k : ℕ) → IsPairOf s known2 n k → (m.born k).map ≢ map
      elsewhere n k pair e = apart (sym (shown.pairs.born n pair.0) ∙ ap (λ (x : ℕ). (m.born x).map) (its n k pair) ∙ e)

module _ {K V : Type 0} (same : K → K → Bool) (slot caller map : ℕ) (name : Option (List ℕ)) (number : ℕ → ℕ) (s : Standing K) (lawful : AreLawful same s.hash)
    (w : World (Node K V)) (sight : Visible) (is_sight : IsVisibility s.chart s.blocks sight) (is_map : IsMapIn same s.hash (in_slot s.setting slot) w s.chart (seen_by s.blocks sight))
    (m2 : Mem (Node K V)) (Told : World (Node K V) → Chart K → Blocks → Type 0)
    (went : StepSpec same s.hash (in_slot s.setting slot) caller w s.chart (seen_by s.blocks sight) m2 Told) (blocks2 : Blocks) (grown : IsGrown s.chart s.blocks went.blocks2 blocks2) (sights2 : ℕ → Visible)
    (m : Moment K V) (known : Known) (shown : RefinesMap map number s m known) (shown_blocks : RefinesBlocks m known w)
    (told : Changed) (left : LeavesBy w.memory m2 told) where
  abbrev c : Chart K
  c = s.chart

  abbrev By : Move K → Type 0
  By = DidBy same slot caller map name number s lawful w sight is_sight is_map m2 Told went blocks2 grown sights2 m known shown shown_blocks told left

  abbrev effects : List Effect
  effects = effects_of (Call caller map) known told

  abbrev known2 : Known
  known2 = known_after (Call caller map) told known

  abbrev led : List Effect → Moment K V
  led e = with_effects name (Some map) e m

  -- what others have stays, and what was linked keeps its role
  pub record Leaves (e : List Effect) (k : Known) : Type 0 where
    pub elsewhere : IsElsewhere map m (led e)
    pub keeps : KeepsRoles known k

  as_done : (e : List Effect) (k : Known) → (effects ≡ e) × (known2 ≡ k) → Leaves e k → Leaves effects known2
  as_done e k done h = subst (λ (x : List Effect). Leaves x known2) (sym done.0) (subst (Leaves e) (sym done.1) h)

  aside_leaves : (e : List Effect) (k : Known) → AllAside e → KeepsRoles known k → Leaves e k
  aside_leaves e k all keeps = record { elsewhere = aside_elsewhere map m (led e) (aside_all name (Some map) e m all); keeps = keeps }

  calm_leaves : IsCalm known effects known2 → Leaves effects known2
  calm_leaves calm = aside_leaves effects known2 (calm_aside effects calm.calm) calm.keeps

  -- a pair was stored
  store_leaves : (first : List Effect) (t i : ℕ) (v : Moment K V) → v.spot ≡ put (known.stored + 1) (spot_in t i) m.spot → v.copy ≡ m.copy → v.born ≡ put (known.stored + 1) (table_of map t) m.born → IsElsewhere map m v
  store_leaves first t i v spot_is copy_is born_is = record {
    born = λ k l. ap (λ (f : ℕ → TableId). f k) born_is ∙ put_elsewhere (known.stored + 1) (table_of map t) m.born k (λ e. (let many = shown_blocks.stored in omega (arith, many, e, l)));
    spot = λ k l apart out. ap (λ (f : ℕ → Spot). f k) spot_is ∙ put_elsewhere (known.stored + 1) (spot_in t i) m.spot k (λ e. (let many = shown_blocks.stored in omega (arith, many, e, l)));
    copy = λ k apart. ap (λ (f : ℕ → Spot). f k) copy_is;
    beyond = λ k l. ap (λ (f : ℕ → Spot). f k) copy_is;
  }

  -- a pair of the map was copied
  copy_leaves : (n : ℕ) (sp : Spot) → n < c.stored → Leaves (Copied (number n) sp ∷ []) known
  copy_leaves n sp old = record {
    elsewhere = record {
      born = λ k l. refl;
      spot = λ k l apart out. spot_copied_other _ m.place m.copy (number n) sp m.spot k (not_its k apart);
      copy = λ k apart. put_elsewhere (number n) (later (m.copy (number n)) sp) m.copy k (not_its k apart);
      beyond = λ k l. put_elsewhere (number n) (later (m.copy (number n)) sp) m.copy k (λ e. (let le = (shown.pairs.numbered n old).1 in omega (arith, e, le, l)));
    };
    keeps = λ b lasting. refl;
  }
    where
      not_its : (k : ℕ) → (m.born k).map ≢ map → k ≢ number n
      not_its k apart e = apart (ap (λ (x : ℕ). (m.born x).map) e ∙ shown.pairs.born n old)

  by_move : (move : Move K) → By move → Leaves effects known2
  by_move (Links len limit) (b, own, done) = as_done _ _ done (aside_leaves _ _ (refl, tt) (keeps_put known b (role.Table (table_of map c.past) len) (λ lasting. subst IsLasting own lasting)))
  by_move (Stores t k j) (i, b, own, its_block, done) = as_done _ _ done (record {
    elsewhere = store_leaves [] t (spot_of s.hash (c.len t) k j) (led (Stored (known.stored + 1) (spot_in t (spot_of s.hash (c.len t) k j)) ∷ []))
        refl refl refl;
    keeps = keeps_pair known b (λ lasting. subst IsLasting own lasting);
  })
  by_move (Replaces t i k) (n, borrowed, held, (j, b, own, its_block, done)) = as_done _ _ done (record {
    elsewhere = store_leaves (Replaced (number n) ∷ []) t i (led (Replaced (number n) ∷ Stored (known.stored + 1) (spot_in t i) ∷ []))
        refl refl refl;
    keeps = keeps_pair known b (λ lasting. subst IsLasting own lasting);
  })
  by_move (Removes t i) (n, borrowed, held, done) = as_done _ _ done (aside_leaves _ _ (refl, tt) (λ b lasting. refl))
  by_move (Puts by i t k j) (n, borrowed, held, l, seen, done) = as_done _ _ done (copy_leaves n (spot_in t (spot_of s.hash (c.len t) k j)) l)
  by_move (PutsLate t i n) (l, seen, seen_table, done) = as_done _ _ done (copy_leaves n (spot_in t i) l)
  by_move (Promotes t) done = as_done _ _ done (record {
    elsewhere = record {
      born = λ k l. refl;
      spot = λ k l apart out. spot_promoted_other _ m.place m.copy (table_of map t) m.spot k out;
      copy = λ k apart. refl;
      beyond = λ k l. refl;
    };
    keeps = λ b lasting. refl;
  })
  by_move (Marks by i) calm = calm_leaves calm
  by_move (MarksBlocking i) calm = calm_leaves calm
  by_move (Skips by t i) calm = calm_leaves calm
  by_move (Unmarks by i) calm = calm_leaves calm
  by_move (Covers by i) calm = calm_leaves calm
  by_move (Claims by t chunk) calm = calm_leaves calm
  by_move (Reclaims t claim) calm = calm_leaves calm
  by_move (Counts by t many) calm = calm_leaves calm
  by_move (GivesUp by t) calm = calm_leaves calm
  by_move (Aborts t) calm = calm_leaves calm
  by_move (Announces t) calm = calm_leaves calm

  pub moved_leaves : DidMoved same slot caller map name number s lawful w sight is_sight is_map m2 Told went blocks2 grown sights2 m known shown shown_blocks told left went.moved → Leaves effects known2
  moved_leaves did = by went.moved did
    where
      by : (moved : Moved same s.hash s.setting.mode caller c went.c2) → DidMoved same slot caller map name number s lawful w sight is_sight is_map m2 Told went blocks2 grown sights2 m known shown shown_blocks told left moved → Leaves effects known2
      by (inl still) calm = calm_leaves calm
      by (inr made) did = by_move made.0 did
