-- The end of a map on which nobody has a call begins among others: from then on the map does not stand.
use Rattle.std.specs.Prelude.{◌≢◌, cond, Option, Some, None}
use Rattle.std.proofs.Common.{◌≡◌, ℕ, suc, ◌<◌, ◌≤◌, Bool, true, false, List, [], ◌⊎◌, inl, inr, refl, arith, ap, sym, subst, ◌∙◌}
use Rattle.std.proofs.lemmas.Bool.{cases_lt, ne_eqb}
use Rattle.many_calls.specs.Given.SeizeWordsDeclared.at.At.TheVariants.{Used}
use Rattle.many_calls.specs.Given.SeizeWordsMem.{word_at}
use Rattle.many_calls.specs.Given.SeizeLaw.{Ended, where_is, is_orphan, is_over, is_standing, owner_of}
use Rattle.many_calls.specs.Given.SeizeWorld.{World, IsOnto, Ends, Happens, with_at, with_effect}
use Rattle.many_calls.proofs.Given.SeizeAloneHistories.Further.{behind_it}
use Rattle.many_calls.proofs.Given.SeizeAloneHistories.Reached.{Reached}
use Rattle.many_calls.specs.Given.TablesChunks.{is_incremental}
use Rattle.many_calls.specs.Given.TablesNodes.{deferred_word}
use Rattle.many_calls.specs.Given.TablesDeclared.node.Node.{Node}
use Rattle.many_calls.specs.Given.TablesDeclared.node.Node.TheVariants as node
use Rattle.many_calls.specs.Given.RuleChart.{Claimed}
use Rattle.many_calls.proofs.Given.RuleLaws.{current_is_known}
use Rattle.many_calls.specs.Given.PointsFactsCopies.{HasDone, ClaimsNone}
use Rattle.many_calls.specs.Given.PointsFactsCopiesBlocking.{HasNoShares}
use Rattle.many_maps.specs.Makings.{Beginning, HasTaken, HasMade}
use Rattle.many_maps.specs.Maps.{Standing}
use Rattle.many_calls.specs.Together.{UnderWay, CameAbout, in_slot, Together}
use Rattle.many_maps.proofs.Beside.Endings.Begins.{without_it, makings_stand_without}
use Rattle.many_maps.proofs.Beside.Makings.Steps.{one_made, two_made}
use Rattle.many_calls.proofs.Rows.Defers.{used_stands}
use Rattle.many_calls.proofs.Together.Came.{came_reached, came_next, none_onto_pair}
use Rattle.many_maps.specs.Endings.{Finishing, HasCounter, AllPairsOnce, FinishingFacts, finishing_of, EndingsTogether, NoEndingsBegin, EndingsBegin}
use Rattle.many_maps.specs.FactsEnds.{HasDeferred, StandsFree, MayEnd}
use Rattle.many_calls.specs.Given.PointsSteps.{AreLawful}
use Rattle.many_maps.proofs.Among.LeftAlone.{table_counter, pair_counter, facts_alone}
use Rattle.many_maps.proofs.Ends.Lasts.{IsLeftAlone}
use Rattle.many_maps.proofs.Ends.OrdersOn.{before_none}
use Rattle.many_maps.proofs.Ends.OrdersPairs.{each_once, none_copying}
use Rattle.many_maps.proofs.Ends.Points.{began_in, end_begins}
use Rattle.many_maps.proofs.Ends.SinceOn.{IsSame}
use Rattle.many_calls.proofs.Given.General.{same_some as one_of}

-- A map that stands with no call on it may end.
module _ {K V Q : Type 0} (same : K → K → Bool) (asks : Q → K → Bool) (slot : ℕ → ℕ) (w : World (Node K V)) (s : Standing K) (calls : ℕ → Option (UnderWay K V Q))
    (stands : Together V same s.hash asks s.setting slot w s.chart s.blocks s.sights calls) (none : (j : ℕ) → calls j ≡ None) where
  reached : Reached deferred_word s.setting.batch_size w
  reached = came_reached s.setting.batch_size w stands.ground.came

  not_onto : (t j : ℕ) → s.chart.first ≤ t → t < s.chart.past → IsOnto (s.blocks.table t) (w.row j) → ⊥
  not_onto t j from made on = stands.onto t j from made on (none j)

  -- what each table carries now
  abbrev Carries : ℕ → Type 0
  Carries t = (l : List ℕ) × (s.chart.first ≤ t → t < s.chart.past → HasDeferred w (s.blocks.table t) l)

  carried_at : (t : ℕ) → (t < s.chart.past) ⊎ (s.chart.past ≤ t) → (t < s.chart.first) ⊎ (s.chart.first ≤ t) → Carries t
  carried_at t (inr over) from = ([], λ f made. absurd (omega (arith, made, over)))
  carried_at t (inl made) (inl early) = ([], λ f m. absurd (omega (arith, f, early)))
  carried_at t (inl made) (inr from) =
      let known = stands.ground.map.map.shows.linked t from made in
      let k = behind_it deferred_word w reached.good (s.blocks.table t) (λ j on. not_onto t j from made on) s.setting.counter (stands.ground.map.tables t from made)
      (node.Table (s.chart.len t) (s.chart.limit t) t) (stands.ground.map.map.shows.tables t made known).value in
      (k.blocks, λ f m. record { are = k.are; once = k.once; theirs = k.theirs; all = k.all })

  carried : (t : ℕ) → Carries t
  carried t = carried_at t (cases_lt t s.chart.past) (cases_lt t s.chart.first)

  pub lists_then : ℕ → List ℕ
  lists_then t = (carried t).0

  table_free : (t : ℕ) → s.chart.first ≤ t → t < s.chart.past → StandsFree s.setting s.chart s.blocks lists_then false same s.hash w (s.blocks.table t)
  table_free t from made = (
    stands.ground.owned.tables t made (stands.ground.map.map.shows.linked t from made),
    used_stands deferred_word s.setting.batch_size w reached (s.blocks.table t) (stands.ground.map.tables t from made),
    λ j on. not_onto t j from made on,
  )

  pair_free : (n : ℕ) → s.chart.current n ≡ true → StandsFree s.setting s.chart s.blocks lists_then false same s.hash w (s.blocks.pair n)
  pair_free n current =
      let known = current_is_known same s.hash s.setting w.memory s.chart s.blocks stands.ground.map.map.rule stands.ground.map.map.shows n current in
      let pair = stands.ground.map.map.shows.pairs n known.0 known.1 in (
        stands.ground.owned.pairs n known.0 known.1,
        used_stands deferred_word s.setting.batch_size w reached (s.blocks.pair n) (stands.ground.map.pairs n current),
        λ j on. none_onto_pair s.setting.batch_size w stands.ground.came j (s.blocks.pair n) pair.0 pair.1 pair.2 on,
      )

  module _ (used : word_at w.memory (Used s.setting.root) ≡ Some 1) where
    pub may_end_now : MayEnd s.setting s.chart s.blocks lists_then false same s.hash w
    unfolding lists_then
    may_end_now = record {
      map = stands.ground.map;
      counter = stands.ground.counter;
      used = used;
      tables = table_free;
      pairs = pair_free;
      carries = λ t from made. (carried t).1 from made;
      free = λ owned. absurd (cc owned);
    }

  -- nobody is copying a pair of it
  pub each_pair : AreLawful same s.hash → AllPairsOnce (is_incremental s.setting.mode) s.chart
  each_pair lawful = each_once same s.hash lawful (is_incremental s.setting.mode) s.chart stands.ground.map.map.rule (none_copying same s.hash (is_incremental s.setting.mode) s.chart stands.ground.map.map.rule claims_none)
    where
      claims_none : is_incremental s.setting.mode ≡ true → (i j : ℕ) → s.chart.share (suc s.chart.first) i ≢ Claimed j
      claims_none bits i j = (subst (λ (b : Bool). cond b
          (HasDone same s.hash w j (in_slot s.setting (slot j)) s.chart s.blocks 0 × ClaimsNone same s.hash w j (in_slot s.setting (slot j)) s.chart s.blocks)
          (HasNoShares same s.hash w j (in_slot s.setting (slot j)) s.chart s.blocks)) bits (stands.idle j (none j))).1 i

-- As another map begins to end, an end knows what it knew.
module _ {K V : Type 0} (same : K → K → Bool) (batch_size : ℕ) (w : World (Node K V)) (i : ℕ) (f : Finishing K V) (facts : FinishingFacts same batch_size w i f) (o : ℕ)
    (apart : HasCounter f → f.setting.counter ≢ o) (came : CameAbout batch_size (with_effect w (Ended o))) where
  abbrev ended : World (Node K V)
  ended = with_effect w (Ended o)

  -- a block of another owner is as it was
  same_as : (b : ℕ) → owner_of b w.log ≢ o → IsSame w ended b
  same_as b ne = record {
    value = refl;
    hand = refl;
    owner_is = refl;
    orphan = ap (λ (q : Bool). cond q true (is_orphan b w.log)) (ne_eqb (owner_of b w.log) o ne);
    over = ap (λ (q : Bool). cond q (cond (is_standing (where_is b w.log)) true (is_over b w.log)) (is_over b w.log)) (ne_eqb (owner_of b w.log) o ne);
  }

  left_alone : IsLeftAlone f.setting f.chart f.blocks facts.lists false w ended facts.past f.back
  left_alone = record {
    tables = λ t from made fresh. (
      same_as (f.blocks.table t) (λ e. apart (table_counter same batch_size w i f facts t from made fresh) (sym (facts.facts.since.tables t from made fresh).still.owner_is ∙ e)),
      λ field word other is. is,
    );
    pairs = λ n current fresh. same_as (f.blocks.pair n) (λ e. apart (pair_counter same batch_size w i f facts n current fresh) (sym (facts.facts.since.pairs n current fresh).0.owner_is ∙ e));
    counter = λ fresh. (refl, refl);
    tables_onto = λ t j from later made fresh on. ((facts.facts.since.tables t from made fresh).used later).1 j on;
    pairs_onto = λ n j current fresh on. (facts.facts.since.pairs n current fresh).1.1 j on;
    waits = λ x on. (refl, λ word is. is);
    root = (refl, refl);
  }

  pub facts_as_one_ends : FinishingFacts same batch_size ended i f
  facts_as_one_ends = facts_alone same batch_size w i f facts ended came left_alone
      (λ lists2 t x from later made at. let k = facts.theirs t x from later made at in record { owner_is = k.owner_is; pair = k.pair }) facts.waiting

module _ {K Q : Type 0} (V : Type 0) (same : K → K → Bool) (asks : Q → K → Bool) (batch_size roots : ℕ) (slot : ℕ → ℕ) where
  pub no_endings_begin : NoEndingsBegin V same asks batch_size roots slot
  no_endings_begin w maps calls makers makings = record {
    makings = makings;
    facts = λ i f ends. absurd (cc ends);
    alone = λ i f ends. absurd (cc ends);
    roots_apart = λ i m f s ends here e. cc ends;
    counters_apart = λ i m f s ends here has e. cc ends;
    makings_roots = λ i j f b ends makes taken e. cc ends;
    makings_counters = λ i j f b ends makes made has e. cc ends;
    their_roots = λ i j f g ne ends has e. cc ends;
    their_counters = λ i j f g ne ends has one two e. cc ends;
  }

  module _ (w : World (Node K V)) (maps : ℕ → Option (Standing K)) (calls : ℕ → ℕ → Option (UnderWay K V Q)) (makers : ℕ → Option (Beginning K)) (enders : ℕ → Option (Finishing K V))
      (all : EndingsTogether V same asks batch_size roots slot w maps calls makers enders) (i : ℕ) (unmaking : makers i ≡ None) (alone : (m : ℕ) → calls m i ≡ None)
      (m : ℕ) (s : Standing K) (here : maps m ≡ Some s) (none : (j : ℕ) → calls m j ≡ None) (w2 : World (Node K V)) (h : Happens deferred_word batch_size (Ends i s.setting.counter) w w2) where
    abbrev maps2 : ℕ → Option (Standing K)
    maps2 = with_at maps m None

    abbrev new : Finishing K V
    new = finishing_of s w

    abbrev enders2 : ℕ → Option (Finishing K V)
    enders2 = with_at enders i (Some new)

    stands : Together V same s.hash asks s.setting slot w s.chart s.blocks s.sights (calls m)
    stands = all.makings.standing.each m s here

    came2 : CameAbout batch_size (with_effect w (Ended s.setting.counter))
    came2 = subst (CameAbout batch_size) h (came_next batch_size w w2 (Ends i s.setting.counter) all.makings.standing.came h)

    its_facts : FinishingFacts same batch_size w2 i new
    its_facts = subst (λ (v : World (Node K V)). FinishingFacts same batch_size v i new) (sym h) (record {
      lawful = (all.makings.standing.fit m s here).0;
      batches = (all.makings.standing.fit m s here).2;
      lists = lists_then same asks slot w s (calls m) stands none;
      past = s.chart.first;
      stood = began_in same s.hash s.setting s.chart s.blocks (lists_then same asks slot w s (calls m) stands none) false i w may;
      facts = end_begins same s.hash s.setting s.chart s.blocks (lists_then same asks slot w s (calls m) stands none) false i w may;
      theirs = λ t x from later made at. let k = (stands.ground.behind t x from made at).0 in record { owner_is = k.owner_is; pair = k.pair };
      each = each_pair same asks slot w s (calls m) stands none (all.makings.standing.fit m s here).0;
      waits_are = sym (before_none s.setting s.chart s.blocks (lists_then same asks slot w s (calls m) stands none) false s.chart.first (omega arith));
      waiting = λ x on. absurd (omega (arith, on));
    })
      where
        may : MayEnd s.setting s.chart s.blocks (lists_then same asks slot w s (calls m) stands none) false same s.hash w
        may = may_end_now same asks slot w s (calls m) stands none (all.makings.used m s here)

    other_facts : (j : ℕ) (f : Finishing K V) → enders j ≡ Some f → FinishingFacts same batch_size w2 j f
    other_facts j f ends = subst (λ (v : World (Node K V)). FinishingFacts same batch_size v j f) (sym h)
        (facts_as_one_ends same batch_size w j f (all.facts j f ends) s.setting.counter (all.counters_apart j m f s ends here) came2)

    was : (n : ℕ) (r : Standing K) → maps2 n ≡ Some r → (n ≢ m) × (maps n ≡ Some r)
    was n r is = without_it V same asks batch_size slot w maps calls m i s.setting.counter w2 h n r is

    -- what is so of all ends, if it is so of this one and was so of the others
    of_all : (P : ℕ → Finishing K V → Type 0) → P i new → ((j : ℕ) (f : Finishing K V) → enders j ≡ Some f → P j f) → (j : ℕ) (f : Finishing K V) → enders2 j ≡ Some f → P j f
    of_all P its others = one_made enders i (Some new) P (λ f is. subst (P i) (one_of new f is) its) (λ j f other has. others j f has)

    pub begins_together : EndingsTogether V same asks batch_size roots slot w2 maps2 calls makers enders2
    begins_together = record {
      makings = makings_stand_without V same asks batch_size slot w maps calls m i s.setting.counter w2 h roots makers all.makings none;
      facts = of_all (λ j f. FinishingFacts same batch_size w2 j f) its_facts other_facts;
      alone = of_all (λ j f. ((n : ℕ) → calls n j ≡ None) × (makers j ≡ None)) (alone, unmaking) all.alone;
      roots_apart = λ j n f r ends is. let o = was n r is in
          of_all (λ j f. f.setting.root ≢ r.setting.root) (all.makings.standing.roots m n s r (λ e. o.0 (sym e)) here o.1) (λ j f has. all.roots_apart j n f r has o.1) j f ends;
      counters_apart = λ j n f r ends is. let o = was n r is in
          of_all (λ j f. HasCounter f → f.setting.counter ≢ r.setting.counter) (λ has. all.makings.standing.counters m n s r (λ e. o.0 (sym e)) here o.1) (λ j f has. all.counters_apart j n f r has o.1) j f ends;
      makings_roots = λ j l f b ends makes. of_all (λ j f. HasTaken b.machine.stands → f.setting.root ≢ b.machine.setting.root)
          (λ taken e. all.makings.roots_apart l m b s makes here taken (sym e)) (λ j f has. all.makings_roots j l f b has makes) j f ends;
      makings_counters = λ j l f b ends makes. of_all (λ j f. HasMade b.machine.stands → HasCounter f → f.setting.counter ≢ b.machine.setting.counter)
          (λ made has e. all.makings.counters_apart l m b s makes here made (sym e)) (λ j f has. all.makings_counters j l f b has makes) j f ends;
      their_roots = two_made enders i (Some new) (λ f g. f.setting.root ≢ g.setting.root)
          (λ f is j g other has. subst (λ (x : Finishing K V). (x.setting.root ≢ g.setting.root) × (g.setting.root ≢ x.setting.root)) (one_of new f is)
          (λ e. all.roots_apart j m g s has here (sym e), all.roots_apart j m g s has here)) all.their_roots;
      their_counters = two_made enders i (Some new) (λ f g. HasCounter f → HasCounter g → f.setting.counter ≢ g.setting.counter)
          (λ f is j g other has. subst (λ (x : Finishing K V). (HasCounter x → HasCounter g → x.setting.counter ≢ g.setting.counter) × (HasCounter g → HasCounter x → g.setting.counter ≢ x.setting.counter)) (one_of new f is)
          (λ one two e. all.counters_apart j m g s has here two (sym e), λ two one. all.counters_apart j m g s has here two)) all.their_counters;
    }

  pub endings_begin : EndingsBegin V same asks batch_size roots slot
  endings_begin w maps calls makers enders all i unending unmaking alone m s here none w2 h = (
    begins_together w maps calls makers enders all i unmaking alone m s here none w2 h,
    each_pair same asks slot w s (calls m) (all.makings.standing.each m s here) none (all.makings.standing.fit m s here).0,
  )
