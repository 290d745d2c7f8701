-- A caller whose disposal of a pair stands at a row of the collector begins it: the pair is retired, or deferred by the table before its own.
use Rattle.std.specs.Prelude.{◌≡◌, ◌≢◌, ℕ, suc, ◌*◌, ◌<◌, ◌≤◌, Bool, true, cond, eqb, ◌∷◌, Option}
use Rattle.std.proofs.Common.{false, refl, ap, sym, subst, ◌∙◌, inl, inr, arith}
use Rattle.std.proofs.lemmas.Bool.{cases_lt, eq-eqb, ne_eqb}
use Rattle.seize_model.specs.Given.SeizeWordsDeclared.at.At.TheVariants.{Word}
use Rattle.seize_model.specs.Given.SeizeDeclared.rows.defer.Defer.{Defer}
use Rattle.seize_model.specs.Given.SeizeDefer.{deferring}
use Rattle.seize_model.specs.Given.SeizeLaw.{With, Nowhere, Deferred, where_is, is_standing, holds}
use Rattle.seize_model.specs.Given.SeizeWorld.{World, Row, Rests, Settles, Defers, Hand, Begin, Defer', Begins, IsInside, IsNotLeft, MayCut, one_more}
use Rattle.seize_model.proofs.Given.SeizeMovesState.Held.{held_on}
use Rattle.seize_model.proofs.Given.SeizeRuleRows.Others.{with_here, with_other}
use Rattle.map_facts_late.proofs.Given.TablesLists.{table_list}
use Rattle.map_facts_late.specs.Given.TablesNodes.{deferred_word}
use Rattle.map_facts_late.specs.Given.TablesDeclared.node.Node.{Node}
use Rattle.map_facts_late.specs.Given.TablesDeclared.node.Node.TheVariants as node
use Rattle.map_facts_late.specs.Given.TablesDeclared.setting.Setting.{Setting}
use Rattle.map_facts_late.specs.Given.TablesDeclared.table_words.TheConstants.{DEFERRED}
use Rattle.map_facts_late.specs.Given.ResizeDispose as dispose
use Rattle.map_facts_late.specs.Given.ResizeDeclared.dispose.Dispose.{Dispose}
use Rattle.map_facts_late.specs.Given.ResizeDeclared.dispose.Disposing.{Disposing}
use Rattle.map_facts_late.specs.Given.ResizeDeclared.dispose.Disposing.TheVariants as disposes
use Rattle.map_facts_late.specs.Given.RuleChart.{Chart}
use Rattle.map_facts_late.specs.Given.RuleWords.{Blocks}
use Rattle.map_facts_late.specs.Given.RuleInWorld.{IsOut, IsHeldBy, IsMapIn}
use Rattle.map_facts_late.specs.Given.PointsFactsDisposes.{DisposeFacts}
use Rattle.map_facts_late.specs.Given.PointsTold.{IsRowOf}
use Rattle.map_facts_late.specs.Given.PointsSteps.{AreLawful}
use Rattle.many_calls.specs.Kept.{IsPairOf}
use Rattle.many_calls.specs.Rows.{row_of_disposal, IsRowOn}
use Rattle.many_calls.specs.Sights.{Visible, seen_by}
use Rattle.many_calls.specs.Together.{UnderWay, in_slot, CameAbout, Together}
use Rattle.many_calls.proofs.Rows.Behind.{deferred_behind}
use Rattle.many_calls.proofs.Rows.Defers.{defer_linked_in, defer_old_in}
use Rattle.many_calls.proofs.Rows.Retires.{counter_no_pair}
use Rattle.many_calls.proofs.Together.Came.{came_reached, came_next}
use Rattle.many_calls.proofs.Together.Begun as rows
use Rattle.many_calls.proofs.Together.Begun.{RowBegun}
use Rattle.many_calls.proofs.Together.Handed as handed
use Rattle.many_calls.proofs.Together.Slots.{alike_more, alike_at}

-- a block that is out is left to nobody
out_not_left : (h : Hand) → IsOut h → IsNotLeft h
out_not_left h o = grind (arith, o)

module _ {K V Q : Type 0} (same : K → K → Bool) (hash : K → ℕ) (asks : Q → K → Bool) (setting : Setting) (slot : ℕ → ℕ) (lawful : AreLawful same hash)
    (w : World (Node K V)) (c : Chart K) (blocks : Blocks) (sights : ℕ → Visible) (calls : ℕ → Option (UnderWay K V Q)) (s : Together V same hash asks setting slot w c blocks sights calls)
    (i : ℕ) (inside : IsInside (w.uses (slot i))) (rests : w.row i ≡ Rests) where
  abbrev known_pair : (n : ℕ) → n < c.stored → (sights (slot i)).pairs n ≡ true → blocks.pair_known n ≡ true
  known_pair n was seen = (s.ground.sight (slot i) inside).0.pairs n was seen

  -- the row of the disposal has begun
  abbrev RowOf : Row → Type 0
  RowOf row = RowBegun same hash asks setting slot lawful w c blocks sights calls s i inside rests row

  -- a pair is deferred by the table before its own
  module _ (d : Dispose) (x : Defer) (f : DisposeFacts w i (in_slot setting (slot i)) c (seen_by blocks (sights (slot i))) (dispose.standing d (disposes.Defers x))) where
    abbrev n : ℕ
    n = f.n

    abbrev v : ℕ
    v = f.point.2

    abbrev b : ℕ
    b = blocks.pair f.n

    abbrev t : ℕ
    t = blocks.table f.point.2

    made : v < c.past
    made = let e = f.point.3 in let m = f.table.made in omega (arith, e, m)

    known : blocks.pair_known n ≡ true
    known = known_pair n f.left.0 f.left.1

    table_known : blocks.table_known v ≡ true
    table_known = (s.ground.sight (slot i) inside).0.tables v made f.point.4

    abbrev begun : World (Node K V)
    begun = handed.begun same hash asks setting slot lawful w c blocks sights calls s i inside (blocks.pair f.n) (Defers (slot i) (deferring (blocks.pair f.n * 2048) (Word (blocks.table f.point.2) DEFERRED))) (Deferred (blocks.pair f.n) (blocks.table f.point.2) ∷ w.log)

    begins : Begins deferred_word setting.batch_size i (Defer' (slot i) (blocks.pair f.n) (blocks.table f.point.2)) w begun
    begins = (
      DEFERRED,
      inside,
      subst (MayCut i) (sym f.point.0) refl,
      (let p = s.ground.map.map.shows.pairs n f.left.0 known in (node.Pair p.0 p.1, p.2, refl)),
      (node.Table (c.len v) (c.limit v) v, (s.ground.map.map.shows.tables v made table_known).value, table_list K V (c.len v) (c.limit v) v (s.ground.map.map.rule.common.lens v made).0),
      (s.ground.sight (slot i) inside).1.tables v made f.point.4,
      out_not_left (w.hand t) (s.ground.map.tables_out v made table_known),
      refl,
    )

    map : IsMapIn same hash setting begun c blocks
    map = elim (cases_lt v c.first) as (λ _. IsMapIn same hash setting begun c blocks) [
      | inl old ↦ defer_old_in same hash setting w c blocks s.ground.map n t f.left.0 known f.left.2 i (slot i) begun begins
          (λ y j phase borrowed later there e. (let l = f.point.1 y j phase borrowed e in let is = f.point.3 in absurd (omega (arith, l, is, old, later))))
      | inr linked ↦ defer_linked_in same hash setting w c blocks (came_reached setting.batch_size w s.ground.came) s.ground.map n v f.left.0 known f.left.2 linked made i (slot i) begun
          (λ y j phase borrowed e. (let l = f.point.1 y j phase borrowed e in let is = f.point.3 in omega (arith, l, is))) begins
    ]

    parting_its : IsHeldBy i (w.hand b)
    parting_its = subst (IsHeldBy i) (sym f.point.0) refl

    other : setting.counter ≢ b
    other = counter_no_pair same hash setting w c blocks s.ground.map n f.left.0 known

    on : (r y : ℕ) → holds r y w.log ≡ true → holds r y (Deferred b t ∷ w.log) ≡ true
    on r y h = held_on r y (Deferred b t) w.log tt h

    unheld_on : (r y : ℕ) → holds r y (Deferred b t ∷ w.log) ≡ false → (z : Bool) → holds r y w.log ≡ z → holds r y w.log ≡ false
    unheld_on r y none false e = e
    unheld_on r y none true e = absurd (let h = on r y e in cc (none, h))

    here : holds (slot i) b (Deferred b t ∷ w.log) ≡ true
    here = on (slot i) b ((s.ground.sight (slot i) inside).1.pairs n f.left.0 f.left.1)

    elsewhere : (y : ℕ) → y ≢ b → where_is y (Deferred b t ∷ w.log) ≡ where_is y w.log
    elsewhere y ne = ap (λ (e : Bool). cond e (cond (is_standing (where_is t w.log)) (With t) Nowhere) (where_is y w.log)) (ne_eqb y b ne)

    -- it is a pair of the map, and lies behind the table before its own
    carried : (u : ℕ) → c.first ≤ u → u < c.past → where_is b (Deferred b t ∷ w.log) ≡ With (blocks.table u) → IsPairOf w setting.counter b × (suc u < c.past)
    carried u l u_made at =
        let p = s.ground.map.map.shows.pairs n f.left.0 known in
        let same_table : u ≡ v = s.ground.map.map.shows.tables_apart u v u_made made (s.ground.map.map.shows.linked u l u_made) table_known
        (sym (deferred_behind (eqb b b) (is_standing (where_is t w.log)) t (blocks.table u) (where_is b w.log) (eq-eqb b b refl) at)) in
        (record { owner_is = s.ground.owned.pairs n f.left.0 known; pair = (p.0, p.1, p.2) }, let next = f.point.3 in let its_made = f.table.made in omega (arith, same_table, next, its_made))

    came : CameAbout setting.batch_size begun
    came = came_next setting.batch_size w begun (Begin i (Defer' (slot i) b t)) s.ground.came (rests, begins)

    defers : (row : Row) → Defers (slot i) x ≡ row → RowOf row
    defers row is = record {
      v = begun;
      memory = refl;
      unheld = λ r y none. unheld_on r y none (holds r y w.log) refl;
      request = Defer' (slot i) b t;
      hands = (s.ground.owned.pairs n f.left.0 known, parting_its, s.ground.owned.tables v made table_known);
      happened = (rests, begins);
      ground = handed.ground_begun same hash asks setting slot lawful w c blocks sights calls s i inside b _ _ parting_its other here elsewhere on (λ y. refl)
          carried came map;
      others = handed.others_begun same hash asks setting slot lawful w c blocks sights calls s i inside b _ _ parting_its other here elsewhere on (λ y. refl)
          carried came map;
      now_inside = handed.inside_on w.uses (slot i) (slot i) inside;
      rows = λ j ne. with_other w.row i j (Defers (slot i) (deferring (b * 2048) (Word t DEFERRED))) ne;
      row_is = with_here w.row i (Defers (slot i) (deferring (b * 2048) (Word t DEFERRED))) ∙ ap (Defers (slot i)) (sym f.point.5) ∙ is;
      alike = alike_at w.uses (slot i) (one_more (w.uses (slot i))) (alike_more (w.uses (slot i)));
      on_slot = subst (IsRowOn (slot i)) (sym (with_here w.row i (Defers (slot i) (deferring (b * 2048) (Word t DEFERRED))))) refl;
    }

  pub disposal_begins : (d : Dispose) (x : Disposing) → IsRowOf x → DisposeFacts w i (in_slot setting (slot i)) c (seen_by blocks (sights (slot i))) (dispose.standing d x) → (row : Row) → row_of_disposal (slot i) x ≡ row
      → RowOf row
  disposal_begins d (disposes.Settles settle) at_row f row is =
      let known = known_pair f.n f.left.0 f.left.1 in
      rows.retires same hash asks setting slot lawful w c blocks sights calls s i inside rests (blocks.pair f.n) f.point.0.1 ((s.ground.sight (slot i) inside).1.pairs f.n f.left.0 f.left.1)
      (counter_no_pair same hash setting w c blocks s.ground.map f.n f.left.0 known) (s.ground.owned.pairs f.n f.left.0 known) row (ap Settles (sym f.point.0.0) ∙ is)
  disposal_begins d (disposes.Defers x) at_row f row is = defers d x f row is
  disposal_begins d disposes.Reads at_row f row is = absurd at_row
  disposal_begins d (disposes.Walks table) at_row f row is = absurd at_row
  disposal_begins d disposes.Over at_row f row is = absurd at_row
