-- In blocking mode, a copier makes its target the root, and with that unlinks the tables before it.
use Rattle.std.specs.Prelude.{Some, Ok, ◌*◌}
use Rattle.std.proofs.Common.{◌≡◌, ℕ, suc, ◌-◌, ◌<◌, Bool, false, cond, inl, inr, refl, ap, ap₂, sym, subst, ◌∙◌, arith}
use Rattle.std.proofs.lemmas.Bool.{ne_eqb}
use Rattle.map_rule.specs.Given.SeizeWordsDeclared.at.At.TheVariants.{Root}
use Rattle.map_rule.specs.Given.SeizeWordsMem.{Mem, Can, Took, value_at, word_at, with_word}
use Rattle.map_rule.specs.Given.SeizeWordsOp.{Exchange, Exchanged}
use Rattle.map_rule.specs.Given.SeizeWordsPlan.{May, Steps}
use Rattle.map_rule.proofs.Given.SeizeWordsOneOwner.Operations.{may_exchange, exchanged}
use Rattle.papaya_raw.specs.Given.SeizeWorld.{World}
use Rattle.papaya_raw.specs.Given.TablesChunks.{is_incremental}
use Rattle.map_rule.specs.Given.ResizeCopierStates.{standing}
use Rattle.map_rule.specs.Given.ResizeCopierPromotes.{promoted, promotes}
use Rattle.papaya_raw.specs.Given.TablesDeclared.node.Node.{Node}
use Rattle.map_rule.specs.Given.ResizeDeclared.yielding.Yielding.{Yielding}
use Rattle.map_rule.specs.Given.ResizeDeclared.yielding.Yielding.TheVariants.{Goes}
use Rattle.papaya_raw.specs.Given.TablesDeclared.setting.Setting.{Setting}
use Rattle.papaya_raw.specs.Given.TablesDeclared.table.Table.{Table}
use Rattle.map_rule.specs.Given.ResizeDeclared.copier.Copier.{Copier}
use Rattle.map_rule.specs.Given.ResizeDeclared.copier.Copying.TheVariants as at
use Rattle.map_rule.specs.Chart.{Counted, Chart}
use Rattle.map_rule.specs.Rule.{Rule, IsLawful}
use Rattle.map_rule.specs.Moves.{passing, Promotes, Allowed}
use Rattle.map_rule.specs.Words.{Blocks}
use Rattle.map_rule.specs.Maps.{spot_of, IsMap}
use Rattle.map_rule.specs.InWorld.{IsMapIn}
use Rattle.map_facts.specs.FactsCopiesBlocking.{RestsIn, CopierFactsBlocking}
use Rattle.map_facts.specs.FactsAloneBlocking.{AloneBlocking}
use Rattle.map_facts.proofs.Steps.AloneCharts.{aborted_promoted, uncounted_promoted}
use Rattle.map_facts.proofs.Copiers.CopierWent.{CopierTells, CopierCame}
use Rattle.map_rule.proofs.World.CutTables.{IsCut, cut_tables}
use Rattle.map_rule.proofs.World.Hands.{Hands}
use Rattle.map_rule.proofs.World.WentStill.{spares_then, spares_written}
use Rattle.map_rule.proofs.World.Footprints.{framed_written}
use Rattle.map_rule.proofs.Words.LinksOwn.{links_none}
use Rattle.map_rule.proofs.World.MovesKnown.{spares_moved}
use Rattle.map_rule.proofs.World.OthersSpared.{keeps_then, keeps_written}
use Rattle.map_rule.proofs.World.WentWrote.{HasCounter, counter_of, counter_written, map_in, map_moved, went_after, later_kept}
use Rattle.map_rule.proofs.Words.WritesTables.{root_written}
use Rattle.map_rule.proofs.Given.General.{some_is as is_some_of}

module _ {K V : Type 0} (same : K → K → Bool) (hash : K → ℕ) (caller : ℕ) (setting : Setting) (w : World (Node K V)) (c : Chart K) (blocks : Blocks)
    (map : IsMapIn same hash setting w c blocks) (lawful : IsLawful same (spot_of hash)) (blocking : is_incremental setting.mode ≡ false) (p : Copier) (setting_is : p.setting ≡ setting)
    (t : ℕ) (rests : RestsIn same hash w caller setting c blocks p t) (counted : (j : ℕ) → j < c.len c.first → c.share t j ≡ Counted) where
  source_is : p.source.link ≡ blocks.table c.first * 2048
  source_is = ap (λ (x : Table). x.link) rests.0.0.is

  target_is : p.target.link ≡ blocks.table t * 2048
  target_is = ap (λ (x : Table). x.link) rests.0.2.is

  -- the root is the table that was copied
  root_here : word_at w.memory (Root setting.root) ≡ Some (blocks.table c.first * 2048)
  root_here =
      map.map.shows.root_there ∙ ap (λ (q : Bool). Some (cond q 0 (blocks.table c.first * 2048))) (ne_eqb c.past 0 (let made = rests.0.0.made in omega (arith, made)))

  root_is : word_at w.memory (Root p.setting.root) ≡ Some (blocks.table c.first * 2048)
  root_is = ap (λ (x : Setting). word_at w.memory (Root x.root)) setting_is ∙ root_here

  pub may_promote : May Can Took value_at w.memory (promotes p)
  may_promote = may_exchange w.memory (promoted p) (Root p.setting.root) p.source.link p.target.link (is_some_of _ _ root_is) (λ found e. tt) (λ found e. tt)

  abbrev chart : Chart K
  chart = record c { first = t; passed = passing c t }

  abbrev written : World (Node K V)
  written = record w { memory = with_word w.memory (Root setting.root) (blocks.table t * 2048) }

  allowed : Allowed same (spot_of hash) (is_incremental setting.mode) (Promotes t) c
  allowed = (rests.0.1, rests.0.2.made, counted, subst (λ (b : Bool). cond b (t ≡ suc c.first) (Unit {0})) (sym blocking) tt)

  map_then : IsMap same hash setting.mode setting.root written.memory chart blocks
  map_then =
      map_moved same hash setting lawful w.memory written.memory c blocks blocks (Promotes t) map.map allowed
      (root_written hash w.memory c blocks setting.root map.map.shows t (omega (arith, rests.0.1)) rests.0.2.made)
      (later_kept c chart blocks blocks refl (λ u. refl) map.map.later)

  counter_then : HasCounter setting written.memory
  counter_then = counter_written setting w.memory (Root setting.root) (blocks.table t * 2048) (is_some_of _ _ root_here) (counter_of same hash setting w c blocks map)

  hands_then : Hands same hash setting written chart blocks
  hands_then = record {
    tables = λ u l m. map.tables u (omega (arith, l, rests.0.1)) m;
    pairs = map.pairs;
    named = λ u i n phase borrowed l m e. map.named u i n phase borrowed (omega (arith, l, rests.0.1)) m e;
    tables_out = map.tables_out;
    pairs_out = map.pairs_out;
  }

  cut : IsCut same hash caller setting w c blocks map t rests.0.1 rests.0.2.made written
  cut =
      cut_tables same hash caller setting w c blocks map t rests.0.1 rests.0.2.made (t - c.first) c.first written (omega (arith, rests.0.1)) (omega arith) hands_then
      (λ x l m. map.tables x l (let made = rests.0.2.made in omega (arith, m, made))) (λ x l m. absurd (omega (arith, l, m)))

  map_cut : IsMapIn same hash setting cut.w2 chart blocks
  map_cut =
      map_in same hash setting cut.w2 chart blocks (subst (λ (m : Mem (Node K V)). IsMap same hash setting.mode setting.root m chart blocks) (sym cut.memory) map_then)
      (subst (λ (m : Mem (Node K V)). HasCounter setting m) (sym cut.memory) counter_then) cut.hands

  told : CopierFactsBlocking same hash cut.w2 caller setting chart blocks (standing p at.Announces)
  told = record {
    setting_is = setting_is;
    point = (
      c.first,
      record { made = rests.0.0.made; known = rests.0.0.known; is = rests.0.0.is },
      (
        rests.0.1,
        record { made = rests.0.2.made; known = rests.0.2.known; is = rests.0.2.is },
        λ u j l. rests.2 u j (let late = rests.0.1 in omega (arith, late, l)),
        λ u l m. (map.map.shows.linked u l (let made = rests.0.2.made in omega (arith, m, made)), cut.cut u l m),
      ),
    );
  }

  rule_blocking : Rule same (spot_of hash) false c
  rule_blocking = subst (λ (b : Bool). Rule same (spot_of hash) b c) blocking map.map.rule

  went_first : (m2 : Mem (Node K V)) (end : Copier × Yielding (Node K V) Table) (found : ℕ) → word_at w.memory (Root p.setting.root) ≡ Some found → found ≡ p.source.link
      → m2 ≡ with_word w.memory (Root p.setting.root) p.target.link → end ≡ (standing p at.Announces, Goes) → CopierCame same hash caller setting w c blocks (AloneBlocking c p at.Promotes) m2 end
  went_first m2 end found read same_link is ends =
      subst (λ (e : Copier × Yielding (Node K V) Table). CopierCame same hash caller setting w c blocks (AloneBlocking c p at.Promotes) m2 e) (sym ends)
      (subst (λ (n : Mem (Node K V)). CopierCame same hash caller setting w c blocks (AloneBlocking c p at.Promotes) n (standing p at.Announces, Goes)) (sym whole)
      (went_after same hash setting caller w c blocks map (Exchange (Root p.setting.root) p.source.link p.target.link) (Exchanged (Ok found)) tt written.memory
      ((read, same_link), sym whole ∙ is) cut.events cut.users cut.its cut.w2 cut.runs cut.memory
      (framed_written setting caller w c blocks (Root setting.root) (blocks.table t * 2048) (is_some_of _ _ root_here) refl)
      (λ j other. keeps_then j w.memory written.memory cut.w2.memory w.hand w.hand cut.w2.hand
      (keeps_written caller w j other (Root setting.root) (blocks.table t * 2048) (is_some_of _ _ root_here) tt) (cut.others j other))
      chart blocks (spares_moved (spot_of hash) (is_incremental setting.mode) c blocks map.map.shows.linked (Promotes t) tt) (links_none caller w cut.w2 c chart blocks refl refl cut.outs cut.known) (inr (Promotes t, allowed, refl, λ i by. absurd by)) map_cut
      (record { tables = λ u made known. (refl, known); pairs = λ n was known. (refl, known); tables_back = λ t made known. known; pairs_back = λ n was known. known })
      (CopierTells same hash caller setting w c blocks (AloneBlocking c p at.Promotes) (standing p at.Announces, Goes)) (
        (spares_then w written cut.w2 (spares_written w (Root setting.root) (blocks.table t * 2048) (is_some_of _ _ root_here)) cut.spares, refl, told),
        λ a. (a.0, (aborted_promoted c same (spot_of hash) rule_blocking t rests.0.1 rests.0.2.made counted, uncounted_promoted c same (spot_of hash) rule_blocking t rests.0.1 rests.0.2.made counted)),
      )))
    where
      whole : m2 ≡ written.memory
      whole = is ∙ ap₂ (λ (x : Setting) (link : ℕ). with_word w.memory (Root x.root) link) setting_is target_is

  pub went_promote : (m2 : Mem (Node K V)) (end : Copier × Yielding (Node K V) Table) → Steps Took value_at w.memory (promotes p) m2 end
      → CopierCame same hash caller setting w c blocks (AloneBlocking c p at.Promotes) m2 end
  went_promote m2 end s =
      elim (exchanged w.memory (promoted p) (Root p.setting.root) p.source.link p.target.link m2 end s) as (λ _. CopierCame same hash caller setting w c blocks (AloneBlocking c p at.Promotes) m2 end) [
        | inl done ↦ went_first m2 end done.0 done.1.0 done.1.1 done.2 done.3
        | inr lost ↦ absurd (lost.1.1 (let e : lost.0 ≡ blocks.table c.first * 2048 = cc (lost.1.0, root_is) in e ∙ sym source_is))
      ]
