-- A step of a disposal that reads the link to the table behind one: it goes on there, or hands the pair to the table before its own.
use Rattle.std.proofs.Common.{refl, ap, sym, subst, ◌∙◌, inl, inr, arith, eqb-true}
use Rattle.std.proofs.lemmas.Bool.{eqb-false}
use Rattle.std.specs.Prelude.{◌≡◌, ◌≢◌, ℕ, suc, ◌*◌, ◌/◌, ◌<◌, ◌==◌, Bool, true, false, Some, ◌⊎◌}
use Rattle.map_rule.proofs.Given.SeizeWordsOneOwner.Operations.{may_load, loaded}
use Rattle.map_rule.proofs.Given.SeizeWordsPlans.{see_if, ends_if}
use Rattle.map_rule.specs.Given.SeizeWordsMem.{Mem, Can, Took, value_at, word_at}
use Rattle.map_rule.specs.Given.SeizeWordsPlan.{May, Steps}
use Rattle.map_rule.specs.Given.SeizeWordsDeclared.at.At.TheVariants.{Word}
use Rattle.papaya_raw.specs.Given.SeizeDefer.{deferring}
use Rattle.papaya_raw.specs.Given.SeizeWorld.{World}
use Rattle.papaya_raw.specs.Given.SeizeDeclared.rows.settle.Settled.{Settled}
use Rattle.papaya_raw.specs.Given.SeizeDeclared.rows.settle.Settled.TheVariants.{Goes}
use Rattle.map_rule.specs.Given.ResizeDispose.{standing, carrying, goes, walked, walks}
use Rattle.map_rule.specs.Given.ResizeDeclared.dispose.Dispose.{Dispose}
use Rattle.map_rule.specs.Given.ResizeDeclared.dispose.Disposing.TheVariants as at
use Rattle.papaya_raw.specs.Given.TablesDeclared.node.Node.{Node}
use Rattle.papaya_raw.specs.Given.TablesDeclared.setting.Setting.{Setting}
use Rattle.papaya_raw.specs.Given.TablesDeclared.table.Table.{Table}
use Rattle.papaya_raw.specs.Given.TablesDeclared.table_words.TheConstants.{NEXT, DEFERRED}
use Rattle.map_rule.specs.Chart.{Chart}
use Rattle.map_facts.specs.FactsDisposes.{DisposingFacts, DisposeFacts}
use Rattle.map_rule.specs.InWorld.{IsMapIn}
use Rattle.map_facts.specs.MeasuresDisposes.{turn_of}
use Rattle.map_rule.specs.Words.{Blocks, next_word}
use Rattle.map_rule.specs.Links.{IsLinkTo}
use Rattle.map_rule.proofs.Words.LinksSeen.{link_made, next_leads}
use Rattle.map_facts.proofs.Disposals.Reads.{DisposeWent, told_still, turn_is}
use Rattle.map_rule.proofs.Words.TablesSeen.{block_of_link}
use Rattle.map_facts.proofs.Steps.TurnsFound.{turn_found}
use Rattle.map_rule.proofs.Given.General.{some_is as is_some_of}

module _ {K V : Type 0} (same : K → K → Bool) (hash : K → ℕ) (setting : Setting) (w : World (Node K V)) (caller : ℕ) (c : Chart K) (blocks : Blocks)
    (map : IsMapIn same hash setting w c blocks) (d : Dispose) (f : DisposeFacts w caller setting c blocks d) where
  link_is : d.table.link ≡ blocks.table f.t * 2048
  link_is = ap (λ (x : Table). x.link) f.table.is

  -- The table behind one is read.
  module _ (table : ℕ) (point : DisposingFacts w caller setting c blocks f.n f.t (at.Walks table)) where
    made : point.3 < c.past
    made = let l = point.4 in let m = f.table.made in omega (arith, l, m)

    next_there : word_at w.memory (Word (table / 2048) NEXT) ≡ Some (next_word hash c blocks point.3)
    next_there =
        ap (λ (x : ℕ). word_at w.memory (Word (x / 2048) NEXT)) point.6
        ∙ ap (λ (x : ℕ). word_at w.memory (Word x NEXT)) (block_of_link (blocks.table point.3))
        ∙ (map.map.shows.tables point.3 made point.5).next

    next_is : (link : ℕ) → word_at w.memory (Word (table / 2048) NEXT) ≡ Some link
        → IsLinkTo c blocks link (suc point.3)
    next_is link read =
        link_made c blocks link (suc point.3)
        (next_leads same hash setting.mode setting.root w.memory c blocks map.map
        (record { link = blocks.table point.3 * 2048; len = c.len point.3; limit = c.limit point.3; turn = point.3 }) point.3 link
        (record { made = made; known = point.5; is = refl })
        (subst (λ (x : ℕ). word_at w.memory (Word (x / 2048) NEXT) ≡ Some link) point.6 read))
        (let l = point.4 in let m = f.table.made in omega (arith, l, m))

    pub may_walks : May Can Took value_at w.memory (walks d table)
    may_walks =
        may_load w.memory (walked d table) (Word (table / 2048) NEXT) (is_some_of _ _ next_there)
        (λ link read. see_if (value_at w.memory) (link / 2048 == d.table.link / 2048) _ _ (λ _. tt) (λ _. tt))

    -- the table is one before the pair's own, so the number is positive; at the table behind it is one less
    turn_here : turn_of blocks table c.past ≡ point.3
    turn_here = turn_found hash w.memory c blocks setting.root map.map.shows table point.3 made point.5 point.6

    pub went_walks : (m2 : Mem (Node K V)) (end : Dispose × Settled (Node K V)) → Steps Took value_at w.memory (walks d table) m2 end → DisposeWent same hash setting w caller c blocks map d f (at.Walks table) m2 end
    went_walks m2 end s =
        let l = loaded w.memory (walked d table) (Word (table / 2048) NEXT) m2 end s in
        either l.0 (next_is l.0 l.1) l.2
        (ends_if (value_at w.memory) (l.0 / 2048 == d.table.link / 2048) (goes d (carrying d table)) (goes d (at.Walks l.0)) end l.3)
      where
        one_table : (link : ℕ) → IsLinkTo c blocks link (suc point.3)
            → link / 2048 ≡ d.table.link / 2048 → suc point.3 ≡ f.t
        one_table link r e =
            let there = r.0 in
            let own = link_is in
            map.map.shows.tables_apart (suc point.3) f.t r.1 f.table.made r.2 f.table.known (omega (arith, there, own, e))

        defers : deferring d.pair (Word (table / 2048) DEFERRED) ≡ deferring (blocks.pair f.n * 2048) (Word (blocks.table point.3) DEFERRED)
        defers =
            ap (λ (p : ℕ). deferring p (Word (table / 2048) DEFERRED)) f.pair_is
            ∙ ap (λ (x : ℕ). deferring (blocks.pair f.n * 2048) (Word (x / 2048) DEFERRED)) point.6
            ∙ ap (λ (x : ℕ). deferring (blocks.pair f.n * 2048) (Word x DEFERRED)) (block_of_link (blocks.table point.3))

        either : (link : ℕ) → IsLinkTo c blocks link (suc point.3) → m2 ≡ w.memory
            → (((link / 2048 == d.table.link / 2048) ≡ true) × (end ≡ (standing d (carrying d table), Goes)))
            ⊎ (((link / 2048 == d.table.link / 2048) ≡ false) × (end ≡ (standing d (at.Walks link), Goes)))
            → DisposeWent same hash setting w caller c blocks map d f (at.Walks table) m2 end
        either link r is (inl e) =
            let here = turn_here in
            let own = turn_is same hash setting w caller c blocks map d f in
            let low = point.4 in
            told_still same hash setting w caller c blocks map d f (at.Walks table) m2 is (carrying d table) end e.1
            (point.1, point.2, point.3, one_table link r (eqb-true (link / 2048) (d.table.link / 2048) e.0), point.5, defers, point.0) (inl (omega (arith, here, own, low)))
        either link r is (inr e) =
            let low = point.4 in
            let other : suc point.3 ≢ f.t = λ same_turn. eqb-false (link / 2048) (d.table.link / 2048) e.0
            (ap (λ (x : ℕ). x / 2048) (r.0 ∙ ap (λ (x : ℕ). blocks.table x * 2048) same_turn ∙ sym link_is)) in
            let here = turn_here in
            let behind = turn_found hash w.memory c blocks setting.root map.map.shows link (suc point.3) r.1 r.2 r.0 in
            let own = turn_is same hash setting w caller c blocks map d f in
            told_still same hash setting w caller c blocks map d f (at.Walks table) m2 is (at.Walks link) end e.1 (point.0, point.1, point.2, suc point.3, omega (arith, low, other), r.2, r.0)
            (inl (omega (arith, here, behind, own, low)))
