-- In blocking mode, a copier gives its target up.
use Rattle.std.proofs.Common.{◌≡◌, ℕ, ◌<◌, Bool, false, cond, eqb, inl, inr, refl, sym, subst, arith}
use Rattle.std.proofs.lemmas.Bool.{cases_eq, eq-eqb, ne_eqb}
use Rattle.map_rule.specs.Given.SeizeWordsMem.{Mem}
use Rattle.papaya_raw.specs.Given.SeizeWorld.{World}
use Rattle.papaya_raw.specs.Given.TablesChunks.{is_incremental}
use Rattle.papaya_raw.specs.Given.TablesDeclared.node.Node.{Node}
use Rattle.map_rule.specs.Given.ResizeDeclared.yielding.Yielding.{Yielding}
use Rattle.map_rule.specs.Given.ResizeDeclared.yielding.Yielding.TheVariants.{Goes}
use Rattle.papaya_raw.specs.Given.TablesDeclared.setting.Setting.{Setting}
use Rattle.papaya_raw.specs.Given.TablesDeclared.table.Table.{Table}
use Rattle.map_rule.specs.Given.ResizeDeclared.copier.Copier.{Copier}
use Rattle.map_rule.specs.Given.ResizeDeclared.copier.Copying.TheVariants as at
use Rattle.map_rule.specs.Chart.{Lost, Chart}
use Rattle.map_rule.specs.Rule.{IsLawful}
use Rattle.map_rule.specs.Moves.{GivesUp, is_of_caller, with_lost, after}
use Rattle.map_rule.specs.Words.{Blocks}
use Rattle.map_rule.specs.Maps.{spot_of}
use Rattle.map_rule.specs.InWorld.{IsMapIn}
use Rattle.map_facts.specs.FactsCopiesBlocking.{HasNoShares, WorksIn}
use Rattle.map_facts.specs.FactsAloneBlocking.{AllAborted, AllAbortedBut, AllUncounted}
use Rattle.map_facts.proofs.Steps.AloneCharts.{aborted_given_up}
use Rattle.map_facts.proofs.Copiers.CopierMoves.{copier_moved, copies_again}
use Rattle.map_rule.proofs.Shares.SharesBlocking.{lost_no_more, lost_here}
use Rattle.map_facts.proofs.Copiers.CopierWent.{CopierCame}
use Rattle.map_rule.proofs.World.Framed.{shows_beside}
use Rattle.map_rule.proofs.Words.TablesSeen.{turn_is}

module _ {K V : Type 0} (same : K → K → Bool) (hash : K → ℕ) (caller : ℕ) (setting : Setting) (w : World (Node K V)) (c : Chart K) (blocks : Blocks)
    (map : IsMapIn same hash setting w c blocks) (lawful : IsLawful same (spot_of hash)) (blocking : is_incremental setting.mode ≡ false) (p : Copier) (setting_is : p.setting ≡ setting)
    (t n : ℕ) (k : K) (pair : ℕ) (works : WorksIn same hash w caller setting c blocks p t n k pair) where
  module _ (m2 : Mem (Node K V)) (still : m2 ≡ w.memory) (end : Copier × Yielding (Node K V) Table) where
    abbrev lost_chart : Chart K
    lost_chart = after (spot_of hash) false (GivesUp caller t) c

    pub went_lost : end ≡ (record p { place = 0; end = 0; done = 0; stands = at.Aborts }, Goes)
        → CopierCame same hash caller setting w c blocks (AllAborted c × AllUncounted c × (p.spent ≡ false)) m2 end
    went_lost ends =
        copier_moved same hash caller setting w c blocks map lawful blocking (GivesUp caller t) refl (AllAborted c × AllUncounted c × (p.spent ≡ false)) (λ i other is. other (sym is)) tt m2 still refl
        (shows_beside hash w.memory c blocks setting.root lost_chart.share c.current map.map.shows)
        (record { tables = map.tables; pairs = map.pairs; named = map.named; tables_out = map.tables_out; pairs_out = map.pairs_out })
        refl end (record p { place = 0; end = 0; done = 0; stands = at.Aborts }) ends setting_is
        (t, ((copies_again same hash caller setting w w c lost_chart blocks refl refl refl refl p t works.copies, refl, no_shares), p.place, inside, rw (eq-eqb t t refl) lost))
        (λ a. (subst (λ (u : ℕ). AllAbortedBut lost_chart u) (sym target_turn) (aborted_given_up c (spot_of hash) caller t a.0), a.1, a.2))
      where
        inside : p.place < c.len c.first
        inside = let range = works.inside in omega (arith, range.0, range.1)

        lost : with_lost caller (c.share t p.place) ≡ Lost
        lost = lost_here caller (c.share t p.place) (works.claims.0 p.place (omega arith) works.inside.0)

        no_shares : HasNoShares same hash w caller setting lost_chart blocks
        no_shares u i late =
            elim (cases_eq u t) as (λ _. is_of_caller caller (cond (eqb u t) (with_lost caller (c.share u i)) (c.share u i)) ≡ false) [
              | inl e ↦ rw (eq-eqb u t e) (lost_no_more caller (c.share u i))
              | inr ne ↦ rw (ne_eqb u t ne) (works.has_done.1 u i late ne)
            ]

        target_turn : p.target.turn ≡ t
        target_turn = turn_is hash w.memory c blocks setting.root map.map.shows p.target t works.copies.2
