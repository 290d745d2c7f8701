-- What a step of a making unlinks could be reached before, and can't be then: it links its map's first table alone, and takes none away that was linked.
use Rattle.std.specs.Prelude.{◌^◌, ◌*◌, Option, Some}
use Rattle.std.proofs.Common.{◌≡◌, ◌⊎◌, ◌<◌, ℕ, Bool, inl, inr, arith, ap, sym, subst, ◌∙◌}
use Rattle.run_shows.specs.Given.SeizeWordsMem.{Mem, word_at}
use Rattle.run_shows.specs.Given.SeizeWordsDeclared.at.At.TheVariants.{Root}
use Rattle.run_shows.specs.Given.SeizeWorld.{World, InUse, Cutting}
use Rattle.run_shows.specs.Given.SeizeDeclared.advance.Advance.{Advance}
use Rattle.seize_acts.proofs.Given.SeizeMemoryWords.There.{live_pos}
use Rattle.seize_acts.proofs.Given.SeizeAloneHistories.Reached.{Reached, runs_reached}
use Rattle.run_shows.specs.Given.TablesNodes.{deferred_word}
use Rattle.run_shows.specs.Given.TablesDeclared.node.Node.{Node}
use Rattle.run_shows.specs.Given.TablesDeclared.setting.Setting.{Setting}
use Rattle.run_shows.specs.Given.ResizeDeclared.new_map.NewMap.{NewMap}
use Rattle.run_shows.specs.Given.RuleInWorld.{IsOut, IsMapIn}
use Rattle.owner_facts.specs.Given.CallersTogether.{UnderWay}
use Rattle.owner_facts.specs.Given.FinishesMakings.{Beginning, IsFirstTable, StepsOfMaking}
use Rattle.owner_facts.specs.Given.FinishesMaps.{Standing, MapsTogether}
use Rattle.many_acts.specs.Links.Tied.{unlinkings}
use Rattle.many_acts.proofs.Links.Named.{root_first}
use Rattle.many_acts.proofs.Links.Places.{IsGone, gone_there}
use Rattle.many_acts.proofs.Links.Unlinked.{IsCutOff, none_again, users_cut}

module _ {K Q : Type 0} (V : Type 0) (same : K → K → Bool) (asks : Q → K → Bool) (batch_size : ℕ) (slot : ℕ → ℕ)
    (w : World (Node K V)) (maps : ℕ → Option (Standing K)) (calls : ℕ → ℕ → Option (UnderWay K V Q)) (all : MapsTogether V same asks batch_size slot w maps calls) where
  -- the block that the root of a map that stands names is in use
  pub first_in_use : (m : ℕ) (s : Standing K) → maps m ≡ Some s → (b : ℕ) → 0 < b → word_at w.memory (Root s.setting.root) ≡ Some (b * 2048) → w.hand b ≡ InUse s.setting.counter
  first_in_use m s here b some there = ap w.hand k.1 ∙ map.tables s.chart.first (omega arith) k.0
    where
      map : IsMapIn same s.hash s.setting w s.chart s.blocks
      map = (all.each m s here).ground.map

      fits : (key : K) → s.hash key < 2 ^ 64
      fits = (all.fit m s here).0.fits

      k : (s.chart.first < s.chart.past) × (b ≡ s.blocks.table s.chart.first)
      k = root_first same s.hash fits s.setting w s.chart s.blocks map b (b * 2048, there, omega arith, some)

module _ {K Q : Type 0} (V : Type 0) (same : K → K → Bool) (asks : Q → K → Bool) (batch_size roots : ℕ) (slot : ℕ → ℕ)
    (w : World (Node K V)) (maps : ℕ → Option (Standing K)) (calls : ℕ → ℕ → Option (UnderWay K V Q)) (makers : ℕ → Option (Beginning K)) (i : ℕ) (d : Beginning K)
    (m2 : Mem (Node K V)) (end : NewMap × Advance Setting) (st : StepsOfMaking V same asks batch_size roots slot w maps calls makers i d m2 end)
    (b : ℕ) (r : Reached deferred_word batch_size w) where
  -- if its map's first table is in use
  pub making_cut_off : (0 < b → IsFirstTable st.w2 end b → (o : ℕ) × (st.w2.hand b ≡ InUse o)) → IsCutOff b w st.w2
  making_cut_off in_use = by (users_cut deferred_word batch_size b st.events w st.w2 r st.users st.runs)
    where
      r2 : Reached deferred_word batch_size st.w2
      r2 = runs_reached deferred_word batch_size st.events w st.w2 r st.runs

      since : (j : ℕ) → st.w2.hand b ≡ Cutting j → IsOut (w.hand b) ⊎ IsFirstTable st.w2 end b → IsCutOff b w st.w2
      since j cut (inl out) = inl (none_again deferred_word batch_size b (Cutting j) tt st.events w st.w2 r st.users st.runs (sym (st.outs b out) ∙ cut))
      since j cut (inr first) =
          absurd (let used = (in_use (live_pos st.w2.memory b (gone_there deferred_word batch_size st.w2 r2 b (subst IsGone (sym cut) tt))) first).1 in cc (used, cut))

      by : (unlinkings b st.w2.log ≡ unlinkings b w.log) ⊎ ((j : ℕ) × (st.w2.hand b ≡ Cutting j)) → IsCutOff b w st.w2
      by (inl same_often) = inl same_often
      by (inr (j, cut)) = since j cut (st.links b (subst IsOut (sym cut) tt))
