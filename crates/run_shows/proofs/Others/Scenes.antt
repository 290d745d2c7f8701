-- Scenes whose maps stand as they did, but for what may be looked at: what a moment shows of them where a block is another one.
use Rattle.std.specs.Prelude.{◌≡◌, ◌≢◌, ℕ, ◌<◌, ◌≤◌, ◌==◌, Bool, true, false, List, filter, find, map, Option, Some, None}
use Rattle.std.proofs.Common.{refl, ap, sym, subst, ◌∙◌}
use Rattle.seize_words.specs.OneMemory.Mem.{value_at}
use Rattle.seize.specs.World.{World}
use Rattle.run_effects.specs.Given.TablesDeclared.node.Node.{Node}
use Rattle.run_effects.specs.Given.RunsDeclared.effect.TableId.{TableId}
use Rattle.run_effects.specs.Given.SchedulesEffects.{all_at, at_stage}
use Rattle.run_effects.specs.Given.SchedulesLists.{put}
use Rattle.run_effects.specs.Given.SchedulesMoment.{Place, GivenBack, Stage, Moment}
use Rattle.run_effects.specs.Given.SchedulesThings.{same_table}
use Rattle.run_effects.specs.Given.SchedulesViews.{is_in_map, behind}
use Rattle.run_effects.specs.Given.RuleInWorld.{IsMapIn}
use Rattle.run_effects.specs.Given.RuleWords.{Blocks}
use Rattle.run_effects.proofs.Given.RuleWorld.Hands.{current_known}
use Rattle.many_maps.specs.Given.CallersSights.{Visible, IsPartOf}
use Rattle.many_maps.specs.Maps.{Standing, IsSameMap}
use Rattle.run_effects.specs.Effects.Known.{Known}
use Rattle.run_effects.specs.declared.role.Role.{Role}
use Rattle.run_effects.specs.declared.role.Role.TheVariants as role
use Rattle.run_shows.specs.Follows.Blocks.{HasRole}
use Rattle.run_shows.specs.Follows.Calls.{RefinesCalls}
use Rattle.run_shows.specs.Follows.Maps.{table_of, RefinesMap}
use Rattle.run_shows.specs.Follows.Shows.{Refines}
use Rattle.run_shows.proofs.Follows.Alike.{AreSame, IsAlike, alike_same, put_elsewhere}
use Rattle.run_shows.proofs.Follows.Onward.{IsLasting, tables_same, pairs_same, blocks_same, blocks_part, map_on}
use Rattle.run_shows.specs.Others.After.{RefinesAfter}
use Rattle.run_shows.specs.Others.Gone.{WaitOutside}
use Rattle.run_shows.proofs.Others.Outside.{pairs_outside, put_outside, all_outside, table_staged}
use Rattle.run_shows.proofs.Others.Stays.{StaysBlock, blocks_stay, blocks_but}
use Rattle.run_shows.specs.Scenes.Scene.{Scene}
use Rattle.run_shows.proofs.Follows.Stored.{in_map_true as in_map_of}
use Rattle.seize_words.proofs.General.{same_some as one_of}

-- a block is there no more that no map has which stands
module _ {K V : Type 0} (same : K → K → Bool) (n : ℕ) (number : ℕ → ℕ) (st : Standing K) (v : Moment K V) (known after : Known) (w2 : World (Node K V))
    (x : ℕ) (roles : after.roles ≡ put x role.Free known.roles) (gone : value_at w2.memory x ≡ None) (stands : IsMapIn same st.hash st.setting w2 st.chart st.blocks) where
  as_was : (b : ℕ) (value : Node K V) → value_at w2.memory b ≡ Some value → after.roles b ≡ known.roles b
  as_was b value is =
      ap (λ (f : ℕ → Role). f b) roles
      ∙ put_elsewhere x role.Free known.roles b (λ e. (let there : value_at w2.memory x ≡ Some value = ap (value_at w2.memory) (sym e) ∙ is in cc (there, gone)))

  pub without_block : RefinesMap n number st v known → RefinesMap n number st v after
  without_block h = record {
    there = record { there = h.there.there; is = h.there.is; root = h.there.root; mode = h.there.mode; first = h.there.first };
    pairs = record {
      roles = λ p l seen. (let it = stands.map.shows.pairs p l seen in as_was (st.blocks.pair p) _ it.2) ∙ h.pairs.roles p l seen;
      numbered = h.pairs.numbered;
      rising = h.pairs.rising;
      born = h.pairs.born;
      here = h.pairs.here;
      all = h.pairs.all;
    };
    tables = record {
      roles = λ t l seen. as_was (st.blocks.table t) _ (stands.map.shows.tables t l seen).value ∙ h.tables.roles t l seen;
      stage = h.tables.stage;
      listed = h.tables.listed;
      linked = h.tables.linked;
    };
    counter = as_was st.setting.counter _ stands.counter ∙ h.counter;
  }

module _ {K V : Type 0} (same : K → K → Bool) (name : ℕ → List ℕ) (m : Moment K V) (known : Known) (s : Scene K V) (shown : Refines same name m known s)
    (w2 : World (Node K V)) (maps2 : ℕ → Option (Standing K)) (maps_same : (n : ℕ) → IsSameMap (s.maps n) (maps2 n)) where
  -- a map stands in the same blocks, of which these may be looked at
  abbrev seen_so : Standing K → Blocks → (ℕ → Visible) → Standing K
  seen_so st blocks sights = record st { blocks = blocks; sights = sights }

  -- each map that stands is shown so
  abbrev AreShown : Moment K V → Known → Type 0
  AreShown v after =
      (n : ℕ) (before : Standing K) → s.maps n ≡ Some before → (blocks : Blocks) (sights : ℕ → Visible) → IsPartOf before.chart blocks before.blocks
      → maps2 n ≡ Some (seen_so before blocks sights) → RefinesMap n (shown.number n) (seen_so before blocks sights) v after

  maps_then : (v : Moment K V) (after : Known) → AreShown v after → (n : ℕ) (st : Standing K) → maps2 n ≡ Some st → RefinesMap n (shown.number n) st v after
  maps_then v after each n st is = by (s.maps n) refl (maps_same n)
    where
      by : (o : Option (Standing K)) → s.maps n ≡ o → IsSameMap o (maps2 n) → RefinesMap n (shown.number n) st v after
      by None e none = absurd (cc (none, is))
      by (Some before) e (blocks, sights, here, part) =
          subst (λ (x : Standing K). RefinesMap n (shown.number n) x v after) (one_of (seen_so before blocks sights) st (sym here ∙ is)) (each n before e blocks sights part here)

  -- all blocks are as they were
  pub all_stay : (v : Moment K V) (after : Known) → AreSame m v → after.roles ≡ known.roles → after.stored ≡ known.stored → ((b : ℕ) → StaysBlock s.world w2 b)
      → (rest : Scene K V) → RefinesCalls same name v rest.calls → RefinesAfter same name m known s shown v after (record rest { world = w2; maps = maps2 })
  all_stay v after alike roles as_many stays rest calls = record {
    shows = record {
      blocks = blocks_stay m v known after s.world w2 shown.blocks alike.stored as_many roles stays;
      number = shown.number;
      maps = maps_then v after (λ n before e blocks sights part here. map_on n (shown.number n) before (seen_so before blocks sights) m v known after
          (blocks_part before.chart before.blocks blocks part) (λ b lasting. ap (λ (f : ℕ → Role). f b) roles) refl (tables_same before.chart) (pairs_same before.chart)
          (alike_same n m v alike) (shown.maps n before e));
      calls = calls;
    };
    numbers = λ n st e. refl;
  }

  -- one, which was none of a map's, is this from now on
  pub one_put : (v : Moment K V) (after : Known) → v.stored ≡ m.stored → ((n : ℕ) (before : Standing K) → s.maps n ≡ Some before → IsAlike n m v) → (x : ℕ) (r : Role) → after.roles ≡ put x r known.roles → after.stored ≡ known.stored → (IsLasting (known.roles x) → ⊥)
      → HasRole w2 m.stored x r → ((n : ℕ) → r ≡ role.Pair n → ⊥) → ((b : ℕ) → b ≢ x → StaysBlock s.world w2 b)
      → (rest : Scene K V) → RefinesCalls same name v rest.calls → RefinesAfter same name m known s shown v after (record rest { world = w2; maps = maps2 })
  one_put v after stored alike x r roles as_many none its no_pair stays rest calls = record {
    shows = record {
      blocks = blocks_but m v known after s.world w2 shown.blocks stored as_many x r roles its no_pair stays;
      number = shown.number;
      maps = maps_then v after (λ n before e blocks sights part here. map_on n (shown.number n) before (seen_so before blocks sights) m v known after
          (blocks_part before.chart before.blocks blocks part)
          (λ b lasting. ap (λ (f : ℕ → Role). f b) roles ∙ put_elsewhere x r known.roles b (λ at. none (subst (λ (y : ℕ). IsLasting (known.roles y)) at lasting)))
          refl (tables_same before.chart) (pairs_same before.chart) (alike n before e) (shown.maps n before e));
      calls = calls;
    };
    numbers = λ n st e. refl;
  }

  -- A block is gone, and all others are as they were. The maps stood before, and stand in the memory without it.
  module _ (stood : (n : ℕ) (before : Standing K) → s.maps n ≡ Some before → IsMapIn same before.hash before.setting s.world before.chart before.blocks)
      (stand : (n : ℕ) (st : Standing K) → maps2 n ≡ Some st → IsMapIn same st.hash st.setting w2 st.chart st.blocks)
      (x : ℕ) (gone : value_at w2.memory x ≡ None) (stays : (b : ℕ) → b ≢ x → StaysBlock s.world w2 b) (after : Known) (roles : after.roles ≡ put x role.Free known.roles) (as_many : after.stored ≡ known.stored)
      (rest : Scene K V) (v : Moment K V) (stored : v.stored ≡ m.stored) (calls : RefinesCalls same name v rest.calls) where
    abbrev Goal : Type 0
    Goal = RefinesAfter same name m known s shown v after (record rest { world = w2; maps = maps2 })

    -- where each map is shown at that moment, by what was known
    gone_so : ((n : ℕ) (before : Standing K) (blocks : Blocks) (sights : ℕ → Visible) → s.maps n ≡ Some before → IsPartOf before.chart blocks before.blocks → maps2 n ≡ Some (seen_so before blocks sights)
        → RefinesMap n (shown.number n) before v known) → Goal
    gone_so each = record {
      shows = record {
        blocks = blocks_but m v known after s.world w2 shown.blocks stored as_many x role.Free roles gone (λ n e. cc e) stays;
        number = shown.number;
        maps = maps_then v after (λ n before e blocks sights part here.
            let now = seen_so before blocks sights in
            without_block same n (shown.number n) now v known after w2 x roles gone (stand n now here)
            (map_on n (shown.number n) before now v v known known (blocks_part before.chart before.blocks blocks part) (λ b lasting. refl) refl (tables_same before.chart) (pairs_same before.chart)
            (alike_same n v v (record { place = refl; born = refl; maps = refl; tables = refl; stored = refl })) (each n before blocks sights e part here)));
        calls = calls;
      };
      numbers = λ n st e. refl;
    }

    -- a pair that it was is in no map that stands
    module _ (k : ℕ) (was : known.roles x ≡ role.Pair k) where
      not_here : (n : ℕ) (before : Standing K) (blocks : Blocks) (sights : ℕ → Visible) → s.maps n ≡ Some before → IsPartOf before.chart blocks before.blocks → maps2 n ≡ Some (seen_so before blocks sights)
          → is_in_map n (m.place k) ≡ false
      not_here n before blocks sights e part here = by (is_in_map n (m.place k)) refl
        where
          by : (q : Bool) → is_in_map n (m.place k) ≡ q → is_in_map n (m.place k) ≡ false
          by false at = at
          by true at =
              absurd (
              let shows = (shown.maps n before e).pairs in
              let old = stood n before e in
              let new = stand n (seen_so before blocks sights) here in
              let it = shows.all k (in_map_of n (m.place k) at) in
              let current : before.chart.current it.0 ≡ true = sym (shows.here it.0 it.1) ∙ ap (λ (y : ℕ). is_in_map n (m.place y)) (sym it.2) ∙ at in
              let seen = current_known same before.hash before.setting s.world before.chart before.blocks old.map.rule old.map.shows it.0 current in
              let seen_then = current_known same before.hash before.setting w2 before.chart blocks new.map.rule new.map.shows it.0 current in
              let its_role : known.roles (before.blocks.pair it.0) ≡ role.Pair k = shows.roles it.0 it.1 seen.1 ∙ ap role.Pair (sym it.2) in
              let its_block : x ≡ before.blocks.pair it.0 = shown.blocks.once x (before.blocks.pair it.0) k was its_role in
              let there = new.map.shows.pairs it.0 it.1 seen_then.1 in
              let value = ap (value_at w2.memory) (its_block ∙ sym (part.pairs it.0)) ∙ there.2 in cc (value, gone)
              )

      pub pair_gone : v.place ≡ put k GivenBack m.place → v.born ≡ m.born → v.maps ≡ m.maps → v.tables ≡ m.tables → Goal
      pair_gone place born maps tables = gone_so (λ n before blocks sights e part here.
          map_on n (shown.number n) before before m v known known (blocks_same before.chart before.blocks)
          (λ b lasting. refl) refl (tables_same before.chart) (pairs_same before.chart)
          (record {
            pairs = pairs_outside n m v (put_outside n m v k GivenBack (not_here n before blocks sights e part here) refl place) born stored;
            tables = record { there = ap (λ fs. find (λ f. f.number == n) fs) maps; tables = ap (λ ts. filter (λ u. u.table.map == n) ts) tables };
          }) (shown.maps n before e))

    -- a table that it was is none from the root of such a map on
    pub table_gone : (to : Stage) (t : TableId) (p : Place) → ((n : ℕ) (before : Standing K) → s.maps n ≡ Some before → (u : ℕ) → before.chart.first ≤ u → u < before.chart.past → same_table (table_of n u) t ≡ false)
        → WaitOutside m t → ((n : ℕ) → is_in_map n p ≡ false) → v.place ≡ all_at p (behind t m.deferred) m.place → v.born ≡ m.born → v.maps ≡ m.maps → v.tables ≡ map (at_stage t to) m.tables → Goal
    table_gone to t p passed out outside place born maps tables = gone_so (λ n before blocks sights e part here.
        table_staged n (shown.number n) before m v known to t (pairs_outside n m v (all_outside n m v t p out (outside n) place) born stored) maps tables (passed n before e) (shown.maps n before e))

    -- and one that it was not lasting, or the counter of a map, is nothing to them
    pub still_gone : AreSame m v → Goal
    still_gone alike = gone_so (λ n before blocks sights e part here.
        map_on n (shown.number n) before before m v known known (blocks_same before.chart before.blocks)
        (λ b lasting. refl) refl (tables_same before.chart) (pairs_same before.chart) (alike_same n m v alike) (shown.maps n before e))
