-- Where a step of a call leads that is none of a row: its map, and all blocks, are shown at the moment after its effects, and other maps have not changed.
use Rattle.std.specs.Prelude.{◌≡◌, ◌≢◌, ℕ, suc, ◌+◌, ◌<◌, Bool, true, List, length, Option, Some, ◌⊎◌}
use Rattle.std.proofs.Common.{refl, ap, sym, subst, ◌∙◌, inl}
use Rattle.seize_words.specs.OneMemory.Mem.{Mem}
use Rattle.seize.specs.World.{World}
use Rattle.run_effects.specs.Given.TablesDeclared.node.Node.{Node}
use Rattle.run_effects.specs.Given.RunsDeclared.effect.Effect.{Effect}
use Rattle.run_effects.specs.Given.SchedulesEffects.{AtEachEffect, with_effects}
use Rattle.run_effects.specs.Given.SchedulesMoment.{Moment}
use Rattle.run_effects.specs.Given.RuleChart.{Chart}
use Rattle.run_effects.specs.Given.RuleWords.{Blocks}
use Rattle.run_effects.specs.Given.RuleInWorld.{IsMapIn, StepSpec}
use Rattle.many_maps.specs.Given.PointsSteps.{AreLawful}
use Rattle.many_maps.specs.Given.CallersSights.{Visible, seen_by, IsGrown, IsVisibility}
use Rattle.many_maps.specs.Given.CallersTogether.{in_slot}
use Rattle.many_maps.specs.Maps.{Standing}
use Rattle.run_effects.specs.Effects.Known.{Known}
use Rattle.run_effects.specs.declared.role.Role.{Role}
use Rattle.run_effects.specs.declared.role.Role.TheVariants as role
use Rattle.run_shows.specs.Follows.Blocks.{HasRole, RefinesBlocks}
use Rattle.run_shows.specs.Follows.Finds.{FindsMap}
use Rattle.run_shows.specs.Follows.Maps.{table_of, RefinesMap}
use Rattle.run_shows.proofs.Follows.Alike.{IsAlike, alike_same, still_all}
use Rattle.run_shows.proofs.Follows.Finds.{still_find}
use Rattle.run_shows.proofs.Follows.Onward.{IsOfMap, KeepsRoles, StaysTables, StaysPairs, blocks_grown, map_on}
use Rattle.run_shows.proofs.Follows.Told.{IsQuiet}

-- what a block may come to be by a step of a call on a map: the pair that is stored next, or the table that is linked next
abbrev pub IsNew : {K : Type 0} → ℕ → Chart K → Chart K → Blocks → Known → ℕ → Role → Type 0
IsNew map c c2 blocks known b (role.Pair n) = n ≡ known.stored + 1
IsNew map c c2 blocks known b (role.Table t len) = (t ≡ table_of map c.past) × (b ≡ blocks.table c.past) × (c2.past ≡ suc c.past)
IsNew map c c2 blocks known b _ = ⊥

module _ {K V : Type 0} (same : K → K → Bool) (slot caller map : ℕ) (name : Option (List ℕ)) (number : ℕ → ℕ) (s : Standing K) (lawful : AreLawful same s.hash)
    (w : World (Node K V)) (sight : Visible) (is_sight : IsVisibility s.chart s.blocks sight) (is_map : IsMapIn same s.hash (in_slot s.setting slot) w s.chart (seen_by s.blocks sight))
    (m2 : Mem (Node K V)) (Told : World (Node K V) → Chart K → Blocks → Type 0)
    (went : StepSpec same s.hash (in_slot s.setting slot) caller w s.chart (seen_by s.blocks sight) m2 Told) (blocks2 : Blocks) (grown : IsGrown s.chart s.blocks went.blocks2 blocks2) (sights2 : ℕ → Visible)
    (m : Moment K V) (known : Known) (shown : RefinesMap map number s m known) (shown_blocks : RefinesBlocks m known w) where
  -- the map after the step, and the moment after these effects
  abbrev pub after_step : Standing K
  after_step = record s { chart = went.c2; blocks = blocks2; sights = sights2 }

  abbrev pub led : List Effect → Moment K V
  led effects = with_effects name (Some map) effects m

  pub record LeadsOn (effects : List Effect) (after : Known) : Type 0 where
    pub finds : AtEachEffect (FindsMap map) name (Some map) effects m
    pub number_then : ℕ → ℕ
    pub numbers : (n : ℕ) → n < s.chart.stored → number_then n ≡ number n
    pub own : RefinesMap map number_then after_step (led effects) after
    pub others : (other : ℕ) → other ≢ map → IsAlike other m (led effects)
    pub keeps : KeepsRoles known after
    pub back : (b : ℕ) → IsOfMap (after.roles b) → (known.roles b ≡ after.roles b) ⊎ IsNew map s.chart went.c2 went.blocks2 known b (after.roles b)
    pub blocks : RefinesBlocks (led effects) after went.w2

  -- tables that the caller looks at have their roles
  pub tables_seen : (t : ℕ) → t < s.chart.past → sight.tables t ≡ true → known.roles (s.blocks.table t) ≡ role.Table (table_of map t) (s.chart.len t)
  tables_seen t l seen = shown.tables.roles t l (is_sight.tables t l seen)

  abbrev Quiet : List Effect → Known → Type 0
  Quiet = IsQuiet same s.hash (in_slot s.setting slot) caller w s.chart (seen_by s.blocks sight) m2 Told went is_map map m.stored known shown_blocks.roles shown_blocks.once tables_seen

  -- where nothing has moved
  pub leads_quiet : (effects : List Effect) (after : Known) → Quiet effects after → StaysTables s.chart went.c2 → StaysPairs s.chart went.c2 → LeadsOn effects after
  leads_quiet effects after quiet tables pairs =
      let alike = still_all name map effects m quiet.still in
      let as_many = ap length alike.stored in
      record {
        finds = still_find map name effects m quiet.still;
        number_then = number;
        numbers = λ n l. refl;
        own = map_on map number s after_step m (led effects) known after (blocks_grown s.chart s.blocks went.blocks2 blocks2 grown) quiet.keeps refl tables pairs (alike_same map m (led effects) alike) shown;
        others = λ other ne. alike_same other m (led effects) alike;
        keeps = quiet.keeps;
        back = λ b of. inl (quiet.back b of);
        blocks = record {
          roles = λ b. subst (λ (xs : List (K × V)). HasRole went.w2 xs b (after.roles b)) (sym alike.stored) (quiet.roles b);
          once = quiet.once;
          stored = quiet.stored ∙ shown_blocks.stored ∙ sym as_many;
        };
      }
