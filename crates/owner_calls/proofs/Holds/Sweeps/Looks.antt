-- What can be looked at as a sweep takes a step stands in its block after it, be it a step of its own or one of a row of the collector.
use Rattle.std.specs.Prelude.{◌≡◌, ℕ, ◌<◌, ◌≤◌, Bool, true}
use Rattle.std.specs.Int.{IsPowerOfTwo}
use Rattle.std.proofs.Common.{refl, ap, sym, subst, ◌∙◌, inl, inr, arith}
use Rattle.seize_words.specs.OneMemory.Mem.{Mem, Took, value_at}
use Rattle.seize_words.specs.OneMemory.Plan.{Steps}
use Rattle.seize.specs.World.{World}
use Rattle.owner_whole.proofs.Given.SeizeAloneHistories.NotTaken.{IsKept, IsHeld, kept_value}
use Rattle.map_tables.specs.Nodes.{deferred_word}
use Rattle.map_tables.specs.declared.node.Node.{Node}
use Rattle.map_tables.specs.declared.setting.Setting.{Setting}
use Rattle.papaya_raw.specs.Given.SweepsSweep.{sweep_plan}
use Rattle.papaya_raw.specs.Given.ReservesDeclared.sweep.Sweep.{Sweep}
use Rattle.papaya_raw.specs.Given.ReservesDeclared.sweep.Swept.{Swept}
use Rattle.map_straight.specs.Given.RuleChart.{Chart}
use Rattle.map_straight.specs.Given.RuleInWorld.{IsOut, IsMapIn}
use Rattle.map_straight.specs.Given.RuleWords.{Blocks}
use Rattle.owner_whole.proofs.Given.PointsMovedLasts.{moved_lasts}
use Rattle.owner_whole.specs.Given.PointsSteps.{AreLawful}
use Rattle.owner_whole.specs.Given.LateToldSweeps.{IsRowOfSweep}
use Rattle.owner_whole.proofs.Given.CallersRows.Keep.{kept_block}
use Rattle.owner_whole.proofs.Given.CallersTogether.Came.{came_reached}
use Rattle.owner_whole.specs.Given.CallersKept.{IsKeptBy}
use Rattle.owner_whole.specs.Given.CallersOverAll.{CallOverAll, come_to, gone_on}
use Rattle.owner_whole.specs.Given.CallersSights.{Visible}
use Rattle.owner_whole.specs.Given.CallersTogether.{OverAll}
use Rattle.owner_whole.proofs.Whole.Sweeps.Leads.{sweep_decided}
use Rattle.owner_whole.proofs.Whole.Sweeps.Own as own
use Rattle.owner_whole.proofs.Whole.Sweeps.Rows as rows
use Rattle.owner_whole.specs.Whole.Owner.{IsAlone}
use Rattle.owner_whole.specs.Whole.WholeSweeps.{SweepLeads}

module _ {K V Q : Type 0} (same : K → K → Bool) (hash : K → ℕ) (asks : Q → K → Bool) (setting : Setting) (slot : ℕ → ℕ) (lawful : AreLawful same hash)
    (w : World (Node K V)) (c : Chart K) (blocks : Blocks) (sights : ℕ → Visible) (o : CallOverAll) (a : IsAlone {Q = Q} same hash asks setting slot w c blocks sights (OverAll o))
    (m2 : Mem (Node K V)) (p2 : Sweep) (end : Swept (Node K V)) (steps : Steps Took value_at w.memory (sweep_plan hash o.sweep) m2 (p2, end)) where
  -- where a step leads: what can be looked at still can be, and stands where it stood
  pub record Led : Type 0 where
    pub w2 : World (Node K V)
    pub c2 : Chart K
    pub blocks2 : Blocks
    pub sights2 : ℕ → Visible
    pub o2 : CallOverAll
    pub sweep : o2.sweep ≡ p2
    pub memory : w2.memory ≡ m2
    pub leads : SweepLeads {Q = Q} same hash asks setting slot w w2 c2 blocks2 sights2 o2 end
    pub stored : c.stored ≤ c2.stored
    pub looks : (n : ℕ) → n < c.stored → blocks.pair_known n ≡ true → (blocks2.pair_known n ≡ true) × (blocks2.pair n ≡ blocks.pair n) × (value_at m2 (blocks.pair n) ≡ value_at w.memory (blocks.pair n))

  whole : IsMapIn same hash setting w c blocks
  whole = a.together.ground.map

  module _ (none : IsRowOfSweep o.sweep.stands → ⊥) (initial : IsPowerOfTwo setting.initial) where
    own_led : Led
    own_led =
        let went = own.went same hash asks setting slot lawful w c blocks sights o a none initial m2 p2 end steps in
        let stepped = own.stepped same hash asks setting slot lawful w c blocks sights o a none initial m2 p2 end steps in
        let lasts = moved_lasts same hash (own.here same hash asks setting slot lawful w c blocks sights o a) lawful.lawful w c went.c2 (own.seen same hash asks setting slot lawful w c blocks sights o a)
        (own.map same hash asks setting slot lawful w c blocks sights o a) went.moved in
        record {
          w2 = went.w2;
          c2 = went.c2;
          blocks2 = stepped.blocks2;
          sights2 = stepped.sights2;
          o2 = come_to o stepped.entered2 stepped.done2 p2;
          sweep = refl;
          memory = went.memory;
          leads = own.leads same hash asks setting slot lawful w c blocks sights o a none initial m2 p2 end steps;
          stored = lasts.stored;
          looks = λ n low known.
              let there = (whole.map.shows.pairs n low known).2 in (
                (stepped.grown.pairs n low).1 ∙ known,
                (stepped.grown.pairs n low).0,
                went.frame.values (blocks.pair n) _ there (λ making. subst IsOut making.0 (whole.pairs_out n low known)) ∙ sym there,
              );
        }

  module _ (is_row : IsRowOfSweep o.sweep.stands) where
    row_led : Led
    row_led =
        let now = rows.now same hash asks setting slot lawful w c blocks sights o a is_row in
        let led = rows.led same hash asks setting slot lawful w c blocks sights o a is_row m2 p2 end steps in
        record {
          w2 = led.w2;
          c2 = c;
          blocks2 = blocks;
          sights2 = sights;
          o2 = gone_on o p2;
          sweep = refl;
          memory = led.memory;
          leads = rows.row_leads same hash asks setting slot lawful w c blocks sights o a is_row m2 p2 end steps;
          stored = omega arith;
          looks = λ n low known. (
            known,
            refl,
            ap (λ (y : Mem (Node K V)). value_at y (blocks.pair n)) (sym led.memory)
                ∙ kept_value deferred_word setting.batch_size now.v (came_reached setting.batch_size now.v now.together.ground.came) 0 led.w2 led.happened (blocks.pair n)
                (is_kept now.v (blocks.pair n) (now.together.ground.kept.pairs n low known))
                ∙ ap (λ (y : Mem (Node K V)). value_at y (blocks.pair n)) now.memory,
          );
        }
      where
        is_kept : (v : World (Node K V)) (b : ℕ) → IsKeptBy v b → IsKept b v
        is_kept v b (inl kept) = kept_block v b kept
        is_kept v b (inr (s, in_it, held)) = IsHeld s held

  pub led_on : IsPowerOfTwo setting.initial → Led
  led_on initial = elim (sweep_decided o.sweep.stands) as (λ _. Led) [
    | inl is_row ↦ row_led is_row
    | inr none ↦ own_led none initial
  ]
